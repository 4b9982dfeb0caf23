-- Bodies, and their locals as they are found.
use Rattle.std.specs.Prelude.{ℕ, ◌+◌, ◌-◌, nat_eq, Bool, true, false, if◌then◌else◌, Option, None, Some, List, [], ◌∷◌, ◌++◌, map, slice_get, slice_set}
use Rattle.self_terms.specs.declared.nodes.Node.{Node}
use Rattle.self_terms.specs.declared.nodes.Place.{Place}
use Rattle.self_terms.specs.declared.bodies.Local.{Local}
use Rattle.self_terms.specs.declared.bodies.Body.{Body}

abbrev pub change_body : (Body → Body) → Option Body → List Body → ℕ → List Body
change_body f None bodies at = bodies
change_body f (Some x) bodies at = slice_set bodies at (f x)

-- the bodies with that of a number changed
abbrev pub changed : (Body → Body) → List Body → ℕ → List Body
changed f bodies b = change_body f (slice_get bodies (b - 1)) bodies (b - 1)

abbrev pub add_node : Node → Place → Body → Body
add_node n p b = record b { nodes = b.nodes ++ n ∷ []; places = b.places ++ p ∷ [] }

abbrev pub add_argument : ℕ → Body → Body
add_argument n b = record b { arguments = b.arguments ++ n ∷ [] }

abbrev pub add_local : Local → Body → Body
add_local x b = record b { locals = b.locals ++ x ∷ [] }

abbrev pub with_name : ℕ → Body → Body
with_name n b = record b { name = Some n }

-- A local as it is found: by its name, and by the name that assigns it.
pub record Entry : Type 0 where
  pub name : ℕ
  pub setter : Option ℕ

abbrev pub argument_entry : ℕ → Entry
argument_entry n = record { name = n; setter = None }

abbrev pub local_entry : Local → Entry
local_entry x = record { name = x.name; setter = x.setter }

-- the locals of a body: arguments first
abbrev pub entries : Body → List Entry
entries b = map argument_entry b.arguments ++ map local_entry b.locals

abbrev pub is_named : ℕ → Entry → Bool
is_named n e = nat_eq e.name n

abbrev pub is_setter : ℕ → Option ℕ → Bool
is_setter n None = false
is_setter n (Some s) = nat_eq s n

abbrev pub is_set_by : ℕ → Entry → Bool
is_set_by n e = is_setter n e.setter

-- the number of the first local that passes
abbrev pub number_of : (Entry → Bool) → ℕ → List Entry → Option ℕ
number_of p i [] = None
number_of p i (e ∷ es) = if p e then Some i else number_of p (i + 1) es

-- by its name, or by the name that assigns it
abbrev pub sought : Bool → ℕ → Entry → Bool
sought false n = is_named n
sought true n = is_set_by n

abbrev pub entries_at : Option Body → List Entry
entries_at None = []
entries_at (Some b) = entries b

-- the locals of the body of a number
abbrev pub entries_of : List Body → ℕ → List Entry
entries_of bodies b = entries_at (slice_get bodies (b - 1))

abbrev pub is_some : Option ℕ → Bool
is_some None = false
is_some (Some n) = true

-- a block's body has one around it
abbrev pub is_block : Option Body → Bool
is_block None = false
is_block (Some b) = is_some b.outer

-- the body of a number
abbrev pub body_at : List Body → Option ℕ → Option Body
body_at bodies None = None
body_at bodies (Some b) = slice_get bodies (b - 1)
