-- Slots of an object: a list, each name once.
use Rattle.std.specs.Prelude.{ℕ, nat_eq, Bool, if◌then◌else◌, Option, None, Some, List, [], ◌∷◌, ◌++◌}
use Rattle.std.specs.List.{list_any}
use Rattle.self_terms.specs.declared.values.Datum.{Datum as Value}
use Rattle.world_build.specs.declared.slots.ToldContent.{ToldContent}
use Rattle.world_build.specs.declared.slots.ToldContent.TheVariants.{Constant as constant, Assignable as assignable, Assignment as assignment, Parent as parent, Method as method}
use Rattle.world_build.specs.declared.slots.ToldSlot.{ToldSlot}

abbrev pub slot_in : ℕ × ToldContent → ToldSlot
slot_in e = record { name = e.0; content = e.1 }

abbrev pub is_named : ℕ → ToldSlot → Bool
is_named n s = nat_eq n s.name

-- the first slot of a name
abbrev pub slot_of : ℕ → List ToldSlot → Option ToldContent
slot_of n [] = None
slot_of n (s ∷ ss) = if is_named n s then Some s.content else slot_of n ss

abbrev pub add_slot : List ToldSlot → ToldSlot → List ToldSlot
add_slot slots x = if list_any (is_named x.name) slots then slots else slots ++ x ∷ []

-- A path goes through data and parents, not through methods and assignment slots.
abbrev pub data_in : Option ToldContent → Option Value
data_in None = None
data_in (Some (constant v)) = Some v
data_in (Some (assignable v)) = Some v
data_in (Some assignment) = None
data_in (Some (parent v)) = Some v
data_in (Some (method b)) = None
