-- A list of slots while it is read: the names that it has, and what is known of it as the slots of a method.
use Rattle.std.specs.Prelude.{ℕ, ◌+◌, nat_le, nat_eq, Bool, true, false, not, ◌&&◌, if◌then◌else◌, Option, None, Some, List, [], ◌∷◌, ◌++◌}
use Rattle.std.specs.List.{list_any}
use Rattle.std.specs.Cmp.Lexicographic.{pointwise}
use Rattle.self_grammar.specs.declared.signs.Spot.{Spot}
use Rattle.self_grammar.specs.declared.signs.ReadKind.TheVariants as kind
use Rattle.self_grammar.specs.Counts.{Breach, Limits, here, there, when}

-- Whose slots they are: a world's or an object's, those of what may yet be an object or a method, or surely a method's or block's.
pub data Owner : Type 0 where
  holder : Owner
  either : Owner
  activation : Owner

-- A name is the list of its parts, one for all but the keywords.
pub record Scope : Type 0 where
  pub owner : Owner
  pub names : List (List ℕ)
  pub arguments : ℕ
  pub locals : ℕ
  -- all of them are slots that a method may have
  pub plain : Bool
  -- the first local beyond the limit
  pub beyond : Option Spot

abbrev pub scope : Owner → Scope
scope owner = record { owner = owner; names = []; arguments = 0; locals = 0; plain = true; beyond = None }

abbrev pub has : Scope → List ℕ → Bool
has s n = list_any (pointwise nat_eq n) s.names

-- the names with one more, each once
abbrev pub with_name : List (List ℕ) → List ℕ → List (List ℕ)
with_name names n = if list_any (pointwise nat_eq n) names then names else names ++ n ∷ []

abbrev pub named : List ℕ → Scope → Scope
named n s = record s { names = with_name s.names n }

abbrev pub with_argument : List ℕ → Scope → Scope
with_argument n s = record s { names = with_name s.names n; arguments = s.arguments + 1 }

abbrev pub first_beyond : Option Spot → Spot → Bool → Option Spot
first_beyond (Some q) p over = Some q
first_beyond None p true = Some p
first_beyond None p false = None

-- one more slot that is no argument, which begins there
abbrev pub with_local : Limits → Spot → Scope → Scope
with_local l p s = record s { locals = s.locals + 1; beyond = first_beyond s.beyond p (not (nat_le (s.locals + 1) l.locals)) }

abbrev pub not_plain : Scope → Scope
not_plain s = record s { plain = false }

abbrev pub is_activation : Owner → Bool
is_activation holder = false
is_activation either = false
is_activation activation = true

-- The name is there already.
abbrev pub again : Scope → List ℕ → Spot → List Breach
again s n p = when (has s n) (there kind.DuplicateSlot p)

-- One more argument is too many.
abbrev pub too_many_arguments : Limits → ℕ → List Breach
too_many_arguments l n = when (not (nat_le (n + 1) l.arguments)) (here kind.TooManyArgs)

-- One more local is too many, where this is known at once.
abbrev pub too_many_locals : Limits → Scope → List Breach
too_many_locals l s = when (is_activation s.owner && not (nat_le (s.locals + 1) l.locals)) (here kind.TooManyLocals)

-- too many locals of what turns out to be a method
abbrev pub beyond_breach : Option Spot → List Breach
beyond_breach None = []
beyond_breach (Some p) = there kind.TooManyLocals p ∷ []

abbrev pub late_locals : Scope → List Breach
late_locals s = if is_activation s.owner then [] else beyond_breach s.beyond
