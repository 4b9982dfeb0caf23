-- Whose slots a list has, as the code says it.
use Rattle.std.specs.Prelude.{ℕ, nat_eq, Bool, List}
use Rattle.std.specs.List.{list_any}
use Rattle.std.specs.Cmp.Lexicographic.{pointwise}
use Rattle.self_grammar.specs.Scopes as s
use Rattle.reader_states.specs.declared.scopes.Owner.{Owner}
use Rattle.reader_states.specs.declared.scopes.Owner.TheVariants as owner

abbrev pub owner_in : Owner → s.Owner
owner_in owner.Holder = s.holder
owner_in owner.Either = s.either
owner_in owner.Activation = s.activation

-- the name is in a list
abbrev pub has_name : List (List ℕ) → List ℕ → Bool
has_name names n = list_any (pointwise nat_eq n) names
