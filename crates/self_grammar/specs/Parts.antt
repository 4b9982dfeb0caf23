-- Names in parts.
use Rattle.std.specs.Prelude.{ℕ, List, [], ◌∷◌}
use Rattle.self_grammar.specs.declared.pieces.Words.{Words}
use Rattle.self_grammar.specs.declared.pieces.Words.TheVariants as words

abbrev pub parts_in : Words → List ℕ
parts_in (words.One a) = a ∷ []
parts_in (words.Two a b) = a ∷ b ∷ []
parts_in (words.Three a b c) = a ∷ b ∷ c ∷ []
parts_in (words.Four a b c d) = a ∷ b ∷ c ∷ d ∷ []
parts_in (words.Five a b c d e) = a ∷ b ∷ c ∷ d ∷ e ∷ []

-- One part more; a sixth is refused where it stands.
abbrev pub followed_by : Words → ℕ → Words
followed_by (words.One a) p = words.Two a p
followed_by (words.Two a b) p = words.Three a b p
followed_by (words.Three a b c) p = words.Four a b c p
followed_by (words.Four a b c d) p = words.Five a b c d p
followed_by (words.Five a b c d e) p = words.Five a b c d e

-- the name without its last part
abbrev pub but_last : Words → Words
but_last (words.One a) = words.One a
but_last (words.Two a b) = words.One a
but_last (words.Three a b c) = words.Two a b
but_last (words.Four a b c d) = words.Three a b c
but_last (words.Five a b c d e) = words.Four a b c d

-- how many parts there are
abbrev pub count_of : Words → ℕ
count_of (words.One a) = 1
count_of (words.Two a b) = 2
count_of (words.Three a b c) = 3
count_of (words.Four a b c d) = 4
count_of (words.Five a b c d e) = 5
