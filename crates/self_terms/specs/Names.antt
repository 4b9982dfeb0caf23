-- Names as numbers of texts: the texts that were given a name stand in a list, and the names count them from 1.
use Rattle.std.specs.Prelude.{◌≡◌, ℕ, zero, suc, List, [], ◌∷◌, ◌++◌, Option, Some, None, nat_eq, slice_get, if◌then◌else◌}
use Rattle.std.specs.List.{list_any}
use Rattle.std.specs.Cmp.Lexicographic.{pointwise}

-- the text of a name; the name 0 is given to no text
abbrev pub text_of : List (List ℕ) → ℕ → Option (List ℕ)
text_of texts zero = None
text_of texts (suc n) = slice_get texts n

-- the texts once a text was given a name: as they are if it had one, else with it at the end
abbrev pub with_text : List (List ℕ) → List ℕ → List (List ℕ)
with_text texts text = if list_any (pointwise nat_eq text) texts then texts else texts ++ text ∷ []

-- no text has two names
abbrev pub HasEachOnce : List (List ℕ) → Type 0
HasEachOnce texts = (m n : ℕ) (text : List ℕ) → text_of texts m ≡ Some text → text_of texts n ≡ Some text → m ≡ n
