-- What is answered of the signs of a text.
use Rattle.std.specs.Prelude.{◌≡◌, ℕ, true, Result, Ok, Err, List, [], ◌∷◌, codes}
use Rattle.self_grammar.specs.declared.signs.Sign.{Sign}
use Rattle.self_grammar.specs.declared.pieces.Item.{Item}
use Rattle.self_grammar.specs.Counts.{Mark}
use Rattle.self_grammar.specs.Refusal.{IsText, IsRefused}
use Rattle.self_grammar.specs.Spelling.{items_of}
use Rattle.self_signs.specs.Signs.{is_last}
use Rattle.self_reader.specs.declared.stops.ReadStop.{ReadStop}
use Rattle.self_reader.specs.declared.stops.ReadStop.TheVariants as stops

-- The last of these signs is the end or a fault.
abbrev pub IsWhole : List Sign → Type 0
IsWhole [] = ⊥
IsWhole (x ∷ []) = is_last x.symbol ≡ true
IsWhole (x ∷ y ∷ ys) = IsWhole (y ∷ ys)

-- These items are those of a text with nothing wrong, which the signs spell.
abbrev pub AreRead : (T : Type 0) → (T → List Mark) → List Sign → List Item → Type 0
AreRead T marks given items = (t : T) × IsText marks given t × (items ≡ items_of (marks t))

-- These items are answered, unless memory runs out.
abbrev pub IsAnswered : {A : Type 0} → (A → List Item) → Result A ReadStop → List Item → Type 0
IsAnswered view (Ok a) items = view a ≡ items
IsAnswered view (Err stops.OutOfMemory) items = Unit {0}
IsAnswered view (Err (stops.Refused r)) items = ⊥

-- A refusal stands at the first sign at which something is wrong, for what is wrong there first.
abbrev pub IsRight : (T : Type 0) → (T → List Mark) → List Sign → ReadStop → Type 0
IsRight T marks given stops.OutOfMemory = Unit {0}
IsRight T marks given (stops.Refused r) = IsRefused T marks given r

abbrev pub IsRightlyRefused : {A : Type 0} → (T : Type 0) → (T → List Mark) → List Sign → Result A ReadStop → Type 0
IsRightlyRefused T marks given (Ok a) = Unit {0}
IsRightlyRefused T marks given (Err stop) = IsRight T marks given stop

-- A refusal leaves this so.
abbrev pub OnRefusal : {A : Type 0} → Result A ReadStop → Type 0 → Type 0
OnRefusal (Err (stops.Refused r)) so = so
OnRefusal _ so = Unit {0}

-- the names that the system itself knows, before those of a text
abbrev pub known : List (List ℕ)
known = codes "_IntAdd:" ∷ codes "_IntSub:" ∷ []
