-- A local of an edit's text that holds a string at first holds one of the text's strings.
use Rattle.std.specs.Prelude.{◌≡◌, ℕ, ◌+◌, ◌<◌, ◌≤◌, ◌==◌, Bool, true, false, if◌then◌else◌, Option, None, Some, List, [], ◌∷◌, ◌++◌, length, map, filter, ℤ}
use Rattle.std.proofs.Common.{sym, subst, arith, length-append}
use Rattle.self_terms.specs.declared.bodies.Body.{Body}
use Rattle.self_terms.specs.declared.bodies.Local.{Local}
use Rattle.self_grammar.specs.declared.pieces.TextNode.{TextNode}
use Rattle.self_grammar.specs.declared.pieces.TextNode.TheVariants as text
use Rattle.self_grammar.specs.declared.pieces.SlotForm.{SlotForm}
use Rattle.self_grammar.specs.declared.pieces.SlotForm.TheVariants as form
use Rattle.self_grammar.specs.declared.pieces.Item.{Item}
use Rattle.self_grammar.specs.declared.pieces.Item.TheVariants as items
use Rattle.source_model.specs.Canon.{Each}
use Rattle.source_model.specs.Edits.{Initial, Number, String, Path, Nothing, BodyText, SlotText}
use Rattle.source_model.specs.Told.{InitialFits}
use Rattle.world_build.specs.SlotTexts.{longer, initial_for, local_told, slot_of, slot_text, locals_with, initials_of, body_texts}
use Rattle.slot_text.proofs.TextLemmas.{texts_of_strings}
use Rattle.edit_formed.proofs.State.{State, first, strung, closes, next, all_next, nothing_read, all_shown}

-- Contents, of so many strings.

abbrev Fits : ℕ → Initial → Type 0
Fits n x = (k : ℕ) → x ≡ String k → k < n

nothing_fits : (n : ℕ) → Fits n Nothing
nothing_fits n k e = cc

number_fits : (n : ℕ) (z : ℤ) → Fits n (Number z)
number_fits n z k e = cc

path_fits : (n : ℕ) (names : List ℕ) → Fits n (Path names)
path_fits n names k e = cc

longer_fits : (n : ℕ) (x : Initial) (m : ℕ) → Fits n x → Fits n (longer x m)
longer_fits n (Number z) m h = h
longer_fits n (String k) m h = h
longer_fits n (Path names) m h = path_fits n (names ++ m ∷ [])
longer_fits n Nothing m h = h

for_fits : (n : ℕ) (f : SlotForm) (x : Initial) → Fits n x → Fits n (initial_for f x)
for_fits n form.Constant x h = h
for_fits n (form.Assignable setter) x h = h
for_fits n (form.Bare setter) x h = nothing_fits n
for_fits n form.Parent x h = h
for_fits n form.Method x h = h

more_fits : (n m : ℕ) (x : Initial) → n ≤ m → Fits n x → Fits m x
more_fits n m x le h k e = let lt : k < n = h k e in omega arith

abbrev AllFit : ℕ → List (ℕ × Initial) → Type 0
AllFit n all = Each (λ (x : ℕ × Initial). Fits n x.1) all

more_all : (n m : ℕ) (all : List (ℕ × Initial)) → n ≤ m → AllFit n all → AllFit m all
more_all n m [] le h = tt
more_all n m (x ∷ all) le h = (more_fits n m x.1 le h.0, more_all n m all le h.1)

all_append : (n b : ℕ) (x : Initial) (all : List (ℕ × Initial)) → AllFit n all → Fits n x → AllFit n (all ++ (b, x) ∷ [])
all_append n b x [] h f = (f, tt)
all_append n b x (y ∷ all) h f = (h.0, all_append n b x all h.1 f)

told_fits : (n : ℕ) (o : Option ℕ) (x : Initial) (all : List (ℕ × Initial)) → AllFit n all → Fits n x → AllFit n (local_told o x all)
told_fits n None x all h f = h
told_fits n (Some b) x all h f = all_append n b x all h f

-- What was read so far.
record Strung (s : State) : Type 0 where
  held : Fits (length s.strings) s.held
  all : AllFit (length s.strings) s.initials

one_more : (xs : List (List ℕ)) (x : List ℕ) → length xs < length (xs ++ x ∷ [])
one_more xs x = omega (arith, length-append xs (x ∷ []))

string_is : (j k : ℕ) → ◌≡◌ {A = Initial} (String j) (String k) → j ≡ k
string_is j k e = cc

pub strung_more : (bytes : List ℕ) (n : TextNode) (strings : List (List ℕ)) → length strings ≤ length (strung bytes n strings)
strung_more bytes (text.Integer z) strings = omega arith
strung_more bytes (text.Text i j) strings = omega (arith, length-append strings)
strung_more bytes text.Block strings = omega arith
strung_more bytes text.Itself strings = omega arith
strung_more bytes text.Nil strings = omega arith
strung_more bytes (text.Message to w args) strings = omega arith
strung_more bytes (text.Primitive w args receiver handler) strings = omega arith
strung_more bytes text.Drop strings = omega arith
strung_more bytes text.Restart strings = omega arith
strung_more bytes text.Return strings = omega arith
strung_more bytes text.End strings = omega arith

closes_strung : (around : List ℕ) (s : State) → Strung s → Strung (closes around s)
closes_strung [] s h = h
closes_strung (b ∷ around) s h = record { held = h.held; all = h.all }

step : (bytes : List ℕ) (i : Item) (s : State) → Strung s → Strung (next bytes i s)
step bytes (items.Node m) s h =
    let le : length s.strings ≤ length (strung bytes m.node s.strings) = strung_more bytes m.node s.strings in
    record { held = more_fits (length s.strings) (length (strung bytes m.node s.strings)) s.held le h.held; all = more_all (length s.strings) (length (strung bytes m.node s.strings)) s.initials le h.all }
step bytes (items.Opened p) s h = record { held = h.held; all = h.all }
step bytes items.ClosedObject s h = h
step bytes items.ClosedBody s h = closes_strung s.around s h
step bytes (items.Integer z) s h = record { held = number_fits (length s.strings) z; all = h.all }
step bytes (items.Text i j) s h =
    let u : State = next bytes (items.Text i j) s in
    let lt : length s.strings < length u.strings = one_more s.strings _ in
    record {
      held = λ k e. subst (λ x. x < length u.strings) (string_is (length s.strings) k e) lt;
      all = more_all (length s.strings) (length u.strings) s.initials (omega arith) h.all;
    }
step bytes (items.Root n p) s h = record { held = path_fits (length s.strings) (n ∷ []); all = h.all }
step bytes (items.Further n p) s h = record { held = longer_fits (length s.strings) s.held n h.held; all = h.all }
step bytes (items.Argument n) s h = record { held = h.held; all = h.all }
step bytes (items.Named n) s h = record { held = h.held; all = h.all }
step bytes (items.Slot w f p) s h =
    record { held = nothing_fits (length s.strings); all = told_fits (length s.strings) (first s.around) (initial_for f s.held) s.initials h.all (for_fits (length s.strings) f s.held h.held) }

all_strung : (bytes : List ℕ) (is : List Item) (s : State) → Strung s → Strung (all_next bytes is s)
all_strung bytes [] s h = h
all_strung bytes (i ∷ is) s h = all_strung bytes is (next bytes i s) (step bytes i s h)

-- The slot.

initials_fit : (n b : ℕ) (all : List (ℕ × Initial)) → AllFit n all → Each (Fits n) (initials_of b all)
initials_fit n b [] h = tt
initials_fit n b (x ∷ all) h = by (x.0 == b) (initials_fit n b all h.1)
  where
    by : (y : Bool) → Each (Fits n) (initials_of b all) → Each (Fits n) (map (λ (z : ℕ × Initial). z.1) (if y then x ∷ filter (λ (z : ℕ × Initial). z.0 == b) all else filter (λ (z : ℕ × Initial). z.0 == b) all))
    by true rest = (h.0, rest)
    by false rest = rest

locals_fit : (n : ℕ) (xs : List Local) (all : List Initial) → Each (Fits n) all → Each (InitialFits n) (locals_with xs all)
locals_fit n [] all h = tt
locals_fit n (x ∷ xs) [] h = tt
locals_fit n (x ∷ xs) (i ∷ all) h = (h.0, locals_fit n xs all h.1)

bodies_fit : (n : ℕ) (all : List (ℕ × Initial)) (k : ℕ) (bodies : List Body) → AllFit n all → Each (λ (b : BodyText). Each (InitialFits n) b.locals) (body_texts all k bodies)
bodies_fit n all k [] h = tt
bodies_fit n all k (b ∷ bodies) h = (locals_fit n b.locals (initials_of k all) (initials_fit n k all h), bodies_fit n all (k + 1) bodies h)

abbrev Given : SlotText → Type 0
Given t = Each (λ (b : BodyText). Each (InitialFits (length t.strings)) b.locals) t.bodies

pub strings_there : (names : List (List ℕ)) (bytes : List ℕ) (is : List Item) → Given (slot_text names bytes is)
strings_there names bytes is =
    let s : State = all_next bytes is (nothing_read names) in
    let h = all_strung bytes is (nothing_read names) (record { held = nothing_fits 0; all = tt }) in
    subst (λ t. Given (slot_of t)) (sym (all_shown bytes is (nothing_read names)))
    (subst (λ ss. Each (λ (b : BodyText). Each (InitialFits (length ss)) b.locals) (body_texts s.initials 1 s.bodies)) (sym (texts_of_strings s.strings))
    (bodies_fit (length s.strings) s.initials 1 s.bodies h.all))
