-- That each name stands once among slots, said of two slots at a time.
use Rattle.std.proofs.Common.{◌≡◌, ℕ, zero, suc, ap, sym, subst, refl, ◌∙◌, Bool, true, false, [], ◌∷◌, take}
use Rattle.std.specs.Prelude.{slice_get, Option, Some, None, cond}
use Rattle.std.proofs.lemmas.Bool.{eq-eqb, ne_eqb}
use Rattle.source_model.specs.Objects.{Object, Slot, slot_named, has_name, AreNamedOnce}
use Rattle.source_model.specs.Canon.{Each}
use Rattle.source_model.proofs.Keeping.{slice_each, InSome}

abbrev pub AreApart : Object → Type 0
AreApart [] = Unit {0}
AreApart (x ∷ more) = Each (λ (y : Slot). y.name ≡ x.name → ⊥) more × AreApart more

each_of : (P : Slot → Type 0) (xs : Object) → ((k : ℕ) (y : Slot) → slice_get xs k ≡ Some y → P y) → Each P xs
each_of P [] h = tt
each_of P (x ∷ xs) h = (h 0 x refl, each_of P xs (λ k y e. h (suc k) y e))

some_none : (x : Slot) → ◌≡◌ {A = Option Slot} (Some x) None → ⊥
some_none x e = cc

none_first : (n : ℕ) (x : Slot) (rest : Object) → slot_named n (x ∷ rest) ≡ None → x.name ≡ n → ⊥
none_first n x rest e same = some_none x (sym (ap (λ (b : Bool). cond b (Some x) (slot_named n rest)) (eq-eqb x.name n same)) ∙ e)

none_rest : (x : Slot) (m : Option Slot) (b : Bool) → cond b (Some x) m ≡ None → m ≡ None
none_rest x m true e = absurd (some_none x e)
none_rest x m false e = e

pub to_apart : (slots : Object) → AreNamedOnce slots → AreApart slots
to_apart [] h = tt
to_apart (x ∷ xs) h = (
  each_of (λ (y : Slot). y.name ≡ x.name → ⊥) xs (λ k y e same. none_first y.name x (take k xs) (h (suc k) y e) (sym same)),
  to_apart xs (λ k y e. none_rest x (slot_named y.name (take k xs)) (has_name y.name x) (h (suc k) y e)),
)

apart_at : (xs : Object) (k : ℕ) (y : Slot) → slice_get xs k ≡ Some y → (n : ℕ) → Each (λ (z : Slot). z.name ≡ n → ⊥) xs → y.name ≡ n → ⊥
apart_at xs k y e n h = subst (InSome (λ (z : Slot). z.name ≡ n → ⊥)) e (slice_each (λ (z : Slot). z.name ≡ n → ⊥) xs k h)

apart_from : (slots : Object) → AreApart slots → (at : ℕ) (x : Slot) → slice_get slots at ≡ Some x → slot_named x.name (take at slots) ≡ None
apart_from [] h at x e = absurd (cc)
apart_from (x ∷ xs) h zero y e = refl
apart_from (x ∷ xs) h (suc k) y e =
    let other : y.name ≡ x.name → ⊥ = apart_at xs k y e x.name h.0 in
    ap (λ (b : Bool). cond b (Some x) (slot_named y.name (take k xs))) (ne_eqb x.name y.name (λ same. other (sym same))) ∙ apart_from xs h.1 k y e

pub from_apart : (slots : Object) → AreApart slots → AreNamedOnce slots
from_apart slots h = apart_from slots h
