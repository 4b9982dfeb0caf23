-- Slots as the entries of a map that keeps their order.
use Rattle.std.proofs.Common.{◌≡◌, ℕ, zero, suc, true, false, List, [], ◌∷◌, ◌++◌, map, take, inl, inr, refl, ap, sym, subst, ◌∙◌}
use Rattle.std.specs.Prelude.{nat_eq, Option, Some, None, is_some, slice_get}
use Rattle.std.specs.List.{list_any, IsDistinct, AllByRecursion}
use Rattle.std.specs.Map.{keys_of}
use Rattle.std.specs.Map.{lookup}
use Rattle.std.proofs.lemmas.Bool.{cases_Bool, true≢false, ne_eqb, eqb-false}
use Rattle.world_build.specs.declared.slots.ToldContent.{ToldContent}
use Rattle.world_build.specs.declared.slots.ToldSlot.{ToldSlot}
use Rattle.world_build.specs.Slots.{slot_in, is_named, slot_of, add_slot}

abbrev pub Entries : Type 0
Entries = List (ℕ × ToldContent)

pub slot_found : (n : ℕ) (es : Entries) → slot_of n (map slot_in es) ≡ lookup (nat_eq n) es
slot_found n [] = refl
slot_found n (e ∷ es) = elim (cases_Bool (nat_eq n e.0)) [
  | inl h ↦ rw h refl
  | inr h ↦ rw h (slot_found n es)
]

slot_any : (n : ℕ) (es : Entries) → list_any (is_named n) (map slot_in es) ≡ is_some (lookup (nat_eq n) es)
slot_any n [] = refl
slot_any n (e ∷ es) = elim (cases_Bool (nat_eq n e.0)) [
  | inl h ↦ rw h refl
  | inr h ↦ rw h (slot_any n es)
]

slots_append : (es : Entries) (e : ℕ × ToldContent) → map slot_in (es ++ e ∷ []) ≡ map slot_in es ++ slot_in e ∷ []
slots_append [] e = refl
slots_append (x ∷ es) e = ap (λ z. slot_in x ∷ z) (slots_append es e)

none_of : (o : Option ToldContent) → is_some o ≡ false → o ≡ None
none_of None e = refl
none_of (Some x) e = absurd (true≢false e)

-- a slot that is there stays alone
pub slot_there : (slots : List ToldSlot) (es : Entries) (x : ToldSlot) → map slot_in es ≡ slots → is_some (lookup (nat_eq x.name) es) ≡ true → slots ≡ add_slot slots x
slot_there slots es x e t =
    let any : list_any (is_named x.name) slots ≡ true = subst (λ (z : List ToldSlot). list_any (is_named x.name) z ≡ true) e (slot_any x.name es ∙ t) in
    rw any refl

pub slot_missing : (es : Entries) (x : ToldSlot) → is_some (lookup (nat_eq x.name) es) ≡ false → lookup (nat_eq x.name) es ≡ None
slot_missing es x t = none_of (lookup (nat_eq x.name) es) t

-- a new one goes last
pub slot_added : (slots : List ToldSlot) (es new : Entries) (x : ToldSlot) → map slot_in es ≡ slots → is_some (lookup (nat_eq x.name) es) ≡ false → new ≡ es ++ (x.name, x.content) ∷ [] → map slot_in new ≡ add_slot slots x
slot_added slots es new x e t f =
    let any : list_any (is_named x.name) slots ≡ false = subst (λ (z : List ToldSlot). list_any (is_named x.name) z ≡ false) e (slot_any x.name es ∙ t) in
    rw any (ap (map slot_in) f ∙ slots_append es (x.name, x.content) ∙ ap (λ (z : List ToldSlot). z ++ x ∷ []) e)

-- Each name stands once.

some_slot : (x y : ToldSlot) → ◌≡◌ {A = Option ToldSlot} (Some x) (Some y) → x ≡ y
some_slot x y e = cc

named_none : (slots : List ToldSlot) (n : ℕ) (x : ToldSlot) → nat_eq x.name n ≡ false → slot_of n slots ≡ None → slot_of n (x ∷ slots) ≡ None
named_none slots n x e f =
    let other : nat_eq n x.name ≡ false = ne_eqb n x.name (λ p. eqb-false x.name n e (sym p)) in
    rw (other, f) refl

other_name : (es : Entries) (n : ℕ) (at : ℕ) (s : ToldSlot) → AllByRecursion (λ k. nat_eq n k ≡ false) (keys_of es) → slice_get (map slot_in es) at ≡ Some s → nat_eq n s.name ≡ false
other_name [] n at s a e = cc
other_name (x ∷ es) n zero s a e = subst (λ (y : ToldSlot). nat_eq n y.name ≡ false) (some_slot _ _ e) a.0
other_name (x ∷ es) n (suc at) s a e = other_name es n at s a.1 e

-- in front of a slot stands none of its name
pub none_in_front : (es : Entries) (at : ℕ) (s : ToldSlot) → IsDistinct nat_eq (keys_of es) → slice_get (map slot_in es) at ≡ Some s → slot_of s.name (take at (map slot_in es)) ≡ None
unfolding IsDistinct
none_in_front [] at s d e = cc
none_in_front (x ∷ es) zero s d e = refl
none_in_front (x ∷ es) (suc at) s d e = named_none (take at (map slot_in es)) s.name (slot_in x) (other_name es x.0 at s d.0 e) (none_in_front es at s d.1 e)
