-- Slots that are told.
use Rattle.std.proofs.Common.{◌≡◌, ℕ, zero, suc, ◌+◌, ◌<◌, true, false, List, [], ◌∷◌, ◌++◌, length, get_or, map, take, drop, inl, inr, refl, ap, sym, subst, ◌∙◌, append_assoc, arith}
use Rattle.std.specs.Prelude.{nat_eq, Option, Some, None, slice_get}
use Rattle.std.proofs.lemmas.Bool.{cases_Bool, ne_eqb, eqb-false}
use Rattle.std.proofs.lemmas.Option.{slice_get-get_or}
use Rattle.source_model.specs.declared.objects.Slot.{Slot}
use Rattle.source_model.specs.declared.objects.Thing.{Thing}
use Rattle.source_model.specs.Slots.{slot_named, AreNamedOnce}
use Rattle.source_model.specs.declared.objects.Core.{Core}
use Rattle.world_build.specs.declared.slots.ToldContent.{ToldContent}
use Rattle.world_build.specs.declared.slots.ToldSlot.{ToldSlot}
use Rattle.world_build.specs.declared.things.ToldThing.{ToldThing}
use Rattle.world_build.specs.Slots.{slot_of}
use Rattle.world_build.specs.Telling.{slot_from, thing_of}
use Rattle.world_build.proofs.Fronts.{drop_there}

never : (c : ToldContent) → ◌≡◌ {A = Option ToldContent} (Some c) None → ⊥
never c e = cc

none_told : (core : Core) (n : ℕ) (xs : List ToldSlot) → slot_of n xs ≡ None → slot_named n (map (slot_from core) xs) ≡ None
none_told core n [] e = refl
none_told core n (x ∷ xs) e = elim (cases_Bool (nat_eq n x.name)) [
  | inl h ↦ absurd (never x.content (rw h at e))
  | inr h ↦
      let other : nat_eq x.name n ≡ false = ne_eqb x.name n (λ p. eqb-false n x.name h (sym p)) in
      rw other (none_told core n xs (rw h at e))
]

take_told : (core : Core) (at : ℕ) (xs : List ToldSlot) → take at (map (slot_from core) xs) ≡ map (slot_from core) (take at xs)
take_told core zero xs = refl
take_told core (suc at) [] = refl
take_told core (suc at) (x ∷ xs) = ap (λ ys. slot_from core x ∷ ys) (take_told core at xs)

record GotTold (core : Core) (xs : List ToldSlot) (at : ℕ) (x : Slot) : Type 0 where
  slot : ToldSlot
  there : slice_get xs at ≡ Some slot
  is : x ≡ slot_from core slot

got_told : (core : Core) (xs : List ToldSlot) (at : ℕ) (x : Slot) → slice_get (map (slot_from core) xs) at ≡ Some x → GotTold core xs at x
got_told core [] at x e = cc
got_told core (y ∷ xs) zero x e = let same : x ≡ slot_from core y = cc in record { slot = y; there = refl; is = same }
got_told core (y ∷ xs) (suc at) x e = let g = got_told core xs at x e in record { slot = g.slot; there = g.there; is = g.is }

-- slots whose names stand once are told as such
pub once_told : (core : Core) (slots : List ToldSlot) → ((at : ℕ) (s : ToldSlot) → slice_get slots at ≡ Some s → slot_of s.name (take at slots) ≡ None) → AreNamedOnce (map (slot_from core) slots)
once_told core slots h at x e =
    let g = got_told core slots at x e in
    ap (λ (y : Slot). slot_named y.name (take at (map (slot_from core) slots))) g.is
    ∙ ap (slot_named g.slot.name) (take_told core at slots)
    ∙ none_told core g.slot.name (take at slots) (h at g.slot g.there)

-- one slot more
pub slot_more : (core : Core) (list new : List Slot) (slots : List ToldSlot) (at : ℕ) (s : ToldSlot) → slice_get slots at ≡ Some s → new ≡ list ++ slot_from core s ∷ []
    → new ++ map (slot_from core) (drop (at + 1) slots) ≡ list ++ map (slot_from core) (drop at slots)
slot_more core list new slots at s e f =
    ap (λ xs. xs ++ map (slot_from core) (drop (at + 1) slots)) f
    ∙ append_assoc list (slot_from core s ∷ []) (map (slot_from core) (drop (at + 1) slots))
    ∙ ap (λ xs. list ++ map (slot_from core) xs) (sym (drop_there slots at s e))

-- one thing more
pub thing_more : (core : Core) (things new : List Thing) (told : List ToldThing) (at : ℕ) (d : ToldThing) → at < length told → new ≡ things ++ thing_of core (get_or told at d) ∷ []
    → new ++ map (thing_of core) (drop (at + 1) told) ≡ things ++ map (thing_of core) (drop at told)
thing_more core things new told at d h f =
    ap (λ xs. xs ++ map (thing_of core) (drop (at + 1) told)) f
    ∙ append_assoc things (thing_of core (get_or told at d) ∷ []) (map (thing_of core) (drop (at + 1) told))
    ∙ ap (λ xs. things ++ map (thing_of core) xs) (sym (drop_there told at (get_or told at d) (slice_get-get_or told at d h)))

pub is_there : {X : Type 0} (xs : List X) (at : ℕ) → at < length xs → slice_get xs at ≡ None → ⊥
is_there [] at h e = absurd (omega arith)
is_there (x ∷ xs) zero h e = cc
is_there (x ∷ xs) (suc at) h e = is_there xs at (omega arith) e
