use Rattle.std.proofs.Common.{◌≡◌, ◌<◌, ◌+◌, ◌⊎◌, inl, inr, ℕ, zero, suc, List, slice_get, Some, get_or, refl, ap, sym, arith}
use Rattle.std.proofs.lemmas.Option.{get_or_from_slice_get, slice_get_within}
use Rattle.object_maps.specs.Slots.{Slots}
use Rattle.object_maps.specs.Sound.{IsObject}
use Rattle.sparc_store.specs.Words.{Words}
use Rattle.object_maps.proofs.sound.are_objects.Goals as goal

below : (k n : ℕ) → k < n + 1 → (k < n) ⊎ (k ≡ n)
below zero zero h = inr refl
below zero (suc n) h = inl (omega arith)
below (suc k) zero h = absurd (omega arith)
below (suc k) (suc n) h = elim (below k n (omega arith)) [ inl lt ↦ inl (omega arith) | inr e ↦ inr (ap suc e) ]

module _ (maps : List Slots) (mem : Words) (objects : List ℕ) where
  at_last : (n k word : ℕ) → IsObject maps mem n (get_or objects n 0) → k ≡ n → slice_get objects k ≡ Some word → IsObject maps mem k word
  at_last n k word object same e = rw (same, sym (get_or_from_slice_get objects n word 0 (rw (sym same) e))) object

  one_more : (n : ℕ) → ((k word : ℕ) → k < n → slice_get objects k ≡ Some word → IsObject maps mem k word) → IsObject maps mem n (get_or objects n 0)
      → (k word : ℕ) → k < n + 1 → slice_get objects k ≡ Some word → IsObject maps mem k word
  one_more n before object k word h e = elim (below k n h) [ inl lt ↦ before k word lt e | inr same ↦ at_last n k word object same e ]

pub loop-number-preserved : goal.loop-number-preserved
loop-number-preserved c = one_more c.args.maps.now c.args.mem.now c.args.objects.now c.loop-number.number c.loop-number.invariant (c.is_object.ensures.0 c.if-not-is_object.false)

pub returns : goal.returns
returns c = (
  λ t number word e. c.loop-number.invariant number word (let within = slice_get_within c.args.objects.now number word e in omega (arith, within, c.loop-number-test.false)) e,
  λ all. refl,
)
