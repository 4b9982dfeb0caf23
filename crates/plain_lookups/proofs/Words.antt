-- The words of the heap among all words.
use Rattle.std.proofs.Common.{◌≡◌, ◌⊎◌, ℕ, ◌+◌, ◌-◌, ◌/◌, ◌%◌, ◌<◌, ◌≤◌, refl, ◌∙◌, ap, sym, arith, inl, inr, nat_eq}
use Rattle.std.specs.Prelude.{if◌then◌else◌}
use Rattle.std.proofs.lemmas.Bool.{cond-true, eq-eqb}
use Rattle.std.proofs.lemmas.Grind.{common_steps}
use Rattle.object_maps.specs.Layout.{map_at, number_at}
use Rattle.sparc_store.specs.Regions.{Heap, Nowhere, place_of}
use Rattle.sparc_store.specs.Words.{Words, word_at, HasWord}
use Rattle.plain_runs.specs.Host.{heap_words}

-- the address of a word of the heap
pub record InHeap (at : ℕ) : Type 0 where
  pub aligned : at % 4 ≡ 0
  pub above : 0x20000000 ≤ at
  pub below : at < 0x20000000 + 46137344

in_heap : (at : ℕ) → InHeap at → place_of at ≡ Heap ((at - 0x20000000) / 4)
in_heap at h = let a = h.aligned in let b = h.above in let c = h.below in grind (arith, common_steps)

pub same_word : (m : Words) (at : ℕ) → InHeap at → word_at m at ≡ word_at (heap_words m) at
unfolding word_at
same_word m at h = rw (in_heap at h) refl

pub has_word : (at : ℕ) → InHeap at → HasWord at
has_word at h = (h.aligned, inr (inl (h.above, h.below)))

nowhere : (at : ℕ) → at % 4 ≡ 3 → place_of at ≡ Nowhere
nowhere at h = grind (arith, common_steps)

no_word : (m : Words) (at : ℕ) → at % 4 ≡ 3 → word_at m at ≡ word_at (heap_words m) at
unfolding word_at
no_word m at h = rw (nowhere at h) refl

-- the word of an integer, or a reference to a cell of the heap
abbrev pub IsReached : ℕ → Type 0
IsReached w = (w % 4 ≡ 0) ⊎ ((w % 4 ≡ 1) × (InHeap (w - 1) × InHeap (w + 3)))

pub map_same : (m : Words) (w : ℕ) → IsReached w → map_at m w ≡ map_at (heap_words m) w
map_same m w (inl e) = cond-true (nat_eq (w % 4) 0) 0 (word_at m (w - 1) / 4) (eq-eqb (w % 4) 0 e) ∙ sym (cond-true (nat_eq (w % 4) 0) 0 (word_at (heap_words m) (w - 1) / 4) (eq-eqb (w % 4) 0 e))
map_same m w (inr r) = ap (λ x. if nat_eq (w % 4) 0 then 0 else x / 4) (same_word m (w - 1) r.1.0)

pub number_same : (m : Words) (w : ℕ) → IsReached w → number_at m w ≡ number_at (heap_words m) w
number_same m w (inl e) = ap (λ x. x / 4) (no_word m (w + 3) (omega arith))
number_same m w (inr r) = ap (λ x. x / 4) (same_word m (w + 3) r.1.1)
