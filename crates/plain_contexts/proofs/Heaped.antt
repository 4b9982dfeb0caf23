-- Words of the heap.
use Rattle.std.proofs.Common.{◌≡◌, ℕ, ◌+◌, ◌-◌, ◌*◌, ◌/◌, ◌%◌, ◌<◌, ◌≤◌, refl, ◌∙◌, ap, sym, arith, inl, inr}
use Rattle.std.proofs.lemmas.Grind.{common_steps}
use Rattle.sparc_store.specs.Regions.{Place, Heap, place_of}
use Rattle.sparc_store.specs.Words.{Words, word_at, with_word, put_in, HasWord, IsWithin, Stored}
use Rattle.sparc_store.proofs.Placed.{others_stay, put_there}
use Rattle.plain_words.specs.Moves.{IsContext}
use Rattle.plain_runs.specs.Host.{heap_words}

-- the address of a word of the heap
pub record InHeap (at : ℕ) : Type 0 where
  pub aligned : at % 4 ≡ 0
  pub above : 0x20000000 ≤ at
  pub below : at < 0x20000000 + 46137344

in_heap : (at : ℕ) → InHeap at → place_of at ≡ Heap ((at - 0x20000000) / 4)
in_heap at h = let a = h.aligned in let b = h.above in let c = h.below in grind (arith, common_steps)

put_words : (m : Words) (p : Place) (w k : ℕ) → p ≡ Heap k → heap_words (put_in m p w) ≡ put_in (heap_words m) p w
put_words m p w k e = ap (λ q. heap_words (put_in m q w)) e ∙ sym (ap (λ q. put_in (heap_words m) q w) e)

stored_words : (m : Words) (at w : ℕ) → InHeap at → heap_words (with_word m at w) ≡ with_word (heap_words m) at w
unfolding with_word
stored_words m at w h = put_words m (place_of at) w ((at - 0x20000000) / 4) (in_heap at h)

pub same_word : (m : Words) (at : ℕ) → InHeap at → word_at (heap_words m) at ≡ word_at m at
unfolding word_at
same_word m at h = rw (in_heap at h) refl

pub has_word : (at : ℕ) → InHeap at → HasWord at
has_word at h = (h.aligned, inr (inl (h.above, h.below)))

-- a word stored there is stored among the words of the heap
pub stored_in_heap : (m : Words) (at w : ℕ) → IsWithin m → InHeap at → Stored (heap_words m) (heap_words (with_word m at w)) at w
stored_in_heap m at w whole h = record {
  put = same_word (with_word m at w) at h ∙ put_there m at w whole (has_word at h);
  others = λ b ne. ap (λ (y : Words). word_at y b) (stored_words m at w h) ∙ others_stay (heap_words m) at w b ne;
}

-- a word of a context
pub context_in_heap : (context locals d : ℕ) → IsContext context locals → d % 4 ≡ 3 → d < 15 + 4 * locals → InHeap (context + d)
context_in_heap context locals d c whole low = record { aligned = omega (arith, c.tagged, whole); above = omega (arith, c.from); below = omega (arith, c.to, low) }
