-- Words put at the heap's top, and a frame filled in a stack: either may come first.
use Rattle.std.proofs.Common.{◌≡◌, ◌≢◌, ◌⊎◌, ℕ, zero, suc, ◌+◌, ◌-◌, ◌*◌, ◌/◌, ◌%◌, ◌<◌, ◌≤◌, refl, ◌∙◌, ap, sym, arith, inl, inr}
use Rattle.std.specs.Prelude.{Bool, true, false, List, [], ◌∷◌, length, slice_index}
use Rattle.std.proofs.lemmas.Grind.{common_steps}
use Rattle.sparc_store.specs.Regions.{Place, Code, Heap, Control, Stacks, Nowhere, place_of}
use Rattle.sparc_store.specs.Words.{Words, word_at, with_word, with_frame, put_in, HasWord, IsWithin, Framed, Stored}
use Rattle.sparc_store.specs.Windows.{Frame as Window, is_full, with_room, oldest, oldest_at, words_of}
use Rattle.sparc_store.proofs.Placed.{others_stay, put_there, put_stays_within}
use Rattle.plain_words.specs.Moves.{with_words}
use Rattle.plain_runs.specs.Host.{heap_words}
use Rattle.plain_runs.proofs.Keeping.{no_heap}

-- the address of a word of the heap
pub record InHeap (at : ℕ) : Type 0 where
  pub aligned : at % 4 ≡ 0
  pub above : 0x20000000 ≤ at
  pub below : at < 0x20000000 + 46137344

in_heap : (at : ℕ) → InHeap at → place_of at ≡ Heap ((at - 0x20000000) / 4)
in_heap at h = let a = h.aligned in let b = h.above in let c = h.below in grind (arith, common_steps)

put_words : (m : Words) (p : Place) (w k : ℕ) → p ≡ Heap k → heap_words (put_in m p w) ≡ put_in (heap_words m) p w
put_words m p w k e = ap (λ q. heap_words (put_in m q w)) e ∙ sym (ap (λ q. put_in (heap_words m) q w) e)

stored_words : (m : Words) (at w : ℕ) → InHeap at → heap_words (with_word m at w) ≡ with_word (heap_words m) at w
unfolding with_word
stored_words m at w h = put_words m (place_of at) w ((at - 0x20000000) / 4) (in_heap at h)

pub same_word : (m : Words) (at : ℕ) → InHeap at → word_at (heap_words m) at ≡ word_at m at
unfolding word_at
same_word m at h = rw (in_heap at h) refl

has_word : (at : ℕ) → InHeap at → HasWord at
has_word at h = (h.aligned, inr (inl (h.above, h.below)))

stored_in_heap : (m : Words) (at w : ℕ) → IsWithin m → InHeap at → Stored (heap_words m) (heap_words (with_word m at w)) at w
stored_in_heap m at w whole h = record {
  put = same_word (with_word m at w) at h ∙ put_there m at w whole (has_word at h);
  others = λ b ne. ap (λ (y : Words). word_at y b) (stored_words m at w h) ∙ others_stay (heap_words m) at w b ne;
}

-- Words put there, one behind the other.

after_first : (b at n : ℕ) → (b < at) ⊎ (at + 4 * suc n ≤ b) → (b < at + 4) ⊎ (at + 4 + 4 * n ≤ b)
after_first b at n (inl low) = inl (omega (arith, low))
after_first b at n (inr high) = inr (omega (arith, high))

not_first : (b at n : ℕ) → (b < at) ⊎ (at + 4 * suc n ≤ b) → b ≢ at
not_first b at n (inl low) = λ e. absurd (omega (arith, low, e))
not_first b at n (inr high) = λ e. absurd (omega (arith, high, e))

put_next : (new : Words) (at w : ℕ) (ws : List ℕ) → word_at new at ≡ w → ((k : ℕ) → k < length ws → word_at new (at + 4 + 4 * k) ≡ slice_index ws k) → (k : ℕ) → k < length (w ∷ ws) → word_at new (at + 4 * k) ≡ slice_index (w ∷ ws) k
put_next new at w ws first rest zero lt = ap (word_at new) (let e : at + 4 * 0 ≡ at = omega arith in e) ∙ first
put_next new at w ws first rest (suc k) lt = ap (word_at new) (let e : at + 4 * suc k ≡ at + 4 + 4 * k = omega arith in e) ∙ rest k (omega (arith, lt))

pub framed_in_heap : (ws : List ℕ) (m : Words) (at : ℕ) → IsWithin m → at % 4 ≡ 0 → 0x20000000 ≤ at → at + 4 * length ws ≤ 0x20000000 + 46137344 → Framed (heap_words m) (heap_words (with_words m at ws)) at ws
framed_in_heap [] m at whole aligned low room = record { put = λ k lt. absurd (omega (arith, lt)); others = λ b out. refl }
framed_in_heap (w ∷ ws) m at whole aligned low room =
    let here : InHeap at = record { aligned = aligned; above = low; below = omega (arith, room) } in
    let s = stored_in_heap m at w whole here in
    let rest = framed_in_heap ws (with_word m at w) (at + 4) (put_stays_within m at w whole) (omega (arith, aligned)) (omega (arith, low)) (omega (arith, room)) in
    record {
      put = put_next (heap_words (with_words (with_word m at w) (at + 4) ws)) at w ws (rest.others at (inl (omega arith)) ∙ s.put) rest.put;
      others = λ b out. rest.others b (after_first b at (length ws) out) ∙ s.others b (not_first b at (length ws) out);
    }

-- A frame filled.

put_past : (m : Words) (p : Place) (k v w : ℕ) → ((j : ℕ) → p ≡ Heap j → ⊥) → put_in (put_in m p v) (Heap k) w ≡ put_in (put_in m (Heap k) w) p v
put_past m (Code j) k v w none = refl
put_past m (Heap j) k v w none = absurd (none j refl)
put_past m (Control j) k v w none = refl
put_past m (Stacks j) k v w none = refl
put_past m Nowhere k v w none = refl

word_past : (m : Words) (at high v w : ℕ) → InHeap at → 0x40000000 ≤ high → with_word (with_word m high v) at w ≡ with_word (with_word m at w) high v
unfolding with_word
word_past m at high v w here up =
    let k = (at - 0x20000000) / 4 in
    ap (λ q. put_in (put_in m (place_of high) v) q w) (in_heap at here)
    ∙ put_past m (place_of high) k v w (λ j e. no_heap high j up e)
    ∙ ap (λ q. put_in (put_in m q w) (place_of high) v) (sym (in_heap at here))

frame_past : (m : Words) (k high w : ℕ) (ws : List ℕ) → put_in (with_frame m high ws) (Heap k) w ≡ with_frame (put_in m (Heap k) w) high ws
unfolding with_frame
frame_past m k high w ws = refl

spill_past : (m : Words) (at high w : ℕ) (ws : List ℕ) → InHeap at → with_word (with_frame m high ws) at w ≡ with_frame (with_word m at w) high ws
unfolding with_word
spill_past m at high w ws here =
    let k = (at - 0x20000000) / 4 in
    ap (λ q. put_in (with_frame m high ws) q w) (in_heap at here)
    ∙ frame_past m k high w ws
    ∙ ap (λ q. with_frame (put_in m q w) high ws) (sym (in_heap at here))

room_past : (m : Words) (at fp w : ℕ) (held : List Window) (full : Bool) → is_full held ≡ full → InHeap at → with_word (with_room m fp held) at w ≡ with_room (with_word m at w) fp held
room_past m at fp w held true e here = rw e (spill_past m at (oldest_at fp held) w (words_of (oldest held)) here)
room_past m at fp w held false e here = rw e refl

-- the spill of a frame, and a word put in a stack, leave the words of the heap
pub filled_past : (ws : List ℕ) (m : Words) (at fp place v : ℕ) (held : List Window) → at % 4 ≡ 0 → 0x20000000 ≤ at → at + 4 * length ws ≤ 0x20000000 + 46137344 → 0x40000000 ≤ place
    → with_words (with_word (with_room m fp held) place v) at ws ≡ with_word (with_room (with_words m at ws) fp held) place v
filled_past [] m at fp place v held aligned low room high = refl
filled_past (w ∷ ws) m at fp place v held aligned low room high =
    let here : InHeap at = record { aligned = aligned; above = low; below = omega (arith, room) } in
    ap (λ y. with_words y (at + 4) ws) (word_past (with_room m fp held) at place v w here high ∙ ap (λ y. with_word y place v) (room_past m at fp w held (is_full held) refl here))
    ∙ filled_past ws (with_word m at w) (at + 4) fp place v held (omega (arith, aligned)) (omega (arith, low)) (omega (arith, room)) high
