-- What the frame in view shows when a block was made.
use Rattle.std.proofs.Common.{◌≡◌, ℕ, zero, suc, ◌+◌, ◌*◌, ◌<◌, ◌≤◌, refl, ◌∙◌, ap, subst, arith, inr}
use Rattle.std.specs.Prelude.{false, nat_eq, [], ◌∷◌, map as each}
use Rattle.std.proofs.lemmas.Grind.{common_steps}
use Rattle.sparc_store.specs.Words.{Words, word_at, HasWord}
use Rattle.sparc_store.specs.Windows.{kept}
use Rattle.sparc_store.proofs.Placed.{others_stay, put_there}
use Rattle.frame_walk.specs.Places.{shown, word_in_place, plain_descriptor, holder_offset, local_offset, pending_offset, slots_from, pending_places}
use Rattle.plain_words.specs.Moves.{with_words, block_made}
use Rattle.plain_words.specs.Showing.{viewed, MadeShows}
use Rattle.plain_words.proofs.Placing.{placed}
use Rattle.plain_words.proofs.Shown.{window_same, no_scratch, slots_stay, pended_list, outside}
use Rattle.plain_words.proofs.Stored.{words_within, words_others, words_put}

-- Where no word from a frame's beginning on changed, its slots show the same.
pub slots_as : (old new : Words) (window : ℕ → ℕ) (sp offset n : ℕ) → ((b : ℕ) → sp ≤ b → word_at new b ≡ word_at old b) → each (word_in_place new window sp) (slots_from offset n) ≡ each (word_in_place old window sp) (slots_from offset n)
slots_as old new window sp offset zero h = refl
slots_as old new window sp offset (suc n) h =
    ap (λ w. w ∷ each (word_in_place new window sp) (slots_from (offset + 4) n)) (h (sp + offset) (omega arith)) ∙ ap (λ ws. word_at old (sp + offset) ∷ ws) (slots_as old new window sp (offset + 4) n h)

pub pending_as : (old new : Words) (window : ℕ → ℕ) (sp locals k : ℕ) → ((b : ℕ) → sp ≤ b → word_at new b ≡ word_at old b) → each (word_in_place new window sp) (pending_places locals k) ≡ each (word_in_place old window sp) (pending_places locals k)
pending_as old new window sp locals zero h = refl
pending_as old new window sp locals (suc k) h =
    ap (λ w. w ∷ each (word_in_place new window sp) (pending_places locals k)) (h (sp + pending_offset locals k) (omega arith)) ∙ ap (λ ws. word_at old (sp + pending_offset locals k) ∷ ws) (pending_as old new window sp locals k h)

unlike_low : (r s : ℕ) → 16 ≤ r → s < 16 → nat_eq r s ≡ false
unlike_low r s h k = grind (arith, common_steps)

pub made_shows : MadeShows
made_shows m to p words locals k map body whole frame room heap made =
    let sp = m.regs 14 in
    let top = m.regs 6 in
    let cell = map ∷ body ∷ m.regs 17 ∷ m.regs 24 ∷ [] in
    let at = sp + pending_offset locals k in
    let d = placed sp words (pending_offset locals k) frame (omega arith) (omega arith) in
    let there : HasWord at = (let P : ℕ → Type 0 = HasWord in subst P d.address d.has) in
    let old = m.memory in
    let mid = with_words old top cell in
    let new = block_made m locals k map body in
    let w = kept m.regs in
    let ew : kept to.regs ≡ w = window_same to.regs m.regs (λ r high. made.kept r (no_scratch r high) (unlike_low r 3 high (omega arith)) (unlike_low r 6 high (omega arith))) in
    let es : to.regs 14 ≡ sp = made.kept 14 refl refl refl in
    let put : word_at new at ≡ top + 1 = put_there mid at (top + 1) (words_within cell old top whole) there in
    let same : (b : ℕ) → sp ≤ b → word_at mid b ≡ word_at old b = λ b high. words_others cell old top b (inr (omega (arith, heap.to, frame.1, high))) in
    let shows : (number node next : ℕ) → shown new w sp (plain_descriptor number next locals (k + 1)) ≡ record (viewed m number node locals k) { next = next; pending = (top + 1) ∷ (viewed m number node locals k).pending } =
    λ number node next i. record {
      body = number;
      next = next;
      receiver = w 8;
      holder = (others_stay mid at (top + 1) (sp + holder_offset) (omega arith) ∙ same (sp + holder_offset) (omega arith)) i;
      outer = w 0;
      context = w 1;
      mark = sp;
      locals = (slots_stay mid w sp at (top + 1) (local_offset 0) locals (omega arith) ∙ slots_as old mid w sp (local_offset 0) locals same) i;
      pending = (pended_list mid w sp (top + 1) locals k put ∙ ap (λ ws. (top + 1) ∷ ws) (pending_as old mid w sp locals k same)) i;
    } in (
      λ number node next.
          ap (λ z. shown z (kept to.regs) (to.regs 14) (plain_descriptor number next locals (k + 1))) made.memory_is
          ∙ ap (λ z. shown new z (to.regs 14) (plain_descriptor number next locals (k + 1))) ew
          ∙ ap (λ z. shown new w z (plain_descriptor number next locals (k + 1))) es
          ∙ shows number node next,
      λ j lt. ap (λ z. word_at z (top + 4 * j)) made.memory_is ∙ others_stay mid at (top + 1) (top + 4 * j) (λ e. absurd (omega (arith, e, lt, heap.to, frame.1))) ∙ words_put cell old top j whole heap lt,
      λ b out apart. ap (λ z. word_at z b) made.memory_is ∙ others_stay mid at (top + 1) b (outside sp words (pending_offset locals k) b out (omega arith)) ∙ words_others cell old top b apart,
    )
