-- What the frame in view shows after a node.
use Rattle.std.proofs.Common.{◌≡◌, ◌≢◌, ℕ, zero, suc, ◌+◌, ◌*◌, ◌<◌, ◌≤◌, refl, ◌∙◌, ap, subst, arith, inl, inr, add-one}
use Rattle.std.specs.Prelude.{◌⊎◌, Bool, true, false, if◌then◌else◌, nat_lt, ◌∷◌, map}
use Rattle.std.proofs.lemmas.Grind.{common_steps}
use Rattle.sparc_store.specs.Words.{Words, word_at, with_word, HasWord}
use Rattle.sparc_store.specs.Windows.{kept}
use Rattle.sparc_store.proofs.Placed.{others_stay, put_there}
use Rattle.sparc_machine.specs.State.{MachineState}
use Rattle.frame_walk.specs.Places.{shown, word_in_place, plain_descriptor, holder_offset, local_offset, pending_offset, slots_from, pending_places}
use Rattle.plain_words.specs.Moves.{is_scratch, Moved}
use Rattle.plain_words.specs.Showing.{viewed, PendedShows, LeftShows}
use Rattle.plain_words.proofs.Placing.{placed}

-- a window is as it was where its registers are
window_number : (f g : ℕ → ℕ) (k : ℕ) (b : Bool) → (b ≡ true → f (k + 16) ≡ g (k + 16)) → (if b then f (k + 16) else 0) ≡ (if b then g (k + 16) else 0)
window_number f g k true h = h refl
window_number f g k false h = refl

lower : (k : ℕ) → nat_lt k 16 ≡ true → k < 16
lower k h = grind arith

pub window_same : (f g : ℕ → ℕ) → ((r : ℕ) → 16 ≤ r → f r ≡ g r) → kept f ≡ kept g
window_same f g h = λ i k. window_number f g k (nat_lt k 16) (λ b. h (k + 16) (omega arith)) i

pub no_scratch : (r : ℕ) → 16 ≤ r → is_scratch r ≡ false
no_scratch r h = grind (arith, common_steps)

pub moved_window : (m to : MachineState) (p steps : ℕ) (memory : Words) → Moved m to p memory steps → kept to.regs ≡ kept m.regs
moved_window m to p steps memory h = window_same to.regs m.regs (λ r high. h.kept r (no_scratch r high))

-- Words below a slot of the frame stay.
pub slots_stay : (memory : Words) (window : ℕ → ℕ) (sp at word offset n : ℕ) → sp + offset + 4 * n ≤ at → map (word_in_place (with_word memory at word) window sp) (slots_from offset n) ≡ map (word_in_place memory window sp) (slots_from offset n)
slots_stay memory window sp at word offset zero h = refl
slots_stay memory window sp at word offset (suc n) h =
    ap (λ w. w ∷ map (word_in_place (with_word memory at word) window sp) (slots_from (offset + 4) n)) (others_stay memory at word (sp + offset) (omega arith))
    ∙ ap (λ ws. word_at memory (sp + offset) ∷ ws) (slots_stay memory window sp at word (offset + 4) n (omega arith))

pending_stay : (memory : Words) (window : ℕ → ℕ) (sp at word locals k : ℕ) → sp + pending_offset locals k ≤ at → map (word_in_place (with_word memory at word) window sp) (pending_places locals k) ≡ map (word_in_place memory window sp) (pending_places locals k)
pending_stay memory window sp at word locals zero h = refl
pending_stay memory window sp at word locals (suc k) h =
    ap (λ w. w ∷ map (word_in_place (with_word memory at word) window sp) (pending_places locals k)) (others_stay memory at word (sp + pending_offset locals k) (omega arith))
    ∙ ap (λ ws. word_at memory (sp + pending_offset locals k) ∷ ws) (pending_stay memory window sp at word locals k (omega arith))

pub pended_list : (memory : Words) (window : ℕ → ℕ) (sp word locals k : ℕ) → word_at (with_word memory (sp + pending_offset locals k) word) (sp + pending_offset locals k) ≡ word
    → map (word_in_place (with_word memory (sp + pending_offset locals k) word) window sp) (pending_places locals (k + 1)) ≡ word ∷ map (word_in_place memory window sp) (pending_places locals k)
pended_list memory window sp word locals k top =
    let at = sp + pending_offset locals k in
    ap (λ n. map (word_in_place (with_word memory at word) window sp) (pending_places locals n)) (add-one k)
    ∙ ap (λ w. w ∷ map (word_in_place (with_word memory at word) window sp) (pending_places locals k)) top
    ∙ ap (λ ws. word ∷ ws) (pending_stay memory window sp at word locals k (omega arith))

pub outside : (sp words d b : ℕ) → (b < sp) ⊎ (sp + 4 * words ≤ b) → d < 4 * words → b ≢ sp + d
outside sp words d b (inl below) h = λ e. absurd (omega (arith, below, e))
outside sp words d b (inr above) h = λ e. absurd (omega (arith, above, e))

pub pended_shows : PendedShows
pended_shows m to p steps words locals k word whole frame room moved =
    let sp = m.regs 14 in
    let at = sp + pending_offset locals k in
    let d = placed sp words (pending_offset locals k) frame (omega arith) (omega arith) in
    let there : HasWord at = (let P : ℕ → Type 0 = HasWord in subst P d.address d.has) in
    let w = kept m.regs in
    let new = with_word m.memory at word in
    let ew = moved_window m to p steps new moved in
    let es : to.regs 14 ≡ sp = moved.kept 14 refl in
    let top : word_at new at ≡ word = put_there m.memory at word whole there in
    let shows : (body node next : ℕ) → shown new w sp (plain_descriptor body next locals (k + 1)) ≡ record (viewed m body node locals k) { next = next; pending = word ∷ (viewed m body node locals k).pending } =
    λ body node next i. record {
      body = body;
      next = next;
      receiver = w 8;
      holder = others_stay m.memory at word (sp + holder_offset) (omega arith) i;
      outer = w 0;
      context = w 1;
      mark = sp;
      locals = slots_stay m.memory w sp at word (local_offset 0) locals (omega arith) i;
      pending = pended_list m.memory w sp word locals k top i;
    } in (
      λ body node next.
          ap (λ z. shown z (kept to.regs) (to.regs 14) (plain_descriptor body next locals (k + 1))) moved.memory_is
          ∙ ap (λ z. shown new z (to.regs 14) (plain_descriptor body next locals (k + 1))) ew
          ∙ ap (λ z. shown new w z (plain_descriptor body next locals (k + 1))) es
          ∙ shows body node next,
      λ b out. ap (λ z. word_at z b) moved.memory_is ∙ others_stay m.memory at word b (outside sp words (pending_offset locals k) b out (omega arith)),
    )

pub left_shows : LeftShows
left_shows m to p steps locals k moved body node next =
    ap (λ z. shown z (kept to.regs) (to.regs 14) (plain_descriptor body next locals k)) moved.memory_is
    ∙ ap (λ z. shown m.memory z (to.regs 14) (plain_descriptor body next locals k)) (moved_window m to p steps m.memory moved)
    ∙ ap (λ z. shown m.memory (kept m.regs) z (plain_descriptor body next locals k)) (moved.kept 14 refl)
