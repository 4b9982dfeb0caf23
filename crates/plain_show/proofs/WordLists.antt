-- The words of a frame, one after the other.
use Rattle.std.proofs.Common.{◌≡◌, ℕ, zero, suc, ◌+◌, ◌-◌, ◌*◌, ◌<◌, List, [], ◌∷◌, ◌++◌, refl, ap, sym, ◌∙◌, arith, append_assoc}
use Rattle.std.specs.Prelude.{map}
use Rattle.sparc_store.specs.Words.{Words, word_at}
use Rattle.sparc_store.specs.Windows.{saved_at}
use Rattle.frame_walk.specs.Places.{Frame, shown, word_in_place, slots_from, pending_places}
use Rattle.plain_words.specs.declared.units.Point.{Point}
use Rattle.plain_words.specs.Units.{point_descriptor}
use Rattle.shown_frames.specs.Listed.{words_up, words_down}

-- one word more of those in order
pub up_next : (memory : Words) (at j n : ℕ) (ws : List ℕ) → j < n → (ws ++ word_at memory (at + 4 * j) ∷ []) ++ words_up memory (at + 4 * (j + 1)) (n - (j + 1)) ≡ ws ++ words_up memory (at + 4 * j) (n - j)
up_next memory at j n ws lt =
    let e : n - j ≡ suc (n - (j + 1)) = omega arith in
    let f : at + 4 * (j + 1) ≡ at + 4 * j + 4 = omega arith in
    append_assoc ws (word_at memory (at + 4 * j) ∷ []) (words_up memory (at + 4 * (j + 1)) (n - (j + 1)))
    ∙ ap (λ a. ws ++ word_at memory (at + 4 * j) ∷ words_up memory a (n - (j + 1))) f
    ∙ ap (λ k. ws ++ words_up memory (at + 4 * j) k) (sym e)

-- and of those in the other order
pub down_next : (memory : Words) (at j n : ℕ) (ws : List ℕ) → j < n → (ws ++ word_at memory (at + 4 * (n - 1 - j)) ∷ []) ++ words_down memory at (n - (j + 1)) ≡ ws ++ words_down memory at (n - j)
down_next memory at j n ws lt =
    let e : n - j ≡ suc (n - (j + 1)) = omega arith in
    let f : n - 1 - j ≡ n - (j + 1) = omega arith in
    append_assoc ws (word_at memory (at + 4 * (n - 1 - j)) ∷ []) (words_down memory at (n - (j + 1)))
    ∙ ap (λ k. ws ++ word_at memory (at + 4 * k) ∷ words_down memory at (n - (j + 1))) f
    ∙ ap (λ k. ws ++ words_down memory at k) (sym e)

locals_are : (memory : Words) (window : ℕ → ℕ) (sp offset n at : ℕ) → at ≡ sp + offset → map (word_in_place memory window sp) (slots_from offset n) ≡ words_up memory at n
locals_are memory window sp offset zero at e = refl
locals_are memory window sp offset (suc n) at e =
    ap (λ a. word_at memory a ∷ map (word_in_place memory window sp) (slots_from (offset + 4) n)) (sym e)
    ∙ ap (λ ws. word_at memory at ∷ ws) (locals_are memory window sp (offset + 4) n (at + 4) (omega (arith, e)))

pending_are : (memory : Words) (window : ℕ → ℕ) (sp locals k at : ℕ) → at ≡ sp + 108 + 4 * locals → map (word_in_place memory window sp) (pending_places locals k) ≡ words_down memory at k
pending_are memory window sp locals zero at e = refl
pending_are memory window sp locals (suc k) at e =
    let f : sp + (108 + 4 * locals + 4 * k) ≡ at + 4 * k = omega (arith, e) in
    ap (λ a. word_at memory a ∷ map (word_in_place memory window sp) (pending_places locals k)) f
    ∙ ap (λ ws. word_at memory (at + 4 * k) ∷ ws) (pending_are memory window sp locals k at e)

abbrev pub frame_of : Point → ℕ → ℕ → ℕ → ℕ → ℕ → List ℕ → List ℕ → Frame
frame_of p sp receiver holder outer context locals pending = record {
  body = p.body;
  next = p.node;
  receiver = receiver;
  holder = holder;
  outer = outer;
  context = context;
  mark = sp;
  locals = locals;
  pending = pending;
}

-- a frame that is read word by word is what it shows
pub frame_is : (memory : Words) (sp n : ℕ) (p : Point) (receiver holder outer context : ℕ) (locals pending : List ℕ)
    → receiver ≡ word_at memory (sp + 4 * 8) → holder ≡ word_at memory (sp + 4 * 26) → outer ≡ word_at memory (sp + 4 * 0) → context ≡ word_at memory (sp + 4 * 1)
    → locals ≡ words_up memory (sp + 108) n → pending ≡ words_down memory (sp + 108 + 4 * n) p.pending
    → frame_of p sp receiver holder outer context locals pending ≡ shown memory (saved_at memory sp) sp (point_descriptor n p)
unfolding saved_at
frame_is memory sp n p receiver holder outer context locals pending er eh eo ec el ep =
    let w = saved_at memory sp in
    (λ i. frame_of p sp (er i) (eh i) (eo i) (ec i) ((el ∙ sym (locals_are memory w sp 108 n (sp + 108) refl)) i) ((ep ∙ sym (pending_are memory w sp n p.pending (sp + 108 + 4 * n) refl)) i))
