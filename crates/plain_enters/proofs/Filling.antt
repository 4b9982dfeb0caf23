-- A frame that a method has filled.
use Rattle.std.proofs.Common.{◌≡◌, ◌⊎◌, ℕ, ◌+◌, ◌*◌, ◌%◌, ◌<◌, ◌≤◌, refl, ◌∙◌, ap, sym, subst, arith, inl, inr}
use Rattle.std.specs.Prelude.{List, [], ◌∷◌, map, length}
use Rattle.sparc_store.specs.Words.{Words, word_at, with_word, HasWord, HasFrame, IsWithin}
use Rattle.sparc_store.proofs.Placed.{others_stay, put_there, put_stays_within}
use Rattle.frame_walk.specs.Places.{word_in_place, slots_from, holder_offset, local_offset}
use Rattle.plain_words.specs.Moves.{with_words}
use Rattle.plain_words.proofs.Placing.{placed}
use Rattle.plain_enters.specs.Entering.{FilledShows}

put_apart : (ws : List ℕ) (memory : Words) (at b : ℕ) → (b < at) ⊎ (at + 4 * length ws ≤ b) → word_at (with_words memory at ws) b ≡ word_at memory b
put_apart [] memory at b out = refl
put_apart (w ∷ ws) memory at b (inl below) = put_apart ws (with_word memory at w) (at + 4) b (inl (omega (arith, below))) ∙ others_stay memory at w b (λ e. absurd (omega (arith, below, e)))
put_apart (w ∷ ws) memory at b (inr above) = put_apart ws (with_word memory at w) (at + 4) b (inr (omega (arith, above))) ∙ others_stay memory at w b (λ e. absurd (omega (arith, above, e)))

put_within : (ws : List ℕ) (memory : Words) (at : ℕ) → IsWithin memory → IsWithin (with_words memory at ws)
put_within [] memory at whole = whole
put_within (w ∷ ws) memory at whole = put_within ws (with_word memory at w) (at + 4) (put_stays_within memory at w whole)

-- a word of the frame
word_of_frame : (place words d : ℕ) → HasFrame place words → d % 4 ≡ 0 → d < 4 * words → HasWord (place + d)
word_of_frame place words d f whole low =
    let p = placed place words d f whole low in
    let P : ℕ → Type 0 = HasWord in
    subst P p.address p.has

put_read : (ws : List ℕ) (memory : Words) (window : ℕ → ℕ) (place words offset at : ℕ) → at ≡ place + offset → IsWithin memory → HasFrame place words → offset % 4 ≡ 0 → offset + 4 * length ws ≤ 4 * words
    → map (word_in_place (with_words memory at ws) window place) (slots_from offset (length ws)) ≡ ws
put_read [] memory window place words offset at e whole f aligned room = refl
put_read (w ∷ ws) memory window place words offset at e whole f aligned room =
    let new = with_words (with_word memory at w) (at + 4) ws in
    let has : HasWord at = (let P : ℕ → Type 0 = HasWord in subst P (sym e) (word_of_frame place words offset f aligned (omega (arith, room)))) in
    let here : word_at new (place + offset) ≡ w =
    ap (word_at new) (sym e) ∙ put_apart ws (with_word memory at w) (at + 4) at (inl (omega arith)) ∙ put_there memory at w whole has in
    ap (λ x. x ∷ map (word_in_place new window place) (slots_from (offset + 4) (length ws))) here
    ∙ ap (λ xs. w ∷ xs) (put_read ws (with_word memory at w) window place words (offset + 4) (at + 4) (omega (arith, e)) (put_stays_within memory at w whole) f (omega (arith, aligned)) (omega (arith, room)))

pub filled_shows : FilledShows
filled_shows memory window place words holder body ws whole f room =
    let base = with_word memory (place + holder_offset) holder in
    let new = with_words base (place + local_offset 0) ws in
    let whole1 = put_stays_within memory (place + holder_offset) holder whole in
    let held : word_at new (place + holder_offset) ≡ holder =
    put_apart ws base (place + local_offset 0) (place + holder_offset) (inl (omega arith)) ∙ put_there memory (place + holder_offset) holder whole (word_of_frame place words holder_offset f (omega arith) (omega (arith, room))) in
    let locals = put_read ws base window place words (local_offset 0) (place + local_offset 0) refl whole1 f (omega arith) (omega (arith, room)) in (
      λ i. record {
        body = body;
        next = 0;
        receiver = window 8;
        holder = held i;
        outer = window 0;
        context = window 1;
        mark = place;
        locals = locals i;
        pending = [];
      },
      λ b out. elim out [
        | inl below ↦ put_apart ws base (place + local_offset 0) b (inl (omega (arith, below))) ∙ others_stay memory (place + holder_offset) holder b (λ e. absurd (omega (arith, below, e)))
        | inr above ↦ put_apart ws base (place + local_offset 0) b (inr (omega (arith, above, room))) ∙ others_stay memory (place + holder_offset) holder b (λ e. absurd (omega (arith, above, e, room)))
      ],
      put_within ws base (place + local_offset 0) whole1,
    )
