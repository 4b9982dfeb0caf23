-- Words that are put one behind the other.
use Rattle.std.proofs.Common.{◌≡◌, ℕ, zero, suc, ◌+◌, ◌*◌, ◌<◌, ◌≤◌, refl, ◌∙◌, ap, arith, inl, inr}
use Rattle.std.specs.Prelude.{◌⊎◌, List, [], ◌∷◌, length, slice_index}
use Rattle.sparc_store.specs.Words.{Words, word_at, with_word, HasWord, IsWithin}
use Rattle.sparc_store.proofs.Placed.{others_stay, put_there, put_stays_within}
use Rattle.plain_words.specs.Moves.{HasRoom, with_words}

pub words_within : (ws : List ℕ) (memory : Words) (at : ℕ) → IsWithin memory → IsWithin (with_words memory at ws)
words_within [] memory at h = h
words_within (w ∷ ws) memory at h = words_within ws (with_word memory at w) (at + 4) (put_stays_within memory at w h)

-- the words elsewhere stay
pub words_others : (ws : List ℕ) (memory : Words) (at b : ℕ) → (b < at) ⊎ (at + 4 * length ws ≤ b) → word_at (with_words memory at ws) b ≡ word_at memory b
words_others [] memory at b out = refl
words_others (w ∷ ws) memory at b (inl below) = words_others ws (with_word memory at w) (at + 4) b (inl (omega arith)) ∙ others_stay memory at w b (λ e. absurd (omega (arith, below, e)))
words_others (w ∷ ws) memory at b (inr above) = words_others ws (with_word memory at w) (at + 4) b (inr (omega (arith, above))) ∙ others_stay memory at w b (λ e. absurd (omega (arith, above, e)))

room_behind : (at n : ℕ) → HasRoom at (suc n) → HasRoom (at + 4) n
room_behind at n h = record { aligned = omega (arith, h.aligned); from = omega (arith, h.from); to = omega (arith, h.to) }

pub heap_word : (at n : ℕ) → HasRoom at (suc n) → HasWord at
heap_word at n h = (h.aligned, inr (inl (h.from, omega (arith, h.to))))

-- they stand there, in the heap
pub words_put : (ws : List ℕ) (memory : Words) (at j : ℕ) → IsWithin memory → HasRoom at (length ws) → j < length ws → word_at (with_words memory at ws) (at + 4 * j) ≡ slice_index ws j
words_put [] memory at j whole room lt = absurd (omega (arith, lt))
words_put (w ∷ ws) memory at zero whole room lt =
    ap (word_at (with_words (with_word memory at w) (at + 4) ws)) (omega arith) ∙ words_others ws (with_word memory at w) (at + 4) at (inl (omega arith)) ∙ put_there memory at w whole (heap_word at (length ws) room)
words_put (w ∷ ws) memory at (suc j) whole room lt =
    ap (word_at (with_words (with_word memory at w) (at + 4) ws)) (omega arith) ∙ words_put ws (with_word memory at w) (at + 4) j (put_stays_within memory at w whole) (room_behind at (length ws) room) (omega (arith, lt))
