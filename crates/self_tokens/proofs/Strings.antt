-- The text of a string, byte by byte.
use Rattle.std.proofs.Common.{◌≡◌, ◌<◌, ◌+◌, ℕ, true, false, List, length, drop, refl, add-one, drop-cons}
use Rattle.self_tokens.specs.Forms.{text_len}

-- A byte that is escaped is of the text.
pub text_len_escaped : (xs : List ℕ) (i : ℕ) → i < length xs → text_len true (drop i xs) ≡ 1 + text_len false (drop (i + 1) xs)
text_len_escaped xs i lt = rw (add-one, drop-cons xs i 0) refl
