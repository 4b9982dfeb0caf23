-- The words of a text, one after the other.
use Rattle.std.proofs.Common.{◌≡◌, ◌<◌, ◌+◌, ℕ, Bool, true, false, not, cond, List, [], ◌∷◌, length, take, drop, refl, ap, arith, sym, ◌∙◌, nat_lt, lt-ltb, get_or, suc, ◌-◌, eqb-true, length-drop}
use Rattle.std.proofs.lemmas.List.{take_rest}
use Rattle.std.specs.Prelude.{filter, ◌==◌}
use Rattle.std.specs.List.{slice_split, position_or_len, prefix_len}
use Rattle.session_text.specs.Words.{words, is_space}
use Rattle.session_text.proofs.Parts.{other_parts, first_part, one_plus}

abbrev some : List ℕ → Bool
some w = nat_lt 0 (length w)

skips_case : (x : ℕ) (xs : List ℕ) (b : Bool) → b ≡ is_space x → words (drop (prefix_len is_space xs) xs) ≡ words xs → words (drop (cond b (1 + prefix_len is_space xs) 0) (x ∷ xs)) ≡ words (x ∷ xs)
skips_case x xs true e h = rw (one_plus (prefix_len is_space xs), sym e) h
skips_case x xs false e h = refl

-- spaces at the front are no words
pub skips_spaces : (t : List ℕ) → words (drop (prefix_len is_space t) t) ≡ words t
skips_spaces [] = refl
skips_spaces (x ∷ xs) = skips_case x xs (is_space x) refl (skips_spaces xs)

rest_case : (x : ℕ) (xs : List ℕ) (b : Bool) → b ≡ is_space x → filter some (other_parts is_space xs) ≡ words (drop (position_or_len is_space xs) xs) →
    filter some (cond b (slice_split is_space xs) (other_parts is_space xs)) ≡ words (drop (cond (not b) (1 + position_or_len is_space xs) 0) (x ∷ xs))
rest_case x xs true e h = rw (sym e) refl
rest_case x xs false e h = rw (one_plus (position_or_len is_space xs)) h

rest_words : (t : List ℕ) → filter some (other_parts is_space t) ≡ words (drop (position_or_len is_space t) t)
rest_words [] = refl
rest_words (x ∷ xs) = rest_case x xs (is_space x) refl (rest_words xs)

some_first : (x : ℕ) (xs : List ℕ) → is_space x ≡ false → some (take (position_or_len is_space (x ∷ xs)) (x ∷ xs)) ≡ true
some_first x xs e = rw (e, one_plus (position_or_len is_space xs)) (lt-ltb 0 (suc (length (take (position_or_len is_space xs) xs))) (omega arith))

kept : (w : List ℕ) (ws : List (List ℕ)) → some w ≡ true → filter some (w ∷ ws) ≡ w ∷ filter some ws
kept w ws e = rw e refl

-- a text that begins with no space begins with its first word
pub begins_word : (t : List ℕ) → 0 < length t → is_space (get_or t 0 0) ≡ false → words t ≡ take (position_or_len is_space t) t ∷ words (drop (position_or_len is_space t) t)
begins_word [] some_bytes e = absurd (omega arith)
begins_word (x ∷ xs) some_bytes e =
    ap (filter some) (first_part is_space (x ∷ xs))
    ∙ kept (take (position_or_len is_space (x ∷ xs)) (x ∷ xs)) (other_parts is_space (x ∷ xs)) (some_first x xs e)
    ∙ ap (λ r. take (position_or_len is_space (x ∷ xs)) (x ∷ xs) ∷ r) (rest_words (x ∷ xs))

-- and that word has a byte
pub has_byte : (t : List ℕ) → 0 < length t → is_space (get_or t 0 0) ≡ false → 0 < position_or_len is_space t
has_byte [] some_bytes e = absurd (omega arith)
has_byte (x ∷ xs) some_bytes e = rw e (omega arith)

no_space_case : (x : ℕ) (xs : List ℕ) (b : Bool) → b ≡ is_space x → (0 < length (drop (prefix_len is_space xs) xs) → is_space (get_or (drop (prefix_len is_space xs) xs) 0 0) ≡ false) →
    0 < length (drop (cond b (1 + prefix_len is_space xs) 0) (x ∷ xs)) → is_space (get_or (drop (cond b (1 + prefix_len is_space xs) 0) (x ∷ xs)) 0 0) ≡ false
no_space_case x xs true e h = rw (one_plus (prefix_len is_space xs)) h
no_space_case x xs false e h = λ more. sym e

-- behind all spaces at the front stands none
pub no_space : (t : List ℕ) → 0 < length (drop (prefix_len is_space t) t) → is_space (get_or (drop (prefix_len is_space t) t) 0 0) ≡ false
no_space [] more = absurd (omega arith)
no_space (x ∷ xs) more = no_space_case x xs (is_space x) refl (no_space xs) more

pub no_words : (t : List ℕ) → (length t == 0) ≡ true → words t ≡ []
no_words [] e = refl
no_words (x ∷ xs) e = absurd (omega (arith, eqb-true (length (x ∷ xs)) 0 e))

has_some : (t : List ℕ) → (length t == 0) ≡ false → 0 < length t
has_some [] e = absurd (cc)
has_some (x ∷ xs) e = omega arith

-- the first word, as the code cuts it
pub word_at : (t : List ℕ) (len : ℕ) → len ≡ position_or_len is_space t → (length t == 0) ≡ false → (0 < length t → is_space (get_or t 0 0) ≡ false) →
    words t ≡ take len t ∷ words (take (length t - len) (drop len t))
word_at t len e some_bytes begins =
    rw (take_rest t len, e) (begins_word t (has_some t some_bytes) (begins (has_some t some_bytes)))

pub word_shorter : (t : List ℕ) (len : ℕ) → len ≡ position_or_len is_space t → (length t == 0) ≡ false → (0 < length t → is_space (get_or t 0 0) ≡ false) →
    length (take (length t - len) (drop len t)) < length t
word_shorter t len e some_bytes begins =
    let more = has_some t some_bytes in
    let byte = has_byte t more (begins more) in
    rw (take_rest t len) (omega (arith, length-drop len t, e))
