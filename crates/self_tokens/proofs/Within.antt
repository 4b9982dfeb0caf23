-- Each piece lies within the bytes that it begins.
use Rattle.std.proofs.Common.{◌≡◌, ◌≤◌, ◌<◌, ◌+◌, ℕ, Bool, true, false, not, cond, List, [], ◌∷◌, length, take, drop, refl, subst, inl, inr, arith}
use Rattle.std.specs.Prelude.{◌==◌, ◌&&◌, ◌||◌, nat_le, slice_index}
use Rattle.std.specs.List.{prefix_len}
use Rattle.std.specs.Char.{is_ascii_digit, is_ascii_lowercase, is_ascii_uppercase}
use Rattle.std.proofs.lemmas.List.{length-drop, length-take-le, get_or_past}
use Rattle.std.proofs.lemmas.List.Sums.{prefix_len-le-length}
use Rattle.std.proofs.lemmas.Bool.{cases_lt}
use Rattle.std.proofs.lemmas.Grind.{common_steps}
use Rattle.self_tokens.specs.Classes.{is_blank, is_word_byte, is_operator_byte, is_no_comment_mark}
use Rattle.self_tokens.specs.Forms.{LiesWithin, comment, decimal, number, integer, runs_on, text_len, sound_len, string, is_sent_to, name, primitive, capital, argument, single, worded, is_signed, whole, piece}
use Rattle.self_tokens.specs.declared.forms.Piece.{Piece}

chosen : (b : Bool) (x y : Piece) (n : ℕ) → (b ≡ true → LiesWithin x n) → (b ≡ false → LiesWithin y n) → LiesWithin (cond b x y) n
chosen true x y n h k = h refl
chosen false x y n h k = k refl

-- A front whose first element passes has an element.
first_passes : (p : ℕ → Bool) (rest : List ℕ) → 0 < length rest → p (slice_index rest 0) ≡ true → 1 ≤ prefix_len p rest
first_passes p [] some h = absurd (omega arith)
first_passes p (b ∷ rest) some h = rw h (omega arith)

text_len_le : (e : Bool) (rest : List ℕ) → text_len e rest ≤ length rest
text_len_le e [] = omega arith
text_len_le true (b ∷ rest) = let h = text_len_le false rest in omega arith
text_len_le false (b ∷ rest) = let h = text_len_le (b == 92) rest in grind arith

sound_len_le : (e : Bool) (rest : List ℕ) → sound_len e rest ≤ length rest
sound_len_le e [] = omega arith
sound_len_le true (b ∷ rest) = let h = sound_len_le false rest in grind arith
sound_len_le false (b ∷ rest) = let h = sound_len_le (b == 92) rest in omega arith

is_not : (a b : ℕ) → (a == b) ≡ false → a ≡ b → ⊥
is_not a b h = grind arith

number_within : (negative : Bool) (value n size : ℕ) → 1 ≤ n → n ≤ size → LiesWithin (number negative value n) size
number_within negative value n size pos le =
    chosen (nat_le value (cond negative 536870912 536870911)) _ _ size (λ h. (pos, le)) (λ h. omega arith)

comment_within : (rest : List ℕ) → LiesWithin (comment rest) (length rest + 1)
comment_within rest =
    let le = prefix_len-le-length is_no_comment_mark rest in
    chosen (prefix_len is_no_comment_mark rest == length rest) _ _ (length rest + 1)
    (λ h. omega arith)
    (λ h. let ne = is_not (prefix_len is_no_comment_mark rest) (length rest) h in (omega arith, omega arith))

integer_within : (negative : Bool) (sign : ℕ) (rest : List ℕ) → 0 < length rest → is_ascii_digit (slice_index rest 0) ≡ true →
    LiesWithin (integer negative sign rest) (sign + length rest)
integer_within negative sign rest some h =
    let le = prefix_len-le-length is_ascii_digit rest in
    let pos = first_passes is_ascii_digit rest some h in
    chosen (runs_on (drop (prefix_len is_ascii_digit rest) rest)) _ _ (sign + length rest)
    (λ e. omega arith)
    (λ e. number_within negative (decimal (take (prefix_len is_ascii_digit rest) rest)) (sign + prefix_len is_ascii_digit rest) (sign + length rest) (omega arith) (omega arith))

string_within : (rest : List ℕ) → LiesWithin (string rest) (length rest + 1)
string_within rest =
    let le = text_len_le false rest in
    let s = sound_len_le false (take (text_len false rest) rest) in
    let t = length-take-le (text_len false rest) rest le in
    chosen (text_len false rest == length rest) _ _ (length rest + 1)
    (λ h. omega arith)
    (λ h. let ne = is_not (text_len false rest) (length rest) h in
    chosen (sound_len false (take (text_len false rest) rest) == text_len false rest) _ _ (length rest + 1)
    (λ e. (omega arith, omega arith))
    (λ e. omega arith))

or_right : (a : Bool) → (a || true) ≡ true
or_right true = refl
or_right false = refl

or_left : (a b : Bool) → a ≡ true → (a || b) ≡ true
or_left a b h = rw h refl

and_first : (a b : Bool) → (a && b) ≡ true → a ≡ true
and_first true b h = refl
and_first false b h = cc

and_second : (a b : Bool) → (a && b) ≡ true → b ≡ true
and_second true b h = h
and_second false b h = cc

lower_is_word : (b : ℕ) → is_ascii_lowercase b ≡ true → is_word_byte b ≡ true
lower_is_word b h = grind (arith, common_steps)

upper_is_word : (b : ℕ) → is_ascii_uppercase b ≡ true → is_word_byte b ≡ true
upper_is_word b h = grind (arith, common_steps)

underscore_is_word : (b : ℕ) → (b == 95) ≡ true → is_word_byte b ≡ true
underscore_is_word b h = grind (arith, common_steps)

has_byte : (rest : List ℕ) (b : ℕ) → 0 < b → (slice_index rest 0 == b) ≡ true → 0 < length rest
has_byte [] b p h = absurd (grind arith)
has_byte (x ∷ rest) b p h = omega arith

-- a byte behind a front
behind : (rest : List ℕ) (n b : ℕ) → 0 < b → (slice_index (drop n rest) 0 == b) ≡ true → n + 1 ≤ length rest
behind rest n b p h =
    let some = has_byte (drop n rest) b p h in
    let l = length-drop n rest in
    omega arith

name_within : (rest : List ℕ) → 0 < length rest → is_word_byte (slice_index rest 0) ≡ true → LiesWithin (name rest) (length rest)
name_within rest some h =
    let le = prefix_len-le-length is_word_byte rest in
    let pos = first_passes is_word_byte rest some h in
    chosen (slice_index (drop (prefix_len is_word_byte rest) rest) 0 == 58) _ _ (length rest)
    (λ e. let more = behind rest (prefix_len is_word_byte rest) 58 (omega arith) e in (omega arith, more))
    (λ e. chosen (is_sent_to (drop (prefix_len is_word_byte rest) rest)) _ _ (length rest)
    (λ d. let more = behind rest (prefix_len is_word_byte rest) 46 (omega arith) (and_first _ _ d) in (omega arith, more))
    (λ d. (pos, le)))

primitive_within : (rest : List ℕ) → 0 < length rest → is_word_byte (slice_index rest 0) ≡ true → LiesWithin (primitive rest) (length rest)
primitive_within rest some h =
    let le = prefix_len-le-length is_word_byte rest in
    let pos = first_passes is_word_byte rest some h in
    chosen (prefix_len is_word_byte rest == 1) _ _ (length rest)
    (λ e. omega arith)
    (λ e. chosen (slice_index (drop (prefix_len is_word_byte rest) rest) 0 == 58) _ _ (length rest)
    (λ d. let more = behind rest (prefix_len is_word_byte rest) 58 (omega arith) d in (omega arith, more))
    (λ d. (pos, le)))

capital_within : (rest : List ℕ) → 0 < length rest → is_word_byte (slice_index rest 0) ≡ true → LiesWithin (capital rest) (length rest)
capital_within rest some h =
    chosen (slice_index (drop (prefix_len is_word_byte rest) rest) 0 == 58) _ _ (length rest)
    (λ d. let more = behind rest (prefix_len is_word_byte rest) 58 (omega arith) d in (omega arith, more))
    (λ d. omega arith)

argument_within : (rest : List ℕ) → 0 < length rest → LiesWithin (argument rest) (length rest)
argument_within rest some =
    let le = prefix_len-le-length is_word_byte (drop 1 rest) in
    let l = length-drop 1 rest in
    chosen (is_ascii_lowercase (slice_index rest 1)) _ _ (length rest)
    (λ e. (omega arith, omega arith))
    (λ e. omega arith)

single_within : (b size : ℕ) → 0 < size → LiesWithin (single b) size
single_within b size some =
    let one : (1 ≤ 1) × (1 ≤ size) = (omega arith, some) in
    chosen (b == 40) _ _ size (λ h. one)
    (λ h. chosen (b == 41) _ _ size (λ i. one)
    (λ i. chosen (b == 91) _ _ size (λ j. one)
    (λ j. chosen (b == 93) _ _ size (λ k. one)
    (λ k. chosen (b == 124) _ _ size (λ l. one)
    (λ l. chosen (b == 46) _ _ size (λ m. one)
    (λ m. chosen (b == 94) _ _ size (λ n. one) (λ n. omega arith)))))))

worded_within : (rest : List ℕ) → 0 < length rest → LiesWithin (worded (slice_index rest 0) rest) (length rest)
worded_within rest some =
    let b = slice_index rest 0 in
    chosen (is_ascii_lowercase b) _ _ (length rest)
    (λ h. name_within rest some (lower_is_word b h))
    (λ h. chosen (b == 95) _ _ (length rest)
    (λ i. primitive_within rest some (underscore_is_word b i))
    (λ i. chosen (is_ascii_uppercase b) _ _ (length rest)
    (λ j. capital_within rest some (upper_is_word b j))
    (λ j. chosen (b == 58) _ _ (length rest) (λ k. argument_within rest some) (λ k. single_within b (length rest) some))))

no_digit : (b : ℕ) → b ≡ 0 → is_ascii_digit b ≡ true → ⊥
no_digit b e h = grind (arith, common_steps)

digit_is_byte : (rest : List ℕ) (n : ℕ) → is_ascii_digit (slice_index rest n) ≡ true → n < length rest
digit_is_byte rest n h =
    elim (cases_lt n (length rest)) [
      | inl lt ↦ lt
      | inr le ↦ absurd (no_digit (slice_index rest n) (get_or_past rest n 0 le) h)
    ]

drop_index : (rest : List ℕ) → slice_index (drop 1 rest) 0 ≡ slice_index rest 1
drop_index [] = refl
drop_index (b ∷ rest) = refl

whole_within : (behind_operand : Bool) (rest : List ℕ) → 0 < length rest → LiesWithin (whole behind_operand rest) (length rest)
whole_within behind_operand rest some =
    let b = slice_index rest 0 in
    let l = length-drop 1 rest in
    let none : 0 + length rest ≡ length rest = omega arith in
    let front : 1 + length (drop 1 rest) ≡ length rest = omega arith in
    let tail : length (drop 1 rest) + 1 ≡ length rest = omega arith in
    chosen (is_ascii_digit b) _ _ (length rest)
    (λ h. subst (λ n. LiesWithin (integer false 0 rest) n) none (integer_within false 0 rest some h))
    (λ h. chosen (is_signed behind_operand rest) _ _ (length rest)
    (λ i.
    let digit = and_second (not behind_operand && (b == 45)) (is_ascii_digit (slice_index rest 1)) i in
    let there = digit_is_byte rest 1 digit in
    let first = drop_index rest in
    subst (λ n. LiesWithin (integer true 1 (drop 1 rest)) n) front (integer_within true 1 (drop 1 rest) (omega arith) (rw first digit)))
    (λ i. chosen (is_operator_byte b) _ _ (length rest)
    (λ j. let pos = first_passes is_operator_byte rest some j in (pos, prefix_len-le-length is_operator_byte rest))
    (λ j. chosen (b == 39) _ _ (length rest)
    (λ k. subst (λ n. LiesWithin (string (drop 1 rest)) n) tail (string_within (drop 1 rest)))
    (λ k. worded_within rest some))))

pub piece_within : (behind_operand : Bool) (rest : List ℕ) → 0 < length rest → LiesWithin (piece behind_operand rest) (length rest)
piece_within behind_operand rest some =
    let b = slice_index rest 0 in
    let l = length-drop 1 rest in
    let tail : length (drop 1 rest) + 1 ≡ length rest = omega arith in
    chosen (is_blank b) _ _ (length rest)
    (λ h. let pos = first_passes is_blank rest some h in (pos, prefix_len-le-length is_blank rest))
    (λ h. chosen (b == 34) _ _ (length rest)
    (λ i. subst (λ n. LiesWithin (comment (drop 1 rest)) n) tail (comment_within (drop 1 rest)))
    (λ i. whole_within behind_operand rest some))
