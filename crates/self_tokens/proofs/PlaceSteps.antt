-- The line and the column of the next byte.
use Rattle.std.proofs.Common.{◌≡◌, ◌≤◌, ◌<◌, ◌+◌, ◌-◌, ℕ, List, true, false, not, length, get_or, take, refl, arith}
use Rattle.std.proofs.lemmas.List.Sums.{count_by-le-length, count_by_more_yes, count_by_more_no, suffix_len-take_yes, suffix_len-take_no, suffix_len-le-length}
use Rattle.std.proofs.lemmas.List.{length-take-le}
use Rattle.self_tokens.specs.Tokens.{IsPlace, is_newline}

back : (n : ℕ) → n + 1 - 1 ≡ n
back n = omega arith

pub first_place : (bytes : List ℕ) → IsPlace bytes 0 1 1
first_place bytes = record { line_is = refl; column_is = refl }

pub behind_newline : (bytes : List ℕ) (at line column : ℕ) → at < length bytes → get_or bytes at 0 ≡ 10 → IsPlace bytes at line column → IsPlace bytes (at + 1) (line + 1) 1
behind_newline bytes at line column lt b p =
    let yes : is_newline (get_or bytes at 0) ≡ true = rw b refl in
    let stops : not (is_newline (get_or bytes (at + 1 - 1) 0)) ≡ false = rw (back at, b) refl in
    let more = count_by_more_yes is_newline bytes at 0 lt yes in
    let none = suffix_len-take_no (λ x. not (is_newline x)) bytes (at + 1) 0 (omega arith) (omega arith) stops in
    record { line_is = omega arith; column_is = omega arith }

pub behind_other : (bytes : List ℕ) (at line column : ℕ) → at < length bytes → is_newline (get_or bytes at 0) ≡ false → IsPlace bytes at line column → IsPlace bytes (at + 1) line (column + 1)
behind_other bytes at line column lt b p =
    let goes : not (is_newline (get_or bytes (at + 1 - 1) 0)) ≡ true = rw (back at, b) refl in
    let more = count_by_more_no is_newline bytes at 0 lt b in
    let one = rw (back at) at (suffix_len-take_yes (λ x. not (is_newline x)) bytes (at + 1) 0 (omega arith) (omega arith) goes) in
    record { line_is = omega arith; column_is = omega arith }

pub place_small : (bytes : List ℕ) (at line column : ℕ) → at ≤ length bytes → IsPlace bytes at line column → (line ≤ at + 1) × (column ≤ at + 1)
place_small bytes at line column le p =
    let n = length-take-le at bytes le in
    let a = count_by-le-length is_newline (take at bytes) in
    let b = suffix_len-le-length (λ x. not (is_newline x)) (take at bytes) in
    (omega arith, omega arith)
