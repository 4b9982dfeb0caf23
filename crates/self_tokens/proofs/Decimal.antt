-- Numbers that decimal digits write.
use Rattle.std.proofs.Common.{◌≡◌, ◌≤◌, ◌<◌, ◌*◌, ◌+◌, ◌-◌, ℕ, List, [], ◌∷◌, length, drop, get_or, refl, add-one, drop-cons, arith}
use Rattle.self_tokens.specs.Forms.{decimal_from}

-- More digits write no smaller number.
pub decimal_from_ge : (n : ℕ) (digits : List ℕ) → n ≤ decimal_from n digits
decimal_from_ge n [] = omega arith
decimal_from_ge n (d ∷ digits) = let h = decimal_from_ge (n * 10 + (d - 48)) digits in omega arith

pub decimal_from_next : (ds : List ℕ) (i v : ℕ) → i < length ds → decimal_from v (drop i ds) ≡ decimal_from (v * 10 + (get_or ds i 0 - 48)) (drop (i + 1) ds)
decimal_from_next ds i v lt = rw (add-one, drop-cons ds i 0) refl

pub decimal_from_over : (ds : List ℕ) (i v t : ℕ) → i < length ds → decimal_from v (drop i ds) ≡ t → v * 10 + (get_or ds i 0 - 48) ≤ t
decimal_from_over ds i v t lt e =
    let h = decimal_from_ge (v * 10 + (get_or ds i 0 - 48)) (drop (i + 1) ds) in
    let n = decimal_from_next ds i v lt in
    omega arith
