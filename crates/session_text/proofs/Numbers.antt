-- Numbers that decimal digits write.
use Rattle.std.proofs.Common.{◌≡◌, ◌≤◌, ◌<◌, ◌*◌, ◌+◌, ◌-◌, ℕ, List, [], ◌∷◌, length, drop, get_or, refl, add-one, drop-cons, arith}
use Rattle.session_text.specs.Words.{value_from}

-- More digits write no smaller number.
pub value_from_ge : (n : ℕ) (digits : List ℕ) → n ≤ value_from n digits
value_from_ge n [] = omega arith
value_from_ge n (d ∷ digits) = let h = value_from_ge (n * 10 + (d - 48)) digits in omega arith

pub value_from_next : (ds : List ℕ) (i v : ℕ) → i < length ds → value_from v (drop i ds) ≡ value_from (v * 10 + (get_or ds i 0 - 48)) (drop (i + 1) ds)
value_from_next ds i v lt = rw (add-one, drop-cons ds i 0) refl

pub value_from_over : (ds : List ℕ) (i v t : ℕ) → i < length ds → value_from v (drop i ds) ≡ t → v * 10 + (get_or ds i 0 - 48) ≤ t
value_from_over ds i v t lt e =
    let h = value_from_ge (v * 10 + (get_or ds i 0 - 48)) (drop (i + 1) ds) in
    let n = value_from_next ds i v lt in
    omega arith
