-- What a sink took of what a command writes.
use Rattle.std.proofs.Common.{◌≡◌, ℕ, ◌+◌, List, [], ◌++◌, take, append_assoc, append-nil, length, length-append, arith, sym}
use Rattle.std.specs.Prelude.{Option, Some, None}
use Rattle.std.proofs.lemmas.List.{take-append-le}
use Rattle.std.proofs.Math.Seq.{take-append-add}
use Rattle.io_ports.specs.Causes.{Takes, TakesFront}

-- nothing
pub takes_none : (taken : Option (List ℕ)) → Takes taken taken []
takes_none None = tt
takes_none (Some xs) = sym (append-nil xs)

pub no_front : (taken : Option (List ℕ)) (xs : List ℕ) → TakesFront taken taken xs
no_front taken xs = (0, omega arith, takes_none taken)

takes_same : (old new : Option (List ℕ)) (xs ys : List ℕ) → ys ≡ xs → Takes old new xs → Takes old new ys
takes_same old new xs ys e t = rw e t

-- a front of the first of two
pub front_of_first : (old new : Option (List ℕ)) (xs ys : List ℕ) → TakesFront old new xs → TakesFront old new (xs ++ ys)
front_of_first old new xs ys (n, le, t) = (n, omega (arith, length-append xs ys), takes_same old new (take n xs) (take n (xs ++ ys)) (take-append-le n xs ys le) t)

-- What was taken of two lines, one after the other: both whole, or the first whole and a front of the second.
pub takes_both : (a b c : Option (List ℕ)) (xs ys : List ℕ) → Takes a b xs → Takes b c ys → Takes a c (xs ++ ys)
takes_both a b None xs ys h k = tt
takes_both a None (Some z) xs ys h k = absurd k
takes_both None (Some y) (Some z) xs ys h k = absurd h
takes_both (Some x) (Some y) (Some z) xs ys h k = rw (k, h) (append_assoc x xs ys)

pub front_of_both : (a b c : Option (List ℕ)) (xs ys : List ℕ) → Takes a b xs → TakesFront b c ys → TakesFront a c (xs ++ ys)
front_of_both a b c xs ys h (n, le, k) =
    (length xs + n, omega (arith, length-append xs ys), takes_same a c (xs ++ take n ys) (take (length xs + n) (xs ++ ys)) (take-append-add xs ys n) (takes_both a b c xs (take n ys) h k))
