-- What a sink took of pieces, one after the other.
use Rattle.std.proofs.Common.{◌≡◌, ℕ, ◌+◌, List, [], ◌++◌, length, take, append_assoc, append-nil, arith, length-append, sym}
use Rattle.std.specs.Prelude.{Option, Some, None, Result, Ok, Err, OnOk, OnErr}
use Rattle.std.proofs.lemmas.List.{take-append-le}
use Rattle.std.proofs.Math.Seq.{take-append-add}
use Rattle.io_ports.specs.Causes.{Takes, TakesFront}

-- both whole
pub takes_both : (a b c : Option (List ℕ)) (xs ys : List ℕ) → Takes a b xs → Takes b c ys → Takes a c (xs ++ ys)
takes_both a b None xs ys h k = tt
takes_both a None (Some z) xs ys h k = absurd k
takes_both None (Some y) (Some z) xs ys h k = absurd h
takes_both (Some x) (Some y) (Some z) xs ys h k = rw (k, h) (append_assoc x xs ys)

pub takes_same : (a b : Option (List ℕ)) (xs ys : List ℕ) → ys ≡ xs → Takes a b xs → Takes a b ys
takes_same a b xs ys e h = rw e h

-- a front of the first is a front of both
pub front_of_first : (a b : Option (List ℕ)) (xs ys : List ℕ) → TakesFront a b xs → TakesFront a b (xs ++ ys)
front_of_first a b xs ys (n, le, h) = (n, omega (arith, length-append xs ys), takes_same a b (take n xs) (take n (xs ++ ys)) (take-append-le n xs ys le) h)

-- the first whole, and a front of the second
pub front_of_both : (a b c : Option (List ℕ)) (xs ys : List ℕ) → Takes a b xs → TakesFront b c ys → TakesFront a c (xs ++ ys)
front_of_both a b c xs ys h (n, le, k) =
    (length xs + n, omega (arith, length-append xs ys), takes_same a c (xs ++ take n ys) (take (length xs + n) (xs ++ ys)) (take-append-add xs ys n) (takes_both a b c xs (take n ys) h k))

-- nothing is taken
pub takes_none : (a : Option (List ℕ)) → Takes a a []
takes_none None = tt
takes_none (Some x) = sym (append-nil x)

pub no_front : (a : Option (List ℕ)) (xs : List ℕ) → TakesFront a a xs
no_front a xs = (0, omega arith, takes_none a)

-- results
pub on_err : {T E : Type 0} (r : Result T E) (P : Type 0) → P → OnErr r P
on_err (Ok v) P p = tt
on_err (Err e) P p = p

pub ok_so : {T E : Type 0} (r : Result T E) (P Q : Type 0) → (P → Q) → OnOk r P → OnOk r Q
ok_so (Ok v) P Q f p = f p
ok_so (Err e) P Q f p = tt

pub err_so : {T E : Type 0} (r : Result T E) (P Q : Type 0) → (P → Q) → OnErr r P → OnErr r Q
err_so (Ok v) P Q f p = tt
err_so (Err e) P Q f p = f p
