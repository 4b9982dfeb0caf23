-- What a sink took of two lines, one after the other.
use Rattle.std.proofs.Common.{◌≡◌, ℕ, ◌+◌, ◌≤◌, List, ◌++◌, length, take, append_assoc, append-nil, arith, length-append, ap, sym, subst, []}
use Rattle.std.specs.Prelude.{Option, Some, None, Result, Ok, Err, OnOk}
use Rattle.std.proofs.lemmas.List.{take-append-le}
use Rattle.std.proofs.Math.Seq.{take-append-add}
use Rattle.io_ports.specs.Causes.{Takes, TakesFront}
use Rattle.self_debugger.specs.Answer.{Answer}
use Rattle.self_debugger.specs.Headline.{Outcome}

-- both whole
pub takes_both : (a b c : Option (List ℕ)) (xs ys : List ℕ) → Takes a b xs → Takes b c ys → Takes a c (xs ++ ys)
takes_both a b None xs ys h k = tt
takes_both a None (Some z) xs ys h k = absurd k
takes_both None (Some y) (Some z) xs ys h k = absurd h
takes_both (Some x) (Some y) (Some z) xs ys h k = rw (k, h) (append_assoc x xs ys)

takes_same : (a b : Option (List ℕ)) (xs ys : List ℕ) → ys ≡ xs → Takes a b xs → Takes a b ys
takes_same a b xs ys e h = rw e h

-- a front of the first is a front of both
pub front_of_first : (a b : Option (List ℕ)) (xs ys : List ℕ) → TakesFront a b xs → TakesFront a b (xs ++ ys)
front_of_first a b xs ys (n, le, h) = (n, omega (arith, length-append xs ys), takes_same a b (take n xs) (take n (xs ++ ys)) (take-append-le n xs ys le) h)

-- the first whole, and a front of the second
pub front_of_both : (a b c : Option (List ℕ)) (xs ys : List ℕ) → Takes a b xs → TakesFront b c ys → TakesFront a c (xs ++ ys)
front_of_both a b c xs ys h (n, le, k) =
    (length xs + n, omega (arith, length-append xs ys), takes_same a c (xs ++ take n ys) (take (length xs + n) (xs ++ ys)) (take-append-add xs ys n) (takes_both a b c xs (take n ys) h k))

-- a front of the first line
pub front_of_line : (a b : Option (List ℕ)) (bytes xs ys : List ℕ) → bytes ≡ xs → TakesFront a b bytes → TakesFront a b (xs ++ ys)
front_of_line a b bytes xs ys e h = front_of_first a b xs ys (rw (← e) h)

-- the whole first line, and the second line or a front of it, which is the last
pub takes_lines : (a b c : Option (List ℕ)) (first second xs ys : List ℕ) → first ≡ xs → second ≡ ys → Takes a b first → Takes b c second → Takes a c (xs ++ (ys ++ []))
takes_lines a b c first second xs ys e f h k =
    let whole : xs ++ (ys ++ []) ≡ xs ++ ys = ap (λ z. xs ++ z) (append-nil ys) in
    takes_same a c (xs ++ ys) (xs ++ (ys ++ [])) whole (takes_both a b c xs ys (takes_same a b first xs (sym e) h) (takes_same b c second ys (sym f) k))

pub front_of_lines : (a b c : Option (List ℕ)) (first second xs ys : List ℕ) → first ≡ xs → second ≡ ys → Takes a b first → TakesFront b c second → TakesFront a c (xs ++ (ys ++ []))
front_of_lines a b c first second xs ys e f h k =
    let P : List ℕ → Type 0 = λ z. TakesFront b c z in
    let Q : List ℕ → Type 0 = λ z. TakesFront a c (xs ++ z) in
    subst Q (sym (append-nil ys)) (front_of_both a b c xs ys (takes_same a b first xs (sym e) h) (subst P f k))

-- nothing is taken
pub takes_none : (a : Option (List ℕ)) → Takes a a []
takes_none None = tt
takes_none (Some x) = sym (append-nil x)

pub no_front : (a : Option (List ℕ)) (xs : List ℕ) → TakesFront a a xs
no_front a xs = (0, omega arith, takes_none a)

-- after a fault or want of memory, where nothing was written
pub no_answer : (status : ℕ) (a : Answer) (old : Option (List ℕ)) → 4 ≤ status → Outcome status a old old
no_answer status a old late = record { done = λ early. absurd (omega (arith, late, early)); front = λ _. no_front old a.0 }

-- what is so where a call went well
pub ok_on : {T E : Type 0} (r : Result T E) {P Q : Type 0} → OnOk r P → (P → Q) → OnOk r Q
ok_on (Ok t) p f = f p
ok_on (Err e) p f = tt
