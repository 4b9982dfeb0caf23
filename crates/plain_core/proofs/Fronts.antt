-- What a sink took is a front of what the source prints.
use Rattle.std.proofs.Common.{◌≡◌, ℕ, zero, suc, ◌+◌, ◌-◌, ◌≤◌, List, [], ◌∷◌, ◌++◌, refl, ◌∙◌, ap, sym, subst, arith}
use Rattle.std.specs.Prelude.{Option, Some, None, Result, Ok, Err, OnErr, length, take, drop}
use Rattle.io_ports.specs.Causes.{Takes, TakesFront}
use Rattle.source_model.specs.State.{State, Reached, silent}
use Rattle.source_model.specs.Step.{run}
use Rattle.plain_runs.specs.Host.{Host}
use Rattle.plain_runs.specs.Course.{with_machine}
use Rattle.plain_stretches.specs.Printing.{printed}
use Rattle.plain_stretches.specs.Standing.{left_of}
use Rattle.plain_turns.specs.Resting.{IsGoing, IsAtTrap}
use Rattle.plain_core.specs.Language.{Language, IsSpoken}
use Rattle.plain_core.specs.Turning.{Breaks}
use Rattle.plain_stretches.proofs.Joining.{runs_join}

-- what holds of every error
pub any_err : {T E : Type 0} (P : Type 0) (r : Result T E) → P → OnErr r P
any_err P (Ok x) p = tt
any_err P (Err e) p = p

pub no_more : (xs : List ℕ) → xs ++ [] ≡ xs
no_more [] = refl
no_more (x ∷ xs) = ap (λ (ys : List ℕ). x ∷ ys) (no_more xs)

pub then_more : (xs ys zs : List ℕ) → (xs ++ ys) ++ zs ≡ xs ++ (ys ++ zs)
then_more [] ys zs = refl
then_more (x ∷ xs) ys zs = ap (λ (ws : List ℕ). x ∷ ws) (then_more xs ys zs)

-- A sink that took nothing; one that took some, and more; some and a front of more.
pub takes_none : (taken : Option (List ℕ)) → Takes taken taken []
takes_none None = tt
takes_none (Some xs) = sym (no_more xs)

pub takes_more : (old mid new : Option (List ℕ)) (xs ys : List ℕ) → Takes old mid xs → Takes mid new ys → Takes old new (xs ++ ys)
takes_more old mid None xs ys a b = tt
takes_more old None (Some zs) xs ys a b = absurd b
takes_more None (Some ws) (Some zs) xs ys a b = absurd a
takes_more (Some vs) (Some ws) (Some zs) xs ys a b = b ∙ ap (λ (l : List ℕ). l ++ ys) a ∙ then_more vs xs ys

-- A run that was reached by so many steps goes on to a front of what more steps print.
pub goes_further : (done more all : ℕ) (from state : State) (out : List ℕ) → run done (silent from) ≡ printed state out → all ≡ done + more → (rest : List ℕ) × ((run all (silent from)).out ≡ out ++ rest)
goes_further done more all from state out runs is =
    let r = run more (silent state) in
    (r.out, ap (λ (k : ℕ). (run k (silent from)).out) is ∙ ap (λ (q : Reached). q.out) (runs_join done more from state r.state out r.out runs refl))

pub trap_front : (h : Host) (trap : ℕ) (from : State) (target : ℕ) (out : List ℕ) → IsAtTrap h trap from target out → (rest : List ℕ) × ((run (target - from.steps) (silent from)).out ≡ out ++ rest)
trap_front h trap from target out x =
    let left = left_of (with_machine h x.last) in
    let counted = x.counted in
    let left_is = x.left_is in
    goes_further x.done left (target - from.steps) from x.state out x.runs (omega (arith, counted, left_is))

pub going_front : (h : Host) (from : State) (target : ℕ) (out : List ℕ) → IsGoing h from target out → (rest : List ℕ) × ((run (target - from.steps) (silent from)).out ≡ out ++ rest)
going_front h from target out g =
    let s = g.stretch in
    let left = left_of (with_machine h s.last) in
    let counted = g.counted in
    let left_is = g.left_is in
    let still = s.still in
    let runs = runs_join g.done s.steps from g.state s.state g.before s.out g.runs s.runs ∙ ap (printed s.state) (sym g.out_is) in
    goes_further (g.done + s.steps) left (target - from.steps) from s.state out runs (omega (arith, counted, left_is, still))

-- At each trap nothing more was taken, or what was printed by then is a front of what a run prints.
pub breaks_here : (l : Language) (trap : ℕ) (h : Host) (target : ℕ) (taken : Option (List ℕ)) → Breaks l trap h target taken taken
breaks_here l trap h target taken = record {
  said = [];
  takes = takes_none taken;
  front = λ from out spoken x. let f = trap_front h trap from target out x in (f.0, f.1 ∙ ap (λ (ys : List ℕ). ys ++ f.0) (sym (no_more out)));
}

taken_apart : (n : ℕ) (xs : List ℕ) → take n xs ++ drop n xs ≡ xs
taken_apart zero xs = refl
taken_apart (suc n) [] = refl
taken_apart (suc n) (x ∷ xs) = ap (λ (ys : List ℕ). x ∷ ys) (taken_apart n xs)

-- A front of a line that leads on was taken.
pub breaks_within : (l : Language) (trap : ℕ) (h : Host) (target : ℕ) (old new : Option (List ℕ)) (line : List ℕ) → TakesFront old new line
    → ((from : State) (out : List ℕ) → IsSpoken l from → IsAtTrap h trap from target out → (rest : List ℕ) × ((run (target - from.steps) (silent from)).out ≡ (out ++ line) ++ rest)) → Breaks l trap h target old new
breaks_within l trap h target old new line t more = record {
  said = take t.0 line;
  takes = t.2;
  front = λ from out spoken x.
      let m = more from out spoken x in
      (drop t.0 line ++ m.0, m.1 ∙ ap (λ (ys : List ℕ). (out ++ ys) ++ m.0) (sym (taken_apart t.0 line)) ∙ ap (λ (ys : List ℕ). ys ++ m.0) (sym (then_more out (take t.0 line) (drop t.0 line))) ∙ then_more (out ++ take t.0 line) (drop t.0 line) m.0);
}

pub breaks_behind : (l : Language) (trap : ℕ) (h : Host) (target : ℕ) (old new : Option (List ℕ)) (line : List ℕ) → Takes old new line
    → ((from : State) (out : List ℕ) → IsSpoken l from → IsAtTrap h trap from target out → (rest : List ℕ) × ((run (target - from.steps) (silent from)).out ≡ (out ++ line) ++ rest)) → Breaks l trap h target old new
breaks_behind l trap h target old new line t more = record {
  said = line;
  takes = t;
  front = more;
}

take_front : (xs ys : List ℕ) → take (length xs) (xs ++ ys) ≡ xs
take_front [] ys = refl
take_front (x ∷ xs) ys = ap (λ (zs : List ℕ). x ∷ zs) (take_front xs ys)

front_fits : (xs ys : List ℕ) → length xs ≤ length (xs ++ ys)
front_fits [] ys = omega arith
front_fits (x ∷ xs) ys = let k = front_fits xs ys in omega (arith, k)

-- What was taken in front of the rest is a front of all.
pub taken_front : (old new : Option (List ℕ)) (said rest all : List ℕ) → Takes old new said → all ≡ said ++ rest → TakesFront old new all
taken_front old new said rest all t e =
    let P : List ℕ → Type 0 = λ ys. TakesFront old new ys in
    subst P (sym e) (length said, front_fits said rest, subst (λ (ys : List ℕ). Takes old new ys) (sym (take_front said rest)) t)
