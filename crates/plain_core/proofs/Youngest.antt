-- On until the youngest activation is gone: a step at a time, while there are as many activations.
use Rattle.std.proofs.Common.{◌≡◌, ℕ, zero, suc, ◌+◌, ◌-◌, ◌*◌, ◌<◌, ◌≤◌, List, [], ◌∷◌, ◌++◌, length, refl, ◌∙◌, ap, sym, subst, arith, inl, inr}
use Rattle.std.specs.Prelude.{Bool, true, Option, Some, slice_get, take, drop, codes}
use Rattle.io_ports.specs.Causes.{Takes, TakesFront}
use Rattle.source_model.specs.Formed.{IsWellFormed}
use Rattle.source_model.specs.Lasting.{fewer}
use Rattle.source_model.specs.Names.{number_of}
use Rattle.source_model.specs.Script.{until, finish}
use Rattle.source_model.specs.State.{Activation, Activity, Running, State, Reached, silent}
use Rattle.source_model.specs.Step.{step, onward, run}
use Rattle.source_model.proofs.Finishing.{finishes}
use Rattle.source_model.proofs.Runs.{stops_now, goes_on, until_first}
use Rattle.plain_runs.specs.Host.{Host}
use Rattle.plain_runs.specs.declared.status.Status.TheVariants.{Waiting}
use Rattle.plain_begins.specs.Begins.{CanPark, AtPoll, Idle}
use Rattle.plain_stretches.specs.Printing.{printed}
use Rattle.plain_stretches.proofs.Further.{run_keeps, printed_run}
use Rattle.plain_turns.specs.Asking.{count}
use Rattle.plain_turns.specs.Resting.{Rests}
use Rattle.plain_turns.specs.Rooms.{unmade}
use Rattle.plain_core.specs.Finishing.{HasCome, HasStopped, IsAsDeep, IsOver}
use Rattle.plain_core.specs.Language.{Language, IsSpoken}
use Rattle.plain_core.specs.Running.{CanRun, HasRunOn, HasBroken}
use Rattle.plain_core.specs.declared.running.Counts.{Counts}
use Rattle.plain_core.proofs.Counting.{step_counts}
use Rattle.plain_core.proofs.Depths.{counts_all}
use Rattle.plain_core.proofs.Fronts.{takes_more, then_more, taken_front}
use Rattle.plain_core.proofs.Rounds.{unmade_fits}

-- Steps.

-- a step, and what was printed before
onward_is : (s t : State) (before out : List ℕ) → run 1 (silent s) ≡ printed t out → onward (printed s before) ≡ printed t (before ++ out)
unfolding run
onward_is s t before out e = printed_run 1 s t before out e

-- it leaves the state one of the session
spoken_on : (l : Language) (s t : State) (out : List ℕ) → run 1 (silent s) ≡ printed t out → IsSpoken l s → IsSpoken l t
spoken_on l s t out e sp =
    let P : Reached → Type 0 = λ r. IsSpoken l r.state in
    let k = run_keeps 1 (silent s) in
    subst P e (record { names = k.names ∙ sp.names; core = k.core ∙ sp.core; fixed = k.fixed ∙ sp.fixed; failure = ap (λ (ns : List (List ℕ)). number_of ns (codes "value:With:")) k.names ∙ sp.failure })

-- and counts at most one
few_more : (s t : State) (out : List ℕ) → run 1 (silent s) ≡ printed t out → t.steps ≤ s.steps + 1
unfolding run
few_more s t out e =
    let P : Reached → Type 0 = λ r. r.state.steps ≤ s.steps + 1 in
    subst P e (elim (step_counts s).steps [ inl same ↦ omega (arith, same) | inr one ↦ omega (arith, one) ])

-- what is printed on the way stands behind what was printed before
until_further : (passes : State → Bool) (n : ℕ) (s : State) (before : List ℕ) → (rest : List ℕ) × ((until passes n (printed s before)).out ≡ before ++ rest)
until_further passes n s before =
    let u = until_first passes n (printed s before) in
    let r = run u.0 (silent s) in
    (r.out, ap (λ (q : Reached). q.out) (u.2 ∙ printed_run u.0 s r.state before r.out refl))

-- where it passes, nothing more is done
until_stays : (passes : State → Bool) (n : ℕ) (r : Reached) → passes r.state ≡ true → until passes n r ≡ r
unfolding until
until_stays passes zero r e = refl
until_stays passes (suc n) r e = stops_now passes n r e

until_none : (passes : State → Bool) (r : Reached) → until passes 0 r ≡ r
unfolding until
until_none passes r = refl

-- How far a finish has come.

-- of all that it does, so many steps at most are left, from a state for which machine and host stand
pub record IsOnward (l : Language) (to : Host) (whole : Reached) (left depth : ℕ) (said : List ℕ) : Type 0 where
  pub state : State
  pub rests : Rests to state
  pub spoken : IsSpoken l state
  pub rest : whole ≡ until (fewer depth) left (printed state said)

abbrev pub GoesOnward : Language → Host → Host → ℕ → ℕ → ℕ → List ℕ → Type 0
GoesOnward l h to n left depth said = (s : State) (all : List Activation) → Rests h s → IsSpoken l s → slice_get s.activities s.current ≡ Some (Running all) → IsOnward l to (finish n all (silent s)) left depth said

-- a state of the session for which they stand
abbrev pub StandsNow : Language → Host → Type 0
StandsNow l h = (s : State) × Rests h s × IsSpoken l s

pub can_run : (l : Language) (h : Host) (depth : ℕ) → StandsNow l h → IsAsDeep depth h → CanRun l h
can_run l h depth s d = record { state = s.0; rests = s.1; spoken = s.2; sp = d.sp; pc = d.pc; known = d.known; waits = d.waits }

-- The beginning.

some_parked : (h : Host) (sp pc known : ℕ) → slice_get h.statuses h.current ≡ Some (Waiting sp pc known) → CanPark h → 0 < h.machine.regs 4
some_parked h sp pc known is (AtPoll b n node at) = (let count = at.view.count in omega (arith, count))
some_parked h sp pc known is (Idle none) = absurd (none sp pc known is)

same_running : (xs ys : List Activation) → ◌≡◌ {A = Option Activity} (Some (Running xs)) (Some (Running ys)) → xs ≡ ys
same_running xs ys e = cc

by_count : (n depth : ℕ) (s : State) (all : List Activation) → IsWellFormed s → slice_get s.activities s.current ≡ Some (Running all) → length all ≡ depth → 0 < depth → finish n all (silent s) ≡ until (fewer depth) n (silent s)
by_count n depth s [] formed here long some = absurd (omega (arith, long, some))
by_count n depth s (a ∷ older) formed here long some = finishes n (silent s) a older formed here ∙ ap (λ (d : ℕ). until (fewer d) n (silent s)) long

pub begins_onward : (l : Language) (h : Host) (n depth : ℕ) → CanRun l h → depth ≡ h.machine.regs 4 → GoesOnward l h h n n depth []
begins_onward l h n depth c is s all rests spoken here =
    let a = counts_all h s rests c.sp c.pc c.known c.waits in
    let some = some_parked h c.sp c.pc c.known c.waits rests.parks in
    let same : all ≡ a.0 = same_running all a.0 (sym here ∙ a.1) in
    record { state = s; rests = rests; spoken = spoken; rest = by_count n depth s all rests.formed here (ap length same ∙ a.2 ∙ sym is) (omega (arith, some, is)) }

-- A step more.

module _ (l : Language) (mid to : Host) (c : Counts) (old new : Option (List ℕ)) (ran : HasRunOn 1 c l mid to old new) where
  module _ (s : State) (rests : Rests mid s) (spoken : IsSpoken l s) where
    one : run 1 (silent s) ≡ printed (ran.runs s rests spoken).state ran.said
    one = let e : 1 ≡ s.steps + 1 - s.steps = omega arith in ap (λ (k : ℕ). run k (silent s)) e ∙ (ran.runs s rests spoken).runs

    still_spoken : IsSpoken l (ran.runs s rests spoken).state
    still_spoken = spoken_on l s (ran.runs s rests spoken).state ran.said one spoken

  pub still_stands : StandsNow l mid → StandsNow l to
  still_stands s = let y = ran.runs s.0 s.1 s.2 in (y.state, y.rests, still_spoken s.0 s.1 s.2)

  pub counts_one : StandsNow l mid → count to ≤ count mid + 1
  counts_one s =
      let y = ran.runs s.0 s.1 s.2 in
      let before = s.1.sound.stands.stands.steps in
      let after = y.rests.sound.stands.stands.steps in
      let few = few_more s.0 y.state ran.said (one s.0 s.1 s.2) in
      omega (arith, before, after, few)

  pub goes_onward : (h : Host) (n left depth : ℕ) (said : List ℕ) → GoesOnward l h mid n (suc left) depth said → IsAsDeep depth mid → GoesOnward l h to n left depth (said ++ ran.said)
  goes_onward h n left depth said on deep s all rests spoken here =
      let x = on s all rests spoken here in
      let y = ran.runs x.state x.rests x.spoken in
      record {
        state = y.state;
        rests = y.rests;
        spoken = still_spoken x.state x.rests x.spoken;
        rest = x.rest ∙ goes_on (fewer depth) left (printed x.state said) (deep.deep x.state x.rests) ∙ ap (until (fewer depth) left) (onward_is x.state y.state said ran.said (one x.state x.rests x.spoken));
      }

-- so many are left as there are
pub left_as : (l : Language) (h to : Host) (n j k depth : ℕ) (said : List ℕ) → j ≡ k → GoesOnward l h to n j depth said → GoesOnward l h to n k depth said
left_as l h to n j k depth said e on = subst (λ (i : ℕ). GoesOnward l h to n i depth said) e on

-- The end: no step is left, or the youngest activation is gone.

comes_by : (to : Host) (whole : Reached) (state : State) (said : List ℕ) → Rests to state → whole ≡ printed state said → HasCome to whole said
comes_by to whole state said rests e = record { rests = subst (λ (q : Reached). Rests to q.state) (sym e) rests; printed = ap (λ (q : Reached). q.out) e }

pub none_left : (l : Language) (h to : Host) (n left depth : ℕ) (said : List ℕ) → left ≡ 0 → GoesOnward l h to n left depth said → (s : State) (all : List Activation) → Rests h s → IsSpoken l s → slice_get s.activities s.current ≡ Some (Running all) → HasCome to (finish n all (silent s)) said
none_left l h to n left depth said none on s all rests spoken here =
    let x = on s all rests spoken here in
    comes_by to (finish n all (silent s)) x.state said x.rests (x.rest ∙ ap (λ (k : ℕ). until (fewer depth) k (printed x.state said)) none ∙ until_none (fewer depth) (printed x.state said))

pub is_gone : (l : Language) (h to : Host) (n left depth : ℕ) (said : List ℕ) → IsOver depth to → GoesOnward l h to n left depth said → (s : State) (all : List Activation) → Rests h s → IsSpoken l s → slice_get s.activities s.current ≡ Some (Running all) → HasCome to (finish n all (silent s)) said
is_gone l h to n left depth said over on s all rests spoken here =
    let x = on s all rests spoken here in
    comes_by to (finish n all (silent s)) x.state said x.rests (x.rest ∙ until_stays (fewer depth) left (printed x.state said) (over x.state x.rests))

-- Where a step breaks off.

taken_apart : (n : ℕ) (xs : List ℕ) → take n xs ++ drop n xs ≡ xs
taken_apart zero xs = refl
taken_apart (suc n) [] = refl
taken_apart (suc n) (x ∷ xs) = ap (λ (ys : List ℕ). x ∷ ys) (taken_apart n xs)

in_parts : (k : ℕ) (said line rest : List ℕ) → (said ++ line) ++ rest ≡ (said ++ take k line) ++ (drop k line ++ rest)
in_parts k said line rest =
    let front = take k line in
    let back = drop k line in
    ap (λ (ys : List ℕ). (said ++ ys) ++ rest) (sym (taken_apart k line))
    ∙ ap (λ (ys : List ℕ). ys ++ rest) (sym (then_more said front back))
    ∙ then_more (said ++ front) back rest

pub stops : (l : Language) (h mid : Host) (n left depth : ℕ) (said : List ℕ) (old taken new : Option (List ℕ)) → GoesOnward l h mid n (suc left) depth said → IsAsDeep depth mid → Takes old taken said → HasBroken 1 l mid taken new → HasStopped n l h old new
unfolding run
stops l h mid n left depth said old taken new on deep takes b s all rests spoken here =
    let x = on s all rests spoken here in
    let t = b x.state x.rests x.spoken in
    let line = (step x.state).out in
    let more = until_further (fewer depth) left (step x.state).state (said ++ line) in
    taken_front old new (said ++ take t.0 line) (drop t.0 line ++ more.0) (finish n all (silent s)).out (takes_more old taken new said (take t.0 line) takes t.2)
    (ap (λ (q : Reached). q.out) (x.rest ∙ goes_on (fewer depth) left (printed x.state said) (deep.deep x.state x.rests)) ∙ more.1 ∙ in_parts t.0 said line more.0)

-- How many units may still be put.
pub few_units : (l : Language) (h : Host) → CanRun l h → unmade h.entries ≤ 209708
few_units l h c =
    let room = c.rests.ready.room in
    let left = room.left in
    let fits = unmade_fits h.entries h.bodies room.each in
    omega (arith, left, fits)
