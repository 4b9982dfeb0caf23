-- The command `finish` obeyed.
use Rattle.std.proofs.Common.{◌≡◌, ◌≢◌, ℕ, ◌+◌, ◌<◌, ◌≤◌, refl, ◌∙◌, ap, sym, subst, arith, inl, inr, append_assoc}
use Rattle.std.specs.Prelude.{◌++◌, List, [], ◌∷◌, length, Option, Some, None, slice_get, codes}
use Rattle.std.proofs.lemmas.Option.{slice_get_within}
use Rattle.self_terms.specs.declared.errors.ErrorName.{ErrorName}
use Rattle.self_terms.specs.declared.nodes.Place.{Place}
use Rattle.self_terms.specs.declared.values.Value.{Value}
use Rattle.source_model.specs.Lines.{line, run_line}
use Rattle.source_model.specs.Script.{refused, over, with_run_line, lacks, finish}
use Rattle.source_model.specs.State.{Activation, Running, Answered, Failed, State, Reached, silent}
use Rattle.source_model.specs.Step.{run}
use Rattle.source_model.proofs.Runs.{until_first}
use Rattle.plain_host.specs.Hosted.{Hosted, host}
use Rattle.plain_runs.specs.Host.{Host}
use Rattle.plain_begins.proofs.Starting.{activities_agree}
use Rattle.plain_stretches.specs.Printing.{printed}
use Rattle.plain_turns.specs.Asking.{count}
use Rattle.plain_turns.specs.Resting.{Rests}
use Rattle.plain_core.specs.Finishing.{HasCome, HasFinished, HasStopped}
use Rattle.plain_core.specs.Language.{Language}
use Rattle.plain_core.specs.Leading.{Stays, Runs}
use Rattle.plain_core.specs.declared.running.Counts.{Counts}
use Rattle.run_lines.specs.Standing.{IsStanding, GoesOn}
use Rattle.run_lines.specs.declared.current.Standing.TheVariants as standings
use Rattle.plain_session.specs.Commands.{finishes}
use Rattle.plain_session.specs.Sessions.{Session, host_of, Shows, IsShown, Obeys, HasObeyed, HasBroken, IsLed}
use Rattle.plain_session.proofs.Fronts.{front_of_first}
use Rattle.plain_session.proofs.Running.{RunsOn, run_remains, as_behind}
use Rattle.plain_session.proofs.Writing.{finish_behind, finish_text}
use Rattle.plain_session.proofs.Obeying.{Follows, shows_after, counts_as, current_as, refused_as, of_parts, none_beyond, goes_inside, are_led}

-- Where nothing runs.

none_over : (n : ℕ) (q : Reached) → slice_get q.state.activities q.state.current ≡ None → finishes n q ≡ refused (codes "no activity") q
unfolding finishes
none_over n q e = ap (λ a. over a (λ all r. with_run_line (finish n all r)) q) e

running_over : (n : ℕ) (q : Reached) (all : List Activation) → slice_get q.state.activities q.state.current ≡ Some (Running all) → finishes n q ≡ with_run_line (finish n all q)
unfolding finishes
running_over n q all e = ap (λ a. over a (λ all r. with_run_line (finish n all r)) q) e

answered_over : (n : ℕ) (q : Reached) (v : Value) → slice_get q.state.activities q.state.current ≡ Some (Answered v) → finishes n q ≡ refused (codes "ended") q
unfolding finishes
answered_over n q v e = ap (λ a. over a (λ all r. with_run_line (finish n all r)) q) e

failed_over : (n : ℕ) (q : Reached) (x : ErrorName) (p : Place) → slice_get q.state.activities q.state.current ≡ Some (Failed x p) → finishes n q ≡ refused (codes "ended") q
unfolding finishes
failed_over n q x p e = ap (λ a. over a (λ all r. with_run_line (finish n all r)) q) e

pub nobody_finishes : (x : Session) (n : ℕ) → ((s : State) → Rests (host_of x) s → IsStanding s standings.Nobody) → Obeys x x (finishes n) (line (codes "refused no activity"))
nobody_finishes x n is q sh = refused_as x (finishes n) (codes "no activity") q sh (none_over n q (is q.state sh.rests))

pub ended_finishes : (x : Session) (n : ℕ) → ((s : State) → Rests (host_of x) s → IsStanding s standings.Ended) → Obeys x x (finishes n) (line (codes "refused ended"))
ended_finishes x n is q sh = elim (is q.state sh.rests) [
  | inl a ↦ refused_as x (finishes n) (codes "ended") q sh (answered_over n q a.0 a.1)
  | inr f ↦ refused_as x (finishes n) (codes "ended") q sh (failed_over n q f.0 f.1 f.2)
]

-- Where the current activity goes on: it does some steps, at most so many.

finish_runs : (n : ℕ) (all : List Activation) (q : Reached) → (k : ℕ) × (k ≤ n) × (finish n all q ≡ run k q)
unfolding run
finish_runs n [] q = (0, omega arith, refl)
finish_runs n (a ∷ older) q = let u = until_first (lacks a.number) n q in (u.0, u.1, u.2)

at_most : (k n : ℕ) (s t : State) → k ≤ n → RunsOn k s t → RunsOn n s t
at_most k n s t le r = record { fixed = r.fixed; few = (let few = r.few in omega (arith, few, le)); current = r.current; activities = r.activities }

finish_remains : (n : ℕ) (all : List Activation) (q : Reached) → RunsOn n q.state (finish n all q).state
finish_remains n all q =
    let j = finish_runs n all q in
    subst (λ (t : Reached). RunsOn n q.state t.state) (sym j.2) (at_most j.0 n q.state (run j.0 q).state j.1 (run_remains j.0 q))

module _ (x y : Session) (n : ℕ) (f : Follows x y) (k : Counts) (old new : Option (List ℕ)) (done : HasFinished n k x.language (host_of x) (host_of y) old new) where
  module _ (q : Reached) (sh : Shows x q.state) (all : List Activation) (here : slice_get q.state.activities q.state.current ≡ Some (Running all)) where
    abbrev ended : Reached
    ended = finish n all (silent q.state)

    come : HasCome (host_of y) ended done.said
    come = done.finishes q.state all sh.rests sh.spoken here

    on : RunsOn n q.state ended.state
    on = finish_remains n all (silent q.state)

    shows_end : Shows y ended.state
    shows_end = shows_after x y q.state ended.state f sh come.rests on.fixed

    counts_few : count (host_of y) ≤ count (host_of x) + n
    counts_few = let a = counts_as (host_of x) q.state sh.rests in let b = counts_as (host_of y) ended.state come.rests in let few = on.few in omega (arith, a, b, few)

    -- there is still a current activity
    current_there : GoesOn (host_of x) → (host_of y).current < length (host_of y).statuses
    current_there g =
        let many = activities_agree sh.rests.sense (host_of x) q.state sh.rests.sound.stands in
        let still = activities_agree come.rests.sense (host_of y) ended.state come.rests.sound.stands in
        let was = slice_get_within (host_of x).statuses (host_of x).current _ g.3 in
        let before = current_as (host_of x) q.state sh.rests in
        let after = current_as (host_of y) ended.state come.rests in
        let same = on.current in
        let all_there = on.activities in
        omega (arith, many, still, was, before, after, same, all_there)

    ends_so : finish n all q ≡ printed ended.state (q.out ++ done.said)
    ends_so = ap (finish n all) (as_behind q) ∙ finish_behind n all q.out (silent q.state) ∙ ap (λ (o : List ℕ). printed ended.state (q.out ++ o)) come.printed

    finish_obeyed : (text : List ℕ) → text ≡ run_line ended.state → Shows y (finishes n q).state × ((finishes n q).out ≡ q.out ++ (done.said ++ text))
    finish_obeyed text says =
        let e : finishes n q ≡ with_run_line (printed ended.state (q.out ++ done.said)) = running_over n q all here ∙ ap with_run_line ends_so in (
          subst (λ (t : Reached). Shows y t.state) (sym e) shows_end,
          ap (λ (t : Reached). t.out) e ∙ append_assoc q.out done.said (run_line ended.state) ∙ ap (λ t. q.out ++ (done.said ++ t)) (sym says),
        )

  all_obeyed : (text : List ℕ) → ((s : State) → Rests (host_of x) s → IsStanding s standings.Goes) → ((s : State) → Rests (host_of y) s → s.core ≡ y.language.core → text ≡ run_line s) → HasObeyed x y (finishes n) old new text
  all_obeyed text goes says = record {
    said = done.said;
    takes = done.takes;
    obeys = λ q sh.
        let g = goes q.state sh.rests in
        finish_obeyed q sh g.0 g.1 text (says (ended q sh g.0 g.1).state (come q sh g.0 g.1).rests (shows_end q sh g.0 g.1).spoken.core);
  }

-- Where it breaks off.

stopped : (x : Session) (n : ℕ) (old new : Option (List ℕ)) → ((s : State) → Rests (host_of x) s → IsStanding s standings.Goes) → HasStopped n x.language (host_of x) old new → HasBroken x (finishes n) old new
stopped x n old new goes broke q sh =
    let g = goes q.state sh.rests in
    let t = finish n g.0 (silent q.state) in
    (t.out ++ run_line t.state, ap (λ (r : Reached). r.out) (running_over n q g.0 g.1) ∙ finish_text n g.0 q, front_of_first old new t.out (run_line t.state) (broke q.state g.0 sh.rests sh.spoken g.1))

module _ (x : Session) (old : Hosted) (room : ℕ) (language : Language) (i v : ℕ) (is : of_parts old room language i v ≡ x) where
  pub stopped_inside : (n : ℕ) (taken now : Option (List ℕ)) → ((s : State) → Rests (host_of x) s → IsStanding s standings.Goes) → HasStopped n language (host old) taken now → HasBroken x (finishes n) taken now
  stopped_inside n taken now goes broke = subst (λ (z : Session). HasBroken z (finishes n) taken now) is (stopped (of_parts old room language i v) n taken now (goes_inside x old room language i v is goes) broke)

-- A session's parts before and behind it.
module _ (x : Session) (old new : Hosted) (room after : ℕ) (language : Language) (i v j w : ℕ) (is : of_parts old room language i v ≡ x) (shown : IsShown x) (references : (host new).references ≡ (host old).references) (roomy : (host new).next ≤ after) where
  abbrev before : Session
  before = of_parts old room language i v

  abbrev now : Session
  now = of_parts new after language j w

  shown_before : IsShown before
  shown_before = subst IsShown (sym is) shown

  follows : Follows before now
  follows = record { language = refl; references = references; room = roomy }

  module _ (n : ℕ) (k : Counts) (taken told : Option (List ℕ)) (done : HasFinished n k language (host old) (host new) taken told) (goes : (s : State) → Rests (host_of x) s → IsStanding s standings.Goes) where
    runs : IsStanding shown_before.0 standings.Goes
    runs = goes_inside x old room language i v is goes shown_before.0 shown_before.1.rests

    shows_now : Shows now (ended before now n follows k taken told done (silent shown_before.0) shown_before.1 runs.0 runs.1).state
    shows_now = shows_end before now n follows k taken told done (silent shown_before.0) shown_before.1 runs.0 runs.1

    pub finished_rests : (s : State) × Rests (host new) s × (s.core ≡ language.core)
    finished_rests = ((ended before now n follows k taken told done (silent shown_before.0) shown_before.1 runs.0 runs.1).state, shows_now.rests, shows_now.spoken.core)

    pub finished_counts : count (host new) ≤ count (host_of x) + n
    finished_counts =
        let few = counts_few before now n follows k taken told done (silent shown_before.0) shown_before.1 runs.0 runs.1 in
        subst (λ (z : Session). count (host new) ≤ count (host_of z) + n) is few

    pub finished_there : GoesOn (host_of x) → slice_get (host new).statuses (host new).current ≢ None
    finished_there on e =
        let there = current_there before now n follows k taken told done (silent shown_before.0) shown_before.1 runs.0 runs.1 (subst (λ (z : Session). GoesOn (host_of z)) (sym is) on) in
        let beyond = none_beyond (host new).statuses (host new).current e in
        omega (arith, there, beyond)

    pub finished_led : j ≡ i + k.instructions → w ≡ v + k.services → IsLed x now
    finished_led e f = are_led x old new room after language i v j w is shown references roomy (0 + k.instructions) (0 + k.services) (Runs 0 0 k.instructions k.services (host old) (host new) Stays done.reached) (omega (arith, e)) (omega (arith, f))

    pub finished_obeys : (text : List ℕ) → ((s : State) → Rests (host new) s → s.core ≡ language.core → text ≡ run_line s) → HasObeyed x now (finishes n) taken told text
    finished_obeys text says =
        let Q : Session → Type 0 = λ z. HasObeyed z now (finishes n) taken told text in
        subst Q is (all_obeyed before now n follows k taken told done text (λ s r. goes s (subst (λ (z : Session). Rests (host_of z) s) is r)) says)
