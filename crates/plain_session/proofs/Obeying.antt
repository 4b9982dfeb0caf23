-- Commands obeyed.
use Rattle.std.proofs.Common.{◌≡◌, ◌≢◌, ℕ, zero, suc, ◌+◌, ◌-◌, ◌^◌, ◌<◌, ◌≤◌, refl, ◌∙◌, ap, sym, subst, arith, inl, inr, append_assoc}
use Rattle.std.specs.Prelude.{◌++◌, nat_le, if◌then◌else◌, List, [], ◌∷◌, length, Option, Some, None, Result, Ok, Err, IfOk, OnOk, OnErr, slice_get, codes}
use Rattle.std.proofs.lemmas.Bool.{cond-true, cond-false, le-leb, lt-leb}
use Rattle.std.proofs.lemmas.Option.{slice_get_within}
use Rattle.self_terms.specs.declared.errors.ErrorName.{ErrorName}
use Rattle.self_terms.specs.declared.nodes.Place.{Place}
use Rattle.self_terms.specs.declared.values.Value.{Value}
use Rattle.source_model.specs.Formed.{arity}
use Rattle.source_model.specs.Lines.{line, activity_line, run_line}
use Rattle.source_model.specs.Names.{number_of}
use Rattle.source_model.specs.Script.{refused, spawn, switch, over, with_run_line}
use Rattle.source_model.specs.State.{Activation, Activity, Running, Answered, Failed, State, Reached, silent}
use Rattle.source_model.specs.Texts.{error_text}
use Rattle.source_model.specs.Step.{run}
use Rattle.plain_host.specs.Hosted.{Hosted, host}
use Rattle.plain_runs.specs.Host.{Host}
use Rattle.plain_runs.specs.declared.status.Status.{Status}
use Rattle.raw_steps.specs.Fixed.{IsFixed}
use Rattle.plain_begins.proofs.Starting.{activities_agree}
use Rattle.plain_stretches.specs.Printing.{printed}
use Rattle.plain_turns.specs.Asking.{count}
use Rattle.plain_turns.specs.Resting.{Rests, HasRun}
use Rattle.plain_births.specs.Meeting.{message}
use Rattle.plain_core.specs.Language.{Language, IsSpoken, KnowsCore}
use Rattle.plain_core.specs.Leading.{Leads, Stays, Runs}
use Rattle.plain_core.specs.Running.{CanRun, HasRunOn, HasBroken as RunBroke}
use Rattle.plain_core.specs.Spawning.{IsBirth, IsRefused, HasBegun, Comes}
use Rattle.plain_core.specs.declared.running.Counts.{Counts}
use Rattle.plain_core.specs.declared.spawning.Birth.{Birth}
use Rattle.plain_core.specs.declared.spawning.Birth.TheVariants.{Begun, Refused, NotAMethod, TooMany}
use Rattle.run_lines.specs.Standing.{IsStanding, GoesOn}
use Rattle.run_lines.specs.declared.current.Standing.TheVariants as standings
use Rattle.session_text.specs.declared.commands.Command.{Command}
use Rattle.session_text.specs.declared.commands.Command.TheVariants as commands
use Rattle.plain_session.specs.Commands.{obeyed, steps_on, goes_to, finishes, stacks}
use Rattle.plain_session.specs.Sessions.{Session, host_of, Shows, IsShown, Obeys, HasObeyed, HasBroken, IsLed, CountsFew, birth_text}
use Rattle.plain_session.proofs.Running.{RunsOn, run_remains, run_from}
use Rattle.plain_session.proofs.Writing.{spawn_writes, run_text}
use Rattle.plain_session.proofs.Keeping.{spawn_keeps}
use Rattle.plain_session.proofs.Fronts.{takes_none, no_front, front_of_first}
use Rattle.plain_session.proofs.Knowing.{still_spoken, still_known, still_short}

-- Machine and host count the steps of the state, and have its current activity.
pub counts_as : (h : Host) (s : State) → Rests h s → count h ≡ s.steps
counts_as h s r = r.sound.stands.stands.steps

pub current_as : (h : Host) (s : State) → Rests h s → h.current ≡ s.current
current_as h s r = r.sound.stands.stands.current

-- Spawns.

-- another session, with the same knowledge of the language
pub record Follows (x y : Session) : Type 0 where
  pub language : y.language ≡ x.language
  pub references : (host_of y).references ≡ (host_of x).references
  pub room : (host_of y).next ≤ y.room

pub shows_after : (x y : Session) (s t : State) → Follows x y → Shows x s → Rests (host_of y) t → IsFixed s t → Shows y t
shows_after x y s t f sh r fixed = record {
  rests = r;
  spoken = subst (λ (l : Language). IsSpoken l t) (sym f.language) (still_spoken x.language s t fixed sh.spoken);
  known = subst (λ (l : Language). KnowsCore (host_of y) l) (sym f.language) (still_known (host_of x) (host_of y) x.language f.references sh.known);
  room = f.room;
  short = still_short s t fixed sh.short;
}

module _ (x y : Session) (name : List ℕ) (f : Follows x y) where
  shows_spawned : (q : Reached) (t : State) → Shows x q.state → Rests (host_of y) t → (spawn name q).state ≡ t → Shows y (spawn name q).state
  shows_spawned q t sh r e =
      let k = spawn_keeps q name in
      shows_after x y q.state (spawn name q).state f sh (subst (λ (s : State). Rests (host_of y) s) (sym e) r) k.0

  abbrev Obeyed : Reached → List ℕ → Type 0
  Obeyed q text = Shows y (spawn name q).state × ((spawn name q).out ≡ q.out ++ text)

  refuses : (why : List ℕ) (q : Reached) → Shows x q.state → IsRefused why (host_of x) (host_of y) q name → Obeyed q (line (codes "refused " ++ why))
  refuses why q sh r = (
    shows_spawned q q.state sh (subst (λ (h : Host). Rests h q.state) (sym r.same) sh.rests) (ap (λ (t : Reached). t.state) r.refuses),
    ap (λ (t : Reached). t.out) r.refuses,
  )

  begins : (q : Reached) → Shows x q.state → HasBegun (host_of y) q name → Obeyed q (birth_text (host_of y) Begun)
  begins q sh b = (
    shows_spawned q b.state sh b.rests (ap (λ (t : Reached). t.state) b.comes),
    ap (λ (t : Reached). t.out) b.comes ∙ ap (λ n. q.out ++ activity_line (n + 1)) (sym (current_as (host_of y) b.state b.rests)),
  )

  comes : (b : Birth) (q : Reached) → Shows x q.state → Comes (host_of x) (host_of y) q name b → Obeyed q (birth_text (host_of y) b)
  comes Begun q sh c = begins q sh c
  comes (Refused e) q sh c = refuses (error_text e) q sh c
  comes NotAMethod q sh c = refuses (codes "not a method") q sh c
  comes TooMany q sh c = refuses (codes "too many activities") q sh c

  spawn_obeyed : (b : Birth) (number : ℕ) (text : List ℕ) → number ≡ number_of x.language.names name → arity name ≡ 0 → IsBirth (host_of x) (host_of y) number b → text ≡ birth_text (host_of y) b → Obeys x y (spawn name) text
  spawn_obeyed b number text is none birth says q sh =
      let named : message q.state name ≡ number = ap (λ ns. number_of ns name) sh.spoken.names ∙ sym is in
      let o = comes b q sh (birth q name sh.rests named none) in
      (o.0, o.1 ∙ ap (λ t. q.out ++ t) (sym says))

-- Where memory is wanting, nothing is written.
spawn_breaks : (x : Session) (name : List ℕ) (taken : Option (List ℕ)) → HasBroken x (spawn name) taken taken
spawn_breaks x name taken q sh = let w = spawn_writes name q in (w.0, w.1, no_front taken w.0)

-- Runs.

over_none : (n : ℕ) (q : Reached) → slice_get q.state.activities q.state.current ≡ None → steps_on n q ≡ refused (codes "no activity") q
unfolding steps_on
over_none n q e = ap (λ a. over a (λ all r. with_run_line (run n r)) q) e

over_running : (n : ℕ) (q : Reached) (all : List Activation) → slice_get q.state.activities q.state.current ≡ Some (Running all) → steps_on n q ≡ with_run_line (run n q)
unfolding steps_on
over_running n q all e = ap (λ a. over a (λ all r. with_run_line (run n r)) q) e

over_answered : (n : ℕ) (q : Reached) (v : Value) → slice_get q.state.activities q.state.current ≡ Some (Answered v) → steps_on n q ≡ refused (codes "ended") q
unfolding steps_on
over_answered n q v e = ap (λ a. over a (λ all r. with_run_line (run n r)) q) e

over_failed : (n : ℕ) (q : Reached) (x : ErrorName) (p : Place) → slice_get q.state.activities q.state.current ≡ Some (Failed x p) → steps_on n q ≡ refused (codes "ended") q
unfolding steps_on
over_failed n q x p e = ap (λ a. over a (λ all r. with_run_line (run n r)) q) e

refused_obeys : (x : Session) (n : ℕ) (why : List ℕ) (q : Reached) → Shows x q.state → steps_on n q ≡ refused why q → Shows x (steps_on n q).state × ((steps_on n q).out ≡ q.out ++ line (codes "refused " ++ why))
refused_obeys x n why q sh e = (subst (λ (t : Reached). Shows x t.state) (sym e) sh, ap (λ (t : Reached). t.out) e)

pub nobody_obeys : (x : Session) (n : ℕ) → ((s : State) → Rests (host_of x) s → IsStanding s standings.Nobody) → Obeys x x (steps_on n) (line (codes "refused no activity"))
nobody_obeys x n is q sh = refused_obeys x n (codes "no activity") q sh (over_none n q (is q.state sh.rests))

pub ended_obeys : (x : Session) (n : ℕ) → ((s : State) → Rests (host_of x) s → IsStanding s standings.Ended) → Obeys x x (steps_on n) (line (codes "refused ended"))
ended_obeys x n is q sh = elim (is q.state sh.rests) [
  | inl a ↦ refused_obeys x n (codes "ended") q sh (over_answered n q a.0 a.1)
  | inr f ↦ refused_obeys x n (codes "ended") q sh (over_failed n q f.0 f.1 f.2)
]

module _ (x y : Session) (n : ℕ) (f : Follows x y) (k : Counts) (old new : Option (List ℕ)) (ran : HasRunOn n k x.language (host_of x) (host_of y) old new) where
  module _ (q : Reached) (sh : Shows x q.state) where
    pub has : HasRun (host_of y) q.state (q.state.steps + n) ran.said
    has = ran.runs q.state sh.rests sh.spoken

    pub so_many : q.state.steps + n - q.state.steps ≡ n
    so_many = omega arith

    pub runs_to : run n q ≡ printed has.state (q.out ++ ran.said)
    runs_to = run_from n q has.state ran.said (ap (λ k. run k (silent q.state)) (sym so_many) ∙ has.runs)

    pub on : RunsOn n q.state has.state
    on = subst (λ (t : Reached). RunsOn n q.state t.state) runs_to (run_remains n q)

    pub shows_run : Shows y has.state
    shows_run = shows_after x y q.state has.state f sh has.rests on.fixed

    pub counts_few : count (host_of y) ≤ count (host_of x) + n
    counts_few = let a = counts_as (host_of x) q.state sh.rests in let b = counts_as (host_of y) has.state has.rests in let few = on.few in omega (arith, a, b, few)

    -- there is still a current activity
    pub current_there : GoesOn (host_of x) → (host_of y).current < length (host_of y).statuses
    current_there g =
        let many = activities_agree sh.rests.sense (host_of x) q.state sh.rests.sound.stands in
        let still = activities_agree has.rests.sense (host_of y) has.state has.rests.sound.stands in
        let was = slice_get_within (host_of x).statuses (host_of x).current _ g.3 in
        let before = current_as (host_of x) q.state sh.rests in
        let after = current_as (host_of y) has.state has.rests in
        let same = on.current in
        let all = on.activities in
        omega (arith, many, still, was, before, after, same, all)

    goes_obeyed : (all : List Activation) (text : List ℕ) → slice_get q.state.activities q.state.current ≡ Some (Running all) → text ≡ run_line has.state → Shows y (steps_on n q).state × ((steps_on n q).out ≡ q.out ++ (ran.said ++ text))
    goes_obeyed all text here says =
        let e : steps_on n q ≡ with_run_line (printed has.state (q.out ++ ran.said)) = over_running n q all here ∙ ap with_run_line runs_to in (
          subst (λ (t : Reached). Shows y t.state) (sym e) shows_run,
          ap (λ (t : Reached). t.out) e ∙ append_assoc q.out ran.said (run_line has.state) ∙ ap (λ t. q.out ++ (ran.said ++ t)) (sym says),
        )

  pub run_obeyed : (text : List ℕ) → ((s : State) → Rests (host_of x) s → IsStanding s standings.Goes) → ((s : State) → Rests (host_of y) s → s.core ≡ y.language.core → text ≡ run_line s) → HasObeyed x y (steps_on n) old new text
  run_obeyed text goes says = record {
    said = ran.said;
    takes = ran.takes;
    obeys = λ q sh. let g = goes q.state sh.rests in goes_obeyed q sh g.0 text g.1 (says (has q sh).state (has q sh).rests (shows_run q sh).spoken.core);
  }

-- A run that broke off.
pub run_broken : (x : Session) (n : ℕ) (old new : Option (List ℕ)) → ((s : State) → Rests (host_of x) s → IsStanding s standings.Goes) → RunBroke n x.language (host_of x) old new → HasBroken x (steps_on n) old new
run_broken x n old new goes broke q sh =
    let g = goes q.state sh.rests in
    let t = run n (silent q.state) in
    (t.out ++ run_line t.state, ap (λ (r : Reached). r.out) (over_running n q g.0 g.1) ∙ run_text n q, front_of_first old new t.out (run_line t.state) (broke q.state sh.rests sh.spoken))

-- Runs to a count of steps.

abbrev Onward : ℕ → List Activation → Reached → Reached
Onward n all q = if nat_le q.state.steps n then with_run_line (run (n - q.state.steps) q) else refused (codes "past") q

continues_over : (n : ℕ) (x : Option Activity) (q : Reached) → q.state.steps ≤ n → over x (Onward n) q ≡ over x (λ all r. with_run_line (run (n - q.state.steps) r)) q
continues_over n None q le = refl
continues_over n (Some (Running all)) q le = cond-true (nat_le q.state.steps n) _ _ (le-leb q.state.steps n le)
continues_over n (Some (Answered v)) q le = refl
continues_over n (Some (Failed e p)) q le = refl

continues_as : (n k : ℕ) (q : Reached) → q.state.steps ≤ n → k ≡ n - q.state.steps → goes_to n q ≡ steps_on k q
unfolding goes_to steps_on
continues_as n k q le e = continues_over n (slice_get q.state.activities q.state.current) q le ∙ ap (λ m. over (slice_get q.state.activities q.state.current) (λ all r. with_run_line (run m r)) q) (sym e)

module _ (x : Session) (n k done : ℕ) (is : done ≡ count (host_of x)) (le : done ≤ n) (left : k ≡ n - done) where
  same_run : (q : Reached) → Shows x q.state → goes_to n q ≡ steps_on k q
  same_run q sh = let steps = is ∙ counts_as (host_of x) q.state sh.rests in continues_as n k q (omega (arith, steps, le)) (left ∙ ap (λ m. n - m) steps)

  pub continue_obeyed : (y : Session) (old new : Option (List ℕ)) (text : List ℕ) → HasObeyed x y (steps_on k) old new text → HasObeyed x y (goes_to n) old new text
  continue_obeyed y old new text o = record {
    said = o.said;
    takes = o.takes;
    obeys = λ q sh. subst (λ (t : Reached). Shows y t.state × (t.out ≡ q.out ++ (o.said ++ text))) (sym (same_run q sh)) (o.obeys q sh);
  }

  pub continue_broken : (old new : Option (List ℕ)) → HasBroken x (steps_on k) old new → HasBroken x (goes_to n) old new
  continue_broken old new b q sh = let t = b q sh in (t.0, ap (λ (r : Reached). r.out) (same_run q sh) ∙ t.1, t.2)

past_over : (n : ℕ) (all : List Activation) (x : Option Activity) (q : Reached) → x ≡ Some (Running all) → n < q.state.steps → over x (Onward n) q ≡ refused (codes "past") q
past_over n all x q here lt = ap (λ a. over a (Onward n) q) here ∙ cond-false (nat_le q.state.steps n) _ _ (lt-leb q.state.steps n lt)

past_is : (n : ℕ) (all : List Activation) (q : Reached) → slice_get q.state.activities q.state.current ≡ Some (Running all) → n < q.state.steps → goes_to n q ≡ refused (codes "past") q
unfolding goes_to
past_is n all q here lt = past_over n all (slice_get q.state.activities q.state.current) q here lt

pub refused_as : (x : Session) (does : Reached → Reached) (why : List ℕ) (q : Reached) → Shows x q.state → does q ≡ refused why q → Shows x (does q).state × ((does q).out ≡ q.out ++ line (codes "refused " ++ why))
refused_as x does why q sh e = (subst (λ (t : Reached). Shows x t.state) (sym e) sh, ap (λ (t : Reached). t.out) e)

pub past_obeys : (x : Session) (n done : ℕ) → done ≡ count (host_of x) → n < done → ((s : State) → Rests (host_of x) s → IsStanding s standings.Goes) → Obeys x x (goes_to n) (line (codes "refused past"))
past_obeys x n done is lt goes q sh =
    let g = goes q.state sh.rests in
    let steps = is ∙ counts_as (host_of x) q.state sh.rests in
    refused_as x (goes_to n) (codes "past") q sh (past_is n g.0 q g.1 (omega (arith, steps, lt)))

idle_over : (n : ℕ) (q : Reached) → slice_get q.state.activities q.state.current ≡ None → goes_to n q ≡ refused (codes "no activity") q
unfolding goes_to
idle_over n q e = ap (λ a. over a (Onward n) q) e

answered_over : (n : ℕ) (q : Reached) (v : Value) → slice_get q.state.activities q.state.current ≡ Some (Answered v) → goes_to n q ≡ refused (codes "ended") q
unfolding goes_to
answered_over n q v e = ap (λ a. over a (Onward n) q) e

failed_over : (n : ℕ) (q : Reached) (x : ErrorName) (p : Place) → slice_get q.state.activities q.state.current ≡ Some (Failed x p) → goes_to n q ≡ refused (codes "ended") q
unfolding goes_to
failed_over n q x p e = ap (λ a. over a (Onward n) q) e

pub nobody_continues : (x : Session) (n : ℕ) → ((s : State) → Rests (host_of x) s → IsStanding s standings.Nobody) → Obeys x x (goes_to n) (line (codes "refused no activity"))
nobody_continues x n is q sh = refused_as x (goes_to n) (codes "no activity") q sh (idle_over n q (is q.state sh.rests))

pub ended_continues : (x : Session) (n : ℕ) → ((s : State) → Rests (host_of x) s → IsStanding s standings.Ended) → Obeys x x (goes_to n) (line (codes "refused ended"))
ended_continues x n is q sh = elim (is q.state sh.rests) [
  | inl a ↦ refused_as x (goes_to n) (codes "ended") q sh (answered_over n q a.0 a.1)
  | inr f ↦ refused_as x (goes_to n) (codes "ended") q sh (failed_over n q f.0 f.1 f.2)
]

-- A session's parts before and behind a call.

abbrev pub of_parts : Hosted → ℕ → Language → ℕ → ℕ → Session
of_parts hosted room language instructions services = record { hosted = hosted; room = room; language = language; instructions = instructions; services = services }

pub none_beyond : (xs : List Status) (k : ℕ) → slice_get xs k ≡ None → length xs ≤ k
none_beyond [] k e = omega arith
none_beyond (y ∷ ys) zero e = absurd (cc)
none_beyond (y ∷ ys) (suc k) e = omega (arith, none_beyond ys k e)

module _ (x : Session) (old : Hosted) (room : ℕ) (language : Language) (i v : ℕ) (is : of_parts old room language i v ≡ x) where
  pub rests_inside : (s : State) → Rests (host_of x) s → Rests (host old) s
  rests_inside s r = subst (λ (z : Session). Rests (host_of z) s) (sym is) r

  pub goes_inside : ((s : State) → Rests (host_of x) s → IsStanding s standings.Goes) → (s : State) → Rests (host old) s → IsStanding s standings.Goes
  goes_inside goes s r = goes s (subst (λ (z : Session). Rests (host_of z) s) is r)

  -- the current activity can go on
  pub can_run : IsShown x → GoesOn (host_of x) → CanRun language (host old)
  can_run shown goes =
      let P : Session → Type 0 = λ z. IsShown z × GoesOn (host_of z) in
      let both : IsShown (of_parts old room language i v) × GoesOn (host old) = subst P (sym is) (shown, goes) in
      let sh = both.0.1 in
      let g = both.1 in
      record { state = both.0.0; rests = sh.rests; spoken = sh.spoken; sp = g.0; pc = g.1; known = g.2; waits = g.3 }

  pub known_inside : IsShown x → KnowsCore (host old) language
  known_inside shown = let s : IsShown (of_parts old room language i v) = subst IsShown (sym is) shown in s.1.known

  pub broken_inside : (n : ℕ) (taken now : Option (List ℕ)) → ((s : State) → Rests (host_of x) s → IsStanding s standings.Goes) → RunBroke n language (host old) taken now → HasBroken x (steps_on n) taken now
  broken_inside n taken now goes broke = subst (λ (z : Session). HasBroken z (steps_on n) taken now) is (run_broken (of_parts old room language i v) n taken now (goes_inside goes) broke)

-- where no object was made, and the room is as it was
pub still_room : (x : Session) (old new : Hosted) (room after : ℕ) (language : Language) (i v : ℕ) → of_parts old room language i v ≡ x → IsShown x → after ≡ room → (host new).next ≡ (host old).next → (host new).next ≤ after
still_room x old new room after language i v is shown same objects =
    let s : IsShown (of_parts old room language i v) = subst IsShown (sym is) shown in
    let r = s.1.room in
    omega (arith, r, objects, same)

module _ (x : Session) (old new : Hosted) (room after : ℕ) (language : Language) (i v j w : ℕ) (is : of_parts old room language i v ≡ x) (shown : IsShown x) (references : (host new).references ≡ (host old).references) (roomy : (host new).next ≤ after) where
  abbrev before : Session
  before = of_parts old room language i v

  abbrev now : Session
  now = of_parts new after language j w

  shown_before : IsShown before
  shown_before = subst IsShown (sym is) shown

  follows : Follows before now
  follows = record { language = refl; references = references; room = roomy }

  module _ (number : ℕ) (name : List ℕ) (b : Birth) (named : number ≡ number_of language.names name) (none : arity name ≡ 0) (born : IsBirth (host old) (host new) number b) where
    obeys_before : Obeys before now (spawn name) (birth_text (host new) b)
    obeys_before = spawn_obeyed before now name follows b number (birth_text (host new) b) named none born refl

    pub spawned_obeys : (text : List ℕ) → text ≡ birth_text (host new) b → Obeys x now (spawn name) text
    spawned_obeys text says =
        let P : List ℕ → Type 0 = λ t. Obeys x now (spawn name) t in
        let Q : Session → Type 0 = λ z. Obeys z now (spawn name) (birth_text (host new) b) in
        subst P (sym says) (subst Q is obeys_before)

    spawned_shows : Shows now (spawn name (silent shown_before.0)).state
    spawned_shows = (obeys_before (silent shown_before.0) shown_before.1).0

    pub spawned_rests : (s : State) × Rests (host new) s
    spawned_rests = ((spawn name (silent shown_before.0)).state, spawned_shows.rests)

    pub spawned_counts : count (host new) ≡ count (host_of x)
    spawned_counts =
        counts_as (host new) (spawn name (silent shown_before.0)).state spawned_shows.rests
        ∙ (spawn_keeps (silent shown_before.0) name).1 ∙ sym (counts_as (host old) shown_before.0 shown_before.1.rests) ∙ ap (λ (z : Session). count (host_of z)) is

  pub are_led : (n m : ℕ) → Leads (host old) n m (host new) → j ≡ i + n → w ≡ v + m → IsLed x now
  are_led n m leads e f = subst (λ (z : Session). IsLed z now) is (record { instructions = n; services = m; leads = leads; done = e; served = f })

  pub are_few : (n m : ℕ) → j ≡ i + n → w ≡ v + m → n ≤ 2 ^ 73 → m ≤ 2 ^ 33 → CountsFew x now
  are_few n m e f le lt = subst (λ (z : Session). CountsFew z now) is (record { instructions = omega (arith, e, le); services = omega (arith, f, lt) })

  module _ (n : ℕ) (k : Counts) (taken told : Option (List ℕ)) (ran : HasRunOn n k language (host old) (host new) taken told) where
    went_shows : Shows now (has before now n follows k taken told ran (silent shown_before.0) shown_before.1).state
    went_shows = shows_run before now n follows k taken told ran (silent shown_before.0) shown_before.1

    pub went_rests : (s : State) × Rests (host new) s × (s.core ≡ language.core)
    went_rests = ((has before now n follows k taken told ran (silent shown_before.0) shown_before.1).state, went_shows.rests, went_shows.spoken.core)

    pub went_counts : count (host new) ≤ count (host_of x) + n
    went_counts =
        let few = counts_few before now n follows k taken told ran (silent shown_before.0) shown_before.1 in
        subst (λ (z : Session). count (host new) ≤ count (host_of z) + n) is few

    pub went_there : GoesOn (host_of x) → slice_get (host new).statuses (host new).current ≢ None
    went_there goes e =
        let there = current_there before now n follows k taken told ran (silent shown_before.0) shown_before.1 (subst (λ (z : Session). GoesOn (host_of z)) (sym is) goes) in
        let beyond = none_beyond (host new).statuses (host new).current e in
        omega (arith, there, beyond)

    pub went_led : j ≡ i + k.instructions → w ≡ v + k.services → IsLed x now
    went_led e f = are_led (0 + k.instructions) (0 + k.services) (Runs 0 0 k.instructions k.services (host old) (host new) Stays ran.reached) (omega (arith, e)) (omega (arith, f))

    pub went_obeys : (text : List ℕ) → ((s : State) → Rests (host_of x) s → IsStanding s standings.Goes) → ((s : State) → Rests (host new) s → s.core ≡ language.core → text ≡ run_line s) → HasObeyed x now (steps_on n) taken told text
    went_obeys text goes says =
        let Q : Session → Type 0 = λ z. HasObeyed z now (steps_on n) taken told text in
        subst Q is (run_obeyed before now n follows k taken told ran text (λ s r. goes s (subst (λ (z : Session). Rests (host_of z) s) is r)) says)

-- Nothing was done.

pub stays_led : (x : Session) → IsLed x x
stays_led x = record { instructions = 0; services = 0; leads = Stays; done = omega arith; served = omega arith }

-- a line alone was written
pub says_line : (x y : Session) (does : Reached → Reached) (taken : Option (List ℕ)) (text : List ℕ) → Obeys x y does text → HasObeyed x y does taken taken text
says_line x y does taken text o = record { said = []; takes = takes_none taken; obeys = o }

pub stays_few : (x : Session) → CountsFew x x
stays_few x = record { instructions = omega arith; services = omega arith }

pub on_err : {T E : Type 0} (r : Result T E) (P : Type 0) → P → OnErr r P
on_err (Ok v) P p = tt
on_err (Err e) P p = p

pub err_then : {T E : Type 0} (r : Result T E) {P Q : Type 0} → OnErr r P → (P → Q) → OnErr r Q
err_then (Ok t) p f = tt
err_then (Err e) p f = f p

pub ok_so : {T E : Type 0} (r : Result T E) {P Q : Type 0} → OnOk r P → (P → Q) → OnOk r Q
ok_so (Ok t) p f = f p
ok_so (Err e) p f = tt

pub ok_then : {T E : Type 0} (r : Result T E) {P Q : T → Type 0} → IfOk r P → ((t : T) → P t → Q t) → IfOk r Q
ok_then (Ok t) p f = f t p
ok_then (Err e) p f = tt

-- the same of another command that does the same
pub obeyed_as : (x y : Session) (d e : Reached → Reached) (old new : Option (List ℕ)) (text : List ℕ) → d ≡ e → HasObeyed x y e old new text → HasObeyed x y d old new text
obeyed_as x y d e old new text is o = subst (λ (f : Reached → Reached). HasObeyed x y f old new text) (sym is) o

pub broken_as : (x : Session) (d e : Reached → Reached) (old new : Option (List ℕ)) → d ≡ e → HasBroken x e old new → HasBroken x d old new
broken_as x d e old new is b = subst (λ (f : Reached → Reached). HasBroken x f old new) (sym is) b

-- Which command it is.

spawn_is : (c : Command) (name : List ℕ) → c ≡ commands.Spawn name → obeyed c ≡ spawn name
unfolding obeyed
spawn_is c name e = ap obeyed e

pub spawned_says : (x y : Session) (c : Command) (name given : List ℕ) (taken : Option (List ℕ)) (text : List ℕ) → given ≡ name → c ≡ commands.Spawn name → Obeys x y (spawn given) text → HasObeyed x y (obeyed c) taken taken text
spawned_says x y c name given taken text same is o =
    let P : (Reached → Reached) → Type 0 = λ d. Obeys x y d text in
    says_line x y (obeyed c) taken text (subst P (ap spawn same ∙ sym (spawn_is c name is)) o)

pub spawn_wants : (x : Session) (c : Command) (name : List ℕ) (taken : Option (List ℕ)) → c ≡ commands.Spawn name → HasBroken x (obeyed c) taken taken
spawn_wants x c name taken is = subst (λ (d : Reached → Reached). HasBroken x d taken taken) (sym (spawn_is c name is)) (spawn_breaks x name taken)

pub run_is : (c : Command) (n : ℕ) → c ≡ commands.Run n → obeyed c ≡ steps_on n
unfolding obeyed
run_is c n e = ap obeyed e

pub continue_is : (c : Command) (n : ℕ) → c ≡ commands.Continue n → obeyed c ≡ goes_to n
unfolding obeyed
continue_is c n e = ap obeyed e

pub step_is : (c : Command) → c ≡ commands.Step → obeyed c ≡ steps_on 1
unfolding obeyed
step_is c e = ap obeyed e

pub interrupt_is : (c : Command) (n : ℕ) → c ≡ commands.Interrupt n → obeyed c ≡ steps_on n
unfolding obeyed
interrupt_is c n e = ap obeyed e

pub switch_is : (c : Command) (k : ℕ) → c ≡ commands.Switch k → obeyed c ≡ switch k
unfolding obeyed
switch_is c k e = ap obeyed e

pub finish_is : (c : Command) (n : ℕ) → c ≡ commands.Finish n → obeyed c ≡ finishes n
unfolding obeyed
finish_is c n e = ap obeyed e

pub stack_is : (c : Command) → c ≡ commands.Stack → obeyed c ≡ stacks
unfolding obeyed
stack_is c e = ap obeyed e
