-- The command `switch`.
use Rattle.std.proofs.Common.{◌≡◌, ◌≢◌, ◌⊎◌, ℕ, zero, suc, ◌+◌, ◌-◌, ◌<◌, ◌≤◌, ◌^◌, refl, ◌∙◌, ap, sym, subst, arith, inl, inr}
use Rattle.std.specs.Prelude.{◌++◌, ◌==◌, if◌then◌else◌, Bool, true, false, nat_lt, List, length, Option, Some, None, slice_get, codes}
use Rattle.std.proofs.lemmas.Bool.{cond-true, cond-false, le-ltb}
use Rattle.sparc_store.specs.Windows.{CanFlush, IsPlace}
use Rattle.sparc_machine.specs.State.{stack_of}
use Rattle.source_model.specs.Lines.{line, activity_line}
use Rattle.source_model.specs.Script.{Switch, refused, becomes, switch, command}
use Rattle.source_model.specs.State.{State, Reached}
use Rattle.plain_host.specs.Hosted.{Hosted, host}
use Rattle.plain_runs.specs.Host.{Host}
use Rattle.plain_runs.specs.Services.{parked, parked_by}
use Rattle.plain_runs.specs.declared.status.Status.{Status}
use Rattle.plain_runs.specs.declared.status.Status.TheVariants.{Waiting, Answered, Failed}
use Rattle.plain_begins.proofs.Starting.{activities_agree}
use Rattle.plain_turns.specs.Asking.{count}
use Rattle.plain_turns.specs.Resting.{Rests}
use Rattle.plain_births.proofs.Flushing.{frames_may_flush}
use Rattle.plain_switches.specs.Switching.{switches, taken_up_by, comes_up}
use Rattle.plain_switches.specs.Resting.{with_current}
use Rattle.plain_switches.proofs.Switching.{switches_count, switches_come, switches_rest, frames_may_come_up}
use Rattle.plain_core.specs.Language.{Language}
use Rattle.plain_core.specs.Leading.{Leads, Stays, Switches}
use Rattle.plain_session.specs.Sessions.{Session, host_of, Shows, IsShown, Obeys, IsLed, CountsFew}
use Rattle.plain_session.proofs.Knowing.{still_spoken, still_known}
use Rattle.plain_session.proofs.Obeying.{counts_as, of_parts}

-- There is no such activity.

refused_is : (x : Session) (n : ℕ) (q : Reached) → Shows x q.state → switch n q ≡ refused (codes "no such activity") q → Shows x (switch n q).state × ((switch n q).out ≡ q.out ++ line (codes "refused no such activity"))
refused_is x n q sh e = (subst (λ (t : Reached). Shows x t.state) (sym e) sh, ap (λ (t : Reached). t.out) e)

pub none_switches : (x : Session) (n : ℕ) → n ≡ 0 → Obeys x x (switch n) (line (codes "refused no such activity"))
none_switches x n e q sh = refused_is x n q sh (ap (λ k. switch k q) e)

beyond_is : (k : ℕ) (q : Reached) → length q.state.activities ≤ k → switch (suc k) q ≡ refused (codes "no such activity") q
beyond_is k q le = cond-false (nat_lt k (length q.state.activities)) _ _ (le-ltb k (length q.state.activities) le)

by_number : (x : Session) (n : ℕ) (q : Reached) → Shows x q.state → length (host_of x).statuses < n → switch n q ≡ refused (codes "no such activity") q
by_number x zero q sh lt = absurd (omega (arith, lt))
by_number x (suc k) q sh lt = let many = activities_agree sh.rests.sense (host_of x) q.state sh.rests.sound.stands in beyond_is k q (omega (arith, many, lt))

pub beyond_switches : (x : Session) (n : ℕ) → length (host_of x).statuses < n → Obeys x x (switch n) (line (codes "refused no such activity"))
beyond_switches x n lt q sh = refused_is x n q sh (by_number x n q sh lt)

-- There is one.

taken_up_stay : (x : Option Status) (h : Host) → (taken_up_by x h).references ≡ h.references
taken_up_stay (Some (Waiting sp pc count)) h = refl
taken_up_stay (Some (Answered w)) h = refl
taken_up_stay (Some (Failed e p)) h = refl
taken_up_stay None h = refl

parked_stay : (x : Option Status) (h : Host) → (parked_by x h).references ≡ h.references
parked_stay (Some (Waiting sp pc count)) h = refl
parked_stay (Some (Answered w)) h = refl
parked_stay (Some (Failed e p)) h = refl
parked_stay None h = refl

comes_stay : (k : ℕ) (h : Host) → (comes_up k (parked h)).references ≡ h.references
comes_stay k h = taken_up_stay (slice_get (parked h).statuses k) (parked h) ∙ parked_stay (slice_get h.statuses h.current) h

by_number_stay : (b : Bool) (k : ℕ) (h : Host) → (if b then h else comes_up k (parked h)).references ≡ h.references
by_number_stay true k h = refl
by_number_stay false k h = comes_stay k h

references_stay : (k : ℕ) (h : Host) → (switches k h).references ≡ h.references
references_stay k h = by_number_stay (k == h.current) k h

as_command : (n : ℕ) (q : Reached) → command (Switch n) 0 q ≡ switch n q
unfolding command
as_command n q = refl

module _ (x : Session) (old new : Hosted) (room : ℕ) (language : Language) (i v : ℕ) (is : of_parts old room language i v ≡ x) (shown : IsShown x) where
  abbrev before : Session
  before = of_parts old room language i v

  abbrev now : Session
  now = of_parts new room language i v

  shown_before : IsShown before
  shown_before = subst IsShown (sym is) shown

  pub frames_flush : (sp pc known : ℕ) → slice_get (host old).statuses (host old).current ≡ Some (Waiting sp pc known) → CanFlush (stack_of (host old).machine)
  frames_flush sp pc known running = frames_may_flush (host old) shown_before.0 shown_before.1.rests sp pc known running

  pub frame_place : (k sp pc known : ℕ) → slice_get (host old).statuses k ≡ Some (Waiting sp pc known) → k ≢ (host old).current → IsPlace sp × (pc + 4 < 2 ^ 32)
  frame_place k sp pc known waits away = frames_may_come_up (host old) shown_before.0 shown_before.1.rests k sp pc known waits away

  module _ (n k : ℕ) (number : n ≡ k + 1) (there : k < length (host old).statuses) (to : host new ≡ switches k (host old)) where
    shows_switched : (s : State) → Shows before s → Shows now (with_current k s)
    shows_switched s sh =
        let next = (switches_count (host old) s k sh.rests there).next in
        let next_is : (host new).next ≡ (host old).next = ap (λ (h : Host). h.next) to ∙ next in
        let room_is = sh.room in
        record {
          rests = subst (λ (h : Host). Rests h (with_current k s)) (sym to) (switches_rest (host old) s k sh.rests there).rests;
          spoken = still_spoken language s (with_current k s) (record { names = refl; core = refl; fixed = refl; bodies = refl }) sh.spoken;
          known = still_known (host old) (host new) language (ap (λ (h : Host). h.references) to ∙ references_stay k (host old)) sh.known;
          room = omega (arith, next_is, room_is);
          short = sh.short;
        }

    comes : (q : Reached) → Shows before q.state → switch n q ≡ becomes (with_current k q.state) (activity_line (k + 1)) q
    comes q sh = ap (λ m. switch m q) number ∙ sym (as_command (k + 1) q) ∙ switches_come (host old) q k sh.rests there 0

    obeys_before : Obeys before now (switch n) (activity_line n)
    obeys_before q sh =
        let e = comes q sh in (
          subst (λ (t : Reached). Shows now t.state) (sym e) (shows_switched q.state sh),
          ap (λ (t : Reached). t.out) e ∙ ap (λ m. q.out ++ activity_line m) (sym number),
        )

    pub switched_obeys : Obeys x now (switch n) (activity_line n)
    switched_obeys = subst (λ (z : Session). Obeys z now (switch n) (activity_line n)) is obeys_before

    pub switched_counts : count (host new) ≡ count (host_of x)
    switched_counts =
        counts_as (host new) (with_current k shown_before.0) (shows_switched shown_before.0 shown_before.1).rests ∙ sym (counts_as (host old) shown_before.0 shown_before.1.rests) ∙ ap (λ (z : Session). count (host_of z)) is

    pub switched_led : IsLed x now
    switched_led =
        let leads : Leads (host old) 0 0 (host new) = subst (λ (h : Host). Leads (host old) 0 0 h) (sym to) (Switches 0 0 (host old) k Stays there) in
        subst (λ (z : Session). IsLed z now) is (record { instructions = 0; services = 0; leads = leads; done = omega arith; served = omega arith })

    pub switched_few : CountsFew x now
    switched_few = subst (λ (z : Session). CountsFew z now) is (record { instructions = omega arith; services = omega arith })
