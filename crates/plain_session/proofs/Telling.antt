-- The command that shows a stack.
use Rattle.std.proofs.Common.{◌≡◌, ℕ, ◌+◌, ◌≤◌, List, [], ◌++◌, refl, ◌∙◌, ap, sym, subst, arith, inl, inr, append-nil}
use Rattle.std.specs.Prelude.{Option, Some, None, Result, OnOk, OnErr, reverse, slice_get, codes, length}
use Rattle.self_terms.specs.declared.errors.ErrorName.{ErrorName}
use Rattle.self_terms.specs.declared.nodes.Place.{Place}
use Rattle.self_terms.specs.declared.values.Value.{Value}
use Rattle.io_ports.specs.Causes.{Takes, TakesFront}
use Rattle.source_model.specs.declared.objects.Core.{Core}
use Rattle.source_model.specs.Lines.{line, frame_lines}
use Rattle.source_model.specs.Script.{refused, shows, over}
use Rattle.source_model.specs.State.{Activation, Running, Answered, Failed, State, Reached}
use Rattle.session_text.specs.Frames.{acts_text}
use Rattle.session_text.specs.declared.lines.LineText.{LineText}
use Rattle.raw_steps.specs.Fixed.{IsFixed}
use Rattle.frame_walk.specs.Raw.{Raw}
use Rattle.plain_host.specs.Hosted.{Hosted, host}
use Rattle.plain_runs.specs.Host.{Host}
use Rattle.plain_turns.specs.Asking.{count}
use Rattle.plain_turns.specs.Resting.{Rests}
use Rattle.plain_core.specs.Language.{Language, IsSpoken, KnowsCore}
use Rattle.plain_core.specs.Leading.{Leads, Stays, Flushes}
use Rattle.plain_show.specs.Showing.{IsAtPoll, flushed_host, stack_shown}
use Rattle.plain_show.proofs.Flushing.{may_flush}
use Rattle.plain_show.proofs.Kept.{stays_at_poll}
use Rattle.run_lines.specs.Standing.{IsStanding, GoesOn}
use Rattle.run_lines.specs.declared.current.Standing.TheVariants as standings
use Rattle.plain_session.specs.Commands.{stacks}
use Rattle.plain_session.specs.Stacks.{AreShort, AllNamed}
use Rattle.plain_session.specs.Sessions.{Session, host_of, Shows, IsShown, Obeys, HasObeyed, HasBroken, IsLed, CountsFew}
use Rattle.plain_session.proofs.Knowing.{still_known}
use Rattle.plain_session.proofs.Obeying.{of_parts, counts_as, refused_as}
use Rattle.plain_session.proofs.Stacking.{at_poll, few_shown, stack_named, rests_flushed, shows_source}

shown_all : (q : Reached) (all : List Activation) → slice_get q.state.activities q.state.current ≡ Some (Running all) → stacks q ≡ shows all q
unfolding stacks
shown_all q all e = ap (λ a. over a shows q) e

shown_none : (q : Reached) → slice_get q.state.activities q.state.current ≡ None → stacks q ≡ refused (codes "no activity") q
unfolding stacks
shown_none q e = ap (λ a. over a shows q) e

shown_answered : (q : Reached) (v : Value) → slice_get q.state.activities q.state.current ≡ Some (Answered v) → stacks q ≡ refused (codes "ended") q
unfolding stacks
shown_answered q v e = ap (λ a. over a shows q) e

shown_failed : (q : Reached) (x : ErrorName) (p : Place) → slice_get q.state.activities q.state.current ≡ Some (Failed x p) → stacks q ≡ refused (codes "ended") q
unfolding stacks
shown_failed q x p e = ap (λ a. over a shows q) e

-- Where nothing runs.

pub nobody_shown : (x : Session) → ((s : State) → Rests (host_of x) s → IsStanding s standings.Nobody) → Obeys x x stacks (line (codes "refused no activity"))
nobody_shown x is q sh = refused_as x stacks (codes "no activity") q sh (shown_none q (is q.state sh.rests))

pub ended_shown : (x : Session) → ((s : State) → Rests (host_of x) s → IsStanding s standings.Ended) → Obeys x x stacks (line (codes "refused ended"))
ended_shown x is q sh = elim (is q.state sh.rests) [
  | inl a ↦ refused_as x stacks (codes "ended") q sh (shown_answered q a.0 a.1)
  | inr f ↦ refused_as x stacks (codes "ended") q sh (shown_failed q f.0 f.1 f.2)
]

-- Where the current activity goes on: before the frames are saved and after.

-- the lines that are written
abbrev pub stack_text : Language → Host → List ℕ
stack_text l h = acts_text l.core l.names h.bodies (reverse (stack_shown h))

module _ (x : Session) (old : Hosted) (room : ℕ) (language : Language) (i v : ℕ) (is : of_parts old room language i v ≡ x) (shown : IsShown x) (goes : GoesOn (host_of x)) where
  abbrev before : Session
  before = of_parts old room language i v

  shown_before : IsShown before
  shown_before = subst IsShown (sym is) shown

  pub polls : IsAtPoll (host old)
  polls = at_poll (host old) shown_before.0 shown_before.1.rests (subst (λ (z : Session). GoesOn (host_of z)) (sym is) goes)

  pub shown_few : length (stack_shown (host old)) ≤ 4096
  shown_few = few_shown (host old) polls

  module _ (stands : (s : State) → Rests (host_of x) s → IsStanding s standings.Goes) where
    stands_before : (s : State) → Rests (host old) s → IsStanding s standings.Goes
    stands_before s r = stands s (subst (λ (z : Session). Rests (host_of z) s) is r)

    pub shown_named : AllNamed language.names (host old).bodies (stack_shown (host old))
    shown_named =
        let s = shown_before.0 in
        let sh = shown_before.1 in
        let g = stands_before s sh.rests in
        subst (λ ns. AllNamed ns (host old).bodies (stack_shown (host old))) sh.spoken.names (stack_named (host old) s g.0 sh.rests polls g.1 sh.short)

    told : (s : State) → Shows before s → (g : (all : List Activation) × (slice_get s.activities s.current ≡ Some (Running all))) → stack_text language (host old) ≡ frame_lines s g.0 g.0
    told s sh g =
        ap (λ (c : Core). acts_text c language.names (host old).bodies (reverse (stack_shown (host old)))) (sym sh.spoken.core)
        ∙ ap (λ ns. acts_text s.core ns (host old).bodies (reverse (stack_shown (host old)))) (sym sh.spoken.names)
        ∙ shows_source (host old) s g.0 sh.rests polls g.1

    comes : (q : Reached) → Shows before q.state → stacks q ≡ record { state = q.state; out = q.out ++ stack_text language (host old) }
    comes q sh =
        let g = stands_before q.state sh.rests in
        shown_all q g.0 g.1 ∙ ap (λ (t : List ℕ). (let r : Reached = record { state = q.state; out = q.out ++ t } in r)) (sym (told q.state sh g))

    pub stack_broken : (taken now : Option (List ℕ)) → TakesFront taken now (stack_text language (host old)) → HasBroken x stacks taken now
    stack_broken taken now front =
        let all : HasBroken before stacks taken now = λ q sh. (stack_text language (host old), ap (λ (r : Reached). r.out) (comes q sh), front) in
        subst (λ (z : Session). HasBroken z stacks taken now) is all

    module _ (new : Hosted) (to : host new ≡ flushed_host (host old)) where
      abbrev now : Session
      now = of_parts new room language i v

      still_shows : (s : State) → Shows before s → Shows now s
      still_shows s sh = record {
        rests = subst (λ (h : Host). Rests h s) (sym to) (rests_flushed (host old) s sh.rests polls);
        spoken = sh.spoken;
        known = still_known (host old) (host new) language (ap (λ (h : Host). h.references) to) sh.known;
        room = subst (λ (h : Host). h.next ≤ room) (sym to) sh.room;
        short = sh.short;
      }

      obeys_before : Obeys before now stacks (stack_text language (host old))
      obeys_before q sh = let e = comes q sh in (subst (λ (t : Reached). Shows now t.state) (sym e) (still_shows q.state sh), ap (λ (t : Reached). t.out) e)

      pub stack_obeyed : (taken told : Option (List ℕ)) → Takes taken told (stack_text language (host old)) → HasObeyed x now stacks taken told []
      stack_obeyed taken told took =
          let all : HasObeyed before now stacks taken told [] = record {
            said = stack_text language (host old);
            takes = took;
            obeys = λ q sh. subst (λ t. Shows now (stacks q).state × ((stacks q).out ≡ q.out ++ t)) (sym (append-nil (stack_text language (host old)))) (obeys_before q sh);
          } in
          subst (λ (z : Session). HasObeyed z now stacks taken told []) is all

      pub stack_counts : count (host new) ≡ count (host_of x)
      stack_counts =
          let s = shown_before.0 in
          counts_as (host new) s (still_shows s shown_before.1).rests ∙ sym (counts_as (host old) s shown_before.1.rests) ∙ ap (λ (z : Session). count (host_of z)) is

      pub stack_led : IsLed x now
      stack_led =
          let leads : Leads (host old) 0 0 (host new) = subst (λ (h : Host). Leads (host old) 0 0 h) (sym to) (Flushes 0 0 (host old) Stays (may_flush (host old) polls)) in
          subst (λ (z : Session). IsLed z now) is (record { instructions = 0; services = 0; leads = leads; done = omega arith; served = omega arith })

      pub stack_few : CountsFew x now
      stack_few = subst (λ (z : Session). CountsFew z now) is (record { instructions = omega arith; services = omega arith })
