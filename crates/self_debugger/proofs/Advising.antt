-- A session shows a state with any number of advisors: plain code knows nothing of them.
use Rattle.std.proofs.Common.{◌≡◌, ◌≢◌, ℕ, ◌+◌, ◌<◌, ◌≤◌, refl, ◌∙◌, ap, sym, subst, arith, eqb-true}
use Rattle.std.specs.Prelude.{◌++◌, ◌-◌, ◌==◌, nat_le, if◌then◌else◌, Bool, true, false, cond, List, [], Option, None, Some, codes, decimal}
use Rattle.std.proofs.lemmas.Bool.{cond-true, cond-false, le-leb, lt-leb}
use Rattle.frame_walk.specs.Raw.{Raw}
use Rattle.source_model.specs.Formed.{IsWellFormed}
use Rattle.source_model.specs.Lines.{line}
use Rattle.source_model.specs.Script.{refused, becomes, advisor}
use Rattle.source_model.specs.Script as source
use Rattle.source_model.proofs.Editing.{commands_form}
use Rattle.source_model.specs.State.{State, Reached}
use Rattle.raw_steps.specs.Meeting.{HasCore}
use Rattle.raw_steps.specs.Stands.{Sense, Stands}
use Rattle.plain_runs.specs.Host.{Host, raw_of}
use Rattle.plain_steps.specs.Steps.{StandsFor}
use Rattle.plain_stretches.specs.Standing.{IsSound}
use Rattle.plain_turns.specs.Resting.{Rests}
use Rattle.plain_core.specs.Language.{Language, IsSpoken}
use Rattle.plain_core.specs.Leading.{Stays}
use Rattle.plain_session.specs.Sessions as words
use Rattle.world_build.specs.Worlds.{World}
use Rattle.world_blocks.specs.Sessions.{session_names}
use Rattle.world_state.specs.Begun.{begun}
use Rattle.self_debugger.specs.Sessions.{Session, host_of, Shows, Obeys}
use Rattle.self_debugger.specs.WorldFiles.{begins}

-- so many advisors are left
abbrev pub advised : ℕ → State → State
advised n s = record s { advisors = n }

module _ (n : ℕ) (s : State) where
  raw_advised : (z : Sense) (r : Raw) → Stands z r s → Stands z r (advised n s)
  raw_advised z r x = record { heap = x.heap; unused = x.unused; activity = x.activity; live = x.live; current = x.current; steps = x.steps; cost = x.cost; within = x.within }

  core_advised : (z : Sense) (r : Raw) → HasCore r s z → HasCore r (advised n s) z
  core_advised z r x = record { kin_of = x.kin_of; integers = x.integers; blocks = x.blocks }

  stands_advised : (z : Sense) (h : Host) → StandsFor z h s → StandsFor z h (advised n s)
  stands_advised z h x = record { stands = raw_advised z (raw_of h) x.stands; core = core_advised z (raw_of h) x.core; bodies = x.bodies; objects = x.objects; nil = x.nil; sums = x.sums }

  pub rests_advised : (h : Host) → IsWellFormed (advised n s) → Rests h s → Rests h (advised n s)
  rests_advised h formed x = record {
    sense = x.sense;
    sound = record { hosted = x.sound.hosted; runs = x.sound.runs; current = x.sound.current; stands = stands_advised x.sense h x.sound.stands };
    parks = x.parks;
    formed = formed;
    ready = x.ready;
    start = x.start;
    paid = x.paid;
  }

  spoken_advised : (l : Language) → IsSpoken l s → IsSpoken l (advised n s)
  spoken_advised l x = record { names = x.names; core = x.core; fixed = x.fixed; failure = x.failure }

  pub shows_advised : (x : words.Session) → IsWellFormed (advised n s) → words.Shows x s → words.Shows x (advised n s)
  shows_advised x formed sh = record { rests = rests_advised (words.host_of x) formed sh.rests; spoken = spoken_advised x.language sh.spoken; known = sh.known; room = sh.room; short = sh.short }

-- where a session begins
pub shows_begun : (x : words.Session) (w : World) (handed : ℕ) → IsWellFormed (begins handed w) → words.Shows x (begun w (session_names w) 0) → words.Shows x (begins handed w)
shows_begun x w handed formed sh = shows_advised (handed - 1) (begun w (session_names w) 0) x formed sh

-- The command `advisor`.

served_as : (k : ℕ) (q : Reached) → source.command (source.Advisor k) 0 q ≡ advisor k q
unfolding source.command
served_as k q = refl

abbrev pub drops : ℕ → ℕ
drops k = if k == 0 then 0 else 1

pub drops_one : (k : ℕ) → 0 < k → drops k ≡ 1
drops_one k lt = by (k == 0) refl
  where
    by : (b : Bool) → (k == 0) ≡ b → ◌≡◌ {A = ℕ} (if b then 0 else 1) 1
    by true e = let none = eqb-true k 0 e in absurd (omega (arith, none, lt))
    by false e = refl

module _ (x y : Session) (k : ℕ) (same : y.plain ≡ x.plain) (left : y.left ≡ x.left - drops k) (le : k ≤ x.left) where
  pub advisor_obeyed : Obeys x y (advisor k) (line (codes "advisor " ++ decimal k))
  advisor_obeyed q sh =
      let now : State = advised (q.state.advisors - drops k) q.state in
      let there = sh.advised in
      let e : advisor k q ≡ becomes now (line (codes "advisor " ++ decimal k)) q = cond-true (nat_le k q.state.advisors) _ _ (le-leb k q.state.advisors (omega (arith, le, there))) in
      let formed : IsWellFormed now = subst (λ (t : Reached). IsWellFormed t.state) (served_as k q ∙ e) (commands_form (source.Advisor k) 0 q tt sh.plain.rests.formed) in
      let plain : words.Shows y.plain now = subst (λ (p : words.Session). words.Shows p now) (sym same) (shows_advised (q.state.advisors - drops k) q.state x.plain formed sh.plain) in (
        subst (λ (t : Reached). Shows y t.state) (sym e) (record { plain = plain; advised = left ∙ ap (λ n. n - drops k) there }),
        ap (λ (t : Reached). t.out) e,
      )

pub advisor_refused : (x : Session) (k : ℕ) → x.left < k → Obeys x x (advisor k) (line (codes "refused no such advisor"))
advisor_refused x k lt q sh =
    let there = sh.advised in
    let e : advisor k q ≡ refused (codes "no such advisor") q = cond-false (nat_le k q.state.advisors) _ _ (lt-leb k q.state.advisors (omega (arith, lt, there))) in
    (subst (λ (t : Reached). Shows x t.state) (sym e) sh, ap (λ (t : Reached). t.out) e)

pub stays_led : (x y : words.Session) → y ≡ x → words.IsLed x y
stays_led x y e = subst (λ (z : words.Session). words.IsLed x z) (sym e) (record { instructions = 0; services = 0; leads = Stays; done = omega arith; served = omega arith })

pub stays_few : (x y : words.Session) → y ≡ x → words.CountsFew x y
stays_few x y e = subst (λ (z : words.Session). words.CountsFew x z) (sym e) (record { instructions = omega arith; services = omega arith })
