-- A poll has led to service 2, and the service settles the host at that poll.
use Rattle.std.proofs.Common.{◌≡◌, ℕ, ◌+◌, ◌-◌, ◌<◌, ◌≤◌, refl, ◌∙◌, ap, sym, subst, arith}
use Rattle.std.specs.Prelude.{List, []}
use Rattle.sparc_store.specs.Words.{Words, word_at}
use Rattle.self_terms.specs.declared.nodes.Node.{Node}
use Rattle.sparc_machine.specs.State.{MachineState}
use Rattle.source_model.specs.State.{State}
use Rattle.source_model.specs.Step.{step}
use Rattle.raw_steps.specs.Stands.{Sense}
use Rattle.plain_words.specs.Moves.{Moved}
use Rattle.plain_words.proofs.Shown.{no_scratch}
use Rattle.plain_runs.specs.Host.{Host, raw_of}
use Rattle.plain_runs.specs.Sound.{RunsAt}
use Rattle.plain_runs.specs.Services.{with_left, waits, data_answers}
use Rattle.plain_runs.specs.Course.{with_machine, AllRun}
use Rattle.plain_steps.specs.Steps.{DoesStep}
use Rattle.plain_prims.specs.Performing.{DoesPrint}
use Rattle.plain_sends.proofs.Settling.{Controlled, controlled, SettledTo}
use Rattle.plain_sends.proofs.Resumming.{runs_as, hosted_as, threads_as}
use Rattle.plain_stretches.specs.Standing.{IsSound, IsOn, IsSet, left_of, StepsGoOn, AnswersGoOn, PollsWait}
use Rattle.plain_stretches.proofs.Settled.{high_cleared, rested}
use Rattle.plain_stretches.proofs.Closing.{stands_as}

-- The host after the service, at that poll.
record Again (z : Sense) (x : Host) (s : State) (b n : ℕ) (node : Node) (goal : ℕ) : Type 0 where
  pub sound : IsSound z x s
  pub at : RunsAt x b n node
  pub left_is : left_of x ≡ goal

waits_again : (z : Sense) (h : Host) (s : State) (to : MachineState) → (on : IsOn z h s) → Moved h.machine to (h.machine.pc + 20) h.machine.memory (h.machine.regs 2) → (goal cost : ℕ) → goal ≤ 1000000000
    → Again z (waits goal cost (with_machine h to)) s on.body on.number on.node goal
waits_again z h s to on mv goal cost few =
    let m = h.machine in
    let x = waits goal cost (with_machine h to) in
    let m1 = x.machine in
    let sound = on.sound in
    let c = (let P : Words → Type 0 = λ y. Controlled m.memory (with_left y goal cost) goal in subst P (sym mv.memory_is) (controlled m.memory goal cost sound.hosted.within)) in
    let st : SettledTo h m1 goal = record {
      memory = c;
      few = few;
      zero_is = mv.kept 0 refl;
      count = mv.kept 4 refl;
      frame = mv.kept 14 refl;
      window = λ q big. high_cleared to.regs q big ∙ mv.kept q (no_scratch q big);
      older = mv.older;
    } in
    let here : to.pc - 20 ≡ m.pc = omega (arith, mv.stands.here) in
    let next : to.pc - 16 ≡ m.pc + 4 = omega (arith, mv.stands.here) in
    let k = rested h m1 on.body on.number on.node goal on.at sound.hosted sound.runs st here next in
    let steps = h.steps + to.regs 2 in
    let sum = h.cost + to.regs 3 in
    let hm = with_machine h m1 in
    let raw : raw_of x ≡ raw_of h = λ i. record {
      maps = h.maps;
      mem = c.heap i;
      heap = record { top = mv.kept 6 refl i; next = h.next };
      threads = (threads_as steps sum hm 0 h.statuses ∙ k.threads) i;
      current = h.current;
      steps = (let q : steps + 0 ≡ h.steps + m.regs 2 = omega (arith, mv.counted) in q) i;
      cost = (let q : sum + 0 ≡ h.cost + m.regs 3 = omega (arith, mv.kept 3 refl) in q) i;
    } in
    record {
      sound = record { hosted = hosted_as steps sum hm k.hosted; runs = sound.runs; current = sound.current; stands = stands_as z h x s raw refl refl sound.stands };
      at = runs_as steps sum hm on.body on.number on.node k.runs;
      left_is = ap (λ y. y - 0) c.goal_is ∙ omega arith;
    }

pub polls_wait : PollsWait
polls_wait z h s to on trap mv = record {
  trap = trap;
  moved = mv;
  again = λ goal cost few. (let x = waits_again z h s to on mv goal cost few in record { on = record { sound = x.sound; body = on.body; number = on.number; node = on.node; at = x.at }; left_is = x.left_is });
  there = λ goal cost few. (waits_again z h s to on mv goal cost few).at;
}

-- a step is one that prints nothing
pub as_print : (z : Sense) (h : Host) (s : State) → DoesStep z h s → DoesPrint h s []
as_print z h s d = record {
  instructions = d.instructions;
  few = d.few;
  to = d.to;
  goes = d.goes;
  hosted = d.hosted;
  goal = d.goal;
  left = d.left;
  paid = d.paid;
  body = d.body;
  number = d.number;
  next = d.next;
  runs = d.runs;
  sense = d.sense;
  stands = d.stands;
  counted = d.counted;
  printed = d.silent;
}

pub prints_go_on : (h : Host) (s : State) (out : List ℕ) → AllRun h → h.current < 4 → (d : DoesPrint h s out) → IsSet d.sense (with_machine h d.to) (step s).state (h.steps + word_at h.machine.memory 0x30000000 - (s.steps + 1))
prints_go_on h s out runs current d =
    let after : h.steps + d.to.regs 2 ≡ (step s).state.steps = d.stands.stands.steps in
    record {
      on = record { sound = record { hosted = d.hosted; runs = runs; current = current; stands = d.stands }; body = d.body; number = d.number; node = d.next; at = d.runs };
      left_is = omega (arith, d.goal, after, d.counted);
    }

pub steps_go_on : StepsGoOn
unfolding as_print
steps_go_on z h s runs current d = prints_go_on h s [] runs current (as_print z h s d)

pub answers_go_on : AnswersGoOn
answers_go_on z h s b n node sel r q f can goal cost word d =
    let a = q.asks in
    let h1 = data_answers goal cost word (with_machine h a.to) in
    let on = steps_go_on z h1 s can.runs can.current d in
    let is : word_at h1.machine.memory 0x30000000 ≡ goal = ap (λ y. word_at (with_left y goal cost) 0x30000000) a.moved.memory_is ∙ (controlled h.machine.memory goal cost can.hosted.within).goal_is in
    let before : h.steps + h.machine.regs 2 ≡ s.steps = f.stands.steps in
    record { on = on.on; left_is = on.left_is ∙ omega (arith, is, before, a.moved.counted) }
