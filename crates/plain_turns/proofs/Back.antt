-- The machine goes back to a node's poll, with the counts settled.
use Rattle.std.proofs.Common.{◌≡◌, ℕ, ◌+◌, ◌-◌, ◌≤◌, refl, ◌∙◌, ap, sym, subst, arith}
use Rattle.sparc_store.specs.Words.{Words}
use Rattle.sparc_machine.specs.State.{MachineState}
use Rattle.source_model.specs.State.{State}
use Rattle.raw_steps.specs.Stands.{Sense}
use Rattle.plain_words.specs.Moves.{Moved}
use Rattle.plain_words.proofs.Shown.{no_scratch}
use Rattle.plain_runs.specs.Host.{Host, raw_of}
use Rattle.plain_runs.specs.Services.{with_left}
use Rattle.plain_runs.specs.Course.{with_machine}
use Rattle.plain_sends.proofs.Settling.{Controlled, controlled, SettledTo}
use Rattle.plain_sends.proofs.Resumming.{runs_as, hosted_as, threads_as}
use Rattle.plain_stretches.specs.Standing.{IsOn, IsSet}
use Rattle.plain_stretches.proofs.Settled.{high_cleared, rested}
use Rattle.plain_stretches.proofs.Closing.{stands_as}
use Rattle.plain_turns.specs.Asking.{goes_back}

pub back_again : (z : Sense) (h : Host) (s : State) (to : MachineState) (bytes : ℕ) → (on : IsOn z h s) → Moved h.machine to (h.machine.pc + bytes) h.machine.memory (h.machine.regs 2) → (goal cost : ℕ) → goal ≤ 1000000000
    → IsSet z (goes_back bytes goal cost (with_machine h to)) s goal
back_again z h s to bytes on mv goal cost few =
    let m = h.machine in
    let x = goes_back bytes goal cost (with_machine h to) in
    let m1 = x.machine in
    let sound = on.sound in
    let c = (let P : Words → Type 0 = λ y. Controlled m.memory (with_left y goal cost) goal in subst P (sym mv.memory_is) (controlled m.memory goal cost sound.hosted.within)) in
    let st : SettledTo h m1 goal = record {
      memory = c;
      few = few;
      zero_is = mv.kept 0 refl;
      count = mv.kept 4 refl;
      frame = mv.kept 14 refl;
      window = λ q big. high_cleared to.regs q big ∙ mv.kept q (no_scratch q big);
      older = mv.older;
    } in
    let here : to.pc - bytes ≡ m.pc = omega (arith, mv.stands.here) in
    let next : to.pc - bytes + 4 ≡ m.pc + 4 = omega (arith, mv.stands.here) in
    let k = rested h m1 on.body on.number on.node goal on.at sound.hosted sound.runs st here next in
    let steps = h.steps + to.regs 2 in
    let sum = h.cost + to.regs 3 in
    let hm = with_machine h m1 in
    let raw : raw_of x ≡ raw_of h = λ i. record {
      maps = h.maps;
      mem = c.heap i;
      heap = record { top = mv.kept 6 refl i; next = h.next };
      threads = (threads_as steps sum hm 0 h.statuses ∙ k.threads) i;
      current = h.current;
      steps = (let q : steps + 0 ≡ h.steps + m.regs 2 = omega (arith, mv.counted) in q) i;
      cost = (let q : sum + 0 ≡ h.cost + m.regs 3 = omega (arith, mv.kept 3 refl) in q) i;
    } in
    record {
      on = record {
        sound = record { hosted = hosted_as steps sum hm k.hosted; runs = sound.runs; current = sound.current; stands = stands_as z h x s raw refl refl sound.stands };
        body = on.body;
        number = on.number;
        node = on.node;
        at = runs_as steps sum hm on.body on.number on.node k.runs;
      };
      left_is = ap (λ y. y - 0) c.goal_is ∙ omega arith;
    }
