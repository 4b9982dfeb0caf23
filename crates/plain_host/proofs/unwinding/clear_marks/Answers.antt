use Rattle.std.proofs.Common.{◌≡◌, ap}
use Rattle.sparc_machine.specs.State.{MachineState}
use Rattle.sparc_machine.specs.Held.{state}
use Rattle.plain_unwinds.specs.Frames.{contexts_at, with_all_cleared, with_cleared}
use Rattle.plain_host.proofs.Filling.{same_but_memory}
use Rattle.plain_host.proofs.Walking.{clears_next, first_mark}
use Rattle.plain_host.proofs.unwinding.clear_marks.Goals as goal

pub clear_mark-requires : goal.clear_mark-requires
clear_mark-requires c =
    let old = (state c.args.machine.now).memory in
    let now = (state c.loop-left.machine).memory in
    let clears = c.loop-left.invariant.clears in
    let context = c.saved-context.result in
    λ some. (clears.walked.marks 0 context (first_mark old now c.loop-left.left c.loop-left.frame context (with_all_cleared old (contexts_at old c.args.count c.args.at)) clears c.loop-left-test.true c.saved-context.ensures) some).0

pub loop-left-preserved : goal.loop-left-preserved
loop-left-preserved c =
    let m0 = state c.args.machine.now in
    let m1 = state c.loop-left.machine in
    let m2 = state c.clear_mark.new.machine in
    let put : m2.memory ≡ with_cleared m1.memory c.saved-context.result = ap (λ (m : MachineState). m.memory) c.clear_mark.ensures in
    record {
      machine = same_but_memory m0 m1 m2 _ c.loop-left.invariant.machine c.clear_mark.ensures;
      clears =
          clears_next m0.memory m1.memory m2.memory c.loop-left.left c.loop-left.frame c.saved-context.result c.saved-frame.result (with_all_cleared m0.memory (contexts_at m0.memory c.args.count c.args.at)) c.loop-left.invariant.clears c.loop-left-test.true
          c.saved-context.ensures put c.saved-frame.ensures;
    }
