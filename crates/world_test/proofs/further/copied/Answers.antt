use Rattle.std.proofs.Common.{◌+◌, ◌∙◌, ap, arith, length}
use Rattle.world_test.proofs.Copying.{few_more, first_two, given}
use Rattle.world_test.proofs.further.copied.Goals as goal

pub loop-at-init : goal.loop-at-init
loop-at-init c = record {
  same = λ fixed. c.in_ok-copy.ensures.names ∙ first_two c.args.names.now fixed;
  few = omega (arith, ap length c.in_ok-copy.ensures.names);
  within = omega arith;
}

pub loop-at-preserved : goal.loop-at-preserved
loop-at-preserved c = record {
  same = λ fixed.
      given c.args.names.now c.loop-at.copy c.name.new.self c.loop-at.at (c.loop-at.at + 1) c.text.result.now c.has_each_once.ensures (omega arith) c.text.ensures c.loop-at.invariant.same c.in_ok-name.ensures.grows fixed;
  few = omega (arith, few_more c.loop-at.copy c.name.new.self c.text.result.now c.in_ok-name.ensures.grows, c.loop-at.invariant.few);
  within = omega (arith, c.loop-at-test.true);
}
