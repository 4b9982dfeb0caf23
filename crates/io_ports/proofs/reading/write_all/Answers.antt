use Rattle.std.proofs.Common.{arith}
use Rattle.std.proofs.lemmas.Grind.{common_steps}
use Rattle.io_ports.proofs.Taking.{takes_more}
use Rattle.io_ports.proofs.reading.write_all.Goals as goal

pub loop-at-preserved : goal.loop-at-preserved
loop-at-preserved g c = record {
  so_far = takes_more _ _ _ _ _ _ _ (grind (arith, common_steps, c.in_ok-at.ensures.bound)) c.loop-at.invariant.so_far c.in_ok-at.ensures.bytes;
  later = omega (arith, c.in_ok-at.ensures.cause.later);
  within = grind (arith, common_steps, c.in_ok-at.ensures.bound);
}
