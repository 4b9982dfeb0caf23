use Rattle.std.proofs.Common.{◌+◌, ◌∙◌, sym, arith}
use Rattle.world_test.proofs.Texts.{number_here, number_later}
use Rattle.world_test.proofs.names.number_of.Goals as goal

pub returns-then-eq : goal.returns-then-eq
returns-then-eq c =
    sym (number_here c.args.names.now c.args.text.now c.text.result.now c.loop-at.at (c.loop-at.at + 1) (omega arith) c.text.ensures (sym c.eq.ensures ∙ c.if-eq.true)) ∙ c.loop-at.invariant

pub loop-at-preserved : goal.loop-at-preserved
loop-at-preserved c =
    sym (number_later c.args.names.now c.args.text.now c.text.result.now c.loop-at.at (c.loop-at.at + 1) (omega arith) c.text.ensures (sym c.eq.ensures ∙ c.if-eq.false)) ∙ c.loop-at.invariant
