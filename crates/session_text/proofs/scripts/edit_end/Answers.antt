use Rattle.std.proofs.Common.{◌∙◌, sym, arith, length-drop}
use Rattle.session_text.proofs.LineSteps.{line_from, ends_here, text_goes_on, skips_on}
use Rattle.session_text.proofs.scripts.edit_end.Goals as goal

pub returns-then-is_end : goal.returns-then-is_end
returns-then-is_end c =
    let i = c.loop-at.invariant in
    let l = line_from c.args.rest.now c.loop-at.at c.part_len-len.result c.min-next.result c.part_len-len.ensures.count c.min-next.ensures in
    ends_here c.args.rest.now c.loop-at.at c.part_len-len.result c.min-next.result c.loop-at.passed l c.loop-at-test.true i.few i.text i.skips (sym c.is_end.ensures ∙ c.if-is_end.true)

pub loop-at-preserved : goal.loop-at-preserved
loop-at-preserved c =
    let i = c.loop-at.invariant in
    let l = line_from c.args.rest.now c.loop-at.at c.part_len-len.result c.min-next.result c.part_len-len.ensures.count c.min-next.ensures in
    let told = sym c.is_end.ensures ∙ c.if-is_end.false in
    let n = c.min-next.ensures in
    let few = i.few in
    let more = c.loop-at-test.true in
    let w = c.part_len-len.ensures.within in
    record {
      within = omega arith;
      few = omega arith;
      text = text_goes_on c.args.rest.now c.loop-at.at c.part_len-len.result c.min-next.result l (omega (arith, length-drop c.loop-at.at c.args.rest.now)) i.text told;
      skips = skips_on c.args.rest.now c.loop-at.at c.part_len-len.result c.min-next.result c.loop-at.passed l i.skips told;
    }
