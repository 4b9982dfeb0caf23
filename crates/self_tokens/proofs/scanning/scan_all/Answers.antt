use Rattle.std.proofs.Common.{length-drop, arith}
use Rattle.self_tokens.proofs.TokenSteps.{more_blank, more_whole, more_faulty}
use Rattle.self_tokens.proofs.scanning.scan_all.Goals as goal

pub loop-here-preserved-in-Blank : goal.loop-here-preserved-in-Blank
loop-here-preserved-in-Blank c =
    let l = length-drop c.loop-here.here.at c.args.bytes.now in
    let e = c.advance-here.ensures.at in
    let w = c.in-Blank.ensures.within in
    record {
      within = omega arith;
      place = c.advance-here.ensures.place;
      so_far = more_blank c.args.bytes.now c.loop-here.list c.loop-here.behind_operand c.loop-here.here.at c.in-Blank.count c.advance-here.result.at
          e c.loop-here.invariant.so_far c.loop-here-test.true c.in-Blank.ensures.exact w;
    }

pub loop-here-preserved : goal.loop-here-preserved
loop-here-preserved c =
    let l = length-drop c.loop-here.here.at c.args.bytes.now in
    let e = c.advance-next.ensures.at in
    let w = c.in-Whole.ensures.within in
    record {
      within = omega arith;
      place = c.advance-next.ensures.place;
      so_far = more_whole c.args.bytes.now c.loop-here.list c.push.new.self c.token.result c.loop-here.behind_operand c.ends_operand-behind_operand.result
          c.loop-here.here.at c.in-Whole.count c.advance-next.result.at c.loop-here.here.line c.loop-here.here.column c.in-Whole.kind
          e c.ends_operand-behind_operand.ensures c.loop-here.invariant.so_far c.loop-here-test.true c.in-Whole.ensures.exact w
          c.loop-here.invariant.place c.token.ensures c.in_ok-push-in-Whole.ensures;
    }

pub returns-in-Faulty : goal.returns-in-Faulty
returns-in-Faulty c =
    more_faulty c.args.bytes.now c.loop-here.list c.push-in-Faulty.new.self c.token-in-Faulty.result c.loop-here.behind_operand
    c.loop-here.here.at c.in-Faulty.count c.advance-here-in-Faulty.result.at c.advance-here-in-Faulty.result.line c.advance-here-in-Faulty.result.column c.in-Faulty.fault
    c.advance-here-in-Faulty.ensures.at c.loop-here.invariant.so_far c.loop-here-test.true c.in-Faulty.ensures.exact
    c.advance-here-in-Faulty.ensures.place c.token-in-Faulty.ensures c.in_ok-push-in-Faulty.ensures
