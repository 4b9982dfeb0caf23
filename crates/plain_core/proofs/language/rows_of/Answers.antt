use Rattle.std.proofs.Common.{◌+◌, ◌++◌, map, drop, ◌∙◌, ap, arith}
use Rattle.prim_table.specs.Named.{prim_named}
use Rattle.plain_core.proofs.Known.{row_next}
use Rattle.plain_core.proofs.language.rows_of.Goals as goal

pub loop-at-preserved : goal.loop-at-preserved
loop-at-preserved c =
    let names = c.args.names.now in
    let at = c.loop-at.at in
    let pushed = c.push_reserved.ensures.len in
    let kept = c.push_reserved.ensures.capacity in
    let long = c.loop-at.invariant.long in
    let room = c.loop-at.invariant.room in
    let test = c.loop-at-test.true in
    let count = c.len-count.ensures in
    record {
      so_far = ap (λ z. z ++ map prim_named (drop (at + 1) names)) c.push_reserved.ensures.items ∙ row_next names c.loop-at.rows.items c.prim_of.result (at + 1) (at + 1) at (omega (arith, test, count)) (omega arith) (omega arith) c.prim_of.ensures ∙ c.loop-at.invariant.so_far;
      long = omega (arith, pushed, long);
      room = omega (arith, kept, room);
    }
