use Rattle.std.proofs.Common.{◌≡◌, arith}
use Rattle.std.specs.Prelude.{get_or, slice_get, Some, pos}
use Rattle.sparc_insn.specs.declared.insn.Insn.TheVariants.{Call}
use Rattle.plain_words.proofs.Emitted.{each_more, apart_more, at_each, slice_get_is}
use Rattle.plain_words.proofs.emitting.put_code.Goals as goal

pub loop-j-preserved : goal.loop-j-preserved
loop-j-preserved c =
    let i = get_or c.args.code.now c.loop-j.j (Call (pos 0)) in
    let there : slice_get c.args.code.now c.loop-j.j ≡ Some i = slice_get_is c.args.code.now c.loop-j.j (Call (pos 0)) c.loop-j-test.true in
    let stored = rw c.encode.ensures at c.store.ensures.stored in
    record {
      each = each_more c.loop-j.memory c.store.new.self c.args.at c.loop-j.j c.args.code.now i c.loop-j.invariant.each stored there (c.requires.insns.each c.loop-j.j i there);
      apart = apart_more c.args.memory.now c.loop-j.memory c.store.new.self c.args.at c.loop-j.j _ c.loop-j.invariant.apart c.store.ensures.stored;
    }

pub returns-clause-at : goal.returns-clause-at
returns-clause-at c = at_each c.args.code.now c.loop-j.memory c.args.at c.loop-j.j (omega arith) c.loop-j.invariant.each
