use Rattle.std.proofs.Common.{◌≡◌, ◌+◌, ◌*◌, ap, ◌∙◌, arith, inl}
use Rattle.std.specs.Prelude.{get_or, slice_get, Some, pos}
use Rattle.sparc_insn.specs.declared.insn.Insn.TheVariants.{Call}
use Rattle.sparc_insn.specs.Words.{word_of}
use Rattle.sparc_store.specs.Words.{HasWord, Stored, with_word}
use Rattle.sparc_store.proofs.Placed.{stored_there}
use Rattle.sparc_machine.specs.State.{MachineState}
use Rattle.sparc_machine.specs.Held.{state}
use Rattle.plain_words.proofs.Emitted.{each_more, apart_more, at_each, slice_get_is}
use Rattle.plain_host.proofs.Filling.{same_but_memory}
use Rattle.plain_host.proofs.units.put_code.Goals as goal

pub loop-j-preserved : goal.loop-j-preserved
loop-j-preserved c =
    let i = get_or c.args.code.now c.loop-j.j (Call (pos 0)) in
    let m0 = state c.args.machine.now in
    let m1 = state c.loop-j.machine in
    let m2 = state c.store.new.self in
    let at = c.args.at + 4 * c.loop-j.j in
    let there : slice_get c.args.code.now c.loop-j.j ≡ Some i = slice_get_is c.args.code.now c.loop-j.j (Call (pos 0)) c.loop-j-test.true in
    let put : m2.memory ≡ with_word m1.memory at (word_of i) = ap (λ (m : MachineState). m.memory) c.store.ensures ∙ ap (with_word m1.memory at) c.encode.ensures in
    let here : HasWord at = (omega arith, inl (omega arith, omega arith)) in
    let stored : Stored m1.memory m2.memory at (word_of i) = rw put (stored_there m1.memory at (word_of i) c.is_whole.ensures.memory_within here) in
    record {
      machine = same_but_memory m0 m1 m2 _ c.loop-j.invariant.machine c.store.ensures;
      each = each_more m1.memory m2.memory c.args.at c.loop-j.j c.args.code.now i c.loop-j.invariant.each stored there (c.requires.insns.each c.loop-j.j i there);
      apart = apart_more m0.memory m1.memory m2.memory c.args.at c.loop-j.j _ c.loop-j.invariant.apart stored;
    }

pub returns-clause-at : goal.returns-clause-at
returns-clause-at c = at_each c.args.code.now (state c.loop-j.machine).memory c.args.at c.loop-j.j (omega arith) c.loop-j.invariant.each
