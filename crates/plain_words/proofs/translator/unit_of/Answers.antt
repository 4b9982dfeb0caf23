use Rattle.std.proofs.Common.{List, subst, sym}
use Rattle.sparc_insn.specs.declared.insn.Insn.{Insn}
use Rattle.plain_words.specs.Putting.{AreInsns}
use Rattle.plain_words.proofs.Insns.{unit_insns}
use Rattle.plain_words.proofs.translator.unit_of.Goals as goal

pub returns-clause-insns : goal.returns-clause-insns
returns-clause-insns c =
    let r = c.args.references.now in
    let b = c.args.body.now in
    let P : List Insn → Type 0 = AreInsns in
    subst P (sym c.in_ok-unit.ensures.code) (unit_insns r b c.are_words.ensures c.requires)
