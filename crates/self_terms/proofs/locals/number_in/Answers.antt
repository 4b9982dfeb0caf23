use Rattle.std.proofs.Common.{◌∙◌, sym}
use Rattle.self_terms.proofs.LocalLemmas.{assigned_behind, named_behind, named_before}
use Rattle.self_terms.proofs.locals.number_in.Goals as goal

pub returns-then-assigning : goal.returns-then-assigning
returns-then-assigning c = c.local_number.ensures ∙ assigned_behind c.args.name c.args.assigning c.args.body.now c.as_slice-arguments.result.now c.as_slice.result.now c.if-assigning.true c.as_slice-arguments.ensures c.as_slice.ensures

pub returns-in-Some : goal.returns-in-Some
returns-in-Some c = named_before c.args.name c.in-Some.at c.args.assigning c.args.body.now c.as_slice-arguments.result.now c.if-assigning.false c.as_slice-arguments.ensures (sym c.in-Some.ensures)

pub returns-in-None : goal.returns-in-None
returns-in-None c = c.local_number-in-None.ensures ∙ named_behind c.args.name c.args.assigning c.args.body.now c.as_slice-arguments.result.now c.as_slice-in-None.result.now c.if-assigning.false c.as_slice-arguments.ensures c.as_slice-in-None.ensures (sym c.in-None.ensures)
