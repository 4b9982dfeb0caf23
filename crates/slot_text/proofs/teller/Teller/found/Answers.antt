use Rattle.std.proofs.Common.{◌∙◌, sym}
use Rattle.self_terms.specs.Bodies.{sought}
use Rattle.slot_text.proofs.Around.{nothing_out, found_out, further_out}
use Rattle.slot_text.proofs.teller.Teller.found.Goals as goal

pub returns-in-None : goal.returns-in-None
returns-in-None c =
    sym (nothing_out (sought c.args.assigning c.args.name) c.loop-up.up c.args.self.now.bodies c.args.self.now.around (sym c.get.ensures ∙ sym c.copied.ensures ∙ c.in-None.is))
    ∙ c.loop-up.invariant

pub returns-in-Some-local : goal.returns-in-Some-local
returns-in-Some-local c =
    sym (found_out (sought c.args.assigning c.args.name) c.loop-up.up c.args.self.now.bodies c.args.self.now.around c.in-Some.body c.in-Some-local.slot (sym c.get.ensures ∙ sym c.copied.ensures ∙ c.in-Some.is) (sym c.local.ensures ∙ c.in-Some-local.is))
    ∙ c.loop-up.invariant

pub loop-up-preserved : goal.loop-up-preserved
loop-up-preserved c =
    sym (further_out (sought c.args.assigning c.args.name) c.loop-up.up c.args.self.now.bodies c.args.self.now.around c.in-Some.body (sym c.get.ensures ∙ sym c.copied.ensures ∙ c.in-Some.is) (sym c.local.ensures ∙ c.in_default.is))
    ∙ c.loop-up.invariant
