use Rattle.std.proofs.Common.{◌∙◌, sym, ap, Some}
use Rattle.self_terms.specs.Bodies.{sought}
use Rattle.world_build.proofs.OpenLemmas.{nothing_out, object_out, found_out, further_out}
use Rattle.world_build.proofs.loading.Loading.found.Goals as goal

pub returns-in-None : goal.returns-in-None
returns-in-None c =
    sym (nothing_out (sought c.args.assigning c.args.name) c.loop-up.up c.args.self.now.bodies c.args.self.now.around (sym c.get.ensures ∙ sym c.copied.ensures ∙ c.in-None.is))
    ∙ c.loop-up.invariant

pub returns-in-Some-InObject : goal.returns-in-Some-InObject
returns-in-Some-InObject c =
    sym (object_out (sought c.args.assigning c.args.name) c.loop-up.up c.args.self.now.bodies c.args.self.now.around c.in-Some-InObject.field-0-0 (sym c.get.ensures ∙ sym c.copied.ensures ∙ c.in-Some-InObject.is ∙ ap Some c.in-Some-InObject.field-0-is))
    ∙ c.loop-up.invariant

pub returns-in-Some : goal.returns-in-Some
returns-in-Some c =
    sym (found_out (sought c.args.assigning c.args.name) c.loop-up.up c.args.self.now.bodies c.args.self.now.around c.in-Some-InBody.body c.in-Some.slot (sym c.get.ensures ∙ sym c.copied.ensures ∙ c.in-Some-InBody.is ∙ ap Some c.in-Some-InBody.field-0-is) (sym c.local.ensures ∙ c.in-Some.is))
    ∙ c.loop-up.invariant

pub loop-up-preserved : goal.loop-up-preserved
loop-up-preserved c =
    sym (further_out (sought c.args.assigning c.args.name) c.loop-up.up c.args.self.now.bodies c.args.self.now.around c.in-Some-InBody.body (sym c.get.ensures ∙ sym c.copied.ensures ∙ c.in-Some-InBody.is ∙ ap Some c.in-Some-InBody.field-0-is) (sym c.local.ensures ∙ c.in_default.is))
    ∙ c.loop-up.invariant
