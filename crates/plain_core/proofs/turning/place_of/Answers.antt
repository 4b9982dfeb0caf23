use Rattle.std.proofs.Common.{◌∙◌, sym}
use Rattle.plain_core.proofs.Serving.{none_or}
use Rattle.plain_core.proofs.turning.place_of.Goals as goal

pub returns-in-None : goal.returns-in-None
returns-in-None c = none_or c.args.places.now c.args.node _ (sym c.get.ensures ∙ c.in-None.is)
