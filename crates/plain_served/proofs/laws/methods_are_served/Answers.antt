use Rattle.plain_served.proofs.Serving.{methods_served}
use Rattle.plain_served.proofs.laws.methods_are_served.Goals as goal

pub returns : goal.returns
returns c = methods_served
