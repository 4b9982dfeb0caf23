use Rattle.world_formed.proofs.Fits.{accepted_fit}
use Rattle.world_formed.proofs.laws.accepted_bodies_fit.Goals as goal

pub returns : goal.returns
returns c = accepted_fit
