use Rattle.world_code.proofs.Runnable.{accepted_runnable}
use Rattle.world_code.proofs.laws.accepted_bodies_run.Goals as goal

pub returns : goal.returns
returns c = λ bytes w a. accepted_runnable bytes w a
