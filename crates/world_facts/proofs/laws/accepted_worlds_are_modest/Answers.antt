use Rattle.world_facts.proofs.Modest.{accepted_modest}
use Rattle.world_facts.proofs.laws.accepted_worlds_are_modest.Goals as goal

pub returns : goal.returns
returns c = λ bytes w short a. accepted_modest a.limits a.known bytes a.text w a.size a.is short a.made
