use Rattle.world_facts.proofs.Facts.{accepted_whole}
use Rattle.world_facts.proofs.laws.accepted_worlds_are_whole.Goals as goal

pub returns : goal.returns
returns c = λ bytes w small a. accepted_whole a.limits a.known bytes a.text w small a.is a.made
