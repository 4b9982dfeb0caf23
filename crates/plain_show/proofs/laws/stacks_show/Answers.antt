use Rattle.plain_show.proofs.Agreeing.{stacks_show}
use Rattle.plain_show.proofs.Kept.{stays_at_poll}
use Rattle.plain_show.proofs.laws.stacks_show.Goals as goal

pub returns-clause-stacks : goal.returns-clause-stacks
returns-clause-stacks c = λ z h s all p stands bodies well here. stacks_show z h s all p stands bodies well here

pub returns-clause-flushed : goal.returns-clause-flushed
returns-clause-flushed c = λ h p. stays_at_poll h p
