use Rattle.plain_evaluates.proofs.Blocks.{blocks_entered}
use Rattle.plain_evaluates.proofs.laws.blocks_are_entered.Goals as goal

pub returns : goal.returns
returns c = blocks_entered
