use Rattle.plain_core.proofs.Serving.{asked}
use Rattle.plain_core.proofs.turning.send.Goals as goal

pub find-requires-clause-asked : goal.find-requires-clause-asked
find-requires-clause-asked c = asked _ _ _ _ c.requires.at c.requires.room
