use Rattle.source_model.proofs.Finishing.{finishes}
use Rattle.source_model.proofs.soundness.finishes_by_count.Goals as goal

pub returns : goal.returns
returns c = finishes
