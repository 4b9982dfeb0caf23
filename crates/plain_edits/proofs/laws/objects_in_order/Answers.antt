use Rattle.plain_edits.proofs.Order.{objects_in_order}
use Rattle.plain_edits.proofs.laws.objects_in_order.Goals as goal

pub returns : goal.returns
returns c = objects_in_order
