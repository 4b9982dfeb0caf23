use Rattle.heap_cells.proofs.Ended.{all_ended}
use Rattle.heap_cells.proofs.laws.heaps_end.Goals as goal

pub returns : goal.returns
returns c = λ maps mem new heap h p objects made is ys ws ending cleared. all_ended maps mem new heap h p objects made is ys ws ending cleared
