use Rattle.std.proofs.Common.{take}
use Rattle.heap_cells.specs.Ending.{AreCleared}
use Rattle.heap_cells.proofs.ending.clear_marks.Given as goal

abbrev pub invariant-loop-context : goal.invariant-loop-context
invariant-loop-context l = AreCleared l.fn.mem (take l.context-index l.contexts) l.mem
