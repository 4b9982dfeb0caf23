use Rattle.std.proofs.Common.{◌∙◌, sym, subst, List, ℕ, take, add-one, ap}
use Rattle.std.proofs.Math.Seq.{take-suc}
use Rattle.std.proofs.lemmas.Option.{slice_get-get_or}
use Rattle.heap_cells.specs.Ending.{AreCleared}
use Rattle.heap_cells.proofs.Ended.{cleared_more}
use Rattle.heap_cells.proofs.ending.clear_marks.Goals as goal

pub clear_mark-requires : goal.clear_mark-requires
clear_mark-requires c = c.requires c.loop-context.context-index _ (slice_get-get_or c.args.contexts.now c.loop-context.context-index 0 c.loop-context-test.true)

pub loop-context-preserved : goal.loop-context-preserved
loop-context-preserved c =
    subst (λ (z : List ℕ). AreCleared c.args.mem.now z c.clear_mark.new.mem)
    (sym (ap (λ k. take k c.args.contexts.now) (add-one c.loop-context.context-index) ∙ take-suc c.args.contexts.now c.loop-context.context-index 0 c.loop-context-test.true))
    (cleared_more c.args.mem.now c.loop-context.mem c.clear_mark.new.mem (take c.loop-context.context-index c.args.contexts.now) _ c.loop-context.invariant c.clear_mark.ensures)
