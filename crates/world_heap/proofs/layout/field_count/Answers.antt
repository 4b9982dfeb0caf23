use Rattle.std.proofs.Common.{◌∙◌, ◌+◌, sym, ap, subst, length, drop, ◌<◌}
use Rattle.world_heap.specs.Layout.{fields}
use Rattle.world_heap.proofs.Fronts.{is_there}
use Rattle.world_heap.proofs.LayoutLemmas.{counts_on}
use Rattle.world_heap.proofs.layout.field_count.Goals as goal
use Rattle.world_heap.proofs.layout.field_count.Goals.{in-Some, in_default}

pub loop-at-preserved : goal.loop-at-preserved
loop-at-preserved c = elim c.match-slot_at.branch [
  | in-Some w ↦
      ap (λ n. n + length (fields (drop (c.loop-at.at + 1) c.args.slots.now))) (w.count-is ∙ w.behind-count.ensures)
      ∙ sym (counts_on c.args.slots.now c.loop-at.at c.loop-at.count w.in-Some.slot (sym c.slot_at.ensures ∙ w.in-Some.is))
      ∙ c.loop-at.invariant
  | in_default w ↦ absurd (is_there c.args.slots.now c.loop-at.at (subst (λ n. c.loop-at.at < n) c.len-at-end.ensures c.loop-at-test.true) (sym c.slot_at.ensures ∙ w.in_default.is))
]
