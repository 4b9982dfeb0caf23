use Rattle.std.proofs.Common.{◌∙◌, ◌+◌, ap, drop}
use Rattle.heap_cells.specs.Cloning.{field_count}
use Rattle.object_maps.specs.Slots.{slots_in}
use Rattle.heap_cells.proofs.Counting.{count_some, count_none}
use Rattle.prim_costs.proofs.costs.field_at.Goals as goal

pub returns-in-Some-clause-count : goal.returns-in-Some-clause-count
returns-in-Some-clause-count c =
    ap (λ z. z + field_count (drop (c.args.at + 1) (slots_in c.args.maps.now c.args.map.0))) c.words_of_slot.ensures.count
    ∙ count_some (slots_in c.args.maps.now c.args.map.0) c.args.at _ c.in-Some.kind c.in-Some.ensures.slot c.requires.at

pub returns-in-None-clause-count : goal.returns-in-None-clause-count
returns-in-None-clause-count c = absurd (count_none (slots_in c.args.maps.now c.args.map.0) c.args.at c.in-None.ensures.slot c.requires.at)
