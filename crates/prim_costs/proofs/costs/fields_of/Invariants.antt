use Rattle.std.proofs.Common.{◌≡◌, ◌≤◌, ◌+◌, drop}
use Rattle.heap_cells.specs.Cloning.{field_count}
use Rattle.object_maps.specs.Slots.{slots_in}
use Rattle.prim_costs.proofs.costs.fields_of.Given as goal

abbrev pub invariant-loop-at : goal.invariant-loop-at
invariant-loop-at l = record { so_far : l.count + field_count (drop l.at (slots_in l.maps l.map.0)) ≡ field_count (slots_in l.maps l.map.0); small : l.count ≤ l.at }
