use Rattle.std.proofs.Common.{◌≡◌, ◌+◌, ◌-◌, drop, length}
use Rattle.world_build.specs.Nodes.{loaded}
use Rattle.world_build.specs.Kinds.{openings}
use Rattle.world_build.specs.Steps.{IsWithin}
use Rattle.world_build.proofs.items.load_items.Given as goal

abbrev pub invariant-loop-item : goal.invariant-loop-item
invariant-loop-item l = record {
  taken : loaded l.bytes (drop l.item-index l.items) l.loading ≡ loaded l.bytes l.items l.fn.loading;
  room : IsWithin (450000000 - length l.items + l.item-index) l.loading;
  kinds : l.kinds ≡ openings (drop l.item-index l.items);
}
