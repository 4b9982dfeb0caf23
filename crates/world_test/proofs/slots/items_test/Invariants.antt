use Rattle.std.proofs.Common.{◌≡◌, drop}
use Rattle.source_model.specs.Testing.{each_passes, plain_test}
use Rattle.world_test.proofs.slots.items_test.Given as goal

-- what is left passes where all do
abbrev pub invariant-loop-item : goal.invariant-loop-item
invariant-loop-item l = each_passes (plain_test l.things) (drop l.item-index l.items) ≡ each_passes (plain_test l.things) l.items
