use Rattle.std.proofs.Common.{◌∙◌, sym, length}
use Rattle.world_test.proofs.Once.{slots_fail, slots_go}
use Rattle.world_test.proofs.slots.slots_test.Goals as goal

pub returns-then-not-slot_test : goal.returns-then-not-slot_test
returns-then-not-slot_test c =
    sym
    (slots_fail c.args.names.now c.args.world.now.bodies (length c.args.world.now.things) c.args.slots.now c.loop-at.at c.loop-at.front c.slot_at-slot.result c.slot_at-slot.ensures
    (sym c.if-not-slot_test.ensures)) ∙ c.loop-at.invariant

pub loop-at-preserved : goal.loop-at-preserved
loop-at-preserved c =
    slots_go c.args.names.now c.args.world.now.bodies (length c.args.world.now.things) c.args.slots.now c.loop-at.at c.loop-at.front c.slot_at-slot.result c.have_each_once.ensures c.slot_at-slot.ensures
    (sym c.if-not-slot_test.ensures) ∙ c.loop-at.invariant
