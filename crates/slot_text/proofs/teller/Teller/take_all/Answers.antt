use Rattle.std.proofs.Common.{◌+◌, ◌-◌, length, refl, sym, subst, ◌∙◌, arith}
use Rattle.world_build.specs.Steps.{IsWithin}
use Rattle.world_build.specs.SlotTexts.{Told}
use Rattle.world_build.proofs.ItemLemmas.{wider}
use Rattle.slot_text.specs.Telling.{shown}
use Rattle.slot_text.proofs.TellLemmas.{within_tells, goes_on, at_end}
use Rattle.slot_text.proofs.teller.Teller.take_all.Goals as goal

pub loop-item-init : goal.loop-item-init
loop-item-init c = record { taken = refl; room = wider (450000000 - length c.args.items.now) (450000000 - length c.args.items.now + 0) (shown c.args.self.now).loading (omega arith) c.requires.room }

pub take-requires : goal.take-requires
take-requires c = wider (450000000 - length c.args.items.now + c.loop-item.item-index) 450000000 (shown c.loop-item.self).loading (omega (arith, c.requires.few)) c.loop-item.invariant.room

pub loop-item-preserved : goal.loop-item-preserved
loop-item-preserved c = record {
  taken = sym (goes_on c.args.bytes.now c.args.items.now c.loop-item.item-index _ (shown c.loop-item.self) (shown c.take.new.self) c.loop-item-test.true c.in_ok-take.ensures) ∙ c.loop-item.invariant.taken;
  room = subst (λ (t : Told). IsWithin (450000000 - length c.args.items.now + (c.loop-item.item-index + 1)) t.loading) (sym c.in_ok-take.ensures)
      (wider (450000000 - length c.args.items.now + c.loop-item.item-index + 1) (450000000 - length c.args.items.now + (c.loop-item.item-index + 1)) _ (omega arith)
      (within_tells (450000000 - length c.args.items.now + c.loop-item.item-index) c.args.bytes.now _ c.loop-item.self c.loop-item.invariant.room));
}

pub returns : goal.returns
returns c = sym (at_end c.args.bytes.now c.args.items.now c.loop-item.item-index (shown c.loop-item.self) c.loop-item-test.false) ∙ c.loop-item.invariant.taken
