use Rattle.std.proofs.Common.{◌∙◌, sym, length, ◌-◌, ◌+◌, arith}
use Rattle.std.proofs.lemmas.Result.{err_from_is_err_and}
use Rattle.world_build.proofs.ItemLemmas.{wider, goes_on, stops, grows, left, at_end}
use Rattle.world_build.proofs.items.load_items.Goals as goal

pub take-requires : goal.take-requires
take-requires c = wider (450000000 - length c.args.items.now + c.loop-item.item-index) 450000000 c.loop-item.loading (omega (arith, c.requires.few)) c.loop-item.invariant.room

pub returns-in_err-take-clause-refused : goal.returns-in_err-take-clause-refused
returns-in_err-take-clause-refused c =
    let p = err_from_is_err_and c.from_residual.result c.from_residual.ensures.1 in
    rw (p.1, p.2) (λ other. sym c.loop-item.invariant.taken ∙ stops c.args.bytes.now c.args.items.now c.loop-item.item-index _ c.loop-item.kinds c.next_kind-object.result c.loop-item-test.true c.loop-item.invariant.kinds c.next_kind-object.ensures.kind c.loop-item.loading c.in_err-take.field-0.0 (c.in_err-take.ensures.refused other))

pub loop-item-preserved : goal.loop-item-preserved
loop-item-preserved c = record {
  taken = sym (goes_on c.args.bytes.now c.args.items.now c.loop-item.item-index _ c.loop-item.kinds c.next_kind-object.result c.loop-item-test.true c.loop-item.invariant.kinds c.next_kind-object.ensures.kind c.loop-item.loading c.take.new.self c.in_ok-take.ensures.taken)
      ∙ c.loop-item.invariant.taken;
  room = wider (450000000 - length c.args.items.now + c.loop-item.item-index + 1) (450000000 - length c.args.items.now + (c.loop-item.item-index + 1)) c.take.new.self (omega arith)
      (grows c.args.bytes.now c.args.items.now c.loop-item.item-index _ c.loop-item.kinds c.next_kind-object.result c.loop-item-test.true c.loop-item.invariant.kinds c.next_kind-object.ensures.kind (450000000 - length c.args.items.now + c.loop-item.item-index) c.loop-item.loading c.take.new.self c.loop-item.invariant.room c.in_ok-take.ensures.taken);
  kinds = left c.args.bytes.now c.args.items.now c.loop-item.item-index _ c.loop-item.kinds c.next_kind-object.result c.loop-item-test.true c.loop-item.invariant.kinds c.next_kind-object.ensures.kind c.next_kind-object.new.kinds c.next_kind-object.ensures.rest;
}

pub returns-clause-taken : goal.returns-clause-taken
returns-clause-taken c = sym c.loop-item.invariant.taken ∙ at_end c.args.bytes.now c.args.items.now c.loop-item.item-index c.loop-item.loading c.loop-item-test.false
