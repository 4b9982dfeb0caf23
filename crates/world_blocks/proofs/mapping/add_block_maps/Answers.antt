use Rattle.std.proofs.Common.{◌≡◌, ◌+◌, ◌-◌, ◌∙◌, ap, arith}
use Rattle.std.specs.Prelude.{slice_get}
use Rattle.world_blocks.proofs.Adding.{one_added}
use Rattle.world_blocks.proofs.mapping.add_block_maps.Goals as goal

pub loop-k-preserved : goal.loop-k-preserved
loop-k-preserved c =
    let w = c.args.world.now in
    let k = c.loop-k.k in
    let same : k ≡ k + 1 - 1 = omega arith in
    let there = ap (slice_get w.bodies) same ∙ c.body-body.ensures in
    one_added w.names c.args.traits w.bodies c.args.maps.now c.loop-k.maps c.add_block_map.new.maps c.loop-k.numbers c.push.new.self k c.in_ok-number.number c.body-body.result.now there c.in_ok-number.ensures.added c.in_ok-number.ensures.number c.in_ok-push.ensures c.loop-k.invariant
