use Rattle.std.proofs.Common.{◌∙◌, ◌<◌, ◌+◌, ◌++◌, ◌∷◌, [], length, drop, sym, ap, subst, arith, length-append}
use Rattle.object_maps.specs.Slots.{slot_named}
use Rattle.world_heap.specs.Kinds.{kind_of, map_from}
use Rattle.world_heap.proofs.LayoutLemmas.{behind_less}
use Rattle.world_heap.proofs.Fronts.{is_there}
use Rattle.world_heap.proofs.KindLemmas.{map_more, still_new}
use Rattle.world_heap.proofs.kinds.map_of.Goals as goal
use Rattle.world_heap.proofs.kinds.map_of.Goals.{in-Some+in_ok-add, in_default}

pub loop-at-preserved : goal.loop-at-preserved
loop-at-preserved c = elim c.match-slot_at.branch [
  | in-Some+in_ok-add w ↦ record {
    made =
        ap (λ m. m ++ map_from c.args.world.now c.match-slot_at.fields (drop (c.loop-at.at + 1) c.args.slots.now)) (w.map-is ∙ w.in_ok-add.ensures.added ∙ ap (λ k. c.loop-at.map ++ (w.in-Some.slot.name, k) ∷ []) w.kind_of-kind.ensures)
        ∙ ap (λ n. (c.loop-at.map ++ (w.in-Some.slot.name, kind_of c.args.world.now c.loop-at.fields w.in-Some.slot.content) ∷ []) ++ map_from c.args.world.now n (drop (c.loop-at.at + 1) c.args.slots.now)) (w.fields-is ∙ w.behind-fields.ensures)
        ∙ map_more c.args.world.now c.loop-at.map c.loop-at.fields c.args.slots.now c.loop-at.at w.in-Some.slot (sym c.slot_at.ensures ∙ w.in-Some.is)
        ∙ c.loop-at.invariant.made;
    new = λ n e. ap (slot_named n) (w.map-is ∙ w.in_ok-add.ensures.added) ∙ still_new c.loop-at.map w.kind_of-kind.result c.args.slots.now c.loop-at.at w.in-Some.slot (sym c.slot_at.ensures ∙ w.in-Some.is) c.loop-at.invariant.new n e;
    count = ap length (w.map-is ∙ w.in_ok-add.ensures.added) ∙ length-append c.loop-at.map _ ∙ omega (arith, c.loop-at.invariant.count);
    few = omega (arith, c.loop-at.invariant.few, w.fields-is, w.behind-fields.ensures, behind_less c.loop-at.fields w.in-Some.slot.content);
  }
  | in_default w ↦ absurd (is_there c.args.slots.now c.loop-at.at (subst (λ n. c.loop-at.at < n) c.len-at-end.ensures c.loop-at-test.true) (sym c.slot_at.ensures ∙ w.in_default.is))
]
