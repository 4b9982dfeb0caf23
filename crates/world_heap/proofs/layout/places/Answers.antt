use Rattle.std.proofs.Common.{◌+◌, ◌++◌, ◌<◌, [], ◌∷◌, ap, ◌∙◌, arith, drop, length, ℕ, List}
use Rattle.world_heap.specs.Heaps.{references_from}
use Rattle.world_heap.proofs.Referring.{places_on}
use Rattle.world_heap.proofs.ThingLemmas.{few_things}
use Rattle.world_heap.proofs.layout.places.Goals as goal

pub overflow_cast-k : goal.overflow_cast-k
overflow_cast-k c = omega (arith, few_things c.args.world.now.things, c.requires.few, ap (λ xs. length xs) c.things-k-end.ensures, c.loop-k-test.true)

pub loop-k-preserved : goal.loop-k-preserved
loop-k-preserved c =
    let w = c.args.world.now in
    let k = c.loop-k.k in
    let inside : k < length w.things = omega (arith, ap (λ xs. length xs) c.things-k-end.ensures, c.loop-k-test.true) in
    ap (λ (xs : List ℕ). xs ++ references_from w (k + 1) (drop (k + 1) w.things)) (c.in_ok-push.ensures ∙ ap (λ r. c.loop-k.objects ++ r ∷ []) c.reference.ensures)
    ∙ places_on w c.loop-k.objects k w.things inside
    ∙ c.loop-k.invariant
