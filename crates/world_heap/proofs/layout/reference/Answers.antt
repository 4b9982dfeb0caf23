use Rattle.std.proofs.Common.{sym, subst, arith, length, ◌≤◌}
use Rattle.world_heap.proofs.LayoutLemmas.{some_references, one_of, past_all}
use Rattle.world_heap.proofs.layout.reference.Goals as goal

pub overflow_sub-result : goal.overflow_sub-result
overflow_sub-result c = subst (λ rs. 1 ≤ length rs) (sym c.requires) (some_references 0 c.args.world.now.things)

pub bounds-references-references : goal.bounds-references-references
bounds-references-references c =
    let some : 1 ≤ length c.args.references.now = subst (λ rs. 1 ≤ length rs) (sym c.requires) (some_references 0 c.args.world.now.things) in
    omega arith

pub returns-then-at-references : goal.returns-then-at-references
returns-then-at-references c = one_of c.args.object c.args.world.now.things c.args.references.now c.requires c.if-at-references.true

pub returns : goal.returns
returns c = past_all c.args.object c.args.world.now.things c.args.references.now c.requires c.if-at-references.false
