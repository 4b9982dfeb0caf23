use Rattle.std.proofs.Common.{◌≤◌, ◌≡◌, ◌∙◌, subst, ap, arith, length, ℕ, List}
use Rattle.heap_cells.specs.Laying.{Holds}
use Rattle.world_heap.specs.Images.{Image}
use Rattle.world_heap.proofs.Starting.{started}
use Rattle.world_heap.proofs.ThingLemmas.{few_things}
use Rattle.world_heap.proofs.images.WorldImage.put.Goals as goal

pub overflow_cast-result-2 : goal.overflow_cast-result-2
overflow_cast-result-2 c = omega (arith, few_things c.args.self.now.world.things, c.is_whole.ensures.modest.few, ap (λ xs. length xs) c.things.ensures, ap (λ (z : Image). length z.world.things) c.self.view_is)

pub returns-clause-stands : goal.returns-clause-stands
returns-clause-stands c =
    let all : length c.args.self.now.words ≤ 1048576 = (let few = c.is_whole.ensures.modest.few in let spans = c.stands.ensures.all in omega arith) in
    let same : c.as_slice.result.now ≡ c.args.self.now.words = c.as_slice.ensures.value ∙ ap (λ (z : Image). z.words) c.self.view_is in
    started c.args.self.now c.put_words.new.mem c.stands.ensures c.is_whole.ensures.whole (subst (λ (ws : List ℕ). Holds c.put_words.new.mem 0x20000000 ws) same c.put_words.ensures.put) all
