use Rattle.std.proofs.Common.{◌≡◌, ◌+◌, ◌*◌, ◌/◌, ◌≤◌, ◌++◌, ◌∷◌, [], ℕ, sym, ap, subst, refl, arith}
use Rattle.self_terms.specs.declared.errors.ErrorName.TheVariants as errors
use Rattle.self_terms.specs.declared.values.Value.TheVariants as values
use Rattle.source_model.specs.declared.objects.Thing.TheVariants.{Vector}
use Rattle.source_model.specs.Primitives.{Effect}
use Rattle.std.specs.Prelude.{replicate}
use Rattle.heap_cells.specs.Heaps.{After}
use Rattle.prim_table.specs.declared.answers.PrimAnswer.TheVariants as answers
use Rattle.prim_table.specs.Answers.{IsAnswer, cost}
use Rattle.prim_table.proofs.Operating.{integer}
use Rattle.prim_table.proofs.Sorting.{tagged}
use Rattle.prim_table.proofs.Indexing.{counted, miscounted}
use Rattle.prim_table.proofs.objects.vector.Goals as goal

pub returns-then-receiver-clause-answer : goal.returns-then-receiver-clause-answer
returns-then-receiver-clause-answer c = λ h p things made known v is core x.
    subst (λ (e : Effect). IsAnswer c.args.maps.now c.args.mem.now c.args.mem.now c.args.heap.now c.args.heap.now h p things made c.args.receiver (answers.Fails errors.BadSize) e)
    (sym (miscounted known v c.args.receiver (integer h p v c.args.receiver (tagged c.args.maps.now c.args.mem.now c.args.heap.now h p things made is) x (c.if-not-is_int.ensures.0 refl)) (let lt = c.if-receiver.true in omega arith)))
    (refl, refl, refl)

pub new_vector-requires-clause-room : goal.new_vector-requires-clause-room
new_vector-requires-clause-room c =
    let known = c.requires.room.0 in
    let o = c.requires.room.1 in
    let n = counted known o.value c.args.receiver (integer o.cells o.places o.value c.args.receiver (tagged c.args.maps.now c.args.mem.now c.args.heap.now o.cells o.places o.objects o.made o.is) o.stands (c.if-not-is_int.ensures.0 refl)) (let le = c.if-receiver.false in omega arith) in
    let word = n.word in
    let room : c.args.heap.now.top + 4 * (3 + n.count) ≤ 583008256 = subst (λ (e : Effect). c.args.heap.now.top + 4 * cost e ≤ 583008256) n.effect c.requires.room.2 in
    omega arith

pub returns-clause-answer : goal.returns-clause-answer
returns-clause-answer c = λ h p things made known v is core x.
    let n = counted known v c.args.receiver (integer h p v c.args.receiver (tagged c.args.maps.now c.args.mem.now c.args.heap.now h p things made is) x (c.if-not-is_int.ensures.0 refl)) (let le = c.if-receiver.false in omega arith) in
    let word = n.word in
    let same : c.args.receiver / 4 ≡ n.count = omega arith in
    subst (λ (e : Effect). IsAnswer c.args.maps.now c.args.mem.now c.new_vector.new.mem c.args.heap.now c.new_vector.new.heap h p things made c.args.receiver (answers.Done c.new_vector.result) e) (sym n.effect) (
      subst (λ (z : ℕ). After c.args.maps.now c.new_vector.new.mem c.new_vector.new.heap h p (record p { objects = p.objects ++ c.new_vector.result ∷ [] }) (things ++ Vector (replicate z (values.Object known.nil)) ∷ []) made) same
          (c.new_vector.ensures.made c.args.maps.now h p things made (values.Object known.nil) is core.nil),
      (let e = ap (λ z. z.top) c.new_vector.ensures.next in omega arith),
    )
