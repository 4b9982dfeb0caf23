use Rattle.std.proofs.Common.{◌≡◌, ◌∙◌, ◌+◌, ◌/◌, sym, ap, refl, arith}
use Rattle.prim_table.specs.Answers.{cost}
use Rattle.prim_table.proofs.Operating.{integer}
use Rattle.prim_table.proofs.Sorting.{tagged}
use Rattle.prim_table.proofs.Indexing.{counted, miscounted}
use Rattle.prim_costs.proofs.Free.{no_integer}
use Rattle.prim_costs.proofs.costs.words_of_vector.Goals as goal

pub returns-then-not-is_int : goal.returns-then-not-is_int
returns-then-not-is_int c = λ maps mem heap h p things made known v is x.
    sym (no_integer known h p v c.args.receiver x (λ e. (let t = c.if-not-is_int.ensures.1 e in cc)))

pub returns-then-receiver : goal.returns-then-receiver
returns-then-receiver c = λ maps mem heap h p things made known v is x.
    sym (ap cost (miscounted known v c.args.receiver (integer h p v c.args.receiver (tagged maps mem heap h p things made is) x (c.if-not-is_int.ensures.0 refl)) (let lt = c.if-receiver.true in omega arith)))

pub returns : goal.returns
returns c = λ maps mem heap h p things made known v is x.
    let n = counted known v c.args.receiver (integer h p v c.args.receiver (tagged maps mem heap h p things made is) x (c.if-not-is_int.ensures.0 refl)) (let le = c.if-receiver.false in omega arith) in
    let word = n.word in
    let same : 3 + c.args.receiver / 4 ≡ 3 + n.count = omega arith in
    same ∙ sym (ap cost n.effect)
