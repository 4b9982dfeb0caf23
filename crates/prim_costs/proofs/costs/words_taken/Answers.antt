use Rattle.std.proofs.Common.{◌∙◌, sym}
use Rattle.prim_costs.proofs.Free.{free, copies, fills}
use Rattle.prim_costs.proofs.costs.words_taken.Goals as goal

pub returns-in-Nothing : goal.returns-in-Nothing
returns-in-Nothing c = λ heap h p made s v vs is x. sym (free s c.args.prim v vs (sym c.in-Nothing.ensures))

pub returns-in-Copy : goal.returns-in-Copy
returns-in-Copy c = λ heap h p made s v vs is x. c.words_of_copy.ensures heap h p s.things made v is x ∙ sym (copies s c.args.prim v vs (sym c.in-Copy.ensures))

pub returns-in-Vector : goal.returns-in-Vector
returns-in-Vector c = λ heap h p made s v vs is x. c.words_of_vector.ensures c.args.maps.now c.args.mem.now heap h p s.things made s.core v is x ∙ sym (fills s c.args.prim v vs (sym c.in-Vector.ensures))
