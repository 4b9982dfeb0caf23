use Rattle.std.proofs.Common.{◌≡◌, ◌∙◌, sym, ap, subst, refl, [], ◌∷◌}
use Rattle.std.specs.Prelude.{Option}
use Rattle.self_terms.specs.declared.values.Value.{Value}
use Rattle.self_terms.specs.declared.values.Value.TheVariants as values
use Rattle.self_terms.specs.declared.errors.ErrorName.TheVariants as errors
use Rattle.source_model.specs.declared.objects.Thing.{Thing}
use Rattle.source_model.specs.Primitives.{Effect, put, thing_in}
use Rattle.prim_table.specs.declared.answers.PrimAnswer.TheVariants as answers
use Rattle.prim_table.specs.declared.sorts.Sort.{Sort}
use Rattle.prim_table.specs.declared.sorts.Sort.TheVariants as sorts
use Rattle.prim_table.specs.Answers.{IsAnswer}
use Rattle.prim_table.specs.Operands.{sort_of}
use Rattle.prim_table.proofs.Sorting.{sound, sorted, vector_found, vector_at, IsVector, unput}
use Rattle.prim_table.proofs.objects.put.Goals as goal

pub sort_of-requires : goal.sort_of-requires
sort_of-requires c = sound c.args.maps.now c.args.mem.now c.args.heap.now c.args.receiver c.requires

pub put_in-requires : goal.put_in-requires
put_in-requires c = vector_at c.args.maps.now c.args.mem.now c.args.heap.now c.args.receiver c.requires (sym c.in-Vector.ensures)

pub returns-in-Vector-clause-answer : goal.returns-in-Vector-clause-answer
returns-in-Vector-clause-answer c = λ h p things made v u x is a b d.
    let f = vector_found h p things v c.args.receiver a (subst IsVector (c.in-Vector.ensures ∙ sorted c.args.maps.now c.args.mem.now c.args.heap.now h p things made is v c.args.receiver a) tt) in
    subst (λ (e : Effect). IsAnswer c.args.maps.now c.args.mem.now c.put_in.new.mem c.args.heap.now c.args.heap.now h p things made c.args.receiver c.put_in.result e)
    (sym (ap (λ (z : Value). put z (thing_in things z) (u ∷ x ∷ [])) f.is ∙ ap (λ (t : Option Thing). put (values.Object f.number) t (u ∷ x ∷ [])) f.was))
    (c.put_in.ensures.answer h p things made f.number f.items u x is f.at f.was b d)

pub returns-in_default : goal.returns-in_default
returns-in_default c = record {
  answer = λ h p things made v u x is a b d.
      let e : c.sort_of.result ≡ sort_of things v = c.sort_of.ensures ∙ sorted c.args.maps.now c.args.mem.now c.args.heap.now h p things made is v c.args.receiver a in
      subst (λ (f : Effect). IsAnswer c.args.maps.now c.args.mem.now c.args.mem.now c.args.heap.now c.args.heap.now h p things made c.args.receiver (answers.Fails errors.BadType) f)
      (sym (unput things v u x (subst (λ (s : Sort). s ≡ sorts.Vector → ⊥) e c.in_default.not-Vector))) (refl, refl, refl);
  outside = λ b out. refl;
}
