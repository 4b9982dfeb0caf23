use Rattle.std.proofs.Common.{◌≡◌, ◌∙◌, sym, ap, subst, refl}
use Rattle.std.specs.Prelude.{Option}
use Rattle.self_terms.specs.declared.errors.ErrorName.TheVariants as errors
use Rattle.source_model.specs.declared.objects.Thing.{Thing}
use Rattle.source_model.specs.Primitives.{Effect, at, thing_in}
use Rattle.prim_table.specs.declared.answers.PrimAnswer.TheVariants as answers
use Rattle.prim_table.specs.declared.sorts.Sort.{Sort}
use Rattle.prim_table.specs.declared.sorts.Sort.TheVariants as sorts
use Rattle.prim_table.specs.Answers.{IsPlain}
use Rattle.prim_table.specs.Operands.{sort_of}
use Rattle.prim_table.proofs.Sorting.{sound, sorted, vector_at, text_at, vector_found, text_found, IsVector, IsText, unindexed_at}
use Rattle.prim_table.proofs.objects.at.Goals as goal

pub sort_of-requires : goal.sort_of-requires
sort_of-requires c = sound c.args.maps.now c.args.mem.now c.requires.0 c.args.receiver c.requires.1

pub element-requires : goal.element-requires
element-requires c = (c.args.maps.now, c.requires.0, vector_at c.args.maps.now c.args.mem.now c.requires.0 c.args.receiver c.requires.1 (sym c.in-Vector.ensures))

pub returns-in-Vector : goal.returns-in-Vector
returns-in-Vector c = λ heap h p things made v u is x y.
    let f = vector_found h p things v c.args.receiver x (subst IsVector (c.in-Vector.ensures ∙ sorted c.args.maps.now c.args.mem.now heap h p things made is v c.args.receiver x) tt) in
    subst (λ (e : Option Thing). IsPlain h p c.element.result (at e u)) (sym (ap (thing_in things) f.is ∙ f.was))
    (c.element.ensures c.args.maps.now heap h p things made f.number f.items u is f.at f.was y)

pub byte-requires : goal.byte-requires
byte-requires c = (c.args.maps.now, c.requires.0, text_at c.args.maps.now c.args.mem.now c.requires.0 c.args.receiver c.requires.1 (sym c.in-Text.ensures))

pub returns-in-Text : goal.returns-in-Text
returns-in-Text c = λ heap h p things made v u is x y.
    let f = text_found h p things v c.args.receiver x (subst IsText (c.in-Text.ensures ∙ sorted c.args.maps.now c.args.mem.now heap h p things made is v c.args.receiver x) tt) in
    subst (λ (e : Option Thing). IsPlain h p c.byte.result (at e u)) (sym (ap (thing_in things) f.is ∙ f.was))
    (c.byte.ensures c.args.maps.now heap h p things made f.number f.bytes u is f.at f.was y)

pub returns-in_default : goal.returns-in_default
returns-in_default c = λ heap h p things made v u is x y.
    let e : c.sort_of.result ≡ sort_of things v = c.sort_of.ensures ∙ sorted c.args.maps.now c.args.mem.now heap h p things made is v c.args.receiver x in
    subst (λ (f : Effect). IsPlain h p (answers.Fails errors.BadType) f)
    (sym (unindexed_at things v u (subst (λ (s : Sort). s ≡ sorts.Vector → ⊥) e c.in_default.not-Vector) (subst (λ (s : Sort). s ≡ sorts.Text → ⊥) e c.in_default.not-Text))) refl
