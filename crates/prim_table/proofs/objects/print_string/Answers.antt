use Rattle.std.proofs.Common.{◌≡◌, ◌∙◌, sym, ap, subst, refl}
use Rattle.std.specs.Prelude.{Option}
use Rattle.self_terms.specs.declared.errors.ErrorName.TheVariants as errors
use Rattle.source_model.specs.declared.objects.Thing.{Thing}
use Rattle.source_model.specs.Primitives.{Effect, string_print, thing_in}
use Rattle.prim_table.specs.declared.answers.PrimAnswer.TheVariants as answers
use Rattle.prim_table.specs.declared.sorts.Sort.{Sort}
use Rattle.prim_table.specs.declared.sorts.Sort.TheVariants as sorts
use Rattle.prim_table.specs.Answers.{IsAnswer}
use Rattle.prim_table.specs.Operands.{sort_of}
use Rattle.prim_table.proofs.Sorting.{sound, sorted, text_found, IsText, unprinted}
use Rattle.prim_table.proofs.objects.print_string.Goals as goal

pub sort_of-requires : goal.sort_of-requires
sort_of-requires c = sound c.args.maps.now c.args.mem.now c.args.heap.now c.args.receiver c.requires

pub returns-in-Text : goal.returns-in-Text
returns-in-Text c = λ h p things made v is x.
    let f = text_found h p things v c.args.receiver x (subst IsText (c.in-Text.ensures ∙ sorted c.args.maps.now c.args.mem.now c.args.heap.now h p things made is v c.args.receiver x) tt) in
    subst (λ (e : Option Thing). IsAnswer c.args.maps.now c.args.mem.now c.args.mem.now c.args.heap.now c.args.heap.now h p things made c.args.receiver (answers.Done c.args.receiver) (string_print e))
    (sym (ap (thing_in things) f.is ∙ f.was)) (refl, refl, refl)

pub returns-in_default : goal.returns-in_default
returns-in_default c = λ h p things made v is x.
    let e : c.sort_of.result ≡ sort_of things v = c.sort_of.ensures ∙ sorted c.args.maps.now c.args.mem.now c.args.heap.now h p things made is v c.args.receiver x in
    subst (λ (f : Effect). IsAnswer c.args.maps.now c.args.mem.now c.args.mem.now c.args.heap.now c.args.heap.now h p things made c.args.receiver (answers.Fails errors.BadType) f)
    (sym (unprinted things v (subst (λ (s : Sort). s ≡ sorts.Text → ⊥) e c.in_default.not-Text))) (refl, refl, refl)
