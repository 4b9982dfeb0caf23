use Rattle.std.proofs.Common.{◌≡◌, ◌∙◌, ◌+◌, ◌/◌, sym, ap, subst, refl, length, arith}
use Rattle.std.specs.Prelude.{Option}
use Rattle.self_terms.specs.declared.errors.ErrorName.TheVariants as errors
use Rattle.source_model.specs.declared.objects.Thing.{Thing}
use Rattle.source_model.specs.Primitives.{Effect, size, thing_in}
use Rattle.prim_table.specs.declared.answers.PrimAnswer.TheVariants as answers
use Rattle.prim_table.specs.declared.sorts.Sort.{Sort}
use Rattle.prim_table.specs.declared.sorts.Sort.TheVariants as sorts
use Rattle.prim_table.specs.Answers.{IsPlain}
use Rattle.prim_table.specs.Operands.{sort_of}
use Rattle.prim_table.proofs.Sorting.{sound, sorted, vector_at, text_at, vector_found, text_found, IsVector, IsText, unsized}
use Rattle.prim_table.proofs.Indexing.{vector_here, text_here, here_word}
use Rattle.prim_table.proofs.objects.size.Goals as goal

pub sort_of-requires : goal.sort_of-requires
sort_of-requires c = sound c.args.maps.now c.args.mem.now c.requires.0 c.args.receiver c.requires.1

pub overflow_add-receiver : goal.overflow_add-receiver
overflow_add-receiver c =
    let t = vector_at c.args.maps.now c.args.mem.now c.requires.0 c.args.receiver c.requires.1 (sym c.in-Vector.ensures) in
    let here = vector_here c.args.maps.now c.args.mem.now c.requires.0 t.cells t.places t.objects t.made t.is t.number c.args.receiver t.items t.at t.was in
    let below = here.below in
    omega arith

pub load-requires : goal.load-requires
load-requires c =
    let t = vector_at c.args.maps.now c.args.mem.now c.requires.0 c.args.receiver c.requires.1 (sym c.in-Vector.ensures) in
    let here = vector_here c.args.maps.now c.args.mem.now c.requires.0 t.cells t.places t.objects t.made t.is t.number c.args.receiver t.items t.at t.was in
    here_word c.args.mem.now c.args.receiver (length t.items) (length t.items) 0 (c.args.receiver + 7) here (omega arith) (omega arith)

pub returns-in-Vector : goal.returns-in-Vector
returns-in-Vector c = λ heap h p things made v is x.
    let f = vector_found h p things v c.args.receiver x (subst IsVector (c.in-Vector.ensures ∙ sorted c.args.maps.now c.args.mem.now heap h p things made is v c.args.receiver x) tt) in
    let here = vector_here c.args.maps.now c.args.mem.now heap h p things made is f.number c.args.receiver f.items f.at f.was in
    let below = here.below in
    subst (λ (e : Option Thing). IsPlain h p (answers.Done c.load.result) (size e)) (sym (ap (thing_in things) f.is ∙ f.was))
    (omega arith, c.load.ensures.word ∙ here.size)

pub overflow_add-receiver-in-Text : goal.overflow_add-receiver-in-Text
overflow_add-receiver-in-Text c =
    let t = text_at c.args.maps.now c.args.mem.now c.requires.0 c.args.receiver c.requires.1 (sym c.in-Text.ensures) in
    let here = text_here c.args.maps.now c.args.mem.now c.requires.0 t.cells t.places t.objects t.made t.is t.number c.args.receiver t.bytes t.at t.was in
    let below = here.below in
    omega arith

pub load-requires-in-Text : goal.load-requires-in-Text
load-requires-in-Text c =
    let t = text_at c.args.maps.now c.args.mem.now c.requires.0 c.args.receiver c.requires.1 (sym c.in-Text.ensures) in
    let here = text_here c.args.maps.now c.args.mem.now c.requires.0 t.cells t.places t.objects t.made t.is t.number c.args.receiver t.bytes t.at t.was in
    here_word c.args.mem.now c.args.receiver (length t.bytes) ((length t.bytes + 3) / 4) 0 (c.args.receiver + 7) here (omega arith) (omega arith)

pub returns-in-Text : goal.returns-in-Text
returns-in-Text c = λ heap h p things made v is x.
    let f = text_found h p things v c.args.receiver x (subst IsText (c.in-Text.ensures ∙ sorted c.args.maps.now c.args.mem.now heap h p things made is v c.args.receiver x) tt) in
    let here = text_here c.args.maps.now c.args.mem.now heap h p things made is f.number c.args.receiver f.bytes f.at f.was in
    let below = here.below in
    subst (λ (e : Option Thing). IsPlain h p (answers.Done c.load-in-Text.result) (size e)) (sym (ap (thing_in things) f.is ∙ f.was))
    (omega arith, c.load-in-Text.ensures.word ∙ here.size)

pub returns-in_default : goal.returns-in_default
returns-in_default c = λ heap h p things made v is x.
    let e : c.sort_of.result ≡ sort_of things v = c.sort_of.ensures ∙ sorted c.args.maps.now c.args.mem.now heap h p things made is v c.args.receiver x in
    subst (λ (f : Effect). IsPlain h p (answers.Fails errors.BadType) f)
    (sym (unsized things v (subst (λ (s : Sort). s ≡ sorts.Vector → ⊥) e c.in_default.not-Vector) (subst (λ (s : Sort). s ≡ sorts.Text → ⊥) e c.in_default.not-Text))) refl
