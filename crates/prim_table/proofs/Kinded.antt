-- The primitives by kinds, and their arguments.
use Rattle.std.proofs.Common.{◌≡◌, refl, sym, ap, ◌∙◌, ℕ, List, [], ◌∷◌, length, get_or, arith}
use Rattle.self_terms.specs.declared.values.Value.{Value}
use Rattle.source_model.specs.declared.primitives.Primitive.{Primitive}
use Rattle.source_model.specs.declared.primitives.Primitive.TheVariants as prim
use Rattle.source_model.specs.declared.objects.Thing.{Thing}
use Rattle.source_model.specs.State.{State}
use Rattle.source_model.specs.Primitives.{Effect, Gives, Makes, Puts, Prints, Fails, apply}
use Rattle.object_maps.specs.declared.layout.Heap.{Heap}
use Rattle.object_maps.specs.Slots.{Slots}
use Rattle.sparc_store.specs.Words.{Words}
use Rattle.heap_cells.specs.Laying.{Cells}
use Rattle.heap_cells.specs.Source.{Made}
use Rattle.heap_cells.specs.Standing.{Places, IsValue, AreValues}
use Rattle.prim_table.specs.declared.answers.PrimAnswer.{PrimAnswer}
use Rattle.prim_table.specs.declared.answers.PrimAnswer.TheVariants as answers
use Rattle.prim_table.specs.declared.kinds.Kind.{Kind}
use Rattle.prim_table.specs.Answers.{IsPlain, IsAnswer}
use Rattle.prim_table.specs.Kinds.{kind_of, effect_of}

pub by_kind : (s : State) (q : Primitive) (v : Value) (vs : List Value) → apply s q v vs ≡ effect_of s.core s.things (kind_of q) v vs
by_kind s prim.IntAdd v vs = refl
by_kind s prim.IntSub v vs = refl
by_kind s prim.IntMul v vs = refl
by_kind s prim.IntDiv v vs = refl
by_kind s prim.IntMod v vs = refl
by_kind s prim.IntAnd v vs = refl
by_kind s prim.IntOr v vs = refl
by_kind s prim.IntXor v vs = refl
by_kind s prim.IntLT v vs = refl
by_kind s prim.IntLE v vs = refl
by_kind s prim.IntEQ v vs = refl
by_kind s prim.Eq v vs = refl
by_kind s prim.Clone v vs = refl
by_kind s prim.VectorNew v vs = refl
by_kind s prim.Size v vs = refl
by_kind s prim.At v vs = refl
by_kind s prim.AtPut v vs = refl
by_kind s prim.StringPrint v vs = refl
by_kind s prim.IntPrint v vs = refl

pub of_kind : (s : State) (q : Primitive) (k : Kind) (v : Value) (vs : List Value) → k ≡ kind_of q → apply s q v vs ≡ effect_of s.core s.things k v vs
of_kind s q k v vs e = by_kind s q v vs ∙ ap (λ (z : Kind). effect_of s.core s.things z v vs) (sym e)

-- an answer that changes nothing
pub plain_answer : (maps : List Slots) (mem : Words) (heap : Heap) (h : Cells) (p : Places) (things : List Thing) (made : List Made) (receiver : ℕ) (r : PrimAnswer) (e : Effect)
    → IsPlain h p r e → IsAnswer maps mem mem heap heap h p things made receiver r e
plain_answer maps mem heap h p things made receiver (answers.Done w) (Gives v) is = (is, refl, refl)
plain_answer maps mem heap h p things made receiver (answers.Fails x) (Fails y) is = (is, refl, refl)
plain_answer maps mem heap h p things made receiver (answers.Done w) (Makes words t) is = absurd is
plain_answer maps mem heap h p things made receiver (answers.Done w) (Puts o t) is = absurd is
plain_answer maps mem heap h p things made receiver (answers.Done w) (Prints line) is = absurd is
plain_answer maps mem heap h p things made receiver (answers.Done w) (Fails y) is = absurd is
plain_answer maps mem heap h p things made receiver (answers.Fails x) (Gives v) is = absurd is
plain_answer maps mem heap h p things made receiver (answers.Fails x) (Makes words t) is = absurd is
plain_answer maps mem heap h p things made receiver (answers.Fails x) (Puts o t) is = absurd is
plain_answer maps mem heap h p things made receiver (answers.Fails x) (Prints line) is = absurd is

pub record OneArg (h : Cells) (p : Places) (vs : List Value) (ws : List ℕ) : Type 0 where
  pub value : Value
  pub is : vs ≡ value ∷ []
  pub stands : IsValue h p value (get_or ws 0 0)

pub one_arg : (h : Cells) (p : Places) (vs : List Value) (ws : List ℕ) → AreValues h p vs ws → length ws ≡ 1 → OneArg h p vs ws
one_arg h p [] [] are e = absurd (omega arith)
one_arg h p (v ∷ []) (w ∷ []) are e = record { value = v; is = refl; stands = are.0 }
one_arg h p (v ∷ vs) (w ∷ x ∷ ws) are e = absurd (omega arith)
one_arg h p (v ∷ u ∷ vs) (w ∷ []) are e = absurd are.1
one_arg h p [] (w ∷ ws) are e = absurd are
one_arg h p (v ∷ vs) [] are e = absurd are

pub record TwoArgs (h : Cells) (p : Places) (vs : List Value) (ws : List ℕ) : Type 0 where
  pub value : Value
  pub other : Value
  pub is : vs ≡ value ∷ other ∷ []
  pub stands : IsValue h p value (get_or ws 0 0)
  pub stands_other : IsValue h p other (get_or ws 1 0)

pub two_args : (h : Cells) (p : Places) (vs : List Value) (ws : List ℕ) → AreValues h p vs ws → length ws ≡ 2 → TwoArgs h p vs ws
two_args h p [] [] are e = absurd (omega arith)
two_args h p (v ∷ []) (w ∷ []) are e = absurd (omega arith)
two_args h p (v ∷ u ∷ []) (w ∷ x ∷ []) are e = record { value = v; other = u; is = refl; stands = are.0; stands_other = are.1.0 }
two_args h p (v ∷ u ∷ vs) (w ∷ x ∷ y ∷ ws) are e = absurd (omega arith)
two_args h p (v ∷ u ∷ z ∷ vs) (w ∷ x ∷ []) are e = absurd are.1.1
two_args h p (v ∷ []) (w ∷ x ∷ ws) are e = absurd are.1
two_args h p (v ∷ u ∷ vs) (w ∷ []) are e = absurd are.1
two_args h p [] (w ∷ ws) are e = absurd are
two_args h p (v ∷ vs) [] are e = absurd are
