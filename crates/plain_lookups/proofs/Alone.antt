-- A word stands for one value.
use Rattle.std.proofs.Common.{◌≡◌, sym, ap, ◌∙◌, ℕ, ◌+◌, ◌-◌, ◌*◌, ◌/◌, ◌%◌, ◌^◌, arith, ℤ, pos, negsuc}
use Rattle.std.specs.Prelude.{Some, slice_get, nat_lt}
use Rattle.std.proofs.lemmas.Bool.{cond-true, cond-false, lt-ltb, le-ltb}
use Rattle.std.proofs.lemmas.Option.{same_Some, slice_get_within}
use Rattle.self_terms.specs.Words.{IsSmall, word_of, int_of}
use Rattle.self_terms.specs.declared.values.BodyId.{BodyId}
use Rattle.self_terms.specs.declared.values.Value.{Value}
use Rattle.self_terms.specs.declared.values.Value.TheVariants as values
use Rattle.source_model.specs.declared.objects.Thing.{Thing}
use Rattle.source_model.specs.declared.objects.Thing.TheVariants.{Plain, Vector, Text}
use Rattle.source_model.specs.State.{State}
use Rattle.heap_cells.specs.Shapes.{Cell, Plain as PlainCell, Vector as VectorCell, Text as TextCell, Block}
use Rattle.heap_cells.specs.Standing.{IsValue, IsThing, IsObject, IsBlock}
use Rattle.heap_cells.proofs.Numbered.{got_if}
use Rattle.heap_cells.proofs.Reading.{heap_sound, integer_aligned}
use Rattle.frame_walk.specs.Raw.{Raw}
use Rattle.raw_steps.specs.Stands.{Sense, Stands}
use Rattle.plain_lookups.specs.Looking.{WordsStandForOne}

integer_back : (i : ℤ) → IsSmall i → int_of (word_of i) ≡ i
integer_back (pos n) small =
    cond-true (nat_lt (4 * n) (2 ^ 31)) (pos (4 * n / 4)) (negsuc ((2 ^ 32 - 1 - 4 * n) / 4)) (lt-ltb (4 * n) (2 ^ 31) (omega arith))
    ∙ ap pos (let e : 4 * n / 4 ≡ n = omega arith in e)
integer_back (negsuc n) small =
    let w = 2 ^ 32 - 4 * (n + 1) in
    cond-false (nat_lt w (2 ^ 31)) (pos (w / 4)) (negsuc ((2 ^ 32 - 1 - w) / 4)) (le-ltb w (2 ^ 31) (omega arith))
    ∙ ap negsuc (let e : (2 ^ 32 - 1 - w) / 4 ≡ n = omega arith in e)

-- cells of two blocks that are one
record SameBlock (b c : ℕ) (x y : ℕ) : Type 0 where
  body : b ≡ c
  context : x ≡ y

same_block : (m b x v k c y u : ℕ) → Some (Block m b x v) ≡ Some (Block k c y u) → SameBlock b c x y
same_block m b x v k c y u e = record { body = (cc); context = (cc) }

module _ (z : Sense) (r : Raw) (s : State) (S : Stands z r s) where
  object_of : (n w : ℕ) → slice_get z.places.objects n ≡ Some w → (t : Thing) × IsObject r.maps z.cells z.places n w t
  object_of n w at =
      let t = got_if s.things n (let lt = slice_get_within z.places.objects n w at in let c = S.heap.means.objects_all in omega arith) in
      (t.0, S.heap.means.object n w t.0 at t.1)

  one_number : (m n w : ℕ) → slice_get z.places.objects m ≡ Some w → slice_get z.places.objects n ≡ Some w → m ≡ n
  one_number m n w a b =
      let sound = heap_sound r.maps r.mem r.heap z.cells z.places s.things z.made S.heap in
      let x = (sound.object m w a).numbered in
      let y = (sound.object n w b).numbered in
      omega arith

  no_block : (n : ℕ) (t : Thing) (c : Cell) (map body context receiver : ℕ) → IsThing r.maps z.cells z.places n t c → c ≡ Block map body context receiver → ⊥
  no_block n (Plain slots) (PlainCell number m words) map body context receiver is e = cc
  no_block n (Vector items) (VectorCell number words) map body context receiver is e = cc
  no_block n (Text bytes) (TextCell number text) map body context receiver is e = cc
  no_block n _ _ map body context receiver is e = absurd is

  apart : (n w body maker : ℕ) → slice_get z.places.objects n ≡ Some w → IsBlock z.cells z.places body maker w → ⊥
  apart n w body maker at b =
      let o = object_of n w at in
      no_block n o.0 o.1.cell b.map body b.context b.receiver o.1.is (same_Some o.1.cell (Block b.map body b.context b.receiver) (sym o.1.there.1 ∙ b.cell))

  whole_word : (w : ℕ) (i : ℤ) → IsValue z.cells z.places (values.Int i) w → w % 4 ≡ 1 → ⊥
  whole_word w i is one = let whole : w % 4 ≡ 0 = ap (λ q. q % 4) is.1 ∙ integer_aligned i is.0 in omega arith

  one_block : (b c : BodyId) (j k w : ℕ) → IsBlock z.cells z.places b.0 j w → IsBlock z.cells z.places c.0 k w → values.Block b j ≡ values.Block c k
  one_block b c j k w x y =
      let e = same_block x.map b.0 x.context x.receiver y.map c.0 y.context y.receiver (sym x.cell ∙ y.cell) in
      let maker = S.heap.means.apart j k x.context x.made_by (y.made_by ∙ ap Some (sym e.context)) x.reference in
      λ i. values.Block (record { 0 = e.body i }) (maker i)

  one_value : (u v : Value) (w : ℕ) → IsValue z.cells z.places u w → IsValue z.cells z.places v w → u ≡ v
  one_value (values.Int i) (values.Int j) w a b = ap values.Int (sym (integer_back i a.0) ∙ ap int_of (sym a.1 ∙ b.1) ∙ integer_back j b.0)
  one_value (values.Int i) (values.Object n) w a b = absurd (whole_word w i a (object_of n w b).1.there.0)
  one_value (values.Int i) (values.Block c k) w a b = absurd (whole_word w i a b.tagged)
  one_value (values.Object m) (values.Int j) w a b = absurd (whole_word w j b (object_of m w a).1.there.0)
  one_value (values.Object m) (values.Object n) w a b = ap values.Object (one_number m n w a b)
  one_value (values.Object m) (values.Block c k) w a b = absurd (apart m w c.0 k a b)
  one_value (values.Block c k) (values.Int j) w a b = absurd (whole_word w j b a.tagged)
  one_value (values.Block c k) (values.Object n) w a b = absurd (apart n w c.0 k b a)
  one_value (values.Block b j) (values.Block c k) w a d = one_block b c j k w a d

pub words_stand_for_one : WordsStandForOne
words_stand_for_one z r s S u v w a b = one_value z r s S u v w a b
