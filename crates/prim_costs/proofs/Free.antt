-- What primitives cost.
use Rattle.std.proofs.Common.{◌≡◌, ◌≢◌, refl, ap, ◌∙◌, ℕ, ◌%◌, List, [], ◌∷◌, true, false, Bool}
use Rattle.std.specs.Prelude.{ℤ, pos, negsuc, ◌+ℤ◌, ◌-ℤ◌, ◌*ℤ◌, int_lt, int_le, int_div, int_rem, bit_and, bit_or, bit_xor, if◌then◌else◌, nat_lt, length, map, Option, Some, None, slice_get}
use Rattle.self_terms.specs.declared.values.Value.{Value}
use Rattle.self_terms.specs.declared.values.Value.TheVariants as values
use Rattle.source_model.specs.declared.objects.Core.{Core}
use Rattle.source_model.specs.declared.objects.Thing.{Thing}
use Rattle.source_model.specs.declared.objects.Thing.TheVariants.{Plain, Vector, Text}
use Rattle.source_model.specs.declared.primitives.Primitive.{Primitive}
use Rattle.source_model.specs.declared.primitives.Primitive.TheVariants as prim
use Rattle.source_model.specs.Primitives.{Effect, apply, cloned, checked, is_small, divided, int_eq, bits, truth, of_integers, same, new_vector, size, at, element, element_at, number, put, put_at, string_print, int_print, first, thing_of}
use Rattle.source_model.specs.State.{State}
use Rattle.heap_cells.specs.Laying.{Cells}
use Rattle.heap_cells.specs.Standing.{Places, IsValue}
use Rattle.heap_cells.proofs.Reading.{integer_aligned}
use Rattle.prim_table.specs.Answers.{cost}
use Rattle.prim_costs.specs.Taking.{taking_of}
use Rattle.prim_costs.specs.declared.costs.Taking.TheVariants.{Nothing, Copy, Vector as OfElements}

-- A test of which neither side costs anything.
neither : (b : Bool) (x y : Effect) → cost x ≡ 0 → cost y ≡ 0 → cost (if b then x else y) ≡ 0
neither true x y e f = e
neither false x y e f = f

free_checked : (i : ℤ) → cost (checked i) ≡ 0
free_checked i = neither (is_small i) _ _ refl refl

free_divided : (f : ℤ → ℤ → ℤ) (x y : ℤ) → cost (divided f x y) ≡ 0
free_divided f x y = neither (int_eq y (pos 0)) _ _ refl (free_checked (f x y))

free_integers : (f : ℤ → ℤ → Effect) → ((x y : ℤ) → cost (f x y) ≡ 0) → (v : Value) (vs : List Value) → cost (of_integers f v vs) ≡ 0
free_integers f free (values.Int x) (values.Int y ∷ []) = free x y
free_integers f free (values.Int x) [] = refl
free_integers f free (values.Int x) (values.Int y ∷ v ∷ vs) = refl
free_integers f free (values.Int x) (values.Object n ∷ vs) = refl
free_integers f free (values.Int x) (values.Block b k ∷ vs) = refl
free_integers f free (values.Object n) vs = refl
free_integers f free (values.Block b k) vs = refl

free_same : (core : Core) (v : Value) (vs : List Value) → cost (same core v vs) ≡ 0
free_same core (values.Int x) (values.Int y ∷ []) = refl
free_same core (values.Int x) (values.Object b ∷ []) = refl
free_same core (values.Int x) (values.Block b k ∷ vs) = refl
free_same core (values.Int x) [] = refl
free_same core (values.Int x) (values.Int y ∷ v ∷ vs) = refl
free_same core (values.Int x) (values.Object y ∷ v ∷ vs) = refl
free_same core (values.Object a) (values.Int y ∷ []) = refl
free_same core (values.Object a) (values.Object b ∷ []) = refl
free_same core (values.Object a) (values.Block b k ∷ vs) = refl
free_same core (values.Object a) [] = refl
free_same core (values.Object a) (values.Int y ∷ v ∷ vs) = refl
free_same core (values.Object a) (values.Object y ∷ v ∷ vs) = refl
free_same core (values.Block b k) vs = refl

free_size : (t : Option Thing) → cost (size t) ≡ 0
free_size (Some (Plain slots)) = refl
free_size (Some (Vector items)) = refl
free_size (Some (Text bytes)) = refl
free_size None = refl

free_element : (o : Option Value) → cost (element o) ≡ 0
free_element (Some v) = refl
free_element None = refl

free_element_at : (items : List Value) (i : Value) → cost (element_at items i) ≡ 0
free_element_at items (values.Int (pos n)) = free_element (slice_get items n)
free_element_at items (values.Int (negsuc n)) = refl
free_element_at items (values.Object n) = refl
free_element_at items (values.Block b k) = refl

free_at : (t : Option Thing) (i : Value) → cost (at t i) ≡ 0
free_at (Some (Plain slots)) i = refl
free_at (Some (Vector items)) i = free_element_at items i
free_at (Some (Text bytes)) i = free_element_at (map number bytes) i
free_at None i = refl

free_put_at : (o : ℕ) (items : List Value) (i v : Value) → cost (put_at o items i v) ≡ 0
free_put_at o items (values.Int (pos n)) v = neither (nat_lt n (length items)) _ _ refl refl
free_put_at o items (values.Int (negsuc n)) v = refl
free_put_at o items (values.Object n) v = refl
free_put_at o items (values.Block b k) v = refl

free_put : (r : Value) (t : Option Thing) (vs : List Value) → cost (put r t vs) ≡ 0
free_put (values.Object o) (Some (Vector items)) (i ∷ v ∷ []) = free_put_at o items i v
free_put (values.Object o) (Some (Vector items)) [] = refl
free_put (values.Object o) (Some (Vector items)) (i ∷ []) = refl
free_put (values.Object o) (Some (Vector items)) (i ∷ v ∷ u ∷ vs) = refl
free_put (values.Object o) (Some (Plain slots)) vs = refl
free_put (values.Object o) (Some (Text bytes)) vs = refl
free_put (values.Object o) None vs = refl
free_put (values.Int i) t vs = refl
free_put (values.Block b k) t vs = refl

free_string_print : (t : Option Thing) → cost (string_print t) ≡ 0
free_string_print (Some (Plain slots)) = refl
free_string_print (Some (Vector items)) = refl
free_string_print (Some (Text bytes)) = refl
free_string_print None = refl

free_int_print : (v : Value) → cost (int_print v) ≡ 0
free_int_print (values.Int i) = refl
free_int_print (values.Object n) = refl
free_int_print (values.Block b k) = refl

pub free : (s : State) (q : Primitive) (v : Value) (vs : List Value) → taking_of q ≡ Nothing → cost (apply s q v vs) ≡ 0
free s prim.IntAdd v vs e = free_integers (λ x y. checked (x +ℤ y)) (λ x y. free_checked (x +ℤ y)) v vs
free s prim.IntSub v vs e = free_integers (λ x y. checked (x -ℤ y)) (λ x y. free_checked (x -ℤ y)) v vs
free s prim.IntMul v vs e = free_integers (λ x y. checked (x *ℤ y)) (λ x y. free_checked (x *ℤ y)) v vs
free s prim.IntDiv v vs e = free_integers (divided int_div) (free_divided int_div) v vs
free s prim.IntMod v vs e = free_integers (divided int_rem) (free_divided int_rem) v vs
free s prim.IntAnd v vs e = free_integers (bits bit_and) (λ x y. refl) v vs
free s prim.IntOr v vs e = free_integers (bits bit_or) (λ x y. refl) v vs
free s prim.IntXor v vs e = free_integers (bits bit_xor) (λ x y. refl) v vs
free s prim.IntLT v vs e = free_integers (λ x y. truth s.core (int_lt x y)) (λ x y. refl) v vs
free s prim.IntLE v vs e = free_integers (λ x y. truth s.core (int_le x y)) (λ x y. refl) v vs
free s prim.IntEQ v vs e = free_integers (λ x y. truth s.core (int_eq x y)) (λ x y. refl) v vs
free s prim.Eq v vs e = free_same s.core v vs
free s prim.Clone v vs e = absurd (cc)
free s prim.VectorNew v vs e = absurd (cc)
free s prim.Size v vs e = free_size (thing_of s v)
free s prim.At v vs e = free_at (thing_of s v) (first vs)
free s prim.AtPut v vs e = free_put v (thing_of s v) vs
free s prim.StringPrint v vs e = free_string_print (thing_of s v)
free s prim.IntPrint v vs e = free_int_print v

-- a primitive that copies or makes a vector
pub copies : (s : State) (q : Primitive) (v : Value) (vs : List Value) → taking_of q ≡ Copy → cost (apply s q v vs) ≡ cost (cloned v (thing_of s v))
copies s prim.Clone v vs e = refl
copies s prim.VectorNew v vs e = absurd (cc)
copies s _ v vs e = absurd (cc)

pub fills : (s : State) (q : Primitive) (v : Value) (vs : List Value) → taking_of q ≡ OfElements → cost (apply s q v vs) ≡ cost (new_vector s.core v)
fills s prim.VectorNew v vs e = refl
fills s prim.Clone v vs e = absurd (cc)
fills s _ v vs e = absurd (cc)

-- no vector of what is no integer
pub no_integer : (known : Core) (h : Cells) (p : Places) (v : Value) (w : ℕ) → IsValue h p v w → w % 4 ≢ 0 → cost (new_vector known v) ≡ 0
no_integer known h p (values.Int i) w is none = absurd (none (ap (λ x. x % 4) is.1 ∙ integer_aligned i is.0))
no_integer known h p (values.Object n) w is none = refl
no_integer known h p (values.Block b k) w is none = refl
