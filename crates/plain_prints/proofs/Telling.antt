-- What primitives print.
use Rattle.std.proofs.Common.{◌≡◌, refl, ap, subst, ◌∙◌, ℕ, List, [], ◌∷◌, true, false, Bool}
use Rattle.std.specs.Prelude.{ℤ, pos, negsuc, ◌+ℤ◌, ◌-ℤ◌, ◌*ℤ◌, int_lt, int_le, int_div, int_rem, bit_and, bit_or, bit_xor, if◌then◌else◌, nat_lt, nat_le, length, map, Option, Some, None, slice_get, Result, OnOk, OnErr}
use Rattle.self_terms.specs.declared.values.Value.{Value}
use Rattle.self_terms.specs.declared.values.Value.TheVariants as values
use Rattle.io_ports.specs.Causes.{Takes, TakesFront}
use Rattle.object_maps.specs.Slots.{Slots}
use Rattle.sparc_store.specs.Words.{Words}
use Rattle.source_model.specs.declared.objects.Core.{Core}
use Rattle.source_model.specs.declared.objects.Thing.{Thing}
use Rattle.source_model.specs.declared.objects.Thing.TheVariants.{Plain, Vector, Text}
use Rattle.source_model.specs.declared.primitives.Primitive.{Primitive}
use Rattle.source_model.specs.declared.primitives.Primitive.TheVariants as prim
use Rattle.source_model.specs.Primitives.{Effect, apply, cloned, checked, is_small, divided, int_eq, bits, truth, of_integers, same, new_vector, size, at, element, element_at, number, put, put_at, string_print, int_print, first, thing_of}
use Rattle.source_model.specs.State.{State}
use Rattle.plain_prims.specs.Performing.{printed_by}
use Rattle.plain_runs.specs.Host.{Host}
use Rattle.plain_turns.specs.Primitives.{Says}
use Rattle.plain_prints.specs.Lines.{IntSays, TextSays, Line, Front}
use Rattle.plain_prints.specs.Printing.{printing_of}
use Rattle.plain_prints.proofs.Taking.{ok_so, err_so}
use Rattle.plain_prints.specs.declared.printing.Printing.TheVariants.{Nothing, Text as String, Integer}

-- A test of which neither side prints anything.
neither : (b : Bool) (x y : Effect) → printed_by x ≡ [] → printed_by y ≡ [] → printed_by (if b then x else y) ≡ []
neither true x y e f = e
neither false x y e f = f

silent_checked : (i : ℤ) → printed_by (checked i) ≡ []
silent_checked i = neither (is_small i) _ _ refl refl

silent_divided : (f : ℤ → ℤ → ℤ) (x y : ℤ) → printed_by (divided f x y) ≡ []
silent_divided f x y = neither (int_eq y (pos 0)) _ _ refl (silent_checked (f x y))

silent_integers : (f : ℤ → ℤ → Effect) → ((x y : ℤ) → printed_by (f x y) ≡ []) → (v : Value) (vs : List Value) → printed_by (of_integers f v vs) ≡ []
silent_integers f quiet (values.Int x) (values.Int y ∷ []) = quiet x y
silent_integers f quiet (values.Int x) [] = refl
silent_integers f quiet (values.Int x) (values.Int y ∷ v ∷ vs) = refl
silent_integers f quiet (values.Int x) (values.Object n ∷ vs) = refl
silent_integers f quiet (values.Int x) (values.Block b k ∷ vs) = refl
silent_integers f quiet (values.Object n) vs = refl
silent_integers f quiet (values.Block b k) vs = refl

silent_same : (core : Core) (v : Value) (vs : List Value) → printed_by (same core v vs) ≡ []
silent_same core (values.Int x) (values.Int y ∷ []) = refl
silent_same core (values.Int x) (values.Object b ∷ []) = refl
silent_same core (values.Int x) (values.Block b k ∷ vs) = refl
silent_same core (values.Int x) [] = refl
silent_same core (values.Int x) (values.Int y ∷ v ∷ vs) = refl
silent_same core (values.Int x) (values.Object y ∷ v ∷ vs) = refl
silent_same core (values.Object a) (values.Int y ∷ []) = refl
silent_same core (values.Object a) (values.Object b ∷ []) = refl
silent_same core (values.Object a) (values.Block b k ∷ vs) = refl
silent_same core (values.Object a) [] = refl
silent_same core (values.Object a) (values.Int y ∷ v ∷ vs) = refl
silent_same core (values.Object a) (values.Object y ∷ v ∷ vs) = refl
silent_same core (values.Block b k) vs = refl

silent_size : (t : Option Thing) → printed_by (size t) ≡ []
silent_size (Some (Plain slots)) = refl
silent_size (Some (Vector items)) = refl
silent_size (Some (Text bytes)) = refl
silent_size None = refl

silent_element : (o : Option Value) → printed_by (element o) ≡ []
silent_element (Some v) = refl
silent_element None = refl

silent_element_at : (items : List Value) (i : Value) → printed_by (element_at items i) ≡ []
silent_element_at items (values.Int (pos n)) = silent_element (slice_get items n)
silent_element_at items (values.Int (negsuc n)) = refl
silent_element_at items (values.Object n) = refl
silent_element_at items (values.Block b k) = refl

silent_at : (t : Option Thing) (i : Value) → printed_by (at t i) ≡ []
silent_at (Some (Plain slots)) i = refl
silent_at (Some (Vector items)) i = silent_element_at items i
silent_at (Some (Text bytes)) i = silent_element_at (map number bytes) i
silent_at None i = refl

silent_put_at : (o : ℕ) (items : List Value) (i v : Value) → printed_by (put_at o items i v) ≡ []
silent_put_at o items (values.Int (pos n)) v = neither (nat_lt n (length items)) _ _ refl refl
silent_put_at o items (values.Int (negsuc n)) v = refl
silent_put_at o items (values.Object n) v = refl
silent_put_at o items (values.Block b k) v = refl

silent_put : (r : Value) (t : Option Thing) (vs : List Value) → printed_by (put r t vs) ≡ []
silent_put (values.Object o) (Some (Vector items)) (i ∷ v ∷ []) = silent_put_at o items i v
silent_put (values.Object o) (Some (Vector items)) [] = refl
silent_put (values.Object o) (Some (Vector items)) (i ∷ []) = refl
silent_put (values.Object o) (Some (Vector items)) (i ∷ v ∷ u ∷ vs) = refl
silent_put (values.Object o) (Some (Plain slots)) vs = refl
silent_put (values.Object o) (Some (Text bytes)) vs = refl
silent_put (values.Object o) None vs = refl
silent_put (values.Int i) t vs = refl
silent_put (values.Block b k) t vs = refl

silent_cloned : (v : Value) (t : Option Thing) → printed_by (cloned v t) ≡ []
silent_cloned (values.Block b k) t = refl
silent_cloned (values.Int i) (Some (Plain slots)) = refl
silent_cloned (values.Int i) (Some (Vector items)) = refl
silent_cloned (values.Int i) (Some (Text bytes)) = refl
silent_cloned (values.Int i) None = refl
silent_cloned (values.Object n) (Some (Plain slots)) = refl
silent_cloned (values.Object n) (Some (Vector items)) = refl
silent_cloned (values.Object n) (Some (Text bytes)) = refl
silent_cloned (values.Object n) None = refl

silent_vector : (core : Core) (v : Value) → printed_by (new_vector core v) ≡ []
silent_vector core (values.Int (pos n)) = neither (nat_le n 65536) _ _ refl refl
silent_vector core (values.Int (negsuc n)) = refl
silent_vector core (values.Object n) = refl
silent_vector core (values.Block b k) = refl

pub silent : (s : State) (q : Primitive) (v : Value) (vs : List Value) → printing_of q ≡ Nothing → printed_by (apply s q v vs) ≡ []
silent s prim.IntAdd v vs e = silent_integers (λ x y. checked (x +ℤ y)) (λ x y. silent_checked (x +ℤ y)) v vs
silent s prim.IntSub v vs e = silent_integers (λ x y. checked (x -ℤ y)) (λ x y. silent_checked (x -ℤ y)) v vs
silent s prim.IntMul v vs e = silent_integers (λ x y. checked (x *ℤ y)) (λ x y. silent_checked (x *ℤ y)) v vs
silent s prim.IntDiv v vs e = silent_integers (divided int_div) (silent_divided int_div) v vs
silent s prim.IntMod v vs e = silent_integers (divided int_rem) (silent_divided int_rem) v vs
silent s prim.IntAnd v vs e = silent_integers (bits bit_and) (λ x y. refl) v vs
silent s prim.IntOr v vs e = silent_integers (bits bit_or) (λ x y. refl) v vs
silent s prim.IntXor v vs e = silent_integers (bits bit_xor) (λ x y. refl) v vs
silent s prim.IntLT v vs e = silent_integers (λ x y. truth s.core (int_lt x y)) (λ x y. refl) v vs
silent s prim.IntLE v vs e = silent_integers (λ x y. truth s.core (int_le x y)) (λ x y. refl) v vs
silent s prim.IntEQ v vs e = silent_integers (λ x y. truth s.core (int_eq x y)) (λ x y. refl) v vs
silent s prim.Eq v vs e = silent_same s.core v vs
silent s prim.Clone v vs e = silent_cloned v (thing_of s v)
silent s prim.VectorNew v vs e = silent_vector s.core v
silent s prim.Size v vs e = silent_size (thing_of s v)
silent s prim.At v vs e = silent_at (thing_of s v) (first vs)
silent s prim.AtPut v vs e = silent_put v (thing_of s v) vs
silent s prim.StringPrint v vs e = absurd (cc)
silent s prim.IntPrint v vs e = absurd (cc)

texts : (s : State) (q : Primitive) (v : Value) (vs : List Value) → printing_of q ≡ String → apply s q v vs ≡ string_print (thing_of s v)
texts s prim.StringPrint v vs e = refl
texts s _ v vs e = absurd (cc)

integers : (s : State) (q : Primitive) (v : Value) (vs : List Value) → printing_of q ≡ Integer → apply s q v vs ≡ int_print v
integers s prim.IntPrint v vs e = refl
integers s _ v vs e = absurd (cc)

-- A primitive that prints nothing, a string, or an integer.
pub says_nothing : (h : Host) (q : Primitive) → printing_of q ≡ Nothing → Says h q []
says_nothing h q e = λ heap cells places made s v vs is x. silent s q v vs e

pub says_text : (h : Host) (q : Primitive) (line : List ℕ) → printing_of q ≡ String → TextSays h.maps h.machine.memory (h.machine.regs 8) line → Says h q line
says_text h q line e says = λ heap cells places made s v vs is x. ap printed_by (texts s q v vs e) ∙ says heap cells places s.things made v is x

pub says_integer : (h : Host) (q : Primitive) (line : List ℕ) → printing_of q ≡ Integer → IntSays (h.machine.regs 8) line → Says h q line
says_integer h q line e says = λ heap cells places made s v vs is x. ap printed_by (integers s q v vs e) ∙ says h.maps h.machine.memory heap cells places s.things made v is x

-- what is said of words that are those of a host
moved : (h : Host) (maps : List Slots) (mem : Words) (w : ℕ) (line : List ℕ) → maps ≡ h.maps → mem ≡ h.machine.memory → w ≡ h.machine.regs 8 → TextSays maps mem w line → TextSays h.maps h.machine.memory (h.machine.regs 8) line
moved h maps mem w line a b c says =
    let A : List Slots → Type 0 = λ x. TextSays x mem w line in
    let B : Words → Type 0 = λ x. TextSays h.maps x w line in
    let C : ℕ → Type 0 = λ x. TextSays h.maps h.machine.memory x line in
    subst C c (subst B b (subst A a says))

module _ {T E : Type 0} (h : Host) (q : Primitive) (r : Result T E) (old new : Option (List ℕ)) where
  pub text_said : (maps : List Slots) (mem : Words) (w : ℕ) → printing_of q ≡ String → maps ≡ h.maps → mem ≡ h.machine.memory → w ≡ h.machine.regs 8 → OnOk r (Line (TextSays maps mem w) old new) → OnOk r ((line : List ℕ) × Says h q line × Takes old new line)
  text_said maps mem w e a b c is = ok_so r (Line (TextSays maps mem w) old new) ((line : List ℕ) × Says h q line × Takes old new line) (λ l. (l.line, says_text h q l.line e (moved h maps mem w l.line a b c l.is), l.takes)) is

  pub text_broke : (maps : List Slots) (mem : Words) (w : ℕ) → printing_of q ≡ String → maps ≡ h.maps → mem ≡ h.machine.memory → w ≡ h.machine.regs 8 → OnErr r (Front (TextSays maps mem w) old new) → OnErr r ((line : List ℕ) × Says h q line × TakesFront old new line)
  text_broke maps mem w e a b c is = err_so r (Front (TextSays maps mem w) old new) ((line : List ℕ) × Says h q line × TakesFront old new line) (λ l. (l.line, says_text h q l.line e (moved h maps mem w l.line a b c l.is), l.takes)) is

  pub integer_said : (w : ℕ) → printing_of q ≡ Integer → w ≡ h.machine.regs 8 → OnOk r (Line (IntSays w) old new) → OnOk r ((line : List ℕ) × Says h q line × Takes old new line)
  integer_said w e c is = ok_so r (Line (IntSays w) old new) ((line : List ℕ) × Says h q line × Takes old new line) (λ l. (l.line, says_integer h q l.line e (subst (λ (x : ℕ). IntSays x l.line) c l.is), l.takes)) is

  pub integer_broke : (w : ℕ) → printing_of q ≡ Integer → w ≡ h.machine.regs 8 → OnErr r (Front (IntSays w) old new) → OnErr r ((line : List ℕ) × Says h q line × TakesFront old new line)
  integer_broke w e c is = err_so r (Front (IntSays w) old new) ((line : List ℕ) × Says h q line × TakesFront old new line) (λ l. (l.line, says_integer h q l.line e (subst (λ (x : ℕ). IntSays x l.line) c l.is), l.takes)) is
