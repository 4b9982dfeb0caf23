-- The primitives by kinds: those over two integers differ in an operation alone.
use Rattle.std.specs.Prelude.{ℕ, List, ℤ, ◌+ℤ◌, ◌-ℤ◌, ◌*ℤ◌, int_lt, int_le, int_div, int_rem, bit_and, bit_or, bit_xor}
use Rattle.self_terms.specs.declared.values.Value.{Value}
use Rattle.source_model.specs.declared.primitives.Primitive.{Primitive}
use Rattle.source_model.specs.declared.primitives.Primitive.TheVariants as prim
use Rattle.source_model.specs.declared.objects.Thing.{Thing}
use Rattle.source_model.specs.declared.objects.Core.{Core}
use Rattle.source_model.specs.Primitives.{Effect, checked, divided, bits, truth, int_eq, of_integers, same, cloned, new_vector, size, at, put, string_print, int_print, first, thing_in}
use Rattle.prim_table.specs.declared.kinds.Operation.{Operation}
use Rattle.prim_table.specs.declared.kinds.Operation.TheVariants.{Add, Sub, Mul, Div, Mod, And, Or, Xor, LT, LE, EQ}
use Rattle.prim_table.specs.declared.kinds.Kind.{Kind}
use Rattle.prim_table.specs.declared.kinds.Kind.TheVariants as kinds

-- an operation over two integers
abbrev pub operated : Core → Operation → ℤ → ℤ → Effect
operated core Add x y = checked (x +ℤ y)
operated core Sub x y = checked (x -ℤ y)
operated core Mul x y = checked (x *ℤ y)
operated core Div x y = divided int_div x y
operated core Mod x y = divided int_rem x y
operated core And x y = bits bit_and x y
operated core Or x y = bits bit_or x y
operated core Xor x y = bits bit_xor x y
operated core LT x y = truth core (int_lt x y)
operated core LE x y = truth core (int_le x y)
operated core EQ x y = truth core (int_eq x y)

abbrev pub kind_of : Primitive → Kind
kind_of prim.IntAdd = kinds.Integers Add
kind_of prim.IntSub = kinds.Integers Sub
kind_of prim.IntMul = kinds.Integers Mul
kind_of prim.IntDiv = kinds.Integers Div
kind_of prim.IntMod = kinds.Integers Mod
kind_of prim.IntAnd = kinds.Integers And
kind_of prim.IntOr = kinds.Integers Or
kind_of prim.IntXor = kinds.Integers Xor
kind_of prim.IntLT = kinds.Integers LT
kind_of prim.IntLE = kinds.Integers LE
kind_of prim.IntEQ = kinds.Integers EQ
kind_of prim.Eq = kinds.Same
kind_of prim.Clone = kinds.Cloned
kind_of prim.VectorNew = kinds.NewVector
kind_of prim.Size = kinds.Size
kind_of prim.At = kinds.At
kind_of prim.AtPut = kinds.Put
kind_of prim.StringPrint = kinds.PrintString
kind_of prim.IntPrint = kinds.PrintInteger

-- what a primitive of a kind comes to, over the objects
abbrev pub effect_of : Core → List Thing → Kind → Value → List Value → Effect
effect_of core things (kinds.Integers op) r xs = of_integers (operated core op) r xs
effect_of core things kinds.Same r xs = same core r xs
effect_of core things kinds.Cloned r xs = cloned r (thing_in things r)
effect_of core things kinds.NewVector r xs = new_vector core r
effect_of core things kinds.Size r xs = size (thing_in things r)
effect_of core things kinds.At r xs = at (thing_in things r) (first xs)
effect_of core things kinds.Put r xs = put r (thing_in things r) xs
effect_of core things kinds.PrintString r xs = string_print (thing_in things r)
effect_of core things kinds.PrintInteger r xs = int_print r

-- how many arguments a primitive of a kind takes
abbrev pub args_of : Kind → ℕ
args_of (kinds.Integers op) = 1
args_of kinds.Same = 1
args_of kinds.Cloned = 0
args_of kinds.NewVector = 0
args_of kinds.Size = 0
args_of kinds.At = 1
args_of kinds.Put = 2
args_of kinds.PrintString = 0
args_of kinds.PrintInteger = 0
