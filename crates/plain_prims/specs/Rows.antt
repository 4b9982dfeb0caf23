-- The primitive of a name, with its number of arguments and its row.
use Rattle.std.specs.Prelude.{◌≡◌, ℕ, ◌==◌, if◌then◌else◌, List, Option, Some, None, option_and_then, option_map, slice_get}
use Rattle.self_terms.specs.declared.errors.ErrorName.TheVariants as errors
use Rattle.self_terms.specs.declared.names.Name.{Name}
use Rattle.self_terms.specs.declared.values.Value.{Value}
use Rattle.source_model.specs.declared.primitives.Primitive.{Primitive}
use Rattle.source_model.specs.declared.primitives.Primitive.TheVariants as prim
use Rattle.source_model.specs.Names.{text_named}
use Rattle.source_model.specs.Primitives.{Effect, Fails, table, row_of, apply, apply_row}
use Rattle.source_model.specs.Sends.{Message}
use Rattle.source_model.specs.State.{State}
use Rattle.prim_table.specs.Kinds.{kind_of, args_of}
use Rattle.prim_table.specs.Named.{prim_named}

-- a primitive's row, from 0
abbrev pub row_number : Primitive → ℕ
row_number prim.IntAdd = 0
row_number prim.IntSub = 1
row_number prim.IntMul = 2
row_number prim.IntDiv = 3
row_number prim.IntMod = 4
row_number prim.IntAnd = 5
row_number prim.IntOr = 6
row_number prim.IntXor = 7
row_number prim.IntLT = 8
row_number prim.IntLE = 9
row_number prim.IntEQ = 10
row_number prim.Eq = 11
row_number prim.Clone = 12
row_number prim.VectorNew = 13
row_number prim.Size = 14
row_number prim.At = 15
row_number prim.AtPut = 16
row_number prim.StringPrint = 17
row_number prim.IntPrint = 18

-- the primitive of a name, where it takes so many arguments
abbrev pub taking : ℕ → Option Primitive → Option Primitive
taking args None = None
taking args (Some p) = if args_of (kind_of p) == args then Some p else None

abbrev pub primitive_of : List ℕ → ℕ → Option Primitive
primitive_of text args = taking args (prim_named text)

-- what it comes to
abbrev pub applied : State → Option Primitive → Value → List Value → Effect
applied s (Some p) receiver arguments = apply s p receiver arguments
applied s None receiver arguments = Fails errors.PrimitiveNotDefined

-- Its row is that of the table which the source finds, and what it comes to is that row's.
abbrev pub NamesTell : Type 0
NamesTell = (text : List ℕ) (args : ℕ) → row_of text args ≡ option_map row_number (primitive_of text args)

abbrev pub EffectsTell : Type 0
EffectsTell = (s : State) (text : List ℕ) (args : ℕ) (receiver : Value) (arguments : List Value) → apply_row s (option_and_then (slice_get table) (row_of text args)) receiver arguments ≡ applied s (primitive_of text args) receiver arguments

-- what a primitive of a name, with so many arguments, comes to for a message
abbrev pub effect_of : State → Name → ℕ → Message → Effect
effect_of s name args m = apply_row s (option_and_then (slice_get table) (row_of (text_named s.names name.0) args)) m.receiver m.arguments
