-- What primitives print.
use Rattle.source_model.specs.declared.primitives.Primitive.{Primitive}
use Rattle.source_model.specs.declared.primitives.Primitive.TheVariants as prim
use Rattle.plain_prints.specs.declared.printing.Printing.{Printing}
use Rattle.plain_prints.specs.declared.printing.Printing.TheVariants.{Nothing, Text, Integer}

-- `_StringPrint` prints a string, and `_IntPrint` an integer; no other prints anything
abbrev pub printing_of : Primitive → Printing
printing_of prim.StringPrint = Text
printing_of prim.IntPrint = Integer
printing_of _ = Nothing
