-- What primitives make.
use Rattle.source_model.specs.declared.primitives.Primitive.{Primitive}
use Rattle.source_model.specs.declared.primitives.Primitive.TheVariants as prim
use Rattle.prim_costs.specs.declared.costs.Taking.{Taking}
use Rattle.prim_costs.specs.declared.costs.Taking.TheVariants.{Nothing, Copy, Vector}

-- a clone may make an object or a vector, and `_VectorNew` a vector; no other makes anything
abbrev pub taking_of : Primitive → Taking
taking_of prim.Clone = Copy
taking_of prim.VectorNew = Vector
taking_of _ = Nothing
