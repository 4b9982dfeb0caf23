use Rattle.std.proofs.Common.{◌≡◌, ◌++◌, map, drop}
use Rattle.world_build.specs.Telling.{thing_of}
use Rattle.world_build.proofs.telling.put_things.Given as goal

abbrev pub invariant-loop-thing : goal.invariant-loop-thing
invariant-loop-thing l = l.things.items ++ map (thing_of l.core) (drop l.thing-index l.told) ≡ l.fn.things.items ++ map (thing_of l.core) l.told
