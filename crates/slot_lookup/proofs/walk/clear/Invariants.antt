use Rattle.std.proofs.Common.{◌≡◌, ℕ, true, false, get_or, drop}
use Rattle.object_maps.specs.Layout.{number_at}
use Rattle.source_model.specs.Lookup.{Among}
use Rattle.slot_lookup.proofs.walk.clear.Given as goal

abbrev pub invariant-loop-x : goal.invariant-loop-x
invariant-loop-x l = (n : ℕ) → get_or l.seen n false ≡ true → (x : ℕ) × (Among x (drop l.x-index l.trail) × (number_at l.mem x ≡ n))
