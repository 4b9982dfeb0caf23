use Rattle.std.proofs.Common.{◌≡◌, ◌<◌, ℕ, slice_get, Some}
use Rattle.object_maps.specs.declared.maps.SlotKind.TheVariants.{Parent}
use Rattle.object_maps.specs.Slots.{slots_in}
use Rattle.object_maps.specs.Sound.{IsListed}
use Rattle.object_maps.proofs.sound.has_listed.Given as goal

abbrev pub invariant-loop-at : goal.invariant-loop-at
invariant-loop-at l = (k name word : ℕ) → k < l.at → slice_get (slots_in l.maps l.map.0) k ≡ Some (name, Parent word) → IsListed l.objects word
