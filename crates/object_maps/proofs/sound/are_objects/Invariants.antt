use Rattle.std.proofs.Common.{◌≡◌, ◌<◌, ℕ, slice_get, Some}
use Rattle.object_maps.specs.Sound.{IsObject}
use Rattle.object_maps.proofs.sound.are_objects.Given as goal

abbrev pub invariant-loop-number : goal.invariant-loop-number
invariant-loop-number l = (k word : ℕ) → k < l.number → slice_get l.objects k ≡ Some word → IsObject l.maps l.mem k word
