use Rattle.std.proofs.Common.{◌<◌, ℕ}
use Rattle.object_maps.specs.Slots.{slots_in}
use Rattle.object_maps.specs.Sound.{HasListed}
use Rattle.object_maps.proofs.sound.have_listed.Given as goal

abbrev pub invariant-loop-map : goal.invariant-loop-map
invariant-loop-map l = (k : ℕ) → k < l.map → HasListed l.objects (slots_in l.maps k)
