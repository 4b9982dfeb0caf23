use Rattle.world_heap.proofs.Standing.{stands}
use Rattle.world_heap.proofs.images.WorldImage.stands.Goals as goal

pub returns : goal.returns
returns c = rw (← c.self.view_is) (rw c.self.invariant.0 (rw c.self.invariant.1 (stands c.self.inside.world)))
