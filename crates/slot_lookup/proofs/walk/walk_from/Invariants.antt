use Rattle.std.proofs.Common.{◌≤◌, vec_capacity, length}
use Rattle.slot_lookup.proofs.Frames.{work}
use Rattle.slot_lookup.proofs.Steps.{Under}
use Rattle.slot_lookup.proofs.walk.walk_from.Given as goal

abbrev pub invariant-loop-x : goal.invariant-loop-x
invariant-loop-x l = record {
  under : Under l.maps l.mem l.name.0 l.start l.skip (length l.fn.seen) l.seen l.stack.items l.trail.items l.first;
  deep : vec_capacity l.fn.stack ≤ vec_capacity l.stack;
  long : vec_capacity l.fn.trail ≤ vec_capacity l.trail;
}

abbrev pub decreases-loop-x : goal.decreases-loop-x
decreases-loop-x l = work l.seen l.stack.items
