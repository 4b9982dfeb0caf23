use Rattle.sparc_machine.specs.Held.{state}
use Rattle.sparc_machine.proofs.machine.Machine.can_save.Goals as goal

pub returns : goal.returns
unfolding state
returns c = rw (← c.self.view_is) (c.can_save.ensures c.self.inside.memory)
