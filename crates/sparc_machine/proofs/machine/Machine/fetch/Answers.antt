use Rattle.std.proofs.Common.{◌≡◌, Option, Some, None, refl}
use Rattle.sparc_insn.specs.declared.insn.Insn.{Insn}
use Rattle.sparc_machine.specs.State.{MachineState}
use Rattle.sparc_machine.specs.Held.{state}
use Rattle.sparc_machine.specs.Running.{fetch, CanFetch}
use Rattle.sparc_machine.proofs.machine.Machine.fetch.Goals as goal

there : (o : Option Insn) (m : MachineState) → CanFetch o m → (i : Insn) × (o ≡ Some i)
there None m can = absurd can
there (Some i) m can = (i, refl)

pub read-requires : goal.read-requires
read-requires c = rw (c.load_code.ensures, c.pc.ensures) (there (fetch (state c.args.self.now)) (state c.args.self.now) c.requires.can)
