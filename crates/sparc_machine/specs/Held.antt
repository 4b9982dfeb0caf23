-- What a machine holds, and which machine that is.
use Rattle.std.specs.Prelude.{ℕ}
use Rattle.sparc_store.specs.Words.{Words}
use Rattle.sparc_store.specs.Ring.{Ring, regs_of, older_of}
use Rattle.sparc_machine.specs.declared.icc.Icc.{Icc}
use Rattle.sparc_machine.specs.State.{MachineState}

pub record Held : Type 0 where
  pub memory : Words
  pub windows : Ring
  pub pc : ℕ
  pub npc : ℕ
  pub y : ℕ
  pub icc : Icc

-- the machine that holds it
unfoldable pub state : Held → MachineState
state h = record { memory = h.memory; regs = regs_of h.windows; older = older_of h.windows; pc = h.pc; npc = h.npc; y = h.y; icc = h.icc }
