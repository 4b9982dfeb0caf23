-- Words of a stack that a machine lends to be written.
use Rattle.std.specs.Prelude.{ℕ, List}
use Rattle.std.specs.Borrow.{Lends, MutBor, Fml, Array, u32 as word}
use Rattle.sparc_store.specs.Words.{Words, with_frame}
use Rattle.sparc_store.specs.contracts.memory.Memory.{the_row as memory_row}
use Rattle.sparc_machine.specs.contracts.machine.Machine.{the_row}
use Rattle.sparc_machine.specs.Held.{Held}

-- what is written in the lent words is in the machine's memory at the address, and the machine is as it was but for that
abbrev pub LendsFrame : MutBor Held → ℕ → MutBor (List ℕ) → Fml
LendsFrame m at r = Lends the_row (Array word 0) m r (λ ws. record m.now { memory = with_frame m.now.memory at ws })

-- what the lent memory is at last is the machine's, and the machine is as it was but for that
abbrev pub LendsMemory : MutBor Held → MutBor Words → Fml
LendsMemory m r = Lends the_row memory_row m r (λ memory. record m.now { memory = memory })
