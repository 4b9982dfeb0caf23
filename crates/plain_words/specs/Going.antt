-- A machine goes on by instructions, none of them a trap.
use Rattle.std.specs.Prelude.{◌≡◌, ℕ, zero, suc, ◌+◌, ◌*◌, ◌%◌, ◌≤◌, List, [], ◌∷◌, Some, None}
use Rattle.sparc_insn.specs.declared.insn.Insn.{Insn}
use Rattle.sparc_insn.specs.Instructions.{instruction}
use Rattle.sparc_store.specs.Words.{Words, word_at}
use Rattle.sparc_machine.specs.State.{MachineState}
use Rattle.sparc_machine.specs.Table.{effect}
use Rattle.sparc_machine.specs.Running.{fetch, trap_of, CanStep}

-- one instruction, under the condition of a step
pub record Stepped (m next : MachineState) : Type 0 where
  pub insn : Insn
  pub fetched : fetch m ≡ Some insn
  pub goes : trap_of (Some insn) ≡ None
  pub can : CanStep m
  pub is : next ≡ effect insn m

-- so many instructions
unfoldable pub Goes : ℕ → MachineState → MachineState → Type 0
Goes zero m to = to ≡ m
Goes (suc n) m to = (next : MachineState) × Stepped m next × Goes n next to

-- the machine stands at a trap
pub record IsTrap (t : ℕ) (m : MachineState) : Type 0 where
  pub trap : trap_of (fetch m) ≡ Some t
  pub can : CanStep m

-- these instructions stand at this address and the next ones
abbrev pub At : Words → ℕ → List Insn → Type 0
At memory at [] = Unit {0}
At memory at (i ∷ is) = (instruction (word_at memory at) ≡ Some i) × At memory (at + 4) is

-- the program counters
pub record Stands (pc npc p q : ℕ) : Type 0 where
  pub here : pc ≡ p
  pub next : npc ≡ q

-- the machine is about to do the instruction at an address, and then the one behind it
abbrev pub StandsAt : MachineState → ℕ → Type 0
StandsAt m p = Stands m.pc m.npc p (p + 4)

-- so many words from an address on lie in the code region
pub record IsCodeFrom (p words : ℕ) : Type 0 where
  pub aligned : p % 4 ≡ 0
  pub from : 0x10000000 ≤ p
  pub to : p + 4 * words ≤ 0x12000000
