-- A poll where nothing is left of the goal.
use Rattle.std.specs.Prelude.{ℕ, ◌+◌, ◌≤◌, List, ◌∷◌, ◌++◌, length, ◌<◌}
use Rattle.sparc_insn.specs.declared.insn.Insn.{Insn}
use Rattle.sparc_insn.specs.declared.insn.Insn.TheVariants.{Trap}
use Rattle.sparc_store.specs.Words.{word_at}
use Rattle.sparc_machine.specs.State.{MachineState}
use Rattle.plain_words.specs.Going.{Goes, IsTrap, At, StandsAt, IsCodeFrom}
use Rattle.plain_words.specs.Code.{poll}
use Rattle.plain_words.specs.Moves.{Moved}

-- so many instructions lead to a trap at an address; nothing has changed but scratch registers
pub record Traps (m : MachineState) (t at : ℕ) : Type 0 where
  pub instructions : ℕ
  pub few : instructions ≤ 5
  pub to : MachineState
  pub goes : Goes instructions m to
  pub trap : IsTrap t to
  pub moved : Moved m to at m.memory (m.regs 2)

-- Where nothing is left of the goal, the words of a poll lead to service 2, whose trap is the last of them.
abbrev pub PollsStop : Type 0
PollsStop = (m : MachineState) (p : ℕ) → StandsAt m p → IsCodeFrom p (length poll) → At m.memory p poll → word_at m.memory 0x30000000 ≤ m.regs 2 → Traps m 2 (p + 20)

-- Where a step is left, and a trap stands behind the poll, they lead to that.
abbrev pub PollsPass : Type 0
PollsPass = (m : MachineState) (p t : ℕ) (rest : List Insn) → StandsAt m p → IsCodeFrom p (length (poll ++ Trap t ∷ rest)) → At m.memory p (poll ++ Trap t ∷ rest) → m.regs 2 < word_at m.memory 0x30000000
    → Traps m t (p + 24)
