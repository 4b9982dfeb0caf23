-- Block literals.
use Rattle.std.specs.Prelude.{◌≡◌, ℕ, ◌+◌, ◌*◌, ◌%◌, ◌^◌, ◌<◌, ◌≤◌, false, nat_eq, List, [], ◌∷◌, ◌++◌, length}
use Rattle.self_terms.specs.declared.nodes.Node.TheVariants as nodes
use Rattle.self_terms.specs.declared.values.BodyId.{BodyId}
use Rattle.self_terms.specs.Depths.{depth_from}
use Rattle.sparc_insn.specs.declared.insn.Insn.{Insn}
use Rattle.sparc_store.specs.Words.{with_word}
use Rattle.sparc_machine.specs.State.{MachineState}
use Rattle.source_model.specs.Soundness.{body_in}
use Rattle.source_model.specs.State.{State}
use Rattle.heap_cells.specs.Heaps.{IsTold}
use Rattle.heap_cells.specs.Laying.{with_words}
use Rattle.heap_cells.specs.Shapes.{Block}
use Rattle.frame_walk.specs.Places.{pending_offset}
use Rattle.raw_steps.specs.Stands.{Sense}
use Rattle.plain_words.specs.Code.{poll}
use Rattle.plain_words.specs.Going.{Goes, StandsAt}
use Rattle.plain_words.specs.Moves.{is_scratch}
use Rattle.plain_words.specs.Units.{frame_locals}
use Rattle.plain_runs.specs.Host.{Host}
use Rattle.plain_runs.specs.Sound.{RunsAt}
use Rattle.plain_runs.specs.Course.{CanGo, code_at}
use Rattle.plain_steps.specs.Steps.{StandsFor, DoesStep}

-- The words of a block literal have made a block, whose first two words are these: so many instructions lead to the next poll. Its four words
-- stand at what was the top of the heap, the own context and the receiver behind the first two, and its reference is pended over k values; the
-- top is behind them; four words of plain cost and a step are counted.
pub record Makes (m : MachineState) (p : ℕ) (code : List Insn) (locals k map body : ℕ) : Type 0 where
  pub instructions : ℕ
  pub few : instructions ≤ 32
  pub to : MachineState
  pub goes : Goes instructions m to
  pub stands : StandsAt to (p + 4 * length (poll ++ code))
  pub memory_is : to.memory ≡ with_word (with_words m.memory (m.regs 6) (map ∷ body ∷ m.regs 17 ∷ m.regs 24 ∷ [])) (m.regs 14 + pending_offset locals k) (m.regs 6 + 1)
  pub counted : to.regs 2 ≡ (m.regs 2 + 1) % 2 ^ 32
  pub cost : to.regs 3 ≡ m.regs 3 + 4
  pub top : to.regs 6 ≡ m.regs 6 + 16
  pub kept : (r : ℕ) → is_scratch r ≡ false → nat_eq r 3 ≡ false → nat_eq r 6 ≡ false → to.regs r ≡ m.regs r
  pub older : to.older ≡ m.older

-- There is a map of the blocks of this body, and room for one, and the plain cost of four words is left.
pub record CanMake (h : Host) (map body : ℕ) : Type 0 where
  pub mapped : map < length h.maps
  pub told : IsTold h.maps (Block map body (h.machine.regs 17) (h.machine.regs 24))
  pub room : h.machine.regs 6 + 16 ≤ 0x20000000 + 46137344
  pub paid : h.cost + h.machine.regs 3 + 4 ≤ 4194304

-- Words that make a block do the step of its literal; those of its map and its body are tagged numbers.
abbrev pub BlocksAreMade : Type 0
BlocksAreMade = (z : Sense) (h : Host) (s : State) (b n map : ℕ) (body : BodyId) → StandsFor z h s → RunsAt h b n (nodes.BlockLit body) → CanGo h → CanMake h map body.0
    → Makes h.machine h.machine.pc (code_at h b n (nodes.BlockLit body)) (frame_locals (body_in h.bodies b)) (depth_from 0 (body_in h.bodies b).nodes n) (4 * map) (4 * body.0) → DoesStep z h s
