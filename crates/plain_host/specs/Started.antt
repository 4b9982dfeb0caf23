-- The machine where an activity begins with a context.
use Rattle.std.specs.Prelude.{ℕ, ◌+◌, List, [], ◌∷◌}
use Rattle.self_terms.specs.declared.bodies.Body.{Body}
use Rattle.sparc_machine.specs.State.{MachineState}
use Rattle.plain_words.specs.Moves.{with_words}
use Rattle.plain_words.specs.Units.{initial_words, numbered}
use Rattle.plain_words.specs.declared.references.References.{References}
use Rattle.plain_runs.specs.Services.{filled, in_first_frame}
use Rattle.plain_spawns.specs.Spawns.{with_context}

-- the words of the context of a method's activation, in a frame, for a receiver
abbrev pub context_of : References → Body → ℕ → ℕ → List ℕ
context_of r b place receiver = numbered r.contexts ∷ 0 ∷ place ∷ receiver ∷ initial_words r b

-- the first frame of a stack is in view, with a context of so many words; the code goes on at an address
abbrev pub started : ℕ → ℕ → ℕ → ℕ → ℕ → ℕ → List ℕ → MachineState → MachineState
started first words entry place receiver holder cell m =
    record (with_context words (in_first_frame place entry receiver (record m { memory = filled (with_words m.memory (m.regs 6) cell) place holder [] }))) { pc = first; npc = first + 4 }
