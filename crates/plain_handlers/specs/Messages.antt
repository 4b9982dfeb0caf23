-- What answers messages at a trap.
use Rattle.std.specs.Prelude.{◌≡◌, ℕ, ◌+◌, ◌*◌, ◌<◌, ◌≤◌, length}
use Rattle.self_terms.specs.declared.errors.ErrorName.{ErrorName}
use Rattle.self_terms.specs.declared.errors.ErrorName.TheVariants as errors
use Rattle.self_terms.specs.declared.nodes.Node.{Node}
use Rattle.self_terms.specs.declared.values.BodyId.{BodyId}
use Rattle.sparc_machine.specs.State.{MachineState}
use Rattle.source_model.specs.declared.objects.Content.TheVariants.{Method}
use Rattle.source_model.specs.Messages.{Met, Missing, Holds}
use Rattle.source_model.specs.State.{State}
use Rattle.source_model.specs.Step.{place_of}
use Rattle.raw_steps.specs.Stands.{Sense}
use Rattle.plain_runs.specs.Host.{Host, raw_of}
use Rattle.plain_runs.specs.Sound.{RunsAt}
use Rattle.plain_runs.specs.Course.{with_machine, CanGo}
use Rattle.plain_runs.specs.Services.{data_answers, assigns}
use Rattle.plain_steps.specs.Steps.{StandsFor, DoesStep}
use Rattle.plain_sends.specs.Sends.{IsData}
use Rattle.plain_sends.specs.Messages.{IsMessaged}
use Rattle.plain_answers.specs.Failing.{PlainUnits, Fails}
use Rattle.plain_answers.specs.Found.{IsAssignment}

-- Where the message meets data, the words behind the trap do the source's step, whatever the host leaves of goal and plain cost.
abbrev pub DataAnswersMessages : Type 0
DataAnswersMessages = (z : Sense) (h : Host) (s : State) (b n : ℕ) (node : Node) (args name : ℕ) (met : Met) (r : RunsAt h b n node) (to : MachineState) → IsMessaged z h s b n node args name met r to → StandsFor z h s → CanGo h
    → (goal cost word : ℕ) → goal ≤ 1000000000 → IsData z met word → DoesStep z (data_answers goal cost word (with_machine h to)) s

-- where it meets an assignment slot and has an argument, likewise
abbrev pub AssignmentsAnswerMessages : Type 0
AssignmentsAnswerMessages = (z : Sense) (h : Host) (s : State) (b n : ℕ) (node : Node) (args name : ℕ) (met : Met) (r : RunsAt h b n node) (to : MachineState) → IsMessaged z h s b n node args name met r to → StandsFor z h s → CanGo h
    → (holder place : ℕ) → IsAssignment z (raw_of h) s met name holder place → 0 < args → (goal cost : ℕ) → goal ≤ 1000000000 → DoesStep z (assigns goal cost (holder + 7 + 4 * place) (with_machine h to)) s

-- Where it meets no slot or more than one, or a method where 4096 activations are there, the current activity ends.
abbrev pub MissingMessagesFail : Type 0
MissingMessagesFail = (z : Sense) (h : Host) (s : State) (b n : ℕ) (node : Node) (args name : ℕ) (met : Met) (r : RunsAt h b n node) (to : MachineState) (q : IsMessaged z h s b n node args name met r to) → StandsFor z h s → CanGo h → PlainUnits h
    → (e : ErrorName) → met ≡ Missing e → Fails h to s e (place_of s q.sender)

abbrev pub MessagesOverflow : Type 0
MessagesOverflow = (z : Sense) (h : Host) (s : State) (b n : ℕ) (node : Node) (args name : ℕ) (met : Met) (r : RunsAt h b n node) (to : MachineState) (q : IsMessaged z h s b n node args name met r to) → StandsFor z h s → CanGo h → PlainUnits h
    → (o : ℕ) (c : BodyId) → met ≡ Holds o (Method c) → o < length s.things → 4096 ≤ to.regs 4 → Fails h to s errors.StackOverflow (place_of s q.sender)
