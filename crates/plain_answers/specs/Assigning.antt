-- Messages that assignment slots answer.
use Rattle.std.specs.Prelude.{◌≡◌, ℕ, ◌+◌, ◌*◌, ◌<◌, ◌≤◌}
use Rattle.self_terms.specs.declared.nodes.Node.{Node}
use Rattle.self_terms.specs.declared.nodes.Selector.{Selector}
use Rattle.sparc_store.specs.Words.{word_at}
use Rattle.source_model.specs.State.{State}
use Rattle.raw_steps.specs.Stands.{Sense}
use Rattle.plain_runs.specs.Host.{Host, raw_of}
use Rattle.plain_runs.specs.Services.{assigns}
use Rattle.plain_runs.specs.Sound.{RunsAt}
use Rattle.plain_runs.specs.Course.{with_machine, CanGo}
use Rattle.plain_steps.specs.Steps.{StandsFor, DoesStep}
use Rattle.plain_sends.specs.Sends.{IsSent, met_of}
use Rattle.plain_answers.specs.Found.{IsAssignment}

-- Where the message meets an assignment slot and has an argument, the words behind the service do the source's step, whatever the service leaves
-- of goal and plain cost.
abbrev pub AssignmentsAnswer : Type 0
AssignmentsAnswer = (z : Sense) (h : Host) (s : State) (b n : ℕ) (node : Node) (sel : Selector) (r : RunsAt h b n node) (q : IsSent z h s b n node sel r) → StandsFor z h s → CanGo h
    → (holder place : ℕ) → IsAssignment z (raw_of h) s (met_of node s q.sender) sel.name.0 holder place → 0 < sel.args
    → (goal cost : ℕ) → goal ≤ 1000000000 → DoesStep z (assigns goal cost (holder + 7 + 4 * place) (with_machine h q.asks.to)) s

-- and what the service left of the goal is in its place
abbrev pub GoalsAreLeft : Type 0
GoalsAreLeft = (z : Sense) (h : Host) (s : State) (b n : ℕ) (node : Node) (sel : Selector) (r : RunsAt h b n node) (q : IsSent z h s b n node sel r) → StandsFor z h s → CanGo h
    → (holder place : ℕ) → IsAssignment z (raw_of h) s (met_of node s q.sender) sel.name.0 holder place
    → (goal cost : ℕ) → word_at (assigns goal cost (holder + 7 + 4 * place) (with_machine h q.asks.to)).machine.memory 0x30000000 ≡ goal
