-- How plain code goes on under its host, node by node.
use Rattle.std.specs.Prelude.{◌≡◌, ℕ, suc, ◌+◌, ◌<◌, ◌≤◌, List, ◌∷◌, Some, slice_get, drop}
use Rattle.self_terms.specs.declared.nodes.Node.{Node}
use Rattle.self_terms.specs.Depths.{depth, depth_from}
use Rattle.sparc_insn.specs.declared.insn.Insn.{Insn}
use Rattle.sparc_store.specs.Words.{word_at}
use Rattle.sparc_machine.specs.State.{MachineState}
use Rattle.source_model.specs.Soundness.{body_in}
use Rattle.frame_walk.specs.Raw.{Thread, Going, moved_on, answered_to}
use Rattle.plain_words.specs.Going.{Goes}
use Rattle.plain_words.specs.Moves.{Does, Ends, pended}
use Rattle.plain_words.specs.Showing.{viewed}
use Rattle.plain_words.specs.Units.{node_code, owns_context, frame_locals}
use Rattle.plain_runs.specs.Host.{Host}
use Rattle.plain_runs.specs.Units.{words_before}
use Rattle.plain_runs.specs.Sound.{Runs, InFrame, RunsAt, IsHosted, GoesOn, callers_of}

abbrev pub with_machine : Host → MachineState → Host
with_machine h m = record h { machine = m }

-- every body is one that plain code runs
abbrev pub AllRun : Host → Type 0
AllRun h = (b : ℕ) → Runs h b

-- the words of a node of a body behind its poll
abbrev pub code_at : Host → ℕ → ℕ → Node → List Insn
code_at h b n node =
    let x = body_in h.bodies b in
    node_code h.references (owns_context x) (frame_locals x) (words_before h.references (owns_context x) (frame_locals x) 0 0 x.nodes n) node (depth_from 0 x.nodes n)

-- what a node that is done leads to: in so many instructions a host that shows the activity so, at a node's poll
pub record Follows (h : Host) (b n : ℕ) (next : Node) (now : Thread) : Type 0 where
  pub instructions : ℕ
  pub few : instructions ≤ 128
  pub to : MachineState
  pub goes : Goes instructions h.machine to
  pub on : GoesOn h (with_machine h to) now
  pub runs : RunsAt (with_machine h to) b n next

-- The answer goes to the caller, which moves on.
pub record AnswersCaller (h : Host) (older answer : ℕ) : Type 0 where
  pub instructions : ℕ
  pub few : instructions ≤ 128
  pub to : MachineState
  pub goes : Goes instructions h.machine to
  pub on : GoesOn h (with_machine h to) (answered_to (callers_of h older) answer)
  pub body : ℕ
  pub number : ℕ
  pub next : Node
  pub runs : RunsAt (with_machine h to) body number next

-- The host is sound, the current activity's number is one of four, and a step is left of the goal.
pub record CanGo (h : Host) : Type 0 where
  pub hosted : IsHosted h
  pub runs : AllRun h
  pub current : h.current < 4
  pub left : h.machine.regs 2 < word_at h.machine.memory 0x30000000

-- A node whose words pend a word leads to the next node, with the word pended.
abbrev pub PendedFollows : Type 0
PendedFollows = (h : Host) (b n : ℕ) (node next : Node) (word : ℕ) → (r : RunsAt h b n node) → CanGo h
    → slice_get (body_in h.bodies b).nodes (n + 1) ≡ Some next → depth (body_in h.bodies b).nodes (n + 1) ≡ depth (body_in h.bodies b).nodes n + 1
    → Does h.machine h.machine.pc (code_at h b n node) (pended h.machine (frame_locals (body_in h.bodies b)) (depth (body_in h.bodies b).nodes n) word)
    → (let f = viewed h.machine b n (frame_locals (body_in h.bodies b)) (depth (body_in h.bodies b).nodes n) in Follows h b (n + 1) next (Going (moved_on (word ∷ f.pending) f ∷ callers_of h r.view.older)))

-- One that drops a value leads to the next node without it.
abbrev pub DroppedFollows : Type 0
DroppedFollows = (h : Host) (b n : ℕ) (node next : Node) → (r : RunsAt h b n node) → CanGo h
    → slice_get (body_in h.bodies b).nodes (n + 1) ≡ Some next → depth (body_in h.bodies b).nodes n ≡ suc (depth (body_in h.bodies b).nodes (n + 1))
    → Does h.machine h.machine.pc (code_at h b n node) h.machine.memory
    → (let f = viewed h.machine b n (frame_locals (body_in h.bodies b)) (depth (body_in h.bodies b).nodes n) in Follows h b (n + 1) next (Going (moved_on (drop 1 f.pending) f ∷ callers_of h r.view.older)))

-- One that ends an activation without a context, which isn't the oldest, leads to its caller's next node, with the answer pended there.
abbrev pub AnswerFollows : Type 0
AnswerFollows = (h : Host) (b o answer : ℕ) → (r : InFrame h b) → CanGo h → r.older ≡ suc o → Ends h.machine h.machine.memory answer → AnswersCaller h (suc o) answer
