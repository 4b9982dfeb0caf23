-- What the host finds for a node that sends, and what its message meets.
use Rattle.std.specs.Prelude.{◌≡◌, ◌⊎◌, ℕ, ◌+◌, ◌*◌, ◌≤◌, List, ◌∷◌, length, Option, Some, None, slice_get}
use Rattle.self_terms.specs.declared.errors.ErrorName.{ErrorName}
use Rattle.self_terms.specs.declared.nodes.Node.{Node}
use Rattle.self_terms.specs.declared.nodes.Node.TheVariants as nodes
use Rattle.self_terms.specs.declared.nodes.Selector.{Selector}
use Rattle.self_terms.specs.declared.values.BodyId.{BodyId}
use Rattle.self_terms.specs.declared.values.Value.{Value}
use Rattle.self_terms.specs.declared.values.Value.TheVariants as values
use Rattle.object_maps.specs.Slots.{Slots}
use Rattle.object_maps.specs.Sound.{IsSound, IsValue as IsSoundValue}
use Rattle.object_maps.specs.declared.maps.SlotKind.TheVariants.{Constant, Parent, Field, Assign, Method}
use Rattle.slot_lookup.specs.declared.sends.Found.{Found}
use Rattle.slot_lookup.specs.declared.sends.Found.TheVariants.{NotUnderstood, One}
use Rattle.slot_lookup.specs.Lookup.{found_from, found_above, found_through, slot_at}
use Rattle.sparc_store.specs.Words.{Words, word_at, HasWord}
use Rattle.sparc_machine.specs.State.{MachineState}
use Rattle.source_model.specs.Formed.{IsWellFormed}
use Rattle.source_model.specs.Messages.{Met, Missing}
use Rattle.source_model.specs.State.{Activation, Running, State}
use Rattle.source_model.specs.Step.{value_at}
use Rattle.heap_cells.specs.Standing.{IsValue}
use Rattle.frame_walk.specs.Places.{holder_offset}
use Rattle.raw_steps.specs.Stands.{Sense}
use Rattle.plain_words.specs.Moves.{Moved}
use Rattle.plain_runs.specs.Host.{Host, raw_of, heap_words}
use Rattle.plain_runs.specs.Sound.{RunsAt}
use Rattle.plain_runs.specs.Course.{with_machine, CanGo}
use Rattle.plain_steps.specs.Steps.{StandsFor}
use Rattle.plain_sends.specs.Sends.{IsSent, IsData, met_of, selector_of}
use Rattle.plain_answers.specs.Found.{IsAssignment, IsMethod, Evaluates, error_of}

-- the word of the method holder of the frame in view
abbrev pub holder_here : Host → ℕ
holder_here h = word_at h.machine.memory (h.machine.regs 14 + holder_offset)

-- what the message of a node finds over words of memory, where there is room for so many objects
abbrev pub found_over : ℕ → Host → Words → Node → Found
found_over room h mem (nodes.Send sel) = found_from h.maps mem room (h.machine.regs 8) sel.name.0
found_over room h mem (nodes.SelfSend sel) = found_from h.maps mem room (h.machine.regs 8) sel.name.0
found_over room h mem (nodes.Resend sel) = found_above h.maps mem room (holder_here h) sel.name.0
found_over room h mem (nodes.Directed parent sel) = found_through h.maps mem room (slot_at h.maps mem parent.0 (holder_here h)) sel.name.0
found_over room h mem _ = NotUnderstood

-- over all memory
abbrev pub found_by : ℕ → Host → Node → Found
found_by room h node = found_over room h h.machine.memory node

-- the word that its lookup is given
abbrev pub start_of : Host → Node → ℕ
start_of h (nodes.Send sel) = h.machine.regs 8
start_of h (nodes.SelfSend sel) = h.machine.regs 8
start_of h _ = holder_here h

-- the value at which the lookup of its message begins, where that is the receiver
abbrev pub begins_at : Node → Activation → Option Value
begins_at (nodes.Send sel) a = Some (value_at a.pending sel.args)
begins_at (nodes.SelfSend sel) a = Some a.receiver
begins_at _ a = None

-- the receiver of its message
abbrev pub sent_to : Node → Activation → Value
sent_to (nodes.Send sel) a = value_at a.pending sel.args
sent_to _ a = a.receiver

-- The word of the method holder of an activation stands in its frame, at a node's poll and wherever the node's words have come to while nothing
-- was stored.
abbrev pub HoldersStand : Type 0
HoldersStand = (z : Sense) (h : Host) (s : State) (b n : ℕ) (node : Node) → StandsFor z h s → RunsAt h b n node → (a : Activation) (older : List Activation) → slice_get s.activities s.current ≡ Some (Running (a ∷ older))
    → (slice_get z.places.objects a.holder ≡ Some (holder_here h)) × ((to : MachineState) (p steps : ℕ) → Moved h.machine to p h.machine.memory steps → slice_get z.places.objects a.holder ≡ Some (holder_here (with_machine h to)))

-- A lookup from a word may be made, with room for so many objects.
pub record MayLook (maps : List Slots) (mem : Words) (room w : ℕ) : Type 0 where
  pub objects : List ℕ
  pub sound : IsSound maps mem objects
  pub enough : length objects ≤ room
  pub start : IsSoundValue maps mem w

-- A block's own method was met, which evaluates it: the block is the receiver, and this its word.
pub record IsEvaluated (z : Sense) (s : State) (receiver : Option Value) (met : Met) (name holder : ℕ) (c : BodyId) (w : ℕ) : Type 0 where
  pub block : BodyId
  pub maker : ℕ
  pub receiver_is : receiver ≡ Some (values.Block block maker)
  pub word : IsValue z.cells z.places (values.Block block maker) w
  pub evaluates : Evaluates s met name holder c block w

-- This data of an assignable slot was met, by the address of its word, which is one of the heap's.
pub record IsFieldRead (z : Sense) (mem : Words) (met : Met) (at : ℕ) : Type 0 where
  pub known : IsData z met (word_at mem at)
  pub here : HasWord at
  pub same : word_at (heap_words mem) at ≡ word_at mem at

-- What was found over a memory tells what is met, for each kind of slot: data and its word; an assignment slot, and where the data stands that it
-- sets; a method; and the error.
pub record FoundTells (z : Sense) (h : Host) (s : State) (mem : Words) (receiver : Option Value) (w name : ℕ) (found : Found) (met : Met) : Type 0 where
  pub constant : (holder word : ℕ) → found ≡ One holder (Constant word) → IsData z met word
  pub parent : (holder word : ℕ) → found ≡ One holder (Parent word) → IsData z met word
  pub field : (holder place : ℕ) → found ≡ One holder (Field place) → IsFieldRead z mem met (holder + 7 + 4 * place)
  pub assignment : IsWellFormed s → (holder place : ℕ) → found ≡ One holder (Assign place) → IsAssignment z (raw_of h) s met name holder place × HasWord (holder + 7 + 4 * place)
  pub method : (holder : ℕ) (c : BodyId) → found ≡ One holder (Method c) → IsMethod z s met holder c ⊎ IsEvaluated z s receiver met name holder c w
  pub missing : (e : ErrorName) → error_of found ≡ Some e → met ≡ Missing e

-- At the trap of a node that sends, the lookup of its message may be made over the machine's memory, and what it finds tells what the message
-- meets; it finds the same over the words of the heap. The word of the message's receiver is in %o0.
pub record IsFound (z : Sense) (h : Host) (s : State) (b n : ℕ) (node : Node) (sel : Selector) (r : RunsAt h b n node) (q : IsSent z h s b n node sel r) (room : ℕ) : Type 0 where
  pub may : MayLook h.maps q.asks.to.memory room (start_of (with_machine h q.asks.to) node)
  pub tells : FoundTells z h s q.asks.to.memory (begins_at node q.sender) (q.asks.to.regs 8) sel.name.0 (found_by room (with_machine h q.asks.to) node) (met_of node s q.sender)
  pub heap : found_over room (with_machine h q.asks.to) (heap_words q.asks.to.memory) node ≡ found_by room (with_machine h q.asks.to) node
  pub receives : IsValue z.cells z.places (sent_to node q.sender) (q.asks.to.regs 8)
  pub message : q.message.receiver ≡ sent_to node q.sender

abbrev pub FoundsTell : Type 0
FoundsTell = (z : Sense) (h : Host) (s : State) (b n : ℕ) (node : Node) (sel : Selector) (r : RunsAt h b n node) (q : IsSent z h s b n node sel r) → selector_of node ≡ Some sel → StandsFor z h s → CanGo h → sel.args ≤ 5
    → (room : ℕ) → length s.things ≤ room → IsFound z h s b n node sel r q room
