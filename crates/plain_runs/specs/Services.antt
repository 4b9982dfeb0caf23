-- What a service does to machine and host. A service is asked for at a trap, whose number tells which one.
use Rattle.std.specs.Prelude.{ℕ, ◌+◌, ◌-◌, ◌*◌, nat_eq, if◌then◌else◌, List, [], ◌∷◌, ◌++◌, length, Option, Some, slice_get, slice_set}
use Rattle.self_terms.specs.declared.bodies.Body.{Body}
use Rattle.self_terms.specs.declared.nodes.Place.{Place}
use Rattle.self_terms.specs.declared.errors.ErrorName.{ErrorName}
use Rattle.sparc_store.specs.Words.{Words, with_word}
use Rattle.sparc_store.specs.Windows.{Stack, with_reg, flushed, resumed}
use Rattle.sparc_machine.specs.State.{MachineState, put, stack_of, with_stack}
use Rattle.sparc_machine.specs.Table.{went}
use Rattle.source_model.specs.Soundness.{body_in}
use Rattle.frame_walk.specs.Places.{holder_offset, local_offset}
use Rattle.plain_words.specs.Moves.{with_words}
use Rattle.plain_words.specs.Units.{frame_words, initial_words, entry_code, unit_points}
use Rattle.plain_runs.specs.Host.{Host, Status, Waiting, Answered, Failed, first_unit}
use Rattle.plain_runs.specs.Sound.{entry_frame, ending_stub}

-- What every service does.

-- %g2 and %g3 are 0 again
abbrev pub cleared : (ℕ → ℕ) → ℕ → ℕ
cleared regs = with_reg (with_reg regs 2 0) 3 0

-- words 0 and 1 of the control region: what is left of the goal, and of the plain cost
abbrev pub with_left : Words → ℕ → ℕ → Words
with_left memory goal cost = with_word (with_word memory 0x30000000 goal) 0x30000004 cost

-- the counts since the last service are added to the host's sums, and the control region says what is left
abbrev pub settled : ℕ → ℕ → Host → Host
settled goal cost h = record h {
  machine = record h.machine { regs = cleared h.machine.regs; memory = with_left h.machine.memory goal cost };
  steps = h.steps + h.machine.regs 2;
  cost = h.cost + h.machine.regs 3;
}

-- Service 1, a send: the receiver is in %o0, the arguments from %o1 on.

-- a step is done, and the machine goes on behind the trap
abbrev pub passed : Host → Host
passed h = record h { machine = went h.machine; steps = h.steps + 1 }

-- the send is answered by data
abbrev pub data_answers : ℕ → ℕ → ℕ → Host → Host
data_answers goal cost word h =
    let s = settled goal cost h in
    passed (record s { machine = record s.machine { regs = with_reg s.machine.regs 8 word } })

-- by an assignment slot, whose data stands at an address: the argument is stored there, and the receiver answers
abbrev pub assigns : ℕ → ℕ → ℕ → Host → Host
assigns goal cost at h =
    let s = settled goal cost h in
    passed (record s { machine = record s.machine { memory = with_word s.machine.memory at (h.machine.regs 9) } })

-- A method is called that stands at an entry: the return address is in %o7, 8 bytes before the word behind the trap, and the word of its
-- holder in %g5, 0 where that is the receiver. The method counts the step.
abbrev pub handed : ℕ → ℕ → ℕ
handed receiver holder = if nat_eq holder receiver then 0 else holder

abbrev pub calls : ℕ → ℕ → ℕ → ℕ → Host → Host
calls goal cost entry holder h =
    let s = settled goal cost h in
    record s { machine = record s.machine { regs = with_reg (with_reg s.machine.regs 15 (h.machine.pc - 4)) 5 (handed (h.machine.regs 8) holder); pc = entry; npc = entry + 4 } }

-- The unit of a body stands behind the others, in this memory.
abbrev pub next_unit : Host → ℕ
next_unit h = first_unit + 4 * length h.points

abbrev pub with_unit : ℕ → Words → Host → Host
with_unit b memory h = record h {
  machine = record h.machine { memory = memory };
  entries = slice_set h.entries (b - 1) (next_unit h);
  points = h.points ++ unit_points h.references b (body_in h.bodies b);
}

-- Service 2, where nothing is left of the goal: the activity waits at the poll, which begins 20 bytes before its trap.
abbrev pub waits : ℕ → ℕ → Host → Host
waits goal cost h =
    let s = settled goal cost h in
    record s { machine = record s.machine { pc = h.machine.pc - 20; npc = h.machine.pc - 16 } }

-- The current activity has ended: by service 9, with the answer in %o0; or by an error, at a place.
abbrev pub answered : Host → Host
answered h = record h { statuses = slice_set h.statuses h.current (Answered (h.machine.regs 8)) }

abbrev pub ends : ℕ → ℕ → Host → Host
ends goal cost h = answered (settled goal cost h)

abbrev pub failed : ErrorName → Place → Host → Host
failed e p h = record h { statuses = slice_set h.statuses h.current (Failed e p) }

abbrev pub fails : ℕ → ℕ → ErrorName → Place → Host → Host
fails goal cost e p h = failed e p (settled goal cost h)

-- A new activity.

-- the frames of the current activity stand in its stack, where it runs
abbrev pub parked_by : Option Status → Host → Host
parked_by (Some (Waiting sp pc count)) h = record h {
  machine = with_stack h.machine (flushed (stack_of h.machine));
  statuses = slice_set h.statuses h.current (Waiting (h.machine.regs 14) h.machine.pc (h.machine.regs 4));
}
parked_by _ h = h

abbrev pub parked : Host → Host
parked h = parked_by (slice_get h.statuses h.current) h

-- the first frame of a stack is in view: it begins at a place, below the frame of entry, and its code returns to the ending stub
abbrev pub in_first_frame : ℕ → ℕ → ℕ → MachineState → MachineState
in_first_frame place entry receiver m =
    let m1 = with_stack m (resumed (stack_of m) place) in
    put (put (put (put (put (put m1 16 0) 17 0) 24 receiver) 30 entry) 31 (ending_stub - 8)) 4 1

-- memory when a method has filled its frame: the holder, and its arguments and locals
abbrev pub filled : Words → ℕ → ℕ → List ℕ → Words
filled memory place holder words = with_words (with_word memory (place + holder_offset) holder) (place + local_offset 0) words

-- An activity of a body without arguments, whose unit stands at an address: its one activation, for this receiver and holder, is at the
-- poll of its first node, and the activity is the current one.
abbrev pub begins : ℕ → ℕ → ℕ → ℕ → Host → Host
begins b at receiver holder h =
    let p = parked h in
    let x = body_in h.bodies b in
    let k = length h.statuses in
    let place = entry_frame k - 4 * frame_words x in
    let first = at + 4 * length (entry_code h.references x) in
    let m = record p.machine { memory = filled p.machine.memory place holder (initial_words h.references x) } in
    record p { machine = record (in_first_frame place (entry_frame k) receiver m) { pc = first; npc = first + 4 }; statuses = p.statuses ++ Waiting 0 0 0 ∷ []; current = k }
