-- What the words of a node do, wherever they stand.
use Rattle.std.specs.Prelude.{◌≡◌, ℕ, zero, suc, ◌+◌, ◌*◌, ◌%◌, ◌^◌, ◌<◌, ◌≤◌, Bool, true, false, nat_eq, nat_lt, nat_le, ◌||◌, ◌&&◌, if◌then◌else◌, List, [], ◌∷◌, ◌++◌, length}
use Rattle.sparc_insn.specs.declared.insn.Insn.{Insn}
use Rattle.sparc_store.specs.Words.{Words, word_at, with_word, HasFrame, IsWithin}
use Rattle.sparc_store.specs.Windows.{IsPlace, frame_before, but_first, kept, with_room, but_spilled, CanSave}
use Rattle.sparc_machine.specs.State.{MachineState, stack_of}
use Rattle.sparc_machine.specs.Alu.{add, sub, sum_flags, difference_flags, tagged}
use Rattle.plain_words.specs.Going.{Goes, IsTrap, At, StandsAt, IsCodeFrom}
use Rattle.frame_walk.specs.Places.{holder_offset, local_offset, pending_offset}
use Rattle.plain_words.specs.Code.{poll, base_of, offset_of, method_code, entered_code}

-- %g1, %g2, %g5, %g7 and the outs but %sp may change between polls; all else of a frame and of the activity's counts stays.
abbrev pub is_scratch : ℕ → Bool
is_scratch r = (nat_le 8 r && nat_lt r 14) || nat_eq r 15 || nat_eq r 1 || nat_eq r 2 || nat_eq r 5 || nat_eq r 7

-- The machine is at the poll of a node, whose words stand there, with so many words of its frame above %sp, and a step is left of the goal.
pub record IsReady (m : MachineState) (p words : ℕ) (code : List Insn) : Type 0 where
  pub stands : StandsAt m p
  pub code_region : IsCodeFrom p (length (poll ++ code))
  pub code_there : At m.memory p (poll ++ code)
  pub frame : HasFrame (m.regs 14) words
  pub left : m.regs 2 < word_at m.memory 0x30000000

-- a machine that has gone on to an address, with this memory, this count of steps and the same frame in view
pub record Moved (m to : MachineState) (p : ℕ) (memory : Words) (steps : ℕ) : Type 0 where
  pub stands : StandsAt to p
  pub memory_is : to.memory ≡ memory
  pub counted : to.regs 2 ≡ steps
  pub kept : (r : ℕ) → is_scratch r ≡ false → to.regs r ≡ m.regs r
  pub older : to.older ≡ m.older

-- the node is done in words: so many instructions lead to the next poll, with this memory and one more step counted
pub record Does (m : MachineState) (p : ℕ) (code : List Insn) (memory : Words) : Type 0 where
  pub instructions : ℕ
  pub few : instructions ≤ length (poll ++ code)
  pub to : MachineState
  pub goes : Goes instructions m to
  pub moved : Moved m to (p + 4 * length (poll ++ code)) memory ((m.regs 2 + 1) % 2 ^ 32)

-- memory with a word pended as number k, over so many locals in the frame
abbrev pub pended : MachineState → ℕ → ℕ → ℕ → Words
pended m locals k word = with_word m.memory (m.regs 14 + pending_offset locals k) word

-- a context from its reference on, with so many words behind its first four: its addresses lie in the heap
pub record IsContext (context locals : ℕ) : Type 0 where
  pub tagged : context % 4 ≡ 1
  pub from : 0x20000001 ≤ context
  pub to : context + 15 + 4 * locals ≤ 0x20000000 + 46137344

-- the context so many contexts around one
abbrev pub around : Words → ℕ → ℕ → ℕ
around memory zero context = context
around memory (suc up) context = around memory up (word_at memory (context + 3))

-- each context on the way outwards is one, and the last has so many words
abbrev pub AreAround : Words → ℕ → ℕ → ℕ → Type 0
AreAround memory zero context locals = IsContext context locals
AreAround memory (suc up) context locals = IsContext context 0 × AreAround memory up (word_at memory (context + 3)) locals

-- where a local stands that is `up` bodies out: in the frame, in the own context, or in that of a body around
abbrev pub local_address : MachineState → Bool → ℕ → ℕ → ℕ
local_address m owns zero slot = m.regs (base_of owns zero) + offset_of owns zero slot
local_address m owns (suc up) slot = around m.memory up (m.regs 16) + offset_of owns (suc up) slot

-- that place is there
abbrev pub HasLocal : MachineState → ℕ → Bool → ℕ → ℕ → Type 0
HasLocal m words false zero slot = 27 + slot < words
HasLocal m words true zero slot = IsContext (m.regs 17) (slot + 1)
HasLocal m words owns (suc up) slot = AreAround m.memory up (m.regs 16) (slot + 1)

-- memory with a word put for a local, and then one pended in the place of the value that was taken
abbrev pub assigned : MachineState → Bool → ℕ → ℕ → ℕ → ℕ → Words
assigned m owns locals k up slot =
    with_word (with_word m.memory (local_address m owns up slot) (word_at m.memory (m.regs 14 + pending_offset locals k))) (m.regs 14 + pending_offset locals k) (m.regs 24)

-- so many words from an address on lie in the heap
pub record HasRoom (top words : ℕ) : Type 0 where
  pub aligned : top % 4 ≡ 0
  pub from : 0x20000000 ≤ top
  pub to : top + 4 * words ≤ 0x20000000 + 46137344

-- what was left of the plain cost at the last service
abbrev pub cost_left : MachineState → ℕ
cost_left m = word_at m.memory 0x30000004

-- memory with words put from an address on
abbrev pub with_words : Words → ℕ → List ℕ → Words
with_words memory at [] = memory
with_words memory at (w ∷ ws) = with_words (with_word memory at w) (at + 4) ws

-- memory with the four words of a block at the heap's top, and the reference to it pended
abbrev pub block_made : MachineState → ℕ → ℕ → ℕ → ℕ → Words
block_made m locals k map body =
    with_word (with_words m.memory (m.regs 6) (map ∷ body ∷ m.regs 17 ∷ m.regs 24 ∷ [])) (m.regs 14 + pending_offset locals k) (m.regs 6 + 1)

-- a machine that has gone on to an address, with so many words more below the heap's top, this memory and the same frame in view
pub record Made (m to : MachineState) (p words : ℕ) (memory : Words) : Type 0 where
  pub stands : StandsAt to p
  pub memory_is : to.memory ≡ memory
  pub counted : to.regs 2 ≡ (m.regs 2 + 1) % 2 ^ 32
  pub cost : to.regs 3 ≡ add (m.regs 3) words
  pub top : to.regs 6 ≡ m.regs 6 + 4 * words
  pub kept : (r : ℕ) → is_scratch r ≡ false → nat_eq r 3 ≡ false → nat_eq r 6 ≡ false → to.regs r ≡ m.regs r
  pub older : to.older ≡ m.older

-- the node is done in words: so many instructions lead to the next poll, with that memory
pub record Makes (m : MachineState) (p words : ℕ) (code : List Insn) (memory : Words) : Type 0 where
  pub instructions : ℕ
  pub few : instructions ≤ length (poll ++ code)
  pub to : MachineState
  pub goes : Goes instructions m to
  pub made : Made m to (p + 4 * length (poll ++ code)) words memory

-- The store is full: so many instructions lead to service 8, whose trap has this address. Nothing has changed but scratch registers.
pub record IsFull (m : MachineState) (at : ℕ) : Type 0 where
  pub instructions : ℕ
  pub few : instructions ≤ 16
  pub to : MachineState
  pub goes : Goes instructions m to
  pub trap : IsTrap 8 to
  pub moved : Moved m to at m.memory (m.regs 2)

-- registers from one on hold so many pending words in turn, from a number on
abbrev pub AreArguments : MachineState → MachineState → ℕ → ℕ → ℕ → ℕ → Type 0
AreArguments m to register locals k zero = Unit {0}
AreArguments m to register locals k (suc n) = (to.regs register ≡ word_at m.memory (m.regs 14 + pending_offset locals k)) × AreArguments m to (register + 1) locals (k + 1) n

-- The node asks for a service: so many instructions lead to the trap, whose address this is. Nothing has changed but scratch registers: the
-- receiver stands in %o0, and arguments, the first of which is number k of the pending values, from %o1 on.
pub record Asks (m : MachineState) (service at receiver locals k args : ℕ) : Type 0 where
  pub instructions : ℕ
  pub few : instructions ≤ 16
  pub to : MachineState
  pub goes : Goes instructions m to
  pub trap : IsTrap service to
  pub moved : Moved m to at m.memory (m.regs 2)
  pub receiver_is : to.regs 8 ≡ receiver
  pub arguments : AreArguments m to 9 locals k args

-- a receiver as it is handed over: the activation's own one, or a stated one, which is number k of the pending values; and the number of the
-- first value behind it
abbrev pub handed_receiver : MachineState → Bool → ℕ → ℕ → ℕ
handed_receiver m true locals k = m.regs 24
handed_receiver m false locals k = word_at m.memory (m.regs 14 + pending_offset locals k)

abbrev pub first_handed : Bool → ℕ → ℕ
first_handed true k = k
first_handed false k = k + 1

abbrev pub handed_argument : MachineState → Bool → ℕ → ℕ → ℕ
handed_argument m implied locals k = word_at m.memory (m.regs 14 + pending_offset locals (first_handed implied k))

-- the sum of two words, or their difference
abbrev pub summed : Bool → ℕ → ℕ → ℕ
summed false x y = add x y
summed true x y = sub x y

-- it isn't that of their integers: it overflows, or one of the words has a tag
abbrev pub overflows : Bool → ℕ → ℕ → Bool
overflows false x y = (tagged x y (sum_flags x y)).overflow
overflows true x y = (tagged x y (difference_flags x y)).overflow

-- the machine in the caller's frame, at the address behind the call: what is in view is the older frame, its %o0 is the answer, and one
-- step more and one activation less are counted
pub record Returned (m to : MachineState) (memory : Words) (answer : ℕ) : Type 0 where
  pub stands : StandsAt to (add (m.regs 31) 8)
  pub memory_is : to.memory ≡ memory
  pub answer_is : to.regs 8 ≡ answer
  pub counted : to.regs 2 ≡ (m.regs 2 + 1) % 2 ^ 32
  pub activations : to.regs 4 ≡ sub (m.regs 4) 1
  pub cost : to.regs 3 ≡ m.regs 3
  pub top : to.regs 6 ≡ m.regs 6
  pub register_0 : to.regs 0 ≡ m.regs 0
  pub frame : to.regs 14 ≡ m.regs 30
  pub view : (k : ℕ) → k < 16 → to.regs (16 + k) ≡ frame_before memory (m.regs 30) m.older k
  pub older : to.older ≡ but_first m.older

-- the activation ends: so many instructions lead to the caller's frame
pub record Ends (m : MachineState) (memory : Words) (answer : ℕ) : Type 0 where
  pub instructions : ℕ
  pub few : instructions ≤ 16
  pub to : MachineState
  pub goes : Goes instructions m to
  pub returned : Returned m to memory answer

-- memory when an activation ends: its context, if it has one, has the mark 0, which is what register 0 holds
abbrev pub unmarked : MachineState → Bool → Words
unmarked m false = m.memory
unmarked m true = with_word m.memory (m.regs 17 + 7) (m.regs 0)

abbrev pub HasContext : MachineState → Bool → Type 0
HasContext m false = Unit {0}
HasContext m true = IsContext (m.regs 17) 0

-- The frame in view can be left: its return address is that of a word of the code region, 8 bytes before it, and its caller's frame has its
-- place in a stack, where it isn't held.
pub record CanReturn (m : MachineState) : Type 0 where
  pub aligned : add (m.regs 31) 8 % 4 ≡ 0
  pub within : add (m.regs 31) 8 < 0x12000000
  pub place : m.older ≡ [] → IsPlace (m.regs 30)

-- the words of so many registers from one on
abbrev pub registers_from : (ℕ → ℕ) → ℕ → ℕ → List ℕ
registers_from regs r zero = []
registers_from regs r (suc n) = regs r ∷ registers_from regs (r + 1) n

-- a method's holder as it is handed over
abbrev pub handed_holder : MachineState → ℕ
handed_holder m = if nat_eq (m.regs 5) 0 then m.regs 8 else m.regs 5

-- A method can be entered: the machine stands at its words, and there is room for its frame of so many words below the frame in view.
pub record CanEnter (m : MachineState) (p words arguments : ℕ) (initial : List ℕ) : Type 0 where
  pub stands : StandsAt m p
  pub code_region : IsCodeFrom p (length (method_code (4 * words) arguments initial))
  pub code_there : At m.memory p (method_code (4 * words) arguments initial)
  pub few : arguments ≤ 5
  pub room : 27 + arguments + length initial ≤ words
  pub place : ℕ
  pub below : m.regs 14 ≡ place + 4 * words
  pub frame : HasFrame place words
  pub can_save : CanSave (stack_of m)
  pub within : IsWithin m.memory
  pub register_0 : m.regs 0 ≡ 0

-- what it keeps in its frame
abbrev pub entered_memory : MachineState → ℕ → ℕ → List ℕ → Words
entered_memory m place arguments initial =
    with_words (with_word (with_room m.memory (m.regs 30) m.older) (place + holder_offset) (handed_holder m)) (place + local_offset 0) (registers_from m.regs 9 arguments ++ initial)

-- a method was entered: its frame is in view, that of its caller is the youngest of the older ones
pub record Entered (m to : MachineState) (p place : ℕ) (memory : Words) : Type 0 where
  pub stands : StandsAt to p
  pub memory_is : to.memory ≡ memory
  pub receiver : to.regs 24 ≡ m.regs 8
  pub outer : to.regs 16 ≡ 0
  pub context : to.regs 17 ≡ 0
  pub frame : to.regs 14 ≡ place
  pub caller : to.regs 30 ≡ m.regs 14
  pub returns : to.regs 31 ≡ m.regs 15
  pub counted : to.regs 2 ≡ (m.regs 2 + 1) % 2 ^ 32
  pub activations : to.regs 4 ≡ (m.regs 4 + 1) % 2 ^ 32
  pub cost : to.regs 3 ≡ m.regs 3
  pub top : to.regs 6 ≡ m.regs 6
  pub register_0 : to.regs 0 ≡ 0
  pub older : to.older ≡ kept m.regs ∷ but_spilled m.older

-- so many instructions lead into the method
pub record Enters (m : MachineState) (p place : ℕ) (memory : Words) : Type 0 where
  pub instructions : ℕ
  pub few : m.pc + 4 * instructions ≤ p
  pub to : MachineState
  pub goes : Goes instructions m to
  pub entered : Entered m to p place memory

-- Blocks, and methods whose activations have contexts, are entered likewise.

-- A block is in %o0: its words stand in the heap, as many as those of a context before its locals; so does the context of its maker, whose mark is
-- the place of a frame.
pub record IsEvaluated (m : MachineState) : Type 0 where
  pub block : IsContext (m.regs 8) 0
  pub maker : IsContext (word_at m.memory (m.regs 8 + 7)) 0
  pub home : HasFrame (word_at m.memory (word_at m.memory (m.regs 8 + 7) + 7)) 27

abbrev pub CanStart : Bool → MachineState → Type 0
CanStart false m = Unit {0}
CanStart true m = IsEvaluated m

-- the maker's context, the receiver and the holder that an activation begins with; a spill comes before the holder is read
abbrev pub given_maker : Bool → MachineState → ℕ
given_maker false m = 0
given_maker true m = word_at m.memory (m.regs 8 + 7)

abbrev pub given_receiver : Bool → MachineState → ℕ
given_receiver false m = m.regs 8
given_receiver true m = word_at m.memory (m.regs 8 + 11)

abbrev pub given_holder : Bool → MachineState → ℕ
given_holder false m = handed_holder m
given_holder true m = word_at (with_room m.memory (m.regs 30) m.older) (word_at m.memory (word_at m.memory (m.regs 8 + 7) + 7) + holder_offset)

-- Of so many arguments and locals, how many the frame keeps; the words of the context, and the room for them; the own context; the plain cost and
-- the heap's top when it is made.
abbrev pub in_frame : Bool → ℕ → ℕ
in_frame false n = n
in_frame true n = 0

abbrev pub HasTop : Bool → MachineState → ℕ → Type 0
HasTop false m n = Unit {0}
HasTop true m n = HasRoom (m.regs 6) (4 + n)

abbrev pub own_context : Bool → MachineState → ℕ
own_context false m = 0
own_context true m = m.regs 6 + 1

abbrev pub cost_then : Bool → MachineState → ℕ → ℕ
cost_then false m n = m.regs 3
cost_then true m n = add (m.regs 3) (4 + n)

abbrev pub top_then : Bool → MachineState → ℕ → ℕ
top_then false m n = m.regs 6
top_then true m n = m.regs 6 + 4 * (4 + n)

-- An activation can begin, by whether it has a context and is a block's: the machine stands at its words, and there is room for its frame of so
-- many words below the frame in view, and for its context.
pub record CanBegin (owns block : Bool) (m : MachineState) (p words map arguments : ℕ) (initial : List ℕ) : Type 0 where
  pub stands : StandsAt m p
  pub code_region : IsCodeFrom p (length (entered_code owns block (4 * words) map arguments initial))
  pub code_there : At m.memory p (entered_code owns block (4 * words) map arguments initial)
  pub few : arguments ≤ 5
  pub room : 27 + in_frame owns (arguments + length initial) ≤ words
  pub place : ℕ
  pub below : m.regs 14 ≡ place + 4 * words
  pub frame : HasFrame place words
  pub can_save : CanSave (stack_of m)
  pub within : IsWithin m.memory
  pub register_0 : m.regs 0 ≡ 0
  pub start : CanStart block m
  pub heap : HasTop owns m (arguments + length initial)

-- what it keeps: the holder in its frame, and arguments and locals there, or in its context
abbrev pub begun_memory : Bool → Bool → MachineState → ℕ → ℕ → ℕ → List ℕ → Words
begun_memory false block m place map arguments initial =
    with_words (with_word (with_room m.memory (m.regs 30) m.older) (place + holder_offset) (given_holder block m)) (place + local_offset 0) (registers_from m.regs 9 arguments ++ initial)
begun_memory true block m place map arguments initial =
    with_words (with_word (with_room m.memory (m.regs 30) m.older) (place + holder_offset) (given_holder block m)) (m.regs 6)
    (map ∷ given_maker block m ∷ place ∷ given_receiver block m ∷ (registers_from m.regs 9 arguments ++ initial))

-- it has begun: its frame is in view, that of its caller is the youngest of the older ones; it has so many arguments and locals
pub record Begun (owns block : Bool) (m to : MachineState) (p place n : ℕ) (memory : Words) : Type 0 where
  pub stands : StandsAt to p
  pub memory_is : to.memory ≡ memory
  pub receiver : to.regs 24 ≡ given_receiver block m
  pub outer : to.regs 16 ≡ given_maker block m
  pub context : to.regs 17 ≡ own_context owns m
  pub frame : to.regs 14 ≡ place
  pub caller : to.regs 30 ≡ m.regs 14
  pub returns : to.regs 31 ≡ m.regs 15
  pub counted : to.regs 2 ≡ (m.regs 2 + 1) % 2 ^ 32
  pub activations : to.regs 4 ≡ (m.regs 4 + 1) % 2 ^ 32
  pub cost : to.regs 3 ≡ cost_then owns m n
  pub top : to.regs 6 ≡ top_then owns m n
  pub register_0 : to.regs 0 ≡ 0
  pub older : to.older ≡ kept m.regs ∷ but_spilled m.older

-- so many instructions lead into it
pub record Begins (owns block : Bool) (m : MachineState) (p place n : ℕ) (memory : Words) : Type 0 where
  pub instructions : ℕ
  pub few : m.pc + 4 * instructions ≤ p
  pub to : MachineState
  pub goes : Goes instructions m to
  pub begun : Begun owns block m to p place n memory
