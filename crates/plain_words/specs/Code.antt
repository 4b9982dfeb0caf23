-- The words of plain code: for each node of a body a poll, and then what the node does.
--
-- %g2 counts the source steps since the last service, and the first word of the control region has what was left of the goal then.
-- %g4 counts the activations of the activity. %g1, %g5, %g7 and the outs but %sp hold nothing at a poll.
use Rattle.std.specs.Prelude.{ℕ, zero, suc, ◌+◌, ◌-◌, ◌*◌, ◌/◌, ◌%◌, Bool, true, false, ◌&&◌, ◌||◌, nat_eq, if◌then◌else◌, List, [], ◌∷◌, ◌++◌, length, pos, negsuc}
use Rattle.self_terms.specs.declared.names.TheConstants.{INT_ADD, INT_SUB}
use Rattle.sparc_insn.specs.declared.insn.Insn.{Insn}
use Rattle.sparc_insn.specs.declared.insn.Insn.TheVariants.{Sethi, Branch, Three, Trap}
use Rattle.sparc_insn.specs.declared.insn.Operand.TheVariants.{Reg, Imm}
use Rattle.sparc_insn.specs.declared.insn.Op3.{Op3}
use Rattle.sparc_insn.specs.declared.insn.Op3.TheVariants as ops
use Rattle.frame_walk.specs.Places.{holder_offset, local_offset, pending_offset}

-- SPARC's own words: a load from and a store to so many bytes from an address on, a move, a sum with a number, no operation
abbrev pub load : ℕ → ℕ → ℕ → Insn
load to base offset = Three ops.Ld to base (Imm (pos offset))

abbrev pub store : ℕ → ℕ → ℕ → Insn
store from base offset = Three ops.St from base (Imm (pos offset))

abbrev pub move : ℕ → ℕ → Insn
move to from = Three ops.Or to from (Imm (pos 0))

abbrev pub plus : ℕ → ℕ → Insn
plus register n = Three ops.Add register register (Imm (pos n))

abbrev pub nop : Insn
nop = Sethi 0 0

-- a word of 32 bits into a register
abbrev pub set_word : ℕ → ℕ → List Insn
set_word to word = Sethi to (word / 1024) ∷ Three ops.Or to to (Imm (pos (word % 1024))) ∷ []

-- one step is counted
abbrev pub count : Insn
count = plus 2 1

-- service 2 where %g2 leaves nothing of the goal, else on to the node
abbrev pub poll : List Insn
poll = Sethi 1 0xC0000 ∷ load 1 1 0 ∷ Three ops.SubCc 0 2 (Reg 1) ∷ Branch false 5 (pos 3) ∷ nop ∷ Trap 2 ∷ []

-- A frame's pending value with a number, over so many locals in the frame.
abbrev pub take : ℕ → ℕ → ℕ → Insn
take to locals k = load to 14 (pending_offset locals k)

abbrev pub pend : ℕ → ℕ → ℕ → Insn
pend from locals k = store from 14 (pending_offset locals k)

-- a constant is pended over k values
abbrev pub constant_code : ℕ → ℕ → ℕ → List Insn
constant_code locals k word = set_word 1 word ++ (pend 1 locals k ∷ count ∷ [])

-- the receiver is pended
abbrev pub self_code : ℕ → ℕ → List Insn
self_code locals k = pend 24 locals k ∷ count ∷ []

-- Locals. An own local stands in the frame, or in the own context; those of the bodies around stand in the contexts of their
-- activations, of which the maker's is at hand and each names the next one.
abbrev pub context_offset : ℕ → ℕ
context_offset slot = 15 + 4 * slot

-- from the context in %g1 so many contexts outwards
abbrev pub walk : ℕ → List Insn
walk zero = []
walk (suc up) = load 1 1 3 ∷ walk up

-- what stands before a local, which is `up` bodies out, can be loaded or stored: the register from which its place is counted
abbrev pub reach : ℕ → List Insn
reach zero = []
reach (suc up) = move 1 16 ∷ walk up

abbrev pub base_of : Bool → ℕ → ℕ
base_of owns zero = if owns then 17 else 14
base_of owns (suc up) = 1

abbrev pub offset_of : Bool → ℕ → ℕ → ℕ
offset_of owns zero slot = if owns then context_offset slot else local_offset slot
offset_of owns (suc up) slot = context_offset slot

abbrev pub read_code : Bool → ℕ → ℕ → ℕ → ℕ → List Insn
read_code owns locals k up slot = reach up ++ (load 1 (base_of owns up) (offset_of owns up slot) ∷ pend 1 locals k ∷ count ∷ [])

-- the youngest of k + 1 values is stored, and the receiver pended in its place
abbrev pub store_code : Bool → ℕ → ℕ → ℕ → ℕ → List Insn
store_code owns locals k up slot =
    reach up ++ (take 5 locals k ∷ store 5 (base_of owns up) (offset_of owns up slot) ∷ pend 24 locals k ∷ count ∷ [])

abbrev pub drop_code : List Insn
drop_code = count ∷ []

-- Sends. The receiver goes to %o0 and the arguments to the outs from %o1 on; a service goes on at what the message finds; the answer comes back
-- in %o0 to the word behind the trap. A send is counted where its method is entered, or by the service.

-- so many values, the first of which is number k, to registers from one on
abbrev pub arguments_code : ℕ → ℕ → ℕ → ℕ → List Insn
arguments_code to locals k zero = []
arguments_code to locals k (suc n) = take to locals k ∷ arguments_code (to + 1) locals (k + 1) n

-- a receiver and so many values behind it: the activation's own one, with value number k as the first, or a stated one, which is number k
abbrev pub handed_code : Bool → ℕ → ℕ → ℕ → List Insn
handed_code true locals k n = move 8 24 ∷ arguments_code 9 locals k n
handed_code false locals k n = take 8 locals k ∷ arguments_code 9 locals (k + 1) n

-- a message to a stated receiver, and to the activation's own, by a service of this number
abbrev pub send_code : ℕ → ℕ → ℕ → ℕ → List Insn
send_code service locals k args = handed_code false locals k args ++ (Trap service ∷ [])

abbrev pub implied_code : ℕ → ℕ → ℕ → ℕ → List Insn
implied_code service locals k args = handed_code true locals k args ++ (Trap service ∷ [])

-- the answer is pended
abbrev pub answered_code : ℕ → ℕ → List Insn
answered_code locals k = pend 8 locals k ∷ []

-- Primitives. A service does them, which counts the step, with the handler, where there is one, behind the arguments; but for sums and
-- differences of integers that don't overflow.
abbrev pub is_sum : ℕ → ℕ → Bool
is_sum name args = nat_eq args 1 && (nat_eq name INT_ADD.0 || nat_eq name INT_SUB.0)

-- a tagged sum, or a tagged difference
abbrev pub sum_op : Bool → Op3
sum_op false = ops.TaddCc
sum_op true = ops.TsubCc

-- the sum of %o0 and %o1 goes to %o0, behind the trap, and is counted; where it overflows, or a word has a tag, both stay, and the service is asked for
abbrev pub summed_code : Bool → List Insn
summed_code less = Three (sum_op less) 1 8 (Reg 9) ∷ Branch false 7 (pos 5) ∷ nop ∷ move 8 1 ∷ Branch false 8 (pos 3) ∷ count ∷ Trap 3 ∷ []

abbrev pub sum_code : Bool → Bool → ℕ → ℕ → ℕ → List Insn
sum_code less implied locals k n = handed_code implied locals k n ++ summed_code less

-- a primitive with so many arguments, which with the handler are n values
abbrev pub primitive_code : ℕ → ℕ → Bool → ℕ → ℕ → ℕ → List Insn
primitive_code name args implied locals k n =
    if is_sum name args then sum_code (nat_eq name INT_SUB.0) implied locals k n else (handed_code implied locals k n ++ (Trap 3 ∷ []))

-- Answers. The value goes to the caller's %o0. A context's mark, its third word, is 0 from now on.
abbrev pub ended_context : Bool → List Insn
ended_context false = []
ended_context true = store 0 17 7 ∷ []

abbrev pub return_code : Bool → ℕ → ℕ → List Insn
return_code owns locals k =
    (take 24 locals k ∷ count ∷ Three ops.Sub 4 4 (Imm (pos 1)) ∷ ended_context owns)
    ++ (Three ops.Jmpl 0 31 (Imm (pos 8)) ∷ Three ops.Restore 0 0 (Reg 0) ∷ [])

-- a return from the home method, by a service
abbrev pub non_local_code : ℕ → ℕ → List Insn
non_local_code locals k = take 8 locals k ∷ Trap 4 ∷ []

-- Block literals. A block has four words: its map and the number of its body, both tagged, the reference to the context of its maker and the
-- word of its receiver. %g6 is where the free heap begins, %g3 the plain cost since the last service; word 1 of the control region has what was
-- left of the cost then.

-- service 8 where so much more cost isn't left
abbrev pub fits_code : ℕ → List Insn
fits_code words =
    Sethi 1 0xC0000 ∷ load 1 1 4 ∷ Three ops.Add 5 3 (Imm (pos words)) ∷ Three ops.SubCc 0 1 (Reg 5) ∷ Branch false 13 (pos 3) ∷ nop ∷ Trap 8 ∷ []

-- the reference to what begins at %g6, in a register
abbrev pub refer : ℕ → Insn
refer to = Three ops.Add to 6 (Imm (pos 1))

-- a block of the activation, with these words of its map and of the number of its body, is put at the heap's top, and pended over k values
abbrev pub made_code : ℕ → ℕ → ℕ → ℕ → List Insn
made_code locals k map body =
    set_word 1 map ++ (store 1 6 0 ∷ set_word 1 body ++ (store 1 6 4 ∷ store 17 6 8 ∷ store 24 6 12 ∷ refer 1 ∷ pend 1 locals k ∷ plus 6 16 ∷ plus 3 4 ∷ count ∷ []))

abbrev pub block_code : ℕ → ℕ → ℕ → ℕ → List Insn
block_code locals k map body = fits_code 4 ++ made_code locals k map body

-- Entering. A method is entered with the receiver in %o0, arguments from %o1 on, the return address in %o7, and in %g5 the method holder's
-- word, or 0 where that is the receiver. It makes its frame of so many bytes below the caller's, keeps the holder, the arguments and the
-- initial contents of its other locals, and counts the activation and the step.
abbrev pub frame_code : ℕ → List Insn
frame_code bytes = Three ops.Save 14 14 (Imm (negsuc (bytes - 1))) ∷ []

abbrev pub holder_code : List Insn
holder_code = Three ops.OrCc 0 5 (Imm (pos 0)) ∷ Branch true 1 (pos 2) ∷ move 5 24 ∷ []

abbrev pub argument_stores : ℕ → ℕ → ℕ → List Insn
argument_stores register slot zero = []
argument_stores register slot (suc n) = store register 14 (local_offset slot) ∷ argument_stores (register + 1) (slot + 1) n

abbrev pub initial_stores : ℕ → List ℕ → List Insn
initial_stores slot [] = []
initial_stores slot (w ∷ ws) = set_word 1 w ++ (store 1 14 (local_offset slot) ∷ initial_stores (slot + 1) ws)

abbrev pub kept_code : ℕ → List ℕ → List Insn
kept_code arguments initial =
    (store 5 14 holder_offset ∷ move 16 0 ∷ move 17 0 ∷ argument_stores 25 0 arguments) ++ (initial_stores arguments initial ++ (plus 4 1 ∷ count ∷ []))

abbrev pub method_code : ℕ → ℕ → List ℕ → List Insn
method_code bytes arguments initial = frame_code bytes ++ (holder_code ++ kept_code arguments initial)

-- A block is entered likewise, with the block in %o0: its words name the context of its maker, which goes to %l0, and its receiver; the holder is
-- in the frame that the context's mark names.
abbrev pub maker_code : List Insn
maker_code = load 16 24 7 ∷ load 5 16 7 ∷ load 5 5 holder_offset ∷ load 24 24 11 ∷ []

abbrev pub start_code : Bool → List Insn
start_code false = holder_code
start_code true = maker_code

-- a method has no maker
abbrev pub no_maker : Bool → List Insn
no_maker false = move 16 0 ∷ []
no_maker true = []

-- An activation with a context keeps nothing but the holder in its frame: the context is put at the heap's top. Its words are its map, tagged, the
-- maker's context, the mark, which is %sp, the receiver, the arguments and the initial contents.
abbrev pub cell_offset : ℕ → ℕ
cell_offset slot = 16 + 4 * slot

abbrev pub cell_arguments : ℕ → ℕ → ℕ → List Insn
cell_arguments register slot zero = []
cell_arguments register slot (suc n) = store register 6 (cell_offset slot) ∷ cell_arguments (register + 1) (slot + 1) n

abbrev pub cell_initials : ℕ → List ℕ → List Insn
cell_initials slot [] = []
cell_initials slot (w ∷ ws) = set_word 1 w ++ (store 1 6 (cell_offset slot) ∷ cell_initials (slot + 1) ws)

abbrev pub context_head : ℕ → List Insn
context_head map = set_word 1 map ++ (store 1 6 0 ∷ store 16 6 4 ∷ store 14 6 8 ∷ store 24 6 12 ∷ [])

-- a context of so many words stands there, and is the activation's own
abbrev pub context_end : ℕ → List Insn
context_end words = refer 17 ∷ plus 6 (4 * words) ∷ plus 3 words ∷ plus 4 1 ∷ count ∷ []

-- What is kept of the entry of an activation, by whether it has a context and is a block's.
abbrev pub kept_first : Bool → ℕ → ℕ → List Insn
kept_first false map arguments = move 17 0 ∷ argument_stores 25 0 arguments
kept_first true map arguments = context_head map ++ cell_arguments 25 0 arguments

abbrev pub kept_last : Bool → ℕ → List ℕ → List Insn
kept_last false arguments initial = initial_stores arguments initial ++ (plus 4 1 ∷ count ∷ [])
kept_last true arguments initial = cell_initials arguments initial ++ context_end (4 + arguments + length initial)

abbrev pub entry_kept : Bool → Bool → ℕ → ℕ → List ℕ → List Insn
entry_kept owns block map arguments initial = (store 5 14 holder_offset ∷ no_maker block ++ kept_first owns map arguments) ++ kept_last owns arguments initial

-- the words of an entry; those of a method without a context are `method_code`
abbrev pub entered_code : Bool → Bool → ℕ → ℕ → ℕ → List ℕ → List Insn
entered_code owns block bytes map arguments initial = frame_code bytes ++ (start_code block ++ entry_kept owns block map arguments initial)
