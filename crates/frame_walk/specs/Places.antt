-- Where the values of an activation stand in its frame, and what a frame shows by a descriptor.
--
-- A frame begins at its register 14 (%sp). A window has the numbers 0 to 7 for its locals and 8 to 15 for its ins.
-- Hölzle 1994, section 6.3: a scope descriptor names the place of each value of a source activation at a program counter.
use Rattle.std.specs.Prelude.{ℕ, zero, suc, ◌+◌, ◌*◌, List, [], ◌∷◌, map}
use Rattle.sparc_store.specs.Words.{Words, word_at}

-- a register of the frame's window, a word of the frame so many bytes from where it begins on, or a constant
pub data Place : Type 0 where
  Register : ℕ → Place
  Slot : ℕ → Place
  Constant : ℕ → Place

-- What a program counter says of its frame: the body and the number of the next node of its activation, and where receiver, method
-- holder, the maker's context, the own context, the arguments and locals in their order and the pending values, the youngest first,
-- stand. Locals that a context keeps aren't named.
pub record Descriptor : Type 0 where
  pub body : ℕ
  pub node : ℕ
  pub receiver : Place
  pub holder : Place
  pub outer : Place
  pub context : Place
  pub locals : List Place
  pub pending : List Place

-- An activation in words: its body; the number of its next node; the words of receiver and holder; the reference to the context of its
-- maker, 0 for a method; that to its own context, 0 without one; the address of its frame; the words of its arguments and locals, where
-- it has no context; its pending words, the youngest first.
pub record Frame : Type 0 where
  pub body : ℕ
  pub next : ℕ
  pub receiver : ℕ
  pub holder : ℕ
  pub outer : ℕ
  pub context : ℕ
  pub mark : ℕ
  pub locals : List ℕ
  pub pending : List ℕ

-- the word at a place of the frame that begins at `sp` and has this window
abbrev pub word_in_place : Words → (ℕ → ℕ) → ℕ → Place → ℕ
word_in_place memory window sp (Register r) = window r
word_in_place memory window sp (Slot offset) = word_at memory (sp + offset)
word_in_place memory window sp (Constant word) = word

-- what the frame shows by a descriptor
abbrev pub shown : Words → (ℕ → ℕ) → ℕ → Descriptor → Frame
shown memory window sp d = record {
  body = d.body;
  next = d.node;
  receiver = word_in_place memory window sp d.receiver;
  holder = word_in_place memory window sp d.holder;
  outer = word_in_place memory window sp d.outer;
  context = word_in_place memory window sp d.context;
  mark = sp;
  locals = map (word_in_place memory window sp) d.locals;
  pending = map (word_in_place memory window sp) d.pending;
}

-- Plain code keeps the receiver in %i0, the maker's context in %l0 and the own context in %l1. The first 64 bytes of a frame hold its
-- window when it is saved, and the 40 above them are kept free. Then come the holder, the arguments and locals that no context keeps, and the
-- pending values, the oldest lowest.
abbrev pub holder_offset : ℕ
holder_offset = 104

abbrev pub local_offset : ℕ → ℕ
local_offset k = 108 + 4 * k

-- that of the pending value k, the oldest being number 0, over so many locals
abbrev pub pending_offset : ℕ → ℕ → ℕ
pending_offset locals k = 108 + 4 * locals + 4 * k

abbrev pub slots_from : ℕ → ℕ → List Place
slots_from offset zero = []
slots_from offset (suc n) = Slot offset ∷ slots_from (offset + 4) n

-- so many pending values, the youngest first
abbrev pub pending_places : ℕ → ℕ → List Place
pending_places locals zero = []
pending_places locals (suc k) = Slot (pending_offset locals k) ∷ pending_places locals k

-- a node of a body, with so many locals in the frame, over so many pending values
abbrev pub plain_descriptor : ℕ → ℕ → ℕ → ℕ → Descriptor
plain_descriptor body node locals pending = record {
  body = body;
  node = node;
  receiver = Register 8;
  holder = Slot holder_offset;
  outer = Register 0;
  context = Register 1;
  locals = slots_from (local_offset 0) locals;
  pending = pending_places locals pending;
}
