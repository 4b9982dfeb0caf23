-- What the frame in view shows before and after a node.
use Rattle.std.specs.Prelude.{◌≡◌, ◌⊎◌, ℕ, ◌+◌, ◌*◌, ◌<◌, ◌≤◌, Bool, true, List, [], ◌∷◌, ◌++◌, length, slice_index}
use Rattle.sparc_store.specs.Words.{Words, word_at, HasFrame, IsWithin}
use Rattle.sparc_store.specs.Windows.{kept, with_room, CanSave}
use Rattle.sparc_machine.specs.State.{MachineState, stack_of}
use Rattle.frame_walk.specs.Places.{Frame, shown, plain_descriptor}
use Rattle.plain_words.specs.Moves.{Moved, pended, HasRoom, Made, block_made, registers_from, given_maker, given_receiver, given_holder, Begun, begun_memory}

-- the frame in view, of a body at a node, with so many locals in it and so many pending values
abbrev pub viewed : MachineState → ℕ → ℕ → ℕ → ℕ → Frame
viewed m body node locals k = shown m.memory (kept m.regs) (m.regs 14) (plain_descriptor body node locals k)

-- memory changed in so many words from an address on alone
abbrev pub ChangedFrom : ℕ → ℕ → Words → Words → Type 0
ChangedFrom at words old new = (b : ℕ) → (b < at) ⊎ (at + 4 * words ≤ b) → word_at new b ≡ word_at old b

-- A word was pended over k values: the frame shows it in front of them, and shows all else as before; memory changed in the frame alone.
abbrev pub PendedShows : Type 0
PendedShows = (m to : MachineState) (p steps words locals k word : ℕ) → IsWithin m.memory → HasFrame (m.regs 14) words → 27 + locals + k < words
    → Moved m to p (pended m locals k word) steps
    → ((body node next : ℕ) → viewed to body next locals (k + 1) ≡ record (viewed m body node locals k) { next = next; pending = word ∷ (viewed m body node locals k).pending })
    × ChangedFrom (m.regs 14) words m.memory to.memory

-- Nothing was stored: the frame shows the older ones of its pending values, as many as are left.
abbrev pub LeftShows : Type 0
LeftShows = (m to : MachineState) (p steps locals k : ℕ) → Moved m to p m.memory steps
    → (body node next : ℕ) → viewed to body next locals k ≡ record (viewed m body node locals k) { next = next }

-- A block was made over k values: the frame shows the reference to it in front of them, and all else as before; its four words stand at the heap's
-- top, and memory changed there and in the frame alone.
abbrev pub MadeShows : Type 0
MadeShows = (m to : MachineState) (p words locals k map body : ℕ) → IsWithin m.memory → HasFrame (m.regs 14) words → 27 + locals + k < words → HasRoom (m.regs 6) 4
    → Made m to p 4 (block_made m locals k map body)
    → ((number node next : ℕ) → viewed to number next locals (k + 1) ≡ record (viewed m number node locals k) { next = next; pending = (m.regs 6 + 1) ∷ (viewed m number node locals k).pending })
    × ((j : ℕ) → j < 4 → word_at to.memory (m.regs 6 + 4 * j) ≡ slice_index (map ∷ body ∷ m.regs 17 ∷ m.regs 24 ∷ []) j)
    × ((b : ℕ) → (b < m.regs 14) ⊎ (m.regs 14 + 4 * words ≤ b) → (b < m.regs 6) ⊎ (m.regs 6 + 16 ≤ b) → word_at to.memory b ≡ word_at m.memory b)

-- An activation with a context has begun: its frame shows what it began with, the words of the context stand in the heap, and memory is otherwise
-- as SAVE left it, but for the frame.
abbrev pub BegunShows : Type 0
BegunShows = (block : Bool) (m to : MachineState) (p place words map arguments : ℕ) (initial : List ℕ) → IsWithin m.memory → CanSave (stack_of m) → HasFrame place words → 27 ≤ words
    → HasRoom (m.regs 6) (4 + (arguments + length initial)) → Begun true block m to p place (arguments + length initial) (begun_memory true block m place map arguments initial)
    → ((number : ℕ) → viewed to number 0 0 0 ≡ record { body = number; next = 0; receiver = given_receiver block m; holder = given_holder block m; outer = given_maker block m; context = m.regs 6 + 1; mark = place; locals = []; pending = [] })
    × ((j : ℕ) → j < 4 + (arguments + length initial) → word_at to.memory (m.regs 6 + 4 * j) ≡ slice_index (map ∷ given_maker block m ∷ place ∷ given_receiver block m ∷ (registers_from m.regs 9 arguments ++ initial)) j)
    × ((b : ℕ) → (b < place) ⊎ (place + 4 * words ≤ b) → (b < m.regs 6) ⊎ (m.regs 6 + 4 * (4 + (arguments + length initial)) ≤ b) → word_at to.memory b ≡ word_at (with_room m.memory (m.regs 30) m.older) b)
