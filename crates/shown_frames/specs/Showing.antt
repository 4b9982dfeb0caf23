-- What words show, where frames in words are those of an activity: values, and activations.
use Rattle.std.specs.Prelude.{ℕ, ◌+◌, ◌/◌, ◌%◌, ◌==◌, ◌&&◌, nat_le, Bool, true, false, if◌then◌else◌, List, [], ◌∷◌, length, map, reverse, is_some}
use Rattle.self_terms.specs.declared.bodies.Body.{Body}
use Rattle.self_terms.specs.Words.{int_of}
use Rattle.object_maps.specs.Layout.{map_at, number_at}
use Rattle.object_maps.specs.Slots.{Slots, slots_in, slot_named}
use Rattle.sparc_store.specs.Words.{Words, word_at}
use Rattle.source_model.specs.Soundness.{body_in, room}
use Rattle.session_text.specs.declared.lines.ShownValue.{ShownValue}
use Rattle.session_text.specs.declared.lines.ShownValue.TheVariants as shown
use Rattle.session_text.specs.declared.acts.ShownAct.{ShownAct}
use Rattle.frame_walk.specs.Places.{Frame}
use Rattle.shown_frames.specs.Listed.{words_up}

-- The position of the frame of a mark among these, the youngest first: counted from the oldest, which is 1; 0 where none has it. An activation
-- that has ended has the mark 0.
abbrev pub position_of : List Frame → ℕ → ℕ
position_of [] mark = 0
position_of (f ∷ older) mark = if f.mark == mark then length older + 1 else position_of older mark

abbrev pub position_at : List Frame → ℕ → ℕ
position_at frames mark = if mark == 0 then 0 else position_of frames mark

-- the mark of a context, by the reference to it
abbrev pub mark_at : Words → ℕ → ℕ
mark_at memory context = word_at memory (context + 7)

-- Whether a map is that of blocks. The maps 0, 1 and 2 are those of integers, strings and vectors; of the others those of blocks alone have a slot of the
-- name 0, which no text has.
abbrev pub is_block_map : List Slots → ℕ → Bool
is_block_map maps m = nat_le 3 m && is_some (slot_named 0 (slots_in maps m))

-- a reference to a block, or to an object
abbrev pub reference_shown : Bool → Words → List Frame → ℕ → ShownValue
reference_shown true memory frames word = shown.Block (record { 0 = word_at memory (word + 3) / 4 }) (position_at frames (mark_at memory (word_at memory (word + 7))))
reference_shown false memory frames word = shown.Object (number_at memory word)

-- a value, by its word
abbrev pub value_shown : List Slots → Words → List Frame → ℕ → ShownValue
value_shown maps memory frames word =
    if word % 4 == 0 then shown.Int (int_of word) else reference_shown (is_block_map maps (map_at memory word)) memory frames word

-- the position of a maker, by the reference to its context; 0 for a method
abbrev pub maker_shown : Words → List Frame → ℕ → ℕ
maker_shown memory frames outer = if outer == 0 then 0 else position_at frames (mark_at memory outer)

-- the words of an activation's arguments and locals: those of its frame, or of its context where it has one, for which its body tells how many
abbrev pub local_words : List Body → Words → Frame → List ℕ
local_words bodies memory f = if f.context == 0 then f.locals else words_up memory (f.context + 15) (room (body_in bodies f.body))

-- An activation, by its frame among those of its activity, the youngest first.
abbrev pub act_shown : List Slots → List Body → Words → List Frame → Frame → ShownAct
act_shown maps bodies memory frames f = record {
  body = record { 0 = f.body };
  next = f.next;
  receiver = value_shown maps memory frames f.receiver;
  holder = number_at memory f.holder;
  maker = maker_shown memory frames f.outer;
  locals = map (value_shown maps memory frames) (local_words bodies memory f);
  pending = map (value_shown maps memory frames) (reverse f.pending);
}

-- All of an activity, the oldest first.
abbrev pub acts_shown : List Slots → List Body → Words → List Frame → List ShownAct
acts_shown maps bodies memory frames = reverse (map (act_shown maps bodies memory frames) frames)
