-- The answer that a lookup over words gives, where it finds data.
use Rattle.std.specs.Prelude.{◌≡◌, ℕ, ◌+◌, ◌*◌, ◌≤◌, length, Option, Some, None, slice_get}
use Rattle.self_terms.specs.declared.values.Value.{Value}
use Rattle.object_maps.specs.declared.maps.SlotKind.TheVariants.{Constant, Parent, Field}
use Rattle.slot_lookup.specs.declared.sends.Found.{Found}
use Rattle.slot_lookup.specs.declared.sends.Found.TheVariants.{One}
use Rattle.slot_lookup.specs.Lookup.{found_from, found_above, found_through, slot_at}
use Rattle.sparc_store.specs.Words.{word_at}
use Rattle.source_model.specs.Messages.{meets, meets_above, meets_through}
use Rattle.source_model.specs.State.{State}
use Rattle.heap_cells.specs.Standing.{IsValue}
use Rattle.frame_walk.specs.Raw.{Raw}
use Rattle.raw_steps.specs.Meeting.{HasCore}
use Rattle.raw_steps.specs.Stands.{Sense, Stands}
use Rattle.plain_sends.specs.Sends.{IsData}

-- the word of the data that was found: that of a constant or a parent, or the holder's own of an assignable slot
abbrev pub data_word : Raw → Found → Option ℕ
data_word r (One holder (Constant w)) = Some w
data_word r (One holder (Parent w)) = Some w
data_word r (One holder (Field place)) = Some (word_at r.mem (holder + 7 + 4 * place))
data_word r _ = None

-- Where the lookup from a receiver's word finds data, that is what the message to the receiver meets, and its word.
abbrev pub ValuesAnswer : Type 0
ValuesAnswer = (z : Sense) (r : Raw) (s : State) → Stands z r s → HasCore r s z → (v : Value) (w word name room : ℕ) → IsValue z.cells z.places v w → length s.things ≤ room
    → data_word r (found_from r.maps r.mem room w name) ≡ Some word → IsData z (meets s v name) word

-- so for a resend and a directed resend, from the word of the method holder
abbrev pub HoldersAnswer : Type 0
HoldersAnswer = (z : Sense) (r : Raw) (s : State) → Stands z r s → HasCore r s z → (n w word name room : ℕ) → slice_get z.places.objects n ≡ Some w → length s.things ≤ room
    → data_word r (found_above r.maps r.mem room w name) ≡ Some word → IsData z (meets_above s n name) word

abbrev pub ParentsAnswer : Type 0
ParentsAnswer = (z : Sense) (r : Raw) (s : State) → Stands z r s → HasCore r s z → (parent n w word name room : ℕ) → slice_get z.places.objects n ≡ Some w → length s.things ≤ room
    → data_word r (found_through r.maps r.mem room (slot_at r.maps r.mem parent w) name) ≡ Some word → IsData z (meets_through s n parent name) word
