-- Data that a lookup over words finds is what the message meets.
use Rattle.std.proofs.Common.{◌≡◌, ℕ, subst}
use Rattle.std.specs.Prelude.{List, Some}
use Rattle.self_terms.specs.declared.values.Value.TheVariants as values
use Rattle.object_maps.specs.declared.maps.SlotKind.TheVariants.{Constant, Parent, Field}
use Rattle.slot_lookup.specs.declared.sends.Found.{Found}
use Rattle.slot_lookup.specs.declared.sends.Found.TheVariants.{One}
use Rattle.slot_lookup.specs.Lookup.{found_from, found_above, found_through, slot_at}
use Rattle.source_model.specs.Messages.{Met, meets, meets_above, meets_through, objects}
use Rattle.source_model.specs.Objects.{Object}
use Rattle.source_model.specs.State.{State}
use Rattle.heap_cells.specs.Numbers.{word_in}
use Rattle.frame_walk.specs.Raw.{Raw}
use Rattle.raw_steps.specs.Meeting.{IsMet}
use Rattle.raw_steps.specs.Sends.{word_beside}
use Rattle.raw_steps.specs.Slots.{Extends}
use Rattle.raw_steps.specs.Stands.{Sense, Stands}
use Rattle.raw_steps.proofs.Finding.{object_meets, int_meets, block_meets, resend_meets, directed_meets}
use Rattle.raw_steps.proofs.Founds.{constant_met, parent_met, field_met}
use Rattle.raw_steps.proofs.Beginning.{own_extends, integer_extends, block_extends}
use Rattle.plain_runs.proofs.Located.{some_is}
use Rattle.plain_sends.specs.Found.{data_word, ValuesAnswer, HoldersAnswer, ParentsAnswer}
use Rattle.plain_sends.specs.Sends.{IsData, OfConstant, OfField, OfParent}

data_met : (r : Raw) (s : State) (z : Sense) → Stands z r s → (objs : List Object) (word : ℕ → ℕ) → Extends s z objs word → (name : ℕ) (met : Met) (found : Found) → IsMet r z objs word name met found → (x : ℕ) → data_word r found ≡ Some x → IsData z met x
data_met r s z S objs word ext name met (One holder (Constant w)) is x e =
    let g = constant_met r s z S objs word ext name met holder w is in
    let P : ℕ → Type 0 = IsData z met in
    subst P (some_is w x e) (OfConstant g.0 g.1.0 g.1.1.0 g.1.1.1)
data_met r s z S objs word ext name met (One holder (Parent w)) is x e =
    let g = parent_met r s z S objs word ext name met holder w is in
    let P : ℕ → Type 0 = IsData z met in
    subst P (some_is w x e) (OfParent g.0 g.1.0 g.1.1.0 g.1.1.1)
data_met r s z S objs word ext name met (One holder (Field place)) is x e =
    let g = field_met r s z S objs word ext name met holder place is in
    let P : ℕ → Type 0 = IsData z met in
    subst P (some_is _ x e) (OfField g.0 g.1.0 g.1.1.0 g.1.1.1)
data_met r s z S objs word ext name met _ is x e = absurd (cc)

pub values_answer : ValuesAnswer
values_answer z r s S core (values.Object n) w word name room is enough e =
    data_met r s z S (objects s) (word_in z.places) (own_extends s z) name (meets s (values.Object n) name) (found_from r.maps r.mem room w name) (object_meets r s z S core name room n w is enough) word e
values_answer z r s S core (values.Int i) w word name room is enough e =
    data_met r s z S _ (word_beside z w) (integer_extends r s z w S) name (meets s (values.Int i) name) (found_from r.maps r.mem room w name) (int_meets r s z S core name room w i is enough) word e
values_answer z r s S core (values.Block b maker) w word name room is enough e =
    data_met r s z S _ (word_beside z w) (block_extends r s z w b S) name (meets s (values.Block b maker) name) (found_from r.maps r.mem room w name) (block_meets r s z S core name room w maker b is enough) word e

pub holders_answer : HoldersAnswer
holders_answer z r s S core n w word name room at enough e =
    data_met r s z S (objects s) (word_in z.places) (own_extends s z) name (meets_above s n name) (found_above r.maps r.mem room w name) (resend_meets r s z S core name room n w at enough) word e

pub parents_answer : ParentsAnswer
parents_answer z r s S core parent n w word name room at enough e =
    data_met r s z S (objects s) (word_in z.places) (own_extends s z) name (meets_through s n parent name) (found_through r.maps r.mem room (slot_at r.maps r.mem parent w) name) (directed_meets r s z S core parent name room n w at enough) word e
