-- Data of assignable slots that are found stands in the heap.
use Rattle.std.proofs.Common.{◌≡◌, sym, ap, subst, ◌∙◌, ℕ, ◌+◌, ◌-◌, ◌*◌, ◌<◌, length, List, arith}
use Rattle.std.specs.Prelude.{Some, slice_get}
use Rattle.std.proofs.lemmas.Option.{slice_get_within}
use Rattle.self_terms.specs.declared.values.Value.TheVariants as values
use Rattle.object_maps.specs.declared.maps.SlotKind.TheVariants as kind
use Rattle.object_maps.specs.Layout.{map_at}
use Rattle.object_maps.specs.Slots.{slots_in}
use Rattle.slot_lookup.specs.declared.sends.Found.{Found}
use Rattle.slot_lookup.specs.declared.sends.Found.TheVariants.{One}
use Rattle.slot_lookup.specs.Lookup.{found_from, found_above, found_through, slot_at}
use Rattle.source_model.specs.Messages.{Met, Missing, Holds, meets, meets_above, meets_through, objects}
use Rattle.source_model.specs.Objects.{Object}
use Rattle.source_model.specs.State.{State}
use Rattle.source_model.specs.declared.objects.Content.TheVariants.{Constant, Assignable, Assignment, Parent, Method}
use Rattle.source_model.specs.declared.objects.Slot.{Slot}
use Rattle.source_model.specs.declared.objects.Thing.TheVariants.{Plain}
use Rattle.heap_cells.specs.Numbers.{word_in}
use Rattle.heap_cells.specs.Shapes.{Cell, Plain as PlainCell}
use Rattle.heap_cells.specs.Source.{fields}
use Rattle.heap_cells.specs.Standing.{RefersTo}
use Rattle.heap_cells.proofs.Fielding.{values_length, field_got}
use Rattle.heap_cells.proofs.Stepping.{map_of_cell, plain_cell}
use Rattle.frame_walk.specs.Raw.{Raw}
use Rattle.raw_steps.specs.Meeting.{IsMet}
use Rattle.raw_steps.specs.Sends.{word_beside}
use Rattle.raw_steps.specs.Slots.{Extends}
use Rattle.raw_steps.specs.Stands.{Sense, Stands}
use Rattle.raw_steps.proofs.Beginning.{own_extends, integer_extends, block_extends}
use Rattle.raw_steps.proofs.Finding.{object_meets, int_meets, block_meets, resend_meets, directed_meets}
use Rattle.raw_steps.proofs.Founds.{own_slot}
use Rattle.plain_answers.specs.Found.{Tells, OfValues, OfHolders, OfParents}
use Rattle.plain_lookups.proofs.Words.{InHeap}

place_inside : (r : Raw) (s : State) (z : Sense) → Stands z r s → (n w i at name : ℕ) (slots : List Slot) → slice_get z.places.objects n ≡ Some w → slice_get s.things n ≡ Some (Plain slots)
    → slice_get (slots_in r.maps (map_at r.mem w)) i ≡ Some (name, kind.Field at) → InHeap (w + 7 + 4 * at)
place_inside r s z S n w i at name slots at_n was field =
    let o = S.heap.means.object n w (Plain slots) at_n was in
    let tagged = o.there.0 in
    let c = plain_cell r.maps z.cells z.places n slots o.cell o.is in
    let cell : Cell = PlainCell n c.map c.words in
    let there : RefersTo z.cells w cell = (tagged, o.there.1 ∙ ap Some c.is) in
    let its_map = map_of_cell r.mem r.heap.top w z.cells cell S.heap.laid there in
    let f = field_got z.cells z.places 0 (slots_in r.maps c.map) slots i at name c.kinds (ap (λ q. slice_get (slots_in r.maps q) i) (sym its_map) ∙ field) in
    let same : f.place ≡ at = (let e = f.counted in omega arith) in
    let lt : at < length c.words = (let e = values_length z.cells z.places (fields slots) c.words c.holds in let within = slice_get_within (fields slots) f.place f.value f.held_there in omega arith) in
    let inside = S.heap.laid.inside (w - 1) cell there.1 in
    let end = S.heap.laid.end in
    let aligned = inside.aligned in
    let above = inside.above in
    let below = inside.below in
    let within = end.within in
    record { aligned = omega arith; above = omega arith; below = omega arith }

field_inside : (r : Raw) (s : State) (z : Sense) → Stands z r s → (objs : List Object) (word : ℕ → ℕ) → Extends s z objs word → (name : ℕ) (met : Met) (found : Found) → IsMet r z objs word name met found
    → (holder place : ℕ) → found ≡ One holder (kind.Field place) → InHeap (holder + 7 + 4 * place)
field_inside r s z S objs word ext name met found is holder place e = by_met met (subst (λ (q : Found). IsMet r z objs word name met q) e is)
  where
    by_met : (m : Met) → IsMet r z objs word name m (One holder (kind.Field place)) → InHeap (holder + 7 + 4 * place)
    by_met (Missing x) i = absurd i
    by_met (Holds o (Assignable v)) i =
        let own = own_slot r s z S objs word ext name o holder (kind.Field place) (Assignable v) i tt in
        place_inside r s z S o holder i.at place name own.slots own.there own.was i.in_map
    by_met (Holds o (Constant v)) i = absurd i.kind
    by_met (Holds o Assignment) i = absurd i.kind
    by_met (Holds o (Parent p)) i = absurd i.kind
    by_met (Holds o (Method b)) i = absurd i.kind

abbrev pub Inside : Tells
Inside z r s name found met = (holder place : ℕ) → found ≡ One holder (kind.Field place) → InHeap (holder + 7 + 4 * place)

pub values_inside : OfValues (λ v w. Inside)
values_inside z r s S core (values.Object n) w name room is enough = field_inside r s z S (objects s) (word_in z.places) (own_extends s z) name (meets s (values.Object n) name) (found_from r.maps r.mem room w name) (object_meets r s z S core name room n w is enough)
values_inside z r s S core (values.Int i) w name room is enough = field_inside r s z S _ (word_beside z w) (integer_extends r s z w S) name (meets s (values.Int i) name) (found_from r.maps r.mem room w name) (int_meets r s z S core name room w i is enough)
values_inside z r s S core (values.Block b maker) w name room is enough = field_inside r s z S _ (word_beside z w) (block_extends r s z w b S) name (meets s (values.Block b maker) name) (found_from r.maps r.mem room w name) (block_meets r s z S core name room w maker b is enough)

pub holders_inside : OfHolders Inside
holders_inside z r s S core n w name room at enough = field_inside r s z S (objects s) (word_in z.places) (own_extends s z) name (meets_above s n name) (found_above r.maps r.mem room w name) (resend_meets r s z S core name room n w at enough)

pub parents_inside : OfParents Inside
parents_inside z r s S core parent n w name room at enough = field_inside r s z S (objects s) (word_in z.places) (own_extends s z) name (meets_through s n parent name) (found_through r.maps r.mem room (slot_at r.maps r.mem parent w) name) (directed_meets r s z S core parent name room n w at enough)
