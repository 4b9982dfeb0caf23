-- The heap with a new map of an object, and with new strings.
use Rattle.std.proofs.Common.{◌≡◌, inl, inr, ℕ, zero, suc, ◌+◌, ◌-◌, ◌*◌, ◌/◌, ◌<◌, ◌≤◌, ap, sym, subst, refl, ◌∙◌, arith, List, [], ◌∷◌, ◌++◌, length, map, set, length-append}
use Rattle.std.specs.Prelude.{slice_get, Some}
use Rattle.std.proofs.lemmas.Bool.{cases_eq}
use Rattle.std.proofs.lemmas.List.{append_assoc, get_or_append_left, get_or-append-add}
use Rattle.std.proofs.lemmas.Option.{same_Some, none-some}
use Rattle.object_maps.specs.declared.layout.Heap.{Heap}
use Rattle.object_maps.specs.declared.maps.SlotKind.{SlotKind}
use Rattle.object_maps.specs.declared.maps.SlotKind.TheVariants as kind
use Rattle.object_maps.specs.Layout.{map_at}
use Rattle.object_maps.specs.Slots.{Slots, slots_in}
use Rattle.object_maps.specs.Sound.{HasListed}
use Rattle.source_model.specs.Objects.{Object, replaced, with_slots, changed_at}
use Rattle.source_model.specs.declared.objects.Content.{Content}
use Rattle.source_model.specs.declared.objects.Content.TheVariants.{Method}
use Rattle.source_model.specs.Canon.{Each}
use Rattle.source_model.proofs.Once.{to_apart}
use Rattle.sparc_store.specs.Words.{Words, word_at, with_word, Stored}
use Rattle.sparc_store.proofs.Placed.{stored_there}
use Rattle.heap_cells.specs.Shapes.{Cell, Plain, Text, size, map_in}
use Rattle.heap_cells.specs.Laying.{Cells}
use Rattle.heap_cells.specs.Source.{Thing, Slotted, Bytes, Made}
use Rattle.heap_cells.specs.Standing.{Places, RefersTo, AreBytes, AreKinds, Grows}
use Rattle.heap_cells.specs.Heaps.{IsHeap, After}
use Rattle.heap_cells.specs.Edits.{fixed_slot}
use Rattle.heap_cells.proofs.Cloned.{heap_on}
use Rattle.heap_cells.proofs.Editing.{after_new_map, after_map_changed}
use Rattle.heap_cells.proofs.Reading.{heap_sound}
use Rattle.heap_cells.proofs.Stepping.{plain_cell, map_of_cell, after_new_thing}
use Rattle.heap_cells.proofs.Told.{packed_in_length}
use Rattle.plain_edits.specs.Heaps.{with_kind, text_words, texts_words, text_references, AreTexts, heap_behind, HeapsFollowEdits}
use Rattle.plain_edits.proofs.Slots.{slot_at, parents_stay}

grows_on : (h new last : Cells) (p to end : Places) → Grows h new p to → Grows new last to end → Grows h last p end
grows_on h new last p to end g k = record {
  blocks = λ a map body context receiver e. k.blocks a map body context receiver (g.blocks a map body context receiver e);
  receivers = λ a word e. k.receivers a word (g.receivers a word e);
  objects = λ n word e. k.objects n word (g.objects n word e);
  contexts = λ y word e. k.contexts y word (g.contexts y word e);
}

grows_same : (h : Cells) (p : Places) → Grows h h p p
grows_same h p = record { blocks = λ a map body context receiver e. e; receivers = λ a word e. e; objects = λ n word e. e; contexts = λ y word e. e }

append_nil : {A : Type 0} (xs : List A) → xs ++ [] ≡ xs
append_nil [] = refl
append_nil (x ∷ xs) = ap (λ ys. x ∷ ys) (append_nil xs)

-- Maps more.

maps_more : (mem : Words) (heap : Heap) (h : Cells) (p : Places) (things : List Thing) (made : List Made) (more maps : List Slots) → Each (HasListed p.objects) more
    → IsHeap maps mem heap h p things made → IsHeap (maps ++ more) mem heap h p things made
maps_more mem heap h p things made [] maps listed is = subst (λ (q : List Slots). IsHeap q mem heap h p things made) (sym (append_nil maps)) is
maps_more mem heap h p things made (m ∷ more) maps listed is =
    subst (λ (q : List Slots). IsHeap q mem heap h p things made) (append_assoc maps (m ∷ []) more)
    (maps_more mem heap h p things made more (maps ++ m ∷ []) listed.1 (after_new_map maps mem heap h p things made m is listed.0))

-- Strings more.

text_size : (number : ℕ) (bytes : List ℕ) → size (Text number bytes) ≡ text_words bytes
text_size number bytes = omega (arith, packed_in_length ((length bytes + 3) / 4) bytes)

-- after the strings
texts_more : (maps : List Slots) (mem : Words) (made : List Made) → (strings : List (List ℕ)) (heap : Heap) (h : Cells) (p : Places) (things : List Thing) → IsHeap maps mem heap h p things made
    → Each AreBytes strings → AreTexts mem heap.top heap.next strings → heap.top + 4 * texts_words strings ≤ 0x20000000 + 46137344
    → After maps mem (heap_behind strings heap) h p (record p { objects = p.objects ++ text_references heap.top strings }) (things ++ map Bytes strings) made
texts_more maps mem made [] heap h p things is bytes texts room =
    let to : Places = record p { objects = p.objects ++ [] } in
    let same : p ≡ to = λ i. record { objects = sym (append_nil p.objects) i; contexts = p.contexts } in
    let none : heap ≡ heap_behind [] heap = λ i. record { top = (let e : heap.top ≡ heap.top + 4 * 0 = omega arith in e) i; next = (let e : heap.next ≡ heap.next + 0 = omega arith in e) i } in
    let P : Heap → Places → List Thing → Type 0 = λ x y z. After maps mem x h p y z made in
    subst (λ x. P x to (things ++ [])) none (subst (λ y. P heap y (things ++ [])) same (subst (λ z. P heap p z) (sym (append_nil things)) (record { cells = h; is = is; grows = grows_same h p })))
texts_more maps mem made (x ∷ xs) heap h p things is bytes texts room =
    let c : Cell = Text heap.next x in
    let long : size c ≡ text_words x = text_size heap.next x in
    let three = is.kinds in
    let one = after_new_thing maps mem heap h p things made is (Bytes x) c texts.0 (omega (arith, long, room)) (omega arith) tt (is.numbered, refl, bytes.0) in
    let then : Heap = record { top = heap.top + 4 * text_words x; next = heap.next + 1 } in
    let to : Places = record p { objects = p.objects ++ (heap.top + 1) ∷ [] } in
    let is_one : IsHeap maps mem then one.cells to (things ++ Bytes x ∷ []) made = subst (λ (n : ℕ). IsHeap maps mem (record { top = heap.top + 4 * n; next = heap.next + 1 }) one.cells to (things ++ Bytes x ∷ []) made) long one.is in
    let rest = texts_more maps mem made xs then one.cells to (things ++ Bytes x ∷ []) is_one bytes.1 texts.1 (omega (arith, room)) in
    let end : Places = record p { objects = p.objects ++ text_references heap.top (x ∷ xs) } in
    let places : record to { objects = to.objects ++ text_references then.top xs } ≡ end = λ i. record { objects = append_assoc p.objects ((heap.top + 1) ∷ []) (text_references then.top xs) i; contexts = p.contexts } in
    let heaps : heap_behind xs then ≡ heap_behind (x ∷ xs) heap =
    λ i. record { top = (let e : then.top + 4 * texts_words xs ≡ heap.top + 4 * (text_words x + texts_words xs) = omega arith in e) i; next = (let e : then.next + length xs ≡ heap.next + suc (length xs) = omega arith in e) i } in
    let all : (things ++ Bytes x ∷ []) ++ map Bytes xs ≡ things ++ map Bytes (x ∷ xs) = append_assoc things (Bytes x ∷ []) (map Bytes xs) in
    let P : Heap → Places → List Thing → Type 0 = λ a b d. IsHeap maps mem a rest.cells b d made in
    record {
      cells = rest.cells;
      is = subst (λ a. P a end (things ++ map Bytes (x ∷ xs))) heaps (subst (λ b. P (heap_behind xs then) b (things ++ map Bytes (x ∷ xs))) places (subst (λ d. P (heap_behind xs then) (record to { objects = to.objects ++ text_references then.top xs }) d) all rest.is));
      grows = subst (λ (b : Places). Grows h rest.cells p b) places (grows_on h one.cells rest.cells p to (record to { objects = to.objects ++ text_references then.top xs }) one.grows rest.grows);
    }

-- Objects.

-- an object is changed in front of others
changed_front : (f : Thing → Thing) (o : ℕ) (xs ys : List Thing) (x : Thing) → slice_get xs o ≡ Some x → changed_at f o (xs ++ ys) ≡ set xs o (f x) ++ ys
changed_front f o [] ys x e = absurd (none-some x e)
changed_front f zero (z ∷ xs) ys x e = ap (λ (y : Thing). f y ∷ xs ++ ys) (same_Some z x e)
changed_front f (suc o) (z ∷ xs) ys x e = ap (λ (zs : List Thing). z ∷ zs) (changed_front f o xs ys x e)

pub heaps_follow_edits : HeapsFollowEdits
heaps_follow_edits maps more mem new heap h p things made is whole o word name slots old b strings at was once method listed bytes e =
    let k : SlotKind = kind.Method b in
    let c : Content = Method b in
    let object = is.means.object o word (Slotted slots) at was in
    let cell = plain_cell maps h p o slots object.cell object.is in
    let refers : RefersTo h word (Plain o cell.map cell.words) = (object.there.0, object.there.1 ∙ ap Some cell.is) in
    let its_map : map_at mem word ≡ cell.map = map_of_cell mem heap.top word h (Plain o cell.map cell.words) is.laid refers in
    let ks = slots_in maps (map_at mem word) in
    let kinds : AreKinds h p 0 ks slots = subst (λ (m : ℕ). AreKinds h p 0 (slots_in maps m) slots) (sym its_map) cell.kinds in
    let found = slot_at h p name old k c 0 ks slots kinds (to_apart slots once) method in
    let own = with_kind name k ks in
    let all = maps ++ own ∷ more in
    let within : map_at mem word < length maps = subst (λ (m : ℕ). m < length maps) (sym its_map) (subst (λ (z : Cell). map_in z < length maps) cell.is (is.mapped (word - 1) object.cell object.there.1)) in
    let old_slots : slots_in all (map_at mem word) ≡ ks = get_or_append_left maps (own ∷ more) [] (map_at mem word) within in
    let new_slots : slots_in all (length maps) ≡ own = ap (slots_in all) (let none : length maps ≡ length maps + 0 = omega arith in none) ∙ get_or-append-add maps (own ∷ more) 0 [] in
    let many : length all ≡ length maps + suc (length more) = length-append maps (own ∷ more) in
    let own_listed : HasListed p.objects own = λ at n w there. is.rooted (map_at mem word) at n w (parents_stay name k ks at n w b refl there) in
    let with_maps : IsHeap all mem heap h p things made = maps_more mem heap h p things made (own ∷ more) maps (own_listed, listed) is in
    let number = length maps in
    let mid = with_word mem (word - 1) (4 * number) in
    let stored : Stored mem mid (word - 1) (4 * number) = stored_there mem (word - 1) (4 * number) whole ((heap_sound maps mem heap h p things made is).object o word at).first in
    let changed = after_map_changed all mem mid heap h p things made with_maps o word found.at name number slots (kind.Method old) k c at was (ap (λ (z : Slots). slice_get z found.at) old_slots ∙ found.in_map)
    (new_slots ∙ found.map_is ∙ ap (λ (z : Slots). set z found.at (name, k)) (sym old_slots)) (let three = is.kinds in omega arith) (omega (arith, many)) tt tt (λ m. refl) stored in
    let object_now : Thing = Slotted (set slots found.at (fixed_slot name c)) in
    let now = set things o object_now in
    let same_words : (a : ℕ) → 0x20000000 ≤ a → a < heap.top → word_at new a ≡ word_at mid a = λ a above below. elim (cases_eq a (word - 1)) [
      | inl here ↦ ap (word_at new) here ∙ e.mapped ∙ sym stored.put ∙ sym (ap (word_at mid) here)
      | inr ne ↦ e.others a ne (inl below) ∙ sym (stored.others a ne)
    ] in
    let on : IsHeap all new heap changed.cells p now made = heap_on all mid new heap changed.cells p now made changed.is same_words in
    let last = texts_more all new made strings heap changed.cells p now on bytes e.texts e.room in
    let to : Places = record p { objects = p.objects ++ text_references heap.top strings } in
    let things_are : now ++ map Bytes strings ≡ changed_at (with_slots (replaced name c)) o (things ++ map Bytes strings) =
    ap (λ (z : Object). set things o (Slotted z) ++ map Bytes strings) (sym found.slots_are) ∙ sym (changed_front (with_slots (replaced name c)) o things (map Bytes strings) (Slotted slots) was) in
    record {
      cells = last.cells;
      is = subst (λ (z : List Thing). IsHeap all new (heap_behind strings heap) last.cells to z made) things_are last.is;
      grows = grows_on h changed.cells last.cells p p to changed.grows last.grows;
    }
