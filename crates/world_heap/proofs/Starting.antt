-- The words of a world stand for its objects.
use Rattle.std.proofs.Common.{◌≡◌, ◌≢◌, inl, inr, refl, sym, ap, subst, ◌∙◌, ℕ, zero, suc, ◌+◌, ◌-◌, ◌*◌, ◌/◌, ◌%◌, ◌<◌, ◌≤◌, List, [], ◌∷◌, length, take, map, get_or, arith}
use Rattle.std.specs.Prelude.{Option, Some, None, slice_get, option_map, nat_eq}
use Rattle.std.specs.List.{cons_option}
use Rattle.std.proofs.lemmas.Bool.{cases_lt, cond-false, ne_eqb}
use Rattle.std.proofs.lemmas.List.{length-map, get_or_past}
use Rattle.std.proofs.lemmas.Option.{same_Some, none-some, slice_get_within, slice_get-map, get_or_from_slice_get}
use Rattle.self_terms.specs.declared.values.Value.{Value}
use Rattle.self_terms.specs.declared.values.Value.TheVariants as values
use Rattle.object_maps.specs.declared.maps.SlotKind.TheVariants as kind
use Rattle.object_maps.specs.Slots.{Slots, slots_in, slot_named}
use Rattle.sparc_store.specs.Words.{Words, word_at}
use Rattle.source_model.specs.declared.objects.Slot.{Slot}
use Rattle.source_model.specs.declared.objects.Content.{Content}
use Rattle.source_model.specs.declared.objects.Content.TheVariants.{Constant, Assignable, Assignment, Parent, Method}
use Rattle.source_model.specs.declared.objects.Thing.{Thing}
use Rattle.source_model.specs.declared.objects.Thing.TheVariants.{Plain as plain, Vector as vector, Text as string}
use Rattle.world_build.specs.Worlds.{World}
use Rattle.world_build.specs.Wholeness.{IsThere, HoldsThere, IsWhole}
use Rattle.world_heap.specs.Layout.{fields as built_fields, assignable_in, span as built_span, span_of, reference}
use Rattle.world_heap.specs.Kinds.{value_word, map_from, kind_of, behind as built_behind}
use Rattle.world_heap.specs.Images.{Image, kin}
use Rattle.world_heap.specs.Stands.{Stands, plains, map_number, word}
use Rattle.world_heap.specs.Heaps.{references_from, places, heap_of, HasHeap}
use Rattle.heap_cells.specs.Shapes.{Cell, Plain, Vector, Text, words_of, size, map_in}
use Rattle.heap_cells.specs.Laying.{Cells, cell_at, span, Holds, Laid}
use Rattle.heap_cells.specs.Source.{held, fields}
use Rattle.heap_cells.specs.Standing.{Places, IsValue, AreValues, IsKind, AreKinds, IsThing, IsObject, behind}
use Rattle.heap_cells.specs.Heaps.{IsTold, IsHeap}
use Rattle.heap_cells.specs.Numbers.{HasKin}
use Rattle.heap_cells.proofs.Told.{packed_in_length, packed_word}
use Rattle.heap_cells.proofs.Numbered.{got_if}
use Rattle.heap_cells.proofs.Rowing.{found_at, found, row_laid}
use Rattle.heap_cells.proofs.Reading.{heap_sound}
use Rattle.heap_cells.proofs.Looking.{lookup_renamed}

-- the cell of an object
abbrev cell_of : World → ℕ → Thing → Cell
cell_of w k (plain slots) = Plain k (map_number w k) (map (value_word w) (built_fields slots))
cell_of w k (vector items) = Vector k (map (value_word w) items)
cell_of w k (string text) = Text k text

abbrev cells_from : World → ℕ → List Thing → List Cell
cells_from w k [] = []
cells_from w k (x ∷ xs) = cell_of w k x ∷ cells_from w (k + 1) xs

-- the elements of the lists that go by number
cell_size : (w : World) (k : ℕ) (x : Thing) → size (cell_of w k x) ≡ built_span x
cell_size w k (plain slots) = let n = length-map (built_fields slots) (value_word w) in omega arith
cell_size w k (vector items) = let n = length-map items (value_word w) in omega arith
cell_size w k (string text) = let n = packed_in_length ((length text + 3) / 4) text in omega arith

cells_span : (w : World) (k j : ℕ) (xs : List Thing) → span (take j (cells_from w k xs)) ≡ span_of (take j xs)
cells_span w k zero xs = refl
cells_span w k (suc j) [] = refl
cells_span w k (suc j) (x ∷ xs) = let head = cell_size w k x in let rest = cells_span w (k + 1) j xs in omega arith

cells_span_all : (w : World) (k : ℕ) (xs : List Thing) → span (cells_from w k xs) ≡ span_of xs
cells_span_all w k [] = refl
cells_span_all w k (x ∷ xs) = let head = cell_size w k x in let rest = cells_span_all w (k + 1) xs in omega arith

record IsCellGot (w : World) (n : ℕ) (c : Cell) (o : Option Thing) : Type 0 where
  thing : Thing
  got : o ≡ Some thing
  is : c ≡ cell_of w n thing

cell_got : (w : World) (k j n : ℕ) (xs : List Thing) (c : Cell) → n ≡ k + j → slice_get (cells_from w k xs) j ≡ Some c → IsCellGot w n c (slice_get xs j)
cell_got w k j n [] c e is = absurd (none-some c is)
cell_got w k zero n (x ∷ xs) c e is = record { thing = x; got = refl; is = sym (same_Some (cell_of w k x) c is) ∙ ap (λ z. cell_of w z x) (let f : k ≡ n = omega arith in f) }
cell_got w k (suc j) n (x ∷ xs) c e is = cell_got w (k + 1) j n xs c (omega arith) is

cell_there : (w : World) (k j n : ℕ) (xs : List Thing) (x : Thing) → n ≡ k + j → slice_get xs j ≡ Some x → slice_get (cells_from w k xs) j ≡ Some (cell_of w n x)
cell_there w k j n [] x e is = absurd (none-some x is)
cell_there w k zero n (y ∷ xs) x e is = ap (λ z. Some (cell_of w k z)) (same_Some y x is) ∙ ap (λ z. Some (cell_of w z x)) (let f : k ≡ n = omega arith in f)
cell_there w k (suc j) n (y ∷ xs) x e is = cell_there w (k + 1) j n xs x (omega arith) is

reference_there : (w : World) (k j n : ℕ) (xs : List Thing) → n ≡ k + j → j < length xs → slice_get (references_from w k xs) j ≡ Some (reference w.things n)
reference_there w k j n [] e lt = absurd (omega arith)
reference_there w k zero n (x ∷ xs) e lt = ap (λ z. Some (reference w.things z)) (let f : k ≡ n = omega arith in f)
reference_there w k (suc j) n (x ∷ xs) e lt = reference_there w (k + 1) j n xs (omega arith) (omega arith)

references_length : (w : World) (k : ℕ) (xs : List Thing) → length (references_from w k xs) ≡ length xs
references_length w k [] = refl
references_length w k (x ∷ xs) = ap suc (references_length w (k + 1) xs)

-- objects of slots, by the numbers of their maps
plains_before : (xs : List Thing) (k : ℕ) (slots : List Slot) → slice_get xs k ≡ Some (plain slots) → plains (take k xs) < plains xs
plains_before [] k slots is = absurd (none-some (plain slots) is)
plains_before (plain ss ∷ xs) zero slots is = omega arith
plains_before (vector v ∷ xs) zero slots is = absurd (let e = same_Some (vector v) (plain slots) is in (cc))
plains_before (string t ∷ xs) zero slots is = absurd (let e = same_Some (string t) (plain slots) is in (cc))
plains_before (plain ss ∷ xs) (suc k) slots is = let more = plains_before xs k slots is in omega arith
plains_before (vector v ∷ xs) (suc k) slots is = plains_before xs k slots is
plains_before (string t ∷ xs) (suc k) slots is = plains_before xs k slots is

record IsNth (xs : List Thing) (m : ℕ) : Type 0 where
  number : ℕ
  slots : List Slot
  there : slice_get xs number ≡ Some (plain slots)
  before : plains (take number xs) ≡ m

nth_plain : (xs : List Thing) (m : ℕ) → m < plains xs → IsNth xs m
nth_plain [] m lt = absurd (omega arith)
nth_plain (plain ss ∷ xs) zero lt = record { number = 0; slots = ss; there = refl; before = refl }
nth_plain (plain ss ∷ xs) (suc m) lt = let r = nth_plain xs m (omega arith) in let b = r.before in record { number = suc r.number; slots = r.slots; there = r.there; before = omega arith }
nth_plain (vector v ∷ xs) m lt = let r = nth_plain xs m lt in record { number = suc r.number; slots = r.slots; there = r.there; before = r.before }
nth_plain (string t ∷ xs) m lt = let r = nth_plain xs m lt in record { number = suc r.number; slots = r.slots; there = r.there; before = r.before }

-- no slot has the name 0
unnamed : (w : World) (n : ℕ) (ss : List Slot) → ((k : ℕ) (s : Slot) → slice_get ss k ≡ Some s → s.name ≢ 0) → slot_named 0 (map_from w n ss) ≡ None
unnamed w n [] named = refl
unnamed w n (s ∷ ss) named =
    cond-false (nat_eq 0 s.name) _ _ (ne_eqb 0 s.name (λ e. named 0 s refl (sym e))) ∙ unnamed w (built_behind n s.content) ss (λ k t is. named (suc k) t is)

module _ (i : Image) (mem : Words) (stands : Stands i) (whole : IsWhole i.world) (held_words : Holds mem 0x20000000 i.words) (few : length i.words ≤ 1048576) where
  abbrev pub w : World
  w = i.world

  abbrev pub cells : List Cell
  cells = cells_from w 0 w.things

  abbrev pub h : Cells
  h = cell_at 0x20000000 cells

  abbrev pub p : Places
  p = places w

  abbrev pub IsGood : Content → Type 0
  IsGood c = HoldsThere (length w.things) c

  -- values
  object_start : (o : ℕ) → o < length w.things → slice_get p.objects o ≡ Some (reference w.things o)
  object_start o lt = reference_there w 0 o o w.things (omega arith) lt

  value_start : (v : Value) → IsThere (length w.things) v → IsValue h p v (value_word w v)
  value_start (values.Int z) there = (there, refl)
  value_start (values.Object o) there = object_start o there
  value_start (values.Block body maker) there = absurd there

  -- maps
  kind_start : (n : ℕ) (c : Content) → IsGood c → IsKind h p n (kind_of w n c) c
  kind_start n (Constant v) good = value_start v good
  kind_start n (Assignable v) good = refl
  kind_start n Assignment good = refl
  kind_start n (Parent o) good = object_start o good
  kind_start n (Method b) good = refl

  behind_same : (n : ℕ) (c : Content) → behind n c ≡ built_behind n c
  behind_same n (Constant v) = refl
  behind_same n (Assignable v) = refl
  behind_same n Assignment = refl
  behind_same n (Parent v) = refl
  behind_same n (Method b) = refl

  pub kinds_start : (n : ℕ) (ss : List Slot) → ((k : ℕ) (s : Slot) → slice_get ss k ≡ Some s → IsGood s.content) → AreKinds h p n (map_from w n ss) ss
  kinds_start n [] good = tt
  kinds_start n (s ∷ ss) good = (
    refl,
    kind_start n s.content (good 0 s refl),
    subst (λ (z : ℕ). AreKinds h p z (map_from w (built_behind n s.content) ss) ss) (sym (behind_same n s.content))
        (kinds_start (built_behind n s.content) ss (λ k t is. good (suc k) t is)),
  )

  -- words of assignable slots
  more_start : (c : Content) (vs ds : List Value) → IsGood c → AreValues h p vs (map (value_word w) ds)
      → AreValues h p (held c vs) (map (value_word w) (cons_option (assignable_in c) ds))
  more_start (Constant v) vs ds good are = are
  more_start (Assignable v) vs ds good are = (value_start v good, are)
  more_start Assignment vs ds good are = are
  more_start (Parent v) vs ds good are = are
  more_start (Method b) vs ds good are = are

  pub values_start : (ss : List Slot) → ((k : ℕ) (s : Slot) → slice_get ss k ≡ Some s → IsGood s.content) → AreValues h p (fields ss) (map (value_word w) (built_fields ss))
  values_start [] good = tt
  values_start (s ∷ ss) good = more_start s.content (fields ss) (built_fields ss) (good 0 s refl) (values_start ss (λ k t is. good (suc k) t is))

  -- memory has the words of an object
  word_there : (k j : ℕ) (x : Thing) → slice_get w.things k ≡ Some x → j < built_span x → word_at mem (0x20000000 + 4 * span_of (take k w.things) + 4 * j) ≡ word i k j
  word_there k j x is lt =
      let within = span_within w.things k x is in
      let all = stands.all in
      ap (word_at mem) (let e : 0x20000000 + 4 * span_of (take k w.things) + 4 * j ≡ 0x20000000 + 4 * (span_of (take k w.things) + j) = omega arith in e)
      ∙ held_words (span_of (take k w.things) + j) (omega arith)
    where
      span_within : (xs : List Thing) (k : ℕ) (x : Thing) → slice_get xs k ≡ Some x → span_of (take k xs) + built_span x ≤ span_of xs
      span_within [] k x is = absurd (none-some x is)
      span_within (y ∷ ys) zero x is = let same : built_span y ≡ built_span x = ap built_span (same_Some y x is) in omega arith
      span_within (y ∷ ys) (suc k) x is = let more = span_within ys k x is in omega arith

  cell_held : (k : ℕ) (x : Thing) → slice_get w.things k ≡ Some x → (j : ℕ) → j < size (cell_of w k x) → word i k j ≡ get_or (words_of (cell_of w k x)) j 0
  cell_held k (plain slots) is zero lt = (stands.objects k slots is).mapped
  cell_held k (plain slots) is (suc zero) lt = (stands.objects k slots is).numbered
  cell_held k (plain slots) is (suc (suc j)) lt =
      let inside : j < length (built_fields slots) = (let n = length-map (built_fields slots) (value_word w) in omega arith) in
      let v = got_if (built_fields slots) j inside in
      ap (word i k) (let e : suc (suc j) ≡ 2 + j = omega arith in e)
      ∙ (stands.objects k slots is).held j v.0 v.1
      ∙ sym (get_or_from_slice_get (map (value_word w) (built_fields slots)) j (value_word w v.0) 0 (slice_get-map (value_word w) (built_fields slots) j ∙ ap (option_map (value_word w)) v.1))
  cell_held k (vector items) is j lt = absurd (whole.things k (vector items) is)
  cell_held k (string text) is zero lt = (stands.strings k text is).mapped
  cell_held k (string text) is (suc zero) lt = (stands.strings k text is).numbered
  cell_held k (string text) is (suc (suc zero)) lt = (stands.strings k text is).size
  cell_held k (string text) is (suc (suc (suc j))) lt =
      let inside : j < (length text + 3) / 4 = (let n = packed_in_length ((length text + 3) / 4) text in omega arith) in
      ap (word i k) (let e : suc (suc (suc j)) ≡ 3 + j = omega arith in e)
      ∙ (stands.strings k text is).bytes j inside
      ∙ sym (packed_word ((length text + 3) / 4) text j inside)

  laid_start : Laid mem (0x20000000 + 4 * length i.words) h
  laid_start =
      let all = stands.all in
      let spans = cells_span_all w 0 w.things in
      row_laid mem (0x20000000 + 4 * length i.words) cells
      (λ k c is j lt.
      let got = cell_got w 0 k k w.things c (omega arith) is in
      let same : size (cell_of w k got.thing) ≡ size c = ap size (sym got.is) in
      let inside : j < built_span got.thing = (let n = cell_size w k got.thing in omega arith) in
      ap (λ z. word_at mem (0x20000000 + 4 * z + 4 * j)) (cells_span w 0 k w.things)
      ∙ word_there k j got.thing got.got inside
      ∙ cell_held k got.thing got.got j (omega arith)
      ∙ ap (λ z. get_or (words_of z) j 0) (sym got.is))
      (omega arith) (omega arith)

  good_slots : (k : ℕ) (slots : List Slot) → slice_get w.things k ≡ Some (plain slots) → (n : ℕ) (s : Slot) → slice_get slots n ≡ Some s → IsGood s.content
  good_slots k slots is n s at = (whole.things k (plain slots) is n s at).1

  thing_start : (n : ℕ) (x : Thing) → slice_get w.things n ≡ Some x → IsThing i.maps h p n x (cell_of w n x)
  thing_start n (plain slots) is = (
    refl,
    omega arith,
    subst (λ (z : Slots). AreKinds h p 0 z slots) (sym (stands.objects n slots is).described) (kinds_start 0 slots (good_slots n slots is)),
    values_start slots (good_slots n slots is),
  )
  thing_start n (vector items) is = absurd (whole.things n (vector items) is)
  thing_start n (string text) is = (refl, refl, whole.things n (string text) is)

  object_started : (n word : ℕ) (t : Thing) → slice_get p.objects n ≡ Some word → slice_get w.things n ≡ Some t → IsObject i.maps h p n word t
  object_started n word t at was =
      let lt : n < length w.things = (let l = slice_get_within p.objects n word at in let e = references_length w 0 w.things in omega arith) in
      let x = got_if w.things n lt in
      let same_thing : x.0 ≡ t = same_Some x.0 t (sym x.1 ∙ was) in
      let same_word : word ≡ 0x20000000 + 4 * span_of (take n w.things) + 1 = same_Some word (reference w.things n) (sym at ∙ object_start n lt) in
      let spans = cells_span w 0 n w.things in
      record {
        cell = cell_of w n x.0;
        there = (
          (let tag : word % 4 ≡ 1 = omega arith in tag),
          ap h (let e : word - 1 ≡ 0x20000000 + 4 * span (take n cells) = omega arith in e) ∙ found_at 0x20000000 cells n (cell_of w n x.0) (cell_there w 0 n n w.things x.0 (omega arith) x.1),
        );
        is = subst (λ (z : Thing). IsThing i.maps h p n z (cell_of w n x.0)) same_thing (thing_start n x.0 x.1);
      }

  mapped_start : (a : ℕ) (c : Cell) → h a ≡ Some c → map_in c < length i.maps
  mapped_start a c is =
      let f = found 0x20000000 cells a c is in
      let got = cell_got w 0 f.number f.number w.things c (omega arith) f.there in
      subst (λ (z : Cell). map_in z < length i.maps) (sym got.is) (of_thing f.number got.thing got.got)
    where
      of_thing : (k : ℕ) (x : Thing) → slice_get w.things k ≡ Some x → map_in (cell_of w k x) < length i.maps
      of_thing k (plain slots) at = let before = plains_before w.things k slots at in let each = stands.each in omega arith
      of_thing k (vector items) at = let each = stands.each in omega arith
      of_thing k (string text) at = let each = stands.each in omega arith

  -- parents in maps
  abbrev IsAnObject : ℕ → Type 0
  IsAnObject word = (number : ℕ) × (slice_get p.objects number ≡ Some word)

  kind_parent : (n word : ℕ) (c : Content) → IsGood c → kind_of w n c ≡ kind.Parent word → IsAnObject word
  kind_parent n word (Parent o) good is = (o, object_start o good ∙ ap Some (let e : reference w.things o ≡ word = (cc) in e))
  kind_parent n word (Constant v) good is = absurd (let e : ⊥ = (cc) in e)
  kind_parent n word (Assignable v) good is = absurd (let e : ⊥ = (cc) in e)
  kind_parent n word Assignment good is = absurd (let e : ⊥ = (cc) in e)
  kind_parent n word (Method b) good is = absurd (let e : ⊥ = (cc) in e)

  map_parent : (n at name word : ℕ) (ss : List Slot) → ((k : ℕ) (s : Slot) → slice_get ss k ≡ Some s → IsGood s.content)
      → slice_get (map_from w n ss) at ≡ Some (name, kind.Parent word) → IsAnObject word
  map_parent n at name word [] good is = absurd (none-some (name, kind.Parent word) is)
  map_parent n zero name word (s ∷ ss) good is = kind_parent n word s.content (good 0 s refl) (ap (λ z. z.1) (same_Some (s.name, kind_of w n s.content) (name, kind.Parent word) is))
  map_parent n (suc at) name word (s ∷ ss) good is = map_parent (built_behind n s.content) at name word ss (λ k t there. good (suc k) t there) is

  kin_parent : (traits at name word : ℕ) → traits < length w.things → slice_get (kin w traits) at ≡ Some (name, kind.Parent word) → IsAnObject word
  kin_parent traits zero name word lt is =
      let e : kind.Parent (reference w.things traits) ≡ kind.Parent word = ap (λ z. z.1) (same_Some (0, kind.Parent (reference w.things traits)) (name, kind.Parent word) is) in
      (traits, object_start traits lt ∙ ap Some (let f : reference w.things traits ≡ word = (cc) in f))
  kin_parent traits (suc at) name word lt is = absurd (none-some (name, kind.Parent word) is)

  rooted_start : (map at name word : ℕ) → slice_get (slots_in i.maps map) at ≡ Some (name, kind.Parent word) → IsAnObject word
  rooted_start zero at name word is = kin_parent w.core.integers at name word whole.core.integers (subst (λ (z : Slots). slice_get z at ≡ Some (name, kind.Parent word)) stands.integer is)
  rooted_start (suc zero) at name word is = kin_parent w.core.strings at name word whole.core.strings (subst (λ (z : Slots). slice_get z at ≡ Some (name, kind.Parent word)) stands.text is)
  rooted_start (suc (suc zero)) at name word is = kin_parent w.core.vectors at name word whole.core.vectors (subst (λ (z : Slots). slice_get z at ≡ Some (name, kind.Parent word)) stands.vector is)
  rooted_start (suc (suc (suc m))) at name word is = elim (cases_lt m (plains w.things)) [
    | inl lt ↦
        let r = nth_plain w.things m lt in
        let before = r.before in
        let same : map_number w r.number ≡ suc (suc (suc m)) = omega arith in
        map_parent 0 at name word r.slots (good_slots r.number r.slots r.there)
        (subst (λ (z : Slots). slice_get z at ≡ Some (name, kind.Parent word)) (ap (slots_in i.maps) (sym same) ∙ (stands.objects r.number r.slots r.there).described) is)
    | inr ge ↦
        let each = stands.each in
        absurd (none-some (name, kind.Parent word) (subst (λ (z : Slots). slice_get z at ≡ Some (name, kind.Parent word)) (get_or_past i.maps (suc (suc (suc m))) [] (omega arith)) is))
  ]

  -- the map of an object of slots has no slot of the name 0
  told_start : (a : ℕ) (c : Cell) → h a ≡ Some c → IsTold i.maps c
  told_start a c is =
      let f = found 0x20000000 cells a c is in
      let got = cell_got w 0 f.number f.number w.things c (omega arith) f.there in
      subst (λ (z : Cell). IsTold i.maps z) (sym got.is) (of_thing f.number got.thing got.got)
    where
      of_thing : (k : ℕ) (x : Thing) → slice_get w.things k ≡ Some x → IsTold i.maps (cell_of w k x)
      of_thing k (plain slots) at = ap (slot_named 0) (stands.objects k slots at).described ∙ unnamed w 0 slots (λ n s there. (whole.things k (plain slots) at n s there).0)
      of_thing k (vector items) at = tt
      of_thing k (string text) at = tt

  kin_start : (traits : ℕ) → traits < length w.things → AreKinds h p 0 (kin w traits) (record { name = 0; content = Parent traits } ∷ [])
  kin_start traits lt = (refl, object_start traits lt, tt)

  heap_start : IsHeap i.maps mem (heap_of i) h p w.things []
  heap_start = record {
    laid = laid_start;
    means = record {
      object = object_started;
      objects_all = references_length w 0 w.things;
      context = λ y word k at is. absurd (none-some word at);
      contexts_all = refl;
      apart = λ y z word at at_z tagged. absurd (none-some word at);
    };
    numbered = refl;
    kinds = let each = stands.each in omega arith;
    mapped = mapped_start;
    told = told_start;
    rooted = rooted_start;
  }

  kin_of_start : HasKin i.maps h p w.core.strings w.core.vectors
  kin_of_start = record {
    text = subst (λ (z : Slots). AreKinds h p 0 z (record { name = 0; content = Parent w.core.strings } ∷ [])) (sym stands.text) (kin_start w.core.strings whole.core.strings);
    vector = subst (λ (z : Slots). AreKinds h p 0 z (record { name = 0; content = Parent w.core.vectors } ∷ [])) (sym stands.vector) (kin_start w.core.vectors whole.core.vectors);
  }

  pub started : HasHeap i mem
  started = record {
    cells = h;
    is = heap_start;
    kin_of = kin_of_start;
    integers = subst (λ (z : Slots). AreKinds h p 0 z (record { name = 0; content = Parent w.core.integers } ∷ [])) (sym stands.integer) (kin_start w.core.integers whole.core.integers);
    sound = heap_sound i.maps mem (heap_of i) h p w.things [] heap_start;
    lookup = λ name levels n x at. lookup_renamed i.maps mem (heap_of i) h p w.things [] w.core.strings w.core.vectors heap_start kin_of_start name levels n x at;
  }
