-- What own slots over words hold, and which data words are.
use Rattle.std.proofs.Common.{◌≡◌, refl, sym, ap, subst, ◌∙◌, ℕ, zero, suc, ◌+◌, ◌-◌, ◌*◌, ◌/◌, ◌%◌, ◌<◌, ◌≤◌, Bool, true, false, List, [], ◌∷◌, length, arith, nat_eq}
use Rattle.std.specs.Prelude.{ℤ, Option, Some, None, slice_get, ◌==◌, ◌&&◌, ◌||◌, is_none, cond, option_map}
use Rattle.std.proofs.lemmas.Bool.{cond-true, cond-false, eq-eqb, ne_eqb, le-leb, false≢true}
use Rattle.std.proofs.lemmas.Option.{slice_get_within}
use Rattle.self_terms.specs.declared.values.Value.{Value}
use Rattle.self_terms.specs.declared.values.Value.TheVariants as values
use Rattle.self_terms.specs.declared.values.BodyId.{BodyId}
use Rattle.self_terms.specs.declared.values.Datum.{Datum}
use Rattle.self_terms.specs.declared.values.Datum.TheVariants as datum
use Rattle.self_terms.specs.Words.{IsSmall, word_of, int_of}
use Rattle.source_model.specs.declared.objects.Slot.{Slot}
use Rattle.source_model.specs.declared.objects.Content.{Content}
use Rattle.source_model.specs.declared.objects.Content.TheVariants.{Constant, Assignable, Assignment, Parent, Method}
use Rattle.source_model.specs.Objects.{slot_named}
use Rattle.source_model.specs.Edits.{own_content, plain_slots, datum_at, thing_at}
use Rattle.source_model.specs.State.{State}
use Rattle.object_maps.specs.declared.layout.Heap.{Heap}
use Rattle.object_maps.specs.declared.maps.SlotKind.{SlotKind}
use Rattle.object_maps.specs.declared.maps.SlotKind.TheVariants as kind
use Rattle.object_maps.specs.Slots.{Slots, slots_in, slot_named as kind_named}
use Rattle.object_maps.specs.Layout.{map_at, number_at}
use Rattle.object_maps.specs.Sound.{IsValue as IsSoundValue}
use Rattle.sparc_store.specs.Words.{Words, word_at, HasWord}
use Rattle.heap_cells.specs.Shapes.{Cell, Plain, Vector, Text, Block, map_in}
use Rattle.heap_cells.specs.Laying.{Cells}
use Rattle.heap_cells.specs.Source.{Thing, Slotted, Elements, Bytes, fields, held, Made}
use Rattle.heap_cells.specs.Standing.{Places, RefersTo, IsValue, AreValues, IsKind, AreKinds, IsThing, behind}
use Rattle.heap_cells.specs.Heaps.{IsHeap, IsBlockMap, IsTold}
use Rattle.heap_cells.proofs.Fielding.{values_length, value_at}
use Rattle.heap_cells.proofs.Looking.{name_test}
use Rattle.heap_cells.proofs.Numbered.{got_if}
use Rattle.heap_cells.proofs.Stepping.{cell_word, map_of_cell}
use Rattle.heap_cells.proofs.Reading.{cell_has_word, integer_aligned, heap_sound, value_sound}
use Rattle.plain_paths.specs.declared.slots.OwnSlot.TheVariants as own
use Rattle.plain_paths.specs.Paths.{IsOfHeap, is_plain, plain_slot, held_by, own_at, object_datum, datum_of}
use Rattle.plain_paths.specs.Laws.{IsHeld}

module _ (h : Cells) (p : Places) where
  -- What a map says of a slot, where the assignable slots from the number n on hold these values.
  abbrev pub IsSaid : ℕ → List Value → SlotKind → Content → Type 0
  IsSaid n vs (kind.Constant w) (Constant v) = IsValue h p v w
  IsSaid n vs (kind.Field at) (Assignable v) = (place : ℕ) × (at ≡ n + place) × (slice_get vs place ≡ Some v)
  IsSaid n vs (kind.Assign at) Assignment = Unit {0}
  IsSaid n vs (kind.Parent w) (Parent o) = slice_get p.objects o ≡ Some w
  IsSaid n vs (kind.Method b) (Method c) = b ≡ c
  IsSaid n vs _ _ = ⊥

  abbrev pub AreSaid : ℕ → List Value → Option SlotKind → Option Slot → Type 0
  AreSaid n vs None None = Unit {0}
  AreSaid n vs (Some k) (Some x) = IsSaid n vs k x.content
  AreSaid n vs _ _ = ⊥

  first_said : (n : ℕ) (vs : List Value) (k : SlotKind) (c : Content) → IsKind h p n k c → IsSaid n (held c vs) k c
  first_said n vs (kind.Constant w) (Constant v) is = is
  first_said n vs (kind.Field at) (Assignable v) is = (0, (omega arith), refl)
  first_said n vs (kind.Assign at) Assignment is = tt
  first_said n vs (kind.Parent w) (Parent o) is = is
  first_said n vs (kind.Method b) (Method c) is = is
  first_said n vs _ _ is = absurd is

  behind_field : (n : ℕ) (u : Value) (vs : List Value) (k : SlotKind) (c : Content) → IsSaid (n + 1) vs k c → IsSaid n (u ∷ vs) k c
  behind_field n u vs (kind.Constant w) (Constant v) is = is
  behind_field n u vs (kind.Field at) (Assignable v) is = (suc is.0, (let e = is.1 in omega arith), is.2)
  behind_field n u vs (kind.Assign at) Assignment is = tt
  behind_field n u vs (kind.Parent w) (Parent o) is = is
  behind_field n u vs (kind.Method b) (Method c) is = is
  behind_field n u vs _ _ is = absurd is

  later_said : (n : ℕ) (vs : List Value) (c : Content) (k : Option SlotKind) (x : Option Slot) → AreSaid (behind n c) vs k x → AreSaid n (held c vs) k x
  later_said n vs (Constant v) k x is = is
  later_said n vs (Assignable v) None None is = tt
  later_said n vs (Assignable v) (Some k) (Some x) is = behind_field n v vs k x.content is
  later_said n vs (Assignable v) None (Some x) is = absurd is
  later_said n vs (Assignable v) (Some k) None is = absurd is
  later_said n vs Assignment k x is = is
  later_said n vs (Parent o) k x is = is
  later_said n vs (Method b) k x is = is

  -- what a map says of the slot of a name
  pub said : (name n : ℕ) (ks : Slots) (ss : List Slot) → AreKinds h p n ks ss → AreSaid n (fields ss) (kind_named name ks) (slot_named name ss)
  said name n [] [] are = tt
  said name n (k ∷ ks) (s ∷ ss) are =
      subst (λ (t : Bool). AreSaid n (fields (s ∷ ss)) (cond t (Some k.1) (kind_named name ks)) (cond (s.name == name) (Some s) (slot_named name ss))) (sym (name_test name k.0 s.name are.0))
      (by_test (s.name == name) (said name (behind n s.content) ks ss are.2))
    where
      by_test : (t : Bool) → AreSaid (behind n s.content) (fields ss) (kind_named name ks) (slot_named name ss)
          → AreSaid n (fields (s ∷ ss)) (cond t (Some k.1) (kind_named name ks)) (cond t (Some s) (slot_named name ss))
      by_test true rest = first_said n (fields ss) k.1 s.content are.1
      by_test false rest = later_said n (fields ss) s.content (kind_named name ks) (slot_named name ss) rest
  said name n [] (s ∷ ss) are = absurd are
  said name n (k ∷ ks) [] are = absurd are

  -- so it is held
  pub held_said : (mem : Words) (w : ℕ) (vs : List Value) → ((place : ℕ) (v : Value) → slice_get vs place ≡ Some v → IsValue h p v (word_at mem (w + 7 + 4 * place)))
      → (k : Option SlotKind) (x : Option Slot) → AreSaid 0 vs k x → IsHeld h p (option_map (λ (y : Slot). y.content) x) (held_by mem w k)
  held_said mem w vs read None None is = tt
  held_said mem w vs read (Some k) (Some x) is = by_kind k x.content is
    where
      by_kind : (k : SlotKind) (c : Content) → IsSaid 0 vs k c → IsHeld h p (Some c) (held_by mem w (Some k))
      by_kind (kind.Constant u) (Constant v) is = is
      by_kind (kind.Field at) (Assignable v) is = subst (λ (z : ℕ). IsValue h p v (word_at mem (w + 7 + 4 * z))) (let e : is.0 ≡ at = (let f = is.1 in omega arith) in e) (read is.0 v is.2)
      by_kind (kind.Assign at) Assignment is = tt
      by_kind (kind.Parent u) (Parent o) is = is
      by_kind (kind.Method b) (Method c) is = sym is
      by_kind _ _ is = absurd is
  held_said mem w vs read None (Some x) is = absurd is
  held_said mem w vs read (Some k) None is = absurd is

-- a block's map has a slot of the name 0
named_first : (e body traits : ℕ) → is_none (kind_named 0 ((e, kind.Method (record { 0 = body })) ∷ (0, kind.Parent traits) ∷ [])) ≡ false
named_first zero body traits = refl
named_first (suc e) body traits = ap (λ (z : Option SlotKind). is_none z) (cond-false (nat_eq 0 (suc e)) (Some (kind.Method (record { 0 = body }))) (Some (kind.Parent traits)) (ne_eqb 0 (suc e) (λ f. omega arith)))

block_map : (maps : List Slots) (map body : ℕ) → 3 ≤ map → IsBlockMap body (slots_in maps map) → is_plain maps map ≡ false
block_map maps map body high is =
    ap (λ b. b && is_none (kind_named 0 (slots_in maps map))) (le-leb 3 map high)
    ∙ subst (λ (z : Slots). is_none (kind_named 0 z) ≡ false) (sym is.are) (named_first is.evaluator body is.traits)

plain_map : (maps : List Slots) (map : ℕ) → 3 ≤ map → kind_named 0 (slots_in maps map) ≡ None → is_plain maps map ≡ true
plain_map maps map high told =
    ap (λ b. b && is_none (kind_named 0 (slots_in maps map))) (le-leb 3 map high)
    ∙ ap (λ (z : Option SlotKind). is_none z) told

-- the content of an own slot, over things
abbrev pub content_in : Option Thing → ℕ → Option Content
content_in t name = option_map (λ (x : Slot). x.content) (slot_named name (plain_slots t))

abbrev pub content_of : List Thing → Value → ℕ → Option Content
content_of things (values.Int i) name = None
content_of things (values.Object n) name = content_in (slice_get things n) name
content_of things (values.Block body maker) name = None

abbrev pub datum_in : ℕ → Option Thing → Option Datum
datum_in n (Some (Elements items)) = None
datum_in n (Some (Slotted slots)) = Some (datum.Object n)
datum_in n (Some (Bytes bytes)) = Some (datum.Object n)
datum_in n None = Some (datum.Object n)

-- the datum of a value, over things
abbrev pub datum_over : List Thing → Value → Option Datum
datum_over things (values.Int i) = Some (datum.Integer i)
datum_over things (values.Object n) = datum_in n (slice_get things n)
datum_over things (values.Block body maker) = None

pub same_content : (s : State) (v : Value) (name : ℕ) → own_content s v name ≡ content_of s.things v name
same_content s (values.Int i) name = refl
same_content s (values.Object n) name = refl
same_content s (values.Block body maker) name = refl

pub same_datum : (s : State) (v : Value) → datum_at s v (thing_at s v) ≡ datum_over s.things v
same_datum s (values.Int i) = refl
same_datum s (values.Object n) = by_thing (slice_get s.things n)
  where
    by_thing : (t : Option Thing) → datum_at s (values.Object n) t ≡ datum_in n t
    by_thing (Some (Elements items)) = refl
    by_thing (Some (Slotted slots)) = refl
    by_thing (Some (Bytes bytes)) = refl
    by_thing None = refl
same_datum s (values.Block body maker) = refl

-- an assignable slot's place among the values
field_place : (h : Cells) (p : Places) (vs : List Value) (at : ℕ) (x : Option Slot) → AreSaid h p 0 vs (Some (kind.Field at)) x → (v : Value) × (slice_get vs at ≡ Some v)
field_place h p vs at None is = absurd is
field_place h p vs at (Some x) is = by_content x.content is
  where
    by_content : (c : Content) → IsSaid h p 0 vs (kind.Field at) c → (v : Value) × (slice_get vs at ≡ Some v)
    by_content (Assignable v) is = (v, ap (slice_get vs) (let e : at ≡ is.0 = (let f = is.1 in omega arith) in e) ∙ is.2)
    by_content (Constant v) is = absurd is
    by_content Assignment is = absurd is
    by_content (Parent o) is = absurd is
    by_content (Method b) is = absurd is

-- a word that can be loaded
pub record IsHere (at : ℕ) : Type 0 where
  pub word : HasWord at
  pub below : at < 0x30000000

module _ (maps : List Slots) (mem : Words) (heap : Heap) (h : Cells) (p : Places) (things : List Thing) (made : List Made) (is : IsHeap maps mem heap h p things made) where
  integer_map : (i : ℤ) (w : ℕ) → IsValue h p (values.Int i) w → map_at mem w ≡ 0
  integer_map i w value = cond-true (nat_eq (w % 4) 0) 0 (word_at mem (w - 1) / 4) (eq-eqb (w % 4) 0 (ap (λ z. z % 4) value.1 ∙ integer_aligned i value.0))

  block_word : (body : BodyId) (maker w : ℕ) → IsValue h p (values.Block body maker) w → is_plain maps (map_at mem w) ≡ false
  block_word body maker w value =
      let c : Cell = Block value.map body.0 value.context value.receiver in
      let told : IsTold maps c = is.told (w - 1) c value.cell in
      ap (is_plain maps) (map_of_cell mem heap.top w h c is.laid (value.tagged, value.cell)) ∙ block_map maps value.map body.0 told.0 told.1

  -- the object of a number
  record IsSeen (n w : ℕ) : Type 0 where
    thing : Thing
    got : slice_get things n ≡ Some thing
    cell : Cell
    there : RefersTo h w cell
    is_thing : IsThing maps h p n thing cell
    told : IsTold maps cell
    map : map_at mem w ≡ map_in cell
    number : number_at mem w ≡ n

  seen : (n w : ℕ) → slice_get p.objects n ≡ Some w → IsSeen n w
  seen n w at =
      let t = got_if things n (let lt = slice_get_within p.objects n w at in let len = is.means.objects_all in omega arith) in
      let o = is.means.object n w t.0 at t.1 in
      let numbered = ((heap_sound maps mem heap h p things made is).object n w at).numbered in
      record {
        thing = t.0;
        got = t.1;
        cell = o.cell;
        there = o.there;
        is_thing = o.is;
        told = is.told (w - 1) o.cell o.there.1;
        map = map_of_cell mem heap.top w h o.cell is.laid o.there;
        number = (let e : number_at mem w ≡ n = omega arith in e);
      }

  field_word : (n w map place : ℕ) (words : List ℕ) (vs : List Value) (v : Value) → RefersTo h w (Plain n map words) → AreValues h p vs words → slice_get vs place ≡ Some v
      → IsValue h p v (word_at mem (w + 7 + 4 * place)) × IsHere (w + 7 + 4 * place)
  field_word n w map place words vs v there are at =
      let tagged = there.0 in
      let lt : place < length words = (let e = values_length h p vs words are in let within = slice_get_within vs place v at in omega arith) in
      let word = cell_word mem heap.top w (suc (suc place)) (w + 7 + 4 * place) h (Plain n map words) is.laid there (omega arith) (omega arith) in
      let i = is.laid.inside (w - 1) (Plain n map words) there.1 in
      let below = i.below in
      let above = i.above in
      let within = is.laid.end.within in (
        subst (λ (z : ℕ). IsValue h p v z) (sym word) (value_at h p vs words place v are at),
        record { word = cell_has_word mem heap.top w (suc (suc place)) (w + 7 + 4 * place) h (Plain n map words) is.laid there (omega arith) (omega arith); below = omega arith },
      )

  object_held : (n w name : ℕ) (t : Thing) (c : Cell) → RefersTo h w c → IsThing maps h p n t c → IsTold maps c → IsHeld h p (content_in (Some t) name) (held_by mem w (plain_slot maps (map_in c) name))
  object_held n w name (Slotted slots) (Plain number map words) there thing told =
      subst (λ (z : Option SlotKind). IsHeld h p (content_in (Some (Slotted slots)) name) (held_by mem w z))
      (sym (cond-true (is_plain maps map) (kind_named name (slots_in maps map)) None (plain_map maps map thing.1 told)))
      (held_said h p mem w (fields slots) (λ place v at. (field_word number w map place words (fields slots) v there thing.3 at).0)
      (kind_named name (slots_in maps map)) (slot_named name slots) (said h p name 0 (slots_in maps map) slots thing.2))
  object_held n w name (Elements items) (Vector number words) there thing told = tt
  object_held n w name (Bytes bytes) (Text number text) there thing told = tt
  object_held n w name _ _ there thing told = absurd thing

  pub value_held : (v : Value) (w name : ℕ) → IsValue h p v w → IsHeld h p (content_of things v name) (own_at maps mem w name)
  value_held (values.Int i) w name value = subst (λ (z : ℕ). IsHeld h p None (held_by mem w (plain_slot maps z name))) (sym (integer_map i w value)) tt
  value_held (values.Object n) w name value =
      let o = seen n w value in
      subst (λ (z : Option Thing). IsHeld h p (content_in z name) (own_at maps mem w name)) (sym o.got)
      (subst (λ (z : ℕ). IsHeld h p (content_in (Some o.thing) name) (held_by mem w (plain_slot maps z name))) (sym o.map) (object_held n w name o.thing o.cell o.there o.is_thing o.told))
  value_held (values.Block body maker) w name value =
      subst (λ (z : Option SlotKind). IsHeld h p None (held_by mem w z)) (sym (cond-false (is_plain maps (map_at mem w)) (kind_named name (slots_in maps (map_at mem w))) None (block_word body maker w value))) tt

  -- nothing but an object has an own slot
  pub value_numbered : (v : Value) (w name : ℕ) → IsValue h p v w → (own_at maps mem w name ≡ own.Missing → ⊥) → v ≡ values.Object (number_at mem w)
  value_numbered (values.Int i) w name value there = absurd (there (ap (λ z. held_by mem w (plain_slot maps z name)) (integer_map i w value)))
  value_numbered (values.Object n) w name value there = ap (λ z. values.Object z) (sym (seen n w value).number)
  value_numbered (values.Block body maker) w name value there =
      absurd (there (ap (held_by mem w) (cond-false (is_plain maps (map_at mem w)) (kind_named name (slots_in maps (map_at mem w))) None (block_word body maker w value))))

  object_said : (n : ℕ) (t : Thing) (c : Cell) → IsThing maps h p n t c → IsTold maps c → object_datum maps (map_in c) n ≡ datum_in n (Some t)
  object_said n (Slotted slots) (Plain number map words) thing told =
      ap (λ b. cond (b || is_plain maps map) (Some (datum.Object n)) None) (ne_eqb map 1 (λ e. let high = thing.1 in omega arith))
      ∙ ap (λ b. cond b (Some (datum.Object n)) None) (plain_map maps map thing.1 told)
  object_said n (Elements items) (Vector number words) thing told = refl
  object_said n (Bytes bytes) (Text number text) thing told = refl
  object_said n _ _ thing told = absurd thing

  reference_datum : (w : ℕ) → w % 4 ≡ 1 → datum_of maps mem w ≡ object_datum maps (map_at mem w) (number_at mem w)
  reference_datum w tagged = cond-false (nat_eq (w % 4) 0) (Some (datum.Integer (int_of w))) (object_datum maps (map_at mem w) (number_at mem w)) (ne_eqb (w % 4) 0 (λ e. omega arith))

  pub value_datum : ((i : ℤ) → IsSmall i → int_of (word_of i) ≡ i) → (v : Value) (w : ℕ) → IsValue h p v w → datum_over things v ≡ datum_of maps mem w
  value_datum back (values.Int i) w value =
      sym (cond-true (nat_eq (w % 4) 0) (Some (datum.Integer (int_of w))) (object_datum maps (map_at mem w) (number_at mem w)) (eq-eqb (w % 4) 0 (ap (λ z. z % 4) value.1 ∙ integer_aligned i value.0))
      ∙ ap (λ z. Some (datum.Integer z)) (ap int_of value.1 ∙ back i value.0))
  value_datum back (values.Object n) w value =
      let o = seen n w value in
      sym (reference_datum w o.there.0 ∙ ap (object_datum maps (map_at mem w)) o.number ∙ ap (λ z. object_datum maps z n) o.map
      ∙ object_said n o.thing o.cell o.is_thing o.told ∙ ap (datum_in n) (sym o.got))
  value_datum back (values.Block body maker) w value =
      let c : Cell = Block value.map body.0 value.context value.receiver in
      let told : IsTold maps c = is.told (w - 1) c value.cell in
      let high = told.0 in
      let map = map_of_cell mem heap.top w h c is.laid (value.tagged, value.cell) in
      sym (reference_datum w value.tagged
      ∙ ap (λ b. cond (b || is_plain maps (map_at mem w)) (Some (datum.Object (number_at mem w))) None) (ne_eqb (map_at mem w) 1 (λ e. omega arith))
      ∙ ap (λ b. cond b (Some (datum.Object (number_at mem w))) None) (block_word body maker w value))

  -- the word of an assignable slot can be loaded
  object_here : (n w name at : ℕ) (t : Thing) (c : Cell) → RefersTo h w c → IsThing maps h p n t c → is_plain maps (map_in c) ≡ true → kind_named name (slots_in maps (map_in c)) ≡ Some (kind.Field at) → IsHere (w + 7 + 4 * at)
  object_here n w name at (Slotted slots) (Plain number map words) there thing plain named =
      let f = field_place h p (fields slots) at (slot_named name slots) (subst (λ (z : Option SlotKind). AreSaid h p 0 (fields slots) z (slot_named name slots)) named (said h p name 0 (slots_in maps map) slots thing.2)) in
      (field_word number w map at words (fields slots) f.0 there thing.3 f.1).1
  object_here n w name at (Elements items) (Vector number words) there thing plain named = absurd (false≢true plain)
  object_here n w name at (Bytes bytes) (Text number text) there thing plain named = absurd (false≢true plain)
  object_here n w name at _ _ there thing plain named = absurd thing

  field_here : (v : Value) (w name at : ℕ) → IsValue h p v w → is_plain maps (map_at mem w) ≡ true → kind_named name (slots_in maps (map_at mem w)) ≡ Some (kind.Field at) → IsHere (w + 7 + 4 * at)
  field_here (values.Int i) w name at value plain named = absurd (false≢true (sym (ap (is_plain maps) (integer_map i w value)) ∙ plain))
  field_here (values.Object n) w name at value plain named =
      let o = seen n w value in
      object_here n w name at o.thing o.cell o.there o.is_thing (ap (is_plain maps) (sym o.map) ∙ plain) (ap (λ z. kind_named name (slots_in maps z)) (sym o.map) ∙ named)
  field_here (values.Block body maker) w name at value plain named = absurd (false≢true (sym (block_word body maker w value) ∙ plain))

  second_here : (v : Value) (w : ℕ) → IsValue h p v w → (w % 4 ≡ 0 → ⊥) → HasWord (w + 3)
  second_here (values.Int i) w value reference = absurd (reference (ap (λ z. z % 4) value.1 ∙ integer_aligned i value.0))
  second_here (values.Object n) w value reference = ((heap_sound maps mem heap h p things made is).object n w value).second
  second_here (values.Block body maker) w value reference =
      let tagged = value.tagged in
      cell_has_word mem heap.top w 1 (w + 3) h (Block value.map body.0 value.context value.receiver) is.laid (value.tagged, value.cell) (omega arith) (omega arith)

-- A word of a heap may be looked up; its second word can be loaded where it is a reference, and the word of an assignable slot.
pub sound : (maps : List Slots) (mem : Words) (w : ℕ) → IsOfHeap maps mem w → IsSoundValue maps mem w
sound maps mem w o = value_sound maps mem o.heap o.cells o.places o.things o.made o.is o.value w o.stands

pub numbered_here : (maps : List Slots) (mem : Words) (w : ℕ) → IsOfHeap maps mem w → (w % 4 ≡ 0 → ⊥) → HasWord (w + 3)
numbered_here maps mem w o reference = second_here maps mem o.heap o.cells o.places o.things o.made o.is o.value w o.stands reference

pub data_here : (maps : List Slots) (mem : Words) (w name at : ℕ) → IsOfHeap maps mem w → is_plain maps (map_at mem w) ≡ true → kind_named name (slots_in maps (map_at mem w)) ≡ Some (kind.Field at) → IsHere (w + 7 + 4 * at)
data_here maps mem w name at o plain named = field_here maps mem o.heap o.cells o.places o.things o.made o.is o.value w name at o.stands plain named
