-- What the word of a value shows.
use Rattle.std.proofs.Common.{◌≡◌, ℕ, zero, suc, ◌+◌, ◌-◌, ◌*◌, ◌/◌, ◌%◌, ◌^◌, ◌≤◌, refl, ap, sym, subst, ◌∙◌, Bool, true, false, ◌&&◌, arith}
use Rattle.std.specs.Prelude.{List, [], ◌∷◌, Option, Some, map, is_some, slice_get, unwrap_or, nat_eq, nat_lt, nat_le, if◌then◌else◌, ℤ, pos, negsuc}
use Rattle.std.proofs.lemmas.Bool.{eq-eqb, ne_eqb, cond-true, cond-false, lt-ltb, le-ltb, le-leb}
use Rattle.std.proofs.lemmas.Option.{slice_get_within}
use Rattle.self_terms.specs.Words.{IsSmall, word_of, int_of}
use Rattle.self_terms.specs.declared.values.Value.{Value}
use Rattle.self_terms.specs.declared.values.Value.TheVariants as values
use Rattle.object_maps.specs.declared.layout.Heap.{Heap}
use Rattle.object_maps.specs.declared.maps.SlotKind.TheVariants as kind
use Rattle.object_maps.specs.Layout.{map_at, number_at}
use Rattle.object_maps.specs.Slots.{Slots, slots_in, slot_named}
use Rattle.sparc_store.specs.Words.{Words as Store, word_at}
use Rattle.source_model.specs.State.{Activation, Activity, Running, State}
use Rattle.source_model.specs.Lines.{position_in}
use Rattle.heap_cells.specs.Shapes.{Cell, Plain, Vector, Text, Block, map_in}
use Rattle.heap_cells.specs.Laying.{Cells, Laid}
use Rattle.heap_cells.specs.Source.{Thing, Slotted, Elements, Bytes, Made, Plain as without, Ended, Live}
use Rattle.heap_cells.specs.Standing.{Places, RefersTo, IsThing, IsValue, AreValues}
use Rattle.heap_cells.specs.Heaps.{IsHeap, IsBlockMap, IsTold}
use Rattle.heap_cells.proofs.Numbered.{got_if}
use Rattle.heap_cells.proofs.Stepping.{map_of_cell}
use Rattle.heap_cells.proofs.Reading.{heap_sound, integer_aligned, read_block, read_ended, read_context}
use Rattle.frame_walk.specs.Places.{Frame}
use Rattle.frame_walk.specs.Raw.{Raw, Thread, Going}
use Rattle.raw_steps.specs.Stands.{Sense, IsActivity, AreActivations, makes_blocks}
use Rattle.session_text.specs.declared.lines.ShownValue.TheVariants as shown
use Rattle.session_text.specs.Values.{as_shown}
use Rattle.shown_frames.specs.Showing.{position_of, position_at, mark_at, is_block_map, reference_shown, value_shown}
use Rattle.shown_frames.specs.Standing.{HasHeap, AreOf, EndedShow}
use Rattle.shown_frames.proofs.Marks.{none_ended, marks_place}

integer_back : (i : ℤ) → IsSmall i → int_of (word_of i) ≡ i
integer_back (pos n) small =
    cond-true (nat_lt (4 * n) (2 ^ 31)) (pos (4 * n / 4)) (negsuc ((2 ^ 32 - 1 - 4 * n) / 4)) (lt-ltb (4 * n) (2 ^ 31) (omega arith))
    ∙ ap pos (let e : 4 * n / 4 ≡ n = omega arith in e)
integer_back (negsuc n) small =
    let w = 2 ^ 32 - 4 * (n + 1) in
    cond-false (nat_lt w (2 ^ 31)) (pos (w / 4)) (negsuc ((2 ^ 32 - 1 - w) / 4)) (le-ltb w (2 ^ 31) (omega arith))
    ∙ ap negsuc (let e : (2 ^ 32 - 1 - w) / 4 ≡ n = omega arith in e)

-- a memory that has the words of a heap holds what that holds
pub laid_over : (mem memory : Store) (top : ℕ) (h : Cells) → Laid mem top h → HasHeap memory mem → Laid memory top h
laid_over mem memory top h laid has = record {
  held = λ a c at k lt.
      (let i = laid.inside a c at in
      let end = laid.end in
      let above = i.above in
      let below = i.below in
      let within = end.within in
      has (a + 4 * k) (omega arith) (omega arith) ∙ laid.held a c at k lt);
  inside = laid.inside;
  apart = laid.apart;
  end = laid.end;
  row = laid.row;
}

pub heap_over : (maps : List Slots) (mem memory : Store) (heap : Heap) (h : Cells) (p : Places) (objects : List Thing) (made : List Made) → IsHeap maps mem heap h p objects made → HasHeap memory mem
    → IsHeap maps memory heap h p objects made
heap_over maps mem memory heap h p objects made is has = record {
  laid = laid_over mem memory heap.top h is.laid has;
  means = is.means;
  numbered = is.numbered;
  kinds = is.kinds;
  mapped = is.mapped;
  told = is.told;
  rooted = is.rooted;
}

and_none : (b : Bool) → (b && false) ≡ false
and_none true = refl
and_none false = refl

-- the map of a block has a slot of the name 0
first_some : (e body traits : ℕ) → is_some (slot_named 0 ((e, kind.Method (record { 0 = body })) ∷ (0, kind.Parent traits) ∷ [])) ≡ true
first_some zero body traits = refl
first_some (suc e) body traits = ap is_some (cond-false (nat_eq 0 (suc e)) (Some (kind.Method (record { 0 = body }))) (Some (kind.Parent traits)) (ne_eqb 0 (suc e) (λ f. omega arith)))

block_map : (maps : List Slots) (m body : ℕ) → 3 ≤ m → IsBlockMap body (slots_in maps m) → is_block_map maps m ≡ true
block_map maps m body high is =
    ap (λ b. b && is_some (slot_named 0 (slots_in maps m))) (le-leb 3 m high)
    ∙ ap (λ (ks : Slots). is_some (slot_named 0 ks)) is.are ∙ first_some is.evaluator body is.traits

thing_map : (maps : List Slots) (h : Cells) (p : Places) (n : ℕ) (t : Thing) (c : Cell) → IsThing maps h p n t c → IsTold maps c → is_block_map maps (map_in c) ≡ false
thing_map maps h p n (Slotted slots) (Plain number map words) is told = ap (λ o. nat_le 3 map && is_some o) told ∙ and_none (nat_le 3 map)
thing_map maps h p n (Elements items) (Vector number words) is told = refl
thing_map maps h p n (Bytes bytes) (Text number text) is told = refl
thing_map maps h p n _ _ is told = absurd is

as_activity : (wants : ℕ → Bool) (z : Sense) (at : ℕ) (all : List Activation) (frames : List Frame) (x : Option Activity) (t : Option Thread) → x ≡ Some (Running all) → t ≡ Some (Going frames) → IsActivity wants z at x t
    → AreActivations wants z at all frames
as_activity wants z at all frames x t e f is =
    let P : Option Activity → Option Thread → Type 0 = λ y u. IsActivity wants z at y u in
    subst (P (Some (Running all))) f (subst (λ y. P y t) e is)

-- the marks of contexts tell the positions of these activations among these frames
abbrev MarksTell : Store → Places → List Activation → List Frame → Type 0
MarksTell memory p all frames = (k context : ℕ) → slice_get p.contexts k ≡ Some context → context % 4 ≡ 1 → position_at frames (mark_at memory context) ≡ unwrap_or (position_in all k) 0

module _ (maps : List Slots) (memory : Store) (heap : Heap) (h : Cells) (p : Places) (things : List Thing) (made : List Made) (is : IsHeap maps memory heap h p things made) where
  of_reference : (frames : List Frame) (w : ℕ) (c : Cell) (b : Bool) → RefersTo h w c → is_block_map maps (map_in c) ≡ b → value_shown maps memory frames w ≡ reference_shown b memory frames w
  of_reference frames w c b there test =
      let tagged = there.0 in
      cond-false (nat_eq (w % 4) 0) (shown.Int (int_of w)) (reference_shown (is_block_map maps (map_at memory w)) memory frames w) (ne_eqb (w % 4) 0 (λ e. omega arith))
      ∙ ap (λ q. reference_shown q memory frames w) (ap (is_block_map maps) (map_of_cell memory heap.top w h c is.laid there) ∙ test)

  pub numbered_shows : (n w : ℕ) → slice_get p.objects n ≡ Some w → number_at memory w ≡ n
  numbered_shows n w at =
      let number = ((heap_sound maps memory heap h p things made is).object n w at).numbered in
      omega arith

  pub told_shows : (all : List Activation) (frames : List Frame) → MarksTell memory p all frames → (v : Value) (w : ℕ) → IsValue h p v w → value_shown maps memory frames w ≡ as_shown all v
  told_shows all frames marks (values.Int i) w value =
      cond-true (nat_eq (w % 4) 0) (shown.Int (int_of w)) (reference_shown (is_block_map maps (map_at memory w)) memory frames w) (eq-eqb (w % 4) 0 (ap (λ q. q % 4) value.1 ∙ integer_aligned i value.0))
      ∙ ap shown.Int (ap int_of value.1 ∙ integer_back i value.0)
  told_shows all frames marks (values.Object n) w value =
      let t = got_if things n (let lt = slice_get_within p.objects n w value in let len = is.means.objects_all in omega arith) in
      let o = is.means.object n w t.0 value t.1 in
      of_reference frames w o.cell false o.there (thing_map maps h p n t.0 o.cell o.is (is.told (w - 1) o.cell o.there.1))
      ∙ ap shown.Object (numbered_shows n w value)
  told_shows all frames marks (values.Block body maker) w value =
      let b = read_block maps memory heap h p things made is w maker body value in
      let c : Cell = Block value.map body.0 value.context value.receiver in
      let told = is.told (w - 1) c value.cell in
      let body_word = b.body_word in
      let number : word_at memory (w + 3) / 4 ≡ body.0 = omega arith in
      of_reference frames w c true (value.tagged, value.cell) (block_map maps value.map body.0 told.0 told.1)
      ∙ ap (λ n. shown.Block (record { 0 = n }) (position_at frames (mark_at memory (word_at memory (w + 7))))) number
      ∙ ap (shown.Block body) (marks maker (word_at memory (w + 7)) b.context b.tagged)

-- where there are no frames, no activation has a position
no_frames : (b : Bool) → (if b then 0 else position_of [] 0) ≡ 0
no_frames true = refl
no_frames false = refl

-- a value that no activation is beside, as an answer
pub ended_show : EndedShow
ended_show z r s memory stands has v w value =
    let is = heap_over r.maps r.mem memory r.heap z.cells z.places s.things z.made stands.heap has in
    told_shows r.maps memory r.heap z.cells z.places s.things z.made is [] [] (λ k context at tagged. no_frames (nat_eq (mark_at memory context) 0)) v w value

module _ (z : Sense) (r : Raw) (s : State) (all : List Activation) (frames : List Frame) (memory : Store) (are : AreOf z r s all frames) (has : HasHeap memory r.mem) where
  pub is : IsHeap r.maps memory r.heap z.cells z.places s.things z.made
  is = heap_over r.maps r.mem memory r.heap z.cells z.places s.things z.made are.stands.heap has

  pub activations_are : AreActivations (makes_blocks s) z are.activity all frames
  activations_are = as_activity (makes_blocks s) z are.activity all frames (slice_get s.activities are.activity) (slice_get r.threads are.activity) are.runs are.going (are.stands.activity are.activity)

  -- the mark of the context of an activation tells its position
  made_shows : (k context : ℕ) (m : Made) → slice_get z.places.contexts k ≡ Some context → slice_get z.made k ≡ Some m → context % 4 ≡ 1 → position_at frames (mark_at memory context) ≡ unwrap_or (position_in all k) 0
  made_shows k context without at was tagged = let e = is.means.context k context without at was in absurd (omega arith)
  made_shows k context Ended at was tagged =
      ap (position_at frames) (read_ended r.maps memory r.heap z.cells z.places s.things z.made is k context at was)
      ∙ ap (λ q. unwrap_or q 0) (sym (none_ended (makes_blocks s) z are.activity all frames k activations_are was))
  made_shows k context (Live o) at was tagged =
      let live = are.stands.live k o was in
      ap (position_at frames) (read_context r.maps memory r.heap z.cells z.places s.things z.made is k context o at was).mark
      ∙ cond-false (nat_eq o.mark 0) 0 (position_of frames o.mark) (ne_eqb o.mark 0 live.positive)
      ∙ marks_place (makes_blocks s) z are.activity all frames k o activations_are was live.named

  pub context_shows : (k context : ℕ) → slice_get z.places.contexts k ≡ Some context → context % 4 ≡ 1 → position_at frames (mark_at memory context) ≡ unwrap_or (position_in all k) 0
  context_shows k context at tagged =
      let m = got_if z.made k (let lt = slice_get_within z.places.contexts k context at in let len = is.means.contexts_all in omega arith) in
      made_shows k context m.0 at m.1 tagged

  pub number_shows : (n w : ℕ) → slice_get z.places.objects n ≡ Some w → number_at memory w ≡ n
  number_shows n w at = numbered_shows r.maps memory r.heap z.cells z.places s.things z.made is n w at

  pub value_shows : (v : Value) (w : ℕ) → IsValue z.cells z.places v w → value_shown r.maps memory frames w ≡ as_shown all v
  value_shows v w value = told_shows r.maps memory r.heap z.cells z.places s.things z.made is all frames context_shows v w value

  pub values_show : (vs : List Value) (ws : List ℕ) → AreValues z.cells z.places vs ws → map (value_shown r.maps memory frames) ws ≡ map (as_shown all) vs
  values_show [] [] v = refl
  values_show (v ∷ vs) (w ∷ ws) each = ap (λ x. x ∷ map (value_shown r.maps memory frames) ws) (value_shows v w each.0) ∙ ap (λ xs. as_shown all v ∷ xs) (values_show vs ws each.1)
  values_show [] (w ∷ ws) each = absurd each
  values_show (v ∷ vs) [] each = absurd each
