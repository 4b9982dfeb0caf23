-- What an edit rests on, where machine and host stand for a state.
use Rattle.std.proofs.Common.{◌≡◌, ◌⊎◌, inl, inr, ℕ, zero, suc, ◌+◌, ◌-◌, ◌<◌, ◌≤◌, refl, ◌∙◌, ap, sym, subst, arith, List, [], ◌∷◌, ◌++◌, length, map}
use Rattle.std.specs.Prelude.{Option, Some, None, slice_get, option_map}
use Rattle.std.proofs.lemmas.Option.{same_Some, none-some}
use Rattle.self_terms.specs.declared.bodies.Body.{Body}
use Rattle.self_terms.specs.declared.values.BodyId.{BodyId}
use Rattle.object_maps.specs.declared.layout.Heap.{Heap}
use Rattle.object_maps.specs.declared.maps.SlotKind.TheVariants as kind
use Rattle.object_maps.specs.Layout.{map_at}
use Rattle.object_maps.specs.Slots.{Slots, slots_in, slot_named as kind_named}
use Rattle.object_maps.specs.Sound.{IsListed, HasListed}
use Rattle.source_model.specs.declared.objects.Slot.{Slot}
use Rattle.source_model.specs.declared.objects.Content.TheVariants.{Method}
use Rattle.source_model.specs.Objects.{Object, AreNamedOnce, slot_named, replaced, with_slots, changed_at}
use Rattle.source_model.specs.Canon.{Each}
use Rattle.source_model.specs.Edits.{plain_slots}
use Rattle.source_model.specs.Formed.{ThingFits, IsWellFormed}
use Rattle.source_model.specs.Names.{number_of, evaluator}
use Rattle.source_model.specs.Soundness.{HasBody, IsFit}
use Rattle.source_model.specs.State.{State}
use Rattle.source_model.proofs.Keeping.{slice_each, InSome}
use Rattle.sparc_store.specs.Words.{Words, word_at}
use Rattle.heap_cells.specs.Shapes.{Cell, Plain}
use Rattle.heap_cells.specs.Source.{Thing, Slotted, Elements, Bytes}
use Rattle.heap_cells.specs.Standing.{Places, RefersTo}
use Rattle.heap_cells.specs.Heaps.{IsHeap, After}
use Rattle.heap_cells.proofs.Rows.{two_words}
use Rattle.heap_cells.proofs.Stepping.{plain_cell, map_of_cell}
use Rattle.raw_steps.specs.Stands.{Sense}
use Rattle.plain_runs.specs.Host.{Host}
use Rattle.plain_runs.specs.Sound.{IsHosted}
use Rattle.plain_runs.specs.Course.{AllRun}
use Rattle.plain_steps.specs.Steps.{StandsFor}
use Rattle.plain_answers.proofs.Whole.{whole_stands}
use Rattle.world_blocks.specs.Sessions.{block_map, own_block_map, block_maps}
use Rattle.plain_edits.specs.Heaps.{text_references, heap_behind}
use Rattle.plain_edits.specs.Edits.{Edit, heap_of, with_edit}
use Rattle.plain_edits.specs.Resting.{edited_by, IsGiven}
use Rattle.plain_edits.proofs.Heaps.{heaps_follow_edits}
use Rattle.plain_edits.proofs.Passing.{Ground}
use Rattle.plain_edits.proofs.Running.{new_run}

-- The object whose slot is edited.
pub record IsEditable (s : State) (name o : ℕ) (old : BodyId) : Type 0 where
  pub slots : Object
  pub was : slice_get s.things o ≡ Some (Slotted slots)
  pub once : AreNamedOnce slots
  pub method : option_map (λ (x : Slot). x.content) (slot_named name slots) ≡ Some (Method old)

editable_by : (s : State) (name o : ℕ) (old : BodyId) (m : Option Thing) → slice_get s.things o ≡ m → InSome (ThingFits s.names s.bodies) m → option_map (λ (x : Slot). x.content) (slot_named name (plain_slots m)) ≡ Some (Method old) → IsEditable s name o old
editable_by s name o old None at fits e = absurd (none-some (Method old) e)
editable_by s name o old (Some (Slotted slots)) at fits e = record { slots = slots; was = at; once = fits.2; method = e }
editable_by s name o old (Some (Elements items)) at fits e = absurd (none-some (Method old) e)
editable_by s name o old (Some (Bytes bytes)) at fits e = absurd (none-some (Method old) e)

-- each parent in a map of blocks is there
block_listed : (objects : List ℕ) (names : List (List ℕ)) (traits : ℕ) (b : ℕ) (x : Body) → IsListed objects traits → HasListed objects (block_map names traits b x)
block_listed objects names traits b x there zero name word is = absurd (let e = same_Some (number_of names (evaluator (length x.arguments)), kind.Method (record { 0 = b })) (name, kind.Parent word) is in let f : kind.Method (record { 0 = b }) ≡ kind.Parent word = ap (λ z. z.1) e in (cc))
block_listed objects names traits b x there (suc zero) name word is =
    let e : kind.Parent traits ≡ kind.Parent word = ap (λ z. z.1) (same_Some (0, kind.Parent traits) (name, kind.Parent word) is) in
    subst (IsListed objects) (let f : traits ≡ word = (cc) in f) there
block_listed objects names traits b x there (suc (suc at)) name word is = absurd (none-some (name, kind.Parent word) is)

own_listed : (objects : List ℕ) (names : List (List ℕ)) (traits : ℕ) (b : ℕ) (x : Body) (o : Option ℕ) (ms : List Slots) → IsListed objects traits → Each (HasListed objects) ms → Each (HasListed objects) (own_block_map names traits b x o ++ ms)
own_listed objects names traits b x None ms there more = more
own_listed objects names traits b x (Some outer) ms there more = (block_listed objects names traits b x there, more)

blocks_listed : (objects : List ℕ) (names : List (List ℕ)) (traits : ℕ) (b : ℕ) (xs : List Body) → IsListed objects traits → Each (HasListed objects) (block_maps names traits b xs)
blocks_listed objects names traits b [] there = tt
blocks_listed objects names traits b (x ∷ xs) there = own_listed objects names traits b x x.outer (block_maps names traits (b + 1) xs) there (blocks_listed objects names traits (b + 1) xs there)

module _ (z : Sense) (h : Host) (s : State) (path : List (List ℕ)) (e : Edit) (o : ℕ) (memory : Words) (f : StandsFor z h s) (x : IsGiven z h s path e o memory) where
  abbrev heap : Heap
  heap = heap_of h

  -- over all words
  pub is_heap : IsHeap h.maps h.machine.memory heap z.cells z.places s.things z.made
  is_heap = (whole_stands z h s f).0.heap

  module _ (formed : IsWellFormed s) where
    pub editable : IsEditable s e.text.name o x.accepted.old
    editable = editable_by s e.text.name o x.accepted.old (slice_get s.things o) refl (slice_each (ThingFits s.names s.bodies) s.things o formed.1.world.1.slots) x.accepted.method

    -- the object's cell
    pub its_cell : (c : ℕ) × (words : List ℕ) × RefersTo z.cells e.word (Plain o c words)
    its_cell =
        let d = editable in
        let there = is_heap.means.object o e.word (Slotted d.slots) x.said.word d.was in
        let p = plain_cell h.maps z.cells z.places o d.slots there.cell there.is in
        (p.map, p.words, (there.there.0, there.there.1 ∙ ap Some p.is))

    -- its map has no slot of the name 0
    pub no_zero : kind_named 0 (slots_in h.maps (map_at h.machine.memory e.word)) ≡ None
    no_zero =
        let c = its_cell in
        ap (λ (m : ℕ). kind_named 0 (slots_in h.maps m)) (map_of_cell h.machine.memory heap.top e.word z.cells (Plain o c.0 c.1) is_heap.laid c.2) ∙ is_heap.told (e.word - 1) (Plain o c.0 c.1) c.2.1

    -- words outside the heap are as they were
    pub outside : (b : ℕ) → (b < 0x20000000) ⊎ (0x20000000 + 46137344 ≤ b) → word_at memory b ≡ word_at h.machine.memory b
    outside b out =
        let c = its_cell in
        let cell : Cell = Plain o c.0 c.1 in
        let i = is_heap.laid.inside (e.word - 1) cell c.2.1 in
        let two = two_words cell in
        let end = is_heap.laid.end in
        elim out [
          | inl low ↦ x.leaves.others b (λ same. omega (arith, same, low, i.above)) (inl (omega (arith, low, end.above)))
          | inr high ↦ x.leaves.others b (λ same. omega (arith, same, high, i.below, two, end.within)) (inr (omega (arith, high, x.leaves.room)))
        ]

    -- bodies fit and run
    pub ground : AllRun h → Ground h e memory
    ground run = record {
      fit = subst (λ (bs : List Body). (n : ℕ) → HasBody bs n → IsFit bs n) (sym f.bodies) formed.1.well.bodies;
      run = run;
      new = new_run z h s path e o f formed x.accepted x.translate;
      all = x.said.all;
      maps_of = x.knows.numbered;
      outside = outside;
    }

    -- the heap stands for the objects of the edited state
    pub after : IsHosted h → After (with_edit e memory h).maps memory (heap_behind e.text.strings heap) z.cells z.places (record z.places { objects = z.places.objects ++ text_references heap.top e.text.strings }) (edited_by e o s).things z.made
    after hosted =
        let d = editable in
        let more = block_maps e.names e.traits (length h.bodies + 1) e.bodies in
        let to : Places = record z.places { objects = z.places.objects ++ text_references heap.top e.text.strings } in
        subst (λ (bs : List Body). After (with_edit e memory h).maps memory (heap_behind e.text.strings heap) z.cells z.places to (changed_at (with_slots (replaced e.text.name (Method (record { 0 = length bs + 1 })))) o (s.things ++ map Bytes e.text.strings)) z.made) f.bodies
        (heaps_follow_edits h.maps more h.machine.memory memory heap z.cells z.places s.things z.made is_heap hosted.within o e.word e.text.name d.slots x.accepted.old (record { 0 = length h.bodies + 1 }) e.text.strings x.said.word d.was d.once d.method
        (blocks_listed z.places.objects e.names e.traits (length h.bodies + 1) e.bodies (s.core.blocks, x.said.traits)) x.bytes x.leaves)
