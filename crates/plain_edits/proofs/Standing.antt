-- Machine and host with an edit stand for the state that it comes to.
use Rattle.std.proofs.Common.{◌≡◌, inl, inr, ℕ, ◌+◌, ◌-◌, ◌*◌, ◌<◌, ◌≤◌, refl, ◌∙◌, ap, sym, subst, arith, List, [], ◌∷◌, ◌++◌, length}
use Rattle.std.specs.Prelude.{Option, Some, None, slice_get, unwrap_or}
use Rattle.std.specs.List.{list_any}
use Rattle.std.proofs.lemmas.Bool.{cases_lt}
use Rattle.self_terms.specs.declared.bodies.Body.{Body}
use Rattle.self_terms.specs.declared.values.BodyId.{BodyId}
use Rattle.object_maps.specs.declared.layout.Heap.{Heap}
use Rattle.object_maps.specs.Layout.{map_at}
use Rattle.object_maps.specs.Slots.{Slots, slots_in, slot_named as kind_named}
use Rattle.source_model.specs.declared.objects.Slot.{Slot}
use Rattle.source_model.specs.declared.objects.Content.TheVariants.{Method}
use Rattle.source_model.specs.Objects.{Object}
use Rattle.source_model.specs.Canon.{Each}
use Rattle.source_model.specs.Formed.{IsWellFormed}
use Rattle.source_model.specs.Messages.{kin, block_slots}
use Rattle.source_model.specs.Names.{number_of, evaluator}
use Rattle.source_model.specs.Sends.{is_block_literal}
use Rattle.source_model.specs.Soundness.{body_in, HasBody, AreCallers, IsActivity as IsSoundActivity}
use Rattle.source_model.specs.State.{Activation, Activity, Running, Answered as Ended_with, Failed as Ended_by, State}
use Rattle.source_model.proofs.Keeping.{slice_each, InSome}
use Rattle.source_model.proofs.MoreBodies.{old_body, no_body}
use Rattle.sparc_store.specs.Words.{Words}
use Rattle.heap_cells.specs.Shapes.{Cell, Plain, words_of}
use Rattle.heap_cells.specs.Laying.{Cells, Laid}
use Rattle.heap_cells.specs.Source.{Thing, Slotted, fields, Made}
use Rattle.heap_cells.specs.Standing.{Places, AreValues, AreKinds}
use Rattle.heap_cells.specs.Heaps.{IsBlockMap, IsHeap, After}
use Rattle.heap_cells.proofs.Growing.{thing_grows}
use Rattle.heap_cells.proofs.Numbered.{got_left}
use Rattle.frame_walk.specs.Places.{Frame}
use Rattle.frame_walk.specs.Raw.{Thread, Going, Answered, Failed}
use Rattle.raw_steps.specs.Meeting.{HasCore}
use Rattle.raw_steps.specs.Stands.{Sense, makes_blocks, AreActivations, IsActivity, IsLive, Stands}
use Rattle.raw_steps.proofs.Staying.{activity_stays}
use Rattle.plain_runs.specs.Host.{Host, heap_words, raw_of, threads_from}
use Rattle.plain_runs.specs.Sound.{IsHosted}
use Rattle.plain_runs.specs.Course.{AllRun}
use Rattle.plain_runs.proofs.Located.{slice_front, slice_behind}
use Rattle.plain_steps.specs.Steps.{StandsFor}
use Rattle.plain_answers.proofs.Storing.{InHeap, same_word}
use Rattle.plain_begins.specs.Begins.{CanPark}
use Rattle.plain_edits.specs.Heaps.{text_references, heap_behind}
use Rattle.plain_edits.specs.Edits.{Edit, heap_of, with_edit}
use Rattle.plain_edits.specs.Resting.{edited_by, IsGiven, HasEdited, EditsStand, EditsPay, EditsPayAnew}
use Rattle.plain_edits.proofs.Passing.{Ground, all_run}
use Rattle.plain_edits.proofs.Hosting.{hosted_in, threads_in, parks_in}
use Rattle.plain_edits.proofs.Grounded.{is_heap, no_zero, outside, ground, after}
use Rattle.plain_edits.proofs.Mapped.{IsNew, in_front, which, knows_in}

-- A heap that stands in all memory stands in the words of the heap.
word_inside : (top a k : ℕ) (h : Cells) (c : Cell) (mem : Words) → Laid mem top h → h a ≡ Some c → k < length (words_of c) → InHeap (a + 4 * k)
word_inside top a k h c mem laid at lt =
    let i = laid.inside a c at in
    let aligned = i.aligned in
    let above = i.above in
    let below = i.below in
    let within = laid.end.within in
    record { aligned = omega arith; above = omega arith; below = omega arith }

heap_there : (maps : List Slots) (m : Words) (heap : Heap) (h : Cells) (p : Places) (things : List Thing) (made : List Made) → IsHeap maps m heap h p things made → IsHeap maps (heap_words m) heap h p things made
heap_there maps m heap h p things made is = record {
  laid = record {
    held = λ a c at k lt. same_word m (a + 4 * k) (word_inside heap.top a k h c m is.laid at lt) ∙ is.laid.held a c at k lt;
    inside = is.laid.inside;
    apart = is.laid.apart;
    end = is.laid.end;
    row = is.laid.row;
  };
  means = is.means;
  numbered = is.numbered;
  kinds = is.kinds;
  mapped = is.mapped;
  told = is.told;
  rooted = is.rooted;
}

-- Activations of bodies that were there want contexts as before.
module _ (s t : State) (new : List Body) (more : t.bodies ≡ s.bodies ++ new) (z : Sense) (at : ℕ) where
  abbrev Has : Activation → Type 0
  Has a = HasBody s.bodies a.body

  wants_same : (b : ℕ) → HasBody s.bodies b → makes_blocks t b ≡ makes_blocks s b
  wants_same b has = ap (λ (bs : List Body). list_any is_block_literal (body_in bs b).nodes) more ∙ ap (λ (x : Body). list_any is_block_literal x.nodes) (old_body s.bodies new b has)

  activations_want : (all : List Activation) (fs : List Frame) → Each Has all → AreActivations (makes_blocks s) z at all fs → AreActivations (makes_blocks t) z at all fs
  activations_want [] [] each are = tt
  activations_want (a ∷ older) (f ∷ fs) each are =
      let is = are.0 in (
        record {
          body = is.body;
          next = is.next;
          receiver = is.receiver;
          holder = is.holder;
          outer = is.outer;
          pending = is.pending;
          kind = is.kind;
          made = is.made;
          context = is.context;
          locals = is.locals;
          wanted = wants_same a.body each.0 ∙ is.wanted;
          named = is.named;
          seated = is.seated;
        },
        are.1,
        activations_want older fs each.1 are.2,
      )
  activations_want [] (f ∷ fs) each are = absurd are
  activations_want (a ∷ older) [] each are = absurd are

  callers_have : (home : ℕ → ℕ) (all : List Activation) → AreCallers s.bodies home all → Each Has all
  callers_have home [] are = tt
  callers_have home (a ∷ older) are = (are.0.given, callers_have home older are.2)

  all_have : (home : ℕ → ℕ) (all : List Activation) → IsSoundActivity s.bodies home (Running all) → Each Has all
  all_have home [] is = tt
  all_have home (a ∷ older) is = (is.0.given, callers_have home older is.2)

  activity_wants : (home : ℕ → ℕ) (x : Option Activity) (y : Option Thread) → InSome (IsSoundActivity s.bodies home) x → IsActivity (makes_blocks s) z at x y → IsActivity (makes_blocks t) z at x y
  activity_wants home None None sound is = tt
  activity_wants home (Some (Running all)) (Some (Going frames)) sound is = activations_want all frames (all_have home all sound) is
  activity_wants home (Some (Ended_with v)) (Some (Answered w)) sound is = is
  activity_wants home (Some (Ended_by e p)) (Some (Failed x q)) sound is = is
  activity_wants home _ _ sound is = absurd is

module _ (z : Sense) (h : Host) (s : State) (path : List (List ℕ)) (e : Edit) (o : ℕ) (memory : Words) (f : StandsFor z h s) (hosted : IsHosted h) (run : AllRun h) (parks : CanPark h) (formed : IsWellFormed s) (x : IsGiven z h s path e o memory) where
  abbrev to : Host
  to = with_edit e memory h

  abbrev t : State
  t = edited_by e o s

  abbrev strings : List (List ℕ)
  strings = e.text.strings

  abbrev words : List ℕ
  words = text_references (h.machine.regs 6) strings

  abbrev end : Places
  end = record z.places { objects = z.places.objects ++ words }

  g : Ground h e memory
  g = ground z h s path e o memory f x formed run

  a : After to.maps memory (heap_behind strings (heap_of h)) z.cells z.places end t.things z.made
  a = after z h s path e o memory f x formed hosted

  abbrev sense : Sense
  sense = record z { cells = a.cells; places = end }

  was : IsHeap h.maps h.machine.memory (heap_of h) z.cells z.places s.things z.made
  was = is_heap z h s path e o memory f x

  same_threads : threads_from to 0 h.statuses ≡ threads_from h 0 h.statuses
  same_threads = threads_in h e memory g hosted x.leaves.within parks

  activity : (i : ℕ) → IsActivity (makes_blocks t) sense i (slice_get s.activities i) (slice_get (threads_from to 0 h.statuses) i)
  activity i =
      let x1 = slice_get s.activities i in
      let y = slice_get (threads_from h 0 h.statuses) i in
      let stays = activity_stays z sense a.grows (makes_blocks s) i (λ n. Unit {0}) (λ k. Unit {0}) (λ n b k p q is. record { made = refl; owner = refl; seat = refl }) x1 y (λ n. tt) (λ frames j k e1 e2. tt) (f.stands.activity i) in
      subst (λ (ts : List Thread). IsActivity (makes_blocks t) sense i x1 (slice_get ts i)) (sym same_threads)
      (activity_wants s t e.bodies refl sense i formed.0 x1 y (slice_each (IsSoundActivity s.bodies formed.0) s.activities i formed.1.well.activities) stays)

  stands : Stands sense (raw_of to) t
  stands = record {
    heap = heap_there to.maps memory (heap_behind strings (heap_of h)) a.cells end t.things z.made a.is;
    unused = f.stands.unused;
    activity = activity;
    live = λ k w at. subst (λ (ts : List Thread). IsLive ts z.owner k w.mark) (sym same_threads) (f.stands.live k w at);
    current = f.stands.current;
    steps = f.stands.steps;
    cost = f.stands.cost;
    within = f.stands.within;
  }

  -- What maps say of integers, strings, vectors and blocks.

  free : kind_named 0 (slots_in h.maps (map_at h.machine.memory e.word)) ≡ None
  free = no_zero z h s path e o memory f x formed

  says : (m : ℕ) (ss : Object) → m < length h.maps → AreValues z.cells z.places (fields ss) [] → AreKinds z.cells z.places 0 (slots_in h.maps m) ss → AreKinds sense.cells sense.places 0 (slots_in to.maps m) ss
  says m ss lt bare are =
      let ks = slots_in h.maps m in
      subst (λ (q : Slots). AreKinds sense.cells sense.places 0 q ss) (sym (in_front h e memory free m lt))
      (thing_grows z.cells sense.cells z.places sense.places a.grows ([] ∷ [] ∷ [] ∷ ks ∷ []) 0 (Slotted ss) (Plain 0 3 []) (refl, omega arith, are, bare)).2

  old_says : (m : ℕ) (b : BodyId) → 3 ≤ m → m < length h.maps → IsBlockMap b.0 (slots_in h.maps m) → AreKinds sense.cells sense.places 0 (slots_in to.maps m) (block_slots t b)
  old_says m b three lt is =
      let has = subst (λ (bs : List Body). HasBody bs b.0) f.bodies (x.knows.there m b.0 three is) in
      let slots_with : Body → Object = λ y. (let q : Slot = record { name = number_of s.names (evaluator (length y.arguments)); content = Method b } in q ∷ kin s.core.blocks) in
      let same : block_slots t b ≡ block_slots s b = ap slots_with (old_body s.bodies e.bodies b.0 has) in
      subst (λ (q : Object). AreKinds sense.cells sense.places 0 (slots_in to.maps m) q) (sym same) (says m (block_slots s b) lt tt (f.core.blocks m b three is))

  new_says : (m : ℕ) (b : BodyId) → IsNew h e memory m b.0 → AreKinds sense.cells sense.places 0 (slots_in to.maps m) (block_slots t b)
  new_says m b n =
      let place : b.0 - 1 ≡ length s.bodies + n.k = omega (arith, n.number, ap length f.bodies) in
      let body : body_in t.bodies b.0 ≡ n.body = ap (λ (q : Option Body). unwrap_or q no_body) (ap (slice_get t.bodies) place ∙ slice_behind s.bodies e.bodies (length s.bodies) n.k refl ∙ n.there) in
      let traits = a.grows.objects s.core.blocks e.traits x.said.traits in
      let name : number_of e.names (evaluator (length n.body.arguments)) ≡ number_of s.names (evaluator (length (body_in t.bodies b.0).arguments)) =
      ap (λ (ns : List (List ℕ)). number_of ns (evaluator (length n.body.arguments))) x.said.names ∙ ap (λ (y : Body). number_of s.names (evaluator (length y.arguments))) (sym body) in
      subst (λ (q : Slots). AreKinds sense.cells sense.places 0 q (block_slots t b)) (sym n.is) (name, refl, (refl, traits, tt))

  core : HasCore (raw_of to) t sense
  core =
      let three = was.kinds in
      record {
        kin_of = record { text = says 1 (kin s.core.strings) (omega arith) tt f.core.kin_of.text; vector = says 2 (kin s.core.vectors) (omega arith) tt f.core.kin_of.vector };
        integers = says 0 (kin s.core.integers) (omega arith) tt f.core.integers;
        blocks = λ m b low is. elim (which h e memory free m b.0 is) [
          | inl lt ↦ old_says m b low lt (subst (IsBlockMap b.0) (in_front h e memory free m lt) is)
          | inr n ↦ new_says m b n
        ];
      }

  -- What units know of objects.

  since_at : (k w : ℕ) → slice_get (e.since ++ words) k ≡ Some w → slice_get end.objects (length h.references.objects + k) ≡ Some w
  since_at k w is = elim (cases_lt k (length e.since)) [
    | inl lt ↦ got_left z.places.objects words (length h.references.objects + k) w (x.said.since k w (sym (slice_front e.since words k lt) ∙ is))
    | inr ge ↦
        let j = k - length e.since in
        let here : length e.since + j ≡ k = omega (arith, ge) in
        let many : length z.places.objects ≡ h.next = was.means.objects_all ∙ sym was.numbered in
        let there : length h.references.objects + k ≡ length z.places.objects + j = omega (arith, here, many, x.said.all) in
        ap (slice_get end.objects) there ∙ slice_behind z.places.objects words (length z.places.objects) j refl ∙ sym (slice_behind e.since words (length e.since) j refl) ∙ ap (slice_get (e.since ++ words)) here ∙ is
  ]

  known : (k w : ℕ) → slice_get to.references.objects k ≡ Some w → slice_get end.objects k ≡ Some w
  known k w is = elim (cases_lt k (length h.references.objects)) [
    | inl lt ↦ got_left z.places.objects words k w (f.objects k w (sym (slice_front h.references.objects (e.since ++ words) k lt) ∙ is))
    | inr ge ↦
        let j = k - length h.references.objects in
        let here : length h.references.objects + j ≡ k = omega (arith, ge) in
        ap (slice_get end.objects) (sym here)
        ∙ since_at j w (sym (slice_behind h.references.objects (e.since ++ words) (length h.references.objects) j refl) ∙ ap (slice_get to.references.objects) here ∙ is)
  ]

  pub has_edited : HasEdited z h s e o memory
  has_edited = record {
    sense = sense;
    grows = a.grows;
    stands = record {
      stands = stands;
      core = core;
      bodies = ap (λ (bs : List Body). bs ++ e.bodies) f.bodies;
      objects = known;
      nil = a.grows.objects s.core.nil h.references.nil f.nil;
      sums = f.sums;
    };
    hosted = hosted_in h e memory g hosted x.leaves.within;
    all = all_run h e memory g;
    parks = parks_in h e memory g hosted x.leaves.within parks;
    knows = knows_in h e memory free x.knows;
  }

pub edits_stand : EditsStand
edits_stand z h s path e o memory f hosted run parks formed x = has_edited z h s path e o memory f hosted run parks formed x

pub edits_pay : EditsPay
edits_pay z h s path e o start memory f formed x room p = record {
  room = room;
  top = omega (arith, p.top);
  left = ap (λ (w : ℕ). w + h.cost) (outside z h s path e o memory f x formed 0x30000004 (inr (omega arith))) ∙ p.left;
}

pub edits_pay_anew : EditsPayAnew
edits_pay_anew z h s path e o start memory f formed x room p = record {
  room = omega (arith, room);
  top = omega arith;
  left = ap (λ (w : ℕ). w + h.cost) (outside z h s path e o memory f x formed 0x30000004 (inr (omega arith))) ∙ p.left;
}
