-- A world's heap behind the maps of a session, and where a session begins.
use Rattle.std.proofs.Common.{◌≡◌, inl, inr, refl, sym, ap, subst, ◌∙◌, ℕ, zero, suc, ◌+◌, ◌-◌, ◌<◌, ◌≤◌, List, [], ◌∷◌, ◌++◌, length, get_or, arith}
use Rattle.std.specs.Prelude.{Option, None, Some, slice_get, unwrap_or}
use Rattle.std.proofs.lemmas.Bool.{cases_lt}
use Rattle.std.proofs.lemmas.List.{append_assoc, get_or_past}
use Rattle.std.proofs.lemmas.Option.{none-some, same_Some, slice_get_within, get_or_from_slice_get}
use Rattle.self_terms.specs.declared.bodies.Body.{Body}
use Rattle.self_terms.specs.declared.values.BodyId.{BodyId}
use Rattle.object_maps.specs.declared.layout.Heap.{Heap}
use Rattle.object_maps.specs.declared.maps.SlotKind.{SlotKind}
use Rattle.object_maps.specs.declared.maps.SlotKind.TheVariants as kind
use Rattle.object_maps.specs.Slots.{Slots, slots_in}
use Rattle.source_model.specs.Messages.{body_of, block_slots, kin}
use Rattle.source_model.specs.Names.{number_of, evaluator}
use Rattle.source_model.specs.State.{State}
use Rattle.source_model.specs.declared.objects.Content.TheVariants.{Parent}
use Rattle.source_model.specs.declared.objects.Thing.{Thing}
use Rattle.sparc_store.specs.Words.{Words}
use Rattle.heap_cells.specs.Laying.{Cells}
use Rattle.heap_cells.specs.Source.{Made}
use Rattle.heap_cells.specs.Standing.{Places, IsKind, AreKinds}
use Rattle.heap_cells.specs.Heaps.{IsBlockMap, IsHeap}
use Rattle.heap_cells.specs.Numbers.{HasKin}
use Rattle.heap_cells.proofs.Editing.{after_new_map}
use Rattle.heap_cells.proofs.Looking.{lookup_renamed}
use Rattle.heap_cells.proofs.Reading.{heap_sound}
use Rattle.frame_walk.specs.Raw.{Raw}
use Rattle.raw_steps.specs.Begins.{Begins}
use Rattle.raw_steps.proofs.Beginning.{begins_is}
use Rattle.world_build.specs.Wholeness.{IsWhole}
use Rattle.world_build.specs.Worlds.{World}
use Rattle.world_heap.specs.Heaps.{places, references_from, heap_of, HasHeap}
use Rattle.world_heap.specs.Images.{Image}
use Rattle.world_heap.specs.Layout.{reference}
use Rattle.world_heap.specs.Stands.{Stands as StandsFor}
use Rattle.world_state.specs.Begun.{begun}
use Rattle.world_begins.specs.Fresh.{IsFresh, BeginsCore}
use Rattle.world_begins.proofs.Alone.{world_alone}
use Rattle.world_begins.proofs.Unnamed.{no_block_map}
use Rattle.world_blocks.specs.Sessions.{session_names, block_traits, block_map, own_block_map, block_maps, session_maps, session_image}
use Rattle.world_blocks.proofs.Mapped.{maps_of_blocks, IsOf, is_of, behind, in_front}

-- the references to objects, by their numbers
pub reference_there : (w : World) (k j n : ℕ) (xs : List Thing) → n ≡ k + j → j < length xs → slice_get (references_from w k xs) j ≡ Some (reference w.things n)
reference_there w k j n [] e lt = absurd (omega arith)
reference_there w k zero n (x ∷ xs) e lt = ap (λ z. Some (reference w.things z)) (let f : k ≡ n = omega arith in f)
reference_there w k (suc j) n (x ∷ xs) e lt = reference_there w (k + 1) j n xs (omega arith) (omega arith)

-- each parent of a map is one of the objects; of all maps of a list
abbrev IsRooted : Places → Slots → Type 0
IsRooted p m = (at name word : ℕ) → slice_get m at ≡ Some (name, kind.Parent word) → (number : ℕ) × (slice_get p.objects number ≡ Some word)

AreRooted : Places → List Slots → Type 0
AreRooted p [] = Unit {0}
AreRooted p (m ∷ ms) = IsRooted p m × AreRooted p ms

heap_more : (mem : Words) (heap : Heap) (h : Cells) (p : Places) (objects : List Thing) (made : List Made) (ms maps : List Slots) → AreRooted p ms → IsHeap maps mem heap h p objects made → IsHeap (maps ++ ms) mem heap h p objects made
unfolding AreRooted
heap_more mem heap h p objects made [] maps rooted is = subst (λ (q : List Slots). IsHeap q mem heap h p objects made) (sym (append_nil maps)) is
  where
    append_nil : (xs : List Slots) → xs ++ [] ≡ xs
    append_nil [] = refl
    append_nil (x ∷ xs) = ap (λ ys. x ∷ ys) (append_nil xs)
heap_more mem heap h p objects made (m ∷ ms) maps rooted is =
    subst (λ (q : List Slots). IsHeap q mem heap h p objects made) (append_assoc maps (m ∷ []) ms)
    (heap_more mem heap h p objects made ms (maps ++ m ∷ []) rooted.1 (after_new_map maps mem heap h p objects made m is rooted.0))

-- those of blocks
module _ (w : World) (there : w.core.blocks < length w.things) where
  block_rooted : (b : ℕ) (x : Body) → IsRooted (places w) (block_map (session_names w) (block_traits w) b x)
  block_rooted b x zero name word is = absurd (let e = same_Some (number_of (session_names w) (evaluator (length x.arguments)), kind.Method (record { 0 = b })) (name, kind.Parent word) is in let f : kind.Method (record { 0 = b }) ≡ kind.Parent word = ap (λ z. z.1) e in (cc))
  block_rooted b x (suc zero) name word is =
      let e : kind.Parent (reference w.things w.core.blocks) ≡ kind.Parent word = ap (λ z. z.1) (same_Some (0, kind.Parent (reference w.things w.core.blocks)) (name, kind.Parent word) is) in
      (w.core.blocks, reference_there w 0 w.core.blocks w.core.blocks w.things (omega arith) there ∙ ap Some (let f : reference w.things w.core.blocks ≡ word = (cc) in f))
  block_rooted b x (suc (suc at)) name word is = absurd (none-some (name, kind.Parent word) is)

  own_rooted : (b : ℕ) (x : Body) (o : Option ℕ) (ms : List Slots) → AreRooted (places w) ms → AreRooted (places w) (own_block_map (session_names w) (block_traits w) b x o ++ ms)
  unfolding AreRooted
  own_rooted b x None ms more = more
  own_rooted b x (Some outer) ms more = (block_rooted b x, more)

  blocks_rooted : (b : ℕ) (xs : List Body) → AreRooted (places w) (block_maps (session_names w) (block_traits w) b xs)
  unfolding AreRooted
  blocks_rooted b [] = tt
  blocks_rooted b (x ∷ xs) = own_rooted b x x.outer (block_maps (session_names w) (block_traits w) (b + 1) xs) (blocks_rooted (b + 1) xs)

  all_rooted : AreRooted (places w) ([] ∷ maps_of_blocks w)
  unfolding AreRooted
  all_rooted = (λ at name word is. absurd (none-some (name, kind.Parent word) is), blocks_rooted 1 w.bodies)

module _ (i : Image) (mem : Words) (whole : IsWhole i.world) (has : HasHeap i mem) where
  more : IsHeap (session_maps i) mem (heap_of i) has.cells (places i.world) i.world.things []
  more = heap_more mem (heap_of i) has.cells (places i.world) i.world.things [] ([] ∷ maps_of_blocks i.world) i.maps (all_rooted i.world whole.core.blocks) has.is

  says : (map traits : ℕ) → map < 3 → AreKinds has.cells (places i.world) 0 (slots_in i.maps map) (kin traits) → AreKinds has.cells (places i.world) 0 (slots_in (session_maps i) map) (kin traits)
  says map traits lt are = subst (λ (q : Slots). AreKinds has.cells (places i.world) 0 q (kin traits)) (sym (in_front i map (let three = has.is.kinds in omega arith))) are

  pub heap_knows : HasHeap (session_image i) mem
  heap_knows =
      let kin_of : HasKin (session_maps i) has.cells (places i.world) i.world.core.strings i.world.core.vectors = record { text = says 1 i.world.core.strings (omega arith) has.kin_of.text; vector = says 2 i.world.core.vectors (omega arith) has.kin_of.vector } in
      record {
        cells = has.cells;
        is = more;
        kin_of = kin_of;
        integers = says 0 i.world.core.integers (omega arith) has.integers;
        sound = heap_sound (session_maps i) mem (heap_of i) has.cells (places i.world) i.world.things [] more;
        lookup = λ name levels n x at. lookup_renamed (session_maps i) mem (heap_of i) has.cells (places i.world) i.world.things [] i.world.core.strings i.world.core.vectors more kin_of name levels n x at;
      }

-- What the maps of blocks say.
no_bare : (body : ℕ) (slots : Slots) → slots ≡ [] → IsBlockMap body slots → ⊥
no_bare body slots e is = let are = is.are in cc

abbrev method_of : SlotKind → ℕ
method_of (kind.Method b) = b.0
method_of _ = 0

abbrev first_method : Slots → ℕ
first_method [] = 0
first_method (s ∷ ss) = method_of s.1

module _ (i : Image) (advisors : ℕ) (h : Cells) (p : Places) (same : p.objects ≡ (places i.world).objects) (there : i.world.core.blocks < length i.world.things) where
  abbrev w : World
  w = i.world

  abbrev state : State
  state = begun w (session_names w) advisors

  parent_there : slice_get p.objects w.core.blocks ≡ Some (reference w.things w.core.blocks)
  parent_there = ap (λ (q : List ℕ). slice_get q w.core.blocks) same ∙ reference_there w 0 w.core.blocks w.core.blocks w.things (omega arith) there

  map_says : (b : BodyId) (k : ℕ) (x : Body) → 1 + k ≡ b.0 → slice_get w.bodies k ≡ Some x → AreKinds h p 0 (block_map (session_names w) (block_traits w) (1 + k) x) (block_slots state b)
  map_says b k x e is =
      let number : b.0 - 1 ≡ k = omega arith in
      let body : body_of state b.0 ≡ x = ap (λ (q : Option Body). unwrap_or q (record { name = None; outer = None; arguments = []; locals = []; nodes = []; places = [] })) (ap (slice_get w.bodies) number ∙ is) in
      let id : ℕ → BodyId = λ n. record { 0 = n } in
      (ap (λ (q : Body). number_of (session_names w) (evaluator (length q.arguments))) (sym body), ap id e, (refl, parent_there, tt))

  of_body : (b : BodyId) (n : ℕ) → IsOf (session_names w) (block_traits w) 1 n w.bodies → IsBlockMap b.0 (slots_in (maps_of_blocks w) n) → AreKinds h p 0 (slots_in (maps_of_blocks w) n) (block_slots state b)
  of_body b n r is =
      subst (λ (q : Slots). AreKinds h p 0 q (block_slots state b)) (sym r.is)
      (map_says b r.k r.body (ap first_method (sym r.is ∙ is.are)) r.there)

  by_number : (b : BodyId) (n : ℕ) → IsBlockMap b.0 (slots_in ([] ∷ maps_of_blocks w) n) → AreKinds h p 0 (slots_in ([] ∷ maps_of_blocks w) n) (block_slots state b)
  by_number b zero is = absurd (no_bare b.0 [] refl is)
  by_number b (suc n) is = elim (cases_lt n (length (maps_of_blocks w))) [
    | inl lt ↦ of_body b n (is_of (session_names w) (block_traits w) 1 n w.bodies lt) is
    | inr ge ↦ absurd (no_bare b.0 (slots_in (maps_of_blocks w) n) (get_or_past (maps_of_blocks w) n [] ge) is)
  ]

  blocks_say : (mem : Words) → StandsFor i → HasHeap i mem → (map : ℕ) (b : BodyId) → 3 ≤ map → IsBlockMap b.0 (slots_in (session_maps i) map) → AreKinds h p 0 (slots_in (session_maps i) map) (block_slots state b)
  blocks_say mem stands has map b three is = elim (cases_lt map (length i.maps)) [
    | inl lt ↦ absurd (no_block_map i mem stands has map b.0 three (subst (λ (q : Slots). IsBlockMap b.0 q) (in_front i map lt) is))
    | inr ge ↦
        let number : map ≡ length i.maps + (map - length i.maps) = omega arith in
        let slots = ap (slots_in (session_maps i)) number ∙ behind i (map - length i.maps) in
        subst (λ (q : Slots). AreKinds h p 0 q (block_slots state b)) (sym slots) (by_number b (map - length i.maps) (subst (λ (q : Slots). IsBlockMap b.0 q) slots is))
  ]

-- Where a session begins. What a map says of a parent lies in the places of objects alone.
kin_placed : (h new : Cells) (p to : Places) (traits : ℕ) (ks : Slots) → to.objects ≡ p.objects → AreKinds h p 0 ks (kin traits) → AreKinds new to 0 ks (kin traits)
kin_placed h new p to traits [] same are = absurd are
kin_placed h new p to traits (k ∷ []) same are = (are.0, parent_placed k.1 are.1, tt)
  where
    parent_placed : (k : SlotKind) → IsKind h p 0 k (Parent traits) → IsKind new to 0 k (Parent traits)
    parent_placed (kind.Parent word) is = subst (λ (q : List ℕ). slice_get q traits ≡ Some word) (sym same) is
    parent_placed (kind.Constant word) is = absurd is
    parent_placed (kind.Field at) is = absurd is
    parent_placed (kind.Assign at) is = absurd is
    parent_placed (kind.Method b) is = absurd is
kin_placed h new p to traits (k ∷ l ∷ ks) same are = absurd are.2

module _ (i : Image) (mem : Words) (r : Raw) (advisors : ℕ) (stands : StandsFor i) (whole : IsWhole i.world) (was : HasHeap i mem) (fresh : IsFresh (session_image i) mem r) where
  own : HasHeap i r.mem
  own = world_alone i mem r.mem was fresh.words

  known : HasHeap (session_image i) r.mem
  known = heap_knows i r.mem whole own

  abbrev s : State
  s = begun i.world (session_names i.world) advisors

  heap : IsHeap r.maps r.mem r.heap known.cells (places i.world) s.things []
  heap =
      subst (λ (q : List Slots). IsHeap q r.mem r.heap known.cells (places i.world) s.things []) (sym fresh.maps)
      (subst (λ (q : Heap). IsHeap (session_maps i) r.mem q known.cells (places i.world) s.things []) (sym fresh.heap) known.is)

  begins : Begins r s (places i.world)
  begins = begins_is r s known.cells (places i.world) heap refl fresh.threads refl fresh.current fresh.steps fresh.cost (omega arith)

  kin_says : (map traits : ℕ) → AreKinds known.cells (places i.world) 0 (slots_in (session_maps i) map) (kin traits) → AreKinds begins.sense.cells begins.sense.places 0 (slots_in r.maps map) (kin traits)
  kin_says map traits are =
      kin_placed known.cells begins.sense.cells (places i.world) begins.sense.places traits (slots_in r.maps map) begins.objects
      (subst (λ (q : List Slots). AreKinds known.cells (places i.world) 0 (slots_in q map) (kin traits)) (sym fresh.maps) are)

  blocks : (map : ℕ) (b : BodyId) → 3 ≤ map → IsBlockMap b.0 (slots_in r.maps map) → AreKinds begins.sense.cells begins.sense.places 0 (slots_in r.maps map) (block_slots s b)
  blocks map b three is =
      subst (λ (q : List Slots). AreKinds begins.sense.cells begins.sense.places 0 (slots_in q map) (block_slots s b)) (sym fresh.maps)
      (blocks_say i advisors begins.sense.cells begins.sense.places begins.objects whole.core.blocks mem stands was map b three (subst (λ (q : List Slots). IsBlockMap b.0 (slots_in q map)) fresh.maps is))

  pub session_begins : BeginsCore i r s
  session_begins = record {
    sense = begins.sense;
    stands = begins.stands;
    objects = begins.objects;
    core = record {
      kin_of = record { text = kin_says 1 i.world.core.strings known.kin_of.text; vector = kin_says 2 i.world.core.vectors known.kin_of.vector };
      integers = kin_says 0 i.world.core.integers known.integers;
      blocks = blocks;
    };
    sound = heap_sound r.maps r.mem r.heap begins.sense.cells begins.sense.places s.things begins.sense.made begins.stands.heap;
    room = begins.stands.heap.means.objects_all;
  }

-- the parent of all blocks is there
traits_there : (w : World) → IsWhole w → slice_get (places w).objects w.core.blocks ≡ Some (block_traits w)
traits_there w whole = reference_there w 0 w.core.blocks w.core.blocks w.things (omega arith) whole.core.blocks

pub traits_within : (w : World) (words : List ℕ) → IsWhole w → words ≡ (places w).objects → w.core.blocks < length words
traits_within w words whole same = subst (λ (q : List ℕ). w.core.blocks < length q) (sym same) (slice_get_within (places w).objects w.core.blocks (block_traits w) (traits_there w whole))

pub traits_are : (w : World) (words : List ℕ) (d : ℕ) → IsWhole w → words ≡ (places w).objects → get_or words w.core.blocks d ≡ block_traits w
traits_are w words d whole same = ap (λ (q : List ℕ). get_or q w.core.blocks d) same ∙ get_or_from_slice_get (places w).objects w.core.blocks (block_traits w) d (traits_there w whole)
