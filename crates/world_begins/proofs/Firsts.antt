-- Where a session begins, the raw state stands for the state of the source.
use Rattle.std.proofs.Common.{◌≡◌, refl, sym, subst, ℕ, List, [], ◌∷◌, arith}
use Rattle.std.specs.Prelude.{Some, slice_get}
use Rattle.object_maps.specs.declared.layout.Heap.{Heap}
use Rattle.object_maps.specs.declared.maps.SlotKind.{SlotKind}
use Rattle.object_maps.specs.declared.maps.SlotKind.TheVariants as kind
use Rattle.object_maps.specs.Slots.{Slots, slots_in}
use Rattle.source_model.specs.declared.objects.Content.TheVariants.{Parent}
use Rattle.source_model.specs.Messages.{kin}
use Rattle.source_model.specs.State.{State}
use Rattle.sparc_store.specs.Words.{Words}
use Rattle.heap_cells.specs.Laying.{Cells}
use Rattle.heap_cells.specs.Standing.{Places, IsKind, AreKinds}
use Rattle.heap_cells.specs.Heaps.{IsBlockMap, IsHeap}
use Rattle.heap_cells.proofs.Reading.{heap_sound}
use Rattle.frame_walk.specs.Raw.{Raw}
use Rattle.raw_steps.specs.Begins.{Begins}
use Rattle.raw_steps.proofs.Beginning.{begins_is}
use Rattle.world_heap.specs.Heaps.{places, HasHeap}
use Rattle.world_heap.specs.Images.{Image}
use Rattle.world_heap.specs.Stands.{Stands as StandsFor}
use Rattle.world_state.specs.Begun.{begun}
use Rattle.world_begins.specs.Fresh.{IsFresh, BeginsCore}
use Rattle.world_begins.proofs.Alone.{world_alone}
use Rattle.world_begins.proofs.Unnamed.{no_block_map}

-- what a map says of a parent lies in the places of objects alone
parent_placed : (h new : Cells) (p to : Places) (traits : ℕ) (k : SlotKind) → to.objects ≡ p.objects → IsKind h p 0 k (Parent traits) → IsKind new to 0 k (Parent traits)
parent_placed h new p to traits (kind.Parent word) same is = subst (λ (q : List ℕ). slice_get q traits ≡ Some word) (sym same) is
parent_placed h new p to traits (kind.Constant word) same is = absurd is
parent_placed h new p to traits (kind.Field at) same is = absurd is
parent_placed h new p to traits (kind.Assign at) same is = absurd is
parent_placed h new p to traits (kind.Method b) same is = absurd is

kin_placed : (h new : Cells) (p to : Places) (traits : ℕ) (ks : Slots) → to.objects ≡ p.objects → AreKinds h p 0 ks (kin traits) → AreKinds new to 0 ks (kin traits)
kin_placed h new p to traits [] same are = absurd are
kin_placed h new p to traits (k ∷ []) same are = (are.0, parent_placed h new p to traits k.1 same are.1, tt)
kin_placed h new p to traits (k ∷ l ∷ ks) same are = absurd are.2

module _ (i : Image) (mem : Words) (r : Raw) (names : List (List ℕ)) (advisors : ℕ) (stands : StandsFor i) (was : HasHeap i mem) (fresh : IsFresh i mem r) where
  has : HasHeap i r.mem
  has = world_alone i mem r.mem was fresh.words

  abbrev s : State
  s = begun i.world names advisors

  heap : IsHeap r.maps r.mem r.heap has.cells (places i.world) s.things []
  heap =
      subst (λ (q : List Slots). IsHeap q r.mem r.heap has.cells (places i.world) s.things []) (sym fresh.maps)
      (subst (λ (q : Heap). IsHeap i.maps r.mem q has.cells (places i.world) s.things []) (sym fresh.heap) has.is)

  begins : Begins r s (places i.world)
  begins = begins_is r s has.cells (places i.world) heap refl fresh.threads refl fresh.current fresh.steps fresh.cost (omega arith)

  kin_says : (map traits : ℕ) → AreKinds has.cells (places i.world) 0 (slots_in i.maps map) (kin traits) → AreKinds begins.sense.cells begins.sense.places 0 (slots_in r.maps map) (kin traits)
  kin_says map traits are =
      kin_placed has.cells begins.sense.cells (places i.world) begins.sense.places traits (slots_in r.maps map) begins.objects
      (subst (λ (q : List Slots). AreKinds has.cells (places i.world) 0 (slots_in q map) (kin traits)) (sym fresh.maps) are)

  pub begins_core : BeginsCore i r s
  begins_core = record {
    sense = begins.sense;
    stands = begins.stands;
    objects = begins.objects;
    core = record {
      kin_of = record { text = kin_says 1 i.world.core.strings has.kin_of.text; vector = kin_says 2 i.world.core.vectors has.kin_of.vector };
      integers = kin_says 0 i.world.core.integers has.integers;
      blocks = λ map b three is. absurd (no_block_map i r.mem stands has map b.0 three (subst (λ (q : List Slots). IsBlockMap b.0 (slots_in q map)) fresh.maps is));
    };
    sound = heap_sound r.maps r.mem r.heap begins.sense.cells begins.sense.places s.things begins.sense.made begins.stands.heap;
    room = begins.stands.heap.means.objects_all;
  }
