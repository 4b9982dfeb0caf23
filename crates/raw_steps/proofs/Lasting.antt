-- What the maps say of integers, strings, vectors and blocks stays true in a step.
use Rattle.std.proofs.Common.{◌≡◌, ap, refl, sym, subst, ℕ, List, [], ◌∷◌, arith}
use Rattle.self_terms.specs.declared.values.BodyId.{BodyId}
use Rattle.source_model.specs.Messages.{kin, block_slots}
use Rattle.source_model.specs.State.{State}
use Rattle.source_model.specs.declared.objects.Core.{Core}
use Rattle.source_model.specs.Objects.{Object}
use Rattle.source_model.specs.Step.{step}
use Rattle.object_maps.specs.Slots.{Slots, slots_in}
use Rattle.heap_cells.specs.Heaps.{IsBlockMap}
use Rattle.heap_cells.specs.Standing.{AreValues, AreKinds, Grows}
use Rattle.heap_cells.specs.Shapes.{Plain}
use Rattle.heap_cells.specs.Source.{Slotted, fields}
use Rattle.heap_cells.proofs.Growing.{thing_grows}
use Rattle.frame_walk.specs.Raw.{Raw}
use Rattle.raw_steps.specs.Fixed.{IsFixed}
use Rattle.raw_steps.specs.Stands.{Sense, Follows}
use Rattle.raw_steps.specs.Meeting.{HasCore}
use Rattle.raw_steps.proofs.Fixed.{step_fixed}

-- the same maps, where cells grow and the core, names and bodies stay
module _ (z to : Sense) (r to_raw : Raw) (s t : State) (has : HasCore r s z) (g : Grows z.cells to.cells z.places to.places) (maps : to_raw.maps ≡ r.maps) (d : IsFixed s t) where
  -- a map of slots without data is that of an object without words
  bare_grows : (ks : Slots) (ss : Object) → AreValues z.cells z.places (fields ss) [] → AreKinds z.cells z.places 0 ks ss → AreKinds to.cells to.places 0 ks ss
  bare_grows ks ss bare are = (thing_grows z.cells to.cells z.places to.places g ([] ∷ [] ∷ [] ∷ ks ∷ []) 0 (Slotted ss) (Plain 0 3 []) (refl, omega arith, are, bare)).2

  says : (map : ℕ) (old new : Object) → new ≡ old → AreValues z.cells z.places (fields old) [] → AreKinds z.cells z.places 0 (slots_in r.maps map) old → AreKinds to.cells to.places 0 (slots_in to_raw.maps map) new
  says map old new same bare are =
      subst (λ (q : List Slots). AreKinds to.cells to.places 0 (slots_in q map) new) (sym maps)
      (subst (λ (q : Object). AreKinds to.cells to.places 0 (slots_in r.maps map) q) (sym same) (bare_grows (slots_in r.maps map) old bare are))

  block_same : (b : BodyId) → block_slots t b ≡ block_slots s b
  block_same b = λ i. block_slots (record s { names = d.names i; core = d.core i; bodies = d.bodies i }) b

  pub core_stays : HasCore to_raw t to
  core_stays = record {
    kin_of = record {
      text = says 1 (kin s.core.strings) (kin t.core.strings) (ap (λ (q : Core). kin q.strings) d.core) tt has.kin_of.text;
      vector = says 2 (kin s.core.vectors) (kin t.core.vectors) (ap (λ (q : Core). kin q.vectors) d.core) tt has.kin_of.vector;
    };
    integers = says 0 (kin s.core.integers) (kin t.core.integers) (ap (λ (q : Core). kin q.integers) d.core) tt has.integers;
    blocks = λ map b three is.
        says map (block_slots s b) (block_slots t b) (block_same b) tt (has.blocks map b three (subst (λ (q : List Slots). IsBlockMap b.0 (slots_in q map)) maps is));
  }

pub core_lasts : (z : Sense) (r to_raw : Raw) (s : State) (out : List ℕ) → HasCore r s z → (f : Follows z to_raw (step s) out) → to_raw.maps ≡ r.maps → HasCore to_raw (step s).state f.to
core_lasts z r to_raw s out has f maps = core_stays z f.to r to_raw s (step s).state has f.grows maps (step_fixed s)
