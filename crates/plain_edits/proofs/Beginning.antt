-- A session over a world knows the maps of blocks where it begins.
use Rattle.std.proofs.Common.{◌≡◌, inl, inr, ℕ, zero, suc, ◌+◌, ◌-◌, ◌≤◌, refl, ◌∙◌, ap, sym, subst, arith, List, [], ◌∷◌, length}
use Rattle.std.proofs.lemmas.Bool.{cases_lt}
use Rattle.std.proofs.lemmas.List.{get_or_past}
use Rattle.std.proofs.lemmas.Option.{slice_get_within}
use Rattle.self_terms.specs.declared.bodies.Body.{Body}
use Rattle.object_maps.specs.Slots.{Slots, slots_in}
use Rattle.source_model.specs.Soundness.{HasBody}
use Rattle.sparc_store.specs.Words.{Words}
use Rattle.heap_cells.specs.Heaps.{IsBlockMap}
use Rattle.world_begins.proofs.Unnamed.{no_block_map}
use Rattle.world_blocks.specs.Sessions.{session_names, block_traits, session_maps}
use Rattle.world_blocks.proofs.Mapped.{is_of, maps_of_blocks, behind, in_front}
use Rattle.world_heap.specs.Heaps.{HasHeap}
use Rattle.world_heap.specs.Images.{Image}
use Rattle.world_heap.specs.Stands.{Stands}
use Rattle.plain_edits.specs.Beginning.{SessionsKnowBlocks}
use Rattle.plain_edits.proofs.Mapped.{numbers_long, no_bare, first_method}

module _ (i : Image) (mem : Words) (stands : Stands i) (has : HasHeap i mem) where
  by_number : (b m : ℕ) → IsBlockMap b (slots_in ([] ∷ maps_of_blocks i.world) m) → HasBody i.world.bodies b
  by_number b zero is = absurd (no_bare b [] refl is)
  by_number b (suc m) is = elim (cases_lt m (length (maps_of_blocks i.world))) [
    | inl lt ↦
        let r = is_of (session_names i.world) (block_traits i.world) 1 m i.world.bodies lt in
        let number : b ≡ 1 + r.k = ap first_method (sym is.are ∙ r.is) in
        (omega (arith, number), omega (arith, number, slice_get_within i.world.bodies r.k r.body r.there))
    | inr ge ↦ absurd (no_bare b (slots_in (maps_of_blocks i.world) m) (get_or_past (maps_of_blocks i.world) m [] ge) is)
  ]

  there : (map b : ℕ) → 3 ≤ map → IsBlockMap b (slots_in (session_maps i) map) → HasBody i.world.bodies b
  there map b three is = elim (cases_lt map (length i.maps)) [
    | inl lt ↦ absurd (no_block_map i mem stands has map b three (subst (λ (q : Slots). IsBlockMap b q) (in_front i map lt) is))
    | inr ge ↦
        let number : map ≡ length i.maps + (map - length i.maps) = omega arith in
        by_number b (map - length i.maps) (subst (λ (q : Slots). IsBlockMap b q) (ap (slots_in (session_maps i)) number ∙ behind i (map - length i.maps)) is)
  ]

pub sessions_know_blocks : SessionsKnowBlocks
sessions_know_blocks i mem h stands has maps blocks bodies = record {
  numbered = ap length blocks ∙ numbers_long (length i.maps + 1) i.world.bodies ∙ sym (ap length bodies);
  there = λ map b three is. subst (λ (bs : List Body). HasBody bs b) (sym bodies) (there i mem stands has map b three (subst (λ (ms : List Slots). IsBlockMap b (slots_in ms map)) maps is));
}
