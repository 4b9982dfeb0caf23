-- The maps behind an edit by their numbers.
use Rattle.std.proofs.Common.{◌≡◌, ◌⊎◌, inl, inr, ℕ, zero, suc, ◌+◌, ◌-◌, ◌<◌, ◌≤◌, refl, ◌∙◌, ap, sym, subst, arith, Bool, true, false, List, [], ◌∷◌, length, length-append}
use Rattle.std.specs.Prelude.{Option, Some, None, nat_eq, cond, slice_get}
use Rattle.std.proofs.lemmas.Bool.{cases_lt, eq-eqb}
use Rattle.std.proofs.lemmas.List.{get_or-append-add, get_or_append_left, get_or_past}
use Rattle.std.proofs.lemmas.Option.{same_Some, none-some, slice_get_within}
use Rattle.self_terms.specs.declared.bodies.Body.{Body}
use Rattle.self_terms.specs.declared.values.BodyId.{BodyId}
use Rattle.object_maps.specs.declared.maps.SlotKind.{SlotKind}
use Rattle.object_maps.specs.declared.maps.SlotKind.TheVariants as kind
use Rattle.object_maps.specs.Layout.{map_at}
use Rattle.object_maps.specs.Slots.{Slots, slots_in, slot_named}
use Rattle.source_model.specs.Soundness.{HasBody}
use Rattle.sparc_store.specs.Words.{Words}
use Rattle.heap_cells.specs.Heaps.{IsBlockMap}
use Rattle.plain_runs.specs.Host.{Host}
use Rattle.world_blocks.specs.Sessions.{block_map, block_maps, number_behind, numbers_from}
use Rattle.world_blocks.proofs.Mapped.{is_of}
use Rattle.plain_edits.specs.Edits.{Edit, edited_map, with_edit, KnowsBlocks}
use Rattle.plain_edits.proofs.Slots.{parents_stay}

-- a slot that is there has a name
none_after : (b : Bool) (k : SlotKind) (m : Option SlotKind) → cond b (Some k) m ≡ None → m ≡ None
none_after true k m e = absurd (none-some k (sym e))
none_after false k m e = e

named_there : (ks : Slots) (at n : ℕ) (k : SlotKind) → slot_named n ks ≡ None → slice_get ks at ≡ Some (n, k) → ⊥
named_there [] at n k none is = none-some (n, k) is
named_there (y ∷ ys) zero n k none is =
    let same : n ≡ y.0 = sym (ap (λ (z : ℕ × SlotKind). z.0) (same_Some y (n, k) is)) in
    none-some y.1 (sym none ∙ ap (λ (b : Bool). cond b (Some y.1) (slot_named n ys)) (eq-eqb n y.0 same))
named_there (y ∷ ys) (suc at) n k none is = named_there ys at n k (none_after (nat_eq n y.0) y.1 (slot_named n ys) none) is

-- there are as many numbers as bodies
pub numbers_long : (next : ℕ) (xs : List Body) → length (numbers_from next xs) ≡ length xs
numbers_long next [] = refl
numbers_long next (x ∷ xs) = ap suc (numbers_long (number_behind next x.outer) xs)

pub no_bare : (body : ℕ) (slots : Slots) → slots ≡ [] → IsBlockMap body slots → ⊥
no_bare body slots e is = let are = is.are in cc

abbrev pub method_of : SlotKind → ℕ
method_of (kind.Method b) = b.0
method_of _ = 0

abbrev pub first_method : Slots → ℕ
first_method [] = 0
first_method (s ∷ ss) = method_of s.1

-- a map of blocks behind an edit was there, or is that of a new body
pub record IsNew (h : Host) (e : Edit) (memory : Words) (map b : ℕ) : Type 0 where
  pub k : ℕ
  pub body : Body
  pub there : slice_get e.bodies k ≡ Some body
  pub number : b ≡ length h.bodies + 1 + k
  pub is : slots_in (with_edit e memory h).maps map ≡ block_map e.names e.traits b body

module _ (h : Host) (e : Edit) (memory : Words) (zero_free : slot_named 0 (slots_in h.maps (map_at h.machine.memory e.word)) ≡ None) where
  abbrev to : Host
  to = with_edit e memory h

  abbrev blocks : List Slots
  blocks = block_maps e.names e.traits (length h.bodies + 1) e.bodies

  pub in_front : (map : ℕ) → map < length h.maps → slots_in to.maps map ≡ slots_in h.maps map
  in_front map lt = get_or_append_left h.maps (edited_map e h ∷ blocks) [] map lt

  pub behind : (n : ℕ) → slots_in to.maps (length h.maps + n) ≡ slots_in (edited_map e h ∷ blocks) n
  behind n = get_or-append-add h.maps (edited_map e h ∷ blocks) n []

  -- the object's map is none of blocks
  no_block : (b : ℕ) → IsBlockMap b (edited_map e h) → ⊥
  no_block b is =
      let first : BodyId = record { 0 = length h.bodies + 1 } in
      let ks = slots_in h.maps (map_at h.machine.memory e.word) in
      let there : slice_get (edited_map e h) 1 ≡ Some (0, kind.Parent is.traits) = ap (λ (q : Slots). slice_get q 1) is.are in
      named_there ks 1 0 (kind.Parent is.traits) zero_free (parents_stay e.text.name (kind.Method first) ks 1 0 is.traits first refl there)

  new_by : (map b m : ℕ) → slots_in to.maps map ≡ slots_in blocks m → IsBlockMap b (slots_in blocks m) → IsNew h e memory map b
  new_by map b m slots is = elim (cases_lt m (length blocks)) [
    | inl lt ↦
        let r = is_of e.names e.traits (length h.bodies + 1) m e.bodies lt in
        let number : b ≡ length h.bodies + 1 + r.k = ap first_method (sym is.are ∙ r.is) in
        record { k = r.k; body = r.body; there = r.there; number = number; is = slots ∙ r.is ∙ ap (λ (n : ℕ). block_map e.names e.traits n r.body) (sym number) }
    | inr ge ↦ absurd (no_bare b (slots_in blocks m) (get_or_past blocks m [] ge) is)
  ]

  by_place : (map b n : ℕ) → slots_in to.maps map ≡ slots_in (edited_map e h ∷ blocks) n → IsBlockMap b (slots_in (edited_map e h ∷ blocks) n) → IsNew h e memory map b
  by_place map b zero slots is = absurd (no_block b is)
  by_place map b (suc m) slots is = new_by map b m slots is

  pub which : (map b : ℕ) → IsBlockMap b (slots_in to.maps map) → (map < length h.maps) ⊎ IsNew h e memory map b
  which map b is = elim (cases_lt map (length h.maps)) [
    | inl lt ↦ inl lt
    | inr ge ↦
        let number : map ≡ length h.maps + (map - length h.maps) = omega arith in
        let slots = ap (slots_in to.maps) number ∙ behind (map - length h.maps) in
        inr (by_place map b (map - length h.maps) slots (subst (IsBlockMap b) slots is))
  ]

  -- each map of blocks is that of a body that is there
  there_in : KnowsBlocks h → (map b : ℕ) → 3 ≤ map → IsBlockMap b (slots_in to.maps map) → HasBody to.bodies b
  there_in knows map b three is = elim (which map b is) [
    | inl lt ↦ let old = knows.there map b three (subst (IsBlockMap b) (in_front map lt) is) in (old.0, omega (arith, old.1, length-append h.bodies e.bodies))
    | inr n ↦ (omega (arith, n.number), omega (arith, n.number, slice_get_within e.bodies n.k n.body n.there, length-append h.bodies e.bodies))
  ]

  pub knows_in : KnowsBlocks h → KnowsBlocks to
  knows_in knows = record {
    numbered = omega (arith, knows.numbered, length-append h.bodies e.bodies, length-append h.references.blocks (numbers_from (length h.maps + 1) e.bodies), numbers_long (length h.maps + 1) e.bodies);
    there = there_in knows;
  }
