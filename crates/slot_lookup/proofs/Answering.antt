-- The answers of sends, from what a walk meets.
use Rattle.std.proofs.Common.{◌≡◌, ℕ, suc, true, false, List, [], ◌∷◌, inl, inr, refl, sym, ap, ◌∙◌, add-one, nat_eq}
use Rattle.std.proofs.lemmas.Bool.{cases_Bool}
use Rattle.std.specs.Prelude.{slice_get, is_some, Option, Some, None}
use Rattle.source_model.specs.Lookup.{found_of, Found as Met}
use Rattle.object_maps.specs.declared.maps.SlotKind.{SlotKind}
use Rattle.object_maps.specs.declared.maps.SlotKind.TheVariants.{Parent}
use Rattle.object_maps.specs.Slots.{Slots, slot_named}
use Rattle.object_maps.specs.Layout.{map_at}
use Rattle.object_maps.specs.Sound.{IsSound, IsValue}
use Rattle.sparc_store.specs.Words.{Words}
use Rattle.slot_lookup.specs.declared.sends.Found.TheVariants.{One}
use Rattle.slot_lookup.specs.Lookup.{has_at, parents_at, slot_at, slots_of, shown, one_of, found_from}
use Rattle.slot_lookup.specs.Walk.{from_parents}
use Rattle.slot_lookup.proofs.Holds.{at_holder, at_other}
use Rattle.slot_lookup.proofs.Marks.{is_value, place_among}

none_kind : (kind : SlotKind) → ◌≡◌ {A = Option SlotKind} None (Some kind) → ⊥
none_kind kind e = cc

some_kind : (a b : SlotKind) → ◌≡◌ {A = Option SlotKind} (Some a) (Some b) → a ≡ b
some_kind a b e = cc

module _ (maps : List Slots) (mem : Words) (room start name : ℕ) where
  pub own_found : (kind : SlotKind) → slot_at maps mem name start ≡ Some kind → One start kind ≡ found_from maps mem room start name
  own_found kind e =
      let holds : has_at maps mem name start ≡ true = ap is_some e in
      sym (rw (add-one, at_holder (has_at maps mem name) (parents_at maps mem) room start [] refl holds) (ap (one_of start) e))

  pub bare : slot_at maps mem name start ≡ None → has_at maps mem name start ≡ false
  bare e = ap is_some e

  pub above_found : slot_at maps mem name start ≡ None → (met : Met) → met ≡ from_parents maps mem room start (Some start) name → shown maps mem name met ≡ found_from maps mem room start name
  above_found e met is =
      ap (shown maps mem name) (is ∙ ap found_of (sym (at_other (has_at maps mem name) (parents_at maps mem) room start [] refl (bare e))))
      ∙ rw add-one refl

slot_place : (name : ℕ) (slots : Slots) (kind : SlotKind) → slot_named name slots ≡ Some kind → (at : ℕ) × ((own : ℕ) × (slice_get slots at ≡ Some (own, kind)))
slot_place name [] kind e = absurd (none_kind kind e)
slot_place name (s ∷ slots) kind e = elim (cases_Bool (nat_eq name s.0)) [
  | inl t ↦ (0, (s.0, ap (λ z. Some (s.0, z)) (some_kind s.1 kind (rw t at e))))
  | inr f ↦ let r = slot_place name slots kind (rw f at e) in (suc r.0, r.1)
]

pub parent_value : (maps : List Slots) (mem : Words) (objects : List ℕ) (sound : IsSound maps mem objects) (name holder to : ℕ) → slot_at maps mem name holder ≡ Some (Parent to) → IsValue maps mem to
parent_value maps mem objects sound name holder to e =
    let r = slot_place name (slots_of maps mem holder) (Parent to) e in
    let s = sound.parent (map_at mem holder) r.0 r.1.0 to r.1.1 in
    is_value maps mem objects sound to (place_among objects s.0 to s.1)
