-- No map of a world is that of blocks: its slots have names.
use Rattle.std.proofs.Common.{◌≡◌, inl, inr, refl, sym, ap, subst, ◌∙◌, ℕ, zero, suc, ◌-◌, ◌<◌, ◌≤◌, List, [], ◌∷◌, take, arith}
use Rattle.std.specs.Prelude.{Bool, true, false, ◌||◌, ◌==◌, cond, is_some, nat_eq, Option, Some, slice_get}
use Rattle.std.proofs.lemmas.Bool.{cases_lt}
use Rattle.std.proofs.lemmas.List.{get_or_past}
use Rattle.std.proofs.lemmas.Option.{slice_get_within}
use Rattle.object_maps.specs.declared.maps.SlotKind.{SlotKind}
use Rattle.object_maps.specs.declared.maps.SlotKind.TheVariants as kind
use Rattle.object_maps.specs.Slots.{Slots, slots_in, slot_named}
use Rattle.source_model.specs.Objects.{owns}
use Rattle.source_model.specs.declared.objects.Slot.{Slot}
use Rattle.source_model.specs.declared.objects.Thing.{Thing}
use Rattle.source_model.specs.declared.objects.Thing.TheVariants.{Plain as plain, Vector as vector, Text as string}
use Rattle.sparc_store.specs.Words.{Words}
use Rattle.heap_cells.specs.Shapes.{Cell, Plain}
use Rattle.heap_cells.specs.Standing.{IsThing}
use Rattle.heap_cells.specs.Heaps.{IsBlockMap, IsTold}
use Rattle.heap_cells.proofs.Looking.{kinds_own, name_test}
use Rattle.heap_cells.proofs.Numbered.{got_if}
use Rattle.world_build.specs.Worlds.{World}
use Rattle.world_heap.specs.Heaps.{places, HasHeap}
use Rattle.world_heap.specs.Images.{Image}
use Rattle.world_heap.specs.Kinds.{map_from, kind_of, behind}
use Rattle.world_heap.specs.Stands.{plains, map_number, Stands}

-- the object of slots that has a map
record IsNth (xs : List Thing) (m : ℕ) : Type 0 where
  number : ℕ
  slots : List Slot
  there : slice_get xs number ≡ Some (plain slots)
  before : plains (take number xs) ≡ m

nth_plain : (xs : List Thing) (m : ℕ) → m < plains xs → IsNth xs m
nth_plain [] m lt = absurd (omega arith)
nth_plain (plain ss ∷ xs) zero lt = record { number = 0; slots = ss; there = refl; before = refl }
nth_plain (plain ss ∷ xs) (suc m) lt = let r = nth_plain xs m (omega arith) in let b = r.before in record { number = suc r.number; slots = r.slots; there = r.there; before = omega arith }
nth_plain (vector v ∷ xs) m lt = let r = nth_plain xs m lt in record { number = suc r.number; slots = r.slots; there = r.there; before = r.before }
nth_plain (string t ∷ xs) m lt = let r = nth_plain xs m lt in record { number = suc r.number; slots = r.slots; there = r.there; before = r.before }

some_or : (b : Bool) (k : SlotKind) (r : Option SlotKind) → is_some (cond b (Some k) r) ≡ (b || is_some r)
some_or true k r = refl
some_or false k r = refl

-- a map has the names of its object's slots
map_owns : (w : World) (name n : ℕ) (ss : List Slot) → is_some (slot_named name (map_from w n ss)) ≡ owns name ss
map_owns w name n [] = refl
map_owns w name n (s ∷ ss) =
    some_or (nat_eq name s.name) (kind_of w n s.content) (slot_named name (map_from w (behind n s.content) ss))
    ∙ ap (λ b. b || is_some (slot_named name (map_from w (behind n s.content) ss))) (name_test name s.name s.name refl)
    ∙ ap (λ b. (s.name == name) || b) (map_owns w name (behind n s.content) ss)

-- that of blocks has a slot of the name 0
either_some : (b : Bool) (x y : SlotKind) → is_some (cond b (Some x) (Some y)) ≡ true
either_some true x y = refl
either_some false x y = refl

block_owns : (body : ℕ) (slots : Slots) → IsBlockMap body slots → is_some (slot_named 0 slots) ≡ true
block_owns body slots is = ap (λ (q : Slots). is_some (slot_named 0 q)) is.are ∙ either_some (nat_eq 0 is.evaluator) (kind.Method (record { 0 = body })) (kind.Parent is.traits)

module _ (i : Image) (mem : Words) (stands : Stands i) (has : HasHeap i mem) where
  -- no slot of an object has it
  by_cell : (n : ℕ) (slots : List Slot) (c : Cell) → IsThing i.maps has.cells (places i.world) n (plain slots) c → IsTold i.maps c → owns 0 slots ≡ false
  by_cell n slots (Plain number map words) is told = sym (kinds_own has.cells (places i.world) 0 0 (slots_in i.maps map) slots is.2) ∙ ap is_some told
  by_cell n slots _ is told = absurd is

  object_owns : (n : ℕ) (slots : List Slot) → slice_get i.world.things n ≡ Some (plain slots) → owns 0 slots ≡ false
  object_owns n slots at =
      let lt = slice_get_within i.world.things n (plain slots) at in
      let w = got_if (places i.world).objects n (let all = has.is.means.objects_all in omega arith) in
      let o = has.is.means.object n w.0 (plain slots) w.1 at in
      by_cell n slots o.cell o.is (has.is.told (w.0 - 1) o.cell o.there.1)

  not_both : (b : Bool) → b ≡ true → b ≡ false → ⊥
  not_both true e f = cc
  not_both false e f = cc

  object_map : (n : ℕ) (slots : List Slot) (body : ℕ) → slice_get i.world.things n ≡ Some (plain slots) → IsBlockMap body (slots_in i.maps (map_number i.world n)) → ⊥
  object_map n slots body at is =
      not_both (is_some (slot_named 0 (slots_in i.maps (map_number i.world n)))) (block_owns body (slots_in i.maps (map_number i.world n)) is)
      (ap (λ (q : Slots). is_some (slot_named 0 q)) (stands.objects n slots at).described ∙ map_owns i.world 0 0 slots ∙ object_owns n slots at)

  past : (body : ℕ) (slots : Slots) → slots ≡ [] → IsBlockMap body slots → ⊥
  past body slots e is = not_both (is_some (slot_named 0 slots)) (block_owns body slots is) (ap (λ (q : Slots). is_some (slot_named 0 q)) e)

  pub no_block_map : (map body : ℕ) → 3 ≤ map → IsBlockMap body (slots_in i.maps map) → ⊥
  no_block_map map body three is = elim (cases_lt (map - 3) (plains i.world.things)) [
    | inl lt ↦
        let r = nth_plain i.world.things (map - 3) lt in
        let before = r.before in
        let same : map ≡ map_number i.world r.number = omega arith in
        object_map r.number r.slots body r.there (subst (λ (q : ℕ). IsBlockMap body (slots_in i.maps q)) same is)
    | inr ge ↦ past body (slots_in i.maps map) (get_or_past i.maps map [] (let each = stands.each in omega arith)) is
  ]
