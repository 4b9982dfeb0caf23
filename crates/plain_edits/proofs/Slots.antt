-- The slot of a name, in an object and in its map, when another method comes there.
use Rattle.std.proofs.Common.{◌≡◌, ℕ, zero, suc, ap, sym, subst, refl, ◌∙◌, Bool, true, false, [], ◌∷◌, set}
use Rattle.std.specs.Prelude.{◌==◌, if◌then◌else◌, cond, slice_get, Option, Some, option_map}
use Rattle.std.proofs.lemmas.Bool.{eqb-true, ne_eqb}
use Rattle.std.proofs.lemmas.Option.{same_Some, none-some}
use Rattle.self_terms.specs.declared.values.BodyId.{BodyId}
use Rattle.object_maps.specs.declared.maps.SlotKind.{SlotKind}
use Rattle.object_maps.specs.declared.maps.SlotKind.TheVariants as kind
use Rattle.object_maps.specs.Slots.{Slots}
use Rattle.source_model.specs.Objects.{Object, slot_named, with_content, replaced}
use Rattle.source_model.specs.declared.objects.Slot.{Slot}
use Rattle.source_model.specs.declared.objects.Content.{Content}
use Rattle.source_model.specs.declared.objects.Content.TheVariants.{Constant, Assignable, Assignment, Parent, Method}
use Rattle.source_model.specs.Canon.{Each}
use Rattle.source_model.proofs.Once.{AreApart}
use Rattle.heap_cells.specs.Laying.{Cells}
use Rattle.heap_cells.specs.Standing.{Places, IsKind, AreKinds, behind}
use Rattle.heap_cells.specs.Edits.{fixed_slot}
use Rattle.plain_edits.specs.Heaps.{with_kind}

-- Where the slot of a name stands: there is a method in the object and in its map, and to put another there is to replace what has the name.
pub record IsSlotAt (name : ℕ) (old : BodyId) (k : SlotKind) (c : Content) (ks : Slots) (slots : Object) : Type 0 where
  pub at : ℕ
  pub in_map : slice_get ks at ≡ Some (name, kind.Method old)
  pub map_is : with_kind name k ks ≡ set ks at (name, k)
  pub slots_are : replaced name c slots ≡ set slots at (fixed_slot name c)

content_eq : (x y : Content) → ◌≡◌ {A = Option Content} (Some x) (Some y) → x ≡ y
content_eq x y e = cc

module _ (h : Cells) (p : Places) (name : ℕ) (old : BodyId) (k : SlotKind) (c : Content) where
  abbrev put : Bool → Slot → Slot
  put t x = if t then with_content c x else x

  abbrev put_kind : Bool → ℕ × SlotKind → ℕ × SlotKind
  put_kind t y = if t then (name, k) else y

  -- where no slot has the name nothing is replaced
  record IsSame (ks : Slots) (slots : Object) : Type 0 where
    map_is : with_kind name k ks ≡ ks
    slots_are : replaced name c slots ≡ slots

  no_other : (n : ℕ) (ks : Slots) (slots : Object) → AreKinds h p n ks slots → Each (λ (y : Slot). y.name ≡ name → ⊥) slots → IsSame ks slots
  no_other n [] [] are apart = record { map_is = refl; slots_are = refl }
  no_other n (y ∷ ys) (x ∷ xs) are apart =
      let rest = no_other (behind n x.content) ys xs are.2 apart.1 in
      let here : (x.name == name) ≡ false = ne_eqb x.name name apart.0 in
      let there : (y.0 == name) ≡ false = ap (λ (m : ℕ). m == name) are.0 ∙ here in
      record {
        map_is = ap (λ (t : Bool). put_kind t y ∷ with_kind name k ys) there ∙ ap (λ (z : Slots). y ∷ z) rest.map_is;
        slots_are = ap (λ (t : Bool). put t x ∷ replaced name c xs) here ∙ ap (λ (z : Object). x ∷ z) rest.slots_are;
      }
  no_other n [] (x ∷ xs) are apart = absurd are
  no_other n (y ∷ ys) [] are apart = absurd are

  -- the kind of a method
  method_kind : (n : ℕ) (l : SlotKind) (d : Content) → IsKind h p n l d → d ≡ Method old → l ≡ kind.Method old
  method_kind n (kind.Method b) (Method e) is same = (let f : Method e ≡ Method old = same in let g : e ≡ old = cc in ap (λ (z : BodyId). kind.Method z) (is ∙ g))
  method_kind n (kind.Constant word) (Constant v) is same = absurd (cc)
  method_kind n (kind.Field at) (Assignable v) is same = absurd (cc)
  method_kind n (kind.Assign at) Assignment is same = absurd (cc)
  method_kind n (kind.Parent word) (Parent o) is same = absurd (cc)
  method_kind n _ _ is same = absurd is

  slot_here : (n : ℕ) (y : ℕ × SlotKind) (ys : Slots) (x : Slot) (xs : Object) → AreKinds h p n (y ∷ ys) (x ∷ xs) → x.name ≡ name → x.content ≡ Method old
      → Each (λ (z : Slot). z.name ≡ x.name → ⊥) xs → (x.name == name) ≡ true → IsSlotAt name old k c (y ∷ ys) (x ∷ xs)
  slot_here n y ys x xs are same method apart test =
      let rest = no_other (behind n x.content) ys xs are.2 (subst (λ (m : ℕ). Each (λ (z : Slot). z.name ≡ m → ⊥) xs) same apart) in
      let there : (y.0 == name) ≡ true = ap (λ (m : ℕ). m == name) are.0 ∙ test in
      let first : y.0 ≡ name = are.0 ∙ same in
      let second : y.1 ≡ kind.Method old = method_kind n y.1 x.content are.1 method in
      record {
        at = 0;
        in_map = λ i. Some (first i, second i);
        map_is = ap (λ (t : Bool). put_kind t y ∷ with_kind name k ys) there ∙ ap (λ (z : Slots). (name, k) ∷ z) rest.map_is;
        slots_are = ap (λ (t : Bool). put t x ∷ replaced name c xs) test ∙ ap (λ (z : Object). with_content c x ∷ z) rest.slots_are ∙ ap (λ (m : ℕ). fixed_slot m c ∷ xs) same;
      }

  slot_later : (y : ℕ × SlotKind) (ys : Slots) (x : Slot) (xs : Object) → y.0 ≡ x.name → (x.name == name) ≡ false → IsSlotAt name old k c ys xs → IsSlotAt name old k c (y ∷ ys) (x ∷ xs)
  slot_later y ys x xs named test rest = record {
    at = suc rest.at;
    in_map = rest.in_map;
    map_is = ap (λ (t : Bool). put_kind t y ∷ with_kind name k ys) (ap (λ (m : ℕ). m == name) named ∙ test) ∙ ap (λ (z : Slots). y ∷ z) rest.map_is;
    slots_are = ap (λ (t : Bool). put t x ∷ replaced name c xs) test ∙ ap (λ (z : Object). x ∷ z) rest.slots_are;
  }

  slot_by : (n : ℕ) (y : ℕ × SlotKind) (ys : Slots) (x : Slot) (xs : Object) (t : Bool) → (x.name == name) ≡ t → AreKinds h p n (y ∷ ys) (x ∷ xs) → Each (λ (z : Slot). z.name ≡ x.name → ⊥) xs
      → option_map (λ (s : Slot). s.content) (cond t (Some x) (slot_named name xs)) ≡ Some (Method old)
      → (option_map (λ (s : Slot). s.content) (slot_named name xs) ≡ Some (Method old) → IsSlotAt name old k c ys xs) → IsSlotAt name old k c (y ∷ ys) (x ∷ xs)
  slot_by n y ys x xs true test are apart e later = slot_here n y ys x xs are (eqb-true x.name name test) (content_eq x.content (Method old) e) apart test
  slot_by n y ys x xs false test are apart e later = slot_later y ys x xs are.0 test (later e)

  pub slot_at : (n : ℕ) (ks : Slots) (slots : Object) → AreKinds h p n ks slots → AreApart slots → option_map (λ (s : Slot). s.content) (slot_named name slots) ≡ Some (Method old) → IsSlotAt name old k c ks slots
  slot_at n [] [] are apart e = absurd (none-some (Method old) e)
  slot_at n (y ∷ ys) (x ∷ xs) are apart e = slot_by n y ys x xs (x.name == name) refl are apart.0 e (slot_at (behind n x.content) ys xs are.2 apart.1)
  slot_at n [] (x ∷ xs) are apart e = absurd are
  slot_at n (y ∷ ys) [] are apart e = absurd are

-- the parents of a map are those that it had
module _ (name : ℕ) (k : SlotKind) where
  pub parents_stay : (ks : Slots) (at n word : ℕ) (b : BodyId) → k ≡ kind.Method b → slice_get (with_kind name k ks) at ≡ Some (n, kind.Parent word) → slice_get ks at ≡ Some (n, kind.Parent word)
  parents_stay [] at n word b is e = e
  parents_stay (y ∷ ys) zero n word b is e = by_test (y.0 == name) e
    where
      by_test : (t : Bool) → ◌≡◌ {A = Option (ℕ × SlotKind)} (Some (if t then (name, k) else y)) (Some (n, kind.Parent word)) → ◌≡◌ {A = Option (ℕ × SlotKind)} (Some y) (Some (n, kind.Parent word))
      by_test true f = absurd (let g : k ≡ kind.Parent word = ap (λ (z : ℕ × SlotKind). z.1) (same_Some (name, k) (n, kind.Parent word) f) in let d : kind.Method b ≡ kind.Parent word = sym is ∙ g in cc)
      by_test false f = f
  parents_stay (y ∷ ys) (suc at) n word b is e = parents_stay ys at n word b is e
