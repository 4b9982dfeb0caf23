-- Two memories that agree on all that a lookup reaches.
use Rattle.std.proofs.Common.{◌≡◌, refl, ap, ◌∙◌, ℕ, zero, suc, ◌+◌, Bool, true, false, List, [], ◌∷◌, ◌++◌}
use Rattle.std.specs.Prelude.{Option, Some, None, slice_get, ◌==◌, cond, fold, flat_map, is_some}
use Rattle.std.specs.List.{list_any}
use Rattle.object_maps.specs.declared.maps.SlotKind.{SlotKind}
use Rattle.object_maps.specs.declared.maps.SlotKind.TheVariants as kind
use Rattle.object_maps.specs.Layout.{map_at, number_at}
use Rattle.object_maps.specs.Slots.{Slots, slots_in, slot_named, parents_in}
use Rattle.source_model.specs.Lookup.{Found as Met, NotUnderstood as none_met, One as one_met, Ambiguous as two_met, holders, found_of, also}
use Rattle.sparc_store.specs.Words.{Words}
use Rattle.slot_lookup.specs.declared.sends.Found.TheVariants.{Ambiguous}
use Rattle.slot_lookup.specs.Lookup.{slots_of, slot_at, has_at, parents_at, one_of, shown, found_from, found_above, found_through}
use Rattle.heap_cells.proofs.Renaming.{AllIn, all_append}
use Rattle.plain_lookups.specs.Looking.{FindSame}

module _ (P : ℕ → Type 0) where
  abbrev pub IsIn : Met → Type 0
  IsIn none_met = Unit {0}
  IsIn (one_met x) = P x
  IsIn (two_met x y) = P x × P y

  also_in : (q : Met) (x : ℕ) → IsIn q → P x → IsIn (also q x)
  also_in none_met x iq ix = ix
  also_in (one_met y) x iq ix = by_test (y == x)
    where
      by_test : (b : Bool) → IsIn (cond b (one_met y) (two_met y x))
      by_test true = iq
      by_test false = (iq, ix)
  also_in (two_met y u) x iq ix = iq

  fold_in : (q : Met) (xs : List ℕ) → IsIn q → AllIn P xs → IsIn (fold also q xs)
  fold_in q [] iq all = iq
  fold_in q (x ∷ xs) iq all = fold_in (also q x) xs (also_in q x iq all.0) all.1

  flat_in : (e : ℕ → List ℕ) (ps : List ℕ) → ((p : ℕ) → P p → AllIn P (e p)) → AllIn P ps → AllIn P (flat_map e ps)
  flat_in e [] each all = tt
  flat_in e (p ∷ ps) each all = all_append P (e p) (flat_map e ps) (each p all.0) (flat_in e ps each all.1)

  flat_same : (g e : ℕ → List ℕ) (ps : List ℕ) → ((p : ℕ) → P p → g p ≡ e p) → AllIn P ps → flat_map g ps ≡ flat_map e ps
  flat_same g e [] each all = refl
  flat_same g e (p ∷ ps) each all = ap (λ z. z ++ flat_map g ps) (each p all.0) ∙ ap (λ z. e p ++ z) (flat_same g e ps each all.1)

  -- each parent of some slots
  abbrev pub ParentsIn : Slots → Type 0
  ParentsIn ks = (at name word : ℕ) → slice_get ks at ≡ Some (name, kind.Parent word) → P word

  parents_all : (ks : Slots) → ParentsIn ks → AllIn P (parents_in ks)
  parents_all [] given = tt
  parents_all ((name, kind.Parent word) ∷ ks) given = (given 0 name word refl, parents_all ks (λ at n w is. given (suc at) n w is))
  parents_all ((name, kind.Constant word) ∷ ks) given = parents_all ks (λ at n w is. given (suc at) n w is)
  parents_all ((name, kind.Field place) ∷ ks) given = parents_all ks (λ at n w is. given (suc at) n w is)
  parents_all ((name, kind.Assign place) ∷ ks) given = parents_all ks (λ at n w is. given (suc at) n w is)
  parents_all ((name, kind.Method body) ∷ ks) given = parents_all ks (λ at n w is. given (suc at) n w is)

  named_in : (name : ℕ) (ks : Slots) (to : ℕ) → ParentsIn ks → slot_named name ks ≡ Some (kind.Parent to) → P to
  named_in name [] to given is = absurd (cc)
  named_in name (k ∷ ks) to given is = by_test (name == k.0) is (λ e. named_in name ks to (λ at n w there. given (suc at) n w there) e)
    where
      first : (x : SlotKind) → k.1 ≡ x → x ≡ kind.Parent to → P to
      first x e f = given 0 k.0 to (ap (λ y. Some (k.0, y)) (e ∙ f))

      by_test : (b : Bool) → cond b (Some k.1) (slot_named name ks) ≡ Some (kind.Parent to) → (slot_named name ks ≡ Some (kind.Parent to) → P to) → P to
      by_test true e more = first k.1 refl (let f : Some k.1 ≡ Some (kind.Parent to) = e in cc)
      by_test false e more = more e

module _ (maps : List Slots) (mem other : Words) (P : ℕ → Type 0) (map_same : (w : ℕ) → P w → map_at mem w ≡ map_at other w) (number_same : (w : ℕ) → P w → number_at mem w ≡ number_at other w)
    (parents : (map : ℕ) → ParentsIn P (slots_in maps map)) where
  slots_same : (w : ℕ) → P w → slots_of maps mem w ≡ slots_of maps other w
  slots_same w p = ap (slots_in maps) (map_same w p)

  slot_same : (name w : ℕ) → P w → slot_at maps mem name w ≡ slot_at maps other name w
  slot_same name w p = ap (slot_named name) (slots_same w p)

  has_same : (name w : ℕ) → P w → has_at maps mem name w ≡ has_at maps other name w
  has_same name w p = ap is_some (slot_same name w p)

  parents_same : (w : ℕ) → P w → parents_at maps mem w ≡ parents_at maps other w
  parents_same w p = ap parents_in (slots_same w p)

  parents_there : (w : ℕ) → AllIn P (parents_at maps other w)
  parents_there w = parents_all P (slots_of maps other w) (parents (map_at other w))

  holders_same : (name n o : ℕ) (visited : List ℕ) → P o → holders (has_at maps mem name) (parents_at maps mem) n o visited ≡ holders (has_at maps other name) (parents_at maps other) n o visited
  unfolding holders
  holders_same name zero o visited p = refl
  holders_same name (suc n) o visited p =
      let walk : ℕ → List ℕ = λ q. holders (has_at maps mem name) (parents_at maps mem) n q (o ∷ visited) in
      let walks : ℕ → List ℕ = λ q. holders (has_at maps other name) (parents_at maps other) n q (o ∷ visited) in
      ap (λ b. cond (list_any (λ v. o == v) visited) [] (cond b (o ∷ []) (flat_map walk (parents_at maps mem o)))) (has_same name o p)
      ∙ ap (λ zs. cond (list_any (λ v. o == v) visited) [] (cond (has_at maps other name o) (o ∷ []) zs))
      (ap (flat_map walk) (parents_same o p) ∙ flat_same P walk walks (parents_at maps other o) (λ q iq. holders_same name n q (o ∷ visited) iq) (parents_there o))

  holders_in : (name n o : ℕ) (visited : List ℕ) → P o → AllIn P (holders (has_at maps other name) (parents_at maps other) n o visited)
  unfolding holders
  holders_in name zero o visited p = tt
  holders_in name (suc n) o visited p =
      inner (list_any (λ v. o == v) visited) (has_at maps other name o) (flat_map (λ q. holders (has_at maps other name) (parents_at maps other) n q (o ∷ visited)) (parents_at maps other o))
      (flat_in P (λ q. holders (has_at maps other name) (parents_at maps other) n q (o ∷ visited)) (parents_at maps other o) (λ q iq. holders_in name n q (o ∷ visited) iq) (parents_there o))
    where
      inner : (b c : Bool) (xs : List ℕ) → AllIn P xs → AllIn P (cond b [] (cond c (o ∷ []) xs))
      inner true c xs all = tt
      inner false true xs all = (p, tt)
      inner false false xs all = all

  shown_same : (name : ℕ) (q : Met) → IsIn P q → shown maps mem name q ≡ shown maps other name q
  shown_same name none_met iq = refl
  shown_same name (one_met x) iq = ap (one_of x) (slot_same name x iq)
  shown_same name (two_met x y) iq = λ i. Ambiguous (number_same x iq.0 i) (number_same y iq.1 i)

  pub from_same : (room w name : ℕ) → P w → found_from maps mem room w name ≡ found_from maps other room w name
  from_same room w name p =
      let there = holders (has_at maps other name) (parents_at maps other) (room + 1) w [] in
      ap (λ xs. shown maps mem name (found_of xs)) (holders_same name (room + 1) w [] p)
      ∙ shown_same name (found_of there) (fold_in P none_met there tt (holders_in name (room + 1) w [] p))

  pub above_same : (room w name : ℕ) → P w → found_above maps mem room w name ≡ found_above maps other room w name
  above_same room w name p =
      let walk : ℕ → List ℕ = λ q. holders (has_at maps mem name) (parents_at maps mem) room q [] in
      let walks : ℕ → List ℕ = λ q. holders (has_at maps other name) (parents_at maps other) room q [] in
      let there = flat_map walks (parents_at maps other w) in
      ap (λ xs. shown maps mem name (found_of xs))
      (ap (flat_map walk) (parents_same w p) ∙ flat_same P walk walks (parents_at maps other w) (λ q iq. holders_same name room q [] iq) (parents_there w))
      ∙ shown_same name (found_of there) (fold_in P none_met there tt (flat_in P walks (parents_at maps other w) (λ q iq. holders_in name room q [] iq) (parents_there w)))

  by_slot : (room name : ℕ) (k : Option SlotKind) → ((to : ℕ) → k ≡ Some (kind.Parent to) → P to) → found_through maps mem room k name ≡ found_through maps other room k name
  by_slot room name None given = refl
  by_slot room name (Some (kind.Parent to)) given = from_same room to name (given to refl)
  by_slot room name (Some (kind.Constant w)) given = refl
  by_slot room name (Some (kind.Field at)) given = refl
  by_slot room name (Some (kind.Assign at)) given = refl
  by_slot room name (Some (kind.Method b)) given = refl

  pub through_same : (room w parent name : ℕ) → P w → found_through maps mem room (slot_at maps mem parent w) name ≡ found_through maps other room (slot_at maps other parent w) name
  through_same room w parent name p =
      ap (λ k. found_through maps mem room k name) (slot_same parent w p)
      ∙ by_slot room name (slot_at maps other parent w) (λ to is. named_in P parent (slots_of maps other w) to (parents (map_at other w)) is)

  pub find_same : (w : ℕ) → P w → FindSame maps mem other w
  find_same w p = record {
    from = λ room name. from_same room w name p;
    above = λ room name. above_same room w name p;
    through = λ room parent name. through_same room w parent name p;
  }
