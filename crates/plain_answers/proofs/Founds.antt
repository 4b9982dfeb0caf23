-- What lookups over words tell of what a message meets, beside data.
use Rattle.std.proofs.Common.{◌≡◌, ◌⊎◌, inl, inr, refl, sym, ap, subst, ◌∙◌, ℕ, zero, suc, ◌+◌, ◌*◌, ◌<◌, ◌≤◌, List, [], ◌∷◌, ◌++◌, length, arith}
use Rattle.std.specs.Prelude.{Some, None, slice_get, true}
use Rattle.std.proofs.lemmas.Bool.{cases_lt}
use Rattle.std.proofs.lemmas.List.{length-map, length_push, get_or_push}
use Rattle.std.proofs.lemmas.Option.{same_Some, none-some, get_or_from_slice_get}
use Rattle.self_terms.specs.declared.errors.ErrorName.{ErrorName}
use Rattle.self_terms.specs.declared.errors.ErrorName.TheVariants as errors
use Rattle.self_terms.specs.declared.values.BodyId.{BodyId}
use Rattle.self_terms.specs.declared.values.Value.{Value}
use Rattle.self_terms.specs.declared.values.Value.TheVariants as values
use Rattle.object_maps.specs.declared.maps.SlotKind.TheVariants as kind
use Rattle.slot_lookup.specs.declared.sends.Found.{Found}
use Rattle.slot_lookup.specs.declared.sends.Found.TheVariants.{NotUnderstood, One, Ambiguous}
use Rattle.slot_lookup.specs.Lookup.{found_from, found_above, found_through, slot_at}
use Rattle.sparc_store.specs.Words.{HasWord}
use Rattle.source_model.specs.Canon.{Each}
use Rattle.source_model.specs.Formed.{AreTied, ThingFits, IsWellFormed}
use Rattle.source_model.specs.Messages.{Met, Missing, Holds, kin, block_slots, body_of, slots_of, objects, meets, meets_above, meets_through}
use Rattle.source_model.specs.Names.{number_of, evaluator}
use Rattle.source_model.specs.Objects.{Object, slots_at, is_assignable}
use Rattle.source_model.specs.State.{State}
use Rattle.source_model.specs.declared.objects.Content.{Content}
use Rattle.source_model.specs.declared.objects.Content.TheVariants.{Constant, Assignable, Assignment, Parent, Method}
use Rattle.source_model.specs.declared.objects.Slot.{Slot}
use Rattle.source_model.specs.declared.objects.Thing.TheVariants.{Plain}
use Rattle.source_model.proofs.Keeping.{slice_each, InSome}
use Rattle.source_model.proofs.Once.{AreApart, to_apart}
use Rattle.heap_cells.specs.Numbers.{word_in}
use Rattle.heap_cells.specs.Reads.{field_slot}
use Rattle.heap_cells.proofs.Numbered.{got_if}
use Rattle.heap_cells.proofs.Reading.{read_field}
use Rattle.frame_walk.specs.Raw.{Raw}
use Rattle.raw_steps.specs.Meeting.{IsMet}
use Rattle.raw_steps.specs.Sends.{word_beside}
use Rattle.raw_steps.specs.Slots.{Extends}
use Rattle.raw_steps.specs.Stands.{Sense, Stands}
use Rattle.raw_steps.proofs.Beginning.{own_extends, integer_extends, block_extends}
use Rattle.raw_steps.proofs.Finding.{slots_last, object_meets, int_meets, block_meets, resend_meets, directed_meets}
use Rattle.raw_steps.proofs.Founds.{assignment_met, own_slot}
use Rattle.plain_answers.specs.Found.{error_of, Misses, Reads, IsAssignment, Assigns, IsMethod, Evaluates, Finds, ValuesFind, OfValues, OfHolders, OfParents}

-- Errors.

missed : (r : Raw) (z : Sense) (objs : List Object) (word : ℕ → ℕ) (name : ℕ) (met : Met) (found : Found) → IsMet r z objs word name met found → (e : ErrorName) → error_of found ≡ Some e → met ≡ Missing e
missed r z objs word name (Missing x) NotUnderstood is e same = ap Missing (is ∙ same_Some errors.NotUnderstood e same)
missed r z objs word name (Missing x) (Ambiguous a b) is e same = ap Missing (is ∙ same_Some errors.Ambiguous e same)
missed r z objs word name (Missing x) (One holder k) is e same = absurd is
missed r z objs word name (Holds o c) NotUnderstood is e same = absurd is
missed r z objs word name (Holds o c) (Ambiguous a b) is e same = absurd is
missed r z objs word name (Holds o c) (One holder k) is e same = absurd (cc)

pub values_miss : OfValues (λ v w. Misses)
values_miss z r s S core (values.Object n) w name room is enough = missed r z (objects s) (word_in z.places) name (meets s (values.Object n) name) (found_from r.maps r.mem room w name) (object_meets r s z S core name room n w is enough)
values_miss z r s S core (values.Int i) w name room is enough = missed r z _ (word_beside z w) name (meets s (values.Int i) name) (found_from r.maps r.mem room w name) (int_meets r s z S core name room w i is enough)
values_miss z r s S core (values.Block b maker) w name room is enough = missed r z _ (word_beside z w) name (meets s (values.Block b maker) name) (found_from r.maps r.mem room w name) (block_meets r s z S core name room w maker b is enough)

pub holders_miss : OfHolders Misses
holders_miss z r s S core n w name room at enough = missed r z (objects s) (word_in z.places) name (meets_above s n name) (found_above r.maps r.mem room w name) (resend_meets r s z S core name room n w at enough)

pub parents_miss : OfParents Misses
parents_miss z r s S core parent n w name room at enough = missed r z (objects s) (word_in z.places) name (meets_through s n parent name) (found_through r.maps r.mem room (slot_at r.maps r.mem parent w) name) (directed_meets r s z S core parent name room n w at enough)

-- Assignment slots.

front_data : (c : Content) → is_assignable c ≡ true → (v : Value) × (c ≡ Assignable v)
front_data (Assignable v) e = (v, refl)
front_data (Constant v) e = absurd (cc)
front_data Assignment e = absurd (cc)
front_data (Parent o) e = absurd (cc)
front_data (Method b) e = absurd (cc)

abbrev mine : ℕ → Slot
mine name = record { name = name; content = Assignment }

-- the slot in front of an assignment slot
front_of : (names : List (List ℕ)) (x : Slot) (slots : Object) (at name : ℕ) → AreTied names (Some x) slots → slice_get slots at ≡ Some (mine name) → (own : ℕ) × ((old : Value) × (slice_get (x ∷ slots) at ≡ Some (field_slot own old)))
front_of names x [] at name tied is = absurd (none-some (mine name) is)
front_of names x (y ∷ more) zero name tied is =
    let data_is = front_data x.content (tied.0 (ap (λ (q : Slot). q.content) (same_Some y (mine name) is))).0 in
    (x.name, (data_is.0, ap (λ (c : Content). Some (record { name = x.name; content = c })) data_is.1))
front_of names x (y ∷ more) (suc at) name tied is = front_of names y more at name tied.1 is

pub record InFront (slots : Object) (at : ℕ) : Type 0 where
  pub number : ℕ
  pub next : at ≡ suc number
  pub own : ℕ
  pub old : Value
  pub is : slice_get slots number ≡ Some (field_slot own old)

in_front : (names : List (List ℕ)) (slots : Object) (at name : ℕ) → AreTied names None slots → slice_get slots at ≡ Some (mine name) → InFront slots at
in_front names [] at name tied is = absurd (none-some (mine name) is)
in_front names (x ∷ more) zero name tied is = absurd (tied.0 (ap (λ (q : Slot). q.content) (same_Some x (mine name) is)))
in_front names (x ∷ more) (suc i) name tied is =
    let g = front_of names x more i name tied.1 is in
    record { number = i; next = refl; own = g.0; old = g.1.0; is = g.1.1 }

other_name : (us : Object) (k : ℕ) (y : Slot) (n : ℕ) → Each (λ (q : Slot). q.name ≡ n → ⊥) us → slice_get us k ≡ Some y → y.name ≡ n → ⊥
other_name us k y n each is = subst (InSome (λ (q : Slot). q.name ≡ n → ⊥)) is (slice_each (λ (q : Slot). q.name ≡ n → ⊥) us k each)

once : (slots : Object) → AreApart slots → (j k : ℕ) (x y : Slot) → slice_get slots j ≡ Some x → slice_get slots k ≡ Some y → x.name ≡ y.name → j ≡ k
once [] apart j k x y a b e = absurd (none-some x a)
once (u ∷ us) apart zero zero x y a b e = refl
once (u ∷ us) apart zero (suc k) x y a b e = absurd (other_name us k y u.name apart.0 b (sym e ∙ ap (λ (q : Slot). q.name) (sym (same_Some u x a))))
once (u ∷ us) apart (suc j) zero x y a b e = absurd (other_name us j x u.name apart.0 a (e ∙ ap (λ (q : Slot). q.name) (sym (same_Some u y b))))
once (u ∷ us) apart (suc j) (suc k) x y a b e = ap suc (once us apart.1 j k x y a b e)

assigned : (r : Raw) (s : State) (z : Sense) → Stands z r s → (objs : List Object) (word : ℕ → ℕ) → Extends s z objs word → (name : ℕ) (met : Met) (found : Found) → IsMet r z objs word name met found
    → IsWellFormed s → (holder place : ℕ) → found ≡ One holder (kind.Assign place) → IsAssignment z r s met name holder place
assigned r s z S objs word ext name met found is formed holder place e =
    let g = assignment_met r s z S objs word ext name met holder place (subst (λ (q : Found). IsMet r z objs word name met q) e is) in
    let m = g.1.0 in
    let i = m.inside in
    let fits : ThingFits s.names s.bodies (Plain i.slots) = subst (InSome (ThingFits s.names s.bodies)) i.was (slice_each (ThingFits s.names s.bodies) s.things m.object formed.1.world.1.slots) in
    let f = in_front s.names i.slots g.0 name fits.1 i.slot in
    let here : slice_get i.slots (suc f.number) ≡ Some (mine name) = ap (slice_get i.slots) (sym f.next) ∙ i.slot in
    record {
      object = m.object;
      met_is = m.same;
      slots = i.slots;
      was = i.was;
      there = i.there;
      number = f.number;
      own = f.own;
      old = f.old;
      behind = record { data_slot = f.is; assignment = here; alone = λ j x at same. once i.slots (to_apart i.slots fits.2) j (suc f.number) x (mine name) at here same };
      found = ap (slice_get _) (sym f.next) ∙ g.1.1;
    }

pub values_assign : OfValues (λ v w. Assigns)
values_assign z r s S core (values.Object n) w name room is enough = assigned r s z S (objects s) (word_in z.places) (own_extends s z) name (meets s (values.Object n) name) (found_from r.maps r.mem room w name) (object_meets r s z S core name room n w is enough)
values_assign z r s S core (values.Int i) w name room is enough = assigned r s z S _ (word_beside z w) (integer_extends r s z w S) name (meets s (values.Int i) name) (found_from r.maps r.mem room w name) (int_meets r s z S core name room w i is enough)
values_assign z r s S core (values.Block b maker) w name room is enough = assigned r s z S _ (word_beside z w) (block_extends r s z w b S) name (meets s (values.Block b maker) name) (found_from r.maps r.mem room w name) (block_meets r s z S core name room w maker b is enough)

pub holders_assign : OfHolders Assigns
holders_assign z r s S core n w name room at enough = assigned r s z S (objects s) (word_in z.places) (own_extends s z) name (meets_above s n name) (found_above r.maps r.mem room w name) (resend_meets r s z S core name room n w at enough)

pub parents_assign : OfParents Assigns
parents_assign z r s S core parent n w name room at enough = assigned r s z S (objects s) (word_in z.places) (own_extends s z) name (meets_through s n parent name) (found_through r.maps r.mem room (slot_at r.maps r.mem parent w) name) (directed_meets r s z S core parent name room n w at enough)

-- Assignable slots.

field_word : (r : Raw) (s : State) (z : Sense) → Stands z r s → (objs : List Object) (word : ℕ → ℕ) → Extends s z objs word → (name : ℕ) (met : Met) (found : Found) → IsMet r z objs word name met found → (holder place : ℕ) → found ≡ One holder (kind.Field place) → HasWord (holder + 7 + 4 * place)
field_word r s z S objs word ext name met found is holder place e = by_met met (subst (λ (q : Found). IsMet r z objs word name met q) e is)
  where
    by_met : (m : Met) → IsMet r z objs word name m (One holder (kind.Field place)) → HasWord (holder + 7 + 4 * place)
    by_met (Missing x) i = absurd i
    by_met (Holds o (Assignable v)) i =
        let own = own_slot r s z S objs word ext name o holder (kind.Field place) (Assignable v) i tt in
        (read_field r.maps r.mem r.heap z.cells z.places s.things z.made S.heap o holder i.at place name own.slots own.there own.was i.in_map).here
    by_met (Holds o (Constant v)) i = absurd i.kind
    by_met (Holds o Assignment) i = absurd i.kind
    by_met (Holds o (Parent p)) i = absurd i.kind
    by_met (Holds o (Method b)) i = absurd i.kind

pub values_read : OfValues (λ v w. Reads)
values_read z r s S core (values.Object n) w name room is enough = field_word r s z S (objects s) (word_in z.places) (own_extends s z) name (meets s (values.Object n) name) (found_from r.maps r.mem room w name) (object_meets r s z S core name room n w is enough)
values_read z r s S core (values.Int i) w name room is enough = field_word r s z S _ (word_beside z w) (integer_extends r s z w S) name (meets s (values.Int i) name) (found_from r.maps r.mem room w name) (int_meets r s z S core name room w i is enough)
values_read z r s S core (values.Block b maker) w name room is enough = field_word r s z S _ (word_beside z w) (block_extends r s z w b S) name (meets s (values.Block b maker) name) (found_from r.maps r.mem room w name) (block_meets r s z S core name room w maker b is enough)

pub holders_read : OfHolders Reads
holders_read z r s S core n w name room at enough = field_word r s z S (objects s) (word_in z.places) (own_extends s z) name (meets_above s n name) (found_above r.maps r.mem room w name) (resend_meets r s z S core name room n w at enough)

pub parents_read : OfParents Reads
parents_read z r s S core parent n w name room at enough = field_word r s z S (objects s) (word_in z.places) (own_extends s z) name (meets_through s n parent name) (found_through r.maps r.mem room (slot_at r.maps r.mem parent w) name) (directed_meets r s z S core parent name room n w at enough)

-- Methods.

-- a method was found in one of the objects, or in what stands behind them
pub record IsIn (z : Sense) (objs : List Object) (word : ℕ → ℕ) (name : ℕ) (met : Met) (holder : ℕ) (c : BodyId) : Type 0 where
  pub object : ℕ
  pub met_is : met ≡ Holds object (Method c)
  pub inside : object < length objs
  pub holder_is : holder ≡ word object
  pub at : ℕ
  pub slot : slice_get (slots_at objs object) at ≡ Some (record { name = name; content = Method c })

is_in : (r : Raw) (z : Sense) (objs : List Object) (word : ℕ → ℕ) (name : ℕ) (met : Met) (found : Found) → IsMet r z objs word name met found → (holder : ℕ) (c : BodyId) → found ≡ One holder (kind.Method c) → IsIn z objs word name met holder c
is_in r z objs word name met found is holder c e = by_met met (subst (λ (q : Found). IsMet r z objs word name met q) e is)
  where
    by_met : (m : Met) → IsMet r z objs word name m (One holder (kind.Method c)) → IsIn z objs word name m holder c
    by_met (Missing x) i = absurd i
    by_met (Holds o (Method b)) i = record {
      object = o;
      met_is = ap (λ q. Holds o (Method q)) (sym i.kind);
      inside = i.inside;
      holder_is = i.holder_is;
      at = i.at;
      slot = i.in_object ∙ ap (λ q. Some (record { name = name; content = Method q })) (sym i.kind);
    }
    by_met (Holds o (Constant v)) i = absurd i.kind
    by_met (Holds o (Assignable v)) i = absurd i.kind
    by_met (Holds o Assignment) i = absurd i.kind
    by_met (Holds o (Parent p)) i = absurd i.kind

-- it is in an object
of_object : (r : Raw) (s : State) (z : Sense) → Stands z r s → (objs : List Object) (word : ℕ → ℕ) → Extends s z objs word → (name : ℕ) (met : Met) (holder : ℕ) (c : BodyId) → (i : IsIn z objs word name met holder c) → i.object < length (objects s) → IsMethod z s met holder c
of_object r s z S objs word ext name met holder c i lt =
    let many = length-map s.things (slots_of s.core) in
    let g = got_if z.places.objects i.object (let m = S.heap.means.objects_all in omega arith) in
    record {
      object = i.object;
      met_is = i.met_is;
      there = g.1 ∙ ap Some (sym (get_or_from_slice_get z.places.objects i.object g.0 0 g.1) ∙ sym (ext.agree i.object lt) ∙ sym i.holder_is);
      inside = omega arith;
    }

no_method : (traits j name : ℕ) (c : BodyId) → slice_get (kin traits) j ≡ Some (record { name = name; content = Method c }) → ⊥
no_method traits zero name c is = no_parent (ap (λ (q : Slot). q.content) (same_Some (record { name = 0; content = Parent traits }) (record { name = name; content = Method c }) is))
  where
    no_parent : Parent traits ≡ Method c → ⊥
    no_parent e = absurd (cc)
no_method traits (suc j) name c is = none-some (record { name = name; content = Method c }) is

behind_all : (s : State) (own : Object) (o : ℕ) → o < length (objects s ++ own ∷ []) → length (objects s) ≤ o → o ≡ length (objects s)
behind_all s own o lt ge = let l = length_push (objects s) own in omega arith

among : (r : Raw) (s : State) (z : Sense) → Stands z r s → (name : ℕ) (met : Met) (found : Found) → IsMet r z (objects s) (word_in z.places) name met found → (holder : ℕ) (c : BodyId) → found ≡ One holder (kind.Method c) → IsMethod z s met holder c
among r s z S name met found is holder c e =
    let i = is_in r z (objects s) (word_in z.places) name met found is holder c e in
    of_object r s z S (objects s) (word_in z.places) (own_extends s z) name met holder c i i.inside

beside_integer : (r : Raw) (s : State) (z : Sense) → Stands z r s → (w name : ℕ) (met : Met) (found : Found) → IsMet r z (objects s ++ kin s.core.integers ∷ []) (word_beside z w) name met found → (holder : ℕ) (c : BodyId) → found ≡ One holder (kind.Method c) → IsMethod z s met holder c
beside_integer r s z S w name met found is holder c e =
    let own = kin s.core.integers in
    let i = is_in r z (objects s ++ own ∷ []) (word_beside z w) name met found is holder c e in
    elim (cases_lt i.object (length (objects s))) [
      | inl lt ↦ of_object r s z S (objects s ++ own ∷ []) (word_beside z w) (integer_extends r s z w S) name met holder c i lt
      | inr ge ↦
          let last = behind_all s own i.object i.inside ge in
          absurd (no_method s.core.integers i.at name c (ap (λ (q : Object). slice_get q i.at) (sym (ap (slots_at (objects s ++ own ∷ [])) last ∙ slots_last (objects s) own)) ∙ i.slot))
    ]

-- a block's own method
own_method : (s : State) (b : BodyId) (j name : ℕ) (c : BodyId) → slice_get (block_slots s b) j ≡ Some (record { name = name; content = Method c }) → (c ≡ b) × (name ≡ number_of s.names (evaluator (length (body_of s b.0).arguments)))
own_method s b zero name c is =
    let same = same_Some (record { name = number_of s.names (evaluator (length (body_of s b.0).arguments)); content = Method b }) (record { name = name; content = Method c }) is in
    (same_body (ap (λ (q : Slot). q.content) same), ap (λ (q : Slot). q.name) (sym same))
  where
    same_body : Method b ≡ Method c → c ≡ b
    same_body e = cc
own_method s b (suc j) name c is = absurd (no_method s.core.blocks j name c is)

beside_block : (r : Raw) (s : State) (z : Sense) → Stands z r s → (w name : ℕ) (b : BodyId) (met : Met) (found : Found) → IsMet r z (objects s ++ block_slots s b ∷ []) (word_beside z w) name met found → (holder : ℕ) (c : BodyId) → found ≡ One holder (kind.Method c)
    → IsMethod z s met holder c ⊎ Evaluates s met name holder c b w
beside_block r s z S w name b met found is holder c e =
    let own = block_slots s b in
    let many = length-map s.things (slots_of s.core) in
    let i = is_in r z (objects s ++ own ∷ []) (word_beside z w) name met found is holder c e in
    elim (cases_lt i.object (length (objects s))) [
      | inl lt ↦ inl (of_object r s z S (objects s ++ own ∷ []) (word_beside z w) (block_extends r s z w b S) name met holder c i lt)
      | inr ge ↦
          let last = behind_all s own i.object i.inside ge in
          let m = own_method s b i.at name c (ap (λ (q : Object). slice_get q i.at) (sym (ap (slots_at (objects s ++ own ∷ [])) last ∙ slots_last (objects s) own)) ∙ i.slot) in
          inr (record {
            met_is = i.met_is ∙ ap (λ q. Holds q (Method c)) (last ∙ many);
            holder_is = i.holder_is ∙ ap (word_beside z w) last ∙ word_behind (length (objects s)) (let all = S.heap.means.objects_all in omega arith);
            body_is = m.0;
            name_is = m.1;
          })
    ]
  where
    word_behind : (n : ℕ) → n ≡ length z.places.objects → word_beside z w n ≡ w
    word_behind n e = get_or_push z.places.objects w 0 n (sym e)

pub values_find : OfValues ValuesFind
values_find z r s S core (values.Object n) w name room is enough = among r s z S name (meets s (values.Object n) name) (found_from r.maps r.mem room w name) (object_meets r s z S core name room n w is enough)
values_find z r s S core (values.Int i) w name room is enough = beside_integer r s z S w name (meets s (values.Int i) name) (found_from r.maps r.mem room w name) (int_meets r s z S core name room w i is enough)
values_find z r s S core (values.Block b maker) w name room is enough = beside_block r s z S w name b (meets s (values.Block b maker) name) (found_from r.maps r.mem room w name) (block_meets r s z S core name room w maker b is enough)

pub holders_find : OfHolders Finds
holders_find z r s S core n w name room at enough = among r s z S name (meets_above s n name) (found_above r.maps r.mem room w name) (resend_meets r s z S core name room n w at enough)

pub parents_find : OfParents Finds
parents_find z r s S core parent n w name room at enough = among r s z S name (meets_through s n parent name) (found_through r.maps r.mem room (slot_at r.maps r.mem parent w) name) (directed_meets r s z S core parent name room n w at enough)
