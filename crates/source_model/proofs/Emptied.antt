-- What a step does to things leaves their slots as they were, but for the data of assignable slots; one thing may come.
use Rattle.std.proofs.Common.{◌≡◌, ℕ, zero, suc, ◌≤◌, ap, sym, subst, refl, ◌∙◌, arith, Bool, true, false, List, [], ◌∷◌, ◌++◌, ◌⊎◌, inl, inr, length, map}
use Rattle.std.specs.Prelude.{◌==◌, slice_get, slice_set, Option, Some, None, option_map, cond}
use Rattle.std.proofs.lemmas.List.{length-append}
use Rattle.self_terms.specs.declared.values.Value.{Value}
use Rattle.self_terms.specs.declared.bodies.Body.{Body}
use Rattle.source_model.specs.Objects.{Object, Slot, Content, Constant, Assignable, Assignment, Parent, Method, Thing, Plain, Vector, Text, is_assignable, with_data, with_content, stored, with_slots, changed_at}
use Rattle.source_model.specs.Canon.{Each}
use Rattle.source_model.specs.Formed.{ContentFits, SlotFits, Follows, AreTied, ThingFits}
use Rattle.source_model.specs.Lasting.{emptied}
use Rattle.source_model.proofs.Alike.{slot_with}
use Rattle.source_model.proofs.Once.{AreApart, to_apart, from_apart}
use Rattle.source_model.proofs.Keeping.{append_each, slice_each, InSome}
use Rattle.source_model.proofs.HoldingNodes.{IsNew, IsPut}
use Rattle.source_model.proofs.Turning.{Changed, Same, Stored, Made, Put}

abbrev pub bare : Slot → Slot
bare = slot_with emptied

abbrev pub bare_thing : Thing → Thing
bare_thing (Plain slots) = Plain (map bare slots)
bare_thing (Vector items) = Vector []
bare_thing (Text bytes) = Text bytes

data_bare : (v : Value) (c : Content) → emptied (with_data v c) ≡ emptied c
data_bare v (Constant w) = refl
data_bare v (Assignable w) = refl
data_bare v Assignment = refl
data_bare v (Parent o) = refl
data_bare v (Method b) = refl

slot_bare : (b : Bool) (v : Value) (x : Slot) → bare (cond b (with_content (with_data v x.content) x) x) ≡ bare x
slot_bare true v x = λ i. record x { content = data_bare v x.content i }
slot_bare false v x = refl

stored_bare : (name : ℕ) (v : Value) (slots : Object) → map bare (stored name v slots) ≡ map bare slots
stored_bare name v [] = refl
stored_bare name v (x ∷ []) = refl
stored_bare name v (x ∷ y ∷ more) = λ i. slot_bare (y.name == name) v x i ∷ stored_bare name v (y ∷ more) i

thing_bare : (name : ℕ) (v : Value) (x : Thing) → bare_thing (with_slots (stored name v) x) ≡ bare_thing x
thing_bare name v (Plain slots) = ap Plain (stored_bare name v slots)
thing_bare name v (Vector items) = refl
thing_bare name v (Text bytes) = refl

changed_bare : (name : ℕ) (v : Value) (o : ℕ) (xs : List Thing) → map bare_thing (changed_at (with_slots (stored name v)) o xs) ≡ map bare_thing xs
changed_bare name v o [] = refl
changed_bare name v zero (x ∷ xs) = ap (λ (y : Thing). y ∷ map bare_thing xs) (thing_bare name v x)
changed_bare name v (suc o) (x ∷ xs) = ap (λ (ys : List Thing). bare_thing x ∷ ys) (changed_bare name v o xs)

some_eq : (x y : Thing) → ◌≡◌ {A = Option Thing} (Some x) (Some y) → x ≡ y
some_eq x y e = cc

none_eq : (y : Thing) → ◌≡◌ {A = Option Thing} None (Some y) → ⊥
none_eq y e = cc

put_bare : (xs : List Thing) (o : ℕ) (old items : List Value) → slice_get xs o ≡ Some (Vector old) → map bare_thing (slice_set xs o (Vector items)) ≡ map bare_thing xs
put_bare [] o old items e = refl
put_bare (x ∷ xs) zero old items e = ap (λ (y : Thing). bare_thing y ∷ map bare_thing xs) (sym (some_eq x (Vector old) e))
put_bare (x ∷ xs) (suc o) old items e = ap (λ (ys : List Thing). bare_thing x ∷ ys) (put_bare xs o old items e)

put_any : (xs : List Thing) (o : ℕ) (x : Thing) → IsPut xs o x → map bare_thing (slice_set xs o x) ≡ map bare_thing xs
put_any xs o (Plain slots) e = absurd e
put_any xs o (Vector items) e = put_bare xs o e.0 items e.1
put_any xs o (Text bytes) e = absurd e

-- the same slots; or one thing more
abbrev pub Grown : List Thing → List Thing → Type 0
Grown xs ys = (map bare_thing ys ≡ map bare_thing xs) ⊎ ((x : Thing) × IsNew xs x × (ys ≡ xs ++ x ∷ []))

pub grows : (xs ys : List Thing) → Changed xs ys → Grown xs ys
grows xs ys (Same e) = inl (ap (map bare_thing) e)
grows xs ys (Stored name o v e) = inl (ap (map bare_thing) e ∙ changed_bare name v o xs)
grows xs ys (Made x new e) = inr (x, new, e)
grows xs ys (Put o x is e) = inl (ap (map bare_thing) e ∙ put_any xs o x is)

length_bare : (xs : List Thing) → length (map bare_thing xs) ≡ length xs
length_bare [] = refl
length_bare (x ∷ xs) = ap suc (length_bare xs)

pub grown_length : (xs ys : List Thing) → Grown xs ys → length xs ≤ length ys
grown_length xs ys (inl e) = omega (arith, length_bare xs, length_bare ys, ap length e)
grown_length xs ys (inr h) = omega (arith, length-append xs (h.0 ∷ []), ap length h.2)

-- What fits without data fits with them.

module _ (names : List (List ℕ)) (bodies : List Body) where
  content_to : (n : ℕ) (c : Content) → ContentFits names bodies n c → ContentFits names bodies n (emptied c)
  content_to n (Constant v) e = e
  content_to n (Assignable v) e = e
  content_to n Assignment e = e
  content_to n (Parent o) e = e
  content_to n (Method b) e = e

  content_from : (n : ℕ) (c : Content) → ContentFits names bodies n (emptied c) → ContentFits names bodies n c
  content_from n (Constant v) e = e
  content_from n (Assignable v) e = e
  content_from n Assignment e = e
  content_from n (Parent o) e = e
  content_from n (Method b) e = e

  slots_to : (slots : Object) → Each (SlotFits names bodies) slots → Each (SlotFits names bodies) (map bare slots)
  slots_to [] e = tt
  slots_to (x ∷ xs) e = (content_to x.name x.content e.0, slots_to xs e.1)

  slots_from : (slots : Object) → Each (SlotFits names bodies) (map bare slots) → Each (SlotFits names bodies) slots
  slots_from [] e = tt
  slots_from (x ∷ xs) e = (content_from x.name x.content e.0, slots_from xs e.1)

  assigns_to : (c : Content) → emptied c ≡ Assignment → c ≡ Assignment
  assigns_to (Constant v) e = e
  assigns_to (Assignable v) e = absurd (cc)
  assigns_to Assignment e = e
  assigns_to (Parent o) e = e
  assigns_to (Method b) e = e

  assigns_from : (c : Content) → c ≡ Assignment → emptied c ≡ Assignment
  assigns_from c e = ap emptied e

  assignable_bare : (c : Content) → is_assignable (emptied c) ≡ is_assignable c
  assignable_bare (Constant v) = refl
  assignable_bare (Assignable v) = refl
  assignable_bare Assignment = refl
  assignable_bare (Parent o) = refl
  assignable_bare (Method b) = refl

  follows_to : (front : Option Slot) (x : Slot) → Follows names front x → Follows names (option_map bare front) (bare x)
  follows_to None x h = λ e. h (assigns_to x.content e)
  follows_to (Some f) x h = λ e. let d = h (assigns_to x.content e) in (assignable_bare f.content ∙ d.0, d.1)

  follows_from : (front : Option Slot) (x : Slot) → Follows names (option_map bare front) (bare x) → Follows names front x
  follows_from None x h = λ e. h (assigns_from x.content e)
  follows_from (Some f) x h = λ e. let d = h (assigns_from x.content e) in (sym (assignable_bare f.content) ∙ d.0, d.1)

  tied_to : (front : Option Slot) (slots : Object) → AreTied names front slots → AreTied names (option_map bare front) (map bare slots)
  tied_to front [] e = tt
  tied_to front (x ∷ xs) e = (follows_to front x e.0, tied_to (Some x) xs e.1)

  tied_from : (front : Option Slot) (slots : Object) → AreTied names (option_map bare front) (map bare slots) → AreTied names front slots
  tied_from front [] e = tt
  tied_from front (x ∷ xs) e = (follows_from front x e.0, tied_from (Some x) xs e.1)

  others_to : (n : ℕ) (slots : Object) → Each (λ (y : Slot). y.name ≡ n → ⊥) slots → Each (λ (y : Slot). y.name ≡ n → ⊥) (map bare slots)
  others_to n [] e = tt
  others_to n (x ∷ xs) e = (e.0, others_to n xs e.1)

  others_from : (n : ℕ) (slots : Object) → Each (λ (y : Slot). y.name ≡ n → ⊥) (map bare slots) → Each (λ (y : Slot). y.name ≡ n → ⊥) slots
  others_from n [] e = tt
  others_from n (x ∷ xs) e = (e.0, others_from n xs e.1)

  apart_to : (slots : Object) → AreApart slots → AreApart (map bare slots)
  apart_to [] e = tt
  apart_to (x ∷ xs) e = (others_to x.name xs e.0, apart_to xs e.1)

  apart_from : (slots : Object) → AreApart (map bare slots) → AreApart slots
  apart_from [] e = tt
  apart_from (x ∷ xs) e = (others_from x.name xs e.0, apart_from xs e.1)

  things_to : (xs : List Thing) → Each (ThingFits names bodies) xs → Each (ThingFits names bodies) (map bare_thing xs)
  things_to [] e = tt
  things_to (Plain slots ∷ xs) e = ((slots_to slots e.0.0, tied_to None slots e.0.1, from_apart (map bare slots) (apart_to slots (to_apart slots e.0.2))), things_to xs e.1)
  things_to (Vector items ∷ xs) e = (tt, things_to xs e.1)
  things_to (Text bytes ∷ xs) e = (tt, things_to xs e.1)

  things_from : (xs : List Thing) → Each (ThingFits names bodies) (map bare_thing xs) → Each (ThingFits names bodies) xs
  things_from [] e = tt
  things_from (Plain slots ∷ xs) e = ((slots_from slots e.0.0, tied_from None slots e.0.1, from_apart slots (apart_from slots (to_apart (map bare slots) e.0.2))), things_from xs e.1)
  things_from (Vector items ∷ xs) e = (tt, things_from xs e.1)
  things_from (Text bytes ∷ xs) e = (tt, things_from xs e.1)

  new_fits : (xs : List Thing) (x : Thing) → Each (ThingFits names bodies) xs → IsNew xs x → ThingFits names bodies x
  new_fits xs (Plain slots) e new = subst (InSome (ThingFits names bodies)) new.1 (slice_each (ThingFits names bodies) xs new.0 e)
  new_fits xs (Vector items) e new = tt
  new_fits xs (Text bytes) e new = absurd new

  pub grown_fits : (xs ys : List Thing) → Grown xs ys → Each (ThingFits names bodies) xs → Each (ThingFits names bodies) ys
  grown_fits xs ys (inl same) e = things_from ys (subst (Each (ThingFits names bodies)) (sym same) (things_to xs e))
  grown_fits xs ys (inr h) e = subst (Each (ThingFits names bodies)) (sym h.2) (append_each (ThingFits names bodies) xs (h.0 ∷ []) e (new_fits xs h.0 e h.1, tt))
