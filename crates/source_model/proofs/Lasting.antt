-- A step changes no lookup from an object that is there.
use Rattle.std.proofs.Common.{◌≡◌, ℕ, zero, suc, ◌<◌, ap, sym, subst, refl, ◌∙◌, arith, true, false, List, [], ◌∷◌, ◌++◌, inl, inr, length, map}
use Rattle.std.specs.Prelude.{◌==◌, Option, Some, None, flat_map, cond}
use Rattle.std.specs.List.{list_any}
use Rattle.std.proofs.lemmas.List.{length-append, length-map, map-append}
use Rattle.self_terms.specs.declared.values.Value.TheVariants as values
use Rattle.source_model.specs.Objects.{Object, Content, Constant, Assignable, Assignment, Parent, Method, Thing, Plain, Vector, Text, slots_at, slot_named, owns, parents_in, parent_of, IsWhole}
use Rattle.source_model.specs.Lookup.{Found, NotUnderstood, One, Ambiguous, Among, IsAnswer, IsHolder, IsHolderFromAny, lookup, lookup_from, resend, directed, parent_named, has_in, parents_of, holders, holders_from_all, found_of}
use Rattle.source_model.specs.State.{Core, State}
use Rattle.source_model.specs.Messages.{Met, Missing, Holds, slots_of, objects, held, met_in, meets, meets_above, meets_through}
use Rattle.source_model.specs.Step.{step}
use Rattle.source_model.specs.Canon.{Each}
use Rattle.source_model.specs.Formed.{SlotHolds, ThingHolds, IsThere, IsFormed}
use Rattle.source_model.specs.Lasting.{emptied, without_data, LookupsLast, StepsLast}
use Rattle.source_model.proofs.Keeping.{slice_each, InSome}
use Rattle.source_model.proofs.Laws.{below, below_length, in_below, closed, inside, find_parent, send_law, resend_law}
use Rattle.source_model.proofs.Reach.{levels_same}
use Rattle.source_model.proofs.Alike.{slot_with, met_with}
use Rattle.source_model.proofs.Alike as alike
use Rattle.source_model.proofs.Turning.{IsAsBefore}
use Rattle.source_model.proofs.Emptied.{bare, bare_thing, Grown, grows, grown_length}
use Rattle.source_model.proofs.Forming.{before}

-- Slots that are the same but for data.

parent_emptied : (c : Content) → parent_of (emptied c) ≡ parent_of c
parent_emptied (Constant v) = refl
parent_emptied (Assignable v) = refl
parent_emptied Assignment = refl
parent_emptied (Parent o) = refl
parent_emptied (Method b) = refl

abbrev g : Object → Object
g slots = map bare slots

same_met : (m : Met) → without_data m ≡ met_with emptied m
same_met (Missing e) = refl
same_met (Holds o c) = refl

sent_bare : (objs : List Object) (name o : ℕ) → without_data (met_in objs name (lookup objs name o)) ≡ met_in (map g objs) name (lookup (map g objs) name o)
sent_bare objs name o = same_met (met_in objs name (lookup objs name o)) ∙ sym (alike.met_by_lookup emptied parent_emptied objs name o)

above_bare : (objs : List Object) (name o : ℕ) → without_data (met_in objs name (resend objs name o)) ≡ met_in (map g objs) name (resend (map g objs) name o)
above_bare objs name o = same_met (met_in objs name (resend objs name o)) ∙ sym (alike.met_in_by emptied parent_emptied objs name (resend objs name o))
    ∙ ap (met_in (map g objs) name) (sym (alike.resend_by emptied parent_emptied objs name o))

through_bare : (objs : List Object) (parent name o : ℕ) → without_data (met_in objs name (directed objs parent name o)) ≡ met_in (map g objs) name (directed (map g objs) parent name o)
through_bare objs parent name o = same_met (met_in objs name (directed objs parent name o)) ∙ sym (alike.met_in_by emptied parent_emptied objs name (directed objs parent name o))
    ∙ ap (met_in (map g objs) name) (sym (alike.directed_by emptied parent_emptied objs parent name o))

slots_bare : (core : Core) (x : Thing) → g (slots_of core x) ≡ slots_of core (bare_thing x)
slots_bare core (Plain slots) = refl
slots_bare core (Vector items) = refl
slots_bare core (Text bytes) = refl

objects_bare : (core : Core) (xs : List Thing) → map g (map (slots_of core) xs) ≡ map (slots_of core) (map bare_thing xs)
objects_bare core [] = refl
objects_bare core (x ∷ xs) = λ i. slots_bare core x i ∷ objects_bare core xs i

-- One object more.

flat_same : (f h : ℕ → List ℕ) (xs : List ℕ) → ((p : ℕ) → Among p xs → f p ≡ h p) → flat_map f xs ≡ flat_map h xs
flat_same f h [] e = refl
flat_same f h (x ∷ xs) e = λ i. e x (inl refl) i ++ flat_same f h xs (λ p a. e p (inr a)) i

none_owned : (A : Type 0) → false ≡ true → A
none_owned A e = absurd (cc)

owned_within : (objs : List Object) (name o : ℕ) → has_in objs name o ≡ true → o < length objs
owned_within [] name o e = none_owned (o < 0) e
owned_within (x ∷ xs) name zero e = omega arith
owned_within (x ∷ xs) name (suc o) e = let lt = owned_within xs name o e in omega (arith, lt)

slots_more : (objs : List Object) (own : Object) (o : ℕ) → o < length objs → slots_at (objs ++ own ∷ []) o ≡ slots_at objs o
slots_more [] own o lt = absurd (omega (arith, lt))
slots_more (x ∷ xs) own zero lt = refl
slots_more (x ∷ xs) own (suc o) lt = slots_more xs own o (omega (arith, lt))

module _ (objs : List Object) (own : Object) (whole : IsWhole objs) where
  abbrev all : List Object
  all = objs ++ own ∷ []

  walks : (name n o : ℕ) (visited : List ℕ) → o < length objs → holders (has_in all name) (parents_of all) n o visited ≡ holders (has_in objs name) (parents_of objs) n o visited
  unfolding holders
  walks name zero o visited lt = refl
  walks name (suc n) o visited lt =
      let same = slots_more objs own o lt in
      (λ i. cond (list_any (λ v. o == v) visited) [] (cond (owns name (same i)) (o ∷ []) (flat_map (λ p. holders (has_in all name) (parents_of all) n p (o ∷ visited)) (parents_in (same i)))))
      ∙ ap (λ (xs : List ℕ). cond (list_any (λ v. o == v) visited) [] (cond (has_in objs name o) (o ∷ []) xs))
      (flat_same (λ p. holders (has_in all name) (parents_of all) n p (o ∷ visited)) (λ p. holders (has_in objs name) (parents_of objs) n p (o ∷ visited)) (parents_of objs o)
      (λ p a. walks name n p (o ∷ visited) (inside objs whole o p a)))

  levels : (name o : ℕ) → o < length objs → holders (has_in objs name) (parents_of objs) (length all) o [] ≡ holders (has_in objs name) (parents_of objs) (length objs) o []
  levels name o lt =
      let count = length-append objs (own ∷ []) in
      let enough = below_length (length objs) in
      levels_same (has_in objs name) (parents_of objs) (below (length objs)) (closed objs whole) (length all) (length objs) o (in_below (length objs) o lt) (omega (arith, count, enough)) (omega (arith, enough))

  found_same : (name o : ℕ) → o < length objs → holders (has_in all name) (parents_of all) (length all) o [] ≡ holders (has_in objs name) (parents_of objs) (length objs) o []
  found_same name o lt = walks name (length all) o [] lt ∙ levels name o lt

  lookup_same : (name o : ℕ) → o < length objs → lookup all name o ≡ lookup objs name o
  lookup_same name o lt = ap found_of (found_same name o lt)

  resend_same : (name o : ℕ) → o < length objs → resend all name o ≡ resend objs name o
  resend_same name o lt =
      ap (λ (slots : Object). found_of (holders_from_all (has_in all name) (parents_of all) (length all) (parents_in slots))) (slots_more objs own o lt)
      ∙ ap found_of (flat_same (λ p. holders (has_in all name) (parents_of all) (length all) p []) (λ p. holders (has_in objs name) (parents_of objs) (length objs) p []) (parents_of objs o)
      (λ p a. found_same name p (inside objs whole o p a)))

  from_same : (name : ℕ) (m : Option ℕ) → ((to : ℕ) → m ≡ Some to → to < length objs) → lookup_from all name m ≡ lookup_from objs name m
  from_same name None h = refl
  from_same name (Some to) h = lookup_same name to (h to refl)

  directed_same : (parent name o : ℕ) → o < length objs → directed all parent name o ≡ directed objs parent name o
  directed_same parent name o lt =
      ap (λ (slots : Object). lookup_from all name (parent_named parent slots)) (slots_more objs own o lt)
      ∙ from_same name (parent_named parent (slots_at objs o)) (λ to e. inside objs whole o to (find_parent objs whole parent (slots_at objs o) to e))

  -- the holder that is found is there
  met_same : (name : ℕ) (found : Found) → ((h : ℕ) → found ≡ One h → h < length objs) → met_in all name found ≡ met_in objs name found
  met_same name NotUnderstood h = refl
  met_same name (Ambiguous a b) h = refl
  met_same name (One o) h = ap (λ (slots : Object). held o (slot_named name slots)) (slots_more objs own o (h o refl))

  by_holder : (name start : ℕ) (found : Found) → IsAnswer (IsHolder (has_in objs name) (parents_of objs) start) found → (h : ℕ) → found ≡ One h → h < length objs
  by_holder name start found is h e = owned_within objs name h (subst (IsAnswer (IsHolder (has_in objs name) (parents_of objs) start)) e is).0.0

  by_any : (name holder : ℕ) (found : Found) → IsAnswer (IsHolderFromAny (has_in objs name) (parents_of objs) (parents_of objs holder)) found → (h : ℕ) → found ≡ One h → h < length objs
  by_any name holder found is h e = owned_within objs name h (subst (IsAnswer (IsHolderFromAny (has_in objs name) (parents_of objs) (parents_of objs holder))) e is).0.1.1.0

  from_holder : (name : ℕ) (m : Option ℕ) → ((to : ℕ) → m ≡ Some to → to < length objs) → (h : ℕ) → lookup_from objs name m ≡ One h → h < length objs
  from_holder name None lt h e = absurd (cc)
  from_holder name (Some to) lt h e = by_holder name to (lookup objs name to) (send_law objs whole name to (lt to refl)) h e

  pub sent_more : (name o : ℕ) → o < length objs → met_in all name (lookup all name o) ≡ met_in objs name (lookup objs name o)
  sent_more name o lt = ap (met_in all name) (lookup_same name o lt) ∙ met_same name (lookup objs name o) (by_holder name o (lookup objs name o) (send_law objs whole name o lt))

  pub above_more : (name o : ℕ) → o < length objs → met_in all name (resend all name o) ≡ met_in objs name (resend objs name o)
  above_more name o lt = ap (met_in all name) (resend_same name o lt) ∙ met_same name (resend objs name o) (by_any name o (resend objs name o) (resend_law objs whole name o))

  pub through_more : (parent name o : ℕ) → o < length objs → met_in all name (directed all parent name o) ≡ met_in objs name (directed objs parent name o)
  through_more parent name o lt = ap (met_in all name) (directed_same parent name o lt)
      ∙ met_same name (directed objs parent name o) (from_holder name (parent_named parent (slots_at objs o)) (λ to e. inside objs whole o to (find_parent objs whole parent (slots_at objs o) to e)))

-- A state's objects are whole.

module _ (home : ℕ → ℕ) (s : State) (formed : IsFormed home s) where
  abbrev Slots : Object → Type 0
  Slots slots = Each (SlotHolds (IsThere home s)) slots

  own_there : (x : Thing) → ThingHolds (IsThere home s) x → Slots (slots_of s.core x)
  own_there (Plain slots) e = e
  own_there (Vector items) e = (formed.world.0.vectors, tt)
  own_there (Text bytes) e = (formed.world.0.strings, tt)

  all_there : (xs : List Thing) → Each (ThingHolds (IsThere home s)) xs → Each Slots (map (slots_of s.core) xs)
  all_there [] e = tt
  all_there (x ∷ xs) e = (own_there x e.0, all_there xs e.1)

  at_there : (objs : List Object) (o : ℕ) → Each Slots objs → Slots (slots_at objs o)
  at_there [] o e = tt
  at_there (x ∷ xs) zero e = e.0
  at_there (x ∷ xs) (suc o) e = at_there xs o e.1

  count : length (objects s) ≡ length s.things
  count = length-map s.things (slots_of s.core)

  pub is_whole : IsWhole (objects s)
  is_whole o i name to e =
      let lt : to < length s.things = subst (InSome (SlotHolds (IsThere home s))) e (slice_each (SlotHolds (IsThere home s)) (slots_at (objects s) o) i (at_there (objects s) o (all_there s.things formed.values.things))) in
      omega (arith, lt, count)

  abbrev t : State
  t = (step s).state

  is_before : IsAsBefore s t
  is_before = before home s formed

  -- only data changed
  same_objects : map bare_thing t.things ≡ map bare_thing s.things → map g (objects t) ≡ map g (objects s)
  same_objects e =
      objects_bare t.core t.things
      ∙ (λ i. map (slots_of (is_before.core i)) (e i))
      ∙ sym (objects_bare s.core s.things)

  -- one object came
  more_objects : (x : Thing) → t.things ≡ s.things ++ x ∷ [] → objects t ≡ objects s ++ slots_of s.core x ∷ []
  more_objects x e = (λ i. map (slots_of (is_before.core i)) (e i)) ∙ map-append (slots_of s.core) s.things (x ∷ [])

  sent_by : Grown s.things t.things → (name o : ℕ) → o < length s.things → without_data (met_in (objects t) name (lookup (objects t) name o)) ≡ without_data (met_in (objects s) name (lookup (objects s) name o))
  sent_by (inl e) name o lt = sent_bare (objects t) name o ∙ ap (λ (objs : List Object). met_in objs name (lookup objs name o)) (same_objects e) ∙ sym (sent_bare (objects s) name o)
  sent_by (inr h) name o lt = ap without_data (
      ap (λ (objs : List Object). met_in objs name (lookup objs name o)) (more_objects h.0 h.2)
      ∙ sent_more (objects s) (slots_of s.core h.0) is_whole name o (omega (arith, lt, count)))

  above_by : Grown s.things t.things → (name o : ℕ) → o < length s.things → without_data (met_in (objects t) name (resend (objects t) name o)) ≡ without_data (met_in (objects s) name (resend (objects s) name o))
  above_by (inl e) name o lt = above_bare (objects t) name o ∙ ap (λ (objs : List Object). met_in objs name (resend objs name o)) (same_objects e) ∙ sym (above_bare (objects s) name o)
  above_by (inr h) name o lt = ap without_data (
      ap (λ (objs : List Object). met_in objs name (resend objs name o)) (more_objects h.0 h.2)
      ∙ above_more (objects s) (slots_of s.core h.0) is_whole name o (omega (arith, lt, count)))

  through_by : Grown s.things t.things → (parent name o : ℕ) → o < length s.things
      → without_data (met_in (objects t) name (directed (objects t) parent name o)) ≡ without_data (met_in (objects s) name (directed (objects s) parent name o))
  through_by (inl e) parent name o lt = through_bare (objects t) parent name o ∙ ap (λ (objs : List Object). met_in objs name (directed objs parent name o)) (same_objects e) ∙ sym (through_bare (objects s) parent name o)
  through_by (inr h) parent name o lt = ap without_data (
      ap (λ (objs : List Object). met_in objs name (directed objs parent name o)) (more_objects h.0 h.2)
      ∙ through_more (objects s) (slots_of s.core h.0) is_whole parent name o (omega (arith, lt, count)))

  abbrev grown : Grown s.things t.things
  grown = grows s.things t.things is_before.things

  sent : (o name : ℕ) → o < length s.things → without_data (meets t (values.Object o) name) ≡ without_data (meets s (values.Object o) name)
  unfolding meets
  sent o name lt = sent_by grown name o lt

  above : (holder name : ℕ) → holder < length s.things → without_data (meets_above t holder name) ≡ without_data (meets_above s holder name)
  unfolding meets_above
  above holder name lt = above_by grown name holder lt

  through : (holder parent name : ℕ) → holder < length s.things → without_data (meets_through t holder parent name) ≡ without_data (meets_through s holder parent name)
  unfolding meets_through
  through holder parent name lt = through_by grown parent name holder lt

  pub lookups_last : LookupsLast s t
  lookups_last = record { there = grown_length s.things t.things grown; sent = sent; above = above; through = through }

pub steps_last : StepsLast
steps_last s e = lookups_last e.0 s e.1
