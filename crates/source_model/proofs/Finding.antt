-- What is found in a well-formed state.
use Rattle.std.proofs.Common.{◌≡◌, ℕ, zero, suc, ap, sym, subst, refl, ◌∙◌, Bool, true, false, List, [], ◌∷◌, ◌++◌, inl, inr, map}
use Rattle.std.specs.Prelude.{◌==◌, Option, Some, None, cond, codes}
use Rattle.std.proofs.lemmas.Bool.{eqb-true, ne_eqb, eq-eqb}
use Rattle.self_terms.specs.declared.values.Value.{Value}
use Rattle.self_terms.specs.declared.bodies.Body.{Body}
use Rattle.source_model.specs.Names.{text_named}
use Rattle.source_model.specs.Objects.{Object, Slot, Content, Constant, Assignable, Assignment, Parent, Method, Thing, Plain, Vector, Text, is_assignable, slots_at, slot_named, with_data, with_content, stored}
use Rattle.source_model.specs.State.{Core, Activation}
use Rattle.source_model.specs.Sends.{beyond_home}
use Rattle.source_model.specs.Lookup.{Among}
use Rattle.source_model.specs.Soundness.{body_in, numbers, HasMaker, AreCallers, IsActivity}
use Rattle.source_model.specs.Messages.{slots_of}
use Rattle.source_model.specs.Canon.{Each}
use Rattle.source_model.specs.Formed.{Takes, SlotFits, AreTied, ThingFits}
use Rattle.source_model.specs.Finding.{FindsMessages, FindsParents, IsAssigned, FindsAssigned, HasHome, FindsHome}
use Rattle.source_model.proofs.Accepting.{next_accepts, IsFound, found_in}
use Rattle.source_model.proofs.Lasting.{is_whole}
use Rattle.source_model.proofs.Keeping.{slice_each, InSome}
use Rattle.source_model.proofs.Once.{AreApart, to_apart}

module _ (names : List (List ℕ)) (name : ℕ) where
  -- no slot of the name is behind: nothing is stored
  none_stored : (v : Value) (x : Slot) (slots : Object) → Each (λ (y : Slot). y.name ≡ name → ⊥) slots → stored name v (x ∷ slots) ≡ x ∷ slots
  none_stored v x [] h = refl
  none_stored v x (y ∷ more) h = λ i. cond (ne_eqb y.name name h.0 i) (with_content (with_data v x.content) x) x ∷ none_stored v y more h.1 i

  abbrev Mine : Slot
  Mine = record { name = name; content = Assignment }

  front_assignable : (c : Content) → is_assignable c ≡ true → (v : Value) × (c ≡ Assignable v)
  front_assignable (Constant v) e = absurd (cc)
  front_assignable (Assignable v) e = (v, refl)
  front_assignable Assignment e = absurd (cc)
  front_assignable (Parent o) e = absurd (cc)
  front_assignable (Method b) e = absurd (cc)

  slot_eq : (x y : Slot) → ◌≡◌ {A = Option Slot} (Some x) (Some y) → x ≡ y
  slot_eq x y e = cc

  stores_second : (n : ℕ) (c : Content) (old : Value) → c ≡ Assignable old → (y : Slot) → y.name ≡ name → (more : Object) → Each (λ (z : Slot). z.name ≡ name → ⊥) more → (v : Value)
      → stored name v (record { name = n; content = c } ∷ y ∷ more) ≡ record { name = n; content = Assignable v } ∷ y ∷ more
  stores_second n c old e y is more apart v =
      ap (λ (b : Bool). cond b (record { name = n; content = with_data v c }) (record { name = n; content = c }) ∷ stored name v (y ∷ more)) (eq-eqb y.name name is)
      ∙ ap (λ (d : Content). record { name = n; content = with_data v d } ∷ stored name v (y ∷ more)) e
      ∙ ap (λ (zs : Object). record { name = n; content = Assignable v } ∷ zs) (none_stored v y more apart)

  -- the slot is the second of these
  second : (x y : Slot) (more : Object) → y ≡ Mine → is_assignable x.content ≡ true → text_named names name ≡ text_named names x.name ++ codes ":"
      → Each (λ (z : Slot). z.name ≡ name → ⊥) more → IsAssigned names (x ∷ y ∷ more) name
  second x y more is able text apart =
      let old = front_assignable x.content able in
      record {
        at = 0;
        front = x.name;
        old = old.0;
        here = ap Some is;
        before = ap (λ (c : Content). Some (record { name = x.name; content = c })) old.1;
        named = text;
        stores = stores_second x.name x.content old.0 old.1 y (ap (λ (z : Slot). z.name) is) more apart;
      }

  behind : (x : Slot) (y : Slot) (more : Object) → (y.name == name) ≡ false → IsAssigned names (y ∷ more) name → IsAssigned names (x ∷ y ∷ more) name
  behind x y more other r = record {
    at = suc r.at;
    front = r.front;
    old = r.old;
    here = r.here;
    before = r.before;
    named = r.named;
    stores = λ v. ap (λ (b : Bool). cond b (with_content (with_data v x.content) x) x ∷ stored name v (y ∷ more)) other ∙ ap (λ (zs : Object). x ∷ zs) (r.stores v);
  }

  not_same : (n : ℕ) (more : Object) (m : ℕ) → m ≡ n → Each (λ (z : Slot). z.name ≡ m → ⊥) more → Each (λ (z : Slot). z.name ≡ n → ⊥) more
  not_same n more m e h = subst (λ (k : ℕ). Each (λ (z : Slot). z.name ≡ k → ⊥) more) e h

  assigned_or : (x y : Slot) (more : Object) (b : Bool) → (y.name == name) ≡ b → AreTied names (Some x) (y ∷ more) → AreApart (y ∷ more) → cond b (Some y) (slot_named name more) ≡ Some Mine
      → (slot_named name more ≡ Some Mine → IsAssigned names (y ∷ more) name) → IsAssigned names (x ∷ y ∷ more) name
  assigned_or x y more true e tied apart found next =
      let is : y ≡ Mine = slot_eq y Mine found in
      let d = tied.0 (ap (λ (z : Slot). z.content) is) in
      second x y more is d.0 (sym (ap (λ (z : Slot). text_named names z.name) is) ∙ d.1) (not_same name more y.name (eqb-true y.name name e) apart.0)
  assigned_or x y more false e tied apart found next = behind x y more e (next found)

  assigned_in : (x : Slot) (slots : Object) → AreTied names (Some x) slots → AreApart slots → slot_named name slots ≡ Some Mine → IsAssigned names (x ∷ slots) name
  assigned_in x [] tied apart found = absurd (cc)
  assigned_in x (y ∷ more) tied apart found = assigned_or x y more (y.name == name) refl tied apart found (assigned_in y more tied.1 apart.1)

  first_or : (x : Slot) (more : Object) (b : Bool) → AreTied names None (x ∷ more) → AreApart (x ∷ more) → cond b (Some x) (slot_named name more) ≡ Some Mine → IsAssigned names (x ∷ more) name
  first_or x more true tied apart found = absurd (tied.0 (ap (λ (z : Slot). z.content) (slot_eq x Mine found)))
  first_or x more false tied apart found = assigned_in x more tied.1 apart.1 found

  assigned : (slots : Object) → AreTied names None slots → AreApart slots → slot_named name slots ≡ Some Mine → IsAssigned names slots name
  assigned [] tied apart found = absurd (cc)
  assigned (x ∷ more) tied apart found = first_or x more (x.name == name) tied apart found

  module _ (bodies : List Body) where
    abbrev Fits : Slot → Type 0
    Fits x = SlotFits names bodies x

    takes : (slots : Object) → Each Fits slots → slot_named name slots ≡ Some Mine → Takes names name 1
    takes slots e found = (subst (IsFound Fits name) found (found_in Fits name slots e)).0

    no_parent : (A : Type 0) (traits : ℕ) (b : Bool) → cond b (Some (record { name = 0; content = Parent traits })) None ≡ Some Mine → A
    no_parent A traits true e =
        let same : Parent traits ≡ Assignment = ap (λ (z : Slot). z.content) (slot_eq (record { name = 0; content = Parent traits }) Mine e) in absurd (cc)
    no_parent A traits false e = absurd (cc)

    abbrev Result : Object → Type 0
    Result slots = Takes names name 1 × IsAssigned names slots name

    at_thing : (core : Core) (x : Thing) → ThingFits names bodies x → slot_named name (slots_of core x) ≡ Some Mine → Result (slots_of core x)
    at_thing core (Plain slots) e found = (takes slots e.0 found, assigned slots e.1 (to_apart slots e.2) found)
    at_thing core (Vector items) e found = no_parent (Result (slots_of core (Vector items))) core.vectors (0 == name) found
    at_thing core (Text bytes) e found = no_parent (Result (slots_of core (Text bytes))) core.strings (0 == name) found

    at_things : (core : Core) (xs : List Thing) (o : ℕ) → Each (ThingFits names bodies) xs → slot_named name (slots_at (map (slots_of core) xs) o) ≡ Some Mine → Result (slots_at (map (slots_of core) xs) o)
    at_things core [] o e found = absurd (cc)
    at_things core (x ∷ xs) zero e found = at_thing core x e.0 found
    at_things core (x ∷ xs) (suc o) e found = at_things core xs o e.1 found

pub finds_assigned : FindsAssigned
finds_assigned home s o name formed found = at_things s.names name s.bodies s.core s.things o formed.world.1.slots found

pub finds_messages : FindsMessages
finds_messages home s formed = next_accepts home s formed

pub finds_parents : FindsParents
finds_parents home s formed = is_whole home s formed

-- The home of a block.

module _ (bodies : List Body) (home : ℕ → ℕ) where
  abbrev MakerIn : List Activation → Option ℕ → Type 0
  MakerIn all None = Unit {0}
  MakerIn all (Some k) = Among k (numbers all)

  maker_in : (all : List Activation) (m outer : Option ℕ) → HasMaker home all m outer → MakerIn all m
  maker_in all None outer e = tt
  maker_in all (Some k) (Some o) e = e.0
  maker_in all (Some k) None e = absurd e

  of_maker : (a : Activation) (older : List Activation) (m : Option ℕ) → a.maker ≡ m → HasHome m older → (younger : List Activation) × ((h : Activation) × ((a ∷ older ≡ younger ++ h ∷ beyond_home m older) × (h.maker ≡ None)))
  of_maker a [] None e has = ([], (a, (refl, e)))
  of_maker a (b ∷ older) None e has = ([], (a, (refl, e)))
  of_maker a older (Some k) e has = (a ∷ has.0, (has.1.0, (ap (λ (xs : List Activation). a ∷ xs) has.1.1.0, has.1.1.1)))

  home_or : (k : ℕ) (a : Activation) (older : List Activation) (b : Bool) → (a.number == k) ≡ b → HasHome a.maker older → (Among k (numbers older) → HasHome (Some k) older) → Among k (numbers (a ∷ older))
      → (younger : List Activation) × ((h : Activation) × ((a ∷ older ≡ younger ++ h ∷ beyond_home (cond b a.maker (Some k)) older) × (h.maker ≡ None)))
  home_or k a older true e has next among = of_maker a older a.maker refl has
  home_or k a older false e has next (inl same) = absurd (let bad : true ≡ false = sym (eq-eqb a.number k (sym same)) ∙ e in cc)
  home_or k a older false e has next (inr later) = let h = next later in (a ∷ h.0, (h.1.0, (ap (λ (xs : List Activation). a ∷ xs) h.1.1.0, h.1.1.1)))

  pub has_home : (all : List Activation) → AreCallers bodies home all → (m : Option ℕ) → MakerIn all m → HasHome m all
  has_home all callers None e = tt
  has_home [] callers (Some k) e = absurd e
  has_home (a ∷ older) callers (Some k) e =
      home_or k a older (a.number == k) refl (has_home older callers.2 a.maker (maker_in older a.maker (body_in bodies a.body).outer callers.0.maker)) (has_home older callers.2 (Some k)) e

pub finds_home : FindsHome
finds_home home s a older formed here =
    let live = subst (InSome (IsActivity s.bodies home)) here (slice_each (IsActivity s.bodies home) s.activities s.current formed.well.activities) in
    has_home s.bodies home older live.2 a.maker (maker_in s.bodies home older a.maker (body_in s.bodies a.body).outer live.0.maker)
