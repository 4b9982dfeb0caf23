-- A step makes no value but integers, objects that are there, and the block of a block literal: messages.
use Rattle.std.proofs.Common.{◌≡◌, ℕ, zero, suc, ◌+◌, ◌<◌, ◌≤◌, refl, arith, Bool, true, false, List, [], ◌∷◌, ◌++◌, length, map, get_or}
use Rattle.std.specs.Prelude.{◌==◌, nat_lt, nat_le, Option, Some, None, cond, Ok, Err}
use Rattle.std.proofs.lemmas.Bool.{ltb-true}
use Rattle.self_terms.specs.declared.values.Value.{Value}
use Rattle.self_terms.specs.declared.values.Value.TheVariants as values
use Rattle.self_terms.specs.declared.values.BodyId.{BodyId}
use Rattle.self_terms.specs.declared.bodies.Local.{Local}
use Rattle.self_terms.specs.declared.errors.ErrorName.TheVariants as errors
use Rattle.source_model.specs.Objects.{Object, Slot, Content, Constant, Assignable, Assignment, Parent, Method, Thing, Plain, Vector, Text, slots_at, slot_named, with_data, with_content, stored, with_slots, changed_at}
use Rattle.source_model.specs.Lookup.{Found, NotUnderstood, One, Ambiguous, lookup, lookup_value, resend, directed}
use Rattle.source_model.specs.State.{Core, Activation, Running, Answered, State, silent}
use Rattle.source_model.specs.Messages.{Met, Missing, Holds, body_of, value_of, slots_of, objects, held, met_in, meets, meets_above, meets_through, kin, block_slots}
use Rattle.source_model.specs.Sends.{Outcome, then_do, Here, moved, goes_on, answers, beyond_home, enters, entered, begun, entry_cost, Message, callers, with_number, evaluates_in, evaluates, change_thing, sends}
use Rattle.source_model.specs.Canon.{Each}
use Rattle.source_model.specs.Formed.{ContentHolds, SlotHolds, ThingHolds, ActivationHolds, ActivityHolds, StateHolds}
use Rattle.source_model.proofs.Keeping.{append_each, set_each, get_each, InSome, find_each, either}

module _ (V : Value → Type 0) (n : ℕ) (there : (o : ℕ) → o < n → V (values.Object o)) where
  abbrev pub Kept : Outcome → Type 0
  Kept (Ok r) = length r.state.things ≤ n → StateHolds V r.state
  Kept (Err e) = Unit {0}

  abbrev pub Vs : List Value → Type 0
  Vs vs = Each V vs

  -- what a state names by itself
  pub record Ground (s : State) : Type 0 where
    pub few : length s.things ≤ n
    pub nil : s.core.nil < n
    pub yes : s.core.yes < n
    pub no : s.core.no < n
    pub integers : s.core.integers < n
    pub strings : s.core.strings < n
    pub vectors : s.core.vectors < n
    pub blocks : s.core.blocks < n
    pub fixed : s.fixed + 26 ≤ n
    pub initials : (b : ℕ) → Each (λ (x : Local). V (value_of s.core x.initial)) (body_of s b).locals

  pub record HereHolds (h : Here) : Type 0 where
    pub state : StateHolds V h.state
    pub young : ActivationHolds V h.young
    pub older : Each (ActivationHolds V) h.older
    pub ground : Ground h.state

  with_pending : (vs : List Value) (a : Activation) → ActivationHolds V a → Vs vs → ActivationHolds V (moved vs a)
  with_pending vs a e p = record { receiver = e.receiver; holder = e.holder; locals = e.locals; pending = p }

  pub goes_kept : (s : State) (h : Here) (vs : List Value) → (length s.things ≤ n → StateHolds V s) → ActivationHolds V h.young → Each (ActivationHolds V) h.older → (length s.things ≤ n → Vs vs) → Kept (goes_on s h vs)
  goes_kept s h vs e y o p few =
      record { things = (e few).things; activities = set_each (ActivityHolds V) s.activities s.current (Running (moved vs h.young ∷ h.older)) (e few).activities (with_pending vs h.young y (p few), o) }

  pub answers_kept : (h : Here) (older : List Activation) (v : Value) → StateHolds V h.state → Each (ActivationHolds V) older → V v → Kept (answers h older v)
  answers_kept h [] v e o p few = record { things = e.things; activities = set_each (ActivityHolds V) h.state.activities h.state.current (Answered v) e.activities tt }
  answers_kept h (a ∷ older) v e o p few =
      record { things = e.things; activities = set_each (ActivityHolds V) h.state.activities h.state.current (Running (moved (v ∷ a.pending) a ∷ older)) e.activities (with_pending (v ∷ a.pending) a o.0 (p, o.0.pending), o.1) }

  pub beyond_each : (m : Option ℕ) (all : List Activation) → Each (ActivationHolds V) all → Each (ActivationHolds V) (beyond_home m all)
  beyond_each m [] e = tt
  beyond_each None (a ∷ all) e = e
  beyond_each (Some k) (a ∷ all) e = beyond_each (cond (a.number == k) a.maker (Some k)) all e.1

  initials : (core : Core) (xs : List Local) → Each (λ (x : Local). V (value_of core x.initial)) xs → Vs (map (λ (x : Local). value_of core x.initial) xs)
  initials core [] e = tt
  initials core (x ∷ xs) e = (e.0, initials core xs e.1)

  pub begun_holds : (s : State) (b : ℕ) (r : Value) (holder : ℕ) (m : Option ℕ) (args : List Value) → Ground s → V r → V (values.Object holder) → Vs args → ActivationHolds V (begun s b r holder m args)
  begun_holds s b r holder m args g e d v = record {
    receiver = e;
    holder = d;
    locals = append_each V args (map (λ (x : Local). value_of s.core x.initial) (body_of s b).locals) v (initials s.core (body_of s b).locals (g.initials b));
    pending = tt;
  }

  enters_by : (s : State) (a : Activation) (older : List Activation) (c : ℕ) (p q : Bool) → StateHolds V s → ActivationHolds V a → Each (ActivationHolds V) older
      → Kept (cond p (then_do (cond q (Ok (record s { cost = c })) (Err errors.StoreFull)) (λ (t : State). Ok (silent (entered a older t)))) (Err errors.StackOverflow))
  enters_by s a older c false q e f o = tt
  enters_by s a older c true false e f o = tt
  enters_by s a older c true true e f o = λ few. record { things = e.things; activities = set_each (ActivityHolds V) s.activities s.current (Running (a ∷ older)) e.activities (f, o) }

  pub enters_kept : (s : State) (a : Activation) (older : List Activation) → StateHolds V s → ActivationHolds V a → Each (ActivationHolds V) older → Kept (enters a older s)
  enters_kept s a older e f o = enters_by s a older (s.cost + entry_cost (body_of s a.body)) (nat_lt (length older) 4096) (nat_le (s.cost + entry_cost (body_of s a.body)) 4194304) e f o

  -- What a message meets.

  abbrev pub MetHolds : Met → Type 0
  MetHolds (Missing e) = Unit {0}
  MetHolds (Holds o c) = ContentHolds V c

  abbrev pub Slots : Object → Type 0
  Slots slots = Each (SlotHolds V) slots

  kin_holds : (traits : ℕ) → traits < n → Slots (kin traits)
  kin_holds traits lt = (there traits lt, tt)

  own_holds : (s : State) → Ground s → (x : Thing) → ThingHolds V x → Slots (slots_of s.core x)
  own_holds s g (Plain slots) e = e
  own_holds s g (Vector items) e = kin_holds s.core.vectors g.vectors
  own_holds s g (Text bytes) e = kin_holds s.core.strings g.strings

  objects_hold : (s : State) → Ground s → (xs : List Thing) → Each (ThingHolds V) xs → Each Slots (map (slots_of s.core) xs)
  objects_hold s g [] e = tt
  objects_hold s g (x ∷ xs) e = (own_holds s g x e.0, objects_hold s g xs e.1)

  slots_at_hold : (objs : List Object) (o : ℕ) → Each Slots objs → Slots (slots_at objs o)
  slots_at_hold [] o e = tt
  slots_at_hold (x ∷ xs) zero e = e.0
  slots_at_hold (x ∷ xs) (suc o) e = slots_at_hold xs o e.1

  held_holds : (o : ℕ) (m : Option Slot) → InSome (SlotHolds V) m → MetHolds (held o m)
  held_holds o None e = tt
  held_holds o (Some x) e = e

  met_holds : (objs : List Object) (name : ℕ) (found : Found) → Each Slots objs → MetHolds (met_in objs name found)
  met_holds objs name NotUnderstood e = tt
  met_holds objs name (Ambiguous a b) e = tt
  met_holds objs name (One o) e = held_holds o (slot_named name (slots_at objs o)) (find_each (SlotHolds V) (λ (x : Slot). x.name == name) (slots_at objs o) (slots_at_hold objs o e))

  pub meets_hold : (s : State) (v : Value) (name : ℕ) → StateHolds V s → Ground s → MetHolds (meets s v name)
  unfolding meets
  meets_hold s (values.Int i) name e g = met_holds (objects s ++ kin s.core.integers ∷ []) name (lookup_value (objects s) name (kin s.core.integers))
      (append_each Slots (objects s) (kin s.core.integers ∷ []) (objects_hold s g s.things e.things) (kin_holds s.core.integers g.integers, tt))
  meets_hold s (values.Object o) name e g = met_holds (objects s) name (lookup (objects s) name o) (objects_hold s g s.things e.things)
  meets_hold s (values.Block b k) name e g = met_holds (objects s ++ block_slots s b ∷ []) name (lookup_value (objects s) name (block_slots s b))
      (append_each Slots (objects s) (block_slots s b ∷ []) (objects_hold s g s.things e.things) ((tt, kin_holds s.core.blocks g.blocks), tt))

  pub above_hold : (s : State) (holder name : ℕ) → StateHolds V s → Ground s → MetHolds (meets_above s holder name)
  unfolding meets_above
  above_hold s holder name e g = met_holds (objects s) name (resend (objects s) name holder) (objects_hold s g s.things e.things)

  pub through_hold : (s : State) (holder parent name : ℕ) → StateHolds V s → Ground s → MetHolds (meets_through s holder parent name)
  unfolding meets_through
  through_hold s holder parent name e g = met_holds (objects s) name (directed (objects s) parent name holder) (objects_hold s g s.things e.things)

  -- Sends.

  pub record MessageHolds (m : Message) : Type 0 where
    pub receiver : V m.receiver
    pub arguments : Vs m.arguments
    pub rest : Vs m.rest

  data_holds : (v : Value) (c : Content) → V v → ContentHolds V c → ContentHolds V (with_data v c)
  data_holds v (Constant w) p e = e
  data_holds v (Assignable w) p e = p
  data_holds v Assignment p e = e
  data_holds v (Parent o) p e = e
  data_holds v (Method b) p e = e

  stored_holds : (name : ℕ) (v : Value) (slots : Object) → V v → Slots slots → Slots (stored name v slots)
  stored_holds name v [] p e = tt
  stored_holds name v (x ∷ []) p e = e
  stored_holds name v (x ∷ y ∷ more) p e =
      (either (SlotHolds V) (y.name == name) (with_content (with_data v x.content) x) x (data_holds v x.content p e.0) e.0, stored_holds name v (y ∷ more) p e.1)

  slots_hold : (name : ℕ) (v : Value) (x : Thing) → V v → ThingHolds V x → ThingHolds V (with_slots (stored name v) x)
  slots_hold name v (Plain slots) p e = stored_holds name v slots p e
  slots_hold name v (Vector items) p e = e
  slots_hold name v (Text bytes) p e = e

  changed_holds : (name : ℕ) (v : Value) (o : ℕ) (xs : List Thing) → V v → Each (ThingHolds V) xs → Each (ThingHolds V) (changed_at (with_slots (stored name v)) o xs)
  changed_holds name v o [] p e = tt
  changed_holds name v zero (x ∷ xs) p e = (slots_hold name v x p e.0, e.1)
  changed_holds name v (suc o) (x ∷ xs) p e = (e.0, changed_holds name v o xs p e.1)

  module _ (h : Here) (is : HereHolds h) where
    callers_hold : (m : Message) → MessageHolds m → Each (ActivationHolds V) (callers h m)
    callers_hold m e = (record { receiver = is.young.receiver; holder = is.young.holder; locals = is.young.locals; pending = e.rest }, is.older)

    evaluates_in_kept : (m : Message) (b : BodyId) (a : Option Activation) → MessageHolds m → InSome (ActivationHolds V) a → Kept (evaluates_in h m b a)
    evaluates_in_kept m b None e d = tt
    evaluates_in_kept m b (Some a) e d = enters_kept h.state (begun h.state b.0 a.receiver a.holder (Some a.number) m.arguments) (callers h m) is.state
        (begun_holds h.state b.0 a.receiver a.holder (Some a.number) m.arguments is.ground d.receiver d.holder e.arguments) (callers_hold m e)

    evaluates_kept : (m : Message) (v : Value) → MessageHolds m → Kept (evaluates h m v)
    evaluates_kept m (values.Int i) e = tt
    evaluates_kept m (values.Object o) e = tt
    evaluates_kept m (values.Block b k) e = evaluates_in_kept m b (with_number k (callers h m)) e (find_each (ActivationHolds V) (λ (a : Activation). a.number == k) (callers h m) (callers_hold m e))

    activates_by : (m : Message) (o : ℕ) (b : BodyId) (t : Bool) → nat_lt o (length h.state.things) ≡ t → MessageHolds m
        → Kept (cond t (enters (begun h.state b.0 m.receiver o None m.arguments) (callers h m) h.state) (evaluates h m m.receiver))
    activates_by m o b true same e =
        let lt = ltb-true o (length h.state.things) same in
        enters_kept h.state (begun h.state b.0 m.receiver o None m.arguments) (callers h m) is.state
        (begun_holds h.state b.0 m.receiver o None m.arguments is.ground e.receiver (there o (omega (arith, lt, is.ground.few))) e.arguments) (callers_hold m e)
    activates_by m o b false same e = evaluates_kept m m.receiver e

    pub sends_kept : (m : Message) (name : ℕ) (met : Met) → MessageHolds m → MetHolds met → Kept (sends h m name met)
    sends_kept m name (Missing x) e d = tt
    sends_kept m name (Holds o (Constant v)) e d = goes_kept h.state h (v ∷ m.rest) (λ _. is.state) is.young is.older (λ _. (d, e.rest))
    sends_kept m name (Holds o (Assignable v)) e d = goes_kept h.state h (v ∷ m.rest) (λ _. is.state) is.young is.older (λ _. (d, e.rest))
    sends_kept m name (Holds o (Parent p)) e d = goes_kept h.state h (values.Object p ∷ m.rest) (λ _. is.state) is.young is.older (λ _. (d, e.rest))
    sends_kept m name (Holds o Assignment) e d =
        let v = get_or m.arguments 0 m.receiver in
        goes_kept (change_thing (with_slots (stored name v)) o h.state) h (m.receiver ∷ m.rest)
        (λ _. record { things = changed_holds name v o h.state.things (get_each V m.arguments 0 m.receiver e.arguments e.receiver) is.state.things; activities = is.state.activities })
        is.young is.older (λ _. (e.receiver, e.rest))
    sends_kept m name (Holds o (Method b)) e d = activates_by m o b (nat_lt o (length h.state.things)) refl e
