-- In a well-formed state what a message meets takes as many arguments as it is given.
use Rattle.std.proofs.Common.{◌≡◌, ℕ, zero, suc, ◌-◌, ◌<◌, ◌≤◌, ap, sym, subst, refl, ◌∙◌, arith, Bool, true, false, List, [], ◌∷◌, ◌++◌, ◌⊎◌, inl, inr, length, map}
use Rattle.std.specs.Prelude.{nat_lt, slice_get, Option, Some, None, unwrap_or, cond, codes}
use Rattle.std.proofs.lemmas.Bool.{eqb-true, ltb-true, lt-ltb}
use Rattle.std.proofs.lemmas.List.{length-map}
use Rattle.self_terms.specs.declared.nodes.Node.{Node}
use Rattle.self_terms.specs.declared.nodes.Node.TheVariants as nodes
use Rattle.self_terms.specs.declared.values.Value.{Value}
use Rattle.self_terms.specs.declared.values.Value.TheVariants as values
use Rattle.self_terms.specs.declared.values.BodyId.{BodyId}
use Rattle.self_terms.specs.declared.bodies.Body.{Body}
use Rattle.self_terms.specs.Depths.{taken}
use Rattle.source_model.specs.Names.{number_of, evaluator}
use Rattle.source_model.specs.Objects.{Object, Slot, Content, Constant, Assignable, Assignment, Parent, Method, Thing, Plain, Vector, Text, slots_at, slot_named, has_name}
use Rattle.source_model.specs.Lookup.{Found, NotUnderstood, One, Ambiguous, lookup, lookup_value, resend, directed}
use Rattle.source_model.specs.State.{Activation, Running, State}
use Rattle.source_model.specs.Messages.{Met, Missing, Holds, body_of, slots_of, objects, held, met_in, meets, meets_above, meets_through, kin, block_slots}
use Rattle.source_model.specs.Sends.{Here, Message}
use Rattle.source_model.specs.Step.{value_at, stated, implied, handler_of, node_at}
use Rattle.source_model.specs.Canon.{Each}
use Rattle.source_model.specs.Soundness.{body_in, BlockAccepts, MetAccepts, HandlerAccepts, NodeAccepts, NextAccepts}
use Rattle.source_model.specs.Formed.{Takes, Says, IsSaid, ContentFits, SlotFits, ThingFits, ActivityHolds, ActivationHolds, IsThere, IsFormed}
use Rattle.source_model.proofs.Keeping.{get_each, slice_each, InSome}
use Rattle.source_model.proofs.Soundly.{takes, finds_arguments}
use Rattle.source_model.proofs.Naming.{takes_one, evaluator_takes}

-- A slot that is found in a list of slots: one of them, with this name.

module _ (Q : Slot → Type 0) (name : ℕ) where
  abbrev pub IsFound : Option Slot → Type 0
  IsFound None = Unit {0}
  IsFound (Some x) = Q x × (x.name ≡ name)

  found_or : (x : Slot) (b : Bool) (m : Option Slot) → has_name name x ≡ b → Q x → IsFound m → IsFound (cond b (Some x) m)
  found_or x true m e q h = (q, eqb-true x.name name e)
  found_or x false m e q h = h

  pub found_in : (slots : Object) → Each Q slots → IsFound (slot_named name slots)
  found_in [] e = tt
  found_in (x ∷ xs) e = found_or x (has_name name x) (slot_named name xs) refl e.0 (found_in xs e.1)

-- Where a slot was found.

none_there : (A : Type 0) (x : Slot) → ◌≡◌ {A = Option Slot} None (Some x) → A
none_there A x e = absurd (cc)

within : (objs : List Object) (o name : ℕ) (x : Slot) → slot_named name (slots_at objs o) ≡ Some x → o < length objs
within [] o name x e = none_there (o < 0) x e
within (y ∷ ys) zero name x e = omega arith
within (y ∷ ys) (suc o) name x e = let lt = within ys o name x e in omega (arith, lt)

-- the objects, or the one behind them
at_own : (objs : List Object) (own : Object) (o : ℕ) → o < length (objs ++ own ∷ []) → (o < length objs × (slots_at (objs ++ own ∷ []) o ≡ slots_at objs o)) ⊎ ((o ≡ length objs) × (slots_at (objs ++ own ∷ []) o ≡ own))
at_own [] own zero lt = inr (refl, refl)
at_own [] own (suc o) lt = absurd (omega (arith, lt))
at_own (x ∷ xs) own zero lt = inl (omega arith, refl)
at_own (x ∷ xs) own (suc o) lt = elim (at_own xs own o (omega (arith, lt))) [
  | inl h ↦ inl (omega (arith, h.0), h.1)
  | inr h ↦ inr (ap suc h.0, h.1)
]

module _ (home : ℕ → ℕ) (s : State) (formed : IsFormed home s) where
  abbrev Fits : Slot → Type 0
  Fits x = SlotFits s.names s.bodies x

  own_fits : (x : Thing) → ThingFits s.names s.bodies x → Each Fits (slots_of s.core x)
  own_fits (Plain slots) e = e.0
  own_fits (Vector items) e = (tt, tt)
  own_fits (Text bytes) e = (tt, tt)

  each_fit : (xs : List Thing) → Each (ThingFits s.names s.bodies) xs → Each (Each Fits) (map (slots_of s.core) xs)
  each_fit [] e = tt
  each_fit (x ∷ xs) e = (own_fits x e.0, each_fit xs e.1)

  objects_fit : Each (Each Fits) (objects s)
  objects_fit = each_fit s.things formed.world.1.slots

  at_fits : (objs : List Object) (o : ℕ) → Each (Each Fits) objs → Each Fits (slots_at objs o)
  at_fits [] o e = tt
  at_fits (x ∷ xs) zero e = e.0
  at_fits (x ∷ xs) (suc o) e = at_fits xs o e.1

  count : length (objects s) ≡ length s.things
  count = length-map s.things (slots_of s.core)

  -- what is found in an object fits its name; else it is the own method of a block
  abbrev pub InObject : ℕ → ℕ → Content → Type 0
  InObject name o c = (o < length s.things) × ContentFits s.names s.bodies name c

  abbrev pub IsOwn : Value → ℕ → Content → Type 0
  IsOwn (values.Block b k) name (Method c) = (c ≡ b) × (name ≡ number_of s.names (evaluator (length (body_of s b.0).arguments)))
  IsOwn v name (Method c) = ⊥
  IsOwn v name Assignment = ⊥
  IsOwn v name c = Unit {0}

  abbrev pub MetFits : Value → ℕ → Met → Type 0
  MetFits v name (Missing e) = Unit {0}
  MetFits v name (Holds o c) = InObject name o c ⊎ ((o ≡ length s.things) × IsOwn v name c)

  held_fits : (v : Value) (name o : ℕ) (m : Option Slot) → slot_named name (slots_at (objects s) o) ≡ m → IsFound Fits name m → MetFits v name (held o m)
  held_fits v name o None e h = tt
  held_fits v name o (Some x) e h =
      let lt : o < length (objects s) = within (objects s) o name x e in
      inl (omega (arith, lt, count), subst (λ (n : ℕ). ContentFits s.names s.bodies n x.content) h.1 h.0)

  met_fits : (v : Value) (name : ℕ) (found : Found) → MetFits v name (met_in (objects s) name found)
  met_fits v name NotUnderstood = tt
  met_fits v name (Ambiguous a b) = tt
  met_fits v name (One o) = held_fits v name o (slot_named name (slots_at (objects s) o)) refl (found_in Fits name (slots_at (objects s) o) (at_fits (objects s) o objects_fit))

  -- beside the objects

  abbrev Owned : Value → Slot → Type 0
  Owned v x = IsOwn v x.name x.content

  beside_by : (v : Value) (own : Object) (name o : ℕ) (m : Option Slot) → Each (Owned v) own → slot_named name (slots_at (objects s ++ own ∷ []) o) ≡ m → MetFits v name (held o m)
  beside_by v own name o None owned e = tt
  beside_by v own name o (Some x) owned e =
      elim (at_own (objects s) own o (within (objects s ++ own ∷ []) o name x e)) [
        | inl h ↦
            let same : slot_named name (slots_at (objects s) o) ≡ Some x = ap (slot_named name) (sym h.1) ∙ e in
            held_fits v name o (Some x) same (subst (IsFound Fits name) same (found_in Fits name (slots_at (objects s) o) (at_fits (objects s) o objects_fit)))
        | inr h ↦
            let same : slot_named name own ≡ Some x = ap (slot_named name) (sym h.1) ∙ e in
            let f = subst (IsFound (Owned v) name) same (found_in (Owned v) name own owned) in
            inr (h.0 ∙ count, subst (λ (n : ℕ). IsOwn v n x.content) f.1 f.0)
      ]

  beside_fits : (v : Value) (own : Object) (name : ℕ) (found : Found) → Each (Owned v) own → MetFits v name (met_in (objects s ++ own ∷ []) name found)
  beside_fits v own name NotUnderstood owned = tt
  beside_fits v own name (Ambiguous a b) owned = tt
  beside_fits v own name (One o) owned = beside_by v own name o (slot_named name (slots_at (objects s ++ own ∷ []) o)) owned refl

  pub meets_fit : (v : Value) (name : ℕ) → MetFits v name (meets s v name)
  unfolding meets
  meets_fit (values.Int i) name = beside_fits (values.Int i) (kin s.core.integers) name (lookup_value (objects s) name (kin s.core.integers)) (tt, tt)
  meets_fit (values.Object o) name = met_fits (values.Object o) name (lookup (objects s) name o)
  meets_fit (values.Block b k) name = beside_fits (values.Block b k) (block_slots s b) name (lookup_value (objects s) name (block_slots s b)) ((refl, refl), (tt, tt))

  above_fit : (v : Value) (holder name : ℕ) → MetFits v name (meets_above s holder name)
  unfolding meets_above
  above_fit v holder name = met_fits v name (resend (objects s) name holder)

  through_fit : (v : Value) (holder parent name : ℕ) → MetFits v name (meets_through s holder parent name)
  unfolding meets_through
  through_fit v holder parent name = met_fits v name (directed (objects s) parent name holder)

  -- A message accepted.

  past : (o : ℕ) → o ≡ length s.things → nat_lt o (length s.things) ≡ true → ⊥
  past o e t = let lt = ltb-true o (length s.things) t in omega (arith, e, lt)

  before : (o : ℕ) → o < length s.things → nat_lt o (length s.things) ≡ false → ⊥
  before o lt f = let e : true ≡ false = sym (lt-ltb o (length s.things) lt) ∙ f in absurd (cc)

  block_accepts : (v : Value) (b : BodyId) (name args : ℕ) → IsThere home s v → IsOwn v name (Method b) → Takes s.names name args → BlockAccepts s.bodies home args v
  block_accepts (values.Int i) b name args there own t = tt
  block_accepts (values.Object o) b name args there own t = tt
  block_accepts (values.Block c k) b name args there own t =
      record { given = there.0; arguments = evaluator_takes s.names name (length (body_of s c.0).arguments) args own.1 t; outer = there.1 }

  not_owned : (v : Value) (name : ℕ) → IsOwn v name Assignment → ⊥
  not_owned (values.Int i) name e = e
  not_owned (values.Object o) name e = e
  not_owned (values.Block b k) name e = e

  pub accepts : (m : Message) (name : ℕ) (met : Met) → IsThere home s m.receiver → Takes s.names name (length m.arguments) → MetFits m.receiver name met → MetAccepts home s m met
  accepts m name (Missing e) there t fits = tt
  accepts m name (Holds o (Constant v)) there t fits = tt
  accepts m name (Holds o (Assignable v)) there t fits = tt
  accepts m name (Holds o (Parent p)) there t fits = tt
  accepts m name (Holds o Assignment) there t (inl h) = takes_one s.names name (length m.arguments) 1 t h.1
  accepts m name (Holds o Assignment) there t (inr h) = absurd (not_owned m.receiver name h.1)
  accepts m name (Holds o (Method b)) there t (inl h) = (
    (λ e. record { given = h.1.0; arguments = takes_one s.names name (length (body_in s.bodies b.0).arguments) (length m.arguments) h.1.1 t; outer = h.1.2 }),
    (λ e. absurd (before o h.0 e)),
  )
  accepts m name (Holds o (Method b)) there t (inr h) = (
    (λ e. absurd (past o h.0 e)),
    (λ e. block_accepts m.receiver b name (length m.arguments) there h.1 t),
  )

  -- What a body says.

  abbrev Said : Body → Type 0
  Said b = IsSaid s.names (length s.things) b

  said_or : (m : Option Body) → InSome Said m → Said (unwrap_or m (record { name = None; outer = None; arguments = []; locals = []; nodes = []; places = [] }))
  said_or None e = record { said = tt; placed = refl; initials = tt }
  said_or (Some b) e = e

  pub said_of : (n : ℕ) → Said (body_of s n)
  said_of n = said_or (slice_get s.bodies (n - 1)) (slice_each Said s.bodies (n - 1) formed.world.1.code)

  pub node_says : (n k : ℕ) → Says s.names (length s.things) (node_at (body_of s n) k)
  node_says n k = get_each (Says s.names (length s.things)) (body_of s n).nodes k nodes.End (said_of n).said tt

  -- What the next node sends is accepted.

  module _ (a : Activation) (older : List Activation) (here : slice_get s.activities s.current ≡ Some (Running (a ∷ older))) where
    abbrev h : Here
    h = record { state = s; young = a; older = older }

    values_there : Each (ActivationHolds (IsThere home s)) (a ∷ older)
    values_there = subst (InSome (ActivityHolds (IsThere home s))) here (slice_each (ActivityHolds (IsThere home s)) s.activities s.current formed.values.activities)

    pending_there : (k : ℕ) → IsThere home s (value_at a.pending k)
    pending_there k = get_each (IsThere home s) a.pending k (values.Object 0) values_there.0.pending (omega (arith, formed.world.0.nil))

    enough : (node : Node) → node_at (body_of s a.body) a.next ≡ node → taken node ≤ length a.pending
    enough node e = takes home s a older node formed.well (record { here = here; node = e })

    handled : (b : Bool) → HandlerAccepts home s (handler_of b h)
    handled false = tt
    handled true =
        let name : ℕ = number_of s.names (codes "value:With:") in
        let v : Value = value_at a.pending 0 in
        λ m e d. accepts m name (meets s v name) (subst (IsThere home s) (sym e) (pending_there 0))
        (subst (Takes s.names name) (sym d) formed.world.0.failure) (subst (λ (w : Value). MetFits w name (meets s v name)) (sym e) (meets_fit v name))

    node_accepts : (node : Node) → node_at (body_of s a.body) a.next ≡ node → Says s.names (length s.things) node → NodeAccepts home h node
    node_accepts (nodes.Int i) e says = tt
    node_accepts (nodes.Str o) e says = tt
    node_accepts (nodes.BlockLit b) e says = tt
    node_accepts nodes.SelfRef e says = tt
    node_accepts nodes.Nil e says = tt
    node_accepts (nodes.Read up slot) e says = tt
    node_accepts (nodes.Store up slot) e says = tt
    node_accepts (nodes.Send sel) e says =
        let most : taken (nodes.Send sel) ≤ length a.pending = enough (nodes.Send sel) e in
        accepts (stated sel.args h) sel.name.0 (meets s (stated sel.args h).receiver sel.name.0) (pending_there sel.args)
        (subst (Takes s.names sel.name.0) (sym (finds_arguments sel.args a.pending (omega (arith, most)))) says) (meets_fit (stated sel.args h).receiver sel.name.0)
    node_accepts (nodes.SelfSend sel) e says =
        accepts (implied sel.args h) sel.name.0 (meets s a.receiver sel.name.0) values_there.0.receiver
        (subst (Takes s.names sel.name.0) (sym (finds_arguments sel.args a.pending (enough (nodes.SelfSend sel) e))) says) (meets_fit a.receiver sel.name.0)
    node_accepts (nodes.Resend sel) e says =
        accepts (implied sel.args h) sel.name.0 (meets_above s a.holder sel.name.0) values_there.0.receiver
        (subst (Takes s.names sel.name.0) (sym (finds_arguments sel.args a.pending (enough (nodes.Resend sel) e))) says) (above_fit a.receiver a.holder sel.name.0)
    node_accepts (nodes.Directed parent sel) e says =
        accepts (implied sel.args h) sel.name.0 (meets_through s a.holder parent.0 sel.name.0) values_there.0.receiver
        (subst (Takes s.names sel.name.0) (sym (finds_arguments sel.args a.pending (enough (nodes.Directed parent sel) e))) says.1) (through_fit a.receiver a.holder parent.0 sel.name.0)
    node_accepts (nodes.Prim name args implied handler) e says = handled handler
    node_accepts nodes.Drop e says = tt
    node_accepts nodes.Restart e says = tt
    node_accepts nodes.Return e says = tt
    node_accepts nodes.NonLocal e says = tt
    node_accepts nodes.End e says = tt

  pub next_accepts : NextAccepts home s
  next_accepts a older here = node_accepts a older here (node_at (body_of s a.body) a.next) refl (node_says a.body a.next)
