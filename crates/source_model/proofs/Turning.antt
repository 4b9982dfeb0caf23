-- What a step does to a state: some of the youngest activations of the current activity go, or a new one comes; one thing is
-- made, or its data change; names, bodies and the core stay.
use Rattle.std.proofs.Common.{◌≡◌, ℕ, ◌+◌, ap, sym, subst, refl, ◌∙◌, arith, Bool, true, false, List, [], ◌∷◌, ◌++◌, ◌⊎◌, inl, inr, length, map, drop, get_or}
use Rattle.std.specs.Prelude.{◌==◌, nat_lt, nat_le, slice_get, slice_set, Option, Some, None, option_and_then, cond, Ok, Err, codes}
use Rattle.self_terms.specs.declared.nodes.Node.{Node}
use Rattle.self_terms.specs.declared.nodes.Node.TheVariants as nodes
use Rattle.self_terms.specs.declared.values.Value.{Value}
use Rattle.self_terms.specs.declared.values.Value.TheVariants as values
use Rattle.self_terms.specs.declared.values.BodyId.{BodyId}
use Rattle.self_terms.specs.declared.bodies.Local.{Local}
use Rattle.self_terms.specs.declared.errors.ErrorName.{ErrorName}
use Rattle.self_terms.specs.declared.errors.ErrorName.TheVariants as errors
use Rattle.source_model.specs.Names.{number_of, text_named}
use Rattle.source_model.specs.Objects.{Object, Content, Constant, Assignable, Assignment, Parent, Method, Thing, Plain, Vector, Text, with_slots, stored, changed_at}
use Rattle.source_model.specs.State.{Activation, Activity, Running, Answered, Failed, State, silent}
use Rattle.source_model.specs.Messages.{Met, Missing, Holds, body_of, meets, meets_above, meets_through}
use Rattle.source_model.specs.Sends.{Outcome, then_do, Here, moved, goes_on, answers, beyond_home, entry_cost, begun, entered, enters, Message, callers, with_number, evaluates_in, evaluates, change_thing, sends}
use Rattle.source_model.specs.Primitives.{Row, Effect, Gives, Makes, Puts, Prints, Fails, table, row_of, apply_row, error_string, row_string}
use Rattle.source_model.specs.Step.{value_at, stated, implied, owner, local_in, set_in, with_local, over_handler, called, handler_of, fixed_string, fails, with_thing, performs, done}
use Rattle.source_model.specs.Step.{node_at, place_of, settled, advanced, step}
use Rattle.source_model.specs.State.{Reached}
use Rattle.source_model.specs.Soundness.{numbers}
use Rattle.source_model.specs.Canon.{Each}
use Rattle.source_model.specs.Formed.{SlotHolds, ThingHolds, ActivationHolds, ActivityHolds, HasCore}
use Rattle.source_model.proofs.Keeping.{either}
use Rattle.source_model.proofs.Holding.{Ground}
use Rattle.source_model.proofs.HoldingNodes.{IsNew, IsPut, EffectHolds, apply_row_holds}

abbrev pub numbers_in : Activity → List ℕ
numbers_in (Running all) = numbers all
numbers_in (Answered v) = []
numbers_in (Failed e p) = []

abbrev pub Shape : ℕ → List ℕ → List ℕ → Type 0
Shape u old new = ((gone : List ℕ) × (old ≡ gone ++ new)) ⊎ (new ≡ u ∷ old)

pub data Changed (xs ys : List Thing) : Type 0 where
  Same : ys ≡ xs → Changed xs ys
  Stored : (name o : ℕ) (v : Value) → ys ≡ changed_at (with_slots (stored name v)) o xs → Changed xs ys
  Made : (x : Thing) → IsNew xs x → ys ≡ xs ++ x ∷ [] → Changed xs ys
  Put : (o : ℕ) (x : Thing) → IsPut xs o x → ys ≡ slice_set xs o x → Changed xs ys

pub record IsAsBefore (s t : State) : Type 0 where
  pub names : t.names ≡ s.names
  pub core : t.core ≡ s.core
  pub fixed : t.fixed ≡ s.fixed
  pub bodies : t.bodies ≡ s.bodies
  pub things : Changed s.things t.things

pub as_it_is : (s : State) → IsAsBefore s s
as_it_is s = record { names = refl; core = refl; fixed = refl; bodies = refl; things = Same refl }

-- what a primitive makes or puts
abbrev pub EffectNew : State → Effect → Type 0
EffectNew s e = EffectHolds (λ v. Unit {0}) (λ i. tt) (length s.things) (λ o lt. tt) s.things e

pub beyond : (maker : Option ℕ) (all : List Activation) → (gone : List ℕ) × (numbers all ≡ gone ++ numbers (beyond_home maker all))
beyond maker [] = ([], refl)
beyond None (a ∷ all) = ([], refl)
beyond (Some k) (a ∷ all) = let b = beyond (cond (a.number == k) a.maker (Some k)) all in (a.number ∷ b.0, ap (λ q. a.number ∷ q) b.1)

module _ (h : Here) (effects : (row : Option Row) (r : Value) (xs : List Value) → EffectNew h.state (apply_row h.state row r xs)) where
  abbrev pub old : List ℕ
  old = numbers (h.young ∷ h.older)

  abbrev pub Shaped : Outcome → Type 0
  Shaped (Ok r) = (x : Activity) × (r.state.activities ≡ slice_set h.state.activities h.state.current x) × (r.state.current ≡ h.state.current) × Shape h.state.unused old (numbers_in x) × IsAsBefore h.state r.state
  Shaped (Err e) = Unit {0}

  goes : (s : State) (k : Here) (vs : List Value) → s.activities ≡ h.state.activities → s.current ≡ h.state.current → numbers (k.young ∷ k.older) ≡ old → IsAsBefore h.state s → Shaped (goes_on s k vs)
  goes s k vs a c e d = (
    Running (moved vs k.young ∷ k.older),
    (λ i. slice_set (a i) (c i) (Running (moved vs k.young ∷ k.older))),
    c,
    inl ([], sym e),
    record { names = d.names; core = d.core; fixed = d.fixed; bodies = d.bodies; things = d.things },
  )

  stays : IsAsBefore h.state h.state
  stays = as_it_is h.state

  same : Changed h.state.things h.state.things
  same = Same refl

  answered : (older : List Activation) (v : Value) (gone : List ℕ) → old ≡ gone ++ numbers older → Shaped (answers h older v)
  answered [] v gone e = (Answered v, refl, refl, inl (gone, e), record { names = refl; core = refl; fixed = refl; bodies = refl; things = same })
  answered (a ∷ older) v gone e = (Running (moved (v ∷ a.pending) a ∷ older), refl, refl, inl (gone, e), record { names = refl; core = refl; fixed = refl; bodies = refl; things = same })

  enters_by : (a : Activation) (older : List Activation) (c : ℕ) (p q : Bool) → a.number ≡ h.state.unused → numbers older ≡ old
      → Shaped (cond p (then_do (cond q (Ok (record h.state { cost = c })) (Err errors.StoreFull)) (λ (t : State). Ok (silent (entered a older t)))) (Err errors.StackOverflow))
  enters_by a older c true true e d = (Running (a ∷ older), refl, refl, inr (λ i. e i ∷ d i), record { names = refl; core = refl; fixed = refl; bodies = refl; things = same })
  enters_by a older c true false e d = tt
  enters_by a older c false q e d = tt

  entering : (a : Activation) (older : List Activation) → a.number ≡ h.state.unused → numbers older ≡ old → Shaped (enters a older h.state)
  entering a older e d = enters_by a older (h.state.cost + entry_cost (body_of h.state a.body)) (nat_lt (length older) 4096) (nat_le (h.state.cost + entry_cost (body_of h.state a.body)) 4194304) e d

  evaluating_in : (m : Message) (b : BodyId) (a : Option Activation) → Shaped (evaluates_in h m b a)
  evaluating_in m b None = tt
  evaluating_in m b (Some a) = entering (begun h.state b.0 a.receiver a.holder (Some a.number) m.arguments) (callers h m) refl refl

  evaluating : (m : Message) (v : Value) → Shaped (evaluates h m v)
  evaluating m (values.Int i) = tt
  evaluating m (values.Object o) = tt
  evaluating m (values.Block b k) = evaluating_in m b (with_number k (callers h m))

  sending : (m : Message) (name : ℕ) (met : Met) → Shaped (sends h m name met)
  sending m name (Missing x) = tt
  sending m name (Holds o (Constant v)) = goes h.state h (v ∷ m.rest) refl refl refl stays
  sending m name (Holds o (Assignable v)) = goes h.state h (v ∷ m.rest) refl refl refl stays
  sending m name (Holds o (Parent p)) = goes h.state h (values.Object p ∷ m.rest) refl refl refl stays
  sending m name (Holds o Assignment) = goes (change_thing (with_slots (stored name (get_or m.arguments 0 m.receiver))) o h.state) h (m.receiver ∷ m.rest) refl refl refl
      (record { names = refl; core = refl; fixed = refl; bodies = refl; things = Stored name o (get_or m.arguments 0 m.receiver) refl })
  sending m name (Holds o (Method b)) = either Shaped (nat_lt o (length h.state.things)) (enters (begun h.state b.0 m.receiver o None m.arguments) (callers h m) h.state) (evaluates h m m.receiver)
      (entering (begun h.state b.0 m.receiver o None m.arguments) (callers h m) refl refl) (evaluating m m.receiver)

  failing : (m : Message) (r : Option ℕ) (e : ErrorName) (handler : Option Value) → Shaped (fails h m r e handler)
  failing m r e None = tt
  failing m r e (Some w) =
      sending (record { receiver = w; arguments = fixed_string h.state (error_string e) ∷ fixed_string h.state (row_string r) ∷ []; rest = m.rest })
      (number_of h.state.names (codes "value:With:")) (meets h.state w (number_of h.state.names (codes "value:With:")))

  made : (words : ℕ) (x : Thing) (m : Message) (b : Bool) → IsNew h.state.things x
      → Shaped (then_do (cond b (Ok (record h.state { cost = h.state.cost + words })) (Err errors.StoreFull)) (λ (s : State). goes_on (with_thing x s) h (values.Object (length s.things) ∷ m.rest)))
  made words x m true new = goes (with_thing x (record h.state { cost = h.state.cost + words })) h (values.Object (length h.state.things) ∷ m.rest) refl refl refl
      (record { names = refl; core = refl; fixed = refl; bodies = refl; things = Made x new refl })
  made words x m false new = tt

  performing : (m : Message) (r : Option ℕ) (handler : Option Value) (e : Effect) → EffectNew h.state e → Shaped (performs h m r handler e)
  performing m r handler (Gives w) new = goes h.state h (w ∷ m.rest) refl refl refl stays
  performing m r handler (Makes words x) new = made words x m (nat_le (h.state.cost + words) 4194304) new.1
  performing m r handler (Puts o x) new = goes (record h.state { things = slice_set h.state.things o x }) h (m.receiver ∷ m.rest) refl refl refl
      (record { names = refl; core = refl; fixed = refl; bodies = refl; things = Put o x new.1 refl })
  performing m r handler (Prints line) new = (Running (moved (m.receiver ∷ m.rest) h.young ∷ h.older), refl, refl, inl ([], refl), record { names = refl; core = refl; fixed = refl; bodies = refl; things = same })
  performing m r handler (Fails e) new = failing m r e handler

  literal : (b : BodyId) (t : Bool) → Shaped (then_do (cond t (Ok (record h.state { cost = h.state.cost + 4 })) (Err errors.StoreFull)) (λ (s : State). goes_on s h (values.Block b h.young.number ∷ h.young.pending)))
  literal b true = goes (record h.state { cost = h.state.cost + 4 }) h (values.Block b h.young.number ∷ h.young.pending) refl refl refl
      (record { names = refl; core = refl; fixed = refl; bodies = refl; things = same })
  literal b false = tt

  set_number : (b : Bool) (a c : Activation) → c.number ≡ a.number → (cond b c a).number ≡ a.number
  set_number true a c e = e
  set_number false a c e = refl

  set_one : (home : Activation) (slot : ℕ) (w : Value) (a : Activation) → (set_in home slot w a).number ≡ a.number
  set_one home slot w a = set_number (a.number == home.number) a (record a { locals = slice_set a.locals slot w }) refl

  set_all : (home : Activation) (slot : ℕ) (w : Value) (all : List Activation) → numbers (map (set_in home slot w) all) ≡ numbers all
  set_all home slot w [] = refl
  set_all home slot w (a ∷ all) = λ i. set_one home slot w a i ∷ set_all home slot w all i

  storing : (home : Option Activation) (slot : ℕ) (w : Value) (vs : List Value) → Shaped (goes_on h.state (with_local home slot w h) vs)
  storing None slot w vs = goes h.state h vs refl refl refl stays
  storing (Some home) slot w vs = goes h.state (with_local (Some home) slot w h) vs refl refl (λ i. set_one home slot w h.young i ∷ set_all home slot w h.older i) stays

  pub done_shape : (n : Node) → Shaped (done h n)
  unfolding done
  done_shape (nodes.Int i) = goes h.state h (values.Int i ∷ h.young.pending) refl refl refl stays
  done_shape (nodes.Str o) = goes h.state h (values.Object o ∷ h.young.pending) refl refl refl stays
  done_shape (nodes.BlockLit b) = literal b (nat_le (h.state.cost + 4) 4194304)
  done_shape nodes.SelfRef = goes h.state h (h.young.receiver ∷ h.young.pending) refl refl refl stays
  done_shape nodes.Nil = goes h.state h (values.Object h.state.core.nil ∷ h.young.pending) refl refl refl stays
  done_shape (nodes.Read up slot) = goes h.state h (local_in (owner h up) slot ∷ h.young.pending) refl refl refl stays
  done_shape (nodes.Store up slot) = storing (owner h up) slot (value_at h.young.pending 0) (h.young.receiver ∷ drop 1 h.young.pending)
  done_shape (nodes.Send sel) = sending (stated sel.args h) sel.name.0 (meets h.state (stated sel.args h).receiver sel.name.0)
  done_shape (nodes.SelfSend sel) = sending (implied sel.args h) sel.name.0 (meets h.state h.young.receiver sel.name.0)
  done_shape (nodes.Resend sel) = sending (implied sel.args h) sel.name.0 (meets_above h.state h.young.holder sel.name.0)
  done_shape (nodes.Directed parent sel) = sending (implied sel.args h) sel.name.0 (meets_through h.state h.young.holder parent.0 sel.name.0)
  done_shape (nodes.Prim name args is_implied handler) =
      let m = called args is_implied (over_handler handler h) in
      let r = row_of (text_named h.state.names name.0) args in
      performing m r (handler_of handler h) (apply_row h.state (option_and_then (slice_get table) r) m.receiver m.arguments) (effects (option_and_then (slice_get table) r) m.receiver m.arguments)
  done_shape nodes.Drop = goes h.state h (drop 1 h.young.pending) refl refl refl stays
  done_shape nodes.Restart = (Running (record h.young { pending = []; next = 0 } ∷ h.older), refl, refl, inl ([], refl), record { names = refl; core = refl; fixed = refl; bodies = refl; things = same })
  done_shape nodes.Return = answered h.older (value_at h.young.pending 0) (h.young.number ∷ []) refl
  done_shape nodes.NonLocal =
      let b = beyond h.young.maker h.older in
      answered (beyond_home h.young.maker h.older) (value_at h.young.pending 0) (h.young.number ∷ b.0) (ap (λ q. h.young.number ∷ q) b.1)
  done_shape nodes.End = answered h.older (value_at h.young.pending 0) (h.young.number ∷ []) refl

  -- A step.

  pub record Turned (t : State) : Type 0 where
    pub now : Activity
    pub activities : t.activities ≡ slice_set h.state.activities h.state.current now
    pub current : t.current ≡ h.state.current
    pub shape : Shape h.state.unused old (numbers_in now)
    pub before : IsAsBefore h.state t

  nothing_behind : (xs : List ℕ) → xs ≡ xs ++ []
  nothing_behind [] = refl
  nothing_behind (x ∷ xs) = ap (λ ys. x ∷ ys) (nothing_behind xs)

  settled_turned : (o : Outcome) → Shaped o → Turned (settled h o).state
  settled_turned (Ok r) e = record {
    now = e.0;
    activities = e.1;
    current = e.2;
    shape = e.3;
    before = record { names = e.4.names; core = e.4.core; fixed = e.4.fixed; bodies = e.4.bodies; things = e.4.things };
  }
  settled_turned (Err x) e = record {
    now = Failed x (place_of h.state h.young);
    activities = refl;
    current = refl;
    shape = inl (old, nothing_behind old);
    before = record { names = refl; core = refl; fixed = refl; bodies = refl; things = same };
  }

-- Values of which nothing is known.
abbrev Any : Value → Type 0
Any v = Unit {0}

any_values : (vs : List Value) → Each Any vs
any_values [] = tt
any_values (v ∷ vs) = (tt, any_values vs)

any_content : (c : Content) → SlotHolds Any (record { name = 0; content = c })
any_content (Constant v) = tt
any_content (Assignable v) = tt
any_content Assignment = tt
any_content (Parent o) = tt
any_content (Method b) = tt

any_slots : (slots : Object) → Each (SlotHolds Any) slots
any_slots [] = tt
any_slots (x ∷ xs) = (any_content x.content, any_slots xs)

any_things : (xs : List Thing) → Each (ThingHolds Any) xs
any_things [] = tt
any_things (Plain slots ∷ xs) = (any_slots slots, any_things xs)
any_things (Vector items ∷ xs) = (any_values items, any_things xs)
any_things (Text bytes ∷ xs) = (tt, any_things xs)

any_activations : (all : List Activation) → Each (ActivationHolds Any) all
any_activations [] = tt
any_activations (a ∷ all) = (record { receiver = tt; holder = tt; locals = any_values a.locals; pending = any_values a.pending }, any_activations all)

any_activities : (all : List Activity) → Each (ActivityHolds Any) all
any_activities [] = tt
any_activities (Running as_list ∷ all) = (any_activations as_list, any_activities all)
any_activities (Answered v ∷ all) = (tt, any_activities all)
any_activities (Failed e p ∷ all) = (tt, any_activities all)

any_locals : (xs : List Local) → Each (λ (x : Local). Unit {0}) xs
any_locals [] = tt
any_locals (x ∷ xs) = (tt, any_locals xs)

module _ (s : State) (has : HasCore s) where
  ground : Ground Any (length s.things) (λ o lt. tt) s
  ground = record {
    few = omega arith;
    nil = has.nil;
    yes = has.yes;
    no = has.no;
    integers = has.integers;
    strings = has.strings;
    vectors = has.vectors;
    blocks = has.blocks;
    fixed = has.fixed;
    initials = λ b. any_locals (body_of s b).locals;
  }

  effects_new : (row : Option Row) (r : Value) (xs : List Value) → EffectNew s (apply_row s row r xs)
  effects_new row r xs = apply_row_holds Any (λ i. tt) (length s.things) (λ o lt. tt) s (record { things = any_things s.things; activities = any_activities s.activities }) ground row r xs tt (any_values xs)

  abbrev pub TurnedAt : List ℕ → State → Type 0
  TurnedAt old t = (now : Activity) × (t.activities ≡ slice_set s.activities s.current now) × (t.current ≡ s.current) × Shape s.unused old (numbers_in now) × IsAsBefore s t

  turned_at : (a : Activation) (older : List Activation) (node : Node) → TurnedAt (numbers (a ∷ older)) (settled (record { state = s; young = a; older = older }) (done (record { state = s; young = a; older = older }) node)).state
  turned_at a older node =
      let h : Here = record { state = s; young = a; older = older } in
      let t = settled_turned h effects_new (done h node) (done_shape h effects_new node) in
      (t.now, t.activities, t.current, t.shape, t.before)

  -- a step is one of a running activity, or does nothing
  module _ (C : State → Type 0) (rests : C s) (turns : (a : Activation) (older : List Activation) → slice_get s.activities s.current ≡ Some (Running (a ∷ older)) → TurnedAt (numbers (a ∷ older)) (step s).state → C (step s).state) where
    step_is : step s ≡ advanced s (slice_get s.activities s.current)
    unfolding step
    step_is = refl

    by_activity : (x : Option Activity) → slice_get s.activities s.current ≡ x → C (step s).state
    by_activity None e = subst (λ (r : Reached). C r.state) (sym (step_is ∙ ap (advanced s) e)) rests
    by_activity (Some (Running [])) e = subst (λ (r : Reached). C r.state) (sym (step_is ∙ ap (advanced s) e)) rests
    by_activity (Some (Answered v)) e = subst (λ (r : Reached). C r.state) (sym (step_is ∙ ap (advanced s) e)) rests
    by_activity (Some (Failed x p)) e = subst (λ (r : Reached). C r.state) (sym (step_is ∙ ap (advanced s) e)) rests
    by_activity (Some (Running (a ∷ older))) e =
        turns a older e (subst (λ (r : Reached). TurnedAt (numbers (a ∷ older)) r.state) (sym (step_is ∙ ap (advanced s) e)) (turned_at a older (node_at (body_of s a.body) a.next)))

    pub step_turns : C (step s).state
    step_turns = by_activity (slice_get s.activities s.current) refl
