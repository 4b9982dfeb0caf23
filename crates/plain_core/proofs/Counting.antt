-- A step counts at most one, and leaves the activities as many as they were, and the current one current.
use Rattle.std.proofs.Common.{refl, ◌≡◌, ◌⊎◌, inl, inr, ap, ℕ, ◌+◌, Bool, true, false, List, [], ◌∷◌, length, drop, get_or}
use Rattle.std.specs.Prelude.{nat_lt, nat_le, slice_get, slice_set, Option, Some, None, option_and_then, cond, Ok, Err, codes}
use Rattle.self_terms.specs.declared.nodes.Node.{Node}
use Rattle.self_terms.specs.declared.nodes.Node.TheVariants as nodes
use Rattle.self_terms.specs.declared.values.Value.{Value}
use Rattle.self_terms.specs.declared.values.Value.TheVariants as values
use Rattle.self_terms.specs.declared.values.BodyId.{BodyId}
use Rattle.self_terms.specs.declared.errors.ErrorName.{ErrorName}
use Rattle.self_terms.specs.declared.errors.ErrorName.TheVariants as errors
use Rattle.source_model.specs.Names.{number_of, text_named}
use Rattle.source_model.specs.Objects.{with_slots, stored}
use Rattle.source_model.specs.declared.objects.Content.TheVariants.{Constant, Assignable, Assignment, Parent, Method}
use Rattle.source_model.specs.declared.objects.Thing.{Thing}
use Rattle.source_model.specs.State.{Activation, Activity, Running, Answered, Failed, State, silent}
use Rattle.source_model.specs.Messages.{Met, Missing, Holds, body_of, meets, meets_above, meets_through}
use Rattle.source_model.specs.Sends.{Outcome, then_do, Here, goes_on, moved, answer_to, answers, beyond_home, entry_cost, begun, entered, enters, Message, callers, with_number, evaluates_in, evaluates, change_thing, sends}
use Rattle.source_model.specs.Primitives.{Effect, Gives, Makes, Puts, Prints, Fails, table, row_of, apply_row, error_string, row_string}
use Rattle.source_model.specs.Step.{value_at, stated, implied, owner, local_in, with_local, over_handler, called, handler_of, fixed_string, fails, with_thing, performs, done, node_at, place_of, settled, advanced, step}
use Rattle.source_model.proofs.Keeping.{either}
use Rattle.plain_core.proofs.Onward.{IsBeside, as_it_is, set_beside}

-- the same, but for one step that may be counted
pub record CountsOn (s t : State) : Type 0 where
  pub steps : (t.steps ≡ s.steps) ⊎ (t.steps ≡ s.steps + 1)
  pub current : t.current ≡ s.current
  pub activities : length t.activities ≡ length s.activities

pub of_beside : {s t : State} → IsBeside s t → CountsOn s t
of_beside d = record { steps = inl d.steps; current = d.current; activities = d.activities }

module _ (h : Here) where
  abbrev Counts : Outcome → Type 0
  Counts (Ok r) = IsBeside h.state r.state
  Counts (Err e) = Unit {0}

  goes : (s : State) (k : Here) (vs : List Value) → IsBeside h.state s → Counts (goes_on s k vs)
  goes s k vs d = set_beside h.state s (Running (moved vs k.young ∷ k.older)) d

  answered : (older : List Activation) (v : Value) → Counts (answers h older v)
  answered older v = set_beside h.state h.state (answer_to older v) (as_it_is h.state)

  enters_by : (a : Activation) (older : List Activation) (c : ℕ) (p q : Bool)
      → Counts (cond p (then_do (cond q (Ok (record h.state { cost = c })) (Err errors.StoreFull)) (λ (t : State). Ok (silent (entered a older t)))) (Err errors.StackOverflow))
  enters_by a older c true true = set_beside h.state (record h.state { cost = c; unused = h.state.unused + 1 }) (Running (a ∷ older)) (record { steps = refl; current = refl; activities = refl })
  enters_by a older c true false = tt
  enters_by a older c false q = tt

  entering : (a : Activation) (older : List Activation) → Counts (enters a older h.state)
  entering a older = enters_by a older (h.state.cost + entry_cost (body_of h.state a.body)) (nat_lt (length older) 4096) (nat_le (h.state.cost + entry_cost (body_of h.state a.body)) 4194304)

  evaluating_in : (m : Message) (b : BodyId) (a : Option Activation) → Counts (evaluates_in h m b a)
  evaluating_in m b None = tt
  evaluating_in m b (Some a) = entering (begun h.state b.0 a.receiver a.holder (Some a.number) m.arguments) (callers h m)

  evaluating : (m : Message) (v : Value) → Counts (evaluates h m v)
  evaluating m (values.Int i) = tt
  evaluating m (values.Object o) = tt
  evaluating m (values.Block b k) = evaluating_in m b (with_number k (callers h m))

  sending : (m : Message) (name : ℕ) (met : Met) → Counts (sends h m name met)
  sending m name (Missing x) = tt
  sending m name (Holds o (Constant v)) = goes h.state h (v ∷ m.rest) (as_it_is h.state)
  sending m name (Holds o (Assignable v)) = goes h.state h (v ∷ m.rest) (as_it_is h.state)
  sending m name (Holds o (Parent p)) = goes h.state h (values.Object p ∷ m.rest) (as_it_is h.state)
  sending m name (Holds o Assignment) =
      goes (change_thing (with_slots (stored name (get_or m.arguments 0 m.receiver))) o h.state) h (m.receiver ∷ m.rest) (record { steps = refl; current = refl; activities = refl })
  sending m name (Holds o (Method b)) = either Counts (nat_lt o (length h.state.things)) (enters (begun h.state b.0 m.receiver o None m.arguments) (callers h m) h.state) (evaluates h m m.receiver)
      (entering (begun h.state b.0 m.receiver o None m.arguments) (callers h m)) (evaluating m m.receiver)

  failing : (m : Message) (r : Option ℕ) (e : ErrorName) (handler : Option Value) → Counts (fails h m r e handler)
  failing m r e None = tt
  failing m r e (Some w) =
      sending (record { receiver = w; arguments = fixed_string h.state (error_string e) ∷ fixed_string h.state (row_string r) ∷ []; rest = m.rest })
      (number_of h.state.names (codes "value:With:")) (meets h.state w (number_of h.state.names (codes "value:With:")))

  made : (words : ℕ) (x : Thing) (m : Message) (b : Bool)
      → Counts (then_do (cond b (Ok (record h.state { cost = h.state.cost + words })) (Err errors.StoreFull)) (λ (s : State). goes_on (with_thing x s) h (values.Object (length s.things) ∷ m.rest)))
  made words x m true =
      goes (with_thing x (record h.state { cost = h.state.cost + words })) h (values.Object (length h.state.things) ∷ m.rest) (record { steps = refl; current = refl; activities = refl })
  made words x m false = tt

  performing : (m : Message) (r : Option ℕ) (handler : Option Value) (e : Effect) → Counts (performs h m r handler e)
  performing m r handler (Gives w) = goes h.state h (w ∷ m.rest) (as_it_is h.state)
  performing m r handler (Makes words x) = made words x m (nat_le (h.state.cost + words) 4194304)
  performing m r handler (Puts o x) = goes (record h.state { things = slice_set h.state.things o x }) h (m.receiver ∷ m.rest) (record { steps = refl; current = refl; activities = refl })
  performing m r handler (Prints line) = goes h.state h (m.receiver ∷ m.rest) (as_it_is h.state)
  performing m r handler (Fails e) = failing m r e handler

  literal : (b : BodyId) (t : Bool) → Counts (then_do (cond t (Ok (record h.state { cost = h.state.cost + 4 })) (Err errors.StoreFull)) (λ (s : State). goes_on s h (values.Block b h.young.number ∷ h.young.pending)))
  literal b true = goes (record h.state { cost = h.state.cost + 4 }) h (values.Block b h.young.number ∷ h.young.pending) (record { steps = refl; current = refl; activities = refl })
  literal b false = tt

  done_counts : (n : Node) → Counts (done h n)
  unfolding done
  done_counts (nodes.Int i) = goes h.state h (values.Int i ∷ h.young.pending) (as_it_is h.state)
  done_counts (nodes.Str o) = goes h.state h (values.Object o ∷ h.young.pending) (as_it_is h.state)
  done_counts (nodes.BlockLit b) = literal b (nat_le (h.state.cost + 4) 4194304)
  done_counts nodes.SelfRef = goes h.state h (h.young.receiver ∷ h.young.pending) (as_it_is h.state)
  done_counts nodes.Nil = goes h.state h (values.Object h.state.core.nil ∷ h.young.pending) (as_it_is h.state)
  done_counts (nodes.Read up slot) = goes h.state h (local_in (owner h up) slot ∷ h.young.pending) (as_it_is h.state)
  done_counts (nodes.Store up slot) = goes h.state (with_local (owner h up) slot (value_at h.young.pending 0) h) (h.young.receiver ∷ drop 1 h.young.pending) (as_it_is h.state)
  done_counts (nodes.Send sel) = sending (stated sel.args h) sel.name.0 (meets h.state (stated sel.args h).receiver sel.name.0)
  done_counts (nodes.SelfSend sel) = sending (implied sel.args h) sel.name.0 (meets h.state h.young.receiver sel.name.0)
  done_counts (nodes.Resend sel) = sending (implied sel.args h) sel.name.0 (meets_above h.state h.young.holder sel.name.0)
  done_counts (nodes.Directed parent sel) = sending (implied sel.args h) sel.name.0 (meets_through h.state h.young.holder parent.0 sel.name.0)
  done_counts (nodes.Prim name args is_implied handler) =
      let m = called args is_implied (over_handler handler h) in
      let r = row_of (text_named h.state.names name.0) args in
      performing m r (handler_of handler h) (apply_row h.state (option_and_then (slice_get table) r) m.receiver m.arguments)
  done_counts nodes.Drop = goes h.state h (drop 1 h.young.pending) (as_it_is h.state)
  done_counts nodes.Restart = set_beside h.state h.state (Running (record h.young { pending = []; next = 0 } ∷ h.older)) (as_it_is h.state)
  done_counts nodes.Return = answered h.older (value_at h.young.pending 0)
  done_counts nodes.NonLocal = answered (beyond_home h.young.maker h.older) (value_at h.young.pending 0)
  done_counts nodes.End = answered h.older (value_at h.young.pending 0)

  settled_counts : (o : Outcome) → Counts o → CountsOn h.state (settled h o).state
  settled_counts (Ok r) d = record { steps = inr (ap (λ n. n + 1) d.steps); current = d.current; activities = d.activities }
  settled_counts (Err x) d = of_beside (set_beside h.state h.state (Failed x (place_of h.state h.young)) (as_it_is h.state))

advanced_counts : (s : State) (x : Option Activity) → CountsOn s (advanced s x).state
advanced_counts s None = of_beside (as_it_is s)
advanced_counts s (Some (Running [])) = of_beside (as_it_is s)
advanced_counts s (Some (Answered v)) = of_beside (as_it_is s)
advanced_counts s (Some (Failed x p)) = of_beside (as_it_is s)
advanced_counts s (Some (Running (a ∷ older))) =
    let h : Here = record { state = s; young = a; older = older } in
    settled_counts h (done h (node_at (body_of s a.body) a.next)) (done_counts h (node_at (body_of s a.body) a.next))

pub step_counts : (s : State) → CountsOn s (step s).state
unfolding step
step_counts s = advanced_counts s (slice_get s.activities s.current)
