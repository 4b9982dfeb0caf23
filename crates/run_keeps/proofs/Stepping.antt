-- Steps, runs and `finish` leave size, edits and advisors.
use Rattle.std.proofs.Common.{refl, ◌∙◌, sym, subst, ℕ, zero, suc, ◌+◌, Bool, true, false, List, [], ◌∷◌, length, drop, get_or}
use Rattle.std.specs.Prelude.{nat_lt, nat_le, slice_get, slice_set, Option, Some, None, option_and_then, cond, Ok, Err, codes}
use Rattle.self_terms.specs.declared.nodes.Node.{Node}
use Rattle.self_terms.specs.declared.nodes.Node.TheVariants as nodes
use Rattle.self_terms.specs.declared.values.Value.{Value}
use Rattle.self_terms.specs.declared.values.Value.TheVariants as values
use Rattle.self_terms.specs.declared.values.BodyId.{BodyId}
use Rattle.self_terms.specs.declared.errors.ErrorName.{ErrorName}
use Rattle.self_terms.specs.declared.errors.ErrorName.TheVariants as errors
use Rattle.source_model.specs.Names.{number_of, text_named}
use Rattle.source_model.specs.Objects.{with_slots, stored}
use Rattle.source_model.specs.declared.objects.Content.TheVariants.{Constant, Assignable, Assignment, Parent, Method}
use Rattle.source_model.specs.declared.objects.Thing.{Thing}
use Rattle.source_model.specs.State.{Activation, Activity, Running, Answered, Failed, State, Reached, silent}
use Rattle.source_model.specs.Messages.{Met, Missing, Holds, body_of, meets, meets_above, meets_through}
use Rattle.source_model.specs.Sends.{Outcome, then_do, Here, goes_on, answers, beyond_home, entry_cost, begun, entered, enters, Message, callers, with_number, evaluates_in, evaluates, change_thing, sends}
use Rattle.source_model.specs.Primitives.{Effect, Gives, Makes, Puts, Prints, Fails, table, row_of, apply_row, error_string, row_string}
use Rattle.source_model.specs.Step.{value_at, stated, implied, owner, local_in, with_local, over_handler, called, handler_of, fixed_string, fails, with_thing, performs, done, node_at, settled, advanced, step, onward, run}
use Rattle.source_model.specs.Script.{lacks, finish}
use Rattle.source_model.proofs.Keeping.{either}
use Rattle.source_model.proofs.Runs.{until_first}
use Rattle.run_keeps.specs.Keeping.{IsSteady}

pub as_it_is : (s : State) → IsSteady s s
as_it_is s = record { size = refl; edits = refl; advisors = refl }

module _ (h : Here) where
  abbrev Leaves : Outcome → Type 0
  Leaves (Ok r) = IsSteady h.state r.state
  Leaves (Err e) = Unit {0}

  goes : (s : State) (k : Here) (vs : List Value) → IsSteady h.state s → Leaves (goes_on s k vs)
  goes s k vs d = record { size = d.size; edits = d.edits; advisors = d.advisors }

  answered : (older : List Activation) (v : Value) → Leaves (answers h older v)
  answered older v = record { size = refl; edits = refl; advisors = refl }

  enters_by : (a : Activation) (older : List Activation) (c : ℕ) (p q : Bool)
      → Leaves (cond p (then_do (cond q (Ok (record h.state { cost = c })) (Err errors.StoreFull)) (λ (t : State). Ok (silent (entered a older t)))) (Err errors.StackOverflow))
  enters_by a older c true true = record { size = refl; edits = refl; advisors = refl }
  enters_by a older c true false = tt
  enters_by a older c false q = tt

  entering : (a : Activation) (older : List Activation) → Leaves (enters a older h.state)
  entering a older = enters_by a older (h.state.cost + entry_cost (body_of h.state a.body)) (nat_lt (length older) 4096) (nat_le (h.state.cost + entry_cost (body_of h.state a.body)) 4194304)

  evaluating_in : (m : Message) (b : BodyId) (a : Option Activation) → Leaves (evaluates_in h m b a)
  evaluating_in m b None = tt
  evaluating_in m b (Some a) = entering (begun h.state b.0 a.receiver a.holder (Some a.number) m.arguments) (callers h m)

  evaluating : (m : Message) (v : Value) → Leaves (evaluates h m v)
  evaluating m (values.Int i) = tt
  evaluating m (values.Object o) = tt
  evaluating m (values.Block b k) = evaluating_in m b (with_number k (callers h m))

  sending : (m : Message) (name : ℕ) (met : Met) → Leaves (sends h m name met)
  sending m name (Missing x) = tt
  sending m name (Holds o (Constant v)) = goes h.state h (v ∷ m.rest) (as_it_is h.state)
  sending m name (Holds o (Assignable v)) = goes h.state h (v ∷ m.rest) (as_it_is h.state)
  sending m name (Holds o (Parent p)) = goes h.state h (values.Object p ∷ m.rest) (as_it_is h.state)
  sending m name (Holds o Assignment) =
      goes (change_thing (with_slots (stored name (get_or m.arguments 0 m.receiver))) o h.state) h (m.receiver ∷ m.rest) (record { size = refl; edits = refl; advisors = refl })
  sending m name (Holds o (Method b)) = either Leaves (nat_lt o (length h.state.things)) (enters (begun h.state b.0 m.receiver o None m.arguments) (callers h m) h.state) (evaluates h m m.receiver)
      (entering (begun h.state b.0 m.receiver o None m.arguments) (callers h m)) (evaluating m m.receiver)

  failing : (m : Message) (r : Option ℕ) (e : ErrorName) (handler : Option Value) → Leaves (fails h m r e handler)
  failing m r e None = tt
  failing m r e (Some w) =
      sending (record { receiver = w; arguments = fixed_string h.state (error_string e) ∷ fixed_string h.state (row_string r) ∷ []; rest = m.rest })
      (number_of h.state.names (codes "value:With:")) (meets h.state w (number_of h.state.names (codes "value:With:")))

  made : (words : ℕ) (x : Thing) (m : Message) (b : Bool)
      → Leaves (then_do (cond b (Ok (record h.state { cost = h.state.cost + words })) (Err errors.StoreFull)) (λ (s : State). goes_on (with_thing x s) h (values.Object (length s.things) ∷ m.rest)))
  made words x m true = record { size = refl; edits = refl; advisors = refl }
  made words x m false = tt

  performing : (m : Message) (r : Option ℕ) (handler : Option Value) (e : Effect) → Leaves (performs h m r handler e)
  performing m r handler (Gives w) = goes h.state h (w ∷ m.rest) (as_it_is h.state)
  performing m r handler (Makes words x) = made words x m (nat_le (h.state.cost + words) 4194304)
  performing m r handler (Puts o x) = goes (record h.state { things = slice_set h.state.things o x }) h (m.receiver ∷ m.rest) (record { size = refl; edits = refl; advisors = refl })
  performing m r handler (Prints line) = record { size = refl; edits = refl; advisors = refl }
  performing m r handler (Fails e) = failing m r e handler

  literal : (b : BodyId) (t : Bool) → Leaves (then_do (cond t (Ok (record h.state { cost = h.state.cost + 4 })) (Err errors.StoreFull)) (λ (s : State). goes_on s h (values.Block b h.young.number ∷ h.young.pending)))
  literal b true = record { size = refl; edits = refl; advisors = refl }
  literal b false = tt

  done_leaves : (n : Node) → Leaves (done h n)
  unfolding done
  done_leaves (nodes.Int i) = goes h.state h (values.Int i ∷ h.young.pending) (as_it_is h.state)
  done_leaves (nodes.Str o) = goes h.state h (values.Object o ∷ h.young.pending) (as_it_is h.state)
  done_leaves (nodes.BlockLit b) = literal b (nat_le (h.state.cost + 4) 4194304)
  done_leaves nodes.SelfRef = goes h.state h (h.young.receiver ∷ h.young.pending) (as_it_is h.state)
  done_leaves nodes.Nil = goes h.state h (values.Object h.state.core.nil ∷ h.young.pending) (as_it_is h.state)
  done_leaves (nodes.Read up slot) = goes h.state h (local_in (owner h up) slot ∷ h.young.pending) (as_it_is h.state)
  done_leaves (nodes.Store up slot) = goes h.state (with_local (owner h up) slot (value_at h.young.pending 0) h) (h.young.receiver ∷ drop 1 h.young.pending) (as_it_is h.state)
  done_leaves (nodes.Send sel) = sending (stated sel.args h) sel.name.0 (meets h.state (stated sel.args h).receiver sel.name.0)
  done_leaves (nodes.SelfSend sel) = sending (implied sel.args h) sel.name.0 (meets h.state h.young.receiver sel.name.0)
  done_leaves (nodes.Resend sel) = sending (implied sel.args h) sel.name.0 (meets_above h.state h.young.holder sel.name.0)
  done_leaves (nodes.Directed parent sel) = sending (implied sel.args h) sel.name.0 (meets_through h.state h.young.holder parent.0 sel.name.0)
  done_leaves (nodes.Prim name args is_implied handler) =
      let m = called args is_implied (over_handler handler h) in
      let r = row_of (text_named h.state.names name.0) args in
      performing m r (handler_of handler h) (apply_row h.state (option_and_then (slice_get table) r) m.receiver m.arguments)
  done_leaves nodes.Drop = goes h.state h (drop 1 h.young.pending) (as_it_is h.state)
  done_leaves nodes.Restart = record { size = refl; edits = refl; advisors = refl }
  done_leaves nodes.Return = answered h.older (value_at h.young.pending 0)
  done_leaves nodes.NonLocal = answered (beyond_home h.young.maker h.older) (value_at h.young.pending 0)
  done_leaves nodes.End = answered h.older (value_at h.young.pending 0)

  settled_leaves : (o : Outcome) → Leaves o → IsSteady h.state (settled h o).state
  settled_leaves (Ok r) d = record { size = d.size; edits = d.edits; advisors = d.advisors }
  settled_leaves (Err x) d = record { size = refl; edits = refl; advisors = refl }

advanced_leaves : (s : State) (x : Option Activity) → IsSteady s (advanced s x).state
advanced_leaves s None = as_it_is s
advanced_leaves s (Some (Running [])) = as_it_is s
advanced_leaves s (Some (Answered v)) = as_it_is s
advanced_leaves s (Some (Failed x p)) = as_it_is s
advanced_leaves s (Some (Running (a ∷ older))) =
    let h : Here = record { state = s; young = a; older = older } in
    settled_leaves h (done h (node_at (body_of s a.body) a.next)) (done_leaves h (node_at (body_of s a.body) a.next))

pub step_keeps : (s : State) → IsSteady s (step s).state
unfolding step
step_keeps s = advanced_leaves s (slice_get s.activities s.current)

steady_both : (s t u : State) → IsSteady s t → IsSteady t u → IsSteady s u
steady_both s t u m r = record { size = r.size ∙ m.size; edits = r.edits ∙ m.edits; advisors = r.advisors ∙ m.advisors }

pub run_keeps : (n : ℕ) (r : Reached) → IsSteady r.state (run n r).state
unfolding run
run_keeps zero r = as_it_is r.state
run_keeps (suc n) r = steady_both r.state (onward r).state (run n (onward r)).state (step_keeps r.state) (run_keeps n (onward r))

pub finish_keeps : (n : ℕ) (all : List Activation) (r : Reached) → IsSteady r.state (finish n all r).state
finish_keeps n [] r = as_it_is r.state
finish_keeps n (a ∷ older) r = let h = until_first (lacks a.number) n r in subst (λ (q : Reached). IsSteady r.state q.state) (sym h.2) (run_keeps h.0 r)
