-- What the source's step makes of a primitive's effect, and activations in words that follow it.
use Rattle.std.proofs.Common.{◌≡◌, sym, ap, subst, ◌∙◌, ℕ, ◌+◌, ◌≤◌, List, [], ◌∷◌, length, arith}
use Rattle.std.specs.Prelude.{true, nat_le, Ok, Err, Option, slice_set}
use Rattle.std.proofs.lemmas.Bool.{cond-true}
use Rattle.std.proofs.lemmas.Grind.{common_steps}
use Rattle.object_maps.specs.declared.layout.Heap.{Heap}
use Rattle.self_terms.specs.declared.errors.ErrorName.TheVariants as errors
use Rattle.self_terms.specs.declared.nodes.Node.{Node}
use Rattle.self_terms.specs.declared.values.Value.{Value}
use Rattle.self_terms.specs.declared.values.Value.TheVariants as values
use Rattle.source_model.specs.declared.objects.Thing.{Thing}
use Rattle.source_model.specs.Primitives.{Effect, Gives, Makes, Puts, Prints, Fails}
use Rattle.source_model.specs.Sends.{Message, Outcome, then_do, goes_on, paid}
use Rattle.source_model.specs.State.{Activation, Activity, Running, State, Reached}
use Rattle.source_model.specs.Step.{done, performs, settled, step, with_thing}
use Rattle.sparc_store.specs.Words.{Words}
use Rattle.heap_cells.proofs.Growing.{values_grow}
use Rattle.frame_walk.specs.Places.{Frame}
use Rattle.frame_walk.specs.Raw.{Thread, Going, Raw, moved_on}
use Rattle.prim_table.specs.Answers.{GoesOn, cost, things_after, value_after}
use Rattle.raw_steps.specs.Messages.{RawMessage, IsMessage}
use Rattle.raw_steps.specs.Sends.{here_of, at_node, raw_after}
use Rattle.raw_steps.specs.Stands.{Sense, Stands, IsAt, Follows}
use Rattle.raw_steps.proofs.Moving.{goes_next, young_is}
use Rattle.raw_steps.proofs.Nexts.{IsNext, state_after, step_at, stands_after}
use Rattle.plain_prims.specs.Performing.{printed_by}

-- an effect that is no error
abbrev pub Succeeds : Effect → Type 0
Succeeds (Fails e) = ⊥
Succeeds _ = Unit {0}

is_low : (words : ℕ) (s : State) → s.cost + words ≤ 4194304 → nat_le (s.cost + words) 4194304 ≡ true
is_low words s room = grind (arith, common_steps)

paid_is : (words : ℕ) (s : State) → s.cost + words ≤ 4194304 → paid words s ≡ Ok (record s { cost = s.cost + words })
paid_is words s room = cond-true (nat_le (s.cost + words) 4194304) (Ok (record s { cost = s.cost + words })) (Err errors.StoreFull) (is_low words s room)

-- the state after an effect, and what is printed
abbrev pub reached_by : State → Activation → List Activation → Message → Effect → Reached
reached_by s a older m e = record { state = state_after s (things_after s.things e) (Running (at_node (a.next + 1) (value_after s.things m.receiver e ∷ m.rest) a ∷ older)) (s.cost + cost e) s.unused; out = printed_by e }

abbrev reached : State → List Thing → Activity → List ℕ → ℕ → Reached
reached s things x out cost = record { state = state_after s things x cost s.unused; out = out }

free_of_cost : (s : State) (things : List Thing) (x : Activity) (out : List ℕ) → reached s things x out s.cost ≡ reached s things x out (s.cost + 0)
free_of_cost s things x out = ap (reached s things x out) (omega arith)

pub effect_done : (s : State) (a : Activation) (older : List Activation) (m : Message) (row : Option ℕ) (handler : Option Value) (e : Effect) → Succeeds e → s.cost + cost e ≤ 4194304
    → settled (here_of s a older) (performs (here_of s a older) m row handler e) ≡ reached_by s a older m e
effect_done s a older m row handler (Gives v) ok room = free_of_cost s s.things _ []
effect_done s a older m row handler (Makes words t) ok room =
    ap (λ (o : Outcome). settled (here_of s a older) o) (ap (λ p. then_do p (λ x. goes_on (with_thing t x) (here_of s a older) (values.Object (length x.things) ∷ m.rest))) (paid_is words s room))
effect_done s a older m row handler (Puts o t) ok room = free_of_cost s (slice_set s.things o t) _ []
effect_done s a older m row handler (Prints line) ok room = free_of_cost s s.things _ line
effect_done s a older m row handler (Fails e) ok room = absurd ok

module _ (r : Raw) (s : State) (z : Sense) (S : Stands z r s) (a : Activation) (older : List Activation) (f : Frame) (fs : List Frame) (node : Node) (at : IsAt r s a older f fs node) where
  -- the step's result, where it prints
  follows_print : (to : Sense) (mem : Words) (heap : Heap) (things : List Thing) (cost unused : ℕ) (x : Activity) (t : Thread) (out : List ℕ) → IsNext r s z to mem heap things cost unused x t
      → step s ≡ record { state = state_after s things x cost unused; out = out } → Follows z (raw_after r mem heap t cost) (step s) out
  follows_print to mem heap things cost unused x t out next is = record {
    to = to;
    stands = subst (λ (q : Reached). Stands to (raw_after r mem heap t cost) q.state) (sym is)
        (stands_after r s z S to mem heap things cost unused (Running (a ∷ older)) x (Going (f ∷ fs)) t at.here at.there next);
    grows = next.grows;
    same = ap (λ (q : Reached). q.out) is;
  }

  pub effect_follows : (m : Message) (x : RawMessage) → IsMessage z m x → (row : Option ℕ) (handler : Option Value) (e : Effect) → done (here_of s a older) node ≡ performs (here_of s a older) m row handler e
      → Succeeds e → s.cost + cost e ≤ 4194304 → (mem : Words) (heap : Heap) (w : ℕ) → GoesOn r.maps mem r.heap heap z.cells z.places s.things z.made m.receiver w e
      → Follows z (raw_after r mem heap (Going (moved_on (w ∷ x.rest) f ∷ fs)) (s.cost + cost e)) (step s) (printed_by e)
  effect_follows m x message row handler e done_is ok room mem heap w g =
      let things = things_after s.things e in
      follows_print (record z { cells = g.after.cells; places = g.places }) mem heap things (s.cost + cost e) s.unused
      (Running (at_node (a.next + 1) (value_after s.things m.receiver e ∷ m.rest) a ∷ older)) (Going (moved_on (w ∷ x.rest) f ∷ fs)) (printed_by e)
      (goes_next r s z S a older f fs node at g.after.cells g.places mem heap things (s.cost + cost e) (a.next + 1) (f.next + 1) (value_after s.things m.receiver e ∷ m.rest) (w ∷ x.rest)
      room g.after.is g.after.grows (ap (λ n. n + 1) (young_is r s z S a older f fs node at).next)
      (g.stands, values_grow z.cells g.after.cells z.places g.places g.after.grows m.rest x.rest message.rest))
      (step_at s a older node at.here at.node_is ∙ ap (settled (here_of s a older)) done_is ∙ effect_done s a older m row handler e ok room)
