-- Nodes that end an activation.
use Rattle.std.proofs.Common.{◌≡◌, ◌⊎◌, ℕ, suc, ◌+◌, ◌-◌, ◌<◌, refl, ◌∙◌, ap, sym, subst, arith, inl, inr}
use Rattle.std.specs.Prelude.{Bool, true, []}
use Rattle.self_terms.specs.declared.nodes.Node.{Node}
use Rattle.self_terms.specs.declared.nodes.Node.TheVariants as nodes
use Rattle.self_terms.specs.Depths.{depth, depth_from}
use Rattle.sparc_store.specs.Words.{word_at, with_word, Stored}
use Rattle.source_model.specs.State.{State}
use Rattle.source_model.specs.Soundness.{body_in}
use Rattle.source_model.specs.Step.{step}
use Rattle.frame_walk.specs.Places.{pending_offset}
use Rattle.frame_walk.specs.Raw.{Raw, becomes, answered_to}
use Rattle.raw_steps.specs.Stands.{Sense, Follows as RawFollows}
use Rattle.raw_steps.proofs.Leaving.{context_leaves}
use Rattle.raw_steps.proofs.Answers.{answers_is}
use Rattle.plain_words.specs.Code.{return_code}
use Rattle.plain_words.specs.Moves.{IsReady, Ends, CanReturn}
use Rattle.plain_words.specs.Showing.{viewed}
use Rattle.plain_words.specs.Units.{frame_locals, frame_words, owns_context}
use Rattle.plain_words.proofs.Returning.{return_does}
use Rattle.plain_runs.specs.Host.{Host, raw_of, heap_words}
use Rattle.plain_runs.specs.Sound.{RunsAt, callers_of}
use Rattle.plain_runs.specs.Course.{with_machine, CanGo, code_at}
use Rattle.plain_runs.proofs.Ready.{ready_at}
use Rattle.plain_steps.specs.Steps.{StandsFor, DoesStep}
use Rattle.plain_steps.proofs.Here.{at_node_of}
use Rattle.plain_steps.proofs.Words.{depth_is, room_of, stands_after}
use Rattle.plain_steps.proofs.Answering.{return_steps, end_steps, some_pending, youngest_is}
use Rattle.plain_contexts.specs.Contexts.{AnswersOlder}
use Rattle.plain_contexts.proofs.Heaped.{InHeap, stored_in_heap, context_in_heap}
use Rattle.plain_contexts.proofs.Reading.{own_there, not_none, by_context}
use Rattle.plain_contexts.proofs.Assigning.{stored_kept, stored_left}
use Rattle.plain_contexts.proofs.Returned.{can_return, answered_on}

-- the words of a node that ends an activation
abbrev pub HasReturn : Node → Type 0
HasReturn node = (h : Host) (b n : ℕ) → code_at h b n node ≡ return_code (owns_context (body_in h.bodies b)) (frame_locals (body_in h.bodies b)) (depth_from 0 (body_in h.bodies b).nodes n - 1)

-- it has a value to answer
abbrev pub HasAnswer : Node → Type 0
HasAnswer node = (h : Host) (b n : ℕ) → CanGo h → RunsAt h b n node → 0 < depth (body_in h.bodies b).nodes n

-- Its words clear the mark of the context, and lead to the caller; and the source's step does so.
pub record Leaves (z : Sense) (h : Host) (s : State) (b n : ℕ) (node : Node) (r : RunsAt h b n node) (place answer : ℕ) : Type 0 where
  pub in_heap : InHeap place
  pub ends : Ends h.machine (with_word h.machine.memory place (h.machine.regs 0)) answer
  pub raw : RawFollows z (record (becomes (raw_of h) (answered_to (callers_of h r.view.older) answer)) { mem = heap_words (with_word h.machine.memory place (h.machine.regs 0)) }) (step s) []

pub leaves : (node : Node) → (node ≡ nodes.End) ⊎ (node ≡ nodes.Return) → HasReturn node → HasAnswer node → (z : Sense) (h : Host) (s : State) (b n : ℕ) → StandsFor z h s → (r : RunsAt h b n node) → CanGo h → owns_context (body_in h.bodies b) ≡ true
    → CanReturn h.machine → Leaves z h s b n node r (h.machine.regs 17 + 7) (word_at h.machine.memory (h.machine.regs 14 + pending_offset (frame_locals (body_in h.bodies b)) (depth_from 0 (body_in h.bodies b).nodes n - 1)))
leaves node is code some z h s b n f r can owns leave =
    let m = h.machine in
    let x = body_in h.bodies b in
    let locals = frame_locals x in
    let j = depth_from 0 x.nodes n - 1 in
    let at = at_node_of z h s b n node f r in
    let more = some h b n can r in
    let one : depth x.nodes n ≡ suc j = omega (arith, depth_is x.nodes n, more) in
    let there = own_there z h s b n node f r at owns 0 (omega arith) in
    let place = m.regs 17 + 7 in
    let in_heap = context_in_heap (m.regs 17) 0 7 there refl (omega arith) in
    let memory = with_word m.memory place (m.regs 0) in
    let ready = (let P : Bool → Type 0 = λ y. IsReady m m.pc (frame_words x) (return_code y locals j) in subst P owns (subst (IsReady m m.pc (frame_words x)) (code h b n) (ready_at h b n node r can.left))) in
    let stored : Stored (heap_words m.memory) (heap_words memory) place 0 = subst (λ (y : ℕ). Stored (heap_words m.memory) (heap_words memory) place y) can.hosted.register_0 (stored_in_heap m.memory place (m.regs 0) can.hosted.within in_heap) in
    let v = viewed m b n locals (depth x.nodes n) in
    let answer = word_at m.memory (m.regs 14 + pending_offset locals j) in
    let raw = context_leaves (raw_of h) s z f.stands at.young at.older v (callers_of h r.view.older) node at.at (heap_words memory) (not_none (m.regs 17) 0 there) stored
    (some_pending z.cells z.places at.young.pending m b n locals (depth x.nodes n) j one at.first.pending) (answers_is s at.young at.older node is) in
    record {
      in_heap = in_heap;
      ends = return_does m m.pc (frame_words x) true locals j ready (omega (arith, room_of h b n can)) there leave;
      raw = subst (λ (y : ℕ). RawFollows z (record (becomes (raw_of h) (answered_to (callers_of h r.view.older) y)) { mem = heap_words memory }) (step s) []) (youngest_is m b n locals (depth x.nodes n) j one) raw;
    }

own_answers : (node : Node) → (node ≡ nodes.End) ⊎ (node ≡ nodes.Return) → HasReturn node → HasAnswer node → (z : Sense) (h : Host) (s : State) (b n o : ℕ) → StandsFor z h s → (r : RunsAt h b n node) → CanGo h → owns_context (body_in h.bodies b) ≡ true
    → r.view.older ≡ suc o → DoesStep z h s
own_answers node is code some z h s b n o f r can owns deep =
    let m = h.machine in
    let e = leaves node is code some z h s b n f r can owns (can_return h b o r.view can deep) in
    let place = m.regs 17 + 7 in
    let memory = with_word m.memory place (m.regs 0) in
    let answer = word_at m.memory (m.regs 14 + pending_offset (frame_locals (body_in h.bodies b)) (depth_from 0 (body_in h.bodies b).nodes n - 1)) in
    let a = answered_on h b o answer memory r.view can (stored_kept h place (m.regs 0) can e.in_heap) (stored_left m.memory place (m.regs 0) e.in_heap) deep e.ends in
    record {
      instructions = a.instructions;
      few = omega (arith, a.few);
      to = a.to;
      goes = a.goes;
      hosted = a.hosted;
      goal = a.goal;
      left = a.left;
      paid = (let up : a.to.regs 6 ≡ m.regs 6 = ap (λ (y : Raw). y.heap.top) a.raw in let sum : h.cost + a.to.regs 3 ≡ h.cost + m.regs 3 = ap (λ (y : Raw). y.cost) a.raw in omega (arith, up, sum));
      body = a.body;
      number = a.number;
      next = a.next;
      runs = a.runs;
      sense = e.raw.to;
      stands = stands_after z h (with_machine h a.to) s (record (becomes (raw_of h) (answered_to (callers_of h r.view.older) answer)) { mem = heap_words memory }) f a.raw refl refl refl e.raw;
      counted = sym e.raw.stands.steps ∙ ap (λ y. y + 1) f.stands.steps;
      silent = e.raw.same;
    }

pub return_is : HasReturn nodes.Return
return_is h b n = refl

pub end_is : HasReturn nodes.End
end_is h b n = refl

pub return_has : HasAnswer nodes.Return
return_has h b n can r = (can.runs b).takes n nodes.Return r.node_is

pub end_has : HasAnswer nodes.End
end_has h b n can r = (can.runs b).takes n nodes.End r.node_is

pub return_answers : AnswersOlder nodes.Return
return_answers z h s b n o f r can deep =
    by_context (owns_context (body_in h.bodies b)) (λ owns. own_answers nodes.Return (inr refl) return_is return_has z h s b n o f r can owns deep) (λ plain. return_steps z h s b n o f r can plain deep)

pub end_answers : AnswersOlder nodes.End
end_answers z h s b n o f r can deep =
    by_context (owns_context (body_in h.bodies b)) (λ owns. own_answers nodes.End (inl refl) end_is end_has z h s b n o f r can owns deep) (λ plain. end_steps z h s b n o f r can plain deep)
