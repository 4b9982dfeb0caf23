-- The machine is at the first node of an activation that has begun.
use Rattle.std.proofs.Common.{◌≡◌, ℕ, suc, ◌+◌, ◌-◌, ◌*◌, ◌<◌, refl, ◌∙◌, ap, sym, arith}
use Rattle.std.specs.Prelude.{List, [], ◌∷◌, length, Some, slice_get, slice_set}
use Rattle.self_terms.specs.declared.nodes.Node.{Node}
use Rattle.self_terms.specs.Depths.{taken, depth}
use Rattle.sparc_store.specs.Words.{word_at}
use Rattle.sparc_machine.specs.State.{MachineState}
use Rattle.source_model.specs.Soundness.{body_in}
use Rattle.frame_walk.specs.Places.{Frame}
use Rattle.frame_walk.specs.Raw.{Going}
use Rattle.plain_words.specs.Showing.{viewed}
use Rattle.plain_words.specs.Units.{entry_code, owns_context, frame_locals}
use Rattle.plain_runs.specs.Host.{Host, seen, threads_from, heap_words}
use Rattle.plain_runs.specs.Sound.{RunsAt, IsHosted, callers_of}
use Rattle.plain_runs.specs.Course.{with_machine}
use Rattle.plain_runs.proofs.Keeping.{unit_kept, threads_set}
use Rattle.plain_runs.proofs.Located.{none_before}
use Rattle.plain_steps.proofs.Here.{now_seen}
use Rattle.plain_evaluates.proofs.Called.{IsCalled, place_below}
use Rattle.plain_evaluates.proofs.Saved.{Shape, frame_of, after}
use Rattle.plain_evaluates.proofs.Others.{code_after, goal_after, left_after, waits_after, hosted_after}
use Rattle.plain_evaluates.proofs.Views.{HasBegun, has_entered, begun_shown, callers_shown, view_after}

first_of : {A : Type 0} (xs : List A) → 0 < length xs → (x : A) × (slice_get xs 0 ≡ Some x)
first_of [] h = absurd (omega (arith, h))
first_of (x ∷ xs) h = (x, refl)

depth_first : (nodes : List Node) → depth nodes 0 ≡ 0
unfolding depth
depth_first [] = refl
depth_first (x ∷ xs) = refl

-- the sender's frame, as it waits for the answer of a node
abbrev pub sender_frame : Host → ℕ → ℕ → Node → Frame
sender_frame h b n node = viewed h.machine b n (frame_locals (body_in h.bodies b)) (depth (body_in h.bodies b).nodes n - taken node)

-- At the poll of its first node the new activation is the youngest, and its sender waits.
pub record IsInside (h : Host) (b n c older : ℕ) (node : Node) (x : Shape) (to : MachineState) : Type 0 where
  pub hosted : IsHosted (with_machine h to)
  pub goal : word_at to.memory 0x30000000 ≡ word_at h.machine.memory 0x30000000
  pub left : word_at to.memory 0x30000004 ≡ word_at h.machine.memory 0x30000004
  pub next : Node
  pub runs : RunsAt (with_machine h to) c 0 next
  pub threads : threads_from (with_machine h to) 0 h.statuses ≡ slice_set (threads_from h 0 h.statuses) h.current (Going (frame_of c (place_below h c) x ∷ sender_frame h b n node ∷ callers_of h older))
  pub heap : heap_words to.memory ≡ heap_words h.machine.memory

pub is_inside : (h : Host) (b n c at : ℕ) (node : Node) → (q : IsCalled h b n c at node) → suc q.view.older < 4096 → 0 < length (body_in h.bodies c).nodes → (x : Shape) → length x.locals ≡ frame_locals (body_in h.bodies c)
    → (to : MachineState) → HasBegun h c (at + 4 * length (entry_code h.references (body_in h.bodies c))) x to → IsInside h b n c q.view.older node x to
is_inside h b n c at node q room some x long to e =
    let body = body_in h.bodies c in
    let r = h.references in
    let p = at + 4 * length (entry_code r body) in
    let h2 = with_machine h to in
    let has = has_entered h c p x to e in
    let first = first_of body.nodes some in
    let v = view_after h b n c at p node q room x long to e in
    let none = none_before body.nodes r (owns_context body) (frame_locals body) 0 0 in
    let runs : RunsAt h2 c 0 first.0 = record {
      view = v.view;
      stands = record { here = refl; next = e.stands.next ∙ ap (λ z. z + 4) (sym e.stands.here) };
      poll = record { at = at; unit = unit_kept h to c at (code_after h b n c at node q x long to has) q.unit; inside = some; address = omega (arith, e.stands.here, none) };
      node_is = first.1;
    } in
    let locals = frame_locals body in
    let new = frame_of c (place_below h c) x in
    let shown : seen h2 ≡ new ∷ sender_frame h b n node ∷ callers_of h q.view.older =
    now_seen h2 c 0 first.0 runs
    ∙ ap (λ k. viewed to c 0 locals k ∷ callers_of h2 v.view.older) (depth_first body.nodes)
    ∙ ap (λ y. y ∷ callers_of h2 v.view.older) (begun_shown h b n c at p node q x long to e)
    ∙ ap (λ k. new ∷ callers_of h2 k) v.deep
    ∙ ap (λ ys. new ∷ ys) (callers_shown h b n c at p node q x long to e) in
    record {
      hosted = hosted_after h b n c at node q x long to has;
      goal = goal_after h b n c at node q x long to has;
      left = left_after h b n c at node q x long to has;
      next = first.0;
      runs = runs;
      threads = threads_set h h2 0 h.current h.statuses q.view.sp q.view.pc q.view.known refl (omega arith) q.view.running (waits_after h b n c at node q x long to has) ∙ ap (λ ys. slice_set (threads_from h 0 h.statuses) h.current (Going ys)) shown;
      heap = ap heap_words e.memory_is ∙ (after h b n c at node q x long).heap;
    }
