-- Where the machine is at a node, the source is at it.
use Rattle.std.proofs.Common.{◌≡◌, ℕ, zero, suc, ◌+◌, ◌==◌, refl, ◌∙◌, ap, sym, subst, arith}
use Rattle.std.specs.Prelude.{Bool, true, if◌then◌else◌, List, [], ◌∷◌, length, Option, Some, None, slice_get, get_or}
use Rattle.std.proofs.lemmas.Grind.{common_steps}
use Rattle.self_terms.specs.declared.nodes.Node.{Node}
use Rattle.self_terms.specs.declared.nodes.Node.TheVariants as nodes
use Rattle.self_terms.specs.Depths.{depth}
use Rattle.sparc_store.specs.Windows.{kept, frame_before, but_first}
use Rattle.source_model.specs.State.{Activation, Activity, Running, Answered as Ended_with, Failed as Ended_by, State}
use Rattle.source_model.specs.Messages.{body_of}
use Rattle.source_model.specs.Soundness.{body_in}
use Rattle.source_model.specs.Step.{node_at}
use Rattle.frame_walk.specs.Places.{Frame, shown}
use Rattle.frame_walk.specs.Raw.{Thread, Going}
use Rattle.raw_steps.specs.Stands.{Sense, IsActivity, IsActivation, IsAt, makes_blocks}
use Rattle.plain_words.specs.Units.{frame_locals}
use Rattle.plain_words.specs.Showing.{viewed}
use Rattle.plain_runs.specs.Host.{Host, seen, waiting, thread_of, threads_from, raw_of, descriptor_at}
use Rattle.plain_runs.specs.declared.status.Status.{Status}
use Rattle.plain_runs.specs.declared.status.Status.TheVariants.{Waiting}
use Rattle.plain_runs.specs.Sound.{InFrame, RunsAt, callers_of}
use Rattle.frame_walk.specs.Places.{Descriptor}
use Rattle.frame_walk.specs.Walk.{activations}
use Rattle.sparc_machine.specs.State.{MachineState}
use Rattle.plain_runs.proofs.Pointed.{poll_descriptor}
use Rattle.plain_steps.specs.Steps.{StandsFor}

is_same : (a b : ℕ) → a ≡ b → (a == b) ≡ true
is_same a b e = grind (arith, common_steps)

thread_there : (h : Host) (from c : ℕ) (ss : List Status) (s : Status) → slice_get ss c ≡ Some s → slice_get (threads_from h from ss) c ≡ Some (thread_of h (from + c) s)
thread_there h from c [] s e = absurd (cc)
thread_there h from zero (x ∷ ss) s e =
    let same : x ≡ s = (let f : Some x ≡ Some s = e in cc) in
    ap (λ k. Some (thread_of h k x)) (omega arith) ∙ ap (λ y. Some (thread_of h (from + 0) y)) same
thread_there h from (suc c) (x ∷ ss) s e = thread_there h (from + 1) c ss s e ∙ ap (λ k. Some (thread_of h k s)) (omega arith)

-- the frames of the current activity
pub current_there : (h : Host) (b : ℕ) → InFrame h b → slice_get (raw_of h).threads h.current ≡ Some (Going (seen h))
current_there h b r =
    thread_there h 0 h.current h.statuses (Waiting r.sp r.pc r.known) r.running
    ∙ ap (λ k. Some (thread_of h k (Waiting r.sp r.pc r.known))) (omega arith)
    ∙ ap (λ x. Some (Going (if x then seen h else waiting h r.sp r.pc r.known))) (is_same h.current h.current refl)

-- the activations of the current activity are the youngest and its callers
seen_as : (d : ℕ → Descriptor) (m : MachineState) (older : ℕ) → m.regs 4 ≡ suc older
    → activations d m.memory (m.regs 4) (m.regs 14) (kept m.regs) m.pc m.older
    ≡ shown m.memory (kept m.regs) (m.regs 14) (d m.pc) ∷ activations d m.memory older (m.regs 30) (frame_before m.memory (m.regs 30) m.older) (m.regs 31 + 8) (but_first m.older)
unfolding activations
seen_as d m older e = ap (λ n. activations d m.memory n (m.regs 14) (kept m.regs) m.pc m.older) e

pub now_seen : (h : Host) (b n : ℕ) (node : Node) → (r : RunsAt h b n node)
    → seen h ≡ viewed h.machine b n (frame_locals (body_in h.bodies b)) (depth (body_in h.bodies b).nodes n) ∷ callers_of h r.view.older
now_seen h b n node r =
    seen_as (descriptor_at h) h.machine r.view.older r.view.count
    ∙ ap (λ d. shown h.machine.memory (kept h.machine.regs) (h.machine.regs 14) d ∷ callers_of h r.view.older) (poll_descriptor h h.machine.pc b n node r.poll r.node_is)

-- an activity that stands for frames runs
pub record RunsIn (wants : ℕ → Bool) (z : Sense) (at : ℕ) (x : Option Activity) (f : Frame) (fs : List Frame) : Type 0 where
  pub young : Activation
  pub older : List Activation
  pub is : x ≡ Some (Running (young ∷ older))
  pub first : IsActivation wants z at (length older) young f

runs_in : (wants : ℕ → Bool) (z : Sense) (at : ℕ) (x : Option Activity) (f : Frame) (fs : List Frame) → IsActivity wants z at x (Some (Going (f ∷ fs))) → RunsIn wants z at x f fs
runs_in wants z at (Some (Running (a ∷ older))) f fs h = record { young = a; older = older; is = refl; first = h.0 }
runs_in wants z at (Some (Running [])) f fs h = absurd h
runs_in wants z at (Some (Ended_with v)) f fs h = absurd h
runs_in wants z at (Some (Ended_by e p)) f fs h = absurd h
runs_in wants z at None f fs h = absurd h

got : {A : Type 0} (xs : List A) (j : ℕ) (x d : A) → slice_get xs j ≡ Some x → get_or xs j d ≡ x
got [] j x d e = absurd (cc)
got (y ∷ ys) zero x d e = let f : Some y ≡ Some x = e in cc
got (y ∷ ys) (suc j) x d e = got ys j x d e

-- the youngest activation of the source, where the machine is at a node
pub record AtNode (z : Sense) (h : Host) (s : State) (b n : ℕ) (node : Node) (r : RunsAt h b n node) : Type 0 where
  pub young : Activation
  pub older : List Activation
  pub at : IsAt (raw_of h) s young older (viewed h.machine b n (frame_locals (body_in h.bodies b)) (depth (body_in h.bodies b).nodes n)) (callers_of h r.view.older) node
  pub first : IsActivation (makes_blocks s) z h.current (length older) young (viewed h.machine b n (frame_locals (body_in h.bodies b)) (depth (body_in h.bodies b).nodes n))

pub at_node_of : (z : Sense) (h : Host) (s : State) (b n : ℕ) (node : Node) → StandsFor z h s → (r : RunsAt h b n node) → AtNode z h s b n node r
at_node_of z h s b n node f r =
    let v = viewed h.machine b n (frame_locals (body_in h.bodies b)) (depth (body_in h.bodies b).nodes n) in
    let there : slice_get (raw_of h).threads h.current ≡ Some (Going (v ∷ callers_of h r.view.older)) = current_there h b r.view ∙ ap (λ x. Some (Going x)) (now_seen h b n node r) in
    let P : Option Thread → Type 0 = λ t. IsActivity (makes_blocks s) z h.current (slice_get s.activities h.current) t in
    let i = runs_in (makes_blocks s) z h.current (slice_get s.activities h.current) v (callers_of h r.view.older) (subst P there (f.stands.activity h.current)) in
    let cur : h.current ≡ s.current = f.stands.current in
    record {
      young = i.young;
      older = i.older;
      at = record {
        here = ap (slice_get s.activities) (sym cur) ∙ i.is;
        there = there;
        node_is =
            ap (λ k. node_at (body_of s i.young.body) k) (sym i.first.next)
            ∙ ap (λ k. node_at (body_of s k) n) (sym i.first.body)
            ∙ ap (λ bs. node_at (body_in bs b) n) (sym f.bodies)
            ∙ got (body_in h.bodies b).nodes n node nodes.End r.node_is;
      };
      first = i.first;
    }
