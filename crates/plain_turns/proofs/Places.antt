-- Where a machine stands that has asked for a service.
use Rattle.std.proofs.Common.{◌≡◌, ℕ, ◌+◌, ◌*◌, ◌<◌, refl, ◌∙◌, ap, sym, arith, length-append}
use Rattle.std.specs.Prelude.{List, ◌∷◌, ◌++◌, length, Some, slice_get}
use Rattle.self_terms.specs.declared.nodes.Node.{Node}
use Rattle.self_terms.specs.declared.nodes.Node.TheVariants as nodes
use Rattle.self_terms.specs.declared.values.BodyId.{BodyId}
use Rattle.self_terms.specs.Depths.{depth_from}
use Rattle.sparc_machine.specs.State.{MachineState}
use Rattle.source_model.specs.Soundness.{body_in}
use Rattle.source_model.specs.State.{Activation, State, Running}
use Rattle.source_model.specs.Step.{place_at, place_of}
use Rattle.frame_walk.specs.Places.{Descriptor}
use Rattle.raw_steps.specs.Stands.{Sense}
use Rattle.plain_words.specs.Code.{poll}
use Rattle.plain_words.specs.declared.units.Point.{Point}
use Rattle.plain_runs.specs.Host.{Host, point_at, descriptor_at}
use Rattle.plain_runs.specs.Units.{IsBehindCall}
use Rattle.plain_runs.specs.Sound.{RunsAt}
use Rattle.plain_runs.specs.Course.{with_machine, code_at}
use Rattle.plain_runs.proofs.Located.{times_is}
use Rattle.plain_runs.proofs.Pointed.{call_descriptor}
use Rattle.plain_answers.proofs.Failing.{places_agree}
use Rattle.plain_stretches.specs.Standing.{IsOn}
use Rattle.plain_stretches.specs.Stretches.{Sends, Performs, Fills}
use Rattle.plain_turns.specs.Asking.{number_here, node_here, place_here}
use Rattle.plain_turns.proofs.Pointed.{node_point}

-- what a point says, by its descriptor
pub record Points (h : Host) (pc b n : ℕ) : Type 0 where
  pub body : (point_at h pc).body ≡ b
  pub number : (point_at h pc).node ≡ n

points_by : (h : Host) (pc b n : ℕ) (d : Descriptor) → descriptor_at h pc ≡ d → d.body ≡ b → d.node ≡ n → Points h pc b n
unfolding descriptor_at
points_by h pc b n d e body node = record { body = ap (λ (x : Descriptor). x.body) e ∙ body; number = ap (λ (x : Descriptor). x.node) e ∙ node }

-- behind a call
pub call_points : (h : Host) (pc b n : ℕ) (node : Node) → IsBehindCall h pc b n node → Points h pc b n
call_points h pc b n node c = points_by h pc b n _ (call_descriptor h pc b n node c) refl refl

pub node_points : (h : Host) (b n : ℕ) → Points h (h.machine.pc + 4) b n → node_here h ≡ slice_get (body_in h.bodies b).nodes n
node_points h b n p = ap (λ k. slice_get (body_in h.bodies k).nodes (number_here h)) p.body ∙ ap (λ k. slice_get (body_in h.bodies b).nodes k) p.number

pub place_points : (h : Host) (b n : ℕ) → Points h (h.machine.pc + 4) b n → place_here h ≡ place_at (body_in h.bodies b) n
place_points h b n p = ap (λ k. place_at (body_in h.bodies k) (number_here h)) p.body ∙ ap (λ k. place_at (body_in h.bodies b) k) p.number

-- the same of a machine at another address
points_on : (h : Host) (m : MachineState) (pc other b n : ℕ) → pc ≡ other → Points h pc b n → Points (with_machine h m) other b n
points_on h m pc other b n e p = record { body = ap (λ k. (point_at h k).body) (sym e) ∙ p.body; number = ap (λ k. (point_at h k).node) (sym e) ∙ p.number }

-- a word of a block literal
literal_points : (h : Host) (pc b n j : ℕ) (body : BodyId) → (r : RunsAt h b n (nodes.BlockLit body)) → pc ≡ h.machine.pc + 4 * j → j < 6 + length (code_at h b n (nodes.BlockLit body)) → Points h pc b n
literal_points h pc b n j body r at low =
    let node = nodes.BlockLit body in
    let x = body_in h.bodies b in
    let words = length (poll ++ code_at h b n node) in
    let long : words ≡ 6 + length (code_at h b n node) = omega (arith, length-append poll (code_at h b n node)) in
    let point : Point = record { body = b; node = n; pending = depth_from 0 x.nodes n } in
    let g = node_point h b r.poll.at n j node point r.poll.unit r.node_is (omega (arith, low, long)) (times_is words j point (omega (arith, low, long))) in
    let same : point_at h pc ≡ point = ap (point_at h) (omega (arith, at, r.poll.address)) ∙ g in
    record { body = ap (λ (q : Point). q.body) same; number = ap (λ (q : Point). q.node) same }

module _ (z : Sense) (h : Host) (s : State) (on : IsOn z h s) where
  -- the place of the node of the activation that runs
  pub source_place : (a : Activation) (older : List Activation) → slice_get s.activities s.current ≡ Some (Running (a ∷ older)) → place_of s a ≡ place_at (body_in h.bodies on.body) on.number
  source_place a older running = places_agree z h s on.body on.number on.node on.sound.stands on.at a older running

  -- at the trap of a message
  pub sent_points : (to : MachineState) → Sends z h s on to → Points (with_machine h to) (to.pc + 4) on.body on.number
  sent_points to q =
      let here : q.sent.at + 4 ≡ to.pc + 4 = ap (λ p. p + 4) (sym (ap (λ (m : MachineState). m.pc) q.there ∙ q.sent.asks.moved.stands.here)) in
      points_on h to (q.sent.at + 4) (to.pc + 4) on.body on.number here (call_points h (q.sent.at + 4) on.body on.number on.node q.sent.behind)

  pub sent_place : (to : MachineState) (a : Activation) (older : List Activation) → slice_get s.activities s.current ≡ Some (Running (a ∷ older)) → Sends z h s on to → place_of s a ≡ place_here (with_machine h to)
  sent_place to a older running q = source_place a older running ∙ sym (place_points (with_machine h to) on.body on.number (sent_points to q))

  -- at that of a primitive
  pub performed_points : (to : MachineState) → Performs z h s on to → Points (with_machine h to) (to.pc + 4) on.body on.number
  performed_points to q =
      let p = q.performed in
      let here : p.at + 4 ≡ to.pc + 4 = ap (λ k. k + 4) (sym (ap (λ (m : MachineState). m.pc) q.there ∙ p.asks.moved.stands.here)) in
      points_on h to (p.at + 4) (to.pc + 4) on.body on.number here (call_points h (p.at + 4) on.body on.number (nodes.Prim q.name q.args q.implied q.handler) p.behind)

  -- at that of a block that can't be paid
  pub filled_points : (to : MachineState) → Fills z h s on to → Points (with_machine h to) (to.pc + 4) on.body on.number
  filled_points to q =
      let there : to.pc ≡ q.full.at = ap (λ (m : MachineState). m.pc) q.there ∙ q.full.full.moved.stands.here in
      let here : h.machine.pc + 4 * 13 ≡ to.pc + 4 = omega (arith, there, q.full.place) in
      points_on h to (h.machine.pc + 4 * 13) (to.pc + 4) on.body on.number here (literal_points h (h.machine.pc + 4 * 13) on.body on.number 13 q.body q.at refl (omega arith))

  pub behind_place : (to : MachineState) (a : Activation) (older : List Activation) → slice_get s.activities s.current ≡ Some (Running (a ∷ older)) → Points (with_machine h to) (to.pc + 4) on.body on.number → place_of s a ≡ place_here (with_machine h to)
  behind_place to a older running p = source_place a older running ∙ sym (place_points (with_machine h to) on.body on.number p)
