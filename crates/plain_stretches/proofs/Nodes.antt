-- From a node's poll: its step, or a trap.
use Rattle.std.proofs.Common.{◌≡◌, ℕ, zero, suc, ◌+◌, ◌-◌, ◌*◌, ◌<◌, ◌≤◌, refl, subst, arith, length-append}
use Rattle.std.specs.Prelude.{Bool, true, false, not, nat_eq, if◌then◌else◌, [], ◌∷◌, ◌++◌, length, Some}
use Rattle.self_terms.specs.declared.names.Name.{Name}
use Rattle.self_terms.specs.declared.names.TheConstants.{INT_SUB}
use Rattle.self_terms.specs.declared.nodes.Node.{Node}
use Rattle.self_terms.specs.declared.nodes.Node.TheVariants as nodes
use Rattle.self_terms.specs.declared.nodes.Selector.{Selector}
use Rattle.self_terms.specs.declared.values.BodyId.{BodyId}
use Rattle.self_terms.specs.Depths.{one_if, depth_from}
use Rattle.sparc_insn.specs.declared.insn.Insn.TheVariants.{Trap}
use Rattle.sparc_machine.specs.State.{MachineState}
use Rattle.source_model.specs.Formed.{IsWellFormed}
use Rattle.source_model.specs.State.{State}
use Rattle.source_model.specs.Soundness.{body_in, Names}
use Rattle.source_model.specs.Step.{step}
use Rattle.raw_steps.specs.Stands.{Sense}
use Rattle.plain_words.specs.Going.{Goes, IsTrap}
use Rattle.plain_words.specs.Code.{poll, is_sum, handed_code, summed_code, sum_code, primitive_code, answered_code}
use Rattle.plain_words.specs.Translating.{IsShort}
use Rattle.plain_words.specs.Units.{frame_locals}
use Rattle.plain_words.proofs.Basics.{at_front}
use Rattle.plain_runs.specs.Host.{Host}
use Rattle.plain_runs.specs.Sound.{RunsAt}
use Rattle.plain_runs.specs.Course.{CanGo, code_at}
use Rattle.plain_runs.proofs.Ready.{there_at}
use Rattle.plain_steps.specs.Paying.{IsPaid, HasMaps}
use Rattle.plain_steps.specs.Steps.{DoesStep, EndsActivity, IsTrapOf, AsksPrimitive, Performs, InWords, ByService}
use Rattle.plain_steps.proofs.Summing.{primitives_perform}
use Rattle.plain_steps.proofs.Words.{self_steps, int_steps, string_steps, nil_steps, drop_steps}
use Rattle.plain_steps.proofs.Restarting.{restart_steps}
use Rattle.plain_sends.specs.Sends.{selector_of}
use Rattle.plain_sends.proofs.Sending.{nodes_send}
use Rattle.plain_prims.specs.Asking.{IsPerformed}
use Rattle.plain_prims.proofs.Asking.{performed}
use Rattle.plain_contexts.specs.Literals.{Literal, Made, Full}
use Rattle.plain_contexts.proofs.Answering.{return_answers, end_answers}
use Rattle.plain_contexts.proofs.Assigning.{stores}
use Rattle.plain_contexts.proofs.Ending.{return_ends, end_ends}
use Rattle.plain_contexts.proofs.Literals.{literals_make}
use Rattle.plain_contexts.proofs.Reading.{reads}
use Rattle.plain_unwinds.proofs.Returning.{home_asks}
use Rattle.plain_stretches.specs.Standing.{IsSound, IsOn, left_of}
use Rattle.plain_stretches.specs.Stretches.{AreFit, Halts, AtGoal, AtSend, AtPrimitive, AtHome, AtFull, AtEnd}
use Rattle.plain_stretches.proofs.Named.{named_there}
use Rattle.plain_stretches.proofs.Polls.{polls_stop}
use Rattle.plain_stretches.proofs.Waiting.{polls_wait}

-- from a poll to a trap, with no step between
pub record Halted (z : Sense) (h : Host) (s : State) (on : IsOn z h s) : Type 0 where
  pub instructions : ℕ
  pub few : instructions ≤ 512
  pub to : MachineState
  pub goes : Goes instructions h.machine to
  pub trap : ℕ
  pub stands : IsTrap trap to
  pub halts : Halts z h s on trap to

-- what a node does: its step, or it asks for a service
pub data Done (z : Sense) (h : Host) (s : State) (on : IsOn z h s) : Type 0 where
  Steps : DoesStep z h s → Done z h s on
  Asks : Halted z h s on → Done z h s on

abbrev on_of : (z : Sense) (h : Host) (s : State) → IsSound z h s → (b n : ℕ) (node : Node) → RunsAt h b n node → IsOn z h s
on_of z h s x b n node r = record { sound = x; body = b; number = n; node = node; at = r }

sends : (z : Sense) (h : Host) (s : State) (x : IsSound z h s) → CanGo h → (b n : ℕ) (node : Node) (sel : Selector) → selector_of node ≡ Some sel → (r : RunsAt h b n node) → sel.args ≤ 5 → Done z h s (on_of z h s x b n node r)
sends z h s x can b n node sel is r few =
    let q = nodes_send z h s b n node sel is x.stands r can few in
    Asks (record {
      instructions = q.asks.instructions;
      few = omega (arith, q.asks.few);
      to = q.asks.to;
      goes = q.asks.goes;
      trap = 1;
      stands = q.asks.trap;
      halts = AtSend refl (record { can = can; selector = sel; is = is; sent = q; there = refl });
    })

ends : (z : Sense) (h : Host) (s : State) (on : IsOn z h s) → CanGo h → EndsActivity z h s → Done z h s on
ends z h s on can e = Asks (record { instructions = e.instructions; few = e.few; to = e.to; goes = e.goes; trap = 9; stands = e.trap; halts = AtEnd refl (record { can = can; ends = e; there = refl }) })

-- an activation answers its caller, or the activity
answers : (z : Sense) (h : Host) (s : State) (on : IsOn z h s) → CanGo h → (older : ℕ) → ((o : ℕ) → older ≡ suc o → DoesStep z h s) → (older ≡ 0 → EndsActivity z h s) → Done z h s on
answers z h s on can zero step last = ends z h s on can (last refl)
answers z h s on can (suc o) step last = Steps (step o refl)

-- Primitives.

-- a primitive's code has two words and more
some_primitive : (sum less implied : Bool) (locals k n : ℕ) → 1 ≤ length (if sum then sum_code less implied locals k n else (handed_code implied locals k n ++ (Trap 3 ∷ [])))
some_primitive true less implied locals k n = omega (arith, length-append (handed_code implied locals k n) (summed_code less))
some_primitive false less implied locals k n = omega (arith, length-append (handed_code implied locals k n) (Trap 3 ∷ []))

two_words : (h : Host) (b n : ℕ) (name : Name) (args : ℕ) (implied handler : Bool) → 2 ≤ length (code_at h b n (nodes.Prim name args implied handler))
two_words h b n name args implied handler =
    let x = body_in h.bodies b in
    let locals = frame_locals x in
    let first = depth_from 0 x.nodes n - (args + one_if (not implied) + one_if handler) in
    omega (
      arith,
      length-append (primitive_code name.0 args implied locals first (args + one_if handler)) (answered_code locals first),
      some_primitive (is_sum name.0 args) (nat_eq name.0 INT_SUB.0) implied locals first (args + one_if handler),
    )

-- the words of one that asks for its service, which is their last but one
by_service : (z : Sense) (h : Host) (s : State) (x : IsSound z h s) → CanGo h → (b n : ℕ) (name : Name) (args : ℕ) (implied handler : Bool) (r : RunsAt h b n (nodes.Prim name args implied handler))
    → (at : ℕ) → IsTrapOf h b n (nodes.Prim name args implied handler) at → AsksPrimitive h b n args implied handler at → IsPerformed z h s b n name args implied handler r
by_service z h s x can b n name args implied handler r at stands a =
    let words = code_at h b n (nodes.Prim name args implied handler) in
    let long : length (poll ++ words) ≡ 6 + length words = omega (arith, length-append poll words) in
    let some : 2 ≤ length words = two_words h b n name args implied handler in
    let last : at + 8 ≡ h.machine.pc + 4 * length (poll ++ words) = stands in
    let here : at ≡ h.machine.pc + 24 + 4 * (length words - 2) = omega (arith, last, long, some) in
    let P : ℕ → Type 0 = AsksPrimitive h b n args implied handler in
    performed name args implied handler z h s b n x.stands r can (length words - 2) (subst P here a) (omega (arith, some))

-- Its words do its step, or it asks for service 3.
primitive_done : (z : Sense) (h : Host) (s : State) (x : IsSound z h s) → CanGo h → (b n : ℕ) (name : Name) (args : ℕ) (implied handler : Bool) (r : RunsAt h b n (nodes.Prim name args implied handler))
    → Performs z h s b n name args implied handler → Done z h s (on_of z h s x b n (nodes.Prim name args implied handler) r)
primitive_done z h s x can b n name args implied handler r (InWords summed d) = Steps d
primitive_done z h s x can b n name args implied handler r (ByService failing at stands a) =
    let q = by_service z h s x can b n name args implied handler r at stands a in
    Asks (record {
      instructions = q.asks.instructions;
      few = omega (arith, q.asks.few);
      to = q.asks.to;
      goes = q.asks.goes;
      trap = 3;
      stands = q.asks.trap;
      halts = AtPrimitive refl (record { can = can; name = name; args = args; implied = implied; handler = handler; is = refl; at = r; performed = q; there = refl });
    })

-- A block literal makes its block, or the store is full.
literal_done : (z : Sense) (h : Host) (s : State) (x : IsSound z h s) → CanGo h → (b n : ℕ) (body : BodyId) (r : RunsAt h b n (nodes.BlockLit body)) → Literal z h s b n body r → Done z h s (on_of z h s x b n (nodes.BlockLit body) r)
literal_done z h s x can b n body r (Made d) = Steps d
literal_done z h s x can b n body r (Full q) = Asks (record {
  instructions = q.full.instructions;
  few = omega (arith, q.full.few);
  to = q.full.to;
  goes = q.full.goes;
  trap = 8;
  stands = q.full.trap;
  halts = AtFull refl (record { can = can; body = body; is = refl; at = r; full = q; there = refl });
})

goes_home : (z : Sense) (h : Host) (s : State) (x : IsSound z h s) → CanGo h → (b n : ℕ) (r : RunsAt h b n nodes.NonLocal) → Done z h s (on_of z h s x b n nodes.NonLocal r)
goes_home z h s x can b n r =
    let q = home_asks h b n r can in
    Asks (record {
      instructions = q.asks.instructions;
      few = omega (arith, q.asks.few);
      to = q.asks.to;
      goes = q.asks.goes;
      trap = 4;
      stands = q.asks.trap;
      halts = AtHome refl (record { can = can; is = refl; at = r; asks = q; there = refl });
    })

node_done : (start : ℕ) (z : Sense) (h : Host) (s : State) (x : IsSound z h s) → CanGo h → IsWellFormed s → IsPaid start h → HasMaps h → (b n : ℕ) (node : Node) (r : RunsAt h b n node) → Names h.bodies b node → IsShort 64 node
    → Done z h s (on_of z h s x b n node r)
node_done start z h s x can formed paid maps b n (nodes.Int i) r names short = Steps (int_steps i short z h s b n x.stands r can tt)
node_done start z h s x can formed paid maps b n (nodes.Str o) r names short = Steps (string_steps o z h s b n x.stands r can tt)
node_done start z h s x can formed paid maps b n (nodes.BlockLit k) r names short = literal_done z h s x can b n k r (literals_make z h s b n k x.stands r can start paid maps b names.0 names.1)
node_done start z h s x can formed paid maps b n nodes.SelfRef r names short = Steps (self_steps z h s b n x.stands r can tt)
node_done start z h s x can formed paid maps b n nodes.Nil r names short = Steps (nil_steps z h s b n x.stands r can tt)
node_done start z h s x can formed paid maps b n (nodes.Read up slot) r names short = Steps (reads up slot z h s b n x.stands r can formed)
node_done start z h s x can formed paid maps b n (nodes.Store up slot) r names short = Steps (stores up slot z h s b n x.stands r can formed)
node_done start z h s x can formed paid maps b n (nodes.Send sel) r names short = sends z h s x can b n (nodes.Send sel) sel refl r short
node_done start z h s x can formed paid maps b n (nodes.SelfSend sel) r names short = sends z h s x can b n (nodes.SelfSend sel) sel refl r short
node_done start z h s x can formed paid maps b n (nodes.Resend sel) r names short = sends z h s x can b n (nodes.Resend sel) sel refl r short
node_done start z h s x can formed paid maps b n (nodes.Directed parent sel) r names short = sends z h s x can b n (nodes.Directed parent sel) sel refl r short
node_done start z h s x can formed paid maps b n (nodes.Prim name args implied handler) r names short = primitive_done z h s x can b n name args implied handler r (primitives_perform name args implied handler z h s b n x.stands r can)
node_done start z h s x can formed paid maps b n nodes.Drop r names short = Steps (drop_steps z h s b n x.stands r can tt)
node_done start z h s x can formed paid maps b n nodes.Restart r names short = Steps (restart_steps z h s b n x.stands r can tt)
node_done start z h s x can formed paid maps b n nodes.Return r names short =
    answers z h s (on_of z h s x b n nodes.Return r) can r.view.older (λ o e. return_answers z h s b n o x.stands r can e) (λ e. return_ends z h s b n x.stands r can e)
node_done start z h s x can formed paid maps b n nodes.NonLocal r names short = goes_home z h s x can b n r
node_done start z h s x can formed paid maps b n nodes.End r names short =
    answers z h s (on_of z h s x b n nodes.End r) can r.view.older (λ o e. end_answers z h s b n o x.stands r can e) (λ e. end_ends z h s b n x.stands r can e)

pub goal_done : (z : Sense) (h : Host) (s : State) (on : IsOn z h s) → left_of h ≡ 0 → Halted z h s on
goal_done z h s on none =
    let m = h.machine in
    let r = on.at in
    let t = there_at h on.body on.number on.node r.poll r.node_is in
    let p = polls_stop m m.pc r.stands (record { aligned = t.1.aligned; from = t.1.from; to = omega (arith, t.1.to) }) (at_front m.memory m.pc poll (code_at h on.body on.number on.node) t.0) (omega (arith, none)) in
    record { instructions = p.instructions; few = omega (arith, p.few); to = p.to; goes = p.goes; trap = 2; stands = p.trap; halts = AtGoal refl none (polls_wait z h s p.to on p.trap p.moved) }

pub poll_done : (start : ℕ) (z : Sense) (h : Host) (s : State) (on : IsOn z h s) → IsWellFormed s → AreFit h → HasMaps h → IsPaid start h → 0 < left_of h → Done z h s on
poll_done start z h s on formed fit maps paid some =
    let x = on.sound in
    let b = on.body in
    let u = on.at.poll.unit in
    let is = on.at.node_is in
    let can : CanGo h = record { hosted = x.hosted; runs = x.runs; current = x.current; left = omega (arith, some) } in
    node_done start z h s x can formed paid maps b on.number on.node on.at (named_there h.bodies b on.number on.node (fit b (u.given, u.known)) is) ((x.runs b).translates.short on.number on.node is)
