-- The receiver of a message is in %o0 at the trap.
use Rattle.std.proofs.Common.{◌≡◌, ℕ, zero, suc, ◌+◌, ◌-◌, ◌<◌, ◌≤◌, refl, ◌∙◌, ap, sym, subst, arith, length-append}
use Rattle.std.specs.Prelude.{Bool, List, ◌∷◌, ◌++◌, map, length, get_or, Option, Some, slice_get}
use Rattle.std.proofs.lemmas.Option.{same_Some, none-some}
use Rattle.self_terms.specs.declared.nodes.Node.{Node}
use Rattle.self_terms.specs.declared.nodes.Node.TheVariants as nodes
use Rattle.self_terms.specs.declared.nodes.Selector.{Selector}
use Rattle.self_terms.specs.Depths.{taken, depth, depth_from}
use Rattle.sparc_insn.specs.declared.insn.Insn.{Insn}
use Rattle.sparc_store.specs.Words.{Words, word_at}
use Rattle.sparc_store.specs.Windows.{kept}
use Rattle.sparc_machine.specs.State.{MachineState}
use Rattle.sparc_machine.specs.Running.{fetch, trap_of}
use Rattle.sparc_machine.specs.Table.{effect}
use Rattle.source_model.specs.State.{Activation, Activity, Running, State}
use Rattle.source_model.specs.Soundness.{body_in}
use Rattle.source_model.specs.Step.{value_at}
use Rattle.heap_cells.specs.Standing.{IsValue}
use Rattle.frame_walk.specs.Places.{word_in_place, pending_places, pending_offset, holder_offset}
use Rattle.raw_steps.specs.Stands.{Sense}
use Rattle.raw_steps.proofs.Sending.{send_is}
use Rattle.plain_words.specs.Going.{Goes, Stepped, IsTrap}
use Rattle.plain_words.specs.Code.{poll, send_code, implied_code, answered_code}
use Rattle.plain_words.specs.Moves.{IsReady, Asks}
use Rattle.plain_words.specs.Showing.{viewed}
use Rattle.plain_words.specs.Units.{frame_locals, frame_words, node_code}
use Rattle.plain_words.specs.declared.references.References.{References}
use Rattle.plain_words.proofs.Basics.{at_front}
use Rattle.plain_words.proofs.Sending.{send_asks, implied_asks}
use Rattle.plain_runs.specs.Host.{Host, raw_of}
use Rattle.plain_runs.specs.Sound.{RunsAt, callers_of}
use Rattle.plain_runs.specs.Course.{CanGo, code_at}
use Rattle.plain_runs.proofs.Ready.{ready_at}
use Rattle.plain_steps.specs.Steps.{StandsFor}
use Rattle.plain_steps.proofs.Here.{at_node_of}
use Rattle.plain_steps.proofs.Reading.{values_long}
use Rattle.plain_sends.specs.Sends.{IsSent}
use Rattle.plain_sends.proofs.Behind.{depth_is}
use Rattle.plain_lookups.specs.Telling.{holder_here, HoldersStand}

no_trap : (t : ℕ) (m next : MachineState) → Stepped m next → trap_of (fetch m) ≡ Some t → ⊥
no_trap t m next st is = none-some t (sym (ap trap_of st.fetched ∙ st.goes) ∙ is)

same_next : (m x y : MachineState) → Stepped m x → Stepped m y → x ≡ y
same_next m x y a b = a.is ∙ ap (λ i. effect i m) (same_Some a.insn b.insn (sym a.fetched ∙ b.fetched)) ∙ sym b.is

-- a machine comes to one first trap
pub one_trap : (n k t u : ℕ) (m a b : MachineState) → Goes n m a → IsTrap t a → Goes k m b → IsTrap u b → a ≡ b
unfolding Goes
one_trap zero zero t u m a b ga ta gb tb = ga ∙ sym gb
one_trap zero (suc k) t u m a b ga ta gb tb = absurd (no_trap t m gb.0 gb.1 (ap (λ x. trap_of (fetch x)) (sym ga) ∙ ta.trap))
one_trap (suc n) zero t u m a b ga ta gb tb = absurd (no_trap u m ga.0 ga.1 (ap (λ x. trap_of (fetch x)) (sym gb) ∙ tb.trap))
one_trap (suc n) (suc k) t u m a b ga ta gb tb =
    one_trap n k t u ga.0 a b ga.2 ta (subst (λ x. Goes k x b) (same_next m gb.0 ga.0 gb.1 ga.1) gb.2) tb

-- words of the node ask for the service in one way
asked_same : (m : MachineState) (service at1 at2 w1 w2 locals1 locals2 k1 k2 args1 args2 : ℕ) → (a : Asks m service at1 w1 locals1 k1 args1) (b : Asks m service at2 w2 locals2 k2 args2) → b.to.regs 8 ≡ w1
asked_same m service at1 at2 w1 w2 locals1 locals2 k1 k2 args1 args2 a b =
    ap (λ (x : MachineState). x.regs 8) (one_trap b.instructions a.instructions service service m b.to a.to b.goes b.trap a.goes a.trap) ∙ a.receiver_is

pending_long : (memory : Words) (window : ℕ → ℕ) (sp locals k : ℕ) → length (map (word_in_place memory window sp) (pending_places locals k)) ≡ k
pending_long memory window sp locals zero = refl
pending_long memory window sp locals (suc k) = ap suc (pending_long memory window sp locals k)

-- the pending word under so many younger ones
under : (memory : Words) (window : ℕ → ℕ) (sp locals n d : ℕ) → n < d → get_or (map (word_in_place memory window sp) (pending_places locals d)) n 0 ≡ word_at memory (sp + pending_offset locals (d - (n + 1)))
under memory window sp locals n zero h = absurd (omega (arith, h))
under memory window sp locals zero (suc d) h = ap (λ j. word_at memory (sp + pending_offset locals j)) (omega arith)
under memory window sp locals (suc n) (suc d) h = under memory window sp locals n d (omega (arith, h)) ∙ ap (λ j. word_at memory (sp + pending_offset locals j)) (omega arith)

-- the words up to the call
front_ready : (m : MachineState) (p words : ℕ) (front rest : List Insn) → IsReady m p words (front ++ rest) → IsReady m p words front
front_ready m p words front rest r = record {
  stands = r.stands;
  code_region = record { aligned = r.code_region.aligned; from = r.code_region.from; to = omega (arith, r.code_region.to, length-append poll front, length-append poll (front ++ rest), length-append front rest) };
  code_there = at_front m.memory p (poll ++ front) rest r.code_there;
  frame = r.frame;
  left = r.left;
}

-- the youngest activation is one
same_young : (x : Option Activity) (a b : Activation) (older more : List Activation) → x ≡ Some (Running (a ∷ older)) → x ≡ Some (Running (b ∷ more)) → a ≡ b
same_young x a b older more e f = let g : Some (Running (a ∷ older)) ≡ Some (Running (b ∷ more)) = sym e ∙ f in cc

-- that of a stated receiver
pub stated_receiver : (sel : Selector) (z : Sense) (h : Host) (s : State) (b n : ℕ) → StandsFor z h s → (r : RunsAt h b n (nodes.Send sel)) → CanGo h → sel.args ≤ 5 → (q : IsSent z h s b n (nodes.Send sel) sel r)
    → IsValue z.cells z.places (value_at q.sender.pending sel.args) (q.asks.to.regs 8)
stated_receiver sel z h s b n f r can few q =
    let m = h.machine in
    let x = body_in h.bodies b in
    let locals = frame_locals x in
    let deep = depth_from 0 x.nodes n in
    let k = deep - (sel.args + 1) in
    let node = nodes.Send sel in
    let at = at_node_of z h s b n node f r in
    let v = viewed m b n locals (depth x.nodes n) in
    let callers = callers_of h r.view.older in
    let room = (can.runs b).room n in
    let enough = (can.runs b).takes n node r.node_is in
    let dd = depth_is x.nodes n in
    let a = send_asks m m.pc (frame_words x) locals k sel.args (front_ready m m.pc (frame_words x) (send_code 1 locals k sel.args) (answered_code locals k) (ready_at h b n node r can.left)) few (omega (arith, room, enough, dd)) in
    let many : length at.young.pending ≡ depth x.nodes n = values_long z.cells z.places at.young.pending v.pending at.first.pending ∙ pending_long m.memory (kept m.regs) (m.regs 14) locals (depth x.nodes n) in
    let sent = send_is (raw_of h) s z f.stands at.young at.older v callers sel at.at (omega (arith, many, enough)) in
    let word : get_or v.pending sel.args 0 ≡ q.asks.to.regs 8 =
    ap (λ d. get_or (map (word_in_place m.memory (kept m.regs) (m.regs 14)) (pending_places locals d)) sel.args 0) dd
    ∙ under m.memory (kept m.regs) (m.regs 14) locals sel.args deep (omega (arith, enough, dd))
    ∙ sym (asked_same m 1 _ _ _ _ _ _ _ _ _ _ a q.asks) in
    subst (λ (y : Activation). IsValue z.cells z.places (value_at y.pending sel.args) (q.asks.to.regs 8)) (same_young (slice_get s.activities s.current) at.young q.sender at.older q.older at.at.here q.is_at.here)
    (subst (λ (w : ℕ). IsValue z.cells z.places (value_at at.young.pending sel.args) w) word sent.message.receiver)

-- that of the activation's own
pub own_receiver : (node : Node) (sel : Selector) → taken node ≡ sel.args
    → ((r : References) (owns : Bool) (locals at k : ℕ) → node_code r owns locals at node k ≡ implied_code 1 locals (k - sel.args) sel.args ++ answered_code locals (k - sel.args))
    → (z : Sense) (h : Host) (s : State) (b n : ℕ) → StandsFor z h s → (r : RunsAt h b n node) → CanGo h → sel.args ≤ 5 → (q : IsSent z h s b n node sel r) → IsValue z.cells z.places q.sender.receiver (q.asks.to.regs 8)
own_receiver node sel takes code z h s b n f r can few q =
    let m = h.machine in
    let x = body_in h.bodies b in
    let locals = frame_locals x in
    let deep = depth_from 0 x.nodes n in
    let k = deep - sel.args in
    let at = at_node_of z h s b n node f r in
    let code_is : code_at h b n node ≡ implied_code 1 locals k sel.args ++ answered_code locals k = code h.references _ locals _ deep in
    let ready = (let P : List Insn → Type 0 = IsReady m m.pc (frame_words x) in subst P code_is (ready_at h b n node r can.left)) in
    let room = (can.runs b).room n in
    let enough = (can.runs b).takes n node r.node_is in
    let dd = depth_is x.nodes n in
    let a = implied_asks m m.pc (frame_words x) locals k sel.args (front_ready m m.pc (frame_words x) (implied_code 1 locals k sel.args) (answered_code locals k) ready) few (omega (arith, room, enough, takes, dd)) in
    subst (λ (y : Activation). IsValue z.cells z.places y.receiver (q.asks.to.regs 8)) (same_young (slice_get s.activities s.current) at.young q.sender at.older q.older at.at.here q.is_at.here)
    (subst (λ (w : ℕ). IsValue z.cells z.places at.young.receiver w) (sym (asked_same m 1 _ _ _ _ _ _ _ _ _ _ a q.asks)) at.first.receiver)

-- the method holder
pub holders_stand : HoldersStand
holders_stand z h s b n node f r a older is =
    let at = at_node_of z h s b n node f r in
    let here : slice_get z.places.objects a.holder ≡ Some (holder_here h) =
    subst (λ (y : Activation). slice_get z.places.objects y.holder ≡ Some (holder_here h)) (same_young (slice_get s.activities s.current) at.young a at.older older at.at.here is) at.first.holder in (
      here,
      λ to p steps mv. here ∙ ap (λ sp. Some (word_at h.machine.memory (sp + holder_offset))) (sym (mv.kept 14 refl)) ∙ ap (λ ws. Some (word_at ws (to.regs 14 + holder_offset))) (sym mv.memory_is),
    )
