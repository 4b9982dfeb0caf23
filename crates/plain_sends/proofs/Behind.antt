-- Behind a call the answer is pended.
use Rattle.std.proofs.Common.{◌≡◌, ℕ, suc, ◌+◌, ◌-◌, ◌*◌, ◌<◌, ◌≤◌, refl, ◌∙◌, ap, sym, subst, arith, length-append}
use Rattle.std.specs.Prelude.{Bool, true, not, List, [], ◌∷◌, ◌++◌, length, Some, slice_get}
use Rattle.std.proofs.lemmas.Option.{slice_get_within}
use Rattle.self_terms.specs.declared.nodes.Node.{Node}
use Rattle.self_terms.specs.declared.nodes.Node.TheVariants as nodes
use Rattle.self_terms.specs.Depths.{one_if, taken, grown, depth, depth_from, is_inner}
use Rattle.sparc_insn.specs.declared.insn.Insn.{Insn}
use Rattle.sparc_store.specs.Words.{Words, with_word, IsWithin}
use Rattle.sparc_store.proofs.Placed.{put_stays_within}
use Rattle.sparc_machine.specs.State.{MachineState}
use Rattle.frame_walk.specs.Places.{Frame, pending_offset}
use Rattle.source_model.specs.Soundness.{body_in}
use Rattle.plain_words.specs.Going.{Goes, At, StandsAt, IsCodeFrom}
use Rattle.plain_words.specs.Code.{poll, answered_code, send_code, implied_code, primitive_code}
use Rattle.plain_words.specs.Moves.{Moved, pended}
use Rattle.plain_words.specs.Showing.{viewed}
use Rattle.plain_words.specs.declared.references.References.{References}
use Rattle.plain_words.specs.Units.{node_code, owns_context, frame_locals, frame_words, is_call}
use Rattle.plain_words.proofs.Basics.{at_behind}
use Rattle.plain_words.proofs.Straight.{straight, goes_straight, straight_spares}
use Rattle.plain_words.proofs.Placing.{placed}
use Rattle.plain_words.proofs.Shown.{pended_shows}
use Rattle.plain_runs.specs.Host.{Host, heap_words}
use Rattle.plain_runs.specs.Units.{words_before, node_offset, IsPoll, IsBehindCall}
use Rattle.plain_runs.specs.Sound.{InFrame, IsHosted}
use Rattle.plain_runs.specs.Course.{with_machine, AllRun}
use Rattle.plain_runs.proofs.Pointed.{next_offset}
use Rattle.plain_runs.proofs.Keeping.{unit_kept}
use Rattle.plain_runs.proofs.Working.{ChangedInView, code_same, heap_stays, view_on, ViewOn}
use Rattle.plain_runs.proofs.Ready.{there_at}
use Rattle.plain_runs.proofs.Popping.{depth_after}

abbrev call_front : References → Bool → ℕ → ℕ → Node → ℕ → List Insn
call_front r owns locals at (nodes.Send sel) k = send_code 1 locals (k - (sel.args + 1)) sel.args
call_front r owns locals at (nodes.SelfSend sel) k = implied_code 1 locals (k - sel.args) sel.args
call_front r owns locals at (nodes.Resend sel) k = implied_code 1 locals (k - sel.args) sel.args
call_front r owns locals at (nodes.Directed parent sel) k = implied_code 1 locals (k - sel.args) sel.args
call_front r owns locals at (nodes.Prim name args implied handler) k = primitive_code name.0 args implied locals (k - (args + one_if (not implied) + one_if handler)) (args + one_if handler)
call_front r owns locals at _ k = []

call_code : (r : References) (owns : Bool) (locals at : ℕ) (node : Node) (k : ℕ) → is_call node ≡ true → node_code r owns locals at node k ≡ call_front r owns locals at node k ++ answered_code locals (k - taken node)
call_code r owns locals at (nodes.Send sel) k e = refl
call_code r owns locals at (nodes.SelfSend sel) k e = refl
call_code r owns locals at (nodes.Resend sel) k e = refl
call_code r owns locals at (nodes.Directed parent sel) k e = refl
call_code r owns locals at (nodes.Prim name args implied handler) k e = refl
call_code r owns locals at _ k e = absurd (cc)

call_leaves : (node : Node) (k : ℕ) → is_call node ≡ true → taken node ≤ k → grown node k ≡ k - taken node + 1
call_leaves (nodes.Send sel) k e h = refl
call_leaves (nodes.SelfSend sel) k e h = refl
call_leaves (nodes.Resend sel) k e h = refl
call_leaves (nodes.Directed parent sel) k e h = refl
call_leaves (nodes.Prim name args implied handler) k e h = refl
call_leaves _ k e h = absurd (cc)

call_inner : (node : Node) → is_call node ≡ true → is_inner node ≡ true
call_inner (nodes.Send sel) e = refl
call_inner (nodes.SelfSend sel) e = refl
call_inner (nodes.Resend sel) e = refl
call_inner (nodes.Directed parent sel) e = refl
call_inner (nodes.Prim name args implied handler) e = refl
call_inner _ e = absurd (cc)

pub depth_is : (nodes : List Node) (n : ℕ) → depth nodes n ≡ depth_from 0 nodes n
unfolding depth
depth_is nodes n = refl

depth_next : (nodes : List Node) (n : ℕ) (node : Node) → slice_get nodes n ≡ Some node → depth nodes (n + 1) ≡ grown node (depth_from 0 nodes n)
unfolding depth
depth_next nodes n node e = ap (depth_from 0 nodes) (omega arith) ∙ depth_after nodes n 0 node e

behind_call : (h : Host) (pc b n : ℕ) (node : Node) → (c : IsBehindCall h pc b n node)
    → At h.machine.memory pc (answered_code (frame_locals (body_in h.bodies b)) (depth_from 0 (body_in h.bodies b).nodes n - taken node)) × IsCodeFrom pc 1
behind_call h pc b n node c =
    let x = body_in h.bodies b in
    let r = h.references in
    let owns = owns_context x in
    let locals = frame_locals x in
    let at = words_before r owns locals 0 0 x.nodes n in
    let k = depth_from 0 x.nodes n in
    let m0 : Host = record h { machine = record h.machine { pc = c.at + 4 * node_offset r x n } } in
    let p : IsPoll m0 m0.machine.pc b n = record { at = c.at; unit = record { given = c.unit.given; known = c.unit.known; entry = c.unit.entry; from = c.unit.from; region = c.unit.region; code = c.unit.code; points = c.unit.points }; inside = slice_get_within x.nodes n node c.node_is; address = refl } in
    let t = there_at m0 b n node p c.node_is in
    let front = call_front r owns locals at node k in
    let behind : At h.machine.memory (m0.machine.pc + 24) (node_code r owns locals at node k) = at_behind h.machine.memory m0.machine.pc poll (node_code r owns locals at node k) t.0 in
    let code = (let P : List Insn → Type 0 = λ z. At h.machine.memory (m0.machine.pc + 24) z in subst P (call_code r owns locals at node k c.call) behind) in
    let last = at_behind h.machine.memory (m0.machine.pc + 24) front (answered_code locals (k - taken node)) code in
    let next = next_offset r x n node c.node_is in
    let next2 : node_offset r x (n + 1) ≡ node_offset r x (suc n) = ap (node_offset r x) (omega arith) in
    let long : length (node_code r owns locals at node k) ≡ length front + 1 = ap length (call_code r owns locals at node k c.call) ∙ length-append front (answered_code locals (k - taken node)) in
    let here : m0.machine.pc + 24 + 4 * length front ≡ pc = omega (arith, c.address, next, next2, long) in (
      let P : ℕ → Type 0 = λ z. At h.machine.memory z (answered_code locals (k - taken node)) in subst P here last,
      record { aligned = omega (arith, t.1.aligned, here); from = omega (arith, t.1.from, here); to = omega (arith, t.1.to, here, long) },
    )

-- The answer in %o0 is pended, and the machine is at the next node's poll.
pub record PendedBehind (h : Host) (b n j older : ℕ) : Type 0 where
  pub to : MachineState
  pub goes : Goes 1 h.machine to
  pub next : Node
  pub now : Frame
  pub view : ViewOn h to b (n + 1) next now older
  pub shows : now ≡ record (viewed h.machine b n (frame_locals (body_in h.bodies b)) j) { next = n + 1; pending = h.machine.regs 8 ∷ (viewed h.machine b n (frame_locals (body_in h.bodies b)) j).pending }
  pub heap : heap_words to.memory ≡ heap_words h.machine.memory
  pub counted : to.regs 2 ≡ h.machine.regs 2
  pub cost : to.regs 3 ≡ h.machine.regs 3
  pub top : to.regs 6 ≡ h.machine.regs 6

pub pended_behind : (h : Host) (b n : ℕ) (node : Node) (pc : ℕ) → (r : InFrame h b) → IsHosted h → AllRun h → h.current < 4 → IsBehindCall h pc b n node → StandsAt h.machine pc
    → PendedBehind h b n (depth_from 0 (body_in h.bodies b).nodes n - taken node) r.older
pended_behind h b n node pc r hosted run low c stands1 =
    let t1 = h.machine in
    let x1 = body_in h.bodies b in
    let locals = frame_locals x1 in
    let k1 = depth_from 0 x1.nodes n in
    let j = k1 - taken node in
    let code = behind_call h pc b n node c in
    let room = (run b).room n in
    let dd : depth x1.nodes n ≡ k1 = depth_is x1.nodes n in
    let takes = (run b).takes n node c.node_is in
    let d = placed (t1.regs 14) (frame_words x1) (pending_offset locals j) r.frame.place (omega arith) (omega (arith, room, dd)) in
    let t2 = straight (answered_code locals j) t1 in
    let g = goes_straight (answered_code locals j) t1 pc stands1 code.1 code.0 refl ((d.has, d.outside), tt) in
    let answer = t1.regs 8 in
    let mv : Moved t1 t2 (pc + 4 * 1) (pended t1 locals j answer) (t1.regs 2) = record {
      stands = g.1;
      memory_is = ap (λ z. with_word t1.memory z (t1.regs 8)) d.address;
      counted = refl;
      kept = λ q y. straight_spares (answered_code locals j) t1 q refl refl y;
      older = refl;
    } in
    let shows = pended_shows t1 t2 (pc + 4 * 1) (t1.regs 2) (frame_words x1) locals j answer hosted.within r.frame.place (omega (arith, room, dd)) mv in
    let at = t1.regs 14 + pending_offset locals j in
    let ch : ChangedInView h b t2 = record {
      changed = shows.1;
      high = r.frame.place.1;
      ends = r.frame.ends;
      heap = ap heap_words mv.memory_is ∙ heap_stays t1.memory at answer (omega (arith, r.frame.place.1));
      within = (let P : Words → Type 0 = IsWithin in subst P (sym mv.memory_is) (put_stays_within t1.memory at answer hosted.within));
    } in
    let more = (run b).ends n node c.node_is (call_inner node c.call) in
    let poll2 : IsPoll (with_machine h t2) t2.pc b (n + 1) = record {
      at = c.at;
      unit = unit_kept h t2 b c.at (code_same h b t2 ch) c.unit;
      inside = slice_get_within x1.nodes (n + 1) more.0 more.1;
      address = g.1.here ∙ omega (arith, c.address);
    } in
    let stands2 : StandsAt t2 t2.pc = record { here = refl; next = g.1.next ∙ ap (λ z. z + 4) (sym g.1.here) } in
    let deeper : depth x1.nodes (n + 1) ≡ j + 1 = depth_next x1.nodes n node c.node_is ∙ call_leaves node k1 c.call (omega (arith, takes, dd)) in
    let now : Frame = viewed t2 b (n + 1) locals (depth x1.nodes (n + 1)) in
    record {
      to = t2;
      goes = g.0;
      next = more.0;
      now = now;
      view = view_on h b (n + 1) more.0 t2 now r hosted run low ch mv.kept mv.older stands2 poll2 more.1 refl;
      shows = ap (viewed t2 b (n + 1) locals) deeper ∙ shows.0 b n (n + 1);
      heap = ch.heap;
      counted = refl;
      cost = mv.kept 3 refl;
      top = mv.kept 6 refl;
    }
