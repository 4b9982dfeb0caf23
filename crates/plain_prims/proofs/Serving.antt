-- A service that goes on behind its trap, and has changed the heap.
use Rattle.std.proofs.Common.{◌≡◌, ℕ, ◌+◌, ◌-◌, ◌*◌, ◌≤◌, refl, ◌∙◌, ap, sym, arith}
use Rattle.std.specs.Prelude.{List, ◌∷◌, slice_set, drop}
use Rattle.object_maps.specs.declared.layout.Heap.{Heap}
use Rattle.self_terms.specs.declared.nodes.Node.{Node}
use Rattle.self_terms.specs.Depths.{taken, depth, depth_from}
use Rattle.sparc_store.specs.Words.{Words, word_at}
use Rattle.sparc_store.specs.Windows.{kept}
use Rattle.sparc_machine.specs.State.{MachineState}
use Rattle.frame_walk.specs.Places.{Frame, shown, plain_descriptor}
use Rattle.frame_walk.specs.Walk.{SameBetween}
use Rattle.frame_walk.proofs.Resting.{shown_same}
use Rattle.frame_walk.specs.Raw.{Going, moved_on}
use Rattle.source_model.specs.Soundness.{body_in}
use Rattle.raw_steps.specs.Sends.{raw_after}
use Rattle.plain_words.specs.Going.{Goes, StandsAt}
use Rattle.plain_words.proofs.Shown.{window_same}
use Rattle.plain_words.specs.Showing.{viewed}
use Rattle.plain_words.specs.Units.{frame_locals, frame_words}
use Rattle.plain_runs.specs.Host.{Host, seen, threads_from, raw_of, heap_words}
use Rattle.plain_runs.specs.Units.{IsBehindCall}
use Rattle.plain_runs.specs.Sound.{RunsAt, IsHosted, callers_of}
use Rattle.plain_runs.specs.Course.{with_machine, CanGo}
use Rattle.plain_runs.proofs.Keeping.{threads_set, unit_kept}
use Rattle.plain_runs.proofs.Working.{run_kept, plain_fits}
use Rattle.plain_sends.proofs.Behind.{pended_behind, depth_is}
use Rattle.plain_sends.proofs.Serving.{set_set, older_ones}
use Rattle.plain_sends.proofs.Settling.{KeptTo, stays_there}
use Rattle.plain_prims.proofs.Renumbering.{renumbered, runs_as, hosted_as, threads_as}

-- What comes of a service that leaves an answer in %o0: one instruction behind it leads to the next node's poll, and machine and host show the answer
-- pended in place of receiver and arguments, over these words of the heap, this top and next number, and this plain cost.
pub record Served (h after : Host) (b n older word : ℕ) (rest : List ℕ) (f : Frame) (mem : Words) (heap : Heap) (cost : ℕ) : Type 0 where
  pub to : MachineState
  pub goes : Goes 1 after.machine to
  pub next : Node
  pub hosted : IsHosted (with_machine after to)
  pub goal : word_at to.memory 0x30000000 ≡ word_at after.machine.memory 0x30000000
  pub left : word_at to.memory 0x30000004 ≡ word_at after.machine.memory 0x30000004
  pub top_is : to.regs 6 ≡ after.machine.regs 6
  pub cost_is : to.regs 3 ≡ after.machine.regs 3
  pub runs : RunsAt (with_machine after to) b (n + 1) next
  pub raw : raw_of (with_machine after to) ≡ raw_after (raw_of h) mem heap (Going (moved_on (word ∷ rest) f ∷ callers_of h older)) cost

-- so each service that goes on behind its trap and adds a step and the counts to the host's sums
pub behind_service : (h : Host) (b n : ℕ) (node : Node) (goal at steps sum number : ℕ) (m1 : MachineState) → (r : RunsAt h b n node) → CanGo h → KeptTo h m1 goal → StandsAt m1 (at + 4) → IsBehindCall h (at + 4) b n node
    → taken node ≤ depth_from 0 (body_in h.bodies b).nodes n → steps + m1.regs 2 ≡ h.steps + h.machine.regs 2 + 1
    → (let f = viewed h.machine b n (frame_locals (body_in h.bodies b)) (depth (body_in h.bodies b).nodes n) in
    Served h (renumbered steps sum number (with_machine h m1)) b n r.view.older (m1.regs 8) (drop (taken node) f.pending) f (heap_words m1.memory) (record { top = m1.regs 6; next = number }) (sum + m1.regs 3))
behind_service h b n node goal at steps sum number m1 r can st stands1 behind takes stepped =
    let m = h.machine in
    let x = body_in h.bodies b in
    let locals = frame_locals x in
    let word = m1.regs 8 in
    let still = stays_there h m1 b goal r.view can.hosted can.runs st in
    let hm = with_machine h m1 in
    let unit1 = unit_kept h m1 b behind.at st.code behind.unit in
    let behind1 : IsBehindCall hm (at + 4) b n node = record { at = behind.at; unit = unit1; node_is = behind.node_is; call = behind.call; address = behind.address } in
    let p = pended_behind hm b n node (at + 4) still.view still.hosted (run_kept h m1 can.runs) can.current behind1 stands1 in
    let j = depth_from 0 x.nodes n - taken node in
    let f = viewed m b n locals (depth x.nodes n) in
    let f1 = viewed m1 b n locals j in
    let t2 = p.to in
    let k1 = depth x.nodes n in
    let dd : k1 ≡ depth_from 0 x.nodes n = depth_is x.nodes n in
    let room = (can.runs b).room n in
    let sp = m.regs 14 in
    let words = frame_words x in
    let d1 = plain_descriptor b n locals j in
    let window = kept m.regs in
    let same : SameBetween sp (sp + 4 * words) m.memory m1.memory = λ q from to. st.stacks q (omega (arith, from, r.view.frame.place.1)) in
    let frame_same : f1 ≡ record f { pending = drop (taken node) f.pending } =
    ap (λ z. shown m1.memory z (m1.regs 14) d1) (window_same m1.regs m.regs st.window)
    ∙ ap (λ z. shown m1.memory window z d1) st.frame
    ∙ shown_same m.memory m1.memory window sp (4 * words) d1 (plain_fits words b n locals j (omega (arith, room, dd))) same
    ∙ ap (λ z. shown m.memory window sp (plain_descriptor b n locals (z - taken node))) (sym dd)
    ∙ older_ones m.memory window sp b n locals (taken node) k1 (omega (arith, takes, dd)) in
    let moved : p.now ≡ moved_on (word ∷ drop (taken node) f.pending) f = p.shows ∙ ap {A = Frame} (λ z. record z { next = n + 1; pending = word ∷ z.pending }) frame_same in
    let h2 = with_machine h t2 in
    let threads : threads_from h2 0 h.statuses ≡ slice_set (threads_from h 0 h.statuses) h.current (Going (moved_on (word ∷ drop (taken node) f.pending) f ∷ callers_of h r.view.older)) =
    p.view.threads
    ∙ ap (λ z. slice_set z h.current (Going (p.now ∷ callers_of hm still.view.older))) (threads_set h hm 0 h.current h.statuses r.view.sp r.view.pc r.view.known refl (omega arith) r.view.running still.waits)
    ∙ set_set (threads_from h 0 h.statuses) h.current (Going (seen hm)) (Going (p.now ∷ callers_of hm still.view.older))
    ∙ ap (λ z. slice_set (threads_from h 0 h.statuses) h.current (Going (p.now ∷ callers_of hm z))) still.deep
    ∙ ap (λ z. slice_set (threads_from h 0 h.statuses) h.current (Going (p.now ∷ z))) still.callers
    ∙ ap (λ z. slice_set (threads_from h 0 h.statuses) h.current (Going (z ∷ callers_of h r.view.older))) moved in
    record {
      to = t2;
      goes = p.goes;
      next = p.next;
      hosted = hosted_as steps sum number h2 p.view.hosted;
      goal = p.view.goal;
      left = p.view.left;
      top_is = p.top;
      cost_is = p.cost;
      runs = runs_as steps sum number h2 b (n + 1) p.next p.view.runs;
      raw = λ i. record {
        maps = h.maps;
        mem = p.heap i;
        heap = record { top = p.top i; next = number };
        threads = (threads_as steps sum number h2 0 h.statuses ∙ threads) i;
        current = h.current;
        steps = (let q : steps + t2.regs 2 ≡ h.steps + m.regs 2 + 1 = omega (arith, p.counted, stepped) in q) i;
        cost = ap (λ c. sum + c) p.cost i;
      };
    }
