-- A send that data answers.
use Rattle.std.proofs.Common.{◌≡◌, ℕ, zero, suc, ◌+◌, ◌-◌, ◌*◌, ◌%◌, ◌^◌, ◌<◌, ◌≤◌, refl, ◌∙◌, ap, sym, subst, arith}
use Rattle.std.specs.Prelude.{false, nat_eq, List, [], ◌∷◌, map, slice_set, drop}
use Rattle.self_terms.specs.declared.nodes.Node.{Node}
use Rattle.self_terms.specs.Depths.{taken, depth, depth_from}
use Rattle.sparc_store.specs.Words.{Words, word_at}
use Rattle.sparc_store.specs.Windows.{kept}
use Rattle.sparc_machine.specs.State.{MachineState, with_reg}
use Rattle.frame_walk.specs.Places.{Frame, shown, plain_descriptor, word_in_place, pending_places}
use Rattle.frame_walk.specs.Walk.{SameBetween}
use Rattle.frame_walk.proofs.Resting.{shown_same}
use Rattle.frame_walk.specs.Raw.{Going, becomes, moved_on}
use Rattle.source_model.specs.Soundness.{body_in}
use Rattle.plain_words.specs.Going.{Goes, StandsAt}
use Rattle.plain_words.specs.Moves.{Asks}
use Rattle.std.proofs.lemmas.Grind.{common_steps}
use Rattle.plain_words.proofs.Basics.{other_register}
use Rattle.plain_words.proofs.Shown.{no_scratch, window_same}
use Rattle.plain_words.specs.Showing.{viewed}
use Rattle.plain_words.specs.Units.{frame_locals, frame_words}
use Rattle.plain_runs.specs.Host.{Host, seen, threads_from, raw_of, heap_words}
use Rattle.plain_runs.specs.Units.{IsBehindCall}
use Rattle.plain_runs.specs.Sound.{RunsAt, IsHosted, callers_of}
use Rattle.plain_runs.specs.Course.{with_machine, CanGo}
use Rattle.plain_runs.proofs.Keeping.{threads_set, unit_kept}
use Rattle.plain_runs.proofs.Working.{run_kept, plain_fits}
use Rattle.plain_runs.specs.Services.{cleared, with_left, data_answers}
use Rattle.plain_sends.proofs.Behind.{pended_behind, depth_is}
use Rattle.plain_sends.proofs.Settling.{Controlled, controlled, SettledTo, KeptTo, kept_to, stays_there}
use Rattle.plain_sends.proofs.Resumming.{resummed, runs_as, hosted_as, threads_as}

pub set_set : {A : Type 0} (xs : List A) (c : ℕ) (a b : A) → slice_set (slice_set xs c a) c b ≡ slice_set xs c b
set_set [] c a b = refl
set_set (x ∷ xs) zero a b = refl
set_set (x ∷ xs) (suc c) a b = ap (λ ys. x ∷ ys) (set_set xs c a b)

-- the older pending values
drop_pending : (memory : Words) (window : ℕ → ℕ) (sp locals q k : ℕ) → q ≤ k → drop q (map (word_in_place memory window sp) (pending_places locals k)) ≡ map (word_in_place memory window sp) (pending_places locals (k - q))
drop_pending memory window sp locals zero k h = ap (λ n. map (word_in_place memory window sp) (pending_places locals n)) (omega arith)
drop_pending memory window sp locals (suc q) zero h = absurd (omega (arith, h))
drop_pending memory window sp locals (suc q) (suc k) h = drop_pending memory window sp locals q k (omega (arith, h)) ∙ ap (λ n. map (word_in_place memory window sp) (pending_places locals n)) (omega arith)

pub older_ones : (memory : Words) (window : ℕ → ℕ) (sp b n locals q k : ℕ) → q ≤ k → shown memory window sp (plain_descriptor b n locals (k - q)) ≡ record (shown memory window sp (plain_descriptor b n locals k)) { pending = drop q (shown memory window sp (plain_descriptor b n locals k)).pending }
older_ones memory window sp b n locals q k h = λ i. record (shown memory window sp (plain_descriptor b n locals k)) { pending = sym (drop_pending memory window sp locals q k h) i }

-- What comes of a send whose answer is in %o0: one instruction behind the service leads to the next node's poll, and machine and host show the
-- answer pended in place of receiver and arguments, over these words of the heap.
pub record Served (h after : Host) (b n older word : ℕ) (rest : List ℕ) (f : Frame) (mem : Words) : Type 0 where
  pub to : MachineState
  pub goes : Goes 1 after.machine to
  pub next : Node
  pub hosted : IsHosted (with_machine after to)
  pub goal : word_at to.memory 0x30000000 ≡ word_at after.machine.memory 0x30000000
  pub left : word_at to.memory 0x30000004 ≡ word_at after.machine.memory 0x30000004
  pub paid : to.regs 6 + 4 * after.machine.regs 3 ≡ after.machine.regs 6 + 4 * to.regs 3
  pub runs : RunsAt (with_machine after to) b (n + 1) next
  pub raw : raw_of (with_machine after to) ≡ record (becomes (raw_of h) (Going (moved_on (word ∷ rest) f ∷ callers_of h older))) { mem = mem }

pub other : (a b : ℕ) → b < a → nat_eq a b ≡ false
other a b h = grind (arith, common_steps)

pub two_others : (regs : ℕ → ℕ) (r : ℕ) → nat_eq r 3 ≡ false → nat_eq r 2 ≡ false → cleared regs r ≡ regs r
two_others regs r e3 e2 = other_register (with_reg regs 2 0) 3 0 r e3 ∙ other_register regs 2 0 r e2

pub high_counts : (regs : ℕ → ℕ) (r : ℕ) → 16 ≤ r → cleared regs r ≡ regs r
high_counts regs r h = two_others regs r (other r 3 (omega arith)) (other r 2 (omega arith))

three_others : (regs : ℕ → ℕ) (word r : ℕ) → nat_eq r 8 ≡ false → nat_eq r 3 ≡ false → nat_eq r 2 ≡ false → with_reg (cleared regs) 8 word r ≡ regs r
three_others regs word r e8 e3 e2 = other_register (cleared regs) 8 word r e8 ∙ two_others regs r e3 e2

high_cleared : (regs : ℕ → ℕ) (word r : ℕ) → 16 ≤ r → with_reg (cleared regs) 8 word r ≡ regs r
high_cleared regs word r h = other_register (cleared regs) 8 word r (other r 8 (omega arith)) ∙ high_counts regs r h

-- so of each service that goes on behind its trap and adds a step and the counts to the host's sums
pub behind_service : (h : Host) (b n : ℕ) (node : Node) (goal at steps sum : ℕ) (m1 : MachineState) → (r : RunsAt h b n node) → CanGo h → KeptTo h m1 goal → StandsAt m1 (at + 4) → IsBehindCall h (at + 4) b n node
    → taken node ≤ depth_from 0 (body_in h.bodies b).nodes n → steps + m1.regs 2 ≡ h.steps + h.machine.regs 2 + 1 → sum + m1.regs 3 ≡ h.cost + h.machine.regs 3 → m1.regs 6 ≡ h.machine.regs 6
    → (let f = viewed h.machine b n (frame_locals (body_in h.bodies b)) (depth (body_in h.bodies b).nodes n) in
    Served h (resummed steps sum (with_machine h m1)) b n r.view.older (m1.regs 8) (drop (taken node) f.pending) f (heap_words m1.memory))
behind_service h b n node goal at steps sum m1 r can st stands1 behind takes stepped costs top =
    let m = h.machine in
    let x = body_in h.bodies b in
    let locals = frame_locals x in
    let word = m1.regs 8 in
    let still = stays_there h m1 b goal r.view can.hosted can.runs st in
    let hm = with_machine h m1 in
    let unit1 = unit_kept h m1 b behind.at st.code behind.unit in
    let behind1 : IsBehindCall hm (at + 4) b n node = record { at = behind.at; unit = unit1; node_is = behind.node_is; call = behind.call; address = behind.address } in
    let p = pended_behind hm b n node (at + 4) still.view still.hosted (run_kept h m1 can.runs) can.current behind1 stands1 in
    let j = depth_from 0 x.nodes n - taken node in
    let f = viewed m b n locals (depth x.nodes n) in
    let f1 = viewed m1 b n locals j in
    let t2 = p.to in
    let k1 = depth x.nodes n in
    let dd : k1 ≡ depth_from 0 x.nodes n = depth_is x.nodes n in
    let room = (can.runs b).room n in
    let sp = m.regs 14 in
    let words = frame_words x in
    let d1 = plain_descriptor b n locals j in
    let window = kept m.regs in
    let same : SameBetween sp (sp + 4 * words) m.memory m1.memory = λ q from to. st.stacks q (omega (arith, from, r.view.frame.place.1)) in
    let frame_same : f1 ≡ record f { pending = drop (taken node) f.pending } =
    ap (λ z. shown m1.memory z (m1.regs 14) d1) (window_same m1.regs m.regs st.window)
    ∙ ap (λ z. shown m1.memory window z d1) st.frame
    ∙ shown_same m.memory m1.memory window sp (4 * words) d1 (plain_fits words b n locals j (omega (arith, room, dd))) same
    ∙ ap (λ z. shown m.memory window sp (plain_descriptor b n locals (z - taken node))) (sym dd)
    ∙ older_ones m.memory window sp b n locals (taken node) k1 (omega (arith, takes, dd)) in
    let moved : p.now ≡ moved_on (word ∷ drop (taken node) f.pending) f = p.shows ∙ ap {A = Frame} (λ z. record z { next = n + 1; pending = word ∷ z.pending }) frame_same in
    let h2 = with_machine h t2 in
    let threads : threads_from h2 0 h.statuses ≡ slice_set (threads_from h 0 h.statuses) h.current (Going (moved_on (word ∷ drop (taken node) f.pending) f ∷ callers_of h r.view.older)) =
    p.view.threads
    ∙ ap (λ z. slice_set z h.current (Going (p.now ∷ callers_of hm still.view.older))) (threads_set h hm 0 h.current h.statuses r.view.sp r.view.pc r.view.known refl (omega arith) r.view.running still.waits)
    ∙ set_set (threads_from h 0 h.statuses) h.current (Going (seen hm)) (Going (p.now ∷ callers_of hm still.view.older))
    ∙ ap (λ z. slice_set (threads_from h 0 h.statuses) h.current (Going (p.now ∷ callers_of hm z))) still.deep
    ∙ ap (λ z. slice_set (threads_from h 0 h.statuses) h.current (Going (p.now ∷ z))) still.callers
    ∙ ap (λ z. slice_set (threads_from h 0 h.statuses) h.current (Going (z ∷ callers_of h r.view.older))) moved in
    record {
      to = t2;
      goes = p.goes;
      next = p.next;
      hosted = hosted_as steps sum h2 p.view.hosted;
      goal = p.view.goal;
      left = p.view.left;
      paid = omega (arith, p.top, p.cost);
      runs = runs_as steps sum h2 b (n + 1) p.next p.view.runs;
      raw = λ i. record {
        maps = h.maps;
        mem = p.heap i;
        heap = record { top = (p.top ∙ top) i; next = h.next };
        threads = (threads_as steps sum h2 0 h.statuses ∙ threads) i;
        current = h.current;
        steps = (let q : steps + t2.regs 2 ≡ h.steps + m.regs 2 + 1 = omega (arith, p.counted, stepped) in q) i;
        cost = (let q : sum + t2.regs 3 ≡ h.cost + m.regs 3 = omega (arith, p.cost, costs) in q) i;
      };
    }

pub served : (h : Host) (b n : ℕ) (node : Node) (word goal cost at receiver k args : ℕ) → (r : RunsAt h b n node) → CanGo h → goal ≤ 1000000000
    → (a : Asks h.machine 1 at receiver (frame_locals (body_in h.bodies b)) k args) → IsBehindCall h (at + 4) b n node → at + 8 < 2 ^ 32 → taken node ≤ depth_from 0 (body_in h.bodies b).nodes n
    → (let f = viewed h.machine b n (frame_locals (body_in h.bodies b)) (depth (body_in h.bodies b).nodes n) in
    Served h (data_answers goal cost word (with_machine h a.to)) b n r.view.older word (drop (taken node) f.pending) f (heap_words h.machine.memory))
served h b n node word goal cost at receiver k args r can few a behind low takes =
    let m = h.machine in
    let mt = a.to in
    let mv = a.moved in
    let h1 = data_answers goal cost word (with_machine h mt) in
    let m1 = h1.machine in
    let f = viewed m b n (frame_locals (body_in h.bodies b)) (depth (body_in h.bodies b).nodes n) in
    let whole1 = (let P : Words → Type 0 = λ z. Controlled h.machine.memory (with_left z goal cost) goal in subst P (sym mv.memory_is) (controlled m.memory goal cost can.hosted.within)) in
    let st : SettledTo h m1 goal = record {
      memory = whole1;
      few = few;
      zero_is = three_others mt.regs word 0 refl refl refl ∙ mv.kept 0 refl;
      count = three_others mt.regs word 4 refl refl refl ∙ mv.kept 4 refl;
      frame = three_others mt.regs word 14 refl refl refl ∙ mv.kept 14 refl;
      window = λ q big. high_cleared mt.regs word q big ∙ mv.kept q (no_scratch q big);
      older = mv.older;
    } in
    let stands1 : StandsAt m1 (at + 4) = record { here = mv.stands.next; next = ap (λ z. (z + 4) % 2 ^ 32) mv.stands.next ∙ omega (arith, low) } in
    let v = behind_service h b n node goal at h1.steps h1.cost m1 r can (kept_to h m1 goal st) stands1 behind takes (omega (arith, mv.counted)) (omega (arith, mv.kept 3 refl)) (three_others mt.regs word 6 refl refl refl ∙ mv.kept 6 refl) in
    record {
      to = v.to;
      goes = v.goes;
      next = v.next;
      hosted = v.hosted;
      goal = v.goal;
      left = v.left;
      paid = v.paid;
      runs = v.runs;
      raw = v.raw ∙ ap (λ (y : Words). record (becomes (raw_of h) (Going (moved_on (word ∷ drop (taken node) f.pending) f ∷ callers_of h r.view.older))) { mem = y }) whole1.heap;
    }
