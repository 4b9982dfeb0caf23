-- The machine is in the caller's frame, behind its call.
use Rattle.std.proofs.Common.{◌≡◌, ℕ, suc, ◌+◌, ◌-◌, ◌*◌, ◌%◌, ◌<◌, ◌≤◌, refl, ◌∙◌, ap, sym, subst, arith}
use Rattle.std.specs.Prelude.{Bool, true, false, if◌then◌else◌, nat_lt, List, [], ◌∷◌, length, slice_set, All}
use Rattle.std.proofs.lemmas.Grind.{common_steps}
use Rattle.std.proofs.lemmas.List.Elements.{All-head}
use Rattle.self_terms.specs.declared.nodes.Node.{Node}
use Rattle.self_terms.specs.Depths.{taken, depth_from}
use Rattle.sparc_store.specs.Words.{Words, word_at, HasFrame}
use Rattle.sparc_store.specs.Windows.{Frame as Window, kept, saved_at, frame_before, but_first}
use Rattle.sparc_machine.specs.State.{MachineState}
use Rattle.sparc_machine.specs.Alu.{add}
use Rattle.source_model.specs.Soundness.{body_in}
use Rattle.frame_walk.specs.Places.{Descriptor, Frame, shown, plain_descriptor}
use Rattle.frame_walk.specs.Raw.{Going, becomes, moved_on, answered_to}
use Rattle.frame_walk.specs.Walk.{activations, AreLaid}
use Rattle.frame_walk.proofs.Resting.{laid_as}
use Rattle.plain_words.specs.Going.{Goes, StandsAt}
use Rattle.plain_words.specs.Moves.{Ends, Returned, CanReturn}
use Rattle.plain_words.specs.Showing.{viewed}
use Rattle.plain_words.specs.Units.{frame_locals, frame_words}
use Rattle.plain_words.proofs.Basics.{goes_then}
use Rattle.plain_runs.specs.Host.{Host, seen, threads_from, raw_of, descriptor_at, heap_words}
use Rattle.plain_runs.specs.Units.{node_offset, IsBehindCall}
use Rattle.plain_runs.specs.Sound.{IsWindow, IsCaller, InFrame, RunsAt, IsHosted, callers_of, entry_frame, ending_stub}
use Rattle.plain_runs.specs.Course.{with_machine, AllRun, CanGo}
use Rattle.plain_runs.proofs.Pointed.{call_descriptor, node_within}
use Rattle.plain_runs.proofs.Keeping.{unit_kept, caller_kept, threads_set, OthersWait}
use Rattle.plain_runs.proofs.Popping.{hosted_same, rest_windows}
use Rattle.plain_runs.proofs.Working.{run_kept, same_descriptors}
use Rattle.plain_sends.proofs.Behind.{pended_behind, depth_is}
use Rattle.plain_sends.proofs.Serving.{set_set}
use Rattle.plain_sends.proofs.Settling.{KeptTo, stays_there}

first_laid : (asked : ℕ → ℕ → ℕ → Type 0) (entry end : ℕ) (memory : Words) (n sp : ℕ) (w : Window) (pc : ℕ) (held : List Window) → AreLaid asked entry end memory (suc n) sp w pc held
    → asked pc sp (w 14) × AreLaid asked entry end memory n (w 14) (frame_before memory (w 14) held) (w 15 + 8) (but_first held)
unfolding AreLaid
first_laid asked entry end memory n sp w pc held l = l

first_seen : (d : ℕ → Descriptor) (memory : Words) (n sp : ℕ) (w : Window) (pc : ℕ) (held : List Window)
    → activations d memory (suc n) sp w pc held ≡ shown memory w sp (d pc) ∷ activations d memory n (w 14) (frame_before memory (w 14) held) (w 15 + 8) (but_first held)
unfolding activations
first_seen d memory n sp w pc held = refl

-- The window of a frame that comes into view.
not_lower : (k : ℕ) → 16 ≤ k → nat_lt k 16 ≡ false
not_lower k h = grind (arith, common_steps)

is_lower : (k : ℕ) → nat_lt k 16 ≡ true → k < 16
is_lower k h = grind arith

is_higher : (k : ℕ) → nat_lt k 16 ≡ false → 16 ≤ k
is_higher k h = grind arith

saved_window : (memory : Words) (at k : ℕ) → 16 ≤ k → saved_at memory at k ≡ 0
unfolding saved_at
saved_window memory at k h = ap (λ b. if b then word_at memory (at + 4 * k) else 0) (not_lower k h)

before_window : (memory : Words) (at : ℕ) (held : List Window) → All IsWindow held → (k : ℕ) → 16 ≤ k → frame_before memory at held k ≡ 0
before_window memory at [] all k h = saved_window memory at k h
before_window memory at (f ∷ fs) all k h = All-head IsWindow f fs all k h

by_low : (regs w : ℕ → ℕ) (k : ℕ) (b : Bool) → nat_lt k 16 ≡ b → ((j : ℕ) → j < 16 → regs (16 + j) ≡ w j) → ((j : ℕ) → 16 ≤ j → w j ≡ 0) → (if b then regs (k + 16) else 0) ≡ w k
by_low regs w k true e low high = ap regs (omega arith) ∙ low k (is_lower k e)
by_low regs w k false e low high = sym (high k (is_higher k e))

window_in_view : (regs w : ℕ → ℕ) → ((j : ℕ) → j < 16 → regs (16 + j) ≡ w j) → ((j : ℕ) → 16 ≤ j → w j ≡ 0) → kept regs ≡ w
window_in_view regs w low high = λ i k. by_low regs w k (nat_lt k 16) refl low high i

shorter : (held : List Window) → length (but_first held) ≤ length held - 1
shorter [] = omega arith
shorter (f ∷ fs) = omega arith

-- a frame that waits for an answer returns to a word of the code region
low_return : (h : Host) (pc sp fp : ℕ) → (c : IsCaller h pc sp fp) → pc + 4 ≤ 0x12000000
low_return h pc sp fp c =
    let u = c.call.unit in
    let x = body_in h.bodies c.body in
    let within = node_within h.references x c.number c.node c.call.node_is in
    let next : node_offset h.references x (c.number + 1) ≡ node_offset h.references x (suc c.number) = ap (node_offset h.references x) (omega arith) in
    omega (arith, c.call.address, u.region.to, within, next)

-- the caller of the frame in view
caller_in_view : (h : Host) (b o : ℕ) → (r : InFrame h b) → r.older ≡ suc o → IsCaller h (h.machine.regs 31 + 8) (h.machine.regs 30) (frame_before h.machine.memory (h.machine.regs 30) h.machine.older 14)
caller_in_view h b o r deep =
    let m = h.machine in
    let w : Window = frame_before m.memory (m.regs 30) m.older in
    let callers = (let P : ℕ → Type 0 = λ z. AreLaid (IsCaller h) (entry_frame h.current) ending_stub m.memory z (m.regs 30) w (m.regs 31 + 8) (but_first m.older) in subst P deep r.callers) in
    (first_laid (IsCaller h) (entry_frame h.current) ending_stub m.memory o (m.regs 30) w (m.regs 31 + 8) (but_first m.older) callers).0

-- the frame in view can be left for its caller's
pub can_return : (h : Host) (b o : ℕ) → (r : InFrame h b) → CanGo h → r.older ≡ suc o → CanReturn h.machine
can_return h b o r can deep =
    let m = h.machine in
    let c = caller_in_view h b o r deep in
    let low = low_return h (m.regs 31 + 8) (m.regs 30) (frame_before m.memory (m.regs 30) m.older 14) c in
    let room = (can.runs c.body).room c.number in
    let same : add (m.regs 31) 8 ≡ m.regs 31 + 8 = omega (arith, low) in
    record {
      aligned = ap (λ z. z % 4) same ∙ omega (arith, c.call.address, c.call.unit.region.aligned);
      within = omega (arith, same, low);
      place = λ none. (c.room.place.0, c.room.place.1, c.room.place.2, omega (arith, c.room.place.3, room));
    }

-- What holds where the machine has returned.
pub record InCaller (h : Host) (to : MachineState) (o : ℕ) : Type 0 where
  pub body : ℕ
  pub number : ℕ
  pub node : Node
  pub hosted : IsHosted (with_machine h to)
  pub view : InFrame (with_machine h to) body
  pub deep : view.older ≡ o
  pub behind : IsBehindCall (with_machine h to) (h.machine.regs 31 + 8) body number node
  pub stands : StandsAt to (h.machine.regs 31 + 8)
  pub callers : callers_of h (suc o) ≡ viewed to body number (frame_locals (body_in h.bodies body)) (depth_from 0 (body_in h.bodies body).nodes number - taken node) ∷ callers_of (with_machine h to) o
  pub waits : OthersWait h (with_machine h to) 0 h.statuses

waits_same : (h : Host) (to : MachineState) → to.memory ≡ h.machine.memory → OthersWait h (with_machine h to) 0 h.statuses
waits_same h to e k sp pc n is ne =
    ap (λ d. activations d to.memory n sp (saved_at to.memory sp) pc []) (same_descriptors h to) ∙ ap (λ m. activations (descriptor_at h) m n sp (saved_at m sp) pc []) e

pub in_caller : (h : Host) (b o answer : ℕ) (t1 : MachineState) → (r : InFrame h b) → IsHosted h → AllRun h → r.older ≡ suc o → Returned h.machine t1 h.machine.memory answer → InCaller h t1 o
in_caller h b o answer t1 r hosted run deep R =
    let m = h.machine in
    let mem = m.memory in
    let w : Window = frame_before mem (m.regs 30) m.older in
    let callers = (let P : ℕ → Type 0 = λ z. AreLaid (IsCaller h) (entry_frame h.current) ending_stub mem z (m.regs 30) w (m.regs 31 + 8) (but_first m.older) in subst P deep r.callers) in
    let l = first_laid (IsCaller h) (entry_frame h.current) ending_stub mem o (m.regs 30) w (m.regs 31 + 8) (but_first m.older) callers in
    let c = l.0 in
    let b1 = c.body in
    let n1 = c.number in
    let x1 = body_in h.bodies b1 in
    let locals = frame_locals x1 in
    let j = depth_from 0 x1.nodes n1 - taken c.node in
    let h1 = with_machine h t1 in
    let windows1 = (let P : List Window → Type 0 = λ z. All IsWindow z in subst P (sym R.older) (rest_windows m.older hosted.windows)) in
    let v14 : t1.regs 30 ≡ w 14 = R.view 14 (omega arith) in
    let v15 : t1.regs 31 ≡ w 15 = R.view 15 (omega arith) in
    let pc1 = m.regs 31 + 8 in
    let low = low_return h pc1 (m.regs 30) (w 14) c in
    let here : add (m.regs 31) 8 ≡ pc1 = omega (arith, low) in
    let cframe : Frame = shown mem w (m.regs 30) (descriptor_at h pc1) in
    let rest : List Frame = activations (descriptor_at h) mem o (w 14) (frame_before mem (w 14) (but_first m.older)) (w 15 + 8) (but_first (but_first m.older)) in
    let split : callers_of h (suc o) ≡ cframe ∷ rest = first_seen (descriptor_at h) mem o (m.regs 30) w pc1 (but_first m.older) in
    let tail1 : callers_of h1 o ≡ rest =
    ap (λ f. activations f t1.memory o (t1.regs 30) (frame_before t1.memory (t1.regs 30) t1.older) (t1.regs 31 + 8) (but_first t1.older)) (same_descriptors h t1)
    ∙ ap (λ z. activations (descriptor_at h) z o (t1.regs 30) (frame_before z (t1.regs 30) t1.older) (t1.regs 31 + 8) (but_first t1.older)) R.memory_is
    ∙ ap (λ x. activations (descriptor_at h) mem o x (frame_before mem x t1.older) (t1.regs 31 + 8) (but_first t1.older)) v14
    ∙ ap (λ y. activations (descriptor_at h) mem o (w 14) (frame_before mem (w 14) t1.older) (y + 8) (but_first t1.older)) v15
    ∙ ap (λ held. activations (descriptor_at h) mem o (w 14) (frame_before mem (w 14) held) (w 15 + 8) (but_first held)) R.older in
    let view_is : kept t1.regs ≡ w = window_in_view t1.regs w (λ q h. R.view q h) (before_window mem (m.regs 30) m.older hosted.windows) in
    let told : descriptor_at h pc1 ≡ plain_descriptor b1 n1 locals j = call_descriptor h pc1 b1 n1 c.node c.call ∙ ap (λ k. plain_descriptor b1 n1 locals (k - taken c.node)) (depth_is x1.nodes n1) in
    let was : viewed t1 b1 n1 locals j ≡ cframe =
    ap (λ z. shown z (kept t1.regs) (t1.regs 14) (plain_descriptor b1 n1 locals j)) R.memory_is
    ∙ ap (λ z. shown mem z (t1.regs 14) (plain_descriptor b1 n1 locals j)) view_is
    ∙ ap (λ z. shown mem w z (plain_descriptor b1 n1 locals j)) R.frame
    ∙ ap (shown mem w (m.regs 30)) (sym told) in
    record {
      body = b1;
      number = n1;
      node = c.node;
      hosted = hosted_same h t1 R.memory_is (R.register_0 ∙ hosted.register_0) windows1 hosted;
      view = record {
        sp = r.sp;
        pc = r.pc;
        known = r.known;
        running = r.running;
        frame = record { ends = v14 ∙ c.room.ends ∙ ap (λ z. z + 4 * frame_words x1) (sym R.frame); place = (let P : ℕ → Type 0 = λ z. HasFrame z (frame_words x1) in subst P (sym R.frame) c.room.place) };
        older = o;
        count = R.activations ∙ omega (arith, r.count, deep, r.few);
        few = omega (arith, r.few, deep);
        held = (let P : List Window → Type 0 = λ x. length x ≤ suc o in subst P (sym R.older) (omega (arith, shorter m.older, r.held, deep)));
        callers =
            let tail = laid_as (IsCaller h) (IsCaller h1) (entry_frame h.current) ending_stub mem o (w 14) (frame_before mem (w 14) (but_first m.older)) (w 15 + 8) (but_first (but_first m.older)) (λ q s f y. caller_kept h t1 q s f (λ a below. ap (λ z. word_at z a) R.memory_is) y) l.1 in
            let P : Words → ℕ → ℕ → List Window → Type 0 = λ z x y held. AreLaid (IsCaller h1) (entry_frame h.current) ending_stub z o x (frame_before z x held) (y + 8) (but_first held) in
            subst (λ z. P z (t1.regs 30) (t1.regs 31) t1.older) (sym R.memory_is)
            (subst (λ x. P mem x (t1.regs 31) t1.older) (sym v14)
            (subst (λ y. P mem (w 14) y t1.older) (sym v15)
            (subst (λ held. P mem (w 14) (w 15) held) (sym R.older) tail)));
      };
      deep = refl;
      behind = record { at = c.call.at; unit = unit_kept h t1 b1 c.call.at (λ a below. ap (λ z. word_at z a) R.memory_is) c.call.unit; node_is = c.call.node_is; call = c.call.call; address = c.call.address };
      stands = record { here = R.stands.here ∙ here; next = R.stands.next ∙ ap (λ z. z + 4) here };
      callers = split ∙ ap (λ y. y ∷ rest) (sym was) ∙ ap (λ ys. viewed t1 b1 n1 locals j ∷ ys) (sym tail1);
      waits = waits_same h t1 R.memory_is;
    }

-- An activation has ended, and the heap has changed; the answer is pended in its caller's frame.
pub record AnsweredOn (h : Host) (older answer : ℕ) (mem : Words) : Type 0 where
  pub instructions : ℕ
  pub few : instructions ≤ 17
  pub to : MachineState
  pub goes : Goes instructions h.machine to
  pub hosted : IsHosted (with_machine h to)
  pub goal : word_at to.memory 0x30000000 ≡ word_at h.machine.memory 0x30000000
  pub left : word_at to.memory 0x30000004 ≡ word_at h.machine.memory 0x30000004
  pub body : ℕ
  pub number : ℕ
  pub next : Node
  pub runs : RunsAt (with_machine h to) body number next
  pub raw : raw_of (with_machine h to) ≡ record (becomes (raw_of h) (answered_to (callers_of h older) answer)) { mem = mem }

pub answered_on : (h : Host) (b o answer : ℕ) (memory : Words) → (r : InFrame h b) → CanGo h → KeptTo h (record h.machine { memory = memory }) (word_at h.machine.memory 0x30000000) → word_at memory 0x30000004 ≡ word_at h.machine.memory 0x30000004 → r.older ≡ suc o → Ends h.machine memory answer
    → AnsweredOn h r.older answer (heap_words memory)
answered_on h b o answer memory r can st left deep e =
    let m = h.machine in
    let m1 : MachineState = record m { memory = memory } in
    let h1 = with_machine h m1 in
    let t1 = e.to in
    let R = e.returned in
    let R1 : Returned m1 t1 memory answer = record {
      stands = R.stands;
      memory_is = R.memory_is;
      answer_is = R.answer_is;
      counted = R.counted;
      activations = R.activations;
      cost = R.cost;
      top = R.top;
      register_0 = R.register_0;
      frame = R.frame;
      view = R.view;
      older = R.older;
    } in
    let still = stays_there h m1 b (word_at m.memory 0x30000000) r can.hosted can.runs st in
    let c = in_caller h1 b o answer t1 still.view still.hosted (run_kept h m1 can.runs) (still.deep ∙ deep) R1 in
    let h2 = with_machine h t1 in
    let p = pended_behind h2 c.body c.number c.node (m.regs 31 + 8) c.view c.hosted (run_kept h t1 can.runs) can.current c.behind c.stands in
    let t2 = p.to in
    let v : Frame = viewed t1 c.body c.number (frame_locals (body_in h.bodies c.body)) (depth_from 0 (body_in h.bodies c.body).nodes c.number - taken c.node) in
    let waits : OthersWait h h2 0 h.statuses = λ k sp pc n is ne. c.waits k sp pc n is ne ∙ still.waits k sp pc n is ne in
    let moved : p.now ≡ moved_on (answer ∷ v.pending) v = p.shows ∙ ap (λ (y : ℕ). moved_on (y ∷ v.pending) v) R.answer_is in
    let callers : callers_of h r.older ≡ v ∷ callers_of h2 o = sym still.callers ∙ ap (callers_of h1) deep ∙ c.callers in
    let threads : threads_from (with_machine h t2) 0 h.statuses ≡ slice_set (threads_from h 0 h.statuses) h.current (answered_to (callers_of h r.older) answer) =
    p.view.threads
    ∙ ap (λ y. slice_set y h.current (Going (p.now ∷ callers_of h2 c.view.older))) (threads_set h h2 0 h.current h.statuses r.sp r.pc r.known refl (omega arith) r.running waits)
    ∙ set_set (threads_from h 0 h.statuses) h.current (Going (seen h2)) (Going (p.now ∷ callers_of h2 c.view.older))
    ∙ ap (λ y. slice_set (threads_from h 0 h.statuses) h.current (Going (p.now ∷ callers_of h2 y))) c.deep
    ∙ ap (λ y. slice_set (threads_from h 0 h.statuses) h.current (Going (y ∷ callers_of h2 o))) moved
    ∙ ap (λ y. slice_set (threads_from h 0 h.statuses) h.current (answered_to y answer)) (sym callers) in
    let counted : h.steps + t2.regs 2 ≡ h.steps + m.regs 2 + 1 = omega (arith, p.counted, R.counted, can.left, can.hosted.goal) in
    record {
      instructions = e.instructions + 1;
      few = omega (arith, e.few);
      to = t2;
      goes = goes_then e.instructions 1 m t1 t2 e.goes p.goes;
      hosted = p.view.hosted;
      goal = p.view.goal ∙ ap (λ y. word_at y 0x30000000) R.memory_is ∙ st.goal_is;
      left = p.view.left ∙ ap (λ y. word_at y 0x30000004) R.memory_is ∙ left;
      body = c.body;
      number = c.number + 1;
      next = p.next;
      runs = p.view.runs;
      raw = λ i. record {
        maps = h.maps;
        mem = (p.heap ∙ ap heap_words R.memory_is) i;
        heap = record { top = (p.top ∙ R.top) i; next = h.next };
        threads = threads i;
        current = h.current;
        steps = counted i;
        cost = ap (λ y. h.cost + y) (p.cost ∙ R.cost) i;
      };
    }
