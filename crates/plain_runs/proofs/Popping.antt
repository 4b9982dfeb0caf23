-- An activation answers its caller.
use Rattle.std.proofs.Common.{◌≡◌, ℕ, zero, suc, ◌+◌, ◌-◌, ◌*◌, ◌<◌, ◌≤◌, refl, ◌∙◌, ap, sym, subst, arith, length-append}
use Rattle.std.specs.Prelude.{Bool, true, not, false, if◌then◌else◌, nat_lt, List, [], ◌∷◌, ◌++◌, length, Some, slice_get, slice_set, All}
use Rattle.std.proofs.lemmas.Option.{slice_get_within}
use Rattle.std.proofs.lemmas.Grind.{common_steps}
use Rattle.std.proofs.lemmas.List.Elements.{All-head, All-tail}
use Rattle.self_terms.specs.declared.nodes.Node.{Node}
use Rattle.self_terms.specs.declared.nodes.Node.TheVariants as nodes
use Rattle.self_terms.specs.Depths.{one_if, taken, grown, depth, depth_from, is_inner}
use Rattle.sparc_insn.specs.declared.insn.Insn.{Insn}
use Rattle.sparc_insn.specs.declared.insn.Insn.TheVariants.{Trap}
use Rattle.sparc_store.specs.Words.{Words, word_at, with_word, HasFrame, IsWithin}
use Rattle.sparc_store.specs.Windows.{Frame as Window, kept, saved_at, frame_before, but_first}
use Rattle.sparc_store.proofs.Placed.{put_stays_within}
use Rattle.sparc_machine.specs.State.{MachineState}
use Rattle.sparc_machine.specs.Alu.{add}
use Rattle.frame_walk.specs.Places.{Descriptor, Frame, shown, plain_descriptor, pending_offset}
use Rattle.frame_walk.specs.Raw.{Going, moved_on, answered_to}
use Rattle.frame_walk.specs.Walk.{activations, AreLaid}
use Rattle.frame_walk.proofs.Resting.{laid_as}
use Rattle.source_model.specs.Soundness.{body_in}
use Rattle.plain_words.specs.Going.{At, StandsAt, IsCodeFrom}
use Rattle.plain_words.specs.Code.{poll, answered_code, send_code, implied_code, primitive_code}
use Rattle.plain_words.specs.Moves.{Ends, Moved, pended}
use Rattle.plain_words.specs.Showing.{viewed}
use Rattle.plain_words.specs.declared.references.References.{References}
use Rattle.plain_words.specs.Units.{node_code, owns_context, frame_locals, frame_words, is_call}
use Rattle.plain_words.proofs.Basics.{at_behind, goes_then}
use Rattle.plain_words.proofs.Straight.{straight, goes_straight, straight_spares}
use Rattle.plain_words.proofs.Placing.{placed}
use Rattle.plain_words.proofs.Shown.{pended_shows}
use Rattle.plain_runs.specs.Course.{with_machine, AllRun, AnswersCaller, AnswerFollows}
use Rattle.plain_runs.specs.Host.{Host, seen, threads_from, descriptor_at, heap_words}
use Rattle.plain_runs.specs.Units.{words_before, node_offset, IsPoll, IsBehindCall}
use Rattle.plain_runs.specs.Sound.{IsWindow, IsCaller, IsHeld, CanTakeUp, InFrame, IsHosted, callers_of, entry_frame, ending_stub}
use Rattle.plain_runs.proofs.Located.{some_is}
use Rattle.plain_runs.proofs.Pointed.{next_offset, call_descriptor}
use Rattle.plain_runs.proofs.Keeping.{unit_kept, stub_kept, caller_kept, held_kept, threads_set, OthersWait}
use Rattle.plain_runs.proofs.Taking.{take_up_on}
use Rattle.plain_runs.proofs.Working.{run_kept, ChangedInView, code_same, heap_stays, same_descriptors, view_on}
use Rattle.plain_runs.proofs.Ready.{there_at}

-- Memory that didn't change at all.

waits_same : (h : Host) (to : MachineState) → to.memory ≡ h.machine.memory → OthersWait h (with_machine h to) 0 h.statuses
waits_same h to e k sp pc n is ne =
    ap (λ d. activations d to.memory n sp (saved_at to.memory sp) pc []) (same_descriptors h to) ∙ ap (λ m. activations (descriptor_at h) m n sp (saved_at m sp) pc []) e

pub hosted_same : (h : Host) (to : MachineState) → to.memory ≡ h.machine.memory → to.regs 0 ≡ 0 → All IsWindow to.older → IsHosted h → IsHosted (with_machine h to)
hosted_same h to e zero_is windows x = record {
  within = (let P : Words → Type 0 = IsWithin in subst P (sym e) x.within);
  register_0 = zero_is;
  windows = windows;
  units = λ b at given is stands. unit_kept h to b at (λ a low. ap (λ m. word_at m a) e) (x.units b at given is stands);
  stub = stub_kept (Trap 9 ∷ []) h to ending_stub (λ a low. ap (λ m. word_at m a) e) (omega arith) x.stub;
  activities = x.activities;
  others = λ k sp pc n is ne.
      let q = laid_as (IsHeld h) (IsHeld (with_machine h to)) (entry_frame k) ending_stub h.machine.memory n sp (saved_at h.machine.memory sp) pc [] (λ u s f y. held_kept h to u s f (λ a low. ap (λ m. word_at m a) e) y) (x.others k sp pc n is ne) in
      (let P : Words → Type 0 = λ m. AreLaid (IsHeld (with_machine h to)) (entry_frame k) ending_stub m n sp (saved_at m sp) pc [] in subst P (sym e) q);
  parked = λ k sp pc n is ne.
      (let P : Words → Type 0 = λ m. CanTakeUp (with_machine h to) m k sp pc n in subst P (sym e) (take_up_on h to (λ a low. ap (λ m. word_at m a) e) h.machine.memory k sp pc n (x.parked k sp pc n is ne)));
  goal = omega (arith, ap (λ m. word_at m 0x30000000) e, x.goal);
}

-- What stands behind a call: the answer is pended.

abbrev call_front : References → Bool → ℕ → ℕ → Node → ℕ → List Insn
call_front r owns locals at (nodes.Send sel) k = send_code 1 locals (k - (sel.args + 1)) sel.args
call_front r owns locals at (nodes.SelfSend sel) k = implied_code 1 locals (k - sel.args) sel.args
call_front r owns locals at (nodes.Resend sel) k = implied_code 1 locals (k - sel.args) sel.args
call_front r owns locals at (nodes.Directed parent sel) k = implied_code 1 locals (k - sel.args) sel.args
call_front r owns locals at (nodes.Prim name args implied handler) k = primitive_code name.0 args implied locals (k - (args + one_if (not implied) + one_if handler)) (args + one_if handler)
call_front r owns locals at _ k = []

call_code : (r : References) (owns : Bool) (locals at : ℕ) (node : Node) (k : ℕ) → is_call node ≡ true → node_code r owns locals at node k ≡ call_front r owns locals at node k ++ answered_code locals (k - taken node)
call_code r owns locals at (nodes.Send sel) k e = refl
call_code r owns locals at (nodes.SelfSend sel) k e = refl
call_code r owns locals at (nodes.Resend sel) k e = refl
call_code r owns locals at (nodes.Directed parent sel) k e = refl
call_code r owns locals at (nodes.Prim name args implied handler) k e = refl
call_code r owns locals at _ k e = absurd (cc)

-- a call leaves one value
call_leaves : (node : Node) (k : ℕ) → is_call node ≡ true → taken node ≤ k → grown node k ≡ k - taken node + 1
call_leaves (nodes.Send sel) k e h = refl
call_leaves (nodes.SelfSend sel) k e h = refl
call_leaves (nodes.Resend sel) k e h = refl
call_leaves (nodes.Directed parent sel) k e h = refl
call_leaves (nodes.Prim name args implied handler) k e h = refl
call_leaves _ k e h = absurd (cc)

-- the word there, and that it is in the code region
behind_call : (h : Host) (pc b n : ℕ) (node : Node) → (c : IsBehindCall h pc b n node)
    → At h.machine.memory pc (answered_code (frame_locals (body_in h.bodies b)) (depth_from 0 (body_in h.bodies b).nodes n - taken node)) × IsCodeFrom pc 1
behind_call h pc b n node c =
    let x = body_in h.bodies b in
    let r = h.references in
    let owns = owns_context x in
    let locals = frame_locals x in
    let at = words_before r owns locals 0 0 x.nodes n in
    let k = depth_from 0 x.nodes n in
    let m0 : Host = record h { machine = record h.machine { pc = c.at + 4 * node_offset r x n } } in
    let p : IsPoll m0 m0.machine.pc b n = record { at = c.at; unit = record { given = c.unit.given; known = c.unit.known; entry = c.unit.entry; from = c.unit.from; region = c.unit.region; code = c.unit.code; points = c.unit.points }; inside = slice_get_within x.nodes n node c.node_is; address = refl } in
    let t = there_at m0 b n node p c.node_is in
    let front = call_front r owns locals at node k in
    let behind : At h.machine.memory (m0.machine.pc + 24) (node_code r owns locals at node k) = at_behind h.machine.memory m0.machine.pc poll (node_code r owns locals at node k) t.0 in
    let code = (let P : List Insn → Type 0 = λ z. At h.machine.memory (m0.machine.pc + 24) z in subst P (call_code r owns locals at node k c.call) behind) in
    let last = at_behind h.machine.memory (m0.machine.pc + 24) front (answered_code locals (k - taken node)) code in
    let next = next_offset r x n node c.node_is in
    let next2 : node_offset r x (n + 1) ≡ node_offset r x (suc n) = ap (node_offset r x) (omega arith) in
    let long : length (node_code r owns locals at node k) ≡ length front + 1 = ap length (call_code r owns locals at node k c.call) ∙ length-append front (answered_code locals (k - taken node)) in
    let here : m0.machine.pc + 24 + 4 * length front ≡ pc = omega (arith, c.address, next, next2, long) in (
      let P : ℕ → Type 0 = λ z. At h.machine.memory z (answered_code locals (k - taken node)) in subst P here last,
      record { aligned = omega (arith, t.1.aligned, here); from = omega (arith, t.1.from, here); to = omega (arith, t.1.to, here, long) },
    )

-- how many values are pending after a node
none_more : (nodes : List Node) (d : ℕ) → depth_from d nodes 0 ≡ d
none_more [] d = refl
none_more (x ∷ xs) d = refl

pub depth_after : (nodes : List Node) (n d : ℕ) (node : Node) → slice_get nodes n ≡ Some node → depth_from d nodes (suc n) ≡ grown node (depth_from d nodes n)
depth_after [] n d node e = absurd (cc)
depth_after (x ∷ xs) zero d node e = none_more xs (grown x d) ∙ ap (λ z. grown z d) (some_is x node e)
depth_after (x ∷ xs) (suc n) d node e = depth_after xs n (grown x d) node e

set_set : {A : Type 0} (xs : List A) (c : ℕ) (a b : A) → slice_set (slice_set xs c a) c b ≡ slice_set xs c b
set_set [] c a b = refl
set_set (x ∷ xs) zero a b = refl
set_set (x ∷ xs) (suc c) a b = ap (λ ys. x ∷ ys) (set_set xs c a b)

first_laid : (asked : ℕ → ℕ → ℕ → Type 0) (entry end : ℕ) (memory : Words) (n sp : ℕ) (w : Window) (pc : ℕ) (held : List Window) → AreLaid asked entry end memory (suc n) sp w pc held
    → asked pc sp (w 14) × AreLaid asked entry end memory n (w 14) (frame_before memory (w 14) held) (w 15 + 8) (but_first held)
unfolding AreLaid
first_laid asked entry end memory n sp w pc held l = l

first_seen : (d : ℕ → Descriptor) (memory : Words) (n sp : ℕ) (w : Window) (pc : ℕ) (held : List Window)
    → activations d memory (suc n) sp w pc held ≡ shown memory w sp (d pc) ∷ activations d memory n (w 14) (frame_before memory (w 14) held) (w 15 + 8) (but_first held)
unfolding activations
first_seen d memory n sp w pc held = refl

-- the window of a frame that comes into view
not_lower : (k : ℕ) → 16 ≤ k → nat_lt k 16 ≡ false
not_lower k h = grind (arith, common_steps)

is_lower : (k : ℕ) → nat_lt k 16 ≡ true → k < 16
is_lower k h = grind arith

is_higher : (k : ℕ) → nat_lt k 16 ≡ false → 16 ≤ k
is_higher k h = grind arith

saved_window : (memory : Words) (at k : ℕ) → 16 ≤ k → saved_at memory at k ≡ 0
unfolding saved_at
saved_window memory at k h = ap (λ b. if b then word_at memory (at + 4 * k) else 0) (not_lower k h)

before_window : (memory : Words) (at : ℕ) (held : List Window) → All IsWindow held → (k : ℕ) → 16 ≤ k → frame_before memory at held k ≡ 0
before_window memory at [] all k h = saved_window memory at k h
before_window memory at (f ∷ fs) all k h = All-head IsWindow f fs all k h

pub rest_windows : (held : List Window) → All IsWindow held → All IsWindow (but_first held)
rest_windows [] all = all
rest_windows (f ∷ fs) all = All-tail IsWindow f fs all

by_low : (regs w : ℕ → ℕ) (k : ℕ) (b : Bool) → nat_lt k 16 ≡ b → ((j : ℕ) → j < 16 → regs (16 + j) ≡ w j) → ((j : ℕ) → 16 ≤ j → w j ≡ 0) → (if b then regs (k + 16) else 0) ≡ w k
by_low regs w k true e low high = ap regs (omega arith) ∙ low k (is_lower k e)
by_low regs w k false e low high = sym (high k (is_higher k e))

window_in_view : (regs w : ℕ → ℕ) → ((j : ℕ) → j < 16 → regs (16 + j) ≡ w j) → ((j : ℕ) → 16 ≤ j → w j ≡ 0) → kept regs ≡ w
window_in_view regs w low high = λ i k. by_low regs w k (nat_lt k 16) refl low high i

-- one window less is held
shorter : (held : List Window) → length (but_first held) ≤ length held - 1
shorter [] = omega arith
shorter (f ∷ fs) = omega arith

depth_is : (nodes : List Node) (n : ℕ) → depth nodes n ≡ depth_from 0 nodes n
unfolding depth
depth_is nodes n = refl

depth_next : (nodes : List Node) (n : ℕ) (node : Node) → slice_get nodes n ≡ Some node → depth nodes (n + 1) ≡ grown node (depth_from 0 nodes n)
unfolding depth
depth_next nodes n node e = ap (depth_from 0 nodes) (omega arith) ∙ depth_after nodes n 0 node e

depth_takes : (nodes : List Node) (n : ℕ) (node : Node) → taken node ≤ depth nodes n → taken node ≤ depth_from 0 nodes n
unfolding depth
depth_takes nodes n node h = h

told_call : (h : Host) (pc b n : ℕ) (node : Node) → IsBehindCall h pc b n node → descriptor_at h pc ≡ plain_descriptor b n (frame_locals (body_in h.bodies b)) (depth_from 0 (body_in h.bodies b).nodes n - taken node)
unfolding depth
told_call h pc b n node c = call_descriptor h pc b n node c

call_inner : (node : Node) → is_call node ≡ true → is_inner node ≡ true
call_inner (nodes.Send sel) e = refl
call_inner (nodes.SelfSend sel) e = refl
call_inner (nodes.Resend sel) e = refl
call_inner (nodes.Directed parent sel) e = refl
call_inner (nodes.Prim name args implied handler) e = refl
call_inner _ e = absurd (cc)

pub answer_follows : (h : Host) (b o answer : ℕ) → (r : InFrame h b) → IsHosted h → AllRun h → h.current < 4 → h.machine.regs 2 < word_at h.machine.memory 0x30000000 → r.older ≡ suc o
    → Ends h.machine h.machine.memory answer → AnswersCaller h (suc o) answer
answer_follows h b o answer r hosted run low left deep e =
    let m = h.machine in
    let mem = m.memory in
    let t1 = e.to in
    let R = e.returned in
    let w : Window = frame_before mem (m.regs 30) m.older in
    let callers = (let P : ℕ → Type 0 = λ z. AreLaid (IsCaller h) (entry_frame h.current) ending_stub mem z (m.regs 30) w (m.regs 31 + 8) (but_first m.older) in subst P deep r.callers) in
    let l = first_laid (IsCaller h) (entry_frame h.current) ending_stub mem o (m.regs 30) w (m.regs 31 + 8) (but_first m.older) callers in
    let c = l.0 in
    let b1 = c.body in
    let n1 = c.number in
    let x1 = body_in h.bodies b1 in
    let locals = frame_locals x1 in
    let k1 = depth_from 0 x1.nodes n1 in
    let j = k1 - taken c.node in
    let h1 = with_machine h t1 in
    let windows1 = (let P : List Window → Type 0 = λ z. All IsWindow z in subst P (sym R.older) (rest_windows m.older hosted.windows)) in
    let hosted1 = hosted_same h t1 R.memory_is (R.register_0 ∙ hosted.register_0) windows1 hosted in
    let v14 : t1.regs 30 ≡ w 14 = R.view 14 (omega arith) in
    let v15 : t1.regs 31 ≡ w 15 = R.view 15 (omega arith) in
    let view1 : InFrame h1 b1 = record {
      sp = r.sp;
      pc = r.pc;
      known = r.known;
      running = r.running;
      frame = record { ends = v14 ∙ c.room.ends ∙ ap (λ z. z + 4 * frame_words x1) (sym R.frame); place = (let P : ℕ → Type 0 = λ z. HasFrame z (frame_words x1) in subst P (sym R.frame) c.room.place) };
      older = o;
      count = R.activations ∙ omega (arith, r.count, deep, r.few);
      few = omega (arith, r.few, deep);
      held = (let P : List Window → Type 0 = λ x. length x ≤ suc o in subst P (sym R.older) (omega (arith, shorter m.older, r.held, deep)));
      callers =
          let tail = laid_as (IsCaller h) (IsCaller h1) (entry_frame h.current) ending_stub mem o (w 14) (frame_before mem (w 14) (but_first m.older)) (w 15 + 8) (but_first (but_first m.older)) (λ q s f y. caller_kept h t1 q s f (λ a below. ap (λ z. word_at z a) R.memory_is) y) l.1 in
          let P : Words → ℕ → ℕ → List Window → Type 0 = λ z x y held. AreLaid (IsCaller h1) (entry_frame h.current) ending_stub z o x (frame_before z x held) (y + 8) (but_first held) in
          subst (λ z. P z (t1.regs 30) (t1.regs 31) t1.older) (sym R.memory_is)
          (subst (λ x. P mem x (t1.regs 31) t1.older) (sym v14)
          (subst (λ y. P mem (w 14) y t1.older) (sym v15)
          (subst (λ held. P mem (w 14) (w 15) held) (sym R.older) tail)));
    } in
    let pc1 = m.regs 31 + 8 in
    let code = behind_call h pc1 b1 n1 c.node c.call in
    let here : add (m.regs 31) 8 ≡ pc1 = omega (arith, code.1.to) in
    let stands1 : StandsAt t1 pc1 = record { here = R.stands.here ∙ here; next = R.stands.next ∙ ap (λ z. z + 4) here } in
    let at1 = (let P : Words → Type 0 = λ z. At z pc1 (answered_code locals j) in subst P (sym R.memory_is) code.0) in
    let room = (run b1).room n1 in
    let takes = (run b1).takes n1 c.node c.call.node_is in
    let dd : depth x1.nodes n1 ≡ k1 = depth_is x1.nodes n1 in
    let d = placed (t1.regs 14) (frame_words x1) (pending_offset locals j) view1.frame.place (omega arith) (omega (arith, room, dd)) in
    let t2 = straight (answered_code locals j) t1 in
    let g = goes_straight (answered_code locals j) t1 pc1 stands1 code.1 at1 refl ((d.has, d.outside), tt) in
    let mv : Moved t1 t2 (pc1 + 4 * 1) (pended t1 locals j answer) (t1.regs 2) = record {
      stands = g.1;
      memory_is = ap (λ z. with_word t1.memory z (t1.regs 8)) d.address ∙ ap (with_word t1.memory (t1.regs 14 + pending_offset locals j)) R.answer_is;
      counted = refl;
      kept = λ q h. straight_spares (answered_code locals j) t1 q refl refl h;
      older = refl;
    } in
    let shows = pended_shows t1 t2 (pc1 + 4 * 1) (t1.regs 2) (frame_words x1) locals j answer hosted1.within view1.frame.place (omega (arith, room, dd)) mv in
    let at = t1.regs 14 + pending_offset locals j in
    let ch : ChangedInView h1 b1 t2 = record {
      changed = shows.1;
      high = view1.frame.place.1;
      ends = view1.frame.ends;
      heap = ap heap_words mv.memory_is ∙ heap_stays t1.memory at answer (omega (arith, view1.frame.place.1));
      within = (let P : Words → Type 0 = IsWithin in subst P (sym mv.memory_is) (put_stays_within t1.memory at answer hosted1.within));
    } in
    let more = (run b1).ends n1 c.node c.call.node_is (call_inner c.node c.call.call) in
    let unit1 = unit_kept h t1 b1 c.call.at (λ a below. ap (λ z. word_at z a) R.memory_is) c.call.unit in
    let poll2 : IsPoll (with_machine h1 t2) t2.pc b1 (n1 + 1) = record {
      at = c.call.at;
      unit = unit_kept h1 t2 b1 c.call.at (code_same h1 b1 t2 ch) unit1;
      inside = slice_get_within x1.nodes (n1 + 1) more.0 more.1;
      address = g.1.here ∙ omega (arith, c.call.address);
    } in
    let stands2 : StandsAt t2 t2.pc = record { here = refl; next = g.1.next ∙ ap (λ z. z + 4) (sym g.1.here) } in
    let deeper : depth x1.nodes (n1 + 1) ≡ j + 1 = depth_next x1.nodes n1 c.node c.call.node_is ∙ call_leaves c.node k1 c.call.call (depth_takes x1.nodes n1 c.node takes) in
    let now : Frame = viewed t2 b1 (n1 + 1) locals (depth x1.nodes (n1 + 1)) in
    let v = view_on h1 b1 (n1 + 1) more.0 t2 now view1 hosted1 (run_kept h t1 run) low ch mv.kept mv.older stands2 poll2 more.1 refl in
    let cframe : Frame = shown mem w (m.regs 30) (descriptor_at h pc1) in
    let rest : List Frame = activations (descriptor_at h) mem o (w 14) (frame_before mem (w 14) (but_first m.older)) (w 15 + 8) (but_first (but_first m.older)) in
    let split : callers_of h (suc o) ≡ cframe ∷ rest = first_seen (descriptor_at h) mem o (m.regs 30) w pc1 (but_first m.older) in
    let tail1 : callers_of h1 o ≡ rest =
    ap (λ f. activations f t1.memory o (t1.regs 30) (frame_before t1.memory (t1.regs 30) t1.older) (t1.regs 31 + 8) (but_first t1.older)) (same_descriptors h t1)
    ∙ ap (λ z. activations (descriptor_at h) z o (t1.regs 30) (frame_before z (t1.regs 30) t1.older) (t1.regs 31 + 8) (but_first t1.older)) R.memory_is
    ∙ ap (λ x. activations (descriptor_at h) mem o x (frame_before mem x t1.older) (t1.regs 31 + 8) (but_first t1.older)) v14
    ∙ ap (λ y. activations (descriptor_at h) mem o (w 14) (frame_before mem (w 14) t1.older) (y + 8) (but_first t1.older)) v15
    ∙ ap (λ held. activations (descriptor_at h) mem o (w 14) (frame_before mem (w 14) held) (w 15 + 8) (but_first held)) R.older in
    let view_is : kept t1.regs ≡ w = window_in_view t1.regs w (λ q h. R.view q h) (before_window mem (m.regs 30) m.older hosted.windows) in
    let was : viewed t1 b1 n1 locals j ≡ cframe =
    ap (λ z. shown z (kept t1.regs) (t1.regs 14) (plain_descriptor b1 n1 locals j)) R.memory_is
    ∙ ap (λ z. shown mem z (t1.regs 14) (plain_descriptor b1 n1 locals j)) view_is
    ∙ ap (λ z. shown mem w z (plain_descriptor b1 n1 locals j)) R.frame
    ∙ ap (shown mem w (m.regs 30)) (sym (told_call h pc1 b1 n1 c.node c.call)) in
    let number : cframe.next ≡ n1 = ap (λ (z : Frame). z.next) (sym was) in
    let moved : now ≡ moved_on (answer ∷ cframe.pending) cframe =
    ap (viewed t2 b1 (n1 + 1) locals) deeper ∙ shows.0 b1 n1 (n1 + 1) ∙ ap (λ (z : Frame). record z { next = n1 + 1; pending = answer ∷ z.pending }) was
    ∙ ap (λ (z : ℕ). record cframe { next = z + 1; pending = answer ∷ cframe.pending }) (sym number) in
    let threads : threads_from (with_machine h t2) 0 h.statuses ≡ slice_set (threads_from h 0 h.statuses) h.current (answered_to (callers_of h (suc o)) answer) =
    v.threads
    ∙ ap (λ z. slice_set z h.current (Going (now ∷ callers_of h1 o))) (threads_set h h1 0 h.current h.statuses r.sp r.pc r.known refl (omega arith) r.running (waits_same h t1 R.memory_is))
    ∙ set_set (threads_from h 0 h.statuses) h.current (Going (seen h1)) (Going (now ∷ callers_of h1 o))
    ∙ ap (λ z. slice_set (threads_from h 0 h.statuses) h.current (Going (now ∷ z))) tail1
    ∙ ap (λ z. slice_set (threads_from h 0 h.statuses) h.current (Going (z ∷ rest))) moved
    ∙ ap (λ z. slice_set (threads_from h 0 h.statuses) h.current (answered_to z answer)) (sym split) in
    let counted : t2.regs 2 ≡ m.regs 2 + 1 = R.counted ∙ omega (arith, left, hosted.goal) in
    record {
      instructions = e.instructions + 1;
      few = omega (arith, e.few);
      to = t2;
      goes = goes_then e.instructions 1 m t1 t2 e.goes g.0;
      on = record {
        hosted = v.hosted;
        goal = v.goal ∙ ap (λ z. word_at z 0x30000000) R.memory_is;
        left = v.left ∙ ap (λ z. word_at z 0x30000004) R.memory_is;
        raw = λ i. record {
          maps = h.maps;
          mem = (ch.heap ∙ ap heap_words R.memory_is) i;
          heap = record { top = (mv.kept 6 refl ∙ R.top) i; next = h.next };
          threads = threads i;
          current = h.current;
          steps = (let q : h.steps + t2.regs 2 ≡ h.steps + m.regs 2 + 1 = omega (arith, counted) in q) i;
          cost = ap (λ x. h.cost + x) (mv.kept 3 refl ∙ R.cost) i;
        };
      };
      body = b1;
      number = n1 + 1;
      next = more.0;
      runs = v.runs;
    }

pub answer_follow : AnswerFollows
answer_follow h b o answer r c deep e = answer_follows h b o answer r c.hosted c.runs c.current c.left deep e
