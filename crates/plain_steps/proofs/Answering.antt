-- Nodes that end an activation.
use Rattle.std.proofs.Common.{◌≡◌, ◌⊎◌, ℕ, suc, ◌+◌, ◌-◌, ◌%◌, ◌<◌, ◌≤◌, refl, ◌∙◌, ap, sym, subst, arith, inl, inr}
use Rattle.std.specs.Prelude.{false, List, [], ◌∷◌, length, Some, get_or}
use Rattle.self_terms.specs.declared.nodes.Node.{Node}
use Rattle.self_terms.specs.declared.nodes.Node.TheVariants as nodes
use Rattle.self_terms.specs.declared.values.Value.{Value}
use Rattle.self_terms.specs.Depths.{depth, depth_from}
use Rattle.std.specs.List.{list_any}
use Rattle.std.specs.Prelude.{◌||◌}
use Rattle.sparc_insn.specs.declared.insn.Insn.{Insn}
use Rattle.sparc_store.specs.Words.{Words, word_at}
use Rattle.sparc_store.specs.Windows.{Frame as Window, frame_before, but_first}
use Rattle.sparc_machine.specs.State.{MachineState}
use Rattle.sparc_machine.specs.Alu.{add}
use Rattle.source_model.specs.State.{State, Activation}
use Rattle.source_model.specs.Soundness.{body_in}
use Rattle.source_model.specs.Sends.{is_block_literal as by_source}
use Rattle.source_model.specs.Step.{step}
use Rattle.heap_cells.specs.Laying.{Cells}
use Rattle.heap_cells.specs.Source.{Made, Plain as without, Ended, Live}
use Rattle.heap_cells.specs.Standing.{Places, AreValues}
use Rattle.frame_walk.specs.Places.{Frame, pending_offset}
use Rattle.frame_walk.specs.Raw.{Raw, becomes, answered_to}
use Rattle.frame_walk.specs.Walk.{AreLaid}
use Rattle.raw_steps.specs.Stands.{Sense, Stands, makes_blocks, has_context, HasLocals}
use Rattle.raw_steps.proofs.Leaving.{plain_leaves}
use Rattle.raw_steps.proofs.Answers.{answers_is}
use Rattle.plain_words.specs.Code.{return_code}
use Rattle.plain_words.specs.Moves.{IsReady, CanReturn}
use Rattle.plain_words.specs.Showing.{viewed}
use Rattle.plain_words.specs.Units.{frame_locals, frame_words, owns_context, is_block_literal as by_words}
use Rattle.plain_words.proofs.Returning.{return_does}
use Rattle.plain_runs.specs.Host.{Host, raw_of}
use Rattle.plain_runs.specs.Sound.{InFrame, IsCaller, RunsAt, callers_of, entry_frame, ending_stub}
use Rattle.plain_runs.specs.Course.{with_machine, CanGo, code_at}
use Rattle.plain_runs.proofs.Ready.{ready_at}
use Rattle.plain_runs.proofs.Pointed.{node_within}
use Rattle.plain_runs.proofs.Popping.{answer_follow}
use Rattle.plain_runs.specs.Units.{node_offset}
use Rattle.plain_steps.specs.Steps.{WordsAnswer}
use Rattle.plain_steps.proofs.Here.{at_node_of}
use Rattle.plain_steps.proofs.Words.{depth_is, room_of, stands_after, step_counted, paid_on}

first_laid : (asked : ℕ → ℕ → ℕ → Type 0) (entry end : ℕ) (memory : Words) (n sp : ℕ) (w : Window) (pc : ℕ) (held : List Window) → AreLaid asked entry end memory (suc n) sp w pc held → asked pc sp (w 14)
unfolding AreLaid
first_laid asked entry end memory n sp w pc held l = l.0

-- the frame in view can be left for its caller's
can_return : (h : Host) (b o : ℕ) → (r : InFrame h b) → CanGo h → r.older ≡ suc o → CanReturn h.machine
can_return h b o r can deep =
    let m = h.machine in
    let w : Window = frame_before m.memory (m.regs 30) m.older in
    let callers = (let P : ℕ → Type 0 = λ z. AreLaid (IsCaller h) (entry_frame h.current) ending_stub m.memory z (m.regs 30) w (m.regs 31 + 8) (but_first m.older) in subst P deep r.callers) in
    let c = first_laid (IsCaller h) (entry_frame h.current) ending_stub m.memory o (m.regs 30) w (m.regs 31 + 8) (but_first m.older) callers in
    let u = c.call.unit in
    let x = body_in h.bodies c.body in
    let within = node_within h.references x c.number c.node c.call.node_is in
    let next : node_offset h.references x (c.number + 1) ≡ node_offset h.references x (suc c.number) = ap (node_offset h.references x) (omega arith) in
    let low : m.regs 31 + 8 + 4 ≤ 0x12000000 = omega (arith, c.call.address, u.region.to, within, next) in
    let room = (can.runs c.body).room c.number in
    let same : add (m.regs 31) 8 ≡ m.regs 31 + 8 = omega (arith, low) in
    record {
      aligned = ap (λ z. z % 4) same ∙ omega (arith, c.call.address, u.region.aligned);
      within = omega (arith, same, low);
      place = λ none. (c.room.place.0, c.room.place.1, c.room.place.2, omega (arith, c.room.place.3, room));
    }

-- a body without block literals has no context
pub no_context : (z : Sense) (a : Activation) (f : Frame) (kind : Made) → has_context kind ≡ false → HasLocals z a f kind → kind ≡ without
no_context z a f without e h = refl
no_context z a f Ended e h = absurd h
no_context z a f (Live o) e h = absurd (cc)

literal_same : (node : Node) → by_source node ≡ by_words node
literal_same (nodes.BlockLit b) = refl
literal_same _ = refl

any_same : (xs : List Node) → list_any by_source xs ≡ list_any by_words xs
any_same [] = refl
any_same (x ∷ xs) = ap (λ q. q || list_any by_source xs) (literal_same x) ∙ ap (λ q. by_words x || q) (any_same xs)

pub wants_none : (h : Host) (s : State) (b y : ℕ) → h.bodies ≡ s.bodies → b ≡ y → owns_context (body_in h.bodies b) ≡ false → makes_blocks s y ≡ false
wants_none h s b y e same none =
    any_same (body_in s.bodies y).nodes ∙ ap (λ k. owns_context (body_in s.bodies k)) (sym same) ∙ ap (λ bs. owns_context (body_in bs b)) (sym e) ∙ none

youngest_pending : (cells : Cells) (p : Places) (vs : List Value) (w : ℕ) (ws : List ℕ) → AreValues cells p vs (w ∷ ws) → 0 < length vs
youngest_pending cells p [] w ws h = absurd h
youngest_pending cells p (v ∷ vs) w ws h = omega arith

pub some_pending : (cells : Cells) (p : Places) (vs : List Value) (m : MachineState) (b n locals k j : ℕ) → k ≡ suc j → AreValues cells p vs (viewed m b n locals k).pending → 0 < length vs
some_pending cells p vs m b n locals k j e h =
    (let P : ℕ → Type 0 = λ z. AreValues cells p vs (viewed m b n locals z).pending → 0 < length vs in subst P (sym e) (λ x. youngest_pending cells p vs _ _ x)) h

pub youngest_is : (m : MachineState) (b n locals k j : ℕ) → k ≡ suc j → get_or (viewed m b n locals k).pending 0 0 ≡ word_at m.memory (m.regs 14 + pending_offset locals j)
youngest_is m b n locals k j e = ap (λ z. get_or (viewed m b n locals z).pending 0 0) e

answer_steps : (node : Node) → (node ≡ nodes.End) ⊎ (node ≡ nodes.Return) → ((h : Host) (b n : ℕ) → code_at h b n node ≡ return_code (owns_context (body_in h.bodies b)) (frame_locals (body_in h.bodies b)) (depth_from 0 (body_in h.bodies b).nodes n - 1))
    → ((h : Host) (b n : ℕ) → CanGo h → RunsAt h b n node → 0 < depth (body_in h.bodies b).nodes n) → WordsAnswer node
answer_steps node ends code some z h s b n o f r can plain deep =
    let m = h.machine in
    let x = body_in h.bodies b in
    let locals = frame_locals x in
    let k = depth_from 0 x.nodes n in
    let j = k - 1 in
    let at = at_node_of z h s b n node f r in
    let more = some h b n can r in
    let one : depth x.nodes n ≡ suc j = omega (arith, depth_is x.nodes n, more) in
    let ready = (let P : List Insn → Type 0 = λ c. IsReady m m.pc (frame_words x) c in subst P (code h b n ∙ ap (λ y. return_code y locals j) plain) (ready_at h b n node r can.left)) in
    let e = return_does m m.pc (frame_words x) false locals j ready (omega (arith, room_of h b n can)) tt (can_return h b o r.view can deep) in
    let a = answer_follow h b o (word_at m.memory (m.regs 14 + pending_offset locals j)) r.view can deep e in
    let v = viewed m b n locals (depth x.nodes n) in
    let kind_is : at.first.kind ≡ without = no_context z at.young v at.first.kind (sym at.first.wanted ∙ wants_none h s b at.young.body f.bodies at.first.body plain) at.first.locals in
    let none : v.context ≡ 0 = f.stands.heap.means.context at.young.number v.context without at.first.context (at.first.made ∙ ap Some kind_is) in
    let raw = plain_leaves (raw_of h) s z f.stands at.young at.older v (callers_of h r.view.older) node at.at none (some_pending z.cells z.places at.young.pending m b n locals (depth x.nodes n) j one at.first.pending) (answers_is s at.young at.older node ends) in
    let now : answered_to (callers_of h (suc o)) (word_at m.memory (m.regs 14 + pending_offset locals j)) ≡ answered_to (callers_of h r.view.older) (get_or v.pending 0 0) =
    ap (λ y. answered_to (callers_of h y) (word_at m.memory (m.regs 14 + pending_offset locals j))) (sym deep) ∙ ap (answered_to (callers_of h r.view.older)) (sym (youngest_is m b n locals (depth x.nodes n) j one)) in
    let thread = answered_to (callers_of h r.view.older) (get_or v.pending 0 0) in
    record {
      instructions = a.instructions;
      few = omega (arith, a.few);
      to = a.to;
      goes = a.goes;
      hosted = a.on.hosted;
      goal = a.on.goal;
      left = a.on.left;
      paid = paid_on h a.to (answered_to (callers_of h (suc o)) (word_at m.memory (m.regs 14 + pending_offset locals j))) a.on.raw;
      body = a.body;
      number = a.number;
      next = a.next;
      runs = a.runs;
      sense = raw.to;
      stands = stands_after z h (with_machine h a.to) s (becomes (raw_of h) thread) f (a.on.raw ∙ ap (becomes (raw_of h)) now) refl refl refl raw;
      counted = step_counted z h s thread f raw;
      silent = raw.same;
    }

pub return_steps : WordsAnswer nodes.Return
return_steps = answer_steps nodes.Return (inr refl) (λ h b n. refl) (λ h b n can r. (can.runs b).takes n nodes.Return r.node_is)

pub end_steps : WordsAnswer nodes.End
end_steps = answer_steps nodes.End (inl refl) (λ h b n. refl) (λ h b n can r. (can.runs b).takes n nodes.End r.node_is)
