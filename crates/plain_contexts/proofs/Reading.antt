-- Locals are read.
use Rattle.std.proofs.Common.{◌≡◌, ◌≢◌, ℕ, zero, suc, ◌+◌, ◌*◌, ◌<◌, ◌≤◌, refl, ◌∙◌, ap, sym, subst, arith}
use Rattle.std.specs.Prelude.{Bool, true, false, ◌||◌, nat_eq, List, [], ◌∷◌, map, length, get_or}
use Rattle.std.proofs.lemmas.Bool.{cond-false, ne_eqb}
use Rattle.std.proofs.lemmas.Option.{same_Some}
use Rattle.std.specs.List.{list_any}
use Rattle.self_terms.specs.declared.nodes.Node.{Node}
use Rattle.self_terms.specs.declared.nodes.Node.TheVariants as nodes
use Rattle.self_terms.specs.Depths.{depth, depth_from}
use Rattle.sparc_store.specs.Words.{Words, word_at}
use Rattle.sparc_store.specs.Windows.{kept}
use Rattle.sparc_machine.specs.State.{MachineState}
use Rattle.source_model.specs.State.{State, Activation}
use Rattle.source_model.specs.Soundness.{body_in, Owns}
use Rattle.source_model.specs.Formed.{IsWellFormed}
use Rattle.source_model.specs.Step.{step}
use Rattle.source_model.specs.Sends.{is_block_literal as by_source}
use Rattle.source_model.proofs.Soundly.{finds_read}
use Rattle.heap_cells.specs.Source.{Made, Owner, Plain as without}
use Rattle.heap_cells.specs.Standing.{AreValues}
use Rattle.frame_walk.specs.Places.{word_in_place, slots_from, local_offset}
use Rattle.frame_walk.specs.Raw.{Going, becomes, moved_on}
use Rattle.raw_steps.specs.Stands.{Sense, HasLocals, makes_blocks, Follows as RawFollows}
use Rattle.raw_steps.specs.Nodes.{own_local, kept_at, around}
use Rattle.raw_steps.specs.Sends.{here_of}
use Rattle.raw_steps.proofs.Nexts.{current_all}
use Rattle.raw_steps.proofs.Simple.{read_own_follows}
use Rattle.raw_steps.proofs.Outwards.{read_out_follows}
use Rattle.plain_words.specs.Code.{read_code}
use Rattle.plain_words.specs.Moves.{IsReady, Does, pended, IsContext, AreAround, HasLocal, local_address, around as words_around}
use Rattle.plain_words.specs.Showing.{viewed}
use Rattle.plain_words.specs.Units.{frame_locals, frame_words, owns_context, is_block_literal as by_words}
use Rattle.plain_words.proofs.Reading.{read_does}
use Rattle.plain_runs.specs.Host.{Host, raw_of}
use Rattle.plain_runs.specs.Sound.{RunsAt, callers_of}
use Rattle.plain_runs.specs.Course.{CanGo}
use Rattle.plain_runs.proofs.Ready.{ready_at}
use Rattle.plain_steps.specs.Steps.{StandsFor, DoesStep, WordsDo}
use Rattle.plain_steps.proofs.Here.{AtNode, at_node_of}
use Rattle.plain_steps.proofs.Words.{room_of, pends}
use Rattle.plain_steps.proofs.Answering.{no_context, wants_none}
use Rattle.plain_steps.proofs.Reading.{read_steps, values_long}
use Rattle.plain_contexts.proofs.Heaped.{same_word, context_in_heap}
use Rattle.plain_contexts.proofs.Around.{HasOwn, has_own, AreThere, context_there, all_there}

-- Bodies that make blocks, as words and source see them.

literal_same : (node : Node) → by_source node ≡ by_words node
literal_same (nodes.BlockLit b) = refl
literal_same _ = refl

any_same : (xs : List Node) → list_any by_source xs ≡ list_any by_words xs
any_same [] = refl
any_same (x ∷ xs) = ap (λ q. q || list_any by_source xs) (literal_same x) ∙ ap (λ q. by_words x || q) (any_same xs)

pub wants_one : (h : Host) (s : State) (b y : ℕ) → h.bodies ≡ s.bodies → b ≡ y → owns_context (body_in h.bodies b) ≡ true → makes_blocks s y ≡ true
wants_one h s b y e same owns =
    any_same (body_in s.bodies y).nodes ∙ ap (λ k. owns_context (body_in s.bodies k)) (sym same) ∙ ap (λ bs. owns_context (body_in bs b)) (sym e) ∙ owns

-- how many locals a frame keeps, where its body makes no blocks

slots_long : (memory : Words) (window : ℕ → ℕ) (sp offset n : ℕ) → length (map (word_in_place memory window sp) (slots_from offset n)) ≡ n
slots_long memory window sp offset zero = refl
slots_long memory window sp offset (suc n) = ap suc (slots_long memory window sp (offset + 4) n)

pub many_locals : (z : Sense) (h : Host) (s : State) (b n : ℕ) (node : Node) → StandsFor z h s → (r : RunsAt h b n node) → (at : AtNode z h s b n node r) → owns_context (body_in h.bodies b) ≡ false
    → length at.young.locals ≡ frame_locals (body_in h.bodies b)
many_locals z h s b n node f r at plain =
    let m = h.machine in
    let x = body_in h.bodies b in
    let v = viewed m b n (frame_locals x) (depth x.nodes n) in
    let kind_is : at.first.kind ≡ without = no_context z at.young v at.first.kind (sym at.first.wanted ∙ wants_none h s b at.young.body f.bodies at.first.body plain) at.first.locals in
    let held : AreValues z.cells z.places at.young.locals v.locals = (let P : Made → Type 0 = λ y. HasLocals z at.young v y in subst P kind_is at.first.locals) in
    values_long z.cells z.places at.young.locals v.locals held ∙ slots_long m.memory (kept m.regs) (m.regs 14) (local_offset 0) (frame_locals x)

-- The own context of the activation in view.

pub own_of : (z : Sense) (h : Host) (s : State) (b n : ℕ) (node : Node) → StandsFor z h s → (r : RunsAt h b n node) → (at : AtNode z h s b n node r) → owns_context (body_in h.bodies b) ≡ true
    → HasOwn z at.young (viewed h.machine b n (frame_locals (body_in h.bodies b)) (depth (body_in h.bodies b).nodes n))
own_of z h s b n node f r at owns =
    has_own (makes_blocks s) z h.current (length at.older) at.young (viewed h.machine b n (frame_locals (body_in h.bodies b)) (depth (body_in h.bodies b).nodes n)) at.first (wants_one h s b at.young.body f.bodies at.first.body owns)

pub own_there : (z : Sense) (h : Host) (s : State) (b n : ℕ) (node : Node) → StandsFor z h s → (r : RunsAt h b n node) → (at : AtNode z h s b n node r) → owns_context (body_in h.bodies b) ≡ true
    → (k : ℕ) → k ≤ length at.young.locals → IsContext (h.machine.regs 17) k
own_there z h s b n node f r at owns k few =
    let o = own_of z h s b n node f r at owns in
    let long = ap (λ (q : Owner). length q.locals) o.own in
    context_there (raw_of h) s z f.stands at.young.number (h.machine.regs 17) o.its at.first.context o.made k (omega (arith, few, long))

pub not_none : (c k : ℕ) → IsContext c k → c ≢ 0
not_none c k is e = absurd (omega (arith, e, is.from))

-- Those of makers.

pub out_there : (z : Sense) (h : Host) (s : State) (b n up slot : ℕ) (node : Node) → (f : StandsFor z h s) → (r : RunsAt h b n node) → (at : AtNode z h s b n node r) → Owns (here_of s at.young at.older) (suc up) slot
    → AreThere (raw_of h).mem h.machine.memory up (h.machine.regs 16) (slot + 1)
out_there z h s b n up slot node f r at found =
    let v = viewed h.machine b n (frame_locals (body_in h.bodies b)) (depth (body_in h.bodies b).nodes n) in
    let callers = callers_of h r.view.older in
    let all = current_all (raw_of h) s z f.stands at.young at.older v callers node at.at in
    let within = found.within in
    all_there (raw_of h) s z f.stands h.machine.memory (λ a there. same_word h.machine.memory a there) (at.young ∷ at.older) (v ∷ callers) all up at.young found.by (h.machine.regs 16) (slot + 1) at.first.outer found.found (omega arith)

pub has_out : (m : MachineState) (words : ℕ) (owns : Bool) (up slot : ℕ) → AreAround m.memory up (m.regs 16) (slot + 1) → HasLocal m words owns (suc up) slot
has_out m words false up slot h = h
has_out m words true up slot h = h

pub out_address : (m : MachineState) (owns : Bool) (up slot : ℕ) → local_address m owns (suc up) slot ≡ words_around m.memory up (m.regs 16) + (15 + 4 * slot)
out_address m false up slot = refl
out_address m true up slot = refl

-- Reads.

own_read : (slot : ℕ) (z : Sense) (h : Host) (s : State) (b n : ℕ) → StandsFor z h s → RunsAt h b n (nodes.Read 0 slot) → CanGo h → owns_context (body_in h.bodies b) ≡ true → IsWellFormed s → DoesStep z h s
own_read slot z h s b n f r can owns formed =
    let m = h.machine in
    let x = body_in h.bodies b in
    let locals = frame_locals x in
    let k = depth_from 0 x.nodes n in
    let node = nodes.Read 0 slot in
    let at = at_node_of z h s b n node f r in
    let v = viewed m b n locals (depth x.nodes n) in
    let found = finds_read formed.0 s at.young at.older 0 slot formed.1.well (record { here = at.at.here; node = at.at.node_is }) in
    let young : found.by ≡ at.young = sym (same_Some at.young found.by found.found) in
    let low : slot < length at.young.locals = subst (λ (a : Activation). slot < length a.locals) young found.within in
    let there = own_there z h s b n node f r at owns (slot + 1) (omega (arith, low)) in
    let ready = (let P : Bool → Type 0 = λ y. IsReady m m.pc (frame_words x) (read_code y locals k 0 slot) in subst P owns (ready_at h b n node r can.left)) in
    let d = read_does m m.pc (frame_words x) true locals k 0 slot ready (room_of h b n can) there in
    let at_word = m.regs 17 + (15 + 4 * slot) in
    let word = word_at m.memory at_word in
    let d2 = (let P : Bool → Type 0 = λ y. Does m m.pc (read_code y locals k 0 slot) (pended m locals k word) in subst P (sym owns) d) in
    let in_heap = context_in_heap (m.regs 17) (slot + 1) (15 + 4 * slot) there (omega arith) (omega arith) in
    let own : own_local (raw_of h).mem v slot ≡ word =
    cond-false (nat_eq (m.regs 17) 0) (get_or v.locals slot 0) (kept_at (raw_of h).mem (m.regs 17) slot) (ne_eqb (m.regs 17) 0 (not_none (m.regs 17) (slot + 1) there))
    ∙ ap (word_at (raw_of h).mem) (let e : m.regs 17 + 15 + 4 * slot ≡ at_word = omega arith in e)
    ∙ same_word m.memory at_word in_heap in
    let raw = read_own_follows (raw_of h) s z f.stands at.young at.older v (callers_of h r.view.older) slot at.at low in
    let raw2 = (let P : ℕ → Type 0 = λ y. RawFollows z (becomes (raw_of h) (Going (moved_on (y ∷ v.pending) v ∷ callers_of h r.view.older))) (step s) [] in subst P own raw) in
    pends z h s f b n node word r can refl (λ q. omega arith) d2 raw2

frame_read : (slot : ℕ) (z : Sense) (h : Host) (s : State) (b n : ℕ) → StandsFor z h s → RunsAt h b n (nodes.Read 0 slot) → CanGo h → owns_context (body_in h.bodies b) ≡ false → IsWellFormed s → DoesStep z h s
frame_read slot z h s b n f r can plain formed =
    let at = at_node_of z h s b n (nodes.Read 0 slot) f r in
    let found = finds_read formed.0 s at.young at.older 0 slot formed.1.well (record { here = at.at.here; node = at.at.node_is }) in
    let young : found.by ≡ at.young = sym (same_Some at.young found.by found.found) in
    let low : slot < length at.young.locals = subst (λ (a : Activation). slot < length a.locals) young found.within in
    let many = many_locals z h s b n (nodes.Read 0 slot) f r at plain in
    read_steps slot z h s b n f r can plain (omega (arith, low, many))

out_read : (up slot : ℕ) → WordsDo (nodes.Read (suc up) slot) IsWellFormed
out_read up slot z h s b n f r can formed =
    let m = h.machine in
    let x = body_in h.bodies b in
    let locals = frame_locals x in
    let owns = owns_context x in
    let k = depth_from 0 x.nodes n in
    let node = nodes.Read (suc up) slot in
    let at = at_node_of z h s b n node f r in
    let v = viewed m b n locals (depth x.nodes n) in
    let found = finds_read formed.0 s at.young at.older (suc up) slot formed.1.well (record { here = at.at.here; node = at.at.node_is }) in
    let there = out_there z h s b n up slot node f r at found in
    let d = read_does m m.pc (frame_words x) owns locals k (suc up) slot (ready_at h b n node r can.left) (room_of h b n can) (has_out m (frame_words x) owns up slot there.way) in
    let c = words_around m.memory up (m.regs 16) in
    let word = word_at m.memory (local_address m owns (suc up) slot) in
    let in_heap = context_in_heap c (slot + 1) (15 + 4 * slot) there.last (omega arith) (omega arith) in
    let own : kept_at (raw_of h).mem (around (raw_of h).mem up (m.regs 16)) slot ≡ word =
    ap (λ y. kept_at (raw_of h).mem y slot) there.same
    ∙ ap (word_at (raw_of h).mem) (let e : c + 15 + 4 * slot ≡ c + (15 + 4 * slot) = omega arith in e)
    ∙ same_word m.memory (c + (15 + 4 * slot)) in_heap
    ∙ ap (word_at m.memory) (sym (out_address m owns up slot)) in
    let raw = read_out_follows (raw_of h) s z f.stands at.young at.older v (callers_of h r.view.older) up slot found.by at.at found.found found.within in
    let raw2 = (let P : ℕ → Type 0 = λ y. RawFollows z (becomes (raw_of h) (Going (moved_on (y ∷ v.pending) v ∷ callers_of h r.view.older))) (step s) [] in subst P own raw) in
    pends z h s f b n node word r can refl (λ q. omega arith) d raw2

-- an activation has a context, or it has none
pub by_context : {A : Type 0} (owns : Bool) → (owns ≡ true → A) → (owns ≡ false → A) → A
by_context true own plain = own refl
by_context false own plain = plain refl

pub reads : (up slot : ℕ) → WordsDo (nodes.Read up slot) IsWellFormed
reads zero slot z h s b n f r can formed = by_context (owns_context (body_in h.bodies b)) (λ owns. own_read slot z h s b n f r can owns formed) (λ plain. frame_read slot z h s b n f r can plain formed)
reads (suc up) slot z h s b n f r can formed = out_read up slot z h s b n f r can formed
