-- Locals are stored.
use Rattle.std.proofs.Common.{◌≡◌, ℕ, zero, suc, ◌+◌, ◌-◌, ◌*◌, ◌%◌, ◌^◌, ◌<◌, refl, ◌∙◌, ap, sym, subst, arith}
use Rattle.std.specs.Prelude.{Bool, true, false, [], ◌∷◌, ◌++◌, length, get_or, drop}
use Rattle.std.proofs.lemmas.Option.{same_Some}
use Rattle.self_terms.specs.declared.nodes.Node.TheVariants as nodes
use Rattle.self_terms.specs.Depths.{depth, depth_from}
use Rattle.sparc_store.specs.Words.{Words, word_at, with_word, Stored}
use Rattle.sparc_store.proofs.Placed.{others_stay, put_stays_within}
use Rattle.sparc_machine.specs.State.{MachineState}
use Rattle.source_model.specs.State.{State, Activation}
use Rattle.source_model.specs.Soundness.{body_in}
use Rattle.source_model.specs.Formed.{IsWellFormed}
use Rattle.source_model.specs.Step.{step}
use Rattle.source_model.proofs.Soundly.{finds_store}
use Rattle.frame_walk.specs.Places.{pending_offset}
use Rattle.frame_walk.specs.Raw.{Going, becomes, moved_on}
use Rattle.raw_steps.specs.Stands.{Sense, Follows as RawFollows}
use Rattle.raw_steps.specs.Nodes.{around}
use Rattle.raw_steps.proofs.Storing.{own_context_stores, out_stores}
use Rattle.plain_words.specs.Code.{poll, store_code}
use Rattle.plain_words.specs.Moves.{IsReady, Does, Moved, pended, assigned, around as words_around}
use Rattle.plain_words.specs.Showing.{viewed}
use Rattle.plain_words.specs.Units.{frame_locals, frame_words, owns_context}
use Rattle.plain_words.proofs.Reading.{store_does}
use Rattle.plain_runs.specs.Host.{Host, raw_of, heap_words}
use Rattle.plain_runs.specs.Sound.{RunsAt, callers_of}
use Rattle.plain_runs.specs.Course.{CanGo, code_at}
use Rattle.plain_runs.proofs.Ready.{ready_at, node_few}
use Rattle.plain_steps.specs.Steps.{StandsFor, DoesStep, WordsDo}
use Rattle.plain_steps.proofs.Here.{at_node_of}
use Rattle.plain_steps.proofs.Words.{depth_is, depth_more, room_of}
use Rattle.plain_steps.proofs.Answering.{some_pending, youngest_is}
use Rattle.plain_steps.proofs.Storing.{store_steps}
use Rattle.plain_sends.proofs.Settling.{KeptTo}
use Rattle.plain_contexts.proofs.Heaped.{InHeap, stored_in_heap, context_in_heap}
use Rattle.plain_contexts.proofs.Reading.{many_locals, own_there, not_none, out_there, has_out, out_address, by_context}
use Rattle.plain_contexts.proofs.Storing.{gone_on, gone_step}

-- memory has changed in one word of the heap
pub stored_kept : (h : Host) (at word : ℕ) → CanGo h → InHeap at → KeptTo h (record h.machine { memory = with_word h.machine.memory at word }) (word_at h.machine.memory 0x30000000)
stored_kept h at word can there =
    let m = h.machine in
    record {
      code = λ a low. others_stay m.memory at word a (λ e. absurd (omega (arith, e, low, there.above)));
      stacks = λ a high. others_stay m.memory at word a (λ e. absurd (omega (arith, e, high, there.below)));
      goal_is = others_stay m.memory at word 0x30000000 (λ e. absurd (omega (arith, e, there.below)));
      within = put_stays_within m.memory at word can.hosted.within;
      few = can.hosted.goal;
      zero_is = refl;
      count = refl;
      frame = refl;
      window = λ k big. refl;
      older = refl;
    }

-- what is left to pay isn't that word
pub stored_left : (m : Words) (at word : ℕ) → InHeap at → word_at (with_word m at word) 0x30000004 ≡ word_at m 0x30000004
stored_left m at word there = others_stay m at word 0x30000004 (λ e. absurd (omega (arith, e, there.below)))

-- A local that stands in the heap.
stores_at : (up slot : ℕ) (z : Sense) (h : Host) (s : State) (b n : ℕ) → StandsFor z h s → (r : RunsAt h b n (nodes.Store up slot)) → CanGo h → (at : ℕ) → InHeap at
    → (let m = h.machine in
    let x = body_in h.bodies b in
    let j = depth_from 0 x.nodes n - 1 in
    let put_at = m.regs 14 + pending_offset (frame_locals x) j in
    let v = viewed m b n (frame_locals x) (depth x.nodes n) in
    Does m m.pc (code_at h b n (nodes.Store up slot)) (with_word (with_word m.memory at (word_at m.memory put_at)) put_at (m.regs 24))
    → ((mem : Words) → Stored (heap_words m.memory) mem at (get_or v.pending 0 0) → RawFollows z (record (becomes (raw_of h) (Going (moved_on (v.receiver ∷ drop 1 v.pending) v ∷ callers_of h r.view.older))) { mem = mem }) (step s) [])
    → DoesStep z h s)
stores_at up slot z h s b n f r can at there d follows =
    let m = h.machine in
    let x = body_in h.bodies b in
    let locals = frame_locals x in
    let node = nodes.Store up slot in
    let j = depth_from 0 x.nodes n - 1 in
    let value = word_at m.memory (m.regs 14 + pending_offset locals j) in
    let m1 : MachineState = record m { memory = with_word m.memory at value } in
    let mv = d.moved in
    let mv1 : Moved m1 d.to (m.pc + 4 * length (poll ++ code_at h b n node)) (pended m1 locals j (m.regs 24)) ((m.regs 2 + 1) % 2 ^ 32) =
    record { stands = mv.stands; memory_is = mv.memory_is; counted = mv.counted; kept = mv.kept; older = mv.older } in
    let takes = (can.runs b).takes n node r.node_is in
    let one : depth x.nodes n ≡ suc j = omega (arith, depth_is x.nodes n, takes) in
    let next = (can.runs b).ends n node r.node_is refl in
    let deeper : depth x.nodes (n + 1) ≡ j + 1 = depth_more x.nodes n node r.node_is ∙ omega (arith, one) in
    let g = gone_on h b n node next.0 m1 d.to j 1 (m.regs 24) r can (stored_kept h at value can there) (stored_left m.memory at value there) next.1 deeper (omega (arith, one)) mv1 in
    let v = viewed m b n locals (depth x.nodes n) in
    let top : get_or v.pending 0 0 ≡ value = youngest_is m b n locals (depth x.nodes n) j one in
    let stored : Stored (heap_words m.memory) (heap_words m1.memory) at (get_or v.pending 0 0) = subst (λ (y : ℕ). Stored (heap_words m.memory) (heap_words m1.memory) at y) (sym top) (stored_in_heap m.memory at value can.hosted.within there) in
    let few = node_few h b n node can.runs r.node_is in
    gone_step z h s b n next.0 _ r.view.older _ _ _ d.to d.instructions (omega (arith, few, d.few)) d.goes f g refl (follows (heap_words m1.memory) stored)

own_store : (slot : ℕ) (z : Sense) (h : Host) (s : State) (b n : ℕ) → StandsFor z h s → RunsAt h b n (nodes.Store 0 slot) → CanGo h → owns_context (body_in h.bodies b) ≡ true → IsWellFormed s → DoesStep z h s
own_store slot z h s b n f r can owns formed =
    let m = h.machine in
    let x = body_in h.bodies b in
    let locals = frame_locals x in
    let j = depth_from 0 x.nodes n - 1 in
    let node = nodes.Store 0 slot in
    let at = at_node_of z h s b n node f r in
    let v = viewed m b n locals (depth x.nodes n) in
    let takes = (can.runs b).takes n node r.node_is in
    let one : depth x.nodes n ≡ suc j = omega (arith, depth_is x.nodes n, takes) in
    let found = finds_store formed.0 s at.young at.older 0 slot formed.1.well (record { here = at.at.here; node = at.at.node_is }) in
    let young : found.by ≡ at.young = sym (same_Some at.young found.by found.found) in
    let low : slot < length at.young.locals = subst (λ (a : Activation). slot < length a.locals) young found.within in
    let there = own_there z h s b n node f r at owns (slot + 1) (omega (arith, low)) in
    let place = m.regs 17 + (15 + 4 * slot) in
    let in_heap = context_in_heap (m.regs 17) (slot + 1) (15 + 4 * slot) there (omega arith) (omega arith) in
    let ready = (let P : Bool → Type 0 = λ y. IsReady m m.pc (frame_words x) (store_code y locals j 0 slot) in subst P owns (ready_at h b n node r can.left)) in
    let d = store_does m m.pc (frame_words x) true locals j 0 slot ready (omega (arith, room_of h b n can)) there in
    let d2 = (let P : Bool → Type 0 = λ y. Does m m.pc (store_code y locals j 0 slot) (assigned m true locals j 0 slot) in subst P (sym owns) d) in
    let same : place ≡ m.regs 17 + 15 + 4 * slot = omega arith in
    stores_at 0 slot z h s b n f r can place in_heap d2
    (λ mem stored. own_context_stores (raw_of h) s z f.stands at.young at.older v (callers_of h r.view.older) slot mem at.at (not_none (m.regs 17) (slot + 1) there) low
    (some_pending z.cells z.places at.young.pending m b n locals (depth x.nodes n) j one at.first.pending)
    (subst (λ (y : ℕ). Stored (heap_words m.memory) mem y (get_or v.pending 0 0)) same stored))

frame_store : (slot : ℕ) (z : Sense) (h : Host) (s : State) (b n : ℕ) → StandsFor z h s → RunsAt h b n (nodes.Store 0 slot) → CanGo h → owns_context (body_in h.bodies b) ≡ false → IsWellFormed s → DoesStep z h s
frame_store slot z h s b n f r can plain formed =
    let at = at_node_of z h s b n (nodes.Store 0 slot) f r in
    let found = finds_store formed.0 s at.young at.older 0 slot formed.1.well (record { here = at.at.here; node = at.at.node_is }) in
    let young : found.by ≡ at.young = sym (same_Some at.young found.by found.found) in
    let low : slot < length at.young.locals = subst (λ (a : Activation). slot < length a.locals) young found.within in
    let many = many_locals z h s b n (nodes.Store 0 slot) f r at plain in
    store_steps slot z h s b n f r can plain (omega (arith, low, many))

out_store : (up slot : ℕ) → WordsDo (nodes.Store (suc up) slot) IsWellFormed
out_store up slot z h s b n f r can formed =
    let m = h.machine in
    let x = body_in h.bodies b in
    let locals = frame_locals x in
    let owns = owns_context x in
    let j = depth_from 0 x.nodes n - 1 in
    let node = nodes.Store (suc up) slot in
    let at = at_node_of z h s b n node f r in
    let v = viewed m b n locals (depth x.nodes n) in
    let takes = (can.runs b).takes n node r.node_is in
    let one : depth x.nodes n ≡ suc j = omega (arith, depth_is x.nodes n, takes) in
    let found = finds_store formed.0 s at.young at.older (suc up) slot formed.1.well (record { here = at.at.here; node = at.at.node_is }) in
    let there = out_there z h s b n up slot node f r at found in
    let c = words_around m.memory up (m.regs 16) in
    let place = c + (15 + 4 * slot) in
    let in_heap = context_in_heap c (slot + 1) (15 + 4 * slot) there.last (omega arith) (omega arith) in
    let d = store_does m m.pc (frame_words x) owns locals j (suc up) slot (ready_at h b n node r can.left) (omega (arith, room_of h b n can)) (has_out m (frame_words x) owns up slot there.way) in
    let put_at = m.regs 14 + pending_offset locals j in
    let d2 = (let P : ℕ → Type 0 = λ y. Does m m.pc (code_at h b n node) (with_word (with_word m.memory y (word_at m.memory put_at)) put_at (m.regs 24)) in subst P (out_address m owns up slot) d) in
    let same : place ≡ around (raw_of h).mem up (m.regs 16) + 15 + 4 * slot = (let e : place ≡ c + 15 + 4 * slot = omega arith in e) ∙ ap (λ y. y + 15 + 4 * slot) (sym there.same) in
    stores_at (suc up) slot z h s b n f r can place in_heap d2
    (λ mem stored. out_stores (raw_of h) s z f.stands at.young at.older v (callers_of h r.view.older) slot up found.by mem at.at found.found found.within
    (some_pending z.cells z.places at.young.pending m b n locals (depth x.nodes n) j one at.first.pending)
    (subst (λ (y : ℕ). Stored (heap_words m.memory) mem y (get_or v.pending 0 0)) same stored))

pub stores : (up slot : ℕ) → WordsDo (nodes.Store up slot) IsWellFormed
stores zero slot z h s b n f r can formed = by_context (owns_context (body_in h.bodies b)) (λ owns. own_store slot z h s b n f r can owns formed) (λ plain. frame_store slot z h s b n f r can plain formed)
stores (suc up) slot z h s b n f r can formed = out_store up slot z h s b n f r can formed
