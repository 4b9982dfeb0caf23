-- Own locals that the frame keeps are stored.
use Rattle.std.proofs.Common.{◌≡◌, ◌≢◌, ◌⊎◌, ℕ, zero, suc, ◌+◌, ◌-◌, ◌*◌, ◌%◌, ◌^◌, ◌<◌, ◌≤◌, refl, ◌∙◌, ap, sym, subst, arith, inl, inr}
use Rattle.std.specs.Prelude.{Bool, false, ◌∷◌, ◌++◌, map, length, Some, slice_set, get_or, drop}
use Rattle.self_terms.specs.declared.nodes.Node.TheVariants as nodes
use Rattle.self_terms.specs.Depths.{depth, depth_from}
use Rattle.sparc_store.specs.Words.{Words, word_at, with_word, HasWord, IsWithin}
use Rattle.sparc_store.specs.Windows.{kept}
use Rattle.sparc_store.proofs.Placed.{others_stay, put_there, put_stays_within}
use Rattle.sparc_machine.specs.State.{MachineState}
use Rattle.source_model.specs.Soundness.{body_in}
use Rattle.heap_cells.specs.Source.{Plain as without}
use Rattle.frame_walk.specs.Places.{Frame, word_in_place, slots_from, pending_places, local_offset, pending_offset, holder_offset}
use Rattle.raw_steps.proofs.Storing.{plain_stores}
use Rattle.plain_words.specs.Going.{StandsAt}
use Rattle.plain_words.specs.Code.{poll, store_code}
use Rattle.plain_words.specs.Moves.{IsReady, Moved, pended}
use Rattle.plain_words.specs.Showing.{viewed}
use Rattle.plain_words.specs.Units.{frame_locals, frame_words}
use Rattle.plain_words.proofs.Placing.{placed}
use Rattle.plain_words.proofs.Reading.{store_does}
use Rattle.plain_words.proofs.Shown.{pended_shows}
use Rattle.plain_runs.specs.Host.{raw_of, heap_words}
use Rattle.plain_runs.specs.Sound.{callers_of}
use Rattle.plain_runs.proofs.Keeping.{unit_kept}
use Rattle.plain_runs.proofs.Working.{ChangedInView, code_same, heap_stays, view_on, view_goes_on}
use Rattle.plain_runs.proofs.Ready.{ready_at, next_poll}
use Rattle.plain_steps.specs.Steps.{WordsStore}
use Rattle.plain_steps.proofs.Here.{at_node_of}
use Rattle.plain_steps.proofs.Words.{depth_is, depth_more, room_of, meets_step}
use Rattle.plain_steps.proofs.Answering.{no_context, wants_none, some_pending, youngest_is}

-- a word below the slots leaves them
slots_above : (memory : Words) (window : ℕ → ℕ) (sp at word offset n : ℕ) → at < sp + offset → map (word_in_place (with_word memory at word) window sp) (slots_from offset n) ≡ map (word_in_place memory window sp) (slots_from offset n)
slots_above memory window sp at word offset zero h = refl
slots_above memory window sp at word offset (suc n) h =
    ap (λ w. w ∷ map (word_in_place (with_word memory at word) window sp) (slots_from (offset + 4) n)) (others_stay memory at word (sp + offset) (omega arith))
    ∙ ap (λ ws. word_at memory (sp + offset) ∷ ws) (slots_above memory window sp at word (offset + 4) n (omega arith))

pending_above : (memory : Words) (window : ℕ → ℕ) (sp at word locals k : ℕ) → at < sp + pending_offset locals 0 → map (word_in_place (with_word memory at word) window sp) (pending_places locals k) ≡ map (word_in_place memory window sp) (pending_places locals k)
pending_above memory window sp at word locals zero h = refl
pending_above memory window sp at word locals (suc k) h =
    ap (λ w. w ∷ map (word_in_place (with_word memory at word) window sp) (pending_places locals k)) (others_stay memory at word (sp + pending_offset locals k) (omega arith))
    ∙ ap (λ ws. word_at memory (sp + pending_offset locals k) ∷ ws) (pending_above memory window sp at word locals k h)

-- the word of one slot is set
slot_set : (memory : Words) (window : ℕ → ℕ) (sp word offset n slot : ℕ) → slot < n → IsWithin memory → HasWord (sp + (offset + 4 * slot))
    → map (word_in_place (with_word memory (sp + (offset + 4 * slot)) word) window sp) (slots_from offset n) ≡ slice_set (map (word_in_place memory window sp) (slots_from offset n)) slot word
slot_set memory window sp word offset zero slot h whole there = absurd (omega (arith, h))
slot_set memory window sp word offset (suc n) zero h whole there =
    let at = sp + (offset + 4 * 0) in
    ap (λ w. w ∷ map (word_in_place (with_word memory at word) window sp) (slots_from (offset + 4) n)) (ap (word_at (with_word memory at word)) (omega arith) ∙ put_there memory at word whole there)
    ∙ ap (λ ws. word ∷ ws) (slots_above memory window sp at word (offset + 4) n (omega arith))
slot_set memory window sp word offset (suc n) (suc slot) h whole there =
    let at = sp + (offset + 4 * suc slot) in
    let same : at ≡ sp + (offset + 4 + 4 * slot) = omega arith in
    ap (λ w. w ∷ map (word_in_place (with_word memory at word) window sp) (slots_from (offset + 4) n)) (others_stay memory at word (sp + offset) (omega arith))
    ∙ ap (λ a. word_at memory (sp + offset) ∷ map (word_in_place (with_word memory a word) window sp) (slots_from (offset + 4) n)) same
    ∙ ap (λ ws. word_at memory (sp + offset) ∷ ws) (slot_set memory window sp word (offset + 4) n slot (omega (arith, h)) whole (let P : ℕ → Type 0 = HasWord in subst P same there))

apart_from : (sp words d b : ℕ) → (b < sp) ⊎ (sp + 4 * words ≤ b) → d < 4 * words → b ≢ sp + d
apart_from sp words d b (inl below) h = λ e. absurd (omega (arith, below, e))
apart_from sp words d b (inr above) h = λ e. absurd (omega (arith, above, e))

pub store_steps : (slot : ℕ) → WordsStore slot
store_steps slot z h s b n f r can plain low =
    let m = h.machine in
    let x = body_in h.bodies b in
    let locals = frame_locals x in
    let node = nodes.Store 0 slot in
    let k = depth_from 0 x.nodes n in
    let j = k - 1 in
    let sp = m.regs 14 in
    let w = kept m.regs in
    let at = at_node_of z h s b n node f r in
    let takes = (can.runs b).takes n node r.node_is in
    let room = room_of h b n can in
    let one : depth x.nodes n ≡ suc j = omega (arith, depth_is x.nodes n, takes) in
    let place = sp + local_offset slot in
    let value = word_at m.memory (sp + pending_offset locals j) in
    let ready = (let P : Bool → Type 0 = λ y. IsReady m m.pc (frame_words x) (store_code y locals j 0 slot) in subst P plain (ready_at h b n node r can.left)) in
    let d = store_does m m.pc (frame_words x) false locals j 0 slot ready (omega (arith, room)) (omega (arith, low, room)) in
    let to = d.to in
    let mv = d.moved in
    let short = d.few in
    let long_code : length (poll ++ store_code false locals j 0 slot) ≤ 128 = omega arith in
    let long = (let P : Bool → Type 0 = λ y. to.pc ≡ m.pc + 4 * length (poll ++ store_code y locals j 0 slot) in subst P (sym plain) mv.stands.here) in
    let p1 = placed sp (frame_words x) (local_offset slot) r.view.frame.place (omega arith) (omega (arith, low, room)) in
    let there : HasWord place = (let P : ℕ → Type 0 = HasWord in subst P p1.address p1.has) in
    let m1 : MachineState = record m { memory = with_word m.memory place value } in
    let whole1 = put_stays_within m.memory place value can.hosted.within in
    let mv1 : Moved m1 to (m.pc + 4 * length (poll ++ store_code false locals j 0 slot)) (pended m1 locals j (m.regs 24)) ((m.regs 2 + 1) % 2 ^ 32) = record { stands = mv.stands; memory_is = mv.memory_is; counted = mv.counted; kept = mv.kept; older = mv.older } in
    let shows = pended_shows m1 to (m.pc + 4 * length (poll ++ store_code false locals j 0 slot)) ((m.regs 2 + 1) % 2 ^ 32) (frame_words x) locals j (m.regs 24) whole1 r.view.frame.place (omega (arith, room)) mv1 in
    let put_at = sp + pending_offset locals j in
    let c : ChangedInView h b to = record {
      changed = λ a out. shows.1 a out ∙ others_stay m.memory place value a (apart_from sp (frame_words x) (local_offset slot) a out (omega (arith, low, room)));
      high = r.view.frame.place.1;
      ends = r.view.frame.ends;
      heap = ap heap_words mv.memory_is ∙ heap_stays m1.memory put_at (m.regs 24) (omega (arith, r.view.frame.place.1)) ∙ heap_stays m.memory place value (omega (arith, r.view.frame.place.1));
      within = (let P : Words → Type 0 = IsWithin in subst P (sym mv.memory_is) (put_stays_within m1.memory put_at (m.regs 24) whole1));
    } in
    let next = (can.runs b).ends n node r.node_is refl in
    let stands : StandsAt to to.pc = record { here = refl; next = mv.stands.next ∙ ap (λ y. y + 4) (sym mv.stands.here) } in
    let poll_next = next_poll h b n node next.0 to r.poll r.node_is next.1 (unit_kept h to b r.poll.at (code_same h b to c) r.poll.unit) long in
    let counted : to.regs 2 ≡ m.regs 2 + 1 = mv.counted ∙ omega (arith, can.left, can.hosted.goal) in
    let v = viewed m b n locals (depth x.nodes n) in
    let now : Frame = record v { locals = slice_set v.locals slot (get_or v.pending 0 0); pending = v.receiver ∷ drop 1 v.pending; next = v.next + 1 } in
    let top : get_or v.pending 0 0 ≡ value = youngest_is m b n locals (depth x.nodes n) j one in
    let rest : drop 1 v.pending ≡ map (word_in_place m.memory w sp) (pending_places locals j) = ap (λ (y : ℕ). drop 1 (viewed m b n locals y).pending) one in
    let same_place : place ≡ sp + (local_offset 0 + 4 * slot) = omega arith in
    let was : record (viewed m1 b n locals j) { next = n + 1; pending = m.regs 24 ∷ (viewed m1 b n locals j).pending } ≡ now = λ i. record {
      body = b;
      next = n + 1;
      receiver = w 8;
      holder = others_stay m.memory place value (sp + holder_offset) (omega arith) i;
      outer = w 0;
      context = w 1;
      mark = sp;
      locals = (ap (λ a. map (word_in_place (with_word m.memory a value) w sp) (slots_from (local_offset 0) locals)) same_place
          ∙ slot_set m.memory w sp value (local_offset 0) locals slot low can.hosted.within (let P : ℕ → Type 0 = HasWord in subst P same_place there)
          ∙ ap (slice_set v.locals slot) (sym top)) i;
      pending = (ap (λ ws. m.regs 24 ∷ ws) (pending_above m.memory w sp place value locals j (omega (arith, low))) ∙ ap (λ ws. m.regs 24 ∷ ws) (sym rest)) i;
    } in
    let deeper : depth x.nodes (n + 1) ≡ j + 1 = depth_more x.nodes n node r.node_is ∙ omega (arith, one) in
    let view = view_on h b (n + 1) next.0 to now r.view can.hosted can.runs can.current c mv.kept mv.older stands poll_next next.1
    (ap (viewed to b (n + 1) locals) deeper ∙ shows.0 b n (n + 1) ∙ was) in
    let kind_is : at.first.kind ≡ without = no_context z at.young v at.first.kind (sym at.first.wanted ∙ wants_none h s b at.young.body f.bodies at.first.body plain) at.first.locals in
    let none : v.context ≡ 0 = f.stands.heap.means.context at.young.number v.context without at.first.context (at.first.made ∙ ap Some kind_is) in
    let raw = plain_stores (raw_of h) s z f.stands at.young at.older v (callers_of h r.view.older) slot at.at none (some_pending z.cells z.places at.young.pending m b n locals (depth x.nodes n) j one at.first.pending) in
    meets_step z h s b (n + 1) next.0 _ f (record { instructions = d.instructions; few = omega (arith, short, long_code); to = to; goes = d.goes; on = view_goes_on h b (n + 1) next.0 to now r.view.older view c.heap counted (mv.kept 3 refl) (mv.kept 6 refl); runs = view.runs }) raw
