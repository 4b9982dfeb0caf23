-- Blocks are made.
use Rattle.std.proofs.Common.{◌≡◌, ◌≢◌, ◌⊎◌, ℕ, zero, suc, ◌+◌, ◌*◌, ◌%◌, ◌^◌, ◌<◌, ◌≤◌, refl, ◌∙◌, ap, sym, subst, arith, inl, inr, get_or}
use Rattle.std.specs.Prelude.{Bool, true, false, if◌then◌else◌, nat_eq, List, [], ◌∷◌, ◌++◌, length}
use Rattle.std.proofs.lemmas.Bool.{eqb-true}
use Rattle.self_terms.specs.declared.nodes.Node.TheVariants as nodes
use Rattle.self_terms.specs.Depths.{depth, depth_from}
use Rattle.sparc_store.specs.Words.{Words, word_at, with_word, IsWithin, Framed}
use Rattle.sparc_store.proofs.Placed.{put_stays_within}
use Rattle.sparc_machine.specs.State.{MachineState}
use Rattle.source_model.specs.Soundness.{body_in}
use Rattle.source_model.specs.Step.{step}
use Rattle.heap_cells.specs.Laying.{with_words}
use Rattle.heap_cells.specs.Shapes.{Block, words_of}
use Rattle.heap_cells.proofs.Machine.{words_put}
use Rattle.frame_walk.specs.Raw.{Going, moved_on}
use Rattle.raw_steps.specs.Stands.{Follows as RawFollows}
use Rattle.raw_steps.proofs.Evaluating.{block_made}
use Rattle.plain_words.specs.Code.{poll}
use Rattle.plain_words.specs.Moves.{Moved, pended}
use Rattle.plain_words.specs.Showing.{viewed}
use Rattle.plain_words.specs.Units.{frame_locals}
use Rattle.plain_runs.specs.Host.{raw_of, heap_words}
use Rattle.plain_runs.specs.Sound.{callers_of}
use Rattle.plain_runs.specs.Course.{code_at}
use Rattle.plain_steps.proofs.Here.{at_node_of}
use Rattle.plain_steps.proofs.Words.{depth_is, depth_more}
use Rattle.plain_sends.proofs.Settling.{KeptTo}
use Rattle.plain_sends.proofs.Serving.{other}
use Rattle.plain_contexts.specs.Making.{BlocksAreMade}
use Rattle.plain_contexts.proofs.Heaped.{InHeap, has_word, stored_in_heap}
use Rattle.plain_contexts.proofs.Storing.{heaped, gone_on, gone_step}

-- Words put in the heap, one behind the other.

after_first : (b at n : ℕ) → (b < at) ⊎ (at + 4 * suc n ≤ b) → (b < at + 4) ⊎ (at + 4 + 4 * n ≤ b)
after_first b at n (inl low) = inl (omega (arith, low))
after_first b at n (inr high) = inr (omega (arith, high))

not_first : (b at n : ℕ) → (b < at) ⊎ (at + 4 * suc n ≤ b) → b ≢ at
not_first b at n (inl low) = λ e. absurd (omega (arith, low, e))
not_first b at n (inr high) = λ e. absurd (omega (arith, high, e))

put_next : (new : Words) (at w : ℕ) (ws : List ℕ) → word_at new at ≡ w → ((k : ℕ) → k < length ws → word_at new (at + 4 + 4 * k) ≡ get_or ws k 0) → (k : ℕ) → k < length (w ∷ ws) → word_at new (at + 4 * k) ≡ get_or (w ∷ ws) k 0
put_next new at w ws first rest zero lt = ap (word_at new) (let e : at + 4 * 0 ≡ at = omega arith in e) ∙ first
put_next new at w ws first rest (suc k) lt = ap (word_at new) (let e : at + 4 * suc k ≡ at + 4 + 4 * k = omega arith in e) ∙ rest k (omega (arith, lt))

framed_in_heap : (ws : List ℕ) (m : Words) (at : ℕ) → IsWithin m → at % 4 ≡ 0 → 0x20000000 ≤ at → at + 4 * length ws ≤ 0x20000000 + 46137344 → Framed (heap_words m) (heap_words (with_words m at ws)) at ws
framed_in_heap [] m at whole aligned low room = record { put = λ k lt. absurd (omega (arith, lt)); others = λ b out. refl }
framed_in_heap (w ∷ ws) m at whole aligned low room =
    let here : InHeap at = record { aligned = aligned; above = low; below = omega (arith, room) } in
    let s = stored_in_heap m at w whole here in
    let rest = framed_in_heap ws (with_word m at w) (at + 4) (put_stays_within m at w whole) (omega (arith, aligned)) (omega (arith, low)) (omega (arith, room)) in
    record {
      put = put_next (heap_words (with_words (with_word m at w) (at + 4) ws)) at w ws (rest.others at (inl (omega arith)) ∙ s.put) rest.put;
      others = λ b out. rest.others b (after_first b at (length ws) out) ∙ s.others b (not_first b at (length ws) out);
    }

words_within : (ws : List ℕ) (m : Words) (at : ℕ) → IsWithin m → IsWithin (with_words m at ws)
words_within [] m at whole = whole
words_within (w ∷ ws) m at whole = words_within ws (with_word m at w) (at + 4) (put_stays_within m at w whole)

-- the registers when a block has been made
abbrev counts : (ℕ → ℕ) → ℕ → ℕ
counts regs r = if nat_eq r 6 then regs 6 + 16 else if nat_eq r 3 then regs 3 + 4 else regs r

other_counts : (regs : ℕ → ℕ) (r : ℕ) → nat_eq r 3 ≡ false → nat_eq r 6 ≡ false → counts regs r ≡ regs r
other_counts regs r e3 e6 = ap (λ q. if q then regs 6 + 16 else if nat_eq r 3 then regs 3 + 4 else regs r) e6 ∙ ap (λ q. if q then regs 3 + 4 else regs r) e3

high_counts : (regs : ℕ → ℕ) (r : ℕ) → 16 ≤ r → counts regs r ≡ regs r
high_counts regs r big = other_counts regs r (other r 3 (omega arith)) (other r 6 (omega arith))

-- each register that is no scratch one is as these say
by_number : (regs to : ℕ → ℕ) (r : ℕ) (six three : Bool) → nat_eq r 6 ≡ six → nat_eq r 3 ≡ three → to 6 ≡ regs 6 + 16 → to 3 ≡ regs 3 + 4 → (nat_eq r 3 ≡ false → nat_eq r 6 ≡ false → to r ≡ regs r)
    → to r ≡ (if six then regs 6 + 16 else if three then regs 3 + 4 else regs r)
by_number regs to r true three e6 e3 top cost same = ap to (eqb-true r 6 e6) ∙ top
by_number regs to r false true e6 e3 top cost same = ap to (eqb-true r 3 e3) ∙ cost
by_number regs to r false false e6 e3 top cost same = same e3 e6

pub blocks_made : BlocksAreMade
blocks_made z h s b n map body f r can make d =
    let m = h.machine in
    let x = body_in h.bodies b in
    let locals = frame_locals x in
    let node = nodes.BlockLit body in
    let k = depth_from 0 x.nodes n in
    let at = at_node_of z h s b n node f r in
    let v = viewed m b n locals (depth x.nodes n) in
    let callers = callers_of h r.view.older in
    let top = m.regs 6 in
    let end = f.stands.heap.laid.end in
    let aligned : top % 4 ≡ 0 = end.aligned in
    let above : 0x20000000 ≤ top = end.above in
    let ws : List ℕ = words_of (Block map body.0 (m.regs 17) (m.regs 24)) in
    let memory = with_words m.memory top ws in
    let m1 : MachineState = record m { memory = memory; regs = counts m.regs } in
    let framed = framed_in_heap ws m.memory top can.hosted.within aligned above make.room in
    let whole = words_put m.memory top ws can.hosted.within (λ j lt. has_word (top + 4 * j) (record { aligned = omega (arith, aligned); above = omega (arith, above); below = omega (arith, lt, make.room) })) in
    let kept : KeptTo h m1 (word_at m.memory 0x30000000) = record {
      code = λ a low. whole.others a (inl (omega (arith, low, above)));
      stacks = λ a high. whole.others a (inr (omega (arith, high, make.room)));
      goal_is = whole.others 0x30000000 (inr (omega (arith, make.room)));
      within = words_within ws m.memory top can.hosted.within;
      few = can.hosted.goal;
      zero_is = refl;
      count = refl;
      frame = refl;
      window = λ q big. high_counts m.regs q big;
      older = refl;
    } in
    let mv : Moved m1 d.to (m.pc + 4 * length (poll ++ code_at h b n node)) (pended m1 locals (depth x.nodes n) (top + 1)) ((m.regs 2 + 1) % 2 ^ 32) = record {
      stands = d.stands;
      memory_is = d.memory_is ∙ ap (λ y. pended m1 locals y (top + 1)) (sym (depth_is x.nodes n));
      counted = d.counted;
      kept = λ q still. by_number m.regs d.to.regs q (nat_eq q 6) (nat_eq q 3) refl refl d.top d.cost (d.kept q still);
      older = d.older;
    } in
    let next = (can.runs b).ends n node r.node_is refl in
    let deeper : depth x.nodes (n + 1) ≡ depth x.nodes n + 1 = depth_more x.nodes n node r.node_is ∙ omega arith in
    let g = gone_on h b n node next.0 m1 d.to (depth x.nodes n) 0 (top + 1) r can kept (whole.others 0x30000004 (inr (omega (arith, make.room)))) next.1 deeper (omega arith) mv in
    let paid : h.cost + m.regs 3 + 4 ≤ 4194304 = make.paid in
    let raw = block_made (raw_of h) s z f.stands at.young at.older v callers body at.at map (heap_words memory) framed make.room make.mapped make.told paid in
    let same : h.cost + m.regs 3 + 4 ≡ h.cost + (m.regs 3 + 4) = omega arith in
    let raw2 = subst (λ (c : ℕ). RawFollows z (heaped h (Going (moved_on ((top + 1) ∷ v.pending) v ∷ callers)) (top + 16) c (heap_words memory)) (step s) []) same raw in
    gone_step z h s b n next.0 _ r.view.older _ _ _ d.to d.instructions (omega (arith, d.few)) d.goes f g (omega arith) raw2
