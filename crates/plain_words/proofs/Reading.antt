-- Locals are read and stored, in the frame and in contexts.
use Rattle.std.proofs.Common.{◌≡◌, ℕ, zero, suc, ◌+◌, ◌*◌, ◌%◌, ◌^◌, ◌<◌, ◌≤◌, refl, ◌∙◌, ap, sym, subst, arith, inl, inr}
use Rattle.std.specs.Prelude.{Bool, true, false, nat_eq, List, [], ◌∷◌}
use Rattle.std.specs.Int.Bits.{or_zero_r}
use Rattle.sparc_insn.specs.declared.insn.Insn.{Insn}
use Rattle.sparc_store.specs.Words.{Words, word_at, with_word, HasWord, HasFrame}
use Rattle.sparc_machine.specs.State.{MachineState}
use Rattle.sparc_machine.specs.Alu.{add}
use Rattle.sparc_machine.specs.Table.{effect}
use Rattle.frame_walk.specs.Places.{pending_offset, local_offset}
use Rattle.plain_words.specs.Code.{load, store, move, pend, take, count, walk, reach, base_of, offset_of, context_offset, read_code, store_code}
use Rattle.plain_words.specs.Moves.{IsReady, Does, pended, IsContext, around, AreAround, local_address, HasLocal, assigned}
use Rattle.plain_words.proofs.Basics.{other_register}
use Rattle.plain_words.proofs.Straight.{straight, all_straight, all_spare, CanAll, both_straight, both_spare, can_both, straight_on}
use Rattle.plain_words.proofs.Placing.{IsPlaced, placed}
use Rattle.plain_words.proofs.Polls.{polled, node_does}

-- a word of a context
pub context_word : (context locals d : ℕ) → IsContext context locals → d % 4 ≡ 3 → d < 15 + 4 * locals → (add context d ≡ context + d) × HasWord (add context d) × (0x20000000 ≤ add context d)
context_word context locals d c whole low =
    let e : add context d ≡ context + d = omega (arith, c.from, c.to) in
    let h : HasWord (context + d) = (omega (arith, c.tagged, whole), inr (inl (omega (arith, c.from), omega (arith, c.to)))) in
    (e, (let P : ℕ → Type 0 = HasWord in subst P (sym e) h), omega (arith, e, c.from))

walk_straight : (up : ℕ) → all_straight (walk up) ≡ true
walk_straight zero = refl
walk_straight (suc up) = walk_straight up

walk_spare : (up : ℕ) → all_spare (walk up) ≡ true
walk_spare zero = refl
walk_spare (suc up) = walk_spare up

-- where contexts are loaded one after the other, memory and every register but %g1 stay
pub record Walked (m to : MachineState) (context : ℕ) : Type 0 where
  pub memory : to.memory ≡ m.memory
  pub base : to.regs 1 ≡ context
  pub others : (r : ℕ) → nat_eq r 1 ≡ false → to.regs r ≡ m.regs r

walked : (up : ℕ) (m : MachineState) (c : ℕ) (locals : ℕ) → m.regs 1 ≡ c → AreAround m.memory up c locals → CanAll (walk up) m × Walked m (straight (walk up) m) (around m.memory up c)
walked zero m c locals e h = (tt, record { memory = refl; base = e; others = λ r n. refl })
walked (suc up) m c locals e h =
    let w = context_word c 0 3 h.0 refl (omega arith) in
    let x = effect (load 1 1 3) m in
    let same : add (m.regs 1) 3 ≡ c + 3 = ap (λ z. add z 3) e ∙ w.0 in
    let there : HasWord (add (m.regs 1) 3) = (let P : ℕ → Type 0 = λ z. HasWord (add z 3) in subst P (sym e) w.1) in
    let rest = walked up x (word_at m.memory (c + 3)) locals (ap (word_at m.memory) same) h.1 in
    let t = rest.1 in
    ((there, rest.0), record { memory = t.memory; base = t.base; others = λ r n. t.others r n ∙ other_register m.regs 1 _ r n })

-- What stands before a local is reached: memory, the count and the frame's registers are as at the poll.
pub record Reached (m t : MachineState) (base c : ℕ) : Type 0 where
  pub memory : t.memory ≡ m.memory
  pub base_is : t.regs base ≡ c
  pub frame : t.regs 14 ≡ m.regs 14
  pub receiver : t.regs 24 ≡ m.regs 24
  pub count : t.regs 2 ≡ m.regs 2

-- the address of a local is that of a word outside the code
pub record IsLocal (c d : ℕ) : Type 0 where
  pub address : add c d ≡ c + d
  pub has : HasWord (add c d)
  pub outside : 0x20000000 ≤ add c d

-- the register from which a local is reached holds this
abbrev pub base_word : MachineState → Bool → ℕ → ℕ
base_word m owns zero = m.regs (base_of owns zero)
base_word m owns (suc up) = around m.memory up (m.regs 16)

around_last : (up : ℕ) (memory : Words) (c locals : ℕ) → AreAround memory up c locals → IsContext (around memory up c) locals
around_last zero memory c locals h = h
around_last (suc up) memory c locals h = around_last up memory (word_at memory (c + 3)) locals h.1

of_context : (c slot : ℕ) → IsContext c (slot + 1) → IsLocal c (context_offset slot)
of_context c slot h = let w = context_word c (slot + 1) (context_offset slot) h (omega arith) (omega arith) in record { address = w.0; has = w.1; outside = w.2 }

is_local : (m : MachineState) (words : ℕ) (owns : Bool) (up slot : ℕ) → HasFrame (m.regs 14) words → HasLocal m words owns up slot → IsLocal (base_word m owns up) (offset_of owns up slot)
is_local m words false zero slot f h = let d = placed (m.regs 14) words (local_offset slot) f (omega arith) (omega arith) in record { address = d.address; has = d.has; outside = d.outside }
is_local m words true zero slot f h = of_context (m.regs 17) slot h
is_local m words owns (suc up) slot f h = of_context (around m.memory up (m.regs 16)) slot (around_last up m.memory (m.regs 16) (slot + 1) h)

-- a local is reached by straight code
reached : (m : MachineState) (words : ℕ) (owns : Bool) (up slot : ℕ) → HasLocal m words owns up slot
    → CanAll (reach up) (polled m) × Reached m (straight (reach up) (polled m)) (base_of owns up) (base_word m owns up)
reached m words false zero slot h = (tt, record { memory = refl; base_is = refl; frame = refl; receiver = refl; count = refl })
reached m words true zero slot h = (tt, record { memory = refl; base_is = refl; frame = refl; receiver = refl; count = refl })
reached m words owns (suc up) slot h =
    let x = effect (move 1 16) (polled m) in
    let w = walked up x (m.regs 16) (slot + 1) (or_zero_r (m.regs 16)) h in
    let t = w.1 in
    ((tt, w.0), record { memory = t.memory; base_is = t.base; frame = t.others 14 refl; receiver = t.others 24 refl; count = t.others 2 refl })

reach_straight : (up : ℕ) → all_straight (reach up) ≡ true
reach_straight zero = refl
reach_straight (suc up) = walk_straight up

reach_spare : (up : ℕ) → all_spare (reach up) ≡ true
reach_spare zero = refl
reach_spare (suc up) = walk_spare up

-- the word there is loaded and pended
abbrev read_tail : ℕ → ℕ → ℕ → ℕ → List Insn
read_tail base d locals k = load 1 base d ∷ pend 1 locals k ∷ count ∷ []

tail_can : (m t : MachineState) (base c d locals k : ℕ) → Reached m t base c → IsLocal c d → IsPlaced (m.regs 14) (pending_offset locals k) → CanAll (read_tail base d locals k) t
tail_can m t base c d locals k r l p =
    let Q : ℕ → Type 0 = λ z. HasWord (add z d) in
    let R : ℕ → Type 0 = λ z. HasWord (add z (pending_offset locals k)) × (0x20000000 ≤ add z (pending_offset locals k)) in
    (subst Q (sym r.base_is) l.has, (subst R (sym r.frame) (p.has, p.outside), (tt, tt)))

tail_memory : (m t : MachineState) (base c d locals k : ℕ) → Reached m t base c → IsLocal c d → IsPlaced (m.regs 14) (pending_offset locals k)
    → (straight (read_tail base d locals k) t).memory ≡ pended m locals k (word_at m.memory (c + d))
tail_memory m t base c d locals k r l p =
    ap (λ z. with_word t.memory (add z (pending_offset locals k)) (word_at t.memory (add (t.regs base) d))) r.frame
    ∙ ap (λ z. with_word t.memory (add (m.regs 14) (pending_offset locals k)) (word_at t.memory (add z d))) r.base_is
    ∙ ap (λ z. with_word z (add (m.regs 14) (pending_offset locals k)) (word_at z (add c d))) r.memory
    ∙ ap (λ z. with_word m.memory z (word_at m.memory (add c d))) p.address
    ∙ ap (λ z. with_word m.memory (m.regs 14 + pending_offset locals k) (word_at m.memory z)) l.address

address_is : (m : MachineState) (owns : Bool) (up slot : ℕ) → local_address m owns up slot ≡ base_word m owns up + offset_of owns up slot
address_is m owns zero slot = refl
address_is m owns (suc up) slot = refl

pub read_does : (m : MachineState) (p words : ℕ) (owns : Bool) (locals k up slot : ℕ) → IsReady m p words (read_code owns locals k up slot) → 27 + locals + k < words
    → HasLocal m words owns up slot → Does m p (read_code owns locals k up slot) (pended m locals k (word_at m.memory (local_address m owns up slot)))
read_does m p words owns locals k up slot r room h =
    let d = offset_of owns up slot in
    let base = base_of owns up in
    let c = base_word m owns up in
    let tail = read_tail base d locals k in
    let l = is_local m words owns up slot r.frame h in
    let there = placed (m.regs 14) words (pending_offset locals k) r.frame (omega arith) (omega arith) in
    let t = straight (reach up) (polled m) in
    let at = reached m words owns up slot h in
    let e = straight_on (reach up) tail (polled m) in
    node_does (read_code owns locals k up slot) m p words _ r
    (both_straight (reach up) tail (reach_straight up) refl)
    (both_spare (reach up) tail (reach_spare up) refl)
    (can_both (reach up) tail (polled m) at.0 (tail_can m t base c d locals k at.1 l there))
    (ap (λ z. z.memory) e ∙ tail_memory m t base c d locals k at.1 l there ∙ ap (λ z. pended m locals k (word_at m.memory z)) (sym (address_is m owns up slot)))
    (ap (λ z. z.regs 2) e ∙ ap (λ z. (z + 1) % 2 ^ 32) at.1.count)

-- the value is taken, stored there, and the receiver pended in its place
abbrev store_tail : ℕ → ℕ → ℕ → ℕ → List Insn
store_tail base d locals k = take 5 locals k ∷ store 5 base d ∷ pend 24 locals k ∷ count ∷ []

abbrev low_base : ℕ → Type 0
low_base base = nat_eq base 5 ≡ false

base_low : (owns : Bool) (up : ℕ) → low_base (base_of owns up)
base_low false zero = refl
base_low true zero = refl
base_low owns (suc up) = refl

store_can : (m t : MachineState) (base c d locals k : ℕ) → low_base base → Reached m t base c → IsLocal c d → IsPlaced (m.regs 14) (pending_offset locals k) → CanAll (store_tail base d locals k) t
store_can m t base c d locals k low r l p =
    let P : ℕ → Type 0 = λ z. HasWord (add z (pending_offset locals k)) in
    let Q : ℕ → Type 0 = λ z. HasWord (add z d) × (0x20000000 ≤ add z d) in
    let R : ℕ → Type 0 = λ z. HasWord (add z (pending_offset locals k)) × (0x20000000 ≤ add z (pending_offset locals k)) in
    (subst P (sym r.frame) p.has, (subst Q (sym (other_register t.regs 5 _ base low ∙ r.base_is)) (l.has, l.outside), (subst R (sym r.frame) (p.has, p.outside), (tt, tt))))

store_memory : (m t : MachineState) (base c d locals k : ℕ) → low_base base → Reached m t base c → IsLocal c d → IsPlaced (m.regs 14) (pending_offset locals k)
    → (straight (store_tail base d locals k) t).memory
    ≡ with_word (with_word m.memory (c + d) (word_at m.memory (m.regs 14 + pending_offset locals k))) (m.regs 14 + pending_offset locals k) (m.regs 24)
store_memory m t base c d locals k low r l p =
    let off = pending_offset locals k in
    ap (λ z. with_word (with_word t.memory (add z d) (word_at t.memory (add (t.regs 14) off))) (add (t.regs 14) off) (t.regs 24)) (other_register t.regs 5 _ base low ∙ r.base_is)
    ∙ ap (λ z. with_word (with_word t.memory (add c d) (word_at t.memory (add z off))) (add z off) (t.regs 24)) r.frame
    ∙ ap (λ z. with_word (with_word z (add c d) (word_at z (add (m.regs 14) off))) (add (m.regs 14) off) (t.regs 24)) r.memory
    ∙ ap (λ z. with_word (with_word m.memory (add c d) (word_at m.memory (add (m.regs 14) off))) (add (m.regs 14) off) z) r.receiver
    ∙ ap (λ z. with_word (with_word m.memory (add c d) (word_at m.memory z)) z (m.regs 24)) p.address
    ∙ ap (λ z. with_word (with_word m.memory z (word_at m.memory (m.regs 14 + off))) (m.regs 14 + off) (m.regs 24)) l.address

pub store_does : (m : MachineState) (p words : ℕ) (owns : Bool) (locals k up slot : ℕ) → IsReady m p words (store_code owns locals k up slot) → 27 + locals + k < words
    → HasLocal m words owns up slot → Does m p (store_code owns locals k up slot) (assigned m owns locals k up slot)
store_does m p words owns locals k up slot r room h =
    let d = offset_of owns up slot in
    let base = base_of owns up in
    let c = base_word m owns up in
    let tail = store_tail base d locals k in
    let l = is_local m words owns up slot r.frame h in
    let there = placed (m.regs 14) words (pending_offset locals k) r.frame (omega arith) (omega arith) in
    let t = straight (reach up) (polled m) in
    let at = reached m words owns up slot h in
    let e = straight_on (reach up) tail (polled m) in
    node_does (store_code owns locals k up slot) m p words _ r
    (both_straight (reach up) tail (reach_straight up) refl)
    (both_spare (reach up) tail (reach_spare up) refl)
    (can_both (reach up) tail (polled m) at.0 (store_can m t base c d locals k (base_low owns up) at.1 l there))
    (ap (λ z. z.memory) e ∙ store_memory m t base c d locals k (base_low owns up) at.1 l there
    ∙ ap (λ z. with_word (with_word m.memory z (word_at m.memory (m.regs 14 + pending_offset locals k))) (m.regs 14 + pending_offset locals k) (m.regs 24)) (sym (address_is m owns up slot)))
    (ap (λ z. z.regs 2) e ∙ ap (λ z. (z + 1) % 2 ^ 32) at.1.count)
