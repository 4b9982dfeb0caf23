-- A block is made at the heap's top.
use Rattle.std.proofs.Common.{◌≡◌, ℕ, suc, ◌+◌, ◌*◌, ◌/◌, ◌%◌, ◌^◌, ◌<◌, ◌≤◌, refl, ◌∙◌, ap, subst, arith, inl, inr}
use Rattle.std.specs.Prelude.{true, false, not, nat_eq, nat_lt, bit_or, List, [], ◌∷◌, ◌++◌, length, pos}
use Rattle.std.proofs.lemmas.Grind.{common_steps}
use Rattle.sparc_insn.specs.declared.insn.Insn.{Insn}
use Rattle.sparc_insn.specs.declared.insn.Insn.TheVariants.{Sethi, Branch, Three, Trap}
use Rattle.sparc_insn.specs.declared.insn.Operand.TheVariants.{Reg, Imm}
use Rattle.sparc_insn.specs.declared.insn.Op3.TheVariants as ops
use Rattle.sparc_store.specs.Words.{Words, with_word, HasWord}
use Rattle.sparc_machine.specs.State.{MachineState, with_reg}
use Rattle.sparc_machine.specs.Alu.{add, holds}
use Rattle.sparc_machine.specs.Table.{effect, transferred, went, words_on}
use Rattle.frame_walk.specs.Places.{pending_offset}
use Rattle.plain_words.specs.Going.{Goes, IsTrap, At, StandsAt, IsCodeFrom}
use Rattle.plain_words.specs.Code.{nop, load, store, refer, pend, set_word, made_code, block_code}
use Rattle.plain_words.specs.Moves.{is_scratch, IsReady, HasRoom, cost_left, with_words, block_made, Makes, IsFull}
use Rattle.plain_words.proofs.Basics.{goes_then, goes_on, goes_none, on, jumps, stepped, stepped_to, code_behind, at_trap, stands_as, other_register}
use Rattle.plain_words.proofs.Straight.{straight, goes_straight, straight_spares}
use Rattle.plain_words.proofs.Placing.{IsPlaced, placed, two_parts}
use Rattle.plain_words.proofs.Polls.{polled, poll_spares, branch_taken, branch_untaken}
use Rattle.plain_words.proofs.Sending.{Fronted, fronted}

-- a word of the heap, so many bytes from its top
pub heap_placed : (top words d : ℕ) → HasRoom top words → d % 4 ≡ 0 → d < 4 * words → IsPlaced top d
heap_placed top words d h whole low =
    let e : add top d ≡ top + d = omega (arith, h.from, h.to) in
    let there : HasWord (top + d) = (omega (arith, h.aligned, whole), inr (inl (omega (arith, h.from), omega (arith, h.to)))) in
    record { address = e; has = (let P : ℕ → Type 0 = HasWord in let f : top + d ≡ add top d = omega (arith, e) in subst P f there); outside = omega (arith, e, h.from) }

has_cost : HasWord 0x30000004
has_cost = (omega arith, inr (inr (inl (omega arith, omega arith))))

-- is there as much left of the cost?

abbrev tested : List Insn
tested = Sethi 1 0xC0000 ∷ load 1 1 4 ∷ Three ops.Add 5 3 (Imm (pos 4)) ∷ Three ops.SubCc 0 1 (Reg 5) ∷ []

abbrev behind_test : List Insn → List Insn
behind_test more = Branch false 13 (pos 3) ∷ nop ∷ Trap 8 ∷ more

begins : (m : MachineState) (p words locals k map body : ℕ) → IsReady m p words (block_code locals k map body) → Fronted tested (behind_test (made_code locals k map body)) m p
begins m p words locals k map body r = fronted tested (behind_test (made_code locals k map body)) m p words r refl (tt, (has_cost, (tt, (tt, tt))))

not_less : (a b : ℕ) → b ≤ a → not (nat_lt a b) ≡ true
not_less a b h = grind (arith, common_steps)

less : (a b : ℕ) → a < b → not (nat_lt a b) ≡ false
less a b h = grind (arith, common_steps)

fits : (m : MachineState) → add (m.regs 3) 4 ≤ cost_left m → holds 13 (straight tested (polled m)).icc ≡ true
fits m h = not_less (cost_left m) (add (m.regs 3) 4) h

fits_not : (m : MachineState) → cost_left m < add (m.regs 3) 4 → holds 13 (straight tested (polled m)).icc ≡ false
fits_not m h = less (cost_left m) (add (m.regs 3) 4) h

-- there isn't

abbrev refused : MachineState → MachineState
refused v = effect nop (went v)

refuses : (v : MachineState) (q : ℕ) (more : List Insn) → StandsAt v q → IsCodeFrom q (length (behind_test more)) → At v.memory q (behind_test more) → holds 13 v.icc ≡ false
    → Goes 2 v (refused v) × IsTrap 8 (refused v) × StandsAt (refused v) (q + 8)
refuses v q more s0 a0 at flag =
    let words = suc (length more) in
    let s1 = on v.pc v.npc q (q + 4) s0 (omega (arith, a0.to)) in
    let s2 = on _ _ (q + 4) (q + 4 + 4) s1 (omega (arith, a0.to)) in
    let a1 = code_behind q (suc words) a0 in
    let a2 = code_behind (q + 4) words a1 in
    let m1 = went v in (
      goes_on 1 v m1 _ (stepped_to v m1 q (q + 4) (suc words) (Branch false 13 (pos 3)) s0 a0 at.0 refl tt (branch_untaken v 13 3 flag))
          (goes_on 0 m1 _ _ (stepped m1 (q + 4) (q + 4 + 4) words nop s1 a1 at.1.0 refl tt)
          (goes_none _)),
      at_trap (refused v) (q + 4 + 4) (q + 4 + 4 + 4) (length more) 8 (Trap 8) s2 a2 at.1.1.0 refl tt,
      stands_as _ _ _ _ (q + 8) (q + 8 + 4) s2 (omega arith) (omega arith),
    )

pub block_full : (m : MachineState) (p words locals k map body : ℕ) → IsReady m p words (block_code locals k map body) → cost_left m < add (m.regs 3) 4 → IsFull m (p + 48)
block_full m p words locals k map body r none =
    let f = begins m p words locals k map body r in
    let v = straight tested (polled m) in
    let g = refuses v (p + 24 + 16) (made_code locals k map body) f.stands f.code_region f.code_there (fits_not m none) in
    record {
      instructions = 9 + 2;
      few = omega arith;
      to = refused v;
      goes = goes_then 9 2 m v (refused v) f.goes g.0;
      trap = g.1;
      moved = record {
        stands = stands_as _ _ _ _ (p + 48) (p + 48 + 4) g.2 (omega arith) (omega arith);
        memory_is = refl;
        counted = refl;
        kept = λ j h. straight_spares (nop ∷ []) v j refl refl h ∙ straight_spares tested (polled m) j refl refl h ∙ poll_spares m j h;
        older = refl;
      };
    }

-- there is

abbrev passed : MachineState → MachineState
passed v = effect nop (transferred (words_on v.pc (pos 3)) v)

passes : (v : MachineState) (q : ℕ) (more : List Insn) → StandsAt v q → IsCodeFrom q (length (behind_test more)) → At v.memory q (behind_test more) → holds 13 v.icc ≡ true
    → Goes 2 v (passed v) × StandsAt (passed v) (q + 12)
passes v q more s0 a0 at flag =
    let words = suc (length more) in
    let s1 = jumps v.pc v.npc q (q + 4) 3 s0 (omega (arith, a0.to)) in
    let s2 = on _ _ (q + 4) (q + 4 * 3) s1 (omega (arith, a0.to)) in
    let a1 = code_behind q (suc words) a0 in
    let m1 = transferred (words_on v.pc (pos 3)) v in (
      goes_on 1 v m1 _ (stepped_to v m1 q (q + 4) (suc words) (Branch false 13 (pos 3)) s0 a0 at.0 refl tt (branch_taken v 13 3 flag))
          (goes_on 0 m1 _ _ (stepped m1 (q + 4) (q + 4 * 3) words nop s1 a1 at.1.0 refl tt)
          (goes_none _)),
      stands_as _ _ _ _ (q + 12) (q + 12 + 4) s2 (omega arith) (omega arith),
    )

pub four_put : (memory : Words) (top a b c d p0 p4 p8 p12 : ℕ) → p0 ≡ top → p4 ≡ top + 4 → p8 ≡ top + 4 + 4 → p12 ≡ top + 4 + 4 + 4
    → with_word (with_word (with_word (with_word memory p0 a) p4 b) p8 c) p12 d ≡ with_words memory top (a ∷ b ∷ c ∷ d ∷ [])
four_put memory top a b c d p0 p4 p8 p12 e0 e4 e8 e12 = rw (e0, e4, e8, e12) refl

abbrev put_front : ℕ → ℕ → ℕ → ℕ → List Insn
put_front locals k map body = set_word 1 map ++ (store 1 6 0 ∷ set_word 1 body ++ (store 1 6 4 ∷ store 17 6 8 ∷ store 24 6 12 ∷ refer 1 ∷ pend 1 locals k ∷ []))

apart_two : (r : ℕ) → is_scratch r ≡ false → nat_eq r 2 ≡ false
apart_two r h = grind (arith, common_steps)

-- the words of a block, which are put together of two parts each
abbrev pub joined : ℕ → ℕ
joined w = bit_or (w / 1024 * 2 ^ 10) (w % 1024)

memory_made : (m : MachineState) (words locals k map body : ℕ) → HasRoom (m.regs 6) 4 → IsPlaced (m.regs 14) (pending_offset locals k)
    → with_word (with_word (with_word (with_word (with_word m.memory (add (m.regs 6) 0) (joined map)) (add (m.regs 6) 4) (joined body)) (add (m.regs 6) 8) (m.regs 17)) (add (m.regs 6) 12) (m.regs 24)) (add (m.regs 14) (pending_offset locals k)) (add (m.regs 6) 1)
    ≡ block_made m locals k map body
memory_made m words locals k map body h d =
    let top = m.regs 6 in
    let off = m.regs 14 + pending_offset locals k in
    let p0 = heap_placed top 4 0 h refl (omega arith) in
    let p4 = heap_placed top 4 4 h refl (omega arith) in
    let p8 = heap_placed top 4 8 h refl (omega arith) in
    let p12 = heap_placed top 4 12 h refl (omega arith) in
    let one : add top 1 ≡ top + 1 = omega (arith, h.from, h.to) in
    let four = four_put m.memory top (joined map) (joined body) (m.regs 17) (m.regs 24) (add top 0) (add top 4) (add top 8) (add top 12) (omega (arith, p0.address)) p4.address (omega (arith, p8.address)) (omega (arith, p12.address)) in
    ap (λ z. with_word z (add (m.regs 14) (pending_offset locals k)) (add top 1)) four
    ∙ ap (λ z. with_word (with_words m.memory top (joined map ∷ joined body ∷ m.regs 17 ∷ m.regs 24 ∷ [])) z (add top 1)) d.address
    ∙ ap (λ z. with_word (with_words m.memory top (joined map ∷ joined body ∷ m.regs 17 ∷ m.regs 24 ∷ [])) off z) one
    ∙ ap (λ z. with_word (with_words m.memory top (z ∷ joined body ∷ m.regs 17 ∷ m.regs 24 ∷ [])) off (top + 1)) (two_parts map)
    ∙ ap (λ z. with_word (with_words m.memory top (map ∷ z ∷ m.regs 17 ∷ m.regs 24 ∷ [])) off (top + 1)) (two_parts body)

pub block_makes : (m : MachineState) (p words locals k map body : ℕ) → IsReady m p words (block_code locals k map body) → 27 + locals + k < words → HasRoom (m.regs 6) 4 → add (m.regs 3) 4 ≤ cost_left m
    → Makes m p 4 (block_code locals k map body) (block_made m locals k map body)
block_makes m p words locals k map body r room h some =
    let f = begins m p words locals k map body r in
    let v = straight tested (polled m) in
    let w = passed v in
    let code = made_code locals k map body in
    let g = passes v (p + 24 + 16) code f.stands f.code_region f.code_there (fits m some) in
    let c = f.code_region in
    let d = placed (m.regs 14) words (pending_offset locals k) r.frame (omega arith) (omega arith) in
    let p0 = heap_placed (m.regs 6) 4 0 h refl (omega arith) in
    let p4 = heap_placed (m.regs 6) 4 4 h refl (omega arith) in
    let p8 = heap_placed (m.regs 6) 4 8 h refl (omega arith) in
    let p12 = heap_placed (m.regs 6) 4 12 h refl (omega arith) in
    let here = (let P : ℕ → Type 0 = λ z. At w.memory z code in let e : p + 24 + 16 + 4 + 4 + 4 ≡ p + 24 + 16 + 12 = omega arith in subst P e f.code_there.1.1.1) in
    let a : IsCodeFrom (p + 24 + 16 + 12) (length code) = record { aligned = omega (arith, c.aligned); from = omega (arith, c.from); to = omega (arith, c.to) } in
    let s = goes_straight code w (p + 24 + 16 + 12) g.1 a here refl
    (tt, (tt, ((p0.has, p0.outside), (tt, (tt, ((p4.has, p4.outside), ((p8.has, p8.outside), ((p12.has, p12.outside), (tt, ((d.has, d.outside), (tt, (tt, (tt, tt))))))))))))) in
    let to = straight code w in
    let x = straight (put_front locals k map body) w in
    let top : add (m.regs 6) 16 ≡ m.regs 6 + 16 = omega (arith, h.from, h.to) in
    record {
      instructions = 9 + 2 + length code;
      few = omega arith;
      to = to;
      goes = goes_then (9 + 2) (length code) m w to (goes_then 9 2 m v w f.goes g.0) s.0;
      made = record {
        stands = stands_as _ _ _ _ (p + 104) (p + 104 + 4) s.1 (omega arith) (omega arith);
        memory_is = memory_made m words locals k map body h d;
        counted = refl;
        cost = refl;
        top = top;
        kept = λ j y n3 n6. other_register (with_reg (with_reg x.regs 6 _) 3 _) 2 _ j (apart_two j y) ∙ other_register (with_reg x.regs 6 _) 3 _ j n3 ∙ other_register x.regs 6 _ j n6
            ∙ straight_spares (nop ∷ put_front locals k map body) v j refl refl y ∙ straight_spares tested (polled m) j refl refl y ∙ poll_spares m j y;
        older = refl;
      };
    }
