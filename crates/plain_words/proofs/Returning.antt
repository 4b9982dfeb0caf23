-- An activation ends.
use Rattle.std.proofs.Common.{◌≡◌, ℕ, ◌+◌, ◌-◌, ◌*◌, ◌%◌, ◌^◌, ◌<◌, ◌≤◌, refl, ◌∙◌, ap, sym, subst, arith}
use Rattle.std.proofs.Common.{length-append}
use Rattle.std.specs.Prelude.{Bool, true, false, if◌then◌else◌, nat_eq, nat_lt, List, [], ◌∷◌, ◌++◌, length, pos}
use Rattle.std.proofs.lemmas.Grind.{common_steps}
use Rattle.sparc_insn.specs.declared.insn.Insn.{Insn}
use Rattle.sparc_insn.specs.declared.insn.Insn.TheVariants.{Three}
use Rattle.sparc_insn.specs.declared.insn.Operand.TheVariants.{Reg, Imm}
use Rattle.sparc_insn.specs.declared.insn.Op3.TheVariants as ops
use Rattle.sparc_store.specs.Words.{Words, word_at, with_word}
use Rattle.sparc_store.specs.Windows.{IsPlace, frame_before, but_first}
use Rattle.sparc_machine.specs.State.{MachineState, with_reg, gone_back, in_older_frame}
use Rattle.sparc_machine.specs.Alu.{add, sub}
use Rattle.sparc_machine.specs.Table.{effect}
use Rattle.plain_words.specs.Going.{Goes, At, Stands, StandsAt, IsCodeFrom}
use Rattle.frame_walk.specs.Places.{pending_offset}
use Rattle.plain_words.specs.Code.{poll, take, count, ended_context, return_code}
use Rattle.plain_words.specs.Moves.{IsReady, Ends, Returned, CanReturn, HasContext, unmarked}
use Rattle.plain_words.proofs.Basics.{goes_then, goes_on, goes_none, stepped, at_front, at_behind, other_register, unwrapped}
use Rattle.plain_words.proofs.Straight.{straight, zero_takes, all_straight, CanAll, goes_straight, code_stays}
use Rattle.plain_words.proofs.Placing.{placed}
use Rattle.plain_words.proofs.Polls.{polled, poll_goes}
use Rattle.plain_words.proofs.Reading.{context_word}

abbrev leaving : List Insn
leaving = Three ops.Jmpl 0 31 (Imm (pos 8)) ∷ Three ops.Restore 0 0 (Reg 0) ∷ []

-- the frame that is gone back to
older_regs : (older : List (ℕ → ℕ)) (x : MachineState) → (in_older_frame older x).regs ≡ gone_back x.regs (frame_before x.memory (x.regs 30) older)
older_regs [] x = refl
older_regs (f ∷ fs) x = refl

older_memory : (older : List (ℕ → ℕ)) (x : MachineState) → (in_older_frame older x).memory ≡ x.memory
older_memory [] x = refl
older_memory (f ∷ fs) x = refl

older_rest : (older : List (ℕ → ℕ)) (x : MachineState) → x.older ≡ older → (in_older_frame older x).older ≡ but_first older
older_rest [] x e = e
older_rest (f ∷ fs) x e = refl

older_pc : (older : List (ℕ → ℕ)) (x : MachineState) → (in_older_frame older x).npc ≡ x.npc
older_pc [] x = refl
older_pc (f ∷ fs) x = refl

apart_zero : (k : ℕ) → nat_eq (16 + k) 0 ≡ false
apart_zero k = grind (arith, common_steps)

not_below : (a b : ℕ) → b ≤ a → nat_lt a b ≡ false
not_below a b h = grind (arith, common_steps)

below : (a b : ℕ) → a < b → nat_lt a b ≡ true
below a b h = grind (arith, common_steps)

behind_outs : (a b c : Bool) (u v w z : ℕ) → a ≡ false → b ≡ false → c ≡ true → (if a then u else if b then v else if c then w else z) ≡ w
behind_outs a b c u v w z e f g = rw (e, f, g) refl

in_view : (regs : ℕ → ℕ) (f : ℕ → ℕ) (w k : ℕ) → k < 16 → with_reg (gone_back regs f) 0 w (16 + k) ≡ f k
in_view regs f w k h =
    other_register (gone_back regs f) 0 w (16 + k) (apart_zero k)
    ∙ behind_outs (nat_lt (16 + k) 8) (nat_lt (16 + k) 16) (nat_lt (16 + k) 32) _ _ (f (16 + k - 16)) 0 (not_below (16 + k) 8 (omega arith)) (not_below (16 + k) 16 (omega arith)) (below (16 + k) 32 (omega arith))
    ∙ ap f (omega arith)

-- the two last instructions
leaves : (t : MachineState) (p : ℕ) → StandsAt t p → IsCodeFrom p 2 → At t.memory p leaving → CanReturn t
    → Goes 2 t (effect (Three ops.Restore 0 0 (Reg 0)) (effect (Three ops.Jmpl 0 31 (Imm (pos 8))) t))
leaves t p s a at can =
    let x = effect (Three ops.Jmpl 0 31 (Imm (pos 8))) t in
    let s1 : Stands x.pc x.npc (p + 4) (add (t.regs 31) 8) = record { here = s.next; next = refl } in
    let b : IsCodeFrom (p + 4) 1 = record { aligned = omega (arith, a.aligned); from = omega (arith, a.from); to = omega (arith, a.to) } in
    goes_on 1 t x _ (stepped t p (p + 4) 1 (Three ops.Jmpl 0 31 (Imm (pos 8))) s a at.0 refl can.aligned)
    (goes_on 0 x _ _ (stepped x (p + 4) (add (t.regs 31) 8) 0 (Three ops.Restore 0 0 (Reg 0)) s1 b at.1.0 refl can.place)
    (goes_none _))

returned : (m t : MachineState) (memory : Words) (answer : ℕ) → CanReturn t → t.memory ≡ memory → t.regs 24 ≡ answer → t.regs 2 ≡ (m.regs 2 + 1) % 2 ^ 32 → t.regs 4 ≡ sub (m.regs 4) 1
    → t.regs 3 ≡ m.regs 3 → t.regs 6 ≡ m.regs 6 → t.regs 30 ≡ m.regs 30 → t.regs 31 ≡ m.regs 31 → t.older ≡ m.older → t.regs 0 ≡ m.regs 0
    → Returned m (effect (Three ops.Restore 0 0 (Reg 0)) (effect (Three ops.Jmpl 0 31 (Imm (pos 8))) t)) memory answer
returned m t memory answer can e e24 e2 e4 e3 e6 e30 e31 eo e0 =
    let x = effect (Three ops.Jmpl 0 31 (Imm (pos 8))) t in
    let w = add (x.regs 0) (x.regs 0) in
    let g = older_regs x.older x in
    let target = ap (λ z. add z 8) e31 in
    record {
      stands = record {
        here = older_pc x.older x ∙ target;
        next = ap (λ z. (z + 4) % 2 ^ 32) (older_pc x.older x) ∙ unwrapped (add (t.regs 31) 8 + 4) (omega (arith, can.within)) ∙ ap (λ z. z + 4) target;
      };
      memory_is = older_memory x.older x ∙ e;
      answer_is = ap (λ z. with_reg z 0 w 8) g ∙ e24;
      counted = ap (λ z. with_reg z 0 w 2) g ∙ e2;
      activations = ap (λ z. with_reg z 0 w 4) g ∙ e4;
      cost = ap (λ z. with_reg z 0 w 3) g ∙ e3;
      top = ap (λ z. with_reg z 0 w 6) g ∙ e6;
      register_0 = ap (λ z. with_reg z 0 w 0) g ∙ zero_takes t.regs t.pc 0 ∙ e0;
      frame = ap (λ z. with_reg z 0 w 14) g ∙ e30;
      view = λ k h. ap (λ z. with_reg z 0 w (16 + k)) g ∙ in_view x.regs (frame_before x.memory (x.regs 30) x.older) w k h
          ∙ ap (λ z. frame_before z (t.regs 30) t.older k) e ∙ ap (λ z. frame_before memory z t.older k) e30 ∙ ap (λ z. frame_before memory (m.regs 30) z k) eo;
      older = older_rest x.older x refl ∙ ap but_first eo;
    }

can_still : (m t : MachineState) → CanReturn m → t.regs 30 ≡ m.regs 30 → t.regs 31 ≡ m.regs 31 → t.older ≡ m.older → CanReturn t
can_still m t c e30 e31 eo = record {
  aligned = ap (λ z. add z 8 % 4) e31 ∙ c.aligned;
  within = omega (arith, ap (λ z. add z 8) e31, c.within);
  place = λ none. (let P : ℕ → Type 0 = IsPlace in subst P (sym e30) (c.place (sym eo ∙ none)));
}

-- register 0 takes no write
zero_stays : (m : MachineState) → (polled m).regs 0 ≡ m.regs 0
zero_stays m = refl

abbrev ending : Bool → ℕ → ℕ → List Insn
ending owns locals k = take 24 locals k ∷ count ∷ Three ops.Sub 4 4 (Imm (pos 1)) ∷ ended_context owns

-- behind the poll
ended : (m : MachineState) (p words : ℕ) (owns : Bool) (locals k : ℕ) → IsReady m p words (return_code owns locals k) → all_straight (ending owns locals k) ≡ true → CanAll (ending owns locals k) (polled m) → CanReturn (straight (ending owns locals k) (polled m))
    → Goes (5 + length (ending owns locals k) + 2) m (effect (Three ops.Restore 0 0 (Reg 0)) (effect (Three ops.Jmpl 0 31 (Imm (pos 8))) (straight (ending owns locals k) (polled m))))
ended m p words owns locals k r all can leave =
    let front = ending owns locals k in
    let c = r.code_region in
    let n : length (front ++ leaving) ≡ length front + 2 = length-append front leaving in
    let first = poll_goes m p r.stands (record { aligned = c.aligned; from = c.from; to = omega (arith, c.to) }) (at_front m.memory p poll (front ++ leaving) r.code_there) r.left in
    let behind = at_behind m.memory p poll (front ++ leaving) r.code_there in
    let here = at_front m.memory (p + 24) front leaving behind in
    let a : IsCodeFrom (p + 24) (length front) = record { aligned = omega (arith, c.aligned); from = omega (arith, c.from); to = omega (arith, c.to, n) } in
    let b : IsCodeFrom (p + 24 + 4 * length front) 2 = record { aligned = omega (arith, c.aligned); from = omega (arith, c.from); to = omega (arith, c.to, n) } in
    let g = goes_straight front (polled m) (p + 24) first.1 a here all can in
    let kept = code_stays front (polled m) (p + 24 + 4 * length front) leaving all can (omega (arith, b.to)) (at_behind m.memory (p + 24) front leaving behind) in
    goes_then (5 + length front) 2 m (straight front (polled m)) _
    (goes_then 5 (length front) m (polled m) (straight front (polled m)) first.0 g.0)
    (leaves (straight front (polled m)) (p + 24 + 4 * length front) g.1 b kept leave)

pub return_does : (m : MachineState) (p words : ℕ) (owns : Bool) (locals k : ℕ) → IsReady m p words (return_code owns locals k) → 27 + locals + k < words → HasContext m owns → CanReturn m
    → Ends m (unmarked m owns) (word_at m.memory (m.regs 14 + pending_offset locals k))
return_does m p words false locals k r room h can =
    let d = placed (m.regs 14) words (pending_offset locals k) r.frame (omega arith) (omega arith) in
    let t = straight (ending false locals k) (polled m) in
    let leave = can_still m t can refl refl refl in
    record {
      instructions = 5 + length (ending false locals k) + 2;
      few = omega arith;
      to = _;
      goes = ended m p words false locals k r refl (d.has, (tt, (tt, tt))) leave;
      returned = returned m t (unmarked m false) _ leave refl (ap (word_at m.memory) d.address) refl refl refl refl refl refl refl refl;
    }
return_does m p words true locals k r room h can =
    let d = placed (m.regs 14) words (pending_offset locals k) r.frame (omega arith) (omega arith) in
    let w = context_word (m.regs 17) 0 7 h refl (omega arith) in
    let t = straight (ending true locals k) (polled m) in
    let leave = can_still m t can refl refl refl in
    record {
      instructions = 5 + length (ending true locals k) + 2;
      few = omega arith;
      to = _;
      goes = ended m p words true locals k r refl (d.has, (tt, (tt, ((w.1, w.2), tt)))) leave;
      returned = returned m t (unmarked m true) _ leave (ap (λ z. with_word m.memory z (t.regs 0)) w.0 ∙ ap (with_word m.memory (m.regs 17 + 7)) (zero_stays m)) (ap (word_at m.memory) d.address) refl refl refl refl refl refl refl refl;
    }
