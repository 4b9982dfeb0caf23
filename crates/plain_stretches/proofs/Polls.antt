-- A poll leads to its own trap, or to one behind it.
use Rattle.std.proofs.Common.{◌≡◌, ℕ, suc, ◌+◌, ◌≤◌, refl, arith}
use Rattle.std.specs.Prelude.{false, nat_lt, [], ◌∷◌, length, pos}
use Rattle.sparc_insn.specs.declared.insn.Insn.TheVariants.{Sethi, Branch, Three, Trap}
use Rattle.sparc_insn.specs.declared.insn.Operand.TheVariants.{Reg}
use Rattle.sparc_insn.specs.declared.insn.Op3.TheVariants as ops
use Rattle.sparc_store.specs.Words.{word_at}
use Rattle.sparc_machine.specs.Table.{effect, went}
use Rattle.plain_words.specs.Going.{IsCodeFrom}
use Rattle.plain_words.specs.Code.{poll, nop, load}
use Rattle.plain_words.proofs.Basics.{goes_none, goes_on, on, stepped, stepped_to, at_trap, code_behind, at_front, at_behind, stands_as}
use Rattle.plain_words.proofs.Straight.{straight_spares}
use Rattle.plain_words.proofs.Polls.{compared, stopped, polled, has_control, branch_untaken, poll_goes, poll_spares}
use Rattle.plain_stretches.specs.Polls.{PollsStop, PollsPass}

not_less : (a b : ℕ) → b ≤ a → nat_lt a b ≡ false
not_less a b h = grind arith

pub polls_stop : PollsStop
polls_stop m p s0 a0 at none =
    let s1 = on m.pc m.npc p (p + 4) s0 (omega (arith, a0.to)) in
    let s2 = on _ _ (p + 4) (p + 4 + 4) s1 (omega (arith, a0.to)) in
    let s3 = on _ _ (p + 4 + 4) (p + 4 + 4 + 4) s2 (omega (arith, a0.to)) in
    let s4 = on _ _ (p + 4 + 4 + 4) (p + 4 + 4 + 4 + 4) s3 (omega (arith, a0.to)) in
    let s5 = on _ _ (p + 4 + 4 + 4 + 4) (p + 4 + 4 + 4 + 4 + 4) s4 (omega (arith, a0.to)) in
    let a1 = code_behind p 5 a0 in
    let a2 = code_behind (p + 4) 4 a1 in
    let a3 = code_behind (p + 4 + 4) 3 a2 in
    let a4 = code_behind (p + 4 + 4 + 4) 2 a3 in
    let a5 = code_behind (p + 4 + 4 + 4 + 4) 1 a4 in
    let m1 = effect (Sethi 1 0xC0000) m in
    let m2 = effect (load 1 1 0) m1 in
    let m3 = compared m in
    let m4 = went m3 in
    let to = stopped m in
    record {
      instructions = 5;
      few = omega arith;
      to = to;
      goes =
          goes_on 4 m m1 to (stepped m p (p + 4) 5 (Sethi 1 0xC0000) s0 a0 at.0 refl tt)
          (goes_on 3 m1 m2 to (stepped m1 (p + 4) (p + 4 + 4) 4 (load 1 1 0) s1 a1 at.1.0 refl has_control)
          (goes_on 2 m2 m3 to (stepped m2 (p + 4 + 4) (p + 4 + 4 + 4) 3 (Three ops.SubCc 0 2 (Reg 1)) s2 a2 at.1.1.0 refl tt)
          (goes_on 1 m3 m4 to (stepped_to m3 m4 (p + 4 + 4 + 4) (p + 4 + 4 + 4 + 4) 2 (Branch false 5 (pos 3)) s3 a3 at.1.1.1.0 refl tt (branch_untaken m3 5 3 (not_less (m.regs 2) (word_at m.memory 0x30000000) none)))
          (goes_on 0 m4 to to (stepped m4 (p + 4 + 4 + 4 + 4) (p + 4 + 4 + 4 + 4 + 4) 1 nop s4 a4 at.1.1.1.1.0 refl tt)
          (goes_none to)))));
      trap = at_trap to (p + 4 + 4 + 4 + 4 + 4) (p + 4 + 4 + 4 + 4 + 4 + 4) 0 2 (Trap 2) s5 a5 at.1.1.1.1.1.0 refl tt;
      moved = record {
        stands = stands_as _ _ _ _ (p + 20) (p + 20 + 4) s5 (omega arith) (omega arith);
        memory_is = refl;
        counted = refl;
        kept = λ r h. straight_spares (Sethi 1 0xC0000 ∷ load 1 1 0 ∷ Three ops.SubCc 0 2 (Reg 1) ∷ nop ∷ []) m r refl refl h;
        older = refl;
      };
    }

pub polls_pass : PollsPass
polls_pass m p t rest s c at left =
    let front = poll_goes m p s (record { aligned = c.aligned; from = c.from; to = omega (arith, c.to) }) (at_front m.memory p poll (Trap t ∷ rest) at) left in
    let behind = at_behind m.memory p poll (Trap t ∷ rest) at in
    let a : IsCodeFrom (p + 24) (suc (length rest)) = record { aligned = omega (arith, c.aligned); from = omega (arith, c.from); to = omega (arith, c.to) } in
    record {
      instructions = 5;
      few = omega arith;
      to = polled m;
      goes = front.0;
      trap = at_trap (polled m) (p + 24) (p + 24 + 4) (length rest) t (Trap t) front.1 a behind.0 refl tt;
      moved = record { stands = front.1; memory_is = refl; counted = refl; kept = poll_spares m; older = refl };
    }
