-- The poll before a node, and straight code behind it.
use Rattle.std.proofs.Common.{◌≡◌, ℕ, ◌+◌, ◌*◌, ◌%◌, ◌^◌, ◌<◌, refl, ◌∙◌, ap, sym, arith, inl, inr}
use Rattle.std.specs.Prelude.{true, false, nat_lt, List, [], ◌∷◌, ◌++◌, length, pos}
use Rattle.sparc_insn.specs.declared.insn.Insn.{Insn}
use Rattle.sparc_insn.specs.declared.insn.Insn.TheVariants.{Sethi, Branch, Three}
use Rattle.sparc_insn.specs.declared.insn.Operand.TheVariants.{Reg}
use Rattle.sparc_insn.specs.declared.insn.Op3.TheVariants as ops
use Rattle.sparc_store.specs.Words.{Words, word_at, HasWord}
use Rattle.sparc_machine.specs.State.{MachineState}
use Rattle.sparc_machine.specs.Alu.{holds}
use Rattle.sparc_machine.specs.Table.{effect, transferred, went, words_on, branched}
use Rattle.plain_words.specs.Going.{Goes, At, StandsAt, IsCodeFrom}
use Rattle.plain_words.specs.Code.{poll, nop, load}
use Rattle.plain_words.specs.Moves.{is_scratch, IsReady, Does}
use Rattle.plain_words.proofs.Basics.{goes_none, goes_on, goes_then, on, jumps, stepped, stepped_to, code_behind, at_front, at_behind, stands_as}
use Rattle.plain_words.proofs.Straight.{straight, all_straight, all_spare, CanAll, goes_straight, straight_spares, straight_older}

pub has_control : HasWord 0x30000000
has_control = (omega arith, inr (inr (inl (omega arith, omega arith))))

-- the machine in the poll before its branch, and behind it
abbrev pub compared : MachineState → MachineState
compared m = effect (Three ops.SubCc 0 2 (Reg 1)) (effect (load 1 1 0) (effect (Sethi 1 0xC0000) m))

abbrev pub polled : MachineState → MachineState
polled m = effect nop (transferred (words_on (compared m).pc (pos 3)) (compared m))

abbrev pub stopped : MachineState → MachineState
stopped m = effect nop (went (compared m))

pub branch_taken : (m : MachineState) (c n : ℕ) → holds c m.icc ≡ true → transferred (words_on m.pc (pos n)) m ≡ effect (Branch false c (pos n)) m
branch_taken m c n h = ap (λ b. branched false c (words_on m.pc (pos n)) b m) (sym h)

pub branch_untaken : (m : MachineState) (c n : ℕ) → holds c m.icc ≡ false → went m ≡ effect (Branch false c (pos n)) m
branch_untaken m c n h = ap (λ b. branched false c (words_on m.pc (pos n)) b m) (sym h)

less : (a b : ℕ) → a < b → nat_lt a b ≡ true
less a b h = grind arith

pub poll_spares : (m : MachineState) (r : ℕ) → is_scratch r ≡ false → (polled m).regs r ≡ m.regs r
poll_spares m r h = straight_spares (Sethi 1 0xC0000 ∷ load 1 1 0 ∷ Three ops.SubCc 0 2 (Reg 1) ∷ nop ∷ []) m r refl refl h

-- on to the node
pub poll_goes : (m : MachineState) (p : ℕ) → StandsAt m p → IsCodeFrom p 6 → At m.memory p poll → m.regs 2 < word_at m.memory 0x30000000 → Goes 5 m (polled m) × StandsAt (polled m) (p + 24)
poll_goes m p s0 a0 at left =
    let s1 = on m.pc m.npc p (p + 4) s0 (omega (arith, a0.to)) in
    let s2 = on _ _ (p + 4) (p + 4 + 4) s1 (omega (arith, a0.to)) in
    let s3 = on _ _ (p + 4 + 4) (p + 4 + 4 + 4) s2 (omega (arith, a0.to)) in
    let s4 = jumps _ _ (p + 4 + 4 + 4) (p + 4 + 4 + 4 + 4) 3 s3 (omega (arith, a0.to)) in
    let s5 = on _ _ (p + 4 + 4 + 4 + 4) (p + 4 + 4 + 4 + 4 * 3) s4 (omega (arith, a0.to)) in
    let a1 = code_behind p 5 a0 in
    let a2 = code_behind (p + 4) 4 a1 in
    let a3 = code_behind (p + 4 + 4) 3 a2 in
    let a4 = code_behind (p + 4 + 4 + 4) 2 a3 in
    let m1 = effect (Sethi 1 0xC0000) m in
    let m2 = effect (load 1 1 0) m1 in
    let m3 = compared m in
    let m4 = transferred (words_on m3.pc (pos 3)) m3 in (
      goes_on 4 m m1 _ (stepped m p (p + 4) 5 (Sethi 1 0xC0000) s0 a0 at.0 refl tt)
          (goes_on 3 m1 m2 _ (stepped m1 (p + 4) (p + 4 + 4) 4 (load 1 1 0) s1 a1 at.1.0 refl has_control)
          (goes_on 2 m2 m3 _ (stepped m2 (p + 4 + 4) (p + 4 + 4 + 4) 3 (Three ops.SubCc 0 2 (Reg 1)) s2 a2 at.1.1.0 refl tt)
          (goes_on 1 m3 m4 _ (stepped_to m3 m4 (p + 4 + 4 + 4) (p + 4 + 4 + 4 + 4) 2 (Branch false 5 (pos 3)) s3 a3 at.1.1.1.0 refl tt (branch_taken m3 5 3 (less (m.regs 2) (word_at m.memory 0x30000000) left)))
          (goes_on 0 m4 (polled m) _ (stepped m4 (p + 4 + 4 + 4 + 4) (p + 4 + 4 + 4 + 4 * 3) 1 nop s4 a4 at.1.1.1.1.0 refl tt)
          (goes_none (polled m)))))),
      stands_as _ _ _ _ (p + 24) (p + 24 + 4) s5 (omega arith) (omega arith),
    )

-- and then straight code
pub node_goes : (is : List Insn) (m : MachineState) (p words : ℕ) → IsReady m p words is → all_straight is ≡ true → CanAll is (polled m)
    → Goes (5 + length is) m (straight is (polled m)) × StandsAt (straight is (polled m)) (p + 4 * length (poll ++ is))
node_goes is m p words r all can =
    let c = r.code_region in
    let front = poll_goes m p r.stands (record { aligned = c.aligned; from = c.from; to = omega (arith, c.to) }) (at_front m.memory p poll is r.code_there) r.left in
    let behind = at_behind m.memory p poll is r.code_there in
    let rest = goes_straight is (polled m) (p + 24) front.1 (record { aligned = omega (arith, c.aligned); from = omega (arith, c.from); to = omega (arith, c.to) }) behind all can in (
      goes_then 5 (length is) m (polled m) (straight is (polled m)) front.0 rest.0,
      stands_as _ _ _ _ (p + 4 * length (poll ++ is)) (p + 4 * length (poll ++ is) + 4) rest.1 (omega arith) (omega arith),
    )

-- a node whose code is straight, and spares what isn't scratch
pub node_does : (is : List Insn) (m : MachineState) (p words : ℕ) (memory : Words) → IsReady m p words is → all_straight is ≡ true → all_spare is ≡ true → CanAll is (polled m)
    → (straight is (polled m)).memory ≡ memory → (straight is (polled m)).regs 2 ≡ (m.regs 2 + 1) % 2 ^ 32 → Does m p is memory
node_does is m p words memory r all spare can e counted =
    let g = node_goes is m p words r all can in
    record {
      instructions = 5 + length is;
      few = omega arith;
      to = straight is (polled m);
      goes = g.0;
      moved = record {
        stands = g.1;
        memory_is = e;
        counted = counted;
        kept = λ k h. straight_spares is (polled m) k all spare h ∙ poll_spares m k h;
        older = straight_older is (polled m) all;
      };
    }
