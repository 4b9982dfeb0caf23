-- No two instructions have one word.
use Rattle.std.proofs.Common.{◌≡◌, ◌≢◌, ℕ, ◌<◌, sym, ap, subst, arith}
use Rattle.sparc_insn.specs.Words.{IsOperand, IsAllowed, IsInsn, word_of}
use Rattle.sparc_insn.specs.declared.insn.Op3.{Op3}
use Rattle.sparc_insn.specs.declared.insn.Operand.{Operand}
use Rattle.sparc_insn.specs.declared.insn.Insn.{Insn}
use Rattle.sparc_insn.specs.declared.insn.Insn.TheVariants.{Call, Sethi, Branch, Three, Trap}
use Rattle.sparc_insn.proofs.Fields.{complement30-small, complement22-small, operand_bits-small, flag_bit-small, is_operation, same_operation, same_signed30, same_signed22, same_operand, same_flag}

-- no other instruction has the word of an operation with fields in range, whether or not the
-- operation allows them
pub same_three : (i : Insn) (op : Op3) (rd rs1 : ℕ) (o : Operand) → IsInsn i → rd < 32 → rs1 < 32 → IsOperand o → word_of i ≡ word_of (Three op rd rs1 o) → i ≡ Three op rd rs1 o
same_three (Call d) op rd rs1 o h k l m e =
    let s = complement30-small d h in let p = is_operation op in absurd (omega arith)
same_three (Sethi rd' imm) op rd rs1 o h k l m e =
    let p = is_operation op in absurd (omega arith)
same_three (Branch a c b) op rd rs1 o h k l m e =
    let p = is_operation op in
    absurd (omega (arith, complement22-small b h.1, flag_bit-small a))
same_three (Three op' rd' rs1' o') op rd rs1 o h k l m e =
    let p = is_operation op in
    let p' = is_operation op' in
    let s = operand_bits-small o m in
    let s' = operand_bits-small o' h.2 in
    let same_op : op' ≡ op = same_operation op' op (omega arith) (omega arith) in
    let same_rd : rd' ≡ rd = omega arith in
    let same_rs1 : rs1' ≡ rs1 = omega arith in
    let same_o : o' ≡ o = same_operand o' o h.2 m (omega arith) in
    cc
same_three (Trap n) op rd rs1 o h k l m e =
    let p = is_operation op in
    let s = operand_bits-small o m in
    absurd (omega (arith, p.no_trap))

pub one_word : (i j : Insn) → IsInsn i → IsInsn j → word_of i ≡ word_of j → i ≡ j
one_word (Call d) (Call d') h h' e =
    ap Call (same_signed30 d d' h h' (omega arith))
one_word (Call d) (Sethi rd imm) h h' e =
    absurd (omega (arith, complement30-small d h))
one_word (Call d) (Branch a c b) h h' e =
    absurd (omega (arith, complement30-small d h, complement22-small b h'.1, flag_bit-small a))
one_word (Call d) (Three op rd rs1 o) h h' e =
    same_three (Call d) op rd rs1 o h h'.0 h'.1 h'.2 e
one_word (Call d) (Trap n) h h' e =
    absurd (omega (arith, complement30-small d h))
one_word (Sethi rd imm) (Call d) h h' e =
    absurd (omega (arith, complement30-small d h'))
one_word (Sethi rd imm) (Sethi rd' imm') h h' e =
    let r : rd ≡ rd' = omega arith in let i : imm ≡ imm' = omega arith in cc
one_word (Sethi rd imm) (Branch a c b) h h' e =
    absurd (omega (arith, complement22-small b h'.1, flag_bit-small a))
one_word (Sethi rd imm) (Three op rd' rs1 o) h h' e =
    same_three (Sethi rd imm) op rd' rs1 o h h'.0 h'.1 h'.2 e
one_word (Sethi rd imm) (Trap n) h h' e = absurd (omega arith)
one_word (Branch a c b) (Call d) h h' e =
    absurd (omega (arith, complement30-small d h', complement22-small b h.1, flag_bit-small a))
one_word (Branch a c b) (Sethi rd imm) h h' e =
    absurd (omega (arith, complement22-small b h.1, flag_bit-small a))
one_word (Branch a c b) (Branch a' c' b') h h' e =
    let s = complement22-small b h.1 in
    let s' = complement22-small b' h'.1 in
    let f = flag_bit-small a in
    let f' = flag_bit-small a' in
    let same_a : a ≡ a' = same_flag a a' (omega arith) in
    let same_c : c ≡ c' = omega arith in
    let same_b : b ≡ b' = same_signed22 b b' h.1 h'.1 (omega arith) in
    cc
one_word (Branch a c b) (Three op rd rs1 o) h h' e =
    same_three (Branch a c b) op rd rs1 o h h'.0 h'.1 h'.2 e
one_word (Branch a c b) (Trap n) h h' e =
    absurd (omega (arith, complement22-small b h.1, flag_bit-small a))
one_word (Three op rd rs1 o) (Call d) h h' e =
    sym (same_three (Call d) op rd rs1 o h' h.0 h.1 h.2 (sym e))
one_word (Three op rd rs1 o) (Sethi rd' imm) h h' e =
    sym (same_three (Sethi rd' imm) op rd rs1 o h' h.0 h.1 h.2 (sym e))
one_word (Three op rd rs1 o) (Branch a c b) h h' e =
    sym (same_three (Branch a c b) op rd rs1 o h' h.0 h.1 h.2 (sym e))
one_word (Three op rd rs1 o) (Three op' rd' rs1' o') h h' e =
    same_three (Three op rd rs1 o) op' rd' rs1' o' h h'.0 h'.1 h'.2 e
one_word (Three op rd rs1 o) (Trap n) h h' e =
    sym (same_three (Trap n) op rd rs1 o h' h.0 h.1 h.2 (sym e))
one_word (Trap n) (Call d) h h' e =
    absurd (omega (arith, complement30-small d h'))
one_word (Trap n) (Sethi rd imm) h h' e = absurd (omega arith)
one_word (Trap n) (Branch a c b) h h' e =
    absurd (omega (arith, complement22-small b h'.1, flag_bit-small a))
one_word (Trap n) (Three op rd rs1 o) h h' e =
    same_three (Trap n) op rd rs1 o h h'.0 h'.1 h'.2 e
one_word (Trap n) (Trap n') h h' e = ap Trap (omega arith)

-- no instruction has the word of fields that the operation doesn't allow
pub none_allowed : (op : Op3) (rd rs1 : ℕ) (o : Operand) → rd < 32 → rs1 < 32 → IsOperand o → (IsAllowed op rd rs1 o → ⊥) → (i : Insn) → IsInsn i → word_of i ≢ word_of (Three op rd rs1 o)
none_allowed op rd rs1 o k l m n i h e =
    let same = same_three i op rd rs1 o h k l m e in
    n (subst IsInsn same h).3
