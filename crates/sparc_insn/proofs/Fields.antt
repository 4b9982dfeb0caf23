-- Fields of an instruction by the sum that its word is.
use Rattle.std.proofs.Common.{◌≡◌, ◌≢◌, ℕ, ◌+◌, ◌*◌, ◌/◌, ◌%◌, ◌^◌, ◌<◌, ◌≤◌, ℤ, pos, negsuc, Bool, true, false, Option, Some, refl, sym, ap, ◌∙◌, arith}
use Rattle.std.specs.List.{find}
use Rattle.std.specs.Prelude.{◌==◌}
use Rattle.std.proofs.lemmas.Bool.Decides.{nat_tests}
use Rattle.sparc_insn.specs.Words.{op_of, op3_of, IsSigned, complement_bits, flag_bit, IsOperand, operand_bits}
use Rattle.sparc_insn.specs.Instructions.{operations, signed}
use Rattle.sparc_insn.specs.declared.insn.Op3.{Op3}
use Rattle.sparc_insn.specs.declared.insn.Op3.TheVariants as ops
use Rattle.sparc_insn.specs.declared.insn.Operand.{Operand}
use Rattle.sparc_insn.specs.declared.insn.Operand.TheVariants.{Reg, Imm}

-- a two's complement of so many bits is below their power, and stands for the number
pub complement30-small : (z : ℤ) → IsSigned 30 z → complement_bits 30 z < 2 ^ 30
complement30-small (pos n) h = omega arith
complement30-small (negsuc n) h = omega arith

pub complement22-small : (z : ℤ) → IsSigned 22 z → complement_bits 22 z < 2 ^ 22
complement22-small (pos n) h = omega arith
complement22-small (negsuc n) h = omega arith

pub complement13-small : (z : ℤ) → IsSigned 13 z → complement_bits 13 z < 2 ^ 13
complement13-small (pos n) h = omega arith
complement13-small (negsuc n) h = omega arith

pub signed30-complement : (z : ℤ) → IsSigned 30 z → signed 30 (complement_bits 30 z) ≡ z
signed30-complement (pos n) h = grind (arith, nat_tests)
signed30-complement (negsuc n) h = grind (arith, nat_tests)

pub signed22-complement : (z : ℤ) → IsSigned 22 z → signed 22 (complement_bits 22 z) ≡ z
signed22-complement (pos n) h = grind (arith, nat_tests)
signed22-complement (negsuc n) h = grind (arith, nat_tests)

pub signed13-complement : (z : ℤ) → IsSigned 13 z → signed 13 (complement_bits 13 z) ≡ z
signed13-complement (pos n) h = grind (arith, nat_tests)
signed13-complement (negsuc n) h = grind (arith, nat_tests)

-- an operand has fourteen bits
pub operand_bits-small : (o : Operand) → IsOperand o → operand_bits o < 2 ^ 14
operand_bits-small (Reg r) h = omega arith
operand_bits-small (Imm n) h = omega (arith, complement13-small n h)

pub flag_bit-small : (b : Bool) → flag_bit b < 2
flag_bit-small true = omega arith
flag_bit-small false = omega arith

-- the fields of an operation: none is that of Ticc
pub record IsOperation (op op3 : ℕ) : Type 0 where
  pub from : 2 ≤ op
  pub to : op < 4
  pub small : op3 < 64
  pub no_trap : op3 ≢ 0x3a

pub is_operation : (o : Op3) → IsOperation (op_of o) (op3_of o)
is_operation ops.Add = record { from = omega arith; to = omega arith; small = omega arith; no_trap = omega arith }
is_operation _ = record { from = omega arith; to = omega arith; small = omega arith; no_trap = omega arith }

-- the operation with these fields is one
abbrev pub at_fields : ℕ → ℕ → Option Op3
at_fields op op3 = find (λ o. op_of o * 64 + op3_of o == op * 64 + op3) operations

pub at_fields-is : (o : Op3) → at_fields (op_of o) (op3_of o) ≡ Some o
at_fields-is ops.Add = refl
at_fields-is _ = refl

pub same_operation : (o p : Op3) → op_of o ≡ op_of p → op3_of o ≡ op3_of p → o ≡ p
same_operation o p e f = cc (at_fields-is o, at_fields-is p)

-- equal bits are of equal values
pub same_signed30 : (y z : ℤ) → IsSigned 30 y → IsSigned 30 z → complement_bits 30 y ≡ complement_bits 30 z → y ≡ z
same_signed30 y z h k e = cc (signed30-complement y h, signed30-complement z k)

pub same_signed22 : (y z : ℤ) → IsSigned 22 y → IsSigned 22 z → complement_bits 22 y ≡ complement_bits 22 z → y ≡ z
same_signed22 y z h k e = sym (signed22-complement y h) ∙ ap (signed 22) e ∙ signed22-complement z k

pub same_signed13 : (y z : ℤ) → IsSigned 13 y → IsSigned 13 z → complement_bits 13 y ≡ complement_bits 13 z → y ≡ z
same_signed13 y z h k e = sym (signed13-complement y h) ∙ ap (signed 13) e ∙ signed13-complement z k

pub same_flag : (a b : Bool) → flag_bit a ≡ flag_bit b → a ≡ b
same_flag true true e = refl
same_flag true false e = absurd (omega arith)
same_flag false true e = absurd (omega arith)
same_flag false false e = refl

pub same_operand : (o p : Operand) → IsOperand o → IsOperand p → operand_bits o ≡ operand_bits p → o ≡ p
same_operand (Reg r) (Reg s) h k e = ap Reg (omega arith)
same_operand (Reg r) (Imm n) h k e = absurd (omega arith)
same_operand (Imm m) (Reg s) h k e = absurd (omega arith)
same_operand (Imm m) (Imm n) h k e = ap Imm (same_signed13 m n h k (omega arith))

-- a number that bits stand for fits them
pub signed30-fits : (n : ℕ) → n < 2 ^ 30 → IsSigned 30 (signed 30 n)
signed30-fits n h = grind (arith, nat_tests)

pub signed22-fits : (n : ℕ) → n < 2 ^ 22 → IsSigned 22 (signed 22 n)
signed22-fits n h = grind (arith, nat_tests)

pub signed13-fits : (n : ℕ) → n < 2 ^ 13 → IsSigned 13 (signed 13 n)
signed13-fits n h = grind (arith, nat_tests)

-- the fields of a word of an operation
pub rd-read : (op rd op3 rs1 low : ℕ) → rd < 32 → op3 < 64 → rs1 < 32 → low < 2 ^ 14 → (op * 2 ^ 30 + rd * 2 ^ 25 + op3 * 2 ^ 19 + rs1 * 2 ^ 14 + low) / 2 ^ 25 % 32 ≡ rd
rd-read op rd op3 rs1 low a b c d = omega arith

pub rs1-read : (op rd op3 rs1 low : ℕ) → rs1 < 32 → low < 2 ^ 14 → (op * 2 ^ 30 + rd * 2 ^ 25 + op3 * 2 ^ 19 + rs1 * 2 ^ 14 + low) / 2 ^ 14 % 32 ≡ rs1
rs1-read op rd op3 rs1 low c d = omega arith

pub flag-read : (b : Bool) (n : ℕ) → n ≡ flag_bit b → (n == 1) ≡ b
flag-read true n e = grind (arith, nat_tests)
flag-read false n e = grind (arith, nat_tests)
