-- The table of words. Source: The SPARC Architecture Manual, Version 8, appendices B and F.
use Rattle.std.specs.Prelude.{◌≡◌, ℕ, ◌+◌, ◌-◌, ◌*◌, ◌^◌, ◌<◌, ◌≤◌, Bool, true, false, ℤ, pos, negsuc}
use Rattle.sparc_insn.specs.declared.insn.Op3.{Op3}
use Rattle.sparc_insn.specs.declared.insn.Op3.TheVariants as ops
use Rattle.sparc_insn.specs.declared.insn.Operand.{Operand}
use Rattle.sparc_insn.specs.declared.insn.Operand.TheVariants.{Reg, Imm}
use Rattle.sparc_insn.specs.declared.insn.Insn.{Insn}
use Rattle.sparc_insn.specs.declared.insn.Insn.TheVariants.{Call, Sethi, Branch, Three, Trap}

-- the field op, bits 31 and 30: 3 for memory, 2 for the other operations
abbrev pub op_of : Op3 → ℕ
op_of ops.Ld = 3
op_of ops.Ldub = 3
op_of ops.St = 3
op_of ops.Stb = 3
op_of _ = 2

-- the field op3, bits 24 to 19
abbrev pub op3_of : Op3 → ℕ
op3_of ops.Add = 0x00
op3_of ops.And = 0x01
op3_of ops.Or = 0x02
op3_of ops.Xor = 0x03
op3_of ops.Sub = 0x04
op3_of ops.Andn = 0x05
op3_of ops.Orn = 0x06
op3_of ops.Xnor = 0x07
op3_of ops.Smul = 0x0b
op3_of ops.Sdiv = 0x0f
op3_of ops.AddCc = 0x10
op3_of ops.AndCc = 0x11
op3_of ops.OrCc = 0x12
op3_of ops.XorCc = 0x13
op3_of ops.SubCc = 0x14
op3_of ops.TaddCc = 0x20
op3_of ops.TsubCc = 0x21
op3_of ops.Sll = 0x25
op3_of ops.Srl = 0x26
op3_of ops.Sra = 0x27
op3_of ops.Rdy = 0x28
op3_of ops.Wry = 0x30
op3_of ops.Jmpl = 0x38
op3_of ops.Save = 0x3c
op3_of ops.Restore = 0x3d
op3_of ops.Ld = 0x00
op3_of ops.Ldub = 0x01
op3_of ops.St = 0x04
op3_of ops.Stb = 0x05

-- the bit of a flag
abbrev pub flag_bit : Bool → ℕ
flag_bit true = 1
flag_bit false = 0

-- a number of so many bits with sign
abbrev pub IsSigned : ℕ → ℤ → Type 0
IsSigned bits (pos n) = n < 2 ^ (bits - 1)
IsSigned bits (negsuc n) = n < 2 ^ (bits - 1)

-- the two's complement of so many bits
abbrev pub complement_bits : ℕ → ℤ → ℕ
complement_bits bits (pos n) = n
complement_bits bits (negsuc n) = 2 ^ bits - (n + 1)

-- bits 13 to 0: a register, with zeros in 13 to 5; or 1 in bit 13 and a number of thirteen bits with sign
abbrev pub operand_bits : Operand → ℕ
operand_bits (Reg r) = r
operand_bits (Imm n) = 2 ^ 13 + complement_bits 13 n

-- the word of an instruction, as the sum of its fields
abbrev pub word_of : Insn → ℕ
word_of (Call disp) = 2 ^ 30 + complement_bits 30 disp
word_of (Sethi rd imm) = rd * 2 ^ 25 + 4 * 2 ^ 22 + imm
word_of (Branch annul cond disp) =
    flag_bit annul * 2 ^ 29 + cond * 2 ^ 25 + 2 * 2 ^ 22 + complement_bits 22 disp
word_of (Three op rd rs1 from) =
    op_of op * 2 ^ 30 + rd * 2 ^ 25 + op3_of op * 2 ^ 19 + rs1 * 2 ^ 14 + operand_bits from
word_of (Trap number) = 2 * 2 ^ 30 + 8 * 2 ^ 25 + 0x3a * 2 ^ 19 + 2 ^ 13 + number

-- a register's number, or a number of thirteen bits with sign
abbrev pub IsOperand : Operand → Type 0
IsOperand (Reg r) = r < 32
IsOperand (Imm n) = IsSigned 13 n

-- a shift's count: a register, or a number from 0 to 31
abbrev pub IsCount : Operand → Type 0
IsCount (Reg r) = r < 32
IsCount (Imm (pos n)) = n < 32
IsCount (Imm (negsuc n)) = ⊥

-- no operand: zeros in bits 13 to 0
abbrev pub IsNothing : Operand → Type 0
IsNothing (Reg r) = r ≡ 0
IsNothing (Imm n) = ⊥

-- what an operation asks besides of its rd, rs1 and second operand: a shift has a count, RDY reads Y
-- into rd and has nothing else, WRY writes Y and has no rd
abbrev pub IsAllowed : Op3 → ℕ → ℕ → Operand → Type 0
IsAllowed ops.Sll rd rs1 from = IsCount from
IsAllowed ops.Srl rd rs1 from = IsCount from
IsAllowed ops.Sra rd rs1 from = IsCount from
IsAllowed ops.Rdy rd rs1 from = (rs1 ≡ 0) × IsNothing from
IsAllowed ops.Wry rd rs1 from = rd ≡ 0
IsAllowed _ rd rs1 from = Unit {0}

-- the instruction is of the subset: each field fits its bits, and the operation allows it
abbrev pub IsInsn : Insn → Type 0
IsInsn (Call disp) = IsSigned 30 disp
IsInsn (Sethi rd imm) = (rd < 32) × (imm < 2 ^ 22)
IsInsn (Branch annul cond disp) = (cond < 16) × IsSigned 22 disp
IsInsn (Three op rd rs1 from) = (rd < 32) × (rs1 < 32) × IsOperand from × IsAllowed op rd rs1 from
IsInsn (Trap number) = (1 ≤ number) × (number ≤ 9)
