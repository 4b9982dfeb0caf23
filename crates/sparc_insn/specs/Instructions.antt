-- The instruction of a word.
use Rattle.std.specs.Prelude.{ℕ, ◌-◌, ◌/◌, ◌%◌, ◌^◌, ◌==◌, nat_lt, if◌then◌else◌, ℤ, pos, negsuc, Option, List, [], ◌∷◌, ◌++◌, map, find}
use Rattle.std.specs.List.{flat_map}
use Rattle.sparc_insn.specs.Words.{word_of}
use Rattle.sparc_insn.specs.declared.insn.Op3.{Op3}
use Rattle.sparc_insn.specs.declared.insn.Op3.TheVariants as ops
use Rattle.sparc_insn.specs.declared.insn.Operand.TheVariants.{Reg, Imm}
use Rattle.sparc_insn.specs.declared.insn.Insn.{Insn}
use Rattle.sparc_insn.specs.declared.insn.Insn.TheVariants.{Call, Sethi, Branch, Three, Trap}

-- all operations
abbrev pub operations : List Op3
operations = ops.Add ∷ ops.And ∷ ops.Or ∷ ops.Xor ∷ ops.Sub ∷ ops.Andn ∷ ops.Orn ∷ ops.Xnor
    ∷ ops.Smul ∷ ops.Sdiv ∷ ops.AddCc ∷ ops.AndCc ∷ ops.OrCc ∷ ops.XorCc ∷ ops.SubCc ∷ ops.TaddCc ∷ ops.TsubCc
    ∷ ops.Sll ∷ ops.Srl ∷ ops.Sra ∷ ops.Rdy ∷ ops.Wry ∷ ops.Jmpl ∷ ops.Save ∷ ops.Restore
    ∷ ops.Ld ∷ ops.Ldub ∷ ops.St ∷ ops.Stb ∷ []

-- the number whose two's complement of so many bits is n
abbrev pub signed : ℕ → ℕ → ℤ
signed bits n = if nat_lt n (2 ^ (bits - 1)) then pos n else negsuc (2 ^ bits - 1 - n)

-- the registers and the number in the fields of a word
abbrev pub rd_of : ℕ → ℕ
rd_of word = word / 2 ^ 25 % 32

abbrev pub rs1_of : ℕ → ℕ
rs1_of word = word / 2 ^ 14 % 32

abbrev pub rs2_of : ℕ → ℕ
rs2_of word = word % 32

abbrev pub simm13_of : ℕ → ℤ
simm13_of word = signed 13 (word % 2 ^ 13)

-- an operation with a register and with a number
abbrev pub with_either : Op3 → ℕ → ℕ → ℕ → ℤ → List Insn
with_either op rd rs1 rs2 n = Three op rd rs1 (Reg rs2) ∷ Three op rd rs1 (Imm n) ∷ []

-- an operation with the operands that the fields of a word can give it
abbrev pub with_operands : ℕ → Op3 → List Insn
with_operands word ops.Sll = with_either ops.Sll (rd_of word) (rs1_of word) (rs2_of word) (pos (word % 32))
with_operands word ops.Srl = with_either ops.Srl (rd_of word) (rs1_of word) (rs2_of word) (pos (word % 32))
with_operands word ops.Sra = with_either ops.Sra (rd_of word) (rs1_of word) (rs2_of word) (pos (word % 32))
with_operands word ops.Rdy = Three ops.Rdy (rd_of word) 0 (Reg 0) ∷ []
with_operands word ops.Wry = with_either ops.Wry 0 (rs1_of word) (rs2_of word) (simm13_of word)
with_operands word op = with_either op (rd_of word) (rs1_of word) (rs2_of word) (simm13_of word)

-- the instructions that the fields of a word can give: one of each format, each trap, each operation
abbrev pub readings : ℕ → List Insn
readings word =
    Call (signed 30 (word % 2 ^ 30))
    ∷ Sethi (rd_of word) (word % 2 ^ 22)
    ∷ Branch (word / 2 ^ 29 % 2 == 1) (word / 2 ^ 25 % 16) (signed 22 (word % 2 ^ 22))
    ∷ (map Trap (1 ∷ 2 ∷ 3 ∷ 4 ∷ 5 ∷ 6 ∷ 7 ∷ 8 ∷ 9 ∷ []) ++ flat_map (with_operands word) operations)

-- the instruction of a word: the reading that has this word, where there is one
unfoldable pub instruction : ℕ → Option Insn
instruction word = find (λ i. word_of i == word) (readings word)
