use Rattle.std.proofs.Common.{◌≡◌, ℕ, Some, ap, subst, ◌∙◌}
use Rattle.sparc_insn.specs.Instructions.{instruction}
use Rattle.sparc_insn.specs.Words.{IsInsn, word_of}
use Rattle.sparc_insn.specs.declared.insn.Insn.{Insn}
use Rattle.sparc_insn.proofs.RoundTrip.{encodes}
use Rattle.sparc_insn.proofs.reading.read.Goals as goal

-- what each instruction of the word is
abbrev Reads : ℕ → Insn → Type 0
Reads word r = (i : Insn) → IsInsn i → word_of i ≡ word → i ≡ r

same : (word : ℕ) (i r : Insn) → instruction word ≡ Some i → Reads word r → i ≡ r
same word i r e reads = let of = encodes word i e in reads i of.0 of.1

found : (word : ℕ) (i r : Insn) → instruction word ≡ Some i → Reads word r → instruction word ≡ Some r
found word i r e reads = e ∙ ap (λ (j : Insn). Some j) (same word i r e reads)

allowed : (word : ℕ) (i r : Insn) → instruction word ≡ Some i → Reads word r → IsInsn r
allowed word i r e reads = subst IsInsn (same word i r e reads) (encodes word i e).0

pub returns-in-0-clause-value : goal.returns-in-0-clause-value
returns-in-0-clause-value c = found _ c.requires.0 _ c.requires.1 c.read_format2.ensures

pub returns-in-0-clause-in_table : goal.returns-in-0-clause-in_table
returns-in-0-clause-in_table c = allowed _ c.requires.0 _ c.requires.1 c.read_format2.ensures

pub returns-in-1-clause-value : goal.returns-in-1-clause-value
returns-in-1-clause-value c = found _ c.requires.0 _ c.requires.1 c.read_call.ensures

pub returns-in-1-clause-in_table : goal.returns-in-1-clause-in_table
returns-in-1-clause-in_table c = allowed _ c.requires.0 _ c.requires.1 c.read_call.ensures

pub returns-in-2-clause-value : goal.returns-in-2-clause-value
returns-in-2-clause-value c = found _ c.requires.0 _ c.requires.1 c.read_op2.ensures

pub returns-in-2-clause-in_table : goal.returns-in-2-clause-in_table
returns-in-2-clause-in_table c = allowed _ c.requires.0 _ c.requires.1 c.read_op2.ensures

pub returns-in_default-clause-value : goal.returns-in_default-clause-value
returns-in_default-clause-value c = found _ c.requires.0 _ c.requires.1 c.read_three.ensures

pub returns-in_default-clause-in_table : goal.returns-in_default-clause-in_table
returns-in_default-clause-in_table c = allowed _ c.requires.0 _ c.requires.1 c.read_three.ensures
