use Rattle.std.proofs.Common.{◌≡◌, ap, ◌∙◌, arith, inl, inr}
use Rattle.sparc_insn.specs.declared.insn.Insn.TheVariants.{Trap}
use Rattle.sparc_insn.specs.Instructions.{instruction}
use Rattle.sparc_insn.specs.Words.{IsInsn, word_of}
use Rattle.sparc_insn.proofs.RoundTrip.{decodes}
use Rattle.sparc_store.specs.Words.{word_at}
use Rattle.plain_runs.specs.Sound.{ending_stub}
use Rattle.plain_host.proofs.opening.load.Goals as goal

pub returns-clause-loaded : goal.returns-clause-loaded
returns-clause-loaded c =
    let is : IsInsn (Trap 9) = omega arith in
    let kept = c.store-2.ensures.stored.others ending_stub (λ e. absurd (omega (arith, e))) in
    let there : word_at c.put.new.mem ending_stub ≡ word_of (Trap 9) = c.put.ensures.outside ending_stub (inl (omega arith)) ∙ kept ∙ c.store.ensures.stored.put ∙ c.encode.ensures in
    let top = c.put.ensures.stands.is.laid.end.within in
    record {
      heap = c.put.ensures.stands;
      stub = (ap instruction there ∙ decodes (Trap 9) is, tt);
      left = c.put.ensures.outside 0x30000004 (inr (rw c.put.ensures.heap (omega arith))) ∙ c.store-2.ensures.stored.put;
      others = λ b ne other out. c.put.ensures.outside b (elim out [
        | inl below ↦ inl below
        | inr above ↦ inr (rw c.put.ensures.heap above)
      ]) ∙ c.store-2.ensures.stored.others b other ∙ c.store.ensures.stored.others b ne ∙ c.requires b;
    }
