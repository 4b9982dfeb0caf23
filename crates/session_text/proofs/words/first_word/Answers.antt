use Rattle.std.proofs.Common.{◌∙◌, sym, arith}
use Rattle.session_text.proofs.WordSteps.{no_words, word_at, word_shorter}
use Rattle.session_text.proofs.words.first_word.Goals as goal

pub returns-then-is_empty-clause-word : goal.returns-then-is_empty-clause-word
returns-then-is_empty-clause-word c = sym c.from_word-text.ensures.same ∙ no_words c.from_word-text.result.now (sym c.is_empty.ensures ∙ c.if-is_empty.true)

pub returns-then-is_empty-clause-shorter : goal.returns-then-is_empty-clause-shorter
returns-then-is_empty-clause-shorter c = sym c.from_word-text.ensures.same ∙ no_words c.from_word-text.result.now (sym c.is_empty.ensures ∙ c.if-is_empty.true)

pub returns-clause-word : goal.returns-clause-word
returns-clause-word c =
    sym c.from_word-text.ensures.same
    ∙ word_at c.from_word-text.result.now c.part_len-len.result c.part_len-len.ensures.count (sym c.is_empty.ensures ∙ c.if-is_empty.false) c.from_word-text.ensures.begins

pub returns-clause-shorter : goal.returns-clause-shorter
returns-clause-shorter c =
    let h = word_shorter c.from_word-text.result.now c.part_len-len.result c.part_len-len.ensures.count (sym c.is_empty.ensures ∙ c.if-is_empty.false) c.from_word-text.ensures.begins in
    let s = c.from_word-text.ensures.shorter in
    omega arith
