use Rattle.std.proofs.Common.{◌∙◌, ap, ◌++◌, sym}
use Rattle.session_text.specs.Words.{words}
use Rattle.session_text.proofs.Paths.{no_path}
use Rattle.session_text.proofs.reading.editing.Goals as goal

pub returns-then-not-is_name : goal.returns-then-not-is_name
returns-then-not-is_name c =
    no_path (words c.args.text.now) c.loop-split.path c.in-Some.split.word.now (words c.in-Some.split.rest.now)
    (c.loop-split.invariant.so_far ∙ ap (λ x. c.loop-split.path ++ x) c.in-Some.ensures.word) (sym c.is_name.ensures ∙ c.if-not-is_name.true)
