use Rattle.std.proofs.Common.{◌∙◌, ap}
use Rattle.std.proofs.lemmas.List.{take_rest}
use Rattle.session_text.specs.Words.{words}
use Rattle.session_text.proofs.WordSteps.{skips_spaces, no_space}
use Rattle.session_text.proofs.words.from_word.Goals as goal

pub returns-clause-same : goal.returns-clause-same
returns-clause-same c = ap words (take_rest c.args.text.now c.spaces_before-spaces.result) ∙ rw c.spaces_before-spaces.ensures.count (skips_spaces c.args.text.now)

pub returns-clause-begins : goal.returns-clause-begins
returns-clause-begins c = rw (take_rest c.args.text.now c.spaces_before-spaces.result, c.spaces_before-spaces.ensures.count) (no_space c.args.text.now)
