use Rattle.std.proofs.Common.{ap, ◌∙◌}
use Rattle.std.specs.Prelude.{ℕ, List}
use Rattle.self_terms.specs.Names.{with_text}
use Rattle.source_model.specs.Names.{evaluator}
use Rattle.world_test.proofs.further.add_texts.Goals as goal

abbrev named : List ℕ → List (List ℕ) → List (List ℕ)
named text names = with_text names text

pub returns-clause-grows : goal.returns-clause-grows
returns-clause-grows c =
    let first = c.in_ok-add.ensures.grows in
    let none = c.in_ok-add-2.ensures.grows ∙ ap (named (evaluator 0)) first in
    let one = c.in_ok-add-3.ensures.grows ∙ ap (named (evaluator 1)) none in
    let two = c.in_ok-add-4.ensures.grows ∙ ap (named (evaluator 2)) one in
    let three = c.in_ok-add-5.ensures.grows ∙ ap (named (evaluator 3)) two in
    let four = c.in_ok-add-6.ensures.grows ∙ ap (named (evaluator 4)) three in
    c.in_ok-add-7.ensures.grows ∙ ap (named (evaluator 5)) four
