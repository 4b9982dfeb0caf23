use Rattle.std.proofs.Common.{◌≡◌, ◌+◌, drop}
use Rattle.std.specs.Prelude.{◌++◌, map}
use Rattle.plain_words.specs.Code.{cell_initials}
use Rattle.plain_words.specs.Units.{datum_word}
use Rattle.plain_words.proofs.translator.put_cell_initials.Given as goal

abbrev pub invariant-loop-at : goal.invariant-loop-at
invariant-loop-at l =
    l.code.items ++ cell_initials (l.slot + l.at) (drop l.at (map (λ x. datum_word l.references x.initial) l.locals))
    ≡ l.fn.code.items ++ cell_initials l.slot (map (λ x. datum_word l.references x.initial) l.locals)
