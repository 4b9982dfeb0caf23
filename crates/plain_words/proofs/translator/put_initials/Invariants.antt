use Rattle.std.proofs.Common.{◌≡◌, ◌+◌, drop}
use Rattle.std.specs.Prelude.{◌++◌, map}
use Rattle.plain_words.specs.Code.{initial_stores}
use Rattle.plain_words.specs.Units.{datum_word}
use Rattle.plain_words.proofs.translator.put_initials.Given as goal

abbrev pub invariant-loop-at : goal.invariant-loop-at
invariant-loop-at l =
    l.code.items ++ initial_stores (l.slot + l.at) (drop l.at (map (λ x. datum_word l.references x.initial) l.locals))
    ≡ l.fn.code.items ++ initial_stores l.slot (map (λ x. datum_word l.references x.initial) l.locals)
