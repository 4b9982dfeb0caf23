use Rattle.std.proofs.Common.{◌≡◌, ◌+◌, ◌*◌, drop}
use Rattle.std.specs.Prelude.{map}
use Rattle.sparc_machine.specs.Held.{state}
use Rattle.plain_words.specs.Moves.{with_words}
use Rattle.plain_words.specs.Units.{datum_word}
use Rattle.plain_host.proofs.contexts.put_locals.Given as goal

abbrev pub invariant-loop-j : goal.invariant-loop-j
invariant-loop-j l = record {
  machine : state l.machine ≡ record (state l.fn.machine) { memory = (state l.machine).memory };
  rest : with_words (state l.machine).memory (l.at + 4 * l.j) (drop l.j (map (λ x. datum_word l.references x.initial) l.locals))
      ≡ with_words (state l.fn.machine).memory l.at (map (λ x. datum_word l.references x.initial) l.locals);
}
