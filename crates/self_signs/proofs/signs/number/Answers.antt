use Rattle.self_signs.proofs.NumberLaws.{number_found}
use Rattle.self_signs.proofs.signs.number.Goals as goal

pub returns-clause-number : goal.returns-clause-number
returns-clause-number c = λ more. number_found c.name.new.self more c.in_ok-name.name.0 c.args.text.now c.has_each_once.ensures c.in_ok-name.ensures.number
