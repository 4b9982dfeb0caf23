use Rattle.world_build.proofs.NameLemmas.{number_named}
use Rattle.slot_text.proofs.naming.number.Goals as goal

pub returns-clause-number : goal.returns-clause-number
returns-clause-number c = (number_named c.name.new.self c.args.text.now c.in_ok-name.name.0 c.has_each_once.ensures c.in_ok-name.ensures.number).number
