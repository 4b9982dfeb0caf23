use Rattle.world_blocks.specs.Sessions.{session_names}
use Rattle.further_names.proofs.Behind.{fit_behind}
use Rattle.further_names.proofs.laws.accepted_slots_go_on.Goals as goal

pub returns : goal.returns
returns c = λ bytes w a limited more.
    let g = c.names_go_on.ensures w in
    fit_behind w (session_names w) more g.0 g.1 (λ ns. c.accepted_things_fit.ensures bytes w a limited ns)
