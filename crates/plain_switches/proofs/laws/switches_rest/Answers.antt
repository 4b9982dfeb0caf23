use Rattle.plain_switches.proofs.Switching.{switches_rest}
use Rattle.plain_switches.proofs.laws.switches_rest.Goals as goal

pub returns : goal.returns
returns c = switches_rest
