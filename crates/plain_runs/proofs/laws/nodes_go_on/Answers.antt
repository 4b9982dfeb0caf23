use Rattle.plain_runs.proofs.Ready.{pended_follow, dropped_follow}
use Rattle.plain_runs.proofs.Popping.{answer_follow}
use Rattle.plain_runs.proofs.laws.nodes_go_on.Goals as goal

pub returns-clause-pended : goal.returns-clause-pended
returns-clause-pended c = pended_follow

pub returns-clause-dropped : goal.returns-clause-dropped
returns-clause-dropped c = dropped_follow

pub returns-clause-answered : goal.returns-clause-answered
returns-clause-answered c = answer_follow
