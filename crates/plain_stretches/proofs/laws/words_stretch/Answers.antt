use Rattle.plain_stretches.proofs.Stretches.{polls_stretch, steps_stretch, prints_stretch, stretches_run}
use Rattle.plain_stretches.proofs.laws.words_stretch.Goals as goal

pub returns-clause-poll : goal.returns-clause-poll
returns-clause-poll c = polls_stretch

pub returns-clause-step : goal.returns-clause-step
returns-clause-step c = steps_stretch

pub returns-clause-print : goal.returns-clause-print
returns-clause-print c = prints_stretch

pub returns-clause-run : goal.returns-clause-run
returns-clause-run c = stretches_run
