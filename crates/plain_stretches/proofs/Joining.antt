-- Runs of the source join.
use Rattle.std.proofs.Common.{◌∙◌, ap}
use Rattle.source_model.specs.State.{silent}
use Rattle.source_model.specs.Step.{run}
use Rattle.plain_stretches.specs.Stretches.{RunsJoin, StepJoins}
use Rattle.plain_stretches.proofs.Further.{further, printed_run, printed_step}

pub runs_join : RunsJoin
runs_join a b s t u one two first rest = further a b (silent s) ∙ ap (run b) first ∙ printed_run b t u one two rest

pub step_joins : StepJoins
step_joins a s t u one two first last = further a 1 (silent s) ∙ ap (run 1) first ∙ printed_step t u one two last
