use Rattle.run_keeps.proofs.Stepping.{step_keeps, run_keeps, finish_keeps}
use Rattle.run_keeps.proofs.Commanding.{command_keeps, advisor_only, advisor_alone, edit_leaves}
use Rattle.run_keeps.proofs.laws.counts_stay.Goals as goal

pub returns-clause-steps_keep : goal.returns-clause-steps_keep
returns-clause-steps_keep c = step_keeps

pub returns-clause-runs_keep : goal.returns-clause-runs_keep
returns-clause-runs_keep c = run_keeps

pub returns-clause-finishes_keep : goal.returns-clause-finishes_keep
returns-clause-finishes_keep c = finish_keeps

pub returns-clause-commands_keep : goal.returns-clause-commands_keep
returns-clause-commands_keep c = λ k stop r e. command_keeps r k stop e

pub returns-clause-advisors_only : goal.returns-clause-advisors_only
returns-clause-advisors_only c = λ k r. advisor_only r k

pub returns-clause-advisors_alone : goal.returns-clause-advisors_alone
returns-clause-advisors_alone c = λ k r. advisor_alone r k

pub returns-clause-edits_keep_advisors : goal.returns-clause-edits_keep_advisors
returns-clause-edits_keep_advisors c = λ path text r. edit_leaves r path text
