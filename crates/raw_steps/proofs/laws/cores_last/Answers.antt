use Rattle.raw_steps.proofs.Fixed.{step_fixed}
use Rattle.raw_steps.proofs.Lasting.{core_lasts}
use Rattle.raw_steps.proofs.laws.cores_last.Goals as goal

pub returns-clause-kept : goal.returns-clause-kept
returns-clause-kept c0 = λ z r to_raw s out has f maps. core_lasts z r to_raw s out has f maps

pub returns-clause-fixed : goal.returns-clause-fixed
returns-clause-fixed c0 = λ s. step_fixed s
