use Rattle.plain_edits.proofs.Standing.{edits_pay, edits_pay_anew, edits_stand}
use Rattle.plain_edits.proofs.laws.edits_stand.Goals as goal

pub returns-clause-stand : goal.returns-clause-stand
returns-clause-stand c = edits_stand

pub returns-clause-pay : goal.returns-clause-pay
returns-clause-pay c = edits_pay

pub returns-clause-anew : goal.returns-clause-anew
returns-clause-anew c = edits_pay_anew
