use Rattle.plain_prims.proofs.Operands.{operands_stand, operands_apply, costs_leave_room}
use Rattle.plain_prims.proofs.laws.operands_are_ready.Goals as goal

pub returns-clause-stand : goal.returns-clause-stand
returns-clause-stand c = operands_stand

pub returns-clause-apply : goal.returns-clause-apply
returns-clause-apply c = operands_apply

pub returns-clause-room : goal.returns-clause-room
returns-clause-room c = costs_leave_room
