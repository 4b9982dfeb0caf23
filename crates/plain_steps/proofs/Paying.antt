-- The heap's room stays paid for.
use Rattle.std.proofs.Common.{◌+◌, ◌∙◌, ap, arith}
use Rattle.plain_steps.specs.Paying.{StepsPay}

pub steps_pay : StepsPay
steps_pay start h to p left paid = record {
  room = p.room;
  top = omega (arith, p.top, paid);
  left = ap (λ x. x + h.cost) left ∙ p.left;
}
