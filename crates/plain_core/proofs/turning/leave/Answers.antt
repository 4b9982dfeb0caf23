use Rattle.std.proofs.Common.{◌∙◌, ap, sym}
use Rattle.std.specs.Prelude.{Some}
use Rattle.plain_core.proofs.Serving.{home_ends, went_home, was_home}
use Rattle.plain_core.proofs.turning.leave.Goals as goal

pub unwind-requires-clause-can : goal.unwind-requires-clause-can
unwind-requires-clause-can c = home_ends _ _ _ c.requires.at

pub returns-in-Some-Waiting : goal.returns-in-Some-Waiting
returns-in-Some-Waiting c =
    let x = c.in-Some-Waiting in
    went_home c.left-goal.result c.cost_left-cost.result c.current-current.result c.status.result x.field-0-0 x.field-0-1 x.field-0-2 c.unwind.ensures c.left-goal.ensures c.cost_left-cost.ensures c.requires.at c.current-current.ensures c.status.ensures (x.is ∙ ap Some x.field-0-is)

pub returns-in-Some-Answered : goal.returns-in-Some-Answered
returns-in-Some-Answered c =
    let x = c.in-Some-Answered in
    was_home c.left-goal.result c.cost_left-cost.result c.current-current.result c.status.result c.unwind.ensures c.left-goal.ensures c.cost_left-cost.ensures c.requires.at c.current-current.ensures c.status.ensures (λ sp pc known e. let both = sym (x.is ∙ ap Some x.field-0-is) ∙ e in cc)

pub returns-in-Some-Failed : goal.returns-in-Some-Failed
returns-in-Some-Failed c =
    let x = c.in-Some-Failed in
    was_home c.left-goal.result c.cost_left-cost.result c.current-current.result c.status.result c.unwind.ensures c.left-goal.ensures c.cost_left-cost.ensures c.requires.at c.current-current.ensures c.status.ensures (λ sp pc known e. let both = sym (x.is ∙ ap Some x.field-0-is) ∙ e in cc)

pub returns-in-None : goal.returns-in-None
returns-in-None c =
    was_home c.left-goal.result c.cost_left-cost.result c.current-current.result c.status.result c.unwind.ensures c.left-goal.ensures c.cost_left-cost.ensures c.requires.at c.current-current.ensures c.status.ensures (λ sp pc known e. let both = sym c.in-None.is ∙ e in cc)
