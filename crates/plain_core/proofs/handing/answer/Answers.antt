use Rattle.plain_host.specs.Hosted.{host}
use Rattle.plain_core.proofs.Handlers.{handed_over, told_there, answered}
use Rattle.plain_core.proofs.handing.answer.Goals as goal

pub hand_over-requires : goal.hand_over-requires
hand_over-requires c = (handed_over _ _ _ _ _ c.requires.at c.requires.room c.requires.failed).few

pub answer_data-requires-clause-on : goal.answer_data-requires-clause-on
answer_data-requires-clause-on c = (told_there _ _ _ _ _ c.requires.at c.requires.room c.requires.failed (host c.hand_over.new.hosting) c.hand_over.ensures).on

pub returns : goal.returns
returns c =
    answered c.args.language.now (host c.args.hosting.now) c.args.target c.args._walk.now c.args.failure c.requires.at c.requires.room c.requires.failed (host c.hand_over.new.hosting) c.hand_over.ensures (host c.answer_data.new.self) c.left-goal.result c.cost_left-cost.result c.args.word c.answer_data.ensures c.left-goal.ensures c.cost_left-cost.ensures c.requires.found
