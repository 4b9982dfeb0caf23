use Rattle.plain_host.specs.Hosted.{host}
use Rattle.plain_core.proofs.Handlers.{handed_over, told_there, missed}
use Rattle.plain_core.proofs.handing.miss.Goals as goal

pub hand_over-requires : goal.hand_over-requires
hand_over-requires c = (handed_over _ _ _ _ _ c.requires.at c.requires.room c.requires.failed).few

pub fail_unmarked-requires-clause-running : goal.fail_unmarked-requires-clause-running
fail_unmarked-requires-clause-running c = (told_there _ _ _ _ _ c.requires.at c.requires.room c.requires.failed (host c.hand_over.new.hosting) c.hand_over.ensures).running

pub fail_unmarked-requires-clause-can : goal.fail_unmarked-requires-clause-can
fail_unmarked-requires-clause-can c = (told_there _ _ _ _ _ c.requires.at c.requires.room c.requires.failed (host c.hand_over.new.hosting) c.hand_over.ensures).ends

pub returns : goal.returns
returns c =
    missed c.args.language.now (host c.args.hosting.now) c.args.target c.args._walk.now c.args.failure c.requires.at c.requires.room c.requires.failed (host c.hand_over.new.hosting) c.hand_over.ensures (host c.fail_unmarked.new.self) c.cost_left-cost.result c.place_here-place.result c.args.error c.fail_unmarked.ensures c.cost_left-cost.ensures c.place_here-place.ensures c.requires.found
