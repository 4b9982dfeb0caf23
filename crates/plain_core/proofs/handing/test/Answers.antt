use Rattle.std.proofs.Common.{◌∙◌, sym}
use Rattle.plain_host.specs.Hosted.{host}
use Rattle.plain_core.proofs.Handlers.{handed_over, told_there, body_given, within_there, translates_there, mark_there, entry_fits, called, refused}
use Rattle.plain_core.proofs.handing.test.Goals as goal

pub hand_over-requires : goal.hand_over-requires
hand_over-requires c = (handed_over _ _ _ _ _ c.requires.at c.requires.room c.requires.failed).few

pub refusal-requires-clause-given : goal.refusal-requires-clause-given
refusal-requires-clause-given c = body_given _ _ _ _ _ c.requires.at c.requires.room c.requires.failed _ _ c.requires.found

pub refusal-requires-clause-within : goal.refusal-requires-clause-within
refusal-requires-clause-within c = within_there _ _ _ _ _ c.requires.at c.requires.room c.requires.failed _ _ c.requires.found (host c.hand_over.new.hosting) c.hand_over.ensures

pub refusal-requires-clause-translates : goal.refusal-requires-clause-translates
refusal-requires-clause-translates c = translates_there _ _ _ _ _ c.requires.at c.requires.room c.requires.failed _ _ c.requires.found (host c.hand_over.new.hosting) c.hand_over.ensures

pub refusal-requires-clause-sums : goal.refusal-requires-clause-sums
refusal-requires-clause-sums c = (told_there _ _ _ _ _ c.requires.at c.requires.room c.requires.failed (host c.hand_over.new.hosting) c.hand_over.ensures).sums

pub refusal-requires-clause-mark : goal.refusal-requires-clause-mark
refusal-requires-clause-mark c = mark_there _ _ _ _ _ c.requires.at c.requires.room c.requires.failed _ _ c.requires.found (host c.hand_over.new.hosting) c.hand_over.ensures _ c.requires.entry c.requires.there

pub fail_unmarked-requires-clause-running : goal.fail_unmarked-requires-clause-running
fail_unmarked-requires-clause-running c = (told_there _ _ _ _ _ c.requires.at c.requires.room c.requires.failed (host c.hand_over.new.hosting) c.hand_over.ensures).running

pub fail_unmarked-requires-clause-can : goal.fail_unmarked-requires-clause-can
fail_unmarked-requires-clause-can c = (told_there _ _ _ _ _ c.requires.at c.requires.room c.requires.failed (host c.hand_over.new.hosting) c.hand_over.ensures).ends

pub returns-in-Some : goal.returns-in-Some
returns-in-Some c =
    refused c.args.language.now (host c.args.hosting.now) c.args.target c.args._walk.now c.args.failure c.requires.at c.requires.room c.requires.failed c.args.holder c.args.body c.requires.found (host c.hand_over.new.hosting) c.hand_over.ensures (host c.fail_unmarked.new.self) c.args.at c.cost_left-cost.result c.place_here-place.result c.in-Some.error c.fail_unmarked.ensures c.cost_left-cost.ensures c.place_here-place.ensures c.requires.entry c.requires.there (sym c.refusal.ensures ∙ c.in-Some.is)

pub call-requires-clause-entry : goal.call-requires-clause-entry
call-requires-clause-entry c = entry_fits _ _ _ _ _ c.requires.at c.requires.room c.requires.failed _ _ c.requires.found _ c.requires.entry

pub returns-in-None : goal.returns-in-None
returns-in-None c =
    called c.args.language.now (host c.args.hosting.now) c.args.target c.args._walk.now c.args.failure c.requires.at c.requires.room c.requires.failed c.args.holder c.args.body c.requires.found (host c.hand_over.new.hosting) c.hand_over.ensures (host c.call.new.self) c.args.at c.left-goal.result c.cost_left-cost.result c.call.ensures c.left-goal.ensures c.cost_left-cost.ensures c.requires.entry c.requires.there (sym c.refusal.ensures ∙ c.in-None.is)
