use Rattle.std.proofs.Common.{ℕ, ◌∙◌, ap}
use Rattle.self_terms.specs.declared.nodes.Place.{Place}
use Rattle.plain_host.specs.Hosted.{host}
use Rattle.plain_unwinds.specs.Services.{fails_unmarked}
use Rattle.plain_turns.specs.Asking.{cost_left}
use Rattle.plain_core.proofs.Serving.{told}
use Rattle.plain_core.proofs.turning.fail.Goals as goal

pub fail_unmarked-requires-clause-running : goal.fail_unmarked-requires-clause-running
fail_unmarked-requires-clause-running c = (told _ _ _ _ c.requires.at).running

pub fail_unmarked-requires-clause-can : goal.fail_unmarked-requires-clause-can
fail_unmarked-requires-clause-can c = (told _ _ _ _ c.requires.at).ends c.requires.other

pub returns-clause-failed : goal.returns-clause-failed
returns-clause-failed c =
    let h = host c.args.hosting.now in
    c.fail_unmarked.ensures ∙ ap (λ (k : ℕ). fails_unmarked 0 k c.args.error c.place_here-place.result h) c.cost_left-cost.ensures ∙ ap (λ (p : Place). fails_unmarked 0 (cost_left h) c.args.error p h) c.place_here-place.ensures
