use Rattle.std.proofs.Common.{ap, sym, ◌∙◌}
use Rattle.std.specs.Prelude.{[], ◌∷◌, get_or}
use Rattle.self_grammar.specs.declared.signs.ReadKind.TheVariants as kind
use Rattle.self_grammar.specs.Counts.{Breach, here}
use Rattle.self_reader.specs.Settling.{or_sooner, first_at}
use Rattle.self_reader.proofs.SettlingLemmas.{first_more}
use Rattle.self_reader.proofs.settling.first_late.Goals as goal

pub loop-breach-preserved : goal.loop-breach-preserved
loop-breach-preserved c =
    let next : Breach = get_or c.args.late.now c.loop-breach.breach-index (here kind.BadToken) in
    c.or_sooner-first.ensures
    ∙ ap (λ o. or_sooner o (first_at c.args.spot (next ∷ []))) c.loop-breach.invariant
    ∙ sym (first_more c.args.spot c.args.late.now c.loop-breach.breach-index (here kind.BadToken) c.loop-breach-test.true)
