use Rattle.std.proofs.Common.{◌∙◌}
use Rattle.world_build.proofs.CoreLemmas.{string_more}
use Rattle.world_build.proofs.worlds.add_strings.Goals as goal

pub loop-text-preserved : goal.loop-text-preserved
loop-text-preserved c = string_more c.loop-text.things.items c.add_string.new.things.items c.args.texts.now c.loop-text.text-index _ c.loop-text-test.true c.in_ok-add_string.ensures ∙ c.loop-text.invariant
