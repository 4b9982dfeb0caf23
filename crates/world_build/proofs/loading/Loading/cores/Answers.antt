use Rattle.std.proofs.Common.{◌∙◌, sym}
use Rattle.world_build.proofs.CoreLemmas.{core_more}
use Rattle.world_build.proofs.loading.Loading.cores.Goals as goal

pub loop-name-preserved : goal.loop-name-preserved
loop-name-preserved c = core_more c.args.self.now c.args.names.now c.loop-name.name-index _ c.loop-name.core c.push.new.self c.in-Some.object c.loop-name-test.true (sym c.core_object.ensures ∙ c.in-Some.is) c.in_ok-push.ensures ∙ c.loop-name.invariant
