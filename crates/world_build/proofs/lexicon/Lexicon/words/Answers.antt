use Rattle.world_build.proofs.NameLemmas.{knows_after}
use Rattle.world_build.proofs.lexicon.Lexicon.words.Goals as goal

pub invariant_of-self : goal.invariant_of-self
invariant_of-self c = knows_after c.number.result c.self.inside.names c.number.new.names c.as_slice.result.now _ _ _ _ _ _ _ _ c.number.ensures.grows c.number.ensures.same c.self.invariant
