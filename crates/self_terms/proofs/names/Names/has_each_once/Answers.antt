use Rattle.self_terms.proofs.NamesLemmas.{each_once}
use Rattle.self_terms.proofs.names.Names.has_each_once.Goals as goal

pub returns : goal.returns
returns c = rw (← c.self.view_is) (each_once (λ v. v.items) c.self.inside.texts.keys c.as_slice-texts.ensures.unique)
