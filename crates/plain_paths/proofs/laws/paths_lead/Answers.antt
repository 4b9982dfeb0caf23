use Rattle.plain_paths.proofs.Reached.{path_reached}
use Rattle.plain_paths.proofs.laws.paths_lead.Goals as goal

pub returns : goal.returns
returns c = λ maps mem heap h p s made is lobby path at. path_reached maps mem heap h p s made is lobby path at
