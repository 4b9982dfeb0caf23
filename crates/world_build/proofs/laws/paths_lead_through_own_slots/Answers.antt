use Rattle.world_build.proofs.Following.{path_found, path_followed, path_stopped}
use Rattle.world_build.proofs.laws.paths_lead_through_own_slots.Goals as goal

pub returns-clause-found : goal.returns-clause-found
returns-clause-found c = path_found

pub returns-clause-followed : goal.returns-clause-followed
returns-clause-followed c = path_followed

pub returns-clause-refused : goal.returns-clause-refused
returns-clause-refused c = path_stopped
