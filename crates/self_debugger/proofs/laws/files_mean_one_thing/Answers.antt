use Rattle.self_debugger.proofs.OneWorld.{one_read, some_read}
use Rattle.self_debugger.proofs.laws.files_mean_one_thing.Goals as goal

pub returns-clause-one : goal.returns-clause-one
returns-clause-one c = one_read

pub returns-clause-some : goal.returns-clause-some
returns-clause-some c = some_read
