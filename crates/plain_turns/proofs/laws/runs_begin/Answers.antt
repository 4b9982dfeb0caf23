use Rattle.plain_turns.proofs.Running.{runs_begin}
use Rattle.plain_turns.proofs.laws.runs_begin.Goals as goal

pub returns : goal.returns
returns c = runs_begin
