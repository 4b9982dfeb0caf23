use Rattle.plain_turns.proofs.Returning.{returns_turn}
use Rattle.plain_turns.proofs.laws.returns_turn.Goals as goal

pub returns : goal.returns
returns c = returns_turn
