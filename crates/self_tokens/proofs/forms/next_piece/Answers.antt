use Rattle.self_tokens.proofs.Within.{piece_within}
use Rattle.self_tokens.proofs.forms.next_piece.Goals as goal

pub returns-clause-within : goal.returns-clause-within
returns-clause-within c = rw c.begin.ensures (piece_within c.args.behind_operand c.args.rest.now c.requires)
