-- The limits of a text for whose bodies code can be made.
use Rattle.std.specs.Prelude.{◌≤◌}
use Rattle.self_grammar.specs.Counts.{Limits}

-- At most so many parentheses, brackets and messages are open at once, and a body has at most so many pending values, arguments, other locals and
-- nodes.
pub record IsLimited (l : Limits) : Type 0 where
  pub nesting : l.nesting ≤ 64
  pub pending : l.pending ≤ 64
  pub arguments : l.arguments ≤ 5
  pub locals : l.locals ≤ 64
  pub body : l.body ≤ 1024
