use Rattle.plain_core.proofs.Serving.{told, method_there, mark_there}
use Rattle.plain_core.proofs.turning.test.Goals as goal

pub refusal-requires-clause-given : goal.refusal-requires-clause-given
refusal-requires-clause-given c = (method_there _ _ _ _ c.requires.at c.requires.room _ _ c.requires.found).body.0

pub refusal-requires-clause-within : goal.refusal-requires-clause-within
refusal-requires-clause-within c = (method_there _ _ _ _ c.requires.at c.requires.room _ _ c.requires.found).body.1

pub refusal-requires-clause-translates : goal.refusal-requires-clause-translates
refusal-requires-clause-translates c = (method_there _ _ _ _ c.requires.at c.requires.room _ _ c.requires.found).translates

pub refusal-requires-clause-sums : goal.refusal-requires-clause-sums
refusal-requires-clause-sums c = (told _ _ _ _ c.requires.at).sums

pub refusal-requires-clause-mark : goal.refusal-requires-clause-mark
refusal-requires-clause-mark c = mark_there _ _ _ _ c.requires.at c.requires.room _ _ c.requires.found _ c.requires.entry c.requires.there
