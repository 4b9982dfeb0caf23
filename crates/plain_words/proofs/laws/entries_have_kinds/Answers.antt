use Rattle.plain_words.proofs.ByKind.{method_entry, entry_is}
use Rattle.plain_words.proofs.laws.entries_have_kinds.Goals as goal

pub returns-clause-method : goal.returns-clause-method
returns-clause-method c = method_entry

pub returns-clause-other : goal.returns-clause-other
returns-clause-other c = entry_is
