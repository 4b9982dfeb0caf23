use Rattle.std.proofs.Common.{◌≡◌, drop}
use Rattle.std.specs.List.{list_any}
use Rattle.plain_words.specs.Units.{owns_context, is_block_literal}
use Rattle.plain_words.proofs.translator.owns_context.Given as goal

abbrev pub invariant-loop-k : goal.invariant-loop-k
invariant-loop-k l = owns_context l.body ≡ list_any is_block_literal (drop l.k l.body.nodes)
