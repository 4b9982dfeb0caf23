use Rattle.std.proofs.Common.{◌≡◌, true, ◌++◌, length}
use Rattle.std.specs.List.{list_all}
use Rattle.session_text.specs.Words.{words, is_name}
use Rattle.session_text.proofs.reading.editing.Given as goal

abbrev pub invariant-loop-split : goal.invariant-loop-split
invariant-loop-split l = record {
  names : list_all is_name l.path ≡ true;
  so_far : words l.fn.text ≡ l.path ++ words l.rest;
}

abbrev pub decreases-loop-split : goal.decreases-loop-split
decreases-loop-split l = length l.rest
