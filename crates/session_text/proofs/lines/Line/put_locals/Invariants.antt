use Rattle.std.proofs.Common.{◌≡◌, ◌≤◌, ◌+◌, ◌++◌, drop, length}
use Rattle.source_model.specs.Lines.{local_names}
use Rattle.session_text.specs.Frames.{locals_text}
use Rattle.session_text.proofs.lines.Line.put_locals.Given as goal

abbrev pub invariant-loop-k : goal.invariant-loop-k
invariant-loop-k l = record {
  text : l.self ++ locals_text l.core l.names (drop l.k (local_names l.body)) (drop l.k l.values) ≡ l.fn.self ++ locals_text l.core l.names (local_names l.body) l.values;
  few : length l.self + length (locals_text l.core l.names (drop l.k (local_names l.body)) (drop l.k l.values)) ≤ 4000000;
}
