use Rattle.std.proofs.Common.{◌≡◌, ◌≤◌, ◌+◌, ◌++◌, drop, length, codes}
use Rattle.std.specs.Prelude.{flat_map}
use Rattle.session_text.specs.Values.{shown_text}
use Rattle.session_text.proofs.lines.Line.put_more.Given as goal

abbrev pub invariant-loop-value : goal.invariant-loop-value
invariant-loop-value l = record {
  text : l.self ++ flat_map (λ v. codes " " ++ shown_text l.core v) (drop l.value-index l.values) ≡ l.fn.self ++ flat_map (λ v. codes " " ++ shown_text l.core v) l.values;
  few : length l.self + length (flat_map (λ v. codes " " ++ shown_text l.core v) (drop l.value-index l.values)) ≤ 4000000;
}
