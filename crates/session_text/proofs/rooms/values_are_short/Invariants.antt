use Rattle.std.proofs.Common.{◌≤◌, ◌*◌, ◌++◌, take, length, codes}
use Rattle.std.specs.Prelude.{flat_map}
use Rattle.session_text.specs.Values.{shown_text}
use Rattle.session_text.proofs.rooms.values_are_short.Given as goal

abbrev pub invariant-loop-value : goal.invariant-loop-value
invariant-loop-value l = length (flat_map (λ v. codes " " ++ shown_text l.core v) (take l.value-index l.values)) ≤ 84 * l.value-index
