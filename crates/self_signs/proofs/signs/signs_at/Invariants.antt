use Rattle.std.proofs.Common.{◌≡◌, ℕ, List, map, ◌*◌, ◌++◌, drop, take}
use Rattle.self_signs.specs.Signs.{names_after, sign_of}
use Rattle.self_signs.specs.Numbers.{Grows}
use Rattle.self_signs.proofs.signs.signs_at.Given as goal

abbrev pub invariant-loop-token : goal.invariant-loop-token
invariant-loop-token l = record {
  grows : Grows (2 * l.token-index) l.fn.names l.names;
  names : names_after l.names l.bytes (drop l.token-index l.tokens) ≡ names_after l.fn.names l.fn.bytes l.fn.tokens;
  signs : (more : List (List ℕ)) → l.list ≡ map (sign_of (l.names ++ more) l.bytes) (take l.token-index l.tokens);
}
