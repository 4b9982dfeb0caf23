use Rattle.std.proofs.Common.{◌≡◌, ◌++◌, drop}
use Rattle.self_tokens.specs.Texts.{unescaped, unescaped_from}
use Rattle.self_tokens.proofs.texts.unescape.Given as goal

abbrev pub invariant-loop-byte : goal.invariant-loop-byte
invariant-loop-byte l = l.bytes.items ++ unescaped_from l.escaped (drop l.byte-index l.text) ≡ unescaped l.fn.text
