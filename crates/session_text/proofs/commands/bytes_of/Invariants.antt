use Rattle.std.proofs.Common.{◌≡◌, ◌++◌, drop}
use Rattle.session_text.proofs.commands.bytes_of.Given as goal

abbrev pub invariant-loop-byte : goal.invariant-loop-byte
invariant-loop-byte l = l.copy ++ drop l.byte-index l.bytes ≡ l.fn.bytes
