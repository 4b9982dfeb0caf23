use Rattle.std.proofs.Common.{◌≡◌, length}
use Rattle.code_reader.specs.CodeTurns.{unwound}
use Rattle.code_reader.proofs.code.unwind.Given as goal

abbrev pub invariant-messages : goal.invariant-messages
invariant-messages l = unwound l.frames l.counts ≡ unwound l.fn.frames l.fn.counts

abbrev pub decreases-messages : goal.decreases-messages
decreases-messages l = length l.frames
