use Rattle.std.proofs.Common.{◌≡◌, take}
use Rattle.self_reader.specs.Settling.{first_at}
use Rattle.self_reader.proofs.settling.first_late.Given as goal

abbrev pub invariant-loop-breach : goal.invariant-loop-breach
invariant-loop-breach l = l.first ≡ first_at l.spot (take l.breach-index l.late)
