use Rattle.std.proofs.Common.{subst, sym}
use Rattle.std.specs.Prelude.{List, ℕ, Err}
use Rattle.self_debugger.specs.WorldFiles.{WorldRead, refused}
use Rattle.self_debugger.proofs.worlds.world_of.Goals as goal

pub returns-in_ok-read_line-in-Err-Refused-clause-refused : goal.returns-in_ok-read_line-in-Err-Refused-clause-refused
returns-in_ok-read_line-in-Err-Refused-clause-refused c =
    subst (λ (x : List ℕ). WorldRead c.args.bytes.now (Err x)) (sym c.in_ok-read_line-in-Err-Refused.ensures)
    (refused c.in-Err-Refused.refusal c.requires (rw c.in-Err-Refused.field-0-is at c.in-Err-Refused.ensures.refused))
