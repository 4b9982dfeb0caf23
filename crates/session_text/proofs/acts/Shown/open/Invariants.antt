use Rattle.std.proofs.Common.{◌≡◌, length}
use Rattle.session_text.proofs.acts.Shown.open.Given as goal

abbrev pub invariant-loop-act : goal.invariant-loop-act
invariant-loop-act l = length l.acts.items ≡ l._act
