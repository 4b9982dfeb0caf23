use Rattle.std.proofs.Common.{◌≡◌, ◌-◌, suc, ap, arith}
use Rattle.sparc_store.specs.Ring.{Ring}
use Rattle.sparc_store.proofs.Rings.{spilled_stack}
use Rattle.sparc_store.proofs.windows.Windows.spill.Goals as goal

pub save_words-requires-clause-place : goal.save_words-requires-clause-place
save_words-requires-clause-place c = rw c.oldest_place-at.ensures c.requires.place

pub returns-clause-stack : goal.returns-clause-stack
returns-clause-stack c =
    let some : c.self.inside.held ≡ suc (c.self.inside.held - 1) = omega (arith, c.requires.some, ap (λ (r : Ring). r.held) c.self.view_is) in
    rw (c.save_words.ensures, c.oldest-oldest.ensures, ← c.self.view_is) (spilled_stack _ _ _ c.oldest_place-at.result c.self.invariant some (rw c.self.view_is c.oldest_place-at.ensures))
