use Rattle.std.proofs.Common.{◌≡◌, ◌-◌, suc, ap, arith}
use Rattle.sparc_store.specs.Ring.{Ring}
use Rattle.sparc_store.proofs.Rings.{oldest_begins}
use Rattle.sparc_store.proofs.windows.Windows.oldest_place.Goals as goal

pub returns : goal.returns
returns c =
    let some : c.self.inside.held ≡ suc (c.self.inside.held - 1) = omega (arith, c.requires, ap (λ (r : Ring). r.held) c.self.view_is) in
    rw (c.oldest.ensures, ← c.self.view_is) (oldest_begins _ _ c.self.invariant some)
