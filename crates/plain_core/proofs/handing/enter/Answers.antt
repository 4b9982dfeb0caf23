use Rattle.std.proofs.Common.{◌≡◌, ◌∙◌, sym}
use Rattle.std.specs.Prelude.{Some, None}
use Rattle.plain_core.proofs.Handlers.{method_there}
use Rattle.plain_core.proofs.handing.enter.Goals as goal

pub unreachable-requires : goal.unreachable-requires
unreachable-requires c =
    let m = method_there _ _ _ _ _ c.requires.at c.requires.room c.requires.failed _ _ c.requires.found in
    let both : None ≡ Some m.entry = sym c.in-None.is ∙ c.entry_of.ensures ∙ m.entry_is in
    cc
