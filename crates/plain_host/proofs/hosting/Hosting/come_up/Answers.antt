use Rattle.std.proofs.Common.{◌∙◌, ap, sym}
use Rattle.std.specs.Prelude.{Some}
use Rattle.plain_host.proofs.hosting.Hosting.come_up.Goals as goal

pub take_up-requires-clause-place : goal.take_up-requires-clause-place
take_up-requires-clause-place c =
    let w = c.in-Some-Waiting in
    c.requires.place w.sp w.pc w.count (sym c.status.ensures ∙ w.is ∙ ap Some w.field-0-is)
