use Rattle.std.proofs.Common.{◌∙◌, ap}
use Rattle.plain_unwinds.specs.Services.{unwound}
use Rattle.plain_host.proofs.hosting.Hosting.unwind.Goals as goal

pub returns : goal.returns
returns c = c.unwind_written.ensures ∙ ap (unwound c.args.goal c.args.cost) c.write.ensures
