use Rattle.std.proofs.Common.{ap, ◌∙◌}
use Rattle.plain_runs.specs.Host.{Host}
use Rattle.plain_host.specs.Hosted.{host}
use Rattle.plain_host.proofs.Parked.{registers_kept}
use Rattle.plain_host.proofs.hosting.Hosting.park_in_stack.Goals as goal

pub returns-clause-registers : goal.returns-clause-registers
returns-clause-registers c = ap (λ (h : Host). h.machine.regs) c.park.ensures ∙ registers_kept (host c.args.self.now)
