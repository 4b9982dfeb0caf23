use Rattle.plain_host.specs.Hosted.{host}
use Rattle.run_lines.proofs.Told.{no_place}
use Rattle.run_lines.proofs.lines.next_place.Goals as goal

pub returns-in-None : goal.returns-in-None
returns-in-None c = no_place (host c.args.hosting.now) c.point-point.result c.place.result c.point-point.ensures c.place.ensures c.in-None.is
