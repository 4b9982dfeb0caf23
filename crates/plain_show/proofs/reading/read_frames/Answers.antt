use Rattle.std.proofs.Common.{◌∙◌}
use Rattle.plain_host.specs.Hosted.{host}
use Rattle.plain_show.proofs.Flushing.{may_flush, reads_as, waits_as}
use Rattle.plain_show.proofs.reading.read_frames.Goals as goal

pub flush-requires : goal.flush-requires
flush-requires c = may_flush (host c.args.hosting.now) c.requires

pub read_waiting-requires : goal.read_waiting-requires
read_waiting-requires c =
    let r = reads_as (host c.args.hosting.now) c.requires (host c.flush.new.self) c.register-sp.result c.pc-pc.result c.register-count.result c.flush.ensures c.register-sp.ensures c.pc-pc.ensures c.register-count.ensures in
    record { laid = r.0; few = r.1 }

pub returns : goal.returns
returns c = record {
  frames = c.read_waiting.ensures
      ∙ waits_as (host c.args.hosting.now) c.requires (host c.flush.new.self) c.register-sp.result c.pc-pc.result c.register-count.result c.flush.ensures c.register-sp.ensures c.pc-pc.ensures c.register-count.ensures;
  host = c.flush.ensures;
}
