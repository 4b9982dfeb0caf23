use Rattle.plain_host.specs.Hosted.{host}
use Rattle.shown_frames.specs.Showing.{value_shown}
use Rattle.plain_show.proofs.Shows.{from_next, one_longer}
use Rattle.plain_show.proofs.showing.put_from.Goals as goal

pub loop-j-preserved : goal.loop-j-preserved
loop-j-preserved c = record {
  values = from_next (value_shown (host c.args.hosting.now).maps (host c.args.hosting.now).machine.memory c.args.frames.now) (host c.args.hosting.now).machine.memory c.args.at c.loop-j.j c.args.count c.word_there.result c.value_of.result c.loop-j.into c.push.new.self _
      c.loop-j-test.true c.push.ensures c.value_of.ensures c.word_there.ensures c.loop-j.invariant.values;
  long = one_longer c.loop-j.into c.push.new.self c.value_of.result c.loop-j.j c.push.ensures c.loop-j.invariant.long;
}
