use Rattle.std.proofs.Common.{refl}
use Rattle.plain_host.specs.Hosted.{host}
use Rattle.shown_frames.specs.Showing.{act_shown}
use Rattle.plain_show.proofs.Shows.{reversed_next, reversed_done, one_longer}
use Rattle.plain_show.proofs.showing.show.Goals as goal

pub loop-k-preserved : goal.loop-k-preserved
loop-k-preserved c =
    record {
      acts = reversed_next (act_shown (host c.args.hosting.now).maps (host c.args.hosting.now).bodies (host c.args.hosting.now).machine.memory c.args.frames.now) c.args.frames.now c.loop-k.k c.len-count.result c.at.result.now c.loop-k.into c.put_act.new.into _ c.len-count.ensures.result c.loop-k-test.true c.at.ensures
          c.put_act.ensures refl c.loop-k.invariant.acts;
      long = one_longer c.loop-k.into c.put_act.new.into _ c.loop-k.k c.put_act.ensures c.loop-k.invariant.long;
    }

pub returns : goal.returns
returns c = reversed_done (act_shown (host c.args.hosting.now).maps (host c.args.hosting.now).bodies (host c.args.hosting.now).machine.memory c.args.frames.now) c.args.frames.now c.loop-k.k c.len-count.result c.loop-k.into c.len-count.ensures.result c.loop-k-test.false c.loop-k.invariant.acts
