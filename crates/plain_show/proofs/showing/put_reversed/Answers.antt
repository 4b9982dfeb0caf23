use Rattle.std.proofs.Common.{◌-◌, length, get_or, refl, arith}
use Rattle.plain_host.specs.Hosted.{host}
use Rattle.shown_frames.specs.Showing.{value_shown}
use Rattle.plain_show.proofs.Shows.{reversed_next, one_longer, got_number}
use Rattle.plain_show.proofs.showing.put_reversed.Goals as goal

pub loop-j-preserved : goal.loop-j-preserved
loop-j-preserved c =
    let ws = c.args.words.now in
    let j = c.loop-j.j in
    let lt = c.loop-j-test.true in
    let i = length ws - 1 - j in
    record {
      values = reversed_next (value_shown (host c.args.hosting.now).maps (host c.args.hosting.now).machine.memory c.args.frames.now) ws j (length ws) (get_or ws i 0) c.loop-j.into c.push.new.self c.value_of.result refl lt (got_number ws i (get_or ws i 0) (omega arith) refl)
          c.push.ensures c.value_of.ensures c.loop-j.invariant.values;
      long = one_longer c.loop-j.into c.push.new.self c.value_of.result j c.push.ensures c.loop-j.invariant.long;
    }
