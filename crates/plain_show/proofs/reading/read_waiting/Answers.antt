use Rattle.std.proofs.Common.{◌+◌, ◌-◌, length, length-append, ap, ◌∙◌, refl, arith}
use Rattle.plain_runs.specs.Host.{descriptor_at}
use Rattle.plain_host.specs.Hosted.{host}
use Rattle.plain_show.proofs.Walking.{first_of, next_as, has_window, can_low, list_next_as, list_done}
use Rattle.sparc_store.specs.Windows.{saved_at}
use Rattle.plain_show.proofs.reading.read_waiting.Goals as goal

pub read_frame-requires-clause-readable : goal.read_frame-requires-clause-readable
read_frame-requires-clause-readable c = first_of (host c.args.hosting.now) c.loop-frame.at c.loop-frame.next c.args.count c.loop-frame._frame c.loop-frame-test.true c.loop-frame.invariant.can

pub saved_word-next-requires-clause-frame : goal.saved_word-next-requires-clause-frame
saved_word-next-requires-clause-frame c =
    has_window (host c.args.hosting.now) c.loop-frame.next c.loop-frame.at _ (first_of (host c.args.hosting.now) c.loop-frame.at c.loop-frame.next c.args.count c.loop-frame._frame c.loop-frame-test.true c.loop-frame.invariant.can)

pub saved_word-at-requires-clause-frame : goal.saved_word-at-requires-clause-frame
saved_word-at-requires-clause-frame c =
    has_window (host c.args.hosting.now) c.loop-frame.next c.loop-frame.at _ (first_of (host c.args.hosting.now) c.loop-frame.at c.loop-frame.next c.args.count c.loop-frame._frame c.loop-frame-test.true c.loop-frame.invariant.can)

pub overflow_add-next : goal.overflow_add-next
overflow_add-next c =
    let h = host c.args.hosting.now in
    let low = can_low h (saved_at h.machine.memory c.loop-frame.at 14) (c.saved_word-next.result + 8) (c.args.count - (c.loop-frame._frame + 1))
    (next_as h c.loop-frame.at c.loop-frame.next c.args.count c.loop-frame._frame (saved_at h.machine.memory c.loop-frame.at 14) c.saved_word-next.result c.loop-frame-test.true refl c.saved_word-next.ensures c.loop-frame.invariant.can) in
    omega arith

pub loop-frame-preserved : goal.loop-frame-preserved
loop-frame-preserved c =
    let h = host c.args.hosting.now in
    let e = c.loop-frame.invariant.long in
    let more = ap length c.read_frame.ensures ∙ length-append c.loop-frame.into _ in
    record {
      frames = list_next_as (descriptor_at h) h.machine.memory c.args.count c.loop-frame._frame c.loop-frame.at c.loop-frame.next c.saved_word-at.result c.saved_word-next.result c.loop-frame.into c.read_frame.new.into
          c.loop-frame-test.true c.read_frame.ensures c.saved_word-at.ensures c.saved_word-next.ensures ∙ c.loop-frame.invariant.frames;
      long = more ∙ ap (λ n. n + 1) e;
      can = next_as h c.loop-frame.at c.loop-frame.next c.args.count c.loop-frame._frame c.saved_word-at.result c.saved_word-next.result c.loop-frame-test.true c.saved_word-at.ensures c.saved_word-next.ensures c.loop-frame.invariant.can;
    }

pub returns : goal.returns
returns c =
    list_done (descriptor_at (host c.args.hosting.now)) (host c.args.hosting.now).machine.memory c.args.count c.loop-frame._frame c.loop-frame.at c.loop-frame.next c.loop-frame.into _ c.loop-frame-test.false c.loop-frame.invariant.frames
