use Rattle.std.proofs.Common.{◌++◌, arith}
use Rattle.std.specs.Prelude.{flat_map}
use Rattle.source_model.specs.Texts.{shown_byte}
use Rattle.plain_prints.specs.Lines.{bytes_from}
use Rattle.plain_prints.proofs.Piecing.{text_begins, text_goes, text_ends, front_goes}
use Rattle.plain_prints.proofs.Taking.{on_err}
use Rattle.plain_prints.proofs.pieces.Piece.put_text.Goals as goal

pub loop-k-init : goal.loop-k-init
loop-k-init g c = record { sent = text_begins (g.K.Sink.taken c.args.out.now) c.args.mem.now c.args.at c.args.count c.args.self.now; room = c.requires.room; later = omega arith }

pub returns-in_err-make_room-clause-front : goal.returns-in_err-make_room-clause-front
returns-in_err-make_room-clause-front g c =
    let taken = g.K.Sink.taken in
    on_err c.from_residual.result _ (front_goes (taken c.args.out.now) (taken c.loop-k.out) (taken c.make_room.new.out) c.loop-k.self _ _ c.loop-k.invariant.sent c.in_err-make_room.ensures.front)

pub loop-k-preserved : goal.loop-k-preserved
loop-k-preserved g c =
    let taken = g.K.Sink.taken in
    let before = c.loop-k.invariant.later in
    let later = c.make_room.ensures.cause.later in
    let room = c.in_ok-make_room.ensures.room in
    let len = c.put_shown.ensures.len in
    record {
      sent = text_goes (taken c.args.out.now) (taken c.loop-k.out) (taken c.make_room.new.out) c.args.mem.now c.args.at c.args.count c.loop-k.k c.load_byte.result c.loop-k.self c.make_room.new.self c.put_shown.new.self (c.args.self.now ++ flat_map shown_byte (bytes_from c.args.mem.now c.args.at c.args.count))
          c.loop-k-test.true c.loop-k.invariant.sent c.in_ok-make_room.ensures.sent c.load_byte.ensures.byte c.put_shown.ensures.text;
      room = omega (arith, room, len);
      later = omega (arith, before, later);
    }

pub returns-clause-sent : goal.returns-clause-sent
returns-clause-sent g c =
    let taken = g.K.Sink.taken in
    let past = c.loop-k-test.false in
    text_ends (taken c.args.out.now) (taken c.loop-k.out) c.args.mem.now c.args.at c.args.count c.loop-k.k c.loop-k.self _ (omega (arith, past)) c.loop-k.invariant.sent
