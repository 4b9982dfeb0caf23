use Rattle.std.proofs.Common.{◌≤◌, ◌++◌, length}
use Rattle.std.specs.Prelude.{flat_map}
use Rattle.source_model.specs.Texts.{shown_byte}
use Rattle.plain_prints.specs.Lines.{IsSent, bytes_from}
use Rattle.plain_prints.proofs.Piecing.{shown_from}
use Rattle.plain_prints.proofs.pieces.Piece.put_text.Given as goal

abbrev pub invariant-loop-k : goal.invariant-loop-k
invariant-loop-k g l =
    let taken = g.K.Sink.taken in
    let faults = g.K.Sink.faults in
    record {
      sent : IsSent (taken l.fn.out) (taken l.out) (l.self ++ shown_from l.mem l.at l.count l.k) (l.fn.self ++ flat_map shown_byte (bytes_from l.mem l.at l.count));
      room : length l.self ≤ 4095;
      later : faults l.fn.out ≤ faults l.out;
    }
