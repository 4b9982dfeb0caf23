use Rattle.std.proofs.Common.{◌≡◌, ◌≤◌, ◌+◌, ◌*◌, ◌++◌, drop, length, codes}
use Rattle.std.specs.Prelude.{flat_map}
use Rattle.source_model.specs.Texts.{shown_byte}
use Rattle.plain_prints.proofs.pieces.Piece.put_line.Given as goal

abbrev pub invariant-loop-byte : goal.invariant-loop-byte
invariant-loop-byte l = record {
  text : l.self ++ flat_map shown_byte (drop l.byte-index l.bytes) ≡ codes "out " ++ flat_map shown_byte l.bytes;
  few : length l.self ≤ 4 + 4 * l.byte-index;
}
