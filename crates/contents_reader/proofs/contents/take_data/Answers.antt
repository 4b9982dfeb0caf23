use Rattle.std.proofs.Common.{rules}
use Rattle.contents_reader.proofs.Integers.{datum_held}
use Rattle.contents_reader.proofs.contents.take_data.Goals as goal

pub returns-in-Integer : goal.returns-in-Integer
returns-in-Integer c = rw (c.in-Integer.is) (datum_held c.hold_data.result c.args.frames c.args.counts c.in-Integer.integer (search rules) c.hold_data.ensures)
