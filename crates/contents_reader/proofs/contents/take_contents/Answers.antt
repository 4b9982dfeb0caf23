use Rattle.std.proofs.Common.{rules}
use Rattle.contents_reader.proofs.Integers.{constant_held}
use Rattle.contents_reader.proofs.contents.take_contents.Goals as goal

pub returns-in-Integer : goal.returns-in-Integer
returns-in-Integer c = rw (c.in-Integer.is) (constant_held c.hold.result c.args.frames c.args.counts c.in-Integer.integer (search rules) c.hold.ensures)
