use Rattle.heap_cells.proofs.Written.{string_made}
use Rattle.heap_cells.proofs.packing.new_string.Goals as goal

pub returns-clause-made : goal.returns-clause-made
returns-clause-made c = λ maps h p objects made is.
    string_made maps c.args.mem.now c.write.new.mem c.args.heap.now h p objects made c.args.bytes.now is c.write.ensures c.requires.room
