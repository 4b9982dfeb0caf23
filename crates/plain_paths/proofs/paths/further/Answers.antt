use Rattle.std.proofs.Common.{◌∙◌, sym, ap}
use Rattle.plain_paths.specs.Paths.{data_of}
use Rattle.plain_paths.proofs.Reached.{next_stands}
use Rattle.plain_paths.proofs.paths.further.Goals as goal

pub returns-clause-stands : goal.returns-clause-stands
returns-clause-stands c = λ word e. next_stands c.args.maps.now c.args.mem.now c.args.from c.args.name.0 word c.requires (sym (c.data_of.ensures ∙ ap data_of c.own_slot.ensures) ∙ e)
