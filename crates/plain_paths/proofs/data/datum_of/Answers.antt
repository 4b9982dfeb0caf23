use Rattle.std.proofs.lemmas.Bool.{false≢true}
use Rattle.plain_paths.proofs.Held.{sound, numbered_here}
use Rattle.plain_paths.proofs.data.datum_of.Goals as goal

pub map_of-map-requires : goal.map_of-map-requires
map_of-map-requires c = (sound c.args.maps.now c.args.mem.now c.args.word c.requires).readable

pub is_plain-requires : goal.is_plain-requires
is_plain-requires c = rw c.map_of-map.ensures (sound c.args.maps.now c.args.mem.now c.args.word c.requires).mapped

pub number_of-requires : goal.number_of-requires
number_of-requires c = numbered_here c.args.maps.now c.args.mem.now c.args.word c.requires (λ e. false≢true (c.if-is_int.ensures.1 e))
