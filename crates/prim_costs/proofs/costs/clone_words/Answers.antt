use Rattle.std.proofs.Common.{◌∙◌, ◌<◌, ℕ, sym, subst, arith, length}
use Rattle.heap_cells.proofs.Cloned.{ready, size_ready}
use Rattle.heap_cells.proofs.Reading.{value_sound}
use Rattle.prim_costs.proofs.costs.clone_words.Goals as goal

pub map_of-map-requires : goal.map_of-map-requires
map_of-map-requires c =
    let v = c.requires.1 in
    (value_sound c.args.maps.now c.args.mem.now c.requires.0 v.cells v.places v.objects v.made v.is v.value c.args.value v.stands).readable

pub words_in-requires-clause-mapped : goal.words_in-requires-clause-mapped
words_in-requires-clause-mapped c =
    let v = c.requires.1 in
    subst (λ (z : ℕ). z < length c.args.maps.now) (sym c.map_of-map.ensures)
    (value_sound c.args.maps.now c.args.mem.now c.requires.0 v.cells v.places v.objects v.made v.is v.value c.args.value v.stands).mapped

pub words_in-requires-clause-size : goal.words_in-requires-clause-size
words_in-requires-clause-size c = λ e.
    let r = ready c.args.maps.now c.args.mem.now c.requires.0 c.args.value c.requires.1 (let same = c.map_of-map.ensures in let ge = c.if-map-lt2.false in omega arith) in
    size_ready c.args.maps.now c.args.mem.now c.requires.0 c.args.value r (sym c.map_of-map.ensures ∙ e)
