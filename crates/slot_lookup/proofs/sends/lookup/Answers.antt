use Rattle.std.proofs.Common.{sym, ◌∙◌}
use Rattle.slot_lookup.specs.Walk.{told}
use Rattle.slot_lookup.proofs.Answering.{own_found, above_found}
use Rattle.slot_lookup.proofs.sends.lookup.Goals as goal

pub returns-in-Some-clause-found : goal.returns-in-Some-clause-found
returns-in-Some-clause-found c =
    own_found c.args.maps.now c.args.mem.now c.args.walk.now c.args.start c.args.sel.name.0 c.in-Some.kind (sym c.own_slot.ensures ∙ c.in-Some.is)

pub returns-clause-found : goal.returns-clause-found
returns-clause-found c =
    c.show.ensures
    ∙ above_found c.args.maps.now c.args.mem.now c.args.walk.now c.args.start c.args.sel.name.0 (sym c.own_slot.ensures ∙ c.in_default.is) (told c.from_parents_of-met.result) c.from_parents_of-met.ensures.met
