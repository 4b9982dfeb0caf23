use Rattle.std.proofs.Common.{sym, ap, ◌∙◌}
use Rattle.std.specs.Prelude.{Some}
use Rattle.slot_lookup.proofs.Answering.{parent_value}
use Rattle.slot_lookup.proofs.sends.directed.Goals as goal

pub lookup-requires-clause-start : goal.lookup-requires-clause-start
lookup-requires-clause-start c =
    parent_value c.args.maps.now c.args.mem.now c.requires.sound.0 c.requires.sound.1.0 c.args.parent.0 c.args.holder c.in-Some-Parent.to
    (sym c.own_slot.ensures ∙ c.in-Some-Parent.is ∙ ap Some c.in-Some-Parent.field-0-is)
