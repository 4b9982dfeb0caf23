use Rattle.std.proofs.Common.{◌∙◌, ap, nat_eq, ◌++◌, ◌∷◌, []}
use Rattle.indexmap.proofs.CallerLemmas.{insert_entry-new}
use Rattle.object_maps.specs.Slots.{slot_named}
use Rattle.object_maps.proofs.maps.Map.add.Goals as goal

pub returns-clause-added : goal.returns-clause-added
returns-clause-added c =
    c.in-Ok.ensures.entries
    ∙ insert_entry-new nat_eq c.self.inside.slots c.args.name.0 c.args.kind (ap (slot_named c.args.name.0) c.self.view_is ∙ c.requires.new)
    ∙ ap (λ z. z ++ (c.args.name.0, c.args.kind) ∷ []) c.self.view_is
