use Rattle.std.proofs.Common.{◌<◌, ℕ, subst}
use Rattle.std.proofs.lemmas.Option.{get_or_from_slice_get}
use Rattle.world_facts.proofs.Facts.{accepted_whole}
use Rattle.world_facts.proofs.Modest.{accepted_modest}
use Rattle.world_facts.proofs.accepted.image_of_text.Goals as goal

pub image_of-requires-clause-modest : goal.image_of-requires-clause-modest
image_of-requires-clause-modest c =
    let a = c.requires.text in
    accepted_modest a.limits a.known c.args.bytes.now a.text c.args.world a.size a.is c.requires.short a.made

pub image_of-requires-clause-whole : goal.image_of-requires-clause-whole
image_of-requires-clause-whole c =
    let a = c.requires.text in
    accepted_whole a.limits a.known c.args.bytes.now a.text c.args.world (λ i b at. subst (λ (z : ℕ). z < 256) (get_or_from_slice_get c.args.bytes.now i b 0 at) (c.type_inv.bytes i).fits) a.is a.made
