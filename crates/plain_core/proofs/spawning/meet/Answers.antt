use Rattle.std.proofs.Common.{refl, ◌∙◌, ap}
use Rattle.std.specs.Prelude.{codes}
use Rattle.plain_host.specs.Hosted.{host}
use Rattle.self_terms.specs.declared.errors.ErrorName.TheVariants as errors
use Rattle.object_maps.specs.declared.maps.SlotKind.TheVariants.{Constant, Parent, Field, Assign}
use Rattle.slot_lookup.specs.declared.sends.Found.TheVariants.{NotUnderstood, One, Ambiguous}
use Rattle.source_model.specs.Texts.{error_text}
use Rattle.plain_core.specs.Leading.{Stays}
use Rattle.plain_core.proofs.Births.{unmet}
use Rattle.plain_core.proofs.spawning.meet.Goals as goal

pub returns-in-NotUnderstood-clause-born : goal.returns-in-NotUnderstood-clause-born
returns-in-NotUnderstood-clause-born c = λ q text r named none. unmet (host c.args.hosting.now) c.args.name.0 c.args.lobby c.args.walk.now c.requires.lobby c.requires.room c.requires.few (NotUnderstood) (error_text errors.NotUnderstood) (c.requires.found ∙ c.in-NotUnderstood.is) refl q text r named

pub returns-in-Ambiguous-clause-born : goal.returns-in-Ambiguous-clause-born
returns-in-Ambiguous-clause-born c = λ q text r named none. unmet (host c.args.hosting.now) c.args.name.0 c.args.lobby c.args.walk.now c.requires.lobby c.requires.room c.requires.few (Ambiguous c.in-Ambiguous.first c.in-Ambiguous.second) (error_text errors.Ambiguous) (c.requires.found ∙ c.in-Ambiguous.is) refl q text r named

pub returns-in-Constant-clause-born : goal.returns-in-Constant-clause-born
returns-in-Constant-clause-born c = λ q text r named none. unmet (host c.args.hosting.now) c.args.name.0 c.args.lobby c.args.walk.now c.requires.lobby c.requires.room c.requires.few (One c.in-One.holder (Constant c.in-Constant.field-0)) (codes "not a method") (c.requires.found ∙ c.in-One.is ∙ ap (One c.in-One.holder) c.in-Constant.is) refl q text r named

pub returns-in-Parent-clause-born : goal.returns-in-Parent-clause-born
returns-in-Parent-clause-born c = λ q text r named none. unmet (host c.args.hosting.now) c.args.name.0 c.args.lobby c.args.walk.now c.requires.lobby c.requires.room c.requires.few (One c.in-One.holder (Parent c.in-Parent.field-0)) (codes "not a method") (c.requires.found ∙ c.in-One.is ∙ ap (One c.in-One.holder) c.in-Parent.is) refl q text r named

pub returns-in-Field-clause-born : goal.returns-in-Field-clause-born
returns-in-Field-clause-born c = λ q text r named none. unmet (host c.args.hosting.now) c.args.name.0 c.args.lobby c.args.walk.now c.requires.lobby c.requires.room c.requires.few (One c.in-One.holder (Field c.in-Field.field-0)) (codes "not a method") (c.requires.found ∙ c.in-One.is ∙ ap (One c.in-One.holder) c.in-Field.is) refl q text r named

pub returns-in-Assign-clause-born : goal.returns-in-Assign-clause-born
returns-in-Assign-clause-born c = λ q text r named none. unmet (host c.args.hosting.now) c.args.name.0 c.args.lobby c.args.walk.now c.requires.lobby c.requires.room c.requires.few (One c.in-One.holder (Assign c.in-Assign.field-0)) (codes "not a method") (c.requires.found ∙ c.in-One.is ∙ ap (One c.in-One.holder) c.in-Assign.is) refl q text r named

pub returns-in-NotUnderstood-clause-led : goal.returns-in-NotUnderstood-clause-led
returns-in-NotUnderstood-clause-led c = Stays

pub returns-in-Ambiguous-clause-led : goal.returns-in-Ambiguous-clause-led
returns-in-Ambiguous-clause-led c = Stays

pub returns-in-Constant-clause-led : goal.returns-in-Constant-clause-led
returns-in-Constant-clause-led c = Stays

pub returns-in-Parent-clause-led : goal.returns-in-Parent-clause-led
returns-in-Parent-clause-led c = Stays

pub returns-in-Field-clause-led : goal.returns-in-Field-clause-led
returns-in-Field-clause-led c = Stays

pub returns-in-Assign-clause-led : goal.returns-in-Assign-clause-led
returns-in-Assign-clause-led c = Stays
