use Rattle.std.proofs.Common.{◌∙◌, ap, arith}
use Rattle.slot_lookup.specs.declared.sends.Found.TheVariants.{One}
use Rattle.plain_core.proofs.Handlers.{field_there, no_assignment}
use Rattle.plain_core.proofs.Serving.{word_small}
use Rattle.plain_core.proofs.handing.meet.Goals as goal

pub overflow_add-holder : goal.overflow_add-holder
overflow_add-holder c = let b = word_small _ (field_there _ _ _ _ _ c.requires.at c.requires.room c.requires.failed c.args.holder c.in-Field.place (c.requires.found ∙ ap (One c.args.holder) c.in-Field.is)) in omega (arith, b)

pub overflow_mul-place : goal.overflow_mul-place
overflow_mul-place c = let b = word_small _ (field_there _ _ _ _ _ c.requires.at c.requires.room c.requires.failed c.args.holder c.in-Field.place (c.requires.found ∙ ap (One c.args.holder) c.in-Field.is)) in omega (arith, b)

pub overflow_add-holder-in-Field : goal.overflow_add-holder-in-Field
overflow_add-holder-in-Field c = let b = word_small _ (field_there _ _ _ _ _ c.requires.at c.requires.room c.requires.failed c.args.holder c.in-Field.place (c.requires.found ∙ ap (One c.args.holder) c.in-Field.is)) in omega (arith, b)

pub word-word-requires : goal.word-word-requires
word-word-requires c = field_there _ _ _ _ _ c.requires.at c.requires.room c.requires.failed c.args.holder c.in-Field.place (c.requires.found ∙ ap (One c.args.holder) c.in-Field.is)

pub unreachable-requires : goal.unreachable-requires
unreachable-requires c = no_assignment _ _ _ _ _ c.requires.at c.requires.room c.requires.failed c.args.holder c.in-Assign.field-0 (c.requires.found ∙ ap (One c.args.holder) c.in-Assign.is)
