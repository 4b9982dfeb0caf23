use Rattle.std.proofs.Common.{◌∙◌, ap, arith}
use Rattle.slot_lookup.specs.declared.sends.Found.TheVariants.{One}
use Rattle.plain_core.proofs.Serving.{word_small, field_there}
use Rattle.plain_core.proofs.turning.meet.Goals as goal

pub overflow_add-holder : goal.overflow_add-holder
overflow_add-holder c = let b = word_small _ (field_there _ _ _ _ c.args.holder c.in-Field.place c.requires.at c.requires.room (c.requires.found ∙ ap (One c.args.holder) c.in-Field.is)) in omega (arith, b)

pub overflow_mul-place : goal.overflow_mul-place
overflow_mul-place c = let b = word_small _ (field_there _ _ _ _ c.args.holder c.in-Field.place c.requires.at c.requires.room (c.requires.found ∙ ap (One c.args.holder) c.in-Field.is)) in omega (arith, b)

pub overflow_add-holder-in-Field : goal.overflow_add-holder-in-Field
overflow_add-holder-in-Field c = let b = word_small _ (field_there _ _ _ _ c.args.holder c.in-Field.place c.requires.at c.requires.room (c.requires.found ∙ ap (One c.args.holder) c.in-Field.is)) in omega (arith, b)

pub word-word-requires : goal.word-word-requires
word-word-requires c = field_there _ _ _ _ c.args.holder c.in-Field.place c.requires.at c.requires.room (c.requires.found ∙ ap (One c.args.holder) c.in-Field.is)
