use Rattle.plain_show.proofs.stacks.all_translate.Goals as goal

pub returns : goal.returns
returns c = λ k. (c.requires.all k).translates
