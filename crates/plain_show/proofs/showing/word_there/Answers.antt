use Rattle.std.proofs.Common.{◌≡◌, ◌∙◌, sym, true}
use Rattle.std.proofs.lemmas.Bool.{false≢true}
use Rattle.plain_host.specs.Hosted.{host}
use Rattle.plain_show.proofs.Shows.{nowhere}
use Rattle.plain_show.proofs.showing.word_there.Goals as goal

pub returns : goal.returns
returns c = nowhere (host c.args.hosting.now).machine.memory c.args.at (λ h. let is : c.is_word.result ≡ true = c.is_word.ensures.1 h in false≢true (sym c.if-is_word.false ∙ is))
