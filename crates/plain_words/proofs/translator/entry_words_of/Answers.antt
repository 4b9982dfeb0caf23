use Rattle.std.proofs.Common.{◌≡◌, ap, sym, ◌∙◌}
use Rattle.plain_words.specs.Units.{entry_size, owns_context}
use Rattle.plain_words.proofs.Long.{entry_long}
use Rattle.plain_words.proofs.translator.entry_words_of.Goals as goal

pub returns-clause-value : goal.returns-clause-value
returns-clause-value c r =
    let size : c.entry_size.result ≡ entry_size (owns_context c.args.body.now) = c.entry_size.ensures.value ∙ ap entry_size c.owns_context.ensures in
    rw c.as_slice-arguments.ensures (rw c.as_slice-locals.ensures (rw size (sym (entry_long r c.args.body.now))))
