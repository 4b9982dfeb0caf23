use Rattle.std.proofs.Common.{◌≡◌, ◌∙◌, subst}
use Rattle.self_grammar.specs.Grammar.{Edit}
use Rattle.self_grammar.specs.Spelling.{edit}
use Rattle.self_reader.specs.declared.texts.TheConstants.{LIMITS}
use Rattle.self_signs.specs.Signs.{signs}
use Rattle.self_reader.specs.Texts.{IsRight}
use Rattle.self_reader.proofs.Closing.{whole}
use Rattle.self_reader.proofs.texts.read_slot.Goals as goal

pub read_edit_signs-requires : goal.read_edit_signs-requires
read_edit_signs-requires c = rw c.as_slice.ensures (whole _ c.in_ok-signs.ensures.closed)

pub returns-clause-refused : goal.returns-clause-refused
returns-clause-refused c =
    let e : c.as_slice.result.now ≡ signs c.args.names.now c.args.bytes.now = c.as_slice.ensures ∙ c.in_ok-signs.ensures.exact in
    subst (λ ss. IsRight Edit (edit LIMITS) ss c.in-Err.stop) e c.in-Err.ensures.refused
