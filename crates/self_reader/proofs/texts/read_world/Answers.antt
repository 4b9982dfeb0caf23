use Rattle.std.proofs.Common.{◌≡◌, ◌∙◌, ap, subst, length, arith}
use Rattle.self_grammar.specs.Grammar.{World}
use Rattle.self_grammar.specs.Spelling.{world}
use Rattle.self_reader.specs.declared.texts.TheConstants.{LIMITS}
use Rattle.self_signs.specs.Signs.{signs}
use Rattle.self_reader.specs.Texts.{AreRead, IsRight, known}
use Rattle.self_reader.proofs.Closing.{whole, few}
use Rattle.self_reader.proofs.texts.read_world.Goals as goal

pub read_world_signs-requires : goal.read_world_signs-requires
read_world_signs-requires c = rw c.as_slice.ensures (whole _ c.in_ok-signs.ensures.closed)

pub returns-in-Ok-clause-found : goal.returns-in-Ok-clause-found
returns-in-Ok-clause-found c =
    let e : c.as_slice.result.now ≡ signs known c.args.bytes.now = c.as_slice.ensures ∙ c.in_ok-signs.ensures.exact ∙ ap (λ n. signs n c.args.bytes.now) c.in_ok-names.ensures.names in
    subst (λ ss. AreRead World (world LIMITS) ss c.in-Ok.items.items) e c.in-Ok.ensures.found

pub returns-in-Ok-clause-few : goal.returns-in-Ok-clause-few
returns-in-Ok-clause-few c =
    let e : c.as_slice.result.now ≡ signs known c.args.bytes.now = c.as_slice.ensures ∙ c.in_ok-signs.ensures.exact ∙ ap (λ n. signs n c.args.bytes.now) c.in_ok-names.ensures.names in
    let two : length c.in_ok-names.names ≡ 2 = ap (λ n. length n) c.in_ok-names.ensures.names in
    few c.args.bytes.now c.as_slice.result.now c.in-Ok.items.items (length c.signs_of.new.names) c.requires e c.in-Ok.ensures.found (omega (arith, two, c.in_ok-signs.ensures.few))

pub returns-in-Err-clause-refused : goal.returns-in-Err-clause-refused
returns-in-Err-clause-refused c =
    let e : c.as_slice.result.now ≡ signs known c.args.bytes.now = c.as_slice.ensures ∙ c.in_ok-signs.ensures.exact ∙ ap (λ n. signs n c.args.bytes.now) c.in_ok-names.ensures.names in
    subst (λ ss. IsRight World (world LIMITS) ss c.in-Err.stop) e c.in-Err.ensures.refused
