use Rattle.std.proofs.Common.{◌-◌, ◌∙◌, ap, sym, arith}
use Rattle.std.specs.Prelude.{Some}
use Rattle.source_model.specs.Names.{text_named}
use Rattle.plain_prims.specs.Rows.{primitive_of, taking}
use Rattle.plain_core.specs.Language.{Language}
use Rattle.plain_core.proofs.Known.{rows_tell}
use Rattle.plain_core.proofs.language.Language.primitive.Goals as goal

pub returns-in-Some : goal.returns-in-Some
returns-in-Some c =
    let names = c.self.inside.names in
    let n = c.args.name.0 in
    let some = c.if-name-eq0.false in
    c.taking.ensures ∙ ap (taking c.args.args) (sym (rows_tell names c.self.inside.rows.items n (n - 1) (Some c.in-Some.prim) c.self.invariant.0 (omega (arith, some)) (sym c.row_at.ensures ∙ c.in-Some.is)))
    ∙ ap (λ (l : Language). primitive_of (text_named l.names n) c.args.args) c.self.view_is
