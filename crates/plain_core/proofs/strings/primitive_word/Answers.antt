use Rattle.std.proofs.Common.{◌≡◌, ℕ, ◌+◌, ◌∙◌, ap, sym, subst}
use Rattle.std.specs.Prelude.{Option, Some, option_map, slice_get}
use Rattle.source_model.specs.declared.primitives.Primitive.{Primitive}
use Rattle.source_model.specs.Names.{text_named}
use Rattle.source_model.specs.Primitives.{row_string}
use Rattle.plain_prims.specs.Rows.{row_number}
use Rattle.plain_prims.proofs.Rows.{names_tell}
use Rattle.plain_host.specs.Hosted.{host}
use Rattle.plain_core.proofs.strings.primitive_word.Goals as goal

pub returns : goal.returns
returns c =
    let l = c.args.language.now in
    let text = text_named l.names c.args.name.0 in
    let is = c.row_string-row.ensures.is ∙ ap (λ (p : Option Primitive). row_string (option_map row_number p)) c.primitive.ensures ∙ ap row_string (sym (names_tell text c.args.args)) in
    subst (λ (k : ℕ). slice_get (host c.args.hosting.now).references.objects (l.fixed + k) ≡ Some c.string_at.result) is c.string_at.ensures
