-- Values, as they are shown.
use Rattle.std.specs.Prelude.{ℕ, ◌==◌, if◌then◌else◌, unwrap_or, List, ◌++◌, codes, decimal}
use Rattle.self_terms.specs.declared.values.Value.{Value}
use Rattle.self_terms.specs.declared.values.Value.TheVariants as values
use Rattle.source_model.specs.declared.objects.Core.{Core}
use Rattle.source_model.specs.State.{Activation}
use Rattle.source_model.specs.Texts.{integer_text}
use Rattle.source_model.specs.Lines.{object_text, position_in}
use Rattle.session_text.specs.declared.lines.ShownValue.{ShownValue}
use Rattle.session_text.specs.declared.lines.ShownValue.TheVariants as shown

-- the position of a block's maker, or a mark where it isn't live
abbrev pub maker_text : ℕ → List ℕ
maker_text k = if k == 0 then codes "-" else decimal k

abbrev pub block_text : ℕ → ℕ → List ℕ
block_text body maker = codes "[" ++ decimal body ++ codes "@" ++ maker_text maker ++ codes "]"

abbrev pub shown_text : Core → ShownValue → List ℕ
shown_text core (shown.Int i) = integer_text i
shown_text core (shown.Object o) = object_text core o
shown_text core (shown.Block body maker) = block_text body.0 maker

-- A value of the source beside the activations of the current activity, as it is shown.
abbrev pub as_shown : List Activation → Value → ShownValue
as_shown all (values.Int i) = shown.Int i
as_shown all (values.Object o) = shown.Object o
as_shown all (values.Block b k) = shown.Block b (unwrap_or (position_in all k) 0)
