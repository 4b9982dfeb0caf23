-- The lines of activations, and whether their names leave them room.
use Rattle.std.specs.Prelude.{ℕ, ◌-◌, ◌<◌, ◌≤◌, Option, Some, None, List, [], length, slice_get}
use Rattle.self_terms.specs.declared.bodies.Body.{Body}
use Rattle.source_model.specs.Soundness.{body_in}
use Rattle.source_model.specs.State.{State}
use Rattle.session_text.specs.Frames.{ActHasNames, HasShortNames}
use Rattle.session_text.specs.LineTexts.{HasRoom, line_text}
use Rattle.session_text.specs.declared.acts.ShownAct.{ShownAct}
use Rattle.session_text.specs.declared.lines.LineText.{LineText}

-- The names of each body are short enough that the line of an activation of it has room.
abbrev pub AreShort : List (List ℕ) → List Body → Type 0
AreShort names bodies = (b : ℕ) → HasShortNames names (body_in bodies b)

-- so are those of all activations that are shown
abbrev pub AllNamed : List (List ℕ) → List Body → List ShownAct → Type 0
AllNamed names bodies shown = (position : ℕ) → 0 < position → position ≤ length shown → ActHasNames names bodies (slice_get shown (position - 1))

-- what is still to be written of a command, where that is a line or nothing
abbrev pub rest_text : Option LineText → List ℕ
rest_text (Some t) = line_text t
rest_text None = []

abbrev pub RestHasRoom : Option LineText → Type 0
RestHasRoom (Some t) = HasRoom t
RestHasRoom None = Unit {0}
