-- The lines of a session, as they are asked for.
use Rattle.std.specs.Prelude.{ℕ, ◌-◌, ◌<◌, ◌≤◌, ◌==◌, if◌then◌else◌, List, [], ◌++◌, length, slice_get, codes, decimal}
use Rattle.self_terms.specs.declared.nodes.Place.{Place}
use Rattle.source_model.specs.declared.objects.Core.{Core}
use Rattle.source_model.specs.Texts.{out_line}
use Rattle.source_model.specs.Lines.{line, activity_line, stop_line, error_line}
use Rattle.session_text.specs.declared.lines.ShownValue.{ShownValue}
use Rattle.session_text.specs.Frames.{act_text, ActHasRoom}
pub use Rattle.session_text.specs.Values.{maker_text, block_text, shown_text, as_shown}
use Rattle.session_text.specs.declared.lines.LineText.{LineText}
use Rattle.session_text.specs.declared.lines.LineText.TheVariants as lines

-- the mark of the text of an accepted edit, none for that of the world
abbrev pub edit_mark : ℕ → List ℕ
edit_mark edit = if edit == 0 then [] else codes "e" ++ decimal edit ++ codes "/"

abbrev pub spot_text : ℕ → ℕ → List ℕ
spot_text at_line column = decimal at_line ++ codes ":" ++ decimal column

abbrev pub placed_line : List ℕ → Place → List ℕ
placed_line text p = line (text ++ codes " at " ++ spot_text p.line p.column)

abbrev pub advisor_line : ℕ → List ℕ
advisor_line k = line (codes "advisor " ++ decimal k)

abbrev pub check_line : ℕ → ℕ → ℕ → List ℕ
check_line objects bodies size = line (codes "ok " ++ decimal objects ++ codes " objects " ++ decimal bodies ++ codes " bodies size " ++ decimal size)

abbrev pub refused_line : ℕ → List ℕ
refused_line n = line (codes "script refused line " ++ decimal n)

abbrev pub done_line : Core → ShownValue → ℕ → List ℕ
done_line core v steps = line (codes "done " ++ shown_text core v ++ codes " at " ++ decimal steps)

abbrev pub line_text : LineText → List ℕ
line_text (lines.Fixed text) = line text.now
line_text (lines.Placed text p) = placed_line text.now p
line_text (lines.Activity k) = activity_line k
line_text (lines.Advisor k) = advisor_line k
line_text (lines.Check objects bodies size) = check_line objects bodies size
line_text (lines.ScriptRefused n) = refused_line n
line_text (lines.Stop steps p) = stop_line steps p
line_text (lines.Done v core steps) = done_line core v steps
line_text (lines.Error name steps p) = error_line name steps p
line_text (lines.Frame shown position core names bodies) = act_text core names.now bodies.now position (slice_get shown.now (position - 1))
line_text (lines.Out bytes) = out_line bytes.now

-- a line's own bytes are few enough that it has room
abbrev pub HasRoom : LineText → Type 0
HasRoom (lines.Fixed text) = length text.now ≤ 4000000
HasRoom (lines.Placed text p) = length text.now ≤ 4000000
HasRoom (lines.Frame shown position core names bodies) = (0 < position) × ActHasRoom core names.now bodies.now position (slice_get shown.now (position - 1))
HasRoom (lines.Out bytes) = length bytes.now ≤ 1048576
HasRoom _ = Unit {0}
