-- How the lines of an edit are passed: what private functions compute. No public clause cites this file.
use Rattle.std.specs.Prelude.{◌≡◌, ℕ, ◌+◌, ◌≤◌, true, false, List, take, drop, length, Some}
use Rattle.session_text.specs.declared.scripts.EditEnd.{EditEnd}
use Rattle.session_text.specs.Scripts.{lines, edit_text, commands_of}

-- So many bytes of this text are the text of an edit, so many lines belong to it with the one that ends it, and behind so
-- many bytes the next line begins.
pub record IsEditEnd (rest : List ℕ) (e : EditEnd) : Type 0 where
  pub text : edit_text (lines rest) ≡ Some (take e.text rest)
  pub skips : (n : ℕ) → commands_of true n (lines rest) ≡ commands_of false (n + e.lines) (lines (drop e.behind rest))
  pub inside : e.text ≤ length rest
  pub within : e.behind ≤ length rest
  pub few : e.lines ≤ e.behind
