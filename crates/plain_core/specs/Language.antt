-- What the host knows of the language in a session: the texts of its names, the objects that the language itself knows, the number of the first of the
-- strings that every world has, and the name of the message that a failed primitive sends to its handler.
use Rattle.std.specs.Prelude.{◌≡◌, ℕ, ◌+◌, ◌≤◌, List, length}
use Rattle.source_model.specs.declared.objects.Core.{Core}
use Rattle.source_model.specs.State.{State}
use Rattle.prim_table.specs.declared.answers.CoreWords.{CoreWords}
use Rattle.plain_runs.specs.Host.{Host}
use Rattle.plain_handlers.specs.Handling.{failure_name}
use Rattle.plain_turns.specs.Primitives.{KnowsWords}

pub record Language : Type 0 where
  pub names : List (List ℕ)
  pub core : Core
  pub fixed : ℕ
  pub failure : ℕ

-- A state is one of that session.
pub record IsSpoken (l : Language) (s : State) : Type 0 where
  pub names : s.names ≡ l.names
  pub core : s.core ≡ l.core
  pub fixed : s.fixed ≡ l.fixed
  pub failure : failure_name s ≡ l.failure

-- Units know the words of the objects that the language knows, and those of the strings of all errors and primitives.
pub record KnowsCore (h : Host) (l : Language) : Type 0 where
  pub words : CoreWords
  pub core : KnowsWords h l.core words
  pub strings : l.fixed + 26 ≤ length h.references.objects
