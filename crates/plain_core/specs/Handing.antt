-- Primitives that fail, and messages to their handlers. Used by contracts of private functions alone.
use Rattle.std.specs.Prelude.{ℕ}
use Rattle.self_terms.specs.declared.errors.ErrorName.{ErrorName}
use Rattle.self_terms.specs.declared.names.Name.{Name}
use Rattle.slot_lookup.specs.declared.sends.Found.{Found}
use Rattle.source_model.specs.State.{State}
use Rattle.plain_runs.specs.Host.{Host}
use Rattle.plain_turns.specs.Handlers.{Fails, FailsHandled, handed, found_there}
use Rattle.plain_core.specs.Language.{Language, IsSpoken}
use Rattle.plain_core.specs.declared.handing.Failure.{Failure}

-- A primitive of this name fails with this error, in whatever state of the session.
abbrev pub FailsBy : Language → Host → Name → ℕ → ErrorName → Type 0
FailsBy l h name args e = (from : State) → IsSpoken l from → Fails h from name args e

-- The node at whose trap the machine stands is that of a primitive with a handler, and this is how it fails.
abbrev pub HasFailed : Language → Host → Failure → Type 0
HasFailed l h f = (from : State) → IsSpoken l from → FailsHandled h from f.name f.args f.error f.primitive

-- the host with the message to the handler in place of the primitive's, and what that meets
abbrev pub with_message : Failure → Host → Host
with_message f h = handed f.args f.error f.primitive h

abbrev pub found_by_message : Language → ℕ → Failure → Host → Found
found_by_message l room f h = found_there room l.failure (with_message f h)
