-- What lookups see that read the machine's memory.
use Rattle.std.specs.Prelude.{ℕ}
use Rattle.source_model.specs.Messages.{Met}
use Rattle.source_model.specs.State.{State}
use Rattle.frame_walk.specs.Raw.{Raw}
use Rattle.raw_steps.specs.Meeting.{HasCore}
use Rattle.raw_steps.specs.Stands.{Sense, Stands}
use Rattle.plain_runs.specs.Host.{Host, raw_of}
use Rattle.plain_steps.specs.Steps.{StandsFor}
use Rattle.plain_answers.specs.Found.{IsAssignment}

-- what machine and host show, over all words of memory and not those of the heap alone
abbrev pub whole : Host → Raw
whole h = record (raw_of h) { mem = h.machine.memory }

-- it stands for the same state, so that what lookups tell holds of the machine's memory
abbrev pub WholeStands : Type 0
WholeStands = (z : Sense) (h : Host) (s : State) → StandsFor z h s → Stands z (whole h) s × HasCore (whole h) s z

-- and so do the assignment slots that they find
abbrev pub WholeAssigns : Type 0
WholeAssigns = (z : Sense) (h : Host) (s : State) → StandsFor z h s → (met : Met) (name holder place : ℕ) → IsAssignment z (whole h) s met name holder place → IsAssignment z (raw_of h) s met name holder place
