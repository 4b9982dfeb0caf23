-- A state that was reached while this was printed.
use Rattle.std.specs.Prelude.{ℕ, List}
use Rattle.source_model.specs.State.{State, Reached}

abbrev pub printed : State → List ℕ → Reached
printed s out = record { state = s; out = out }
