-- What runs and commands leave of a state.
use Rattle.std.specs.Prelude.{◌≡◌, ℕ, ◌≤◌, List}
use Rattle.source_model.specs.State.{Activation, State, Reached}
use Rattle.source_model.specs.Step.{step, run}
use Rattle.source_model.specs.Script.{EditText, Command, Edit, Advisor, finish, edit, advisor, command}

-- what runs leave: the size, the number of accepted edits, the number of advisors that are left
pub record IsSteady (s t : State) : Type 0 where
  pub size : t.size ≡ s.size
  pub edits : t.edits ≡ s.edits
  pub advisors : t.advisors ≡ s.advisors

-- A step leaves them.
abbrev pub StepsKeep : Type 0
StepsKeep = (s : State) → IsSteady s (step s).state

-- A run of any number of steps leaves them.
abbrev pub RunsKeep : Type 0
RunsKeep = (n : ℕ) (r : Reached) → IsSteady r.state (run n r).state

-- So does a run to the end of the youngest of some activations.
abbrev pub FinishesKeep : Type 0
FinishesKeep = (n : ℕ) (all : List Activation) (r : Reached) → IsSteady r.state (finish n all r).state

-- all commands but `edit` and `advisor`
abbrev pub LeavesCounts : Command → Type 0
LeavesCounts (Edit path text) = ⊥
LeavesCounts (Advisor k) = ⊥
LeavesCounts _ = Unit {0}

-- Those commands leave them.
abbrev pub CommandsKeep : Type 0
CommandsKeep = (c : Command) (stop : ℕ) (r : Reached) → LeavesCounts c → IsSteady r.state (command c stop r).state

-- `advisor` leaves size and edits, and adds no advisor.
abbrev pub AdvisorsOnly : Type 0
AdvisorsOnly = (k : ℕ) (r : Reached) → ((advisor k r).state.size ≡ r.state.size) × ((advisor k r).state.edits ≡ r.state.edits) × ((advisor k r).state.advisors ≤ r.state.advisors)

-- It leaves all else too, and so all that a step reads.
abbrev pub AdvisorsAlone : Type 0
AdvisorsAlone = (k : ℕ) (r : Reached) → (advisor k r).state ≡ record r.state { advisors = (advisor k r).state.advisors }

-- An edit leaves the advisors.
abbrev pub EditsKeepAdvisors : Type 0
EditsKeepAdvisors = (path : List (List ℕ)) (text : EditText) (r : Reached) → (edit path text r).state.advisors ≡ r.state.advisors
