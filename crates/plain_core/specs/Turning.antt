-- What the calls inside a run do. Used by contracts of private functions alone.
use Rattle.std.specs.Prelude.{◌≡◌, ℕ, suc, ◌+◌, ◌-◌, ◌^◌, ◌<◌, ◌≤◌, ◌++◌, Bool, true, false, List, [], Option, Some, None}
use Rattle.io_ports.specs.Causes.{Takes}
use Rattle.self_terms.specs.declared.names.Name.{Name}
use Rattle.self_terms.specs.declared.nodes.Node.TheVariants as nodes
use Rattle.source_model.specs.declared.primitives.Primitive.{Primitive}
use Rattle.source_model.specs.declared.primitives.Primitive.TheVariants as prim
use Rattle.source_model.specs.Names.{text_named}
use Rattle.source_model.specs.State.{State, silent}
use Rattle.source_model.specs.Step.{run}
use Rattle.plain_words.specs.Going.{Goes}
use Rattle.plain_runs.specs.Host.{Host}
use Rattle.plain_runs.specs.Course.{with_machine}
use Rattle.plain_prims.specs.Rows.{primitive_of}
use Rattle.plain_turns.specs.Asking.{count, node_here}
use Rattle.plain_turns.specs.Events.{Serves, Reaches}
use Rattle.plain_turns.specs.Primitives.{Says}
use Rattle.plain_turns.specs.Resting.{IsGoing, IsAtTrap, HasRun}
use Rattle.plain_turns.specs.Rooms.{unmade}
use Rattle.plain_turns.specs.Turns.{StepsOn, BeginsAgain}
use Rattle.plain_core.specs.Language.{Language, IsSpoken}
use Rattle.plain_core.specs.declared.turning.Passed.{Passed}
use Rattle.plain_core.specs.declared.turning.Turn.{Turn}
use Rattle.plain_core.specs.declared.turning.Turn.TheVariants as turns

-- a run of the session goes on from some state to this count of steps
pub record CanGoOn (l : Language) (h : Host) (target : ℕ) : Type 0 where
  pub from : State
  pub spoken : IsSpoken l from
  pub out : List ℕ
  pub going : IsGoing h from target out

pub record StandsAt (l : Language) (h : Host) (trap target : ℕ) : Type 0 where
  pub from : State
  pub spoken : IsSpoken l from
  pub out : List ℕ
  pub at : IsAtTrap h trap from target out

-- it has come to a trap
pub record Came (h to : Host) (trap : ℕ) (from : State) (target : ℕ) (out : List ℕ) (g : IsGoing h from target out) : Type 0 where
  pub at : IsAtTrap to trap from target out
  pub counts : g.state.steps + g.stretch.steps ≤ count to

-- by so many instructions alone
pub record Went (h to : Host) (instructions : ℕ) : Type 0 where
  pub goes : Goes instructions h.machine to.machine
  pub is : to ≡ with_machine h to.machine

-- What a service comes to: a step more leads on, or a unit more; or the run has ended.
pub data Turned (h to : Host) (from : State) (target : ℕ) (out : List ℕ) : Turn → Type 0 where
  on : unmade to.entries ≡ unmade h.entries → StepsOn h to from target out → Turned h to from target out turns.On
  again : BeginsAgain h to from target out → Turned h to from target out turns.On
  ended : HasRun to from target out → Turned h to from target out turns.Ended

-- A service was done at a trap, and the sink took what its step prints.
pub record Served (l : Language) (trap : ℕ) (h to : Host) (target : ℕ) (old new : Option (List ℕ)) (t : Turn) : Type 0 where
  pub serves : Serves h to
  pub said : List ℕ
  pub takes : Takes old new said
  pub turned : (from : State) (out : List ℕ) → IsSpoken l from → IsAtTrap h trap from target out → Turned h to from target (out ++ said) t

-- A service was done that prints nothing and makes no object.
pub record Quiet (l : Language) (trap : ℕ) (h to : Host) (target : ℕ) (t : Turn) : Type 0 where
  pub served : (taken : Option (List ℕ)) → Served l trap h to target taken taken t
  pub objects : to.next ≡ h.next

-- The node at whose trap the machine stands is that of this primitive, of this name, with a handler or without.
pub record IsKnown (l : Language) (h : Host) (p : Primitive) (name : Name) (args : ℕ) (implied handler : Bool) : Type 0 where
  pub node_is : node_here h ≡ Some (nodes.Prim name args implied handler)
  pub is : primitive_of (text_named l.names name.0) args ≡ Some p

abbrev pub is_printing : Primitive → Bool
is_printing prim.StringPrint = true
is_printing prim.IntPrint = true
is_printing _ = false

-- what is written for one: what it prints, or nothing
abbrev pub Writes : Bool → Host → Primitive → List ℕ → Type 0
Writes true h p line = Says h p line
Writes false h p line = line ≡ []

-- The sink took a front of what the run prints from there on.
pub record Breaks (l : Language) (trap : ℕ) (h : Host) (target : ℕ) (old new : Option (List ℕ)) : Type 0 where
  pub said : List ℕ
  pub takes : Takes old new said
  pub front : (from : State) (out : List ℕ) → IsSpoken l from → IsAtTrap h trap from target out → (rest : List ℕ) × ((run (target - from.steps) (silent from)).out ≡ out ++ said ++ rest)

-- how far a run may still go: steps that are left, and units that may still be put
abbrev pub far : ℕ → Host → ℕ
far target h = (target + 2 - count h) + unmade h.entries

-- the trap behind a turn, or the end of the run
abbrev pub Next : Host → State → ℕ → List ℕ → Option ℕ → Type 0
Next to from target out (Some trap) = IsAtTrap to trap from target out
Next to from target out None = HasRun to from target out

abbrev pub IsLess : ℕ → Host → Host → Option ℕ → Type 0
IsLess target h to (Some trap) = far target to < far target h
IsLess target h to None = Unit {0}

-- A turn: one service, and the instructions to the next trap, where the run hasn't ended.
pub record TurnsOn (l : Language) (trap : ℕ) (h to : Host) (target : ℕ) (old new : Option (List ℕ)) (p : Passed) : Type 0 where
  pub reached : Reaches h p.instructions 1 to
  pub few : p.instructions ≤ 2 ^ 40
  pub said : List ℕ
  pub takes : Takes old new said
  pub at : (from : State) (out : List ℕ) → IsSpoken l from → IsAtTrap h trap from target out → Next to from target (out ++ said) p.next
  pub less : IsLess target h to p.next

-- how far a run may still go, with the trap at which it stands
abbrev pub still : ℕ → Host → Option ℕ → ℕ
still target h (Some trap) = suc (far target h)
still target h None = 0

-- From wherever a run goes on there, it has ended, and the sink took what was printed; or it broke off, and a front was taken.
pub record Ran (l : Language) (h to : Host) (target : ℕ) (old new : Option (List ℕ)) : Type 0 where
  pub said : List ℕ
  pub takes : Takes old new said
  pub ran : (from : State) (out : List ℕ) → IsSpoken l from → IsGoing h from target out → HasRun to from target (out ++ said)

pub record Broken (l : Language) (h : Host) (target : ℕ) (old new : Option (List ℕ)) : Type 0 where
  pub said : List ℕ
  pub takes : Takes old new said
  pub front : (from : State) (out : List ℕ) → IsSpoken l from → IsGoing h from target out → (rest : List ℕ) × ((run (target - from.steps) (silent from)).out ≡ out ++ said ++ rest)
