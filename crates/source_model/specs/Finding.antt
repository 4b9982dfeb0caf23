-- What is found in a well-formed state.
use Rattle.std.specs.Prelude.{◌≡◌, ℕ, suc, List, ◌++◌, slice_get, slice_set, ◌∷◌, Option, Some, None, codes}
use Rattle.self_terms.specs.declared.values.Value.{Value}
use Rattle.source_model.specs.Names.{text_named}
use Rattle.source_model.specs.Objects.{Object, Assignable, Assignment, IsWhole, slots_at, slot_named, stored}
use Rattle.source_model.specs.State.{Activation, Running, State}
use Rattle.source_model.specs.Messages.{objects}
use Rattle.source_model.specs.Sends.{beyond_home}
use Rattle.source_model.specs.Soundness.{NextAccepts}
use Rattle.source_model.specs.Formed.{Takes, IsFormed}

-- what the next node sends its message to takes as many arguments as the message has
abbrev pub FindsMessages : Type 0
FindsMessages = (home : ℕ → ℕ) (s : State) → IsFormed home s → NextAccepts home s

-- each parent is one of the objects, so that the laws of lookup hold
abbrev pub FindsParents : Type 0
FindsParents = (home : ℕ → ℕ) (s : State) → IsFormed home s → IsWhole (objects s)

-- an assignment slot stands directly behind the assignable slot whose name it has, with a colon; and storing by it gives that one
-- slot another value, and changes no other
pub record IsAssigned (names : List (List ℕ)) (slots : Object) (name : ℕ) : Type 0 where
  pub at : ℕ
  pub front : ℕ
  pub old : Value
  pub here : slice_get slots (suc at) ≡ Some (record { name = name; content = Assignment })
  pub before : slice_get slots at ≡ Some (record { name = front; content = Assignable old })
  pub named : text_named names name ≡ text_named names front ++ codes ":"
  pub stores : (v : Value) → stored name v slots ≡ slice_set slots at (record { name = front; content = Assignable v })

abbrev pub FindsAssigned : Type 0
FindsAssigned = (home : ℕ → ℕ) (s : State) (o name : ℕ) → IsFormed home s
    → slot_named name (slots_at (objects s) o) ≡ Some (record { name = name; content = Assignment }) → Takes s.names name 1 × IsAssigned s.names (slots_at (objects s) o) name

-- a block's home method is live in its activity, so that its non-local return leads to what is directly older than the home
abbrev pub HasHome : Option ℕ → List Activation → Type 0
HasHome None older = Unit {0}
HasHome (Some k) older = (younger : List Activation) × ((home : Activation) × ((older ≡ younger ++ home ∷ beyond_home (Some k) older) × (home.maker ≡ None)))

abbrev pub FindsHome : Type 0
FindsHome = (home : ℕ → ℕ) (s : State) (a : Activation) (older : List Activation) → IsFormed home s → slice_get s.activities s.current ≡ Some (Running (a ∷ older)) → HasHome a.maker older
