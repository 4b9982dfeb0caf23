-- What is told by a script: when a command keeps a state well formed.
use Rattle.std.specs.Prelude.{◌≡◌, ℕ, ◌<◌, List, length, map}
use Rattle.self_terms.specs.declared.values.Datum.TheVariants as datum
use Rattle.self_terms.specs.declared.bodies.Body.{Body}
use Rattle.self_terms.specs.declared.bodies.Local.{Local}
use Rattle.source_model.specs.Objects.{Method}
use Rattle.source_model.specs.State.{Reached}
use Rattle.source_model.specs.Edits.{String, LocalText, BodyText, SlotText}
use Rattle.source_model.specs.Script.{Command, Spawn, Edit, Read, command, commands}
use Rattle.source_model.specs.Canon.{Each}
use Rattle.source_model.specs.Soundness.{HasBody, IsFit}
use Rattle.source_model.specs.Formed.{arity, IsSaid, ContentFits, IsWellFormed}

-- the bodies of a text by themselves, numbered from 1, without what their locals hold at first
abbrev pub told_local : LocalText → Local
told_local x = record { name = x.name; setter = x.setter; initial = datum.Nil }

abbrev pub told_body : BodyText → Body
told_body b = record { name = b.name; outer = b.outer; arguments = b.arguments; locals = map told_local b.locals; nodes = b.nodes; places = b.places }

abbrev pub told : SlotText → List Body
told t = map told_body t.bodies

-- a local that holds a string at first holds one of so many
abbrev pub InitialFits : ℕ → LocalText → Type 0
InitialFits strings x = (k : ℕ) → x.initial ≡ String k → k < strings

-- the text of one method slot: its bodies fit by themselves; what they say is among its strings; and the first is the method's,
-- which takes as many arguments as the slot's name says
pub record IsSlotText (names : List (List ℕ)) (t : SlotText) : Type 0 where
  pub bodies : (n : ℕ) → HasBody (told t) n → IsFit (told t) n
  pub said : Each (IsSaid names (length t.strings)) (told t)
  pub initials : Each (λ (b : BodyText). Each (InitialFits (length t.strings)) b.locals) t.bodies
  pub method : ContentFits names (told t) t.name (Method (record { 0 = 1 }))

-- an activity begins with a message without arguments; an edit gives the text of a method slot
abbrev pub CommandFits : List (List ℕ) → Command → Type 0
CommandFits names (Spawn name) = arity name ≡ 0
CommandFits names (Edit path (Read t)) = IsSlotText names t
CommandFits names _ = Unit {0}

-- Commands keep a state well formed, and so do scripts.

abbrev pub CommandsForm : Type 0
CommandsForm = (c : Command) (stop : ℕ) (r : Reached) → CommandFits r.state.names c → IsWellFormed r.state → IsWellFormed (command c stop r).state

abbrev pub ScriptsForm : Type 0
ScriptsForm = (script : List Command) (stops : List ℕ) (r : Reached) → Each (CommandFits r.state.names) script → IsWellFormed r.state → IsWellFormed (commands script stops r).state
