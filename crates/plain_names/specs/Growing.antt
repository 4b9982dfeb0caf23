-- Further names come behind those of a state.
use Rattle.std.specs.Prelude.{◌≡◌, ℕ, ◌≤◌, List, ◌++◌, length}
use Rattle.self_terms.specs.declared.bodies.Body.{Body}
use Rattle.source_model.specs.Names.{number_of, evaluator}
use Rattle.source_model.specs.declared.objects.Slot.{Slot}
use Rattle.source_model.specs.declared.objects.Thing.{Thing}
use Rattle.source_model.specs.declared.objects.Thing.TheVariants.{Plain, Vector, Text}
use Rattle.source_model.specs.Canon.{Each}
use Rattle.source_model.specs.Soundness.{body_in}
use Rattle.source_model.specs.Formed.{ThingFits}
use Rattle.source_model.specs.State.{State}
use Rattle.plain_runs.specs.Host.{Host}
use Rattle.plain_turns.specs.Resting.{Rests}
use Rattle.world_build.specs.Worlds.{World}
use Rattle.world_state.specs.Begun.{begun}
use Rattle.world_blocks.specs.Sessions.{session_names, HasFewArguments}

-- the state, with further names
abbrev pub with_names : State → List (List ℕ) → State
with_names s more = record s { names = s.names ++ more }

-- The slots of its things fit with the further names too; and the message that evaluates a body's blocks has its number already, or isn't among them.
pub record MayName (s : State) (more : List (List ℕ)) : Type 0 where
  pub slots : Each (ThingFits (s.names ++ more) s.bodies) s.things
  pub evaluators : (b : ℕ) → number_of s.names (evaluator (length (body_in s.bodies b).arguments)) ≡ 0 → number_of more (evaluator (length (body_in s.bodies b).arguments)) ≡ 0

-- Where machine and host rest for a state, they rest for it with the further names.
abbrev pub NamesGoOn : Type 0
NamesGoOn = (h : Host) (s : State) (more : List (List ℕ)) → MayName s more → Rests h s → Rests h (with_names s more)

-- each slot has the name of a text, or that of none, which is 0
abbrev pub AreNamed : List (List ℕ) → Thing → Type 0
AreNamed names (Plain slots) = Each (λ (x : Slot). x.name ≤ length names) slots
AreNamed names (Vector items) = Unit {0}
AreNamed names (Text bytes) = Unit {0}

-- Where that is so, slots that fit do with any further names.
abbrev pub SlotsGoOn : Type 0
SlotsGoOn = (names more : List (List ℕ)) (bodies : List Body) (things : List Thing) → Each (AreNamed names) things → Each (ThingFits names bodies) things → Each (ThingFits (names ++ more) bodies) things

-- A session over a world where no body has more than five arguments goes on so from its beginning, with any further names with which the slots fit.
abbrev pub SessionsGoOn : Type 0
SessionsGoOn = (h : Host) (w : World) (more : List (List ℕ)) (advisors : ℕ) → HasFewArguments w → Each (ThingFits (session_names w ++ more) w.bodies) w.things
    → Rests h (begun w (session_names w) advisors) → Rests h (begun w (session_names w ++ more) advisors)
