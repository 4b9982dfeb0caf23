-- What the command `spawn` does, by what the host's lookup from the lobby finds.
use Rattle.std.specs.Prelude.{◌≡◌, ℕ, ◌-◌, ◌<◌, ◌≤◌, List, length, Option, Some, None, slice_get, codes}
use Rattle.self_terms.specs.declared.errors.ErrorName.{ErrorName}
use Rattle.self_terms.specs.declared.errors.ErrorName.TheVariants as errors
use Rattle.self_terms.specs.declared.values.BodyId.{BodyId}
use Rattle.self_terms.specs.declared.values.Value.TheVariants as values
use Rattle.object_maps.specs.declared.maps.SlotKind.TheVariants.{Constant, Parent, Field, Assign, Method}
use Rattle.slot_lookup.specs.declared.sends.Found.{Found}
use Rattle.slot_lookup.specs.declared.sends.Found.TheVariants.{NotUnderstood, One, Ambiguous}
use Rattle.slot_lookup.specs.Lookup.{found_from}
use Rattle.source_model.specs.Formed.{arity}
use Rattle.source_model.specs.Messages.{Met, Missing, meets}
use Rattle.source_model.specs.Names.{number_of}
use Rattle.source_model.specs.Script.{Spawn, refused, command}
use Rattle.source_model.specs.Soundness.{body_in, HasBody}
use Rattle.source_model.specs.State.{State, Reached}
use Rattle.source_model.specs.Texts.{error_text}
use Rattle.plain_words.specs.Translating.{CanTranslate}
use Rattle.plain_runs.specs.Host.{Host}
use Rattle.plain_answers.specs.Found.{IsMethod, error_of}
use Rattle.plain_lookups.specs.Telling.{MayLook}
use Rattle.plain_turns.specs.Resting.{Rests}

-- the number of the message, what it meets at the lobby, and what the host's lookup from the lobby's word finds
abbrev pub message : State → List ℕ → ℕ
message s text = number_of s.names text

abbrev pub lobby_meets : State → List ℕ → Met
lobby_meets s text = meets s (values.Object 0) (message s text)

abbrev pub lobby_finds : ℕ → Host → ℕ → ℕ → Found
lobby_finds room h lobby name = found_from h.maps h.machine.memory room lobby name

-- why the command is refused, by what was found
abbrev pub refusal : Found → Option (List ℕ)
refusal NotUnderstood = Some (error_text errors.NotUnderstood)
refusal (Ambiguous a b) = Some (error_text errors.Ambiguous)
refusal (One holder (Constant word)) = Some (codes "not a method")
refusal (One holder (Parent word)) = Some (codes "not a method")
refusal (One holder (Field place)) = Some (codes "not a method")
refusal (One holder (Assign place)) = Some (codes "not a method")
refusal (One holder (Method c)) = None

-- A method was found: the message meets that of the object whose word this is. Its body is there, and has its entry; and where the text takes no
-- arguments, neither does it.
pub record IsLobbyMethod (h : Host) (s : State) (r : Rests h s) (text : List ℕ) (holder : ℕ) (c : BodyId) : Type 0 where
  pub met : IsMethod r.sense s (lobby_meets s text) holder c
  pub given : HasBody h.bodies c.0
  pub translates : CanTranslate (body_in h.bodies c.0)
  pub entry : ℕ
  pub entry_is : slice_get h.entries (c.0 - 1) ≡ Some entry
  pub low : entry ≤ 0x12000000
  pub arguments : arity text ≡ 0 → length (body_in h.bodies c.0).arguments ≡ 0

-- The lookup may be made, and tells what the message meets and how the command ends, where it has no method.
pub record Tells (h : Host) (q : Reached) (r : Rests h q.state) (text : List ℕ) (lobby room : ℕ) : Type 0 where
  pub may : MayLook h.maps h.machine.memory room lobby
  pub missing : (e : ErrorName) → error_of (lobby_finds room h lobby (message q.state text)) ≡ Some e → lobby_meets q.state text ≡ Missing e
  pub method : (holder : ℕ) (c : BodyId) → lobby_finds room h lobby (message q.state text) ≡ One holder (Method c) → IsLobbyMethod h q.state r text holder c
  pub refuses : (why : List ℕ) → refusal (lobby_finds room h lobby (message q.state text)) ≡ Some why → length h.statuses < 4 → (stop : ℕ) → command (Spawn text) stop q ≡ refused why q

-- So it is while a session rests, where there is room for all objects.
abbrev pub BirthsMeet : Type 0
BirthsMeet = (h : Host) (q : Reached) (text : List ℕ) (lobby room : ℕ) → (r : Rests h q.state) → slice_get h.references.objects 0 ≡ Some lobby → h.next ≤ room → Tells h q r text lobby room

-- Four activities are the most.
abbrev pub FourAreMost : Type 0
FourAreMost = (h : Host) (q : Reached) (text : List ℕ) (stop : ℕ) → Rests h q.state → 4 ≤ length h.statuses → command (Spawn text) stop q ≡ refused (codes "too many activities") q
