-- A session over a world.
use Rattle.std.specs.Prelude.{◌≡◌, ℕ, ◌+◌, ◌^◌, ◌≤◌, ◌++◌, List, Option, codes}
use Rattle.io_ports.specs.Causes.{Takes, TakesFront}
use Rattle.source_model.specs.State.{State, Reached}
use Rattle.source_model.specs.Lines.{line, activity_line}
use Rattle.source_model.specs.Texts.{error_text}
use Rattle.plain_host.specs.Hosted.{Hosted, host}
use Rattle.plain_runs.specs.Host.{Host}
use Rattle.plain_turns.specs.Resting.{Rests}
use Rattle.plain_core.specs.Language.{Language, IsSpoken, KnowsCore}
use Rattle.plain_core.specs.Leading.{Leads}
use Rattle.plain_core.specs.declared.spawning.Birth.{Birth}
use Rattle.plain_core.specs.declared.spawning.Birth.TheVariants.{Begun, Refused, NotAMethod, TooMany}
use Rattle.plain_session.specs.Stacks.{AreShort}

-- What it holds: machine and host; room for walks over so many objects; what the host knows of the language; and how many instructions its machine has
-- done, and how many services its host has given.
pub record Session : Type 0 where
  pub hosted : Hosted
  pub room : ℕ
  pub language : Language
  pub instructions : ℕ
  pub services : ℕ

-- its machine and host
abbrev pub host_of : Session → Host
host_of x = host x.hosted

-- Machine and host stand for the state, which is one of the session; units know the words of the language's objects; there is room for walks over all
-- objects; and the names of bodies leave room for the lines of their activations.
pub record Shows (x : Session) (s : State) : Type 0 where
  pub rests : Rests (host_of x) s
  pub spoken : IsSpoken x.language s
  pub known : KnowsCore (host_of x) x.language
  pub room : (host_of x).next ≤ x.room
  pub short : AreShort s.names s.bodies

abbrev pub IsShown : Session → Type 0
IsShown x = (s : State) × Shows x s

-- Whatever the session shows, and whatever was written before: it then shows what the command comes to, which writes this text.
abbrev pub Obeys : Session → Session → (Reached → Reached) → List ℕ → Type 0
Obeys x y does text = (q : Reached) → Shows x q.state → Shows y (does q).state × ((does q).out ≡ q.out ++ text)

-- The sink took the first part of that text, and this line is the rest.
pub record HasObeyed (x y : Session) (does : Reached → Reached) (old new : Option (List ℕ)) (line : List ℕ) : Type 0 where
  pub said : List ℕ
  pub takes : Takes old new said
  pub obeys : Obeys x y does (said ++ line)

-- The command broke off, and a front of what it writes was taken.
abbrev pub HasBroken : Session → (Reached → Reached) → Option (List ℕ) → Option (List ℕ) → Type 0
HasBroken x does old new = (q : Reached) → Shows x q.state → (text : List ℕ) × ((does q).out ≡ q.out ++ text) × TakesFront old new text

-- Machine and host were reached by instructions and services alone, with as many of each as the counts rose.
pub record IsLed (x y : Session) : Type 0 where
  pub instructions : ℕ
  pub services : ℕ
  pub leads : Leads (host_of x) instructions services (host_of y)
  pub done : y.instructions ≡ x.instructions + instructions
  pub served : y.services ≡ x.services + services

-- the counts have room for those of a run
pub record CanCount (x : Session) : Type 0 where
  pub instructions : x.instructions ≤ 2 ^ 126
  pub services : x.services ≤ 2 ^ 62

-- they rose by no more than those of a run, or of one that goes on until an activation is gone
pub record CountsFew (x y : Session) : Type 0 where
  pub instructions : y.instructions ≤ x.instructions + 2 ^ 73
  pub services : y.services ≤ x.services + 2 ^ 33

-- the line of what a spawn came to, where machine and host are these then
abbrev pub birth_text : Host → Birth → List ℕ
birth_text h Begun = activity_line (h.current + 1)
birth_text h (Refused e) = line (codes "refused " ++ error_text e)
birth_text h NotAMethod = line (codes "refused not a method")
birth_text h TooMany = line (codes "refused too many activities")
