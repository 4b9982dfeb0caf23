-- A session with its advisors.
use Rattle.std.specs.Prelude.{◌≡◌, ℕ, ◌++◌, List}
use Rattle.source_model.specs.State.{State, Reached}
use Rattle.plain_runs.specs.Host.{Host}
use Rattle.plain_session.specs.Sessions as words

-- What it holds: a session in plain code, and how many advisors are left behind the present one.
pub record Session : Type 0 where
  pub plain : words.Session
  pub left : ℕ

-- its machine and host
abbrev pub host_of : Session → Host
host_of x = words.host_of x.plain

-- The session in plain code shows the state, and so many advisors are left.
pub record Shows (x : Session) (s : State) : Type 0 where
  pub plain : words.Shows x.plain s
  pub advised : x.left ≡ s.advisors

abbrev pub IsShown : Session → Type 0
IsShown x = (s : State) × Shows x s

-- Whatever the session shows, and whatever was written before: it then shows what the command comes to, which writes this text.
abbrev pub Obeys : Session → Session → (Reached → Reached) → List ℕ → Type 0
Obeys x y does text = (q : Reached) → Shows x q.state → Shows y (does q).state × ((does q).out ≡ q.out ++ text)
