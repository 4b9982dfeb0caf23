-- Over the world of an accepted text a session may begin, with no test of it.
use Rattle.std.specs.Prelude.{◌≡◌, ℕ, ◌≤◌, ◌++◌, true, List, [], ◌∷◌, codes}
use Rattle.source_model.specs.Names.{number_of, evaluator}
use Rattle.source_model.specs.Formed.{Takes, IsWellFormed}
use Rattle.world_build.specs.Worlds.{World}
use Rattle.world_state.specs.Begun.{begun}
use Rattle.world_blocks.specs.Sessions.{session_names}
use Rattle.world_test.specs.Further.{starts_fixed}
use Rattle.world_facts.specs.Accepted.{IsAccepted}
use Rattle.world_code.specs.Limited.{IsLimited}
use Rattle.plain_opens.specs.Opens.{all_words}

-- The world's names start with the two fixed ones, where those alone were given before the text.
abbrev pub NamesStartFixed : Type 0
NamesStartFixed = (bytes : List ℕ) (w : World) (a : IsAccepted bytes w) → IsLimited a.limits → a.known ≡ codes "_IntAdd:" ∷ codes "_IntSub:" ∷ [] → starts_fixed w.names ≡ true

-- With those of a session, the names of a world go on behind those that were there.
abbrev pub NamesGoOn : Type 0
NamesGoOn = (w : World) → (more : List (List ℕ)) × (session_names w ≡ w.names ++ more)

-- There the message that evaluates a block of so many arguments has a number, and takes them.
abbrev pub EvaluatorsTaken : Type 0
EvaluatorsTaken = (w : World) (k : ℕ) → k ≤ 5 → Takes (session_names w) (number_of (session_names w) (evaluator k)) k

-- So does `value:With:`, which a failed primitive sends to its handler.
abbrev pub FailureTaken : Type 0
FailureTaken = (w : World) → Takes (session_names w) (number_of (session_names w) (codes "value:With:")) 2

-- So a session over the world begins with a well-formed state.
abbrev pub SessionsBegin : Type 0
SessionsBegin = (bytes : List ℕ) (w : World) (a : IsAccepted bytes w) → IsLimited a.limits → (advisors : ℕ) → IsWellFormed (begun w (session_names w) advisors)

-- The two fixed names stay first.
abbrev pub NamesStayFixed : Type 0
NamesStayFixed = (w : World) → starts_fixed w.names ≡ true → starts_fixed (session_names w) ≡ true

-- The code region has room for units of all bodies of the world.
abbrev pub UnitsHaveRoom : Type 0
UnitsHaveRoom = (bytes : List ℕ) (w : World) (a : IsAccepted bytes w) → IsLimited a.limits → all_words w.bodies ≤ 8388352
