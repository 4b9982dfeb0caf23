-- Room for the units of all bodies.
use Rattle.std.specs.Prelude.{◌≡◌, ℕ, zero, suc, ◌+◌, ◌*◌, ◌<◌, ◌≤◌, List, [], ◌∷◌, length}
use Rattle.self_terms.specs.declared.bodies.Body.{Body}
use Rattle.plain_runs.specs.Host.{Host}

-- the most words that the unit of a body takes: a node reaches at most 64 contexts outwards
abbrev pub most_words : Body → ℕ
most_words x = 80 * length x.nodes + 16 * (length x.arguments + length x.locals) + 40

-- those of the bodies that have no unit yet
abbrev pub unput : List ℕ → List Body → ℕ
unput [] xs = 0
unput (e ∷ es) [] = 0
unput (zero ∷ es) (x ∷ xs) = most_words x + unput es xs
unput (suc at ∷ es) (x ∷ xs) = unput es xs

-- how many bodies have no unit yet
abbrev pub unmade : List ℕ → ℕ
unmade [] = 0
unmade (zero ∷ es) = 1 + unmade es
unmade (suc at ∷ es) = unmade es

-- There is room in the code region for all of them behind the units that stand; each body has its entry; and units know the lobby.
pub record HasRoom (h : Host) : Type 0 where
  pub each : length h.entries ≡ length h.bodies
  pub left : length h.points + unput h.entries h.bodies ≤ 8388352
  pub lobby : 0 < length h.references.objects
