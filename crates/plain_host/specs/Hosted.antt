-- What a host holds, and which host that is.
use Rattle.std.specs.Prelude.{ℕ, ◌+◌, ◌-◌, List}
use Rattle.self_terms.specs.declared.bodies.Body.{Body}
use Rattle.object_maps.specs.declared.maps.SlotKind.{SlotKind}
use Rattle.sparc_machine.specs.Held.{Held, state}
use Rattle.plain_words.specs.declared.references.References.{References}
use Rattle.plain_words.specs.declared.units.Point.{Point}
use Rattle.plain_runs.specs.declared.status.Status.{Status}
use Rattle.plain_runs.specs.Host.{Host}
use Rattle.plain_runs.specs.Services.{settled}

pub record Hosted : Type 0 where
  pub machine : Held
  pub maps : List (List (ℕ × SlotKind))
  pub next : ℕ
  pub bodies : List Body
  pub references : References
  pub entries : List ℕ
  pub points : List Point
  pub statuses : List Status
  pub current : ℕ
  pub steps : ℕ
  pub cost : ℕ

-- the host that holds it
unfoldable pub host : Hosted → Host
host h = record {
  machine = state h.machine;
  maps = h.maps;
  next = h.next;
  bodies = h.bodies;
  references = h.references;
  entries = h.entries;
  points = h.points;
  statuses = h.statuses;
  current = h.current;
  steps = h.steps;
  cost = h.cost;
}

-- the counts are settled, and the machine is so many bytes before
abbrev pub goes_back : ℕ → ℕ → ℕ → Host → Host
goes_back bytes goal cost h =
    let s = settled goal cost h in
    record s { machine = record s.machine { pc = h.machine.pc - bytes; npc = h.machine.pc - bytes + 4 } }
