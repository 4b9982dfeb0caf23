use Rattle.std.proofs.Common.{◌≡◌, ℕ, ◌+◌, ◌-◌, ◌*◌, ◌≤◌, List, ◌++◌}
use Rattle.io_ports.specs.Causes.{Takes}
use Rattle.plain_host.specs.Hosted.{host}
use Rattle.source_model.specs.State.{State}
use Rattle.plain_turns.specs.Events.{Reaches}
use Rattle.plain_turns.specs.Resting.{IsGoing}
use Rattle.plain_turns.specs.Rooms.{unmade}
use Rattle.plain_core.specs.Language.{IsSpoken}
use Rattle.plain_core.specs.Turning.{Next, still}
use Rattle.plain_core.proofs.Spending.{behind}
use Rattle.plain_core.proofs.running.run_to.Given as goal

abbrev pub invariant-loop-at : goal.invariant-loop-at
invariant-loop-at g l = record {
  grown : l.fn.walk ≤ l.walk;
  room : (host l.hosting).next ≤ l.walk;
  same : (host l.hosting).references ≡ (host l.fn.hosting).references;
  stands : (from : State) × IsSpoken l.language from × (out : List ℕ) × Next (host l.hosting) from l.target out l.at;
  said : (line : List ℕ) × Takes (g.K.Sink.taken l.fn.out) (g.K.Sink.taken l.out) line × ((from : State) (out : List ℕ) → IsSpoken l.language from → IsGoing (host l.fn.hosting) from l.target out → Next (host l.hosting) from l.target (out ++ line) l.at);
  reached : Reaches (host l.fn.hosting) l.instructions l.services (host l.hosting);
  served : l.services + still l.target (host l.hosting) l.at ≤ 1000209712;
  taken : l.instructions + 1099511627776 * still l.target (host l.hosting) l.at ≤ 1099511627776 * 1000209713;
  spent : (from : State) (out : List ℕ) → IsGoing (host l.fn.hosting) from l.target out → l.services + behind l.target (host l.hosting) l.at ≤ (l.target - from.steps) + 3 + unmade (host l.fn.hosting).entries;
  each : l.instructions ≤ 1099511627776 * (l.services + 1);
  later : g.K.Sink.faults l.fn.out ≤ g.K.Sink.faults l.out;
}

abbrev pub decreases-loop-at : goal.decreases-loop-at
decreases-loop-at g l = still l.target (host l.hosting) l.at
