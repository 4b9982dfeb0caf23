use Rattle.std.proofs.Common.{◌≡◌, ℕ, ◌+◌, ◌-◌, ◌*◌, ◌≤◌, List}
use Rattle.io_ports.specs.Causes.{Takes}
use Rattle.plain_host.specs.Hosted.{host}
use Rattle.plain_turns.specs.Asking.{count}
use Rattle.plain_turns.specs.Events.{Reaches}
use Rattle.plain_turns.specs.Rooms.{unmade}
use Rattle.plain_core.proofs.Youngest.{GoesOnward, StandsNow}
use Rattle.plain_core.proofs.finishing.finish.Given as goal

abbrev pub invariant-loop-step : goal.invariant-loop-step
invariant-loop-step g l = record {
  within : l._step ≤ l.steps;
  grown : l.fn.walk ≤ l.walk;
  room : (host l.hosting).next ≤ l.walk;
  same : (host l.hosting).references ≡ (host l.fn.hosting).references;
  stands : StandsNow l.language (host l.hosting);
  counted : count (host l.hosting) ≤ count (host l.fn.hosting) + l._step;
  said : (line : List ℕ) × Takes (g.K.Sink.taken l.fn.out) (g.K.Sink.taken l.out) line × GoesOnward l.language (host l.fn.hosting) (host l.hosting) l.steps (l.steps - l._step) l.depth line;
  reached : Reaches (host l.fn.hosting) l.instructions l.services (host l.hosting);
  served : l.services + unmade (host l.hosting).entries ≤ 5 * l._step + unmade (host l.fn.hosting).entries;
  taken : l.instructions ≤ 1099511627776 * l.services;
  later : g.K.Sink.faults l.fn.out ≤ g.K.Sink.faults l.out;
}
