use Rattle.std.proofs.Common.{◌≤◌, ◌*◌, length, drop}
use Rattle.plain_turns.specs.Asking.{count}
use Rattle.self_debugger.specs.Sessions.{host_of}
use Rattle.self_debugger.specs.Parts.{IsAmid}
use Rattle.self_debugger.proofs.top.run_commands.Given as goal

abbrev pub invariant-loop-at : goal.invariant-loop-at
invariant-loop-at g l =
    let taken = g.K.Sink.taken in
    let faults = g.K.Sink.faults in
    record {
      amid : IsAmid (length l.fn.advisors.items) l.fn.image.world l.commands (drop l.at l.commands) l.session (taken l.fn.out) (taken l.out);
      counted : count (host_of l.session) ≤ l.at * 1000000000;
      did : l.session.plain.instructions ≤ l.at * 9444732965739290427392;
      served : l.session.plain.services ≤ l.at * 8589934592;
      later : faults l.fn.out ≤ faults l.out;
    }
