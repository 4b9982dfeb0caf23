use Rattle.self_debugger.proofs.sessions.Session.open.Goals as goal
