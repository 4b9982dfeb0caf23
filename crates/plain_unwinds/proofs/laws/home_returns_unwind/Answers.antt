use Rattle.plain_unwinds.proofs.Returning.{home_asks, home_returns, homes_leave}
use Rattle.plain_unwinds.proofs.laws.home_returns_unwind.Goals as goal

pub returns-clause-asks : goal.returns-clause-asks
returns-clause-asks c = home_asks

pub returns-clause-step : goal.returns-clause-step
returns-clause-step c = home_returns

pub returns-clause-leaves : goal.returns-clause-leaves
returns-clause-leaves c = homes_leave
