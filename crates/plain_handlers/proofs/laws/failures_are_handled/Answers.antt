use Rattle.plain_handlers.proofs.Handling.{failures_are_handled, handlers_are_found, handlers_fit}
use Rattle.plain_handlers.proofs.laws.failures_are_handled.Goals as goal

pub returns-clause-handled : goal.returns-clause-handled
returns-clause-handled c = failures_are_handled

pub returns-clause-found : goal.returns-clause-found
returns-clause-found c = handlers_are_found

pub returns-clause-fits : goal.returns-clause-fits
returns-clause-fits c = handlers_fit
