use Rattle.plain_births.proofs.Beginning.{births_fill, births_rest, contexts_have_room}
use Rattle.plain_births.proofs.Flushing.{frames_may_flush}
use Rattle.plain_births.proofs.laws.births_rest.Goals as goal

pub returns-clause-flush : goal.returns-clause-flush
returns-clause-flush c = frames_may_flush

pub returns-clause-room : goal.returns-clause-room
returns-clause-room c = contexts_have_room

pub returns-clause-begin : goal.returns-clause-begin
returns-clause-begin c = births_rest

pub returns-clause-full : goal.returns-clause-full
returns-clause-full c = births_fill
