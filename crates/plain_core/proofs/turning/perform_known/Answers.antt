use Rattle.plain_host.specs.Hosted.{host}
use Rattle.plain_core.proofs.Performing.{costs_of, operand_at}
use Rattle.plain_core.proofs.turning.perform_known.Goals as goal

pub words_taken-words-requires : goal.words_taken-words-requires
words_taken-words-requires g c = operand_at _ _ _ c.requires.at _ _ _ _ _ c.requires.known c.requires.core.words c.requires.core.core c.register.result c.register.ensures

pub fail_costly-requires-clause-costs : goal.fail_costly-requires-clause-costs
fail_costly-requires-clause-costs g c = costs_of (host c.args.hosting.now) c.args.prim c.words_taken-words.result c.register.result c.register.ensures c.words_taken-words.ensures

pub returns-then-cost-words-gt-MOST_COST-clause-served : goal.returns-then-cost-words-gt-MOST_COST-clause-served
returns-then-cost-words-gt-MOST_COST-clause-served g c = c.fail_costly.ensures.served (g.K.Sink.taken c.args.out.now)

pub apply-requires-clause-costs : goal.apply-requires-clause-costs
apply-requires-clause-costs g c = costs_of (host c.args.hosting.now) c.args.prim c.words_taken-words.result c.register.result c.register.ensures c.words_taken-words.ensures
