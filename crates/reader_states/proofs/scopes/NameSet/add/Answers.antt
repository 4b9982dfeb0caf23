use Rattle.self_grammar.specs.Parts.{parts_in}
use Rattle.reader_states.proofs.NameLemmas.{was_there, with_there}
use Rattle.reader_states.proofs.scopes.NameSet.add.Goals as goal

pub returns-clause-again : goal.returns-clause-again
returns-clause-again c =
    was_there (λ v. v.items) c.self.inside.names.keys c.args.self.now c.in_ok-list.list (parts_in c.args.words) c.in-Ok.new c.self.view_is c.in_ok-list.ensures c.in-Ok.ensures.added

pub returns-clause-names : goal.returns-clause-names
returns-clause-names c =
    with_there (λ v. v.items) c.self.inside.names.keys c.insert_full.new.self.keys c.args.self.now c.in_ok-list.list (parts_in c.args.words) c.self.view_is c.in_ok-list.ensures
    c.in-Ok.ensures.keys
