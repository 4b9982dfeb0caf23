use Rattle.std.proofs.Common.{◌≡◌, ℕ, ◌-◌, ◌≤◌, ap, sym, subst, arith}
use Rattle.std.specs.Prelude.{Some}
use Rattle.self_terms.specs.declared.nodes.Node.TheVariants as nodes
use Rattle.prim_table.specs.declared.answers.PrimAnswer.TheVariants as answers
use Rattle.plain_runs.specs.Host.{Host}
use Rattle.plain_turns.specs.Asking.{node_here}
use Rattle.plain_host.specs.Hosted.{host}
use Rattle.plain_core.specs.Handing.{FailsBy}
use Rattle.plain_core.specs.Language.{KnowsCore}
use Rattle.plain_core.specs.Turning.{StandsAt, Quiet}
use Rattle.plain_core.proofs.Fronts.{any_err, breaks_here}
use Rattle.plain_core.proofs.Performing.{may, was_so, failed_same, fails_applied, operand_after, says, performed_is, objects_after, answer_served, answer_breaks, answer_breaks_within}
use Rattle.plain_core.proofs.turning.apply.Goals as goal

pub apply_asked-applied-requires-clause-stands : goal.apply_asked-applied-requires-clause-stands
apply_asked-applied-requires-clause-stands g c = (may _ (host c.args.hosting.now) _ c.requires.at c.args.prim c.args.name c.args.args c.args.implied c.args.handler c.requires.known c.core_words-core.result c.core_words-core.ensures).apply c.args.words c.requires.costs c.requires.fits

pub apply_asked-applied-requires-clause-few : goal.apply_asked-applied-requires-clause-few
apply_asked-applied-requires-clause-few g c = (may _ (host c.args.hosting.now) _ c.requires.at c.args.prim c.args.name c.args.args c.args.implied c.args.handler c.requires.known c.core_words-core.result c.core_words-core.ensures).few

pub give_up-requires-clause-at : goal.give_up-requires-clause-at
give_up-requires-clause-at g c =
    let l = c.args.language.now in
    let h = host c.args.hosting.now in
    let to = host c.apply_asked-applied.new.self in
    let applied = c.apply_asked-applied.result in
    let told = c.apply_asked-applied.ensures in
    let core = c.core_words-core.result in
    let was = was_so h c.args.prim c.args.args core to.machine.memory applied.heap applied.answer (answers.Fails c.in-Fails.error) c.in-Fails.is (record { answers = told.answer; outside = told.outside; within = c.is_whole.ensures.machine.memory_within }) in
    let same = failed_same l h c.args.target c.requires.at c.args.prim c.args.name c.args.args c.args.implied c.args.handler c.requires.known core c.core_words-core.ensures to applied.heap told.same c.in-Fails.error was in
    subst (λ (y : Host). StandsAt l y 3 c.args.target) (sym same) c.requires.at

pub give_up-requires-clause-core : goal.give_up-requires-clause-core
give_up-requires-clause-core g c =
    let l = c.args.language.now in
    let h = host c.args.hosting.now in
    let to = host c.apply_asked-applied.new.self in
    let applied = c.apply_asked-applied.result in
    let told = c.apply_asked-applied.ensures in
    let core = c.core_words-core.result in
    let was = was_so h c.args.prim c.args.args core to.machine.memory applied.heap applied.answer (answers.Fails c.in-Fails.error) c.in-Fails.is (record { answers = told.answer; outside = told.outside; within = c.is_whole.ensures.machine.memory_within }) in
    let same = failed_same l h c.args.target c.requires.at c.args.prim c.args.name c.args.args c.args.implied c.args.handler c.requires.known core c.core_words-core.ensures to applied.heap told.same c.in-Fails.error was in
    subst (λ (y : Host). KnowsCore y l) (sym same) c.requires.core

pub give_up-requires-clause-room : goal.give_up-requires-clause-room
give_up-requires-clause-room g c =
    let l = c.args.language.now in
    let h = host c.args.hosting.now in
    let to = host c.apply_asked-applied.new.self in
    let applied = c.apply_asked-applied.result in
    let told = c.apply_asked-applied.ensures in
    let core = c.core_words-core.result in
    let was = was_so h c.args.prim c.args.args core to.machine.memory applied.heap applied.answer (answers.Fails c.in-Fails.error) c.in-Fails.is (record { answers = told.answer; outside = told.outside; within = c.is_whole.ensures.machine.memory_within }) in
    let same = failed_same l h c.args.target c.requires.at c.args.prim c.args.name c.args.args c.args.implied c.args.handler c.requires.known core c.core_words-core.ensures to applied.heap told.same c.in-Fails.error was in
    subst (λ (y : Host). y.next ≤ c.args.walk.now) (sym same) c.requires.room

pub give_up-requires-clause-node : goal.give_up-requires-clause-node
give_up-requires-clause-node g c =
    let l = c.args.language.now in
    let h = host c.args.hosting.now in
    let to = host c.apply_asked-applied.new.self in
    let applied = c.apply_asked-applied.result in
    let told = c.apply_asked-applied.ensures in
    let core = c.core_words-core.result in
    let was = was_so h c.args.prim c.args.args core to.machine.memory applied.heap applied.answer (answers.Fails c.in-Fails.error) c.in-Fails.is (record { answers = told.answer; outside = told.outside; within = c.is_whole.ensures.machine.memory_within }) in
    let same = failed_same l h c.args.target c.requires.at c.args.prim c.args.name c.args.args c.args.implied c.args.handler c.requires.known core c.core_words-core.ensures to applied.heap told.same c.in-Fails.error was in
    subst (λ (y : Host). node_here y ≡ Some (nodes.Prim c.args.name c.args.args c.args.implied c.args.handler)) (sym same) c.requires.known.node_is

pub give_up-requires-clause-fails : goal.give_up-requires-clause-fails
give_up-requires-clause-fails g c =
    let l = c.args.language.now in
    let h = host c.args.hosting.now in
    let to = host c.apply_asked-applied.new.self in
    let applied = c.apply_asked-applied.result in
    let told = c.apply_asked-applied.ensures in
    let core = c.core_words-core.result in
    let was = was_so h c.args.prim c.args.args core to.machine.memory applied.heap applied.answer (answers.Fails c.in-Fails.error) c.in-Fails.is (record { answers = told.answer; outside = told.outside; within = c.is_whole.ensures.machine.memory_within }) in
    let same = failed_same l h c.args.target c.requires.at c.args.prim c.args.name c.args.args c.args.implied c.args.handler c.requires.known core c.core_words-core.ensures to applied.heap told.same c.in-Fails.error was in
    subst (λ (y : Host). FailsBy l y c.args.name c.args.args c.in-Fails.error) (sym same) (fails_applied l h c.args.target c.requires.at c.args.prim c.args.name c.args.args c.args.implied c.args.handler c.requires.known core c.core_words-core.ensures to.machine.memory applied.heap c.in-Fails.error was)

pub write_line-requires : goal.write_line-requires
write_line-requires g c =
    let l = c.args.language.now in
    let h = host c.args.hosting.now in
    let to = host c.apply_asked-applied.new.self in
    let applied = c.apply_asked-applied.result in
    let told = c.apply_asked-applied.ensures in
    let core = c.core_words-core.result in
    let was = was_so h c.args.prim c.args.args core to.machine.memory applied.heap applied.answer (answers.Done c.in-Done.word) c.in-Done.is (record { answers = told.answer; outside = told.outside; within = c.is_whole.ensures.machine.memory_within }) in
    operand_after l h c.args.target c.requires.at c.args.prim c.args.name c.args.args c.args.implied c.args.handler c.requires.known core c.core_words-core.ensures to applied.heap told.same c.in-Done.word c.args.words was c.requires.costs c.requires.fits

pub returns-in_err-write_line-in-Done-clause-broken : goal.returns-in_err-write_line-in-Done-clause-broken
returns-in_err-write_line-in-Done-clause-broken g c =
    let l = c.args.language.now in
    let h = host c.args.hosting.now in
    let to = host c.apply_asked-applied.new.self in
    let applied = c.apply_asked-applied.result in
    let told = c.apply_asked-applied.ensures in
    let core = c.core_words-core.result in
    let was = was_so h c.args.prim c.args.args core to.machine.memory applied.heap applied.answer (answers.Done c.in-Done.word) c.in-Done.is (record { answers = told.answer; outside = told.outside; within = c.is_whole.ensures.machine.memory_within }) in
    let front = c.in_err-write_line-in-Done.ensures.front in
    any_err _ c.from_residual.result (answer_breaks_within l h c.args.target c.requires.at c.args.prim c.args.name c.args.args c.args.implied c.args.handler c.requires.known core c.core_words-core.ensures to applied.heap told.same c.in-Done.word c.args.words was c.requires.costs c.requires.fits (g.K.Sink.taken c.args.out.now) (g.K.Sink.taken c.write_line.new.out) front.0 (says l h c.args.target c.requires.at c.args.prim c.args.name c.args.args c.args.implied c.args.handler c.requires.known core c.core_words-core.ensures to applied.heap told.same c.in-Done.word c.args.words was c.requires.costs c.requires.fits front.0 front.1) front.2)

pub make_room-requires : goal.make_room-requires
make_room-requires g c =
    let l = c.args.language.now in
    let h = host c.args.hosting.now in
    let to = host c.apply_asked-applied.new.self in
    let applied = c.apply_asked-applied.result in
    let told = c.apply_asked-applied.ensures in
    let core = c.core_words-core.result in
    let was = was_so h c.args.prim c.args.args core to.machine.memory applied.heap applied.answer (answers.Done c.in-Done.word) c.in-Done.is (record { answers = told.answer; outside = told.outside; within = c.is_whole.ensures.machine.memory_within }) in
    let said = c.in_ok-write_line-in-Done.ensures.said in
    let next = ap (λ (y : Host). y.next) c.perform.ensures in
    let more = objects_after l h c.args.target c.requires.at c.args.prim c.args.name c.args.args c.args.implied c.args.handler c.requires.known core c.core_words-core.ensures to applied.heap told.same c.in-Done.word c.args.words was c.requires.costs c.requires.fits said.0 (says l h c.args.target c.requires.at c.args.prim c.args.name c.args.args c.args.implied c.args.handler c.requires.known core c.core_words-core.ensures to applied.heap told.same c.in-Done.word c.args.words was c.requires.costs c.requires.fits said.0 said.1) in
    let few = (may l h c.args.target c.requires.at c.args.prim c.args.name c.args.args c.args.implied c.args.handler c.requires.known core c.core_words-core.ensures).few in
    omega (arith, c.next.ensures, next, more, few)

pub returns-in_err-make_room-in-Done-clause-broken : goal.returns-in_err-make_room-in-Done-clause-broken
returns-in_err-make_room-in-Done-clause-broken g c =
    let l = c.args.language.now in
    let h = host c.args.hosting.now in
    let to = host c.apply_asked-applied.new.self in
    let applied = c.apply_asked-applied.result in
    let told = c.apply_asked-applied.ensures in
    let core = c.core_words-core.result in
    let was = was_so h c.args.prim c.args.args core to.machine.memory applied.heap applied.answer (answers.Done c.in-Done.word) c.in-Done.is (record { answers = told.answer; outside = told.outside; within = c.is_whole.ensures.machine.memory_within }) in
    let said = c.in_ok-write_line-in-Done.ensures.said in
    any_err _ c.from_residual-in_err-make_room-in-Done.result (answer_breaks l h c.args.target c.requires.at c.args.prim c.args.name c.args.args c.args.implied c.args.handler c.requires.known core c.core_words-core.ensures to applied.heap told.same c.in-Done.word c.args.words was c.requires.costs c.requires.fits (g.K.Sink.taken c.args.out.now) (g.K.Sink.taken c.write_line.new.out) said.0 (says l h c.args.target c.requires.at c.args.prim c.args.name c.args.args c.args.implied c.args.handler c.requires.known core c.core_words-core.ensures to applied.heap told.same c.in-Done.word c.args.words was c.requires.costs c.requires.fits said.0 said.1) said.2)

pub returns-in-Ok-clause-served : goal.returns-in-Ok-clause-served
returns-in-Ok-clause-served g c =
    let l = c.args.language.now in
    let h = host c.args.hosting.now in
    let to = host c.apply_asked-applied.new.self in
    let applied = c.apply_asked-applied.result in
    let told = c.apply_asked-applied.ensures in
    let core = c.core_words-core.result in
    let was = was_so h c.args.prim c.args.args core to.machine.memory applied.heap applied.answer (answers.Fails c.in-Fails.error) c.in-Fails.is (record { answers = told.answer; outside = told.outside; within = c.is_whole.ensures.machine.memory_within }) in
    let same = failed_same l h c.args.target c.requires.at c.args.prim c.args.name c.args.args c.args.implied c.args.handler c.requires.known core c.core_words-core.ensures to applied.heap told.same c.in-Fails.error was in
    (subst (λ (y : Host). Quiet l 3 y (host c.give_up.new.hosting) c.args.target c.in-Ok.turn) same c.in-Ok.ensures.served).served (g.K.Sink.taken c.args.out.now)

pub returns-in-Err-clause-broken : goal.returns-in-Err-clause-broken
returns-in-Err-clause-broken g c = breaks_here c.args.language.now 3 (host c.args.hosting.now) c.args.target (g.K.Sink.taken c.args.out.now)

pub returns-in_ok-make_room-in-Done-clause-served : goal.returns-in_ok-make_room-in-Done-clause-served
returns-in_ok-make_room-in-Done-clause-served g c =
    let l = c.args.language.now in
    let h = host c.args.hosting.now in
    let to = host c.apply_asked-applied.new.self in
    let applied = c.apply_asked-applied.result in
    let told = c.apply_asked-applied.ensures in
    let core = c.core_words-core.result in
    let was = was_so h c.args.prim c.args.args core to.machine.memory applied.heap applied.answer (answers.Done c.in-Done.word) c.in-Done.is (record { answers = told.answer; outside = told.outside; within = c.is_whole.ensures.machine.memory_within }) in
    let said = c.in_ok-write_line-in-Done.ensures.said in
    let after = host c.perform.new.self in
    answer_served l h c.args.target c.requires.at c.args.prim c.args.name c.args.args c.args.implied c.args.handler c.requires.known core c.core_words-core.ensures to applied.heap told.same c.in-Done.word c.args.words was c.requires.costs c.requires.fits after (g.K.Sink.taken c.args.out.now) (g.K.Sink.taken c.write_line.new.out) said.0 (performed_is l h c.args.target c.requires.at c.args.prim c.args.name c.args.args c.args.implied c.args.handler c.requires.known core c.core_words-core.ensures to applied.heap told.same c.in-Done.word c.args.words was c.requires.costs c.requires.fits after (c.left-goal.result - 1) (c.cost_left.result - c.args.words) c.perform.ensures (ap (λ (k : ℕ). k - 1) c.left-goal.ensures) (ap (λ (k : ℕ). k - c.args.words) c.cost_left.ensures)) (says l h c.args.target c.requires.at c.args.prim c.args.name c.args.args c.args.implied c.args.handler c.requires.known core c.core_words-core.ensures to applied.heap told.same c.in-Done.word c.args.words was c.requires.costs c.requires.fits said.0 said.1) said.2
