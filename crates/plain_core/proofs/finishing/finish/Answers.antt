use Rattle.std.proofs.Common.{[], suc, ◌+◌, ◌-◌, ◌++◌, ◌∙◌, refl, arith}
use Rattle.plain_host.specs.Hosted.{host}
use Rattle.plain_turns.specs.Events.{Here}
use Rattle.plain_core.proofs.Fronts.{any_err, takes_none, takes_more}
use Rattle.plain_core.proofs.Joining.{joined}
use Rattle.plain_core.proofs.Keeping.{known_keeps}
use Rattle.plain_core.proofs.Youngest.{can_run, begins_onward, still_stands, counts_one, goes_onward, left_as, none_left, is_gone, stops, few_units}
use Rattle.plain_core.proofs.finishing.finish.Goals as goal

pub loop-step-init : goal.loop-step-init
loop-step-init g c =
    let r = c.requires.rests in
    let h = host c.args.hosting.now in
    record {
      within = omega arith;
      grown = omega arith;
      room = c.requires.room;
      same = refl;
      stands = (r.state, r.rests, r.spoken);
      counted = omega arith;
      said = ([], takes_none (g.K.Sink.taken c.args.out.now), left_as c.args.language.now h h c.args.steps c.args.steps (c.args.steps - 0) c.register-depth.result [] (omega arith) (begins_onward c.args.language.now h c.args.steps c.register-depth.result r c.register-depth.ensures));
      reached = Here;
      served = omega arith;
      taken = omega arith;
      later = omega arith;
    }

pub is_as_deep-requires : goal.is_as_deep-requires
is_as_deep-requires g c = let s = c.loop-step.invariant.stands in (s.0, s.1)

pub run-requires-clause-rests : goal.run-requires-clause-rests
run-requires-clause-rests g c = can_run c.args.language.now (host c.loop-step.hosting) c.register-depth.result c.loop-step.invariant.stands (c.is_as_deep.ensures.deep c.if-not-is_as_deep.false)

pub run-requires-clause-known : goal.run-requires-clause-known
run-requires-clause-known g c = known_keeps (host c.args.hosting.now) (host c.loop-step.hosting) c.args.language.now c.loop-step.invariant.same c.requires.known

pub run-requires-clause-counted : goal.run-requires-clause-counted
run-requires-clause-counted g c =
    let counted = c.loop-step.invariant.counted in
    let most = c.requires.counted in
    let less = c.loop-step-test.true in
    omega (arith, counted, most, less)

pub overflow_add-instructions : goal.overflow_add-instructions
overflow_add-instructions g c =
    let served = c.loop-step.invariant.served in
    let taken = c.loop-step.invariant.taken in
    let units = few_units c.args.language.now (host c.args.hosting.now) c.requires.rests in
    let few = c.in_ok-taken.ensures.few.instructions in
    let less = c.loop-step-test.true in
    let most = c.requires.few in
    omega (arith, served, taken, units, few, less, most)

pub overflow_add-services : goal.overflow_add-services
overflow_add-services g c =
    let served = c.loop-step.invariant.served in
    let units = few_units c.args.language.now (host c.args.hosting.now) c.requires.rests in
    let few = c.in_ok-taken.ensures.few.services in
    let less = c.loop-step-test.true in
    let most = c.requires.few in
    omega (arith, served, units, few, less, most)

pub loop-step-preserved : goal.loop-step-preserved
loop-step-preserved g c =
    let inv = c.loop-step.invariant in
    let start = host c.args.hosting.now in
    let mid = host c.loop-step.hosting in
    let to = host c.run.new.hosting in
    let taken = c.in_ok-taken.taken in
    let ran = c.in_ok-taken.ensures.ran in
    let spent = c.in_ok-taken.ensures.spent in
    let deep = c.is_as_deep.ensures.deep c.if-not-is_as_deep.false in
    let less = c.loop-step-test.true in
    let before = g.K.Sink.taken c.loop-step.out in
    let now = g.K.Sink.taken c.run.new.out in
    let grown = inv.grown in
    let grows = c.run.ensures.grown in
    let counted = inv.counted in
    let one = counts_one c.args.language.now mid to taken before now ran inv.stands in
    let served = inv.served in
    let serves = spent.services in
    let took = inv.taken in
    let takes = spent.instructions in
    let later = inv.later in
    let later_on = c.run.ensures.later in
    record {
      within = omega (arith, less);
      grown = omega (arith, grown, grows);
      room = c.in_ok-taken.ensures.roomy;
      same = c.in_ok-taken.ensures.same ∙ inv.same;
      stands = still_stands c.args.language.now mid to taken before now ran inv.stands;
      counted = omega (arith, counted, one);
      said = (
        inv.said.0 ++ ran.said,
        takes_more (g.K.Sink.taken c.args.out.now) before now inv.said.0 ran.said inv.said.1 ran.takes,
        goes_onward c.args.language.now mid to taken before now ran start c.args.steps (c.args.steps - (c.loop-step._step + 1)) c.register-depth.result inv.said.0
            (left_as c.args.language.now start mid c.args.steps (c.args.steps - c.loop-step._step) (suc (c.args.steps - (c.loop-step._step + 1))) c.register-depth.result inv.said.0 (omega (arith, less)) inv.said.2) deep,
      );
      reached = joined start mid to c.loop-step.instructions c.loop-step.services taken.instructions taken.services inv.reached ran.reached;
      served = omega (arith, served, serves);
      taken = omega (arith, took, takes);
      later = omega (arith, later, later_on);
    }

pub returns-then-not-is_as_deep-clause-finished : goal.returns-then-not-is_as_deep-clause-finished
returns-then-not-is_as_deep-clause-finished g c =
    let inv = c.loop-step.invariant in
    record {
      said = inv.said.0;
      takes = inv.said.1;
      finishes = is_gone c.args.language.now (host c.args.hosting.now) (host c.loop-step.hosting) c.args.steps (c.args.steps - c.loop-step._step) c.register-depth.result inv.said.0 (c.is_as_deep.ensures.over c.if-not-is_as_deep.true) inv.said.2;
      reached = inv.reached;
    }

pub returns-then-not-is_as_deep-clause-few : goal.returns-then-not-is_as_deep-clause-few
returns-then-not-is_as_deep-clause-few g c =
    let served = c.loop-step.invariant.served in
    let taken = c.loop-step.invariant.taken in
    let units = few_units c.args.language.now (host c.args.hosting.now) c.requires.rests in
    let less = c.loop-step-test.true in
    let most = c.requires.few in
    record { instructions = omega (arith, served, taken, units, less, most); services = omega (arith, served, units, less, most) }

pub returns-clause-finished : goal.returns-clause-finished
returns-clause-finished g c =
    let inv = c.loop-step.invariant in
    let last = c.loop-step-test.false in
    record {
      said = inv.said.0;
      takes = inv.said.1;
      finishes = none_left c.args.language.now (host c.args.hosting.now) (host c.loop-step.hosting) c.args.steps (c.args.steps - c.loop-step._step) c.register-depth.result inv.said.0 (omega (arith, last)) inv.said.2;
      reached = inv.reached;
    }

pub returns-clause-few : goal.returns-clause-few
returns-clause-few g c =
    let served = c.loop-step.invariant.served in
    let taken = c.loop-step.invariant.taken in
    let units = few_units c.args.language.now (host c.args.hosting.now) c.requires.rests in
    let most = c.requires.few in
    let within = c.loop-step.invariant.within in
    record { instructions = omega (arith, served, taken, units, most, within); services = omega (arith, served, units, most, within) }

pub returns-in_err-taken-clause-broken : goal.returns-in_err-taken-clause-broken
returns-in_err-taken-clause-broken g c =
    let inv = c.loop-step.invariant in
    let less = c.loop-step-test.true in
    any_err _ c.from_residual.result (stops c.args.language.now (host c.args.hosting.now) (host c.loop-step.hosting) c.args.steps (c.args.steps - (c.loop-step._step + 1)) c.register-depth.result inv.said.0 (g.K.Sink.taken c.args.out.now) (g.K.Sink.taken c.loop-step.out) (g.K.Sink.taken c.run.new.out)
    (left_as c.args.language.now (host c.args.hosting.now) (host c.loop-step.hosting) c.args.steps (c.args.steps - c.loop-step._step) (suc (c.args.steps - (c.loop-step._step + 1))) c.register-depth.result inv.said.0 (omega (arith, less)) inv.said.2) (c.is_as_deep.ensures.deep c.if-not-is_as_deep.false) inv.said.1 c.in_err-taken.ensures.broken)
