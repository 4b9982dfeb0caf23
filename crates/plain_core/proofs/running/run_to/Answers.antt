use Rattle.std.proofs.Common.{[], ◌++◌, ◌∙◌, arith}
use Rattle.std.specs.Prelude.{Some}
use Rattle.plain_host.specs.Hosted.{host}
use Rattle.plain_core.proofs.Fronts.{any_err, takes_none, takes_more}
use Rattle.plain_core.proofs.Joining.{joined}
use Rattle.plain_core.proofs.Keeping.{reaches_keep, went_keep, known_keeps}
use Rattle.plain_core.proofs.Rounds.{none_at, at_trap, next_none, next_more, goes_reached, still_room, few_turns, one_less, still_at, broken_on}
use Rattle.plain_core.proofs.Spending.{behind_at, behind_none, behind_less, first_behind}
use Rattle.plain_core.proofs.running.run_to.Goals as goal

pub loop-at-init : goal.loop-at-init
loop-at-init g c =
    let first = c.go-first.ensures in
    let came = (first.came c.requires.at.from c.requires.at.out c.requires.at.going).at in
    let turns = few_turns (host c.go-first.new.hosting) c.go-first.result.trap c.requires.at.from c.args.target c.requires.at.out came in
    let few = first.few in
    record {
      grown = omega arith;
      room = still_room (host c.args.hosting.now) (host c.go-first.new.hosting) c.args.walk.now c.go-first.result.instructions first.went c.requires.room;
      same = went_keep (host c.args.hosting.now) (host c.go-first.new.hosting) c.go-first.result.instructions first.went;
      stands = (c.requires.at.from, c.requires.at.spoken, c.requires.at.out, came);
      said = ([], takes_none (g.K.Sink.taken c.args.out.now), λ from out spoken x. next_none (host c.go-first.new.hosting) from c.args.target out (Some c.go-first.result.trap) (first.came from out x).at);
      reached = goes_reached (host c.args.hosting.now) (host c.go-first.new.hosting) c.go-first.result.instructions first.went;
      served = omega (arith, turns);
      taken = omega (arith, turns, few);
      spent = λ from out going. (let left = first_behind (host c.args.hosting.now) (host c.go-first.new.hosting) c.go-first.result.instructions c.go-first.result.trap from c.args.target out first.went going (first.came from out going) in omega (arith, left));
      each = omega (arith, few);
      later = omega arith;
    }

pub take_turn-requires-clause-at : goal.take_turn-requires-clause-at
take_turn-requires-clause-at g c =
    let s = c.loop-at.invariant.stands in
    record { from = s.0; spoken = s.1; out = s.2; at = at_trap (host c.loop-at.hosting) s.0 c.args.target s.2 c.in-Some.trap c.loop-at.at c.in-Some.is s.3 }

pub take_turn-requires-clause-core : goal.take_turn-requires-clause-core
take_turn-requires-clause-core g c = known_keeps (host c.args.hosting.now) (host c.loop-at.hosting) c.args.language.now c.loop-at.invariant.same c.requires.core

pub loop-at-preserved : goal.loop-at-preserved
loop-at-preserved g c =
    let inv = c.loop-at.invariant in
    let on = c.in_ok-turn.ensures.on in
    let turn = c.in_ok-turn.turn in
    let less = one_less c.args.target (host c.loop-at.hosting) (host c.take_turn.new.hosting) turn.next on.less in
    let here = still_at c.args.target (host c.loop-at.hosting) c.loop-at.at c.in-Some.trap c.in-Some.is in
    let served = inv.served in
    let taken = inv.taken in
    let few = on.few in
    let left = behind_less c.args.target (host c.loop-at.hosting) (host c.take_turn.new.hosting) turn.next turn.instructions on.reached on.less in
    let stood = behind_at c.args.target (host c.loop-at.hosting) c.loop-at.at c.in-Some.trap c.in-Some.is in
    let each = inv.each in
    let s = inv.stands in
    let grown = inv.grown in
    let grows = c.take_turn.ensures.grown in
    let later = inv.later in
    let later_on = c.take_turn.ensures.later in
    record {
      grown = omega (arith, grown, grows);
      room = c.in_ok-turn.ensures.roomy;
      same = reaches_keep (host c.loop-at.hosting) (host c.take_turn.new.hosting) turn.instructions 1 on.reached ∙ inv.same;
      stands = (s.0, s.1, s.2 ++ on.said, on.at s.0 s.2 s.1 (at_trap (host c.loop-at.hosting) s.0 c.args.target s.2 c.in-Some.trap c.loop-at.at c.in-Some.is s.3));
      said = (
        inv.said.0 ++ on.said,
        takes_more (g.K.Sink.taken c.args.out.now) (g.K.Sink.taken c.loop-at.out) (g.K.Sink.taken c.take_turn.new.out) inv.said.0 on.said inv.said.1 on.takes,
        λ from out spoken x. next_more (host c.take_turn.new.hosting) from c.args.target out inv.said.0 on.said turn.next (on.at from (out ++ inv.said.0) spoken (at_trap (host c.loop-at.hosting) from c.args.target (out ++ inv.said.0) c.in-Some.trap c.loop-at.at c.in-Some.is (inv.said.2 from out spoken x))),
      );
      reached = joined (host c.args.hosting.now) (host c.loop-at.hosting) (host c.take_turn.new.hosting) c.loop-at.instructions c.loop-at.services turn.instructions 1 inv.reached on.reached;
      served = omega (arith, served, less, here);
      taken = omega (arith, taken, less, here, few);
      spent = λ from out going. (let spent = inv.spent from out going in omega (arith, spent, left, stood));
      each = omega (arith, each, few);
      later = omega (arith, later, later_on);
    }

pub returns-clause-runs : goal.returns-clause-runs
returns-clause-runs g c =
    let inv = c.loop-at.invariant in
    record {
      said = inv.said.0;
      takes = inv.said.1;
      ran = λ from out spoken x. none_at (host c.loop-at.hosting) from c.args.target (out ++ inv.said.0) c.loop-at.at c.in_default.is (inv.said.2 from out spoken x);
    }

pub returns-clause-spent : goal.returns-clause-spent
returns-clause-spent g c = λ from out going.
    let spent = c.loop-at.invariant.spent from out going in
    let none = behind_none c.args.target (host c.loop-at.hosting) c.loop-at.at c.in_default.is in
    omega (arith, spent, none)

pub returns-in_err-turn-clause-broken : goal.returns-in_err-turn-clause-broken
returns-in_err-turn-clause-broken g c =
    let inv = c.loop-at.invariant in
    any_err _ c.from_residual.result (broken_on c.args.language.now (host c.args.hosting.now) (host c.loop-at.hosting) c.in-Some.trap c.args.target c.loop-at.at (g.K.Sink.taken c.args.out.now) (g.K.Sink.taken c.loop-at.out) (g.K.Sink.taken c.take_turn.new.out) inv.said.0 inv.said.1 inv.said.2 c.in-Some.is c.in_err-turn.ensures.broken)
