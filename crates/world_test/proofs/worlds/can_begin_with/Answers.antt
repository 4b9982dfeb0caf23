use Rattle.std.proofs.Common.{◌∙◌, sym}
use Rattle.world_test.proofs.Parts.{no_core, not_fit, not_said, by_things}
use Rattle.world_test.proofs.worlds.can_begin_with.Goals as goal

pub returns-then-not-core_test : goal.returns-then-not-core_test
returns-then-not-core_test c = sym (no_core c.args.world.now c.args.names.now (sym c.if-not-core_test.ensures))

pub returns-then-not-bodies_fit : goal.returns-then-not-bodies_fit
returns-then-not-bodies_fit c = sym (not_fit c.args.world.now c.args.names.now (sym c.if-not-core_test.ensures) (sym c.if-not-bodies_fit.ensures))

pub returns-then-not-bodies_said : goal.returns-then-not-bodies_said
returns-then-not-bodies_said c = sym (not_said c.args.world.now c.args.names.now (sym c.if-not-core_test.ensures) (sym c.if-not-bodies_fit.ensures) (sym c.if-not-bodies_said.ensures))

pub returns : goal.returns
returns c =
    c.things_test.ensures ∙ sym (by_things c.args.world.now c.args.names.now (sym c.if-not-core_test.ensures) (sym c.if-not-bodies_fit.ensures) (sym c.if-not-bodies_said.ensures))
