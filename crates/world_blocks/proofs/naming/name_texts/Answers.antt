-- Each number is that of its text when it is given, and stays as the further texts are.
use Rattle.std.proofs.Common.{refl}
use Rattle.world_build.proofs.NameLemmas.{number_as}
use Rattle.world_blocks.specs.Sessions.{session_names}
use Rattle.world_blocks.proofs.Adding.{evaluators_are, grown_world, kept}
use Rattle.world_blocks.proofs.naming.name_texts.Goals as goal

pub returns-clause-numbers : goal.returns-clause-numbers
returns-clause-numbers c =
    evaluators_are c.number-7.new.world.names _ _ _ _ _ _
    (kept c.number-6.new.world c.number-7.new.world _ _ c.in_ok-none.none c.in_ok-five.ensures.grows (kept c.number-5.new.world c.number-6.new.world _ _ c.in_ok-none.none c.in_ok-four.ensures.grows (kept c.number-4.new.world c.number-5.new.world _ _ c.in_ok-none.none c.in_ok-three.ensures.grows (kept c.number-3.new.world c.number-4.new.world _ _ c.in_ok-none.none c.in_ok-two.ensures.grows (kept c.number-2.new.world c.number-3.new.world _ _ c.in_ok-none.none c.in_ok-one.ensures.grows (number_as c.number-2.new.world.names _ _ c.in_ok-none.none c.as_bytes-2.ensures.value c.in_ok-none.ensures.number))))))
    (kept c.number-6.new.world c.number-7.new.world _ _ c.in_ok-one.one c.in_ok-five.ensures.grows (kept c.number-5.new.world c.number-6.new.world _ _ c.in_ok-one.one c.in_ok-four.ensures.grows (kept c.number-4.new.world c.number-5.new.world _ _ c.in_ok-one.one c.in_ok-three.ensures.grows (kept c.number-3.new.world c.number-4.new.world _ _ c.in_ok-one.one c.in_ok-two.ensures.grows (number_as c.number-3.new.world.names _ _ c.in_ok-one.one c.as_bytes-3.ensures.value c.in_ok-one.ensures.number)))))
    (kept c.number-6.new.world c.number-7.new.world _ _ c.in_ok-two.two c.in_ok-five.ensures.grows (kept c.number-5.new.world c.number-6.new.world _ _ c.in_ok-two.two c.in_ok-four.ensures.grows (kept c.number-4.new.world c.number-5.new.world _ _ c.in_ok-two.two c.in_ok-three.ensures.grows (number_as c.number-4.new.world.names _ _ c.in_ok-two.two c.as_bytes-4.ensures.value c.in_ok-two.ensures.number))))
    (kept c.number-6.new.world c.number-7.new.world _ _ c.in_ok-three.three c.in_ok-five.ensures.grows (kept c.number-5.new.world c.number-6.new.world _ _ c.in_ok-three.three c.in_ok-four.ensures.grows (number_as c.number-5.new.world.names _ _ c.in_ok-three.three c.as_bytes-5.ensures.value c.in_ok-three.ensures.number)))
    (kept c.number-6.new.world c.number-7.new.world _ _ c.in_ok-four.four c.in_ok-five.ensures.grows (number_as c.number-6.new.world.names _ _ c.in_ok-four.four c.as_bytes-6.ensures.value c.in_ok-four.ensures.number))
    (number_as c.number-7.new.world.names _ _ c.in_ok-five.five c.as_bytes-7.ensures.value c.in_ok-five.ensures.number)

pub returns-clause-named : goal.returns-clause-named
unfolding session_names
returns-clause-named c =
    grown_world c.args.world.now c.number-6.new.world c.number-7.new.world _ _ _ (grown_world c.args.world.now c.number-5.new.world c.number-6.new.world _ _ _ (grown_world c.args.world.now c.number-4.new.world c.number-5.new.world _ _ _ (grown_world c.args.world.now c.number-3.new.world c.number-4.new.world _ _ _ (grown_world c.args.world.now c.number-2.new.world c.number-3.new.world _ _ _ (grown_world c.args.world.now c.number.new.world c.number-2.new.world _ _ _ (grown_world c.args.world.now c.args.world.now c.number.new.world _ _ _ refl c.in_ok-number.ensures.grows c.as_bytes.ensures.value) c.in_ok-none.ensures.grows c.as_bytes-2.ensures.value) c.in_ok-one.ensures.grows c.as_bytes-3.ensures.value) c.in_ok-two.ensures.grows c.as_bytes-4.ensures.value) c.in_ok-three.ensures.grows c.as_bytes-5.ensures.value) c.in_ok-four.ensures.grows c.as_bytes-6.ensures.value) c.in_ok-five.ensures.grows c.as_bytes-7.ensures.value
