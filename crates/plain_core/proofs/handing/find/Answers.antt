use Rattle.std.proofs.Common.{ℕ, sym, subst, arith}
use Rattle.plain_lookups.specs.Telling.{MayLook}
use Rattle.plain_host.specs.Hosted.{host}
use Rattle.plain_core.proofs.Births.{sound_looks, start_looks}
use Rattle.plain_core.proofs.Handlers.{handed_over}
use Rattle.plain_core.proofs.handing.find.Goals as goal

pub overflow_add-failure : goal.overflow_add-failure
overflow_add-failure c = let few = (handed_over _ _ _ _ _ c.requires.at c.requires.room c.requires.failed).few in omega (arith, few)

pub register-handler-requires : goal.register-handler-requires
register-handler-requires c = let few = (handed_over _ _ _ _ _ c.requires.at c.requires.room c.requires.failed).few in omega (arith, few)

pub lookup-requires-clause-sound : goal.lookup-requires-clause-sound
lookup-requires-clause-sound c =
    let h = host c.args.hosting.now in
    let may = subst (λ (w : ℕ). MayLook h.maps h.machine.memory c.args.walk.now w) (sym c.register-handler.ensures) (handed_over _ _ _ _ _ c.requires.at c.requires.room c.requires.failed).may in
    sound_looks _ _ h c.args.walk.now c.register-handler.result c.maps.ensures c.memory.ensures may

pub lookup-requires-clause-start : goal.lookup-requires-clause-start
lookup-requires-clause-start c =
    let h = host c.args.hosting.now in
    let may = subst (λ (w : ℕ). MayLook h.maps h.machine.memory c.args.walk.now w) (sym c.register-handler.ensures) (handed_over _ _ _ _ _ c.requires.at c.requires.room c.requires.failed).may in
    start_looks _ _ h c.args.walk.now c.register-handler.result c.maps.ensures c.memory.ensures may
