use Rattle.plain_host.specs.Hosted.{host}
use Rattle.plain_core.proofs.Births.{may_look, sound_looks, start_looks}
use Rattle.plain_core.proofs.spawning.find_at_lobby.Goals as goal

pub lookup-requires-clause-sound : goal.lookup-requires-clause-sound
lookup-requires-clause-sound c =
    sound_looks _ _ (host c.args.hosting.now) c.args.walk.now c.args.lobby c.maps.ensures c.memory.ensures (may_look (host c.args.hosting.now) c.requires.rests.0 c.requires.rests.1 c.args.name.0 c.args.lobby c.args.walk.now c.requires.lobby c.requires.room)

pub lookup-requires-clause-start : goal.lookup-requires-clause-start
lookup-requires-clause-start c =
    start_looks _ _ (host c.args.hosting.now) c.args.walk.now c.args.lobby c.maps.ensures c.memory.ensures (may_look (host c.args.hosting.now) c.requires.rests.0 c.requires.rests.1 c.args.name.0 c.args.lobby c.args.walk.now c.requires.lobby c.requires.room)
