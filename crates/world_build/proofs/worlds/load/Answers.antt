use Rattle.std.proofs.Common.{◌-◌, arith, length, subst, sym}
use Rattle.world_build.specs.declared.loading.Loading.{Loading}
use Rattle.world_build.specs.Steps.{IsWithin}
use Rattle.world_build.proofs.Room.{within_begun}
use Rattle.world_build.proofs.worlds.load.Goals as goal

pub load_items-requires-clause-room : goal.load_items-requires-clause-room
load_items-requires-clause-room c =
    subst (λ (s : Loading). IsWithin (450000000 - length c.args.items.now) s) (sym c.in_ok-loading.ensures)
    (within_begun (450000000 - length c.args.items.now) c.args.names (omega (arith, c.requires)))
