use Rattle.std.proofs.Common.{subst, sym, refl}
use Rattle.std.specs.Prelude.{List, ℕ, Err}
use Rattle.world_build.proofs.FewNames.{few_names}
use Rattle.self_debugger.specs.WorldFiles.{WorldRead}
use Rattle.self_debugger.proofs.Built.{read_built, read_unbuilt}
use Rattle.self_debugger.proofs.worlds.build_world.Goals as goal

pub returns-in-Ok-clause-read : goal.returns-in-Ok-clause-read
returns-in-Ok-clause-read c =
    read_built c.args.bytes.now c.args.tree.names c.args.tree.items.items c.args.tree.items.items c.in-Ok.image.world c.requires.short (c.requires.text, c.requires.names) refl c.in-Ok.ensures.built

pub returns-in-Ok-clause-few : goal.returns-in-Ok-clause-few
returns-in-Ok-clause-few c = few_names c.args.tree.names c.args.bytes.now c.args.tree.items.items c.in-Ok.image.world c.requires.few c.in-Ok.ensures.built

pub returns-in_ok-build_line-in-Err-clause-refused : goal.returns-in_ok-build_line-in-Err-clause-refused
returns-in_ok-build_line-in-Err-clause-refused c =
    subst (λ (x : List ℕ). WorldRead c.args.bytes.now (Err x)) (sym c.in_ok-build_line-in-Err.ensures.line)
    (read_unbuilt c.args.bytes.now c.args.tree.names c.args.tree.items.items c.args.tree.items.items c.in-Err.refusal c.requires.short (c.requires.text, c.requires.names) refl
    (c.in-Err.ensures.refused c.in_ok-build_line-in-Err.ensures.refused))
