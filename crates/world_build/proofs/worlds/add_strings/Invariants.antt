use Rattle.std.proofs.Common.{◌≡◌, ◌++◌, map, drop}
use Rattle.source_model.specs.declared.objects.Thing.TheVariants.{Text}
use Rattle.world_build.proofs.worlds.add_strings.Given as goal

abbrev pub invariant-loop-text : goal.invariant-loop-text
invariant-loop-text l = l.things.items ++ map Text (map (λ t. t.now) (drop l.text-index l.texts)) ≡ l.fn.things.items ++ map Text (map (λ t. t.now) l.texts)
