use Rattle.std.proofs.Common.{◌≡◌, ◌++◌, map, take}
use Rattle.self_grammar.specs.declared.pieces.Item.TheVariants as items
use Rattle.self_reader.proofs.settling.say.Given as goal

abbrev pub invariant-loop-item : goal.invariant-loop-item
invariant-loop-item l = l.items.items ≡ l.fn.items.items ++ take l.item-index l.ready

abbrev pub invariant-loop-node : goal.invariant-loop-node
invariant-loop-node l = l.items.items ≡ (l.fn.items.items ++ l.ready) ++ map items.Node (take l.node-index l.made)
