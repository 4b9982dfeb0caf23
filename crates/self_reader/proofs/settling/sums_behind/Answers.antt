use Rattle.std.proofs.Common.{◌≡◌, ◌+◌, length, refl, arith}
use Rattle.self_grammar.specs.Counts.{nesting_after}
use Rattle.reader_states.specs.Turns.{listed}
use Rattle.self_reader.proofs.SettlingLemmas.{deep_room, nodes_room, large_room, uncut}
use Rattle.self_reader.proofs.settling.sums_behind.Goals as goal

pub returns : goal.returns
returns c =
    let l = c.args.limits in
    let s = c.args.sums in
    let made = c.args.made.now in
    let e = c.args.event in
    let nesting : c.nest.result ≡ nesting_after s.nesting e.opens e.closes = c.nest.ensures (deep_room l s.nesting e.opens (omega arith) c.requires.sound.deep) in
    let nodes = uncut c.saturating_add.result s.nodes (length made) l.body (omega arith) (omega arith) (λ z. (nodes_room l s.nodes s.size made c.requires.sound.nodes z).0) c.saturating_add.ensures in
    let behind = uncut c.saturating_add-2.result s.size (length made) l.size (omega arith) (omega arith) (λ z. (nodes_room l s.nodes s.size made c.requires.sound.nodes z).1) c.saturating_add-2.ensures in
    let size =
    uncut c.saturating_add-3.result (s.size + length made) (length (listed e.counted)) l.size (rw (← behind) c.saturating_add-2.type_inv) (omega arith)
    (large_room l (s.size + length made) e.counted c.requires.sound.large)
    (rw (← behind, ← c.one_if.ensures) c.saturating_add-3.ensures) in
    rw (nesting, nodes, size, c.requires.pending) refl
