use Rattle.std.proofs.Common.{◌≡◌, sym, ◌∙◌}
use Rattle.std.specs.Prelude.{None, List}
use Rattle.self_grammar.specs.declared.pieces.Breach.{Breach}
use Rattle.self_grammar.specs.declared.pieces.Made.{Made}
use Rattle.self_reader.specs.declared.settling.Sums.{Sums}
use Rattle.reader_states.specs.Turns.{event_in}
use Rattle.self_reader.specs.Settling.{first_at, broken_at}
use Rattle.self_reader.proofs.SettlingLemmas.{sound, pends}
use Rattle.self_reader.proofs.settling.settle.Goals as goal

pub sums_behind-sums-requires-clause-sound : goal.sums_behind-sums-requires-clause-sound
sums_behind-sums-requires-clause-sound c =
    let s : Sums = record { nesting = c.counts.inside.nesting; pending = c.counts.inside.pending; nodes = c.counts.inside.nodes; size = c.counts.inside.size } in
    let made : List Made = c.in_ok-made.made.items in
    let late : List Breach = c.deref-2.result.now in
    let h : None ≡ first_at c.args.spot (broken_at c.args.limits late s c.deref-3.result.now (event_in c.args.event)) = c.in-None.ensures in
    rw (c.deref-6.ensures.value) ((sound c.args.spot c.args.limits late s made (event_in c.args.event) (rw (← c.deref-3.ensures.value) (sym h))).room)

pub sums_behind-sums-requires-clause-pending : goal.sums_behind-sums-requires-clause-pending
sums_behind-sums-requires-clause-pending c =
    let s : Sums = record { nesting = c.counts.inside.nesting; pending = c.counts.inside.pending; nodes = c.counts.inside.nodes; size = c.counts.inside.size } in
    let made : List Made = c.in_ok-made.made.items in
    let late : List Breach = c.deref-2.result.now in
    let h : None ≡ first_at c.args.spot (broken_at c.args.limits late s c.deref-3.result.now (event_in c.args.event)) = c.in-None.ensures in
    let none = (sound c.args.spot c.args.limits late s made (event_in c.args.event) (rw (← c.deref-3.ensures.value) (sym h))).pending in
    rw (c.deref-6.ensures.value, ← c.deref.ensures.value) (c.pend-pending.ensures.pending (pends c.pend-pending.result.1 (c.pend-pending.ensures.broken ∙ (rw (c.deref.ensures.value) none))))
