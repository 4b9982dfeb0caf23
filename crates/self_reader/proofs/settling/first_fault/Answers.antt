use Rattle.std.proofs.Common.{length, ◌+◌}
use Rattle.self_grammar.specs.Counts.{too_pending, too_many_nodes, too_large}
use Rattle.reader_states.specs.Turns.{listed}
use Rattle.self_reader.specs.Settling.{too_deep}
use Rattle.self_reader.proofs.SettlingLemmas.{first_of_all}
use Rattle.self_reader.proofs.settling.first_fault.Goals as goal

pub returns : goal.returns
returns c =
    let l = c.args.limits in
    let s = c.args.sums in
    let made = c.args.made.now in
    let e = c.args.event in
    first_of_all
    c.args.spot
    c.args.late.now
    (listed e.broken)
    (listed e.broken_too)
    (too_deep l s.nesting e.opens)
    (too_pending l.pending s.pending made)
    (too_many_nodes l s.nodes s.size made)
    (too_large l (s.size + length made) (listed e.counted))
    c.first_late-first.result
    c.or_sooner-first.result
    c.or_sooner-first-2.result
    c.or_sooner-first-3.result
    c.or_sooner-first-4.result
    c.or_sooner-first-5.result
    c.or_sooner.result
    (record {
      one = c.first_late-first.ensures;
      two = c.or_sooner-first.ensures;
      three = c.or_sooner-first-2.ensures;
      four = rw (← c.too_deep.ensures) c.or_sooner-first-3.ensures;
      five = rw (← c.requires) c.or_sooner-first-4.ensures;
      six = rw (← c.too_many_nodes.ensures) c.or_sooner-first-5.ensures;
      seven = rw (← c.too_large.ensures) c.or_sooner.ensures;
    })
