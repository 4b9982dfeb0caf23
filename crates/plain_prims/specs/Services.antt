-- What service 3 does to machine and host.
use Rattle.std.specs.Prelude.{ℕ, ◌+◌}
use Rattle.object_maps.specs.declared.layout.Heap.{Heap}
use Rattle.sparc_store.specs.Words.{Words}
use Rattle.sparc_store.specs.Windows.{with_reg}
use Rattle.plain_runs.specs.Host.{Host}
use Rattle.plain_runs.specs.Services.{settled, passed}

-- the heap as machine and host say it
abbrev pub heap_of : Host → Heap
heap_of h = record { top = h.machine.regs 6; next = h.next }

-- The primitive has left this memory and this heap, has taken so many words of plain cost, and answers this word. A step is done, and the machine
-- goes on behind the trap; goal and plain cost say what is left.
abbrev pub performs : ℕ → ℕ → Words → Heap → ℕ → ℕ → Host → Host
performs goal left memory heap words word h =
    let s = settled goal left (record h { machine = record h.machine { memory = memory } }) in
    passed (record s { machine = record s.machine { regs = with_reg (with_reg s.machine.regs 6 heap.top) 8 word }; next = heap.next; cost = s.cost + words })
