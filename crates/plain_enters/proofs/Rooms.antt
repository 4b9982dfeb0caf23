-- Room in a stack.
use Rattle.std.proofs.Common.{ℕ, zero, suc, ◌+◌, ◌*◌, ◌≤◌, arith}
use Rattle.std.specs.Prelude.{List}
use Rattle.sparc_store.specs.Words.{Words}
use Rattle.sparc_store.specs.Windows.{Frame as Window, frame_before, but_first}
use Rattle.source_model.specs.Soundness.{body_in}
use Rattle.frame_walk.specs.Walk.{Asked, AreLaid}
use Rattle.plain_words.specs.Units.{frame_words}
use Rattle.plain_runs.specs.Sound.{IsCaller, entry_frame, ending_stub}
use Rattle.plain_enters.specs.Entering.{HasRoom}

-- so many laid frames, each of 330 words at most, take no more than that
laid_room : (asked : Asked) (entry end : ℕ) (memory : Words) (n sp : ℕ) (w : Window) (pc : ℕ) (held : List Window) → ((pc sp fp : ℕ) → asked pc sp fp → (sp ≤ fp) × (fp ≤ sp + 1320)) → AreLaid asked entry end memory n sp w pc held
    → (sp ≤ entry) × (entry ≤ sp + 1320 * n)
unfolding AreLaid
laid_room asked entry end memory zero sp w pc held most laid = (omega (arith, laid.0), omega (arith, laid.0))
laid_room asked entry end memory (suc n) sp w pc held most laid =
    let more = laid_room asked entry end memory n (w 14) (frame_before memory (w 14) held) (w 15 + 8) (but_first held) most laid.1 in
    let one = most pc sp (w 14) laid.0 in
    (omega (arith, more.0, one.0), omega (arith, more.1, one.1))

pub has_room : HasRoom
has_room h b c r low most =
    let m = h.machine in
    let w : Window = frame_before m.memory (m.regs 30) m.older in
    let x = frame_words (body_in h.bodies c) in
    let laid = laid_room (IsCaller h) (entry_frame h.current) ending_stub m.memory r.older (m.regs 30) w (m.regs 31 + 8) (but_first m.older)
    (λ pc sp fp q. (let z = most q.body in (omega (arith, q.room.ends), omega (arith, q.room.ends, z)))) r.callers in
    let mine = most b in
    let new = most c in
    let sp = m.regs 14 in
    let place = r.frame.place in
    let ends = r.frame.ends in
    let fits : entry_frame h.current ≤ sp + 1320 * 4096 = omega (arith, laid.1, mine, ends, r.few) in
    let upper : sp ≤ entry_frame h.current = omega (arith, laid.0, ends) in
    (omega (arith, place.0, fits, new), omega (arith, fits, new), omega (arith, upper, low), omega (arith, fits, upper, new, low))
