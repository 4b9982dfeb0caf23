-- An activation is about to begin.
use Rattle.std.proofs.Common.{◌≡◌, ℕ, suc, ◌+◌, ◌-◌, ◌*◌, ◌/◌, ◌%◌, ◌<◌, ◌≤◌, ◌∙◌, arith}
use Rattle.std.specs.Prelude.{List}
use Rattle.self_terms.specs.declared.nodes.Node.{Node}
use Rattle.sparc_store.specs.Words.{Words, HasFrame}
use Rattle.sparc_store.specs.Windows.{Frame as Window, IsPlace, kept, frame_before, but_first}
use Rattle.sparc_store.specs.Chain.{IsSound, IsStack}
use Rattle.sparc_machine.specs.State.{stack_of}
use Rattle.source_model.specs.Soundness.{body_in}
use Rattle.frame_walk.specs.Walk.{Asked, AreLaid}
use Rattle.frame_moves.proofs.Listed.{stack_of as laid_stack}
use Rattle.plain_words.specs.Going.{StandsAt}
use Rattle.plain_words.specs.Units.{frame_words}
use Rattle.plain_runs.specs.Host.{Host, descriptor_at}
use Rattle.plain_runs.specs.Units.{HasUnit, IsBehindCall}
use Rattle.plain_runs.specs.Sound.{IsCaller, InFrame, IsHosted, entry_frame, ending_stub}
use Rattle.plain_runs.specs.Course.{AllRun}
use Rattle.plain_runs.proofs.Working.{callers_have_room, same_stack}
use Rattle.plain_enters.proofs.Rooms.{has_room}
use Rattle.plain_evaluates.proofs.Bounds.{frame_most}

-- The frame of the sender of a message is in view, and its code goes on 8 bytes behind the address in %o7, behind the call of a node; the
-- machine stands at the first word of a body's unit.
pub record IsCalled (h : Host) (b n c at : ℕ) (node : Node) : Type 0 where
  pub view : InFrame h b
  pub hosted : IsHosted h
  pub runs : AllRun h
  pub current : h.current < 4
  pub behind : IsBehindCall h (h.machine.regs 15 + 8) b n node
  pub stands : StandsAt h.machine at
  pub unit : HasUnit h c at

laid_more : (asked : Asked) (entry end : ℕ) (memory : Words) (n sp : ℕ) (w : Window) (pc : ℕ) (held : List Window) → asked pc sp (w 14) → AreLaid asked entry end memory n (w 14) (frame_before memory (w 14) held) (w 15 + 8) (but_first held)
    → AreLaid asked entry end memory (suc n) sp w pc held
unfolding AreLaid
laid_more asked entry end memory n sp w pc held first rest = (first, rest)

pub entry_place : (k : ℕ) → k < 4 → IsPlace (entry_frame k)
entry_place k low = (omega arith, omega arith, omega (arith, low), omega arith)

-- the sender's frame waits for the answer, and those behind it do
pub sender_laid : (h : Host) (b n c at : ℕ) (node : Node) → (q : IsCalled h b n c at node)
    → AreLaid (IsCaller h) (entry_frame h.current) ending_stub h.machine.memory (suc q.view.older) (h.machine.regs 14) (kept h.machine.regs) (h.machine.regs 15 + 8) h.machine.older
sender_laid h b n c at node q =
    let m = h.machine in
    let one : IsCaller h (m.regs 15 + 8) (m.regs 14) (m.regs 30) = record { body = b; number = n; node = node; call = q.behind; room = q.view.frame } in
    laid_more (IsCaller h) (entry_frame h.current) ending_stub m.memory q.view.older (m.regs 14) (kept m.regs) (m.regs 15 + 8) m.older one q.view.callers

pub sender_sound : (h : Host) (b n c at : ℕ) (node : Node) → (q : IsCalled h b n c at node) → IsSound (suc q.view.older) (stack_of h.machine)
sender_sound h b n c at node q = record { whole = q.hosted.within; frames = q.hosted.windows; covers = q.view.held }

pub sender_stack : (h : Host) (b n c at : ℕ) (node : Node) → (q : IsCalled h b n c at node) → IsStack (entry_frame h.current) (suc q.view.older) (stack_of h.machine)
sender_stack h b n c at node q =
    laid_stack (descriptor_at h) (IsCaller h) (entry_frame h.current) ending_stub (suc q.view.older) (h.machine.regs 15 + 8) (stack_of h.machine) (callers_have_room h q.runs) (entry_place h.current q.current) (sender_laid h b n c at node q)

-- a frame of the body has its place below the sender's
abbrev pub place_below : Host → ℕ → ℕ
place_below h c = h.machine.regs 14 - 4 * frame_words (body_in h.bodies c)

pub place_there : (h : Host) (b n c at : ℕ) (node : Node) → (q : IsCalled h b n c at node) → HasFrame (place_below h c) (frame_words (body_in h.bodies c))
place_there h b n c at node q = has_room h b c q.view q.current (λ d. frame_most (body_in h.bodies d) (q.runs d).translates)

pub place_is : (h : Host) (b n c at : ℕ) (node : Node) → (q : IsCalled h b n c at node) → h.machine.regs 14 ≡ place_below h c + 4 * frame_words (body_in h.bodies c)
place_is h b n c at node q = let there = place_there h b n c at node q in omega (arith, there.1)

one_stack : (sp words fp : ℕ) → sp % 0x02000000 + 4 * words ≤ 16781312 → fp ≡ sp + 4 * words → sp / 0x02000000 ≡ fp / 0x02000000
one_stack sp words fp room e = omega (arith, e)

-- in the same stack
pub place_stack : (h : Host) (b n c at : ℕ) (node : Node) → (q : IsCalled h b n c at node) → place_below h c / 0x02000000 ≡ entry_frame h.current / 0x02000000
place_stack h b n c at node q =
    let m = h.machine in
    let there = place_there h b n c at node q in
    one_stack (place_below h c) (frame_words (body_in h.bodies c)) (m.regs 14) there.3 (place_is h b n c at node q)
    ∙ same_stack (descriptor_at h) (IsCaller h) (entry_frame h.current) ending_stub m.memory (suc q.view.older) (m.regs 14) (kept m.regs) (m.regs 15 + 8) m.older (callers_have_room h q.runs) (sender_laid h b n c at node q)
