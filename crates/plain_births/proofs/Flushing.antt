-- The frames of the current activity may go to memory.
use Rattle.std.proofs.Common.{◌≡◌, ℕ, suc, ◌+◌, arith}
use Rattle.std.specs.Prelude.{List, Some, slice_get}
use Rattle.self_terms.specs.declared.nodes.Node.{Node}
use Rattle.sparc_store.specs.Words.{Words}
use Rattle.sparc_store.specs.Windows.{Frame as Window, kept, frame_before, but_first, CanFlush}
use Rattle.sparc_store.specs.Chain.{IsSound, IsStack}
use Rattle.sparc_machine.specs.State.{stack_of}
use Rattle.source_model.specs.State.{State}
use Rattle.frame_walk.specs.Walk.{Asked, AreLaid}
use Rattle.frame_walk.proofs.Resting.{laid_as}
use Rattle.frame_moves.proofs.Listed.{stack_of as laid_stack}
use Rattle.frame_moves.proofs.Spared.{can_flush}
use Rattle.plain_runs.specs.Host.{Host, descriptor_at}
use Rattle.plain_runs.specs.Sound.{IsCaller, IsHeld, Calls, Polls, RunsAt, entry_frame, ending_stub}
use Rattle.plain_runs.specs.declared.status.Status.TheVariants.{Waiting}
use Rattle.plain_runs.proofs.Working.{held_have_room}
use Rattle.plain_begins.specs.Begins.{CanPark, AtPoll, Idle}
use Rattle.plain_begins.proofs.Parking.{entry_place}
use Rattle.plain_turns.specs.Resting.{Rests}
use Rattle.plain_births.specs.Births.{FramesMayFlush}

laid_more : (asked : Asked) (entry end : ℕ) (memory : Words) (n sp : ℕ) (w : Window) (pc : ℕ) (held : List Window) → asked pc sp (w 14) → AreLaid asked entry end memory n (w 14) (frame_before memory (w 14) held) (w 15 + 8) (but_first held)
    → AreLaid asked entry end memory (suc n) sp w pc held
unfolding AreLaid
laid_more asked entry end memory n sp w pc held first rest = (first, rest)

module _ (h : Host) (s : State) (x : Rests h s) (b n : ℕ) (node : Node) (r : RunsAt h b n node) where
  -- the frame in view is in a poll, and the others wait
  laid_now : AreLaid (IsHeld h) (entry_frame h.current) ending_stub h.machine.memory (suc r.view.older) (h.machine.regs 14) (kept h.machine.regs) h.machine.pc h.machine.older
  laid_now =
      let m = h.machine in
      let p = r.poll in
      let first : IsHeld h m.pc (m.regs 14) (m.regs 30) = Polls b n (record { at = p.at; word = 0; unit = p.unit; inside = p.inside; within = omega arith; address = omega (arith, p.address) }) (x.sound.runs b) r.view.frame in
      laid_more (IsHeld h) (entry_frame h.current) ending_stub m.memory r.view.older (m.regs 14) (kept m.regs) m.pc m.older first
      (laid_as (IsCaller h) (IsHeld h) (entry_frame h.current) ending_stub m.memory r.view.older (m.regs 30) (frame_before m.memory (m.regs 30) m.older) (m.regs 31 + 8) (but_first m.older) (λ pc sp fp c. Calls c) r.view.callers)

  sound : IsSound (suc r.view.older) (stack_of h.machine)
  sound = record { whole = x.sound.hosted.within; frames = x.sound.hosted.windows; covers = r.view.held }

  stack : IsStack (entry_frame h.current) (suc r.view.older) (stack_of h.machine)
  stack = laid_stack (descriptor_at h) (IsHeld h) (entry_frame h.current) ending_stub (suc r.view.older) h.machine.pc (stack_of h.machine) (held_have_room h x.sound.runs) (entry_place h.current x.sound.current) laid_now

  may_flush : CanFlush (stack_of h.machine)
  may_flush = can_flush (entry_frame h.current) (suc r.view.older) (stack_of h.machine) sound stack

by_parked : (h : Host) (s : State) (x : Rests h s) (sp pc count : ℕ) → slice_get h.statuses h.current ≡ Some (Waiting sp pc count) → CanPark h → CanFlush (stack_of h.machine)
by_parked h s x sp pc count running (AtPoll b n node r) = may_flush h s x b n node r
by_parked h s x sp pc count running (Idle idle) = absurd (idle sp pc count running)

pub frames_may_flush : FramesMayFlush
frames_may_flush h s x sp pc count running = by_parked h s x sp pc count running x.parks
