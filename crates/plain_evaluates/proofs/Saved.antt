-- Memory when an activation has begun: what a SAVE and the new frame leave of it.
use Rattle.std.proofs.Common.{◌≡◌, ℕ, suc, ◌+◌, ◌*◌, ◌<◌, ◌≤◌, refl, ◌∙◌, ap, arith, inl, inr}
use Rattle.std.specs.Prelude.{List, [], ◌∷◌, length}
use Rattle.self_terms.specs.declared.nodes.Node.{Node}
use Rattle.sparc_store.specs.Words.{Words, word_at, with_word, IsWithin}
use Rattle.sparc_store.specs.Windows.{kept, saved, with_room, but_spilled}
use Rattle.sparc_store.specs.Chain.{ChangedIn, IsSound}
use Rattle.sparc_machine.specs.State.{stack_of}
use Rattle.source_model.specs.Soundness.{body_in}
use Rattle.frame_walk.specs.Places.{Frame, shown, plain_descriptor, holder_offset, local_offset}
use Rattle.frame_walk.specs.Walk.{activations, AreLaid}
use Rattle.frame_moves.specs.Moves.{OnlyStackOf}
use Rattle.frame_moves.proofs.Spared.{save_only, low_same}
use Rattle.frame_moves.proofs.Moving.{save_then_stays, save_sound, save_own, frame_own, own_then}
use Rattle.plain_words.specs.Moves.{with_words}
use Rattle.plain_words.specs.Units.{frame_locals, frame_words}
use Rattle.plain_runs.specs.Host.{Host, heap_words, descriptor_at}
use Rattle.plain_runs.specs.Services.{filled}
use Rattle.plain_runs.specs.Sound.{IsCaller, entry_frame, ending_stub}
use Rattle.plain_runs.proofs.Working.{callers_have_room, heap_stays}
use Rattle.plain_enters.proofs.Filling.{filled_shows}
use Rattle.plain_evaluates.proofs.Bounds.{frame_least}
use Rattle.plain_evaluates.proofs.Called.{IsCalled, entry_place, sender_laid, sender_sound, sender_stack, place_below, place_there, place_is, place_stack}

-- What a new frame shows beside its place.
pub record Shape : Type 0 where
  pub receiver : ℕ
  pub holder : ℕ
  pub outer : ℕ
  pub context : ℕ
  pub locals : List ℕ

abbrev pub frame_of : ℕ → ℕ → Shape → Frame
frame_of c place x = record { body = c; next = 0; receiver = x.receiver; holder = x.holder; outer = x.outer; context = x.context; mark = place; locals = x.locals; pending = [] }

abbrev pub memory_after : Host → ℕ → Shape → Words
memory_after h c x = filled (with_room h.machine.memory (h.machine.regs 30) h.machine.older) (place_below h c) x.holder x.locals

put_heap : (ws : List ℕ) (memory : Words) (at : ℕ) → 0x40000000 ≤ at → heap_words (with_words memory at ws) ≡ heap_words memory
put_heap [] memory at high = refl
put_heap (w ∷ ws) memory at high = put_heap ws (with_word memory at w) (at + 4) (omega (arith, high)) ∙ heap_stays memory at w high

-- What the memory after it has of that before, and what the new frame shows over any window.
pub record IsAfter (h : Host) (c older : ℕ) (x : Shape) (new : Words) : Type 0 where
  pub own : OnlyStackOf (entry_frame h.current) h.machine.memory new
  pub low : (b : ℕ) → b < 0x40000000 → word_at new b ≡ word_at h.machine.memory b
  pub heap : heap_words new ≡ heap_words h.machine.memory
  pub within : IsWithin new
  pub shows : (window : ℕ → ℕ) → shown new window (place_below h c) (plain_descriptor c 0 (length x.locals) 0)
      ≡ record { body = c; next = 0; receiver = window 8; holder = x.holder; outer = window 0; context = window 1; mark = place_below h c; locals = x.locals; pending = [] }
  pub callers : activations (descriptor_at h) new (suc older) (h.machine.regs 14) (kept h.machine.regs) (h.machine.regs 15 + 8) (but_spilled h.machine.older)
      ≡ activations (descriptor_at h) h.machine.memory (suc older) (h.machine.regs 14) (kept h.machine.regs) (h.machine.regs 15 + 8) h.machine.older
  pub laid : AreLaid (IsCaller h) (entry_frame h.current) ending_stub new (suc older) (h.machine.regs 14) (kept h.machine.regs) (h.machine.regs 15 + 8) (but_spilled h.machine.older)
  pub sound : IsSound (suc (suc older)) (saved (stack_of h.machine))

pub after : (h : Host) (b n c at : ℕ) (node : Node) → (q : IsCalled h b n c at node) → (x : Shape) → length x.locals ≡ frame_locals (body_in h.bodies c) → IsAfter h c q.view.older x (memory_after h c x)
after h b n c at node q x long =
    let m = h.machine in
    let words = frame_words (body_in h.bodies c) in
    let place = place_below h c in
    let there = place_there h b n c at node q in
    let is = place_is h b n c at node q in
    let entry = entry_frame h.current in
    let s = stack_of m in
    let old = (saved s).memory in
    let new = memory_after h c x in
    let sound = sender_sound h b n c at node q in
    let stack = sender_stack h b n c at node q in
    let sound2 = save_sound entry (suc q.view.older) s sound stack in
    let room = frame_least (body_in h.bodies c) in
    let base = with_word old (place + holder_offset) x.holder in
    let fills = λ (window : ℕ → ℕ). filled_shows old window place words x.holder c x.locals sound2.whole there (omega (arith, room, long)) in
    let changed : ChangedIn place (4 * words) old new = (fills (λ k. 0)).1 in
    let callers = save_then_stays (descriptor_at h) (IsCaller h) entry ending_stub (suc q.view.older) (m.regs 15 + 8) s new (callers_have_room h q.runs) (entry_place h.current q.current) sound (sender_laid h b n c at node q)
    (λ a from below. changed a (inr (omega (arith, from, is)))) in
    record {
      own = own_then entry m.memory old new (save_own entry (suc q.view.older) s sound stack) (frame_own entry place words old new there (place_stack h b n c at node q) changed);
      low = λ a lt. changed a (inl (omega (arith, lt, there.1))) ∙ low_same m.memory old a (save_only s) lt;
      heap = put_heap x.locals base (place + local_offset 0) (omega (arith, there.1)) ∙ heap_stays old (place + holder_offset) x.holder (omega (arith, there.1))
          ∙ ap (λ (ws : List ℕ). (let y : Words = record { code = []; heap = ws; control = []; stacks = [] } in y)) (save_only s).heap;
      within = (fills (λ k. 0)).2;
      shows = λ window. (fills window).0;
      callers = callers.0;
      laid = callers.1;
      sound = sound2;
    }
