-- Where the windows of the current activity are flushed, its frames stand in memory.
use Rattle.std.proofs.Common.{◌≡◌, ℕ, zero, suc, ◌+◌, ◌<◌, refl, ◌∙◌, ap, sym, subst, arith}
use Rattle.std.specs.Prelude.{List, [], ◌∷◌, length}
use Rattle.std.proofs.lemmas.Option.{slice_get_within}
use Rattle.self_terms.specs.declared.nodes.Node.{Node}
use Rattle.self_terms.specs.Depths.{depth}
use Rattle.sparc_store.specs.Words.{Words, word_at, IsWithin}
use Rattle.sparc_store.specs.Windows.{Frame as Window, Stack, IsPlace, CanFlush, kept, saved_at, frame_before, but_first, flushed, spilled, all_spilled, with_spilled, with_saved, but_oldest}
use Rattle.sparc_store.specs.Chain.{frames_from, IsSound, IsStack}
use Rattle.sparc_store.proofs.SoundStacks.{flush_frames, flush_held}
use Rattle.sparc_machine.specs.State.{stack_of}
use Rattle.source_model.specs.Soundness.{body_in}
use Rattle.frame_walk.specs.Walk.{activations, Asked, AreLaid}
use Rattle.frame_walk.proofs.Resting.{laid_as}
use Rattle.frame_moves.specs.Moves.{OnlyStackOf}
use Rattle.frame_moves.proofs.Listed.{stack_of as laid_stack, windows_of, windows_same, LaidBy, laid_listed, listed_laid}
use Rattle.frame_moves.proofs.Spared.{flush_only, low_same, can_flush}
use Rattle.frame_moves.proofs.Moving.{flush_stays, flush_sound, flush_own, flushed_window}
use Rattle.plain_words.specs.Showing.{viewed}
use Rattle.plain_words.specs.Units.{frame_locals}
use Rattle.plain_runs.specs.Host.{Host, descriptor_at, heap_words}
use Rattle.plain_runs.specs.declared.status.Status.TheVariants.{Waiting}
use Rattle.plain_runs.specs.Sound.{IsCaller, IsHeld, Calls, Polls, RunsAt, IsHosted, callers_of, entry_frame, ending_stub}
use Rattle.plain_runs.specs.Course.{AllRun}
use Rattle.plain_runs.proofs.Working.{held_have_room}
use Rattle.plain_steps.proofs.Here.{now_seen}
use Rattle.plain_unwinds.proofs.Walk.{saved_frames}

-- What is flushed rests on memory, on the older frames that are held and on the window in view.

spills_same : (k : ℕ) (s t : Stack) → t.memory ≡ s.memory → t.held ≡ s.held → t.regs 30 ≡ s.regs 30 → (all_spilled k t).memory ≡ (all_spilled k s).memory
unfolding all_spilled
spills_same zero s t memory held low = memory
spills_same (suc k) s t memory held low = spills_same k (spilled s) (spilled t) (λ i. with_spilled (memory i) (low i) (held i)) (ap but_oldest held) low

spills_hold : (k : ℕ) (s t : Stack) → t.held ≡ s.held → (all_spilled k t).held ≡ (all_spilled k s).held
unfolding all_spilled
spills_hold zero s t held = held
spills_hold (suc k) s t held = spills_hold k (spilled s) (spilled t) (ap but_oldest held)

spills_regs : (k : ℕ) (s : Stack) → (all_spilled k s).regs ≡ s.regs
unfolding all_spilled
spills_regs zero s = refl
spills_regs (suc k) s = spills_regs k (spilled s)

pub flushed_regs : (s : Stack) → (flushed s).regs ≡ s.regs
flushed_regs s = spills_regs (length s.held) s

pub flushed_same : (s t : Stack) → t.memory ≡ s.memory → t.held ≡ s.held → t.regs 14 ≡ s.regs 14 → kept t.regs ≡ kept s.regs → (flushed t).memory ≡ (flushed s).memory
flushed_same s t memory held at window =
    let low : t.regs 30 ≡ s.regs 30 = ap (λ (w : Window). w 14) window in
    let spills : (all_spilled (length t.held) t).memory ≡ (all_spilled (length s.held) s).memory = ap (λ (q : List Window). (all_spilled (length q) t).memory) held ∙ spills_same (length s.held) s t memory held low in
    let regs_t = spills_regs (length t.held) t in
    let regs_s = spills_regs (length s.held) s in
    let at2 : (all_spilled (length t.held) t).regs 14 ≡ (all_spilled (length s.held) s).regs 14 = ap (λ (q : ℕ → ℕ). q 14) regs_t ∙ at ∙ sym (ap (λ (q : ℕ → ℕ). q 14) regs_s) in
    let window2 : kept (all_spilled (length t.held) t).regs ≡ kept (all_spilled (length s.held) s).regs = ap kept regs_t ∙ window ∙ sym (ap kept regs_s) in
    λ i. with_saved (spills i) (at2 i) (window2 i)

pub flushed_held : (s t : Stack) → t.held ≡ s.held → (flushed s).held ≡ [] → (flushed t).held ≡ []
flushed_held s t held none = ap (λ (q : List Window). (all_spilled (length q) t).held) held ∙ spills_hold (length s.held) s t held ∙ none

-- Where the machine is at a poll.

laid_more : (asked : Asked) (entry end : ℕ) (memory : Words) (n sp : ℕ) (w : Window) (pc : ℕ) (held : List Window) → asked pc sp (w 14) → AreLaid asked entry end memory n (w 14) (frame_before memory (w 14) held) (w 15 + 8) (but_first held)
    → AreLaid asked entry end memory (suc n) sp w pc held
unfolding AreLaid
laid_more asked entry end memory n sp w pc held first rest = (first, rest)

entry_place : (k : ℕ) → k < 4 → IsPlace (entry_frame k)
entry_place k low = (omega arith, omega arith, omega (arith, low), omega arith)

tail_same : (f g : Window) (fs gs : List Window) → f ∷ fs ≡ g ∷ gs → fs ≡ gs
tail_same f g fs gs e = cc

next_windows : (n : ℕ) (memory : Words) (at : ℕ) (held : List Window) → windows_of n memory (frame_before memory at held) (but_first held) ≡ frames_from n memory at held
unfolding frames_from
next_windows zero memory at held = refl
next_windows (suc n) memory at [] = refl
next_windows (suc n) memory at (f ∷ held) = refl

saved_unfolds : (n : ℕ) (memory : Words) (at : ℕ) → frames_from (suc n) memory at [] ≡ saved_at memory at ∷ frames_from n memory (saved_at memory at 14) []
unfolding frames_from
saved_unfolds n memory at = refl

module _ (h : Host) (b n : ℕ) (node : Node) (r : RunsAt h b n node) (hosted : IsHosted h) (run : AllRun h) where
  few : h.current < 4
  few = omega (arith, slice_get_within h.statuses h.current (Waiting r.view.sp r.view.pc r.view.known) r.view.running, hosted.activities)

  laid_now : AreLaid (IsHeld h) (entry_frame h.current) ending_stub h.machine.memory (suc r.view.older) (h.machine.regs 14) (kept h.machine.regs) h.machine.pc h.machine.older
  laid_now =
      let m = h.machine in
      let p = r.poll in
      let first : IsHeld h m.pc (m.regs 14) (m.regs 30) = Polls b n (record { at = p.at; word = 0; unit = p.unit; inside = p.inside; within = omega arith; address = omega (arith, p.address) }) (run b) r.view.frame in
      laid_more (IsHeld h) (entry_frame h.current) ending_stub m.memory r.view.older (m.regs 14) (kept m.regs) m.pc m.older first
      (laid_as (IsCaller h) (IsHeld h) (entry_frame h.current) ending_stub m.memory r.view.older (m.regs 30) (frame_before m.memory (m.regs 30) m.older) (m.regs 31 + 8) (but_first m.older) (λ pc sp fp c. Calls c) r.view.callers)

  sound : IsSound (suc r.view.older) (stack_of h.machine)
  sound = record { whole = hosted.within; frames = hosted.windows; covers = r.view.held }

  stack : IsStack (entry_frame h.current) (suc r.view.older) (stack_of h.machine)
  stack = laid_stack (descriptor_at h) (IsHeld h) (entry_frame h.current) ending_stub (suc r.view.older) h.machine.pc (stack_of h.machine) (held_have_room h run) (entry_place h.current few) laid_now

  -- memory with its frames
  abbrev pub new : Words
  new = (flushed (stack_of h.machine)).memory

  pub new_within : IsWithin new
  new_within = (flush_sound (entry_frame h.current) (suc r.view.older) (stack_of h.machine) sound stack).whole

  pub new_low : (a : ℕ) → a < 0x40000000 → word_at new a ≡ word_at h.machine.memory a
  new_low a lt = low_same h.machine.memory new a (flush_only (stack_of h.machine)) lt

  pub new_heap : heap_words new ≡ heap_words h.machine.memory
  new_heap = ap (λ (ws : List ℕ). (let y : Words = record { code = []; heap = ws; control = []; stacks = [] } in y)) (flush_only (stack_of h.machine)).heap

  pub new_own : OnlyStackOf (entry_frame h.current) h.machine.memory new
  new_own = flush_own (entry_frame h.current) (suc r.view.older) (stack_of h.machine) sound stack

  pub none_held : (flushed (stack_of h.machine)).held ≡ []
  none_held = flush_held (entry_frame h.current) (suc r.view.older) (stack_of h.machine) sound stack

  pub window_saved : saved_at new (h.machine.regs 14) ≡ kept h.machine.regs
  window_saved = flushed_window (entry_frame h.current) (suc r.view.older) (stack_of h.machine) sound stack

  pub may_be_flushed : CanFlush (stack_of h.machine)
  may_be_flushed = can_flush (entry_frame h.current) (suc r.view.older) (stack_of h.machine) sound stack

  pub new_laid : AreLaid (IsHeld h) (entry_frame h.current) ending_stub new (suc r.view.older) (h.machine.regs 14) (saved_at new (h.machine.regs 14)) h.machine.pc []
  new_laid = (flush_stays (descriptor_at h) (IsHeld h) (entry_frame h.current) ending_stub (suc r.view.older) h.machine.pc (stack_of h.machine) (held_have_room h run) (entry_place h.current few) sound laid_now).1

  -- what they show
  pub new_shows : saved_frames h new (suc r.view.older) (h.machine.regs 14) h.machine.pc ≡ viewed h.machine b n (frame_locals (body_in h.bodies b)) (depth (body_in h.bodies b).nodes n) ∷ callers_of h r.view.older
  new_shows =
      let m = h.machine in
      (flush_stays (descriptor_at h) (IsHeld h) (entry_frame h.current) ending_stub (suc r.view.older) m.pc (stack_of m) (held_have_room h run) (entry_place h.current few) sound laid_now).0
      ∙ ap (λ q. activations (descriptor_at h) m.memory q (m.regs 14) (kept m.regs) m.pc m.older) (sym r.view.count)
      ∙ now_seen h b n node r

  -- the callers are laid
  pub callers_laid : AreLaid (IsCaller h) (entry_frame h.current) ending_stub new r.view.older (h.machine.regs 30) (saved_at new (h.machine.regs 30)) (h.machine.regs 31 + 8) []
  callers_laid =
      let m = h.machine in
      let older = r.view.older in
      let w = kept m.regs in
      let v = saved_at new (m.regs 14) in
      let e : v ∷ frames_from (suc older) new (v 14) [] ≡ w ∷ frames_from (suc older) m.memory (w 14) m.older =
      sym (saved_unfolds (suc older) new (m.regs 14)) ∙ flush_frames (entry_frame h.current) (suc older) (stack_of m) sound stack in
      let behind : frames_from older new (v 14) [] ≡ frames_from older m.memory (m.regs 30) m.older =
      tail_same v w (frames_from older new (v 14) []) (frames_from older m.memory (w 14) m.older) (windows_same (suc older) m.memory new w v m.older [] e) in
      let at : v 14 ≡ m.regs 30 = ap (λ (q : Window). q 14) window_saved in
      let same : windows_of older m.memory (frame_before m.memory (m.regs 30) m.older) (but_first m.older) ≡ windows_of older new (saved_at new (m.regs 30)) [] =
      next_windows older m.memory (m.regs 30) m.older ∙ sym behind ∙ ap (λ q. frames_from older new q []) at ∙ sym (next_windows older new (m.regs 30) []) in
      let P : List Window → Type 0 = LaidBy (IsCaller h) (entry_frame h.current) ending_stub (m.regs 30) (m.regs 31 + 8) in
      listed_laid (IsCaller h) (entry_frame h.current) ending_stub new older (m.regs 30) (saved_at new (m.regs 30)) (m.regs 31 + 8) []
      (subst P same (laid_listed (IsCaller h) (entry_frame h.current) ending_stub m.memory older (m.regs 30) (frame_before m.memory (m.regs 30) m.older) (m.regs 31 + 8) (but_first m.older) r.view.callers))
