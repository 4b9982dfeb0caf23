-- The first frame of a stack, which keeps the holder alone.
use Rattle.std.proofs.Common.{◌≡◌, ℕ, ◌+◌, ◌-◌, ◌*◌, ◌/◌, ◌<◌, ◌≤◌, ◌∙◌, ap, arith, inl}
use Rattle.std.proofs.lemmas.Option.{slice_get_within}
use Rattle.std.specs.Prelude.{true, List, [], length, Some, slice_get}
use Rattle.self_terms.specs.declared.bodies.Body.{Body}
use Rattle.sparc_store.specs.Words.{Words, word_at, HasFrame, IsWithin}
use Rattle.sparc_store.specs.Windows.{saved_at}
use Rattle.sparc_store.specs.Chain.{ChangedIn}
use Rattle.source_model.specs.Soundness.{body_in}
use Rattle.frame_walk.specs.Places.{shown, plain_descriptor, holder_offset}
use Rattle.frame_walk.specs.Walk.{activations, AreLaid}
use Rattle.frame_moves.proofs.Moving.{frame_own, others_between, others_stay}
use Rattle.plain_words.specs.Units.{owns_context, frame_locals, frame_words}
use Rattle.plain_runs.specs.Host.{Host, descriptor_at, heap_words}
use Rattle.plain_runs.specs.declared.status.Status.{Status}
use Rattle.plain_runs.specs.declared.status.Status.TheVariants.{Waiting}
use Rattle.plain_runs.specs.Services.{filled}
use Rattle.plain_runs.specs.Sound.{IsHeld, CanTakeUp, entry_frame, ending_stub}
use Rattle.plain_runs.specs.Course.{AllRun}
use Rattle.plain_runs.proofs.Taking.{take_up_kept}
use Rattle.plain_runs.proofs.Working.{heap_stays, held_have_room}
use Rattle.plain_enters.proofs.Filling.{filled_shows}
use Rattle.plain_begins.proofs.Parking.{entry_place, other_entry}
use Rattle.plain_evaluates.proofs.Bounds.{frame_least, frame_most, locals_are}
use Rattle.plain_spawns.proofs.Resting.{Rests}

-- the place of a first frame
abbrev pub first_place : Host → ℕ → ℕ → ℕ
first_place h c k = entry_frame k - 4 * frame_words (body_in h.bodies c)

below_entry : (k words : ℕ) → k < 4 → words ≤ 330 → HasFrame (entry_frame k - 4 * words) words
below_entry k words low most = (omega (arith, low, most), omega (arith, most), omega (arith, low), omega (arith, low, most))

below_stack : (k words : ℕ) → k < 4 → words ≤ 330 → (entry_frame k - 4 * words) / 0x02000000 ≡ entry_frame k / 0x02000000
below_stack k words low most = omega (arith, low, most)

pub there_first : (h : Host) → AllRun h → (c k : ℕ) → k < 4 → HasFrame (first_place h c k) (frame_words (body_in h.bodies c))
there_first h run c k low = below_entry k (frame_words (body_in h.bodies c)) low (frame_most (body_in h.bodies c) (run c).translates)

pub stack_first : (h : Host) → AllRun h → (c k : ℕ) → k < 4 → first_place h c k / 0x02000000 ≡ entry_frame k / 0x02000000
stack_first h run c k low = below_stack k (frame_words (body_in h.bodies c)) low (frame_most (body_in h.bodies c) (run c).translates)

module _ (h : Host) (memory : Words) (ss : List Status) (rest : Rests h memory ss) (run : AllRun h) (room : length h.statuses < 4) (c holder : ℕ) (owned : owns_context (body_in h.bodies c) ≡ true) where
  abbrev x : Body
  x = body_in h.bodies c

  abbrev place : ℕ
  place = first_place h c (length h.statuses)

  abbrev new : Words
  new = filled memory place holder []

  most : frame_words x ≤ 330
  most = frame_most x (run c).translates

  pub first_there : HasFrame place (frame_words x)
  first_there = there_first h run c (length h.statuses) room

  pub first_ends : entry_frame (length h.statuses) ≡ place + 4 * frame_words x
  first_ends = omega (arith, most)

  pub none_kept : frame_locals x ≡ 0
  none_kept = locals_are x true owned

  abbrev Shows : (ℕ → ℕ) → Type 0
  Shows window =
      (shown new window place (plain_descriptor c 0 0 0) ≡ record { body = c; next = 0; receiver = window 8; holder = holder; outer = window 0; context = window 1; mark = place; locals = []; pending = [] })
      × ChangedIn place (4 * frame_words x) memory new × IsWithin new

  fills : (window : ℕ → ℕ) → Shows window
  fills window = filled_shows memory window place (frame_words x) holder c [] rest.within first_there (omega (arith, frame_least x))

  pub first_shows : (window : ℕ → ℕ) → shown new window place (plain_descriptor c 0 (frame_locals x) 0) ≡ record { body = c; next = 0; receiver = window 8; holder = holder; outer = window 0; context = window 1; mark = place; locals = []; pending = [] }
  first_shows window = ap (λ n. shown new window place (plain_descriptor c 0 n 0)) none_kept ∙ (fills window).0

  pub first_within : IsWithin new
  first_within = (fills (λ k. 0)).2

  pub first_heap : heap_words new ≡ heap_words memory
  first_heap = heap_stays memory (place + holder_offset) holder (omega (arith, most))

  pub first_low : (b : ℕ) → b < 0x40000000 → word_at new b ≡ word_at memory b
  first_low b lt = (fills (λ k. 0)).1 b (inl (omega (arith, lt, most)))

  -- the other stacks stay as they are
  pub first_others : (k sp pc count : ℕ) → slice_get ss k ≡ Some (Waiting sp pc count)
      → (activations (descriptor_at h) new count sp (saved_at new sp) pc [] ≡ activations (descriptor_at h) memory count sp (saved_at memory sp) pc [])
      × AreLaid (IsHeld h) (entry_frame k) ending_stub new count sp (saved_at new sp) pc []
  first_others k sp pc count is =
      let lt = slice_get_within ss k (Waiting sp pc count) is in
      let long = rest.long in
      others_stay (descriptor_at h) (IsHeld h) (entry_frame (length h.statuses)) (entry_frame k) ending_stub memory new count sp pc (held_have_room h run)
      (entry_place k (omega (arith, lt, long, room))) (other_entry k (length h.statuses) (λ e. (let bad : ⊥ = omega (arith, lt, long, e) in bad)))
      (frame_own (entry_frame (length h.statuses)) place (frame_words x) memory new first_there (stack_first h run c (length h.statuses) room) (fills (λ k. 0)).1)
      (rest.laid k (Waiting sp pc count) is)

  -- and may be taken up as they might
  pub first_ready : (k sp pc count : ℕ) → slice_get ss k ≡ Some (Waiting sp pc count) → CanTakeUp h new k sp pc count
  first_ready k sp pc count is =
      let lt = slice_get_within ss k (Waiting sp pc count) is in
      let long = rest.long in
      take_up_kept h (held_have_room h run) memory new k sp pc count
      (others_between (descriptor_at h) (IsHeld h) (entry_frame (length h.statuses)) (entry_frame k) ending_stub memory new count sp (saved_at memory sp) pc [] (held_have_room h run)
      (entry_place k (omega (arith, lt, long, room))) (other_entry k (length h.statuses) (λ e. (let bad : ⊥ = omega (arith, lt, long, e) in bad)))
      (frame_own (entry_frame (length h.statuses)) place (frame_words x) memory new first_there (stack_first h run c (length h.statuses) room) (fills (λ k. 0)).1)
      (rest.laid k (Waiting sp pc count) is))
      (rest.ready k (Waiting sp pc count) is)
