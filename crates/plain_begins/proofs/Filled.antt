-- The first frame of a stack.
use Rattle.std.proofs.Common.{◌≡◌, ℕ, suc, ◌+◌, ◌-◌, ◌*◌, ◌/◌, ◌<◌, ◌≤◌, refl, ◌∙◌, ap, arith, inl}
use Rattle.std.proofs.lemmas.Grind.{common_steps}
use Rattle.std.proofs.lemmas.List.{length-map}
use Rattle.std.proofs.lemmas.Option.{slice_get_within}
use Rattle.std.specs.Prelude.{Bool, true, false, if◌then◌else◌, List, [], ◌∷◌, length, Some, slice_get}
use Rattle.self_terms.specs.declared.bodies.Body.{Body}
use Rattle.self_terms.specs.declared.bodies.Local.{Local}
use Rattle.self_terms.specs.declared.nodes.Node.{Node}
use Rattle.self_terms.specs.Depths.{grown, depth, depth_from}
use Rattle.sparc_store.specs.Words.{Words, word_at, with_word, HasFrame, IsWithin}
use Rattle.sparc_store.specs.Windows.{saved_at}
use Rattle.sparc_store.specs.Chain.{ChangedIn}
use Rattle.source_model.specs.Soundness.{body_in}
use Rattle.frame_walk.specs.Places.{shown, plain_descriptor, holder_offset, local_offset}
use Rattle.frame_walk.specs.Walk.{activations, AreLaid}
use Rattle.frame_moves.proofs.Moving.{frame_own, others_between, others_stay}
use Rattle.plain_words.specs.Moves.{with_words}
use Rattle.plain_words.specs.Translating.{CanTranslate}
use Rattle.plain_words.specs.declared.references.References.{References}
use Rattle.plain_words.specs.Units.{larger, deepest, datum_word, initial_words, owns_context, frame_locals, frame_words}
use Rattle.plain_runs.specs.Host.{Host, descriptor_at, heap_words}
use Rattle.plain_runs.specs.declared.status.Status.{Status}
use Rattle.plain_runs.specs.declared.status.Status.TheVariants.{Waiting}
use Rattle.plain_runs.specs.Services.{filled}
use Rattle.plain_runs.specs.Sound.{IsHeld, CanTakeUp, entry_frame, ending_stub}
use Rattle.plain_runs.specs.Course.{AllRun}
use Rattle.plain_runs.proofs.Taking.{take_up_kept}
use Rattle.plain_runs.proofs.Working.{heap_stays, held_have_room}
use Rattle.plain_enters.specs.Entering.{largest_frame}
use Rattle.plain_enters.proofs.Filling.{filled_shows}
use Rattle.plain_begins.proofs.Parking.{Parks, entry_place, other_entry}

-- How large a frame is.

larger_most : (a b m : ℕ) → a ≤ m → b ≤ m → larger a b ≤ m
larger_most a b m h k = grind (arith, common_steps)

deepest_most : (nodes : List Node) (d m : ℕ) → ((k : ℕ) → depth_from d nodes k ≤ m) → deepest d nodes ≤ m
deepest_most [] d m h = h 0
deepest_most (n ∷ ns) d m h = larger_most d (deepest (grown n d) ns) m (h 0) (deepest_most ns (grown n d) m (λ k. h (suc k)))

deep_from : (x : Body) → CanTranslate x → (k : ℕ) → depth_from 0 x.nodes k ≤ 64
unfolding depth
deep_from x c k = c.deep k

at_most : (o : Bool) (n : ℕ) → (if o then 0 else n) ≤ n
at_most true n = omega arith
at_most false n = omega arith

half_most : (l d : ℕ) → l ≤ 69 → d ≤ 64 → 2 * ((29 + l + d) / 2) ≤ 330
half_most l d h k = omega arith

half_least : (l d : ℕ) → 28 + l + d ≤ 2 * ((29 + l + d) / 2)
half_least l d = omega arith

frame_most : (x : Body) → CanTranslate x → frame_words x ≤ largest_frame
frame_most x c =
    let few = at_most (owns_context x) (length x.arguments + length x.locals) in
    let arguments = c.arguments in
    let locals = c.locals in
    half_most (frame_locals x) (deepest 0 x.nodes) (omega (arith, few, arguments, locals)) (deepest_most x.nodes 0 64 (deep_from x c))

-- the locals of a frame without a context are all that the body has
pub locals_are : (r : References) (x : Body) → owns_context x ≡ false → length x.arguments ≡ 0 → frame_locals x ≡ length (initial_words r x)
locals_are r x plain none =
    let all = ap (λ o. if o then 0 else length x.arguments + length x.locals) plain in
    let long = length-map x.locals (λ (y : Local). datum_word r y.initial) in
    omega (arith, all, long, none)

frame_least : (x : Body) → 28 + frame_locals x ≤ frame_words x
frame_least x = omega (arith, half_least (frame_locals x) (deepest 0 x.nodes))

-- the place of a first frame
abbrev pub first_place : Host → ℕ → ℕ → ℕ
first_place h c k = entry_frame k - 4 * frame_words (body_in h.bodies c)

put_heap : (ws : List ℕ) (memory : Words) (at : ℕ) → 0x40000000 ≤ at → heap_words (with_words memory at ws) ≡ heap_words memory
put_heap [] memory at high = refl
put_heap (w ∷ ws) memory at high = put_heap ws (with_word memory at w) (at + 4) (omega (arith, high)) ∙ heap_stays memory at w high

below_entry : (k words : ℕ) → k < 4 → words ≤ 330 → HasFrame (entry_frame k - 4 * words) words
below_entry k words low most = (omega (arith, low, most), omega (arith, most), omega (arith, low), omega (arith, low, most))

below_stack : (k words : ℕ) → k < 4 → words ≤ 330 → (entry_frame k - 4 * words) / 0x02000000 ≡ entry_frame k / 0x02000000
below_stack k words low most = omega (arith, low, most)

module _ (h : Host) (memory : Words) (ss : List Status) (park : Parks h memory ss) (run : AllRun h) (room : length h.statuses < 4) (c holder : ℕ) (plain : owns_context (body_in h.bodies c) ≡ false) (none : length (body_in h.bodies c).arguments ≡ 0) where
  abbrev x : Body
  x = body_in h.bodies c

  abbrev words : List ℕ
  words = initial_words h.references x

  abbrev place : ℕ
  place = first_place h c (length h.statuses)

  abbrev new : Words
  new = filled memory place holder words

  most : frame_words x ≤ 330
  most = frame_most x (run c).translates

  pub first_there : HasFrame place (frame_words x)
  first_there = below_entry (length h.statuses) (frame_words x) room most

  pub first_ends : entry_frame (length h.statuses) ≡ place + 4 * frame_words x
  first_ends = omega (arith, most)

  pub first_stack : place / 0x02000000 ≡ entry_frame (length h.statuses) / 0x02000000
  first_stack = below_stack (length h.statuses) (frame_words x) room most

  pub words_long : frame_locals x ≡ length words
  words_long = locals_are h.references x plain none

  abbrev Shows : (ℕ → ℕ) → Type 0
  Shows window =
      (shown new window place (plain_descriptor c 0 (length words) 0) ≡ record { body = c; next = 0; receiver = window 8; holder = holder; outer = window 0; context = window 1; mark = place; locals = words; pending = [] })
      × ChangedIn place (4 * frame_words x) memory new × IsWithin new

  fills : (window : ℕ → ℕ) → Shows window
  fills window = filled_shows memory window place (frame_words x) holder c words park.within first_there (omega (arith, frame_least x, words_long))

  pub first_shows : (window : ℕ → ℕ) → shown new window place (plain_descriptor c 0 (frame_locals x) 0) ≡ record { body = c; next = 0; receiver = window 8; holder = holder; outer = window 0; context = window 1; mark = place; locals = words; pending = [] }
  first_shows window = ap (λ n. shown new window place (plain_descriptor c 0 n 0)) words_long ∙ (fills window).0

  pub first_within : IsWithin new
  first_within = (fills (λ k. 0)).2

  pub first_heap : heap_words new ≡ heap_words h.machine.memory
  first_heap =
      put_heap words (with_word memory (place + holder_offset) holder) (place + local_offset 0) (omega (arith, most))
      ∙ heap_stays memory (place + holder_offset) holder (omega (arith, most)) ∙ park.heap

  pub first_low : (b : ℕ) → b < 0x40000000 → word_at new b ≡ word_at h.machine.memory b
  first_low b lt = (fills (λ k. 0)).1 b (inl (omega (arith, lt, most))) ∙ park.low b lt

  -- the other stacks stay as they are
  pub first_others : (k sp pc count : ℕ) → slice_get ss k ≡ Some (Waiting sp pc count)
      → (activations (descriptor_at h) new count sp (saved_at new sp) pc [] ≡ activations (descriptor_at h) memory count sp (saved_at memory sp) pc [])
      × AreLaid (IsHeld h) (entry_frame k) ending_stub new count sp (saved_at new sp) pc []
  first_others k sp pc count is =
      let lt = slice_get_within ss k (Waiting sp pc count) is in
      let long = park.long in
      others_stay (descriptor_at h) (IsHeld h) (entry_frame (length h.statuses)) (entry_frame k) ending_stub memory new count sp pc (held_have_room h run)
      (entry_place k (omega (arith, lt, long, room))) (other_entry k (length h.statuses) (λ e. (let bad : ⊥ = omega (arith, lt, long, e) in bad)))
      (frame_own (entry_frame (length h.statuses)) place (frame_words x) memory new first_there first_stack (fills (λ k. 0)).1)
      (park.laid k (Waiting sp pc count) is)

  -- and may be taken up as they might
  pub first_ready : (k sp pc count : ℕ) → slice_get ss k ≡ Some (Waiting sp pc count) → CanTakeUp h new k sp pc count
  first_ready k sp pc count is =
      let lt = slice_get_within ss k (Waiting sp pc count) is in
      let long = park.long in
      take_up_kept h (held_have_room h run) memory new k sp pc count
      (others_between (descriptor_at h) (IsHeld h) (entry_frame (length h.statuses)) (entry_frame k) ending_stub memory new count sp (saved_at memory sp) pc [] (held_have_room h run)
      (entry_place k (omega (arith, lt, long, room))) (other_entry k (length h.statuses) (λ e. (let bad : ⊥ = omega (arith, lt, long, e) in bad)))
      (frame_own (entry_frame (length h.statuses)) place (frame_words x) memory new first_there first_stack (fills (λ k. 0)).1)
      (park.laid k (Waiting sp pc count) is))
      (park.ready k (Waiting sp pc count) is)
