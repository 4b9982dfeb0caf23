-- A node that is done in words.
use Rattle.std.proofs.Common.{◌≡◌, ◌≢◌, ◌⊎◌, ℕ, zero, suc, ◌+◌, ◌-◌, ◌*◌, ◌/◌, ◌%◌, ◌^◌, ◌<◌, ◌≤◌, refl, ◌∙◌, ap, sym, subst, arith, inl, inr}
use Rattle.std.specs.Prelude.{Bool, true, false, if◌then◌else◌, nat_lt, List, [], ◌∷◌, ◌++◌, length, map, Option, Some, None, slice_get, slice_set, All}
use Rattle.std.proofs.lemmas.Grind.{common_steps}
use Rattle.std.proofs.lemmas.Option.{slice_get_within}
use Rattle.std.proofs.lemmas.Bool.{cases_lt}
use Rattle.self_terms.specs.declared.nodes.Node.{Node}
use Rattle.self_terms.specs.Depths.{taken, depth}
use Rattle.sparc_insn.specs.declared.insn.Insn.TheVariants.{Trap}
use Rattle.sparc_store.specs.Words.{Words, word_at, with_word, put_in, HasFrame, IsWithin}
use Rattle.sparc_store.specs.Regions.{Place, Code, Heap, Control, Stacks, Nowhere, place_of}
use Rattle.sparc_store.specs.Windows.{Frame as Window, kept, saved_at, frame_before, but_first}
use Rattle.sparc_store.proofs.Placed.{put_stays_within}
use Rattle.sparc_machine.specs.State.{MachineState}
use Rattle.frame_walk.specs.Places.{Descriptor, Frame, shown, plain_descriptor, pending_offset, local_offset, slots_from, pending_places}
use Rattle.frame_walk.specs.Raw.{Thread, Going, Raw, becomes, moved_on}
use Rattle.frame_walk.specs.Walk.{activations, AreLaid, AreInside, Fits, IsFrameOf, Frames, SameBetween}
use Rattle.frame_walk.proofs.Resting.{rests, laid_as, before_same, saved_same, ends_below}
use Rattle.plain_words.specs.Going.{At, StandsAt}
use Rattle.source_model.specs.Soundness.{body_in}
use Rattle.plain_words.specs.Units.{frame_words, frame_locals}
use Rattle.plain_words.specs.Moves.{is_scratch, Moved, pended}
use Rattle.plain_words.specs.Showing.{viewed, ChangedFrom}
use Rattle.plain_words.proofs.Shown.{pended_shows, moved_window}
use Rattle.plain_runs.specs.Course.{with_machine, AllRun}
use Rattle.plain_runs.specs.Host.{Host, Status, Waiting, seen, waiting, threads_from, descriptor_at, heap_words, raw_of}
use Rattle.plain_runs.specs.Units.{HasUnit, IsPoll, IsInPoll, IsBehindCall, node_offset}
use Rattle.plain_runs.specs.Sound.{IsWindow, IsRoomy, IsCaller, IsHeld, Calls, Polls, CanTakeUp, InFrame, RunsAt, IsHosted, GoesOn, callers_of, entry_frame, ending_stub}
use Rattle.plain_runs.proofs.Keeping.{SameCode, unit_kept, stub_kept, caller_kept, held_kept, threads_set, OthersWait, no_heap}
use Rattle.plain_runs.proofs.Taking.{taken_up_on}
use Rattle.plain_runs.proofs.Pointed.{poll_descriptor, call_descriptor, in_poll_descriptor}

-- A word that is put in a stack leaves the heap.
put_heap : (m : Words) (p : Place) (w : ℕ) → ((k : ℕ) → p ≡ Heap k → ⊥) → heap_words (put_in m p w) ≡ heap_words m
put_heap m (Code k) w h = refl
put_heap m (Heap k) w h = absurd (h k refl)
put_heap m (Control k) w h = refl
put_heap m (Stacks k) w h = refl
put_heap m Nowhere w h = refl

pub heap_stays : (m : Words) (at w : ℕ) → 0x40000000 ≤ at → heap_words (with_word m at w) ≡ heap_words m
unfolding with_word
heap_stays m at w high = put_heap m (place_of at) w (λ k e. no_heap at k high e)

-- The frame of entry lies in the stack of its activity, and so does every frame above the one in view.

-- a frame lies below where its stack ends
in_stack : (h : Host) (b sp fp : ℕ) → IsRoomy h b sp fp → (0x40000000 ≤ sp) × (fp ≡ sp + 4 * frame_words (body_in h.bodies b))
in_stack h b sp fp r = (r.place.1, r.ends)

-- memory changed in the frame in view alone
pub record ChangedInView (h : Host) (b : ℕ) (to : MachineState) : Type 0 where
  pub changed : ChangedFrom (h.machine.regs 14) (frame_words (body_in h.bodies b)) h.machine.memory to.memory
  pub high : 0x40000000 ≤ h.machine.regs 14
  pub ends : h.machine.regs 30 ≡ h.machine.regs 14 + 4 * frame_words (body_in h.bodies b)
  pub heap : heap_words to.memory ≡ heap_words h.machine.memory
  pub within : IsWithin to.memory

pub code_same : (h : Host) (b : ℕ) (to : MachineState) → ChangedInView h b to → SameCode h.machine.memory to.memory
code_same h b to c = λ a low. c.changed a (inl (omega (arith, c.high)))

above_same : (h : Host) (b : ℕ) (to : MachineState) (end : ℕ) → ChangedInView h b to → SameBetween (h.machine.regs 30) end h.machine.memory to.memory
above_same h b to end c = λ a from below. c.changed a (inr (omega (arith, c.ends)))

-- what callers ask of their frames
caller_frames : (h : Host) → ((pc sp fp : ℕ) → IsCaller h pc sp fp → IsFrameOf (descriptor_at h pc) sp fp) → Frames (descriptor_at h) (IsCaller h)
caller_frames h f = f

-- The callers are laid, and show the same.
callers_stay : (h : Host) (b : ℕ) (to : MachineState) (n sp pc : ℕ) (window : Window) (held : List Window) → Frames (descriptor_at h) (IsCaller h) → ChangedInView h b to → h.machine.regs 30 ≡ sp
    → AreLaid (IsCaller h) (entry_frame h.current) ending_stub h.machine.memory n sp window pc held
    → (activations (descriptor_at h) to.memory n sp window pc held ≡ activations (descriptor_at h) h.machine.memory n sp window pc held)
    × AreLaid (IsCaller (with_machine h to)) (entry_frame h.current) ending_stub to.memory n sp window pc held
callers_stay h b to n sp pc window held frames c e laid =
    let same : SameBetween sp (entry_frame h.current + 64) h.machine.memory to.memory = λ a from below. c.changed a (inr (omega (arith, c.ends, e))) in
    let r = rests (descriptor_at h) (IsCaller h) (entry_frame h.current) ending_stub h.machine.memory to.memory n sp window pc held frames laid same in
    (r.0, laid_as (IsCaller h) (IsCaller (with_machine h to)) (entry_frame h.current) ending_stub to.memory n sp window pc held (λ q s f x. caller_kept h to q s f (code_same h b to c) x) r.1)

-- Callers have room for what they show.

inside_slots : (bytes offset n : ℕ) → 64 ≤ offset → offset % 4 ≡ 0 → offset + 4 * n ≤ bytes → AreInside bytes (slots_from offset n)
inside_slots bytes offset zero low whole room = tt
inside_slots bytes offset (suc n) low whole room = ((low, omega (arith, room), whole), inside_slots bytes (offset + 4) n (omega arith) (omega (arith, whole)) (omega arith))

inside_pending : (bytes locals k : ℕ) → pending_offset locals k ≤ bytes → AreInside bytes (pending_places locals k)
inside_pending bytes locals zero room = tt
inside_pending bytes locals (suc k) room = ((omega arith, omega (arith, room), omega arith), inside_pending bytes locals k (omega arith))

pub plain_fits : (words body node locals pending : ℕ) → 27 + locals + pending ≤ words → Fits (4 * words) (plain_descriptor body node locals pending)
plain_fits words body node locals pending room = record {
  receiver = tt;
  holder = (omega arith, omega (arith, room), refl);
  outer = tt;
  context = tt;
  locals = inside_slots (4 * words) (local_offset 0) locals (omega arith) refl (omega (arith, room));
  pending = inside_pending (4 * words) locals pending (omega (arith, room));
}

fits_frame : (h : Host) (pc b n node_pending sp fp : ℕ) (d : Descriptor) → descriptor_at h pc ≡ d → Fits (4 * frame_words (body_in h.bodies b)) d → 16 ≤ frame_words (body_in h.bodies b) → IsRoomy h b sp fp → IsFrameOf (descriptor_at h pc) sp fp
fits_frame h pc b n node_pending sp fp d e fits room r = record {
  words = frame_words (body_in h.bodies b);
  ends = r.ends;
  room = room;
  place = r.place;
  fits = (let P : Descriptor → Type 0 = Fits (4 * frame_words (body_in h.bodies b)) in subst P (sym e) fits);
}

pub callers_have_room : (h : Host) → AllRun h → Frames (descriptor_at h) (IsCaller h)
callers_have_room h run pc sp fp c =
    let b = c.body in
    let n = c.number in
    let node = c.node in
    let r = (run b).room n in
    let locals = frame_locals (body_in h.bodies b) in
    let k = depth (body_in h.bodies b).nodes n in
    fits_frame h pc b n (k - taken node) sp fp (plain_descriptor b n locals (k - taken node)) (call_descriptor h pc b n node c.call)
    (plain_fits (frame_words (body_in h.bodies b)) b n locals (k - taken node) (omega (arith, r))) (omega (arith, r)) c.room

some_node : (nodes : List Node) (n : ℕ) → n < length nodes → (node : Node) × (slice_get nodes n ≡ Some node)
some_node [] n h = absurd (omega (arith, h))
some_node (x ∷ xs) zero h = (x, refl)
some_node (x ∷ xs) (suc n) h = some_node xs n (omega (arith, h))

pub held_have_room : (h : Host) → AllRun h → Frames (descriptor_at h) (IsHeld h)
held_have_room h run pc sp fp (Calls c) = callers_have_room h run pc sp fp c
held_have_room h run pc sp fp (Polls b n p r room) =
    let x = some_node (body_in h.bodies b).nodes n p.inside in
    let locals = frame_locals (body_in h.bodies b) in
    let k = depth (body_in h.bodies b).nodes n in
    let g = (run b).room n in
    fits_frame h pc b n k sp fp (plain_descriptor b n locals k) (in_poll_descriptor h pc b n x.0 p x.1)
    (plain_fits (frame_words (body_in h.bodies b)) b n locals k (omega (arith, g))) (omega (arith, g)) room

pub run_kept : (h : Host) (to : MachineState) → AllRun h → AllRun (with_machine h to)
run_kept h to run b = run b

-- Stacks.

one_stack : (sp words fp : ℕ) → sp % 0x02000000 + 4 * words ≤ 16781312 → fp ≡ sp + 4 * words → sp / 0x02000000 ≡ fp / 0x02000000
one_stack sp words fp room e = omega (arith, e)

-- frames lie in the stack of their frame of entry
pub same_stack : (descs : ℕ → Descriptor) (asked : ℕ → ℕ → ℕ → Type 0) (entry end : ℕ) (memory : Words) (n sp : ℕ) (window : Window) (pc : ℕ) (held : List Window) → Frames descs asked → AreLaid asked entry end memory n sp window pc held → sp / 0x02000000 ≡ entry / 0x02000000
unfolding AreLaid
same_stack descs asked entry end memory zero sp window pc held all laid = ap (λ z. z / 0x02000000) laid.0
same_stack descs asked entry end memory (suc n) sp window pc held all laid =
    let f = all pc sp (window 14) laid.0 in
    let more = same_stack descs asked entry end memory n (window 14) (frame_before memory (window 14) held) (window 15 + 8) (but_first held) all laid.1 in
    one_stack sp f.words (window 14) f.place.3 f.ends ∙ more

-- the frames of another activity lie apart from the frame in view
apart_stacks : (j k sp fp a : ℕ) → j ≢ k → j < 4 → k < 4 → sp / 0x02000000 ≡ entry_frame j / 0x02000000 → fp ≤ entry_frame j → a / 0x02000000 ≡ entry_frame k / 0x02000000 → (a < sp) ⊎ (fp ≤ a)
apart_stacks j k sp fp a ne fj fk hs hf ha = elim (cases_lt j k) [
  | inl before ↦ inr (omega (arith, ha, hf, before))
  | inr after ↦ inl (omega (arith, ha, hs, after, ne))
]

in_words : (a sp fp words : ℕ) → fp ≡ sp + 4 * words → (a < sp) ⊎ (fp ≤ a) → (a < sp) ⊎ (sp + 4 * words ≤ a)
in_words a sp fp words e (inl low) = inl low
in_words a sp fp words e (inr high) = inr (omega (arith, e))

pub same_descriptors : (h : Host) (to : MachineState) → descriptor_at (with_machine h to) ≡ descriptor_at h
unfolding descriptor_at
same_descriptors h to = refl

pub record Others (h : Host) (b : ℕ) (to : MachineState) : Type 0 where
  pub waits : OthersWait h (with_machine h to) 0 h.statuses
  pub laid : (k sp pc count : ℕ) → slice_get h.statuses k ≡ Some (Waiting sp pc count) → k ≢ h.current
      → AreLaid (IsHeld (with_machine h to)) (entry_frame k) ending_stub to.memory count sp (saved_at to.memory sp) pc []
  pub parked : (k sp pc count : ℕ) → slice_get h.statuses k ≡ Some (Waiting sp pc count) → k ≢ h.current → CanTakeUp (with_machine h to) to.memory k sp pc count

within_four : {A : Type 0} (xs : List A) (k : ℕ) (x : A) → slice_get xs k ≡ Some x → length xs ≤ 4 → k < 4
within_four xs k x e few = omega (arith, slice_get_within xs k x e)

pub others_stay : (h : Host) (b : ℕ) (to : MachineState) → IsHosted h → Frames (descriptor_at h) (IsHeld h) → ChangedInView h b to → h.current < 4
    → h.machine.regs 14 / 0x02000000 ≡ entry_frame h.current / 0x02000000 → h.machine.regs 30 ≤ entry_frame h.current → Others h b to
others_stay h b to hosted frames c low stack below =
    let each : (k sp pc count : ℕ) → slice_get h.statuses k ≡ Some (Waiting sp pc count) → k ≢ h.current → SameBetween sp (entry_frame k + 64) h.machine.memory to.memory =
    λ k sp pc count e ne a from end.
    let laid = hosted.others k sp pc count e ne in
    let at = same_stack (descriptor_at h) (IsHeld h) (entry_frame k) ending_stub h.machine.memory count sp (saved_at h.machine.memory sp) pc [] frames laid in
    let top = ends_below (descriptor_at h) (IsHeld h) (entry_frame k) ending_stub h.machine.memory count sp (saved_at h.machine.memory sp) pc [] frames laid in
    let few = within_four h.statuses k (Waiting sp pc count) e hosted.activities in
    c.changed a (in_words a (h.machine.regs 14) (h.machine.regs 30) (frame_words (body_in h.bodies b)) c.ends
    (apart_stacks h.current k (h.machine.regs 14) (h.machine.regs 30) a (λ s. ne (sym s)) low few stack below (omega (arith, at, top, from, end)))) in
    record {
      waits = λ k sp pc count e ne.
          let laid = hosted.others k sp pc count e (λ s. ne (omega (arith, s))) in
          let same = each k sp pc count e (λ s. ne (omega (arith, s))) in
          let top = ends_below (descriptor_at h) (IsHeld h) (entry_frame k) ending_stub h.machine.memory count sp (saved_at h.machine.memory sp) pc [] frames laid in
          ap (λ d. activations d to.memory count sp (saved_at to.memory sp) pc []) (same_descriptors h to)
          ∙ ap (λ w. activations (descriptor_at h) to.memory count sp w pc []) (saved_same h.machine.memory to.memory sp (λ a from end. same a from (omega (arith, top))))
          ∙ (rests (descriptor_at h) (IsHeld h) (entry_frame k) ending_stub h.machine.memory to.memory count sp (saved_at h.machine.memory sp) pc [] frames laid same).0;
      laid = λ k sp pc count e ne.
          let laid = hosted.others k sp pc count e ne in
          let same = each k sp pc count e ne in
          let top = ends_below (descriptor_at h) (IsHeld h) (entry_frame k) ending_stub h.machine.memory count sp (saved_at h.machine.memory sp) pc [] frames laid in
          let r = (rests (descriptor_at h) (IsHeld h) (entry_frame k) ending_stub h.machine.memory to.memory count sp (saved_at h.machine.memory sp) pc [] frames laid same).1 in
          let q = laid_as (IsHeld h) (IsHeld (with_machine h to)) (entry_frame k) ending_stub to.memory count sp (saved_at h.machine.memory sp) pc [] (λ u s f x. held_kept h to u s f (code_same h b to c) x) r in
          let P : Window → Type 0 = λ w. AreLaid (IsHeld (with_machine h to)) (entry_frame k) ending_stub to.memory count sp w pc [] in
          subst P (sym (saved_same h.machine.memory to.memory sp (λ a from end. same a from (omega (arith, top))))) q;
      parked = λ k sp pc count e ne. taken_up_on h to frames (code_same h b to c) k sp pc count (each k sp pc count e ne) (hosted.parked k sp pc count e ne);
    }

-- The activations of the current activity are the youngest and its callers.
seen_as : (d : ℕ → Descriptor) (m : MachineState) (older : ℕ) → m.regs 4 ≡ suc older
    → activations d m.memory (m.regs 4) (m.regs 14) (kept m.regs) m.pc m.older
    ≡ shown m.memory (kept m.regs) (m.regs 14) (d m.pc) ∷ activations d m.memory older (m.regs 30) (frame_before m.memory (m.regs 30) m.older) (m.regs 31 + 8) (but_first m.older)
unfolding activations
seen_as d m older e = ap (λ n. activations d m.memory n (m.regs 14) (kept m.regs) m.pc m.older) e

-- the machine goes on in its own frame to a node's poll
pub record ViewOn (h : Host) (to : MachineState) (b n : ℕ) (next : Node) (now : Frame) (older : ℕ) : Type 0 where
  pub hosted : IsHosted (with_machine h to)
  pub goal : word_at to.memory 0x30000000 ≡ word_at h.machine.memory 0x30000000
  pub left : word_at to.memory 0x30000004 ≡ word_at h.machine.memory 0x30000004
  pub runs : RunsAt (with_machine h to) b n next
  pub threads : threads_from (with_machine h to) 0 h.statuses ≡ slice_set (threads_from h 0 h.statuses) h.current (Going (now ∷ callers_of h older))

pub view_on : (h : Host) (b n : ℕ) (next : Node) (to : MachineState) (now : Frame) → (r : InFrame h b) → IsHosted h → AllRun h → h.current < 4 → ChangedInView h b to
    → ((k : ℕ) → is_scratch k ≡ false → to.regs k ≡ h.machine.regs k) → to.older ≡ h.machine.older
    → StandsAt to to.pc → IsPoll (with_machine h to) to.pc b n → slice_get (body_in h.bodies b).nodes n ≡ Some next
    → viewed to b n (frame_locals (body_in h.bodies b)) (depth (body_in h.bodies b).nodes n) ≡ now
    → ViewOn h to b n next now r.older
view_on h b n next to now r hosted run low c keeps held_same stands poll next_is shows =
    let m = h.machine in
    let e30 = keeps 30 refl in
    let e31 = keeps 31 refl in
    let laid = r.callers in
    let frames = callers_have_room h run in
    let stack = one_stack (m.regs 14) (frame_words (body_in h.bodies b)) (m.regs 30) r.frame.place.3 r.frame.ends
    ∙ same_stack (descriptor_at h) (IsCaller h) (entry_frame h.current) ending_stub m.memory r.older (m.regs 30) (frame_before m.memory (m.regs 30) m.older) (m.regs 31 + 8) (but_first m.older) frames laid in
    let below = ends_below (descriptor_at h) (IsCaller h) (entry_frame h.current) ending_stub m.memory r.older (m.regs 30) (frame_before m.memory (m.regs 30) m.older) (m.regs 31 + 8) (but_first m.older) frames laid in
    let others = others_stay h b to hosted (held_have_room h run) c low stack below in
    let cs = callers_stay h b to r.older (m.regs 30) (m.regs 31 + 8) (frame_before m.memory (m.regs 30) m.older) (but_first m.older) frames c refl laid in
    let before = before_same m.memory to.memory (m.regs 30) m.older (λ a from end. c.changed a (inr (omega (arith, c.ends)))) in
    let h2 = with_machine h to in
    let older : List Frame = callers_of h r.older in
    let e4 : to.regs 4 ≡ suc r.older = keeps 4 refl ∙ r.count in
    let again : activations (descriptor_at h) to.memory r.older (to.regs 30) (frame_before to.memory (to.regs 30) to.older) (to.regs 31 + 8) (but_first to.older) ≡ older =
    ap (λ x. activations (descriptor_at h) to.memory r.older x (frame_before to.memory x to.older) (to.regs 31 + 8) (but_first to.older)) e30
    ∙ ap (λ x. activations (descriptor_at h) to.memory r.older (m.regs 30) (frame_before to.memory (m.regs 30) to.older) (x + 8) (but_first to.older)) e31
    ∙ ap (λ x. activations (descriptor_at h) to.memory r.older (m.regs 30) (frame_before to.memory (m.regs 30) x) (m.regs 31 + 8) (but_first x)) held_same
    ∙ ap (λ x. activations (descriptor_at h) to.memory r.older (m.regs 30) x (m.regs 31 + 8) (but_first m.older)) before
    ∙ cs.0 in
    let top : shown to.memory (kept to.regs) (to.regs 14) (descriptor_at h2 to.pc) ≡ now =
    ap (shown to.memory (kept to.regs) (to.regs 14)) (poll_descriptor h2 to.pc b n next poll next_is) ∙ shows in
    let now_seen : seen h2 ≡ now ∷ older = seen_as (descriptor_at h2) to r.older e4 ∙ ap (λ x. x ∷ activations (descriptor_at h2) to.memory r.older (to.regs 30) (frame_before to.memory (to.regs 30) to.older) (to.regs 31 + 8) (but_first to.older)) top ∙ ap (λ d. now ∷ activations d to.memory r.older (to.regs 30) (frame_before to.memory (to.regs 30) to.older) (to.regs 31 + 8) (but_first to.older)) (same_descriptors h to) ∙ ap (λ xs. now ∷ xs) again in
    let threads : threads_from h2 0 h.statuses ≡ slice_set (threads_from h 0 h.statuses) h.current (Going (now ∷ older)) =
    threads_set h h2 0 h.current h.statuses r.sp r.pc r.known refl (omega arith) r.running others.waits ∙ ap (λ x. slice_set (threads_from h 0 h.statuses) h.current (Going x)) now_seen in
    let code = code_same h b to c in
    let Q : ℕ → ℕ → Window → List Window → Type 0 = λ x y w held. AreLaid (IsCaller h2) (entry_frame h.current) ending_stub to.memory r.older x w (y + 8) held in
    let laid_now : Q (to.regs 30) (to.regs 31) (frame_before to.memory (to.regs 30) to.older) (but_first to.older) =
    subst (λ x. Q x (to.regs 31) (frame_before to.memory x to.older) (but_first to.older)) (sym e30)
    (subst (λ y. Q (m.regs 30) y (frame_before to.memory (m.regs 30) to.older) (but_first to.older)) (sym e31)
    (subst (λ x. Q (m.regs 30) (m.regs 31) (frame_before to.memory (m.regs 30) x) (but_first x)) (sym held_same)
    (subst (λ x. Q (m.regs 30) (m.regs 31) x (but_first m.older)) (sym before) cs.1))) in
    record {
      hosted = record {
        within = c.within;
        register_0 = keeps 0 refl ∙ hosted.register_0;
        windows = (let P : List (ℕ → ℕ) → Type 0 = λ x. All IsWindow x in subst P (sym held_same) hosted.windows);
        units = λ u at given is stands. unit_kept h to u at code (hosted.units u at given is stands);
        stub = stub_kept (Trap 9 ∷ []) h to ending_stub code (omega arith) hosted.stub;
        activities = hosted.activities;
        others = others.laid;
        parked = others.parked;
        goal = omega (arith, c.changed 0x30000000 (inl (omega (arith, c.high))), hosted.goal);
      };
      goal = c.changed 0x30000000 (inl (omega (arith, c.high)));
      left = c.changed 0x30000004 (inl (omega (arith, c.high)));
      runs = record {
        view = record {
          sp = r.sp;
          pc = r.pc;
          known = r.known;
          running = r.running;
          frame = record { ends = e30 ∙ r.frame.ends ∙ ap (λ x. x + 4 * frame_words (body_in h.bodies b)) (sym (keeps 14 refl)); place = (let P : ℕ → Type 0 = λ x. HasFrame x (frame_words (body_in h.bodies b)) in subst P (sym (keeps 14 refl)) r.frame.place) };
          older = r.older;
          count = e4;
          few = r.few;
          held = (let P : List Window → Type 0 = λ x. length x ≤ suc r.older in subst P (sym held_same) r.held);
          callers = laid_now;
        };
        stands = stands;
        poll = poll;
        node_is = next_is;
      };
      threads = threads;
    }

pub view_goes_on : (h : Host) (b n : ℕ) (next : Node) (to : MachineState) (now : Frame) (older : ℕ) → ViewOn h to b n next now older → heap_words to.memory ≡ heap_words h.machine.memory
    → to.regs 2 ≡ h.machine.regs 2 + 1 → to.regs 3 ≡ h.machine.regs 3 → to.regs 6 ≡ h.machine.regs 6
    → GoesOn h (with_machine h to) (Going (now ∷ callers_of h older))
view_goes_on h b n next to now older v heap counted cost top = record {
  hosted = v.hosted;
  goal = v.goal;
  left = v.left;
  raw = λ i. record {
    maps = h.maps;
    mem = heap i;
    heap = record { top = top i; next = h.next };
    threads = v.threads i;
    current = h.current;
    steps = (let e : h.steps + to.regs 2 ≡ h.steps + h.machine.regs 2 + 1 = omega (arith, counted) in e) i;
    cost = ap (λ x. h.cost + x) cost i;
  };
}
