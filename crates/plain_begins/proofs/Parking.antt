-- Activities whose frames all stand in memory.
use Rattle.std.proofs.Common.{◌≡◌, ◌≢◌, ◌⊎◌, ℕ, zero, suc, ◌+◌, ◌/◌, ◌<◌, ◌==◌, refl, ◌∙◌, ap, sym, subst, arith, inl, inr}
use Rattle.std.specs.Prelude.{true, false, if◌then◌else◌, List, [], ◌∷◌, All, length, map, Option, Some, None, slice_get, slice_set}
use Rattle.std.proofs.lemmas.Bool.{cases_eq}
use Rattle.std.proofs.lemmas.Grind.{common_steps}
use Rattle.std.proofs.lemmas.Option.{slice_get_within}
use Rattle.self_terms.specs.declared.nodes.Node.{Node}
use Rattle.sparc_store.specs.Words.{Words, word_at, IsWithin}
use Rattle.sparc_store.specs.Windows.{Frame as Window, IsPlace, kept, saved_at, frame_before, but_first, flushed}
use Rattle.sparc_store.specs.Chain.{IsSound, IsStack}
use Rattle.sparc_store.proofs.SoundStacks.{flush_regs}
use Rattle.sparc_machine.specs.State.{stack_of}
use Rattle.source_model.specs.Soundness.{body_in}
use Rattle.heap_cells.proofs.Numbered.{got_there, got_other, set_cases}
use Rattle.frame_walk.specs.Places.{Descriptor}
use Rattle.frame_walk.specs.Raw.{Thread, Going, Answered as Answer, Failed as Failure}
use Rattle.frame_walk.specs.Walk.{activations, Asked, AreLaid, Frames}
use Rattle.frame_walk.proofs.Resting.{laid_as}
use Rattle.frame_moves.proofs.Listed.{stack_of as laid_stack}
use Rattle.frame_moves.proofs.Spared.{flush_only, low_same}
use Rattle.frame_moves.proofs.Moving.{flush_stays, flush_sound, flush_own, flushed_window, others_between, others_stay}
use Rattle.plain_words.specs.Units.{frame_words}
use Rattle.plain_runs.specs.Host.{Host, seen, waiting, thread_of, threads_from, descriptor_at, heap_words}
use Rattle.plain_runs.specs.declared.status.Status.{Status}
use Rattle.plain_runs.specs.declared.status.Status.TheVariants.{Waiting, Answered, Failed}
use Rattle.plain_runs.specs.Sound.{IsWindow, IsRoomy, IsCaller, IsHeld, Calls, Polls, CanTakeUp, RunsAt, IsHosted, entry_frame, ending_stub}
use Rattle.plain_runs.specs.Course.{AllRun}
use Rattle.plain_runs.proofs.Taking.{take_up_kept}
use Rattle.plain_runs.proofs.Working.{held_have_room}

-- what an activity shows whose frames all stand in this memory
abbrev pub lying : Host → Words → Status → Thread
lying h memory (Waiting sp pc count) = Going (activations (descriptor_at h) memory count sp (saved_at memory sp) pc [])
lying h memory (Answered w) = Answer w
lying h memory (Failed e p) = Failure e p

-- the frames of the activity of a number lie in its stack
abbrev pub Lies : Host → Words → ℕ → Status → Type 0
Lies h memory k (Waiting sp pc count) = AreLaid (IsHeld h) (entry_frame k) ending_stub memory count sp (saved_at memory sp) pc []
Lies h memory k _ = Unit {0}

-- and may be taken up
abbrev pub Ready : Host → Words → ℕ → Status → Type 0
Ready h memory k (Waiting sp pc count) = CanTakeUp h memory k sp pc count
Ready h memory k _ = Unit {0}

-- In this memory, which differs in the stacks alone, the activities with these statuses show all what they showed.
pub record Parks (h : Host) (memory : Words) (ss : List Status) : Type 0 where
  pub within : IsWithin memory
  pub heap : heap_words memory ≡ heap_words h.machine.memory
  pub low : (b : ℕ) → b < 0x40000000 → word_at memory b ≡ word_at h.machine.memory b
  pub long : length ss ≡ length h.statuses
  pub laid : (k : ℕ) (x : Status) → slice_get ss k ≡ Some x → Lies h memory k x
  pub ready : (k : ℕ) (x : Status) → slice_get ss k ≡ Some x → Ready h memory k x
  pub shows : map (lying h memory) ss ≡ threads_from h 0 h.statuses

-- two lists that show the same, place by place
abbrev Alike : Host → Words → ℕ → Option Status → Option Status → Type 0
Alike h memory k None None = Unit {0}
Alike h memory k (Some a) (Some b) = lying h memory a ≡ thread_of h k b
Alike h memory k _ _ = ⊥

all_alike : (h : Host) (memory : Words) (from : ℕ) (new old : List Status) → ((j : ℕ) → Alike h memory (from + j) (slice_get new j) (slice_get old j)) → map (lying h memory) new ≡ threads_from h from old
all_alike h memory from [] [] each = refl
all_alike h memory from (a ∷ new) (b ∷ old) each =
    let P : ℕ → Type 0 = λ k. Alike h memory k (Some a) (Some b) in
    let first : lying h memory a ≡ thread_of h from b = subst P (omega arith) (each 0) in
    let Q : ℕ → ℕ → Type 0 = λ j k. Alike h memory k (slice_get new j) (slice_get old j) in
    ap (λ t. t ∷ map (lying h memory) new) first ∙ ap (λ ts. thread_of h from b ∷ ts) (all_alike h memory (from + 1) new old (λ j. subst (Q j) (omega arith) (each (suc j))))
all_alike h memory from [] (b ∷ old) each = absurd (each 0)
all_alike h memory from (a ∷ new) [] each = absurd (each 0)

not_current : (a b : ℕ) → a ≢ b → (0 + a == b) ≡ false
not_current a b e = grind (arith, common_steps)

is_current : (a b : ℕ) → a ≡ b → (0 + a == b) ≡ true
is_current a b e = grind (arith, common_steps)

-- an activity that isn't the current one
abbrev Rests : Host → Words → ℕ → Type 0
Rests h memory j =
    (sp pc count : ℕ) → slice_get h.statuses j ≡ Some (Waiting sp pc count)
    → (j ≢ h.current) × (activations (descriptor_at h) memory count sp (saved_at memory sp) pc [] ≡ waiting h sp pc count)

one_alike : (h : Host) (memory : Words) (j : ℕ) (x : Option Status) → slice_get h.statuses j ≡ x → Rests h memory j → Alike h memory (0 + j) x x
one_alike h memory j None e rests = tt
one_alike h memory j (Some (Waiting sp pc count)) e rests =
    let r = rests sp pc count e in
    ap Going (r.1 ∙ ap (λ b. if b then seen h else waiting h sp pc count) (sym (not_current j h.current r.0)))
one_alike h memory j (Some (Answered w)) e rests = refl
one_alike h memory j (Some (Failed x p)) e rests = refl

lies_as : (h : Host) (k : ℕ) (x : Status) → ((sp pc count : ℕ) → x ≡ Waiting sp pc count → Lies h h.machine.memory k x) → Lies h h.machine.memory k x
lies_as h k (Waiting sp pc count) l = l sp pc count refl
lies_as h k (Answered w) l = tt
lies_as h k (Failed e p) l = tt

ready_as : (h : Host) (memory : Words) (k : ℕ) (x : Status) → ((sp pc count : ℕ) → x ≡ Waiting sp pc count → CanTakeUp h memory k sp pc count) → Ready h memory k x
ready_as h memory k (Waiting sp pc count) r = r sp pc count refl
ready_as h memory k (Answered w) r = tt
ready_as h memory k (Failed e p) r = tt

-- Where no activity runs, all stand in memory already.
pub idle_parks : (h : Host) → IsHosted h → ((sp pc count : ℕ) → slice_get h.statuses h.current ≢ Some (Waiting sp pc count)) → Parks h h.machine.memory h.statuses
idle_parks h hosted idle =
    let away : (j sp pc count : ℕ) → slice_get h.statuses j ≡ Some (Waiting sp pc count) → j ≢ h.current = λ j sp pc count e same. idle sp pc count (ap (slice_get h.statuses) (sym same) ∙ e) in
    record {
      within = hosted.within;
      heap = refl;
      low = λ b lt. refl;
      long = refl;
      laid = λ k x e. lies_as h k x (λ sp pc count is.
          let P : Status → Type 0 = λ y. Lies h h.machine.memory k y in
          let f : slice_get h.statuses k ≡ Some (Waiting sp pc count) = e ∙ ap Some is in
          subst P (sym is) (hosted.others k sp pc count f (away k sp pc count f)));
      ready = λ k x e. ready_as h h.machine.memory k x (λ sp pc count is. (let f : slice_get h.statuses k ≡ Some (Waiting sp pc count) = e ∙ ap Some is in hosted.parked k sp pc count f (away k sp pc count f)));
      shows = all_alike h h.machine.memory 0 h.statuses h.statuses (λ j. one_alike h h.machine.memory j (slice_get h.statuses j) refl (λ sp pc count e. (away j sp pc count e, refl)));
    }

laid_more : (asked : Asked) (entry end : ℕ) (memory : Words) (n sp : ℕ) (w : Window) (pc : ℕ) (held : List Window) → asked pc sp (w 14) → AreLaid asked entry end memory n (w 14) (frame_before memory (w 14) held) (w 15 + 8) (but_first held)
    → AreLaid asked entry end memory (suc n) sp w pc held
unfolding AreLaid
laid_more asked entry end memory n sp w pc held first rest = (first, rest)

laid_rest : (asked : Asked) (entry end : ℕ) (memory : Words) (n sp : ℕ) (w : Window) (pc : ℕ) (held : List Window) → AreLaid asked entry end memory (suc n) sp w pc held
    → AreLaid asked entry end memory n (w 14) (frame_before memory (w 14) held) (w 15 + 8) (but_first held)
unfolding AreLaid
laid_rest asked entry end memory n sp w pc held laid = laid.1

-- frames that begin above an address
laid_above : (descs : ℕ → Descriptor) (asked : Asked) (entry end x : ℕ) (memory : Words) (n sp : ℕ) (w : Window) (pc : ℕ) (held : List Window) → Frames descs asked → x < sp → AreLaid asked entry end memory n sp w pc held
    → AreLaid (λ q s f. asked q s f × (x < s)) entry end memory n sp w pc held
unfolding AreLaid
laid_above descs asked entry end x memory zero sp w pc held all lt laid = laid
laid_above descs asked entry end x memory (suc n) sp w pc held all lt laid =
    let f = all pc sp (w 14) laid.0 in
    let ends = f.ends in
    let room = f.room in
    ((laid.0, lt), laid_above descs asked entry end x memory n (w 14) (frame_before memory (w 14) held) (w 15 + 8) (but_first held) all (omega arith) laid.1)

-- a frame that waits, or the one in view
abbrev InView : Host → Asked
InView h pc sp fp = IsHeld h pc sp fp × ((sp ≡ h.machine.regs 14) ⊎ IsCaller h pc sp fp)

above_is : (h : Host) (pc sp fp : ℕ) → InView h pc sp fp → h.machine.regs 14 < sp → IsCaller h pc sp fp
above_is h pc sp fp v lt = elim v.1 [ inl e ↦ absurd (omega arith) | inr c ↦ c ]

in_view_room : (h : Host) → AllRun h → Frames (descriptor_at h) (InView h)
in_view_room h run pc sp fp v = held_have_room h run pc sp fp v.0

pub entry_place : (k : ℕ) → k < 4 → IsPlace (entry_frame k)
entry_place k low = (omega arith, omega arith, omega (arith, low), omega arith)

pub other_entry : (j k : ℕ) → j ≢ k → entry_frame j / 0x02000000 ≢ entry_frame k / 0x02000000
other_entry j k ne e = ne (omega (arith, e))

-- memory, and the statuses, when the frames of the current activity were flushed
abbrev pub flushed_memory : Host → Words
flushed_memory h = (flushed (stack_of h.machine)).memory

abbrev pub parked_status : Host → Status
parked_status h = Waiting (h.machine.regs 14) h.machine.pc (h.machine.regs 4)

module _ (h : Host) (b n : ℕ) (node : Node) (r : RunsAt h b n node) (hosted : IsHosted h) (run : AllRun h) where
  few : h.current < 4
  few = omega (arith, slice_get_within h.statuses h.current (Waiting r.view.sp r.view.pc r.view.known) r.view.running, hosted.activities)

  -- the frame in view is in a poll, and the others wait
  laid_now : AreLaid (IsHeld h) (entry_frame h.current) ending_stub h.machine.memory (suc r.view.older) (h.machine.regs 14) (kept h.machine.regs) h.machine.pc h.machine.older
  laid_now =
      let m = h.machine in
      let p = r.poll in
      let first : IsHeld h m.pc (m.regs 14) (m.regs 30) = Polls b n (record { at = p.at; word = 0; unit = p.unit; inside = p.inside; within = omega arith; address = omega (arith, p.address) }) (run b) r.view.frame in
      laid_more (IsHeld h) (entry_frame h.current) ending_stub m.memory r.view.older (m.regs 14) (kept m.regs) m.pc m.older first
      (laid_as (IsCaller h) (IsHeld h) (entry_frame h.current) ending_stub m.memory r.view.older (m.regs 30) (frame_before m.memory (m.regs 30) m.older) (m.regs 31 + 8) (but_first m.older) (λ pc sp fp c. Calls c) r.view.callers)

  view_laid : AreLaid (InView h) (entry_frame h.current) ending_stub h.machine.memory (suc r.view.older) (h.machine.regs 14) (kept h.machine.regs) h.machine.pc h.machine.older
  view_laid =
      let m = h.machine in
      let p = r.poll in
      let first : InView h m.pc (m.regs 14) (m.regs 30) = (Polls b n (record { at = p.at; word = 0; unit = p.unit; inside = p.inside; within = omega arith; address = omega (arith, p.address) }) (run b) r.view.frame, inl refl) in
      laid_more (InView h) (entry_frame h.current) ending_stub m.memory r.view.older (m.regs 14) (kept m.regs) m.pc m.older first
      (laid_as (IsCaller h) (InView h) (entry_frame h.current) ending_stub m.memory r.view.older (m.regs 30) (frame_before m.memory (m.regs 30) m.older) (m.regs 31 + 8) (but_first m.older) (λ pc sp fp c. (Calls c, inr c)) r.view.callers)

  sound : IsSound (suc r.view.older) (stack_of h.machine)
  sound = record { whole = hosted.within; frames = hosted.windows; covers = r.view.held }

  stack : IsStack (entry_frame h.current) (suc r.view.older) (stack_of h.machine)
  stack = laid_stack (descriptor_at h) (IsHeld h) (entry_frame h.current) ending_stub (suc r.view.older) h.machine.pc (stack_of h.machine) (held_have_room h run) (entry_place h.current few) laid_now

  pub flushed_registers : (flushed (stack_of h.machine)).regs ≡ h.machine.regs
  flushed_registers = flush_regs (entry_frame h.current) (suc r.view.older) (stack_of h.machine) sound stack

  abbrev Stays : ℕ → Type 0
  Stays count =
      let m = h.machine in
      let new = flushed_memory h in
      (activations (descriptor_at h) new count (m.regs 14) (saved_at new (m.regs 14)) m.pc [] ≡ activations (descriptor_at h) m.memory count (m.regs 14) (kept m.regs) m.pc m.older)
      × AreLaid (IsHeld h) (entry_frame h.current) ending_stub new count (m.regs 14) (saved_at new (m.regs 14)) m.pc []

  own_stays : Stays (h.machine.regs 4)
  own_stays =
      subst Stays (sym r.view.count)
      (flush_stays (descriptor_at h) (IsHeld h) (entry_frame h.current) ending_stub (suc r.view.older) h.machine.pc (stack_of h.machine) (held_have_room h run) (entry_place h.current few) sound laid_now)

  other_stays : (k sp pc count : ℕ) → slice_get h.statuses k ≡ Some (Waiting sp pc count) → k ≢ h.current
      → (let new = flushed_memory h in
      (activations (descriptor_at h) new count sp (saved_at new sp) pc [] ≡ waiting h sp pc count) × AreLaid (IsHeld h) (entry_frame k) ending_stub new count sp (saved_at new sp) pc [])
  other_stays k sp pc count is ne =
      others_stay (descriptor_at h) (IsHeld h) (entry_frame h.current) (entry_frame k) ending_stub h.machine.memory (flushed_memory h) count sp pc (held_have_room h run)
      (entry_place k (omega (arith, slice_get_within h.statuses k (Waiting sp pc count) is, hosted.activities))) (other_entry k h.current ne)
      (flush_own (entry_frame h.current) (suc r.view.older) (stack_of h.machine) sound stack) (hosted.others k sp pc count is ne)

  -- whatever is held then is a window
  pub flushed_windows : All IsWindow (flushed (stack_of h.machine)).held
  flushed_windows = (flush_sound (entry_frame h.current) (suc r.view.older) (stack_of h.machine) sound stack).frames

  own_ready : CanTakeUp h (flushed_memory h) h.current (h.machine.regs 14) h.machine.pc (h.machine.regs 4)
  own_ready =
      let m = h.machine in
      let new = flushed_memory h in
      let older = r.view.older in
      let all = in_view_room h run in
      let a = (flush_stays (descriptor_at h) (InView h) (entry_frame h.current) ending_stub (suc older) m.pc (stack_of m) all (entry_place h.current few) sound view_laid).1 in
      let P : Window → Type 0 = λ w. AreLaid (InView h) (entry_frame h.current) ending_stub new older (w 14) (saved_at new (w 14)) (w 15 + 8) [] in
      let window : saved_at new (m.regs 14) ≡ kept m.regs = flushed_window (entry_frame h.current) (suc older) (stack_of m) sound stack in
      let c : AreLaid (InView h) (entry_frame h.current) ending_stub new older (m.regs 30) (saved_at new (m.regs 30)) (m.regs 31 + 8) [] =
      subst P window (laid_rest (InView h) (entry_frame h.current) ending_stub new older (m.regs 14) (saved_at new (m.regs 14)) m.pc [] a) in
      let ends = r.view.frame.ends in
      let words : 0 < frame_words (body_in h.bodies b) = (let g = (run b).room n in omega (arith, g)) in
      let d = laid_above (descriptor_at h) (InView h) (entry_frame h.current) ending_stub (m.regs 14) new older (m.regs 30) (saved_at new (m.regs 30)) (m.regs 31 + 8) [] all (omega (arith, ends, words)) c in
      let callers = laid_as (λ q s f. InView h q s f × (m.regs 14 < s)) (IsCaller h) (entry_frame h.current) ending_stub new older (m.regs 30) (saved_at new (m.regs 30)) (m.regs 31 + 8) [] (λ pc sp fp v. above_is h pc sp fp v.0 v.1) d in
      let Q : Window → Type 0 = λ w. AreLaid (IsCaller h) (entry_frame h.current) ending_stub new older (w 14) (saved_at new (w 14)) (w 15 + 8) [] in
      let R : Window → Type 0 = λ w. IsRoomy h b (m.regs 14) (w 14) in
      record {
        body = b;
        number = n;
        poll = r.poll;
        frame = subst R (sym window) r.view.frame;
        older = older;
        counted = r.view.count;
        few = r.view.few;
        callers = subst Q (sym window) callers;
      }

  other_ready : (k : ℕ) (x : Status) → slice_get h.statuses k ≡ Some x → k ≢ h.current → Ready h (flushed_memory h) k x
  other_ready k (Waiting sp pc count) is ne =
      let held = held_have_room h run in
      take_up_kept h held h.machine.memory (flushed_memory h) k sp pc count
      (others_between (descriptor_at h) (IsHeld h) (entry_frame h.current) (entry_frame k) ending_stub h.machine.memory (flushed_memory h) count sp (saved_at h.machine.memory sp) pc [] held
      (entry_place k (omega (arith, slice_get_within h.statuses k (Waiting sp pc count) is, hosted.activities))) (other_entry k h.current ne)
      (flush_own (entry_frame h.current) (suc r.view.older) (stack_of h.machine) sound stack) (hosted.others k sp pc count is ne))
      (hosted.parked k sp pc count is ne)
  other_ready k (Answered w) is ne = tt
  other_ready k (Failed e p) is ne = tt

  lies_other : (k : ℕ) (x : Status) → slice_get h.statuses k ≡ Some x → k ≢ h.current → Lies h (flushed_memory h) k x
  lies_other k (Waiting sp pc count) is ne = (other_stays k sp pc count is ne).1
  lies_other k (Answered w) is ne = tt
  lies_other k (Failed e p) is ne = tt

  abbrev ss : List Status
  ss = slice_set h.statuses h.current (parked_status h)

  within_statuses : h.current < length h.statuses
  within_statuses = slice_get_within h.statuses h.current (Waiting r.view.sp r.view.pc r.view.known) r.view.running

  here_alike : (j : ℕ) → j ≡ h.current → Alike h (flushed_memory h) (0 + j) (slice_get ss j) (slice_get h.statuses j)
  here_alike j e =
      let old : Status = Waiting r.view.sp r.view.pc r.view.known in
      let P : Option Status → Option Status → Type 0 = λ x y. Alike h (flushed_memory h) (0 + j) x y in
      let same : Alike h (flushed_memory h) (0 + j) (Some (parked_status h)) (Some old) =
      ap Going (own_stays.0 ∙ ap (λ q. if q then seen h else waiting h r.view.sp r.view.pc r.view.known) (sym (is_current j h.current e))) in
      subst (λ x. P x (slice_get h.statuses j)) (sym (ap (slice_get ss) e ∙ got_there h.statuses h.current (parked_status h) within_statuses))
      (subst (P (Some (parked_status h))) (sym (ap (slice_get h.statuses) e ∙ r.view.running)) same)

  there_alike : (j : ℕ) → j ≢ h.current → Alike h (flushed_memory h) (0 + j) (slice_get ss j) (slice_get h.statuses j)
  there_alike j ne =
      let P : Option Status → Type 0 = λ x. Alike h (flushed_memory h) (0 + j) x (slice_get h.statuses j) in
      subst P (sym (got_other h.statuses h.current j (parked_status h) ne))
      (one_alike h (flushed_memory h) j (slice_get h.statuses j) refl (λ sp pc count is. (ne, (other_stays j sp pc count is ne).0)))

  abbrev Ours : ℕ → Status → Type 0
  Ours k x = Lies h (flushed_memory h) k x

  -- Where the current activity is at a poll, `flush` puts all in memory.
  pub running_parks : Parks h (flushed_memory h) ss
  running_parks = record {
    within = (flush_sound (entry_frame h.current) (suc r.view.older) (stack_of h.machine) sound stack).whole;
    heap = ap (λ (ws : List ℕ). (let y : Words = record { code = []; heap = ws; control = []; stacks = [] } in y)) (flush_only (stack_of h.machine)).heap;
    low = λ a lt. low_same h.machine.memory (flushed_memory h) a (flush_only (stack_of h.machine)) lt;
    long = set_long h.statuses h.current (parked_status h);
    laid = λ k x is. elim (set_cases h.statuses h.current k x (parked_status h) within_statuses is) [
      | inl e ↦ subst (λ q. Ours q x) (sym e.0) (subst (Ours h.current) (sym e.1) own_stays.1)
      | inr e ↦ lies_other k x e.1 e.0
    ];
    ready = λ k x is. elim (set_cases h.statuses h.current k x (parked_status h) within_statuses is) [
      | inl e ↦ subst (λ q. Ready h (flushed_memory h) q x) (sym e.0) (subst (Ready h (flushed_memory h) h.current) (sym e.1) own_ready)
      | inr e ↦ other_ready k x e.1 e.0
    ];
    shows = all_alike h (flushed_memory h) 0 ss h.statuses (λ j. elim (cases_eq j h.current) [ inl e ↦ here_alike j e | inr ne ↦ there_alike j ne ]);
  }
    where
      set_long : (xs : List Status) (k : ℕ) (x : Status) → length (slice_set xs k x) ≡ length xs
      set_long [] k x = refl
      set_long (y ∷ ys) zero x = refl
      set_long (y ∷ ys) (suc k) x = ap suc (set_long ys k x)
