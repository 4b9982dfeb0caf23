-- The laws of a sound stack: no frame shares a saved word with another, so that each call meets its condition.
use Rattle.std.proofs.Common.{◌≡◌, ◌≢◌, ◌⊎◌, inl, inr, refl, sym, ap, ◌∙◌, subst, ℕ, zero, suc, ◌+◌, ◌-◌, ◌*◌, ◌/◌, ◌<◌, ◌≤◌, List, [], ◌∷◌, length, drop, get_or, arith, Bool, true, false, nat_le}
use Rattle.std.specs.Prelude.{All}
use Rattle.std.proofs.Math.Path.{fun_ext}
use Rattle.std.proofs.lemmas.Bool.{cases_lt}
use Rattle.std.proofs.lemmas.List.Elements.{All-nil, All-cons, All-head, All-tail}
use Rattle.sparc_store.specs.Words.{Words, word_at, with_word, with_frame, HasFrame, IsWithin}
use Rattle.sparc_store.specs.Windows.{Frame, Stack, kept, gone_back, words_of, saved_at, oldest, oldest_at, but_oldest, with_saved, with_spilled, is_full, with_room, but_spilled, IsPlace, saved, restored, spilled, all_spilled, view_saved, flushed, held_places, taken_up, resumed}
use Rattle.sparc_store.specs.Chain.{frames_from, places_from, chain, places, Keeps, IsFrame, IsSound, Rises, last_of, IsIn, IsStack, IsApart, ChangedIn, with_memory, with_sp}
use Rattle.sparc_store.specs.Flat.{Save, Restore, Flush, May, KeepsFlush, Flat}
use Rattle.sparc_store.proofs.Framing.{framed}
use Rattle.sparc_store.proofs.Placed.{others_stay}
use Rattle.sparc_store.proofs.Chains.{saved_back, kept_is_frame, keeps_frames, keeps_places, spill_places, oldest_is_frame, length-but_oldest}
use Rattle.sparc_store.proofs.Flat.{Emptied, empties, goes, spill_sound}

saved_same : (old new : Words) (at bytes p k : ℕ) → ((b : ℕ) → (b < at) ⊎ (at + bytes ≤ b) → word_at new b ≡ word_at old b) → IsApart at bytes p → saved_at new p k ≡ saved_at old p k
unfolding saved_at
saved_same old new at bytes p k others (inl above) = grind (arith, others (p + 4 * k) (inr (omega (arith, above))))
saved_same old new at bytes p k others (inr below) =
    let h : k < 16 → word_at new (p + 4 * k) ≡ word_at old (p + 4 * k) = λ lt. others (p + 4 * k) (inl (omega (arith, below, lt))) in
    grind (arith, h)

-- a memory that differs only apart from these places keeps what is saved there
pub keeps_apart : (old new : Words) (at bytes : ℕ) (ps : List ℕ) → ((b : ℕ) → (b < at) ⊎ (at + bytes ≤ b) → word_at new b ≡ word_at old b) → All (IsApart at bytes) ps
    → All (λ p. saved_at new p ≡ saved_at old p) ps
keeps_apart old new at bytes ps others h = λ k d lt. fun_ext (λ i. saved_same old new at bytes (get_or ps k d) i others (h k d lt))

pub save_others : (memory : Words) (at : ℕ) (f : Frame) → IsWithin memory → IsPlace at → (b : ℕ) → (b < at) ⊎ (at + 64 ≤ b) → word_at (with_saved memory at f) b ≡ word_at memory b
save_others memory at f whole place = (framed memory at (words_of f) whole place).others

all_drop : (P : ℕ → Type 0) (n : ℕ) (ps : List ℕ) → All P ps → All P (drop n ps)
all_drop P zero ps h = h
all_drop P (suc n) [] h = h
all_drop P (suc n) (p ∷ ps) h = all_drop P n ps (All-tail P p ps h)

-- what rises from an address is 64 bytes or more above it
pub rises_above : (b at : ℕ) (ps : List ℕ) → b ≤ at → Rises at ps → All (λ p. b + 64 ≤ p) ps
unfolding Rises
rises_above b at [] h r = All-nil (λ p. b + 64 ≤ p)
rises_above b at (p ∷ ps) h r = All-cons (λ q. b + 64 ≤ q) p ps (omega (arith, h, r.0)) (rises_above b p ps (omega (arith, h, r.0)) r.1)

above_apart : (at : ℕ) (ps : List ℕ) → All (λ p. at + 64 ≤ p) ps → All (IsApart at 64) ps
above_apart at ps h = λ k d lt. inl (h k d lt)

-- the oldest frame that is held lies below all that aren't
spill_above : (n : ℕ) (memory : Words) (b at : ℕ) (f : Frame) (held : List Frame) → Rises b (places_from n memory at (f ∷ held))
    → All (λ p. oldest_at at (f ∷ held) + 64 ≤ p) (drop (suc (length held)) (places_from n memory at (f ∷ held)))
unfolding Rises places_from oldest_at
spill_above zero memory b at f held r = All-nil (λ p. oldest_at at (f ∷ held) + 64 ≤ p)
spill_above (suc n) memory b at f [] r = rises_above at at (places_from n memory (f 14) []) (omega arith) r.1
spill_above (suc n) memory b at f (g ∷ more) r = spill_above n memory at (f 14) g more r.1

-- what holds of the places of all frames holds of the oldest one held
of_oldest : (P : ℕ → Type 0) (n : ℕ) (memory : Words) (at : ℕ) (f : Frame) (held : List Frame) → suc (length held) ≤ n → All P (places_from n memory at (f ∷ held)) → P (oldest_at at (f ∷ held))
unfolding places_from oldest_at
of_oldest P zero memory at f held most h = absurd (omega (arith, most))
of_oldest P (suc n) memory at f [] most h = All-head P at (places_from n memory (f 14) []) h
of_oldest P (suc n) memory at f (g ∷ more) most h = of_oldest P n memory (f 14) g more (omega (arith, most)) (All-tail P at (places_from n memory (f 14) (g ∷ more)) h)

-- and of those of all held ones
of_held : (P : ℕ → Type 0) (n : ℕ) (memory : Words) (at : ℕ) (held : List Frame) → length held ≤ n → All P (places_from n memory at held) → All P (held_places at held)
unfolding places_from held_places
of_held P n memory at [] most h = All-nil P
of_held P zero memory at (f ∷ held) most h = absurd (omega (arith, most))
of_held P (suc n) memory at (f ∷ held) most h =
    All-cons P at (held_places (f 14) held) (All-head P at (places_from n memory (f 14) held) h) (of_held P n memory (f 14) held (omega (arith, most)) (All-tail P at (places_from n memory (f 14) held) h))

all_places : (entry : ℕ) (ps : List ℕ) → All (IsIn entry) ps → All IsPlace ps
all_places entry ps h = λ k d lt. (h k d lt).0

older_places : (entry n : ℕ) (s : Stack) → IsStack entry n s → All IsPlace (places n s)
older_places entry n s stack = all_places entry (places n s) (All-tail (IsIn entry) (s.regs 14) (places n s) stack.inside)

view_place : (entry n : ℕ) (s : Stack) → IsStack entry n s → IsPlace (s.regs 14)
view_place entry n s stack = (All-head (IsIn entry) (s.regs 14) (places n s) stack.inside).0

-- a spill keeps the frames that aren't held
spill_keeps : (entry n : ℕ) (s : Stack) (held : List Frame) → s.held ≡ held → 0 < length held → IsSound n s → IsStack entry n s → Keeps n s (spilled s).memory
spill_keeps entry n s [] e some sound stack = absurd (omega (arith, some))
spill_keeps entry n s (f ∷ held) e some sound stack =
    let ps = places_from n s.memory (s.regs 30) (f ∷ held) in
    let place : IsPlace (oldest_at (s.regs 30) (f ∷ held)) = of_oldest IsPlace n s.memory (s.regs 30) f held (omega (arith, ap length e, sound.covers)) (rw e at (older_places entry n s stack)) in
    let rises : Rises (s.regs 14) ps = rw e at stack.rises in
    rw e (keeps_apart s.memory (with_spilled s.memory (s.regs 30) (f ∷ held)) (oldest_at (s.regs 30) (f ∷ held)) 64 (drop (suc (length held)) ps)
    (save_others s.memory (oldest_at (s.regs 30) (f ∷ held)) (oldest (f ∷ held)) sound.whole place)
    (above_apart (oldest_at (s.regs 30) (f ∷ held)) (drop (suc (length held)) ps) (spill_above n s.memory (s.regs 14) (s.regs 30) f held rises)))

-- and leaves where they begin
spill_stays : (entry n : ℕ) (s : Stack) (held : List Frame) → s.held ≡ held → 0 < length held → IsSound n s → IsStack entry n s → places n (spilled s) ≡ places n s
spill_stays entry n s [] e some sound stack = absurd (omega (arith, some))
spill_stays entry n s (f ∷ held) e some sound stack =
    let place : IsPlace (oldest_at (s.regs 30) (f ∷ held)) = of_oldest IsPlace n s.memory (s.regs 30) f held (omega (arith, ap length e, sound.covers)) (rw e at (older_places entry n s stack)) in
    let keeps : Keeps n s (spilled s).memory = spill_keeps entry n s (f ∷ held) e some sound stack in
    rw e (spill_places n s.memory (with_spilled s.memory (s.regs 30) (f ∷ held)) (s.regs 30) f held (omega (arith, ap length e, sound.covers))
    (saved_back s.memory (oldest_at (s.regs 30) (f ∷ held)) (oldest (f ∷ held)) sound.whole place (oldest_is_frame f held (rw e at sound.frames))) (rw e at keeps))

-- a stack with the same register 14 and the same places is sound, too
pub stack_same : (entry n : ℕ) (s t : Stack) → t.regs 14 ≡ s.regs 14 → places n t ≡ places n s → IsStack entry n s → IsStack entry n t
stack_same entry n s t e f stack = record { inside = rw (e, f) stack.inside; rises = rw (e, f) stack.rises; ends = rw (e, f) stack.ends }

spill_stack : (entry n : ℕ) (s : Stack) (held : List Frame) → s.held ≡ held → 0 < length held → IsSound n s → IsStack entry n s → IsStack entry n (spilled s)
spill_stack entry n s held e some sound stack = stack_same entry n s (spilled s) refl (spill_stays entry n s held e some sound stack) stack

is_least : (n : ℕ) → nat_le 6 n ≡ true → 6 ≤ n
is_least n e = grind (arith, e)

some_of : (held : List Frame) (k : ℕ) → k ≤ length held → 0 < k → 0 < length held
some_of held k h s = omega (arith, h, s)

can_save : (entry n : ℕ) (s : Stack) (held : List Frame) → s.held ≡ held → IsSound n s → IsStack entry n s → 6 ≤ length held → IsPlace (oldest_at (s.regs 30) held)
can_save entry n s [] e sound stack full = absurd (omega (arith, full))
can_save entry n s (f ∷ held) e sound stack full =
    of_oldest IsPlace n s.memory (s.regs 30) f held (omega (arith, ap length e, sound.covers)) (rw e at (older_places entry n s stack))

room_keeps : (entry n : ℕ) (s : Stack) (b : Bool) → is_full s.held ≡ b → IsSound n s → IsStack entry n s → Keeps n s (with_room s.memory (s.regs 30) s.held)
room_keeps entry n s false e sound stack = rw e (λ k d lt. refl)
room_keeps entry n s true e sound stack = rw e (spill_keeps entry n s s.held refl (omega (arith, is_least (length s.held) e)) sound stack)

pub may_save : (entry n : ℕ) (s : Stack) → IsSound n s → IsStack entry n s → May Save n s
may_save entry n s sound stack = (can_save entry n s s.held refl sound stack, room_keeps entry n s (is_full s.held) refl sound stack)

head_place : (n : ℕ) (memory : Words) (at : ℕ) (held : List Frame) (P : ℕ → Type 0) → 0 < n → All P (places_from n memory at held) → P at
unfolding places_from
head_place zero memory at held P some h = absurd (omega (arith, some))
head_place (suc n) memory at [] P some h = All-head P at _ h
head_place (suc n) memory at (f ∷ held) P some h = All-head P at _ h

pub may_restore : (entry n : ℕ) (s : Stack) → IsSound n s → IsStack entry n s → 0 < n → May Restore n s
may_restore entry n s sound stack some = (λ none. head_place n s.memory (s.regs 30) s.held IsPlace some (older_places entry n s stack), some)

view_keeps : (entry n : ℕ) (s : Stack) → IsSound n s → IsStack entry n s → Keeps n s (view_saved s).memory
view_keeps entry n s sound stack =
    keeps_apart s.memory (with_saved s.memory (s.regs 14) (kept s.regs)) (s.regs 14) 64 (drop (length s.held) (places n s))
    (save_others s.memory (s.regs 14) (kept s.regs) sound.whole (view_place entry n s stack))
    (all_drop (IsApart (s.regs 14) 64) (length s.held) (places n s) (above_apart (s.regs 14) (places n s) (rises_above (s.regs 14) (s.regs 14) (places n s) (omega arith) stack.rises)))

flush_keeps : (entry k n : ℕ) (s : Stack) (held : List Frame) → s.held ≡ held → length held ≡ k → IsSound n s → IsStack entry n s → KeepsFlush k n s
unfolding KeepsFlush
flush_keeps entry zero n s held e l sound stack = view_keeps entry n s sound stack
flush_keeps entry (suc k) n s [] e l sound stack = absurd (omega (arith, l))
flush_keeps entry (suc k) n s (f ∷ held) e l sound stack = (
  spill_keeps entry n s (f ∷ held) e (omega arith) sound stack,
  flush_keeps entry k n (spilled s) (but_oldest (f ∷ held)) (ap but_oldest e) (omega (arith, length-but_oldest f held, l)) (spill_sound n s f held e sound)
      (spill_stack entry n s (f ∷ held) e (omega arith) sound stack),
)

pub may_flush : (entry n : ℕ) (s : Stack) → IsSound n s → IsStack entry n s → May Flush n s
may_flush entry n s sound stack = (
  (view_place entry n s stack, of_held IsPlace n s.memory (s.regs 30) s.held sound.covers (older_places entry n s stack)),
  flush_keeps entry (length s.held) n s s.held refl refl sound stack,
)

-- SAVE puts the frame in view in front of the chain
pub save_chain : (entry n : ℕ) (s : Stack) → IsSound n s → IsStack entry n s → chain (suc n) (saved s) ≡ kept s.regs ∷ chain n s
save_chain entry n s sound stack = ap (λ (p : Flat). p.older) (goes Save n s sound (may_save entry n s sound stack))

room_places : (entry n : ℕ) (s : Stack) (b : Bool) → is_full s.held ≡ b → IsSound n s → IsStack entry n s
    → places_from n (with_room s.memory (s.regs 30) s.held) (s.regs 30) (but_spilled s.held) ≡ places n s
room_places entry n s false e sound stack = rw e refl
room_places entry n s true e sound stack = rw e (spill_stays entry n s s.held refl (omega (arith, is_least (length s.held) e)) sound stack)

save_places : (entry n : ℕ) (s : Stack) → IsSound n s → IsStack entry n s → places (suc n) (saved s) ≡ s.regs 14 ∷ places n s
unfolding places_from
save_places entry n s sound stack = ap (λ ps. s.regs 14 ∷ ps) (room_places entry n s (is_full s.held) refl sound stack)

sp_places : (n sp : ℕ) (s : Stack) → places n (with_sp sp s) ≡ places n s
sp_places n sp s = refl

pub save_stack : (entry n : ℕ) (s : Stack) (sp : ℕ) → IsSound n s → IsStack entry n s → IsIn entry sp → sp + 64 ≤ s.regs 14 → IsStack entry (suc n) (with_sp sp (saved s))
unfolding Rises last_of
save_stack entry n s sp sound stack inside below =
    let e : places (suc n) (with_sp sp (saved s)) ≡ s.regs 14 ∷ places n s = sp_places (suc n) sp (saved s) ∙ save_places entry n s sound stack in
    record {
      inside = rw e (All-cons (IsIn entry) sp (s.regs 14 ∷ places n s) inside stack.inside);
      rises = rw e (below, stack.rises);
      ends = rw e stack.ends;
    }

-- a frame that is read from memory
saved_is_frame : (memory : Words) (at : ℕ) → IsFrame (saved_at memory at)
unfolding saved_at
saved_is_frame memory at k h = grind (arith, h)

view_back : (regs : ℕ → ℕ) (f : Frame) (k : ℕ) → IsFrame f → f k ≡ kept (gone_back regs f) k
view_back regs f k frame = let e : k + 16 - 16 ≡ k = omega arith in grind (arith, e, frame k)

-- RESTORE takes the frame that comes into view off the chain
back_chain : (n : ℕ) (memory : Words) (regs : ℕ → ℕ) (held : List Frame) → All IsFrame held
    → frames_from (suc n) memory (regs 30) held ≡ kept (restored (record { memory = memory; regs = regs; held = held })).regs ∷ chain n (restored (record { memory = memory; regs = regs; held = held }))
unfolding frames_from
back_chain n memory regs [] frames =
    ap (λ (f : Frame). f ∷ frames_from n memory (saved_at memory (regs 30) 14) []) (fun_ext (λ k. view_back regs (saved_at memory (regs 30)) k (saved_is_frame memory (regs 30))))
back_chain n memory regs (f ∷ held) frames =
    ap (λ (g : Frame). g ∷ frames_from n memory (f 14) held) (fun_ext (λ k. view_back regs f k (All-head IsFrame f held frames)))

pub restore_chain : (n : ℕ) (s : Stack) → IsSound (suc n) s → chain (suc n) s ≡ kept (restored s).regs ∷ chain n (restored s)
restore_chain n s sound = back_chain n s.memory s.regs s.held sound.frames

back_places : (n : ℕ) (memory : Words) (regs : ℕ → ℕ) (held : List Frame)
    → places_from (suc n) memory (regs 30) held ≡ regs 30 ∷ places n (restored (record { memory = memory; regs = regs; held = held }))
unfolding places_from
back_places n memory regs [] = refl
back_places n memory regs (f ∷ held) = refl

pub restore_stack : (entry n : ℕ) (s : Stack) → IsStack entry (suc n) s → IsStack entry n (restored s)
unfolding Rises last_of
restore_stack entry n s stack =
    let e : places (suc n) s ≡ s.regs 30 ∷ places n (restored s) = back_places n s.memory s.regs s.held in
    let rises : Rises (s.regs 14) (s.regs 30 ∷ places n (restored s)) = rw e at stack.rises in
    record {
      inside = All-tail (IsIn entry) (s.regs 14) (s.regs 30 ∷ places n (restored s)) (rw e at stack.inside);
      rises = rises.1;
      ends = rw e at stack.ends;
    }

-- `flush` leaves the chain, and puts the frame in view in memory, too
flush_emptied : (entry n : ℕ) (s : Stack) → IsSound n s → IsStack entry n s → Emptied n s (all_spilled (length s.held) s)
flush_emptied entry n s sound stack =
    let may = may_flush entry n s sound stack in
    empties (length s.held) n s s.held refl refl sound may.0.1 may.1

spilled_places : (entry k n : ℕ) (s : Stack) (held : List Frame) → s.held ≡ held → length held ≡ k → IsSound n s → IsStack entry n s → places n (all_spilled k s) ≡ places n s
unfolding all_spilled
spilled_places entry zero n s held e l sound stack = refl
spilled_places entry (suc k) n s [] e l sound stack = absurd (omega (arith, l))
spilled_places entry (suc k) n s (f ∷ held) e l sound stack =
    spilled_places entry k n (spilled s) (but_oldest (f ∷ held)) (ap but_oldest e) (omega (arith, length-but_oldest f held, l)) (spill_sound n s f held e sound)
    (spill_stack entry n s (f ∷ held) e (omega arith) sound stack)
    ∙ spill_stays entry n s (f ∷ held) e (omega arith) sound stack

flush_places : (entry n : ℕ) (s : Stack) → IsSound n s → IsStack entry n s → places n (flushed s) ≡ places n s
flush_places entry n s sound stack =
    let u = all_spilled (length s.held) s in
    let t = flush_emptied entry n s sound stack in
    keeps_places n u.memory (view_saved u).memory (u.regs 30) u.held t.last ∙ spilled_places entry (length s.held) n s s.held refl refl sound stack

pub flush_stack : (entry n : ℕ) (s : Stack) → IsSound n s → IsStack entry n s → IsStack entry n (flushed s)
flush_stack entry n s sound stack =
    let t = flush_emptied entry n s sound stack in
    stack_same entry n s (flushed s) (ap (λ (regs : ℕ → ℕ). regs 14) t.regs) (flush_places entry n s sound stack) stack

pub flush_chain : (entry n : ℕ) (s : Stack) → IsSound n s → IsStack entry n s → chain n (flushed s) ≡ chain n s
flush_chain entry n s sound stack = ap (λ (p : Flat). p.older) (goes Flush n s sound (may_flush entry n s sound stack))

pub flush_regs : (entry n : ℕ) (s : Stack) → IsSound n s → IsStack entry n s → (flushed s).regs ≡ s.regs
flush_regs entry n s sound stack = (flush_emptied entry n s sound stack).regs

pub flush_held : (entry n : ℕ) (s : Stack) → IsSound n s → IsStack entry n s → (flushed s).held ≡ []
flush_held entry n s sound stack = (flush_emptied entry n s sound stack).none

flush_view : (entry n : ℕ) (s : Stack) → IsSound n s → IsStack entry n s → saved_at (flushed s).memory (s.regs 14) ≡ kept s.regs
flush_view entry n s sound stack =
    let u = all_spilled (length s.held) s in
    let t = flush_emptied entry n s sound stack in
    let place : IsPlace (u.regs 14) = rw t.regs (view_place entry n s stack) in
    let back : saved_at (with_saved u.memory (u.regs 14) (kept u.regs)) (u.regs 14) ≡ kept u.regs = saved_back u.memory (u.regs 14) (kept u.regs) t.sound.whole place (kept_is_frame u.regs) in
    let P : (ℕ → ℕ) → Type 0 = λ regs. saved_at (with_saved u.memory (u.regs 14) (kept u.regs)) (regs 14) ≡ kept regs in
    subst P t.regs back

-- all frames of a stack that was flushed are read off memory, from the one that was in view on
pub flush_frames : (entry n : ℕ) (s : Stack) → IsSound n s → IsStack entry n s → frames_from (suc n) (flushed s).memory (s.regs 14) [] ≡ kept s.regs ∷ chain n s
unfolding frames_from
flush_frames entry n s sound stack =
    let v = flush_view entry n s sound stack in
    let c : frames_from n (flushed s).memory ((flushed s).regs 30) (flushed s).held ≡ chain n s = flush_chain entry n s sound stack in
    let a : (flushed s).regs 30 ≡ s.regs 30 = ap (λ (regs : ℕ → ℕ). regs 30) (flush_regs entry n s sound stack) in
    let d : frames_from n (flushed s).memory (s.regs 30) [] ≡ chain n s =
    sym (ap (λ at. frames_from n (flushed s).memory at (flushed s).held) a ∙ ap (λ (held : List Frame). frames_from n (flushed s).memory (s.regs 30) held) (flush_held entry n s sound stack)) ∙ c in
    rw v (ap (λ fs. kept s.regs ∷ fs) d)

-- a frame that is taken up from memory comes into view, with the frames older than it behind it
resumed_word : (regs : ℕ → ℕ) (at : ℕ) (f : Frame) (k : ℕ) → IsFrame f → f k ≡ kept (taken_up regs at f) k
resumed_word regs at f k frame =
    let e : k + 16 - 16 ≡ k = omega arith in
    grind (arith, e, frame k)

pub resumed_frames : (n at : ℕ) (s : Stack) → frames_from (suc n) s.memory at [] ≡ kept (resumed s at).regs ∷ chain n (resumed s at)
unfolding frames_from
resumed_frames n at s =
    ap (λ (f : Frame). f ∷ frames_from n s.memory (saved_at s.memory at 14) []) (fun_ext (λ k. resumed_word s.regs at (saved_at s.memory at) k (saved_is_frame s.memory at)))

pub resumed_places : (n at : ℕ) (s : Stack) → places_from (suc n) s.memory at [] ≡ (resumed s at).regs 14 ∷ places n (resumed s at)
unfolding places_from
resumed_places n at s = refl

-- a write apart from the saved words of the frames leaves the chain
pub write_chain : (n at bytes : ℕ) (s : Stack) (memory : Words) → ChangedIn at bytes s.memory memory → All (IsApart at bytes) (places n s) → chain n (with_memory memory s) ≡ chain n s
write_chain n at bytes s memory changed apart =
    keeps_frames n s.memory memory (s.regs 30) s.held
    (keeps_apart s.memory memory at bytes (drop (length s.held) (places n s)) changed (all_drop (IsApart at bytes) (length s.held) (places n s) apart))

write_places : (n at bytes : ℕ) (s : Stack) (memory : Words) → ChangedIn at bytes s.memory memory → All (IsApart at bytes) (places n s) → places n (with_memory memory s) ≡ places n s
write_places n at bytes s memory changed apart =
    keeps_places n s.memory memory (s.regs 30) s.held
    (keeps_apart s.memory memory at bytes (drop (length s.held) (places n s)) changed (all_drop (IsApart at bytes) (length s.held) (places n s) apart))

pub write_stack : (entry n at bytes : ℕ) (s : Stack) (memory : Words) → ChangedIn at bytes s.memory memory → All (IsApart at bytes) (places n s) → IsStack entry n s → IsStack entry n (with_memory memory s)
write_stack entry n at bytes s memory changed apart stack = stack_same entry n s (with_memory memory s) refl (write_places n at bytes s memory changed apart) stack

not_there : (b at : ℕ) → (b < at) ⊎ (at + 4 ≤ b) → b ≡ at → ⊥
not_there b at (inl h) e = absurd (omega (arith, h, e))
not_there b at (inr h) e = absurd (omega (arith, h, e))

-- a word that is stored, and a part that is lent and written
pub word_changes : (memory : Words) (at w : ℕ) → ChangedIn at 4 memory (with_word memory at w)
word_changes memory at w = λ b out. others_stay memory at w b (λ e. not_there b at out e)

pub frame_changes : (memory : Words) (at : ℕ) (ws : List ℕ) → IsWithin memory → HasFrame at (length ws) → ChangedIn at (4 * length ws) memory (with_frame memory at ws)
frame_changes memory at ws whole place = (framed memory at ws whole place).others

-- what lies below the next older frame is apart from all older ones
pub view_apart : (entry n at bytes : ℕ) (s : Stack) → IsStack entry n s → at + bytes ≤ s.regs 14 + 64 → All (IsApart at bytes) (places n s)
view_apart entry n at bytes s stack below =
    let above : All (λ p. s.regs 14 + 64 ≤ p) (places n s) = rises_above (s.regs 14) (s.regs 14) (places n s) (omega arith) stack.rises in
    λ k d lt. inl (omega (arith, below, above k d lt))

first_place : (n : ℕ) (memory : Words) (at : ℕ) (held : List Frame) (p : ℕ) (ps : List ℕ) → 0 < n → places_from n memory at held ≡ p ∷ ps → p ≡ at
unfolding places_from
first_place zero memory at held p ps some e = absurd (omega (arith, some))
first_place (suc n) memory at [] p ps some e = cc
first_place (suc n) memory at (f ∷ held) p ps some e = cc

own_words : (entry n at bytes : ℕ) (s : Stack) (ps : List ℕ) → places n s ≡ ps → IsStack entry n s → 0 < n → at + bytes ≤ s.regs 30 → All (IsApart at bytes) ps
unfolding Rises
own_words entry n at bytes s [] e stack some below = All-nil (IsApart at bytes)
own_words entry n at bytes s (p ∷ ps) e stack some below =
    let same : p ≡ s.regs 30 = first_place n s.memory (s.regs 30) s.held p ps some e in
    let rises : Rises (s.regs 14) (p ∷ ps) = rw e at stack.rises in
    let above : All (λ q. p + 64 ≤ q) ps = rises_above p p ps (omega arith) rises.1 in
    All-cons (IsApart at bytes) p ps (inl (omega (arith, same, below))) (λ k d lt. inl (omega (arith, same, below, above k d lt)))

-- the words of the frame in view, up to where the next older one begins, are apart from all older ones
pub own_apart : (entry n at bytes : ℕ) (s : Stack) → IsStack entry n s → 0 < n → at + bytes ≤ s.regs 30 → All (IsApart at bytes) (places n s)
own_apart entry n at bytes s stack some below = own_words entry n at bytes s (places n s) refl stack some below

-- how many frames there are is known by where the frame of entry begins
last_above : (b : ℕ) (ps : List ℕ) → Rises b ps → b ≤ last_of b ps
unfolding Rises last_of
last_above b [] r = omega arith
last_above b (p ∷ ps) r = omega (arith, r.0, last_above p ps r.1)

one_end : (n m : ℕ) (memory : Words) (b at : ℕ) (held : List Frame) → Rises b (places_from n memory at held) → Rises b (places_from m memory at held)
    → last_of b (places_from n memory at held) ≡ last_of b (places_from m memory at held) → n ≡ m
unfolding Rises last_of places_from
one_end zero zero memory b at held r q e = refl
one_end zero (suc m) memory b at [] r q e = absurd (omega (arith, q.0, e, last_above at (places_from m memory (saved_at memory at 14) []) q.1))
one_end zero (suc m) memory b at (f ∷ held) r q e = absurd (omega (arith, q.0, e, last_above at (places_from m memory (f 14) held) q.1))
one_end (suc n) zero memory b at [] r q e = absurd (omega (arith, r.0, e, last_above at (places_from n memory (saved_at memory at 14) []) r.1))
one_end (suc n) zero memory b at (f ∷ held) r q e = absurd (omega (arith, r.0, e, last_above at (places_from n memory (f 14) held) r.1))
one_end (suc n) (suc m) memory b at [] r q e = ap suc (one_end n m memory at (saved_at memory at 14) [] r.1 q.1 e)
one_end (suc n) (suc m) memory b at (f ∷ held) r q e = ap suc (one_end n m memory at (f 14) held r.1 q.1 e)

pub one_depth : (entry n m : ℕ) (s : Stack) → IsStack entry n s → IsStack entry m s → n ≡ m
one_depth entry n m s a b = one_end n m s.memory (s.regs 14) (s.regs 30) s.held a.rises b.rises (a.ends ∙ sym b.ends)

-- frames of other stacks stay as they are
one_apart : (entry other at p : ℕ) → IsIn entry at → other / 0x0200_0000 ≢ entry / 0x0200_0000 → IsIn other p → IsApart at 64 p
one_apart entry other at p inside ne there =
    let n : at / 0x0200_0000 ≢ p / 0x0200_0000 = λ e. ne (sym there.1 ∙ sym e ∙ inside.1) in
    elim (cases_lt at p) [
      | inl less ↦ inl (omega (arith, less, n, inside.0.3))
      | inr more ↦ inr (omega (arith, more, n, there.0.3))
    ]

other_apart : (entry other at : ℕ) (ps : List ℕ) → IsIn entry at → other / 0x0200_0000 ≢ entry / 0x0200_0000 → All (IsIn other) ps → All (IsApart at 64) ps
other_apart entry other at ps inside ne h = λ k d lt. one_apart entry other at (get_or ps k d) inside ne (h k d lt)

all_in : (entry n : ℕ) (s : Stack) → IsStack entry n s → All (IsIn entry) (places n s)
all_in entry n s stack = All-tail (IsIn entry) (s.regs 14) (places n s) stack.inside

spill_spares : (entry other n : ℕ) (s : Stack) (held : List Frame) (ps : List ℕ) → s.held ≡ held → 0 < length held → IsSound n s → IsStack entry n s → other / 0x0200_0000 ≢ entry / 0x0200_0000 → All (IsIn other) ps
    → All (λ p. saved_at (spilled s).memory p ≡ saved_at s.memory p) ps
spill_spares entry other n s [] ps e some sound stack ne h = absurd (omega (arith, some))
spill_spares entry other n s (f ∷ held) ps e some sound stack ne h =
    let inside : IsIn entry (oldest_at (s.regs 30) (f ∷ held)) = of_oldest (IsIn entry) n s.memory (s.regs 30) f held (omega (arith, ap length e, sound.covers)) (rw e at (all_in entry n s stack)) in
    rw e (keeps_apart s.memory (with_spilled s.memory (s.regs 30) (f ∷ held)) (oldest_at (s.regs 30) (f ∷ held)) 64 ps
    (save_others s.memory (oldest_at (s.regs 30) (f ∷ held)) (oldest (f ∷ held)) sound.whole inside.0) (other_apart entry other (oldest_at (s.regs 30) (f ∷ held)) ps inside ne h))

room_spares : (entry other n : ℕ) (s : Stack) (b : Bool) (ps : List ℕ) → is_full s.held ≡ b → IsSound n s → IsStack entry n s → other / 0x0200_0000 ≢ entry / 0x0200_0000 → All (IsIn other) ps
    → All (λ p. saved_at (with_room s.memory (s.regs 30) s.held) p ≡ saved_at s.memory p) ps
room_spares entry other n s false ps e sound stack ne h = rw e (λ k d lt. refl)
room_spares entry other n s true ps e sound stack ne h = rw e (spill_spares entry other n s s.held ps refl (omega (arith, is_least (length s.held) e)) sound stack ne h)

-- in a flush, too
flush_spares : (entry other k n : ℕ) (s : Stack) (held : List Frame) (ps : List ℕ) → s.held ≡ held → length held ≡ k → IsSound n s → IsStack entry n s → other / 0x0200_0000 ≢ entry / 0x0200_0000 → All (IsIn other) ps
    → All (λ p. saved_at (view_saved (all_spilled k s)).memory p ≡ saved_at s.memory p) ps
unfolding all_spilled
flush_spares entry other zero n s held ps e l sound stack ne h =
    keeps_apart s.memory (with_saved s.memory (s.regs 14) (kept s.regs)) (s.regs 14) 64 ps
    (save_others s.memory (s.regs 14) (kept s.regs) sound.whole (view_place entry n s stack))
    (other_apart entry other (s.regs 14) ps (All-head (IsIn entry) (s.regs 14) (places n s) stack.inside) ne h)
flush_spares entry other (suc k) n s [] ps e l sound stack ne h = absurd (omega (arith, l))
flush_spares entry other (suc k) n s (f ∷ held) ps e l sound stack ne h =
    let one = spill_spares entry other n s (f ∷ held) ps e (omega arith) sound stack ne h in
    let more = flush_spares entry other k n (spilled s) (but_oldest (f ∷ held)) ps (ap but_oldest e) (omega (arith, length-but_oldest f held, l)) (spill_sound n s f held e sound)
    (spill_stack entry n s (f ∷ held) e (omega arith) sound stack) ne h in
    λ j d lt. more j d lt ∙ one j d lt

pub save_others_stay : (entry other n m at : ℕ) (s : Stack) → IsSound n s → IsStack entry n s → other / 0x0200_0000 ≢ entry / 0x0200_0000 → All (IsIn other) (places_from m s.memory at [])
    → frames_from m (saved s).memory at [] ≡ frames_from m s.memory at []
save_others_stay entry other n m at s sound stack ne h =
    keeps_frames m s.memory (with_room s.memory (s.regs 30) s.held) at [] (room_spares entry other n s (is_full s.held) (places_from m s.memory at []) refl sound stack ne h)

pub flush_others_stay : (entry other n m at : ℕ) (s : Stack) → IsSound n s → IsStack entry n s → other / 0x0200_0000 ≢ entry / 0x0200_0000 → All (IsIn other) (places_from m s.memory at [])
    → frames_from m (flushed s).memory at [] ≡ frames_from m s.memory at []
flush_others_stay entry other n m at s sound stack ne h =
    keeps_frames m s.memory (flushed s).memory at [] (flush_spares entry other (length s.held) n s s.held (places_from m s.memory at []) refl refl sound stack ne h)

-- what lies below the stacks is apart from all frames
pub low_apart : (entry n at bytes : ℕ) (s : Stack) → IsStack entry n s → at + bytes ≤ 0x4000_0000 → All (IsApart at bytes) (places n s)
low_apart entry n at bytes s stack below =
    let here = older_places entry n s stack in
    λ k d lt. inl (omega (arith, below, (here k d lt).1))
