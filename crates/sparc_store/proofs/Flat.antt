-- The window file answers as a plain list of frames.
use Rattle.std.proofs.Common.{◌≡◌, refl, ap, ◌∙◌, ℕ, zero, suc, ◌<◌, ◌≤◌, List, [], ◌∷◌, ◌++◌, length, drop, arith, Bool, true, false, nat_le}
use Rattle.std.specs.Prelude.{All}
use Rattle.std.proofs.lemmas.List.Elements.{All-nil, All-cons, All-head, All-tail}
use Rattle.sparc_store.specs.Words.{Words, IsWithin}
use Rattle.sparc_store.specs.Windows.{Frame, Stack, with_reg, entered, kept, saved_at, oldest, oldest_at, but_oldest, with_spilled, with_room, but_spilled, IsPlace, restored, but_first, spilled, all_spilled, view_saved, held_places}
use Rattle.sparc_store.specs.Chain.{frames_from, places_from, chain, places, Keeps, IsFrame, IsSound}
use Rattle.sparc_store.specs.Flat.{Op, Save, Restore, Flush, Get, Set, Write, after, depth_after, Flat, flat_after, told, answers, flat_answers, KeepsFlush, May, AllMay, flat_of}
use Rattle.sparc_store.proofs.Chains.{saved_back, kept_is_frame, keeps_frames, spill_frames, oldest_is_frame, length-but_oldest, but_oldest_frames, saved_stays_within}

abbrev flat_with : (ℕ → ℕ) → List Frame → Flat
flat_with regs older = record { regs = regs; older = older }

is_least : (n : ℕ) → nat_le 6 n ≡ true → 6 ≤ n
is_least n e = grind (arith, e)

-- the memory in which room was made has the same chain
pub room_frames : (n : ℕ) (memory : Words) (at : ℕ) (held : List Frame) (b : Bool) → nat_le 6 (length held) ≡ b → IsWithin memory → All IsFrame held → length held ≤ n
    → (6 ≤ length held → IsPlace (oldest_at at held))
    → All (λ a. saved_at (with_room memory at held) a ≡ saved_at memory a) (drop (length held) (places_from n memory at held))
    → frames_from n (with_room memory at held) at (but_spilled held) ≡ frames_from n memory at held
room_frames n memory at held false e whole frames most place keeps = rw e refl
room_frames n memory at [] true e whole frames most place keeps = absurd (cc)
room_frames n memory at (f ∷ held) true e whole frames most place keeps =
    let full : with_room memory at (f ∷ held) ≡ with_spilled memory at (f ∷ held) = rw e refl in
    let h : All (λ a. saved_at (with_spilled memory at (f ∷ held)) a ≡ saved_at memory a) (drop (length (f ∷ held)) (places_from n memory at (f ∷ held))) = rw full at keeps in
    rw e (spill_frames n memory (with_spilled memory at (f ∷ held)) at f held most
    (saved_back memory (oldest_at at (f ∷ held)) (oldest (f ∷ held)) whole (place (is_least (length (f ∷ held)) e)) (oldest_is_frame f held frames)) h)

room_within : (memory : Words) (at : ℕ) (held : List Frame) (b : Bool) → nat_le 6 (length held) ≡ b → IsWithin memory → IsWithin (with_room memory at held)
room_within memory at held false e whole = rw e whole
room_within memory at held true e whole = rw e (saved_stays_within memory (oldest_at at held) (oldest held) whole)

room_held : (held : List Frame) (b : Bool) → nat_le 6 (length held) ≡ b → All IsFrame held → All IsFrame (but_spilled held)
room_held held false e frames = rw e frames
room_held [] true e frames = absurd (cc)
room_held (f ∷ held) true e frames = rw e (but_oldest_frames f held frames)

room_length : (held : List Frame) (b : Bool) → nat_le 6 (length held) ≡ b → length (but_spilled held) ≤ length held
room_length held false e = rw e (omega arith)
room_length [] true e = absurd (cc)
room_length (f ∷ held) true e = rw e (omega (arith, length-but_oldest f held))

goes_back : (n : ℕ) (memory : Words) (regs : ℕ → ℕ) (held : List Frame)
    → flat_of n (restored (record { memory = memory; regs = regs; held = held })) ≡ flat_after Restore (flat_of (suc n) (record { memory = memory; regs = regs; held = held }))
unfolding frames_from
goes_back n memory regs [] = refl
goes_back n memory regs (f ∷ held) = refl

set_there : (n : ℕ) (memory : Words) (regs : ℕ → ℕ) (held : List Frame) (r w : ℕ) → (r ≡ 30 → held ≡ [] → 0 < n → w ≡ regs 30)
    → frames_from n memory (with_reg regs r w 30) held ≡ frames_from n memory (regs 30) held
unfolding frames_from
set_there zero memory regs held r w same = refl
set_there (suc n) memory regs [] r w same =
    let e : with_reg regs r w 30 ≡ regs 30 = grind (arith, λ (is : r ≡ 30). same is refl (omega arith)) in
    rw e refl
set_there (suc n) memory regs (f ∷ held) r w same = refl

-- a stack all of whose older frames are in memory, and the chain that it keeps
pub record Emptied (n : ℕ) (s t : Stack) : Type 0 where
  pub sound : IsSound n t
  pub none : t.held ≡ []
  pub regs : t.regs ≡ s.regs
  pub same : chain n t ≡ chain n s
  pub last : Keeps n t (view_saved t).memory

pub oldest_place : (at : ℕ) (f : Frame) (held : List Frame) → All IsPlace (held_places at (f ∷ held)) → IsPlace (oldest_at at (f ∷ held))
unfolding held_places oldest_at
oldest_place at f [] h = All-head IsPlace at [] h
oldest_place at f (g ∷ more) h = oldest_place (f 14) g more (All-tail IsPlace at (f 14 ∷ held_places (g 14) more) h)

pub other_places : (at : ℕ) (f : Frame) (held : List Frame) → All IsPlace (held_places at (f ∷ held)) → All IsPlace (held_places at (but_oldest (f ∷ held)))
unfolding held_places but_oldest
other_places at f [] h = All-nil IsPlace
other_places at f (g ∷ more) h = All-cons IsPlace at (held_places (f 14) (but_oldest (g ∷ more))) (All-head IsPlace at (f 14 ∷ held_places (g 14) more) h) (other_places (f 14) g more (All-tail IsPlace at (f 14 ∷ held_places (g 14) more) h))

pub spill_sound : (n : ℕ) (s : Stack) (f : Frame) (held : List Frame) → s.held ≡ f ∷ held → IsSound n s → IsSound n (spilled s)
spill_sound n s f held e sound = record {
  whole = saved_stays_within s.memory (oldest_at (s.regs 30) s.held) (oldest s.held) sound.whole;
  frames = rw e (but_oldest_frames f held (rw e at sound.frames));
  covers = rw e (omega (arith, length-but_oldest f held, ap length e, sound.covers));
}

pub spill_chain : (n : ℕ) (s : Stack) (f : Frame) (held : List Frame) → s.held ≡ f ∷ held → IsSound n s → IsPlace (oldest_at (s.regs 30) (f ∷ held)) → Keeps n s (spilled s).memory → chain n (spilled s) ≡ chain n s
spill_chain n s f held e sound place keeps =
    let most : suc (length held) ≤ n = omega (arith, ap length e, sound.covers) in
    rw e (spill_frames n s.memory (with_spilled s.memory (s.regs 30) (f ∷ held)) (s.regs 30) f held most
    (saved_back s.memory (oldest_at (s.regs 30) (f ∷ held)) (oldest (f ∷ held)) sound.whole place (oldest_is_frame f held (rw e at sound.frames))) (rw e at keeps))

pub empties : (k n : ℕ) (s : Stack) (held : List Frame) → s.held ≡ held → length held ≡ k → IsSound n s → All IsPlace (held_places (s.regs 30) held) → KeepsFlush k n s → Emptied n s (all_spilled k s)
unfolding all_spilled KeepsFlush
empties zero n s [] e l sound places keeps = record { sound = sound; none = e; regs = refl; same = refl; last = keeps }
empties zero n s (f ∷ held) e l sound places keeps = absurd (omega (arith, l))
empties (suc k) n s [] e l sound places keeps = absurd (omega (arith, l))
empties (suc k) n s (f ∷ held) e l sound places keeps =
    let on = empties k n (spilled s) (but_oldest (f ∷ held)) (ap but_oldest e) (omega (arith, length-but_oldest f held, l)) (spill_sound n s f held e sound) (other_places (s.regs 30) f held places) keeps.1 in
    record {
      sound = on.sound;
      none = on.none;
      regs = on.regs;
      same = on.same ∙ spill_chain n s f held e sound (oldest_place (s.regs 30) f held places) keeps.0;
      last = on.last;
    }

pub goes : (op : Op) (n : ℕ) (s : Stack) → IsSound n s → May op n s → flat_of (depth_after op n) (after op s) ≡ flat_after op (flat_of n s)
unfolding frames_from
goes Save n s sound may =
    ap (λ fs. flat_with (entered s.regs) (kept s.regs ∷ fs)) (room_frames n s.memory (s.regs 30) s.held _ refl sound.whole sound.frames sound.covers may.0 may.1)
goes Restore zero s sound may = absurd (omega (arith, may.1))
goes Restore (suc n) s sound may = goes_back n s.memory s.regs s.held
goes Flush n s sound may =
    let t = empties (length s.held) n s s.held refl refl sound may.0.1 may.1 in
    let u = all_spilled (length s.held) s in
    let same : frames_from n (view_saved u).memory (u.regs 30) u.held ≡ chain n u = keeps_frames n u.memory (view_saved u).memory (u.regs 30) u.held t.last in
    ap (λ fs. flat_with u.regs fs) (same ∙ t.same) ∙ ap (λ regs. flat_with regs (chain n s)) t.regs
goes (Get r) n s sound may = refl
goes (Set r w) n s sound may = ap (flat_with (with_reg s.regs r w)) (set_there n s.memory s.regs s.held r w may.2)
goes (Write memory) n s sound may = ap (flat_with s.regs) (keeps_frames n s.memory memory (s.regs 30) s.held may.1)

first_frames : (held : List Frame) → All IsFrame held → All IsFrame (but_first held)
first_frames [] h = h
first_frames (f ∷ held) h = All-tail IsFrame f held h

length-but_first : (n : ℕ) (held : List Frame) → length held ≤ suc n → length (but_first held) ≤ n
length-but_first n [] h = omega arith
length-but_first n (f ∷ held) h = omega (arith, h)

pub stays : (op : Op) (n : ℕ) (s : Stack) → IsSound n s → May op n s → IsSound (depth_after op n) (after op s)
stays Save n s sound may = record {
  whole = room_within s.memory (s.regs 30) s.held _ refl sound.whole;
  frames = All-cons IsFrame (kept s.regs) _ (kept_is_frame s.regs) (room_held s.held _ refl sound.frames);
  covers = omega (arith, room_length s.held _ refl, sound.covers);
}
stays Restore zero s sound may = absurd (omega (arith, may.1))
stays Restore (suc n) s sound may = record { whole = sound.whole; frames = first_frames s.held sound.frames; covers = length-but_first n s.held sound.covers }
stays Flush n s sound may =
    let t = empties (length s.held) n s s.held refl refl sound may.0.1 may.1 in
    let u = all_spilled (length s.held) s in
    record { whole = saved_stays_within u.memory (u.regs 14) (kept u.regs) t.sound.whole; frames = t.sound.frames; covers = t.sound.covers }
stays (Get r) n s sound may = sound
stays (Set r w) n s sound may = record { whole = sound.whole; frames = sound.frames; covers = sound.covers }
stays (Write memory) n s sound may = record { whole = may.0; frames = sound.frames; covers = sound.covers }

pub answers_same : (ops : List Op) (n : ℕ) (s : Stack) → IsSound n s → AllMay ops n s → answers ops s ≡ flat_answers ops (flat_of n s)
unfolding answers flat_answers AllMay
answers_same [] n s sound may = refl
answers_same (op ∷ ops) n s sound may =
    ap (λ more. told op s.regs ++ more)
    (answers_same ops (depth_after op n) (after op s) (stays op n s sound may.0) may.1
    ∙ ap (flat_answers ops) (goes op n s sound may.0))
