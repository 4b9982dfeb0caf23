-- SAVE, `flush` and `take_up` leave what frames show.
use Rattle.std.proofs.Common.{◌≡◌, ◌≢◌, ◌⊎◌, ℕ, suc, ◌+◌, ◌*◌, ◌/◌, ◌%◌, ◌<◌, ◌≤◌, refl, ◌∙◌, ap, sym, subst, arith, inl, inr}
use Rattle.std.specs.Prelude.{List, [], ◌∷◌, All, get_or}
use Rattle.std.proofs.lemmas.Bool.{cases_lt}
use Rattle.std.proofs.lemmas.List.Elements.{All-nil, All-tail}
use Rattle.sparc_store.specs.Words.{Words, word_at, HasFrame, IsWithin}
use Rattle.sparc_store.specs.Windows.{Frame as Window, Stack, kept, saved, saved_at, but_spilled, flushed, restored, frame_before, but_first, resumed, IsPlace, held_places}
use Rattle.sparc_store.specs.Flat.{Save, Restore, Flush}
use Rattle.sparc_store.specs.Chain.{frames_from, chain, IsFrame, IsSound, IsIn, IsStack, IsApart, ChangedIn}
use Rattle.sparc_store.proofs.SoundStacks.{save_chain, flush_frames, flush_regs, flush_held, restore_chain, resumed_frames, may_save, may_restore, may_flush}
use Rattle.sparc_store.proofs.Flat.{stays}
use Rattle.frame_walk.specs.Places.{Descriptor}
use Rattle.frame_walk.specs.Walk.{activations, Asked, AreLaid, Frames, SameBetween}
use Rattle.frame_walk.proofs.Resting.{rests, saved_same, ends_below}
use Rattle.frame_moves.specs.Moves.{OnlyStackOf}
use Rattle.frame_moves.proofs.Listed.{windows_of, windows_same, laid_listed, first_inside, same_frames, spared_slots, stack_of}
use Rattle.frame_moves.proofs.Spared.{save_spares, flush_spares, oldest_apart, held_inside, can_save, can_flush}

chain_unfolds : (n : ℕ) (memory : Words) (at : ℕ) (f : Window) (held : List Window) → frames_from (suc n) memory at (f ∷ held) ≡ f ∷ frames_from n memory (f 14) held
unfolding frames_from
chain_unfolds n memory at f held = refl

-- SAVE
pub save_stays : (descs : ℕ → Descriptor) (asked : Asked) (entry end n pc : ℕ) (s : Stack) → Frames descs asked → IsPlace entry → IsSound n s → AreLaid asked entry end s.memory n (s.regs 14) (kept s.regs) pc s.held
    → (activations descs (saved s).memory n (s.regs 14) (kept s.regs) pc (but_spilled s.held) ≡ activations descs s.memory n (s.regs 14) (kept s.regs) pc s.held)
    × AreLaid asked entry end (saved s).memory n (s.regs 14) (kept s.regs) pc (but_spilled s.held)
save_stays descs asked entry end n pc s all place sound laid =
    let stack = stack_of descs asked entry end n pc s all place laid in
    let w = kept s.regs in
    let e : w ∷ frames_from n (saved s).memory (w 14) (but_spilled s.held) ≡ w ∷ frames_from n s.memory (w 14) s.held =
    sym (chain_unfolds n (saved s).memory ((saved s).regs 30) w (but_spilled s.held)) ∙ save_chain entry n s sound stack in
    let spares : (b : ℕ) → All (IsApart b 1) (s.regs 14 ∷ held_places (w 14) s.held) → word_at (saved s).memory b ≡ word_at s.memory b =
    λ b apart. save_spares s b sound.whole (can_save entry n s sound stack) (oldest_apart b (s.regs 30) s.held (All-tail (IsApart b 1) (s.regs 14) (held_places (s.regs 30) s.held) apart)) in
    same_frames descs asked entry end s.memory (saved s).memory n (s.regs 14) w w pc s.held (but_spilled s.held) all (windows_same n s.memory (saved s).memory w w s.held (but_spilled s.held) e)
    (spared_slots descs asked entry end n s.memory (saved s).memory (s.regs 14) pc w s.held all sound.covers spares laid) laid

saved_unfolds : (n : ℕ) (memory : Words) (at : ℕ) → frames_from (suc n) memory at [] ≡ saved_at memory at ∷ frames_from n memory (saved_at memory at 14) []
unfolding frames_from
saved_unfolds n memory at = refl

-- and so they do over words that are then put below the caller, in the new frame
pub save_then_stays : (descs : ℕ → Descriptor) (asked : Asked) (entry end n pc : ℕ) (s : Stack) (new : Words) → Frames descs asked → IsPlace entry → IsSound n s → AreLaid asked entry end s.memory n (s.regs 14) (kept s.regs) pc s.held
    → SameBetween (s.regs 14) (entry + 64) (saved s).memory new
    → (activations descs new n (s.regs 14) (kept s.regs) pc (but_spilled s.held) ≡ activations descs s.memory n (s.regs 14) (kept s.regs) pc s.held)
    × AreLaid asked entry end new n (s.regs 14) (kept s.regs) pc (but_spilled s.held)
save_then_stays descs asked entry end n pc s new all place sound laid same =
    let a = save_stays descs asked entry end n pc s all place sound laid in
    let b = rests descs asked entry end (saved s).memory new n (s.regs 14) (kept s.regs) pc (but_spilled s.held) all a.1 same in
    (b.0 ∙ a.0, b.1)

-- `flush`
pub flush_stays : (descs : ℕ → Descriptor) (asked : Asked) (entry end n pc : ℕ) (s : Stack) → Frames descs asked → IsPlace entry → IsSound n s → AreLaid asked entry end s.memory n (s.regs 14) (kept s.regs) pc s.held
    → (activations descs (flushed s).memory n (s.regs 14) (saved_at (flushed s).memory (s.regs 14)) pc [] ≡ activations descs s.memory n (s.regs 14) (kept s.regs) pc s.held)
    × AreLaid asked entry end (flushed s).memory n (s.regs 14) (saved_at (flushed s).memory (s.regs 14)) pc []
flush_stays descs asked entry end n pc s all place sound laid =
    let stack = stack_of descs asked entry end n pc s all place laid in
    let w = kept s.regs in
    let v = saved_at (flushed s).memory (s.regs 14) in
    let e : v ∷ frames_from n (flushed s).memory (v 14) [] ≡ w ∷ frames_from n s.memory (w 14) s.held =
    sym (saved_unfolds n (flushed s).memory (s.regs 14)) ∙ flush_frames entry n s sound stack in
    let spares : (b : ℕ) → All (IsApart b 1) (s.regs 14 ∷ held_places (w 14) s.held) → word_at (flushed s).memory b ≡ word_at s.memory b =
    λ b apart. flush_spares s b sound.whole (can_flush entry n s sound stack) apart in
    same_frames descs asked entry end s.memory (flushed s).memory n (s.regs 14) w v pc s.held [] all (windows_same n s.memory (flushed s).memory w v s.held [] e)
    (spared_slots descs asked entry end n s.memory (flushed s).memory (s.regs 14) pc w s.held all sound.covers spares laid) laid

head_same : (f g : Window) (fs gs : List Window) → f ∷ fs ≡ g ∷ gs → f ≡ g
head_same f g fs gs e = cc

-- the frame in view is saved, and stays in view
pub flushed_window : (entry n : ℕ) (s : Stack) → IsSound n s → IsStack entry n s → saved_at (flushed s).memory (s.regs 14) ≡ kept s.regs
flushed_window entry n s sound stack =
    let v = saved_at (flushed s).memory (s.regs 14) in
    head_same v (kept s.regs) (frames_from n (flushed s).memory (v 14) []) (chain n s) (sym (saved_unfolds n (flushed s).memory (s.regs 14)) ∙ flush_frames entry n s sound stack)

pub flush_view_stays : (descs : ℕ → Descriptor) (asked : Asked) (entry end n pc : ℕ) (s : Stack) → Frames descs asked → IsPlace entry → IsSound n s → AreLaid asked entry end s.memory n (s.regs 14) (kept s.regs) pc s.held
    → (activations descs (flushed s).memory n ((flushed s).regs 14) (kept (flushed s).regs) pc (flushed s).held ≡ activations descs s.memory n (s.regs 14) (kept s.regs) pc s.held)
    × AreLaid asked entry end (flushed s).memory n ((flushed s).regs 14) (kept (flushed s).regs) pc (flushed s).held
flush_view_stays descs asked entry end n pc s all place sound laid =
    let stack = stack_of descs asked entry end n pc s all place laid in
    let memory = (flushed s).memory in
    let w = flushed_window entry n s sound stack in
    let regs = flush_regs entry n s sound stack in
    let held = flush_held entry n s sound stack in
    let r = flush_stays descs asked entry end n pc s all place sound laid in
    let P : Window → Type 0 = λ v. AreLaid asked entry end memory n (s.regs 14) v pc [] in
    let Q : (ℕ → ℕ) → Type 0 = λ z. AreLaid asked entry end memory n (z 14) (kept z) pc [] in
    let R : List Window → Type 0 = λ fs. AreLaid asked entry end memory n ((flushed s).regs 14) (kept (flushed s).regs) pc fs in (
      ap (activations descs memory n ((flushed s).regs 14) (kept (flushed s).regs) pc) held
          ∙ ap (λ (z : ℕ → ℕ). activations descs memory n (z 14) (kept z) pc []) regs
          ∙ ap (λ v. activations descs memory n (s.regs 14) v pc []) (sym w)
          ∙ r.0,
      subst R (sym held) (subst Q (sym regs) (subst P w r.1)),
    )

-- windows go on being sound
pub save_sound : (entry n : ℕ) (s : Stack) → IsSound n s → IsStack entry n s → IsSound (suc n) (saved s)
save_sound entry n s sound stack = stays Save n s sound (may_save entry n s sound stack)

pub flush_sound : (entry n : ℕ) (s : Stack) → IsSound n s → IsStack entry n s → IsSound n (flushed s)
flush_sound entry n s sound stack = stays Flush n s sound (may_flush entry n s sound stack)

-- RESTORE: the window that comes into view is the older frame's
first_frame : (n : ℕ) (memory : Words) (at : ℕ) (held : List Window) → frames_from (suc n) memory at held ≡ frame_before memory at held ∷ frames_from n memory (frame_before memory at held 14) (but_first held)
unfolding frames_from
first_frame n memory at [] = refl
first_frame n memory at (f ∷ held) = refl

pub restored_window : (n : ℕ) (s : Stack) → IsSound (suc n) s → kept (restored s).regs ≡ frame_before s.memory (s.regs 30) s.held
restored_window n s sound =
    let f = frame_before s.memory (s.regs 30) s.held in
    sym (head_same f (kept (restored s).regs) (frames_from n s.memory (f 14) (but_first s.held)) (chain n (restored s)) (sym (first_frame n s.memory (s.regs 30) s.held) ∙ restore_chain n s sound))

pub restore_stays : (asked : Asked) (entry end m n pc : ℕ) (s : Stack) → IsSound (suc m) s → AreLaid asked entry end s.memory n (s.regs 30) (frame_before s.memory (s.regs 30) s.held) pc (but_first s.held)
    → AreLaid asked entry end s.memory n (s.regs 30) (kept (restored s).regs) pc (but_first s.held)
restore_stays asked entry end m n pc s sound laid =
    let P : Window → Type 0 = λ w. AreLaid asked entry end s.memory n (s.regs 30) w pc (but_first s.held) in
    subst P (sym (restored_window m s sound)) laid

pub restore_sound : (entry n : ℕ) (s : Stack) → IsSound (suc n) s → IsStack entry (suc n) s → IsSound n (restored s)
restore_sound entry n s sound stack = stays Restore (suc n) s sound (may_restore entry (suc n) s sound stack (omega arith))

-- `take_up`: the window in view is the one that was saved
pub taken_window : (s : Stack) (at : ℕ) → kept (resumed s at).regs ≡ saved_at s.memory at
taken_window s at = sym (head_same (saved_at s.memory at) (kept (resumed s at).regs) (frames_from 0 s.memory (saved_at s.memory at 14) []) (chain 0 (resumed s at)) (sym (saved_unfolds 0 s.memory at) ∙ resumed_frames 0 at s))

pub take_up_stays : (descs : ℕ → Descriptor) (asked : Asked) (entry end n at pc : ℕ) (s : Stack) → AreLaid asked entry end s.memory n at (saved_at s.memory at) pc []
    → (activations descs s.memory n at (kept (resumed s at).regs) pc [] ≡ activations descs s.memory n at (saved_at s.memory at) pc [])
    × AreLaid asked entry end s.memory n at (kept (resumed s at).regs) pc []
take_up_stays descs asked entry end n at pc s laid =
    let P : Window → Type 0 = λ w. AreLaid asked entry end s.memory n at w pc [] in
    (ap (λ w. activations descs s.memory n at w pc []) (taken_window s at), subst P (sym (taken_window s at)) laid)

pub take_up_sound : (n at : ℕ) (s : Stack) → IsWithin s.memory → IsSound n (resumed s at)
take_up_sound n at s whole = record { whole = whole; frames = All-nil IsFrame; covers = omega arith }

-- Frames of other stacks.

-- a word of no frame's stack is apart from the frame
apart_one : (entry b p : ℕ) → b / 0x0200_0000 ≢ entry / 0x0200_0000 → IsIn entry p → IsApart b 1 p
apart_one entry b p ne inside =
    let n : p / 0x0200_0000 ≢ b / 0x0200_0000 = λ e. ne (sym e ∙ inside.1) in
    elim (cases_lt p b) [
      | inl less ↦ inr (omega (arith, less, n, inside.0.3))
      | inr more ↦ inl (omega (arith, more, n))
    ]

apart_all : (entry b : ℕ) (ps : List ℕ) → b / 0x0200_0000 ≢ entry / 0x0200_0000 → All (IsIn entry) ps → All (IsApart b 1) ps
apart_all entry b ps ne inside = λ k d lt. apart_one entry b (get_or ps k d) ne (inside k d lt)

-- SAVE and `flush` change words of their own stack alone
pub save_own : (entry n : ℕ) (s : Stack) → IsSound n s → IsStack entry n s → OnlyStackOf entry s.memory (saved s).memory
save_own entry n s sound stack =
    let ps = held_places (s.regs 30) s.held in
    let inside = held_inside entry n s sound stack in
    λ b ne. save_spares s b sound.whole (can_save entry n s sound stack) (oldest_apart b (s.regs 30) s.held (All-tail (IsApart b 1) (s.regs 14) ps (apart_all entry b (s.regs 14 ∷ ps) ne inside)))

pub flush_own : (entry n : ℕ) (s : Stack) → IsSound n s → IsStack entry n s → OnlyStackOf entry s.memory (flushed s).memory
flush_own entry n s sound stack = λ b ne. flush_spares s b sound.whole (can_flush entry n s sound stack) (apart_all entry b (s.regs 14 ∷ held_places (s.regs 30) s.held) ne (held_inside entry n s sound stack))

-- and so do words that are put in a frame
frame_out : (entry sp words b : ℕ) → HasFrame sp words → sp / 0x0200_0000 ≡ entry / 0x0200_0000 → b / 0x0200_0000 ≢ entry / 0x0200_0000 → (b < sp) ⊎ (sp + 4 * words ≤ b)
frame_out entry sp words b place there ne =
    let n : sp / 0x0200_0000 ≢ b / 0x0200_0000 = λ e. ne (sym e ∙ there) in
    elim (cases_lt b sp) [
      | inl less ↦ inl less
      | inr more ↦ inr (omega (arith, more, n, place.3))
    ]

pub frame_own : (entry sp words : ℕ) (old new : Words) → HasFrame sp words → sp / 0x0200_0000 ≡ entry / 0x0200_0000 → ChangedIn sp (4 * words) old new → OnlyStackOf entry old new
frame_own entry sp words old new place there changed = λ b ne. changed b (frame_out entry sp words b place there ne)

pub own_then : (entry : ℕ) (a b c : Words) → OnlyStackOf entry a b → OnlyStackOf entry b c → OnlyStackOf entry a c
own_then entry a b c first second = λ k ne. second k ne ∙ first k ne

in_other : (at b other : ℕ) → at / 0x0200_0000 ≡ other / 0x0200_0000 → at ≤ b → b < other + 64 → other % 0x0200_0000 + 64 ≤ 16781312 → b / 0x0200_0000 ≡ other / 0x0200_0000
in_other at b other e from to room = omega (arith, e, from, to, room)

-- laid frames lie in the stack of their frame of entry
pub laid_inside : (descs : ℕ → Descriptor) (asked : Asked) (entry end : ℕ) (memory : Words) (n sp : ℕ) (w : Window) (pc : ℕ) (held : List Window) → Frames descs asked → IsPlace entry → AreLaid asked entry end memory n sp w pc held → IsIn entry sp
laid_inside descs asked entry end memory n sp w pc held all place laid =
    first_inside descs asked entry end sp pc (windows_of n memory w held) all place (laid_listed asked entry end memory n sp w pc held laid)

-- the words of another stack's frames stay
pub others_between : (descs : ℕ → Descriptor) (asked : Asked) (entry other end : ℕ) (old new : Words) (m at : ℕ) (w : Window) (pc : ℕ) (held : List Window) → Frames descs asked → IsPlace other
    → other / 0x0200_0000 ≢ entry / 0x0200_0000 → OnlyStackOf entry old new → AreLaid asked other end old m at w pc held → SameBetween at (other + 64) old new
others_between descs asked entry other end old new m at w pc held all place ne own laid =
    let i = laid_inside descs asked other end old m at w pc held all place laid in
    λ b from to. own b (λ e. ne (sym (in_other at b other i.1 from to place.3) ∙ e))

-- frames of another stack, the first with its window saved where it begins, show what they showed
pub others_stay : (descs : ℕ → Descriptor) (asked : Asked) (entry other end : ℕ) (old new : Words) (m at pc : ℕ) → Frames descs asked → IsPlace other
    → other / 0x0200_0000 ≢ entry / 0x0200_0000 → OnlyStackOf entry old new → AreLaid asked other end old m at (saved_at old at) pc []
    → (activations descs new m at (saved_at new at) pc [] ≡ activations descs old m at (saved_at old at) pc []) × AreLaid asked other end new m at (saved_at new at) pc []
others_stay descs asked entry other end old new m at pc all place ne own laid =
    let w = saved_at old at in
    let same = others_between descs asked entry other end old new m at w pc [] all place ne own laid in
    let top = ends_below descs asked other end old m at w pc [] all laid in
    let e : saved_at new at ≡ w = saved_same old new at (λ b from to. same b from (omega (arith, to, top))) in
    let r = rests descs asked other end old new m at w pc [] all laid same in
    let P : Window → Type 0 = λ v. AreLaid asked other end new m at v pc [] in
    (ap (λ v. activations descs new m at v pc []) e ∙ r.0, subst P (sym e) r.1)
