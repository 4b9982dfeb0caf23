-- Frames as a list of their windows: what they show, and that they are laid.
use Rattle.std.proofs.Common.{◌≡◌, ◌⊎◌, ℕ, zero, suc, ◌+◌, ◌*◌, ◌/◌, ◌%◌, ◌≤◌, refl, ◌∙◌, ap, sym, subst, arith, inl, inr}
use Rattle.std.specs.Prelude.{List, [], ◌∷◌, map, length, take, All, get_or}
use Rattle.std.proofs.lemmas.List.Elements.{All-nil, All-cons, All-head}
use Rattle.sparc_store.specs.Words.{Words, word_at, HasFrame}
use Rattle.sparc_store.specs.Windows.{Frame as Window, Stack, kept, frame_before, but_first, saved_at, IsPlace, held_places}
use Rattle.sparc_store.specs.Chain.{frames_from, places_from, places, Rises, last_of, IsIn, IsStack, IsApart}
use Rattle.frame_walk.specs.Places.{Place, Register, Slot, Constant, Descriptor, Frame, shown, word_in_place}
use Rattle.frame_walk.specs.Walk.{activations, IsInside, AreInside, Fits, Asked, AreLaid, Frames, SameBetween}

-- the windows of so many frames, the first of them this
abbrev pub windows_of : ℕ → Words → Window → List Window → List Window
windows_of zero memory w held = []
windows_of (suc n) memory w held = w ∷ frames_from n memory (w 14) held

-- what frames with these windows show, the first of which begins at sp and goes on at pc
abbrev pub shown_by : (ℕ → Descriptor) → Words → ℕ → ℕ → List Window → List Frame
shown_by descs memory sp pc [] = []
shown_by descs memory sp pc (w ∷ ws) = shown memory w sp (descs pc) ∷ shown_by descs memory (w 14) (w 15 + 8) ws

-- they are laid
abbrev pub LaidBy : Asked → ℕ → ℕ → ℕ → ℕ → List Window → Type 0
LaidBy asked entry end sp pc [] = (sp ≡ entry) × (pc ≡ end)
LaidBy asked entry end sp pc (w ∷ ws) = asked pc sp (w 14) × LaidBy asked entry end (w 14) (w 15 + 8) ws

next_windows : (n : ℕ) (memory : Words) (at : ℕ) (held : List Window) → windows_of n memory (frame_before memory at held) (but_first held) ≡ frames_from n memory at held
unfolding frames_from
next_windows zero memory at held = refl
next_windows (suc n) memory at [] = refl
next_windows (suc n) memory at (f ∷ held) = refl

pub as_listed : (descs : ℕ → Descriptor) (memory : Words) (n sp : ℕ) (w : Window) (pc : ℕ) (held : List Window) → activations descs memory n sp w pc held ≡ shown_by descs memory sp pc (windows_of n memory w held)
unfolding activations
as_listed descs memory zero sp w pc held = refl
as_listed descs memory (suc n) sp w pc held =
    ap (λ fs. shown memory w sp (descs pc) ∷ fs)
    (as_listed descs memory n (w 14) (frame_before memory (w 14) held) (w 15 + 8) (but_first held)
    ∙ ap (shown_by descs memory (w 14) (w 15 + 8)) (next_windows n memory (w 14) held))

pub laid_listed : (asked : Asked) (entry end : ℕ) (memory : Words) (n sp : ℕ) (w : Window) (pc : ℕ) (held : List Window) → AreLaid asked entry end memory n sp w pc held → LaidBy asked entry end sp pc (windows_of n memory w held)
unfolding AreLaid
laid_listed asked entry end memory zero sp w pc held laid = laid
laid_listed asked entry end memory (suc n) sp w pc held laid =
    let P : List Window → Type 0 = LaidBy asked entry end (w 14) (w 15 + 8) in
    (laid.0, subst P (next_windows n memory (w 14) held) (laid_listed asked entry end memory n (w 14) (frame_before memory (w 14) held) (w 15 + 8) (but_first held) laid.1))

pub listed_laid : (asked : Asked) (entry end : ℕ) (memory : Words) (n sp : ℕ) (w : Window) (pc : ℕ) (held : List Window) → LaidBy asked entry end sp pc (windows_of n memory w held) → AreLaid asked entry end memory n sp w pc held
unfolding AreLaid
listed_laid asked entry end memory zero sp w pc held laid = laid
listed_laid asked entry end memory (suc n) sp w pc held laid =
    let P : List Window → Type 0 = LaidBy asked entry end (w 14) (w 15 + 8) in
    (laid.0, listed_laid asked entry end memory n (w 14) (frame_before memory (w 14) held) (w 15 + 8) (but_first held) (subst P (sym (next_windows n memory (w 14) held)) laid.1))

-- Two chains that begin alike: what one frame more tells of a chain.

fewer : (n : ℕ) (memory : Words) (at : ℕ) (held : List Window) → take n (frames_from (suc n) memory at held) ≡ frames_from n memory at held
unfolding frames_from
fewer zero memory at held = refl
fewer (suc n) memory at [] = ap (λ fs. saved_at memory at ∷ fs) (fewer n memory (saved_at memory at 14) [])
fewer (suc n) memory at (f ∷ held) = ap (λ fs. f ∷ fs) (fewer n memory (f 14) held)

first_windows : (n : ℕ) (memory : Words) (w : Window) (held : List Window) → take n (w ∷ frames_from n memory (w 14) held) ≡ windows_of n memory w held
first_windows zero memory w held = refl
first_windows (suc n) memory w held = ap (λ fs. w ∷ fs) (fewer n memory (w 14) held)

pub windows_same : (n : ℕ) (old new : Words) (w v : Window) (held kept : List Window) → v ∷ frames_from n new (v 14) kept ≡ w ∷ frames_from n old (w 14) held → windows_of n new v kept ≡ windows_of n old w held
windows_same n old new w v held kept e = sym (first_windows n new v kept) ∙ ap (take n) e ∙ first_windows n old w held

-- The words of each frame above its saved window are the same in two memories.
abbrev pub SlotsSame : Words → Words → ℕ → List Window → Type 0
SlotsSame old new sp [] = Unit {0}
SlotsSame old new sp (w ∷ ws) = SameBetween (sp + 64) (w 14) old new × SlotsSame old new (w 14) ws

place_same : (old new : Words) (window : Window) (sp bytes : ℕ) (p : Place) → IsInside bytes p → SameBetween (sp + 64) (sp + bytes) old new → word_in_place new window sp p ≡ word_in_place old window sp p
place_same old new window sp bytes (Register r) inside same = refl
place_same old new window sp bytes (Slot offset) inside same = same (sp + offset) (omega (arith, inside.0)) (omega (arith, inside.1))
place_same old new window sp bytes (Constant word) inside same = refl

places_same : (old new : Words) (window : Window) (sp bytes : ℕ) (ps : List Place) → AreInside bytes ps → SameBetween (sp + 64) (sp + bytes) old new → map (word_in_place new window sp) ps ≡ map (word_in_place old window sp) ps
places_same old new window sp bytes [] inside same = refl
places_same old new window sp bytes (p ∷ ps) inside same =
    ap (λ w. w ∷ map (word_in_place new window sp) ps) (place_same old new window sp bytes p inside.0 same)
    ∙ ap (λ ws. word_in_place old window sp p ∷ ws) (places_same old new window sp bytes ps inside.1 same)

shown_same : (old new : Words) (window : Window) (sp bytes : ℕ) (d : Descriptor) → Fits bytes d → SameBetween (sp + 64) (sp + bytes) old new → shown new window sp d ≡ shown old window sp d
shown_same old new window sp bytes d fits same = λ i. record {
  body = d.body;
  next = d.node;
  receiver = place_same old new window sp bytes d.receiver fits.receiver same i;
  holder = place_same old new window sp bytes d.holder fits.holder same i;
  outer = place_same old new window sp bytes d.outer fits.outer same i;
  context = place_same old new window sp bytes d.context fits.context same i;
  mark = sp;
  locals = places_same old new window sp bytes d.locals fits.locals same i;
  pending = places_same old new window sp bytes d.pending fits.pending same i;
}

listed_same : (descs : ℕ → Descriptor) (asked : Asked) (entry end : ℕ) (old new : Words) (sp pc : ℕ) (ws : List Window) → Frames descs asked → LaidBy asked entry end sp pc ws → SlotsSame old new sp ws
    → shown_by descs new sp pc ws ≡ shown_by descs old sp pc ws
listed_same descs asked entry end old new sp pc [] all laid same = refl
listed_same descs asked entry end old new sp pc (w ∷ ws) all laid same =
    let f = all pc sp (w 14) laid.0 in
    let own : SameBetween (sp + 64) (sp + 4 * f.words) old new = λ b from to. same.0 b from (omega (arith, to, f.ends)) in
    ap (λ x. x ∷ shown_by descs new (w 14) (w 15 + 8) ws) (shown_same old new w sp (4 * f.words) (descs pc) f.fits own)
    ∙ ap (λ fs. shown old w sp (descs pc) ∷ fs) (listed_same descs asked entry end old new (w 14) (w 15 + 8) ws all laid.1 same.1)

-- Frames with the same windows show the same in two memories that have the same words above each saved window, and are laid in both.
pub same_frames : (descs : ℕ → Descriptor) (asked : Asked) (entry end : ℕ) (old new : Words) (n sp : ℕ) (w v : Window) (pc : ℕ) (held kept : List Window)
    → Frames descs asked → windows_of n new v kept ≡ windows_of n old w held → SlotsSame old new sp (windows_of n old w held) → AreLaid asked entry end old n sp w pc held
    → (activations descs new n sp v pc kept ≡ activations descs old n sp w pc held) × AreLaid asked entry end new n sp v pc kept
same_frames descs asked entry end old new n sp w v pc held kept all e same laid =
    let listed = laid_listed asked entry end old n sp w pc held laid in
    let P : List Window → Type 0 = LaidBy asked entry end sp pc in (
      as_listed descs new n sp v pc kept ∙ ap (shown_by descs new sp pc) e ∙ listed_same descs asked entry end old new sp pc (windows_of n old w held) all listed same ∙ sym (as_listed descs old n sp w pc held),
      listed_laid asked entry end new n sp v pc kept (subst P (sym e) listed),
    )

-- Where the frames begin.

abbrev begins : Window → ℕ
begins w = w 14

places_listed : (n : ℕ) (memory : Words) (w : Window) (held : List Window) → places_from n memory (w 14) held ≡ map begins (windows_of n memory w held)
unfolding places_from frames_from
places_listed zero memory w held = refl
places_listed (suc n) memory w [] = ap (λ ps. w 14 ∷ ps) (places_listed n memory (saved_at memory (w 14)) [] ∙ ap (map begins) (next_windows n memory (w 14) []))
places_listed (suc n) memory w (f ∷ held) = ap (λ ps. w 14 ∷ ps) (places_listed n memory f held ∙ ap (map begins) (next_windows n memory (w 14) (f ∷ held)))

one_stack : (sp words fp : ℕ) → sp % 0x02000000 + 4 * words ≤ 16781312 → fp ≡ sp + 4 * words → sp / 0x02000000 ≡ fp / 0x02000000
one_stack sp words fp room e = omega (arith, e)

frame_place : (sp words : ℕ) → HasFrame sp words → 16 ≤ words → IsPlace sp
frame_place sp words h room = (h.0, h.1, h.2, omega (arith, h.3, room))

inside_listed : (descs : ℕ → Descriptor) (asked : Asked) (entry end sp pc : ℕ) (ws : List Window) → Frames descs asked → IsPlace entry → LaidBy asked entry end sp pc ws → All (IsIn entry) (sp ∷ map begins ws)
inside_listed descs asked entry end sp pc [] all place laid =
    let P : ℕ → Type 0 = IsIn entry in
    All-cons (IsIn entry) sp [] (subst P (sym laid.0) (place, refl)) (All-nil (IsIn entry))
inside_listed descs asked entry end sp pc (w ∷ ws) all place laid =
    let f = all pc sp (w 14) laid.0 in
    let more = inside_listed descs asked entry end (w 14) (w 15 + 8) ws all place laid.1 in
    All-cons (IsIn entry) sp (w 14 ∷ map begins ws) (frame_place sp f.words f.place f.room, one_stack sp f.words (w 14) f.place.3 f.ends ∙ (All-head (IsIn entry) (w 14) (map begins ws) more).1) more

pub first_inside : (descs : ℕ → Descriptor) (asked : Asked) (entry end sp pc : ℕ) (ws : List Window) → Frames descs asked → IsPlace entry → LaidBy asked entry end sp pc ws → IsIn entry sp
first_inside descs asked entry end sp pc ws all place laid = All-head (IsIn entry) sp (map begins ws) (inside_listed descs asked entry end sp pc ws all place laid)

rises_listed : (descs : ℕ → Descriptor) (asked : Asked) (entry end sp pc : ℕ) (ws : List Window) → Frames descs asked → LaidBy asked entry end sp pc ws → Rises sp (map begins ws)
unfolding Rises
rises_listed descs asked entry end sp pc [] all laid = tt
rises_listed descs asked entry end sp pc (w ∷ ws) all laid =
    let f = all pc sp (w 14) laid.0 in
    (omega (arith, f.ends, f.room), rises_listed descs asked entry end (w 14) (w 15 + 8) ws all laid.1)

ends_listed : (asked : Asked) (entry end sp pc : ℕ) (ws : List Window) → LaidBy asked entry end sp pc ws → last_of sp (map begins ws) ≡ entry
unfolding last_of
ends_listed asked entry end sp pc [] laid = laid.0
ends_listed asked entry end sp pc (w ∷ ws) laid = ends_listed asked entry end (w 14) (w 15 + 8) ws laid.1

-- A stack whose frames are laid is sound, with as many older frames as there are laid: the last of them is that of entry.
pub stack_of : (descs : ℕ → Descriptor) (asked : Asked) (entry end n pc : ℕ) (s : Stack) → Frames descs asked → IsPlace entry → AreLaid asked entry end s.memory n (s.regs 14) (kept s.regs) pc s.held → IsStack entry n s
stack_of descs asked entry end n pc s all place laid =
    let ws = windows_of n s.memory (kept s.regs) s.held in
    let listed = laid_listed asked entry end s.memory n (s.regs 14) (kept s.regs) pc s.held laid in
    let e : places n s ≡ map begins ws = places_listed n s.memory (kept s.regs) s.held in
    let I : List ℕ → Type 0 = λ ps. All (IsIn entry) (s.regs 14 ∷ ps) in
    let R : List ℕ → Type 0 = Rises (s.regs 14) in
    record {
      inside = subst I (sym e) (inside_listed descs asked entry end (s.regs 14) pc ws all place listed);
      rises = subst R (sym e) (rises_listed descs asked entry end (s.regs 14) pc ws all listed);
      ends = ap (last_of (s.regs 14)) e ∙ ends_listed asked entry end (s.regs 14) pc ws listed;
    }

-- What lies in no slot.

-- a saved window at p lies in none of the words of these frames above their own saved windows
abbrev pub Clear : ℕ → ℕ → List Window → Type 0
Clear p sp [] = Unit {0}
Clear p sp (w ∷ ws) = ((p ≤ sp) ⊎ (w 14 ≤ p)) × Clear p (w 14) ws

clear_below : (descs : ℕ → Descriptor) (asked : Asked) (entry end p sp pc : ℕ) (ws : List Window) → Frames descs asked → LaidBy asked entry end sp pc ws → p ≤ sp → Clear p sp ws
clear_below descs asked entry end p sp pc [] all laid h = tt
clear_below descs asked entry end p sp pc (w ∷ ws) all laid h = (inl h, clear_below descs asked entry end p (w 14) (w 15 + 8) ws all laid.1 (omega (arith, h, (all pc sp (w 14) laid.0).ends)))

-- it begins there or above, and lies in none
abbrev ClearAbove : ℕ → ℕ → List Window → ℕ → Type 0
ClearAbove from sp ws p = (from ≤ p) × Clear p sp ws

none : (P : ℕ → Type 0) (w : Window) (held : List Window) → length held ≤ 0 → All P (held_places (w 14) held)
unfolding held_places
none P w [] h = All-nil P
none P w (f ∷ held) h = absurd (omega (arith, h))

held_clear : (descs : ℕ → Descriptor) (asked : Asked) (entry end n : ℕ) (memory : Words) (sp pc : ℕ) (w : Window) (held : List Window) → Frames descs asked → length held ≤ suc n
    → LaidBy asked entry end sp pc (w ∷ frames_from n memory (w 14) held) → All (ClearAbove (w 14) sp (w ∷ frames_from n memory (w 14) held)) (held_places (w 14) held)
unfolding held_places frames_from
held_clear descs asked entry end n memory sp pc w [] all few laid = All-nil (ClearAbove (w 14) sp (w ∷ frames_from n memory (w 14) []))
held_clear descs asked entry end zero memory sp pc w (f ∷ held) all few laid =
    All-cons (ClearAbove (w 14) sp (w ∷ [])) (w 14) (held_places (f 14) held) (omega arith, (inr (omega arith), tt)) (none (ClearAbove (w 14) sp (w ∷ [])) f held (omega (arith, few)))
held_clear descs asked entry end (suc n) memory sp pc w (f ∷ held) all few laid =
    let ws = f ∷ frames_from n memory (f 14) held in
    let here : Clear (w 14) (w 14) ws = clear_below descs asked entry end (w 14) (w 14) (w 15 + 8) ws all laid.1 (omega arith) in
    let up = (all (w 15 + 8) (w 14) (f 14) laid.1.0).ends in
    let more = held_clear descs asked entry end n memory (w 14) (w 15 + 8) f held all (omega (arith, few)) laid.1 in
    All-cons (ClearAbove (w 14) sp (w ∷ ws)) (w 14) (held_places (f 14) held) (omega arith, (inr (omega arith), here))
    (λ k d lt. let m = more k d lt in let low : w 14 ≤ get_or (held_places (f 14) held) k d = omega (arith, up, m.0) in (low, (inr low, m.1)))

-- so many bytes, one at each of these, are apart from these saved windows
slots_stay : (old new : Words) (ps : List ℕ) (sp : ℕ) (ws : List Window) → ((b : ℕ) → All (IsApart b 1) ps → word_at new b ≡ word_at old b) → All (λ p. Clear p sp ws) ps → SlotsSame old new sp ws
slots_stay old new ps sp [] same clear = tt
slots_stay old new ps sp (w ∷ ws) same clear = (
  λ b from to. same b (λ k d lt. elim ((clear k d lt).0) [
    | inl low ↦ inr (omega (arith, low, from))
    | inr high ↦ inl (omega (arith, high, to))
  ]),
  slots_stay old new ps (w 14) ws same (λ k d lt. (clear k d lt).1),
)

-- A memory that differs only in the saved windows of the frame in view and of those that are held has the same words above the saved window
-- of each frame.
pub spared_slots : (descs : ℕ → Descriptor) (asked : Asked) (entry end n : ℕ) (old new : Words) (sp pc : ℕ) (w : Window) (held : List Window) → Frames descs asked → length held ≤ n
    → ((b : ℕ) → All (IsApart b 1) (sp ∷ held_places (w 14) held) → word_at new b ≡ word_at old b) → AreLaid asked entry end old n sp w pc held → SlotsSame old new sp (windows_of n old w held)
spared_slots descs asked entry end zero old new sp pc w held all few same laid = tt
spared_slots descs asked entry end (suc n) old new sp pc w held all few same laid =
    let ws = w ∷ frames_from n old (w 14) held in
    let listed = laid_listed asked entry end old (suc n) sp w pc held laid in
    let older = held_clear descs asked entry end n old sp pc w held all few listed in
    let C : ℕ → Type 0 = λ p. Clear p sp ws in
    slots_stay old new (sp ∷ held_places (w 14) held) sp ws same
    (All-cons C sp (held_places (w 14) held) (clear_below descs asked entry end sp sp pc ws all listed (omega arith)) (λ k d lt. (older k d lt).1))
