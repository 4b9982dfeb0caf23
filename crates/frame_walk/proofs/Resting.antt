-- What frames show rests on the words of their stack.
use Rattle.std.proofs.Common.{◌≡◌, ℕ, zero, suc, ◌+◌, ◌*◌, ◌%◌, ◌<◌, ◌≤◌, refl, ◌∙◌, ap, sym, subst, arith}
use Rattle.std.specs.Prelude.{List, [], ◌∷◌, map, nat_lt, Bool, true, false, if◌then◌else◌}
use Rattle.sparc_store.specs.Words.{Words, word_at, HasFrame}
use Rattle.sparc_store.specs.Windows.{Frame as Window, frame_before, but_first, saved_at}
use Rattle.frame_walk.specs.Places.{Place, Register, Slot, Constant, Descriptor, Frame, shown, word_in_place}
use Rattle.frame_walk.specs.Walk.{activations, IsInside, AreInside, Fits, IsFrameOf, Asked, AreLaid, Frames, SameBetween}

place_same : (old new : Words) (window : Window) (sp bytes : ℕ) (p : Place) → IsInside bytes p → SameBetween sp (sp + bytes) old new → word_in_place new window sp p ≡ word_in_place old window sp p
place_same old new window sp bytes (Register r) inside same = refl
place_same old new window sp bytes (Slot offset) inside same = same (sp + offset) (omega arith) (omega (arith, inside.1))
place_same old new window sp bytes (Constant word) inside same = refl

places_same : (old new : Words) (window : Window) (sp bytes : ℕ) (ps : List Place) → AreInside bytes ps → SameBetween sp (sp + bytes) old new → map (word_in_place new window sp) ps ≡ map (word_in_place old window sp) ps
places_same old new window sp bytes [] inside same = refl
places_same old new window sp bytes (p ∷ ps) inside same =
    ap (λ w. w ∷ map (word_in_place new window sp) ps) (place_same old new window sp bytes p inside.0 same)
    ∙ ap (λ ws. word_in_place old window sp p ∷ ws) (places_same old new window sp bytes ps inside.1 same)

pub shown_same : (old new : Words) (window : Window) (sp bytes : ℕ) (d : Descriptor) → Fits bytes d → SameBetween sp (sp + bytes) old new → shown new window sp d ≡ shown old window sp d
shown_same old new window sp bytes d fits same = λ i. record {
  body = d.body;
  next = d.node;
  receiver = place_same old new window sp bytes d.receiver fits.receiver same i;
  holder = place_same old new window sp bytes d.holder fits.holder same i;
  outer = place_same old new window sp bytes d.outer fits.outer same i;
  context = place_same old new window sp bytes d.context fits.context same i;
  mark = sp;
  locals = places_same old new window sp bytes d.locals fits.locals same i;
  pending = places_same old new window sp bytes d.pending fits.pending same i;
}

saved_number : (old new : Words) (at k : ℕ) (b : Bool) → (b ≡ true → word_at new (at + 4 * k) ≡ word_at old (at + 4 * k)) → (if b then word_at new (at + 4 * k) else 0) ≡ (if b then word_at old (at + 4 * k) else 0)
saved_number old new at k true h = h refl
saved_number old new at k false h = refl

lower : (k : ℕ) → nat_lt k 16 ≡ true → k < 16
lower k h = grind arith

pub saved_same : (old new : Words) (at : ℕ) → SameBetween at (at + 64) old new → saved_at new at ≡ saved_at old at
unfolding saved_at
saved_same old new at same = λ i k. saved_number old new at k (nat_lt k 16) (λ h. let l = lower k h in same (at + 4 * k) (omega arith) (omega arith)) i

pub before_same : (old new : Words) (at : ℕ) (held : List Window) → SameBetween at (at + 64) old new → frame_before new at held ≡ frame_before old at held
before_same old new at [] same = saved_same old new at same
before_same old new at (f ∷ held) same = refl

-- frames end below the frame of entry
pub ends_below : (descs : ℕ → Descriptor) (asked : Asked) (entry end : ℕ) (memory : Words) (n sp : ℕ) (window : Window) (pc : ℕ) (held : List Window) → Frames descs asked → AreLaid asked entry end memory n sp window pc held → sp ≤ entry
unfolding AreLaid
ends_below descs asked entry end memory zero sp window pc held all laid = omega (arith, laid.0)
ends_below descs asked entry end memory (suc n) sp window pc held all laid =
    let more = ends_below descs asked entry end memory n (window 14) (frame_before memory (window 14) held) (window 15 + 8) (but_first held) all laid.1 in
    omega (arith, more, (all pc sp (window 14) laid.0).ends)

-- they show the same over another memory that has the words from where the youngest begins up to the end of the saved words of the frame of
-- entry, and are laid there
pub rests : (descs : ℕ → Descriptor) (asked : Asked) (entry end : ℕ) (old new : Words) (n sp : ℕ) (window : Window) (pc : ℕ) (held : List Window)
    → Frames descs asked → AreLaid asked entry end old n sp window pc held → SameBetween sp (entry + 64) old new
    → (activations descs new n sp window pc held ≡ activations descs old n sp window pc held) × AreLaid asked entry end new n sp window pc held
unfolding activations AreLaid
rests descs asked entry end old new zero sp window pc held all laid same = (refl, laid)
rests descs asked entry end old new (suc n) sp window pc held all laid same =
    let f = all pc sp (window 14) laid.0 in
    let fp = window 14 in
    let top = ends_below descs asked entry end old n fp (frame_before old fp held) (window 15 + 8) (but_first held) all laid.1 in
    let own : SameBetween sp (sp + 4 * f.words) old new = λ b from to. same b from (omega (arith, f.ends, top)) in
    let above : SameBetween fp (entry + 64) old new = λ b from to. same b (omega (arith, f.ends)) to in
    let saved = before_same old new fp held (λ b from to. same b (omega (arith, f.ends)) (omega (arith, top))) in
    let rest = rests descs asked entry end old new n fp (frame_before old fp held) (window 15 + 8) (but_first held) all laid.1 above in
    let P : Window → Type 0 = λ w. AreLaid asked entry end new n fp w (window 15 + 8) (but_first held) in (
      ap (λ x. x ∷ activations descs new n fp (frame_before new fp held) (window 15 + 8) (but_first held)) (shown_same old new window sp (4 * f.words) (descs pc) f.fits own)
          ∙ ap (λ w. shown old window sp (descs pc) ∷ activations descs new n fp w (window 15 + 8) (but_first held)) saved
          ∙ ap (λ fs. shown old window sp (descs pc) ∷ fs) rest.0,
      (laid.0, subst P (sym saved) rest.1),
    )

-- what is asked of each frame may be less
pub laid_as : (asked other : Asked) (entry end : ℕ) (memory : Words) (n sp : ℕ) (window : Window) (pc : ℕ) (held : List Window)
    → ((pc sp fp : ℕ) → asked pc sp fp → other pc sp fp) → AreLaid asked entry end memory n sp window pc held → AreLaid other entry end memory n sp window pc held
unfolding AreLaid
laid_as asked other entry end memory zero sp window pc held h laid = laid
laid_as asked other entry end memory (suc n) sp window pc held h laid =
    (h pc sp (window 14) laid.0, laid_as asked other entry end memory n (window 14) (frame_before memory (window 14) held) (window 15 + 8) (but_first held) h laid.1)

-- descriptors that agree wherever frames go on show the same
pub shown_as : (descs others : ℕ → Descriptor) (asked : Asked) (entry end : ℕ) (memory : Words) (n sp : ℕ) (window : Window) (pc : ℕ) (held : List Window)
    → ((pc sp fp : ℕ) → asked pc sp fp → others pc ≡ descs pc) → AreLaid asked entry end memory n sp window pc held
    → activations others memory n sp window pc held ≡ activations descs memory n sp window pc held
unfolding activations AreLaid
shown_as descs others asked entry end memory zero sp window pc held h laid = refl
shown_as descs others asked entry end memory (suc n) sp window pc held h laid =
    let fp = window 14 in
    ap (λ d. shown memory window sp d ∷ activations others memory n fp (frame_before memory fp held) (window 15 + 8) (but_first held)) (h pc sp fp laid.0)
    ∙ ap (λ fs. shown memory window sp (descs pc) ∷ fs) (shown_as descs others asked entry end memory n fp (frame_before memory fp held) (window 15 + 8) (but_first held) h laid.1)
