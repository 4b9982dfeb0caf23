-- What writes and moves of the frame in view do to the registers and the older frames that are held.
use Rattle.std.proofs.Common.{Bool, true, false, ◌&&◌, nat_eq, ◌^◌, ◌≡◌, ◌≢◌, ◌⊎◌, inl, inr, ℕ, zero, suc, ◌+◌, ◌-◌, ◌*◌, ◌%◌, ◌<◌, ◌≤◌, List, [], ◌∷◌, length, take, drop, refl, sym, ◌∙◌, ap, arith, slice_index, slice_set, get_or, get_or-set_other}
use Rattle.std.proofs.Math.Path.{fun_ext}
use Rattle.std.proofs.lemmas.Bool.{cases_lt}
use Rattle.std.proofs.lemmas.Grind.{common_steps, get_or_default_zero}
use Rattle.std.proofs.lemmas.List.{ext_get_or, get_or-drop, get_or-take}
use Rattle.sparc_store.specs.Words.{Words, word_at, with_frame}
use Rattle.sparc_store.specs.Windows.{AreWords, Frame, Stack, with_reg, entered, kept, gone_back, words_of, saved_at, oldest, oldest_at, but_oldest, spilled, restored, saved, roomed, is_full, but_spilled, view_saved, all_spilled, held_places, IsPlace, taken_up, resumed}
use Rattle.sparc_store.specs.Ring.{Ring, place_of, regs_of, before, frame_at, frames_before, older_of, stack, IsRing, Begun, Filled}
use Rattle.sparc_store.proofs.Chains.{word_of_frame}
use Rattle.sparc_store.specs.Chain.{IsFrame}
use Rattle.std.proofs.lemmas.List.Elements.{All-nil, All-cons}
use Rattle.sparc_store.proofs.Flat.{oldest_place, other_places}
use Rattle.std.specs.Prelude.{All, if◌then◌else◌}

pub length-frames_before : (words : List ℕ) (d n : ℕ) → length (frames_before words d n) ≡ n
unfolding frames_before
length-frames_before words d zero = refl
length-frames_before words d (suc n) = ap suc (length-frames_before words (before d) n)

pub length-older_of : (r : Ring) → length (older_of r) ≡ r.held
unfolding older_of
length-older_of r = length-frames_before r.words r.current r.held

frame_same : (ws vs : List ℕ) (d k : ℕ) → ((k : ℕ) → k < 16 → get_or vs (16 * d + k) 0 ≡ get_or ws (16 * d + k) 0) → frame_at vs d k ≡ frame_at ws d k
unfolding frame_at
frame_same ws vs d k h = grind (arith, h k)

-- the frames before a window are those of any list that is the same in their windows
pub frames_same : (ws vs : List ℕ) (d n : ℕ) → d < 8 → ((j k : ℕ) → j < n → k < 16 → get_or vs (16 * ((d + 7 * (j + 1)) % 8) + k) 0 ≡ get_or ws (16 * ((d + 7 * (j + 1)) % 8) + k) 0)
    → frames_before vs d n ≡ frames_before ws d n
unfolding frames_before
frames_same ws vs d zero within h = refl
frames_same ws vs d (suc n) within h =
    let first : (d + 7 * (0 + 1)) % 8 ≡ before d = omega arith in
    let here : (k : ℕ) → k < 16 → get_or vs (16 * before d + k) 0 ≡ get_or ws (16 * before d + k) 0 = λ k lt. rw (← first) (h 0 k (omega arith) lt) in
    let on : (j k : ℕ) → j < n → k < 16 → get_or vs (16 * ((before d + 7 * (j + 1)) % 8) + k) 0 ≡ get_or ws (16 * ((before d + 7 * (j + 1)) % 8) + k) 0 =
    λ j k less lt. let e : (before d + 7 * (j + 1)) % 8 ≡ (d + 7 * (j + 1 + 1)) % 8 = omega arith in rw e (h (j + 1) k (omega (arith, less)) lt) in
    rw (frames_same ws vs (before d) n (omega arith) on)
    (ap (λ (f : Frame). f ∷ frames_before ws (before d) n) (fun_ext (λ k. frame_same ws vs (before d) k here)))

pub set_global : (r : Ring) (reg w : ℕ) → IsRing r → reg ≢ 0 → reg < 8 → regs_of (record r { globals = slice_set r.globals reg w }) ≡ with_reg (regs_of r) reg w
unfolding regs_of
set_global r reg w whole nonzero low = fun_ext (λ k. grind (arith, common_steps))

one_word : (c a b : ℕ) → c < 8 → a < 32 → b < 32 → (16 * c + a) % 128 ≡ (16 * c + b) % 128 → a ≡ b
one_word c a b h ha hb e = omega (arith, e)

pub place_within : (k : ℕ) → 8 ≤ k → k < 32 → place_of k < 32
place_within k h l = grind arith

place_one : (a b : ℕ) → 8 ≤ a → a < 32 → 8 ≤ b → b < 32 → place_of a ≡ place_of b → a ≡ b
place_one a b ha la hb lb e = grind (arith, e)

pub set_windowed : (r : Ring) (reg w : ℕ) → IsRing r → 8 ≤ reg → reg < 32
    → regs_of (record r { words = slice_set r.words ((16 * r.current + place_of reg) % 128) w }) ≡ with_reg (regs_of r) reg w
unfolding regs_of
set_windowed r reg w whole high within =
    fun_ext (λ k. grind (arith, common_steps, whole.words_len, one_word r.current (place_of k) (place_of reg) whole.current_within, place_within k, place_within reg, place_one k reg))

-- a word of the window in view, or of its outs, is none of an older frame's
apart : (c n j k p : ℕ) → c < 8 → n ≤ 6 → j < n → k < 16 → p < 32 → 16 * ((c + 7 * (j + 1)) % 8) + k ≢ (16 * c + p) % 128
apart c n j k p hc hn hj hk hp = λ e. absurd (omega (arith, e))

pub older_stay : (r : Ring) (p w : ℕ) → IsRing r → p < 32 → older_of (record r { words = slice_set r.words ((16 * r.current + p) % 128) w }) ≡ older_of r
unfolding older_of
older_stay r p w whole within =
    frames_same r.words (slice_set r.words ((16 * r.current + p) % 128) w) r.current r.held whole.current_within
    (λ j k less lt. get_or-set_other r.words ((16 * r.current + p) % 128) (16 * ((r.current + 7 * (j + 1)) % 8) + k) w 0
    (apart r.current r.held j k p whole.current_within whole.held_within less lt within))

pub got_global : (r : Ring) (reg : ℕ) → reg < 8 → slice_index r.globals reg ≡ regs_of r reg
unfolding regs_of
got_global r reg low = grind arith

pub got_windowed : (r : Ring) (reg d : ℕ) → IsRing r → 8 ≤ reg → reg < 32 → get_or r.words ((16 * r.current + place_of reg) % 128) d ≡ regs_of r reg
unfolding regs_of
got_windowed r reg d whole high within =
    let there : (16 * r.current + place_of reg) % 128 < length r.words = omega (arith, whole.words_len) in
    get_or_default_zero r.words ((16 * r.current + place_of reg) % 128) d there ∙ (grind arith)

pub zero_reads_zero : (r : Ring) → IsRing r → regs_of r 0 ≡ 0
unfolding regs_of
zero_reads_zero r whole = whole.zeroed

pub regs_words : (r : Ring) → ((k : ℕ) → slice_index r.globals k < 2 ^ 32) → ((k : ℕ) → slice_index r.words k < 2 ^ 32) → (k : ℕ) → regs_of r k < 2 ^ 32
unfolding regs_of
regs_words r low high k = grind (arith, low k, high ((16 * r.current + place_of k) % 128))

-- a window one further on
abbrev next : ℕ → ℕ
next c = (c + 1) % 8

reg_out : (r : Ring) (j : ℕ) → j < 8 → regs_of r (8 + j) ≡ get_or r.words ((16 * r.current + (24 + j)) % 128) 0
unfolding regs_of
reg_out r j h = let e : 8 + j + 16 ≡ 24 + j = omega arith in grind (arith, e)

reg_own : (r : Ring) (j : ℕ) → j < 16 → regs_of r (16 + j) ≡ get_or r.words ((16 * r.current + j) % 128) 0
unfolding regs_of
reg_own r j h = let e : 16 + j - 16 ≡ j = omega arith in grind (arith, e)

-- a register is global, an out, a local, an in, or none
data Kind (k : ℕ) : Type 0 where
  Global : k < 8 → Kind k
  Out : (j : ℕ) → j < 8 → k ≡ 8 + j → Kind k
  Local : (j : ℕ) → j < 8 → k ≡ 16 + j → Kind k
  In : (j : ℕ) → j < 8 → k ≡ 24 + j → Kind k
  None : 32 ≤ k → Kind k

kind_of : (k : ℕ) → Kind k
kind_of k =
    elim (cases_lt k 8) [
      | inl h ↦ Global h
      | inr h ↦ elim (cases_lt k 16) [
        | inl g ↦ Out (k - 8) (omega (arith, h, g)) (omega (arith, h))
        | inr g ↦ elim (cases_lt k 24) [
          | inl f ↦ Local (k - 16) (omega (arith, g, f)) (omega (arith, g))
          | inr f ↦ elim (cases_lt k 32) [
            | inl e ↦ In (k - 24) (omega (arith, f, e)) (omega (arith, f))
            | inr e ↦ None e
          ]
        ]
      ]
    ]

same_reg : (f g : ℕ → ℕ) (k : ℕ) → ((i : ℕ) → i < 8 → f i ≡ g i) → ((j : ℕ) → j < 8 → f (8 + j) ≡ g (8 + j)) → ((j : ℕ) → j < 8 → f (16 + j) ≡ g (16 + j))
    → ((j : ℕ) → j < 8 → f (24 + j) ≡ g (24 + j)) → ((i : ℕ) → 32 ≤ i → f i ≡ g i) → Kind k → f k ≡ g k
same_reg f g k globals outs locals ins rest (Global h) = globals k h
same_reg f g k globals outs locals ins rest (Out j h e) = rw e (outs j h)
same_reg f g k globals outs locals ins rest (Local j h e) = rw e (locals j h)
same_reg f g k globals outs locals ins rest (In j h e) = rw e (ins j h)
same_reg f g k globals outs locals ins rest (None h) = rest k h

same_regs : (f g : ℕ → ℕ) → ((i : ℕ) → i < 8 → f i ≡ g i) → ((j : ℕ) → j < 8 → f (8 + j) ≡ g (8 + j)) → ((j : ℕ) → j < 8 → f (16 + j) ≡ g (16 + j))
    → ((j : ℕ) → j < 8 → f (24 + j) ≡ g (24 + j)) → ((i : ℕ) → 32 ≤ i → f i ≡ g i) → f ≡ g
same_regs f g globals outs locals ins rest = fun_ext (λ k. same_reg f g k globals outs locals ins rest (kind_of k))

reg_low : (r s : Ring) (k : ℕ) → r.globals ≡ s.globals → k < 8 → regs_of r k ≡ regs_of s k
unfolding regs_of
reg_low r s k e h = grind (arith, e)

reg_none : (r : Ring) (k : ℕ) → 32 ≤ k → regs_of r k ≡ 0
unfolding regs_of
reg_none r k h = grind arith

reg_in : (r : Ring) (j : ℕ) → j < 8 → regs_of r (24 + j) ≡ get_or r.words ((16 * r.current + (8 + j)) % 128) 0
reg_in r j h = let e : 24 + j ≡ 16 + (8 + j) = omega arith in rw e (reg_own r (8 + j) (omega (arith, h)))

entered_none : (regs : ℕ → ℕ) (j : ℕ) → j < 16 → entered regs (8 + j) ≡ 0
entered_none regs j h = grind (arith, h)

entered_in : (regs : ℕ → ℕ) (j : ℕ) → j < 8 → entered regs (24 + j) ≡ regs (8 + j)
entered_in regs j h = let e : 24 + j - 16 ≡ 8 + j = omega arith in grind (arith, e)

-- behind the locals of a window, in it, no word is an out of it
behind : (c j : ℕ) → c < 8 → j < 8 → (16 * next c + (8 + j) < 16 * next (next c) + 8) ⊎ (16 * next (next c) + 16 ≤ 16 * next c + (8 + j))
behind c j h l = elim (cases_lt (next c) (next (next c))) [
  | inl less ↦ inl (omega (arith, less, l))
  | inr more ↦ inr (omega (arith, more, h))
]

pub entered_regs : (r : Ring) (ws : List ℕ) (n : ℕ) → IsRing r → Begun r.words ws (next r.current) (next (next r.current))
    → regs_of (record { globals = r.globals; words = ws; current = next r.current; held = n }) ≡ entered (regs_of r)
entered_regs r ws n whole begun =
    let to : Ring = record { globals = r.globals; words = ws; current = next r.current; held = n } in
    same_regs (regs_of to) (entered (regs_of r))
    (λ i h. reg_low to r i refl h ∙ (grind (arith, h)))
    (λ j h.
    let e : (16 * next r.current + (24 + j)) % 128 ≡ 16 * next (next r.current) + 8 + j = omega (arith, whole.current_within, h) in
    reg_out to j h ∙ ap (λ i. get_or ws i 0) e ∙ begun.outs j h ∙ sym (entered_none (regs_of r) j (omega (arith, h))))
    (λ j h.
    let e : (16 * next r.current + j) % 128 ≡ 16 * next r.current + j = omega (arith, whole.current_within, h) in
    let f : 16 + j ≡ 8 + (8 + j) = omega arith in
    reg_own to j (omega (arith, h)) ∙ ap (λ i. get_or ws i 0) e ∙ begun.locals j h ∙ sym (ap (entered (regs_of r)) f ∙ entered_none (regs_of r) (8 + j) (omega (arith, h))))
    (λ j h.
    let e : (16 * next r.current + (8 + j)) % 128 ≡ 16 * next r.current + (8 + j) = omega (arith, whole.current_within, h) in
    let f : (16 * r.current + (24 + j)) % 128 ≡ 16 * next r.current + (8 + j) = omega (arith, whole.current_within, h) in
    reg_in to j h ∙ ap (λ i. get_or ws i 0) e ∙ begun.others (16 * next r.current + (8 + j)) (inr (omega arith)) (behind r.current j whole.current_within h)
    ∙ sym (entered_in (regs_of r) j h ∙ reg_out r j h ∙ ap (λ i. get_or r.words i 0) f))
    (λ i h. reg_none to i h ∙ (grind (arith, h)))

kept_low : (regs : ℕ → ℕ) (k : ℕ) → k < 16 → kept regs k ≡ regs (16 + k)
kept_low regs k h = let e : k + 16 ≡ 16 + k = omega arith in grind (arith, e)

kept_none : (regs : ℕ → ℕ) (k : ℕ) → 16 ≤ k → kept regs k ≡ 0
kept_none regs k h = grind (arith, h)

frame_low : (words : List ℕ) (d k : ℕ) → k < 16 → frame_at words d k ≡ get_or words (16 * d + k) 0
unfolding frame_at
frame_low words d k h = grind (arith, h)

frame_none : (words : List ℕ) (d k : ℕ) → 16 ≤ k → frame_at words d k ≡ 0
unfolding frame_at
frame_none words d k h = grind (arith, h)

same_frame : (f g : Frame) → ((k : ℕ) → k < 16 → f k ≡ g k) → ((k : ℕ) → 16 ≤ k → f k ≡ g k) → f ≡ g
same_frame f g low none = fun_ext (λ k. elim (cases_lt k 16) [
  | inl h ↦ low k h
  | inr h ↦ none k h
])

-- the words of an older window, or of the one that is left, are as they were
untouched : (r : Ring) (ws : List ℕ) (j k : ℕ) → IsRing r → r.held < 6 → Begun r.words ws (next r.current) (next (next r.current)) → j ≤ r.held → k < 16
    → get_or ws (16 * ((r.current + 7 * j) % 8) + k) 0 ≡ get_or r.words (16 * ((r.current + 7 * j) % 8) + k) 0
untouched r ws j k whole few begun less lt =
    let d = (r.current + 7 * j) % 8 in
    let n : d ≢ next r.current = λ e. absurd (omega (arith, e, whole.current_within, few, less)) in
    let m : d ≢ next (next r.current) = λ e. absurd (omega (arith, e, whole.current_within, few, less)) in
    begun.others (16 * d + k) (elim (cases_lt d (next r.current)) [
      | inl h ↦ inl (omega (arith, h, lt))
      | inr h ↦ inr (omega (arith, h, n))
    ]) (elim (cases_lt d (next (next r.current))) [
      | inl h ↦ inl (omega (arith, h, lt))
      | inr h ↦ inr (omega (arith, h, m))
    ])

-- the frame of the window in view
view_frame : (r : Ring) (ws : List ℕ) → IsRing r → ((k : ℕ) → k < 16 → get_or ws (16 * r.current + k) 0 ≡ get_or r.words (16 * r.current + k) 0) → frame_at ws r.current ≡ kept (regs_of r)
view_frame r ws whole same =
    same_frame (frame_at ws r.current) (kept (regs_of r))
    (λ k h.
    let e : (16 * r.current + k) % 128 ≡ 16 * r.current + k = omega (arith, whole.current_within, h) in
    frame_low ws r.current k h ∙ same k h ∙ sym (kept_low (regs_of r) k h ∙ reg_own r k h ∙ ap (λ i. get_or r.words i 0) e))
    (λ k h. frame_none ws r.current k h ∙ sym (kept_none (regs_of r) k h))

pub entered_older : (r : Ring) (ws : List ℕ) → IsRing r → r.held < 6 → Begun r.words ws (next r.current) (next (next r.current))
    → older_of (record { globals = r.globals; words = ws; current = next r.current; held = r.held + 1 }) ≡ kept (regs_of r) ∷ older_of r
unfolding older_of frames_before
entered_older r ws whole few begun =
    let one : r.held + 1 ≡ suc r.held = omega arith in
    let back : before (next r.current) ≡ r.current = omega (arith, whole.current_within) in
    let here : (r.current + 7 * 0) % 8 ≡ r.current = omega (arith, whole.current_within) in
    let first : frame_at ws r.current ≡ kept (regs_of r) =
    view_frame r ws whole (λ k h. rw here at (untouched r ws 0 k whole few begun (omega arith) h)) in
    rw (one, back) (rw first (ap (λ fs. kept (regs_of r) ∷ fs)
    (frames_same r.words ws r.current r.held whole.current_within (λ j k less lt. untouched r ws (j + 1) k whole few begun (omega (arith, less)) lt))))

gone_low : (regs : ℕ → ℕ) (f : Frame) (k : ℕ) → k < 8 → gone_back regs f k ≡ regs k
gone_low regs f k h = grind (arith, h)

gone_out : (regs : ℕ → ℕ) (f : Frame) (j : ℕ) → j < 8 → gone_back regs f (8 + j) ≡ regs (24 + j)
gone_out regs f j h = let e : 8 + j + 16 ≡ 24 + j = omega arith in grind (arith, e)

gone_own : (regs : ℕ → ℕ) (f : Frame) (j : ℕ) → j < 16 → gone_back regs f (16 + j) ≡ f j
gone_own regs f j h = let e : 16 + j - 16 ≡ j = omega arith in grind (arith, e)

gone_none : (regs : ℕ → ℕ) (f : Frame) (k : ℕ) → 32 ≤ k → gone_back regs f k ≡ 0
gone_none regs f k h = grind (arith, h)

-- the registers one window back, where its words are these and those of the window in view are as they were
pub gone_regs : (r : Ring) (ws : List ℕ) (n : ℕ) (f : Frame) → IsRing r → ((k : ℕ) → k < 16 → get_or ws (16 * before r.current + k) 0 ≡ f k)
    → ((k : ℕ) → k < 16 → get_or ws (16 * r.current + k) 0 ≡ get_or r.words (16 * r.current + k) 0)
    → regs_of (record { globals = r.globals; words = ws; current = before r.current; held = n }) ≡ gone_back (regs_of r) f
gone_regs r ws n f whole own view =
    let to : Ring = record { globals = r.globals; words = ws; current = before r.current; held = n } in
    let fill : (j : ℕ) → j < 16 → regs_of to (16 + j) ≡ gone_back (regs_of r) f (16 + j) = λ j h.
    let e : (16 * before r.current + j) % 128 ≡ 16 * before r.current + j = omega (arith, whole.current_within, h) in
    reg_own to j h ∙ ap (λ i. get_or ws i 0) e ∙ own j h ∙ sym (gone_own (regs_of r) f j h) in
    same_regs (regs_of to) (gone_back (regs_of r) f)
    (λ i h. reg_low to r i refl h ∙ sym (gone_low (regs_of r) f i h))
    (λ j h.
    let e : (16 * before r.current + (24 + j)) % 128 ≡ 16 * r.current + (8 + j) = omega (arith, whole.current_within, h) in
    let g : (16 * r.current + (8 + j)) % 128 ≡ 16 * r.current + (8 + j) = omega (arith, whole.current_within, h) in
    reg_out to j h ∙ ap (λ i. get_or ws i 0) e ∙ view (8 + j) (omega (arith, h)) ∙ sym (gone_out (regs_of r) f j h ∙ reg_in r j h ∙ ap (λ i. get_or r.words i 0) g))
    (λ j h. fill j (omega (arith, h)))
    (λ j h. let e : 24 + j ≡ 16 + (8 + j) = omega arith in rw e (fill (8 + j) (omega (arith, h))))
    (λ i h. reg_none to i h ∙ sym (gone_none (regs_of r) f i h))

-- register 30 of a window is register 14 of the one before
naming : List ℕ → ℕ → ℕ
naming words d = get_or words (16 * d + 14) 0

frame_names : (words : List ℕ) (d : ℕ) → frame_at words d 14 ≡ naming words d
unfolding frame_at naming
frame_names words d = refl

-- the window of the oldest of n + 1 older frames
pub oldest_window : ℕ → ℕ → ℕ
oldest_window d n = (d + 7 * (n + 1)) % 8

window_on : (d n : ℕ) → oldest_window (before d) n ≡ oldest_window d (suc n)
unfolding oldest_window
window_on d n = let e : suc n ≡ n + 1 = omega arith in rw e (omega arith)

window_first : (d : ℕ) → oldest_window d 0 ≡ before d
unfolding oldest_window
window_first d = omega arith

oldest_of : (words : List ℕ) (d n : ℕ) → oldest (frames_before words d (suc n)) ≡ frame_at words (oldest_window d n)
unfolding frames_before oldest
oldest_of words d zero = ap (frame_at words) (sym (window_first d))
oldest_of words d (suc n) = oldest_of words (before d) n ∙ ap (frame_at words) (window_on d n)

others_of : (words : List ℕ) (d n : ℕ) → but_oldest (frames_before words d (suc n)) ≡ frames_before words d n
unfolding frames_before but_oldest
others_of words d zero = refl
others_of words d (suc n) = ap (λ fs. frame_at words (before d) ∷ fs) (others_of words (before d) n)

window_next : (d n : ℕ) → d < 8 → n ≤ 6 → (16 * oldest_window d n + 30) % 128 ≡ 16 * ((d + 7 * n) % 8) + 14
unfolding oldest_window
window_next d n h g = omega (arith, h, g)

oldest_named : (words : List ℕ) (d n : ℕ) → d < 8 → oldest_at (naming words d) (frames_before words d (suc n)) ≡ naming words ((d + 7 * n) % 8)
unfolding frames_before oldest_at
oldest_named words d zero h = let e : (d + 7 * zero) % 8 ≡ d = omega (arith, h) in ap (naming words) (sym e)
oldest_named words d (suc n) h =
    let e : (before d + 7 * n) % 8 ≡ (d + 7 * suc n) % 8 = omega arith in
    ap (λ a. oldest_at a (frames_before words (before d) (suc n))) (frame_names words (before d))
    ∙ oldest_named words (before d) n (omega arith) ∙ ap (naming words) e

-- where the oldest frame begins
pub oldest_begins : (r : Ring) (n : ℕ) → IsRing r → r.held ≡ suc n
    → get_or r.words ((16 * ((r.current + 8 - r.held) % 8) + 30) % 128) 0 ≡ oldest_at (regs_of r 30) (older_of r)
unfolding older_of oldest_window naming
oldest_begins r n whole e =
    let o : (r.current + 8 - r.held) % 8 ≡ oldest_window r.current n = omega (arith, e, whole.current_within, whole.held_within) in
    let f : (16 * r.current + 14) % 128 ≡ 16 * r.current + 14 = omega (arith, whole.current_within) in
    let g : regs_of r 30 ≡ naming r.words r.current = reg_own r 14 (omega arith) ∙ ap (λ i. get_or r.words i 0) f in
    ap (λ d. get_or r.words ((16 * d + 30) % 128) 0) o
    ∙ ap (λ i. get_or r.words i 0) (window_next r.current n whole.current_within (omega (arith, e, whole.held_within)))
    ∙ sym (oldest_named r.words r.current n whole.current_within)
    ∙ ap (λ a. oldest_at a (frames_before r.words r.current (suc n))) (sym g)
    ∙ ap (λ m. oldest_at (regs_of r 30) (frames_before r.words r.current m)) (sym e)

part_word : (xs : List ℕ) (from k : ℕ) → k < 16 → get_or (take 16 (drop from xs)) k 0 ≡ get_or xs (from + k) 0
part_word xs from k h = get_or-take 16 (drop from xs) k 0 h ∙ get_or-drop from xs k 0

part_length : (xs : List ℕ) (from : ℕ) → from + 16 ≤ length xs → length (take 16 (drop from xs)) ≡ 16
part_length xs from h = grind (arith, common_steps)

-- the words of a window are those of its frame
window_words : (xs : List ℕ) (d : ℕ) → 16 * d + 16 ≤ length xs → take (16 * d + 16 - 16 * d) (drop (16 * d) xs) ≡ words_of (frame_at xs d)
window_words xs d h =
    let e : 16 * d + 16 - 16 * d ≡ 16 = omega arith in
    rw e (ext_get_or 0 (take 16 (drop (16 * d) xs)) (words_of (frame_at xs d)) (part_length xs (16 * d) h)
    (λ k lt.
    let less : k < 16 = omega (arith, part_length xs (16 * d) h, lt) in
    part_word xs (16 * d) k less ∙ sym (word_of_frame (frame_at xs d) k less ∙ frame_low xs d k less)))

-- what is left where the oldest frame was saved
pub spilled_stack : (memory : Words) (r : Ring) (n at : ℕ) → IsRing r → r.held ≡ suc n → at ≡ oldest_at (regs_of r 30) (older_of r)
    → stack (with_frame memory at (take (16 * ((r.current + 8 - r.held) % 8) + 16 - 16 * ((r.current + 8 - r.held) % 8)) (drop (16 * ((r.current + 8 - r.held) % 8)) r.words)))
    (record { globals = r.globals; words = r.words; current = r.current; held = n })
    ≡ spilled (stack memory r)
unfolding older_of regs_of oldest_window
spilled_stack memory r n at whole e begins =
    let o : (r.current + 8 - r.held) % 8 ≡ oldest_window r.current n = omega (arith, e, whole.current_within, whole.held_within) in
    let ws : take (16 * ((r.current + 8 - r.held) % 8) + 16 - 16 * ((r.current + 8 - r.held) % 8)) (drop (16 * ((r.current + 8 - r.held) % 8)) r.words) ≡ words_of (oldest (older_of r)) =
    window_words r.words ((r.current + 8 - r.held) % 8) (omega (arith, whole.words_len))
    ∙ ap (λ d. words_of (frame_at r.words d)) o
    ∙ ap words_of (sym (oldest_of r.words r.current n))
    ∙ ap (λ m. words_of (oldest (frames_before r.words r.current m))) (sym e) in
    let left : frames_before r.words r.current n ≡ but_oldest (older_of r) =
    sym (others_of r.words r.current n) ∙ ap (λ m. but_oldest (frames_before r.words r.current m)) (sym e) in
    rw (begins, ws, left) refl

saved_word : (memory : Words) (at k : ℕ) → k < 16 → saved_at memory at k ≡ word_at memory (at + 4 * k)
unfolding saved_at
saved_word memory at k h = grind (arith, h)

-- what is left where a window was filled
filled_regs : (memory : Words) (r : Ring) (ws : List ℕ) → IsRing r → Filled r.words ws memory (regs_of r 30) (before r.current)
    → regs_of (record { globals = r.globals; words = ws; current = before r.current; held = r.held }) ≡ gone_back (regs_of r) (saved_at memory (regs_of r 30))
filled_regs memory r ws whole filled =
    let n : before r.current ≢ r.current = λ f. absurd (omega (arith, f, whole.current_within)) in
    gone_regs r ws r.held (saved_at memory (regs_of r 30)) whole
    (λ k h. filled.filled k h ∙ sym (saved_word memory (regs_of r 30) k h))
    (λ k h. filled.others (16 * r.current + k) (elim (cases_lt r.current (before r.current)) [
      | inl l ↦ inl (omega (arith, l, h))
      | inr g ↦ inr (omega (arith, g, n))
    ]))

pub no_older : (r : Ring) → r.held ≡ 0 → older_of r ≡ []
unfolding older_of frames_before
no_older r e = ap (frames_before r.words r.current) e

some_older : (r : Ring) (n : ℕ) → r.held ≡ suc n → older_of r ≡ frame_at r.words (before r.current) ∷ frames_before r.words (before r.current) n
unfolding older_of frames_before
some_older r n e = ap (frames_before r.words r.current) e

pub restored_filled : (memory : Words) (r : Ring) (ws : List ℕ) → IsRing r → r.held ≡ 0 → Filled r.words ws memory (regs_of r 30) (before r.current)
    → stack memory (record { globals = r.globals; words = ws; current = before r.current; held = r.held }) ≡ restored (stack memory r)
restored_filled memory r ws whole e filled =
    let to : Ring = record { globals = r.globals; words = ws; current = before r.current; held = r.held } in
    rw (no_older r e, no_older to e, filled_regs memory r ws whole filled) refl

pub restored_held : (memory : Words) (r : Ring) (n : ℕ) → IsRing r → r.held ≡ suc n
    → stack memory (record { globals = r.globals; words = r.words; current = before r.current; held = n }) ≡ restored (stack memory r)
unfolding older_of
restored_held memory r n whole e =
    rw (some_older r n e, gone_regs r r.words n (frame_at r.words (before r.current)) whole (λ k h. sym (frame_low r.words (before r.current) k h)) (λ k h. refl)) refl

-- a window file as it is opened
unfoldable pub are_zero : List ℕ → Bool
are_zero [] = true
are_zero (x ∷ xs) = nat_eq x 0 && are_zero xs

pub zeros_of : (xs : List ℕ) → are_zero xs ≡ true → (k : ℕ) → get_or xs k 0 ≡ 0
unfolding are_zero
zeros_of [] e k = refl
zeros_of (zero ∷ xs) e zero = refl
zeros_of (zero ∷ xs) e (suc k) = zeros_of xs e k
zeros_of (suc x ∷ xs) e k = absurd (grind (arith, e))

opened_reg : (r : Ring) (k : ℕ) → ((k : ℕ) → get_or r.globals k 0 ≡ 0) → ((k : ℕ) → get_or r.words k 0 ≡ 0) → regs_of r k ≡ 0
unfolding regs_of
opened_reg r k low high = grind (arith, low k, high ((16 * r.current + place_of k) % 128))

opened_regs : (r : Ring) → ((k : ℕ) → get_or r.globals k 0 ≡ 0) → ((k : ℕ) → get_or r.words k 0 ≡ 0) → regs_of r ≡ (λ _. 0)
opened_regs r low high = fun_ext (λ k. opened_reg r k low high)

pub opened_zero : (r : Ring) → are_zero r.globals ≡ true → are_zero r.words ≡ true → regs_of r ≡ (λ _. 0)
opened_zero r low high = opened_regs r (zeros_of r.globals low) (zeros_of r.words high)

-- what is left where the frame in view was saved
pub view_stack : (memory : Words) (r : Ring) → IsRing r
    → stack (with_frame memory (regs_of r 14) (take (16 * r.current + 16 - 16 * r.current) (drop (16 * r.current) r.words))) r ≡ view_saved (stack memory r)
view_stack memory r whole =
    rw (window_words r.words r.current (omega (arith, whole.words_len, whole.current_within)), view_frame r r.words whole (λ k h. refl)) refl

-- the oldest frame is saved, and all others then
pub spill_on : (m n : Words) (r s : Ring) → 0 < r.held → s.held ≡ r.held - 1 → stack n s ≡ spilled (stack m r)
    → all_spilled (length (older_of s)) (stack n s) ≡ all_spilled (length (older_of r)) (stack m r)
unfolding all_spilled
spill_on m n r s some less is =
    let e : length (older_of r) ≡ suc (length (older_of s)) = omega (arith, some, less, length-older_of r, length-older_of s) in
    rw (e, is) refl

some_held : (r : Ring) → 0 < r.held → r.held ≡ suc (r.held - 1)
some_held r h = omega (arith, h)

pub oldest_is_place : (r : Ring) → 0 < r.held → All IsPlace (held_places (regs_of r 30) (older_of r)) → IsPlace (oldest_at (regs_of r 30) (older_of r))
oldest_is_place r some places =
    let e = some_older r (r.held - 1) (some_held r some) in
    rw e (oldest_place (regs_of r 30) _ _ (rw e at places))

pub places_on : (m n : Words) (r s : Ring) → 0 < r.held → stack n s ≡ spilled (stack m r) → All IsPlace (held_places (regs_of r 30) (older_of r))
    → All IsPlace (held_places (regs_of s 30) (older_of s))
places_on m n r s some is places =
    let e = some_older r (r.held - 1) (some_held r some) in
    let regs : regs_of s ≡ regs_of r = ap (λ (t : Stack). t.regs) is in
    let older : older_of s ≡ but_oldest (older_of r) = ap (λ (t : Stack). t.held) is in
    rw (regs, older, e) (other_places (regs_of r 30) _ _ (rw e at places))

taken_low : (regs : ℕ → ℕ) (at : ℕ) (f : Frame) (k : ℕ) → k < 8 → taken_up regs at f k ≡ regs k
taken_low regs at f k h = grind (arith, h)

taken_own : (regs : ℕ → ℕ) (at : ℕ) (f : Frame) (j : ℕ) → j < 16 → taken_up regs at f (16 + j) ≡ f j
taken_own regs at f j h = let e : 16 + j - 16 ≡ j = omega arith in grind (arith, e)

taken_out : (regs : ℕ → ℕ) (at : ℕ) (f : Frame) (j : ℕ) → j < 8 → taken_up regs at f (8 + j) ≡ (if nat_eq j 6 then at else 0)
taken_out regs at f j h = grind (arith, h)

taken_none : (regs : ℕ → ℕ) (at : ℕ) (f : Frame) (k : ℕ) → 32 ≤ k → taken_up regs at f k ≡ 0
taken_none regs at f k h = grind (arith, h)

-- an out of the window in view, once register 14 was put
put_out : (ws : List ℕ) (c at j : ℕ) → length ws ≡ 128 → c < 8 → j < 8 → ((j : ℕ) → j < 8 → get_or ws (16 * next c + 8 + j) 0 ≡ 0)
    → get_or (slice_set ws (16 * next c + 14) at) (16 * next c + 8 + j) 0 ≡ (if nat_eq j 6 then at else 0)
put_out ws c at j len h l zeros = grind (arith, common_steps, zeros j)

pub taken_stack : (memory : Words) (r : Ring) (ws vs : List ℕ) (at : ℕ) → IsRing r → length vs ≡ 128 → Begun r.words ws r.current (next r.current) → Filled ws vs memory at r.current
    → stack memory (record { globals = r.globals; words = slice_set vs (16 * next r.current + 14) at; current = r.current; held = 0 }) ≡ resumed (stack memory r) at
unfolding older_of frames_before
taken_stack memory r ws vs at whole len begun filled =
    let to : Ring = record { globals = r.globals; words = slice_set vs (16 * next r.current + 14) at; current = r.current; held = 0 } in
    let f = saved_at memory at in
    let outs : (j : ℕ) → j < 8 → get_or vs (16 * next r.current + 8 + j) 0 ≡ 0 = λ j h.
    filled.others (16 * next r.current + 8 + j) (elim (cases_lt r.current (next r.current)) [
      | inl l ↦ inr (omega (arith, l))
      | inr g ↦ inl (omega (arith, g, h, whole.current_within))
    ]) ∙ begun.outs j h in
    let own : (j : ℕ) → j < 16 → regs_of to (16 + j) ≡ taken_up (regs_of r) at f (16 + j) = λ j h.
    let e : (16 * r.current + j) % 128 ≡ 16 * r.current + j = omega (arith, whole.current_within, h) in
    let n : 16 * r.current + j ≢ 16 * next r.current + 14 = λ g. absurd (omega (arith, g, h, whole.current_within)) in
    reg_own to j h ∙ ap (λ i. get_or to.words i 0) e ∙ get_or-set_other vs (16 * next r.current + 14) (16 * r.current + j) at 0 n
    ∙ filled.filled j h ∙ sym (taken_own (regs_of r) at f j h ∙ saved_word memory at j h) in
    let same : regs_of to ≡ taken_up (regs_of r) at f = same_regs (regs_of to) (taken_up (regs_of r) at f)
    (λ i h. reg_low to r i refl h ∙ sym (taken_low (regs_of r) at f i h))
    (λ j h.
    let e : (16 * r.current + (24 + j)) % 128 ≡ 16 * next r.current + 8 + j = omega (arith, whole.current_within, h) in
    reg_out to j h ∙ ap (λ i. get_or to.words i 0) e ∙ put_out vs r.current at j len whole.current_within h outs ∙ sym (taken_out (regs_of r) at f j h))
    (λ j h. own j (omega (arith, h)))
    (λ j h. let e : 24 + j ≡ 16 + (8 + j) = omega arith in rw e (own (8 + j) (omega (arith, h))))
    (λ i h. reg_none to i h ∙ sym (taken_none (regs_of r) at f i h)) in
    rw same refl

pub none_spilled : (n : ℕ) (s : Stack) → n ≡ 0 → all_spilled n s ≡ s
unfolding all_spilled
none_spilled n s e = rw e refl

full_is : (r : Ring) → r.held ≡ 6 → is_full (older_of r) ≡ true
full_is r e = rw (length-older_of r, e) refl

few_is : (r : Ring) → r.held < 6 → is_full (older_of r) ≡ false
few_is r h = rw (length-older_of r) (grind (arith, h))

pub room_full : (m : Words) (r : Ring) (t : Stack) → r.held ≡ 6 → t ≡ spilled (stack m r) → t ≡ roomed (stack m r)
room_full m r t e is = rw (full_is r e) is

pub room_few : (m : Words) (r : Ring) → r.held < 6 → stack m r ≡ roomed (stack m r)
room_few m r h = rw (few_is r h) refl

pub full_length : (r : Ring) → r.held ≡ 6 → 6 ≤ length (older_of r)
full_length r e = omega (arith, length-older_of r, e)

pub saved_from : (m n : Words) (r s t : Ring) → stack n s ≡ roomed (stack m r) → regs_of t ≡ entered (regs_of s) → older_of t ≡ kept (regs_of s) ∷ older_of s
    → stack n t ≡ saved (stack m r)
saved_from m n r s t is regs older =
    let words : n ≡ (roomed (stack m r)).memory = ap (λ (u : Stack). u.memory) is in
    let same : regs_of s ≡ regs_of r = ap (λ (u : Stack). u.regs) is in
    let held : older_of s ≡ but_spilled (older_of r) = ap (λ (u : Stack). u.held) is in
    rw (regs, older, words, same, held) refl

pub spilled_regs : (n : ℕ) (s : Stack) → (all_spilled n s).regs ≡ s.regs
unfolding all_spilled
spilled_regs zero s = refl
spilled_regs (suc n) s = spilled_regs n (spilled s)

pub regs_stay : (m n : Words) (r t : Ring) (k : ℕ) → stack n t ≡ all_spilled k (stack m r) → regs_of t ≡ regs_of r
regs_stay m n r t k is = ap (λ (s : Stack). s.regs) is ∙ spilled_regs k (stack m r)

frame_words : (ws : List ℕ) (d k : ℕ) → ((k : ℕ) → slice_index ws k < 2 ^ 32) → frame_at ws d k < 2 ^ 32
unfolding frame_at
frame_words ws d k words = grind (arith, words (16 * d + k))

frames_words : (ws : List ℕ) (d n : ℕ) → ((k : ℕ) → slice_index ws k < 2 ^ 32) → AreWords (frames_before ws d n)
unfolding frames_before
frames_words ws d zero words = tt
frames_words ws d (suc n) words = (λ k. frame_words ws (before d) k words, frames_words ws (before d) n words)

pub older_words : (r : Ring) → ((k : ℕ) → slice_index r.words k < 2 ^ 32) → AreWords (older_of r)
unfolding older_of
older_words r words = frames_words r.words r.current r.held words

are_frames : (ws : List ℕ) (d n : ℕ) → All IsFrame (frames_before ws d n)
unfolding frames_before
are_frames ws d zero = All-nil IsFrame
are_frames ws d (suc n) = All-cons IsFrame (frame_at ws (before d)) (frames_before ws (before d) n) (λ k h. frame_none ws (before d) k h) (are_frames ws (before d) n)

pub older_frames : (r : Ring) → All IsFrame (older_of r)
unfolding older_of
older_frames r = are_frames r.words r.current r.held
