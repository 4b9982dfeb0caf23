-- SAVE and `flush` write in the saved windows of the frame in view and of those that are held alone.
use Rattle.std.proofs.Common.{◌≡◌, ◌⊎◌, ℕ, zero, suc, ◌+◌, ◌<◌, ◌≤◌, refl, ◌∙◌, ap, arith, inl, inr}
use Rattle.std.proofs.lemmas.Grind.{common_steps}
use Rattle.std.specs.Prelude.{slice_index, Bool, true, false, nat_le, List, [], ◌∷◌, length, All}
use Rattle.std.proofs.lemmas.List.Elements.{All-nil, All-cons, All-head, All-tail}
use Rattle.sparc_store.specs.Regions.{Place, Code, Heap, Control, Stacks, Nowhere, place_of}
use Rattle.sparc_store.specs.Words.{Words, word_in, word_at, with_frame, IsWithin}
use Rattle.sparc_store.specs.Windows.{Frame as Window, Stack, kept, saved, oldest, oldest_at, but_oldest, with_saved, with_spilled, with_room, is_full, spilled, all_spilled, view_saved, flushed, IsPlace, CanSave, CanFlush, held_places}
use Rattle.sparc_store.specs.Chain.{places_from, places, IsSound, IsIn, IsStack, IsApart}
use Rattle.frame_moves.specs.Moves.{OnlyStacks}
use Rattle.sparc_store.proofs.SoundStacks.{save_others, may_save, may_flush}
use Rattle.sparc_store.proofs.Chains.{saved_stays_within, length-but_oldest}

out : (b p : ℕ) → IsApart b 1 p → (b < p) ⊎ (p + 64 ≤ b)
out b p (inl low) = inl (omega (arith, low))
out b p (inr high) = inr high

-- what holds where each of these frames begins holds where the oldest does, and where all but it do
oldest_is : (P : ℕ → Type 0) (at : ℕ) (f : Window) (held : List Window) → All P (held_places at (f ∷ held)) → P (oldest_at at (f ∷ held))
unfolding held_places oldest_at
oldest_is P at f [] h = All-head P at [] h
oldest_is P at f (g ∷ more) h = oldest_is P (f 14) g more (All-tail P at (f 14 ∷ held_places (g 14) more) h)

others_are : (P : ℕ → Type 0) (at : ℕ) (f : Window) (held : List Window) → All P (held_places at (f ∷ held)) → All P (held_places at (but_oldest (f ∷ held)))
unfolding held_places but_oldest
others_are P at f [] h = All-nil P
others_are P at f (g ∷ more) h = All-cons P at (held_places (f 14) (but_oldest (g ∷ more))) (All-head P at (f 14 ∷ held_places (g 14) more) h) (others_are P (f 14) g more (All-tail P at (f 14 ∷ held_places (g 14) more) h))

spill_spares : (memory : Words) (at : ℕ) (f : Window) (held : List Window) (b : ℕ) → IsWithin memory → IsPlace (oldest_at at (f ∷ held)) → IsApart b 1 (oldest_at at (f ∷ held))
    → word_at (with_spilled memory at (f ∷ held)) b ≡ word_at memory b
spill_spares memory at f held b whole place apart = save_others memory (oldest_at at (f ∷ held)) (oldest (f ∷ held)) whole place b (out b (oldest_at at (f ∷ held)) apart)

is_least : (n : ℕ) → nat_le 6 n ≡ true → 6 ≤ n
is_least n e = grind (arith, e)

room_spares : (memory : Words) (at : ℕ) (held : List Window) (full : Bool) (b : ℕ) → is_full held ≡ full → IsWithin memory → (6 ≤ length held → IsPlace (oldest_at at held)) → (6 ≤ length held → IsApart b 1 (oldest_at at held))
    → word_at (with_room memory at held) b ≡ word_at memory b
room_spares memory at held false b e whole place apart = rw e refl
room_spares memory at [] true b e whole place apart = absurd (cc)
room_spares memory at (f ∷ held) true b e whole place apart =
    let six = is_least (length (f ∷ held)) e in
    rw e (spill_spares memory at f held b whole (place six) (apart six))

-- SAVE changes no word but in the saved window of the oldest frame that is held
pub save_spares : (s : Stack) (b : ℕ) → IsWithin s.memory → CanSave s → (6 ≤ length s.held → IsApart b 1 (oldest_at (s.regs 30) s.held)) → word_at (saved s).memory b ≡ word_at s.memory b
save_spares s b whole can apart = room_spares s.memory (s.regs 30) s.held (is_full s.held) b refl whole can apart

pub oldest_apart : (b at : ℕ) (held : List Window) → All (IsApart b 1) (held_places at held) → 6 ≤ length held → IsApart b 1 (oldest_at at held)
oldest_apart b at [] apart six = absurd (omega (arith, six))
oldest_apart b at (f ∷ held) apart six = oldest_is (IsApart b 1) at f held apart

spills_spare : (k : ℕ) (s : Stack) (held : List Window) (b : ℕ) → s.held ≡ held → length held ≡ k → IsWithin s.memory → IsPlace (s.regs 14) → All IsPlace (held_places (s.regs 30) held) → IsApart b 1 (s.regs 14)
    → All (IsApart b 1) (held_places (s.regs 30) held) → word_at (view_saved (all_spilled k s)).memory b ≡ word_at s.memory b
unfolding all_spilled
spills_spare zero s held b e l whole view places apart older = save_others s.memory (s.regs 14) (kept s.regs) whole view b (out b (s.regs 14) apart)
spills_spare (suc k) s [] b e l whole view places apart older = absurd (omega (arith, l))
spills_spare (suc k) s (f ∷ held) b e l whole view places apart older =
    spills_spare k (spilled s) (but_oldest (f ∷ held)) b (ap but_oldest e) (omega (arith, length-but_oldest f held, l)) (saved_stays_within s.memory (oldest_at (s.regs 30) s.held) (oldest s.held) whole) view
    (others_are IsPlace (s.regs 30) f held places) apart (others_are (IsApart b 1) (s.regs 30) f held older)
    ∙ ap (λ fs. word_at (with_spilled s.memory (s.regs 30) fs) b) e
    ∙ spill_spares s.memory (s.regs 30) f held b whole (oldest_is IsPlace (s.regs 30) f held places) (oldest_is (IsApart b 1) (s.regs 30) f held older)

-- `flush` changes no word but in the saved windows of the frame in view and of those that are held
pub flush_spares : (s : Stack) (b : ℕ) → IsWithin s.memory → CanFlush s → All (IsApart b 1) (s.regs 14 ∷ held_places (s.regs 30) s.held) → word_at (flushed s).memory b ≡ word_at s.memory b
flush_spares s b whole can apart =
    spills_spare (length s.held) s s.held b refl refl whole can.0 can.1 (All-head (IsApart b 1) (s.regs 14) (held_places (s.regs 30) s.held) apart) (All-tail (IsApart b 1) (s.regs 14) (held_places (s.regs 30) s.held) apart)

-- In a sound stack all these frames lie in one stack.

of_held : (P : ℕ → Type 0) (n : ℕ) (memory : Words) (at : ℕ) (held : List Window) → length held ≤ n → All P (places_from n memory at held) → All P (held_places at held)
unfolding places_from held_places
of_held P n memory at [] most h = All-nil P
of_held P zero memory at (f ∷ held) most h = absurd (omega (arith, most))
of_held P (suc n) memory at (f ∷ held) most h =
    All-cons P at (held_places (f 14) held) (All-head P at (places_from n memory (f 14) held) h) (of_held P n memory (f 14) held (omega (arith, most)) (All-tail P at (places_from n memory (f 14) held) h))

pub held_inside : (entry n : ℕ) (s : Stack) → IsSound n s → IsStack entry n s → All (IsIn entry) (s.regs 14 ∷ held_places (s.regs 30) s.held)
held_inside entry n s sound stack =
    All-cons (IsIn entry) (s.regs 14) (held_places (s.regs 30) s.held) (All-head (IsIn entry) (s.regs 14) (places n s) stack.inside)
    (of_held (IsIn entry) n s.memory (s.regs 30) s.held sound.covers (All-tail (IsIn entry) (s.regs 14) (places n s) stack.inside))

pub can_save : (entry n : ℕ) (s : Stack) → IsSound n s → IsStack entry n s → CanSave s
can_save entry n s sound stack = (may_save entry n s sound stack).0

pub can_flush : (entry n : ℕ) (s : Stack) → IsSound n s → IsStack entry n s → CanFlush s
can_flush entry n s sound stack = (may_flush entry n s sound stack).0

-- What spills and `flush` write lies in the stacks.

saved_only : (memory : Words) (at : ℕ) (f : Window) → OnlyStacks memory (with_saved memory at f)
unfolding with_frame
saved_only memory at f = record { code = refl; heap = refl; control = refl }

room_only : (memory : Words) (at : ℕ) (held : List Window) (full : Bool) → is_full held ≡ full → OnlyStacks memory (with_room memory at held)
room_only memory at held false e = rw e (record { code = refl; heap = refl; control = refl })
room_only memory at held true e = rw e (saved_only memory (oldest_at at held) (oldest held))

spills_only : (k : ℕ) (s : Stack) → OnlyStacks s.memory (all_spilled k s).memory
unfolding all_spilled
spills_only zero s = record { code = refl; heap = refl; control = refl }
spills_only (suc k) s =
    let one = saved_only s.memory (oldest_at (s.regs 30) s.held) (oldest s.held) in
    let more = spills_only k (spilled s) in
    record { code = more.code ∙ one.code; heap = more.heap ∙ one.heap; control = more.control ∙ one.control }

pub save_only : (s : Stack) → OnlyStacks s.memory (saved s).memory
save_only s = room_only s.memory (s.regs 30) s.held (is_full s.held) refl

pub flush_only : (s : Stack) → OnlyStacks s.memory (flushed s).memory
flush_only s =
    let u = all_spilled (length s.held) s in
    let more = spills_only (length s.held) s in
    let last = saved_only u.memory (u.regs 14) (kept u.regs) in
    record { code = last.code ∙ more.code; heap = last.heap ∙ more.heap; control = last.control ∙ more.control }

no_stack : (b k : ℕ) → b < 0x4000_0000 → place_of b ≡ Stacks k → ⊥
no_stack b k low e = grind (arith, common_steps)

placed_same : (old new : Words) (p : Place) → OnlyStacks old new → ((k : ℕ) → p ≡ Stacks k → ⊥) → word_in new p ≡ word_in old p
placed_same old new (Code k) only away = ap (λ xs. slice_index xs k) only.code
placed_same old new (Heap k) only away = ap (λ xs. slice_index xs k) only.heap
placed_same old new (Control k) only away = ap (λ xs. slice_index xs k) only.control
placed_same old new (Stacks k) only away = absurd (away k refl)
placed_same old new Nowhere only away = refl

-- so each word below the stacks is the same
pub low_same : (old new : Words) (b : ℕ) → OnlyStacks old new → b < 0x4000_0000 → word_at new b ≡ word_at old b
unfolding word_at
low_same old new b only low = placed_same old new (place_of b) only (λ k e. no_stack b k low e)
