-- Frames that are walked in memory.
use Rattle.std.proofs.Common.{◌≡◌, ◌≢◌, ℕ, zero, suc, ◌+◌, ◌-◌, ◌<◌, ◌≤◌, refl, ◌∙◌, ap, sym, subst, arith, nat_eq}
use Rattle.std.specs.Prelude.{nat_lt, Bool, true, false, if◌then◌else◌, Some, slice_get}
use Rattle.std.proofs.lemmas.Bool.{eq-eqb, ne_eqb, cond-true, cond-false, lt-ltb, le-ltb}
use Rattle.std.proofs.lemmas.Option.{none-some}
use Rattle.sparc_store.specs.Words.{Words, word_at, with_word}
use Rattle.sparc_store.specs.Windows.{Frame as Window, saved_at}
use Rattle.sparc_store.proofs.Placed.{others_stay}
use Rattle.frame_walk.proofs.Resting.{saved_same}
use Rattle.plain_runs.specs.Host.{Host}
use Rattle.plain_runs.specs.Services.{settled}
use Rattle.plain_unwinds.specs.Services.{answers_from_home, ended_older, home_at, returns_to, unmarked, unwound}
use Rattle.plain_unwinds.specs.Frames.{AreWalked, contexts_at, ending_at, frame_behind, with_all_cleared, with_cleared}

-- Fewer frames, and those behind the first, may be walked too.

fewer_contexts : (memory : Words) (m n at k context : ℕ) → m ≤ n → slice_get (contexts_at memory m at) k ≡ Some context → slice_get (contexts_at memory n at) k ≡ Some context
fewer_contexts memory zero n at k context le is = absurd (none-some context is)
fewer_contexts memory (suc m) zero at k context le is = absurd (omega (arith, le))
fewer_contexts memory (suc m) (suc n) at zero context le is = is
fewer_contexts memory (suc m) (suc n) at (suc k) context le is = fewer_contexts memory m n (saved_at memory at 14) k context (omega (arith, le)) is

pub fewer_walked : (memory : Words) (m n at : ℕ) → m ≤ n → AreWalked memory n at → AreWalked memory m at
fewer_walked memory m n at le w = record {
  places = λ k lt. w.places k (omega (arith, le, lt));
  marks = λ k context is some. w.marks k context (fewer_contexts memory m n at k context le is) some;
  returns = λ k lt. w.returns k (omega (arith, le, lt));
}

rest_walked : (memory : Words) (n at : ℕ) → AreWalked memory (suc n) at → AreWalked memory n (saved_at memory at 14)
rest_walked memory n at w = record {
  places = λ k lt. w.places (suc k) (omega (arith, lt));
  marks = λ k context is some. w.marks (suc k) context is some;
  returns = λ k lt. w.returns (suc k) (omega (arith, lt));
}

-- Marks are cleared frame by frame: so many are left, and what comes of them is this.
pub record Clears (old now : Words) (left frame : ℕ) (last : Words) : Type 0 where
  pub stacks : (a : ℕ) → 0x40000000 ≤ a → word_at now a ≡ word_at old a
  pub walked : AreWalked old left frame
  pub rest : with_all_cleared now (contexts_at old left frame) ≡ last

one_spares : (m : Words) (w a : ℕ) (b : Bool) → nat_eq w 0 ≡ b → (w ≢ 0 → w + 7 < 0x40000000) → 0x40000000 ≤ a → word_at (if b then m else with_word m (w + 7) 0) a ≡ word_at m a
one_spares m w a true e low high = refl
one_spares m w a false e low high =
    let lt = low (λ z. (let t : nat_eq w 0 ≡ true = eq-eqb w 0 z in cc)) in
    others_stay m (w + 7) 0 a (λ q. absurd (omega (arith, q, lt, high)))

pub frame_same : (old now : Words) (left frame : ℕ) (last : Words) → Clears old now left frame last → 0 < left → saved_at now frame ≡ saved_at old frame
frame_same old now left frame last c some = saved_same old now frame (λ a from to. c.stacks a (omega (arith, from, (c.walked.places 0 some).1)))

next_at : (old now new : Words) (r frame context next : ℕ) (last : Words) → Clears old now (suc r) frame last → context ≡ saved_at now frame 1 → new ≡ with_cleared now context → next ≡ saved_at new frame 14 → Clears old new r next last
next_at old now new r frame context next last c context_is new_is next_is =
    let same = frame_same old now (suc r) frame last c (omega arith) in
    let its = saved_at old frame 1 in
    let is : context ≡ its = context_is ∙ ap (λ (w : Window). w 1) same in
    let cleared : new ≡ with_cleared now its = new_is ∙ ap (with_cleared now) is in
    let stacks : (a : ℕ) → 0x40000000 ≤ a → word_at new a ≡ word_at old a =
    λ a high. ap (λ (m : Words). word_at m a) cleared ∙ one_spares now its a (nat_eq its 0) refl (λ some. (c.walked.marks 0 its refl some).1) high ∙ c.stacks a high in
    let place = c.walked.places 0 (omega arith) in
    let there : next ≡ saved_at old frame 14 = next_is ∙ ap (λ (w : Window). w 14) (saved_same old new frame (λ a from to. stacks a (omega (arith, from, place.1)))) in
    let W : ℕ → Type 0 = λ q. AreWalked old r q in
    record {
      stacks = stacks;
      walked = subst W (sym there) (rest_walked old r frame c.walked);
      rest = (λ i. with_all_cleared (cleared i) (contexts_at old r (there i))) ∙ c.rest;
    }

pub clears_next : (old now new : Words) (left frame context next : ℕ) (last : Words) → Clears old now left frame last → 0 < left → context ≡ saved_at now frame 1 → new ≡ with_cleared now context → next ≡ saved_at new frame 14
    → Clears old new (left - 1) next last
clears_next old now new left frame context next last c some context_is new_is next_is =
    let one : left ≡ suc (left - 1) = omega (arith, some) in
    let P : ℕ → Type 0 = λ q. Clears old now q frame last in
    next_at old now new (left - 1) frame context next last (subst P one c) context_is new_is next_is

-- what the first mark asks
pub first_mark : (old now : Words) (left frame context : ℕ) (last : Words) → Clears old now left frame last → 0 < left → context ≡ saved_at now frame 1 → slice_get (contexts_at old left frame) 0 ≡ Some context
first_mark old now left frame context last c some is =
    let one : left ≡ suc (left - 1) = omega (arith, some) in
    ap (λ q. slice_get (contexts_at old q frame) 0) one ∙ ap Some (sym (is ∙ ap (λ (w : Window). w 1) (frame_same old now left frame last c some)))

-- nothing is left
pub clears_none : (old now : Words) (left frame : ℕ) (last : Words) → Clears old now left frame last → left ≡ 0 → now ≡ last
clears_none old now left frame last c none = sym (ap (λ q. with_all_cleared now (contexts_at old q frame)) none) ∙ c.rest

-- The way to a home.

pub frame_next : (memory : Words) (k at : ℕ) → frame_behind memory (k + 1) at ≡ saved_at memory (frame_behind memory k at) 14
frame_next memory zero at = ap (λ q. frame_behind memory q at) (let e : 0 + 1 ≡ 1 = omega arith in e)
frame_next memory (suc k) at = ap (λ q. frame_behind memory q at) (let e : suc k + 1 ≡ suc (k + 1) = omega arith in e) ∙ frame_next memory k (saved_at memory at 14)

next_ending : (memory : Words) (n at context : ℕ) → context ≢ 0
    → ending_at memory (suc n) at context ≡ 1 + ending_at memory n (saved_at memory at 14) (if nat_eq (saved_at memory at 1) context then saved_at memory at 0 else context)
next_ending memory n at context some =
    cond-false (nat_eq context 0) 0 (1 + ending_at memory n (saved_at memory at 14) (if nat_eq (saved_at memory at 1) context then saved_at memory at 0 else context)) (ne_eqb context 0 some)

-- one frame more ends
pub ends_more : (memory : Words) (left at context : ℕ) → 0 < left → context ≢ 0
    → ending_at memory left at context ≡ 1 + ending_at memory (left - 1) (saved_at memory at 14) (if nat_eq (saved_at memory at 1) context then saved_at memory at 0 else context)
ends_more memory left at context some has =
    let one : left ≡ suc (left - 1) = omega (arith, some) in
    ap (λ q. ending_at memory q at context) one ∙ next_ending memory (left - 1) at context has

-- none does, at the home or where none is left
pub ends_home : (memory : Words) (left at context : ℕ) → context ≡ 0 → ending_at memory left at context ≡ 0
ends_home memory zero at context none = refl
ends_home memory (suc n) at context none =
    cond-true (nat_eq context 0) 0 (1 + ending_at memory n (saved_at memory at 14) (if nat_eq (saved_at memory at 1) context then saved_at memory at 0 else context)) (eq-eqb context 0 none)

pub ends_last : (memory : Words) (left at context : ℕ) → left ≡ 0 → ending_at memory left at context ≡ 0
ends_last memory left at context none = ap (λ q. ending_at memory q at context) none

-- What comes of a return from a home method: the home's caller goes on, or none is left.

pub returned : (goal cost : ℕ) (w : Host) (ended at next back count : ℕ) → ended ≡ ended_older w → at ≡ home_at w → next ≡ saved_at w.machine.memory at 14 → back ≡ saved_at w.machine.memory at 15 → count ≡ w.machine.regs 4 → ended + 1 < count
    → returns_to next (back + 8) (count - (ended + 1)) (settled goal cost (unmarked (ended + 1) w)) ≡ unwound goal cost w
returned goal cost w ended at next back count ended_is at_is next_is back_is count_is less =
    let n = ended_older w + 1 in
    let home = saved_at w.machine.memory (home_at w) in
    let there : next ≡ home 14 = next_is ∙ ap (λ q. saved_at w.machine.memory q 14) at_is in
    let goes : back ≡ home 15 = back_is ∙ ap (λ q. saved_at w.machine.memory q 15) at_is in
    let s = settled goal cost (unmarked n w) in
    (λ i. returns_to (there i) (goes i + 8) (count_is i - (ended_is i + 1)) (settled goal cost (unmarked (ended_is i + 1) w)))
    ∙ sym (cond-true (nat_lt n (w.machine.regs 4)) (returns_to (home 14) (home 15 + 8) (w.machine.regs 4 - n) s) (answers_from_home s) (lt-ltb n (w.machine.regs 4) (omega (arith, less, ended_is, count_is))))

pub answered_last : (goal cost : ℕ) (w : Host) (ended count : ℕ) → ended ≡ ended_older w → count ≡ w.machine.regs 4 → count ≤ ended + 1 → answers_from_home (settled goal cost (unmarked (ended + 1) w)) ≡ unwound goal cost w
answered_last goal cost w ended count ended_is count_is most =
    let n = ended_older w + 1 in
    let home = saved_at w.machine.memory (home_at w) in
    let s = settled goal cost (unmarked n w) in
    (λ i. answers_from_home (settled goal cost (unmarked (ended_is i + 1) w)))
    ∙ sym (cond-false (nat_lt n (w.machine.regs 4)) (returns_to (home 14) (home 15 + 8) (w.machine.regs 4 - n) s) (answers_from_home s) (le-ltb n (w.machine.regs 4) (omega (arith, most, ended_is, count_is))))
