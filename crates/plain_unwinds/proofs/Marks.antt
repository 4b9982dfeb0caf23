-- The frame marks of contexts, cleared in memory.
use Rattle.std.proofs.Common.{◌≡◌, ◌≢◌, ℕ, zero, suc, ◌+◌, ◌-◌, ◌<◌, ◌≤◌, refl, ◌∙◌, arith, length}
use Rattle.std.specs.Prelude.{Bool, true, false, nat_eq, if◌then◌else◌, List, [], ◌∷◌, Some, slice_get, take}
use Rattle.std.proofs.lemmas.Bool.{eqb-true, eq-eqb}
use Rattle.sparc_store.specs.Words.{Words, word_at, with_word, IsWithin}
use Rattle.sparc_store.proofs.Placed.{others_stay, put_stays_within}
use Rattle.source_model.specs.State.{Activation, State}
use Rattle.heap_cells.specs.Laying.{Cells, Laid}
use Rattle.heap_cells.specs.Shapes.{Cell, Context, size}
use Rattle.heap_cells.specs.Source.{Made, Plain as without, Ended, Live}
use Rattle.heap_cells.specs.Standing.{RefersTo}
use Rattle.frame_walk.specs.Places.{Frame}
use Rattle.frame_walk.specs.Raw.{Raw}
use Rattle.raw_steps.specs.Ends.{EndsOne, Ends}
use Rattle.raw_steps.specs.Stands.{Sense, Stands, IsActivation, AreActivations}
use Rattle.plain_runs.specs.Host.{heap_words}
use Rattle.plain_answers.proofs.Storing.{InHeap, stored_in_heap}
use Rattle.plain_unwinds.specs.Frames.{with_cleared, with_all_cleared}

-- the own contexts of frames
abbrev pub contexts_of : List Frame → List ℕ
contexts_of [] = []
contexts_of (f ∷ fs) = f.context ∷ contexts_of fs

-- each that isn't 0 has its mark in the heap
abbrev pub AreMarked : List Frame → Type 0
AreMarked [] = Unit {0}
AreMarked (f ∷ fs) = (f.context ≢ 0 → InHeap (f.context + 7)) × AreMarked fs

-- memory changed in the heap alone
pub record InHeapAlone (old new : Words) : Type 0 where
  pub low : (b : ℕ) → b < 0x20000000 → word_at new b ≡ word_at old b
  pub high : (b : ℕ) → 0x30000000 ≤ b → word_at new b ≡ word_at old b
  pub within : IsWithin new

is_zero : (w : ℕ) → nat_eq w 0 ≡ true → w ≡ 0
is_zero w e = eqb-true w 0 e

-- One mark.

one_alone : (m : Words) (w : ℕ) (b : Bool) → nat_eq w 0 ≡ b → IsWithin m → (w ≢ 0 → InHeap (w + 7)) → InHeapAlone m (if b then m else with_word m (w + 7) 0)
one_alone m w true e whole there = record { low = λ a lt. refl; high = λ a le. refl; within = whole }
one_alone m w false e whole there =
    let h = there (λ z. (let t : nat_eq w 0 ≡ true = eq-eqb w 0 z in cc)) in
    let above = h.above in
    let below = h.below in
    record {
      low = λ a lt. others_stay m (w + 7) 0 a (λ q. absurd (omega (arith, q, lt, above)));
      high = λ a le. others_stay m (w + 7) 0 a (λ q. absurd (omega (arith, q, le, below)));
      within = put_stays_within m (w + 7) 0 whole;
    }

one_ends : (m : Words) (f : Frame) (b : Bool) → nat_eq f.context 0 ≡ b → IsWithin m → (f.context ≢ 0 → InHeap (f.context + 7)) → EndsOne (heap_words m) f (heap_words (if b then m else with_word m (f.context + 7) 0))
one_ends m f true e whole there = ((λ z. refl), (λ some. absurd (some (is_zero f.context e))))
one_ends m f false e whole there =
    ((λ z. (let t : nat_eq f.context 0 ≡ true = eq-eqb f.context 0 z in cc)), (λ some. stored_in_heap m (f.context + 7) 0 whole (there some)))

-- All of them.

pub all_alone : (m : Words) (frames : List Frame) → IsWithin m → AreMarked frames → InHeapAlone m (with_all_cleared m (contexts_of frames))
all_alone m [] whole marked = record { low = λ b lt. refl; high = λ b le. refl; within = whole }
all_alone m (f ∷ fs) whole marked =
    let one = one_alone m f.context (nat_eq f.context 0) refl whole marked.0 in
    let more = all_alone (with_cleared m f.context) fs one.within marked.1 in
    record { low = λ b lt. more.low b lt ∙ one.low b lt; high = λ b le. more.high b le ∙ one.high b le; within = more.within }

pub all_end : (m : Words) (frames : List Frame) → IsWithin m → AreMarked frames → Ends (heap_words m) frames (heap_words (with_all_cleared m (contexts_of frames)))
all_end m [] whole marked = refl
all_end m (f ∷ fs) whole marked =
    let one = one_alone m f.context (nat_eq f.context 0) refl whole marked.0 in
    (heap_words (with_cleared m f.context), (one_ends m f (nat_eq f.context 0) refl whole marked.0, all_end (with_cleared m f.context) fs one.within marked.1))

-- The contexts of activations.

cell_word : (mem : Words) (top w : ℕ) (h : Cells) (c : Cell) → Laid mem top h → RefersTo h w c → 2 < size c → InHeap (w + 7)
cell_word mem top w h c laid r lt =
    let i = laid.inside (w - 1) c r.1 in
    let tagged = r.0 in
    let aligned = i.aligned in
    let above = i.above in
    let below = i.below in
    let within = laid.end.within in
    record { aligned = omega arith; above = omega arith; below = omega arith }

one_marked : (z : Sense) (r : Raw) (s : State) → Stands z r s → (wants : ℕ → Bool) (at older : ℕ) (a : Activation) (f : Frame) → IsActivation wants z at older a f → f.context ≢ 0 → InHeap (f.context + 7)
one_marked z r s S wants at older a f is some = by_kind is.kind is.made
  where
    by_kind : (k : Made) → slice_get z.made a.number ≡ Some k → InHeap (f.context + 7)
    by_kind without was = absurd (some (S.heap.means.context a.number f.context without is.context was))
    by_kind Ended was =
        let c = S.heap.means.context a.number f.context Ended is.context was in
        cell_word r.mem r.heap.top f.context z.cells (Context c.map c.outer 0 c.receiver c.locals) S.heap.laid c.there (omega arith)
    by_kind (Live o) was =
        let c = S.heap.means.context a.number f.context (Live o) is.context was in
        cell_word r.mem r.heap.top f.context z.cells (Context c.map c.outer o.mark c.receiver c.locals) S.heap.laid c.there (omega arith)

pub are_marked : (z : Sense) (r : Raw) (s : State) → Stands z r s → (wants : ℕ → Bool) (at : ℕ) (all : List Activation) (frames : List Frame) → AreActivations wants z at all frames → AreMarked frames
are_marked z r s S wants at [] [] are = tt
are_marked z r s S wants at (a ∷ older) (f ∷ fs) are = (one_marked z r s S wants at (length older) a f are.0, are_marked z r s S wants at older fs are.2)
are_marked z r s S wants at [] (f ∷ fs) are = absurd are
are_marked z r s S wants at (a ∷ older) [] are = absurd are

pub first_marked : (k : ℕ) (frames : List Frame) → AreMarked frames → AreMarked (take k frames)
first_marked zero frames are = tt
first_marked (suc k) [] are = tt
first_marked (suc k) (f ∷ fs) are = (are.0, first_marked k fs are.1)
