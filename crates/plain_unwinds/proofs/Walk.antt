-- What walking the frames of a stack in memory finds is what they show.
use Rattle.std.proofs.Common.{◌≡◌, ℕ, zero, suc, ◌+◌, ◌≤◌, refl, ap, subst, arith}
use Rattle.std.specs.Prelude.{Bool, true, false, nat_eq, if◌then◌else◌, List, [], ◌∷◌, take, drop}
use Rattle.sparc_store.specs.Words.{Words}
use Rattle.sparc_store.specs.Windows.{saved_at}
use Rattle.frame_walk.specs.Places.{Frame}
use Rattle.frame_walk.specs.Walk.{activations, Asked, AreLaid}
use Rattle.raw_steps.specs.Ends.{ending}
use Rattle.plain_runs.specs.Host.{Host, descriptor_at}
use Rattle.plain_unwinds.specs.Frames.{frame_behind, contexts_at, ending_at}
use Rattle.plain_unwinds.proofs.Marks.{contexts_of}

-- so many frames in memory
abbrev pub saved_frames : Host → Words → ℕ → ℕ → ℕ → List Frame
saved_frames h memory n at pc = activations (descriptor_at h) memory n at (saved_at memory at) pc []

pub contexts_shown : (h : Host) (memory : Words) (j n at pc : ℕ) → j ≤ n → contexts_of (take j (saved_frames h memory n at pc)) ≡ contexts_at memory j at
unfolding activations descriptor_at
contexts_shown h memory zero n at pc le = refl
contexts_shown h memory (suc j) zero at pc le = absurd (omega (arith, le))
contexts_shown h memory (suc j) (suc n) at pc le = ap (λ ws. saved_at memory at 1 ∷ ws) (contexts_shown h memory j n (saved_at memory at 14) (saved_at memory at 15 + 8) (omega (arith, le)))

pub all_contexts_shown : (h : Host) (memory : Words) (n at pc : ℕ) → contexts_of (saved_frames h memory n at pc) ≡ contexts_at memory n at
unfolding activations descriptor_at
all_contexts_shown h memory zero at pc = refl
all_contexts_shown h memory (suc n) at pc = ap (λ ws. saved_at memory at 1 ∷ ws) (all_contexts_shown h memory n (saved_at memory at 14) (saved_at memory at 15 + 8))

pub ending_shown : (h : Host) (memory : Words) (n at pc context : ℕ) → ending_at memory n at context ≡ ending context (saved_frames h memory n at pc)
unfolding activations descriptor_at
ending_shown h memory zero at pc context = refl
ending_shown h memory (suc n) at pc context =
    ap (λ q. if nat_eq context 0 then 0 else 1 + q)
    (ending_shown h memory n (saved_at memory at 14) (saved_at memory at 15 + 8) (if nat_eq (saved_at memory at 1) context then saved_at memory at 0 else context))

-- those behind a frame
pub behind_shown : (h : Host) (memory : Words) (k n m at pc : ℕ) → n ≡ k + m
    → (let home = frame_behind memory k at in drop (suc k) (saved_frames h memory (suc n) at pc) ≡ saved_frames h memory m (saved_at memory home 14) (saved_at memory home 15 + 8))
unfolding activations
behind_shown h memory zero n m at pc e = ap (λ q. saved_frames h memory q (saved_at memory at 14) (saved_at memory at 15 + 8)) (let f : n ≡ m = omega (arith, e) in f)
behind_shown h memory (suc k) zero m at pc e = absurd (omega (arith, e))
behind_shown h memory (suc k) (suc n) m at pc e = behind_shown h memory k n m (saved_at memory at 14) (saved_at memory at 15 + 8) (omega (arith, e))

pub behind_laid : (asked : Asked) (entry end : ℕ) (memory : Words) (k n m at : ℕ) → n ≡ k + m
    → AreLaid asked entry end memory n (saved_at memory at 14) (saved_at memory (saved_at memory at 14)) (saved_at memory at 15 + 8) []
    → (let home = frame_behind memory k at in AreLaid asked entry end memory m (saved_at memory home 14) (saved_at memory (saved_at memory home 14)) (saved_at memory home 15 + 8) [])
unfolding AreLaid
behind_laid asked entry end memory zero n m at e laid =
    (let P : ℕ → Type 0 = λ q. AreLaid asked entry end memory q (saved_at memory at 14) (saved_at memory (saved_at memory at 14)) (saved_at memory at 15 + 8) [] in subst P (let f : n ≡ m = omega (arith, e) in f) laid)
behind_laid asked entry end memory (suc k) zero m at e laid = absurd (omega (arith, e))
behind_laid asked entry end memory (suc k) (suc n) m at e laid = behind_laid asked entry end memory k n m (saved_at memory at 14) (omega (arith, e)) laid.1

-- as many end at most as there are
pub ending_most : (memory : Words) (n at context : ℕ) → ending_at memory n at context ≤ n
ending_most memory zero at context = omega arith
ending_most memory (suc n) at context = by_zero (nat_eq context 0) (ending_at memory n (saved_at memory at 14) (if nat_eq (saved_at memory at 1) context then saved_at memory at 0 else context)) (ending_most memory n (saved_at memory at 14) (if nat_eq (saved_at memory at 1) context then saved_at memory at 0 else context))
  where
    by_zero : (b : Bool) (q : ℕ) → q ≤ n → (if b then 0 else 1 + q) ≤ suc n
    by_zero b q le = elim b as (λ v. (if v then 0 else 1 + q) ≤ suc n) [ true ↦ omega arith | false ↦ omega arith ]
