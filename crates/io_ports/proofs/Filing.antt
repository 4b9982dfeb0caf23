-- A file that is read piece by piece.
use Rattle.std.proofs.Common.{◌≡◌, ℕ, ◌+◌, ◌<◌, ◌≤◌, List, ◌++◌, length, take, arith, ◌∙◌, ap, sym, subst, append-nil, length-drop}
use Rattle.std.specs.Prelude.{Option, Some, Ok}
use Rattle.std.proofs.lemmas.List.{take-append-drop}
use Rattle.std.proofs.Math.Seq.{take-add}
use Rattle.io_ports.specs.Named.{ReadsAt}

-- what was read so far is the front of the file
pub record IsFront (w bytes : List ℕ) (k : ℕ) : Type 0 where
  pub front : bytes ≡ take k w
  pub within : k ≤ length w

pub reads_on : (E : Type 0) (told : Option (List ℕ)) (w bytes piece : List ℕ) (k n : ℕ) → told ≡ Some w → ReadsAt {E = E} told k (Ok n) piece → IsFront w bytes k → IsFront w (bytes ++ take n piece) (k + n)
reads_on E told w bytes piece k n e h f =
    let P : Option (List ℕ) → Type 0 = λ o. ReadsAt {E = E} o k (Ok n) piece in
    let r = subst P e h in
    record {
      front = ap (λ b. b ++ take n piece) f.front ∙ ap (λ b. take k w ++ b) (sym r.0) ∙ sym (take-add k n w);
      within = omega (arith, r.1, f.within, length-drop k w);
    }

pub all_read : (E : Type 0) (told : Option (List ℕ)) (w bytes piece : List ℕ) (k n : ℕ) → told ≡ Some w → ReadsAt {E = E} told k (Ok n) piece → n ≡ 0 → 0 < length piece → IsFront w bytes k → bytes ≡ w
all_read E told w bytes piece k n e h zero_read room f =
    let P : Option (List ℕ) → Type 0 = λ o. ReadsAt {E = E} o k (Ok n) piece in
    let r = subst P e h in
    f.front ∙ sym (append-nil (take k w)) ∙ ap (λ b. take k w ++ b) (sym (r.2 zero_read room)) ∙ take-append-drop k w

pub front_is : (w bytes more : List ℕ) (k n : ℕ) → IsFront w bytes k → more ≡ bytes → n ≡ k → IsFront w more n
front_is w bytes more k n f p q = rw (p, q) f
