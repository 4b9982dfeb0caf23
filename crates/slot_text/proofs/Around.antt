-- What is open innermost, and a step outwards through what is open.
use Rattle.std.proofs.Common.{◌≡◌, ℕ, zero, suc, ◌+◌, Bool, List, [], ◌∷◌, drop, refl, sym, ap, ◌∙◌}
use Rattle.std.specs.Prelude.{Some, None, slice_get}
use Rattle.self_terms.specs.declared.bodies.Body.{Body}
use Rattle.self_terms.specs.Bodies.{Entry, entries_of, number_of}
use Rattle.world_build.specs.Nodes.{found, or_outer}
use Rattle.world_build.specs.SlotParts.{built_of}
use Rattle.world_build.specs.SlotTexts.{Told, nothing_told}
use Rattle.world_build.proofs.Fronts.{drop_there, drop_past}

pub none_open : {X : Type 0} (f : List ℕ → X) (around : List ℕ) → slice_get around 0 ≡ None → f around ≡ f []
none_open f around e = ap f (drop_past around 0 e)

pub some_open : {X : Type 0} (f : List ℕ → X) (around : List ℕ) (b : ℕ) → slice_get around 0 ≡ Some b → f around ≡ f (b ∷ drop 1 around)
some_open f around b e = ap f (drop_there around 0 b e)

-- these bodies are open
abbrev pub opens : List ℕ → Told
opens around = record (nothing_told []) { loading = built_of [] [] [] around None [] 0 }

drops : (around : List ℕ) (up : ℕ) → drop up (opens around).loading.around ≡ (opens (drop up around)).loading.around
drops [] zero = refl
drops [] (suc up) = refl
drops (b ∷ around) zero = refl
drops (b ∷ around) (suc up) = drops around up

module _ (p : Entry → Bool) (up : ℕ) (bodies : List Body) (around : List ℕ) where
  pub nothing_out : slice_get around up ≡ None → found p up bodies (drop up (opens around).loading.around) ≡ None
  nothing_out e = ap (found p up bodies) (drops around up ∙ ap (λ a. (opens a).loading.around) (drop_past around up e))

  next_out : (b : ℕ) → slice_get around up ≡ Some b →
      found p up bodies (drop up (opens around).loading.around) ≡ or_outer (number_of p 0 (entries_of bodies b)) up (found p (up + 1) bodies (drop (up + 1) (opens around).loading.around))
  next_out b e =
      ap (found p up bodies) (drops around up ∙ ap (λ a. (opens a).loading.around) (drop_there around up b e))
      ∙ ap (λ a. or_outer (number_of p 0 (entries_of bodies b)) up (found p (up + 1) bodies a)) (sym (drops around (up + 1)))

  pub found_out : (b i : ℕ) → slice_get around up ≡ Some b → number_of p 0 (entries_of bodies b) ≡ Some i → found p up bodies (drop up (opens around).loading.around) ≡ Some (up, i)
  found_out b i e f = next_out b e ∙ ap (λ r. or_outer r up (found p (up + 1) bodies (drop (up + 1) (opens around).loading.around))) f

  pub further_out : (b : ℕ) → slice_get around up ≡ Some b → number_of p 0 (entries_of bodies b) ≡ None →
      found p up bodies (drop up (opens around).loading.around) ≡ found p (up + 1) bodies (drop (up + 1) (opens around).loading.around)
  further_out b e f = next_out b e ∙ ap (λ r. or_outer r up (found p (up + 1) bodies (drop (up + 1) (opens around).loading.around))) f
