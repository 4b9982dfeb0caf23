-- The references to the objects of a world, one after the other.
use Rattle.std.proofs.Common.{◌≡◌, ℕ, zero, suc, ◌+◌, ◌<◌, refl, ◌∙◌, ap, sym, arith, drop}
use Rattle.std.specs.Prelude.{List, [], ◌∷◌, ◌++◌, length}
use Rattle.source_model.specs.declared.objects.Thing.{Thing}
use Rattle.world_build.specs.Worlds.{World}
use Rattle.world_heap.specs.Layout.{reference}
use Rattle.world_heap.specs.Heaps.{references_from}

one_of_rest : (w : World) (n k next : ℕ) (xs : List Thing) → k < length xs → next ≡ k + 1
    → references_from w n (drop k xs) ≡ reference w.things n ∷ references_from w (n + 1) (drop next xs)
one_of_rest w n k next [] lt e = absurd (omega arith)
one_of_rest w n zero next (x ∷ xs) lt e = let f : next ≡ suc zero = omega arith in rw f refl
one_of_rest w n (suc k) next (x ∷ xs) lt e = let f : next ≡ suc (k + 1) = omega arith in rw f (one_of_rest w n k (k + 1) xs (omega arith) refl)

joined : (xs : List ℕ) (y : ℕ) (ys : List ℕ) → (xs ++ y ∷ []) ++ ys ≡ xs ++ y ∷ ys
joined [] y ys = refl
joined (x ∷ xs) y ys = ap (λ zs. x ∷ zs) (joined xs y ys)

-- one more, and the rest
pub places_on : (w : World) (done : List ℕ) (k : ℕ) (xs : List Thing) → k < length xs
    → (done ++ reference w.things k ∷ []) ++ references_from w (k + 1) (drop (k + 1) xs) ≡ done ++ references_from w k (drop k xs)
places_on w done k xs lt = joined done (reference w.things k) _ ∙ ap (λ ys. done ++ ys) (sym (one_of_rest w k k (k + 1) xs lt refl))
