-- A step outwards through what is open.
use Rattle.std.proofs.Common.{◌≡◌, ℕ, ◌+◌, Bool, List, drop, ap, ◌∙◌}
use Rattle.std.specs.Prelude.{Some, None, slice_get}
use Rattle.self_terms.specs.declared.bodies.Body.{Body}
use Rattle.self_terms.specs.Bodies.{Entry, entries_of, number_of}
use Rattle.world_build.specs.declared.values.Open.{Open}
use Rattle.world_build.specs.declared.values.Open.TheVariants.{InObject as in_object, InBody as in_body}
use Rattle.world_build.specs.Nodes.{found, or_outer}
use Rattle.world_build.proofs.Fronts.{drop_there, drop_past}

module _ (p : Entry → Bool) (up : ℕ) (bodies : List Body) (around : List Open) where
  pub nothing_out : slice_get around up ≡ None → found p up bodies (drop up around) ≡ None
  nothing_out e = ap (found p up bodies) (drop_past around up e)

  pub object_out : (o : ℕ) → slice_get around up ≡ Some (in_object o) → found p up bodies (drop up around) ≡ None
  object_out o e = ap (found p up bodies) (drop_there around up (in_object o) e)

  pub found_out : (b i : ℕ) → slice_get around up ≡ Some (in_body b) → number_of p 0 (entries_of bodies b) ≡ Some i → found p up bodies (drop up around) ≡ Some (up, i)
  found_out b i e f = ap (found p up bodies) (drop_there around up (in_body b) e) ∙ ap (λ r. or_outer r up (found p (up + 1) bodies (drop (up + 1) around))) f

  pub further_out : (b : ℕ) → slice_get around up ≡ Some (in_body b) → number_of p 0 (entries_of bodies b) ≡ None → found p up bodies (drop up around) ≡ found p (up + 1) bodies (drop (up + 1) around)
  further_out b e f = ap (found p up bodies) (drop_there around up (in_body b) e) ∙ ap (λ r. or_outer r up (found p (up + 1) bodies (drop (up + 1) around))) f
