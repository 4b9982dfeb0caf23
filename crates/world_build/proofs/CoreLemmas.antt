-- Steps of the two loops at a world's end: a core object more, and a fixed string more.
use Rattle.std.proofs.Common.{◌≡◌, ℕ, ◌+◌, ◌<◌, List, [], ◌∷◌, ◌++◌, map, drop, length, get_or, refl, sym, ap, ◌∙◌, append_assoc}
use Rattle.std.specs.Prelude.{Result, Ok, Err, Some}
use Rattle.std.specs.Borrow.{Bor}
use Rattle.std.proofs.lemmas.Option.{slice_get-get_or}
use Rattle.world_build.specs.declared.cores.CoreName.{CoreName}
use Rattle.source_model.specs.declared.objects.Thing.{Thing}
use Rattle.source_model.specs.declared.objects.Thing.TheVariants.{Text}
use Rattle.world_build.specs.declared.refusals.BuildRefusal.{BuildRefusal}
use Rattle.world_build.specs.declared.loading.Loading.{Loading}
use Rattle.world_build.specs.Worlds.{core_object, with_core, cores}
use Rattle.world_build.proofs.Fronts.{drop_there}

-- these objects, and then those
abbrev pub behind : List ℕ → Result (List ℕ) BuildRefusal → Result (List ℕ) BuildRefusal
behind xs (Ok os) = Ok (xs ++ os)
behind xs (Err r) = Err r

behind_more : (xs : List ℕ) (o : ℕ) (n : CoreName) (r : Result (List ℕ) BuildRefusal) → behind (xs ++ o ∷ []) r ≡ behind xs (with_core n (Some o) r)
behind_more xs o n (Ok os) = ap Ok (append_assoc xs (o ∷ []) os)
behind_more xs o n (Err r) = refl

-- one core object more
pub core_more : (s : Loading) (names : List CoreName) (at : ℕ) (d : CoreName) (xs ys : List ℕ) (o : ℕ)
    → at < length names → core_object s (get_or names at d) ≡ Some o → ys ≡ xs ++ o ∷ []
    → behind ys (cores s (drop (at + 1) names)) ≡ behind xs (cores s (drop at names))
core_more s names at d xs ys o h e f =
    let n = get_or names at d in
    ap (λ z. behind z (cores s (drop (at + 1) names))) f
    ∙ behind_more xs o n (cores s (drop (at + 1) names))
    ∙ ap (λ z. behind xs (with_core n z (cores s (drop (at + 1) names)))) (sym e)
    ∙ ap (λ z. behind xs (cores s z)) (sym (drop_there names at n (slice_get-get_or names at d h)))

-- one string more
pub string_more : (things new : List Thing) (texts : List (Bor (List ℕ))) (at : ℕ) (d : Bor (List ℕ))
    → at < length texts → new ≡ things ++ Text (get_or texts at d).now ∷ []
    → new ++ map Text (map (λ (t : Bor (List ℕ)). t.now) (drop (at + 1) texts)) ≡ things ++ map Text (map (λ (t : Bor (List ℕ)). t.now) (drop at texts))
string_more things new texts at d h e =
    let x = get_or texts at d in
    ap (λ z. z ++ map Text (map (λ (t : Bor (List ℕ)). t.now) (drop (at + 1) texts))) e
    ∙ append_assoc things (Text x.now ∷ []) (map Text (map (λ (t : Bor (List ℕ)). t.now) (drop (at + 1) texts)))
    ∙ ap (λ z. things ++ map Text (map (λ (t : Bor (List ℕ)). t.now) z)) (sym (drop_there texts at x (slice_get-get_or texts at d h)))
