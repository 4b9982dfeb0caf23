-- The texts of bodies, by rows of what their locals hold.
use Rattle.std.proofs.Common.{◌≡◌, ℕ, zero, suc, ◌+◌, List, [], ◌∷◌, length, refl, ap, ◌∙◌, arith}
use Rattle.std.specs.Prelude.{None, Some, map, slice_get}
use Rattle.self_terms.specs.declared.bodies.Body.{Body}
use Rattle.source_model.specs.Edits.{Initial}
use Rattle.world_build.specs.SlotParts.{built_of}
use Rattle.world_build.specs.SlotTexts.{locals_with, initials_of, body_text, body_texts, text_of_thing}
use Rattle.slot_text.specs.declared.contents.InitialTold.{InitialTold}
use Rattle.slot_text.specs.Contents.{initial, body_with, bodies_with}
use Rattle.slot_text.specs.Telling.{AreRows}

pub length-bodies_with : (rows : List (List InitialTold)) (bs : List Body) → length rows ≡ length bs → length (bodies_with rows bs) ≡ length bs
length-bodies_with rows [] e = refl
length-bodies_with [] (b ∷ bs) e = omega (arith, e)
length-bodies_with (r ∷ rows) (b ∷ bs) e = omega (arith, length-bodies_with rows bs (omega (arith, e)))

pub get-bodies_with : (rows : List (List InitialTold)) (bs : List Body) (k : ℕ) (r : List InitialTold) (b : Body) → slice_get rows k ≡ Some r → slice_get bs k ≡ Some b → slice_get (bodies_with rows bs) k ≡ Some (body_with r b)
get-bodies_with rows [] k r b e f = absurd (cc)
get-bodies_with [] (y ∷ bs) k r b e f = absurd (cc)
get-bodies_with (x ∷ rows) (y ∷ bs) zero r b e f =
    let same : x ≡ r = cc in
    let too : y ≡ b = cc in
    ap (λ z. Some (body_with z y)) same ∙ ap (λ z. Some (body_with r z)) too
get-bodies_with (x ∷ rows) (y ∷ bs) (suc k) r b e f = get-bodies_with rows bs k r b e f

texts_from : (all : List (ℕ × Initial)) (n : ℕ) (rows : List (List InitialTold)) (bs : List Body) → length rows ≡ length bs →
    ((k m : ℕ) (row : List InitialTold) → slice_get rows k ≡ Some row → m ≡ n + k → map initial row ≡ initials_of m all) → bodies_with rows bs ≡ body_texts all n bs
texts_from all n rows [] e h = refl
texts_from all n [] (b ∷ bs) e h = absurd (omega (arith, e))
texts_from all n (r ∷ rows) (b ∷ bs) e h =
    let one : map initial r ≡ initials_of n all = h 0 n r refl (omega arith) in
    let rest : bodies_with rows bs ≡ body_texts all (n + 1) bs = texts_from all (n + 1) rows bs (omega (arith, e)) (λ k m row at same. h (suc k) m row at (omega (arith, same))) in
    let text : body_with r b ≡ body_text all n b =
    ap (λ is. record { name = b.name; outer = b.outer; arguments = b.arguments; locals = locals_with b.locals is; nodes = b.nodes; places = b.places }) one in
    ap (λ x. x ∷ bodies_with rows bs) text ∙ ap (λ xs. body_text all n b ∷ xs) rest

pub texts_of_rows : (all : List (ℕ × Initial)) (rows : List (List InitialTold)) (bs : List Body) → AreRows (length bs) all rows → bodies_with rows bs ≡ body_texts all 1 bs
texts_of_rows all rows bs h = texts_from all 1 rows bs h.many (λ k m row at same. h.each k row at ∙ (let eq : k + 1 ≡ m = omega (arith, same) in ap (λ x. initials_of x all) eq))

-- all objects of an edit's text are strings
pub texts_of_strings : (strings : List (List ℕ)) → map text_of_thing (built_of [] strings [] [] None [] 0).things ≡ strings
texts_of_strings [] = refl
texts_of_strings (x ∷ xs) = ap (λ ys. x ∷ ys) (texts_of_strings xs)
