-- The line of a frame, part by part.
use Rattle.std.proofs.Common.{◌≡◌, ℕ, zero, suc, ◌+◌, ◌-◌, ◌<◌, ◌≤◌, List, [], ◌∷◌, ◌++◌, length, get_or, take, drop, refl, ap, sym, ◌∙◌, arith, length-append, append_assoc, codes}
use Rattle.std.proofs.lemmas.List.{append-nil, take_rest}
use Rattle.std.specs.Prelude.{slice_get, Some, None, flat_map, ◌==◌, false}
use Rattle.self_terms.specs.declared.nodes.Place.{Place}
use Rattle.source_model.specs.declared.objects.Core.{Core}
use Rattle.source_model.specs.Names.{text_named}
use Rattle.session_text.specs.declared.lines.ShownValue.{ShownValue}
use Rattle.session_text.specs.Values.{shown_text}
use Rattle.session_text.specs.Frames.{local_text, locals_text, values_text, pending_text}

pub none_there : (ps : List Place) (k : ℕ) (d : Place) → slice_get ps k ≡ None → get_or ps k d ≡ d
none_there [] zero d e = refl
none_there [] (suc k) d e = refl
none_there (p ∷ ps) zero d e = absurd (cc)
none_there (p ∷ ps) (suc k) d e = none_there ps k d e

no_values : (core : Core) (names : List (List ℕ)) (xs : List ℕ) → locals_text core names xs [] ≡ []
no_values core names [] = refl
no_values core names (x ∷ xs) = refl

-- no name is left
pub locals_out : (core : Core) (names : List (List ℕ)) (xs : List ℕ) (vs : List ShownValue) (k : ℕ) → slice_get xs k ≡ None → locals_text core names (drop k xs) (drop k vs) ≡ []
locals_out core names [] vs zero e = refl
locals_out core names [] vs (suc k) e = refl
locals_out core names (x ∷ xs) vs zero e = absurd (cc)
locals_out core names (x ∷ xs) [] (suc k) e = no_values core names (drop k xs)
locals_out core names (x ∷ xs) (v ∷ vs) (suc k) e = locals_out core names xs vs k e

-- no value is left
pub values_out : (core : Core) (names : List (List ℕ)) (xs : List ℕ) (vs : List ShownValue) (k : ℕ) → length vs ≤ k → locals_text core names (drop k xs) (drop k vs) ≡ []
values_out core names xs [] zero le = no_values core names xs
values_out core names xs (v ∷ vs) zero le = absurd (omega arith)
values_out core names [] vs (suc k) le = refl
values_out core names (x ∷ xs) [] (suc k) le = no_values core names (drop k xs)
values_out core names (x ∷ xs) (v ∷ vs) (suc k) le = values_out core names xs vs k (omega arith)

-- the next local
pub locals_next : (core : Core) (names : List (List ℕ)) (xs : List ℕ) (vs : List ShownValue) (k x : ℕ) (d : ShownValue) → slice_get xs k ≡ Some x → k < length vs
    → locals_text core names (drop k xs) (drop k vs) ≡ local_text core names (x, get_or vs k d) ++ locals_text core names (drop (k + 1) xs) (drop (k + 1) vs)
locals_next core names [] vs zero x d e lt = absurd (cc)
locals_next core names [] vs (suc k) x d e lt = absurd (cc)
locals_next core names (y ∷ xs) [] k x d e lt = absurd (omega arith)
locals_next core names (y ∷ xs) (v ∷ vs) zero x d e lt = let same : y ≡ x = cc in ap (λ z. local_text core names (z, v) ++ locals_text core names xs vs) same
locals_next core names (y ∷ xs) (v ∷ vs) (suc k) x d e lt =
    let one : suc k + 1 ≡ suc (k + 1) = omega arith in
    locals_next core names xs vs k x d e (omega arith) ∙ ap (λ n. local_text core names (x, get_or vs k d) ++ locals_text core names (drop n (y ∷ xs)) (drop n (v ∷ vs))) (sym one)

-- a list that is all but done is done
pub done : (self rest whole start : List ℕ) → self ++ rest ≡ start ++ whole → rest ≡ [] → self ≡ start ++ whole
done self rest whole start e none = sym (append-nil self) ∙ ap (λ r. self ++ r) (sym none) ∙ e

pub done_len : (self rest whole start : List ℕ) → self ++ rest ≡ start ++ whole → rest ≡ [] → length self ≡ length start + length whole
done_len self rest whole start e none = ap length (done self rest whole start e none) ∙ length-append start whole

-- one piece more
pub piece_more : (self new piece rest next whole : List ℕ) → self ++ rest ≡ whole → rest ≡ piece ++ next → new ≡ self ++ piece → new ++ next ≡ whole
piece_more self new piece rest next whole e r n = ap (λ z. z ++ next) n ∙ append_assoc self piece next ∙ ap (λ z. self ++ z) (sym r) ∙ e

pub piece_few : (self new piece rest next : List ℕ) (most : ℕ) → length self + length rest ≤ most → rest ≡ piece ++ next → new ≡ self ++ piece → length new + length next ≤ most
piece_few self new piece rest next most le r n =
    let a = ap length r ∙ length-append piece next in
    let b = ap length n ∙ length-append self piece in
    omega (arith, a, b)

pub piece_fits : (self piece rest next : List ℕ) (most : ℕ) → length self + length rest ≤ most → rest ≡ piece ++ next → length self + length piece ≤ most
piece_fits self piece rest next most le r = let a = ap length r ∙ length-append piece next in omega (arith, a)

spaced : (core : Core) (v : ShownValue) (vs : List ShownValue) → values_text core (v ∷ vs) ≡ shown_text core v ++ flat_map (λ w. codes " " ++ shown_text core w) vs
spaced core v [] = sym (append-nil (shown_text core v))
spaced core v (w ∷ vs) = ap (λ z. shown_text core v ++ (32 ∷ z)) (spaced core w vs)

-- the first of some values, and the others
pub values_are : (core : Core) (vs : List ShownValue) (d : ShownValue) → 0 < length vs → values_text core vs ≡ shown_text core (get_or vs 0 d) ++ flat_map (λ w. codes " " ++ shown_text core w) (drop 1 vs)
values_are core [] d lt = absurd (omega arith)
values_are core (v ∷ vs) d lt = spaced core v vs

pub none_text : (core : Core) (vs : List ShownValue) → length vs ≡ 0 → values_text core vs ≡ []
none_text core [] e = refl
none_text core (v ∷ vs) e = absurd (omega arith)

pub rest_fits : (core : Core) (vs : List ShownValue) (d : ShownValue) (self new : List ℕ) (most : ℕ) → 0 < length vs → length self + length (values_text core vs) ≤ most
    → new ≡ self ++ shown_text core (get_or vs 0 d) → length new + length (flat_map (λ w. codes " " ++ shown_text core w) (take (length vs - 1) (drop 1 vs))) ≤ most
rest_fits core vs d self new most some le e =
    rw (take_rest vs 1) (piece_few self new (shown_text core (get_or vs 0 d)) (values_text core vs) (flat_map (λ w. codes " " ++ shown_text core w) (drop 1 vs)) most le (values_are core vs d some) e)

pub values_done : (core : Core) (vs : List ShownValue) (d : ShownValue) (self new last : List ℕ) → 0 < length vs → new ≡ self ++ shown_text core (get_or vs 0 d)
    → last ≡ new ++ flat_map (λ w. codes " " ++ shown_text core w) (take (length vs - 1) (drop 1 vs)) → last ≡ self ++ values_text core vs
values_done core vs d self new last some e f =
    f ∙ ap (λ z. new ++ flat_map (λ w. codes " " ++ shown_text core w) z) (take_rest vs 1)
    ∙ ap (λ z. z ++ flat_map (λ w. codes " " ++ shown_text core w) (drop 1 vs)) e
    ∙ append_assoc self (shown_text core (get_or vs 0 d)) (flat_map (λ w. codes " " ++ shown_text core w) (drop 1 vs))
    ∙ ap (λ z. self ++ z) (sym (values_are core vs d some))

-- parts of a line of so many bytes
pub parts_fit : (head locals pending end : List ℕ) (most : ℕ) → length (head ++ locals ++ pending ++ end) ≤ most → (length head + length locals ≤ most) × (length head + length locals + length pending ≤ most)
parts_fit head locals pending end most le =
    let a = length-append (head ++ locals ++ pending) end in
    let b = length-append (head ++ locals) pending in
    let d = length-append head locals in
    (omega (arith, a, b, d), omega (arith, a, b, d))

pub fit_locals : (core : Core) (names : List (List ℕ)) (xs : List ℕ) (vs ws : List ShownValue) (self head pending end : List ℕ) (most : ℕ) → self ≡ head → vs ≡ ws
    → length (head ++ locals_text core names xs ws ++ pending ++ end) ≤ most → length self + length (locals_text core names xs vs) ≤ most
fit_locals core names xs vs ws self head pending end most e f le =
    let a = ap length e in
    let b = ap (λ z. length (locals_text core names xs z)) f in
    omega (arith, a, b, (parts_fit head (locals_text core names xs ws) pending end most le).0)

pub fit_pending : (core : Core) (names : List (List ℕ)) (xs : List ℕ) (vs ws ps qs : List ShownValue) (self before head end : List ℕ) (most : ℕ) → before ≡ head → vs ≡ ws → ps ≡ qs
    → self ≡ before ++ locals_text core names xs vs → length (head ++ locals_text core names xs ws ++ pending_text core qs ++ end) ≤ most → length self + length (pending_text core ps) ≤ most
fit_pending core names xs vs ws ps qs self before head end most e f g h le =
    let a = ap length e in
    let b = ap (λ z. length (locals_text core names xs z)) f in
    let d = ap (λ z. length (pending_text core z)) g in
    let k = ap length h ∙ length-append before (locals_text core names xs vs) in
    omega (arith, a, b, d, k, (parts_fit head (locals_text core names xs ws) (pending_text core qs) end most le).1)

pub some_values : (n : ℕ) → (n == 0) ≡ false → 0 < n
some_values zero e = absurd (cc)
some_values (suc n) e = omega arith

-- How long they are.

abbrev names_text : List (List ℕ) → List ℕ → List ℕ
names_text names xs = flat_map (text_named names) xs

abbrev behind_spaces : Core → List ShownValue → List ℕ
behind_spaces core vs = flat_map (λ w. codes " " ++ shown_text core w) vs

local_long : (core : Core) (names : List (List ℕ)) (x : ℕ) (v : ShownValue) → length (local_text core names (x, v)) ≡ 2 + length (text_named names x) + length (shown_text core v)
local_long core names x v =
    let a = length-append (codes " " ++ text_named names x ++ codes "=") (shown_text core v) in
    let b = length-append (codes " " ++ text_named names x) (codes "=") in
    let d = length-append (codes " ") (text_named names x) in
    omega (arith, a, b, d)

pub locals_long : (core : Core) (names : List (List ℕ)) (xs : List ℕ) (vs : List ShownValue) → length (locals_text core names xs vs) ≤ length (names_text names xs) + length (behind_spaces core vs) + length vs
locals_long core names [] vs = omega arith
locals_long core names (x ∷ xs) [] = omega arith
locals_long core names (x ∷ xs) (v ∷ vs) =
    let rest = locals_long core names xs vs in
    let one = local_long core names x v in
    let a = length-append (local_text core names (x, v)) (locals_text core names xs vs) in
    let b = length-append (text_named names x) (names_text names xs) in
    let d = length-append (codes " " ++ shown_text core v) (behind_spaces core vs) in
    let e = length-append (codes " ") (shown_text core v) in
    omega (arith, rest, one, a, b, d, e)

values_long : (core : Core) (vs : List ShownValue) → length (values_text core vs) ≤ length (behind_spaces core vs)
values_long core [] = omega arith
values_long core (v ∷ vs) =
    let a = ap length (spaced core v vs) ∙ length-append (shown_text core v) (behind_spaces core vs) in
    let d = length-append (codes " " ++ shown_text core v) (behind_spaces core vs) in
    let e = length-append (codes " ") (shown_text core v) in
    omega (arith, a, d, e)

pub pending_long : (core : Core) (vs : List ShownValue) (most : ℕ) → length (behind_spaces core vs) ≤ most → length (pending_text core vs) ≤ 3 + most
pending_long core vs most le =
    let a = length-append (codes " [" ++ values_text core vs) (codes "]") in
    let b = length-append (codes " [") (values_text core vs) in
    omega (arith, a, b, values_long core vs)
