-- A walk under way: what it keeps true, and each of its steps.
use Rattle.std.proofs.Common.{◌≡◌, ℕ, zero, suc, ◌+◌, ◌-◌, ◌≤◌, Bool, true, false, eqb, List, [], ◌∷◌, ◌++◌, ◌⊎◌, inl, inr, refl, sym, ap, ◌∙◌, length, arith, append_assoc}
use Rattle.std.proofs.lemmas.Bool.{cases_Bool, or_cases, or_right, or_left, or_parts, eqb-true, eq-eqb, true≢false, ne_eqb, cases_eq}
use Rattle.std.proofs.lemmas.Cmp.{nat_eq_equiv}
use Rattle.std.proofs.lemmas.Map.Made.{length-le_from_is_member}
use Rattle.std.specs.List.{IsDistinct, AllByRecursion}
use Rattle.std.specs.Prelude.{flat_map, fold, Option, Some, None}
use Rattle.source_model.specs.Lookup.{holders, also, Among, Found, NotUnderstood, One, Ambiguous}
use Rattle.slot_lookup.proofs.Holds.{Among-flat_map, is_in, at_visited, at_holder, at_other, at_none}

-- an object on the way, and its parents that are still to be seen
abbrev pub Frame : Type 0
Frame = ℕ × List ℕ

abbrev pub so_far : Option ℕ → Found
so_far None = NotUnderstood
so_far (Some h) = One h

pub Among-is_in : (v : ℕ) (xs : List ℕ) → Among v xs → is_in xs v ≡ true
Among-is_in v [] h = absurd h
Among-is_in v (x ∷ xs) (inl e) = or_left (eqb v x) (is_in xs v) (eq-eqb v x e)
Among-is_in v (x ∷ xs) (inr h) = or_right (eqb v x) (is_in xs v) (Among-is_in v xs h)

pub is_in-Among : (v : ℕ) (xs : List ℕ) → is_in xs v ≡ true → Among v xs
is_in-Among v [] h = absurd (true≢false (sym h))
is_in-Among v (x ∷ xs) h = elim (or_cases (eqb v x) (is_in xs v) h) [ inl e ↦ inl (eqb-true v x e) | inr t ↦ inr (is_in-Among v xs t) ]

none_some : (h : ℕ) → ◌≡◌ {A = Option ℕ} None (Some h) → ⊥
none_some h e = cc

some_inj : (a b : ℕ) → ◌≡◌ {A = Option ℕ} (Some a) (Some b) → a ≡ b
some_inj a b e = cc

-- holders that are known already change nothing
known_skip : (first : Option ℕ) (xs ys : List ℕ) → ((y : ℕ) → Among y xs → first ≡ Some y) → fold also (so_far first) (xs ++ ys) ≡ fold also (so_far first) ys
known_skip first [] ys h = refl
known_skip first (x ∷ xs) ys h =
    let e : first ≡ Some x = h x (inl refl) in
    let f : also (so_far first) x ≡ so_far first = rw (e, eq-eqb x x refl) refl in
    ap (λ z. fold also z (xs ++ ys)) f ∙ known_skip first xs ys (λ y a. h y (inr a))

fold_ambiguous : (a b : ℕ) (xs : List ℕ) → fold also (Ambiguous a b) xs ≡ Ambiguous a b
fold_ambiguous a b [] = refl
fold_ambiguous a b (x ∷ xs) = fold_ambiguous a b xs

apart_all : (o : ℕ) (seen : List ℕ) → is_in seen o ≡ false → AllByRecursion (λ y. eqb o y ≡ false) seen
apart_all o [] e = tt
apart_all o (v ∷ seen) e = let r = or_parts (eqb o v) (is_in seen o) e in (r.0, apart_all o seen r.1)

pub distinct_more : (o : ℕ) (seen : List ℕ) → is_in seen o ≡ false → IsDistinct eqb seen → IsDistinct eqb (o ∷ seen)
unfolding IsDistinct
distinct_more o seen e d = (apart_all o seen e, d)

pub none_distinct : IsDistinct eqb []
unfolding IsDistinct
none_distinct = tt

-- objects that differ are at most as many as all
pub few : (all seen : List ℕ) → IsDistinct eqb seen → ((x : ℕ) → Among x seen → Among x all) → length seen ≤ length all
few all seen apart inside = length-le_from_is_member nat_eq_equiv seen all apart (λ q e. Among-is_in q all (inside q (is_in-Among q seen e)))

-- `base` counts as visited from the start; the parents of the lowest frame are looked at with `levels` levels
module _ (has : ℕ → Bool) (parents : ℕ → List ℕ) (base : List ℕ) (levels : ℕ) (all : List ℕ) where
  -- what counts as visited where the parents of the object of the top frame are looked at
  abbrev pub way_at : ℕ → List Frame → List ℕ
  way_at x [] = base
  way_at x (g ∷ below) = x ∷ way_at g.0 below

  abbrev pub way : List Frame → List ℕ
  way [] = []
  way (f ∷ below) = way_at f.0 below

  -- y is the object of a frame, and may not be entered again
  abbrev pub Tied : ℕ → ℕ → List Frame → Type 0
  Tied y x [] = Among y base
  Tied y x (g ∷ below) = y ≡ x

  -- a parent of y is still to be seen
  abbrev pub Waits : ℕ → ℕ → List Frame → Type 0
  Waits y p [] = ⊥
  Waits y p (f ∷ below) = (Tied y f.0 below × Among p f.1) ⊎ Waits y p below

  -- what the recursion would still find, from the top frame on
  abbrev pub rest : List Frame → List ℕ
  rest [] = []
  rest (f ∷ below) = flat_map (λ p. holders has parents (levels - length below) p (way_at f.0 below)) f.1 ++ rest below

  pub record Going (whole : Found) (seen : List ℕ) (frames : List Frame) (first : Option ℕ) : Type 0 where
    pub answer : fold also (so_far first) (rest frames) ≡ whole
    pub grey : (y : ℕ) → Among y (way frames) → Among y seen × (has y ≡ false)
    pub closed : (y p : ℕ) → Among y seen → has y ≡ false → Among p (parents y) → Among p seen ⊎ Waits y p frames
    pub met : (h : ℕ) → Among h seen → has h ≡ true → first ≡ Some h
    pub only : (h : ℕ) → first ≡ Some h → Among h seen
    pub deep : length frames + length all ≤ length seen + suc levels
    pub apart : IsDistinct eqb seen
    pub inside : (y : ℕ) → Among y seen → Among y all

  Tied-way : (y x : ℕ) (below : List Frame) → Tied y x below → Among y (way_at x below)
  Tied-way y x [] h = h
  Tied-way y x (g ∷ below) h = inl h

  way_below : (x y : ℕ) (below : List Frame) → Among y (way below) → Among y (way_at x below)
  way_below x y [] h = absurd h
  way_below x y (g ∷ below) h = inr h

  Waits-Among : (y p : ℕ) (frames : List Frame) → Waits y p frames → Among y (way frames)
  Waits-Among y p [] h = absurd h
  Waits-Among y p (f ∷ below) (inl w) = Tied-way y f.0 below w.0
  Waits-Among y p (f ∷ below) (inr h) = way_below f.0 y below (Waits-Among y p below h)

  module _ (whole : Found) (seen : List ℕ) (frames : List Frame) (first : Option ℕ) (g : Going whole seen frames first) where
    -- from an object that was seen, the recursion meets seen holders alone
    old_news : (n o : ℕ) (visited : List ℕ) → ((v : ℕ) → Among v (way frames) → is_in visited v ≡ true) → Among o seen
        → (y : ℕ) → Among y (holders has parents n o visited) → Among y seen × (has y ≡ true)
    old_news zero o visited wide s y h = absurd (rw (at_none has parents o visited) at h)
    old_news (suc n) o visited wide s y h = elim (cases_Bool (is_in visited o)) [
      | inl e ↦ absurd (rw (at_visited has parents n o visited e) at h)
      | inr e ↦ elim (cases_Bool (has o)) [
        | inl f ↦ elim (rw (at_holder has parents n o visited e f) at h) [ inl same ↦ (rw same s, rw same f) | inr bad ↦ absurd bad ]
        | inr f ↦
            let r = Among-flat_map (λ p. holders has parents n p (o ∷ visited)) y (parents o) (rw (at_other has parents n o visited e f) at h) in
            let wider : (v : ℕ) → Among v (way frames) → is_in (o ∷ visited) v ≡ true = λ v a. or_right (eqb v o) (is_in visited v) (wide v a) in
            elim (g.closed o r.0 s f r.1) [
              | inl seen_p ↦ old_news n r.0 (o ∷ visited) wider seen_p y r.2
              | inr waits ↦ absurd (true≢false (sym (wide o (Waits-Among o r.0 frames waits)) ∙ e))
            ]
      ]
    ]

  module _ (whole : Found) (seen : List ℕ) (x p : ℕ) (more : List ℕ) (below : List Frame) (first : Option ℕ) where
    -- a parent that was seen
    pub seen_again : Going whole seen ((x, p ∷ more) ∷ below) first → Among p seen → Going whole seen ((x, more) ∷ below) first
    seen_again g s =
        let frames : List Frame = (x, p ∷ more) ∷ below in
        let f : ℕ → List ℕ = λ q. holders has parents (levels - length below) q (way_at x below) in
        let wide : (v : ℕ) → Among v (way frames) → is_in (way_at x below) v ≡ true = λ v a. Among-is_in v (way_at x below) a in
        let skip : fold also (so_far first) (f p ++ (flat_map f more ++ rest below)) ≡ fold also (so_far first) (flat_map f more ++ rest below) =
        known_skip first (f p) (flat_map f more ++ rest below)
        (λ y a. let r = old_news whole seen frames first g (levels - length below) p (way_at x below) wide s y a in g.met y r.0 r.1) in
        record {
          answer = sym skip ∙ ap (fold also (so_far first)) (sym (append_assoc (f p) (flat_map f more) (rest below))) ∙ g.answer;
          grey = g.grey;
          closed = λ y q sy hy a. elim (g.closed y q sy hy a) [
            | inl t ↦ inl t
            | inr w ↦ elim w [ inl w ↦ elim w.1 [ inl e ↦ inl (rw e s) | inr m ↦ inr (inl (w.0, m)) ] | inr b ↦ inr (inr b) ]
          ];
          met = g.met;
          only = g.only;
          deep = g.deep;
          apart = g.apart;
          inside = g.inside;
        }

    -- the last parent of a frame is done
    pub frame_done : Going whole seen ((x, []) ∷ below) first → Going whole seen below first
    frame_done g = record {
      answer = g.answer;
      grey = λ y a. g.grey y (way_below x y below a);
      closed = λ y q sy hy a. elim (g.closed y q sy hy a) [
        | inl t ↦ inl t
        | inr w ↦ elim w [ inl w ↦ absurd w.1 | inr b ↦ inr b ]
      ];
      met = g.met;
      only = g.only;
      deep = omega (arith, g.deep);
      apart = g.apart;
      inside = g.inside;
    }

  module _ (whole : Found) (seen : List ℕ) (x p : ℕ) (more : List ℕ) (below : List Frame) (first : Option ℕ)
      (g : Going whole seen ((x, p ∷ more) ∷ below) first) (here : Among p all) (new : is_in seen p ≡ false) where
    not_in : is_in (way_at x below) p ≡ false
    not_in = elim (cases_Bool (is_in (way_at x below) p)) [
      | inl e ↦ absurd (true≢false (sym (Among-is_in p seen ((g.grey p (is_in-Among p (way_at x below) e)).0)) ∙ new))
      | inr e ↦ e
    ]

    apart_after : IsDistinct eqb (p ∷ seen)
    apart_after = distinct_more p seen new g.apart

    inside_after : (y : ℕ) → Among y (p ∷ seen) → Among y all
    inside_after y a = elim a [ inl e ↦ rw e here | inr old ↦ g.inside y old ]

    -- there are more levels: the way has fewer objects than there are
    fuel : levels - length below ≡ suc (levels - suc (length below))
    fuel = let k = few all (p ∷ seen) apart_after inside_after in omega (arith, g.deep, k)

    closed_after : (y q : ℕ) → Among y (p ∷ seen) → (y ≡ p → ⊥) → has y ≡ false → Among q (parents y) → Among q (p ∷ seen) ⊎ Waits y q ((x, more) ∷ below)
    closed_after y q sy ne hy a = elim sy [
      | inl e ↦ absurd (ne e)
      | inr old ↦ elim (g.closed y q old hy a) [
        | inl t ↦ inl (inr t)
        | inr w ↦ elim w [
          | inl w ↦ elim w.1 [ inl e ↦ inl (inl e) | inr m ↦ inr (inl (w.0, m)) ]
          | inr b ↦ inr (inr b)
        ]
      ]
    ]

    grey_after : (y : ℕ) → Among y (way_at x below) → Among y (p ∷ seen) × (has y ≡ false)
    grey_after y a = let r = g.grey y a in (inr r.0, r.1)

    module _ (holds : has p ≡ true) where
      found_here : fold also (so_far first) (p ∷ (flat_map (λ q. holders has parents (levels - length below) q (way_at x below)) more ++ rest below)) ≡ whole
      found_here =
          let f : ℕ → List ℕ = λ q. holders has parents (levels - length below) q (way_at x below) in
          let here : f p ≡ p ∷ [] = rw fuel (at_holder has parents (levels - suc (length below)) p (way_at x below) not_in holds) in
          ap (λ z. fold also (so_far first) (z ++ (flat_map f more ++ rest below))) (sym here) ∙ ap (fold also (so_far first)) (sym (append_assoc (f p) (flat_map f more) (rest below))) ∙ g.answer

      -- the first holder
      pub first_met : first ≡ None → Going whole (p ∷ seen) ((x, more) ∷ below) (Some p)
      first_met none = record {
        answer = rw none at found_here;
        grey = grey_after;
        closed = λ y q sy hy a. closed_after y q sy (λ e. true≢false (sym holds ∙ ap has (sym e) ∙ hy)) hy a;
        met = λ h s hh. elim s [ inl e ↦ ap Some (sym e) | inr old ↦ absurd (none_some h (sym none ∙ g.met h old hh)) ];
        only = λ h e. inl (sym (some_inj p h e));
        deep = omega (arith, g.deep);
        apart = apart_after;
        inside = inside_after;
      }

      -- another one
      pub second_met : (h : ℕ) → first ≡ Some h → whole ≡ Ambiguous h p
      second_met h e =
          let apart : h ≡ p → ⊥ = λ same. true≢false (sym (Among-is_in p seen (rw same at (g.only h e))) ∙ new) in
          let rest_here = flat_map (λ q. holders has parents (levels - length below) q (way_at x below)) more ++ rest below in
          let step : also (so_far first) p ≡ Ambiguous h p = rw (e, ne_eqb h p apart) refl in
          sym found_here ∙ ap (λ z. fold also z rest_here) step ∙ fold_ambiguous h p rest_here

    -- a parent that holds none: up to its parents
    pub go_down : has p ≡ false → Going whole (p ∷ seen) ((p, parents p) ∷ (x, more) ∷ below) first
    go_down bare =
        let f : ℕ → List ℕ = λ q. holders has parents (levels - length below) q (way_at x below) in
        let h : ℕ → List ℕ = λ q. holders has parents (levels - suc (length below)) q (p ∷ way_at x below) in
        let here : f p ≡ flat_map h (parents p) = rw fuel (at_other has parents (levels - suc (length below)) p (way_at x below) not_in bare) in
        record {
          answer = ap (λ z. fold also (so_far first) (z ++ (flat_map f more ++ rest below))) (sym here) ∙ ap (fold also (so_far first)) (sym (append_assoc (f p) (flat_map f more) (rest below))) ∙ g.answer;
          grey = λ y a. elim a [ inl e ↦ (inl e, ap has e ∙ bare) | inr b ↦ grey_after y b ];
          closed = λ y q sy hy a. elim (cases_eq y p) [
            | inl e ↦ inr (inl (e, rw e at a))
            | inr ne ↦ elim (closed_after y q sy ne hy a) [ inl t ↦ inl t | inr w ↦ inr (inr w) ]
          ];
          met = λ h s hh. elim s [ inl e ↦ absurd (true≢false (sym hh ∙ ap has e ∙ bare)) | inr old ↦ g.met h old hh ];
          only = λ h e. inr (g.only h e);
          deep = omega (arith, g.deep);
          apart = apart_after;
          inside = inside_after;
        }
