-- Names and their texts; how many arguments the evaluators take.
use Rattle.std.proofs.Common.{◌≡◌, ℕ, zero, suc, ◌+◌, ◌<◌, ap, sym, subst, refl, ◌∙◌, arith, Bool, true, false, List, [], ◌∷◌, ◌⊎◌, inl, inr}
use Rattle.std.specs.Prelude.{◌==◌, ◌&&◌, nat_eq, slice_get, Option, Some, None, cond, fold}
use Rattle.std.specs.Cmp.Lexicographic.{pointwise}
use Rattle.std.proofs.lemmas.Bool.{eqb-true}
use Rattle.std.proofs.lemmas.List.Quantifiers.{position-Some}
use Rattle.self_terms.specs.Names.{text_of}
use Rattle.source_model.specs.Names.{is_text, number_from, number_of, withs, evaluator}
use Rattle.source_model.specs.declared.primitives.Primitive.TheVariants.{IntAdd}
use Rattle.source_model.specs.Primitives.{Row, table, row_of}
use Rattle.source_model.specs.Formed.{arity, Takes}

and_first : (a b : Bool) → (a && b) ≡ true → a ≡ true
and_first true b e = refl
and_first false b e = e

and_second : (a b : Bool) → (a && b) ≡ true → b ≡ true
and_second true b e = e
and_second false b e = absurd (cc)

pub same_text : (xs ys : List ℕ) → is_text xs ys ≡ true → xs ≡ ys
same_text [] [] e = refl
same_text [] (y ∷ ys) e = absurd (cc)
same_text (x ∷ xs) [] e = absurd (cc)
same_text (x ∷ xs) (y ∷ ys) e = λ i. eqb-true x y (and_first (nat_eq x y) (pointwise nat_eq xs ys) e) i ∷ same_text xs ys (and_second (nat_eq x y) (pointwise nat_eq xs ys) e) i

some_eq : (x y : List ℕ) → ◌≡◌ {A = Option (List ℕ)} (Some x) (Some y) → x ≡ y
some_eq x y e = cc

none_eq : (y : List ℕ) → ◌≡◌ {A = Option (List ℕ)} None (Some y) → ⊥
none_eq y e = cc

-- the number of a text, where it has one, is a place at which it stands
record StandsAt (m : ℕ) (t : List ℕ) (xs : List (List ℕ)) (k : ℕ) : Type 0 where
  by : ℕ
  number : k ≡ m + by
  there : slice_get xs by ≡ Some t

more : (m : ℕ) (t x : List ℕ) (xs : List (List ℕ)) (k : ℕ) → (k ≡ 0) ⊎ StandsAt (m + 1) t xs k → (k ≡ 0) ⊎ StandsAt m t (x ∷ xs) k
more m t x xs k (inl e) = inl e
more m t x xs k (inr s) = inr (record { by = suc s.by; number = omega (arith, s.number); there = s.there })

first_or : (m : ℕ) (t x : List ℕ) (xs : List (List ℕ)) (b : Bool) → is_text t x ≡ b → (number_from (m + 1) t xs ≡ 0) ⊎ StandsAt (m + 1) t xs (number_from (m + 1) t xs)
    → (cond b m (number_from (m + 1) t xs) ≡ 0) ⊎ StandsAt m t (x ∷ xs) (cond b m (number_from (m + 1) t xs))
first_or m t x xs true e d = inr (record { by = 0; number = omega arith; there = ap Some (sym (same_text t x e)) })
first_or m t x xs false e d = more m t x xs (number_from (m + 1) t xs) d

stands : (m : ℕ) (t : List ℕ) (xs : List (List ℕ)) → (number_from m t xs ≡ 0) ⊎ StandsAt m t xs (number_from m t xs)
stands m t [] = inl refl
stands m t (x ∷ xs) = first_or m t x xs (is_text t x) refl (stands (m + 1) t xs)

named_at : (names : List (List ℕ)) (k j : ℕ) (text : List ℕ) → k ≡ 1 + j → text_of names k ≡ Some text → slice_get names j ≡ Some text
named_at names zero j text e d = absurd (omega (arith, e))
named_at names (suc k) j text e d = let same : k ≡ j = omega (arith, e) in subst (λ (n : ℕ). slice_get names n ≡ Some text) same d

by_place : (names : List (List ℕ)) (t text : List ℕ) (k : ℕ) → (k ≡ 0) ⊎ StandsAt 1 t names k → text_of names k ≡ Some text → text ≡ t
by_place names t text k (inl e) d = absurd (none_eq text (subst (λ (n : ℕ). text_of names n ≡ Some text) e d))
by_place names t text k (inr s) d = some_eq text t (sym (named_at names k s.by text s.number d) ∙ s.there)

-- the number that a text has is that of this text alone
pub named_back : (names : List (List ℕ)) (t text : List ℕ) → text_of names (number_of names t) ≡ Some text → text ≡ t
named_back names t text e = by_place names t text (number_of names t) (stands 1 t names) e

-- Arguments.

withs_colons : (k a : ℕ) → fold (λ (n x : ℕ). n + cond (x == 58) 1 0) a (withs k) ≡ a + k
withs_colons zero a = omega arith
withs_colons (suc k) a = withs_colons k (a + 0 + 0 + 0 + 0 + 1) ∙ omega arith

pub evaluator_arity : (k : ℕ) → arity (evaluator k) ≡ k
evaluator_arity zero = refl
evaluator_arity (suc k) = withs_colons k 1 ∙ omega arith

-- a name takes one number of arguments alone
pub takes_one : (names : List (List ℕ)) (n a b : ℕ) → Takes names n a → Takes names n b → a ≡ b
takes_one names n a b p q = sym p.arguments ∙ ap arity (some_eq p.text q.text (sym p.given ∙ q.given)) ∙ q.arguments

pub evaluator_takes : (names : List (List ℕ)) (n k args : ℕ) → n ≡ number_of names (evaluator k) → Takes names n args → k ≡ args
evaluator_takes names n k args e p =
    sym (evaluator_arity k) ∙ ap arity (sym (named_back names (evaluator k) p.text (subst (λ (m : ℕ). text_of names m ≡ Some p.text) e p.given))) ∙ p.arguments

-- The table of primitives has 19 rows.
abbrev pub IsRow : Option ℕ → Type 0
IsRow None = Unit {0}
IsRow (Some k) = k < 19

row_by : (name : List ℕ) (args : ℕ) (x : Option ℕ) → row_of name args ≡ x → IsRow x
row_by name args None e = tt
row_by name args (Some k) e = (position-Some (λ (r : Row). is_text name r.name && r.args == args) table k (record { primitive = IntAdd; name = []; args = 0 }) e).0

pub is_row : (name : List ℕ) (args : ℕ) → IsRow (row_of name args)
is_row name args = row_by name args (row_of name args) refl
