-- Where a name is a local: among the arguments, or behind them.
use Rattle.std.proofs.Common.{◌≡◌, ℕ, ◌+◌, Bool, true, false, List, [], ◌∷◌, ◌++◌, map, length, inl, inr, refl, sym, ap, ◌∙◌, arith, zero-add}
use Rattle.std.specs.Prelude.{Option, Some, None}
use Rattle.std.proofs.lemmas.Bool.{cases_Bool}
use Rattle.std.proofs.lemmas.List.{length-map}
use Rattle.self_terms.specs.declared.bodies.Local.{Local}
use Rattle.self_terms.specs.declared.bodies.Body.{Body}
use Rattle.self_terms.specs.Bodies.{Entry, argument_entry, local_entry, entries, is_named, is_set_by, sought, number_of}

some_none : (i : ℕ) → ◌≡◌ {A = Option ℕ} (Some i) None → ⊥
some_none i e = cc

-- none of the first ones passes
number_behind : (p : Entry → Bool) (i : ℕ) (xs ys : List Entry) → number_of p i xs ≡ None → number_of p i (xs ++ ys) ≡ number_of p (i + length xs) ys
number_behind p i [] ys e = ap (λ k. number_of p k ys) (omega arith)
number_behind p i (x ∷ xs) ys e = elim (cases_Bool (p x)) [
  | inl h ↦ absurd (some_none i (rw h at e))
  | inr h ↦ rw h (number_behind p (i + 1) xs ys (rw h at e) ∙ ap (λ k. number_of p k ys) (omega arith))
]

-- one of them does
number_before : (p : Entry → Bool) (i j : ℕ) (xs ys : List Entry) → number_of p i xs ≡ Some j → number_of p i (xs ++ ys) ≡ Some j
number_before p i j [] ys e = cc
number_before p i j (x ∷ xs) ys e = elim (cases_Bool (p x)) [
  | inl h ↦ rw h (rw h at e)
  | inr h ↦ rw h (number_before p (i + 1) j xs ys (rw h at e))
]

-- no name assigns an argument
none_assigned : (n i : ℕ) (arguments : List ℕ) → number_of (is_set_by n) i (map argument_entry arguments) ≡ None
none_assigned n i [] = refl
none_assigned n i (a ∷ arguments) = none_assigned n (i + 1) arguments

behind_arguments : (p : Entry → Bool) (b : Body) → number_of p 0 (map argument_entry b.arguments) ≡ None → number_of p (length b.arguments) (map local_entry b.locals) ≡ number_of p 0 (entries b)
behind_arguments p b e =
    ap (λ k. number_of p k (map local_entry b.locals)) (sym (length-map b.arguments argument_entry) ∙ sym (zero-add (length (map argument_entry b.arguments))))
    ∙ sym (number_behind p 0 (map argument_entry b.arguments) (map local_entry b.locals) e)

pub assigned_behind : (n : ℕ) (assigning : Bool) (b : Body) (arguments : List ℕ) (locals : List Local)
    → assigning ≡ true → arguments ≡ b.arguments → locals ≡ b.locals
    → number_of (sought assigning n) (length arguments) (map local_entry locals) ≡ number_of (sought assigning n) 0 (entries b)
assigned_behind n assigning b arguments locals e f g = rw (e, f, g) (behind_arguments (is_set_by n) b (none_assigned n 0 b.arguments))

pub named_behind : (n : ℕ) (assigning : Bool) (b : Body) (arguments : List ℕ) (locals : List Local)
    → assigning ≡ false → arguments ≡ b.arguments → locals ≡ b.locals → number_of (is_named n) 0 (map argument_entry arguments) ≡ None
    → number_of (sought assigning n) (length arguments) (map local_entry locals) ≡ number_of (sought assigning n) 0 (entries b)
named_behind n assigning b arguments locals e f g h = rw (e, f, g) (behind_arguments (is_named n) b (rw f at h))

pub named_before : (n i : ℕ) (assigning : Bool) (b : Body) (arguments : List ℕ)
    → assigning ≡ false → arguments ≡ b.arguments → number_of (is_named n) 0 (map argument_entry arguments) ≡ Some i
    → Some i ≡ number_of (sought assigning n) 0 (entries b)
named_before n i assigning b arguments e f h = rw e (sym (number_before (is_named n) 0 i (map argument_entry b.arguments) (map local_entry b.locals) (rw f at h)))
