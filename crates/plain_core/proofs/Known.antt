-- The primitives of names.
use Rattle.std.proofs.Common.{◌≡◌, ℕ, zero, suc, ◌<◌, List, [], ◌∷◌, ◌++◌, map, drop, length, refl, ◌∙◌, ap, sym, arith}
use Rattle.std.specs.Prelude.{Option, Some, None, slice_get, unwrap_or}
use Rattle.source_model.specs.declared.primitives.Primitive.{Primitive}
use Rattle.source_model.specs.Names.{text_named}
use Rattle.prim_table.specs.Named.{prim_named}

-- what a list of primitives of names says, where one may be none
abbrev pub primitive_at : Option (Option Primitive) → Option Primitive
primitive_at None = None
primitive_at (Some p) = p

row_tells : (names : List (List ℕ)) (i : ℕ) → prim_named (unwrap_or (slice_get names i) []) ≡ primitive_at (slice_get (map prim_named names) i)
row_tells [] zero = refl
row_tells [] (suc i) = refl
row_tells (x ∷ xs) zero = refl
row_tells (x ∷ xs) (suc i) = row_tells xs i

-- the primitive of a name stands among those of the names
pub rows_tell : (names : List (List ℕ)) (rows : List (Option Primitive)) (n i : ℕ) (o : Option (Option Primitive)) → rows ≡ map prim_named names → n ≡ suc i → slice_get rows i ≡ o → prim_named (text_named names n) ≡ primitive_at o
rows_tell names rows n i o known is e =
    ap (λ (k : ℕ). prim_named (text_named names k)) is ∙ row_tells names i ∙ ap (λ (xs : List (Option Primitive)). primitive_at (slice_get xs i)) (sym known) ∙ ap primitive_at e

pub no_name : (names : List (List ℕ)) (n : ℕ) → n ≡ 0 → prim_named (text_named names n) ≡ None
no_name names n e = ap (λ (k : ℕ). prim_named (text_named names k)) e

rest_of : (names : List (List ℕ)) (i : ℕ) → i < length names → map prim_named (drop i names) ≡ prim_named (unwrap_or (slice_get names i) []) ∷ map prim_named (drop (suc i) names)
rest_of [] i le = absurd (omega (arith, le))
rest_of (x ∷ xs) zero le = refl
rest_of (x ∷ xs) (suc i) le = rest_of xs i (omega (arith, le))

behind : (ws : List (Option Primitive)) (w : Option Primitive) (vs : List (Option Primitive)) → (ws ++ w ∷ []) ++ vs ≡ ws ++ w ∷ vs
behind [] w vs = refl
behind (x ∷ xs) w vs = ap (λ (ys : List (Option Primitive)). x ∷ ys) (behind xs w vs)

-- one more of them
pub row_next : (names : List (List ℕ)) (ws : List (Option Primitive)) (w : Option Primitive) (n k i : ℕ) → i < length names → n ≡ suc i → k ≡ suc i → w ≡ prim_named (text_named names n) → (ws ++ w ∷ []) ++ map prim_named (drop k names) ≡ ws ++ map prim_named (drop i names)
row_next names ws w n k i le is next e =
    ap (λ (j : ℕ). (ws ++ w ∷ []) ++ map prim_named (drop j names)) next ∙ behind ws w (map prim_named (drop (suc i) names)) ∙ ap (λ (v : Option Primitive). ws ++ v ∷ map prim_named (drop (suc i) names)) (e ∙ ap (λ (k : ℕ). prim_named (text_named names k)) is) ∙ ap (λ (vs : List (Option Primitive)). ws ++ vs) (sym (rest_of names i le))

pub rows_end : (names : List (List ℕ)) (ws : List (Option Primitive)) (i : ℕ) → i ≡ length names → ws ++ map prim_named (drop i names) ≡ ws
rows_end names ws i e = ap (λ (k : ℕ). ws ++ map prim_named (drop k names)) e ∙ ap (λ (xs : List (List ℕ)). ws ++ map prim_named xs) (dropped names) ∙ nothing ws
  where
    dropped : (xs : List (List ℕ)) → drop (length xs) xs ≡ []
    dropped [] = refl
    dropped (x ∷ xs) = dropped xs

    nothing : (xs : List (Option Primitive)) → xs ++ [] ≡ xs
    nothing [] = refl
    nothing (x ∷ xs) = ap (λ (ys : List (Option Primitive)). x ∷ ys) (nothing xs)
