-- The rows of the table by names and numbers of arguments.
use Rattle.std.proofs.Common.{◌≡◌, refl, sym, ap, ◌∙◌, ℕ, suc, ◌+◌, ◌==◌, Bool, true, false, List, [], ◌∷◌, length, arith}
use Rattle.std.specs.Prelude.{not, ◌&&◌, if◌then◌else◌, Option, Some, None, option_map, option_and_then, slice_get, cond, nat_lt, position}
use Rattle.std.specs.List.{position_or_len}
use Rattle.std.proofs.lemmas.Grind.{common_steps}
use Rattle.std.proofs.lemmas.Option.{none-some}
use Rattle.self_terms.specs.declared.values.Value.{Value}
use Rattle.source_model.specs.declared.primitives.Primitive.{Primitive}
use Rattle.source_model.specs.declared.primitives.Primitive.TheVariants as prim
use Rattle.source_model.specs.Names.{is_text}
use Rattle.source_model.specs.Primitives.{Row, table, apply_row}
use Rattle.source_model.specs.State.{State}
use Rattle.source_model.proofs.Naming.{same_text}
use Rattle.prim_table.specs.Kinds.{kind_of, args_of}
use Rattle.prim_table.specs.Named.{among, prim_named}
use Rattle.plain_prims.specs.Rows.{row_number, taking, primitive_of, applied, NamesTell, EffectsTell}

-- The place of the first that passes a test.

first_less : (b : Bool) (k n : ℕ) → nat_lt k n ≡ b → cond (nat_lt (1 + k) (suc n)) (Some (1 + k)) None ≡ option_map suc (cond (nat_lt k n) (Some k) None)
first_less true k n e =
    let more : nat_lt (1 + k) (suc n) ≡ true = grind (arith, common_steps) in
    let next : 1 + k ≡ suc k = omega arith in
    ap (λ q. cond q (Some (1 + k)) None) more ∙ ap Some next ∙ sym (ap (λ q. option_map suc (cond q (Some k) None)) e)
first_less false k n e =
    let more : nat_lt (1 + k) (suc n) ≡ false = grind (arith, common_steps) in
    ap (λ q. cond q (Some (1 + k)) None) more ∙ sym (ap (λ q. option_map suc (cond q (Some k) None)) e)

-- how far the first is, where the head passes or doesn't
abbrev head_first : {X : Type 0} → (X → Bool) → List X → Bool → Option ℕ
head_first test xs b = cond (nat_lt (cond (not b) (1 + position_or_len test xs) 0) (suc (length xs))) (Some (cond (not b) (1 + position_or_len test xs) 0)) None

there_is : (n : ℕ) → nat_lt 0 (suc n) ≡ true
there_is n = grind (arith, common_steps)

here_first : {X : Type 0} (test : X → Bool) (x : X) (xs : List X) → test x ≡ true → position test (x ∷ xs) ≡ Some 0
here_first test x xs e =
    let step : position test (x ∷ xs) ≡ head_first test xs true = ap (head_first test xs) e in
    step ∙ ap (λ q. cond q (Some 0) None) (there_is (length xs))

later_first : {X : Type 0} (test : X → Bool) (x : X) (xs : List X) → test x ≡ false → position test (x ∷ xs) ≡ option_map suc (position test xs)
later_first test x xs e =
    let step : position test (x ∷ xs) ≡ head_first test xs false = ap (head_first test xs) e in
    step ∙ first_less _ (position_or_len test xs) (length xs) refl

-- Rows whose numbers rise from one on, with the arguments of their primitives, no two of one name.
abbrev AreRows : ℕ → List Row → Type 0
AreRows at [] = Unit {0}
AreRows at (r ∷ rs) = (row_number r.primitive ≡ at) × (args_of (kind_of r.primitive) ≡ r.args) × (among r.name rs ≡ None) × AreRows (at + 1) rs

abbrev test_row : List ℕ → ℕ → Row → Bool
test_row text args r = is_text text r.name && r.args == args

passed : (b : Bool) (p : Primitive) (x : Option Primitive) → (if b then Some p else x) ≡ None → (b ≡ false) × (x ≡ None)
passed true p x e = absurd (none-some p (sym e))
passed false p x e = (refl, e)

none_found : (text : List ℕ) (args : ℕ) (rows : List Row) → among text rows ≡ None → position (test_row text args) rows ≡ None
none_found text args [] e = refl
none_found text args (r ∷ rs) e =
    let q = passed (is_text text r.name) r.primitive (among text rs) e in
    later_first (test_row text args) r rs (ap (λ b. b && r.args == args) q.0) ∙ ap (option_map suc) (none_found text args rs q.1)

moved_by : (at : ℕ) (o : Option ℕ) → option_map (λ k. at + k) (option_map suc o) ≡ option_map (λ k. at + 1 + k) o
moved_by at None = refl
moved_by at (Some k) = ap Some (omega arith)

-- where the first has the name
named_here : (text : List ℕ) (args at : ℕ) (r : Row) (rs : List Row) (fits : Bool) → AreRows at (r ∷ rs) → is_text text r.name ≡ true → (r.args == args) ≡ fits
    → option_map (λ k. at + k) (position (test_row text args) (r ∷ rs)) ≡ option_map row_number (taking args (Some r.primitive))
named_here text args at r rs true are is e =
    ap (option_map (λ k. at + k)) (here_first (test_row text args) r rs (ap (λ b. b && r.args == args) is ∙ e))
    ∙ ap Some (let same = are.0 in omega arith)
    ∙ sym (ap (λ b. option_map row_number (if b then Some r.primitive else None)) (ap (λ k. k == args) are.1 ∙ e))
named_here text args at r rs false are is e =
    ap (option_map (λ k. at + k)) (later_first (test_row text args) r rs (ap (λ b. b && r.args == args) is ∙ e)
    ∙ ap (option_map suc) (none_found text args rs (ap (λ t. among t rs) (same_text text r.name is) ∙ are.2)))
    ∙ sym (ap (λ b. option_map row_number (if b then Some r.primitive else None)) (ap (λ k. k == args) are.1 ∙ e))

row_tells : (text : List ℕ) (args at : ℕ) (r : Row) (rs : List Row) (has : Bool) → AreRows at (r ∷ rs) → is_text text r.name ≡ has
    → option_map (λ k. at + 1 + k) (position (test_row text args) rs) ≡ option_map row_number (taking args (among text rs))
    → option_map (λ k. at + k) (position (test_row text args) (r ∷ rs)) ≡ option_map row_number (taking args (among text (r ∷ rs)))
row_tells text args at r rs true are is rest =
    named_here text args at r rs _ are is refl ∙ sym (ap (λ b. option_map row_number (taking args (if b then Some r.primitive else among text rs))) is)
row_tells text args at r rs false are is rest =
    ap (option_map (λ k. at + k)) (later_first (test_row text args) r rs (ap (λ b. b && r.args == args) is))
    ∙ moved_by at (position (test_row text args) rs)
    ∙ rest
    ∙ sym (ap (λ b. option_map row_number (taking args (if b then Some r.primitive else among text rs))) is)

rows_tell : (text : List ℕ) (args at : ℕ) (rows : List Row) → AreRows at rows → option_map (λ k. at + k) (position (test_row text args) rows) ≡ option_map row_number (taking args (among text rows))
rows_tell text args at [] are = refl
rows_tell text args at (r ∷ rs) are = row_tells text args at r rs (is_text text r.name) are refl (rows_tell text args (at + 1) rs are.3)

pub table_rows : AreRows 0 table
table_rows = (
  refl,
  refl,
  refl,
  (
    refl,
    refl,
    refl,
    (
      refl,
      refl,
      refl,
      (
        refl,
        refl,
        refl,
        (
          refl,
          refl,
          refl,
          (
            refl,
            refl,
            refl,
            (
              refl,
              refl,
              refl,
              (
                refl,
                refl,
                refl,
                (
                  refl,
                  refl,
                  refl,
                  (
                    refl,
                    refl,
                    refl,
                    (refl, refl, refl, (refl, refl, refl, (refl, refl, refl, (refl, refl, refl, (refl, refl, refl, (refl, refl, refl, (refl, refl, refl, (refl, refl, refl, (refl, refl, refl, tt))))))))),
                  ),
                ),
              ),
            ),
          ),
        ),
      ),
    ),
  ),
)

as_they_are : (o : Option ℕ) → option_map (λ k. 0 + k) o ≡ o
as_they_are None = refl
as_they_are (Some k) = ap Some (omega arith)

pub names_tell : NamesTell
names_tell text args = sym (as_they_are (position (test_row text args) table)) ∙ rows_tell text args 0 table table_rows

row_applies : (s : State) (p : Primitive) (receiver : Value) (arguments : List Value) → apply_row s (slice_get table (row_number p)) receiver arguments ≡ applied s (Some p) receiver arguments
row_applies s prim.IntAdd receiver arguments = refl
row_applies s prim.IntSub receiver arguments = refl
row_applies s prim.IntMul receiver arguments = refl
row_applies s prim.IntDiv receiver arguments = refl
row_applies s prim.IntMod receiver arguments = refl
row_applies s prim.IntAnd receiver arguments = refl
row_applies s prim.IntOr receiver arguments = refl
row_applies s prim.IntXor receiver arguments = refl
row_applies s prim.IntLT receiver arguments = refl
row_applies s prim.IntLE receiver arguments = refl
row_applies s prim.IntEQ receiver arguments = refl
row_applies s prim.Eq receiver arguments = refl
row_applies s prim.Clone receiver arguments = refl
row_applies s prim.VectorNew receiver arguments = refl
row_applies s prim.Size receiver arguments = refl
row_applies s prim.At receiver arguments = refl
row_applies s prim.AtPut receiver arguments = refl
row_applies s prim.StringPrint receiver arguments = refl
row_applies s prim.IntPrint receiver arguments = refl

by_row : (s : State) (o : Option Primitive) (receiver : Value) (arguments : List Value) → apply_row s (option_and_then (slice_get table) (option_map row_number o)) receiver arguments ≡ applied s o receiver arguments
by_row s None receiver arguments = refl
by_row s (Some p) receiver arguments = row_applies s p receiver arguments

pub effects_tell : EffectsTell
effects_tell s text args receiver arguments = ap (λ o. apply_row s (option_and_then (slice_get table) o) receiver arguments) (names_tell text args) ∙ by_row s (primitive_of text args) receiver arguments

-- a primitive that was found takes so many arguments
taken_if : (b : Bool) (p q : Primitive) → (if b then Some q else None) ≡ Some p → (b ≡ true) × (q ≡ p)
taken_if true p q e = (refl, (let same : Some q ≡ Some p = e in cc))
taken_if false p q e = absurd (none-some p e)

found_takes : (o : Option Primitive) (args : ℕ) (p : Primitive) → taking args o ≡ Some p → args_of (kind_of p) ≡ args
found_takes None args p e = absurd (none-some p e)
found_takes (Some q) args p e =
    let g = taken_if (args_of (kind_of q) == args) p q e in
    let same : args_of (kind_of q) ≡ args = (let b = g.0 in grind (arith, common_steps)) in
    ap (λ y. args_of (kind_of y)) (sym g.1) ∙ same

pub takes_so_many : (text : List ℕ) (args : ℕ) (p : Primitive) → primitive_of text args ≡ Some p → args_of (kind_of p) ≡ args
takes_so_many text args p e = found_takes (prim_named text) args p e
