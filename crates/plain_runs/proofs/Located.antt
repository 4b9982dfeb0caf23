-- Where the words of a node stand in its unit, and what they say.
use Rattle.std.proofs.Common.{◌≡◌, ℕ, zero, suc, ◌+◌, ◌-◌, ◌*◌, ◌/◌, ◌%◌, ◌<◌, ◌≤◌, refl, ◌∙◌, ap, sym, subst, arith, length-append}
use Rattle.std.specs.Prelude.{Bool, true, false, if◌then◌else◌, List, [], ◌∷◌, ◌++◌, length, Option, Some, None, slice_get}
use Rattle.std.proofs.lemmas.Grind.{common_steps}
use Rattle.self_terms.specs.declared.nodes.Node.{Node}
use Rattle.self_terms.specs.declared.bodies.Body.{Body}
use Rattle.self_terms.specs.Depths.{taken, grown, depth, depth_from}
use Rattle.sparc_store.specs.Words.{Words}
use Rattle.sparc_insn.specs.declared.insn.Insn.{Insn}
use Rattle.plain_words.specs.Going.{At, IsCodeFrom}
use Rattle.plain_words.specs.Code.{poll}
use Rattle.plain_words.specs.declared.references.References.{References}
use Rattle.plain_words.specs.declared.units.Point.{Point}
use Rattle.plain_words.specs.Units.{node_code, nodes_code, node_points, nodes_points, entry_code, unit_code, unit_points, owns_context, frame_locals, is_call, times}
use Rattle.plain_words.proofs.Basics.{at_front, at_behind}
use Rattle.plain_runs.specs.Units.{words_before, node_offset, HasUnit}

pub some_is : {A : Type 0} (a b : A) → Some a ≡ Some b → a ≡ b
some_is a b e = cc

-- a node's words, among those of a list of nodes
pub nodes_at : (nodes : List Node) (n : ℕ) (node : Node) (r : References) (owns : Bool) (locals at k p : ℕ) (memory : Words) → slice_get nodes n ≡ Some node → At memory p (nodes_code r owns locals at k nodes)
    → At memory (p + 4 * words_before r owns locals at k nodes n) (poll ++ node_code r owns locals (at + words_before r owns locals at k nodes n) node (depth_from k nodes n))
nodes_at [] n node r owns locals at k p memory e h = absurd (cc)
nodes_at (x ∷ xs) zero node r owns locals at k p memory e h =
    let same : x ≡ node = some_is x node e in
    let P : ℕ → ℕ → Node → Type 0 = λ q a z. At memory q (poll ++ node_code r owns locals a z k) in
    let e1 : p ≡ p + 4 * 0 = omega arith in
    let e2 : at ≡ at + 0 = omega arith in
    let g : P p at x = at_front memory p (poll ++ node_code r owns locals at x k) _ h in
    subst (λ z. P (p + 4 * 0) (at + 0) z) same (subst (λ a. P (p + 4 * 0) a x) e2 (subst (λ q. P q at x) e1 g))
nodes_at (x ∷ xs) (suc n) node r owns locals at k p memory e h =
    let words = length (poll ++ node_code r owns locals at x k) in
    let before = words_before r owns locals (at + words) (grown x k) xs n in
    let g = nodes_at xs n node r owns locals (at + words) (grown x k) (p + 4 * words) memory e (at_behind memory p (poll ++ node_code r owns locals at x k) _ h) in
    let P : ℕ → ℕ → Type 0 = λ q a. At memory q (poll ++ node_code r owns locals a node (depth_from (grown x k) xs n)) in
    let e1 : p + 4 * words + 4 * before ≡ p + 4 * (words + before) = omega arith in
    let e2 : at + words + before ≡ at + (words + before) = omega arith in
    subst (λ a. P (p + 4 * (words + before)) a) e2 (subst (λ q. P q (at + words + before)) e1 g)

-- none before the first
pub none_before : (nodes : List Node) (r : References) (owns : Bool) (locals at k : ℕ) → words_before r owns locals at k nodes 0 ≡ 0
none_before [] r owns locals at k = refl
none_before (x ∷ xs) r owns locals at k = refl

-- the next node's words come behind
pub words_next : (nodes : List Node) (n : ℕ) (node : Node) (r : References) (owns : Bool) (locals at k : ℕ) → slice_get nodes n ≡ Some node
    → words_before r owns locals at k nodes (suc n) ≡ words_before r owns locals at k nodes n + length (poll ++ node_code r owns locals (at + words_before r owns locals at k nodes n) node (depth_from k nodes n))
words_next [] n node r owns locals at k e = absurd (cc)
words_next (x ∷ xs) zero node r owns locals at k e =
    let same : x ≡ node = some_is x node e in
    let words = length (poll ++ node_code r owns locals at x k) in
    let z : words_before r owns locals (at + words) (grown x k) xs 0 ≡ 0 = none_before xs r owns locals (at + words) (grown x k) in
    let g : length (poll ++ node_code r owns locals at x k) ≡ length (poll ++ node_code r owns locals (at + 0) node k) =
    ap (λ y. length (poll ++ node_code r owns locals at y k)) same ∙ ap (λ a. length (poll ++ node_code r owns locals a node k)) (omega arith) in
    omega (arith, z, g)
words_next (x ∷ xs) (suc n) node r owns locals at k e =
    let words = length (poll ++ node_code r owns locals at x k) in
    let g = words_next xs n node r owns locals (at + words) (grown x k) e in
    let before = words_before r owns locals (at + words) (grown x k) xs n in
    let f : length (poll ++ node_code r owns locals (at + words + before) node (depth_from (grown x k) xs n)) ≡ length (poll ++ node_code r owns locals (at + (words + before)) node (depth_from (grown x k) xs n)) =
    ap (λ a. length (poll ++ node_code r owns locals a node (depth_from (grown x k) xs n))) (omega arith) in
    omega (arith, g, f)

-- all of them are among the words of the list
pub words_within : (nodes : List Node) (n : ℕ) (r : References) (owns : Bool) (locals at k : ℕ) → words_before r owns locals at k nodes n ≤ length (nodes_code r owns locals at k nodes)
words_within [] n r owns locals at k = omega arith
words_within (x ∷ xs) zero r owns locals at k = omega arith
words_within (x ∷ xs) (suc n) r owns locals at k =
    let words = length (poll ++ node_code r owns locals at x k) in
    let g = words_within xs n r owns locals (at + words) (grown x k) in
    omega (arith, g, length-append (poll ++ node_code r owns locals at x k) (nodes_code r owns locals (at + words) (grown x k) xs))

-- Points.

suc_plus : (n j : ℕ) → suc n + j ≡ suc (n + j)
suc_plus n j = omega arith

pub slice_behind : {A : Type 0} (xs ys : List A) (n j : ℕ) → n ≡ length xs → slice_get (xs ++ ys) (n + j) ≡ slice_get ys j
slice_behind [] ys n j e = ap (slice_get ys) (omega (arith, e))
slice_behind (x ∷ xs) ys zero j e = absurd (omega (arith, e))
slice_behind (x ∷ xs) ys (suc n) j e = ap (slice_get (x ∷ (xs ++ ys))) (suc_plus n j) ∙ slice_behind xs ys n j (omega (arith, e))

pub slice_front : {A : Type 0} (xs ys : List A) (j : ℕ) → j < length xs → slice_get (xs ++ ys) j ≡ slice_get xs j
slice_front [] ys j h = absurd (omega (arith, h))
slice_front (x ∷ xs) ys zero h = refl
slice_front (x ∷ xs) ys (suc j) h = slice_front xs ys j (omega (arith, h))

pub times_long : (n : ℕ) (p : Point) → length (times n p) ≡ n
times_long zero p = refl
times_long (suc n) p = ap suc (times_long n p)

pub times_is : (n j : ℕ) (p : Point) → j < n → slice_get (times n p) j ≡ Some p
times_is zero j p h = absurd (omega (arith, h))
times_is (suc n) zero p h = refl
times_is (suc n) (suc j) p h = times_is n j p (omega (arith, h))
