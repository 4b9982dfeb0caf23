-- How many words the unit of a body takes.
use Rattle.std.proofs.Common.{◌≡◌, ℕ, suc, ◌+◌, ◌*◌, ◌≤◌, refl, arith, length-append}
use Rattle.std.specs.Prelude.{Bool, List, [], ◌∷◌, ◌++◌, length}
use Rattle.self_terms.specs.declared.bodies.Body.{Body}
use Rattle.self_terms.specs.declared.nodes.Node.{Node}
use Rattle.self_terms.specs.Depths.{grown}
use Rattle.plain_words.specs.declared.references.References.{References}
use Rattle.plain_words.specs.Code.{poll}
use Rattle.plain_words.specs.Translating.{AreShort, CanTranslate}
use Rattle.plain_words.specs.Units.{node_code, nodes_code, entry_code, unit_code, owns_context, frame_locals}
use Rattle.plain_words.proofs.Long.{node_long, entry_most}
use Rattle.plain_turns.specs.Rooms.{most_words}

one_more : (n p q s : ℕ) → p ≤ 74 → q ≤ 74 * n → s ≡ p + q → s ≤ 74 * suc n
one_more n p q s h k e = omega (arith, h, k, e)

-- a node takes at most 74 words with its poll
nodes_long : (r : References) (owns : Bool) (locals at d : ℕ) (ns : List Node) → AreShort 64 ns → length (nodes_code r owns locals at d ns) ≤ 74 * length ns
nodes_long r owns locals at d [] short = omega arith
nodes_long r owns locals at d (x ∷ xs) short =
    let P = poll ++ node_code r owns locals at x d in
    let long : length P ≤ 64 + 10 = node_long 64 r owns locals at x d (omega arith) (short 0 x refl) in
    let rest : length (nodes_code r owns locals (at + length P) (grown x d) xs) ≤ 74 * length xs = nodes_long r owns locals (at + length P) (grown x d) xs (λ k y e. short (suc k) y e) in
    let sum : length (P ++ nodes_code r owns locals (at + length P) (grown x d) xs) ≡ length P + length (nodes_code r owns locals (at + length P) (grown x d) xs) = length-append P (nodes_code r owns locals (at + length P) (grown x d) xs) in
    one_more (length xs) (length P) _ _ (omega (arith, long)) rest sum

-- no more than is kept for it
pub unit_long : (r : References) (x : Body) → CanTranslate x → length (unit_code r x) ≤ most_words x
unit_long r x can =
    let nodes = nodes_long r (owns_context x) (frame_locals x) 0 0 x.nodes can.short in
    let entry = entry_most r x in
    let sum = length-append (entry_code r x) (nodes_code r (owns_context x) (frame_locals x) 0 0 x.nodes) in
    omega (arith, nodes, entry, sum)
