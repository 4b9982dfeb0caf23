-- What a word of a node says, wherever it stands among the node's.
use Rattle.std.proofs.Common.{◌≡◌, ℕ, zero, suc, ◌+◌, ◌-◌, ◌*◌, ◌/◌, ◌<◌, ◌∙◌, ap, sym, arith, length-append}
use Rattle.std.specs.Prelude.{Bool, true, false, if◌then◌else◌, List, [], ◌∷◌, ◌++◌, length, Some, slice_get, get_or}
use Rattle.self_terms.specs.declared.nodes.Node.{Node}
use Rattle.self_terms.specs.Depths.{taken, grown, depth_from}
use Rattle.source_model.specs.Soundness.{body_in}
use Rattle.plain_words.specs.Code.{poll}
use Rattle.plain_words.specs.declared.references.References.{References}
use Rattle.plain_words.specs.declared.units.Point.{Point}
use Rattle.plain_words.specs.Units.{node_code, node_points, nodes_points, entry_code, unit_code, unit_points, owns_context, frame_locals, is_call, times}
use Rattle.plain_runs.specs.Host.{Host, first_unit, point_at}
use Rattle.plain_runs.specs.Units.{words_before, node_offset, HasUnit}
use Rattle.plain_runs.proofs.Located.{some_is, slice_front, slice_behind, times_long}
use Rattle.plain_runs.proofs.Pointed.{node_within, next_offset}

node_points_long : (b : Bool) (body n pending k words : ℕ) → 0 < words
    → length (if b then times (words - 1) (record { body = body; node = n; pending = k }) ++ (record { body = body; node = n; pending = pending } ∷ []) else times words (record { body = body; node = n; pending = k })) ≡ words
node_points_long true body n pending k words h =
    omega (arith, length-append (times (words - 1) (record { body = body; node = n; pending = k })) (record { body = body; node = n; pending = pending } ∷ []), times_long (words - 1) (record { body = body; node = n; pending = k }))
node_points_long false body n pending k words h = times_long words (record { body = body; node = n; pending = k })

-- the points of a node, among those of a list of nodes
points_at : (nodes : List Node) (n : ℕ) (node : Node) (r : References) (owns : Bool) (locals body from at k j : ℕ) → slice_get nodes n ≡ Some node
    → j < length (poll ++ node_code r owns locals (at + words_before r owns locals at k nodes n) node (depth_from k nodes n))
    → slice_get (nodes_points r owns locals body from at k nodes) (words_before r owns locals at k nodes n + j)
    ≡ slice_get (node_points body (from + n) node (depth_from k nodes n) (length (poll ++ node_code r owns locals (at + words_before r owns locals at k nodes n) node (depth_from k nodes n)))) j
points_at [] n node r owns locals body from at k j e h = absurd (cc)
points_at (x ∷ xs) zero node r owns locals body from at k j e h =
    let same : x ≡ node = some_is x node e in
    let words = length (poll ++ node_code r owns locals at x k) in
    let long : length (node_points body from x k words) ≡ words = node_points_long (is_call x) body from (k - taken x) k words (omega arith) in
    let w : length (poll ++ node_code r owns locals (at + 0) node k) ≡ words = ap (λ a. length (poll ++ node_code r owns locals a node k)) (omega arith) ∙ ap (λ y. length (poll ++ node_code r owns locals at y k)) (sym same) in
    ap (slice_get (nodes_points r owns locals body from at k (x ∷ xs))) (omega arith)
    ∙ slice_front (node_points body from x k words) _ j (omega (arith, long, w, h))
    ∙ ap (λ y. slice_get (node_points body from y k words) j) same
    ∙ ap (λ f. slice_get (node_points body f node k words) j) (omega arith)
    ∙ ap (λ u. slice_get (node_points body (from + 0) node k u) j) (sym w)
points_at (x ∷ xs) (suc n) node r owns locals body from at k j e h =
    let words = length (poll ++ node_code r owns locals at x k) in
    let before = words_before r owns locals (at + words) (grown x k) xs n in
    let long : length (node_points body from x k words) ≡ words = node_points_long (is_call x) body from (k - taken x) k words (omega arith) in
    let d = depth_from (grown x k) xs n in
    let w : length (poll ++ node_code r owns locals (at + words + before) node d) ≡ length (poll ++ node_code r owns locals (at + (words + before)) node d) = ap (λ a. length (poll ++ node_code r owns locals a node d)) (omega arith) in
    let g = points_at xs n node r owns locals body (from + 1) (at + words) (grown x k) j e (omega (arith, w, h)) in
    ap (slice_get (nodes_points r owns locals body from at k (x ∷ xs))) (omega arith)
    ∙ slice_behind (node_points body from x k words) (nodes_points r owns locals body (from + 1) (at + words) (grown x k) xs) words (before + j) (sym long)
    ∙ g
    ∙ ap (λ f. slice_get (node_points body f node d (length (poll ++ node_code r owns locals (at + words + before) node d))) j) (omega arith)
    ∙ ap (λ u. slice_get (node_points body (from + suc n) node d u) j) w

got : {A : Type 0} (xs : List A) (j : ℕ) (x d : A) → slice_get xs j ≡ Some x → get_or xs j d ≡ x
got [] j x d e = absurd (cc)
got (y ∷ ys) zero x d e = some_is y x e
got (y ∷ ys) (suc j) x d e = got ys j x d e

-- a word of a unit says what its point does
point_of_unit : (h : Host) (b at j : ℕ) (p : Point) → HasUnit h b at → j < length (unit_code h.references (body_in h.bodies b)) → slice_get (unit_points h.references b (body_in h.bodies b)) j ≡ Some p → point_at h (at + 4 * j) ≡ p
point_of_unit h b at j p u low is =
    let a : (at + 4 * j - first_unit) / 4 ≡ (at - first_unit) / 4 + j = omega (arith, u.from) in
    ap (λ n. get_or h.points n (record { body = 0; node = 0; pending = 0 })) a ∙ got h.points ((at - first_unit) / 4 + j) p _ (u.points j low ∙ is)

-- a word of a node says what the node's points do
pub node_point : (h : Host) (b at n j : ℕ) (node : Node) (p : Point) → HasUnit h b at → slice_get (body_in h.bodies b).nodes n ≡ Some node
    → j < length (poll ++ node_code h.references (owns_context (body_in h.bodies b)) (frame_locals (body_in h.bodies b)) (words_before h.references (owns_context (body_in h.bodies b)) (frame_locals (body_in h.bodies b)) 0 0 (body_in h.bodies b).nodes n) node (depth_from 0 (body_in h.bodies b).nodes n))
    → slice_get (node_points b n node (depth_from 0 (body_in h.bodies b).nodes n) (length (poll ++ node_code h.references (owns_context (body_in h.bodies b)) (frame_locals (body_in h.bodies b)) (words_before h.references (owns_context (body_in h.bodies b)) (frame_locals (body_in h.bodies b)) 0 0 (body_in h.bodies b).nodes n) node (depth_from 0 (body_in h.bodies b).nodes n)))) j ≡ Some p
    → point_at h (at + 4 * (node_offset h.references (body_in h.bodies b) n + j)) ≡ p
node_point h b at n j node p u e low is =
    let x = body_in h.bodies b in
    let r = h.references in
    let owns = owns_context x in
    let locals = frame_locals x in
    let before = words_before r owns locals 0 0 x.nodes n in
    let d = depth_from 0 x.nodes n in
    let same : length (poll ++ node_code r owns locals (0 + before) node d) ≡ length (poll ++ node_code r owns locals before node d) = ap (λ a. length (poll ++ node_code r owns locals a node d)) (omega arith) in
    let first : Point = record { body = b; node = 0; pending = 0 } in
    let g = points_at x.nodes n node r owns locals b 0 0 0 j e (omega (arith, low, same)) in
    let total : node_offset r x n + j < length (unit_code r x) = omega (arith, node_within r x n node e, next_offset r x n node e, low) in
    point_of_unit h b at (node_offset r x n + j) p u total
    (ap (slice_get (unit_points r b x)) (omega arith)
    ∙ slice_behind (times (length (entry_code r x)) first) (nodes_points r owns locals b 0 0 0 x.nodes) (length (entry_code r x)) (before + j) (sym (times_long (length (entry_code r x)) first))
    ∙ g
    ∙ ap (λ f. slice_get (node_points b f node d (length (poll ++ node_code r owns locals (0 + before) node d))) j) (omega arith)
    ∙ ap (λ w. slice_get (node_points b n node d w) j) same
    ∙ is)
