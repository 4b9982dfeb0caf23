-- What the program counter of a frame says of it.
use Rattle.std.proofs.Common.{◌≡◌, ℕ, zero, suc, ◌+◌, ◌-◌, ◌*◌, ◌/◌, ◌<◌, ◌≤◌, ◌∙◌, ap, sym, arith, length-append}
use Rattle.std.specs.Prelude.{Bool, true, false, not, if◌then◌else◌, List, [], ◌∷◌, ◌++◌, length, Some, slice_get, get_or}
use Rattle.self_terms.specs.declared.nodes.Node.{Node}
use Rattle.self_terms.specs.declared.nodes.Node.TheVariants as nodes
use Rattle.self_terms.specs.declared.bodies.Body.{Body}
use Rattle.self_terms.specs.Depths.{one_if, taken, grown, depth, depth_from}
use Rattle.source_model.specs.Soundness.{body_in}
use Rattle.frame_walk.specs.Places.{plain_descriptor}
use Rattle.plain_words.specs.Code.{poll, primitive_code, answered_code}
use Rattle.plain_words.specs.declared.references.References.{References}
use Rattle.plain_words.specs.declared.units.Point.{Point}
use Rattle.plain_words.specs.Units.{node_code, nodes_code, node_points, nodes_points, entry_code, unit_code, unit_points, owns_context, frame_locals, is_call, times, point_descriptor}
use Rattle.plain_runs.specs.Host.{Host, first_unit, point_at, descriptor_at}
use Rattle.plain_runs.specs.Units.{words_before, node_offset, HasUnit, IsPoll, IsInPoll, IsBehindCall}
use Rattle.plain_runs.proofs.Located.{some_is, words_next, words_within, slice_front, slice_behind, times_is, times_long}

node_points_long : (b : Bool) (body n pending k words : ℕ) → 0 < words
    → length (if b then times (words - 1) (record { body = body; node = n; pending = k }) ++ (record { body = body; node = n; pending = pending } ∷ []) else times words (record { body = body; node = n; pending = k })) ≡ words
node_points_long true body n pending k words h =
    omega (arith, length-append (times (words - 1) (record { body = body; node = n; pending = k })) (record { body = body; node = n; pending = pending } ∷ []), times_long (words - 1) (record { body = body; node = n; pending = k }))
node_points_long false body n pending k words h = times_long words (record { body = body; node = n; pending = k })

-- the points of a node, among those of a list of nodes
points_at : (nodes : List Node) (n : ℕ) (node : Node) (r : References) (owns : Bool) (locals body from at k j : ℕ) → slice_get nodes n ≡ Some node
    → j < length (poll ++ node_code r owns locals (at + words_before r owns locals at k nodes n) node (depth_from k nodes n))
    → slice_get (nodes_points r owns locals body from at k nodes) (words_before r owns locals at k nodes n + j)
    ≡ slice_get (node_points body (from + n) node (depth_from k nodes n) (length (poll ++ node_code r owns locals (at + words_before r owns locals at k nodes n) node (depth_from k nodes n)))) j
points_at [] n node r owns locals body from at k j e h = absurd (cc)
points_at (x ∷ xs) zero node r owns locals body from at k j e h =
    let same : x ≡ node = some_is x node e in
    let words = length (poll ++ node_code r owns locals at x k) in
    let long : length (node_points body from x k words) ≡ words = node_points_long (is_call x) body from (k - taken x) k words (omega arith) in
    let w : length (poll ++ node_code r owns locals (at + 0) node k) ≡ words = ap (λ a. length (poll ++ node_code r owns locals a node k)) (omega arith) ∙ ap (λ y. length (poll ++ node_code r owns locals at y k)) (sym same) in
    ap (slice_get (nodes_points r owns locals body from at k (x ∷ xs))) (omega arith)
    ∙ slice_front (node_points body from x k words) _ j (omega (arith, long, w, h))
    ∙ ap (λ y. slice_get (node_points body from y k words) j) same
    ∙ ap (λ f. slice_get (node_points body f node k words) j) (omega arith)
    ∙ ap (λ u. slice_get (node_points body (from + 0) node k u) j) (sym w)
points_at (x ∷ xs) (suc n) node r owns locals body from at k j e h =
    let words = length (poll ++ node_code r owns locals at x k) in
    let before = words_before r owns locals (at + words) (grown x k) xs n in
    let long : length (node_points body from x k words) ≡ words = node_points_long (is_call x) body from (k - taken x) k words (omega arith) in
    let d = depth_from (grown x k) xs n in
    let w : length (poll ++ node_code r owns locals (at + words + before) node d) ≡ length (poll ++ node_code r owns locals (at + (words + before)) node d) = ap (λ a. length (poll ++ node_code r owns locals a node d)) (omega arith) in
    let g = points_at xs n node r owns locals body (from + 1) (at + words) (grown x k) j e (omega (arith, w, h)) in
    ap (slice_get (nodes_points r owns locals body from at k (x ∷ xs))) (omega arith)
    ∙ slice_behind (node_points body from x k words) (nodes_points r owns locals body (from + 1) (at + words) (grown x k) xs) words (before + j) (sym long)
    ∙ g
    ∙ ap (λ f. slice_get (node_points body f node d (length (poll ++ node_code r owns locals (at + words + before) node d))) j) (omega arith)
    ∙ ap (λ u. slice_get (node_points body (from + suc n) node d u) j) w

first_point : (b : Bool) (body n pending k words : ℕ) → 1 < words
    → slice_get (if b then times (words - 1) (record { body = body; node = n; pending = k }) ++ (record { body = body; node = n; pending = pending } ∷ []) else times words (record { body = body; node = n; pending = k })) 0
    ≡ Some (record { body = body; node = n; pending = k })
first_point true body n pending k words h =
    let p : Point = record { body = body; node = n; pending = k } in
    slice_front (times (words - 1) p) _ 0 (omega (arith, times_long (words - 1) p)) ∙ times_is (words - 1) 0 p (omega arith)
first_point false body n pending k words h = times_is words 0 (record { body = body; node = n; pending = k }) (omega arith)

last_point : (b : Bool) (body n pending k words : ℕ) → b ≡ true → 0 < words
    → slice_get (if b then times (words - 1) (record { body = body; node = n; pending = k }) ++ (record { body = body; node = n; pending = pending } ∷ []) else times words (record { body = body; node = n; pending = k })) (words - 1)
    ≡ Some (record { body = body; node = n; pending = pending })
last_point true body n pending k words e h =
    let p : Point = record { body = body; node = n; pending = k } in
    let q : Point = record { body = body; node = n; pending = pending } in
    ap (slice_get (times (words - 1) p ++ (q ∷ []))) (omega arith) ∙ slice_behind (times (words - 1) p) (q ∷ []) (words - 1) 0 (sym (times_long (words - 1) p))
last_point false body n pending k words e h = absurd (cc)

got : {A : Type 0} (xs : List A) (j : ℕ) (x d : A) → slice_get xs j ≡ Some x → get_or xs j d ≡ x
got [] j x d e = absurd (cc)
got (y ∷ ys) zero x d e = some_is y x e
got (y ∷ ys) (suc j) x d e = got ys j x d e

-- a word of a unit says what its point does
point_of_unit : (h : Host) (b at j : ℕ) (p : Point) → HasUnit h b at → j < length (unit_code h.references (body_in h.bodies b)) → slice_get (unit_points h.references b (body_in h.bodies b)) j ≡ Some p → point_at h (at + 4 * j) ≡ p
point_of_unit h b at j p u low is =
    let a : (at + 4 * j - first_unit) / 4 ≡ (at - first_unit) / 4 + j = omega (arith, u.from) in
    ap (λ n. get_or h.points n (record { body = 0; node = 0; pending = 0 })) a ∙ got h.points ((at - first_unit) / 4 + j) p _ (u.points j low ∙ is)

abbrev body_of : Host → ℕ → Body
body_of h b = body_in h.bodies b

-- where a node's words are among those of its unit
pub node_within : (r : References) (b : Body) (n : ℕ) (node : Node) → slice_get b.nodes n ≡ Some node
    → node_offset r b (suc n) ≤ length (unit_code r b)
node_within r b n node e =
    let w = words_within b.nodes (suc n) r (owns_context b) (frame_locals b) 0 0 in
    omega (arith, w, length-append (entry_code r b) (nodes_code r (owns_context b) (frame_locals b) 0 0 b.nodes))

pub next_offset : (r : References) (b : Body) (n : ℕ) (node : Node) → slice_get b.nodes n ≡ Some node
    → node_offset r b (suc n) ≡ node_offset r b n + length (poll ++ node_code r (owns_context b) (frame_locals b) (words_before r (owns_context b) (frame_locals b) 0 0 b.nodes n) node (depth_from 0 b.nodes n))
next_offset r b n node e =
    let w = words_next b.nodes n node r (owns_context b) (frame_locals b) 0 0 e in
    let z : length (poll ++ node_code r (owns_context b) (frame_locals b) (0 + words_before r (owns_context b) (frame_locals b) 0 0 b.nodes n) node (depth_from 0 b.nodes n)) ≡ length (poll ++ node_code r (owns_context b) (frame_locals b) (words_before r (owns_context b) (frame_locals b) 0 0 b.nodes n) node (depth_from 0 b.nodes n)) =
    ap (λ a. length (poll ++ node_code r (owns_context b) (frame_locals b) a node (depth_from 0 b.nodes n))) (omega arith) in
    omega (arith, w, z)

-- a word of a node says what the node's points do
node_point : (h : Host) (b at n j : ℕ) (node : Node) (p : Point) → HasUnit h b at → slice_get (body_of h b).nodes n ≡ Some node
    → j < length (poll ++ node_code h.references (owns_context (body_of h b)) (frame_locals (body_of h b)) (words_before h.references (owns_context (body_of h b)) (frame_locals (body_of h b)) 0 0 (body_of h b).nodes n) node (depth_from 0 (body_of h b).nodes n))
    → slice_get (node_points b n node (depth_from 0 (body_of h b).nodes n) (length (poll ++ node_code h.references (owns_context (body_of h b)) (frame_locals (body_of h b)) (words_before h.references (owns_context (body_of h b)) (frame_locals (body_of h b)) 0 0 (body_of h b).nodes n) node (depth_from 0 (body_of h b).nodes n)))) j ≡ Some p
    → point_at h (at + 4 * (node_offset h.references (body_of h b) n + j)) ≡ p
node_point h b at n j node p u e low is =
    let x = body_of h b in
    let r = h.references in
    let owns = owns_context x in
    let locals = frame_locals x in
    let before = words_before r owns locals 0 0 x.nodes n in
    let d = depth_from 0 x.nodes n in
    let same : length (poll ++ node_code r owns locals (0 + before) node d) ≡ length (poll ++ node_code r owns locals before node d) = ap (λ a. length (poll ++ node_code r owns locals a node d)) (omega arith) in
    let first : Point = record { body = b; node = 0; pending = 0 } in
    let g = points_at x.nodes n node r owns locals b 0 0 0 j e (omega (arith, low, same)) in
    let total : node_offset r x n + j < length (unit_code r x) = omega (arith, node_within r x n node e, next_offset r x n node e, low) in
    point_of_unit h b at (node_offset r x n + j) p u total
    (ap (slice_get (unit_points r b x)) (omega arith)
    ∙ slice_behind (times (length (entry_code r x)) first) (nodes_points r owns locals b 0 0 0 x.nodes) (length (entry_code r x)) (before + j) (sym (times_long (length (entry_code r x)) first))
    ∙ g
    ∙ ap (λ f. slice_get (node_points b f node d (length (poll ++ node_code r owns locals (0 + before) node d))) j) (omega arith)
    ∙ ap (λ w. slice_get (node_points b n node d w) j) same
    ∙ is)

pub poll_descriptor : (h : Host) (pc b n : ℕ) (node : Node) → IsPoll h pc b n → slice_get (body_of h b).nodes n ≡ Some node
    → descriptor_at h pc ≡ plain_descriptor b n (frame_locals (body_of h b)) (depth (body_of h b).nodes n)
unfolding descriptor_at depth
poll_descriptor h pc b n node p e =
    let k = depth_from 0 (body_of h b).nodes n in
    let words = length (poll ++ node_code h.references (owns_context (body_of h b)) (frame_locals (body_of h b)) (words_before h.references (owns_context (body_of h b)) (frame_locals (body_of h b)) 0 0 (body_of h b).nodes n) node k) in
    let point : Point = record { body = b; node = n; pending = k } in
    let g = node_point h b p.at n 0 node point p.unit e (omega arith) (first_point (is_call node) b n (k - taken node) k words (omega arith)) in
    let same : point_at h pc ≡ point = ap (point_at h) (p.address ∙ omega arith) ∙ g in
    ap (λ q. point_descriptor (frame_locals (body_in h.bodies q.body)) q) same

pub call_descriptor : (h : Host) (pc b n : ℕ) (node : Node) → IsBehindCall h pc b n node
    → descriptor_at h pc ≡ plain_descriptor b n (frame_locals (body_of h b)) (depth (body_of h b).nodes n - taken node)
unfolding descriptor_at depth
call_descriptor h pc b n node c =
    let k = depth_from 0 (body_of h b).nodes n in
    let words = length (poll ++ node_code h.references (owns_context (body_of h b)) (frame_locals (body_of h b)) (words_before h.references (owns_context (body_of h b)) (frame_locals (body_of h b)) 0 0 (body_of h b).nodes n) node k) in
    let point : Point = record { body = b; node = n; pending = k - taken node } in
    let next = next_offset h.references (body_of h b) n node c.node_is in
    let next2 : node_offset h.references (body_of h b) (n + 1) ≡ node_offset h.references (body_of h b) (suc n) = ap (node_offset h.references (body_of h b)) (omega arith) in
    let g = node_point h b c.at n (words - 1) node point c.unit c.node_is (omega arith) (last_point (is_call node) b n (k - taken node) k words c.call (omega arith)) in
    let same : point_at h pc ≡ point = ap (point_at h) (omega (arith, c.address, next, next2)) ∙ g in
    ap (λ q. point_descriptor (frame_locals (body_in h.bodies q.body)) q) same

-- the first words of a node are its poll
poll_point : (b : Bool) (body n pending k words j : ℕ) → j < 6 → 6 < words
    → slice_get (if b then times (words - 1) (record { body = body; node = n; pending = k }) ++ (record { body = body; node = n; pending = pending } ∷ []) else times words (record { body = body; node = n; pending = k })) j
    ≡ Some (record { body = body; node = n; pending = k })
poll_point true body n pending k words j low h =
    let p : Point = record { body = body; node = n; pending = k } in
    slice_front (times (words - 1) p) _ j (omega (arith, times_long (words - 1) p)) ∙ times_is (words - 1) j p (omega arith)
poll_point false body n pending k words j low h = times_is words j (record { body = body; node = n; pending = k }) (omega arith)

some_code : (r : References) (owns : Bool) (locals at : ℕ) (node : Node) (k : ℕ) → 0 < length (node_code r owns locals at node k)
some_code r owns locals at (nodes.Int i) k = omega arith
some_code r owns locals at (nodes.Str o) k = omega arith
some_code r owns locals at nodes.SelfRef k = omega arith
some_code r owns locals at nodes.Nil k = omega arith
some_code r owns locals at (nodes.Read zero slot) k = omega arith
some_code r owns locals at (nodes.Read (suc up) slot) k = omega arith
some_code r owns locals at (nodes.Store zero slot) k = omega arith
some_code r owns locals at (nodes.Store (suc up) slot) k = omega arith
some_code r owns locals at (nodes.Prim name args implied handler) k =
    let first = k - (args + one_if (not implied) + one_if handler) in
    let code = primitive_code name.0 args implied locals first (args + one_if handler) in
    omega (arith, length-append code (answered_code locals first))
some_code r owns locals at _ k = omega arith

pub in_poll_descriptor : (h : Host) (pc b n : ℕ) (node : Node) → IsInPoll h pc b n → slice_get (body_of h b).nodes n ≡ Some node
    → descriptor_at h pc ≡ plain_descriptor b n (frame_locals (body_of h b)) (depth (body_of h b).nodes n)
unfolding descriptor_at depth
in_poll_descriptor h pc b n node p e =
    let k = depth_from 0 (body_of h b).nodes n in
    let code = node_code h.references (owns_context (body_of h b)) (frame_locals (body_of h b)) (words_before h.references (owns_context (body_of h b)) (frame_locals (body_of h b)) 0 0 (body_of h b).nodes n) node k in
    let more = some_code h.references (owns_context (body_of h b)) (frame_locals (body_of h b)) (words_before h.references (owns_context (body_of h b)) (frame_locals (body_of h b)) 0 0 (body_of h b).nodes n) node k in
    let point : Point = record { body = b; node = n; pending = k } in
    let g = node_point h b p.at n p.word node point p.unit e (omega (arith, p.within)) (poll_point (is_call node) b n (k - taken node) k (length (poll ++ code)) p.word p.within (omega (arith, more))) in
    let same : point_at h pc ≡ point = ap (point_at h) p.address ∙ g in
    ap (λ q. point_descriptor (frame_locals (body_in h.bodies q.body)) q) same
