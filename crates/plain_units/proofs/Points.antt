-- Points and entries where a unit is put behind the others.
use Rattle.std.proofs.Common.{◌≡◌, ◌≢◌, ℕ, zero, suc, ◌+◌, ◌-◌, ◌*◌, ◌/◌, ◌<◌, ◌≤◌, refl, ◌∙◌, ap, sym, arith, length-append}
use Rattle.std.specs.Prelude.{Bool, true, false, if◌then◌else◌, List, [], ◌∷◌, ◌++◌, length, Some, slice_get, slice_set, get_or}
use Rattle.std.proofs.lemmas.Option.{slice_get-get_or, slice_get_within}
use Rattle.std.proofs.lemmas.Grind.{common_steps, same_number_lists}
use Rattle.self_terms.specs.declared.nodes.Node.{Node}
use Rattle.self_terms.specs.declared.bodies.Body.{Body}
use Rattle.self_terms.specs.Depths.{taken, grown}
use Rattle.sparc_insn.specs.declared.insn.Insn.{Insn}
use Rattle.sparc_insn.specs.Instructions.{instruction}
use Rattle.sparc_store.specs.Regions.{Heap, place_of}
use Rattle.sparc_store.specs.Words.{Words, word_at, word_in, IsWithin}
use Rattle.source_model.specs.Soundness.{body_in}
use Rattle.plain_words.specs.Going.{At}
use Rattle.plain_words.specs.Code.{poll}
use Rattle.plain_words.specs.declared.references.References.{References}
use Rattle.plain_words.specs.declared.units.Point.{Point}
use Rattle.plain_words.specs.Units.{node_code, nodes_code, node_points, nodes_points, entry_code, unit_code, unit_points, owns_context, frame_locals, is_call, times}
use Rattle.plain_runs.specs.Host.{Host, first_unit}
use Rattle.plain_runs.specs.Units.{HasUnit}
use Rattle.plain_runs.specs.Services.{next_unit}
use Rattle.plain_runs.proofs.Located.{times_long}

-- A point for each word.
node_long : (b : Bool) (body n pending k words : ℕ) → 0 < words
    → length (if b then times (words - 1) (record { body = body; node = n; pending = k }) ++ (record { body = body; node = n; pending = pending } ∷ []) else times words (record { body = body; node = n; pending = k })) ≡ words
node_long true body n pending k words h =
    omega (arith, length-append (times (words - 1) (record { body = body; node = n; pending = k })) (record { body = body; node = n; pending = pending } ∷ []), times_long (words - 1) (record { body = body; node = n; pending = k }))
node_long false body n pending k words h = times_long words (record { body = body; node = n; pending = k })

nodes_long : (r : References) (owns : Bool) (locals body n at k : ℕ) (xs : List Node) → length (nodes_points r owns locals body n at k xs) ≡ length (nodes_code r owns locals at k xs)
nodes_long r owns locals body n at k [] = refl
nodes_long r owns locals body n at k (x ∷ xs) =
    let code = poll ++ node_code r owns locals at x k in
    let words = length code in
    let rest = nodes_long r owns locals body (n + 1) (at + words) (grown x k) xs in
    let first : length (node_points body n x k words) ≡ words = node_long (is_call x) body n (k - taken x) k words (omega arith) in
    omega (arith, rest, first, length-append (node_points body n x k words) (nodes_points r owns locals body (n + 1) (at + words) (grown x k) xs), length-append code (nodes_code r owns locals (at + words) (grown x k) xs))

pub points_long : (r : References) (number : ℕ) (b : Body) → length (unit_points r number b) ≡ length (unit_code r b)
points_long r number b =
    let front = times (length (entry_code r b)) (record { body = number; node = 0; pending = 0 }) in
    omega (
      arith,
      times_long (length (entry_code r b)) (record { body = number; node = 0; pending = 0 }),
      nodes_long r (owns_context b) (frame_locals b) number 0 0 0 b.nodes,
      length-append front (nodes_points r (owns_context b) (frame_locals b) number 0 0 0 b.nodes),
      length-append (entry_code r b) (nodes_code r (owns_context b) (frame_locals b) 0 0 b.nodes),
    )

-- a unit has words
pub some_words : (r : References) (b : Body) → 0 < length (unit_code r b)
some_words r b = omega arith

-- a unit that is there stands in front of the next one
pub unit_front : (h : Host) (b at : ℕ) → HasUnit h b at → at + 4 * length (unit_code h.references (body_in h.bodies b)) ≤ next_unit h
unit_front h b at u =
    let x = body_in h.bodies b in
    let words = length (unit_code h.references x) in
    let some = some_words h.references x in
    let long = points_long h.references b x in
    let j = words - 1 in
    let d : Point = record { body = 0; node = 0; pending = 0 } in
    let last = slice_get-get_or (unit_points h.references b x) j d (omega (arith, some, long)) in
    let in_all = slice_get_within h.points ((at - first_unit) / 4 + j) (get_or (unit_points h.references b x) j d) (u.points j (omega (arith, some)) ∙ last) in
    omega (arith, in_all, some, u.from, u.region.aligned)

-- Lists with one element set.
pub set_there : {A : Type 0} (xs : List A) (k : ℕ) (x : A) → k < length xs → slice_get (slice_set xs k x) k ≡ Some x
set_there [] k x h = absurd (omega (arith, h))
set_there (y ∷ ys) zero x h = refl
set_there (y ∷ ys) (suc k) x h = set_there ys k x (omega (arith, h))

pub set_elsewhere : {A : Type 0} (xs : List A) (k j : ℕ) (x : A) → j ≢ k → slice_get (slice_set xs k x) j ≡ slice_get xs j
set_elsewhere [] k j x ne = refl
set_elsewhere (y ∷ ys) zero zero x ne = absurd (ne refl)
set_elsewhere (y ∷ ys) zero (suc j) x ne = refl
set_elsewhere (y ∷ ys) (suc k) zero x ne = refl
set_elsewhere (y ∷ ys) (suc k) (suc j) x ne = set_elsewhere ys k j x (λ e. ne (ap suc e))

-- Words below an address.
pub at_same : (is : List Insn) (old new : Words) (p : ℕ) → ((b : ℕ) → b < p + 4 * length is → word_at new b ≡ word_at old b) → At old p is → At new p is
at_same [] old new p same h = tt
at_same (i ∷ is) old new p same h = (ap instruction (same p (omega arith)) ∙ h.0, at_same is old new (p + 4) (λ b low. same b (omega (arith, low))) h.1)

-- The heap is the same list where each of its words is the same.
heap_place : (k : ℕ) → k < 11534336 → place_of (0x20000000 + 4 * k) ≡ Heap k
heap_place k h = grind (arith, common_steps)

heap_word : (m : Words) (k : ℕ) → k < 11534336 → word_at m (0x20000000 + 4 * k) ≡ get_or m.heap k 0
unfolding word_at
heap_word m k h = ap (word_in m) (heap_place k h)

pub heap_same : (old new : Words) → IsWithin old → IsWithin new → ((b : ℕ) → 0x20000000 ≤ b → word_at new b ≡ word_at old b) → new.heap ≡ old.heap
heap_same old new a b same =
    same_number_lists new.heap old.heap (b.heap_len ∙ sym a.heap_len) (λ k h. sym (heap_word new k (omega (arith, h, b.heap_len))) ∙ same (0x20000000 + 4 * k) (omega arith) ∙ heap_word old k (omega (arith, h, b.heap_len)))
