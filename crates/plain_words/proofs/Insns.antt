-- The words of units are instructions of the table.
use Rattle.std.proofs.Common.{◌≡◌, ℕ, zero, suc, ◌+◌, ◌-◌, ◌*◌, ◌^◌, ◌<◌, ◌≤◌, refl, subst, arith}
use Rattle.std.specs.Prelude.{Some, Bool, true, false, not, nat_eq, if◌then◌else◌, List, [], ◌∷◌, ◌++◌, slice_get, slice_index, length, map, ℤ, pos, negsuc}
use Rattle.std.proofs.lemmas.Grind.{common_steps}
use Rattle.self_terms.specs.declared.nodes.Node.{Node}
use Rattle.self_terms.specs.declared.nodes.Node.TheVariants as nodes
use Rattle.self_terms.specs.declared.bodies.Body.{Body}
use Rattle.self_terms.specs.declared.bodies.Local.{Local}
use Rattle.self_terms.specs.declared.values.Datum.{Datum}
use Rattle.self_terms.specs.declared.values.Datum.TheVariants as datum
use Rattle.self_terms.specs.Words.{IsSmall, word_of}
use Rattle.self_terms.specs.Depths.{grown, depth, depth_from, one_if}
use Rattle.self_terms.specs.declared.names.TheConstants.{INT_SUB}
use Rattle.sparc_insn.specs.declared.insn.Insn.{Insn}
use Rattle.sparc_insn.specs.declared.insn.Insn.TheVariants.{Three, Trap}
use Rattle.sparc_insn.specs.declared.insn.Operand.TheVariants.{Reg}
use Rattle.sparc_insn.specs.Words.{IsInsn}
use Rattle.frame_walk.specs.Places.{local_offset}
use Rattle.plain_words.specs.declared.references.References.{References}
use Rattle.plain_words.specs.Code.{poll, count, plus, load, store, take, pend, constant_code, self_code, walk, reach, read_code, store_code, base_of, offset_of, arguments_code, handed_code, answered_code, is_sum, sum_op, summed_code, sum_code, primitive_code, return_code, non_local_code, set_word, move, refer, fits_code, made_code, block_code, argument_stores, initial_stores, frame_code, cell_offset, cell_arguments, cell_initials, context_head, context_end, start_code, no_maker, entry_kept}
use Rattle.plain_words.specs.Units.{node_code, restart_code, nodes_code, numbered, block_map, of_block, entry_code, unit_code, datum_word, object_word, initial_words, frame_words, frame_locals, owns_context, deepest, larger}
use Rattle.plain_words.specs.Translating.{IsShort, AreShort, IsSmallDatum, CanTranslate, AreWords}
use Rattle.plain_words.specs.Putting.{AreInsns}
use Rattle.plain_words.proofs.Long.{node_long, initial_long}

-- each by itself
abbrev Each : List Insn → Type 0
Each [] = Unit {0}
Each (i ∷ is) = IsInsn i × Each is

at_place : (code : List Insn) (j : ℕ) (i : Insn) → Each code → slice_get code j ≡ Some i → IsInsn i
at_place [] j i h e = cc
at_place (x ∷ xs) zero i h e = let P : Insn → Type 0 = IsInsn in let same : x ≡ i = cc in subst P same h.0
at_place (x ∷ xs) (suc j) i h e = at_place xs j i h.1 e

pub are : (code : List Insn) → Each code → AreInsns code
are code h = record { each = λ j i e. at_place code j i h e }

both : (a b : List Insn) → Each a → Each b → Each (a ++ b)
both [] b h k = k
both (i ∷ is) b h k = (h.0, both is b h.1 k)

poll_each : Each poll
poll_each = ((omega arith, omega arith), ((omega arith, omega arith, omega arith, tt), ((omega arith, omega arith, omega arith, tt), ((omega arith, omega arith), ((omega arith, omega arith), ((omega arith, omega arith), tt))))))

count_is : IsInsn count
count_is = (omega arith, omega arith, omega arith, tt)

take_is : (to locals k : ℕ) → to < 32 → locals + k ≤ 512 → IsInsn (take to locals k)
take_is to locals k t h = (omega arith, omega arith, omega arith, tt)

pend_is : (from locals k : ℕ) → from < 32 → locals + k ≤ 512 → IsInsn (pend from locals k)
pend_is from locals k t h = (omega arith, omega arith, omega arith, tt)

constant_each : (locals k w : ℕ) → locals + k ≤ 512 → w < 2 ^ 32 → Each (constant_code locals k w)
constant_each locals k w h s = ((omega arith, omega arith), ((omega arith, omega arith, omega arith, tt), (pend_is 1 locals k (omega arith) h, ((omega arith, omega arith, omega arith, tt), tt))))

self_each : (locals k : ℕ) → locals + k ≤ 512 → Each (self_code locals k)
self_each locals k h = (pend_is 24 locals k (omega arith) h, ((omega arith, omega arith, omega arith, tt), tt))

walk_each : (n : ℕ) → Each (walk n)
walk_each zero = tt
walk_each (suc n) = ((omega arith, omega arith, omega arith, tt), walk_each n)

reach_each : (up : ℕ) → Each (reach up)
reach_each zero = tt
reach_each (suc up) = ((omega arith, omega arith, omega arith, tt), walk_each up)

base_small : (owns : Bool) (up : ℕ) → base_of owns up < 32
base_small true zero = omega arith
base_small false zero = omega arith
base_small owns (suc up) = omega arith

offset_small : (owns : Bool) (up slot : ℕ) → slot < 256 → offset_of owns up slot < 4096
offset_small true zero slot h = omega arith
offset_small false zero slot h = omega arith
offset_small owns (suc up) slot h = omega arith

load_is : (to base offset : ℕ) → to < 32 → base < 32 → offset < 4096 → IsInsn (load to base offset)
load_is to base offset t b o = (t, b, omega arith, tt)

store_is : (from base offset : ℕ) → from < 32 → base < 32 → offset < 4096 → IsInsn (store from base offset)
store_is from base offset t b o = (t, b, omega arith, tt)

read_each : (owns : Bool) (locals k up slot : ℕ) → locals + k ≤ 512 → slot < 256 → Each (read_code owns locals k up slot)
read_each owns locals k up slot h s =
    both (reach up) (load 1 (base_of owns up) (offset_of owns up slot) ∷ pend 1 locals k ∷ count ∷ []) (reach_each up)
    (load_is 1 (base_of owns up) (offset_of owns up slot) (omega arith) (base_small owns up) (offset_small owns up slot s), (pend_is 1 locals k (omega arith) h, (count_is, tt)))

store_each : (owns : Bool) (locals k up slot : ℕ) → locals + k ≤ 512 → slot < 256 → Each (store_code owns locals k up slot)
store_each owns locals k up slot h s =
    both (reach up) (take 5 locals k ∷ store 5 (base_of owns up) (offset_of owns up slot) ∷ pend 24 locals k ∷ count ∷ []) (reach_each up) (
      take_is 5 locals k (omega arith) h,
      (store_is 5 (base_of owns up) (offset_of owns up slot) (omega arith) (base_small owns up) (offset_small owns up slot s), (pend_is 24 locals k (omega arith) h, (count_is, tt))),
    )

arguments_each : (to locals k n : ℕ) → to + n ≤ 32 → locals + k + n ≤ 512 → Each (arguments_code to locals k n)
arguments_each to locals k zero h r = tt
arguments_each to locals k (suc n) h r = (take_is to locals k (omega arith) (omega arith), arguments_each (to + 1) locals (k + 1) n (omega arith) (omega arith))

handed_each : (implied : Bool) (locals k n : ℕ) → n ≤ 5 → locals + k + 6 ≤ 512 → Each (handed_code implied locals k n)
handed_each true locals k n f h = ((omega arith, omega arith, omega arith, tt), arguments_each 9 locals k n (omega arith) (omega arith))
handed_each false locals k n f h = (take_is 8 locals k (omega arith) (omega arith), arguments_each 9 locals (k + 1) n (omega arith) (omega arith))

call_each : (implied : Bool) (service locals k n at : ℕ) → 1 ≤ service → service ≤ 9 → n ≤ 5 → locals + k + 6 ≤ 512 → locals + at ≤ 512 → Each ((handed_code implied locals k n ++ (Trap service ∷ [])) ++ answered_code locals at)
call_each implied service locals k n at low high f h a =
    both (handed_code implied locals k n ++ (Trap service ∷ [])) (answered_code locals at)
    (both (handed_code implied locals k n) (Trap service ∷ []) (handed_each implied locals k n f h) ((low, high), tt))
    (pend_is 8 locals at (omega arith) a, tt)

sum_is : (less : Bool) → IsInsn (Three (sum_op less) 1 8 (Reg 9))
sum_is true = (omega arith, omega arith, omega arith, tt)
sum_is false = (omega arith, omega arith, omega arith, tt)

summed_each : (less : Bool) → Each (summed_code less)
summed_each less = (
  sum_is less,
  ((omega arith, omega arith), ((omega arith, omega arith), ((omega arith, omega arith, omega arith, tt), ((omega arith, omega arith), (count_is, ((omega arith, omega arith), tt)))))),
)

sum_each : (less implied : Bool) (locals k n at : ℕ) → n ≤ 5 → locals + k + 6 ≤ 512 → locals + at ≤ 512 → Each (sum_code less implied locals k n ++ answered_code locals at)
sum_each less implied locals k n at f h a =
    both (sum_code less implied locals k n) (answered_code locals at)
    (both (handed_code implied locals k n) (summed_code less) (handed_each implied locals k n f h) (summed_each less))
    (pend_is 8 locals at (omega arith) a, tt)

either : (b : Bool) (x y rest : List Insn) → Each (x ++ rest) → Each (y ++ rest) → Each ((if b then x else y) ++ rest)
either true x y rest h k = h
either false x y rest h k = k

primitive_each : (name args : ℕ) (implied : Bool) (locals k n at : ℕ) → n ≤ 5 → locals + k + 6 ≤ 512 → locals + at ≤ 512 → Each (primitive_code name args implied locals k n ++ answered_code locals at)
primitive_each name args implied locals k n at f h a =
    either (is_sum name args) (sum_code (nat_eq name INT_SUB.0) implied locals k n) (handed_code implied locals k n ++ (Trap 3 ∷ [])) (answered_code locals at)
    (sum_each (nat_eq name INT_SUB.0) implied locals k n at f h a)
    (call_each implied 3 locals k n at (omega arith) (omega arith) f h a)

return_each : (owns : Bool) (locals k : ℕ) → locals + k ≤ 512 → Each (return_code owns locals k)
return_each true locals k h = (
  take_is 24 locals k (omega arith) h,
  (count_is, ((omega arith, omega arith, omega arith, tt), (store_is 0 17 7 (omega arith) (omega arith) (omega arith), ((omega arith, omega arith, omega arith, tt), ((omega arith, omega arith, omega arith, tt), tt))))),
)
return_each false locals k h = (
  take_is 24 locals k (omega arith) h,
  (count_is, ((omega arith, omega arith, omega arith, tt), ((omega arith, omega arith, omega arith, tt), ((omega arith, omega arith, omega arith, tt), tt)))),
)

non_local_each : (locals k : ℕ) → locals + k ≤ 512 → Each (non_local_code locals k)
non_local_each locals k h = (take_is 8 locals k (omega arith) h, ((omega arith, omega arith), tt))

restart_each : (back : ℕ) → 0 < back → back ≤ 2000000 → Each (restart_code back)
restart_each back s h = ((omega arith, omega arith), (count_is, tt))

set_each : (to w : ℕ) → to < 32 → w < 2 ^ 32 → Each (set_word to w)
set_each to w t s = ((omega arith, omega arith), ((omega arith, omega arith, omega arith, tt), tt))

plus_is : (r n : ℕ) → r < 32 → n < 4096 → IsInsn (plus r n)
plus_is r n t h = (omega arith, omega arith, omega arith, tt)

refer_is : (to : ℕ) → to < 32 → IsInsn (refer to)
refer_is to t = (omega arith, omega arith, omega arith, tt)

fits_each : (words : ℕ) → words < 4096 → Each (fits_code words)
fits_each words h = (
  (omega arith, omega arith),
  (
    load_is 1 1 4 (omega arith) (omega arith) (omega arith),
    ((omega arith, omega arith, omega arith, tt), ((omega arith, omega arith, omega arith, tt), ((omega arith, omega arith), ((omega arith, omega arith), ((omega arith, omega arith), tt))))),
  ),
)

made_each : (locals k map body : ℕ) → locals + k ≤ 512 → map < 2 ^ 32 → body < 2 ^ 32 → Each (made_code locals k map body)
made_each locals k map body h m b =
    let last = store 1 6 4 ∷ store 17 6 8 ∷ store 24 6 12 ∷ refer 1 ∷ pend 1 locals k ∷ plus 6 16 ∷ plus 3 4 ∷ count ∷ [] in
    let ends : Each last = (
      store_is 1 6 4 (omega arith) (omega arith) (omega arith),
      (
        store_is 17 6 8 (omega arith) (omega arith) (omega arith),
        (
          store_is 24 6 12 (omega arith) (omega arith) (omega arith),
          (refer_is 1 (omega arith), (pend_is 1 locals k (omega arith) h, (plus_is 6 16 (omega arith) (omega arith), (plus_is 3 4 (omega arith) (omega arith), (count_is, tt))))),
        ),
      ),
    ) in
    both (set_word 1 map) (store 1 6 0 ∷ set_word 1 body ++ last) (set_each 1 map (omega arith) m)
    (store_is 1 6 0 (omega arith) (omega arith) (omega arith), both (set_word 1 body) last (set_each 1 body (omega arith) b) ends)

block_each : (locals k map body : ℕ) → locals + k ≤ 512 → map < 2 ^ 32 → body < 2 ^ 32 → Each (block_code locals k map body)
block_each locals k map body h m b = both (fits_code 4) (made_code locals k map body) (fits_each 4 (omega arith)) (made_each locals k map body h m b)

numbered_small : (n : ℕ) → numbered n < 2 ^ 32
numbered_small n = omega arith

word_small : (z : ℤ) → IsSmall z → word_of z < 2 ^ 32
word_small (pos n) h = omega arith
word_small (negsuc n) h = omega arith

bare_each : (r : References) (owns : Bool) (locals at : ℕ) (node : Node) (k : ℕ) → AreWords r → locals + k + 6 ≤ 512 → at < 90000 → IsShort 64 node → Each (node_code r owns locals at node k)
bare_each r owns locals at (nodes.Int i) k w h n s = constant_each locals k (word_of i) (omega arith) (word_small i s)
bare_each r owns locals at (nodes.Str o) k w h n s = constant_each locals k (object_word r o) (omega arith) (w.objects o)
bare_each r owns locals at nodes.SelfRef k w h n s = self_each locals k (omega arith)
bare_each r owns locals at nodes.Nil k w h n s = constant_each locals k r.nil (omega arith) w.nil
bare_each r owns locals at (nodes.Read up slot) k w h n s = read_each owns locals k up slot (omega arith) s.1
bare_each r owns locals at (nodes.Store up slot) k w h n s = store_each owns locals (k - 1) up slot (omega arith) s.1
bare_each r owns locals at (nodes.Send sel) k w h n s = call_each false 1 locals (k - (sel.args + 1)) sel.args (k - (sel.args + 1)) (omega arith) (omega arith) s (omega arith) (omega arith)
bare_each r owns locals at (nodes.SelfSend sel) k w h n s = call_each true 1 locals (k - sel.args) sel.args (k - sel.args) (omega arith) (omega arith) s (omega arith) (omega arith)
bare_each r owns locals at (nodes.Resend sel) k w h n s = call_each true 1 locals (k - sel.args) sel.args (k - sel.args) (omega arith) (omega arith) s (omega arith) (omega arith)
bare_each r owns locals at (nodes.Directed parent sel) k w h n s = call_each true 1 locals (k - sel.args) sel.args (k - sel.args) (omega arith) (omega arith) s (omega arith) (omega arith)
bare_each r owns locals at nodes.Drop k w h n s = (count_is, tt)
bare_each r owns locals at nodes.Restart k w h n s = restart_each (at + 6) (omega arith) (omega arith)
bare_each r owns locals at nodes.Return k w h n s = return_each owns locals (k - 1) (omega arith)
bare_each r owns locals at nodes.NonLocal k w h n s = non_local_each locals (k - 1) (omega arith)
bare_each r owns locals at nodes.End k w h n s = return_each owns locals (k - 1) (omega arith)
bare_each r owns locals at (nodes.BlockLit b) k w h n s = block_each locals k (block_map r b.0) (numbered b.0) (omega arith) (numbered_small (slice_index r.blocks (b.0 - 1))) (numbered_small b.0)
bare_each r owns locals at (nodes.Prim name args implied handler) k w h n s =
    let first = k - (args + one_if (not implied) + one_if handler) in
    primitive_each name.0 args implied locals first (args + one_if handler) first s (omega arith) (omega arith)

-- that many values are pending before a node, and before each behind it
deep_here : (d : ℕ) (n : Node) (ns : List Node) → ((k : ℕ) → depth_from d (n ∷ ns) k ≤ 64) → d ≤ 64
deep_here d n ns h = h 0

near : (at n p : ℕ) → at + 74 * suc n ≤ 80000 → p ≤ 74 → at + p + 74 * n ≤ 80000
near at n p h l = omega arith

nodes_each : (r : References) (owns : Bool) (locals at d : ℕ) (ns : List Node) → AreWords r → locals + 70 ≤ 512 → at + 74 * length ns ≤ 80000 → ((k : ℕ) → depth_from d ns k ≤ 64) → AreShort 64 ns
    → Each (nodes_code r owns locals at d ns)
nodes_each r owns locals at d [] w l n deep short = tt
nodes_each r owns locals at d (x ∷ xs) w l n deep short =
    let here = deep_here d x xs deep in
    let s : IsShort 64 x = short 0 x refl in
    let P = poll ++ node_code r owns locals at x d in
    let long : length P ≤ 74 = node_long 64 r owns locals at x d (omega arith) s in
    both P (nodes_code r owns locals (at + length P) (grown x d) xs) (both poll (node_code r owns locals at x d) poll_each (bare_each r owns locals at x d w (omega arith) (omega arith) s))
    (nodes_each r owns locals (at + length P) (grown x d) xs w l (near at (length xs) (length P) n long) (λ k. deep (suc k)) (λ k y e. short (suc k) y e))

argument_each : (register slot n : ℕ) → register + n ≤ 32 → slot + n ≤ 512 → Each (argument_stores register slot n)
argument_each register slot zero h r = tt
argument_each register slot (suc n) h r = (store_is register 14 (local_offset slot) (omega arith) (omega arith) (omega arith), argument_each (register + 1) (slot + 1) n (omega arith) (omega arith))

datum_small : (r : References) (d : Datum) → AreWords r → IsSmallDatum d → datum_word r d < 2 ^ 32
datum_small r (datum.Integer i) w s = word_small i s
datum_small r (datum.Object o) w s = w.objects o
datum_small r datum.Nil w s = w.nil

initial_each : (r : References) (slot : ℕ) (xs : List Local) → AreWords r → slot + length xs ≤ 512 → ((k : ℕ) (x : Local) → slice_get xs k ≡ Some x → IsSmallDatum x.initial) → Each (initial_stores slot (map (λ x. datum_word r x.initial) xs))
initial_each r slot [] w h s = tt
initial_each r slot (x ∷ xs) w h s =
    let small = datum_small r x.initial w (s 0 x refl) in (
      (omega arith, omega arith),
      ((omega arith, omega arith, omega arith, tt), (store_is 1 14 (local_offset slot) (omega arith) (omega arith) (omega arith), initial_each r (slot + 1) xs w (omega arith) (λ k y e. s (suc k) y e))),
    )

-- the most pending values are those before some node
larger_small : (a b : ℕ) → a ≤ 64 → b ≤ 64 → larger a b ≤ 64
larger_small a b h k = grind (arith, common_steps)

deepest_small : (d : ℕ) (ns : List Node) → ((k : ℕ) → depth_from d ns k ≤ 64) → deepest d ns ≤ 64
deepest_small d [] h = h 0
deepest_small d (n ∷ ns) h =
    let first : d ≤ 64 = h 0 in
    let rest : deepest (grown n d) ns ≤ 64 = deepest_small (grown n d) ns (λ k. h (suc k)) in
    larger_small d (deepest (grown n d) ns) first rest

locals_small : (b : Body) → length b.arguments ≤ 5 → length b.locals ≤ 64 → frame_locals b ≤ 69
locals_small b h k = grind (arith, common_steps)

frame_each : (words : ℕ) → 0 < words → words ≤ 1024 → Each (frame_code (4 * words))
frame_each words s h = ((omega arith, omega arith, omega arith, tt), tt)

deep_from : (b : Body) → CanTranslate b → (k : ℕ) → depth_from 0 b.nodes k ≤ 64
unfolding depth
deep_from b can k = can.deep k

cell_argument_each : (register slot n : ℕ) → register + n ≤ 32 → slot + n ≤ 512 → Each (cell_arguments register slot n)
cell_argument_each register slot zero h r = tt
cell_argument_each register slot (suc n) h r = (store_is register 6 (cell_offset slot) (omega arith) (omega arith) (omega arith), cell_argument_each (register + 1) (slot + 1) n (omega arith) (omega arith))

cell_initial_each : (r : References) (slot : ℕ) (xs : List Local) → AreWords r → slot + length xs ≤ 512 → ((k : ℕ) (x : Local) → slice_get xs k ≡ Some x → IsSmallDatum x.initial) → Each (cell_initials slot (map (λ x. datum_word r x.initial) xs))
cell_initial_each r slot [] w h s = tt
cell_initial_each r slot (x ∷ xs) w h s =
    let small = datum_small r x.initial w (s 0 x refl) in
    both (set_word 1 (datum_word r x.initial)) (store 1 6 (cell_offset slot) ∷ cell_initials (slot + 1) (map (λ y. datum_word r y.initial) xs)) (set_each 1 (datum_word r x.initial) (omega arith) small)
    (store_is 1 6 (cell_offset slot) (omega arith) (omega arith) (omega arith), cell_initial_each r (slot + 1) xs w (omega arith) (λ k y e. s (suc k) y e))

start_each : (block : Bool) → Each (start_code block)
start_each false = ((omega arith, omega arith, omega arith, tt), ((omega arith, omega arith), ((omega arith, omega arith, omega arith, tt), tt)))
start_each true = (
  load_is 16 24 7 (omega arith) (omega arith) (omega arith),
  (load_is 5 16 7 (omega arith) (omega arith) (omega arith), (load_is 5 5 104 (omega arith) (omega arith) (omega arith), (load_is 24 24 11 (omega arith) (omega arith) (omega arith), tt))),
)

maker_each : (block : Bool) → Each (no_maker block)
maker_each false = ((omega arith, omega arith, omega arith, tt), tt)
maker_each true = tt

head_each : (map : ℕ) → map < 2 ^ 32 → Each (context_head map)
head_each map m =
    both (set_word 1 map) (store 1 6 0 ∷ store 16 6 4 ∷ store 14 6 8 ∷ store 24 6 12 ∷ []) (set_each 1 map (omega arith) m) (
      store_is 1 6 0 (omega arith) (omega arith) (omega arith),
      (store_is 16 6 4 (omega arith) (omega arith) (omega arith), (store_is 14 6 8 (omega arith) (omega arith) (omega arith), (store_is 24 6 12 (omega arith) (omega arith) (omega arith), tt))),
    )

end_each : (words : ℕ) → words ≤ 1000 → Each (context_end words)
end_each words h = (refer_is 17 (omega arith), (plus_is 6 (4 * words) (omega arith) (omega arith), (plus_is 3 words (omega arith) (omega arith), (plus_is 4 1 (omega arith) (omega arith), (count_is, tt)))))

kept_each : (r : References) (b : Body) (owns block : Bool) → AreWords r → CanTranslate b → Each (entry_kept owns block (numbered r.contexts) (length b.arguments) (initial_words r b))
kept_each r b false block w can =
    let few = can.arguments in
    let many = can.locals in
    let n = length b.arguments in
    both (store 5 14 104 ∷ no_maker block ++ (move 17 0 ∷ argument_stores 25 0 n)) (initial_stores n (initial_words r b) ++ (plus 4 1 ∷ count ∷ [])) (
      store_is 5 14 104 (omega arith) (omega arith) (omega arith),
      both (no_maker block) (move 17 0 ∷ argument_stores 25 0 n) (maker_each block) ((omega arith, omega arith, omega arith, tt), argument_each 25 0 n (omega arith) (omega arith)),
    )
    (both (initial_stores n (initial_words r b)) (plus 4 1 ∷ count ∷ []) (initial_each r n b.locals w (omega arith) can.initial) (plus_is 4 1 (omega arith) (omega arith), (count_is, tt)))
kept_each r b true block w can =
    let few = can.arguments in
    let many = can.locals in
    let n = length b.arguments in
    let initial = initial_words r b in
    let long : length initial ≡ length b.locals = initial_long r b.locals in
    both (store 5 14 104 ∷ no_maker block ++ (context_head (numbered r.contexts) ++ cell_arguments 25 0 n)) (cell_initials n initial ++ context_end (4 + n + length initial)) (
      store_is 5 14 104 (omega arith) (omega arith) (omega arith),
      both (no_maker block) (context_head (numbered r.contexts) ++ cell_arguments 25 0 n) (maker_each block)
          (both (context_head (numbered r.contexts)) (cell_arguments 25 0 n) (head_each (numbered r.contexts) (numbered_small r.contexts)) (cell_argument_each 25 0 n (omega arith) (omega arith))),
    )
    (both (cell_initials n initial) (context_end (4 + n + length initial)) (cell_initial_each r n b.locals w (omega arith) can.initial) (end_each (4 + n + length initial) (omega arith)))

entry_each : (r : References) (b : Body) → AreWords r → CanTranslate b → Each (entry_code r b)
entry_each r b w can =
    let deep : deepest 0 b.nodes ≤ 64 = deepest_small 0 b.nodes (deep_from b can) in
    let locals = locals_small b can.arguments can.locals in
    let kept = entry_kept (owns_context b) (of_block b) (numbered r.contexts) (length b.arguments) (initial_words r b) in
    both (frame_code (4 * frame_words b)) (start_code (of_block b) ++ kept) (frame_each (frame_words b) (omega arith) (omega arith))
    (both (start_code (of_block b)) kept (start_each (of_block b)) (kept_each r b (owns_context b) (of_block b) w can))

pub unit_insns : (r : References) (b : Body) → AreWords r → CanTranslate b → AreInsns (unit_code r b)
unit_insns r b w can =
    let locals = locals_small b can.arguments can.locals in
    let few = can.few in
    are (unit_code r b) (both (entry_code r b) (nodes_code r (owns_context b) (frame_locals b) 0 0 b.nodes) (entry_each r b w can)
    (nodes_each r (owns_context b) (frame_locals b) 0 0 b.nodes w (omega arith) (omega arith) (deep_from b can) can.short))
