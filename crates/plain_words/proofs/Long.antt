-- How many words a node has, and the entry of a body.
use Rattle.std.proofs.Common.{◌≡◌, ℕ, zero, suc, ◌+◌, ◌-◌, ◌*◌, ◌/◌, ◌≤◌, refl, ◌∙◌, ap, arith, length-append}
use Rattle.std.proofs.lemmas.Grind.{common_steps}
use Rattle.self_terms.specs.declared.bodies.Body.{Body}
use Rattle.self_terms.specs.declared.bodies.Local.{Local}
use Rattle.self_terms.specs.Depths.{grown, one_if}
use Rattle.self_terms.specs.declared.names.TheConstants.{INT_SUB}
use Rattle.std.specs.Prelude.{List, [], ◌∷◌, ◌++◌, Bool, true, false, not, nat_eq, if◌then◌else◌, length, map}
use Rattle.self_terms.specs.declared.nodes.Node.{Node}
use Rattle.self_terms.specs.declared.nodes.Node.TheVariants as nodes
use Rattle.sparc_insn.specs.declared.insn.Insn.TheVariants.{Trap}
use Rattle.plain_words.specs.declared.references.References.{References}
use Rattle.plain_words.specs.Code.{poll, walk, reach, arguments_code, handed_code, answered_code, is_sum, summed_code, sum_code, primitive_code, read_code, store_code, return_code, argument_stores, initial_stores, cell_arguments, cell_initials, context_end, start_code, entry_kept, plus, count}
use Rattle.plain_words.specs.Units.{node_code, nodes_code, entry_code, unit_code, initial_words, datum_word, owns_context, of_block, numbered, entry_size, frame_locals, frame_words, deepest}
use Rattle.plain_words.specs.Translating.{IsShort, AreShort}

walk_long : (n : ℕ) → length (walk n) ≡ n
walk_long zero = refl
walk_long (suc n) = let e = walk_long n in omega arith

reach_long : (up : ℕ) → length (reach up) ≡ up
reach_long zero = refl
reach_long (suc up) = let e = walk_long up in omega arith

arguments_long : (to locals k n : ℕ) → length (arguments_code to locals k n) ≡ n
arguments_long to locals k zero = refl
arguments_long to locals k (suc n) = let e = arguments_long (to + 1) locals (k + 1) n in omega arith

read_long : (owns : Bool) (locals k up slot : ℕ) → length (read_code owns locals k up slot) ≡ up + 3
read_long owns locals k up slot = length-append (reach up) _ ∙ ap (λ n. n + 3) (reach_long up)

store_long : (owns : Bool) (locals k up slot : ℕ) → length (store_code owns locals k up slot) ≡ up + 4
store_long owns locals k up slot = length-append (reach up) _ ∙ ap (λ n. n + 4) (reach_long up)

pub handed_long : (implied : Bool) (locals k n : ℕ) → length (handed_code implied locals k n) ≡ 1 + n
handed_long true locals k n = let e = arguments_long 9 locals k n in omega arith
handed_long false locals k n = let e = arguments_long 9 locals (k + 1) n in omega arith

call_long : (implied : Bool) (locals k n at service : ℕ) → length ((handed_code implied locals k n ++ (Trap service ∷ [])) ++ answered_code locals at) ≡ n + 3
call_long implied locals k n at service =
    let both = length-append (handed_code implied locals k n ++ (Trap service ∷ [])) (answered_code locals at) in
    let front = length-append (handed_code implied locals k n) (Trap service ∷ []) in
    let many = handed_long implied locals k n in
    omega arith

sum_long : (less implied : Bool) (locals k n at : ℕ) → length (sum_code less implied locals k n ++ answered_code locals at) ≡ n + 9
sum_long less implied locals k n at =
    let both = length-append (sum_code less implied locals k n) (answered_code locals at) in
    let front = length-append (handed_code implied locals k n) (summed_code less) in
    let many = handed_long implied locals k n in
    omega arith

-- a sum has one argument, and so at most two values with a handler
sum_few : (name args : ℕ) (handler : Bool) → is_sum name args ≡ true → args + one_if handler ≤ 2
sum_few name args true h = grind (arith, common_steps)
sum_few name args false h = grind (arith, common_steps)

primitive_long : (sum : Bool) (name args : ℕ) (implied handler : Bool) (locals k at : ℕ) → is_sum name args ≡ sum → args + one_if handler ≤ 5
    → length (primitive_code name args implied locals k (args + one_if handler) ++ answered_code locals at) ≤ 11
primitive_long true name args implied handler locals k at e h =
    let long = ap (λ b. length ((if b then sum_code (nat_eq name INT_SUB.0) implied locals k (args + one_if handler) else (handed_code implied locals k (args + one_if handler) ++ (Trap 3 ∷ []))) ++ answered_code locals at)) e in
    let sum = sum_long (nat_eq name INT_SUB.0) implied locals k (args + one_if handler) at in
    let few = sum_few name args handler e in
    omega arith
primitive_long false name args implied handler locals k at e h =
    let long = ap (λ b. length ((if b then sum_code (nat_eq name INT_SUB.0) implied locals k (args + one_if handler) else (handed_code implied locals k (args + one_if handler) ++ (Trap 3 ∷ []))) ++ answered_code locals at)) e in
    let call = call_long implied locals k (args + one_if handler) at 3 in
    omega arith

return_long : (owns : Bool) (locals k : ℕ) → length (return_code owns locals k) ≤ 6
return_long true locals k = omega arith
return_long false locals k = omega arith

bare_long : (out : ℕ) (r : References) (owns : Bool) (locals at : ℕ) (node : Node) (k : ℕ) → 16 ≤ out → IsShort out node → length (node_code r owns locals at node k) ≤ out + 4
bare_long out r owns locals at (nodes.Read up slot) k h s = let e = read_long owns locals k up slot in let b = s.0 in omega arith
bare_long out r owns locals at (nodes.Store up slot) k h s = let e = store_long owns locals (k - 1) up slot in let b = s.0 in omega arith
bare_long out r owns locals at (nodes.Send sel) k h s = let e = call_long false locals (k - (sel.args + 1)) sel.args (k - (sel.args + 1)) 1 in omega arith
bare_long out r owns locals at (nodes.SelfSend sel) k h s = let e = call_long true locals (k - sel.args) sel.args (k - sel.args) 1 in omega arith
bare_long out r owns locals at (nodes.Resend sel) k h s = let e = call_long true locals (k - sel.args) sel.args (k - sel.args) 1 in omega arith
bare_long out r owns locals at (nodes.Directed parent sel) k h s = let e = call_long true locals (k - sel.args) sel.args (k - sel.args) 1 in omega arith
bare_long out r owns locals at nodes.Return k h s = let e = return_long owns locals (k - 1) in omega arith
bare_long out r owns locals at nodes.End k h s = let e = return_long owns locals (k - 1) in omega arith
bare_long out r owns locals at (nodes.Int i) k h s = omega arith
bare_long out r owns locals at (nodes.Str o) k h s = omega arith
bare_long out r owns locals at nodes.SelfRef k h s = omega arith
bare_long out r owns locals at nodes.Nil k h s = omega arith
bare_long out r owns locals at nodes.Drop k h s = omega arith
bare_long out r owns locals at nodes.Restart k h s = omega arith
bare_long out r owns locals at nodes.NonLocal k h s = omega arith
bare_long out r owns locals at (nodes.BlockLit b) k h s = omega arith
bare_long out r owns locals at (nodes.Prim name args implied handler) k h s =
    let first = k - (args + one_if (not implied) + one_if handler) in
    let e = primitive_long (is_sum name.0 args) name.0 args implied handler locals first first refl s in
    omega arith

-- a node with its poll, where locals stand at most so many bodies out
pub node_long : (out : ℕ) (r : References) (owns : Bool) (locals at : ℕ) (node : Node) (k : ℕ) → 16 ≤ out → IsShort out node → length (poll ++ node_code r owns locals at node k) ≤ out + 10
node_long out r owns locals at node k h s = let e = bare_long out r owns locals at node k h s in omega arith

argument_stores_long : (register slot n : ℕ) → length (argument_stores register slot n) ≡ n
argument_stores_long register slot zero = refl
argument_stores_long register slot (suc n) = let e = argument_stores_long (register + 1) (slot + 1) n in omega arith

initial_stores_long : (slot : ℕ) (ws : List ℕ) → length (initial_stores slot ws) ≡ 3 * length ws
initial_stores_long slot [] = refl
initial_stores_long slot (w ∷ ws) = let e = initial_stores_long (slot + 1) ws in omega arith

pub initial_long : (r : References) (xs : List Local) → length (map (λ x. datum_word r x.initial) xs) ≡ length xs
initial_long r [] = refl
initial_long r (x ∷ xs) = let e = initial_long r xs in omega arith

cell_arguments_long : (register slot n : ℕ) → length (cell_arguments register slot n) ≡ n
cell_arguments_long register slot zero = refl
cell_arguments_long register slot (suc n) = let e = cell_arguments_long (register + 1) (slot + 1) n in omega arith

cell_initials_long : (slot : ℕ) (ws : List ℕ) → length (cell_initials slot ws) ≡ 3 * length ws
cell_initials_long slot [] = refl
cell_initials_long slot (w ∷ ws) = let e = cell_initials_long (slot + 1) ws in omega arith

-- the holder and what follows it
kept_long : (owns block : Bool) (map arguments : ℕ) (initial : List ℕ) → length (start_code block ++ entry_kept owns block map arguments initial) + 1 ≡ entry_size owns + arguments + 3 * length initial
kept_long false false map n ws =
    let one = argument_stores_long 25 0 n in
    let two = initial_stores_long n ws in
    let three = length-append (argument_stores 25 0 n) (initial_stores n ws ++ (plus 4 1 ∷ count ∷ [])) in
    let four = length-append (initial_stores n ws) (plus 4 1 ∷ count ∷ []) in
    omega arith
kept_long false true map n ws =
    let one = argument_stores_long 25 0 n in
    let two = initial_stores_long n ws in
    let three = length-append (argument_stores 25 0 n) (initial_stores n ws ++ (plus 4 1 ∷ count ∷ [])) in
    let four = length-append (initial_stores n ws) (plus 4 1 ∷ count ∷ []) in
    omega arith
kept_long true false map n ws =
    let one = cell_arguments_long 25 0 n in
    let two = cell_initials_long n ws in
    let three = length-append (cell_arguments 25 0 n) (cell_initials n ws ++ context_end (4 + n + length ws)) in
    let four = length-append (cell_initials n ws) (context_end (4 + n + length ws)) in
    omega arith
kept_long true true map n ws =
    let one = cell_arguments_long 25 0 n in
    let two = cell_initials_long n ws in
    let three = length-append (cell_arguments 25 0 n) (cell_initials n ws ++ context_end (4 + n + length ws)) in
    let four = length-append (cell_initials n ws) (context_end (4 + n + length ws)) in
    omega arith

pub entry_long : (r : References) (b : Body) → length (entry_code r b) ≡ entry_size (owns_context b) + length b.arguments + 3 * length b.locals
entry_long r b =
    let e = kept_long (owns_context b) (of_block b) (numbered r.contexts) (length b.arguments) (initial_words r b) in
    let f : length (initial_words r b) ≡ length b.locals = initial_long r b.locals in
    omega arith

-- at most
size_most : (owns : Bool) → entry_size owns ≤ 17
size_most false = omega arith
size_most true = omega arith

pub entry_most : (r : References) (b : Body) → length (entry_code r b) ≤ 17 + length b.arguments + 3 * length b.locals
entry_most r b = let e = entry_long r b in let f = size_most (owns_context b) in omega arith

more : (a n p q s : ℕ) → p ≤ a → q ≤ a * n → s ≡ p + q → s ≤ a * suc n
more a n p q s h k e = let m : a * suc n ≡ a + a * n = grind (arith, common_steps) in omega arith

nodes_long : (out : ℕ) (r : References) (owns : Bool) (locals at d : ℕ) (ns : List Node) → 16 ≤ out → AreShort out ns → length (nodes_code r owns locals at d ns) ≤ (out + 10) * length ns
nodes_long out r owns locals at d [] h short = omega arith
nodes_long out r owns locals at d (x ∷ xs) h short =
    let P = poll ++ node_code r owns locals at x d in
    let long : length P ≤ out + 10 = node_long out r owns locals at x d h (short 0 x refl) in
    let rest : length (nodes_code r owns locals (at + length P) (grown x d) xs) ≤ (out + 10) * length xs = nodes_long out r owns locals (at + length P) (grown x d) xs h (λ k y e. short (suc k) y e) in
    let sum : length (P ++ nodes_code r owns locals (at + length P) (grown x d) xs) ≡ length P + length (nodes_code r owns locals (at + length P) (grown x d) xs) = length-append P (nodes_code r owns locals (at + length P) (grown x d) xs) in
    more (out + 10) (length xs) (length P) _ _ long rest sum

pub unit_long : (out : ℕ) (r : References) (b : Body) → 16 ≤ out → AreShort out b.nodes → length (unit_code r b) ≤ (out + 10) * length b.nodes + 16 * (length b.arguments + length b.locals) + 64
unit_long out r b h short =
    let nodes = nodes_long out r (owns_context b) (frame_locals b) 0 0 b.nodes h short in
    let entry = entry_most r b in
    let sum = length-append (entry_code r b) (nodes_code r (owns_context b) (frame_locals b) 0 0 b.nodes) in
    omega arith

halves : (l d : ℕ) → 4 * (2 * ((29 + l + d) / 2)) ≤ 256 + 8 * (l + d)
halves l d = omega arith

pub frame_small : (b : Body) → 4 * frame_words b ≤ 256 + 8 * (frame_locals b + deepest 0 b.nodes)
frame_small b = halves (frame_locals b) (deepest 0 b.nodes)
