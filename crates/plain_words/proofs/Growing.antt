-- Stretches of words that grow at their end.
use Rattle.std.proofs.Common.{◌≡◌, ℕ, zero, suc, ◌+◌, ◌-◌, ◌≤◌, refl, ◌∙◌, ap, sym, arith, append_assoc, length-append, drop}
use Rattle.std.specs.Prelude.{List, [], ◌∷◌, ◌++◌, Bool, true, false, Some, slice_get, length, map}
use Rattle.std.specs.List.{list_any}
use Rattle.std.proofs.lemmas.Grind.{common_steps}
use Rattle.self_terms.specs.declared.bodies.Body.{Body}
use Rattle.self_terms.specs.declared.nodes.Node.{Node}
use Rattle.self_terms.specs.Depths.{grown, depth, depth_from}
use Rattle.plain_words.specs.declared.references.References.{References}
use Rattle.plain_words.specs.declared.units.Point.{Point}
use Rattle.plain_words.specs.Units.{times, deepest, larger, nodes_code, nodes_points, node_code, node_points, entry_code, unit_code, unit_points, owns_context, frame_locals}
use Rattle.sparc_insn.specs.declared.insn.Insn.{Insn}
use Rattle.plain_words.specs.Code.{load, store, take, walk, arguments_code, argument_stores, initial_stores, cell_offset, cell_arguments, cell_initials, poll}
use Rattle.frame_walk.specs.Places.{local_offset}

walk_suc : (n : ℕ) → walk n ++ (load 1 1 3 ∷ []) ≡ walk (suc n)
walk_suc zero = refl
walk_suc (suc n) = ap (λ l. load 1 1 3 ∷ l) (walk_suc n)

pub walk_more : (n : ℕ) → walk n ++ (load 1 1 3 ∷ []) ≡ walk (n + 1)
walk_more n = let one : suc n ≡ n + 1 = omega arith in walk_suc n ∙ ap walk one

arguments_suc : (n to locals k t j : ℕ) → t ≡ to + n → j ≡ k + n → arguments_code to locals k n ++ (take t locals j ∷ []) ≡ arguments_code to locals k (suc n)
arguments_suc zero to locals k t j e f =
    let et : t ≡ to = omega arith in
    let ej : j ≡ k = omega arith in
    cc
arguments_suc (suc n) to locals k t j e f = ap (λ l. take to locals k ∷ l) (arguments_suc n (to + 1) locals (k + 1) t j (omega arith) (omega arith))

pub arguments_more : (n to locals k t j : ℕ) → t ≡ to + n → j ≡ k + n → arguments_code to locals k n ++ (take t locals j ∷ []) ≡ arguments_code to locals k (n + 1)
arguments_more n to locals k t j e f = let one : suc n ≡ n + 1 = omega arith in arguments_suc n to locals k t j e f ∙ ap (arguments_code to locals k) one

stores_suc : (n register slot t j : ℕ) → t ≡ register + n → j ≡ slot + n → argument_stores register slot n ++ (store t 14 (local_offset j) ∷ []) ≡ argument_stores register slot (suc n)
stores_suc zero register slot t j e f =
    let et : t ≡ register = omega arith in
    let ej : j ≡ slot = omega arith in
    cc
stores_suc (suc n) register slot t j e f = ap (λ l. store register 14 (local_offset slot) ∷ l) (stores_suc n (register + 1) (slot + 1) t j (omega arith) (omega arith))

pub stores_more : (n register slot t j : ℕ) → t ≡ register + n → j ≡ slot + n → argument_stores register slot n ++ (store t 14 (local_offset j) ∷ []) ≡ argument_stores register slot (n + 1)
stores_more n register slot t j e f = let one : suc n ≡ n + 1 = omega arith in stores_suc n register slot t j e f ∙ ap (argument_stores register slot) one

cells_suc : (n register slot t j : ℕ) → t ≡ register + n → j ≡ slot + n → cell_arguments register slot n ++ (store t 6 (cell_offset j) ∷ []) ≡ cell_arguments register slot (suc n)
cells_suc zero register slot t j e f =
    let et : t ≡ register = omega arith in
    let ej : j ≡ slot = omega arith in
    cc
cells_suc (suc n) register slot t j e f = ap (λ l. store register 6 (cell_offset slot) ∷ l) (cells_suc n (register + 1) (slot + 1) t j (omega arith) (omega arith))

pub cells_more : (n register slot t j : ℕ) → t ≡ register + n → j ≡ slot + n → cell_arguments register slot n ++ (store t 6 (cell_offset j) ∷ []) ≡ cell_arguments register slot (n + 1)
cells_more n register slot t j e f = let one : suc n ≡ n + 1 = omega arith in cells_suc n register slot t j e f ∙ ap (cell_arguments register slot) one

times_suc : (n : ℕ) (p : Point) → times n p ++ (p ∷ []) ≡ times (suc n) p
times_suc zero p = refl
times_suc (suc n) p = ap (λ l. p ∷ l) (times_suc n p)

pub times_more : (n : ℕ) (p : Point) → times n p ++ (p ∷ []) ≡ times (n + 1) p
times_more n p = let one : suc n ≡ n + 1 = omega arith in times_suc n p ∙ ap (λ k. times k p) one

-- what is left of a list at a place
drop_suc : {A : Type 0} (xs : List A) (k : ℕ) (x : A) → slice_get xs k ≡ Some x → drop k xs ≡ x ∷ drop (suc k) xs
drop_suc [] k x e = cc
drop_suc (y ∷ ys) zero x e = let same : y ≡ x = cc in ap (λ z. z ∷ ys) same
drop_suc (y ∷ ys) (suc k) x e = drop_suc ys k x e

pub drop_here : {A : Type 0} (xs : List A) (k : ℕ) (x : A) → slice_get xs k ≡ Some x → drop k xs ≡ x ∷ drop (k + 1) xs
drop_here xs k x e = let one : suc k ≡ k + 1 = omega arith in drop_suc xs k x e ∙ ap (λ j. x ∷ drop j xs) one

pub drop_none : {A : Type 0} (xs : List A) (k : ℕ) → length xs ≤ k → drop k xs ≡ []
drop_none [] zero h = refl
drop_none [] (suc k) h = refl
drop_none (x ∷ xs) zero h = absurd (omega arith)
drop_none (x ∷ xs) (suc k) h = drop_none xs k (omega arith)

-- the words of a node stand before those of the nodes behind it
pub code_next : (r : References) (owns : Bool) (locals at k over : ℕ) (list : List Node) (node : Node) (old new : List Insn) → slice_get list k ≡ Some node
    → new ≡ old ++ (poll ++ node_code r owns locals at node over)
    → new ++ nodes_code r owns locals (at + length (poll ++ node_code r owns locals at node over)) (grown node over) (drop (k + 1) list) ≡ old ++ nodes_code r owns locals at over (drop k list)
code_next r owns locals at k over list node old new e h =
    let front = poll ++ node_code r owns locals at node over in
    let rest = nodes_code r owns locals (at + length front) (grown node over) (drop (k + 1) list) in
    ap (λ l. l ++ rest) h ∙ append_assoc old front rest ∙ sym (ap (λ l. old ++ nodes_code r owns locals at over l) (drop_here list k node e))

-- and their points
pub points_next : (r : References) (owns : Bool) (locals body at k over : ℕ) (list : List Node) (node : Node) (old new : List Point) → slice_get list k ≡ Some node
    → new ≡ old ++ node_points body k node over (length (poll ++ node_code r owns locals at node over))
    → new ++ nodes_points r owns locals body (k + 1) (at + length (poll ++ node_code r owns locals at node over)) (grown node over) (drop (k + 1) list) ≡ old ++ nodes_points r owns locals body k at over (drop k list)
points_next r owns locals body at k over list node old new e h =
    let words = length (poll ++ node_code r owns locals at node over) in
    let front = node_points body k node over words in
    let rest = nodes_points r owns locals body (k + 1) (at + words) (grown node over) (drop (k + 1) list) in
    ap (λ l. l ++ rest) h ∙ append_assoc old front rest ∙ sym (ap (λ l. old ++ nodes_points r owns locals body k at over l) (drop_here list k node e))

-- a context is wanted where a node that is left wants it
any_left : (p : Node → Bool) (list : List Node) (k : ℕ) (node : Node) → slice_get list k ≡ Some node → list_any p (drop k list) ≡ list_any p (node ∷ drop (k + 1) list)
any_left p list k node e = ap (list_any p) (drop_here list k node e)

-- the initial contents of the locals that are left
pub initial_next : (slot j next k w : ℕ) (ws : List ℕ) (old new : List Insn) → slice_get ws k ≡ Some w → j ≡ slot + k → next ≡ j + 1 → new ≡ old ++ initial_stores j (w ∷ [])
    → new ++ initial_stores next (drop (k + 1) ws) ≡ old ++ initial_stores j (drop k ws)
initial_next slot j next k w ws old new e f g h =
    let front = initial_stores j (w ∷ []) in
    let rest = initial_stores (j + 1) (drop (k + 1) ws) in
    ap (λ n. new ++ initial_stores n (drop (k + 1) ws)) g ∙ ap (λ l. l ++ rest) h ∙ append_assoc old front rest ∙ sym (ap (λ l. old ++ initial_stores j l) (drop_here ws k w e))

pub cell_next : (slot j next k w : ℕ) (ws : List ℕ) (old new : List Insn) → slice_get ws k ≡ Some w → j ≡ slot + k → next ≡ j + 1 → new ≡ old ++ cell_initials j (w ∷ [])
    → new ++ cell_initials next (drop (k + 1) ws) ≡ old ++ cell_initials j (drop k ws)
cell_next slot j next k w ws old new e f g h =
    let front = cell_initials j (w ∷ []) in
    let rest = cell_initials (j + 1) (drop (k + 1) ws) in
    ap (λ n. new ++ cell_initials n (drop (k + 1) ws)) g ∙ ap (λ l. l ++ rest) h ∙ append_assoc old front rest ∙ sym (ap (λ l. old ++ cell_initials j l) (drop_here ws k w e))

-- How many values are pending before the next node.
from_zero : (ns : List Node) (d : ℕ) → depth_from d ns 0 ≡ d
from_zero [] d = refl
from_zero (n ∷ ns) d = refl

from_next : (ns : List Node) (d k : ℕ) (node : Node) → slice_get ns k ≡ Some node → depth_from d ns (suc k) ≡ grown node (depth_from d ns k)
from_next [] d k node e = cc
from_next (n ∷ ns) d zero node e = from_zero ns (grown n d) ∙ ap (λ o. grown o d) (let f : n ≡ node = cc in f)
from_next (n ∷ ns) d (suc k) node e = from_next ns (grown n d) k node e

pub depth_next : (ns : List Node) (k : ℕ) (node : Node) → slice_get ns k ≡ Some node → depth ns (k + 1) ≡ grown node (depth ns k)
unfolding depth
depth_next ns k node e = let one : k + 1 ≡ suc k = omega arith in ap (depth_from 0 ns) one ∙ from_next ns 0 k node e

pub depth_none : (ns : List Node) → 0 ≡ depth ns 0
unfolding depth
depth_none ns = sym (from_zero ns 0)

-- the most pending values of the nodes that are left
larger_first : (a b : ℕ) → a ≤ larger a b
larger_first a b = grind (arith, common_steps)

first_below : (k : ℕ) (ns : List Node) → k ≤ deepest k ns
first_below k [] = omega arith
first_below k (n ∷ ns) = larger_first k (deepest (grown n k) ns)

larger_step : (m o g d : ℕ) → o ≤ m → g ≤ d → larger m (larger o d) ≡ larger (larger m g) d
larger_step m o g d h k = grind (arith, common_steps)

pub larger_zero : (a : ℕ) → larger 0 a ≡ a
larger_zero a = grind (arith, common_steps)

pub larger_below : (a b : ℕ) → b ≤ a → larger a b ≡ a
larger_below a b h = grind (arith, common_steps)

pub deepest_step : (list : List Node) (k m o g m2 : ℕ) (node : Node) → slice_get list k ≡ Some node → o ≤ m → g ≡ grown node o → m2 ≡ larger m g
    → deepest 0 list ≡ larger m (deepest o (drop k list)) → deepest 0 list ≡ larger m2 (deepest g (drop (k + 1) list))
deepest_step list k m o g m2 node e h eg em all =
    let here : deepest o (drop k list) ≡ larger o (deepest (grown node o) (drop (k + 1) list)) = ap (deepest o) (drop_here list k node e) in
    let step = larger_step m o (grown node o) (deepest (grown node o) (drop (k + 1) list)) h (first_below (grown node o) (drop (k + 1) list)) in
    cc

pub any_here : (p : Node → Bool) (list : List Node) (k : ℕ) (node : Node) → slice_get list k ≡ Some node → p node ≡ true → list_any p (drop k list) ≡ true
any_here p list k node e h = any_left p list k node e ∙ rw h refl

pub any_past : (p : Node → Bool) (list : List Node) (k : ℕ) (node : Node) → slice_get list k ≡ Some node → p node ≡ false → list_any p (drop k list) ≡ list_any p (drop (k + 1) list)
any_past p list k node e h = any_left p list k node e ∙ rw h refl

-- the same where what is known of the words and values of a node are equations
pub code_step : (r : References) (owns : Bool) (locals at k over w g : ℕ) (list : List Node) (node : Node) (old new all : List Insn) → slice_get list k ≡ Some node
    → new ≡ old ++ (poll ++ node_code r owns locals at node over) → w ≡ length (poll ++ node_code r owns locals at node over) → g ≡ grown node over
    → old ++ nodes_code r owns locals at over (drop k list) ≡ all → new ++ nodes_code r owns locals (at + w) g (drop (k + 1) list) ≡ all
code_step r owns locals at k over w g list node old new all e h ew eg is =
    let next = code_next r owns locals at k over list node old new e h in
    cc

pub points_step : (r : References) (owns : Bool) (locals body at k over w g : ℕ) (list : List Node) (node : Node) (old new all : List Point) → slice_get list k ≡ Some node
    → new ≡ old ++ node_points body k node over (length (poll ++ node_code r owns locals at node over)) → w ≡ length (poll ++ node_code r owns locals at node over) → g ≡ grown node over
    → old ++ nodes_points r owns locals body k at over (drop k list) ≡ all → new ++ nodes_points r owns locals body (k + 1) (at + w) g (drop (k + 1) list) ≡ all
points_step r owns locals body at k over w g list node old new all e h ew eg is =
    let next = points_next r owns locals body at k over list node old new e h in
    cc

pub unit_begins : (r : References) (b : Body) (owns : Bool) (locals : ℕ) (start items : List Insn) → start ≡ [] → items ≡ start ++ entry_code r b → owns ≡ owns_context b → locals ≡ frame_locals b
    → items ++ nodes_code r owns locals 0 0 b.nodes ≡ unit_code r b
unit_begins r b owns locals start items es ei eo el =
    let e : items ≡ entry_code r b = ei ∙ ap (λ l. l ++ entry_code r b) es in
    cc

pub points_begin : (r : References) (b : Body) (number words : ℕ) (owns : Bool) (locals : ℕ) (point : Point) (front : List Insn) (start items : List Point) → start ≡ [] → items ≡ start ++ times words point
    → point ≡ record { body = number; node = 0; pending = 0 } → words ≡ length front → front ≡ entry_code r b → owns ≡ owns_context b → locals ≡ frame_locals b
    → items ++ nodes_points r owns locals number 0 0 0 b.nodes ≡ unit_points r number b
points_begin r b number words owns locals point front start items es ei ep ew ef eo el =
    let e : items ≡ times words point = ei ∙ ap (λ l. l ++ times words point) es in
    cc

-- how many instructions there are more
pub counted : (a b x p q : List Insn) (w : ℕ) → p ≡ a → b ≡ a ++ x → q ≡ b → w ≡ length q - length p → w ≡ length x
counted a b x p q w ep eb eq ew =
    let lq : length q ≡ length a + length x = ap length eq ∙ ap length eb ∙ length-append a x in
    let lp : length p ≡ length a = ap length ep in
    omega arith

pub four_join : (old a b c d K S I E : List Insn) → a ≡ old ++ K → b ≡ a ++ S → c ≡ b ++ I → d ≡ c ++ E → d ≡ (old ++ (K ++ S)) ++ (I ++ E)
four_join old a b c d K S I E ea eb ec ed = rw (ed, ec, eb, ea) simp append_assoc

pub three_join : (old a b c F H K : List Insn) → a ≡ old ++ F → b ≡ a ++ H → c ≡ b ++ K → c ≡ old ++ (F ++ (H ++ K))
three_join old a b c F H K ea eb ec = rw (ec, eb, ea) simp append_assoc

pub kept_join : (old a b c H X Y : List Insn) (i : Insn) → a ≡ old ++ (i ∷ []) → b ≡ a ++ H → c ≡ (b ++ X) ++ Y → c ≡ old ++ ((i ∷ H ++ X) ++ Y)
kept_join old a b c H X Y i ea eb ec = rw (ec, eb, ea) simp append_assoc

pub map_get : {A : Type 0} {B : Type 0} (f : A → B) (xs : List A) (k : ℕ) (x : A) → slice_get xs k ≡ Some x → slice_get (map f xs) k ≡ Some (f x)
map_get f [] k x e = cc
map_get f (y ∷ ys) zero x e = let same : y ≡ x = cc in ap (λ z. Some (f z)) same
map_get f (y ∷ ys) (suc k) x e = map_get f ys k x e
