-- How large the frames of plain code are, and how few words enter an activation.
use Rattle.std.proofs.Common.{◌≡◌, ℕ, zero, suc, ◌+◌, ◌*◌, ◌/◌, ◌≤◌, refl, ap, arith, length-append}
use Rattle.std.proofs.lemmas.Grind.{common_steps}
use Rattle.std.proofs.lemmas.List.{length-map}
use Rattle.std.specs.Prelude.{Bool, true, false, if◌then◌else◌, List, [], ◌∷◌, ◌++◌, length}
use Rattle.self_terms.specs.declared.bodies.Body.{Body}
use Rattle.self_terms.specs.declared.bodies.Local.{Local}
use Rattle.self_terms.specs.declared.nodes.Node.{Node}
use Rattle.self_terms.specs.Depths.{grown, depth, depth_from}
use Rattle.plain_words.specs.Code.{argument_stores, initial_stores, cell_arguments, cell_initials, context_head, context_end, plus, count, store, move, no_maker, start_code, entry_kept, entered_code}
use Rattle.plain_words.specs.Translating.{CanTranslate}
use Rattle.plain_words.specs.declared.references.References.{References}
use Rattle.plain_words.specs.Units.{larger, deepest, datum_word, initial_words, entry_code, owns_context, of_block, numbered, frame_locals, frame_words}
use Rattle.plain_enters.specs.Entering.{largest_frame}

larger_most : (a b m : ℕ) → a ≤ m → b ≤ m → larger a b ≤ m
larger_most a b m h k = grind (arith, common_steps)

deepest_most : (nodes : List Node) (d m : ℕ) → ((k : ℕ) → depth_from d nodes k ≤ m) → deepest d nodes ≤ m
deepest_most [] d m h = h 0
deepest_most (n ∷ ns) d m h = larger_most d (deepest (grown n d) ns) m (h 0) (deepest_most ns (grown n d) m (λ k. h (suc k)))

deep_from : (x : Body) → CanTranslate x → (k : ℕ) → depth_from 0 x.nodes k ≤ 64
unfolding depth
deep_from x c k = c.deep k

at_most : (o : Bool) (n : ℕ) → (if o then 0 else n) ≤ n
at_most true n = omega arith
at_most false n = omega arith

half_most : (l d : ℕ) → l ≤ 69 → d ≤ 64 → 2 * ((29 + l + d) / 2) ≤ 330
half_most l d h k = omega arith

half_least : (l d : ℕ) → 28 + l + d ≤ 2 * ((29 + l + d) / 2)
half_least l d = omega arith

-- a frame has at most 330 words
pub frame_most : (x : Body) → CanTranslate x → frame_words x ≤ largest_frame
frame_most x c =
    let few = at_most (owns_context x) (length x.arguments + length x.locals) in
    let arguments = c.arguments in
    let locals = c.locals in
    half_most (frame_locals x) (deepest 0 x.nodes) (omega (arith, few, arguments, locals)) (deepest_most x.nodes 0 64 (deep_from x c))

pub initial_long : (r : References) (x : Body) → length (initial_words r x) ≡ length x.locals
initial_long r x = length-map x.locals (λ (y : Local). datum_word r y.initial)

-- the locals of a frame are all that the body has, or none
pub locals_are : (x : Body) (owns : Bool) → owns_context x ≡ owns → frame_locals x ≡ (if owns then 0 else length x.arguments + length x.locals)
locals_are x owns e = ap (λ o. if o then 0 else length x.arguments + length x.locals) e

-- a frame has room for them
pub frame_least : (x : Body) → 28 + frame_locals x ≤ frame_words x
frame_least x = omega (arith, half_least (frame_locals x) (deepest 0 x.nodes))

argument_stores_long : (register slot n : ℕ) → length (argument_stores register slot n) ≡ n
argument_stores_long register slot zero = refl
argument_stores_long register slot (suc n) = let e = argument_stores_long (register + 1) (slot + 1) n in omega arith

initial_stores_long : (slot : ℕ) (ws : List ℕ) → length (initial_stores slot ws) ≡ 3 * length ws
initial_stores_long slot [] = refl
initial_stores_long slot (w ∷ ws) = let e = initial_stores_long (slot + 1) ws in omega arith

cell_arguments_long : (register slot n : ℕ) → length (cell_arguments register slot n) ≡ n
cell_arguments_long register slot zero = refl
cell_arguments_long register slot (suc n) = let e = cell_arguments_long (register + 1) (slot + 1) n in omega arith

cell_initials_long : (slot : ℕ) (ws : List ℕ) → length (cell_initials slot ws) ≡ 3 * length ws
cell_initials_long slot [] = refl
cell_initials_long slot (w ∷ ws) = let e = cell_initials_long (slot + 1) ws in omega arith

start_few : (block : Bool) → length (start_code block) ≤ 4
start_few true = omega arith
start_few false = omega arith

no_maker_few : (block : Bool) → length (no_maker block) ≤ 1
no_maker_few true = omega arith
no_maker_few false = omega arith

kept_few : (owns block : Bool) (map n : ℕ) (initial : List ℕ) → n ≤ 5 → length initial ≤ 64 → length (entry_kept owns block map n initial) ≤ 211
kept_few false block map n initial small some =
    let one = argument_stores_long 25 0 n in
    let two = initial_stores_long n initial in
    let three = no_maker_few block in
    let four = length-append (no_maker block) (move 17 0 ∷ argument_stores 25 0 n) in
    let five = length-append (initial_stores n initial) (plus 4 1 ∷ count ∷ []) in
    let six = length-append (store 5 14 104 ∷ no_maker block ++ (move 17 0 ∷ argument_stores 25 0 n)) (initial_stores n initial ++ (plus 4 1 ∷ count ∷ [])) in
    omega arith
kept_few true block map n initial small some =
    let one = cell_arguments_long 25 0 n in
    let two = cell_initials_long n initial in
    let three = no_maker_few block in
    let head = context_head map ++ cell_arguments 25 0 n in
    let end = context_end (4 + n + length initial) in
    let four = length-append (no_maker block) head in
    let more = length-append (context_head map) (cell_arguments 25 0 n) in
    let five = length-append (cell_initials n initial) end in
    let six = length-append (store 5 14 104 ∷ no_maker block ++ head) (cell_initials n initial ++ end) in
    omega arith

code_few : (owns block : Bool) (bytes map n : ℕ) (initial : List ℕ) → n ≤ 5 → length initial ≤ 64 → length (entered_code owns block bytes map n initial) ≤ 216
code_few owns block bytes map n initial small some =
    let one = start_few block in
    let two = kept_few owns block map n initial small some in
    let three = length-append (start_code block) (entry_kept owns block map n initial) in
    omega arith

-- so few words stand before the first node
pub entry_few : (r : References) (x : Body) → CanTranslate x → length (entry_code r x) ≤ 216
entry_few r x c =
    let three = initial_long r x in
    let locals = c.locals in
    code_few (owns_context x) (of_block x) (4 * frame_words x) (numbered r.contexts) (length x.arguments) (initial_words r x) c.arguments (omega (arith, three, locals))
