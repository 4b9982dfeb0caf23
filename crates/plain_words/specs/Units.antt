-- The unit of a body: the words of its entry, and then those of its nodes in their order; and what each of its words says of the frame.
use Rattle.std.specs.Prelude.{ℕ, zero, suc, ◌+◌, ◌-◌, ◌*◌, ◌/◌, ◌%◌, ◌^◌, nat_le, Bool, not, is_some, if◌then◌else◌, List, [], ◌∷◌, ◌++◌, length, map}
use Rattle.std.specs.List.{list_any}
use Rattle.self_terms.specs.declared.nodes.Node.{Node}
use Rattle.self_terms.specs.declared.nodes.Node.TheVariants as nodes
use Rattle.self_terms.specs.declared.bodies.Body.{Body}
use Rattle.self_terms.specs.declared.values.Datum.{Datum}
use Rattle.self_terms.specs.declared.values.Datum.TheVariants as datum
use Rattle.self_terms.specs.Words.{word_of}
use Rattle.self_terms.specs.Depths.{taken, grown, one_if}
use Rattle.sparc_insn.specs.declared.insn.Insn.{Insn}
use Rattle.sparc_insn.specs.declared.insn.Insn.TheVariants.{Branch}
use Rattle.std.specs.Prelude.{negsuc, false, true, slice_index}
use Rattle.plain_words.specs.declared.references.References.{References}
use Rattle.plain_words.specs.declared.units.Point.{Point}
use Rattle.frame_walk.specs.Places.{Descriptor, plain_descriptor}
use Rattle.plain_words.specs.Code.{poll, count, constant_code, self_code, read_code, store_code, drop_code, send_code, implied_code, answered_code, primitive_code, return_code, non_local_code, block_code, entered_code}

-- the reference to an object, by its number; 0 where there is none
abbrev pub object_word : References → ℕ → ℕ
object_word r o = slice_index r.objects o

-- the word of what a text says
abbrev pub datum_word : References → Datum → ℕ
datum_word r (datum.Integer i) = word_of i
datum_word r (datum.Object o) = object_word r o
datum_word r datum.Nil = r.nil

-- the word of a number, which is tagged, and that of the map of the blocks of a body
abbrev pub numbered : ℕ → ℕ
numbered n = 4 * n % 2 ^ 32

abbrev pub block_map : References → ℕ → ℕ
block_map r b = numbered (slice_index r.blocks (b - 1))

-- a body whose activations have contexts: it has a block literal of its own
abbrev pub is_block_literal : Node → Bool
is_block_literal (nodes.BlockLit b) = true
is_block_literal _ = false

abbrev pub owns_context : Body → Bool
owns_context b = list_any is_block_literal b.nodes

-- a block's body, which stands in another
abbrev pub of_block : Body → Bool
of_block b = is_some b.outer

-- how many locals its frames keep, its arguments among them
abbrev pub frame_locals : Body → ℕ
frame_locals b = if owns_context b then 0 else length b.arguments + length b.locals

abbrev pub initial_words : References → Body → List ℕ
initial_words r b = map (λ x. datum_word r x.initial) b.locals

-- the most pending values that these nodes have, which begin over k of them
abbrev pub larger : ℕ → ℕ → ℕ
larger a b = if nat_le a b then b else a

abbrev pub deepest : ℕ → List Node → ℕ
deepest k [] = k
deepest k (n ∷ ns) = larger k (deepest (grown n k) ns)

-- The words of a frame: 26 up to the holder, which is one, locals, pending values, and the one that is kept for a replaced return address;
-- their number is even.
abbrev pub frame_words : Body → ℕ
frame_words b = 2 * ((29 + frame_locals b + deepest 0 b.nodes) / 2)

-- back to the first node, so many words before the branch; the step is counted in the delay place
abbrev pub restart_code : ℕ → List Insn
restart_code back = Branch false 8 (negsuc (back - 1)) ∷ count ∷ []

-- The words of a node behind its poll, which stands so many words behind that of the first node, over k pending values.
abbrev pub node_code : References → Bool → ℕ → ℕ → Node → ℕ → List Insn
node_code r owns locals at (nodes.Int i) k = constant_code locals k (word_of i)
node_code r owns locals at (nodes.Str o) k = constant_code locals k (object_word r o)
node_code r owns locals at nodes.SelfRef k = self_code locals k
node_code r owns locals at nodes.Nil k = constant_code locals k r.nil
node_code r owns locals at (nodes.Read up slot) k = read_code owns locals k up slot
node_code r owns locals at (nodes.Store up slot) k = store_code owns locals (k - 1) up slot
node_code r owns locals at (nodes.Send sel) k = send_code 1 locals (k - (sel.args + 1)) sel.args ++ answered_code locals (k - (sel.args + 1))
node_code r owns locals at (nodes.SelfSend sel) k = implied_code 1 locals (k - sel.args) sel.args ++ answered_code locals (k - sel.args)
node_code r owns locals at (nodes.Resend sel) k = implied_code 1 locals (k - sel.args) sel.args ++ answered_code locals (k - sel.args)
node_code r owns locals at (nodes.Directed parent sel) k = implied_code 1 locals (k - sel.args) sel.args ++ answered_code locals (k - sel.args)
node_code r owns locals at nodes.Drop k = drop_code
node_code r owns locals at nodes.Restart k = restart_code (at + length poll)
node_code r owns locals at nodes.Return k = return_code owns locals (k - 1)
node_code r owns locals at nodes.NonLocal k = non_local_code locals (k - 1)
node_code r owns locals at nodes.End k = return_code owns locals (k - 1)
node_code r owns locals at (nodes.BlockLit b) k = block_code locals k (block_map r b.0) (numbered b.0)
node_code r owns locals at (nodes.Prim name args implied handler) k =
    let first = k - (args + one_if (not implied) + one_if handler) in
    primitive_code name.0 args implied locals first (args + one_if handler) ++ answered_code locals first

-- those of the nodes, the first of which stands so many words behind the first of all, over k pending values
abbrev pub nodes_code : References → Bool → ℕ → ℕ → ℕ → List Node → List Insn
nodes_code r owns locals at k [] = []
nodes_code r owns locals at k (n ∷ ns) =
    (poll ++ node_code r owns locals at n k) ++ nodes_code r owns locals (at + length (poll ++ node_code r owns locals at n k)) (grown n k) ns

abbrev pub entry_code : References → Body → List Insn
entry_code r b = entered_code (owns_context b) (of_block b) (4 * frame_words b) (numbered r.contexts) (length b.arguments) (initial_words r b)

-- how many words it has beside those of arguments and locals, by whether a context is made
abbrev pub entry_size : Bool → ℕ
entry_size false = 9
entry_size true = 17

abbrev pub unit_code : References → Body → List Insn
unit_code r b = entry_code r b ++ nodes_code r (owns_context b) (frame_locals b) 0 0 b.nodes

-- what a word of a unit says of the frame of an activation that goes on there
abbrev pub point_descriptor : ℕ → Point → Descriptor
point_descriptor locals p = plain_descriptor p.body p.node locals p.pending

abbrev pub times : ℕ → Point → List Point
times zero p = []
times (suc n) p = p ∷ times n p

-- a node that waits for an answer: its last word comes behind the call
abbrev pub is_call : Node → Bool
is_call (nodes.Send sel) = true
is_call (nodes.SelfSend sel) = true
is_call (nodes.Resend sel) = true
is_call (nodes.Directed parent sel) = true
is_call (nodes.Prim name args implied handler) = true
is_call _ = false

-- the points of so many words of a node over k pending values: behind its call it has taken its values
abbrev pub node_points : ℕ → ℕ → Node → ℕ → ℕ → List Point
node_points body n node k words =
    if is_call node
    then times (words - 1) (record { body = body; node = n; pending = k }) ++ (record { body = body; node = n; pending = k - taken node } ∷ [])
    else times words (record { body = body; node = n; pending = k })

abbrev pub nodes_points : References → Bool → ℕ → ℕ → ℕ → ℕ → ℕ → List Node → List Point
nodes_points r owns locals body n at k [] = []
nodes_points r owns locals body n at k (x ∷ xs) =
    let words = length (poll ++ node_code r owns locals at x k) in
    node_points body n x k words ++ nodes_points r owns locals body (n + 1) (at + words) (grown x k) xs

abbrev pub unit_points : References → ℕ → Body → List Point
unit_points r number b =
    times (length (entry_code r b)) (record { body = number; node = 0; pending = 0 })
    ++ nodes_points r (owns_context b) (frame_locals b) number 0 0 0 b.nodes
