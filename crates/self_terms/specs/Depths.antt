-- How many values the nodes of a body take and leave, and how many are pending before each.
use Rattle.std.specs.Prelude.{ℕ, zero, suc, ◌+◌, ◌-◌, Bool, true, false, not, List, [], ◌∷◌}
use Rattle.self_terms.specs.declared.nodes.Node.{Node}
use Rattle.self_terms.specs.declared.nodes.Node.TheVariants as nodes

abbrev pub one_if : Bool → ℕ
one_if true = 1
one_if false = 0

-- how many pending values a node takes
abbrev pub taken : Node → ℕ
taken (nodes.Store up slot) = 1
taken (nodes.Send sel) = sel.args + 1
taken (nodes.SelfSend sel) = sel.args
taken (nodes.Resend sel) = sel.args
taken (nodes.Directed parent sel) = sel.args
taken (nodes.Prim name args implied handler) = args + one_if (not implied) + one_if handler
taken nodes.Drop = 1
taken nodes.Return = 1
taken nodes.NonLocal = 1
taken nodes.End = 1
taken _ = 0

-- how many it leaves in their place
abbrev pub left_by : Node → ℕ
left_by nodes.Drop = 0
left_by nodes.Return = 0
left_by nodes.NonLocal = 0
left_by nodes.End = 0
left_by _ = 1

-- how many values are pending after a node over k of them
abbrev pub grown : Node → ℕ → ℕ
grown node k = k - taken node + left_by node

-- how many values are pending before a node of a list that begins over d of them, the nodes being done in their order
abbrev pub depth_from : ℕ → List Node → ℕ → ℕ
depth_from d [] k = d
depth_from d (n ∷ ns) zero = d
depth_from d (n ∷ ns) (suc k) = depth_from (grown n d) ns k

unfoldable pub depth : List Node → ℕ → ℕ
depth list k = depth_from 0 list k

-- a node behind which its body goes on
abbrev pub is_inner : Node → Bool
is_inner nodes.End = false
is_inner nodes.Return = false
is_inner nodes.NonLocal = false
is_inner _ = true
