-- What the nodes of a text's bodies pend, in the order in which the text says its items: each body has the values that its
-- nodes take, stays within its limits, and ends with one node behind which no other stands.
use Rattle.std.specs.Prelude.{ℕ, ℤ, ◌+◌, ◌-◌, nat_eq, nat_le, Bool, true, false, not, ◌&&◌, Option, None, Some, List, [], ◌∷◌}
use Rattle.self_grammar.specs.declared.signs.Symbol.{Symbol}
use Rattle.self_grammar.specs.declared.signs.Symbol.TheVariants as sign
use Rattle.self_grammar.specs.declared.signs.Sign.{Sign}
use Rattle.self_grammar.specs.declared.pieces.TextNode.{TextNode}
use Rattle.self_grammar.specs.declared.pieces.TextNode.TheVariants as nodes
use Rattle.self_grammar.specs.declared.pieces.Item.{Item}
use Rattle.self_grammar.specs.declared.pieces.Item.TheVariants as items
use Rattle.self_grammar.specs.Counts.{Limits, takes, gives}

-- an open object or body: the pending values and the nodes so far, and whether its last node was one that ends a body
pub record Entry : Type 0 where
  pub pending : ℕ
  pub nodes : ℕ
  pub ended : Bool

-- where something opens
abbrev pub fresh : Entry
fresh = record { pending = 0; nodes = 0; ended = false }

-- a node that ends its body
abbrev pub ends : TextNode → Bool
ends nodes.Return = true
ends nodes.End = true
ends _ = false

-- The body isn't ended, its pending values are enough for the node, and it keeps the limits.
abbrev pub admits : Limits → Entry → TextNode → Bool
admits l e n = not e.ended && nat_le (takes n) e.pending && nat_le (e.pending - takes n + gives n) l.pending && nat_le (e.nodes + 1) l.body

abbrev pub behind : Entry → TextNode → Entry
behind e n = record { pending = e.pending - takes n + gives n; nodes = e.nodes + 1; ended = ends n }

abbrev pub only_if : Bool → List Entry → Option (List Entry)
only_if true es = Some es
only_if false es = None

-- What is open behind an item, the innermost first, without the lobby; none where the item breaks a rule.
abbrev pub walked_item : Limits → Item → List Entry → Option (List Entry)
walked_item l (items.Node m) [] = None
walked_item l (items.Node m) (e ∷ es) = only_if (admits l e m.node) (behind e m.node ∷ es)
walked_item l (items.Opened p) es = Some (fresh ∷ es)
walked_item l items.ClosedObject [] = None
walked_item l items.ClosedObject (e ∷ es) = only_if (nat_eq e.nodes 0) es
walked_item l items.ClosedBody [] = None
walked_item l items.ClosedBody (e ∷ es) = only_if e.ended es
walked_item l (items.Integer z) es = Some es
walked_item l (items.Text i j) es = Some es
walked_item l (items.Root n p) es = Some es
walked_item l (items.Further n p) es = Some es
walked_item l (items.Argument n) es = Some es
walked_item l (items.Named n) es = Some es
walked_item l (items.Slot w f p) es = Some es

abbrev pub bound : Option (List Entry) → (List Entry → Option (List Entry)) → Option (List Entry)
bound None f = None
bound (Some es) f = f es

-- What is open behind some items.
abbrev pub walked : Limits → List Entry → List Item → Option (List Entry)
walked l es [] = Some es
walked l es (i ∷ is) = bound (walked_item l i es) (λ ds. walked l ds is)

-- P holds of the integer of a sign,
abbrev pub OfSymbol : (ℤ → Type 0) → Symbol → Type 0
OfSymbol P (sign.Integer z) = P z
OfSymbol P _ = Unit {0}

-- of those of all signs,
abbrev pub OfSigns : (ℤ → Type 0) → List Sign → Type 0
OfSigns P [] = Unit {0}
OfSigns P (s ∷ given) = OfSymbol P s.symbol × OfSigns P given

-- of the integer that a node pends,
abbrev pub OfNode : (ℤ → Type 0) → TextNode → Type 0
OfNode P (nodes.Integer z) = P z
OfNode P _ = Unit {0}

-- and of those of all nodes.
abbrev pub OfItem : (ℤ → Type 0) → Item → Type 0
OfItem P (items.Node m) = OfNode P m.node
OfItem P _ = Unit {0}

abbrev pub OfItems : (ℤ → Type 0) → List Item → Type 0
OfItems P [] = Unit {0}
OfItems P (i ∷ is) = OfItem P i × OfItems P is
