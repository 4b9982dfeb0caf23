-- What is counted along a text, and what is broken at a sign of it.
use Rattle.std.specs.Prelude.{ℕ, ◌+◌, ◌-◌, nat_le, Bool, true, false, not, ◌&&◌, if◌then◌else◌, Option, None, Some, List, [], ◌∷◌, ◌++◌, length, map}
use Rattle.self_grammar.specs.declared.signs.Spot.{Spot}
use Rattle.self_grammar.specs.declared.signs.Symbol.{Symbol}
use Rattle.self_grammar.specs.declared.signs.Sign.{Sign}
use Rattle.self_grammar.specs.declared.signs.ReadKind.{ReadKind}
use Rattle.self_grammar.specs.declared.signs.ReadKind.TheVariants as kind
use Rattle.self_grammar.specs.declared.signs.ReadRefusal.{ReadRefusal}
use Rattle.self_grammar.specs.declared.pieces.Breach as declared_breach
use Rattle.self_grammar.specs.declared.pieces.Held as declared_held
use Rattle.self_grammar.specs.declared.pieces.Limits as declared_limits
use Rattle.self_grammar.specs.declared.pieces.Made.{Made}
use Rattle.self_grammar.specs.declared.pieces.TextNode.{TextNode}
use Rattle.self_grammar.specs.declared.pieces.TextNode.TheVariants as nodes
use Rattle.self_grammar.specs.declared.pieces.Target.{Target}
use Rattle.self_grammar.specs.declared.pieces.Target.TheVariants as target
use Rattle.self_grammar.specs.declared.pieces.Item.{Item}
use Rattle.self_grammar.specs.declared.pieces.Item.TheVariants as items

-- the limits of a text
abbrev pub Limits : Type 0
Limits = declared_limits.Limits

abbrev pub node : Spot → TextNode → Made
node p n = record { node = n; spot = p }

-- whether a message has a receiver before it
abbrev pub stated : Target → ℕ
stated target.Given = 1
stated target.Implied = 0
stated target.Parents = 0
stated (target.Parent p) = 0

abbrev pub one_if : Bool → ℕ
one_if true = 1
one_if false = 0

-- how many pending values a node takes: a message its arguments and a stated receiver, a primitive its handler too
abbrev pub takes : TextNode → ℕ
takes (nodes.Integer z) = 0
takes (nodes.Text i j) = 0
takes nodes.Block = 0
takes nodes.Itself = 0
takes nodes.Nil = 0
takes (nodes.Message to words args) = args + stated to
takes (nodes.Primitive words args implied handler) = args + one_if (not implied) + one_if handler
takes nodes.Drop = 1
takes nodes.Restart = 0
takes nodes.Return = 1
takes nodes.End = 1

-- how many it pends
abbrev pub gives : TextNode → ℕ
gives (nodes.Integer z) = 1
gives (nodes.Text i j) = 1
gives nodes.Block = 1
gives nodes.Itself = 1
gives nodes.Nil = 1
gives (nodes.Message to words args) = 1
gives (nodes.Primitive words args implied handler) = 1
gives nodes.Drop = 0
gives nodes.Restart = 1
gives nodes.Return = 0
gives nodes.End = 0

-- A rule that is broken: its kind, and its place where that isn't the sign at which it is known.
abbrev pub Breach : Type 0
Breach = declared_breach.Breach

abbrev pub here : ReadKind → Breach
here k = record { kind = k; place = None }

abbrev pub there : ReadKind → Spot → Breach
there k p = record { kind = k; place = Some p }

abbrev pub when : Bool → Breach → List Breach
when true b = b ∷ []
when false b = []

-- the pending values and the nodes of a body, while another one is read inside it
abbrev pub Held : Type 0
Held = declared_held.Held

-- What is counted before a sign: the open parentheses, brackets and keyword messages of the whole text; the pending values
-- and the nodes of this body, and those of the bodies around it; the slots, objects and nodes of the whole text. Then what
-- the sign still has to settle: the nodes that are made at the first sign after them, the rules that are known there, and
-- the slots that end before it.
pub record Context : Type 0 where
  pub nesting : ℕ
  pub pending : ℕ
  pub nodes : ℕ
  pub around : List Held
  pub size : ℕ
  pub due : List Made
  pub late : List Breach
  pub ready : List Item

-- What a sign does: the nodes that it makes, the items that it says, the slots and objects that it counts, whether it opens
-- or closes something, whether a body ends with it, the rules that are broken there, and the place at fault where no bar
-- comes next.
pub record Event : Type 0 where
  pub made : List Made
  pub says : List Item
  pub counted : List Spot
  pub opens : Bool
  pub closes : Bool
  pub leaves : Bool
  pub broken : List Breach
  pub next : Option Spot

abbrev pub quiet : Event
quiet = record { made = []; says = []; counted = []; opens = false; closes = false; leaves = false; broken = []; next = None }

abbrev pub opening : Event
opening = record quiet { opens = true }

-- what closes a parenthesis
abbrev pub closing : Event
closing = record quiet { closes = true }

abbrev pub makes : Spot → TextNode → Event
makes p n = record quiet { made = node p n ∷ [] }

abbrev pub saying : Item → Event
saying i = record quiet { says = i ∷ [] }

-- A sign of a text, the items that are known with it, what is wrong there first, and what must come next.
pub record Mark : Type 0 where
  pub sign : Sign
  pub items : List Item
  pub fault : Option ReadRefusal
  pub next : Option Spot

-- the order in which kinds count at one sign
abbrev pub rank : ReadKind → ℕ
rank kind.BadToken = 0
rank kind.BadEscape = 1
rank kind.IntTooWide = 2
rank kind.BadSyntax = 3
rank kind.TooDeep = 4
rank kind.TooManyArgs = 5
rank kind.TooManyLocals = 6
rank kind.DuplicateSlot = 7
rank kind.TooManyNodes = 8

abbrev pub sooner : ReadRefusal → Option ReadRefusal → Option ReadRefusal
sooner r None = Some r
sooner r (Some q) = if nat_le (rank r.kind) (rank q.kind) then Some r else Some q

-- the first by kinds, and among those of one kind the first of the list
abbrev pub first_of : List ReadRefusal → Option ReadRefusal
first_of [] = None
first_of (r ∷ rs) = sooner r (first_of rs)

abbrev pub place_or : Spot → Option Spot → Spot
place_or p None = p
place_or p (Some q) = q

abbrev pub placed : Spot → Breach → ReadRefusal
placed p b = record { kind = b.kind; spot = place_or p b.place }

-- the node that makes more pending values than the limit
abbrev pub too_pending : ℕ → ℕ → List Made → List Breach
too_pending limit pending [] = []
too_pending limit pending (m ∷ ms) =
    if nat_le (pending - takes m.node + gives m.node) limit then too_pending limit (pending - takes m.node + gives m.node) ms else there kind.TooDeep m.spot ∷ []

-- the node that passes the limit of its body, or that of the text
abbrev pub too_many_nodes : Limits → ℕ → ℕ → List Made → List Breach
too_many_nodes l nodes size [] = []
too_many_nodes l nodes size (m ∷ ms) =
    if nat_le (nodes + 1) l.body && nat_le (size + 1) l.size then too_many_nodes l (nodes + 1) (size + 1) ms else there kind.TooManyNodes m.spot ∷ []

-- the slot or the object that passes the limit of the text
abbrev pub too_large : Limits → ℕ → List Spot → List Breach
too_large l size [] = []
too_large l size (p ∷ ps) = if nat_le (size + 1) l.size then too_large l (size + 1) ps else there kind.TooManyNodes p ∷ []

abbrev pub pending_after : ℕ → List Made → ℕ
pending_after pending [] = pending
pending_after pending (m ∷ ms) = pending_after (pending - takes m.node + gives m.node) ms

-- all that is broken at a sign
abbrev pub breaches : Limits → Context → Event → List Breach
breaches l c e =
    c.late ++ e.broken ++ when (e.opens && not (nat_le (c.nesting + 1) l.nesting)) (here kind.TooDeep)
    ++ too_pending l.pending c.pending (c.due ++ e.made) ++ too_many_nodes l c.nodes c.size (c.due ++ e.made)
    ++ too_large l (c.size + length (c.due ++ e.made)) e.counted

-- the items of a sign: the slots that end before it, the nodes that are made, and what it says itself
abbrev pub items_at : Context → Event → List Item
items_at c e = c.ready ++ map items.Node (c.due ++ e.made) ++ e.says

abbrev pub mark_at : Limits → Context → Symbol → Spot → Event → Mark
mark_at l c x p e = record {
  sign = record { symbol = x; spot = p };
  items = items_at c e;
  fault = first_of (map (placed p) (breaches l c e));
  next = e.next;
}

abbrev pub nesting_after : ℕ → Bool → Bool → ℕ
nesting_after n true closes = n + 1
nesting_after n false true = n - 1
nesting_after n false false = n

-- the counts of the body around, behind the end of one
abbrev pub resumed : List Held → Context → Context
resumed [] c = c
resumed (h ∷ hs) c = record c { pending = h.pending; nodes = h.nodes; around = hs }

-- the counts behind a sign
abbrev pub counted : Context → Event → Context
counted c e = record {
  nesting = nesting_after c.nesting e.opens e.closes;
  pending = pending_after c.pending (c.due ++ e.made);
  nodes = c.nodes + length (c.due ++ e.made);
  around = c.around;
  size = c.size + length (c.due ++ e.made) + length e.counted;
  due = [];
  late = [];
  ready = [];
}

abbrev pub moved : Context → Event → Context
moved c e = if e.leaves then resumed c.around (counted c e) else counted c e

-- The marks of what follows, by what was counted before it.
abbrev pub Writer : Type 0
Writer = Context → List Mark

-- a sign, and then what follows
abbrev pub write : Limits → Symbol → Spot → Event → Writer → Writer
write l x p e k c = mark_at l c x p e ∷ k (moved c e)

-- a node that the first sign after makes
abbrev pub owing : Made → Writer → Writer
owing m k c = k (record c { due = c.due ++ m ∷ [] })

-- rules that are known at the first sign after
abbrev pub telling : List Breach → Writer → Writer
telling bs k c = k (record c { late = c.late ++ bs })

-- slots that end before the first sign after
abbrev pub placing : List Item → Writer → Writer
placing is k c = k (record c { ready = c.ready ++ is })

-- A body begins.
abbrev pub entering : Writer → Writer
entering k c = k (record c { pending = 0; nodes = 0; around = record { pending = c.pending; nodes = c.nodes } ∷ c.around })

-- A keyword message ends, with no sign of its own.
abbrev pub finishing : Writer → Writer
finishing k c = k (record c { nesting = c.nesting - 1 })
