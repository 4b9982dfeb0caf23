-- The nodes of a body: a name without a receiver is a local of its body or of one around it, where there is one.
use Rattle.std.specs.Prelude.{ℕ, zero, suc, ◌+◌, Bool, true, false, nat_le, if◌then◌else◌, Option, None, Some, Result, Ok, Err, List, [], ◌∷◌, length}
use Rattle.self_terms.specs.declared.nodes.Node.{Node}
use Rattle.self_terms.specs.declared.nodes.Node.TheVariants as nodes
use Rattle.self_terms.specs.declared.nodes.Place.{Place}
use Rattle.self_terms.specs.declared.nodes.Selector.{Selector}
use Rattle.self_terms.specs.declared.values.Datum.TheVariants.{Integer as integer, Object as object}
use Rattle.self_terms.specs.declared.bodies.Body.{Body}
use Rattle.self_terms.specs.Bodies.{changed, add_node, Entry, entries_of, sought, number_of, is_block, body_at}
use Rattle.self_grammar.specs.declared.pieces.Words.{Words}
use Rattle.self_grammar.specs.declared.pieces.Words.TheVariants.{One}
use Rattle.self_grammar.specs.declared.pieces.Made.{Made}
use Rattle.self_grammar.specs.declared.pieces.Target.{Target}
use Rattle.self_grammar.specs.declared.pieces.Target.TheVariants as target
use Rattle.self_grammar.specs.declared.pieces.TextNode.{TextNode}
use Rattle.self_grammar.specs.declared.pieces.TextNode.TheVariants as text
use Rattle.self_grammar.specs.declared.pieces.Item.{Item}
use Rattle.self_grammar.specs.declared.pieces.Item.TheVariants as items
use Rattle.world_build.specs.declared.values.Open.{Open}
use Rattle.world_build.specs.declared.values.Open.TheVariants.{InObject as in_object, InBody as in_body}
use Rattle.world_build.specs.declared.refusals.BuildRefusal.{BuildRefusal}
use Rattle.world_build.specs.declared.loading.Loading.{Loading}
use Rattle.world_build.specs.Names.{with_words, word_number}
use Rattle.world_build.specs.Loading.{place, root, further, followed, holding, is_object, innermost, body_in, opened, with_closed, with_string, slot_ended, with_argument, with_waiting}

abbrev pub or_outer : Option ℕ → ℕ → Option (ℕ × ℕ) → Option (ℕ × ℕ)
or_outer None up other = other
or_outer (Some i) up other = Some (up, i)

-- The first local that passes, in the open bodies from the innermost outwards up to the first object: how many bodies out,
-- and its number there.
abbrev pub found : (Entry → Bool) → ℕ → List Body → List Open → Option (ℕ × ℕ)
found p up bodies [] = None
found p up bodies (in_object o ∷ outer) = None
found p up bodies (in_body b ∷ outer) = or_outer (number_of p 0 (entries_of bodies b)) up (found p (up + 1) bodies outer)

-- no accepted text has more than 255 bodies around one, or locals in one
abbrev pub byte : ℕ → ℕ
byte n = if nat_le n 255 then n else 255

abbrev pub selector : ℕ → ℕ → Selector
selector n args = record { name = record { 0 = n }; args = byte args }

abbrev pub reading : Option (ℕ × ℕ) → ℕ → Node
reading None n = nodes.SelfSend (selector n 0)
reading (Some q) n = nodes.Read (byte q.0) (byte q.1)

abbrev pub storing : Option (ℕ × ℕ) → ℕ → Node
storing None n = nodes.SelfSend (selector n 1)
storing (Some q) n = nodes.Store (byte q.0) (byte q.1)

-- A message with nothing before it: of one part and no argument it reads a local, with one it assigns one.
abbrev pub implied : Loading → Words → ℕ → ℕ → Node
implied s (One w) n zero = reading (found (sought false n) 0 s.bodies s.around) n
implied s (One w) n (suc zero) = storing (found (sought true n) 0 s.bodies s.around) n
implied s words n args = nodes.SelfSend (selector n args)

abbrev pub message : Loading → Target → Words → ℕ → ℕ → Node
message s target.Given words n args = nodes.Send (selector n args)
message s target.Implied words n args = implied s words n args
message s target.Parents words n args = nodes.Resend (selector n args)
message s (target.Parent p) words n args = nodes.Directed (record { 0 = p }) (selector n args)

-- `^` returns from a method, and from a block's home method
abbrev pub returning : Loading → Node
returning s = if is_block (body_at s.bodies (body_in (innermost s.around))) then nodes.NonLocal else nodes.Return

-- the node that a text's node stands for; a block literal's body is the next one, a string's object too
abbrev pub node_of : Loading → TextNode → Node
node_of s (text.Integer z) = nodes.Int z
node_of s (text.Text i j) = nodes.Str (length s.things)
node_of s text.Block = nodes.BlockLit (record { 0 = length s.bodies + 1 })
node_of s text.Itself = nodes.SelfRef
node_of s text.Nil = nodes.Nil
node_of s (text.Message to words args) = message s to words (word_number s.names words) args
node_of s (text.Primitive words args receiver handler) = nodes.Prim (record { 0 = word_number s.names words }) (byte args) receiver handler
node_of s text.Drop = nodes.Drop
node_of s text.Restart = nodes.Restart
node_of s text.Return = returning s
node_of s text.End = nodes.End

-- what a node adds beside itself: a name of several parts, a string
abbrev pub beside : List ℕ → TextNode → Loading → Loading
beside bytes (text.Text i j) s = with_string bytes i j s
beside bytes (text.Message to words args) s = record s { names = with_words s.names words }
beside bytes (text.Primitive words args receiver handler) s = record s { names = with_words s.names words }
beside bytes _ s = s

abbrev pub at_innermost : Option Open → Node → Place → Loading → Loading
at_innermost None n p s = s
at_innermost (Some (in_object o)) n p s = s
at_innermost (Some (in_body b)) n p s = record s { bodies = changed (add_node n p) s.bodies b }

abbrev pub with_node : List ℕ → Made → Loading → Loading
with_node bytes m s = record (at_innermost (innermost s.around) (node_of s m.node) (place m.spot) (beside bytes m.node s)) { size = s.size + 1 }

-- One item, before these items of a text of these bytes.
abbrev pub take_item : List ℕ → Item → List Item → Loading → Result Loading BuildRefusal
take_item bytes (items.Node m) rest s = Ok (with_node bytes m s)
take_item bytes (items.Opened p) rest s = Ok (opened (is_object 0 rest) s)
take_item bytes items.ClosedObject rest s = Ok (with_closed s)
take_item bytes items.ClosedBody rest s = Ok (with_closed s)
take_item bytes (items.Integer z) rest s = Ok (holding s (integer z))
take_item bytes (items.Text i j) rest s = Ok (holding (with_string bytes i j s) (object (length s.things)))
take_item bytes (items.Root n p) rest s = followed s p (root s n)
take_item bytes (items.Further n p) rest s = followed s p (further s s.held n)
take_item bytes (items.Argument n) rest s = Ok (with_argument n s)
take_item bytes (items.Named n) rest s = Ok (with_waiting n s)
take_item bytes (items.Slot w f p) rest s = slot_ended w f p s

abbrev pub bound : Result Loading BuildRefusal → (Loading → Result Loading BuildRefusal) → Result Loading BuildRefusal
bound (Ok s) f = f s
bound (Err r) f = Err r

-- All items.
unfoldable pub loaded : List ℕ → List Item → Loading → Result Loading BuildRefusal
loaded bytes [] s = Ok s
loaded bytes (i ∷ is) s = bound (take_item bytes i is s) (λ t. loaded bytes is t)
