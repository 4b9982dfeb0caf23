-- Worked rows: what small lists of items build, by computing. Numbers of names, objects and bodies were counted by hand.
use Rattle.std.specs.Prelude.{◌≡◌, ℕ, pos, Option, None, Some, Result, Ok, Err, List, [], ◌∷◌, ◌++◌, slice_get, codes, refl}
use Rattle.self_terms.specs.declared.nodes.Node.{Node}
use Rattle.self_terms.specs.declared.nodes.Node.TheVariants as nodes
use Rattle.self_terms.specs.declared.nodes.Place.{Place}
use Rattle.self_terms.specs.declared.values.Value.TheVariants as values
use Rattle.self_terms.specs.declared.bodies.Body.{Body}
use Rattle.self_grammar.specs.declared.signs.Spot.{Spot}
use Rattle.self_grammar.specs.declared.pieces.Words.TheVariants.{One, Two}
use Rattle.self_grammar.specs.declared.pieces.Target.TheVariants as target
use Rattle.self_grammar.specs.declared.pieces.TextNode.{TextNode}
use Rattle.self_grammar.specs.declared.pieces.TextNode.TheVariants as text
use Rattle.self_grammar.specs.declared.pieces.SlotForm.TheVariants as form
use Rattle.self_grammar.specs.declared.pieces.Item.{Item}
use Rattle.self_grammar.specs.declared.pieces.Item.TheVariants as items
use Rattle.source_model.specs.declared.objects.Slot.{Slot}
use Rattle.source_model.specs.declared.objects.Thing.{Thing}
use Rattle.source_model.specs.declared.objects.Content.TheVariants.{Constant, Assignable, Assignment}
use Rattle.source_model.specs.declared.objects.Thing.TheVariants.{Plain, Text}
use Rattle.source_model.specs.declared.objects.Core.{Core}
use Rattle.world_build.specs.declared.cores.CoreName.TheVariants as core
use Rattle.world_build.specs.declared.refusals.BuildRefusal.{BuildRefusal}
use Rattle.world_build.specs.declared.refusals.BuildRefusal.TheVariants.{NoSuchPath, ParentNotObject, MissingCore}
use Rattle.world_build.specs.Nodes.{loaded}
use Rattle.world_build.specs.Worlds.{World, built}

at : ℕ → Spot
at c = record { line = 1; column = c }

there : ℕ → Place
there c = record { edit = 0; line = 1; column = c }

-- the core names have the numbers 1 to 7, these 8 to 13
names : List (List ℕ)
names = codes "nil" ∷ codes "true" ∷ codes "false" ∷ codes "integerTraits" ∷ codes "stringTraits" ∷ codes "vectorTraits" ∷ codes "blockTraits"
    ∷ codes "x" ∷ codes "x:" ∷ codes "m" ∷ codes "value" ∷ codes "at:" ∷ codes "Put:" ∷ []

-- n = ()
object_slot : ℕ → List Item
object_slot n = items.Opened (at 1) ∷ items.ClosedObject ∷ items.Slot (One n) form.Constant (at 1) ∷ []

-- each core name with an object of its own, from 1 to 7
core_slots : List Item
core_slots = object_slot 1 ++ object_slot 2 ++ object_slot 3 ++ object_slot 4 ++ object_slot 5 ++ object_slot 6 ++ object_slot 7

node : TextNode → Item
node n = items.Node (record { node = n; spot = at 1 })

nodes_of : Option Body → List Node
nodes_of None = []
nodes_of (Some b) = b.nodes

-- the nodes of a body by its place in the list of bodies
nodes_in : Result World BuildRefusal → ℕ → List Node
nodes_in (Err r) n = []
nodes_in (Ok w) n = nodes_of (slice_get w.bodies n)

things_in : Result World BuildRefusal → List Thing
things_in (Err r) = []
things_in (Ok w) = w.things

world_of : List Item → Result World BuildRefusal
world_of is = built names [] (core_slots ++ is)

-- no text
nothing : built [] [] [] ≡ Err (MissingCore core.Nil)
unfolding loaded
nothing = refl

-- x = m
no_path : built names [] (items.Root 10 (at 5) ∷ items.Slot (One 8) form.Constant (at 1) ∷ []) ≡ Err (NoSuchPath (there 5))
unfolding loaded names at there
no_path = refl

-- x* = 3
no_parent : built names [] (items.Integer (pos 3) ∷ items.Slot (One 8) form.Parent (at 1) ∷ []) ≡ Err (ParentNotObject (there 1))
unfolding loaded names at there
no_parent = refl

-- m = ( | x <- 1 | [ x. ^ x ] value )
with_block : List Item
with_block =
    items.Opened (at 1) ∷ items.Integer (pos 1) ∷ items.Slot (One 8) (form.Assignable 9) (at 1)
    ∷ node text.Block ∷ items.Opened (at 1) ∷ node (text.Message target.Implied (One 8) 0) ∷ node text.Drop
    ∷ node (text.Message target.Implied (One 8) 0) ∷ node text.Return ∷ items.ClosedBody
    ∷ node (text.Message target.Given (One 11) 0) ∷ node text.End ∷ items.ClosedBody ∷ items.Slot (One 10) form.Method (at 1) ∷ []

method : nodes_in (world_of with_block) 0 ≡ nodes.BlockLit (record { 0 = 2 }) ∷ nodes.Send (record { name = record { 0 = 11 }; args = 0 }) ∷ nodes.End ∷ []
unfolding loaded names at there object_slot core_slots node nodes_of nodes_in world_of with_block
method = refl

block : nodes_in (world_of with_block) 1 ≡ nodes.Read 1 0 ∷ nodes.Drop ∷ nodes.Read 1 0 ∷ nodes.NonLocal ∷ []
unfolding loaded names at there object_slot core_slots node nodes_of nodes_in world_of with_block
block = refl

-- x: 3
assigning : List Item
assigning = node (text.Integer (pos 3)) ∷ node (text.Message target.Implied (One 9) 1) ∷ node text.End ∷ items.ClosedBody ∷ items.Slot (One 10) form.Method (at 1) ∷ []

-- m = ( | x | x: 3 )
stored : nodes_in (world_of (items.Opened (at 1) ∷ items.Slot (One 8) (form.Bare 9) (at 1) ∷ assigning)) 0 ≡ nodes.Int (pos 3) ∷ nodes.Store 0 0 ∷ nodes.End ∷ []
unfolding loaded names at there object_slot core_slots node nodes_of nodes_in world_of assigning
stored = refl

-- m = ( | x = 4 | x: 3 )
sent : nodes_in (world_of (items.Opened (at 1) ∷ items.Integer (pos 4) ∷ items.Slot (One 8) form.Constant (at 1) ∷ assigning)) 0
    ≡ nodes.Int (pos 3) ∷ nodes.SelfSend (record { name = record { 0 = 9 }; args = 1 }) ∷ nodes.End ∷ []
unfolding loaded names at there object_slot core_slots node nodes_of nodes_in world_of assigning
sent = refl

-- m = ( | x <- ( | value = 'q'. m = () | ) | )
nested : List Item
nested =
    items.Opened (at 1) ∷ items.Opened (at 1) ∷ items.Text 0 1 ∷ items.Slot (One 11) form.Constant (at 1) ∷ items.Opened (at 1) ∷ items.ClosedObject
    ∷ items.Slot (One 10) form.Constant (at 1) ∷ items.ClosedObject ∷ items.Slot (One 8) (form.Assignable 9) (at 1) ∷ items.ClosedObject
    ∷ items.Slot (One 10) form.Constant (at 1) ∷ []

slot : ℕ → ℕ → Slot
slot n o = record { name = n; content = Constant (values.Object o) }

outer_object : slice_get (things_in (built names (113 ∷ []) (core_slots ++ nested))) 8
    ≡ Some (Plain (record { name = 8; content = Assignable (values.Object 9) } ∷ record { name = 9; content = Assignment } ∷ []))
unfolding loaded names at there object_slot core_slots things_in nested slot
outer_object = refl

inner_object : slice_get (things_in (built names (113 ∷ []) (core_slots ++ nested))) 9 ≡ Some (Plain (slot 11 10 ∷ slot 10 11 ∷ []))
unfolding loaded names at there object_slot core_slots things_in nested slot
inner_object = refl

between : slice_get (things_in (built names (113 ∷ []) (core_slots ++ nested))) 10 ≡ Some (Text (113 ∷ []))
unfolding loaded names at there object_slot core_slots things_in nested slot
between = refl

-- x. nil = (). true = x. and the others: true is nil
told_by_nil : List Item
told_by_nil = items.Slot (One 8) (form.Bare 9) (at 1) ∷ object_slot 1 ++ items.Root 8 (at 1) ∷ items.Slot (One 2) form.Constant (at 1) ∷ []

core_in : Result World BuildRefusal → Option Core
core_in (Err r) = None
core_in (Ok w) = Some w.core

alias : core_in (built names [] (told_by_nil ++ object_slot 3 ++ object_slot 4 ++ object_slot 5 ++ object_slot 6 ++ object_slot 7)) ≡ Some (record { nil = 1; yes = 1; no = 2; integers = 3; strings = 4; vectors = 5; blocks = 6 })
unfolding loaded names at there object_slot core_in told_by_nil
alias = refl

-- at: and Put: together are one name, which is new
joined_names : Result World BuildRefusal → Option (List ℕ)
joined_names (Err r) = None
joined_names (Ok w) = slice_get w.names 14

at_put : joined_names (world_of (items.Opened (at 1) ∷ node (text.Message target.Given (Two 12 13) 2) ∷ items.ClosedBody ∷ items.Slot (One 10) form.Method (at 1) ∷ [])) ≡ Some (codes "at:Put:")
unfolding loaded names at there object_slot core_slots node world_of joined_names
at_put = refl
