-- An item adds at most one name, one object, one body, and one to the size.
use Rattle.std.proofs.Common.{◌≡◌, ℕ, ◌+◌, ◌≤◌, Bool, true, false, List, [], ◌∷◌, length, inl, inr, refl, ◌∙◌, arith, length-append}
use Rattle.std.specs.Prelude.{Option, None, Some, Result, Ok, Err, ◌&&◌, not}
use Rattle.std.proofs.Math.ListN.{length-set}
use Rattle.std.proofs.lemmas.Bool.{cases_Bool}
use Rattle.self_terms.specs.declared.nodes.Node.{Node}
use Rattle.self_terms.specs.declared.nodes.Place.{Place}
use Rattle.self_terms.specs.declared.values.Datum.{Datum as Value}
use Rattle.self_terms.specs.declared.bodies.Body.{Body}
use Rattle.self_terms.specs.Names.{with_text}
use Rattle.self_terms.specs.Bodies.{changed, change_body}
use Rattle.self_grammar.specs.declared.signs.Spot.{Spot}
use Rattle.self_grammar.specs.declared.pieces.Words.{Words}
use Rattle.self_grammar.specs.declared.pieces.Made.{Made}
use Rattle.self_grammar.specs.declared.pieces.TextNode.{TextNode}
use Rattle.self_grammar.specs.declared.pieces.TextNode.TheVariants as text
use Rattle.self_grammar.specs.declared.pieces.SlotForm.{SlotForm}
use Rattle.self_grammar.specs.declared.pieces.SlotForm.TheVariants as form
use Rattle.self_grammar.specs.declared.pieces.Item.{Item}
use Rattle.self_grammar.specs.declared.pieces.Item.TheVariants as items
use Rattle.self_grammar.specs.Parts.{parts_in}
use Rattle.world_build.specs.declared.values.Open.{Open}
use Rattle.world_build.specs.declared.values.Open.TheVariants.{InObject as in_object, InBody as in_body}
use Rattle.world_build.specs.declared.values.Held.{Held}
use Rattle.world_build.specs.declared.values.Held.TheVariants.{Nothing as nothing, Data as value, Code as body}
use Rattle.world_build.specs.declared.slots.ToldSlot.{ToldSlot}
use Rattle.world_build.specs.declared.things.ToldThing.{ToldThing}
use Rattle.world_build.specs.declared.things.ToldThing.TheVariants.{Plain as plain, Text as string}
use Rattle.world_build.specs.declared.refusals.BuildRefusal.{BuildRefusal}
use Rattle.world_build.specs.declared.loading.Loading.{Loading}
use Rattle.world_build.specs.declared.cores.CoreName.{CoreName}
use Rattle.world_build.specs.Names.{with_words, joined, lobby_text, core_text, core_names, with_core_texts}
use Rattle.world_build.specs.Things.{change_thing}
use Rattle.world_build.specs.Loading.{begun, is_object, opened, innermost, followed, root, further, at_object, add_slots, slots_for, placed_in, name_body, with_slot, slot_ended, is_parent, may_be_parent, argument_in, with_argument}
use Rattle.world_build.specs.Nodes.{beside, at_innermost, with_node, node_of, take_item}
use Rattle.world_build.specs.Steps.{IsWithin}
use Rattle.world_build.proofs.NameLemmas.{length-with_text}

-- names, objects and bodies are as many as they were, or one more of some
record Adds (s t : Loading) : Type 0 where
  names : length t.names ≤ length s.names + 1
  things : length t.things ≤ length s.things + 1
  bodies : length t.bodies ≤ length s.bodies + 1

record Keeps (s t : Loading) : Type 0 where
  names : length t.names ≡ length s.names
  things : length t.things ≡ length s.things
  bodies : length t.bodies ≡ length s.bodies
  size : t.size ≡ s.size

same : (s : Loading) → Keeps s s
same s = record { names = refl; things = refl; bodies = refl; size = refl }

adds_none : (s t : Loading) → Keeps s t → Adds s t
adds_none s t k = record { names = omega (arith, k.names); things = omega (arith, k.things); bodies = omega (arith, k.bodies) }

keeps_both : (s t u : Loading) → Keeps s t → Keeps t u → Keeps s u
keeps_both s t u k l = record { names = l.names ∙ k.names; things = l.things ∙ k.things; bodies = l.bodies ∙ k.bodies; size = l.size ∙ k.size }

adds_then : (s t u : Loading) → Adds s t → Keeps t u → Adds s u
adds_then s t u a k = record { names = omega (arith, a.names, k.names); things = omega (arith, a.things, k.things); bodies = omega (arith, a.bodies, k.bodies) }

-- Bodies and things that are changed are as many.

length-change_body : (f : Body → Body) (x : Option Body) (bodies : List Body) (at : ℕ) → length (change_body f x bodies at) ≡ length bodies
length-change_body f None bodies at = refl
length-change_body f (Some x) bodies at = length-set bodies at (f x)

keeps_bodies : (f : Body → Body) (b : ℕ) (s : Loading) → Keeps s (record s { bodies = changed f s.bodies b })
keeps_bodies f b s = record { names = refl; things = refl; bodies = length-change_body f _ s.bodies _; size = refl }

length-change_thing : (x : ToldSlot) (y : Option ToldThing) (things : List ToldThing) (o : ℕ) → length (change_thing x y things o) ≡ length things
length-change_thing x None things o = refl
length-change_thing x (Some (plain slots)) things o = length-set things o _
length-change_thing x (Some (string t)) things o = refl

keeps_slot : (o : ℕ) (x : ToldSlot) (s : Loading) → Keeps s (at_object o x s)
keeps_slot o x s = record { names = refl; things = length-change_thing x _ s.things o; bodies = refl; size = refl }

keeps_slots : (o : ℕ) (xs : List ToldSlot) (s : Loading) → Keeps s (add_slots o xs s)
keeps_slots o [] s = same s
keeps_slots o (x ∷ xs) s = keeps_both s (at_object o x s) (add_slots o xs (at_object o x s)) (keeps_slot o x s) (keeps_slots o xs (at_object o x s))

-- Names.

adds_words : (w : Words) (s : Loading) → Adds s (record s { names = with_words s.names w })
adds_words w s = record { names = length-with_text s.names (joined s.names (parts_in w)); things = omega arith; bodies = omega arith }

-- Nodes.

adds_beside : (bytes : List ℕ) (n : TextNode) (s : Loading) → Adds s (beside bytes n s)
adds_beside bytes (text.Text i j) s = record { names = omega arith; things = omega (arith, length-append {A = ToldThing}); bodies = omega arith }
adds_beside bytes (text.Message to w args) s = adds_words w s
adds_beside bytes (text.Primitive w args receiver handler) s = adds_words w s
adds_beside bytes (text.Integer z) s = adds_none s s (same s)
adds_beside bytes text.Block s = adds_none s s (same s)
adds_beside bytes text.Itself s = adds_none s s (same s)
adds_beside bytes text.Nil s = adds_none s s (same s)
adds_beside bytes text.Drop s = adds_none s s (same s)
adds_beside bytes text.Restart s = adds_none s s (same s)
adds_beside bytes text.Return s = adds_none s s (same s)
adds_beside bytes text.End s = adds_none s s (same s)

keeps_node : (o : Option Open) (n : Node) (p : Place) (s : Loading) → Keeps s (at_innermost o n p s)
keeps_node None n p s = same s
keeps_node (Some (in_object o)) n p s = same s
keeps_node (Some (in_body b)) n p s = keeps_bodies _ b s

-- Slots.

keeps_name : (h : Held) (n : ℕ) (f : SlotForm) (s : Loading) → Keeps s (name_body h n f s)
keeps_name nothing n f s = same s
keeps_name (value v) n f s = same s
keeps_name (body b) n form.Method s = keeps_bodies _ b s
keeps_name (body b) n form.Constant s = same s
keeps_name (body b) n (form.Assignable setter) s = same s
keeps_name (body b) n (form.Bare setter) s = same s
keeps_name (body b) n form.Parent s = same s

keeps_placed : (o : Option Open) (n : ℕ) (f : SlotForm) (s : Loading) → Keeps s (placed_in o n f s)
keeps_placed None n f s = same s
keeps_placed (Some (in_object o)) n f s = keeps_slots o (slots_for n f s.held) s
keeps_placed (Some (in_body b)) n f s = keeps_bodies _ b s

keeps_argument : (o : Option Open) (n : ℕ) (s : Loading) → Keeps s (argument_in o n s)
keeps_argument None n s = same s
keeps_argument (Some (in_object o)) n s = same s
keeps_argument (Some (in_body b)) n s = keeps_bodies _ b s

-- Items.

within : (n : ℕ) (s t : Loading) → IsWithin n s → Adds s t → t.size ≤ s.size + 1 → IsWithin (n + 1) t
within n s t w a z = record { names = omega (arith, w.names, a.names); things = omega (arith, w.things, a.things); bodies = omega (arith, w.bodies, a.bodies); size = omega (arith, w.size, z) }

-- room for all that comes of an item
Room : ℕ → Result Loading BuildRefusal → Type 0
Room n (Ok t) = IsWithin n t
Room n (Err e) = Unit {0}

within_node : (n : ℕ) (bytes : List ℕ) (m : Made) (s : Loading) → IsWithin n s → IsWithin (n + 1) (with_node bytes m s)
within_node n bytes m s w =
    let x = beside bytes m.node s in
    let y = at_innermost (innermost s.around) (node_of s m.node) (record { edit = 0; line = m.spot.line; column = m.spot.column }) x in
    let a = adds_then s x y (adds_beside bytes m.node s) (keeps_node (innermost s.around) (node_of s m.node) _ x) in
    within n s (with_node bytes m s) w (record { names = a.names; things = a.things; bodies = a.bodies }) (omega arith)

within_opened : (n : ℕ) (k : Bool) (s : Loading) → IsWithin n s → IsWithin (n + 1) (opened k s)
within_opened n true s w = within n s (opened true s) w (record { names = omega arith; things = omega (arith, length-append {A = ToldThing}); bodies = omega arith }) (omega arith)
within_opened n false s w = within n s (opened false s) w (record { names = omega arith; things = omega arith; bodies = omega (arith, length-append {A = Body}) }) (omega arith)

within_same : (n : ℕ) (s t : Loading) → IsWithin n s → Keeps s t → IsWithin (n + 1) t
within_same n s t w k = within n s t w (adds_none s t k) (omega (arith, k.size))

within_followed : (n : ℕ) (p : Spot) (v : Option Value) (s : Loading) → IsWithin n s → Room (n + 1) (followed s p v)
unfolding Room
within_followed n p None s w = tt
within_followed n p (Some v) s w = within_same n s _ w (record { names = refl; things = refl; bodies = refl; size = refl })

within_slot : (n m : ℕ) (f : SlotForm) (w : Words) (s : Loading) → IsWithin n s → IsWithin (n + 1) (with_slot m f (record s { names = with_words s.names w }))
within_slot n m f w s i =
    let x = record s { names = with_words s.names w } in
    let y = name_body x.held m f x in
    let z = placed_in (innermost x.around) m f y in
    let a = adds_then s x z (adds_words w s) (keeps_both x y z (keeps_name x.held m f x) (keeps_placed (innermost x.around) m f y)) in
    within n s (with_slot m f x) i (record { names = a.names; things = a.things; bodies = a.bodies }) (omega arith)

within_ended : (n : ℕ) (w : Words) (f : SlotForm) (p : Spot) (s : Loading) → IsWithin n s → Room (n + 1) (slot_ended w f p s)
unfolding Room
within_ended n w f p s i = elim (cases_Bool (is_parent f && not (may_be_parent s s.held))) [
  | inl e ↦ rw e tt
  | inr e ↦ rw e (within_slot n _ f w s i)
]

within_argument : (n m : ℕ) (s : Loading) → IsWithin n s → IsWithin (n + 1) (with_argument m s)
within_argument n m s w =
    let x = argument_in (innermost s.around) m s in
    let k = keeps_argument (innermost s.around) m s in
    let a = adds_none s x k in
    within n s (with_argument m s) w (record { names = a.names; things = a.things; bodies = a.bodies }) (omega arith)

within_item : (n : ℕ) (bytes : List ℕ) (i : Item) (rest : List Item) (s : Loading) → IsWithin n s → Room (n + 1) (take_item bytes i rest s)
unfolding Room
within_item n bytes (items.Node m) rest s w = within_node n bytes m s w
within_item n bytes (items.Opened p) rest s w = within_opened n (is_object 0 rest) s w
within_item n bytes items.ClosedObject rest s w = within_same n s _ w (record { names = refl; things = refl; bodies = refl; size = refl })
within_item n bytes items.ClosedBody rest s w = within_same n s _ w (record { names = refl; things = refl; bodies = refl; size = refl })
within_item n bytes (items.Integer z) rest s w = within_same n s _ w (record { names = refl; things = refl; bodies = refl; size = refl })
within_item n bytes (items.Text i j) rest s w = within n s _ w (record { names = omega arith; things = omega (arith, length-append {A = ToldThing}); bodies = omega arith }) (omega arith)
within_item n bytes (items.Root m p) rest s w = within_followed n p (root s m) s w
within_item n bytes (items.Further m p) rest s w = within_followed n p (further s s.held m) s w
within_item n bytes (items.Argument m) rest s w = within_argument n m s w
within_item n bytes (items.Named m) rest s w = within n s _ w (record { names = omega arith; things = omega arith; bodies = omega arith }) (omega arith)
within_item n bytes (items.Slot x f p) rest s w = within_ended n x f p s w

pub within_more : (n : ℕ) (bytes : List ℕ) (i : Item) (rest : List Item) (s t : Loading) → IsWithin n s → take_item bytes i rest s ≡ Ok t → IsWithin (n + 1) t
unfolding Room
within_more n bytes i rest s t w e = rw e at (within_item n bytes i rest s w)

length-with_core_texts : (names : List (List ℕ)) (cs : List CoreName) → length (with_core_texts names cs) ≤ length names + length cs
length-with_core_texts names [] = omega arith
length-with_core_texts names (c ∷ cs) = omega (arith, length-with_core_texts (with_text names (core_text c)) cs, length-with_text names (core_text c))

-- a world begins with its own names, and the lobby
pub within_begun : (n : ℕ) (names : List (List ℕ)) → length names + 8 ≤ n → IsWithin n (begun names)
within_begun n names h = record {
  names = omega (arith, length-with_core_texts (with_text names lobby_text) core_names, length-with_text names lobby_text, h);
  things = omega (arith, h);
  bodies = omega arith;
  size = omega (arith, h);
}
