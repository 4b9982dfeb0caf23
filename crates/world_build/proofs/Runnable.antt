-- The bodies that balanced items build are sound.
use Rattle.std.specs.Prelude.{◌≡◌, ℕ, zero, suc, ◌+◌, ◌-◌, ◌≤◌, nat_eq, nat_le, Bool, true, false, not, ◌&&◌, if◌then◌else◌, Option, None, Some, Result, Ok, Err, List, [], ◌∷◌, ◌++◌, length, map, slice_get, slice_set, refl}
use Rattle.std.proofs.Common.{ap, sym, subst, ◌∙◌, arith, inl, inr}
use Rattle.std.proofs.lemmas.Grind.{common_steps}
use Rattle.self_terms.specs.declared.nodes.Node.{Node}
use Rattle.self_terms.specs.declared.nodes.Node.TheVariants as nodes
use Rattle.self_terms.specs.declared.nodes.Place.{Place}
use Rattle.self_terms.specs.declared.values.Datum.{Datum as Value}
use Rattle.self_terms.specs.declared.values.Datum.TheVariants.{Integer as integer, Object as object}
use Rattle.self_terms.specs.declared.bodies.Body.{Body}
use Rattle.self_terms.specs.Words.{IsSmall}
use Rattle.self_terms.specs.Bodies.{change_body, changed, add_node, add_argument, add_local, with_name, sought, is_block, body_at}
use Rattle.self_terms.specs.Depths.{one_if}
use Rattle.self_grammar.specs.declared.signs.Spot.{Spot}
use Rattle.self_grammar.specs.declared.pieces.Words.{Words}
use Rattle.self_grammar.specs.declared.pieces.Words.TheVariants as words
use Rattle.self_grammar.specs.declared.pieces.Target.{Target}
use Rattle.self_grammar.specs.declared.pieces.Target.TheVariants as target
use Rattle.self_grammar.specs.declared.pieces.SlotForm.{SlotForm}
use Rattle.self_grammar.specs.declared.pieces.SlotForm.TheVariants as form
use Rattle.self_grammar.specs.declared.pieces.Made.{Made}
use Rattle.self_grammar.specs.declared.pieces.Item.{Item}
use Rattle.self_grammar.specs.declared.pieces.Item.TheVariants as items
use Rattle.self_grammar.specs.declared.pieces.TextNode.{TextNode}
use Rattle.self_grammar.specs.declared.pieces.TextNode.TheVariants as text
use Rattle.self_grammar.specs.Counts.{Limits, stated, takes, gives}
use Rattle.self_grammar.specs.declared.signs.Sign.{Sign}
use Rattle.self_grammar.specs.Grammar as g
use Rattle.self_grammar.specs.Spelling as s
use Rattle.self_grammar.specs.Refusal.{IsText}
use Rattle.self_grammar.proofs.Balance.{world_balanced, world_integers}
use Rattle.self_grammar.specs.Balance
use Rattle.self_grammar.specs.Balance.{Entry, fresh, ends, admits, behind, only_if, walked_item, walked, OfSigns, OfNode, OfItem, OfItems}
use Rattle.world_build.specs.declared.values.Open.{Open}
use Rattle.world_build.specs.declared.values.Open.TheVariants.{InObject as in_object, InBody as in_body}
use Rattle.world_build.specs.declared.values.Held.{Held}
use Rattle.world_build.specs.declared.values.Held.TheVariants.{Nothing as nothing, Data as value, Code as body}
use Rattle.world_build.specs.declared.slots.ToldSlot.{ToldSlot}
use Rattle.world_build.specs.declared.refusals.BuildRefusal.{BuildRefusal}
use Rattle.world_build.specs.declared.refusals.BuildRefusal.TheVariants.{ParentNotObject}
use Rattle.world_build.specs.declared.loading.Loading.{Loading}
use Rattle.world_build.specs.Names.{core_names, with_words, word_number}
use Rattle.world_build.specs.Loading.{begun, place, root, further, followed, holding, is_object, innermost, body_in, opened, with_body, closed, with_closed, with_string, at_object, slots_for, add_slots, local_for, placed_in, name_body, with_slot, may_be_parent, is_parent, argument_in, with_argument, with_waiting}
use Rattle.world_build.specs.Nodes.{byte, selector, reading, storing, implied, message, found, node_of, beside, at_innermost, with_node, take_item}
use Rattle.world_build.specs.Nodes
use Rattle.world_build.specs.Worlds.{World}
use Rattle.world_build.specs.Worlds
use Rattle.world_build.specs.Soundness.{IsSound}
use Rattle.world_build.proofs.Growing.{Fits, Growing, Shape, both, fine_total, le_of, total}
use Rattle.world_build.proofs.Standing.{Stands, kinds_on, none_open, stands_body, stands_closed_body, stands_closed_object, stands_node, stands_object, stands_on}

-- The world's nodes take and leave as many values as the text's.

byte_same : (n : ℕ) → n ≤ 255 → byte n ≡ n
byte_same n h = let t : nat_le n 255 ≡ true = grind (arith, common_steps) in rw t refl

self_sends : (t : TextNode) (n args : ℕ) → args ≤ 64 → takes t ≡ args → gives t ≡ 1 → ends t ≡ false → Fits t (nodes.SelfSend (selector n args))
self_sends t n args h a b c = record { takes_same = byte_same args (omega arith) ∙ sym a; gives_same = sym b; inner = ap (λ y. not y) (sym c); small = tt }

reads : (o : Option (ℕ × ℕ)) (w : Words) (n : ℕ) → Fits (text.Message target.Implied w 0) (reading o n)
reads None w n = self_sends (text.Message target.Implied w 0) n 0 (omega arith) refl refl refl
reads (Some q) w n = record { takes_same = refl; gives_same = refl; inner = refl; small = tt }

stores : (o : Option (ℕ × ℕ)) (w : Words) (n : ℕ) → Fits (text.Message target.Implied w 1) (storing o n)
stores None w n = self_sends (text.Message target.Implied w 1) n 1 (omega arith) refl refl refl
stores (Some q) w n = record { takes_same = refl; gives_same = refl; inner = refl; small = tt }

implied_fits : (s : Loading) (w : Words) (n args : ℕ) → args ≤ 64 → Fits (text.Message target.Implied w args) (implied s w n args)
implied_fits s (words.One a) n zero h = reads (found (sought false n) 0 s.bodies s.around) (words.One a) n
implied_fits s (words.One a) n (suc zero) h = stores (found (sought true n) 0 s.bodies s.around) (words.One a) n
implied_fits s (words.One a) n (suc (suc k)) h = self_sends (text.Message target.Implied (words.One a) (suc (suc k))) n (suc (suc k)) h (omega arith) refl refl
implied_fits s (words.Two a b) n args h = self_sends (text.Message target.Implied (words.Two a b) args) n args h (omega arith) refl refl
implied_fits s (words.Three a b c) n args h = self_sends (text.Message target.Implied (words.Three a b c) args) n args h (omega arith) refl refl
implied_fits s (words.Four a b c d) n args h = self_sends (text.Message target.Implied (words.Four a b c d) args) n args h (omega arith) refl refl
implied_fits s (words.Five a b c d e) n args h = self_sends (text.Message target.Implied (words.Five a b c d e) args) n args h (omega arith) refl refl

message_fits : (s : Loading) (to : Target) (w : Words) (n args : ℕ) → args + stated to ≤ 64 → Fits (text.Message to w args) (message s to w n args)
message_fits s target.Given w n args h = record { takes_same = ap (λ k. k + 1) (byte_same args (omega arith)); gives_same = refl; inner = refl; small = tt }
message_fits s target.Implied w n args h = implied_fits s w n args (omega arith)
message_fits s target.Parents w n args h = let e : byte args ≡ args = byte_same args (omega arith) in record { takes_same = omega arith; gives_same = refl; inner = refl; small = tt }
message_fits s (target.Parent p) w n args h = let e : byte args ≡ args = byte_same args (omega arith) in record { takes_same = omega arith; gives_same = refl; inner = refl; small = tt }

once : (b : Bool) → one_if b ≡ Rattle.self_grammar.specs.Counts.one_if b
once true = refl
once false = refl

returns : (b : Bool) → Fits text.Return (if b then nodes.NonLocal else nodes.Return)
returns true = record { takes_same = refl; gives_same = refl; inner = refl; small = tt }
returns false = record { takes_same = refl; gives_same = refl; inner = refl; small = tt }

node_fits : (s : Loading) (t : TextNode) → takes t ≤ 64 → OfNode IsSmall t → Fits t (node_of s t)
node_fits s (text.Integer z) h i = record { takes_same = refl; gives_same = refl; inner = refl; small = i }
node_fits s (text.Text a b) h i = record { takes_same = refl; gives_same = refl; inner = refl; small = tt }
node_fits s text.Block h i = record { takes_same = refl; gives_same = refl; inner = refl; small = tt }
node_fits s text.Itself h i = record { takes_same = refl; gives_same = refl; inner = refl; small = tt }
node_fits s text.Nil h i = record { takes_same = refl; gives_same = refl; inner = refl; small = tt }
node_fits s (text.Message to w args) h i = message_fits s to w (word_number s.names w) args h
node_fits s (text.Primitive w args implied handler) h i =
    let e : byte args ≡ args = byte_same args (omega arith) in
    record { takes_same = rw (e, once (not implied), once handler) refl; gives_same = refl; inner = refl; small = tt }
node_fits s text.Drop h i = record { takes_same = refl; gives_same = refl; inner = refl; small = tt }
node_fits s text.Restart h i = record { takes_same = refl; gives_same = refl; inner = refl; small = tt }
node_fits s text.Return h i = returns (is_block (body_at s.bodies (body_in (innermost s.around))))
node_fits s text.End h i = record { takes_same = refl; gives_same = refl; inner = refl; small = tt }

-- The bodies of what was read, by their nodes and places.

abbrev shape : Body → Shape
shape b = (b.nodes, b.places)

abbrev shapes : Loading → List Shape
shapes s = map shape s.bodies

set_shape : (bodies : List Body) (j : ℕ) (y : Body) → map shape (slice_set bodies j y) ≡ slice_set (map shape bodies) j (shape y)
set_shape [] j y = refl
set_shape (b ∷ bodies) zero y = refl
set_shape (b ∷ bodies) (suc j) y = ap (λ xs. shape b ∷ xs) (set_shape bodies j y)

set_same : (bodies : List Body) (j : ℕ) (x y : Body) → slice_get bodies j ≡ Some x → shape y ≡ shape x → map shape (slice_set bodies j y) ≡ map shape bodies
set_same [] j x y e h = refl
set_same (b ∷ bodies) zero x y e h = let same : b ≡ x = cc in ap (λ z. z ∷ map shape bodies) (h ∙ ap shape (sym same))
set_same (b ∷ bodies) (suc j) x y e h = ap (λ xs. shape b ∷ xs) (set_same bodies j x y e h)

-- A body is changed, but not in its nodes.
change_same : (f : Body → Body) → ((x : Body) → shape (f x) ≡ shape x) → (o : Option Body) (bodies : List Body) (j : ℕ) → slice_get bodies j ≡ o → map shape (change_body f o bodies j) ≡ map shape bodies
change_same f h None bodies j e = refl
change_same f h (Some x) bodies j e = set_same bodies j x (f x) e (h x)

shape_at : (bodies : List Body) (j : ℕ) (x : Body) → slice_get bodies j ≡ Some x → slice_get (map shape bodies) j ≡ Some (shape x)
shape_at [] j x e = cc
shape_at (b ∷ bodies) zero x e = let same : b ≡ x = cc in ap (λ y. Some (shape y)) same
shape_at (b ∷ bodies) (suc j) x e = shape_at bodies j x e

unshaped : (bodies : List Body) (j : ℕ) → slice_get bodies j ≡ None → slice_get (map shape bodies) j ≡ None
unshaped [] j e = refl
unshaped (b ∷ bodies) zero e = cc
unshaped (b ∷ bodies) (suc j) e = unshaped bodies j e

-- A body gets a node.
change_node : (n : Node) (p : Place) (o : Option Body) (bodies : List Body) (j : ℕ) (y : Shape) → slice_get bodies j ≡ o → slice_get (map shape bodies) j ≡ Some y →
    map shape (change_body (add_node n p) o bodies j) ≡ slice_set (map shape bodies) j (y.0 ++ n ∷ [], y.1 ++ p ∷ [])
change_node n p None bodies j y e at = let no : None ≡ Some y = sym (unshaped bodies j e) ∙ at in cc
change_node n p (Some x) bodies j y e at =
    let found : Some (shape x) ≡ Some y = sym (shape_at bodies j x e) ∙ at in
    let same : shape x ≡ y = cc in
    set_shape bodies j (add_node n p x) ∙ ap (λ z. slice_set (map shape bodies) j (z.0 ++ n ∷ [], z.1 ++ p ∷ [])) same

-- Nothing opened or closed, and no body got a node.
record Alike (s u : Loading) : Type 0 where
  bodies : shapes u ≡ shapes s
  around : u.around ≡ s.around

alike_on : (es : List Entry) (s u : Loading) (i : Item) (rest : List Item) → ((k : ℕ) → is_object k (i ∷ rest) ≡ is_object k rest) → Alike s u → Stands es (shapes s) s.around (i ∷ rest) →
    Stands es (shapes u) u.around rest
alike_on es s u i rest same a h =
    subst (λ xs. Stands es xs u.around rest) (sym a.bodies) (subst (λ os. Stands es (shapes s) os rest) (sym a.around) (stands_on es (shapes s) s.around i rest same h))

changed_alike : (b : ℕ) (f : Body → Body) (s : Loading) → ((x : Body) → shape (f x) ≡ shape x) → Alike s (record s { bodies = changed f s.bodies b })
changed_alike b f s h = record { bodies = change_same f h (slice_get s.bodies (b - 1)) s.bodies (b - 1) refl; around = refl }

alike_then : (s t u : Loading) → Alike s t → Alike t u → Alike s u
alike_then s t u a b = record { bodies = b.bodies ∙ a.bodies; around = b.around ∙ a.around }

add_slots_alike : (o : ℕ) (xs : List ToldSlot) (s : Loading) → Alike s (add_slots o xs s)
add_slots_alike o [] s = record { bodies = refl; around = refl }
add_slots_alike o (x ∷ xs) s = let h = add_slots_alike o xs (at_object o x s) in record { bodies = h.bodies; around = h.around }

name_alike : (h : Held) (n : ℕ) (f : SlotForm) (s : Loading) → Alike s (name_body h n f s)
name_alike nothing n f s = record { bodies = refl; around = refl }
name_alike (value v) n f s = record { bodies = refl; around = refl }
name_alike (body b) n form.Method s = changed_alike b (with_name n) s (λ x. refl)
name_alike (body b) n form.Constant s = record { bodies = refl; around = refl }
name_alike (body b) n (form.Assignable a) s = record { bodies = refl; around = refl }
name_alike (body b) n (form.Bare a) s = record { bodies = refl; around = refl }
name_alike (body b) n form.Parent s = record { bodies = refl; around = refl }

placed_alike : (o : Option Open) (n : ℕ) (f : SlotForm) (s : Loading) → Alike s (placed_in o n f s)
placed_alike None n f s = record { bodies = refl; around = refl }
placed_alike (Some (in_object o)) n f s = add_slots_alike o (slots_for n f s.held) s
placed_alike (Some (in_body b)) n f s = changed_alike b (add_local (local_for n f s.held)) s (λ x. refl)

slot_alike : (n : ℕ) (f : SlotForm) (s : Loading) → Alike s (with_slot n f s)
slot_alike n f s =
    let a = name_alike s.held n f s in
    let b = placed_alike (innermost s.around) n f (name_body s.held n f s) in
    record { bodies = b.bodies ∙ a.bodies; around = b.around ∙ a.around }

argument_alike : (o : Option Open) (n : ℕ) (s : Loading) → Alike s (argument_in o n s)
argument_alike None n s = record { bodies = refl; around = refl }
argument_alike (Some (in_object o)) n s = record { bodies = refl; around = refl }
argument_alike (Some (in_body b)) n s = changed_alike b (add_argument n) s (λ x. refl)

beside_alike : (bytes : List ℕ) (t : TextNode) (s : Loading) → ((beside bytes t s).bodies ≡ s.bodies) × ((beside bytes t s).around ≡ s.around)
beside_alike bytes (text.Integer z) s = (refl, refl)
beside_alike bytes (text.Text a b) s = (refl, refl)
beside_alike bytes text.Block s = (refl, refl)
beside_alike bytes text.Itself s = (refl, refl)
beside_alike bytes text.Nil s = (refl, refl)
beside_alike bytes (text.Message to w args) s = (refl, refl)
beside_alike bytes (text.Primitive w args implied handler) s = (refl, refl)
beside_alike bytes text.Drop s = (refl, refl)
beside_alike bytes text.Restart s = (refl, refl)
beside_alike bytes text.Return s = (refl, refl)
beside_alike bytes text.End s = (refl, refl)

-- Each item.

ok_same : (s u : Loading) → ◌≡◌ {A = Result Loading BuildRefusal} (Ok s) (Ok u) → s ≡ u
ok_same s u e = cc

followed_alike : (s u : Loading) (p : Spot) (o : Option Value) → followed s p o ≡ Ok u → Alike s u
followed_alike s u p None e = cc
followed_alike s u p (Some v) e = subst (λ t. Alike s t) (ok_same (holding s v) u e) (record { bodies = refl; around = refl })

ended_alike : (s t u : Loading) (p : Spot) (b : Bool) → Alike s t → (if b then Err (ParentNotObject (place p)) else Ok t) ≡ Ok u → Alike s u
ended_alike s t u p true a e = cc
ended_alike s t u p false a e = subst (λ y. Alike s y) (ok_same t u e) a

only : (b : Bool) (xs ys : List Entry) → only_if b xs ≡ Some ys → (b ≡ true) × (xs ≡ ys)
only true xs ys e = (refl, cc)
only false xs ys e = cc

some_same : (xs ys : List Entry) → ◌≡◌ {A = Option (List Entry)} (Some xs) (Some ys) → xs ≡ ys
some_same xs ys e = cc

length_map : (bodies : List Body) → length (map shape bodies) ≡ length bodies
length_map [] = refl
length_map (b ∷ bodies) = ap suc (length_map bodies)

map_more : (bodies : List Body) (b : Body) → map shape (bodies ++ b ∷ []) ≡ map shape bodies ++ shape b ∷ []
map_more [] b = refl
map_more (c ∷ bodies) b = ap (λ xs. shape c ∷ xs) (map_more bodies b)

opened_step : (es : List Entry) (s : Loading) (p : Spot) (rest : List Item) (b : Bool) → is_object 0 rest ≡ b → Stands es (shapes s) s.around (items.Opened p ∷ rest) →
    Stands (fresh ∷ es) (shapes (opened b s)) (opened b s).around rest
opened_step es s p rest true on h = stands_object es (shapes s) s.around (length s.things) p rest on h
opened_step es s p rest false on h =
    subst (λ k. Stands (fresh ∷ es) (shapes (with_body s)) (in_body (k + 1) ∷ s.around) rest) (length_map s.bodies)
    (subst (λ xs. Stands (fresh ∷ es) xs (in_body (length (shapes s) + 1) ∷ s.around) rest)
    (sym (map_more s.bodies (record { name = None; outer = body_in (innermost s.around); arguments = s.waiting; locals = []; nodes = []; places = [] })))
    (stands_body es (shapes s) s.around p rest on h))

closed_object_step : (e : Entry) (es : List Entry) (xs : List Shape) (os : List Open) (h : Held) (rest : List Item) → Stands (e ∷ es) xs os (items.ClosedObject ∷ rest) → Stands es xs (closed os h).0 rest
closed_object_step e es xs [] h rest a = absurd a.follows
closed_object_step e es xs (in_object o ∷ os) h rest a = stands_closed_object e es xs (in_object o) os rest a
closed_object_step e es xs (in_body b ∷ os) h rest a = stands_closed_object e es xs (in_body b) os rest a

closed_body_step : (e : Entry) (es : List Entry) (xs : List Shape) (os : List Open) (h : Held) (rest : List Item) → e.ended ≡ true → Stands (e ∷ es) xs os (items.ClosedBody ∷ rest) → Stands es xs (closed os h).0 rest
closed_body_step e es xs [] h rest on a = absurd a.follows
closed_body_step e es xs (in_object o ∷ os) h rest on a = stands_closed_body e es xs (in_object o) os rest on a
closed_body_step e es xs (in_body b ∷ os) h rest on a = stands_closed_body e es xs (in_body b) os rest on a

admits_few : (l : Limits) (e : Entry) (x : Shape) (t : TextNode) → Growing e x → admits l e t ≡ true → takes t ≤ 64
admits_few l e x t h ok =
    let w : Bool = nat_le (takes t) e.pending in
    let y : Bool = nat_le (e.pending - takes t + gives t) l.pending in
    let c = both (not e.ended && w && y) (nat_le (e.nodes + 1) l.body) ok in
    let d = both (not e.ended && w) y c.0 in
    let b = both (not e.ended) w d.0 in
    let enough : takes t ≤ e.pending = le_of _ _ b.1 in
    let q : total 0 x.0 ≡ e.pending = h.pending in
    let few : total 0 x.0 ≤ 64 = fine_total 0 x.0 h.fine in
    omega arith

node_step : (l : Limits) (e : Entry) (es : List Entry) (s u : Loading) (os : List Open) (m : Made) (rest : List Item) → l.pending ≤ 64 → l.body ≤ 1024 → u.bodies ≡ s.bodies → u.around ≡ os →
    admits l e m.node ≡ true → OfNode IsSmall m.node → Stands (e ∷ es) (shapes s) os (items.Node m ∷ rest) →
    Stands (behind e m.node ∷ es) (shapes (at_innermost (innermost os) (node_of s m.node) (place m.spot) u)) (at_innermost (innermost os) (node_of s m.node) (place m.spot) u).around rest
node_step l e es s u [] m rest lp lb a b ok small h = absurd h.follows
node_step l e es s u (in_object o ∷ os) m rest lp lb a b ok small h =
    subst (λ bodies. Stands (behind e m.node ∷ es) (map shape bodies) u.around rest) (sym a)
    (subst (λ ds. Stands (behind e m.node ∷ es) (shapes s) ds rest) (sym b)
    (record { follows = h.follows; kinds = kinds_on (items.Node m) rest (λ k. refl) 0 (behind e m.node ∷ es) (in_object o ∷ os) h.kinds; closed = h.closed }))
node_step l e es s u (in_body c ∷ os) m rest lp lb a b ok small h =
    let f = h.follows.0 in
    let few : takes m.node ≤ 64 = admits_few l e f.shape m.node f.growing ok in
    subst (λ ds. Stands (behind e m.node ∷ es) (map shape (changed (add_node (node_of s m.node) (place m.spot)) u.bodies c)) ds rest) (sym b)
    (subst (λ bodies. Stands (behind e m.node ∷ es) (map shape (change_body (add_node (node_of s m.node) (place m.spot)) (slice_get bodies (c - 1)) bodies (c - 1))) (in_body c ∷ os) rest) (sym a)
    (subst (λ xs. Stands (behind e m.node ∷ es) xs (in_body c ∷ os) rest)
    (sym (change_node (node_of s m.node) (place m.spot) (slice_get s.bodies (c - 1)) s.bodies (c - 1) f.shape refl f.found))
    (stands_node l e es (shapes s) c os m rest (node_of s m.node) (place m.spot) lp lb ok (node_fits s m.node few small) h)))

step : (l : Limits) (bytes : List ℕ) (i : Item) (rest : List Item) (s u : Loading) (es ds : List Entry) → l.pending ≤ 64 → l.body ≤ 1024 → Stands es (shapes s) s.around (i ∷ rest) →
    take_item bytes i rest s ≡ Ok u → walked_item l i es ≡ Some ds → OfItem IsSmall i → Stands ds (shapes u) u.around rest
step l bytes (items.Node m) rest s u [] ds lp lb h e w small = cc
step l bytes (items.Node m) rest s u (f ∷ es) ds lp lb h e w small =
    let o = only (admits l f m.node) (behind f m.node ∷ es) ds w in
    let b = beside_alike bytes m.node s in
    subst (λ t. Stands ds (shapes t) t.around rest) (ok_same (with_node bytes m s) u e)
    (subst (λ cs. Stands cs (shapes (with_node bytes m s)) (with_node bytes m s).around rest) o.1
    (node_step l f es s (beside bytes m.node s) s.around m rest lp lb b.0 b.1 o.0 small h))
step l bytes (items.Opened p) rest s u es ds lp lb h e w small =
    subst (λ t. Stands ds (shapes t) t.around rest) (ok_same (opened (is_object 0 rest) s) u e)
    (subst (λ cs. Stands cs (shapes (opened (is_object 0 rest) s)) (opened (is_object 0 rest) s).around rest) (some_same (fresh ∷ es) ds w)
    (opened_step es s p rest (is_object 0 rest) refl h))
step l bytes items.ClosedObject rest s u [] ds lp lb h e w small = cc
step l bytes items.ClosedObject rest s u (f ∷ es) ds lp lb h e w small =
    let o = only (nat_eq f.nodes 0) es ds w in
    subst (λ t. Stands ds (shapes t) t.around rest) (ok_same (with_closed s) u e)
    (subst (λ cs. Stands cs (shapes s) (closed s.around s.held).0 rest) o.1 (closed_object_step f es (shapes s) s.around s.held rest h))
step l bytes items.ClosedBody rest s u [] ds lp lb h e w small = cc
step l bytes items.ClosedBody rest s u (f ∷ es) ds lp lb h e w small =
    let o = only f.ended es ds w in
    subst (λ t. Stands ds (shapes t) t.around rest) (ok_same (with_closed s) u e)
    (subst (λ cs. Stands cs (shapes s) (closed s.around s.held).0 rest) o.1 (closed_body_step f es (shapes s) s.around s.held rest o.0 h))
step l bytes (items.Integer z) rest s u es ds lp lb h e w small =
    subst (λ cs. Stands cs (shapes u) u.around rest) (some_same es ds w)
    (alike_on es s u (items.Integer z) rest (λ k. refl) (subst (λ t. Alike s t) (ok_same (holding s (integer z)) u e) (record { bodies = refl; around = refl })) h)
step l bytes (items.Text a b) rest s u es ds lp lb h e w small =
    subst (λ cs. Stands cs (shapes u) u.around rest) (some_same es ds w)
    (alike_on es s u (items.Text a b) rest (λ k. refl) (subst (λ t. Alike s t) (ok_same (holding (with_string bytes a b s) (object (length s.things))) u e) (record { bodies = refl; around = refl })) h)
step l bytes (items.Root n p) rest s u es ds lp lb h e w small =
    subst (λ cs. Stands cs (shapes u) u.around rest) (some_same es ds w) (alike_on es s u (items.Root n p) rest (λ k. refl) (followed_alike s u p (root s n) e) h)
step l bytes (items.Further n p) rest s u es ds lp lb h e w small =
    subst (λ cs. Stands cs (shapes u) u.around rest) (some_same es ds w) (alike_on es s u (items.Further n p) rest (λ k. refl) (followed_alike s u p (further s s.held n) e) h)
step l bytes (items.Argument n) rest s u es ds lp lb h e w small =
    let a = argument_alike (innermost s.around) n s in
    subst (λ cs. Stands cs (shapes u) u.around rest) (some_same es ds w)
    (alike_on es s u (items.Argument n) rest (λ k. refl) (subst (λ t. Alike s t) (ok_same (with_argument n s) u e) (record { bodies = a.bodies; around = a.around })) h)
step l bytes (items.Named n) rest s u es ds lp lb h e w small =
    subst (λ cs. Stands cs (shapes u) u.around rest) (some_same es ds w)
    (alike_on es s u (items.Named n) rest (λ k. refl) (subst (λ t. Alike s t) (ok_same (with_waiting n s) u e) (record { bodies = refl; around = refl })) h)
step l bytes (items.Slot v f p) rest s u es ds lp lb h e w small =
    let named : Loading = record s { names = with_words s.names v } in
    let a = slot_alike (word_number s.names v) f named in
    subst (λ cs. Stands cs (shapes u) u.around rest) (some_same es ds w)
    (alike_on es s u (items.Slot v f p) rest (λ k. refl)
    (ended_alike s (with_slot (word_number s.names v) f named) u p (is_parent f && not (may_be_parent s s.held)) (record { bodies = a.bodies; around = a.around }) e) h)

-- All items.

ok_bound : (r : Result Loading BuildRefusal) (f : Loading → Result Loading BuildRefusal) (t : Loading) → Nodes.bound r f ≡ Ok t → (u : Loading) × (r ≡ Ok u) × (f u ≡ Ok t)
ok_bound (Ok u) f t e = (u, refl, e)
ok_bound (Err r) f t e = cc

some_bound : (o : Option (List Entry)) (f : List Entry → Option (List Entry)) (t : List Entry) → Balance.bound o f ≡ Some t → (u : List Entry) × (o ≡ Some u) × (f u ≡ Some t)
some_bound None f t e = cc
some_bound (Some u) f t e = (u, refl, e)

runs : (l : Limits) (bytes : List ℕ) (is : List Item) (s t : Loading) (es ds : List Entry) → l.pending ≤ 64 → l.body ≤ 1024 → Stands es (shapes s) s.around is → Nodes.loaded bytes is s ≡ Ok t →
    walked l es is ≡ Some ds → OfItems IsSmall is → Stands ds (shapes t) t.around []
unfolding Nodes.loaded
runs l bytes [] s t es ds lp lb h e w small =
    subst (λ cs. Stands cs (shapes t) t.around []) (some_same es ds w) (subst (λ u. Stands es (shapes u) u.around []) (ok_same s t e) h)
runs l bytes (i ∷ is) s t es ds lp lb h e w small =
    let a = ok_bound (take_item bytes i is s) (λ u. Nodes.loaded bytes is u) t e in
    let b = some_bound (walked_item l i es) (λ cs. walked l cs is) ds w in
    runs l bytes is a.0 t b.0 ds lp lb (step l bytes i is s a.0 es b.0 lp lb h a.1 b.1 small.0) a.2 b.2 small.1

begins : (names : List (List ℕ)) (is : List Item) → Stands [] (shapes (begun names)) (begun names).around is
begins names is = record { follows = tt; kinds = tt; closed = λ i x e. cc }

pub loaded_sound : (l : Limits) (names : List (List ℕ)) (bytes : List ℕ) (is : List Item) (t : Loading) → l.pending ≤ 64 → l.body ≤ 1024 → Nodes.loaded bytes is (begun names) ≡ Ok t →
    walked l [] is ≡ Some [] → OfItems IsSmall is → (k : ℕ) (b : Body) → slice_get t.bodies k ≡ Some b → IsSound b.nodes b.places
loaded_sound l names bytes is t lp lb e w small k b at =
    let h = runs l bytes is (begun names) t [] [] lp lb (begins names is) e w small in
    elim (h.closed k (shape b) (shape_at t.bodies k b at)) [ inl a ↦ absurd (none_open k t.around h.follows a) | inr a ↦ a ]

world_same : (a b : World) → ◌≡◌ {A = Result World BuildRefusal} (Ok a) (Ok b) → a ≡ b
world_same a b e = cc

loaded_first : (r : Result Loading BuildRefusal) (w : World) → Worlds.finished r ≡ Ok w → (t : Loading) × (r ≡ Ok t) × (w.bodies ≡ t.bodies)
loaded_first (Err r) w e = cc
loaded_first (Ok t) w e = (t, refl, same (Worlds.cores t core_names) e)
  where
    same : (c : Result (List ℕ) BuildRefusal) → Worlds.world_of t c ≡ Ok w → w.bodies ≡ t.bodies
    same (Err q) e = cc
    same (Ok core) e = ap (λ (x : World). x.bodies) (sym (world_same _ w e))

-- The bodies of a world whose items are balanced, with literals within 30 bits, are sound.
pub world_sound : (l : Limits) (names : List (List ℕ)) (bytes : List ℕ) (is : List Item) (w : World) → l.pending ≤ 64 → l.body ≤ 1024 → Worlds.built names bytes is ≡ Ok w →
    walked l [] is ≡ Some [] → OfItems IsSmall is → (k : ℕ) (b : Body) → slice_get w.bodies k ≡ Some b → IsSound b.nodes b.places
world_sound l names bytes is w lp lb e v small k b at =
    let t = loaded_first (Nodes.loaded bytes is (begun names)) w e in
    loaded_sound l names bytes is t.0 lp lb t.1 v small k b (ap (λ bs. slice_get bs k) (sym t.2) ∙ at)

-- The bodies of the world of an accepted text, with literals within 30 bits, are sound.
pub accepted_sound : (l : Limits) (given : List Sign) (x : g.World) (names : List (List ℕ)) (bytes : List ℕ) (w : World) → l.pending ≤ 64 → l.body ≤ 1024 → IsText (s.world l) given x →
    OfSigns IsSmall given → Worlds.built names bytes (s.items_of (s.world l x)) ≡ Ok w → (k : ℕ) (b : Body) → slice_get w.bodies k ≡ Some b → IsSound b.nodes b.places
accepted_sound l given x names bytes w lp lb is small e k b at =
    world_sound l names bytes (s.items_of (s.world l x)) w lp lb e (world_balanced l given x is) (world_integers l IsSmall given x is small) k b at
