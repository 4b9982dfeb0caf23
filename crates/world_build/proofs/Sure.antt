-- The nodes and locals of the bodies of what was read: messages are short, places are near, and the objects that they name are there.
use Rattle.std.specs.Prelude.{◌≡◌, ℕ, zero, suc, ◌+◌, ◌-◌, ◌<◌, ◌≤◌, nat_le, Bool, true, false, ◌&&◌, not, if◌then◌else◌, Option, None, Some, Ok, Err, List, [], ◌∷◌, ◌++◌, length, slice_get, slice_set, refl}
use Rattle.std.proofs.Common.{ap, sym, subst, arith, length-append}
use Rattle.std.proofs.lemmas.Grind.{common_steps}
use Rattle.self_terms.specs.declared.nodes.Node.{Node}
use Rattle.self_terms.specs.declared.nodes.Node.TheVariants as nodes
use Rattle.self_terms.specs.declared.nodes.Place.{Place}
use Rattle.self_terms.specs.declared.values.Datum.{Datum as Value}
use Rattle.self_terms.specs.declared.values.Datum.TheVariants.{Integer as integer, Object as object}
use Rattle.self_terms.specs.declared.bodies.Body.{Body}
use Rattle.self_terms.specs.declared.bodies.Local.{Local}
use Rattle.self_terms.specs.Depths.{one_if}
use Rattle.self_terms.specs.Bodies.{change_body, changed, add_node, add_argument, add_local, with_name, Entry, entries_of, sought, number_of, is_block, body_at}
use Rattle.self_grammar.specs.declared.signs.Spot.{Spot}
use Rattle.self_grammar.specs.declared.pieces.Made.{Made}
use Rattle.self_grammar.specs.declared.pieces.TextNode.{TextNode}
use Rattle.self_grammar.specs.declared.pieces.TextNode.TheVariants as text
use Rattle.self_grammar.specs.declared.pieces.Target.{Target}
use Rattle.self_grammar.specs.declared.pieces.Target.TheVariants as target
use Rattle.self_grammar.specs.declared.pieces.Words.{Words}
use Rattle.self_grammar.specs.declared.pieces.Words.TheVariants as words
use Rattle.self_grammar.specs.declared.pieces.SlotForm.{SlotForm}
use Rattle.self_grammar.specs.declared.pieces.SlotForm.TheVariants as form
use Rattle.self_grammar.specs.declared.pieces.Item.{Item}
use Rattle.self_grammar.specs.declared.pieces.Item.TheVariants as items
use Rattle.world_build.specs.declared.values.Open.{Open}
use Rattle.world_build.specs.declared.values.Open.TheVariants.{InObject as in_object, InBody as in_body}
use Rattle.world_build.specs.declared.values.Held.{Held}
use Rattle.world_build.specs.declared.values.Held.TheVariants.{Nothing as nothing, Data as value, Code as body}
use Rattle.world_build.specs.declared.slots.ToldSlot.{ToldSlot}
use Rattle.world_build.specs.declared.things.ToldThing.{ToldThing}
use Rattle.world_build.specs.declared.refusals.BuildRefusal.TheVariants.{ParentNotObject}
use Rattle.world_build.specs.declared.loading.Loading.{Loading}
use Rattle.world_build.specs.Names.{with_words, word_number}
use Rattle.world_build.specs.Loading.{place, root, further, followed, holding, is_object, innermost, body_in, opened, with_closed, with_string, at_object, slots_for, add_slots, local_for, placed_in, name_body, with_slot, may_be_parent, is_parent, argument_in, with_argument, with_waiting}
use Rattle.world_build.specs.Nodes.{or_outer, found, byte, selector, reading, storing, implied, message, node_of, beside, at_innermost, with_node, take_item}
use Rattle.world_build.proofs.Weights.{ok_same, same_innermost}
use Rattle.world_build.proofs.Keeps.{IsFew}
use Rattle.world_build.proofs.Contents.{There, HeldThere, AllThere, value_there, named_there}

-- Lists whose elements have a property.

some_same : {X : Type 0} (x y : X) → ◌≡◌ {A = Option X} (Some x) (Some y) → x ≡ y
some_same x y e = cc

each_more : {X : Type 0} (P : X → Type 0) (xs : List X) (y : X) → ((k : ℕ) (x : X) → slice_get xs k ≡ Some x → P x) → P y → (k : ℕ) (x : X) → slice_get (xs ++ y ∷ []) k ≡ Some x → P x
each_more P [] y h p zero x e = subst P (some_same y x e) p
each_more P [] y h p (suc k) x e = cc
each_more P (z ∷ xs) y h p zero x e = h 0 x e
each_more P (z ∷ xs) y h p (suc k) x e = each_more P xs y (λ j w. h (suc j) w) p k x e

each_set : {X : Type 0} (P : X → Type 0) (xs : List X) (j : ℕ) (y : X) → ((k : ℕ) (x : X) → slice_get xs k ≡ Some x → P x) → P y → (k : ℕ) (x : X) → slice_get (slice_set xs j y) k ≡ Some x → P x
each_set P [] j y h p k x e = h k x e
each_set P (z ∷ xs) zero y h p zero x e = subst P (some_same y x e) p
each_set P (z ∷ xs) zero y h p (suc k) x e = h (suc k) x e
each_set P (z ∷ xs) (suc j) y h p zero x e = h 0 x e
each_set P (z ∷ xs) (suc j) y h p (suc k) x e = each_set P xs j y (λ i w. h (suc i) w) p k x e

-- Numbers.

byte_most : (n : ℕ) → byte n ≤ n
byte_most n = by (nat_le n 255) refl
  where
    by : (b : Bool) → nat_le n 255 ≡ b → (if b then n else 255) ≤ n
    by true e = omega arith
    by false e = grind (arith, common_steps)

byte_small : (n : ℕ) → byte n < 256
byte_small n = by (nat_le n 255) refl
  where
    by : (b : Bool) → nat_le n 255 ≡ b → (if b then n else 255) < 256
    by true e = grind (arith, common_steps)
    by false e = omega arith

-- a local stands no more bodies out than are open
found_near : (p : Entry → Bool) (up : ℕ) (bodies : List Body) (os : List Open) (q : ℕ × ℕ) → found p up bodies os ≡ Some q → q.0 < up + length os
found_near p up bodies [] q e = cc
found_near p up bodies (in_object o ∷ os) q e = cc
found_near p up bodies (in_body b ∷ os) q e = by (λ f. found_near p (up + 1) bodies os q f) (number_of p 0 (entries_of bodies b)) e
  where
    by : (found p (up + 1) bodies os ≡ Some q → q.0 < up + 1 + length os) → (o : Option ℕ) → or_outer o up (found p (up + 1) bodies os) ≡ Some q → q.0 < up + suc (length os)
    by far None f = let more : q.0 < up + 1 + length os = far f in omega arith
    by far (Some i) f = let same : (up, i) ≡ q = some_same (up, i) q f in let near : up ≡ q.0 = ap (λ (x : ℕ × ℕ). x.0) same in omega arith

-- the node of an item has few arguments
abbrev pub IsShortItem : Item → Type 0
IsShortItem (items.Node m) = IsFew m.node
IsShortItem _ = Unit {0}

module _ (n : ℕ) where
  -- what a node says is short, near or there
  abbrev pub Short : Node → Type 0
  Short (nodes.Str o) = o < n
  Short (nodes.Read up slot) = (up ≤ 64) × (slot < 256)
  Short (nodes.Store up slot) = (up ≤ 64) × (slot < 256)
  Short (nodes.Send sel) = sel.args ≤ 5
  Short (nodes.SelfSend sel) = sel.args ≤ 5
  Short (nodes.Resend sel) = sel.args ≤ 5
  Short (nodes.Directed parent sel) = sel.args ≤ 5
  Short (nodes.Prim name args implied handler) = args + one_if handler ≤ 5
  Short _ = Unit {0}

  pub record Sure (b : Body) : Type 0 where
    pub nodes : (k : ℕ) (node : Node) → slice_get b.nodes k ≡ Some node → Short node
    pub locals : (k : ℕ) (x : Local) → slice_get b.locals k ≡ Some x → There n x.initial

  abbrev pub AllSure : List Body → Type 0
  AllSure bodies = (k : ℕ) (b : Body) → slice_get bodies k ≡ Some b → Sure b

  -- Nodes.

  self_short : (k args : ℕ) → args ≤ 5 → Short (nodes.SelfSend (selector k args))
  self_short k args le = let low = byte_most args in omega arith

  near_short : (os : List Open) (q : ℕ × ℕ) → length os ≤ 65 → q.0 < 0 + length os → (byte q.0 ≤ 64) × (byte q.1 < 256)
  near_short os q few lt = let low = byte_most q.0 in (omega arith, byte_small q.1)

  read_short : (p : Entry → Bool) (bodies : List Body) (os : List Open) (k : ℕ) → length os ≤ 65 → Short (reading (found p 0 bodies os) k)
  read_short p bodies os k few = by (found p 0 bodies os) refl
    where
      by : (o : Option (ℕ × ℕ)) → found p 0 bodies os ≡ o → Short (reading o k)
      by None e = self_short k 0 (omega arith)
      by (Some q) e = near_short os q few (found_near p 0 bodies os q e)

  store_short : (p : Entry → Bool) (bodies : List Body) (os : List Open) (k : ℕ) → length os ≤ 65 → Short (storing (found p 0 bodies os) k)
  store_short p bodies os k few = by (found p 0 bodies os) refl
    where
      by : (o : Option (ℕ × ℕ)) → found p 0 bodies os ≡ o → Short (storing o k)
      by None e = self_short k 1 (omega arith)
      by (Some q) e = near_short os q few (found_near p 0 bodies os q e)

  implied_short : (s : Loading) (w : Words) (k args : ℕ) → length s.around ≤ 65 → args ≤ 5 → Short (implied s w k args)
  implied_short s (words.One a) k zero few le = read_short (sought false k) s.bodies s.around k few
  implied_short s (words.One a) k (suc zero) few le = store_short (sought true k) s.bodies s.around k few
  implied_short s (words.One a) k (suc (suc j)) few le = self_short k (suc (suc j)) le
  implied_short s (words.Two a b) k args few le = self_short k args le
  implied_short s (words.Three a b c) k args few le = self_short k args le
  implied_short s (words.Four a b c d) k args few le = self_short k args le
  implied_short s (words.Five a b c d e) k args few le = self_short k args le

  message_short : (s : Loading) (to : Target) (w : Words) (k args : ℕ) → length s.around ≤ 65 → args ≤ 5 → Short (message s to w k args)
  message_short s target.Given w k args few le = let low = byte_most args in omega arith
  message_short s target.Implied w k args few le = implied_short s w k args few le
  message_short s target.Parents w k args few le = let low = byte_most args in omega arith
  message_short s (target.Parent p) w k args few le = let low = byte_most args in omega arith

  either_short : (b : Bool) → Short (if b then nodes.NonLocal else nodes.Return)
  either_short true = tt
  either_short false = tt

  node_short : (bytes : List ℕ) (s : Loading) (t : TextNode) → length s.around ≤ 65 → length (beside bytes t s).things ≤ n → IsFew t → Short (node_of s t)
  node_short bytes s (text.Integer z) few most h = tt
  node_short bytes s (text.Text i j) few most h = omega (arith, most, length-append s.things)
  node_short bytes s text.Block few most h = tt
  node_short bytes s text.Itself few most h = tt
  node_short bytes s text.Nil few most h = tt
  node_short bytes s (text.Message to w args) few most h = message_short s to w (word_number s.names w) args few h
  node_short bytes s (text.Primitive w args receiver handler) few most h = let low = byte_most args in omega arith
  node_short bytes s text.Drop few most h = tt
  node_short bytes s text.Restart few most h = tt
  node_short bytes s text.Return few most h = either_short (is_block (body_at s.bodies (body_in (innermost s.around))))
  node_short bytes s text.End few most h = tt

  -- Bodies that are changed.

  change_sure : (f : Body → Body) → ((x : Body) → Sure x → Sure (f x)) → (o : Option Body) (bodies : List Body) (j : ℕ) → slice_get bodies j ≡ o → AllSure bodies → AllSure (change_body f o bodies j)
  change_sure f g None bodies j e h = h
  change_sure f g (Some x) bodies j e h = each_set Sure bodies j (f x) h (g x (h j x e))

  changed_sure : (f : Body → Body) → ((x : Body) → Sure x → Sure (f x)) → (bodies : List Body) (b : ℕ) → AllSure bodies → AllSure (changed f bodies b)
  changed_sure f g bodies b h = change_sure f g (slice_get bodies (b - 1)) bodies (b - 1) refl h

  node_sure : (x : Node) (p : Place) → Short x → (b : Body) → Sure b → Sure (add_node x p b)
  node_sure x p short b h = record { nodes = each_more Short b.nodes x h.nodes short; locals = h.locals }

  local_sure : (x : Local) → There n x.initial → (b : Body) → Sure b → Sure (add_local x b)
  local_sure x there b h = record { nodes = h.nodes; locals = each_more (λ (y : Local). There n y.initial) b.locals x h.locals there }

  argument_sure : (k : ℕ) (b : Body) → Sure b → Sure (add_argument k b)
  argument_sure k b h = record { nodes = h.nodes; locals = h.locals }

  name_sure : (k : ℕ) (b : Body) → Sure b → Sure (with_name k b)
  name_sure k b h = record { nodes = h.nodes; locals = h.locals }

  innermost_sure : (o : Option Open) (x : Node) (p : Place) (s : Loading) → Short x → AllSure s.bodies → AllSure (at_innermost o x p s).bodies
  innermost_sure None x p s short h = h
  innermost_sure (Some (in_object o)) x p s short h = h
  innermost_sure (Some (in_body b)) x p s short h = changed_sure (add_node x p) (node_sure x p short) s.bodies b h

  beside_same : (bytes : List ℕ) (t : TextNode) (s : Loading) → (beside bytes t s).bodies ≡ s.bodies
  beside_same bytes (text.Integer z) s = refl
  beside_same bytes (text.Text a b) s = refl
  beside_same bytes text.Block s = refl
  beside_same bytes text.Itself s = refl
  beside_same bytes text.Nil s = refl
  beside_same bytes (text.Message to w args) s = refl
  beside_same bytes (text.Primitive w args implied handler) s = refl
  beside_same bytes text.Drop s = refl
  beside_same bytes text.Restart s = refl
  beside_same bytes text.Return s = refl
  beside_same bytes text.End s = refl

  made_sure : (bytes : List ℕ) (m : Made) (s : Loading) → length s.around ≤ 65 → length (with_node bytes m s).things ≤ n → IsFew m.node → AllSure s.bodies → AllSure (with_node bytes m s).bodies
  made_sure bytes m s few most short h =
      let same : (with_node bytes m s).things ≡ (beside bytes m.node s).things = same_innermost (innermost s.around) (node_of s m.node) (place m.spot) (beside bytes m.node s) in
      innermost_sure (innermost s.around) (node_of s m.node) (place m.spot) (beside bytes m.node s)
      (node_short bytes s m.node few (subst (λ (xs : List ToldThing). length xs ≤ n) same most) short)
      (subst AllSure (sym (beside_same bytes m.node s)) h)

  opened_sure : (k : Bool) (s : Loading) → AllSure s.bodies → AllSure (opened k s).bodies
  opened_sure true s h = h
  opened_sure false s h =
      each_more Sure s.bodies (record { name = None; outer = body_in (innermost s.around); arguments = s.waiting; locals = []; nodes = []; places = [] }) h (record { nodes = λ k x e. cc; locals = λ k x e. cc })

  in_argument_sure : (o : Option Open) (k : ℕ) (s : Loading) → AllSure s.bodies → AllSure (argument_in o k s).bodies
  in_argument_sure None k s h = h
  in_argument_sure (Some (in_object o)) k s h = h
  in_argument_sure (Some (in_body b)) k s h = changed_sure (add_argument k) (argument_sure k) s.bodies b h

  -- Slots.

  local_there : (k : ℕ) (f : SlotForm) (h : Held) → HeldThere n h → There n (local_for k f h).initial
  local_there k form.Constant h d = value_there n h d
  local_there k (form.Assignable setter) h d = value_there n h d
  local_there k (form.Bare setter) h d = tt
  local_there k form.Parent h d = value_there n h d
  local_there k form.Method h d = tt

  add_slots_same : (o : ℕ) (xs : List ToldSlot) (s : Loading) → (add_slots o xs s).bodies ≡ s.bodies
  add_slots_same o [] s = refl
  add_slots_same o (x ∷ xs) s = add_slots_same o xs (at_object o x s)

  placed_sure : (o : Option Open) (k : ℕ) (f : SlotForm) (s : Loading) → HeldThere n s.held → AllSure s.bodies → AllSure (placed_in o k f s).bodies
  placed_sure None k f s d h = h
  placed_sure (Some (in_object o)) k f s d h = subst AllSure (sym (add_slots_same o (slots_for k f s.held) s)) h
  placed_sure (Some (in_body b)) k f s d h = changed_sure (add_local (local_for k f s.held)) (local_sure (local_for k f s.held) (local_there k f s.held d)) s.bodies b h

  named_sure : (x : Held) (k : ℕ) (f : SlotForm) (s : Loading) → AllSure s.bodies → AllSure (name_body x k f s).bodies
  named_sure nothing k f s h = h
  named_sure (value v) k f s h = h
  named_sure (body b) k form.Method s h = changed_sure (with_name k) (name_sure k) s.bodies b h
  named_sure (body b) k form.Constant s h = h
  named_sure (body b) k (form.Assignable setter) s h = h
  named_sure (body b) k (form.Bare setter) s h = h
  named_sure (body b) k form.Parent s h = h

  slot_sure : (k : ℕ) (f : SlotForm) (s : Loading) → AllThere n s → AllSure s.bodies → AllSure (with_slot k f s).bodies
  slot_sure k f s d h = placed_sure (innermost s.around) k f (name_body s.held k f s) (named_there n s.held k f s d).0.held (named_sure s.held k f s h)

  -- Each item.

  followed_same : (s u : Loading) (p : Spot) (o : Option Value) → followed s p o ≡ Ok u → s.bodies ≡ u.bodies
  followed_same s u p None e = cc
  followed_same s u p (Some v) e = ap (λ (t : Loading). t.bodies) (ok_same (holding s v) u e)

  ended_is : (s u : Loading) (p : Spot) (b : Bool) → (if b then Err (ParentNotObject (place p)) else Ok s) ≡ Ok u → s ≡ u
  ended_is s u p true e = cc
  ended_is s u p false e = ok_same s u e

  pub step_sure : (bytes : List ℕ) (i : Item) (rest : List Item) (s u : Loading) → length s.around ≤ 65 → length u.things ≤ n → AllThere n s → IsShortItem i → AllSure s.bodies → take_item bytes i rest s ≡ Ok u → AllSure u.bodies
  step_sure bytes (items.Node m) rest s u few most d short h e =
      let same = ok_same (with_node bytes m s) u e in
      subst (λ (t : Loading). AllSure t.bodies) same (made_sure bytes m s few (subst (λ (t : Loading). length t.things ≤ n) (sym same) most) short h)
  step_sure bytes (items.Opened p) rest s u few most d short h e = subst (λ (t : Loading). AllSure t.bodies) (ok_same (opened (is_object 0 rest) s) u e) (opened_sure (is_object 0 rest) s h)
  step_sure bytes items.ClosedObject rest s u few most d short h e = subst (λ (t : Loading). AllSure t.bodies) (ok_same (with_closed s) u e) h
  step_sure bytes items.ClosedBody rest s u few most d short h e = subst (λ (t : Loading). AllSure t.bodies) (ok_same (with_closed s) u e) h
  step_sure bytes (items.Integer z) rest s u few most d short h e = subst (λ (t : Loading). AllSure t.bodies) (ok_same (holding s (integer z)) u e) h
  step_sure bytes (items.Text a b) rest s u few most d short h e = subst (λ (t : Loading). AllSure t.bodies) (ok_same (holding (with_string bytes a b s) (object (length s.things))) u e) h
  step_sure bytes (items.Root x p) rest s u few most d short h e = subst AllSure (followed_same s u p (root s x) e) h
  step_sure bytes (items.Further x p) rest s u few most d short h e = subst AllSure (followed_same s u p (further s s.held x) e) h
  step_sure bytes (items.Argument x) rest s u few most d short h e = subst (λ (t : Loading). AllSure t.bodies) (ok_same (with_argument x s) u e) (in_argument_sure (innermost s.around) x s h)
  step_sure bytes (items.Named x) rest s u few most d short h e = subst (λ (t : Loading). AllSure t.bodies) (ok_same (with_waiting x s) u e) h
  step_sure bytes (items.Slot w f p) rest s u few most d short h e =
      let t : Loading = record s { names = with_words s.names w } in
      subst (λ (v : Loading). AllSure v.bodies) (ended_is (with_slot (word_number s.names w) f t) u p (is_parent f && not (may_be_parent s s.held)) e)
      (slot_sure (word_number s.names w) f t (record { things = d.things; held = d.held; around = d.around }) h)
