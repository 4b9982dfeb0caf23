-- The bodies of the world of items that are right: what their nodes name is there, and each message has as many arguments as its name says.
use Rattle.std.specs.Prelude.{◌≡◌, ℕ, zero, suc, ◌+◌, ◌-◌, ◌<◌, ◌≤◌, nat_le, Bool, true, false, ◌&&◌, not, if◌then◌else◌, Option, None, Some, Ok, List, [], ◌∷◌, ◌++◌, length, map, slice_get, slice_set, unwrap_or, refl}
use Rattle.std.proofs.Common.{ap, sym, subst, ◌∙◌, inl, inr, arith, length-append}
use Rattle.std.proofs.lemmas.Grind.{common_steps}
use Rattle.std.proofs.lemmas.List.{length-map}
use Rattle.std.proofs.lemmas.Option.{slice_get_within}
use Rattle.self_terms.specs.declared.nodes.Node.{Node}
use Rattle.self_terms.specs.declared.nodes.Node.TheVariants as nodes
use Rattle.self_terms.specs.declared.nodes.Place.{Place}
use Rattle.self_terms.specs.declared.values.Datum.{Datum as Value}
use Rattle.self_terms.specs.declared.values.Datum.TheVariants.{Integer as integer, Object as object}
use Rattle.self_terms.specs.declared.bodies.Body.{Body}
use Rattle.self_terms.specs.declared.bodies.Local.{Local}
use Rattle.self_terms.specs.Names.{text_of}
use Rattle.self_terms.specs.Bodies.{change_body, changed, add_node, add_argument, add_local, with_name, Entry, argument_entry, local_entry, entries, entries_at, entries_of, sought, number_of, is_block, body_at}
use Rattle.self_grammar.specs.declared.signs.Spot.{Spot}
use Rattle.self_grammar.specs.declared.pieces.Made.{Made}
use Rattle.self_grammar.specs.declared.pieces.Target.{Target}
use Rattle.self_grammar.specs.declared.pieces.Target.TheVariants as target
use Rattle.self_grammar.specs.declared.pieces.Words.{Words}
use Rattle.self_grammar.specs.declared.pieces.Words.TheVariants as words
use Rattle.self_grammar.specs.declared.pieces.TextNode.{TextNode}
use Rattle.self_grammar.specs.declared.pieces.TextNode.TheVariants as text
use Rattle.self_grammar.specs.declared.pieces.SlotForm.{SlotForm}
use Rattle.self_grammar.specs.declared.pieces.SlotForm.TheVariants as form
use Rattle.self_grammar.specs.declared.pieces.Item.{Item}
use Rattle.self_grammar.specs.declared.pieces.Item.TheVariants as items
use Rattle.self_grammar.specs.Parts.{parts_in}
use Rattle.source_model.specs.Names.{text_named}
use Rattle.source_model.specs.Soundness as source
use Rattle.source_model.specs.Soundness.{HasBody, room, around, HasLocal, Names, HasOuter}
use Rattle.source_model.specs.Formed.{arity, Takes, HasText}
use Rattle.world_build.specs.declared.values.Open.{Open}
use Rattle.world_build.specs.declared.values.Open.TheVariants.{InObject as in_object, InBody as in_body}
use Rattle.world_build.specs.declared.values.Held.{Held}
use Rattle.world_build.specs.declared.values.Held.TheVariants.{Nothing as nothing, Data as value, Code as body}
use Rattle.world_build.specs.declared.slots.ToldSlot.{ToldSlot}
use Rattle.world_build.specs.declared.loading.Loading.{Loading}
use Rattle.world_build.specs.Names.{joined, with_words, word_number}
use Rattle.world_build.specs.Loading.{begun, place, root, further, followed, holding, is_object, innermost, body_in, opened, with_body, closed, with_closed, with_string, at_object, slots_for, add_slots, local_for, placed_in, name_body, with_slot, may_be_parent, is_parent, argument_in, with_argument, with_waiting}
use Rattle.world_build.specs.Nodes.{or_outer, found, byte, selector, reading, storing, implied, message, node_of, beside, at_innermost, with_node, take_item}
use Rattle.world_build.specs.Nodes
use Rattle.world_build.proofs.Weights.{ok_same, ok_bound}
use Rattle.world_build.proofs.Standing.{in_append, get_last, in_set, get_set}
use Rattle.world_build.proofs.Orders.{AllGiven, TargetFits, NodeStands, OpensBody, Frame, frame, argued, slotted, outer, given_by, Keeps}
use Rattle.world_build.proofs.Given.{own_in, spelt}
use Rattle.world_build.proofs.Grown.{Extends, extends_then, extends_words, extends_world, Grow, Later, later_then, step_later, loaded_later, ended_is}

-- Names.

get_kept : {X : Type 0} (xs ys : List X) (i : ℕ) (x : X) → slice_get xs i ≡ Some x → slice_get (xs ++ ys) i ≡ Some x
get_kept [] ys i x e = cc
get_kept (z ∷ xs) ys zero x e = e
get_kept (z ∷ xs) ys (suc i) x e = get_kept xs ys i x e

pub text_kept : (old new : List (List ℕ)) (n : ℕ) (t : List ℕ) → Extends old new → text_of old n ≡ Some t → text_of new n ≡ Some t
text_kept old new zero t h e = cc
text_kept old new (suc n) t h e = ap (λ names. slice_get names n) h.is ∙ get_kept old h.more n t e

named_kept : (old new : List (List ℕ)) (n : ℕ) → Extends old new → HasText old n → text_named new n ≡ text_named old n
named_kept old new n h t = ap (λ o. unwrap_or o []) (text_kept old new n t.0 h t.1 ∙ sym t.1)

pub joined_kept : (old new : List (List ℕ)) (ps : List ℕ) → Extends old new → AllGiven old ps → joined new ps ≡ joined old ps
joined_kept old new [] h g = refl
joined_kept old new (p ∷ ps) h g = ap (λ t. t ++ joined new ps) (named_kept old new p h g.0) ∙ ap (λ t. text_named old p ++ t) (joined_kept old new ps h g.1)

-- a name in parts has their texts
pub word_text : (old names : List (List ℕ)) (w : Words) → Extends (with_words old w) names → text_of names (word_number old w) ≡ Some (joined old (parts_in w))
word_text old names w h = text_kept (with_words old w) names (word_number old w) (joined old (parts_in w)) h (spelt (with_words old w) (joined old (parts_in w)) (own_in old (joined old (parts_in w)))).given

pub word_takes : (first old names : List (List ℕ)) (w : Words) (args : ℕ) → Extends first old → Extends (with_words old w) names → AllGiven first (parts_in w) → arity (joined first (parts_in w)) ≡ args → Takes names (word_number old w) args
word_takes first old names w args h k g a = record {
  text = joined old (parts_in w);
  given = word_text old names w k;
  arguments = ap arity (joined_kept first old (parts_in w) h g) ∙ a;
}

-- Numbers.

byte_most : (n : ℕ) → byte n ≤ n
byte_most n = by (nat_le n 255) refl
  where
    by : (b : Bool) → nat_le n 255 ≡ b → (if b then n else 255) ≤ n
    by true e = omega arith
    by false e = grind (arith, common_steps)

byte_same : (n : ℕ) → n ≤ 255 → byte n ≡ n
byte_same n le = by (nat_le n 255) refl
  where
    by : (b : Bool) → nat_le n 255 ≡ b → (if b then n else 255) ≡ n
    by true e = refl
    by false e = grind (arith, common_steps)

-- Bodies by their numbers.

pub body_found : (bodies : List Body) (b : ℕ) (x : Body) → slice_get bodies (b - 1) ≡ Some x → source.body_in bodies b ≡ x
body_found bodies b x e = ap (λ o. unwrap_or o (record { name = None; outer = None; arguments = []; locals = []; nodes = []; places = [] })) e

around_none : (bodies : List Body) (up : ℕ) → around bodies up None ≡ None
around_none bodies zero = refl
around_none bodies (suc up) = around_none bodies up

local_here : (os : List Open) (bs cs : List Body) → Grow os bs cs → (slot n : ℕ) → HasLocal bs slot (Some n) → HasLocal cs slot (Some n)
local_here os bs cs g slot n h = by (slice_get bs (n - 1)) refl h
  where
    by : (o : Option Body) → slice_get bs (n - 1) ≡ o → slot < room (unwrap_or o (record { name = None; outer = None; arguments = []; locals = []; nodes = []; places = [] })) → slot < room (source.body_in cs n)
    by None e lt = absurd (omega arith)
    by (Some x) e lt =
        let y = g (n - 1) x e in
        let more : room x ≤ room y.now = y.grown.room in
        let here : source.body_in cs n ≡ y.now = body_found cs n y.now y.at in
        subst (λ z. slot < room z) (sym here) (omega arith)

local_kept : (os : List Open) (bs cs : List Body) → Grow os bs cs → (slot up : ℕ) (o : Option ℕ) → HasLocal bs slot (around bs up o) → HasLocal cs slot (around cs up o)
local_kept os bs cs g slot zero None h = absurd h
local_kept os bs cs g slot zero (Some n) h = local_here os bs cs g slot n h
local_kept os bs cs g slot (suc up) None h = local_kept os bs cs g slot up None h
local_kept os bs cs g slot (suc up) (Some n) h = local_out os bs cs g slot up n (local_kept os bs cs g slot up) h
  where
    local_out : (os : List Open) (bs cs : List Body) → Grow os bs cs → (slot up n : ℕ) → ((o : Option ℕ) → HasLocal bs slot (around bs up o) → HasLocal cs slot (around cs up o)) →
        HasLocal bs slot (around bs up (source.body_in bs n).outer) → HasLocal cs slot (around cs up (source.body_in cs n).outer)
    local_out os bs cs g slot up n far h = by (slice_get bs (n - 1)) refl h
      where
        by : (o : Option Body) → slice_get bs (n - 1) ≡ o → HasLocal bs slot (around bs up (unwrap_or o (record { name = None; outer = None; arguments = []; locals = []; nodes = []; places = [] })).outer) →
            HasLocal cs slot (around cs up (source.body_in cs n).outer)
        by None e l = absurd (subst (λ o. HasLocal bs slot o) (around_none bs up) l)
        by (Some x) e l =
            let y = g (n - 1) x e in
            let here : source.body_in cs n ≡ y.now = body_found cs n y.now y.at in
            subst (λ o. HasLocal cs slot (around cs up o)) (sym (ap (λ (z : Body). z.outer) here ∙ y.grown.outer)) (far x.outer l)

local_less : (bs : List Body) (j k : ℕ) (o : Option ℕ) → j ≤ k → HasLocal bs k o → HasLocal bs j o
local_less bs j k None le h = absurd h
local_less bs j k (Some n) le h = omega arith

-- What is open.
pub record OpenBody (bodies : List Body) (b : ℕ) (os : List Open) : Type 0 where
  pub given : 0 < b
  pub there : Body
  pub at : slice_get bodies (b - 1) ≡ Some there
  pub outer : there.outer ≡ body_in (innermost os)

abbrev pub Opens : List Body → List Open → Type 0
Opens bodies [] = Unit {0}
Opens bodies (in_object o ∷ os) = Opens bodies os
Opens bodies (in_body b ∷ os) = OpenBody bodies b os × Opens bodies os

opens_kept : (around : List Open) (bs cs : List Body) → Grow around bs cs → (os : List Open) → Opens bs os → Opens cs os
opens_kept around bs cs g [] h = tt
opens_kept around bs cs g (in_object o ∷ os) h = opens_kept around bs cs g os h
opens_kept around bs cs g (in_body b ∷ os) h =
    let y = g (b - 1) h.0.there h.0.at in
    (record { given = h.0.given; there = y.now; at = y.at; outer = y.grown.outer ∙ h.0.outer }, opens_kept around bs cs g os h.1)

-- Locals that are found.

entries_room : (x : Body) → length (entries x) ≡ room x
entries_room x =
    let all = length-append (map argument_entry x.arguments) (map local_entry x.locals) in
    let front = length-map x.arguments argument_entry in
    let back = length-map x.locals local_entry in
    omega arith

number_within : (p : Entry → Bool) (i : ℕ) (es : List Entry) (k : ℕ) → number_of p i es ≡ Some k → k < i + length es
number_within p i [] k e = cc
number_within p i (x ∷ es) k e = by (p x) e (number_within p (i + 1) es k)
  where
    by : (b : Bool) → (if b then Some i else number_of p (i + 1) es) ≡ Some k → (number_of p (i + 1) es ≡ Some k → k < i + 1 + length es) → k < i + suc (length es)
    by true f far = let same : i ≡ k = cc in omega arith
    by false f far = let more : k < i + 1 + length es = far f in omega arith

entry_local : (p : Entry → Bool) (bodies : List Body) (b k : ℕ) → number_of p 0 (entries_of bodies b) ≡ Some k → HasLocal bodies k (Some b)
entry_local p bodies b k e = by (slice_get bodies (b - 1)) refl e
  where
    by : (o : Option Body) → slice_get bodies (b - 1) ≡ o → number_of p 0 (entries_at o) ≡ Some k → k < room (source.body_in bodies b)
    by None f n = cc
    by (Some x) f n =
        let low : k < 0 + length (entries x) = number_within p 0 (entries x) k n in
        let size : length (entries x) ≡ room x = entries_room x in
        subst (λ z. k < room z) (sym (body_found bodies b x f)) (omega arith)

-- a local that was found, so many bodies out
record FoundLocal (bodies : List Body) (os : List Open) (up : ℕ) (q : ℕ × ℕ) : Type 0 where
  out : ℕ
  up_is : q.0 ≡ up + out
  near : out < length os
  there : HasLocal bodies q.1 (around bodies out (body_in (innermost os)))

pair_same : (x y : ℕ × ℕ) → ◌≡◌ {A = Option (ℕ × ℕ)} (Some x) (Some y) → x ≡ y
pair_same x y e = cc

found_local : (p : Entry → Bool) (up : ℕ) (bodies : List Body) (os : List Open) (q : ℕ × ℕ) → Opens bodies os → found p up bodies os ≡ Some q → FoundLocal bodies os up q
found_local p up bodies [] q h e = cc
found_local p up bodies (in_object o ∷ os) q h e = cc
found_local p up bodies (in_body b ∷ os) q h e = by (number_of p 0 (entries_of bodies b)) refl e (found_local p (up + 1) bodies os q h.1)
  where
    by : (o : Option ℕ) → number_of p 0 (entries_of bodies b) ≡ o → or_outer o up (found p (up + 1) bodies os) ≡ Some q → (found p (up + 1) bodies os ≡ Some q → FoundLocal bodies os (up + 1) q) → FoundLocal bodies (in_body b ∷ os) up q
    by None n f far =
        let r = far f in
        let more : q.0 ≡ up + 1 + r.out = r.up_is in
        let less : r.out < length os = r.near in
        let step : (source.body_in bodies b).outer ≡ body_in (innermost os) = ap (λ (z : Body). z.outer) (body_found bodies b h.0.there h.0.at) ∙ h.0.outer in
        record { out = suc r.out; up_is = omega arith; near = omega arith; there = subst (λ o. HasLocal bodies q.1 (around bodies r.out o)) (sym step) r.there }
    by (Some i) n f far =
        let same : (up, i) ≡ q = pair_same (up, i) q f in
        let here : HasLocal bodies i (Some b) = entry_local p bodies b i n in
        record {
          out = 0;
          up_is = (let first : up ≡ q.0 = ap (λ (x : ℕ × ℕ). x.0) same in omega arith);
          near = omega arith;
          there = subst (λ (x : ℕ × ℕ). HasLocal bodies x.1 (Some b)) same here;
        }

-- What a node says of names.
abbrev pub Said : List (List ℕ) → Node → Type 0
Said names (nodes.Send sel) = Takes names sel.name.0 sel.args
Said names (nodes.SelfSend sel) = Takes names sel.name.0 sel.args
Said names (nodes.Resend sel) = Takes names sel.name.0 sel.args
Said names (nodes.Directed parent sel) = HasText names parent.0 × Takes names sel.name.0 sel.args
Said names (nodes.Prim name args implied handler) = HasText names name.0
Said names _ = Unit {0}

-- what a body's node names, and what it says
abbrev pub NodeOk : List (List ℕ) → List Body → ℕ → Node → Type 0
NodeOk names bodies n node = Names bodies n node × Said names node

pub record BodyOk (names : List (List ℕ)) (bodies : List Body) (i : ℕ) (x : Body) : Type 0 where
  pub nodes : (j : ℕ) (node : Node) → slice_get x.nodes j ≡ Some node → NodeOk names bodies (i + 1) node
  pub outer : HasOuter bodies x.outer

abbrev pub AllOk : List (List ℕ) → List Body → List Body → Type 0
AllOk names bodies xs = (i : ℕ) (x : Body) → slice_get xs i ≡ Some x → BodyOk names bodies i x

same_body : (x y : Body) → ◌≡◌ {A = Option Body} (Some x) (Some y) → x ≡ y
same_body x y e = cc

-- Bodies that are changed.

module _ (names : List (List ℕ)) (bodies : List Body) where
  change_ok : (f : Body → Body) (o : Option Body) (xs : List Body) (j : ℕ) → slice_get xs j ≡ o → ((x : Body) → BodyOk names bodies j x → BodyOk names bodies j (f x)) → AllOk names bodies xs → AllOk names bodies (change_body f o xs j)
  change_ok f None xs j e g h = h
  change_ok f (Some x) xs j e g h = λ i y at.
      elim (in_set xs j i y (f x) at) [
        | inl a ↦ h i y a
        | inr same ↦
            let here : slice_get (slice_set xs j (f x)) i ≡ Some (f x) = ap (λ k. slice_get (slice_set xs j (f x)) k) (sym same) ∙ get_set xs j x (f x) e in
            subst (λ z. BodyOk names bodies i z) (same_body (f x) y (sym here ∙ at)) (subst (λ k. BodyOk names bodies k (f x)) same (g x (h j x e)))
      ]

  changed_ok : (f : Body → Body) (xs : List Body) (b : ℕ) → ((x : Body) → BodyOk names bodies (b - 1) x → BodyOk names bodies (b - 1) (f x)) → AllOk names bodies xs → AllOk names bodies (changed f xs b)
  changed_ok f xs b g h = change_ok f (slice_get xs (b - 1)) xs (b - 1) refl g h

  each_more : (i : ℕ) (xs : List Node) (y : Node) → ((k : ℕ) (x : Node) → slice_get xs k ≡ Some x → NodeOk names bodies i x) → NodeOk names bodies i y → (k : ℕ) (x : Node) → slice_get (xs ++ y ∷ []) k ≡ Some x → NodeOk names bodies i x
  each_more i xs y h p k x e =
      elim (in_append xs y k x e) [
        | inl a ↦ h k x a
        | inr same ↦
            let here : slice_get (xs ++ y ∷ []) k ≡ Some y = ap (λ j. slice_get (xs ++ y ∷ []) j) same ∙ get_last xs y in
            let is : Some y ≡ Some x = sym here ∙ e in
            subst (λ z. NodeOk names bodies i z) (node_same y x is) p
      ]
    where
      node_same : (x y : Node) → ◌≡◌ {A = Option Node} (Some x) (Some y) → x ≡ y
      node_same x y e = cc

  node_ok : (b : ℕ) (n : Node) (p : Place) → 0 < b → NodeOk names bodies b n → (x : Body) → BodyOk names bodies (b - 1) x → BodyOk names bodies (b - 1) (add_node n p x)
  node_ok b n p some ok x h =
      let e : b ≡ b - 1 + 1 = omega arith in
      record { nodes = each_more (b - 1 + 1) x.nodes n h.nodes (subst (λ k. NodeOk names bodies k n) e ok); outer = h.outer }

  local_ok : (i : ℕ) (y : Local) (x : Body) → BodyOk names bodies i x → BodyOk names bodies i (add_local y x)
  local_ok i y x h = record { nodes = h.nodes; outer = h.outer }

  argument_ok : (i n : ℕ) (x : Body) → BodyOk names bodies i x → BodyOk names bodies i (add_argument n x)
  argument_ok i n x h = record { nodes = h.nodes; outer = h.outer }

  name_ok : (i n : ℕ) (x : Body) → BodyOk names bodies i x → BodyOk names bodies i (with_name n x)
  name_ok i n x h = record { nodes = h.nodes; outer = h.outer }

  innermost_ok : (os : List Open) (n : Node) (p : Place) (s : Loading) → Opens s.bodies os → ((b : ℕ) (more : List Open) → os ≡ in_body b ∷ more → NodeOk names bodies b n) → AllOk names bodies s.bodies →
      AllOk names bodies (at_innermost (innermost os) n p s).bodies
  innermost_ok [] n p s o ok h = h
  innermost_ok (in_object x ∷ os) n p s o ok h = h
  innermost_ok (in_body b ∷ os) n p s o ok h = changed_ok (add_node n p) s.bodies b (node_ok b n p o.0.given (ok b os refl)) h

  in_argument_ok : (o : Option Open) (n : ℕ) (s : Loading) → AllOk names bodies s.bodies → AllOk names bodies (argument_in o n s).bodies
  in_argument_ok None n s h = h
  in_argument_ok (Some (in_object o)) n s h = h
  in_argument_ok (Some (in_body b)) n s h = changed_ok (add_argument n) s.bodies b (argument_ok (b - 1) n) h

  placed_ok : (o : Option Open) (n : ℕ) (f : SlotForm) (s : Loading) → AllOk names bodies s.bodies → AllOk names bodies (placed_in o n f s).bodies
  placed_ok None n f s h = h
  placed_ok (Some (in_object o)) n f s h = subst (AllOk names bodies) (sym (same o (slots_for n f s.held) s)) h
    where
      same : (o : ℕ) (xs : List ToldSlot) (s : Loading) → (add_slots o xs s).bodies ≡ s.bodies
      same o [] s = refl
      same o (x ∷ xs) s = same o xs (at_object o x s)
  placed_ok (Some (in_body b)) n f s h = changed_ok (add_local (local_for n f s.held)) s.bodies b (local_ok (b - 1) (local_for n f s.held)) h

  named_ok : (x : Held) (n : ℕ) (f : SlotForm) (s : Loading) → AllOk names bodies s.bodies → AllOk names bodies (name_body x n f s).bodies
  named_ok nothing n f s h = h
  named_ok (value v) n f s h = h
  named_ok (body b) n form.Method s h = changed_ok (with_name n) s.bodies b (name_ok (b - 1) n) h
  named_ok (body b) n form.Constant s h = h
  named_ok (body b) n (form.Assignable setter) s h = h
  named_ok (body b) n (form.Bare setter) s h = h
  named_ok (body b) n form.Parent s h = h

-- What is open stays so.

pub placed_around : (o : Option Open) (n : ℕ) (f : SlotForm) (s : Loading) → (placed_in o n f s).around ≡ s.around
placed_around None n f s = refl
placed_around (Some (in_object o)) n f s = same o (slots_for n f s.held) s
  where
    same : (o : ℕ) (xs : List ToldSlot) (s : Loading) → (add_slots o xs s).around ≡ s.around
    same o [] s = refl
    same o (x ∷ xs) s = same o xs (at_object o x s)
placed_around (Some (in_body b)) n f s = refl

pub name_around : (h : Held) (n : ℕ) (f : SlotForm) (s : Loading) → (name_body h n f s).around ≡ s.around
name_around nothing n f s = refl
name_around (value v) n f s = refl
name_around (body b) n form.Method s = refl
name_around (body b) n form.Constant s = refl
name_around (body b) n (form.Assignable a) s = refl
name_around (body b) n (form.Bare a) s = refl
name_around (body b) n form.Parent s = refl

pub argument_around : (o : Option Open) (n : ℕ) (s : Loading) → (argument_in o n s).around ≡ s.around
argument_around None n s = refl
argument_around (Some (in_object o)) n s = refl
argument_around (Some (in_body b)) n s = refl

innermost_around : (o : Option Open) (n : Node) (p : Place) (s : Loading) → (at_innermost o n p s).around ≡ s.around
innermost_around None n p s = refl
innermost_around (Some (in_object o)) n p s = refl
innermost_around (Some (in_body b)) n p s = refl

record Beside (s u : Loading) : Type 0 where
  bodies : u.bodies ≡ s.bodies
  around : u.around ≡ s.around

beside_same : (bytes : List ℕ) (t : TextNode) (s : Loading) → Beside s (beside bytes t s)
beside_same bytes (text.Integer z) s = record { bodies = refl; around = refl }
beside_same bytes (text.Text a b) s = record { bodies = refl; around = refl }
beside_same bytes text.Block s = record { bodies = refl; around = refl }
beside_same bytes text.Itself s = record { bodies = refl; around = refl }
beside_same bytes text.Nil s = record { bodies = refl; around = refl }
beside_same bytes (text.Message to w args) s = record { bodies = refl; around = refl }
beside_same bytes (text.Primitive w args implied handler) s = record { bodies = refl; around = refl }
beside_same bytes text.Drop s = record { bodies = refl; around = refl }
beside_same bytes text.Restart s = record { bodies = refl; around = refl }
beside_same bytes text.Return s = record { bodies = refl; around = refl }
beside_same bytes text.End s = record { bodies = refl; around = refl }

pub node_around : (bytes : List ℕ) (m : Made) (s : Loading) → (with_node bytes m s).around ≡ s.around
node_around bytes m s = innermost_around (innermost s.around) (node_of s m.node) (place m.spot) (beside bytes m.node s) ∙ (beside_same bytes m.node s).around

pub slot_around : (n : ℕ) (f : SlotForm) (s : Loading) → (with_slot n f s).around ≡ s.around
slot_around n f s = placed_around (innermost s.around) n f (name_body s.held n f s) ∙ name_around s.held n f s

-- Up to the last item.
module _ (first names : List (List ℕ)) (bytes : List ℕ) (t : Loading) (end : Extends t.names names) where
  -- Nodes.

  abbrev Fine : ℕ → Node → Type 0
  Fine b n = NodeOk names t.bodies b n

  takes_few : (n args : ℕ) → args ≤ 5 → Takes names n args → Takes names n (byte args)
  takes_few n args le h = subst (λ k. Takes names n k) (sym (byte_same args (omega arith))) h

  module _ (s : Loading) (later : Later s t) (opens : Opens s.bodies s.around) (few : length s.around ≤ 65) (b : ℕ) (more : List Open) (is : s.around ≡ in_body b ∷ more) where
    local_fine : (p : Entry → Bool) (q : ℕ × ℕ) → found p 0 s.bodies s.around ≡ Some q → HasLocal t.bodies (byte q.1) (around t.bodies (byte q.0) (Some b))
    local_fine p q e =
        let r = found_local p 0 s.bodies s.around q opens e in
        let low : byte q.1 ≤ q.1 = byte_most q.1 in
        let near : r.out < length s.around = r.near in
        let up : q.0 ≡ 0 + r.out = r.up_is in
        let same : r.out ≡ byte q.0 = (let k = byte_same q.0 (omega arith) in omega arith) in
        let here : body_in (innermost s.around) ≡ Some b = ap (λ os. body_in (innermost os)) is in
        local_less t.bodies (byte q.1) q.1 (around t.bodies (byte q.0) (Some b)) low
        (subst (λ k. HasLocal t.bodies q.1 (around t.bodies k (Some b))) same
        (subst (λ o. HasLocal t.bodies q.1 (around t.bodies r.out o)) here (local_kept s.around s.bodies t.bodies later.bodies q.1 r.out (body_in (innermost s.around)) r.there)))

    read_fine : (p : Entry → Bool) (n : ℕ) → Takes names n 0 → Fine b (reading (found p 0 s.bodies s.around) n)
    read_fine p n h = by (found p 0 s.bodies s.around) refl
      where
        by : (o : Option (ℕ × ℕ)) → found p 0 s.bodies s.around ≡ o → Fine b (reading o n)
        by None e = (tt, h)
        by (Some q) e = (local_fine p q e, tt)

    store_fine : (p : Entry → Bool) (n : ℕ) → Takes names n 1 → Fine b (storing (found p 0 s.bodies s.around) n)
    store_fine p n h = by (found p 0 s.bodies s.around) refl
      where
        by : (o : Option (ℕ × ℕ)) → found p 0 s.bodies s.around ≡ o → Fine b (storing o n)
        by None e = (tt, h)
        by (Some q) e = (local_fine p q e, tt)

    implied_fine : (w : Words) (n args : ℕ) → args ≤ 5 → Takes names n args → Fine b (implied s w n args)
    implied_fine (words.One a) n zero le h = read_fine (sought false n) n h
    implied_fine (words.One a) n (suc zero) le h = store_fine (sought true n) n h
    implied_fine (words.One a) n (suc (suc j)) le h = (tt, takes_few n (suc (suc j)) le h)
    implied_fine (words.Two a c) n args le h = (tt, takes_few n args le h)
    implied_fine (words.Three a c d) n args le h = (tt, takes_few n args le h)
    implied_fine (words.Four a c d e) n args le h = (tt, takes_few n args le h)
    implied_fine (words.Five a c d e f) n args le h = (tt, takes_few n args le h)

    message_fine : (to : Target) (w : Words) (n args : ℕ) → TargetFits names to → args ≤ 5 → Takes names n args → Fine b (message s to w n args)
    message_fine target.Given w n args o le h = (tt, takes_few n args le h)
    message_fine target.Implied w n args o le h = implied_fine w n args le h
    message_fine target.Parents w n args o le h = (tt, takes_few n args le h)
    message_fine (target.Parent p) w n args o le h = (tt, (o, takes_few n args le h))

    either_fine : (y : Bool) → Fine b (if y then nodes.NonLocal else nodes.Return)
    either_fine true = (tt, tt)
    either_fine false = (tt, tt)

    target_kept : (to : Target) → Extends first names → TargetFits first to → TargetFits names to
    target_kept target.Given h o = tt
    target_kept target.Implied h o = tt
    target_kept target.Parents h o = tt
    target_kept (target.Parent p) h o = (o.0, text_kept first names p o.0 h o.1)

    node_fine : (n : TextNode) (rest : List Item) → NodeStands first n rest → Extends first s.names → Extends (beside bytes n s).names names →
        (OpensBody rest → n ≡ text.Block → Names t.bodies b (nodes.BlockLit (record { 0 = length s.bodies + 1 }))) → Fine b (node_of s n)
    node_fine (text.Integer z) rest h f e block = (tt, tt)
    node_fine (text.Text i j) rest h f e block = (tt, tt)
    node_fine text.Block rest h f e block = (block h refl, tt)
    node_fine text.Itself rest h f e block = (tt, tt)
    node_fine text.Nil rest h f e block = (tt, tt)
    node_fine (text.Message to w args) rest h f e block =
        message_fine to w (word_number s.names w) args (target_kept to (extends_then first (with_words s.names w) names (extends_then first s.names (with_words s.names w) f (extends_words s.names w)) e) h.0) h.1.few
        (word_takes first s.names names w args f e h.1.given h.1.arity)
    node_fine (text.Primitive w args receiver handler) rest h f e block = (tt, (joined s.names (parts_in w), word_text s.names names w e))
    node_fine text.Drop rest h f e block = (tt, tt)
    node_fine text.Restart rest h f e block = (tt, tt)
    node_fine text.Return rest h f e block = either_fine (is_block (body_at s.bodies (body_in (innermost s.around))))
    node_fine text.End rest h f e block = (tt, tt)

  -- What is so before each item.
  record Code (es : List Frame) (s : Loading) : Type 0 where
    opens : Opens s.bodies s.around
    depth : length s.around ≡ length es
    few : length es ≤ 65
    bodies : AllOk names t.bodies s.bodies
    known : Extends first s.names

  kept_code : (es fs : List Frame) (s u : Loading) → Code es s → Later s u → u.around ≡ s.around → length fs ≡ length es → AllOk names t.bodies u.bodies → Code fs u
  kept_code es fs s u h l a d ok = record {
    opens = opens_kept s.around s.bodies u.bodies l.bodies u.around (subst (λ os. Opens s.bodies os) (sym a) h.opens);
    depth = ap length a ∙ h.depth ∙ sym d;
    few = (let low : length es ≤ 65 = h.few in omega arith);
    bodies = ok;
    known = extends_then first s.names u.names h.known l.names;
  }

  -- a block literal's body is the next one
  block_named : (p : Spot) (rest : List Item) (u : Loading) (b : ℕ) (more : List Open) → u.around ≡ in_body b ∷ more → is_object 0 rest ≡ false → Nodes.loaded bytes (items.Opened p ∷ rest) u ≡ Ok t →
      Names t.bodies b (nodes.BlockLit (record { 0 = length u.bodies + 1 }))
  unfolding Nodes.loaded
  block_named p rest u b more is k e =
      let down : Nodes.loaded bytes rest (with_body u) ≡ Ok t = ap (λ o. Nodes.loaded bytes rest (opened o u)) (sym k) ∙ e in
      let l = loaded_later bytes rest (with_body u) t down in
      let new : Body = record { name = None; outer = body_in (innermost u.around); arguments = u.waiting; locals = []; nodes = []; places = [] } in
      let y = l.bodies (length u.bodies) new (get_last u.bodies new) in
      let up : length u.bodies + 1 - 1 ≡ length u.bodies = omega arith in
      let at : slice_get t.bodies (length u.bodies + 1 - 1) ≡ Some y.now = ap (λ i. slice_get t.bodies i) up ∙ y.at in
      let within : length u.bodies < length t.bodies = slice_get_within t.bodies (length u.bodies) y.now y.at in (
        (omega arith, omega arith),
        ap (λ (z : Body). z.outer) (body_found t.bodies (length u.bodies + 1) y.now at) ∙ y.grown.outer ∙ ap (λ os. body_in (innermost os)) is,
      )

  opens_next : (rest : List Item) (u : Loading) (b : ℕ) (more : List Open) → u.around ≡ in_body b ∷ more → OpensBody rest → Nodes.loaded bytes rest u ≡ Ok t → Names t.bodies b (nodes.BlockLit (record { 0 = length u.bodies + 1 }))
  opens_next [] u b more is o e = absurd o
  opens_next (items.Opened p ∷ rest) u b more is o e = block_named p rest u b more is o e
  opens_next (items.Node m ∷ rest) u b more is o e = absurd o
  opens_next (items.ClosedObject ∷ rest) u b more is o e = absurd o
  opens_next (items.ClosedBody ∷ rest) u b more is o e = absurd o
  opens_next (items.Integer z ∷ rest) u b more is o e = absurd o
  opens_next (items.Text i j ∷ rest) u b more is o e = absurd o
  opens_next (items.Root x p ∷ rest) u b more is o e = absurd o
  opens_next (items.Further x p ∷ rest) u b more is o e = absurd o
  opens_next (items.Argument x ∷ rest) u b more is o e = absurd o
  opens_next (items.Named x ∷ rest) u b more is o e = absurd o
  opens_next (items.Slot w f p ∷ rest) u b more is o e = absurd o

  length_changed : (f : Body → Body) (o : Option Body) (xs : List Body) (j : ℕ) → length (change_body f o xs j) ≡ length xs
  length_changed f None xs j = refl
  length_changed f (Some x) xs j = set_length xs j (f x)
    where
      set_length : (xs : List Body) (j : ℕ) (y : Body) → length (slice_set xs j y) ≡ length xs
      set_length [] j y = refl
      set_length (x ∷ xs) zero y = refl
      set_length (x ∷ xs) (suc j) y = ap suc (set_length xs j y)

  node_length : (o : Option Open) (n : Node) (p : Place) (s : Loading) → length (at_innermost o n p s).bodies ≡ length s.bodies
  node_length None n p s = refl
  node_length (Some (in_object x)) n p s = refl
  node_length (Some (in_body b)) n p s = length_changed (add_node n p) (slice_get s.bodies (b - 1)) s.bodies (b - 1)

  node_code : (es : List Frame) (m : Made) (rest : List Item) (s : Loading) → NodeStands first m.node rest → Nodes.loaded bytes rest (with_node bytes m s) ≡ Ok t → Later s (with_node bytes m s) → Code es s → Code es (with_node bytes m s)
  node_code es m rest s stands e l h =
      let u : Loading = with_node bytes m s in
      let v : Loading = beside bytes m.node s in
      let side = beside_same bytes m.node s in
      let after = loaded_later bytes rest u t e in
      let count : length u.bodies ≡ length s.bodies = node_length (innermost s.around) (node_of s m.node) (place m.spot) v ∙ ap length side.bodies in
      let low : length s.around ≤ 65 = (let d : length s.around ≡ length es = h.depth in let few : length es ≤ 65 = h.few in omega arith) in
      let rest_names : Extends v.names names = extends_then v.names t.names names (subst (λ x. Extends x t.names) (innermost_names (innermost s.around) (node_of s m.node) (place m.spot) v) after.names) end in
      kept_code es es s u h l (node_around bytes m s) refl
      (innermost_ok names t.bodies s.around (node_of s m.node) (place m.spot) v (subst (λ xs. Opens xs s.around) (sym side.bodies) h.opens)
      (λ b more is. node_fine s (later_then s u t l after) h.opens low b more is m.node rest stands h.known rest_names
      (λ o block. subst (λ k. Names t.bodies b (nodes.BlockLit (record { 0 = k + 1 }))) count (opens_next rest u b more (node_around bytes m s ∙ is) o e)))
      (subst (AllOk names t.bodies) (sym side.bodies) h.bodies))
    where
      innermost_names : (o : Option Open) (n : Node) (p : Place) (s : Loading) → (at_innermost o n p s).names ≡ s.names
      innermost_names None n p s = refl
      innermost_names (Some (in_object o)) n p s = refl
      innermost_names (Some (in_body b)) n p s = refl

  outer_there : (os : List Open) (bodies : List Body) → Opens bodies os → (around' : List Open) → Grow around' bodies t.bodies → HasOuter t.bodies (body_in (innermost os))
  outer_there [] bodies h a g = tt
  outer_there (in_object o ∷ os) bodies h a g = tt
  outer_there (in_body b ∷ os) bodies h a g =
      let y = g (b - 1) h.0.there h.0.at in
      let within : b - 1 < length t.bodies = slice_get_within t.bodies (b - 1) y.now y.at in
      let some : 0 < b = h.0.given in
      (some, omega arith)

  opened_code : (v : ℕ) (y k : Bool) (es : List Frame) (s : Loading) → length es ≤ 64 → Later (opened k s) t → Later s (opened k s) → Code es s → Code (frame v v y [] ∷ es) (opened k s)
  opened_code v y true es s few after l h = record {
    opens = h.opens;
    depth = ap suc h.depth;
    few = omega arith;
    bodies = h.bodies;
    known = h.known;
  }
  opened_code v y false es s few after l h =
      let new : Body = record { name = None; outer = body_in (innermost s.around); arguments = s.waiting; locals = []; nodes = []; places = [] } in
      let up : length s.bodies + 1 - 1 ≡ length s.bodies = omega arith in
      record {
        opens = (
          record { given = omega arith; there = new; at = ap (λ i. slice_get (s.bodies ++ new ∷ []) i) up ∙ get_last s.bodies new; outer = refl },
          opens_kept s.around s.bodies (s.bodies ++ new ∷ []) l.bodies s.around h.opens,
        );
        depth = ap suc h.depth;
        few = omega arith;
        bodies = λ i x at.
            elim (in_append s.bodies new i x at) [
              | inl a ↦ h.bodies i x a
              | inr same ↦
                  let here : slice_get (s.bodies ++ new ∷ []) i ≡ Some new = ap (λ j. slice_get (s.bodies ++ new ∷ []) j) same ∙ get_last s.bodies new in
                  subst (λ z. BodyOk names t.bodies i z) (same_body new x (sym here ∙ at))
                  (record { nodes = λ j node e. none_there j node e; outer = outer_there s.around s.bodies h.opens s.around (later_then s (with_body s) t l after).bodies })
            ];
        known = h.known;
      }
    where
      none_there : {A : Type 0} (j : ℕ) (node : Node) → slice_get [] j ≡ Some node → A
      none_there j node e = cc

  closed_opens : (os : List Open) (h : Held) (bodies : List Body) → Opens bodies os → Opens bodies (closed os h).0
  closed_opens [] h bodies o = tt
  closed_opens (in_object x ∷ os) h bodies o = o
  closed_opens (in_body b ∷ os) h bodies o = o.1

  closed_length : (os : List Open) (h : Held) (es : List Frame) → length os ≡ length es → length (closed os h).0 ≡ length (outer es)
  closed_length [] h [] e = refl
  closed_length [] h (x ∷ es) e = absurd (omega arith)
  closed_length (in_object o ∷ os) h [] e = absurd (omega arith)
  closed_length (in_body b ∷ os) h [] e = absurd (omega arith)
  closed_length (in_object o ∷ os) h (x ∷ es) e = omega arith
  closed_length (in_body b ∷ os) h (x ∷ es) e = omega arith

  outer_few : (es : List Frame) → length (outer es) ≤ length es
  outer_few [] = omega arith
  outer_few (e ∷ es) = omega arith

  closed_code : (es : List Frame) (s : Loading) → Code es s → Code (outer es) (with_closed s)
  closed_code es s h = record {
    opens = closed_opens s.around s.held s.bodies h.opens;
    depth = closed_length s.around s.held es h.depth;
    few = (let low = outer_few es in let few : length es ≤ 65 = h.few in omega arith);
    bodies = h.bodies;
    known = h.known;
  }

  argued_length : (es : List Frame) → length (argued es) ≡ length es
  argued_length [] = refl
  argued_length (e ∷ es) = refl

  slotted_length : (w : Words) (es : List Frame) → length (slotted w es) ≡ length es
  slotted_length w [] = refl
  slotted_length w (e ∷ es) = refl

  followed_code : (es : List Frame) (s u : Loading) (p : Spot) (o : Option Value) → followed s p o ≡ Ok u → Code es s → Code es u
  followed_code es s u p None e h = cc
  followed_code es s u p (Some v) e h =
      subst (λ x. Code es x) (ok_same (holding s v) u e) (record { opens = h.opens; depth = h.depth; few = h.few; bodies = h.bodies; known = h.known })

  slot_ok : (n : ℕ) (f : SlotForm) (s : Loading) → AllOk names t.bodies s.bodies → AllOk names t.bodies (with_slot n f s).bodies
  slot_ok n f s h = placed_ok names t.bodies (innermost s.around) n f (name_body s.held n f s) (named_ok names t.bodies s.held n f s h)

  runs : (is : List Item) (n : ℕ) (es : List Frame) (z : Option ℕ) (s : Loading) → Keeps first n es z is → Code es s → Nodes.loaded bytes is s ≡ Ok t → AllOk names t.bodies t.bodies
  unfolding Nodes.loaded
  runs [] n es z s k h e = subst (λ (x : Loading). AllOk names t.bodies x.bodies) (ok_same s t e) h.bodies
  runs (items.Node m ∷ is) n es z s k h e = runs is n es None (with_node bytes m s) k.1 (node_code es m is s k.0 e (step_later bytes (items.Node m) is s (with_node bytes m s) refl) h) e
  runs (items.Opened p ∷ is) n es z s k h e =
      let u : Loading = opened (is_object 0 is) s in
      runs is 0 (frame n n k.1.0 [] ∷ es) None u k.1.1 (opened_code n k.1.0 (is_object 0 is) es s k.0.0 (loaded_later bytes is u t e) (step_later bytes (items.Opened p) is s u refl) h) e
  runs (items.ClosedObject ∷ is) n es z s k h e = runs is n (outer es) None (with_closed s) k.1 (closed_code es s h) e
  runs (items.ClosedBody ∷ is) n es z s k h e = runs is n (outer es) (given_by es) (with_closed s) k.1 (closed_code es s h) e
  runs (items.Integer j ∷ is) n es z s k h e =
      runs is n es None (holding s (integer j)) k (record { opens = h.opens; depth = h.depth; few = h.few; bodies = h.bodies; known = h.known }) e
  runs (items.Text a b ∷ is) n es z s k h e =
      runs is n es None (holding (with_string bytes a b s) (object (length s.things))) k (record { opens = h.opens; depth = h.depth; few = h.few; bodies = h.bodies; known = h.known }) e
  runs (items.Root x p ∷ is) n es z s k h e =
      let a = ok_bound (followed s p (root s x)) (λ u. Nodes.loaded bytes is u) t e in
      runs is n es None a.0 k (followed_code es s a.0 p (root s x) a.1 h) a.2
  runs (items.Further x p ∷ is) n es z s k h e =
      let a = ok_bound (followed s p (further s s.held x)) (λ u. Nodes.loaded bytes is u) t e in
      runs is n es None a.0 k (followed_code es s a.0 p (further s s.held x) a.1 h) a.2
  runs (items.Argument x ∷ is) n es z s k h e =
      let u : Loading = with_argument x s in
      runs is n (argued es) None u k
      (kept_code es (argued es) s u h (step_later bytes (items.Argument x) is s u refl) (argument_around (innermost s.around) x s) (argued_length es) (in_argument_ok names t.bodies (innermost s.around) x s h.bodies)) e
  runs (items.Named x ∷ is) n es z s k h e = runs is (n + 1) es None (with_waiting x s) k (record { opens = h.opens; depth = h.depth; few = h.few; bodies = h.bodies; known = h.known }) e
  runs (items.Slot w f p ∷ is) n es z s k h e =
      let v : Loading = record s { names = with_words s.names w } in
      let u : Loading = with_slot (word_number s.names w) f v in
      let a = ok_bound (take_item bytes (items.Slot w f p) is s) (λ u. Nodes.loaded bytes is u) t e in
      let same : u ≡ a.0 = ended_is u a.0 p (is_parent f && not (may_be_parent s s.held)) a.1 in
      let at : take_item bytes (items.Slot w f p) is s ≡ Ok u = a.1 ∙ ap Ok (sym same) in
      runs is n (slotted w es) None u k.1
      (kept_code es (slotted w es) s u h (step_later bytes (items.Slot w f p) is s u at) (slot_around (word_number s.names w) f v) (slotted_length w es) (slot_ok (word_number s.names w) f v h.bodies))
      (subst (λ x. Nodes.loaded bytes is x ≡ Ok t) (sym same) a.2)

-- All bodies of what right items build.
pub code_fits : (first names : List (List ℕ)) (bytes : List ℕ) (is : List Item) (t : Loading) → Extends t.names names → Keeps first 0 (frame 0 0 false [] ∷ []) None is → Nodes.loaded bytes is (begun first) ≡ Ok t →
    AllOk names t.bodies t.bodies
code_fits first names bytes is t end k e =
    runs first names bytes t end is 0 (frame 0 0 false [] ∷ []) None (begun first) k (record { opens = tt; depth = refl; few = omega arith; bodies = λ i x at. none_there i x at; known = extends_world first }) e
  where
    none_there : {A : Type 0} (i : ℕ) (x : Body) → slice_get [] i ≡ Some x → A
    none_there i x e = cc
