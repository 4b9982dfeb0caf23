-- What stays as a text is read: names keep their numbers, and bodies only get nodes, arguments and locals.
use Rattle.std.specs.Prelude.{◌≡◌, ◌⊎◌, ℕ, zero, suc, ◌+◌, ◌-◌, ◌<◌, ◌≤◌, nat_eq, Bool, true, false, ◌&&◌, not, if◌then◌else◌, Option, None, Some, Ok, Err, List, [], ◌∷◌, ◌++◌, length, slice_get, slice_set, refl}
use Rattle.std.specs.List.{list_any}
use Rattle.std.specs.Cmp.Lexicographic.{pointwise}
use Rattle.std.proofs.Common.{ap, sym, subst, ◌∙◌, inl, inr, arith, length-append, append_assoc}
use Rattle.std.proofs.lemmas.Option.{slice_get_within}
use Rattle.self_terms.specs.declared.nodes.Node.{Node}
use Rattle.self_terms.specs.declared.nodes.Place.{Place}
use Rattle.self_terms.specs.declared.values.Datum.{Datum as Value}
use Rattle.self_terms.specs.declared.values.Datum.TheVariants.{Integer as integer, Object as object}
use Rattle.self_terms.specs.declared.bodies.Body.{Body}
use Rattle.self_terms.specs.declared.bodies.Local.{Local}
use Rattle.self_terms.specs.Names.{with_text}
use Rattle.self_terms.specs.Bodies.{change_body, changed, add_node, add_argument, add_local, with_name}
use Rattle.self_grammar.specs.declared.signs.Spot.{Spot}
use Rattle.self_grammar.specs.declared.pieces.Made.{Made}
use Rattle.self_grammar.specs.declared.pieces.Words.{Words}
use Rattle.self_grammar.specs.declared.pieces.TextNode.{TextNode}
use Rattle.self_grammar.specs.declared.pieces.TextNode.TheVariants as text
use Rattle.self_grammar.specs.declared.pieces.SlotForm.{SlotForm}
use Rattle.self_grammar.specs.declared.pieces.SlotForm.TheVariants as form
use Rattle.self_grammar.specs.declared.pieces.Item.{Item}
use Rattle.self_grammar.specs.declared.pieces.Item.TheVariants as items
use Rattle.self_grammar.specs.Parts.{parts_in}
use Rattle.source_model.specs.Soundness.{room}
use Rattle.world_build.specs.declared.values.Open.{Open}
use Rattle.world_build.specs.declared.values.Open.TheVariants.{InObject as in_object, InBody as in_body}
use Rattle.world_build.specs.declared.values.Held.{Held}
use Rattle.world_build.specs.declared.values.Held.TheVariants.{Nothing as nothing, Data as value, Code as body}
use Rattle.world_build.specs.declared.slots.ToldSlot.{ToldSlot}
use Rattle.world_build.specs.declared.refusals.BuildRefusal.TheVariants.{ParentNotObject}
use Rattle.world_build.specs.declared.loading.Loading.{Loading}
use Rattle.world_build.specs.Names.{joined, with_words, word_number, with_core_texts, with_world_texts, lobby_text, core_names, core_text}
use Rattle.world_build.specs.declared.cores.CoreName.{CoreName}
use Rattle.world_build.specs.Loading.{place, root, further, followed, holding, is_object, innermost, opened, closed, with_closed, with_string, at_object, slots_for, add_slots, local_for, placed_in, name_body, with_slot, may_be_parent, is_parent, argument_in, with_argument, with_waiting}
use Rattle.world_build.specs.Nodes.{node_of, beside, at_innermost, with_node, take_item}
use Rattle.world_build.specs.Nodes
use Rattle.world_build.proofs.Weights.{ok_same, ok_bound}
use Rattle.world_build.proofs.Standing.{get_append}

-- Names.

pub record Extends (old new : List (List ℕ)) : Type 0 where
  pub more : List (List ℕ)
  pub is : new ≡ old ++ more

append_none : (xs : List (List ℕ)) → xs ≡ xs ++ []
append_none [] = refl
append_none (x ∷ xs) = ap (λ ys. x ∷ ys) (append_none xs)

pub extends_same : (names : List (List ℕ)) → Extends names names
extends_same names = record { more = []; is = append_none names }

pub extends_then : (a b c : List (List ℕ)) → Extends a b → Extends b c → Extends a c
extends_then a b c h k = record { more = h.more ++ k.more; is = k.is ∙ ap (λ x. x ++ k.more) h.is ∙ append_assoc a h.more k.more }

pub extends_text : (names : List (List ℕ)) (u : List ℕ) → Extends names (with_text names u)
extends_text names u = by (list_any (pointwise nat_eq u) names)
  where
    by : (b : Bool) → Extends names (if b then names else names ++ u ∷ [])
    by true = extends_same names
    by false = record { more = u ∷ []; is = refl }

pub extends_words : (names : List (List ℕ)) (w : Words) → Extends names (with_words names w)
extends_words names w = extends_text names (joined names (parts_in w))

extends_cores : (names : List (List ℕ)) (cs : List CoreName) → Extends names (with_core_texts names cs)
extends_cores names [] = extends_same names
extends_cores names (c ∷ cs) = extends_then names (with_text names (core_text c)) (with_core_texts (with_text names (core_text c)) cs) (extends_text names (core_text c)) (extends_cores (with_text names (core_text c)) cs)

pub extends_world : (names : List (List ℕ)) → Extends names (with_world_texts names)
extends_world names = extends_then names (with_text names lobby_text) (with_world_texts names) (extends_text names lobby_text) (extends_cores (with_text names lobby_text) core_names)

-- Bodies.

-- the body of that index is open
abbrev pub IsOpen : ℕ → List Open → Type 0
IsOpen i [] = ⊥
IsOpen i (in_object o ∷ os) = IsOpen i os
IsOpen i (in_body b ∷ os) = (b - 1 ≡ i) ⊎ IsOpen i os

-- what a body becomes, which gets no more arguments unless it is open
pub record Grown (os : List Open) (i : ℕ) (x y : Body) : Type 0 where
  pub outer : y.outer ≡ x.outer
  pub room : room x ≤ room y
  pub shut : (IsOpen i os → ⊥) → length y.arguments ≡ length x.arguments

pub record Becomes (os : List Open) (i : ℕ) (x : Body) (bodies : List Body) : Type 0 where
  pub now : Body
  pub at : slice_get bodies i ≡ Some now
  pub grown : Grown os i x now

abbrev pub Grow : List Open → List Body → List Body → Type 0
Grow os xs ys = (i : ℕ) (x : Body) → slice_get xs i ≡ Some x → Becomes os i x ys

same_grown : (os : List Open) (i : ℕ) (x : Body) → Grown os i x x
same_grown os i x = record { outer = refl; room = omega arith; shut = λ h. refl }

same_grow : (os : List Open) (xs : List Body) → Grow os xs xs
same_grow os xs i x e = record { now = x; at = e; grown = same_grown os i x }

body_same : (x y : Body) → ◌≡◌ {A = Option Body} (Some x) (Some y) → x ≡ y
body_same x y e = cc

set_becomes : (os : List Open) (m : ℕ) (xs : List Body) (j i : ℕ) (x y z : Body) → slice_get xs j ≡ Some x → Grown os (m + j) x y → slice_get xs i ≡ Some z → (w : Body) × (slice_get (slice_set xs j y) i ≡ Some w) × Grown os (m + i) z w
set_becomes os m [] j i x y z e g f = cc
set_becomes os m (w ∷ xs) zero zero x y z e g f = (y, refl, subst (λ v. Grown os (m + 0) v y) (sym (body_same w x e) ∙ body_same w z f) g)
set_becomes os m (w ∷ xs) zero (suc i) x y z e g f = (z, f, same_grown os (m + suc i) z)
set_becomes os m (w ∷ xs) (suc j) zero x y z e g f = (z, f, same_grown os (m + 0) z)
set_becomes os m (w ∷ xs) (suc j) (suc i) x y z e g f =
    let up : m + suc j ≡ m + 1 + j = omega arith in
    let down : m + 1 + i ≡ m + suc i = omega arith in
    let r = set_becomes os (m + 1) xs j i x y z e (subst (λ k. Grown os k x y) up g) f in
    (r.0, r.1, subst (λ k. Grown os k z r.0) down r.2)

change_grow : (os : List Open) (f : Body → Body) (xs : List Body) (j : ℕ) (o : Option Body) → slice_get xs j ≡ o → ((x : Body) → Grown os j x (f x)) → Grow os xs (change_body f o xs j)
change_grow os f xs j None e g = same_grow os xs
change_grow os f xs j (Some x) e g = λ i z at.
    let first : j ≡ 0 + j = omega arith in
    let back : 0 + i ≡ i = omega arith in
    let r = set_becomes os 0 xs j i x (f x) z e (subst (λ k. Grown os k x (f x)) first (g x)) at in
    record { now = r.0; at = r.1; grown = subst (λ k. Grown os k z r.0) back r.2 }

pub changed_grow : (os : List Open) (f : Body → Body) (xs : List Body) (b : ℕ) → ((x : Body) → Grown os (b - 1) x (f x)) → Grow os xs (changed f xs b)
changed_grow os f xs b g = change_grow os f xs (b - 1) (slice_get xs (b - 1)) refl g

node_grown : (os : List Open) (i : ℕ) (n : Node) (p : Place) (x : Body) → Grown os i x (add_node n p x)
node_grown os i n p x = record { outer = refl; room = omega arith; shut = λ h. refl }

name_grown : (os : List Open) (i n : ℕ) (x : Body) → Grown os i x (with_name n x)
name_grown os i n x = record { outer = refl; room = omega arith; shut = λ h. refl }

local_grown : (os : List Open) (i : ℕ) (y : Local) (x : Body) → Grown os i x (add_local y x)
local_grown os i y x = record { outer = refl; room = (let more = length-append x.locals (y ∷ []) in omega arith); shut = λ h. refl }

argument_grown : (os : List Open) (b n : ℕ) (x : Body) → Grown (in_body b ∷ os) (b - 1) x (add_argument n x)
argument_grown os b n x = record { outer = refl; room = (let more = length-append x.arguments (n ∷ []) in omega arith); shut = λ h. absurd (h (inl refl)) }

-- From one loading to a later one.
pub record Later (s u : Loading) : Type 0 where
  pub names : Extends s.names u.names
  pub bodies : Grow s.around s.bodies u.bodies
  pub shut : (i : ℕ) → i < length s.bodies → (IsOpen i s.around → ⊥) → IsOpen i u.around → ⊥

pub later_same : (s : Loading) → Later s s
later_same s = record { names = extends_same s.names; bodies = same_grow s.around s.bodies; shut = λ i lt h. h }

pub later_then : (s t u : Loading) → Later s t → Later t u → Later s u
later_then s t u h k = record {
  names = extends_then s.names t.names u.names h.names k.names;
  bodies = λ i x e.
      let a = h.bodies i x e in
      let b = k.bodies i a.now a.at in
      let lt : i < length s.bodies = slice_get_within s.bodies i x e in
      record {
        now = b.now;
        at = b.at;
        grown = record {
          outer = b.grown.outer ∙ a.grown.outer;
          room = (let r : room x ≤ room a.now = a.grown.room in let q : room a.now ≤ room b.now = b.grown.room in omega arith);
          shut = λ n. b.grown.shut (h.shut i lt n) ∙ a.grown.shut n;
        };
      };
  shut = λ i lt n o. k.shut i (reach i lt) (h.shut i lt n) o;
}
  where
    reach : (i : ℕ) → i < length s.bodies → i < length t.bodies
    reach i lt = let x = there s.bodies i lt in let a = h.bodies i x.0 x.1 in slice_get_within t.bodies i a.now a.at
      where
        there : (xs : List Body) (i : ℕ) → i < length xs → (x : Body) × (slice_get xs i ≡ Some x)
        there [] i lt = absurd (omega arith)
        there (x ∷ xs) zero lt = (x, refl)
        there (x ∷ xs) (suc i) lt = there xs i (omega arith)

-- what changes neither names, nor bodies, nor what is open
later_else : (s u : Loading) → u.names ≡ s.names → u.bodies ≡ s.bodies → u.around ≡ s.around → Later s u
later_else s u n b a = record {
  names = subst (λ x. Extends s.names x) (sym n) (extends_same s.names);
  bodies = subst (λ x. Grow s.around s.bodies x) (sym b) (same_grow s.around s.bodies);
  shut = λ i lt h. subst (λ os. IsOpen i os → ⊥) (sym a) h;
}

later_changed : (s : Loading) (f : Body → Body) (b : ℕ) → ((x : Body) → Grown s.around (b - 1) x (f x)) → Later s (record s { bodies = changed f s.bodies b })
later_changed s f b g = record { names = extends_same s.names; bodies = changed_grow s.around f s.bodies b g; shut = λ i lt h. h }

beside_later : (bytes : List ℕ) (t : TextNode) (s : Loading) → Later s (beside bytes t s)
beside_later bytes (text.Integer z) s = later_same s
beside_later bytes (text.Text a b) s = later_else s _ refl refl refl
beside_later bytes text.Block s = later_same s
beside_later bytes text.Itself s = later_same s
beside_later bytes text.Nil s = later_same s
beside_later bytes (text.Message to w args) s = record { names = extends_words s.names w; bodies = same_grow s.around s.bodies; shut = λ i lt h. h }
beside_later bytes (text.Primitive w args implied handler) s = record { names = extends_words s.names w; bodies = same_grow s.around s.bodies; shut = λ i lt h. h }
beside_later bytes text.Drop s = later_same s
beside_later bytes text.Restart s = later_same s
beside_later bytes text.Return s = later_same s
beside_later bytes text.End s = later_same s

innermost_later : (o : Option Open) (n : Node) (p : Place) (s : Loading) → Later s (at_innermost o n p s)
innermost_later None n p s = later_same s
innermost_later (Some (in_object o)) n p s = later_same s
innermost_later (Some (in_body b)) n p s = later_changed s (add_node n p) b (node_grown s.around (b - 1) n p)

sized_later : (s u : Loading) (k : ℕ) → Later s u → Later s (record u { size = k })
sized_later s u k h = record { names = h.names; bodies = h.bodies; shut = h.shut }

node_later : (bytes : List ℕ) (m : Made) (s : Loading) → Later s (with_node bytes m s)
node_later bytes m s =
    let v : Loading = beside bytes m.node s in
    let u : Loading = at_innermost (innermost s.around) (node_of s m.node) (place m.spot) v in
    sized_later s u (s.size + 1) (later_then s v u (beside_later bytes m.node s) (innermost_later (innermost s.around) (node_of s m.node) (place m.spot) v))

push_grow : (os : List Open) (xs : List Body) (y : Body) → Grow os xs (xs ++ y ∷ [])
push_grow os xs y i x e = record { now = x; at = get_append xs y i x e; grown = same_grown os i x }

open_none : (k i : ℕ) (os : List Open) → i < k → (IsOpen i os → ⊥) → IsOpen i (in_body (k + 1) ∷ os) → ⊥
open_none k i os lt h (inl e) = (omega arith)
open_none k i os lt h (inr o) = h o

opened_later : (b : Bool) (s : Loading) → Later s (opened b s)
opened_later true s = record { names = extends_same s.names; bodies = same_grow s.around s.bodies; shut = λ i lt h. h }
opened_later false s = record { names = extends_same s.names; bodies = push_grow s.around s.bodies _; shut = λ i lt h o. open_none (length s.bodies) i s.around lt h o }

closed_shut : (os : List Open) (h : Held) (i : ℕ) → (IsOpen i os → ⊥) → IsOpen i (closed os h).0 → ⊥
closed_shut [] h i n o = n o
closed_shut (in_object x ∷ os) h i n o = n o
closed_shut (in_body b ∷ os) h i n o = n (inr o)

closed_later : (s : Loading) → Later s (with_closed s)
closed_later s = record { names = extends_same s.names; bodies = same_grow s.around s.bodies; shut = λ i lt h o. closed_shut s.around s.held i h o }

argument_later : (os : List Open) (n : ℕ) (s : Loading) → s.around ≡ os → Later s (argument_in (innermost os) n s)
argument_later [] n s e = later_same s
argument_later (in_object o ∷ os) n s e = later_same s
argument_later (in_body b ∷ os) n s e = later_changed s (add_argument n) b (λ x. subst (λ o. Grown o (b - 1) x (add_argument n x)) (sym e) (argument_grown os b n x))

add_slots_later : (o : ℕ) (xs : List ToldSlot) (s : Loading) → Later s (add_slots o xs s)
add_slots_later o [] s = later_same s
add_slots_later o (x ∷ xs) s = later_then s (at_object o x s) (add_slots o xs (at_object o x s)) (later_else s _ refl refl refl) (add_slots_later o xs (at_object o x s))

placed_later : (o : Option Open) (n : ℕ) (f : SlotForm) (s : Loading) → Later s (placed_in o n f s)
placed_later None n f s = later_same s
placed_later (Some (in_object o)) n f s = add_slots_later o (slots_for n f s.held) s
placed_later (Some (in_body b)) n f s = later_changed s (add_local (local_for n f s.held)) b (local_grown s.around (b - 1) (local_for n f s.held))

name_later : (h : Held) (n : ℕ) (f : SlotForm) (s : Loading) → Later s (name_body h n f s)
name_later nothing n f s = later_same s
name_later (value v) n f s = later_same s
name_later (body b) n form.Method s = later_changed s (with_name n) b (name_grown s.around (b - 1) n)
name_later (body b) n form.Constant s = later_same s
name_later (body b) n (form.Assignable a) s = later_same s
name_later (body b) n (form.Bare a) s = later_same s
name_later (body b) n form.Parent s = later_same s

slot_later : (n : ℕ) (f : SlotForm) (s : Loading) → Later s (with_slot n f s)
slot_later n f s =
    let v : Loading = name_body s.held n f s in
    let u : Loading = placed_in (innermost s.around) n f v in
    let h = later_then s v u (name_later s.held n f s) (placed_later (innermost s.around) n f v) in
    record { names = h.names; bodies = h.bodies; shut = h.shut }

followed_later : (s u : Loading) (p : Spot) (o : Option Value) → followed s p o ≡ Ok u → Later s u
followed_later s u p None e = cc
followed_later s u p (Some v) e = subst (λ t. Later s t) (ok_same (holding s v) u e) (later_else s _ refl refl refl)

pub ended_is : (s u : Loading) (p : Spot) (b : Bool) → (if b then Err (ParentNotObject (place p)) else Ok s) ≡ Ok u → s ≡ u
ended_is s u p true e = cc
ended_is s u p false e = ok_same s u e

pub step_later : (bytes : List ℕ) (i : Item) (rest : List Item) (s u : Loading) → take_item bytes i rest s ≡ Ok u → Later s u
step_later bytes (items.Node m) rest s u e = subst (λ t. Later s t) (ok_same (with_node bytes m s) u e) (node_later bytes m s)
step_later bytes (items.Opened p) rest s u e = subst (λ t. Later s t) (ok_same (opened (is_object 0 rest) s) u e) (opened_later (is_object 0 rest) s)
step_later bytes items.ClosedObject rest s u e = subst (λ t. Later s t) (ok_same (with_closed s) u e) (closed_later s)
step_later bytes items.ClosedBody rest s u e = subst (λ t. Later s t) (ok_same (with_closed s) u e) (closed_later s)
step_later bytes (items.Integer z) rest s u e = subst (λ t. Later s t) (ok_same (holding s (integer z)) u e) (later_else s _ refl refl refl)
step_later bytes (items.Text a b) rest s u e = subst (λ t. Later s t) (ok_same (holding (with_string bytes a b s) (object (length s.things))) u e) (later_else s _ refl refl refl)
step_later bytes (items.Root x p) rest s u e = followed_later s u p (root s x) e
step_later bytes (items.Further x p) rest s u e = followed_later s u p (further s s.held x) e
step_later bytes (items.Argument x) rest s u e =
    subst (λ t. Later s t) (ok_same (with_argument x s) u e) (sized_later s (argument_in (innermost s.around) x s) (s.size + 1) (argument_later s.around x s refl))
step_later bytes (items.Named x) rest s u e = subst (λ t. Later s t) (ok_same (with_waiting x s) u e) (later_else s _ refl refl refl)
step_later bytes (items.Slot w f p) rest s u e =
    let t : Loading = record s { names = with_words s.names w } in
    subst (λ v. Later s v) (ended_is (with_slot (word_number s.names w) f t) u p (is_parent f && not (may_be_parent s s.held)) e)
    (later_then s t (with_slot (word_number s.names w) f t) (record { names = extends_words s.names w; bodies = same_grow s.around s.bodies; shut = λ i lt h. h }) (slot_later (word_number s.names w) f t))

pub loaded_later : (bytes : List ℕ) (is : List Item) (s t : Loading) → Nodes.loaded bytes is s ≡ Ok t → Later s t
unfolding Nodes.loaded
loaded_later bytes [] s t e = subst (λ u. Later s u) (ok_same s t e) (later_same s)
loaded_later bytes (i ∷ is) s t e =
    let a = ok_bound (take_item bytes i is s) (λ u. Nodes.loaded bytes is u) t e in
    later_then s a.0 t (step_later bytes i is s a.0 a.1) (loaded_later bytes is a.0 t a.2)
