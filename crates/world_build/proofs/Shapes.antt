-- The bodies of what was read of a text have few arguments and locals, where its items are right.
use Rattle.std.specs.Prelude.{◌≡◌, ◌⊎◌, ℕ, zero, suc, ◌+◌, ◌-◌, ◌<◌, ◌≤◌, Bool, true, false, ◌&&◌, not, if◌then◌else◌, Option, None, Some, Ok, Err, List, [], ◌∷◌, ◌++◌, length, map, slice_get, slice_set, refl}
use Rattle.std.proofs.Common.{ap, sym, subst, ◌∙◌, arith, inl, inr, length-append}
use Rattle.std.proofs.lemmas.Option.{slice_get_within}
use Rattle.std.proofs.lemmas.List.{length-map}
use Rattle.self_terms.specs.declared.nodes.Node.{Node}
use Rattle.self_terms.specs.declared.nodes.Place.{Place}
use Rattle.self_terms.specs.declared.values.Datum.{Datum as Value}
use Rattle.self_terms.specs.declared.values.Datum.TheVariants.{Integer as integer, Object as object}
use Rattle.self_terms.specs.declared.bodies.Body.{Body}
use Rattle.self_terms.specs.Bodies.{change_body, changed, add_node, add_argument, add_local, with_name}
use Rattle.self_grammar.specs.declared.signs.Spot.{Spot}
use Rattle.self_grammar.specs.declared.pieces.Made.{Made}
use Rattle.self_grammar.specs.declared.pieces.TextNode.{TextNode}
use Rattle.self_grammar.specs.declared.pieces.TextNode.TheVariants as text
use Rattle.self_grammar.specs.declared.pieces.SlotForm.{SlotForm}
use Rattle.self_grammar.specs.declared.pieces.SlotForm.TheVariants as form
use Rattle.self_grammar.specs.declared.pieces.Item.{Item}
use Rattle.self_grammar.specs.declared.pieces.Item.TheVariants as items
use Rattle.world_build.specs.declared.values.Open.{Open}
use Rattle.world_build.specs.declared.values.Open.TheVariants.{InObject as in_object, InBody as in_body}
use Rattle.world_build.specs.declared.values.Held.{Held}
use Rattle.world_build.specs.declared.values.Held.TheVariants.{Nothing as nothing, Data as value, Code as body}
use Rattle.world_build.specs.declared.slots.ToldSlot.{ToldSlot}
use Rattle.world_build.specs.declared.refusals.BuildRefusal.TheVariants.{ParentNotObject}
use Rattle.world_build.specs.declared.loading.Loading.{Loading}
use Rattle.world_build.specs.Names.{with_words, word_number}
use Rattle.world_build.specs.Loading.{begun, place, root, further, followed, holding, is_object, innermost, body_in, opened, with_body, closed, with_closed, with_string, at_object, slots_for, add_slots, local_for, placed_in, name_body, with_slot, may_be_parent, is_parent, argument_in, with_argument, with_waiting}
use Rattle.world_build.specs.Nodes.{node_of, beside, at_innermost, with_node, take_item}
use Rattle.world_build.proofs.Standing.{get_append, get_last, in_append, get_set, get_unset, in_set, IsOpen, Below, out_object, out_body}
use Rattle.world_build.proofs.Weights.{ok_same}
use Rattle.world_build.proofs.Keeps.{Entry, entry, argued, slotted, outer, IsSome, IsInner, ClosesBody, waits, behind, IsOne, Keeps, no_named}

-- how many arguments and other locals a body has
abbrev pub Shape : Type 0
Shape = ℕ × ℕ

abbrev pub shape : Body → Shape
shape b = (length b.arguments, length b.locals)

abbrev pub shapes : Loading → List Shape
shapes s = map shape s.bodies

abbrev pub IsFewShape : Shape → Type 0
IsFewShape x = (x.0 ≤ 5) × (x.1 ≤ 64)

abbrev pub counts : Entry → Shape
counts e = (e.arguments, e.locals)

-- Bodies that are changed.

set_shape : (bodies : List Body) (j : ℕ) (y : Body) → map shape (slice_set bodies j y) ≡ slice_set (map shape bodies) j (shape y)
set_shape [] j y = refl
set_shape (b ∷ bodies) zero y = refl
set_shape (b ∷ bodies) (suc j) y = ap (λ xs. shape b ∷ xs) (set_shape bodies j y)

set_same : (bodies : List Body) (j : ℕ) (x y : Body) → slice_get bodies j ≡ Some x → shape y ≡ shape x → map shape (slice_set bodies j y) ≡ map shape bodies
set_same [] j x y e h = refl
set_same (b ∷ bodies) zero x y e h = let same : b ≡ x = cc in ap (λ z. z ∷ map shape bodies) (h ∙ ap shape (sym same))
set_same (b ∷ bodies) (suc j) x y e h = ap (λ xs. shape b ∷ xs) (set_same bodies j x y e h)

change_same : (f : Body → Body) → ((x : Body) → shape (f x) ≡ shape x) → (o : Option Body) (bodies : List Body) (j : ℕ) → slice_get bodies j ≡ o → map shape (change_body f o bodies j) ≡ map shape bodies
change_same f h None bodies j e = refl
change_same f h (Some x) bodies j e = set_same bodies j x (f x) e (h x)

pub shape_at : (bodies : List Body) (j : ℕ) (x : Body) → slice_get bodies j ≡ Some x → slice_get (map shape bodies) j ≡ Some (shape x)
shape_at [] j x e = cc
shape_at (b ∷ bodies) zero x e = let same : b ≡ x = cc in ap (λ y. Some (shape y)) same
shape_at (b ∷ bodies) (suc j) x e = shape_at bodies j x e

unshaped : (bodies : List Body) (j : ℕ) → slice_get bodies j ≡ None → slice_get (map shape bodies) j ≡ None
unshaped [] j e = refl
unshaped (b ∷ bodies) zero e = cc
unshaped (b ∷ bodies) (suc j) e = unshaped bodies j e

change_grows : (f : Body → Body) (g : Shape → Shape) → ((x : Body) → shape (f x) ≡ g (shape x)) → (o : Option Body) (bodies : List Body) (j : ℕ) (y : Shape) → slice_get bodies j ≡ o →
    slice_get (map shape bodies) j ≡ Some y → map shape (change_body f o bodies j) ≡ slice_set (map shape bodies) j (g y)
change_grows f g h None bodies j y e at = let no : None ≡ Some y = sym (unshaped bodies j e) ∙ at in cc
change_grows f g h (Some x) bodies j y e at =
    let found : Some (shape x) ≡ Some y = sym (shape_at bodies j x e) ∙ at in
    let same : shape x ≡ y = cc in
    set_shape bodies j (f x) ∙ ap (λ z. slice_set (map shape bodies) j z) (h x ∙ ap g same)

-- What is open, beside what was counted.

pub record OpenBody (xs : List Shape) (e : Entry) (b : ℕ) (os : List Open) : Type 0 where
  pub given : 0 < b
  pub found : slice_get xs (b - 1) ≡ Some (counts e)
  pub below : Below b os

abbrev pub Follows : List Shape → List Entry → List Open → Type 0
Follows xs [] [] = Unit {0}
Follows xs [] (o ∷ os) = ⊥
Follows xs (e ∷ es) [] = ⊥
Follows xs (e ∷ es) (in_object o ∷ os) = Follows xs es os
Follows xs (e ∷ es) (in_body b ∷ os) = OpenBody xs e b os × Follows xs es os

pub follows_length : (xs : List Shape) (es : List Entry) (os : List Open) → Follows xs es os → length os ≡ length es
follows_length xs [] [] h = refl
follows_length xs [] (o ∷ os) h = absurd h
follows_length xs (e ∷ es) [] h = absurd h
follows_length xs (e ∷ es) (in_object o ∷ os) h = ap suc (follows_length xs es os h)
follows_length xs (e ∷ es) (in_body b ∷ os) h = ap suc (follows_length xs es os h.1)

all_below : (xs : List Shape) (es : List Entry) (os : List Open) → Follows xs es os → Below (length xs + 1) os
all_below xs [] [] h = tt
all_below xs [] (o ∷ os) h = absurd h
all_below xs (e ∷ es) [] h = absurd h
all_below xs (e ∷ es) (in_object o ∷ os) h = all_below xs es os h
all_below xs (e ∷ es) (in_body b ∷ os) h =
    let given : 0 < b = h.0.given in
    let in_range : b - 1 < length xs = slice_get_within xs (b - 1) (counts e) h.0.found in
    (omega arith, all_below xs es os h.1)

follows_append : (xs : List Shape) (y : Shape) (es : List Entry) (os : List Open) → Follows xs es os → Follows (xs ++ y ∷ []) es os
follows_append xs y [] [] h = tt
follows_append xs y [] (o ∷ os) h = absurd h
follows_append xs y (e ∷ es) [] h = absurd h
follows_append xs y (e ∷ es) (in_object o ∷ os) h = follows_append xs y es os h
follows_append xs y (e ∷ es) (in_body b ∷ os) h =
    (record { given = h.0.given; found = get_append xs y (b - 1) (counts e) h.0.found; below = h.0.below }, follows_append xs y es os h.1)

follows_set : (xs : List Shape) (b : ℕ) (y : Shape) (es : List Entry) (os : List Open) → Below b os → Follows xs es os → Follows (slice_set xs (b - 1) y) es os
follows_set xs b y [] [] low h = tt
follows_set xs b y [] (o ∷ os) low h = absurd h
follows_set xs b y (e ∷ es) [] low h = absurd h
follows_set xs b y (e ∷ es) (in_object o ∷ os) low h = follows_set xs b y es os low h
follows_set xs b y (e ∷ es) (in_body c ∷ os) low h =
    let given : 0 < c = h.0.given in
    let first : c < b = low.0 in
    (record { given = h.0.given; found = get_unset xs (b - 1) (c - 1) (counts e) y (omega arith) h.0.found; below = h.0.below }, follows_set xs b y es os low.1 h.1)

-- an open body is closed as one
abbrev pub Kinds : ℕ → List Open → List Item → Type 0
Kinds k [] rest = Unit {0}
Kinds k (in_object o ∷ os) rest = Kinds (k + 1) os rest
Kinds k (in_body b ∷ os) rest = (is_object k rest ≡ false) × Kinds (k + 1) os rest

kinds_on : (i : Item) (rest : List Item) → ((k : ℕ) → is_object k (i ∷ rest) ≡ is_object k rest) → (k : ℕ) (os : List Open) → Kinds k os (i ∷ rest) → Kinds k os rest
kinds_on i rest same k [] h = tt
kinds_on i rest same k (in_object o ∷ os) h = kinds_on i rest same (k + 1) os h
kinds_on i rest same k (in_body b ∷ os) h = (sym (same k) ∙ h.0, kinds_on i rest same (k + 1) os h.1)

kinds_in : (i : Item) (rest : List Item) → ((k : ℕ) → is_object k (i ∷ rest) ≡ is_object (k + 1) rest) → (k : ℕ) (os : List Open) → Kinds k os (i ∷ rest) → Kinds (k + 1) os rest
kinds_in i rest same k [] h = tt
kinds_in i rest same k (in_object o ∷ os) h = kinds_in i rest same (k + 1) os h
kinds_in i rest same k (in_body b ∷ os) h = (sym (same k) ∙ h.0, kinds_in i rest same (k + 1) os h.1)

kinds_out : (i : Item) (rest : List Item) → ((k : ℕ) → is_object (k + 1) (i ∷ rest) ≡ is_object k rest) → (k : ℕ) (os : List Open) → Kinds (k + 1) os (i ∷ rest) → Kinds k os rest
kinds_out i rest same k [] h = tt
kinds_out i rest same k (in_object o ∷ os) h = kinds_out i rest same (k + 1) os h
kinds_out i rest same k (in_body b ∷ os) h = (sym (same k) ∙ h.0, kinds_out i rest same (k + 1) os h.1)

-- the outermost is the lobby
abbrev pub Lies : List Open → Type 0
Lies [] = Unit {0}
Lies (in_object o ∷ []) = Unit {0}
Lies (in_body b ∷ []) = ⊥
Lies (in_object o ∷ p ∷ os) = Lies (p ∷ os)
Lies (in_body b ∷ p ∷ os) = Lies (p ∷ os)

lies_object : (o : ℕ) (os : List Open) → Lies os → Lies (in_object o ∷ os)
lies_object o [] h = tt
lies_object o (p ∷ os) h = h

lies_body : (xs : List Shape) (es : List Entry) (b : ℕ) (os : List Open) → IsSome es → Follows xs es os → Lies os → Lies (in_body b ∷ os)
lies_body xs [] b os some f h = absurd some
lies_body xs (e ∷ es) b [] some f h = absurd f
lies_body xs (e ∷ es) b (p ∷ os) some f h = h

lies_out : (p : Open) (os : List Open) → Lies (p ∷ os) → Lies os
lies_out p [] h = tt
lies_out (in_object o) (q ∷ os) h = h
lies_out (in_body b) (q ∷ os) h = h

-- What is so before each item.
pub record Stands (es : List Entry) (xs : List Shape) (os : List Open) (rest : List Item) : Type 0 where
  pub follows : Follows xs es os
  pub kinds : Kinds 0 os rest
  pub lies : Lies os
  pub closed : (i : ℕ) (x : Shape) → slice_get xs i ≡ Some x → IsOpen i os ⊎ IsFewShape x

stands_on : (es : List Entry) (xs : List Shape) (os : List Open) (i : Item) (rest : List Item) → ((k : ℕ) → is_object k (i ∷ rest) ≡ is_object k rest) → Stands es xs os (i ∷ rest) → Stands es xs os rest
stands_on es xs os i rest same h = record { follows = h.follows; kinds = kinds_on i rest same 0 os h.kinds; lies = h.lies; closed = h.closed }

stands_object : (n : ℕ) (es : List Entry) (xs : List Shape) (os : List Open) (o : ℕ) (p : Spot) (rest : List Item) → Stands es xs os (items.Opened p ∷ rest) → Stands (entry n n 0 ∷ es) xs (in_object o ∷ os) rest
stands_object n es xs os o p rest h = record { follows = h.follows; kinds = kinds_in (items.Opened p) rest (λ k. refl) 0 os h.kinds; lies = lies_object o os h.lies; closed = h.closed }

stands_body : (n : ℕ) (es : List Entry) (xs : List Shape) (os : List Open) (p : Spot) (rest : List Item) → IsSome es → is_object 0 rest ≡ false → Stands es xs os (items.Opened p ∷ rest) →
    Stands (entry n n 0 ∷ es) (xs ++ (n, 0) ∷ []) (in_body (length xs + 1) ∷ os) rest
stands_body n es xs os p rest some on h =
    let at : length xs + 1 - 1 ≡ length xs = omega arith in
    record {
      follows = (
        record { given = omega arith; found = ap (λ i. slice_get (xs ++ (n, 0) ∷ []) i) at ∙ get_last xs (n, 0); below = all_below xs es os h.follows },
        follows_append xs (n, 0) es os h.follows,
      );
      kinds = (on, kinds_in (items.Opened p) rest (λ k. refl) 0 os h.kinds);
      lies = lies_body xs es (length xs + 1) os some h.follows h.lies;
      closed = λ i x e.
          elim (in_append xs (n, 0) i x e) [
            | inl a ↦ elim (h.closed i x a) [ inl b ↦ inl (inr b) | inr b ↦ inr b ]
            | inr a ↦ inl (inl (ap (λ k. k + 1) (sym a)))
          ];
    }

-- the innermost body grows
stands_grown : (e d : Entry) (es : List Entry) (xs : List Shape) (b : ℕ) (os : List Open) (i : Item) (rest : List Item) → ((k : ℕ) → is_object k (i ∷ rest) ≡ is_object k rest) →
    Stands (e ∷ es) xs (in_body b ∷ os) (i ∷ rest) → Stands (d ∷ es) (slice_set xs (b - 1) (counts d)) (in_body b ∷ os) rest
stands_grown e d es xs b os i rest same h =
    let o = h.follows.0 in
    let given : 0 < b = o.given in
    record {
      follows = (record { given = o.given; found = get_set xs (b - 1) (counts e) (counts d) o.found; below = o.below }, follows_set xs b (counts d) es os o.below h.follows.1);
      kinds = kinds_on i rest same 0 (in_body b ∷ os) h.kinds;
      lies = h.lies;
      closed = λ j x e. elim (in_set xs (b - 1) j x (counts d) e) [ inl a ↦ h.closed j x a | inr a ↦ inl (inl (omega arith)) ];
    }

this_one : (xs : List Shape) (b i : ℕ) (y x : Shape) → b ≡ i + 1 → slice_get xs (b - 1) ≡ Some y → slice_get xs i ≡ Some x → IsFewShape y → IsFewShape x
this_one xs b i y x c found at h =
    let e : b - 1 ≡ i = omega arith in
    let both_there : Some y ≡ Some x = sym found ∙ ap (λ j. slice_get xs j) e ∙ at in
    let same : y ≡ x = cc in
    subst IsFewShape same h

-- the innermost closes
stands_closed_object : (es : List Entry) (xs : List Shape) (os : List Open) (h : Held) (rest : List Item) → IsInner es → Stands es xs os (items.ClosedObject ∷ rest) → Stands (outer es) xs (closed os h).0 rest
stands_closed_object [] xs os h rest some a = absurd some
stands_closed_object (e ∷ es) xs [] h rest some a = absurd a.follows
stands_closed_object (e ∷ es) xs (in_object o ∷ os) h rest some a =
    record { follows = a.follows; kinds = kinds_out items.ClosedObject rest (λ k. out_object k rest) 0 os a.kinds; lies = lies_out (in_object o) os a.lies; closed = a.closed }
stands_closed_object (e ∷ es) xs (in_body b ∷ os) h rest some a = cc (a.kinds.0)

stands_closed_body : (es : List Entry) (xs : List Shape) (os : List Open) (h : Held) (rest : List Item) → IsInner es → ClosesBody es → Stands es xs os (items.ClosedBody ∷ rest) → Stands (outer es) xs (closed os h).0 rest
stands_closed_body [] xs os h rest some few a = absurd some
stands_closed_body (e ∷ es) xs [] h rest some few a = absurd a.follows
stands_closed_body (e ∷ es) xs (in_object o ∷ os) h rest some few a =
    record { follows = a.follows; kinds = kinds_out items.ClosedBody rest (λ k. out_body k rest) 0 os a.kinds; lies = lies_out (in_object o) os a.lies; closed = a.closed }
stands_closed_body (e ∷ es) xs (in_body b ∷ os) h rest some few a =
    let f = a.follows.0 in
    record {
      follows = a.follows.1;
      kinds = kinds_out items.ClosedBody rest (λ k. out_body k rest) 0 os a.kinds.1;
      lies = lies_out (in_body b) os a.lies;
      closed = λ i x at.
          elim (a.closed i x at) [
            | inl c ↦ elim c [
              | inl d ↦ inr (this_one xs b i (counts e) x d f.found at few)
              | inr d ↦ inl d
            ]
            | inr c ↦ inr c
          ];
    }

-- Nothing opened or closed, and no body got an argument or a local.
record Alike (s u : Loading) : Type 0 where
  bodies : shapes u ≡ shapes s
  around : u.around ≡ s.around
  waiting : u.waiting ≡ s.waiting

same_alike : (s : Loading) → Alike s s
same_alike s = record { bodies = refl; around = refl; waiting = refl }

changed_alike : (b : ℕ) (f : Body → Body) (s : Loading) → ((x : Body) → shape (f x) ≡ shape x) → Alike s (record s { bodies = changed f s.bodies b })
changed_alike b f s h = record { bodies = change_same f h (slice_get s.bodies (b - 1)) s.bodies (b - 1) refl; around = refl; waiting = refl }

alike_then : (s t u : Loading) → Alike s t → Alike t u → Alike s u
alike_then s t u a b = record { bodies = b.bodies ∙ a.bodies; around = b.around ∙ a.around; waiting = b.waiting ∙ a.waiting }

add_slots_alike : (o : ℕ) (xs : List ToldSlot) (s : Loading) → Alike s (add_slots o xs s)
add_slots_alike o [] s = same_alike s
add_slots_alike o (x ∷ xs) s = let h = add_slots_alike o xs (at_object o x s) in record { bodies = h.bodies; around = h.around; waiting = h.waiting }

name_alike : (h : Held) (n : ℕ) (f : SlotForm) (s : Loading) → Alike s (name_body h n f s)
name_alike nothing n f s = same_alike s
name_alike (value v) n f s = same_alike s
name_alike (body b) n form.Method s = changed_alike b (with_name n) s (λ x. refl)
name_alike (body b) n form.Constant s = same_alike s
name_alike (body b) n (form.Assignable a) s = same_alike s
name_alike (body b) n (form.Bare a) s = same_alike s
name_alike (body b) n form.Parent s = same_alike s

beside_alike : (bytes : List ℕ) (t : TextNode) (s : Loading) → Alike s (beside bytes t s)
beside_alike bytes (text.Integer z) s = same_alike s
beside_alike bytes (text.Text a b) s = record { bodies = refl; around = refl; waiting = refl }
beside_alike bytes text.Block s = same_alike s
beside_alike bytes text.Itself s = same_alike s
beside_alike bytes text.Nil s = same_alike s
beside_alike bytes (text.Message to w args) s = record { bodies = refl; around = refl; waiting = refl }
beside_alike bytes (text.Primitive w args implied handler) s = record { bodies = refl; around = refl; waiting = refl }
beside_alike bytes text.Drop s = same_alike s
beside_alike bytes text.Restart s = same_alike s
beside_alike bytes text.Return s = same_alike s
beside_alike bytes text.End s = same_alike s

innermost_alike : (o : Option Open) (n : Node) (p : Place) (s : Loading) → Alike s (at_innermost o n p s)
innermost_alike None n p s = same_alike s
innermost_alike (Some (in_object o)) n p s = same_alike s
innermost_alike (Some (in_body b)) n p s = changed_alike b (add_node n p) s (λ x. refl)

node_alike : (bytes : List ℕ) (m : Made) (s : Loading) → Alike s (with_node bytes m s)
node_alike bytes m s =
    let a = beside_alike bytes m.node s in
    let b = innermost_alike (innermost s.around) (node_of s m.node) (place m.spot) (beside bytes m.node s) in
    record { bodies = b.bodies ∙ a.bodies; around = b.around ∙ a.around; waiting = b.waiting ∙ a.waiting }

-- Before each item, with what waits.
pub record Holds (n : ℕ) (es : List Entry) (s : Loading) (rest : List Item) : Type 0 where
  pub stands : Stands es (shapes s) s.around rest
  pub waiting : length s.waiting ≡ n

alike_holds : (n : ℕ) (es : List Entry) (s u : Loading) (rest : List Item) → Alike s u → Holds n es s rest → Holds n es u rest
alike_holds n es s u rest a h = record {
  stands = subst (λ xs. Stands es xs u.around rest) (sym a.bodies) (subst (λ os. Stands es (shapes s) os rest) (sym a.around) h.stands);
  waiting = ap length a.waiting ∙ h.waiting;
}

alike_on : (n : ℕ) (es : List Entry) (s u : Loading) (i : Item) (rest : List Item) → ((k : ℕ) → is_object k (i ∷ rest) ≡ is_object k rest) → Alike s u → Holds n es s (i ∷ rest) → Holds n es u rest
alike_on n es s u i rest same a h =
    alike_holds n es s u rest a (record { stands = stands_on es (shapes s) s.around i rest same h.stands; waiting = h.waiting })

-- Arguments and slots.

record Widened (s u : Loading) : Type 0 where
  around : u.around ≡ s.around
  waiting : u.waiting ≡ s.waiting

argument_wide : (o : Option Open) (n : ℕ) (s : Loading) → Widened s (argument_in o n s)
argument_wide None n s = record { around = refl; waiting = refl }
argument_wide (Some (in_object o)) n s = record { around = refl; waiting = refl }
argument_wide (Some (in_body b)) n s = record { around = refl; waiting = refl }

placed_wide : (o : Option Open) (n : ℕ) (f : SlotForm) (s : Loading) → Widened s (placed_in o n f s)
placed_wide None n f s = record { around = refl; waiting = refl }
placed_wide (Some (in_object o)) n f s = let a = add_slots_alike o (slots_for n f s.held) s in record { around = a.around; waiting = a.waiting }
placed_wide (Some (in_body b)) n f s = record { around = refl; waiting = refl }

argument_stands : (es : List Entry) (s : Loading) (os : List Open) (n : ℕ) (rest : List Item) → Stands es (shapes s) os (items.Argument n ∷ rest) → Stands (argued es) (shapes (argument_in (innermost os) n s)) os rest
argument_stands [] s [] n rest h = stands_on [] (shapes s) [] (items.Argument n) rest (λ k. refl) h
argument_stands [] s (o ∷ os) n rest h = absurd h.follows
argument_stands (e ∷ es) s [] n rest h = absurd h.follows
argument_stands (e ∷ es) s (in_object o ∷ os) n rest h =
    record { follows = h.follows; kinds = kinds_on (items.Argument n) rest (λ k. refl) 0 (in_object o ∷ os) h.kinds; lies = h.lies; closed = h.closed }
argument_stands (e ∷ es) s (in_body b ∷ os) n rest h =
    let d : Entry = entry e.named (e.arguments + 1) e.locals in
    subst (λ xs. Stands (d ∷ es) xs (in_body b ∷ os) rest)
    (sym (change_grows (add_argument n) (λ x. (x.0 + 1, x.1)) (λ x. ap (λ k. (k, length x.locals)) (length-append x.arguments (n ∷ []))) (slice_get s.bodies (b - 1)) s.bodies (b - 1) (counts e) refl h.follows.0.found))
    (stands_grown e d es (shapes s) b os (items.Argument n) rest (λ k. refl) h)

placed_stands : (es : List Entry) (s : Loading) (os : List Open) (n : ℕ) (f : SlotForm) (i : Item) (rest : List Item) → ((k : ℕ) → is_object k (i ∷ rest) ≡ is_object k rest) → Stands es (shapes s) os (i ∷ rest) →
    Stands (slotted es) (shapes (placed_in (innermost os) n f s)) os rest
placed_stands [] s [] n f i rest same h = stands_on [] (shapes s) [] i rest same h
placed_stands [] s (o ∷ os) n f i rest same h = absurd h.follows
placed_stands (e ∷ es) s [] n f i rest same h = absurd h.follows
placed_stands (e ∷ es) s (in_object o ∷ os) n f i rest same h =
    subst (λ xs. Stands (entry e.named e.arguments (e.locals + 1) ∷ es) xs (in_object o ∷ os) rest) (sym (add_slots_alike o (slots_for n f s.held) s).bodies)
    (record { follows = h.follows; kinds = kinds_on i rest same 0 (in_object o ∷ os) h.kinds; lies = h.lies; closed = h.closed })
placed_stands (e ∷ es) s (in_body b ∷ os) n f i rest same h =
    let d : Entry = entry e.named e.arguments (e.locals + 1) in
    subst (λ xs. Stands (d ∷ es) xs (in_body b ∷ os) rest)
    (sym (change_grows (add_local (local_for n f s.held)) (λ x. (x.0, x.1 + 1)) (λ x. ap (λ k. (length x.arguments, k)) (length-append x.locals (local_for n f s.held ∷ []))) (slice_get s.bodies (b - 1)) s.bodies (b - 1) (counts e) refl h.follows.0.found))
    (stands_grown e d es (shapes s) b os i rest same h)

slot_holds : (k : ℕ) (es : List Entry) (s : Loading) (n : ℕ) (f : SlotForm) (i : Item) (rest : List Item) → ((k : ℕ) → is_object k (i ∷ rest) ≡ is_object k rest) → Holds k es s (i ∷ rest) → Holds k (slotted es) (with_slot n f s) rest
slot_holds k es s n f i rest same h =
    let t : Loading = name_body s.held n f s in
    let a = name_alike s.held n f s in
    let w = placed_wide (innermost s.around) n f t in
    let m = subst (λ xs. Stands es xs s.around (i ∷ rest)) (sym a.bodies) h.stands in
    record {
      stands = subst (λ os. Stands (slotted es) (shapes (placed_in (innermost s.around) n f t)) os rest) (sym (w.around ∙ a.around)) (placed_stands es t s.around n f i rest same m);
      waiting = ap length (w.waiting ∙ a.waiting) ∙ h.waiting;
    }

-- Each item.

followed_alike : (s u : Loading) (p : Spot) (o : Option Value) → followed s p o ≡ Ok u → Alike s u
followed_alike s u p None e = cc
followed_alike s u p (Some v) e = subst (λ t. Alike s t) (ok_same (holding s v) u e) (record { bodies = refl; around = refl; waiting = refl })

ended_is : (s u : Loading) (p : Spot) (b : Bool) → (if b then Err (ParentNotObject (place p)) else Ok s) ≡ Ok u → s ≡ u
ended_is s u p true e = cc
ended_is s u p false e = ok_same s u e

map_more : (bodies : List Body) (b : Body) → map shape (bodies ++ b ∷ []) ≡ map shape bodies ++ shape b ∷ []
map_more [] b = refl
map_more (c ∷ bodies) b = ap (λ xs. shape c ∷ xs) (map_more bodies b)

opened_holds : (n : ℕ) (es : List Entry) (s : Loading) (p : Spot) (rest : List Item) (b : Bool) → is_object 0 rest ≡ b → IsSome es → Keeps 0 (entry n n 0 ∷ es) rest → Holds n es s (items.Opened p ∷ rest) →
    Holds 0 (entry n n 0 ∷ es) (opened b s) rest
opened_holds n es s p rest true on some keeps h =
    record { stands = stands_object n es (shapes s) s.around (length s.things) p rest h.stands; waiting = h.waiting ∙ no_named 0 (entry n n 0 ∷ es) rest 0 keeps on }
opened_holds n es s p rest false on some keeps h =
    let new : Body = record { name = None; outer = body_in (innermost s.around); arguments = s.waiting; locals = []; nodes = []; places = [] } in
    record {
      stands =
          subst (λ k. Stands (entry n n 0 ∷ es) (shapes (with_body s)) (in_body (k + 1) ∷ s.around) rest) (length-map s.bodies shape)
          (subst (λ xs. Stands (entry n n 0 ∷ es) xs (in_body (length (shapes s) + 1) ∷ s.around) rest) (ap (λ k. shapes s ++ (k, 0) ∷ []) (sym h.waiting) ∙ sym (map_more s.bodies new))
          (stands_body n es (shapes s) s.around p rest some on h.stands));
      waiting = refl;
    }

pub step_holds : (bytes : List ℕ) (n : ℕ) (es : List Entry) (i : Item) (rest : List Item) (s u : Loading) → Keeps n es (i ∷ rest) → Holds n es s (i ∷ rest) → take_item bytes i rest s ≡ Ok u → Holds (waits n i) (behind n es i) u rest
step_holds bytes n es (items.Node m) rest s u k h e =
    alike_on n es s u (items.Node m) rest (λ k. refl) (subst (λ t. Alike s t) (ok_same (with_node bytes m s) u e) (node_alike bytes m s)) h
step_holds bytes n es (items.Opened p) rest s u k h e =
    subst (λ t. Holds 0 (entry n n 0 ∷ es) t rest) (ok_same (opened (is_object 0 rest) s) u e) (opened_holds n es s p rest (is_object 0 rest) refl k.0.1 k.1 h)
step_holds bytes n es items.ClosedObject rest s u k h e =
    subst (λ t. Holds n (outer es) t rest) (ok_same (with_closed s) u e) (record { stands = stands_closed_object es (shapes s) s.around s.held rest k.0.0 h.stands; waiting = h.waiting })
step_holds bytes n es items.ClosedBody rest s u k h e =
    subst (λ t. Holds n (outer es) t rest) (ok_same (with_closed s) u e) (record { stands = stands_closed_body es (shapes s) s.around s.held rest k.0.0 k.0.1 h.stands; waiting = h.waiting })
step_holds bytes n es (items.Integer z) rest s u k h e =
    alike_on n es s u (items.Integer z) rest (λ k. refl) (subst (λ t. Alike s t) (ok_same (holding s (integer z)) u e) (record { bodies = refl; around = refl; waiting = refl })) h
step_holds bytes n es (items.Text a b) rest s u k h e =
    alike_on n es s u (items.Text a b) rest (λ k. refl) (subst (λ t. Alike s t) (ok_same (holding (with_string bytes a b s) (object (length s.things))) u e) (record { bodies = refl; around = refl; waiting = refl })) h
step_holds bytes n es (items.Root x p) rest s u k h e = alike_on n es s u (items.Root x p) rest (λ k. refl) (followed_alike s u p (root s x) e) h
step_holds bytes n es (items.Further x p) rest s u k h e = alike_on n es s u (items.Further x p) rest (λ k. refl) (followed_alike s u p (further s s.held x) e) h
step_holds bytes n es (items.Argument x) rest s u k h e =
    let w = argument_wide (innermost s.around) x s in
    subst (λ t. Holds n (argued es) t rest) (ok_same (with_argument x s) u e)
    (record {
      stands = subst (λ os. Stands (argued es) (shapes (argument_in (innermost s.around) x s)) os rest) (sym w.around) (argument_stands es s s.around x rest h.stands);
      waiting = ap length w.waiting ∙ h.waiting;
    })
step_holds bytes n es (items.Named x) rest s u k h e =
    subst (λ t. Holds (n + 1) es t rest) (ok_same (with_waiting x s) u e)
    (record { stands = stands_on es (shapes s) s.around (items.Named x) rest (λ k. refl) h.stands; waiting = length-append s.waiting (x ∷ []) ∙ ap (λ k. k + 1) h.waiting })
step_holds bytes n es (items.Slot w f p) rest s u k h e =
    let t : Loading = record s { names = with_words s.names w } in
    subst (λ v. Holds n (slotted es) v rest) (ended_is (with_slot (word_number s.names w) f t) u p (is_parent f && not (may_be_parent s s.held)) e)
    (slot_holds n es t (word_number s.names w) f (items.Slot w f p) rest (λ k. refl) (record { stands = h.stands; waiting = h.waiting }))

pub begins_holds : (names : List (List ℕ)) (rest : List Item) → Holds 0 (entry 0 0 0 ∷ []) (begun names) rest
begins_holds names rest = record { stands = record { follows = tt; kinds = tt; lies = tt; closed = λ i x e. cc }; waiting = refl }

-- Behind the last item every body has few.
none_open : (i : ℕ) (es : List Entry) (xs : List Shape) (os : List Open) → IsOne es → Follows xs es os → Lies os → IsOpen i os → ⊥
none_open i [] xs os one f h k = one
none_open i (e ∷ d ∷ es) xs os one f h k = one
none_open i (e ∷ []) xs [] one f h k = f
none_open i (e ∷ []) xs (in_object o ∷ []) one f h k = k
none_open i (e ∷ []) xs (in_body b ∷ []) one f h k = h
none_open i (e ∷ []) xs (in_object o ∷ p ∷ os) one f h k = f
none_open i (e ∷ []) xs (in_body b ∷ p ∷ os) one f h k = f.1

pub ends_few : (n : ℕ) (es : List Entry) (s : Loading) → IsOne es → Holds n es s [] → (k : ℕ) (b : Body) → slice_get s.bodies k ≡ Some b → IsFewShape (shape b)
ends_few n es s one h k b at =
    elim (h.stands.closed k (shape b) (shape_at s.bodies k b at)) [ inl a ↦ absurd (none_open k es (shapes s) s.around one h.stands.follows h.stands.lies a) | inr a ↦ a ]
