-- What is open while balanced items are read, and the bodies that were closed.
use Rattle.std.specs.Prelude.{◌≡◌, ℕ, zero, suc, ◌+◌, ◌-◌, ◌<◌, ◌≤◌, Bool, true, false, Some, List, [], ◌∷◌, ◌++◌, length, slice_get, slice_set, refl}
use Rattle.std.proofs.Common.{ap, sym, subst, ◌∙◌, arith, ◌⊎◌, inl, inr}
use Rattle.std.proofs.lemmas.Option.{slice_get_within}
use Rattle.self_terms.specs.declared.nodes.Node.{Node}
use Rattle.self_terms.specs.declared.nodes.Place.{Place}
use Rattle.self_grammar.specs.declared.signs.Spot.{Spot}
use Rattle.self_grammar.specs.declared.pieces.Made.{Made}
use Rattle.self_grammar.specs.declared.pieces.Item.{Item}
use Rattle.self_grammar.specs.declared.pieces.Item.TheVariants as items
use Rattle.self_grammar.specs.Counts.{Limits}
use Rattle.self_grammar.specs.Balance.{Entry, fresh, admits, behind}
use Rattle.world_build.specs.declared.values.Open.{Open}
use Rattle.world_build.specs.declared.values.Open.TheVariants.{InObject as in_object, InBody as in_body}
use Rattle.world_build.specs.Loading.{is_object}
use Rattle.world_build.specs.Nodes.{found}
use Rattle.world_build.specs.Soundness.{IsSound}
use Rattle.world_build.proofs.Growing.{Fits, Growing, Shape, begun_growing, growing_more, growing_sound}

-- Elements by their numbers.

pub get_append : {X : Type 0} (xs : List X) (y : X) (i : ℕ) (x : X) → slice_get xs i ≡ Some x → slice_get (xs ++ y ∷ []) i ≡ Some x
get_append [] y i x e = cc
get_append (z ∷ xs) y zero x e = e
get_append (z ∷ xs) y (suc i) x e = get_append xs y i x e

pub get_last : {X : Type 0} (xs : List X) (y : X) → slice_get (xs ++ y ∷ []) (length xs) ≡ Some y
get_last [] y = refl
get_last (z ∷ xs) y = get_last xs y

pub in_append : {X : Type 0} (xs : List X) (y : X) (i : ℕ) (x : X) → slice_get (xs ++ y ∷ []) i ≡ Some x → (slice_get xs i ≡ Some x) ⊎ (i ≡ length xs)
in_append [] y zero x e = inr refl
in_append [] y (suc i) x e = cc
in_append (z ∷ xs) y zero x e = inl e
in_append (z ∷ xs) y (suc i) x e = elim (in_append xs y i x e) [ inl a ↦ inl a | inr b ↦ inr (ap suc b) ]

pub get_set : {X : Type 0} (xs : List X) (j : ℕ) (x y : X) → slice_get xs j ≡ Some x → slice_get (slice_set xs j y) j ≡ Some y
get_set [] j x y e = cc
get_set (z ∷ xs) zero x y e = refl
get_set (z ∷ xs) (suc j) x y e = get_set xs j x y e

pub get_unset : {X : Type 0} (xs : List X) (j i : ℕ) (x y : X) → i < j → slice_get xs i ≡ Some x → slice_get (slice_set xs j y) i ≡ Some x
get_unset [] j i x y h e = cc
get_unset (z ∷ xs) zero i x y h e = absurd (omega arith)
get_unset (z ∷ xs) (suc j) zero x y h e = e
get_unset (z ∷ xs) (suc j) (suc i) x y h e = get_unset xs j i x y (omega arith) e

pub in_set : {X : Type 0} (xs : List X) (j i : ℕ) (x y : X) → slice_get (slice_set xs j y) i ≡ Some x → (slice_get xs i ≡ Some x) ⊎ (j ≡ i)
in_set [] j i x y e = inl e
in_set (z ∷ xs) zero zero x y e = inr refl
in_set (z ∷ xs) zero (suc i) x y e = inl e
in_set (z ∷ xs) (suc j) zero x y e = inl e
in_set (z ∷ xs) (suc j) (suc i) x y e = elim (in_set xs j i x y e) [ inl a ↦ inl a | inr b ↦ inr (ap suc b) ]

-- What is open, beside the entries of the walk. The outermost is the lobby, which has no entry.

-- the body of that index is open
abbrev pub IsOpen : ℕ → List Open → Type 0
IsOpen i [] = ⊥
IsOpen i (in_object o ∷ os) = IsOpen i os
IsOpen i (in_body b ∷ os) = (b ≡ i + 1) ⊎ IsOpen i os

abbrev pub NoBody : List Open → Type 0
NoBody [] = Unit {0}
NoBody (in_object o ∷ os) = NoBody os
NoBody (in_body b ∷ os) = ⊥

-- the open bodies have smaller numbers
abbrev pub Below : ℕ → List Open → Type 0
Below n [] = Unit {0}
Below n (in_object o ∷ os) = Below n os
Below n (in_body b ∷ os) = (b < n) × Below n os

pub record OpenBody (xs : List Shape) (e : Entry) (b : ℕ) (os : List Open) : Type 0 where
  pub given : 0 < b
  pub shape : Shape
  pub found : slice_get xs (b - 1) ≡ Some shape
  pub growing : Growing e shape
  pub below : Below b os

abbrev pub Follows : List Shape → List Entry → List Open → Type 0
Follows xs [] os = NoBody os
Follows xs (e ∷ es) [] = ⊥
Follows xs (e ∷ es) (in_object o ∷ os) = Follows xs es os
Follows xs (e ∷ es) (in_body b ∷ os) = OpenBody xs e b os × Follows xs es os

pub none_below : (n : ℕ) (os : List Open) → NoBody os → Below n os
none_below n [] h = tt
none_below n (in_object o ∷ os) h = none_below n os h
none_below n (in_body b ∷ os) h = absurd h

pub all_below : (xs : List Shape) (es : List Entry) (os : List Open) → Follows xs es os → Below (length xs + 1) os
all_below xs [] os h = none_below (length xs + 1) os h
all_below xs (e ∷ es) [] h = tt
all_below xs (e ∷ es) (in_object o ∷ os) h = all_below xs es os h
all_below xs (e ∷ es) (in_body b ∷ os) h =
    let given : 0 < b = h.0.given in
    let in_range : b - 1 < length xs = slice_get_within xs (b - 1) h.0.shape h.0.found in
    (omega arith, all_below xs es os h.1)

-- one body more
pub follows_append : (xs : List Shape) (y : Shape) (es : List Entry) (os : List Open) → Follows xs es os → Follows (xs ++ y ∷ []) es os
follows_append xs y [] os h = h
follows_append xs y (e ∷ es) [] h = h
follows_append xs y (e ∷ es) (in_object o ∷ os) h = follows_append xs y es os h
follows_append xs y (e ∷ es) (in_body b ∷ os) h =
    (record { given = h.0.given; shape = h.0.shape; found = get_append xs y (b - 1) h.0.shape h.0.found; growing = h.0.growing; below = h.0.below }, follows_append xs y es os h.1)

-- a body inside those changes
pub follows_set : (xs : List Shape) (b : ℕ) (y : Shape) (es : List Entry) (os : List Open) → Below b os → Follows xs es os → Follows (slice_set xs (b - 1) y) es os
follows_set xs b y [] os low h = h
follows_set xs b y (e ∷ es) [] low h = h
follows_set xs b y (e ∷ es) (in_object o ∷ os) low h = follows_set xs b y es os low h
follows_set xs b y (e ∷ es) (in_body c ∷ os) low h =
    let given : 0 < c = h.0.given in
    let first : c < b = low.0 in
    (record { given = h.0.given; shape = h.0.shape; found = get_unset xs (b - 1) (c - 1) h.0.shape y (omega arith) h.0.found; growing = h.0.growing; below = h.0.below }, follows_set xs b y es os low.1 h.1)

pub none_open : (i : ℕ) (os : List Open) → NoBody os → IsOpen i os → ⊥
none_open i [] h k = k
none_open i (in_object o ∷ os) h k = none_open i os h k
none_open i (in_body b ∷ os) h k = h

-- what is open is closed by an item of its kind
abbrev pub opens_object : Open → Bool
opens_object (in_object o) = true
opens_object (in_body b) = false

abbrev pub Kinds : ℕ → List Entry → List Open → List Item → Type 0
Kinds k [] os rest = Unit {0}
Kinds k (e ∷ es) [] rest = Unit {0}
Kinds k (e ∷ es) (o ∷ os) rest = (is_object k rest ≡ opens_object o) × Kinds (k + 1) es os rest

pub kinds_on : (i : Item) (rest : List Item) → ((k : ℕ) → is_object k (i ∷ rest) ≡ is_object k rest) → (k : ℕ) (es : List Entry) (os : List Open) → Kinds k es os (i ∷ rest) → Kinds k es os rest
kinds_on i rest same k [] os h = tt
kinds_on i rest same k (e ∷ es) [] h = tt
kinds_on i rest same k (e ∷ es) (o ∷ os) h = (sym (same k) ∙ h.0, kinds_on i rest same (k + 1) es os h.1)

pub kinds_in : (i : Item) (rest : List Item) → ((k : ℕ) → is_object k (i ∷ rest) ≡ is_object (k + 1) rest) → (k : ℕ) (es : List Entry) (os : List Open) → Kinds k es os (i ∷ rest) → Kinds (k + 1) es os rest
kinds_in i rest same k [] os h = tt
kinds_in i rest same k (e ∷ es) [] h = tt
kinds_in i rest same k (e ∷ es) (o ∷ os) h = (sym (same k) ∙ h.0, kinds_in i rest same (k + 1) es os h.1)

pub kinds_out : (i : Item) (rest : List Item) → ((k : ℕ) → is_object (k + 1) (i ∷ rest) ≡ is_object k rest) → (k : ℕ) (es : List Entry) (os : List Open) → Kinds (k + 1) es os (i ∷ rest) → Kinds k es os rest
kinds_out i rest same k [] os h = tt
kinds_out i rest same k (e ∷ es) [] h = tt
kinds_out i rest same k (e ∷ es) (o ∷ os) h = (sym (same k) ∙ h.0, kinds_out i rest same (k + 1) es os h.1)

-- What is so before each item: of the bodies, of what is open and of what comes.
pub record Stands (es : List Entry) (xs : List Shape) (os : List Open) (rest : List Item) : Type 0 where
  pub follows : Follows xs es os
  pub kinds : Kinds 0 es os rest
  pub closed : (i : ℕ) (x : Shape) → slice_get xs i ≡ Some x → IsOpen i os ⊎ IsSound x.0 x.1

-- an item that opens and closes nothing, and makes no node
pub stands_on : (es : List Entry) (xs : List Shape) (os : List Open) (i : Item) (rest : List Item) → ((k : ℕ) → is_object k (i ∷ rest) ≡ is_object k rest) → Stands es xs os (i ∷ rest) → Stands es xs os rest
stands_on es xs os i rest same h = record { follows = h.follows; kinds = kinds_on i rest same 0 es os h.kinds; closed = h.closed }

pub stands_object : (es : List Entry) (xs : List Shape) (os : List Open) (o : ℕ) (p : Spot) (rest : List Item) → is_object 0 rest ≡ true → Stands es xs os (items.Opened p ∷ rest) →
    Stands (fresh ∷ es) xs (in_object o ∷ os) rest
stands_object es xs os o p rest on h = record {
  follows = h.follows;
  kinds = (on, kinds_in (items.Opened p) rest (λ k. refl) 0 es os h.kinds);
  closed = h.closed;
}

pub stands_body : (es : List Entry) (xs : List Shape) (os : List Open) (p : Spot) (rest : List Item) → is_object 0 rest ≡ false → Stands es xs os (items.Opened p ∷ rest) →
    Stands (fresh ∷ es) (xs ++ ([], []) ∷ []) (in_body (length xs + 1) ∷ os) rest
stands_body es xs os p rest on h =
    let at : length xs + 1 - 1 ≡ length xs = omega arith in
    record {
      follows = (
        record {
          given = omega arith;
          shape = ([], []);
          found = ap (λ i. slice_get (xs ++ ([], []) ∷ []) i) at ∙ get_last xs ([], []);
          growing = begun_growing;
          below = all_below xs es os h.follows;
        },
        follows_append xs ([], []) es os h.follows,
      );
      kinds = (on, kinds_in (items.Opened p) rest (λ k. refl) 0 es os h.kinds);
      closed = λ i x e.
          elim (in_append xs ([], []) i x e) [
            | inl a ↦ elim (h.closed i x a) [ inl b ↦ inl (inr b) | inr b ↦ inr b ]
            | inr a ↦ inl (inl (ap (λ k. k + 1) (sym a)))
          ];
    }

-- a node of the innermost body
pub stands_node : (l : Limits) (e : Entry) (es : List Entry) (xs : List Shape) (b : ℕ) (os : List Open) (m : Made) (rest : List Item) (n : Node) (p : Place) → l.pending ≤ 64 → l.body ≤ 1024 →
    admits l e m.node ≡ true → Fits m.node n → (h : Stands (e ∷ es) xs (in_body b ∷ os) (items.Node m ∷ rest)) →
    Stands (behind e m.node ∷ es) (slice_set xs (b - 1) (h.follows.0.shape.0 ++ n ∷ [], h.follows.0.shape.1 ++ p ∷ [])) (in_body b ∷ os) rest
stands_node l e es xs b os m rest n p lp lb ok f h =
    let o = h.follows.0 in
    let given : 0 < b = o.given in
    let y : Shape = (o.shape.0 ++ n ∷ [], o.shape.1 ++ p ∷ []) in
    record {
      follows = (
        record { given = o.given; shape = y; found = get_set xs (b - 1) o.shape y o.found; growing = growing_more l e o.shape m.node n p lp lb o.growing ok f; below = o.below },
        follows_set xs b y es os o.below h.follows.1,
      );
      kinds = kinds_on (items.Node m) rest (λ k. refl) 0 (behind e m.node ∷ es) (in_body b ∷ os) h.kinds;
      closed = λ i x e. elim (in_set xs (b - 1) i x y e) [ inl a ↦ h.closed i x a | inr a ↦ inl (inl (omega arith)) ];
    }

-- the innermost closes
pub out_object : (k : ℕ) (rest : List Item) → is_object (k + 1) (items.ClosedObject ∷ rest) ≡ is_object k rest
out_object k rest = let e : k + 1 ≡ suc k = omega arith in rw e refl

pub out_body : (k : ℕ) (rest : List Item) → is_object (k + 1) (items.ClosedBody ∷ rest) ≡ is_object k rest
out_body k rest = let e : k + 1 ≡ suc k = omega arith in rw e refl

pub stands_closed_object : (e : Entry) (es : List Entry) (xs : List Shape) (o : Open) (os : List Open) (rest : List Item) → Stands (e ∷ es) xs (o ∷ os) (items.ClosedObject ∷ rest) → Stands es xs os rest
stands_closed_object e es xs (in_object o) os rest h =
    record { follows = h.follows; kinds = kinds_out items.ClosedObject rest (λ k. out_object k rest) 0 es os h.kinds.1; closed = h.closed }
stands_closed_object e es xs (in_body b) os rest h = cc (h.kinds.0)

pub this_one : (xs : List Shape) (b i : ℕ) (y x : Shape) → b ≡ i + 1 → slice_get xs (b - 1) ≡ Some y → slice_get xs i ≡ Some x → IsSound y.0 y.1 → IsSound x.0 x.1
this_one xs b i y x c found at h =
    let e : b - 1 ≡ i = omega arith in
    let both_there : Some y ≡ Some x = sym found ∙ ap (λ j. slice_get xs j) e ∙ at in
    let same : y ≡ x = cc in
    subst (λ z. IsSound z.0 z.1) same h

pub stands_closed_body : (e : Entry) (es : List Entry) (xs : List Shape) (o : Open) (os : List Open) (rest : List Item) → e.ended ≡ true → Stands (e ∷ es) xs (o ∷ os) (items.ClosedBody ∷ rest) → Stands es xs os rest
stands_closed_body e es xs (in_object o) os rest on h = cc (h.kinds.0)
stands_closed_body e es xs (in_body b) os rest on h =
    let f = h.follows.0 in
    let sound : IsSound f.shape.0 f.shape.1 = growing_sound e f.shape f.growing on in
    record {
      follows = h.follows.1;
      kinds = kinds_out items.ClosedBody rest (λ k. out_body k rest) 0 es os h.kinds.1;
      closed = λ i x at.
          elim (h.closed i x at) [
            | inl a ↦ elim a [
              | inl c ↦ inr (this_one xs b i f.shape x c f.found at sound)
              | inr c ↦ inl c
            ]
            | inr a ↦ inr a
          ];
    }
