-- What is counted along the items of a text: the arguments and locals of each open body, and how many bodies and objects are open.
use Rattle.std.specs.Prelude.{◌≡◌, ℕ, zero, suc, ◌+◌, ◌≤◌, true, List, [], ◌∷◌, length, refl}
use Rattle.std.proofs.Common.{ap, sym, ◌∙◌, arith}
use Rattle.self_grammar.specs.declared.pieces.TextNode.{TextNode}
use Rattle.self_grammar.specs.declared.pieces.TextNode.TheVariants as nodes
use Rattle.self_grammar.specs.declared.pieces.Item.{Item}
use Rattle.self_grammar.specs.declared.pieces.Item.TheVariants as items
use Rattle.self_terms.specs.Depths.{one_if}
use Rattle.world_build.specs.Loading.{is_object}

-- An open object or body, the lobby among them: the arguments that were named before it opened, its arguments with those, its other slots.
pub record Entry : Type 0 where
  pub named : ℕ
  pub arguments : ℕ
  pub locals : ℕ

abbrev pub entry : ℕ → ℕ → ℕ → Entry
entry v a b = record { named = v; arguments = a; locals = b }

abbrev pub argued : List Entry → List Entry
argued [] = []
argued (e ∷ es) = entry e.named (e.arguments + 1) e.locals ∷ es

abbrev pub slotted : List Entry → List Entry
slotted [] = []
slotted (e ∷ es) = entry e.named e.arguments (e.locals + 1) ∷ es

abbrev pub outer : List Entry → List Entry
outer [] = []
outer (e ∷ es) = es

-- a message has at most five arguments, a primitive with its handler as well
abbrev pub IsFew : TextNode → Type 0
IsFew (nodes.Message to words args) = args ≤ 5
IsFew (nodes.Primitive words args implied handler) = args + one_if handler ≤ 5
IsFew _ = Unit {0}

-- something is open,
abbrev pub IsSome : List Entry → Type 0
IsSome [] = ⊥
IsSome (e ∷ es) = Unit {0}

-- inside the lobby
abbrev pub IsInner : List Entry → Type 0
IsInner [] = ⊥
IsInner (e ∷ []) = ⊥
IsInner (e ∷ d ∷ es) = Unit {0}

-- an object has no named arguments
abbrev pub ClosesObject : List Entry → Type 0
ClosesObject [] = ⊥
ClosesObject (e ∷ es) = e.named ≡ 0

-- a body has few arguments and locals
abbrev pub ClosesBody : List Entry → Type 0
ClosesBody [] = ⊥
ClosesBody (e ∷ es) = (e.arguments ≤ 5) × (e.locals ≤ 64)

-- An item is right before which so many arguments wait and this is open.
abbrev pub Fits : ℕ → List Entry → Item → Type 0
Fits n es (items.Node m) = IsFew m.node
Fits n es (items.Opened p) = (length es ≤ 64) × IsSome es
Fits n es items.ClosedObject = IsInner es × ClosesObject es
Fits n es items.ClosedBody = IsInner es × ClosesBody es
Fits n es (items.Integer z) = Unit {0}
Fits n es (items.Text i j) = Unit {0}
Fits n es (items.Root k p) = Unit {0}
Fits n es (items.Further k p) = Unit {0}
Fits n es (items.Argument k) = Unit {0}
Fits n es (items.Named k) = Unit {0}
Fits n es (items.Slot w f p) = Unit {0}

-- how many arguments wait behind it
abbrev pub waits : ℕ → Item → ℕ
waits n (items.Opened p) = 0
waits n (items.Named k) = n + 1
waits n _ = n

-- and what is open
abbrev pub behind : ℕ → List Entry → Item → List Entry
behind n es (items.Opened p) = entry n n 0 ∷ es
behind n es items.ClosedObject = outer es
behind n es items.ClosedBody = outer es
behind n es (items.Argument k) = argued es
behind n es (items.Slot w f p) = slotted es
behind n es _ = es

abbrev pub IsOne : List Entry → Type 0
IsOne [] = ⊥
IsOne (e ∷ []) = Unit {0}
IsOne (e ∷ d ∷ es) = ⊥

-- All items are right, and the lobby alone is open behind them.
abbrev pub Keeps : ℕ → List Entry → List Item → Type 0
Keeps n es [] = IsOne es
Keeps n es (i ∷ is) = Fits n es i × Keeps (waits n i) (behind n es i) is

-- What is an object has no named arguments: how many named ones what is so many levels out has.
abbrev pub named_at : ℕ → List Entry → ℕ
named_at k [] = 0
named_at zero (e ∷ es) = e.named
named_at (suc k) (e ∷ es) = named_at k es

named_argued : (k : ℕ) (es : List Entry) → named_at k (argued es) ≡ named_at k es
named_argued k [] = refl
named_argued zero (e ∷ es) = refl
named_argued (suc k) (e ∷ es) = refl

named_slotted : (k : ℕ) (es : List Entry) → named_at k (slotted es) ≡ named_at k es
named_slotted k [] = refl
named_slotted zero (e ∷ es) = refl
named_slotted (suc k) (e ∷ es) = refl

named_outer : (k : ℕ) (es : List Entry) → IsInner es → named_at (suc k) es ≡ named_at k (outer es)
named_outer k [] h = absurd h
named_outer k (e ∷ es) h = refl

closes_none : (es : List Entry) → ClosesObject es → named_at 0 es ≡ 0
closes_none [] h = absurd h
closes_none (e ∷ es) h = h

pub no_named : (n : ℕ) (es : List Entry) (is : List Item) (k : ℕ) → Keeps n es is → is_object k is ≡ true → named_at k es ≡ 0
no_named n es [] k h e = cc
no_named n es (items.Opened p ∷ is) k h e =
    let up : k + 1 ≡ suc k = omega arith in
    no_named 0 (entry n n 0 ∷ es) is (suc k) h.1 (ap (λ j. is_object j is) (sym up) ∙ e)
no_named n es (items.ClosedObject ∷ is) zero h e = closes_none es h.0.1
no_named n es (items.ClosedObject ∷ is) (suc k) h e = named_outer k es h.0.0 ∙ no_named n (outer es) is k h.1 e
no_named n es (items.ClosedBody ∷ is) zero h e = cc
no_named n es (items.ClosedBody ∷ is) (suc k) h e = named_outer k es h.0.0 ∙ no_named n (outer es) is k h.1 e
no_named n es (items.Node m ∷ is) k h e = no_named n es is k h.1 e
no_named n es (items.Integer z ∷ is) k h e = no_named n es is k h.1 e
no_named n es (items.Text i j ∷ is) k h e = no_named n es is k h.1 e
no_named n es (items.Root j p ∷ is) k h e = no_named n es is k h.1 e
no_named n es (items.Further j p ∷ is) k h e = no_named n es is k h.1 e
no_named n es (items.Argument j ∷ is) k h e = sym (named_argued k es) ∙ no_named n (argued es) is k h.1 e
no_named n es (items.Named j ∷ is) k h e = no_named (n + 1) es is k h.1 e
no_named n es (items.Slot w f p ∷ is) k h e = sym (named_slotted k es) ∙ no_named n (slotted es) is k h.1 e
