-- What is so of the items of a text with nothing wrong, one after the other: what its names are, what a method slot holds, what a block literal opens.
use Rattle.std.specs.Prelude.{◌≡◌, ℕ, zero, suc, ◌+◌, ◌<◌, ◌≤◌, ◌==◌, nat_eq, Bool, true, false, count_by, Option, None, Some, List, [], ◌∷◌, ◌++◌, length, refl}
use Rattle.std.specs.List.{list_any}
use Rattle.std.proofs.Common.{ap, sym, ◌∙◌, arith}
use Rattle.self_terms.specs.Names.{text_of}
use Rattle.self_grammar.specs.declared.signs.Symbol.{Symbol}
use Rattle.self_grammar.specs.declared.signs.Symbol.TheVariants as symbol
use Rattle.self_grammar.specs.declared.pieces.Words.{Words}
use Rattle.self_grammar.specs.declared.pieces.Words.TheVariants as words
use Rattle.self_grammar.specs.declared.pieces.Target.{Target}
use Rattle.self_grammar.specs.declared.pieces.Target.TheVariants as target
use Rattle.self_grammar.specs.declared.pieces.TextNode.{TextNode}
use Rattle.self_grammar.specs.declared.pieces.TextNode.TheVariants as nodes
use Rattle.self_grammar.specs.declared.pieces.SlotForm.{SlotForm}
use Rattle.self_grammar.specs.declared.pieces.SlotForm.TheVariants as form
use Rattle.self_grammar.specs.declared.pieces.Item.{Item}
use Rattle.self_grammar.specs.declared.pieces.Item.TheVariants as items
use Rattle.self_grammar.specs.Parts.{parts_in}
use Rattle.source_model.specs.Names.{number_of}
use Rattle.source_model.specs.Formed.{is_letter, arity, HasText}
use Rattle.world_build.specs.Names.{joined}
use Rattle.world_build.specs.Loading.{is_object}

-- Texts.

abbrev pub colons : List ℕ → ℕ
colons text = count_by (λ x. x == 58) text

abbrev pub begins_lettered : List ℕ → Bool
begins_lettered [] = false
begins_lettered (c ∷ cs) = is_letter c

pub arity_lettered : (t : List ℕ) → begins_lettered t ≡ true → arity t ≡ colons t
arity_lettered [] e = cc
arity_lettered (c ∷ cs) e = rw e refl

-- The names of a text's signs, by their numbers.

pub record Spelt (names : List (List ℕ)) (n : ℕ) (text : List ℕ) : Type 0 where
  pub number : number_of names text ≡ n
  pub given : text_of names n ≡ Some text

-- a name that is no keyword and no operator, and the name of its assignment slot
pub record IsPlain (names : List (List ℕ)) (n setter : ℕ) : Type 0 where
  pub text : List ℕ
  pub spelt : Spelt names n text
  pub lettered : begins_lettered text ≡ true
  pub colonless : colons text ≡ 0
  pub set : text_of names setter ≡ Some (text ++ 58 ∷ [])

pub record IsKeyword (names : List (List ℕ)) (n : ℕ) : Type 0 where
  pub text : List ℕ
  pub spelt : Spelt names n text
  pub lettered : begins_lettered text ≡ true
  pub one : colons text ≡ 1

pub record IsPart (names : List (List ℕ)) (n : ℕ) : Type 0 where
  pub text : List ℕ
  pub given : text_of names n ≡ Some text
  pub one : colons text ≡ 1

pub record IsOperator (names : List (List ℕ)) (n : ℕ) : Type 0 where
  pub text : List ℕ
  pub spelt : Spelt names n text
  pub one : arity text ≡ 1

-- what is so of the names of a sign
abbrev pub OfSymbol : List (List ℕ) → Symbol → Type 0
OfSymbol names (symbol.Name n setter r) = IsPlain names n setter
OfSymbol names (symbol.Keyword n) = IsKeyword names n
OfSymbol names (symbol.CapitalKeyword n h) = IsPart names n
OfSymbol names (symbol.Operator n r) = IsOperator names n
OfSymbol names (symbol.Delegate n r) = HasText names n
OfSymbol names _ = Unit {0}

-- Names in parts.

abbrev pub AllGiven : List (List ℕ) → List ℕ → Type 0
AllGiven names [] = Unit {0}
AllGiven names (p ∷ ps) = HasText names p × AllGiven names ps

-- a name of one part has that part's number; one of several has colons
abbrev pub IsWhole : List (List ℕ) → Words → Type 0
IsWhole names (words.One n) = (text : List ℕ) × Spelt names n text
IsWhole names (words.Two a b) = 0 < colons (joined names (a ∷ b ∷ []))
IsWhole names (words.Three a b c) = 0 < colons (joined names (a ∷ b ∷ c ∷ []))
IsWhole names (words.Four a b c d) = 0 < colons (joined names (a ∷ b ∷ c ∷ d ∷ []))
IsWhole names (words.Five a b c d e) = 0 < colons (joined names (a ∷ b ∷ c ∷ d ∷ e ∷ []))

pub record IsNamed (names : List (List ℕ)) (w : Words) : Type 0 where
  pub given : AllGiven names (parts_in w)
  pub whole : IsWhole names w

-- a message of this name has so many arguments
pub record Calls (names : List (List ℕ)) (w : Words) (args : ℕ) : Type 0 where
  pub given : AllGiven names (parts_in w)
  pub arity : arity (joined names (parts_in w)) ≡ args
  pub few : args ≤ 5

abbrev pub TargetFits : List (List ℕ) → Target → Type 0
TargetFits names (target.Parent p) = HasText names p
TargetFits names _ = Unit {0}

-- Nodes that are no block literals.
abbrev pub NodeFits : List (List ℕ) → TextNode → Type 0
NodeFits names (nodes.Message to w args) = TargetFits names to × Calls names w args
NodeFits names nodes.Block = ⊥
NodeFits names _ = Unit {0}

-- What opens next is closed as a body.
abbrev pub OpensBody : List Item → Type 0
OpensBody [] = ⊥
OpensBody (items.Opened p ∷ rest) = is_object 0 rest ≡ false
OpensBody (i ∷ rest) = ⊥

abbrev pub NodeStands : List (List ℕ) → TextNode → List Item → Type 0
NodeStands names nodes.Block rest = OpensBody rest
NodeStands names (nodes.Integer z) rest = Unit {0}
NodeStands names (nodes.Text i j) rest = Unit {0}
NodeStands names nodes.Itself rest = Unit {0}
NodeStands names nodes.Nil rest = Unit {0}
NodeStands names (nodes.Message to w args) rest = TargetFits names to × Calls names w args
NodeStands names (nodes.Primitive w args implied handler) rest = Unit {0}
NodeStands names nodes.Drop rest = Unit {0}
NodeStands names nodes.Restart rest = Unit {0}
NodeStands names nodes.Return rest = Unit {0}
NodeStands names nodes.End rest = Unit {0}

-- What is open: the arguments that were named before it opened, its arguments with those, whether it surely is a block, and the names of its
-- slots that have one part.
pub record Frame : Type 0 where
  pub named : ℕ
  pub arguments : ℕ
  pub block : Bool
  pub names : List ℕ

abbrev pub frame : ℕ → ℕ → Bool → List ℕ → Frame
frame v a b ns = record { named = v; arguments = a; block = b; names = ns }

abbrev pub added : Words → List ℕ → List ℕ
added (words.One n) ns = n ∷ ns
added (words.Two a b) ns = ns
added (words.Three a b c) ns = ns
added (words.Four a b c d) ns = ns
added (words.Five a b c d e) ns = ns

abbrev pub argued : List Frame → List Frame
argued [] = []
argued (e ∷ es) = frame e.named (e.arguments + 1) e.block e.names ∷ es

abbrev pub slotted : Words → List Frame → List Frame
slotted w [] = []
slotted w (e ∷ es) = frame e.named e.arguments e.block (added w e.names) ∷ es

abbrev pub outer : List Frame → List Frame
outer [] = []
outer (e ∷ es) = es

abbrev pub IsSome : List Frame → Type 0
IsSome [] = ⊥
IsSome (e ∷ es) = Unit {0}

abbrev pub IsInner : List Frame → Type 0
IsInner [] = ⊥
IsInner (e ∷ []) = ⊥
IsInner (e ∷ d ∷ es) = Unit {0}

abbrev pub IsOne : List Frame → Type 0
IsOne [] = ⊥
IsOne (e ∷ []) = Unit {0}
IsOne (e ∷ d ∷ es) = ⊥

abbrev pub ClosesObject : List Frame → Type 0
ClosesObject [] = ⊥
ClosesObject (e ∷ es) = (e.named ≡ 0) × (e.block ≡ false)

abbrev pub given_by : List Frame → Option ℕ
given_by [] = None
given_by (e ∷ es) = Some e.arguments

-- no slot of what is open innermost has this name
abbrev pub IsNew : ℕ → List Frame → Type 0
IsNew n [] = Unit {0}
IsNew n (e ∷ es) = list_any (nat_eq n) e.names ≡ false

abbrev pub Sets : List (List ℕ) → List Frame → Words → ℕ → Type 0
Sets names es (words.One n) setter = IsPlain names n setter × IsNew n es
Sets names es (words.Two a b) setter = ⊥
Sets names es (words.Three a b c) setter = ⊥
Sets names es (words.Four a b c d) setter = ⊥
Sets names es (words.Five a b c d e) setter = ⊥

-- A slot that ends where the arguments of a body that was just closed are these: a method's slot takes so many.
abbrev pub SlotFits : List (List ℕ) → List Frame → Option ℕ → Words → SlotForm → Type 0
SlotFits names es z w form.Constant = IsNamed names w
SlotFits names es z w (form.Assignable setter) = IsNamed names w × Sets names es w setter
SlotFits names es z w (form.Bare setter) = IsNamed names w × Sets names es w setter
SlotFits names es z w form.Parent = IsNamed names w
SlotFits names es z w form.Method = IsNamed names w × (z ≡ Some (arity (joined names (parts_in w))))

-- All items are right before which so many arguments wait, this is open, and a body of so many arguments was just closed.
abbrev pub Keeps : List (List ℕ) → ℕ → List Frame → Option ℕ → List Item → Type 0
Keeps names n es z [] = IsOne es
Keeps names n es z (items.Node m ∷ is) = NodeStands names m.node is × Keeps names n es None is
Keeps names n es z (items.Opened p ∷ is) = ((length es ≤ 64) × IsSome es) × ((b : Bool) × Keeps names 0 (frame n n b [] ∷ es) None is)
Keeps names n es z (items.ClosedObject ∷ is) = (IsInner es × ClosesObject es) × Keeps names n (outer es) None is
Keeps names n es z (items.ClosedBody ∷ is) = IsInner es × Keeps names n (outer es) (given_by es) is
Keeps names n es z (items.Integer k ∷ is) = Keeps names n es None is
Keeps names n es z (items.Text i j ∷ is) = Keeps names n es None is
Keeps names n es z (items.Root k p ∷ is) = Keeps names n es None is
Keeps names n es z (items.Further k p ∷ is) = Keeps names n es None is
Keeps names n es z (items.Argument k ∷ is) = Keeps names n (argued es) None is
Keeps names n es z (items.Named k ∷ is) = Keeps names (n + 1) es None is
Keeps names n es z (items.Slot w f p ∷ is) = SlotFits names es z w f × Keeps names n (slotted w es) None is

slot_any : (names : List (List ℕ)) (es : List Frame) (z : Option ℕ) (w : Words) (f : SlotForm) → SlotFits names es None w f → SlotFits names es z w f
slot_any names es z w form.Constant h = h
slot_any names es z w (form.Assignable setter) h = h
slot_any names es z w (form.Bare setter) h = h
slot_any names es z w form.Parent h = h
slot_any names es z w form.Method h = cc (h.1)

-- only a method's slot looks at the body that was just closed
pub keeps_any : (names : List (List ℕ)) (n : ℕ) (es : List Frame) (z : Option ℕ) (is : List Item) → Keeps names n es None is → Keeps names n es z is
keeps_any names n es z [] h = h
keeps_any names n es z (items.Node m ∷ is) h = h
keeps_any names n es z (items.Opened p ∷ is) h = h
keeps_any names n es z (items.ClosedObject ∷ is) h = h
keeps_any names n es z (items.ClosedBody ∷ is) h = h
keeps_any names n es z (items.Integer k ∷ is) h = h
keeps_any names n es z (items.Text i j ∷ is) h = h
keeps_any names n es z (items.Root k p ∷ is) h = h
keeps_any names n es z (items.Further k p ∷ is) h = h
keeps_any names n es z (items.Argument k ∷ is) h = h
keeps_any names n es z (items.Named k ∷ is) h = h
keeps_any names n es z (items.Slot w f p ∷ is) h = (slot_any names es z w f h.0, h.1)

-- What is an object has no named arguments and is no block.
abbrev pub named_at : ℕ → List Frame → ℕ
named_at k [] = 0
named_at zero (e ∷ es) = e.named
named_at (suc k) (e ∷ es) = named_at k es

abbrev pub block_at : ℕ → List Frame → Bool
block_at k [] = false
block_at zero (e ∷ es) = e.block
block_at (suc k) (e ∷ es) = block_at k es

-- What is so many levels out, where it may be an object.
pub record IsBare (k : ℕ) (es : List Frame) : Type 0 where
  pub named : named_at k es ≡ 0
  pub block : block_at k es ≡ false

bare_argued : (k : ℕ) (es : List Frame) → IsBare k (argued es) → IsBare k es
bare_argued k [] h = h
bare_argued zero (e ∷ es) h = record { named = h.named; block = h.block }
bare_argued (suc k) (e ∷ es) h = record { named = h.named; block = h.block }

bare_slotted : (k : ℕ) (w : Words) (es : List Frame) → IsBare k (slotted w es) → IsBare k es
bare_slotted k w [] h = h
bare_slotted zero w (e ∷ es) h = record { named = h.named; block = h.block }
bare_slotted (suc k) w (e ∷ es) h = record { named = h.named; block = h.block }

bare_outer : (k : ℕ) (es : List Frame) → IsInner es → IsBare k (outer es) → IsBare (suc k) es
bare_outer k [] i h = absurd i
bare_outer k (e ∷ es) i h = record { named = h.named; block = h.block }

bare_in : (k : ℕ) (e : Frame) (es : List Frame) → IsBare (suc k) (e ∷ es) → IsBare k es
bare_in k e es h = record { named = h.named; block = h.block }

bare_closed : (es : List Frame) → ClosesObject es → IsBare 0 es
bare_closed [] h = absurd h
bare_closed (e ∷ es) h = record { named = h.0; block = h.1 }

pub bare : (names : List (List ℕ)) (n : ℕ) (es : List Frame) (z : Option ℕ) (is : List Item) (k : ℕ) → Keeps names n es z is → is_object k is ≡ true → IsBare k es
bare names n es z [] k h e = cc
bare names n es z (items.Opened p ∷ is) k h e =
    let up : k + 1 ≡ suc k = omega arith in
    bare_in k (frame n n h.1.0 []) es (bare names 0 (frame n n h.1.0 [] ∷ es) None is (suc k) h.1.1 (ap (λ j. is_object j is) (sym up) ∙ e))
bare names n es z (items.ClosedObject ∷ is) zero h e = bare_closed es h.0.1
bare names n es z (items.ClosedObject ∷ is) (suc k) h e = bare_outer k es h.0.0 (bare names n (outer es) None is k h.1 e)
bare names n es z (items.ClosedBody ∷ is) zero h e = cc
bare names n es z (items.ClosedBody ∷ is) (suc k) h e = bare_outer k es h.0 (bare names n (outer es) (given_by es) is k h.1 e)
bare names n es z (items.Node m ∷ is) k h e = bare names n es None is k h.1 e
bare names n es z (items.Integer j ∷ is) k h e = bare names n es None is k h e
bare names n es z (items.Text i j ∷ is) k h e = bare names n es None is k h e
bare names n es z (items.Root j p ∷ is) k h e = bare names n es None is k h e
bare names n es z (items.Further j p ∷ is) k h e = bare names n es None is k h e
bare names n es z (items.Argument j ∷ is) k h e = bare_argued k es (bare names n (argued es) None is k h e)
bare names n es z (items.Named j ∷ is) k h e = bare names (n + 1) es None is k h e
bare names n es z (items.Slot w f p ∷ is) k h e = bare_slotted k w es (bare names n (slotted w es) None is k h.1 e)

not_true : (b : Bool) → (b ≡ true → ⊥) → b ≡ false
not_true true h = absurd (h refl)
not_true false h = refl

-- what surely is a block is closed as a body
pub closed_as_body : (names : List (List ℕ)) (n : ℕ) (e : Frame) (es : List Frame) (z : Option ℕ) (is : List Item) → e.block ≡ true → Keeps names n (e ∷ es) z is → is_object 0 is ≡ false
closed_as_body names n e es z is b h = not_true (is_object 0 is) (λ t. (let no : e.block ≡ false = (bare names n (e ∷ es) z is 0 h t).block in cc))
