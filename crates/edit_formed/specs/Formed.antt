-- What an edit's text tells is the text of a method slot.
use Rattle.std.specs.Prelude.{◌≡◌, ℕ, None, List, ◌++◌, length}
use Rattle.self_grammar.specs.declared.pieces.Item.{Item}
use Rattle.self_grammar.specs.declared.pieces.Item.TheVariants.{ClosedObject}
use Rattle.source_model.specs.declared.objects.Content.TheVariants.{Method}
use Rattle.source_model.specs.Edits.{BodyText, SlotText}
use Rattle.source_model.specs.Canon.{Each}
use Rattle.source_model.specs.Soundness.{body_in, HasBody, IsFit}
use Rattle.source_model.specs.Formed.{IsSaid, ContentFits}
use Rattle.source_model.specs.Told.{InitialFits, IsSlotText}
use Rattle.source_model.specs.Told as source
use Rattle.world_build.specs.SlotTexts.{nothing_told, slot_text}
use Rattle.world_build.specs.SlotTexts as texts
use Rattle.slot_text.specs.Contents.{AreOfEdit}

-- the names behind what these items tell, those of several parts among them
abbrev pub names_told : List (List ℕ) → List ℕ → List Item → List (List ℕ)
names_told names bytes items = (texts.told bytes items (nothing_told names)).loading.names

-- So it is of what each text of an edit tells that is read, with its names or with further ones behind them.
abbrev pub OfEdits : (List (List ℕ) → SlotText → Type 0) → Type 0
OfEdits Says = (names : List (List ℕ)) (bytes : List ℕ) (items : List Item) → AreOfEdit names bytes items → (more : List (List ℕ)) → Says (names_told names bytes items ++ more) (slot_text names bytes items)

-- What its bodies say is among its strings and the names, and each message has as many arguments as its name says.
abbrev pub NamesSaid : Type 0
NamesSaid = OfEdits (λ names t. Each (IsSaid names (length t.strings)) (source.told t))

-- A local that holds a string at first holds one of its strings.
abbrev pub InitialsFit : Type 0
InitialsFit = OfEdits (λ names t. Each (λ (b : BodyText). Each (InitialFits (length t.strings)) b.locals) t.bodies)

-- The first body is there, and stands in no other one.
abbrev pub MethodStands : Type 0
MethodStands = OfEdits (λ names t. HasBody (source.told t) 1 × ((body_in (source.told t) 1).outer ≡ None))

-- An item that closes no object.
abbrev pub IsCode : Item → Type 0
IsCode ClosedObject = ⊥
IsCode _ = Unit {0}

-- All that its items open are bodies.
abbrev pub OnlyCode : Type 0
OnlyCode = (names : List (List ℕ)) (bytes : List ℕ) (items : List Item) → AreOfEdit names bytes items → Each IsCode items

-- No law says these yet.

-- Its bodies fit by themselves.
abbrev pub BodiesFit : Type 0
BodiesFit = OfEdits (λ names t. (n : ℕ) → HasBody (source.told t) n → IsFit (source.told t) n)

-- The first body is the method's, which takes as many arguments as the slot's name says.
abbrev pub MethodFirst : Type 0
MethodFirst = OfEdits (λ names t. ContentFits names (source.told t) t.name (Method (record { 0 = 1 })))

-- All that is said of its text.
abbrev pub TextsFit : Type 0
TextsFit = OfEdits IsSlotText
