-- Which texts are read, and where all others are refused. A text is a list of signs, the last of which is the end or a fault.
-- The definitions serve for any kind of text whose members have marks: worlds and edits.
use Rattle.std.specs.Prelude.{◌≡◌, ◌≢◌, ◌⊎◌, ℕ, Option, None, Some, List, [], ◌∷◌, ◌++◌, map, take, slice_get}
use Rattle.self_tokens.specs.declared.symbols.Fault.{Fault}
use Rattle.self_tokens.specs.declared.symbols.Fault.TheVariants as fault
use Rattle.self_grammar.specs.declared.signs.Spot.{Spot}
use Rattle.self_grammar.specs.declared.signs.Symbol.{Symbol}
use Rattle.self_grammar.specs.declared.signs.Symbol.TheVariants as sign
use Rattle.self_grammar.specs.declared.signs.Sign.{Sign}
use Rattle.self_grammar.specs.declared.signs.ReadKind.{ReadKind}
use Rattle.self_grammar.specs.declared.signs.ReadKind.TheVariants as kind
use Rattle.self_grammar.specs.declared.signs.ReadRefusal.{ReadRefusal}
use Rattle.self_grammar.specs.Counts.{Mark}

abbrev pub signs : List Mark → List Sign
signs ms = map (λ m. m.sign) ms

-- The bar that must come next comes, or nothing does.
abbrev pub IsBarred : List Mark → Type 0
IsBarred [] = Unit {0}
IsBarred (m ∷ ms) = m.sign.symbol ≡ sign.Bar

abbrev pub Expected : Option Spot → List Mark → Type 0
Expected None ms = Unit {0}
Expected (Some p) ms = IsBarred ms

-- Nothing is wrong at these marks.
abbrev pub AreSound : List Mark → Type 0
AreSound [] = Unit {0}
AreSound (m ∷ ms) = (m.fault ≡ None) × Expected m.next ms × AreSound ms

-- The last of these signs is the end or no token. The others may be any: reading stops at what is no token, and behind an end.
abbrev pub IsLast : Symbol → Type 0
IsLast x = (x ≡ sign.End) ⊎ ((f : Fault) × (x ≡ sign.Bad f))

abbrev pub IsEnded : List Sign → Type 0
IsEnded [] = ⊥
IsEnded (x ∷ []) = IsLast x.symbol
IsEnded (x ∷ y ∷ ys) = IsEnded (y ∷ ys)

-- These signs are this text, and nothing is wrong with it.
abbrev pub IsText : {T : Type 0} → (T → List Mark) → List Sign → T → Type 0
IsText marks given t = (signs (marks t) ≡ given) × AreSound (marks t)

-- Some text begins with these signs, whatever is wrong with it.
abbrev pub Begins : {T : Type 0} → (T → List Mark) → List Sign → Type 0
Begins {T = T} marks front = (t : T) × (rest : List Sign) × (signs (marks t) ≡ front ++ rest)

-- Some text begins with these signs, and nothing is wrong up to there.
abbrev pub BeginsSoundly : {T : Type 0} → (T → List Mark) → List Sign → Type 0
BeginsSoundly {T = T} marks front = (t : T) × (ms rest : List Mark) × (marks t ≡ ms ++ rest) × (signs ms ≡ front) × AreSound ms

-- what the last mark wants next
abbrev pub last_next : Option Spot → List Mark → Option Spot
last_next o [] = o
last_next o (m ∷ ms) = last_next m.next ms

-- Behind these signs a bar must come, or this place is at fault.
abbrev pub Expects : {T : Type 0} → (T → List Mark) → List Sign → Spot → Type 0
Expects {T = T} marks front p = (t : T) × (ms rest : List Mark) × (marks t ≡ ms ++ rest) × (signs ms ≡ front) × (last_next None ms ≡ Some p)

-- Some text goes on with this sign behind the front, and this is wrong there first.
abbrev pub ShowsFault : {T : Type 0} → (T → List Mark) → List Sign → Sign → ReadRefusal → Type 0
ShowsFault {T = T} marks front s r =
    (t : T) × (ms rest : List Mark) × (m : Mark) × (marks t ≡ ms ++ m ∷ rest) × (signs ms ≡ front) × (m.sign ≡ s) × (m.fault ≡ Some r)

abbrev pub kind_of : Fault → ReadKind
kind_of fault.BadToken = kind.BadToken
kind_of fault.BadEscape = kind.BadEscape
kind_of fault.IntTooWide = kind.IntTooWide

abbrev pub bad_syntax : Spot → ReadRefusal
bad_syntax p = record { kind = kind.BadSyntax; spot = p }

-- What is wrong with a sign behind a front, the first of these that holds:
-- it is no token; a bar had to come and doesn't; no text begins so; each text that does has something wrong there.
pub data IsWrong (T : Type 0) (marks : T → List Mark) (front : List Sign) (s : Sign) (r : ReadRefusal) : Type 0 where
  no_token : (f : Fault) → s.symbol ≡ sign.Bad f → r ≡ record { kind = kind_of f; spot = s.spot } → IsWrong T marks front s r
  no_bar : ((f : Fault) → s.symbol ≢ sign.Bad f) → (p : Spot) → Expects marks front p → s.symbol ≢ sign.Bar → r ≡ bad_syntax p → IsWrong T marks front s r
  no_text : ((f : Fault) → s.symbol ≢ sign.Bad f) → ((p : Spot) → Expects marks front p → s.symbol ≡ sign.Bar) → (Begins marks (front ++ s ∷ []) → ⊥) → r ≡ bad_syntax s.spot → IsWrong T marks front s r
  rule : ((f : Fault) → s.symbol ≢ sign.Bad f) → ((p : Spot) → Expects marks front p → s.symbol ≡ sign.Bar) → ShowsFault marks front s r → IsWrong T marks front s r

-- The refusal of a text that isn't read: up to a sign all is well, and this is wrong at that sign.
pub record IsRefused (T : Type 0) (marks : T → List Mark) (given : List Sign) (r : ReadRefusal) : Type 0 where
  pub index : ℕ
  pub at : Sign
  pub met : slice_get given index ≡ Some at
  pub before : BeginsSoundly marks (take index given)
  pub wrong : IsWrong T marks (take index given) at r
