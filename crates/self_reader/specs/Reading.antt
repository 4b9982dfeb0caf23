-- What the reader does sign by sign, as functions on lists. Used by contracts of private functions alone: no public clause cites it.
use Rattle.std.specs.Prelude.{◌≡◌, ℕ, Option, None, Some, Result, Ok, Err, List, [], ◌∷◌, ◌++◌}
use Rattle.self_grammar.specs.declared.signs.Spot.{Spot}
use Rattle.self_grammar.specs.declared.signs.Symbol.{Symbol}
use Rattle.self_grammar.specs.declared.signs.Symbol.TheVariants as sign
use Rattle.self_grammar.specs.declared.signs.Sign.{Sign}
use Rattle.self_grammar.specs.declared.signs.ReadRefusal.{ReadRefusal}
use Rattle.self_grammar.specs.declared.pieces.Item.{Item}
use Rattle.self_grammar.specs.Counts.{Limits, breaches, items_at, moved}
use Rattle.self_grammar.specs.Refusal.{kind_of, bad_syntax}
use Rattle.self_reader.specs.declared.stops.ReadStop.{ReadStop}
use Rattle.self_reader.specs.declared.stops.ReadStop.TheVariants as stops
use Rattle.self_grammar.specs.Scopes.{scope, holder}
use Rattle.self_grammar.specs.Spelling.{at_first}
use Rattle.reader_states.specs.declared.frames.At.TheVariants as at
use Rattle.reader_states.specs.declared.frames.AtName.TheVariants as name
use Rattle.reader_states.specs.declared.frames.Frame.{Frame}
use Rattle.reader_states.specs.declared.frames.Frame.TheVariants as f
use Rattle.reader_states.specs.declared.frames.Holder.TheVariants as list_of
use Rattle.reader_states.specs.declared.frames.Slots.TheVariants as slots
use Rattle.self_reader.specs.declared.reading.Reader.{Reader}
use Rattle.reader_states.specs.Turns.{Turn, after}
use Rattle.self_reader.specs.Turning.{turn}
use Rattle.self_reader.specs.Settling.{first_at}

-- the place at fault where a bar has to come and another sign does
abbrev pub missing_bar : Option Spot → Symbol → Option Spot
missing_bar None x = None
missing_bar (Some q) sign.Bar = None
missing_bar (Some q) _ = Some q

abbrev pub unless : {A : Type 0} → Option ReadRefusal → A → Result A ReadRefusal
unless None a = Ok a
unless (Some r) a = Err r

-- the reader behind a turn
abbrev pub settled : Limits → Spot → Option Turn → Result Reader ReadRefusal
settled l p None = Err (bad_syntax p)
settled l p (Some t) =
    unless (first_at p (breaches l t.counts t.event)) (record { at = t.at; frames = t.frames; counts = after t.post (moved t.counts t.event); wants = t.event.next })

abbrev pub barred : Option Spot → Result Reader ReadRefusal → Result Reader ReadRefusal
barred None r = r
barred (Some q) r = Err (bad_syntax q)

-- one sign
abbrev pub fed : Limits → Reader → Symbol → Spot → Result Reader ReadRefusal
fed l r (sign.Bad f) p = Err (record { kind = kind_of f; spot = p })
fed l r x p = barred (missing_bar r.wants x) (settled l p (turn l r.at r.frames r.counts x p))

-- what is said at it
abbrev pub said_by : Option Turn → List Item
said_by None = []
said_by (Some t) = items_at t.counts t.event

abbrev pub said_at : Limits → Reader → Symbol → Spot → List Item
said_at l r x p = said_by (turn l r.at r.frames r.counts x p)

abbrev pub behind : List Item → Result (List Item) ReadRefusal → Result (List Item) ReadRefusal
behind is (Ok js) = Ok (is ++ js)
behind is (Err e) = Err e

abbrev pub then : Result Reader ReadRefusal → (Reader → Result (List Item) ReadRefusal) → Result (List Item) ReadRefusal
then (Ok r) go = go r
then (Err e) go = Err e

-- many signs: all that is said at them
unfoldable pub all_said : Limits → Reader → List Sign → Result (List Item) ReadRefusal
all_said l r [] = Ok []
all_said l r (x ∷ xs) = then (fed l r x.symbol x.spot) (λ q. behind (said_at l r x.symbol x.spot) (all_said l q xs))

-- What was answered, as it is seen, is this, unless memory ran out.
abbrev pub Answers : {A B : Type 0} → (A → B) → Result A ReadStop → Result B ReadRefusal → Type 0
Answers view (Ok a) y = y ≡ Ok (view a)
Answers view (Err (stops.Refused r)) y = y ≡ Err r
Answers view (Err stops.OutOfMemory) y = Unit {0}

-- a reader before the first sign of the list of slots that this frame stands for, in a text of so many slots and objects
abbrev pub before_list : Frame → ℕ → Reader
before_list list size = record { at = at.Name name.Slot; frames = list ∷ []; counts = at_first size; wants = None }

abbrev pub before_world : Reader
before_world = before_list (f.Slots (slots.List list_of.World (scope holder))) 1

abbrev pub before_edit : Reader
before_edit = before_list (f.Slots slots.Edit) 0
