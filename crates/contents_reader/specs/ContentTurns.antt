-- What a sign does in the contents of a slot, on lists. Plumbing of the reader: no clause of self_reader's public functions cites it.
use Rattle.std.specs.Prelude.{ℕ, ◌==◌, not, Bool, true, false, if◌then◌else◌, Option, None, Some, option_and_then, List, [], ◌∷◌, ◌++◌}
use Rattle.self_grammar.specs.declared.signs.Spot.{Spot}
use Rattle.self_grammar.specs.declared.signs.Symbol.{Symbol}
use Rattle.self_grammar.specs.declared.signs.Symbol.TheVariants as sign
use Rattle.self_grammar.specs.declared.signs.ReadKind.TheVariants as kind
use Rattle.self_grammar.specs.declared.pieces.SlotForm.TheVariants as form
use Rattle.self_grammar.specs.declared.pieces.Item.{Item}
use Rattle.self_grammar.specs.declared.pieces.Item.TheVariants as items
use Rattle.self_grammar.specs.Counts.{Breach, Context, Event, quiet, opening, closing, saying, here, when}
use Rattle.self_grammar.specs.Scopes.{Scope, holder, scope, not_plain, late_locals}
use Rattle.reader_states.specs.declared.frames.Frame.{Frame}
use Rattle.reader_states.specs.declared.frames.Frame.TheVariants as f
use Rattle.reader_states.specs.declared.frames.At.{At}
use Rattle.reader_states.specs.declared.frames.At.TheVariants as at
use Rattle.reader_states.specs.declared.frames.AtContents.TheVariants as held
use Rattle.reader_states.specs.declared.frames.AtData.TheVariants as data_at
use Rattle.reader_states.specs.declared.frames.AtEnd.TheVariants as end
use Rattle.reader_states.specs.declared.frames.AtName.TheVariants as name
use Rattle.reader_states.specs.declared.frames.Body.TheVariants as body
use Rattle.reader_states.specs.declared.frames.Contents.{Contents}
use Rattle.reader_states.specs.declared.frames.Contents.TheVariants as contents
use Rattle.reader_states.specs.declared.frames.Expression.TheVariants as expression
use Rattle.reader_states.specs.declared.frames.Holder.TheVariants as list_of
use Rattle.reader_states.specs.declared.frames.Slots.TheVariants as slots
use Rattle.reader_states.specs.Turns.{Turn, simply, told, entered, slot_item, list_on, slot_on}
use Rattle.code_reader.specs.CodeTurns.{begun}
use Rattle.slot_reader.specs.SlotTurns.{misfits}

-- The innermost list gets a slot that no method has.
abbrev pub marked : List Frame → Option (List Frame)
marked fs = option_and_then (λ w. Some (f.Slots (slots.List w.0 (not_plain w.1)) ∷ w.2)) (list_on fs)

abbrev pub marked_at : Event → At → List Frame → Context → Option Turn
marked_at e a fs c = option_and_then (simply c e a) (marked fs)

-- Simple contents are read, and whether a path may go on,
abbrev pub constant_in : Item → Bool → Contents → List Frame → Context → Option Turn
constant_in i p (contents.Undecided w) fs c = simply c (saying i) (at.Behind (end.Member (slot_item w form.Constant) p)) fs
constant_in i p _ fs c = None

abbrev pub simple_constant : Item → Bool → List Frame → Context → Option Turn
simple_constant i p fs c = option_and_then (λ w. constant_in i p w.0 w.1 c) (slot_on fs)

abbrev pub datum_in : Item → Bool → Contents → List Frame → Context → Option Turn
datum_in i p (contents.Assigned w) fs c = simply c (saying i) (at.Behind (end.Member (slot_item w (form.Assignable w.setter)) p)) fs
datum_in i p (contents.Parental w) fs c = marked_at (saying i) (at.Behind (end.Member (slot_item w form.Parent) p)) fs c
datum_in i p _ fs c = None

abbrev pub simple_datum : Item → Bool → List Frame → Context → Option Turn
simple_datum i p fs c = option_and_then (λ w. datum_in i p w.0 w.1 c) (slot_on fs)

-- or an object.
abbrev pub object_in : Event → Contents → List Frame → Context → Option Turn
object_in e (contents.Undecided w) fs c = marked_at e (at.Behind (end.Member (slot_item w form.Constant) false)) fs c
object_in e _ fs c = None

abbrev pub object_constant : Event → List Frame → Context → Option Turn
object_constant e fs c = option_and_then (λ w. object_in e w.0 w.1 c) (slot_on fs)

abbrev pub object_datum_in : Event → Contents → List Frame → Context → Option Turn
object_datum_in e (contents.Assigned w) fs c = marked_at e (at.Behind (end.Member (slot_item w (form.Assignable w.setter)) false)) fs c
object_datum_in e (contents.Parental w) fs c = marked_at e (at.Behind (end.Member (slot_item w form.Parent) false)) fs c
object_datum_in e _ fs c = None

abbrev pub object_datum : Event → List Frame → Context → Option Turn
object_datum e fs c = option_and_then (λ w. object_datum_in e w.0 w.1 c) (slot_on fs)

-- the parenthesis with which an object or a method opens, and the place at fault where a bar must come next
abbrev pub opening_item : Spot → Event
opening_item b = record opening { says = items.Opened b ∷ [] }

abbrev pub opened_event : Spot → Scope → ℕ → Spot → Event
opened_event b i n p = record (opening_item b) { next = if i.arguments == n then None else Some p }

abbrev pub paren_in : Spot → Scope → Contents → List Frame → Context → Option Turn
paren_in b i (contents.Undecided w) fs c = simply c (opened_event b i 0 w.spot) (at.Contents (held.Opened b) i) (f.Slot (contents.Undecided w) ∷ fs)
paren_in b i (contents.Coded h) fs c = simply c (opened_event b i h.wanted h.spot) (at.Contents (held.Opened b) i) (f.Slot (contents.Coded h) ∷ fs)
paren_in b i _ fs c = None

abbrev pub paren_turn : Spot → Scope → List Frame → Context → Option Turn
paren_turn b i fs c = option_and_then (λ w. paren_in b i w.0 w.1 c) (slot_on fs)

abbrev pub holding_turn : Scope → List Frame → Context → Symbol → Spot → Option Turn
holding_turn i fs c (sign.Integer z) b = simple_constant (items.Integer z) false fs c
holding_turn i fs c (sign.Text j k) b = simple_constant (items.Text j k) false fs c
holding_turn i fs c (sign.Name n s r) b = simple_constant (items.Root n b) true fs c
holding_turn i fs c sign.OpenParen b = paren_turn b i fs c
holding_turn i fs c _ b = None

abbrev pub data_wanted_turn : List Frame → Context → Symbol → Spot → Option Turn
data_wanted_turn fs c (sign.Integer z) b = simple_datum (items.Integer z) false fs c
data_wanted_turn fs c (sign.Text j k) b = simple_datum (items.Text j k) false fs c
data_wanted_turn fs c (sign.Name n s r) b = simple_datum (items.Root n b) true fs c
data_wanted_turn fs c sign.OpenParen b = simply c (opening_item b) (at.Data (data_at.Opened b)) fs
data_wanted_turn fs c _ b = None

-- behind a parenthesis: the end of an object without slots,
abbrev pub empty_end : Spot → Event
empty_end q = record closing { says = items.ClosedObject ∷ []; counted = q ∷ [] }

abbrev pub is_bar : Symbol → Bool
is_bar sign.Bar = true
is_bar _ = false

abbrev pub is_close : Symbol → Bool
is_close sign.CloseParen = true
is_close _ = false

-- or the begin of a method's code
abbrev pub code_begun : List Frame → Context → Symbol → Spot → Option Turn
code_begun fs c x b = begun (f.Expression (expression.Statement false) ∷ f.Body body.Method ∷ fs) c x b

-- where no bar stands behind the parenthesis
abbrev pub bare_opened : Spot → List Frame → Context → Symbol → Spot → Option Turn
bare_opened q fs c x b = if is_close x then object_constant (empty_end q) fs c else code_begun fs (entered c) x b

abbrev pub opened_turn : Spot → Scope → List Frame → Context → Symbol → Spot → Option Turn
opened_turn q i fs c x b = if is_bar x then simply c quiet (at.Name name.Slot) (f.Slots (slots.List (list_of.Bars q) i) ∷ fs) else bare_opened q fs c x b

abbrev pub data_opened_turn : Spot → List Frame → Context → Symbol → Spot → Option Turn
data_opened_turn q fs c sign.Bar b = simply c quiet (at.Name name.Slot) (f.Slots (slots.List (list_of.Object q) (scope holder)) ∷ fs)
data_opened_turn q fs c sign.CloseParen b = object_datum (empty_end q) fs c
data_opened_turn q fs c _ b = None

-- behind the bars: the end of an object, or the first sign of code, which tells what no method has
abbrev pub object_end : Spot → Scope → Event
object_end q t = record closing { says = items.ClosedObject ∷ []; counted = q ∷ []; broken = when (not (t.arguments == 0)) (here kind.BadSyntax) }

abbrev pub at_code : ℕ → Spot → Scope → List Breach
at_code n p t = (if n == 0 then misfits n p t else []) ++ when (not t.plain) (here kind.BadSyntax) ++ late_locals t

abbrev pub code_in : Scope → Contents → List Frame → Context → Symbol → Spot → Option Turn
code_in t (contents.Undecided w) fs c x b = code_begun (f.Slot (contents.Undecided w) ∷ fs) (told (at_code 0 w.spot t) (entered c)) x b
code_in t (contents.Coded h) fs c x b = code_begun (f.Slot (contents.Coded h) ∷ fs) (told (at_code h.wanted h.spot t) (entered c)) x b
code_in t _ fs c x b = None

abbrev pub code_turn : Scope → List Frame → Context → Symbol → Spot → Option Turn
code_turn t fs c x b = option_and_then (λ w. code_in t w.0 w.1 c x b) (slot_on fs)

abbrev pub shut_turn : Spot → Scope → List Frame → Context → Symbol → Spot → Option Turn
shut_turn q t fs c sign.CloseParen b = object_constant (object_end q t) fs c
shut_turn q t fs c x b = code_turn t fs c x b

abbrev pub data_shut_turn : Spot → Scope → List Frame → Context → Symbol → Spot → Option Turn
data_shut_turn q t fs c sign.CloseParen b = object_datum (object_end q t) fs c
data_shut_turn q t fs c _ b = None
