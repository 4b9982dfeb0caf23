-- What a sign does in a list of slots, beside the contents of a slot, on lists. Plumbing of the reader: no clause of self_reader's public functions cites it.
use Rattle.std.specs.Prelude.{ℕ, ◌==◌, not, Bool, true, false, if◌then◌else◌, Option, None, Some, option_and_then, List, [], ◌∷◌}
use Rattle.self_grammar.specs.declared.signs.Spot.{Spot}
use Rattle.self_grammar.specs.declared.signs.Role.{Role}
use Rattle.self_grammar.specs.declared.signs.Role.TheVariants.{Equals, Arrow, Star, Other}
use Rattle.self_grammar.specs.declared.signs.Symbol.{Symbol}
use Rattle.self_grammar.specs.declared.signs.Symbol.TheVariants as sign
use Rattle.self_grammar.specs.declared.signs.ReadKind.TheVariants as kind
use Rattle.self_grammar.specs.declared.pieces.Words.{Words}
use Rattle.self_grammar.specs.declared.pieces.Words.TheVariants as words
use Rattle.self_grammar.specs.declared.pieces.SlotForm.TheVariants as form
use Rattle.self_grammar.specs.declared.pieces.Item.{Item}
use Rattle.self_grammar.specs.declared.pieces.Item.TheVariants as items
use Rattle.self_grammar.specs.Parts.{parts_in, followed_by, count_of}
use Rattle.self_grammar.specs.Counts.{Limits, Breach, Context, Event, quiet, saying, there, when}
use Rattle.self_grammar.specs.Scopes.{Scope, scope, either, activation, named, with_argument, with_local, not_plain, again, too_many_arguments, too_many_locals}
use Rattle.reader_states.specs.declared.frames.Label.{Label}
use Rattle.reader_states.specs.declared.frames.Heading.{Heading}
use Rattle.reader_states.specs.declared.frames.Frame.{Frame}
use Rattle.reader_states.specs.declared.frames.Frame.TheVariants as f
use Rattle.reader_states.specs.declared.frames.At.{At}
use Rattle.reader_states.specs.declared.frames.At.TheVariants as at
use Rattle.reader_states.specs.declared.frames.AtArgument.TheVariants as argued
use Rattle.reader_states.specs.declared.frames.AtContents.TheVariants as held
use Rattle.reader_states.specs.declared.frames.AtData.TheVariants as data_at
use Rattle.reader_states.specs.declared.frames.AtEnd.TheVariants as end
use Rattle.reader_states.specs.declared.frames.AtName.TheVariants as name
use Rattle.reader_states.specs.declared.frames.Contents.{Contents}
use Rattle.reader_states.specs.declared.frames.Contents.TheVariants as contents
use Rattle.reader_states.specs.declared.frames.Holder.{Holder}
use Rattle.reader_states.specs.declared.frames.Holder.TheVariants as holder
use Rattle.reader_states.specs.declared.frames.Slots.{Slots}
use Rattle.reader_states.specs.declared.frames.Slots.TheVariants as slots
use Rattle.reader_states.specs.Turns.{Turn, listed, simply, placed, told, with_name, name_event, if_free, label, slot_item, with_setter, argument_event, setter_again, list_on, slot_on, slots_on}

-- what names that a list gets count and break
abbrev pub keyword_event : Limits → Scope → Spot → Event
keyword_event l t b = record quiet { counted = b ∷ []; broken = too_many_locals l t }

abbrev pub part_event : Limits → ℕ → Event
part_event l n = record quiet { broken = too_many_arguments l n }

-- an edit has one slot, with which nothing is broken
abbrev pub lone_event : Spot → Event
lone_event b = record quiet { counted = b ∷ [] }

abbrev pub if_equals : Role → Option Turn → Option Turn
if_equals Equals t = t
if_equals Arrow t = None
if_equals Star t = None
if_equals Other t = None

-- The innermost list gets a name,
abbrev pub named_in : Limits → ℕ → Spot → At → Slots → List Frame → Context → Option Turn
named_in l n b a (slots.List k t) fs c = simply c (name_event l t n b) a (f.Slots (slots.List k (with_name l n b t)) ∷ fs)
named_in l n b a slots.Edit fs c = simply c (lone_event b) a (f.Slots slots.Edit ∷ fs)

abbrev pub named_at : Limits → ℕ → Spot → At → List Frame → Context → Option Turn
named_at l n b a fs c = option_and_then (λ w. named_in l n b a w.0 w.1 c) (slots_on fs)

-- the begin of one in keywords,
abbrev pub keyword_in : Limits → Spot → At → Slots → List Frame → Context → Option Turn
keyword_in l b a (slots.List k t) fs c = simply c (keyword_event l t b) a (f.Slots (slots.List k (with_local l b t)) ∷ fs)
keyword_in l b a slots.Edit fs c = simply c (lone_event b) a (f.Slots slots.Edit ∷ fs)

abbrev pub keyword_at : Limits → Spot → At → List Frame → Context → Option Turn
keyword_at l b a fs c = option_and_then (λ w. keyword_in l b a w.0 w.1 c) (slots_on fs)

-- and an argument.
abbrev pub argument_among : Limits → ℕ → Spot → Holder → Scope → List Frame → Context → Option Turn
argument_among l n b holder.World t fs c = None
argument_among l n b k t fs c = simply c (argument_event l t (items.Argument n) n b) (at.Behind end.Argument) (f.Slots (slots.List k (with_argument (n ∷ []) t)) ∷ fs)

abbrev pub argument_at : Limits → ℕ → Spot → List Frame → Context → Option Turn
argument_at l n b fs c = option_and_then (λ w. argument_among l n b w.0 w.1 w.2 c) (list_on fs)

-- The number of arguments doesn't fit: known at the bar that closes the slots of what surely is a method.
abbrev pub misfits : ℕ → Spot → Scope → List Breach
misfits n p t = when (not (t.arguments == n)) (there kind.BadSyntax p)

abbrev pub bar_event : Heading → Scope → Event
bar_event h t = record quiet { broken = if h.wanted == 0 then [] else misfits h.wanted h.spot t }

abbrev pub shut_coded : Spot → Scope → Heading → List Frame → Context → Option Turn
shut_coded q t h fs c = simply c (bar_event h t) (at.Contents (held.Shut q) t) (f.Slot (contents.Coded h) ∷ fs)

abbrev pub shut_as : Spot → Scope → Contents → List Frame → Context → Option Turn
shut_as q t (contents.Undecided w) fs c = simply c quiet (at.Contents (held.Shut q) t) (f.Slot (contents.Undecided w) ∷ fs)
shut_as q t (contents.Coded h) fs c = shut_coded q t h fs c
shut_as q t _ fs c = None

abbrev pub shut_at : Spot → Scope → List Frame → Context → Option Turn
shut_at q t fs c = option_and_then (λ w. shut_as q t w.0 w.1 c) (slot_on fs)

-- The ends of lists: a bar,
abbrev pub barred : Holder → Scope → List Frame → Context → Option Turn
barred holder.World t fs c = None
barred (holder.Bars q) t fs c = shut_at q t fs c
barred (holder.Object q) t fs c = simply c quiet (at.Contents (held.DataShut q) t) fs

abbrev pub at_bar : List Frame → Context → Option Turn
at_bar fs c = option_and_then (λ w. barred w.0 w.1 w.2 c) (list_on fs)

-- the end of the text,
abbrev pub ended : Holder → Context → Option Turn
ended holder.World c = simply c quiet at.Finished []
ended _ c = None

abbrev pub at_end : List Frame → Context → Option Turn
at_end fs c = option_and_then (λ w. ended w.0 c) (list_on fs)

-- a period behind a slot,
abbrev pub at_period : List Frame → Context → Option Turn
at_period fs c = option_and_then (λ w. simply c quiet (at.Name name.Slot) (f.Slots (slots.List w.0 w.1) ∷ w.2)) (list_on fs)

-- and all of them behind a slot, with its item.
abbrev pub done_turn : List Frame → Context → Option Item → Symbol → Option Turn
done_turn fs c i sign.Period = at_period fs (placed (listed i) c)
done_turn fs c i sign.Bar = at_bar fs (placed (listed i) c)
done_turn fs c i sign.End = at_end fs (placed (listed i) c)
done_turn fs c i _ = None

-- where a slot is wanted
abbrev pub slot_turn : Limits → List Frame → Context → Symbol → Spot → Option Turn
slot_turn l fs c (sign.Name n s r) b = if_free r (named_at l n b (at.Name (name.Named (label n s b))) fs c)
slot_turn l fs c (sign.Argument n s r) b = if_free r (argument_at l n b fs c)
slot_turn l fs c (sign.Operator n r) b = named_at l n b (at.Name (name.Operator n b)) fs c
slot_turn l fs c (sign.Keyword n) b = keyword_at l b (at.Name (name.Keyword (record { words = words.One n; wanted = 1; spot = b }))) fs c
slot_turn l fs c sign.Bar b = at_bar fs c
slot_turn l fs c sign.End b = at_end fs c
slot_turn l fs c _ b = None

-- behind a name: '=', '<-', '*',
abbrev pub equals_in : Label → Slots → List Frame → Context → Option Turn
equals_in w slots.Edit fs c =
    simply c quiet (at.Contents held.Wanted (scope either)) (f.Slot (contents.Coded (record { words = words.One w.name; wanted = 0; spot = w.spot })) ∷ f.Slots slots.Edit ∷ fs)
equals_in w (slots.List k t) fs c = simply c quiet (at.Contents held.Wanted (scope either)) (f.Slot (contents.Undecided w) ∷ f.Slots (slots.List k t) ∷ fs)

abbrev pub equals_turn : Label → List Frame → Context → Option Turn
equals_turn w fs c = option_and_then (λ y. equals_in w y.0 y.1 c) (slots_on fs)

abbrev pub setter_event : Label → Scope → Event
setter_event w t = record quiet { broken = setter_again w t }

abbrev pub arrow_in : Label → Holder → Scope → List Frame → Context → Option Turn
arrow_in w k t fs c = simply c (setter_event w t) (at.Data data_at.Wanted) (f.Slot (contents.Assigned w) ∷ f.Slots (slots.List k (with_setter w t)) ∷ fs)

abbrev pub arrow_turn : Label → List Frame → Context → Option Turn
arrow_turn w fs c = option_and_then (λ y. arrow_in w y.0 y.1 y.2 c) (list_on fs)

abbrev pub star_turn : Label → List Frame → Context → Option Turn
star_turn w fs c = option_and_then (λ y. simply c quiet (at.Name (name.Starred w)) (f.Slots (slots.List y.0 y.1) ∷ y.2)) (list_on fs)

abbrev pub named_role : Label → List Frame → Context → Role → Option Turn
named_role w fs c Equals = equals_turn w fs c
named_role w fs c Arrow = arrow_turn w fs c
named_role w fs c Star = star_turn w fs c
named_role w fs c Other = None

-- and the end of a slot that has nothing else, which has the name of its assignment slot too
abbrev pub bare_in : Label → Holder → Scope → List Frame → Context → Symbol → Option Turn
bare_in w k t fs c x = done_turn (f.Slots (slots.List k (with_setter w t)) ∷ fs) (told (setter_again w t) c) (Some (slot_item w (form.Bare w.setter))) x

abbrev pub bare_turn : Label → List Frame → Context → Symbol → Option Turn
bare_turn w fs c x = option_and_then (λ y. bare_in w y.0 y.1 y.2 c x) (list_on fs)

abbrev pub named_turn : Label → List Frame → Context → Symbol → Spot → Option Turn
named_turn w fs c (sign.Operator n r) b = named_role w fs c r
named_turn w fs c sign.Period b = bare_turn w fs c sign.Period
named_turn w fs c sign.Bar b = bare_turn w fs c sign.Bar
named_turn w fs c sign.End b = bare_turn w fs c sign.End
named_turn w fs c _ b = None

abbrev pub starred_turn : Label → List Frame → Context → Symbol → Spot → Option Turn
starred_turn w fs c (sign.Operator n r) b = if_equals r (simply c quiet (at.Data data_at.Wanted) (f.Slot (contents.Parental w) ∷ fs))
starred_turn w fs c _ b = None

-- behind the parts of a name that surely has a method
abbrev pub operator_heading : ℕ → Spot → Heading
operator_heading n p = record { words = words.One n; wanted = 1; spot = p }

abbrev pub operator_named_turn : Limits → ℕ → Spot → List Frame → Context → Symbol → Spot → Option Turn
operator_named_turn l n p fs c (sign.Name m s r) b =
    if_free r (simply c (argument_event l (scope activation) (items.Named m) m b) (at.Argued (argued.Operator n p) (with_argument (m ∷ []) (scope activation))) fs)
operator_named_turn l n p fs c (sign.Operator m r) b = if_equals r (simply c quiet (at.Contents held.Wanted (scope activation)) (f.Slot (contents.Coded (operator_heading n p)) ∷ fs))
operator_named_turn l n p fs c _ b = None

abbrev pub operator_argued_turn : ℕ → Spot → Scope → List Frame → Context → Symbol → Spot → Option Turn
operator_argued_turn n p i fs c (sign.Operator m r) b = if_equals r (simply c quiet (at.Contents held.Wanted i) (f.Slot (contents.Coded (operator_heading n p)) ∷ fs))
operator_argued_turn n p i fs c _ b = None

-- the name with one part more
abbrev pub longer : Heading → ℕ → Heading
longer h m = record { words = followed_by h.words m; wanted = count_of (followed_by h.words m); spot = h.spot }

-- the '=' of a slot in keywords: only now its whole name is known
abbrev pub words_event : Heading → Scope → Event
words_event h t = record quiet { broken = again t (parts_in h.words) h.spot }

abbrev pub with_words : Heading → Scope → Scope
with_words h t = named (parts_in h.words) t

abbrev pub coded_in : Heading → Scope → Slots → List Frame → Context → Option Turn
coded_in h i (slots.List k t) fs c = simply c (words_event h t) (at.Contents held.Wanted i) (f.Slot (contents.Coded h) ∷ f.Slots (slots.List k (with_words h t)) ∷ fs)
coded_in h i slots.Edit fs c = simply c quiet (at.Contents held.Wanted i) (f.Slot (contents.Coded h) ∷ f.Slots slots.Edit ∷ fs)

abbrev pub coded_turn : Heading → Scope → List Frame → Context → Option Turn
coded_turn h i fs c = option_and_then (λ w. coded_in h i w.0 w.1 c) (slots_on fs)

abbrev pub head_argument : Limits → Heading → Scope → List Frame → Context → ℕ → Spot → Option Turn
head_argument l h i fs c m b = simply c (argument_event l i (items.Named m) m b) (at.Argued (argued.Keyword h) (with_argument (m ∷ []) i)) fs

-- the first keyword has an argument only where no second one stands behind it
abbrev pub first_argument : Limits → Heading → Words → List Frame → Context → ℕ → Spot → Option Turn
first_argument l h (words.One n) fs c m b = head_argument l h (scope activation) fs c m b
first_argument l h _ fs c m b = None

abbrev pub keyword_named_turn : Limits → Heading → List Frame → Context → Symbol → Spot → Option Turn
keyword_named_turn l h fs c (sign.Name m s r) b = if_free r (first_argument l h h.words fs c m b)
keyword_named_turn l h fs c (sign.CapitalKeyword m y) b = simply c (part_event l h.wanted) (at.Name (name.Keyword (longer h m))) fs
keyword_named_turn l h fs c (sign.Operator m r) b = if_equals r (coded_turn h (scope activation) fs c)
keyword_named_turn l h fs c _ b = None

abbrev pub keyword_argued_turn : Limits → Heading → Scope → List Frame → Context → Symbol → Spot → Option Turn
keyword_argued_turn l h i fs c (sign.CapitalKeyword m y) b = simply c (part_event l h.wanted) (at.Argued (argued.Wanting (longer h m)) i) fs
keyword_argued_turn l h i fs c (sign.Operator m r) b = if_equals r (coded_turn h i fs c)
keyword_argued_turn l h i fs c _ b = None

abbrev pub keyword_wanting_turn : Limits → Heading → Scope → List Frame → Context → Symbol → Spot → Option Turn
keyword_wanting_turn l h i fs c (sign.Name m s r) b = if_free r (head_argument l h i fs c m b)
keyword_wanting_turn l h i fs c _ b = None

-- behind a slot
abbrev pub path_turn : Item → Bool → List Frame → Context → ℕ → Spot → Option Turn
path_turn i false fs c n b = None
path_turn i true fs c n b = simply c (saying (items.Further n b)) (at.Behind (end.Member i true)) fs

abbrev pub member_done_turn : Item → Bool → List Frame → Context → Symbol → Spot → Option Turn
member_done_turn i p fs c (sign.Name n s r) b = path_turn i p fs c n b
member_done_turn i p fs c x b = done_turn fs c (Some i) x

-- a world has no arguments
abbrev pub argument_ends : Holder → Scope → List Frame → Context → Symbol → Option Turn
argument_ends holder.World t fs c x = None
argument_ends k t fs c x = done_turn (f.Slots (slots.List k t) ∷ fs) c None x

abbrev pub argument_done : List Frame → Context → Symbol → Option Turn
argument_done fs c x = option_and_then (λ w. argument_ends w.0 w.1 w.2 c x) (list_on fs)

abbrev pub argument_done_turn : List Frame → Context → Symbol → Option Turn
argument_done_turn fs c sign.Period = argument_done fs c sign.Period
argument_done_turn fs c sign.Bar = argument_done fs c sign.Bar
argument_done_turn fs c sign.End = argument_done fs c sign.End
argument_done_turn fs c _ = None

-- behind a method, which no method has as a slot
abbrev pub lone_done : Item → List Frame → Context → Symbol → Option Turn
lone_done i fs c sign.Period = simply (placed (i ∷ []) c) quiet (at.Behind end.Edit) (f.Slots slots.Edit ∷ fs)
lone_done i fs c sign.End = simply (placed (i ∷ []) c) quiet at.Finished []
lone_done i fs c _ = None

abbrev pub method_ends : Item → Slots → List Frame → Context → Symbol → Option Turn
method_ends i (slots.List k t) fs c x = done_turn (f.Slots (slots.List k (not_plain t)) ∷ fs) c (Some i) x
method_ends i slots.Edit fs c x = lone_done i fs c x

abbrev pub method_done : Item → List Frame → Context → Symbol → Option Turn
method_done i fs c x = option_and_then (λ w. method_ends i w.0 w.1 c x) (slots_on fs)

abbrev pub slot_ends : Contents → List Frame → Context → Symbol → Option Turn
slot_ends (contents.Undecided w) fs c x = method_done (slot_item w form.Method) fs c x
slot_ends (contents.Coded h) fs c x = method_done (items.Slot h.words form.Method h.spot) fs c x
slot_ends _ fs c x = None

abbrev pub slot_done : List Frame → Context → Symbol → Option Turn
slot_done fs c x = option_and_then (λ w. slot_ends w.0 w.1 c x) (slot_on fs)

abbrev pub behind_turn : List Frame → Context → Symbol → Option Turn
behind_turn fs c sign.Period = slot_done fs c sign.Period
behind_turn fs c sign.Bar = slot_done fs c sign.Bar
behind_turn fs c sign.End = slot_done fs c sign.End
behind_turn fs c _ = None

abbrev pub lone_stopped_turn : List Frame → Context → Symbol → Option Turn
lone_stopped_turn fs c sign.End = simply c quiet at.Finished []
lone_stopped_turn fs c _ = None
