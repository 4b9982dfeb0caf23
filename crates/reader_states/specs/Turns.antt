-- What the code's functions give, as functions on lists. Plumbing of the reader: no clause of self_reader's public functions cites it.
use Rattle.std.specs.Prelude.{◌≡◌, ℕ, ◌-◌, ◌++◌, ◌∷◌, [], List, Option, None, Some, option_and_then, Result, Ok, Err}
use Rattle.self_grammar.specs.declared.signs.Spot.{Spot}
use Rattle.self_grammar.specs.declared.signs.Reserved.{Reserved}
use Rattle.self_grammar.specs.declared.signs.Reserved.TheVariants.{Free, Itself, Resend}
use Rattle.self_grammar.specs.declared.pieces.Words.TheVariants.{One}
use Rattle.self_grammar.specs.declared.pieces.SlotForm.{SlotForm}
use Rattle.self_grammar.specs.declared.pieces.Item.{Item}
use Rattle.self_grammar.specs.declared.pieces.Made.{Made}
use Rattle.self_grammar.specs.declared.pieces.Item.TheVariants as items
use Rattle.self_grammar.specs.Counts as c
use Rattle.self_grammar.specs.Counts.{Limits, Breach, Context}
use Rattle.self_grammar.specs.Scopes.{Scope, named, with_local, again, too_many_arguments, too_many_locals}
use Rattle.reader_states.specs.declared.counts.Event.{Event}
use Rattle.reader_states.specs.declared.counts.Post.{Post}
use Rattle.reader_states.specs.declared.counts.Post.TheVariants as post
use Rattle.reader_states.specs.declared.frames.At.{At}
use Rattle.reader_states.specs.declared.frames.Body.{Body}
use Rattle.reader_states.specs.declared.frames.Contents.{Contents}
use Rattle.reader_states.specs.declared.frames.Expression.{Expression}
use Rattle.reader_states.specs.declared.frames.Frame.{Frame}
use Rattle.reader_states.specs.declared.frames.Frame.TheVariants as f
use Rattle.reader_states.specs.declared.frames.Holder.{Holder}
use Rattle.reader_states.specs.declared.frames.Message.{Message}
use Rattle.reader_states.specs.declared.frames.Operand.{Operand}
use Rattle.reader_states.specs.declared.frames.Slots.{Slots}
use Rattle.reader_states.specs.declared.frames.Slots.TheVariants as slots
use Rattle.reader_states.specs.declared.frames.Label.{Label}
use Rattle.reader_states.specs.declared.frames.Stop.{Stop}
use Rattle.reader_states.specs.declared.frames.Stop.TheVariants as stops
use Rattle.reader_states.specs.declared.frames.Turn.{Turn as Turned}

abbrev pub listed : {A : Type 0} → Option A → List A
listed None = []
listed (Some x) = x ∷ []

abbrev pub event_in : Event → c.Event
event_in e = record {
  made = listed e.made ++ listed e.made_too;
  says = listed e.says;
  counted = listed e.counted;
  opens = e.opens;
  closes = e.closes;
  leaves = e.leaves;
  broken = listed e.broken ++ listed e.broken_too;
  next = e.next;
}

-- what is counted behind a sign
abbrev pub after : Post → Context → Context
after post.Stay d = d
after post.Enter d = record d { pending = 0; nodes = 0; around = record { pending = d.pending; nodes = d.nodes } ∷ d.around }
after (post.Owe m) d = record d { due = d.due ++ m ∷ [] }

pub record Turn : Type 0 where
  pub counts : Context
  pub event : c.Event
  pub post : Post
  pub at : At
  pub frames : List Frame

abbrev pub turn_in : Turned → Turn
turn_in t = record { counts = t.counts; event = event_in t.event; post = t.post; at = t.at; frames = t.frames }

abbrev pub Fails : {Y : Type 0} → Stop → Option Y → Type 0
Fails stops.OutOfMemory y = Unit {0}
Fails stops.BadSyntax y = y ≡ None

-- What was answered is that of the function on lists, unless memory ran out.
abbrev pub Turns : Result Turned Stop → Option Turn → Type 0
Turns (Ok t) y = y ≡ Some (turn_in t)
Turns (Err e) y = Fails e y

abbrev pub Gives : {X : Type 0} → Result X Stop → Option X → Type 0
Gives (Ok x) y = y ≡ Some x
Gives (Err e) y = Fails e y

-- a turn behind which nothing more is counted
abbrev pub simply : Context → c.Event → At → List Frame → Option Turn
simply d e a fs = Some (record { counts = d; event = e; post = post.Stay; at = a; frames = fs })

-- what is counted before a sign: slots that end there, rules that are known there, and the begin of a body
abbrev pub placed : List Item → Context → Context
placed is d = record d { ready = d.ready ++ is }

abbrev pub told : List Breach → Context → Context
told bs d = record d { late = d.late ++ bs }

-- nodes that are made there or are not, and the end of a keyword message
abbrev pub owed : Made → Context → Context
owed m c = record c { due = c.due ++ m ∷ [] }

abbrev pub forgotten : Context → Context
forgotten c = record c { due = [] }

abbrev pub finished : Context → Context
finished c = record c { nesting = c.nesting - 1 }

abbrev pub entered : Context → Context
entered d = record d { pending = 0; nodes = 0; around = record { pending = d.pending; nodes = d.nodes } ∷ d.around }

-- names that a list gets, and what they count and break
abbrev pub with_name : Limits → ℕ → Spot → Scope → Scope
with_name l n b t = named (n ∷ []) (with_local l b t)

abbrev pub name_event : Limits → Scope → ℕ → Spot → c.Event
name_event l t n b = record c.quiet { counted = b ∷ []; broken = too_many_locals l t ++ again t (n ∷ []) b }

abbrev pub argument_event : Limits → Scope → Item → ℕ → Spot → c.Event
argument_event l t i n b = record c.quiet { says = i ∷ []; counted = b ∷ []; broken = too_many_arguments l t.arguments ++ again t (n ∷ []) b }

-- what the name of an assignment slot breaks
abbrev pub setter_again : Label → Scope → List Breach
setter_again w t = again t (w.setter ∷ []) w.spot

abbrev pub with_setter : Label → Scope → Scope
with_setter w t = named (w.setter ∷ []) t

abbrev pub if_free : Reserved → Option Turn → Option Turn
if_free Free t = t
if_free Itself t = None
if_free Resend t = None

abbrev pub label : ℕ → ℕ → Spot → Label
label n s b = record { name = n; setter = s; spot = b }

abbrev pub slot_item : Label → SlotForm → Item
slot_item w k = items.Slot (One w.name) k w.spot

-- The innermost frame, where it is of a kind, and the frames around it.
abbrev pub slots_on : List Frame → Option (Slots × List Frame)
slots_on (f.Slots x ∷ fs) = Some (x, fs)
slots_on _ = None

abbrev pub list_in : Slots → List Frame → Option (Holder × Scope × List Frame)
list_in (slots.List k t) fs = Some (k, t, fs)
list_in slots.Edit fs = None

abbrev pub list_on : List Frame → Option (Holder × Scope × List Frame)
list_on fs = option_and_then (λ w. list_in w.0 w.1) (slots_on fs)

abbrev pub locals_on : List Frame → Option (Scope × List Frame)
locals_on (f.Locals t ∷ fs) = Some (t, fs)
locals_on _ = None

abbrev pub slot_on : List Frame → Option (Contents × List Frame)
slot_on (f.Slot x ∷ fs) = Some (x, fs)
slot_on _ = None

abbrev pub body_on : List Frame → Option (Body × List Frame)
body_on (f.Body x ∷ fs) = Some (x, fs)
body_on _ = None

abbrev pub expression_on : List Frame → Option (Expression × List Frame)
expression_on (f.Expression x ∷ fs) = Some (x, fs)
expression_on _ = None

abbrev pub message_on : List Frame → Option (Message × List Frame)
message_on (f.Argument m ∷ fs) = Some (m, fs)
message_on _ = None

-- the operand of which a unary is the last, if it is one
abbrev pub operand_on : List Frame → Option Operand × List Frame
operand_on (f.Right w ∷ fs) = (Some w, fs)
operand_on fs = (None, fs)
