-- How a text is spelled: the signs of each part, with the nodes that they make and what is counted and broken at each.
-- Nodes are made at their sign; those of binary and keyword messages, of returns and of ended statements at the first sign after.
use Rattle.std.specs.Prelude.{ℕ, ◌-◌, Bool, true, false, not, ◌==◌, if◌then◌else◌, Option, None, Some, List, [], ◌∷◌, ◌++◌}
use Rattle.self_grammar.specs.declared.signs.Spot.{Spot}
use Rattle.self_grammar.specs.declared.signs.Reserved.TheVariants.{Free, Itself, Resend}
use Rattle.self_grammar.specs.declared.signs.Role.{Role}
use Rattle.self_grammar.specs.declared.signs.Role.TheVariants.{Equals, Arrow, Star}
use Rattle.self_grammar.specs.declared.signs.Symbol.{Symbol}
use Rattle.self_grammar.specs.declared.signs.Symbol.TheVariants as sign
use Rattle.self_grammar.specs.declared.signs.ReadKind.TheVariants as kind
use Rattle.self_grammar.specs.declared.pieces.Words.{Words}
use Rattle.self_grammar.specs.declared.pieces.Words.TheVariants.{One}
use Rattle.self_grammar.specs.declared.pieces.Target.{Target}
use Rattle.self_grammar.specs.declared.pieces.Target.TheVariants.{Given, Implied, Parents, Parent}
use Rattle.self_grammar.specs.declared.pieces.TextNode.{TextNode}
use Rattle.self_grammar.specs.declared.pieces.TextNode.TheVariants as nodes
use Rattle.self_grammar.specs.declared.pieces.SlotForm.{SlotForm}
use Rattle.self_grammar.specs.declared.pieces.SlotForm.TheVariants as form
use Rattle.self_grammar.specs.declared.pieces.Made.{Made}
use Rattle.self_grammar.specs.declared.pieces.Item.{Item}
use Rattle.self_grammar.specs.declared.pieces.Item.TheVariants as items
use Rattle.self_grammar.specs.Parts.{parts_in, followed_by, but_last, count_of}
use Rattle.self_grammar.specs.Grammar as g
use Rattle.self_grammar.specs.Counts.{Limits, node, Breach, here, there, when, Context, Event, quiet, opening, makes, saying, Mark, Writer, write, owing, telling, placing, entering, finishing, closing}
use Rattle.self_grammar.specs.Scopes.{Owner, holder, either, activation, Scope, scope, named, with_argument, with_local, not_plain, again, too_many_arguments, too_many_locals, late_locals}

-- Signs of names.
abbrev pub free_name : g.Label → Symbol
free_name w = sign.Name w.name w.setter Free

abbrev pub any_name : g.AnyName → Symbol
any_name w = sign.Name w.label.name w.label.setter w.reserved

abbrev pub delegate_symbol : g.Delegate → Symbol
delegate_symbol (g.to_all w) = sign.Delegate w.name Resend
delegate_symbol (g.to_parent w) = sign.Delegate w.name Free

abbrev pub delegate_spot : g.Delegate → Spot
delegate_spot (g.to_all w) = w.spot
delegate_spot (g.to_parent w) = w.spot

abbrev pub delegate : Limits → g.Delegate → Writer → Writer
delegate l d k = write l (delegate_symbol d) (delegate_spot d) quiet k

abbrev pub operator : Limits → g.AnyOperator → Event → Writer → Writer
operator l o e k = write l (sign.Operator o.word.name o.role) o.word.spot e k

-- '=', '<-' or '*' behind a slot's name
abbrev pub mark : Limits → Role → g.Word → Event → Writer → Writer
mark l r w e k = write l (sign.Operator w.name r) w.spot e k

abbrev pub part : Limits → g.Part → Event → Writer → Writer
part l q e k = write l (sign.CapitalKeyword q.word.name q.handles) q.word.spot e k

-- Paths and simple contents.
abbrev pub path : Limits → g.Path → Writer → Writer
path l (g.named w) k = write l (any_name w) w.label.spot (saying (items.Root w.label.name w.label.spot)) k
path l (g.under q w) k = path l q (write l (any_name w) w.label.spot (saying (items.Further w.label.name w.label.spot)) k)

abbrev pub simple : Limits → g.Simple → Writer → Writer
simple l (g.integer z p) k = write l (sign.Integer z) p (saying (items.Integer z)) k
simple l (g.string s) k = write l (sign.Text s.start s.end) s.spot (saying (items.Text s.start s.end)) k
simple l (g.path q) k = path l q k

-- What follows a list of slots, by the scope that they make.
abbrev pub Listing : Type 0
Listing = Scope → Writer

-- the name of a slot that is no argument
abbrev pub slot_name : Limits → g.Label → Listing → Listing
slot_name l w k s =
    write l (free_name w) w.spot (record quiet { counted = w.spot ∷ []; broken = too_many_locals l s ++ again s (w.name ∷ []) w.spot })
    (k (named (w.name ∷ []) (with_local l w.spot s)))

-- an argument between bars
abbrev pub argument : Limits → g.Label → Listing → Listing
argument l w k s =
    write l (sign.Argument w.name w.setter Free) w.spot
    (record quiet { says = items.Argument w.name ∷ []; counted = w.spot ∷ []; broken = too_many_arguments l s.arguments ++ again s (w.name ∷ []) w.spot })
    (k (with_argument (w.name ∷ []) s))

-- an argument in the name of a slot
abbrev pub head_argument : Limits → g.Label → Listing → Listing
head_argument l w k s =
    write l (free_name w) w.spot
    (record quiet { says = items.Named w.name ∷ []; counted = w.spot ∷ []; broken = too_many_arguments l s.arguments ++ again s (w.name ∷ []) w.spot })
    (k (with_argument (w.name ∷ []) s))

-- An assignable slot has the name of its assignment slot too. This is known at its '<-', or without one at the next sign.
abbrev pub arrow : Limits → g.Label → g.Word → Listing → Listing
arrow l w a k s = mark l Arrow a (record quiet { broken = again s (w.setter ∷ []) w.spot }) (k (named (w.setter ∷ []) s))

abbrev pub no_arrow : g.Label → Listing → Listing
no_arrow w k s = telling (again s (w.setter ∷ []) w.spot) (k (named (w.setter ∷ []) s))

abbrev pub local : Limits → g.Local → Listing → Listing
local l (g.local_argument w) k s = argument l w k s
local l (g.local_bare w) k s = slot_name l w (no_arrow w k) s
local l (g.local_assignable w a d) k s = slot_name l w (arrow l w a (λ t. simple l d (k t))) s
local l (g.local_constant w e d) k s = slot_name l w (λ t. mark l Equals e quiet (simple l d (k t))) s

-- the item of a slot
abbrev pub slot_item : g.Label → SlotForm → Item
slot_item w f = items.Slot (One w.name) f w.spot

abbrev pub local_items : g.Local → List Item
local_items (g.local_argument w) = []
local_items (g.local_bare w) = slot_item w (form.Bare w.setter) ∷ []
local_items (g.local_assignable w a d) = slot_item w (form.Assignable w.setter) ∷ []
local_items (g.local_constant w e d) = slot_item w form.Constant ∷ []

abbrev pub locals_before : Limits → g.LocalsBefore → Listing → Listing
locals_before l g.no_locals k s = k s
locals_before l (g.more_locals ws w p) k s = locals_before l ws (local l w (λ t. placing (local_items w) (write l sign.Period p quiet (k t)))) s

abbrev pub locals : Limits → g.Locals → Listing → Listing
locals l (g.locals_ended ws) k s = locals_before l ws k s
locals l (g.locals_last ws w) k s = locals_before l ws (local l w (λ t. placing (local_items w) (k t))) s

-- the slots of a block
abbrev pub bars : Limits → g.Bars → Writer → Writer
bars l g.absent k = k
bars l (g.present p ws q) k = write l sign.Bar p quiet (locals l ws (λ s. write l sign.Bar q quiet k) (scope activation))

-- Messages.
abbrev pub opening_symbol : g.Opening → Symbol
opening_symbol (g.ordinary w) = sign.Keyword w.name
opening_symbol (g.primitive_keyword w h) = sign.PrimitiveKeyword w.name h

abbrev pub opening_spot : g.Opening → Spot
opening_spot (g.ordinary w) = w.spot
opening_spot (g.primitive_keyword w h) = w.spot

-- the target of a message behind a delegate
abbrev pub delegate_target : g.Delegate → Target
delegate_target (g.to_all w) = Parents
delegate_target (g.to_parent w) = Parent w.name

-- a message with no argument, to the value before it
abbrev pub unary_message : ℕ → TextNode
unary_message n = nodes.Message Given (One n) 0

-- the node of the operator `o` with which operands end
abbrev pub operator_node : ℕ → g.Operands → Made
operator_node o (g.first u p) = node p (nodes.Message Given (One o) 1)
operator_node o (g.delegated d p) = node (delegate_spot d) (nodes.Message (delegate_target d) (One o) 1)
operator_node o (g.next us u p) = node p (nodes.Message Given (One o) 1)

abbrev pub message_spot : g.Message → Spot
message_spot (g.opened r o) = opening_spot o
message_spot (g.redirected d w) = delegate_spot d
message_spot (g.further m b q) = message_spot m

abbrev pub opening_name : g.Opening → ℕ
opening_name (g.ordinary w) = w.name
opening_name (g.primitive_keyword w h) = w.name

-- the name of a message, in parts
abbrev pub message_words : g.Message → Words
message_words (g.opened r o) = One (opening_name o)
message_words (g.redirected d w) = One w.name
message_words (g.further m b q) = followed_by (message_words m) q.word.name

abbrev pub parts : g.Message → ℕ
parts m = count_of (message_words m)

abbrev pub receiver_target : g.Receiver → Target
receiver_target g.implied = Implied
receiver_target (g.given b) = Given

abbrev pub message_target : g.Message → Target
message_target (g.opened r o) = receiver_target r
message_target (g.redirected d w) = delegate_target d
message_target (g.further m b q) = message_target m

-- A message that is a primitive has the name without 'IfFail:' of its first part, where there is one.
abbrev pub opening_base : g.Opening → Option (Option ℕ)
opening_base (g.ordinary w) = None
opening_base (g.primitive_keyword w h) = Some h

abbrev pub message_base : g.Message → Option (Option ℕ)
message_base (g.opened r o) = opening_base o
message_base (g.redirected d w) = None
message_base (g.further m b q) = message_base m

-- whether it ends with a part 'IfFail:' behind its first
abbrev pub ends_handled : g.Message → Bool
ends_handled (g.opened r o) = false
ends_handled (g.redirected d w) = false
ends_handled (g.further m b q) = q.handles

abbrev pub is_implied : Target → Bool
is_implied Given = false
is_implied Implied = true
is_implied Parents = true
is_implied (Parent p) = true

-- A primitive of one part has a handler where that part is its name and 'IfFail:'; one of several, where the last is.
abbrev pub primitive_node : Target → Words → ℕ → Option ℕ → Bool → TextNode
primitive_node to (One n) count None handled = nodes.Primitive (One n) 1 (is_implied to) false
primitive_node to (One n) count (Some base) handled = nodes.Primitive (One base) 0 (is_implied to) true
primitive_node to words count base true = nodes.Primitive (but_last words) (count - 1) (is_implied to) true
primitive_node to words count base false = nodes.Primitive words count (is_implied to) false

abbrev pub keyword_node : Target → Words → ℕ → Option (Option ℕ) → Bool → TextNode
keyword_node to words count None handled = nodes.Message to words count
keyword_node to words count (Some base) handled = primitive_node to words count base handled

-- the node of a keyword message
abbrev pub message_node : g.Message → Made
message_node m = node (message_spot m) (keyword_node (message_target m) (message_words m) (parts m) (message_base m) (ends_handled m))

-- what closes a body makes its last node, unless it ends with a return
abbrev pub ending : g.Body → Spot → Event
ending g.empty p = record closing { made = node p nodes.Nil ∷ node p nodes.End ∷ []; says = items.ClosedBody ∷ []; leaves = true }
ending (g.full (g.code ss None e q)) p = record closing { made = node p nodes.End ∷ []; says = items.ClosedBody ∷ []; leaves = true }
ending (g.full (g.code ss (Some r) e q)) p = record closing { says = items.ClosedBody ∷ []; leaves = true }

-- a '^', its node, and a last period, where they are
abbrev pub returning : Limits → Option Spot → Writer → Writer
returning l None k = k
returning l (Some p) k = write l sign.Caret p quiet k

abbrev pub returned : Option Spot → Writer → Writer
returned None k = k
returned (Some p) k = owing (node p nodes.Return) k

abbrev pub stopped : Limits → Option Spot → Writer → Writer
stopped l None k = k
stopped l (Some p) k = write l sign.Period p quiet k

abbrev mutual
  pub unary : Limits → g.Unary → Writer → Writer
  unary l (g.int z p) k = write l (sign.Integer z) p (makes p (nodes.Integer z)) k
  unary l (g.str s) k = write l (sign.Text s.start s.end) s.spot (makes s.spot (nodes.Text s.start s.end)) k
  unary l (g.itself w) k = write l (sign.Name w.name w.setter Itself) w.spot (makes w.spot nodes.Itself) k
  unary l (g.block p bs b q) k = write l sign.OpenBracket p (record (makes p nodes.Block) { says = items.Opened p ∷ []; opens = true }) (entering (bars l bs (body l b (write l sign.CloseBracket q (ending b q) k))))
  unary l (g.group p e q) k = write l sign.OpenParen p opening (expression l e (write l sign.CloseParen q closing k))
  unary l (g.name w) k = write l (free_name w) w.spot (makes w.spot (nodes.Message Implied (One w.name) 0)) k
  unary l (g.resend_name w) k = write l (sign.Name w.name w.setter Resend) w.spot (makes w.spot (nodes.Message Implied (One w.name) 0)) k
  unary l (g.primitive w) k = write l (sign.Primitive w.name) w.spot (makes w.spot (nodes.Primitive (One w.name) 0 true false)) k
  unary l (g.restart p) k = write l sign.Restart p (makes p nodes.Restart) k
  unary l (g.resent d w) k = delegate l d (write l (any_name w) w.label.spot (makes (delegate_spot d) (nodes.Message (delegate_target d) (One w.label.name) 0)) k)
  unary l (g.sent u w) k = unary l u (write l (any_name w) w.label.spot (makes w.label.spot (unary_message w.label.name)) k)
  unary l (g.sent_primitive u w) k = unary l u (write l (sign.Primitive w.name) w.spot (makes w.spot (nodes.Primitive (One w.name) 0 false false)) k)

  pub body : Limits → g.Body → Writer → Writer
  body l g.empty k = k
  body l (g.full c) k = code l c k

  pub operands : Limits → ℕ → Role → g.Operands → Writer → Writer
  operands l o r (g.first u p) k = unary l u (write l (sign.Operator o r) p quiet k)
  operands l o r (g.delegated d p) k = delegate l d (write l (sign.Operator o r) p quiet k)
  operands l o r (g.next us u p) k = operands l o r us (unary l u (owing (operator_node o us) (write l (sign.Operator o r) p quiet k)))

  pub binary : Limits → g.Binary → Writer → Writer
  binary l (g.single u) k = unary l u k
  binary l (g.several o r us u) k = operands l o r us (unary l u (owing (operator_node o us) k))

  pub receiver : Limits → g.Receiver → Writer → Writer
  receiver l g.implied k = k
  receiver l (g.given b) k = binary l b k

  pub message : Limits → g.Message → Writer → Writer
  message l (g.opened r o) k = receiver l r (write l (opening_symbol o) (opening_spot o) opening k)
  message l (g.redirected d w) k = delegate l d (write l (sign.Keyword w.name) w.spot opening k)
  message l (g.further m b q) k = message l m (binary l b (part l q (record quiet { broken = too_many_arguments l (parts m) }) k))

  pub expression : Limits → g.Expression → Writer → Writer
  expression l (g.plain b) k = binary l b k
  expression l (g.keyed m e) k = message l m (expression l e (owing (message_node m) (finishing k)))

  pub statements : Limits → g.Statements → Writer → Writer
  statements l g.none k = k
  statements l (g.more ss e p) k = statements l ss (expression l e (write l sign.Period p quiet (owing (node p nodes.Drop) k)))

  pub code : Limits → g.Code → Writer → Writer
  code l (g.code ss r e p) k = statements l ss (returning l r (expression l e (returned r (stopped l p k))))

-- The name of a method slot: what follows is told the scope around with the slot's name, the slots of the method with the
-- arguments that are named here, how many arguments there must be, and the place of the slot.
pub record Named : Type 0 where
  pub around : Scope
  pub inner : Scope
  pub wanted : ℕ
  pub spot : Spot
  -- the rules that are broken at '='
  pub broken : List Breach

abbrev pub first_word : g.KeywordName → Spot
first_word (g.keyword_first w) = w.spot
first_word (g.keyword_next n q) = first_word n

abbrev pub words : g.KeywordName → Words
words (g.keyword_first w) = One w.name
words (g.keyword_next n q) = followed_by (words n) q.word.name

abbrev pub count : g.KeywordName → ℕ
count n = count_of (words n)

abbrev pub head_name : g.KeywordHead → g.KeywordName
head_name (g.head_first w a) = g.keyword_first w
head_name (g.head_next n q a) = g.keyword_next (head_name n) q

-- the first keyword of a slot
abbrev pub first_keyword : Limits → g.Word → Listing → Listing
first_keyword l w k s =
    write l (sign.Keyword w.name) w.spot (record quiet { counted = w.spot ∷ []; broken = too_many_locals l s }) (k (with_local l w.spot s))

abbrev pub keyword_name : Limits → g.KeywordName → Listing → Listing
keyword_name l (g.keyword_first w) k s = first_keyword l w k s
keyword_name l (g.keyword_next n q) k s = keyword_name l n (λ t. part l q (record quiet { broken = too_many_arguments l (count n) }) (k t)) s

-- with the scope around and that of the method
abbrev pub keyword_head : Limits → g.KeywordHead → (Scope → Listing) → Listing
keyword_head l (g.head_first w a) k s = first_keyword l w (λ t. head_argument l a (k t) (scope activation)) s
keyword_head l (g.head_next n q a) k s =
    keyword_head l n (λ t i. part l q (record quiet { broken = too_many_arguments l (count (head_name n)) }) (head_argument l a (k t) i)) s

abbrev pub keyword_named : g.KeywordName → Scope → Scope → Named
keyword_named n t i = record { around = named (parts_in (words n)) t; inner = i; wanted = count n; spot = first_word n; broken = again t (parts_in (words n)) (first_word n) }

abbrev pub operator_name : Limits → g.AnyOperator → Listing → Listing
operator_name l o k s =
    operator l o (record quiet { counted = o.word.spot ∷ []; broken = too_many_locals l s ++ again s (o.word.name ∷ []) o.word.spot })
    (k (named (o.word.name ∷ []) (with_local l o.word.spot s)))

abbrev pub head : Limits → g.Head → (Named → Writer) → Listing
head l (g.unary_head w) k s = slot_name l w (λ t. k (record { around = t; inner = scope either; wanted = 0; spot = w.spot; broken = [] })) s
head l (g.operator_with o a) k s =
    operator_name l o (λ t. head_argument l a (λ i. k (record { around = t; inner = i; wanted = 1; spot = o.word.spot; broken = [] })) (scope activation)) s
head l (g.operator o) k s = operator_name l o (λ t. k (record { around = t; inner = scope activation; wanted = 1; spot = o.word.spot; broken = [] })) s
head l (g.keyword_with n) k s = keyword_head l n (λ t i. k (keyword_named (head_name n) t i)) s
head l (g.keyword n) k s = keyword_name l n (λ t. k (keyword_named n t (scope activation))) s

-- The number of arguments doesn't fit.
abbrev pub misfits : Named → Scope → List Breach
misfits n s = when (not (s.arguments == n.wanted)) (there kind.BadSyntax n.spot)

-- a bar must come next where arguments are still wanted
abbrev pub wants_bar : Named → Option Spot
wants_bar n = if n.inner.arguments == n.wanted then None else Some n.spot

-- The rules that are known at the bar that closes the slots of a method, where it surely is one,
abbrev pub at_bar : Named → Scope → List Breach
at_bar n s = if n.wanted == 0 then [] else misfits n s

-- and at the first sign of its code.
abbrev pub at_code : Named → Scope → List Breach
at_code n s = (if n.wanted == 0 then misfits n s else []) ++ when (not s.plain) (here kind.BadSyntax) ++ late_locals s

-- an object is nothing that a slot of a method may hold
abbrev pub holding : g.Datum → Scope → Scope
holding (g.simple d) s = s
holding (g.object x) s = not_plain s

-- a parenthesis with which an object or a method opens
abbrev pub opening_item : Spot → Event
opening_item p = record opening { says = items.Opened p ∷ [] }

-- the name of a method slot, and its place
abbrev pub head_words : g.Head → Words
head_words (g.unary_head w) = One w.name
head_words (g.operator_with o a) = One o.word.name
head_words (g.operator o) = One o.word.name
head_words (g.keyword_with n) = words (head_name n)
head_words (g.keyword n) = words n

abbrev pub head_spot : g.Head → Spot
head_spot (g.unary_head w) = w.spot
head_spot (g.operator_with o a) = o.word.spot
head_spot (g.operator o) = o.word.spot
head_spot (g.keyword_with n) = first_word (head_name n)
head_spot (g.keyword n) = first_word n

-- the items of a slot that ends
abbrev pub method_items : g.MethodSlot → List Item
method_items (g.method h e m) = items.Slot (head_words h) form.Method (head_spot h) ∷ []

abbrev pub member_items : g.Member → List Item
member_items (g.constant w e d) = slot_item w form.Constant ∷ []
member_items (g.assignable w a d) = slot_item w (form.Assignable w.setter) ∷ []
member_items (g.bare w) = slot_item w (form.Bare w.setter) ∷ []
member_items (g.parent w x e d) = slot_item w form.Parent ∷ []
member_items (g.coded m) = method_items m

abbrev pub slot_items : g.Slot → List Item
slot_items (g.member m) = member_items m
slot_items (g.argument w) = []

abbrev mutual
  pub datum : Limits → Owner → g.Datum → Writer → Writer
  datum l o (g.simple d) k = simple l d k
  datum l o (g.object x) k = object l o x k

  pub object : Limits → Owner → g.Object → Writer → Writer
  object l o (g.empty_object p q) k =
      write l sign.OpenParen p (opening_item p) (write l sign.CloseParen q (record closing { says = items.ClosedObject ∷ []; counted = p ∷ [] }) k)
  object l o (g.slotted_object p b ss b2 q) k =
      write l sign.OpenParen p (opening_item p)
      (write l sign.Bar b quiet
      (slots l ss
      (λ s. write l sign.Bar b2 quiet (write l sign.CloseParen q (record closing { says = items.ClosedObject ∷ []; counted = p ∷ []; broken = when (not (s.arguments == 0)) (here kind.BadSyntax) }) k))
      (scope o)))

  pub method : Limits → Named → g.Method → Writer → Writer
  method l n (g.bare_method p b q) k =
      write l sign.OpenParen p (record (opening_item p) { next = wants_bar n }) (entering (code l b (write l sign.CloseParen q (ending (g.full b) q) k)))
  method l n (g.slotted_method p b ss b2 x q) k =
      write l sign.OpenParen p (record (opening_item p) { next = wants_bar n })
      (write l sign.Bar b quiet
      (slots l ss
      (λ s. write l sign.Bar b2 (record quiet { broken = at_bar n s }) (entering (telling (at_code n s) (code l x (write l sign.CloseParen q (ending (g.full x) q) k)))))
      n.inner))

  pub method_slot : Limits → g.MethodSlot → Listing → Listing
  method_slot l (g.method h e m) k s = head l h (λ n. mark l Equals e (record quiet { broken = n.broken }) (method l n m (k (not_plain n.around)))) s

  pub member : Limits → g.Member → Listing → Listing
  member l (g.constant w e d) k s = slot_name l w (λ t. mark l Equals e quiet (datum l either d (k (holding d t)))) s
  member l (g.assignable w a d) k s = slot_name l w (arrow l w a (λ t. datum l holder d (k (holding d t)))) s
  member l (g.bare w) k s = slot_name l w (no_arrow w k) s
  member l (g.parent w x e d) k s = slot_name l w (λ t. mark l Star x quiet (mark l Equals e quiet (datum l holder d (k (not_plain t))))) s
  member l (g.coded m) k s = method_slot l m k s

  pub slot : Limits → g.Slot → Listing → Listing
  slot l (g.member m) k s = member l m k s
  slot l (g.argument w) k s = argument l w k s

  pub slots_before : Limits → g.SlotsBefore → Listing → Listing
  slots_before l g.no_slots k s = k s
  slots_before l (g.more_slots ss x p) k s = slots_before l ss (slot l x (λ t. placing (slot_items x) (write l sign.Period p quiet (k t)))) s

  pub slots : Limits → g.Slots → Listing → Listing
  slots l (g.slots_ended ss) k s = slots_before l ss k s
  slots l (g.slots_last ss x) k s = slots_before l ss (slot l x (λ t. placing (slot_items x) (k t))) s

abbrev pub members_before : Limits → g.MembersBefore → Listing → Listing
members_before l g.no_members k s = k s
members_before l (g.more_members ms m p) k s = members_before l ms (member l m (λ t. placing (member_items m) (write l sign.Period p quiet (k t)))) s

-- before a text of so many slots and objects
abbrev pub at_first : ℕ → Context
at_first size = record { nesting = 0; pending = 0; nodes = 0; around = []; size = size; due = []; late = []; ready = [] }

abbrev pub finish : Limits → Spot → Writer
finish l p = write l sign.End p quiet (λ c. [])

-- The marks of a world: the lobby counts as an object.
abbrev pub world : Limits → g.World → List Mark
world l (g.world_ended ms p) = members_before l ms (λ s. finish l p) (scope holder) (at_first 1)
world l (g.world_last ms m p) = members_before l ms (member l m (λ s. placing (member_items m) (finish l p))) (scope holder) (at_first 1)

-- The marks of an edit.
abbrev pub edit : Limits → g.Edit → List Mark
edit l (g.edit m q p) = method_slot l m (λ s. placing (method_items m) (stopped l q (finish l p))) (scope holder) (at_first 0)

-- The items of a text, in its order.
abbrev pub items_of : List Mark → List Item
items_of [] = []
items_of (m ∷ ms) = m.items ++ items_of ms
