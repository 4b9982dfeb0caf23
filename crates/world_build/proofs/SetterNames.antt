-- The names of assignment slots that a text says are those of its signs.
use Rattle.std.specs.Prelude.{◌≡◌, ℕ, ◌-◌, true, false, Option, None, Some, List, [], ◌∷◌, ◌++◌, map}
use Rattle.std.proofs.Common.{sym, subst}
use Rattle.self_grammar.specs.declared.signs.Spot.{Spot}
use Rattle.self_grammar.specs.declared.signs.Reserved.TheVariants.{Free, Itself, Resend}
use Rattle.self_grammar.specs.declared.signs.Role.{Role}
use Rattle.self_grammar.specs.declared.signs.Role.TheVariants.{Equals, Arrow, Star}
use Rattle.self_grammar.specs.declared.signs.Symbol.{Symbol}
use Rattle.self_grammar.specs.declared.signs.Symbol.TheVariants as symbol
use Rattle.self_grammar.specs.declared.signs.Sign.{Sign}
use Rattle.self_grammar.specs.declared.pieces.Words.TheVariants.{One}
use Rattle.self_grammar.specs.declared.pieces.Target.TheVariants.{Implied}
use Rattle.self_grammar.specs.declared.pieces.Made.{Made}
use Rattle.self_grammar.specs.declared.pieces.TextNode.TheVariants as nodes
use Rattle.self_grammar.specs.declared.pieces.Item.{Item}
use Rattle.self_grammar.specs.declared.pieces.Item.TheVariants as items
use Rattle.self_grammar.specs.Grammar as g
use Rattle.self_grammar.specs.Counts.{Limits, node, quiet, opening, closing, makes, saying, Breach, Context, Event, Mark, Writer, write, owing, telling, placing, entering, finishing, items_at, counted, moved}
use Rattle.self_grammar.specs.Scopes.{Owner, either, Scope, scope, activation, holder, again, with_local, not_plain}
use Rattle.self_grammar.specs.Spelling as s
use Rattle.self_grammar.specs.Spelling.{items_of}
use Rattle.self_grammar.specs.Refusal.{signs, IsText}
use Rattle.world_build.specs.Wholeness.{IsNamedItem, AreNamed}
use Rattle.self_grammar.proofs.Places.{block_opening}
use Rattle.self_grammar.proofs.SlotMoves as v'
use Rattle.world_build.proofs.Heavy.{out_ready}

-- P holds of the name of the assignment slot that a symbol names, and of those of all.
abbrev pub OfSymbol : (ℕ → Type 0) → Symbol → Type 0
OfSymbol P (symbol.Name n setter r) = P setter
OfSymbol P _ = Unit {0}

abbrev pub OfSigns : (ℕ → Type 0) → List Sign → Type 0
OfSigns P [] = Unit {0}
OfSigns P (x ∷ xs) = OfSymbol P x.symbol × OfSigns P xs

data_append : (P : ℕ → Type 0) (is js : List Item) → AreNamed P is → AreNamed P js → AreNamed P (is ++ js)
data_append P [] js h k = k
data_append P (i ∷ is) js h k = (h.0, data_append P is js h.1 k)

-- A node is no slot.
nodes_data : (P : ℕ → Type 0) (ms : List Made) → AreNamed P (map items.Node ms)
nodes_data P [] = tt
nodes_data P (m ∷ ms) = (tt, nodes_data P ms)

method_data : (P : ℕ → Type 0) (m : g.MethodSlot) → AreNamed P (s.method_items m)
method_data P (g.method h e m) = (tt, tt)

-- the items of a sign
data_at : (P : ℕ → Type 0) (c : Context) (e : Event) → AreNamed P c.ready → AreNamed P e.says → AreNamed P (items_at c e)
data_at P c e h k =
    data_append P (c.ready ++ map items.Node (c.due ++ e.made)) e.says (data_append P c.ready (map items.Node (c.due ++ e.made)) h (nodes_data P (c.due ++ e.made))) k

-- what a sign says that says nothing, or one item that is no integer
none : {X : Type 0} → X → Unit {0}
none x = tt

one : {X : Type 0} → X → Unit {0} × Unit {0}
one x = (tt, tt)

-- What holds of the names of the signs of these marks holds of those of their slots.
pub record Follows (P : ℕ → Type 0) (ms : List Mark) : Type 0 where
  pub data_of : OfSigns P (signs ms) → AreNamed P (items_of ms)

module _ (l : Limits) (P : ℕ → Type 0) where
  -- It holds of what follows, where it holds of the slots that aren't said yet.
  abbrev Tells : Writer → Type 0
  Tells k = (c : Context) → AreNamed P c.ready → Follows P (k c)

  named : (x : Symbol) (p : Spot) (e : Event) (k : Writer) → (OfSymbol P x → AreNamed P e.says) → (OfSymbol P x → Tells k) → Tells (write l x p e k)
  named x p e k says tells c ready =
      let calm : (moved c e).ready ≡ [] = out_ready e.leaves c.around (counted c e) in
      record { data_of = λ o. data_append P (items_at c e) (items_of (k (moved c e))) (data_at P c e ready (says o.0)) ((tells o.0 (moved c e) (subst (λ is. AreNamed P is) (sym calm) tt)).data_of o.1) }

  sign : (x : Symbol) (p : Spot) (e : Event) (k : Writer) → (OfSymbol P x → AreNamed P e.says) → Tells k → Tells (write l x p e k)
  sign x p e k says tells = named x p e k says (λ o. tells)

  -- What is said between signs.
  placing_tells : (is : List Item) (k : Writer) → AreNamed P is → Tells k → Tells (placing is k)
  placing_tells is k slots tells c ready = tells (record c { ready = c.ready ++ is }) (data_append P c.ready is ready slots)

  owing_tells : (o : Made) (k : Writer) → Tells k → Tells (owing o k)
  owing_tells o k tells c ready = tells (record c { due = c.due ++ o ∷ [] }) ready

  finishing_tells : (k : Writer) → Tells k → Tells (finishing k)
  finishing_tells k tells c ready = tells (record c { nesting = c.nesting - 1 }) ready

  telling_tells : (bs : List Breach) (k : Writer) → Tells k → Tells (telling bs k)
  telling_tells bs k tells c ready = tells (record c { late = c.late ++ bs }) ready

  entering_tells : (k : Writer) → Tells k → Tells (entering k)
  entering_tells k tells c ready = tells (record c { pending = 0; nodes = 0; around = record { pending = c.pending; nodes = c.nodes } ∷ c.around }) ready

  -- Parts of slots and of code.
  slot_name_tells : (x : g.Label) (k : s.Listing) → (P x.setter → (u : Scope) → Tells (k u)) → (u : Scope) → Tells (s.slot_name l x k u)
  slot_name_tells x k tells u = named (s.free_name x) x.spot (v'.name_event l u x) _ none (λ o. tells o _)

  argument_tells : (x : g.Label) (k : s.Listing) → ((u : Scope) → Tells (k u)) → (u : Scope) → Tells (s.argument l x k u)
  argument_tells x k tells u = sign (symbol.Argument x.name x.setter Free) x.spot (v'.argument_event l u x) _ one (tells _)

  head_argument_tells : (x : g.Label) (k : s.Listing) → ((u : Scope) → Tells (k u)) → (u : Scope) → Tells (s.head_argument l x k u)
  head_argument_tells x k tells u = sign (s.free_name x) x.spot (v'.head_argument_event l u x) _ one (tells _)

  arrow_tells : (x : g.Label) (a : g.Word) (k : s.Listing) → ((u : Scope) → Tells (k u)) → (u : Scope) → Tells (s.arrow l x a k u)
  arrow_tells x a k tells u = sign (symbol.Operator a.name Arrow) a.spot (record quiet { broken = again u (x.setter ∷ []) x.spot }) _ none (tells _)

  no_arrow_tells : (x : g.Label) (k : s.Listing) → ((u : Scope) → Tells (k u)) → (u : Scope) → Tells (s.no_arrow x k u)
  no_arrow_tells x k tells u = telling_tells (again u (x.setter ∷ []) x.spot) _ (tells _)

  stopped_tells : (o : Option Spot) (k : Writer) → Tells k → Tells (s.stopped l o k)
  stopped_tells None k tells = tells
  stopped_tells (Some p) k tells = sign symbol.Period p quiet k none tells

  delegate_tells : (x : g.Delegate) (k : Writer) → Tells k → Tells (s.delegate l x k)
  delegate_tells x k tells = sign (s.delegate_symbol x) (s.delegate_spot x) quiet k none tells

  ending_tells : (b : g.Body) (x : Symbol) (q : Spot) (k : Writer) → Tells k → Tells (write l x q (s.ending b q) k)
  ending_tells g.empty x q k tells = sign x q (s.ending g.empty q) k one tells
  ending_tells (g.full (g.code ss None e r)) x q k tells = sign x q (s.ending (g.full (g.code ss None e r)) q) k one tells
  ending_tells (g.full (g.code ss (Some r) e u)) x q k tells = sign x q (s.ending (g.full (g.code ss (Some r) e u)) q) k one tells

  path_tells : (q : g.Path) (k : Writer) → Tells k → Tells (s.path l q k)
  path_tells (g.named x) k tells = sign (s.any_name x) x.label.spot (saying (items.Root x.label.name x.label.spot)) k one tells
  path_tells (g.under q x) k tells = path_tells q _ (sign (s.any_name x) x.label.spot (saying (items.Further x.label.name x.label.spot)) k one tells)

  simple_tells : (x : g.Simple) (k : Writer) → Tells k → Tells (s.simple l x k)
  simple_tells (g.integer z p) k tells = sign (symbol.Integer z) p (saying (items.Integer z)) k one tells
  simple_tells (g.string x) k tells = sign (symbol.Text x.start x.end) x.spot (saying (items.Text x.start x.end)) k one tells
  simple_tells (g.path q) k tells = path_tells q k tells

  local_tells : (x : g.Local) (k : s.Listing) → (AreNamed P (s.local_items x) → (u : Scope) → Tells (k u)) → (u : Scope) → Tells (s.local l x k u)
  local_tells (g.local_argument x) k tells u = argument_tells x k (tells tt) u
  local_tells (g.local_bare x) k tells u = slot_name_tells x _ (λ o. no_arrow_tells x k (tells (o, tt))) u
  local_tells (g.local_assignable x a d) k tells u = slot_name_tells x _ (λ o. arrow_tells x a _ (λ y. simple_tells d (k y) (tells (o, tt) y))) u
  local_tells (g.local_constant x e d) k tells u = slot_name_tells x _ (λ o y. sign (symbol.Operator e.name Equals) e.spot quiet _ none (simple_tells d (k y) (tells (tt, tt) y))) u

  locals_before_tells : (ws : g.LocalsBefore) (k : s.Listing) → ((u : Scope) → Tells (k u)) → (u : Scope) → Tells (s.locals_before l ws k u)
  locals_before_tells g.no_locals k tells u = tells u
  locals_before_tells (g.more_locals ws x p) k tells u =
      locals_before_tells ws _ (λ y. local_tells x _ (λ o z. placing_tells (s.local_items x) _ o (sign symbol.Period p quiet _ none (tells z))) y) u

  locals_tells : (ws : g.Locals) (k : s.Listing) → ((u : Scope) → Tells (k u)) → (u : Scope) → Tells (s.locals l ws k u)
  locals_tells (g.locals_ended ws) k tells u = locals_before_tells ws k tells u
  locals_tells (g.locals_last ws x) k tells u = locals_before_tells ws _ (λ y. local_tells x _ (λ o z. placing_tells (s.local_items x) _ o (tells z)) y) u

  bars_tells : (bs : g.Bars) (k : Writer) → Tells k → Tells (s.bars l bs k)
  bars_tells g.absent k tells = tells
  bars_tells (g.present p ws q) k tells = sign symbol.Bar p quiet _ none (locals_tells ws _ (λ u. sign symbol.Bar q quiet _ none tells) (scope activation))

  -- Code.
  mutual
    unary_tells : (u : g.Unary) (k : Writer) → Tells k → Tells (s.unary l u k)
    unary_tells (g.int z p) k tells = sign (symbol.Integer z) p (makes p (nodes.Integer z)) k none tells
    unary_tells (g.str x) k tells = sign (symbol.Text x.start x.end) x.spot (makes x.spot (nodes.Text x.start x.end)) k none tells
    unary_tells (g.itself w) k tells = sign (symbol.Name w.name w.setter Itself) w.spot (makes w.spot nodes.Itself) k none tells
    unary_tells (g.block p bs b q) k tells = sign symbol.OpenBracket p (block_opening p) _ one (entering_tells _ (bars_tells bs _ (body_tells b _ (ending_tells b symbol.CloseBracket q k tells))))
    unary_tells (g.group p e q) k tells = sign symbol.OpenParen p opening _ none (expression_tells e _ (sign symbol.CloseParen q closing k none tells))
    unary_tells (g.name w) k tells = sign (s.free_name w) w.spot (makes w.spot (nodes.Message Implied (One w.name) 0)) k none tells
    unary_tells (g.resend_name w) k tells = sign (symbol.Name w.name w.setter Resend) w.spot (makes w.spot (nodes.Message Implied (One w.name) 0)) k none tells
    unary_tells (g.primitive w) k tells = sign (symbol.Primitive w.name) w.spot (makes w.spot (nodes.Primitive (One w.name) 0 true false)) k none tells
    unary_tells (g.restart p) k tells = sign symbol.Restart p (makes p nodes.Restart) k none tells
    unary_tells (g.resent d w) k tells =
        delegate_tells d _ (sign (s.any_name w) w.label.spot (makes (s.delegate_spot d) (nodes.Message (s.delegate_target d) (One w.label.name) 0)) k none tells)
    unary_tells (g.sent u w) k tells = unary_tells u _ (sign (s.any_name w) w.label.spot (makes w.label.spot (s.unary_message w.label.name)) k none tells)
    unary_tells (g.sent_primitive u w) k tells = unary_tells u _ (sign (symbol.Primitive w.name) w.spot (makes w.spot (nodes.Primitive (One w.name) 0 false false)) k none tells)

    body_tells : (b : g.Body) (k : Writer) → Tells k → Tells (s.body l b k)
    body_tells g.empty k tells = tells
    body_tells (g.full c) k tells = code_tells c k tells

    operands_tells : (us : g.Operands) (o : ℕ) (r : Role) (k : Writer) → Tells k → Tells (s.operands l o r us k)
    operands_tells (g.first u p) o r k tells = unary_tells u _ (sign (symbol.Operator o r) p quiet k none tells)
    operands_tells (g.delegated d p) o r k tells = delegate_tells d _ (sign (symbol.Operator o r) p quiet k none tells)
    operands_tells (g.next us u p) o r k tells = operands_tells us o r _ (unary_tells u _ (owing_tells (s.operator_node o us) _ (sign (symbol.Operator o r) p quiet k none tells)))

    binary_tells : (b : g.Binary) (k : Writer) → Tells k → Tells (s.binary l b k)
    binary_tells (g.single u) k tells = unary_tells u k tells
    binary_tells (g.several o r us u) k tells = operands_tells us o r _ (unary_tells u _ (owing_tells (s.operator_node o us) k tells))

    receiver_tells : (r : g.Receiver) (k : Writer) → Tells k → Tells (s.receiver l r k)
    receiver_tells g.implied k tells = tells
    receiver_tells (g.given b) k tells = binary_tells b k tells

    message_tells : (x : g.Message) (k : Writer) → Tells k → Tells (s.message l x k)
    message_tells (g.opened r o) k tells = receiver_tells r _ (sign (s.opening_symbol o) (s.opening_spot o) opening k none tells)
    message_tells (g.redirected d w) k tells = delegate_tells d _ (sign (symbol.Keyword w.name) w.spot opening k none tells)
    message_tells (g.further x b q) k tells =
        message_tells x _ (binary_tells b _ (sign (symbol.CapitalKeyword q.word.name q.handles) q.word.spot (v'.part_event l (s.parts x)) k none tells))

    expression_tells : (e : g.Expression) (k : Writer) → Tells k → Tells (s.expression l e k)
    expression_tells (g.plain b) k tells = binary_tells b k tells
    expression_tells (g.keyed x e) k tells = message_tells x _ (expression_tells e _ (owing_tells (s.message_node x) _ (finishing_tells k tells)))

    statements_tells : (ss : g.Statements) (k : Writer) → Tells k → Tells (s.statements l ss k)
    statements_tells g.none k tells = tells
    statements_tells (g.more ss e p) k tells = statements_tells ss _ (expression_tells e _ (sign symbol.Period p quiet _ none (owing_tells (node p nodes.Drop) k tells)))

    code_tells : (x : g.Code) (k : Writer) → Tells k → Tells (s.code l x k)
    code_tells (g.code ss None e q) k tells = statements_tells ss _ (expression_tells e _ (stopped_tells q k tells))
    code_tells (g.code ss (Some r) e q) k tells =
        statements_tells ss _ (sign symbol.Caret r quiet _ none (expression_tells e _ (owing_tells (node r nodes.Return) _ (stopped_tells q k tells))))

  -- The names of slots.
  keyword_name_tells : (n : g.KeywordName) (k : s.Listing) → ((u : Scope) → Tells (k u)) → (u : Scope) → Tells (s.keyword_name l n k u)
  keyword_name_tells (g.keyword_first x) k tells u = sign (symbol.Keyword x.name) x.spot (v'.keyword_event l u x) _ none (tells _)
  keyword_name_tells (g.keyword_next n q) k tells u =
      keyword_name_tells n _ (λ y. sign (symbol.CapitalKeyword q.word.name q.handles) q.word.spot (v'.part_event l (s.count n)) (k y) none (tells y)) u

  keyword_head_tells : (n : g.KeywordHead) (k : Scope → s.Listing) → ((u i : Scope) → Tells (k u i)) → (u : Scope) → Tells (s.keyword_head l n k u)
  keyword_head_tells (g.head_first x a) k tells u =
      sign (symbol.Keyword x.name) x.spot (v'.keyword_event l u x) _ none (head_argument_tells a _ (tells (with_local l x.spot u)) (scope activation))
  keyword_head_tells (g.head_next n q a) k tells u =
      keyword_head_tells n _
      (λ y i. sign (symbol.CapitalKeyword q.word.name q.handles) q.word.spot (v'.part_event l (s.count (s.head_name n))) _ none (head_argument_tells a (k y) (tells y) i)) u

  operator_name_tells : (o : g.AnyOperator) (k : s.Listing) → ((u : Scope) → Tells (k u)) → (u : Scope) → Tells (s.operator_name l o k u)
  operator_name_tells o k tells u = sign (symbol.Operator o.word.name o.role) o.word.spot (v'.operator_event l u o) _ none (tells _)

  head_tells : (h : g.Head) (k : s.Named → Writer) → ((n : s.Named) → Tells (k n)) → (u : Scope) → Tells (s.head l h k u)
  head_tells (g.unary_head x) k tells u = slot_name_tells x _ (λ o y. tells (record { around = y; inner = scope either; wanted = 0; spot = x.spot; broken = [] })) u
  head_tells (g.operator_with o a) k tells u =
      operator_name_tells o _ (λ y. head_argument_tells a _ (λ i. tells (record { around = y; inner = i; wanted = 1; spot = o.word.spot; broken = [] })) (scope activation)) u
  head_tells (g.operator o) k tells u = operator_name_tells o _ (λ y. tells (record { around = y; inner = scope activation; wanted = 1; spot = o.word.spot; broken = [] })) u
  head_tells (g.keyword_with n) k tells u = keyword_head_tells n _ (λ y i. tells (s.keyword_named (s.head_name n) y i)) u
  head_tells (g.keyword n) k tells u = keyword_name_tells n _ (λ y. tells (s.keyword_named n y (scope activation))) u

  -- Slots and what fills them.
  opened_tells : (p : Spot) (o : Option Spot) (k : Writer) → Tells k → Tells (write l symbol.OpenParen p (record (s.opening_item p) { next = o }) k)
  opened_tells p o k tells = sign symbol.OpenParen p (record (s.opening_item p) { next = o }) k one tells

  method_code_tells : (x : g.Code) (q : Spot) (k : Writer) → Tells k → Tells (s.code l x (write l symbol.CloseParen q (s.ending (g.full x) q) k))
  method_code_tells x q k tells = code_tells x _ (ending_tells (g.full x) symbol.CloseParen q k tells)

  mutual
    datum_tells : (d : g.Datum) (o : Owner) (k : Writer) → Tells k → Tells (s.datum l o d k)
    datum_tells (g.simple d) o k tells = simple_tells d k tells
    datum_tells (g.object x) o k tells = object_tells x o k tells

    object_tells : (x : g.Object) (o : Owner) (k : Writer) → Tells k → Tells (s.object l o x k)
    object_tells (g.empty_object p q) o k tells = opened_tells p None _ (sign symbol.CloseParen q (v'.empty_object_end p) k one tells)
    object_tells (g.slotted_object p b ss b2 q) o k tells =
        opened_tells p None _
        (sign symbol.Bar b quiet _ none
        (slots_tells ss _ (λ u. sign symbol.Bar b2 quiet _ none (sign symbol.CloseParen q (v'.object_end p u) k one tells)) (scope o)))

    method_tells : (x : g.Method) (n : s.Named) (k : Writer) → Tells k → Tells (s.method l n x k)
    method_tells (g.bare_method p b q) n k tells = opened_tells p (s.wants_bar n) _ (entering_tells _ (method_code_tells b q k tells))
    method_tells (g.slotted_method p b ss b2 x q) n k tells =
        opened_tells p (s.wants_bar n) _
        (sign symbol.Bar b quiet _ none
        (slots_tells ss _
        (λ u. sign symbol.Bar b2 (record quiet { broken = s.at_bar n u }) _ none (entering_tells _ (telling_tells (s.at_code n u) _ (method_code_tells x q k tells))))
        n.inner))

    method_slot_tells : (x : g.MethodSlot) (k : s.Listing) → ((u : Scope) → Tells (k u)) → (u : Scope) → Tells (s.method_slot l x k u)
    method_slot_tells (g.method h e x) k tells u =
        head_tells h _ (λ n. sign (symbol.Operator e.name Equals) e.spot (record quiet { broken = n.broken }) _ none (method_tells x n (k (not_plain n.around)) (tells (not_plain n.around)))) u

    member_tells : (x : g.Member) (k : s.Listing) → (AreNamed P (s.member_items x) → (u : Scope) → Tells (k u)) → (u : Scope) → Tells (s.member l x k u)
    member_tells (g.constant x e d) k tells u =
        slot_name_tells x _ (λ o y. sign (symbol.Operator e.name Equals) e.spot quiet _ none (datum_tells d either (k (s.holding d y)) (tells (tt, tt) (s.holding d y)))) u
    member_tells (g.assignable x a d) k tells u = slot_name_tells x _ (λ o. arrow_tells x a _ (λ y. datum_tells d holder (k (s.holding d y)) (tells (o, tt) (s.holding d y)))) u
    member_tells (g.bare x) k tells u = slot_name_tells x _ (λ o. no_arrow_tells x k (tells (o, tt))) u
    member_tells (g.parent x a e d) k tells u =
        slot_name_tells x _
        (λ o y. sign (symbol.Operator a.name Star) a.spot quiet _ none
        (sign (symbol.Operator e.name Equals) e.spot quiet _ none (datum_tells d holder (k (not_plain y)) (tells (tt, tt) (not_plain y))))) u
    member_tells (g.coded x) k tells u = method_slot_tells x k (tells (method_data P x)) u

    slot_tells : (x : g.Slot) (k : s.Listing) → (AreNamed P (s.slot_items x) → (u : Scope) → Tells (k u)) → (u : Scope) → Tells (s.slot l x k u)
    slot_tells (g.member x) k tells u = member_tells x k tells u
    slot_tells (g.argument x) k tells u = argument_tells x k (tells tt) u

    slots_before_tells : (ss : g.SlotsBefore) (k : s.Listing) → ((u : Scope) → Tells (k u)) → (u : Scope) → Tells (s.slots_before l ss k u)
    slots_before_tells g.no_slots k tells u = tells u
    slots_before_tells (g.more_slots ss x p) k tells u =
        slots_before_tells ss _ (λ y. slot_tells x _ (λ o z. placing_tells (s.slot_items x) _ o (sign symbol.Period p quiet _ none (tells z))) y) u

    slots_tells : (ss : g.Slots) (k : s.Listing) → ((u : Scope) → Tells (k u)) → (u : Scope) → Tells (s.slots l ss k u)
    slots_tells (g.slots_ended ss) k tells u = slots_before_tells ss k tells u
    slots_tells (g.slots_last ss x) k tells u = slots_before_tells ss _ (λ y. slot_tells x _ (λ o z. placing_tells (s.slot_items x) _ o (tells z)) y) u

  members_before_tells : (ms : g.MembersBefore) (k : s.Listing) → ((u : Scope) → Tells (k u)) → (u : Scope) → Tells (s.members_before l ms k u)
  members_before_tells g.no_members k tells u = tells u
  members_before_tells (g.more_members ms x p) k tells u =
      members_before_tells ms _ (λ y. member_tells x _ (λ o z. placing_tells (s.member_items x) _ o (sign symbol.Period p quiet _ none (tells z))) y) u

  nothing_tells : Tells (λ c. [])
  nothing_tells c ready = record { data_of = λ o. tt }

  finish_tells : (p : Spot) → Tells (s.finish l p)
  finish_tells p = sign symbol.End p quiet (λ c. []) none nothing_tells

  world_tells : (x : g.World) → Follows P (s.world l x)
  world_tells (g.world_ended ms p) = members_before_tells ms (λ u. s.finish l p) (λ u. finish_tells p) (scope holder) (s.at_first 1) tt
  world_tells (g.world_last ms x p) =
      members_before_tells ms (s.member l x (λ u. placing (s.member_items x) (s.finish l p)))
      (member_tells x (λ u. placing (s.member_items x) (s.finish l p)) (λ o u. placing_tells (s.member_items x) (s.finish l p) o (finish_tells p)))
      (scope holder) (s.at_first 1) tt

-- What holds of the names of assignment slots of a world's signs holds of those of its slots.
pub world_setters : (l : Limits) (P : ℕ → Type 0) (given : List Sign) (w : g.World) → IsText (s.world l) given w → OfSigns P given → AreNamed P (items_of (s.world l w))
world_setters l P given w h of = (world_tells l P w).data_of (subst (λ ss. OfSigns P ss) (sym h.0) of)
