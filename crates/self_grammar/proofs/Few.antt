-- A text with nothing wrong says few items: at each sign at most one slot that ends there and one item of the sign itself;
-- and its nodes are counted in its size, which keeps its limit.
use Rattle.std.specs.Prelude.{◌≡◌, ℕ, ◌+◌, ◌-◌, ◌*◌, ◌≤◌, nat_le, Bool, true, false, ◌&&◌, if◌then◌else◌, Option, None, Some, List, [], ◌∷◌, ◌++◌, length, map, refl}
use Rattle.std.proofs.Common.{ap, sym, subst, ◌∙◌, arith, length-append}
use Rattle.std.proofs.lemmas.Grind.{common_steps}
use Rattle.std.proofs.lemmas.List.{length-map}
use Rattle.self_grammar.specs.declared.signs.Spot.{Spot}
use Rattle.self_grammar.specs.declared.signs.Reserved.TheVariants.{Free, Itself, Resend}
use Rattle.self_grammar.specs.declared.signs.Role.{Role}
use Rattle.self_grammar.specs.declared.signs.Role.TheVariants.{Equals, Arrow, Star}
use Rattle.self_grammar.specs.declared.signs.Symbol.{Symbol}
use Rattle.self_grammar.specs.declared.signs.Symbol.TheVariants as symbol
use Rattle.self_grammar.specs.declared.signs.Sign.{Sign}
use Rattle.self_grammar.specs.declared.pieces.Words.TheVariants.{One}
use Rattle.self_grammar.specs.declared.pieces.Target.TheVariants.{Implied}
use Rattle.self_grammar.specs.declared.pieces.Made.{Made}
use Rattle.self_grammar.specs.declared.pieces.TextNode.TheVariants as nodes
use Rattle.self_grammar.specs.declared.pieces.Item.{Item}
use Rattle.self_grammar.specs.declared.pieces.Item.TheVariants as items
use Rattle.self_grammar.specs.Grammar as g
use Rattle.self_grammar.specs.Counts.{Limits, node, quiet, opening, closing, makes, saying, Breach, Held, Context, Event, Mark, Writer, write, owing, telling, placing, entering, finishing, placed, too_many_nodes, too_large, breaches, items_at, mark_at, counted, resumed, moved}
use Rattle.self_grammar.specs.Scopes.{Owner, either, Scope, scope, activation, holder, again, with_local, not_plain}
use Rattle.self_grammar.specs.Spelling as s
use Rattle.self_grammar.specs.Spelling.{items_of}
use Rattle.self_grammar.specs.Refusal.{AreSound, IsText}
use Rattle.self_grammar.proofs.Places.{block_opening}
use Rattle.self_grammar.proofs.SlotMoves as v'
use Rattle.self_grammar.proofs.Balance.{front_empty, back_empty, none_first, unplaced, passes, both}

-- What nothing broken says of the size.

-- the nodes of a sign keep the limit of the text
nodes_within : (l : Limits) (m n size : ℕ) (ms : List Made) → l.size ≤ m → size ≤ m → too_many_nodes l n size ms ≡ [] → size + length ms ≤ m
nodes_within l m n size [] top le e = omega arith
nodes_within l m n size (x ∷ ms) top le e =
    let p = passes (nat_le (n + 1) l.body && nat_le (size + 1) l.size) (too_many_nodes l (n + 1) (size + 1) ms) _ e in
    let q : nat_le (size + 1) l.size ≡ true = (both (nat_le (n + 1) l.body) (nat_le (size + 1) l.size) p.0).1 in
    let low : size + 1 ≤ l.size = grind (arith, common_steps) in
    let rest : size + 1 + length ms ≤ m = nodes_within l m (n + 1) (size + 1) ms top (omega arith) p.1 in
    omega arith

-- and so do its slots and objects
slots_within : (l : Limits) (m size : ℕ) (ps : List Spot) → l.size ≤ m → size ≤ m → too_large l size ps ≡ [] → size + length ps ≤ m
slots_within l m size [] top le e = omega arith
slots_within l m size (x ∷ ps) top le e =
    let p = passes (nat_le (size + 1) l.size) (too_large l (size + 1) ps) _ e in
    let q : nat_le (size + 1) l.size ≡ true = p.0 in
    let low : size + 1 ≤ l.size = grind (arith, common_steps) in
    let rest : size + 1 + length ps ≤ m = slots_within l m (size + 1) ps top (omega arith) p.1 in
    omega arith

-- behind a sign with which nothing is wrong the size keeps the limit
within : (l : Limits) (m : ℕ) (c : Context) (x : Symbol) (p : Spot) (e : Event) → l.size ≤ m → c.size ≤ m → (mark_at l c x p e).fault ≡ None → (counted c e).size ≤ m
within l m c x p e top le h =
    let all : breaches l c e ≡ [] = unplaced p (breaches l c e) (none_first (map (placed p) (breaches l c e)) h) in
    let large : too_large l (c.size + length (c.due ++ e.made)) e.counted ≡ [] = back_empty _ _ all in
    let many : too_many_nodes l c.nodes c.size (c.due ++ e.made) ≡ [] = back_empty _ _ (front_empty _ (too_large l (c.size + length (c.due ++ e.made)) e.counted) all) in
    slots_within l m (c.size + length (c.due ++ e.made)) e.counted top (nodes_within l m c.nodes c.size (c.due ++ e.made) top le many) large

-- The end of a body changes no size, and no slot.
out_size : (b : Bool) (hs : List Held) (c : Context) → (if b then resumed hs c else c).size ≡ c.size
out_size true [] c = refl
out_size true (h ∷ hs) c = refl
out_size false hs c = refl

out_ready : (b : Bool) (hs : List Held) (c : Context) → (if b then resumed hs c else c).ready ≡ c.ready
out_ready true [] c = refl
out_ready true (h ∷ hs) c = refl
out_ready false hs c = refl

-- the items of a sign
length_at : (c : Context) (e : Event) (rest : List Item) → length (items_at c e ++ rest) ≡ length c.ready + length (c.due ++ e.made) + length e.says + length rest
length_at c e rest =
    let a : length (items_at c e ++ rest) ≡ length (items_at c e) + length rest = length-append (items_at c e) rest in
    let b : length (items_at c e) ≡ length (c.ready ++ map items.Node (c.due ++ e.made)) + length e.says = length-append (c.ready ++ map items.Node (c.due ++ e.made)) e.says in
    let d : length (c.ready ++ map items.Node (c.due ++ e.made)) ≡ length c.ready + length (map items.Node (c.due ++ e.made)) = length-append c.ready (map items.Node (c.due ++ e.made)) in
    let f : length (map items.Node (c.due ++ e.made)) ≡ length (c.due ++ e.made) = length-map (c.due ++ e.made) items.Node in
    omega arith

-- Items are said one by one.
none : 0 ≤ 1
none = omega arith

one : 1 ≤ 1
one = omega arith

local_one : (x : g.Local) → length (s.local_items x) ≤ 1
local_one (g.local_argument w) = omega arith
local_one (g.local_bare w) = omega arith
local_one (g.local_assignable w a d) = omega arith
local_one (g.local_constant w e d) = omega arith

method_one : (m : g.MethodSlot) → length (s.method_items m) ≤ 1
method_one (g.method h e m) = omega arith

member_one : (m : g.Member) → length (s.member_items m) ≤ 1
member_one (g.constant w e d) = omega arith
member_one (g.assignable w a d) = omega arith
member_one (g.bare w) = omega arith
member_one (g.parent w x e d) = omega arith
member_one (g.coded m) = method_one m

slot_one : (x : g.Slot) → length (s.slot_items x) ≤ 1
slot_one (g.member m) = member_one m
slot_one (g.argument w) = omega arith

-- These marks of a text that has this size before them say few items, where the size stays within `m`.
pub record Tells (m size : ℕ) (ms : List Mark) : Type 0 where
  pub below : length (items_of ms) + size ≤ 2 * length ms + m

module _ (l : Limits) (m : ℕ) (top : l.size ≤ m) where
  -- What follows says few items, wherever at most `r` slots have ended that aren't said yet.
  abbrev Few : ℕ → Writer → Type 0
  Few r k = (c : Context) → length c.ready ≤ r → c.size ≤ m → AreSound (k c) → Tells m c.size (k c)

  -- a sign behind the end of a slot,
  behind_slot : (x : Symbol) (p : Spot) (e : Event) (k : Writer) → length e.says ≤ 1 → Few 0 k → Few 1 (write l x p e k)
  behind_slot x p e k says few c ready size sound =
      let now : Context = counted c e in
      let same : (moved c e).size ≡ now.size = out_size e.leaves c.around now in
      let calm : (moved c e).ready ≡ [] = out_ready e.leaves c.around now in
      let grown : now.size ≤ m = within l m c x p e top size sound.0 in
      let empty : length (moved c e).ready ≤ 0 = subst (λ is. length is ≤ 0) (sym calm) (omega arith) in
      let rest : length (items_of (k (moved c e))) + (moved c e).size ≤ 2 * length (k (moved c e)) + m = (few (moved c e) empty (rw same grown) sound.2).below in
      let all = length_at c e (items_of (k (moved c e))) in
      let sum : now.size ≡ c.size + length (c.due ++ e.made) + length e.counted = refl in
      record { below = omega arith }

  -- any other,
  sign : (x : Symbol) (p : Spot) (e : Event) (k : Writer) → length e.says ≤ 1 → Few 0 k → Few 0 (write l x p e k)
  sign x p e k says few c ready size sound = behind_slot x p e k says few c (omega arith) size sound

  -- and what needn't stand behind one.
  weaker : (k : Writer) → Few 1 k → Few 0 k
  weaker k few c ready size sound = few c (omega arith) size sound

  -- What is said between signs.
  placing_few : (is : List Item) (k : Writer) → length is ≤ 1 → Few 1 k → Few 0 (placing is k)
  placing_few is k le few c ready size sound =
      let all : length (c.ready ++ is) ≡ length c.ready + length is = length-append c.ready is in
      few (record c { ready = c.ready ++ is }) (omega arith) size sound

  owing_few : (o : Made) (k : Writer) → Few 0 k → Few 0 (owing o k)
  owing_few o k few c ready size sound = few (record c { due = c.due ++ o ∷ [] }) ready size sound

  finishing_few : (k : Writer) → Few 0 k → Few 0 (finishing k)
  finishing_few k few c ready size sound = few (record c { nesting = c.nesting - 1 }) ready size sound

  telling_few : (bs : List Breach) (k : Writer) → Few 0 k → Few 0 (telling bs k)
  telling_few bs k few c ready size sound = few (record c { late = c.late ++ bs }) ready size sound

  entering_few : (k : Writer) → Few 0 k → Few 0 (entering k)
  entering_few k few c ready size sound = few (record c { pending = 0; nodes = 0; around = record { pending = c.pending; nodes = c.nodes } ∷ c.around }) ready size sound

  -- Parts of slots and of code.
  slot_name_few : (x : g.Label) (k : s.Listing) → ((u : Scope) → Few 0 (k u)) → (u : Scope) → Few 0 (s.slot_name l x k u)
  slot_name_few x k few u = sign (s.free_name x) x.spot (v'.name_event l u x) _ none (few _)

  argument_few : (x : g.Label) (k : s.Listing) → ((u : Scope) → Few 0 (k u)) → (u : Scope) → Few 0 (s.argument l x k u)
  argument_few x k few u = sign (symbol.Argument x.name x.setter Free) x.spot (v'.argument_event l u x) _ one (few _)

  head_argument_few : (x : g.Label) (k : s.Listing) → ((u : Scope) → Few 0 (k u)) → (u : Scope) → Few 0 (s.head_argument l x k u)
  head_argument_few x k few u = sign (s.free_name x) x.spot (v'.head_argument_event l u x) _ one (few _)

  arrow_few : (x : g.Label) (a : g.Word) (k : s.Listing) → ((u : Scope) → Few 0 (k u)) → (u : Scope) → Few 0 (s.arrow l x a k u)
  arrow_few x a k few u = sign (symbol.Operator a.name Arrow) a.spot (record quiet { broken = again u (x.setter ∷ []) x.spot }) _ none (few _)

  no_arrow_few : (x : g.Label) (k : s.Listing) → ((u : Scope) → Few 0 (k u)) → (u : Scope) → Few 0 (s.no_arrow x k u)
  no_arrow_few x k few u = telling_few (again u (x.setter ∷ []) x.spot) _ (few _)

  stopped_few : (o : Option Spot) (k : Writer) → Few 0 k → Few 0 (s.stopped l o k)
  stopped_few None k few = few
  stopped_few (Some p) k few = sign symbol.Period p quiet k none few

  delegate_few : (x : g.Delegate) (k : Writer) → Few 0 k → Few 0 (s.delegate l x k)
  delegate_few x k few = sign (s.delegate_symbol x) (s.delegate_spot x) quiet k none few

  ending_few : (b : g.Body) (x : Symbol) (q : Spot) (k : Writer) → Few 0 k → Few 0 (write l x q (s.ending b q) k)
  ending_few g.empty x q k few = sign x q (s.ending g.empty q) k one few
  ending_few (g.full (g.code ss None e r)) x q k few = sign x q (s.ending (g.full (g.code ss None e r)) q) k one few
  ending_few (g.full (g.code ss (Some r) e u)) x q k few = sign x q (s.ending (g.full (g.code ss (Some r) e u)) q) k one few

  path_few : (q : g.Path) (k : Writer) → Few 0 k → Few 0 (s.path l q k)
  path_few (g.named x) k few = sign (s.any_name x) x.label.spot (saying (items.Root x.label.name x.label.spot)) k one few
  path_few (g.under q x) k few = path_few q _ (sign (s.any_name x) x.label.spot (saying (items.Further x.label.name x.label.spot)) k one few)

  simple_few : (x : g.Simple) (k : Writer) → Few 0 k → Few 0 (s.simple l x k)
  simple_few (g.integer z p) k few = sign (symbol.Integer z) p (saying (items.Integer z)) k one few
  simple_few (g.string x) k few = sign (symbol.Text x.start x.end) x.spot (saying (items.Text x.start x.end)) k one few
  simple_few (g.path q) k few = path_few q k few

  local_few : (x : g.Local) (k : s.Listing) → ((u : Scope) → Few 0 (k u)) → (u : Scope) → Few 0 (s.local l x k u)
  local_few (g.local_argument x) k few u = argument_few x k few u
  local_few (g.local_bare x) k few u = slot_name_few x _ (no_arrow_few x k few) u
  local_few (g.local_assignable x a d) k few u = slot_name_few x _ (arrow_few x a _ (λ y. simple_few d (k y) (few y))) u
  local_few (g.local_constant x e d) k few u = slot_name_few x _ (λ y. sign (symbol.Operator e.name Equals) e.spot quiet _ none (simple_few d (k y) (few y))) u

  locals_before_few : (ws : g.LocalsBefore) (k : s.Listing) → ((u : Scope) → Few 0 (k u)) → (u : Scope) → Few 0 (s.locals_before l ws k u)
  locals_before_few g.no_locals k few u = few u
  locals_before_few (g.more_locals ws x p) k few u =
      locals_before_few ws _ (λ y. local_few x _ (λ z. placing_few (s.local_items x) _ (local_one x) (behind_slot symbol.Period p quiet _ none (few z))) y) u

  -- A list of slots, behind the last of which a sign comes.
  locals_few : (ws : g.Locals) (k : s.Listing) → ((u : Scope) → Few 1 (k u)) → (u : Scope) → Few 0 (s.locals l ws k u)
  locals_few (g.locals_ended ws) k few u = locals_before_few ws k (λ y. weaker (k y) (few y)) u
  locals_few (g.locals_last ws x) k few u = locals_before_few ws _ (λ y. local_few x _ (λ z. placing_few (s.local_items x) _ (local_one x) (few z)) y) u

  bars_few : (bs : g.Bars) (k : Writer) → Few 0 k → Few 0 (s.bars l bs k)
  bars_few g.absent k few = few
  bars_few (g.present p ws q) k few = sign symbol.Bar p quiet _ none (locals_few ws _ (λ u. behind_slot symbol.Bar q quiet _ none few) (scope activation))

  -- Code.
  mutual
    unary_few : (u : g.Unary) (k : Writer) → Few 0 k → Few 0 (s.unary l u k)
    unary_few (g.int z p) k few = sign (symbol.Integer z) p (makes p (nodes.Integer z)) k none few
    unary_few (g.str x) k few = sign (symbol.Text x.start x.end) x.spot (makes x.spot (nodes.Text x.start x.end)) k none few
    unary_few (g.itself w) k few = sign (symbol.Name w.name w.setter Itself) w.spot (makes w.spot nodes.Itself) k none few
    unary_few (g.block p bs b q) k few = sign symbol.OpenBracket p (block_opening p) _ one (entering_few _ (bars_few bs _ (body_few b _ (ending_few b symbol.CloseBracket q k few))))
    unary_few (g.group p e q) k few = sign symbol.OpenParen p opening _ none (expression_few e _ (sign symbol.CloseParen q closing k none few))
    unary_few (g.name w) k few = sign (s.free_name w) w.spot (makes w.spot (nodes.Message Implied (One w.name) 0)) k none few
    unary_few (g.resend_name w) k few = sign (symbol.Name w.name w.setter Resend) w.spot (makes w.spot (nodes.Message Implied (One w.name) 0)) k none few
    unary_few (g.primitive w) k few = sign (symbol.Primitive w.name) w.spot (makes w.spot (nodes.Primitive (One w.name) 0 true false)) k none few
    unary_few (g.restart p) k few = sign symbol.Restart p (makes p nodes.Restart) k none few
    unary_few (g.resent d w) k few =
        delegate_few d _ (sign (s.any_name w) w.label.spot (makes (s.delegate_spot d) (nodes.Message (s.delegate_target d) (One w.label.name) 0)) k none few)
    unary_few (g.sent u w) k few = unary_few u _ (sign (s.any_name w) w.label.spot (makes w.label.spot (s.unary_message w.label.name)) k none few)
    unary_few (g.sent_primitive u w) k few = unary_few u _ (sign (symbol.Primitive w.name) w.spot (makes w.spot (nodes.Primitive (One w.name) 0 false false)) k none few)

    body_few : (b : g.Body) (k : Writer) → Few 0 k → Few 0 (s.body l b k)
    body_few g.empty k few = few
    body_few (g.full c) k few = code_few c k few

    operands_few : (us : g.Operands) (o : ℕ) (r : Role) (k : Writer) → Few 0 k → Few 0 (s.operands l o r us k)
    operands_few (g.first u p) o r k few = unary_few u _ (sign (symbol.Operator o r) p quiet k none few)
    operands_few (g.delegated d p) o r k few = delegate_few d _ (sign (symbol.Operator o r) p quiet k none few)
    operands_few (g.next us u p) o r k few = operands_few us o r _ (unary_few u _ (owing_few (s.operator_node o us) _ (sign (symbol.Operator o r) p quiet k none few)))

    binary_few : (b : g.Binary) (k : Writer) → Few 0 k → Few 0 (s.binary l b k)
    binary_few (g.single u) k few = unary_few u k few
    binary_few (g.several o r us u) k few = operands_few us o r _ (unary_few u _ (owing_few (s.operator_node o us) k few))

    receiver_few : (r : g.Receiver) (k : Writer) → Few 0 k → Few 0 (s.receiver l r k)
    receiver_few g.implied k few = few
    receiver_few (g.given b) k few = binary_few b k few

    message_few : (x : g.Message) (k : Writer) → Few 0 k → Few 0 (s.message l x k)
    message_few (g.opened r o) k few = receiver_few r _ (sign (s.opening_symbol o) (s.opening_spot o) opening k none few)
    message_few (g.redirected d w) k few = delegate_few d _ (sign (symbol.Keyword w.name) w.spot opening k none few)
    message_few (g.further x b q) k few =
        message_few x _ (binary_few b _ (sign (symbol.CapitalKeyword q.word.name q.handles) q.word.spot (v'.part_event l (s.parts x)) k none few))

    expression_few : (e : g.Expression) (k : Writer) → Few 0 k → Few 0 (s.expression l e k)
    expression_few (g.plain b) k few = binary_few b k few
    expression_few (g.keyed x e) k few = message_few x _ (expression_few e _ (owing_few (s.message_node x) _ (finishing_few k few)))

    statements_few : (ss : g.Statements) (k : Writer) → Few 0 k → Few 0 (s.statements l ss k)
    statements_few g.none k few = few
    statements_few (g.more ss e p) k few = statements_few ss _ (expression_few e _ (sign symbol.Period p quiet _ none (owing_few (node p nodes.Drop) k few)))

    code_few : (x : g.Code) (k : Writer) → Few 0 k → Few 0 (s.code l x k)
    code_few (g.code ss None e q) k few = statements_few ss _ (expression_few e _ (stopped_few q k few))
    code_few (g.code ss (Some r) e q) k few =
        statements_few ss _ (sign symbol.Caret r quiet _ none (expression_few e _ (owing_few (node r nodes.Return) _ (stopped_few q k few))))

  -- The names of slots.
  keyword_name_few : (n : g.KeywordName) (k : s.Listing) → ((u : Scope) → Few 0 (k u)) → (u : Scope) → Few 0 (s.keyword_name l n k u)
  keyword_name_few (g.keyword_first x) k few u = sign (symbol.Keyword x.name) x.spot (v'.keyword_event l u x) _ none (few _)
  keyword_name_few (g.keyword_next n q) k few u =
      keyword_name_few n _ (λ y. sign (symbol.CapitalKeyword q.word.name q.handles) q.word.spot (v'.part_event l (s.count n)) (k y) none (few y)) u

  keyword_head_few : (n : g.KeywordHead) (k : Scope → s.Listing) → ((u i : Scope) → Few 0 (k u i)) → (u : Scope) → Few 0 (s.keyword_head l n k u)
  keyword_head_few (g.head_first x a) k few u =
      sign (symbol.Keyword x.name) x.spot (v'.keyword_event l u x) _ none (head_argument_few a _ (few (with_local l x.spot u)) (scope activation))
  keyword_head_few (g.head_next n q a) k few u =
      keyword_head_few n _
      (λ y i. sign (symbol.CapitalKeyword q.word.name q.handles) q.word.spot (v'.part_event l (s.count (s.head_name n))) _ none (head_argument_few a (k y) (few y) i)) u

  operator_name_few : (o : g.AnyOperator) (k : s.Listing) → ((u : Scope) → Few 0 (k u)) → (u : Scope) → Few 0 (s.operator_name l o k u)
  operator_name_few o k few u = sign (symbol.Operator o.word.name o.role) o.word.spot (v'.operator_event l u o) _ none (few _)

  head_few : (h : g.Head) (k : s.Named → Writer) → ((n : s.Named) → Few 0 (k n)) → (u : Scope) → Few 0 (s.head l h k u)
  head_few (g.unary_head x) k few u = slot_name_few x _ (λ y. few (record { around = y; inner = scope either; wanted = 0; spot = x.spot; broken = [] })) u
  head_few (g.operator_with o a) k few u =
      operator_name_few o _ (λ y. head_argument_few a _ (λ i. few (record { around = y; inner = i; wanted = 1; spot = o.word.spot; broken = [] })) (scope activation)) u
  head_few (g.operator o) k few u = operator_name_few o _ (λ y. few (record { around = y; inner = scope activation; wanted = 1; spot = o.word.spot; broken = [] })) u
  head_few (g.keyword_with n) k few u = keyword_head_few n _ (λ y i. few (s.keyword_named (s.head_name n) y i)) u
  head_few (g.keyword n) k few u = keyword_name_few n _ (λ y. few (s.keyword_named n y (scope activation))) u

  -- Slots and what fills them.
  opened_few : (p : Spot) (o : Option Spot) (k : Writer) → Few 0 k → Few 0 (write l symbol.OpenParen p (record (s.opening_item p) { next = o }) k)
  opened_few p o k few = sign symbol.OpenParen p (record (s.opening_item p) { next = o }) k one few

  method_code_few : (x : g.Code) (q : Spot) (k : Writer) → Few 0 k → Few 0 (s.code l x (write l symbol.CloseParen q (s.ending (g.full x) q) k))
  method_code_few x q k few = code_few x _ (ending_few (g.full x) symbol.CloseParen q k few)

  mutual
    datum_few : (d : g.Datum) (o : Owner) (k : Writer) → Few 0 k → Few 0 (s.datum l o d k)
    datum_few (g.simple d) o k few = simple_few d k few
    datum_few (g.object x) o k few = object_few x o k few

    object_few : (x : g.Object) (o : Owner) (k : Writer) → Few 0 k → Few 0 (s.object l o x k)
    object_few (g.empty_object p q) o k few = opened_few p None _ (sign symbol.CloseParen q (v'.empty_object_end p) k one few)
    object_few (g.slotted_object p b ss b2 q) o k few =
        opened_few p None _
        (sign symbol.Bar b quiet _ none
        (slots_few ss _ (λ u. behind_slot symbol.Bar b2 quiet _ none (sign symbol.CloseParen q (v'.object_end p u) k one few)) (scope o)))

    method_few : (x : g.Method) (n : s.Named) (k : Writer) → Few 0 k → Few 0 (s.method l n x k)
    method_few (g.bare_method p b q) n k few = opened_few p (s.wants_bar n) _ (entering_few _ (method_code_few b q k few))
    method_few (g.slotted_method p b ss b2 x q) n k few =
        opened_few p (s.wants_bar n) _
        (sign symbol.Bar b quiet _ none
        (slots_few ss _
        (λ u. behind_slot symbol.Bar b2 (record quiet { broken = s.at_bar n u }) _ none (entering_few _ (telling_few (s.at_code n u) _ (method_code_few x q k few))))
        n.inner))

    method_slot_few : (x : g.MethodSlot) (k : s.Listing) → ((u : Scope) → Few 0 (k u)) → (u : Scope) → Few 0 (s.method_slot l x k u)
    method_slot_few (g.method h e x) k few u =
        head_few h _ (λ n. sign (symbol.Operator e.name Equals) e.spot (record quiet { broken = n.broken }) _ none (method_few x n (k (not_plain n.around)) (few (not_plain n.around)))) u

    member_few : (x : g.Member) (k : s.Listing) → ((u : Scope) → Few 0 (k u)) → (u : Scope) → Few 0 (s.member l x k u)
    member_few (g.constant x e d) k few u =
        slot_name_few x _ (λ y. sign (symbol.Operator e.name Equals) e.spot quiet _ none (datum_few d either (k (s.holding d y)) (few (s.holding d y)))) u
    member_few (g.assignable x a d) k few u = slot_name_few x _ (arrow_few x a _ (λ y. datum_few d holder (k (s.holding d y)) (few (s.holding d y)))) u
    member_few (g.bare x) k few u = slot_name_few x _ (no_arrow_few x k few) u
    member_few (g.parent x a e d) k few u =
        slot_name_few x _
        (λ y. sign (symbol.Operator a.name Star) a.spot quiet _ none
        (sign (symbol.Operator e.name Equals) e.spot quiet _ none (datum_few d holder (k (not_plain y)) (few (not_plain y))))) u
    member_few (g.coded x) k few u = method_slot_few x k few u

    slot_few : (x : g.Slot) (k : s.Listing) → ((u : Scope) → Few 0 (k u)) → (u : Scope) → Few 0 (s.slot l x k u)
    slot_few (g.member x) k few u = member_few x k few u
    slot_few (g.argument x) k few u = argument_few x k few u

    slots_before_few : (ss : g.SlotsBefore) (k : s.Listing) → ((u : Scope) → Few 0 (k u)) → (u : Scope) → Few 0 (s.slots_before l ss k u)
    slots_before_few g.no_slots k few u = few u
    slots_before_few (g.more_slots ss x p) k few u =
        slots_before_few ss _ (λ y. slot_few x _ (λ z. placing_few (s.slot_items x) _ (slot_one x) (behind_slot symbol.Period p quiet _ none (few z))) y) u

    slots_few : (ss : g.Slots) (k : s.Listing) → ((u : Scope) → Few 1 (k u)) → (u : Scope) → Few 0 (s.slots l ss k u)
    slots_few (g.slots_ended ss) k few u = slots_before_few ss k (λ y. weaker (k y) (few y)) u
    slots_few (g.slots_last ss x) k few u = slots_before_few ss _ (λ y. slot_few x _ (λ z. placing_few (s.slot_items x) _ (slot_one x) (few z)) y) u

  members_before_few : (ms : g.MembersBefore) (k : s.Listing) → ((u : Scope) → Few 0 (k u)) → (u : Scope) → Few 0 (s.members_before l ms k u)
  members_before_few g.no_members k few u = few u
  members_before_few (g.more_members ms x p) k few u =
      members_before_few ms _ (λ y. member_few x _ (λ z. placing_few (s.member_items x) _ (member_one x) (behind_slot symbol.Period p quiet _ none (few z))) y) u

  nothing_few : Few 0 (λ c. [])
  nothing_few c ready size sound = record { below = omega arith }

  finish_few : (p : Spot) → Few 1 (s.finish l p)
  finish_few p = behind_slot symbol.End p quiet (λ c. []) none nothing_few

  world_few : (x : g.World) → 1 ≤ m → AreSound (s.world l x) → Tells m 1 (s.world l x)
  world_few (g.world_ended ms p) le sound =
      members_before_few ms (λ u. s.finish l p) (λ u. weaker (s.finish l p) (finish_few p)) (scope holder) (s.at_first 1) (omega arith) le sound
  world_few (g.world_last ms x p) le sound =
      members_before_few ms (s.member l x (λ u. placing (s.member_items x) (s.finish l p)))
      (member_few x (λ u. placing (s.member_items x) (s.finish l p)) (λ u. placing_few (s.member_items x) (s.finish l p) (member_one x) (finish_few p)))
      (scope holder) (s.at_first 1) (omega arith) le sound

  edit_end_few : (o : Option Spot) (p : Spot) → Few 1 (s.stopped l o (s.finish l p))
  edit_end_few None p = finish_few p
  edit_end_few (Some q) p = behind_slot symbol.Period q quiet (s.finish l p) none (weaker (s.finish l p) (finish_few p))

  edit_few : (x : g.Edit) → AreSound (s.edit l x) → Tells m 0 (s.edit l x)
  edit_few (g.edit x o p) sound =
      method_slot_few x (λ u. placing (s.method_items x) (s.stopped l o (s.finish l p)))
      (λ u. placing_few (s.method_items x) (s.stopped l o (s.finish l p)) (method_one x) (edit_end_few o p)) (scope holder) (s.at_first 0) (omega arith) (omega arith) sound

-- A world with nothing wrong says few items,
pub few_items : (l : Limits) (given : List Sign) (w : g.World) → IsText (s.world l) given w → length (items_of (s.world l w)) ≤ 2 * length given + l.size + 1
few_items l given w h =
    let few : length (items_of (s.world l w)) + 1 ≤ 2 * length (s.world l w) + (l.size + 1) = (world_few l (l.size + 1) (omega arith) w (omega arith) h.1).below in
    let same : length given ≡ length (s.world l w) = ap (λ ss. length ss) (sym h.0) ∙ length-map (s.world l w) (λ x. x.sign) in
    omega arith

-- and an edit too.
pub few_edit_items : (l : Limits) (given : List Sign) (w : g.Edit) → IsText (s.edit l) given w → length (items_of (s.edit l w)) ≤ 2 * length given + l.size + 1
few_edit_items l given w h =
    let few : length (items_of (s.edit l w)) + 0 ≤ 2 * length (s.edit l w) + l.size = (edit_few l l.size (omega arith) w h.1).below in
    let same : length given ≡ length (s.edit l w) = ap (λ ss. length ss) (sym h.0) ∙ length-map (s.edit l w) (λ x. x.sign) in
    omega arith
