-- How a sign moves a place in code on, by the grammar alone; what is counted before and behind it.
use Rattle.std.specs.Prelude.{◌≡◌, ℕ, ◌==◌, ◌-◌, Bool, true, false, ◌&&◌, cond, Option, None, Some, List, [], ◌∷◌, ◌++◌, refl}
use Rattle.std.proofs.Common.{◌∙◌}
use Rattle.self_grammar.specs.declared.signs.Spot.{Spot}
use Rattle.self_grammar.specs.declared.signs.Reserved.{Reserved}
use Rattle.self_grammar.specs.declared.signs.Reserved.TheVariants.{Free, Itself, Resend}
use Rattle.self_grammar.specs.declared.signs.Role.{Role}
use Rattle.self_grammar.specs.declared.signs.Role.TheVariants.{Equals, Arrow, Star, Other}
use Rattle.self_grammar.specs.declared.signs.Symbol.{Symbol}
use Rattle.self_grammar.specs.declared.signs.Symbol.TheVariants as sign
use Rattle.self_grammar.specs.declared.pieces.Words.TheVariants.{One}
use Rattle.self_grammar.specs.declared.pieces.Target.TheVariants.{Implied}
use Rattle.self_grammar.specs.declared.pieces.TextNode.TheVariants as nodes
use Rattle.self_grammar.specs.declared.pieces.Made.{Made}
use Rattle.self_grammar.specs.declared.pieces.Item.{Item}
use Rattle.self_grammar.specs.Grammar as g
use Rattle.self_grammar.specs.Counts.{Limits, Breach, Mark, Context, Event, Writer, write, quiet, opening, closing, makes, placing, node}
use Rattle.self_grammar.specs.Scopes.{Scope, scope, holder, activation, too_many_arguments}
use Rattle.self_grammar.proofs.Settled.{locals_scope}
use Rattle.self_grammar.specs.Spelling as s
use Rattle.self_grammar.proofs.Places.{Lists, Start, Contents, DataHole, CodeHole, in_method, in_slotted, in_block, Hole, statement, returning, in_group, argument, OperandHole, alone, right, block_opening}
use Rattle.self_grammar.proofs.Places as p

-- Where a sign stands. In code: a unary is wanted (an expression, or a statement, by what surrounds it); there is one;
-- there is a delegate; the code has ended with the period of a return; there is a method.
-- In a list of slots: a slot is wanted; there is a part of its name; what it holds is wanted; a parenthesis has opened, or
-- the bars behind it have closed; there is a slot. In the slots of a block the same. And the text has ended.
pub data Place : Type 0 where
  wanting : OperandHole → Place
  having : OperandHole → g.Unary → Place
  delegated : OperandHole → g.Delegate → Place
  ended : CodeHole → g.Statements → Spot → g.Expression → Spot → Place
  behind : Contents → g.Method → Place
  at_slot : Start → Place
  named : Start → g.Label → Place
  starred : Lists → g.Label → g.Word → Place
  operator_named : Start → g.AnyOperator → Place
  operator_argued : Start → g.AnyOperator → g.Label → Place
  keyword_named : Start → g.KeywordName → Place
  keyword_argued : Start → g.KeywordHead → Place
  keyword_wanting : Start → g.KeywordHead → g.Part → Place
  holding : Contents → Place
  data_wanted : DataHole → Place
  opened : Contents → Spot → Place
  data_opened : DataHole → Spot → Place
  shut : Contents → Spot → Spot → g.Slots → Spot → Place
  data_shut : DataHole → Spot → Spot → g.Slots → Spot → Place
  member_done : Lists → g.Member → Place
  -- a world has none: this place doesn't come about there
  argument_done : Lists → g.Label → Place
  lone_stopped : g.Head → g.Word → g.Method → Spot → Place
  at_local : OperandHole → Spot → Spot → g.LocalsBefore → Place
  local_named : OperandHole → Spot → Spot → g.LocalsBefore → g.Label → Place
  local_equals : OperandHole → Spot → Spot → g.LocalsBefore → g.Label → g.Word → Place
  local_arrow : OperandHole → Spot → Spot → g.LocalsBefore → g.Label → g.Word → Place
  local_done : OperandHole → Spot → Spot → g.LocalsBefore → g.Local → Place
  finished : p.Text → Place

-- the changes of what is counted that no sign makes
abbrev pub owe : Made → Context → Context
owe m c = record c { due = c.due ++ m ∷ [] }

abbrev pub enter : Context → Context
enter c = record c { pending = 0; nodes = 0; around = record { pending = c.pending; nodes = c.nodes } ∷ c.around }

abbrev pub finish : Context → Context
finish c = record c { nesting = c.nesting - 1 }

-- nothing is made at the sign that closes a body behind a period
abbrev pub forget : Context → Context
forget c = record c { due = [] }

abbrev pub stay : Context → Context
stay c = c

abbrev pub tell : List Breach → Context → Context
tell bs c = record c { late = c.late ++ bs }

abbrev pub place : List Item → Context → Context
place is c = record c { ready = c.ready ++ is }

-- the scope of a block's slots
abbrev pub block_scope : Limits → g.LocalsBefore → Scope
block_scope l ws = locals_scope l ws (scope activation)

abbrev pub block_list : Limits → OperandHole → Spot → Spot → g.LocalsBefore → Writer → List Mark
block_list l h q b ws k =
    p.operand_said l h (write l sign.OpenBracket q (block_opening q) (λ c. write l sign.Bar b quiet (s.locals_before l ws (λ t. k) (scope activation)) (enter c)))

-- the slots of what may be a method, from its parenthesis on, and of what is none
abbrev pub bars_said : Limits → Contents → Spot → Spot → g.Slots → s.Listing → List Mark
bars_said l h q b sl k = p.contents l h (write l sign.OpenParen q (record (s.opening_item q) { next = s.wants_bar (p.named_of l h) }) (write l sign.Bar b quiet (s.slots l sl k (p.named_of l h).inner)))

abbrev pub data_bars_said : Limits → DataHole → Spot → Spot → g.Slots → s.Listing → List Mark
data_bars_said l h q b sl k = p.data_hole l h (write l sign.OpenParen q (s.opening_item q) (write l sign.Bar b quiet (s.slots l sl k (scope holder))))

abbrev pub text_said : Limits → p.Text → Writer → List Mark
text_said l (p.world (g.world_ended ms q)) k = s.members_before l ms (λ t. write l sign.End q quiet k) (scope holder) (s.at_first 1)
text_said l (p.world (g.world_last ms m q)) k = s.members_before l ms (s.member l m (λ t. placing (s.member_items m) (write l sign.End q quiet k))) (scope holder) (s.at_first 1)
text_said l (p.edit (g.edit m r q)) k = s.method_slot l m (λ t. placing (s.method_items m) (s.stopped l r (write l sign.End q quiet k))) (scope holder) (s.at_first 0)

-- what was written before a place, and then the rest
abbrev pub before : Limits → Place → Writer → List Mark
before l (wanting h) k = p.operand_said l h k
before l (having h u) k = p.operand_said l h (s.unary l u k)
before l (delegated h d) k = p.operand_said l h (s.delegate l d k)
before l (ended h ss q e d) k =
    p.code_said l h (s.statements l ss (write l sign.Caret q quiet (s.expression l e (λ c. write l sign.Period d quiet k (owe (node q nodes.Return) c)))))
before l (behind h m) k = p.contents l h (s.method l (p.named_of l h) m k)
before l (at_slot h) k = p.start l h k
before l (named h w) k = p.start l h (s.slot_name l w (λ t. k) (p.start_scope l h))
before l (starred h w x) k = p.lists l h (s.slot_name l w (λ t. s.mark l Star x quiet k) (p.scope_of l h))
before l (operator_named h o) k = p.start l h (s.operator_name l o (λ t. k) (p.start_scope l h))
before l (operator_argued h o a) k = p.start l h (s.operator_name l o (λ t. s.head_argument l a (λ i. k) (scope activation)) (p.start_scope l h))
before l (keyword_named h n) k = p.start l h (s.keyword_name l n (λ t. k) (p.start_scope l h))
before l (keyword_argued h n) k = p.start l h (s.keyword_head l n (λ t i. k) (p.start_scope l h))
before l (keyword_wanting h n q) k =
    p.start l h (s.keyword_head l n (λ t i. s.part l q (record quiet { broken = too_many_arguments l (s.count (s.head_name n)) }) k) (p.start_scope l h))
before l (holding h) k = p.contents l h k
before l (data_wanted h) k = p.data_hole l h k
before l (opened h q) k = p.contents l h (write l sign.OpenParen q (record (s.opening_item q) { next = s.wants_bar (p.named_of l h) }) k)
before l (data_opened h q) k = p.data_hole l h (write l sign.OpenParen q (s.opening_item q) k)
before l (shut h q b sl b2) k = bars_said l h q b sl (λ t. write l sign.Bar b2 (record quiet { broken = s.at_bar (p.named_of l h) t }) k)
before l (data_shut h q b sl b2) k = data_bars_said l h q b sl (λ t. write l sign.Bar b2 quiet k)
before l (member_done h m) k = p.lists l h (s.member l m (λ t. k) (p.scope_of l h))
before l (argument_done (p.in_world ms) w) k = p.lists l (p.in_world ms) k
before l (argument_done (p.in_bars h q d ss) w) k = p.lists l (p.in_bars h q d ss) (s.argument l w (λ t. k) (p.scope_of l (p.in_bars h q d ss)))
before l (argument_done (p.in_object h q d ss) w) k = p.lists l (p.in_object h q d ss) (s.argument l w (λ t. k) (p.scope_of l (p.in_object h q d ss)))
before l (lone_stopped h e m b) k =
    p.contents l (p.coded p.lone h e) (s.method l (p.named_of l (p.coded p.lone h e)) m (placing (s.method_items (g.method h e m)) (write l sign.Period b quiet k)))
before l (at_local h q b ws) k = block_list l h q b ws k
before l (local_named h q b ws w) k = block_list l h q b ws (s.slot_name l w (λ t. k) (block_scope l ws))
before l (local_equals h q b ws w e) k = block_list l h q b ws (s.slot_name l w (λ t. s.mark l Equals e quiet k) (block_scope l ws))
before l (local_arrow h q b ws w a) k = block_list l h q b ws (s.slot_name l w (s.arrow l w a (λ t. k)) (block_scope l ws))
before l (local_done h q b ws x) k = block_list l h q b ws (s.local l x (λ t. k) (block_scope l ws))
before l (finished t) k = text_said l t k

-- A move: what is counted before the sign, what the sign does, what is counted behind it, and the place behind it.
pub record Move : Type 0 where
  pub pre : Context → Context
  pub event : Event
  pub post : Context → Context
  pub to : Place

abbrev pub simply : Event → Place → Option Move
simply e q = Some (record { pre = stay; event = e; post = stay; to = q })

abbrev pub hole_of : OperandHole → Hole
hole_of (alone h) = h
hole_of (right h o r us) = h

-- the binary that ends with a unary
abbrev pub closed : OperandHole → g.Unary → g.Binary
closed (alone h) u = g.single u
closed (right h o r us) u = g.several o r us u

abbrev pub operated : OperandHole → Context → Context
operated (alone h) c = c
operated (right h o r us) c = owe (s.operator_node o us) c

-- where an expression ends, all open messages closed
pub data End : Type 0 where
  at_statement : CodeHole → g.Statements → g.Expression → End
  at_return : CodeHole → g.Statements → Spot → g.Expression → End
  at_group : OperandHole → Spot → g.Expression → End

abbrev pub unwinds : Hole → g.Expression → End
unwinds (statement h ss) e = at_statement h ss e
unwinds (returning h ss q) e = at_return h ss q e
unwinds (in_group h q) e = at_group h q e
unwinds (argument h m) e = unwinds h (g.keyed m e)

abbrev pub unwound : Hole → Context → Context
unwound (statement h ss) c = c
unwound (returning h ss q) c = owe (node q nodes.Return) c
unwound (in_group h q) c = c
unwound (argument h m) c = unwound h (finish (owe (s.message_node m) c))

abbrev pub end_said : Limits → End → Writer → List Mark
end_said l (at_statement h ss e) k = p.code_said l h (s.statements l ss (s.expression l e k))
end_said l (at_return h ss q e) k = p.code_said l h (s.statements l ss (write l sign.Caret q quiet (s.expression l e (λ c. k (owe (node q nodes.Return) c)))))
end_said l (at_group h q e) k = p.operand_said l h (write l sign.OpenParen q opening (s.expression l e k))

pub unwound_said : (l : Limits) (h : Hole) (e : g.Expression) (k : Writer) → p.said l h (s.expression l e (λ c. k (unwound h c))) ≡ end_said l (unwinds h e) k
unwound_said l (statement h ss) e k = refl
unwound_said l (returning h ss q) e k = refl
unwound_said l (in_group h q) e k = refl
unwound_said l (argument h m) e k = unwound_said l h (g.keyed m e) k

pub operated_said : (l : Limits) (h : OperandHole) (u : g.Unary) (k : Writer) →
    p.operand_said l h (s.unary l u (λ c. k (operated h c))) ≡ p.said l (hole_of h) (s.binary l (closed h u) k)
operated_said l (alone h) u k = refl
operated_said l (right h o r us) u k = refl

-- the end of a unary ends the binary, its expression, and the messages around
pub ends_said : (l : Limits) (h : OperandHole) (u : g.Unary) (k : Writer) →
    p.operand_said l h (s.unary l u (λ c. k (unwound (hole_of h) (operated h c)))) ≡ end_said l (unwinds (hole_of h) (g.plain (closed h u))) k
ends_said l h u k = operated_said l h u (λ c. k (unwound (hole_of h) c)) ∙ unwound_said l (hole_of h) (g.plain (closed h u)) k

-- the signs that end statements and bodies
pub data Stop : Type 0 where
  period : Stop
  paren : Stop
  bracket : Stop

abbrev pub stop_symbol : Stop → Symbol
stop_symbol period = sign.Period
stop_symbol paren = sign.CloseParen
stop_symbol bracket = sign.CloseBracket

-- the end of a body
abbrev pub body_end : CodeHole → g.Code → Spot → Stop → Option Place
body_end (in_method h q) c b period = None
body_end (in_method h q) c b paren = Some (behind h (g.bare_method q c b))
body_end (in_method h q) c b bracket = None
body_end (in_slotted h q b1 sl b2) c b period = None
body_end (in_slotted h q b1 sl b2) c b paren = Some (behind h (g.slotted_method q b1 sl b2 c b))
body_end (in_slotted h q b1 sl b2) c b bracket = None
body_end (in_block h q bs) c b period = None
body_end (in_block h q bs) c b paren = None
body_end (in_block h q bs) c b bracket = Some (having h (g.block q bs (g.full c) b))

abbrev pub moving : (Context → Context) → Event → Option Place → Option Move
moving pre e None = None
moving pre e (Some q) = Some (record { pre = pre; event = e; post = stay; to = q })

-- a sign that ends an expression
abbrev pub end_move : End → (Context → Context) → Stop → Spot → Option Move
end_move (at_statement h ss e) pre period b = Some (record { pre = pre; event = quiet; post = owe (node b nodes.Drop); to = wanting (alone (statement h (g.more ss e b))) })
end_move (at_statement h ss e) pre paren b = moving pre (s.ending (g.full (g.code ss None e None)) b) (body_end h (g.code ss None e None) b paren)
end_move (at_statement h ss e) pre bracket b = moving pre (s.ending (g.full (g.code ss None e None)) b) (body_end h (g.code ss None e None) b bracket)
end_move (at_return h ss q e) pre period b = Some (record { pre = pre; event = quiet; post = stay; to = ended h ss q e b })
end_move (at_return h ss q e) pre paren b = moving pre (s.ending (g.full (g.code ss (Some q) e None)) b) (body_end h (g.code ss (Some q) e None) b paren)
end_move (at_return h ss q e) pre bracket b = moving pre (s.ending (g.full (g.code ss (Some q) e None)) b) (body_end h (g.code ss (Some q) e None) b bracket)
end_move (at_group h q e) pre period b = None
end_move (at_group h q e) pre paren b = Some (record { pre = pre; event = closing; post = stay; to = having h (g.group q e b) })
end_move (at_group h q e) pre bracket b = None

abbrev pub word : ℕ → Spot → g.Word
word n b = record { name = n; spot = b }

abbrev pub label : ℕ → ℕ → Spot → g.Label
label n t b = record { name = n; setter = t; spot = b }

abbrev pub any : ℕ → ℕ → Reserved → Spot → g.AnyName
any n t r b = record { label = label n t b; reserved = r }

-- where a unary is wanted
abbrev pub name_move : OperandHole → g.Label → Reserved → Option Move
name_move h w Free = simply (makes w.spot (nodes.Message Implied (One w.name) 0)) (having h (g.name w))
name_move h w Itself = simply (makes w.spot nodes.Itself) (having h (g.itself w))
name_move h w Resend = simply (makes w.spot (nodes.Message Implied (One w.name) 0)) (having h (g.resend_name w))

abbrev pub delegate_move : OperandHole → g.Word → Reserved → Option Move
delegate_move h w Free = simply quiet (delegated h (g.to_parent w))
delegate_move h w Itself = None
delegate_move h w Resend = simply quiet (delegated h (g.to_all w))

abbrev pub opening_move : OperandHole → g.Opening → Option Move
opening_move (alone h) w = simply opening (wanting (alone (argument h (g.opened g.implied w))))
opening_move (right h o r us) w = None

abbrev pub caret_move : OperandHole → Spot → Option Move
caret_move (alone (statement h ss)) b = simply quiet (wanting (alone (returning h ss b)))
caret_move (alone (returning h ss q)) b = None
caret_move (alone (in_group h q)) b = None
caret_move (alone (argument h m)) b = None
caret_move (right h o r us) b = None

-- the end of a block that has no code
abbrev pub empty_end : CodeHole → Stop → Spot → Option Move
empty_end (in_method h q) x b = None
empty_end (in_slotted h q b1 sl b2) x b = None
empty_end (in_block h q bs) period b = None
empty_end (in_block h q bs) paren b = None
empty_end (in_block h q bs) bracket b = simply (s.ending g.empty b) (having h (g.block q bs g.empty b))

-- the end of code behind a period
abbrev pub stopped_move : OperandHole → Stop → Spot → Option Move
stopped_move (alone (statement h g.none)) x b = empty_end h x b
stopped_move (alone (statement h (g.more ss e q))) x b =
    moving forget (s.ending (g.full (g.code ss None e (Some q))) b) (body_end h (g.code ss None e (Some q)) b x)
stopped_move (alone (returning h ss q)) x b = None
stopped_move (alone (in_group h q)) x b = None
stopped_move (alone (argument h m)) x b = None
stopped_move (right h o r us) x b = None

-- the bar behind a bracket
abbrev pub block_bar : CodeHole → Spot → Option Move
block_bar (in_block h q g.absent) b = simply quiet (at_local h q b g.no_locals)
block_bar (in_block h q (g.present x ws y)) b = None
block_bar (in_method h q) b = None
block_bar (in_slotted h q b1 sl b2) b = None

abbrev pub bar_move : OperandHole → Spot → Option Move
bar_move (alone (statement h g.none)) b = block_bar h b
bar_move (alone (statement h (g.more ss e q))) b = None
bar_move (alone (returning h ss q)) b = None
bar_move (alone (in_group h q)) b = None
bar_move (alone (argument h m)) b = None
bar_move (right h o r us) b = None

abbrev pub begin_move : OperandHole → Symbol → Spot → Option Move
begin_move h (sign.Integer z) b = simply (makes b (nodes.Integer z)) (having h (g.int z b))
begin_move h (sign.Text i j) b = simply (makes b (nodes.Text i j)) (having h (g.str (record { start = i; end = j; spot = b })))
begin_move h (sign.Name n t r) b = name_move h (label n t b) r
begin_move h (sign.Primitive n) b = simply (makes b (nodes.Primitive (One n) 0 true false)) (having h (g.primitive (word n b)))
begin_move h sign.Restart b = simply (makes b nodes.Restart) (having h (g.restart b))
begin_move h (sign.Keyword n) b = opening_move h (g.ordinary (word n b))
begin_move h (sign.PrimitiveKeyword n k) b = opening_move h (g.primitive_keyword (word n b) k)
begin_move h (sign.Delegate n r) b = delegate_move h (word n b) r
begin_move h sign.OpenParen b = simply opening (wanting (alone (in_group h b)))
begin_move h sign.OpenBracket b =
    Some (record { pre = stay; event = block_opening b; post = enter; to = wanting (alone (statement (in_block h b g.absent) g.none)) })
begin_move h sign.Caret b = caret_move h b
begin_move h sign.Bar b = bar_move h b
begin_move h sign.CloseParen b = stopped_move h paren b
begin_move h sign.CloseBracket b = stopped_move h bracket b
begin_move h _ b = None

-- where there is one
abbrev pub same_role : Role → Role → Bool
same_role Equals Equals = true
same_role Arrow Arrow = true
same_role Star Star = true
same_role Other Other = true
same_role _ _ = false

abbrev pub operator_move : OperandHole → g.Unary → ℕ → Role → Spot → Option Move
operator_move (alone h) u o r b = simply quiet (wanting (right h o r (g.first u b)))
operator_move (right h p q us) u o r b =
    cond ((p == o) && same_role q r) (Some (record { pre = owe (s.operator_node p us); event = quiet; post = stay; to = wanting (right h p q (g.next us u b)) })) None

abbrev pub keyword_move : OperandHole → g.Unary → g.Opening → Option Move
keyword_move h u w = Some (record { pre = operated h; event = opening; post = stay; to = wanting (alone (argument (hole_of h) (g.opened (g.given (closed h u)) w))) })

abbrev pub part_move : Limits → (Context → Context) → Hole → g.Binary → g.Part → Option Move
part_move l pre (statement h ss) x q = None
part_move l pre (returning h ss r) x q = None
part_move l pre (in_group h r) x q = None
part_move l pre (argument h m) x q =
    Some (record { pre = pre; event = record quiet { broken = too_many_arguments l (s.parts m) }; post = stay; to = wanting (alone (argument h (g.further m x q))) })

abbrev pub stop_move : OperandHole → g.Unary → Stop → Spot → Option Move
stop_move h u x b = end_move (unwinds (hole_of h) (g.plain (closed h u))) (λ c. unwound (hole_of h) (operated h c)) x b

abbrev pub having_move : Limits → OperandHole → g.Unary → Symbol → Spot → Option Move
having_move l h u (sign.Name n t r) b = simply (makes b (s.unary_message n)) (having h (g.sent u (any n t r b)))
having_move l h u (sign.Primitive n) b = simply (makes b (nodes.Primitive (One n) 0 false false)) (having h (g.sent_primitive u (word n b)))
having_move l h u (sign.Operator o r) b = operator_move h u o r b
having_move l h u (sign.Keyword n) b = keyword_move h u (g.ordinary (word n b))
having_move l h u (sign.PrimitiveKeyword n k) b = keyword_move h u (g.primitive_keyword (word n b) k)
having_move l h u (sign.CapitalKeyword n k) b = part_move l (operated h) (hole_of h) (closed h u) (record { word = word n b; handles = k })
having_move l h u sign.Period b = stop_move h u period b
having_move l h u sign.CloseParen b = stop_move h u paren b
having_move l h u sign.CloseBracket b = stop_move h u bracket b
having_move l h u _ b = None

-- behind a delegate
abbrev pub delegate_operator : OperandHole → g.Delegate → ℕ → Role → Spot → Option Move
delegate_operator (alone h) d o r b = simply quiet (wanting (right h o r (g.delegated d b)))
delegate_operator (right h p q us) d o r b = None

abbrev pub delegate_keyword : OperandHole → g.Delegate → g.Word → Option Move
delegate_keyword (alone h) d w = simply opening (wanting (alone (argument h (g.redirected d w))))
delegate_keyword (right h p q us) d w = None

abbrev pub delegated_move : OperandHole → g.Delegate → Symbol → Spot → Option Move
delegated_move h d (sign.Name n t r) b = simply (makes (s.delegate_spot d) (nodes.Message (s.delegate_target d) (One n) 0)) (having h (g.resent d (any n t r b)))
delegated_move h d (sign.Operator o r) b = delegate_operator h d o r b
delegated_move h d (sign.Keyword n) b = delegate_keyword h d (word n b)
delegated_move h d _ b = None

-- behind the period of a return
abbrev pub ended_move : CodeHole → g.Statements → Spot → g.Expression → Spot → Stop → Spot → Option Move
ended_move h ss q e d x b = moving stay (s.ending (g.full (g.code ss (Some q) e (Some d))) b) (body_end h (g.code ss (Some q) e (Some d)) b x)
