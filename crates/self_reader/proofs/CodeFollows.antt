-- In code the reader's turn is the grammar's move.
use Rattle.std.specs.Prelude.{◌≡◌, ◌==◌, ℕ, Bool, true, false, ◌&&◌, cond, Option, None, Some, ◌∷◌, refl}
use Rattle.self_grammar.specs.declared.signs.Spot.{Spot}
use Rattle.self_grammar.specs.declared.signs.Reserved.{Reserved}
use Rattle.self_grammar.specs.declared.signs.Reserved.TheVariants.{Free, Itself, Resend}
use Rattle.self_grammar.specs.declared.signs.Role.{Role}
use Rattle.self_grammar.specs.declared.signs.Symbol.{Symbol}
use Rattle.self_grammar.specs.declared.signs.Symbol.TheVariants as sign
use Rattle.self_grammar.specs.declared.pieces.Target.TheVariants.{Given, Implied}
use Rattle.self_grammar.specs.Counts.{Limits, Context, Event, quiet}
use Rattle.self_grammar.specs.Grammar as g
use Rattle.self_grammar.specs.Spelling as s
use Rattle.self_grammar.proofs.Places as p
use Rattle.self_grammar.proofs.Moves as m
use Rattle.code_reader.specs.declared.code.Terminator.{Terminator}
use Rattle.code_reader.specs.declared.code.Terminator.TheVariants.{Period, Paren, Bracket}
use Rattle.reader_states.specs.declared.frames.At.TheVariants as at
use Rattle.reader_states.specs.declared.frames.AtCode.TheVariants as in_code
use Rattle.reader_states.specs.declared.frames.Frame.TheVariants as f
use Rattle.reader_states.specs.Turns.{simply, owed, finished}
use Rattle.code_reader.specs.CodeTurns.{operator_node, opened, implied_turn, body_end, delegate_turn, caret_turn, block_bar, bar_turn, empty_end, stopped, begun, same_role, operator_turn, keyword_turn, part_turn, capital_turn, unwound, terminated, gone_on, delegate_operator, behind_delegate, ended_turn, message_node}
use Rattle.self_reader.proofs.Shown.{Follows, message_in, code, hole, operand}

abbrev pub terminator : m.Stop → Terminator
terminator m.period = Period
terminator m.paren = Paren
terminator m.bracket = Bracket

-- where a unary is wanted
name_follows : (l : Limits) (c : Context) (h : p.OperandHole) (n t : ℕ) (r : Reserved) (b : Spot) → Follows l c (begun (operand l h) c (sign.Name n t r) b) (m.name_move h (m.label n t b) r)
name_follows l c h n t Free b = (refl, refl, λ d. refl, refl)
name_follows l c h n t Itself b = (refl, refl, λ d. refl, refl)
name_follows l c h n t Resend b = (refl, refl, λ d. refl, refl)

opening_follows : (l : Limits) (c : Context) (h : p.OperandHole) (w : g.Opening) →
    Follows l c (implied_turn (operand l h) c (opened Implied (s.opening_name w) (s.opening_base w) (s.opening_spot w))) (m.opening_move h w)
opening_follows l c (p.alone (p.statement h ss)) w = (refl, refl, λ d. refl, refl)
opening_follows l c (p.alone (p.returning h ss q)) w = (refl, refl, λ d. refl, refl)
opening_follows l c (p.alone (p.in_group h q)) w = (refl, refl, λ d. refl, refl)
opening_follows l c (p.alone (p.argument h x)) w = (refl, refl, λ d. refl, refl)
opening_follows l c (p.right h o r us) w = tt

delegate_follows : (l : Limits) (c : Context) (h : p.OperandHole) (n : ℕ) (r : Reserved) (b : Spot) → Follows l c (delegate_turn (operand l h) c n r b) (m.delegate_move h (m.word n b) r)
delegate_follows l c h n Free b = (refl, refl, λ d. refl, refl)
delegate_follows l c h n Itself b = tt
delegate_follows l c h n Resend b = (refl, refl, λ d. refl, refl)

caret_follows : (l : Limits) (c : Context) (h : p.OperandHole) (b : Spot) → Follows l c (caret_turn (operand l h) c b) (m.caret_move h b)
caret_follows l c (p.alone (p.statement h ss)) b = (refl, refl, λ d. refl, refl)
caret_follows l c (p.alone (p.returning h ss q)) b = tt
caret_follows l c (p.alone (p.in_group h q)) b = tt
caret_follows l c (p.alone (p.argument h x)) b = tt
caret_follows l c (p.right h o r us) b = tt

block_bar_follows : (l : Limits) (c : Context) (h : p.CodeHole) (b : Spot) → Follows l c (block_bar (code l h) c) (m.block_bar h b)
block_bar_follows l c (p.in_method h q) b = tt
block_bar_follows l c (p.in_slotted h q b1 sl b2) b = tt
block_bar_follows l c (p.in_block h q g.absent) b = (refl, refl, λ d. refl, refl)
block_bar_follows l c (p.in_block h q (g.present x ws y)) b = tt

bar_follows : (l : Limits) (c : Context) (h : p.OperandHole) (b : Spot) → Follows l c (bar_turn (operand l h) c) (m.bar_move h b)
bar_follows l c (p.alone (p.statement h g.none)) b = block_bar_follows l c h b
bar_follows l c (p.alone (p.statement h (g.more ss e q))) b = tt
bar_follows l c (p.alone (p.returning h ss q)) b = tt
bar_follows l c (p.alone (p.in_group h q)) b = tt
bar_follows l c (p.alone (p.argument h x)) b = tt
bar_follows l c (p.right h o r us) b = tt

-- the end of a body, whatever was counted before it
body_follows : (l : Limits) (c k : Context) (h : p.CodeHole) (x : g.Code) (b : Spot) (y : m.Stop) (pre : Context → Context) (e : Event) → k ≡ pre c →
    Follows l c (body_end (code l h) k e (terminator y)) (m.moving pre e (m.body_end h x b y))
body_follows l c k (p.in_method h q) x b m.period pre e w = tt
body_follows l c k (p.in_method h q) x b m.paren pre e w = (w, refl, λ d. refl, refl)
body_follows l c k (p.in_method h q) x b m.bracket pre e w = tt
body_follows l c k (p.in_slotted h q b1 sl b2) x b m.period pre e w = tt
body_follows l c k (p.in_slotted h q b1 sl b2) x b m.paren pre e w = (w, refl, λ d. refl, refl)
body_follows l c k (p.in_slotted h q b1 sl b2) x b m.bracket pre e w = tt
body_follows l c k (p.in_block h q bs) x b m.period pre e w = tt
body_follows l c k (p.in_block h q bs) x b m.paren pre e w = tt
body_follows l c k (p.in_block h q bs) x b m.bracket pre e w = (w, refl, λ d. refl, refl)

empty_follows : (l : Limits) (c : Context) (h : p.CodeHole) (y : m.Stop) (b : Spot) → Follows l c (empty_end (code l h) c (terminator y) b) (m.empty_end h y b)
empty_follows l c (p.in_method h q) y b = tt
empty_follows l c (p.in_slotted h q b1 sl b2) y b = tt
empty_follows l c (p.in_block h q bs) m.period b = tt
empty_follows l c (p.in_block h q bs) m.paren b = tt
empty_follows l c (p.in_block h q bs) m.bracket b = (refl, refl, λ d. refl, refl)

stopped_follows : (l : Limits) (c : Context) (h : p.OperandHole) (y : m.Stop) (b : Spot) → Follows l c (stopped (operand l h) c (terminator y) b) (m.stopped_move h y b)
stopped_follows l c (p.alone (p.statement h g.none)) y b = empty_follows l c h y b
stopped_follows l c (p.alone (p.statement h (g.more ss e q))) y b =
    body_follows l c (m.forget c) h (g.code ss None e (Some q)) b y m.forget (s.ending (g.full (g.code ss None e (Some q))) b) refl
stopped_follows l c (p.alone (p.returning h ss q)) y b = tt
stopped_follows l c (p.alone (p.in_group h q)) y b = tt
stopped_follows l c (p.alone (p.argument h x)) y b = tt
stopped_follows l c (p.right h o r us) y b = tt

pub begin_follows : (l : Limits) (c : Context) (h : p.OperandHole) (x : Symbol) (b : Spot) → Follows l c (begun (operand l h) c x b) (m.begin_move h x b)
begin_follows l c h (sign.Integer z) b = (refl, refl, λ d. refl, refl)
begin_follows l c h (sign.Text i j) b = (refl, refl, λ d. refl, refl)
begin_follows l c h (sign.Name n t r) b = name_follows l c h n t r b
begin_follows l c h (sign.Primitive n) b = (refl, refl, λ d. refl, refl)
begin_follows l c h sign.Restart b = (refl, refl, λ d. refl, refl)
begin_follows l c h (sign.Keyword n) b = opening_follows l c h (g.ordinary (m.word n b))
begin_follows l c h (sign.PrimitiveKeyword n k) b = opening_follows l c h (g.primitive_keyword (m.word n b) k)
begin_follows l c h sign.RestartKeyword b = tt
begin_follows l c h (sign.CapitalKeyword n y) b = tt
begin_follows l c h (sign.Argument n t r) b = tt
begin_follows l c h (sign.Delegate n r) b = delegate_follows l c h n r b
begin_follows l c h (sign.Operator n r) b = tt
begin_follows l c h sign.OpenParen b = (refl, refl, λ d. refl, refl)
begin_follows l c h sign.CloseParen b = stopped_follows l c h m.paren b
begin_follows l c h sign.OpenBracket b = (refl, refl, λ d. refl, refl)
begin_follows l c h sign.CloseBracket b = stopped_follows l c h m.bracket b
begin_follows l c h sign.Bar b = bar_follows l c h b
begin_follows l c h sign.Period b = tt
begin_follows l c h sign.Caret b = caret_follows l c h b
begin_follows l c h sign.End b = tt
begin_follows l c h (sign.Bad z) b = tt

-- where there is one
same_follows : (l : Limits) (c : Context) (h : p.Hole) (i : ℕ) (q : Role) (us : g.Operands) (u : g.Unary) (b : Spot) (y : Bool) →
    Follows l c (cond y (simply (owed (s.operator_node i us) c) quiet (at.Code in_code.Wanting) (f.Right (record { operator = i; role = q; made = operator_node Given i b }) ∷ hole l h)) None)
    (cond y (Some (record { pre = m.owe (s.operator_node i us); event = quiet; post = m.stay; to = m.wanting (p.right h i q (g.next us u b)) })) None)
same_follows l c h i q us u b true = (refl, refl, λ d. refl, refl)
same_follows l c h i q us u b false = tt

operator_follows : (l : Limits) (c : Context) (h : p.OperandHole) (u : g.Unary) (o : ℕ) (r : Role) (b : Spot) → Follows l c (operator_turn (operand l h) c o r b) (m.operator_move h u o r b)
operator_follows l c (p.alone (p.statement h ss)) u o r b = (refl, refl, λ d. refl, refl)
operator_follows l c (p.alone (p.returning h ss q)) u o r b = (refl, refl, λ d. refl, refl)
operator_follows l c (p.alone (p.in_group h q)) u o r b = (refl, refl, λ d. refl, refl)
operator_follows l c (p.alone (p.argument h x)) u o r b = (refl, refl, λ d. refl, refl)
operator_follows l c (p.right h i q us) u o r b = same_follows l c h i q us u b ((i == o) && same_role q r)

keyword_follows : (l : Limits) (c : Context) (h : p.OperandHole) (u : g.Unary) (w : g.Opening) →
    Follows l c (keyword_turn (operand l h) c (opened Given (s.opening_name w) (s.opening_base w) (s.opening_spot w))) (m.keyword_move h u w)
keyword_follows l c (p.alone (p.statement h ss)) u w = (refl, refl, λ d. refl, refl)
keyword_follows l c (p.alone (p.returning h ss q)) u w = (refl, refl, λ d. refl, refl)
keyword_follows l c (p.alone (p.in_group h q)) u w = (refl, refl, λ d. refl, refl)
keyword_follows l c (p.alone (p.argument h x)) u w = (refl, refl, λ d. refl, refl)
keyword_follows l c (p.right h o r us) u w = (refl, refl, λ d. refl, refl)

part_follows : (l : Limits) (c k : Context) (h : p.Hole) (x : g.Binary) (q : g.Part) (pre : Context → Context) → k ≡ pre c →
    Follows l c (part_turn l (hole l h) k q.word.name q.handles) (m.part_move l pre h x q)
part_follows l c k (p.statement h ss) x q pre w = tt
part_follows l c k (p.returning h ss r) x q pre w = tt
part_follows l c k (p.in_group h r) x q pre w = tt
part_follows l c k (p.argument h y) x q pre w = (w, refl, λ d. refl, refl)

capital_follows : (l : Limits) (c : Context) (h : p.OperandHole) (u : g.Unary) (q : g.Part) →
    Follows l c (capital_turn l (operand l h) c q.word.name q.handles) (m.part_move l (m.operated h) (m.hole_of h) (m.closed h u) q)
capital_follows l c (p.alone (p.statement h ss)) u q = tt
capital_follows l c (p.alone (p.returning h ss r)) u q = tt
capital_follows l c (p.alone (p.in_group h r)) u q = tt
capital_follows l c (p.alone (p.argument h y)) u q = (refl, refl, λ d. refl, refl)
capital_follows l c (p.right h o r us) u q =
    part_follows l c (m.owe (s.operator_node o us) c) h (m.closed (p.right h o r us) u) q (m.operated (p.right h o r us)) refl

-- the end of an expression, whatever was counted before it: its messages end with it
expression_follows : (l : Limits) (c k : Context) (h : p.Hole) (e : g.Expression) (pre : Context → Context) (y : m.Stop) (b : Spot) → m.unwound h k ≡ pre c →
    Follows l c (terminated (hole l h) k (terminator y) b) (m.end_move (m.unwinds h e) pre y b)
unfolding unwound
expression_follows l c k (p.statement h ss) e pre m.period b w = (w, refl, λ d. refl, refl)
expression_follows l c k (p.statement h ss) e pre m.paren b w =
    body_follows l c k h (g.code ss None e None) b m.paren pre (s.ending (g.full (g.code ss None e None)) b) w
expression_follows l c k (p.statement h ss) e pre m.bracket b w =
    body_follows l c k h (g.code ss None e None) b m.bracket pre (s.ending (g.full (g.code ss None e None)) b) w
expression_follows l c k (p.returning h ss q) e pre m.period b w = (w, refl, λ d. refl, refl)
expression_follows l c k (p.returning h ss q) e pre m.paren b w =
    body_follows l c (m.unwound (p.returning h ss q) k) h (g.code ss (Some q) e None) b m.paren pre (s.ending (g.full (g.code ss (Some q) e None)) b) w
expression_follows l c k (p.returning h ss q) e pre m.bracket b w =
    body_follows l c (m.unwound (p.returning h ss q) k) h (g.code ss (Some q) e None) b m.bracket pre (s.ending (g.full (g.code ss (Some q) e None)) b) w
expression_follows l c k (p.in_group h q) e pre m.period b w = tt
expression_follows l c k (p.in_group h q) e pre m.paren b w = (w, refl, λ d. refl, refl)
expression_follows l c k (p.in_group h q) e pre m.bracket b w = tt
expression_follows l c k (p.argument h x) e pre y b w = expression_follows l c (finished (owed (message_node (message_in x)) k)) h (g.keyed x e) pre y b w

stop_follows : (l : Limits) (c : Context) (h : p.OperandHole) (u : g.Unary) (y : m.Stop) (b : Spot) → Follows l c (terminated (operand l h) c (terminator y) b) (m.stop_move h u y b)
unfolding unwound
stop_follows l c (p.alone h) u y b = expression_follows l c c h (g.plain (g.single u)) (λ d. m.unwound h d) y b refl
stop_follows l c (p.right h o r us) u y b =
    expression_follows l c (m.owe (s.operator_node o us) c) h (g.plain (g.several o r us u)) (λ d. m.unwound h (m.owe (s.operator_node o us) d)) y b refl

pub having_follows : (l : Limits) (c : Context) (h : p.OperandHole) (u : g.Unary) (x : Symbol) (b : Spot) → Follows l c (gone_on l (operand l h) c x b) (m.having_move l h u x b)
having_follows l c h u (sign.Integer z) b = tt
having_follows l c h u (sign.Text i j) b = tt
having_follows l c h u (sign.Name n t r) b = (refl, refl, λ d. refl, refl)
having_follows l c h u (sign.Primitive n) b = (refl, refl, λ d. refl, refl)
having_follows l c h u sign.Restart b = tt
having_follows l c h u (sign.Keyword n) b = keyword_follows l c h u (g.ordinary (m.word n b))
having_follows l c h u (sign.PrimitiveKeyword n k) b = keyword_follows l c h u (g.primitive_keyword (m.word n b) k)
having_follows l c h u sign.RestartKeyword b = tt
having_follows l c h u (sign.CapitalKeyword n y) b = capital_follows l c h u (record { word = m.word n b; handles = y })
having_follows l c h u (sign.Argument n t r) b = tt
having_follows l c h u (sign.Delegate n r) b = tt
having_follows l c h u (sign.Operator n r) b = operator_follows l c h u n r b
having_follows l c h u sign.OpenParen b = tt
having_follows l c h u sign.CloseParen b = stop_follows l c h u m.paren b
having_follows l c h u sign.OpenBracket b = tt
having_follows l c h u sign.CloseBracket b = stop_follows l c h u m.bracket b
having_follows l c h u sign.Bar b = tt
having_follows l c h u sign.Period b = stop_follows l c h u m.period b
having_follows l c h u sign.Caret b = tt
having_follows l c h u sign.End b = tt
having_follows l c h u (sign.Bad z) b = tt

-- behind a delegate
delegate_operator_follows : (l : Limits) (c : Context) (h : p.OperandHole) (d : g.Delegate) (o : ℕ) (r : Role) (b : Spot) →
    Follows l c (delegate_operator (s.delegate_target d) (s.delegate_spot d) (operand l h) c o r) (m.delegate_operator h d o r b)
delegate_operator_follows l c (p.alone (p.statement h ss)) d o r b = (refl, refl, λ d. refl, refl)
delegate_operator_follows l c (p.alone (p.returning h ss q)) d o r b = (refl, refl, λ d. refl, refl)
delegate_operator_follows l c (p.alone (p.in_group h q)) d o r b = (refl, refl, λ d. refl, refl)
delegate_operator_follows l c (p.alone (p.argument h x)) d o r b = (refl, refl, λ d. refl, refl)
delegate_operator_follows l c (p.right h i q us) d o r b = tt

delegate_keyword_follows : (l : Limits) (c : Context) (h : p.OperandHole) (d : g.Delegate) (w : g.Word) →
    Follows l c (implied_turn (operand l h) c (opened (s.delegate_target d) w.name None (s.delegate_spot d))) (m.delegate_keyword h d w)
delegate_keyword_follows l c (p.alone (p.statement h ss)) d w = (refl, refl, λ d. refl, refl)
delegate_keyword_follows l c (p.alone (p.returning h ss q)) d w = (refl, refl, λ d. refl, refl)
delegate_keyword_follows l c (p.alone (p.in_group h q)) d w = (refl, refl, λ d. refl, refl)
delegate_keyword_follows l c (p.alone (p.argument h x)) d w = (refl, refl, λ d. refl, refl)
delegate_keyword_follows l c (p.right h i q us) d w = tt

pub delegated_follows : (l : Limits) (c : Context) (h : p.OperandHole) (d : g.Delegate) (x : Symbol) (b : Spot) →
    Follows l c (behind_delegate (s.delegate_target d) (s.delegate_spot d) (operand l h) c x b) (m.delegated_move h d x b)
delegated_follows l c h d (sign.Integer z) b = tt
delegated_follows l c h d (sign.Text i j) b = tt
delegated_follows l c h d (sign.Name n t r) b = (refl, refl, λ d. refl, refl)
delegated_follows l c h d (sign.Primitive n) b = tt
delegated_follows l c h d sign.Restart b = tt
delegated_follows l c h d (sign.Keyword n) b = delegate_keyword_follows l c h d (m.word n b)
delegated_follows l c h d (sign.PrimitiveKeyword n k) b = tt
delegated_follows l c h d sign.RestartKeyword b = tt
delegated_follows l c h d (sign.CapitalKeyword n y) b = tt
delegated_follows l c h d (sign.Argument n t r) b = tt
delegated_follows l c h d (sign.Delegate n r) b = tt
delegated_follows l c h d (sign.Operator n r) b = delegate_operator_follows l c h d n r b
delegated_follows l c h d sign.OpenParen b = tt
delegated_follows l c h d sign.CloseParen b = tt
delegated_follows l c h d sign.OpenBracket b = tt
delegated_follows l c h d sign.CloseBracket b = tt
delegated_follows l c h d sign.Bar b = tt
delegated_follows l c h d sign.Period b = tt
delegated_follows l c h d sign.Caret b = tt
delegated_follows l c h d sign.End b = tt
delegated_follows l c h d (sign.Bad z) b = tt

-- Behind the period of a return only the end of the body may come. This is the move of that place as the theorem's reader has it.
abbrev pub ended_sign : p.CodeHole → g.Statements → Spot → g.Expression → Spot → Symbol → Spot → Option m.Move
ended_sign h ss q e d sign.CloseParen b = m.ended_move h ss q e d m.paren b
ended_sign h ss q e d sign.CloseBracket b = m.ended_move h ss q e d m.bracket b
ended_sign h ss q e d _ b = None

pub ended_follows : (l : Limits) (c : Context) (h : p.CodeHole) (ss : g.Statements) (q : Spot) (e : g.Expression) (d : Spot) (x : Symbol) (b : Spot) →
    Follows l c (ended_turn (code l h) c x b) (ended_sign h ss q e d x b)
ended_follows l c h ss q e d (sign.Integer z) b = tt
ended_follows l c h ss q e d (sign.Text i j) b = tt
ended_follows l c h ss q e d (sign.Name n t r) b = tt
ended_follows l c h ss q e d (sign.Primitive n) b = tt
ended_follows l c h ss q e d sign.Restart b = tt
ended_follows l c h ss q e d (sign.Keyword n) b = tt
ended_follows l c h ss q e d (sign.PrimitiveKeyword n k) b = tt
ended_follows l c h ss q e d sign.RestartKeyword b = tt
ended_follows l c h ss q e d (sign.CapitalKeyword n y) b = tt
ended_follows l c h ss q e d (sign.Argument n t r) b = tt
ended_follows l c h ss q e d (sign.Delegate n r) b = tt
ended_follows l c h ss q e d (sign.Operator n r) b = tt
ended_follows l c h ss q e d sign.OpenParen b = tt
ended_follows l c h ss q e d sign.CloseParen b =
    body_follows l c c h (g.code ss (Some q) e (Some d)) b m.paren m.stay (s.ending (g.full (g.code ss (Some q) e (Some d))) b) refl
ended_follows l c h ss q e d sign.OpenBracket b = tt
ended_follows l c h ss q e d sign.CloseBracket b =
    body_follows l c c h (g.code ss (Some q) e (Some d)) b m.bracket m.stay (s.ending (g.full (g.code ss (Some q) e (Some d))) b) refl
ended_follows l c h ss q e d sign.Bar b = tt
ended_follows l c h ss q e d sign.Period b = tt
ended_follows l c h ss q e d sign.Caret b = tt
ended_follows l c h ss q e d sign.End b = tt
ended_follows l c h ss q e d (sign.Bad z) b = tt
