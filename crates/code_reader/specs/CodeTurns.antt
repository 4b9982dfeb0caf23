-- What the code's functions do at a sign of a body, as functions on lists. Plumbing of the reader: no clause of self_reader's public functions cites it.
use Rattle.std.specs.Prelude.{ℕ, ◌==◌, Bool, true, false, ◌&&◌, cond, Option, None, Some, option_and_then, List, [], ◌∷◌}
use Rattle.self_grammar.specs.declared.signs.Spot.{Spot}
use Rattle.self_grammar.specs.declared.signs.Reserved.{Reserved}
use Rattle.self_grammar.specs.declared.signs.Reserved.TheVariants.{Free, Itself, Resend}
use Rattle.self_grammar.specs.declared.signs.Role.{Role}
use Rattle.self_grammar.specs.declared.signs.Role.TheVariants.{Equals, Arrow, Star, Other}
use Rattle.self_grammar.specs.declared.signs.Symbol.{Symbol}
use Rattle.self_grammar.specs.declared.signs.Symbol.TheVariants as sign
use Rattle.self_grammar.specs.declared.pieces.Words.TheVariants.{One}
use Rattle.self_grammar.specs.declared.pieces.Target.{Target}
use Rattle.self_grammar.specs.declared.pieces.Target.TheVariants.{Given, Implied, Parents, Parent}
use Rattle.self_grammar.specs.declared.pieces.TextNode.{TextNode}
use Rattle.self_grammar.specs.declared.pieces.TextNode.TheVariants as nodes
use Rattle.self_grammar.specs.declared.pieces.Made.{Made}
use Rattle.self_grammar.specs.declared.pieces.Item.TheVariants as items
use Rattle.self_grammar.specs.Parts.{followed_by, count_of}
use Rattle.self_grammar.specs.Counts.{Limits, Breach, Context, Event, quiet, opening, closing, makes, node}
use Rattle.self_grammar.specs.Scopes.{scope, activation, too_many_arguments}
use Rattle.self_grammar.specs.Spelling as s
use Rattle.code_reader.specs.declared.code.Terminator.{Terminator}
use Rattle.code_reader.specs.declared.code.Terminator.TheVariants.{Period, Paren, Bracket}
use Rattle.reader_states.specs.declared.counts.Post.TheVariants as post
use Rattle.reader_states.specs.declared.frames.At.TheVariants as at
use Rattle.reader_states.specs.declared.frames.AtCode.TheVariants as code
use Rattle.reader_states.specs.declared.frames.AtEnd.TheVariants as end
use Rattle.reader_states.specs.declared.frames.AtLocal.TheVariants as local
use Rattle.reader_states.specs.declared.frames.Body.{Body}
use Rattle.reader_states.specs.declared.frames.Body.TheVariants as body
use Rattle.reader_states.specs.declared.frames.Expression.{Expression}
use Rattle.reader_states.specs.declared.frames.Expression.TheVariants as expression
use Rattle.reader_states.specs.declared.frames.Frame.{Frame}
use Rattle.reader_states.specs.declared.frames.Frame.TheVariants as f
use Rattle.reader_states.specs.declared.frames.Message.{Message}
use Rattle.reader_states.specs.declared.frames.Operand.{Operand}
use Rattle.reader_states.specs.Turns.{Turn, simply, owed, forgotten, finished, body_on, expression_on, message_on, operand_on}

-- what the signs do that open a block or close a body: an empty one, one behind a statement, one behind a return
abbrev pub block_event : Spot → Event
block_event p = record (makes p nodes.Block) { says = items.Opened p ∷ []; opens = true }

abbrev pub empty_event : Spot → Event
empty_event p = record closing { made = node p nodes.Nil ∷ node p nodes.End ∷ []; says = items.ClosedBody ∷ []; leaves = true }

abbrev pub body_event : Spot → Event
body_event p = record closing { made = node p nodes.End ∷ []; says = items.ClosedBody ∷ []; leaves = true }

abbrev pub returned_event : Event
returned_event = record closing { says = items.ClosedBody ∷ []; leaves = true }

abbrev pub breaking : List Breach → Event
breaking bs = record quiet { broken = bs }

-- a message at its first word
abbrev pub opened : Target → ℕ → Option (Option ℕ) → Spot → Message
opened to n base b = record { to = to; words = One n; base = base; handled = false; spot = b }

-- with a part more
abbrev pub further : Message → ℕ → Bool → Message
further m n y = record m { words = followed_by m.words n; handled = y }

abbrev pub message_node : Message → Made
message_node m = node m.spot (s.keyword_node m.to m.words (count_of m.words) m.base m.handled)

-- a message with one argument behind an operator
abbrev pub operator_node : Target → ℕ → Spot → Made
operator_node to o b = node b (nodes.Message to (One o) 1)

-- the frames, unless a unary there is an operand behind an operator: no keyword message without a receiver, and no delegate's, begins there
abbrev pub alone_of : Option Operand → List Frame → Option (List Frame)
alone_of None fs = Some fs
alone_of (Some w) fs = None

abbrev pub alone : List Frame → Option (List Frame)
alone fs = alone_of (operand_on fs).0 (operand_on fs).1

-- a keyword message begins
abbrev pub message_turn : List Frame → Context → Message → Option Turn
message_turn fs c m = simply c opening (at.Code code.Wanting) (f.Argument m ∷ fs)

abbrev pub implied_turn : List Frame → Context → Message → Option Turn
implied_turn fs c m = option_and_then (λ around. message_turn around c m) (alone fs)

-- the end of a body, by what it does
abbrev pub body_ended : Body → List Frame → Context → Event → Terminator → Option Turn
body_ended body.Method fs c e Paren = simply c e (at.Behind end.Method) fs
body_ended (body.Block barred) fs c e Bracket = simply c e (at.Code code.Having) fs
body_ended _ fs c e x = None

abbrev pub body_end : List Frame → Context → Event → Terminator → Option Turn
body_end fs c e x = option_and_then (λ w. body_ended w.0 w.1 c e x) (body_on fs)

-- Where a unary is wanted. A unary of one sign, by its node:
abbrev pub name_node : ℕ → Reserved → TextNode
name_node n Free = nodes.Message Implied (One n) 0
name_node n Itself = nodes.Itself
name_node n Resend = nodes.Message Implied (One n) 0

abbrev pub primary : Symbol → Option TextNode
primary (sign.Integer z) = Some (nodes.Integer z)
primary (sign.Text i j) = Some (nodes.Text i j)
primary (sign.Name n t r) = Some (name_node n r)
primary (sign.Primitive n) = Some (nodes.Primitive (One n) 0 true false)
primary sign.Restart = Some nodes.Restart
primary _ = None

abbrev pub delegate_turn : List Frame → Context → ℕ → Reserved → Spot → Option Turn
delegate_turn fs c n Free b = simply c quiet (at.Code (code.Delegated (Parent n) b)) fs
delegate_turn fs c n Itself b = None
delegate_turn fs c n Resend b = simply c quiet (at.Code (code.Delegated Parents b)) fs

abbrev pub caret_in : Expression → List Frame → Context → Spot → Option Turn
caret_in (expression.Statement later) fs c b = simply c quiet (at.Code code.Wanting) (f.Expression (expression.Returning b) ∷ fs)
caret_in _ fs c b = None

abbrev pub caret_turn : List Frame → Context → Spot → Option Turn
caret_turn fs c b = option_and_then (λ w. caret_in w.0 w.1 c b) (expression_on fs)

-- the bar behind a bracket
abbrev pub bar_in_body : Body → List Frame → Context → Option Turn
bar_in_body (body.Block false) fs c = simply c quiet (at.Local local.Slot) (f.Locals (scope activation) ∷ f.Body (body.Block false) ∷ fs)
bar_in_body _ fs c = None

abbrev pub block_bar : List Frame → Context → Option Turn
block_bar fs c = option_and_then (λ w. bar_in_body w.0 w.1 c) (body_on fs)

abbrev pub bar_in : Expression → List Frame → Context → Option Turn
bar_in (expression.Statement false) fs c = block_bar fs c
bar_in _ fs c = None

abbrev pub bar_turn : List Frame → Context → Option Turn
bar_turn fs c = option_and_then (λ w. bar_in w.0 w.1 c) (expression_on fs)

-- the end of a block that has no code
abbrev pub empty_ended : Body → List Frame → Context → Terminator → Spot → Option Turn
empty_ended (body.Block barred) fs c Bracket b = simply c (empty_event b) (at.Code code.Having) fs
empty_ended _ fs c x b = None

abbrev pub empty_end : List Frame → Context → Terminator → Spot → Option Turn
empty_end fs c x b = option_and_then (λ w. empty_ended w.0 w.1 c x b) (body_on fs)

-- the end of code behind a period
abbrev pub stopped_in : Expression → List Frame → Context → Terminator → Spot → Option Turn
stopped_in (expression.Statement false) fs c x b = empty_end fs c x b
stopped_in (expression.Statement true) fs c x b = body_end fs (forgotten c) (body_event b) x
stopped_in _ fs c x b = None

abbrev pub stopped : List Frame → Context → Terminator → Spot → Option Turn
stopped fs c x b = option_and_then (λ w. stopped_in w.0 w.1 c x b) (expression_on fs)

abbrev pub group_turn : List Frame → Context → Option Turn
group_turn fs c = simply c opening (at.Code code.Wanting) (f.Expression expression.Group ∷ fs)

abbrev pub block_turn : List Frame → Context → Spot → Option Turn
block_turn fs c b =
    Some (record { counts = c; event = block_event b; post = post.Enter; at = at.Code code.Wanting; frames = f.Expression (expression.Statement false) ∷ f.Body (body.Block false) ∷ fs })

-- what is no unary of one sign
abbrev pub entered : List Frame → Context → Symbol → Spot → Option Turn
entered fs c (sign.Keyword n) b = implied_turn fs c (opened Implied n None b)
entered fs c (sign.PrimitiveKeyword n k) b = implied_turn fs c (opened Implied n (Some k) b)
entered fs c (sign.Delegate n r) b = delegate_turn fs c n r b
entered fs c sign.OpenParen b = group_turn fs c
entered fs c sign.OpenBracket b = block_turn fs c b
entered fs c sign.Caret b = caret_turn fs c b
entered fs c sign.Bar b = bar_turn fs c
entered fs c sign.CloseParen b = stopped fs c Paren b
entered fs c sign.CloseBracket b = stopped fs c Bracket b
entered fs c _ b = None

abbrev pub begun_with : Option TextNode → List Frame → Context → Symbol → Spot → Option Turn
begun_with (Some n) fs c x b = simply c (makes b n) (at.Code code.Having) fs
begun_with None fs c x b = entered fs c x b

abbrev pub begun : List Frame → Context → Symbol → Spot → Option Turn
begun fs c x b = begun_with (primary x) fs c x b

-- Where there is a unary. The operands of which it is the last:
abbrev pub bound_by : Option Operand → List Frame → Context → List Frame × Context
bound_by None fs c = (fs, c)
bound_by (Some w) fs c = (fs, owed w.made c)

abbrev pub bound : List Frame → Context → List Frame × Context
bound fs c = bound_by (operand_on fs).0 (operand_on fs).1 c

abbrev pub same_role : Role → Role → Bool
same_role Equals Equals = true
same_role Arrow Arrow = true
same_role Star Star = true
same_role Other Other = true
same_role _ _ = false

-- an operator, and the node that the end of the operand behind it makes
abbrev pub operand_awaited : List Frame → Context → ℕ → Role → Made → Option Turn
operand_awaited fs c o r m = simply c quiet (at.Code code.Wanting) (f.Right (record { operator = o; role = r; made = m }) ∷ fs)

abbrev pub operator_behind : Option Operand → List Frame → Context → ℕ → Role → Spot → Option Turn
operator_behind None fs c o r b = operand_awaited fs c o r (operator_node Given o b)
operator_behind (Some w) fs c o r b =
    cond ((w.operator == o) && same_role w.role r) (operand_awaited fs (owed w.made c) w.operator w.role (operator_node Given w.operator b)) None

abbrev pub operator_turn : List Frame → Context → ℕ → Role → Spot → Option Turn
operator_turn fs c o r b = operator_behind (operand_on fs).0 (operand_on fs).1 c o r b

abbrev pub keyword_turn : List Frame → Context → Message → Option Turn
keyword_turn fs c m = message_turn (bound fs c).0 (bound fs c).1 m

-- a further part of the innermost message
abbrev pub part_of : Limits → Message → List Frame → Context → ℕ → Bool → Option Turn
part_of l m fs c n y = simply c (breaking (too_many_arguments l (count_of m.words))) (at.Code code.Wanting) (f.Argument (further m n y) ∷ fs)

abbrev pub part_turn : Limits → List Frame → Context → ℕ → Bool → Option Turn
part_turn l fs c n y = option_and_then (λ w. part_of l w.0 w.1 c n y) (message_on fs)

abbrev pub capital_turn : Limits → List Frame → Context → ℕ → Bool → Option Turn
capital_turn l fs c n y = part_turn l (bound fs c).0 (bound fs c).1 n y

-- All messages that are open end; then the expression around them.
unfoldable pub unwound : List Frame → Context → Option (Expression × List Frame × Context)
unwound [] c = None
unwound (f.Argument m ∷ fs) c = unwound fs (finished (owed (message_node m) c))
unwound (f.Right o ∷ fs) c = unwound fs (owed o.made c)
unwound (f.Expression x ∷ fs) c = Some (x, fs, c)
unwound (_ ∷ fs) c = None

-- the end of a statement, of what is returned, and of what stands in parentheses
abbrev pub statement_end : List Frame → Context → Terminator → Spot → Option Turn
statement_end fs c Period b = Some (record { counts = c; event = quiet; post = post.Owe (node b nodes.Drop); at = at.Code code.Wanting; frames = f.Expression (expression.Statement true) ∷ fs })
statement_end fs c x b = body_end fs c (body_event b) x

abbrev pub return_end : List Frame → Context → Terminator → Option Turn
return_end fs c Period = simply c quiet (at.Code code.Ended) fs
return_end fs c x = body_end fs c returned_event x

abbrev pub group_end : List Frame → Context → Terminator → Option Turn
group_end fs c Paren = simply c closing (at.Code code.Having) fs
group_end fs c _ = None

-- the end of an expression, by where it stands
abbrev pub expression_end : Expression → List Frame → Context → Terminator → Spot → Option Turn
expression_end (expression.Statement later) fs c x b = statement_end fs c x b
expression_end (expression.Returning q) fs c x b = return_end fs (owed (node q nodes.Return) c) x
expression_end expression.Group fs c x b = group_end fs c x

abbrev pub terminated : List Frame → Context → Terminator → Spot → Option Turn
terminated fs c x b = option_and_then (λ w. expression_end w.0 w.1 w.2 x b) (unwound fs c)

-- what is no message without arguments
abbrev pub gone_further : Limits → List Frame → Context → Symbol → Spot → Option Turn
gone_further l fs c (sign.Operator o r) b = operator_turn fs c o r b
gone_further l fs c (sign.Keyword n) b = keyword_turn fs c (opened Given n None b)
gone_further l fs c (sign.PrimitiveKeyword n k) b = keyword_turn fs c (opened Given n (Some k) b)
gone_further l fs c (sign.CapitalKeyword n y) b = capital_turn l fs c n y
gone_further l fs c sign.Period b = terminated fs c Period b
gone_further l fs c sign.CloseParen b = terminated fs c Paren b
gone_further l fs c sign.CloseBracket b = terminated fs c Bracket b
gone_further l fs c _ b = None

-- a message without arguments, by its node
abbrev pub unary_node : Symbol → Option TextNode
unary_node (sign.Name n t r) = Some (nodes.Message Given (One n) 0)
unary_node (sign.Primitive n) = Some (nodes.Primitive (One n) 0 false false)
unary_node _ = None

abbrev pub gone_on_with : Option TextNode → Limits → List Frame → Context → Symbol → Spot → Option Turn
gone_on_with (Some n) l fs c x b = simply c (makes b n) (at.Code code.Having) fs
gone_on_with None l fs c x b = gone_further l fs c x b

abbrev pub gone_on : Limits → List Frame → Context → Symbol → Spot → Option Turn
gone_on l fs c x b = gone_on_with (unary_node x) l fs c x b

-- behind a delegate
abbrev pub delegate_operator : Target → Spot → List Frame → Context → ℕ → Role → Option Turn
delegate_operator to q fs c o r = option_and_then (λ around. operand_awaited around c o r (operator_node to o q)) (alone fs)

abbrev pub behind_delegate : Target → Spot → List Frame → Context → Symbol → Spot → Option Turn
behind_delegate to q fs c (sign.Name n t r) b = simply c (makes q (nodes.Message to (One n) 0)) (at.Code code.Having) fs
behind_delegate to q fs c (sign.Operator o r) b = delegate_operator to q fs c o r
behind_delegate to q fs c (sign.Keyword n) b = implied_turn fs c (opened to n None q)
behind_delegate to q fs c _ b = None

-- behind the period of a return
abbrev pub ended_turn : List Frame → Context → Symbol → Spot → Option Turn
ended_turn fs c sign.CloseParen b = body_end fs c returned_event Paren
ended_turn fs c sign.CloseBracket b = body_end fs c returned_event Bracket
ended_turn fs c _ b = None
