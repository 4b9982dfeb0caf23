-- In the slots of a block the reader's turn is the grammar's move.
use Rattle.std.specs.Prelude.{ℕ, refl}
use Rattle.self_grammar.specs.declared.signs.Spot.{Spot}
use Rattle.self_grammar.specs.declared.signs.Reserved.{Reserved}
use Rattle.self_grammar.specs.declared.signs.Reserved.TheVariants.{Free, Itself, Resend}
use Rattle.self_grammar.specs.declared.signs.Role.{Role}
use Rattle.self_grammar.specs.declared.signs.Role.TheVariants.{Equals, Arrow, Star, Other}
use Rattle.self_grammar.specs.declared.signs.Symbol.{Symbol}
use Rattle.self_grammar.specs.declared.signs.Symbol.TheVariants as sign
use Rattle.self_grammar.specs.Counts.{Limits, Context}
use Rattle.self_grammar.specs.Grammar as g
use Rattle.self_grammar.proofs.Settled.{name_scope, set_scope, local_scope}
use Rattle.self_grammar.proofs.Places.{OperandHole}
use Rattle.self_grammar.proofs.Moves as m
use Rattle.self_grammar.proofs.LocalMoves as w
use Rattle.contents_reader.specs.LocalTurns.{local_turn, done_turn, role_turn, local_named_turn, local_equals_turn, local_arrow_turn, local_done_turn}
use Rattle.self_reader.proofs.Shown.{Follows, block, label_in, local_item, local_goes_on}

-- where a slot is wanted
name_follows : (l : Limits) (c : Context) (h : OperandHole) (q d : Spot) (ws : g.LocalsBefore) (n t : ℕ) (r : Reserved) (b : Spot) →
    Follows l c (local_turn l (block l h (m.block_scope l ws)) c (sign.Name n t r) b) (w.local_move l h q d ws (sign.Name n t r) b)
name_follows l c h q d ws n t Free b = (refl, refl, λ e. refl, refl)
name_follows l c h q d ws n t Itself b = tt
name_follows l c h q d ws n t Resend b = tt

argument_follows : (l : Limits) (c : Context) (h : OperandHole) (q d : Spot) (ws : g.LocalsBefore) (n t : ℕ) (r : Reserved) (b : Spot) →
    Follows l c (local_turn l (block l h (m.block_scope l ws)) c (sign.Argument n t r) b) (w.local_move l h q d ws (sign.Argument n t r) b)
argument_follows l c h q d ws n t Free b = (refl, refl, λ e. refl, refl)
argument_follows l c h q d ws n t Itself b = tt
argument_follows l c h q d ws n t Resend b = tt

pub local_follows : (l : Limits) (c : Context) (h : OperandHole) (q d : Spot) (ws : g.LocalsBefore) (x : Symbol) (b : Spot) →
    Follows l c (local_turn l (block l h (m.block_scope l ws)) c x b) (w.local_move l h q d ws x b)
local_follows l c h q d ws (sign.Integer z) b = tt
local_follows l c h q d ws (sign.Text i j) b = tt
local_follows l c h q d ws (sign.Name n t r) b = name_follows l c h q d ws n t r b
local_follows l c h q d ws (sign.Primitive n) b = tt
local_follows l c h q d ws sign.Restart b = tt
local_follows l c h q d ws (sign.Keyword n) b = tt
local_follows l c h q d ws (sign.PrimitiveKeyword n k) b = tt
local_follows l c h q d ws sign.RestartKeyword b = tt
local_follows l c h q d ws (sign.CapitalKeyword n y) b = tt
local_follows l c h q d ws (sign.Argument n t r) b = argument_follows l c h q d ws n t r b
local_follows l c h q d ws (sign.Delegate n r) b = tt
local_follows l c h q d ws (sign.Operator n r) b = tt
local_follows l c h q d ws sign.OpenParen b = tt
local_follows l c h q d ws sign.CloseParen b = tt
local_follows l c h q d ws sign.OpenBracket b = tt
local_follows l c h q d ws sign.CloseBracket b = tt
local_follows l c h q d ws sign.Bar b = (refl, refl, λ e. refl, refl)
local_follows l c h q d ws sign.Period b = tt
local_follows l c h q d ws sign.Caret b = tt
local_follows l c h q d ws sign.End b = tt
local_follows l c h q d ws (sign.Bad z) b = tt

-- behind a name
role_follows : (l : Limits) (c : Context) (h : OperandHole) (q d : Spot) (ws : g.LocalsBefore) (y : g.Label) (e : g.Word) (r : Role) →
    Follows l c (role_turn (label_in y) r (block l h (name_scope l y (m.block_scope l ws))) c) (w.role_move l h q d ws y e r)
role_follows l c h q d ws y e Equals = (refl, refl, λ k. refl, refl)
role_follows l c h q d ws y e Arrow = (refl, refl, λ k. refl, refl)
role_follows l c h q d ws y e Star = tt
role_follows l c h q d ws y e Other = tt

pub local_named_follows : (l : Limits) (c : Context) (h : OperandHole) (q d : Spot) (ws : g.LocalsBefore) (y : g.Label) (x : Symbol) (b : Spot) →
    Follows l c (local_named_turn (label_in y) (block l h (name_scope l y (m.block_scope l ws))) c x) (w.local_named_move l h q d ws y x b)
local_named_follows l c h q d ws y (sign.Integer z) b = tt
local_named_follows l c h q d ws y (sign.Text i j) b = tt
local_named_follows l c h q d ws y (sign.Name n t r) b = tt
local_named_follows l c h q d ws y (sign.Primitive n) b = tt
local_named_follows l c h q d ws y sign.Restart b = tt
local_named_follows l c h q d ws y (sign.Keyword n) b = tt
local_named_follows l c h q d ws y (sign.PrimitiveKeyword n k) b = tt
local_named_follows l c h q d ws y sign.RestartKeyword b = tt
local_named_follows l c h q d ws y (sign.CapitalKeyword n k) b = tt
local_named_follows l c h q d ws y (sign.Argument n t r) b = tt
local_named_follows l c h q d ws y (sign.Delegate n r) b = tt
local_named_follows l c h q d ws y (sign.Operator n r) b = role_follows l c h q d ws y (m.word n b) r
local_named_follows l c h q d ws y sign.OpenParen b = tt
local_named_follows l c h q d ws y sign.CloseParen b = tt
local_named_follows l c h q d ws y sign.OpenBracket b = tt
local_named_follows l c h q d ws y sign.CloseBracket b = tt
local_named_follows l c h q d ws y sign.Bar b = (refl, refl, λ e. refl, refl)
local_named_follows l c h q d ws y sign.Period b = (refl, refl, λ e. refl, refl)
local_named_follows l c h q d ws y sign.Caret b = tt
local_named_follows l c h q d ws y sign.End b = tt
local_named_follows l c h q d ws y (sign.Bad z) b = tt

-- where contents are wanted
pub local_equals_follows : (l : Limits) (c : Context) (h : OperandHole) (q d : Spot) (ws : g.LocalsBefore) (y : g.Label) (e : g.Word) (x : Symbol) (b : Spot) →
    Follows l c (local_equals_turn (label_in y) (block l h (name_scope l y (m.block_scope l ws))) c x b) (w.contents_move h q d ws (g.local_constant y e) x b)
local_equals_follows l c h q d ws y e (sign.Integer z) b = (refl, refl, λ k. refl, refl)
local_equals_follows l c h q d ws y e (sign.Text i j) b = (refl, refl, λ k. refl, refl)
local_equals_follows l c h q d ws y e (sign.Name n t r) b = (refl, refl, λ k. refl, refl)
local_equals_follows l c h q d ws y e (sign.Primitive n) b = tt
local_equals_follows l c h q d ws y e sign.Restart b = tt
local_equals_follows l c h q d ws y e (sign.Keyword n) b = tt
local_equals_follows l c h q d ws y e (sign.PrimitiveKeyword n k) b = tt
local_equals_follows l c h q d ws y e sign.RestartKeyword b = tt
local_equals_follows l c h q d ws y e (sign.CapitalKeyword n k) b = tt
local_equals_follows l c h q d ws y e (sign.Argument n t r) b = tt
local_equals_follows l c h q d ws y e (sign.Delegate n r) b = tt
local_equals_follows l c h q d ws y e (sign.Operator n r) b = tt
local_equals_follows l c h q d ws y e sign.OpenParen b = tt
local_equals_follows l c h q d ws y e sign.CloseParen b = tt
local_equals_follows l c h q d ws y e sign.OpenBracket b = tt
local_equals_follows l c h q d ws y e sign.CloseBracket b = tt
local_equals_follows l c h q d ws y e sign.Bar b = tt
local_equals_follows l c h q d ws y e sign.Period b = tt
local_equals_follows l c h q d ws y e sign.Caret b = tt
local_equals_follows l c h q d ws y e sign.End b = tt
local_equals_follows l c h q d ws y e (sign.Bad z) b = tt

pub local_arrow_follows : (l : Limits) (c : Context) (h : OperandHole) (q d : Spot) (ws : g.LocalsBefore) (y : g.Label) (a : g.Word) (x : Symbol) (b : Spot) →
    Follows l c (local_arrow_turn (label_in y) (block l h (set_scope l y (m.block_scope l ws))) c x b) (w.contents_move h q d ws (g.local_assignable y a) x b)
local_arrow_follows l c h q d ws y a (sign.Integer z) b = (refl, refl, λ k. refl, refl)
local_arrow_follows l c h q d ws y a (sign.Text i j) b = (refl, refl, λ k. refl, refl)
local_arrow_follows l c h q d ws y a (sign.Name n t r) b = (refl, refl, λ k. refl, refl)
local_arrow_follows l c h q d ws y a (sign.Primitive n) b = tt
local_arrow_follows l c h q d ws y a sign.Restart b = tt
local_arrow_follows l c h q d ws y a (sign.Keyword n) b = tt
local_arrow_follows l c h q d ws y a (sign.PrimitiveKeyword n k) b = tt
local_arrow_follows l c h q d ws y a sign.RestartKeyword b = tt
local_arrow_follows l c h q d ws y a (sign.CapitalKeyword n k) b = tt
local_arrow_follows l c h q d ws y a (sign.Argument n t r) b = tt
local_arrow_follows l c h q d ws y a (sign.Delegate n r) b = tt
local_arrow_follows l c h q d ws y a (sign.Operator n r) b = tt
local_arrow_follows l c h q d ws y a sign.OpenParen b = tt
local_arrow_follows l c h q d ws y a sign.CloseParen b = tt
local_arrow_follows l c h q d ws y a sign.OpenBracket b = tt
local_arrow_follows l c h q d ws y a sign.CloseBracket b = tt
local_arrow_follows l c h q d ws y a sign.Bar b = tt
local_arrow_follows l c h q d ws y a sign.Period b = tt
local_arrow_follows l c h q d ws y a sign.Caret b = tt
local_arrow_follows l c h q d ws y a sign.End b = tt
local_arrow_follows l c h q d ws y a (sign.Bad z) b = tt

-- behind a slot: a path goes on,
path_follows : (l : Limits) (c : Context) (h : OperandHole) (q d : Spot) (ws : g.LocalsBefore) (y : g.Local) (n t : ℕ) (r : Reserved) (b : Spot) →
    Follows l c (local_done_turn (local_item y) (local_goes_on y) (block l h (local_scope l y (m.block_scope l ws))) c (sign.Name n t r) b) (w.path_move h q d ws y (m.any n t r b))
path_follows l c h q d ws (g.local_argument y) n t r b = tt
path_follows l c h q d ws (g.local_bare y) n t r b = tt
path_follows l c h q d ws (g.local_assignable y a (g.integer z p)) n t r b = tt
path_follows l c h q d ws (g.local_assignable y a (g.string s)) n t r b = tt
path_follows l c h q d ws (g.local_assignable y a (g.path p)) n t r b = (refl, refl, λ k. refl, refl)
path_follows l c h q d ws (g.local_constant y e (g.integer z p)) n t r b = tt
path_follows l c h q d ws (g.local_constant y e (g.string s)) n t r b = tt
path_follows l c h q d ws (g.local_constant y e (g.path p)) n t r b = (refl, refl, λ k. refl, refl)

-- or the slot ends.
period_follows : (l : Limits) (c : Context) (h : OperandHole) (q d : Spot) (ws : g.LocalsBefore) (y : g.Local) (b : Spot) →
    Follows l c (done_turn (local_item y) (block l h (local_scope l y (m.block_scope l ws))) c sign.Period) (w.done_move h q d ws y m.stay w.period b)
period_follows l c h q d ws (g.local_argument y) b = (refl, refl, λ k. refl, refl)
period_follows l c h q d ws (g.local_bare y) b = (refl, refl, λ k. refl, refl)
period_follows l c h q d ws (g.local_assignable y a x) b = (refl, refl, λ k. refl, refl)
period_follows l c h q d ws (g.local_constant y e x) b = (refl, refl, λ k. refl, refl)

bar_follows : (l : Limits) (c : Context) (h : OperandHole) (q d : Spot) (ws : g.LocalsBefore) (y : g.Local) (b : Spot) →
    Follows l c (done_turn (local_item y) (block l h (local_scope l y (m.block_scope l ws))) c sign.Bar) (w.done_move h q d ws y m.stay w.bar b)
bar_follows l c h q d ws (g.local_argument y) b = (refl, refl, λ k. refl, refl)
bar_follows l c h q d ws (g.local_bare y) b = (refl, refl, λ k. refl, refl)
bar_follows l c h q d ws (g.local_assignable y a x) b = (refl, refl, λ k. refl, refl)
bar_follows l c h q d ws (g.local_constant y e x) b = (refl, refl, λ k. refl, refl)

pub local_done_follows : (l : Limits) (c : Context) (h : OperandHole) (q d : Spot) (ws : g.LocalsBefore) (y : g.Local) (x : Symbol) (b : Spot) →
    Follows l c (local_done_turn (local_item y) (local_goes_on y) (block l h (local_scope l y (m.block_scope l ws))) c x b) (w.local_done_move h q d ws y x b)
local_done_follows l c h q d ws y (sign.Integer z) b = tt
local_done_follows l c h q d ws y (sign.Text i j) b = tt
local_done_follows l c h q d ws y (sign.Name n t r) b = path_follows l c h q d ws y n t r b
local_done_follows l c h q d ws y (sign.Primitive n) b = tt
local_done_follows l c h q d ws y sign.Restart b = tt
local_done_follows l c h q d ws y (sign.Keyword n) b = tt
local_done_follows l c h q d ws y (sign.PrimitiveKeyword n k) b = tt
local_done_follows l c h q d ws y sign.RestartKeyword b = tt
local_done_follows l c h q d ws y (sign.CapitalKeyword n k) b = tt
local_done_follows l c h q d ws y (sign.Argument n t r) b = tt
local_done_follows l c h q d ws y (sign.Delegate n r) b = tt
local_done_follows l c h q d ws y (sign.Operator n r) b = tt
local_done_follows l c h q d ws y sign.OpenParen b = tt
local_done_follows l c h q d ws y sign.CloseParen b = tt
local_done_follows l c h q d ws y sign.OpenBracket b = tt
local_done_follows l c h q d ws y sign.CloseBracket b = tt
local_done_follows l c h q d ws y sign.Bar b = bar_follows l c h q d ws y b
local_done_follows l c h q d ws y sign.Period b = period_follows l c h q d ws y b
local_done_follows l c h q d ws y sign.Caret b = tt
local_done_follows l c h q d ws y sign.End b = tt
local_done_follows l c h q d ws y (sign.Bad z) b = tt
