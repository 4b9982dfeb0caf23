-- Each place can be closed to a text: what is read so far is the front of one.
use Rattle.std.specs.Prelude.{◌≡◌, pos, Some, List, [], refl}
use Rattle.std.proofs.Common.{ap, sym, ◌∙◌}
use Rattle.self_grammar.specs.declared.signs.Spot.{Spot}
use Rattle.self_grammar.specs.declared.signs.Reserved.TheVariants.{Free}
use Rattle.self_grammar.specs.declared.signs.Role.TheVariants.{Equals}
use Rattle.self_grammar.specs.declared.signs.Symbol.{Symbol}
use Rattle.self_grammar.specs.declared.signs.Symbol.TheVariants as sign
use Rattle.self_grammar.specs.declared.signs.Sign.{Sign}
use Rattle.self_grammar.specs.Grammar as g
use Rattle.self_grammar.specs.Counts.{Limits, Writer, write, placing}
use Rattle.self_grammar.specs.Refusal.{BeginsSoundly}
use Rattle.self_grammar.specs.Spelling as s
use Rattle.self_grammar.proofs.Settled.{member_scope, member_settles}
use Rattle.self_grammar.proofs.Places.{Lists, in_world, in_bars, in_object, Start, listed, lone, Contents, undecided, coded, DataHole, assigned, parental, CodeHole, in_method, in_slotted, in_block, OperandHole, alone, Text, marks, o, scope_of}
use Rattle.self_grammar.proofs.Places as p
use Rattle.self_grammar.proofs.Moves
use Rattle.self_grammar.proofs.Bases.{base, is_edit, keeps, member_kind, method_kind, operand_kind}
use Rattle.self_grammar.proofs.Viable.{list_rest, contents_rest, operand_rest, member_law, method_law, operand_law}
use Rattle.self_grammar.proofs.Reading.{State, move, goes_on}
use Rattle.self_grammar.proofs.Found.{Reached, text_marks}

pub record Closes (l : Limits) (q : Moves.Place) : Type 0 where
  pub text : Text
  pub rest : Writer
  pub law : Moves.before l q rest ≡ marks l text
  pub kind : is_edit text ≡ base q

-- A place can be closed where the next one can.
by_move : (l : Limits) (q : Moves.Place) (x : Symbol) (m : Moves.Move) → move l q x o ≡ Some m → Closes l m.to → Closes l q
by_move l q x m is c = record {
  text = c.text;
  rest = λ d. write l x o m.event (λ e. c.rest (m.post e)) (m.pre d);
  law = (goes_on l q x o m is).law c.rest ∙ c.law;
  kind = c.kind ∙ keeps l q x o m is;
}

zero : Symbol
zero = sign.Integer (pos 0)

a_name : Symbol
a_name = sign.Name 0 0 Free

equals : Symbol
equals = sign.Operator 0 Equals

having_closes : (l : Limits) (h : OperandHole) (u : g.Unary) → Closes l (Moves.having h u)
having_closes l h u = record { text = p.operand_closing h u; rest = operand_rest l h; law = operand_law l h u; kind = operand_kind h u }

wanting_closes : (l : Limits) (h : OperandHole) → Closes l (Moves.wanting h)
unfolding zero
wanting_closes l h = by_move l (Moves.wanting h) zero _ refl (having_closes l h (g.int (pos 0) o))

behind_closes : (l : Limits) (h : Contents) (f : g.Method) → Closes l (Moves.behind h f)
behind_closes l h f = record { text = p.method_closing h f; rest = contents_rest l h; law = method_law l h f; kind = method_kind h f }

member_closes : (l : Limits) (h : Lists) (f : g.Member) → Closes l (Moves.member_done h f)
member_closes l h f = record {
  text = p.member_closing h f;
  rest = placing (s.member_items f) (list_rest l h (member_scope l f (scope_of l h)));
  law = ap (λ (w : Writer). p.lists l h w) (sym (member_settles l f (λ t. placing (s.member_items f) (list_rest l h t)) (scope_of l h))) ∙ member_law l h f;
  kind = member_kind h f;
}

ended_closes : (l : Limits) (h : CodeHole) (ss : g.Statements) (q : Spot) (e : g.Expression) (d : Spot) → Closes l (Moves.ended h ss q e d)
ended_closes l (in_method h y) ss q e d = by_move l _ sign.CloseParen _ refl (behind_closes l h (g.bare_method y (g.code ss (Some q) e (Some d)) o))
ended_closes l (in_slotted h y b sl b2) ss q e d = by_move l _ sign.CloseParen _ refl (behind_closes l h (g.slotted_method y b sl b2 (g.code ss (Some q) e (Some d)) o))
ended_closes l (in_block h y bs) ss q e d = by_move l _ sign.CloseBracket _ refl (having_closes l h (g.block y bs (g.full (g.code ss (Some q) e (Some d))) o))

opened_closes : (l : Limits) (h : Contents) (q : Spot) → Closes l (Moves.opened h q)
unfolding zero
opened_closes l h q = by_move l _ zero _ refl (having_closes l _ (g.int (pos 0) o))

holding_closes : (l : Limits) (h : Contents) → Closes l (Moves.holding h)
holding_closes l h = by_move l _ sign.OpenParen _ refl (opened_closes l h o)

shut_closes : (l : Limits) (h : Contents) (q d : Spot) (sl : g.Slots) (d2 : Spot) → Closes l (Moves.shut h q d sl d2)
unfolding zero
shut_closes l h q d sl d2 = by_move l _ zero _ refl (having_closes l _ (g.int (pos 0) o))

data_closes : (l : Limits) (h : DataHole) → Closes l (Moves.data_wanted h)
unfolding zero
data_closes l (assigned h w a) = by_move l _ zero _ refl (member_closes l h _)
data_closes l (parental h w x e) = by_move l _ zero _ refl (member_closes l h _)

data_opened_closes : (l : Limits) (h : DataHole) (q : Spot) → Closes l (Moves.data_opened h q)
data_opened_closes l (assigned h w a) q = by_move l _ sign.CloseParen _ refl (member_closes l h _)
data_opened_closes l (parental h w x e) q = by_move l _ sign.CloseParen _ refl (member_closes l h _)

data_shut_closes : (l : Limits) (h : DataHole) (q d : Spot) (sl : g.Slots) (d2 : Spot) → Closes l (Moves.data_shut h q d sl d2)
data_shut_closes l (assigned h w a) q d sl d2 = by_move l _ sign.CloseParen _ refl (member_closes l h _)
data_shut_closes l (parental h w x e) q d sl d2 = by_move l _ sign.CloseParen _ refl (member_closes l h _)

named_closes : (l : Limits) (h : Start) (w : g.Label) → Closes l (Moves.named h w)
unfolding equals
named_closes l (listed h) w = by_move l _ equals _ refl (holding_closes l _)
named_closes l lone w = by_move l _ equals _ refl (holding_closes l _)

slot_closes : (l : Limits) (h : Start) → Closes l (Moves.at_slot h)
unfolding a_name
slot_closes l h = by_move l _ a_name _ refl (named_closes l h _)

keyword_closes : (l : Limits) (h : Start) (n : g.KeywordHead) → Closes l (Moves.keyword_argued h n)
unfolding equals
keyword_closes l h n = by_move l _ equals _ refl (holding_closes l _)

argument_closes : (l : Limits) (h : Lists) (w : g.Label) → Closes l (Moves.argument_done h w)
argument_closes l (in_world ms) w = let c = slot_closes l (listed (in_world ms)) in record { text = c.text; rest = c.rest; law = c.law; kind = c.kind }
argument_closes l (in_bars h q d ss) w = by_move l _ sign.Bar _ refl (shut_closes l h q d _ o)
argument_closes l (in_object h q d ss) w = by_move l _ sign.Bar _ refl (data_shut_closes l h q d _ o)

local_closes : (l : Limits) (h : OperandHole) (q d : Spot) (ws : g.LocalsBefore) (f : g.Local) → Closes l (Moves.local_done h q d ws f)
local_closes l h q d ws f = by_move l _ sign.Bar _ refl (wanting_closes l _)

finished_closes : (l : Limits) (t : Text) → Closes l (Moves.finished t)
finished_closes l t = record { text = t; rest = λ c. []; law = text_marks l t; kind = refl }

pub closes : (l : Limits) (q : Moves.Place) → Closes l q
unfolding zero a_name equals
closes l (Moves.wanting h) = wanting_closes l h
closes l (Moves.having h u) = having_closes l h u
closes l (Moves.delegated h d) = by_move l _ a_name _ refl (having_closes l h _)
closes l (Moves.ended h ss q e d) = ended_closes l h ss q e d
closes l (Moves.behind h f) = behind_closes l h f
closes l (Moves.at_slot h) = slot_closes l h
closes l (Moves.named h w) = named_closes l h w
closes l (Moves.starred h w x) = by_move l _ equals _ refl (data_closes l _)
closes l (Moves.operator_named h n) = by_move l _ equals _ refl (holding_closes l _)
closes l (Moves.operator_argued h n a) = by_move l _ equals _ refl (holding_closes l _)
closes l (Moves.keyword_named h n) = by_move l _ equals _ refl (holding_closes l _)
closes l (Moves.keyword_argued h n) = keyword_closes l h n
closes l (Moves.keyword_wanting h n q) = by_move l _ a_name _ refl (keyword_closes l h _)
closes l (Moves.holding h) = holding_closes l h
closes l (Moves.data_wanted h) = data_closes l h
closes l (Moves.opened h q) = opened_closes l h q
closes l (Moves.data_opened h q) = data_opened_closes l h q
closes l (Moves.shut h q d sl d2) = shut_closes l h q d sl d2
closes l (Moves.data_shut h q d sl d2) = data_shut_closes l h q d sl d2
closes l (Moves.member_done h f) = member_closes l h f
closes l (Moves.argument_done h w) = argument_closes l h w
closes l (Moves.lone_stopped y e f d) = by_move l _ sign.End _ refl (finished_closes l _)
closes l (Moves.at_local h q d ws) = by_move l _ sign.Bar _ refl (wanting_closes l _)
closes l (Moves.local_named h q d ws w) = by_move l _ sign.Bar _ refl (wanting_closes l _)
closes l (Moves.local_equals h q d ws w e) = by_move l _ zero _ refl (local_closes l h q d ws _)
closes l (Moves.local_arrow h q d ws w e) = by_move l _ zero _ refl (local_closes l h q d ws _)
closes l (Moves.local_done h q d ws f) = local_closes l h q d ws f
closes l (Moves.finished t) = finished_closes l t

-- What was read so far is the front of a text, and nothing is wrong with it.
pub begins_soundly : (l : Limits) (given : List Sign) (t : State) → Reached l given t → BeginsSoundly (marks l) given
begins_soundly l given t r =
    let c = closes l t.place in
    (c.text, r.written, c.rest t.counts, sym c.law ∙ r.says c.rest, r.are, r.well)
