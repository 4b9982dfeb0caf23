-- Reading by places: a sign moves the place on where the grammar lets it, and nothing is wrong there.
use Rattle.std.specs.Prelude.{◌≡◌, Option, None, Some, Result, Ok, Err}
use Rattle.self_grammar.specs.declared.signs.Spot.{Spot}
use Rattle.self_grammar.specs.declared.signs.Symbol.{Symbol}
use Rattle.self_grammar.specs.declared.signs.Symbol.TheVariants as sign
use Rattle.self_grammar.specs.declared.signs.ReadRefusal.{ReadRefusal}
use Rattle.self_grammar.specs.Grammar as g
use Rattle.self_grammar.specs.Counts.{Limits, Context, mark_at, moved}
use Rattle.self_grammar.specs.Refusal.{kind_of, bad_syntax}
use Rattle.self_grammar.specs.Spelling as s
use Rattle.self_grammar.proofs.Places.{Text, world, edit, Lists, in_world, listed, lone, marks}
use Rattle.self_grammar.proofs.Places as p
use Rattle.self_grammar.proofs.Moves
use Rattle.self_grammar.proofs.SlotMoves as v
use Rattle.self_grammar.proofs.LocalMoves as w
use Rattle.self_grammar.proofs.Sound as code
use Rattle.self_grammar.proofs.SlotSound as slots
use Rattle.self_grammar.proofs.LocalSound as locals

-- behind the period of a return only the end of the body may come
abbrev pub ended_sign : p.CodeHole → g.Statements → Spot → g.Expression → Spot → Symbol → Spot → Option Moves.Move
ended_sign h ss q e d sign.CloseParen b = Moves.ended_move h ss q e d Moves.paren b
ended_sign h ss q e d sign.CloseBracket b = Moves.ended_move h ss q e d Moves.bracket b
ended_sign h ss q e d _ b = None

pub ended_goes_on : (l : Limits) (h : p.CodeHole) (ss : g.Statements) (q : Spot) (e : g.Expression) (d : Spot) (x : Symbol) (b : Spot) (m : Moves.Move) → ended_sign h ss q e d x b ≡ Some m → code.GoesOn l (Moves.before l (Moves.ended h ss q e d)) x b m
ended_goes_on l h ss q e d (sign.Integer z) b m is = cc
ended_goes_on l h ss q e d (sign.Text i j) b m is = cc
ended_goes_on l h ss q e d (sign.Name n t r) b m is = cc
ended_goes_on l h ss q e d (sign.Primitive n) b m is = cc
ended_goes_on l h ss q e d sign.Restart b m is = cc
ended_goes_on l h ss q e d (sign.Keyword n) b m is = cc
ended_goes_on l h ss q e d (sign.PrimitiveKeyword n y) b m is = cc
ended_goes_on l h ss q e d sign.RestartKeyword b m is = cc
ended_goes_on l h ss q e d (sign.CapitalKeyword n y) b m is = cc
ended_goes_on l h ss q e d (sign.Argument n t r) b m is = cc
ended_goes_on l h ss q e d (sign.Delegate n r) b m is = cc
ended_goes_on l h ss q e d (sign.Operator n r) b m is = cc
ended_goes_on l h ss q e d sign.OpenParen b m is = cc
ended_goes_on l h ss q e d sign.CloseParen b m is = code.ended_goes_on l h ss q e d Moves.paren b m is
ended_goes_on l h ss q e d sign.OpenBracket b m is = cc
ended_goes_on l h ss q e d sign.CloseBracket b m is = code.ended_goes_on l h ss q e d Moves.bracket b m is
ended_goes_on l h ss q e d sign.Bar b m is = cc
ended_goes_on l h ss q e d sign.Period b m is = cc
ended_goes_on l h ss q e d sign.Caret b m is = cc
ended_goes_on l h ss q e d sign.End b m is = cc
ended_goes_on l h ss q e d (sign.Bad z) b m is = cc

-- how a sign moves any place on
abbrev pub move : Limits → Moves.Place → Symbol → Spot → Option Moves.Move
move l (Moves.wanting h) x b = Moves.begin_move h x b
move l (Moves.having h u) x b = Moves.having_move l h u x b
move l (Moves.delegated h d) x b = Moves.delegated_move h d x b
move l (Moves.ended h ss q e d) x b = ended_sign h ss q e d x b
move l (Moves.behind h f) x b = v.behind_move l h f x b
move l (Moves.at_slot h) x b = v.slot_move l h x b
move l (Moves.named h w') x b = v.named_move l h w' x b
move l (Moves.starred h w' y) x b = v.starred_move h w' y x b
move l (Moves.operator_named h o) x b = v.operator_named_move l h o x b
move l (Moves.operator_argued h o a) x b = v.operator_argued_move h o a x b
move l (Moves.keyword_named h n) x b = v.keyword_named_move l h n x b
move l (Moves.keyword_argued h n) x b = v.keyword_argued_move l h n x b
move l (Moves.keyword_wanting h n q) x b = v.keyword_wanting_move l h n q x b
move l (Moves.holding h) x b = v.holding_move l h x b
move l (Moves.data_wanted h) x b = v.data_wanted_move h x b
move l (Moves.opened h q) x b = v.opened_move h q x b
move l (Moves.data_opened h q) x b = v.data_opened_move h q x b
move l (Moves.shut h q d sl d2) x b = v.shut_move l h q d sl d2 x b
move l (Moves.data_shut h q d sl d2) x b = v.data_shut_move l h q d sl d2 x b
move l (Moves.member_done h f) x b = v.member_done_move l h f x b
move l (Moves.argument_done h w') x b = v.argument_done_move l h w' x b
move l (Moves.lone_stopped y e f d) x b = v.lone_stopped_move y e f d x b
move l (Moves.at_local h q d ws) x b = w.local_move l h q d ws x b
move l (Moves.local_named h q d ws w') x b = w.local_named_move l h q d ws w' x b
move l (Moves.local_equals h q d ws w' e) x b = w.contents_move h q d ws (g.local_constant w' e) x b
move l (Moves.local_arrow h q d ws w' e) x b = w.contents_move h q d ws (g.local_assignable w' e) x b
move l (Moves.local_done h q d ws f) x b = w.local_done_move h q d ws f x b
move l (Moves.finished t) x b = None

pub goes_on : (l : Limits) (q' : Moves.Place) (x : Symbol) (b : Spot) (m : Moves.Move) → move l q' x b ≡ Some m → code.GoesOn l (Moves.before l q') x b m
goes_on l (Moves.wanting h) x b m is = code.begin_goes_on l h x b m is
goes_on l (Moves.having h u) x b m is = code.having_goes_on l h u x b m is
goes_on l (Moves.delegated h d) x b m is = code.delegated_goes_on l h d x b m is
goes_on l (Moves.ended h ss q e d) x b m is = ended_goes_on l h ss q e d x b m is
goes_on l (Moves.behind h f) x b m is = slots.method_behind_goes_on l h f x b m is
goes_on l (Moves.at_slot h) x b m is = slots.slot_goes_on l h x b m is
goes_on l (Moves.named h w') x b m is = slots.named_goes_on l h w' x b m is
goes_on l (Moves.starred h w' y) x b m is = slots.starred_goes_on l h w' y x b m is
goes_on l (Moves.operator_named h o) x b m is = slots.operator_named_goes_on l h o x b m is
goes_on l (Moves.operator_argued h o a) x b m is = slots.operator_argued_goes_on l h o a x b m is
goes_on l (Moves.keyword_named h n) x b m is = slots.keyword_named_goes_on l h n x b m is
goes_on l (Moves.keyword_argued h n) x b m is = slots.keyword_argued_goes_on l h n x b m is
goes_on l (Moves.keyword_wanting h n q) x b m is = slots.keyword_wanting_goes_on l h n q x b m is
goes_on l (Moves.holding h) x b m is = slots.holding_goes_on l h x b m is
goes_on l (Moves.data_wanted h) x b m is = slots.data_wanted_goes_on l h x b m is
goes_on l (Moves.opened h q) x b m is = slots.opened_goes_on l h q x b m is
goes_on l (Moves.data_opened h q) x b m is = slots.data_opened_goes_on l h q x b m is
goes_on l (Moves.shut h q d sl d2) x b m is = slots.shut_goes_on l h q d sl d2 x b m is
goes_on l (Moves.data_shut h q d sl d2) x b m is = slots.data_shut_goes_on l h q d sl d2 x b m is
goes_on l (Moves.member_done h f) x b m is = slots.member_done_goes_on l h f x b m is
goes_on l (Moves.argument_done h w') x b m is = slots.argument_done_goes_on l h w' x b m is
goes_on l (Moves.lone_stopped y e f d) x b m is = slots.lone_stopped_goes_on l y e f d x b m is
goes_on l (Moves.at_local h q d ws) x b m is = locals.local_goes_on l h q d ws x b m is
goes_on l (Moves.local_named h q d ws w') x b m is = locals.local_named_goes_on l h q d ws w' x b m is
goes_on l (Moves.local_equals h q d ws w' e) x b m is = locals.local_equals_goes_on l h q d ws w' e x b m is
goes_on l (Moves.local_arrow h q d ws w' e) x b m is = locals.local_arrow_goes_on l h q d ws w' e x b m is
goes_on l (Moves.local_done h q d ws f) x b m is = locals.local_done_goes_on l h q d ws f x b m is
goes_on l (Moves.finished t) x b m is = cc

-- A state: where the next sign stands, what is counted before it, and the place at fault where no bar comes.
pub record State : Type 0 where
  pub place : Moves.Place
  pub counts : Context
  pub wants : Option Spot

abbrev pub world_start : State
world_start = record { place = Moves.at_slot (listed (in_world g.no_members)); counts = s.at_first 1; wants = None }

abbrev pub edit_start : State
edit_start = record { place = Moves.at_slot lone; counts = s.at_first 0; wants = None }

abbrev pub unless : Option ReadRefusal → State → Result State ReadRefusal
unless None t = Ok t
unless (Some r) t = Err r

abbrev pub behind : Limits → Context → Symbol → Spot → Option Moves.Move → Result State ReadRefusal
behind l c x b None = Err (bad_syntax b)
behind l c x b (Some m) =
    unless (mark_at l (m.pre c) x b m.event).fault (record { place = m.to; counts = m.post (moved (m.pre c) m.event); wants = m.event.next })

abbrev pub is_expected : Option Spot → Symbol → Option Spot
is_expected None x = None
is_expected (Some q) sign.Bar = None
is_expected (Some q) x = Some q

abbrev pub expected : Option Spot → Result State ReadRefusal → Result State ReadRefusal
expected None r = r
expected (Some q) r = Err (bad_syntax q)

-- one sign
abbrev pub step : Limits → State → Symbol → Spot → Result State ReadRefusal
step l t (sign.Bad f) b = Err (record { kind = kind_of f; spot = b })
step l t x b = expected (is_expected t.wants x) (behind l t.counts x b (move l t.place x b))
