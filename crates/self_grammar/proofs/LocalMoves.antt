-- How a sign moves a place in the slots of a block on.
use Rattle.std.specs.Prelude.{Option, None, Some, [], ◌∷◌}
use Rattle.self_grammar.specs.declared.signs.Spot.{Spot}
use Rattle.self_grammar.specs.declared.signs.Role.{Role}
use Rattle.self_grammar.specs.declared.signs.Role.TheVariants.{Equals, Arrow, Star, Other}
use Rattle.self_grammar.specs.declared.signs.Symbol.{Symbol}
use Rattle.self_grammar.specs.declared.signs.Symbol.TheVariants as sign
use Rattle.self_grammar.specs.declared.pieces.Item.TheVariants as items
use Rattle.self_grammar.specs.Grammar as g
use Rattle.self_grammar.specs.Counts.{Limits, Context, quiet, saying}
use Rattle.self_grammar.specs.Scopes.{again}
use Rattle.self_grammar.specs.Spelling as s
use Rattle.self_grammar.proofs.Settled.{name_scope}
use Rattle.self_grammar.proofs.Places.{OperandHole, in_block, statement, alone}
use Rattle.self_grammar.proofs.Moves.{wanting, at_local, local_named, local_equals, local_arrow, local_done, Move, simply, stay, tell, place, block_scope, word, label, any}
use Rattle.self_grammar.proofs.SlotMoves.{name_event, argument_event, if_free}

-- what ends a slot of a block
pub data After : Type 0 where
  period : After
  bar : After

abbrev pub after_symbol : After → Symbol
after_symbol period = sign.Period
after_symbol bar = sign.Bar

abbrev pub done_move : OperandHole → Spot → Spot → g.LocalsBefore → g.Local → (Context → Context) → After → Spot → Option Move
done_move h q d ws x pre period b =
    Some (record { pre = λ c. place (s.local_items x) (pre c); event = quiet; post = stay; to = at_local h q d (g.more_locals ws x b) })
done_move h q d ws x pre bar b =
    Some (record { pre = λ c. place (s.local_items x) (pre c); event = quiet; post = stay; to = wanting (alone (statement (in_block h q (g.present d (g.locals_last ws x) b)) g.none)) })

abbrev pub local_move : Limits → OperandHole → Spot → Spot → g.LocalsBefore → Symbol → Spot → Option Move
local_move l h q d ws (sign.Name n t r) b = if_free r (simply (name_event l (block_scope l ws) (label n t b)) (local_named h q d ws (label n t b)))
local_move l h q d ws (sign.Argument n t r) b = if_free r (simply (argument_event l (block_scope l ws) (label n t b)) (local_done h q d ws (g.local_argument (label n t b))))
local_move l h q d ws sign.Bar b = simply quiet (wanting (alone (statement (in_block h q (g.present d (g.locals_ended ws) b)) g.none)))
local_move l h q d ws _ b = None

abbrev pub role_move : Limits → OperandHole → Spot → Spot → g.LocalsBefore → g.Label → g.Word → Role → Option Move
role_move l h q d ws w e Equals = simply quiet (local_equals h q d ws w e)
role_move l h q d ws w e Arrow = simply (record quiet { broken = again (name_scope l w (block_scope l ws)) (w.setter ∷ []) w.spot }) (local_arrow h q d ws w e)
role_move l h q d ws w e Star = None
role_move l h q d ws w e Other = None

abbrev pub bare_pre : Limits → g.LocalsBefore → g.Label → Context → Context
bare_pre l ws w c = tell (again (name_scope l w (block_scope l ws)) (w.setter ∷ []) w.spot) c

abbrev pub local_named_move : Limits → OperandHole → Spot → Spot → g.LocalsBefore → g.Label → Symbol → Spot → Option Move
local_named_move l h q d ws w (sign.Operator n r) b = role_move l h q d ws w (word n b) r
local_named_move l h q d ws w sign.Period b = done_move h q d ws (g.local_bare w) (bare_pre l ws w) period b
local_named_move l h q d ws w sign.Bar b = done_move h q d ws (g.local_bare w) (bare_pre l ws w) bar b
local_named_move l h q d ws w _ b = None

-- simple contents, of a slot that they make
abbrev pub contents_move : OperandHole → Spot → Spot → g.LocalsBefore → (g.Simple → g.Local) → Symbol → Spot → Option Move
contents_move h q d ws f (sign.Integer z) b = simply (saying (items.Integer z)) (local_done h q d ws (f (g.integer z b)))
contents_move h q d ws f (sign.Text i j) b = simply (saying (items.Text i j)) (local_done h q d ws (f (g.string (record { start = i; end = j; spot = b }))))
contents_move h q d ws f (sign.Name n t r) b = simply (saying (items.Root n b)) (local_done h q d ws (f (g.path (g.named (any n t r b)))))
contents_move h q d ws f _ b = None

abbrev pub longer : OperandHole → Spot → Spot → g.LocalsBefore → (g.Simple → g.Local) → g.Simple → g.AnyName → Option Move
longer h q d ws f (g.integer z c) w = None
longer h q d ws f (g.string t) w = None
longer h q d ws f (g.path p) w = simply (saying (items.Further w.label.name w.label.spot)) (local_done h q d ws (f (g.path (g.under p w))))

abbrev pub path_move : OperandHole → Spot → Spot → g.LocalsBefore → g.Local → g.AnyName → Option Move
path_move h q d ws (g.local_argument w) y = None
path_move h q d ws (g.local_bare w) y = None
path_move h q d ws (g.local_assignable w a c) y = longer h q d ws (g.local_assignable w a) c y
path_move h q d ws (g.local_constant w e c) y = longer h q d ws (g.local_constant w e) c y

abbrev pub local_done_move : OperandHole → Spot → Spot → g.LocalsBefore → g.Local → Symbol → Spot → Option Move
local_done_move h q d ws x (sign.Name n t r) b = path_move h q d ws x (any n t r b)
local_done_move h q d ws x sign.Period b = done_move h q d ws x stay period b
local_done_move h q d ws x sign.Bar b = done_move h q d ws x stay bar b
local_done_move h q d ws x _ b = None
