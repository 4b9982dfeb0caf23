-- What a sign does in the slots of a block, on lists. Plumbing of the reader: no clause of self_reader's public functions cites it.
use Rattle.std.specs.Prelude.{ℕ, Bool, true, false, if◌then◌else◌, Option, None, Some, option_and_then, List, [], ◌∷◌}
use Rattle.self_grammar.specs.declared.signs.Spot.{Spot}
use Rattle.self_grammar.specs.declared.signs.Role.{Role}
use Rattle.self_grammar.specs.declared.signs.Role.TheVariants.{Equals, Arrow, Star, Other}
use Rattle.self_grammar.specs.declared.signs.Symbol.{Symbol}
use Rattle.self_grammar.specs.declared.signs.Symbol.TheVariants as sign
use Rattle.self_grammar.specs.declared.pieces.SlotForm.TheVariants as form
use Rattle.self_grammar.specs.declared.pieces.Item.{Item}
use Rattle.self_grammar.specs.declared.pieces.Item.TheVariants as items
use Rattle.self_grammar.specs.Counts.{Limits, Context, quiet, saying}
use Rattle.self_grammar.specs.Scopes.{Scope, with_argument}
use Rattle.reader_states.specs.declared.frames.Label.{Label}
use Rattle.reader_states.specs.declared.frames.Frame.{Frame}
use Rattle.reader_states.specs.declared.frames.Frame.TheVariants as f
use Rattle.reader_states.specs.declared.frames.At.TheVariants as at
use Rattle.reader_states.specs.declared.frames.AtCode.TheVariants as code
use Rattle.reader_states.specs.declared.frames.AtLocal.TheVariants as local
use Rattle.reader_states.specs.declared.frames.Body.{Body}
use Rattle.reader_states.specs.declared.frames.Body.TheVariants as body
use Rattle.reader_states.specs.declared.frames.Expression.TheVariants as expression
use Rattle.reader_states.specs.Turns.{Turn, listed, simply, placed, told, with_name, name_event, if_free, label, slot_item, with_setter, argument_event, setter_again, body_on, locals_on}

-- The slots get a name, or an argument.
abbrev pub named_in : Limits → ℕ → ℕ → Spot → Scope → List Frame → Context → Option Turn
named_in l n s b t fs c = simply c (name_event l t n b) (at.Local (local.Named (label n s b))) (f.Locals (with_name l n b t) ∷ fs)

abbrev pub named_at : Limits → ℕ → ℕ → Spot → List Frame → Context → Option Turn
named_at l n s b fs c = option_and_then (λ w. named_in l n s b w.0 w.1 c) (locals_on fs)

abbrev pub argument_among : Limits → ℕ → Spot → Scope → List Frame → Context → Option Turn
argument_among l n b t fs c = simply c (argument_event l t (items.Argument n) n b) (at.Local (local.Done None false)) (f.Locals (with_argument (n ∷ []) t) ∷ fs)

abbrev pub argument_at : Limits → ℕ → Spot → List Frame → Context → Option Turn
argument_at l n b fs c = option_and_then (λ w. argument_among l n b w.0 w.1 c) (locals_on fs)

-- The bar behind them: the code of the block begins.
abbrev pub barred : Body → List Frame → Context → Option Turn
barred (body.Block false) fs c = simply c quiet (at.Code code.Wanting) (f.Expression (expression.Statement false) ∷ f.Body (body.Block true) ∷ fs)
barred _ fs c = None

abbrev pub code_begins : List Frame → Context → Option Turn
code_begins fs c = option_and_then (λ w. barred w.0 w.1 c) (body_on fs)

abbrev pub closed : List Frame → Context → Option Turn
closed fs c = option_and_then (λ w. code_begins w.1 c) (locals_on fs)

-- where a slot is wanted
abbrev pub local_turn : Limits → List Frame → Context → Symbol → Spot → Option Turn
local_turn l fs c (sign.Name n s r) b = if_free r (named_at l n s b fs c)
local_turn l fs c (sign.Argument n s r) b = if_free r (argument_at l n b fs c)
local_turn l fs c sign.Bar b = closed fs c
local_turn l fs c _ b = None

-- A slot ends, with its item.
abbrev pub done_turn : Option Item → List Frame → Context → Symbol → Option Turn
done_turn i fs c sign.Period = simply (placed (listed i) c) quiet (at.Local local.Slot) fs
done_turn i fs c sign.Bar = closed fs (placed (listed i) c)
done_turn i fs c _ = None

-- behind a name
abbrev pub arrow_in : Label → Scope → List Frame → Context → Option Turn
arrow_in w t fs c = simply c (record quiet { broken = setter_again w t }) (at.Local (local.Arrow w)) (f.Locals (with_setter w t) ∷ fs)

abbrev pub arrow_turn : Label → List Frame → Context → Option Turn
arrow_turn w fs c = option_and_then (λ y. arrow_in w y.0 y.1 c) (locals_on fs)

abbrev pub role_turn : Label → Role → List Frame → Context → Option Turn
role_turn w Equals fs c = simply c quiet (at.Local (local.Equals w)) fs
role_turn w Arrow fs c = arrow_turn w fs c
role_turn w Star fs c = None
role_turn w Other fs c = None

abbrev pub bare_in : Label → Scope → List Frame → Context → Symbol → Option Turn
bare_in w t fs c x = done_turn (Some (slot_item w (form.Bare w.setter))) (f.Locals (with_setter w t) ∷ fs) (told (setter_again w t) c) x

abbrev pub bare_turn : Label → List Frame → Context → Symbol → Option Turn
bare_turn w fs c x = option_and_then (λ y. bare_in w y.0 y.1 c x) (locals_on fs)

abbrev pub local_named_turn : Label → List Frame → Context → Symbol → Option Turn
local_named_turn w fs c (sign.Operator n r) = role_turn w r fs c
local_named_turn w fs c sign.Period = bare_turn w fs c sign.Period
local_named_turn w fs c sign.Bar = bare_turn w fs c sign.Bar
local_named_turn w fs c _ = None

-- where the contents of a slot are wanted, which ends with this item
abbrev pub contents_turn : Item → List Frame → Context → Symbol → Spot → Option Turn
contents_turn i fs c (sign.Integer z) b = simply c (saying (items.Integer z)) (at.Local (local.Done (Some i) false)) fs
contents_turn i fs c (sign.Text s e) b = simply c (saying (items.Text s e)) (at.Local (local.Done (Some i) false)) fs
contents_turn i fs c (sign.Name n s r) b = simply c (saying (items.Root n b)) (at.Local (local.Done (Some i) true)) fs
contents_turn i fs c _ b = None

abbrev pub local_equals_turn : Label → List Frame → Context → Symbol → Spot → Option Turn
local_equals_turn w fs c x b = contents_turn (slot_item w form.Constant) fs c x b

abbrev pub local_arrow_turn : Label → List Frame → Context → Symbol → Spot → Option Turn
local_arrow_turn w fs c x b = contents_turn (slot_item w (form.Assignable w.setter)) fs c x b

-- behind a slot: a path may go on
abbrev pub local_done_turn : Option Item → Bool → List Frame → Context → Symbol → Spot → Option Turn
local_done_turn i path fs c (sign.Name n s r) b = if path then simply c (saying (items.Further n b)) (at.Local (local.Done i true)) fs else None
local_done_turn i path fs c sign.Period b = done_turn i fs c sign.Period
local_done_turn i path fs c sign.Bar b = done_turn i fs c sign.Bar
local_done_turn i path fs c _ b = None
