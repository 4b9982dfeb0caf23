-- How a sign moves a place in a list of slots on.
use Rattle.std.specs.Prelude.{ℕ, ◌==◌, not, Bool, Option, None, Some, [], ◌∷◌, ◌++◌}
use Rattle.self_grammar.specs.declared.signs.Spot.{Spot}
use Rattle.self_grammar.specs.declared.signs.Reserved.{Reserved}
use Rattle.self_grammar.specs.declared.signs.Reserved.TheVariants.{Free, Itself, Resend}
use Rattle.self_grammar.specs.declared.signs.Role.{Role}
use Rattle.self_grammar.specs.declared.signs.Role.TheVariants.{Equals, Arrow, Star, Other}
use Rattle.self_grammar.specs.declared.signs.Symbol.{Symbol}
use Rattle.self_grammar.specs.declared.signs.Symbol.TheVariants as sign
use Rattle.self_grammar.specs.declared.signs.ReadKind.TheVariants as kind
use Rattle.self_grammar.specs.declared.pieces.Item.{Item}
use Rattle.self_grammar.specs.declared.pieces.Item.TheVariants as items
use Rattle.self_grammar.specs.Parts.{parts_in}
use Rattle.self_grammar.specs.Grammar as g
use Rattle.self_grammar.specs.Counts.{Limits, Context, Event, quiet, closing, saying, here, when}
use Rattle.self_grammar.specs.Scopes.{Scope, scope, holder, either, activation, again, too_many_arguments, too_many_locals}
use Rattle.self_grammar.specs.Spelling as s
use Rattle.self_grammar.proofs.Settled.{name_scope, keyword_scope, head_inner, slot_scope, slots_scope}
use Rattle.self_grammar.proofs.Places.{Lists, in_world, in_bars, in_object, Start, listed, lone, Contents, undecided, coded, DataHole, assigned, parental, in_method, in_slotted, statement, alone, world, edit, scope_of, start_scope, named_of}
use Rattle.self_grammar.proofs.Moves.{Place, at_slot, named, starred, operator_named, operator_argued, keyword_named, keyword_argued, keyword_wanting, holding, data_wanted, opened, data_opened, shut, data_shut, member_done, argument_done, lone_stopped, finished, Move, simply, stay, enter, tell, place, begin_move, word, label, any}

-- what names count and break, in this scope
abbrev pub name_event : Limits → Scope → g.Label → Event
name_event l t w = record quiet { counted = w.spot ∷ []; broken = too_many_locals l t ++ again t (w.name ∷ []) w.spot }

abbrev pub argument_event : Limits → Scope → g.Label → Event
argument_event l t w = record quiet { says = items.Argument w.name ∷ []; counted = w.spot ∷ []; broken = too_many_arguments l t.arguments ++ again t (w.name ∷ []) w.spot }

abbrev pub head_argument_event : Limits → Scope → g.Label → Event
head_argument_event l t w = record quiet { says = items.Named w.name ∷ []; counted = w.spot ∷ []; broken = too_many_arguments l t.arguments ++ again t (w.name ∷ []) w.spot }

abbrev pub operator_event : Limits → Scope → g.AnyOperator → Event
operator_event l t o = record quiet { counted = o.word.spot ∷ []; broken = too_many_locals l t ++ again t (o.word.name ∷ []) o.word.spot }

abbrev pub keyword_event : Limits → Scope → g.Word → Event
keyword_event l t w = record quiet { counted = w.spot ∷ []; broken = too_many_locals l t }

abbrev pub part_event : Limits → ℕ → Event
part_event l n = record quiet { broken = too_many_arguments l n }

abbrev pub operator_of : ℕ → Role → Spot → g.AnyOperator
operator_of n r b = record { word = word n b; role = r }

abbrev pub part_of : ℕ → Bool → Spot → g.Part
part_of n y b = record { word = word n b; handles = y }

abbrev pub if_free : Reserved → Option Move → Option Move
if_free Free m = m
if_free Itself m = None
if_free Resend m = None

-- what ends a slot
pub data After : Type 0 where
  period : After
  bar : After
  end : After

abbrev pub after_symbol : After → Symbol
after_symbol period = sign.Period
after_symbol bar = sign.Bar
after_symbol end = sign.End

-- a slot ends
abbrev pub done_move : Limits → Lists → g.Slot → (Context → Context) → After → Spot → Option Move
done_move l (in_world ms) (g.member m) pre period b =
    Some (record { pre = λ c. place (s.member_items m) (pre c); event = quiet; post = stay; to = at_slot (listed (in_world (g.more_members ms m b))) })
done_move l (in_world ms) (g.member m) pre bar b = None
done_move l (in_world ms) (g.member m) pre end b =
    Some (record { pre = λ c. place (s.member_items m) (pre c); event = quiet; post = stay; to = finished (world (g.world_last ms m b)) })
done_move l (in_world ms) (g.argument w) pre x b = None
done_move l (in_bars h q d ss) y pre period b =
    Some (record { pre = λ c. place (s.slot_items y) (pre c); event = quiet; post = stay; to = at_slot (listed (in_bars h q d (g.more_slots ss y b))) })
done_move l (in_bars h q d ss) y pre bar b =
    Some (record { pre = λ c. place (s.slot_items y) (pre c); event = record quiet { broken = s.at_bar (named_of l h) (slot_scope l y (scope_of l (in_bars h q d ss))) }; post = stay; to = shut h q d (g.slots_last ss y) b })
done_move l (in_bars h q d ss) y pre end b = None
done_move l (in_object h q d ss) y pre period b =
    Some (record { pre = λ c. place (s.slot_items y) (pre c); event = quiet; post = stay; to = at_slot (listed (in_object h q d (g.more_slots ss y b))) })
done_move l (in_object h q d ss) y pre bar b =
    Some (record { pre = λ c. place (s.slot_items y) (pre c); event = quiet; post = stay; to = data_shut h q d (g.slots_last ss y) b })
done_move l (in_object h q d ss) y pre end b = None

-- a list ends behind a period, or is empty
abbrev pub list_end : Limits → Start → After → Spot → Option Move
list_end l (listed (in_world ms)) period b = None
list_end l (listed (in_world ms)) bar b = None
list_end l (listed (in_world ms)) end b = simply quiet (finished (world (g.world_ended ms b)))
list_end l (listed (in_bars h q d ss)) period b = None
list_end l (listed (in_bars h q d ss)) bar b =
    simply (record quiet { broken = s.at_bar (named_of l h) (scope_of l (in_bars h q d ss)) }) (shut h q d (g.slots_ended ss) b)
list_end l (listed (in_bars h q d ss)) end b = None
list_end l (listed (in_object h q d ss)) period b = None
list_end l (listed (in_object h q d ss)) bar b = simply quiet (data_shut h q d (g.slots_ended ss) b)
list_end l (listed (in_object h q d ss)) end b = None
list_end l lone x b = None

-- where a slot is wanted
abbrev pub argument_move : Limits → Start → g.Label → Option Move
argument_move l (listed (in_world ms)) w = None
argument_move l (listed (in_bars h q d ss)) w = simply (argument_event l (scope_of l (in_bars h q d ss)) w) (argument_done (in_bars h q d ss) w)
argument_move l (listed (in_object h q d ss)) w = simply (argument_event l (scope_of l (in_object h q d ss)) w) (argument_done (in_object h q d ss) w)
argument_move l lone w = None

abbrev pub slot_move : Limits → Start → Symbol → Spot → Option Move
slot_move l h (sign.Name n t r) b = if_free r (simply (name_event l (start_scope l h) (label n t b)) (named h (label n t b)))
slot_move l h (sign.Argument n t r) b = if_free r (argument_move l h (label n t b))
slot_move l h (sign.Operator n r) b = simply (operator_event l (start_scope l h) (operator_of n r b)) (operator_named h (operator_of n r b))
slot_move l h (sign.Keyword n) b = simply (keyword_event l (start_scope l h) (word n b)) (keyword_named h (g.keyword_first (word n b)))
slot_move l h sign.Bar b = list_end l h bar b
slot_move l h sign.End b = list_end l h end b
slot_move l h _ b = None

-- behind a name
abbrev pub named_role : Limits → Start → g.Label → g.Word → Role → Option Move
named_role l (listed h) w e Equals = simply quiet (holding (undecided h w e))
named_role l (listed h) w e Arrow = simply (record quiet { broken = again (name_scope l w (scope_of l h)) (w.setter ∷ []) w.spot }) (data_wanted (assigned h w e))
named_role l (listed h) w e Star = simply quiet (starred h w e)
named_role l (listed h) w e Other = None
named_role l lone w e Equals = simply quiet (holding (coded lone (g.unary_head w) e))
named_role l lone w e Arrow = None
named_role l lone w e Star = None
named_role l lone w e Other = None

abbrev pub bare_move : Limits → Start → g.Label → After → Spot → Option Move
bare_move l (listed h) w x b = done_move l h (g.member (g.bare w)) (tell (again (name_scope l w (scope_of l h)) (w.setter ∷ []) w.spot)) x b
bare_move l lone w x b = None

abbrev pub named_move : Limits → Start → g.Label → Symbol → Spot → Option Move
named_move l h w (sign.Operator n r) b = named_role l h w (word n b) r
named_move l h w sign.Period b = bare_move l h w period b
named_move l h w sign.Bar b = bare_move l h w bar b
named_move l h w sign.End b = bare_move l h w end b
named_move l h w _ b = None

-- at the '=' of what can have nothing else
abbrev pub at_equals : Role → Option Move → Option Move
at_equals Equals m = m
at_equals Arrow m = None
at_equals Star m = None
at_equals Other m = None

abbrev pub starred_move : Lists → g.Label → g.Word → Symbol → Spot → Option Move
starred_move h w x (sign.Operator n r) b = at_equals r (simply quiet (data_wanted (parental h w x (word n b))))
starred_move h w x _ b = None

abbrev pub operator_named_move : Limits → Start → g.AnyOperator → Symbol → Spot → Option Move
operator_named_move l h o (sign.Name n t r) b = if_free r (simply (head_argument_event l (scope activation) (label n t b)) (operator_argued h o (label n t b)))
operator_named_move l h o (sign.Operator n r) b = at_equals r (simply quiet (holding (coded h (g.operator o) (word n b))))
operator_named_move l h o _ b = None

abbrev pub operator_argued_move : Start → g.AnyOperator → g.Label → Symbol → Spot → Option Move
operator_argued_move h o a (sign.Operator n r) b = at_equals r (simply quiet (holding (coded h (g.operator_with o a) (word n b))))
operator_argued_move h o a _ b = None

abbrev pub first_argument : Limits → Start → g.KeywordName → g.Label → Option Move
first_argument l h (g.keyword_first w) a = simply (head_argument_event l (scope activation) a) (keyword_argued h (g.head_first w a))
first_argument l h (g.keyword_next n q) a = None

-- what is broken at the '=' of a keyword slot
abbrev pub keyword_broken : Limits → Start → g.KeywordName → Event
keyword_broken l h n = record quiet { broken = again (keyword_scope l n (start_scope l h)) (parts_in (s.words n)) (s.first_word n) }

abbrev pub keyword_named_move : Limits → Start → g.KeywordName → Symbol → Spot → Option Move
keyword_named_move l h n (sign.Name m t r) b = if_free r (first_argument l h n (label m t b))
keyword_named_move l h n (sign.CapitalKeyword m y) b = simply (part_event l (s.count n)) (keyword_named h (g.keyword_next n (part_of m y b)))
keyword_named_move l h n (sign.Operator m r) b = at_equals r (simply (keyword_broken l h n) (holding (coded h (g.keyword n) (word m b))))
keyword_named_move l h n _ b = None

abbrev pub keyword_argued_move : Limits → Start → g.KeywordHead → Symbol → Spot → Option Move
keyword_argued_move l h n (sign.CapitalKeyword m y) b = simply (part_event l (s.count (s.head_name n))) (keyword_wanting h n (part_of m y b))
keyword_argued_move l h n (sign.Operator m r) b = at_equals r (simply (keyword_broken l h (s.head_name n)) (holding (coded h (g.keyword_with n) (word m b))))
keyword_argued_move l h n _ b = None

abbrev pub keyword_wanting_move : Limits → Start → g.KeywordHead → g.Part → Symbol → Spot → Option Move
keyword_wanting_move l h n q (sign.Name m t r) b = if_free r (simply (head_argument_event l (head_inner n) (label m t b)) (keyword_argued h (g.head_next n q (label m t b))))
keyword_wanting_move l h n q _ b = None

-- where contents are wanted
abbrev pub simple_move : Contents → g.Simple → Item → Option Move
simple_move (undecided h w e) d i = simply (saying i) (member_done h (g.constant w e (g.simple d)))
simple_move (coded h x e) d i = None

abbrev pub holding_move : Limits → Contents → Symbol → Spot → Option Move
holding_move l h (sign.Integer z) b = simple_move h (g.integer z b) (items.Integer z)
holding_move l h (sign.Text i j) b = simple_move h (g.string (record { start = i; end = j; spot = b })) (items.Text i j)
holding_move l h (sign.Name n t r) b = simple_move h (g.path (g.named (any n t r b))) (items.Root n b)
holding_move l h sign.OpenParen b = simply (record (s.opening_item b) { next = s.wants_bar (named_of l h) }) (opened h b)
holding_move l h _ b = None

-- the place behind what is no method
abbrev pub datum_done : DataHole → g.Datum → Place
datum_done (assigned h w a) d = member_done h (g.assignable w a d)
datum_done (parental h w x e) d = member_done h (g.parent w x e d)

abbrev pub data_wanted_move : DataHole → Symbol → Spot → Option Move
data_wanted_move h (sign.Integer z) b = simply (saying (items.Integer z)) (datum_done h (g.simple (g.integer z b)))
data_wanted_move h (sign.Text i j) b = simply (saying (items.Text i j)) (datum_done h (g.simple (g.string (record { start = i; end = j; spot = b }))))
data_wanted_move h (sign.Name n t r) b = simply (saying (items.Root n b)) (datum_done h (g.simple (g.path (g.named (any n t r b)))))
data_wanted_move h sign.OpenParen b = simply (s.opening_item b) (data_opened h b)
data_wanted_move h _ b = None

-- behind a parenthesis
abbrev pub behind_pre : (Context → Context) → Option Move → Option Move
behind_pre f None = None
behind_pre f (Some m) = Some (record m { pre = λ c. m.pre (f c) })

abbrev pub empty_object_end : Spot → Event
empty_object_end q = record closing { says = items.ClosedObject ∷ []; counted = q ∷ [] }

abbrev pub empty_object_move : Contents → Spot → Spot → Option Move
empty_object_move (undecided h w e) q b = simply (empty_object_end q) (member_done h (g.constant w e (g.object (g.empty_object q b))))
empty_object_move (coded h x e) q b = None

abbrev pub code_begins : Contents → Spot → Symbol → Spot → Option Move
code_begins h q x b = behind_pre enter (begin_move (alone (statement (in_method h q) g.none)) x b)

abbrev pub opened_move : Contents → Spot → Symbol → Spot → Option Move
opened_move h q sign.Bar b = simply quiet (at_slot (listed (in_bars h q b g.no_slots)))
opened_move h q sign.CloseParen b = empty_object_move h q b
opened_move h q x b = code_begins h q x b

abbrev pub data_opened_move : DataHole → Spot → Symbol → Spot → Option Move
data_opened_move h q sign.Bar b = simply quiet (at_slot (listed (in_object h q b g.no_slots)))
data_opened_move h q sign.CloseParen b = simply (empty_object_end q) (datum_done h (g.object (g.empty_object q b)))
data_opened_move h q _ b = None

-- behind the bars
abbrev pub object_end : Spot → Scope → Event
object_end q t = record closing { says = items.ClosedObject ∷ []; counted = q ∷ []; broken = when (not (t.arguments == 0)) (here kind.BadSyntax) }

abbrev pub object_move : Limits → Contents → Spot → Spot → g.Slots → Spot → Spot → Option Move
object_move l (undecided h w e) q d sl d2 b = simply (object_end q (slots_scope l sl (scope either))) (member_done h (g.constant w e (g.object (g.slotted_object q d sl d2 b))))
object_move l (coded h x e) q d sl d2 b = None

abbrev pub barred_pre : Limits → Contents → g.Slots → Context → Context
barred_pre l h sl c = tell (s.at_code (named_of l h) (slots_scope l sl (named_of l h).inner)) (enter c)

abbrev pub shut_move : Limits → Contents → Spot → Spot → g.Slots → Spot → Symbol → Spot → Option Move
shut_move l h q d sl d2 sign.CloseParen b = object_move l h q d sl d2 b
shut_move l h q d sl d2 x b = behind_pre (barred_pre l h sl) (begin_move (alone (statement (in_slotted h q d sl d2) g.none)) x b)

abbrev pub data_shut_move : Limits → DataHole → Spot → Spot → g.Slots → Spot → Symbol → Spot → Option Move
data_shut_move l h q d sl d2 sign.CloseParen b = simply (object_end q (slots_scope l sl (scope holder))) (datum_done h (g.object (g.slotted_object q d sl d2 b)))
data_shut_move l h q d sl d2 _ b = None

-- behind a slot: a path may go on
abbrev pub longer_datum : g.Datum → g.AnyName → Option g.Datum
longer_datum (g.object x) w = None
longer_datum (g.simple (g.integer z p)) w = None
longer_datum (g.simple (g.string t)) w = None
longer_datum (g.simple (g.path q)) w = Some (g.simple (g.path (g.under q w)))

abbrev pub longer : (g.Datum → g.Member) → Lists → g.AnyName → Option g.Datum → Option Move
longer f h w None = None
longer f h w (Some d) = simply (saying (items.Further w.label.name w.label.spot)) (member_done h (f d))

abbrev pub path_move : Lists → g.Member → g.AnyName → Option Move
path_move h (g.constant w e d) y = longer (g.constant w e) h y (longer_datum d y)
path_move h (g.assignable w a d) y = longer (g.assignable w a) h y (longer_datum d y)
path_move h (g.bare w) y = None
path_move h (g.parent w x e d) y = longer (g.parent w x e) h y (longer_datum d y)
path_move h (g.coded m) y = None

abbrev pub member_done_move : Limits → Lists → g.Member → Symbol → Spot → Option Move
member_done_move l h m (sign.Name n t r) b = path_move h m (any n t r b)
member_done_move l h m sign.Period b = done_move l h (g.member m) stay period b
member_done_move l h m sign.Bar b = done_move l h (g.member m) stay bar b
member_done_move l h m sign.End b = done_move l h (g.member m) stay end b
member_done_move l h m _ b = None

abbrev pub argument_done_move : Limits → Lists → g.Label → Symbol → Spot → Option Move
argument_done_move l h w sign.Period b = done_move l h (g.argument w) stay period b
argument_done_move l h w sign.Bar b = done_move l h (g.argument w) stay bar b
argument_done_move l h w sign.End b = done_move l h (g.argument w) stay end b
argument_done_move l h w _ b = None

-- behind a method
abbrev pub method_done : Limits → Contents → g.Method → After → Spot → Option Move
method_done l (undecided h w e) m x b = done_move l h (g.member (g.coded (g.method (g.unary_head w) e m))) stay x b
method_done l (coded (listed h) y e) m x b = done_move l h (g.member (g.coded (g.method y e m))) stay x b
method_done l (coded lone y e) m period b =
    Some (record { pre = place (s.method_items (g.method y e m)); event = quiet; post = stay; to = lone_stopped y e m b })
method_done l (coded lone y e) m bar b = None
method_done l (coded lone y e) m end b =
    Some (record { pre = place (s.method_items (g.method y e m)); event = quiet; post = stay; to = finished (edit (g.edit (g.method y e m) None b)) })

abbrev pub behind_move : Limits → Contents → g.Method → Symbol → Spot → Option Move
behind_move l h m sign.Period b = method_done l h m period b
behind_move l h m sign.Bar b = method_done l h m bar b
behind_move l h m sign.End b = method_done l h m end b
behind_move l h m _ b = None

abbrev pub lone_stopped_move : g.Head → g.Word → g.Method → Spot → Symbol → Spot → Option Move
lone_stopped_move y e m d sign.End b = simply quiet (finished (edit (g.edit (g.method y e m) (Some d) b)))
lone_stopped_move y e m d _ b = None
