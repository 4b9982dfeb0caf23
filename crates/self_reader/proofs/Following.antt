-- The code's turn is the grammar's move, at each place.
use Rattle.self_grammar.specs.declared.signs.Spot.{Spot}
use Rattle.self_grammar.specs.declared.signs.Symbol.{Symbol}
use Rattle.self_grammar.specs.Counts.{Limits, Context}
use Rattle.self_grammar.proofs.Moves as m
use Rattle.self_grammar.proofs.Reading as r
use Rattle.self_reader.specs.Turning.{turn}
use Rattle.self_reader.proofs.Shown.{shown, Follows}
use Rattle.self_reader.proofs.CodeFollows as code
use Rattle.self_reader.proofs.SlotFollows as slots
use Rattle.self_reader.proofs.LocalFollows as locals

pub follows : (l : Limits) (c : Context) (q : m.Place) (x : Symbol) (b : Spot) → Follows l c (turn l (shown l q).at (shown l q).frames c x b) (r.move l q x b)
follows l c (m.wanting h) x b = code.begin_follows l c h x b
follows l c (m.having h u) x b = code.having_follows l c h u x b
follows l c (m.delegated h d) x b = code.delegated_follows l c h d x b
follows l c (m.ended h ss q e d) x b = code.ended_follows l c h ss q e d x b
follows l c (m.behind h f) x b = slots.behind_follows l c h f x b
follows l c (m.at_slot h) x b = slots.slot_follows l c h x b
follows l c (m.named h w) x b = slots.named_follows l c h w x b
follows l c (m.starred h w y) x b = slots.starred_follows l c h w y x b
follows l c (m.operator_named h o) x b = slots.operator_named_follows l c h o x b
follows l c (m.operator_argued h o a) x b = slots.operator_argued_follows l c h o a x b
follows l c (m.keyword_named h n) x b = slots.keyword_named_follows l c h n x b
follows l c (m.keyword_argued h n) x b = slots.keyword_argued_follows l c h n x b
follows l c (m.keyword_wanting h n q) x b = slots.keyword_wanting_follows l c h n q x b
follows l c (m.holding h) x b = slots.holding_follows l c h x b
follows l c (m.data_wanted h) x b = slots.data_wanted_follows l c h x b
follows l c (m.opened h q) x b = slots.opened_follows l c h q x b
follows l c (m.data_opened h q) x b = slots.data_opened_follows l c h q x b
follows l c (m.shut h q d sl d2) x b = slots.shut_follows l c h q d sl d2 x b
follows l c (m.data_shut h q d sl d2) x b = slots.data_shut_follows l c h q d sl d2 x b
follows l c (m.member_done h f) x b = slots.member_done_follows l c h f x b
follows l c (m.argument_done h w) x b = slots.argument_done_follows l c h w x b
follows l c (m.lone_stopped y e f d) x b = slots.lone_stopped_follows l c y e f d x b
follows l c (m.at_local h q d ws) x b = locals.local_follows l c h q d ws x b
follows l c (m.local_named h q d ws y) x b = locals.local_named_follows l c h q d ws y x b
follows l c (m.local_equals h q d ws y e) x b = locals.local_equals_follows l c h q d ws y e x b
follows l c (m.local_arrow h q d ws y a) x b = locals.local_arrow_follows l c h q d ws y a x b
follows l c (m.local_done h q d ws y) x b = locals.local_done_follows l c h q d ws y x b
follows l c (m.finished t) x b = tt
