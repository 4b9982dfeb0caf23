-- What a sign does, by where it stands. Used by contracts of private functions alone: no public clause cites it.
use Rattle.std.specs.Prelude.{Option, None, List}
use Rattle.self_grammar.specs.declared.signs.Spot.{Spot}
use Rattle.self_grammar.specs.declared.signs.Symbol.{Symbol}
use Rattle.self_grammar.specs.Counts.{Limits, Context}
use Rattle.self_grammar.specs.Scopes.{Scope}
use Rattle.reader_states.specs.declared.frames.At.{At}
use Rattle.reader_states.specs.declared.frames.At.TheVariants as at
use Rattle.reader_states.specs.declared.frames.AtArgument.{AtArgument}
use Rattle.reader_states.specs.declared.frames.AtArgument.TheVariants as argued
use Rattle.reader_states.specs.declared.frames.AtCode.{AtCode}
use Rattle.reader_states.specs.declared.frames.AtCode.TheVariants as code
use Rattle.reader_states.specs.declared.frames.AtContents.{AtContents}
use Rattle.reader_states.specs.declared.frames.AtContents.TheVariants as contents
use Rattle.reader_states.specs.declared.frames.AtData.{AtData}
use Rattle.reader_states.specs.declared.frames.AtData.TheVariants as data_at
use Rattle.reader_states.specs.declared.frames.AtEnd.{AtEnd}
use Rattle.reader_states.specs.declared.frames.AtEnd.TheVariants as end
use Rattle.reader_states.specs.declared.frames.AtLocal.{AtLocal}
use Rattle.reader_states.specs.declared.frames.AtLocal.TheVariants as local
use Rattle.reader_states.specs.declared.frames.AtName.{AtName}
use Rattle.reader_states.specs.declared.frames.AtName.TheVariants as name
use Rattle.reader_states.specs.declared.frames.Frame.{Frame}
use Rattle.reader_states.specs.Turns.{Turn}
use Rattle.code_reader.specs.CodeTurns.{begun, gone_on, behind_delegate, ended_turn}
use Rattle.slot_reader.specs.SlotTurns as s
use Rattle.contents_reader.specs.ContentTurns as held
use Rattle.contents_reader.specs.LocalTurns as w

-- in code
abbrev pub turn_in_code : Limits → AtCode → List Frame → Context → Symbol → Spot → Option Turn
turn_in_code l code.Wanting fs c x b = begun fs c x b
turn_in_code l code.Having fs c x b = gone_on l fs c x b
turn_in_code l (code.Delegated to p) fs c x b = behind_delegate to p fs c x b
turn_in_code l code.Ended fs c x b = ended_turn fs c x b

-- in the name of a slot
abbrev pub turn_in_name : Limits → AtName → List Frame → Context → Symbol → Spot → Option Turn
turn_in_name l name.Slot fs c x b = s.slot_turn l fs c x b
turn_in_name l (name.Named w) fs c x b = s.named_turn w fs c x b
turn_in_name l (name.Starred w) fs c x b = s.starred_turn w fs c x b
turn_in_name l (name.Operator n p) fs c x b = s.operator_named_turn l n p fs c x b
turn_in_name l (name.Keyword h) fs c x b = s.keyword_named_turn l h fs c x b

-- in the name of a slot that has arguments
abbrev pub turn_in_arguments : Limits → AtArgument → Scope → List Frame → Context → Symbol → Spot → Option Turn
turn_in_arguments l (argued.Operator n p) i fs c x b = s.operator_argued_turn n p i fs c x b
turn_in_arguments l (argued.Keyword h) i fs c x b = s.keyword_argued_turn l h i fs c x b
turn_in_arguments l (argued.Wanting h) i fs c x b = s.keyword_wanting_turn l h i fs c x b

-- in the contents of a slot
abbrev pub turn_in_contents : AtContents → Scope → List Frame → Context → Symbol → Spot → Option Turn
turn_in_contents contents.Wanted i fs c x b = held.holding_turn i fs c x b
turn_in_contents (contents.Opened q) i fs c x b = held.opened_turn q i fs c x b
turn_in_contents (contents.Shut q) i fs c x b = held.shut_turn q i fs c x b
turn_in_contents (contents.DataShut q) i fs c x b = held.data_shut_turn q i fs c x b

-- in contents that are no method
abbrev pub turn_in_data : AtData → List Frame → Context → Symbol → Spot → Option Turn
turn_in_data data_at.Wanted fs c x b = held.data_wanted_turn fs c x b
turn_in_data (data_at.Opened q) fs c x b = held.data_opened_turn q fs c x b

-- behind a slot
abbrev pub turn_behind : AtEnd → List Frame → Context → Symbol → Spot → Option Turn
turn_behind end.Method fs c x b = s.behind_turn fs c x
turn_behind (end.Member i p) fs c x b = s.member_done_turn i p fs c x b
turn_behind end.Argument fs c x b = s.argument_done_turn fs c x
turn_behind end.Edit fs c x b = s.lone_stopped_turn fs c x

-- in the slots of a block
abbrev pub turn_in_block : Limits → AtLocal → List Frame → Context → Symbol → Spot → Option Turn
turn_in_block l local.Slot fs c x b = w.local_turn l fs c x b
turn_in_block l (local.Named y) fs c x b = w.local_named_turn y fs c x
turn_in_block l (local.Equals y) fs c x b = w.local_equals_turn y fs c x b
turn_in_block l (local.Arrow y) fs c x b = w.local_arrow_turn y fs c x b
turn_in_block l (local.Done i p) fs c x b = w.local_done_turn i p fs c x b

-- wherever it stands
abbrev pub turn : Limits → At → List Frame → Context → Symbol → Spot → Option Turn
turn l (at.Code a) fs c x b = turn_in_code l a fs c x b
turn l (at.Name a) fs c x b = turn_in_name l a fs c x b
turn l (at.Argued a i) fs c x b = turn_in_arguments l a i fs c x b
turn l (at.Contents a i) fs c x b = turn_in_contents a i fs c x b
turn l (at.Data a) fs c x b = turn_in_data a fs c x b
turn l (at.Behind a) fs c x b = turn_behind a fs c x b
turn l (at.Local a) fs c x b = turn_in_block l a fs c x b
turn l at.Finished fs c x b = None
