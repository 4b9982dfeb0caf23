use Rattle.std.specs.Prelude.{List}
use Rattle.std.proofs.Common.{subst, Vec, Global}
use Rattle.self_grammar.specs.declared.pieces.Item.{Item}
use Rattle.self_grammar.specs.Grammar.{Edit}
use Rattle.self_grammar.specs.Spelling.{edit, items_of}
use Rattle.self_reader.specs.Reading.{all_said, Answers, before_edit}
use Rattle.self_reader.proofs.Answered.{edit_found, edit_only, edit_stops, is_found, is_only, is_refused}
use Rattle.self_reader.proofs.reading.read_edit_signs.Goals as goal
use Rattle.self_reader.proofs.reading.read_edit_signs.Goals.{After-read_signs}

abbrev view : Vec Item Global → List Item
view v = v.items

answer : (c : After-read_signs) → Answers view c.read_signs.result (all_said c.args.limits before_edit c.args.signs.now)
answer c = subst (λ r. Answers view c.read_signs.result (all_said c.args.limits r c.args.signs.now)) c.in-Ok.ensures c.read_signs.ensures

pub returns-clause-found : goal.returns-clause-found
returns-clause-found c = is_found view Edit (edit c.args.limits) c.args.signs.now c.read_signs.result (all_said c.args.limits before_edit c.args.signs.now) (answer c) (edit_found c.args.limits c.args.signs.now c.requires)

pub returns-clause-only : goal.returns-clause-only
returns-clause-only c x t = is_only view c.read_signs.result (all_said c.args.limits before_edit c.args.signs.now) (items_of (edit c.args.limits x)) (answer c) (edit_only c.args.limits c.args.signs.now x t)

pub returns-clause-refused : goal.returns-clause-refused
returns-clause-refused c = is_refused view Edit (edit c.args.limits) c.args.signs.now c.read_signs.result (all_said c.args.limits before_edit c.args.signs.now) (answer c) (edit_stops c.args.limits c.args.signs.now)
