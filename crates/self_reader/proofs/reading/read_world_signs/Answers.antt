use Rattle.std.specs.Prelude.{List}
use Rattle.std.proofs.Common.{subst, Vec, Global}
use Rattle.self_grammar.specs.declared.pieces.Item.{Item}
use Rattle.self_grammar.specs.Grammar.{World}
use Rattle.self_grammar.specs.Spelling.{world, items_of}
use Rattle.self_reader.specs.Reading.{all_said, Answers, before_world}
use Rattle.self_reader.proofs.Answered.{world_found, world_only, world_stops, is_found, is_only, is_refused}
use Rattle.self_reader.proofs.reading.read_world_signs.Goals as goal
use Rattle.self_reader.proofs.reading.read_world_signs.Goals.{After-read_signs}

abbrev view : Vec Item Global → List Item
view v = v.items

answer : (c : After-read_signs) → Answers view c.read_signs.result (all_said c.args.limits before_world c.args.signs.now)
answer c = subst (λ r. Answers view c.read_signs.result (all_said c.args.limits r c.args.signs.now)) c.in-Ok.ensures c.read_signs.ensures

pub returns-clause-found : goal.returns-clause-found
returns-clause-found c = is_found view World (world c.args.limits) c.args.signs.now c.read_signs.result (all_said c.args.limits before_world c.args.signs.now) (answer c) (world_found c.args.limits c.args.signs.now c.requires)

pub returns-clause-only : goal.returns-clause-only
returns-clause-only c x t = is_only view c.read_signs.result (all_said c.args.limits before_world c.args.signs.now) (items_of (world c.args.limits x)) (answer c) (world_only c.args.limits c.args.signs.now x t)

pub returns-clause-refused : goal.returns-clause-refused
returns-clause-refused c = is_refused view World (world c.args.limits) c.args.signs.now c.read_signs.result (all_said c.args.limits before_world c.args.signs.now) (answer c) (world_stops c.args.limits c.args.signs.now)
