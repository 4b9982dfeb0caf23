-- What the host reads where a node has asked for a service.
use Rattle.std.specs.Prelude.{ℕ, ◌+◌, ◌-◌, ◌*◌, Option, Some, None, slice_get}
use Rattle.self_terms.specs.declared.nodes.Node.{Node}
use Rattle.self_terms.specs.declared.nodes.Place.{Place}
use Rattle.source_model.specs.Soundness.{body_in}
use Rattle.source_model.specs.Step.{place_at}
use Rattle.slot_lookup.specs.declared.sends.Found.{Found}
use Rattle.slot_lookup.specs.declared.sends.Found.TheVariants.{NotUnderstood}
use Rattle.plain_runs.specs.Host.{Host, point_at}
use Rattle.plain_runs.specs.Services.{settled}
use Rattle.plain_lookups.specs.Telling.{found_by}

-- the count of steps
abbrev pub count : Host → ℕ
count h = h.steps + h.machine.regs 2

-- The body and the number of the node in whose words the machine stands, as the word behind the trap says, where the answer is pended; that
-- node, and its place.
abbrev pub body_here : Host → ℕ
body_here h = (point_at h (h.machine.pc + 4)).body

abbrev pub number_here : Host → ℕ
number_here h = (point_at h (h.machine.pc + 4)).node

abbrev pub node_here : Host → Option Node
node_here h = slice_get (body_in h.bodies (body_here h)).nodes (number_here h)

abbrev pub place_here : Host → Place
place_here h = place_at (body_in h.bodies (body_here h)) (number_here h)

-- the place of a node that returns from a home method, as the last word of its poll says
abbrev pub place_before : Host → Place
place_before h = let p = point_at h (h.machine.pc - 8) in place_at (body_in h.bodies p.body) p.node

-- what the message of a node meets, as a lookup over memory finds it that has room for so many objects
abbrev pub found_for : ℕ → Host → Option Node → Found
found_for room h (Some node) = found_by room h node
found_for room h None = NotUnderstood

abbrev pub found_here : ℕ → Host → Found
found_here room h = found_for room h (node_here h)

-- how many bytes the trap of a message of so many arguments stands behind the node's poll
abbrev pub behind_poll : ℕ → ℕ
behind_poll args = 28 + 4 * args

-- the counts are settled, and the machine is so many bytes before
abbrev pub goes_back : ℕ → ℕ → ℕ → Host → Host
goes_back bytes goal cost h =
    let s = settled goal cost h in
    record s { machine = record s.machine { pc = h.machine.pc - bytes; npc = h.machine.pc - bytes + 4 } }

-- what is left of the plain cost
abbrev pub cost_left : Host → ℕ
cost_left h = 4194304 - (h.cost + h.machine.regs 3)
