-- What a node of a unit names is there; and what holds of bodies and maps stays so, whatever the machine.
use Rattle.std.proofs.Common.{◌≡◌, ℕ, subst}
use Rattle.std.specs.Prelude.{List, Some, slice_get}
use Rattle.std.proofs.lemmas.Option.{slice_get_within, get_or_from_slice_get}
use Rattle.self_terms.specs.declared.nodes.Node.{Node}
use Rattle.self_terms.specs.declared.nodes.Node.TheVariants as nodes
use Rattle.self_terms.specs.declared.bodies.Body.{Body}
use Rattle.sparc_machine.specs.State.{MachineState}
use Rattle.source_model.specs.Soundness.{body_in, IsFit, Names}
use Rattle.plain_runs.specs.Host.{Host}
use Rattle.plain_runs.specs.Course.{with_machine}
use Rattle.plain_steps.specs.Paying.{HasMaps}

pub named_there : (bodies : List Body) (b n : ℕ) (node : Node) → IsFit bodies b → slice_get (body_in bodies b).nodes n ≡ Some node → Names bodies b node
named_there bodies b n node fit is =
    let list = (body_in bodies b).nodes in
    let P : Node → Type 0 = Names bodies b in
    subst P (get_or_from_slice_get list n node nodes.End is) (fit.names n (slice_get_within list n node is))

pub maps_on : (h : Host) (m : MachineState) → HasMaps h → HasMaps (with_machine h m)
maps_on h m x = record { few = x.few; bodies = x.bodies; contexts = x.contexts; blocks = x.blocks }
