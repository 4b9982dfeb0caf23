-- A message at a trap, whoever put it there: the words of a node that sends, or the host for a primitive that failed.
use Rattle.std.specs.Prelude.{◌≡◌, ℕ, ◌+◌, ◌≤◌, List, Option, Some}
use Rattle.self_terms.specs.declared.nodes.Node.{Node}
use Rattle.self_terms.specs.declared.values.BodyId.{BodyId}
use Rattle.self_terms.specs.declared.values.Value.{Value}
use Rattle.object_maps.specs.declared.maps.SlotKind.TheVariants.{Method as MethodSlot}
use Rattle.slot_lookup.specs.declared.sends.Found.{Found}
use Rattle.slot_lookup.specs.declared.sends.Found.TheVariants.{One}
use Rattle.source_model.specs.Messages.{Met}
use Rattle.source_model.specs.State.{State}
use Rattle.source_model.specs.Step.{place_of}
use Rattle.plain_runs.specs.Host.{Host}
use Rattle.plain_runs.specs.Sound.{RunsAt}
use Rattle.plain_runs.specs.Course.{with_machine, CanGo}
use Rattle.plain_sends.specs.Messages.{IsMessaged}
use Rattle.plain_lookups.specs.Telling.{FoundTells}
use Rattle.plain_turns.specs.Asking.{place_here}
use Rattle.plain_turns.proofs.Onward.{IsStopped}
use Rattle.plain_turns.proofs.Telling.{IsFoundMethod}

-- The machine of a host has stopped so many bytes behind its node's poll, with a message of a name and so many arguments; what was found for it tells
-- what it meets, and a method that was found takes as many.
pub record IsAsking (g : Host) (from : State) (target : ℕ) (out : List ℕ) (args name bytes : ℕ) (found : Found) : Type 0 where
  pub stop : IsStopped g from target out
  pub can : CanGo (with_machine g stop.last)
  pub few : args ≤ 5
  pub node : Node
  pub runs_at : RunsAt (with_machine g stop.last) stop.on.body stop.on.number node
  pub met : Met
  pub message : IsMessaged stop.sense (with_machine g stop.last) stop.state stop.on.body stop.on.number node args name met runs_at g.machine
  pub receiver : Option Value
  pub received : (v : Value) → receiver ≡ Some v → message.message.receiver ≡ v
  pub tells : FoundTells stop.sense (with_machine g stop.last) stop.state g.machine.memory receiver (g.machine.regs 8) name found met
  pub is_method : (holder : ℕ) (c : BodyId) → found ≡ One holder (MethodSlot c) → IsFoundMethod stop.sense stop.state g.bodies args name holder c receiver (g.machine.regs 8) met
  pub place : place_of stop.state message.sender ≡ place_here g
  pub behind : g.machine.pc ≡ stop.last.pc + bytes
