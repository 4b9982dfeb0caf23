-- A method that a message meets is called, or refused.
use Rattle.std.proofs.Common.{◌≡◌, ◌≢◌, ℕ, suc, ◌+◌, ◌-◌, ◌≤◌, refl, sym, subst, arith, append-nil}
use Rattle.std.specs.Prelude.{List, [], Some, None, slice_get}
use Rattle.self_terms.specs.declared.errors.ErrorName.{ErrorName}
use Rattle.self_terms.specs.declared.values.BodyId.{BodyId}
use Rattle.object_maps.specs.declared.maps.SlotKind.TheVariants.{Method as MethodSlot}
use Rattle.slot_lookup.specs.declared.sends.Found.{Found}
use Rattle.slot_lookup.specs.declared.sends.Found.TheVariants.{One}
use Rattle.sparc_store.specs.Words.{word_at, IsWithin}
use Rattle.source_model.specs.State.{State}
use Rattle.plain_words.specs.Moves.{Moved}
use Rattle.plain_runs.specs.Host.{Host}
use Rattle.plain_runs.specs.Services.{settled, calls}
use Rattle.plain_runs.specs.Course.{with_machine}
use Rattle.plain_steps.specs.Paying.{IsPaid, HasMaps}
use Rattle.plain_steps.specs.Steps.{DoesStep}
use Rattle.plain_sends.proofs.Settling.{controlled}
use Rattle.plain_lookups.specs.Telling.{FoundTells}
use Rattle.plain_served.specs.Serving.{refusal, MayTestMark, IsCallable, IsServed}
use Rattle.plain_served.proofs.Serving.{methods_served}
use Rattle.plain_unwinds.specs.Services.{fails_unmarked}
use Rattle.plain_stretches.proofs.Stretches.{steps_stretch}
use Rattle.plain_turns.specs.Asking.{count, place_here, found_here, cost_left}
use Rattle.plain_turns.specs.Resting.{IsReady, HasRun}
use Rattle.plain_turns.specs.Turns.{StepsOn, MarksMayBeTested, CallsTurn, RefusalsEnd}
use Rattle.plain_turns.proofs.Onward.{IsStopped, rest_is, paid_settled, goes_on}
use Rattle.plain_turns.proofs.Messaged.{IsAsking}
use Rattle.plain_turns.proofs.Asked.{asking}
use Rattle.plain_turns.proofs.Answering.{steps_are, found_given, found_fit, error_turn}
use Rattle.plain_turns.proofs.Telling.{IsFoundMethod, arguments_by, method_body, block_body}

module _ (g : Host) (from : State) (target : ℕ) (out : List ℕ) (args name bytes : ℕ) (found : Found) (a : IsAsking g from target out args name bytes found) (holder at : ℕ) (c : BodyId) (is : found ≡ One holder (MethodSlot c)) (entry : slice_get g.entries (c.0 - 1) ≡ Some at) (stands : at ≢ 0) where
  abbrev x : IsStopped g from target out
  x = a.stop

  abbrev poll_host : Host
  poll_host = with_machine g x.last

  abbrev moved : Moved x.last g.machine a.message.at x.last.memory (x.last.regs 2)
  moved = a.message.moved

  maps : HasMaps poll_host
  maps = let y = x.ready.maps in record { few = y.few; contexts = y.contexts; blocks = y.blocks; bodies = y.bodies }

  own : IsFoundMethod x.sense x.state g.bodies args name holder c a.receiver (g.machine.regs 8) a.met
  own = a.is_method holder c is

  callable : IsCallable x.sense poll_host x.state args name a.met g.machine a.receiver holder c at
  callable = record {
    unit = x.on.sound.hosted.units c.0 at (found_given g from target out args name bytes found a holder c is).0 entry stands;
    some = (found_fit g from target out args name bytes found a holder c is).some;
    same = arguments_by x.sense x.state g.bodies args name holder c a.receiver (g.machine.regs 8) a.met own;
    method = λ m. method_body x.sense x.state g.bodies args name holder c a.receiver (g.machine.regs 8) a.met own m;
    block = λ v. block_body x.sense x.state g.bodies args name holder c a.receiver (g.machine.regs 8) a.met own v;
  }

  served : IsServed x.sense poll_host x.state x.on.body x.on.number a.node args name a.met a.runs_at g.machine a.message holder c at
  served =
      let F : Found → Type 0 = λ f. FoundTells x.sense poll_host x.state g.machine.memory a.receiver (g.machine.regs 8) name f a.met in
      methods_served x.start x.sense poll_host x.state x.on.body x.on.number a.node args name a.met a.runs_at g.machine a.message x.on.sound.stands a.can x.paid maps a.few a.receiver a.received (One holder (MethodSlot c)) (subst F is a.tells) holder c at refl callable

  pub marked : MayTestMark g c.0
  marked = served.mark

  -- the method counts the step itself
  abbrev left : ℕ
  left = target - count g

  left_is : left ≡ suc (target - count g - 1)
  left_is = omega (arith, rest_is g from target out x a.message.at a.can moved, steps_are g from target out args name bytes found a, x.left_is)

  few_left : left ≤ 1000000000
  few_left = omega (arith, left_is, rest_is g from target out x a.message.at a.can moved, x.near)

  pub call_turn : refusal g c.0 ≡ None → StepsOn g (calls left (cost_left g) at holder g) from target out
  call_turn none =
      let cost = cost_left g in
      let h1 = calls left cost at holder g in
      let d : DoesStep x.sense h1 x.state = served.called none left cost few_left in
      let goal_is : word_at h1.machine.memory 0x30000000 ≡ left = (controlled g.machine.memory left cost (subst IsWithin (sym moved.memory_is) a.can.hosted.within)).goal_is in
      let paid : IsPaid x.start (settled left cost g) = paid_settled g from target out x a.message.at moved left in
      let paid1 : IsPaid x.start h1 = record { room = paid.room; top = paid.top; left = paid.left } in
      let y = x.ready in
      let ready : IsReady h1 = record { fit = y.fit; room = record { each = y.room.each; left = y.room.left; lobby = y.room.lobby }; maps = record { few = y.maps.few; contexts = y.maps.contexts; blocks = y.maps.blocks; bodies = y.maps.bodies } } in
      let far : h1.steps + word_at h1.machine.memory 0x30000000 ≡ x.state.steps + suc (target - count g - 1) = omega (arith, goal_is, left_is, steps_are g from target out args name bytes found a) in
      let on = steps_stretch x.start x.sense h1 x.state (target - count g - 1) x.formed x.on.sound.runs x.on.sound.current ready.fit ready.maps paid1 d far in
      subst (StepsOn g h1 from target) (append-nil out) (goes_on g from target out x a.message.at a.can moved h1 [] x.on.sound.runs x.on.sound.current ready on)

  pub refused_turn : (goal : ℕ) (e : ErrorName) → goal ≤ 1000000000 → refusal g c.0 ≡ Some e → HasRun (fails_unmarked goal (cost_left g) e (place_here g) g) from target out
  refused_turn goal e less refuses = error_turn g from target out args name bytes found a e (served.refused e refuses) goal less

pub marks_may_be_tested : MarksMayBeTested
marks_may_be_tested h from target out room x le holder at c is entry stands = marked h from target out _ _ _ (found_here room h) (asking h from target out room x le) holder at c is entry stands

pub calls_turn : CallsTurn
calls_turn h from target out room x le holder at c is entry stands none = call_turn h from target out _ _ _ (found_here room h) (asking h from target out room x le) holder at c is entry stands none

pub refusals_end : RefusalsEnd
refusals_end h from target out room x le goal holder at c e less is entry stands refuses = refused_turn h from target out _ _ _ (found_here room h) (asking h from target out room x le) holder at c is entry stands goal e less refuses
