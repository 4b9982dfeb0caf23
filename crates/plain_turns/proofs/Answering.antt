-- What answers a message leads on, or ends the run.
use Rattle.std.proofs.Common.{◌≡◌, ℕ, suc, ◌+◌, ◌-◌, ◌*◌, ◌<◌, ◌≤◌, refl, ◌∙◌, ap, sym, subst, arith, append-nil}
use Rattle.std.specs.Prelude.{List, [], Some, Err}
use Rattle.self_terms.specs.declared.errors.ErrorName.{ErrorName}
use Rattle.self_terms.specs.declared.values.BodyId.{BodyId}
use Rattle.self_terms.specs.Depths.{depth}
use Rattle.object_maps.specs.declared.maps.SlotKind.TheVariants.{Assign, Method as MethodSlot}
use Rattle.slot_lookup.specs.declared.sends.Found.{Found}
use Rattle.slot_lookup.specs.declared.sends.Found.TheVariants.{One}
use Rattle.sparc_store.specs.Words.{word_at, IsWithin}
use Rattle.sparc_store.proofs.Placed.{others_stay}
use Rattle.source_model.specs.Soundness.{body_in, HasBody, IsFit}
use Rattle.source_model.specs.State.{State, Failed as Ended_by, silent, with_current}
use Rattle.source_model.specs.Step.{done, settled as source_settled, step}
use Rattle.raw_steps.specs.Sends.{here_of}
use Rattle.raw_steps.proofs.Nexts.{step_at}
use Rattle.raw_steps.proofs.Sending.{missing_is}
use Rattle.plain_words.specs.Moves.{Moved}
use Rattle.plain_words.specs.Units.{frame_locals}
use Rattle.plain_words.specs.Showing.{viewed}
use Rattle.plain_runs.specs.Host.{Host, raw_of}
use Rattle.plain_runs.specs.Sound.{callers_of}
use Rattle.plain_runs.specs.Services.{with_left, settled, data_answers, assigns}
use Rattle.plain_runs.specs.Course.{with_machine}
use Rattle.plain_steps.specs.Paying.{IsPaid}
use Rattle.plain_steps.specs.Steps.{DoesStep}
use Rattle.plain_sends.specs.Found.{data_word}
use Rattle.plain_sends.proofs.Settling.{Controlled, controlled}
use Rattle.plain_answers.specs.Found.{error_of}
use Rattle.plain_answers.specs.Whole.{whole}
use Rattle.plain_answers.proofs.Fitting.{assignments_fit}
use Rattle.plain_answers.proofs.Storing.{InHeap, assignment_place}
use Rattle.plain_handlers.proofs.Answering.{data_answers_messages, assignments_answer_messages}
use Rattle.plain_unwinds.specs.Services.{fails_unmarked}
use Rattle.plain_stretches.proofs.Stretches.{steps_stretch}
use Rattle.plain_turns.specs.Asking.{count, place_here, found_here, cost_left}
use Rattle.plain_turns.specs.Resting.{IsReady, HasRun}
use Rattle.plain_turns.specs.Turns.{StepsOn, DataTurns, AssignmentsTurn, MissesEnd}
use Rattle.plain_turns.proofs.Asked.{at_poll, sent, tells_of, asking}
use Rattle.plain_turns.proofs.Messaged.{IsAsking}
use Rattle.plain_turns.proofs.Onward.{IsStopped, counted_is, rest_is, paid_settled, goes_on, error_ends}
use Rattle.plain_turns.proofs.Telling.{data_told, given_by}

module _ (g : Host) (from : State) (target : ℕ) (out : List ℕ) (args name bytes : ℕ) (found : Found) (a : IsAsking g from target out args name bytes found) where
  abbrev x : IsStopped g from target out
  x = a.stop

  abbrev poll_host : Host
  poll_host = with_machine g x.last

  -- nothing but scratch registers has changed since the poll
  abbrev moved : Moved x.last g.machine a.message.at x.last.memory (x.last.regs 2)
  moved = a.message.moved

  -- so much is left when the step is done
  abbrev after : ℕ
  after = target - count g - 1

  pub steps_are : count g ≡ x.state.steps
  steps_are = counted_is g from target out x a.message.at moved

  few_left : after ≤ 1000000000
  few_left = omega (arith, rest_is g from target out x a.message.at a.can moved, x.near)

  settled_to : Controlled g.machine.memory (with_left g.machine.memory after (cost_left g)) after
  settled_to = controlled g.machine.memory after (cost_left g) (subst IsWithin (sym moved.memory_is) a.can.hosted.within)

  paid : IsPaid x.start (settled after (cost_left g) g)
  paid = paid_settled g from target out x a.message.at moved after

  pub data_turn : (word : ℕ) → data_word (whole g) found ≡ Some word → StepsOn g (data_answers after (cost_left g) word g) from target out
  data_turn word e =
      let cost = cost_left g in
      let h1 = data_answers after cost word g in
      let known = data_told g found a.tells word e in
      let d : DoesStep x.sense h1 x.state = data_answers_messages x.sense poll_host x.state x.on.body x.on.number a.node args name a.met a.runs_at g.machine a.message x.on.sound.stands a.can after cost word few_left known in
      let goal_is : word_at h1.machine.memory 0x30000000 ≡ after = settled_to.goal_is in
      let far : h1.steps + word_at h1.machine.memory 0x30000000 ≡ x.state.steps + suc after = omega (arith, goal_is, steps_are) in
      let paid1 : IsPaid x.start h1 = record { room = paid.room; top = paid.top; left = paid.left } in
      let y = x.ready in
      let ready : IsReady h1 = record { fit = y.fit; room = record { each = y.room.each; left = y.room.left; lobby = y.room.lobby }; maps = record { few = y.maps.few; bodies = y.maps.bodies; contexts = y.maps.contexts; blocks = y.maps.blocks } } in
      let on = steps_stretch x.start x.sense h1 x.state after x.formed x.on.sound.runs x.on.sound.current ready.fit ready.maps paid1 d far in
      subst (StepsOn g h1 from target) (append-nil out) (goes_on g from target out x a.message.at a.can moved h1 [] x.on.sound.runs x.on.sound.current ready on)

  -- where the message has an argument
  pub assignment_turn : 0 < args → (holder place : ℕ) → found ≡ One holder (Assign place) → StepsOn g (assigns after (cost_left g) (holder + 7 + 4 * place) g) from target out
  assignment_turn some holder place e =
      let cost = cost_left g in
      let at = holder + 7 + 4 * place in
      let h1 = assigns after cost at g in
      let is = (a.tells.assignment x.formed holder place e).0 in
      let d : DoesStep x.sense h1 x.state = assignments_answer_messages x.sense poll_host x.state x.on.body x.on.number a.node args name a.met a.runs_at g.machine a.message x.on.sound.stands a.can holder place is some after cost few_left in
      let there : InHeap at = assignment_place x.sense (raw_of poll_host) x.state x.on.sound.stands.stands a.met name holder place is in
      let memory = with_left g.machine.memory after cost in
      let goal_is : word_at h1.machine.memory 0x30000000 ≡ after = others_stay memory at (g.machine.regs 9) 0x30000000 (λ z. absurd (omega (arith, z, there.below))) ∙ settled_to.goal_is in
      let cost_is : word_at h1.machine.memory 0x30000004 ≡ word_at memory 0x30000004 = others_stay memory at (g.machine.regs 9) 0x30000004 (λ z. absurd (omega (arith, z, there.below))) in
      let far : h1.steps + word_at h1.machine.memory 0x30000000 ≡ x.state.steps + suc after = omega (arith, goal_is, steps_are) in
      let paid1 : IsPaid x.start h1 = record { room = paid.room; top = paid.top; left = ap (λ w. w + (g.cost + g.machine.regs 3)) cost_is ∙ paid.left } in
      let y = x.ready in
      let ready : IsReady h1 = record { fit = y.fit; room = record { each = y.room.each; left = y.room.left; lobby = y.room.lobby }; maps = record { few = y.maps.few; bodies = y.maps.bodies; contexts = y.maps.contexts; blocks = y.maps.blocks } } in
      let on = steps_stretch x.start x.sense h1 x.state after x.formed x.on.sound.runs x.on.sound.current ready.fit ready.maps paid1 d far in
      subst (StepsOn g h1 from target) (append-nil out) (goes_on g from target out x a.message.at a.can moved h1 [] x.on.sound.runs x.on.sound.current ready on)

  -- a method that was found has a body, which fits
  pub found_given : (holder : ℕ) (c : BodyId) → found ≡ One holder (MethodSlot c) → HasBody g.bodies c.0
  found_given holder c e = given_by x.sense x.state g.bodies args name holder c a.receiver (g.machine.regs 8) a.met (a.is_method holder c e)

  pub found_fit : (holder : ℕ) (c : BodyId) → found ≡ One holder (MethodSlot c) → IsFit g.bodies c.0
  found_fit holder c e = x.ready.fit c.0 (found_given holder c e)

  -- an error that the source's step is
  pub error_turn : (e : ErrorName) → done (here_of x.state a.message.sender a.message.older) a.node ≡ Err e → (goal : ℕ) → goal ≤ 1000000000 → HasRun (fails_unmarked goal (cost_left g) e (place_here g) g) from target out
  error_turn e err goal few =
      let q = a.message in
      let s = x.state in
      let now : step s ≡ silent (with_current (Ended_by e (place_here g)) s) = step_at s q.sender q.older a.node q.is_at.here q.is_at.node_is
      ∙ ap (source_settled (here_of s q.sender q.older)) err
      ∙ ap (λ p. silent (with_current (Ended_by e p) s)) a.place in
      error_ends g from target out x q.at a.can moved q.sender q.older q.is_at.here e (place_here g) now goal few

  pub miss_turn : (goal : ℕ) (e : ErrorName) → goal ≤ 1000000000 → error_of found ≡ Some e → HasRun (fails_unmarked goal (cost_left g) e (place_here g) g) from target out
  miss_turn goal e few is =
      let q = a.message in
      let v = viewed x.last x.on.body x.on.number (frame_locals (body_in g.bodies x.on.body)) (depth (body_in g.bodies x.on.body).nodes x.on.number) in
      let err = missing_is (raw_of poll_host) x.state x.sense x.on.sound.stands.stands q.sender q.older v (callers_of poll_host a.runs_at.view.older) a.node q.is_at q.message q.words name a.met q.send e (a.tells.missing e is) in
      error_turn e err goal few

pub data_turns : DataTurns
data_turns h from target out room x le word e = data_turn h from target out _ _ _ (found_here room h) (asking h from target out room x le) word e

pub assignments_turn : AssignmentsTurn
assignments_turn h from target out room x le holder place e =
    let q = sent h from target out x in
    let is = ((tells_of h from target out x room le (One holder (Assign place)) e).assignment x.formed holder place refl).0 in
    let one = assignments_fit x.sense (at_poll h from target out x) x.state x.on.body x.on.number x.on.node q.selector x.on.at q.sent q.is x.on.sound.stands x.formed is.object is.met_is in
    assignment_turn h from target out _ _ _ (found_here room h) (asking h from target out room x le) (omega (arith, one)) holder place e

pub misses_end : MissesEnd
misses_end h from target out room x le goal e few is = miss_turn h from target out _ _ _ (found_here room h) (asking h from target out room x le) goal e few is
