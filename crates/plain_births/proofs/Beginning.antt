-- An activity begins while a session rests.
use Rattle.std.proofs.Common.{◌≡◌, ◌≢◌, ℕ, ◌+◌, ◌-◌, ◌<◌, ◌≤◌, List, refl, ◌∙◌, ap, sym, subst, arith}
use Rattle.std.specs.Prelude.{nat_lt, ◌&&◌, Bool, true, false, if◌then◌else◌, [], length, Option, Some, None, slice_get}
use Rattle.std.proofs.lemmas.Bool.{cond-true, and_parts, ltb-true, ltb-false}
use Rattle.self_terms.specs.declared.bodies.Body.{Body}
use Rattle.self_terms.specs.declared.errors.ErrorName.TheVariants as errors
use Rattle.self_terms.specs.declared.values.BodyId.{BodyId}
use Rattle.self_terms.specs.declared.values.Value.TheVariants as values
use Rattle.source_model.specs.Formed.{arity, IsWellFormed}
use Rattle.source_model.specs.Lines.{activity_line}
use Rattle.source_model.specs.Messages.{body_of}
use Rattle.source_model.specs.Script.{Spawn, becomes, refused, spawned, spawn_met, with_activity, command}
use Rattle.source_model.specs.Sends.{begun, entry_cost}
use Rattle.source_model.specs.Soundness.{body_in, HasBody}
use Rattle.source_model.specs.State.{State, Reached}
use Rattle.source_model.specs.Texts.{error_text}
use Rattle.source_model.proofs.Editing.{commands_form}
use Rattle.raw_steps.specs.Stands.{makes_blocks}
use Rattle.raw_steps.proofs.Refusing.{fills}
use Rattle.plain_words.specs.Units.{owns_context}
use Rattle.plain_runs.specs.Host.{Host}
use Rattle.plain_runs.specs.declared.status.Status.{Status}
use Rattle.plain_runs.specs.declared.status.Status.TheVariants.{Waiting, Answered, Failed}
use Rattle.plain_runs.specs.Units.{HasUnit}
use Rattle.plain_runs.specs.Services.{parked_by, begins}
use Rattle.plain_steps.specs.Steps.{StandsFor}
use Rattle.plain_steps.specs.Paying.{IsPaid}
use Rattle.plain_answers.specs.Found.{IsMethod}
use Rattle.plain_begins.specs.Begins.{AtPoll, Began}
use Rattle.plain_begins.proofs.Starting.{activities_begin}
use Rattle.plain_evaluates.specs.Evaluates.{context_words, HasSpace}
use Rattle.plain_evaluates.proofs.Entered.{wants_one}
use Rattle.plain_spawns.specs.Spawns.{begins_with_context}
use Rattle.plain_spawns.proofs.Starting.{activities_begin as activities_begin_with_contexts}
use Rattle.plain_turns.specs.Resting.{IsReady, Rests}
use Rattle.plain_births.specs.Meeting.{lobby_meets}
use Rattle.plain_births.specs.Births.{Born, BirthsRest, BirthsFill, is_costly, ContextsHaveRoom}
use Rattle.plain_births.proofs.Meeting.{spawns, method_fits}

-- where frames go to memory, what is ready stays so
parks_keep : (h : Host) (x : Option Status) → IsReady h → IsReady (parked_by x h)
parks_keep h None r = r
parks_keep h (Some (Waiting sp pc n)) r = record {
  fit = r.fit;
  room = record { each = r.room.each; left = r.room.left; lobby = r.room.lobby };
  maps = record { few = r.maps.few; bodies = r.maps.bodies; contexts = r.maps.contexts; blocks = r.maps.blocks };
}
parks_keep h (Some (Answered w)) r = r
parks_keep h (Some (Failed e p)) r = r

-- Contexts.

-- one that isn't costly can be paid
payable : (owns : Bool) (sum : ℕ) → owns ≡ true → (owns && nat_lt 4194304 sum) ≡ false → sum ≤ 4194304
payable true sum e cheap = ltb-false 4194304 sum cheap
payable false sum e cheap = absurd (cc)

sum_paid : (h : Host) (b : ℕ) → owns_context (body_in h.bodies b) ≡ true → is_costly h b ≡ false → h.cost + h.machine.regs 3 + context_words h b ≤ 4194304
sum_paid h b owns cheap = payable (owns_context (body_in h.bodies b)) (h.cost + h.machine.regs 3 + context_words h b) owns cheap

has_space : (h : Host) (s : State) (b : ℕ) → Rests h s → owns_context (body_in h.bodies b) ≡ true → is_costly h b ≡ false → HasSpace h b
has_space h s b r owns cheap =
    let sum = sum_paid h b owns cheap in
    record {
      mapped = r.ready.maps.contexts;
      small = omega (arith, r.ready.maps.contexts, r.ready.maps.few);
      room = omega (arith, sum, r.paid.top, r.paid.room);
      paid = sum;
    }

pub contexts_have_room : ContextsHaveRoom
contexts_have_room h s b r owns cheap =
    let sum = sum_paid h b owns cheap in
    let end = r.sound.stands.stands.heap.laid.end in
    record {
      heap = (has_space h s b r owns cheap).room;
      within = end.above;
      aligned = end.aligned;
      cost = omega (arith, sum);
    }

-- The activity.

module _ (h : Host) (q : Reached) (text : List ℕ) (holder : ℕ) (c : BodyId) (r : Rests h q.state) (few : length h.statuses < 4) (m : IsMethod r.sense q.state (lobby_meets q.state text) holder c) (none : length (body_in h.bodies c.0).arguments ≡ 0) where
  abbrev s : State
  s = q.state

  stood : StandsFor r.sense h s
  stood = r.sound.stands

  takes : arity text ≡ 0
  takes = (method_fits r.sense h s text holder c r m).arguments ∙ ap (λ bs. length (body_in bs c.0).arguments) (sym stood.bodies) ∙ none

  given : HasBody h.bodies c.0
  given = subst (λ bs. HasBody bs c.0) (sym stood.bodies) (method_fits r.sense h s text holder c r m).given

  -- where it has begun the session rests
  born_so : (to : Host) → Began r.sense h to s m.object c → IsReady to → Born h to q text m.object c
  born_so to b ready =
      let t = b.state in
      let met : spawn_met (lobby_meets s text) q ≡ becomes t (activity_line (t.current + 1)) q = ap (λ y. spawn_met y q) m.met_is ∙ ap (λ y. spawned y q) b.entered in
      let comes : (stop : ℕ) → command (Spawn text) stop q ≡ becomes t (activity_line (t.current + 1)) q = λ stop. spawns h q text stop r few ∙ met in
      let formed : IsWellFormed t = subst (λ (y : Reached). IsWellFormed y.state) (comes 0) (commands_form (Spawn text) 0 q takes r.formed) in
      let paid : IsPaid r.start to = record {
        room = r.paid.room;
        top = omega (arith, r.paid.top, b.paid, b.sum);
        left = omega (arith, b.left, b.sum, r.paid.left);
      } in
      record {
        state = t;
        entered = b.entered;
        comes = comes;
        rests = record {
          sense = b.sense;
          sound = record { hosted = b.hosted; runs = b.all; current = b.current; stands = b.stands };
          parks = AtPoll c.0 0 b.first b.runs;
          formed = formed;
          ready = ready;
          start = r.start;
          paid = paid;
        };
      }

  module _ (lobby at : ℕ) (is : slice_get h.references.objects 0 ≡ Some lobby) (entry : slice_get h.entries (c.0 - 1) ≡ Some at) (some : at ≢ 0) where
    unit : HasUnit h c.0 at
    unit = r.sound.hosted.units c.0 at given.0 entry some

    there : slice_get r.sense.places.objects 0 ≡ Some lobby
    there = stood.objects 0 lobby is

    kept : IsReady (parked_by (slice_get h.statuses h.current) h)
    kept = parks_keep h (slice_get h.statuses h.current) r.ready

    without_context : owns_context (body_in h.bodies c.0) ≡ false → Born h (begins c.0 at lobby holder h) q text m.object c
    without_context plain =
        born_so (begins c.0 at lobby holder h)
        (activities_begin r.sense h s stood r.sound.hosted r.sound.runs r.parks few m.object c holder lobby at m.there there unit plain none (r.ready.fit c.0 given).some)
        (record {
          fit = kept.fit;
          room = record { each = kept.room.each; left = kept.room.left; lobby = kept.room.lobby };
          maps = record { few = kept.maps.few; bodies = kept.maps.bodies; contexts = kept.maps.contexts; blocks = kept.maps.blocks };
        })

    with_context : owns_context (body_in h.bodies c.0) ≡ true → is_costly h c.0 ≡ false → Born h (begins_with_context c.0 at lobby holder h) q text m.object c
    with_context owns cheap =
        born_so (begins_with_context c.0 at lobby holder h)
        (activities_begin_with_contexts r.sense h s stood r.sound.hosted r.sound.runs r.parks few m.object c holder lobby at m.there there unit owns (has_space h s c.0 r owns cheap) none (r.ready.fit c.0 given).some)
        (record {
          fit = kept.fit;
          room = record { each = kept.room.each; left = kept.room.left; lobby = kept.room.lobby };
          maps = record { few = kept.maps.few; bodies = kept.maps.bodies; contexts = kept.maps.contexts; blocks = kept.maps.blocks };
        })

    by_kind : (owns : Bool) → owns_context (body_in h.bodies c.0) ≡ owns → is_costly h c.0 ≡ false → Born h (if owns then begins_with_context c.0 at lobby holder h else begins c.0 at lobby holder h) q text m.object c
    by_kind true e cheap = with_context e cheap
    by_kind false e cheap = without_context e

  -- the source asks for as much as the words do
  costs : owns_context (body_in h.bodies c.0) ≡ true → entry_cost (body_of s c.0) ≡ context_words h c.0
  costs owns =
      let x = body_of s c.0 in
      let same : x ≡ body_in h.bodies c.0 = ap (λ bs. body_in bs c.0) (sym stood.bodies) in
      cond-true (makes_blocks s c.0) (4 + length x.arguments + length x.locals) 0 (wants_one h s c.0 c.0 stood.bodies refl owns)
      ∙ ap (λ (k : Body). 4 + length k.arguments + length k.locals) same ∙ omega arith

  costly : is_costly h c.0 ≡ true → (stop : ℕ) → command (Spawn text) stop q ≡ refused (error_text errors.StoreFull) q
  costly much stop =
      let both = and_parts (owns_context (body_in h.bodies c.0)) (nat_lt 4194304 (h.cost + h.machine.regs 3 + context_words h c.0)) much in
      let over = ltb-true 4194304 (h.cost + h.machine.regs 3 + context_words h c.0) both.1 in
      let words = costs both.0 in
      let paid : h.cost + h.machine.regs 3 ≡ s.cost = stood.stands.cost in
      let full = fills (begun s c.0 (values.Object 0) m.object None []) [] (with_activity s) (omega arith) (omega (arith, over, words, paid)) in
      spawns h q text stop r few ∙ ap (λ y. spawn_met y q) m.met_is ∙ ap (λ y. spawned y q) full

pub births_rest : BirthsRest
births_rest h q text holder lobby at c r few is m entry some none cheap = by_kind h q text holder c r few m none lobby at is entry some (owns_context (body_in h.bodies c.0)) refl cheap

pub births_fill : BirthsFill
births_fill h q text holder c r few m none much = costly h q text holder c r few m none much
