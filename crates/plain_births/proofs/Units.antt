-- A unit is put while a session rests.
use Rattle.std.proofs.Common.{◌≡◌, ℕ, suc, ◌+◌, ◌-◌, ◌*◌, ◌<◌, ◌≤◌, refl, ◌∙◌, ap, subst, arith, inr, length-append}
use Rattle.std.specs.Prelude.{length, Some, slice_get, slice_set}
use Rattle.self_terms.specs.declared.bodies.Body.{Body}
use Rattle.sparc_store.specs.Words.{Words, word_at}
use Rattle.source_model.specs.Soundness.{body_in, HasBody}
use Rattle.source_model.specs.State.{State}
use Rattle.plain_words.specs.Units.{unit_code, unit_points}
use Rattle.plain_runs.specs.Host.{Host}
use Rattle.plain_runs.specs.Services.{next_unit, with_unit}
use Rattle.plain_steps.specs.Paying.{IsPaid}
use Rattle.plain_begins.specs.Begins.{CanPark, AtPoll, Idle}
use Rattle.plain_units.specs.Putting.{IsPut, Standing}
use Rattle.plain_units.proofs.Points.{points_long}
use Rattle.plain_units.proofs.Putting.{units_put, units_put_idle}
use Rattle.plain_stretches.proofs.Settled.{set_long}
use Rattle.plain_turns.specs.Rooms.{most_words, unput, unmade, HasRoom}
use Rattle.plain_turns.specs.Resting.{IsReady, Rests}
use Rattle.plain_turns.proofs.Putting.{unput_there, unput_set, unmade_set, body_there}
use Rattle.plain_turns.proofs.Rooms.{unit_long}
use Rattle.plain_births.specs.Births.{UnitsFitThere, Put, UnitsRest}

module _ (h : Host) (s : State) (c : ℕ) (r : Rests h s) (given : HasBody h.bodies c) (none : slice_get h.entries (c - 1) ≡ Some 0) where
  abbrev body : Body
  body = body_in h.bodies c

  long : length (unit_code h.references body) ≤ most_words body
  long = unit_long h.references body (r.sound.runs c).translates

  fits : next_unit h + 4 * length (unit_code h.references body) ≤ 0x12000000
  fits = omega (arith, long, unput_there h.entries h.bodies (c - 1) body none (body_there h.bodies c given), r.ready.room.left)

  module _ (memory : Words) (put : IsPut h c memory) where
    abbrev to : Host
    to = with_unit c memory h

    room_to : HasRoom to
    room_to =
        let es = slice_set h.entries (c - 1) (next_unit h) in
        let next_is : next_unit h ≡ suc (next_unit h - 1) = omega arith in
        let unput_is : unput es h.bodies + most_words body ≡ unput h.entries h.bodies =
        ap (λ a. unput (slice_set h.entries (c - 1) a) h.bodies + most_words body) next_is ∙ unput_set h.entries h.bodies (c - 1) (next_unit h - 1) body none (body_there h.bodies c given) in
        record {
          each = set_long h.entries (c - 1) (next_unit h) ∙ r.ready.room.each;
          left = omega (arith, unput_is, long, r.ready.room.left, points_long h.references c body, length-append h.points (unit_points h.references c body));
          lobby = r.ready.room.lobby;
        }

    ready_to : IsReady to
    ready_to = record { fit = r.ready.fit; room = room_to; maps = record { few = r.ready.maps.few; bodies = r.ready.maps.bodies; contexts = r.ready.maps.contexts; blocks = r.ready.maps.blocks } }

    -- what is left of the plain cost stands behind all units
    left_same : word_at memory 0x30000004 ≡ word_at h.machine.memory 0x30000004
    left_same = put.apart.others 0x30000004 (inr (omega (arith, fits)))

    paid_to : IsPaid r.start to
    paid_to = record { room = r.paid.room; top = r.paid.top; left = ap (λ x. x + h.cost) left_same ∙ r.paid.left }

    fewer : unmade (slice_set h.entries (c - 1) (next_unit h)) < unmade h.entries
    fewer = (let P : ℕ → Type 0 = λ a. unmade (slice_set h.entries (c - 1) a) < unmade h.entries in subst P (omega arith) (unmade_set h.entries (c - 1) (next_unit h - 1) none))

    put_so : Standing r.sense h s c memory → CanPark to → Put h s c memory r
    put_so p parks = record {
      rests = record {
        sense = r.sense;
        sound = record { hosted = p.hosted; runs = r.sound.runs; current = r.sound.current; stands = p.stands };
        parks = parks;
        formed = r.formed;
        ready = ready_to;
        start = r.start;
        paid = paid_to;
      };
      same = refl;
      unit = p.unit.entry;
      fewer = fewer;
    }

    put_from : CanPark h → Put h s c memory r
    put_from (AtPoll b n node at) =
        let p = units_put r.sense h s b n c node memory r.sound.stands r.sound.hosted r.sound.runs at put in
        put_so p.standing (AtPoll b n node p.runs)
    put_from (Idle idle) = put_so (units_put_idle r.sense h s c memory r.sound.stands r.sound.hosted r.sound.runs idle put) (Idle idle)

pub units_fit_there : UnitsFitThere
units_fit_there h s c r given none = fits h s c r given none

pub units_rest : UnitsRest
units_rest h s c memory r put = put_from h s c r (put.given, put.known) put.none memory put r.parks
