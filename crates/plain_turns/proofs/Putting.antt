-- A unit is put for a method that was found.
use Rattle.std.proofs.Common.{◌≡◌, ℕ, zero, suc, ◌+◌, ◌-◌, ◌*◌, ◌<◌, ◌≤◌, refl, ◌∙◌, ap, sym, subst, arith, inl, inr, length-append, append-nil}
use Rattle.std.specs.Prelude.{List, [], ◌∷◌, ◌++◌, length, Option, Some, None, slice_get, slice_set, unwrap_or}
use Rattle.std.proofs.lemmas.Option.{same_Some, none-some}
use Rattle.self_terms.specs.declared.bodies.Body.{Body}
use Rattle.self_terms.specs.declared.values.BodyId.{BodyId}
use Rattle.object_maps.specs.declared.maps.SlotKind.TheVariants.{Method as MethodSlot}
use Rattle.slot_lookup.specs.declared.sends.Found.{Found}
use Rattle.slot_lookup.specs.declared.sends.Found.TheVariants.{One}
use Rattle.sparc_machine.specs.State.{MachineState}
use Rattle.sparc_store.specs.Words.{Words, word_at, with_word, HasWord}
use Rattle.sparc_store.proofs.Placed.{put_there, put_stays_within}
use Rattle.self_terms.specs.declared.nodes.Selector.{Selector}
use Rattle.source_model.specs.State.{State}
use Rattle.source_model.specs.Soundness.{body_in, HasBody}
use Rattle.plain_sends.specs.Sends.{selector_of}
use Rattle.plain_words.specs.Moves.{Moved}
use Rattle.plain_words.specs.Putting.{Apart}
use Rattle.plain_words.specs.Translating.{CanTranslate}
use Rattle.plain_words.specs.Units.{unit_code, unit_points}
use Rattle.plain_runs.specs.Host.{Host}
use Rattle.plain_runs.specs.Course.{with_machine}
use Rattle.plain_runs.specs.Services.{with_left, next_unit, with_unit}
use Rattle.plain_steps.specs.Paying.{IsPaid}
use Rattle.plain_units.specs.Putting.{IsPut}
use Rattle.plain_units.proofs.Points.{points_long}
use Rattle.plain_units.proofs.Putting.{units_put}
use Rattle.plain_stretches.specs.Standing.{IsOn}
use Rattle.plain_stretches.proofs.Settled.{set_long}
use Rattle.plain_stretches.proofs.Stretches.{polls_stretch}
use Rattle.plain_turns.specs.Rooms.{most_words, unput, unmade, HasRoom}
use Rattle.plain_turns.specs.Asking.{count, found_here, behind_poll, goes_back, cost_left}
use Rattle.plain_turns.specs.Resting.{IsReady, IsAtTrap}
use Rattle.plain_turns.specs.Turns.{IsAsked, IsThere, MethodsAreThere, UnitsFit, BeginsAgain, UnitsTurn}
use Rattle.plain_turns.proofs.Back.{back_again}
use Rattle.plain_turns.proofs.Asked.{sent, node_is, asking}
use Rattle.plain_turns.proofs.Messaged.{IsAsking}
use Rattle.plain_turns.proofs.Answering.{steps_are, found_given}
use Rattle.plain_turns.proofs.Onward.{IsStopped, cost_fits, paid_settled}
use Rattle.plain_turns.proofs.Rooms.{unit_long}

-- Room.

-- a body without a unit takes its words of the room that is kept
pub unput_there : (es : List ℕ) (xs : List Body) (k : ℕ) (x : Body) → slice_get es k ≡ Some 0 → slice_get xs k ≡ Some x → most_words x ≤ unput es xs
unput_there [] xs k x e f = absurd (none-some 0 e)
unput_there (e0 ∷ es) [] k x e f = absurd (none-some x f)
unput_there (zero ∷ es) (y ∷ ys) zero x e f = let same : y ≡ x = same_Some y x f in omega (arith, ap most_words same)
unput_there (suc a ∷ es) (y ∷ ys) zero x e f = absurd (omega (arith, same_Some (suc a) 0 e))
unput_there (zero ∷ es) (y ∷ ys) (suc k) x e f = omega (arith, unput_there es ys k x e f)
unput_there (suc a ∷ es) (y ∷ ys) (suc k) x e f = unput_there es ys k x e f

-- and leaves the rest once it has one
pub unput_set : (es : List ℕ) (xs : List Body) (k a : ℕ) (x : Body) → slice_get es k ≡ Some 0 → slice_get xs k ≡ Some x → unput (slice_set es k (suc a)) xs + most_words x ≡ unput es xs
unput_set [] xs k a x e f = absurd (none-some 0 e)
unput_set (e0 ∷ es) [] k a x e f = absurd (none-some x f)
unput_set (zero ∷ es) (y ∷ ys) zero a x e f = let same : y ≡ x = same_Some y x f in omega (arith, ap most_words same)
unput_set (suc b ∷ es) (y ∷ ys) zero a x e f = absurd (omega (arith, same_Some (suc b) 0 e))
unput_set (zero ∷ es) (y ∷ ys) (suc k) a x e f = omega (arith, unput_set es ys k a x e f)
unput_set (suc b ∷ es) (y ∷ ys) (suc k) a x e f = unput_set es ys k a x e f

pub unmade_set : (es : List ℕ) (k a : ℕ) → slice_get es k ≡ Some 0 → unmade (slice_set es k (suc a)) < unmade es
unmade_set [] k a e = absurd (none-some 0 e)
unmade_set (zero ∷ es) zero a e = omega arith
unmade_set (suc b ∷ es) zero a e = absurd (omega (arith, same_Some (suc b) 0 e))
unmade_set (zero ∷ es) (suc k) a e = omega (arith, unmade_set es k a e)
unmade_set (suc b ∷ es) (suc k) a e = unmade_set es k a e

pub body_there : (bodies : List Body) (b : ℕ) → HasBody bodies b → slice_get bodies (b - 1) ≡ Some (body_in bodies b)
body_there bodies b given = got bodies (b - 1) _ (omega (arith, given.0, given.1))
  where
    got : (xs : List Body) (k : ℕ) (d : Body) → k < length xs → slice_get xs k ≡ Some (unwrap_or (slice_get xs k) d)
    got [] k d h = absurd (omega (arith, h))
    got (x ∷ xs) zero d h = refl
    got (x ∷ xs) (suc k) d h = got xs k d (omega (arith, h))

has_cost : HasWord 0x30000004
has_cost = (omega arith, inr (inr (inl (omega arith, omega arith))))

module _ (g : Host) (from : State) (target : ℕ) (out : List ℕ) (args name bytes : ℕ) (found : Found) (a : IsAsking g from target out args name bytes found) (holder : ℕ) (c : BodyId) (e : found ≡ One holder (MethodSlot c)) where
  abbrev x : IsStopped g from target out
  x = a.stop

  abbrev moved : Moved x.last g.machine a.message.at x.last.memory (x.last.regs 2)
  moved = a.message.moved

  abbrev body : Body
  body = body_in g.bodies c.0

  given : HasBody g.bodies c.0
  given = found_given g from target out args name bytes found a holder c e

  translates : CanTranslate body
  translates = (x.on.sound.runs c.0).translates

  there_by : (o : Option ℕ) → slice_get g.entries (c.0 - 1) ≡ o → IsThere g c
  there_by None is = absurd (omega (arith, missing g.entries (c.0 - 1) is, x.ready.room.each, given.0, given.1))
    where
      missing : (xs : List ℕ) (k : ℕ) → slice_get xs k ≡ None → length xs ≤ k
      missing [] k e = omega arith
      missing (y ∷ ys) zero e = absurd (cc)
      missing (y ∷ ys) (suc k) e = omega (arith, missing ys k e)
  there_by (Some zero) is = record { body = given; translates = translates; entry = 0; entry_is = is; low = omega arith }
  there_by (Some (suc at)) is =
      let u = x.on.sound.hosted.units c.0 (suc at) given.0 is (λ z. absurd (omega (arith, z))) in
      record { body = given; translates = translates; entry = suc at; entry_is = is; low = omega (arith, u.region.to) }

  pub is_there : IsThere g c
  is_there = there_by (slice_get g.entries (c.0 - 1)) refl

  -- where it has no unit
  module _ (none : slice_get g.entries (c.0 - 1) ≡ Some 0) where
    long : length (unit_code g.references body) ≤ most_words body
    long = unit_long g.references body translates

    pub fits : next_unit g + 4 * length (unit_code g.references body) ≤ 0x12000000
    fits = omega (arith, long, unput_there g.entries g.bodies (c.0 - 1) body none (body_there g.bodies c.0 given), x.ready.room.left)

    module _ (memory : Words) (put : IsPut g c.0 memory) where
      abbrev poll_host : Host
      poll_host = with_machine g x.last

      abbrev to : Host
      to = with_unit c.0 memory poll_host

      put_poll : IsPut poll_host c.0 memory
      put_poll = record {
        given = put.given;
        known = put.known;
        none = put.none;
        region = put.region;
        code = put.code;
        apart = (let P : Words → Type 0 = λ m. Apart m memory (next_unit g) (length (unit_code g.references body)) in subst P moved.memory_is put.apart);
        within = put.within;
      }

      room_to : HasRoom to
      room_to =
          let es = slice_set g.entries (c.0 - 1) (next_unit g) in
          let next_is : next_unit g ≡ suc (next_unit g - 1) = omega arith in
          let unput_is : unput es g.bodies + most_words body ≡ unput g.entries g.bodies =
          ap (λ at. unput (slice_set g.entries (c.0 - 1) at) g.bodies + most_words body) next_is ∙ unput_set g.entries g.bodies (c.0 - 1) (next_unit g - 1) body none (body_there g.bodies c.0 given) in
          record {
            each = set_long g.entries (c.0 - 1) (next_unit g) ∙ x.ready.room.each;
            left = omega (arith, unput_is, long, x.ready.room.left, points_long g.references c.0 body, length-append g.points (unit_points g.references c.0 body));
            lobby = x.ready.room.lobby;
          }

      -- the service leaves what is left of the plain cost
      left_put : (goal : ℕ) → word_at (with_left memory goal (cost_left g)) 0x30000004 + (g.cost + g.machine.regs 3) ≡ 4194304
      left_put goal =
          let fits = cost_fits g from target out x a.message.at moved in
          let is : word_at (with_left memory goal (cost_left g)) 0x30000004 ≡ cost_left g = put_there (with_word memory 0x30000000 goal) 0x30000004 (cost_left g) (put_stays_within memory 0x30000000 goal put.within) has_cost in
          ap (λ w. w + (g.cost + g.machine.regs 3)) is ∙ omega (arith, fits)

      pub unit_turn : BeginsAgain g (goes_back bytes (target - count g) (cost_left g) (with_unit c.0 memory g)) from target out
      unit_turn =
          let s = x.state in
          let goal = target - count g in
          let p = units_put x.sense poll_host s x.on.body x.on.number c.0 a.node memory x.on.sound.stands x.on.sound.hosted x.on.sound.runs a.runs_at put_poll in
          let on : IsOn x.sense to s = record { sound = record { hosted = p.standing.hosted; runs = x.on.sound.runs; current = x.on.sound.current; stands = p.standing.stands }; body = x.on.body; number = x.on.number; node = a.node; at = p.runs } in
          let mv = moved in
          let m2 : MachineState = record g.machine { memory = memory } in
          let mv2 : Moved to.machine m2 (x.last.pc + bytes) memory (x.last.regs 2) = (let P : ℕ → Type 0 = λ at. Moved to.machine m2 at memory (x.last.regs 2) in
          subst P (sym mv.stands.here ∙ a.behind) (record { stands = mv.stands; memory_is = refl; counted = mv.counted; kept = mv.kept; older = mv.older })) in
          let steps_now = steps_are g from target out args name bytes found a in
          let few : goal ≤ 1000000000 = omega (arith, steps_now, x.left_is, x.near) in
          let set = back_again x.sense to s m2 bytes on mv2 goal (cost_left g) few in
          let last = goes_back bytes goal (cost_left g) (with_unit c.0 memory g) in
          let before = paid_settled g from target out x a.message.at mv goal in
          let paid : IsPaid x.start last = record { room = before.room; top = before.top; left = left_put goal } in
          let ready : IsReady last = record {
            fit = x.ready.fit;
            room = record { each = room_to.each; left = room_to.left; lobby = room_to.lobby };
            maps = record { few = x.ready.maps.few; bodies = x.ready.maps.bodies; contexts = x.ready.maps.contexts; blocks = x.ready.maps.blocks };
          } in
          let on_from = polls_stretch x.start x.sense last s goal x.formed set ready.fit ready.maps paid in
          let fewer_left : unmade (slice_set g.entries (c.0 - 1) (next_unit g)) < unmade g.entries = (let P : ℕ → Type 0 = λ at. unmade (slice_set g.entries (c.0 - 1) at) < unmade g.entries in subst P (omega arith) (unmade_set g.entries (c.0 - 1) (next_unit g - 1) none)) in
          record {
            going = record {
              sense = x.sense;
              state = s;
              done = x.done;
              before = out;
              runs = x.runs;
              counted = x.counted;
              all = x.on.sound.runs;
              current = x.on.sound.current;
              formed = x.formed;
              ready = ready;
              start = x.start;
              left = goal;
              near = few;
              left_is = omega (arith, steps_now, x.left_is);
              stretch = on_from.0;
              out_is = sym (ap (λ o. out ++ o) on_from.1 ∙ append-nil out);
            };
            same = omega (arith, steps_now);
            fewer = fewer_left;
          }

pub methods_there : MethodsAreThere
methods_there h from target out room x le holder c e = is_there h from target out _ _ _ (found_here room h) (asking h from target out room x le) holder c e

pub units_fit : UnitsFit
units_fit h from target out room x le holder c e none = fits h from target out _ _ _ (found_here room h) (asking h from target out room x le) holder c e none

-- the selector is that of the node
same_selector : (h : Host) (from : State) (target : ℕ) (out : List ℕ) (room : ℕ) → (x : IsAtTrap h 1 from target out) → (a : IsAsked h target room) → (sent h from target out x).selector.args ≡ a.selector.args
same_selector h from target out room x a =
    let node : a.node ≡ x.on.node = same_Some a.node x.on.node (sym a.node_is ∙ node_is h from target out x) in
    ap (λ (q : Selector). q.args) (same_Some (sent h from target out x).selector a.selector (sym (sent h from target out x).is ∙ ap selector_of (sym node) ∙ a.sends))

pub units_turn : UnitsTurn
units_turn h from target out room x le a holder c e none memory put =
    subst (λ (k : ℕ). BeginsAgain h (goes_back (behind_poll k) (target - count h) (cost_left h) (with_unit c.0 memory h)) from target out) (same_selector h from target out room x a) (unit_turn h from target out _ _ _ (found_here room h) (asking h from target out room x le) holder c e none memory put)
