-- Primitives that fail, as turns.
use Rattle.std.proofs.Common.{◌≡◌, ◌≢◌, ℕ, ◌+◌, ◌-◌, ◌*◌, ◌<◌, ◌≤◌, List, refl, ◌∙◌, ap, sym, subst, arith}
use Rattle.std.specs.Prelude.{Bool, true, false, Some, None, slice_get, length}
use Rattle.std.proofs.lemmas.Option.{same_Some}
use Rattle.self_terms.specs.declared.errors.ErrorName.{ErrorName}
use Rattle.self_terms.specs.declared.errors.ErrorName.TheVariants as errors
use Rattle.self_terms.specs.declared.names.Name.{Name}
use Rattle.self_terms.specs.declared.nodes.Node.TheVariants as nodes
use Rattle.self_terms.specs.declared.nodes.Place.{Place}
use Rattle.self_terms.specs.declared.values.BodyId.{BodyId}
use Rattle.object_maps.specs.declared.maps.SlotKind.TheVariants.{Field, Assign, Method}
use Rattle.slot_lookup.specs.declared.sends.Found.{Found}
use Rattle.slot_lookup.specs.declared.sends.Found.TheVariants.{One}
use Rattle.sparc_store.specs.Words.{Words, HasWord}
use Rattle.sparc_machine.specs.State.{IsWhole}
use Rattle.source_model.specs.Names.{text_named}
use Rattle.source_model.specs.Primitives.{error_string, row_of, row_string}
use Rattle.source_model.specs.Soundness.{body_in}
use Rattle.source_model.specs.State.{State}
use Rattle.plain_words.specs.Going.{At}
use Rattle.plain_words.specs.Putting.{Apart}
use Rattle.plain_words.specs.Translating.{CanTranslate}
use Rattle.plain_words.specs.Units.{unit_code}
use Rattle.plain_runs.specs.Host.{Host}
use Rattle.plain_runs.specs.Services.{data_answers, calls, with_unit, next_unit}
use Rattle.plain_sends.specs.Found.{data_word}
use Rattle.plain_answers.specs.Found.{error_of}
use Rattle.plain_answers.specs.Whole.{whole}
use Rattle.plain_prims.specs.Rows.{primitive_of}
use Rattle.plain_served.specs.Serving.{refusal, MayTestMark}
use Rattle.plain_units.specs.Putting.{IsPut}
use Rattle.plain_unwinds.specs.Services.{CanUnwind, fails_unmarked}
use Rattle.plain_turns.specs.Asking.{count, cost_left, node_here, place_here, goes_back}
use Rattle.plain_turns.specs.Events.{Serves, Meets, Answers, Calls, Puts, Misses, Refuses, Fails as FailsAt, Lacks, Hands}
use Rattle.plain_turns.specs.Handlers.{Fails, Undefined, Applied, IsHandedOver, MeetsMethod, behind_primitive, found_there}
use Rattle.plain_handlers.specs.Handling.{failure_name}
use Rattle.plain_turns.specs.Resting.{IsAtTrap, HasRun}
use Rattle.plain_turns.specs.Turns.{IsThere}
use Rattle.plain_turns.proofs.Handlers.{failures_ask, handlers_are_read, handlers_assign_nothing, handlers_answer, handlers_miss, handlers_meet_methods}
use Rattle.plain_turns.proofs.Primitives.{undefined_end, failures_end}
use Rattle.plain_core.specs.Handing.{FailsBy, HasFailed, with_message, found_by_message}
use Rattle.plain_core.specs.Language.{Language, IsSpoken}
use Rattle.plain_core.specs.Turning.{StandsAt, Quiet, on, again, ended}
use Rattle.plain_core.specs.declared.handing.Failure.{Failure}
use Rattle.plain_core.specs.declared.turning.Turn.TheVariants as turns
use Rattle.plain_core.proofs.Serving.{quietly, quiet_as, told, next_aligned}
use Rattle.plain_core.proofs.Walkable.{ends_handed}

-- What is so where a message to a handler stands in the outs.
pub record AtMessage (g : Host) (target : ℕ) : Type 0 where
  pub running : g.current < length g.statuses
  pub near : count g ≤ target + 1
  pub sums : g.cost + g.machine.regs 3 ≤ 4194304
  pub ends : CanUnwind g
  pub on : g.machine.npc + 4 < 4294967296
  pub low : g.machine.pc + 8 < 4294967296

-- Why a primitive fails.

pub fails_undefined : (l : Language) (h : Host) (name : Name) (args : ℕ) → primitive_of (text_named l.names name.0) args ≡ None → FailsBy l h name args errors.PrimitiveNotDefined
fails_undefined l h name args none = λ from spoken. Undefined (ap (λ (ns : List (List ℕ)). primitive_of (text_named ns name.0) args) spoken.names ∙ none)

-- It has a handler, and these are the words of both strings.
pub has_failed : (l : Language) (h : Host) (name : Name) (args : ℕ) (implied : Bool) (e : ErrorName) (error primitive : ℕ) → node_here h ≡ Some (nodes.Prim name args implied true) → FailsBy l h name args e → slice_get h.references.objects (l.fixed + error_string e) ≡ Some error
    → slice_get h.references.objects (l.fixed + row_string (row_of (text_named l.names name.0) args)) ≡ Some primitive → HasFailed l h (record { name = name; args = args; error = error; primitive = primitive })
has_failed l h name args implied e error primitive node why one two = λ from spoken. record {
  implied = implied;
  node_is = node;
  e = e;
  fails = why from spoken;
  strings = record {
    of_error = ap (λ (k : ℕ). slice_get h.references.objects (k + error_string e)) spoken.fixed ∙ one;
    of_primitive = ap (λ (k : ℕ). slice_get h.references.objects (k + row_string (row_of (text_named from.names name.0) args))) spoken.fixed ∙ ap (λ (ns : List (List ℕ)). slice_get h.references.objects (l.fixed + row_string (row_of (text_named ns name.0) args))) spoken.names ∙ two;
  };
}

-- One that has no handler ends the activity.
module _ (l : Language) (h : Host) (target : ℕ) (at : StandsAt l h 3 target) (name : Name) (args : ℕ) (implied : Bool) (node : node_here h ≡ Some (nodes.Prim name args implied false)) where
  event : (from : State) (e : ErrorName) → Fails h from name args e → Serves h (fails_unmarked 0 (cost_left h) e (place_here h) h)
  event from e (Undefined none) = Lacks at.at.stands 0 (cost_left h) name args implied node
  event from e (Applied p core memory heap err is known was) = FailsAt at.at.stands 0 (cost_left h) name args implied p core memory heap err node was

  ends : (from : State) (out : List ℕ) (e : ErrorName) → IsAtTrap h 3 from target out → Fails h from name args e → HasRun (fails_unmarked 0 (cost_left h) e (place_here h) h) from target out
  ends from out e x (Undefined none) = undefined_end h from target out x name args implied node none 0 (omega arith)
  ends from out e x (Applied p core memory heap err is known was) =
      failures_end h from target out x p args (record { name = name; implied = implied; node_is = node; is = is }) core known memory heap err was 0 (omega arith)

  pub failure_ends : (e : ErrorName) → FailsBy l h name args e → Quiet l 3 h (fails_unmarked 0 (cost_left h) e (place_here h) h) target turns.Ended
  failure_ends e why = quietly l 3 h _ target turns.Ended (event at.from e (why at.from at.spoken)) refl (λ from out spoken x. ended (ends from out e x (why from spoken)))

-- One that has a handler hands over a message.
module _ (l : Language) (h : Host) (target room : ℕ) (f : Failure) (at : StandsAt l h 3 target) (fits : h.next ≤ room) (failed : HasFailed l h f) where
  pub handed_over : IsHandedOver h f.name f.args f.error f.primitive target room
  handed_over = failures_ask h at.from target at.out room at.at fits f.name f.args f.error f.primitive (failed at.from at.spoken)

  hands : (to : Host) → Meets (with_message f h) (found_by_message l room f h) to → Serves h to
  hands to met = let x = failed at.from at.spoken in Hands at.at.stands room l.failure f.name f.args x.implied f.error f.primitive to fits x.node_is met

  -- what the message meets in a state of the session
  met_in : (from : State) → IsSpoken l from → (P : Found → Type 0) → P (found_by_message l room f h) → P (found_there room (failure_name from) (with_message f h))
  met_in from spoken P p = subst (λ (n : ℕ). P (found_there room n (with_message f h))) (sym spoken.failure) p

  pub data_served : (word : ℕ) → data_word (whole (with_message f h)) (found_by_message l room f h) ≡ Some word → Quiet l 3 h (data_answers (target - count h - 1) (cost_left h) word (with_message f h)) target turns.On
  data_served word found = quietly l 3 h _ target turns.On (hands _ (Answers (target - count h - 1) (cost_left h) word found)) refl
      (λ from out spoken x. on refl (handlers_answer h from target out room x fits f.name f.args f.error f.primitive (failed from spoken) word (met_in from spoken (λ (q : Found). data_word (whole (with_message f h)) q ≡ Some word) found)))

  pub miss_served : (e : ErrorName) → error_of (found_by_message l room f h) ≡ Some e → Quiet l 3 h (fails_unmarked 0 (cost_left h) e (place_here h) (with_message f h)) target turns.Ended
  miss_served e found = quietly l 3 h _ target turns.Ended (hands _ (Misses 0 (cost_left h) e found)) refl
      (λ from out spoken x. ended (handlers_miss h from target out room x fits f.name f.args f.error f.primitive (failed from spoken) 0 e (omega arith) (met_in from spoken (λ (q : Found). error_of q ≡ Some e) found)))

  failed_same : (goal cost : ℕ) (e : ErrorName) (place : Place) (y : Host) → cost ≡ cost_left h → place ≡ place_here h → y ≡ with_message f h → fails_unmarked goal cost e place y ≡ fails_unmarked goal (cost_left h) e (place_here h) (with_message f h)
  failed_same goal cost e place y q r k = ap (λ (k : ℕ). fails_unmarked goal k e place y) q ∙ ap (λ (p : Place). fails_unmarked goal (cost_left h) e p y) r ∙ ap (λ (x : Host). fails_unmarked goal (cost_left h) e (place_here h) x) k

  -- behind the message the host is this
  module _ (g : Host) (is : g ≡ with_message f h) where
    pub told_there : AtMessage g target
    told_there =
        let t = told l h 3 target at in
        let P : Host → Type 0 = λ y. AtMessage y target in
        subst P (sym is) (record { running = t.running; near = t.near; sums = t.sums; ends = ends_handed f.args f.error f.primitive h (t.ends (λ (e : 3 ≡ 9). absurd (omega (arith, e)))); on = t.on (λ (e : 3 ≡ 9). absurd (omega (arith, e))); low = t.low })

    pub answered : (to : Host) (left cost word : ℕ) → to ≡ data_answers (left - 1) cost word g → left ≡ target - count h → cost ≡ cost_left h → data_word (whole (with_message f h)) (found_by_message l room f h) ≡ Some word → Quiet l 3 h to target turns.On
    answered to left cost word e p q found =
        quiet_as l 3 h _ to target turns.On turns.On (e ∙ ap (λ (k : ℕ). data_answers (k - 1) cost word g) p ∙ ap (λ (k : ℕ). data_answers (target - count h - 1) k word g) q ∙ ap (λ (y : Host). data_answers (target - count h - 1) (cost_left h) word y) is) refl (data_served word found)

    pub missed : (to : Host) (cost : ℕ) (place : Place) (e : ErrorName) → to ≡ fails_unmarked 0 cost e place g → cost ≡ cost_left h → place ≡ place_here h → error_of (found_by_message l room f h) ≡ Some e → Quiet l 3 h to target turns.Ended
    missed to cost place e is_to q r found = quiet_as l 3 h _ to target turns.Ended turns.Ended (is_to ∙ failed_same 0 cost e place g q r is) refl (miss_served e found)

  pub field_there : (holder place : ℕ) → found_by_message l room f h ≡ One holder (Field place) → HasWord (holder + 7 + 4 * place)
  field_there holder place found =
      handlers_are_read h at.from target at.out room at.at fits f.name f.args f.error f.primitive (failed at.from at.spoken) holder place (met_in at.from at.spoken (λ (q : Found). q ≡ One holder (Field place)) found)

  pub no_assignment : (holder place : ℕ) → found_by_message l room f h ≡ One holder (Assign place) → ⊥
  no_assignment holder place found =
      handlers_assign_nothing h at.from target at.out room at.at fits f.name f.args f.error f.primitive (failed at.from at.spoken) holder place (met_in at.from at.spoken (λ (q : Found). q ≡ One holder (Assign place)) found)

  module _ (holder : ℕ) (c : BodyId) (found : found_by_message l room f h ≡ One holder (Method c)) where
    method_met : (from : State) (out : List ℕ) → IsSpoken l from → IsAtTrap h 3 from target out → MeetsMethod h (with_message f h) from target out f.name f.args holder c
    method_met from out spoken x =
        handlers_meet_methods h from target out room x fits f.name f.args f.error f.primitive (failed from spoken) holder c (met_in from spoken (λ (q : Found). q ≡ One holder (Method c)) found)

    met_here : MeetsMethod h (with_message f h) at.from target at.out f.name f.args holder c
    met_here = method_met at.from at.out at.spoken at.at

    pub method_there : IsThere h c
    method_there = met_here.there

    pub call_served : (entry : ℕ) → slice_get h.entries (c.0 - 1) ≡ Some entry → entry ≢ 0 → refusal (with_message f h) c.0 ≡ None → Quiet l 3 h (calls (target - count h) (cost_left h) entry holder (with_message f h)) target turns.On
    call_served entry there some through = quietly l 3 h _ target turns.On (hands _ (Calls (target - count h) (cost_left h) holder entry c found there through)) refl
        (λ from out spoken x. on refl ((method_met from out spoken x).call entry there some through))

    pub refusal_served : (entry : ℕ) (e : ErrorName) → slice_get h.entries (c.0 - 1) ≡ Some entry → entry ≢ 0 → refusal (with_message f h) c.0 ≡ Some e → Quiet l 3 h (fails_unmarked 0 (cost_left h) e (place_here h) (with_message f h)) target turns.Ended
    refusal_served entry e there some refused = quietly l 3 h _ target turns.Ended (hands _ (Refuses 0 (cost_left h) holder c e found refused)) refl
        (λ from out spoken x. ended ((method_met from out spoken x).refused entry there some 0 e (omega arith) refused))

    pub unit_served : (memory : Words) → slice_get h.entries (c.0 - 1) ≡ Some 0 → IsPut (with_message f h) c.0 memory
        → Quiet l 3 h (goes_back (behind_primitive f.name f.args) (target - count h) (cost_left h) (with_unit c.0 memory (with_message f h))) target turns.On
    unit_served memory none put = quietly l 3 h _ target turns.On (hands _ (Puts (target - count h) (cost_left h) holder (behind_primitive f.name f.args) c memory found put)) refl
        (λ from out spoken x. again ((method_met from out spoken x).put none memory put))

    pub body_given : 0 < c.0
    body_given = method_there.body.0

    pub entry_fits : (entry : ℕ) → slice_get h.entries (c.0 - 1) ≡ Some entry → entry + 4 < 4294967296
    entry_fits entry there = let m = method_there in subst (λ (k : ℕ). k + 4 < 4294967296) (same_Some m.entry entry (sym m.entry_is ∙ there)) m.low

    pub unit_fits : slice_get h.entries (c.0 - 1) ≡ Some 0 → next_unit h + 4 * length (unit_code h.references (body_in h.bodies c.0)) ≤ 0x12000000
    unit_fits none = met_here.fits none

    -- behind the message the host is this
    module _ (g : Host) (is : g ≡ with_message f h) where
      pub translates_there : CanTranslate (body_in g.bodies c.0)
      translates_there = subst (λ (y : Host). CanTranslate (body_in y.bodies c.0)) (sym is) method_there.translates

      pub within_there : c.0 ≤ length g.bodies
      within_there = subst (λ (y : Host). c.0 ≤ length y.bodies) (sym is) method_there.body.1

      pub mark_there : (entry : ℕ) → slice_get h.entries (c.0 - 1) ≡ Some entry → entry ≢ 0 → MayTestMark g c.0
      mark_there entry there some = subst (λ (y : Host). MayTestMark y c.0) (sym is) (met_here.mark entry there some)

      pub room_there : slice_get h.entries (c.0 - 1) ≡ Some 0 → next_unit g + 4 * length (unit_code g.references (body_in g.bodies c.0)) ≤ 0x12000000
      room_there none = subst (λ (y : Host). next_unit y + 4 * length (unit_code y.references (body_in y.bodies c.0)) ≤ 0x12000000) (sym is) (unit_fits none)

      pub called : (to : Host) (entry left cost : ℕ) → to ≡ calls left cost entry holder g → left ≡ target - count h → cost ≡ cost_left h → slice_get h.entries (c.0 - 1) ≡ Some entry → entry ≢ 0 → refusal g c.0 ≡ None → Quiet l 3 h to target turns.On
      called to entry left cost e p q there some through =
          quiet_as l 3 h _ to target turns.On turns.On (e ∙ ap (λ (k : ℕ). calls k cost entry holder g) p ∙ ap (λ (k : ℕ). calls (target - count h) k entry holder g) q ∙ ap (λ (y : Host). calls (target - count h) (cost_left h) entry holder y) is) refl
          (call_served entry there some (ap (λ (y : Host). refusal y c.0) (sym is) ∙ through))

      pub refused : (to : Host) (entry cost : ℕ) (place : Place) (e : ErrorName) → to ≡ fails_unmarked 0 cost e place g → cost ≡ cost_left h → place ≡ place_here h → slice_get h.entries (c.0 - 1) ≡ Some entry → entry ≢ 0 → refusal g c.0 ≡ Some e → Quiet l 3 h to target turns.Ended
      refused to entry cost place e is_to q r there some why =
          quiet_as l 3 h _ to target turns.Ended turns.Ended (is_to ∙ failed_same 0 cost e place g q r is) refl (refusal_served entry e there some (ap (λ (y : Host). refusal y c.0) (sym is) ∙ why))

      module _ (mid : Host) (none : slice_get h.entries (c.0 - 1) ≡ Some 0) (unit : mid ≡ with_unit c.0 mid.machine.memory g) (code : At mid.machine.memory (next_unit g) (unit_code g.references (body_in g.bodies c.0))) (apart : Apart g.machine.memory mid.machine.memory (next_unit g) (length (unit_code g.references (body_in g.bodies c.0)))) (whole_now : IsWhole mid.machine) where
        is_put : IsPut g c.0 mid.machine.memory
        is_put = record {
          given = method_there.body.0;
          known = within_there;
          none = subst (λ (y : Host). slice_get y.entries (c.0 - 1) ≡ Some 0) (sym is) none;
          region = record { aligned = next_aligned g; from = omega arith; to = room_there none };
          code = code;
          apart = apart;
          within = whole_now.memory_within;
        }

        pub back_there : behind_primitive f.name f.args ≤ mid.machine.pc
        back_there =
            let low = subst (λ (y : Host). behind_primitive f.name f.args ≤ y.machine.pc) (sym is) handed_over.back in
            subst (λ (y : Host). behind_primitive f.name f.args ≤ y.machine.pc) (sym unit) low

        pub unit_put : (to : Host) (left cost back : ℕ) → to ≡ goes_back back left cost mid → left ≡ target - count h → cost ≡ cost_left h → back ≡ behind_primitive f.name f.args → Quiet l 3 h to target turns.On
        unit_put to left cost back e p q b =
            let memory = mid.machine.memory in
            let far = behind_primitive f.name f.args in
            let put : IsPut (with_message f h) c.0 memory = subst (λ (y : Host). IsPut y c.0 memory) is is_put in
            let moved : goes_back back left cost mid ≡ goes_back far (target - count h) (cost_left h) (with_unit c.0 memory (with_message f h))
            = ap (λ (k : ℕ). goes_back k left cost mid) b ∙ ap (λ (k : ℕ). goes_back far k cost mid) p ∙ ap (λ (k : ℕ). goes_back far (target - count h) k mid) q ∙ ap (λ (y : Host). goes_back far (target - count h) (cost_left h) y) (unit ∙ ap (λ (y : Host). with_unit c.0 memory y) is) in
            quiet_as l 3 h _ to target turns.On turns.On (e ∙ moved) refl (unit_served memory none put)
