-- Each service as a turn.
use Rattle.std.proofs.Common.{◌≡◌, ◌≢◌, ℕ, zero, suc, ◌+◌, ◌*◌, ◌-◌, ◌%◌, ◌<◌, ◌≤◌, List, [], ◌∷◌, ◌++◌, refl, ◌∙◌, ap, sym, subst, arith, inl, inr}
use Rattle.std.specs.Prelude.{Option, Some, None, slice_get, get_or, length}
use Rattle.std.specs.Option.{option_and_then}
use Rattle.std.proofs.lemmas.Option.{same_Some}
use Rattle.self_terms.specs.declared.errors.ErrorName.{ErrorName}
use Rattle.self_terms.specs.declared.errors.ErrorName.TheVariants as errors
use Rattle.self_terms.specs.declared.nodes.Selector.{Selector}
use Rattle.self_terms.specs.declared.values.BodyId.{BodyId}
use Rattle.object_maps.specs.declared.maps.SlotKind.TheVariants.{Field, Assign, Method}
use Rattle.slot_lookup.specs.declared.sends.Found.TheVariants.{One}
use Rattle.source_model.specs.Soundness.{body_in}
use Rattle.source_model.specs.State.{State}
use Rattle.sparc_store.specs.Words.{Words, HasWord}
use Rattle.sparc_machine.specs.State.{IsWhole}
use Rattle.plain_words.specs.Units.{unit_code}
use Rattle.plain_words.specs.Going.{At}
use Rattle.plain_words.specs.Putting.{Apart}
use Rattle.plain_sends.specs.Found.{data_word}
use Rattle.plain_sends.specs.Sends.{selector_of}
use Rattle.plain_runs.specs.Host.{Host}
use Rattle.plain_runs.specs.declared.status.Status.{Status}
use Rattle.plain_runs.specs.declared.status.Status.TheVariants.{Waiting}
use Rattle.plain_runs.specs.Services.{data_answers, assigns, calls, with_unit, waits, ends, next_unit}
use Rattle.plain_answers.specs.Found.{error_of}
use Rattle.plain_answers.specs.Whole.{whole}
use Rattle.plain_served.specs.Serving.{refusal, MayTestMark}
use Rattle.plain_units.specs.Putting.{IsPut}
use Rattle.plain_unwinds.specs.Services.{CanUnwind, fails_unmarked, unwinds}
use Rattle.plain_turns.specs.Asking.{count, cost_left, node_here, place_here, found_here, behind_poll, goes_back}
use Rattle.plain_turns.specs.Events.{Serves, Waits, Sends, Answers, Assigns, Calls, Puts, Misses, Refuses, Returns, Fills, Ends}
use Rattle.plain_turns.specs.Resting.{IsAtTrap}
use Rattle.plain_turns.specs.Rooms.{unmade}
use Rattle.plain_turns.specs.Turns.{IsAsked, IsThere, AtTrap, is_over}
use Rattle.plain_core.specs.Language.{Language, IsSpoken}
use Rattle.plain_core.specs.Turning.{StandsAt, Quiet, Turned, on, again, ended}
use Rattle.plain_core.specs.declared.turning.Turn.{Turn}
use Rattle.plain_core.specs.declared.turning.Turn.TheVariants as turns
use Rattle.plain_turns.proofs.Answering.{data_turns, assignments_turn, misses_end}
use Rattle.plain_turns.proofs.Asked.{messages_ask, fields_are_read}
use Rattle.plain_turns.proofs.Ending.{goals_end, answers_end, stores_fill}
use Rattle.plain_turns.proofs.Putting.{methods_there, units_fit, units_turn}
use Rattle.plain_turns.proofs.Returning.{returns_turn}
use Rattle.plain_turns.proofs.Running.{traps_tell}
use Rattle.plain_turns.proofs.Served.{marks_may_be_tested, calls_turn, refusals_end}
use Rattle.plain_core.proofs.Fronts.{no_more, takes_none}
use Rattle.plain_core.proofs.Keeping.{unwound_entries, unwound_objects, unwound_current}

pub told : (l : Language) (h : Host) (trap target : ℕ) → StandsAt l h trap target → AtTrap h trap target
told l h trap target at = traps_tell h trap at.from target at.out at.at

pub asked : (l : Language) (h : Host) (target room : ℕ) → StandsAt l h 1 target → h.next ≤ room → IsAsked h target room
asked l h target room at fits = messages_ask h at.from target at.out room at.at fits

-- A service that prints nothing.
silently : (h to : Host) (from : State) (target : ℕ) (out : List ℕ) (t : Turn) → Turned h to from target out t → Turned h to from target (out ++ []) t
silently h to from target out t k = let P : List ℕ → Type 0 = λ ys. Turned h to from target ys t in subst P (sym (no_more out)) k

pub quietly : (l : Language) (trap : ℕ) (h to : Host) (target : ℕ) (t : Turn) → Serves h to → to.next ≡ h.next → ((from : State) (out : List ℕ) → IsSpoken l from → IsAtTrap h trap from target out → Turned h to from target out t) → Quiet l trap h to target t
quietly l trap h to target t serves objects turned = record {
  served = λ taken. record {
    serves = serves;
    said = [];
    takes = takes_none taken;
    turned = λ from out spoken x. silently h to from target out t (turned from out spoken x);
  };
  objects = objects;
}

pub quiet_as : (l : Language) (trap : ℕ) (h one two : Host) (target : ℕ) (t u : Turn) → two ≡ one → u ≡ t → Quiet l trap h one target t → Quiet l trap h two target u
quiet_as l trap h one two target t u e f q =
    let P : Host → Type 0 = λ y. Quiet l trap h y target u in
    let Q : Turn → Type 0 = λ k. Quiet l trap h one target k in
    subst P (sym e) (subst Q (sym f) q)

module _ (l : Language) (h : Host) (target : ℕ) where
  pub wait_served : StandsAt l h 2 target → Quiet l 2 h (waits 0 (cost_left h) h) target turns.Ended
  wait_served at = quietly l 2 h _ target turns.Ended (Waits at.at.stands 0 (cost_left h)) refl (λ from out spoken x. ended ((goals_end h from target out x).1 0 (omega arith)))

  pub end_served : StandsAt l h 9 target → Quiet l 9 h (ends 0 (cost_left h) h) target turns.Ended
  end_served at = quietly l 9 h _ target turns.Ended (Ends at.at.stands 0 (cost_left h)) refl (λ from out spoken x. ended (answers_end h from target out x 0 (omega arith)))

  pub fill_served : StandsAt l h 8 target → Quiet l 8 h (fails_unmarked 0 (cost_left h) errors.StoreFull (place_here h) h) target turns.Ended
  fill_served at = quietly l 8 h _ target turns.Ended (Fills at.at.stands 0 (cost_left h)) refl (λ from out spoken x. ended (stores_fill h from target out x 0 (omega arith)))

  pub home_ends : StandsAt l h 4 target → CanUnwind h
  home_ends at = (told l h 4 target at).ends (λ (e : 4 ≡ 9). absurd (omega (arith, e)))

  abbrev home : Host
  home = unwinds (target - count h - 1) (cost_left h) h

  pub home_left : StandsAt l h 4 target → count h < target
  home_left at = (returns_turn h at.from target at.out at.at).left

  pub home_on : StandsAt l h 4 target → (sp pc known : ℕ) → slice_get home.statuses h.current ≡ Some (Waiting sp pc known) → Quiet l 4 h home target turns.On
  home_on at sp pc known waits = quietly l 4 h home target turns.On (Returns at.at.stands (target - count h - 1) (cost_left h)) (unwound_objects (target - count h - 1) (cost_left h) h)
      (λ from out spoken x. on (ap unmade (unwound_entries (target - count h - 1) (cost_left h) h)) ((returns_turn h from target out x).on sp pc known waits))

  pub home_ended : StandsAt l h 4 target → ((sp pc known : ℕ) → slice_get home.statuses h.current ≢ Some (Waiting sp pc known)) → Quiet l 4 h home target turns.Ended
  home_ended at over =
      let is : is_over home = λ sp pc known e. over sp pc known (ap (λ (k : ℕ). slice_get home.statuses k) (sym (unwound_current (target - count h - 1) (cost_left h) h)) ∙ e) in
      quietly l 4 h home target turns.Ended (Returns at.at.stands (target - count h - 1) (cost_left h)) (unwound_objects (target - count h - 1) (cost_left h) h)
      (λ from out spoken x. ended ((returns_turn h from target out x).over is))

-- Those of messages.
module _ (l : Language) (h : Host) (target room : ℕ) (at : StandsAt l h 1 target) (fits : h.next ≤ room) where
  pub data_served : (word : ℕ) → data_word (whole h) (found_here room h) ≡ Some word → Quiet l 1 h (data_answers (target - count h - 1) (cost_left h) word h) target turns.On
  data_served word found = quietly l 1 h _ target turns.On (Sends at.at.stands room (data_answers (target - count h - 1) (cost_left h) word h) fits (Answers (target - count h - 1) (cost_left h) word found)) refl (λ from out spoken x. on refl (data_turns h from target out room x fits word found))

  pub assignment_served : (holder place : ℕ) → found_here room h ≡ One holder (Assign place) → Quiet l 1 h (assigns (target - count h - 1) (cost_left h) (holder + 7 + 4 * place) h) target turns.On
  assignment_served holder place found = quietly l 1 h _ target turns.On (Sends at.at.stands room (assigns (target - count h - 1) (cost_left h) (holder + 7 + 4 * place) h) fits (Assigns (target - count h - 1) (cost_left h) holder place found)) refl
      (λ from out spoken x. on refl (assignments_turn h from target out room x fits holder place found))

  pub miss_served : (e : ErrorName) → error_of (found_here room h) ≡ Some e → Quiet l 1 h (fails_unmarked 0 (cost_left h) e (place_here h) h) target turns.Ended
  miss_served e found = quietly l 1 h _ target turns.Ended (Sends at.at.stands room (fails_unmarked 0 (cost_left h) e (place_here h) h) fits (Misses 0 (cost_left h) e found)) refl (λ from out spoken x. ended (misses_end h from target out room x fits 0 e (omega arith) found))

  module _ (holder : ℕ) (c : BodyId) (found : found_here room h ≡ One holder (Method c)) where
    pub method_there : IsThere h c
    method_there = methods_there h at.from target at.out room at.at fits holder c found

    pub entry_fits : (entry : ℕ) → slice_get h.entries (c.0 - 1) ≡ Some entry → entry + 4 < 4294967296
    entry_fits entry there = let m = method_there in subst (λ (k : ℕ). k + 4 < 4294967296) (same_Some m.entry entry (sym m.entry_is ∙ there)) m.low

    pub mark_there : (entry : ℕ) → slice_get h.entries (c.0 - 1) ≡ Some entry → entry ≢ 0 → MayTestMark h c.0
    mark_there entry there some = marks_may_be_tested h at.from target at.out room at.at fits holder entry c found there some

    pub call_served : (entry : ℕ) → slice_get h.entries (c.0 - 1) ≡ Some entry → entry ≢ 0 → refusal h c.0 ≡ None → Quiet l 1 h (calls (target - count h) (cost_left h) entry holder h) target turns.On
    call_served entry there some through = quietly l 1 h _ target turns.On (Sends at.at.stands room (calls (target - count h) (cost_left h) entry holder h) fits (Calls (target - count h) (cost_left h) holder entry c found there through)) refl
        (λ from out spoken x. on refl (calls_turn h from target out room x fits holder entry c found there some through))

    pub refusal_served : (entry : ℕ) (e : ErrorName) → slice_get h.entries (c.0 - 1) ≡ Some entry → entry ≢ 0 → refusal h c.0 ≡ Some e → Quiet l 1 h (fails_unmarked 0 (cost_left h) e (place_here h) h) target turns.Ended
    refusal_served entry e there some refused = quietly l 1 h _ target turns.Ended (Sends at.at.stands room (fails_unmarked 0 (cost_left h) e (place_here h) h) fits (Refuses 0 (cost_left h) holder c e found refused)) refl
        (λ from out spoken x. ended (refusals_end h from target out room x fits 0 holder entry c e (omega arith) found there some refused))

    pub unit_served : (memory : Words) → slice_get h.entries (c.0 - 1) ≡ Some 0 → IsPut h c.0 memory
        → Quiet l 1 h (goes_back (behind_poll (asked l h target room at fits).selector.args) (target - count h) (cost_left h) (with_unit c.0 memory h)) target turns.On
    unit_served memory none put =
        let a = asked l h target room at fits in
        quietly l 1 h _ target turns.On (Sends at.at.stands room (goes_back (behind_poll a.selector.args) (target - count h) (cost_left h) (with_unit c.0 memory h)) fits (Puts (target - count h) (cost_left h) holder (behind_poll a.selector.args) c memory found put)) refl
        (λ from out spoken x. again (units_turn h from target out room x fits a holder c found none memory put))

-- What the calls tell, put together.

pub none_or : {X : Type 0} (xs : List X) (i : ℕ) (d : X) → slice_get xs i ≡ None → d ≡ get_or xs i d
none_or [] zero d e = refl
none_or [] (suc i) d e = refl
none_or (x ∷ xs) zero d e = absurd (cc)
none_or (x ∷ xs) (suc i) d e = none_or xs i d e

pub word_small : (at : ℕ) → HasWord at → at < 4294967296
word_small at (a, b) = elim b [ inl c ↦ omega (arith, c.1) | inr c ↦ elim c [ inl d ↦ omega (arith, d.1) | inr d ↦ elim d [ inl e ↦ omega (arith, e.1) | inr e ↦ omega (arith, e.1) ] ] ]

pub field_there : (l : Language) (h : Host) (target room holder place : ℕ) → StandsAt l h 1 target → h.next ≤ room → found_here room h ≡ One holder (Field place) → HasWord (holder + 7 + 4 * place)
field_there l h target room holder place at fits found = fields_are_read h at.from target at.out room at.at fits holder place (inl found)

pub assigned_there : (l : Language) (h : Host) (target room holder place : ℕ) → StandsAt l h 1 target → h.next ≤ room → found_here room h ≡ One holder (Assign place) → HasWord (holder + 7 + 4 * place)
assigned_there l h target room holder place at fits found = fields_are_read h at.from target at.out room at.at fits holder place (inr found)

module _ {l : Language} {h to : Host} {target room : ℕ} where
  pub answered : (cost word left : ℕ) → to ≡ data_answers (left - 1) cost word h → left ≡ target - count h → cost ≡ cost_left h → StandsAt l h 1 target → h.next ≤ room → data_word (whole h) (found_here room h) ≡ Some word → Quiet l 1 h to target turns.On
  answered cost word left e f g at fits found =
      quiet_as l 1 h _ to target turns.On turns.On (e ∙ ap (λ (k : ℕ). data_answers (k - 1) cost word h) f ∙ ap (λ (k : ℕ). data_answers (target - count h - 1) k word h) g) refl (data_served l h target room at fits word found)

  pub assigned : (cost holder place left : ℕ) → to ≡ assigns (left - 1) cost (holder + 7 + 4 * place) h → left ≡ target - count h → cost ≡ cost_left h → StandsAt l h 1 target → h.next ≤ room → found_here room h ≡ One holder (Assign place) → Quiet l 1 h to target turns.On
  assigned cost holder place left e f g at fits found =
      quiet_as l 1 h _ to target turns.On turns.On (e ∙ ap (λ (k : ℕ). assigns (k - 1) cost (holder + 7 + 4 * place) h) f ∙ ap (λ (k : ℕ). assigns (target - count h - 1) k (holder + 7 + 4 * place) h) g) refl (assignment_served l h target room at fits holder place found)

  pub called : (cost holder entry left : ℕ) (c : BodyId) → to ≡ calls left cost entry holder h → left ≡ target - count h → cost ≡ cost_left h → StandsAt l h 1 target → h.next ≤ room → found_here room h ≡ One holder (Method c) → slice_get h.entries (c.0 - 1) ≡ Some entry → entry ≢ 0
      → refusal h c.0 ≡ None → Quiet l 1 h to target turns.On
  called cost holder entry left c e f g at fits found there some through =
      quiet_as l 1 h _ to target turns.On turns.On (e ∙ ap (λ (k : ℕ). calls k cost entry holder h) f ∙ ap (λ (k : ℕ). calls (target - count h) k entry holder h) g) refl (call_served l h target room at fits holder c found entry there some through)

home_is : (h to : Host) (target left cost : ℕ) → to ≡ unwinds (left - 1) cost h → left ≡ target - count h → cost ≡ cost_left h → to ≡ unwinds (target - count h - 1) (cost_left h) h
home_is h to target left cost e f g = e ∙ ap (λ (k : ℕ). unwinds (k - 1) cost h) f ∙ ap (λ (k : ℕ). unwinds (target - count h - 1) k h) g

module _ {l : Language} {h to : Host} {target : ℕ} where
  pub waited : (cost : ℕ) → to ≡ waits 0 cost h → cost ≡ cost_left h → StandsAt l h 2 target → Quiet l 2 h to target turns.Ended
  waited cost e f at = quiet_as l 2 h _ to target turns.Ended turns.Ended (e ∙ ap (λ (k : ℕ). waits 0 k h) f) refl (wait_served l h target at)

  pub ended_by : (cost : ℕ) → to ≡ ends 0 cost h → cost ≡ cost_left h → StandsAt l h 9 target → Quiet l 9 h to target turns.Ended
  ended_by cost e f at = quiet_as l 9 h _ to target turns.Ended turns.Ended (e ∙ ap (λ (k : ℕ). ends 0 k h) f) refl (end_served l h target at)

  pub went_home : (left cost current : ℕ) (o : Option Status) (sp pc known : ℕ) → to ≡ unwinds (left - 1) cost h → left ≡ target - count h → cost ≡ cost_left h → StandsAt l h 4 target → current ≡ h.current → o ≡ slice_get to.statuses current → o ≡ Some (Waiting sp pc known) → Quiet l 4 h to target turns.On
  went_home left cost current o sp pc known e f g at same status waits =
      let is = home_is h to target left cost e f g in
      let told_status = ap (λ (y : Host). slice_get y.statuses h.current) (sym is) ∙ ap (λ (k : ℕ). slice_get to.statuses k) (sym same) ∙ sym status ∙ waits in
      quiet_as l 4 h _ to target turns.On turns.On is refl (home_on l h target at sp pc known told_status)

  pub was_home : (left cost current : ℕ) (o : Option Status) → to ≡ unwinds (left - 1) cost h → left ≡ target - count h → cost ≡ cost_left h → StandsAt l h 4 target → current ≡ h.current → o ≡ slice_get to.statuses current → ((sp pc known : ℕ) → o ≢ Some (Waiting sp pc known)) → Quiet l 4 h to target turns.Ended
  was_home left cost current o e f g at same status over =
      let is = home_is h to target left cost e f g in
      quiet_as l 4 h _ to target turns.Ended turns.Ended is refl (home_ended l h target at (λ sp pc known k. over sp pc known (status ∙ ap (λ (k : ℕ). slice_get to.statuses k) same ∙ ap (λ (y : Host). slice_get y.statuses h.current) is ∙ k)))

-- units stand at addresses that 4 divides
aligned_by : (k : ℕ) → (0x10000400 + 4 * k) % 4 ≡ 0
aligned_by k = omega arith

pub next_aligned : (h : Host) → next_unit h % 4 ≡ 0
next_aligned h = aligned_by (length h.points)

pub back_is : (l : Language) (h : Host) (target room back : ℕ) (at : StandsAt l h 1 target) (fits : h.next ≤ room) → ((s : Selector) → option_and_then selector_of (node_here h) ≡ Some s → back ≡ behind_poll s.args) → back ≡ behind_poll (asked l h target room at fits).selector.args
back_is l h target room back at fits told_by =
    let a = asked l h target room at fits in
    told_by a.selector (ap (option_and_then selector_of) a.node_is ∙ a.sends)

-- A unit that was put.
module _ (l : Language) (h mid : Host) (target room holder : ℕ) (c : BodyId) (at : StandsAt l h 1 target) (fits : h.next ≤ room) (found : found_here room h ≡ One holder (Method c)) (none : slice_get h.entries (c.0 - 1) ≡ Some 0) where
  pub unit_fits : next_unit h + 4 * length (unit_code h.references (body_in h.bodies c.0)) ≤ 0x12000000
  unit_fits = units_fit h at.from target at.out room at.at fits holder c found none

  pub is_put : mid ≡ with_unit c.0 mid.machine.memory h → At mid.machine.memory (next_unit h) (unit_code h.references (body_in h.bodies c.0))
      → Apart h.machine.memory mid.machine.memory (next_unit h) (length (unit_code h.references (body_in h.bodies c.0))) → IsWhole mid.machine → IsPut h c.0 mid.machine.memory
  is_put is code apart whole_now =
      let there = (method_there l h target room at fits holder c found).body in
      record {
        given = there.0;
        known = there.1;
        none = none;
        region = record { aligned = next_aligned h; from = omega arith; to = unit_fits };
        code = code;
        apart = apart;
        within = whole_now.memory_within;
      }

  pub unit_put : (to : Host) (left cost back : ℕ) → to ≡ goes_back back left cost mid → left ≡ target - count h → cost ≡ cost_left h → ((s : Selector) → option_and_then selector_of (node_here h) ≡ Some s → back ≡ behind_poll s.args)
      → mid ≡ with_unit c.0 mid.machine.memory h → IsPut h c.0 mid.machine.memory → Quiet l 1 h to target turns.On
  unit_put to left cost back e f g backs is put =
      let b = back_is l h target room back at fits backs in
      let memory = mid.machine.memory in
      let far = behind_poll (asked l h target room at fits).selector.args in
      let moved : goes_back back left cost mid ≡ goes_back far (target - count h) (cost_left h) (with_unit c.0 memory h)
      = ap (λ (k : ℕ). goes_back k left cost mid) b ∙ ap (λ (k : ℕ). goes_back far k cost mid) f ∙ ap (λ (k : ℕ). goes_back far (target - count h) k mid) g ∙ ap (λ (y : Host). goes_back far (target - count h) (cost_left h) y) is in
      quiet_as l 1 h _ to target turns.On turns.On (e ∙ moved) refl (unit_served l h target room at fits holder c found memory none put)
