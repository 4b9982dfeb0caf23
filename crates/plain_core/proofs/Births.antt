-- What a spawn comes to.
use Rattle.std.proofs.Common.{◌≡◌, ◌≢◌, ℕ, zero, suc, ◌+◌, ◌*◌, ◌-◌, ◌%◌, ◌^◌, ◌<◌, ◌≤◌, List, [], ◌∷◌, refl, ◌∙◌, ap, sym, subst, arith, inl, inr}
use Rattle.std.specs.Prelude.{◌⊎◌, ◌&&◌, nat_lt, Bool, true, false, if◌then◌else◌, Option, Some, None, slice_get, length}
use Rattle.std.proofs.lemmas.Bool.{cond-true, cond-false}
use Rattle.std.proofs.lemmas.Option.{same_Some}
use Rattle.self_terms.specs.declared.bodies.Body.{Body}
use Rattle.self_terms.specs.declared.errors.ErrorName.TheVariants as errors
use Rattle.self_terms.specs.declared.values.BodyId.{BodyId}
use Rattle.self_terms.specs.declared.values.Value.TheVariants as values
use Rattle.object_maps.specs.Slots.{Slots}
use Rattle.object_maps.specs.Sound.{IsSound, IsValue}
use Rattle.object_maps.specs.declared.maps.SlotKind.TheVariants.{Method as MethodKind}
use Rattle.slot_lookup.specs.declared.sends.Found.{Found}
use Rattle.slot_lookup.specs.declared.sends.Found.TheVariants.{One}
use Rattle.source_model.specs.declared.objects.Content.TheVariants.{Method}
use Rattle.source_model.specs.Formed.{IsFormed}
use Rattle.source_model.specs.Messages.{Met, Holds, meets}
use Rattle.source_model.specs.Script.{Spawn, spawn, command}
use Rattle.source_model.specs.Soundness.{body_in, HasBody}
use Rattle.source_model.specs.State.{State, Reached}
use Rattle.source_model.proofs.Accepting.{MetFits, meets_fit}
use Rattle.sparc_store.specs.Words.{Words}
use Rattle.sparc_store.specs.Windows.{CanFlush}
use Rattle.sparc_machine.specs.State.{IsWhole, stack_of}
use Rattle.plain_words.specs.Going.{At}
use Rattle.plain_words.specs.Moves.{HasRoom}
use Rattle.plain_words.specs.Putting.{Apart}
use Rattle.plain_words.specs.Translating.{CanTranslate}
use Rattle.plain_words.specs.Units.{unit_code, owns_context}
use Rattle.plain_runs.specs.Host.{Host}
use Rattle.plain_runs.specs.declared.status.Status.{Status}
use Rattle.plain_runs.specs.declared.status.Status.TheVariants.{Waiting, Answered, Failed}
use Rattle.plain_runs.specs.Services.{next_unit, with_unit, parked_by, begins}
use Rattle.plain_answers.specs.Found.{IsMethod}
use Rattle.plain_lookups.specs.Telling.{MayLook, IsEvaluated}
use Rattle.plain_lookups.proofs.Telling.{values_told, may}
use Rattle.plain_units.specs.Putting.{IsPut}
use Rattle.plain_evaluates.specs.Evaluates.{context_words}
use Rattle.plain_spawns.specs.Spawns.{begins_with_context}
use Rattle.plain_turns.specs.Resting.{Rests}
use Rattle.plain_births.specs.Births.{born, is_costly, HasRoomThere}
use Rattle.plain_births.specs.Meeting.{message, lobby_meets, lobby_finds, refusal}
use Rattle.plain_births.proofs.Units.{units_fit_there, units_rest}
use Rattle.plain_births.proofs.Meeting.{births_meet, four_are_most}
use Rattle.plain_births.proofs.Beginning.{births_rest, births_fill, contexts_have_room}
use Rattle.plain_births.proofs.Flushing.{frames_may_flush}
use Rattle.plain_core.specs.Spawning.{CanSpawn, IsRefused, IsBirth, IsReady}
use Rattle.plain_core.specs.declared.spawning.Birth.TheVariants.{Begun, Refused, TooMany}

-- A method that was found for a name.

-- its body is there, and has its entry
pub record IsFound (h : Host) (c : BodyId) : Type 0 where
  pub given : HasBody h.bodies c.0
  pub translates : CanTranslate (body_in h.bodies c.0)
  pub entry : ℕ
  pub entry_is : slice_get h.entries (c.0 - 1) ≡ Some entry
  pub low : entry ≤ 0x12000000

given_by : (home : ℕ → ℕ) (s : State) (formed : IsFormed home s) (name o : ℕ) (c : BodyId) → MetFits home s formed (values.Object 0) name (Holds o (Method c)) → HasBody s.bodies c.0
given_by home s formed name o c (inl e) = e.1.0
given_by home s formed name o c (inr e) = absurd e.1

no_entry : (xs : List ℕ) (k : ℕ) → slice_get xs k ≡ None → length xs ≤ k
no_entry [] k e = omega arith
no_entry (y ∷ ys) zero e = absurd (cc)
no_entry (y ∷ ys) (suc k) e = omega (arith, no_entry ys k e)

module _ (h : Host) (s : State) (r : Rests h s) (name : ℕ) where
  own_method : (holder lobby : ℕ) (c : BodyId) (met : Met) → IsMethod r.sense s met holder c ⊎ IsEvaluated r.sense s (Some (values.Object 0)) met name holder c lobby → IsMethod r.sense s met holder c
  own_method holder lobby c met (inl m) = m
  own_method holder lobby c met (inr x) = absurd (let e : Some (values.Object 0) ≡ Some (values.Block x.block x.maker) = x.receiver_is in cc)

  entry_at : (c : BodyId) → HasBody h.bodies c.0 → (o : Option ℕ) → slice_get h.entries (c.0 - 1) ≡ o → (at : ℕ) × (slice_get h.entries (c.0 - 1) ≡ Some at) × (at ≤ 0x12000000)
  entry_at c given None is = absurd (omega (arith, no_entry h.entries (c.0 - 1) is, r.ready.room.each, given.0, given.1))
  entry_at c given (Some zero) is = (0, is, omega arith)
  entry_at c given (Some (suc a)) is =
      let u = r.sound.hosted.units c.0 (suc a) given.0 is (λ z. absurd (omega (arith, z))) in
      (suc a, is, omega (arith, u.region.to))

  method_found : (holder : ℕ) (c : BodyId) → IsMethod r.sense s (meets s (values.Object 0) name) holder c → IsFound h c
  method_found holder c m =
      let home = r.formed.0 in
      let P : Met → Type 0 = MetFits home s r.formed.1 (values.Object 0) name in
      let there : HasBody s.bodies c.0 = given_by home s r.formed.1 name m.object c (subst P m.met_is (meets_fit home s r.formed.1 (values.Object 0) name)) in
      let given : HasBody h.bodies c.0 = subst (λ bs. HasBody bs c.0) (sym r.sound.stands.bodies) there in
      let at = entry_at c given (slice_get h.entries (c.0 - 1)) refl in
      record { given = given; translates = (r.sound.runs c.0).translates; entry = at.0; entry_is = at.1; low = at.2 }

  module _ (lobby room : ℕ) (is : slice_get h.references.objects 0 ≡ Some lobby) (far : h.next ≤ room) where
    there : slice_get r.sense.places.objects 0 ≡ Some lobby
    there = r.sound.stands.objects 0 lobby is

    enough : length s.things ≤ room
    enough = let many : h.next ≡ length s.things = r.sound.stands.stands.heap.numbered in omega (arith, many, far)

    pub may_look : MayLook h.maps h.machine.memory room lobby
    may_look = may r.sense h s r.sound.stands h.machine.memory (values.Object 0) lobby room refl there enough

    pub is_found : (holder : ℕ) (c : BodyId) → lobby_finds room h lobby name ≡ One holder (MethodKind c) → IsFound h c
    is_found holder c e =
        let told = values_told r.sense h s r.sound.stands (values.Object 0) lobby name room there enough in
        method_found holder c (own_method holder lobby c (meets s (values.Object 0) name) (told.method holder c e))

-- Its unit.

aligned_by : (k : ℕ) → (0x10000400 + 4 * k) % 4 ≡ 0
aligned_by k = omega arith

next_aligned : (h : Host) → next_unit h % 4 ≡ 0
next_aligned h = aligned_by (length h.points)

pub ready_there : (h : Host) (c : BodyId) (at : ℕ) → IsFound h c → slice_get h.entries (c.0 - 1) ≡ Some at → at ≢ 0 → IsReady h h c.0 at
ready_there h c at m is some = record {
  rests = λ s r. (r, refl);
  unit = is;
  some = some;
  low = subst (λ (k : ℕ). k ≤ 0x12000000) (same_Some m.entry at (sym m.entry_is ∙ is)) m.low;
  bodies = refl;
  statuses = refl;
  references = refl;
  objects = refl;
  cost = refl;
  counted = refl;
}

ready_with : (h : Host) (s : State) (c : ℕ) (memory : Words) → Rests h s → IsPut h c memory → IsReady h (with_unit c memory h) c (next_unit h)
ready_with h s c memory r put = record {
  rests = λ x q. let p = units_rest h x c memory q put in (p.rests, p.same);
  unit = (units_rest h s c memory r put).unit;
  some = λ z. absurd (omega (arith, z));
  low = omega (arith, put.region.to);
  bodies = refl;
  statuses = refl;
  references = refl;
  objects = refl;
  cost = refl;
  counted = refl;
}

module _ (h mid : Host) (s : State) (c : BodyId) (r : Rests h s) (m : IsFound h c) (none : slice_get h.entries (c.0 - 1) ≡ Some 0) where
  pub unit_fits : next_unit h + 4 * length (unit_code h.references (body_in h.bodies c.0)) ≤ 0x12000000
  unit_fits = units_fit_there h s c.0 r m.given none

  pub is_put : At mid.machine.memory (next_unit h) (unit_code h.references (body_in h.bodies c.0)) → Apart h.machine.memory mid.machine.memory (next_unit h) (length (unit_code h.references (body_in h.bodies c.0))) → IsWhole mid.machine
      → IsPut h c.0 mid.machine.memory
  is_put code apart whole = record {
    given = m.given.0;
    known = m.given.1;
    none = none;
    region = record { aligned = next_aligned h; from = omega arith; to = unit_fits };
    code = code;
    apart = apart;
    within = whole.memory_within;
  }

  pub ready_put : (at : ℕ) → at ≡ next_unit h → mid ≡ with_unit c.0 mid.machine.memory h → At mid.machine.memory (next_unit h) (unit_code h.references (body_in h.bodies c.0))
      → Apart h.machine.memory mid.machine.memory (next_unit h) (length (unit_code h.references (body_in h.bodies c.0))) → IsWhole mid.machine → IsReady h mid c.0 at
  ready_put at at_is is code apart whole =
      let memory = mid.machine.memory in
      let put = is_put code apart whole in
      let P : Host → Type 0 = λ y. IsReady h y c.0 (next_unit h) in
      let Q : ℕ → Type 0 = λ k. IsReady h mid c.0 k in
      subst Q (sym at_is) (subst P (sym is) (ready_with h s c.0 memory r put))

-- The command.

is_spawned : (text : List ℕ) (stop : ℕ) (q : Reached) → command (Spawn text) stop q ≡ spawn text q
unfolding command
is_spawned text stop q = refl

-- Its activity.

parks_objects : (h : Host) (x : Option Status) → (parked_by x h).next ≡ h.next
parks_objects h None = refl
parks_objects h (Some (Waiting sp pc n)) = refl
parks_objects h (Some (Answered w)) = refl
parks_objects h (Some (Failed e p)) = refl

parks_references : (h : Host) (x : Option Status) → (parked_by x h).references ≡ h.references
parks_references h None = refl
parks_references h (Some (Waiting sp pc n)) = refl
parks_references h (Some (Answered w)) = refl
parks_references h (Some (Failed e p)) = refl

module _ (h : Host) (b at lobby holder : ℕ) where
  born_objects : (owns : Bool) → (if owns then begins_with_context b at lobby holder h else begins b at lobby holder h).next ≡ h.next
  born_objects true = parks_objects h (slice_get h.statuses h.current)
  born_objects false = parks_objects h (slice_get h.statuses h.current)

  born_references : (owns : Bool) → (if owns then begins_with_context b at lobby holder h else begins b at lobby holder h).references ≡ h.references
  born_references true = parks_references h (slice_get h.statuses h.current)
  born_references false = parks_references h (slice_get h.statuses h.current)

-- the host with the unit can begin it
pub record CanBegin (h : Host) (c : BodyId) : Type 0 where
  pub given : HasBody h.bodies c.0
  pub translates : CanTranslate (body_in h.bodies c.0)
  pub few : length h.statuses < 4
  pub flushes : (sp pc count : ℕ) → slice_get h.statuses h.current ≡ Some (Waiting sp pc count) → CanFlush (stack_of h.machine)
  pub room : owns_context (body_in h.bodies c.0) ≡ true → HasRoomThere h c.0

module _ (h mid : Host) (name lobby room holder at : ℕ) (c : BodyId) (is : slice_get h.references.objects 0 ≡ Some lobby) (far : h.next ≤ room) (few : length h.statuses < 4) (found : lobby_finds room h lobby name ≡ One holder (MethodKind c)) (cheap : is_costly h c.0 ≡ false) (ready : IsReady h mid c.0 at) where
  still_few : length mid.statuses < 4
  still_few = subst (λ (xs : List Status). length xs < 4) (sym ready.statuses) few

  still_cheap : is_costly mid c.0 ≡ false
  still_cheap =
      ap (λ bs. owns_context (body_in bs c.0) && nat_lt 4194304 (mid.cost + mid.machine.regs 3 + (4 + (length (body_in bs c.0).arguments + length (body_in bs c.0).locals)))) ready.bodies
      ∙ ap (λ k. owns_context (body_in h.bodies c.0) && nat_lt 4194304 (k + mid.machine.regs 3 + context_words h c.0)) ready.cost
      ∙ ap (λ k. owns_context (body_in h.bodies c.0) && nat_lt 4194304 (h.cost + k + context_words h c.0)) ready.counted ∙ cheap

  pub can_begin : CanSpawn h → CanBegin mid c
  can_begin rests =
      let m = is_found h rests.0 rests.1 name lobby room is far holder c found in
      let x = ready.rests rests.0 rests.1 in
      record {
        given = subst (λ bs. HasBody bs c.0) (sym ready.bodies) m.given;
        translates = subst (λ bs. CanTranslate (body_in bs c.0)) (sym ready.bodies) m.translates;
        few = still_few;
        flushes = λ sp pc count running. frames_may_flush mid rests.0 x.0 sp pc count running;
        room = λ owns. contexts_have_room mid rests.0 c.0 x.0 owns still_cheap;
      }

  module _ (to : Host) (begun : to ≡ born c.0 at lobby holder mid) where
    pub is_born : IsBirth h to name Begun
    is_born q text r named none =
        let m = (births_meet h q text lobby room r is far).method holder c (ap (lobby_finds room h lobby) named ∙ found) in
        let x = ready.rests q.state r in
        let met : IsMethod x.0.sense q.state (lobby_meets q.state text) holder c = subst (λ z. IsMethod z q.state (lobby_meets q.state text) holder c) (sym x.1) m.met in
        let known : slice_get mid.references.objects 0 ≡ Some lobby = ap (λ y. slice_get y.objects 0) ready.references ∙ is in
        let takes : length (body_in mid.bodies c.0).arguments ≡ 0 = ap (λ bs. length (body_in bs c.0).arguments) ready.bodies ∙ m.arguments none in
        let b = births_rest mid q text holder lobby at c x.0 still_few known met ready.unit ready.some takes still_cheap in
        record {
          state = b.state;
          rests = subst (λ (y : Host). Rests y b.state) (sym begun) b.rests;
          comes = sym (is_spawned text 0 q) ∙ b.comes 0;
        }

    pub objects : to.next ≡ h.next
    objects = ap (λ (y : Host). y.next) begun ∙ born_objects mid c.0 at lobby holder (owns_context (body_in mid.bodies c.0)) ∙ ready.objects

    pub references : to.references ≡ h.references
    references = ap (λ (y : Host). y.references) begun ∙ born_references mid c.0 at lobby holder (owns_context (body_in mid.bodies c.0)) ∙ ready.references

-- with a context where its activations have one
module _ (h : Host) (b : ℕ) where
  pub owns_as : (owns : Bool) (x : Body) → owns ≡ owns_context x → x ≡ body_in h.bodies b → owns_context (body_in h.bodies b) ≡ owns
  owns_as owns x is same = ap owns_context (sym same) ∙ sym is

  pub context_fits : HasRoomThere h b → HasRoom (h.machine.regs 6) (4 + length (body_in h.bodies b).locals)
  context_fits r = record { aligned = r.aligned; from = r.within; to = omega (arith, r.heap) }

  pub cost_fits : HasRoomThere h b → h.machine.regs 3 + 4 + length (body_in h.bodies b).locals < 2 ^ 32
  cost_fits r = omega (arith, r.cost)

  pub born_with : (at receiver holder : ℕ) → owns_context (body_in h.bodies b) ≡ true → begins_with_context b at receiver holder h ≡ born b at receiver holder h
  born_with at receiver holder e = sym (cond-true (owns_context (body_in h.bodies b)) (begins_with_context b at receiver holder h) (begins b at receiver holder h) e)

  pub born_without : (at receiver holder : ℕ) → owns_context (body_in h.bodies b) ≡ false → begins b at receiver holder h ≡ born b at receiver holder h
  born_without at receiver holder e = sym (cond-false (owns_context (body_in h.bodies b)) (begins_with_context b at receiver holder h) (begins b at receiver holder h) e)

-- The command is refused.

module _ (h : Host) (name lobby room : ℕ) (is : slice_get h.references.objects 0 ≡ Some lobby) (far : h.next ≤ room) (few : length h.statuses < 4) where
  pub unmet : (found : Found) (why : List ℕ) → lobby_finds room h lobby name ≡ found → refusal found ≡ Some why → (q : Reached) (text : List ℕ) → Rests h q.state → message q.state text ≡ name → IsRefused why h h q text
  unmet found why e w q text r named =
      let told = births_meet h q text lobby room r is far in
      let finds = ap refusal (ap (lobby_finds room h lobby) named ∙ e) ∙ w in
      record { same = refl; refuses = sym (is_spawned text 0 q) ∙ told.refuses why finds few 0 }

  pub unpaid : (holder : ℕ) (c : BodyId) → lobby_finds room h lobby name ≡ One holder (MethodKind c) → is_costly h c.0 ≡ true → IsBirth h h name (Refused errors.StoreFull)
  unpaid holder c e much q text r named none =
      let m = (births_meet h q text lobby room r is far).method holder c (ap (lobby_finds room h lobby) named ∙ e) in
      record { same = refl; refuses = sym (is_spawned text 0 q) ∙ births_fill h q text holder c r few m.met (m.arguments none) much 0 }

pub too_many : (h : Host) (name : ℕ) → 4 ≤ length h.statuses → IsBirth h h name TooMany
too_many h name many q text r named none = record { same = refl; refuses = sym (is_spawned text 0 q) ∙ four_are_most h q text 0 r many }

-- the sums of the plain cost are within its limit
pub sums_within : (h : Host) (s : State) → Rests h s → h.cost + h.machine.regs 3 ≤ 4194304
sums_within h s r = let cost : h.cost + h.machine.regs 3 ≡ s.cost = r.sound.stands.stands.cost in omega (arith, cost, r.sound.stands.stands.within)

-- What the calls tell.

module _ (maps : List Slots) (memory : Words) (h : Host) (room lobby : ℕ) (maps_is : maps ≡ h.maps) (memory_is : memory ≡ h.machine.memory) (may_do : MayLook h.maps h.machine.memory room lobby) where
  looks : MayLook maps memory room lobby
  looks =
      let P : List Slots → Type 0 = λ y. MayLook y memory room lobby in
      let Q : Words → Type 0 = λ y. MayLook h.maps y room lobby in
      subst P (sym maps_is) (subst Q (sym memory_is) may_do)

  pub sound_looks : (objects : List ℕ) × (IsSound maps memory objects × (length objects ≤ room))
  sound_looks = (looks.objects, (looks.sound, looks.enough))

  pub start_looks : IsValue maps memory lobby
  start_looks = looks.start
