-- How many services a run is given: no body loses its unit.
use Rattle.std.proofs.Common.{◌≡◌, ℕ, zero, suc, ◌+◌, ◌-◌, ◌*◌, ◌^◌, ◌<◌, ◌≤◌, List, [], ◌∙◌, ap, sym, subst, arith}
use Rattle.std.specs.Prelude.{Option, Some, None, slice_set}
use Rattle.slot_lookup.specs.declared.sends.Found.{Found}
use Rattle.source_model.specs.State.{State}
use Rattle.plain_runs.specs.Host.{Host}
use Rattle.plain_runs.specs.Services.{next_unit}
use Rattle.plain_turns.specs.Asking.{count, cost_left, found_here, goes_back}
use Rattle.plain_turns.specs.Events.{Meets, Answers, Assigns, Calls, Puts, Misses, Refuses, Serves, Begins, Waits, Sends, Performs, Fails, Lacks, Exceeds, Hands, Returns, Fills, Ends, Reaches, Here, Steps, Services}
use Rattle.plain_turns.specs.Handlers.{handed, found_there}
use Rattle.plain_turns.specs.Resting.{IsGoing}
use Rattle.plain_turns.specs.Rooms.{unmade}
use Rattle.plain_turns.proofs.Putting.{unmade_set}
use Rattle.plain_core.specs.Language.{Language}
use Rattle.plain_core.specs.Running.{CanRun, HasSpent}
use Rattle.plain_core.specs.declared.running.Counts.{Counts}
use Rattle.plain_core.specs.Turning.{Came, Went, IsLess, far}
use Rattle.plain_core.proofs.Keeping.{unwound_entries}
use Rattle.plain_core.proofs.Rounds.{starts}

no_more : (n : ℕ) → n ≤ n
no_more n = omega arith

met_makes : (h : Host) (found : Found) (to : Host) → Meets h found to → unmade to.entries ≤ unmade h.entries
met_makes h found to (Answers goal cost word is) = no_more (unmade h.entries)
met_makes h found to (Assigns goal cost holder place is) = no_more (unmade h.entries)
met_makes h found to (Calls goal cost holder at c is entry through) = no_more (unmade h.entries)
met_makes h found to (Puts goal cost holder back c memory is put) =
    let P : ℕ → Type 0 = λ a. unmade (slice_set h.entries (c.0 - 1) a) < unmade h.entries in
    let fewer : unmade (slice_set h.entries (c.0 - 1) (next_unit h)) < unmade h.entries = subst P (omega arith) (unmade_set h.entries (c.0 - 1) (next_unit h - 1) put.none) in
    omega (arith, fewer)
met_makes h found to (Misses goal cost e is) = no_more (unmade h.entries)
met_makes h found to (Refuses goal cost holder c e is refused) = no_more (unmade h.entries)

serves_make : (h to : Host) → Serves h to → unmade to.entries ≤ unmade h.entries
serves_make h to (Begins goal cost) = no_more (unmade h.entries)
serves_make h to (Waits trap goal cost) = no_more (unmade h.entries)
serves_make h to (Sends trap room next fits met) = met_makes h (found_here room h) to met
serves_make h to (Performs trap goal cost name args implied handler p core memory heap words word node costs was) = no_more (unmade h.entries)
serves_make h to (Fails trap goal cost name args implied p core memory heap e node was) = no_more (unmade h.entries)
serves_make h to (Lacks trap goal cost name args implied node) = no_more (unmade h.entries)
serves_make h to (Exceeds trap goal cost p words costs full) = no_more (unmade h.entries)
serves_make h to (Hands trap room message name args implied error primitive next fits node met) = met_makes (handed args error primitive h) (found_there room message (handed args error primitive h)) to met
serves_make h to (Returns trap goal cost) = (let e = ap unmade (unwound_entries goal cost h) in omega (arith, e))
serves_make h to (Fills trap goal cost) = no_more (unmade h.entries)
serves_make h to (Ends trap goal cost) = no_more (unmade h.entries)

pub reaches_make : (h to : Host) (i v : ℕ) → Reaches h i v to → unmade to.entries ≤ unmade h.entries
reaches_make h to i v Here = no_more (unmade h.entries)
reaches_make h to i v (Steps k u n g m before goes) = reaches_make h g k u before
reaches_make h to i v (Services k u g next before serves) = (let one = serves_make g next serves in let others = reaches_make h g k u before in omega (arith, one, others))

-- How much a run may still spend: as far as it may go, or no unit more where it has ended.
abbrev pub behind : ℕ → Host → Option ℕ → ℕ
behind target h (Some trap) = suc (far target h)
behind target h None = unmade h.entries

pub behind_at : (target : ℕ) (h : Host) (o : Option ℕ) (trap : ℕ) → o ≡ Some trap → behind target h o ≡ suc (far target h)
behind_at target h o trap e = ap (behind target h) e

pub behind_none : (target : ℕ) (h : Host) (o : Option ℕ) → o ≡ None → behind target h o ≡ unmade h.entries
behind_none target h o e = ap (behind target h) e

pub behind_less : (target : ℕ) (h to : Host) (o : Option ℕ) (i : ℕ) → Reaches h i 1 to → IsLess target h to o → behind target to o ≤ far target h
behind_less target h to (Some trap) i r le = le
behind_less target h to None i r le = (let made = reaches_make h to i 1 r in omega (arith, made))

-- At the first trap no more is left than the steps, the units, and two more.
pub first_behind : (h to : Host) (n trap : ℕ) (from : State) (target : ℕ) (out : List ℕ) → Went h to n → (g : IsGoing h from target out) → Came h to trap from target out g → behind target to (Some trap) ≤ (target - from.steps) + 3 + unmade h.entries
first_behind h to n trap from target out w g c =
    let counts = c.counts in
    let counted = g.counted in
    let left_is = g.left_is in
    let same : unmade to.entries ≡ unmade h.entries = ap (λ (y : Host). unmade y.entries) w.is in
    omega (arith, counts, counted, left_is, same)

-- A run with its beginning: a service more.
pub has_spent : (l : Language) (h mid to : Host) (steps cost target : ℕ) (c : Counts) → CanRun l h → mid ≡ goes_back 0 steps cost h → cost ≡ cost_left h → target ≡ count h → steps ≤ 1000000000
    → ((from : State) (out : List ℕ) → IsGoing mid from (target + steps) out → c.services + unmade to.entries ≤ (target + steps - from.steps) + 3 + unmade mid.entries) → c.instructions ≤ 2 ^ 40 * (c.services + 1)
    → HasSpent steps (record { instructions = c.instructions; services = c.services + 1 }) h to
has_spent l h mid to steps cost target c r is left from few spent each =
    let counted : count h ≡ r.state.steps = r.rests.sound.stands.stands.steps in
    let most = spent r.state [] (starts l h mid steps cost target r is left from few r.state r.rests) in
    let same : unmade mid.entries ≡ unmade h.entries = ap (λ (y : Host). unmade y.entries) is in
    record { services = omega (arith, most, counted, from, same); instructions = each }
