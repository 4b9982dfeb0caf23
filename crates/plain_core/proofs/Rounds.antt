-- Runs of turns.
use Rattle.std.proofs.Common.{◌≡◌, ℕ, zero, suc, ◌+◌, ◌*◌, ◌-◌, ◌≤◌, List, [], ◌∷◌, ◌++◌, length, refl, ◌∙◌, ap, sym, subst, arith}
use Rattle.std.specs.Prelude.{Option, Some, None}
use Rattle.io_ports.specs.Causes.{Takes}
use Rattle.self_terms.specs.declared.bodies.Body.{Body}
use Rattle.source_model.specs.State.{State, silent}
use Rattle.source_model.specs.Step.{run}
use Rattle.plain_runs.specs.Host.{Host}
use Rattle.plain_turns.specs.Asking.{count, cost_left, goes_back}
use Rattle.plain_turns.specs.Events.{Reaches, Here, Services, Begins}
use Rattle.plain_turns.specs.Resting.{Rests, IsGoing, IsAtTrap, HasRun}
use Rattle.plain_turns.specs.Rooms.{unmade, unput}
use Rattle.plain_core.specs.Language.{Language, IsSpoken}
use Rattle.plain_core.specs.Running.{CanRun, HasRunOn, HasBroken}
use Rattle.plain_core.specs.Turning.{Broken, Breaks, CanGoOn, Next, IsLess, Ran, Went, far, still}
use Rattle.plain_core.specs.declared.running.Counts.{Counts}
use Rattle.plain_turns.proofs.Running.{runs_begin, traps_tell}
use Rattle.plain_core.proofs.Fronts.{no_more, takes_more, then_more, taken_front}
use Rattle.plain_core.proofs.Joining.{as_many, by_words, joined}

pub none_at : (h : Host) (from : State) (target : ℕ) (out : List ℕ) (o : Option ℕ) → o ≡ None → Next h from target out o → HasRun h from target out
none_at h from target out o e n = let P : Option ℕ → Type 0 = λ p. Next h from target out p in subst P e n

pub at_trap : (h : Host) (from : State) (target : ℕ) (out : List ℕ) (trap : ℕ) (o : Option ℕ) → o ≡ Some trap → Next h from target out o → IsAtTrap h trap from target out
at_trap h from target out trap o e n = let P : Option ℕ → Type 0 = λ p. Next h from target out p in subst P e n

-- nothing more was printed
pub next_none : (h : Host) (from : State) (target : ℕ) (out : List ℕ) (o : Option ℕ) → Next h from target out o → Next h from target (out ++ []) o
next_none h from target out o n = let P : List ℕ → Type 0 = λ ys. Next h from target ys o in subst P (sym (no_more out)) n

-- behind more that was printed
pub next_more : (h : Host) (from : State) (target : ℕ) (out one two : List ℕ) (o : Option ℕ) → Next h from target ((out ++ one) ++ two) o → Next h from target (out ++ (one ++ two)) o
next_more h from target out one two o n = let P : List ℕ → Type 0 = λ ys. Next h from target ys o in subst P (then_more out one two) n

pub goes_reached : (h to : Host) (n : ℕ) → Went h to n → Reaches h n 0 to
goes_reached h to n w = as_many h to (0 + n) n 0 0 (omega arith) refl (by_words h h to 0 0 n Here w)

pub still_room : (h to : Host) (room n : ℕ) → Went h to n → h.next ≤ room → to.next ≤ room
still_room h to room n w le = let e = ap (λ (y : Host). y.next) w.is in omega (arith, e, le)

-- How many turns are left at most: a step or a body without a unit each; and each body that has none needs room for one.

pub unmade_fits : (es : List ℕ) (xs : List Body) → length es ≡ length xs → 40 * unmade es ≤ unput es xs
unmade_fits [] [] e = omega arith
unmade_fits [] (x ∷ xs) e = omega arith
unmade_fits (e ∷ es) [] f = absurd (omega (arith, f))
unmade_fits (zero ∷ es) (x ∷ xs) f = let k = unmade_fits es xs (omega (arith, f)) in omega (arith, k)
unmade_fits (suc at ∷ es) (x ∷ xs) f = unmade_fits es xs (omega (arith, f))

pub few_turns : (h : Host) (trap : ℕ) (from : State) (target : ℕ) (out : List ℕ) → IsAtTrap h trap from target out → far target h ≤ 1000209711
few_turns h trap from target out x =
    let far_on = (traps_tell h trap from target out x).far in
    let fits = unmade_fits h.entries h.bodies x.ready.room.each in
    let room = x.ready.room.left in
    omega (arith, far_on, fits, room)

-- each turn makes it less
pub one_less : (target : ℕ) (h to : Host) (o : Option ℕ) → IsLess target h to o → still target to o ≤ far target h
one_less target h to (Some trap) le = le
one_less target h to None le = omega arith

pub still_at : (target : ℕ) (h : Host) (o : Option ℕ) (trap : ℕ) → o ≡ Some trap → still target h o ≡ suc (far target h)
still_at target h o trap e = ap (still target h) e

-- A run that breaks off at a trap behind others.
pub broken_on : (l : Language) (start h : Host) (trap target : ℕ) (o : Option ℕ) (old mid new : Option (List ℕ)) (said : List ℕ) → Takes old mid said → ((from : State) (out : List ℕ) → IsSpoken l from → IsGoing start from target out → Next h from target (out ++ said) o) → o ≡ Some trap
    → Breaks l trap h target mid new → Broken l start target old new
broken_on l start h trap target o old mid new said takes at is b = record {
  said = said ++ b.said;
  takes = takes_more old mid new said b.said takes b.takes;
  front = λ from out spoken g.
      let f = b.front from (out ++ said) spoken (at_trap h from target (out ++ said) trap o is (at from out spoken g)) in
      (f.0, f.1 ∙ ap (λ (ys : List ℕ). ys ++ f.0) (then_more out said b.said));
}

-- The beginning of a run.
pub starts : (l : Language) (h to : Host) (steps cost target : ℕ) → CanRun l h → to ≡ goes_back 0 steps cost h → cost ≡ cost_left h → target ≡ count h → steps ≤ 1000000000 → (s : State) → Rests h s → IsGoing to s (target + steps) []
starts l h to steps cost target r is left from few s rests =
    let counted : count h ≡ s.steps = rests.sound.stands.stands.steps in
    let P : Host → Type 0 = λ y. IsGoing y s (target + steps) [] in
    let Q : ℕ → Type 0 = λ k. IsGoing (goes_back 0 steps (cost_left h) h) s (k + steps) [] in
    subst P (sym (is ∙ ap (λ (k : ℕ). goes_back 0 steps k h) left)) (subst Q (sym (from ∙ counted)) (runs_begin h s r.sp r.pc r.known rests r.waits steps few))

pub can_go : (l : Language) (h to : Host) (steps cost target : ℕ) → CanRun l h → to ≡ goes_back 0 steps cost h → cost ≡ cost_left h → target ≡ count h → steps ≤ 1000000000 → CanGoOn l to (target + steps)
can_go l h to steps cost target r is left from few = record {
  from = r.state;
  spoken = r.spoken;
  out = [];
  going = starts l h to steps cost target r is left from few r.state r.rests;
}

pub has_run : (l : Language) (h mid to : Host) (steps cost target : ℕ) (c : Counts) (old new : Option (List ℕ)) → CanRun l h → mid ≡ goes_back 0 steps cost h → cost ≡ cost_left h → target ≡ count h → steps ≤ 1000000000 → Ran l mid to (target + steps) old new
    → Reaches mid c.instructions c.services to → HasRunOn steps (record { instructions = c.instructions; services = c.services + 1 }) l h to old new
has_run l h mid to steps cost target c old new r is left from few ran reached = record {
  said = ran.said;
  takes = ran.takes;
  runs = λ s rests spoken.
      let counted : count h ≡ s.steps = rests.sound.stands.stands.steps in
      let P : ℕ → Type 0 = λ k. HasRun to s (k + steps) ran.said in
      subst P (from ∙ counted) (ran.ran s [] spoken (starts l h mid steps cost target r is left from few s rests));
  reached =
      let P : Host → Type 0 = λ y. Reaches h 0 (0 + 1) y in
      let begun = subst P (sym is) (Services 0 0 h (goes_back 0 steps cost h) Here (Begins steps cost)) in
      as_many h to (0 + c.instructions) c.instructions ((0 + 1) + c.services) (c.services + 1) (omega arith) (omega arith) (joined h mid to 0 (0 + 1) c.instructions c.services begun reached);
}

pub has_broken : (l : Language) (h mid : Host) (steps cost target : ℕ) (old new : Option (List ℕ)) → CanRun l h → mid ≡ goes_back 0 steps cost h → cost ≡ cost_left h → target ≡ count h → steps ≤ 1000000000 → Broken l mid (target + steps) old new → HasBroken steps l h old new
has_broken l h mid steps cost target old new r is left from few b s rests spoken =
    let counted : count h ≡ s.steps = rests.sound.stands.stands.steps in
    let f = b.front s [] spoken (starts l h mid steps cost target r is left from few s rests) in
    let far_is : target + steps - s.steps ≡ steps = omega (arith, from, counted) in
    taken_front old new b.said f.0 (run steps (silent s)).out b.takes (ap (λ (k : ℕ). (run k (silent s)).out) (sym far_is) ∙ f.1)
