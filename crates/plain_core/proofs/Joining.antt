-- Turns follow one another.
use Rattle.std.proofs.Common.{◌≡◌, ℕ, ◌+◌, ◌^◌, ◌<◌, ◌≤◌, List, ◌++◌, refl, ◌∙◌, ap, sym, subst, arith}
use Rattle.std.specs.Prelude.{Option, Some, None}
use Rattle.source_model.specs.State.{State}
use Rattle.plain_runs.specs.Host.{Host}
use Rattle.plain_runs.specs.Course.{with_machine}
use Rattle.plain_turns.specs.Events.{Reaches, Here, Steps, Services}
use Rattle.plain_turns.specs.Resting.{IsGoing, IsAtTrap, HasRun}
use Rattle.plain_turns.specs.Rooms.{unmade}
use Rattle.plain_core.specs.Language.{Language}
use Rattle.plain_core.specs.Turning.{CanGoOn, StandsAt, Came, Went, Turned, on, again, ended, Served, TurnsOn, far}
use Rattle.plain_core.specs.declared.turning.Turn.{Turn}
use Rattle.plain_core.specs.declared.turning.Turn.TheVariants as turns
use Rattle.plain_turns.proofs.Running.{traps_tell}

pub as_many : (h to : Host) (i j v w : ℕ) → i ≡ j → v ≡ w → Reaches h i v to → Reaches h j w to
as_many h to i j v w e f r = subst (λ (k : ℕ). Reaches h k w to) e (subst (λ (k : ℕ). Reaches h i k to) f r)

pub by_words : (h g to : Host) (i v n : ℕ) → Reaches h i v g → Went g to n → Reaches h (i + n) v to
by_words h g to i v n r w =
    let P : Host → Type 0 = λ y. Reaches h (i + n) v y in
    subst P (sym w.is) (Steps i v n g to.machine r w.goes)

pub joined : (h g to : Host) (i v j w : ℕ) → Reaches h i v g → Reaches g j w to → Reaches h (i + j) (v + w) to
joined h g to i v j w r Here = as_many h g i (i + 0) v (v + 0) (omega arith) (omega arith) r
joined h g to i v j w r (Steps k u n x m before goes) =
    let q = joined h g x i v k u r before in
    as_many h (with_machine x m) ((i + k) + n) (i + (k + n)) (v + u) (v + u) (omega arith) refl (Steps (i + k) (v + u) n x m q goes)
joined h g to i v j w r (Services k u x next before serves) =
    let q = joined h g x i v k u r before in
    as_many h next (i + k) (i + k) ((v + u) + 1) (v + (u + 1)) refl (omega arith) (Services (i + k) (v + u) x next q serves)

module _ (l : Language) (trap target : ℕ) (h mid to : Host) (old new : Option (List ℕ)) (next n : ℕ) (came : (from : State) (out : List ℕ) → (g : IsGoing mid from target out) → Came mid to next from target out g) (w : Went mid to n) (few : n ≤ 2 ^ 40) where
  comes_on : (from : State) (out : List ℕ) (t : Turn) → t ≡ turns.On → Turned h mid from target out t → IsAtTrap to next from target out
  comes_on from out t is (on same k) = (came from out k.going).at
  comes_on from out t is (again k) = (came from out k.going).at
  comes_on from out t is (ended k) = absurd (cc)

  kept : unmade to.entries ≡ unmade mid.entries
  kept = ap (λ (y : Host). unmade y.entries) w.is

  nearer : (from : State) (out : List ℕ) (t : Turn) → t ≡ turns.On → Turned h mid from target out t → far target to < far target h
  nearer from out t is (on same k) =
      let c = came from out k.going in
      let near = (traps_tell to next from target out c.at).near in
      let more = k.more in
      let counts = c.counts in
      let all : unmade to.entries ≡ unmade h.entries = kept ∙ same in
      omega (arith, near, more, counts, all)
  nearer from out t is (again k) =
      let c = came from out k.going in
      let near = (traps_tell to next from target out c.at).near in
      let more = k.same in
      let counts = c.counts in
      let fewer = k.fewer in
      let all = kept in
      omega (arith, near, more, counts, all, fewer)
  nearer from out t is (ended k) = absurd (cc)

  pub turns_on : StandsAt l h trap target → Served l trap h mid target old new turns.On → TurnsOn l trap h to target old new (record { next = Some next; instructions = n })
  turns_on at v = record {
    reached = as_many h to (0 + n) n (0 + 1) 1 (omega arith) refl (by_words h mid to 0 (0 + 1) n (Services 0 0 h mid Here v.serves) w);
    few = few;
    said = v.said;
    takes = v.takes;
    at = λ from out spoken x. comes_on from (out ++ v.said) turns.On refl (v.turned from out spoken x);
    less = nearer at.from (at.out ++ v.said) turns.On refl (v.turned at.from at.out at.spoken at.at);
  }

going_of : (target : ℕ) (h to : Host) (from : State) (out : List ℕ) (t : Turn) → t ≡ turns.On → Turned h to from target out t → IsGoing to from target out
going_of target h to from out t is (on same k) = k.going
going_of target h to from out t is (again k) = k.going
going_of target h to from out t is (ended k) = absurd (cc)

ran_of : (target : ℕ) (h to : Host) (from : State) (out : List ℕ) (t : Turn) → t ≡ turns.Ended → Turned h to from target out t → HasRun to from target out
ran_of target h to from out t is (on same k) = absurd (cc)
ran_of target h to from out t is (again k) = absurd (cc)
ran_of target h to from out t is (ended k) = k

pub goes : (l : Language) (trap target : ℕ) (h to : Host) (old new : Option (List ℕ)) (t : Turn) → t ≡ turns.On → StandsAt l h trap target → Served l trap h to target old new t → CanGoOn l to target
goes l trap target h to old new t is at v = record {
  from = at.from;
  spoken = at.spoken;
  out = at.out ++ v.said;
  going = going_of target h to at.from (at.out ++ v.said) t is (v.turned at.from at.out at.spoken at.at);
}

pub turns_end : (l : Language) (trap target : ℕ) (h to : Host) (old new : Option (List ℕ)) (t : Turn) → t ≡ turns.Ended → Served l trap h to target old new t → TurnsOn l trap h to target old new (record { next = None; instructions = 0 })
turns_end l trap target h to old new t is v = record {
  reached = Services 0 0 h to Here v.serves;
  few = omega arith;
  said = v.said;
  takes = v.takes;
  at = λ from out spoken x. ran_of target h to from (out ++ v.said) t is (v.turned from out spoken x);
  less = tt;
}
