-- An activation is gone as soon as there are fewer activations than when it was the youngest.
use Rattle.std.proofs.Common.{◌≡◌, ℕ, zero, suc, ◌<◌, ap, sym, subst, refl, ◌∙◌, arith, Bool, true, false, List, [], ◌∷◌, ◌++◌, ◌⊎◌, inl, inr, length}
use Rattle.std.specs.Prelude.{◌==◌, not, is_some, slice_get, slice_set, Option, Some, None, cond}
use Rattle.std.proofs.lemmas.Bool.{eq-eqb, ne_eqb, lt-ltb, le-ltb}
use Rattle.std.proofs.lemmas.List.{length-append, length-map}
use Rattle.source_model.specs.State.{Activation, Activity, Running, Answered, Failed, State, Reached}
use Rattle.source_model.specs.Sends.{with_number}
use Rattle.source_model.specs.Step.{step, onward}
use Rattle.source_model.specs.Script.{until, lacks_in, lacks}
use Rattle.source_model.specs.Canon.{Each}
use Rattle.source_model.specs.Soundness.{numbers}
use Rattle.source_model.specs.Formed.{AreInOrder, IsWellFormed}
use Rattle.source_model.specs.Lasting.{fewer_in, fewer, FinishesByCount}
use Rattle.source_model.proofs.Keeping.{slice_each, InSome}
use Rattle.source_model.proofs.Runs.{stops_now, goes_on}
use Rattle.source_model.proofs.Turning.{Shape, numbers_in, step_turns}
use Rattle.source_model.proofs.Forming.{steps_form}

nil_cons : (A : Type 0) (x : ℕ) (xs : List ℕ) → ◌≡◌ {A = List ℕ} [] (x ∷ xs) → A
nil_cons A x xs e = absurd (cc)

head_eq : (x y : ℕ) (xs ys : List ℕ) → ◌≡◌ {A = List ℕ} (x ∷ xs) (y ∷ ys) → x ≡ y
head_eq x y xs ys e = cc

tail_eq : (x y : ℕ) (xs ys : List ℕ) → ◌≡◌ {A = List ℕ} (x ∷ xs) (y ∷ ys) → xs ≡ ys
tail_eq x y xs ys e = cc

set_there : (xs : List Activity) (n : ℕ) (x y : Activity) → slice_get xs n ≡ Some y → slice_get (slice_set xs n x) n ≡ Some x
set_there [] n x y e = absurd (cc)
set_there (z ∷ xs) zero x y e = refl
set_there (z ∷ xs) (suc n) x y e = set_there xs n x y e

module _ (k : ℕ) (olds : List ℕ) (below : Each (λ j. j < k) olds) where
  -- what stands behind some numbers: the one and the older ones, or some of the older ones
  split : (new gone xs : List ℕ) → new ++ (k ∷ olds) ≡ gone ++ xs → ((more : List ℕ) × (xs ≡ more ++ (k ∷ olds))) ⊎ ((less : List ℕ) × (olds ≡ less ++ xs))
  split [] [] xs e = inl ([], sym e)
  split [] (x ∷ gone) xs e = inr (gone, tail_eq k x olds (gone ++ xs) e)
  split (n ∷ new) [] xs e = inl (n ∷ new, sym e)
  split (n ∷ new) (x ∷ gone) xs e = split new gone xs (tail_eq n x (new ++ (k ∷ olds)) (gone ++ xs) e)

  behind_each : (less xs : List ℕ) → Each (λ j. j < k) (less ++ xs) → Each (λ j. j < k) xs
  behind_each [] xs e = e
  behind_each (x ∷ less) xs e = behind_each less xs e.1

  -- it is there

  found_or : (a : Activation) (all : List Activation) (new : List ℕ) (b : Bool) → (a.number == k) ≡ b → numbers (a ∷ all) ≡ new ++ (k ∷ olds)
      → ((more : List ℕ) → numbers all ≡ more ++ (k ∷ olds) → is_some (with_number k all) ≡ true) → is_some (cond b (Some a) (with_number k all)) ≡ true
  found_or a all new true t e h = refl
  found_or a all [] false t e h = let same : (a.number == k) ≡ true = eq-eqb a.number k (head_eq a.number k (numbers all) olds e) in let bad : true ≡ false = sym same ∙ t in absurd (cc)
  found_or a all (n ∷ new) false t e h = h new (tail_eq a.number n (numbers all) (new ++ (k ∷ olds)) e)

  found : (all : List Activation) (new : List ℕ) → numbers all ≡ new ++ (k ∷ olds) → is_some (with_number k all) ≡ true
  found [] [] e = nil_cons (is_some (with_number k []) ≡ true) k olds e
  found [] (n ∷ new) e = nil_cons (is_some (with_number k []) ≡ true) n (new ++ (k ∷ olds)) e
  found (a ∷ all) new e = found_or a all new (a.number == k) refl e (found all)

  -- it is not

  lost : (all : List Activation) → Each (λ j. j < k) (numbers all) → with_number k all ≡ None
  lost [] e = refl
  lost (a ∷ all) e = let lt : a.number < k = e.0 in ap (λ (b : Bool). cond b (Some a) (with_number k all)) (ne_eqb a.number k (λ same. omega (arith, lt, same))) ∙ lost all e.1

  abbrev many : ℕ
  many = suc (length olds)

  abbrev Still : Option Activity → Type 0
  Still x = (all : List Activation) × (x ≡ Some (Running all)) × ((new : List ℕ) × (numbers all ≡ new ++ (k ∷ olds)))

  abbrev Gone : Option Activity → Type 0
  Gone x = (lacks_in k x ≡ true) × (fewer_in many x ≡ true)

  count : (all : List Activation) (xs : List ℕ) → numbers all ≡ xs → length all ≡ length xs
  count all xs e = sym (length-map all (λ (a : Activation). a.number)) ∙ ap length e

  not_lacking : (x : Option Activity) → Still x → lacks_in k x ≡ false
  not_lacking x s = ap (lacks_in k) s.1 ∙ ap not (found s.0 s.2.0 s.2.1)

  not_fewer : (x : Option Activity) → Still x → fewer_in many x ≡ false
  not_fewer x s = ap (fewer_in many) s.1 ∙ le-ltb (length s.0) many (omega (arith, count s.0 (s.2.0 ++ (k ∷ olds)) s.2.1, length-append s.2.0 (k ∷ olds)))

  next_by : (now : Activity) → ((more : List ℕ) × (numbers_in now ≡ more ++ (k ∷ olds))) ⊎ ((less : List ℕ) × (olds ≡ less ++ numbers_in now)) → Still (Some now) ⊎ Gone (Some now)
  next_by (Running all) (inl h) = inl (all, refl, h)
  next_by (Running all) (inr h) = inr (
    ap (λ (m : Option Activation). not (is_some m)) (lost all (behind_each h.0 (numbers all) (subst (Each (λ j. j < k)) h.1 below))),
    lt-ltb (length all) many (omega (arith, length-map all (λ (a : Activation). a.number), ap length h.1, length-append h.0 (numbers all))),
  )
  next_by (Answered v) h = inr (refl, refl)
  next_by (Failed e p) h = inr (refl, refl)

  shaped : (u : ℕ) (old new xs : List ℕ) → old ≡ new ++ (k ∷ olds) → Shape u old xs → ((more : List ℕ) × (xs ≡ more ++ (k ∷ olds))) ⊎ ((less : List ℕ) × (olds ≡ less ++ xs))
  shaped u old new xs e (inl h) = split new h.0 xs (sym e ∙ h.1)
  shaped u old new xs e (inr h) = inl (u ∷ new, h ∙ ap (λ (ys : List ℕ). u ∷ ys) e)

  abbrev Current : State → Option Activity
  Current s = slice_get s.activities s.current

  running_eq : (xs ys : List Activation) → ◌≡◌ {A = Option Activity} (Some (Running xs)) (Some (Running ys)) → xs ≡ ys
  running_eq xs ys e = cc

  next : (s : State) → IsWellFormed s → Still (Current s) → Still (Current (step s).state) ⊎ Gone (Current (step s).state)
  next s formed still = step_turns s formed.1.world.0 (λ (t : State). Still (Current t) ⊎ Gone (Current t)) (inl still) (λ a older here turned.
      let now : Activity = turned.0 in
      let same : a ∷ older ≡ still.0 = running_eq (a ∷ older) still.0 (sym here ∙ still.1) in
      let is : Current (step s).state ≡ Some now = (λ i. slice_get (turned.1 i) (turned.2 i)) ∙ set_there s.activities s.current now (Running (a ∷ older)) here in
      subst (λ (x : Option Activity). Still x ⊎ Gone x) (sym is)
      (next_by now (shaped s.unused (numbers (a ∷ older)) still.2.0 (numbers_in now) (ap numbers same ∙ still.2.1) turned.3)))

  stopped : (n : ℕ) (r : Reached) → Gone (Current r.state) → until (lacks k) n r ≡ until (fewer many) n r
  unfolding until
  stopped zero r gone = refl
  stopped (suc n) r gone = stops_now (lacks k) n r gone.0 ∙ sym (stops_now (fewer many) n r gone.1)

  same_end : (n : ℕ) (r : Reached) → IsWellFormed r.state → Still (Current r.state) → until (lacks k) n r ≡ until (fewer many) n r
  unfolding until
  same_end zero r formed still = refl
  same_end (suc n) r formed still =
      goes_on (lacks k) n r (not_lacking (Current r.state) still)
      ∙ elim (next r.state formed still) [
        | inl later ↦ same_end n (onward r) (steps_form r.state formed) later
        | inr gone ↦ stopped n (onward r) gone
      ]
      ∙ sym (goes_on (fewer many) n r (not_fewer (Current r.state) still))

pub finishes : FinishesByCount
finishes n r a older formed here =
    let order = subst (InSome AreInOrder) here (slice_each AreInOrder r.state.activities r.state.current formed.1.order) in
    same_end a.number (numbers older) order.0 n r formed (a ∷ older, here, ([], refl))
    ∙ ap (λ (m : ℕ). until (fewer m) n r) (ap suc (length-map older (λ (b : Activation). b.number)))
