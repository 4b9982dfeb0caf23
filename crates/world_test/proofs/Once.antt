-- The test of slots, as far as it has come. Where each name stands once, none is met again.
use Rattle.std.specs.Prelude.{◌≡◌, ℕ, zero, suc, ◌+◌, ◌≤◌, ◌&&◌, Bool, true, false, not, is_some, cond, Option, None, Some, List, [], ◌∷◌, length, take, drop, slice_get, refl}
use Rattle.std.proofs.Common.{ap, sym, subst, ◌∙◌}
use Rattle.std.proofs.lemmas.Bool.{ne_eqb, eqb-false}
use Rattle.self_terms.specs.declared.bodies.Body.{Body}
use Rattle.world_build.proofs.Fronts.{drop_there}
use Rattle.source_model.specs.declared.objects.Slot.{Slot}
use Rattle.source_model.specs.Objects.{has_name, slot_named, AreNamedOnce}
use Rattle.source_model.specs.Testing.{content_test, follows_test, slots_test}
use Rattle.world_test.proofs.Passing.{past}

not_here : (b : Bool) (x : Slot) (m : Option Slot) → cond b (Some x) m ≡ None → (b ≡ false) × (m ≡ None)
not_here true x m e = absurd (cc)
not_here false x m e = (refl, e)

behind : (x : Slot) (xs : List Slot) → AreNamedOnce (x ∷ xs) → AreNamedOnce xs
behind x xs once = λ at y e. (not_here (has_name y.name x) x (slot_named y.name (take at xs)) (once (suc at) y e)).1

once_from : (xs : List Slot) (i : ℕ) → AreNamedOnce xs → AreNamedOnce (drop i xs)
once_from [] zero once = once
once_from [] (suc i) once = once
once_from (x ∷ xs) zero once = once
once_from (x ∷ xs) (suc i) once = once_from xs i (behind x xs once)

nowhere : (n : ℕ) (xs : List Slot) → ((at : ℕ) (y : Slot) → slice_get xs at ≡ Some y → has_name n y ≡ false) → slot_named n xs ≡ None
nowhere n [] h = refl
nowhere n (y ∷ ys) h = ap (λ b. cond b (Some y) (slot_named n ys)) (h 0 y refl) ∙ nowhere n ys (λ at z e. h (suc at) z e)

alone : (x : Slot) (xs : List Slot) → AreNamedOnce (x ∷ xs) → slot_named x.name xs ≡ None
alone x xs once = nowhere x.name xs (λ at y e.
    let other = (not_here (has_name y.name x) x (slot_named y.name (take at xs)) (once (suc at) y e)).0 in
    ne_eqb y.name x.name (λ d. eqb-false x.name y.name other (sym d)))

passed : (a b c d : Bool) → (a && b) ≡ true → c ≡ true → (a && (b && (c && d))) ≡ d
passed true true c d e f = ap (λ x. x && d) f
passed true false c d e f = absurd (cc)
passed false b c d e f = absurd (cc)

failed : (a b c : Bool) → (a && b) ≡ false → (a && (b && c)) ≡ false
failed true b c e = ap (λ x. x && c) e
failed false b c e = refl

module _ (names : List (List ℕ)) (bodies : List Body) (things : ℕ) where
  abbrev test : Option Slot → List Slot → Bool
  test = slots_test names bodies things

  pub slots_go : (slots : List Slot) (at : ℕ) (front : Option Slot) (x : Slot) → AreNamedOnce slots → slice_get slots at ≡ Some x
      → (content_test names bodies things x.name x.content && follows_test names front x) ≡ true → test (Some x) (drop (at + 1) slots) ≡ test front (drop at slots)
  slots_go slots at front x once here e =
      let more : List Slot = drop (at + 1) slots in
      let apart = alone x more (subst AreNamedOnce (drop_there slots at x here) (once_from slots at once)) in
      sym
      (ap (test front) (drop_there slots at x here)
      ∙ passed (content_test names bodies things x.name x.content) (follows_test names front x) (not (is_some (slot_named x.name more))) (test (Some x) more) e (ap (λ (m : Option Slot). not (is_some m)) apart))

  pub slots_fail : (slots : List Slot) (at : ℕ) (front : Option Slot) (x : Slot) → slice_get slots at ≡ Some x
      → (content_test names bodies things x.name x.content && follows_test names front x) ≡ false → test front (drop at slots) ≡ false
  slots_fail slots at front x here e =
      let more : List Slot = drop (at + 1) slots in
      ap (test front) (drop_there slots at x here)
      ∙ failed (content_test names bodies things x.name x.content) (follows_test names front x) (not (is_some (slot_named x.name more)) && test (Some x) more) e

  pub slots_end : (slots : List Slot) (at : ℕ) (front : Option Slot) → length slots ≤ at → test front (drop at slots) ≡ true
  slots_end slots at front h = ap (test front) (past slots at h)
