-- Words ask for one thing or for nothing.
use Rattle.std.proofs.Common.{◌≡◌, ◌≢◌, ◌⊎◌, ℕ, zero, suc, ◌^◌, ◌<◌, ◌≤◌, ◌∙◌, List, [], ◌∷◌, length, Bool, true, false, nat_eq, bytes_eq, codes, decimal, inl, inr, refl, sym, ap, subst, arith, eqb-true, eq-eqb, true≢false}
use Rattle.std.proofs.lemmas.Slice.Eq.{bytes_eq-Decides}
use Rattle.std.proofs.lemmas.Fmt.{decimal_injective}
use Rattle.self_debugger.specs.Meanings.{OneOrNone}
use Rattle.self_debugger.specs.Words.{Job, RunWorld, CheckWorld, RunDrill, IsFileName, Asks}
use Rattle.self_debugger.proofs.Decimals.{one_number}

-- the first byte of the first word
abbrev first_byte : List (List ℕ) → ℕ
first_byte ((b ∷ bs) ∷ words) = b
first_byte _ = 0

pub one_job : (words : List (List ℕ)) (j k : Job) → Asks words j → Asks words k → j ≡ k
one_job words (RunWorld m) (RunWorld n) p q = let e = sym p.0 ∙ q.0 in cc
one_job words (RunWorld m) (CheckWorld n) p q = absurd (omega (arith, ap first_byte (sym p.0 ∙ q.0)))
one_job words (RunWorld m) (RunDrill n) p q = absurd (omega (arith, ap first_byte (sym p.0 ∙ q.0)))
one_job words (CheckWorld m) (RunWorld n) p q = absurd (omega (arith, ap first_byte (sym p.0 ∙ q.0)))
one_job words (CheckWorld m) (CheckWorld n) p q = let e = sym p.0 ∙ q.0 in cc
one_job words (CheckWorld m) (RunDrill n) p q = absurd (omega (arith, ap first_byte (sym p.0 ∙ q.0)))
one_job words (RunDrill m) (RunWorld n) p q = absurd (omega (arith, ap first_byte (sym p.0 ∙ q.0)))
one_job words (RunDrill m) (CheckWorld n) p q = absurd (omega (arith, ap first_byte (sym p.0 ∙ q.0)))
one_job words (RunDrill m) (RunDrill n) p q =
    let e = sym p.0 ∙ q.0 in
    let same : decimal m ≡ decimal n = cc in
    ap RunDrill (decimal_injective m n (omega (arith, p.2)) (omega (arith, q.2)) same)

abbrev Decision : List (List ℕ) → Type 0
Decision words = ((job : Job) × Asks words job) ⊎ ((job : Job) → ¬ Asks words job)

decide_name : (word : List ℕ) → IsFileName word ⊎ ¬ IsFileName word
decide_name [] = inr (λ h. h)
decide_name (b ∷ bs) = by (nat_eq b 45) refl
  where
    by : (t : Bool) → nat_eq b 45 ≡ t → (b ≢ 45) ⊎ ¬ (b ≢ 45)
    by true e = inr (λ h. h (eqb-true b 45 e))
    by false e = inl (λ h. true≢false (sym (eq-eqb b 45 h) ∙ e))

-- the first word is none of the three
decide_other : (first second : List ℕ) → first ≢ codes "run" → first ≢ codes "check" → first ≢ codes "drill" → Decision (first ∷ second ∷ [])
decide_other first second p q r = inr no_job
  where
    no_job : (job : Job) → ¬ Asks (first ∷ second ∷ []) job
    no_job (RunWorld n) a = let e = a.0 in p (cc)
    no_job (CheckWorld n) a = let e = a.0 in q (cc)
    no_job (RunDrill n) a = let e = a.0 in r (cc)

decide_run : (second : List ℕ) → Decision (codes "run" ∷ second ∷ [])
decide_run second = by (decide_name second)
  where
    by : IsFileName second ⊎ ¬ IsFileName second → Decision (codes "run" ∷ second ∷ [])
    by (inl is) = inl (RunWorld second, (refl, is))
    by (inr other) = inr no_job
      where
        no_job : (job : Job) → ¬ Asks (codes "run" ∷ second ∷ []) job
        no_job (RunWorld n) a = let e = a.0 in let same : n ≡ second = cc in other (subst IsFileName same (a.1))
        no_job (CheckWorld n) a = absurd (omega (arith, ap first_byte (a.0)))
        no_job (RunDrill n) a = absurd (omega (arith, ap first_byte (a.0)))

decide_check : (second : List ℕ) → Decision (codes "check" ∷ second ∷ [])
decide_check second = by (decide_name second)
  where
    by : IsFileName second ⊎ ¬ IsFileName second → Decision (codes "check" ∷ second ∷ [])
    by (inl is) = inl (CheckWorld second, (refl, is))
    by (inr other) = inr no_job
      where
        no_job : (job : Job) → ¬ Asks (codes "check" ∷ second ∷ []) job
        no_job (RunWorld n) a = absurd (omega (arith, ap first_byte (a.0)))
        no_job (CheckWorld n) a = let e = a.0 in let same : n ≡ second = cc in other (subst IsFileName same (a.1))
        no_job (RunDrill n) a = absurd (omega (arith, ap first_byte (a.0)))

abbrev IsDrill : List ℕ → ℕ → Type 0
IsDrill second n = (second ≡ decimal n) × (n ≤ 4000)

-- a drill has a number, which isn't 0
no_drill : (second : List ℕ) → ((n : ℕ) → 0 < n → ¬ IsDrill second n) → (job : Job) → ¬ Asks (codes "drill" ∷ second ∷ []) job
no_drill second none (RunWorld n) a = absurd (omega (arith, ap first_byte (a.0)))
no_drill second none (CheckWorld n) a = absurd (omega (arith, ap first_byte (a.0)))
no_drill second none (RunDrill n) a = let e = a.0 in let same : second ≡ decimal n = cc in none n (a.1) (same, a.2)

decide_drill : (second : List ℕ) → OneOrNone (IsDrill second) → Decision (codes "drill" ∷ second ∷ [])
decide_drill second d = by (d.either)
  where
    by : ((n : ℕ) × IsDrill second n) ⊎ ((n : ℕ) → ¬ IsDrill second n) → Decision (codes "drill" ∷ second ∷ [])
    by (inl (zero, is)) = inr (no_drill second (λ n some also. omega (arith, d.one n 0 also is)))
    by (inl (suc n, is)) = inl (RunDrill (suc n), (ap (λ x. codes "drill" ∷ x ∷ []) (is.0), omega arith, is.1))
    by (inr none) = inr (no_drill second (λ n some. none n))

decide_two : (first second : List ℕ) → OneOrNone (IsDrill second) → Decision (first ∷ second ∷ [])
decide_two first second d = by (bytes_eq first (codes "run")) (bytes_eq first (codes "check")) (bytes_eq first (codes "drill")) refl refl refl
  where
    is : (y : List ℕ) → bytes_eq first y ≡ true → first ≡ y
    is y = (bytes_eq-Decides first y).0

    isnt : (y : List ℕ) → bytes_eq first y ≡ false → first ≢ y
    isnt y e h = true≢false (sym ((bytes_eq-Decides first y).1 h) ∙ e)

    by : (p q r : Bool) → bytes_eq first (codes "run") ≡ p → bytes_eq first (codes "check") ≡ q → bytes_eq first (codes "drill") ≡ r → Decision (first ∷ second ∷ [])
    by true q r e f h = subst (λ x. Decision (x ∷ second ∷ [])) (sym (is (codes "run") e)) (decide_run second)
    by false true r e f h = subst (λ x. Decision (x ∷ second ∷ [])) (sym (is (codes "check") f)) (decide_check second)
    by false false true e f h = subst (λ x. Decision (x ∷ second ∷ [])) (sym (is (codes "drill") h)) (decide_drill second d)
    by false false false e f h = decide_other first second (isnt (codes "run") e) (isnt (codes "check") f) (isnt (codes "drill") h)

-- two words are asked for
others : (words : List (List ℕ)) → length words ≢ 2 → (job : Job) → ¬ Asks words job
others words h (RunWorld n) a = h (ap length (a.0))
others words h (CheckWorld n) a = h (ap length (a.0))
others words h (RunDrill n) a = h (ap length (a.0))

pub decide : (words : List (List ℕ)) → ((job : Job) × Asks words job) ⊎ ((job : Job) → ¬ Asks words job)
decide [] = inr (others [] (λ e. omega arith))
decide (first ∷ []) = inr (others (first ∷ []) (λ e. omega arith))
decide (first ∷ second ∷ []) = decide_two first second (one_number second 4000 (omega arith))
decide (first ∷ second ∷ third ∷ more) = inr (others (first ∷ second ∷ third ∷ more) (λ e. omega arith))
