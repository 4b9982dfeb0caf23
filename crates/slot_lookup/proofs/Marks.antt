-- The marks of a walk, by object numbers, and the trail of the objects that are marked.
use Rattle.std.proofs.Common.{◌≡◌, ℕ, zero, suc, ◌+◌, ◌<◌, ◌≤◌, Bool, true, false, eqb, List, [], ◌∷◌, ◌++◌, ◌⊎◌, inl, inr, refl, sym, ap, ◌∙◌, length, get_or, set, arith}
use Rattle.std.proofs.lemmas.Bool.{cases_Bool, or_cases, or_parts, eqb-true, eq-eqb, true≢false, cases_eq}
use Rattle.std.proofs.lemmas.Grind.{common_steps}
use Rattle.std.proofs.lemmas.Option.{slice_get_within}
use Rattle.std.proofs.Math.ListN.{length-set}
use Rattle.std.specs.Prelude.{Option, Some, None, slice_get}
use Rattle.object_maps.specs.Slots.{Slots}
use Rattle.object_maps.specs.Layout.{number_at}
use Rattle.object_maps.specs.Sound.{IsSound, IsObject, IsValue}
use Rattle.sparc_store.specs.Words.{Words}
use Rattle.source_model.specs.Lookup.{Among}
use Rattle.slot_lookup.specs.Walk.{base_of, seen_in}
use Rattle.slot_lookup.proofs.Holds.{is_in}
use Rattle.slot_lookup.proofs.Going.{Among-is_in, is_in-Among}

-- the last comes first, before others
abbrev pub turned : List ℕ → List ℕ → List ℕ
turned [] after = after
turned (x ∷ xs) after = turned xs (x ∷ after)

pub turned-push : (xs : List ℕ) (p : ℕ) (after : List ℕ) → turned (xs ++ p ∷ []) after ≡ p ∷ turned xs after
turned-push [] p after = refl
turned-push (x ∷ xs) p after = turned-push xs p (x ∷ after)

pub turned-in : (y : ℕ) (xs after : List ℕ) → Among y (turned xs after) → Among y xs ⊎ Among y after
turned-in y [] after h = inr h
turned-in y (x ∷ xs) after h = elim (turned-in y xs (x ∷ after) h) [ inl a ↦ inl (inr a) | inr b ↦ elim b [ inl e ↦ inl (inl e) | inr c ↦ inr c ] ]

pub in-turned_after : (y : ℕ) (xs after : List ℕ) → Among y after → Among y (turned xs after)
in-turned_after y [] after h = h
in-turned_after y (x ∷ xs) after h = in-turned_after y xs (x ∷ after) (inr h)

pub in-turned : (y : ℕ) (xs after : List ℕ) → Among y xs → Among y (turned xs after)
in-turned y [] after h = absurd h
in-turned y (x ∷ xs) after (inl e) = in-turned_after y xs (x ∷ after) (inl e)
in-turned y (x ∷ xs) after (inr h) = in-turned y xs (x ∷ after) h

pub length-turned : (xs after : List ℕ) → length (turned xs after) ≡ length xs + length after
length-turned [] after = omega arith
length-turned (x ∷ xs) after = omega (arith, length-turned xs (x ∷ after))

pub Among-push : (y : ℕ) (xs : List ℕ) (p : ℕ) → Among y (xs ++ p ∷ []) → Among y xs ⊎ (y ≡ p)
Among-push y [] p h = elim h [ inl e ↦ inr e | inr bad ↦ absurd bad ]
Among-push y (x ∷ xs) p (inl e) = inl (inl e)
Among-push y (x ∷ xs) p (inr h) = elim (Among-push y xs p h) [ inl a ↦ inl (inr a) | inr b ↦ inr b ]

pub Among-pushed : (p : ℕ) (xs : List ℕ) → Among p (xs ++ p ∷ [])
Among-pushed p [] = inl refl
Among-pushed p (x ∷ xs) = inr (Among-pushed p xs)

pub Among-kept : (y : ℕ) (xs : List ℕ) (p : ℕ) → Among y xs → Among y (xs ++ p ∷ [])
Among-kept y [] p h = absurd h
Among-kept y (x ∷ xs) p (inl e) = inl e
Among-kept y (x ∷ xs) p (inr h) = inr (Among-kept y xs p h)

pub Among-get : (xs : List ℕ) (i : ℕ) → i < length xs → Among (get_or xs i 0) xs
Among-get [] i h = absurd (omega arith)
Among-get (x ∷ xs) zero h = inl refl
Among-get (x ∷ xs) (suc i) h = inr (Among-get xs i (omega arith))

pub among_place : (xs : List ℕ) (y : ℕ) → Among y xs → (n : ℕ) × (slice_get xs n ≡ Some y)
among_place [] y h = absurd h
among_place (x ∷ xs) y (inl e) = (0, ap Some (sym e))
among_place (x ∷ xs) y (inr h) = let r = among_place xs y h in (suc r.0, r.1)

none_word : (y : ℕ) → ◌≡◌ {A = Option ℕ} None (Some y) → ⊥
none_word y e = cc

some_word : (a b : ℕ) → ◌≡◌ {A = Option ℕ} (Some a) (Some b) → a ≡ b
some_word a b e = cc

pub place_among : (xs : List ℕ) (n y : ℕ) → slice_get xs n ≡ Some y → Among y xs
place_among [] n y e = absurd (none_word y e)
place_among (x ∷ xs) zero y e = inl (sym (some_word x y e))
place_among (x ∷ xs) (suc n) y e = inr (place_among xs n y e)

pub mark_other : (marks : List Bool) (n m : ℕ) (b : Bool) → (m ≡ n → ⊥) → get_or (set marks n b) m false ≡ get_or marks m false
mark_other marks n m b ne = grind (arith, common_steps)

pub mark_same : (marks : List Bool) (n m : ℕ) (b : Bool) → n < length marks → m ≡ n → get_or (set marks n b) m false ≡ b
mark_same marks n m b lt e = grind (arith, common_steps)

module _ (maps : List Slots) (mem : Words) (objects : List ℕ) (sound : IsSound maps mem objects) where
  pub object_at : (x : ℕ) → Among x objects → (n : ℕ) × ((slice_get objects n ≡ Some x) × IsObject maps mem n x × (number_at mem x ≡ n))
  object_at x a =
      let r = among_place objects x a in
      let o = sound.object r.0 x r.1 in
      (r.0, (r.1, o, rw o.numbered (omega arith)))

  pub number_within : (x : ℕ) → Among x objects → number_at mem x < length objects
  number_within x a = let r = object_at x a in rw (r.1.2) (slice_get_within objects r.0 x r.1.0)

  pub same_number : (x y : ℕ) → Among x objects → Among y objects → number_at mem x ≡ number_at mem y → x ≡ y
  same_number x y a b e =
      let r = object_at x a in
      let s = object_at y b in
      let same : r.0 ≡ s.0 = sym r.1.2 ∙ e ∙ s.1.2 in
      some_word x y (sym r.1.0 ∙ ap (slice_get objects) same ∙ s.1.0)

  pub is_value : (x : ℕ) → Among x objects → IsValue maps mem x
  is_value x a = let r = object_at x a in record { readable = inr r.1.1.first; mapped = r.1.1.mapped }

  -- the marks tell what is in the trail
  pub record Marked (marks : List Bool) (trail : List ℕ) : Type 0 where
    pub each : (x : ℕ) → Among x objects → get_or marks (number_at mem x) false ≡ is_in trail x
    pub covers : (n : ℕ) → get_or marks n false ≡ true → (x : ℕ) × (Among x trail × (number_at mem x ≡ n))
    pub within : (x : ℕ) → Among x trail → Among x objects
    pub size : length objects ≤ length marks

  pub marked_start : (marks : List Bool) → ((n : ℕ) → get_or marks n false ≡ false) → length objects ≤ length marks → Marked marks []
  marked_start marks fresh size = record {
    each = λ x a. fresh (number_at mem x);
    covers = λ n e. absurd (true≢false (sym e ∙ fresh n));
    within = λ x a. absurd a;
    size = size;
  }

  is_in_push : (trail : List ℕ) (p x : ℕ) → (x ≡ p → ⊥) → is_in (trail ++ p ∷ []) x ≡ is_in trail x
  is_in_push trail p x ne = elim (cases_Bool (is_in trail x)) [
    | inl t ↦ Among-is_in x (trail ++ p ∷ []) (Among-kept x trail p (is_in-Among x trail t)) ∙ sym t
    | inr f ↦ elim (cases_Bool (is_in (trail ++ p ∷ []) x)) [
      | inl t ↦ elim (Among-push x trail p (is_in-Among x (trail ++ p ∷ []) t)) [ inl a ↦ absurd (true≢false (sym (Among-is_in x trail a) ∙ f)) | inr e ↦ absurd (ne e) ]
      | inr g ↦ g ∙ sym f
    ]
  ]

  pub marked_push : (marks : List Bool) (trail : List ℕ) (p : ℕ) → Among p objects → Marked marks trail → Marked (set marks (number_at mem p) true) (trail ++ p ∷ [])
  marked_push marks trail p here m =
      let lt : number_at mem p < length marks = omega (arith, number_within p here, m.size) in
      record {
        each = λ x a. elim (cases_eq x p) [
          | inl e ↦ mark_same marks (number_at mem p) (number_at mem x) true lt (ap (number_at mem) e) ∙ sym (Among-is_in x (trail ++ p ∷ []) (rw e (Among-pushed p trail)))
          | inr ne ↦ mark_other marks (number_at mem p) (number_at mem x) true (λ e. ne (same_number x p a here e)) ∙ m.each x a ∙ sym (is_in_push trail p x ne)
        ];
        covers = λ n e. elim (cases_eq n (number_at mem p)) [
          | inl f ↦ (p, (Among-pushed p trail, sym f))
          | inr ne ↦ let r = m.covers n (sym (mark_other marks (number_at mem p) n true ne) ∙ e) in (r.0, (Among-kept r.0 trail p r.1.0, r.1.1))
        ];
        within = λ x a. elim (Among-push x trail p a) [ inl b ↦ m.within x b | inr e ↦ rw e here ];
        size = simp length-set m.size;
      }

  pub seen_true : (marks : List Bool) (trail : List ℕ) (skip : Option ℕ) (p : ℕ) → Among p objects → Marked marks trail → seen_in marks skip p (number_at mem p) ≡ true → Among p (turned trail (base_of skip))
  seen_true marks trail None p here m e = in-turned p trail [] (is_in-Among p trail (sym (m.each p here) ∙ e))
  seen_true marks trail (Some w) p here m e = elim (or_cases (eqb w p) (get_or marks (number_at mem p) false) e) [
    | inl f ↦ in-turned_after p trail (w ∷ []) (inl (sym (eqb-true w p f)))
    | inr t ↦ in-turned p trail (w ∷ []) (is_in-Among p trail (sym (m.each p here) ∙ t))
  ]

  not_in_trail : (marks : List Bool) (trail : List ℕ) (p : ℕ) → Among p objects → Marked marks trail → get_or marks (number_at mem p) false ≡ false → Among p trail → ⊥
  not_in_trail marks trail p here m e a = true≢false (sym (Among-is_in p trail a) ∙ sym (m.each p here) ∙ e)

  pub seen_false : (marks : List Bool) (trail : List ℕ) (skip : Option ℕ) (p : ℕ) → Among p objects → Marked marks trail → seen_in marks skip p (number_at mem p) ≡ false → is_in (turned trail (base_of skip)) p ≡ false
  seen_false marks trail None p here m e = elim (cases_Bool (is_in (turned trail []) p)) [
    | inl t ↦ elim (turned-in p trail [] (is_in-Among p (turned trail []) t)) [ inl a ↦ absurd (not_in_trail marks trail p here m e a) | inr bad ↦ absurd bad ]
    | inr f ↦ f
  ]
  seen_false marks trail (Some w) p here m e =
      let parts = or_parts (eqb w p) (get_or marks (number_at mem p) false) e in
      elim (cases_Bool (is_in (turned trail (w ∷ [])) p)) [
        | inl t ↦ elim (turned-in p trail (w ∷ []) (is_in-Among p (turned trail (w ∷ [])) t)) [
          | inl a ↦ absurd (not_in_trail marks trail p here m parts.1 a)
          | inr b ↦ elim b [ inl f ↦ absurd (true≢false (sym (eq-eqb w p (sym f)) ∙ parts.0)) | inr bad ↦ absurd bad ]
        ]
        | inr f ↦ f
      ]

  pub unmarked : (marks : List Bool) (skip : Option ℕ) (p number : ℕ) → seen_in marks skip p number ≡ false → get_or marks number false ≡ false
  unmarked marks None p number e = e
  unmarked marks (Some w) p number e = (or_parts (eqb w p) (get_or marks number false) e).1
