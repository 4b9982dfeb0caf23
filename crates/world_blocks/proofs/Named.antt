-- The names of a world keep their numbers in a session, and the texts of the session have names.
use Rattle.std.proofs.Common.{◌≡◌, ◌⊎◌, inl, inr, refl, sym, ap, subst, ◌∙◌, ℕ, zero, suc, ◌+◌, ◌<◌, ◌≢◌, Bool, true, false, cond, List, [], ◌∷◌, ◌++◌, length, arith}
use Rattle.std.specs.Prelude.{nat_eq, Some, slice_get}
use Rattle.std.specs.List.{list_any}
use Rattle.std.specs.Cmp.Lexicographic.{pointwise}
use Rattle.std.proofs.lemmas.Bool.{cases_Bool, false≢true}
use Rattle.std.proofs.lemmas.Cmp.{nat_list_eq_equiv}
use Rattle.std.proofs.lemmas.Option.{none-some, same_Some}
use Rattle.self_terms.specs.Names.{HasEachOnce, text_of, with_text}
use Rattle.source_model.specs.Names.{number_from, number_of}
use Rattle.world_build.specs.Known.{IsNumber}
use Rattle.world_build.proofs.NameLemmas.{number_stays}
use Rattle.world_build.specs.Worlds.{World}
use Rattle.world_blocks.specs.Sessions.{session_texts, with_texts, session_names}
use Rattle.world_blocks.specs.Knowing.{NamesWorld}

-- a text that is there has a number
there_number : (k : ℕ) (t : List ℕ) (xs : List (List ℕ)) → 0 < k → list_any (pointwise nat_eq t) xs ≡ true → 0 < number_from k t xs
there_number k t [] pos e = cc
there_number k t (x ∷ xs) pos e = elim (cases_Bool (pointwise nat_eq t x)) [
  | inl h ↦ rw h pos
  | inr h ↦ rw h (there_number (k + 1) t xs (omega arith) (rw h at e))
]

last_number : (k : ℕ) (t : List ℕ) (xs : List (List ℕ)) → 0 < k → 0 < number_from k t (xs ++ t ∷ [])
last_number k t [] pos = rw (nat_list_eq_equiv.refl t) pos
last_number k t (x ∷ xs) pos = elim (cases_Bool (pointwise nat_eq t x)) [
  | inl h ↦ rw h pos
  | inr h ↦ rw h (last_number (k + 1) t xs (omega arith))
]

named_number : (names : List (List ℕ)) (t : List ℕ) → 0 < number_of (with_text names t) t
named_number names t = elim (cases_Bool (list_any (pointwise nat_eq t) names)) [
  | inl e ↦ rw e (there_number 1 t names (omega arith) e)
  | inr e ↦ rw e (last_number 1 t names (omega arith))
]

-- it stays as texts are named
pub numbers_stay : (ts names : List (List ℕ)) (t : List ℕ) (n : ℕ) → IsNumber names t n → IsNumber (with_texts names ts) t n
numbers_stay [] names t n is = is
numbers_stay (u ∷ ts) names t n is = numbers_stay ts (with_text names u) t n (number_stays names u t n is)

own_number : (ts names : List (List ℕ)) (k : ℕ) (t : List ℕ) → slice_get ts k ≡ Some t → 0 < number_of (with_texts names ts) t
own_number [] names k t is = absurd (none-some t is)
own_number (u ∷ ts) names zero t is =
    let k = numbers_stay ts (with_text names u) u (number_of (with_text names u) u) (record { number = refl; given = named_number names u }) in
    subst (λ (x : List ℕ). 0 < number_of (with_texts (with_text names u) ts) x) (same_Some u t is) (let a = k.number in let b = k.given in omega arith)
own_number (u ∷ ts) names (suc k) t is = own_number ts (with_text names u) k t is

-- so does the text of a number
got_more : (xs : List (List ℕ)) (y : List ℕ) (k : ℕ) (t : List ℕ) → slice_get xs k ≡ Some t → slice_get (xs ++ y ∷ []) k ≡ Some t
got_more [] y k t is = absurd (none-some t is)
got_more (x ∷ xs) y zero t is = is
got_more (x ∷ xs) y (suc k) t is = got_more xs y k t is

text_stays : (names : List (List ℕ)) (u : List ℕ) (n : ℕ) (t : List ℕ) → text_of names n ≡ Some t → text_of (with_text names u) n ≡ Some t
text_stays names u zero t is = is
text_stays names u (suc n) t is = elim (cases_Bool (list_any (pointwise nat_eq u) names)) [
  | inl e ↦ rw e is
  | inr e ↦ rw e (got_more names u n t is)
]

texts_stay : (ts names : List (List ℕ)) (n : ℕ) (t : List ℕ) → text_of names n ≡ Some t → text_of (with_texts names ts) n ≡ Some t
texts_stay [] names n t is = is
texts_stay (u ∷ ts) names n t is = texts_stay ts (with_text names u) n t (text_stays names u n t is)

-- no text has two names
not_there : (u : List ℕ) (xs : List (List ℕ)) (k : ℕ) → list_any (pointwise nat_eq u) xs ≡ false → slice_get xs k ≡ Some u → ⊥
not_there u [] k e is = none-some u is
not_there u (x ∷ xs) zero e is = let same = same_Some x u is in let first : pointwise nat_eq u x ≡ true = rw same (nat_list_eq_equiv.refl u) in absurd (false≢true (sym e ∙ rw first refl))
not_there u (x ∷ xs) (suc k) e is = elim (cases_Bool (pointwise nat_eq u x)) [
  | inl h ↦ absurd (false≢true (sym e ∙ rw h refl))
  | inr h ↦ not_there u xs k (rw h at e) is
]

last_or : (xs : List (List ℕ)) (u t : List ℕ) (k : ℕ) → slice_get (xs ++ u ∷ []) k ≡ Some t → (slice_get xs k ≡ Some t) ⊎ ((k ≡ length xs) × (u ≡ t))
last_or [] u t zero is = inr (refl, same_Some u t is)
last_or [] u t (suc k) is = absurd (none-some t is)
last_or (x ∷ xs) u t zero is = inl is
last_or (x ∷ xs) u t (suc k) is = elim (last_or xs u t k is) [ inl a ↦ inl a | inr b ↦ inr (ap suc b.0, b.1) ]

one_place : (xs : List (List ℕ)) (u t : List ℕ) (j k : ℕ) → list_any (pointwise nat_eq u) xs ≡ false → HasEachOnce xs
    → (slice_get xs j ≡ Some t) ⊎ ((j ≡ length xs) × (u ≡ t)) → (slice_get xs k ≡ Some t) ⊎ ((k ≡ length xs) × (u ≡ t)) → suc j ≡ suc k
one_place xs u t j k e once (inl a) (inl b) = once (suc j) (suc k) t a b
one_place xs u t j k e once (inl a) (inr b) = absurd (not_there u xs j e (a ∙ ap Some (sym b.1)))
one_place xs u t j k e once (inr a) (inl b) = absurd (not_there u xs k e (b ∙ ap Some (sym a.1)))
one_place xs u t j k e once (inr a) (inr b) = let p = a.0 in let q = b.0 in omega arith

once_more : (xs : List (List ℕ)) (u : List ℕ) → list_any (pointwise nat_eq u) xs ≡ false → HasEachOnce xs → HasEachOnce (xs ++ u ∷ [])
once_more xs u e once zero n t a b = absurd (none-some t a)
once_more xs u e once (suc j) zero t a b = absurd (none-some t b)
once_more xs u e once (suc j) (suc k) t a b = one_place xs u t j k e once (last_or xs u t j a) (last_or xs u t k b)

once_stays : (names : List (List ℕ)) (u : List ℕ) → HasEachOnce names → HasEachOnce (with_text names u)
once_stays names u once = elim (cases_Bool (list_any (pointwise nat_eq u) names)) [
  | inl e ↦ subst (λ (b : Bool). HasEachOnce (cond b names (names ++ u ∷ []))) (sym e) once
  | inr e ↦ subst (λ (b : Bool). HasEachOnce (cond b names (names ++ u ∷ []))) (sym e) (once_more names u e once)
]

each_once : (ts names : List (List ℕ)) → HasEachOnce names → HasEachOnce (with_texts names ts)
each_once [] names once = once
each_once (u ∷ ts) names once = each_once ts (with_text names u) (once_stays names u once)

pub names_world : (w : World) → NamesWorld w
unfolding session_names
names_world w = record {
  texts = λ n text is. texts_stay session_texts w.names n text is;
  numbers = λ text ne. sym (numbers_stay session_texts w.names text (number_of w.names text) (record { number = refl; given = let other : number_of w.names text ≢ 0 = ne in omega arith })).number;
  own = λ k text is. let pos = own_number session_texts w.names k text is in λ e. omega arith;
  once = each_once session_texts w.names;
}
