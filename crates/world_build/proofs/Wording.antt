-- Names in parts, from the names of their parts.
use Rattle.std.specs.Prelude.{◌≡◌, ℕ, ◌+◌, ◌≤◌, ◌==◌, true, if◌then◌else◌, Some, List, [], ◌∷◌, ◌++◌, unwrap_or, refl}
use Rattle.std.proofs.Common.{ap, sym, ◌∙◌, arith, append_assoc}
use Rattle.std.proofs.lemmas.List.Sums.{sum_by-append}
use Rattle.self_terms.specs.Names.{text_of}
use Rattle.self_grammar.specs.declared.pieces.Words.{Words}
use Rattle.self_grammar.specs.declared.pieces.Words.TheVariants as words
use Rattle.self_grammar.specs.declared.pieces.Words.TheVariants.{One}
use Rattle.self_grammar.specs.Parts.{parts_in, count_of, followed_by}
use Rattle.source_model.specs.Names.{text_named}
use Rattle.source_model.specs.Formed.{arity, HasText}
use Rattle.world_build.specs.Names.{joined}
use Rattle.world_build.proofs.Orders.{colons, begins_lettered, arity_lettered, IsPlain, IsKeyword, IsPart, IsOperator, AllGiven, IsWhole, IsNamed, Calls}

pub named_text : (names : List (List ℕ)) (n : ℕ) (t : List ℕ) → text_of names n ≡ Some t → text_named names n ≡ t
named_text names n t e = ap (λ o. unwrap_or o []) e

append_none : (t : List ℕ) → t ++ [] ≡ t
append_none [] = refl
append_none (c ∷ t) = ap (λ x. c ∷ x) (append_none t)

pub joined_one : (names : List (List ℕ)) (n : ℕ) (t : List ℕ) → text_of names n ≡ Some t → joined names (n ∷ []) ≡ t
joined_one names n t e = append_none (text_named names n) ∙ named_text names n t e

joined_more : (names : List (List ℕ)) (ps : List ℕ) (q : ℕ) → joined names (ps ++ q ∷ []) ≡ joined names ps ++ text_named names q
joined_more names [] q = append_none (text_named names q)
joined_more names (p ∷ ps) q = ap (λ t. text_named names p ++ t) (joined_more names ps q) ∙ sym (append_assoc (text_named names p) (joined names ps) (text_named names q))

given_more : (names : List (List ℕ)) (ps : List ℕ) (q : ℕ) → AllGiven names ps → HasText names q → AllGiven names (ps ++ q ∷ [])
given_more names [] q h k = (k, tt)
given_more names (p ∷ ps) q h k = (h.0, given_more names ps q h.1 k)

pub lettered_more : (t u : List ℕ) → begins_lettered t ≡ true → begins_lettered (t ++ u) ≡ true
lettered_more [] u e = cc
lettered_more (c ∷ t) u e = e

pub colons_append : (t u : List ℕ) → colons (t ++ u) ≡ colons t + colons u
colons_append t u = sum_by-append (λ x. if x == 58 then 1 else 0) t u

-- keyword parts
pub record AreKeywords (names : List (List ℕ)) (ps : List ℕ) (k : ℕ) : Type 0 where
  pub given : AllGiven names ps
  pub lettered : begins_lettered (joined names ps) ≡ true
  pub count : colons (joined names ps) ≡ k

more_keywords : (names : List (List ℕ)) (ps : List ℕ) (k q : ℕ) → AreKeywords names ps k → IsPart names q → AreKeywords names (ps ++ q ∷ []) (k + 1)
more_keywords names ps k q h p =
    let whole = joined_more names ps q in
    let last = named_text names q p.text p.given in
    record {
      given = given_more names ps q h.given (p.text, p.given);
      lettered = ap begins_lettered whole ∙ lettered_more (joined names ps) (text_named names q) h.lettered;
      count =
          (let sum : colons (joined names ps ++ text_named names q) ≡ colons (joined names ps) + colons (text_named names q) = colons_append (joined names ps) (text_named names q) in
          let one : colons (text_named names q) ≡ 1 = ap colons last ∙ p.one in
          let all : colons (joined names (ps ++ q ∷ [])) ≡ colons (joined names ps ++ text_named names q) = ap colons whole in
          let front : colons (joined names ps) ≡ k = h.count in
          omega arith);
    }

-- the name of a keyword message
pub record Keywords (names : List (List ℕ)) (w : Words) : Type 0 where
  pub parts : AreKeywords names (parts_in w) (count_of w)
  pub whole : IsWhole names w

pub keyword_one : (names : List (List ℕ)) (n : ℕ) → IsKeyword names n → Keywords names (One n)
keyword_one names n h =
    let e = joined_one names n h.text h.spelt.given in
    record {
      parts = record { given = ((h.text, h.spelt.given), tt); lettered = ap begins_lettered e ∙ h.lettered; count = ap colons e ∙ h.one };
      whole = (h.text, h.spelt);
    }

pub keyword_further : (names : List (List ℕ)) (w : Words) (q : ℕ) → Keywords names w → IsPart names q → Keywords names (followed_by w q)
keyword_further names (words.One a) q h p =
    let k = more_keywords names (a ∷ []) 1 q h.parts p in
    record { parts = k; whole = (let c : colons (joined names (a ∷ q ∷ [])) ≡ 1 + 1 = k.count in omega arith) }
keyword_further names (words.Two a b) q h p =
    let k = more_keywords names (a ∷ b ∷ []) 2 q h.parts p in
    record { parts = k; whole = (let c : colons (joined names (a ∷ b ∷ q ∷ [])) ≡ 2 + 1 = k.count in omega arith) }
keyword_further names (words.Three a b c) q h p =
    let k = more_keywords names (a ∷ b ∷ c ∷ []) 3 q h.parts p in
    record { parts = k; whole = (let c : colons (joined names (a ∷ b ∷ c ∷ q ∷ [])) ≡ 3 + 1 = k.count in omega arith) }
keyword_further names (words.Four a b c d) q h p =
    let k = more_keywords names (a ∷ b ∷ c ∷ d ∷ []) 4 q h.parts p in
    record { parts = k; whole = (let c : colons (joined names (a ∷ b ∷ c ∷ d ∷ q ∷ [])) ≡ 4 + 1 = k.count in omega arith) }
keyword_further names (words.Five a b c d e) q h p = h

pub keywords_named : (names : List (List ℕ)) (w : Words) → Keywords names w → IsNamed names w
keywords_named names w h = record { given = h.parts.given; whole = h.whole }

count_few : (w : Words) → count_of w ≤ 5
count_few (words.One a) = omega arith
count_few (words.Two a b) = omega arith
count_few (words.Three a b c) = omega arith
count_few (words.Four a b c d) = omega arith
count_few (words.Five a b c d e) = omega arith

pub keywords_arity : (names : List (List ℕ)) (w : Words) → Keywords names w → arity (joined names (parts_in w)) ≡ count_of w
keywords_arity names w h = arity_lettered (joined names (parts_in w)) h.parts.lettered ∙ h.parts.count

pub keywords_call : (names : List (List ℕ)) (w : Words) → Keywords names w → Calls names w (count_of w)
keywords_call names w h = record { given = h.parts.given; arity = keywords_arity names w h; few = count_few w }

pub plain_named : (names : List (List ℕ)) (n m : ℕ) → IsPlain names n m → IsNamed names (One n)
plain_named names n m h = record { given = ((h.text, h.spelt.given), tt); whole = (h.text, h.spelt) }

pub plain_arity : (names : List (List ℕ)) (n m : ℕ) → IsPlain names n m → arity (joined names (n ∷ [])) ≡ 0
plain_arity names n m h = ap arity (joined_one names n h.text h.spelt.given) ∙ arity_lettered h.text h.lettered ∙ h.colonless

pub plain_calls : (names : List (List ℕ)) (n m : ℕ) → IsPlain names n m → Calls names (One n) 0
plain_calls names n m h = record { given = ((h.text, h.spelt.given), tt); arity = plain_arity names n m h; few = omega arith }

pub operator_named : (names : List (List ℕ)) (n : ℕ) → IsOperator names n → IsNamed names (One n)
operator_named names n h = record { given = ((h.text, h.spelt.given), tt); whole = (h.text, h.spelt) }

pub operator_arity : (names : List (List ℕ)) (n : ℕ) → IsOperator names n → arity (joined names (n ∷ [])) ≡ 1
operator_arity names n h = ap arity (joined_one names n h.text h.spelt.given) ∙ h.one

pub operator_calls : (names : List (List ℕ)) (n : ℕ) → IsOperator names n → Calls names (One n) 1
operator_calls names n h = record { given = ((h.text, h.spelt.given), tt); arity = operator_arity names n h; few = omega arith }
