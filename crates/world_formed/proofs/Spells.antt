-- What is so of the names of the signs of a text.
use Rattle.std.specs.Prelude.{◌≡◌, ℕ, zero, suc, ◌+◌, ◌-◌, ◌==◌, nat_le, Bool, true, false, ◌||◌, if◌then◌else◌, List, [], ◌∷◌, ◌++◌, length, map, take, drop, fold, slice_index, refl}
use Rattle.std.specs.List.{list_any, prefix_len}
use Rattle.std.specs.Char.{is_ascii_digit, is_ascii_lowercase, is_ascii_uppercase}
use Rattle.std.proofs.Common.{ap, sym, subst, ◌∙◌, inl, inr, arith}
use Rattle.std.proofs.lemmas.Bool.{cases_Bool}
use Rattle.std.proofs.lemmas.Grind.{common_steps}
use Rattle.std.proofs.lemmas.List.{drop-drop}
use Rattle.std.proofs.lemmas.List.Sums.{sum_by-cons}
use Rattle.self_terms.specs.Names.{with_text}
use Rattle.self_tokens.specs.declared.symbols.Kind.{Kind}
use Rattle.self_tokens.specs.declared.symbols.Kind.TheVariants as kind
use Rattle.self_tokens.specs.declared.symbols.Fault.TheVariants as fault
use Rattle.self_tokens.specs.declared.symbols.Token.{Token}
use Rattle.self_tokens.specs.declared.forms.Piece.{Piece}
use Rattle.self_tokens.specs.declared.forms.Piece.TheVariants.{Blank, Whole, Faulty}
use Rattle.self_tokens.specs.Classes.{is_blank, is_word_byte, is_operator_byte, operator_bytes, is_no_comment_mark}
use Rattle.self_tokens.specs.Forms as f
use Rattle.self_tokens.specs.Kinds.{ends_operand}
use Rattle.self_tokens.specs.Texts.{text_of}
use Rattle.self_tokens.specs.Tokens.{tokens, tokens_from, from_piece}
use Rattle.self_grammar.specs.declared.signs.Symbol.{Symbol}
use Rattle.self_signs.specs.Signs.{signs, sign_of, symbol_at, number_of, names_after, named_by, needed, setter, delegate_name, is_restart, is_restart_keyword}
use Rattle.source_model.specs.Names.{number_from}
use Rattle.source_model.specs.Names as source
use Rattle.source_model.specs.Formed.{is_letter, arity}
use Rattle.world_build.proofs.Orders.{colons, begins_lettered, Spelt, OfSymbol}
use Rattle.world_build.proofs.Wording.{colons_append, lettered_more}
use Rattle.world_build.proofs.Given.{IsIn, in_with, own_in, found, spelt}
use Rattle.world_formed.proofs.Said.{OfSigns}

-- The forms of tokens.

abbrev FormOf : Kind → List ℕ → Type 0
FormOf kind.Name t = (begins_lettered t ≡ true) × (colons t ≡ 0)
FormOf kind.Keyword t = (begins_lettered t ≡ true) × (colons t ≡ 1)
FormOf kind.CapitalKeyword t = colons t ≡ 1
FormOf kind.Operator t = arity t ≡ 1
FormOf _ t = Unit {0}

abbrev OfPiece : List ℕ → Piece → Type 0
OfPiece rest (Whole k n) = FormOf k (take n rest)
OfPiece rest _ = Unit {0}

chosen : (rest : List ℕ) (b : Bool) (x y : Piece) → (b ≡ true → OfPiece rest x) → (b ≡ false → OfPiece rest y) → OfPiece rest (if b then x else y)
chosen rest true x y h k = h refl
chosen rest false x y h k = k refl

one_more : (n : ℕ) → 1 + n ≡ suc n
one_more n = omega arith

take_first : (p : ℕ → Bool) (x : ℕ) (xs : List ℕ) → p x ≡ true → take (prefix_len p (x ∷ xs)) (x ∷ xs) ≡ x ∷ take (prefix_len p xs) xs
take_first p x xs e = rw e (ap (λ n. take n (x ∷ xs)) (one_more (prefix_len p xs)))

take_none : (p : ℕ → Bool) (x : ℕ) (xs : List ℕ) → p x ≡ false → take (prefix_len p (x ∷ xs)) (x ∷ xs) ≡ []
take_none p x xs e = rw e refl

colons_first : (x : ℕ) (xs : List ℕ) → colons (x ∷ xs) ≡ (if x == 58 then 1 else 0) + colons xs
colons_first x xs = sum_by-cons (λ y. if y == 58 then 1 else 0) x xs

colons_other : (x : ℕ) (xs : List ℕ) → (x == 58) ≡ false → colons (x ∷ xs) ≡ colons xs
colons_other x xs e = colons_first x xs ∙ rw e (omega arith)

eq_of : (a b : ℕ) → (a == b) ≡ true → a ≡ b
eq_of a b h = grind (arith, common_steps)

no_colon : (x : ℕ) → is_word_byte x ≡ true → (x == 58) ≡ false
no_colon x h = by (x == 58) refl
  where
    by : (b : Bool) → (x == 58) ≡ b → b ≡ false
    by true e = let no : is_word_byte 58 ≡ true = subst (λ y. is_word_byte y ≡ true) (eq_of x 58 e) h in cc
    by false e = refl

word_colons : (xs : List ℕ) → colons (take (prefix_len is_word_byte xs) xs) ≡ 0
word_colons [] = refl
word_colons (x ∷ xs) = elim (cases_Bool (is_word_byte x)) [
  | inl e ↦
      let rest : colons (take (prefix_len is_word_byte xs) xs) ≡ 0 = word_colons xs in
      ap colons (take_first is_word_byte x xs e) ∙ colons_other x (take (prefix_len is_word_byte xs) xs) (no_colon x e) ∙ rest
  | inr e ↦ ap colons (take_none is_word_byte x xs e)
]

no_number : (n : ℕ) → ◌≡◌ {A = ℕ} 0 58 → ⊥
no_number n e = omega arith

take_next : (n : ℕ) (xs : List ℕ) → slice_index (drop n xs) 0 ≡ 58 → take (n + 1) xs ≡ take n xs ++ 58 ∷ []
take_next zero [] e = absurd (no_number 0 e)
take_next zero (x ∷ xs) e = ap (λ y. y ∷ []) e
take_next (suc n) [] e = absurd (no_number 0 e)
take_next (suc n) (x ∷ xs) e = let up : suc n + 1 ≡ suc (n + 1) = omega arith in rw up (ap (λ ys. x ∷ ys) (take_next n xs e))

keyword_colons : (xs : List ℕ) → (slice_index (drop (prefix_len is_word_byte xs) xs) 0 == 58) ≡ true → colons (take (prefix_len is_word_byte xs + 1) xs) ≡ 1
keyword_colons xs e =
    let n : ℕ = prefix_len is_word_byte xs in
    let front : colons (take n xs) ≡ 0 = word_colons xs in
    ap colons (take_next n xs (eq_of _ 58 e)) ∙ colons_append (take n xs) (58 ∷ []) ∙ ap (λ k. k + 1) front

lower_letter : (x : ℕ) → is_ascii_lowercase x ≡ true → (is_letter x ≡ true) × (is_word_byte x ≡ true)
lower_letter x h = (grind (arith, common_steps), grind (arith, common_steps))

word_lettered : (xs : List ℕ) → is_ascii_lowercase (slice_index xs 0) ≡ true → begins_lettered (take (prefix_len is_word_byte xs) xs) ≡ true
word_lettered [] h = cc
word_lettered (x ∷ xs) h = let k = lower_letter x h in ap begins_lettered (take_first is_word_byte x xs k.1) ∙ k.0

keyword_lettered : (xs : List ℕ) → is_ascii_lowercase (slice_index xs 0) ≡ true → (slice_index (drop (prefix_len is_word_byte xs) xs) 0 == 58) ≡ true →
    begins_lettered (take (prefix_len is_word_byte xs + 1) xs) ≡ true
keyword_lettered xs h e =
    let n : ℕ = prefix_len is_word_byte xs in
    ap begins_lettered (take_next n xs (eq_of _ 58 e)) ∙ lettered_more (take n xs) (58 ∷ []) (word_lettered xs h)

abbrev NoLetters : List ℕ → Type 0
NoLetters [] = Unit {0}
NoLetters (b ∷ bs) = (is_letter b ≡ false) × NoLetters bs

one_or : (t u : Bool) (x : ℕ) → (t || u) ≡ true → (t ≡ true → is_letter x ≡ false) → (u ≡ true → is_letter x ≡ false) → is_letter x ≡ false
one_or true u x e f k = f refl
one_or false u x e f k = k e

no_letter : (bs : List ℕ) (x : ℕ) → NoLetters bs → list_any (λ y. y == x) bs ≡ true → is_letter x ≡ false
no_letter [] x h e = cc
no_letter (b ∷ bs) x h e = one_or (b == x) (list_any (λ y. y == x) bs) x e (λ is. subst (λ y. is_letter y ≡ false) (eq_of b x is) h.0) (λ is. no_letter bs x h.1 is)

operators_unlettered : NoLetters operator_bytes
operators_unlettered = (refl, (refl, (refl, (refl, (refl, (refl, (refl, (refl, (refl, (refl, (refl, (refl, (refl, (refl, (refl, tt)))))))))))))))

operator_one : (xs : List ℕ) → is_operator_byte (slice_index xs 0) ≡ true → arity (take (prefix_len is_operator_byte xs) xs) ≡ 1
operator_one [] h = cc
operator_one (x ∷ xs) h =
    let off = no_letter operator_bytes x operators_unlettered h in
    ap arity (take_first is_operator_byte x xs h) ∙ rw off refl

number_form : (rest : List ℕ) (negative : Bool) (value n : ℕ) → OfPiece rest (f.number negative value n)
number_form rest negative value n = chosen rest (nat_le value (if negative then 536870912 else 536870911)) (Whole (kind.Integer (f.signed negative value)) n) (Faulty fault.IntTooWide 0) (λ e. tt) (λ e. tt)

abbrev bad : Piece
bad = Faulty fault.BadToken 0

integer_form : (all : List ℕ) (negative : Bool) (sign : ℕ) (rest : List ℕ) → OfPiece all (f.integer negative sign rest)
integer_form all negative sign rest =
    let n = prefix_len is_ascii_digit rest in
    chosen all (f.runs_on (drop n rest)) bad (f.number negative (f.decimal (take n rest)) (sign + n)) (λ e. tt) (λ e. number_form all negative (f.decimal (take n rest)) (sign + n))

string_form : (all rest : List ℕ) → OfPiece all (f.string rest)
string_form all rest =
    let n = f.text_len false rest in
    let sound = f.sound_len false (take n rest) in
    chosen all (n == length rest) bad (if sound == n then Whole kind.StringLiteral (n + 2) else Faulty fault.BadEscape sound) (λ e. tt)
    (λ e. chosen all (sound == n) (Whole kind.StringLiteral (n + 2)) (Faulty fault.BadEscape sound) (λ e. tt) (λ e. tt))

name_form : (rest : List ℕ) → is_ascii_lowercase (slice_index rest 0) ≡ true → OfPiece rest (f.name rest)
name_form rest h =
    let n = prefix_len is_word_byte rest in
    chosen rest (slice_index (drop n rest) 0 == 58) (Whole kind.Keyword (n + 1)) (if f.is_sent_to (drop n rest) then Whole kind.Delegate (n + 1) else Whole kind.Name n) (λ e. (keyword_lettered rest h e, keyword_colons rest e))
    (λ e. chosen rest (f.is_sent_to (drop n rest)) (Whole kind.Delegate (n + 1)) (Whole kind.Name n) (λ e. tt) (λ e. (word_lettered rest h, word_colons rest)))

primitive_form : (rest : List ℕ) → OfPiece rest (f.primitive rest)
primitive_form rest =
    let n = prefix_len is_word_byte rest in
    chosen rest (n == 1) bad (if slice_index (drop n rest) 0 == 58 then Whole kind.PrimitiveKeyword (n + 1) else Whole kind.Primitive n) (λ e. tt)
    (λ e. chosen rest (slice_index (drop n rest) 0 == 58) (Whole kind.PrimitiveKeyword (n + 1)) (Whole kind.Primitive n) (λ e. tt) (λ e. tt))

capital_form : (rest : List ℕ) → OfPiece rest (f.capital rest)
capital_form rest =
    let n = prefix_len is_word_byte rest in
    chosen rest (slice_index (drop n rest) 0 == 58) (Whole kind.CapitalKeyword (n + 1)) bad (λ e. keyword_colons rest e) (λ e. tt)

argument_form : (rest : List ℕ) → OfPiece rest (f.argument rest)
argument_form rest = chosen rest (is_ascii_lowercase (slice_index rest 1)) (Whole kind.Argument (1 + prefix_len is_word_byte (drop 1 rest))) bad (λ e. tt) (λ e. tt)

single_form : (rest : List ℕ) (b : ℕ) → OfPiece rest (f.single b)
single_form rest b =
    let p7 : Piece = if b == 94 then Whole kind.Caret 1 else bad in
    let p6 : Piece = if b == 46 then Whole kind.Period 1 else p7 in
    let p5 : Piece = if b == 124 then Whole kind.Bar 1 else p6 in
    let p4 : Piece = if b == 93 then Whole kind.CloseBracket 1 else p5 in
    let p3 : Piece = if b == 91 then Whole kind.OpenBracket 1 else p4 in
    let p2 : Piece = if b == 41 then Whole kind.CloseParen 1 else p3 in
    chosen rest (b == 40) (Whole kind.OpenParen 1) p2 (λ e. tt) (λ e. chosen rest (b == 41) (Whole kind.CloseParen 1) p3 (λ e. tt)
    (λ e. chosen rest (b == 91) (Whole kind.OpenBracket 1) p4 (λ e. tt) (λ e. chosen rest (b == 93) (Whole kind.CloseBracket 1) p5 (λ e. tt)
    (λ e. chosen rest (b == 124) (Whole kind.Bar 1) p6 (λ e. tt) (λ e. chosen rest (b == 46) (Whole kind.Period 1) p7 (λ e. tt) (λ e. chosen rest (b == 94) (Whole kind.Caret 1) bad (λ e. tt) (λ e. tt)))))))

worded_form : (rest : List ℕ) → OfPiece rest (f.worded (slice_index rest 0) rest)
worded_form rest =
    let b : ℕ = slice_index rest 0 in
    let p4 : Piece = if b == 58 then f.argument rest else f.single b in
    let p3 : Piece = if is_ascii_uppercase b then f.capital rest else p4 in
    let p2 : Piece = if b == 95 then f.primitive rest else p3 in
    chosen rest (is_ascii_lowercase b) (f.name rest) p2 (λ e. name_form rest e) (λ e. chosen rest (b == 95) (f.primitive rest) p3 (λ e. primitive_form rest)
    (λ e. chosen rest (is_ascii_uppercase b) (f.capital rest) p4 (λ e. capital_form rest) (λ e. chosen rest (b == 58) (f.argument rest) (f.single b) (λ e. argument_form rest) (λ e. single_form rest b))))

whole_form : (behind : Bool) (rest : List ℕ) → OfPiece rest (f.whole behind rest)
whole_form behind rest =
    let b : ℕ = slice_index rest 0 in
    let p4 : Piece = if b == 39 then f.string (drop 1 rest) else f.worded b rest in
    let operator : Piece = Whole kind.Operator (prefix_len is_operator_byte rest) in
    let p3 : Piece = if is_operator_byte b then operator else p4 in
    let p2 : Piece = if f.is_signed behind rest then f.integer true 1 (drop 1 rest) else p3 in
    chosen rest (is_ascii_digit b) (f.integer false 0 rest) p2 (λ e. integer_form rest false 0 rest)
    (λ e. chosen rest (f.is_signed behind rest) (f.integer true 1 (drop 1 rest)) p3 (λ e. integer_form rest true 1 (drop 1 rest))
    (λ e. chosen rest (is_operator_byte b) operator p4 (λ e. operator_one rest e) (λ e. chosen rest (b == 39) (f.string (drop 1 rest)) (f.worded b rest) (λ e. string_form rest (drop 1 rest)) (λ e. worded_form rest))))

piece_form : (behind : Bool) (rest : List ℕ) → OfPiece rest (f.piece behind rest)
piece_form behind rest =
    let b : ℕ = slice_index rest 0 in
    let p2 : Piece = if b == 34 then f.comment (drop 1 rest) else f.whole behind rest in
    let n = prefix_len is_no_comment_mark (drop 1 rest) in
    chosen rest (is_blank b) (Blank (prefix_len is_blank rest)) p2 (λ e. tt)
    (λ e. chosen rest (b == 34) (f.comment (drop 1 rest)) (f.whole behind rest) (λ e. chosen rest (n == length (drop 1 rest)) bad (Blank (n + 2)) (λ e. tt) (λ e. tt)) (λ e. whole_form behind rest))

abbrev OfTokens : List ℕ → List Token → Type 0
OfTokens bytes [] = Unit {0}
OfTokens bytes (t ∷ ts) = FormOf t.kind (text_of bytes t) × OfTokens bytes ts

piece_tokens : (bytes : List ℕ) (place : ℕ) (rest : List ℕ) (b : Bool) (go : ℕ → Bool → List Token) → drop place bytes ≡ rest → ((left : ℕ) (c : Bool) → OfTokens bytes (go left c)) → (p : Piece) → OfPiece rest p →
    OfTokens bytes (from_piece bytes place b go p)
piece_tokens bytes place rest b go at h (Blank n) o = h (n - 1) b
piece_tokens bytes place rest b go at h (Whole k n) o =
    let len : place + n - place ≡ n = omega arith in
    (subst (λ t. FormOf k t) (sym (ap (λ m. take m (drop place bytes)) len ∙ ap (λ r. take n r) at)) o, h (n - 1) (ends_operand k))
piece_tokens bytes place rest b go at h (Faulty f n) o = (tt, tt)

next_at : (bytes : List ℕ) (place x : ℕ) (rest : List ℕ) → drop place bytes ≡ x ∷ rest → drop (place + 1) bytes ≡ rest
next_at bytes place x rest e = sym (drop-drop 1 place bytes) ∙ ap (λ r. drop 1 r) e

from_tokens : (bytes : List ℕ) (left : ℕ) (b : Bool) (place : ℕ) (rest : List ℕ) → drop place bytes ≡ rest → OfTokens bytes (tokens_from bytes left b place rest)
from_tokens bytes left b place [] at = (tt, tt)
from_tokens bytes (suc left) b place (x ∷ rest) at = from_tokens bytes left b (place + 1) rest (next_at bytes place x rest at)
from_tokens bytes zero b place (x ∷ rest) at =
    piece_tokens bytes place (x ∷ rest) b (λ left c. tokens_from bytes left c (place + 1) rest) at (λ left c. from_tokens bytes left c (place + 1) rest (next_at bytes place x rest at)) (f.piece b (x ∷ rest)) (piece_form b (x ∷ rest))

all_tokens : (bytes : List ℕ) → OfTokens bytes (tokens bytes)
all_tokens bytes = from_tokens bytes 0 false 0 bytes refl

-- Texts that have names.

in_texts : (us : List (List ℕ)) (names : List (List ℕ)) (t : List ℕ) → IsIn names t → IsIn (fold with_text names us) t
in_texts [] names t h = h
in_texts (u ∷ us) names t h = in_texts us (with_text names u) t (in_with names u t h)

in_after : (bytes : List ℕ) (ts : List Token) (names : List (List ℕ)) (t : List ℕ) → IsIn names t → IsIn (names_after names bytes ts) t
in_after bytes [] names t h = h
in_after bytes (x ∷ ts) names t h = in_after bytes ts (fold with_text names (needed bytes x)) t (in_texts (needed bytes x) names t h)

abbrev AllIn : List (List ℕ) → List (List ℕ) → Type 0
AllIn names [] = Unit {0}
AllIn names (u ∷ us) = IsIn names u × AllIn names us

all_texts : (us : List (List ℕ)) (names : List (List ℕ)) → AllIn (fold with_text names us) us
all_texts [] names = tt
all_texts (u ∷ us) names = (in_texts us (with_text names u) u (own_in names u), all_texts us (with_text names u))

all_after : (bytes : List ℕ) (ts : List Token) (names : List (List ℕ)) (us : List (List ℕ)) → AllIn names us → AllIn (names_after names bytes ts) us
all_after bytes ts names [] h = tt
all_after bytes ts names (u ∷ us) h = (in_after bytes ts names u h.0, all_after bytes ts names us h.1)

abbrev Needs : List (List ℕ) → List ℕ → List Token → Type 0
Needs names bytes [] = Unit {0}
Needs names bytes (t ∷ ts) = AllIn names (needed bytes t) × Needs names bytes ts

all_needed : (bytes : List ℕ) (ts : List Token) (names : List (List ℕ)) → Needs (names_after names bytes ts) bytes ts
all_needed bytes [] names = tt
all_needed bytes (t ∷ ts) names =
    (all_after bytes ts (fold with_text names (needed bytes t)) (needed bytes t) (all_texts (needed bytes t) names), all_needed bytes ts (fold with_text names (needed bytes t)))

same_number : (names : List (List ℕ)) (t : List ℕ) → IsIn names t → source.number_of names t ≡ number_of names t
same_number names t h = (found 1 t names h).number

sign_spelt : (names : List (List ℕ)) (t : List ℕ) → IsIn names t → Spelt names (number_of names t) t
sign_spelt names t h = subst (λ n. Spelt names n t) (same_number names t h) (spelt names t h)

-- Signs.

either : (P : Symbol → Type 0) (b : Bool) (x y : Symbol) → P x → P y → P (if b then x else y)
either P true x y p q = p
either P false x y p q = q

symbol_spells : (names : List (List ℕ)) (k : Kind) (t : List ℕ) (start end : ℕ) → FormOf k t → AllIn names (named_by k t) → OfSymbol names (symbol_at (number_of names) k t start end)
symbol_spells names (kind.Integer i) t start end f h = tt
symbol_spells names kind.StringLiteral t start end f h = tt
symbol_spells names kind.Name t start end f h =
    record { text = t; spelt = sign_spelt names t h.0; lettered = f.0; colonless = f.1; set = (sign_spelt names (setter t) h.1.0).given }
symbol_spells names kind.Primitive t start end f h = either (OfSymbol names) (is_restart t) _ _ tt tt
symbol_spells names kind.Keyword t start end f h = record { text = t; spelt = sign_spelt names t h.0; lettered = f.0; one = f.1 }
symbol_spells names kind.PrimitiveKeyword t start end f h = either (OfSymbol names) (is_restart_keyword t) _ _ tt tt
symbol_spells names kind.CapitalKeyword t start end f h = record { text = t; given = (sign_spelt names t h.0).given; one = f }
symbol_spells names kind.Argument t start end f h = tt
symbol_spells names kind.Delegate t start end f h = (delegate_name t, (sign_spelt names (delegate_name t) h.0).given)
symbol_spells names kind.Operator t start end f h = record { text = t; spelt = sign_spelt names t h.0; one = f }
symbol_spells names kind.OpenParen t start end f h = tt
symbol_spells names kind.CloseParen t start end f h = tt
symbol_spells names kind.OpenBracket t start end f h = tt
symbol_spells names kind.CloseBracket t start end f h = tt
symbol_spells names kind.Bar t start end f h = tt
symbol_spells names kind.Period t start end f h = tt
symbol_spells names kind.Caret t start end f h = tt
symbol_spells names kind.End t start end f h = tt
symbol_spells names (kind.Bad x) t start end f h = tt

tokens_spell : (names : List (List ℕ)) (bytes : List ℕ) (ts : List Token) → OfTokens bytes ts → Needs names bytes ts → OfSigns names (map (sign_of names bytes) ts)
tokens_spell names bytes [] f h = tt
tokens_spell names bytes (t ∷ ts) f h = (symbol_spells names t.kind (text_of bytes t) t.start t.end f.0 h.0, tokens_spell names bytes ts f.1 h.1)

-- the names of the signs of a text
pub signs_spell : (known : List (List ℕ)) (bytes : List ℕ) → OfSigns (names_after known bytes (tokens bytes)) (signs known bytes)
signs_spell known bytes = tokens_spell (names_after known bytes (tokens bytes)) bytes (tokens bytes) (all_tokens bytes) (all_needed bytes (tokens bytes) known)
