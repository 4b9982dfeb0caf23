-- The lines of a script, one after the other.
use Rattle.std.proofs.Common.{◌≡◌, ◌<◌, ◌≤◌, ◌+◌, ◌-◌, ℕ, suc, zero, Bool, true, false, not, cond, List, [], ◌∷◌, ◌++◌, length, take, drop, get_or, refl, ap, arith, sym, ◌∙◌, append_assoc, ◌⊎◌, inl, inr, Option, Some, None, Result, Ok, Err, zero-add, min, length-drop, eqb-true, eq-or-lt_of_le}
use Rattle.std.specs.Prelude.{◌==◌}
use Rattle.std.specs.List.{position_or_len}
use Rattle.std.proofs.lemmas.List.{append-nil, take_rest, drop-drop, drop_all, drop_min, take_min, take_more}
use Rattle.std.proofs.lemmas.List.Sums.{passes_at_first}
use Rattle.session_text.specs.declared.commands.Command.{Command}
use Rattle.session_text.specs.declared.commands.Command.TheVariants as commands
use Rattle.session_text.specs.declared.reading.Meaning.{Meaning}
use Rattle.session_text.specs.declared.reading.Meaning.TheVariants.{Opens}
use Rattle.session_text.specs.declared.scripts.EditEnd.{EditEnd}
use Rattle.session_text.specs.Edits.{IsEditEnd}
use Rattle.session_text.specs.Words.{trimmed}
use Rattle.session_text.specs.Commands.{meaning}
use Rattle.session_text.specs.Scripts.{lines, is_end, edit_text, behind_line, in_front, of_line, commands_of}
use Rattle.session_text.proofs.Parts.{other_parts, first_part, others, AreBehind}

abbrev pub newline : ℕ → Bool
newline b = b == 10

-- how many bytes the first line of a text has
abbrev pub first_len : List ℕ → ℕ
first_len t = position_or_len newline t

abbrev pub first_line : List ℕ → List ℕ
first_line t = take (first_len t) t

-- what stands behind its newline
abbrev pub behind_first : List ℕ → List ℕ
behind_first t = drop (first_len t + 1) t

no_lines : (inside : Bool) (n : ℕ) → commands_of inside n [] ≡ commands_of inside n ([] ∷ [])
no_lines true n = refl
no_lines false n = refl

same_commands : (inside : Bool) (n : ℕ) (t : List ℕ) → commands_of inside n (other_parts newline t) ≡ commands_of inside n (lines (behind_first t))
same_commands inside n t = by (others newline t)
  where
    by : AreBehind newline (other_parts newline t) (behind_first t) → commands_of inside n (other_parts newline t) ≡ commands_of inside n (lines (behind_first t))
    by (inl e) = ap (commands_of inside n) e
    by (inr e) = ap (commands_of inside n) e.0 ∙ no_lines inside n ∙ ap (λ x. commands_of inside n (lines x)) (sym e.1)

same_text : (t : List ℕ) → edit_text (other_parts newline t) ≡ edit_text (lines (behind_first t))
same_text t = by (others newline t)
  where
    by : AreBehind newline (other_parts newline t) (behind_first t) → edit_text (other_parts newline t) ≡ edit_text (lines (behind_first t))
    by (inl e) = ap edit_text e
    by (inr e) = ap edit_text e.0 ∙ ap (λ x. edit_text (lines x)) (sym e.1)

-- the commands of a text by its first line
pub by_line : (n : ℕ) (t : List ℕ) →
    commands_of false n (lines t) ≡ of_line n (edit_text (lines (behind_first t))) (λ inside. commands_of inside (n + 1) (lines (behind_first t))) (meaning (trimmed (first_line t)))
by_line n t = ap (commands_of false n) (first_part newline t) ∙ (λ i. of_line n (same_text t i) (λ inside. same_commands inside (n + 1) t i) (meaning (trimmed (first_line t))))

pub by_inner_line : (n : ℕ) (t : List ℕ) → commands_of true n (lines t) ≡ commands_of (not (is_end (first_line t))) (n + 1) (lines (behind_first t))
by_inner_line n t = ap (commands_of true n) (first_part newline t) ∙ same_commands (not (is_end (first_line t))) (n + 1) t

pub text_by_line : (t : List ℕ) → edit_text (lines t) ≡ cond (is_end (first_line t)) (Some []) (behind_line (first_line t) (edit_text (lines (behind_first t))))
text_by_line t = ap edit_text (first_part newline t) ∙ (λ i. cond (is_end (first_line t)) (Some []) (behind_line (first_line t) (same_text t i)))

-- the place of the next line
pub next_line : (bytes : List ℕ) (at next : ℕ) → next ≡ min (at + first_len (drop at bytes) + 1) (length bytes) → drop next bytes ≡ behind_first (drop at bytes)
next_line bytes at next e =
    let k : ℕ = first_len (drop at bytes) in
    let s : at + k + 1 ≡ at + (k + 1) = omega arith in
    ap (λ x. drop x bytes) e ∙ drop_min (at + k + 1) bytes ∙ ap (λ x. drop x bytes) s ∙ sym (drop-drop (k + 1) at bytes)

-- Texts of edits.

-- a text in front of another, where that is there
abbrev pub onto : List ℕ → Option (List ℕ) → Option (List ℕ)
onto front None = None
onto front (Some t) = Some (front ++ t)

pub onto_nothing : (o : Option (List ℕ)) → o ≡ onto [] o
onto_nothing None = refl
onto_nothing (Some t) = refl

take_none : (n : ℕ) → take {A = ℕ} n [] ≡ []
take_none zero = refl
take_none (suc n) = refl

take_plus : (n m : ℕ) (xs : List ℕ) → take (n + m) xs ≡ take n xs ++ take m (drop n xs)
take_plus zero m xs = ap (λ k. take k xs) (zero-add m)
take_plus (suc n) m [] = let e : suc n + m ≡ suc (n + m) = omega arith in rw e (sym (take_none m))
take_plus (suc n) m (x ∷ xs) = let e : suc n + m ≡ suc (n + m) = omega arith in rw e (ap (λ t. x ∷ t) (take_plus n m xs))

onto_line : (front l : List ℕ) (o : Option (List ℕ)) → onto front (behind_line l o) ≡ onto (front ++ (l ++ 10 ∷ [])) o
onto_line front l None = refl
onto_line front l (Some t) = ap Some (sym (append_assoc front (l ++ 10 ∷ []) t ∙ ap (λ x. front ++ x) (append_assoc l (10 ∷ []) t)))

-- one more line of an edit's text
pub text_more : (bytes : List ℕ) (at next : ℕ) → next ≡ min (at + first_len (drop at bytes) + 1) (length bytes) → first_len (drop at bytes) ≤ length (drop at bytes) →
    onto (take at bytes) (behind_line (first_line (drop at bytes)) (edit_text (lines (drop next bytes)))) ≡ onto (take next bytes) (edit_text (lines (drop next bytes)))
text_more bytes at next e le = by (eq-or-lt_of_le le)
  where
    by : (first_len (drop at bytes) ≡ length (drop at bytes)) ⊎ (first_len (drop at bytes) < length (drop at bytes)) →
        onto (take at bytes) (behind_line (first_line (drop at bytes)) (edit_text (lines (drop next bytes)))) ≡ onto (take next bytes) (edit_text (lines (drop next bytes)))
    by (inl same) =
        let none : edit_text (lines (drop next bytes)) ≡ None =
        ap (λ x. edit_text (lines x)) (next_line bytes at next e ∙ drop_all (first_len (drop at bytes) + 1) (drop at bytes) (omega arith)) in
        rw none refl
    by (inr lt) =
        let mark : get_or (drop at bytes) (first_len (drop at bytes)) 0 ≡ 10 = eqb-true _ 10 (passes_at_first newline (drop at bytes) 0 lt) in
        let s : at + first_len (drop at bytes) + 1 ≡ at + (first_len (drop at bytes) + 1) = omega arith in
        let taken : take next bytes ≡ take at bytes ++ (first_line (drop at bytes) ++ 10 ∷ []) =
        ap (λ x. take x bytes) e ∙ take_min (at + first_len (drop at bytes) + 1) bytes ∙ ap (λ x. take x bytes) s ∙ take_plus at (first_len (drop at bytes) + 1) bytes
        ∙ ap (λ x. take at bytes ++ x) (take_more (drop at bytes) (first_len (drop at bytes)) 0 lt ∙ ap (λ b. first_line (drop at bytes) ++ b ∷ []) mark) in
        onto_line (take at bytes) (first_line (drop at bytes)) (edit_text (lines (drop next bytes))) ∙ ap (λ f. onto f (edit_text (lines (drop next bytes)))) (sym taken)

-- Commands read so far.

pub in_front_more : (list longer : List Command) (c : Command) (more : Result (List Command) ℕ) → longer ≡ list ++ c ∷ [] → in_front list (in_front (c ∷ []) more) ≡ in_front longer more
in_front_more list longer c (Ok cs) e = rw e (ap Ok (sym (append_assoc list (c ∷ []) cs)))
in_front_more list longer c (Err n) e = refl

pub in_front_nothing : (more : Result (List Command) ℕ) → more ≡ in_front [] more
in_front_nothing (Ok cs) = refl
in_front_nothing (Err n) = refl

pub no_more : (list : List Command) (n : ℕ) (t : List ℕ) → t ≡ [] → in_front list (commands_of false n (lines t)) ≡ Ok list
no_more list n t e = rw e (ap Ok (append-nil list))

-- a read longer text's rest, as the code cuts it
pub cut : (bytes : List ℕ) (at len : ℕ) → len ≡ first_len (drop at bytes) → take (at + len - at) (drop at bytes) ≡ first_line (drop at bytes)
cut bytes at len e = let s : at + len - at ≡ first_len (drop at bytes) = omega arith in ap (λ k. take k (drop at bytes)) s

-- where the first line from a place on ends, and the next begins
pub record IsLine (bytes : List ℕ) (at len next : ℕ) : Type 0 where
  pub len_is : len ≡ first_len (drop at bytes)
  pub next_is : next ≡ min (at + len + 1) (length bytes)

pub line_from : (bytes : List ℕ) (at len next : ℕ) → len ≡ first_len (take (length bytes - at) (drop at bytes)) → next ≡ min (at + len + 1) (length bytes) → IsLine bytes at len next
line_from bytes at len next e n = record { len_is = e ∙ ap first_len (take_rest bytes at); next_is = n }

pub rest_is : (bytes : List ℕ) (at len next : ℕ) → IsLine bytes at len next → drop next bytes ≡ behind_first (drop at bytes)
rest_is bytes at len next l = next_line bytes at next (l.next_is ∙ ap (λ k. min (at + k + 1) (length bytes)) l.len_is)

-- what is read so far, with what a line says
pub line_says : (bytes : List ℕ) (at len next number : ℕ) (list : List Command) (m : Meaning) (all : Result (List Command) ℕ) → IsLine bytes at len next →
    all ≡ in_front list (commands_of false number (lines (drop at bytes))) →
    m ≡ meaning (trimmed (take (at + len - at) (drop at bytes))) →
    all ≡ in_front list (of_line number (edit_text (lines (drop next bytes))) (λ inside. commands_of inside (number + 1) (lines (drop next bytes))) m)
line_says bytes at len next number list m all l so e =
    let r = sym (rest_is bytes at len next l) in
    let says : meaning (trimmed (first_line (drop at bytes))) ≡ m = sym (e ∙ ap (λ x. meaning (trimmed x)) (cut bytes at len l.len_is)) in
    so ∙ ap (in_front list) (by_line number (drop at bytes) ∙ (λ i. of_line number (edit_text (lines (r i))) (λ inside. commands_of inside (number + 1) (lines (r i))) (says i)))

-- an edit that no line ends
pub unended : (bytes : List ℕ) (next number : ℕ) (list : List Command) (path : List (List ℕ)) (all : Result (List Command) ℕ) →
    all ≡ in_front list (of_line number (edit_text (lines (drop next bytes))) (λ inside. commands_of inside (number + 1) (lines (drop next bytes))) (Opens path)) →
    edit_text (lines (take (length bytes - next) (drop next bytes))) ≡ None → all ≡ Err number
unended bytes next number list path all so none =
    let e : edit_text (lines (drop next bytes)) ≡ None = ap (λ x. edit_text (lines x)) (sym (take_rest bytes next)) ∙ none in
    so ∙ (λ i. in_front list (of_line number (e i) (λ inside. commands_of inside (number + 1) (lines (drop next bytes))) (Opens path)))

-- an edit that a line ends
pub ended : (bytes : List ℕ) (next number : ℕ) (list longer : List Command) (path : List (List ℕ)) (text : List ℕ) (e : EditEnd) (all : Result (List Command) ℕ) →
    all ≡ in_front list (of_line number (edit_text (lines (drop next bytes))) (λ inside. commands_of inside (number + 1) (lines (drop next bytes))) (Opens path)) →
    IsEditEnd (take (length bytes - next) (drop next bytes)) e → text ≡ take e.text (take (length bytes - next) (drop next bytes)) → longer ≡ list ++ commands.Edit path text ∷ [] →
    all ≡ in_front longer (commands_of false (number + (1 + e.lines)) (lines (drop (next + e.behind) bytes)))
ended bytes next number list longer path text e all so end told long =
    let same = take_rest bytes next in
    let t : edit_text (lines (drop next bytes)) ≡ Some text = ap (λ x. edit_text (lines x)) (sym same) ∙ end.text ∙ ap Some (sym told) in
    let count : number + 1 + e.lines ≡ number + (1 + e.lines) = omega arith in
    so ∙ (λ i. in_front list (of_line number (t i) (λ inside. commands_of inside (number + 1) (lines (drop next bytes))) (Opens path)))
    ∙ in_front_more list longer (commands.Edit path text) (commands_of true (number + 1) (lines (drop next bytes))) long
    ∙ ap (in_front longer) (ap (λ x. commands_of true (number + 1) (lines x)) (sym same) ∙ end.skips (number + 1)
    ∙ (λ i. commands_of false (count i) (lines (drop e.behind (same i)))) ∙ ap (λ x. commands_of false (number + (1 + e.lines)) (lines x)) (drop-drop e.behind next bytes))

-- Inside an edit.

pub ends_here : (rest : List ℕ) (at len next passed : ℕ) → IsLine rest at len next → at < length rest → passed ≤ at →
    edit_text (lines rest) ≡ onto (take at rest) (edit_text (lines (drop at rest))) →
    ((n : ℕ) → commands_of true n (lines rest) ≡ commands_of true (n + passed) (lines (drop at rest))) →
    is_end (take (at + len - at) (drop at rest)) ≡ true →
    IsEditEnd rest (record { text = at; lines = passed + 1; behind = next })
ends_here rest at len next passed l more few text skips told =
    let r = sym (rest_is rest at len next l) in
    let n = l.next_is in
    let is : is_end (first_line (drop at rest)) ≡ true = ap is_end (sym (cut rest at len l.len_is)) ∙ told in
    record {
      text = text ∙ ap (onto (take at rest)) (text_by_line (drop at rest) ∙ (λ i. cond (is i) (Some []) (behind_line (first_line (drop at rest)) (edit_text (lines (behind_first (drop at rest))))))) ∙ ap Some (append-nil (take at rest));
      skips = λ k. skips k ∙ by_inner_line (k + passed) (drop at rest) ∙ (λ i. commands_of (not (is i)) (k + passed + 1) (lines (r i))) ∙ (let s : k + passed + 1 ≡ k + (passed + 1) = omega arith in ap (λ x. commands_of false x (lines (drop next rest))) s);
      inside = omega arith;
      within = omega arith;
      few = omega arith;
    }

pub text_goes_on : (rest : List ℕ) (at len next : ℕ) → IsLine rest at len next → len ≤ length (drop at rest) →
    edit_text (lines rest) ≡ onto (take at rest) (edit_text (lines (drop at rest))) →
    is_end (take (at + len - at) (drop at rest)) ≡ false →
    edit_text (lines rest) ≡ onto (take next rest) (edit_text (lines (drop next rest)))
text_goes_on rest at len next l within text told =
    let r = sym (rest_is rest at len next l) in
    let is : is_end (first_line (drop at rest)) ≡ false = ap is_end (sym (cut rest at len l.len_is)) ∙ told in
    let le : first_len (drop at rest) ≤ length (drop at rest) = omega (arith, l.len_is) in
    text ∙ ap (onto (take at rest)) (text_by_line (drop at rest) ∙ (λ i. cond (is i) (Some []) (behind_line (first_line (drop at rest)) (edit_text (lines (r i))))))
    ∙ text_more rest at next (l.next_is ∙ ap (λ k. min (at + k + 1) (length rest)) l.len_is) le

pub skips_on : (rest : List ℕ) (at len next passed : ℕ) → IsLine rest at len next →
    ((n : ℕ) → commands_of true n (lines rest) ≡ commands_of true (n + passed) (lines (drop at rest))) →
    is_end (take (at + len - at) (drop at rest)) ≡ false →
    (n : ℕ) → commands_of true n (lines rest) ≡ commands_of true (n + (passed + 1)) (lines (drop next rest))
skips_on rest at len next passed l skips told n =
    let r = sym (rest_is rest at len next l) in
    let is : is_end (first_line (drop at rest)) ≡ false = ap is_end (sym (cut rest at len l.len_is)) ∙ told in
    let s : n + passed + 1 ≡ n + (passed + 1) = omega arith in
    skips n ∙ by_inner_line (n + passed) (drop at rest) ∙ (λ i. commands_of (not (is i)) (s i) (lines (r i)))

pub rest_length : (bytes : List ℕ) (at : ℕ) → length (take (length bytes - at) (drop at bytes)) ≡ length bytes - at
rest_length bytes at = ap length (take_rest bytes at) ∙ length-drop at bytes
