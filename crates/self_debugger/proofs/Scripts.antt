-- A script has no more commands than lines, and no more lines than bytes and one.
use Rattle.std.proofs.Common.{◌≡◌, ℕ, suc, ◌+◌, ◌≤◌, refl, ap, sym, subst, arith}
use Rattle.std.specs.Prelude.{◌==◌, Bool, true, false, not, ◌++◌, List, [], ◌∷◌, length, count_by, Option, Some, None, Result, Ok, Err}
use Rattle.std.specs.List.{slice_split}
use Rattle.std.proofs.lemmas.List.Splits.{length-slice_split}
use Rattle.std.proofs.lemmas.List.Sums.{count_by-le-length}
use Rattle.session_text.specs.declared.commands.Command.{Command}
use Rattle.session_text.specs.declared.commands.Command.TheVariants as commands
use Rattle.session_text.specs.declared.reading.Meaning.{Meaning}
use Rattle.session_text.specs.declared.reading.Meaning.TheVariants.{Idle, Does, Opens, NoCommand}
use Rattle.session_text.specs.Commands.{meaning}
use Rattle.session_text.specs.Scripts.{lines, is_end, edit_text, in_front, of_line, commands_of, script}
use Rattle.session_text.specs.Words.{trimmed}

abbrev Commands : Type 0
Commands = Result (List Command) ℕ

same_commands : (xs ys : List Command) → ◌≡◌ {A = Commands} (Ok xs) (Ok ys) → xs ≡ ys
same_commands xs ys e = cc

in_front_few : (n : ℕ) (c : Command) (o : Commands) (cs : List Command) → ((xs : List Command) → o ≡ Ok xs → length xs ≤ n) → in_front (c ∷ []) o ≡ Ok cs → length cs ≤ suc n
in_front_few n c (Ok xs) cs few e = let all : length cs ≡ suc (length xs) = ap length (sym (same_commands (c ∷ xs) cs e)) in let less = few xs refl in omega arith
in_front_few n c (Err k) cs few e = absurd (cc)

module _ (rest : List (List ℕ)) (few : (inside : Bool) (n : ℕ) (cs : List Command) → commands_of inside n rest ≡ Ok cs → length cs ≤ length rest) where
  line_few : (n : ℕ) (text : Option (List ℕ)) (m : Meaning) (cs : List Command) → of_line n text (λ inside. commands_of inside (n + 1) rest) m ≡ Ok cs → length cs ≤ suc (length rest)
  line_few n text Idle cs e = let less = few false (n + 1) cs e in omega arith
  line_few n text (Does c) cs e = in_front_few (length rest) c (commands_of false (n + 1) rest) cs (λ xs is. few false (n + 1) xs is) e
  line_few n (Some t) (Opens path) cs e = in_front_few (length rest) (commands.Edit path t) (commands_of true (n + 1) rest) cs (λ xs is. few true (n + 1) xs is) e
  line_few n None (Opens path) cs e = absurd (cc)
  line_few n text NoCommand cs e = absurd (cc)

few_of : (ls : List (List ℕ)) (inside : Bool) (n : ℕ) (cs : List Command) → commands_of inside n ls ≡ Ok cs → length cs ≤ length ls
few_of [] inside n cs e = let none : length cs ≡ 0 = ap length (sym (same_commands [] cs e)) in omega arith
few_of (l ∷ rest) true n cs e = let less = few_of rest (not (is_end l)) (n + 1) cs e in omega arith
few_of (l ∷ rest) false n cs e = line_few rest (few_of rest) n (edit_text rest) (meaning (trimmed l)) cs e

pub few_commands : (text : List ℕ) (cs : List Command) → script text ≡ Ok cs → length cs ≤ length text + 1
few_commands text cs e =
    let lines_few = few_of (lines text) false 1 cs e in
    let parts = length-slice_split (λ b. b == 10) text in
    let few = count_by-le-length (λ b. b == 10) text in
    omega arith
