-- The names of a path.
use Rattle.std.proofs.Common.{◌≡◌, Bool, true, false, ◌&&◌, ℕ, List, [], ◌∷◌, ◌++◌, refl, ◌∙◌, sym, ◌<◌, length, arith}
use Rattle.std.specs.List.{list_all}
use Rattle.std.proofs.lemmas.List.{append-nil}
use Rattle.std.proofs.lemmas.List.Folds.{list_all-append}
use Rattle.session_text.specs.declared.reading.Meaning.TheVariants.{Opens, NoCommand}
use Rattle.session_text.specs.Words.{is_name}
use Rattle.session_text.specs.Commands.{editing}

and_false : (a b c : Bool) → b ≡ false → (a && (b && c)) ≡ false
and_false true b c e = rw e refl
and_false false b c e = refl

none_named : (path : List (List ℕ)) (w : List ℕ) (more : List (List ℕ)) → is_name w ≡ false → list_all is_name (path ++ w ∷ more) ≡ false
none_named path w more e = list_all-append is_name path (w ∷ more) ∙ and_false (list_all is_name path) (is_name w) (list_all is_name more) e

not_named : (path : List (List ℕ)) → list_all is_name path ≡ false → editing path ≡ NoCommand
not_named [] e = refl
not_named (p ∷ ps) e = rw e refl

-- a path with a word that is no name is none
pub no_path : (all path : List (List ℕ)) (w : List ℕ) (more : List (List ℕ)) → all ≡ path ++ w ∷ more → is_name w ≡ false → NoCommand ≡ editing all
no_path all path w more e n = rw e (sym (not_named (path ++ w ∷ more) (none_named path w more n)))

pub is_path : (all path rest : List (List ℕ)) → all ≡ path ++ rest → rest ≡ [] → 0 < length path → list_all is_name path ≡ true → Opens path ≡ editing all
is_path all [] rest e r more n = absurd (omega arith)
is_path all (p ∷ ps) rest e r more n = rw (e, r, append-nil ps, n) refl

pub empty_path : (all path rest : List (List ℕ)) → all ≡ path ++ rest → rest ≡ [] → length path ≡ 0 → NoCommand ≡ editing all
empty_path all [] rest e r none = rw (e, r) refl
empty_path all (p ∷ ps) rest e r none = absurd (omega arith)
