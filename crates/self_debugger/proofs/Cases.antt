-- Which answer is right, by what is known of the words, the world and the script: what holds of that answer holds of each right one.
use Rattle.std.proofs.Common.{◌≡◌, ℕ, ◌<◌, ◌≤◌, ◌∙◌, List, [], ◌∷◌, length, codes, Option, Some, ap, sym, subst, arith}
use Rattle.std.specs.Prelude.{true, false, Result, Ok, Err}
use Rattle.std.specs.List.{list_all}
use Rattle.session_text.specs.declared.commands.Command.{Command}
use Rattle.session_text.specs.LineTexts.{refused_line}
use Rattle.session_text.specs.Scripts.{script}
use Rattle.world_build.specs.Worlds.{World}
use Rattle.self_debugger.specs.Commands.{is_served, transcript}
use Rattle.self_debugger.specs.Words.{Job, RunWorld, CheckWorld, RunDrill, Asks}
use Rattle.self_debugger.specs.WorldLines.{ok_line}
use Rattle.self_debugger.specs.WorldFiles.{WorldRead, begins}
use Rattle.self_debugger.specs.Answer.{Answer, ScriptAnswer, long_script, bad_script, other_script, done, WorldAnswer, refused_world, accepted, CheckAnswer, refused_check, checked, Answers, usage, no_drill, over_check, over_world}
use Rattle.self_debugger.proofs.OneWorld.{one_line, one_world_read, never_both}

abbrev Commands : Type 0
Commands = Result (List Command) ℕ

same_line : (m n : ℕ) → ◌≡◌ {A = Commands} (Err m) (Err n) → m ≡ n
same_line m n e = cc

same_script : (xs ys : List Command) → ◌≡◌ {A = Commands} (Ok xs) (Ok ys) → xs ≡ ys
same_script xs ys e = cc

no_script : (n : ℕ) (xs : List Command) → ◌≡◌ {A = Commands} (Err n) (Ok xs) → ⊥
no_script n xs e = cc

apart : false ≡ true → ⊥
apart e = cc

module _ (handed : ℕ) (P : Answer → Type 0) where
  pub of_long_script : (w : World) (t : List ℕ) {a : Answer} → 1048576 < length t → P (codes "script refused TooLong\n", 3) → ScriptAnswer handed w t a → P a
  of_long_script w t long p (long_script _) = p
  of_long_script w t long p (bad_script n short _) = absurd (omega arith)
  of_long_script w t long p (other_script cs short _ _) = absurd (omega arith)
  of_long_script w t long p (done cs short _ _) = absurd (omega arith)

  pub of_bad_script : (w : World) (t : List ℕ) (n : ℕ) {a : Answer} → length t ≤ 1048576 → script t ≡ Err n → P (refused_line n, 3) → ScriptAnswer handed w t a → P a
  of_bad_script w t n short e p (long_script long) = absurd (omega arith)
  of_bad_script w t n short e p (bad_script m _ f) =
      let Q : ℕ → Type 0 = λ k. P (refused_line k, 3) in
      subst Q (same_line n m (sym e ∙ f)) p
  of_bad_script w t n short e p (other_script cs _ f _) = absurd (no_script n cs (sym e ∙ f))
  of_bad_script w t n short e p (done cs _ f _) = absurd (no_script n cs (sym e ∙ f))

  pub of_other_script : (w : World) (t : List ℕ) (cs : List Command) {a : Answer} → length t ≤ 1048576 → script t ≡ Ok cs → list_all is_served cs ≡ false → P (codes "not built\n", 3) → ScriptAnswer handed w t a → P a
  of_other_script w t cs short e b p (long_script long) = absurd (omega arith)
  of_other_script w t cs short e b p (bad_script n _ f) = absurd (no_script n cs (sym f ∙ e))
  of_other_script w t cs short e b p (other_script ds _ _ _) = p
  of_other_script w t cs short e b p (done ds _ f c) = absurd (apart (sym b ∙ ap (list_all is_served) (same_script cs ds (sym e ∙ f)) ∙ c))

  pub of_script : (w : World) (t : List ℕ) (cs : List Command) {a : Answer} → length t ≤ 1048576 → script t ≡ Ok cs → list_all is_served cs ≡ true → P (transcript cs (begins handed w), 0) → ScriptAnswer handed w t a → P a
  of_script w t cs short e b p (long_script long) = absurd (omega arith)
  of_script w t cs short e b p (bad_script n _ f) = absurd (no_script n cs (sym f ∙ e))
  of_script w t cs short e b p (other_script ds _ f c) = absurd (apart (sym c ∙ ap (list_all is_served) (same_script ds cs (sym f ∙ e)) ∙ b))
  of_script w t cs short e b p (done ds _ f c) =
      let Q : List Command → Type 0 = λ x. P (transcript x (begins handed w), 0) in
      subst Q (same_script cs ds (sym e ∙ f)) p

  pub of_refused : (bytes line : List ℕ) (told : Option (List ℕ)) {a : Answer} → WorldRead bytes (Err line) → P (line, 2) → WorldAnswer handed bytes told a → P a
  of_refused bytes line told r p (refused_world other q) = let Q : List ℕ → Type 0 = λ x. P (x, 2) in subst Q (one_line bytes line other r q) p
  of_refused bytes line told r p (accepted w t a q _ _) = absurd (never_both bytes line w r q)

  pub of_world : (bytes : List ℕ) (w : World) (told : Option (List ℕ)) {a : Answer} → WorldRead bytes (Ok w) → ((t : List ℕ) → told ≡ Some t → ScriptAnswer handed w t a → P a) → WorldAnswer handed bytes told a → P a
  of_world bytes w told r p (refused_world line q) = absurd (never_both bytes line w q r)
  of_world bytes w told {a} r p (accepted v t _ q is s) =
      let Q : World → Type 0 = λ x. ScriptAnswer handed x t a in
      p t is (subst Q (one_world_read bytes v w q r) s)

  pub of_refused_check : (bytes line : List ℕ) {a : Answer} → WorldRead bytes (Err line) → P (line, 2) → CheckAnswer bytes a → P a
  of_refused_check bytes line r p (refused_check other q) = let Q : List ℕ → Type 0 = λ x. P (x, 2) in subst Q (one_line bytes line other r q) p
  of_refused_check bytes line r p (checked w q) = absurd (never_both bytes line w r q)

  pub of_checked : (bytes : List ℕ) (w : World) {a : Answer} → WorldRead bytes (Ok w) → P (ok_line w, 0) → CheckAnswer bytes a → P a
  of_checked bytes w r p (refused_check line q) = absurd (never_both bytes line w q r)
  of_checked bytes w r p (checked v q) = let Q : World → Type 0 = λ x. P (ok_line x, 0) in subst Q (one_world_read bytes w v r q) p

  module _ (words : List (List ℕ)) (bytes_of : List ℕ → Option (List ℕ)) (told : Option (List ℕ)) where
    pub of_no_words : {a : Answer} → ((job : Job) → ¬ Asks words job) → P (codes "usage: selfdb run WORLD | check WORLD | drill N\n", 1) → Answers handed words bytes_of told a → P a
    of_no_words never p (usage _) = p
    of_no_words never p (no_drill n asks) = absurd (never (RunDrill n) asks)
    of_no_words never p (over_check name w a asks _ _) = absurd (never (CheckWorld name) asks)
    of_no_words never p (over_world name w a asks _ _) = absurd (never (RunWorld name) asks)

    pub of_drill : (n : ℕ) {a : Answer} → Asks words (RunDrill n) → ((job : Job) → Asks words job → job ≡ RunDrill n) → P (codes "not built\n", 1) → Answers handed words bytes_of told a → P a
    of_drill n asks one p (usage never) = absurd (never (RunDrill n) asks)
    of_drill n asks one p (no_drill _ _) = p
    of_drill n asks one p (over_check other w a also _ _) = let e = one (CheckWorld other) also in absurd (cc)
    of_drill n asks one p (over_world other w a also _ _) = let e = one (RunWorld other) also in absurd (cc)

    pub of_check : (name : List ℕ) {a : Answer} → Asks words (CheckWorld name) → ((job : Job) → Asks words job → job ≡ CheckWorld name)
        → ((w : List ℕ) → bytes_of name ≡ Some w → CheckAnswer w a → P a) → Answers handed words bytes_of told a → P a
    of_check name asks one p (usage never) = absurd (never (CheckWorld name) asks)
    of_check name asks one p (no_drill n also) = let e = one (RunDrill n) also in absurd (cc)
    of_check name {a} asks one p (over_check other w _ also told s) =
        let e = one (CheckWorld other) also in
        let same : other ≡ name = cc in
        let Q : List ℕ → Type 0 = λ x. bytes_of x ≡ Some w in
        p w (subst Q same told) s
    of_check name asks one p (over_world other w a also _ _) = let e = one (RunWorld other) also in absurd (cc)

    pub of_run : (name : List ℕ) {a : Answer} → Asks words (RunWorld name) → ((job : Job) → Asks words job → job ≡ RunWorld name)
        → ((w : List ℕ) → bytes_of name ≡ Some w → WorldAnswer handed w told a → P a) → Answers handed words bytes_of told a → P a
    of_run name asks one p (usage never) = absurd (never (RunWorld name) asks)
    of_run name asks one p (no_drill n also) = let e = one (RunDrill n) also in absurd (cc)
    of_run name asks one p (over_check other w a also _ _) = let e = one (CheckWorld other) also in absurd (cc)
    of_run name {a} asks one p (over_world other w _ also told s) =
        let e = one (RunWorld other) also in
        let same : other ≡ name = cc in
        let Q : List ℕ → Type 0 = λ x. bytes_of x ≡ Some w in
        p w (subst Q same told) s
