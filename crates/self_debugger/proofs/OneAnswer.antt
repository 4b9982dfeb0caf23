-- There is one answer.
use Rattle.std.proofs.Common.{◌≡◌, ◌⊎◌, ℕ, ◌^◌, ◌<◌, ◌≤◌, ◌∙◌, List, [], ◌∷◌, length, Bool, true, false, nat_lt, Option, None, Some, Result, Ok, Err, codes, decimal, inl, inr, refl, sym, subst, ltb-true, ltb-false}
use Rattle.std.proofs.lemmas.Option.{same_Some}
use Rattle.std.specs.List.{list_all}
use Rattle.session_text.specs.declared.commands.Command.{Command}
use Rattle.session_text.specs.LineTexts.{refused_line}
use Rattle.session_text.specs.Scripts.{script}
use Rattle.world_build.specs.Worlds.{World}
use Rattle.self_debugger.specs.Commands.{is_served, transcript}
use Rattle.self_debugger.specs.Words.{Job, RunWorld, CheckWorld, RunDrill, Asks}
use Rattle.self_debugger.specs.WorldLines.{ok_line}
use Rattle.self_debugger.specs.WorldFiles.{WorldRead, begins}
use Rattle.self_debugger.specs.Answer.{Answer, ScriptAnswer, long_script, bad_script, other_script, done, WorldAnswer, refused_world, accepted, CheckAnswer, refused_check, checked, Answers, usage, no_drill, over_check, over_world}
use Rattle.self_debugger.specs.Headline.{TellsWorld}
use Rattle.self_debugger.proofs.Cases.{of_long_script, of_bad_script, of_other_script, of_script, of_refused, of_world, of_refused_check, of_checked, of_no_words, of_drill, of_check, of_run}
use Rattle.self_debugger.proofs.OneJob.{one_job, decide}
use Rattle.self_debugger.proofs.OneWorld.{some_read}

module _ (handed : ℕ) where
  one_to_script : (w : World) (t : List ℕ) (a b : Answer) → ScriptAnswer handed w t a → ScriptAnswer handed w t b → a ≡ b
  one_to_script w t _ b (long_script long) s = of_long_script handed (λ x. (codes "script refused TooLong\n", 3) ≡ x) w t long refl s
  one_to_script w t _ b (bad_script n short e) s = of_bad_script handed (λ x. (refused_line n, 3) ≡ x) w t n short e refl s
  one_to_script w t _ b (other_script cs short e c) s = of_other_script handed (λ x. (codes "not built\n", 3) ≡ x) w t cs short e c refl s
  one_to_script w t _ b (done cs short e c) s = of_script handed (λ x. (transcript cs (begins handed w), 0) ≡ x) w t cs short e c refl s

  one_to_world : (bytes : List ℕ) (told : Option (List ℕ)) (a b : Answer) → WorldAnswer handed bytes told a → WorldAnswer handed bytes told b → a ≡ b
  one_to_world bytes told _ b (refused_world line r) s = of_refused handed (λ x. (line, 2) ≡ x) bytes line told r refl s
  one_to_world bytes told a b (accepted w t _ r is z) s =
      of_world handed (λ x. a ≡ x) bytes w told r
      (λ u also q. one_to_script w t a b z (subst (λ v. ScriptAnswer handed w v b) (same_Some _ _ (sym also ∙ is)) q)) s

  one_to_check : (bytes : List ℕ) (a b : Answer) → CheckAnswer bytes a → CheckAnswer bytes b → a ≡ b
  one_to_check bytes _ b (refused_check line r) s = of_refused_check handed (λ x. (line, 2) ≡ x) bytes line r refl s
  one_to_check bytes _ b (checked w r) s = of_checked handed (λ x. (ok_line w, 0) ≡ x) bytes w r refl s

  pub one : (words : List (List ℕ)) (bytes_of : List ℕ → Option (List ℕ)) (told : Option (List ℕ)) (a b : Answer)
      → Answers handed words bytes_of told a → Answers handed words bytes_of told b → a ≡ b
  one words bytes_of told _ b (usage never) s =
      of_no_words handed (λ x. (codes "usage: selfdb run WORLD | check WORLD | drill N\n", 1) ≡ x) words bytes_of told never refl s
  one words bytes_of told _ b (no_drill n asks) s =
      of_drill handed (λ x. (codes "not built\n", 1) ≡ x) words bytes_of told n asks (λ j also. one_job words j (RunDrill n) also asks) refl s
  one words bytes_of told a b (over_check name w _ asks is r) s =
      of_check handed (λ x. a ≡ x) words bytes_of told name asks (λ j also. one_job words j (CheckWorld name) also asks)
      (λ v also q. one_to_check w a b r (subst (λ z. CheckAnswer z b) (same_Some _ _ (sym also ∙ is)) q)) s
  one words bytes_of told a b (over_world name w _ asks is r) s =
      of_run handed (λ x. a ≡ x) words bytes_of told name asks (λ j also. one_job words j (RunWorld name) also asks)
      (λ v also q. one_to_world w told a b r (subst (λ z. WorldAnswer handed z told b) (same_Some _ _ (sym also ∙ is)) q)) s

  some_to_script : (w : World) (t : List ℕ) → (a : Answer) × ScriptAnswer handed w t a
  some_to_script w t = by_length (nat_lt 1048576 (length t)) refl
    where
      by_built : (cs : List Command) (b : Bool) → length t ≤ 1048576 → script t ≡ Ok cs → list_all is_served cs ≡ b → (a : Answer) × ScriptAnswer handed w t a
      by_built cs true short e c = ((transcript cs (begins handed w), 0), done cs short e c)
      by_built cs false short e c = ((codes "not built\n", 3), other_script cs short e c)

      by_script : (o : Result (List Command) ℕ) → length t ≤ 1048576 → script t ≡ o → (a : Answer) × ScriptAnswer handed w t a
      by_script (Ok cs) short e = by_built cs (list_all is_served cs) short e refl
      by_script (Err n) short e = ((refused_line n, 3), bad_script n short e)

      by_length : (b : Bool) → nat_lt 1048576 (length t) ≡ b → (a : Answer) × ScriptAnswer handed w t a
      by_length true e = ((codes "script refused TooLong\n", 3), long_script (ltb-true 1048576 (length t) e))
      by_length false e = by_script (script t) (ltb-false 1048576 (length t) e) refl

  some_to_world : (bytes t : List ℕ) → (a : Answer) × WorldAnswer handed bytes (Some t) a
  some_to_world bytes t = by_world (some_read bytes)
    where
      by_world : (o : Result World (List ℕ)) × WorldRead bytes o → (a : Answer) × WorldAnswer handed bytes (Some t) a
      by_world (Err line, r) = ((line, 2), refused_world line r)
      by_world (Ok w, r) = let s = some_to_script w t in (s.0, accepted w t (s.0) r refl (s.1))

  some_to_check : (bytes : List ℕ) → (a : Answer) × CheckAnswer bytes a
  some_to_check bytes = by_world (some_read bytes)
    where
      by_world : (o : Result World (List ℕ)) × WorldRead bytes o → (a : Answer) × CheckAnswer bytes a
      by_world (Err line, r) = ((line, 2), refused_check line r)
      by_world (Ok w, r) = ((ok_line w, 0), checked w r)

  pub some_answer : (words : List (List ℕ)) (bytes_of : List ℕ → Option (List ℕ)) (w t : List ℕ) → TellsWorld words bytes_of w → (a : Answer) × Answers handed words bytes_of (Some t) a
  some_answer words bytes_of w t tells = by (decide words)
    where
      by : ((job : Job) × Asks words job) ⊎ ((job : Job) → ¬ Asks words job) → (a : Answer) × Answers handed words bytes_of (Some t) a
      by (inl (RunWorld name, asks)) = let s = some_to_world w t in (s.0, over_world name w (s.0) asks (tells name (inl asks)) (s.1))
      by (inl (CheckWorld name, asks)) = let s = some_to_check w in (s.0, over_check name w (s.0) asks (tells name (inr asks)) (s.1))
      by (inl (RunDrill n, asks)) = ((codes "not built\n", 1), no_drill n asks)
      by (inr never) = ((codes "usage: selfdb run WORLD | check WORLD | drill N\n", 1), usage never)
