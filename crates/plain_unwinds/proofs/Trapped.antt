-- Where a node has asked for a service, the windows are flushed and marks of contexts are cleared.
use Rattle.std.proofs.Common.{◌≡◌, ℕ, suc, ◌≤◌, refl, ◌∙◌, ap, sym, subst}
use Rattle.std.specs.Prelude.{List, [], ◌∷◌, take, All}
use Rattle.std.proofs.lemmas.List.Elements.{All-nil}
use Rattle.self_terms.specs.declared.nodes.Node.{Node}
use Rattle.self_terms.specs.Depths.{depth}
use Rattle.sparc_store.specs.Words.{Words}
use Rattle.sparc_store.specs.Windows.{Frame as Window}
use Rattle.sparc_machine.specs.State.{MachineState, stack_of}
use Rattle.source_model.specs.Soundness.{body_in}
use Rattle.frame_walk.specs.Places.{Frame}
use Rattle.plain_words.specs.Moves.{Moved}
use Rattle.plain_words.specs.Showing.{viewed}
use Rattle.plain_words.specs.Units.{frame_locals}
use Rattle.plain_words.proofs.Shown.{moved_window}
use Rattle.plain_runs.specs.Host.{Host}
use Rattle.plain_runs.specs.Services.{settled, with_left}
use Rattle.plain_runs.specs.Sound.{IsWindow, RunsAt, callers_of}
use Rattle.plain_runs.specs.Course.{with_machine, CanGo}
use Rattle.plain_unwinds.specs.Frames.{contexts_at, with_all_cleared}
use Rattle.plain_unwinds.specs.Services.{written, unmarked}
use Rattle.plain_unwinds.proofs.Marks.{contexts_of}
use Rattle.plain_unwinds.proofs.Walk.{contexts_shown, all_contexts_shown}
use Rattle.plain_unwinds.proofs.Written.{flushed_regs, flushed_same, flushed_held, new, none_held, new_shows}

module _ (h : Host) (b n : ℕ) (node : Node) (r : RunsAt h b n node) (can : CanGo h) (to : MachineState) (p : ℕ) (mv : Moved h.machine to p h.machine.memory (h.machine.regs 2)) where
  abbrev pub lain : Words
  lain = new h b n node r can.hosted can.runs

  abbrev pub w : Host
  w = written (with_machine h to)

  pub flat : w.machine.memory ≡ lain
  flat = flushed_same (stack_of h.machine) (stack_of to) mv.memory_is mv.older (mv.kept 14 refl) (moved_window h.machine to p (h.machine.regs 2) h.machine.memory mv)

  pub reg : (k : ℕ) → w.machine.regs k ≡ to.regs k
  reg k = ap (λ (q : ℕ → ℕ). q k) (flushed_regs (stack_of to))

  none : w.machine.older ≡ []
  none = flushed_held (stack_of h.machine) (stack_of to) mv.older (none_held h b n node r can.hosted can.runs)

  pub windows : All IsWindow w.machine.older
  windows = (let P : List Window → Type 0 = λ y. All IsWindow y in subst P (sym none) (All-nil IsWindow))

  pub count : to.regs 4 ≡ suc r.view.older
  count = mv.kept 4 refl ∙ r.view.count

  pub counted : w.machine.regs 4 ≡ suc r.view.older
  counted = reg 4 ∙ count

  pub first : w.machine.regs 14 ≡ h.machine.regs 14
  first = reg 14 ∙ mv.kept 14 refl

  pub zero_is : w.machine.regs 0 ≡ 0
  zero_is = reg 0 ∙ mv.kept 0 refl ∙ can.hosted.register_0

  -- the frames of the current activity
  abbrev pub frames : List Frame
  frames = viewed h.machine b n (frame_locals (body_in h.bodies b)) (depth (body_in h.bodies b).nodes n) ∷ callers_of h r.view.older

  pub all_contexts : contexts_at lain (suc r.view.older) (h.machine.regs 14) ≡ contexts_of frames
  all_contexts = sym (all_contexts_shown h lain (suc r.view.older) (h.machine.regs 14) h.machine.pc) ∙ ap contexts_of (new_shows h b n node r can.hosted can.runs)

  -- memory where the marks of the youngest of them are cleared
  pub memory_is : (j : ℕ) → j ≤ suc r.view.older → (goal cost : ℕ) → (settled goal cost (unmarked j w)).machine.memory ≡ with_left (with_all_cleared lain (contexts_of (take j frames))) goal cost
  memory_is j le goal cost =
      (λ i. with_left (with_all_cleared (flat i) (contexts_at (flat i) j (first i))) goal cost)
      ∙ ap (λ (ws : List ℕ). with_left (with_all_cleared lain ws) goal cost)
      (sym (contexts_shown h lain j (suc r.view.older) (h.machine.regs 14) h.machine.pc le) ∙ ap (λ (fs : List Frame). contexts_of (take j fs)) (new_shows h b n node r can.hosted can.runs))

  -- and where those of all of them are
  pub all_memory_is : (goal cost : ℕ) → (settled goal cost (unmarked (w.machine.regs 4) w)).machine.memory ≡ with_left (with_all_cleared lain (contexts_of frames)) goal cost
  all_memory_is goal cost =
      (λ i. with_left (with_all_cleared (flat i) (contexts_at (flat i) (counted i) (first i))) goal cost)
      ∙ ap (λ (ws : List ℕ). with_left (with_all_cleared lain ws) goal cost) all_contexts
