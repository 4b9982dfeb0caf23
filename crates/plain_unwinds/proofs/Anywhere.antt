-- Where nothing is left of the goal, the frames of the current activity may be walked as well.
use Rattle.std.proofs.Common.{◌≡◌, ◌≢◌, ℕ, zero, suc, ◌+◌, ◌-◌, ◌^◌, ◌<◌, refl, ◌∙◌, ap, sym, subst, arith, inl, inr}
use Rattle.std.specs.Prelude.{List, [], ◌∷◌, All, Some, slice_get}
use Rattle.std.proofs.lemmas.Option.{none-some, same_Some}
use Rattle.self_terms.specs.declared.nodes.Node.{Node}
use Rattle.self_terms.specs.Depths.{depth}
use Rattle.sparc_store.specs.Words.{Words, HasWord}
use Rattle.sparc_store.specs.Windows.{Frame as Window, IsPlace, CanFlush, saved_at, held_places}
use Rattle.sparc_machine.specs.State.{MachineState, stack_of}
use Rattle.source_model.specs.Soundness.{body_in}
use Rattle.source_model.specs.State.{State}
use Rattle.frame_walk.specs.Places.{Descriptor, Frame}
use Rattle.frame_walk.specs.Walk.{Asked, AreLaid, Frames}
use Rattle.raw_steps.specs.Stands.{Sense, makes_blocks}
use Rattle.raw_steps.proofs.Nexts.{current_all}
use Rattle.plain_words.specs.Moves.{Moved}
use Rattle.plain_words.specs.Showing.{viewed}
use Rattle.plain_words.specs.Units.{frame_locals}
use Rattle.plain_words.proofs.Shown.{moved_window}
use Rattle.plain_runs.specs.Host.{Host, raw_of, descriptor_at}
use Rattle.plain_runs.specs.Units.{node_offset}
use Rattle.plain_runs.specs.Sound.{IsHeld, RunsAt, IsHosted, callers_of, entry_frame, ending_stub}
use Rattle.plain_runs.specs.Course.{with_machine, AllRun}
use Rattle.plain_runs.proofs.Pointed.{node_within}
use Rattle.plain_runs.proofs.Working.{held_have_room}
use Rattle.plain_steps.specs.Steps.{StandsFor}
use Rattle.plain_steps.proofs.Here.{at_node_of}
use Rattle.plain_answers.proofs.Storing.{InHeap}
use Rattle.plain_unwinds.specs.Frames.{frame_behind, contexts_at, AreWalked}
use Rattle.plain_unwinds.specs.Services.{CanUnwind, written}
use Rattle.plain_unwinds.proofs.Marks.{AreMarked, contexts_of, are_marked}
use Rattle.plain_unwinds.proofs.Taken.{c}
use Rattle.plain_unwinds.proofs.Walk.{all_contexts_shown}
use Rattle.plain_unwinds.proofs.Written.{flushed_regs, flushed_same, new, new_shows, may_be_flushed, new_laid}

-- each frame that is laid begins in a stack
laid_places : (descs : ℕ → Descriptor) (asked : Asked) (entry end : ℕ) (memory : Words) (n at pc : ℕ) → Frames descs asked → AreLaid asked entry end memory n at (saved_at memory at) pc [] → (k : ℕ) → k < n → IsPlace (frame_behind memory k at)
unfolding AreLaid
laid_places descs asked entry end memory zero at pc all laid k lt = absurd (omega (arith, lt))
laid_places descs asked entry end memory (suc n) at pc all laid zero lt =
    let f = all pc at (saved_at memory at 14) laid.0 in
    (f.place.0, f.place.1, f.place.2, omega (arith, f.place.3, f.room))
laid_places descs asked entry end memory (suc n) at pc all laid (suc k) lt =
    laid_places descs asked entry end memory n (saved_at memory at 14) (saved_at memory at 15 + 8) all laid.1 k (omega (arith, lt))

in_heap_word : (at : ℕ) → InHeap at → HasWord at × (at < 0x40000000)
in_heap_word at h = ((h.aligned, inr (inl (h.above, h.below))), omega (arith, h.below))

marked_word : (frames : List Frame) → AreMarked frames → (k context : ℕ) → slice_get (contexts_of frames) k ≡ Some context → context ≢ 0 → HasWord (context + 7) × (context + 7 < 0x40000000)
marked_word [] are k context is some = absurd (none-some context is)
marked_word (f ∷ fs) are zero context is some =
    let same : f.context ≡ context = same_Some f.context context is in
    let P : ℕ → Type 0 = λ q. HasWord (q + 7) × (q + 7 < 0x40000000) in
    subst P same (in_heap_word (f.context + 7) (are.0 (λ z. some (sym same ∙ z))))
marked_word (f ∷ fs) are (suc k) context is some = marked_word fs are.1 k context is some

module _ (h : Host) (b n : ℕ) (node : Node) (r : RunsAt h b n node) (hosted : IsHosted h) (run : AllRun h) (to : MachineState) (p : ℕ) (mv : Moved h.machine to p h.machine.memory (h.machine.regs 2)) where
  abbrev lain : Words
  lain = new h b n node r hosted run

  abbrev w : Host
  w = written (with_machine h to)

  flat : w.machine.memory ≡ lain
  flat = flushed_same (stack_of h.machine) (stack_of to) mv.memory_is mv.older (mv.kept 14 refl) (moved_window h.machine to p (h.machine.regs 2) h.machine.memory mv)

  regs_are : w.machine.regs ≡ to.regs
  regs_are = flushed_regs (stack_of to)

  counted : w.machine.regs 4 ≡ suc r.view.older
  counted = ap (λ (q : ℕ → ℕ). q 4) regs_are ∙ mv.kept 4 refl ∙ r.view.count

  first : w.machine.regs 14 ≡ h.machine.regs 14
  first = ap (λ (q : ℕ → ℕ). q 14) regs_are ∙ mv.kept 14 refl

  -- the frames of the current activity
  abbrev frames : List Frame
  frames = viewed h.machine b n (frame_locals (body_in h.bodies b)) (depth (body_in h.bodies b).nodes n) ∷ callers_of h r.view.older

  all_contexts : contexts_at lain (suc r.view.older) (h.machine.regs 14) ≡ contexts_of frames
  all_contexts = sym (all_contexts_shown h lain (suc r.view.older) (h.machine.regs 14) h.machine.pc) ∙ ap contexts_of (new_shows h b n node r hosted run)

  flushes : CanFlush (stack_of to)
  flushes =
      let m = h.machine in
      let f = may_be_flushed h b n node r hosted run in
      let low : to.regs 30 ≡ m.regs 30 = ap (λ (q : Window). q 14) (moved_window m to p (m.regs 2) m.memory mv) in
      let P : ℕ → Type 0 = λ q. IsPlace q in
      let Q : ℕ → List Window → Type 0 = λ x held. All IsPlace (held_places x held) in
      (subst P (sym (mv.kept 14 refl)) f.0, subst (λ x. Q x to.older) (sym low) (subst (Q (m.regs 30)) (sym mv.older) f.1))

  -- where a frame that isn't the oldest goes back to
  goes_back : (k : ℕ) → suc k < suc r.view.older → saved_at lain (frame_behind lain k (h.machine.regs 14)) 15 + 12 < 2 ^ 32
  goes_back k lt =
      let o = r.view.older - suc k in
      let caller = c h b n node r hosted run k o (omega (arith, lt)) in
      let x = body_in h.bodies caller.body in
      let u = caller.call.unit in
      let within = node_within h.references x caller.number caller.node caller.call.node_is in
      let next : node_offset h.references x (caller.number + 1) ≡ node_offset h.references x (suc caller.number) = ap (node_offset h.references x) (omega arith) in
      omega (arith, caller.call.address, u.region.to, within, next)

  walked : (s : State) (z : Sense) → StandsFor z h s → AreWalked lain (suc r.view.older) (h.machine.regs 14)
  walked s z f =
      let its = at_node_of z h s b n node f r in
      let all = current_all (raw_of h) s z f.stands its.young its.older _ _ node its.at in
      let marked = are_marked z (raw_of h) s f.stands (makes_blocks s) s.current (its.young ∷ its.older) frames all in
      record {
        places = laid_places (descriptor_at h) (IsHeld h) (entry_frame h.current) ending_stub lain (suc r.view.older) (h.machine.regs 14) h.machine.pc (held_have_room h run) (new_laid h b n node r hosted run);
        marks = λ k context is some. marked_word frames marked k context (ap (λ ws. slice_get ws k) (sym all_contexts) ∙ is) some;
        returns = goes_back;
      }

  pub may_unwind : (s : State) (z : Sense) → StandsFor z h s → CanUnwind (with_machine h to)
  may_unwind s z f =
      let P : Words → ℕ → ℕ → Type 0 = λ x y q. AreWalked x y q in
      record {
        flushes = flushes;
        some = omega (arith, counted);
        walked =
            subst (λ x. P x (w.machine.regs 4) (w.machine.regs 14)) (sym flat)
            (subst (λ y. P lain y (w.machine.regs 14)) (sym counted)
            (subst (P lain (suc r.view.older)) (sym first) (walked s z f)));
      }
