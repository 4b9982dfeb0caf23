-- At a service the frames of the current activity may be walked.
use Rattle.std.proofs.Common.{◌≡◌, ◌≢◌, ℕ, zero, suc, ◌+◌, ◌-◌, ◌^◌, ◌<◌, refl, ◌∙◌, ap, sym, subst, arith, inl, inr}
use Rattle.std.specs.Prelude.{List, [], ◌∷◌, All, Some, slice_get}
use Rattle.std.proofs.lemmas.Option.{none-some, same_Some}
use Rattle.self_terms.specs.declared.nodes.Node.{Node}
use Rattle.sparc_store.specs.Words.{Words, HasWord}
use Rattle.sparc_store.specs.Windows.{Frame as Window, IsPlace, CanFlush, saved_at, held_places}
use Rattle.sparc_machine.specs.State.{MachineState, stack_of}
use Rattle.source_model.specs.Soundness.{body_in}
use Rattle.source_model.specs.State.{State}
use Rattle.frame_walk.specs.Places.{Descriptor, Frame}
use Rattle.frame_walk.specs.Walk.{Asked, AreLaid, Frames}
use Rattle.raw_steps.specs.Stands.{Sense, makes_blocks}
use Rattle.raw_steps.proofs.Nexts.{current_all}
use Rattle.plain_words.specs.Moves.{Moved}
use Rattle.plain_words.proofs.Shown.{moved_window}
use Rattle.plain_runs.specs.Host.{Host, raw_of, descriptor_at}
use Rattle.plain_runs.specs.Units.{node_offset}
use Rattle.plain_runs.specs.Sound.{IsHeld, RunsAt, entry_frame, ending_stub}
use Rattle.plain_runs.specs.Course.{with_machine, CanGo}
use Rattle.plain_runs.proofs.Pointed.{node_within}
use Rattle.plain_runs.proofs.Working.{held_have_room}
use Rattle.plain_steps.specs.Steps.{StandsFor}
use Rattle.plain_steps.proofs.Here.{at_node_of}
use Rattle.plain_answers.proofs.Storing.{InHeap}
use Rattle.plain_unwinds.specs.Frames.{frame_behind, AreWalked}
use Rattle.plain_unwinds.specs.Services.{CanUnwind}
use Rattle.plain_unwinds.specs.Walking.{ActivitiesMayEnd}
use Rattle.plain_unwinds.proofs.Marks.{AreMarked, contexts_of, are_marked}
use Rattle.plain_unwinds.proofs.Taken.{c}
use Rattle.plain_unwinds.proofs.Trapped.{lain, w, flat, first, counted, frames, all_contexts}
use Rattle.plain_unwinds.proofs.Written.{may_be_flushed, new_laid}

-- each frame that is laid begins in a stack
laid_places : (descs : ℕ → Descriptor) (asked : Asked) (entry end : ℕ) (memory : Words) (n at pc : ℕ) → Frames descs asked → AreLaid asked entry end memory n at (saved_at memory at) pc [] → (k : ℕ) → k < n → IsPlace (frame_behind memory k at)
unfolding AreLaid
laid_places descs asked entry end memory zero at pc all laid k lt = absurd (omega (arith, lt))
laid_places descs asked entry end memory (suc n) at pc all laid zero lt =
    let f = all pc at (saved_at memory at 14) laid.0 in
    (f.place.0, f.place.1, f.place.2, omega (arith, f.place.3, f.room))
laid_places descs asked entry end memory (suc n) at pc all laid (suc k) lt =
    laid_places descs asked entry end memory n (saved_at memory at 14) (saved_at memory at 15 + 8) all laid.1 k (omega (arith, lt))

in_heap_word : (at : ℕ) → InHeap at → HasWord at × (at < 0x40000000)
in_heap_word at h = ((h.aligned, inr (inl (h.above, h.below))), omega (arith, h.below))

marked_word : (frames : List Frame) → AreMarked frames → (k context : ℕ) → slice_get (contexts_of frames) k ≡ Some context → context ≢ 0 → HasWord (context + 7) × (context + 7 < 0x40000000)
marked_word [] are k context is some = absurd (none-some context is)
marked_word (f ∷ fs) are zero context is some =
    let same : f.context ≡ context = same_Some f.context context is in
    let P : ℕ → Type 0 = λ q. HasWord (q + 7) × (q + 7 < 0x40000000) in
    subst P same (in_heap_word (f.context + 7) (are.0 (λ z. some (sym same ∙ z))))
marked_word (f ∷ fs) are (suc k) context is some = marked_word fs are.1 k context is some

module _ (h : Host) (b n : ℕ) (node : Node) (r : RunsAt h b n node) (can : CanGo h) (to : MachineState) (p : ℕ) (mv : Moved h.machine to p h.machine.memory (h.machine.regs 2)) where
  abbrev its_lain : Words
  its_lain = lain h b n node r can to p mv

  flushes : CanFlush (stack_of to)
  flushes =
      let m = h.machine in
      let f = may_be_flushed h b n node r can.hosted can.runs in
      let low : to.regs 30 ≡ m.regs 30 = ap (λ (q : Window). q 14) (moved_window m to p (m.regs 2) m.memory mv) in
      let P : ℕ → Type 0 = λ q. IsPlace q in
      let Q : ℕ → List Window → Type 0 = λ x held. All IsPlace (held_places x held) in
      (subst P (sym (mv.kept 14 refl)) f.0, subst (λ x. Q x to.older) (sym low) (subst (Q (m.regs 30)) (sym mv.older) f.1))

  -- where a frame that isn't the oldest goes back to
  goes_back : (k : ℕ) → suc k < suc r.view.older → saved_at its_lain (frame_behind its_lain k (h.machine.regs 14)) 15 + 12 < 2 ^ 32
  goes_back k lt =
      let o = r.view.older - suc k in
      let caller = c h b n node r can.hosted can.runs k o (omega (arith, lt)) in
      let x = body_in h.bodies caller.body in
      let u = caller.call.unit in
      let within = node_within h.references x caller.number caller.node caller.call.node_is in
      let next : node_offset h.references x (caller.number + 1) ≡ node_offset h.references x (suc caller.number) = ap (node_offset h.references x) (omega arith) in
      omega (arith, caller.call.address, u.region.to, within, next)

  walked : (s : State) (z : Sense) → StandsFor z h s → AreWalked its_lain (suc r.view.older) (h.machine.regs 14)
  walked s z f =
      let its = at_node_of z h s b n node f r in
      let its_frames = frames h b n node r can to p mv in
      let all = current_all (raw_of h) s z f.stands its.young its.older _ _ node its.at in
      let marked = are_marked z (raw_of h) s f.stands (makes_blocks s) s.current (its.young ∷ its.older) its_frames all in
      record {
        places = laid_places (descriptor_at h) (IsHeld h) (entry_frame h.current) ending_stub its_lain (suc r.view.older) (h.machine.regs 14) h.machine.pc (held_have_room h can.runs) (new_laid h b n node r can.hosted can.runs);
        marks = λ k context is some. marked_word its_frames marked k context (ap (λ ws. slice_get ws k) (sym (all_contexts h b n node r can to p mv)) ∙ is) some;
        returns = goes_back;
      }

  pub can_unwind : (s : State) (z : Sense) → StandsFor z h s → CanUnwind (with_machine h to)
  can_unwind s z f =
      let its_w = (w h b n node r can to p mv).machine in
      let flat_is = flat h b n node r can to p mv in
      let count_is = counted h b n node r can to p mv in
      let first_is = first h b n node r can to p mv in
      let P : Words → ℕ → ℕ → Type 0 = λ x y q. AreWalked x y q in
      record {
        flushes = flushes;
        some = omega (arith, count_is);
        walked =
            subst (λ x. P x (its_w.regs 4) (its_w.regs 14)) (sym flat_is)
            (subst (λ y. P its_lain y (its_w.regs 14)) (sym count_is)
            (subst (P its_lain (suc r.view.older)) (sym first_is) (walked s z f)));
      }

pub activities_may_end : ActivitiesMayEnd
activities_may_end z h s b n node f r can to p mv = can_unwind h b n node r can to p mv s z f
