-- Memory where the windows were flushed, the marks of some contexts are cleared, and the control region says what is left.
use Rattle.std.proofs.Common.{◌≡◌, ℕ, ◌<◌, ◌≤◌, ◌∙◌, ap, sym, subst, arith, inl, inr}
use Rattle.std.specs.Prelude.{All, List}
use Rattle.self_terms.specs.declared.nodes.Node.{Node}
use Rattle.sparc_store.specs.Words.{Words, word_at, with_word, HasWord, IsWithin}
use Rattle.sparc_store.proofs.Placed.{put_there, put_stays_within}
use Rattle.sparc_machine.specs.State.{MachineState}
use Rattle.frame_walk.specs.Places.{Frame}
use Rattle.raw_steps.specs.Ends.{Ends}
use Rattle.plain_runs.specs.Host.{Host, heap_words}
use Rattle.plain_runs.specs.Services.{with_left}
use Rattle.plain_runs.specs.Sound.{IsWindow, RunsAt, IsHosted}
use Rattle.plain_runs.specs.Course.{AllRun}
use Rattle.plain_sends.proofs.Settling.{Controlled, controlled}
use Rattle.plain_unwinds.specs.Frames.{with_all_cleared}
use Rattle.plain_unwinds.proofs.Apart.{IsApart}
use Rattle.plain_unwinds.proofs.Marks.{contexts_of, AreMarked, InHeapAlone, all_alone, all_end}
use Rattle.plain_unwinds.proofs.Written.{new, new_within, new_low, new_heap, new_own}

has_left : HasWord 0x30000004
has_left = (omega arith, inr (inr (inl (omega arith, omega arith))))

module _ (h : Host) (b n : ℕ) (node : Node) (r : RunsAt h b n node) (hosted : IsHosted h) (run : AllRun h) where
  module _ (frames : List Frame) (marked : AreMarked frames) (goal cost : ℕ) where
    abbrev pub unmarked_memory : Words
    unmarked_memory = with_all_cleared (new h b n node r hosted run) (contexts_of frames)

    abbrev pub last : Words
    last = with_left unmarked_memory goal cost

    alone : InHeapAlone (new h b n node r hosted run) unmarked_memory
    alone = all_alone (new h b n node r hosted run) frames (new_within h b n node r hosted run) marked

    set : Controlled unmarked_memory last goal
    set = controlled unmarked_memory goal cost alone.within

    last_low : (a : ℕ) → a < 0x20000000 → word_at last a ≡ word_at h.machine.memory a
    last_low a lt =
        set.others a (λ e. absurd (omega (arith, e, lt))) (λ e. absurd (omega (arith, e, lt)))
        ∙ alone.low a lt
        ∙ new_low h b n node r hosted run a (omega (arith, lt))

    -- in the stacks there is what was flushed
    pub last_high : (a : ℕ) → 0x40000000 ≤ a → word_at last a ≡ word_at (new h b n node r hosted run) a
    last_high a le =
        set.others a (λ e. absurd (omega (arith, e, le))) (λ e. absurd (omega (arith, e, le)))
        ∙ alone.high a (omega (arith, le))

    pub last_goal : word_at last 0x30000000 ≡ goal
    last_goal = set.goal_is

    -- and of the plain cost
    pub last_left : word_at last 0x30000004 ≡ cost
    last_left = put_there (with_word unmarked_memory 0x30000000 goal) 0x30000004 cost (put_stays_within unmarked_memory 0x30000000 goal alone.within) has_left

    pub last_within : IsWithin last
    last_within = set.within

    -- the words of the heap, where these contexts' marks are cleared
    pub last_ends : Ends (heap_words h.machine.memory) frames (heap_words last)
    last_ends =
        let P : Words → Words → Type 0 = λ x y. Ends x frames y in
        subst (λ x. P x (heap_words last)) (new_heap h b n node r hosted run)
        (subst (P (heap_words (new h b n node r hosted run))) (sym set.heap) (all_end (new h b n node r hosted run) frames (new_within h b n node r hosted run) marked))

    pub apart_after : goal ≤ 1000000000 → (to : MachineState) → to.memory ≡ last → to.regs 0 ≡ 0 → All IsWindow to.older → IsApart h to goal
    apart_after few to is zero_is windows = record {
      code = λ a lt. ap (λ (y : Words). word_at y a) is ∙ last_low a lt;
      stacks = λ a le ne. ap (λ (y : Words). word_at y a) is ∙ last_high a le ∙ new_own h b n node r hosted run a ne;
      goal_is = ap (λ (y : Words). word_at y 0x30000000) is ∙ set.goal_is;
      few = few;
      within = (let P : Words → Type 0 = IsWithin in subst P (sym is) set.within);
      zero_is = zero_is;
      windows = windows;
    }
