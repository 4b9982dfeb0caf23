-- Words laid at the heap's top leave frames, units and counts.
use Rattle.std.proofs.Common.{◌≡◌, ◌⊎◌, ℕ, ◌+◌, ◌*◌, ◌<◌, ◌≤◌, refl, ◌∙◌, arith, inl, inr}
use Rattle.std.specs.Prelude.{List, [], ◌∷◌, length}
use Rattle.sparc_store.specs.Words.{Words, word_at, with_word, IsWithin}
use Rattle.sparc_store.proofs.Placed.{others_stay, put_stays_within}
use Rattle.sparc_machine.specs.State.{MachineState}
use Rattle.plain_words.specs.Moves.{with_words}
use Rattle.plain_runs.specs.Host.{Host}
use Rattle.plain_sends.proofs.Settling.{KeptTo}

pub put_apart : (ws : List ℕ) (memory : Words) (at b : ℕ) → (b < at) ⊎ (at + 4 * length ws ≤ b) → word_at (with_words memory at ws) b ≡ word_at memory b
put_apart [] memory at b out = refl
put_apart (w ∷ ws) memory at b (inl below) = put_apart ws (with_word memory at w) (at + 4) b (inl (omega (arith, below))) ∙ others_stay memory at w b (λ e. absurd (omega (arith, below, e)))
put_apart (w ∷ ws) memory at b (inr above) = put_apart ws (with_word memory at w) (at + 4) b (inr (omega (arith, above))) ∙ others_stay memory at w b (λ e. absurd (omega (arith, above, e)))

pub put_within : (ws : List ℕ) (memory : Words) (at : ℕ) → IsWithin memory → IsWithin (with_words memory at ws)
put_within [] memory at whole = whole
put_within (w ∷ ws) memory at whole = put_within ws (with_word memory at w) (at + 4) (put_stays_within memory at w whole)

-- the machine with words put at the heap's top
abbrev pub laid : MachineState → List ℕ → MachineState
laid m ws = record m { memory = with_words m.memory (m.regs 6) ws }

pub kept_laid : (h : Host) (m : MachineState) (goal : ℕ) (ws : List ℕ) → KeptTo h m goal → 0x20000000 ≤ m.regs 6 → m.regs 6 + 4 * length ws ≤ 0x20000000 + 46137344 → KeptTo h (laid m ws) goal
kept_laid h m goal ws k low room = record {
  code = λ b lt. put_apart ws m.memory (m.regs 6) b (inl (omega (arith, lt, low))) ∙ k.code b lt;
  stacks = λ b high. put_apart ws m.memory (m.regs 6) b (inr (omega (arith, high, room))) ∙ k.stacks b high;
  goal_is = put_apart ws m.memory (m.regs 6) 0x30000000 (inr (omega (arith, room))) ∙ k.goal_is;
  within = put_within ws m.memory (m.regs 6) k.within;
  few = k.few;
  zero_is = k.zero_is;
  count = k.count;
  frame = k.frame;
  window = k.window;
  older = k.older;
}
