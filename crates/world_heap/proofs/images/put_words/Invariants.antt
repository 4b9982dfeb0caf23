use Rattle.std.proofs.Common.{◌≡◌, ◌⊎◌, ◌≤◌, ◌<◌, ◌+◌, ◌*◌, ℕ, length}
use Rattle.std.specs.Prelude.{slice_index}
use Rattle.sparc_store.specs.Words.{word_at}
use Rattle.world_heap.proofs.images.put_words.Given as goal

abbrev pub invariant-loop-at : goal.invariant-loop-at
invariant-loop-at l = record {
  put : (k : ℕ) → k < l.at → word_at l.mem (0x20000000 + 4 * k) ≡ slice_index l.words k;
  others : (b : ℕ) → (b < 0x20000000) ⊎ (0x20000000 + 4 * length l.words ≤ b) → word_at l.mem b ≡ word_at l.fn.mem b;
}
