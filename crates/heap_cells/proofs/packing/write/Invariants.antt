use Rattle.std.proofs.Common.{◌≡◌, ◌≤◌, ◌<◌, ◌+◌, ◌*◌, ◌/◌, ℕ, length, drop}
use Rattle.sparc_store.specs.Words.{word_at}
use Rattle.heap_cells.specs.Shapes.{first_word}
use Rattle.heap_cells.proofs.packing.write.Given as goal

abbrev pub invariant-loop-k : goal.invariant-loop-k
invariant-loop-k l = record {
  map : word_at l.mem l.at ≡ 4;
  numbered : word_at l.mem (l.at + 4) ≡ 4 * l.number;
  size : word_at l.mem (l.at + 8) ≡ 4 * length l.bytes;
  put : (k : ℕ) → k < l.k → word_at l.mem (l.at + 12 + 4 * k) ≡ first_word (drop (4 * k) l.bytes);
  others : (b : ℕ) → b < l.at → word_at l.mem b ≡ word_at l.fn.mem b;
  above : (b : ℕ) → l.at + 12 + 4 * ((length l.bytes + 3) / 4) ≤ b → word_at l.mem b ≡ word_at l.fn.mem b;
}
