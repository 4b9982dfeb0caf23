-- The world that an accepted text builds is modest.
use Rattle.std.specs.Prelude.{◌≡◌, ℕ, ◌≤◌, Ok, List, length}
use Rattle.std.proofs.Common.{arith}
use Rattle.self_terms.specs.Words.{IsSmall}
use Rattle.self_tokens.specs.Tokens.{tokens}
use Rattle.self_grammar.specs.Grammar as g
use Rattle.self_grammar.specs.Refusal.{IsText}
use Rattle.self_grammar.specs.Spelling.{world, items_of}
use Rattle.self_grammar.specs.Counts.{Limits}
use Rattle.self_signs.specs.Signs.{signs, names_after}
use Rattle.world_build.specs.Worlds.{World, built}
use Rattle.world_build.proofs.DataIntegers.{world_data}
use Rattle.world_build.proofs.Heavy.{few_words}
use Rattle.world_build.proofs.SmallData.{small_slots, no_vectors}
use Rattle.world_build.proofs.Spans.{built_slots}
use Rattle.world_heap.specs.Built.{IsModest}
use Rattle.world_facts.proofs.SmallSigns.{small_signs}
use Rattle.world_facts.proofs.TextLens.{text_lens_few}
use Rattle.world_facts.proofs.WordCounts.{words_few}

pub accepted_modest : (l : Limits) (known : List (List ℕ)) (bytes : List ℕ) (t : g.World) (w : World) → l.size ≤ 65536 → IsText (world l) (signs known bytes) t → length bytes ≤ 1048576 →
    built (names_after known bytes (tokens bytes)) bytes (items_of (world l t)) ≡ Ok w → IsModest w
accepted_modest l known bytes t w limited is short made =
    let names = names_after known bytes (tokens bytes) in
    let given = items_of (world l t) in
    let size = few_words l (signs known bytes) t is in
    let strings = text_lens_few known bytes in
    record {
      few = omega (arith, limited, short, size, strings, words_few names bytes given w made);
      slotted = no_vectors names bytes given w made;
      short = λ k slots at. omega (arith, limited, short, size, strings, built_slots names bytes given w made k slots at);
      small = small_slots names bytes given w made (world_data l IsSmall (signs known bytes) t is (small_signs known bytes));
    }
