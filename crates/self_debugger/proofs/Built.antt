-- What is built of the items that were read is what is built of the text.
use Rattle.std.specs.Prelude.{◌≡◌, ℕ, ◌≤◌, Result, Ok, Err, List, length}
use Rattle.std.proofs.Common.{ap, sym, ◌∙◌}
use Rattle.self_tokens.specs.Tokens.{tokens}
use Rattle.self_grammar.specs.declared.pieces.Item.{Item}
use Rattle.self_grammar.specs.Grammar as grammar
use Rattle.self_grammar.specs.Spelling.{world}
use Rattle.self_reader.specs.declared.texts.TheConstants.{LIMITS}
use Rattle.self_signs.specs.Signs.{signs, names_after}
use Rattle.self_reader.specs.Texts.{AreRead, known}
use Rattle.world_build.specs.declared.refusals.BuildRefusal.{BuildRefusal}
use Rattle.world_build.specs.Worlds.{World, built}
use Rattle.self_debugger.specs.WorldLines.{build_line}
use Rattle.self_debugger.specs.WorldFiles.{Spells, built_of, WorldRead, unbuilt, read}

-- These items are the text's, with its names.
abbrev pub AreOf : List ℕ → List (List ℕ) → List Item → Type 0
AreOf bytes names given = AreRead grammar.World (world LIMITS) (signs known bytes) given × (names ≡ names_after known bytes (tokens bytes))

text_builds : (bytes : List ℕ) (names : List (List ℕ)) (items given : List Item) (o : Result World BuildRefusal) → AreOf bytes names given → items ≡ given → built names bytes items ≡ o
    → (t : grammar.World) × Spells bytes t × (built_of bytes t ≡ o)
text_builds bytes names items given o (a, e) f b =
    (a.0, a.1, sym (ap (λ n. built n bytes items) e ∙ ap (λ is. built (names_after known bytes (tokens bytes)) bytes is) (f ∙ a.2)) ∙ b)

pub read_built : (bytes : List ℕ) (names : List (List ℕ)) (items given : List Item) (w : World) → length bytes ≤ 1048576 → AreOf bytes names given → items ≡ given → built names bytes items ≡ Ok w → WorldRead bytes (Ok w)
read_built bytes names items given w h a f b = let t = text_builds bytes names items given (Ok w) a f b in read t.0 w h t.1 t.2

pub read_unbuilt : (bytes : List ℕ) (names : List (List ℕ)) (items given : List Item) (r : BuildRefusal) → length bytes ≤ 1048576 → AreOf bytes names given → items ≡ given → built names bytes items ≡ Err r → WorldRead bytes (Err (build_line r))
read_unbuilt bytes names items given r h a f b = let t = text_builds bytes names items given (Err r) a f b in unbuilt t.0 r h t.1 t.2
