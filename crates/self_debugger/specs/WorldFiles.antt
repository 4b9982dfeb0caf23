-- What the bytes of a world file mean: a world, or the line that refuses them.
use Rattle.std.specs.Prelude.{◌≡◌, ℕ, ◌-◌, ◌<◌, ◌≤◌, Result, Ok, Err, List, length, codes}
use Rattle.self_tokens.specs.Tokens.{tokens}
use Rattle.self_grammar.specs.declared.signs.ReadRefusal.{ReadRefusal}
use Rattle.self_grammar.specs.Grammar as grammar
use Rattle.self_grammar.specs.Spelling.{world, items_of}
use Rattle.self_grammar.specs.Refusal.{IsText, IsRefused}
use Rattle.self_reader.specs.declared.texts.TheConstants.{LIMITS}
use Rattle.self_signs.specs.Signs.{signs, names_after}
use Rattle.self_reader.specs.Texts.{known}
use Rattle.world_build.specs.declared.refusals.BuildRefusal.{BuildRefusal}
use Rattle.source_model.specs.State.{State}
use Rattle.world_blocks.specs.Sessions.{session_names}
use Rattle.world_build.specs.Worlds.{World, built}
use Rattle.world_state.specs.Begun.{begun}
use Rattle.self_debugger.specs.WorldLines.{read_line, build_line}

-- The bytes spell this text, within the limits and with nothing wrong.
abbrev pub Spells : List ℕ → grammar.World → Type 0
Spells bytes t = IsText (world LIMITS) (signs known bytes) t

-- what the text that the bytes spell builds
abbrev pub built_of : List ℕ → grammar.World → Result World BuildRefusal
built_of bytes t = built (names_after known bytes (tokens bytes)) bytes (items_of (world LIMITS t))

-- A file is too long; or no text, for what is wrong first; or the world of its text can't be built; or it is a world.
pub data WorldRead (bytes : List ℕ) : Result World (List ℕ) → Type 0 where
  too_long : 1048576 < length bytes → WorldRead bytes (Err (codes "world refused TooLong\n"))
  refused : (r : ReadRefusal) → length bytes ≤ 1048576 → IsRefused grammar.World (world LIMITS) (signs known bytes) r → WorldRead bytes (Err (read_line r))
  unbuilt : (t : grammar.World) (b : BuildRefusal) → length bytes ≤ 1048576 → Spells bytes t → built_of bytes t ≡ Err b → WorldRead bytes (Err (build_line b))
  read : (t : grammar.World) (w : World) → length bytes ≤ 1048576 → Spells bytes t → built_of bytes t ≡ Ok w → WorldRead bytes (Ok w)

-- the state with which a session over a world begins, where so many advisors are handed in: the first of them is the present one, and the others are left;
-- behind the world's names stand those of a session
abbrev pub begins : ℕ → World → State
begins handed w = begun w (session_names w) (handed - 1)
