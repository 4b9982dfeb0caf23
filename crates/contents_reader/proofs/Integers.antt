-- An integer that is passed is the same where it fits.
use Rattle.std.proofs.Common.{ℤ, subst, w32, to_z, of_z}
use Rattle.std.specs.Prelude.{Result, List, false}
use Rattle.std.proofs.lemmas.Int.{to_z-of_z}
use Rattle.self_grammar.specs.declared.pieces.Item.TheVariants as items
use Rattle.self_grammar.specs.Counts.{Context}
use Rattle.reader_states.specs.declared.frames.Frame.{Frame}
use Rattle.reader_states.specs.declared.frames.Stop.{Stop}
use Rattle.reader_states.specs.declared.frames.Turn.{Turn}
use Rattle.reader_states.specs.Turns.{Turns}
use Rattle.contents_reader.specs.ContentTurns.{simple_constant, simple_datum}
use mir.Val.{SFits}

pub constant_held : (r : Result Turn Stop) (fs : List Frame) (c : Context) (z : ℤ) → SFits w32 z →
    Turns r (simple_constant (items.Integer (to_z w32 (of_z w32 z))) false fs c) → Turns r (simple_constant (items.Integer z) false fs c)
constant_held r fs c z fits e = subst (λ y. Turns r (simple_constant (items.Integer y) false fs c)) (to_z-of_z w32 z fits) e

pub datum_held : (r : Result Turn Stop) (fs : List Frame) (c : Context) (z : ℤ) → SFits w32 z →
    Turns r (simple_datum (items.Integer (to_z w32 (of_z w32 z))) false fs c) → Turns r (simple_datum (items.Integer z) false fs c)
datum_held r fs c z fits e = subst (λ y. Turns r (simple_datum (items.Integer y) false fs c)) (to_z-of_z w32 z fits) e
