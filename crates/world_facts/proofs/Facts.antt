-- The world of a text is whole.
use Rattle.std.specs.Prelude.{◌≡◌, ◌≢◌, ℕ, ◌<◌, Bool, true, false, Some, Ok, List, [], ◌∷◌, map, slice_get, if◌then◌else◌}
use Rattle.std.proofs.Common.{arith}
use Rattle.self_terms.specs.Words.{IsSmall}
use Rattle.self_tokens.specs.declared.symbols.Kind.{Kind}
use Rattle.self_tokens.specs.declared.symbols.Kind.TheVariants as kind
use Rattle.self_tokens.specs.declared.symbols.Token.{Token}
use Rattle.self_tokens.specs.Texts.{text_of}
use Rattle.self_tokens.specs.Tokens.{tokens}
use Rattle.self_grammar.specs.Counts.{Limits}
use Rattle.self_grammar.specs.Grammar as g
use Rattle.self_grammar.specs.Refusal.{IsText}
use Rattle.self_grammar.specs.Spelling.{world, items_of}
use Rattle.self_signs.specs.Signs.{signs, sign_of, symbol_at, number_of, names_after, is_restart, is_restart_keyword}
use Rattle.world_build.specs.Worlds.{World, built}
use Rattle.world_build.proofs.DataIntegers.{world_data}
use Rattle.world_build.specs.Wholeness.{IsWhole}
use Rattle.world_facts.proofs.SmallSigns.{small_signs}
use Rattle.world_build.proofs.SetterNames.{OfSymbol, OfSigns, world_setters}
use Rattle.world_build.proofs.Loaded.{all_bytes}
use Rattle.world_build.proofs.Whole.{built_whole}

either : {A : Type 0} (P : A → Type 0) (b : Bool) (x y : A) → P x → P y → P (if b then x else y)
either P true x y p q = p
either P false x y p q = q

-- The names of signs have numbers.
abbrev IsNamed : ℕ → Type 0
IsNamed n = n ≢ 0

named_symbol : (names : List (List ℕ)) (k : Kind) (text : List ℕ) (start end : ℕ) → OfSymbol IsNamed (symbol_at (number_of names) k text start end)
named_symbol names (kind.Integer i) text start end = tt
named_symbol names kind.StringLiteral text start end = tt
named_symbol names kind.Name text start end = λ e. omega arith
named_symbol names kind.Primitive text start end = either (OfSymbol IsNamed) (is_restart text) _ _ tt tt
named_symbol names kind.Keyword text start end = tt
named_symbol names kind.PrimitiveKeyword text start end = either (OfSymbol IsNamed) (is_restart_keyword text) _ _ tt tt
named_symbol names kind.CapitalKeyword text start end = tt
named_symbol names kind.Argument text start end = tt
named_symbol names kind.Delegate text start end = tt
named_symbol names kind.Operator text start end = tt
named_symbol names kind.OpenParen text start end = tt
named_symbol names kind.CloseParen text start end = tt
named_symbol names kind.OpenBracket text start end = tt
named_symbol names kind.CloseBracket text start end = tt
named_symbol names kind.Bar text start end = tt
named_symbol names kind.Period text start end = tt
named_symbol names kind.Caret text start end = tt
named_symbol names kind.End text start end = tt
named_symbol names (kind.Bad f) text start end = tt

named_tokens : (names : List (List ℕ)) (bytes : List ℕ) (ts : List Token) → OfSigns IsNamed (map (sign_of names bytes) ts)
named_tokens names bytes [] = tt
named_tokens names bytes (t ∷ ts) = (named_symbol names t.kind (text_of bytes t) t.start t.end, named_tokens names bytes ts)

named_signs : (known : List (List ℕ)) (bytes : List ℕ) → OfSigns IsNamed (signs known bytes)
named_signs known bytes = named_tokens (names_after known bytes (tokens bytes)) bytes (tokens bytes)

pub accepted_whole : (l : Limits) (known : List (List ℕ)) (bytes : List ℕ) (t : g.World) (w : World) → ((i b : ℕ) → slice_get bytes i ≡ Some b → b < 256)
    → IsText (world l) (signs known bytes) t → built (names_after known bytes (tokens bytes)) bytes (items_of (world l t)) ≡ Ok w → IsWhole w
accepted_whole l known bytes t w small is e =
    let names = names_after known bytes (tokens bytes) in
    let given = items_of (world l t) in
    built_whole names bytes given w (all_bytes bytes small) (world_data l IsSmall (signs known bytes) t is (small_signs known bytes)) (world_setters l IsNamed (signs known bytes) t is (named_signs known bytes)) e
