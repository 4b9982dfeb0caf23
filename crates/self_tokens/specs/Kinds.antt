-- What the reading of a token depends on of the token before it.
use Rattle.std.specs.Prelude.{Bool, true, false}
use Rattle.self_tokens.specs.declared.symbols.Kind.{Kind}
use Rattle.self_tokens.specs.declared.symbols.Kind.TheVariants as kind

-- An integer, a string, a name, a primitive name, ')' or ']': a minus sign behind it is an operator.
abbrev pub ends_operand : Kind → Bool
ends_operand (kind.Integer i) = true
ends_operand kind.StringLiteral = true
ends_operand kind.Name = true
ends_operand kind.Primitive = true
ends_operand kind.CloseParen = true
ends_operand kind.CloseBracket = true
ends_operand _ = false
