-- The names of a session.
use Rattle.std.specs.Prelude.{ℕ, ◌&&◌, Bool, false, Option, None, Some, List, codes}
use Rattle.self_terms.specs.Names.{text_of}
use Rattle.source_model.specs.Names.{is_text}

abbrev pub is_given : List ℕ → Option (List ℕ) → Bool
is_given text None = false
is_given text (Some x) = is_text x text

-- The two names with fixed numbers stand first, as in every list of names that began with them.
abbrev pub starts_fixed : List (List ℕ) → Bool
starts_fixed names = is_given (codes "_IntAdd:") (text_of names 1) && is_given (codes "_IntSub:") (text_of names 2)
