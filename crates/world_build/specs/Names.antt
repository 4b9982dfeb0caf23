-- Names in parts, and the names that a world must have.
use Rattle.std.specs.Prelude.{ℕ, List, [], ◌∷◌, ◌++◌, codes}
use Rattle.self_terms.specs.Names.{with_text}
use Rattle.source_model.specs.Names.{number_of, text_named}
use Rattle.self_grammar.specs.declared.pieces.Words.{Words}
use Rattle.self_grammar.specs.Parts.{parts_in}
use Rattle.world_build.specs.declared.cores.CoreName.{CoreName}
use Rattle.world_build.specs.declared.cores.CoreName.TheVariants.{Nil, True, False, IntegerTraits, StringTraits, VectorTraits, BlockTraits}

-- `lobby`, with which a path may begin, and the names of the core objects in their order
abbrev pub lobby_text : List ℕ
lobby_text = codes "lobby"

abbrev pub core_text : CoreName → List ℕ
core_text Nil = codes "nil"
core_text True = codes "true"
core_text False = codes "false"
core_text IntegerTraits = codes "integerTraits"
core_text StringTraits = codes "stringTraits"
core_text VectorTraits = codes "vectorTraits"
core_text BlockTraits = codes "blockTraits"

abbrev pub core_names : List CoreName
core_names = Nil ∷ True ∷ False ∷ IntegerTraits ∷ StringTraits ∷ VectorTraits ∷ BlockTraits ∷ []

abbrev pub with_core_texts : List (List ℕ) → List CoreName → List (List ℕ)
with_core_texts names [] = names
with_core_texts names (c ∷ cs) = with_core_texts (with_text names (core_text c)) cs

-- the names with those that a world must have
abbrev pub with_world_texts : List (List ℕ) → List (List ℕ)
with_world_texts names = with_core_texts (with_text names lobby_text) core_names

-- the texts of a name's parts, one behind the other
abbrev pub joined : List (List ℕ) → List ℕ → List ℕ
joined names [] = []
joined names (n ∷ ns) = text_named names n ++ joined names ns

-- a name in parts is one name; that of several parts may be new
abbrev pub with_words : List (List ℕ) → Words → List (List ℕ)
with_words names w = with_text names (joined names (parts_in w))

abbrev pub word_number : List (List ℕ) → Words → ℕ
word_number names w = number_of (with_words names w) (joined names (parts_in w))
