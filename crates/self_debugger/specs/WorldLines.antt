-- The lines about a world file: what it holds, or why it is refused.
use Rattle.std.specs.Prelude.{ℕ, List, [], ◌++◌, length, codes, decimal}
use Rattle.self_terms.specs.declared.nodes.Place.{Place}
use Rattle.source_model.specs.Texts.{place_text}
use Rattle.self_grammar.specs.declared.signs.ReadKind.{ReadKind}
use Rattle.self_grammar.specs.declared.signs.ReadKind.TheVariants as kinds
use Rattle.self_grammar.specs.declared.signs.ReadRefusal.{ReadRefusal}
use Rattle.world_build.specs.declared.refusals.BuildRefusal.{BuildRefusal}
use Rattle.world_build.specs.declared.refusals.BuildRefusal.TheVariants as refusals
use Rattle.world_build.specs.Names.{core_text}
use Rattle.world_build.specs.Loading.{place}
use Rattle.world_build.specs.Worlds.{World}

abbrev pub kind_text : ReadKind → List ℕ
kind_text kinds.BadToken = codes "BadToken"
kind_text kinds.BadEscape = codes "BadEscape"
kind_text kinds.IntTooWide = codes "IntTooWide"
kind_text kinds.BadSyntax = codes "BadSyntax"
kind_text kinds.TooDeep = codes "TooDeep"
kind_text kinds.TooManyArgs = codes "TooManyArgs"
kind_text kinds.TooManyLocals = codes "TooManyLocals"
kind_text kinds.DuplicateSlot = codes "DuplicateSlot"
kind_text kinds.TooManyNodes = codes "TooManyNodes"

-- a world is refused for this, at a place of its file
abbrev pub refusal_line : List ℕ → Place → List ℕ
refusal_line why p = codes "world refused " ++ why ++ codes " at " ++ place_text p ++ codes "\n"

-- a text that is no world
abbrev pub read_line : ReadRefusal → List ℕ
read_line r = refusal_line (kind_text r.kind) (place r.spot)

-- a text whose world can't be built; want of memory refuses none
abbrev pub build_line : BuildRefusal → List ℕ
build_line (refusals.NoSuchPath p) = refusal_line (codes "NoSuchPath") p
build_line (refusals.ParentNotObject p) = refusal_line (codes "ParentNotObject") p
build_line (refusals.MissingCore name) = codes "world refused MissingCore " ++ core_text name ++ codes "\n"
build_line refusals.OutOfMemory = []

-- how many objects and bodies a world's text has, and its size
abbrev pub ok_line : World → List ℕ
ok_line w = codes "ok " ++ decimal w.objects ++ codes " objects " ++ decimal (length w.bodies) ++ codes " bodies size " ++ decimal w.size ++ codes "\n"
