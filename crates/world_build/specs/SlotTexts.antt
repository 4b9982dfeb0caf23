-- What the text of an edit says, by its items: they build bodies as those of a world do, from nothing. No path is followed yet: the
-- initial content of each local is kept as the text says it.
use Rattle.std.specs.Prelude.{ℕ, ◌+◌, ◌==◌, Bool, true, false, if◌then◌else◌, Option, None, Some, List, [], ◌∷◌, ◌++◌, length, map, filter}
use Rattle.self_terms.specs.declared.bodies.Local.{Local}
use Rattle.self_terms.specs.declared.bodies.Body.{Body}
use Rattle.self_grammar.specs.declared.pieces.SlotForm.{SlotForm}
use Rattle.self_grammar.specs.declared.pieces.SlotForm.TheVariants as form
use Rattle.self_grammar.specs.declared.pieces.Item.{Item}
use Rattle.self_grammar.specs.declared.pieces.Item.TheVariants as items
use Rattle.world_build.specs.declared.loading.Loading.{Loading}
use Rattle.world_build.specs.declared.values.Held.TheVariants as kept
use Rattle.world_build.specs.declared.things.ToldThing.{ToldThing}
use Rattle.world_build.specs.declared.things.ToldThing.TheVariants as things
use Rattle.world_build.specs.Names.{with_words, word_number}
use Rattle.world_build.specs.Loading.{innermost, body_in, opened, with_closed, with_string, with_slot, with_argument, with_waiting}
use Rattle.world_build.specs.Nodes.{with_node}
use Rattle.source_model.specs.Edits.{Initial, Number, String, Path, Nothing, LocalText, BodyText, SlotText}

-- what was read so far: what it built; the content that stands before the next slot; the initial contents of locals, each with the number
-- of its body; the name of the last slot
pub record Told : Type 0 where
  pub loading : Loading
  pub held : Initial
  pub initials : List (ℕ × Initial)
  pub name : ℕ

-- before the first item, where these texts have names
abbrev pub nothing_told : List (List ℕ) → Told
nothing_told names = record {
  loading = record { names = names; things = []; bodies = []; around = []; held = kept.Nothing; waiting = []; size = 0 };
  held = Nothing;
  initials = [];
  name = 0;
}

-- a further name of a path
abbrev pub longer : Initial → ℕ → Initial
longer (Path names) n = Path (names ++ n ∷ [])
longer other n = other

-- a name alone holds nil
abbrev pub initial_for : SlotForm → Initial → Initial
initial_for (form.Bare setter) held = Nothing
initial_for _ held = held

abbrev pub local_told : Option ℕ → Initial → List (ℕ × Initial) → List (ℕ × Initial)
local_told None held all = all
local_told (Some b) held all = all ++ (b, held) ∷ []

abbrev pub builds : Loading → Told → Told
builds loading t = record t { loading = loading }

abbrev pub tells : List ℕ → Item → Told → Told
tells bytes (items.Node m) t = builds (with_node bytes m t.loading) t
tells bytes (items.Opened p) t = builds (opened false t.loading) t
tells bytes items.ClosedObject t = t
tells bytes items.ClosedBody t = builds (with_closed t.loading) t
tells bytes (items.Integer z) t = record t { held = Number z }
tells bytes (items.Text i j) t = record t { held = String (length t.loading.things); loading = with_string bytes i j t.loading }
tells bytes (items.Root n p) t = record t { held = Path (n ∷ []) }
tells bytes (items.Further n p) t = record t { held = longer t.held n }
tells bytes (items.Argument n) t = builds (with_argument n t.loading) t
tells bytes (items.Named n) t = builds (with_waiting n t.loading) t
tells bytes (items.Slot w f p) t = record {
  loading = with_slot (word_number t.loading.names w) f (record t.loading { names = with_words t.loading.names w });
  held = Nothing;
  initials = local_told (body_in (innermost t.loading.around)) (initial_for f t.held) t.initials;
  name = word_number t.loading.names w;
}

abbrev pub told : List ℕ → List Item → Told → Told
told bytes [] t = t
told bytes (i ∷ is) t = told bytes is (tells bytes i t)

-- The slot.

abbrev pub text_of_thing : ToldThing → List ℕ
text_of_thing (things.Plain slots) = []
text_of_thing (things.Text bytes) = bytes

abbrev pub locals_with : List Local → List Initial → List LocalText
locals_with [] all = []
locals_with (x ∷ xs) [] = []
locals_with (x ∷ xs) (i ∷ is) = record { name = x.name; setter = x.setter; initial = i } ∷ locals_with xs is

abbrev pub initials_of : ℕ → List (ℕ × Initial) → List Initial
initials_of b all = map (λ (x : ℕ × Initial). x.1) (filter (λ (x : ℕ × Initial). x.0 == b) all)

abbrev pub body_text : List (ℕ × Initial) → ℕ → Body → BodyText
body_text all n b = record {
  name = b.name;
  outer = b.outer;
  arguments = b.arguments;
  locals = locals_with b.locals (initials_of n all);
  nodes = b.nodes;
  places = b.places;
}

abbrev pub body_texts : List (ℕ × Initial) → ℕ → List Body → List BodyText
body_texts all n [] = []
body_texts all n (b ∷ bs) = body_text all n b ∷ body_texts all (n + 1) bs

abbrev pub slot_of : Told → SlotText
slot_of t = record {
  name = t.name;
  strings = map text_of_thing t.loading.things;
  bodies = body_texts t.initials 1 t.loading.bodies;
  size = t.loading.size;
}

-- the slot of the items of a text of these bytes, where these texts have names
abbrev pub slot_text : List (List ℕ) → List ℕ → List Item → SlotText
slot_text names bytes is = slot_of (told bytes is (nothing_told names))
