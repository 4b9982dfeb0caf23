-- What was read of an edit's text, by its parts, and what each item makes of it.
use Rattle.std.specs.Prelude.{◌≡◌, ℕ, suc, ◌+◌, false, Option, None, Some, List, [], ◌∷◌, ◌++◌, length, refl}
use Rattle.std.proofs.Common.{ap, ◌∙◌}
use Rattle.self_terms.specs.declared.nodes.Node.{Node}
use Rattle.self_terms.specs.declared.nodes.Place.{Place}
use Rattle.self_terms.specs.declared.bodies.Body.{Body}
use Rattle.self_terms.specs.Bodies.{changed, add_node, add_argument, add_local, with_name}
use Rattle.self_tokens.specs.Texts.{unescaped}
use Rattle.self_grammar.specs.declared.pieces.Made.{Made}
use Rattle.self_grammar.specs.declared.pieces.TextNode.{TextNode}
use Rattle.self_grammar.specs.declared.pieces.TextNode.TheVariants as text
use Rattle.self_grammar.specs.declared.pieces.SlotForm.{SlotForm}
use Rattle.self_grammar.specs.declared.pieces.SlotForm.TheVariants as form
use Rattle.self_grammar.specs.declared.pieces.Item.{Item}
use Rattle.self_grammar.specs.declared.pieces.Item.TheVariants as items
use Rattle.source_model.specs.Edits.{Initial, Number, String, Path, Nothing}
use Rattle.world_build.specs.Names.{with_words, word_number}
use Rattle.world_build.specs.Loading.{between, place, innermost, body_in, opened, with_closed, with_string, local_for, with_slot, with_argument}
use Rattle.world_build.specs.Nodes.{beside, at_innermost, node_of, with_node}
use Rattle.world_build.specs.SlotParts.{code_of, built_of}
use Rattle.world_build.specs.SlotTexts.{Told, longer, initial_for, local_told, builds, tells, told}

pub record State : Type 0 where
  pub names : List (List ℕ)
  pub strings : List (List ℕ)
  pub bodies : List Body
  pub around : List ℕ
  pub code : Option ℕ
  pub waiting : List ℕ
  pub size : ℕ
  pub held : Initial
  pub initials : List (ℕ × Initial)
  pub name : ℕ

abbrev pub shown : State → Told
shown s = record { loading = built_of s.names s.strings s.bodies s.around s.code s.waiting s.size; held = s.held; initials = s.initials; name = s.name }

abbrev pub first : List ℕ → Option ℕ
first [] = None
first (b ∷ around) = Some b

abbrev pub in_first : (Body → Body) → List ℕ → List Body → List Body
in_first f [] bodies = bodies
in_first f (b ∷ around) bodies = changed f bodies b

abbrev pub named_code : Option ℕ → ℕ → SlotForm → List Body → List Body
named_code (Some b) n form.Method bodies = changed (with_name n) bodies b
named_code _ n _ bodies = bodies

abbrev pub strung : List ℕ → TextNode → List (List ℕ) → List (List ℕ)
strung bytes (text.Text i j) strings = strings ++ unescaped (between bytes i j) ∷ []
strung bytes _ strings = strings

abbrev pub worded : TextNode → List (List ℕ) → List (List ℕ)
worded (text.Message to w args) names = with_words names w
worded (text.Primitive w args receiver handler) names = with_words names w
worded _ names = names

abbrev pub closes : List ℕ → State → State
closes [] s = s
closes (b ∷ around) s = record s { around = around; code = Some b }

abbrev pub noded : List ℕ → Made → State → State
noded bytes m s = record s {
  names = worded m.node s.names;
  strings = strung bytes m.node s.strings;
  bodies = in_first (add_node (node_of (shown s).loading m.node) (place m.spot)) s.around s.bodies;
  size = s.size + 1;
}

abbrev pub new_body : State → Body
new_body s = record { name = None; outer = first s.around; arguments = s.waiting; locals = []; nodes = []; places = [] }

abbrev pub slotted : ℕ → SlotForm → List (List ℕ) → State → State
slotted n f names s = record s {
  names = names;
  bodies = in_first (add_local (local_for n f (code_of s.code))) s.around (named_code s.code n f s.bodies);
  code = None;
  size = s.size + 1;
  held = Nothing;
  initials = local_told (first s.around) (initial_for f s.held) s.initials;
  name = n;
}

abbrev pub next : List ℕ → Item → State → State
next bytes (items.Node m) s = noded bytes m s
next bytes (items.Opened p) s = record s { bodies = s.bodies ++ new_body s ∷ []; around = (length s.bodies + 1) ∷ s.around; waiting = [] }
next bytes items.ClosedObject s = s
next bytes items.ClosedBody s = closes s.around s
next bytes (items.Integer z) s = record s { held = Number z }
next bytes (items.Text i j) s = record s { held = String (length s.strings); strings = s.strings ++ unescaped (between bytes i j) ∷ [] }
next bytes (items.Root n p) s = record s { held = Path (n ∷ []) }
next bytes (items.Further n p) s = record s { held = longer s.held n }
next bytes (items.Argument n) s = record s { bodies = in_first (add_argument n) s.around s.bodies; size = s.size + 1 }
next bytes (items.Named n) s = record s { waiting = s.waiting ++ n ∷ []; size = s.size + 1 }
next bytes (items.Slot w f p) s = slotted (word_number s.names w) f (with_words s.names w) s

abbrev pub all_next : List ℕ → List Item → State → State
all_next bytes [] s = s
all_next bytes (i ∷ is) s = all_next bytes is (next bytes i s)

abbrev pub nothing_read : List (List ℕ) → State
nothing_read names = record { names = names; strings = []; bodies = []; around = []; code = None; waiting = []; size = 0; held = Nothing; initials = []; name = 0 }

-- The definition says the same.

-- a string more, in front of the others
abbrev behind : List ℕ → Told → Told
behind x t = record t { loading = record t.loading { things = (built_of [] (x ∷ []) [] [] None [] 0).things ++ t.loading.things } }

more_string : (bytes : List ℕ) (i j : ℕ) (strings : List (List ℕ)) (s : State) →
    builds (with_string bytes i j (shown (record s { strings = strings })).loading) (shown s) ≡ shown (record s { strings = strings ++ unescaped (between bytes i j) ∷ [] })
more_string bytes i j [] s = refl
more_string bytes i j (x ∷ strings) s = ap (behind x) (more_string bytes i j strings s)

beside_shown : (bytes : List ℕ) (n : TextNode) (s : State) → builds (beside bytes n (shown s).loading) (shown s) ≡ shown (record s { names = worded n s.names; strings = strung bytes n s.strings })
beside_shown bytes (text.Integer z) s = refl
beside_shown bytes (text.Text i j) s = more_string bytes i j s.strings s
beside_shown bytes text.Block s = refl
beside_shown bytes text.Itself s = refl
beside_shown bytes text.Nil s = refl
beside_shown bytes (text.Message to w args) s = refl
beside_shown bytes (text.Primitive w args receiver handler) s = refl
beside_shown bytes text.Drop s = refl
beside_shown bytes text.Restart s = refl
beside_shown bytes text.Return s = refl
beside_shown bytes text.End s = refl

-- with a node in what is open innermost of this
abbrev in_node : List ℕ → Node → Place → ℕ → Told → Told
in_node around n p size t = record t { loading = record (at_innermost (innermost (built_of [] [] [] around None [] 0).around) n p t.loading) { size = size } }

node_in : (around : List ℕ) (n : Node) (p : Place) (size : ℕ) (s : State) → in_node around n p size (shown s) ≡ shown (record s { bodies = in_first (add_node n p) around s.bodies; size = size })
node_in [] n p size s = refl
node_in (b ∷ around) n p size s = refl

node_shown : (bytes : List ℕ) (m : Made) (s : State) → builds (with_node bytes m (shown s).loading) (shown s) ≡ shown (noded bytes m s)
node_shown bytes m s =
    let n : Node = node_of (shown s).loading m.node in
    ap (in_node s.around n (place m.spot) (s.size + 1)) (beside_shown bytes m.node s)
    ∙ node_in s.around n (place m.spot) (s.size + 1) (record s { names = worded m.node s.names; strings = strung bytes m.node s.strings })

opened_shown : (around : List ℕ) (s : State) →
    builds (opened false (shown (record s { around = around })).loading) (shown s)
    ≡ shown (record s { bodies = s.bodies ++ record { name = None; outer = first around; arguments = s.waiting; locals = []; nodes = []; places = [] } ∷ []; around = (length s.bodies + 1) ∷ around; waiting = [] })
opened_shown [] s = refl
opened_shown (b ∷ around) s = refl

closed_shown : (around : List ℕ) (s : State) → builds (with_closed (shown (record s { around = around })).loading) (shown s) ≡ shown (closes around (record s { around = around }))
closed_shown [] s = refl
closed_shown (b ∷ around) s = refl

argument_shown : (around : List ℕ) (n : ℕ) (s : State) →
    builds (with_argument n (shown (record s { around = around })).loading) (shown s) ≡ shown (record s { around = around; bodies = in_first (add_argument n) around s.bodies; size = s.size + 1 })
argument_shown [] n s = refl
argument_shown (b ∷ around) n s = refl

slot_shown : (code : Option ℕ) (f : SlotForm) (around : List ℕ) (n : ℕ) (names : List (List ℕ)) (s : State) →
    builds (with_slot n f (shown (record s { names = names; around = around; code = code })).loading) (shown s)
    ≡ shown (record s { names = names; bodies = in_first (add_local (local_for n f (code_of code))) around (named_code code n f s.bodies); around = around; code = None; size = s.size + 1 })
slot_shown None f [] n names s = refl
slot_shown None f (b ∷ around) n names s = refl
slot_shown (Some c) form.Constant [] n names s = refl
slot_shown (Some c) (form.Assignable t) [] n names s = refl
slot_shown (Some c) (form.Bare t) [] n names s = refl
slot_shown (Some c) form.Parent [] n names s = refl
slot_shown (Some c) form.Method [] n names s = refl
slot_shown (Some c) form.Constant (b ∷ around) n names s = refl
slot_shown (Some c) (form.Assignable t) (b ∷ around) n names s = refl
slot_shown (Some c) (form.Bare t) (b ∷ around) n names s = refl
slot_shown (Some c) form.Parent (b ∷ around) n names s = refl
slot_shown (Some c) form.Method (b ∷ around) n names s = refl

first_shown : (around : List ℕ) → body_in (innermost (built_of [] [] [] around None [] 0).around) ≡ first around
first_shown [] = refl
first_shown (b ∷ around) = refl

pub strings_length : (strings : List (List ℕ)) → length (built_of [] strings [] [] None [] 0).things ≡ length strings
strings_length [] = refl
strings_length (x ∷ strings) = ap suc (strings_length strings)

pub step_shown : (bytes : List ℕ) (i : Item) (s : State) → tells bytes i (shown s) ≡ shown (next bytes i s)
step_shown bytes (items.Node m) s = node_shown bytes m s
step_shown bytes (items.Opened p) s = opened_shown s.around s
step_shown bytes items.ClosedObject s = refl
step_shown bytes items.ClosedBody s = closed_shown s.around s
step_shown bytes (items.Integer z) s = refl
step_shown bytes (items.Text i j) s =
    ap (λ k. record (builds (with_string bytes i j (shown s).loading) (shown s)) { held = String k }) (strings_length s.strings)
    ∙ ap (λ (t : Told). record t { held = String (length s.strings) }) (more_string bytes i j s.strings s)
step_shown bytes (items.Root n p) s = refl
step_shown bytes (items.Further n p) s = refl
step_shown bytes (items.Argument n) s = argument_shown s.around n s
step_shown bytes (items.Named n) s = refl
step_shown bytes (items.Slot w f p) s =
    let n : ℕ = word_number s.names w in
    let names : List (List ℕ) = with_words s.names w in
    let old : Option ℕ = body_in (innermost (shown s).loading.around) in
    ap (λ (t : Told). record t { held = Nothing; initials = local_told old (initial_for f s.held) s.initials; name = n }) (slot_shown s.code f s.around n names s)
    ∙ ap (λ o. record (shown (slotted n f names s)) { initials = local_told o (initial_for f s.held) s.initials }) (first_shown s.around)

pub all_shown : (bytes : List ℕ) (is : List Item) (s : State) → told bytes is (shown s) ≡ shown (all_next bytes is s)
all_shown bytes [] s = refl
all_shown bytes (i ∷ is) s = ap (told bytes is) (step_shown bytes i s) ∙ all_shown bytes is (next bytes i s)
