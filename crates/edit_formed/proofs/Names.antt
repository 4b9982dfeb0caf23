-- What the bodies of an edit's text say is among its strings and the names, and each message has as many arguments as its name says.
use Rattle.std.specs.Prelude.{◌≡◌, ℕ, zero, suc, ◌+◌, ◌-◌, ◌≤◌, nat_le, Bool, true, false, if◌then◌else◌, Option, None, Some, List, [], ◌∷◌, ◌++◌, length, map, slice_get, slice_set, refl}
use Rattle.std.proofs.Common.{sym, subst, arith, length-append}
use Rattle.std.proofs.lemmas.Grind.{common_steps}
use Rattle.self_terms.specs.declared.nodes.Node.{Node}
use Rattle.self_terms.specs.declared.nodes.Node.TheVariants as nodes
use Rattle.self_terms.specs.declared.nodes.Place.{Place}
use Rattle.self_terms.specs.declared.bodies.Body.{Body}
use Rattle.self_terms.specs.declared.bodies.Local.{Local}
use Rattle.self_terms.specs.Bodies.{change_body, add_node, add_argument, add_local, with_name, sought, is_block, body_at}
use Rattle.self_tokens.specs.Texts.{unescaped}
use Rattle.self_grammar.specs.declared.pieces.Words.{Words}
use Rattle.self_grammar.specs.declared.pieces.Words.TheVariants as words
use Rattle.self_grammar.specs.declared.pieces.Target.{Target}
use Rattle.self_grammar.specs.declared.pieces.Target.TheVariants as target
use Rattle.self_grammar.specs.declared.pieces.TextNode.{TextNode}
use Rattle.self_grammar.specs.declared.pieces.TextNode.TheVariants as text
use Rattle.self_grammar.specs.declared.pieces.SlotForm.{SlotForm}
use Rattle.self_grammar.specs.declared.pieces.SlotForm.TheVariants as form
use Rattle.self_grammar.specs.declared.pieces.Item.{Item}
use Rattle.self_grammar.specs.declared.pieces.Item.TheVariants as items
use Rattle.self_grammar.specs.Parts.{parts_in}
use Rattle.source_model.specs.Canon.{Each}
use Rattle.source_model.specs.Edits.{Initial, LocalText}
use Rattle.source_model.specs.Formed.{Takes, Says, IsGiven, IsSaid}
use Rattle.source_model.specs.Told.{told_local, told_body}
use Rattle.source_model.specs.Told as source
use Rattle.world_build.specs.Names.{joined, with_words, word_number}
use Rattle.world_build.specs.Loading.{between, place, innermost, body_in, local_for}
use Rattle.world_build.specs.Nodes.{found, byte, reading, storing, implied, message, node_of}
use Rattle.world_build.specs.SlotParts.{code_of}
use Rattle.world_build.specs.SlotTexts.{Told, told, slot_of, locals_with, initials_of, body_texts}
use Rattle.world_build.proofs.Orders.{TargetFits, Calls, NodeStands, Frame, argued, slotted as slotted_frames, outer, given_by, frame, Keeps}
use Rattle.world_build.proofs.Grown.{Extends, extends_same, extends_then, extends_words}
use Rattle.world_build.proofs.Coded.{text_kept, word_text, word_takes}
use Rattle.slot_text.proofs.TextLemmas.{texts_of_strings}
use Rattle.edit_formed.proofs.State.{State, shown, in_first, named_code, strung, worded, closes, new_body, next, all_next, nothing_read, all_shown, strings_length}
use Rattle.edit_formed.proofs.Initials.{strung_more}

-- Messages of the items.

abbrev Speaks : List (List ℕ) → TextNode → Type 0
Speaks names (text.Message to w args) = TargetFits names to × Calls names w args
Speaks names _ = Unit {0}

abbrev pub SpeaksItem : List (List ℕ) → Item → Type 0
SpeaksItem names (items.Node m) = Speaks names m.node
SpeaksItem names _ = Unit {0}

stands_speaks : (names : List (List ℕ)) (n : TextNode) (rest : List Item) → NodeStands names n rest → Speaks names n
stands_speaks names (text.Integer z) rest h = tt
stands_speaks names (text.Text i j) rest h = tt
stands_speaks names text.Block rest h = tt
stands_speaks names text.Itself rest h = tt
stands_speaks names text.Nil rest h = tt
stands_speaks names (text.Message to w args) rest h = h
stands_speaks names (text.Primitive w args receiver handler) rest h = tt
stands_speaks names text.Drop rest h = tt
stands_speaks names text.Restart rest h = tt
stands_speaks names text.Return rest h = tt
stands_speaks names text.End rest h = tt

pub keeps_speaks : (names : List (List ℕ)) (n : ℕ) (es : List Frame) (z : Option ℕ) (is : List Item) → Keeps names n es z is → Each (SpeaksItem names) is
keeps_speaks names n es z [] h = tt
keeps_speaks names n es z (items.Node m ∷ is) h = (stands_speaks names m.node is h.0, keeps_speaks names n es None is h.1)
keeps_speaks names n es z (items.Opened p ∷ is) h = (tt, keeps_speaks names 0 (frame n n h.1.0 [] ∷ es) None is h.1.1)
keeps_speaks names n es z (items.ClosedObject ∷ is) h = (tt, keeps_speaks names n (outer es) None is h.1)
keeps_speaks names n es z (items.ClosedBody ∷ is) h = (tt, keeps_speaks names n (outer es) (given_by es) is h.1)
keeps_speaks names n es z (items.Integer k ∷ is) h = (tt, keeps_speaks names n es None is h)
keeps_speaks names n es z (items.Text i j ∷ is) h = (tt, keeps_speaks names n es None is h)
keeps_speaks names n es z (items.Root k p ∷ is) h = (tt, keeps_speaks names n es None is h)
keeps_speaks names n es z (items.Further k p ∷ is) h = (tt, keeps_speaks names n es None is h)
keeps_speaks names n es z (items.Argument k ∷ is) h = (tt, keeps_speaks names n (argued es) None is h)
keeps_speaks names n es z (items.Named k ∷ is) h = (tt, keeps_speaks names (n + 1) es None is h)
keeps_speaks names n es z (items.Slot w f p ∷ is) h = (tt, keeps_speaks names n (slotted_frames w es) None is h.1)

-- Names only get more, and so do strings.

worded_more : (n : TextNode) (names : List (List ℕ)) → Extends names (worded n names)
worded_more (text.Integer z) names = extends_same names
worded_more (text.Text i j) names = extends_same names
worded_more text.Block names = extends_same names
worded_more text.Itself names = extends_same names
worded_more text.Nil names = extends_same names
worded_more (text.Message to w args) names = extends_words names w
worded_more (text.Primitive w args receiver handler) names = extends_words names w
worded_more text.Drop names = extends_same names
worded_more text.Restart names = extends_same names
worded_more text.Return names = extends_same names
worded_more text.End names = extends_same names

closes_names : (around : List ℕ) (s : State) → Extends s.names (closes around s).names
closes_names [] s = extends_same s.names
closes_names (b ∷ around) s = extends_same s.names

pub names_more : (bytes : List ℕ) (i : Item) (s : State) → Extends s.names (next bytes i s).names
names_more bytes (items.Node m) s = worded_more m.node s.names
names_more bytes (items.Opened p) s = extends_same s.names
names_more bytes items.ClosedObject s = extends_same s.names
names_more bytes items.ClosedBody s = closes_names s.around s
names_more bytes (items.Integer z) s = extends_same s.names
names_more bytes (items.Text i j) s = extends_same s.names
names_more bytes (items.Root n p) s = extends_same s.names
names_more bytes (items.Further n p) s = extends_same s.names
names_more bytes (items.Argument n) s = extends_same s.names
names_more bytes (items.Named n) s = extends_same s.names
names_more bytes (items.Slot w f p) s = extends_words s.names w

pub all_names_more : (bytes : List ℕ) (is : List Item) (s : State) → Extends s.names (all_next bytes is s).names
all_names_more bytes [] s = extends_same s.names
all_names_more bytes (i ∷ is) s = extends_then s.names (next bytes i s).names (all_next bytes is (next bytes i s)).names (names_more bytes i s) (all_names_more bytes is (next bytes i s))

closes_strings : (around : List ℕ) (s : State) → length s.strings ≤ length (closes around s).strings
closes_strings [] s = omega arith
closes_strings (b ∷ around) s = omega arith

strings_more : (bytes : List ℕ) (i : Item) (s : State) → length s.strings ≤ length (next bytes i s).strings
strings_more bytes (items.Node m) s = strung_more bytes m.node s.strings
strings_more bytes (items.Opened p) s = omega arith
strings_more bytes items.ClosedObject s = omega arith
strings_more bytes items.ClosedBody s = closes_strings s.around s
strings_more bytes (items.Integer z) s = omega arith
strings_more bytes (items.Text i j) s = omega (arith, length-append s.strings)
strings_more bytes (items.Root n p) s = omega arith
strings_more bytes (items.Further n p) s = omega arith
strings_more bytes (items.Argument n) s = omega arith
strings_more bytes (items.Named n) s = omega arith
strings_more bytes (items.Slot w f p) s = omega arith

pub all_strings_more : (bytes : List ℕ) (is : List Item) (s : State) → length s.strings ≤ length (all_next bytes is s).strings
all_strings_more bytes [] s = omega arith
all_strings_more bytes (i ∷ is) s = omega (arith, strings_more bytes i s, all_strings_more bytes is (next bytes i s))

-- Lists.

pub each_append : {X : Type 0} (P : X → Type 0) (xs : List X) (y : X) → Each P xs → P y → Each P (xs ++ y ∷ [])
each_append P [] y h p = (p, tt)
each_append P (x ∷ xs) y h p = (h.0, each_append P xs y h.1 p)

each_set : (P : Body → Type 0) (xs : List Body) (j : ℕ) (x y : Body) → slice_get xs j ≡ Some x → (P x → P y) → Each P xs → Each P (slice_set xs j y)
each_set P [] j x y e g h = tt
each_set P (z ∷ xs) zero x y e g h = let same : z ≡ x = cc in (g (subst P same h.0), h.1)
each_set P (z ∷ xs) (suc j) x y e g h = (h.0, each_set P xs j x y e g h.1)

each_change : (P : Body → Type 0) (f : Body → Body) (g : (x : Body) → P x → P (f x)) (o : Option Body) (xs : List Body) (j : ℕ) → slice_get xs j ≡ o → Each P xs → Each P (change_body f o xs j)
each_change P f g None xs j e h = h
each_change P f g (Some x) xs j e h = each_set P xs j x (f x) e (g x) h

pub each_first : (P : Body → Type 0) (f : Body → Body) (g : (x : Body) → P x → P (f x)) (around : List ℕ) (xs : List Body) → Each P xs → Each P (in_first f around xs)
each_first P f g [] xs h = h
each_first P f g (b ∷ around) xs h = each_change P f g (slice_get xs (b - 1)) xs (b - 1) refl h

pub each_named : (P : Body → Type 0) (n : ℕ) (g : (x : Body) → P x → P (with_name n x)) (code : Option ℕ) (f : SlotForm) (xs : List Body) → Each P xs → Each P (named_code code n f xs)
each_named P n g None f xs h = h
each_named P n g (Some b) form.Constant xs h = h
each_named P n g (Some b) (form.Assignable t) xs h = h
each_named P n g (Some b) (form.Bare t) xs h = h
each_named P n g (Some b) form.Parent xs h = h
each_named P n g (Some b) form.Method xs h = each_change P (with_name n) g (slice_get xs (b - 1)) xs (b - 1) refl h

byte_same : (n : ℕ) → n ≤ 255 → byte n ≡ n
byte_same n le = by (nat_le n 255) refl
  where
    by : (b : Bool) → nat_le n 255 ≡ b → (if b then n else 255) ≡ n
    by true e = refl
    by false e = grind (arith, common_steps)

-- Up to the last item, where these are the names behind the text or more, and so many strings there or more.
module _ (first names : List (List ℕ)) (count : ℕ) where
  abbrev Fine : Node → Type 0
  Fine n = Says names count n

  takes_few : (n args : ℕ) → args ≤ 5 → Takes names n args → Takes names n (byte args)
  takes_few n args le h = subst (λ k. Takes names n k) (sym (byte_same args (omega arith))) h

  read_fine : (o : Option (ℕ × ℕ)) (n : ℕ) → Takes names n 0 → Fine (reading o n)
  read_fine None n h = h
  read_fine (Some q) n h = tt

  store_fine : (o : Option (ℕ × ℕ)) (n : ℕ) → Takes names n 1 → Fine (storing o n)
  store_fine None n h = h
  store_fine (Some q) n h = tt

  implied_fine : (s : State) (w : Words) (n args : ℕ) → args ≤ 5 → Takes names n args → Fine (implied (shown s).loading w n args)
  implied_fine s (words.One a) n zero le h = read_fine (found (sought false n) 0 (shown s).loading.bodies (shown s).loading.around) n h
  implied_fine s (words.One a) n (suc zero) le h = store_fine (found (sought true n) 0 (shown s).loading.bodies (shown s).loading.around) n h
  implied_fine s (words.One a) n (suc (suc j)) le h = takes_few n (suc (suc j)) le h
  implied_fine s (words.Two a c) n args le h = takes_few n args le h
  implied_fine s (words.Three a c d) n args le h = takes_few n args le h
  implied_fine s (words.Four a c d e) n args le h = takes_few n args le h
  implied_fine s (words.Five a c d e f) n args le h = takes_few n args le h

  message_fine : (s : State) (to : Target) (w : Words) (n args : ℕ) → TargetFits names to → args ≤ 5 → Takes names n args → Fine (message (shown s).loading to w n args)
  message_fine s target.Given w n args o le h = takes_few n args le h
  message_fine s target.Implied w n args o le h = implied_fine s w n args le h
  message_fine s target.Parents w n args o le h = takes_few n args le h
  message_fine s (target.Parent p) w n args o le h = (o, takes_few n args le h)

  either_fine : (y : Bool) → Fine (if y then nodes.NonLocal else nodes.Return)
  either_fine true = tt
  either_fine false = tt

  target_kept : (to : Target) → Extends first names → TargetFits first to → TargetFits names to
  target_kept target.Given h o = tt
  target_kept target.Implied h o = tt
  target_kept target.Parents h o = tt
  target_kept (target.Parent p) h o = (o.0, text_kept first names p o.0 h o.1)

  node_fine : (bytes : List ℕ) (n : TextNode) (s : State) → Speaks first n → Extends first s.names → Extends (worded n s.names) names → length (strung bytes n s.strings) ≤ count → Fine (node_of (shown s).loading n)
  node_fine bytes (text.Integer z) s h f e le = tt
  node_fine bytes (text.Text i j) s h f e le =
      let most : length (s.strings ++ unescaped (between bytes i j) ∷ []) ≤ count = le in
      let same : length (shown s).loading.things ≡ length s.strings = strings_length s.strings in
      let up = length-append s.strings (unescaped (between bytes i j) ∷ []) in
      omega arith
  node_fine bytes text.Block s h f e le = tt
  node_fine bytes text.Itself s h f e le = tt
  node_fine bytes text.Nil s h f e le = tt
  node_fine bytes (text.Message to w args) s h f e le =
      message_fine s to w (word_number s.names w) args (target_kept to (extends_then first (with_words s.names w) names (extends_then first s.names (with_words s.names w) f (extends_words s.names w)) e) h.0) h.1.few
      (word_takes first s.names names w args f e h.1.given h.1.arity)
  node_fine bytes (text.Primitive w args receiver handler) s h f e le = (joined s.names (parts_in w), word_text s.names names w e)
  node_fine bytes text.Drop s h f e le = tt
  node_fine bytes text.Restart s h f e le = tt
  node_fine bytes text.Return s h f e le = either_fine (is_block (body_at (shown s).loading.bodies (body_in (innermost (shown s).loading.around))))
  node_fine bytes text.End s h f e le = tt

  -- a body
  record Well (x : Body) : Type 0 where
    said : Each Fine x.nodes
    placed : length x.places ≡ length x.nodes

  node_well : (n : Node) (p : Place) → Fine n → (x : Body) → Well x → Well (add_node n p x)
  node_well n p ok x h = record {
    said = each_append Fine x.nodes n h.said ok;
    placed = (let same : length x.places ≡ length x.nodes = h.placed in omega (arith, length-append x.places (p ∷ []), length-append x.nodes (n ∷ [])));
  }

  closes_well : (around : List ℕ) (s : State) → Each Well s.bodies → Each Well (closes around s).bodies
  closes_well [] s h = h
  closes_well (b ∷ around) s h = h

  step : (bytes : List ℕ) (i : Item) (s : State) → SpeaksItem first i → Extends first s.names → Extends (next bytes i s).names names → length (next bytes i s).strings ≤ count → Each Well s.bodies → Each Well (next bytes i s).bodies
  step bytes (items.Node m) s h f e le all =
      each_first Well (add_node (node_of (shown s).loading m.node) (place m.spot)) (node_well (node_of (shown s).loading m.node) (place m.spot) (node_fine bytes m.node s h f e le)) s.around s.bodies all
  step bytes (items.Opened p) s h f e le all = each_append Well s.bodies (new_body s) all (record { said = tt; placed = refl })
  step bytes items.ClosedObject s h f e le all = all
  step bytes items.ClosedBody s h f e le all = closes_well s.around s all
  step bytes (items.Integer z) s h f e le all = all
  step bytes (items.Text i j) s h f e le all = all
  step bytes (items.Root n p) s h f e le all = all
  step bytes (items.Further n p) s h f e le all = all
  step bytes (items.Argument n) s h f e le all = each_first Well (add_argument n) (λ x w. record { said = w.said; placed = w.placed }) s.around s.bodies all
  step bytes (items.Named n) s h f e le all = all
  step bytes (items.Slot w t p) s h f e le all =
      let n : ℕ = word_number s.names w in
      each_first Well (add_local (local_for n t (code_of s.code))) (λ x w. record { said = w.said; placed = w.placed }) s.around (named_code s.code n t s.bodies)
      (each_named Well n (λ x w. record { said = w.said; placed = w.placed }) s.code t s.bodies all)

  runs : (bytes : List ℕ) (is : List Item) (s : State) → Each (SpeaksItem first) is → Extends first s.names → Extends (all_next bytes is s).names names → length (all_next bytes is s).strings ≤ count → Each Well s.bodies →
      Each Well (all_next bytes is s).bodies
  runs bytes [] s h f e le all = all
  runs bytes (i ∷ is) s h f e le all =
      let u : State = next bytes i s in
      let more : length u.strings ≤ length (all_next bytes is u).strings = all_strings_more bytes is u in
      let most : length (all_next bytes is u).strings ≤ count = le in
      runs bytes is u h.1 (extends_then first s.names u.names f (names_more bytes i s)) e le
      (step bytes i s h.0 f (extends_then u.names (all_next bytes is u).names names (all_names_more bytes is u) e) (omega arith) all)

  -- The texts of bodies.

  locals_given : (xs : List LocalText) → Each (λ (x : Local). IsGiven count x.initial) (map told_local xs)
  locals_given [] = tt
  locals_given (x ∷ xs) = (tt, locals_given xs)

  bodies_said : (all : List (ℕ × Initial)) (n : ℕ) (xs : List Body) → Each Well xs → Each (IsSaid names count) (map told_body (body_texts all n xs))
  bodies_said all n [] h = tt
  bodies_said all n (x ∷ xs) h = (record { said = h.0.said; placed = h.0.placed; initials = locals_given (locals_with x.locals (initials_of n all)) }, bodies_said all (n + 1) xs h.1)

abbrev AllSaid : List (List ℕ) → Told → Type 0
AllSaid more t = Each (IsSaid (t.loading.names ++ more) (length (slot_of t).strings)) (source.told (slot_of t))

pub items_said : (names more : List (List ℕ)) (bytes : List ℕ) (is : List Item) → Each (SpeaksItem names) is → AllSaid more (told bytes is (shown (nothing_read names)))
items_said names more bytes is h =
    let s : State = all_next bytes is (nothing_read names) in
    let all : List (List ℕ) = s.names ++ more in
    subst (AllSaid more) (sym (all_shown bytes is (nothing_read names)))
    (subst (λ ss. Each (IsSaid all (length ss)) (map told_body (body_texts s.initials 1 s.bodies))) (sym (texts_of_strings s.strings))
    (bodies_said names all (length s.strings) s.initials 1 s.bodies
    (runs names all (length s.strings) bytes is (nothing_read names) h (extends_same names) (record { more = more; is = refl }) (omega arith) tt)))
