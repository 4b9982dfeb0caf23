-- What the items of a text build has bodies no heavier than the items, whatever bodies weigh, where a body that opens weighs no more than the arguments
-- that wait for it, and no more is added than a name's weight where an argument, a local or the body's own name is.
use Rattle.std.specs.Prelude.{◌≡◌, ℕ, zero, suc, ◌+◌, ◌-◌, ◌≤◌, Bool, true, false, not, ◌&&◌, Option, None, Some, Result, Ok, Err, List, [], ◌∷◌, ◌++◌, length, slice_get, slice_set, refl}
use Rattle.std.proofs.Common.{ap, subst, ◌∙◌, inl, inr, arith, length-append}
use Rattle.std.proofs.lemmas.Bool.{cases_Bool}
use Rattle.self_terms.specs.declared.nodes.Node.{Node}
use Rattle.self_terms.specs.declared.nodes.Place.{Place}
use Rattle.self_terms.specs.declared.values.Datum.{Datum as Value}
use Rattle.self_terms.specs.declared.bodies.Body.{Body}
use Rattle.self_terms.specs.declared.bodies.Local.{Local}
use Rattle.self_terms.specs.Names.{text_of}
use Rattle.self_terms.specs.Bodies.{change_body, changed, add_node, add_argument, add_local, with_name}
use Rattle.self_grammar.specs.declared.signs.Spot.{Spot}
use Rattle.self_grammar.specs.declared.pieces.Words.{Words}
use Rattle.self_grammar.specs.declared.pieces.TextNode.{TextNode}
use Rattle.self_grammar.specs.declared.pieces.TextNode.TheVariants as text
use Rattle.self_grammar.specs.declared.pieces.Made.{Made}
use Rattle.self_grammar.specs.declared.pieces.SlotForm.{SlotForm}
use Rattle.self_grammar.specs.declared.pieces.SlotForm.TheVariants as form
use Rattle.self_grammar.specs.declared.pieces.Item.{Item}
use Rattle.self_grammar.specs.declared.pieces.Item.TheVariants as items
use Rattle.self_grammar.specs.Parts.{parts_in}
use Rattle.source_model.specs.Names.{text_named}
use Rattle.world_build.specs.declared.values.Open.{Open}
use Rattle.world_build.specs.declared.values.Open.TheVariants.{InObject as in_object, InBody as in_body}
use Rattle.world_build.specs.declared.values.Held.{Held}
use Rattle.world_build.specs.declared.values.Held.TheVariants.{Nothing as nothing, Data as value, Code as body}
use Rattle.world_build.specs.declared.slots.ToldSlot.{ToldSlot}
use Rattle.world_build.specs.declared.refusals.BuildRefusal.{BuildRefusal}
use Rattle.world_build.specs.declared.loading.Loading.{Loading}
use Rattle.world_build.specs.Names.{joined, with_words, word_number}
use Rattle.world_build.specs.Loading.{begun, place, root, further, followed, is_object, innermost, body_in, opened, at_object, add_slots, slots_for, local_for, placed_in, name_body, with_slot, slot_ended, is_parent, may_be_parent, argument_in}
use Rattle.world_build.specs.Nodes.{beside, at_innermost, node_of, with_node, take_item}
use Rattle.world_build.specs.Nodes
use Rattle.world_build.proofs.Weights.{ok_same, ok_bound}
use Rattle.world_build.proofs.Grown.{Extends, extends_then, extends_words, loaded_later}
use Rattle.world_build.proofs.Coded.{text_kept, word_text}
use Rattle.world_build.proofs.Wording.{named_text}

-- What a name weighs.
abbrev pub weight : List (List ℕ) → ℕ → ℕ
weight names n = length (text_named names n)

-- the weight of some names
abbrev pub sum_of : (ℕ → ℕ) → List ℕ → ℕ
sum_of w [] = 0
sum_of w (n ∷ ns) = w n + sum_of w ns

abbrev pub worth : (ℕ → ℕ) → Item → ℕ
worth w (items.Argument n) = w n
worth w (items.Named n) = w n
worth w (items.Slot x f p) = sum_of w (parts_in x)
worth w _ = 0

abbrev pub worths : (ℕ → ℕ) → List Item → ℕ
worths w [] = 0
worths w (i ∷ is) = worth w i + worths w is

-- Names weigh no less where further ones stand behind them.

shorter : (old all : List (List ℕ)) (n : ℕ) → Extends old all → weight old n ≤ weight all n
shorter old all n h = by (text_of old n) refl
  where
    by : (o : Option (List ℕ)) → text_of old n ≡ o → weight old n ≤ weight all n
    by None e = rw e (omega arith)
    by (Some t) e =
        let now : weight old n ≡ length t = ap length (named_text old n t e) in
        let then : weight all n ≡ length t = ap length (named_text all n t (text_kept old all n t h e)) in
        omega arith

joined_shorter : (old all : List (List ℕ)) (ps : List ℕ) → Extends old all → length (joined old ps) ≤ sum_of (weight all) ps
joined_shorter old all [] h = omega arith
joined_shorter old all (p ∷ ps) h = omega (arith, length-append (text_named old p) (joined old ps), shorter old all p h, joined_shorter old all ps h)

-- a name in parts weighs no more than its parts
word_weight : (old all : List (List ℕ)) (x : Words) → Extends (with_words old x) all → weight all (word_number old x) ≤ sum_of (weight all) (parts_in x)
word_weight old all x h =
    let same : weight all (word_number old x) ≡ length (joined old (parts_in x)) = ap length (named_text all (word_number old x) (joined old (parts_in x)) (word_text old all x h)) in
    omega (arith, joined_shorter old all (parts_in x) (extends_then old (with_words old x) all (extends_words old x) h))

pub sum_both : (w : ℕ → ℕ) (ns ms : List ℕ) → sum_of w (ns ++ ms) ≡ sum_of w ns + sum_of w ms
sum_both w [] ms = omega arith
sum_both w (n ∷ ns) ms = omega (arith, sum_both w ns ms)

-- Lists of bodies.

-- the weight of all bodies, where each has its own
abbrev pub weight_of : (Body → ℕ) → List Body → ℕ
weight_of m [] = 0
weight_of m (x ∷ xs) = m x + weight_of m xs

weight_append : (m : Body → ℕ) (xs ys : List Body) → weight_of m (xs ++ ys) ≡ weight_of m xs + weight_of m ys
weight_append m [] ys = omega arith
weight_append m (x ∷ xs) ys = omega (arith, weight_append m xs ys)

weight_set : (m : Body → ℕ) (bodies : List Body) (i : ℕ) (x y : Body) → slice_get bodies i ≡ Some x → weight_of m (slice_set bodies i y) + m x ≡ weight_of m bodies + m y
weight_set m [] i x y e = cc
weight_set m (z ∷ bodies) zero x y e = let same : z ≡ x = cc in omega (arith, ap m same)
weight_set m (z ∷ bodies) (suc i) x y e = omega (arith, weight_set m bodies i x y e)

pub weight_at : (m : Body → ℕ) (bodies : List Body) (i : ℕ) (x : Body) → slice_get bodies i ≡ Some x → m x ≤ weight_of m bodies
weight_at m [] i x e = cc
weight_at m (z ∷ bodies) zero x e = let same : z ≡ x = cc in omega (arith, ap m same)
weight_at m (z ∷ bodies) (suc i) x e = omega (arith, weight_at m bodies i x e)

-- Bodies of these weights get no more than a name's, split between the body that has the name and the one that has it as a local.
pub record AreCarried (w named local : ℕ → ℕ) (m : Body → ℕ) : Type 0 where
  pub fresh : (o : Option ℕ) (ns : List ℕ) → m (record { name = None; outer = o; arguments = ns; locals = []; nodes = []; places = [] }) ≤ sum_of w ns
  pub node : (n : Node) (p : Place) (x : Body) → m (add_node n p x) ≤ m x
  pub argument : (n : ℕ) (x : Body) → m (add_argument n x) ≤ m x + w n
  pub name : (n : ℕ) (x : Body) → m (with_name n x) ≤ m x + named n
  pub more : (y : Local) (x : Body) → m (add_local y x) ≤ m x + local y.name
  pub split : (n : ℕ) → named n + local n ≤ w n

module _ (all : List (List ℕ)) (named local : ℕ → ℕ) (m : Body → ℕ) (k : AreCarried (weight all) named local m) where
  -- what was loaded, and the arguments that wait for a body
  abbrev pub load : Loading → ℕ
  load s = weight_of m s.bodies + sum_of (weight all) s.waiting

  change_weight : (f : Body → Body) (d : ℕ) → ((x : Body) → m (f x) ≤ m x + d) → (o : Option Body) (bodies : List Body) (i : ℕ) → slice_get bodies i ≡ o → weight_of m (change_body f o bodies i) ≤ weight_of m bodies + d
  change_weight f d h None bodies i e = omega arith
  change_weight f d h (Some x) bodies i e = omega (arith, weight_set m bodies i x (f x) e, h x)

  changed_weight : (f : Body → Body) (d : ℕ) (bodies : List Body) (b : ℕ) → ((x : Body) → m (f x) ≤ m x + d) → weight_of m (changed f bodies b) ≤ weight_of m bodies + d
  changed_weight f d bodies b h = change_weight f d h (slice_get bodies (b - 1)) bodies (b - 1) refl

  -- Slots.

  name_load : (h : Held) (n : ℕ) (f : SlotForm) (s : Loading) → load (name_body h n f s) ≤ load s + named n
  name_load nothing n f s = omega arith
  name_load (value v) n f s = omega arith
  name_load (body b) n form.Method s = omega (arith, changed_weight (with_name n) (named n) s.bodies b (k.name n))
  name_load (body b) n form.Constant s = omega arith
  name_load (body b) n (form.Assignable setter) s = omega arith
  name_load (body b) n (form.Bare setter) s = omega arith
  name_load (body b) n form.Parent s = omega arith

  same_load : (o : ℕ) (xs : List ToldSlot) (s : Loading) → load (add_slots o xs s) ≡ load s
  same_load o [] s = refl
  same_load o (x ∷ xs) s = same_load o xs (at_object o x s)

  local_name : (n : ℕ) (f : SlotForm) (h : Held) → (local_for n f h).name ≡ n
  local_name n form.Constant h = refl
  local_name n (form.Assignable setter) h = refl
  local_name n (form.Bare setter) h = refl
  local_name n form.Parent h = refl
  local_name n form.Method h = refl

  placed_load : (o : Option Open) (n : ℕ) (f : SlotForm) (s : Loading) → load (placed_in o n f s) ≤ load s + local n
  placed_load None n f s = omega arith
  placed_load (Some (in_object o)) n f s = omega (arith, same_load o (slots_for n f s.held) s)
  placed_load (Some (in_body b)) n f s =
      let y : Local = local_for n f s.held in
      omega (arith, changed_weight (add_local y) (local y.name) s.bodies b (k.more y), ap local (local_name n f s.held))

  slot_load : (n : ℕ) (f : SlotForm) (s : Loading) → load (with_slot n f s) ≤ load s + weight all n
  slot_load n f s = omega (arith, placed_load (innermost s.around) n f (name_body s.held n f s), name_load s.held n f s, k.split n)

  -- slots keep the names
  name_names : (h : Held) (n : ℕ) (f : SlotForm) (s : Loading) → (name_body h n f s).names ≡ s.names
  name_names nothing n f s = refl
  name_names (value v) n f s = refl
  name_names (body b) n form.Method s = refl
  name_names (body b) n form.Constant s = refl
  name_names (body b) n (form.Assignable setter) s = refl
  name_names (body b) n (form.Bare setter) s = refl
  name_names (body b) n form.Parent s = refl

  same_names : (o : ℕ) (xs : List ToldSlot) (s : Loading) → (add_slots o xs s).names ≡ s.names
  same_names o [] s = refl
  same_names o (x ∷ xs) s = same_names o xs (at_object o x s)

  placed_names : (o : Option Open) (n : ℕ) (f : SlotForm) (s : Loading) → (placed_in o n f s).names ≡ s.names
  placed_names None n f s = refl
  placed_names (Some (in_object o)) n f s = same_names o (slots_for n f s.held) s
  placed_names (Some (in_body b)) n f s = refl

  slot_names : (n : ℕ) (f : SlotForm) (s : Loading) → (with_slot n f s).names ≡ s.names
  slot_names n f s = placed_names (innermost s.around) n f (name_body s.held n f s) ∙ name_names s.held n f s

  -- Nodes.

  beside_load : (bytes : List ℕ) (n : TextNode) (s : Loading) → load (beside bytes n s) ≡ load s
  beside_load bytes (text.Integer z) s = refl
  beside_load bytes (text.Text i j) s = refl
  beside_load bytes text.Block s = refl
  beside_load bytes text.Itself s = refl
  beside_load bytes text.Nil s = refl
  beside_load bytes (text.Message to x args) s = refl
  beside_load bytes (text.Primitive x args receiver handler) s = refl
  beside_load bytes text.Drop s = refl
  beside_load bytes text.Restart s = refl
  beside_load bytes text.Return s = refl
  beside_load bytes text.End s = refl

  innermost_load : (o : Option Open) (n : Node) (p : Place) (s : Loading) → load (at_innermost o n p s) ≤ load s
  innermost_load None n p s = omega arith
  innermost_load (Some (in_object o)) n p s = omega arith
  innermost_load (Some (in_body b)) n p s = omega (arith, changed_weight (add_node n p) 0 s.bodies b (λ x. omega (arith, k.node n p x)))

  node_load : (bytes : List ℕ) (n : Made) (s : Loading) → load (with_node bytes n s) ≤ load s
  node_load bytes n s = omega (arith, beside_load bytes n.node s, innermost_load (innermost s.around) (node_of s n.node) (place n.spot) (beside bytes n.node s))

  -- Items.

  -- What was loaded weighs at most so much, where nothing is refused and its names are among all.
  Holds : ℕ → Result Loading BuildRefusal → Type 0
  Holds n (Ok t) = Extends t.names all → load t ≤ n
  Holds n (Err e) = Unit {0}

  followed_load : (n : ℕ) (p : Spot) (v : Option Value) (s : Loading) → load s ≤ n → Holds n (followed s p v)
  unfolding Holds
  followed_load n p None s h = tt
  followed_load n p (Some v) s h = λ e. h

  ended_load : (x : Words) (f : SlotForm) (p : Spot) (s : Loading) → Holds (load s + sum_of (weight all) (parts_in x)) (slot_ended x f p s)
  unfolding Holds
  ended_load x f p s = elim (cases_Bool (is_parent f && not (may_be_parent s s.held))) [
    | inl e ↦ rw e tt
    | inr e ↦ rw e (λ within.
        let t : Loading = record s { names = with_words s.names x } in
        let n : ℕ = word_number s.names x in
        let ends : Extends (with_words s.names x) all = subst (λ ns. Extends ns all) (slot_names n f t) within in
        omega (arith, slot_load n f t, word_weight s.names all x ends))
  ]

  opened_load : (b : Bool) (s : Loading) → load (opened b s) ≤ load s
  opened_load true s = omega arith
  opened_load false s =
      let x : Body = record { name = None; outer = body_in (innermost s.around); arguments = s.waiting; locals = []; nodes = []; places = [] } in
      omega (arith, weight_append m s.bodies (x ∷ []), k.fresh (body_in (innermost s.around)) s.waiting)

  argument_load : (o : Option Open) (n : ℕ) (s : Loading) → load (argument_in o n s) ≤ load s + weight all n
  argument_load None n s = omega arith
  argument_load (Some (in_object o)) n s = omega arith
  argument_load (Some (in_body b)) n s = omega (arith, changed_weight (add_argument n) (weight all n) s.bodies b (k.argument n))

  item_load : (bytes : List ℕ) (i : Item) (rest : List Item) (s : Loading) → Holds (load s + worth (weight all) i) (take_item bytes i rest s)
  unfolding Holds
  item_load bytes (items.Node n) rest s = λ e. omega (arith, node_load bytes n s)
  item_load bytes (items.Opened p) rest s = λ e. omega (arith, opened_load (is_object 0 rest) s)
  item_load bytes items.ClosedObject rest s = λ e. omega arith
  item_load bytes items.ClosedBody rest s = λ e. omega arith
  item_load bytes (items.Integer z) rest s = λ e. omega arith
  item_load bytes (items.Text i j) rest s = λ e. omega arith
  item_load bytes (items.Root n p) rest s = followed_load (load s + 0) p (root s n) s (omega arith)
  item_load bytes (items.Further n p) rest s = followed_load (load s + 0) p (further s s.held n) s (omega arith)
  item_load bytes (items.Argument n) rest s = λ e. omega (arith, argument_load (innermost s.around) n s)
  item_load bytes (items.Named n) rest s = λ e. omega (arith, sum_both (weight all) s.waiting (n ∷ []))
  item_load bytes (items.Slot x f p) rest s = ended_load x f p s

  taken_load : (bytes : List ℕ) (i : Item) (rest : List Item) (s t : Loading) → take_item bytes i rest s ≡ Ok t → Extends t.names all → load t ≤ load s + worth (weight all) i
  unfolding Holds
  taken_load bytes i rest s t e = rw e at (item_load bytes i rest s)

  all_load : (bytes : List ℕ) (is : List Item) (s t : Loading) → Nodes.loaded bytes is s ≡ Ok t → Extends t.names all → load t ≤ load s + worths (weight all) is
  unfolding Nodes.loaded
  all_load bytes [] s t e h = let same : s ≡ t = ok_same s t e in omega (arith, ap load same)
  all_load bytes (i ∷ is) s t e h =
      let a = ok_bound (take_item bytes i is s) (λ u. Nodes.loaded bytes is u) t e in
      omega (arith, all_load bytes is a.0 t a.2 h, taken_load bytes i is s a.0 a.1 (extends_then a.0.names t.names all (loaded_later bytes is a.0 t a.2).names h))

  -- The bodies weigh at most what the items do.
  pub bodies_load : (bytes : List ℕ) (is : List Item) (names : List (List ℕ)) (t : Loading) → Nodes.loaded bytes is (begun names) ≡ Ok t → Extends t.names all → weight_of m t.bodies ≤ worths (weight all) is
  bodies_load bytes is names t e h = omega (arith, all_load bytes is (begun names) t e h)
