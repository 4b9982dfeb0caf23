-- The bodies of a world are those that its items open, each with the places of its own nodes.
use Rattle.std.specs.Prelude.{◌≡◌, ◌⊎◌, ℕ, zero, suc, ◌+◌, ◌-◌, ◌<◌, ◌≤◌, nat_eq, Bool, true, false, not, ◌&&◌, if◌then◌else◌, Option, None, Some, Result, Ok, Err, List, [], ◌∷◌, ◌++◌, length, map, slice_get, refl}
use Rattle.std.proofs.Common.{ap, sym, subst, ◌∙◌, arith, inl, inr, append_assoc, append-nil}
use Rattle.std.proofs.lemmas.Bool.{cases_Bool}
use Rattle.std.proofs.lemmas.Grind.{common_steps}
use Rattle.self_terms.specs.declared.nodes.Node.{Node}
use Rattle.self_terms.specs.declared.nodes.Place.{Place}
use Rattle.self_terms.specs.declared.values.Datum.{Datum as Value}
use Rattle.self_terms.specs.declared.bodies.Body.{Body}
use Rattle.self_terms.specs.Bodies.{change_body, add_node, add_argument, add_local, with_name}
use Rattle.self_grammar.specs.declared.signs.Spot.{Spot}
use Rattle.self_grammar.specs.declared.pieces.Words.{Words}
use Rattle.self_grammar.specs.declared.pieces.Made.{Made}
use Rattle.self_grammar.specs.declared.pieces.TextNode.{TextNode}
use Rattle.self_grammar.specs.declared.pieces.TextNode.TheVariants as text
use Rattle.self_grammar.specs.declared.pieces.SlotForm.{SlotForm}
use Rattle.self_grammar.specs.declared.pieces.SlotForm.TheVariants as form
use Rattle.self_grammar.specs.declared.pieces.Item.{Item}
use Rattle.self_grammar.specs.declared.pieces.Item.TheVariants as items
use Rattle.source_model.specs.declared.objects.Thing.TheVariants.{Text}
use Rattle.source_model.specs.declared.objects.Core.{Core}
use Rattle.world_build.specs.Telling.{core_of, thing_of}
use Rattle.world_build.specs.declared.values.Open.{Open}
use Rattle.world_build.specs.declared.values.Open.TheVariants.{InObject as in_object, InBody as in_body}
use Rattle.world_build.specs.declared.values.Held.{Held}
use Rattle.world_build.specs.declared.values.Held.TheVariants.{Nothing as nothing, Data as value, Code as body}
use Rattle.world_build.specs.declared.slots.ToldSlot.{ToldSlot}
use Rattle.world_build.specs.declared.things.ToldThing.{ToldThing}
use Rattle.world_build.specs.declared.things.ToldThing.TheVariants.{Plain as plain, Text as string}
use Rattle.world_build.specs.declared.refusals.BuildRefusal.{BuildRefusal}
use Rattle.world_build.specs.declared.loading.Loading.{Loading}
use Rattle.world_build.specs.Names.{core_names, with_words, word_number}
use Rattle.world_build.specs.Loading.{begun, place, root, further, followed, is_object, innermost, opened, closed, with_closed, at_object, add_slots, slots_for, local_for, placed_in, name_body, with_slot, slot_ended, is_parent, may_be_parent, argument_in}
use Rattle.world_build.specs.Nodes.{beside, at_innermost, node_of, with_node, take_item}
use Rattle.world_build.specs.Nodes
use Rattle.world_build.specs.Numbers.{TextObject, object_literal, string_literal, text_object_of, text_objects, spots, opened_spots, item_spots, body_spots, IsNumbered}
use Rattle.world_build.specs.Worlds.{World, fixed_strings, cores}
use Rattle.world_build.specs.Worlds
use Rattle.world_build.proofs.Weights.{ok_bound, ok_same}
use Rattle.world_build.proofs.Counting.{map_append, told_object, all_got}

-- Part 1: what items do, told by lists. What is open is the number of its body, or none for an object; a body is the places of
-- its nodes.

abbrev pub Places : Type 0
Places = List Place

-- one node more in the body of this index
abbrev note : Place → List Places → ℕ → List Places
note p [] j = []
note p (ps ∷ pss) zero = (ps ++ p ∷ []) ∷ pss
note p (ps ∷ pss) (suc j) = ps ∷ note p pss j

abbrev note_in : Place → List (Option ℕ) → List Places → List Places
note_in p [] pss = pss
note_in p (None ∷ os) pss = pss
note_in p (Some b ∷ os) pss = note p pss (b - 1)

abbrev outer : List (Option ℕ) → List (Option ℕ)
outer [] = []
outer (o ∷ os) = os

abbrev opened_over : Bool → List (Option ℕ) → ℕ → List (Option ℕ)
opened_over true os n = None ∷ os
opened_over false os n = Some (n + 1) ∷ os

abbrev opened_places : Bool → List Places → List Places
opened_places true pss = pss
opened_places false pss = pss ++ [] ∷ []

-- what is open behind an item, where there were so many bodies
abbrev over : Item → List Item → List (Option ℕ) → ℕ → List (Option ℕ)
over (items.Opened p) rest os n = opened_over (is_object 0 rest) os n
over items.ClosedObject rest os n = outer os
over items.ClosedBody rest os n = outer os
over _ rest os n = os

abbrev noted : Item → List Item → List (Option ℕ) → List Places → List Places
noted (items.Node m) rest os pss = note_in (place m.spot) os pss
noted (items.Opened p) rest os pss = opened_places (is_object 0 rest) pss
noted _ rest os pss = pss

all_noted : List Item → List (Option ℕ) → List Places → List Places
all_noted [] os pss = pss
all_noted (i ∷ is) os pss = all_noted is (over i is os (length pss)) (noted i is os pss)

-- Part 2: that is what items do.

abbrev open_body : Open → Option ℕ
open_body (in_object o) = None
open_body (in_body b) = Some b

abbrev open_of : Loading → List (Option ℕ)
open_of s = map open_body s.around

abbrev places_of : Body → Places
places_of b = b.places

abbrev places_in : Loading → List Places
places_in s = map places_of s.bodies

kept_more : (f : Body → Body) (o : Option Body) (b : Body) (bodies : List Body) (j : ℕ) → map places_of (change_body f o (b ∷ bodies) (suc j)) ≡ places_of b ∷ map places_of (change_body f o bodies j)
kept_more f None b bodies j = refl
kept_more f (Some x) b bodies j = refl

kept_at : (f : Body → Body) → ((x : Body) → places_of (f x) ≡ places_of x) → (bodies : List Body) (j : ℕ) → map places_of (change_body f (slice_get bodies j) bodies j) ≡ map places_of bodies
kept_at f h [] j = refl
kept_at f h (b ∷ bodies) zero = ap (λ ps. ps ∷ map places_of bodies) (h b)
kept_at f h (b ∷ bodies) (suc j) = kept_more f (slice_get bodies j) b bodies j ∙ ap (λ pss. places_of b ∷ pss) (kept_at f h bodies j)

noted_at : (n : Node) (p : Place) (bodies : List Body) (j : ℕ) → map places_of (change_body (add_node n p) (slice_get bodies j) bodies j) ≡ note p (map places_of bodies) j
noted_at n p [] j = refl
noted_at n p (b ∷ bodies) zero = refl
noted_at n p (b ∷ bodies) (suc j) = kept_more (add_node n p) (slice_get bodies j) b bodies j ∙ ap (λ pss. places_of b ∷ pss) (noted_at n p bodies j)

-- the same things are open, over bodies with the same places
record Same (s t : Loading) : Type 0 where
  opens : t.around ≡ s.around
  places : places_in t ≡ places_in s

same : (s : Loading) → Same s s
same s = record { opens = refl; places = refl }

same_then : (s t u : Loading) → Same s t → Same t u → Same s u
same_then s t u h k = record { opens = k.opens ∙ h.opens; places = k.places ∙ h.places }

same_slots : (o : ℕ) (xs : List ToldSlot) (s : Loading) → Same s (add_slots o xs s)
same_slots o [] s = same s
same_slots o (x ∷ xs) s = let k = same_slots o xs (at_object o x s) in record { opens = k.opens; places = k.places }

same_placed : (o : Option Open) (n : ℕ) (f : SlotForm) (s : Loading) → Same s (placed_in o n f s)
same_placed None n f s = same s
same_placed (Some (in_object o)) n f s = same_slots o (slots_for n f s.held) s
same_placed (Some (in_body b)) n f s = record { opens = refl; places = kept_at (add_local (local_for n f s.held)) (λ x. refl) s.bodies (b - 1) }

same_name : (h : Held) (n : ℕ) (f : SlotForm) (s : Loading) → Same s (name_body h n f s)
same_name nothing n f s = same s
same_name (value v) n f s = same s
same_name (body b) n form.Method s = record { opens = refl; places = kept_at (with_name n) (λ x. refl) s.bodies (b - 1) }
same_name (body b) n form.Constant s = same s
same_name (body b) n (form.Assignable setter) s = same s
same_name (body b) n (form.Bare setter) s = same s
same_name (body b) n form.Parent s = same s

same_argument : (o : Option Open) (n : ℕ) (s : Loading) → Same s (argument_in o n s)
same_argument None n s = same s
same_argument (Some (in_object o)) n s = same s
same_argument (Some (in_body b)) n s = record { opens = refl; places = kept_at (add_argument n) (λ x. refl) s.bodies (b - 1) }

same_slot : (n : ℕ) (f : SlotForm) (s : Loading) → Same s (with_slot n f s)
same_slot n f s =
    let k = same_then s (name_body s.held n f s) (placed_in (innermost s.around) n f (name_body s.held n f s)) (same_name s.held n f s) (same_placed (innermost s.around) n f (name_body s.held n f s)) in
    record { opens = k.opens; places = k.places }

same_beside : (bytes : List ℕ) (n : TextNode) (s : Loading) → Same s (beside bytes n s)
same_beside bytes (text.Integer z) s = same s
same_beside bytes (text.Text i j) s = record { opens = refl; places = refl }
same_beside bytes text.Block s = same s
same_beside bytes text.Itself s = same s
same_beside bytes text.Nil s = same s
same_beside bytes (text.Message to w args) s = record { opens = refl; places = refl }
same_beside bytes (text.Primitive w args receiver handler) s = record { opens = refl; places = refl }
same_beside bytes text.Drop s = same s
same_beside bytes text.Restart s = same s
same_beside bytes text.Return s = same s
same_beside bytes text.End s = same s

-- what an item does, where it isn't refused
record Goes (s t : Loading) (os : List (Option ℕ)) (pss : List Places) : Type 0 where
  opens : open_of t ≡ os
  places : places_in t ≡ pss

abbrev Went : Loading → List (Option ℕ) → List Places → Result Loading BuildRefusal → Type 0
Went s os pss (Ok t) = Goes s t os pss
Went s os pss (Err e) = Unit {0}

goes_on : (s t : Loading) → Same s t → Goes s t (open_of s) (places_in s)
goes_on s t h = record { opens = ap (λ os. map open_body os) h.opens; places = h.places }

node_placed : (os : List Open) (n : Node) (p : Place) (s : Loading) → (at_innermost (innermost os) n p s).around ≡ s.around
node_placed [] n p s = refl
node_placed (in_object o ∷ os) n p s = refl
node_placed (in_body b ∷ os) n p s = refl

node_noted : (os : List Open) (n : Node) (p : Place) (s : Loading) → places_in (at_innermost (innermost os) n p s) ≡ note_in p (map open_body os) (places_in s)
node_noted [] n p s = refl
node_noted (in_object o ∷ os) n p s = refl
node_noted (in_body b ∷ os) n p s = noted_at n p s.bodies (b - 1)

node_goes : (bytes : List ℕ) (m : Made) (s : Loading) → Goes s (with_node bytes m s) (open_of s) (note_in (place m.spot) (open_of s) (places_in s))
node_goes bytes m s =
    let x = beside bytes m.node s in
    let h = same_beside bytes m.node s in
    record {
      opens = ap (λ os. map open_body os) (node_placed s.around (node_of s m.node) (place m.spot) x ∙ h.opens);
      places = node_noted s.around (node_of s m.node) (place m.spot) x ∙ ap (λ pss. note_in (place m.spot) (open_of s) pss) h.places;
    }

length_places : (bodies : List Body) → length (map places_of bodies) ≡ length bodies
length_places [] = refl
length_places (b ∷ bodies) = ap suc (length_places bodies)

opened_goes : (b : Bool) (s : Loading) → Goes s (opened b s) (opened_over b (open_of s) (length (places_in s))) (opened_places b (places_in s))
opened_goes true s = record { opens = refl; places = refl }
opened_goes false s = record { opens = ap (λ n. Some (n + 1) ∷ open_of s) (sym (length_places s.bodies)); places = map_append places_of s.bodies _ }

closed_open : (os : List Open) (h : Held) → map open_body (closed os h).0 ≡ outer (map open_body os)
closed_open [] h = refl
closed_open (in_object o ∷ os) h = refl
closed_open (in_body b ∷ os) h = refl

closed_goes : (s : Loading) → Goes s (with_closed s) (outer (open_of s)) (places_in s)
closed_goes s = record { opens = closed_open s.around s.held; places = refl }

followed_goes : (p : Spot) (v : Option Value) (s : Loading) → Went s (open_of s) (places_in s) (followed s p v)
followed_goes p None s = tt
followed_goes p (Some v) s = record { opens = refl; places = refl }

ended_goes : (w : Words) (f : SlotForm) (p : Spot) (s : Loading) → Went s (open_of s) (places_in s) (slot_ended w f p s)
ended_goes w f p s = elim (cases_Bool (is_parent f && not (may_be_parent s s.held))) [
  | inl e ↦ rw e tt
  | inr e ↦
      let k = same_slot (word_number s.names w) f (record s { names = with_words s.names w }) in
      rw e (record { opens = ap (λ os. map open_body os) k.opens; places = k.places })
]

item_goes : (bytes : List ℕ) (i : Item) (rest : List Item) (s : Loading) → Went s (over i rest (open_of s) (length (places_in s))) (noted i rest (open_of s) (places_in s)) (take_item bytes i rest s)
item_goes bytes (items.Node m) rest s = node_goes bytes m s
item_goes bytes (items.Opened p) rest s = opened_goes (is_object 0 rest) s
item_goes bytes items.ClosedObject rest s = closed_goes s
item_goes bytes items.ClosedBody rest s = closed_goes s
item_goes bytes (items.Integer z) rest s = record { opens = refl; places = refl }
item_goes bytes (items.Text i j) rest s = record { opens = refl; places = refl }
item_goes bytes (items.Root n p) rest s = followed_goes p (root s n) s
item_goes bytes (items.Further n p) rest s = followed_goes p (further s s.held n) s
item_goes bytes (items.Argument n) rest s = let k = same_argument (innermost s.around) n s in record { opens = ap (λ os. map open_body os) k.opens; places = k.places }
item_goes bytes (items.Named n) rest s = record { opens = refl; places = refl }
item_goes bytes (items.Slot w f p) rest s = ended_goes w f p s

item_went : (bytes : List ℕ) (i : Item) (rest : List Item) (s t : Loading) → take_item bytes i rest s ≡ Ok t →
    Goes s t (over i rest (open_of s) (length (places_in s))) (noted i rest (open_of s) (places_in s))
item_went bytes i rest s t e = rw e at (item_goes bytes i rest s)

all_went : (bytes : List ℕ) (is : List Item) (s t : Loading) → Nodes.loaded bytes is s ≡ Ok t → places_in t ≡ all_noted is (open_of s) (places_in s)
unfolding Nodes.loaded all_noted
all_went bytes [] s t e = ap places_in (sym (ok_same s t e))
all_went bytes (i ∷ is) s t e =
    let a = ok_bound (take_item bytes i is s) (λ u. Nodes.loaded bytes is u) t e in
    let one = item_went bytes i is s a.0 a.1 in
    all_went bytes is a.0 t a.2 ∙ ap (λ os. all_noted is os (places_in a.0)) one.opens ∙ ap (λ pss. all_noted is (over i is (open_of s) (length (places_in s))) pss) one.places

-- Part 3: each body gets what its items owe it.

abbrev Falls : ℕ → List (Option ℕ) → Type 0
Falls n [] = Unit {0}
Falls n (None ∷ os) = Falls n os
Falls n (Some b ∷ os) = (0 < b) × (b < n) × Falls b os

falls_more : (n m : ℕ) (os : List (Option ℕ)) → n ≤ m → Falls n os → Falls m os
falls_more n m [] l h = tt
falls_more n m (None ∷ os) l h = falls_more n m os l h
falls_more n m (Some b ∷ os) l h = (h.0, omega (arith, h.1, l), h.2)

-- the places of the nodes that come to a body
owed : ℕ → ℕ → List (Option ℕ) → List Item → Places
owed out b [] is = []
owed out b (None ∷ os) is = owed (suc out) b os is
owed out b (Some c ∷ os) is = if nat_eq c b then map place (spots out is) else owed (suc out) b os is

owed_none : (out b n : ℕ) (os : List (Option ℕ)) (is : List Item) → Falls n os → n ≤ b → owed out b os is ≡ []
unfolding owed
owed_none out b n [] is h l = refl
owed_none out b n (None ∷ os) is h l = owed_none (suc out) b n os is h l
owed_none out b n (Some c ∷ os) is h l =
    let less : c < n = h.1 in
    let e : nat_eq c b ≡ false = apart c b (omega arith) in
    rw e (owed_none (suc out) b c os is h.2 (omega arith))
  where
    apart : (x y : ℕ) → x < y → nat_eq x y ≡ false
    apart x y l = grind (arith, common_steps)

owed_end : (out b : ℕ) (os : List (Option ℕ)) → owed out b os [] ≡ []
unfolding owed
owed_end out b [] = refl
owed_end out b (None ∷ os) = owed_end (suc out) b os
owed_end out b (Some c ∷ os) = elim (cases_Bool (nat_eq c b)) [ inl e ↦ rw e refl | inr e ↦ rw e (owed_end (suc out) b os) ]

-- an item that moves what is open in or out
deeper : (k j : ℕ) (xs ys : List Item) → ((d : ℕ) → spots (d + k) xs ≡ spots (d + j) ys) → (d : ℕ) → spots (d + suc k) xs ≡ spots (d + suc j) ys
deeper k j xs ys h d = let e : d + suc k ≡ suc d + k = omega arith in let f : d + suc j ≡ suc d + j = omega arith in rw (e, f) (h (suc d))

nearest : (k j : ℕ) (xs ys : List Item) → spots (0 + k) xs ≡ spots (0 + j) ys → spots k xs ≡ spots j ys
nearest k j xs ys h = let e : 0 + k ≡ k = omega arith in let f : 0 + j ≡ j = omega arith in ap (λ d. spots d xs) (sym e) ∙ h ∙ ap (λ d. spots d ys) f

owed_moves : (k j : ℕ) (xs ys : List Item) → ((d : ℕ) → spots (d + k) xs ≡ spots (d + j) ys) → (b : ℕ) (os : List (Option ℕ)) → owed k b os xs ≡ owed j b os ys
unfolding owed
owed_moves k j xs ys h b [] = refl
owed_moves k j xs ys h b (None ∷ os) = owed_moves (suc k) (suc j) xs ys (deeper k j xs ys h) b os
owed_moves k j xs ys h b (Some c ∷ os) = elim (cases_Bool (nat_eq c b)) [
  | inl e ↦ rw e (ap (λ ps. map place ps) (nearest k j xs ys (h 0)))
  | inr e ↦ rw e (owed_moves (suc k) (suc j) xs ys (deeper k j xs ys h) b os)
]

owed_plain : (i : Item) (is : List Item) → ((d : ℕ) → spots d (i ∷ is) ≡ spots d is) → (b : ℕ) (os : List (Option ℕ)) → owed 0 b os (i ∷ is) ≡ owed 0 b os is
owed_plain i is h b os = owed_moves 0 0 (i ∷ is) is (λ d. h (d + 0)) b os

owed_opened : (p : Spot) (is : List Item) (b : ℕ) (os : List (Option ℕ)) → owed 0 b os (items.Opened p ∷ is) ≡ owed 1 b os is
owed_opened p is b os = owed_moves 0 1 (items.Opened p ∷ is) is inner b os
  where
    inner : (d : ℕ) → spots (d + 0) (items.Opened p ∷ is) ≡ spots (d + 1) is
    inner d = let e : d + 0 ≡ d = omega arith in let f : d + 1 ≡ suc d = omega arith in rw (e, f) refl

owed_closed_object : (is : List Item) (b : ℕ) (os : List (Option ℕ)) → owed 1 b os (items.ClosedObject ∷ is) ≡ owed 0 b os is
owed_closed_object is b os = owed_moves 1 0 (items.ClosedObject ∷ is) is out b os
  where
    out : (d : ℕ) → spots (d + 1) (items.ClosedObject ∷ is) ≡ spots (d + 0) is
    out d = let e : d + 0 ≡ d = omega arith in let f : d + 1 ≡ suc d = omega arith in rw (e, f) refl

owed_closed_body : (is : List Item) (b : ℕ) (os : List (Option ℕ)) → owed 1 b os (items.ClosedBody ∷ is) ≡ owed 0 b os is
owed_closed_body is b os = owed_moves 1 0 (items.ClosedBody ∷ is) is out b os
  where
    out : (d : ℕ) → spots (d + 1) (items.ClosedBody ∷ is) ≡ spots (d + 0) is
    out d = let e : d + 0 ≡ d = omega arith in let f : d + 1 ≡ suc d = omega arith in rw (e, f) refl

owed_node : (m : Made) (is : List Item) (b : ℕ) (os : List (Option ℕ)) → owed 1 b os (items.Node m ∷ is) ≡ owed 1 b os is
owed_node m is b os = owed_moves 1 1 (items.Node m ∷ is) is here b os
  where
    here : (d : ℕ) → spots (d + 1) (items.Node m ∷ is) ≡ spots (d + 1) is
    here d = let f : d + 1 ≡ suc d = omega arith in rw f refl

-- All bodies, from one of this number on.
grown : ℕ → List Places → List (Option ℕ) → List Item → List Places
grown b [] os is = []
grown b (ps ∷ pss) os is = (ps ++ owed 0 b os is) ∷ grown (suc b) pss os is

grown_same : (b : ℕ) (pss : List Places) (os qs : List (Option ℕ)) (is js : List Item) → ((c : ℕ) → b ≤ c → c < b + length pss → owed 0 c os is ≡ owed 0 c qs js) → grown b pss os is ≡ grown b pss qs js
unfolding grown
grown_same b [] os qs is js h = refl
grown_same b (ps ∷ pss) os qs is js h =
    ap (λ xs. (ps ++ xs) ∷ grown (suc b) pss os is) (h b (omega arith) (omega arith))
    ∙ ap (λ xss. (ps ++ owed 0 b qs js) ∷ xss) (grown_same (suc b) pss os qs is js (λ c l u. h c (omega arith) (omega arith)))

grown_end : (b : ℕ) (pss : List Places) (os : List (Option ℕ)) → grown b pss os [] ≡ pss
unfolding grown
grown_end b [] os = refl
grown_end b (ps ∷ pss) os = ap (λ xs. (ps ++ xs) ∷ grown (suc b) pss os []) (owed_end 0 b os) ∙ ap (λ xs. xs ∷ grown (suc b) pss os []) (append-nil ps) ∙ ap (λ xss. ps ∷ xss) (grown_end (suc b) pss os)

grown_append : (b : ℕ) (pss : List Places) (qs : Places) (os : List (Option ℕ)) (is : List Item) → grown b (pss ++ qs ∷ []) os is ≡ grown b pss os is ++ (qs ++ owed 0 (b + length pss) os is) ∷ []
unfolding grown
grown_append b [] qs os is = let e : b + 0 ≡ b = omega arith in rw e refl
grown_append b (ps ∷ pss) qs os is =
    let e : b + suc (length pss) ≡ suc b + length pss = omega arith in
    ap (λ xss. (ps ++ owed 0 b os is) ∷ xss) (grown_append (suc b) pss qs os is ∙ ap (λ n. grown (suc b) pss os is ++ (qs ++ owed 0 n os is) ∷ []) (sym e))

-- a node of the innermost body
unequal : (x y : ℕ) → x < y → nat_eq x y ≡ false
unequal x y l = grind (arith, common_steps)

unequal_above : (x y : ℕ) → y < x → nat_eq x y ≡ false
unequal_above x y l = grind (arith, common_steps)

equal : (x : ℕ) → nat_eq x x ≡ true
equal x = grind (arith, common_steps)

owed_other : (c : ℕ) (os : List (Option ℕ)) (m : Made) (is : List Item) (b : ℕ) → nat_eq c b ≡ false → owed 0 b (Some c ∷ os) (items.Node m ∷ is) ≡ owed 0 b (Some c ∷ os) is
unfolding owed
owed_other c os m is b e = rw e (owed_node m is b os)

owed_own : (c : ℕ) (os : List (Option ℕ)) (is : List Item) → owed 0 c (Some c ∷ os) is ≡ map place (spots 0 is)
unfolding owed
owed_own c os is = let e : nat_eq c c ≡ true = equal c in rw e refl

grown_node : (b j : ℕ) (pss : List Places) (os : List (Option ℕ)) (m : Made) (is : List Item) →
    grown b pss (Some (b + j) ∷ os) (items.Node m ∷ is) ≡ grown b (note (place m.spot) pss j) (Some (b + j) ∷ os) is
unfolding grown
grown_node b j [] os m is = refl
grown_node b zero (ps ∷ pss) os m is =
    let e : b + 0 ≡ b = omega arith in
    rw e (ap (λ xs. (ps ++ xs) ∷ grown (suc b) pss (Some b ∷ os) (items.Node m ∷ is)) (owed_own b os (items.Node m ∷ is))
    ∙ ap (λ xs. xs ∷ grown (suc b) pss (Some b ∷ os) (items.Node m ∷ is)) (sym (append_assoc ps (place m.spot ∷ []) (map place (spots 0 is))) ∙ ap (λ xs. (ps ++ place m.spot ∷ []) ++ xs) (sym (owed_own b os is)))
    ∙ ap (λ xss. ((ps ++ place m.spot ∷ []) ++ owed 0 b (Some b ∷ os) is) ∷ xss)
    (grown_same (suc b) pss (Some b ∷ os) (Some b ∷ os) (items.Node m ∷ is) is (λ c l u. owed_other b os m is c (unequal b c l))))
grown_node b (suc j) (ps ∷ pss) os m is =
    let e : b + suc j ≡ suc b + j = omega arith in
    let above : nat_eq (suc b + j) b ≡ false = unequal_above (suc b + j) b (omega arith) in
    rw e (ap (λ xs. (ps ++ xs) ∷ grown (suc b) pss (Some (suc b + j) ∷ os) (items.Node m ∷ is)) (owed_other (suc b + j) os m is b above)
    ∙ ap (λ xss. (ps ++ owed 0 b (Some (suc b + j) ∷ os) is) ∷ xss) (grown_node (suc b) j pss os m is))

-- One item: the bodies that were there get what they get behind it, and a body that opens is put behind them.

abbrev Step : Item → List Item → List (Option ℕ) → List Places → Type 0
Step i is os pss =
    (grown 1 (noted i is os pss) (over i is os (length pss)) is ≡ grown 1 pss os (i ∷ is) ++ map (map place) (item_spots i is))
    × Falls (length (noted i is os pss) + 1) (over i is os (length pss))

plain_step : (i : Item) (is : List Item) (os : List (Option ℕ)) (pss : List Places) → ((d : ℕ) → spots d (i ∷ is) ≡ spots d is) → grown 1 pss os is ≡ grown 1 pss os (i ∷ is) ++ []
plain_step i is os pss h = grown_same 1 pss os os is (i ∷ is) (λ c l u. sym (owed_plain i is h c os)) ∙ sym (append-nil (grown 1 pss os (i ∷ is)))

length_note : (p : Place) (pss : List Places) (j : ℕ) → length (note p pss j) ≡ length pss
length_note p [] j = refl
length_note p (ps ∷ pss) zero = refl
length_note p (ps ∷ pss) (suc j) = ap suc (length_note p pss j)

node_step : (m : Made) (is : List Item) (os : List (Option ℕ)) (pss : List Places) → Falls (length pss + 1) os → Step (items.Node m) is os pss
unfolding owed
node_step m is [] pss f = (grown_same 1 pss [] [] is (items.Node m ∷ is) (λ c l u. refl) ∙ sym (append-nil (grown 1 pss [] (items.Node m ∷ is))), f)
node_step m is (None ∷ os) pss f =
    (grown_same 1 pss (None ∷ os) (None ∷ os) is (items.Node m ∷ is) (λ c l u. sym (owed_node m is c os)) ∙ sym (append-nil (grown 1 pss (None ∷ os) (items.Node m ∷ is))), f)
node_step m is (Some b ∷ os) pss f =
    let given : 0 < b = f.0 in
    let e : b ≡ 1 + (b - 1) = omega arith in
    let known : grown 1 pss (Some b ∷ os) (items.Node m ∷ is) ≡ grown 1 (note (place m.spot) pss (b - 1)) (Some b ∷ os) is = at_number b (b - 1) e in
    (sym known ∙ sym (append-nil (grown 1 pss (Some b ∷ os) (items.Node m ∷ is))), falls_more (length pss + 1) (length (note (place m.spot) pss (b - 1)) + 1) (Some b ∷ os) (omega (arith, length_note (place m.spot) pss (b - 1))) f)
  where
    at_number : (c j : ℕ) → c ≡ 1 + j → grown 1 pss (Some c ∷ os) (items.Node m ∷ is) ≡ grown 1 (note (place m.spot) pss j) (Some c ∷ os) is
    at_number c j e = rw e (grown_node 1 j pss os m is)

opened_step : (k : Bool) (p : Spot) (is : List Item) (os : List (Option ℕ)) (pss : List Places) → Falls (length pss + 1) os →
    (grown 1 (opened_places k pss) (opened_over k os (length pss)) is ≡ grown 1 pss os (items.Opened p ∷ is) ++ map (map place) (opened_spots k is))
    × Falls (length (opened_places k pss) + 1) (opened_over k os (length pss))
unfolding owed
opened_step true p is os pss f =
    (grown_same 1 pss (None ∷ os) os is (items.Opened p ∷ is) (λ c l u. sym (owed_opened p is c os)) ∙ sym (append-nil (grown 1 pss os (items.Opened p ∷ is))), f)
opened_step false p is os pss f =
    let n : ℕ = length pss in
    let own : owed 0 (1 + n) (Some (n + 1) ∷ os) is ≡ map place (spots 0 is) = at_number (1 + n) (n + 1) (omega arith) in (
      grown_append 1 pss [] (Some (n + 1) ∷ os) is ∙ ap (λ xs. grown 1 pss (Some (n + 1) ∷ os) is ++ xs ∷ []) own
          ∙ ap (λ xss. xss ++ map place (spots 0 is) ∷ []) (grown_same 1 pss (Some (n + 1) ∷ os) os is (items.Opened p ∷ is) (λ c l u. old c (omega arith))),
      (omega arith, omega (arith, length_more pss), f),
    )
  where
    at_number : (x y : ℕ) → x ≡ y → owed 0 x (Some y ∷ os) is ≡ map place (spots 0 is)
    at_number x y e = rw e (owed_own y os is)

    old : (c : ℕ) → c < length pss + 1 → owed 0 c (Some (length pss + 1) ∷ os) is ≡ owed 0 c os (items.Opened p ∷ is)
    old c l = let e : nat_eq (length pss + 1) c ≡ false = unequal_above (length pss + 1) c l in rw e (sym (owed_opened p is c os))

    length_more : (xss : List Places) → length (xss ++ [] ∷ []) ≡ length xss + 1
    length_more [] = refl
    length_more (xs ∷ xss) = omega (arith, length_more xss)

closed_step : (i : Item) (is : List Item) (os : List (Option ℕ)) (pss : List Places) → ((b : ℕ) (qs : List (Option ℕ)) → owed 1 b qs (i ∷ is) ≡ owed 0 b qs is) → spots 0 (i ∷ is) ≡ []
    → Falls (length pss + 1) os → (grown 1 pss (outer os) is ≡ grown 1 pss os (i ∷ is) ++ []) × Falls (length pss + 1) (outer os)
unfolding owed
closed_step i is [] pss h z f = (grown_same 1 pss [] [] is (i ∷ is) (λ c l u. refl) ∙ sym (append-nil (grown 1 pss [] (i ∷ is))), f)
closed_step i is (None ∷ os) pss h z f = (grown_same 1 pss os (None ∷ os) is (i ∷ is) (λ c l u. sym (h c os)) ∙ sym (append-nil (grown 1 pss (None ∷ os) (i ∷ is))), f)
closed_step i is (Some b ∷ os) pss h z f =
    let low : b < length pss + 1 = f.1 in (
      grown_same 1 pss os (Some b ∷ os) is (i ∷ is) (λ c l u. out c (cases_Bool (nat_eq b c))) ∙ sym (append-nil (grown 1 pss (Some b ∷ os) (i ∷ is))),
      falls_more b (length pss + 1) os (omega arith) f.2,
    )
  where
    same_number : (x y : ℕ) → nat_eq x y ≡ true → x ≡ y
    same_number x y e = grind (arith, common_steps)

    out : (c : ℕ) → (nat_eq b c ≡ true) ⊎ (nat_eq b c ≡ false) → owed 0 c os is ≡ owed 0 c (Some b ∷ os) (i ∷ is)
    out c (inl e) = let g : b ≡ c = same_number b c e in let none : owed 0 c os is ≡ [] = owed_none 0 c b os is f.2 (omega arith) in rw e (none ∙ sym (ap (λ ps. map place ps) z))
    out c (inr e) = rw e (sym (h c os))

item_step : (i : Item) (is : List Item) (os : List (Option ℕ)) (pss : List Places) → Falls (length pss + 1) os → Step i is os pss
item_step (items.Node m) is os pss f = node_step m is os pss f
item_step (items.Opened p) is os pss f = opened_step (is_object 0 is) p is os pss f
item_step items.ClosedObject is os pss f = closed_step items.ClosedObject is os pss (owed_closed_object is) refl f
item_step items.ClosedBody is os pss f = closed_step items.ClosedBody is os pss (owed_closed_body is) refl f
item_step (items.Integer z) is os pss f = (plain_step (items.Integer z) is os pss (λ d. refl), f)
item_step (items.Text i j) is os pss f = (plain_step (items.Text i j) is os pss (λ d. refl), f)
item_step (items.Root n p) is os pss f = (plain_step (items.Root n p) is os pss (λ d. refl), f)
item_step (items.Further n p) is os pss f = (plain_step (items.Further n p) is os pss (λ d. refl), f)
item_step (items.Argument n) is os pss f = (plain_step (items.Argument n) is os pss (λ d. refl), f)
item_step (items.Named n) is os pss f = (plain_step (items.Named n) is os pss (λ d. refl), f)
item_step (items.Slot w g p) is os pss f = (plain_step (items.Slot w g p) is os pss (λ d. refl), f)

-- All items.
all_grown : (is : List Item) (os : List (Option ℕ)) (pss : List Places) → Falls (length pss + 1) os → all_noted is os pss ≡ grown 1 pss os is ++ map (map place) (body_spots is)
unfolding all_noted
all_grown [] os pss f = sym (grown_end 1 pss os) ∙ sym (append-nil (grown 1 pss os []))
all_grown (i ∷ is) os pss f =
    let one = item_step i is os pss f in
    all_grown is (over i is os (length pss)) (noted i is os pss) one.1
    ∙ ap (λ xss. xss ++ map (map place) (body_spots is)) one.0
    ∙ append_assoc (grown 1 pss os (i ∷ is)) (map (map place) (item_spots i is)) (map (map place) (body_spots is))
    ∙ ap (λ xss. grown 1 pss os (i ∷ is) ++ xss) (sym (map_append (map place) (item_spots i is) (body_spots is)))

bodies_noted : (names : List (List ℕ)) (bytes : List ℕ) (is : List Item) (t : Loading) → Nodes.loaded bytes is (begun names) ≡ Ok t → places_in t ≡ map (map place) (body_spots is)
unfolding grown
bodies_noted names bytes is t e = all_went bytes is (begun names) t e ∙ all_grown is (None ∷ []) [] tt

-- A world.

length_told : (things : List ToldThing) (xs : List TextObject) → map told_object things ≡ xs → length things ≡ length xs
length_told things xs e = sym (length_map things) ∙ ap length e
  where
    length_map : (xs : List ToldThing) → length (map told_object xs) ≡ length xs
    length_map [] = refl
    length_map (x ∷ xs) = ap suc (length_map xs)

-- The literals are told as what they are.
thing_told : (core : Core) (x : ToldThing) → text_object_of (thing_of core x) ≡ Some (told_object x)
thing_told core (plain slots) = refl
thing_told core (string t) = refl

things_told : (core : Core) (things : List ToldThing) → map text_object_of (map (thing_of core) things) ≡ map Some (map told_object things)
things_told core [] = refl
things_told core (x ∷ things) = ap (λ y. y ∷ map text_object_of (map (thing_of core) things)) (thing_told core x) ∙ ap (λ ys. Some (told_object x) ∷ ys) (things_told core things)

strings_told : (texts : List (List ℕ)) → map text_object_of (map Text texts) ≡ map Some (map string_literal texts)
strings_told [] = refl
strings_told (t ∷ texts) = ap (λ xs. Some (string_literal t) ∷ xs) (strings_told texts)

numbered_core : (names : List (List ℕ)) (bytes : List ℕ) (is : List Item) (t : Loading) (w : World) (c : Result (List ℕ) BuildRefusal) → Nodes.loaded bytes is (begun names) ≡ Ok t → Worlds.world_of t c ≡ Ok w →
    IsNumbered bytes is w
numbered_core names bytes is t w (Err q) e h = cc
numbered_core names bytes is t w (Ok numbers) e h =
    let got = all_got bytes is (begun names) t e in
    let core : Core = core_of numbers in
    subst (λ x. IsNumbered bytes is x) (made_same (Worlds.world_with t core) w h) (record {
      things =
          map_append text_object_of (map (thing_of core) t.things) (map Text fixed_strings)
          ∙ ap (λ xs. xs ++ map text_object_of (map Text fixed_strings)) (things_told core t.things ∙ ap (λ xs. map Some xs) got.0)
          ∙ ap (λ xs. map Some (object_literal ∷ text_objects bytes is) ++ xs) (strings_told fixed_strings)
          ∙ sym (map_append Some (object_literal ∷ text_objects bytes is) (map string_literal fixed_strings));
      objects = length_told t.things (object_literal ∷ text_objects bytes is) got.0 ∙ omega arith;
      bodies = bodies_noted names bytes is t e;
      size = got.1;
    })
  where
    made_same : (a b : World) → ◌≡◌ {A = Result World BuildRefusal} (Ok a) (Ok b) → a ≡ b
    made_same a b e = cc

numbered_finished : (names : List (List ℕ)) (bytes : List ℕ) (is : List Item) (w : World) (r : Result Loading BuildRefusal) → Nodes.loaded bytes is (begun names) ≡ r → Worlds.finished r ≡ Ok w → IsNumbered bytes is w
numbered_finished names bytes is w (Err q) e h = cc
numbered_finished names bytes is w (Ok t) e h = numbered_core names bytes is t w (cores t core_names) e h

pub built_numbered : (names : List (List ℕ)) (bytes : List ℕ) (is : List Item) (w : World) → Worlds.built names bytes is ≡ Ok w → IsNumbered bytes is w
built_numbered names bytes is w h = numbered_finished names bytes is w (Nodes.loaded bytes is (begun names)) refl h
