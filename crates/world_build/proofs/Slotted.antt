-- The slots of the objects that right items build: a method takes as many arguments as its slot's name says, an assignment slot stands
-- behind the slot that it assigns, and no two slots of an object have one name.
use Rattle.std.specs.Prelude.{◌≡◌, ◌⊎◌, ℕ, zero, suc, ◌+◌, ◌-◌, ◌<◌, ◌≤◌, nat_eq, Bool, true, false, ◌&&◌, ◌||◌, not, if◌then◌else◌, Option, None, Some, Ok, List, [], ◌∷◌, ◌++◌, length, take, slice_get, slice_set, refl}
use Rattle.std.specs.List.{list_any}
use Rattle.std.specs.Cmp.Lexicographic.{pointwise}
use Rattle.std.proofs.lemmas.Bool.{cases_Bool}
use Rattle.std.proofs.lemmas.Cmp.{nat_list_eq_equiv}
use Rattle.std.proofs.Common.{ap, sym, subst, ◌∙◌, inl, inr, arith, length-append}
use Rattle.std.proofs.lemmas.Grind.{common_steps}
use Rattle.std.proofs.lemmas.Option.{slice_get_within}
use Rattle.self_terms.specs.declared.nodes.Node.{Node}
use Rattle.self_terms.specs.declared.nodes.Place.{Place}
use Rattle.self_terms.specs.declared.values.Datum.{Datum as Value}
use Rattle.self_terms.specs.declared.values.Datum.TheVariants.{Integer as integer, Object as object, Nil as nil}
use Rattle.self_terms.specs.declared.bodies.Body.{Body}
use Rattle.self_terms.specs.Names.{text_of}
use Rattle.self_terms.specs.Bodies.{change_body, changed, add_node, add_argument, add_local, with_name}
use Rattle.self_tokens.specs.Texts.{unescaped}
use Rattle.self_grammar.specs.declared.signs.Spot.{Spot}
use Rattle.self_grammar.specs.declared.pieces.Made.{Made}
use Rattle.self_grammar.specs.declared.pieces.Words.{Words}
use Rattle.self_grammar.specs.declared.pieces.Words.TheVariants as words
use Rattle.self_grammar.specs.declared.pieces.TextNode.{TextNode}
use Rattle.self_grammar.specs.declared.pieces.TextNode.TheVariants as text
use Rattle.self_grammar.specs.declared.pieces.SlotForm.{SlotForm}
use Rattle.self_grammar.specs.declared.pieces.SlotForm.TheVariants as form
use Rattle.self_grammar.specs.declared.pieces.Item.{Item}
use Rattle.self_grammar.specs.declared.pieces.Item.TheVariants as items
use Rattle.self_grammar.specs.Parts.{parts_in}
use Rattle.source_model.specs.Names.{number_from, number_of}
use Rattle.source_model.specs.Soundness as source
use Rattle.source_model.specs.Soundness.{HasBody}
use Rattle.source_model.specs.Formed.{arity, Takes}
use Rattle.world_build.specs.declared.values.Open.{Open}
use Rattle.world_build.specs.declared.values.Open.TheVariants.{InObject as in_object, InBody as in_body}
use Rattle.world_build.specs.declared.values.Held.{Held}
use Rattle.world_build.specs.declared.values.Held.TheVariants.{Nothing as nothing, Data as value, Code as body}
use Rattle.world_build.specs.declared.slots.ToldContent.{ToldContent}
use Rattle.world_build.specs.declared.slots.ToldContent.TheVariants as told
use Rattle.world_build.specs.declared.slots.ToldSlot.{ToldSlot}
use Rattle.world_build.specs.declared.things.ToldThing.{ToldThing}
use Rattle.world_build.specs.declared.things.ToldThing.TheVariants.{Plain as plain, Text as string}
use Rattle.world_build.specs.declared.loading.Loading.{Loading}
use Rattle.world_build.specs.Names.{joined, with_words, word_number}
use Rattle.world_build.specs.Slots.{is_named, add_slot}
use Rattle.world_build.specs.Things.{change_thing}
use Rattle.world_build.specs.Loading.{begun, place, root, further, followed, holding, is_object, innermost, body_in, opened, closed, with_closed, between, with_string, at_object, value_in, body_number, slots_for, add_slots, local_for, placed_in, name_body, with_slot, may_be_parent, is_parent, argument_in, with_argument, with_waiting}
use Rattle.world_build.specs.Nodes.{node_of, beside, at_innermost, with_node, take_item}
use Rattle.world_build.specs.Nodes
use Rattle.world_build.proofs.Weights.{ok_same, ok_bound, same_innermost}
use Rattle.world_build.proofs.Standing.{in_append, get_append, get_last, in_set, get_set, get_unset}
use Rattle.world_build.proofs.Orders.{colons, arity_lettered, Spelt, IsNamed, Sets, SlotFits, AllGiven, Frame, frame, added, argued, slotted, outer, IsInner, given_by, Keeps, bare}
use Rattle.world_build.proofs.Given.{IsIn}
use Rattle.world_build.proofs.Wording.{colons_append, lettered_more, joined_one}
use Rattle.world_build.proofs.Grown.{Extends, extends_then, extends_same, extends_world, extends_words, IsOpen, Later, later_then, step_later, loaded_later, ended_is}
use Rattle.world_build.proofs.Coded.{body_found, text_kept, joined_kept, word_text, word_takes, placed_around, name_around, argument_around, node_around}

-- Told slots, over some names and bodies.

abbrev pub ContentOk : List (List ℕ) → List Body → ℕ → ToldContent → Type 0
ContentOk names bodies n (told.Method b) = HasBody bodies b × Takes names n (length (source.body_in bodies b).arguments) × ((source.body_in bodies b).outer ≡ None)
ContentOk names bodies n told.Assignment = Takes names n 1
ContentOk names bodies n _ = Unit {0}

-- a name is another one, with a colon
pub record SetsName (names : List (List ℕ)) (n m : ℕ) : Type 0 where
  pub text : List ℕ
  pub named : text_of names n ≡ Some text
  pub set : text_of names m ≡ Some (text ++ 58 ∷ [])

abbrev pub is_told_assignable : ToldContent → Bool
is_told_assignable (told.Assignable v) = true
is_told_assignable _ = false

abbrev pub Follow : List (List ℕ) → Option ToldSlot → ToldSlot → Type 0
Follow names None x = x.content ≡ told.Assignment → ⊥
Follow names (Some front) x = x.content ≡ told.Assignment → (is_told_assignable front.content ≡ true) × SetsName names front.name x.name

abbrev pub Tied : List (List ℕ) → Option ToldSlot → List ToldSlot → Type 0
Tied names front [] = Unit {0}
Tied names front (x ∷ more) = Follow names front x × Tied names (Some x) more

abbrev pub Once : List ToldSlot → Type 0
Once xs = (at : ℕ) (x : ToldSlot) → slice_get xs at ≡ Some x → list_any (is_named x.name) (take at xs) ≡ false

pub record SlotsOk (names : List (List ℕ)) (bodies : List Body) (xs : List ToldSlot) : Type 0 where
  pub each : (i : ℕ) (x : ToldSlot) → slice_get xs i ≡ Some x → ContentOk names bodies x.name x.content
  pub tied : Tied names None xs
  pub once : Once xs

abbrev pub ThingOk : List (List ℕ) → List Body → ToldThing → Type 0
ThingOk names bodies (plain xs) = SlotsOk names bodies xs
ThingOk names bodies (string t) = Unit {0}

abbrev pub AllThings : List (List ℕ) → List Body → List ToldThing → Type 0
AllThings names bodies things = (i : ℕ) (x : ToldThing) → slice_get things i ≡ Some x → ThingOk names bodies x

slot_same : (x y : ToldSlot) → ◌≡◌ {A = Option ToldSlot} (Some x) (Some y) → x ≡ y
slot_same x y e = cc

thing_same : (x y : ToldThing) → ◌≡◌ {A = Option ToldThing} (Some x) (Some y) → x ≡ y
thing_same x y e = cc

-- One slot more.

last_or : Option ToldSlot → List ToldSlot → Option ToldSlot
last_or front [] = front
last_or front (x ∷ xs) = last_or (Some x) xs

last_more : (front : Option ToldSlot) (xs : List ToldSlot) (x : ToldSlot) → last_or front (xs ++ x ∷ []) ≡ Some x
unfolding last_or
last_more front [] x = refl
last_more front (y ∷ xs) x = last_more (Some y) xs x

tied_more : (names : List (List ℕ)) (front : Option ToldSlot) (xs : List ToldSlot) (x : ToldSlot) → Tied names front xs → Follow names (last_or front xs) x → Tied names front (xs ++ x ∷ [])
unfolding last_or
tied_more names front [] x h f = (f, tt)
tied_more names front (y ∷ xs) x h f = (h.0, tied_more names (Some y) xs x h.1 f)

take_front : (xs : List ToldSlot) (y : ToldSlot) (k : ℕ) → k ≤ length xs → take k (xs ++ y ∷ []) ≡ take k xs
take_front xs y zero le = refl
take_front [] y (suc k) le = absurd (omega arith)
take_front (x ∷ xs) y (suc k) le = ap (λ z. x ∷ z) (take_front xs y k (omega arith))

take_whole : (xs : List ToldSlot) → take (length xs) xs ≡ xs
take_whole [] = refl
take_whole (x ∷ xs) = ap (λ z. x ∷ z) (take_whole xs)

once_more : (xs : List ToldSlot) (y : ToldSlot) → Once xs → list_any (is_named y.name) xs ≡ false → Once (xs ++ y ∷ [])
once_more xs y h new at x e =
    elim (in_append xs y at x e) [
      | inl a ↦
          let lt : at < length xs = slice_get_within xs at x a in
          ap (list_any (is_named x.name)) (take_front xs y at (omega arith)) ∙ h at x a
      | inr same ↦
          let here : slice_get (xs ++ y ∷ []) at ≡ Some y = ap (λ k. slice_get (xs ++ y ∷ []) k) same ∙ get_last xs y in
          let is : y ≡ x = slot_same y x (sym here ∙ e) in
          let whole : take at (xs ++ y ∷ []) ≡ xs = ap (λ k. take k (xs ++ y ∷ [])) same ∙ take_front xs y (length xs) (omega arith) ∙ take_whole xs in
          ap (list_any (is_named x.name)) whole ∙ subst (λ (z : ToldSlot). list_any (is_named z.name) xs ≡ false) is new
    ]

module _ (names : List (List ℕ)) (bodies : List Body) where
  slots_more : (xs : List ToldSlot) (y : ToldSlot) → SlotsOk names bodies xs → ContentOk names bodies y.name y.content → Follow names (last_or None xs) y → list_any (is_named y.name) xs ≡ false →
      SlotsOk names bodies (xs ++ y ∷ [])
  slots_more xs y h ok follow new = record {
    each = λ i x e.
        elim (in_append xs y i x e) [
          | inl a ↦ h.each i x a
          | inr same ↦
              let here : slice_get (xs ++ y ∷ []) i ≡ Some y = ap (λ k. slice_get (xs ++ y ∷ []) k) same ∙ get_last xs y in
              subst (λ (z : ToldSlot). ContentOk names bodies z.name z.content) (slot_same y x (sym here ∙ e)) ok
        ];
    tied = tied_more names None xs y h.tied follow;
    once = once_more xs y h.once new;
  }

  follows_any : (front : Option ToldSlot) (y : ToldSlot) → (y.content ≡ told.Assignment → ⊥) → Follow names front y
  follows_any None y h = h
  follows_any (Some x) y h = λ e. absurd (h e)

  add_ok : (xs : List ToldSlot) (y : ToldSlot) → SlotsOk names bodies xs → ContentOk names bodies y.name y.content → Follow names (last_or None xs) y → SlotsOk names bodies (add_slot xs y)
  add_ok xs y h ok follow = by (list_any (is_named y.name) xs) refl
    where
      by : (b : Bool) → list_any (is_named y.name) xs ≡ b → SlotsOk names bodies (if b then xs else xs ++ y ∷ [])
      by true e = h
      by false e = slots_more xs y h ok follow e

  add_one : (xs : List ToldSlot) (y : ToldSlot) → SlotsOk names bodies xs → ContentOk names bodies y.name y.content → (y.content ≡ told.Assignment → ⊥) → SlotsOk names bodies (add_slot xs y)
  add_one xs y h ok no_set = add_ok xs y h ok (follows_any (last_or None xs) y no_set)

  add_new : (xs : List ToldSlot) (y : ToldSlot) → list_any (is_named y.name) xs ≡ false → add_slot xs y ≡ xs ++ y ∷ []
  add_new xs y e = rw e refl

  -- an assignable slot, and the one that assigns it
  add_two : (xs : List ToldSlot) (x y : ToldSlot) → SlotsOk names bodies xs → ContentOk names bodies x.name x.content → (x.content ≡ told.Assignment → ⊥) → list_any (is_named x.name) xs ≡ false →
      ContentOk names bodies y.name y.content → is_told_assignable x.content ≡ true → SetsName names x.name y.name → SlotsOk names bodies (add_slot (add_slot xs x) y)
  add_two xs x y h okx no_set new oky able sets =
      let first = add_one xs x h okx no_set in
      let same : add_slot xs x ≡ xs ++ x ∷ [] = add_new xs x new in
      let behind : last_or None (add_slot xs x) ≡ Some x = ap (last_or None) same ∙ last_more None xs x in
      add_ok (add_slot xs x) y first oky (subst (λ front. Follow names front y) (sym behind) (λ e. (able, sets)))

module _ (names : List (List ℕ)) where
  -- The names of slots, as they were counted.

  abbrev pub HasColon : ℕ → Type 0
  HasColon n = (t : List ℕ) × (text_of names n ≡ Some t) × (0 < colons t)

  abbrev pub Claimed : List ℕ → ℕ → Type 0
  Claimed ns n = (list_any (nat_eq n) ns ≡ true) ⊎ HasColon n

  abbrev pub Claims : List ℕ → List ToldSlot → Type 0
  Claims ns xs = (i : ℕ) (x : ToldSlot) → slice_get xs i ≡ Some x → Claimed ns x.name

  claims_add : (ns : List ℕ) (xs : List ToldSlot) (y : ToldSlot) → Claims ns xs → Claimed ns y.name → Claims ns (add_slot xs y)
  claims_add ns xs y h c = by (list_any (is_named y.name) xs)
    where
      more : Claims ns (xs ++ y ∷ [])
      more i x e =
          elim (in_append xs y i x e) [
            | inl a ↦ h i x a
            | inr same ↦
                let here : slice_get (xs ++ y ∷ []) i ≡ Some y = ap (λ k. slice_get (xs ++ y ∷ []) k) same ∙ get_last xs y in
                subst (λ (z : ToldSlot). Claimed ns z.name) (slot_same y x (sym here ∙ e)) c
          ]

      by : (b : Bool) → Claims ns (if b then xs else xs ++ y ∷ [])
      by true = h
      by false = more

  or_last : (a b : Bool) → b ≡ true → (a || b) ≡ true
  or_last true b e = refl
  or_last false b e = e

  claimed_more : (w : Words) (ns : List ℕ) (n : ℕ) → Claimed ns n → Claimed (added w ns) n
  claimed_more (words.One k) ns n (inl a) = inl (or_last (nat_eq n k) (list_any (nat_eq n) ns) a)
  claimed_more (words.One k) ns n (inr b) = inr b
  claimed_more (words.Two a b) ns n h = h
  claimed_more (words.Three a b c) ns n h = h
  claimed_more (words.Four a b c d) ns n h = h
  claimed_more (words.Five a b c d e) ns n h = h

  claims_more : (w : Words) (ns : List ℕ) (xs : List ToldSlot) → Claims ns xs → Claims (added w ns) xs
  claims_more w ns xs h i x e = claimed_more w ns x.name (h i x e)

  no_claim : (ns : List ℕ) (n : ℕ) (t : List ℕ) → text_of names n ≡ Some t → colons t ≡ 0 → list_any (nat_eq n) ns ≡ false → Claimed ns n → ⊥
  no_claim ns n t e c new (inl a) = cc
  no_claim ns n t e c new (inr b) =
      let same : b.0 ≡ t = some_text b.0 t (sym b.1 ∙ e) in
      let some : 0 < colons t = subst (λ x. 0 < colons x) same b.2 in
      omega arith
    where
      some_text : (x y : List ℕ) → ◌≡◌ {A = Option (List ℕ)} (Some x) (Some y) → x ≡ y
      some_text x y f = cc

  -- no slot has a name that is new
  new_name : (ns : List ℕ) (xs : List ToldSlot) (n : ℕ) (t : List ℕ) → Claims ns xs → text_of names n ≡ Some t → colons t ≡ 0 → list_any (nat_eq n) ns ≡ false → list_any (is_named n) xs ≡ false
  new_name ns [] n t h e c new = refl
  new_name ns (x ∷ xs) n t h e c new = by (nat_eq n x.name) refl (new_name ns xs n t (λ i y at. h (suc i) y at) e c new)
    where
      same_name : (a b : ℕ) → nat_eq a b ≡ true → a ≡ b
      same_name a b f = grind (arith, common_steps)

      by : (b : Bool) → nat_eq n x.name ≡ b → list_any (is_named n) xs ≡ false → (b || list_any (is_named n) xs) ≡ false
      by true f rest = absurd (no_claim ns n t e c new (subst (λ k. Claimed ns k) (sym (same_name n x.name f)) (h 0 x refl)))
      by false f rest = rest

-- What is open.

abbrev pub ObjectsBelow : ℕ → List Open → Type 0
ObjectsBelow n [] = Unit {0}
ObjectsBelow n (in_object o ∷ os) = (o < n) × ObjectsBelow n os
ObjectsBelow n (in_body b ∷ os) = ObjectsBelow n os

abbrev pub BodiesBelow : ℕ → List Open → Type 0
BodiesBelow n [] = Unit {0}
BodiesBelow n (in_object o ∷ os) = BodiesBelow n os
BodiesBelow n (in_body b ∷ os) = (b < n) × BodiesBelow n os

pub record ObjectOpen (names : List (List ℕ)) (things : List ToldThing) (ns : List ℕ) (o : ℕ) (os : List Open) : Type 0 where
  pub slots : List ToldSlot
  pub at : slice_get things o ≡ Some (plain slots)
  pub claims : (i : ℕ) (x : ToldSlot) → slice_get slots i ≡ Some x → Claimed names ns x.name
  pub below : ObjectsBelow o os

pub record BodyOpen (bodies : List Body) (a b : ℕ) (os : List Open) : Type 0 where
  pub given : 0 < b
  pub there : Body
  pub at : slice_get bodies (b - 1) ≡ Some there
  pub outer : there.outer ≡ body_in (innermost os)
  pub arguments : length there.arguments ≡ a
  pub below : BodiesBelow b os

abbrev pub Stand : List (List ℕ) → List Body → List ToldThing → List Frame → List Open → Type 0
Stand names bodies things [] [] = Unit {0}
Stand names bodies things [] (o ∷ os) = ⊥
Stand names bodies things (e ∷ es) [] = ⊥
Stand names bodies things (e ∷ es) (in_object o ∷ os) = ObjectOpen names things e.names o os × Stand names bodies things es os
Stand names bodies things (e ∷ es) (in_body b ∷ os) = BodyOpen bodies e.arguments b os × Stand names bodies things es os

-- Bodies that get no argument and no body around them, and things that stay.

pub record Alike (x : Body) (i : ℕ) (bodies : List Body) : Type 0 where
  pub now : Body
  pub at : slice_get bodies i ≡ Some now
  pub outer : now.outer ≡ x.outer
  pub arguments : length now.arguments ≡ length x.arguments

abbrev pub Same : List Body → List Body → Type 0
Same xs ys = (i : ℕ) (x : Body) → slice_get xs i ≡ Some x → Alike x i ys

abbrev pub Kept : List ToldThing → List ToldThing → Type 0
Kept xs ys = (i : ℕ) (x : ToldThing) → slice_get xs i ≡ Some x → slice_get ys i ≡ Some x

stand_kept : (names : List (List ℕ)) (xs ys : List Body) (ts us : List ToldThing) (es : List Frame) (os : List Open) → Same xs ys → Kept ts us → Stand names xs ts es os → Stand names ys us es os
stand_kept names xs ys ts us [] [] s k h = tt
stand_kept names xs ys ts us [] (o ∷ os) s k h = absurd h
stand_kept names xs ys ts us (e ∷ es) [] s k h = absurd h
stand_kept names xs ys ts us (e ∷ es) (in_object o ∷ os) s k h =
    (record { slots = h.0.slots; at = k o (plain h.0.slots) h.0.at; claims = h.0.claims; below = h.0.below }, stand_kept names xs ys ts us es os s k h.1)
stand_kept names xs ys ts us (e ∷ es) (in_body b ∷ os) s k h =
    let y = s (b - 1) h.0.there h.0.at in (
      record { given = h.0.given; there = y.now; at = y.at; outer = y.outer ∙ h.0.outer; arguments = y.arguments ∙ h.0.arguments; below = h.0.below },
      stand_kept names xs ys ts us es os s k h.1,
    )

same_refl : (xs : List Body) → Same xs xs
same_refl xs i x e = record { now = x; at = e; outer = refl; arguments = refl }

body_same : (x y : Body) → ◌≡◌ {A = Option Body} (Some x) (Some y) → x ≡ y
body_same x y e = cc

set_alike : (f : Body → Body) → ((x : Body) → ((f x).outer ≡ x.outer) × (length (f x).arguments ≡ length x.arguments)) → (xs : List Body) (j i : ℕ) (x z : Body) → slice_get xs j ≡ Some x → slice_get xs i ≡ Some z → Alike z i (slice_set xs j (f x))
set_alike f h [] j i x z e g = cc
set_alike f h (w ∷ xs) zero zero x z e g =
    let same : x ≡ z = sym (body_same w x e) ∙ body_same w z g in
    record { now = f x; at = refl; outer = (h x).0 ∙ ap (λ (y : Body). y.outer) same; arguments = (h x).1 ∙ ap (λ (y : Body). length y.arguments) same }
set_alike f h (w ∷ xs) zero (suc i) x z e g = record { now = z; at = g; outer = refl; arguments = refl }
set_alike f h (w ∷ xs) (suc j) zero x z e g = record { now = z; at = g; outer = refl; arguments = refl }
set_alike f h (w ∷ xs) (suc j) (suc i) x z e g = let r = set_alike f h xs j i x z e g in record { now = r.now; at = r.at; outer = r.outer; arguments = r.arguments }

change_same : (f : Body → Body) → ((x : Body) → ((f x).outer ≡ x.outer) × (length (f x).arguments ≡ length x.arguments)) → (o : Option Body) (xs : List Body) (j : ℕ) → slice_get xs j ≡ o → Same xs (change_body f o xs j)
change_same f h None xs j e = same_refl xs
change_same f h (Some x) xs j e = λ i z g. set_alike f h xs j i x z e g

changed_same : (f : Body → Body) → ((x : Body) → ((f x).outer ≡ x.outer) × (length (f x).arguments ≡ length x.arguments)) → (xs : List Body) (b : ℕ) → Same xs (changed f xs b)
changed_same f h xs b = change_same f h (slice_get xs (b - 1)) xs (b - 1) refl

-- What closes next is of the kind of what is open.

abbrev pub opens_object : Open → Bool
opens_object (in_object o) = true
opens_object (in_body b) = false

abbrev pub Kinds : ℕ → List Open → List Item → Type 0
Kinds k [] rest = Unit {0}
Kinds k (o ∷ []) rest = Unit {0}
Kinds k (o ∷ p ∷ os) rest = (is_object k rest ≡ opens_object o) × Kinds (k + 1) (p ∷ os) rest

kinds_on : (i : Item) (rest : List Item) → ((k : ℕ) → is_object k (i ∷ rest) ≡ is_object k rest) → (k : ℕ) (os : List Open) → Kinds k os (i ∷ rest) → Kinds k os rest
kinds_on i rest same k [] h = tt
kinds_on i rest same k (o ∷ []) h = tt
kinds_on i rest same k (o ∷ p ∷ os) h = (sym (same k) ∙ h.0, kinds_on i rest same (k + 1) (p ∷ os) h.1)

kinds_in : (i : Item) (rest : List Item) → ((k : ℕ) → is_object k (i ∷ rest) ≡ is_object (k + 1) rest) → (k : ℕ) (os : List Open) → Kinds k os (i ∷ rest) → Kinds (k + 1) os rest
kinds_in i rest same k [] h = tt
kinds_in i rest same k (o ∷ []) h = tt
kinds_in i rest same k (o ∷ p ∷ os) h = (sym (same k) ∙ h.0, kinds_in i rest same (k + 1) (p ∷ os) h.1)

kinds_out : (i : Item) (rest : List Item) → ((k : ℕ) → is_object (k + 1) (i ∷ rest) ≡ is_object k rest) → (k : ℕ) (os : List Open) → Kinds (k + 1) os (i ∷ rest) → Kinds k os rest
kinds_out i rest same k [] h = tt
kinds_out i rest same k (o ∷ []) h = tt
kinds_out i rest same k (o ∷ p ∷ os) h = (sym (same k) ∙ h.0, kinds_out i rest same (k + 1) (p ∷ os) h.1)

kinds_first : (o : Open) (os : List Open) (rest : List Item) → is_object 0 rest ≡ opens_object o → Kinds 1 os rest → Kinds 0 (o ∷ os) rest
kinds_first o [] rest e h = tt
kinds_first o (p ∷ os) rest e h = (e, h)

kinds_rest : (o : Open) (os : List Open) (rest : List Item) → Kinds 0 (o ∷ os) rest → Kinds 1 os rest
kinds_rest o [] rest h = tt
kinds_rest o (p ∷ os) rest h = h.1

out_object : (k : ℕ) (rest : List Item) → is_object (k + 1) (items.ClosedObject ∷ rest) ≡ is_object k rest
out_object k rest = let e : k + 1 ≡ suc k = omega arith in rw e refl

out_body : (k : ℕ) (rest : List Item) → is_object (k + 1) (items.ClosedBody ∷ rest) ≡ is_object k rest
out_body k rest = let e : k + 1 ≡ suc k = omega arith in rw e refl

-- Numbers of names.

in_at : (xs : List (List ℕ)) (i : ℕ) (t : List ℕ) → slice_get xs i ≡ Some t → IsIn xs t
in_at [] i t e = cc
in_at (x ∷ xs) zero t e =
    let same : x ≡ t = text_same x t e in
    subst (λ y. (pointwise nat_eq t y || list_any (pointwise nat_eq t) xs) ≡ true) (sym same) (or_first (pointwise nat_eq t t) (list_any (pointwise nat_eq t) xs) (nat_list_eq_equiv.refl t))
  where
    text_same : (x y : List ℕ) → ◌≡◌ {A = Option (List ℕ)} (Some x) (Some y) → x ≡ y
    text_same x y f = cc

    or_first : (a b : Bool) → a ≡ true → (a || b) ≡ true
    or_first true b f = refl
    or_first false b f = cc
in_at (x ∷ xs) (suc i) t e = or_second (pointwise nat_eq t x) (list_any (pointwise nat_eq t) xs) (in_at xs i t e)
  where
    or_second : (a b : Bool) → b ≡ true → (a || b) ≡ true
    or_second true b f = refl
    or_second false b f = f

in_text : (names : List (List ℕ)) (n : ℕ) (t : List ℕ) → text_of names n ≡ Some t → IsIn names t
in_text names zero t e = cc
in_text names (suc n) t e = in_at names n t e

from_kept : (k : ℕ) (t : List ℕ) (xs ys : List (List ℕ)) → IsIn xs t → number_from k t (xs ++ ys) ≡ number_from k t xs
from_kept k t [] ys h = cc
from_kept k t (x ∷ xs) ys h = elim (cases_Bool (pointwise nat_eq t x)) [
  | inl e ↦ rw e refl
  | inr e ↦ rw e (from_kept (k + 1) t xs ys (rw e at h))
]

-- a name of one part has that part's number
own_number : (first old : List (List ℕ)) (k : ℕ) (t : List ℕ) → Extends first old → Spelt first k t → word_number old (words.One k) ≡ k
own_number first old k t h s =
    let is : joined old (k ∷ []) ≡ t = joined_one old k t (text_kept first old k t h s.given) in
    let more = extends_then first old (with_words old (words.One k)) h (extends_words old (words.One k)) in
    ap (λ j. number_of (with_words old (words.One k)) j) is ∙ ap (λ ns. number_of ns t) more.is ∙ from_kept 1 t first more.more (in_text first k t s.given) ∙ s.number

-- One slot more of an object, or two.

record Placed (s u : Loading) (o : ℕ) (xs : List ToldSlot) : Type 0 where
  at : slice_get u.things o ≡ Some (plain xs)
  others : (k : ℕ) (x : ToldThing) → (k ≡ o → ⊥) → slice_get s.things k ≡ Some x → slice_get u.things k ≡ Some x
  back : (k : ℕ) (x : ToldThing) → (k ≡ o → ⊥) → slice_get u.things k ≡ Some x → slice_get s.things k ≡ Some x
  bodies : u.bodies ≡ s.bodies

set_other : (xs : List ToldThing) (j k : ℕ) (x y : ToldThing) → (k ≡ j → ⊥) → slice_get xs k ≡ Some x → slice_get (slice_set xs j y) k ≡ Some x
set_other [] j k x y n e = cc
set_other (z ∷ xs) zero zero x y n e = absurd (n refl)
set_other (z ∷ xs) zero (suc k) x y n e = e
set_other (z ∷ xs) (suc j) zero x y n e = e
set_other (z ∷ xs) (suc j) (suc k) x y n e = set_other xs j k x y (λ f. n (ap suc f)) e

one_placed : (s : Loading) (o : ℕ) (xs : List ToldSlot) (x : ToldSlot) → slice_get s.things o ≡ Some (plain xs) → Placed s (at_object o x s) o (add_slot xs x)
one_placed s o xs x e =
    let is : change_thing x (slice_get s.things o) s.things o ≡ slice_set s.things o (plain (add_slot xs x)) = ap (λ q. change_thing x q s.things o) e in
    record {
      at = ap (λ (ts : List ToldThing). slice_get ts o) is ∙ get_set s.things o (plain xs) (plain (add_slot xs x)) e;
      others = λ k y n f. ap (λ (ts : List ToldThing). slice_get ts k) is ∙ set_other s.things o k y (plain (add_slot xs x)) n f;
      back = λ k y n f.
          elim (in_set s.things o k y (plain (add_slot xs x)) (sym (ap (λ (ts : List ToldThing). slice_get ts k) is) ∙ f)) [
            | inl a ↦ a
            | inr same ↦ absurd (n (sym same))
          ];
      bodies = refl;
    }

two_placed : (s : Loading) (o : ℕ) (xs : List ToldSlot) (x y : ToldSlot) → slice_get s.things o ≡ Some (plain xs) → Placed s (at_object o y (at_object o x s)) o (add_slot (add_slot xs x) y)
two_placed s o xs x y e =
    let a = one_placed s o xs x e in
    let b = one_placed (at_object o x s) o (add_slot xs x) y a.at in
    record { at = b.at; others = λ k z n f. b.others k z n (a.others k z n f); back = λ k z n f. a.back k z n (b.back k z n f); bodies = refl }

-- objects further out stay
stand_outer : (names : List (List ℕ)) (s u : Loading) (o : ℕ) (xs : List ToldSlot) (es : List Frame) (os : List Open) → Placed s u o xs → ObjectsBelow o os → Stand names s.bodies s.things es os → Stand names u.bodies u.things es os
stand_outer names s u o xs [] [] p low h = tt
stand_outer names s u o xs [] (q ∷ os) p low h = absurd h
stand_outer names s u o xs (e ∷ es) [] p low h = absurd h
stand_outer names s u o xs (e ∷ es) (in_object q ∷ os) p low h =
    let lt : q < o = low.0 in (
      record { slots = h.0.slots; at = p.others q (plain h.0.slots) (λ f. omega arith) h.0.at; claims = h.0.claims; below = h.0.below },
      stand_outer names s u o xs es os p low.1 h.1,
    )
stand_outer names s u o xs (e ∷ es) (in_body b ∷ os) p low h = (
  record {
    given = h.0.given;
    there = h.0.there;
    at = ap (λ bs. slice_get bs (b - 1)) p.bodies ∙ h.0.at;
    outer = h.0.outer;
    arguments = h.0.arguments;
    below = h.0.below;
  },
  stand_outer names s u o xs es os p low h.1,
)

things_placed : (names : List (List ℕ)) (bodies : List Body) (s u : Loading) (o : ℕ) (xs : List ToldSlot) → Placed s u o xs → SlotsOk names bodies xs → AllThings names bodies s.things → AllThings names bodies u.things
things_placed names bodies s u o xs p ok h k x e = by (nat_eq k o) refl
  where
    same_number : (a b : ℕ) → nat_eq a b ≡ true → a ≡ b
    same_number a b f = grind (arith, common_steps)

    other_number : (a b : ℕ) → nat_eq a b ≡ false → a ≡ b → ⊥
    other_number a b f g = grind (arith, common_steps)

    by : (b : Bool) → nat_eq k o ≡ b → ThingOk names bodies x
    by true f =
        let here : slice_get u.things k ≡ Some (plain xs) = ap (λ j. slice_get u.things j) (same_number k o f) ∙ p.at in
        subst (ThingOk names bodies) (thing_same (plain xs) x (sym here ∙ e)) ok
    by false f = h k x (p.back k x (other_number k o f) e)

-- Bodies that are open get arguments.

stand_set : (names : List (List ℕ)) (bodies : List Body) (things : List ToldThing) (b : ℕ) (y : Body) (es : List Frame) (os : List Open) → BodiesBelow b os → Stand names bodies things es os →
    Stand names (slice_set bodies (b - 1) y) things es os
stand_set names bodies things b y [] [] low h = tt
stand_set names bodies things b y [] (o ∷ os) low h = absurd h
stand_set names bodies things b y (e ∷ es) [] low h = absurd h
stand_set names bodies things b y (e ∷ es) (in_object o ∷ os) low h = (h.0, stand_set names bodies things b y es os low h.1)
stand_set names bodies things b y (e ∷ es) (in_body c ∷ os) low h =
    let lt : c < b = low.0 in
    let some : 0 < c = h.0.given in (
      record {
        given = h.0.given;
        there = h.0.there;
        at = get_unset bodies (b - 1) (c - 1) h.0.there y (omega arith) h.0.at;
        outer = h.0.outer;
        arguments = h.0.arguments;
        below = h.0.below;
      },
      stand_set names bodies things b y es os low.1 h.1,
    )

argument_things : (o : Option Open) (k : ℕ) (s : Loading) → (argument_in o k s).things ≡ s.things
argument_things None k s = refl
argument_things (Some (in_object o)) k s = refl
argument_things (Some (in_body b)) k s = refl

argument_waiting : (o : Option Open) (k : ℕ) (s : Loading) → (argument_in o k s).waiting ≡ s.waiting
argument_waiting None k s = refl
argument_waiting (Some (in_object o)) k s = refl
argument_waiting (Some (in_body b)) k s = refl

argument_stand : (names : List (List ℕ)) (k : ℕ) (s : Loading) (es : List Frame) (os : List Open) → Stand names s.bodies s.things es os → Stand names (argument_in (innermost os) k s).bodies s.things (argued es) os
argument_stand names k s [] [] h = tt
argument_stand names k s [] (o ∷ os) h = absurd h
argument_stand names k s (e ∷ es) [] h = absurd h
argument_stand names k s (e ∷ es) (in_object o ∷ os) h = (record { slots = h.0.slots; at = h.0.at; claims = h.0.claims; below = h.0.below }, h.1)
argument_stand names k s (e ∷ es) (in_body b ∷ os) h =
    let x : Body = h.0.there in
    let is : changed (add_argument k) s.bodies b ≡ slice_set s.bodies (b - 1) (add_argument k x) = ap (λ o. change_body (add_argument k) o s.bodies (b - 1)) h.0.at in
    subst (λ bs. Stand names bs s.things (frame e.named (e.arguments + 1) e.block e.names ∷ es) (in_body b ∷ os)) (sym is) (
      record {
        given = h.0.given;
        there = add_argument k x;
        at = get_set s.bodies (b - 1) x (add_argument k x) h.0.at;
        outer = h.0.outer;
        arguments = length-append x.arguments (k ∷ []) ∙ ap (λ n. n + 1) h.0.arguments;
        below = h.0.below;
      },
      stand_set names s.bodies s.things b (add_argument k x) es os h.0.below h.1,
    )

-- What is open closes.

stand_out : (names : List (List ℕ)) (bodies : List Body) (things : List ToldThing) (es : List Frame) (os : List Open) (h : Held) → Stand names bodies things es os → Stand names bodies things (outer es) (closed os h).0
stand_out names bodies things [] [] h s = tt
stand_out names bodies things [] (o ∷ os) h s = absurd s
stand_out names bodies things (e ∷ es) [] h s = absurd s
stand_out names bodies things (e ∷ es) (in_object o ∷ os) h s = s.1
stand_out names bodies things (e ∷ es) (in_body b ∷ os) h s = s.1

kinds_closed : (i : Item) (rest : List Item) → ((k : ℕ) → is_object (k + 1) (i ∷ rest) ≡ is_object k rest) → (os : List Open) (h : Held) → Kinds 0 os (i ∷ rest) → Kinds 0 (closed os h).0 rest
kinds_closed i rest same [] h k = tt
kinds_closed i rest same (in_object o ∷ os) h k = kinds_out i rest same 0 os (kinds_rest (in_object o) os (i ∷ rest) k)
kinds_closed i rest same (in_body b ∷ os) h k = kinds_out i rest same 0 os (kinds_rest (in_body b) os (i ∷ rest) k)

not_open : (names : List (List ℕ)) (bodies : List Body) (things : List ToldThing) (b : ℕ) (es : List Frame) (os : List Open) → 0 < b → BodiesBelow b os → Stand names bodies things es os → IsOpen (b - 1) os → ⊥
not_open names bodies things b [] [] some low h o = o
not_open names bodies things b [] (p ∷ os) some low h o = h
not_open names bodies things b (e ∷ es) [] some low h o = h
not_open names bodies things b (e ∷ es) (in_object p ∷ os) some low h o = not_open names bodies things b es os some low h.1 o
not_open names bodies things b (e ∷ es) (in_body c ∷ os) some low h (inl o) = let lt : c < b = low.0 in let given : 0 < c = h.0.given in omega arith
not_open names bodies things b (e ∷ es) (in_body c ∷ os) some low h (inr o) = not_open names bodies things b es os some low.1 h.1 o

objects_below : (names : List (List ℕ)) (bodies : List Body) (things : List ToldThing) (es : List Frame) (os : List Open) → Stand names bodies things es os → ObjectsBelow (length things) os
objects_below names bodies things [] [] h = tt
objects_below names bodies things [] (o ∷ os) h = absurd h
objects_below names bodies things (e ∷ es) [] h = absurd h
objects_below names bodies things (e ∷ es) (in_object o ∷ os) h = (slice_get_within things o (plain h.0.slots) h.0.at, objects_below names bodies things es os h.1)
objects_below names bodies things (e ∷ es) (in_body b ∷ os) h = objects_below names bodies things es os h.1

bodies_below : (names : List (List ℕ)) (bodies : List Body) (things : List ToldThing) (es : List Frame) (os : List Open) → Stand names bodies things es os → BodiesBelow (length bodies + 1) os
bodies_below names bodies things [] [] h = tt
bodies_below names bodies things [] (o ∷ os) h = absurd h
bodies_below names bodies things (e ∷ es) [] h = absurd h
bodies_below names bodies things (e ∷ es) (in_object o ∷ os) h = bodies_below names bodies things es os h.1
bodies_below names bodies things (e ∷ es) (in_body b ∷ os) h =
    let lt : b - 1 < length bodies = slice_get_within bodies (b - 1) h.0.there h.0.at in
    let some : 0 < b = h.0.given in
    (omega arith, bodies_below names bodies things es os h.1)

-- Nodes, and what they add.

beside_bodies : (bytes : List ℕ) (n : TextNode) (s : Loading) → (beside bytes n s).bodies ≡ s.bodies
beside_bodies bytes (text.Integer z) s = refl
beside_bodies bytes (text.Text a b) s = refl
beside_bodies bytes text.Block s = refl
beside_bodies bytes text.Itself s = refl
beside_bodies bytes text.Nil s = refl
beside_bodies bytes (text.Message to w args) s = refl
beside_bodies bytes (text.Primitive w args implied handler) s = refl
beside_bodies bytes text.Drop s = refl
beside_bodies bytes text.Restart s = refl
beside_bodies bytes text.Return s = refl
beside_bodies bytes text.End s = refl

beside_waiting : (bytes : List ℕ) (n : TextNode) (s : Loading) → (beside bytes n s).waiting ≡ s.waiting
beside_waiting bytes (text.Integer z) s = refl
beside_waiting bytes (text.Text a b) s = refl
beside_waiting bytes text.Block s = refl
beside_waiting bytes text.Itself s = refl
beside_waiting bytes text.Nil s = refl
beside_waiting bytes (text.Message to w args) s = refl
beside_waiting bytes (text.Primitive w args implied handler) s = refl
beside_waiting bytes text.Drop s = refl
beside_waiting bytes text.Restart s = refl
beside_waiting bytes text.Return s = refl
beside_waiting bytes text.End s = refl

innermost_waiting : (o : Option Open) (n : Node) (p : Place) (s : Loading) → (at_innermost o n p s).waiting ≡ s.waiting
innermost_waiting None n p s = refl
innermost_waiting (Some (in_object o)) n p s = refl
innermost_waiting (Some (in_body b)) n p s = refl

innermost_same : (o : Option Open) (n : Node) (p : Place) (s : Loading) → Same s.bodies (at_innermost o n p s).bodies
innermost_same None n p s = same_refl s.bodies
innermost_same (Some (in_object o)) n p s = same_refl s.bodies
innermost_same (Some (in_body b)) n p s = changed_same (add_node n p) (λ x. (refl, refl)) s.bodies b

-- things, and perhaps a string more
record Beside (names : List (List ℕ)) (bodies : List Body) (ts us : List ToldThing) : Type 0 where
  kept : Kept ts us
  ok : AllThings names bodies ts → AllThings names bodies us

beside_none : (names : List (List ℕ)) (bodies : List Body) (ts : List ToldThing) → Beside names bodies ts ts
beside_none names bodies ts = record { kept = λ i x e. e; ok = λ h. h }

beside_string : (names : List (List ℕ)) (bodies : List Body) (ts : List ToldThing) (t : List ℕ) → Beside names bodies ts (ts ++ string t ∷ [])
beside_string names bodies ts t = record {
  kept = λ i x e. get_append ts (string t) i x e;
  ok = λ h i x e.
      elim (in_append ts (string t) i x e) [
        | inl a ↦ h i x a
        | inr same ↦
            let here : slice_get (ts ++ string t ∷ []) i ≡ Some (string t) = ap (λ k. slice_get (ts ++ string t ∷ []) k) same ∙ get_last ts (string t) in
            subst (ThingOk names bodies) (thing_same (string t) x (sym here ∙ e)) tt
      ];
}

beside_things : (names : List (List ℕ)) (bodies : List Body) (bytes : List ℕ) (n : TextNode) (s : Loading) → Beside names bodies s.things (beside bytes n s).things
beside_things names bodies bytes (text.Integer z) s = beside_none names bodies s.things
beside_things names bodies bytes (text.Text a b) s = beside_string names bodies s.things (unescaped (between bytes a b))
beside_things names bodies bytes text.Block s = beside_none names bodies s.things
beside_things names bodies bytes text.Itself s = beside_none names bodies s.things
beside_things names bodies bytes text.Nil s = beside_none names bodies s.things
beside_things names bodies bytes (text.Message to w args) s = beside_none names bodies s.things
beside_things names bodies bytes (text.Primitive w args implied handler) s = beside_none names bodies s.things
beside_things names bodies bytes text.Drop s = beside_none names bodies s.things
beside_things names bodies bytes text.Restart s = beside_none names bodies s.things
beside_things names bodies bytes text.Return s = beside_none names bodies s.things
beside_things names bodies bytes text.End s = beside_none names bodies s.things

-- A method's body gets its name.

record Named (s u : Loading) : Type 0 where
  same : Same s.bodies u.bodies
  things : u.things ≡ s.things
  waiting : u.waiting ≡ s.waiting
  held : u.held ≡ s.held

name_named : (h : Held) (n : ℕ) (f : SlotForm) (s : Loading) → Named s (name_body h n f s)
name_named nothing n f s = record { same = same_refl s.bodies; things = refl; waiting = refl; held = refl }
name_named (value v) n f s = record { same = same_refl s.bodies; things = refl; waiting = refl; held = refl }
name_named (body b) n form.Method s = record { same = changed_same (with_name n) (λ x. (refl, refl)) s.bodies b; things = refl; waiting = refl; held = refl }
name_named (body b) n form.Constant s = record { same = same_refl s.bodies; things = refl; waiting = refl; held = refl }
name_named (body b) n (form.Assignable a) s = record { same = same_refl s.bodies; things = refl; waiting = refl; held = refl }
name_named (body b) n (form.Bare a) s = record { same = same_refl s.bodies; things = refl; waiting = refl; held = refl }
name_named (body b) n form.Parent s = record { same = same_refl s.bodies; things = refl; waiting = refl; held = refl }

placed_waiting : (o : Option Open) (n : ℕ) (f : SlotForm) (s : Loading) → (placed_in o n f s).waiting ≡ s.waiting
placed_waiting None n f s = refl
placed_waiting (Some (in_object o)) n f s = same o (slots_for n f s.held) s
  where
    same : (o : ℕ) (xs : List ToldSlot) (s : Loading) → (add_slots o xs s).waiting ≡ s.waiting
    same o [] s = refl
    same o (x ∷ xs) s = same o xs (at_object o x s)
placed_waiting (Some (in_body b)) n f s = refl

-- A slot that ends.

-- the slots that an assignable one makes
record Pair (names : List (List ℕ)) (ns : List ℕ) (m setter : ℕ) : Type 0 where
  text : List ℕ
  named : text_of names m ≡ Some text
  colonless : colons text ≡ 0
  new : list_any (nat_eq m) ns ≡ false
  takes : Takes names setter 1
  set : text_of names setter ≡ Some (text ++ 58 ∷ [])

abbrev Plan : List (List ℕ) → List Body → List ℕ → ℕ → SlotForm → Held → Type 0
Plan names bodies ns m form.Constant h = Unit {0}
Plan names bodies ns m (form.Assignable setter) h = Pair names ns m setter
Plan names bodies ns m (form.Bare setter) h = Pair names ns m setter
Plan names bodies ns m form.Parent h = Unit {0}
Plan names bodies ns m form.Method h = ContentOk names bodies m (told.Method (body_number h))

record Put (names : List (List ℕ)) (bodies : List Body) (ns : List ℕ) (s u : Loading) (o : ℕ) : Type 0 where
  slots : List ToldSlot
  placed : Placed s u o slots
  ok : SlotsOk names bodies slots
  claims : Claims names ns slots

module _ (names : List (List ℕ)) (bodies : List Body) (w : Words) (ns : List ℕ) (m : ℕ) (claimed : Claimed names (added w ns) m) (s : Loading) (o : ℕ) (xs : List ToldSlot) (at : slice_get s.things o ≡ Some (plain xs))
    (ok : SlotsOk names bodies xs) (claims : Claims names ns xs) where
  put_one : (c : ToldContent) → ContentOk names bodies m c → (c ≡ told.Assignment → ⊥) → Put names bodies (added w ns) s (add_slots o (record { name = m; content = c } ∷ []) s) o
  put_one c fits no_set = record {
    slots = add_slot xs (record { name = m; content = c });
    placed = one_placed s o xs (record { name = m; content = c }) at;
    ok = add_one names bodies xs (record { name = m; content = c }) ok fits no_set;
    claims = claims_add names (added w ns) xs (record { name = m; content = c }) (claims_more names w ns xs claims) claimed;
  }

  setter_colon : (setter : ℕ) (text : List ℕ) → text_of names setter ≡ Some (text ++ 58 ∷ []) → HasColon names setter
  setter_colon setter text e = (text ++ 58 ∷ [], e, (let n : colons (text ++ 58 ∷ []) ≡ colons text + 1 = colons_append text (58 ∷ []) in omega arith))

  put_two : (c : ToldContent) (setter : ℕ) → ContentOk names bodies m c → (c ≡ told.Assignment → ⊥) → is_told_assignable c ≡ true → Pair names ns m setter →
      Put names bodies (added w ns) s (add_slots o (record { name = m; content = c } ∷ record { name = setter; content = told.Assignment } ∷ []) s) o
  put_two c setter fits no_set able p =
      let x : ToldSlot = record { name = m; content = c } in
      let y : ToldSlot = record { name = setter; content = told.Assignment } in
      record {
        slots = add_slot (add_slot xs x) y;
        placed = two_placed s o xs x y at;
        ok = add_two names bodies xs x y ok fits no_set (new_name names ns xs m p.text claims p.named p.colonless p.new) p.takes able (record { text = p.text; named = p.named; set = p.set });
        claims = claims_add names (added w ns) (add_slot xs x) y (claims_add names (added w ns) xs x (claims_more names w ns xs claims) claimed) (inr (setter_colon setter p.text p.set));
      }

  put_slots : (f : SlotForm) (h : Held) → Plan names bodies ns m f h → Put names bodies (added w ns) s (add_slots o (slots_for m f h) s) o
  put_slots form.Constant h plan = put_one (told.Constant (value_in h)) tt (λ e. cc)
  put_slots (form.Assignable setter) h plan = put_two (told.Assignable (value_in h)) setter tt (λ e. cc) refl plan
  put_slots (form.Bare setter) h plan = put_two (told.Assignable nil) setter tt (λ e. cc) refl plan
  put_slots form.Parent h plan = put_one (told.Parent (value_in h)) tt (λ e. cc)
  put_slots form.Method h plan = put_one (told.Method (body_number h)) plan (λ e. cc)

record Settled (names : List (List ℕ)) (bodies : List Body) (es : List Frame) (os : List Open) (u : Loading) : Type 0 where
  stand : Stand names u.bodies u.things es os
  things : AllThings names bodies u.things

placed_settled : (names : List (List ℕ)) (bodies : List Body) (w : Words) (m : ℕ) (f : SlotForm) (es : List Frame) (os : List Open) (s : Loading) →
    ((e : Frame) (more : List Frame) (o : ℕ) (out : List Open) → es ≡ e ∷ more → os ≡ in_object o ∷ out → Claimed names (added w e.names) m × Plan names bodies e.names m f s.held) → Stand names s.bodies s.things es os →
    AllThings names bodies s.things → Settled names bodies (slotted w es) os (placed_in (innermost os) m f s)
placed_settled names bodies w m f [] [] s plan h ok = record { stand = tt; things = ok }
placed_settled names bodies w m f [] (o ∷ os) s plan h ok = absurd h
placed_settled names bodies w m f (e ∷ es) [] s plan h ok = absurd h
placed_settled names bodies w m f (e ∷ es) (in_object o ∷ os) s plan h ok =
    let q = plan e es o os refl refl in
    let p = put_slots names bodies w e.names m q.0 s o h.0.slots h.0.at (ok o (plain h.0.slots) h.0.at) h.0.claims f s.held q.1 in
    let u : Loading = add_slots o (slots_for m f s.held) s in
    record {
      stand = (
        record { slots = p.slots; at = p.placed.at; claims = p.claims; below = h.0.below },
        stand_outer names s u o p.slots es os p.placed h.0.below h.1,
      );
      things = things_placed names bodies s u o p.slots p.placed p.ok ok;
    }
placed_settled names bodies w m f (e ∷ es) (in_body b ∷ os) s plan h ok =
    let u : Loading = placed_in (Some (in_body b)) m f s in
    let k = stand_kept names s.bodies u.bodies s.things s.things (e ∷ es) (in_body b ∷ os) (changed_same (add_local (local_for m f s.held)) (λ x. (refl, refl)) s.bodies b) (λ i x at. at) h in
    record {
      stand = (record { given = k.0.given; there = k.0.there; at = k.0.at; outer = k.0.outer; arguments = k.0.arguments; below = k.0.below }, k.1);
      things = ok;
    }

slot_names : (m : ℕ) (f : SlotForm) (s : Loading) → Extends s.names (with_slot m f s).names
slot_names m f s = subst (λ ns. Extends s.names ns) (sym (placed (innermost s.around) (name_body s.held m f s) ∙ given s.held)) (extends_same s.names)
  where
    add_same : (o : ℕ) (xs : List ToldSlot) (s : Loading) → (add_slots o xs s).names ≡ s.names
    add_same o [] s = refl
    add_same o (x ∷ xs) s = add_same o xs (at_object o x s)

    placed : (o : Option Open) (x : Loading) → (placed_in o m f x).names ≡ x.names
    placed None x = refl
    placed (Some (in_object o)) x = add_same o (slots_for m f x.held) x
    placed (Some (in_body b)) x = refl

    given : (h : Held) → (name_body h m f s).names ≡ s.names
    given nothing = refl
    given (value v) = refl
    given (body b) = by f
      where
        by : (f : SlotForm) → (name_body (body b) m f s).names ≡ s.names
        by form.Constant = refl
        by (form.Assignable a) = refl
        by (form.Bare a) = refl
        by form.Parent = refl
        by form.Method = refl

-- Up to the last item.
module _ (first names : List (List ℕ)) (bytes : List ℕ) (t : Loading) (end : Extends t.names names) where
  -- a body that was just closed
  record HeldBody (a : ℕ) (s : Loading) : Type 0 where
    number : ℕ
    is : s.held ≡ body number
    given : 0 < number
    there : Body
    at : slice_get s.bodies (number - 1) ≡ Some there
    arguments : length there.arguments ≡ a
    outer : there.outer ≡ body_in (innermost s.around)
    shut : IsOpen (number - 1) s.around → ⊥

  abbrev HeldOk : Option ℕ → Loading → Type 0
  HeldOk None s = Unit {0}
  HeldOk (Some a) s = HeldBody a s

  record Slotted (n : ℕ) (es : List Frame) (z : Option ℕ) (s : Loading) (rest : List Item) : Type 0 where
    stand : Stand names s.bodies s.things es s.around
    kinds : Kinds 0 s.around rest
    held : HeldOk z s
    waiting : length s.waiting ≡ n
    things : AllThings names t.bodies s.things
    known : Extends first s.names

  else_slotted : (n : ℕ) (es : List Frame) (z : Option ℕ) (s u : Loading) (i : Item) (rest : List Item) → ((k : ℕ) → is_object k (i ∷ rest) ≡ is_object k rest) → Same s.bodies u.bodies → Kept s.things u.things →
      AllThings names t.bodies u.things → u.around ≡ s.around → u.waiting ≡ s.waiting → Extends s.names u.names → Slotted n es z s (i ∷ rest) → Slotted n es None u rest
  else_slotted n es z s u i rest same bodies kept ok around waiting more h = record {
    stand = subst (λ os. Stand names u.bodies u.things es os) (sym around) (stand_kept names s.bodies u.bodies s.things u.things es s.around bodies kept h.stand);
    kinds = subst (λ os. Kinds 0 os rest) (sym around) (kinds_on i rest same 0 s.around h.kinds);
    held = tt;
    waiting = ap length waiting ∙ h.waiting;
    things = ok;
    known = extends_then first s.names u.names h.known more;
  }

  -- nothing but what is held changes
  held_slotted : (n : ℕ) (es : List Frame) (z : Option ℕ) (s : Loading) (v : Value) (i : Item) (rest : List Item) → ((k : ℕ) → is_object k (i ∷ rest) ≡ is_object k rest) → Slotted n es z s (i ∷ rest) → Slotted n es None (holding s v) rest
  held_slotted n es z s v i rest same h = record {
    stand = h.stand;
    kinds = kinds_on i rest same 0 s.around h.kinds;
    held = tt;
    waiting = h.waiting;
    things = h.things;
    known = h.known;
  }

  followed_slotted : (n : ℕ) (es : List Frame) (z : Option ℕ) (s u : Loading) (p : Spot) (o : Option Value) (i : Item) (rest : List Item) → ((k : ℕ) → is_object k (i ∷ rest) ≡ is_object k rest) → followed s p o ≡ Ok u →
      Slotted n es z s (i ∷ rest) → Slotted n es None u rest
  followed_slotted n es z s u p None i rest same e h = cc
  followed_slotted n es z s u p (Some v) i rest same e h = subst (λ x. Slotted n es None x rest) (ok_same (holding s v) u e) (held_slotted n es z s v i rest same h)

  node_slotted : (n : ℕ) (es : List Frame) (z : Option ℕ) (m : Made) (s : Loading) (rest : List Item) → Later s (with_node bytes m s) → Slotted n es z s (items.Node m ∷ rest) → Slotted n es None (with_node bytes m s) rest
  node_slotted n es z m s rest later h =
      let u : Loading = with_node bytes m s in
      let v : Loading = beside bytes m.node s in
      let more = beside_things names t.bodies bytes m.node s in
      let things : u.things ≡ v.things = same_innermost (innermost s.around) (node_of s m.node) (place m.spot) v in
      else_slotted n es z s u (items.Node m) rest (λ k. refl)
      (subst (λ xs. Same xs u.bodies) (beside_bodies bytes m.node s) (innermost_same (innermost s.around) (node_of s m.node) (place m.spot) v))
      (subst (λ ts. Kept s.things ts) (sym things) more.kept)
      (subst (λ ts. AllThings names t.bodies ts) (sym things) (more.ok h.things))
      (node_around bytes m s)
      (innermost_waiting (innermost s.around) (node_of s m.node) (place m.spot) v ∙ beside_waiting bytes m.node s)
      later.names h

  text_slotted : (n : ℕ) (es : List Frame) (z : Option ℕ) (a b : ℕ) (s : Loading) (rest : List Item) → Slotted n es z s (items.Text a b ∷ rest) → Slotted n es None (holding (with_string bytes a b s) (object (length s.things))) rest
  text_slotted n es z a b s rest h =
      let more = beside_string names t.bodies s.things (unescaped (between bytes a b)) in
      else_slotted n es z s (holding (with_string bytes a b s) (object (length s.things))) (items.Text a b) rest (λ k. refl) (same_refl s.bodies) more.kept (more.ok h.things) refl refl (extends_same s.names) h

  slots_none : SlotsOk names t.bodies []
  slots_none = record { each = λ i x e. cc; tied = tt; once = λ i x e. cc }

  opened_slotted : (n : ℕ) (y k : Bool) (es : List Frame) (z : Option ℕ) (s : Loading) (p : Spot) (rest : List Item) → is_object 0 rest ≡ k → Keeps first 0 (frame n n y [] ∷ es) None rest → Slotted n es z s (items.Opened p ∷ rest) →
      Slotted 0 (frame n n y [] ∷ es) None (opened k s) rest
  opened_slotted n y true es z s p rest on keeps h = record {
    stand = (
      record { slots = []; at = get_last s.things (plain []); claims = λ i x e. cc; below = objects_below names s.bodies s.things es s.around h.stand },
      stand_kept names s.bodies s.bodies s.things (s.things ++ plain [] ∷ []) es s.around (same_refl s.bodies) (λ i x e. get_append s.things (plain []) i x e) h.stand,
    );
    kinds = kinds_first (in_object (length s.things)) s.around rest on (kinds_in (items.Opened p) rest (λ k. refl) 0 s.around h.kinds);
    held = tt;
    waiting = h.waiting ∙ (bare first 0 (frame n n y [] ∷ es) None rest 0 keeps on).named;
    things = λ i x e.
        elim (in_append s.things (plain []) i x e) [
          | inl a ↦ h.things i x a
          | inr same ↦
              let here : slice_get (s.things ++ plain [] ∷ []) i ≡ Some (plain []) = ap (λ k. slice_get (s.things ++ plain [] ∷ []) k) same ∙ get_last s.things (plain []) in
              subst (ThingOk names t.bodies) (thing_same (plain []) x (sym here ∙ e)) slots_none
        ];
    known = h.known;
  }
  opened_slotted n y false es z s p rest on keeps h =
      let new : Body = record { name = None; outer = body_in (innermost s.around); arguments = s.waiting; locals = []; nodes = []; places = [] } in
      let up : length s.bodies + 1 - 1 ≡ length s.bodies = omega arith in
      record {
        stand = (
          record {
            given = omega arith;
            there = new;
            at = ap (λ i. slice_get (s.bodies ++ new ∷ []) i) up ∙ get_last s.bodies new;
            outer = refl;
            arguments = h.waiting;
            below = bodies_below names s.bodies s.things es s.around h.stand;
          },
          stand_kept names s.bodies (s.bodies ++ new ∷ []) s.things s.things es s.around (λ i x e. record { now = x; at = get_append s.bodies new i x e; outer = refl; arguments = refl }) (λ i x e. e) h.stand,
        );
        kinds = kinds_first (in_body (length s.bodies + 1)) s.around rest on (kinds_in (items.Opened p) rest (λ k. refl) 0 s.around h.kinds);
        held = tt;
        waiting = refl;
        things = h.things;
        known = h.known;
      }

  closed_object : (n : ℕ) (es : List Frame) (z : Option ℕ) (s : Loading) (rest : List Item) → Slotted n es z s (items.ClosedObject ∷ rest) → Slotted n (outer es) None (with_closed s) rest
  closed_object n es z s rest h = record {
    stand = stand_out names s.bodies s.things es s.around s.held h.stand;
    kinds = kinds_closed items.ClosedObject rest (λ k. out_object k rest) s.around s.held h.kinds;
    held = tt;
    waiting = h.waiting;
    things = h.things;
    known = h.known;
  }

  held_closed : (e : Frame) (es : List Frame) (os : List Open) (s : Loading) (rest : List Item) → s.around ≡ os → Stand names s.bodies s.things (e ∷ es) os → IsInner (e ∷ es) → Kinds 0 os (items.ClosedBody ∷ rest) →
      HeldBody e.arguments (with_closed s)
  held_closed e es [] s rest is h i k = absurd h
  held_closed e [] (in_object o ∷ os) s rest is h i k = absurd i
  held_closed e (d ∷ es) (in_object o ∷ []) s rest is h i k = absurd h.1
  held_closed e (d ∷ es) (in_object o ∷ p ∷ os) s rest is h i k = cc (k.0)
  held_closed e es (in_body b ∷ os) s rest is h i k =
      let now : (closed s.around s.held).0 ≡ os = ap (λ x. (closed x s.held).0) is in
      record {
        number = b;
        is = ap (λ x. (closed x s.held).1) is;
        given = h.0.given;
        there = h.0.there;
        at = h.0.at;
        arguments = h.0.arguments;
        outer = h.0.outer ∙ ap (λ x. body_in (innermost x)) (sym now);
        shut = subst (λ x. IsOpen (b - 1) x → ⊥) (sym now) (not_open names s.bodies s.things b es os h.0.given h.0.below h.1);
      }

  closed_body : (n : ℕ) (es : List Frame) (z : Option ℕ) (s : Loading) (rest : List Item) → IsInner es → Slotted n es z s (items.ClosedBody ∷ rest) → Slotted n (outer es) (given_by es) (with_closed s) rest
  closed_body n [] z s rest i h = absurd i
  closed_body n (e ∷ es) z s rest i h = record {
    stand = stand_out names s.bodies s.things (e ∷ es) s.around s.held h.stand;
    kinds = kinds_closed items.ClosedBody rest (λ k. out_body k rest) s.around s.held h.kinds;
    held = held_closed e es s.around s rest refl h.stand i h.kinds;
    waiting = h.waiting;
    things = h.things;
    known = h.known;
  }

  argument_slotted : (n k : ℕ) (es : List Frame) (z : Option ℕ) (s : Loading) (rest : List Item) → Later s (with_argument k s) → Slotted n es z s (items.Argument k ∷ rest) → Slotted n (argued es) None (with_argument k s) rest
  argument_slotted n k es z s rest later h =
      let v : Loading = argument_in (innermost s.around) k s in
      let things : v.things ≡ s.things = argument_things (innermost s.around) k s in
      let around : v.around ≡ s.around = argument_around (innermost s.around) k s in
      record {
        stand = subst (λ os. Stand names v.bodies v.things (argued es) os) (sym around) (subst (λ ts. Stand names v.bodies ts (argued es) s.around) (sym things) (argument_stand names k s es s.around h.stand));
        kinds = subst (λ os. Kinds 0 os rest) (sym around) (kinds_on (items.Argument k) rest (λ k. refl) 0 s.around h.kinds);
        held = tt;
        waiting = ap length (argument_waiting (innermost s.around) k s) ∙ h.waiting;
        things = subst (AllThings names t.bodies) (sym things) h.things;
        known = extends_then first s.names v.names h.known later.names;
      }

  -- A slot that ends.

  module _ (s : Loading) (known : Extends first s.names) (w : Words) (wide : Extends (with_words s.names w) names) where
    all : Extends first names
    all = extends_then first (with_words s.names w) names (extends_then first s.names (with_words s.names w) known (extends_words s.names w)) wide

    several : 0 < colons (joined first (parts_in w)) → AllGiven first (parts_in w) → HasColon names (word_number s.names w)
    several c g = (joined s.names (parts_in w), word_text s.names names w wide, subst (λ x. 0 < colons x) (sym (joined_kept first s.names (parts_in w) known g)) c)

  own_claim : (s : Loading) (known : Extends first s.names) (w : Words) → Extends (with_words s.names w) names → (ns : List ℕ) → IsNamed first w → Claimed names (added w ns) (word_number s.names w)
  own_claim s known (words.One k) wide ns h = inl (first_in (word_number s.names (words.One k)) k ns (own_number first s.names k h.whole.0 known h.whole.1))
    where
      first_in : (m k : ℕ) (ns : List ℕ) → m ≡ k → (nat_eq m k || list_any (nat_eq m) ns) ≡ true
      first_in m k ns e = grind (arith, common_steps)
  own_claim s known (words.Two a b) wide ns h = inr (several s known (words.Two a b) wide h.whole h.given)
  own_claim s known (words.Three a b c) wide ns h = inr (several s known (words.Three a b c) wide h.whole h.given)
  own_claim s known (words.Four a b c d) wide ns h = inr (several s known (words.Four a b c d) wide h.whole h.given)
  own_claim s known (words.Five a b c d e) wide ns h = inr (several s known (words.Five a b c d e) wide h.whole h.given)

  own_pair : (s : Loading) (known : Extends first s.names) (w : Words) → Extends (with_words s.names w) names → (e : Frame) (es : List Frame) (setter : ℕ) → Sets first (e ∷ es) w setter →
      Pair names e.names (word_number s.names w) setter
  own_pair s known (words.One k) wide e es setter h =
      let p = h.0 in
      let same : word_number s.names (words.One k) ≡ k = own_number first s.names k p.text known p.spelt in
      let far = all s known (words.One k) wide in
      let put = text_kept first names setter (p.text ++ 58 ∷ []) far p.set in
      let one : colons (p.text ++ 58 ∷ []) ≡ colons p.text + 1 = colons_append p.text (58 ∷ []) in
      let none : colons p.text ≡ 0 = p.colonless in
      record {
        text = p.text;
        named = ap (λ n. text_of names n) same ∙ text_kept first names k p.text far p.spelt.given;
        colonless = p.colonless;
        new = ap (λ n. list_any (nat_eq n) e.names) same ∙ h.1;
        takes = record { text = p.text ++ 58 ∷ []; given = put; arguments = arity_lettered (p.text ++ 58 ∷ []) (lettered_more p.text (58 ∷ []) p.lettered) ∙ (omega arith) };
        set = put;
      }
  own_pair s known (words.Two a b) wide e es setter h = absurd h
  own_pair s known (words.Three a b c) wide e es setter h = absurd h
  own_pair s known (words.Four a b c d) wide e es setter h = absurd h
  own_pair s known (words.Five a b c d f) wide e es setter h = absurd h

  method_ok : (s : Loading) (known : Extends first s.names) (w : Words) → Extends (with_words s.names w) names → Later s t → (o : ℕ) (out : List Open) → s.around ≡ in_object o ∷ out → IsNamed first w →
      (a : ℕ) → HeldBody a s → a ≡ arity (joined first (parts_in w)) → ContentOk names t.bodies (word_number s.names w) (told.Method (body_number s.held))
  method_ok s known w wide later o out is h a held e =
      let y = later.bodies (held.number - 1) held.there held.at in
      let number : body_number s.held ≡ held.number = ap body_number held.is in
      let some : 0 < held.number = held.given in
      let within : held.number - 1 < length t.bodies = slice_get_within t.bodies (held.number - 1) y.now y.at in
      let here : source.body_in t.bodies held.number ≡ y.now = body_found t.bodies held.number y.now y.at in
      let arguments : length (source.body_in t.bodies held.number).arguments ≡ a = ap (λ (z : Body). length z.arguments) here ∙ y.grown.shut held.shut ∙ held.arguments in
      let none : (source.body_in t.bodies held.number).outer ≡ None = ap (λ (z : Body). z.outer) here ∙ y.grown.outer ∙ held.outer ∙ ap (λ os. body_in (innermost os)) is in
      subst (λ b. ContentOk names t.bodies (word_number s.names w) (told.Method b)) (sym number)
      ((some, omega arith), word_takes first s.names names w (length (source.body_in t.bodies held.number).arguments) known wide h.given (sym e ∙ sym arguments), none)

  own_plan : (s : Loading) (known : Extends first s.names) (w : Words) → Extends (with_words s.names w) names → Later s t → (z : Option ℕ) → HeldOk z s → (f : SlotForm) (e : Frame) (es : List Frame) → SlotFits first (e ∷ es) z w f →
      (o : ℕ) (out : List Open) → s.around ≡ in_object o ∷ out → Claimed names (added w e.names) (word_number s.names w) × Plan names t.bodies e.names (word_number s.names w) f s.held
  own_plan s known w wide later z held form.Constant e es fits o out is = (own_claim s known w wide e.names fits, tt)
  own_plan s known w wide later z held (form.Assignable setter) e es fits o out is = (own_claim s known w wide e.names fits.0, own_pair s known w wide e es setter fits.1)
  own_plan s known w wide later z held (form.Bare setter) e es fits o out is = (own_claim s known w wide e.names fits.0, own_pair s known w wide e es setter fits.1)
  own_plan s known w wide later z held form.Parent e es fits o out is = (own_claim s known w wide e.names fits, tt)
  own_plan s known w wide later None held form.Method e es fits o out is = cc (fits.1)
  own_plan s known w wide later (Some a) held form.Method e es fits o out is =
      (own_claim s known w wide e.names fits.0, method_ok s known w wide later o out is fits.0 a held (some_number a (arity (joined first (parts_in w))) fits.1))
    where
      some_number : (a b : ℕ) → ◌≡◌ {A = Option ℕ} (Some a) (Some b) → a ≡ b
      some_number a b e = cc

  slot_slotted : (n : ℕ) (es : List Frame) (z : Option ℕ) (w : Words) (f : SlotForm) (p : Spot) (s : Loading) (rest : List Item) → SlotFits first es z w f →
      Later s t → Later s (with_slot (word_number s.names w) f (record s { names = with_words s.names w })) → Extends (with_words s.names w) names → Slotted n es z s (items.Slot w f p ∷ rest) →
      Slotted n (slotted w es) None (with_slot (word_number s.names w) f (record s { names = with_words s.names w })) rest
  slot_slotted n es z w f p s rest fits later step wide h =
      let m : ℕ = word_number s.names w in
      let v : Loading = record s { names = with_words s.names w } in
      let x : Loading = name_body s.held m f v in
      let u : Loading = placed_in (innermost s.around) m f x in
      let named = name_named s.held m f v in
      let around : u.around ≡ s.around = placed_around (innermost s.around) m f x ∙ name_around s.held m f v in
      let stand : Stand names x.bodies x.things es s.around =
      stand_kept names s.bodies x.bodies s.things x.things es s.around named.same (subst (λ ts. Kept s.things ts) (sym named.things) (λ i y e. e)) h.stand in
      let r = placed_settled names t.bodies w m f es s.around x
      (λ e more o out first_is around_is. subst (λ k. Claimed names (added w e.names) m × Plan names t.bodies e.names m f k) (sym named.held) (own_plan s h.known w wide later z h.held f e more (subst (λ fs. SlotFits first fs z w f) first_is fits) o out around_is))
      stand (subst (AllThings names t.bodies) (sym named.things) h.things) in
      record {
        stand = subst (λ os. Stand names u.bodies u.things (slotted w es) os) (sym around) r.stand;
        kinds = subst (λ os. Kinds 0 os rest) (sym around) (kinds_on (items.Slot w f p) rest (λ k. refl) 0 s.around h.kinds);
        held = tt;
        waiting = ap length (placed_waiting (innermost s.around) m f x ∙ named.waiting) ∙ h.waiting;
        things = r.things;
        known = extends_then first s.names _ h.known step.names;
      }

  runs : (is : List Item) (n : ℕ) (es : List Frame) (z : Option ℕ) (s : Loading) → Keeps first n es z is → Slotted n es z s is → Nodes.loaded bytes is s ≡ Ok t → AllThings names t.bodies t.things
  unfolding Nodes.loaded
  runs [] n es z s k h e = subst (λ (x : Loading). AllThings names t.bodies x.things) (ok_same s t e) h.things
  runs (items.Node m ∷ is) n es z s k h e = runs is n es None (with_node bytes m s) k.1 (node_slotted n es z m s is (step_later bytes (items.Node m) is s (with_node bytes m s) refl) h) e
  runs (items.Opened p ∷ is) n es z s k h e =
      runs is 0 (frame n n k.1.0 [] ∷ es) None (opened (is_object 0 is) s) k.1.1 (opened_slotted n k.1.0 (is_object 0 is) es z s p is refl k.1.1 h) e
  runs (items.ClosedObject ∷ is) n es z s k h e = runs is n (outer es) None (with_closed s) k.1 (closed_object n es z s is h) e
  runs (items.ClosedBody ∷ is) n es z s k h e = runs is n (outer es) (given_by es) (with_closed s) k.1 (closed_body n es z s is k.0 h) e
  runs (items.Integer j ∷ is) n es z s k h e = runs is n es None (holding s (integer j)) k (held_slotted n es z s (integer j) (items.Integer j) is (λ k. refl) h) e
  runs (items.Text a b ∷ is) n es z s k h e = runs is n es None (holding (with_string bytes a b s) (object (length s.things))) k (text_slotted n es z a b s is h) e
  runs (items.Root x p ∷ is) n es z s k h e =
      let a = ok_bound (followed s p (root s x)) (λ u. Nodes.loaded bytes is u) t e in
      runs is n es None a.0 k (followed_slotted n es z s a.0 p (root s x) (items.Root x p) is (λ k. refl) a.1 h) a.2
  runs (items.Further x p ∷ is) n es z s k h e =
      let a = ok_bound (followed s p (further s s.held x)) (λ u. Nodes.loaded bytes is u) t e in
      runs is n es None a.0 k (followed_slotted n es z s a.0 p (further s s.held x) (items.Further x p) is (λ k. refl) a.1 h) a.2
  runs (items.Argument x ∷ is) n es z s k h e =
      runs is n (argued es) None (with_argument x s) k (argument_slotted n x es z s is (step_later bytes (items.Argument x) is s (with_argument x s) refl) h) e
  runs (items.Named x ∷ is) n es z s k h e =
      runs is (n + 1) es None (with_waiting x s) k
      (record {
        stand = h.stand;
        kinds = kinds_on (items.Named x) is (λ k. refl) 0 s.around h.kinds;
        held = tt;
        waiting = length-append s.waiting (x ∷ []) ∙ ap (λ k. k + 1) h.waiting;
        things = h.things;
        known = h.known;
      }) e
  runs (items.Slot w f p ∷ is) n es z s k h e =
      let v : Loading = record s { names = with_words s.names w } in
      let u : Loading = with_slot (word_number s.names w) f v in
      let a = ok_bound (take_item bytes (items.Slot w f p) is s) (λ u. Nodes.loaded bytes is u) t e in
      let same : u ≡ a.0 = ended_is u a.0 p (is_parent f && not (may_be_parent s s.held)) a.1 in
      let at : take_item bytes (items.Slot w f p) is s ≡ Ok u = a.1 ∙ ap Ok (sym same) in
      let on : Nodes.loaded bytes is u ≡ Ok t = subst (λ x. Nodes.loaded bytes is x ≡ Ok t) (sym same) a.2 in
      let step = step_later bytes (items.Slot w f p) is s u at in
      let rest = loaded_later bytes is u t on in
      let wide : Extends (with_words s.names w) names = extends_then (with_words s.names w) t.names names (extends_then (with_words s.names w) u.names t.names (slot_names (word_number s.names w) f v) rest.names) end in
      runs is n (slotted w es) None u k.1 (slot_slotted n es z w f p s is k.0 (later_then s u t step rest) step wide h) on

-- The slots of all objects that right items build.
pub slots_fit : (first names : List (List ℕ)) (bytes : List ℕ) (is : List Item) (t : Loading) → Extends t.names names → Keeps first 0 (frame 0 0 false [] ∷ []) None is → Nodes.loaded bytes is (begun first) ≡ Ok t →
    AllThings names t.bodies t.things
slots_fit first names bytes is t end k e =
    runs first names bytes t end is 0 (frame 0 0 false [] ∷ []) None (begun first) k
    (record {
      stand = (record { slots = []; at = refl; claims = λ i x e. cc; below = tt }, tt);
      kinds = tt;
      held = tt;
      waiting = refl;
      things = lobby;
      known = extends_world first;
    }) e
  where
    lobby : (i : ℕ) (x : ToldThing) → slice_get (plain [] ∷ []) i ≡ Some x → ThingOk names t.bodies x
    lobby zero x e = subst (ThingOk names t.bodies) (thing_same (plain []) x e) (record { each = λ i x e. cc; tied = tt; once = λ i x e. cc })
    lobby (suc i) x e = cc
