-- What was read of a text holds integers of 30 bits and objects that are there.
use Rattle.std.specs.Prelude.{◌≡◌, ℕ, zero, suc, ◌<◌, ◌≤◌, Bool, true, false, not, ◌&&◌, nat_eq, Option, None, Some, Result, Ok, Err, List, [], ◌∷◌, ◌++◌, length, slice_get, slice_set, refl, if◌then◌else◌}
use Rattle.std.specs.List.{list_any}
use Rattle.std.proofs.Common.{sym, subst, inl, inr, ◌∙◌, arith, length-append}
use Rattle.std.proofs.lemmas.Bool.{cases_Bool}
use Rattle.self_terms.specs.declared.nodes.Node.{Node}
use Rattle.self_terms.specs.declared.nodes.Place.{Place}
use Rattle.self_terms.specs.declared.values.Datum.{Datum}
use Rattle.self_terms.specs.declared.values.Datum.TheVariants.{Integer as integer, Object as object, Nil as nil}
use Rattle.self_terms.specs.Words.{IsSmall}
use Rattle.self_grammar.specs.declared.signs.Spot.{Spot}
use Rattle.self_grammar.specs.declared.pieces.Made.{Made}
use Rattle.self_grammar.specs.declared.pieces.TextNode.{TextNode}
use Rattle.self_grammar.specs.declared.pieces.TextNode.TheVariants as text
use Rattle.self_grammar.specs.declared.pieces.SlotForm.{SlotForm}
use Rattle.self_grammar.specs.declared.pieces.SlotForm.TheVariants as form
use Rattle.self_grammar.specs.declared.pieces.Words.{Words}
use Rattle.self_grammar.specs.declared.pieces.Item.{Item}
use Rattle.self_grammar.specs.declared.pieces.Item.TheVariants as items
use Rattle.world_build.specs.declared.values.Open.{Open}
use Rattle.world_build.specs.declared.values.Open.TheVariants.{InObject as in_object, InBody as in_body}
use Rattle.world_build.specs.declared.values.Held.{Held}
use Rattle.world_build.specs.declared.values.Held.TheVariants.{Nothing as nothing, Data as value, Code as body}
use Rattle.world_build.specs.declared.slots.ToldContent.{ToldContent}
use Rattle.world_build.specs.declared.slots.ToldContent.TheVariants as told
use Rattle.world_build.specs.declared.slots.ToldSlot.{ToldSlot}
use Rattle.world_build.specs.declared.things.ToldThing.{ToldThing}
use Rattle.world_build.specs.declared.things.ToldThing.TheVariants.{Plain as plain, Text as string}
use Rattle.world_build.specs.declared.refusals.BuildRefusal.{BuildRefusal}
use Rattle.world_build.specs.declared.loading.Loading.{Loading}
use Rattle.source_model.specs.Names.{number_of}
use Rattle.world_build.specs.Names.{lobby_text, with_words, word_number}
use Rattle.world_build.specs.Slots.{is_named, slot_of, add_slot, data_in}
use Rattle.world_build.specs.Things.{own_data, change_thing}
use Rattle.world_build.specs.Loading.{begun, place, root, object_in, data_of, data_at, further, followed, is_object, innermost, opened, closed, at_object, add_slots, value_in, slots_for, placed_in, name_body, with_slot, slot_ended, is_parent, may_be_parent, argument_in}
use Rattle.world_build.specs.Nodes.{beside, at_innermost, node_of, with_node, take_item}
use Rattle.world_build.specs.Wholeness.{IsDatum}

either : {A : Type 0} (P : A → Type 0) (b : Bool) (x y : A) → P x → P y → P (if b then x else y)
either P true x y p q = p
either P false x y p q = q

module _ (n : ℕ) where
  -- a value is an integer of 30 bits, or one of so many objects
  abbrev pub There : Datum → Type 0
  There (integer z) = IsSmall z
  There (object o) = o < n
  There nil = Unit {0}

  abbrev pub DataThere : Option Datum → Type 0
  DataThere None = Unit {0}
  DataThere (Some v) = There v

  abbrev pub ContentThere : ToldContent → Type 0
  ContentThere (told.Constant v) = There v
  ContentThere (told.Assignable v) = There v
  ContentThere told.Assignment = Unit {0}
  ContentThere (told.Parent v) = There v
  ContentThere (told.Method b) = Unit {0}

  abbrev pub SlotThere : ToldSlot → Type 0
  SlotThere s = ContentThere s.content

  abbrev pub SlotsThere : List ToldSlot → Type 0
  SlotsThere [] = Unit {0}
  SlotsThere (s ∷ ss) = SlotThere s × SlotsThere ss

  abbrev pub ThingThere : ToldThing → Type 0
  ThingThere (plain slots) = SlotsThere slots
  ThingThere (string t) = Unit {0}

  abbrev pub ThingsThere : List ToldThing → Type 0
  ThingsThere [] = Unit {0}
  ThingsThere (x ∷ xs) = ThingThere x × ThingsThere xs

  abbrev pub HeldThere : Held → Type 0
  HeldThere nothing = Unit {0}
  HeldThere (value v) = There v
  HeldThere (body b) = Unit {0}

  abbrev pub OpenThere : List Open → Type 0
  OpenThere [] = Unit {0}
  OpenThere (in_object o ∷ outer) = (o < n) × OpenThere outer
  OpenThere (in_body b ∷ outer) = OpenThere outer

  pub record AllThere (s : Loading) : Type 0 where
    pub things : ThingsThere s.things
    pub held : HeldThere s.held
    pub around : OpenThere s.around

  -- Slots.
  content_data : (c : ToldContent) → ContentThere c → DataThere (data_in (Some c))
  content_data (told.Constant v) h = h
  content_data (told.Assignable v) h = h
  content_data told.Assignment h = tt
  content_data (told.Parent v) h = h
  content_data (told.Method b) h = tt

  slots_append : (slots : List ToldSlot) (x : ToldSlot) → SlotsThere slots → SlotThere x → SlotsThere (slots ++ x ∷ [])
  slots_append [] x h d = (d, tt)
  slots_append (y ∷ slots) x h d = (h.0, slots_append slots x h.1 d)

  slots_added : (slots : List ToldSlot) (x : ToldSlot) → SlotsThere slots → SlotThere x → SlotsThere (add_slot slots x)
  slots_added slots x h d = either SlotsThere (list_any (is_named x.name) slots) slots (slots ++ x ∷ []) h (slots_append slots x h d)

  slot_data : (k : ℕ) (slots : List ToldSlot) → SlotsThere slots → DataThere (data_in (slot_of k slots))
  slot_data k [] h = tt
  slot_data k (s ∷ slots) h = elim (cases_Bool (is_named k s)) [
    | inl e ↦ rw e (content_data s.content h.0)
    | inr e ↦ rw e (slot_data k slots h.1)
  ]

  -- Objects.
  pub things_append : (xs ys : List ToldThing) → ThingsThere xs → ThingsThere ys → ThingsThere (xs ++ ys)
  things_append [] ys h k = k
  things_append (x ∷ xs) ys h k = (h.0, things_append xs ys h.1 k)

  thing_at : (things : List ToldThing) (o : ℕ) (x : ToldThing) → ThingsThere things → slice_get things o ≡ Some x → ThingThere x
  thing_at [] o x h e = cc
  thing_at (y ∷ things) zero x h e = let same : y ≡ x = cc in subst ThingThere same h.0
  thing_at (y ∷ things) (suc o) x h e = thing_at things o x h.1 e

  things_set : (things : List ToldThing) (o : ℕ) (x : ToldThing) → ThingsThere things → ThingThere x → ThingsThere (slice_set things o x)
  things_set [] o x h k = tt
  things_set (y ∷ things) zero x h k = (k, h.1)
  things_set (y ∷ things) (suc o) x h k = (h.0, things_set things o x h.1 k)

  things_changed : (x : ToldSlot) (y : Option ToldThing) (things : List ToldThing) (o : ℕ) → slice_get things o ≡ y → ThingsThere things → SlotThere x → ThingsThere (change_thing x y things o)
  things_changed x None things o e h d = h
  things_changed x (Some (plain slots)) things o e h d = things_set things o (plain (add_slot slots x)) h (slots_added slots x (thing_at things o (plain slots) h e) d)
  things_changed x (Some (string t)) things o e h d = h

  -- Paths.
  own_there : (y : Option ToldThing) (things : List ToldThing) (o k : ℕ) → slice_get things o ≡ y → ThingsThere things → DataThere (own_data y k)
  own_there None things o k e h = tt
  own_there (Some (plain slots)) things o k e h = slot_data k slots (thing_at things o (plain slots) h e)
  own_there (Some (string t)) things o k e h = tt

  data_there : (s : Loading) (o k : ℕ) → AllThere s → DataThere (data_of s o k)
  data_there s o k h = own_there (slice_get s.things o) s.things o k refl h.things

  root_there : (s : Loading) (k : ℕ) → 0 < n → AllThere s → DataThere (root s k)
  root_there s k lt h = either DataThere (nat_eq k (number_of s.names lobby_text)) (Some (object 0)) (data_of s 0 k) lt (data_there s 0 k h)

  at_there : (s : Loading) (o : Option ℕ) (k : ℕ) → AllThere s → DataThere (data_at s o k)
  at_there s None k h = tt
  at_there s (Some o) k h = data_there s o k h

  further_there : (s : Loading) (held : Held) (k : ℕ) → AllThere s → DataThere (further s held k)
  further_there s nothing k h = tt
  further_there s (value v) k h = at_there s (object_in s v) k h
  further_there s (body b) k h = tt

  -- Slots that end.
  slots_there : (o : ℕ) (xs : List ToldSlot) (s : Loading) → ThingsThere s.things → SlotsThere xs → ThingsThere (add_slots o xs s).things
  slots_there o [] s h d = h
  slots_there o (x ∷ xs) s h d = slots_there o xs (at_object o x s) (things_changed x (slice_get s.things o) s.things o refl h d.0) d.1

  pub value_there : (h : Held) → HeldThere h → There (value_in h)
  value_there nothing k = tt
  value_there (value v) k = k
  value_there (body b) k = tt

  filled_there : (k : ℕ) (f : SlotForm) (h : Held) → HeldThere h → SlotsThere (slots_for k f h)
  filled_there k form.Constant h held = (value_there h held, tt)
  filled_there k (form.Assignable x) h held = (value_there h held, (tt, tt))
  filled_there k (form.Bare x) h held = (tt, (tt, tt))
  filled_there k form.Parent h held = (value_there h held, tt)
  filled_there k form.Method h held = (tt, tt)

  placed_there : (o : Option Open) (k : ℕ) (f : SlotForm) (s : Loading) → AllThere s → ThingsThere (placed_in o k f s).things
  placed_there None k f s h = h.things
  placed_there (Some (in_object o)) k f s h = slots_there o (slots_for k f s.held) s h.things (filled_there k f s.held h.held)
  placed_there (Some (in_body b)) k f s h = h.things

  placed_around : (o : Option Open) (k : ℕ) (f : SlotForm) (s : Loading) → (placed_in o k f s).around ≡ s.around
  placed_around None k f s = refl
  placed_around (Some (in_object o)) k f s = added (slots_for k f s.held) s
    where
      added : (xs : List ToldSlot) (s : Loading) → (add_slots o xs s).around ≡ s.around
      added [] s = refl
      added (x ∷ xs) s = added xs (at_object o x s)
  placed_around (Some (in_body b)) k f s = refl

  pub named_there : (x : Held) (k : ℕ) (f : SlotForm) (s : Loading) → AllThere s → AllThere (name_body x k f s) × ((name_body x k f s).around ≡ s.around) × ((name_body x k f s).held ≡ s.held)
  named_there nothing k f s h = (h, refl, refl)
  named_there (value v) k f s h = (h, refl, refl)
  named_there (body b) k form.Method s h = (record { things = h.things; held = h.held; around = h.around }, refl, refl)
  named_there (body b) k form.Constant s h = (h, refl, refl)
  named_there (body b) k (form.Assignable setter) s h = (h, refl, refl)
  named_there (body b) k (form.Bare setter) s h = (h, refl, refl)
  named_there (body b) k form.Parent s h = (h, refl, refl)

  slot_there : (k : ℕ) (f : SlotForm) (s : Loading) → AllThere s → AllThere (with_slot k f s)
  slot_there k f s h =
      let m = named_there s.held k f s h in
      record {
        things = placed_there (innermost s.around) k f (name_body s.held k f s) m.0;
        held = tt;
        around = subst OpenThere (sym (placed_around (innermost s.around) k f (name_body s.held k f s) ∙ m.1)) h.around;
      }

  -- Nodes.
  beside_there : (bytes : List ℕ) (x : TextNode) (s : Loading) → AllThere s → AllThere (beside bytes x s)
  beside_there bytes (text.Integer z) s h = h
  beside_there bytes (text.Text i j) s h = record { things = things_append s.things _ h.things (tt, tt); held = h.held; around = h.around }
  beside_there bytes text.Block s h = h
  beside_there bytes text.Itself s h = h
  beside_there bytes text.Nil s h = h
  beside_there bytes (text.Message to w args) s h = record { things = h.things; held = h.held; around = h.around }
  beside_there bytes (text.Primitive w args receiver handler) s h = record { things = h.things; held = h.held; around = h.around }
  beside_there bytes text.Drop s h = h
  beside_there bytes text.Restart s h = h
  beside_there bytes text.Return s h = h
  beside_there bytes text.End s h = h

  innermost_there : (o : Option Open) (x : Node) (p : Place) (s : Loading) → AllThere s → AllThere (at_innermost o x p s)
  innermost_there None x p s h = h
  innermost_there (Some (in_object o)) x p s h = h
  innermost_there (Some (in_body b)) x p s h = record { things = h.things; held = h.held; around = h.around }

  node_there : (bytes : List ℕ) (m : Made) (s : Loading) → AllThere s → AllThere (with_node bytes m s)
  node_there bytes m s h =
      let k = innermost_there (innermost s.around) (node_of s m.node) (place m.spot) (beside bytes m.node s) (beside_there bytes m.node s h) in
      record { things = k.things; held = k.held; around = k.around }

  -- Items: what was loaded holds what is there, where nothing is refused, and no more than n objects are there.
  Stays : Result Loading BuildRefusal → Type 0
  Stays (Ok t) = length t.things ≤ n → AllThere t
  Stays (Err e) = Unit {0}

  followed_there : (p : Spot) (v : Option Datum) (s : Loading) → AllThere s → DataThere v → Stays (followed s p v)
  unfolding Stays
  followed_there p None s h d = tt
  followed_there p (Some v) s h d = λ few. record { things = h.things; held = d; around = h.around }

  ended_there : (w : Words) (f : SlotForm) (p : Spot) (s : Loading) → AllThere s → Stays (slot_ended w f p s)
  unfolding Stays
  ended_there w f p s h = elim (cases_Bool (is_parent f && not (may_be_parent s s.held))) [
    | inl e ↦ rw e tt
    | inr e ↦ rw e (λ few. slot_there (word_number s.names w) f (record s { names = with_words s.names w }) (record { things = h.things; held = h.held; around = h.around }))
  ]

  opened_there : (k : Bool) (s : Loading) → AllThere s → length (opened k s).things ≤ n → AllThere (opened k s)
  opened_there true s h few = record {
    things = things_append s.things (plain [] ∷ []) h.things (tt, tt);
    held = h.held;
    around = (omega (arith, few, length-append s.things (plain [] ∷ [])), h.around);
  }
  opened_there false s h few = record { things = h.things; held = h.held; around = h.around }

  closed_held : (around : List Open) (h : Held) → OpenThere around → HeldThere h → HeldThere (closed around h).1 × OpenThere (closed around h).0
  closed_held [] h o k = (k, tt)
  closed_held (in_object x ∷ outer) h o k = (o.0, o.1)
  closed_held (in_body b ∷ outer) h o k = (tt, o)

  argument_there : (o : Option Open) (k : ℕ) (s : Loading) → AllThere s → AllThere (argument_in o k s)
  argument_there None k s h = h
  argument_there (Some (in_object o)) k s h = h
  argument_there (Some (in_body b)) k s h = record { things = h.things; held = h.held; around = h.around }

  item_there : (bytes : List ℕ) (i : Item) (rest : List Item) (s : Loading) → 0 < n → AllThere s → IsDatum IsSmall i → Stays (take_item bytes i rest s)
  unfolding Stays
  item_there bytes (items.Node m) rest s some h d = λ few. node_there bytes m s h
  item_there bytes (items.Opened p) rest s some h d = λ few. opened_there (is_object 0 rest) s h few
  item_there bytes items.ClosedObject rest s some h d = λ few. let c = closed_held s.around s.held h.around h.held in record { things = h.things; held = c.0; around = c.1 }
  item_there bytes items.ClosedBody rest s some h d = λ few. let c = closed_held s.around s.held h.around h.held in record { things = h.things; held = c.0; around = c.1 }
  item_there bytes (items.Integer z) rest s some h d = λ few. record { things = h.things; held = d; around = h.around }
  item_there bytes (items.Text i j) rest s some h d = λ few. record {
    things = things_append s.things _ h.things (tt, tt);
    held = omega (arith, few, length-append s.things);
    around = h.around;
  }
  item_there bytes (items.Root k p) rest s some h d = followed_there p (root s k) s h (root_there s k some h)
  item_there bytes (items.Further k p) rest s some h d = followed_there p (further s s.held k) s h (further_there s s.held k h)
  item_there bytes (items.Argument k) rest s some h d = λ few. let a = argument_there (innermost s.around) k s h in record { things = a.things; held = a.held; around = a.around }
  item_there bytes (items.Named k) rest s some h d = λ few. record { things = h.things; held = h.held; around = h.around }
  item_there bytes (items.Slot w f p) rest s some h d = ended_there w f p s h

  pub taken_there : (bytes : List ℕ) (i : Item) (rest : List Item) (s t : Loading) → 0 < n → AllThere s → IsDatum IsSmall i
      → take_item bytes i rest s ≡ Ok t → length t.things ≤ n → AllThere t
  unfolding Stays
  taken_there bytes i rest s t some h d e = rw e at (item_there bytes i rest s some h d)

-- a text begins with the lobby
pub begun_there : (n : ℕ) (names : List (List ℕ)) → 0 < n → AllThere n (begun names)
begun_there n names some = record { things = (tt, tt); held = tt; around = (some, tt) }
