-- What the items of a text build holds what is there, has names and bytes.
use Rattle.std.specs.Prelude.{◌≡◌, ◌≢◌, ℕ, zero, suc, ◌+◌, ◌-◌, ◌<◌, ◌≤◌, ◌==◌, nat_le, Bool, true, false, not, ◌&&◌, nat_eq, Option, None, Some, Result, Ok, Err, List, [], ◌∷◌, ◌++◌, length, take, drop, slice_get, slice_set, refl, if◌then◌else◌}
use Rattle.std.specs.List.{list_any}
use Rattle.std.proofs.Common.{sym, subst, inl, inr, ap, ◌∙◌, arith, length-append}
use Rattle.std.proofs.lemmas.Bool.{cases_Bool, false≢true}
use Rattle.self_terms.specs.declared.nodes.Node.{Node}
use Rattle.self_terms.specs.declared.nodes.Place.{Place}
use Rattle.self_terms.specs.declared.values.Datum.{Datum}
use Rattle.self_terms.specs.declared.values.Datum.TheVariants.{Integer as integer, Object as object, Nil as nil}
use Rattle.self_terms.specs.Words.{IsSmall}
use Rattle.self_tokens.specs.Texts.{escaped_byte, unescaped_from}
use Rattle.self_grammar.specs.declared.signs.Spot.{Spot}
use Rattle.self_grammar.specs.declared.pieces.Made.{Made}
use Rattle.self_grammar.specs.declared.pieces.TextNode.{TextNode}
use Rattle.self_grammar.specs.declared.pieces.TextNode.TheVariants as text
use Rattle.self_grammar.specs.declared.pieces.SlotForm.{SlotForm}
use Rattle.self_grammar.specs.declared.pieces.SlotForm.TheVariants as form
use Rattle.self_grammar.specs.declared.pieces.Words.{Words}
use Rattle.self_grammar.specs.declared.pieces.Item.{Item}
use Rattle.self_grammar.specs.declared.pieces.Item.TheVariants as items
use Rattle.world_build.specs.declared.values.Open.{Open}
use Rattle.world_build.specs.declared.values.Open.TheVariants.{InObject as in_object, InBody as in_body}
use Rattle.world_build.specs.declared.values.Held.{Held}
use Rattle.world_build.specs.declared.values.Held.TheVariants.{Nothing as nothing, Data as value, Code as body}
use Rattle.world_build.specs.declared.slots.ToldContent.{ToldContent}
use Rattle.world_build.specs.declared.slots.ToldContent.TheVariants as told
use Rattle.world_build.specs.declared.slots.ToldSlot.{ToldSlot}
use Rattle.world_build.specs.declared.things.ToldThing.{ToldThing}
use Rattle.world_build.specs.declared.things.ToldThing.TheVariants.{Plain as plain, Text as string}
use Rattle.world_build.specs.declared.refusals.BuildRefusal.{BuildRefusal}
use Rattle.world_build.specs.declared.loading.Loading.{Loading}
use Rattle.source_model.specs.Names.{number_of}
use Rattle.world_build.specs.Names.{lobby_text, with_words, word_number}
use Rattle.world_build.specs.Slots.{is_named, slot_of, add_slot, data_in}
use Rattle.world_build.specs.Things.{own_data, change_thing}
use Rattle.world_build.specs.Loading.{begun, place, root, object_in, data_of, data_at, further, followed, is_object, innermost, opened, closed, between, at_object, add_slots, value_in, slots_for, placed_in, name_body, with_slot, slot_ended, is_parent, may_be_parent, argument_in}
use Rattle.world_build.specs.Nodes.{beside, at_innermost, node_of, with_node, take_item}
use Rattle.world_build.specs.Nodes
use Rattle.world_build.specs.Wholeness.{IsDatum, AreData, IsNamed, IsNamedItem, AreNamed}
use Rattle.world_build.proofs.Weights.{ok_bound, ok_same}
use Rattle.world_build.proofs.Numbers.{word_given}
use Rattle.world_build.proofs.Growth.{taken_count, loaded_count}

-- Bytes.
abbrev pub AllBytes : List ℕ → Type 0
AllBytes [] = Unit {0}
AllBytes (b ∷ bs) = (b < 256) × AllBytes bs

pub byte_at : (bytes : List ℕ) (i b : ℕ) → AllBytes bytes → slice_get bytes i ≡ Some b → b < 256
byte_at [] i b h e = cc
byte_at (x ∷ bytes) zero b h e = let same : x ≡ b = cc in subst (λ (z : ℕ). z < 256) same h.0
byte_at (x ∷ bytes) (suc i) b h e = byte_at bytes i b h.1 e

pub all_bytes : (bytes : List ℕ) → ((i b : ℕ) → slice_get bytes i ≡ Some b → b < 256) → AllBytes bytes
all_bytes [] h = tt
all_bytes (b ∷ bytes) h = (h 0 b refl, all_bytes bytes (λ i c e. h (suc i) c e))

either : {A : Type 0} (P : A → Type 0) (b : Bool) (x y : A) → P x → P y → P (if b then x else y)
either P true x y p q = p
either P false x y p q = q

abbrev IsByte : ℕ → Type 0
IsByte b = b < 256

escaped_small : (b : ℕ) → b < 256 → escaped_byte b < 256
escaped_small b lt =
    either IsByte (b == 110) 10 (if b == 116 then 9 else if b == 114 then 13 else if b == 48 then 0 else b) (omega arith)
    (either IsByte (b == 116) 9 (if b == 114 then 13 else if b == 48 then 0 else b) (omega arith)
    (either IsByte (b == 114) 13 (if b == 48 then 0 else b) (omega arith)
    (either IsByte (b == 48) 0 b (omega arith) lt)))

unescaped_small : (escaped : Bool) (bytes : List ℕ) → AllBytes bytes → AllBytes (unescaped_from escaped bytes)
unescaped_small escaped [] h = tt
unescaped_small true (b ∷ bytes) h = (escaped_small b h.0, unescaped_small false bytes h.1)
unescaped_small false (b ∷ bytes) h = either AllBytes (b == 92) (unescaped_from true bytes) (b ∷ unescaped_from false bytes) (unescaped_small true bytes h.1) (h.0, unescaped_small false bytes h.1)

drop_small : (k : ℕ) (bytes : List ℕ) → AllBytes bytes → AllBytes (drop k bytes)
drop_small zero bytes h = h
drop_small (suc k) [] h = tt
drop_small (suc k) (b ∷ bytes) h = drop_small k bytes h.1

take_small : (k : ℕ) (bytes : List ℕ) → AllBytes bytes → AllBytes (take k bytes)
take_small zero bytes h = tt
take_small (suc k) [] h = tt
take_small (suc k) (b ∷ bytes) h = (h.0, take_small k bytes h.1)

between_small : (bytes : List ℕ) (start end : ℕ) → AllBytes bytes → AllBytes (between bytes start end)
between_small bytes start end h =
    either AllBytes (nat_le start end && nat_le end (length bytes)) (take (end - start) (drop start bytes)) [] (take_small (end - start) (drop start bytes) (drop_small start bytes h)) tt

module _ (n : ℕ) where
  -- a value is an integer of 30 bits, or one of so many objects
  abbrev pub There : Datum → Type 0
  There (integer z) = IsSmall z
  There (object o) = o < n
  There nil = Unit {0}

  abbrev pub DataThere : Option Datum → Type 0
  DataThere None = Unit {0}
  DataThere (Some v) = There v

  abbrev pub IsNoInteger : Datum → Type 0
  IsNoInteger (integer z) = ⊥
  IsNoInteger (object o) = Unit {0}
  IsNoInteger nil = Unit {0}

  abbrev pub ContentThere : ToldContent → Type 0
  ContentThere (told.Constant v) = There v
  ContentThere (told.Assignable v) = There v
  ContentThere told.Assignment = Unit {0}
  ContentThere (told.Parent v) = There v × IsNoInteger v
  ContentThere (told.Method b) = Unit {0}

  abbrev pub SlotThere : ToldSlot → Type 0
  SlotThere s = (s.name ≢ 0) × ContentThere s.content

  abbrev pub SlotsThere : List ToldSlot → Type 0
  SlotsThere [] = Unit {0}
  SlotsThere (s ∷ ss) = SlotThere s × SlotsThere ss

  abbrev pub ThingThere : ToldThing → Type 0
  ThingThere (plain slots) = SlotsThere slots
  ThingThere (string t) = AllBytes t

  abbrev pub ThingsThere : List ToldThing → Type 0
  ThingsThere [] = Unit {0}
  ThingsThere (x ∷ xs) = ThingThere x × ThingsThere xs

  abbrev pub HeldThere : Held → Type 0
  HeldThere nothing = Unit {0}
  HeldThere (value v) = There v
  HeldThere (body b) = Unit {0}

  abbrev pub OpenThere : List Open → Type 0
  OpenThere [] = Unit {0}
  OpenThere (in_object o ∷ outer) = (o < n) × OpenThere outer
  OpenThere (in_body b ∷ outer) = OpenThere outer

  pub record AllThere (s : Loading) : Type 0 where
    pub things : ThingsThere s.things
    pub held : HeldThere s.held
    pub around : OpenThere s.around

  -- Slots.
  content_data : (c : ToldContent) → ContentThere c → DataThere (data_in (Some c))
  content_data (told.Constant v) h = h
  content_data (told.Assignable v) h = h
  content_data told.Assignment h = tt
  content_data (told.Parent v) h = h.0
  content_data (told.Method b) h = tt

  slots_append : (slots : List ToldSlot) (x : ToldSlot) → SlotsThere slots → SlotThere x → SlotsThere (slots ++ x ∷ [])
  slots_append [] x h d = (d, tt)
  slots_append (y ∷ slots) x h d = (h.0, slots_append slots x h.1 d)

  slots_added : (slots : List ToldSlot) (x : ToldSlot) → SlotsThere slots → SlotThere x → SlotsThere (add_slot slots x)
  slots_added slots x h d = either SlotsThere (list_any (is_named x.name) slots) slots (slots ++ x ∷ []) h (slots_append slots x h d)

  slot_data : (k : ℕ) (slots : List ToldSlot) → SlotsThere slots → DataThere (data_in (slot_of k slots))
  slot_data k [] h = tt
  slot_data k (s ∷ slots) h = elim (cases_Bool (is_named k s)) [
    | inl e ↦ rw e (content_data s.content h.0.1)
    | inr e ↦ rw e (slot_data k slots h.1)
  ]

  -- Objects.
  pub things_append : (xs ys : List ToldThing) → ThingsThere xs → ThingsThere ys → ThingsThere (xs ++ ys)
  things_append [] ys h k = k
  things_append (x ∷ xs) ys h k = (h.0, things_append xs ys h.1 k)

  thing_at : (things : List ToldThing) (o : ℕ) (x : ToldThing) → ThingsThere things → slice_get things o ≡ Some x → ThingThere x
  thing_at [] o x h e = cc
  thing_at (y ∷ things) zero x h e = let same : y ≡ x = cc in subst ThingThere same h.0
  thing_at (y ∷ things) (suc o) x h e = thing_at things o x h.1 e

  things_set : (things : List ToldThing) (o : ℕ) (x : ToldThing) → ThingsThere things → ThingThere x → ThingsThere (slice_set things o x)
  things_set [] o x h k = tt
  things_set (y ∷ things) zero x h k = (k, h.1)
  things_set (y ∷ things) (suc o) x h k = (h.0, things_set things o x h.1 k)

  things_changed : (x : ToldSlot) (y : Option ToldThing) (things : List ToldThing) (o : ℕ) → slice_get things o ≡ y → ThingsThere things → SlotThere x → ThingsThere (change_thing x y things o)
  things_changed x None things o e h d = h
  things_changed x (Some (plain slots)) things o e h d = things_set things o (plain (add_slot slots x)) h (slots_added slots x (thing_at things o (plain slots) h e) d)
  things_changed x (Some (string t)) things o e h d = h

  -- Paths.
  own_there : (y : Option ToldThing) (things : List ToldThing) (o k : ℕ) → slice_get things o ≡ y → ThingsThere things → DataThere (own_data y k)
  own_there None things o k e h = tt
  own_there (Some (plain slots)) things o k e h = slot_data k slots (thing_at things o (plain slots) h e)
  own_there (Some (string t)) things o k e h = tt

  data_there : (s : Loading) (o k : ℕ) → AllThere s → DataThere (data_of s o k)
  data_there s o k h = own_there (slice_get s.things o) s.things o k refl h.things

  root_there : (s : Loading) (k : ℕ) → 0 < n → AllThere s → DataThere (root s k)
  root_there s k lt h = either DataThere (nat_eq k (number_of s.names lobby_text)) (Some (object 0)) (data_of s 0 k) lt (data_there s 0 k h)

  at_there : (s : Loading) (o : Option ℕ) (k : ℕ) → AllThere s → DataThere (data_at s o k)
  at_there s None k h = tt
  at_there s (Some o) k h = data_there s o k h

  further_there : (s : Loading) (held : Held) (k : ℕ) → AllThere s → DataThere (further s held k)
  further_there s nothing k h = tt
  further_there s (value v) k h = at_there s (object_in s v) k h
  further_there s (body b) k h = tt

  -- Slots that end.
  slots_there : (o : ℕ) (xs : List ToldSlot) (s : Loading) → ThingsThere s.things → SlotsThere xs → ThingsThere (add_slots o xs s).things
  slots_there o [] s h d = h
  slots_there o (x ∷ xs) s h d = slots_there o xs (at_object o x s) (things_changed x (slice_get s.things o) s.things o refl h d.0) d.1

  value_there : (h : Held) → HeldThere h → There (value_in h)
  value_there nothing k = tt
  value_there (value v) k = k
  value_there (body b) k = tt

  -- what ends is no parent that is an integer
  abbrev FormFits : SlotForm → Held → Type 0
  FormFits form.Parent h = IsNoInteger (value_in h)
  FormFits _ h = Unit {0}

  filled_there : (k : ℕ) (f : SlotForm) (h : Held) → HeldThere h → k ≢ 0 → IsNamed (λ x. x ≢ 0) f → FormFits f h → SlotsThere (slots_for k f h)
  filled_there k form.Constant h held named setter fits = ((named, value_there h held), tt)
  filled_there k (form.Assignable x) h held named setter fits = ((named, value_there h held), ((setter, tt), tt))
  filled_there k (form.Bare x) h held named setter fits = ((named, tt), ((setter, tt), tt))
  filled_there k form.Parent h held named setter fits = ((named, (value_there h held, fits)), tt)
  filled_there k form.Method h held named setter fits = ((named, tt), tt)

  placed_there : (o : Option Open) (k : ℕ) (f : SlotForm) (s : Loading) → AllThere s → k ≢ 0 → IsNamed (λ x. x ≢ 0) f → FormFits f s.held → ThingsThere (placed_in o k f s).things
  placed_there None k f s h named setter fits = h.things
  placed_there (Some (in_object o)) k f s h named setter fits = slots_there o (slots_for k f s.held) s h.things (filled_there k f s.held h.held named setter fits)
  placed_there (Some (in_body b)) k f s h named setter fits = h.things

  placed_around : (o : Option Open) (k : ℕ) (f : SlotForm) (s : Loading) → (placed_in o k f s).around ≡ s.around
  placed_around None k f s = refl
  placed_around (Some (in_object o)) k f s = added (slots_for k f s.held) s
    where
      added : (xs : List ToldSlot) (s : Loading) → (add_slots o xs s).around ≡ s.around
      added [] s = refl
      added (x ∷ xs) s = added xs (at_object o x s)
  placed_around (Some (in_body b)) k f s = refl

  named_there : (x : Held) (k : ℕ) (f : SlotForm) (s : Loading) → AllThere s → AllThere (name_body x k f s) × ((name_body x k f s).around ≡ s.around) × ((name_body x k f s).held ≡ s.held)
  named_there nothing k f s h = (h, refl, refl)
  named_there (value v) k f s h = (h, refl, refl)
  named_there (body b) k form.Method s h = (record { things = h.things; held = h.held; around = h.around }, refl, refl)
  named_there (body b) k form.Constant s h = (h, refl, refl)
  named_there (body b) k (form.Assignable setter) s h = (h, refl, refl)
  named_there (body b) k (form.Bare setter) s h = (h, refl, refl)
  named_there (body b) k form.Parent s h = (h, refl, refl)

  slot_there : (k : ℕ) (f : SlotForm) (s : Loading) → AllThere s → k ≢ 0 → IsNamed (λ x. x ≢ 0) f → FormFits f s.held → AllThere (with_slot k f s)
  slot_there k f s h named setter fits =
      let m = named_there s.held k f s h in
      record {
        things = placed_there (innermost s.around) k f (name_body s.held k f s) m.0 named setter (subst (λ (x : Held). FormFits f x) (sym m.2) fits);
        held = tt;
        around = subst OpenThere (sym (placed_around (innermost s.around) k f (name_body s.held k f s) ∙ m.1)) h.around;
      }

  -- Nodes.
  beside_there : (bytes : List ℕ) (x : TextNode) (s : Loading) → AllBytes bytes → AllThere s → AllThere (beside bytes x s)
  beside_there bytes (text.Integer z) s b h = h
  beside_there bytes (text.Text i j) s b h = record { things = things_append s.things _ h.things (unescaped_small false (between bytes i j) (between_small bytes i j b), tt); held = h.held; around = h.around }
  beside_there bytes text.Block s b h = h
  beside_there bytes text.Itself s b h = h
  beside_there bytes text.Nil s b h = h
  beside_there bytes (text.Message to w args) s b h = record { things = h.things; held = h.held; around = h.around }
  beside_there bytes (text.Primitive w args receiver handler) s b h = record { things = h.things; held = h.held; around = h.around }
  beside_there bytes text.Drop s b h = h
  beside_there bytes text.Restart s b h = h
  beside_there bytes text.Return s b h = h
  beside_there bytes text.End s b h = h

  innermost_there : (o : Option Open) (x : Node) (p : Place) (s : Loading) → AllThere s → AllThere (at_innermost o x p s)
  innermost_there None x p s h = h
  innermost_there (Some (in_object o)) x p s h = h
  innermost_there (Some (in_body b)) x p s h = record { things = h.things; held = h.held; around = h.around }

  node_there : (bytes : List ℕ) (m : Made) (s : Loading) → AllBytes bytes → AllThere s → AllThere (with_node bytes m s)
  node_there bytes m s b h =
      let k = innermost_there (innermost s.around) (node_of s m.node) (place m.spot) (beside bytes m.node s) (beside_there bytes m.node s b h) in
      record { things = k.things; held = k.held; around = k.around }

  -- Items: what was loaded holds what is there, where nothing is refused, and no more than n objects are there.
  Stays : Result Loading BuildRefusal → Type 0
  Stays (Ok t) = length t.things ≤ n → AllThere t
  Stays (Err e) = Unit {0}

  followed_there : (p : Spot) (v : Option Datum) (s : Loading) → AllThere s → DataThere v → Stays (followed s p v)
  unfolding Stays
  followed_there p None s h d = tt
  followed_there p (Some v) s h d = λ few. record { things = h.things; held = d; around = h.around }

  no_integer : (s : Loading) (h : Held) → may_be_parent s h ≡ true → IsNoInteger (value_in h)
  no_integer s nothing e = tt
  no_integer s (value (integer z)) e = absurd (false≢true e)
  no_integer s (value (object o)) e = tt
  no_integer s (value nil) e = tt
  no_integer s (body b) e = tt

  fits : (s : Loading) (f : SlotForm) (h : Held) → (is_parent f && not (may_be_parent s h)) ≡ false → FormFits f h
  fits s form.Constant h e = tt
  fits s (form.Assignable x) h e = tt
  fits s (form.Bare x) h e = tt
  fits s form.Parent h e = no_integer s h (back (may_be_parent s h) e)
    where
      back : (b : Bool) → not b ≡ false → b ≡ true
      back true e = refl
      back false e = absurd (false≢true (sym e))
  fits s form.Method h e = tt

  ended_there : (w : Words) (f : SlotForm) (p : Spot) (s : Loading) → AllThere s → IsNamed (λ x. x ≢ 0) f → Stays (slot_ended w f p s)
  unfolding Stays
  ended_there w f p s h setter = elim (cases_Bool (is_parent f && not (may_be_parent s s.held))) [
    | inl e ↦ rw e tt
    | inr e ↦ rw e (λ few. slot_there (word_number s.names w) f (record s { names = with_words s.names w }) (record { things = h.things; held = h.held; around = h.around }) (word_given s.names w) setter (fits s f s.held e))
  ]

  opened_there : (k : Bool) (s : Loading) → AllThere s → length (opened k s).things ≤ n → AllThere (opened k s)
  opened_there true s h few = record {
    things = things_append s.things (plain [] ∷ []) h.things (tt, tt);
    held = h.held;
    around = (omega (arith, few, length-append s.things (plain [] ∷ [])), h.around);
  }
  opened_there false s h few = record { things = h.things; held = h.held; around = h.around }

  closed_held : (around : List Open) (h : Held) → OpenThere around → HeldThere h → HeldThere (closed around h).1 × OpenThere (closed around h).0
  closed_held [] h o k = (k, tt)
  closed_held (in_object x ∷ outer) h o k = (o.0, o.1)
  closed_held (in_body b ∷ outer) h o k = (tt, o)

  argument_there : (o : Option Open) (k : ℕ) (s : Loading) → AllThere s → AllThere (argument_in o k s)
  argument_there None k s h = h
  argument_there (Some (in_object o)) k s h = h
  argument_there (Some (in_body b)) k s h = record { things = h.things; held = h.held; around = h.around }

  item_there : (bytes : List ℕ) (i : Item) (rest : List Item) (s : Loading) → 0 < n → AllBytes bytes → AllThere s → IsDatum IsSmall i → IsNamedItem (λ x. x ≢ 0) i → Stays (take_item bytes i rest s)
  unfolding Stays
  item_there bytes (items.Node m) rest s some b h d x = λ few. node_there bytes m s b h
  item_there bytes (items.Opened p) rest s some b h d x = λ few. opened_there (is_object 0 rest) s h few
  item_there bytes items.ClosedObject rest s some b h d x = λ few. let c = closed_held s.around s.held h.around h.held in record { things = h.things; held = c.0; around = c.1 }
  item_there bytes items.ClosedBody rest s some b h d x = λ few. let c = closed_held s.around s.held h.around h.held in record { things = h.things; held = c.0; around = c.1 }
  item_there bytes (items.Integer z) rest s some b h d x = λ few. record { things = h.things; held = d; around = h.around }
  item_there bytes (items.Text i j) rest s some b h d x = λ few. record {
    things = things_append s.things _ h.things (unescaped_small false (between bytes i j) (between_small bytes i j b), tt);
    held = omega (arith, few, length-append s.things);
    around = h.around;
  }
  item_there bytes (items.Root k p) rest s some b h d x = followed_there p (root s k) s h (root_there s k some h)
  item_there bytes (items.Further k p) rest s some b h d x = followed_there p (further s s.held k) s h (further_there s s.held k h)
  item_there bytes (items.Argument k) rest s some b h d x = λ few. let a = argument_there (innermost s.around) k s h in record { things = a.things; held = a.held; around = a.around }
  item_there bytes (items.Named k) rest s some b h d x = λ few. record { things = h.things; held = h.held; around = h.around }
  item_there bytes (items.Slot w f p) rest s some b h d x = ended_there w f p s h x

  taken_there : (bytes : List ℕ) (i : Item) (rest : List Item) (s t : Loading) → 0 < n → AllBytes bytes → AllThere s → IsDatum IsSmall i → IsNamedItem (λ x. x ≢ 0) i
      → take_item bytes i rest s ≡ Ok t → length t.things ≤ n → AllThere t
  unfolding Stays
  taken_there bytes i rest s t some b h d x e = rw e at (item_there bytes i rest s some b h d x)

  pub loaded_there : (bytes : List ℕ) (is : List Item) (s t : Loading) → 0 < n → AllBytes bytes → AllThere s → AreData IsSmall is → AreNamed (λ x. x ≢ 0) is
      → Nodes.loaded bytes is s ≡ Ok t → length t.things ≤ n → AllThere t
  unfolding Nodes.loaded
  loaded_there bytes [] s t some b h d x e few = subst (λ (u : Loading). AllThere u) (ok_same s t e) h
  loaded_there bytes (i ∷ is) s t some b h d x e few =
      let a = ok_bound (take_item bytes i is s) (λ u. Nodes.loaded bytes is u) t e in
      let more : length a.0.things ≤ length t.things = loaded_count bytes is a.0 t a.2 in
      loaded_there bytes is a.0 t some b (taken_there bytes i is s a.0 some b h d.0 x.0 a.1 (omega arith)) d.1 x.1 a.2 few

-- a text begins with the lobby
pub begun_there : (n : ℕ) (names : List (List ℕ)) → 0 < n → AllThere n (begun names)
begun_there n names some = record { things = (tt, tt); held = tt; around = (some, tt) }
