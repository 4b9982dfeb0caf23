-- An edit keeps a state well formed, where its text is that of a method slot.
use Rattle.std.proofs.Common.{◌≡◌, ℕ, zero, suc, ◌+◌, ◌<◌, ap, sym, subst, refl, ◌∙◌, arith, Bool, true, false, List, [], ◌∷◌, ◌++◌, length, map}
use Rattle.std.specs.Prelude.{◌==◌, nat_le, slice_get, Option, Some, None, option_map, option_and_then, fold, cond, Ok, Err, codes, get_or}
use Rattle.std.proofs.lemmas.Bool.{eqb-true, eq-eqb}
use Rattle.std.proofs.lemmas.List.{length-append, length-map}
use Rattle.self_terms.specs.declared.values.Value.{Value}
use Rattle.self_terms.specs.declared.values.Value.TheVariants as values
use Rattle.self_terms.specs.declared.values.BodyId.{BodyId}
use Rattle.self_terms.specs.declared.values.Datum.{Datum}
use Rattle.self_terms.specs.declared.values.Datum.TheVariants as datum
use Rattle.self_terms.specs.declared.bodies.Body.{Body}
use Rattle.self_terms.specs.declared.bodies.Local.{Local}
use Rattle.source_model.specs.Names.{number_of, text_named}
use Rattle.source_model.specs.Objects.{Object, Slot, Content, Constant, Assignable, Assignment, Parent, Method, Thing, Plain, Vector, Text, is_assignable, slot_named, has_name, with_content, replaced, with_slots, changed_at}
use Rattle.source_model.specs.State.{State, Reached}
use Rattle.source_model.specs.Edits.{Initial, Number, String, Path, Nothing, LocalText, BodyText, SlotText, TooManyNodes, plain_slots, own_content, data_in, further, root, follow, all_some, datum_at, thing_at, initial_in, local_in, node_in, place_in, body_in as made_in, bodies_in, with_method, in_slot, at_path, edited}
use Rattle.source_model.specs.Script.{EditText, Read, Unread, Edit, edit_done, edit, command, commands, Command, behind}
use Rattle.source_model.specs.Canon.{Each}
use Rattle.source_model.specs.Soundness.{IsActivity}
use Rattle.source_model.specs.Formed.{Takes, IsGiven, IsSaid, ContentHolds, SlotHolds, ThingHolds, ActivityHolds, IsThere, ContentFits, SlotFits, Follows, AreTied, ThingFits, HasCore, IsFormed, IsWellFormed}
use Rattle.source_model.specs.Told.{told_local, told_body, told, InitialFits, IsSlotText, CommandFits, CommandsForm, ScriptsForm}
use Rattle.source_model.proofs.Having.{each}
use Rattle.source_model.proofs.Once.{AreApart, to_apart, from_apart}
use Rattle.source_model.proofs.Keeping.{append_each, slice_each, find_each, either, InSome}
use Rattle.source_model.proofs.KeepingCommands.{command_keeps}
use Rattle.source_model.proofs.Forming.{thing_holds, activity_holds, said_more}
use Rattle.source_model.proofs.MoreBodies.{IsShift, Shifts, all_fit, new_has, shift_of, new_said, old_body, old_has, old_activity, old_content}
use Rattle.source_model.proofs.Commanding.{Done, as_it_was, command_done}

-- All there, or nothing.

record Both (A : Type 0) (x : Option A) (rest : Option (List A)) (ys : List A) : Type 0 where
  first : A
  more : List A
  one : x ≡ Some first
  others : rest ≡ Some more
  is : ys ≡ first ∷ more

some_list : (A : Type 0) (xs ys : List A) → ◌≡◌ {A = Option (List A)} (Some xs) (Some ys) → xs ≡ ys
some_list A xs ys e = cc

both : (A : Type 0) (x : Option A) (rest : Option (List A)) (ys : List A) → option_and_then (λ a. option_map (λ as_list. a ∷ as_list) rest) x ≡ Some ys → Both A x rest ys
both A None rest ys e = absurd (cc)
both A (Some a) None ys e = absurd (cc)
both A (Some a) (Some more) ys e = record { first = a; more = more; one = refl; others = refl; is = sym (some_list A (a ∷ more) ys e) }

get_front : (xs ys : List Thing) (i : ℕ) (x : Thing) → slice_get xs i ≡ Some x → slice_get (xs ++ ys) i ≡ Some x
get_front [] ys i x e = absurd (cc)
get_front (y ∷ xs) ys zero x e = e
get_front (y ∷ xs) ys (suc i) x e = get_front xs ys i x e

module _ (home : ℕ → ℕ) (s : State) (formed : IsFormed home s) where
  -- What a path leads to is there.

  abbrev There : Value → Type 0
  There v = IsThere home s v

  plain_there : (m : Option Thing) → InSome (ThingHolds There) m → Each (SlotHolds There) (plain_slots m)
  plain_there None e = tt
  plain_there (Some (Plain slots)) e = e
  plain_there (Some (Vector items)) e = tt
  plain_there (Some (Text bytes)) e = tt

  content_of : (m : Option Slot) → InSome (SlotHolds There) m → InSome (ContentHolds There) (option_map (λ (x : Slot). x.content) m)
  content_of None e = tt
  content_of (Some x) e = e

  own_there : (v : Value) (name : ℕ) → InSome (ContentHolds There) (own_content s v name)
  own_there (values.Int i) name = tt
  own_there (values.Object o) name =
      let slots : Object = plain_slots (slice_get s.things o) in
      content_of (slot_named name slots) (find_each (SlotHolds There) (λ (x : Slot). x.name == name) slots (plain_there (slice_get s.things o) (slice_each (ThingHolds There) s.things o formed.values.things)))
  own_there (values.Block b k) name = tt

  data_there : (c : Content) → ContentHolds There c → InSome There (data_in c)
  data_there (Constant v) e = e
  data_there (Assignable v) e = e
  data_there Assignment e = tt
  data_there (Parent o) e = e
  data_there (Method b) e = tt

  data_of : (m : Option Content) → InSome (ContentHolds There) m → InSome There (option_and_then data_in m)
  data_of None e = tt
  data_of (Some c) e = data_there c e

  further_there : (v : Option Value) (name : ℕ) → InSome There v → InSome There (further s v name)
  further_there None name e = tt
  further_there (Some v) name e = data_of (own_content s v name) (own_there v name)

  fold_there : (path : List ℕ) (v : Option Value) → InSome There v → InSome There (fold (further s) v path)
  fold_there [] v e = e
  fold_there (name ∷ path) v e = fold_there path (further s v name) (further_there v name e)

  lobby_there : InSome There (Some (values.Object 0))
  lobby_there = omega (arith, formed.world.0.nil)

  root_there : (name : ℕ) → InSome There (root s name)
  root_there name = either (InSome There) (name == number_of s.names (codes "lobby")) (Some (values.Object 0)) (further s (Some (values.Object 0)) name) lobby_there (further_there (Some (values.Object 0)) name lobby_there)

  follow_there : (path : List ℕ) → InSome There (follow s path)
  follow_there [] = tt
  follow_there (name ∷ path) = fold_there path (root s name) (root_there name)

  -- An initial content of a text.

  module _ (strings : ℕ) where
    abbrev many : ℕ
    many = length s.things + strings

    some_datum : (d e : Datum) → ◌≡◌ {A = Option Datum} (Some d) (Some e) → d ≡ e
    some_datum d e h = cc

    datum_given : (v : Value) (thing : Option Thing) (d : Datum) → There v → datum_at s v thing ≡ Some d → IsGiven many d
    datum_given (values.Int i) thing d there e = subst (IsGiven many) (some_datum (datum.Integer i) d e) tt
    datum_given (values.Object o) (Some (Vector items)) d there e = absurd (cc)
    datum_given (values.Object o) (Some (Plain slots)) d there e = subst (IsGiven many) (some_datum (datum.Object o) d e) (omega (arith, there))
    datum_given (values.Object o) (Some (Text bytes)) d there e = subst (IsGiven many) (some_datum (datum.Object o) d e) (omega (arith, there))
    datum_given (values.Object o) None d there e = subst (IsGiven many) (some_datum (datum.Object o) d e) (omega (arith, there))
    datum_given (values.Block b k) thing d there e = absurd (cc)

    path_given : (v : Option Value) (d : Datum) → InSome There v → option_and_then (λ w. datum_at s w (thing_at s w)) v ≡ Some d → IsGiven many d
    path_given None d there e = absurd (cc)
    path_given (Some v) d there e = datum_given v (thing_at s v) d there e

    initial_given : (x : Initial) (d : Datum) → ((k : ℕ) → x ≡ String k → k < strings) → initial_in s x ≡ Some d → IsGiven many d
    initial_given (Number i) d fits e = subst (IsGiven many) (some_datum (datum.Integer i) d e) tt
    initial_given (String k) d fits e = subst (IsGiven many) (some_datum (datum.Object (length s.things + k)) d e) (let lt = fits k refl in omega (arith, lt))
    initial_given (Path path) d fits e = path_given (follow s path) d (follow_there path) e
    initial_given Nothing d fits e = subst (IsGiven many) (some_datum datum.Nil d e) tt

    some_local : (x y : Local) → ◌≡◌ {A = Option Local} (Some x) (Some y) → x ≡ y
    some_local x y h = cc

    local_by : (x : LocalText) (m : Option Datum) (z : Local) → initial_in s x.initial ≡ m → InitialFits strings x → option_map (λ d. record { name = x.name; setter = x.setter; initial = d }) m ≡ Some z → IsGiven many z.initial
    local_by x None z same fits e = absurd (cc)
    local_by x (Some d) z same fits e =
        subst (λ (y : Local). IsGiven many y.initial) (some_local (record { name = x.name; setter = x.setter; initial = d }) z e) (initial_given x.initial d fits same)

    locals_given : (xs : List LocalText) (ls : List Local) → all_some (map (local_in s) xs) ≡ Some ls → Each (InitialFits strings) xs
        → Each (λ (z : Local). IsGiven many z.initial) ls × (length ls ≡ length (map told_local xs))
    locals_given [] ls e fits = let none = some_list Local [] ls e in (subst (Each (λ (z : Local). IsGiven many z.initial)) none tt, ap length (sym none))
    locals_given (x ∷ xs) ls e fits =
        let h = both Local (local_in s x) (all_some (map (local_in s) xs)) ls e in
        let rest = locals_given xs h.more h.others fits.1 in (
          subst (Each (λ (z : Local). IsGiven many z.initial)) (sym h.is) (local_by x (initial_in s x.initial) h.first refl fits.0 h.one, rest.0),
          ap length h.is ∙ ap suc rest.1,
        )

    -- A body of a text.

    abbrev made : BodyText → List Local → Body
    made b locals = record {
      name = b.name;
      outer = option_map (λ n. length s.bodies + n) b.outer;
      arguments = b.arguments;
      locals = locals;
      nodes = map (node_in s) b.nodes;
      places = map (place_in s) b.places;
    }

    some_body : (x y : Body) → ◌≡◌ {A = Option Body} (Some x) (Some y) → x ≡ y
    some_body x y h = cc

    shift_by : (b : BodyText) (m : Option (List Local)) (y : Body) → all_some (map (local_in s) b.locals) ≡ m → Each (InitialFits strings) b.locals → option_map (made b) m ≡ Some y → IsShift s strings (told_body b) y
    shift_by b None y same fits e = absurd (cc)
    shift_by b (Some ls) y same fits e =
        let given = locals_given b.locals ls same fits in
        subst (IsShift s strings (told_body b)) (some_body (made b ls) y e) (record {
          outer = refl;
          arguments = refl;
          locals = given.1;
          nodes = refl;
          places = length-map b.places (place_in s);
          initials = given.0;
        })

    shifts_by : (bs : List BodyText) (ys : List Body) → all_some (map (made_in s) bs) ≡ Some ys → Each (λ (b : BodyText). Each (InitialFits strings) b.locals) bs → Shifts s strings (map told_body bs) ys
    shifts_by [] ys e fits = subst (Shifts s strings []) (some_list Body [] ys e) tt
    shifts_by (b ∷ bs) ys e fits =
        let h = both Body (made_in s b) (all_some (map (made_in s) bs)) ys e in
        subst (Shifts s strings (told_body b ∷ map told_body bs)) (sym h.is) (shift_by b (all_some (map (local_in s) b.locals)) h.first refl fits.0 h.one, shifts_by bs h.more h.others fits.1)

  -- The slot that is edited.

  abbrev IsMethod : Content → Type 0
  IsMethod (Method b) = Unit {0}
  IsMethod _ = ⊥

  -- the one slot of the name is a method
  abbrev AreMethods : ℕ → Object → Type 0
  AreMethods name slots = Each (λ (y : Slot). y.name ≡ name → IsMethod y.content) slots

  others : (name : ℕ) (x : Slot) (xs : Object) → x.name ≡ name → Each (λ (y : Slot). y.name ≡ x.name → ⊥) xs → AreMethods name xs
  others name x [] e h = tt
  others name x (y ∷ ys) e h = ((λ d. absurd (h.0 (d ∙ sym e))), others name x ys e h.1)

  content_eq : (x y : Content) → ◌≡◌ {A = Option Content} (Some x) (Some y) → x ≡ y
  content_eq x y e = cc

  methods_or : (name : ℕ) (x : Slot) (xs : Object) (b : BodyId) (t : Bool) → has_name name x ≡ t → Each (λ (y : Slot). y.name ≡ x.name → ⊥) xs
      → option_map (λ (y : Slot). y.content) (cond t (Some x) (slot_named name xs)) ≡ Some (Method b)
      → (option_map (λ (y : Slot). y.content) (slot_named name xs) ≡ Some (Method b) → AreMethods name xs) → AreMethods name (x ∷ xs)
  methods_or name x xs b true same apart e h =
      let is : Method b ≡ x.content = sym (content_eq x.content (Method b) e) in
      ((λ d. subst IsMethod is tt), others name x xs (eqb-true x.name name same) apart)
  methods_or name x xs b false same apart e h = ((λ d. absurd (let bad : true ≡ false = sym (eq-eqb x.name name d) ∙ same in cc)), h e)

  methods : (name : ℕ) (slots : Object) (b : BodyId) → AreApart slots → option_map (λ (y : Slot). y.content) (slot_named name slots) ≡ Some (Method b) → AreMethods name slots
  methods name [] b apart e = absurd (cc)
  methods name (x ∷ xs) b apart e = methods_or name x xs b (has_name name x) refl apart.0 e (methods name xs b apart.1)

  module _ (all : List Body) (name : ℕ) (b : BodyId) (fits : ContentFits s.names all name (Method b)) where
    abbrev put : Bool → Slot → Slot
    put t x = cond t (with_content (Method b) x) x

    put_name : (t : Bool) (x : Slot) → (put t x).name ≡ x.name
    put_name true x = refl
    put_name false x = refl

    put_fits : (t : Bool) (x : Slot) → (x.name == name) ≡ t → SlotFits s.names all x → SlotFits s.names all (put t x)
    put_fits true x e d = subst (λ (n : ℕ). ContentFits s.names all n (Method b)) (sym (eqb-true x.name name e)) fits
    put_fits false x e d = d

    slots_fit : (slots : Object) → Each (SlotFits s.names all) slots → Each (SlotFits s.names all) (replaced name (Method b) slots)
    slots_fit [] e = tt
    slots_fit (x ∷ xs) e = (put_fits (x.name == name) x refl e.0, slots_fit xs e.1)

    -- nothing was assigned, and nothing assigns, that didn't
    put_assigns : (t : Bool) (x : Slot) → (put t x).content ≡ Assignment → x.content ≡ Assignment
    put_assigns true x e = absurd (cc)
    put_assigns false x e = e

    not_assignable : (c : Content) → IsMethod c → is_assignable c ≡ false
    not_assignable (Constant v) e = absurd e
    not_assignable (Assignable v) e = absurd e
    not_assignable Assignment e = absurd e
    not_assignable (Parent o) e = absurd e
    not_assignable (Method c) e = refl

    put_assignable : (t : Bool) (x : Slot) → (x.name == name) ≡ t → (x.name ≡ name → IsMethod x.content) → is_assignable (put t x).content ≡ is_assignable x.content
    put_assignable true x e d = sym (not_assignable x.content (d (eqb-true x.name name e)))
    put_assignable false x e d = refl

    abbrev put_front : Option Slot → Option Slot
    put_front None = None
    put_front (Some x) = Some (put (x.name == name) x)

    abbrev FrontMethod : Option Slot → Type 0
    FrontMethod None = Unit {0}
    FrontMethod (Some x) = x.name ≡ name → IsMethod x.content

    follows : (front : Option Slot) (x : Slot) → FrontMethod front → Follows s.names front x → Follows s.names (put_front front) (put (x.name == name) x)
    follows None x f h = λ e. h (put_assigns (x.name == name) x e)
    follows (Some y) x f h = λ e.
        let d = h (put_assigns (x.name == name) x e) in (
          put_assignable (y.name == name) y refl f ∙ d.0,
          ap (text_named s.names) (put_name (x.name == name) x) ∙ d.1 ∙ ap (λ (n : ℕ). text_named s.names n ++ codes ":") (sym (put_name (y.name == name) y)),
        )

    tied : (front : Option Slot) (slots : Object) → FrontMethod front → AreMethods name slots → AreTied s.names front slots → AreTied s.names (put_front front) (replaced name (Method b) slots)
    tied front [] f m e = tt
    tied front (x ∷ xs) f m e = (follows front x f e.0, tied (Some x) xs m.0 m.1 e.1)

    others_apart : (n : ℕ) (xs : Object) → Each (λ (y : Slot). y.name ≡ n → ⊥) xs → Each (λ (y : Slot). y.name ≡ n → ⊥) (replaced name (Method b) xs)
    others_apart n [] e = tt
    others_apart n (x ∷ xs) e = ((λ d. e.0 (sym (put_name (x.name == name) x) ∙ d)), others_apart n xs e.1)

    apart : (slots : Object) → AreApart slots → AreApart (replaced name (Method b) slots)
    apart [] e = tt
    apart (x ∷ xs) e = (
      subst (λ (n : ℕ). Each (λ (y : Slot). y.name ≡ n → ⊥) (replaced name (Method b) xs)) (sym (put_name (x.name == name) x)) (others_apart x.name xs e.0),
      apart xs e.1,
    )

    -- what a change of the slot asks of the thing
    abbrev Takes' : Thing → Type 0
    Takes' (Plain slots) = AreMethods name slots
    Takes' (Vector items) = Unit {0}
    Takes' (Text bytes) = Unit {0}

    thing_fits : (x : Thing) → Takes' x → ThingFits s.names all x → ThingFits s.names all (with_slots (replaced name (Method b)) x)
    thing_fits (Plain slots) m e = (slots_fit slots e.0, tied None slots tt m e.1, from_apart (replaced name (Method b) slots) (apart slots (to_apart slots e.2)))
    thing_fits (Vector items) m e = tt
    thing_fits (Text bytes) m e = tt

    changed_fits : (o : ℕ) (xs : List Thing) → InSome Takes' (slice_get xs o) → Each (ThingFits s.names all) xs → Each (ThingFits s.names all) (changed_at (with_slots (replaced name (Method b))) o xs)
    changed_fits o [] m e = tt
    changed_fits zero (x ∷ xs) m e = (thing_fits x m e.0, e.1)
    changed_fits (suc o) (x ∷ xs) m e = (e.0, changed_fits o xs m e.1)

    -- values
    module _ (V : Value → Type 0) where
      put_holds : (t : Bool) (x : Slot) → SlotHolds V x → SlotHolds V (put t x)
      put_holds true x e = tt
      put_holds false x e = e

      slots_hold : (slots : Object) → Each (SlotHolds V) slots → Each (SlotHolds V) (replaced name (Method b) slots)
      slots_hold [] e = tt
      slots_hold (x ∷ xs) e = (put_holds (x.name == name) x e.0, slots_hold xs e.1)

      changed_thing : (x : Thing) → ThingHolds V x → ThingHolds V (with_slots (replaced name (Method b)) x)
      changed_thing (Plain slots) e = slots_hold slots e
      changed_thing (Vector items) e = e
      changed_thing (Text bytes) e = e

      changed_holds : (o : ℕ) (xs : List Thing) → Each (ThingHolds V) xs → Each (ThingHolds V) (changed_at (with_slots (replaced name (Method b))) o xs)
      changed_holds o [] e = tt
      changed_holds zero (x ∷ xs) e = (changed_thing x e.0, e.1)
      changed_holds (suc o) (x ∷ xs) e = (e.0, changed_holds o xs e.1)

  changed_length : (f : Thing → Thing) (o : ℕ) (xs : List Thing) → length (changed_at f o xs) ≡ length xs
  changed_length f o [] = refl
  changed_length f zero (x ∷ xs) = refl
  changed_length f (suc o) (x ∷ xs) = ap suc (changed_length f o xs)

  texts_hold : (V : Value → Type 0) (xs : List (List ℕ)) → Each (ThingHolds V) (map Text xs)
  texts_hold V [] = tt
  texts_hold V (x ∷ xs) = (tt, texts_hold V xs)

  texts_fit : (bodies : List Body) (xs : List (List ℕ)) → Each (ThingFits s.names bodies) (map Text xs)
  texts_fit bodies [] = tt
  texts_fit bodies (x ∷ xs) = (tt, texts_fit bodies xs)

  -- The state after an edit.

  module _ (t : SlotText) (fits : IsSlotText s.names t) (new : List Body) (is : bodies_in s t ≡ Some new) (o : ℕ) (old : BodyId) (there : own_content s (values.Object o) t.name ≡ Some (Method old)) where
    abbrev strings : ℕ
    strings = length t.strings

    abbrev all : List Body
    all = s.bodies ++ new

    abbrev u : State
    u = with_method t o new s

    shifts : Shifts s strings (told t) new
    shifts = shifts_by strings t.bodies new is fits.initials

    abbrev first : BodyId
    first = record { 0 = length s.bodies + 1 }

    method : ContentFits s.names all t.name (Method first)
    method =
        let sh = shift_of s strings (told t) new shifts fits.bodies 1 fits.method.0 in (
          new_has s strings (told t) new shifts fits.bodies 1 fits.method.0,
          subst (Takes s.names t.name) (ap length (sym sh.arguments)) fits.method.1,
          sh.outer ∙ ap (option_map (λ (n : ℕ). length s.bodies + n)) fits.method.2,
        )

    count : length u.things ≡ length s.things + strings
    count = changed_length (with_slots (replaced t.name (Method first))) o (s.things ++ map Text t.strings)
        ∙ length-append s.things (map Text t.strings) ∙ ap (λ (n : ℕ). length s.things + n) (length-map t.strings Text)

    slot_more : (x : Slot) → SlotFits s.names s.bodies x → SlotFits s.names all x
    slot_more x e = old_content s.bodies new s.names x.name x.content e

    thing_more : (x : Thing) → ThingFits s.names s.bodies x → ThingFits s.names all x
    thing_more (Plain slots) e = (each (SlotFits s.names s.bodies) (SlotFits s.names all) slot_more slots e.0, e.1, e.2)
    thing_more (Vector items) e = tt
    thing_more (Text bytes) e = tt

    -- the thing that is edited
    taken_by : (m : Option Thing) → slice_get s.things o ≡ m → InSome (ThingFits s.names s.bodies) m
        → option_map (λ (x : Slot). x.content) (slot_named t.name (plain_slots m)) ≡ Some (Method old)
        → InSome (Takes' all t.name first method) (slice_get (s.things ++ map Text t.strings) o)
    taken_by None same e d = absurd (cc)
    taken_by (Some (Vector items)) same e d = absurd (cc)
    taken_by (Some (Text bytes)) same e d = absurd (cc)
    taken_by (Some (Plain slots)) same e d =
        subst (InSome (Takes' all t.name first method)) (sym (get_front s.things (map Text t.strings) o (Plain slots) same)) (methods t.name slots old (to_apart slots e.2) d)

    taken : InSome (Takes' all t.name first method) (slice_get (s.things ++ map Text t.strings) o)
    taken = taken_by (slice_get s.things o) refl (slice_each (ThingFits s.names s.bodies) s.things o formed.world.1.slots) there

    still : (v : Value) → IsThere home s v → IsThere home u v
    still (values.Int i) e = tt
    still (values.Object k) e = omega (arith, e, count)
    still (values.Block b k) e = (old_has s.bodies new b.0 e.0, ap (λ (x : Body). x.outer) (old_body s.bodies new b.0 e.0) ∙ e.1, e.2)

    core : HasCore u
    core =
        let c : HasCore s = formed.world.0 in
        record {
          nil = omega (arith, c.nil, count);
          yes = omega (arith, c.yes, count);
          no = omega (arith, c.no, count);
          integers = omega (arith, c.integers, count);
          strings = omega (arith, c.strings, count);
          vectors = omega (arith, c.vectors, count);
          blocks = omega (arith, c.blocks, count);
          fixed = omega (arith, c.fixed, count);
          failure = c.failure;
        }

    abbrev V : Value → Type 0
    V v = IsThere home u v

    pub edited_done : Done s u
    edited_done = (
      refl,
      (
        home,
        record {
          order = formed.order;
          well = record {
            bodies = all_fit s strings (told t) new shifts fits.bodies formed.well.bodies;
            activities = each (IsActivity s.bodies home) (IsActivity all home) (old_activity s.bodies new home) s.activities formed.well.activities;
          };
          values = record {
            things = changed_holds all t.name first method V o (s.things ++ map Text t.strings)
                (append_each (ThingHolds V) s.things (map Text t.strings) (each (ThingHolds (IsThere home s)) (ThingHolds V) (thing_holds (IsThere home s) V still) s.things formed.values.things) (texts_hold V t.strings));
            activities = each (ActivityHolds (IsThere home s)) (ActivityHolds V) (activity_holds (IsThere home s) V still) s.activities formed.values.activities;
          };
          world = (
            core,
            record {
              code = subst (λ (n : ℕ). Each (IsSaid s.names n) all) (sym count) (append_each (IsSaid s.names (length s.things + strings)) s.bodies new
                  (each (IsSaid s.names (length s.things)) (IsSaid s.names (length s.things + strings)) (said_more s.names (length s.things) (length s.things + strings) (omega arith)) s.bodies formed.world.1.code)
                  (new_said s strings s.names (told t) new shifts fits.said));
              slots = changed_fits all t.name first method o (s.things ++ map Text t.strings) taken
                  (append_each (ThingFits s.names all) s.things (map Text t.strings) (each (ThingFits s.names s.bodies) (ThingFits s.names all) thing_more s.things formed.world.1.slots) (texts_fit all t.strings));
            },
          );
        },
      ),
    )

  -- The command.

  module _ (text : List ℕ) where
    abbrev r : Reached
    r = record { state = s; out = text }

    abbrev Next : Reached → Type 0
    Next q = Done s q.state

    same : Done s s
    same = as_it_was s (home, formed)

    slot_done : (t : SlotText) → IsSlotText s.names t → (v : Value) (c : Option Content) (new : List Body) → bodies_in s t ≡ Some new → own_content s v t.name ≡ c → Next (edit_done (in_slot s t v c new) r)
    slot_done t fits (values.Int i) (Some c) new is there = same
    slot_done t fits (values.Int i) None new is there = same
    slot_done t fits (values.Block b k) (Some c) new is there = same
    slot_done t fits (values.Block b k) None new is there = same
    slot_done t fits (values.Object o) (Some (Constant v)) new is there = same
    slot_done t fits (values.Object o) (Some (Assignable v)) new is there = same
    slot_done t fits (values.Object o) (Some Assignment) new is there = same
    slot_done t fits (values.Object o) (Some (Parent p)) new is there = same
    slot_done t fits (values.Object o) (Some (Method b)) new is there =
        either (λ x. Next (edit_done x r)) (nat_le (s.size + t.size) 65536) (Ok (with_method t o new s)) (Err TooManyNodes) (edited_done t fits new is o b there) same
    slot_done t fits (values.Object o) None new is there = same

    path_done : (t : SlotText) → IsSlotText s.names t → (v : Option Value) (m : Option (List Body)) → bodies_in s t ≡ m → Next (edit_done (at_path s t v m) r)
    path_done t fits None m is = same
    path_done t fits (Some v) None is = same
    path_done t fits (Some v) (Some new) is = slot_done t fits v (own_content s v t.name) new is refl

    pub edit_all : (path : List (List ℕ)) (told_text : EditText) → CommandFits s.names (Edit path told_text) → Next (edit path told_text r)
    unfolding edited
    edit_all path (Read t) fits = path_done t fits (follow s (map (number_of s.names) path)) (bodies_in s t) refl
    edit_all path (Unread kind at_line column) fits = same

-- Commands and scripts.

command_all : (c : Command) (stop : ℕ) (r : Reached) → CommandFits r.state.names c → IsWellFormed r.state → Done r.state (command c stop r).state
command_all c stop r fits e = command_done e.0 r e.1 (edit_all e.0 r.state e.1 r.out) c stop fits

pub commands_form : CommandsForm
commands_form c stop r fits e =
    let d = command_all c stop r fits e in (
      d.1.0,
      record { own = command_keeps r e.1.own c stop; order = d.1.1.order; well = d.1.1.well; values = d.1.1.values; world = d.1.1.world },
    )

pub scripts_form : ScriptsForm
unfolding commands
scripts_form [] stops r fits e = e
scripts_form (c ∷ more) stops r fits e =
    let n = get_or stops 0 0 in
    scripts_form more (behind c stops) (command c n r) (subst (λ (names : List (List ℕ)). Each (CommandFits names) more) (sym (command_all c n r fits.0 e).0) fits.1) (commands_form c n r fits.0 e)
