-- The world of items that are right, from what was read last.
use Rattle.std.specs.Prelude.{◌≡◌, ℕ, zero, suc, ◌+◌, ◌<◌, ◌≤◌, ◌==◌, nat_eq, Bool, true, false, ◌||◌, Option, None, Some, Result, Ok, Err, List, [], ◌∷◌, ◌++◌, length, map, take, slice_get, codes, unwrap_or, refl}
use Rattle.std.specs.List.{list_any}
use Rattle.std.proofs.Common.{ap, sym, subst, ◌∙◌, arith, length-append}
use Rattle.std.proofs.lemmas.Grind.{common_steps}
use Rattle.std.proofs.lemmas.List.{length-map}
use Rattle.std.proofs.lemmas.Option.{slice_get_within}
use Rattle.self_terms.specs.declared.values.Datum.{Datum}
use Rattle.self_terms.specs.declared.values.Datum.TheVariants.{Integer as integer, Object as object, Nil as nil}
use Rattle.self_terms.specs.declared.bodies.Body.{Body}
use Rattle.self_terms.specs.Words.{IsSmall}
use Rattle.self_grammar.specs.declared.pieces.Item.{Item}
use Rattle.source_model.specs.declared.objects.Slot.{Slot}
use Rattle.source_model.specs.declared.objects.Content.TheVariants.{Assignment}
use Rattle.source_model.specs.declared.objects.Thing.TheVariants.{Plain, Text}
use Rattle.source_model.specs.declared.objects.Core.{Core}
use Rattle.source_model.specs.Names.{text_named}
use Rattle.source_model.specs.Objects.{is_assignable}
use Rattle.source_model.specs.Slots.{slot_named, AreNamedOnce}
use Rattle.source_model.specs.Messages.{value_of}
use Rattle.source_model.specs.Canon.{Each}
use Rattle.source_model.specs.Formed.{ContentFits, SlotFits, Follows, AreTied, ThingFits, ContentHolds, SlotHolds, ThingHolds, IsPlain}
use Rattle.world_build.specs.declared.slots.ToldContent.{ToldContent}
use Rattle.world_build.specs.declared.slots.ToldContent.TheVariants as told
use Rattle.world_build.specs.declared.slots.ToldSlot.{ToldSlot}
use Rattle.world_build.specs.declared.things.ToldThing.{ToldThing}
use Rattle.world_build.specs.declared.things.ToldThing.TheVariants.{Plain as plain, Text as string}
use Rattle.world_build.specs.declared.refusals.BuildRefusal.{BuildRefusal}
use Rattle.world_build.specs.declared.loading.Loading.{Loading}
use Rattle.world_build.specs.Names.{core_names}
use Rattle.world_build.specs.Slots.{is_named}
use Rattle.world_build.specs.Loading.{begun}
use Rattle.world_build.specs.Nodes.{take_item}
use Rattle.world_build.specs.Nodes
use Rattle.world_build.specs.Telling.{core_of, object_of, content_of, slot_from, thing_of}
use Rattle.world_build.specs.Wholeness.{AreData}
use Rattle.world_build.specs.Cores.{IsNamed, HasCores}
use Rattle.world_build.specs.Worlds.{World, fixed_strings, world_with}
use Rattle.world_build.specs.Worlds
use Rattle.world_build.proofs.Growth.{loaded_count}
use Rattle.world_build.proofs.Weights.{ok_same, ok_bound}
use Rattle.world_build.proofs.Naming.{built_cores}
use Rattle.world_build.proofs.Contents.{There, ContentThere, SlotsThere, ThingThere, ThingsThere, AllThere, taken_there, begun_there}
use Rattle.world_build.proofs.Orders.{frame, Keeps}
use Rattle.world_build.proofs.Grown.{Extends}
use Rattle.world_build.proofs.Coded.{AllOk, code_fits}
use Rattle.world_build.proofs.Slotted.{ContentOk, SetsName, is_told_assignable, Follow, Tied, Once, ThingOk, AllThings, slots_fit}

pub record Made (r : Result Loading BuildRefusal) (w : World) : Type 0 where
  pub loading : Loading
  pub was : r ≡ Ok loading
  pub core : List ℕ
  pub cores : Worlds.cores loading core_names ≡ Ok core
  pub is : w ≡ world_with loading (core_of core)

world_same : (a b : World) → ◌≡◌ {A = Result World BuildRefusal} (Ok a) (Ok b) → a ≡ b
world_same a b e = cc

made_with : (t : Loading) (c : Result (List ℕ) BuildRefusal) (w : World) → Worlds.cores t core_names ≡ c → Worlds.world_of t c ≡ Ok w → Made (Ok t) w
made_with t (Err q) w k e = cc
made_with t (Ok core) w k e = record { loading = t; was = refl; core = core; cores = k; is = sym (world_same (world_with t (core_of core)) w e) }

pub made_of : (r : Result Loading BuildRefusal) (w : World) → Worlds.finished r ≡ Ok w → Made r w
made_of (Err q) w e = cc
made_of (Ok t) w e = made_with t (Worlds.cores t core_names) w refl e

-- each body, over the names of the world and further ones
pub world_code : (first names : List (List ℕ)) (bytes : List ℕ) (is : List Item) (w : World) → Extends w.names names → Keeps first 0 (frame 0 0 false [] ∷ []) None is → Worlds.built first bytes is ≡ Ok w →
    AllOk names w.bodies w.bodies
world_code first names bytes is w end k e =
    let m = made_of (Nodes.loaded bytes is (begun first)) w e in
    subst (λ bodies. AllOk names bodies bodies) (sym (ap (λ (x : World). x.bodies) m.is))
    (code_fits first names bytes is m.loading (subst (λ x. Extends x names) (ap (λ (x : World). x.names) m.is) end) k m.was)

-- Told slots, as slots.

module _ (names : List (List ℕ)) (bodies : List Body) (core : Core) where
  content_fits : (n : ℕ) (c : ToldContent) → ContentOk names bodies n c → ContentFits names bodies n (content_of core c)
  content_fits n (told.Constant v) h = tt
  content_fits n (told.Assignable v) h = tt
  content_fits n told.Assignment h = h
  content_fits n (told.Parent v) h = tt
  content_fits n (told.Method b) h = h

  slots_each : (xs : List ToldSlot) → ((i : ℕ) (x : ToldSlot) → slice_get xs i ≡ Some x → ContentOk names bodies x.name x.content) → Each (SlotFits names bodies) (map (slot_from core) xs)
  slots_each [] h = tt
  slots_each (x ∷ xs) h = (content_fits x.name x.content (h 0 x refl), slots_each xs (λ i y e. h (suc i) y e))

  is_set : (c : ToldContent) → content_of core c ≡ Assignment → c ≡ told.Assignment
  is_set (told.Constant v) e = cc
  is_set (told.Assignable v) e = cc
  is_set told.Assignment e = refl
  is_set (told.Parent v) e = cc
  is_set (told.Method b) e = cc

  is_able : (c : ToldContent) → is_told_assignable c ≡ true → is_assignable (content_of core c) ≡ true
  is_able (told.Constant v) e = cc
  is_able (told.Assignable v) e = refl
  is_able told.Assignment e = cc
  is_able (told.Parent v) e = cc
  is_able (told.Method b) e = cc

  told_front : Option ToldSlot → Option Slot
  told_front None = None
  told_front (Some x) = Some (slot_from core x)

  set_text : (n m : ℕ) → SetsName names n m → text_named names m ≡ text_named names n ++ codes ":"
  set_text n m h = ap (λ o. unwrap_or o []) h.set ∙ ap (λ t. t ++ codes ":") (sym (ap (λ o. unwrap_or o []) h.named))

  follows_told : (front : Option ToldSlot) (x : ToldSlot) → Follow names front x → Follows names (told_front front) (slot_from core x)
  unfolding told_front
  follows_told None x h = λ e. h (is_set x.content e)
  follows_told (Some y) x h = λ e. (let r = h (is_set x.content e) in (is_able y.content r.0, set_text y.name x.name r.1))

  slots_tied : (front : Option ToldSlot) (xs : List ToldSlot) → Tied names front xs → AreTied names (told_front front) (map (slot_from core) xs)
  unfolding told_front
  slots_tied front [] h = tt
  slots_tied front (x ∷ xs) h = (follows_told front x h.0, slots_tied (Some x) xs h.1)

  none_tied : (xs : List ToldSlot) → Tied names None xs → AreTied names None (map (slot_from core) xs)
  unfolding told_front
  none_tied xs h = slots_tied None xs h

  flip_ne : (a b : ℕ) → nat_eq a b ≡ false → (b == a) ≡ false
  flip_ne a b h = grind (arith, common_steps)

  or_none : (a b : Bool) → (a || b) ≡ false → (a ≡ false) × (b ≡ false)
  or_none true b e = cc
  or_none false b e = (refl, e)

  none_named : (n : ℕ) (xs : List ToldSlot) → list_any (is_named n) xs ≡ false → slot_named n (map (slot_from core) xs) ≡ None
  none_named n [] e = refl
  none_named n (x ∷ xs) e = let r = or_none (nat_eq n x.name) (list_any (is_named n) xs) e in rw (flip_ne n x.name r.0) (none_named n xs r.1)

  take_told : (k : ℕ) (xs : List ToldSlot) → take k (map (slot_from core) xs) ≡ map (slot_from core) (take k xs)
  take_told zero xs = refl
  take_told (suc k) [] = refl
  take_told (suc k) (x ∷ xs) = ap (λ ys. slot_from core x ∷ ys) (take_told k xs)

  get_told : (xs : List ToldSlot) (k : ℕ) (y : Slot) → slice_get (map (slot_from core) xs) k ≡ Some y → (x : ToldSlot) × (slice_get xs k ≡ Some x) × (slot_from core x ≡ y)
  get_told [] k y e = cc
  get_told (x ∷ xs) zero y e = (x, refl, slot_same (slot_from core x) y e)
    where
      slot_same : (x y : Slot) → ◌≡◌ {A = Option Slot} (Some x) (Some y) → x ≡ y
      slot_same x y f = cc
  get_told (x ∷ xs) (suc k) y e = get_told xs k y e

  slots_once : (xs : List ToldSlot) → Once xs → AreNamedOnce (map (slot_from core) xs)
  slots_once xs h at y e =
      let x = get_told xs at y e in
      subst (λ (z : Slot). slot_named z.name (take at (map (slot_from core) xs)) ≡ None) x.2
      (ap (slot_named x.0.name) (take_told at xs) ∙ none_named x.0.name (take at xs) (h at x.0 x.1))

  thing_fits : (x : ToldThing) → ThingOk names bodies x → ThingFits names bodies (thing_of core x)
  thing_fits (plain xs) h = (slots_each xs h.each, none_tied xs h.tied, slots_once xs h.once)
  thing_fits (string t) h = tt

  texts_fit : (ts : List (List ℕ)) → Each (ThingFits names bodies) (map Text ts)
  texts_fit [] = tt
  texts_fit (t ∷ ts) = (tt, texts_fit ts)

  things_fit : (xs : List ToldThing) (ts : List (List ℕ)) → AllThings names bodies xs → Each (ThingFits names bodies) (map (thing_of core) xs ++ map Text ts)
  things_fit [] ts h = texts_fit ts
  things_fit (x ∷ xs) ts h = (thing_fits x (h 0 x refl), things_fit xs ts (λ i y e. h (suc i) y e))

-- each object, over the names of the world and further ones
pub world_slots : (first names : List (List ℕ)) (bytes : List ℕ) (is : List Item) (w : World) → Extends w.names names → Keeps first 0 (frame 0 0 false [] ∷ []) None is → Worlds.built first bytes is ≡ Ok w →
    Each (ThingFits names w.bodies) w.things
world_slots first names bytes is w end k e =
    let m = made_of (Nodes.loaded bytes is (begun first)) w e in
    subst (λ (x : World). Each (ThingFits names x.bodies) x.things) (sym m.is)
    (things_fit names m.loading.bodies (core_of m.core) m.loading.things fixed_strings
    (slots_fit first names bytes is m.loading (subst (λ x. Extends x names) (ap (λ (x : World). x.names) m.is) end) k m.was))

-- Values.

loaded_there : (n : ℕ) (bytes : List ℕ) (is : List Item) (s t : Loading) → 0 < n → AllThere n s → AreData IsSmall is → Nodes.loaded bytes is s ≡ Ok t → length t.things ≤ n → AllThere n t
unfolding Nodes.loaded
loaded_there n bytes [] s t some h d e few = subst (λ (u : Loading). AllThere n u) (ok_same s t e) h
loaded_there n bytes (i ∷ is) s t some h d e few =
    let a = ok_bound (take_item bytes i is s) (λ u. Nodes.loaded bytes is u) t e in
    let more : length a.0.things ≤ length t.things = loaded_count bytes is a.0 t a.2 in
    loaded_there n bytes is a.0 t some (taken_there n bytes i is s a.0 some h d.0 a.1 (omega arith)) d.1 a.2 few

module _ (n count : ℕ) (some : 0 < count) (le : n ≤ count) (core : Core) (there : core.nil < count) where
  value_plain : (v : Datum) → There n v → IsPlain count (value_of core v)
  value_plain (integer z) h = tt
  value_plain (object o) h = omega arith
  value_plain nil h = there

  parent_plain : (v : Datum) → There n v → object_of core v < count
  parent_plain (integer z) h = some
  parent_plain (object o) h = omega arith
  parent_plain nil h = there

  content_plain : (c : ToldContent) → ContentThere n c → ContentHolds (IsPlain count) (content_of core c)
  content_plain (told.Constant v) h = value_plain v h
  content_plain (told.Assignable v) h = value_plain v h
  content_plain told.Assignment h = tt
  content_plain (told.Parent v) h = parent_plain v h
  content_plain (told.Method b) h = tt

  slots_plain : (xs : List ToldSlot) → SlotsThere n xs → Each (SlotHolds (IsPlain count)) (map (slot_from core) xs)
  slots_plain [] h = tt
  slots_plain (x ∷ xs) h = (content_plain x.content h.0, slots_plain xs h.1)

  thing_plain : (x : ToldThing) → ThingThere n x → ThingHolds (IsPlain count) (thing_of core x)
  thing_plain (plain xs) h = slots_plain xs h
  thing_plain (string t) h = tt

  texts_plain : (ts : List (List ℕ)) → Each (ThingHolds (IsPlain count)) (map Text ts)
  texts_plain [] = tt
  texts_plain (t ∷ ts) = (tt, texts_plain ts)

  things_plain : (xs : List ToldThing) (ts : List (List ℕ)) → ThingsThere n xs → Each (ThingHolds (IsPlain count)) (map (thing_of core) xs ++ map Text ts)
  things_plain [] ts h = texts_plain ts
  things_plain (x ∷ xs) ts h = (thing_plain x h.0, things_plain xs ts h.1)

all_things : (t : Loading) (core : List ℕ) → length (world_with t (core_of core)).things ≡ length t.things + 26
all_things t core =
    let sum = length-append (map (thing_of (core_of core)) t.things) (map Text fixed_strings) in
    let first = length-map t.things (thing_of (core_of core)) in
    let rest : length (map Text fixed_strings) ≡ 26 = refl in
    omega arith

-- each value is there, and none is a block
pub world_values : (first : List (List ℕ)) (bytes : List ℕ) (is : List Item) (w : World) → AreData IsSmall is → Worlds.built first bytes is ≡ Ok w → Each (ThingHolds (IsPlain (length w.things))) w.things
world_values first bytes is w d e =
    let m = made_of (Nodes.loaded bytes is (begun first)) w e in
    let t : Loading = m.loading in
    let n : ℕ = length t.things in
    let some : 0 < n = (let grown = loaded_count bytes is (begun first) t m.was in omega arith) in
    let h = loaded_there n bytes is (begun first) t some (begun_there n first some) d m.was (omega arith) in
    let nil_at = (built_cores first bytes is w e).nil in
    let nil_there : w.core.nil < length w.things = slice_get_within w.things w.core.nil (Plain nil_at.slots) nil_at.plain_object in
    let whole : length (world_with t (core_of m.core)).things ≡ n + 26 = all_things t m.core in
    subst (λ (x : World). Each (ThingHolds (IsPlain (length x.things))) x.things) (sym m.is)
    (things_plain n (length (world_with t (core_of m.core)).things) (omega arith) (omega arith) (core_of m.core)
    (subst (λ (x : World). x.core.nil < length x.things) m.is nil_there) t.things fixed_strings h.things)

-- the fixed strings stand behind the objects
pub world_fixed : (first : List (List ℕ)) (bytes : List ℕ) (is : List Item) (w : World) → Worlds.built first bytes is ≡ Ok w → w.objects + 26 ≤ length w.things
world_fixed first bytes is w e =
    let m = made_of (Nodes.loaded bytes is (begun first)) w e in
    let whole : length (world_with m.loading (core_of m.core)).things ≡ length m.loading.things + 26 = all_things m.loading m.core in
    subst (λ (x : World). x.objects + 26 ≤ length x.things) (sym m.is) (omega arith)

-- a core object is there
pub named_there : (w : World) (name : List ℕ) (o : ℕ) → IsNamed w name o → o < length w.things
named_there w name o h = slice_get_within w.things o (Plain h.slots) h.plain_object

pub world_cores : (first : List (List ℕ)) (bytes : List ℕ) (is : List Item) (w : World) → Worlds.built first bytes is ≡ Ok w → HasCores w
world_cores first bytes is w e = built_cores first bytes is w e
