-- The core objects are told by name.
use Rattle.std.specs.Prelude.{◌≡◌, ℕ, zero, suc, nat_eq, Bool, true, false, Option, None, Some, Result, Ok, Err, List, [], ◌∷◌, ◌++◌, map, slice_get, refl}
use Rattle.std.proofs.Common.{ap, sym, subst, ◌∙◌, inl, inr, arith}
use Rattle.std.proofs.lemmas.Bool.{cases_Bool}
use Rattle.std.proofs.lemmas.Grind.{common_steps}
use Rattle.self_terms.specs.declared.values.Datum.{Datum as Value}
use Rattle.self_terms.specs.declared.values.Datum.TheVariants.{Integer as integer, Object as object, Nil as nil}
use Rattle.self_terms.specs.declared.values.Value.TheVariants as values
use Rattle.self_grammar.specs.declared.pieces.Item.{Item}
use Rattle.source_model.specs.declared.objects.Slot.{Slot}
use Rattle.source_model.specs.declared.objects.Content.{Content}
use Rattle.source_model.specs.declared.objects.Content.TheVariants.{Constant}
use Rattle.source_model.specs.declared.objects.Thing.{Thing}
use Rattle.source_model.specs.declared.objects.Thing.TheVariants.{Text}
use Rattle.source_model.specs.declared.objects.Core.{Core}
use Rattle.source_model.specs.Messages.{value_of}
use Rattle.source_model.specs.Names.{number_of}
use Rattle.source_model.specs.Slots.{slot_named}
use Rattle.world_build.specs.declared.cores.CoreName.{CoreName}
use Rattle.world_build.specs.declared.cores.CoreName.TheVariants.{Nil, True, False, IntegerTraits, StringTraits, VectorTraits, BlockTraits}
use Rattle.world_build.specs.declared.slots.ToldContent.{ToldContent}
use Rattle.world_build.specs.declared.slots.ToldContent.TheVariants.{Constant as constant, Assignable as assignable, Assignment as assignment, Parent as parent, Method as method}
use Rattle.world_build.specs.declared.slots.ToldSlot.{ToldSlot}
use Rattle.world_build.specs.declared.things.ToldThing.{ToldThing}
use Rattle.world_build.specs.declared.things.ToldThing.TheVariants.{Plain as plain, Text as string}
use Rattle.world_build.specs.declared.refusals.BuildRefusal.{BuildRefusal}
use Rattle.world_build.specs.declared.loading.Loading.{Loading}
use Rattle.world_build.specs.Names.{core_text, core_names}
use Rattle.world_build.specs.Slots.{slot_of, data_in}
use Rattle.world_build.specs.Things.{own_slot, own_data, is_plain}
use Rattle.world_build.specs.Telling.{core_of, content_of, slot_from, thing_of}
use Rattle.world_build.specs.Loading.{begun, data_of, plain_object, object_in}
use Rattle.world_build.specs.Nodes
use Rattle.world_build.specs.Worlds.{World, fixed_strings, plain_number, core_in, core_object, with_core, cores, world_with}
use Rattle.world_build.specs.Worlds
use Rattle.world_build.specs.Cores.{IsNamed, HasCores}

-- Objects and slots that are told.

get_told : (core : Core) (xs : List ToldThing) (ys : List Thing) (i : ℕ) (x : ToldThing) → slice_get xs i ≡ Some x → slice_get (map (thing_of core) xs ++ ys) i ≡ Some (thing_of core x)
get_told core [] ys i x e = cc
get_told core (z ∷ xs) ys zero x e = let same : z ≡ x = cc in ap (λ y. Some (thing_of core y)) same
get_told core (z ∷ xs) ys (suc i) x e = get_told core xs ys i x e

eq_of : (a b : ℕ) → nat_eq a b ≡ true → a ≡ b
eq_of a b h = grind (arith, common_steps)

flip_eq : (a b : ℕ) → nat_eq a b ≡ true → nat_eq b a ≡ true
flip_eq a b h = grind (arith, common_steps)

flip_ne : (a b : ℕ) → nat_eq a b ≡ false → nat_eq b a ≡ false
flip_ne a b h = grind (arith, common_steps)

abbrev slot_with : ℕ → Content → Slot
slot_with m d = record { name = m; content = d }

slot_told : (core : Core) (n : ℕ) (xs : List ToldSlot) (c : ToldContent) → slot_of n xs ≡ Some c → slot_named n (map (slot_from core) xs) ≡ Some (record { name = n; content = content_of core c })
slot_told core n [] c e = cc
slot_told core n (x ∷ xs) c e = elim (cases_Bool (nat_eq n x.name)) [
  | inl h ↦
      let is : Some x.content ≡ Some c = rw h at e in
      let same : x.content ≡ c = cc in
      let name : n ≡ x.name = eq_of n x.name h in
      rw (flip_eq n x.name h) (ap (λ (m : ℕ). Some (slot_with m (content_of core x.content))) (sym name) ∙ ap (λ d. Some (slot_with n (content_of core d))) same)
  | inr h ↦ rw (flip_ne n x.name h) (slot_told core n xs c (rw h at e))
]

-- A core object that is told.

-- what a core slot of what was loaded holds
record Holds (s : Loading) (name : List ℕ) (o : ℕ) : Type 0 where
  lobby : List ToldSlot
  plain_lobby : slice_get s.things 0 ≡ Some (plain lobby)
  value : Value
  slot : slot_of (number_of s.names name) lobby ≡ Some (constant value)
  meant : object_in s value ≡ Some o
  slots : List ToldSlot
  plain_object : slice_get s.things o ≡ Some (plain slots)

held_plain : (s : Loading) (name : List ℕ) (o : ℕ) (v : Value) (x y : Option ToldThing) → slice_get s.things 0 ≡ x → own_slot x (number_of s.names name) ≡ Some (constant v)
    → object_in s v ≡ Some o → slice_get s.things o ≡ y → is_plain y ≡ true → Holds s name o
held_plain s name o v None y e slot meant f is = cc
held_plain s name o v (Some (string t)) y e slot meant f is = cc
held_plain s name o v (Some (plain lobby)) None e slot meant f is = cc
held_plain s name o v (Some (plain lobby)) (Some (string t)) e slot meant f is = cc
held_plain s name o v (Some (plain lobby)) (Some (plain slots)) e slot meant f is = record {
  lobby = lobby;
  plain_lobby = e;
  value = v;
  slot = slot;
  meant = meant;
  slots = slots;
  plain_object = f;
}

plain_found : (s : Loading) (p o : ℕ) (b : Bool) → is_plain (slice_get s.things p) ≡ b → plain_number s.things (Some p) ≡ Some o → (p ≡ o) × (is_plain (slice_get s.things p) ≡ true)
plain_found s p o true e h = let is : Some p ≡ Some o = rw e at h in (cc, e)
plain_found s p o false e h = let is : ◌≡◌ {A = Option ℕ} None (Some o) = rw e at h in cc

held_object : (s : Loading) (name : List ℕ) (o : ℕ) (v : Value) (x : Option ℕ) → own_slot (slice_get s.things 0) (number_of s.names name) ≡ Some (constant v) → object_in s v ≡ x
    → plain_number s.things x ≡ Some o → Holds s name o
held_object s name o v None slot meant h = cc
held_object s name o v (Some p) slot meant h =
    let k = plain_found s p o (is_plain (slice_get s.things p)) refl h in
    let there : object_in s v ≡ Some o = meant ∙ ap Some k.0 in
    let is : is_plain (slice_get s.things o) ≡ true = sym (ap (λ q. is_plain (slice_get s.things q)) k.0) ∙ k.1 in
    held_plain s name o v (slice_get s.things 0) (slice_get s.things o) refl slot there refl is

held_content : (s : Loading) (name : List ℕ) (o : ℕ) (c : Option ToldContent) → own_slot (slice_get s.things 0) (number_of s.names name) ≡ c → core_in s c ≡ Some o → Holds s name o
held_content s name o None slot h = cc
held_content s name o (Some (constant v)) slot h = held_object s name o v (object_in s v) slot refl h
held_content s name o (Some (assignable v)) slot h = cc
held_content s name o (Some assignment) slot h = cc
held_content s name o (Some (parent v)) slot h = cc
held_content s name o (Some (method b)) slot h = cc

held_core : (s : Loading) (name : CoreName) (o : ℕ) → core_object s name ≡ Some o → Holds s (core_text name) o
held_core s name o h = held_content s (core_text name) o (own_slot (slice_get s.things 0) (number_of s.names (core_text name))) refl h

-- nil is the lobby's nil

lobby_data : (s : Loading) (name : List ℕ) (o : ℕ) (h : Holds s name o) → data_of s 0 (number_of s.names name) ≡ Some h.value
lobby_data s name o h = ap (λ x. own_data x (number_of s.names name)) h.plain_lobby ∙ ap data_in h.slot

nil_meant : (s : Loading) (q : ℕ) (h : Holds s (core_text Nil) q) (v : Value) → h.value ≡ v → object_in s nil ≡ Some q
nil_meant s q h (integer z) e = let no : object_in s (integer z) ≡ Some q = ap (λ y. object_in s y) (sym e) ∙ h.meant in cc
nil_meant s q h (object p) e =
    let is : object_in s (object p) ≡ Some q = ap (λ y. object_in s y) (sym e) ∙ h.meant in
    let same : p ≡ q = cc in
    ap plain_object (lobby_data s (core_text Nil) q h ∙ ap Some e) ∙ ap Some same
nil_meant s q h nil e = ap (λ y. object_in s y) (sym e) ∙ h.meant

value_told : (s : Loading) (core : Core) (v : Value) (o : ℕ) → object_in s nil ≡ Some core.nil → object_in s v ≡ Some o → value_of core v ≡ values.Object o
value_told s core (integer z) o n e = cc
value_told s core (object p) o n e = let same : p ≡ o = cc in ap values.Object same
value_told s core nil o n e = let both : Some core.nil ≡ Some o = sym n ∙ e in let same : core.nil ≡ o = cc in ap values.Object same

named_core : (s : Loading) (core : Core) (name : List ℕ) (o : ℕ) → object_in s nil ≡ Some core.nil → Holds s name o → IsNamed (world_with s core) name o
named_core s core name o n h = record {
  lobby = map (slot_from core) h.lobby;
  plain_lobby = get_told core s.things (map Text fixed_strings) 0 (plain h.lobby) h.plain_lobby;
  slot =
      slot_told core (number_of s.names name) h.lobby (constant h.value) h.slot
      ∙ ap (λ v. Some (record { name = number_of s.names name; content = Constant v })) (value_told s core h.value o n h.meant);
  slots = map (slot_from core) h.slots;
  plain_object = get_told core s.things (map Text fixed_strings) o (plain h.slots) h.plain_object;
}

-- All core objects.

record Split (x : Option ℕ) (r : Result (List ℕ) BuildRefusal) (core : List ℕ) : Type 0 where
  first : ℕ
  rest : List ℕ
  found : x ≡ Some first
  more : r ≡ Ok rest
  whole : core ≡ first ∷ rest

split : (name : CoreName) (x : Option ℕ) (r : Result (List ℕ) BuildRefusal) (core : List ℕ) → with_core name x r ≡ Ok core → Split x r core
split name None r core e = cc
split name (Some o) (Err q) core e = cc
split name (Some o) (Ok os) core e = record { first = o; rest = os; found = refl; more = refl; whole = cc }

in_order : (p q r s t u v w : List ℕ) (a b c d e f g : ℕ) → p ≡ a ∷ q → q ≡ b ∷ r → r ≡ c ∷ s → s ≡ d ∷ t → t ≡ e ∷ u → u ≡ f ∷ v → v ≡ g ∷ w → w ≡ [] →
    p ≡ a ∷ b ∷ c ∷ d ∷ e ∷ f ∷ g ∷ []
in_order p q r s t u v w a b c d e f g i j k l m n o z = cc

none_left : (s : Loading) (xs : List ℕ) → cores s [] ≡ Ok xs → xs ≡ []
none_left s xs e = cc

-- over the seven numbers
seven_named : (s : Loading) (a b c d e f g : ℕ) → core_object s Nil ≡ Some a → core_object s True ≡ Some b → core_object s False ≡ Some c → core_object s IntegerTraits ≡ Some d
    → core_object s StringTraits ≡ Some e → core_object s VectorTraits ≡ Some f → core_object s BlockTraits ≡ Some g
    → HasCores (world_with s (core_of (a ∷ b ∷ c ∷ d ∷ e ∷ f ∷ g ∷ [])))
seven_named s a b c d e f g ha hb hc hd he hf hg =
    let core : Core = core_of (a ∷ b ∷ c ∷ d ∷ e ∷ f ∷ g ∷ []) in
    let first = held_core s Nil a ha in
    let n : object_in s nil ≡ Some a = nil_meant s a first first.value refl in
    record {
      nil = named_core s core (core_text Nil) a n first;
      yes = named_core s core (core_text True) b n (held_core s True b hb);
      no = named_core s core (core_text False) c n (held_core s False c hc);
      integers = named_core s core (core_text IntegerTraits) d n (held_core s IntegerTraits d hd);
      strings = named_core s core (core_text StringTraits) e n (held_core s StringTraits e he);
      vectors = named_core s core (core_text VectorTraits) f n (held_core s VectorTraits f hf);
      blocks = named_core s core (core_text BlockTraits) g n (held_core s BlockTraits g hg);
    }

cores_named : (s : Loading) (core : List ℕ) → cores s core_names ≡ Ok core → HasCores (world_with s (core_of core))
cores_named s core e =
    let a = split Nil (core_object s Nil) (cores s (True ∷ False ∷ IntegerTraits ∷ StringTraits ∷ VectorTraits ∷ BlockTraits ∷ [])) core e in
    let b = split True (core_object s True) (cores s (False ∷ IntegerTraits ∷ StringTraits ∷ VectorTraits ∷ BlockTraits ∷ [])) a.rest a.more in
    let c = split False (core_object s False) (cores s (IntegerTraits ∷ StringTraits ∷ VectorTraits ∷ BlockTraits ∷ [])) b.rest b.more in
    let d = split IntegerTraits (core_object s IntegerTraits) (cores s (StringTraits ∷ VectorTraits ∷ BlockTraits ∷ [])) c.rest c.more in
    let f = split StringTraits (core_object s StringTraits) (cores s (VectorTraits ∷ BlockTraits ∷ [])) d.rest d.more in
    let g = split VectorTraits (core_object s VectorTraits) (cores s (BlockTraits ∷ [])) f.rest f.more in
    let h = split BlockTraits (core_object s BlockTraits) (cores s []) g.rest g.more in
    let last : h.rest ≡ [] = none_left s h.rest h.more in
    let order = in_order core a.rest b.rest c.rest d.rest f.rest g.rest h.rest a.first b.first c.first d.first f.first g.first h.first a.whole b.whole c.whole d.whole f.whole g.whole h.whole last in
    subst (λ xs. HasCores (world_with s (core_of xs))) (sym order) (seven_named s a.first b.first c.first d.first f.first g.first h.first a.found b.found c.found d.found f.found g.found h.found)

cored : (s : Loading) (w : World) (r : Result (List ℕ) BuildRefusal) → cores s core_names ≡ r → Worlds.world_of s r ≡ Ok w → HasCores w
cored s w (Err q) e h = cc
cored s w (Ok core) e h = let same : world_with s (core_of core) ≡ w = cc in subst (λ x. HasCores x) same (cores_named s core e)

finished_cores : (r : Result Loading BuildRefusal) (w : World) → Worlds.finished r ≡ Ok w → HasCores w
finished_cores (Err q) w h = cc
finished_cores (Ok s) w h = cored s w (cores s core_names) refl h

pub built_cores : (names : List (List ℕ)) (bytes : List ℕ) (is : List Item) (w : World) → Worlds.built names bytes is ≡ Ok w → HasCores w
built_cores names bytes is w h = finished_cores (Nodes.loaded bytes is (begun names)) w h
