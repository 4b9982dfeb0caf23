-- Paths are followed through own slots.
use Rattle.std.specs.Prelude.{◌≡◌, ◌≢◌, ℕ, nat_eq, true, false, Option, None, Some, Ok, Err, List, [], ◌∷◌, ◌++◌, slice_get, refl}
use Rattle.std.proofs.Common.{ap, sym, subst, ◌∙◌, arith, inl, inr}
use Rattle.std.proofs.lemmas.Bool.{cases_Bool}
use Rattle.std.proofs.lemmas.Grind.{common_steps}
use Rattle.self_terms.specs.declared.values.Datum.{Datum as Value}
use Rattle.self_terms.specs.declared.values.Datum.TheVariants.{Integer as integer, Object as object, Nil as nil}
use Rattle.self_grammar.specs.declared.signs.Spot.{Spot}
use Rattle.self_grammar.specs.Grammar.{Word}
use Rattle.self_grammar.specs.declared.pieces.Item.{Item}
use Rattle.world_build.specs.declared.cores.CoreName.TheVariants.{Nil as nil_name}
use Rattle.world_build.specs.declared.things.ToldThing.{ToldThing}
use Rattle.world_build.specs.declared.things.ToldThing.TheVariants.{Plain as plain, Text as string}
use Rattle.world_build.specs.declared.values.Held.TheVariants.{Data as value}
use Rattle.world_build.specs.declared.refusals.BuildRefusal.{BuildRefusal}
use Rattle.world_build.specs.declared.refusals.BuildRefusal.TheVariants.{NoSuchPath}
use Rattle.world_build.specs.declared.loading.Loading.{Loading}
use Rattle.source_model.specs.Names.{number_of}
use Rattle.world_build.specs.Names.{lobby_text, core_text}
use Rattle.world_build.specs.Things.{own_data}
use Rattle.world_build.specs.Loading.{place, data_of, root, plain_object, object_in, data_at, further, followed, holding}
use Rattle.world_build.specs.Nodes
use Rattle.world_build.specs.Paths.{HasOwn, IsObject, itself, as_nil, Leads, ended, through, IsEnd, from_lobby, in_lobby, StopsAt, no_slot, later, IsStop, behind_lobby, inside_lobby, further_items, path_items, names_of}
use Rattle.world_build.proofs.Weights.{ok_bound, ok_same}

-- Own slots.

own_found : (things : List ToldThing) (o n : ℕ) (v : Value) (x : Option ToldThing) → slice_get things o ≡ x → own_data x n ≡ Some v → HasOwn things o n v
own_found things o n v None e h = cc
own_found things o n v (Some (plain slots)) e h = record { slots = slots; plain_object = e; holds = h }
own_found things o n v (Some (string t)) e h = cc

own_of : (things : List ToldThing) (o n : ℕ) (v : Value) → HasOwn things o n v → own_data (slice_get things o) n ≡ Some v
own_of things o n v h = ap (λ x. own_data x n) h.plain_object ∙ h.holds

-- What a value is.

nil_found : (names : List (List ℕ)) (things : List ToldThing) (o : ℕ) (x : Option Value) → own_data (slice_get things 0) (number_of names (core_text nil_name)) ≡ x → plain_object x ≡ Some o → IsObject names things nil o
nil_found names things o None e h = cc
nil_found names things o (Some (integer z)) e h = cc
nil_found names things o (Some nil) e h = cc
nil_found names things o (Some (object q)) e h =
    let same : q ≡ o = cc in
    as_nil o (own_found things 0 (number_of names (core_text nil_name)) (object o) (slice_get things 0) refl (e ∙ ap (λ k. Some (object k)) same))

pub object_found : (s : Loading) (v : Value) (o : ℕ) → object_in s v ≡ Some o → IsObject s.names s.things v o
object_found s (integer z) o h = cc
object_found s (object q) o h = let same : q ≡ o = cc in subst (λ k. IsObject s.names s.things (object q) k) same (itself q)
object_found s nil o h = nil_found s.names s.things o (data_of s 0 (number_of s.names (core_text nil_name))) refl h

object_of : (s : Loading) (v : Value) (o : ℕ) → IsObject s.names s.things v o → object_in s v ≡ Some o
object_of s _ _ (itself o) = refl
object_of s _ _ (as_nil o h) = ap plain_object (own_of s.things 0 (number_of s.names (core_text nil_name)) (object o) h)

-- One name more.

pub record Link (s : Loading) (v : Value) (n : ℕ) (u : Value) : Type 0 where
  pub o : ℕ
  pub is : IsObject s.names s.things v o
  pub own : HasOwn s.things o n u

link_from : (s : Loading) (v : Value) (n : ℕ) (u : Value) (x : Option ℕ) → object_in s v ≡ x → data_at s x n ≡ Some u → Link s v n u
link_from s v n u None e h = cc
link_from s v n u (Some o) e h = record { o = o; is = object_found s v o e; own = own_found s.things o n u (slice_get s.things o) refl h }

link_found : (s : Loading) (v : Value) (n : ℕ) (u : Value) → further s (value v) n ≡ Some u → Link s v n u
link_found s v n u h = link_from s v n u (object_in s v) refl h

link_of : (s : Loading) (v : Value) (o n : ℕ) (u : Value) → IsObject s.names s.things v o → HasOwn s.things o n u → further s (value v) n ≡ Some u
link_of s v o n u h k = ap (λ x. data_at s x n) (object_of s v o h) ∙ own_of s.things o n u k

-- All names behind the first.

-- what was reached, where a name leads on
went : (s : Loading) (w : Word) (v : Option Value) (t : Loading) → followed s w.spot v ≡ Ok t → (u : Value) × (v ≡ Some u) × (t ≡ holding s u)
went s w None t e = cc
went s w (Some u) t e = (u, refl, sym (ok_same (holding s u) t e))

furthers_found : (bytes : List ℕ) (s t : Loading) (v : Value) (ws : List Word) → Nodes.loaded bytes (further_items ws) (holding s v) ≡ Ok t →
    (u : Value) × Leads s.names s.things v (names_of ws) u × (t ≡ holding s u)
unfolding Nodes.loaded
furthers_found bytes s t v [] e = (v, ended v, sym (ok_same (holding s v) t e))
furthers_found bytes s t v (w ∷ ws) e =
    let a = ok_bound (followed (holding s v) w.spot (further (holding s v) (value v) w.name)) (λ u. Nodes.loaded bytes (further_items ws) u) t e in
    let b = went (holding s v) w (further (holding s v) (value v) w.name) a.0 a.1 in
    let k = link_found s v w.name b.0 b.1 in
    let rest : Nodes.loaded bytes (further_items ws) (holding s b.0) ≡ Ok t = ap (λ y. Nodes.loaded bytes (further_items ws) y) (sym b.2) ∙ a.2 in
    let c = furthers_found bytes s t b.0 ws rest in
    (c.0, through v k.o w.name b.0 (names_of ws) c.0 k.is k.own c.1, c.2)

furthers_followed : (bytes : List ℕ) (s : Loading) (v u : Value) (ws : List Word) (rest : List Item) → Leads s.names s.things v (names_of ws) u →
    Nodes.loaded bytes (further_items ws ++ rest) (holding s v) ≡ Nodes.loaded bytes rest (holding s u)
unfolding Nodes.loaded
furthers_followed bytes s v _ [] rest (ended _) = refl
furthers_followed bytes s v u (w ∷ ws) rest (through _ o _ x _ _ is own more) =
    ap (λ y. Nodes.bound (followed (holding s v) w.spot y) (λ t. Nodes.loaded bytes (further_items ws ++ rest) t)) (link_of s v o w.name x is own)
    ∙ furthers_followed bytes s x u ws rest more

-- A whole path.

eq_of : (a b : ℕ) → nat_eq a b ≡ true → a ≡ b
eq_of a b h = grind (arith, common_steps)

ne_of : (a b : ℕ) → nat_eq a b ≡ false → a ≢ b
ne_of a b h = grind (arith, common_steps)

is_eq : (a b : ℕ) → a ≡ b → nat_eq a b ≡ true
is_eq a b h = grind (arith, common_steps)

is_ne : (a b : ℕ) → a ≢ b → nat_eq a b ≡ false
is_ne a b h = grind (arith, common_steps)

-- the lobby, or what the lobby's own slot holds
begins : (s : Loading) (n : ℕ) (v : Value) (ns : List ℕ) (u : Value) → root s n ≡ Some v → Leads s.names s.things v ns u → IsEnd s.names s.things n ns u
begins s n v ns u e more = elim (cases_Bool (nat_eq n (number_of s.names lobby_text))) [
  | inl h ↦
      let is : Some (object 0) ≡ Some v = rw h at e in
      let same : object 0 ≡ v = cc in
      from_lobby (eq_of n _ h) (subst (λ y. Leads s.names s.things y ns u) (sym same) more)
  | inr h ↦
      let is : data_of s 0 n ≡ Some v = rw h at e in
      in_lobby (ne_of n _ h) (through (object 0) 0 n v ns u (itself 0) (own_found s.things 0 n v (slice_get s.things 0) refl is) more)
]

pub path_found : (bytes : List ℕ) (s t : Loading) (w : Word) (ws : List Word) → Nodes.loaded bytes (path_items w ws) s ≡ Ok t →
    (v : Value) × IsEnd s.names s.things w.name (names_of ws) v × (t ≡ holding s v)
unfolding Nodes.loaded
path_found bytes s t w ws e =
    let a = ok_bound (followed s w.spot (root s w.name)) (λ u. Nodes.loaded bytes (further_items ws) u) t e in
    let b = went s w (root s w.name) a.0 a.1 in
    let rest : Nodes.loaded bytes (further_items ws) (holding s b.0) ≡ Ok t = ap (λ y. Nodes.loaded bytes (further_items ws) y) (sym b.2) ∙ a.2 in
    let c = furthers_found bytes s t b.0 ws rest in
    (c.0, begins s w.name b.0 (names_of ws) c.0 b.1 c.1, c.2)

pub path_followed : (bytes : List ℕ) (s : Loading) (w : Word) (ws : List Word) (v : Value) (rest : List Item) → IsEnd s.names s.things w.name (names_of ws) v →
    Nodes.loaded bytes (path_items w ws ++ rest) s ≡ Nodes.loaded bytes rest (holding s v)
unfolding Nodes.loaded
path_followed bytes s w ws v rest (from_lobby h more) =
    let is : root s w.name ≡ Some (object 0) = rw (is_eq w.name _ h) refl in
    ap (λ y. Nodes.bound (followed s w.spot y) (λ t. Nodes.loaded bytes (further_items ws ++ rest) t)) is ∙ furthers_followed bytes s (object 0) v ws rest more
path_followed bytes s w ws v rest (in_lobby h (through _ _ _ x _ _ (itself _) own more)) =
    let is : root s w.name ≡ Some x = rw (is_ne w.name _ h) (own_of s.things 0 w.name x own) in
    ap (λ y. Nodes.bound (followed s w.spot y) (λ t. Nodes.loaded bytes (further_items ws ++ rest) t)) is ∙ furthers_followed bytes s x v ws rest more

-- What isn't followed stops at the first name without a slot.

stopped : (s : Loading) (w : Word) (v : Option Value) (e : BuildRefusal) → followed s w.spot v ≡ Err e → (v ≡ None) × (e ≡ NoSuchPath (place w.spot))
stopped s w None e h = (refl, cc)
stopped s w (Some u) e h = cc

no_link : (s : Loading) (v : Value) (n : ℕ) → further s (value v) n ≡ None → (o : ℕ) (u : Value) → IsObject s.names s.things v o → HasOwn s.things o n u → ⊥
no_link s v n none o u is own = let some : further s (value v) n ≡ Some u = link_of s v o n u is own in let both : ◌≡◌ {A = Option Value} None (Some u) = sym none ∙ some in cc

furthers_stopped : (bytes : List ℕ) (s : Loading) (v : Value) (ws : List Word) (e : BuildRefusal) → Nodes.loaded bytes (further_items ws) (holding s v) ≡ Err e →
    (p : Spot) × StopsAt s.names s.things v ws p × (e ≡ NoSuchPath (place p))
unfolding Nodes.loaded
furthers_stopped bytes s v [] e h = cc
furthers_stopped bytes s v (w ∷ ws) e h = met (further s (value v) w.name) refl (λ u k. furthers_stopped bytes s u ws e k)
  where
    met : (x : Option Value) → further s (value v) w.name ≡ x
        → ((u : Value) → Nodes.loaded bytes (further_items ws) (holding s u) ≡ Err e → (p : Spot) × StopsAt s.names s.things u ws p × (e ≡ NoSuchPath (place p)))
        → (p : Spot) × StopsAt s.names s.things v (w ∷ ws) p × (e ≡ NoSuchPath (place p))
    met None is more =
        let k : followed (holding s v) w.spot None ≡ Err e = ap (λ y. Nodes.bound (followed (holding s v) w.spot y) (λ t. Nodes.loaded bytes (further_items ws) t)) (sym is) ∙ h in
        (w.spot, no_slot v w ws (no_link s v w.name is), (stopped (holding s v) w None e k).1)
    met (Some u) is more =
        let k : Nodes.loaded bytes (further_items ws) (holding s u) ≡ Err e =
        ap (λ y. Nodes.bound (followed (holding s v) w.spot y) (λ t. Nodes.loaded bytes (further_items ws) t)) (sym is) ∙ h in
        let l = link_found s v w.name u is in
        let c = more u k in
        (c.0, later v l.o w u ws c.0 l.is l.own c.1, c.2)

pub path_stopped : (bytes : List ℕ) (s : Loading) (e : BuildRefusal) (w : Word) (ws : List Word) → Nodes.loaded bytes (path_items w ws) s ≡ Err e →
    (p : Spot) × IsStop s.names s.things w ws p × (e ≡ NoSuchPath (place p))
unfolding Nodes.loaded
path_stopped bytes s e w ws h = elim (cases_Bool (nat_eq w.name (number_of s.names lobby_text))) [
  | inl k ↦
      let is : root s w.name ≡ Some (object 0) = rw k refl in
      let rest : Nodes.loaded bytes (further_items ws) (holding s (object 0)) ≡ Err e =
      ap (λ y. Nodes.bound (followed s w.spot y) (λ t. Nodes.loaded bytes (further_items ws) t)) (sym is) ∙ h in
      let c = furthers_stopped bytes s (object 0) ws e rest in
      (c.0, behind_lobby (eq_of w.name _ k) c.1, c.2)
  | inr k ↦
      let is : root s w.name ≡ further s (value (object 0)) w.name = rw k refl in
      let all : Nodes.loaded bytes (further_items (w ∷ ws)) (holding s (object 0)) ≡ Err e =
      ap (λ y. Nodes.bound (followed s w.spot y) (λ t. Nodes.loaded bytes (further_items ws) t)) (sym is) ∙ h in
      let c = furthers_stopped bytes s (object 0) (w ∷ ws) e all in
      (c.0, inside_lobby (ne_of w.name _ k) c.1, c.2)
]
