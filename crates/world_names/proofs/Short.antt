-- The names of the bodies of an accepted world are short.
use Rattle.std.specs.Prelude.{◌≡◌, ℕ, ◌+◌, ◌-◌, ◌≤◌, Option, None, Some, List, [], ◌∷◌, ◌++◌, length, map, flat_map, slice_get, unwrap_or, refl}
use Rattle.std.proofs.Common.{ap, subst, arith, length-append}
use Rattle.std.proofs.lemmas.List.{map-append}
use Rattle.self_terms.specs.declared.bodies.Body.{Body}
use Rattle.self_terms.specs.declared.bodies.Local.{Local}
use Rattle.self_terms.specs.Names.{with_text}
use Rattle.self_tokens.specs.Tokens.{tokens}
use Rattle.self_grammar.specs.declared.pieces.Item.{Item}
use Rattle.self_grammar.specs.Spelling.{world, items_of}
use Rattle.self_signs.specs.Signs.{signs, names_after}
use Rattle.source_model.specs.Names.{text_named}
use Rattle.source_model.specs.Lines.{local_names, selector_text}
use Rattle.source_model.specs.Soundness.{body_in}
use Rattle.session_text.specs.Frames.{HasShortNames}
use Rattle.world_blocks.specs.Sessions.{session_texts, with_texts, session_names}
use Rattle.world_build.specs.Loading.{begun}
use Rattle.world_build.specs.Nodes
use Rattle.world_build.specs.Worlds.{World}
use Rattle.world_build.proofs.BodyWeights.{weight, sum_of, sum_both, weight_of, weight_at, AreCarried, bodies_load}
use Rattle.world_build.proofs.Grown.{Extends, extends_same, extends_then, extends_text, extends_world, loaded_later}
use Rattle.world_build.proofs.Ordered.{made_of}
use Rattle.world_facts.specs.Accepted.{IsAccepted}
use Rattle.world_names.proofs.Worths.{worth_of_text}
use Rattle.world_names.proofs.Spelled.{signs_weigh}

-- The names of a session stand behind those of its world.

extends_session : (ts names : List (List ℕ)) → Extends names (with_texts names ts)
extends_session [] names = extends_same names
extends_session (t ∷ ts) names = extends_then names (with_text names t) (with_texts (with_text names t) ts) (extends_text names t) (extends_session ts (with_text names t))

extends_names : (w : World) → Extends w.names (session_names w)
unfolding session_names
extends_names w = extends_session session_texts w.names

-- What bodies weigh.

-- by the name of their slot,
abbrev name_weight : (ℕ → ℕ) → Option ℕ → ℕ
name_weight w None = 0
name_weight w (Some n) = w n

abbrev slot_weight : (ℕ → ℕ) → Body → ℕ
slot_weight w x = name_weight w x.name

slot_carried : (w : ℕ → ℕ) → AreCarried w w (λ n. 0) (slot_weight w)
slot_carried w = record {
  fresh = λ o ns. omega arith;
  node = λ n p x. omega arith;
  argument = λ n x. omega arith;
  name = λ n x. omega arith;
  more = λ y x. omega arith;
  split = λ n. omega arith;
}

-- and by the names of their arguments and locals
abbrev locals_weight : (ℕ → ℕ) → Body → ℕ
locals_weight w x = sum_of w (local_names x)

more_arguments : (w : ℕ → ℕ) (n : ℕ) (ns ms : List ℕ) → sum_of w ((ns ++ n ∷ []) ++ ms) ≤ sum_of w (ns ++ ms) + w n
more_arguments w n ns ms = omega (arith, sum_both w (ns ++ n ∷ []) ms, sum_both w ns (n ∷ []), sum_both w ns ms)

more_locals : (w : ℕ → ℕ) (y : Local) (ns : List ℕ) (ys : List Local) → sum_of w (ns ++ map (λ (x : Local). x.name) (ys ++ y ∷ [])) ≤ sum_of w (ns ++ map (λ (x : Local). x.name) ys) + w y.name
more_locals w y ns ys =
    let names : Local → ℕ = λ x. x.name in
    let parts = ap (sum_of w) (map-append names ys (y ∷ [])) in
    omega (arith, parts, sum_both w ns (map names (ys ++ y ∷ [])), sum_both w ns (map names ys), sum_both w (map names ys) (y.name ∷ []))

locals_carried : (w : ℕ → ℕ) → AreCarried w (λ n. 0) w (locals_weight w)
locals_carried w = record {
  fresh = λ o ns. omega (arith, sum_both w ns []);
  node = λ n p x. omega arith;
  argument = λ n x. more_arguments w n x.arguments (map (λ (y : Local). y.name) x.locals);
  name = λ n x. omega arith;
  more = λ y x. more_locals w y x.arguments x.locals;
  split = λ n. omega arith;
}

-- Bodies by their numbers, and none.

abbrev empty : Body
empty = record { name = None; outer = None; arguments = []; locals = []; nodes = []; places = [] }

weight_in : (m : Body → ℕ) (bodies : List Body) (b : ℕ) → m empty ≡ 0 → m (body_in bodies b) ≤ weight_of m bodies
weight_in m bodies b none = by (slice_get bodies (b - 1)) refl
  where
    by : (o : Option Body) → slice_get bodies (b - 1) ≡ o → m (unwrap_or o empty) ≤ weight_of m bodies
    by None e = omega (arith, none)
    by (Some x) e = weight_at m bodies (b - 1) x e

-- `block`, or the name of a slot
selector_size : (names : List (List ℕ)) (o : Option ℕ) → length (selector_text names o) ≤ name_weight (weight names) o + 5
selector_size names None = omega arith
selector_size names (Some n) = omega arith

texts_size : (names : List (List ℕ)) (ns : List ℕ) → length (flat_map (text_named names) ns) ≡ sum_of (weight names) ns
texts_size names [] = refl
texts_size names (n ∷ ns) = omega (arith, length-append (text_named names n) (flat_map (text_named names) ns), texts_size names ns)

-- All bodies of the world of a text weigh no more than its bytes.
bodies_weigh : (bytes : List ℕ) (w : World) → IsAccepted bytes w → (named local : ℕ → ℕ) (m : Body → ℕ) → AreCarried (weight (session_names w)) named local m → weight_of m w.bodies ≤ length bytes
bodies_weigh bytes w a named local m k =
    let all : List (List ℕ) = session_names w in
    let first : List (List ℕ) = names_after a.known bytes (tokens bytes) in
    let given : List Item = items_of (world a.limits a.text) in
    let made = made_of (Nodes.loaded bytes given (begun first)) w a.made in
    let within : Extends made.loading.names all = subst (λ ns. Extends ns all) (ap (λ (x : World). x.names) made.is) (extends_names w) in
    let later : Extends (begun first).names made.loading.names = (loaded_later bytes given (begun first) made.loading made.was).names in
    let ends : Extends first all = extends_then first made.loading.names all (extends_then first (begun first).names made.loading.names (extends_world first) later) within in
    let same : weight_of m w.bodies ≡ weight_of m made.loading.bodies = ap (λ (x : World). weight_of m x.bodies) made.is in
    omega (
      arith,
      same,
      bodies_load all named local m k bytes given first made.loading made.was within,
      worth_of_text (weight all) a.limits (signs a.known bytes) a.text a.is,
      signs_weigh a.known all bytes ends,
    )

pub accepted_short : (bytes : List ℕ) (w : World) → length bytes ≤ 1048576 → IsAccepted bytes w → (b : ℕ) → HasShortNames (session_names w) (body_in w.bodies b)
accepted_short bytes w size a b =
    let all : List (List ℕ) = session_names w in
    let of : ℕ → ℕ = weight all in
    let x : Body = body_in w.bodies b in
    record {
      slot = omega (
        arith,
        size,
        selector_size all x.name,
        weight_in (slot_weight of) w.bodies b refl,
        bodies_weigh bytes w a of (λ n. 0) (slot_weight of) (slot_carried of),
      );
      locals = omega (
        arith,
        size,
        texts_size all (local_names x),
        weight_in (locals_weight of) w.bodies b refl,
        bodies_weigh bytes w a (λ n. 0) of (locals_weight of) (locals_carried of),
      );
    }
