-- The bodies of the world of an accepted text fit.
use Rattle.std.specs.Prelude.{◌≡◌, ℕ, zero, suc, ◌+◌, ◌-◌, ◌<◌, ◌≤◌, true, false, None, Some, List, [], ◌∷◌, length, slice_get, get_or, unwrap_or, refl}
use Rattle.std.proofs.Common.{ap, sym, subst, ◌∙◌, arith}
use Rattle.self_terms.specs.declared.nodes.Node.{Node}
use Rattle.self_terms.specs.declared.nodes.Node.TheVariants as nodes
use Rattle.self_terms.specs.declared.bodies.Body.{Body}
use Rattle.self_terms.specs.Depths.{taken, depth, is_inner}
use Rattle.self_tokens.specs.Tokens.{tokens}
use Rattle.self_grammar.specs.Spelling.{world, items_of}
use Rattle.self_signs.specs.Signs.{signs, names_after}
use Rattle.source_model.specs.Soundness.{body_in, HasBody, HasOuter, Names, IsFit}
use Rattle.source_model.specs.Step.{node_at}
use Rattle.world_build.specs.Soundness.{IsSound}
use Rattle.world_build.specs.Worlds.{World}
use Rattle.world_build.proofs.Orders.{frame, Keeps}
use Rattle.world_build.proofs.Grown.{Extends, extends_same}
use Rattle.world_build.proofs.Coded.{BodyOk, AllOk}
use Rattle.world_build.proofs.Ordered.{world_code}
use Rattle.world_build.proofs.Runnable.{accepted_sound}
use Rattle.world_facts.specs.Accepted.{IsAccepted}
use Rattle.world_facts.proofs.SmallSigns.{small_signs}
use Rattle.world_code.specs.Limited.{IsLimited}
use Rattle.world_formed.proofs.Said.{world_orders}
use Rattle.world_formed.proofs.Spells.{signs_spell}

-- Lists by index.

pub at_index : {X : Type 0} (xs : List X) (k : ℕ) → k < length xs → (x : X) × (slice_get xs k ≡ Some x)
at_index [] k lt = absurd (omega arith)
at_index (x ∷ xs) zero lt = (x, refl)
at_index (x ∷ xs) (suc k) lt = at_index xs k (omega arith)

index_or : (xs : List Node) (k : ℕ) (x : Node) → slice_get xs k ≡ Some x → get_or xs k nodes.End ≡ x
index_or [] k x e = cc
index_or (y ∷ xs) zero x e = cc
index_or (y ∷ xs) (suc k) x e = index_or xs k x e

pub body_found : (bodies : List Body) (b : ℕ) (x : Body) → slice_get bodies (b - 1) ≡ Some x → body_in bodies b ≡ x
body_found bodies b x e = ap (λ o. unwrap_or o (record { name = None; outer = None; arguments = []; locals = []; nodes = []; places = [] })) e

-- what is right of the items of an accepted text
pub accepted_keeps : (bytes : List ℕ) (w : World) (a : IsAccepted bytes w) → IsLimited a.limits → Keeps (names_after a.known bytes (tokens bytes)) 0 (frame 0 0 false [] ∷ []) None (items_of (world a.limits a.text))
accepted_keeps bytes w a h = world_orders a.limits (names_after a.known bytes (tokens bytes)) (signs a.known bytes) a.text h.nesting a.is (signs_spell a.known bytes)

pub accepted_ok : (bytes : List ℕ) (w : World) (a : IsAccepted bytes w) → IsLimited a.limits → (names : List (List ℕ)) → Extends w.names names → AllOk names w.bodies w.bodies
accepted_ok bytes w a h names end =
    world_code (names_after a.known bytes (tokens bytes)) names bytes (items_of (world a.limits a.text)) w end (accepted_keeps bytes w a h) a.made

pub accepted_sounds : (bytes : List ℕ) (w : World) (a : IsAccepted bytes w) → IsLimited a.limits → (k : ℕ) (b : Body) → slice_get w.bodies k ≡ Some b → IsSound b.nodes b.places
accepted_sounds bytes w a h =
    accepted_sound a.limits (signs a.known bytes) a.text (names_after a.known bytes (tokens bytes)) bytes w h.pending h.body a.is (small_signs a.known bytes) a.made

-- A body that is sound and whose nodes name what is there.

module _ (names : List (List ℕ)) (bodies : List Body) (n : ℕ) (x : Body) (given : 0 < n) (at : slice_get bodies (n - 1) ≡ Some x) (sound : IsSound x.nodes x.places) (ok : BodyOk names bodies (n - 1) x) where
  node_is : (k : ℕ) → k < length x.nodes → (node : Node) × (slice_get x.nodes k ≡ Some node) × (node_at x k ≡ node)
  node_is k lt = let y = at_index x.nodes k lt in (y.0, y.1, index_or x.nodes k y.0 y.1)

  there : (k : ℕ) → k < length x.nodes → taken (node_at x k) ≤ depth x.nodes k
  there k lt = let y = node_is k lt in subst (λ node. taken node ≤ depth x.nodes k) (sym y.2) (sound.there k y.0 y.1)

  ends : (k : ℕ) → k < length x.nodes → is_inner (node_at x k) ≡ true → k + 1 < length x.nodes
  ends k lt inner = let y = node_is k lt in sound.ends k y.0 y.1 (ap is_inner (sym y.2) ∙ inner)

  names_there : (k : ℕ) → k < length x.nodes → Names bodies n (node_at x k)
  names_there k lt =
      let y = node_is k lt in
      let same : n - 1 + 1 ≡ n = omega arith in
      subst (λ node. Names bodies n node) (sym y.2) (subst (λ m. Names bodies m y.0) same (ok.nodes k y.0 y.1).0)

  pub body_fits : IsFit bodies n
  body_fits =
      let here : x ≡ body_in bodies n = sym (body_found bodies n x at) in
      record {
        inside = subst (λ (z : Body). HasOuter bodies z.outer) here ok.outer;
        some = subst (λ (z : Body). 0 < length z.nodes) here sound.some;
        there = subst (λ (z : Body). (k : ℕ) → k < length z.nodes → taken (node_at z k) ≤ depth z.nodes k) here there;
        ends = subst (λ (z : Body). (k : ℕ) → k < length z.nodes → is_inner (node_at z k) ≡ true → k + 1 < length z.nodes) here ends;
        names = subst (λ (z : Body). (k : ℕ) → k < length z.nodes → Names bodies n (node_at z k)) here names_there;
      }

pub accepted_fit : (bytes : List ℕ) (w : World) (a : IsAccepted bytes w) → IsLimited a.limits → (n : ℕ) → HasBody w.bodies n → IsFit w.bodies n
accepted_fit bytes w a h n has =
    let some : 0 < n = has.0 in
    let most : n ≤ length w.bodies = has.1 in
    let x = at_index w.bodies (n - 1) (omega arith) in
    body_fits w.names w.bodies n x.0 some x.1 (accepted_sounds bytes w a h (n - 1) x.0 x.1) (accepted_ok bytes w a h w.names (extends_same w.names) (n - 1) x.0 x.1)
