-- A session over the world of an accepted text begins well.
use Rattle.std.specs.Prelude.{◌≡◌, ℕ, suc, ◌≤◌, ◌++◌, Some, List, [], ◌∷◌, length, slice_get, codes, refl}
use Rattle.std.proofs.Common.{arith}
use Rattle.self_terms.specs.declared.nodes.Node.{Node}
use Rattle.self_terms.specs.declared.nodes.Node.TheVariants as nodes
use Rattle.self_terms.specs.declared.values.Datum.{Datum}
use Rattle.self_terms.specs.declared.values.Datum.TheVariants.{Integer as integer, Object as object, Nil as nil}
use Rattle.self_terms.specs.declared.bodies.Body.{Body}
use Rattle.self_terms.specs.declared.bodies.Local.{Local}
use Rattle.self_terms.specs.Words.{IsSmall}
use Rattle.self_tokens.specs.Tokens.{tokens}
use Rattle.self_grammar.specs.declared.pieces.Item.{Item}
use Rattle.self_grammar.specs.Spelling.{world, items_of}
use Rattle.self_signs.specs.Signs.{signs, names_after}
use Rattle.source_model.specs.Names.{number_of}
use Rattle.source_model.specs.Canon.{Each}
use Rattle.source_model.specs.Formed.{Takes, Says, IsGiven, IsSaid, ThingFits, ThingHolds, IsPlain, IsCore, CanBegin, IsWellFormed}
use Rattle.source_model.proofs.Beginning.{begins}
use Rattle.world_build.specs.Worlds.{World}
use Rattle.world_build.specs.Soundness.{IsSound}
use Rattle.world_build.proofs.DataIntegers.{world_data}
use Rattle.world_build.proofs.Contents.{There}
use Rattle.world_build.proofs.Sure.{Short, Sure}
use Rattle.world_build.proofs.Right.{world_right}
use Rattle.world_build.proofs.Grown.{Extends}
use Rattle.world_build.proofs.Coded.{Said, BodyOk}
use Rattle.world_build.proofs.Ordered.{world_slots, world_values, world_fixed, named_there, world_cores}
use Rattle.world_state.specs.Begun.{begun}
use Rattle.world_facts.specs.Accepted.{IsAccepted}
use Rattle.world_facts.proofs.SmallSigns.{small_signs}
use Rattle.world_code.specs.Limited.{IsLimited}
use Rattle.world_code.proofs.Limited.{world_keeps}
use Rattle.world_formed.proofs.Fits.{accepted_keeps, accepted_ok, accepted_sounds, accepted_fit}

behind : (w : World) (more : List (List ℕ)) → Extends w.names (w.names ++ more)
behind w more = record { more = more; is = refl }

pub each_of : {X : Type 0} (P : X → Type 0) (xs : List X) → ((i : ℕ) (x : X) → slice_get xs i ≡ Some x → P x) → Each P xs
each_of P [] h = tt
each_of P (x ∷ xs) h = (h 0 x refl, each_of P xs (λ i y e. h (suc i) y e))

-- What bodies say.

node_says : (names : List (List ℕ)) (n things : ℕ) (node : Node) → n ≤ things → Short n node → Said names node → Says names things node
node_says names n things (nodes.Int i) le s h = tt
node_says names n things (nodes.Str o) le s h = omega arith
node_says names n things nodes.SelfRef le s h = tt
node_says names n things nodes.Nil le s h = tt
node_says names n things (nodes.Read up slot) le s h = tt
node_says names n things (nodes.Store up slot) le s h = tt
node_says names n things (nodes.Send sel) le s h = h
node_says names n things (nodes.SelfSend sel) le s h = h
node_says names n things (nodes.Resend sel) le s h = h
node_says names n things (nodes.Directed parent sel) le s h = h
node_says names n things nodes.Drop le s h = tt
node_says names n things nodes.Restart le s h = tt
node_says names n things nodes.Return le s h = tt
node_says names n things nodes.NonLocal le s h = tt
node_says names n things nodes.End le s h = tt
node_says names n things (nodes.BlockLit b) le s h = tt
node_says names n things (nodes.Prim name args implied handler) le s h = h

datum_given : (n things : ℕ) (v : Datum) → n ≤ things → There n v → IsGiven things v
datum_given n things (integer z) le h = tt
datum_given n things (object o) le h = omega arith
datum_given n things nil le h = tt

body_says : (names : List (List ℕ)) (bodies : List Body) (n things k : ℕ) (x : Body) → n ≤ things → Sure n x → BodyOk names bodies k x → IsSound x.nodes x.places → IsSaid names things x
body_says names bodies n things k x le sure ok sound = record {
  said = each_of (Says names things) x.nodes (λ j node at. node_says names n things node le (sure.nodes j node at) (ok.nodes j node at).1);
  placed = sound.placed;
  initials = each_of (λ (y : Local). IsGiven things y.initial) x.locals (λ j y at. datum_given n things y.initial le (sure.locals j y at));
}

pub accepted_says : (bytes : List ℕ) (w : World) (a : IsAccepted bytes w) → IsLimited a.limits → (more : List (List ℕ)) → Each (IsSaid (w.names ++ more) (length w.things)) w.bodies
accepted_says bytes w a h more =
    let first : List (List ℕ) = names_after a.known bytes (tokens bytes) in
    let given = signs a.known bytes in
    let is : List Item = items_of (world a.limits a.text) in
    let right = world_right first bytes is w (world_keeps a.limits given a.text h.arguments h.locals h.nesting a.is) (world_data a.limits IsSmall given a.text a.is (small_signs a.known bytes)) a.made in
    each_of (IsSaid (w.names ++ more) (length w.things)) w.bodies
    (λ k x at. body_says (w.names ++ more) w.bodies right.0 (length w.things) k x right.1 (right.2.sure k x at) (accepted_ok bytes w a h (w.names ++ more) (behind w more) k x at) (accepted_sounds bytes w a h k x at))

-- Objects.

pub accepted_things : (bytes : List ℕ) (w : World) (a : IsAccepted bytes w) → IsLimited a.limits → (more : List (List ℕ)) → Each (ThingFits (w.names ++ more) w.bodies) w.things
accepted_things bytes w a h more =
    world_slots (names_after a.known bytes (tokens bytes)) (w.names ++ more) bytes (items_of (world a.limits a.text)) w (behind w more) (accepted_keeps bytes w a h) a.made

pub accepted_values : (bytes : List ℕ) (w : World) → IsAccepted bytes w → Each (ThingHolds (IsPlain (length w.things))) w.things
accepted_values bytes w a =
    world_values (names_after a.known bytes (tokens bytes)) bytes (items_of (world a.limits a.text)) w (world_data a.limits IsSmall (signs a.known bytes) a.text a.is (small_signs a.known bytes)) a.made

-- States.

pub accepted_core : (bytes : List ℕ) (w : World) → IsAccepted bytes w → (names : List (List ℕ)) → Takes names (number_of names (codes "value:With:")) 2 → IsCore names w.core w.objects (length w.things)
accepted_core bytes w a names failure =
    let first : List (List ℕ) = names_after a.known bytes (tokens bytes) in
    let is : List Item = items_of (world a.limits a.text) in
    let c = world_cores first bytes is w a.made in
    record {
      nil = named_there w (codes "nil") w.core.nil c.nil;
      yes = named_there w (codes "true") w.core.yes c.yes;
      no = named_there w (codes "false") w.core.no c.no;
      integers = named_there w (codes "integerTraits") w.core.integers c.integers;
      strings = named_there w (codes "stringTraits") w.core.strings c.strings;
      vectors = named_there w (codes "vectorTraits") w.core.vectors c.vectors;
      blocks = named_there w (codes "blockTraits") w.core.blocks c.blocks;
      fixed = world_fixed first bytes is w a.made;
      failure = failure;
    }

pub accepted_begins : (bytes : List ℕ) (w : World) (a : IsAccepted bytes w) → IsLimited a.limits → (more : List (List ℕ)) (advisors : ℕ) → Takes (w.names ++ more) (number_of (w.names ++ more) (codes "value:With:")) 2 →
    CanBegin (begun w (w.names ++ more) advisors)
accepted_begins bytes w a h more advisors failure = record {
  none = refl;
  bodies = accepted_fit bytes w a h;
  values = accepted_values bytes w a;
  world = (accepted_core bytes w a (w.names ++ more) failure, record { code = accepted_says bytes w a h more; slots = accepted_things bytes w a h more });
}

pub accepted_formed : (bytes : List ℕ) (w : World) (a : IsAccepted bytes w) → IsLimited a.limits → (more : List (List ℕ)) (advisors : ℕ) → Takes (w.names ++ more) (number_of (w.names ++ more) (codes "value:With:")) 2 →
    IsWellFormed (begun w (w.names ++ more) advisors)
accepted_formed bytes w a h more advisors failure = begins (begun w (w.names ++ more) advisors) (accepted_begins bytes w a h more advisors failure)
