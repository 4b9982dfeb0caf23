-- The bodies of the world of an accepted text are bodies that plain code runs.
use Rattle.std.specs.Prelude.{◌≡◌, ℕ, zero, suc, ◌+◌, ◌-◌, ◌<◌, ◌≤◌, ℤ, Option, None, Some, List, [], ◌∷◌, length, slice_get, unwrap_or, refl}
use Rattle.std.proofs.Common.{ap, sym, subst, ◌∙◌, arith}
use Rattle.self_terms.specs.declared.nodes.Node.{Node}
use Rattle.self_terms.specs.declared.nodes.Node.TheVariants as nodes
use Rattle.self_terms.specs.declared.values.Datum.{Datum}
use Rattle.self_terms.specs.declared.values.Datum.TheVariants.{Integer as integer, Object as object, Nil as nil}
use Rattle.self_terms.specs.declared.bodies.Body.{Body}
use Rattle.self_terms.specs.declared.bodies.Local.{Local}
use Rattle.self_terms.specs.Words.{IsSmall}
use Rattle.self_terms.specs.Depths.{depth}
use Rattle.self_tokens.specs.Tokens.{tokens}
use Rattle.self_grammar.specs.declared.pieces.Item.{Item}
use Rattle.self_grammar.specs.Spelling.{world, items_of}
use Rattle.self_signs.specs.Signs.{signs, names_after}
use Rattle.source_model.specs.Soundness.{body_in}
use Rattle.world_build.specs.Soundness.{IsSound}
use Rattle.world_build.specs.Worlds.{World}
use Rattle.world_build.proofs.DataIntegers.{world_data}
use Rattle.world_build.proofs.Runnable.{accepted_sound}
use Rattle.world_facts.specs.Accepted.{IsAccepted}
use Rattle.world_facts.proofs.SmallSigns.{small_signs}
use Rattle.plain_words.specs.Translating.{IsShort, IsSmallDatum}
use Rattle.plain_runs.specs.Sound.{NamesObject, HoldsObject, IsRunnable}
use Rattle.world_code.specs.Limited.{IsLimited}
use Rattle.world_build.proofs.Right.{Right, world_right}
use Rattle.world_code.proofs.Limited.{world_keeps}
use Rattle.world_build.proofs.Contents.{There}
use Rattle.world_build.proofs.Shapes.{IsFewShape, shape}
use Rattle.world_build.proofs.Sure.{Short, Sure}
use Rattle.world_code.proofs.Rooms.{frames_have_room}

-- A body.

at_index : {X : Type 0} (xs : List X) (k : ℕ) → k < length xs → (x : X) × (slice_get xs k ≡ Some x)
at_index [] k lt = absurd (omega arith)
at_index (x ∷ xs) zero lt = (x, refl)
at_index (x ∷ xs) (suc k) lt = at_index xs k (omega arith)

short_node : (n k : ℕ) (list : List Node) (node : Node) → ((i : ℤ) → slice_get list k ≡ Some (nodes.Int i) → IsSmall i) → slice_get list k ≡ Some node → Short n node → IsShort 64 node
short_node n k list (nodes.Int i) small at h = small i at
short_node n k list (nodes.Str o) small at h = tt
short_node n k list nodes.SelfRef small at h = tt
short_node n k list nodes.Nil small at h = tt
short_node n k list (nodes.Read up slot) small at h = h
short_node n k list (nodes.Store up slot) small at h = h
short_node n k list (nodes.Send sel) small at h = h
short_node n k list (nodes.SelfSend sel) small at h = h
short_node n k list (nodes.Resend sel) small at h = h
short_node n k list (nodes.Directed parent sel) small at h = h
short_node n k list nodes.Drop small at h = tt
short_node n k list nodes.Restart small at h = tt
short_node n k list nodes.Return small at h = tt
short_node n k list nodes.NonLocal small at h = tt
short_node n k list nodes.End small at h = tt
short_node n k list (nodes.BlockLit b) small at h = tt
short_node n k list (nodes.Prim name args implied handler) small at h = h

names_there : (n objects : ℕ) (node : Node) → n ≤ objects → Short n node → NamesObject objects node
names_there n objects (nodes.Int i) le h = tt
names_there n objects (nodes.Str o) le h = omega arith
names_there n objects nodes.SelfRef le h = tt
names_there n objects nodes.Nil le h = tt
names_there n objects (nodes.Read up slot) le h = tt
names_there n objects (nodes.Store up slot) le h = tt
names_there n objects (nodes.Send sel) le h = tt
names_there n objects (nodes.SelfSend sel) le h = tt
names_there n objects (nodes.Resend sel) le h = tt
names_there n objects (nodes.Directed parent sel) le h = tt
names_there n objects nodes.Drop le h = tt
names_there n objects nodes.Restart le h = tt
names_there n objects nodes.Return le h = tt
names_there n objects nodes.NonLocal le h = tt
names_there n objects nodes.End le h = tt
names_there n objects (nodes.BlockLit b) le h = tt
names_there n objects (nodes.Prim name args implied handler) le h = tt

small_datum : (n : ℕ) (v : Datum) → There n v → IsSmallDatum v
small_datum n (integer z) h = h
small_datum n (object o) h = tt
small_datum n nil h = tt

holds_there : (n objects : ℕ) (v : Datum) → n ≤ objects → There n v → HoldsObject objects v
holds_there n objects (integer z) le h = tt
holds_there n objects (object o) le h = omega arith
holds_there n objects nil le h = tt

body_runnable : (n objects : ℕ) (x : Body) → n ≤ objects → IsSound x.nodes x.places → IsFewShape (shape x) → Sure n x → IsRunnable objects x
body_runnable n objects x le sound few sure = record {
  takes = sound.there;
  room = frames_have_room x;
  ends = λ k node at inner. at_index x.nodes (k + 1) (sound.ends k node at inner);
  translates = record {
    arguments = few.0;
    locals = few.1;
    few = sound.few;
    deep = sound.room;
    short = λ k node at. short_node n k x.nodes node (sound.small k) at (sure.nodes k node at);
    initial = λ k y at. small_datum n y.initial (sure.locals k y at);
  };
  names = λ k node at. names_there n objects node le (sure.nodes k node at);
  holds = λ k y at. holds_there n objects y.initial le (sure.locals k y at);
}

no_depth : (k : ℕ) → depth [] k ≤ 64
unfolding depth
no_depth k = omega arith

-- A number that no body has stands for an empty body.
empty_runnable : (objects : ℕ) (x : Body) → x.arguments ≡ [] → x.locals ≡ [] → x.nodes ≡ [] → IsRunnable objects x
empty_runnable objects x a l e = record {
  takes = λ k node at. absurd (none k node at);
  room = frames_have_room x;
  ends = λ k node at inner. absurd (none k node at);
  translates = record {
    arguments = (let n : length x.arguments ≡ 0 = ap length a in omega arith);
    locals = (let n : length x.locals ≡ 0 = ap length l in omega arith);
    few = (let n : length x.nodes ≡ 0 = ap length e in omega arith);
    deep = λ k. subst (λ list. depth list k ≤ 64) (sym e) (no_depth k);
    short = λ k node at. absurd (none k node at);
    initial = λ k y at. absurd (no_local k y at);
  };
  names = λ k node at. absurd (none k node at);
  holds = λ k y at. absurd (no_local k y at);
}
  where
    none : (k : ℕ) (node : Node) → slice_get x.nodes k ≡ Some node → ⊥
    none k node at = let no : None ≡ Some node = ap (λ list. slice_get list k) (sym e) ∙ at in cc

    no_local : (k : ℕ) (y : Local) → slice_get x.locals k ≡ Some y → ⊥
    no_local k y at = let no : None ≡ Some y = ap (λ list. slice_get list k) (sym l) ∙ at in cc

number_runnable : (n objects : ℕ) (bodies : List Body) (b : ℕ) → n ≤ objects → ((k : ℕ) (x : Body) → slice_get bodies k ≡ Some x → IsSound x.nodes x.places) → Right n bodies → IsRunnable objects (body_in bodies b)
number_runnable n objects bodies b le sound right = by (slice_get bodies (b - 1)) refl
  where
    by : (o : Option Body) → slice_get bodies (b - 1) ≡ o → IsRunnable objects (unwrap_or o (record { name = None; outer = None; arguments = []; locals = []; nodes = []; places = [] }))
    by None e = empty_runnable objects _ refl refl refl
    by (Some x) e = body_runnable n objects x le (sound (b - 1) x e) (right.few (b - 1) x e) (right.sure (b - 1) x e)

-- Each body of the world of an accepted text.
pub accepted_runnable : (bytes : List ℕ) (w : World) (a : IsAccepted bytes w) → IsLimited a.limits → (b : ℕ) → IsRunnable (length w.things) (body_in w.bodies b)
accepted_runnable bytes w a h b =
    let names : List (List ℕ) = names_after a.known bytes (tokens bytes) in
    let given = signs a.known bytes in
    let is : List Item = items_of (world a.limits a.text) in
    let small = small_signs a.known bytes in
    let right = world_right names bytes is w (world_keeps a.limits given a.text h.arguments h.locals h.nesting a.is) (world_data a.limits IsSmall given a.text a.is small) a.made in
    number_runnable right.0 (length w.things) w.bodies b right.1 (accepted_sound a.limits given a.text names bytes w h.pending h.body a.is small a.made) right.2
