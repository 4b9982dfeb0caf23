-- Plain code runs the new bodies, where their words fit their fields.
use Rattle.std.proofs.Common.{◌≡◌, ℕ, zero, suc, ◌+◌, ◌-◌, ◌*◌, ◌/◌, ◌<◌, ◌≤◌, refl, ◌∙◌, ap, subst, arith, Bool, true, false, List, [], ◌∷◌, ◌++◌, length, map, length-append}
use Rattle.std.specs.Prelude.{Option, Some, nat_le, if◌then◌else◌, slice_get, get_or, unwrap_or}
use Rattle.std.proofs.lemmas.Grind.{common_steps}
use Rattle.std.proofs.lemmas.List.{length-map}
use Rattle.std.proofs.lemmas.Option.{slice_get-get_or, slice_get_within, get_or_from_slice_get}
use Rattle.self_terms.specs.declared.bodies.Body.{Body}
use Rattle.self_terms.specs.declared.bodies.Local.{Local}
use Rattle.self_terms.specs.declared.nodes.Node.{Node}
use Rattle.self_terms.specs.declared.nodes.Node.TheVariants as nodes
use Rattle.self_terms.specs.declared.values.Datum.{Datum}
use Rattle.self_terms.specs.declared.values.Datum.TheVariants as datum
use Rattle.self_terms.specs.Depths.{taken, grown, depth, depth_from, is_inner}
use Rattle.source_model.specs.declared.objects.Content.TheVariants.{Method}
use Rattle.source_model.specs.declared.objects.Thing.{Thing}
use Rattle.source_model.specs.declared.objects.Thing.TheVariants.{Text}
use Rattle.source_model.specs.Canon.{Each}
use Rattle.source_model.specs.Formed.{Says, IsGiven, IsSaid, IsWellFormed}
use Rattle.source_model.specs.Objects.{replaced, with_slots, changed_at}
use Rattle.source_model.specs.Soundness.{body_in, HasBody, IsFit}
use Rattle.source_model.specs.State.{State}
use Rattle.source_model.specs.Step.{node_at}
use Rattle.source_model.proofs.Keeping.{slice_each, InSome}
use Rattle.source_model.proofs.MoreBodies.{no_body}
use Rattle.plain_words.specs.Translating.{CanTranslate}
use Rattle.plain_words.specs.Units.{larger, deepest, frame_locals, frame_words}
use Rattle.plain_runs.specs.Host.{Host}
use Rattle.plain_runs.specs.Sound.{NamesObject, HoldsObject, IsRunnable}
use Rattle.plain_runs.proofs.Located.{slice_behind}
use Rattle.plain_steps.specs.Steps.{StandsFor}
use Rattle.raw_steps.specs.Stands.{Sense}
use Rattle.plain_edits.specs.Edits.{Edit, IsAccepted, NewTranslate}
use Rattle.plain_edits.specs.Resting.{edited_by}
use Rattle.plain_edits.proofs.Coming.{edits_form}
use Rattle.plain_edits.proofs.Passing.{NewRun}

-- A frame has room for the locals and the pending values of its body.

larger_left : (a b : ℕ) → a ≤ larger a b
larger_left a b = by (nat_le a b) refl
  where
    by : (t : Bool) → nat_le a b ≡ t → a ≤ (if t then b else a)
    by true e = grind (arith, common_steps)
    by false e = omega arith

larger_right : (a b : ℕ) → b ≤ larger a b
larger_right a b = by (nat_le a b) refl
  where
    by : (t : Bool) → nat_le a b ≡ t → b ≤ (if t then b else a)
    by true e = omega arith
    by false e = grind (arith, common_steps)

deepest_from : (k : ℕ) (list : List Node) (n : ℕ) → depth_from k list n ≤ deepest k list
deepest_from k [] n = omega arith
deepest_from k (x ∷ xs) zero = larger_left k (deepest (grown x k) xs)
deepest_from k (x ∷ xs) (suc n) =
    let rest : depth_from (grown x k) xs n ≤ deepest (grown x k) xs = deepest_from (grown x k) xs n in
    let more : deepest (grown x k) xs ≤ larger k (deepest (grown x k) xs) = larger_right k (deepest (grown x k) xs) in
    omega arith

depth_within : (list : List Node) (n : ℕ) → depth list n ≤ deepest 0 list
unfolding depth
depth_within list n = deepest_from 0 list n

even_room : (a d k : ℕ) → k ≤ d → 28 + a + k ≤ 2 * ((29 + a + d) / 2)
even_room a d k le = omega arith

frame_room : (x : Body) (n : ℕ) → 28 + frame_locals x + depth x.nodes n ≤ frame_words x
frame_room x n = even_room (frame_locals x) (deepest 0 x.nodes) (depth x.nodes n) (depth_within x.nodes n)

-- What a body says is there.

said_named : (names : List (List ℕ)) (many : ℕ) (node : Node) → Says names many node → NamesObject many node
said_named names many (nodes.Str o) is = is
said_named names many (nodes.Int i) is = tt
said_named names many (nodes.BlockLit b) is = tt
said_named names many nodes.SelfRef is = tt
said_named names many nodes.Nil is = tt
said_named names many (nodes.Read up slot) is = tt
said_named names many (nodes.Store up slot) is = tt
said_named names many (nodes.Send sel) is = tt
said_named names many (nodes.SelfSend sel) is = tt
said_named names many (nodes.Resend sel) is = tt
said_named names many (nodes.Directed parent sel) is = tt
said_named names many (nodes.Prim name args implied handler) is = tt
said_named names many nodes.Drop is = tt
said_named names many nodes.Restart is = tt
said_named names many nodes.Return is = tt
said_named names many nodes.NonLocal is = tt
said_named names many nodes.End is = tt

given_held : (many : ℕ) (d : Datum) → IsGiven many d → HoldsObject many d
given_held many (datum.Integer i) is = tt
given_held many (datum.Object o) is = is
given_held many datum.Nil is = tt

each_at : {A : Type 0} (P : A → Type 0) (xs : List A) (k : ℕ) (y : A) → Each P xs → slice_get xs k ≡ Some y → P y
each_at P xs k y each is = subst (InSome P) is (slice_each P xs k each)

body_runs : (names : List (List ℕ)) (many : ℕ) (bodies : List Body) (b : ℕ) (x : Body) → body_in bodies b ≡ x → IsFit bodies b → IsSaid names many x → CanTranslate x → IsRunnable many x
body_runs names many bodies b x body fit said translates =
    let there = subst (λ (y : Body). (k : ℕ) → k < length y.nodes → taken (node_at y k) ≤ depth y.nodes k) body fit.there in
    let ends = subst (λ (y : Body). (k : ℕ) → k < length y.nodes → is_inner (node_at y k) ≡ true → k + 1 < length y.nodes) body fit.ends in
    let node_is : (n : ℕ) (node : Node) → slice_get x.nodes n ≡ Some node → node_at x n ≡ node = λ n node is. get_or_from_slice_get x.nodes n node nodes.End is in
    record {
      takes = λ n node is. subst (λ (y : Node). taken y ≤ depth x.nodes n) (node_is n node is) (there n (slice_get_within x.nodes n node is));
      room = frame_room x;
      ends = λ n node is inner.
          (let more : n + 1 < length x.nodes = ends n (slice_get_within x.nodes n node is) (ap is_inner (node_is n node is) ∙ inner) in (get_or x.nodes (n + 1) nodes.End, slice_get-get_or x.nodes (n + 1) nodes.End more));
      translates = translates;
      names = λ n node is. said_named names many node (each_at (Says names many) x.nodes n node said.said is);
      holds = λ k y is. given_held many y.initial (each_at (λ (w : Local). IsGiven many w.initial) x.locals k y said.initials is);
    }

changed_long : (f : Thing → Thing) (o : ℕ) (xs : List Thing) → length (changed_at f o xs) ≡ length xs
changed_long f o [] = refl
changed_long f zero (x ∷ xs) = refl
changed_long f (suc o) (x ∷ xs) = ap suc (changed_long f o xs)

pub new_run : (z : Sense) (h : Host) (s : State) (path : List (List ℕ)) (e : Edit) (o : ℕ) → StandsFor z h s → IsWellFormed s → IsAccepted s path e o → NewTranslate e → NewRun h e
new_run z h s path e o f formed accepted translate k x is =
    let u = edited_by e o s in
    let done = edits_form s path e o accepted formed in
    let strings = e.text.strings in
    let texts : List Thing = map Text strings in
    let texts_long : length texts ≡ length strings = length-map strings Text in
    let many : length u.things ≡ h.next + length strings =
    omega (arith, changed_long (with_slots (replaced e.text.name (Method (record { 0 = length s.bodies + 1 })))) o (s.things ++ texts), length-append s.things texts, texts_long, f.stands.heap.numbered) in
    let b = length s.bodies + 1 + k in
    let at : slice_get u.bodies (length s.bodies + k) ≡ Some x = slice_behind s.bodies e.bodies (length s.bodies) k refl ∙ is in
    let place : b - 1 ≡ length s.bodies + k = omega arith in
    let body : body_in u.bodies b ≡ x = ap (λ (q : Option Body). unwrap_or q no_body) (ap (slice_get u.bodies) place ∙ at) in
    let has : HasBody u.bodies b = (omega arith, omega (arith, slice_get_within e.bodies k x is, length-append s.bodies e.bodies)) in
    subst (λ (n : ℕ). IsRunnable n x) many
    (body_runs s.names (length u.things) u.bodies b x body (done.1.well.bodies b has) (each_at (IsSaid s.names (length u.things)) u.bodies (length s.bodies + k) x done.1.world.1.code at) (translate k x is))
