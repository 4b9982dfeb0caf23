-- Nodes that are done in words.
use Rattle.std.proofs.Common.{◌≡◌, ℕ, suc, ◌+◌, ◌*◌, ◌<◌, refl, ◌∙◌, ap, sym, subst, arith}
use Rattle.std.specs.Prelude.{true, List, [], ◌∷◌, length, Some, slice_get, ℤ}
use Rattle.std.proofs.lemmas.Option.{slice_get-get_or}
use Rattle.self_terms.specs.declared.nodes.Node.{Node}
use Rattle.self_terms.specs.declared.nodes.Node.TheVariants as nodes
use Rattle.self_terms.specs.Words.{IsSmall, word_of}
use Rattle.self_terms.specs.Depths.{grown, depth, depth_from, is_inner}
use Rattle.sparc_machine.specs.State.{MachineState}
use Rattle.source_model.specs.State.{State}
use Rattle.source_model.specs.Soundness.{body_in}
use Rattle.source_model.specs.Step.{step}
use Rattle.frame_walk.specs.Raw.{Thread, Going, Raw, becomes, moved_on}
use Rattle.raw_steps.specs.Stands.{Sense, Stands, Follows as RawFollows}
use Rattle.raw_steps.specs.Meeting.{HasCore}
use Rattle.raw_steps.proofs.Fixed.{step_fixed}
use Rattle.raw_steps.proofs.Lasting.{core_lasts}
use Rattle.raw_steps.proofs.Simple.{int_follows, string_follows, nil_follows, self_follows, drop_follows}
use Rattle.plain_words.specs.Moves.{Does, pended}
use Rattle.plain_words.specs.Showing.{viewed}
use Rattle.plain_words.specs.Units.{frame_locals, frame_words, object_word}
use Rattle.plain_words.proofs.Simple.{constant_does, self_does, drop_does}
use Rattle.plain_runs.specs.Host.{Host, raw_of}
use Rattle.plain_runs.specs.Sound.{RunsAt, callers_of}
use Rattle.plain_runs.specs.Course.{with_machine, CanGo, code_at, Follows}
use Rattle.plain_runs.proofs.Ready.{ready_at, pended_follow, dropped_follow}
use Rattle.plain_runs.proofs.Popping.{depth_after}
use Rattle.plain_steps.specs.Steps.{NamesSums, StandsFor, DoesStep, WordsDo, Always}
use Rattle.plain_steps.proofs.Here.{at_node_of}

pub depth_is : (nodes : List Node) (n : ℕ) → depth nodes n ≡ depth_from 0 nodes n
unfolding depth
depth_is nodes n = refl

pub depth_more : (nodes : List Node) (n : ℕ) (node : Node) → slice_get nodes n ≡ Some node → depth nodes (n + 1) ≡ grown node (depth nodes n)
unfolding depth
depth_more nodes n node e = ap (depth_from 0 nodes) (omega arith) ∙ depth_after nodes n 0 node e

-- A host that shows the raw state after a step, with the same bodies and references, stands for the state after it.
pub stands_after : (z : Sense) (h to : Host) (s : State) (r : Raw) → StandsFor z h s → raw_of to ≡ r → r.maps ≡ h.maps → to.bodies ≡ h.bodies → to.references ≡ h.references → (raw : RawFollows z r (step s) []) → StandsFor raw.to to (step s).state
stands_after z h to s r f is maps bodies references raw =
    let fixed = step_fixed s in
    let P : Raw → Type 0 = λ q. Stands raw.to q (step s).state in
    let Q : Raw → Type 0 = λ q. HasCore q (step s).state raw.to in
    record {
      stands = subst P (sym is) raw.stands;
      core = subst Q (sym is) (core_lasts z (raw_of h) r s [] f.core raw maps);
      bodies = bodies ∙ f.bodies ∙ sym fixed.bodies;
      objects = λ o w at. raw.grows.objects o w (f.objects o w (ap (λ y. slice_get y.objects o) (sym references) ∙ at));
      nil = ap (λ c. slice_get raw.to.places.objects c.nil) fixed.core ∙ raw.grows.objects s.core.nil h.references.nil f.nil ∙ ap (λ y. Some y.nil) (sym references);
      sums = (let N : List (List ℕ) → Type 0 = NamesSums in subst N (sym fixed.names) f.sums);
    }

-- a step that the raw state counts is counted by the source
pub step_counted : (z : Sense) (h : Host) (s : State) (now : Thread) → StandsFor z h s → RawFollows z (becomes (raw_of h) now) (step s) [] → (step s).state.steps ≡ s.steps + 1
step_counted z h s now f raw = sym raw.stands.steps ∙ ap (λ x. x + 1) f.stands.steps

-- a machine that shows the next raw state puts nothing at the heap's top, and pays nothing
pub paid_on : (h : Host) (to : MachineState) (now : Thread) → raw_of (with_machine h to) ≡ becomes (raw_of h) now → to.regs 6 + 4 * h.machine.regs 3 ≡ h.machine.regs 6 + 4 * to.regs 3
paid_on h to now e = omega (arith, ap (λ (r : Raw). r.heap.top) e, ap (λ (r : Raw). r.cost) e)

-- what follows in words and what follows in the source meet in the raw state
pub meets_step : (z : Sense) (h : Host) (s : State) (b n : ℕ) (next : Node) (now : Thread) → StandsFor z h s → Follows h b n next now → RawFollows z (becomes (raw_of h) now) (step s) [] → DoesStep z h s
meets_step z h s b n next now stood f raw = record {
  instructions = f.instructions;
  few = omega (arith, f.few);
  to = f.to;
  goes = f.goes;
  hosted = f.on.hosted;
  goal = f.on.goal;
  left = f.on.left;
  paid = paid_on h f.to now f.on.raw;
  body = b;
  number = n;
  next = next;
  runs = f.runs;
  sense = raw.to;
  stands = stands_after z h (with_machine h f.to) s (becomes (raw_of h) now) stood f.on.raw refl refl refl raw;
  counted = step_counted z h s now stood raw;
  silent = raw.same;
}

-- a node that pends a word
pub pends : (z : Sense) (h : Host) (s : State) → StandsFor z h s → (b n : ℕ) (node : Node) (word : ℕ) → (r : RunsAt h b n node) → CanGo h → is_inner node ≡ true → ((k : ℕ) → grown node k ≡ k + 1)
    → Does h.machine h.machine.pc (code_at h b n node) (pended h.machine (frame_locals (body_in h.bodies b)) (depth_from 0 (body_in h.bodies b).nodes n) word)
    → (let f = viewed h.machine b n (frame_locals (body_in h.bodies b)) (depth (body_in h.bodies b).nodes n) in RawFollows z (becomes (raw_of h) (Going (moved_on (word ∷ f.pending) f ∷ callers_of h r.view.older))) (step s) [])
    → DoesStep z h s
pends z h s stood b n node word r can inner more d raw =
    let x = body_in h.bodies b in
    let next = (can.runs b).ends n node r.node_is inner in
    let deep : depth x.nodes (n + 1) ≡ depth x.nodes n + 1 = depth_more x.nodes n node r.node_is ∙ more (depth x.nodes n) in
    let d2 = (let P : ℕ → Type 0 = λ k. Does h.machine h.machine.pc (code_at h b n node) (pended h.machine (frame_locals x) k word) in subst P (sym (depth_is x.nodes n)) d) in
    meets_step z h s b (n + 1) next.0 _ stood (pended_follow h b n node next.0 word r can next.1 deep d2) raw

pub room_of : (h : Host) (b n : ℕ) → CanGo h → 27 + frame_locals (body_in h.bodies b) + depth_from 0 (body_in h.bodies b).nodes n < frame_words (body_in h.bodies b)
room_of h b n can = let room = (can.runs b).room n in omega (arith, room, depth_is (body_in h.bodies b).nodes n)

pub self_steps : WordsDo nodes.SelfRef Always
self_steps z h s b n f r can holds =
    let x = body_in h.bodies b in
    let at = at_node_of z h s b n nodes.SelfRef f r in
    let d = self_does h.machine h.machine.pc (frame_words x) (frame_locals x) (depth_from 0 x.nodes n) (ready_at h b n nodes.SelfRef r can.left) (room_of h b n can) in
    pends z h s f b n nodes.SelfRef (h.machine.regs 24) r can refl (λ k. omega arith) d (self_follows (raw_of h) s z f.stands at.young at.older _ _ at.at)

pub int_steps : (i : ℤ) → IsSmall i → WordsDo (nodes.Int i) Always
int_steps i small z h s b n f r can holds =
    let x = body_in h.bodies b in
    let at = at_node_of z h s b n (nodes.Int i) f r in
    let d = constant_does h.machine h.machine.pc (frame_words x) (frame_locals x) (depth_from 0 x.nodes n) (word_of i) (ready_at h b n (nodes.Int i) r can.left) (room_of h b n can) in
    pends z h s f b n (nodes.Int i) (word_of i) r can refl (λ k. omega arith) d (int_follows (raw_of h) s z f.stands at.young at.older _ _ i at.at small)

pub string_steps : (o : ℕ) → WordsDo (nodes.Str o) Always
string_steps o z h s b n f r can holds =
    let x = body_in h.bodies b in
    let at = at_node_of z h s b n (nodes.Str o) f r in
    let w = object_word h.references o in
    let there : slice_get h.references.objects o ≡ Some w = slice_get-get_or h.references.objects o 0 ((can.runs b).names n (nodes.Str o) r.node_is) in
    let d = constant_does h.machine h.machine.pc (frame_words x) (frame_locals x) (depth_from 0 x.nodes n) w (ready_at h b n (nodes.Str o) r can.left) (room_of h b n can) in
    pends z h s f b n (nodes.Str o) w r can refl (λ k. omega arith) d (string_follows (raw_of h) s z f.stands at.young at.older _ _ o w at.at (f.objects o w there))

pub nil_steps : WordsDo nodes.Nil Always
nil_steps z h s b n f r can holds =
    let x = body_in h.bodies b in
    let at = at_node_of z h s b n nodes.Nil f r in
    let w = h.references.nil in
    let d = constant_does h.machine h.machine.pc (frame_words x) (frame_locals x) (depth_from 0 x.nodes n) w (ready_at h b n nodes.Nil r can.left) (room_of h b n can) in
    pends z h s f b n nodes.Nil w r can refl (λ k. omega arith) d (nil_follows (raw_of h) s z f.stands at.young at.older _ _ w at.at f.nil)

pub drop_steps : WordsDo nodes.Drop Always
drop_steps z h s b n f r can holds =
    let x = body_in h.bodies b in
    let at = at_node_of z h s b n nodes.Drop f r in
    let d = drop_does h.machine h.machine.pc (frame_words x) (ready_at h b n nodes.Drop r can.left) in
    let next = (can.runs b).ends n nodes.Drop r.node_is refl in
    let takes = (can.runs b).takes n nodes.Drop r.node_is in
    let less : depth x.nodes n ≡ suc (depth x.nodes (n + 1)) = omega (arith, depth_more x.nodes n nodes.Drop r.node_is, takes) in
    meets_step z h s b (n + 1) next.0 _ f (dropped_follow h b n nodes.Drop next.0 r can next.1 less d) (drop_follows (raw_of h) s z f.stands at.young at.older _ _ at.at)
