-- Service 1 where a lookup finds a method.
use Rattle.std.proofs.Common.{◌≡◌, ℕ, ◌+◌, ◌<◌, ◌≤◌, refl, ◌∙◌, ap, sym, subst, arith, inl, inr}
use Rattle.std.specs.Prelude.{Bool, true, false, not, nat_lt, nat_le, ◌&&◌, if◌then◌else◌, length, Option, Some, None}
use Rattle.self_terms.specs.declared.errors.ErrorName.{ErrorName}
use Rattle.self_terms.specs.declared.errors.ErrorName.TheVariants as errors
use Rattle.self_terms.specs.declared.nodes.Node.{Node}
use Rattle.self_terms.specs.declared.values.BodyId.{BodyId}
use Rattle.self_terms.specs.declared.values.Value.{Value}
use Rattle.self_terms.specs.declared.values.Value.TheVariants as values
use Rattle.sparc_machine.specs.State.{MachineState}
use Rattle.source_model.specs.Messages.{Met}
use Rattle.source_model.specs.Soundness.{body_in}
use Rattle.source_model.specs.State.{State}
use Rattle.raw_steps.specs.Stands.{Sense}
use Rattle.plain_words.specs.Units.{owns_context, of_block}
use Rattle.plain_runs.specs.Host.{Host}
use Rattle.plain_runs.specs.Sound.{RunsAt}
use Rattle.plain_runs.specs.Course.{with_machine, CanGo}
use Rattle.plain_steps.specs.Paying.{IsPaid, HasMaps}
use Rattle.plain_steps.specs.Steps.{StandsFor}
use Rattle.plain_sends.specs.Messages.{IsMessaged}
use Rattle.plain_answers.specs.Found.{IsMethod}
use Rattle.plain_lookups.specs.Telling.{IsEvaluated}
use Rattle.plain_evaluates.specs.Evaluates.{CanKeep, IsOpen, context_words}
use Rattle.plain_evaluates.specs.Refusing.{is_live, IsError}
use Rattle.plain_evaluates.proofs.Blocks.{blocks_entered}
use Rattle.plain_evaluates.proofs.Marks.{marks_decide}
use Rattle.plain_evaluates.proofs.Methods.{methods_entered}
use Rattle.plain_evaluates.proofs.Refused.{methods_refused, blocks_refused}
use Rattle.plain_served.specs.Serving.{is_gone, is_deep, is_costly, IsCallable, IsServed, MethodsAreServed}

-- what the tests name
abbrev chosen : Bool → Bool → Bool → Option ErrorName
chosen gone deep costly = if gone then Some errors.NonLifoBlock else if deep then Some errors.StackOverflow else if costly then Some errors.StoreFull else None

by_tests : (P : ErrorName → Type 0) (gone deep costly : Bool) (e : ErrorName) → chosen gone deep costly ≡ Some e → (gone ≡ true → P errors.NonLifoBlock) → (gone ≡ false → deep ≡ true → P errors.StackOverflow)
    → (gone ≡ false → deep ≡ false → costly ≡ true → P errors.StoreFull) → P e
by_tests P true deep costly e is one two three = let same : errors.NonLifoBlock ≡ e = cc in subst P same (one refl)
by_tests P false true costly e is one two three = let same : errors.StackOverflow ≡ e = cc in subst P same (two refl refl)
by_tests P false false true e is one two three = let same : errors.StoreFull ≡ e = cc in subst P same (three refl refl refl)
by_tests P false false false e is one two three = absurd (cc)

-- none has found an error
record Passed (gone deep costly : Bool) : Type 0 where
  here : gone ≡ false
  few : deep ≡ false
  cheap : costly ≡ false

passed : (gone deep costly : Bool) → chosen gone deep costly ≡ None → Passed gone deep costly
passed true deep costly e = absurd (cc)
passed false true costly e = absurd (cc)
passed false false true e = absurd (cc)
passed false false false e = record { here = refl; few = refl; cheap = refl }

is_most : (a b : ℕ) → nat_le a b ≡ true → a ≤ b
is_most a b e = grind (arith, e)

is_less : (a b : ℕ) → nat_le a b ≡ false → b < a
is_less a b e = grind (arith, e)

both : (a b : Bool) → (a && b) ≡ true → (a ≡ true) × (b ≡ true)
both true true e = (refl, refl)
both true false e = absurd (cc)
both false b e = absurd (cc)

is_more : (a b : ℕ) → nat_lt a b ≡ true → a < b
is_more a b e = grind (arith, e)

not_more : (a b : ℕ) → nat_lt a b ≡ false → b ≤ a
not_more a b e = grind (arith, e)

-- a block's, and live; or none
gone_is : (block live : Bool) → block ≡ true → (block && not live) ≡ true → live ≡ false
gone_is true true e g = absurd (cc)
gone_is true false e g = refl
gone_is false live e g = absurd (cc)

live_is : (block live : Bool) → block ≡ true → (block && not live) ≡ false → live ≡ true
live_is true true e g = refl
live_is true false e g = absurd (cc)
live_is false live e g = absurd (cc)

none_gone : {A : Type 0} (block live : Bool) → block ≡ false → (block && not live) ≡ true → A
none_gone true live e g = absurd (cc)
none_gone false live e g = absurd (cc)

-- what is left of the plain cost pays for a context, and has room in the heap
keeps : (owns : Bool) (start : ℕ) (h : Host) (b cost : ℕ) → cost ≡ h.machine.regs 3 → IsPaid start h → HasMaps h → (owns && nat_lt 4194304 (h.cost + cost + context_words h b)) ≡ false → CanKeep owns h b
keeps false start h b cost same paid maps cheap = tt
keeps true start h b cost same paid maps cheap =
    let most = not_more 4194304 (h.cost + cost + context_words h b) cheap in
    record {
      mapped = maps.contexts;
      small = omega (arith, maps.contexts, maps.few);
      room = omega (arith, paid.room, paid.top, most, same);
      paid = omega (arith, most, same);
    }

-- a block's test reads nothing where the body is a method's
no_test : {A : Type 0} (block : Bool) → block ≡ false → block ≡ true → A
no_test true e f = absurd (cc)
no_test false e f = absurd (cc)

module _ (start : ℕ) (z : Sense) (h : Host) (s : State) (b n : ℕ) (node : Node) (args name : ℕ) (met : Met) (r : RunsAt h b n node) (to : MachineState) (q : IsMessaged z h s b n node args name met r to) (stood : StandsFor z h s) (can : CanGo h) (paid : IsPaid start h) (maps : HasMaps h)
    (receiver : Option Value) (holder : ℕ) (c : BodyId) (at : ℕ) (callable : IsCallable z h s args name met to receiver holder c at) where
  abbrev ht : Host
  ht = with_machine h to

  abbrev gone : Bool
  gone = is_gone ht c.0

  abbrev deep : Bool
  deep = is_deep ht

  abbrev costly : Bool
  costly = is_costly ht c.0

  abbrev Is : ErrorName → Type 0
  Is e = IsError z h s b n node args name met r to q e

  opens : (block : Bool) → of_block (body_in h.bodies c.0) ≡ block → Passed gone deep costly → IsOpen h c.0 at args r.view.older block
  opens block kind p =
      let few = is_less 4096 (to.regs 4) p.few in
      record {
        unit = callable.unit;
        kind = kind;
        some = callable.some;
        same = callable.same;
        few = omega (arith, few, q.moved.kept 4 refl, r.view.count);
        keeps = keeps (owns_context (body_in h.bodies c.0)) start h c.0 (to.regs 3) (q.moved.kept 3 refl) paid maps p.cheap;
      }

  method_served : IsMethod z s met holder c → IsServed z h s b n node args name met r to q holder c at
  method_served m =
      let kind = callable.method m in
      let refused = methods_refused z h s b n node args name met r to q stood can m.object c m.met_is m.inside in
      record {
        mark = λ is. no_test (of_block (body_in h.bodies c.0)) kind is;
        refused = λ e is. by_tests Is gone deep costly e is (λ g. none_gone (of_block (body_in h.bodies c.0)) (is_live to) kind g) (λ g d. refused.overflow (is_most 4096 (to.regs 4) d))
            (λ g d k. (let two = both (owns_context (body_in h.bodies c.0)) (nat_lt 4194304 (h.cost + to.regs 3 + context_words h c.0)) k in
            refused.full (is_less 4096 (to.regs 4) d) two.0 (is_more 4194304 (h.cost + to.regs 3 + context_words h c.0) two.1)));
        called = λ is goal cost low. methods_entered z h s b n node args name met r to q stood can m.object c holder at m.met_is m.inside m.there (opens false kind (passed gone deep costly is)) goal cost low;
      }

  block_served : (block : BodyId) (maker : ℕ) → q.message.receiver ≡ values.Block block maker → c ≡ block → (v : IsEvaluated z s receiver met name holder c (to.regs 8)) → IsServed z h s b n node args name met r to q holder c at
  block_served block maker its_block same v =
      let kind = callable.block v in
      let its : q.message.receiver ≡ values.Block c maker = its_block ∙ ap (λ k. values.Block k maker) (sym same) in
      let d = marks_decide z h s b n node args name met r to q stood can c maker its in
      let own : length s.things ≤ length s.things = omega arith in
      let refused = blocks_refused z h s b n node args name met r to q stood can (length s.things) c c maker v.evaluates.met_is own its in
      record {
        mark = λ is. (d.block, d.context);
        refused = λ e is. by_tests Is gone deep costly e is (λ g. refused.gone (gone_is (of_block (body_in h.bodies c.0)) (is_live to) kind g))
            (λ g k. refused.overflow (live_is (of_block (body_in h.bodies c.0)) (is_live to) kind g) (is_most 4096 (to.regs 4) k))
            (λ g k t. (let two = both (owns_context (body_in h.bodies c.0)) (nat_lt 4194304 (h.cost + to.regs 3 + context_words h c.0)) t in
            refused.full (live_is (of_block (body_in h.bodies c.0)) (is_live to) kind g) (is_less 4096 (to.regs 4) k) two.0 (is_more 4194304 (h.cost + to.regs 3 + context_words h c.0) two.1)));
        called = λ is goal cost low. (let p = passed gone deep costly is in
            let y = d.live (live_is (of_block (body_in h.bodies c.0)) (is_live to) kind p.here) in
            blocks_entered z h s b n node args name met r to q stood can (length s.things) c c maker holder at v.evaluates.met_is own its y.0 y.1 (opens true kind p) goal cost low);
      }

pub methods_served : MethodsAreServed
methods_served start z h s b n node args name met r to q stood can paid maps few receiver received found tells holder c at is callable =
    elim (tells.method holder c is) [
      | inl m ↦ method_served start z h s b n node args name met r to q stood can paid maps receiver holder c at callable m
      | inr v ↦ block_served start z h s b n node args name met r to q stood can paid maps receiver holder c at callable v.block v.maker (received (values.Block v.block v.maker) v.receiver_is) v.evaluates.body_is v
    ]
