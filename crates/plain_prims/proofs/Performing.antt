-- Primitives that have an answer do the source's step.
use Rattle.std.proofs.Common.{◌≡◌, ℕ, ◌+◌, ◌%◌, ◌^◌, ◌≤◌, refl, ◌∙◌, ap, sym, subst, arith, inl, inr}
use Rattle.std.specs.Prelude.{Bool, false, nat_eq, List, ◌∷◌, drop, Some, slice_get}
use Rattle.object_maps.specs.declared.layout.Heap.{Heap}
use Rattle.self_terms.specs.declared.names.Name.{Name}
use Rattle.self_terms.specs.declared.nodes.Node.TheVariants as nodes
use Rattle.self_terms.specs.Depths.{taken, depth}
use Rattle.sparc_store.specs.Words.{Words, word_at}
use Rattle.sparc_machine.specs.State.{with_reg}
use Rattle.source_model.specs.Names.{text_named}
use Rattle.source_model.specs.Primitives.{Effect, Gives, Makes, Puts, Prints, Fails, row_of}
use Rattle.source_model.specs.Soundness.{body_in}
use Rattle.source_model.specs.State.{Activation, State}
use Rattle.source_model.specs.Step.{done, handler_of, performs as by_source, step}
use Rattle.frame_walk.specs.Raw.{Going, Raw, moved_on}
use Rattle.prim_table.specs.Answers.{IsAnswer, cost}
use Rattle.prim_table.specs.declared.answers.PrimAnswer.TheVariants.{Done}
use Rattle.prim_table.proofs.Leaving.{go_on}
use Rattle.raw_steps.specs.Meeting.{HasCore}
use Rattle.raw_steps.specs.Messages.{asked}
use Rattle.raw_steps.specs.Sends.{here_of, raw_after}
use Rattle.raw_steps.specs.Stands.{Sense, Stands, Follows as RawFollows}
use Rattle.raw_steps.proofs.Fixed.{step_fixed}
use Rattle.raw_steps.proofs.Lasting.{core_lasts}
use Rattle.plain_words.specs.Going.{StandsAt}
use Rattle.plain_words.specs.Showing.{viewed}
use Rattle.plain_words.specs.Units.{frame_locals}
use Rattle.plain_words.proofs.Basics.{other_register}
use Rattle.plain_words.proofs.Shown.{no_scratch}
use Rattle.plain_runs.specs.Host.{Host, raw_of, heap_words}
use Rattle.plain_runs.specs.Services.{cleared}
use Rattle.plain_runs.specs.Sound.{callers_of}
use Rattle.plain_runs.specs.Course.{with_machine}
use Rattle.plain_steps.specs.Steps.{NamesSums, StandsFor}
use Rattle.plain_sends.proofs.Serving.{other, two_others, high_counts}
use Rattle.plain_sends.proofs.Settling.{controlled, KeptTo, same_code, same_stacks}
use Rattle.plain_prims.specs.Performing.{printed_by, SilentStep, AnswersPerform, GoalIsLeft}
use Rattle.plain_prims.specs.Rows.{effect_of}
use Rattle.plain_prims.specs.Services.{heap_of, performs}
use Rattle.plain_prims.proofs.Effecting.{Succeeds, effect_follows}
use Rattle.plain_prims.proofs.Heaped.{goes_on_there}
use Rattle.plain_prims.proofs.Operands.{operands_stand}
use Rattle.plain_prims.proofs.Serving.{behind_service}

-- A host that shows the raw state after a step, with the same bodies and references, stands for the state after it, whatever was printed.
stands_after : (z : Sense) (h to : Host) (s : State) (r : Raw) (out : List ℕ) → StandsFor z h s → raw_of to ≡ r → r.maps ≡ h.maps → to.bodies ≡ h.bodies → to.references ≡ h.references → (raw : RawFollows z r (step s) out) → StandsFor raw.to to (step s).state
stands_after z h to s r out f is maps bodies references raw =
    let fixed = step_fixed s in
    let P : Raw → Type 0 = λ q. Stands raw.to q (step s).state in
    let Q : Raw → Type 0 = λ q. HasCore q (step s).state raw.to in
    record {
      stands = subst P (sym is) raw.stands;
      core = subst Q (sym is) (core_lasts z (raw_of h) r s out f.core raw maps);
      bodies = bodies ∙ f.bodies ∙ sym fixed.bodies;
      objects = λ o w at. raw.grows.objects o w (f.objects o w (ap (λ y. slice_get y.objects o) (sym references) ∙ at));
      nil = ap (λ c. slice_get raw.to.places.objects c.nil) fixed.core ∙ raw.grows.objects s.core.nil h.references.nil f.nil ∙ ap (λ y. Some y.nil) (sym references);
      sums = (let N : List (List ℕ) → Type 0 = NamesSums in subst N (sym fixed.names) f.sums);
    }

-- an effect with an answer is no error
done_succeeds : (e : Effect) (z : Sense) (h : Host) (s : State) (old new : Words) (heap after : Heap) (receiver word : ℕ) → IsAnswer h.maps old new heap after z.cells z.places s.things z.made receiver (Done word) e → Succeeds e
done_succeeds (Gives v) z h s old new heap after receiver word a = tt
done_succeeds (Makes words t) z h s old new heap after receiver word a = tt
done_succeeds (Puts o t) z h s old new heap after receiver word a = tt
done_succeeds (Prints line) z h s old new heap after receiver word a = tt
done_succeeds (Fails e) z h s old new heap after receiver word a = absurd a

-- what the node does is what the effect makes
pub done_by_effect : (s : State) (a : Activation) (older : List Activation) (name : Name) (args : ℕ) (implied handler : Bool) (e : Effect) → effect_of s name args (asked args implied handler (here_of s a older)) ≡ e
    → done (here_of s a older) (nodes.Prim name args implied handler) ≡ by_source (here_of s a older) (asked args implied handler (here_of s a older)) (row_of (text_named s.names name.0) args) (handler_of handler (here_of s a older)) e
unfolding done
done_by_effect s a older name args implied handler e is =
    ap (by_source (here_of s a older) (asked args implied handler (here_of s a older)) (row_of (text_named s.names name.0) args) (handler_of handler (here_of s a older))) is

-- the registers behind the service
others : (regs : ℕ → ℕ) (top word r : ℕ) → nat_eq r 8 ≡ false → nat_eq r 6 ≡ false → nat_eq r 3 ≡ false → nat_eq r 2 ≡ false → with_reg (with_reg (cleared regs) 6 top) 8 word r ≡ regs r
others regs top word r e8 e6 e3 e2 = other_register (with_reg (cleared regs) 6 top) 8 word r e8 ∙ other_register (cleared regs) 6 top r e6 ∙ two_others regs r e3 e2

high_others : (regs : ℕ → ℕ) (top word r : ℕ) → 16 ≤ r → with_reg (with_reg (cleared regs) 6 top) 8 word r ≡ regs r
high_others regs top word r high =
    other_register (with_reg (cleared regs) 6 top) 8 word r (other r 8 (omega arith)) ∙ other_register (cleared regs) 6 top r (other r 6 (omega arith)) ∙ high_counts regs r high

pub answers_perform : AnswersPerform
answers_perform z h s b n name args implied handler r q f can memory heap word e is done_so room goal left few =
    let m = h.machine in
    let x = body_in h.bodies b in
    let node = nodes.Prim name args implied handler in
    let v = viewed m b n (frame_locals x) (depth x.nodes n) in
    let callers = callers_of h r.view.older in
    let mt = q.asks.to in
    let mv = q.asks.moved in
    let message = asked args implied handler (here_of s q.sender q.older) in
    let h0 = with_machine h mt in
    let h1 = performs goal left memory heap (cost e) word h0 in
    let m1 = h1.machine in
    let o = operands_stand z h s b n name args implied handler r q f in
    let g = go_on h.maps mt.memory memory (heap_of h0) heap z.cells z.places s.things z.made message.receiver (mt.regs 8) word e o.0 o.1 done_so.answers in
    let end = g.after.is.laid.end in
    let top = mv.kept 6 refl in
    let there = goes_on_there h.maps memory (heap_of h0) (raw_of h).heap heap z.cells z.places s.things z.made message.receiver word e top g in
    let ctl = controlled memory goal left done_so.within in
    let before : (a : ℕ) → word_at mt.memory a ≡ word_at m.memory a = λ a. ap (λ (y : Words). word_at y a) mv.memory_is in
    let st : KeptTo h m1 goal = record {
      code = λ a low. same_code memory m1.memory goal ctl a low ∙ done_so.outside a (inl low) ∙ before a;
      stacks = λ a high. same_stacks memory m1.memory goal ctl a high ∙ done_so.outside a (inr (omega (arith, high, end.within))) ∙ before a;
      goal_is = ctl.goal_is;
      within = ctl.within;
      few = few;
      zero_is = others mt.regs heap.top word 0 refl refl refl refl ∙ mv.kept 0 refl;
      count = others mt.regs heap.top word 4 refl refl refl refl ∙ mv.kept 4 refl;
      frame = others mt.regs heap.top word 14 refl refl refl refl ∙ mv.kept 14 refl;
      window = λ a big. high_others mt.regs heap.top word a big ∙ mv.kept a (no_scratch a big);
      older = mv.older;
    } in
    let stands1 : StandsAt m1 (q.at + 4) = record { here = mv.stands.next; next = ap (λ y. (y + 4) % 2 ^ 32) mv.stands.next ∙ omega (arith, q.low) } in
    let to = behind_service h b n node goal q.at h1.steps h1.cost heap.next m1 r can st stands1 q.behind q.takes (omega (arith, mv.counted)) in
    let after = λ (mem : Words) (ws : List ℕ) (c : ℕ). raw_after (raw_of h) mem heap (Going (moved_on (word ∷ ws) v ∷ callers)) c in
    let ok = done_succeeds e z h s mt.memory memory (heap_of h0) heap (mt.regs 8) word done_so.answers in
    let raw0 = effect_follows (raw_of h) s z f.stands q.sender q.older v callers node q.is_at message q.words q.message _ _ e (done_by_effect s q.sender q.older name args implied handler e is) ok room (heap_words memory) heap word there in
    let raw = (let P : List ℕ → Type 0 = λ ws. RawFollows z (after (heap_words memory) ws (s.cost + cost e)) (step s) (printed_by e) in subst P q.rest raw0) in
    let spent : h1.cost + m1.regs 3 ≡ s.cost + cost e = omega (arith, mv.kept 3 refl, f.stands.cost) in
    let is_raw = to.raw ∙ ap (λ (mem : Words). after mem (drop (taken node) v.pending) (h1.cost + m1.regs 3)) ctl.heap ∙ ap (λ (c : ℕ). after (heap_words memory) (drop (taken node) v.pending) c) spent in
    record {
      instructions = 1;
      few = omega arith;
      to = to.to;
      goes = to.goes;
      hosted = to.hosted;
      goal = to.goal;
      left = to.left;
      paid = omega (arith, to.top_is, to.cost_is);
      body = b;
      number = n + 1;
      next = to.next;
      runs = to.runs;
      sense = raw.to;
      stands = stands_after z h (with_machine h1 to.to) s (after (heap_words memory) (drop (taken node) v.pending) (s.cost + cost e)) (printed_by e) f is_raw refl refl refl raw;
      counted = sym raw.stands.steps ∙ ap (λ y. y + 1) f.stands.steps;
      printed = raw.same;
    }

pub goal_is_left : GoalIsLeft
goal_is_left z h s b n name args implied handler r q memory heap word answer e applied goal left = (controlled memory goal left applied.within).goal_is

pub silent_step : SilentStep
silent_step z h s d = record {
  instructions = d.instructions;
  few = d.few;
  to = d.to;
  goes = d.goes;
  hosted = d.hosted;
  goal = d.goal;
  left = d.left;
  paid = d.paid;
  body = d.body;
  number = d.number;
  next = d.next;
  runs = d.runs;
  sense = d.sense;
  stands = d.stands;
  counted = d.counted;
  silent = d.printed;
}
