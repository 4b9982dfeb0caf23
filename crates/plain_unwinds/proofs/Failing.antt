-- Errors end all activations of the current activity.
use Rattle.std.proofs.Common.{◌≡◌, ℕ, zero, suc, ◌+◌, refl, ◌∙◌, ap, sym, arith}
use Rattle.std.specs.Prelude.{Bool, List, [], ◌∷◌, length, Some, slice_set}
use Rattle.self_terms.specs.Depths.{depth}
use Rattle.sparc_store.specs.Words.{Words, word_at}
use Rattle.sparc_store.specs.Windows.{Frame as Window, frame_before, but_first}
use Rattle.source_model.specs.Soundness.{body_in}
use Rattle.source_model.specs.State.{Activation, Running}
use Rattle.source_model.specs.Step.{node_at, place_of}
use Rattle.source_model.specs.Messages.{body_of}
use Rattle.frame_walk.specs.Places.{Descriptor, Frame}
use Rattle.frame_walk.specs.Raw.{Failed as Failure}
use Rattle.frame_walk.specs.Walk.{activations}
use Rattle.raw_steps.specs.Sends.{begins, method_entry, at_node}
use Rattle.raw_steps.specs.Stands.{Sense, IsAt, AreActivations, makes_blocks}
use Rattle.raw_steps.proofs.Failing.{fails_follow}
use Rattle.raw_steps.proofs.Nexts.{current_all}
use Rattle.raw_steps.proofs.Refusing.{overflows}
use Rattle.raw_steps.proofs.Sending.{method_enters, missing_is}
use Rattle.plain_words.specs.Showing.{viewed}
use Rattle.plain_words.specs.Units.{frame_locals}
use Rattle.plain_runs.specs.Host.{raw_of, descriptor_at, heap_words}
use Rattle.plain_runs.specs.declared.status.Status.TheVariants.{Waiting, Failed}
use Rattle.plain_runs.specs.Sound.{callers_of}
use Rattle.plain_runs.specs.Course.{with_machine}
use Rattle.plain_steps.proofs.Here.{at_node_of}
use Rattle.plain_steps.proofs.Words.{stands_after}
use Rattle.plain_unwinds.specs.Failing.{ErrorsFail, MissingFails, OverflowFails}
use Rattle.plain_unwinds.specs.Services.{fails_unmarked}
use Rattle.plain_unwinds.proofs.Apart.{kept_apart, hosted_ended, threads_ended}
use Rattle.plain_unwinds.proofs.Changed.{last, last_ends, last_left, apart_after}
use Rattle.plain_unwinds.proofs.Marks.{are_marked}
use Rattle.plain_unwinds.proofs.Trapped.{reg, windows, zero_is, all_memory_is}

pub errors_fail : ErrorsFail
errors_fail z h s b n node f r can a older running e err to p mv goal cost few =
    let m = h.machine in
    let v = viewed m b n (frame_locals (body_in h.bodies b)) (depth (body_in h.bodies b).nodes n) in
    let callers = callers_of h r.view.older in
    let frames = v ∷ callers in
    let its = at_node_of z h s b n node f r in
    let same : its.young ≡ a = (let both : Some (Running (its.young ∷ its.older)) ≡ Some (Running (a ∷ older)) = sym its.at.here ∙ running in cc) in
    let at : IsAt (raw_of h) s a older v callers node = record { here = running; there = its.at.there; node_is = ap (λ (y : Activation). node_at (body_of s y.body) y.next) (sym same) ∙ its.at.node_is } in
    let all = current_all (raw_of h) s z f.stands a older v callers node at in
    let marked = are_marked z (raw_of h) s f.stands (makes_blocks s) s.current (a ∷ older) frames all in
    let lst = last h b n node r can.hosted can.runs frames marked goal cost in
    let place = place_of s a in
    let after = fails_unmarked goal cost e place (with_machine h to) in
    let mF = after.machine in
    let its_reg = reg h b n node r can to p mv in
    let memory : mF.memory ≡ lst = all_memory_is h b n node r can to p mv goal cost in
    let apart = apart_after h b n node r can.hosted can.runs frames marked goal cost few mF memory (zero_is h b n node r can to p mv) (windows h b n node r can to p mv) in
    let kept = kept_apart h mF goal can.hosted can.runs apart in
    let raw = fails_follow (raw_of h) s z f.stands a older v callers node at e (heap_words lst) err (last_ends h b n node r can.hosted can.runs frames marked goal cost) in
    let is : raw_of after ≡ record (raw_of h) { mem = heap_words lst; threads = slice_set (raw_of h).threads h.current (Failure e place) } = λ i. record {
      maps = h.maps;
      mem = ap heap_words memory i;
      heap = record { top = (its_reg 6 ∙ mv.kept 6 refl) i; next = h.next };
      threads = threads_ended h mF (Failed e place) after.steps after.cost (Failure e place) (λ k. refl) 0 h.current h.statuses (Waiting r.view.sp r.view.pc r.view.known) (omega arith) r.view.running kept.waits i;
      current = h.current;
      steps = (let q : after.steps + mF.regs 2 ≡ h.steps + m.regs 2 = omega (arith, its_reg 2, mv.counted) in q) i;
      cost = (let q : after.cost + mF.regs 3 ≡ h.cost + m.regs 3 = omega (arith, its_reg 3, mv.kept 3 refl) in q) i;
    } in
    record {
      hosted = hosted_ended h mF (Failed e place) after.steps after.cost kept.hosted;
      left = ap (λ (y : Words). word_at y 0x30000004) memory ∙ last_left h b n node r can.hosted can.runs frames marked goal cost;
      top = its_reg 6;
      sense = raw.to;
      stands = stands_after z h after s (record (raw_of h) { mem = heap_words lst; threads = slice_set (raw_of h).threads h.current (Failure e place) }) f is refl refl refl raw;
      uncounted = sym raw.stands.steps ∙ f.stands.steps;
      silent = raw.same;
    }

-- Sends.

pub missing_fails : MissingFails
missing_fails z h s b n node sel r q f can e none goal cost few =
    let v = viewed h.machine b n (frame_locals (body_in h.bodies b)) (depth (body_in h.bodies b).nodes n) in
    errors_fail z h s b n node f r can q.sender q.older q.is_at.here e
    (missing_is (raw_of h) s z f.stands q.sender q.older v (callers_of h r.view.older) node q.is_at q.message q.words sel.name.0 _ q.send e none) q.asks.to q.at q.asks.moved goal cost few

seen_long : (d : ℕ → Descriptor) (memory : Words) (n sp : ℕ) (w : Window) (pc : ℕ) (held : List Window) → length (activations d memory n sp w pc held) ≡ n
unfolding activations
seen_long d memory zero sp w pc held = refl
seen_long d memory (suc n) sp w pc held = ap suc (seen_long d memory n (w 14) (frame_before memory (w 14) held) (w 15 + 8) (but_first held))

as_many : (wants : ℕ → Bool) (z : Sense) (at : ℕ) (all : List Activation) (frames : List Frame) → AreActivations wants z at all frames → length all ≡ length frames
as_many wants z at [] [] are = refl
as_many wants z at (a ∷ older) (y ∷ ys) are = ap suc (as_many wants z at older ys are.2)
as_many wants z at [] (y ∷ ys) are = absurd are
as_many wants z at (a ∷ older) [] are = absurd are

pub overflow_fails : OverflowFails
overflow_fails z h s b n node sel r q f can o c met inside many goal cost few =
    let m = h.machine in
    let v = viewed m b n (frame_locals (body_in h.bodies b)) (depth (body_in h.bodies b).nodes n) in
    let callers = callers_of h r.view.older in
    let all = current_all (raw_of h) s z f.stands q.sender q.older v callers node q.is_at in
    let long : length q.older ≡ r.view.older = as_many (makes_blocks s) z s.current q.older callers all.2 ∙ seen_long (descriptor_at h) m.memory r.view.older (m.regs 30) (frame_before m.memory (m.regs 30) m.older) (m.regs 31 + 8) (but_first m.older) in
    let counted : q.asks.to.regs 4 ≡ suc r.view.older = q.asks.moved.kept 4 refl ∙ r.view.count in
    let enters = method_enters (raw_of h) s z f.stands q.sender q.older v callers node q.is_at q.message q.words sel.name.0 _ q.send o c met inside in
    errors_fail z h s b n node f r can q.sender q.older q.is_at.here _
    (enters ∙ overflows (begins s (method_entry q.message o c)) (at_node q.sender.next q.message.rest q.sender ∷ q.older) s (omega (arith, many, counted, long))) q.asks.to q.at q.asks.moved goal cost few
