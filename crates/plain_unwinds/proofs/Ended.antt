-- An activity ends by any error, at any place.
use Rattle.std.proofs.Common.{◌≡◌, ◌+◌, refl, ◌∙◌, ap, sym, subst, arith}
use Rattle.std.specs.Prelude.{◌∷◌, slice_set}
use Rattle.self_terms.specs.Depths.{depth}
use Rattle.sparc_store.specs.Words.{Words, word_at}
use Rattle.source_model.specs.Soundness.{body_in}
use Rattle.source_model.specs.State.{Failed as Ended_by, with_current}
use Rattle.frame_walk.specs.Raw.{Raw, Failed as Failure}
use Rattle.raw_steps.specs.Meeting.{HasCore}
use Rattle.raw_steps.specs.Stands.{Stands, makes_blocks}
use Rattle.raw_steps.proofs.Failing.{ends_follow}
use Rattle.raw_steps.proofs.Lasting.{core_stays}
use Rattle.raw_steps.proofs.Nexts.{current_all}
use Rattle.plain_words.specs.Showing.{viewed}
use Rattle.plain_words.specs.Units.{frame_locals}
use Rattle.plain_runs.specs.Host.{raw_of, heap_words}
use Rattle.plain_runs.specs.declared.status.Status.TheVariants.{Waiting, Failed}
use Rattle.plain_runs.specs.Sound.{callers_of}
use Rattle.plain_runs.specs.Course.{with_machine}
use Rattle.plain_steps.proofs.Here.{at_node_of}
use Rattle.plain_unwinds.specs.Failing.{ActivitiesEnd}
use Rattle.plain_unwinds.specs.Services.{fails_unmarked}
use Rattle.plain_unwinds.proofs.Apart.{kept_apart, hosted_ended, threads_ended}
use Rattle.plain_unwinds.proofs.Changed.{last, last_ends, last_left, apart_after}
use Rattle.plain_unwinds.proofs.Marks.{are_marked}
use Rattle.plain_unwinds.proofs.Trapped.{reg, windows, zero_is, all_memory_is}

pub activities_end_unmarked : ActivitiesEnd
activities_end_unmarked z h s b n node f r can e place to p mv goal cost few =
    let m = h.machine in
    let v = viewed m b n (frame_locals (body_in h.bodies b)) (depth (body_in h.bodies b).nodes n) in
    let callers = callers_of h r.view.older in
    let frames = v ∷ callers in
    let its = at_node_of z h s b n node f r in
    let all = current_all (raw_of h) s z f.stands its.young its.older v callers node its.at in
    let marked = are_marked z (raw_of h) s f.stands (makes_blocks s) s.current (its.young ∷ its.older) frames all in
    let lst = last h b n node r can.hosted can.runs frames marked goal cost in
    let after = fails_unmarked goal cost e place (with_machine h to) in
    let mF = after.machine in
    let its_reg = reg h b n node r can to p mv in
    let memory : mF.memory ≡ lst = all_memory_is h b n node r can to p mv goal cost in
    let apart = apart_after h b n node r can.hosted can.runs frames marked goal cost few mF memory (zero_is h b n node r can to p mv) (windows h b n node r can to p mv) in
    let kept = kept_apart h mF goal can.hosted can.runs apart in
    let raw = ends_follow (raw_of h) s z f.stands its.young its.older v callers node its.at e place (heap_words lst) (last_ends h b n node r can.hosted can.runs frames marked goal cost) in
    let there = record (raw_of h) { mem = heap_words lst; threads = slice_set (raw_of h).threads h.current (Failure e place) } in
    let is : raw_of after ≡ there = λ i. record {
      maps = h.maps;
      mem = ap heap_words memory i;
      heap = record { top = (its_reg 6 ∙ mv.kept 6 refl) i; next = h.next };
      threads = threads_ended h mF (Failed e place) after.steps after.cost (Failure e place) (λ k. refl) 0 h.current h.statuses (Waiting r.view.sp r.view.pc r.view.known) (omega arith) r.view.running kept.waits i;
      current = h.current;
      steps = (let q : after.steps + mF.regs 2 ≡ h.steps + m.regs 2 = omega (arith, its_reg 2, mv.counted) in q) i;
      cost = (let q : after.cost + mF.regs 3 ≡ h.cost + m.regs 3 = omega (arith, its_reg 3, mv.kept 3 refl) in q) i;
    } in
    let t = with_current (Ended_by e place) s in
    let P : Raw → Type 0 = λ q. Stands raw.to q t in
    let Q : Raw → Type 0 = λ q. HasCore q t raw.to in
    let core = core_stays z raw.to (raw_of h) there s t f.core raw.grows refl (record { names = refl; core = refl; fixed = refl; bodies = refl }) in
    record {
      hosted = hosted_ended h mF (Failed e place) after.steps after.cost kept.hosted;
      left = ap (λ (y : Words). word_at y 0x30000004) memory ∙ last_left h b n node r can.hosted can.runs frames marked goal cost;
      top = its_reg 6;
      sense = raw.to;
      stands = record {
        stands = subst P (sym is) raw.stands;
        core = subst Q (sym is) core;
        bodies = f.bodies;
        objects = λ o w at. raw.grows.objects o w (f.objects o w at);
        nil = raw.grows.objects s.core.nil h.references.nil f.nil;
        sums = f.sums;
      };
    }
