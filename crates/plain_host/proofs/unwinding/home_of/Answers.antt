use Rattle.std.proofs.Common.{◌≡◌, ℕ, ◌+◌, ◌-◌, ◌∙◌, ap, sym, subst, arith, nat_eq}
use Rattle.std.specs.Prelude.{if◌then◌else◌}
use Rattle.sparc_store.specs.Windows.{IsPlace, saved_at}
use Rattle.sparc_machine.specs.Held.{state}
use Rattle.plain_unwinds.specs.Frames.{ending_at, frame_behind}
use Rattle.plain_host.proofs.Walking.{ends_more, frame_next}
use Rattle.plain_host.proofs.unwinding.home_of.Goals as goal

pub outwards-context-requires : goal.outwards-context-requires
outwards-context-requires c =
    let mem = (state c.args.machine.now).memory in
    let there : c.saved-home.result ≡ frame_behind mem (c.loop-ended.ended + 1) c.args.at =
    c.saved-home.ensures ∙ ap (λ q. saved_at mem q 14) c.loop-ended.invariant.place ∙ sym (frame_next mem c.loop-ended.ended c.args.at) in
    let P : ℕ → Type 0 = IsPlace in
    subst P (sym there) (c.requires.walked.places (c.loop-ended.ended + 1) c.loop-ended-test.true)

pub loop-ended-preserved : goal.loop-ended-preserved
loop-ended-preserved c =
    let mem = (state c.args.machine.now).memory in
    let ended = c.loop-ended.ended in
    let context = c.loop-ended.context in
    let left = c.args.count - 1 - ended in
    let next = saved_at mem c.loop-ended.home 14 in
    let out : c.outwards-context.result ≡ (if nat_eq (saved_at mem next 1) context then saved_at mem next 0 else context) =
    c.outwards-context.ensures ∙ ap (λ q. if nat_eq (saved_at mem q 1) context then saved_at mem q 0 else context) c.saved-home.ensures in
    let fewer : c.args.count - 1 - (ended + 1) ≡ left - 1 = omega arith in
    let same : ending_at mem (c.args.count - 1 - (ended + 1)) (saved_at mem c.saved-home.result 14) c.outwards-context.result
    ≡ ending_at mem (left - 1) (saved_at mem next 14) (if nat_eq (saved_at mem next 1) context then saved_at mem next 0 else context) =
    λ i. ending_at mem (fewer i) (saved_at mem (c.saved-home.ensures i) 14) (out i) in
    record {
      within = c.loop-ended-test.true;
      place = c.saved-home.ensures ∙ ap (λ q. saved_at mem q 14) c.loop-ended.invariant.place ∙ sym (frame_next mem ended c.args.at);
      rest = omega (arith, same, ends_more mem left next context (omega arith) c.if-context-eq0.false, c.loop-ended.invariant.rest);
    }
