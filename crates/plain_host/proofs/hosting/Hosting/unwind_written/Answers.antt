use Rattle.std.proofs.Common.{◌≡◌, ℕ, ◌+◌, ◌-◌, ◌∙◌, ap, sym, subst, arith}
use Rattle.sparc_store.specs.Windows.{IsPlace, saved_at}
use Rattle.plain_runs.specs.Services.{settled}
use Rattle.plain_unwinds.specs.Frames.{frame_behind}
use Rattle.plain_unwinds.specs.Services.{answers_from_home, returns_to}
use Rattle.plain_host.specs.Hosted.{host}
use Rattle.plain_host.proofs.Walking.{answered_last, fewer_walked, frame_next, returned}
use Rattle.plain_host.proofs.hosting.Hosting.unwind_written.Goals as goal

pub unmark-requires : goal.unmark-requires
unmark-requires c =
    let w = host c.args.self.now in
    fewer_walked w.machine.memory (c.home-home.result.ended + 1) (w.machine.regs 4) (w.machine.regs 14) (omega (arith, c.home-home.ensures.within)) c.requires.walked

pub return_to-requires-clause-place : goal.return_to-requires-clause-place
return_to-requires-clause-place c =
    let w = host c.args.self.now in
    let mem = w.machine.memory in
    let ended = c.home-home.result.ended in
    let at : c.home-home.result.at ≡ frame_behind mem ended (w.machine.regs 14) = c.home-home.ensures.at ∙ ap (λ q. frame_behind mem q (w.machine.regs 14)) (sym c.home-home.ensures.ended) in
    let there : c.saved-next.result ≡ frame_behind mem (ended + 1) (w.machine.regs 14) = c.saved-next.ensures ∙ ap (λ q. saved_at mem q 14) at ∙ sym (frame_next mem ended (w.machine.regs 14)) in
    let P : ℕ → Type 0 = IsPlace in
    subst P (sym there) (c.requires.walked.places (ended + 1) (omega (arith, c.if-ended-count.true, c.register-count.ensures)))

pub returns-then-ended-count : goal.returns-then-ended-count
returns-then-ended-count c =
    let w = host c.args.self.now in
    let ended = c.home-home.result.ended in
    c.return_to.ensures
    ∙ ap (returns_to c.saved-next.result (c.saved-back.result + 8) (c.register-count.result - (ended + 1))) (c.settle.ensures.settled ∙ ap (settled c.args.goal c.args.cost) c.unmark.ensures)
    ∙ returned c.args.goal c.args.cost w ended c.home-home.result.at c.saved-next.result c.saved-back.result c.register-count.result c.home-home.ensures.ended c.home-home.ensures.at c.saved-next.ensures c.saved-back.ensures c.register-count.ensures
    c.if-ended-count.true

pub returns-else-ended-count : goal.returns-else-ended-count
returns-else-ended-count c =
    let w = host c.args.self.now in
    let ended = c.home-home.result.ended in
    c.answer_from_home.ensures
    ∙ ap answers_from_home (c.settle.ensures.settled ∙ ap (settled c.args.goal c.args.cost) c.unmark.ensures)
    ∙ answered_last c.args.goal c.args.cost w ended c.register-count.result c.home-home.ensures.ended c.register-count.ensures c.if-ended-count.false
