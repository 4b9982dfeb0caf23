use Rattle.std.proofs.Common.{◌≢◌, ◌∙◌, ap, sym}
use Rattle.std.specs.Prelude.{slice_get}
use Rattle.plain_runs.specs.Host.{Host}
use Rattle.plain_host.specs.Hosted.{Hosted, host}
use Rattle.plain_host.proofs.Parked.{statuses_kept}
use Rattle.plain_host.proofs.hosting.Hosting.switch.Goals as goal

pub come_up-requires-clause-place : goal.come_up-requires-clause-place
unfolding host
come_up-requires-clause-place c = λ sp pc count is.
    let h = host c.args.self.now in
    let away : c.args.k ≢ h.current = λ same. c.if-k-self.false (same ∙ sym (ap (λ (y : Hosted). y.current) c.self.view_is)) in
    c.requires.place sp pc count (sym (statuses_kept h c.args.k away) ∙ ap (λ (y : Host). slice_get y.statuses c.args.k) (sym c.park.ensures) ∙ is) away

pub come_up-requires-clause-code : goal.come_up-requires-clause-code
unfolding host
come_up-requires-clause-code c = λ sp pc count is.
    let h = host c.args.self.now in
    let away : c.args.k ≢ h.current = λ same. c.if-k-self.false (same ∙ sym (ap (λ (y : Hosted). y.current) c.self.view_is)) in
    c.requires.code sp pc count (sym (statuses_kept h c.args.k away) ∙ ap (λ (y : Host). slice_get y.statuses c.args.k) (sym c.park.ensures) ∙ is) away
