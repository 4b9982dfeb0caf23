use Rattle.std.proofs.Common.{◌<◌, ◌≤◌, [], ◌∷◌, ◌++◌, length, ap, sym, subst, ◌∙◌}
use Rattle.self_terms.specs.declared.bodies.Body.{Body}
use Rattle.sparc_store.specs.Windows.{saved_at}
use Rattle.source_model.specs.Soundness.{body_in}
use Rattle.frame_walk.specs.Places.{Descriptor, shown}
use Rattle.plain_words.specs.declared.units.Point.{Point}
use Rattle.plain_words.specs.Translating.{CanTranslate}
use Rattle.plain_host.specs.Hosted.{host}
use Rattle.plain_show.proofs.Walking.{reads_body}
use Rattle.plain_show.proofs.reading.read_frame.Goals as goal

pub body-requires-clause-given : goal.body-requires-clause-given
body-requires-clause-given c = subst (λ (p : Point). 0 < p.body) (sym c.point_at-point.ensures) c.requires.readable.given

pub body-requires-clause-within : goal.body-requires-clause-within
body-requires-clause-within c = subst (λ (p : Point). p.body ≤ length (host c.args.hosting.now).bodies) (sym c.point_at-point.ensures) c.requires.readable.known

pub frame_locals_of-requires : goal.frame_locals_of-requires
frame_locals_of-requires c =
    subst (λ (b : Body). CanTranslate b) (sym (c.body.ensures ∙ ap (λ (p : Point). body_in (host c.args.hosting.now).bodies p.body) c.point_at-point.ensures)) c.requires.readable.translates

pub push_read-requires-clause-frame : goal.push_read-requires-clause-frame
push_read-requires-clause-frame c =
    let h = host c.args.hosting.now in
    let all = reads_body h c.args.pc c.args.sp _ c.point_at-point.result c.body.result.now c.frame_locals_of.result c.requires.readable c.point_at-point.ensures c.body.ensures c.frame_locals_of.ensures.value in
    all.0

pub push_read-requires-clause-pending : goal.push_read-requires-clause-pending
push_read-requires-clause-pending c =
    let h = host c.args.hosting.now in
    let all = reads_body h c.args.pc c.args.sp _ c.point_at-point.result c.body.result.now c.frame_locals_of.result c.requires.readable c.point_at-point.ensures c.body.ensures c.frame_locals_of.ensures.value in
    all.1

pub returns : goal.returns
returns c =
    let h = host c.args.hosting.now in
    let all = reads_body h c.args.pc c.args.sp _ c.point_at-point.result c.body.result.now c.frame_locals_of.result c.requires.readable c.point_at-point.ensures c.body.ensures c.frame_locals_of.ensures.value in
    c.push_read.ensures ∙ ap (λ (d : Descriptor). c.args.into.now ++ shown h.machine.memory (saved_at h.machine.memory c.args.sp) c.args.sp d ∷ []) (sym all.2)
