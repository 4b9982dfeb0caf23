use Rattle.std.proofs.Common.{sym, ap, subst, ◌∙◌, arith}
use Rattle.std.specs.Prelude.{codes}
use Rattle.source_model.specs.Names.{number_of}
use Rattle.plain_runs.specs.Host.{Host}
use Rattle.plain_core.specs.Language.{Language}
use Rattle.plain_host.specs.Hosted.{host}
use Rattle.world_build.specs.Worlds.{World}
use Rattle.plain_session.proofs.Naming.{names_are}
use Rattle.plain_session.proofs.Knowing.{begins_known}
use Rattle.plain_session.proofs.sessions.Session.open.Goals as goal

pub open-requires-3-clause-strings : goal.open-requires-3-clause-strings
open-requires-3-clause-strings c =
    let next = c.next.ensures in
    let all = ap (λ (h : Host). h.next) c.in_ok-hosting.ensures.host in
    let fixed = c.objects-fixed.ensures in
    let world = ap (λ (w : World). w.objects) c.world-3.ensures in
    let first = c.requires.formed.1.world.0.fixed in
    let low = c.next.type_inv in
    omega (arith, next, all, fixed, world, first, low)

pub returns-clause-shows : goal.returns-clause-shows
returns-clause-shows c =
    let next = c.next.ensures in
    let room = c.in_ok-walk.ensures in
    let core = c.core-core.ensures ∙ ap (λ (w : World). w.core) c.world.ensures in
    let fixed = c.objects-fixed.ensures ∙ ap (λ (w : World). w.objects) c.world-3.ensures in
    let names = names_are c.args.image.world c.names.result.now c.in_ok-names.names (c.names.ensures ∙ ap (λ (w : World). w.names) c.world-2.ensures) c.requires.fixed c.in_ok-names.ensures.names in
    record {
      rests = c.in_ok-hosting.ensures.rests 0 c.requires.formed c.requires.sums;
      spoken = record {
        names = names ∙ sym (ap (λ (l : Language). l.names) c.in_ok-language.ensures);
        core = sym core ∙ sym (ap (λ (l : Language). l.core) c.in_ok-language.ensures);
        fixed = sym fixed ∙ sym (ap (λ (l : Language). l.fixed) c.in_ok-language.ensures);
        failure = ap (λ ns. number_of ns (codes "value:With:")) names ∙ sym (ap (λ (l : Language). l.failure) c.in_ok-language.ensures);
      };
      known = begins_known (host c.in_ok-hosting.hosting) c.args.image c.in_ok-language.language c.in_ok-hosting.ensures.host c.is_whole.ensures.whole
          (ap (λ (l : Language). l.core) c.in_ok-language.ensures ∙ core) (ap (λ (l : Language). l.fixed) c.in_ok-language.ensures ∙ fixed) c.requires.formed.1.world.0.fixed;
      room = omega (arith, next, room);
      short = c.requires.short;
    }

pub returns-clause-idle : goal.returns-clause-idle
returns-clause-idle c = ap (λ (h : Host). h.statuses) c.in_ok-hosting.ensures.host
