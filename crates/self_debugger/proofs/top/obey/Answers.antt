use Rattle.std.proofs.Common.{◌≡◌, ◌+◌, ◌≤◌, ◌∙◌, ap, sym, subst, length}
use Rattle.std.specs.Prelude.{Option, List, ℕ, OnOk, OnErr}
use Rattle.session_text.specs.declared.commands.Command.{Command}
use Rattle.session_text.specs.declared.commands.Command.TheVariants as commands
use Rattle.session_text.specs.LineTexts.{line_text}
use Rattle.plain_session.proofs.Obeying.{err_then}
use Rattle.plain_turns.specs.Asking.{count}
use Rattle.plain_session.specs.Sessions as words
use Rattle.self_debugger.specs.Parts.{DidPlain, BrokePlain, Did, Broke}
use Rattle.self_debugger.specs.Sessions.{Session}
use Rattle.self_debugger.proofs.Serving.{did_plain, broke_plain, did_advise, broke_advise, built_of}
use Rattle.self_debugger.proofs.Taking.{ok_on}
use Rattle.self_debugger.proofs.top.obey.Goals as goal

pub returns-in-Advisor-clause-did : goal.returns-in-Advisor-clause-did
returns-in-Advisor-clause-did g c =
    let taken = g.K.Sink.taken in
    let P : Command → Type 0 = λ d. Did c.args.session.now c.advise-text.new.self d (taken c.args.out.now) (taken c.put_line.new.out) in
    ok_on c.put_line.result c.put_line.ensures.all
    (λ t. subst P (sym c.in-Advisor.is) (did_advise c.args.session.now c.advise-text.new.self c.in-Advisor.k (line_text c.advise-text.result) (taken c.args.out.now) (taken c.put_line.new.out) c.advise-text.ensures.obeys c.advise-text.ensures.led t))

pub returns-in-Advisor-clause-broke : goal.returns-in-Advisor-clause-broke
returns-in-Advisor-clause-broke g c =
    let taken = g.K.Sink.taken in
    let P : Command → Type 0 = λ d. Broke c.args.session.now d (taken c.args.out.now) (taken c.put_line.new.out) in
    err_then c.put_line.result c.put_line.ensures.front
    (λ t. subst P (sym c.in-Advisor.is) (broke_advise c.args.session.now c.advise-text.new.self c.in-Advisor.k (line_text c.advise-text.result) (taken c.args.out.now) (taken c.put_line.new.out) c.advise-text.ensures.obeys t))

pub returns-in_default : goal.returns-in_default
returns-in_default g c =
    let x = c.args.session.now in
    let to = c.obey_plain.new.session in
    let command = c.args.command.now in
    let old = g.K.Sink.taken c.args.out.now in
    let now = g.K.Sink.taken c.obey_plain.new.out in
    let view = c.session.view_is in
    let built = built_of command c.requires.built c.in_default.not-Advisor in
    let plain : c.session.inside.plain ≡ x.plain = ap (λ (z : Session). z.plain) view in
    let left : length c.session.inside.left.items ≡ x.left = ap (λ (z : Session). z.left) view in
    let y : Session = record { plain = to; left = length c.session.inside.left.items } in
    record {
      did = ok_on c.obey_plain.result c.obey_plain.ensures.did (λ d. did_plain x y command old now left built (subst (λ p. DidPlain p to command old now) plain d));
      broke = err_then c.obey_plain.result c.obey_plain.ensures.broke (λ b. broke_plain x command old now built (subst (λ p. BrokePlain p command old now) plain b));
      counted = ok_on c.obey_plain.result c.obey_plain.ensures.counted (λ n. subst (λ p. count (words.host_of to) ≤ count (words.host_of p) + 1000000000) plain n);
      rose = ok_on c.obey_plain.result c.obey_plain.ensures.rose (λ r. subst (λ p. words.CountsFew p to) plain r);
      later = c.obey_plain.ensures.later;
      write = c.obey_plain.ensures.write;
    }
