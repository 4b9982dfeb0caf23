use Rattle.std.proofs.Common.{◌≡◌, ◌+◌, ◌-◌, ◌≤◌, arith, ap, subst, sym, ◌∙◌, refl, ℕ}
use Rattle.std.specs.Prelude.{◌==◌, ◌++◌, nat_eq, false, length, codes, decimal}
use Rattle.source_model.specs.Lines.{line}
use Rattle.source_model.specs.Script.{advisor}
use Rattle.plain_session.specs.Sessions as words
use Rattle.self_debugger.specs.Sessions.{Session, Obeys}
use Rattle.self_debugger.proofs.Advising.{drops, drops_one, advisor_refused, advisor_obeyed, stays_led, stays_few}
use Rattle.self_debugger.proofs.sessions.Session.advise.Goals as goal

pub returns-then-k-len-clause-obeys : goal.returns-then-k-len-clause-obeys
returns-then-k-len-clause-obeys g c =
    let past = c.if-k-len.true in
    let len = c.len.ensures in
    let view = ap (λ (z : Session). z.left) c.self.view_is in
    advisor_refused c.args.self.now c.args.k (omega (arith, past, len, view))

pub returns-then-k-len-clause-led : goal.returns-then-k-len-clause-led
returns-then-k-len-clause-led g c = stays_led c.args.self.now.plain c.args.self.now.plain refl

pub returns-then-k-eq0-clause-obeys : goal.returns-then-k-eq0-clause-obeys
returns-then-k-eq0-clause-obeys g c =
    let none : c.args.k ≡ 0 = c.if-k-eq0.true in
    let view = c.self.view_is in
    let y : Session = record { plain = c.self.inside.plain; left = length c.self.inside.left.items } in
    let plain : y.plain ≡ c.args.self.now.plain = ap (λ (z : Session). z.plain) view in
    let left : y.left ≡ c.args.self.now.left = ap (λ (z : Session). z.left) view in
    let drop : drops c.args.k ≡ 0 = ap drops none in
    let all = advisor_obeyed c.args.self.now y c.args.k plain (omega (arith, left, drop)) (omega (arith, none)) in
    subst (λ (n : ℕ). Obeys c.args.self.now y (advisor c.args.k) (line (codes "advisor " ++ decimal n))) none all

pub returns-then-k-eq0-clause-led : goal.returns-then-k-eq0-clause-led
returns-then-k-eq0-clause-led g c = stays_led c.args.self.now.plain c.self.inside.plain (ap (λ (z : Session). z.plain) c.self.view_is)

pub returns-clause-obeys : goal.returns-clause-obeys
returns-clause-obeys g c =
    let some = c.if-k-eq0.false in
    let past = c.if-k-len.false in
    let len = c.len.ensures in
    let view = c.self.view_is in
    let y : Session = record { plain = c.self.inside.plain; left = length c.remove-next.new.self.items } in
    let plain : y.plain ≡ c.args.self.now.plain = ap (λ (z : Session). z.plain) view in
    let was : length c.self.inside.left.items ≡ c.args.self.now.left = ap (λ (z : Session). z.left) view in
    let now = c.remove-next.ensures.len in
    let drop : drops c.args.k ≡ 1 = drops_one c.args.k (omega (arith, some)) in
    advisor_obeyed c.args.self.now y c.args.k plain (omega (arith, now, was, drop, len, past, some)) (omega (arith, past, len, was))

pub returns-clause-led : goal.returns-clause-led
returns-clause-led g c = stays_led c.args.self.now.plain c.self.inside.plain (ap (λ (z : Session). z.plain) c.self.view_is)
