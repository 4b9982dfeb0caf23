use Rattle.std.proofs.Common.{◌∙◌, ◌≡◌, ap, sym, nat_eq, true, false}
use Rattle.std.specs.Prelude.{◌&&◌}
use Rattle.std.specs.Cmp.Lexicographic.{pointwise}
use Rattle.std.proofs.lemmas.Bool.{eq-eqb, ne_eqb}
use Rattle.world_test.proofs.Texts.{with_colon}
use Rattle.world_test.proofs.names.is_with_colon.Goals as goal

pub returns-then-last-eq58 : goal.returns-then-last-eq58
returns-then-last-eq58 c =
    let e : nat_eq c.in-Some.last.now 58 ≡ true = eq-eqb c.in-Some.last.now 58 c.if-last-eq58.true in
    c.eq.ensures
    ∙ sym
    (with_colon c.args.text.now c.args.of.now c.in-Some.front.now c.in-Some.last.now c.in-Some.ensures.cases.0
    ∙ ap (λ b. b && pointwise nat_eq c.in-Some.front.now c.args.of.now) e)

pub returns-else-last-eq58 : goal.returns-else-last-eq58
returns-else-last-eq58 c =
    let e : nat_eq c.in-Some.last.now 58 ≡ false = ne_eqb c.in-Some.last.now 58 c.if-last-eq58.false in
    e
    ∙ sym
    (with_colon c.args.text.now c.args.of.now c.in-Some.front.now c.in-Some.last.now c.in-Some.ensures.cases.0
    ∙ ap (λ b. b && pointwise nat_eq c.in-Some.front.now c.args.of.now) e)
