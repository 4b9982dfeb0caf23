use Rattle.std.proofs.Common.{◌≡◌, IfNone, IsTrue, Bool, true, false, Option, rules}
use Rattle.std.specs.Bool.{then_some}
use Rattle.sparc_insn.proofs.OneWord.{none_allowed}
use Rattle.sparc_insn.proofs.decoding.three.Goals as goal

-- what holds where the test fails holds where `then_some` gives nothing
IfNone-then_some : {X : Type 0} (r : Option X) (b : Bool) (x : X) (Q : Type 0) → r ≡ then_some b x → ((IsTrue b → ⊥) → Q) → IfNone r Q
IfNone-then_some r true x Q e f = rw e tt
IfNone-then_some r false x Q e f = rw e (f (λ t. search rules))

pub returns-clause-none : goal.returns-clause-none
returns-clause-none c =
    let a = c.args in
    IfNone-then_some c.then_some.result c.is_allowed.result _ _ c.then_some.ensures
    (λ no. none_allowed a.operation a.rd a.rs1 a.from c.requires.rd c.requires.rs1 c.requires.from (λ yes. no (c.is_allowed.ensures.1 yes)))
