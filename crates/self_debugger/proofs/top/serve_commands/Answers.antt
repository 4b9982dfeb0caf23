use Rattle.std.proofs.Common.{◌∙◌, sym, arith, length}
use Rattle.std.proofs.lemmas.Option.{IfSome_then}
use Rattle.self_debugger.specs.Answer.{Answer}
use Rattle.self_debugger.specs.Headline.{Outcome}
use Rattle.self_debugger.proofs.Cases.{of_other_script, of_script}
use Rattle.self_debugger.proofs.Scripts.{few_commands}
use Rattle.self_debugger.proofs.top.serve_commands.Goals as goal

pub returns-then-not-all_served-clause-outcome : goal.returns-then-not-all_served-clause-outcome
returns-then-not-all_served-clause-outcome g c = λ a s.
    let P : Answer → Type 0 = λ x. Outcome c.tell.result.status x (g.K.Sink.taken c.args.out.now) (g.K.Sink.taken c.tell.new.out) in
    of_other_script (length c.args.advisors.items) P c.args.image.world c.args._text.now c.args.commands.now c.requires.short c.requires.read (sym c.all_served.ensures ∙ c.if-not-all_served.true) c.tell.ensures.outcome s

pub returns-clause-outcome : goal.returns-clause-outcome
returns-clause-outcome g c = λ a s.
    let P : Answer → Type 0 = λ x. Outcome c.serve_run.result.status x (g.K.Sink.taken c.args.out.now) (g.K.Sink.taken c.serve_run.new.out) in
    of_script (length c.args.advisors.items) P c.args.image.world c.args._text.now c.args.commands.now c.requires.short c.requires.read (sym c.all_served.ensures ∙ c.if-not-all_served.false) c.serve_run.ensures.outcome s

pub serve_run-requires-clause-short : goal.serve_run-requires-clause-short
serve_run-requires-clause-short g c =
    let few = few_commands c.args._text.now c.args.commands.now c.requires.read in
    let short = c.requires.short in
    omega (arith, few, short)

pub returns-clause-shown : goal.returns-clause-shown
returns-clause-shown g c =
    IfSome_then c.serve_run.result.session c.serve_run.ensures.shown
    (λ e d. record { commands = c.args.commands.now; asked = c.requires.read; built = sym c.all_served.ensures ∙ c.if-not-all_served.false; shows = d.shows; led = d.led })
