use Rattle.std.proofs.Common.{◌≡◌, ◌∙◌, ◌+◌, ◌-◌, false, ap, sym, arith, drop, take}
use Rattle.session_text.specs.declared.reading.Meaning.TheVariants.{Idle, Does, Opens, NoCommand}
use Rattle.session_text.specs.Words.{trimmed}
use Rattle.session_text.specs.Commands.{meaning}
use Rattle.session_text.specs.Scripts.{script, lines, commands_of}
use Rattle.session_text.proofs.LineSteps.{line_from, line_says, in_front_more, unended, ended, rest_length}
use Rattle.session_text.proofs.scripts.read_script.Goals as goal

pub loop-at-preserved-in-Idle : goal.loop-at-preserved-in-Idle
loop-at-preserved-in-Idle c =
    let i = c.loop-at.invariant in
    let l = line_from c.args.bytes.now c.loop-at.at c.part_len-len.result c.min-next.result c.part_len-len.ensures.count c.min-next.ensures in
    let few = i.few in
    let n = c.min-next.ensures in
    let more = c.loop-at-test.true in
    let said : Idle ≡ meaning (trimmed (take (c.loop-at.at + c.part_len-len.result - c.loop-at.at) (drop c.loop-at.at c.args.bytes.now))) = sym c.in-Idle.is ∙ c.in_ok-line_meaning.ensures ∙ ap meaning c.trimmed.ensures in
    record {
      within = omega arith;
      few = omega arith;
      so_far = line_says c.args.bytes.now c.loop-at.at c.part_len-len.result c.min-next.result c.loop-at.number c.loop-at.script (Idle) (script c.args.bytes.now) l i.so_far said;
    }

pub loop-at-preserved-in-Does : goal.loop-at-preserved-in-Does
loop-at-preserved-in-Does c =
    let i = c.loop-at.invariant in
    let l = line_from c.args.bytes.now c.loop-at.at c.part_len-len.result c.min-next.result c.part_len-len.ensures.count c.min-next.ensures in
    let few = i.few in
    let n = c.min-next.ensures in
    let more = c.loop-at-test.true in
    let said : Does c.in-Does.command ≡ meaning (trimmed (take (c.loop-at.at + c.part_len-len.result - c.loop-at.at) (drop c.loop-at.at c.args.bytes.now))) = sym c.in-Does.is ∙ c.in_ok-line_meaning.ensures ∙ ap meaning c.trimmed.ensures in
    record {
      within = omega arith;
      few = omega arith;
      so_far =
          line_says c.args.bytes.now c.loop-at.at c.part_len-len.result c.min-next.result c.loop-at.number c.loop-at.script (Does c.in-Does.command) (script c.args.bytes.now) l i.so_far said
          ∙ in_front_more c.loop-at.script c.push.new.self c.in-Does.command (commands_of false (c.loop-at.number + 1) (lines (drop c.min-next.result c.args.bytes.now))) c.in_ok-push-in-Does.ensures;
    }

pub returns-in-NoCommand-clause-refused : goal.returns-in-NoCommand-clause-refused
returns-in-NoCommand-clause-refused c =
    let i = c.loop-at.invariant in
    let l = line_from c.args.bytes.now c.loop-at.at c.part_len-len.result c.min-next.result c.part_len-len.ensures.count c.min-next.ensures in
    let said : NoCommand ≡ meaning (trimmed (take (c.loop-at.at + c.part_len-len.result - c.loop-at.at) (drop c.loop-at.at c.args.bytes.now))) = sym c.in-NoCommand.is ∙ c.in_ok-line_meaning.ensures ∙ ap meaning c.trimmed.ensures in
    line_says c.args.bytes.now c.loop-at.at c.part_len-len.result c.min-next.result c.loop-at.number c.loop-at.script (NoCommand) (script c.args.bytes.now) l i.so_far said

pub returns-in_default-clause-refused : goal.returns-in_default-clause-refused
returns-in_default-clause-refused c =
    let i = c.loop-at.invariant in
    let l = line_from c.args.bytes.now c.loop-at.at c.part_len-len.result c.min-next.result c.part_len-len.ensures.count c.min-next.ensures in
    let said : Opens c.in-Opens.path ≡ meaning (trimmed (take (c.loop-at.at + c.part_len-len.result - c.loop-at.at) (drop c.loop-at.at c.args.bytes.now))) = sym c.in-Opens.is ∙ c.in_ok-line_meaning.ensures ∙ ap meaning c.trimmed.ensures in
    unended c.args.bytes.now c.min-next.result c.loop-at.number c.loop-at.script c.in-Opens.path (script c.args.bytes.now)
    (line_says c.args.bytes.now c.loop-at.at c.part_len-len.result c.min-next.result c.loop-at.number c.loop-at.script (Opens c.in-Opens.path) (script c.args.bytes.now) l i.so_far said) c.in_default.ensures

pub loop-at-preserved : goal.loop-at-preserved
loop-at-preserved c =
    let i = c.loop-at.invariant in
    let l = line_from c.args.bytes.now c.loop-at.at c.part_len-len.result c.min-next.result c.part_len-len.ensures.count c.min-next.ensures in
    let few = i.few in
    let n = c.min-next.ensures in
    let more = c.loop-at-test.true in
    let said : Opens c.in-Opens.path ≡ meaning (trimmed (take (c.loop-at.at + c.part_len-len.result - c.loop-at.at) (drop c.loop-at.at c.args.bytes.now))) = sym c.in-Opens.is ∙ c.in_ok-line_meaning.ensures ∙ ap meaning c.trimmed.ensures in
    let end = c.in-Some.ensures in
    let inside = end.within in
    let count = end.few in
    let size = rest_length c.args.bytes.now c.min-next.result in
    record {
      within = omega arith;
      few = omega arith;
      so_far = ended c.args.bytes.now c.min-next.result c.loop-at.number c.loop-at.script c.push-in-Opens.new.self c.in-Opens.path c.in_ok-text-in-Opens.text c.in-Some.end (script c.args.bytes.now)
          (line_says c.args.bytes.now c.loop-at.at c.part_len-len.result c.min-next.result c.loop-at.number c.loop-at.script (Opens c.in-Opens.path) (script c.args.bytes.now) l i.so_far said)
          end c.in_ok-text-in-Opens.ensures c.in_ok-push-in-Opens.ensures;
    }
