use Rattle.std.proofs.Common.{ap, length, length-append, pos, sym, ◌∙◌}
use Rattle.session_text.specs.declared.lines.ShownValue.TheVariants as shown
use Rattle.session_text.specs.Frames.{values_text}
use Rattle.session_text.proofs.FrameSteps.{rest_fits, values_done, some_values}
use Rattle.session_text.proofs.lines.Line.put_values.Goals as goal

pub put_more-requires : goal.put_more-requires
put_more-requires c = rest_fits c.args.core c.args.values.now (shown.Int (pos 0)) c.args.self.now c.put_value.new.self 4000000 (some_values (length c.args.values.now) (sym c.is_empty.ensures ∙ c.if-is_empty.false)) c.requires c.put_value.ensures.text

pub returns-clause-text : goal.returns-clause-text
returns-clause-text c = values_done c.args.core c.args.values.now (shown.Int (pos 0)) c.args.self.now c.put_value.new.self c.put_more.new.self (some_values (length c.args.values.now) (sym c.is_empty.ensures ∙ c.if-is_empty.false)) c.put_value.ensures.text c.put_more.ensures.text

pub returns-clause-len : goal.returns-clause-len
returns-clause-len c =
    ap length (values_done c.args.core c.args.values.now (shown.Int (pos 0)) c.args.self.now c.put_value.new.self c.put_more.new.self (some_values (length c.args.values.now) (sym c.is_empty.ensures ∙ c.if-is_empty.false)) c.put_value.ensures.text c.put_more.ensures.text)
    ∙ length-append c.args.self.now (values_text c.args.core c.args.values.now)
