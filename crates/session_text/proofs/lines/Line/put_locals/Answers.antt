use Rattle.std.proofs.Common.{◌+◌, get_or, drop, sym, ◌∙◌, pos, arith}
use Rattle.source_model.specs.Lines.{local_names}
use Rattle.session_text.specs.declared.lines.ShownValue.TheVariants as shown
use Rattle.session_text.specs.Frames.{local_text, locals_text}
use Rattle.session_text.proofs.FrameSteps.{locals_out, values_out, locals_next, done, done_len, piece_more, piece_few, piece_fits}
use Rattle.session_text.proofs.lines.Line.put_locals.Goals as goal

pub returns-in_default-clause-text : goal.returns-in_default-clause-text
returns-in_default-clause-text c =
    done c.loop-k.self _ _ c.args.self.now c.loop-k.invariant.text (locals_out c.args.core c.args.names.now (local_names c.args.body.now) c.args.values.now c.loop-k.k (sym c.local_name.ensures ∙ c.in_default.is))

pub returns-in_default-clause-len : goal.returns-in_default-clause-len
returns-in_default-clause-len c =
    done_len c.loop-k.self _ _ c.args.self.now c.loop-k.invariant.text (locals_out c.args.core c.args.names.now (local_names c.args.body.now) c.args.values.now c.loop-k.k (sym c.local_name.ensures ∙ c.in_default.is))

pub put_local-requires : goal.put_local-requires
put_local-requires c =
    let xs = local_names c.args.body.now in
    let vs = c.args.values.now in
    let k = c.loop-k.k in
    let next = locals_next c.args.core c.args.names.now xs vs k c.in-Some.name (shown.Int (pos 0)) (sym c.local_name.ensures ∙ c.in-Some.is) c.loop-k-test.true in
    piece_fits c.loop-k.self (local_text c.args.core c.args.names.now (c.in-Some.name, get_or vs k (shown.Int (pos 0)))) _ (locals_text c.args.core c.args.names.now (drop (k + 1) xs) (drop (k + 1) vs)) 4000000 c.loop-k.invariant.few next

pub loop-k-preserved : goal.loop-k-preserved
loop-k-preserved c =
    let xs = local_names c.args.body.now in
    let vs = c.args.values.now in
    let k = c.loop-k.k in
    let next = locals_next c.args.core c.args.names.now xs vs k c.in-Some.name (shown.Int (pos 0)) (sym c.local_name.ensures ∙ c.in-Some.is) c.loop-k-test.true in
    record {
      text = piece_more c.loop-k.self c.put_local.new.self _ _ _ _ c.loop-k.invariant.text next c.put_local.ensures.text;
      few = piece_few c.loop-k.self c.put_local.new.self _ _ _ 4000000 c.loop-k.invariant.few next c.put_local.ensures.text;
    }

pub returns-clause-text : goal.returns-clause-text
returns-clause-text c =
    done c.loop-k.self _ _ c.args.self.now c.loop-k.invariant.text (values_out c.args.core c.args.names.now (local_names c.args.body.now) c.args.values.now c.loop-k.k (omega arith))

pub returns-clause-len : goal.returns-clause-len
returns-clause-len c =
    done_len c.loop-k.self _ _ c.args.self.now c.loop-k.invariant.text (values_out c.args.core c.args.names.now (local_names c.args.body.now) c.args.values.now c.loop-k.k (omega arith))
