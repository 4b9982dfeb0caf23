use Rattle.std.proofs.Common.{codes}
use Rattle.source_model.specs.Lines.{local_names}
use Rattle.session_text.specs.Frames.{head_text, pending_text}
use Rattle.session_text.proofs.FrameSteps.{fit_locals, fit_pending}
use Rattle.session_text.proofs.lines.Line.put_act.Goals as goal

pub put_locals-requires : goal.put_locals-requires
put_locals-requires c =
    fit_locals c.args.core c.args.names.now (local_names c.args.body.now) c.as_slice.result.now c.args.act.now.locals c.put_head.new.self
    (head_text c.args.core c.args.names.now c.args.body.now c.args.position c.args.act.now) (pending_text c.args.core c.args.act.now.pending) (codes "\n") 4000000
    c.put_head.ensures c.as_slice.ensures.values c.requires.within

pub put_pending-requires : goal.put_pending-requires
put_pending-requires c =
    fit_pending c.args.core c.args.names.now (local_names c.args.body.now) c.as_slice.result.now c.args.act.now.locals c.as_slice-2.result.now c.args.act.now.pending
    c.put_locals.new.self c.put_head.new.self (head_text c.args.core c.args.names.now c.args.body.now c.args.position c.args.act.now) (codes "\n") 4000000
    c.put_head.ensures c.as_slice.ensures.values c.as_slice-2.ensures.values c.put_locals.ensures.text c.requires.within
