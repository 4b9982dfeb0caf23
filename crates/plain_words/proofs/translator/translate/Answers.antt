use Rattle.std.proofs.Common.{◌≡◌, arith, refl, ap, sym, ◌∙◌, length}
use Rattle.std.specs.Prelude.{◌++◌}
use Rattle.self_terms.specs.Depths.{grown}
use Rattle.plain_words.specs.Units.{entry_code, unit_code, unit_points}
use Rattle.plain_words.proofs.Growing.{unit_begins, points_begin, code_step, points_step, depth_none, depth_next}
use Rattle.plain_words.proofs.translator.translate.Goals as goal

pub loop-k-init : goal.loop-k-init
loop-k-init c =
    let r = c.args.references.now in
    let b = c.args.body.now in
    let front : c.as_slice-words.result.now ≡ entry_code r b = c.as_slice-words.ensures.value ∙ c.in_ok-put_entry.ensures ∙ ap (λ l. l ++ entry_code r b) c.new.ensures.items in
    record {
      code = unit_begins r b c.owns_context-owns.result c.frame_locals_of-locals.result c.new.result.items c.put_entry.new.code.items c.new.ensures.items c.in_ok-put_entry.ensures c.owns_context-owns.ensures c.frame_locals_of-locals.ensures.value;
      points = points_begin r b c.args.number (length c.as_slice-words.result.now) c.owns_context-owns.result c.frame_locals_of-locals.result (record { body = c.args.number; node = 0; pending = 0 }) c.as_slice-words.result.now c.new-2.result.items c.put_points.new.points.items c.new-2.ensures.items c.in_ok-put_points.ensures refl refl front c.owns_context-owns.ensures c.frame_locals_of-locals.ensures.value;
      deep = depth_none b.nodes;
      near = omega arith;
    }

pub loop-k-preserved : goal.loop-k-preserved
loop-k-preserved c =
    let r = c.args.references.now in
    let b = c.args.body.now in
    let k = c.loop-k.k in
    let node = c.node_at-node.result in
    record {
      code = code_step r c.owns_context-owns.result c.frame_locals_of-locals.result c.loop-k.at k c.loop-k.over c.in_ok-at.field-0 c.grown-over.result b.nodes node c.loop-k.unit.code.items c.add_node.new.unit.code.items (unit_code r b) c.node_at-node.ensures c.in_ok-at.ensures.code c.in_ok-at.ensures.words c.grown-over.ensures c.loop-k.invariant.code;
      points = points_step r c.owns_context-owns.result c.frame_locals_of-locals.result c.args.number c.loop-k.at k c.loop-k.over c.in_ok-at.field-0 c.grown-over.result b.nodes node c.loop-k.unit.points.items c.add_node.new.unit.points.items (unit_points r c.args.number b) c.node_at-node.ensures c.in_ok-at.ensures.points c.in_ok-at.ensures.words c.grown-over.ensures c.loop-k.invariant.points;
      deep = c.grown-over.ensures ∙ ap (grown node) c.loop-k.invariant.deep ∙ sym (depth_next b.nodes k node c.node_at-node.ensures);
      near = omega (arith, c.in_ok-at.ensures.few);
    }
