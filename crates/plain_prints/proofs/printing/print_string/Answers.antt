use Rattle.std.proofs.Common.{◌∙◌, [], sym}
use Rattle.source_model.specs.Texts.{out_line}
use Rattle.prim_table.proofs.Sorting.{sound}
use Rattle.plain_prints.specs.Lines.{text_in}
use Rattle.plain_prints.proofs.Taking.{takes_none, no_front, on_err}
use Rattle.plain_prints.proofs.Reading.{is_text, text_says, other_says}
use Rattle.plain_prints.proofs.printing.print_string.Goals as goal

pub map_of-map-requires : goal.map_of-map-requires
map_of-map-requires g c = (sound c.args.maps.now c.args.mem.now c.requires.0 c.args.receiver c.requires.1).readable

pub returns-then-map-ne1-clause-said : goal.returns-then-map-ne1-clause-said
returns-then-map-ne1-clause-said g c = record { line = []; is = other_says c.args.maps.now c.args.mem.now c.args.receiver (λ e. c.if-map-ne1.true (c.map_of-map.ensures ∙ e)); takes = takes_none (g.K.Sink.taken c.args.out.now) }

pub returns-in_err-piece-clause-front : goal.returns-in_err-piece-clause-front
returns-in_err-piece-clause-front g c =
    let line = out_line (text_in c.args.mem.now c.args.receiver) in
    on_err c.from_residual.result _ (record { line = line; is = text_says c.args.maps.now c.args.mem.now c.args.receiver (sym c.map_of-map.ensures ∙ c.if-map-ne1.false); takes = no_front (g.K.Sink.taken c.args.out.now) line })

pub print_text-requires-clause-text : goal.print_text-requires-clause-text
print_text-requires-clause-text g c = (c.args.maps.now, c.requires.0, is_text c.args.maps.now c.args.mem.now c.requires.0 c.args.receiver c.requires.1 (sym c.map_of-map.ensures ∙ c.if-map-ne1.false))

pub returns-in_err-print_text-clause-front : goal.returns-in_err-print_text-clause-front
returns-in_err-print_text-clause-front g c =
    on_err c.from_residual-in_err-print_text.result _
    (record { line = out_line (text_in c.args.mem.now c.args.receiver); is = text_says c.args.maps.now c.args.mem.now c.args.receiver (sym c.map_of-map.ensures ∙ c.if-map-ne1.false); takes = c.in_err-print_text.ensures.front })

pub returns-clause-said : goal.returns-clause-said
returns-clause-said g c =
    record { line = out_line (text_in c.args.mem.now c.args.receiver); is = text_says c.args.maps.now c.args.mem.now c.args.receiver (sym c.map_of-map.ensures ∙ c.if-map-ne1.false); takes = c.in_ok-print_text.ensures.all }
