use Rattle.std.proofs.Common.{◌≡◌, ◌∙◌, List, ℕ, ℤ, w32, [], refl, ap, subst}
use Rattle.std.proofs.Math.Facts.{to_z-of_z}
use Rattle.io_ports.specs.Causes.{Takes, TakesFront}
use Rattle.self_terms.specs.Words.{int_of}
use Rattle.source_model.specs.Texts.{integer_text, out_line}
use Rattle.plain_prints.proofs.Taking.{takes_none, no_front, on_err}
use Rattle.plain_prints.proofs.Reading.{integer_says, reference_says}
use Rattle.plain_prints.proofs.printing.print_integer.Goals as goal

pub returns-then-not-is_int-clause-said : goal.returns-then-not-is_int-clause-said
returns-then-not-is_int-clause-said g c = record { line = []; is = reference_says c.args.receiver (λ e. (let t = c.if-not-is_int.ensures.1 e in cc)); takes = takes_none (g.K.Sink.taken c.args.out.now) }

pub returns-in_err-piece-clause-front : goal.returns-in_err-piece-clause-front
returns-in_err-piece-clause-front g c =
    let line = out_line (integer_text (int_of c.args.receiver)) in
    on_err c.from_residual.result _ (record { line = line; is = integer_says c.args.receiver (c.if-not-is_int.ensures.0 refl); takes = no_front (g.K.Sink.taken c.args.out.now) line })

pub returns-in_err-write_all-clause-front : goal.returns-in_err-write_all-clause-front
returns-in_err-write_all-clause-front g c =
    let line = out_line (integer_text (int_of c.args.receiver)) in
    let P : List ℕ → Type 0 = λ z. TakesFront (g.K.Sink.taken c.args.out.now) (g.K.Sink.taken c.write_all.new.out) z in
    let held : c.bytes.result.now ≡ line = c.bytes.ensures ∙ c.put_integer.ensures ∙ ap (λ (z : ℤ). out_line (integer_text z)) (to_z-of_z {w = w32} (record { sfits = c.int_of_word.type_inv }) ∙ c.int_of_word.ensures.int) in
    on_err c.from_residual-in_err-write_all.result _ (record { line = line; is = integer_says c.args.receiver (c.if-not-is_int.ensures.0 refl); takes = subst P held c.in_err-write_all.ensures.front })

pub returns-clause-said : goal.returns-clause-said
returns-clause-said g c =
    let line = out_line (integer_text (int_of c.args.receiver)) in
    let P : List ℕ → Type 0 = λ z. Takes (g.K.Sink.taken c.args.out.now) (g.K.Sink.taken c.write_all.new.out) z in
    let held : c.bytes.result.now ≡ line = c.bytes.ensures ∙ c.put_integer.ensures ∙ ap (λ (z : ℤ). out_line (integer_text z)) (to_z-of_z {w = w32} (record { sfits = c.int_of_word.type_inv }) ∙ c.int_of_word.ensures.int) in
    record { line = line; is = integer_says c.args.receiver (c.if-not-is_int.ensures.0 refl); takes = subst P held c.in_ok-write_all.ensures.all }
