use Rattle.std.proofs.Common.{◌≡◌, ◌∙◌, ◌+◌, ◌/◌, ◌++◌, ℕ, ap, subst, arith, codes}
use Rattle.io_ports.specs.Causes.{TakesFront}
use Rattle.source_model.specs.Texts.{out_line}
use Rattle.sparc_store.specs.Words.{word_at}
use Rattle.plain_prints.specs.Lines.{bytes_from}
use Rattle.plain_prints.proofs.Taking.{on_err, err_so}
use Rattle.plain_prints.proofs.Piecing.{line_breaks, line_stops}
use Rattle.plain_prints.proofs.Reading.{reads}
use Rattle.plain_prints.proofs.printing.print_text.Goals as goal

pub overflow_add-receiver : goal.overflow_add-receiver
overflow_add-receiver g c =
    let below = (reads c.requires.text.0 c.args.mem.now c.requires.text.1 c.args.receiver c.requires.text.2).below in
    omega arith

pub overflow_add-receiver-2 : goal.overflow_add-receiver-2
overflow_add-receiver-2 g c =
    let below = (reads c.requires.text.0 c.args.mem.now c.requires.text.1 c.args.receiver c.requires.text.2).below in
    omega arith

pub load-requires : goal.load-requires
load-requires g c = (reads c.requires.text.0 c.args.mem.now c.requires.text.1 c.args.receiver c.requires.text.2).size

pub put_text-requires-clause-bytes : goal.put_text-requires-clause-bytes
put_text-requires-clause-bytes g c = λ k lt.
    let read = c.load.ensures.word in
    (reads c.requires.text.0 c.args.mem.now c.requires.text.1 c.args.receiver c.requires.text.2).bytes k (omega (arith, lt, read))

pub put_text-requires-clause-end : goal.put_text-requires-clause-end
put_text-requires-clause-end g c =
    let read = c.load.ensures.word in
    let below = (reads c.requires.text.0 c.args.mem.now c.requires.text.1 c.args.receiver c.requires.text.2).below in
    omega arith

pub returns-in_err-put_text-clause-front : goal.returns-in_err-put_text-clause-front
returns-in_err-put_text-clause-front g c =
    let a = g.K.Sink.taken c.args.out.now in
    let b = g.K.Sink.taken c.put_text.new.out in
    let P : ℕ → Type 0 = λ n. TakesFront a b (out_line (bytes_from c.args.mem.now (c.args.receiver + 11) (n / 4))) in
    let begins : c.put_bytes.new.self ≡ codes "out " = c.put_bytes.ensures.text ∙ ap (λ z. z ++ codes "out ") c.requires.empty in
    on_err c.from_residual.result _
    (subst P c.load.ensures.word (line_stops a b c.put_bytes.new.self (bytes_from c.args.mem.now (c.args.receiver + 11) (c.load.result / 4)) begins c.in_err-put_text.ensures.front))

pub returns-clause-front : goal.returns-clause-front
returns-clause-front g c =
    let a = g.K.Sink.taken c.args.out.now in
    let b = g.K.Sink.taken c.put_text.new.out in
    let d = g.K.Sink.taken c.write_all.new.out in
    let text = bytes_from c.args.mem.now (c.args.receiver + 11) (c.load.result / 4) in
    let P : ℕ → Type 0 = λ n. TakesFront a d (out_line (bytes_from c.args.mem.now (c.args.receiver + 11) (n / 4))) in
    let begins : c.put_bytes.new.self ≡ codes "out " = c.put_bytes.ensures.text ∙ ap (λ z. z ++ codes "out ") c.requires.empty in
    let ends : c.bytes.result.now ≡ c.put_text.new.self ++ codes "\n" = c.bytes.ensures ∙ c.put_bytes-2.ensures.text in
    err_so c.write_all.result (TakesFront b d c.bytes.result.now) (P (word_at c.args.mem.now (c.args.receiver + 7)))
    (λ f. subst P c.load.ensures.word (line_breaks a b c.put_bytes.new.self c.put_text.new.self c.bytes.result.now text begins c.in_ok-put_text.ensures.sent ends d f)) c.write_all.ensures.front
