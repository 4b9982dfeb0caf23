use Rattle.std.proofs.Common.{◌∙◌, map, string_bytes, Global, sym, ap, inl, inr, length}
use Rattle.std.proofs.lemmas.Option.{none-some, same_Some}
use Rattle.self_debugger.specs.Answer.{Answer}
use Rattle.self_debugger.specs.Headline.{Outcome}
use Rattle.self_debugger.specs.Tasks.{meant}
use Rattle.self_debugger.proofs.Cases.{of_no_words, of_check, of_drill, of_run}
use Rattle.self_debugger.proofs.top.serve_words.Goals as goal

pub returns-in-None-clause-headline : goal.returns-in-None-clause-headline
returns-in-None-clause-headline g c = λ a s.
    let P : Answer → Type 0 = λ x. Outcome c.tell.result.status x (g.K.Sink.taken c.args.out.now) (g.K.Sink.taken c.tell.new.out) in
    of_no_words (length c.args.advisors.items) P (map (string_bytes {Z = Global}) c.args.words.now) (g.F.Files.bytes_of c.args.files.now) (g.S.Source.left c.args.script.now)
    (λ job asks. none-some job (c.in-None.ensures.only job asks)) c.tell.ensures.outcome s

pub returns-in-Some-Run-clause-headline : goal.returns-in-Some-Run-clause-headline
returns-in-Some-Run-clause-headline g c = λ a s.
    let P : Answer → Type 0 = λ x. Outcome c.serve_world.result.status x (g.K.Sink.taken c.args.out.now) (g.K.Sink.taken c.serve_world.new.out) in
    of_run (length c.args.advisors.items) P (map (string_bytes {Z = Global}) c.args.words.now) (g.F.Files.bytes_of c.args.files.now) (g.S.Source.left c.args.script.now) c.in-Some-Run.name.now
    (rw c.in-Some-Run.field-0-is at c.in-Some-Run.ensures.found)
    (λ job asks. sym (same_Some _ _ (c.in-Some-Run.ensures.only job asks)) ∙ ap meant c.in-Some-Run.field-0-is)
    (λ w told r. c.serve_world.ensures.outcome w a told r) s

pub returns-in-Some-Check-clause-headline : goal.returns-in-Some-Check-clause-headline
returns-in-Some-Check-clause-headline g c = λ a s.
    let P : Answer → Type 0 = λ x. Outcome c.serve_check.result.status x (g.K.Sink.taken c.args.out.now) (g.K.Sink.taken c.serve_check.new.out) in
    of_check (length c.args.advisors.items) P (map (string_bytes {Z = Global}) c.args.words.now) (g.F.Files.bytes_of c.args.files.now) (g.S.Source.left c.args.script.now) c.in-Some-Check.name.now
    (rw c.in-Some-Check.field-0-is at c.in-Some-Check.ensures.found)
    (λ job asks. sym (same_Some _ _ (c.in-Some-Check.ensures.only job asks)) ∙ ap meant c.in-Some-Check.field-0-is)
    (λ w told r. c.serve_check.ensures.outcome w a told r) s

pub returns-in-Some-Drill-clause-headline : goal.returns-in-Some-Drill-clause-headline
returns-in-Some-Drill-clause-headline g c = λ a s.
    let P : Answer → Type 0 = λ x. Outcome c.tell-in-Some-Drill.result.status x (g.K.Sink.taken c.args.out.now) (g.K.Sink.taken c.tell-in-Some-Drill.new.out) in
    of_drill (length c.args.advisors.items) P (map (string_bytes {Z = Global}) c.args.words.now) (g.F.Files.bytes_of c.args.files.now) (g.S.Source.left c.args.script.now) c.in-Some-Drill.field-0-0
    (rw c.in-Some-Drill.field-0-is at c.in-Some-Drill.ensures.found)
    (λ job asks. sym (same_Some _ _ (c.in-Some-Drill.ensures.only job asks)) ∙ ap meant c.in-Some-Drill.field-0-is)
    c.tell-in-Some-Drill.ensures.outcome s

pub returns-in-Some-Run-clause-read : goal.returns-in-Some-Run-clause-read
returns-in-Some-Run-clause-read g c = λ four.
    elim (c.serve_world.ensures.read four) [
      | inl r ↦ inl (c.in-Some-Run.name.now, inl (rw c.in-Some-Run.field-0-is at c.in-Some-Run.ensures.found), r)
      | inr q ↦ inr (c.in-Some-Run.name.now, (rw c.in-Some-Run.field-0-is at c.in-Some-Run.ensures.found), q.0, q.1)
    ]
