use Rattle.std.proofs.Common.{◌∙◌, ap}
use Rattle.source_model.specs.Lines.{stop_line, error_line}
use Rattle.session_text.specs.LineTexts.{done_line}
use Rattle.plain_host.specs.Hosted.{host}
use Rattle.run_lines.proofs.Activities.{read_is}
use Rattle.run_lines.proofs.Told.{body_given, body_within, stop_told, done_told, error_told}
use Rattle.run_lines.proofs.lines.run_line.Goals as goal

pub next_place-requires-clause-given : goal.next_place-requires-clause-given
next_place-requires-clause-given c =
    let h = host c.args.hosting.now in
    let x = c.in-Some-Waiting in
    let r = c.requires.rests in
    body_given h r.0 r.1 x.field-0-0 x.field-0-1 x.field-0-2 (read_is h c.current.result c.status.result x.field-0 _ c.current.ensures c.status.ensures x.is x.field-0-is)

pub next_place-requires-clause-within : goal.next_place-requires-clause-within
next_place-requires-clause-within c =
    let h = host c.args.hosting.now in
    let x = c.in-Some-Waiting in
    let r = c.requires.rests in
    body_within h r.0 r.1 x.field-0-0 x.field-0-1 x.field-0-2 (read_is h c.current.result c.status.result x.field-0 _ c.current.ensures c.status.ensures x.is x.field-0-is)

pub returns-in-Some-Waiting-clause-line : goal.returns-in-Some-Waiting-clause-line
returns-in-Some-Waiting-clause-line c =
    let h = host c.args.hosting.now in
    let x = c.in-Some-Waiting in
    λ s r core.
    ap (λ k. stop_line k c.next_place.result) c.steps-steps.ensures
    ∙ ap (stop_line _) c.next_place.ensures
    ∙ stop_told h s r x.field-0-0 x.field-0-1 x.field-0-2 (read_is h c.current.result c.status.result x.field-0 _ c.current.ensures c.status.ensures x.is x.field-0-is)

pub returns-in-Some-Answered-clause-line : goal.returns-in-Some-Answered-clause-line
returns-in-Some-Answered-clause-line c =
    let h = host c.args.hosting.now in
    let x = c.in-Some-Answered in
    λ s r core.
    ap (done_line c.args.core c.value_alone.result) c.steps-steps.ensures
    ∙ done_told h s r c.args.core core x.word (read_is h c.current.result c.status.result x.field-0 _ c.current.ensures c.status.ensures x.is x.field-0-is) c.value_alone.result c.value_alone.ensures

pub returns-in-Some-Failed-clause-line : goal.returns-in-Some-Failed-clause-line
returns-in-Some-Failed-clause-line c =
    let h = host c.args.hosting.now in
    let x = c.in-Some-Failed in
    λ s r core.
    ap (λ k. error_line x.name k x.at) c.steps-steps.ensures
    ∙ error_told h s r x.name x.at (read_is h c.current.result c.status.result x.field-0 _ c.current.ensures c.status.ensures x.is x.field-0-is)
