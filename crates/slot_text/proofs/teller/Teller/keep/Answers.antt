use Rattle.std.proofs.Common.{◌≡◌, ◌++◌, ◌∷◌, [], sym, ap, ◌∙◌}
use Rattle.std.specs.Prelude.{map}
use Rattle.std.proofs.lemmas.List.{map-append}
use Rattle.source_model.specs.Edits.{Nothing}
use Rattle.world_build.specs.Loading.{innermost, body_in}
use Rattle.world_build.specs.SlotTexts.{initial_for, local_told}
use Rattle.slot_text.specs.Contents.{initial}
use Rattle.slot_text.specs.Telling.{kept_by, shown}
use Rattle.slot_text.proofs.Around.{opens, some_open}
use Rattle.slot_text.proofs.teller.Teller.keep.Goals as goal

pub returns-in_ok-push-in-Some : goal.returns-in_ok-push-in-Some
returns-in_ok-push-in-Some c =
    let s = c.args.self.now in
    let content = initial_for c.args.form (initial s.held) in
    let one : map kept_by c.push.new.self.items ≡ map kept_by s.kept.items ++ (c.in-Some.body, initial c.initial_for.result) ∷ [] =
    ap (map kept_by) c.in_ok-push-in-Some.ensures.items ∙ map-append kept_by s.kept.items (record { body = c.in-Some.body; initial = c.initial_for.result } ∷ []) in
    let what : initial c.initial_for.result ≡ content = c.initial_for.ensures ∙ ap (λ i. initial_for c.args.form (initial i)) c.replace-held.ensures.value in
    let all : map kept_by c.push.new.self.items ≡ local_told (body_in (innermost (shown s).loading.around)) content (map kept_by s.kept.items) =
    one ∙ ap (λ i. map kept_by s.kept.items ++ (c.in-Some.body, i) ∷ []) what
    ∙ sym (some_open (λ a. local_told (body_in (innermost (opens a).loading.around)) content (map kept_by s.kept.items)) s.around c.in-Some.body (sym c.innermost.ensures ∙ c.in-Some.is)) in
    ap (λ i. record (shown s) { held = i; initials = map kept_by c.push.new.self.items }) (ap initial c.replace-held.ensures.after)
    ∙ ap (λ is. record (shown s) { held = Nothing; initials = is }) all
