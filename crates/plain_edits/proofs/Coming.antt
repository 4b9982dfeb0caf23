-- The source's command, where it accepts the edit.
use Rattle.std.proofs.Common.{◌+◌, List, ap, ◌∙◌, subst}
use Rattle.std.specs.Prelude.{if◌then◌else◌, Bool, Option, Some, Ok, Err}
use Rattle.std.proofs.lemmas.Bool.{le-leb}
use Rattle.self_terms.specs.declared.bodies.Body.{Body}
use Rattle.self_terms.specs.declared.values.Value.{Value}
use Rattle.self_terms.specs.declared.values.Value.TheVariants as values
use Rattle.source_model.specs.declared.objects.Content.{Content}
use Rattle.source_model.specs.Edits.{TooManyNodes, bodies_in, with_method, in_slot, at_path, edited}
use Rattle.source_model.specs.Formed.{IsWellFormed}
use Rattle.source_model.specs.Script.{Edit as EditCommand, Read, edit_done, command}
use Rattle.source_model.specs.State.{Reached, silent}
use Rattle.source_model.proofs.Editing.{commands_form}
use Rattle.plain_edits.specs.Resting.{EditsCome, EditsForm}

pub edits_come : EditsCome
unfolding command edited
edits_come q path e o a stop =
    let s = q.state in
    let t = e.text in
    ap (λ (v : Option Value). edit_done (at_path s t v (bodies_in s t)) q) a.leads
    ∙ ap (λ (m : Option (List Body)). edit_done (at_path s t (Some (values.Object o)) m) q) a.bodies
    ∙ ap (λ (c : Option Content). edit_done (in_slot s t (values.Object o) c e.bodies) q) a.method
    ∙ ap (λ (b : Bool). edit_done (if b then Ok (with_method t o e.bodies s) else Err TooManyNodes) q) (le-leb (s.size + t.size) 65536 a.small)

pub edits_form : EditsForm
edits_form s path e o a formed =
    subst (λ (y : Reached). IsWellFormed y.state) (edits_come (silent s) path e o a 0) (commands_form (EditCommand path (Read e.text)) 0 (silent s) a.fits formed)
