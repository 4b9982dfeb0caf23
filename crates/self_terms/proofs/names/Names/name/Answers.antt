use Rattle.std.proofs.Common.{◌∙◌, ap, sym}
use Rattle.self_terms.specs.Names.{with_text}
use Rattle.self_terms.proofs.NamesLemmas.{text_there, with_there}
use Rattle.std.specs.Cmp.Lexicographic.{same_text}
use Rattle.self_terms.proofs.names.Names.name.Goals as goal

pub returns-clause-number : goal.returns-clause-number
returns-clause-number c =
    let found = c.in-Ok.ensures.stored in
    let copied = c.in_ok-text.ensures.items_if_clones_equal (λ x y e. e) in
    text_there (λ v. v.items) c.insert_full.new.self.keys c.in-Ok.at found.0 c.args.text.now found.1 (sym (same_text _ _ (sym found.2)) ∙ copied)

pub returns-clause-grows : goal.returns-clause-grows
returns-clause-grows c =
    let copied = c.in_ok-text.ensures.items_if_clones_equal (λ x y e. e) in
    with_there (λ v. v.items) c.self.inside.texts.keys c.insert_full.new.self.keys c.in_ok-text.text c.args.text.now copied c.in-Ok.ensures.keys
    ∙ ap (λ z. with_text z c.args.text.now) c.self.view_is
