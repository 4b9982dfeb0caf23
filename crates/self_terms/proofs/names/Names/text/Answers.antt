use Rattle.std.proofs.Common.{sym, length, ◌≤◌}
use Rattle.std.proofs.lemmas.List.{length-map}
use Rattle.self_terms.proofs.NamesLemmas.{text_at}
use Rattle.self_terms.proofs.names.Names.text.Goals as goal

pub returns : goal.returns
returns c =
    let keys = c.self.inside.texts.keys in
    let l : c.args.name.0 ≤ length keys = simp length-map at (rw (← c.self.view_is) at c.requires.within) in
    rw (← c.self.view_is) (text_at (λ v. v.items) keys c.args.name.0 c.index-texts-name.result c.deref.result.now c.requires.given l (rw c.as_slice-texts.ensures.keys at c.index-texts-name.is) (sym c.deref.ensures.value))
