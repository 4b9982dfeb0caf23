use Rattle.std.proofs.Common.{◌≡◌, ◌∙◌, sym, ap, ℕ, List, arith}
use Rattle.self_grammar.specs.declared.pieces.Item.{Item}
use Rattle.self_grammar.specs.Spelling.{world, items_of}
use Rattle.self_reader.specs.declared.texts.TheConstants.{LIMITS}
use Rattle.self_reader.specs.Texts.{known}
use Rattle.world_build.specs.Worlds.{built}
use Rattle.world_image.proofs.building.build.Goals as goal

pub image_of_text-requires-clause-text : goal.image_of_text-requires-clause-text
image_of_text-requires-clause-text c =
    let text = c.requires.text in
    let said : List Item = items_of (world LIMITS text.0) in
    let same : c.deref.result.now ≡ said = c.deref.ensures.value ∙ text.2 in
    record {
      limits = LIMITS;
      known = known;
      text = text.0;
      size = omega arith;
      is = text.1;
      made = ap (λ (ns : List (List ℕ)). built ns c.args.bytes.now said) (sym c.requires.names)
          ∙ ap (λ (is : List Item). built c.args.tree.names c.args.bytes.now is) (sym same)
          ∙ c.in-Ok.ensures.built;
    }
