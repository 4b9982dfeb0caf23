use Rattle.std.proofs.Common.{◌≡◌, ◌<◌, ◌∙◌, ap, length, get_or, subst, sym}
use Rattle.std.specs.Prelude.{ℕ}
use Rattle.source_model.specs.declared.objects.Core.{Core}
use Rattle.world_build.specs.Worlds.{World}
use Rattle.world_heap.specs.Heaps.{places}
use Rattle.world_blocks.proofs.Known.{traits_within, traits_are}
use Rattle.world_blocks.proofs.sessions.block_traits.Goals as goal

pub bounds-as_slice-blocks : goal.bounds-as_slice-blocks
bounds-as_slice-blocks c =
    let w : World = c.args.image.now.world in
    let core = ap (λ (x : Core). x.blocks) c.core-blocks.ensures ∙ ap (λ (x : World). x.core.blocks) c.world.ensures in
    let words : c.as_slice.result.now ≡ (places w).objects = c.as_slice.ensures ∙ c.in_ok-references.ensures in
    subst (λ (k : ℕ). k < length c.as_slice.result.now) (sym core) (traits_within w c.as_slice.result.now c.is_whole.ensures.whole words)

pub returns : goal.returns
returns c =
    let w : World = c.args.image.now.world in
    let core = ap (λ (x : Core). x.blocks) c.core-blocks.ensures ∙ ap (λ (x : World). x.core.blocks) c.world.ensures in
    let words : c.as_slice.result.now ≡ (places w).objects = c.as_slice.ensures ∙ c.in_ok-references.ensures in
    ap (λ (k : ℕ). get_or c.as_slice.result.now k 0) core ∙ traits_are w c.as_slice.result.now 0 c.is_whole.ensures.whole words
