use Rattle.std.proofs.Common.{◌≡◌, ◌∙◌, ℕ, ◌+◌, ◌*◌, ◌/◌, slice_get, arith, ap}
use Rattle.sparc_store.specs.Words.{word_at}
use Rattle.object_maps.proofs.sound.is_listed.Goals as goal

quarter : (w n : ℕ) → w ≡ 4 * n → w / 4 ≡ n
quarter w n e = omega (arith, e)

pub returns-then-is_reference : goal.returns-then-is_reference
returns-then-is_reference c = (
  λ t. (c.number_of.result, c.stands_at.ensures.0 t),
  λ l. let object = c.requires l.0 c.args.word l.1 in
      let same = c.number_of.ensures ∙ quarter (word_at c.args.mem.now (c.args.word + 3)) l.0 object.numbered in
      c.stands_at.ensures.1 (ap (slice_get c.args.objects.now) same ∙ l.1),
)
