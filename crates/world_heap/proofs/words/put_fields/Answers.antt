use Rattle.std.proofs.Common.{ℕ, Vec, Global, ◌∙◌, ◌<◌, ◌+◌, ◌++◌, sym, ap, subst, map, drop}
use Rattle.world_heap.specs.Layout.{fields}
use Rattle.world_heap.specs.Kinds.{value_word}
use Rattle.world_heap.proofs.Fronts.{is_there}
use Rattle.world_heap.proofs.KindLemmas.{field_more}
use Rattle.world_heap.proofs.words.put_fields.Goals as goal
use Rattle.world_heap.proofs.words.put_fields.Goals.{in-Some+in_ok-put_field, in_default}

pub loop-at-preserved : goal.loop-at-preserved
loop-at-preserved c = elim c.match-slot_at.branch [
  | in-Some+in_ok-put_field w ↦
      ap (λ ws. ws ++ map (value_word c.args.world.now) (fields (drop (c.loop-at.at + 1) c.args.slots.now))) (ap (λ (v : Vec ℕ Global). v.items) w.words-is ∙ w.in_ok-put_field.ensures)
      ∙ field_more c.args.world.now c.loop-at.words.items c.args.slots.now c.loop-at.at w.in-Some.slot (sym c.slot_at.ensures ∙ w.in-Some.is)
      ∙ c.loop-at.invariant
  | in_default w ↦ absurd (is_there c.args.slots.now c.loop-at.at (subst (λ n. c.loop-at.at < n) c.len-at-end.ensures c.loop-at-test.true) (sym c.slot_at.ensures ∙ w.in_default.is))
]
