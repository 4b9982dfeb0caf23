use Rattle.std.proofs.Common.{ℕ, Vec, Global, ◌∙◌, ◌<◌, ◌++◌, ◌∷◌, [], ap, sym, subst}
use Rattle.source_model.specs.declared.objects.Slot.{Slot}
use Rattle.world_build.proofs.ToldLemmas.{is_there, slot_more}
use Rattle.world_build.proofs.telling.list_of.Goals as goal
use Rattle.world_build.proofs.telling.list_of.Goals.{in-Some+in_ok-push, in_default}

pub loop-at-preserved : goal.loop-at-preserved
loop-at-preserved c = elim c.match-slot_at.branch [
  | in-Some+in_ok-push w ↦
      slot_more c.args.core c.loop-at.list.items c.match-slot_at.list.items c.args.slots.now c.loop-at.at w.in-Some.slot (sym c.slot_at.ensures ∙ w.in-Some.is)
      (ap (λ (v : Vec Slot Global). v.items) w.list-is ∙ w.in_ok-push.ensures.items ∙ ap (λ x. c.loop-at.list.items ++ x ∷ []) w.slot_from.ensures)
      ∙ c.loop-at.invariant
  | in_default w ↦ absurd (is_there c.args.slots.now c.loop-at.at (subst (λ n. c.loop-at.at < n) c.len-at-end.ensures c.loop-at-test.true) (sym c.slot_at.ensures ∙ w.in_default.is))
]
