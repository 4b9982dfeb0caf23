-- States with the same count of steps, as many activities, and the same current one.
use Rattle.std.proofs.Common.{◌≡◌, refl, ◌∙◌}
use Rattle.std.specs.Prelude.{length}
use Rattle.std.proofs.lemmas.List.{length-set}
use Rattle.source_model.specs.State.{Activity, State, with_current}

pub record IsBeside (s t : State) : Type 0 where
  pub steps : t.steps ≡ s.steps
  pub current : t.current ≡ s.current
  pub activities : length t.activities ≡ length s.activities

pub as_it_is : (s : State) → IsBeside s s
as_it_is s = record { steps = refl; current = refl; activities = refl }

pub set_beside : (s t : State) (x : Activity) → IsBeside s t → IsBeside s (with_current x t)
set_beside s t x d = record { steps = d.steps; current = d.current; activities = length-set t.activities t.current x ∙ d.activities }
