-- Machine and host rest for a state with further names.
use Rattle.std.proofs.Common.{ℕ, sym, subst, List, ◌∷◌, ◌++◌, length}
use Rattle.std.specs.Prelude.{codes}
use Rattle.self_terms.specs.declared.names.TheConstants.{INT_ADD, INT_SUB}
use Rattle.self_terms.specs.declared.values.BodyId.{BodyId}
use Rattle.source_model.specs.Names.{evaluator}
use Rattle.source_model.specs.declared.objects.Content.TheVariants.{Method}
use Rattle.source_model.specs.Messages.{body_of, kin}
use Rattle.source_model.specs.State.{State}
use Rattle.object_maps.specs.Slots.{slots_in}
use Rattle.heap_cells.specs.Standing.{AreKinds}
use Rattle.frame_walk.specs.Raw.{Raw}
use Rattle.raw_steps.specs.Stands.{Sense, Stands}
use Rattle.raw_steps.specs.Meeting.{HasCore}
use Rattle.plain_runs.specs.Host.{Host, raw_of}
use Rattle.plain_steps.specs.Steps.{NamesSums, StandsFor}
use Rattle.plain_turns.specs.Resting.{Rests}
use Rattle.plain_names.specs.Growing.{with_names, MayName}
use Rattle.plain_names.proofs.Numbers.{text_on, number_stays}
use Rattle.plain_names.proofs.Formed.{formed_on}

stands_on : (z : Sense) (r : Raw) (s : State) (more : List (List ℕ)) → Stands z r s → Stands z r (with_names s more)
stands_on z r s more h = record {
  heap = h.heap;
  unused = h.unused;
  activity = h.activity;
  live = h.live;
  current = h.current;
  steps = h.steps;
  cost = h.cost;
  within = h.within;
}

core_on : (z : Sense) (r : Raw) (s : State) (more : List (List ℕ)) → MayName s more → HasCore r s z → HasCore r (with_names s more) z
core_on z r s more may h = record {
  kin_of = h.kin_of;
  integers = h.integers;
  blocks = λ (map : ℕ) (b : BodyId) le is.
      subst (λ (n : ℕ). AreKinds z.cells z.places 0 (slots_in r.maps map) (record { name = n; content = Method b } ∷ kin s.core.blocks))
      (sym (number_stays s.names more (evaluator (length (body_of s b.0).arguments)) (may.evaluators b.0)))
      (h.blocks map b le is);
}

sums_on : (names more : List (List ℕ)) → NamesSums names → NamesSums (names ++ more)
sums_on names more h = record { add = text_on names more INT_ADD.0 (codes "_IntAdd:") h.add; sub = text_on names more INT_SUB.0 (codes "_IntSub:") h.sub }

stands_for_on : (z : Sense) (h : Host) (s : State) (more : List (List ℕ)) → MayName s more → StandsFor z h s → StandsFor z h (with_names s more)
stands_for_on z h s more may e = record {
  stands = stands_on z (raw_of h) s more e.stands;
  core = core_on z (raw_of h) s more may e.core;
  bodies = e.bodies;
  objects = e.objects;
  nil = e.nil;
  sums = sums_on s.names more e.sums;
}

pub rests_on : (h : Host) (s : State) (more : List (List ℕ)) → MayName s more → Rests h s → Rests h (with_names s more)
rests_on h s more may r = record {
  sense = r.sense;
  sound = record { hosted = r.sound.hosted; runs = r.sound.runs; current = r.sound.current; stands = stands_for_on r.sense h s more may r.sound.stands };
  parks = r.parks;
  formed = formed_on s more may.slots r.formed;
  ready = r.ready;
  start = r.start;
  paid = r.paid;
}
