-- The state with which a session begins is well formed.
use Rattle.std.proofs.Common.{◌≡◌, ℕ, ◌<◌, ap, sym, subst, arith, length}
use Rattle.self_terms.specs.declared.values.Value.{Value}
use Rattle.self_terms.specs.declared.values.Value.TheVariants as values
use Rattle.source_model.specs.Objects.{Content, Constant, Assignable, Assignment, Parent, Method, Thing, Plain, Vector, Text}
use Rattle.source_model.specs.State.{Activity, State}
use Rattle.source_model.specs.Canon.{Each, ValueHas, ContentHas, SlotHas, ThingHas, ActivityHas, HasOwnNumbers}
use Rattle.source_model.specs.Soundness.{IsActivity}
use Rattle.source_model.specs.Formed.{ContentHolds, SlotHolds, ThingHolds, ActivityHolds, IsThere, AreInOrder, IsPlain, CanBegin, BeginsFormed, IsWellFormed}
use Rattle.source_model.proofs.Having.{each}
use Rattle.source_model.proofs.Forming.{thing_holds}

-- values among which there is no block have no numbers
module _ (P : ℕ → Type 0) (things : ℕ) where
  value_has : (v : Value) → IsPlain things v → ValueHas P v
  value_has (values.Int i) e = tt
  value_has (values.Object o) e = tt
  value_has (values.Block b k) e = absurd e

  content_has : (c : Content) → ContentHolds (IsPlain things) c → ContentHas P c
  content_has (Constant v) e = value_has v e
  content_has (Assignable v) e = value_has v e
  content_has Assignment e = tt
  content_has (Parent o) e = tt
  content_has (Method b) e = tt

  thing_has : (x : Thing) → ThingHolds (IsPlain things) x → ThingHas P x
  thing_has (Plain slots) e = each (SlotHolds (IsPlain things)) (SlotHas P) (λ x. content_has x.content) slots e
  thing_has (Vector items) e = each (IsPlain things) (ValueHas P) value_has items e
  thing_has (Text bytes) e = tt

module _ (s : State) (e : CanBegin s) where
  no_home : ℕ → ℕ
  no_home k = 0

  no_activities : (Q : Activity → Type 0) → Each Q s.activities
  no_activities Q = subst (Each Q) (sym e.none) tt

  plain_there : (v : Value) → IsPlain (length s.things) v → IsThere no_home s v
  plain_there (values.Int i) d = tt
  plain_there (values.Object o) d = d
  plain_there (values.Block b k) d = absurd d

  own : HasOwnNumbers s
  own = record {
    few = let none : length s.activities ≡ 0 = ap length e.none in omega (arith, none);
    below = record {
      things = each (ThingHolds (IsPlain (length s.things))) (ThingHas (λ k. k < s.unused)) (thing_has (λ k. k < s.unused) (length s.things)) s.things e.values;
      activities = no_activities (ActivityHas (λ k. k < s.unused));
    };
  }

  formed : IsWellFormed s
  formed = (
    no_home,
    record {
      own = own;
      order = no_activities AreInOrder;
      well = record { bodies = e.bodies; activities = no_activities (IsActivity s.bodies no_home) };
      values = record {
        things = each (ThingHolds (IsPlain (length s.things))) (ThingHolds (IsThere no_home s)) (thing_holds (IsPlain (length s.things)) (IsThere no_home s) plain_there) s.things e.values;
        activities = no_activities (ActivityHolds (IsThere no_home s));
      };
      world = e.world;
    },
  )

pub begins : BeginsFormed
begins s e = formed s e
