-- A well-formed state stays so with further names.
use Rattle.std.proofs.Common.{◌≡◌, ℕ, sym, subst, List, ◌++◌, length}
use Rattle.std.specs.Prelude.{Option, Some, None, codes}
use Rattle.self_terms.specs.declared.values.Value.{Value}
use Rattle.self_terms.specs.declared.values.Value.TheVariants as values
use Rattle.self_terms.specs.Names.{text_of}
use Rattle.source_model.specs.Names.{number_of}
use Rattle.source_model.specs.declared.objects.Slot.{Slot}
use Rattle.source_model.specs.declared.objects.Content.{Content}
use Rattle.source_model.specs.declared.objects.Content.TheVariants.{Constant, Assignable, Assignment, Parent, Method}
use Rattle.source_model.specs.declared.objects.Thing.{Thing}
use Rattle.source_model.specs.declared.objects.Thing.TheVariants.{Plain, Vector, Text}
use Rattle.source_model.specs.State.{Activation, Activity, Running, Answered, Failed, State}
use Rattle.source_model.specs.Canon.{Each}
use Rattle.source_model.specs.Formed.{Takes, IsSaid, ContentHolds, SlotHolds, ThingHolds, ActivationHolds, ActivityHolds, IsThere, ThingFits, IsWellFormed}
use Rattle.plain_names.specs.Growing.{with_names}
use Rattle.plain_names.proofs.Numbers.{takes_on, number_on}
use Rattle.plain_names.proofs.Fitting.{each_so, said_on}

-- What holds of values.

module _ (V W : Value → Type 0) (so : (v : Value) → V v → W v) where
  content_so : (c : Content) → ContentHolds V c → ContentHolds W c
  content_so (Constant v) h = so v h
  content_so (Assignable v) h = so v h
  content_so Assignment h = tt
  content_so (Parent o) h = so (values.Object o) h
  content_so (Method b) h = tt

  thing_so : (x : Thing) → ThingHolds V x → ThingHolds W x
  thing_so (Plain slots) h = each_so (SlotHolds V) (SlotHolds W) (λ (x : Slot) e. content_so x.content e) slots h
  thing_so (Vector items) h = each_so V W so items h
  thing_so (Text bytes) h = tt

  activation_so : (a : Activation) → ActivationHolds V a → ActivationHolds W a
  activation_so a h = record { receiver = so a.receiver h.receiver; holder = so (values.Object a.holder) h.holder; locals = each_so V W so a.locals h.locals; pending = each_so V W so a.pending h.pending }

  activity_so : (x : Activity) → ActivityHolds V x → ActivityHolds W x
  activity_so (Running all) h = each_so (ActivationHolds V) (ActivationHolds W) activation_so all h
  activity_so (Answered v) h = tt
  activity_so (Failed e p) h = tt

  things_so : (xs : List Thing) → Each (ThingHolds V) xs → Each (ThingHolds W) xs
  things_so xs h = each_so (ThingHolds V) (ThingHolds W) thing_so xs h

  activities_so : (xs : List Activity) → Each (ActivityHolds V) xs → Each (ActivityHolds W) xs
  activities_so xs h = each_so (ActivityHolds V) (ActivityHolds W) activity_so xs h

there_on : (home : ℕ → ℕ) (s : State) (more : List (List ℕ)) (v : Value) → IsThere home s v → IsThere home (with_names s more) v
there_on home s more (values.Int i) h = tt
there_on home s more (values.Object o) h = h
there_on home s more (values.Block b maker) h = h

-- The message of failures.

none_eq : (y : List ℕ) → ◌≡◌ {A = Option (List ℕ)} None (Some y) → ⊥
none_eq y e = cc

failure_on : (names more : List (List ℕ)) (t : List ℕ) (args : ℕ) → Takes names (number_of names t) args → Takes (names ++ more) (number_of (names ++ more) t) args
failure_on names more t args h =
    subst (λ (n : ℕ). Takes (names ++ more) n args)
    (sym (number_on names more t (λ e. none_eq h.text (subst (λ (n : ℕ). text_of names n ≡ Some h.text) e h.given))))
    (takes_on names more (number_of names t) args h)

pub formed_on : (s : State) (more : List (List ℕ)) → Each (ThingFits (s.names ++ more) s.bodies) s.things → IsWellFormed s → IsWellFormed (with_names s more)
formed_on s more fit f =
    let home = f.0 in
    let h = f.1 in
    let c = h.world.0 in (
      home,
      record {
        own = record { few = h.own.few; below = record { things = h.own.below.things; activities = h.own.below.activities } };
        order = h.order;
        well = record { bodies = h.well.bodies; activities = h.well.activities };
        values = record {
          things = things_so (IsThere home s) (IsThere home (with_names s more)) (there_on home s more) s.things h.values.things;
          activities = activities_so (IsThere home s) (IsThere home (with_names s more)) (there_on home s more) s.activities h.values.activities;
        };
        world = (
          record {
            nil = c.nil;
            yes = c.yes;
            no = c.no;
            integers = c.integers;
            strings = c.strings;
            vectors = c.vectors;
            blocks = c.blocks;
            fixed = c.fixed;
            failure = failure_on s.names more (codes "value:With:") 2 c.failure;
          },
          record { code = each_so (IsSaid s.names (length s.things)) (IsSaid (s.names ++ more) (length s.things)) (said_on s.names more (length s.things)) s.bodies h.world.1.code; slots = fit },
        );
      },
    )
