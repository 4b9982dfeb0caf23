-- A world that was built has no block.
use Rattle.std.proofs.Common.{◌≡◌, ℕ, ◌<◌, ◌≤◌, arith, sym, subst, List, [], ◌∷◌, ◌++◌, map}
use Rattle.std.specs.Prelude.{Ok}
use Rattle.self_terms.specs.declared.values.Datum.{Datum}
use Rattle.self_terms.specs.declared.values.Datum.TheVariants as datum
use Rattle.source_model.specs.declared.objects.Thing.{Thing}
use Rattle.source_model.specs.declared.objects.Thing.TheVariants.{Text}
use Rattle.source_model.specs.declared.objects.Core.{Core}
use Rattle.source_model.specs.Messages.{value_of}
use Rattle.source_model.specs.Canon.{Each, ValueHas, ContentHas, SlotHas, ThingHas, HasOwnNumbers}
use Rattle.world_build.specs.declared.slots.ToldContent.{ToldContent}
use Rattle.world_build.specs.declared.slots.ToldContent.TheVariants as told
use Rattle.world_build.specs.declared.slots.ToldSlot.{ToldSlot}
use Rattle.world_build.specs.declared.things.ToldThing.{ToldThing}
use Rattle.world_build.specs.declared.things.ToldThing.TheVariants as things
use Rattle.world_build.specs.Loading.{begun as begun_loading}
use Rattle.world_build.specs.Nodes.{loaded}
use Rattle.world_build.specs.Telling.{content_of, slot_from, thing_of}
use Rattle.world_build.specs.Worlds.{World, fixed_strings}
use Rattle.world_build.proofs.Weights.{finished_things}
use Rattle.world_state.specs.Begun.{IsBuilt, begun}

module _ (P : ℕ → Type 0) (core : Core) where
  value_has : (d : Datum) → ValueHas P (value_of core d)
  value_has (datum.Integer i) = tt
  value_has (datum.Object o) = tt
  value_has datum.Nil = tt

  content_has : (c : ToldContent) → ContentHas P (content_of core c)
  content_has (told.Constant v) = value_has v
  content_has (told.Assignable v) = value_has v
  content_has told.Assignment = tt
  content_has (told.Parent v) = tt
  content_has (told.Method b) = tt

  slots_have : (slots : List ToldSlot) → Each (SlotHas P) (map (slot_from core) slots)
  slots_have [] = tt
  slots_have (x ∷ xs) = (content_has x.content, slots_have xs)

  thing_has : (x : ToldThing) → ThingHas P (thing_of core x)
  thing_has (things.Plain slots) = slots_have slots
  thing_has (things.Text bytes) = tt

  strings_have : (texts : List (List ℕ)) → Each (ThingHas P) (map Text texts)
  strings_have [] = tt
  strings_have (t ∷ texts) = (tt, strings_have texts)

  things_have : (xs : List ToldThing) (texts : List (List ℕ)) → Each (ThingHas P) (map (thing_of core) xs ++ map Text texts)
  things_have [] texts = strings_have texts
  things_have (x ∷ xs) texts = (thing_has x, things_have xs texts)

pub own : (w : World) (names : List (List ℕ)) (k : ℕ) → IsBuilt w → HasOwnNumbers (begun w names k)
own w names k b =
    let t = finished_things (loaded b.bytes b.items (begun_loading b.names)) w b.made in
    record {
      few = omega arith;
      below = record {
        things = subst (λ (xs : List Thing). Each (ThingHas (λ n. n < 1)) xs) (sym t.things) (things_have (λ n. n < 1) t.core t.loading.things fixed_strings);
        activities = tt;
      };
    }
