-- A message to the lobby meets the lobby's own method of its name.
use Rattle.std.proofs.Common.{◌≡◌, ℕ, refl, ap, sym, ◌∙◌, inl, inr, true, false, Bool, List, [], ◌∷◌, map, length}
use Rattle.std.specs.Prelude.{Option, Some, None, option_map, slice_get, cond, flat_map, ◌==◌}
use Rattle.std.specs.List.{list_any}
use Rattle.std.proofs.lemmas.Bool.{cases_Bool}
use Rattle.self_terms.specs.declared.values.BodyId.{BodyId}
use Rattle.self_terms.specs.declared.values.Value.TheVariants as values
use Rattle.source_model.specs.declared.objects.Content.{Content}
use Rattle.source_model.specs.declared.objects.Content.TheVariants.{Constant, Assignable, Assignment, Parent, Method}
use Rattle.source_model.specs.declared.objects.Core.{Core}
use Rattle.source_model.specs.declared.objects.Slot.{Slot}
use Rattle.source_model.specs.declared.objects.Thing.{Thing}
use Rattle.source_model.specs.declared.objects.Thing.TheVariants.{Plain, Vector, Text}
use Rattle.source_model.specs.Slots.{has_name, slot_named}
use Rattle.source_model.specs.Objects.{Object, owns}
use Rattle.source_model.specs.Edits.{plain_slots}
use Rattle.source_model.specs.Lookup.{holders, found_of, has_in, parents_of, lookup}
use Rattle.source_model.specs.Messages.{Met, Holds, held, met_in, slots_of, meets}
use Rattle.world_build.specs.Worlds.{World, lobby_method, method_in}
use Rattle.world_state.specs.Begun.{begun}

owns_found : (name : ℕ) (slots : Object) (x : Slot) → slot_named name slots ≡ Some x → owns name slots ≡ true
owns_found name [] x e = cc
owns_found name (y ∷ slots) x e = elim (cases_Bool (y.name == name)) [
  | inl h ↦ rw h refl
  | inr h ↦ rw h (owns_found name slots x (rw h at e))
]

-- an object with the slot is the one holder that is found from it
found_own : (name : ℕ) (slots : Object) (rest : List Object) (x : Slot) → slot_named name slots ≡ Some x → met_in (slots ∷ rest) name (lookup (slots ∷ rest) name 0) ≡ Holds 0 x.content
unfolding holders
found_own name slots rest x e =
    ap (λ b. met_in (slots ∷ rest) name (found_of (cond b (0 ∷ []) (flat_map (λ p. holders (has_in (slots ∷ rest) name) (parents_of (slots ∷ rest)) (length rest) p (0 ∷ [])) (parents_of (slots ∷ rest) 0))))) (owns_found name slots x e)
    ∙ ap (held 0) e

content_met : (c : Content) (b : BodyId) → method_in (Some c) ≡ Some b → c ≡ Method b
content_met (Constant v) b e = cc
content_met (Assignable v) b e = cc
content_met Assignment b e = cc
content_met (Parent o) b e = cc
content_met (Method a) b e = let same : a ≡ b = cc in ap Method same

method_met : (name : ℕ) (slots : Object) (rest : List Object) (o : Option Slot) (b : BodyId) → slot_named name slots ≡ o → method_in (option_map (λ (x : Slot). x.content) o) ≡ Some b
    → met_in (slots ∷ rest) name (lookup (slots ∷ rest) name 0) ≡ Holds 0 (Method b)
method_met name slots rest None b e f = cc
method_met name slots rest (Some x) b e f = found_own name slots rest x e ∙ ap (Holds 0) (content_met x.content b f)

things_met : (core : Core) (things : List Thing) (name : ℕ) (b : BodyId) → method_in (option_map (λ (x : Slot). x.content) (slot_named name (plain_slots (slice_get things 0)))) ≡ Some b
    → met_in (map (slots_of core) things) name (lookup (map (slots_of core) things) name 0) ≡ Holds 0 (Method b)
things_met core [] name b e = cc
things_met core (Plain slots ∷ rest) name b e = method_met name slots (map (slots_of core) rest) (slot_named name slots) b refl e
things_met core (Vector items ∷ rest) name b e = cc
things_met core (Text bytes ∷ rest) name b e = cc

pub lobby_met : (w : World) (names : List (List ℕ)) (k name : ℕ) (b : BodyId) → lobby_method w name ≡ Some b → meets (begun w names k) (values.Object 0) name ≡ Holds 0 (Method b)
unfolding meets
lobby_met w names k name b e = things_met w.core w.things name b e
