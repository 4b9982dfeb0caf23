-- Lookups go by names and parents: what else slots hold changes nothing of them.
use Rattle.std.proofs.Common.{◌≡◌, ℕ, zero, suc, ap, sym, refl, ◌∙◌, Bool, true, false, List, [], ◌∷◌, ◌++◌, length, map}
use Rattle.std.specs.Prelude.{◌||◌, Option, Some, None, option_map, option_and_then, cond}
use Rattle.std.specs.List.{cons_option}
use Rattle.std.proofs.lemmas.List.{map-append, length-map}
use Rattle.source_model.specs.Objects.{Object, Slot, Content, slots_at, slot_named, has_name, owns, parents_in, parent_of}
use Rattle.source_model.specs.Lookup.{Found, NotUnderstood, One, Ambiguous, lookup, lookup_from, resend, directed, parent_named, has_in, parents_of, holders, holders_from_all, found_of}
use Rattle.source_model.specs.Messages.{Met, Missing, Holds, held, met_in, met_beside}

abbrev pub slot_with : (Content → Content) → Slot → Slot
slot_with change x = record x { content = change x.content }

abbrev pub met_with : (Content → Content) → Met → Met
met_with change (Missing e) = Missing e
met_with change (Holds o c) = Holds o (change c)

module _ (change : Content → Content) (parent_by : (c : Content) → parent_of (change c) ≡ parent_of c) where
  abbrev pub g : Object → Object
  g slots = map (slot_with change) slots

  pub slots_at_by : (objs : List Object) (o : ℕ) → slots_at (map g objs) o ≡ g (slots_at objs o)
  slots_at_by [] o = refl
  slots_at_by (x ∷ xs) zero = refl
  slots_at_by (x ∷ xs) (suc o) = slots_at_by xs o

  pub owns_by : (name : ℕ) (slots : Object) → owns name (g slots) ≡ owns name slots
  owns_by name [] = refl
  owns_by name (x ∷ xs) = ap (λ b. has_name name x || b) (owns_by name xs)

  pub parents_by : (slots : Object) → parents_in (g slots) ≡ parents_in slots
  parents_by [] = refl
  parents_by (x ∷ xs) = λ i. cons_option (parent_by x.content i) (parents_by xs i)

  named_or : (name : ℕ) (x : Slot) (xs : Object) (b : Bool) → slot_named name (g xs) ≡ option_map (slot_with change) (slot_named name xs)
      → cond b (Some (slot_with change x)) (slot_named name (g xs)) ≡ option_map (slot_with change) (cond b (Some x) (slot_named name xs))
  named_or name x xs true e = refl
  named_or name x xs false e = e

  pub named_by : (name : ℕ) (slots : Object) → slot_named name (g slots) ≡ option_map (slot_with change) (slot_named name slots)
  named_by name [] = refl
  named_by name (x ∷ xs) = named_or name x xs (has_name name x) (named_by name xs)

  has_by : (objs : List Object) (name : ℕ) → has_in (map g objs) name ≡ has_in objs name
  has_by objs name = λ i o. (ap (owns name) (slots_at_by objs o) ∙ owns_by name (slots_at objs o)) i

  above_by : (objs : List Object) → parents_of (map g objs) ≡ parents_of objs
  above_by objs = λ i o. (ap parents_in (slots_at_by objs o) ∙ parents_by (slots_at objs o)) i

  pub lookup_by : (objs : List Object) (name o : ℕ) → lookup (map g objs) name o ≡ lookup objs name o
  lookup_by objs name o = λ i. found_of (holders (has_by objs name i) (above_by objs i) (length-map objs g i) o [])

  pub resend_by : (objs : List Object) (name o : ℕ) → resend (map g objs) name o ≡ resend objs name o
  resend_by objs name o = λ i. found_of (holders_from_all (has_by objs name i) (above_by objs i) (length-map objs g i) (above_by objs i o))

  lookup_from_by : (objs : List Object) (name : ℕ) (m : Option ℕ) → lookup_from (map g objs) name m ≡ lookup_from objs name m
  lookup_from_by objs name None = refl
  lookup_from_by objs name (Some o) = lookup_by objs name o

  parent_of_slot : (m : Option Slot) → option_and_then (λ (s : Slot). parent_of s.content) (option_map (slot_with change) m) ≡ option_and_then (λ (s : Slot). parent_of s.content) m
  parent_of_slot None = refl
  parent_of_slot (Some x) = parent_by x.content

  pub directed_by : (objs : List Object) (parent name o : ℕ) → directed (map g objs) parent name o ≡ directed objs parent name o
  directed_by objs parent name o =
      ap (λ slots. lookup_from (map g objs) name (parent_named parent slots)) (slots_at_by objs o)
      ∙ ap (λ m. lookup_from (map g objs) name (option_and_then (λ (s : Slot). parent_of s.content) m)) (named_by parent (slots_at objs o))
      ∙ ap (lookup_from (map g objs) name) (parent_of_slot (slot_named parent (slots_at objs o)))
      ∙ lookup_from_by objs name (parent_named parent (slots_at objs o))

  held_by : (o : ℕ) (m : Option Slot) → held o (option_map (slot_with change) m) ≡ met_with change (held o m)
  held_by o None = refl
  held_by o (Some x) = refl

  pub met_in_by : (objs : List Object) (name : ℕ) (found : Found) → met_in (map g objs) name found ≡ met_with change (met_in objs name found)
  met_in_by objs name NotUnderstood = refl
  met_in_by objs name (Ambiguous a b) = refl
  met_in_by objs name (One o) = ap (λ slots. held o (slot_named name slots)) (slots_at_by objs o) ∙ ap (held o) (named_by name (slots_at objs o)) ∙ held_by o (slot_named name (slots_at objs o))

  pub met_by_lookup : (objs : List Object) (name o : ℕ) → met_in (map g objs) name (lookup (map g objs) name o) ≡ met_with change (met_in objs name (lookup objs name o))
  met_by_lookup objs name o = ap (met_in (map g objs) name) (lookup_by objs name o) ∙ met_in_by objs name (lookup objs name o)

  pub beside_by : (objs : List Object) (name : ℕ) (own : Object) → g own ≡ own → met_beside (map g objs) name own ≡ met_with change (met_beside objs name own)
  beside_by objs name own e =
      (λ i. met_in (map g objs ++ sym e i ∷ []) name (lookup (map g objs ++ sym e i ∷ []) name (length-map objs g i)))
      ∙ ap (λ all. met_in all name (lookup all name (length objs))) (sym (map-append g objs (own ∷ [])))
      ∙ met_by_lookup (objs ++ own ∷ []) name (length objs)
