-- Slots by their places.
use Rattle.std.proofs.Common.{◌≡◌, ℕ, zero, suc, ◌<◌, ◌≤◌, [], ◌∷◌, length, drop, refl, sym, ap, ◌∙◌, arith, add-one}
use Rattle.std.specs.List.{cons_option}
use Rattle.std.specs.Prelude.{slice_get, option_map, Option, Some, None}
use Rattle.std.proofs.lemmas.Option.{slice_get_within}
use Rattle.self_terms.specs.declared.names.Name.{Name}
use Rattle.object_maps.specs.declared.maps.SlotKind.{SlotKind}
use Rattle.object_maps.specs.declared.maps.SlotKind.TheVariants.{Constant, Field, Assign, Parent, Method}
use Rattle.object_maps.specs.Slots.{Slots, named, parents_in, parent_of}
use Rattle.slot_lookup.specs.Walk.{IsNext, next_by}

some_none : (s : Name × SlotKind) → ◌≡◌ {A = Option (Name × SlotKind)} None (Some s) → ⊥
some_none s e = cc

inj_named : (a b : Name × SlotKind) → ◌≡◌ {A = Option (Name × SlotKind)} (Some a) (Some b) → a ≡ b
inj_named a b e = cc

inj_slot : (a b : ℕ × SlotKind) → ◌≡◌ {A = Option (ℕ × SlotKind)} (Some a) (Some b) → a ≡ b
inj_slot a b e = cc

none_here : (s : ℕ × SlotKind) → ◌≡◌ {A = Option (ℕ × SlotKind)} None (Some s) → ⊥
none_here s e = cc

pub nothing_left : (slots : Slots) (at : ℕ) → None ≡ option_map named (slice_get slots at) → parents_in (drop at slots) ≡ []
nothing_left [] zero e = refl
nothing_left [] (suc at) e = refl
nothing_left (s ∷ slots) zero e = absurd (some_none (named s) e)
nothing_left (s ∷ slots) (suc at) e = nothing_left slots at e

there_in : (o : Option (ℕ × SlotKind)) (s : Name × SlotKind) → Some s ≡ option_map named o → (t : ℕ × SlotKind) × (o ≡ Some t) × (t.1 ≡ s.1)
there_in None s e = absurd (some_none s (sym e))
there_in (Some t) s e = (t, refl, ap (λ z. z.1) (sym (inj_named s (named t) e)))

step_at : (slots : Slots) (at : ℕ) (s : ℕ × SlotKind) → slice_get slots at ≡ Some s → parents_in (drop at slots) ≡ cons_option (parent_of s.1) (parents_in (drop (suc at) slots))
step_at [] zero s e = absurd (none_here s e)
step_at [] (suc at) s e = absurd (none_here s e)
step_at (t ∷ slots) zero s e = ap (λ z. cons_option (parent_of z.1) (parents_in slots)) (inj_slot t s e)
step_at (t ∷ slots) (suc at) s e = step_at slots at s e

next_at_kind : (slots : Slots) (at : ℕ) (s : ℕ × SlotKind) (kind : SlotKind) → slice_get slots at ≡ Some s → s.1 ≡ kind → at < length slots → at < 500000000 → IsNext slots at (next_by kind)
next_at_kind slots at s (Constant word) e f h k = (h, k, rw add-one (step_at slots at s e ∙ ap (λ z. cons_option (parent_of z) (parents_in (drop (suc at) slots))) f))
next_at_kind slots at s (Field word) e f h k = (h, k, rw add-one (step_at slots at s e ∙ ap (λ z. cons_option (parent_of z) (parents_in (drop (suc at) slots))) f))
next_at_kind slots at s (Assign word) e f h k = (h, k, rw add-one (step_at slots at s e ∙ ap (λ z. cons_option (parent_of z) (parents_in (drop (suc at) slots))) f))
next_at_kind slots at s (Parent word) e f h k =
    (h, k, rw add-one (step_at slots at s e ∙ ap (λ z. cons_option (parent_of z) (parents_in (drop (suc at) slots))) f), (s.0, e ∙ ap (λ z. Some (s.0, z)) f))
next_at_kind slots at s (Method body) e f h k = (h, k, rw add-one (step_at slots at s e ∙ ap (λ z. cons_option (parent_of z) (parents_in (drop (suc at) slots))) f))

pub next_there : (slots : Slots) (at : ℕ) (s : Name × SlotKind) → Some s ≡ option_map named (slice_get slots at) → length slots ≤ 500000000 → IsNext slots at (next_by s.1)
next_there slots at s e small =
    let t = there_in (slice_get slots at) s e in
    let within = slice_get_within slots at t.0 t.1 in
    next_at_kind slots at t.0 s.1 t.1 t.2 within (omega arith)
