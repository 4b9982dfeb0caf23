-- What paths over words lead to.
use Rattle.std.proofs.Common.{◌≡◌, refl, sym, subst, ◌∙◌, ℕ, Bool, true, false, List, [], ◌∷◌}
use Rattle.std.specs.Prelude.{ℤ, Option, Some, None, slice_get, ◌==◌, cond, fold, option_and_then, codes}
use Rattle.std.proofs.lemmas.Option.{same_Some, none-some}
use Rattle.self_terms.specs.declared.values.Value.{Value}
use Rattle.self_terms.specs.declared.values.Value.TheVariants as values
use Rattle.self_terms.specs.Words.{IsSmall, word_of, int_of}
use Rattle.source_model.specs.declared.objects.Content.{Content}
use Rattle.source_model.specs.declared.objects.Content.TheVariants.{Constant, Assignable, Assignment, Parent, Method}
use Rattle.source_model.specs.Edits.{own_content, data_in, further as further_in, root as root_in, follow, datum_at, thing_at, initial_in, Path}
use Rattle.source_model.specs.Names.{number_of}
use Rattle.source_model.specs.State.{State}
use Rattle.object_maps.specs.declared.layout.Heap.{Heap}
use Rattle.object_maps.specs.Slots.{Slots}
use Rattle.sparc_store.specs.Words.{Words}
use Rattle.heap_cells.specs.Laying.{Cells}
use Rattle.heap_cells.specs.Source.{Made}
use Rattle.heap_cells.specs.Standing.{Places, IsValue}
use Rattle.heap_cells.specs.Heaps.{IsHeap}
use Rattle.plain_paths.specs.declared.slots.OwnSlot.{OwnSlot}
use Rattle.plain_paths.specs.declared.slots.OwnSlot.TheVariants as own
use Rattle.plain_paths.specs.Paths.{IsOfHeap, own_at, data_of, further, root, word_at_path, datum_of}
use Rattle.plain_paths.specs.Laws.{IsHeld, IsReached}
use Rattle.plain_paths.proofs.Held.{content_of, same_content, same_datum, value_held, value_datum}

-- the data of what is held
data_reached : (h : Cells) (p : Places) (c : Option Content) (slot : OwnSlot) → IsHeld h p c slot → IsReached h p (option_and_then data_in c) (data_of slot)
data_reached h p None own.Missing is = tt
data_reached h p (Some (Constant v)) (own.Data w) is = is
data_reached h p (Some (Assignable v)) (own.Data w) is = is
data_reached h p (Some Assignment) own.Assignment is = tt
data_reached h p (Some (Parent o)) (own.Data w) is = is
data_reached h p (Some (Method b)) (own.Method body) is = tt
data_reached h p _ _ is = absurd is

-- a word that is reached stands for a value
reached_value : (h : Cells) (p : Places) (v : Option Value) (w : Option ℕ) (word : ℕ) → IsReached h p v w → w ≡ Some word → (u : Value) × IsValue h p u word
reached_value h p (Some v) (Some w) word is e = (v, subst (λ (z : ℕ). IsValue h p v z) (same_Some w word e) is)
reached_value h p None None word is e = absurd (none-some word e)
reached_value h p None (Some w) word is e = absurd is
reached_value h p (Some v) None word is e = absurd is

-- the word of data is one of the heap
pub next_stands : (maps : List Slots) (mem : Words) (from name word : ℕ) → IsOfHeap maps mem from → data_of (own_at maps mem from name) ≡ Some word → IsOfHeap maps mem word
next_stands maps mem from name word o e =
    let held = value_held maps mem o.heap o.cells o.places o.things o.made o.is o.value from name o.stands in
    let content = content_of o.things o.value name in
    let u = reached_value o.cells o.places (option_and_then data_in content) (data_of (own_at maps mem from name)) word
    (data_reached o.cells o.places content (own_at maps mem from name) held) e in
    record { heap = o.heap; cells = o.cells; places = o.places; things = o.things; made = o.made; is = o.is; value = u.0; stands = u.1 }

-- from nothing nothing is reached
pub nothing_further : (maps : List Slots) (mem : Words) (path : List ℕ) → fold (further maps mem) None path ≡ None
nothing_further maps mem [] = refl
nothing_further maps mem (name ∷ path) = nothing_further maps mem path

module _ (maps : List Slots) (mem : Words) (heap : Heap) (h : Cells) (p : Places) (s : State) (made : List Made) (is : IsHeap maps mem heap h p s.things made) where
  pub slots_held : (v : Value) (w name : ℕ) → IsValue h p v w → IsHeld h p (own_content s v name) (own_at maps mem w name)
  slots_held v w name value = subst (λ (z : Option Content). IsHeld h p z (own_at maps mem w name)) (sym (same_content s v name)) (value_held maps mem heap h p s.things made is v w name value)

  one_further : (v : Option Value) (w : Option ℕ) (name : ℕ) → IsReached h p v w → IsReached h p (further_in s v name) (further maps mem w name)
  one_further None None name is = tt
  one_further (Some v) (Some w) name is = data_reached h p (own_content s v name) (own_at maps mem w name) (slots_held v w name is)
  one_further None (Some w) name is = absurd is
  one_further (Some v) None name is = absurd is

  all_further : (v : Option Value) (w : Option ℕ) (path : List ℕ) → IsReached h p v w → IsReached h p (fold (further_in s) v path) (fold (further maps mem) w path)
  all_further v w [] is = is
  all_further v w (name ∷ path) is = all_further (further_in s v name) (further maps mem w name) path (one_further v w name is)

  root_reached : (lobby name : ℕ) → slice_get p.objects 0 ≡ Some lobby → IsReached h p (root_in s name) (root maps mem lobby (number_of s.names (codes "lobby")) name)
  root_reached lobby name at = by_test (name == number_of s.names (codes "lobby"))
    where
      by_test : (t : Bool) → IsReached h p (cond t (Some (values.Object 0)) (further_in s (Some (values.Object 0)) name)) (cond t (Some lobby) (further maps mem (Some lobby) name))
      by_test true = at
      by_test false = one_further (Some (values.Object 0)) (Some lobby) name at

  pub path_reached : (lobby : ℕ) (path : List ℕ) → slice_get p.objects 0 ≡ Some lobby → IsReached h p (follow s path) (word_at_path maps mem lobby (number_of s.names (codes "lobby")) path)
  path_reached lobby [] at = tt
  path_reached lobby (name ∷ path) at = all_further (root_in s name) (root maps mem lobby (number_of s.names (codes "lobby")) name) path (root_reached lobby name at)

  module _ (back : (i : ℤ) → IsSmall i → int_of (word_of i) ≡ i) where
    pub data_stand : (v : Value) (w : ℕ) → IsValue h p v w → datum_at s v (thing_at s v) ≡ datum_of maps mem w
    data_stand v w value = same_datum s v ∙ value_datum maps mem heap h p s.things made is back v w value

    reached_datum : (v : Option Value) (w : Option ℕ) → IsReached h p v w → option_and_then (λ (u : Value). datum_at s u (thing_at s u)) v ≡ option_and_then (datum_of maps mem) w
    reached_datum None None is = refl
    reached_datum (Some v) (Some w) is = data_stand v w is
    reached_datum None (Some w) is = absurd is
    reached_datum (Some v) None is = absurd is

    pub initial_stands : (lobby : ℕ) (path : List ℕ) → slice_get p.objects 0 ≡ Some lobby
        → initial_in s (Path path) ≡ option_and_then (datum_of maps mem) (word_at_path maps mem lobby (number_of s.names (codes "lobby")) path)
    initial_stands lobby path at = reached_datum (follow s path) (word_at_path maps mem lobby (number_of s.names (codes "lobby")) path) (path_reached lobby path at)
