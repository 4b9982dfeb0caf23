-- Cells whose numbers are in order are those of the objects.
use Rattle.std.proofs.Common.{◌≡◌, inl, inr, refl, sym, ap, subst, ◌∙◌, ℕ, suc, ◌+◌, ◌-◌, ◌*◌, ◌≤◌, List, [], ◌∷◌, ◌++◌, length, arith}
use Rattle.std.specs.Prelude.{Option, Some, None, slice_get}
use Rattle.std.proofs.lemmas.Bool.{cases_eq}
use Rattle.std.proofs.lemmas.Grind.{same_number_lists}
use Rattle.std.proofs.lemmas.Option.{same_Some, none-some, get_or_from_slice_get}
use Rattle.object_maps.specs.Slots.{Slots}
use Rattle.heap_cells.specs.Shapes.{Cell, Plain, Vector, Text, size}
use Rattle.heap_cells.specs.Laying.{Cells, cell_at}
use Rattle.heap_cells.specs.Source.{Thing, Slotted, Elements, Bytes}
use Rattle.heap_cells.specs.Standing.{Places, IsThing}
use Rattle.heap_cells.proofs.Numbered.{got_if}
use Rattle.heap_cells.proofs.Rows.{head_at, tail_at}
use Rattle.plain_edits.specs.Order.{number_in, own, numbers_in, own_reference, references_in, AreInOrder, ObjectsInOrder}

numbered : (maps : List Slots) (h : Cells) (p : Places) (n : ℕ) (t : Thing) (c : Cell) → IsThing maps h p n t c → number_in c ≡ Some n
numbered maps h p n (Slotted slots) (Plain number map words) is = ap Some is.0
numbered maps h p n (Elements elements) (Vector number words) is = ap Some is.0
numbered maps h p n (Bytes bytes) (Text number text) is = ap Some is.0
numbered maps h p n _ _ is = absurd is

-- where the reference to a cell of a number stands among the references, where the first number is this
record IsPlaced (references : List ℕ) (first n a : ℕ) : Type 0 where
  high : first ≤ n
  there : slice_get references (n - first) ≡ Some (a + 1)

-- to the first cell
placed_here : (at first n : ℕ) (o : Option ℕ) (numbers references : List ℕ) → o ≡ Some n → AreInOrder first (own o ++ numbers) → IsPlaced (own_reference at o ++ references) first n at
placed_here at first n None numbers references is order = absurd (none-some n is)
placed_here at first n (Some k) numbers references is order =
    let same : k ≡ n = same_Some k n is in
    record { high = omega (arith, same, order.0); there = ap (slice_get ((at + 1) ∷ references)) (let none : n - first ≡ 0 = omega (arith, same, order.0) in none) }

-- to one behind it
placed_later : (at first n a : ℕ) (o : Option ℕ) (numbers references : List ℕ) → AreInOrder first (own o ++ numbers) → ((m : ℕ) → AreInOrder m numbers → IsPlaced references m n a) → IsPlaced (own_reference at o ++ references) first n a
placed_later at first n a None numbers references order later = later first order
placed_later at first n a (Some k) numbers references order later =
    let r = later (first + 1) order.1 in
    record { high = omega (arith, r.high); there = ap (slice_get ((at + 1) ∷ references)) (let step : n - first ≡ suc (n - (first + 1)) = omega (arith, r.high) in step) ∙ r.there }

placed : (cells : List Cell) (at first n a : ℕ) (c : Cell) → AreInOrder first (numbers_in cells) → cell_at at cells a ≡ Some c → number_in c ≡ Some n → IsPlaced (references_in at cells) first n a
placed [] at first n a c order there is = absurd (none-some c there)
placed (d ∷ ds) at first n a c order there is =
    let rest = references_in (at + 4 * size d) ds in
    elim (cases_eq a at) [
      | inl e ↦
          let same : d ≡ c = same_Some d c (sym (head_at at d ds a e) ∙ there) in
          subst (λ (b : ℕ). IsPlaced (references_in at (d ∷ ds)) first n b) (sym e) (placed_here at first n (number_in d) (numbers_in ds) rest (ap number_in same ∙ is) order)
      | inr ne ↦ placed_later at first n a (number_in d) (numbers_in ds) rest order (λ m o. placed ds (at + 4 * size d) m n a c o (sym (tail_at at d ds a ne) ∙ there) is)
    ]

as_many : (cells : List Cell) (at : ℕ) → length (references_in at cells) ≡ length (numbers_in cells)
as_many [] at = refl
as_many (c ∷ cs) at = one (number_in c) (references_in (at + 4 * size c) cs) (numbers_in cs) (as_many cs (at + 4 * size c))
  where
    one : (o : Option ℕ) (rs ns : List ℕ) → length rs ≡ length ns → length (own_reference at o ++ rs) ≡ length (own o ++ ns)
    one None rs ns e = e
    one (Some k) rs ns e = ap suc e

pub objects_in_order : ObjectsInOrder
objects_in_order maps mem heap h p things made is cells row order many =
    let all : length p.objects ≡ length (references_in 0x20000000 cells) = is.means.objects_all ∙ sym is.numbered ∙ sym many ∙ sym (as_many cells 0x20000000) in
    same_number_lists p.objects (references_in 0x20000000 cells) all (λ k lt. (
    let w = got_if p.objects k lt in
    let t = got_if things k (omega (arith, lt, is.means.objects_all)) in
    let o = is.means.object k w.0 t.0 w.1 t.1 in
    let r = placed cells 0x20000000 0 k (w.0 - 1) o.cell order (ap (λ (f : Cells). f (w.0 - 1)) (sym row) ∙ o.there.1) (numbered maps h p k t.0 o.cell o.is) in
    let back : w.0 - 1 + 1 ≡ w.0 = omega (arith, o.there.0) in
    let there : slice_get (references_in 0x20000000 cells) k ≡ Some w.0 = ap (slice_get (references_in 0x20000000 cells)) (let same : k ≡ k - 0 = omega arith in same) ∙ r.there ∙ ap Some back in
    get_or_from_slice_get p.objects k w.0 0 w.1 ∙ sym (get_or_from_slice_get (references_in 0x20000000 cells) k w.0 0 there)
    ))
