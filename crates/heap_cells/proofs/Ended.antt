-- Activations end whose marks were cleared.
use Rattle.std.proofs.Common.{◌≡◌, refl, sym, subst, ℕ, ◌%◌, List, [], ◌∷◌, ◌++◌, arith}
use Rattle.std.specs.Prelude.{Option, Some, None, slice_get}
use Rattle.object_maps.specs.declared.layout.Heap.{Heap}
use Rattle.object_maps.specs.Slots.{Slots}
use Rattle.sparc_store.specs.Words.{Words}
use Rattle.heap_cells.specs.Ending.{IsCleared, AreCleared, CanEnd, AreEnding, ended_at, ended_all}
use Rattle.heap_cells.specs.Laying.{Cells}
use Rattle.heap_cells.specs.Source.{Thing, Made, Plain as without, Ended, Live}
use Rattle.heap_cells.specs.Standing.{Places, Grows}
use Rattle.heap_cells.specs.Heaps.{IsHeap, After}
use Rattle.heap_cells.proofs.Stepping.{after_mark_cleared}

stays : (h : Cells) (p : Places) → Grows h h p p
stays h p = record { blocks = λ a map body context receiver e. e; receivers = λ a word r. r; objects = λ n x e. e; contexts = λ y x e. e }

further : (h g i : Cells) (p : Places) → Grows h g p p → Grows g i p p → Grows h i p p
further h g i p a b = record {
  blocks = λ at map body context receiver e. b.blocks at map body context receiver (a.blocks at map body context receiver e);
  receivers = λ at word r. b.receivers at word (a.receivers at word r);
  objects = λ n x e. b.objects n x (a.objects n x e);
  contexts = λ y x e. b.contexts y x (a.contexts y x e);
}

unchanged : (maps : List Slots) (mem new : Words) (heap : Heap) (h : Cells) (p : Places) (objects : List Thing) (made : List Made) → IsHeap maps mem heap h p objects made → new ≡ mem
    → After maps new heap h p p objects made
unchanged maps mem new heap h p objects made is e = record { cells = h; is = subst (λ (z : Words). IsHeap maps z heap h p objects made) (sym e) is; grows = stays h p }

one_ended : (maps : List Slots) (mem new : Words) (heap : Heap) (h : Cells) (p : Places) (objects : List Thing) (made : List Made) → IsHeap maps mem heap h p objects made
    → (y w : ℕ) (k : Option Made) → slice_get made y ≡ k → CanEnd k → slice_get p.contexts y ≡ Some w → IsCleared mem w new → After maps new heap h p p objects (ended_at made y k)
one_ended maps mem new heap h p objects made is y w None was can at cleared = absurd can
one_ended maps mem new heap h p objects made is y w (Some without) was can at cleared = unchanged maps mem new heap h p objects made is (cleared.0 (is.means.context y w without at was))
one_ended maps mem new heap h p objects made is y w (Some Ended) was can at cleared = absurd can
one_ended maps mem new heap h p objects made is y w (Some (Live o)) was can at cleared =
    let c = is.means.context y w (Live o) at was in
    let tagged : w % 4 ≡ 1 = c.there.0 in
    after_mark_cleared maps mem new heap h p objects made is y w o at was (cleared.1 (λ e. omega arith))

pub all_ended : (maps : List Slots) (mem new : Words) (heap : Heap) (h : Cells) (p : Places) (objects : List Thing) (made : List Made) → IsHeap maps mem heap h p objects made
    → (ys ws : List ℕ) → AreEnding p made ys ws → AreCleared mem ws new → After maps new heap h p p objects (ended_all made ys)
all_ended maps mem new heap h p objects made is [] [] ending cleared = unchanged maps mem new heap h p objects made is cleared
all_ended maps mem new heap h p objects made is (y ∷ ys) (w ∷ ws) ending cleared =
    let one = one_ended maps mem cleared.0 heap h p objects made is y w (slice_get made y) refl ending.1 ending.0 cleared.1.0 in
    let more = all_ended maps cleared.0 new heap one.cells p objects (ended_at made y (slice_get made y)) one.is ys ws ending.2 cleared.1.1 in
    record { cells = more.cells; is = more.is; grows = further h one.cells more.cells p one.grows more.grows }
all_ended maps mem new heap h p objects made is [] (w ∷ ws) ending cleared = absurd ending
all_ended maps mem new heap h p objects made is (y ∷ ys) [] ending cleared = absurd ending

-- one more is cleared
pub cleared_more : (mem between new : Words) (ws : List ℕ) (w : ℕ) → AreCleared mem ws between → IsCleared between w new → AreCleared mem (ws ++ w ∷ []) new
cleared_more mem between new [] w are is = (new, (subst (λ (z : Words). IsCleared z w new) are is, refl))
cleared_more mem between new (x ∷ ws) w are is = (are.0, (are.1.0, cleared_more are.0 between new ws w are.1.1 is))
