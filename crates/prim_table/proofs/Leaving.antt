-- What an answer leaves.
use Rattle.std.proofs.Common.{◌≡◌, sym, ap, subst, ℕ, ◌+◌, ◌*◌, List, [], ◌∷◌, ◌++◌, arith}
use Rattle.std.specs.Prelude.{Some, slice_get}
use Rattle.self_terms.specs.declared.values.Value.{Value}
use Rattle.source_model.specs.declared.objects.Thing.{Thing}
use Rattle.source_model.specs.Primitives.{Effect, Gives, Makes, Puts, Prints, Fails}
use Rattle.object_maps.specs.declared.layout.Heap.{Heap}
use Rattle.object_maps.specs.Slots.{Slots}
use Rattle.sparc_store.specs.Words.{Words}
use Rattle.heap_cells.specs.Laying.{Cells}
use Rattle.heap_cells.specs.Source.{Made}
use Rattle.heap_cells.specs.Standing.{Places, IsValue, Grows}
use Rattle.heap_cells.specs.Heaps.{IsHeap}
use Rattle.heap_cells.proofs.Growing.{value_grows}
use Rattle.heap_cells.proofs.Numbered.{got_last}
use Rattle.prim_table.specs.declared.answers.PrimAnswer.TheVariants as answers
use Rattle.prim_table.specs.Answers.{IsAnswer, GoesOn}

same_top : (heap heap_new : Heap) → heap_new ≡ heap → heap_new.top ≡ heap.top + 4 * 0
same_top heap heap_new e = let top : heap_new.top ≡ heap.top = ap (λ z. z.top) e in omega arith

stays : (h : Cells) (p : Places) → Grows h h p p
stays h p = record { blocks = λ a map body context receiver e. e; receivers = λ a word r. r; objects = λ n x e. e; contexts = λ y x e. e }

unchanged : (maps : List Slots) (mem new : Words) (heap heap_new : Heap) (h : Cells) (p : Places) (things : List Thing) (made : List Made) → IsHeap maps mem heap h p things made → new ≡ mem → heap_new ≡ heap
    → IsHeap maps new heap_new h p things made
unchanged maps mem new heap heap_new h p things made is e f = subst (λ (z : Heap). IsHeap maps new z h p things made) (sym f) (subst (λ (z : Words). IsHeap maps z heap h p things made) (sym e) is)

pub go_on : (maps : List Slots) (mem new : Words) (heap heap_new : Heap) (h : Cells) (p : Places) (things : List Thing) (made : List Made) (v : Value) (receiver w : ℕ) (e : Effect)
    → IsHeap maps mem heap h p things made → IsValue h p v receiver → IsAnswer maps mem new heap heap_new h p things made receiver (answers.Done w) e
    → GoesOn maps new heap heap_new h p things made v w e
go_on maps mem new heap heap_new h p things made v receiver w (Gives x) is value a =
    record { places = p; after = record { cells = h; is = unchanged maps mem new heap heap_new h p things made is a.1 a.2; grows = stays h p }; stands = a.0; top = same_top heap heap_new a.2 }
go_on maps mem new heap heap_new h p things made v receiver w (Makes words t) is value a =
    record {
      places = record p { objects = p.objects ++ w ∷ [] };
      after = a.0;
      stands = subst (λ (z : ℕ). slice_get (p.objects ++ w ∷ []) z ≡ Some w) is.means.objects_all (got_last p.objects w);
      top = a.1;
    }
go_on maps mem new heap heap_new h p things made v receiver w (Puts o t) is value a =
    record {
      places = p;
      after = a.0;
      stands = subst (λ (z : ℕ). IsValue a.0.cells p v z) (sym a.2) (value_grows h a.0.cells p p a.0.grows v receiver value);
      top = same_top heap heap_new a.1;
    }
go_on maps mem new heap heap_new h p things made v receiver w (Prints line) is value a =
    record {
      places = p;
      after = record { cells = h; is = unchanged maps mem new heap heap_new h p things made is a.1 a.2; grows = stays h p };
      stands = subst (λ (z : ℕ). IsValue h p v z) (sym a.0) value;
      top = same_top heap heap_new a.2;
    }
go_on maps mem new heap heap_new h p things made v receiver w (Fails x) is value a = absurd a
