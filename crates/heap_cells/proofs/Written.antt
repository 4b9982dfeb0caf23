-- The words of a new string are one more object.
use Rattle.std.proofs.Common.{◌≡◌, refl, sym, ap, subst, ◌∙◌, ℕ, zero, suc, ◌+◌, ◌*◌, ◌/◌, ◌<◌, ◌≤◌, List, [], ◌∷◌, ◌++◌, length, arith}
use Rattle.object_maps.specs.declared.layout.Heap.{Heap}
use Rattle.object_maps.specs.Slots.{Slots}
use Rattle.sparc_store.specs.Words.{Words, word_at}
use Rattle.heap_cells.specs.Shapes.{Cell, Text, size, words_of}
use Rattle.heap_cells.specs.Laying.{Cells, Holds}
use Rattle.heap_cells.specs.Source.{Thing, Bytes, Made}
use Rattle.heap_cells.specs.Standing.{Places}
use Rattle.heap_cells.specs.Heaps.{IsHeap, After}
use Rattle.heap_cells.specs.Cloning.{IsWritten}
use Rattle.heap_cells.proofs.Stepping.{after_new_thing}
use Rattle.heap_cells.proofs.Cloned.{heap_on}
use Rattle.heap_cells.proofs.Told.{packed_in_length, packed_word}

string_words : (mem new : Words) (top number : ℕ) (bytes : List ℕ) → IsWritten mem new top number bytes → Holds new top (words_of (Text number bytes))
string_words mem new top number bytes f zero lt = ap (word_at new) (let e : top + 4 * 0 ≡ top = omega arith in e) ∙ f.map
string_words mem new top number bytes f (suc zero) lt = f.numbered
string_words mem new top number bytes f (suc (suc zero)) lt = f.size
string_words mem new top number bytes f (suc (suc (suc k))) lt =
    let below : k < (length bytes + 3) / 4 = omega (arith, packed_in_length ((length bytes + 3) / 4) bytes) in
    ap (word_at new) (let e : top + 4 * suc (suc (suc k)) ≡ top + 12 + 4 * k = omega arith in e) ∙ f.put k below ∙ sym (packed_word ((length bytes + 3) / 4) bytes k below)

pub string_made : (maps : List Slots) (mem new : Words) (heap : Heap) (h : Cells) (p : Places) (objects : List Thing) (made : List Made) (bytes : List ℕ)
    → IsHeap maps mem heap h p objects made → IsWritten mem new heap.top heap.next bytes → heap.top + 4 * (3 + (length bytes + 3) / 4) ≤ 0x20000000 + 46137344
    → After maps new (record { top = heap.top + 12 + 4 * ((length bytes + 3) / 4); next = heap.next + 1 }) h p (record p { objects = p.objects ++ (heap.top + 1) ∷ [] }) (objects ++ Bytes bytes ∷ []) made
string_made maps mem new heap h p objects made bytes is f room =
    let c : Cell = Text heap.next bytes in
    let n = packed_in_length ((length bytes + 3) / 4) bytes in
    let e : heap.top + 4 * size c ≡ heap.top + 12 + 4 * ((length bytes + 3) / 4) = omega arith in
    subst (λ (z : ℕ). After maps new (record { top = z; next = heap.next + 1 }) h p (record p { objects = p.objects ++ (heap.top + 1) ∷ [] }) (objects ++ Bytes bytes ∷ []) made) e
    (after_new_thing maps new heap h p objects made (heap_on maps mem new heap h p objects made is (λ b above below. f.others b below)) (Bytes bytes) c
    (string_words mem new heap.top heap.next bytes f) (omega arith) (let three = is.kinds in omega arith) tt (is.numbered, refl, f.small))
