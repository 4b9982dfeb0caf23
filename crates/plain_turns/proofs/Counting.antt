-- A heap has no more objects than words.
use Rattle.std.proofs.Common.{◌≡◌, ◌≢◌, ◌⊎◌, ℕ, zero, suc, ◌+◌, ◌-◌, ◌*◌, ◌<◌, ◌≤◌, refl, ◌∙◌, ap, sym, subst, arith, inl, inr, eq-eqb}
use Rattle.std.specs.Prelude.{Bool, true, false, nat_eq, if◌then◌else◌, List, [], ◌∷◌, length, get_or, Some}
use Rattle.std.proofs.lemmas.Bool.{eqb-true}
use Rattle.std.proofs.lemmas.Option.{same_Some, none-some, slice_get-get_or}
use Rattle.object_maps.specs.declared.layout.Heap.{Heap}
use Rattle.object_maps.specs.Slots.{Slots}
use Rattle.sparc_store.specs.Words.{Words}
use Rattle.heap_cells.specs.Heaps.{IsHeap}
use Rattle.heap_cells.specs.Laying.{Cells, cell_at, span}
use Rattle.heap_cells.specs.Shapes.{Cell, Plain, Vector, Text, Block, Context, size}
use Rattle.heap_cells.specs.Source.{Thing, Made, Slotted, Elements, Bytes}
use Rattle.heap_cells.specs.Standing.{Places, IsThing}

-- The numbers up to the length of a list that has them all.

abbrev IsIn : ℕ → List ℕ → Type 0
IsIn n [] = ⊥
IsIn n (x ∷ xs) = (x ≡ n) ⊎ IsIn n xs

abbrev without : ℕ → List ℕ → List ℕ
without n [] = []
without n (x ∷ xs) = if nat_eq x n then without n xs else x ∷ without n xs

most_head : (b : Bool) (x : ℕ) (xs ys : List ℕ) → length ys ≤ length xs → length (if b then ys else x ∷ ys) ≤ suc (length xs)
most_head true x xs ys le = omega (arith, le)
most_head false x xs ys le = omega (arith, le)

without_most : (n : ℕ) (xs : List ℕ) → length (without n xs) ≤ length xs
without_most n [] = omega arith
without_most n (x ∷ xs) = most_head (nat_eq x n) x xs (without n xs) (without_most n xs)

less_here : (b : Bool) (x : ℕ) (xs ys : List ℕ) → b ≡ true → length ys ≤ length xs → length (if b then ys else x ∷ ys) < suc (length xs)
less_here true x xs ys is le = omega (arith, le)
less_here false x xs ys is le = absurd (cc)

less_later : (b : Bool) (x : ℕ) (xs ys : List ℕ) → length ys < length xs → length (if b then ys else x ∷ ys) < suc (length xs)
less_later true x xs ys lt = omega (arith, lt)
less_later false x xs ys lt = omega (arith, lt)

without_less : (n : ℕ) (xs : List ℕ) → IsIn n xs → length (without n xs) < length xs
without_less n [] is = absurd is
without_less n (x ∷ xs) (inl e) = less_here (nat_eq x n) x xs (without n xs) (eq-eqb x n e) (without_most n xs)
without_less n (x ∷ xs) (inr is) = less_later (nat_eq x n) x xs (without n xs) (without_less n xs is)

stays_here : (b : Bool) (n k x : ℕ) (ys : List ℕ) → nat_eq x k ≡ b → n ≢ k → x ≡ n → IsIn n (if b then ys else x ∷ ys)
stays_here true n k x ys is ne e = absurd (ne (sym e ∙ eqb-true x k is))
stays_here false n k x ys is ne e = inl e

stays_later : (b : Bool) (n x : ℕ) (ys : List ℕ) → IsIn n ys → IsIn n (if b then ys else x ∷ ys)
stays_later true n x ys is = is
stays_later false n x ys is = inr is

stays_in : (n k : ℕ) (xs : List ℕ) → n ≢ k → IsIn n xs → IsIn n (without k xs)
stays_in n k [] ne is = absurd is
stays_in n k (x ∷ xs) ne (inl e) = stays_here (nat_eq x k) n k x (without k xs) refl ne e
stays_in n k (x ∷ xs) ne (inr is) = stays_later (nat_eq x k) n x (without k xs) (stays_in n k xs ne is)

all_in : (k : ℕ) (xs : List ℕ) → ((n : ℕ) → n < k → IsIn n xs) → k ≤ length xs
all_in zero xs all = omega arith
all_in (suc k) xs all =
    let less = without_less k xs (all k (omega arith)) in
    let rest = all_in k (without k xs) (λ n lt. stays_in n k xs (λ e. absurd (omega (arith, e, lt))) (all n (omega (arith, lt)))) in
    omega (arith, less, rest)

-- Each object's cell has its number.

abbrev number_in : Cell → ℕ
number_in (Plain number map fields) = number
number_in (Vector number elements) = number
number_in (Text number bytes) = number
number_in (Block map body context receiver) = 0
number_in (Context map outer mark receiver values) = 0

abbrev numbers : List Cell → List ℕ
numbers [] = []
numbers (c ∷ cs) = number_in c ∷ numbers cs

some_words : (c : Cell) → 0 < size c
some_words (Plain number map fields) = omega arith
some_words (Vector number elements) = omega arith
some_words (Text number bytes) = omega arith
some_words (Block map body context receiver) = omega arith
some_words (Context map outer mark receiver values) = omega arith

numbers_fit : (cs : List Cell) → length (numbers cs) ≤ span cs
numbers_fit [] = omega arith
numbers_fit (c ∷ cs) = omega (arith, some_words c, numbers_fit cs)

number_here : (b : Bool) (cs : List Cell) (at a : ℕ) (x c : Cell) → (if b then Some x else cell_at at cs a) ≡ Some c → (cell_at at cs a ≡ Some c → IsIn (number_in c) (numbers cs)) → IsIn (number_in c) (numbers (x ∷ cs))
number_here true cs at a x c e more = inl (ap number_in (same_Some x c e))
number_here false cs at a x c e more = inr (more e)

number_at : (cs : List Cell) (at a : ℕ) (c : Cell) → cell_at at cs a ≡ Some c → IsIn (number_in c) (numbers cs)
number_at [] at a c e = absurd (none-some c e)
number_at (x ∷ cs) at a c e = number_here (nat_eq a at) cs (at + 4 * size x) a x c e (number_at cs (at + 4 * size x) a c)

thing_number : (maps : List Slots) (h : Cells) (p : Places) (n : ℕ) (t : Thing) (c : Cell) → IsThing maps h p n t c → number_in c ≡ n
thing_number maps h p n (Slotted slots) (Plain number map fields) is = is.0
thing_number maps h p n (Elements elements) (Vector number words) is = is.0
thing_number maps h p n (Bytes bytes) (Text number text) is = is.0
thing_number maps h p n _ _ is = absurd is

pub objects_fit : (maps : List Slots) (mem : Words) (heap : Heap) (h : Cells) (p : Places) (things : List Thing) (made : List Made) → IsHeap maps mem heap h p things made → heap.next ≤ 11534336
objects_fit maps mem heap h p things made is =
    let row = is.laid.row in
    let numbered : (n : ℕ) → n < length things → IsIn n (numbers row.cells) = λ n lt. (
    let w = get_or p.objects n 0 in
    let t = get_or things n (Bytes []) in
    let o = is.means.object n w t (slice_get-get_or p.objects n 0 (omega (arith, is.means.objects_all, lt))) (slice_get-get_or things n (Bytes []) lt) in
    let there : cell_at 0x20000000 row.cells (w - 1) ≡ Some o.cell = ap (λ (f : Cells). f (w - 1)) (sym row.are) ∙ o.there.1 in
    let P : ℕ → Type 0 = λ k. IsIn k (numbers row.cells) in
    subst P (thing_number maps h p n t o.cell o.is) (number_at row.cells 0x20000000 (w - 1) o.cell there)) in
    omega (arith, all_in (length things) (numbers row.cells) numbered, numbers_fit row.cells, is.numbered, row.ends, is.laid.end.within)
