-- Steps of showing activations.
use Rattle.std.proofs.Common.{◌≡◌, ◌≢◌, ℕ, zero, suc, ◌+◌, ◌-◌, ◌*◌, ◌/◌, ◌%◌, ◌<◌, ◌≤◌, refl, ◌∙◌, ap, sym, Bool, true, false, cond, ◌&&◌, arith, append_assoc, length-append, inl, inr}
use Rattle.std.specs.Prelude.{List, [], ◌∷◌, ◌++◌, length, map, reverse, take, drop, get_or, Some, slice_get, nat_eq, nat_le, nat_lt}
use Rattle.std.proofs.lemmas.Bool.{eq-eqb, ne_eqb, eqb-true, ltb-true, leb-true, cond-true, cond-false}
use Rattle.std.proofs.lemmas.List.{map-append, reverse-append, length-reverse, get_or-reverse, take_more, length-drop}
use Rattle.std.proofs.lemmas.Option.{get_or_from_slice_get, slice_get-get_or, slice_get_within}
use Rattle.sparc_store.specs.Words.{Words, word_at, word_in, HasWord}
use Rattle.sparc_store.specs.Regions.{Place, Code, Heap, Control, Stacks, Nowhere, stack_place}
use Rattle.frame_walk.specs.Places.{Frame}
use Rattle.shown_frames.specs.Listed.{words_up}
use Rattle.shown_frames.specs.Showing.{position_of, position_at}

-- Words outside the regions.

none_of : (b0 b1 b2 b3 b4 : Bool) (c h k s : Place) → (b0 ≡ true → b1 ≡ true → ⊥) → (b0 ≡ true → b2 ≡ true → ⊥) → (b0 ≡ true → b3 ≡ true → ⊥) → (b0 ≡ true → b4 ≡ true → ⊥)
    → cond b0 (cond b1 c (cond b2 h (cond b3 k (cond b4 s Nowhere)))) Nowhere ≡ Nowhere
none_of false b1 b2 b3 b4 c h k s n1 n2 n3 n4 = refl
none_of true true b2 b3 b4 c h k s n1 n2 n3 n4 = absurd (n1 refl refl)
none_of true false true b3 b4 c h k s n1 n2 n3 n4 = absurd (n2 refl refl)
none_of true false false true b4 c h k s n1 n2 n3 n4 = absurd (n3 refl refl)
none_of true false false false true c h k s n1 n2 n3 n4 = absurd (n4 refl refl)
none_of true false false false false c h k s n1 n2 n3 n4 = refl

both : (a b : Bool) → (a && b) ≡ true → (a ≡ true) × (b ≡ true)
both true b e = (refl, e)
both false b e = absurd (cc)

inside : (from bytes at : ℕ) → (nat_le from at && nat_lt at (from + bytes)) ≡ true → (from ≤ at) × (at < from + bytes)
inside from bytes at e = let p = both (nat_le from at) (nat_lt at (from + bytes)) e in (leb-true from at p.0, ltb-true at (from + bytes) p.1)

pub nowhere : (m : Words) (at : ℕ) → (HasWord at → ⊥) → 0 ≡ word_at m at
unfolding word_at
nowhere m at none =
    let code : nat_eq (at % 4) 0 ≡ true → (nat_le 0x1000_0000 at && nat_lt at (0x1000_0000 + 33554432)) ≡ true → ⊥ =
    λ a b. none (eqb-true (at % 4) 0 a, inl (inside 0x1000_0000 33554432 at b)) in
    let heap : nat_eq (at % 4) 0 ≡ true → (nat_le 0x2000_0000 at && nat_lt at (0x2000_0000 + 46137344)) ≡ true → ⊥ =
    λ a b. none (eqb-true (at % 4) 0 a, inr (inl (inside 0x2000_0000 46137344 at b))) in
    let control : nat_eq (at % 4) 0 ≡ true → (nat_le 0x3000_0000 at && nat_lt at (0x3000_0000 + 4096)) ≡ true → ⊥ =
    λ a b. none (eqb-true (at % 4) 0 a, inr (inr (inl (inside 0x3000_0000 4096 at b)))) in
    let stacks : nat_eq (at % 4) 0 ≡ true → ((nat_le 0x4000_0000 at && nat_lt at (0x4000_0000 + 0x0800_0000)) && nat_lt (at % 0x0200_0000) 16781312) ≡ true → ⊥ =
    λ a b. (let p = both (nat_le 0x4000_0000 at && nat_lt at (0x4000_0000 + 0x0800_0000)) (nat_lt (at % 0x0200_0000) 16781312) b in
    let q = inside 0x4000_0000 0x0800_0000 at p.0 in
    none (eqb-true (at % 4) 0 a, inr (inr (inr (q.0, omega (arith, q.1), ltb-true (at % 0x0200_0000) 16781312 p.1))))) in
    sym (ap (word_in m) (none_of (nat_eq (at % 4) 0) (nat_le 0x1000_0000 at && nat_lt at (0x1000_0000 + 33554432)) (nat_le 0x2000_0000 at && nat_lt at (0x2000_0000 + 46137344)) (nat_le 0x3000_0000 at && nat_lt at (0x3000_0000 + 4096))
    ((nat_le 0x4000_0000 at && nat_lt at (0x4000_0000 + 0x0800_0000)) && nat_lt (at % 0x0200_0000) 16781312) (Code ((at - 0x1000_0000) / 4)) (Heap ((at - 0x2000_0000) / 4)) (Control ((at - 0x3000_0000) / 4)) (Stacks (stack_place at)) code heap control stacks))

-- Positions.

dropped : {A : Type 0} (xs : List A) (k : ℕ) (x : A) → slice_get xs k ≡ Some x → drop k xs ≡ x ∷ drop (k + 1) xs
dropped [] k x e = absurd (cc)
dropped (y ∷ xs) zero x e = let same : y ≡ x = cc in ap (λ z. z ∷ xs) same
dropped (y ∷ xs) (suc k) x e = let one : suc k + 1 ≡ suc (k + 1) = omega arith in dropped xs k x e ∙ ap (λ n. x ∷ drop n (y ∷ xs)) (sym one)

drop_long : {A : Type 0} (xs : List A) (k : ℕ) → length (drop k xs) ≡ length xs - k
drop_long xs k = length-drop k xs

pub position_found : (frames : List Frame) (mark k n m : ℕ) (f : Frame) → n ≡ length frames → mark ≢ 0 → slice_get frames k ≡ Some f → m ≡ f.mark → m ≡ mark → position_of frames mark ≡ position_of (drop k frames) mark → n - k ≡ position_at frames mark
position_found frames mark k n m f long some at is same so =
    let d = dropped frames k f at in
    let here : f.mark ≡ mark = sym is ∙ same in
    let l = drop_long frames (k + 1) in
    let within = slice_get_within frames k f at in
    let first : n - k ≡ length (drop (k + 1) frames) + 1 = omega (arith, l, within, long) in
    first
    ∙ sym (cond-true (nat_eq f.mark mark) (length (drop (k + 1) frames) + 1) (position_of (drop (k + 1) frames) mark) (eq-eqb f.mark mark here))
    ∙ sym (ap (λ fs. position_of fs mark) d) ∙ sym so
    ∙ sym (cond-false (nat_eq mark 0) 0 (position_of frames mark) (ne_eqb mark 0 some))

pub position_next : (frames : List Frame) (mark k m : ℕ) (f : Frame) → slice_get frames k ≡ Some f → m ≡ f.mark → (m ≡ mark → ⊥) → position_of frames mark ≡ position_of (drop k frames) mark → position_of frames mark ≡ position_of (drop (k + 1) frames) mark
position_next frames mark k m f at is other so =
    so ∙ ap (λ fs. position_of fs mark) (dropped frames k f at)
    ∙ cond-false (nat_eq f.mark mark) (length (drop (k + 1) frames) + 1) (position_of (drop (k + 1) frames) mark) (ne_eqb f.mark mark (λ e. other (is ∙ e)))

-- Lists.

pub from_next : {B : Type 0} (f : ℕ → B) (memory : Words) (at j n word : ℕ) (v : B) (into new all : List B) → j < n → new ≡ into ++ v ∷ [] → v ≡ f word → word ≡ word_at memory (at + 4 * j)
    → into ++ map f (words_up memory (at + 4 * j) (n - j)) ≡ all → new ++ map f (words_up memory (at + 4 * (j + 1)) (n - (j + 1))) ≡ all
from_next f memory at j n word v into new all lt e ev ew so =
    let k : n - j ≡ suc (n - (j + 1)) = omega arith in
    let a : at + 4 * (j + 1) ≡ at + 4 * j + 4 = omega arith in
    ap (λ xs. xs ++ map f (words_up memory (at + 4 * (j + 1)) (n - (j + 1)))) e
    ∙ append_assoc into (v ∷ []) (map f (words_up memory (at + 4 * (j + 1)) (n - (j + 1))))
    ∙ ap (λ x. into ++ x ∷ map f (words_up memory (at + 4 * (j + 1)) (n - (j + 1)))) (ev ∙ ap f ew)
    ∙ ap (λ b. into ++ f (word_at memory (at + 4 * j)) ∷ map f (words_up memory b (n - (j + 1)))) a
    ∙ ap (λ q. into ++ map f (words_up memory (at + 4 * j) q)) (sym k) ∙ so

pub one_longer : {B : Type 0} (into new : List B) (v : B) (j : ℕ) → new ≡ into ++ v ∷ [] → length into ≡ j → length new ≡ j + 1
one_longer into new v j e l = ap length e ∙ length-append into (v ∷ []) ∙ ap (λ n. n + 1) l

pub reversed_next : {A B : Type 0} (f : A → B) (xs : List A) (j n : ℕ) (x : A) (into new : List B) (v : B) → n ≡ length xs → j < n → slice_get xs (n - 1 - j) ≡ Some x → new ≡ into ++ v ∷ [] → v ≡ f x → into ≡ map f (take j (reverse xs))
    → new ≡ map f (take (j + 1) (reverse xs))
reversed_next f xs j n x into new v long lt at e ev so =
    let within : j < length xs = omega (arith, long) in
    let there : get_or (reverse xs) j x ≡ x = get_or-reverse xs j x within ∙ ap (λ k. get_or xs (k - 1 - j) x) (sym long) ∙ get_or_from_slice_get xs (n - 1 - j) x x at in
    e ∙ ap (λ ys. ys ++ v ∷ []) so ∙ ap (λ y. map f (take j (reverse xs)) ++ y ∷ []) (ev ∙ ap f (sym there))
    ∙ sym (map-append f (take j (reverse xs)) (get_or (reverse xs) j x ∷ []))
    ∙ ap (map f) (sym (take_more (reverse xs) j x (omega (arith, length-reverse xs))))

map-reversed : {A B : Type 0} (f : A → B) (xs : List A) → map f (reverse xs) ≡ reverse (map f xs)
map-reversed f [] = refl
map-reversed f (x ∷ xs) =
    ap (map f) (reverse-append (x ∷ []) xs) ∙ map-append f (reverse xs) (x ∷ []) ∙ ap (λ ys. ys ++ f x ∷ []) (map-reversed f xs) ∙ sym (reverse-append (f x ∷ []) (map f xs))

take_whole : {A : Type 0} (xs : List A) (k : ℕ) → length xs ≤ k → take k xs ≡ xs
take_whole [] zero le = refl
take_whole [] (suc k) le = refl
take_whole (x ∷ xs) zero le = absurd (omega arith)
take_whole (x ∷ xs) (suc k) le = ap (λ ys. x ∷ ys) (take_whole xs k (omega arith))

pub reversed_done : {A B : Type 0} (f : A → B) (xs : List A) (k n : ℕ) (into : List B) → n ≡ length xs → n ≤ k → into ≡ map f (take k (reverse xs)) → into ≡ reverse (map f xs)
reversed_done f xs k n into long le so = so ∙ ap (map f) (take_whole (reverse xs) k (omega (arith, length-reverse xs, long))) ∙ map-reversed f xs

pub got_number : (ws : List ℕ) (i w : ℕ) → i < length ws → w ≡ get_or ws i 0 → slice_get ws i ≡ Some w
got_number ws i w lt e = slice_get-get_or ws i 0 lt ∙ ap Some (sym e)
