-- A body that grows by nodes which balanced items admit is sound when it ends.
use Rattle.std.specs.Prelude.{◌≡◌, ℕ, zero, suc, ◌+◌, ◌-◌, ◌<◌, ◌≤◌, nat_le, ℤ, Bool, true, false, not, ◌&&◌, Some, List, [], ◌∷◌, ◌++◌, length, slice_get, refl}
use Rattle.std.proofs.Common.{ap, sym, subst, ◌∙◌, arith}
use Rattle.std.proofs.lemmas.Grind.{common_steps}
use Rattle.self_terms.specs.declared.nodes.Node.{Node}
use Rattle.self_terms.specs.declared.nodes.Node.TheVariants as nodes
use Rattle.self_terms.specs.declared.nodes.Place.{Place}
use Rattle.self_terms.specs.Words.{IsSmall}
use Rattle.self_terms.specs.Depths.{taken, left_by, grown, depth_from, depth, is_inner}
use Rattle.self_grammar.specs.declared.pieces.TextNode.{TextNode}
use Rattle.self_grammar.specs.Counts.{Limits, takes, gives}
use Rattle.self_grammar.specs.Balance.{Entry, fresh, ends, admits, behind}
use Rattle.world_build.specs.Soundness.{IsSound}

-- Lists of nodes.

-- Over d pending values each node finds those that it takes, and there are never more than 64.
abbrev pub Fine : ℕ → List Node → Type 0
Fine d [] = d ≤ 64
Fine d (n ∷ ns) = (d ≤ 64) × (taken n ≤ d) × Fine (grown n d) ns

-- the pending values behind all nodes
abbrev pub total : ℕ → List Node → ℕ
total d [] = d
total d (n ∷ ns) = total (grown n d) ns

pub total_append : (d : ℕ) (ns : List Node) (n : Node) → total d (ns ++ n ∷ []) ≡ grown n (total d ns)
total_append d [] n = refl
total_append d (m ∷ ns) n = total_append (grown m d) ns n

pub fine_append : (d : ℕ) (ns : List Node) (n : Node) → Fine d ns → taken n ≤ total d ns → grown n (total d ns) ≤ 64 → Fine d (ns ++ n ∷ [])
fine_append d [] n h a b = (h, a, b)
fine_append d (m ∷ ns) n h a b = (h.0, h.1, fine_append (grown m d) ns n h.2 a b)

pub fine_total : (d : ℕ) (ns : List Node) → Fine d ns → total d ns ≤ 64
fine_total d [] h = h
fine_total d (n ∷ ns) h = fine_total (grown n d) ns h.2

pub fine_room : (d : ℕ) (ns : List Node) (k : ℕ) → Fine d ns → depth_from d ns k ≤ 64
fine_room d [] k h = h
fine_room d (n ∷ ns) zero h = h.0
fine_room d (n ∷ ns) (suc k) h = fine_room (grown n d) ns k h.2

pub fine_there : (d : ℕ) (ns : List Node) (k : ℕ) (node : Node) → Fine d ns → slice_get ns k ≡ Some node → taken node ≤ depth_from d ns k
fine_there d [] k node h e = cc
fine_there d (n ∷ ns) zero node h e = let same : n ≡ node = cc in subst (λ m. taken m ≤ d) same h.1
fine_there d (n ∷ ns) (suc k) node h e = fine_there (grown n d) ns k node h.2 e

-- integer literals within 30 bits
abbrev pub SmallNode : Node → Type 0
SmallNode (nodes.Int i) = IsSmall i
SmallNode _ = Unit {0}

abbrev pub Small : List Node → Type 0
Small [] = Unit {0}
Small (n ∷ ns) = SmallNode n × Small ns

pub small_append : (ns : List Node) (n : Node) → Small ns → SmallNode n → Small (ns ++ n ∷ [])
small_append [] n h k = (k, tt)
small_append (m ∷ ns) n h k = (h.0, small_append ns n h.1 k)

pub small_at : (ns : List Node) (k : ℕ) (i : ℤ) → Small ns → slice_get ns k ≡ Some (nodes.Int i) → IsSmall i
small_at [] k i h e = cc
small_at (n ∷ ns) zero i h e = let same : n ≡ nodes.Int i = cc in subst (λ m. SmallNode m) same h.0
small_at (n ∷ ns) (suc k) i h e = small_at ns k i h.1 e

-- Behind each inner node there is another one.
abbrev pub Ended : List Node → Type 0
Ended ns = (k : ℕ) (node : Node) → slice_get ns k ≡ Some node → is_inner node ≡ true → k + 1 < length ns

pub length_more : {X : Type 0} (xs : List X) (x : X) → length (xs ++ x ∷ []) ≡ length xs + 1
length_more [] x = refl
length_more (y ∷ xs) x = let e : length (xs ++ x ∷ []) ≡ length xs + 1 = length_more xs x in omega arith

pub ended_append : (ns : List Node) (n : Node) → is_inner n ≡ false → Ended (ns ++ n ∷ [])
ended_append [] n on zero node e inner = let same : n ≡ node = cc in let no : is_inner n ≡ true = subst (λ m. is_inner m ≡ true) (sym same) inner in cc
ended_append [] n on (suc k) node e inner = cc
ended_append (m ∷ ns) n on zero node e inner = let more : length (ns ++ n ∷ []) ≡ length ns + 1 = length_more ns n in omega arith
ended_append (m ∷ ns) n on (suc k) node e inner = let rest : k + 1 < length (ns ++ n ∷ []) = ended_append ns n on k node e inner in omega arith

-- The nodes of a body and their places.
abbrev pub Shape : Type 0
Shape = List Node × List Place

-- a body that is open, with its entry
pub record Growing (e : Entry) (x : Shape) : Type 0 where
  pub count : length x.0 ≡ e.nodes
  pub few : e.nodes ≤ 1024
  pub placed : length x.1 ≡ length x.0
  pub small : Small x.0
  pub fine : Fine 0 x.0
  pub pending : total 0 x.0 ≡ e.pending
  pub some : e.ended ≡ true → 0 < length x.0
  pub last : e.ended ≡ true → Ended x.0

pub begun_growing : Growing fresh ([], [])
begun_growing = record { count = refl; few = omega arith; placed = refl; small = tt; fine = omega arith; pending = refl; some = λ h. cc; last = λ h. cc }

pub growing_sound : (e : Entry) (x : Shape) → Growing e x → e.ended ≡ true → IsSound x.0 x.1
unfolding depth
growing_sound e x h on = record {
  some = h.some on;
  few = (let a : length x.0 ≡ e.nodes = h.count in let b : e.nodes ≤ 1024 = h.few in omega arith);
  placed = h.placed;
  small = λ k i at. small_at x.0 k i h.small at;
  room = λ k. fine_room 0 x.0 k h.fine;
  there = λ k node at. fine_there 0 x.0 k node h.fine at;
  ends = h.last on;
}

-- the world's node of a text's node
pub record Fits (t : TextNode) (n : Node) : Type 0 where
  pub takes_same : taken n ≡ takes t
  pub gives_same : left_by n ≡ gives t
  pub inner : is_inner n ≡ not (ends t)
  pub small : SmallNode n

pub both : (a b : Bool) → (a && b) ≡ true → (a ≡ true) × (b ≡ true)
both true true e = (refl, refl)
both true false e = cc
both false b e = cc

pub le_of : (a b : ℕ) → nat_le a b ≡ true → a ≤ b
le_of a b h = grind (arith, common_steps)

pub growing_more : (l : Limits) (e : Entry) (x : Shape) (t : TextNode) (n : Node) (p : Place) → l.pending ≤ 64 → l.body ≤ 1024 → Growing e x → admits l e t ≡ true → Fits t n →
    Growing (behind e t) (x.0 ++ n ∷ [], x.1 ++ p ∷ [])
growing_more l e x t n p lp lb h ok f =
    let w : Bool = nat_le (takes t) e.pending in
    let y : Bool = nat_le (e.pending - takes t + gives t) l.pending in
    let c = both (not e.ended && w && y) (nat_le (e.nodes + 1) l.body) ok in
    let d = both (not e.ended && w) y c.0 in
    let b = both (not e.ended) w d.0 in
    let b1 : nat_le (takes t) e.pending ≡ true = b.1 in
    let d1 : nat_le (e.pending - takes t + gives t) l.pending ≡ true = d.1 in
    let c1 : nat_le (e.nodes + 1) l.body ≡ true = c.1 in
    let enough : takes t ≤ e.pending = le_of _ _ b1 in
    let room : e.pending - takes t + gives t ≤ l.pending = le_of _ _ d1 in
    let count : e.nodes + 1 ≤ l.body = le_of _ _ c1 in
    let a : length x.0 ≡ e.nodes = h.count in
    let a' : length x.1 ≡ length x.0 = h.placed in
    let q : total 0 x.0 ≡ e.pending = h.pending in
    let more : length (x.0 ++ n ∷ []) ≡ length x.0 + 1 = length_more x.0 n in
    let more' : length (x.1 ++ p ∷ []) ≡ length x.1 + 1 = length_more x.1 p in
    let tk : taken n ≡ takes t = f.takes_same in
    let gv : left_by n ≡ gives t = f.gives_same in
    let step : total 0 (x.0 ++ n ∷ []) ≡ total 0 x.0 - taken n + left_by n = total_append 0 x.0 n in
    record {
      count = omega arith;
      few = omega arith;
      placed = omega arith;
      small = small_append x.0 n h.small f.small;
      fine = fine_append 0 x.0 n h.fine (omega arith) (omega arith);
      pending = omega arith;
      some = λ on. omega arith;
      last = λ on. ended_append x.0 n (f.inner ∙ ap (λ y. not y) on);
    }
