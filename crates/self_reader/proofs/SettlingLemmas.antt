-- What is wrong first at a sign, list by list, and the numbers behind it.
use Rattle.std.proofs.Common.{◌≡◌, ℕ, Bool, true, false, List, [], ◌∷◌, ◌++◌, inl, inr, refl, ap, ◌∙◌, ◌+◌, ◌<◌, ◌≤◌, ◌^◌, ◌-◌, length, get_or, zero, suc, min, arith}
use Rattle.std.specs.Prelude.{Option, None, Some, nat_le, not, ◌&&◌, if◌then◌else◌, take, drop}
use Rattle.std.proofs.lemmas.Bool.{cases_Bool}
use Rattle.std.proofs.lemmas.List.{take_more, at_drop_more}
use Rattle.std.proofs.lemmas.Bool.Decides.{nat_tests}
use Rattle.self_grammar.specs.declared.signs.Spot.{Spot}
use Rattle.self_grammar.specs.declared.signs.ReadRefusal.{ReadRefusal}
use Rattle.self_grammar.specs.declared.pieces.Made.{Made}
use Rattle.self_grammar.specs.declared.pieces.TextNode.TheVariants as nodes
use Rattle.self_grammar.specs.Counts.{Limits, Breach, Event, sooner, rank, placed, when, here, there, too_pending, too_many_nodes, too_large}
use Rattle.self_grammar.specs.declared.signs.ReadKind.TheVariants as kind
use Rattle.reader_states.specs.Turns.{listed}
use Rattle.self_reader.specs.Settling.{or_sooner, first_at, too_deep, broken_at, HasRoom}
use Rattle.self_reader.specs.declared.settling.Sums.{Sums}

sooner_sooner : (r : ReadRefusal) (a b : Option ReadRefusal) → sooner r (or_sooner a b) ≡ or_sooner (sooner r a) b
sooner_sooner r None b = refl
sooner_sooner r (Some q) None = elim (cases_Bool (nat_le (rank r.kind) (rank q.kind))) [ inl e ↦ rw e refl | inr e ↦ rw e refl ]
sooner_sooner r (Some q) (Some s) =
    elim (cases_Bool (nat_le (rank r.kind) (rank q.kind))) [
      | inl e ↦ elim (cases_Bool (nat_le (rank q.kind) (rank s.kind))) [
        | inl f ↦ (let t : nat_le (rank r.kind) (rank s.kind) ≡ true = grind (arith, nat_tests) in rw (e, f, t) (rw e refl))
        | inr f ↦ rw (e, f) refl
      ]
      | inr e ↦ elim (cases_Bool (nat_le (rank q.kind) (rank s.kind))) [
        | inl f ↦ rw (e, f) (rw e refl)
        | inr f ↦ (let t : nat_le (rank r.kind) (rank s.kind) ≡ false = grind (arith, nat_tests) in rw (e, f, t) refl)
      ]
    ]

pub first_append : (p : Spot) (xs ys : List Breach) → first_at p (xs ++ ys) ≡ or_sooner (first_at p xs) (first_at p ys)
first_append p [] ys = refl
first_append p (x ∷ xs) ys = ap (sooner (placed p x)) (first_append p xs ys) ∙ sooner_sooner (placed p x) (first_at p xs) (first_at p ys)

pub first_more : (p : Spot) (bs : List Breach) (i : ℕ) (b : Breach) → i < length bs → first_at p (take (i + 1) bs) ≡ or_sooner (first_at p (take i bs)) (first_at p (get_or bs i b ∷ []))
first_more p bs i b h = ap (first_at p) (take_more bs i b h) ∙ first_append p (take i bs) (get_or bs i b ∷ [])

some_made : Made
some_made = record { node = nodes.Nil; spot = record { line = 0; column = 0 } }

pub nodes_more : (l : Limits) (n s i : ℕ) (ms : List Made) → i < length ms → n < l.body → s < l.size → too_many_nodes l n s (drop i ms) ≡ too_many_nodes l (n + 1) (s + 1) (drop (i + 1) ms)
nodes_more l n s i ms h a b =
    at_drop_more (too_many_nodes l n s) ms i some_made h ∙ (let e : nat_le (n + 1) l.body ≡ true = grind (arith, nat_tests) in let f : nat_le (s + 1) l.size ≡ true = grind (arith, nat_tests) in rw (e, f) refl)

or_sooner_assoc : (a b c : Option ReadRefusal) → or_sooner a (or_sooner b c) ≡ or_sooner (or_sooner a b) c
or_sooner_assoc None b c = refl
or_sooner_assoc (Some r) b c = sooner_sooner r b c

-- what is wrong first in lists one behind the other, found list by list
pub record Firsts (p : Spot) (late a b c d e f : List Breach) (r1 r2 r3 r4 r5 r6 r7 : Option ReadRefusal) : Type 0 where
  pub one : r1 ≡ first_at p late
  pub two : r2 ≡ or_sooner r1 (first_at p a)
  pub three : r3 ≡ or_sooner r2 (first_at p b)
  pub four : r4 ≡ or_sooner r3 (first_at p c)
  pub five : r5 ≡ or_sooner r4 (first_at p d)
  pub six : r6 ≡ or_sooner r5 (first_at p e)
  pub seven : r7 ≡ or_sooner r6 (first_at p f)

pub first_of_all : (p : Spot) (late a b c d e f : List Breach) (r1 r2 r3 r4 r5 r6 r7 : Option ReadRefusal) → Firsts p late a b c d e f r1 r2 r3 r4 r5 r6 r7 →
    r7 ≡ first_at p (late ++ (a ++ b) ++ c ++ d ++ e ++ f)
first_of_all p late a b c d e f r1 r2 r3 r4 r5 r6 r7 h =
    let lists = first_append p (late ++ (a ++ b) ++ c ++ d ++ e) f in
    let lists5 = first_append p (late ++ (a ++ b) ++ c ++ d) e in
    let lists4 = first_append p (late ++ (a ++ b) ++ c) d in
    let lists3 = first_append p (late ++ (a ++ b)) c in
    let lists2 = first_append p late (a ++ b) in
    let lists1 = first_append p a b in
    rw (lists, lists5, lists4, lists3, lists2, lists1, h.seven, h.six, h.five, h.four, h.three, h.two, h.one, or_sooner_assoc (first_at p late) (first_at p a) (first_at p b)) refl

-- where the numbers pass no limit, they are small
not_when : (b : Bool) (x : Breach) → when b x ≡ [] → b ≡ false
not_when true x h = cc
not_when false x h = refl

chosen : (b : Bool) (xs : List Breach) (x : Breach) → (if b then xs else x ∷ []) ≡ [] → (b ≡ true) × (xs ≡ [])
chosen true xs x h = (refl, h)
chosen false xs x h = cc

pub deep_room : (l : Limits) (nesting : ℕ) (opens : Bool) → l.nesting < 2 ^ 32 → too_deep l nesting opens ≡ [] → opens ≡ true → nesting + 1 < 2 ^ 64
deep_room l nesting true r h e = let f : not (nat_le (nesting + 1) l.nesting) ≡ false = not_when (not (nat_le (nesting + 1) l.nesting)) (here kind.TooDeep) h in grind (arith, nat_tests)
deep_room l nesting false r h e = cc

pub nodes_room : (l : Limits) (n s : ℕ) (ms : List Made) → too_many_nodes l n s ms ≡ [] → 0 < length ms → (n + length ms ≤ l.body) × (s + length ms ≤ l.size)
nodes_room l n s [] h z = absurd (omega arith)
nodes_room l n s (m ∷ ms) h z = more ms (chosen (nat_le (n + 1) l.body && nat_le (s + 1) l.size) (too_many_nodes l (n + 1) (s + 1) ms) (there kind.TooManyNodes m.spot) h) (nodes_room l (n + 1) (s + 1) ms)
  where
    more : (ms : List Made) → ((nat_le (n + 1) l.body && nat_le (s + 1) l.size) ≡ true) × (too_many_nodes l (n + 1) (s + 1) ms ≡ []) →
        (too_many_nodes l (n + 1) (s + 1) ms ≡ [] → 0 < length ms → (n + 1 + length ms ≤ l.body) × (s + 1 + length ms ≤ l.size)) → (n + suc (length ms) ≤ l.body) × (s + suc (length ms) ≤ l.size)
    more [] e go = let f : (nat_le (n + 1) l.body && nat_le (s + 1) l.size) ≡ true = e.0 in (grind (arith, nat_tests), grind (arith, nat_tests))
    more (x ∷ xs) e go = let f = go e.1 (omega arith) in (omega (arith, f.0), omega (arith, f.1))

pub large_room : (l : Limits) (s : ℕ) (o : Option Spot) → too_large l s (listed o) ≡ [] → 0 < length (listed o) → s + length (listed o) ≤ l.size
large_room l s None h z = absurd (omega arith)
large_room l s (Some p) h z = let e = chosen (nat_le (s + 1) l.size) [] (there kind.TooManyNodes p) h in let f : nat_le (s + 1) l.size ≡ true = e.0 in grind (arith, nat_tests)

-- a sum within a limit isn't cut
pub uncut : (r n k limit : ℕ) → n < 2 ^ 64 → limit < 2 ^ 32 → (0 < k → n + k ≤ limit) → r ≡ min (n + k) (2 ^ 64 - 1) → r ≡ n + k
uncut r n zero limit f g h e = omega arith
uncut r n (suc k) limit f g h e = let i = h (omega arith) in omega (arith, i)

-- where nothing is wrong first, nothing is wrong
not_sooner : (r : ReadRefusal) (o : Option ReadRefusal) → sooner r o ≡ None → ⊥
not_sooner r None h = cc
not_sooner r (Some q) h = neither (nat_le (rank r.kind) (rank q.kind)) h
  where
    neither : (b : Bool) → (if b then Some r else Some q) ≡ None → ⊥
    neither true e = cc
    neither false e = cc

none_broken : (p : Spot) (bs : List Breach) → first_at p bs ≡ None → bs ≡ []
none_broken p [] h = refl
none_broken p (b ∷ bs) h = absurd (not_sooner (placed p b) (first_at p bs) h)

neither_any : (xs ys : List Breach) → xs ++ ys ≡ [] → (xs ≡ []) × (ys ≡ [])
neither_any [] ys h = (refl, h)
neither_any (x ∷ xs) ys h = cc

pub record IsSound (l : Limits) (s : Sums) (made : List Made) (e : Event) : Type 0 where
  pub room : HasRoom l s made e
  pub pending : too_pending l.pending s.pending made ≡ []

pub sound : (p : Spot) (l : Limits) (late : List Breach) (s : Sums) (made : List Made) (e : Event) → first_at p (broken_at l late s made e) ≡ None → IsSound l s made e
sound p l late s made e h =
    let all = neither_any (late ++ e.broken ++ too_deep l s.nesting e.opens ++ too_pending l.pending s.pending made ++ too_many_nodes l s.nodes s.size made) (too_large l (s.size + length made) e.counted) (none_broken p (broken_at l late s made e) h) in
    let nodes = neither_any (late ++ e.broken ++ too_deep l s.nesting e.opens ++ too_pending l.pending s.pending made) (too_many_nodes l s.nodes s.size made) all.0 in
    let pending = neither_any (late ++ e.broken ++ too_deep l s.nesting e.opens) (too_pending l.pending s.pending made) nodes.0 in
    let deep = neither_any (late ++ e.broken) (too_deep l s.nesting e.opens) pending.0 in
    record { room = record { deep = deep.1; nodes = nodes.1; large = all.1 }; pending = pending.1 }

pub pends : (o : Option Breach) → listed o ≡ [] → o ≡ None
pends None h = refl
pends (Some b) h = cc
