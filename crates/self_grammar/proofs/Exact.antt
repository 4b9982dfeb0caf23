-- Where no move is, no text goes on: a refusal by the grammar stands at the first sign behind which nothing makes a text.
use Rattle.std.specs.Prelude.{◌≡◌, Option, None, Some, List, [], ◌∷◌, ◌++◌, Result, Ok, Err, refl}
use Rattle.std.proofs.Common.{ap, sym, subst, ◌∙◌}
use Rattle.self_grammar.specs.declared.signs.Sign.{Sign}
use Rattle.self_grammar.specs.declared.signs.ReadRefusal.{ReadRefusal}
use Rattle.self_grammar.specs.Counts.{Limits, Mark, Context, moved}
use Rattle.self_grammar.specs.Refusal.{signs, Begins}
use Rattle.self_grammar.specs.Spelling as s
use Rattle.self_grammar.proofs.Places.{Text}
use Rattle.self_grammar.proofs.Places as p
use Rattle.self_grammar.proofs.Moves
use Rattle.self_grammar.proofs.Reading.{State, world_start, edit_start, move, step, behind, is_expected}
use Rattle.self_grammar.proofs.Found.{run, then, Went, expected_ok, behind_ok, unstep}
use Rattle.self_grammar.proofs.Complete.{Follows}
use Rattle.self_grammar.proofs.SlotComplete.{world_reads, edit_reads}

-- The place behind signs, by the grammar alone.
pub record Stand : Type 0 where
  pub place : Moves.Place
  pub counts : Context

abbrev pub stand : Moves.Place → Context → Stand
stand q c = record { place = q; counts = c }

abbrev pub onward : Context → Option Moves.Move → (Moves.Place → Context → Option Stand) → Option Stand
onward c None go = None
onward c (Some m) go = go m.to (m.post (moved (m.pre c) m.event))

unfoldable pub walk : Limits → Moves.Place → Context → List Sign → Option Stand
walk l q c [] = Some (stand q c)
walk l q c (x ∷ xs) = onward c (move l q x.symbol x.spot) (λ r d. walk l r d xs)

-- a run walks
went_walks : (l : Limits) (u v : State) (x : Sign) (xs : List Sign) → Went l u x.symbol x.spot v → walk l u.place u.counts (x ∷ xs) ≡ walk l v.place v.counts xs
unfolding walk
went_walks l u v x xs w = rw (w.moves) (ap (λ (y : State). walk l y.place y.counts xs) w.to)

pub run_walks : (l : Limits) (given : List Sign) (u t : State) → run l u given ≡ Ok t → walk l u.place u.counts given ≡ Some (stand t.place t.counts)
unfolding run walk
run_walks l [] u t h = let same : u ≡ t = cc in ap (λ (y : State). Some (stand y.place y.counts)) same
run_walks l (x ∷ xs) u t h = met (step l u x.symbol x.spot) refl h (λ v e. run_walks l xs v t e)
  where
    met : (o : Result State ReadRefusal) → step l u x.symbol x.spot ≡ o → then o (λ v. run l v xs) ≡ Ok t → ((v : State) → run l v xs ≡ Ok t → walk l v.place v.counts xs ≡ Some (stand t.place t.counts)) →
        walk l u.place u.counts (x ∷ xs) ≡ Some (stand t.place t.counts)
    met (Err e) is h' go = cc
    met (Ok v) is h' go =
        let e = expected_ok (is_expected u.wants x.symbol) (behind l u.counts x.symbol x.spot (move l u.place x.symbol x.spot)) v (unstep l u x.symbol x.spot v is) in
        went_walks l u v x xs (behind_ok l u x.symbol x.spot (move l u.place x.symbol x.spot) v refl e.1) ∙ go v h'

-- what is followed is walked, and goes on
pub record GoesOnBy (l : Limits) (q : Moves.Place) (c : Context) (front : List Sign) (x : Sign) : Type 0 where
  pub at : Stand
  pub walked : walk l q c front ≡ Some at
  pub by : Moves.Move
  pub moves : move l at.place x.symbol x.spot ≡ Some by

pub follows_walk : (l : Limits) (t : Text) (front : List Sign) (x : Sign) (rest : List Sign) (ms : List Mark) (q : Moves.Place) (c : Context) → Follows l t q c ms → signs ms ≡ front ++ x ∷ rest →
    GoesOnBy l q c front x
unfolding walk
follows_walk l t [] x rest [] q c f e = cc
follows_walk l t [] x rest (m ∷ ms) q c f e =
    let same : m.sign ≡ x = cc in
    record { at = stand q c; walked = refl; by = f.0; moves = subst (λ (y : Sign). move l q y.symbol y.spot ≡ Some f.0) same f.1 }
follows_walk l t (y ∷ ys) x rest [] q c f e = cc
follows_walk l t (y ∷ ys) x rest (m ∷ ms) q c f e =
    let same : m.sign ≡ y = cc in
    let more : signs ms ≡ ys ++ x ∷ rest = cc in
    let w = follows_walk l t ys x rest ms f.0.to (f.0.post (moved (f.0.pre c) f.0.event)) f.3 more in
    let goes : move l q y.symbol y.spot ≡ Some f.0 = subst (λ (z : Sign). move l q z.symbol z.spot ≡ Some f.0) same f.1 in
    record { at = w.at; walked = rw goes w.walked; by = w.by; moves = w.moves }

no_move : (o : Option Moves.Move) (m : Moves.Move) → o ≡ None → o ≡ Some m → ⊥
no_move o m a b = cc

stands : (a b : Stand) → Some a ≡ Some b → a ≡ b
stands a b e = cc

stuck : (l : Limits) (t : Text) (u v : State) (front : List Sign) (x : Sign) (rest : List Sign) (ms : List Mark) → Follows l t v.place v.counts ms → signs ms ≡ front ++ x ∷ rest →
    run l v front ≡ Ok u → move l u.place x.symbol x.spot ≡ None → ⊥
stuck l t u v front x rest ms f e ran none =
    let w = follows_walk l t front x rest ms v.place v.counts f e in
    let same : w.at ≡ stand u.place u.counts = stands w.at (stand u.place u.counts) (sym w.walked ∙ run_walks l front v u ran) in
    no_move (move l u.place x.symbol x.spot) w.by none (subst (λ (y : Stand). move l y.place x.symbol x.spot ≡ Some w.by) same w.moves)

-- No world begins with what was read and a sign by which its place doesn't go on,
pub no_world : (l : Limits) (u : State) (front : List Sign) (x : Sign) → run l world_start front ≡ Ok u → move l u.place x.symbol x.spot ≡ None → Begins (s.world l) (front ++ x ∷ []) → ⊥
no_world l u front x ran none b = stuck l (p.world b.0) u world_start front x b.1 (s.world l b.0) (world_reads l b.0) (b.2 ∙ one front x b.1) ran none
  where
    one : (front : List Sign) (x : Sign) (rest : List Sign) → (front ++ x ∷ []) ++ rest ≡ front ++ x ∷ rest
    one [] x rest = refl
    one (y ∷ ys) x rest = ap (λ zs. y ∷ zs) (one ys x rest)

-- and no edit.
pub no_edit : (l : Limits) (u : State) (front : List Sign) (x : Sign) → run l edit_start front ≡ Ok u → move l u.place x.symbol x.spot ≡ None → Begins (s.edit l) (front ++ x ∷ []) → ⊥
no_edit l u front x ran none b = stuck l (p.edit b.0) u edit_start front x b.1 (s.edit l b.0) (edit_reads l b.0) (b.2 ∙ one front x b.1) ran none
  where
    one : (front : List Sign) (x : Sign) (rest : List Sign) → (front ++ x ∷ []) ++ rest ≡ front ++ x ∷ rest
    one [] x rest = refl
    one (y ∷ ys) x rest = ap (λ zs. y ∷ zs) (one ys x rest)
