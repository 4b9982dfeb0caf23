-- What is read is a text: the marks of what was read so far are sound, and the place stands behind them.
use Rattle.std.specs.Prelude.{◌≡◌, Option, None, Some, List, [], ◌∷◌, ◌++◌, Result, Ok, Err, refl}
use Rattle.std.proofs.Common.{ap, sym, subst, ◌∙◌, append_assoc}
use Rattle.self_grammar.specs.declared.signs.Spot.{Spot}
use Rattle.self_grammar.specs.declared.signs.Symbol.{Symbol}
use Rattle.self_grammar.specs.declared.signs.Symbol.TheVariants as sign
use Rattle.self_grammar.specs.declared.signs.Sign.{Sign}
use Rattle.self_grammar.specs.declared.signs.ReadRefusal.{ReadRefusal}
use Rattle.self_grammar.specs.Grammar as g
use Rattle.self_grammar.specs.Counts.{Limits, Mark, Context, Writer, write, mark_at, moved}
use Rattle.self_grammar.specs.Refusal.{signs, AreSound, Expected, IsText, last_next}
use Rattle.self_grammar.proofs.Places.{Text, world, edit, marks}
use Rattle.self_grammar.proofs.Moves
use Rattle.self_grammar.proofs.Reading.{State, world_start, edit_start, move, goes_on, step, behind, unless, expected, is_expected}

-- a list with nothing behind it
no_more : {A : Type 0} (xs : List A) → xs ++ [] ≡ xs
no_more [] = refl
no_more (x ∷ xs) = ap (λ ys. x ∷ ys) (no_more xs)

signs_push : (ms : List Mark) (m : Mark) → signs (ms ++ m ∷ []) ≡ signs ms ++ m.sign ∷ []
signs_push [] m = refl
signs_push (x ∷ xs) m = ap (λ ys. x.sign ∷ ys) (signs_push xs m)

last_push : (o : Option Spot) (ms : List Mark) (m : Mark) → last_next o (ms ++ m ∷ []) ≡ m.next
last_push o [] m = refl
last_push o (x ∷ xs) m = last_push x.next xs m

sound_push : (ms : List Mark) (m : Mark) → AreSound ms → Expected (last_next None ms) (m ∷ []) → m.fault ≡ None → AreSound (ms ++ m ∷ [])
sound_push [] m s e f = (f, no_next m.next, tt)
  where
    no_next : (o : Option Spot) → Expected o []
    no_next None = tt
    no_next (Some q) = tt
sound_push (x ∷ []) m s e f = (s.0, e, (f, no_next m.next, tt))
  where
    no_next : (o : Option Spot) → Expected o []
    no_next None = tt
    no_next (Some q) = tt
sound_push (x ∷ y ∷ ys) m s e f = (s.0, follows x.next s.1, sound_push (y ∷ ys) m s.2 e f)
  where
    follows : (o : Option Spot) → Expected o (y ∷ ys) → Expected o (y ∷ (ys ++ m ∷ []))
    follows None h = tt
    follows (Some q) h = h

-- The place stands behind these signs, and nothing is wrong with them.
pub record Reached (l : Limits) (given : List Sign) (t : State) : Type 0 where
  pub written : List Mark
  pub says : (k : Writer) → Moves.before l t.place k ≡ written ++ k t.counts
  pub are : signs written ≡ given
  pub well : AreSound written
  pub wants : last_next None written ≡ t.wants

pub world_reached : (l : Limits) → Reached l [] world_start
world_reached l = record { written = []; says = λ k. refl; are = refl; well = tt; wants = refl }

pub edit_reached : (l : Limits) → Reached l [] edit_start
edit_reached l = record { written = []; says = λ k. refl; are = refl; well = tt; wants = refl }

pub expected_ok : (o : Option Spot) (r : Result State ReadRefusal) (t : State) → expected o r ≡ Ok t → (o ≡ None) × (r ≡ Ok t)
expected_ok None r t h = (refl, h)
expected_ok (Some q) r t h = cc

unless_ok : (o : Option ReadRefusal) (u t : State) → unless o u ≡ Ok t → (o ≡ None) × (u ≡ t)
unless_ok None u t h = (refl, cc)
unless_ok (Some r) u t h = cc

pub record Went (l : Limits) (u : State) (x : Symbol) (b : Spot) (t : State) : Type 0 where
  pub by : Moves.Move
  pub moves : move l u.place x b ≡ Some by
  pub free : (mark_at l (by.pre u.counts) x b by.event).fault ≡ None
  pub to : record { place = by.to; counts = by.post (moved (by.pre u.counts) by.event); wants = by.event.next } ≡ t

pub behind_ok : (l : Limits) (u : State) (x : Symbol) (b : Spot) (o : Option Moves.Move) (t : State) → move l u.place x b ≡ o → behind l u.counts x b o ≡ Ok t → Went l u x b t
behind_ok l u x b None t e h = cc
behind_ok l u x b (Some m) t e h =
    let f = unless_ok (mark_at l (m.pre u.counts) x b m.event).fault (record { place = m.to; counts = m.post (moved (m.pre u.counts) m.event); wants = m.event.next }) t h in
    record { by = m; moves = e; free = f.0; to = f.1 }

pub unstep : (l : Limits) (u : State) (x : Symbol) (b : Spot) (t : State) → step l u x b ≡ Ok t → expected (is_expected u.wants x) (behind l u.counts x b (move l u.place x b)) ≡ Ok t
unstep l u (sign.Integer z) b t' h = h
unstep l u (sign.Text i j) b t' h = h
unstep l u (sign.Name n t r) b t' h = h
unstep l u (sign.Primitive n) b t' h = h
unstep l u sign.Restart b t' h = h
unstep l u (sign.Keyword n) b t' h = h
unstep l u (sign.PrimitiveKeyword n y) b t' h = h
unstep l u sign.RestartKeyword b t' h = h
unstep l u (sign.CapitalKeyword n y) b t' h = h
unstep l u (sign.Argument n t r) b t' h = h
unstep l u (sign.Delegate n r) b t' h = h
unstep l u (sign.Operator n r) b t' h = h
unstep l u sign.OpenParen b t' h = h
unstep l u sign.CloseParen b t' h = h
unstep l u sign.OpenBracket b t' h = h
unstep l u sign.CloseBracket b t' h = h
unstep l u sign.Bar b t' h = h
unstep l u sign.Period b t' h = h
unstep l u sign.Caret b t' h = h
unstep l u sign.End b t' h = h
unstep l u (sign.Bad z) b t' h = cc

-- what must come comes
fits : (o : Option Spot) (x : Symbol) (m : Mark) → m.sign.symbol ≡ x → is_expected o x ≡ None → Expected o (m ∷ [])
fits None x m e h = tt
fits (Some q') (sign.Integer z) m e h = cc
fits (Some q') (sign.Text i j) m e h = cc
fits (Some q') (sign.Name n t r) m e h = cc
fits (Some q') (sign.Primitive n) m e h = cc
fits (Some q') sign.Restart m e h = cc
fits (Some q') (sign.Keyword n) m e h = cc
fits (Some q') (sign.PrimitiveKeyword n y) m e h = cc
fits (Some q') sign.RestartKeyword m e h = cc
fits (Some q') (sign.CapitalKeyword n y) m e h = cc
fits (Some q') (sign.Argument n t r) m e h = cc
fits (Some q') (sign.Delegate n r) m e h = cc
fits (Some q') (sign.Operator n r) m e h = cc
fits (Some q') sign.OpenParen m e h = cc
fits (Some q') sign.CloseParen m e h = cc
fits (Some q') sign.OpenBracket m e h = cc
fits (Some q') sign.CloseBracket m e h = cc
fits (Some q') sign.Bar m e h = e
fits (Some q') sign.Period m e h = cc
fits (Some q') sign.Caret m e h = cc
fits (Some q') sign.End m e h = cc
fits (Some q') (sign.Bad z) m e h = cc

pub steps_on : (l : Limits) (given : List Sign) (u t : State) (x : Symbol) (b : Spot) → Reached l given u → step l u x b ≡ Ok t →
    Reached l (given ++ record { symbol = x; spot = b } ∷ []) t
steps_on l given u t x b r h =
    let e = expected_ok (is_expected u.wants x) (behind l u.counts x b (move l u.place x b)) t (unstep l u x b t h) in
    let w = behind_ok l u x b (move l u.place x b) t refl e.1 in
    let m : Mark = mark_at l (w.by.pre u.counts) x b w.by.event in
    let after : State = record { place = w.by.to; counts = w.by.post (moved (w.by.pre u.counts) w.by.event); wants = w.by.event.next } in
    let here : Reached l (given ++ record { symbol = x; spot = b } ∷ []) after = record {
      written = r.written ++ m ∷ [];
      says = λ k.
          sym ((goes_on l u.place x b w.by w.moves).law k)
          ∙ r.says (λ c. write l x b w.by.event (λ d. k (w.by.post d)) (w.by.pre c))
          ∙ sym (append_assoc r.written (m ∷ []) (k (w.by.post (moved (w.by.pre u.counts) w.by.event))));
      are = signs_push r.written m ∙ ap (λ y. y ++ m.sign ∷ []) r.are;
      well = sound_push r.written m r.well (subst (λ o. Expected o (m ∷ [])) (sym r.wants) (fits u.wants x m refl e.0)) w.free;
      wants = last_push None r.written m;
    } in
    subst (λ y. Reached l (given ++ record { symbol = x; spot = b } ∷ []) y) w.to here

-- many signs
abbrev pub then : Result State ReadRefusal → (State → Result State ReadRefusal) → Result State ReadRefusal
then (Err e) go = Err e
then (Ok t) go = go t

unfoldable pub run : Limits → State → List Sign → Result State ReadRefusal
run l t [] = Ok t
run l t (x ∷ xs) = then (step l t x.symbol x.spot) (λ u. run l u xs)

pub runs_on : (l : Limits) (given more : List Sign) (u t : State) → Reached l given u → run l u more ≡ Ok t → Reached l (given ++ more) t
unfolding run
runs_on l given [] u t r h = let same : u ≡ t = cc in subst (λ y. Reached l (given ++ []) y) same (subst (λ y. Reached l y u) (sym (no_more given)) r)
runs_on l given (x ∷ xs) u t r h = went (step l u x.symbol x.spot) refl h (λ v q e. runs_on l (given ++ x ∷ []) xs v t q e)
  where
    went : (o : Result State ReadRefusal) → step l u x.symbol x.spot ≡ o → then o (λ v. run l v xs) ≡ Ok t →
        ((v : State) → Reached l (given ++ x ∷ []) v → run l v xs ≡ Ok t → Reached l ((given ++ x ∷ []) ++ xs) t) → Reached l (given ++ x ∷ xs) t
    went (Err e) is h' go = cc
    went (Ok v) is h' go = subst (λ y. Reached l y t) (append_assoc given (x ∷ []) xs) (go v (steps_on l given u v x.symbol x.spot r is) h')

pub text_marks : (l : Limits) (t : Text) → Moves.text_said l t (λ c. []) ≡ marks l t
text_marks l (world (g.world_ended ms q)) = refl
text_marks l (world (g.world_last ms m q)) = refl
text_marks l (edit (g.edit m None q)) = refl
text_marks l (edit (g.edit m (Some d) q)) = refl

-- What was read whole is a text with nothing wrong, spelled by these signs.
pub is_text : (l : Limits) (given : List Sign) (t : Text) (c : Context) (o : Option Spot) → Reached l given (record { place = Moves.finished t; counts = c; wants = o }) →
    IsText (marks l) given t
is_text l given t c o r =
    let same : marks l t ≡ r.written = sym (text_marks l t) ∙ r.says (λ d. []) ∙ no_more r.written in
    (ap signs same ∙ r.are, subst AreSound (sym same) r.well)
