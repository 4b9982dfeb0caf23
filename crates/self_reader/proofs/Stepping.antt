-- The reader takes a sign as the grammar's places do, and says what the mark of that sign says.
use Rattle.std.specs.Prelude.{◌≡◌, Option, None, Some, Result, Ok, Err, refl}
use Rattle.std.proofs.Common.{ap, sym, subst, ◌∙◌}
use Rattle.self_grammar.specs.declared.signs.Spot.{Spot}
use Rattle.self_grammar.specs.declared.signs.Symbol.{Symbol}
use Rattle.self_grammar.specs.declared.signs.Symbol.TheVariants as sign
use Rattle.self_grammar.specs.declared.signs.ReadRefusal.{ReadRefusal}
use Rattle.self_grammar.specs.Counts.{Limits, Context, breaches, items_at, moved}
use Rattle.self_grammar.proofs.Moves as m
use Rattle.self_grammar.proofs.Reading as g
use Rattle.self_grammar.proofs.Reading.{State, move, step}
use Rattle.self_reader.specs.declared.reading.Reader.{Reader}
use Rattle.reader_states.specs.Turns.{Turn, after}
use Rattle.self_reader.specs.Turning.{turn}
use Rattle.self_reader.specs.Settling.{first_at}
use Rattle.self_reader.specs.Reading.{missing_bar, unless, settled, barred, fed, said_by, said_at}
use Rattle.self_reader.proofs.Shown.{shown, stand, Follows}
use Rattle.self_reader.proofs.Following.{follows}

-- The reader stands where the grammar's state does.
pub record Shows (l : Limits) (r : Reader) (u : State) : Type 0 where
  pub stands : stand r.at r.frames ≡ shown l u.place
  pub counts : r.counts ≡ u.counts
  pub wants : r.wants ≡ u.wants

abbrev pub Matches : Limits → Result Reader ReadRefusal → Result State ReadRefusal → Type 0
Matches l (Ok r) (Ok u) = Shows l r u
Matches l (Ok r) (Err f) = ⊥
Matches l (Err e) (Ok u) = ⊥
Matches l (Err e) (Err f) = e ≡ f

unless_matches : (l : Limits) (o : Option ReadRefusal) (r : Reader) (u : State) → Shows l r u → Matches l (unless o r) (g.unless o u)
unless_matches l None r u s = s
unless_matches l (Some e) r u s = refl

turn_matches : (l : Limits) (c : Context) (x : Symbol) (p : Spot) (o : Option Turn) (v : Option m.Move) → Follows l c o v → Matches l (settled l p o) (g.behind l c x p v)
turn_matches l c x p None None f = refl
turn_matches l c x p None (Some v) f = absurd f
turn_matches l c x p (Some t) None f = absurd f
turn_matches l c x p (Some t) (Some v) f =
    let r : Reader = record { at = t.at; frames = t.frames; counts = after t.post (moved t.counts t.event); wants = t.event.next } in
    let u : State = record { place = v.to; counts = v.post (moved (v.pre c) v.event); wants = v.event.next } in
    let shows : Shows l r u = record {
      stands = f.3;
      counts = f.2 (moved t.counts t.event) ∙ ap (λ d. v.post (moved d t.event)) f.0 ∙ ap (λ e. v.post (moved (v.pre c) e)) f.1;
      wants = ap (λ e. e.next) f.1;
    } in
    let fault : first_at p (breaches l t.counts t.event) ≡ first_at p (breaches l (v.pre c) v.event) =
    ap (λ d. first_at p (breaches l d t.event)) f.0 ∙ ap (λ e. first_at p (breaches l (v.pre c) e)) f.1 in
    subst (λ (o : Option ReadRefusal). Matches l (unless o r) (g.unless (first_at p (breaches l (v.pre c) v.event)) u)) (sym fault)
    (unless_matches l (first_at p (breaches l (v.pre c) v.event)) r u shows)

-- the turn of the reader, where the grammar's state stands
turns : (l : Limits) (r : Reader) (u : State) (x : Symbol) (p : Spot) → Shows l r u → Follows l u.counts (turn l r.at r.frames r.counts x p) (move l u.place x p)
turns l r u x p s =
    rw (ap (λ t. t.at) s.stands, ap (λ t. t.frames) s.stands, s.counts) (follows l u.counts u.place x p)

same_bar : (o : Option Spot) (x : Symbol) → missing_bar o x ≡ g.is_expected o x
same_bar None x = refl
same_bar (Some q) (sign.Integer z) = refl
same_bar (Some q) (sign.Text i j) = refl
same_bar (Some q) (sign.Name n t r') = refl
same_bar (Some q) (sign.Primitive n) = refl
same_bar (Some q) sign.Restart = refl
same_bar (Some q) (sign.Keyword n) = refl
same_bar (Some q) (sign.PrimitiveKeyword n y) = refl
same_bar (Some q) sign.RestartKeyword = refl
same_bar (Some q) (sign.CapitalKeyword n y) = refl
same_bar (Some q) (sign.Argument n t r') = refl
same_bar (Some q) (sign.Delegate n r') = refl
same_bar (Some q) (sign.Operator n r') = refl
same_bar (Some q) sign.OpenParen = refl
same_bar (Some q) sign.CloseParen = refl
same_bar (Some q) sign.OpenBracket = refl
same_bar (Some q) sign.CloseBracket = refl
same_bar (Some q) sign.Bar = refl
same_bar (Some q) sign.Period = refl
same_bar (Some q) sign.Caret = refl
same_bar (Some q) sign.End = refl
same_bar (Some q) (sign.Bad f) = refl

barred_matches : (l : Limits) (o : Option Spot) (y : Result Reader ReadRefusal) (z : Result State ReadRefusal) → Matches l y z → Matches l (barred o y) (g.expected o z)
barred_matches l None y z h = h
barred_matches l (Some q) y z h = refl

token_matches : (l : Limits) (r : Reader) (u : State) (x : Symbol) (p : Spot) → Shows l r u →
    Matches l (barred (missing_bar r.wants x) (settled l p (turn l r.at r.frames r.counts x p))) (g.expected (g.is_expected u.wants x) (g.behind l u.counts x p (move l u.place x p)))
token_matches l r u x p s =
    rw (s.wants, same_bar u.wants x)
    (barred_matches l (g.is_expected u.wants x) (settled l p (turn l r.at r.frames r.counts x p)) (g.behind l u.counts x p (move l u.place x p))
    (turn_matches l u.counts x p (turn l r.at r.frames r.counts x p) (move l u.place x p) (turns l r u x p s)))

-- one sign
pub step_matches : (l : Limits) (r : Reader) (u : State) (x : Symbol) (p : Spot) → Shows l r u → Matches l (fed l r x p) (step l u x p)
step_matches l r u (sign.Integer z) p s = token_matches l r u (sign.Integer z) p s
step_matches l r u (sign.Text i j) p s = token_matches l r u (sign.Text i j) p s
step_matches l r u (sign.Name n t r') p s = token_matches l r u (sign.Name n t r') p s
step_matches l r u (sign.Primitive n) p s = token_matches l r u (sign.Primitive n) p s
step_matches l r u sign.Restart p s = token_matches l r u sign.Restart p s
step_matches l r u (sign.Keyword n) p s = token_matches l r u (sign.Keyword n) p s
step_matches l r u (sign.PrimitiveKeyword n y) p s = token_matches l r u (sign.PrimitiveKeyword n y) p s
step_matches l r u sign.RestartKeyword p s = token_matches l r u sign.RestartKeyword p s
step_matches l r u (sign.CapitalKeyword n y) p s = token_matches l r u (sign.CapitalKeyword n y) p s
step_matches l r u (sign.Argument n t r') p s = token_matches l r u (sign.Argument n t r') p s
step_matches l r u (sign.Delegate n r') p s = token_matches l r u (sign.Delegate n r') p s
step_matches l r u (sign.Operator n r') p s = token_matches l r u (sign.Operator n r') p s
step_matches l r u sign.OpenParen p s = token_matches l r u sign.OpenParen p s
step_matches l r u sign.CloseParen p s = token_matches l r u sign.CloseParen p s
step_matches l r u sign.OpenBracket p s = token_matches l r u sign.OpenBracket p s
step_matches l r u sign.CloseBracket p s = token_matches l r u sign.CloseBracket p s
step_matches l r u sign.Bar p s = token_matches l r u sign.Bar p s
step_matches l r u sign.Period p s = token_matches l r u sign.Period p s
step_matches l r u sign.Caret p s = token_matches l r u sign.Caret p s
step_matches l r u sign.End p s = token_matches l r u sign.End p s
step_matches l r u (sign.Bad f) p s = refl

-- what is said at it
said_of : (l : Limits) (c : Context) (o : Option Turn) (v : m.Move) → Follows l c o (Some v) → said_by o ≡ items_at (v.pre c) v.event
said_of l c None v f = absurd f
said_of l c (Some t) v f = ap (λ d. items_at d t.event) f.0 ∙ ap (λ e. items_at (v.pre c) e) f.1

pub said_is : (l : Limits) (r : Reader) (u : State) (x : Symbol) (p : Spot) (v : m.Move) → Shows l r u → move l u.place x p ≡ Some v → said_at l r x p ≡ items_at (v.pre u.counts) v.event
said_is l r u x p v s is = said_of l u.counts (turn l r.at r.frames r.counts x p) v (subst (λ y. Follows l u.counts (turn l r.at r.frames r.counts x p) y) is (turns l r u x p s))
