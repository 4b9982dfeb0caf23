-- A refusal is what is wrong with a sign behind what was read, of each kind of text.
use Rattle.std.specs.Prelude.{◌≡◌, false, Option, None, Some, List, [], ◌∷◌, ◌++◌, Result, Ok, Err, ◌⊎◌, refl}
use Rattle.std.proofs.Common.{ap, sym, subst, ◌∙◌, inl, inr}
use Rattle.self_tokens.specs.declared.symbols.Fault.{Fault}
use Rattle.self_grammar.specs.declared.signs.Spot.{Spot}
use Rattle.self_grammar.specs.declared.signs.Symbol.{Symbol}
use Rattle.self_grammar.specs.declared.signs.Symbol.TheVariants as sign
use Rattle.self_grammar.specs.declared.signs.Sign.{Sign}
use Rattle.self_grammar.specs.declared.signs.ReadRefusal.{ReadRefusal}
use Rattle.self_grammar.specs.Grammar as g
use Rattle.self_grammar.specs.Counts.{Limits, Mark, write, mark_at, moved}
use Rattle.self_grammar.specs.Refusal.{signs, BeginsSoundly, Expects, IsWrong, no_token, no_bar, no_text, rule, last_next, kind_of, bad_syntax}
use Rattle.self_grammar.specs.Spelling as s
use Rattle.self_grammar.proofs.Places.{Text, marks}
use Rattle.self_grammar.proofs.Places as p
use Rattle.self_grammar.proofs.Moves
use Rattle.self_grammar.proofs.Bases.{base, is_edit, keeps}
use Rattle.self_grammar.proofs.Reading.{State, world_start, move, goes_on, step, behind, unless, expected, is_expected}
use Rattle.self_grammar.proofs.Found.{world_reached, runs_on, run, then, Went, expected_ok, behind_ok, unstep}
use Rattle.self_grammar.proofs.Closed.{closes}
use Rattle.self_grammar.proofs.Complete.{Follows}
use Rattle.self_grammar.proofs.SlotComplete.{world_reads}
use Rattle.self_grammar.proofs.Exact.{no_world}

pub went_of : (l : Limits) (u v : State) (x : Symbol) (b : Spot) → step l u x b ≡ Ok v → Went l u x b v
went_of l u v x b is =
    let e = expected_ok (is_expected u.wants x) (behind l u.counts x b (move l u.place x b)) v (unstep l u x b v is) in
    behind_ok l u x b (move l u.place x b) v refl e.1

-- a run stays in its kind of text
pub run_base : (l : Limits) (given : List Sign) (u t : State) → run l u given ≡ Ok t → base t.place ≡ base u.place
unfolding run
run_base l [] u t h = let same : u ≡ t = cc in ap (λ (y : State). base y.place) (sym same)
run_base l (x ∷ xs) u t h = met (step l u x.symbol x.spot) refl h (λ v e. run_base l xs v t e)
  where
    met : (o : Result State ReadRefusal) → step l u x.symbol x.spot ≡ o → then o (λ v. run l v xs) ≡ Ok t → ((v : State) → run l v xs ≡ Ok t → base t.place ≡ base v.place) → base t.place ≡ base u.place
    met (Err e) is h' go = cc
    met (Ok v) is h' go =
        let w = went_of l u v x.symbol x.spot is in
        go v h' ∙ ap (λ (y : State). base y.place) (sym w.to) ∙ keeps l u.place x.symbol x.spot w.by w.moves

-- what must come next is the same for each text that begins so
pub follows_wants : (l : Limits) (t : Text) (ms rest : List Mark) (v u : State) → Follows l t v.place v.counts (ms ++ rest) → run l v (signs ms) ≡ Ok u → last_next v.wants ms ≡ u.wants
unfolding run
follows_wants l t [] rest v u f h = let same : v ≡ u = cc in ap (λ (y : State). y.wants) same
follows_wants l t (m ∷ ms) rest v u f h = met (step l v m.sign.symbol m.sign.spot) refl h (λ n g' e. follows_wants l t ms rest n u g' e)
  where
    met : (o : Result State ReadRefusal) → step l v m.sign.symbol m.sign.spot ≡ o → then o (λ n. run l n (signs ms)) ≡ Ok u →
        ((n : State) → Follows l t n.place n.counts (ms ++ rest) → run l n (signs ms) ≡ Ok u → last_next n.wants ms ≡ u.wants) → last_next m.next ms ≡ u.wants
    met (Err e) is h' go = cc
    met (Ok n) is h' go =
        let w = went_of l v n m.sign.symbol m.sign.spot is in
        let same : w.by ≡ f.0 = one w.by f.0 (sym w.moves ∙ f.1) in
        let to : record { place = f.0.to; counts = f.0.post (moved (f.0.pre v.counts) f.0.event); wants = f.0.event.next } ≡ n =
        subst (λ (y : Moves.Move). record { place = y.to; counts = y.post (moved (y.pre v.counts) y.event); wants = y.event.next } ≡ n) same w.to in
        let wants : m.next ≡ n.wants = sym (ap (λ (y : Mark). y.next) f.2) ∙ ap (λ (y : State). y.wants) to in
        ap (λ y. last_next y ms) wants ∙ go n (subst (λ (y : State). Follows l t y.place y.counts (ms ++ rest)) to f.3) h'
      where
        one : (a b : Moves.Move) → Some a ≡ Some b → a ≡ b
        one a b e = cc

pub as_world : (t : Text) → is_edit t ≡ false → (x : g.World) × (t ≡ p.world x)
as_world (p.world x) e = (x, refl)
as_world (p.edit x) e = cc

-- What was read of a world is the front of one.
pub world_begins : (l : Limits) (front : List Sign) (u : State) → run l world_start front ≡ Ok u → BeginsSoundly (s.world l) front
world_begins l front u ran =
    let r = runs_on l [] front world_start u (world_reached l) ran in
    let c = closes l u.place in
    let x = as_world c.text (c.kind ∙ run_base l front world_start u ran) in
    (x.0, r.written, c.rest u.counts, sym (ap (λ y. marks l y) x.1) ∙ sym c.law ∙ r.says c.rest, r.are, r.well)

world_expects : (l : Limits) (front : List Sign) (u : State) (q : Spot) → run l world_start front ≡ Ok u → u.wants ≡ Some q → Expects (s.world l) front q
world_expects l front u q ran e =
    let r = runs_on l [] front world_start u (world_reached l) ran in
    let c = closes l u.place in
    let x = as_world c.text (c.kind ∙ run_base l front world_start u ran) in
    (x.0, r.written, c.rest u.counts, sym (ap (λ y. marks l y) x.1) ∙ sym c.law ∙ r.says c.rest, r.are, r.wants ∙ e)

expects_wants : (l : Limits) (front : List Sign) (u : State) (q : Spot) → run l world_start front ≡ Ok u → Expects (s.world l) front q → u.wants ≡ Some q
expects_wants l front u q ran e =
    let f = subst (λ y. Follows l (p.world e.0) world_start.place world_start.counts y) e.3 (world_reads l e.0) in
    sym (follows_wants l (p.world e.0) e.1 e.2 world_start u f (subst (λ y. run l world_start y ≡ Ok u) (sym e.4) ran)) ∙ e.5

pub is_bar : (q' : Spot) (x : Symbol) → is_expected (Some q') x ≡ None → x ≡ sign.Bar
is_bar q' (sign.Integer z) e = cc
is_bar q' (sign.Text i j) e = cc
is_bar q' (sign.Name n t r) e = cc
is_bar q' (sign.Primitive n) e = cc
is_bar q' sign.Restart e = cc
is_bar q' (sign.Keyword n) e = cc
is_bar q' (sign.PrimitiveKeyword n y) e = cc
is_bar q' sign.RestartKeyword e = cc
is_bar q' (sign.CapitalKeyword n y) e = cc
is_bar q' (sign.Argument n t r) e = cc
is_bar q' (sign.Delegate n r) e = cc
is_bar q' (sign.Operator n r) e = cc
is_bar q' sign.OpenParen e = cc
is_bar q' sign.CloseParen e = cc
is_bar q' sign.OpenBracket e = cc
is_bar q' sign.CloseBracket e = cc
is_bar q' sign.Bar e = refl
is_bar q' sign.Period e = cc
is_bar q' sign.Caret e = cc
is_bar q' sign.End e = cc
is_bar q' (sign.Bad z) e = cc

pub no_bar_comes : (q' : Spot) (o : Option Spot) (x : Symbol) → is_expected o x ≡ Some q' → (o ≡ Some q') × (x ≡ sign.Bar → ⊥)
no_bar_comes q' None x e = cc
no_bar_comes q' (Some q) (sign.Integer z) e = (e, λ h. cc)
no_bar_comes q' (Some q) (sign.Text i j) e = (e, λ h. cc)
no_bar_comes q' (Some q) (sign.Name n t r) e = (e, λ h. cc)
no_bar_comes q' (Some q) (sign.Primitive n) e = (e, λ h. cc)
no_bar_comes q' (Some q) sign.Restart e = (e, λ h. cc)
no_bar_comes q' (Some q) (sign.Keyword n) e = (e, λ h. cc)
no_bar_comes q' (Some q) (sign.PrimitiveKeyword n y) e = (e, λ h. cc)
no_bar_comes q' (Some q) sign.RestartKeyword e = (e, λ h. cc)
no_bar_comes q' (Some q) (sign.CapitalKeyword n y) e = (e, λ h. cc)
no_bar_comes q' (Some q) (sign.Argument n t r) e = (e, λ h. cc)
no_bar_comes q' (Some q) (sign.Delegate n r) e = (e, λ h. cc)
no_bar_comes q' (Some q) (sign.Operator n r) e = (e, λ h. cc)
no_bar_comes q' (Some q) sign.OpenParen e = (e, λ h. cc)
no_bar_comes q' (Some q) sign.CloseParen e = (e, λ h. cc)
no_bar_comes q' (Some q) sign.OpenBracket e = (e, λ h. cc)
no_bar_comes q' (Some q) sign.CloseBracket e = (e, λ h. cc)
no_bar_comes q' (Some q) sign.Bar e = cc
no_bar_comes q' (Some q) sign.Period e = (e, λ h. cc)
no_bar_comes q' (Some q) sign.Caret e = (e, λ h. cc)
no_bar_comes q' (Some q) sign.End e = (e, λ h. cc)
no_bar_comes q' (Some q) (sign.Bad z) e = (e, λ h. cc)

pub bad_or : (x : Symbol) → ((f : Fault) × (x ≡ sign.Bad f)) ⊎ ((f : Fault) → x ≡ sign.Bad f → ⊥)
bad_or (sign.Integer z) = inr (λ f e. cc)
bad_or (sign.Text i j) = inr (λ f e. cc)
bad_or (sign.Name n t r) = inr (λ f e. cc)
bad_or (sign.Primitive n) = inr (λ f e. cc)
bad_or sign.Restart = inr (λ f e. cc)
bad_or (sign.Keyword n) = inr (λ f e. cc)
bad_or (sign.PrimitiveKeyword n y) = inr (λ f e. cc)
bad_or sign.RestartKeyword = inr (λ f e. cc)
bad_or (sign.CapitalKeyword n y) = inr (λ f e. cc)
bad_or (sign.Argument n t r) = inr (λ f e. cc)
bad_or (sign.Delegate n r) = inr (λ f e. cc)
bad_or (sign.Operator n r) = inr (λ f e. cc)
bad_or sign.OpenParen = inr (λ f e. cc)
bad_or sign.CloseParen = inr (λ f e. cc)
bad_or sign.OpenBracket = inr (λ f e. cc)
bad_or sign.CloseBracket = inr (λ f e. cc)
bad_or sign.Bar = inr (λ f e. cc)
bad_or sign.Period = inr (λ f e. cc)
bad_or sign.Caret = inr (λ f e. cc)
bad_or sign.End = inr (λ f e. cc)
bad_or (sign.Bad z) = inl (z, refl)

pub unfailed : (l : Limits) (u : State) (x : Symbol) (b : Spot) (r' : ReadRefusal) → ((f : Fault) → x ≡ sign.Bad f → ⊥) → step l u x b ≡ Err r' → expected (is_expected u.wants x) (behind l u.counts x b (move l u.place x b)) ≡ Err r'
unfailed l u (sign.Integer z) b r' n' h = h
unfailed l u (sign.Text i j) b r' n' h = h
unfailed l u (sign.Name n t r) b r' n' h = h
unfailed l u (sign.Primitive n) b r' n' h = h
unfailed l u sign.Restart b r' n' h = h
unfailed l u (sign.Keyword n) b r' n' h = h
unfailed l u (sign.PrimitiveKeyword n y) b r' n' h = h
unfailed l u sign.RestartKeyword b r' n' h = h
unfailed l u (sign.CapitalKeyword n y) b r' n' h = h
unfailed l u (sign.Argument n t r) b r' n' h = h
unfailed l u (sign.Delegate n r) b r' n' h = h
unfailed l u (sign.Operator n r) b r' n' h = h
unfailed l u sign.OpenParen b r' n' h = h
unfailed l u sign.CloseParen b r' n' h = h
unfailed l u sign.OpenBracket b r' n' h = h
unfailed l u sign.CloseBracket b r' n' h = h
unfailed l u sign.Bar b r' n' h = h
unfailed l u sign.Period b r' n' h = h
unfailed l u sign.Caret b r' n' h = h
unfailed l u sign.End b r' n' h = h
unfailed l u (sign.Bad z) b r' n' h = absurd (n' z refl)

abbrev pub Refuse : ReadRefusal → Result State ReadRefusal
Refuse r = Err r

pub fault_is : (o : Option ReadRefusal) (u : State) (r : ReadRefusal) → unless o u ≡ Err r → o ≡ Some r
fault_is None u r h = cc
fault_is (Some e) u r h = cc

-- What a run refuses is wrong.
pub world_wrong : (l : Limits) (front : List Sign) (u : State) (x : Sign) (r : ReadRefusal) → run l world_start front ≡ Ok u → step l u x.symbol x.spot ≡ Err r → IsWrong g.World (s.world l) front x r
world_wrong l front u x r ran h =
    elim (bad_or x.symbol) [
      | inl y ↦ (let e : Refuse (record { kind = kind_of y.0; spot = x.spot }) ≡ Err r = sym (ap (λ z. step l u z x.spot) y.1) ∙ h in no_token y.0 y.1 (failed (record { kind = kind_of y.0; spot = x.spot }) r e))
      | inr n ↦ other n (is_expected u.wants x.symbol) refl (unfailed l u x.symbol x.spot r n h)
    ]
  where
    failed : (a b : ReadRefusal) → Refuse a ≡ Err b → b ≡ a
    failed a b e = cc

    only : (q : Spot) → is_expected u.wants x.symbol ≡ None → Expects (s.world l) front q → x.symbol ≡ sign.Bar
    only q is e = is_bar q x.symbol (subst (λ y. is_expected y x.symbol ≡ None) (expects_wants l front u q ran e) is)

    moved_on : ((f : Fault) → x.symbol ≡ sign.Bad f → ⊥) → is_expected u.wants x.symbol ≡ None → (o : Option Moves.Move) → move l u.place x.symbol x.spot ≡ o → behind l u.counts x.symbol x.spot o ≡ Err r →
        IsWrong g.World (s.world l) front x r
    moved_on n is None none e = no_text n (λ q ex. only q is ex) (no_world l u front x ran none) (failed (bad_syntax x.spot) r e)
    moved_on n is (Some m) some e =
        let fault = fault_is (mark_at l (m.pre u.counts) x.symbol x.spot m.event).fault _ r e in
        let reached = runs_on l [] front world_start u (world_reached l) ran in
        let c = closes l m.to in
        let y = as_world c.text (c.kind ∙ keeps l u.place x.symbol x.spot m some ∙ run_base l front world_start u ran) in
        let mark : Mark = mark_at l (m.pre u.counts) x.symbol x.spot m.event in
        rule n (λ q ex. only q is ex) (
          y.0,
          reached.written,
          c.rest (m.post (moved (m.pre u.counts) m.event)),
          mark,
          sym (ap (λ z. marks l z) y.1) ∙ sym c.law ∙ sym ((goes_on l u.place x.symbol x.spot m some).law c.rest)
              ∙ reached.says (λ d. write l x.symbol x.spot m.event (λ i. c.rest (m.post i)) (m.pre d)),
          reached.are,
          refl,
          fault,
        )

    other : ((f : Fault) → x.symbol ≡ sign.Bad f → ⊥) → (o : Option Spot) → is_expected u.wants x.symbol ≡ o → expected o (behind l u.counts x.symbol x.spot (move l u.place x.symbol x.spot)) ≡ Err r →
        IsWrong g.World (s.world l) front x r
    other n (Some q) is e =
        let w = no_bar_comes q u.wants x.symbol is in
        no_bar n q (world_expects l front u q ran w.0) w.1 (failed (bad_syntax q) r e)
    other n None is e = moved_on n is (move l u.place x.symbol x.spot) refl e
