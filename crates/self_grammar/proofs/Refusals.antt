-- A text is read, or refused in one way: what is refused is what the reader refuses, and the reader goes but one way.
use Rattle.std.specs.Prelude.{◌≡◌, ℕ, zero, suc, Option, None, Some, List, [], ◌∷◌, ◌++◌, Result, Ok, Err, take, drop, slice_get, ◌⊎◌, refl}
use Rattle.std.proofs.Common.{ap, sym, subst, ◌∙◌, inl, inr, append_assoc}
use Rattle.self_tokens.specs.declared.symbols.Fault.{Fault}
use Rattle.self_grammar.specs.declared.signs.Spot.{Spot}
use Rattle.self_grammar.specs.declared.signs.Symbol.{Symbol}
use Rattle.self_grammar.specs.declared.signs.Symbol.TheVariants as sign
use Rattle.self_grammar.specs.declared.signs.Sign.{Sign}
use Rattle.self_grammar.specs.declared.signs.ReadRefusal.{ReadRefusal}
use Rattle.self_grammar.specs.Grammar as g
use Rattle.self_grammar.specs.Counts.{Limits, Mark, Context, write, mark_at, moved}
use Rattle.self_grammar.specs.Refusal.{signs, AreSound, Expected, IsText, Begins, BeginsSoundly, Expects, last_next, kind_of, IsWrong, no_token, no_bar, no_text, rule, IsRefused, IsLast, IsEnded}
use Rattle.self_grammar.specs.Spelling as s
use Rattle.self_grammar.proofs.Places.{Lists, in_world, in_bars, in_object, Start, listed, lone, Contents, undecided, coded, Text, marks}
use Rattle.self_grammar.proofs.Places as p
use Rattle.self_grammar.proofs.Moves
use Rattle.self_grammar.proofs.SlotMoves as v
use Rattle.self_grammar.proofs.Bases.{base, is_edit, keeps}
use Rattle.self_grammar.proofs.Reading.{State, world_start, edit_start, move, goes_on, step, behind, unless, expected, is_expected}
use Rattle.self_grammar.proofs.Found.{Reached, world_reached, edit_reached, runs_on, run, then, unstep}
use Rattle.self_grammar.proofs.Closed.{closes}
use Rattle.self_grammar.proofs.Complete.{Follows}
use Rattle.self_grammar.proofs.SlotComplete.{world_reads, edit_reads}
use Rattle.self_grammar.proofs.Only.{Ends, world_is_read, edit_is_read}
use Rattle.self_grammar.proofs.Refused.{went_of, run_base, follows_wants, as_world, is_bar, no_bar_comes, unfailed, Refuse}
use Rattle.self_grammar.proofs.RefusedEdit.{as_edit}
use Rattle.self_grammar.proofs.Theorem as reader

-- The reader stops in these signs, with this refusal.
abbrev pub Stops : Limits → State → List Sign → ReadRefusal → Type 0
Stops l v given r = (front : List Sign) × (x : Sign) × (rest : List Sign) × (u : State) × (given ≡ front ++ x ∷ rest) × (run l v front ≡ Ok u) × (step l u x.symbol x.spot ≡ Err r)

-- what moves a place on is a token
is_token : (l : Limits) (q : Moves.Place) (f : Fault) (b : Spot) (m : Moves.Move) → move l q (sign.Bad f) b ≡ Some m → ⊥
is_token l (Moves.wanting h) f b m is = cc
is_token l (Moves.having h u) f b m is = cc
is_token l (Moves.delegated h d) f b m is = cc
is_token l (Moves.ended h ss q e d) f b m is = cc
is_token l (Moves.behind h j) f b m is = cc
is_token l (Moves.at_slot h) f b m is = cc
is_token l (Moves.named h w) f b m is = cc
is_token l (Moves.starred h w y) f b m is = cc
is_token l (Moves.operator_named h o) f b m is = cc
is_token l (Moves.operator_argued h o a) f b m is = cc
is_token l (Moves.keyword_named h n) f b m is = cc
is_token l (Moves.keyword_argued h n) f b m is = cc
is_token l (Moves.keyword_wanting h n q) f b m is = cc
is_token l (Moves.holding h) f b m is = cc
is_token l (Moves.data_wanted h) f b m is = cc
is_token l (Moves.opened h q) f b m is = cc
is_token l (Moves.data_opened h q) f b m is = cc
is_token l (Moves.shut h q d sl d2) f b m is = cc
is_token l (Moves.data_shut h q d sl d2) f b m is = cc
is_token l (Moves.member_done h j) f b m is = cc
is_token l (Moves.argument_done h w) f b m is = cc
is_token l (Moves.lone_stopped y e j d) f b m is = cc
is_token l (Moves.at_local h q d ws) f b m is = cc
is_token l (Moves.local_named h q d ws w) f b m is = cc
is_token l (Moves.local_equals h q d ws w e) f b m is = cc
is_token l (Moves.local_arrow h q d ws w e) f b m is = cc
is_token l (Moves.local_done h q d ws j) f b m is = cc
is_token l (Moves.finished t) f b m is = cc

-- a token's step
step_by : (l : Limits) (u : State) (x : Symbol) (b : Spot) → ((f : Fault) → x ≡ sign.Bad f → ⊥) → step l u x b ≡ expected (is_expected u.wants x) (behind l u.counts x b (move l u.place x b))
step_by l u x b n = met (step l u x b) refl
  where
    met : (o : Result State ReadRefusal) → step l u x b ≡ o → step l u x b ≡ expected (is_expected u.wants x) (behind l u.counts x b (move l u.place x b))
    met (Ok t) is = is ∙ sym (unstep l u x b t is)
    met (Err r) is = is ∙ sym (unfailed l u x b r n is)

-- where nothing else must come, by what move there is
step_of : (l : Limits) (u : State) (x : Symbol) (b : Spot) (o : Option Moves.Move) → ((f : Fault) → x ≡ sign.Bad f → ⊥) → is_expected u.wants x ≡ None → move l u.place x b ≡ o → step l u x b ≡ behind l u.counts x b o
step_of l u x b o n e is = step_by l u x b n ∙ ap (λ w. expected w (behind l u.counts x b (move l u.place x b))) e ∙ ap (λ w. behind l u.counts x b w) is

step_free : (l : Limits) (u : State) (x : Symbol) (b : Spot) (m : Moves.Move) → ((f : Fault) → x ≡ sign.Bad f → ⊥) → is_expected u.wants x ≡ None → move l u.place x b ≡ Some m → (mark_at l (m.pre u.counts) x b m.event).fault ≡ None →
    step l u x b ≡ Ok (record { place = m.to; counts = m.post (moved (m.pre u.counts) m.event); wants = m.event.next })
step_free l u x b m n e is f =
    step_of l u x b (Some m) n e is ∙ ap (λ o. unless o (record { place = m.to; counts = m.post (moved (m.pre u.counts) m.event); wants = m.event.next })) f

step_faulty : (l : Limits) (u : State) (x : Symbol) (b : Spot) (m : Moves.Move) (r : ReadRefusal) → ((f : Fault) → x ≡ sign.Bad f → ⊥) → is_expected u.wants x ≡ None → move l u.place x b ≡ Some m →
    (mark_at l (m.pre u.counts) x b m.event).fault ≡ Some r → step l u x b ≡ Err r
step_faulty l u x b m r n e is f =
    step_of l u x b (Some m) n e is ∙ ap (λ o. unless o (record { place = m.to; counts = m.post (moved (m.pre u.counts) m.event); wants = m.event.next })) f

-- A run, sign by sign.
run_one : (l : Limits) (v u : State) (x : Sign) (xs : List Sign) → step l v x.symbol x.spot ≡ Ok u → run l v (x ∷ xs) ≡ run l u xs
unfolding run
run_one l v u x xs e = ap (λ o. then o (λ t. run l t xs)) e

run_ends : (l : Limits) (v : State) (x : Sign) (xs : List Sign) (r : ReadRefusal) → step l v x.symbol x.spot ≡ Err r → run l v (x ∷ xs) ≡ Err r
unfolding run
run_ends l v x xs r e = ap (λ o. then o (λ t. run l t xs)) e

-- where the reader stops, its whole run is that refusal
run_stops : (l : Limits) (front : List Sign) (x : Sign) (rest : List Sign) (v u : State) (r : ReadRefusal) → run l v front ≡ Ok u → step l u x.symbol x.spot ≡ Err r → run l v (front ++ x ∷ rest) ≡ Err r
unfolding run
run_stops l [] x rest v u r ran e = let same : v ≡ u = cc in run_ends l v x rest r (subst (λ (y : State). step l y x.symbol x.spot ≡ Err r) (sym same) e)
run_stops l (y ∷ ys) x rest v u r ran e = met (step l v y.symbol y.spot) refl ran (λ n h. run_stops l ys x rest n u r h e)
  where
    met : (o : Result State ReadRefusal) → step l v y.symbol y.spot ≡ o → then o (λ n. run l n ys) ≡ Ok u → ((n : State) → run l n ys ≡ Ok u → run l n (ys ++ x ∷ rest) ≡ Err r) → run l v (y ∷ (ys ++ x ∷ rest)) ≡ Err r
    met (Err q) is h go = cc
    met (Ok n) is h go = run_one l v n y (ys ++ x ∷ rest) is ∙ go n h

-- A front with nothing wrong is read.
record Along (l : Limits) (v : State) (ms : List Mark) : Type 0 where
  pub state : State
  pub ran : run l v (signs ms) ≡ Ok state
  pub wants : last_next v.wants ms ≡ state.wants

comes : (o : Option Spot) (m : Mark) (ms : List Mark) → Expected o (m ∷ ms) → is_expected o m.sign.symbol ≡ None
comes None m ms e = refl
comes (Some q) m ms e = ap (λ x. is_expected (Some q) x) e

along : (l : Limits) (t : Text) (ms rest : List Mark) (v : State) → Follows l t v.place v.counts (ms ++ rest) → AreSound ms → Expected v.wants ms → Along l v ms
unfolding run
along l t [] rest v f a e = record { state = v; ran = refl; wants = refl }
along l t (m ∷ ms) rest v f a e =
    let next : State = record { place = f.0.to; counts = f.0.post (moved (f.0.pre v.counts) f.0.event); wants = f.0.event.next } in
    let wants : f.0.event.next ≡ m.next = ap (λ (y : Mark). y.next) f.2 in
    let free : (mark_at l (f.0.pre v.counts) m.sign.symbol m.sign.spot f.0.event).fault ≡ None = ap (λ (y : Mark). y.fault) f.2 ∙ a.0 in
    let token : (z : Fault) → m.sign.symbol ≡ sign.Bad z → ⊥ = λ z bad. is_token l v.place z m.sign.spot f.0 (subst (λ y. move l v.place y m.sign.spot ≡ Some f.0) bad f.1) in
    let went : step l v m.sign.symbol m.sign.spot ≡ Ok next = step_free l v m.sign.symbol m.sign.spot f.0 token (comes v.wants m ms e) f.1 free in
    let more = along l t ms rest next f.3 a.2 (subst (λ o. Expected o ms) (sym wants) a.1) in
    record { state = more.state; ran = run_one l v next m.sign (signs ms) went ∙ more.ran; wants = ap (λ o. last_next o ms) (sym wants) ∙ more.wants }

-- What is left of a text behind a front that was read is followed from there.
follows_on : (l : Limits) (t : Text) (ms rest : List Mark) (v u : State) → Follows l t v.place v.counts (ms ++ rest) → run l v (signs ms) ≡ Ok u → Follows l t u.place u.counts rest
unfolding run
follows_on l t [] rest v u f h = let same : v ≡ u = cc in subst (λ (y : State). Follows l t y.place y.counts rest) same f
follows_on l t (m ∷ ms) rest v u f h = met (step l v m.sign.symbol m.sign.spot) refl h (λ n g' e. follows_on l t ms rest n u g' e)
  where
    met : (o : Result State ReadRefusal) → step l v m.sign.symbol m.sign.spot ≡ o → then o (λ n. run l n (signs ms)) ≡ Ok u →
        ((n : State) → Follows l t n.place n.counts (ms ++ rest) → run l n (signs ms) ≡ Ok u → Follows l t u.place u.counts rest) → Follows l t u.place u.counts rest
    met (Err e) is h' go = cc
    met (Ok n) is h' go =
        let w = went_of l v n m.sign.symbol m.sign.spot is in
        let same : w.by ≡ f.0 = one w.by f.0 (sym w.moves ∙ f.1) in
        let to : record { place = f.0.to; counts = f.0.post (moved (f.0.pre v.counts) f.0.event); wants = f.0.event.next } ≡ n =
        subst (λ (y : Moves.Move). record { place = y.to; counts = y.post (moved (y.pre v.counts) y.event); wants = y.event.next } ≡ n) same w.to in
        go n (subst (λ (y : State). Follows l t y.place y.counts (ms ++ rest)) to f.3) h'
      where
        one : (a b : Moves.Move) → Some a ≡ Some b → a ≡ b
        one a b e = cc

-- A kind of text: each is followed from the start, and what the grammar lets go on begins one.
record Kind (l : Limits) (T : Type 0) (marks_of : T → List Mark) (start : State) : Type 0 where
  pub text : T → Text
  pub reads : (x : T) → Follows l (text x) start.place start.counts (marks_of x)
  pub free : start.wants ≡ None
  pub begins : (front : List Sign) (u : State) (x : Sign) (m : Moves.Move) → run l start front ≡ Ok u → move l u.place x.symbol x.spot ≡ Some m → Begins marks_of (front ++ x ∷ [])

signs_join : (xs ys : List Mark) → signs (xs ++ ys) ≡ signs xs ++ signs ys
signs_join [] ys = refl
signs_join (x ∷ xs) ys = ap (λ zs. x.sign ∷ zs) (signs_join xs ys)

-- some text, of the kind of the place
record Goes (l : Limits) (front : List Sign) (q : Moves.Place) : Type 0 where
  pub text : Text
  pub rest : List Sign
  pub law : signs (marks l text) ≡ front ++ rest
  pub kind : is_edit text ≡ base q

goes_of : (l : Limits) (front : List Sign) (u : State) (x : Sign) (m : Moves.Move) → Reached l front u → move l u.place x.symbol x.spot ≡ Some m → Goes l (front ++ x ∷ []) u.place
goes_of l front u x m r is =
    let c = closes l m.to in
    let mark : Mark = mark_at l (m.pre u.counts) x.symbol x.spot m.event in
    let more : List Mark = c.rest (m.post (moved (m.pre u.counts) m.event)) in
    let law : marks l c.text ≡ r.written ++ mark ∷ more =
    sym c.law ∙ sym ((goes_on l u.place x.symbol x.spot m is).law c.rest) ∙ r.says (λ d. write l x.symbol x.spot m.event (λ i. c.rest (m.post i)) (m.pre d)) in
    record {
      text = c.text;
      rest = signs more;
      law = ap signs law ∙ signs_join r.written (mark ∷ more) ∙ ap (λ y. y ++ x ∷ signs more) r.are ∙ sym (append_assoc front (x ∷ []) (signs more));
      kind = c.kind ∙ keeps l u.place x.symbol x.spot m is;
    }

world_kind : (l : Limits) → Kind l g.World (s.world l) world_start
world_kind l = record {
  text = p.world;
  reads = world_reads l;
  free = refl;
  begins = λ front u x m ran is.
      let b = goes_of l front u x m (runs_on l [] front world_start u (world_reached l) ran) is in
      let y = as_world b.text (b.kind ∙ run_base l front world_start u ran) in
      (y.0, b.rest, subst (λ t. signs (marks l t) ≡ (front ++ x ∷ []) ++ b.rest) y.1 b.law);
}

edit_kind : (l : Limits) → Kind l g.Edit (s.edit l) edit_start
edit_kind l = record {
  text = p.edit;
  reads = edit_reads l;
  free = refl;
  begins = λ front u x m ran is.
      let b = goes_of l front u x m (runs_on l [] front edit_start u (edit_reached l) ran) is in
      let y = as_edit b.text (b.kind ∙ run_base l front edit_start u ran) in
      (y.0, b.rest, subst (λ t. signs (marks l t) ≡ (front ++ x ∷ []) ++ b.rest) y.1 b.law);
}

-- what must come next behind a front that was read
wants_of : (l : Limits) (T : Type 0) (marks_of : T → List Mark) (start : State) → Kind l T marks_of start → (front : List Sign) (u : State) (q : Spot) → run l start front ≡ Ok u → Expects marks_of front q → u.wants ≡ Some q
wants_of l T marks_of start k front u q ran e =
    let f = subst (λ y. Follows l (k.text e.0) start.place start.counts y) e.3 (k.reads e.0) in
    let same = follows_wants l (k.text e.0) e.1 e.2 start u f (subst (λ y. run l start y ≡ Ok u) (sym e.4) ran) in
    sym (subst (λ o. last_next o e.1 ≡ u.wants) k.free same) ∙ e.5

-- A sound front is read, and what must come next behind it is known of it.
record Read (l : Limits) (T : Type 0) (marks_of : T → List Mark) (start : State) (front : List Sign) : Type 0 where
  pub state : State
  pub ran : run l start front ≡ Ok state
  pub expects : (q : Spot) → state.wants ≡ Some q → Expects marks_of front q

read_front : (l : Limits) (T : Type 0) (marks_of : T → List Mark) (start : State) → Kind l T marks_of start → (front : List Sign) → BeginsSoundly marks_of front → Read l T marks_of start front
read_front l T marks_of start k front b =
    let f = subst (λ y. Follows l (k.text b.0) start.place start.counts y) b.3 (k.reads b.0) in
    let a = along l (k.text b.0) b.1 b.2 start f b.5 (subst (λ o. Expected o b.1) (sym k.free) tt) in
    record {
      state = a.state;
      ran = subst (λ y. run l start y ≡ Ok a.state) b.4 a.ran;
      expects = λ q e. (b.0, b.1, b.2, b.3, b.4, subst (λ o. last_next o b.1 ≡ a.state.wants) k.free a.wants ∙ e);
    }

-- no bar comes where one must
unmet : (q : Spot) (x : Symbol) → (x ≡ sign.Bar → ⊥) → is_expected (Some q) x ≡ Some q
unmet q x n = met (is_expected (Some q) x) refl
  where
    met : (o : Option Spot) → is_expected (Some q) x ≡ o → is_expected (Some q) x ≡ Some q
    met None is = absurd (n (is_bar q x is))
    met (Some y) is = is ∙ sym (no_bar_comes y (Some q) x is).0

-- nothing must come, or it comes
met_by : (o : Option Spot) (x : Symbol) → ((q : Spot) → o ≡ Some q → x ≡ sign.Bar) → is_expected o x ≡ None
met_by None x h = refl
met_by (Some q) x h = ap (λ y. is_expected (Some q) y) (h q refl)

-- What is wrong with a sign is what the reader refuses it for.
refuses : (l : Limits) (T : Type 0) (marks_of : T → List Mark) (start : State) → Kind l T marks_of start → (front : List Sign) (x : Sign) (r : ReadRefusal) (d : Read l T marks_of start front) →
    IsWrong T marks_of front x r → step l d.state x.symbol x.spot ≡ Err r
refuses l T marks_of start k front x r d (no_token f e is) = ap (λ y. step l d.state y x.spot) e ∙ ap Refuse (sym is)
refuses l T marks_of start k front x r d (no_bar n q e other is) =
    step_by l d.state x.symbol x.spot n
    ∙ ap (λ o. expected o (behind l d.state.counts x.symbol x.spot (move l d.state.place x.symbol x.spot)))
    (ap (λ o. is_expected o x.symbol) (wants_of l T marks_of start k front d.state q d.ran e) ∙ unmet q x.symbol other)
    ∙ ap Refuse (sym is)
refuses l T marks_of start k front x r d (no_text n only none is) = stuck (move l d.state.place x.symbol x.spot) refl
  where
    stuck : (o : Option Moves.Move) → move l d.state.place x.symbol x.spot ≡ o → step l d.state x.symbol x.spot ≡ Err r
    stuck None e = step_of l d.state x.symbol x.spot None n (met_by d.state.wants x.symbol (λ q w. only q (d.expects q w))) e ∙ ap Refuse (sym is)
    stuck (Some m) e = absurd (none (k.begins front d.state x m d.ran e))
refuses l T marks_of start k front x r d (rule n only h) =
    let f = follows_on l (k.text h.0) h.1 (h.3 ∷ h.2) start d.state (subst (λ y. Follows l (k.text h.0) start.place start.counts y) h.4 (k.reads h.0)) (subst (λ y. run l start y ≡ Ok d.state) (sym h.5) d.ran) in
    let goes : move l d.state.place x.symbol x.spot ≡ Some f.0 = subst (λ (y : Sign). move l d.state.place y.symbol y.spot ≡ Some f.0) h.6 f.1 in
    let mark : mark_at l (f.0.pre d.state.counts) x.symbol x.spot f.0.event ≡ h.3 = subst (λ (y : Sign). mark_at l (f.0.pre d.state.counts) y.symbol y.spot f.0.event ≡ h.3) h.6 f.2 in
    let fault : (mark_at l (f.0.pre d.state.counts) x.symbol x.spot f.0.event).fault ≡ Some r = ap (λ (y : Mark). y.fault) mark ∙ h.7 in
    step_faulty l d.state x.symbol x.spot f.0 r n (met_by d.state.wants x.symbol (λ q w. only q (d.expects q w))) goes fault

splits : (given : List Sign) (i : ℕ) (x : Sign) → slice_get given i ≡ Some x → given ≡ take i given ++ x ∷ drop (suc i) given
splits [] i x e = cc
splits (y ∷ ys) zero x e = let same : y ≡ x = cc in ap (λ z. z ∷ ys) same
splits (y ∷ ys) (suc i) x e = ap (λ zs. y ∷ zs) (splits ys i x e)

-- What is refused, as a text of any kind, is what the reader stops with.
stops_at : (l : Limits) (T : Type 0) (marks_of : T → List Mark) (start : State) → Kind l T marks_of start → (given : List Sign) (r : ReadRefusal) → IsRefused T marks_of given r → Stops l start given r
stops_at l T marks_of start k given r h =
    let d = read_front l T marks_of start k (take h.index given) h.before in
    (take h.index given, h.at, drop (suc h.index) given, d.state, splits given h.index h.at h.met, d.ran, refuses l T marks_of start k (take h.index given) h.at r d h.wrong)

-- The refusal of a world is the reader's,
pub world_refusal : (l : Limits) (given : List Sign) (r : ReadRefusal) → IsRefused g.World (s.world l) given r → Stops l world_start given r
world_refusal l given r h = stops_at l g.World (s.world l) world_start (world_kind l) given r h

-- and that of an edit.
pub edit_refusal : (l : Limits) (given : List Sign) (r : ReadRefusal) → IsRefused g.Edit (s.edit l) given r → Stops l edit_start given r
edit_refusal l given r h = stops_at l g.Edit (s.edit l) edit_start (edit_kind l) given r h

-- The whole run of what the reader stops in.
run_of : (l : Limits) (v : State) (given : List Sign) (r : ReadRefusal) → Stops l v given r → run l v given ≡ Err r
run_of l v given r h = ap (λ y. run l v y) h.4 ∙ run_stops l h.0 h.1 h.2 v h.3 r h.5 h.6

one_refusal : (l : Limits) (v : State) (given : List Sign) (a b : ReadRefusal) → Stops l v given a → Stops l v given b → a ≡ b
one_refusal l v given a b x y = errs a b (sym (run_of l v given a x) ∙ run_of l v given b y)
  where
    errs : (a b : ReadRefusal) → Refuse a ≡ Err b → a ≡ b
    errs a b e = cc

never_both : (l : Limits) (v : State) (given : List Sign) (r : ReadRefusal) (t : Text) → Stops l v given r → Ends l v given t → ⊥
never_both l v given r t h e = apart r e.state (sym (run_of l v given r h) ∙ e.ran)
  where
    apart : (r : ReadRefusal) (u : State) → Refuse r ≡ Ok u → ⊥
    apart r u e = cc

-- Signs are refused as a world for one thing at most,
pub one_world_refusal : (l : Limits) (given : List Sign) (a b : ReadRefusal) → IsRefused g.World (s.world l) given a → IsRefused g.World (s.world l) given b → a ≡ b
one_world_refusal l given a b x y = one_refusal l world_start given a b (world_refusal l given a x) (world_refusal l given b y)

-- and as an edit.
pub one_edit_refusal : (l : Limits) (given : List Sign) (a b : ReadRefusal) → IsRefused g.Edit (s.edit l) given a → IsRefused g.Edit (s.edit l) given b → a ≡ b
one_edit_refusal l given a b x y = one_refusal l edit_start given a b (edit_refusal l given a x) (edit_refusal l given b y)

-- What is refused is no world,
pub refused_is_no_world : (l : Limits) (given : List Sign) (r : ReadRefusal) → IsRefused g.World (s.world l) given r → (w : g.World) → IsText (s.world l) given w → ⊥
refused_is_no_world l given r h w t = never_both l world_start given r (p.world w) (world_refusal l given r h) (world_is_read l given w t)

-- and no edit.
pub refused_is_no_edit : (l : Limits) (given : List Sign) (r : ReadRefusal) → IsRefused g.Edit (s.edit l) given r → (w : g.Edit) → IsText (s.edit l) given w → ⊥
refused_is_no_edit l given r h w t = never_both l edit_start given r (p.edit w) (edit_refusal l given r h) (edit_is_read l given w t)

-- The end finishes a text.
abbrev Finishes : Moves.Move → Type 0
Finishes m = (t : Text) × (m.to ≡ Moves.finished t)

finishes : (a m : Moves.Move) (t : Text) → Some a ≡ Some m → a.to ≡ Moves.finished t → Finishes m
finishes a m t e h = let same : a ≡ m = cc in (t, subst (λ (y : Moves.Move). y.to ≡ Moves.finished t) same h)

done_finishes : (l : Limits) (h : Lists) (y : g.Slot) (pre : Context → Context) (b : Spot) (m : Moves.Move) → v.done_move l h y pre v.end b ≡ Some m → Finishes m
done_finishes l (in_world ms) (g.member y) pre b m is = finishes _ m _ is refl
done_finishes l (in_world ms) (g.argument w) pre b m is = cc
done_finishes l (in_bars h q d ss) y pre b m is = cc
done_finishes l (in_object h q d ss) y pre b m is = cc

list_finishes : (l : Limits) (h : Start) (b : Spot) (m : Moves.Move) → v.list_end l h v.end b ≡ Some m → Finishes m
list_finishes l (listed (in_world ms)) b m is = finishes _ m _ is refl
list_finishes l (listed (in_bars h q d ss)) b m is = cc
list_finishes l (listed (in_object h q d ss)) b m is = cc
list_finishes l lone b m is = cc

bare_finishes : (l : Limits) (h : Start) (w : g.Label) (b : Spot) (m : Moves.Move) → v.bare_move l h w v.end b ≡ Some m → Finishes m
bare_finishes l (listed h) w b m is = done_finishes l h (g.member (g.bare w)) _ b m is
bare_finishes l lone w b m is = cc

method_finishes : (l : Limits) (h : Contents) (f : g.Method) (b : Spot) (m : Moves.Move) → v.method_done l h f v.end b ≡ Some m → Finishes m
method_finishes l (undecided h w e) f b m is = done_finishes l h (g.member (g.coded (g.method (g.unary_head w) e f))) Moves.stay b m is
method_finishes l (coded (listed h) y e) f b m is = done_finishes l h (g.member (g.coded (g.method y e f))) Moves.stay b m is
method_finishes l (coded lone y e) f b m is = finishes _ m _ is refl

end_finishes : (l : Limits) (q : Moves.Place) (b : Spot) (m : Moves.Move) → move l q sign.End b ≡ Some m → Finishes m
end_finishes l (Moves.wanting h) b m is = cc
end_finishes l (Moves.having h u) b m is = cc
end_finishes l (Moves.delegated h d) b m is = cc
end_finishes l (Moves.ended h ss q e d) b m is = cc
end_finishes l (Moves.behind h f) b m is = method_finishes l h f b m is
end_finishes l (Moves.at_slot h) b m is = list_finishes l h b m is
end_finishes l (Moves.named h w) b m is = bare_finishes l h w b m is
end_finishes l (Moves.starred h w y) b m is = cc
end_finishes l (Moves.operator_named h o) b m is = cc
end_finishes l (Moves.operator_argued h o a) b m is = cc
end_finishes l (Moves.keyword_named h n) b m is = cc
end_finishes l (Moves.keyword_argued h n) b m is = cc
end_finishes l (Moves.keyword_wanting h n q) b m is = cc
end_finishes l (Moves.holding h) b m is = cc
end_finishes l (Moves.data_wanted h) b m is = cc
end_finishes l (Moves.opened h q) b m is = cc
end_finishes l (Moves.data_opened h q) b m is = cc
end_finishes l (Moves.shut h q d sl d2) b m is = cc
end_finishes l (Moves.data_shut h q d sl d2) b m is = cc
end_finishes l (Moves.member_done h f) b m is = done_finishes l h (g.member f) Moves.stay b m is
end_finishes l (Moves.argument_done h w) b m is = done_finishes l h (g.argument w) Moves.stay b m is
end_finishes l (Moves.lone_stopped y e f d) b m is = finishes _ m _ is refl
end_finishes l (Moves.at_local h q d ws) b m is = cc
end_finishes l (Moves.local_named h q d ws w) b m is = cc
end_finishes l (Moves.local_equals h q d ws w e) b m is = cc
end_finishes l (Moves.local_arrow h q d ws w e) b m is = cc
end_finishes l (Moves.local_done h q d ws f) b m is = cc
end_finishes l (Moves.finished t) b m is = cc

last_ends : (l : Limits) (v u : State) (x : Symbol) (b : Spot) → IsLast x → step l v x b ≡ Ok u → (t : Text) × (u.place ≡ Moves.finished t)
last_ends l v u x b c is =
    elim c [
      | inl e ↦ (let w = went_of l v u sign.End b (sym (ap (λ y. step l v y b) e) ∙ is) in
          let f = end_finishes l v.place b w.by w.moves in
          (f.0, ap (λ (y : State). y.place) (sym w.to) ∙ f.1))
      | inr e ↦ absurd (failed (record { kind = kind_of e.0; spot = b }) u (sym (ap (λ y. step l v y b) e.1) ∙ is))
    ]
  where
    failed : (r : ReadRefusal) (t : State) → Refuse r ≡ Ok t → ⊥
    failed r t h = cc

-- The reader comes to the end of closed signs, or stops in them.
abbrev Outcome : Limits → State → List Sign → Type 0
Outcome l v given = ((t : Text) × Ends l v given t) ⊎ ((r : ReadRefusal) × Stops l v given r)

ends_or_stops : (l : Limits) (given : List Sign) (v : State) → IsEnded given → Outcome l v given
unfolding run
ends_or_stops l [] v c = absurd c
ends_or_stops l (x ∷ []) v c = met (step l v x.symbol x.spot) refl
  where
    met : (o : Result State ReadRefusal) → step l v x.symbol x.spot ≡ o → Outcome l v (x ∷ [])
    met (Err r) is = inr (r, ([], x, [], v, refl, refl, is))
    met (Ok u) is =
        let f = last_ends l v u x.symbol x.spot c is in
        inl (f.0, record { state = u; ran = run_one l v u x [] is; at = f.1 })
ends_or_stops l (x ∷ y ∷ ys) v c = met (step l v x.symbol x.spot) refl (λ u. ends_or_stops l (y ∷ ys) u c)
  where
    met : (o : Result State ReadRefusal) → step l v x.symbol x.spot ≡ o → ((u : State) → Outcome l u (y ∷ ys)) → Outcome l v (x ∷ y ∷ ys)
    met (Err r) is go = inr (r, ([], x, y ∷ ys, v, refl, refl, is))
    met (Ok u) is go =
        elim (go u) [
          | inl e ↦ inl (e.0, record { state = e.1.state; ran = run_one l v u x (y ∷ ys) is ∙ e.1.ran; at = e.1.at })
          | inr h ↦ inr (h.0, (x ∷ h.1.0, h.1.1, h.1.2, h.1.3, ap (λ zs. x ∷ zs) h.1.4, run_one l v u x h.1.0 is ∙ h.1.5, h.1.6))
        ]

-- Closed signs are a world or refused as one,
pub world_or_refusal : (l : Limits) (given : List Sign) → IsEnded given → ((w : g.World) × IsText (s.world l) given w) ⊎ ((r : ReadRefusal) × IsRefused g.World (s.world l) given r)
world_or_refusal l given c =
    elim (ends_or_stops l given world_start c) [
      | inl e ↦ inl (reader.world_found l given e.1.state e.0 e.1.ran e.1.at)
      | inr h ↦ inr (h.0, subst (λ y. IsRefused g.World (s.world l) y h.0) (sym h.1.4) (reader.world_refused l h.1.0 h.1.1 h.1.2 h.1.3 h.0 h.1.5 h.1.6))
    ]

-- and an edit or refused as one.
pub edit_or_refusal : (l : Limits) (given : List Sign) → IsEnded given → ((e : g.Edit) × IsText (s.edit l) given e) ⊎ ((r : ReadRefusal) × IsRefused g.Edit (s.edit l) given r)
edit_or_refusal l given c =
    elim (ends_or_stops l given edit_start c) [
      | inl e ↦ inl (reader.edit_found l given e.1.state e.0 e.1.ran e.1.at)
      | inr h ↦ inr (h.0, subst (λ y. IsRefused g.Edit (s.edit l) y h.0) (sym h.1.4) (reader.edit_refused l h.1.0 h.1.1 h.1.2 h.1.3 h.0 h.1.5 h.1.6))
    ]
