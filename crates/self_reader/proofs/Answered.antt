-- What the reader answers of the signs of a text is what the grammar says of them: its items, or the refusal.
use Rattle.std.specs.Prelude.{◌≡◌, Result, Ok, Err, IfOk, List, [], ◌∷◌, ◌++◌, refl}
use Rattle.std.proofs.Common.{ap, sym, subst, ◌∙◌, append_assoc}
use Rattle.self_grammar.specs.declared.signs.Spot.{Spot}
use Rattle.self_grammar.specs.declared.signs.Symbol.{Symbol}
use Rattle.self_grammar.specs.declared.signs.Sign.{Sign}
use Rattle.self_grammar.specs.declared.signs.ReadRefusal.{ReadRefusal}
use Rattle.self_grammar.specs.declared.pieces.Item.{Item}
use Rattle.self_grammar.specs.Grammar as g
use Rattle.self_grammar.specs.Counts.{Limits, Mark, Writer, write, mark_at, moved}
use Rattle.self_grammar.specs.Refusal.{IsText, IsRefused}
use Rattle.self_grammar.specs.Spelling.{items_of}
use Rattle.self_grammar.specs.Spelling as s
use Rattle.self_grammar.proofs.Places.{Text, marks}
use Rattle.self_grammar.proofs.Places as p
use Rattle.self_grammar.proofs.Moves
use Rattle.self_grammar.proofs.Bases.{base}
use Rattle.self_grammar.proofs.Reading.{State, world_start, edit_start, goes_on, step}
use Rattle.self_grammar.proofs.Found.{Reached, world_reached, edit_reached, run, runs_on, text_marks, is_text}
use Rattle.self_grammar.proofs.Found as found
use Rattle.self_grammar.proofs.Only.{Ends, world_is_read, edit_is_read}
use Rattle.self_grammar.proofs.Refused.{went_of, run_base, as_world}
use Rattle.self_grammar.proofs.RefusedEdit.{as_edit}
use Rattle.self_grammar.proofs.Theorem.{world_refused, edit_refused}
use Rattle.self_reader.specs.declared.reading.Reader.{Reader}
use Rattle.self_reader.specs.Reading.{fed, said_at, behind, then, all_said, Answers, before_world, before_edit}
use Rattle.self_reader.specs.declared.stops.ReadStop.{ReadStop}
use Rattle.self_reader.specs.declared.stops.ReadStop.TheVariants as stops
use Rattle.self_reader.specs.Texts.{IsWhole, AreRead, IsAnswered, IsRightlyRefused}
use Rattle.self_reader.proofs.Stepping.{Shows, Matches, step_matches, said_is}
use Rattle.self_reader.proofs.Ending.{whole_finishes}

no_more : {A : Type 0} (xs : List A) → xs ++ [] ≡ xs
no_more [] = refl
no_more (x ∷ xs) = ap (λ ys. x ∷ ys) (no_more xs)

items_push : (ms : List Mark) (m : Mark) → items_of (ms ++ m ∷ []) ≡ items_of ms ++ m.items
items_push [] m = no_more m.items
items_push (x ∷ xs) m = ap (λ is. x.items ++ is) (items_push xs m) ∙ sym (append_assoc x.items (items_of xs) m.items)

-- These items are those of the marks before a state.
pub record Said (l : Limits) (u : State) (said : List Item) : Type 0 where
  pub written : List Mark
  pub says : (k : Writer) → Moves.before l u.place k ≡ written ++ k u.counts
  pub items : said ≡ items_of written

says_on : (l : Limits) (r : Reader) (u v : State) (x : Symbol) (b : Spot) (said : List Item) → Shows l r u → Said l u said → step l u x b ≡ Ok v → Said l v (said ++ said_at l r x b)
says_on l r u v x b said shows d e =
    let w = went_of l u v x b e in
    let m : Mark = mark_at l (w.by.pre u.counts) x b w.by.event in
    let next : State = record { place = w.by.to; counts = w.by.post (moved (w.by.pre u.counts) w.by.event); wants = w.by.event.next } in
    let here : Said l next (said ++ said_at l r x b) = record {
      written = d.written ++ m ∷ [];
      says = λ k.
          sym ((goes_on l u.place x b w.by w.moves).law k)
          ∙ d.says (λ c. write l x b w.by.event (λ y. k (w.by.post y)) (w.by.pre c))
          ∙ sym (append_assoc d.written (m ∷ []) (k (w.by.post (moved (w.by.pre u.counts) w.by.event))));
      items =
          ap (λ is. is ++ said_at l r x b) d.items
          ∙ ap (λ is. items_of d.written ++ is) (said_is l r u x b w.by shows w.moves)
          ∙ sym (items_push d.written m);
    } in
    subst (λ (y : State). Said l y (said ++ said_at l r x b)) w.to here

run_push : (l : Limits) (start u v : State) (front : List Sign) (x : Sign) → run l start front ≡ Ok u → step l u x.symbol x.spot ≡ Ok v → run l start (front ++ x ∷ []) ≡ Ok v
unfolding run
run_push l start u v [] x h e = let same : start ≡ u = cc in rw (same, e) refl
run_push l start u v (y ∷ ys) x h e = met (step l start y.symbol y.spot) h (λ n f. run_push l n u v ys x f e)
  where
    met : (o : Result State ReadRefusal) → found.then o (λ n. run l n ys) ≡ Ok u → ((n : State) → run l n ys ≡ Ok u → run l n (ys ++ x ∷ []) ≡ Ok v) → found.then o (λ n. run l n (ys ++ x ∷ [])) ≡ Ok v
    met (Err f) h' go = cc
    met (Ok n) h' go = go n h'

run_stops : (l : Limits) (start u : State) (front rest : List Sign) (x : Sign) (r : ReadRefusal) → run l start front ≡ Ok u → step l u x.symbol x.spot ≡ Err r → run l start (front ++ x ∷ rest) ≡ Err r
unfolding run
run_stops l start u [] rest x r h e = let same : start ≡ u = cc in rw (same, e) refl
run_stops l start u (y ∷ ys) rest x r h e = met (step l start y.symbol y.spot) h (λ n f. run_stops l n u ys rest x r f e)
  where
    met : (o : Result State ReadRefusal) → found.then o (λ n. run l n ys) ≡ Ok u → ((n : State) → run l n ys ≡ Ok u → run l n (ys ++ x ∷ rest) ≡ Err r) → found.then o (λ n. run l n (ys ++ x ∷ rest)) ≡ Err r
    met (Err f) h' go = cc
    met (Ok n) h' go = go n h'

-- All signs are read, and this is said at them,
pub record ReadOn (l : Limits) (start : State) (given : List Sign) (said : List Item) : Type 0 where
  pub state : State
  pub ran : run l start given ≡ Ok state
  pub says : Said l state said

-- or one is refused.
pub record Stopped (l : Limits) (start : State) (given : List Sign) (r : ReadRefusal) : Type 0 where
  pub front : List Sign
  pub sign : Sign
  pub rest : List Sign
  pub state : State
  pub are : front ++ sign ∷ rest ≡ given
  pub ran : run l start front ≡ Ok state
  pub refused : step l state sign.symbol sign.spot ≡ Err r

abbrev pub Outcome : Limits → State → List Sign → List Item → Result (List Item) ReadRefusal → Type 0
Outcome l start given said (Ok js) = ReadOn l start given (said ++ js)
Outcome l start given said (Err r) = Stopped l start given r

outcome_behind : (l : Limits) (start : State) (given : List Sign) (said is : List Item) (y : Result (List Item) ReadRefusal) → Outcome l start given (said ++ is) y → Outcome l start given said (behind is y)
outcome_behind l start given said is (Ok js) o = subst (λ ks. ReadOn l start given ks) (append_assoc said is js) o
outcome_behind l start given said is (Err r) o = o

along : (l : Limits) (start : State) (front more : List Sign) (r : Reader) (u : State) (said : List Item) → run l start front ≡ Ok u → Shows l r u → Said l u said →
    Outcome l start (front ++ more) said (all_said l r more)
unfolding all_said
along l start front [] r u said ran shows d = record {
  state = u;
  ran = subst (λ xs. run l start xs ≡ Ok u) (sym (no_more front)) ran;
  says = subst (λ is. Said l u is) (sym (no_more said)) d;
}
along l start front (x ∷ xs) r u said ran shows d =
    met (fed l r x.symbol x.spot) (step l u x.symbol x.spot) (step_matches l r u x.symbol x.spot shows) refl
    (λ q v e f. along l start (front ++ x ∷ []) xs q v (said ++ said_at l r x.symbol x.spot) (run_push l start u v front x ran e) f (says_on l r u v x.symbol x.spot said shows d e))
  where
    met : (y : Result Reader ReadRefusal) (z : Result State ReadRefusal) → Matches l y z → step l u x.symbol x.spot ≡ z →
        ((q : Reader) (v : State) → step l u x.symbol x.spot ≡ Ok v → Shows l q v → Outcome l start ((front ++ x ∷ []) ++ xs) (said ++ said_at l r x.symbol x.spot) (all_said l q xs)) →
        Outcome l start (front ++ x ∷ xs) said (then y (λ q. behind (said_at l r x.symbol x.spot) (all_said l q xs)))
    met (Ok q) (Ok v) h is go =
        outcome_behind l start (front ++ x ∷ xs) said (said_at l r x.symbol x.spot) (all_said l q xs)
        (subst (λ ys. Outcome l start ys (said ++ said_at l r x.symbol x.spot) (all_said l q xs)) (append_assoc front (x ∷ []) xs) (go q v is h))
    met (Ok q) (Err f) h is go = absurd h
    met (Err e) (Ok v) h is go = absurd h
    met (Err e) (Err f) h is go = record { front = front; sign = x; rest = xs; state = u; are = refl; ran = ran; refused = is ∙ ap Err (sym h) }

-- What is read whole is a text, and its items are said.
record ReadText (l : Limits) (start : State) (given : List Sign) (items : List Item) : Type 0 where
  text : Text
  kind : base (Moves.finished text) ≡ base start.place
  spelled : IsText (marks l) given text
  said : items ≡ items_of (marks l text)

written_is : (l : Limits) (u : State) (t : Text) (said : List Item) → Said l u said → u.place ≡ Moves.finished t → said ≡ items_of (marks l t)
written_is l u t said d e =
    let same : marks l t ≡ d.written = sym (text_marks l t) ∙ ap (λ q. Moves.before l q (λ c. [])) (sym e) ∙ d.says (λ c. []) ∙ no_more d.written in
    d.items ∙ ap items_of (sym same)

read_text : (l : Limits) (start : State) (given : List Sign) (items : List Item) → Reached l [] start → IsWhole given → ReadOn l start given items → ReadText l start given items
read_text l start given items at_start whole o =
    let f = whole_finishes l start o.state given whole o.ran in
    let r = runs_on l [] given start o.state at_start o.ran in
    record {
      text = f.0;
      kind = ap base (sym f.1) ∙ run_base l given start o.state o.ran;
      spelled = is_text l given f.0 o.state.counts o.state.wants (subst (λ q. Reached l given (record { place = q; counts = o.state.counts; wants = o.state.wants })) f.1 r);
      said = written_is l o.state f.0 items o.says f.1;
    }

abbrev Went : State → Result State ReadRefusal
Went u = Ok u

-- a text with nothing wrong is read, and no other refusal or items are answered
text_only : (l : Limits) (start : State) (given : List Sign) (t : Text) (y : Result (List Item) ReadRefusal) → Ends l start given t → Outcome l start given [] y → y ≡ Ok (items_of (marks l t))
text_only l start given t (Ok js) e o =
    let same : e.state ≡ o.state = oks e.state o.state (sym e.ran ∙ o.ran) in
    ap Ok (written_is l o.state t js o.says (sym (ap (λ (u : State). u.place) same) ∙ e.at))
  where
    oks : (u v : State) → Went u ≡ Ok v → u ≡ v
    oks u v h = cc
text_only l start given t (Err r) e o =
    let stops = run_stops l start o.state o.front o.rest o.sign r o.ran o.refused in
    absurd (both (run l start given) e.state (subst (λ xs. run l start xs ≡ Err r) o.are stops) e.ran)
  where
    both : (z : Result State ReadRefusal) (u : State) → z ≡ Err r → z ≡ Ok u → ⊥
    both z u a b = cc

run_none : (l : Limits) (start : State) → run l start [] ≡ Ok start
unfolding run
run_none l start = refl

-- Of a world,
shows_world : (l : Limits) → Shows l before_world world_start
shows_world l = record { stands = refl; counts = refl; wants = refl }

said_world : (l : Limits) → Said l world_start []
said_world l = record { written = []; says = λ k. refl; items = refl }

world_outcome : (l : Limits) (given : List Sign) → Outcome l world_start given [] (all_said l before_world given)
world_outcome l given = along l world_start [] given before_world world_start [] (run_none l world_start) (shows_world l) (said_world l)

pub world_found : (l : Limits) (given : List Sign) → IsWhole given → (items : List Item) → all_said l before_world given ≡ Ok items →
    AreRead g.World (s.world l) given items
world_found l given whole items e =
    let t = read_text l world_start given items (world_reached l) whole (subst (λ z. Outcome l world_start given [] z) e (world_outcome l given)) in
    let x = as_world t.text t.kind in
    (x.0, subst (λ z. IsText (marks l) given z) x.1 t.spelled, t.said ∙ ap (λ z. items_of (marks l z)) x.1)

pub world_only : (l : Limits) (given : List Sign) (x : g.World) → IsText (s.world l) given x → all_said l before_world given ≡ Ok (items_of (s.world l x))
world_only l given x t = text_only l world_start given (p.world x) (all_said l before_world given) (world_is_read l given x t) (world_outcome l given)

pub world_stops : (l : Limits) (given : List Sign) (r : ReadRefusal) → all_said l before_world given ≡ Err r → IsRefused g.World (s.world l) given r
world_stops l given r e =
    let o = subst (λ z. Outcome l world_start given [] z) e (world_outcome l given) in
    subst (λ xs. IsRefused g.World (s.world l) xs r) o.are (world_refused l o.front o.sign o.rest o.state r o.ran o.refused)

-- and of an edit.
shows_edit : (l : Limits) → Shows l before_edit edit_start
shows_edit l = record { stands = refl; counts = refl; wants = refl }

said_edit : (l : Limits) → Said l edit_start []
said_edit l = record { written = []; says = λ k. refl; items = refl }

edit_outcome : (l : Limits) (given : List Sign) → Outcome l edit_start given [] (all_said l before_edit given)
edit_outcome l given = along l edit_start [] given before_edit edit_start [] (run_none l edit_start) (shows_edit l) (said_edit l)

pub edit_found : (l : Limits) (given : List Sign) → IsWhole given → (items : List Item) → all_said l before_edit given ≡ Ok items →
    AreRead g.Edit (s.edit l) given items
edit_found l given whole items e =
    let t = read_text l edit_start given items (edit_reached l) whole (subst (λ z. Outcome l edit_start given [] z) e (edit_outcome l given)) in
    let x = as_edit t.text t.kind in
    (x.0, subst (λ z. IsText (marks l) given z) x.1 t.spelled, t.said ∙ ap (λ z. items_of (marks l z)) x.1)

pub edit_only : (l : Limits) (given : List Sign) (x : g.Edit) → IsText (s.edit l) given x → all_said l before_edit given ≡ Ok (items_of (s.edit l x))
edit_only l given x t = text_only l edit_start given (p.edit x) (all_said l before_edit given) (edit_is_read l given x t) (edit_outcome l given)

pub edit_stops : (l : Limits) (given : List Sign) (r : ReadRefusal) → all_said l before_edit given ≡ Err r → IsRefused g.Edit (s.edit l) given r
edit_stops l given r e =
    let o = subst (λ z. Outcome l edit_start given [] z) e (edit_outcome l given) in
    subst (λ xs. IsRefused g.Edit (s.edit l) xs r) o.are (edit_refused l o.front o.sign o.rest o.state r o.ran o.refused)

-- An answer that is this, unless memory ran out, is found, the only one, and rightly refused.
module _ {A : Type 0} (view : A → List Item) where
  pub is_found : (T : Type 0) (given : T → List Mark) (signs : List Sign) (result : Result A ReadStop) (y : Result (List Item) ReadRefusal) → Answers view result y →
      ((items : List Item) → y ≡ Ok items → AreRead T given signs items) → IfOk result (λ a. AreRead T given signs (view a))
  is_found T given signs (Ok a) y e go = go (view a) e
  is_found T given signs (Err stop) y e go = tt

  pub is_only : (result : Result A ReadStop) (y : Result (List Item) ReadRefusal) (items : List Item) → Answers view result y → y ≡ Ok items → IsAnswered view result items
  is_only (Ok a) y items e f = cc
  is_only (Err (stops.Refused r)) y items e f = cc
  is_only (Err stops.OutOfMemory) y items e f = tt

  pub is_refused : (T : Type 0) (given : T → List Mark) (signs : List Sign) (result : Result A ReadStop) (y : Result (List Item) ReadRefusal) → Answers view result y →
      ((r : ReadRefusal) → y ≡ Err r → IsRefused T given signs r) → IsRightlyRefused T given signs result
  is_refused T given signs (Ok a) y e go = tt
  is_refused T given signs (Err (stops.Refused r)) y e go = go r e
  is_refused T given signs (Err stops.OutOfMemory) y e go = tt
