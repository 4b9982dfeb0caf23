-- Behind the end of a text its place is finished.
use Rattle.std.specs.Prelude.{◌≡◌, true, None, Some, Ok, Err, List, [], ◌∷◌, Result, refl}
use Rattle.std.proofs.Common.{ap, sym, ◌∙◌}
use Rattle.self_grammar.specs.declared.signs.Spot.{Spot}
use Rattle.self_grammar.specs.declared.signs.Symbol.{Symbol}
use Rattle.self_grammar.specs.declared.signs.Symbol.TheVariants as sign
use Rattle.self_grammar.specs.declared.signs.Sign.{Sign}
use Rattle.self_grammar.specs.declared.signs.ReadRefusal.{ReadRefusal}
use Rattle.self_grammar.specs.Grammar as g
use Rattle.self_grammar.specs.Counts.{Limits, Context}
use Rattle.self_grammar.proofs.Places.{Text, world, edit, Lists, in_world, in_bars, in_object, Start, listed, lone, Contents, undecided, coded}
use Rattle.self_grammar.proofs.Moves as m
use Rattle.self_grammar.proofs.SlotMoves as v
use Rattle.self_grammar.proofs.Reading.{State, move, step}
use Rattle.self_grammar.proofs.Found.{run, then}
use Rattle.self_grammar.proofs.Refused.{went_of}
use Rattle.self_signs.specs.Signs.{is_last}
use Rattle.self_reader.specs.Texts.{IsWhole}

abbrev pub Finishes : m.Place → Type 0
Finishes q = (t : Text) × (q ≡ m.finished t)

same_to : (a w : m.Move) → Some a ≡ Some w → w.to ≡ a.to
same_to a w e = let same : a ≡ w = cc in ap (λ (y : m.Move). y.to) (sym same)

done_ends : (l : Limits) (h : Lists) (y : g.Slot) (pre : Context → Context) (b : Spot) (w : m.Move) → v.done_move l h y pre v.end b ≡ Some w → Finishes w.to
done_ends l (in_world ms) (g.member n) pre b w e = (world (g.world_last ms n b), same_to _ w e)
done_ends l (in_world ms) (g.argument n) pre b w e = cc
done_ends l (in_bars h q d ss) y pre b w e = cc
done_ends l (in_object h q d ss) y pre b w e = cc

list_ends : (l : Limits) (h : Start) (b : Spot) (w : m.Move) → v.list_end l h v.end b ≡ Some w → Finishes w.to
list_ends l (listed (in_world ms)) b w e = (world (g.world_ended ms b), same_to _ w e)
list_ends l (listed (in_bars h q d ss)) b w e = cc
list_ends l (listed (in_object h q d ss)) b w e = cc
list_ends l lone b w e = cc

bare_ends : (l : Limits) (h : Start) (n : g.Label) (b : Spot) (w : m.Move) → v.bare_move l h n v.end b ≡ Some w → Finishes w.to
bare_ends l (listed h) n b w e = done_ends l h (g.member (g.bare n)) _ b w e
bare_ends l lone n b w e = cc

method_ends : (l : Limits) (h : Contents) (x : g.Method) (b : Spot) (w : m.Move) → v.method_done l h x v.end b ≡ Some w → Finishes w.to
method_ends l (undecided h n e') x b w e = done_ends l h (g.member (g.coded (g.method (g.unary_head n) e' x))) m.stay b w e
method_ends l (coded (listed h) y e') x b w e = done_ends l h (g.member (g.coded (g.method y e' x))) m.stay b w e
method_ends l (coded lone y e') x b w e = (edit (g.edit (g.method y e' x) None b), same_to _ w e)

-- the end of a text
pub end_finishes : (l : Limits) (q : m.Place) (b : Spot) (w : m.Move) → move l q sign.End b ≡ Some w → Finishes w.to
end_finishes l (m.wanting h) b w e = cc
end_finishes l (m.having h u) b w e = cc
end_finishes l (m.delegated h d) b w e = cc
end_finishes l (m.ended h ss q x d) b w e = cc
end_finishes l (m.behind h f) b w e = method_ends l h f b w e
end_finishes l (m.at_slot h) b w e = list_ends l h b w e
end_finishes l (m.named h n) b w e = bare_ends l h n b w e
end_finishes l (m.starred h n y) b w e = cc
end_finishes l (m.operator_named h o) b w e = cc
end_finishes l (m.operator_argued h o a) b w e = cc
end_finishes l (m.keyword_named h n) b w e = cc
end_finishes l (m.keyword_argued h n) b w e = cc
end_finishes l (m.keyword_wanting h n q) b w e = cc
end_finishes l (m.holding h) b w e = cc
end_finishes l (m.data_wanted h) b w e = cc
end_finishes l (m.opened h q) b w e = cc
end_finishes l (m.data_opened h q) b w e = cc
end_finishes l (m.shut h q d sl d2) b w e = cc
end_finishes l (m.data_shut h q d sl d2) b w e = cc
end_finishes l (m.member_done h f) b w e = done_ends l h (g.member f) m.stay b w e
end_finishes l (m.argument_done h n) b w e = done_ends l h (g.argument n) m.stay b w e
end_finishes l (m.lone_stopped y e' f d) b w e = (edit (g.edit (g.method y e' f) (Some d) b), same_to _ w e)
end_finishes l (m.at_local h q d ws) b w e = cc
end_finishes l (m.local_named h q d ws n) b w e = cc
end_finishes l (m.local_equals h q d ws n e') b w e = cc
end_finishes l (m.local_arrow h q d ws n e') b w e = cc
end_finishes l (m.local_done h q d ws f) b w e = cc
end_finishes l (m.finished t) b w e = cc

last_finishes : (l : Limits) (u t : State) (x : Symbol) (p : Spot) → is_last x ≡ true → step l u x p ≡ Ok t → Finishes t.place
last_finishes l u t sign.End p i e =
    let w = went_of l u t sign.End p e in
    let f = end_finishes l u.place p w.by w.moves in
    (f.0, ap (λ (y : State). y.place) (sym w.to) ∙ f.1)
last_finishes l u t (sign.Bad f) p i e = cc
last_finishes l u t _ p i e = cc

-- Signs that end a text are read to its end.
pub whole_finishes : (l : Limits) (u t : State) (given : List Sign) → IsWhole given → run l u given ≡ Ok t → Finishes t.place
unfolding run
whole_finishes l u t [] i e = absurd i
whole_finishes l u t (x ∷ []) i e = last (step l u x.symbol x.spot) refl e
  where
    last : (o : Result State ReadRefusal) → step l u x.symbol x.spot ≡ o → then o (λ y. Ok y) ≡ Ok t → Finishes t.place
    last (Err f) is h = cc
    last (Ok y) is h = let same : y ≡ t = cc in last_finishes l u t x.symbol x.spot i (is ∙ ap Ok same)
whole_finishes l u t (x ∷ y ∷ ys) i e = more (step l u x.symbol x.spot) e (λ n h. whole_finishes l n t (y ∷ ys) i h)
  where
    more : (o : Result State ReadRefusal) → then o (λ n. run l n (y ∷ ys)) ≡ Ok t → ((n : State) → run l n (y ∷ ys) ≡ Ok t → Finishes t.place) → Finishes t.place
    more (Err f) h go = cc
    more (Ok n) h go = go n h
