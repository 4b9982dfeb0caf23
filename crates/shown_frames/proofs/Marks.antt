-- The position of an activation, by the mark of its frame.
use Rattle.std.proofs.Common.{◌≡◌, ◌≢◌, ℕ, suc, ◌+◌, refl, ap, sym, ◌∙◌, Bool, true, false}
use Rattle.std.specs.Prelude.{List, [], ◌∷◌, length, Some, None, slice_get, unwrap_or, nat_eq}
use Rattle.std.proofs.lemmas.Bool.{eq-eqb, ne_eqb, eqb-true, eqb-false, cond-true, cond-false}
use Rattle.source_model.specs.State.{Activation}
use Rattle.source_model.specs.Lines.{position_in}
use Rattle.heap_cells.specs.Source.{Made, Owner, Plain as without, Ended, Live}
use Rattle.frame_walk.specs.Places.{Frame}
use Rattle.raw_steps.specs.Stands.{Sense, IsActivation, AreActivations, HasLocals}
use Rattle.shown_frames.specs.Showing.{position_of}

-- as many frames as activations
pub as_many : (wants : ℕ → Bool) (z : Sense) (at : ℕ) (all : List Activation) (frames : List Frame) → AreActivations wants z at all frames → length frames ≡ length all
as_many wants z at [] [] are = refl
as_many wants z at (a ∷ all) (f ∷ frames) are = ap suc (as_many wants z at all frames are.2)
as_many wants z at [] (f ∷ frames) are = absurd are
as_many wants z at (a ∷ all) [] are = absurd are

-- an activation that has ended isn't live, nor has its number
no_ended : (z : Sense) (a : Activation) (f : Frame) (kind : Made) → HasLocals z a f kind → kind ≢ Ended
no_ended z a f without l e = absurd (cc)
no_ended z a f Ended l e = absurd l
no_ended z a f (Live o) l e = absurd (cc)

-- the mark of the frame of a live activation is that of its context
own_mark : (z : Sense) (a : Activation) (f : Frame) (kind : Made) (o : Owner) → HasLocals z a f kind → kind ≡ Live o → o.mark ≡ f.mark
own_mark z a f without o l e = absurd (cc)
own_mark z a f Ended o l e = absurd l
own_mark z a f (Live p) o l e = let same : p ≡ o = cc in ap (λ (q : Owner). q.mark) (sym same) ∙ ap (λ (q : Owner). q.mark) l.0

-- none of these has the number of one that has ended
pub none_ended : (wants : ℕ → Bool) (z : Sense) (at : ℕ) (all : List Activation) (frames : List Frame) (k : ℕ) → AreActivations wants z at all frames → slice_get z.made k ≡ Some Ended → position_in all k ≡ None
none_ended wants z at [] [] k are ended = refl
none_ended wants z at (a ∷ all) (f ∷ frames) k are ended =
    cond-false (nat_eq a.number k) (Some (length all + 1)) (position_in all k) (ne_eqb a.number k (λ e.
    let i = are.0 in
    let same : Some i.kind ≡ Some Ended = sym i.made ∙ ap (slice_get z.made) e ∙ ended in
    let kind : i.kind ≡ Ended = cc in
    no_ended z a f i.kind i.locals kind))
    ∙ none_ended wants z at all frames k are.2 ended
none_ended wants z at [] (f ∷ frames) k are ended = absurd are
none_ended wants z at (a ∷ all) [] k are ended = absurd are

-- the frame of a mark stands where the activation does
pub marks_place : (wants : ℕ → Bool) (z : Sense) (at : ℕ) (all : List Activation) (frames : List Frame) (k : ℕ) (o : Owner) → AreActivations wants z at all frames → slice_get z.made k ≡ Some (Live o) → z.owner o.mark ≡ k
    → position_of frames o.mark ≡ unwrap_or (position_in all k) 0
marks_place wants z at [] [] k o are live named = refl
marks_place wants z at (a ∷ all) (f ∷ frames) k o are live named = by_test (marks_place wants z at all frames k o are.2 live named) (nat_eq f.mark o.mark) refl
  where
    i : IsActivation wants z at (length all) a f
    i = are.0

    by_test : position_of frames o.mark ≡ unwrap_or (position_in all k) 0 → (b : Bool) → nat_eq f.mark o.mark ≡ b → position_of (f ∷ frames) o.mark ≡ unwrap_or (position_in (a ∷ all) k) 0
    by_test older true e =
        let same : f.mark ≡ o.mark = eqb-true f.mark o.mark e in
        let number : a.number ≡ k = sym i.named ∙ ap z.owner same ∙ named in
        cond-true (nat_eq f.mark o.mark) (length frames + 1) (position_of frames o.mark) e
        ∙ ap (λ n. n + 1) (as_many wants z at all frames are.2)
        ∙ ap (λ p. unwrap_or p 0) (sym (cond-true (nat_eq a.number k) (Some (length all + 1)) (position_in all k) (eq-eqb a.number k number)))
    by_test older false e =
        let differ : a.number ≢ k = λ n.
        (let same : Some i.kind ≡ Some (Live o) = sym i.made ∙ ap (slice_get z.made) n ∙ live in
        let kind : i.kind ≡ Live o = cc in
        eqb-false f.mark o.mark e (sym (own_mark z a f i.kind o i.locals kind))) in
        cond-false (nat_eq f.mark o.mark) (length frames + 1) (position_of frames o.mark) e
        ∙ older
        ∙ ap (λ p. unwrap_or p 0) (sym (cond-false (nat_eq a.number k) (Some (length all + 1)) (position_in all k) (ne_eqb a.number k differ)))
marks_place wants z at [] (f ∷ frames) k o are live named = absurd are
marks_place wants z at (a ∷ all) [] k o are live named = absurd are
