-- The same of edits.
use Rattle.std.specs.Prelude.{◌≡◌, true, Option, None, Some, List, [], Ok, Err, refl}
use Rattle.std.proofs.Common.{ap, sym, subst, ◌∙◌, inl, inr}
use Rattle.self_tokens.specs.declared.symbols.Fault.{Fault}
use Rattle.self_grammar.specs.declared.signs.Spot.{Spot}
use Rattle.self_grammar.specs.declared.signs.Symbol.TheVariants as sign
use Rattle.self_grammar.specs.declared.signs.Sign.{Sign}
use Rattle.self_grammar.specs.declared.signs.ReadRefusal.{ReadRefusal}
use Rattle.self_grammar.specs.Grammar as g
use Rattle.self_grammar.specs.Counts.{Limits, Mark, write, mark_at, moved}
use Rattle.self_grammar.specs.Refusal.{BeginsSoundly, Expects, IsWrong, no_token, no_bar, no_text, rule, kind_of, bad_syntax}
use Rattle.self_grammar.specs.Spelling as s
use Rattle.self_grammar.proofs.Places.{Text, marks}
use Rattle.self_grammar.proofs.Places as p
use Rattle.self_grammar.proofs.Moves
use Rattle.self_grammar.proofs.Bases.{is_edit, keeps}
use Rattle.self_grammar.proofs.Reading.{State, edit_start, move, goes_on, step, behind, expected, is_expected}
use Rattle.self_grammar.proofs.Found.{edit_reached, runs_on, run}
use Rattle.self_grammar.proofs.Closed.{closes}
use Rattle.self_grammar.proofs.Complete.{Follows}
use Rattle.self_grammar.proofs.SlotComplete.{edit_reads}
use Rattle.self_grammar.proofs.Exact.{no_edit}
use Rattle.self_grammar.proofs.Refused.{follows_wants, run_base, is_bar, no_bar_comes, bad_or, unfailed, fault_is, Refuse}

pub as_edit : (t : Text) → is_edit t ≡ true → (x : g.Edit) × (t ≡ p.edit x)
as_edit (p.world x) e = cc
as_edit (p.edit x) e = (x, refl)

-- What was read of an edit is the front of one.
pub edit_begins : (l : Limits) (front : List Sign) (u : State) → run l edit_start front ≡ Ok u → BeginsSoundly (s.edit l) front
edit_begins l front u ran =
    let r = runs_on l [] front edit_start u (edit_reached l) ran in
    let c = closes l u.place in
    let x = as_edit c.text (c.kind ∙ run_base l front edit_start u ran) in
    (x.0, r.written, c.rest u.counts, sym (ap (λ y. marks l y) x.1) ∙ sym c.law ∙ r.says c.rest, r.are, r.well)

edit_expects : (l : Limits) (front : List Sign) (u : State) (q : Spot) → run l edit_start front ≡ Ok u → u.wants ≡ Some q → Expects (s.edit l) front q
edit_expects l front u q ran e =
    let r = runs_on l [] front edit_start u (edit_reached l) ran in
    let c = closes l u.place in
    let x = as_edit c.text (c.kind ∙ run_base l front edit_start u ran) in
    (x.0, r.written, c.rest u.counts, sym (ap (λ y. marks l y) x.1) ∙ sym c.law ∙ r.says c.rest, r.are, r.wants ∙ e)

expects_wants : (l : Limits) (front : List Sign) (u : State) (q : Spot) → run l edit_start front ≡ Ok u → Expects (s.edit l) front q → u.wants ≡ Some q
expects_wants l front u q ran e =
    let f = subst (λ y. Follows l (p.edit e.0) edit_start.place edit_start.counts y) e.3 (edit_reads l e.0) in
    sym (follows_wants l (p.edit e.0) e.1 e.2 edit_start u f (subst (λ y. run l edit_start y ≡ Ok u) (sym e.4) ran)) ∙ e.5

-- What a run refuses is wrong.
pub edit_wrong : (l : Limits) (front : List Sign) (u : State) (x : Sign) (r : ReadRefusal) → run l edit_start front ≡ Ok u → step l u x.symbol x.spot ≡ Err r → IsWrong g.Edit (s.edit l) front x r
edit_wrong l front u x r ran h =
    elim (bad_or x.symbol) [
      | inl y ↦ (let e : Refuse (record { kind = kind_of y.0; spot = x.spot }) ≡ Err r = sym (ap (λ z. step l u z x.spot) y.1) ∙ h in no_token y.0 y.1 (failed (record { kind = kind_of y.0; spot = x.spot }) r e))
      | inr n ↦ other n (is_expected u.wants x.symbol) refl (unfailed l u x.symbol x.spot r n h)
    ]
  where
    failed : (a b : ReadRefusal) → Refuse a ≡ Err b → b ≡ a
    failed a b e = cc

    only : (q : Spot) → is_expected u.wants x.symbol ≡ None → Expects (s.edit l) front q → x.symbol ≡ sign.Bar
    only q is e = is_bar q x.symbol (subst (λ y. is_expected y x.symbol ≡ None) (expects_wants l front u q ran e) is)

    moved_on : ((f : Fault) → x.symbol ≡ sign.Bad f → ⊥) → is_expected u.wants x.symbol ≡ None → (o : Option Moves.Move) → move l u.place x.symbol x.spot ≡ o → behind l u.counts x.symbol x.spot o ≡ Err r →
        IsWrong g.Edit (s.edit l) front x r
    moved_on n is None none e = no_text n (λ q ex. only q is ex) (no_edit l u front x ran none) (failed (bad_syntax x.spot) r e)
    moved_on n is (Some m) some e =
        let fault = fault_is (mark_at l (m.pre u.counts) x.symbol x.spot m.event).fault _ r e in
        let reached = runs_on l [] front edit_start u (edit_reached l) ran in
        let c = closes l m.to in
        let y = as_edit c.text (c.kind ∙ keeps l u.place x.symbol x.spot m some ∙ run_base l front edit_start u ran) in
        let mark : Mark = mark_at l (m.pre u.counts) x.symbol x.spot m.event in
        rule n (λ q ex. only q is ex) (
          y.0,
          reached.written,
          c.rest (m.post (moved (m.pre u.counts) m.event)),
          mark,
          sym (ap (λ z. marks l z) y.1) ∙ sym c.law ∙ sym ((goes_on l u.place x.symbol x.spot m some).law c.rest)
              ∙ reached.says (λ d. write l x.symbol x.spot m.event (λ i. c.rest (m.post i)) (m.pre d)),
          reached.are,
          refl,
          fault,
        )

    other : ((f : Fault) → x.symbol ≡ sign.Bad f → ⊥) → (o : Option Spot) → is_expected u.wants x.symbol ≡ o → expected o (behind l u.counts x.symbol x.spot (move l u.place x.symbol x.spot)) ≡ Err r →
        IsWrong g.Edit (s.edit l) front x r
    other n (Some q) is e =
        let w = no_bar_comes q u.wants x.symbol is in
        no_bar n q (edit_expects l front u q ran w.0) w.1 (failed (bad_syntax q) r e)
    other n None is e = moved_on n is (move l u.place x.symbol x.spot) refl e
