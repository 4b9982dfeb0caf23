-- Each text with nothing wrong is read.
use Rattle.std.specs.Prelude.{◌≡◌, Option, None, Some, List, [], ◌∷◌, Ok, refl}
use Rattle.std.proofs.Common.{ap, sym, subst, ◌∙◌}
use Rattle.self_tokens.specs.declared.symbols.Fault.{Fault}
use Rattle.self_grammar.specs.declared.signs.Spot.{Spot}
use Rattle.self_grammar.specs.declared.signs.Symbol.{Symbol}
use Rattle.self_grammar.specs.declared.signs.Symbol.TheVariants as sign
use Rattle.self_grammar.specs.declared.signs.Sign.{Sign}
use Rattle.self_grammar.specs.declared.signs.ReadRefusal.{ReadRefusal}
use Rattle.self_grammar.specs.Grammar as g
use Rattle.self_grammar.specs.Counts.{Limits, Mark, mark_at, moved}
use Rattle.self_grammar.specs.Refusal.{signs, AreSound, Expected, IsText}
use Rattle.self_grammar.specs.Spelling as s
use Rattle.self_grammar.proofs.Places.{Text, marks}
use Rattle.self_grammar.proofs.Places as p
use Rattle.self_grammar.proofs.Moves
use Rattle.self_grammar.proofs.Reading.{State, world_start, edit_start, move, step, unless, is_expected}
use Rattle.self_grammar.proofs.Found.{run}
use Rattle.self_grammar.proofs.Complete.{Follows}
use Rattle.self_grammar.proofs.SlotComplete.{world_reads, edit_reads}

-- no place goes on by what is no token
no_bad : (l : Limits) (q : Moves.Place) (f : Fault) (b : Spot) → move l q (sign.Bad f) b ≡ None
no_bad l (Moves.wanting h) f b = refl
no_bad l (Moves.having h u) f b = refl
no_bad l (Moves.delegated h d) f b = refl
no_bad l (Moves.ended h ss q e d) f b = refl
no_bad l (Moves.behind h j) f b = refl
no_bad l (Moves.at_slot h) f b = refl
no_bad l (Moves.named h w') f b = refl
no_bad l (Moves.starred h w' y') f b = refl
no_bad l (Moves.operator_named h o) f b = refl
no_bad l (Moves.operator_argued h o a) f b = refl
no_bad l (Moves.keyword_named h n) f b = refl
no_bad l (Moves.keyword_argued h n) f b = refl
no_bad l (Moves.keyword_wanting h n q) f b = refl
no_bad l (Moves.holding h) f b = refl
no_bad l (Moves.data_wanted h) f b = refl
no_bad l (Moves.opened h q) f b = refl
no_bad l (Moves.data_opened h q) f b = refl
no_bad l (Moves.shut h q d sl d2) f b = refl
no_bad l (Moves.data_shut h q d sl d2) f b = refl
no_bad l (Moves.member_done h f') f b = refl
no_bad l (Moves.argument_done h w') f b = refl
no_bad l (Moves.lone_stopped y' e f' d) f b = refl
no_bad l (Moves.at_local h q d ws) f b = refl
no_bad l (Moves.local_named h q d ws w') f b = refl
no_bad l (Moves.local_equals h q d ws w' e) f b = refl
no_bad l (Moves.local_arrow h q d ws w' e) f b = refl
no_bad l (Moves.local_done h q d ws f') f b = refl
no_bad l (Moves.finished t) f b = refl

no_some : (o : Option Moves.Move) (m : Moves.Move) → o ≡ None → o ≡ Some m → ⊥
no_some o m e h = cc

unless_is : (o : Option ReadRefusal) (t : State) → o ≡ None → unless o t ≡ Ok t
unless_is None t e = refl
unless_is (Some r) t e = cc

-- the step by a move at which nothing is wrong
step_is : (l : Limits) (u : State) (x : Symbol) (b : Spot) (m : Moves.Move) → move l u.place x b ≡ Some m → is_expected u.wants x ≡ None → (mark_at l (m.pre u.counts) x b m.event).fault ≡ None →
    step l u x b ≡ Ok (record { place = m.to; counts = m.post (moved (m.pre u.counts) m.event); wants = m.event.next })
step_is l u (sign.Integer z) b m is e f = rw (e, is) (unless_is _ _ f)
step_is l u (sign.Text i j) b m is e f = rw (e, is) (unless_is _ _ f)
step_is l u (sign.Name n t r) b m is e f = rw (e, is) (unless_is _ _ f)
step_is l u (sign.Primitive n) b m is e f = rw (e, is) (unless_is _ _ f)
step_is l u sign.Restart b m is e f = rw (e, is) (unless_is _ _ f)
step_is l u (sign.Keyword n) b m is e f = rw (e, is) (unless_is _ _ f)
step_is l u (sign.PrimitiveKeyword n y) b m is e f = rw (e, is) (unless_is _ _ f)
step_is l u sign.RestartKeyword b m is e f = rw (e, is) (unless_is _ _ f)
step_is l u (sign.CapitalKeyword n y) b m is e f = rw (e, is) (unless_is _ _ f)
step_is l u (sign.Argument n t r) b m is e f = rw (e, is) (unless_is _ _ f)
step_is l u (sign.Delegate n r) b m is e f = rw (e, is) (unless_is _ _ f)
step_is l u (sign.Operator n r) b m is e f = rw (e, is) (unless_is _ _ f)
step_is l u sign.OpenParen b m is e f = rw (e, is) (unless_is _ _ f)
step_is l u sign.CloseParen b m is e f = rw (e, is) (unless_is _ _ f)
step_is l u sign.OpenBracket b m is e f = rw (e, is) (unless_is _ _ f)
step_is l u sign.CloseBracket b m is e f = rw (e, is) (unless_is _ _ f)
step_is l u sign.Bar b m is e f = rw (e, is) (unless_is _ _ f)
step_is l u sign.Period b m is e f = rw (e, is) (unless_is _ _ f)
step_is l u sign.Caret b m is e f = rw (e, is) (unless_is _ _ f)
step_is l u sign.End b m is e f = rw (e, is) (unless_is _ _ f)
step_is l u (sign.Bad z) b m is e f = absurd (no_some (move l u.place (sign.Bad z) b) m (no_bad l u.place z b) is)

comes : (o : Option Spot) (m : Mark) (ms : List Mark) → Expected o (m ∷ ms) → is_expected o m.sign.symbol ≡ None
comes None m ms e = refl
comes (Some q) m ms e = ap (λ x. is_expected (Some q) x) e

-- these marks are read
pub record Ends (l : Limits) (u : State) (given : List Sign) (t : Text) : Type 0 where
  pub state : State
  pub ran : run l u given ≡ Ok state
  pub at : state.place ≡ Moves.finished t

pub follows_run : (l : Limits) (t : Text) (ms : List Mark) (u : State) → Follows l t u.place u.counts ms → AreSound ms → Expected u.wants ms → Ends l u (signs ms) t
unfolding run
follows_run l t [] u f a e = record { state = u; ran = refl; at = f }
follows_run l t (m ∷ ms) u f a e =
    let next : State = record { place = f.0.to; counts = f.0.post (moved (f.0.pre u.counts) f.0.event); wants = f.0.event.next } in
    let free : (mark_at l (f.0.pre u.counts) m.sign.symbol m.sign.spot f.0.event).fault ≡ None = ap (λ y. y.fault) f.2 ∙ a.0 in
    let went = step_is l u m.sign.symbol m.sign.spot f.0 f.1 (comes u.wants m ms e) free in
    let more = follows_run l t ms next f.3 a.2 (subst (λ y. Expected y ms) (sym (ap (λ y. y.next) f.2)) a.1) in
    record { state = more.state; ran = rw went more.ran; at = more.at }

pub world_is_read : (l : Limits) (given : List Sign) (x : g.World) → IsText (s.world l) given x → Ends l world_start given (p.world x)
world_is_read l given x h = subst (λ y. Ends l world_start y (p.world x)) h.0 (follows_run l (p.world x) (s.world l x) world_start (world_reads l x) h.1 tt)

pub edit_is_read : (l : Limits) (given : List Sign) (x : g.Edit) → IsText (s.edit l) given x → Ends l edit_start given (p.edit x)
edit_is_read l given x h = subst (λ y. Ends l edit_start y (p.edit x)) h.0 (follows_run l (p.edit x) (s.edit l x) edit_start (edit_reads l x) h.1 tt)
