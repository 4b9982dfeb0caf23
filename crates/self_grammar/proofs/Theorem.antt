-- The reading of signs by places is exact: a world or an edit with nothing wrong is read to its end, what is read to its end is
-- one, and what is refused is refused at the first sign at which something is wrong, for what is wrong there first.
use Rattle.std.specs.Prelude.{◌≡◌, Some, List, [], ◌∷◌, ◌++◌, Result, Ok, Err, length, take, slice_get, refl}
use Rattle.std.proofs.Common.{ap, sym, subst, ◌∙◌}
use Rattle.self_grammar.specs.declared.signs.Sign.{Sign}
use Rattle.self_grammar.specs.declared.signs.ReadRefusal.{ReadRefusal}
use Rattle.self_grammar.specs.Grammar as g
use Rattle.self_grammar.specs.Counts.{Limits}
use Rattle.self_grammar.specs.Refusal.{IsText, IsRefused}
use Rattle.self_grammar.specs.Spelling as s
use Rattle.self_grammar.proofs.Places as p
use Rattle.self_grammar.proofs.Moves
use Rattle.self_grammar.proofs.Reading.{State, world_start, edit_start, step}
use Rattle.self_grammar.proofs.Found.{run, Reached, world_reached, edit_reached, runs_on, is_text}
use Rattle.self_grammar.proofs.Bases.{base}
use Rattle.self_grammar.proofs.Only.{world_is_read, edit_is_read}
use Rattle.self_grammar.proofs.Refused.{as_world, run_base, world_begins, world_wrong}
use Rattle.self_grammar.proofs.RefusedEdit.{as_edit, edit_begins, edit_wrong}

front_of : (xs : List Sign) (x : Sign) (ys : List Sign) → take (length xs) (xs ++ x ∷ ys) ≡ xs
front_of [] x ys = refl
front_of (y ∷ xs) x ys = ap (λ zs. y ∷ zs) (front_of xs x ys)

sign_at : (xs : List Sign) (x : Sign) (ys : List Sign) → slice_get (xs ++ x ∷ ys) (length xs) ≡ Some x
sign_at [] x ys = refl
sign_at (y ∷ xs) x ys = sign_at xs x ys

-- What is read to its end is a text with nothing wrong.
pub world_found : (l : Limits) (given : List Sign) (u : State) (t : p.Text) → run l world_start given ≡ Ok u → u.place ≡ Moves.finished t → (x : g.World) × IsText (s.world l) given x
world_found l given u t ran end =
    let r = runs_on l [] given world_start u (world_reached l) ran in
    let x = as_world t (sym (ap base end) ∙ run_base l given world_start u ran) in (
      x.0,
      subst (λ y. IsText (p.marks l) given y) x.1
          (is_text l given t u.counts u.wants (subst (λ q. Reached l given (record { place = q; counts = u.counts; wants = u.wants })) end r)),
    )

pub edit_found : (l : Limits) (given : List Sign) (u : State) (t : p.Text) → run l edit_start given ≡ Ok u → u.place ≡ Moves.finished t → (x : g.Edit) × IsText (s.edit l) given x
edit_found l given u t ran end =
    let r = runs_on l [] given edit_start u (edit_reached l) ran in
    let x = as_edit t (sym (ap base end) ∙ run_base l given edit_start u ran) in (
      x.0,
      subst (λ y. IsText (p.marks l) given y) x.1
          (is_text l given t u.counts u.wants (subst (λ q. Reached l given (record { place = q; counts = u.counts; wants = u.wants })) end r)),
    )

-- What is refused is wrong.
pub world_refused : (l : Limits) (front : List Sign) (x : Sign) (rest : List Sign) (u : State) (r : ReadRefusal) → run l world_start front ≡ Ok u → step l u x.symbol x.spot ≡ Err r →
    IsRefused g.World (s.world l) (front ++ x ∷ rest) r
world_refused l front x rest u r ran h =
    record {
      index = length front;
      at = x;
      met = sign_at front x rest;
      before = rw (front_of front x rest) (world_begins l front u ran);
      wrong = rw (front_of front x rest) (world_wrong l front u x r ran h);
    }

pub edit_refused : (l : Limits) (front : List Sign) (x : Sign) (rest : List Sign) (u : State) (r : ReadRefusal) → run l edit_start front ≡ Ok u → step l u x.symbol x.spot ≡ Err r →
    IsRefused g.Edit (s.edit l) (front ++ x ∷ rest) r
edit_refused l front x rest u r ran h = record {
  index = length front;
  at = x;
  met = sign_at front x rest;
  before = rw (front_of front x rest) (edit_begins l front u ran);
  wrong = rw (front_of front x rest) (edit_wrong l front u x r ran h);
}

abbrev Went : State → Result State ReadRefusal
Went t = Ok t

-- The signs of a world are those of no other one.
pub one_world : (l : Limits) (given : List Sign) (a b : g.World) → IsText (s.world l) given a → IsText (s.world l) given b → a ≡ b
one_world l given a b ta tb =
    let ea = world_is_read l given a ta in
    let eb = world_is_read l given b tb in
    let same : ea.state ≡ eb.state = oks ea.state eb.state (sym ea.ran ∙ eb.ran) in
    let texts : Moves.finished (p.world a) ≡ Moves.finished (p.world b) = sym ea.at ∙ ap (λ y. y.place) same ∙ eb.at in
    cc
  where
    oks : (x y : State) → Went x ≡ Ok y → x ≡ y
    oks x y e = cc

-- and so are those of an edit.
pub one_edit : (l : Limits) (given : List Sign) (a b : g.Edit) → IsText (s.edit l) given a → IsText (s.edit l) given b → a ≡ b
one_edit l given a b ta tb =
    let ea = edit_is_read l given a ta in
    let eb = edit_is_read l given b tb in
    let same : ea.state ≡ eb.state = oks ea.state eb.state (sym ea.ran ∙ eb.ran) in
    let texts : Moves.finished (p.edit a) ≡ Moves.finished (p.edit b) = sym ea.at ∙ ap (λ y. y.place) same ∙ eb.at in
    cc
  where
    oks : (x y : State) → Went x ≡ Ok y → x ≡ y
    oks x y e = cc
