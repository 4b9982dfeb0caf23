-- A place stays in the kind of text that it began in: a world or an edit.
use Rattle.std.specs.Prelude.{◌≡◌, ℕ, ◌==◌, ◌&&◌, cond, Bool, true, false, Option, None, Some, refl}
use Rattle.std.proofs.Common.{ap, sym, subst, ◌∙◌}
use Rattle.self_grammar.specs.declared.signs.Spot.{Spot}
use Rattle.self_grammar.specs.declared.signs.Reserved.{Reserved}
use Rattle.self_grammar.specs.declared.signs.Reserved.TheVariants.{Free, Itself, Resend}
use Rattle.self_grammar.specs.declared.signs.Role.{Role}
use Rattle.self_grammar.specs.declared.signs.Role.TheVariants.{Equals, Arrow, Star, Other}
use Rattle.self_grammar.specs.declared.signs.Symbol.{Symbol}
use Rattle.self_grammar.specs.declared.signs.Symbol.TheVariants as sign
use Rattle.self_grammar.specs.declared.pieces.Item.{Item}
use Rattle.self_grammar.specs.Grammar as g
use Rattle.self_grammar.specs.Counts.{Limits, Context, Event, quiet}
use Rattle.self_grammar.specs.Scopes.{scope, activation}
use Rattle.self_grammar.specs.Spelling as s
use Rattle.self_grammar.proofs.Settled.{head_inner}
use Rattle.self_grammar.proofs.Places.{Text, world, edit, Lists, in_world, in_bars, in_object, Start, listed, lone, Contents, undecided, coded, DataHole, assigned, parental, CodeHole, in_method, in_slotted, in_block, Hole, statement, returning, in_group, argument, OperandHole, alone, right, start_scope}
use Rattle.self_grammar.proofs.Places as p
use Rattle.self_grammar.proofs.Moves
use Rattle.self_grammar.proofs.SlotMoves as v
use Rattle.self_grammar.proofs.LocalMoves as w
use Rattle.self_grammar.proofs.Reading.{move, ended_sign}

-- whether a hole is one of an edit
abbrev mutual
  pub lists_base : Lists → Bool
  lists_base (in_world ms) = false
  lists_base (in_bars h q b ss) = contents_base h
  lists_base (in_object h q b ss) = data_base h

  pub start_base : Start → Bool
  start_base (listed h) = lists_base h
  start_base lone = true

  pub contents_base : Contents → Bool
  contents_base (undecided h w e) = lists_base h
  contents_base (coded h x e) = start_base h

  pub data_base : DataHole → Bool
  data_base (assigned h w a) = lists_base h
  data_base (parental h w x e) = lists_base h

abbrev mutual
  pub code_base : CodeHole → Bool
  code_base (in_method h q) = contents_base h
  code_base (in_slotted h q b ss b2) = contents_base h
  code_base (in_block h q bs) = operand_base h

  pub hole_base : Hole → Bool
  hole_base (statement h ss) = code_base h
  hole_base (returning h ss q) = code_base h
  hole_base (in_group h q) = operand_base h
  hole_base (argument h m) = hole_base h

  pub operand_base : OperandHole → Bool
  operand_base (alone h) = hole_base h
  operand_base (right h n r us) = hole_base h

abbrev pub is_edit : Text → Bool
is_edit (world x) = false
is_edit (edit x) = true

abbrev pub base : Moves.Place → Bool
base (Moves.wanting h) = operand_base h
base (Moves.having h u) = operand_base h
base (Moves.delegated h d) = operand_base h
base (Moves.ended h ss q e d) = code_base h
base (Moves.behind h f) = contents_base h
base (Moves.at_slot h) = start_base h
base (Moves.named h w') = start_base h
base (Moves.starred h w' x) = lists_base h
base (Moves.operator_named h o) = start_base h
base (Moves.operator_argued h o a) = start_base h
base (Moves.keyword_named h n) = start_base h
base (Moves.keyword_argued h n) = start_base h
base (Moves.keyword_wanting h n q) = start_base h
base (Moves.holding h) = contents_base h
base (Moves.data_wanted h) = data_base h
base (Moves.opened h q) = contents_base h
base (Moves.data_opened h q) = data_base h
base (Moves.shut h q b sl b2) = contents_base h
base (Moves.data_shut h q b sl b2) = data_base h
base (Moves.member_done h m) = lists_base h
base (Moves.argument_done h w') = lists_base h
base (Moves.lone_stopped h e m b) = true
base (Moves.at_local h q b ws) = operand_base h
base (Moves.local_named h q b ws w') = operand_base h
base (Moves.local_equals h q b ws w' e) = operand_base h
base (Moves.local_arrow h q b ws w' a) = operand_base h
base (Moves.local_done h q b ws x) = operand_base h
base (Moves.finished t) = is_edit t

kept : (r m : Moves.Move) (b : Bool) → Some r ≡ Some m → base r.to ≡ b → base m.to ≡ b
kept r m b e h = let same : r ≡ m = cc in subst (λ (y : Moves.Move). base y.to ≡ b) same h

body_keeps : (h : CodeHole) (c : g.Code) (b : Spot) (x : Moves.Stop) (q : Moves.Place) → Moves.body_end h c b x ≡ Some q → base q ≡ code_base h
body_keeps (in_method h q) c b Moves.period y e = cc
body_keeps (in_method h q) c b Moves.paren y e = let same : Moves.behind h (g.bare_method q c b) ≡ y = cc in ap base (sym same)
body_keeps (in_method h q) c b Moves.bracket y e = cc
body_keeps (in_slotted h q b1 sl b2) c b Moves.period y e = cc
body_keeps (in_slotted h q b1 sl b2) c b Moves.paren y e = let same : Moves.behind h (g.slotted_method q b1 sl b2 c b) ≡ y = cc in ap base (sym same)
body_keeps (in_slotted h q b1 sl b2) c b Moves.bracket y e = cc
body_keeps (in_block h q bs) c b Moves.period y e = cc
body_keeps (in_block h q bs) c b Moves.paren y e = cc
body_keeps (in_block h q bs) c b Moves.bracket y e = let same : Moves.having h (g.block q bs (g.full c) b) ≡ y = cc in ap base (sym same)

moving_keeps : (pre : Context → Context) (e : Event) (o : Option Moves.Place) (m : Moves.Move) (b : Bool) → Moves.moving pre e o ≡ Some m → ((q : Moves.Place) → o ≡ Some q → base q ≡ b) → base m.to ≡ b
moving_keeps pre e None m b is h = cc
moving_keeps pre e (Some q) m b is h = kept (record { pre = pre; event = e; post = Moves.stay; to = q }) m b is (h q refl)

abbrev end_base : Moves.End → Bool
end_base (Moves.at_statement h ss e) = code_base h
end_base (Moves.at_return h ss q e) = code_base h
end_base (Moves.at_group h q e) = operand_base h

unwinds_base : (h : Hole) (e : g.Expression) → end_base (Moves.unwinds h e) ≡ hole_base h
unwinds_base (statement h ss) e = refl
unwinds_base (returning h ss q) e = refl
unwinds_base (in_group h q) e = refl
unwinds_base (argument h m) e = unwinds_base h (g.keyed m e)

hole_of_base : (h : OperandHole) → hole_base (Moves.hole_of h) ≡ operand_base h
hole_of_base (alone h) = refl
hole_of_base (right h n r us) = refl

end_keeps : (e : Moves.End) (pre : Context → Context) (x : Moves.Stop) (b : Spot) (m : Moves.Move) → Moves.end_move e pre x b ≡ Some m → base m.to ≡ end_base e
end_keeps (Moves.at_statement h ss e) pre Moves.period b m is = kept _ m _ is refl
end_keeps (Moves.at_statement h ss e) pre Moves.paren b m is = moving_keeps pre _ (Moves.body_end h (g.code ss None e None) b Moves.paren) m _ is (λ q i. body_keeps h (g.code ss None e None) b Moves.paren q i)
end_keeps (Moves.at_statement h ss e) pre Moves.bracket b m is = moving_keeps pre _ (Moves.body_end h (g.code ss None e None) b Moves.bracket) m _ is (λ q i. body_keeps h (g.code ss None e None) b Moves.bracket q i)
end_keeps (Moves.at_return h ss r e) pre Moves.period b m is = kept _ m _ is refl
end_keeps (Moves.at_return h ss r e) pre Moves.paren b m is = moving_keeps pre _ (Moves.body_end h (g.code ss (Some r) e None) b Moves.paren) m _ is (λ q i. body_keeps h (g.code ss (Some r) e None) b Moves.paren q i)
end_keeps (Moves.at_return h ss r e) pre Moves.bracket b m is = moving_keeps pre _ (Moves.body_end h (g.code ss (Some r) e None) b Moves.bracket) m _ is (λ q i. body_keeps h (g.code ss (Some r) e None) b Moves.bracket q i)
end_keeps (Moves.at_group h q e) pre Moves.period b m is = cc
end_keeps (Moves.at_group h q e) pre Moves.paren b m is = kept _ m _ is refl
end_keeps (Moves.at_group h q e) pre Moves.bracket b m is = cc

stop_keeps : (h : OperandHole) (u : g.Unary) (x : Moves.Stop) (b : Spot) (m : Moves.Move) → Moves.stop_move h u x b ≡ Some m → base m.to ≡ operand_base h
stop_keeps h u x b m is =
    end_keeps (Moves.unwinds (Moves.hole_of h) (g.plain (Moves.closed h u))) (λ c. Moves.unwound (Moves.hole_of h) (Moves.operated h c)) x b m is
    ∙ unwinds_base (Moves.hole_of h) (g.plain (Moves.closed h u)) ∙ hole_of_base h

name_keeps : (h : OperandHole) (n : g.Label) (r : Reserved) (m : Moves.Move) → Moves.name_move h n r ≡ Some m → base m.to ≡ operand_base h
name_keeps h n Free m is = kept _ m _ is refl
name_keeps h n Itself m is = kept _ m _ is refl
name_keeps h n Resend m is = kept _ m _ is refl

delegate_keeps : (h : OperandHole) (n : g.Word) (r : Reserved) (m : Moves.Move) → Moves.delegate_move h n r ≡ Some m → base m.to ≡ operand_base h
delegate_keeps h n Free m is = kept _ m _ is refl
delegate_keeps h n Itself m is = cc
delegate_keeps h n Resend m is = kept _ m _ is refl

opening_keeps : (h : OperandHole) (n : g.Opening) (m : Moves.Move) → Moves.opening_move h n ≡ Some m → base m.to ≡ operand_base h
opening_keeps (alone h) n m is = kept _ m _ is refl
opening_keeps (right h o r us) n m is = cc

caret_keeps : (h : OperandHole) (b : Spot) (m : Moves.Move) → Moves.caret_move h b ≡ Some m → base m.to ≡ operand_base h
caret_keeps (alone (statement h ss)) b m is = kept _ m _ is refl
caret_keeps (alone (returning h ss q)) b m is = cc
caret_keeps (alone (in_group h q)) b m is = cc
caret_keeps (alone (argument h y)) b m is = cc
caret_keeps (right h o r us) b m is = cc

empty_keeps : (h : CodeHole) (x : Moves.Stop) (b : Spot) (m : Moves.Move) → Moves.empty_end h x b ≡ Some m → base m.to ≡ code_base h
empty_keeps (in_method h q) x b m is = cc
empty_keeps (in_slotted h q b1 sl b2) x b m is = cc
empty_keeps (in_block h q bs) Moves.period b m is = cc
empty_keeps (in_block h q bs) Moves.paren b m is = cc
empty_keeps (in_block h q bs) Moves.bracket b m is = kept _ m _ is refl

stopped_keeps : (h : OperandHole) (x : Moves.Stop) (b : Spot) (m : Moves.Move) → Moves.stopped_move h x b ≡ Some m → base m.to ≡ operand_base h
stopped_keeps (alone (statement h g.none)) x b m is = empty_keeps h x b m is
stopped_keeps (alone (statement h (g.more ss e q))) x b m is =
    moving_keeps Moves.forget _ (Moves.body_end h (g.code ss None e (Some q)) b x) m _ is (λ y i. body_keeps h (g.code ss None e (Some q)) b x y i)
stopped_keeps (alone (returning h ss q)) x b m is = cc
stopped_keeps (alone (in_group h q)) x b m is = cc
stopped_keeps (alone (argument h y)) x b m is = cc
stopped_keeps (right h o r us) x b m is = cc

block_bar_keeps : (h : CodeHole) (b : Spot) (m : Moves.Move) → Moves.block_bar h b ≡ Some m → base m.to ≡ code_base h
block_bar_keeps (in_block h q g.absent) b m is = kept _ m _ is refl
block_bar_keeps (in_block h q (g.present x ws y)) b m is = cc
block_bar_keeps (in_method h q) b m is = cc
block_bar_keeps (in_slotted h q b1 sl b2) b m is = cc

bar_keeps : (h : OperandHole) (b : Spot) (m : Moves.Move) → Moves.bar_move h b ≡ Some m → base m.to ≡ operand_base h
bar_keeps (alone (statement h g.none)) b m is = block_bar_keeps h b m is
bar_keeps (alone (statement h (g.more ss e q))) b m is = cc
bar_keeps (alone (returning h ss q)) b m is = cc
bar_keeps (alone (in_group h q)) b m is = cc
bar_keeps (alone (argument h y)) b m is = cc
bar_keeps (right h o r us) b m is = cc

chosen : (t : Bool) (r m : Moves.Move) (b : Bool) → cond t (Some r) None ≡ Some m → base r.to ≡ b → base m.to ≡ b
chosen true r m b is h = kept r m b is h
chosen false r m b is h = cc

operator_keeps : (h : OperandHole) (u : g.Unary) (o : ℕ) (r : Role) (b : Spot) (m : Moves.Move) → Moves.operator_move h u o r b ≡ Some m → base m.to ≡ operand_base h
operator_keeps (alone h) u o r b m is = kept _ m _ is refl
operator_keeps (right h y q us) u o r b m is = chosen ((y == o) && Moves.same_role q r) _ m _ is refl

part_keeps : (l : Limits) (pre : Context → Context) (h : Hole) (x : g.Binary) (q : g.Part) (m : Moves.Move) → Moves.part_move l pre h x q ≡ Some m → base m.to ≡ hole_base h
part_keeps l pre (statement h ss) x q m is = cc
part_keeps l pre (returning h ss r) x q m is = cc
part_keeps l pre (in_group h r) x q m is = cc
part_keeps l pre (argument h y) x q m is = kept _ m _ is refl

delegate_operator_keeps : (h : OperandHole) (d : g.Delegate) (o : ℕ) (r : Role) (b : Spot) (m : Moves.Move) → Moves.delegate_operator h d o r b ≡ Some m → base m.to ≡ operand_base h
delegate_operator_keeps (alone h) d o r b m is = kept _ m _ is refl
delegate_operator_keeps (right h y q us) d o r b m is = cc

delegate_keyword_keeps : (h : OperandHole) (d : g.Delegate) (n : g.Word) (m : Moves.Move) → Moves.delegate_keyword h d n ≡ Some m → base m.to ≡ operand_base h
delegate_keyword_keeps (alone h) d n m is = kept _ m _ is refl
delegate_keyword_keeps (right h y q us) d n m is = cc

begin_keeps : (l : Limits) (h : OperandHole) (x : Symbol) (b : Spot) (m : Moves.Move) → Moves.begin_move h x b ≡ Some m → base m.to ≡ base (Moves.wanting h)
begin_keeps l h (sign.Integer z) b m is = kept _ m _ is refl
begin_keeps l h (sign.Text i j) b m is = kept _ m _ is refl
begin_keeps l h (sign.Name n t r) b m is = name_keeps h (Moves.label n t b) r m is
begin_keeps l h (sign.Primitive n) b m is = kept _ m _ is refl
begin_keeps l h sign.Restart b m is = kept _ m _ is refl
begin_keeps l h (sign.Keyword n) b m is = opening_keeps h (g.ordinary (Moves.word n b)) m is
begin_keeps l h (sign.PrimitiveKeyword n y) b m is = opening_keeps h (g.primitive_keyword (Moves.word n b) y) m is
begin_keeps l h sign.RestartKeyword b m is = cc
begin_keeps l h (sign.CapitalKeyword n y) b m is = cc
begin_keeps l h (sign.Argument n t r) b m is = cc
begin_keeps l h (sign.Delegate n r) b m is = delegate_keeps h (Moves.word n b) r m is
begin_keeps l h (sign.Operator n r) b m is = cc
begin_keeps l h sign.OpenParen b m is = kept _ m _ is refl
begin_keeps l h sign.CloseParen b m is = stopped_keeps h Moves.paren b m is
begin_keeps l h sign.OpenBracket b m is = kept _ m _ is refl
begin_keeps l h sign.CloseBracket b m is = stopped_keeps h Moves.bracket b m is
begin_keeps l h sign.Bar b m is = bar_keeps h b m is
begin_keeps l h sign.Period b m is = cc
begin_keeps l h sign.Caret b m is = caret_keeps h b m is
begin_keeps l h sign.End b m is = cc
begin_keeps l h (sign.Bad z) b m is = cc

having_keeps : (l : Limits) (h : OperandHole) (u : g.Unary) (x : Symbol) (b : Spot) (m : Moves.Move) → Moves.having_move l h u x b ≡ Some m → base m.to ≡ base (Moves.having h u)
having_keeps l h u (sign.Integer z) b m is = cc
having_keeps l h u (sign.Text i j) b m is = cc
having_keeps l h u (sign.Name n t r) b m is = kept _ m _ is refl
having_keeps l h u (sign.Primitive n) b m is = kept _ m _ is refl
having_keeps l h u sign.Restart b m is = cc
having_keeps l h u (sign.Keyword n) b m is = kept _ m _ is (hole_of_base h)
having_keeps l h u (sign.PrimitiveKeyword n y) b m is = kept _ m _ is (hole_of_base h)
having_keeps l h u sign.RestartKeyword b m is = cc
having_keeps l h u (sign.CapitalKeyword n y) b m is = part_keeps l (Moves.operated h) (Moves.hole_of h) (Moves.closed h u) (record { word = Moves.word n b; handles = y }) m is ∙ hole_of_base h
having_keeps l h u (sign.Argument n t r) b m is = cc
having_keeps l h u (sign.Delegate n r) b m is = cc
having_keeps l h u (sign.Operator n r) b m is = operator_keeps h u n r b m is
having_keeps l h u sign.OpenParen b m is = cc
having_keeps l h u sign.CloseParen b m is = stop_keeps h u Moves.paren b m is
having_keeps l h u sign.OpenBracket b m is = cc
having_keeps l h u sign.CloseBracket b m is = stop_keeps h u Moves.bracket b m is
having_keeps l h u sign.Bar b m is = cc
having_keeps l h u sign.Period b m is = stop_keeps h u Moves.period b m is
having_keeps l h u sign.Caret b m is = cc
having_keeps l h u sign.End b m is = cc
having_keeps l h u (sign.Bad z) b m is = cc

delegated_keeps : (l : Limits) (h : OperandHole) (d : g.Delegate) (x : Symbol) (b : Spot) (m : Moves.Move) → Moves.delegated_move h d x b ≡ Some m → base m.to ≡ base (Moves.delegated h d)
delegated_keeps l h d (sign.Integer z) b m is = cc
delegated_keeps l h d (sign.Text i j) b m is = cc
delegated_keeps l h d (sign.Name n t r) b m is = kept _ m _ is refl
delegated_keeps l h d (sign.Primitive n) b m is = cc
delegated_keeps l h d sign.Restart b m is = cc
delegated_keeps l h d (sign.Keyword n) b m is = delegate_keyword_keeps h d (Moves.word n b) m is
delegated_keeps l h d (sign.PrimitiveKeyword n y) b m is = cc
delegated_keeps l h d sign.RestartKeyword b m is = cc
delegated_keeps l h d (sign.CapitalKeyword n y) b m is = cc
delegated_keeps l h d (sign.Argument n t r) b m is = cc
delegated_keeps l h d (sign.Delegate n r) b m is = cc
delegated_keeps l h d (sign.Operator n r) b m is = delegate_operator_keeps h d n r b m is
delegated_keeps l h d sign.OpenParen b m is = cc
delegated_keeps l h d sign.CloseParen b m is = cc
delegated_keeps l h d sign.OpenBracket b m is = cc
delegated_keeps l h d sign.CloseBracket b m is = cc
delegated_keeps l h d sign.Bar b m is = cc
delegated_keeps l h d sign.Period b m is = cc
delegated_keeps l h d sign.Caret b m is = cc
delegated_keeps l h d sign.End b m is = cc
delegated_keeps l h d (sign.Bad z) b m is = cc

ended_keeps : (l : Limits) (h : CodeHole) (ss : g.Statements) (q : Spot) (e : g.Expression) (d : Spot) (x : Symbol) (b : Spot) (m : Moves.Move) → ended_sign h ss q e d x b ≡ Some m → base m.to ≡ base (Moves.ended h ss q e d)
ended_keeps l h ss q e d (sign.Integer z) b m is = cc
ended_keeps l h ss q e d (sign.Text i j) b m is = cc
ended_keeps l h ss q e d (sign.Name n t r) b m is = cc
ended_keeps l h ss q e d (sign.Primitive n) b m is = cc
ended_keeps l h ss q e d sign.Restart b m is = cc
ended_keeps l h ss q e d (sign.Keyword n) b m is = cc
ended_keeps l h ss q e d (sign.PrimitiveKeyword n y) b m is = cc
ended_keeps l h ss q e d sign.RestartKeyword b m is = cc
ended_keeps l h ss q e d (sign.CapitalKeyword n y) b m is = cc
ended_keeps l h ss q e d (sign.Argument n t r) b m is = cc
ended_keeps l h ss q e d (sign.Delegate n r) b m is = cc
ended_keeps l h ss q e d (sign.Operator n r) b m is = cc
ended_keeps l h ss q e d sign.OpenParen b m is = cc
ended_keeps l h ss q e d sign.CloseParen b m is = moving_keeps Moves.stay _ (Moves.body_end h (g.code ss (Some q) e (Some d)) b Moves.paren) m _ is (λ y' i'. body_keeps h (g.code ss (Some q) e (Some d)) b Moves.paren y' i')
ended_keeps l h ss q e d sign.OpenBracket b m is = cc
ended_keeps l h ss q e d sign.CloseBracket b m is = moving_keeps Moves.stay _ (Moves.body_end h (g.code ss (Some q) e (Some d)) b Moves.bracket) m _ is (λ y' i'. body_keeps h (g.code ss (Some q) e (Some d)) b Moves.bracket y' i')
ended_keeps l h ss q e d sign.Bar b m is = cc
ended_keeps l h ss q e d sign.Period b m is = cc
ended_keeps l h ss q e d sign.Caret b m is = cc
ended_keeps l h ss q e d sign.End b m is = cc
ended_keeps l h ss q e d (sign.Bad z) b m is = cc

free_keeps : (r : Reserved) (o : Option Moves.Move) (m : Moves.Move) (b : Bool) → v.if_free r o ≡ Some m → (o ≡ Some m → base m.to ≡ b) → base m.to ≡ b
free_keeps Free o m b is h = h is
free_keeps Itself o m b is h = cc
free_keeps Resend o m b is h = cc

equals_keeps : (r : Role) (o : Option Moves.Move) (m : Moves.Move) (b : Bool) → v.at_equals r o ≡ Some m → (o ≡ Some m → base m.to ≡ b) → base m.to ≡ b
equals_keeps Equals o m b is h = h is
equals_keeps Arrow o m b is h = cc
equals_keeps Star o m b is h = cc
equals_keeps Other o m b is h = cc

done_keeps : (l : Limits) (h : Lists) (y : g.Slot) (pre : Context → Context) (x : v.After) (b : Spot) (m : Moves.Move) → v.done_move l h y pre x b ≡ Some m → base m.to ≡ lists_base h
done_keeps l (in_world ms) (g.member y) pre v.period b m is = kept _ m _ is refl
done_keeps l (in_world ms) (g.member y) pre v.bar b m is = cc
done_keeps l (in_world ms) (g.member y) pre v.end b m is = kept _ m _ is refl
done_keeps l (in_world ms) (g.argument n) pre v.period b m is = cc
done_keeps l (in_world ms) (g.argument n) pre v.bar b m is = cc
done_keeps l (in_world ms) (g.argument n) pre v.end b m is = cc
done_keeps l (in_bars h q d ss) y pre v.period b m is = kept _ m _ is refl
done_keeps l (in_bars h q d ss) y pre v.bar b m is = kept _ m _ is refl
done_keeps l (in_bars h q d ss) y pre v.end b m is = cc
done_keeps l (in_object h q d ss) y pre v.period b m is = kept _ m _ is refl
done_keeps l (in_object h q d ss) y pre v.bar b m is = kept _ m _ is refl
done_keeps l (in_object h q d ss) y pre v.end b m is = cc

list_end_keeps : (l : Limits) (h : Start) (x : v.After) (b : Spot) (m : Moves.Move) → v.list_end l h x b ≡ Some m → base m.to ≡ start_base h
list_end_keeps l (listed (in_world ms)) v.period b m is = cc
list_end_keeps l (listed (in_world ms)) v.bar b m is = cc
list_end_keeps l (listed (in_world ms)) v.end b m is = kept _ m _ is refl
list_end_keeps l (listed (in_bars h q d ss)) v.period b m is = cc
list_end_keeps l (listed (in_bars h q d ss)) v.bar b m is = kept _ m _ is refl
list_end_keeps l (listed (in_bars h q d ss)) v.end b m is = cc
list_end_keeps l (listed (in_object h q d ss)) v.period b m is = cc
list_end_keeps l (listed (in_object h q d ss)) v.bar b m is = kept _ m _ is refl
list_end_keeps l (listed (in_object h q d ss)) v.end b m is = cc
list_end_keeps l lone x b m is = cc

argument_keeps : (l : Limits) (h : Start) (n : g.Label) (m : Moves.Move) → v.argument_move l h n ≡ Some m → base m.to ≡ start_base h
argument_keeps l (listed (in_world ms)) n m is = cc
argument_keeps l (listed (in_bars h q d ss)) n m is = kept _ m _ is refl
argument_keeps l (listed (in_object h q d ss)) n m is = kept _ m _ is refl
argument_keeps l lone n m is = cc

named_role_keeps : (l : Limits) (h : Start) (n : g.Label) (e : g.Word) (r : Role) (m : Moves.Move) → v.named_role l h n e r ≡ Some m → base m.to ≡ start_base h
named_role_keeps l (listed h) n e Equals m is = kept _ m _ is refl
named_role_keeps l (listed h) n e Arrow m is = kept _ m _ is refl
named_role_keeps l (listed h) n e Star m is = kept _ m _ is refl
named_role_keeps l (listed h) n e Other m is = cc
named_role_keeps l lone n e Equals m is = kept _ m _ is refl
named_role_keeps l lone n e Arrow m is = cc
named_role_keeps l lone n e Star m is = cc
named_role_keeps l lone n e Other m is = cc

bare_keeps : (l : Limits) (h : Start) (n : g.Label) (x : v.After) (b : Spot) (m : Moves.Move) → v.bare_move l h n x b ≡ Some m → base m.to ≡ start_base h
bare_keeps l (listed h) n x b m is = done_keeps l h (g.member (g.bare n)) _ x b m is
bare_keeps l lone n x b m is = cc

first_argument_keeps : (l : Limits) (h : Start) (n : g.KeywordName) (a : g.Label) (m : Moves.Move) → v.first_argument l h n a ≡ Some m → base m.to ≡ start_base h
first_argument_keeps l h (g.keyword_first i) a m is = kept _ m _ is refl
first_argument_keeps l h (g.keyword_next n q) a m is = cc

simple_keeps : (h : Contents) (d : g.Simple) (i : Item) (m : Moves.Move) → v.simple_move h d i ≡ Some m → base m.to ≡ contents_base h
simple_keeps (undecided h n e) d i m is = kept _ m _ is refl
simple_keeps (coded h y e) d i m is = cc

datum_base : (h : DataHole) (d : g.Datum) → base (v.datum_done h d) ≡ data_base h
datum_base (assigned h n a) d = refl
datum_base (parental h n y a) d = refl

behind_pre_keeps : (f : Context → Context) (o : Option Moves.Move) (m : Moves.Move) (b : Bool) → v.behind_pre f o ≡ Some m → ((y : Moves.Move) → o ≡ Some y → base y.to ≡ b) → base m.to ≡ b
behind_pre_keeps f None m b is h = cc
behind_pre_keeps f (Some y) m b is h = kept (record y { pre = λ c. y.pre (f c) }) m b is (h y refl)

code_keeps : (l : Limits) (h : Contents) (q : Spot) (x : Symbol) (b : Spot) (m : Moves.Move) → v.code_begins h q x b ≡ Some m → base m.to ≡ contents_base h
code_keeps l h q x b m is =
    behind_pre_keeps Moves.enter (Moves.begin_move (alone (statement (in_method h q) g.none)) x b) m _ is (λ y e. begin_keeps l (alone (statement (in_method h q) g.none)) x b y e)

empty_object_keeps : (h : Contents) (q b : Spot) (m : Moves.Move) → v.empty_object_move h q b ≡ Some m → base m.to ≡ contents_base h
empty_object_keeps (undecided h n e) q b m is = kept _ m _ is refl
empty_object_keeps (coded h x e) q b m is = cc

object_keeps : (l : Limits) (h : Contents) (q d : Spot) (sl : g.Slots) (d2 b : Spot) (m : Moves.Move) → v.object_move l h q d sl d2 b ≡ Some m → base m.to ≡ contents_base h
object_keeps l (undecided h n e) q d sl d2 b m is = kept _ m _ is refl
object_keeps l (coded h x e) q d sl d2 b m is = cc

barred_keeps : (l : Limits) (h : Contents) (q d : Spot) (sl : g.Slots) (d2 : Spot) (x : Symbol) (b : Spot) (m : Moves.Move) →
    v.behind_pre (v.barred_pre l h sl) (Moves.begin_move (alone (statement (in_slotted h q d sl d2) g.none)) x b) ≡ Some m → base m.to ≡ contents_base h
barred_keeps l h q d sl d2 x b m is =
    behind_pre_keeps (v.barred_pre l h sl) (Moves.begin_move (alone (statement (in_slotted h q d sl d2) g.none)) x b) m _ is (λ y e. begin_keeps l (alone (statement (in_slotted h q d sl d2) g.none)) x b y e)

slot_keeps : (l : Limits) (h : Start) (x : Symbol) (b : Spot) (m : Moves.Move) → v.slot_move l h x b ≡ Some m → base m.to ≡ base (Moves.at_slot h)
slot_keeps l h (sign.Integer z) b m is = cc
slot_keeps l h (sign.Text i j) b m is = cc
slot_keeps l h (sign.Name n t r) b m is = free_keeps r (Moves.simply (v.name_event l (start_scope l h) (Moves.label n t b)) (Moves.named h (Moves.label n t b))) m _ is (λ e. kept _ m _ e refl)
slot_keeps l h (sign.Primitive n) b m is = cc
slot_keeps l h sign.Restart b m is = cc
slot_keeps l h (sign.Keyword n) b m is = kept _ m _ is refl
slot_keeps l h (sign.PrimitiveKeyword n y) b m is = cc
slot_keeps l h sign.RestartKeyword b m is = cc
slot_keeps l h (sign.CapitalKeyword n y) b m is = cc
slot_keeps l h (sign.Argument n t r) b m is = free_keeps r (v.argument_move l h (Moves.label n t b)) m _ is (argument_keeps l h (Moves.label n t b) m)
slot_keeps l h (sign.Delegate n r) b m is = cc
slot_keeps l h (sign.Operator n r) b m is = kept _ m _ is refl
slot_keeps l h sign.OpenParen b m is = cc
slot_keeps l h sign.CloseParen b m is = cc
slot_keeps l h sign.OpenBracket b m is = cc
slot_keeps l h sign.CloseBracket b m is = cc
slot_keeps l h sign.Bar b m is = list_end_keeps l h v.bar b m is
slot_keeps l h sign.Period b m is = cc
slot_keeps l h sign.Caret b m is = cc
slot_keeps l h sign.End b m is = list_end_keeps l h v.end b m is
slot_keeps l h (sign.Bad z) b m is = cc

named_keeps : (l : Limits) (h : Start) (w' : g.Label) (x : Symbol) (b : Spot) (m : Moves.Move) → v.named_move l h w' x b ≡ Some m → base m.to ≡ base (Moves.named h w')
named_keeps l h w' (sign.Integer z) b m is = cc
named_keeps l h w' (sign.Text i j) b m is = cc
named_keeps l h w' (sign.Name n t r) b m is = cc
named_keeps l h w' (sign.Primitive n) b m is = cc
named_keeps l h w' sign.Restart b m is = cc
named_keeps l h w' (sign.Keyword n) b m is = cc
named_keeps l h w' (sign.PrimitiveKeyword n y) b m is = cc
named_keeps l h w' sign.RestartKeyword b m is = cc
named_keeps l h w' (sign.CapitalKeyword n y) b m is = cc
named_keeps l h w' (sign.Argument n t r) b m is = cc
named_keeps l h w' (sign.Delegate n r) b m is = cc
named_keeps l h w' (sign.Operator n r) b m is = named_role_keeps l h w' (Moves.word n b) r m is
named_keeps l h w' sign.OpenParen b m is = cc
named_keeps l h w' sign.CloseParen b m is = cc
named_keeps l h w' sign.OpenBracket b m is = cc
named_keeps l h w' sign.CloseBracket b m is = cc
named_keeps l h w' sign.Bar b m is = bare_keeps l h w' v.bar b m is
named_keeps l h w' sign.Period b m is = bare_keeps l h w' v.period b m is
named_keeps l h w' sign.Caret b m is = cc
named_keeps l h w' sign.End b m is = bare_keeps l h w' v.end b m is
named_keeps l h w' (sign.Bad z) b m is = cc

starred_keeps : (l : Limits) (h : Lists) (w' : g.Label) (y' : g.Word) (x : Symbol) (b : Spot) (m : Moves.Move) → v.starred_move h w' y' x b ≡ Some m → base m.to ≡ base (Moves.starred h w' y')
starred_keeps l h w' y' (sign.Integer z) b m is = cc
starred_keeps l h w' y' (sign.Text i j) b m is = cc
starred_keeps l h w' y' (sign.Name n t r) b m is = cc
starred_keeps l h w' y' (sign.Primitive n) b m is = cc
starred_keeps l h w' y' sign.Restart b m is = cc
starred_keeps l h w' y' (sign.Keyword n) b m is = cc
starred_keeps l h w' y' (sign.PrimitiveKeyword n y) b m is = cc
starred_keeps l h w' y' sign.RestartKeyword b m is = cc
starred_keeps l h w' y' (sign.CapitalKeyword n y) b m is = cc
starred_keeps l h w' y' (sign.Argument n t r) b m is = cc
starred_keeps l h w' y' (sign.Delegate n r) b m is = cc
starred_keeps l h w' y' (sign.Operator n r) b m is = equals_keeps r (Moves.simply quiet (Moves.data_wanted (parental h w' y' (Moves.word n b)))) m _ is (λ e. kept _ m _ e refl)
starred_keeps l h w' y' sign.OpenParen b m is = cc
starred_keeps l h w' y' sign.CloseParen b m is = cc
starred_keeps l h w' y' sign.OpenBracket b m is = cc
starred_keeps l h w' y' sign.CloseBracket b m is = cc
starred_keeps l h w' y' sign.Bar b m is = cc
starred_keeps l h w' y' sign.Period b m is = cc
starred_keeps l h w' y' sign.Caret b m is = cc
starred_keeps l h w' y' sign.End b m is = cc
starred_keeps l h w' y' (sign.Bad z) b m is = cc

operator_named_keeps : (l : Limits) (h : Start) (o : g.AnyOperator) (x : Symbol) (b : Spot) (m : Moves.Move) → v.operator_named_move l h o x b ≡ Some m → base m.to ≡ base (Moves.operator_named h o)
operator_named_keeps l h o (sign.Integer z) b m is = cc
operator_named_keeps l h o (sign.Text i j) b m is = cc
operator_named_keeps l h o (sign.Name n t r) b m is = free_keeps r (Moves.simply (v.head_argument_event l (scope activation) (Moves.label n t b)) (Moves.operator_argued h o (Moves.label n t b))) m _ is (λ e. kept _ m _ e refl)
operator_named_keeps l h o (sign.Primitive n) b m is = cc
operator_named_keeps l h o sign.Restart b m is = cc
operator_named_keeps l h o (sign.Keyword n) b m is = cc
operator_named_keeps l h o (sign.PrimitiveKeyword n y) b m is = cc
operator_named_keeps l h o sign.RestartKeyword b m is = cc
operator_named_keeps l h o (sign.CapitalKeyword n y) b m is = cc
operator_named_keeps l h o (sign.Argument n t r) b m is = cc
operator_named_keeps l h o (sign.Delegate n r) b m is = cc
operator_named_keeps l h o (sign.Operator n r) b m is = equals_keeps r (Moves.simply quiet (Moves.holding (coded h (g.operator o) (Moves.word n b)))) m _ is (λ e. kept _ m _ e refl)
operator_named_keeps l h o sign.OpenParen b m is = cc
operator_named_keeps l h o sign.CloseParen b m is = cc
operator_named_keeps l h o sign.OpenBracket b m is = cc
operator_named_keeps l h o sign.CloseBracket b m is = cc
operator_named_keeps l h o sign.Bar b m is = cc
operator_named_keeps l h o sign.Period b m is = cc
operator_named_keeps l h o sign.Caret b m is = cc
operator_named_keeps l h o sign.End b m is = cc
operator_named_keeps l h o (sign.Bad z) b m is = cc

operator_argued_keeps : (l : Limits) (h : Start) (o : g.AnyOperator) (a : g.Label) (x : Symbol) (b : Spot) (m : Moves.Move) → v.operator_argued_move h o a x b ≡ Some m → base m.to ≡ base (Moves.operator_argued h o a)
operator_argued_keeps l h o a (sign.Integer z) b m is = cc
operator_argued_keeps l h o a (sign.Text i j) b m is = cc
operator_argued_keeps l h o a (sign.Name n t r) b m is = cc
operator_argued_keeps l h o a (sign.Primitive n) b m is = cc
operator_argued_keeps l h o a sign.Restart b m is = cc
operator_argued_keeps l h o a (sign.Keyword n) b m is = cc
operator_argued_keeps l h o a (sign.PrimitiveKeyword n y) b m is = cc
operator_argued_keeps l h o a sign.RestartKeyword b m is = cc
operator_argued_keeps l h o a (sign.CapitalKeyword n y) b m is = cc
operator_argued_keeps l h o a (sign.Argument n t r) b m is = cc
operator_argued_keeps l h o a (sign.Delegate n r) b m is = cc
operator_argued_keeps l h o a (sign.Operator n r) b m is = equals_keeps r (Moves.simply quiet (Moves.holding (coded h (g.operator_with o a) (Moves.word n b)))) m _ is (λ e. kept _ m _ e refl)
operator_argued_keeps l h o a sign.OpenParen b m is = cc
operator_argued_keeps l h o a sign.CloseParen b m is = cc
operator_argued_keeps l h o a sign.OpenBracket b m is = cc
operator_argued_keeps l h o a sign.CloseBracket b m is = cc
operator_argued_keeps l h o a sign.Bar b m is = cc
operator_argued_keeps l h o a sign.Period b m is = cc
operator_argued_keeps l h o a sign.Caret b m is = cc
operator_argued_keeps l h o a sign.End b m is = cc
operator_argued_keeps l h o a (sign.Bad z) b m is = cc

keyword_named_keeps : (l : Limits) (h : Start) (kn : g.KeywordName) (x : Symbol) (b : Spot) (m : Moves.Move) → v.keyword_named_move l h kn x b ≡ Some m → base m.to ≡ base (Moves.keyword_named h kn)
keyword_named_keeps l h kn (sign.Integer z) b m is = cc
keyword_named_keeps l h kn (sign.Text i j) b m is = cc
keyword_named_keeps l h kn (sign.Name n t r) b m is = free_keeps r (v.first_argument l h kn (Moves.label n t b)) m _ is (first_argument_keeps l h kn (Moves.label n t b) m)
keyword_named_keeps l h kn (sign.Primitive n) b m is = cc
keyword_named_keeps l h kn sign.Restart b m is = cc
keyword_named_keeps l h kn (sign.Keyword n) b m is = cc
keyword_named_keeps l h kn (sign.PrimitiveKeyword n y) b m is = cc
keyword_named_keeps l h kn sign.RestartKeyword b m is = cc
keyword_named_keeps l h kn (sign.CapitalKeyword n y) b m is = kept _ m _ is refl
keyword_named_keeps l h kn (sign.Argument n t r) b m is = cc
keyword_named_keeps l h kn (sign.Delegate n r) b m is = cc
keyword_named_keeps l h kn (sign.Operator n r) b m is = equals_keeps r (Moves.simply (v.keyword_broken l h kn) (Moves.holding (coded h (g.keyword kn) (Moves.word n b)))) m _ is (λ e. kept _ m _ e refl)
keyword_named_keeps l h kn sign.OpenParen b m is = cc
keyword_named_keeps l h kn sign.CloseParen b m is = cc
keyword_named_keeps l h kn sign.OpenBracket b m is = cc
keyword_named_keeps l h kn sign.CloseBracket b m is = cc
keyword_named_keeps l h kn sign.Bar b m is = cc
keyword_named_keeps l h kn sign.Period b m is = cc
keyword_named_keeps l h kn sign.Caret b m is = cc
keyword_named_keeps l h kn sign.End b m is = cc
keyword_named_keeps l h kn (sign.Bad z) b m is = cc

keyword_argued_keeps : (l : Limits) (h : Start) (kh : g.KeywordHead) (x : Symbol) (b : Spot) (m : Moves.Move) → v.keyword_argued_move l h kh x b ≡ Some m → base m.to ≡ base (Moves.keyword_argued h kh)
keyword_argued_keeps l h kh (sign.Integer z) b m is = cc
keyword_argued_keeps l h kh (sign.Text i j) b m is = cc
keyword_argued_keeps l h kh (sign.Name n t r) b m is = cc
keyword_argued_keeps l h kh (sign.Primitive n) b m is = cc
keyword_argued_keeps l h kh sign.Restart b m is = cc
keyword_argued_keeps l h kh (sign.Keyword n) b m is = cc
keyword_argued_keeps l h kh (sign.PrimitiveKeyword n y) b m is = cc
keyword_argued_keeps l h kh sign.RestartKeyword b m is = cc
keyword_argued_keeps l h kh (sign.CapitalKeyword n y) b m is = kept _ m _ is refl
keyword_argued_keeps l h kh (sign.Argument n t r) b m is = cc
keyword_argued_keeps l h kh (sign.Delegate n r) b m is = cc
keyword_argued_keeps l h kh (sign.Operator n r) b m is = equals_keeps r (Moves.simply (v.keyword_broken l h (s.head_name kh)) (Moves.holding (coded h (g.keyword_with kh) (Moves.word n b)))) m _ is (λ e. kept _ m _ e refl)
keyword_argued_keeps l h kh sign.OpenParen b m is = cc
keyword_argued_keeps l h kh sign.CloseParen b m is = cc
keyword_argued_keeps l h kh sign.OpenBracket b m is = cc
keyword_argued_keeps l h kh sign.CloseBracket b m is = cc
keyword_argued_keeps l h kh sign.Bar b m is = cc
keyword_argued_keeps l h kh sign.Period b m is = cc
keyword_argued_keeps l h kh sign.Caret b m is = cc
keyword_argued_keeps l h kh sign.End b m is = cc
keyword_argued_keeps l h kh (sign.Bad z) b m is = cc

keyword_wanting_keeps : (l : Limits) (h : Start) (kh : g.KeywordHead) (q : g.Part) (x : Symbol) (b : Spot) (m : Moves.Move) → v.keyword_wanting_move l h kh q x b ≡ Some m → base m.to ≡ base (Moves.keyword_wanting h kh q)
keyword_wanting_keeps l h kh q (sign.Integer z) b m is = cc
keyword_wanting_keeps l h kh q (sign.Text i j) b m is = cc
keyword_wanting_keeps l h kh q (sign.Name n t r) b m is = free_keeps r (Moves.simply (v.head_argument_event l (head_inner kh) (Moves.label n t b)) (Moves.keyword_argued h (g.head_next kh q (Moves.label n t b)))) m _ is (λ e. kept _ m _ e refl)
keyword_wanting_keeps l h kh q (sign.Primitive n) b m is = cc
keyword_wanting_keeps l h kh q sign.Restart b m is = cc
keyword_wanting_keeps l h kh q (sign.Keyword n) b m is = cc
keyword_wanting_keeps l h kh q (sign.PrimitiveKeyword n y) b m is = cc
keyword_wanting_keeps l h kh q sign.RestartKeyword b m is = cc
keyword_wanting_keeps l h kh q (sign.CapitalKeyword n y) b m is = cc
keyword_wanting_keeps l h kh q (sign.Argument n t r) b m is = cc
keyword_wanting_keeps l h kh q (sign.Delegate n r) b m is = cc
keyword_wanting_keeps l h kh q (sign.Operator n r) b m is = cc
keyword_wanting_keeps l h kh q sign.OpenParen b m is = cc
keyword_wanting_keeps l h kh q sign.CloseParen b m is = cc
keyword_wanting_keeps l h kh q sign.OpenBracket b m is = cc
keyword_wanting_keeps l h kh q sign.CloseBracket b m is = cc
keyword_wanting_keeps l h kh q sign.Bar b m is = cc
keyword_wanting_keeps l h kh q sign.Period b m is = cc
keyword_wanting_keeps l h kh q sign.Caret b m is = cc
keyword_wanting_keeps l h kh q sign.End b m is = cc
keyword_wanting_keeps l h kh q (sign.Bad z) b m is = cc

holding_keeps : (l : Limits) (h : Contents) (x : Symbol) (b : Spot) (m : Moves.Move) → v.holding_move l h x b ≡ Some m → base m.to ≡ base (Moves.holding h)
holding_keeps l h (sign.Integer z) b m is = simple_keeps h _ _ m is
holding_keeps l h (sign.Text i j) b m is = simple_keeps h _ _ m is
holding_keeps l h (sign.Name n t r) b m is = simple_keeps h _ _ m is
holding_keeps l h (sign.Primitive n) b m is = cc
holding_keeps l h sign.Restart b m is = cc
holding_keeps l h (sign.Keyword n) b m is = cc
holding_keeps l h (sign.PrimitiveKeyword n y) b m is = cc
holding_keeps l h sign.RestartKeyword b m is = cc
holding_keeps l h (sign.CapitalKeyword n y) b m is = cc
holding_keeps l h (sign.Argument n t r) b m is = cc
holding_keeps l h (sign.Delegate n r) b m is = cc
holding_keeps l h (sign.Operator n r) b m is = cc
holding_keeps l h sign.OpenParen b m is = kept _ m _ is refl
holding_keeps l h sign.CloseParen b m is = cc
holding_keeps l h sign.OpenBracket b m is = cc
holding_keeps l h sign.CloseBracket b m is = cc
holding_keeps l h sign.Bar b m is = cc
holding_keeps l h sign.Period b m is = cc
holding_keeps l h sign.Caret b m is = cc
holding_keeps l h sign.End b m is = cc
holding_keeps l h (sign.Bad z) b m is = cc

data_wanted_keeps : (l : Limits) (h : DataHole) (x : Symbol) (b : Spot) (m : Moves.Move) → v.data_wanted_move h x b ≡ Some m → base m.to ≡ base (Moves.data_wanted h)
data_wanted_keeps l h (sign.Integer z) b m is = kept _ m _ is (datum_base h _)
data_wanted_keeps l h (sign.Text i j) b m is = kept _ m _ is (datum_base h _)
data_wanted_keeps l h (sign.Name n t r) b m is = kept _ m _ is (datum_base h _)
data_wanted_keeps l h (sign.Primitive n) b m is = cc
data_wanted_keeps l h sign.Restart b m is = cc
data_wanted_keeps l h (sign.Keyword n) b m is = cc
data_wanted_keeps l h (sign.PrimitiveKeyword n y) b m is = cc
data_wanted_keeps l h sign.RestartKeyword b m is = cc
data_wanted_keeps l h (sign.CapitalKeyword n y) b m is = cc
data_wanted_keeps l h (sign.Argument n t r) b m is = cc
data_wanted_keeps l h (sign.Delegate n r) b m is = cc
data_wanted_keeps l h (sign.Operator n r) b m is = cc
data_wanted_keeps l h sign.OpenParen b m is = kept _ m _ is refl
data_wanted_keeps l h sign.CloseParen b m is = cc
data_wanted_keeps l h sign.OpenBracket b m is = cc
data_wanted_keeps l h sign.CloseBracket b m is = cc
data_wanted_keeps l h sign.Bar b m is = cc
data_wanted_keeps l h sign.Period b m is = cc
data_wanted_keeps l h sign.Caret b m is = cc
data_wanted_keeps l h sign.End b m is = cc
data_wanted_keeps l h (sign.Bad z) b m is = cc

opened_keeps : (l : Limits) (h : Contents) (q : Spot) (x : Symbol) (b : Spot) (m : Moves.Move) → v.opened_move h q x b ≡ Some m → base m.to ≡ base (Moves.opened h q)
opened_keeps l h q (sign.Integer z) b m is = code_keeps l h q (sign.Integer z) b m is
opened_keeps l h q (sign.Text i j) b m is = code_keeps l h q (sign.Text i j) b m is
opened_keeps l h q (sign.Name n t r) b m is = code_keeps l h q (sign.Name n t r) b m is
opened_keeps l h q (sign.Primitive n) b m is = code_keeps l h q (sign.Primitive n) b m is
opened_keeps l h q sign.Restart b m is = code_keeps l h q sign.Restart b m is
opened_keeps l h q (sign.Keyword n) b m is = code_keeps l h q (sign.Keyword n) b m is
opened_keeps l h q (sign.PrimitiveKeyword n y) b m is = code_keeps l h q (sign.PrimitiveKeyword n y) b m is
opened_keeps l h q sign.RestartKeyword b m is = code_keeps l h q sign.RestartKeyword b m is
opened_keeps l h q (sign.CapitalKeyword n y) b m is = code_keeps l h q (sign.CapitalKeyword n y) b m is
opened_keeps l h q (sign.Argument n t r) b m is = code_keeps l h q (sign.Argument n t r) b m is
opened_keeps l h q (sign.Delegate n r) b m is = code_keeps l h q (sign.Delegate n r) b m is
opened_keeps l h q (sign.Operator n r) b m is = code_keeps l h q (sign.Operator n r) b m is
opened_keeps l h q sign.OpenParen b m is = code_keeps l h q sign.OpenParen b m is
opened_keeps l h q sign.CloseParen b m is = empty_object_keeps h q b m is
opened_keeps l h q sign.OpenBracket b m is = code_keeps l h q sign.OpenBracket b m is
opened_keeps l h q sign.CloseBracket b m is = code_keeps l h q sign.CloseBracket b m is
opened_keeps l h q sign.Bar b m is = kept _ m _ is refl
opened_keeps l h q sign.Period b m is = code_keeps l h q sign.Period b m is
opened_keeps l h q sign.Caret b m is = code_keeps l h q sign.Caret b m is
opened_keeps l h q sign.End b m is = code_keeps l h q sign.End b m is
opened_keeps l h q (sign.Bad z) b m is = code_keeps l h q (sign.Bad z) b m is

data_opened_keeps : (l : Limits) (h : DataHole) (q : Spot) (x : Symbol) (b : Spot) (m : Moves.Move) → v.data_opened_move h q x b ≡ Some m → base m.to ≡ base (Moves.data_opened h q)
data_opened_keeps l h q (sign.Integer z) b m is = cc
data_opened_keeps l h q (sign.Text i j) b m is = cc
data_opened_keeps l h q (sign.Name n t r) b m is = cc
data_opened_keeps l h q (sign.Primitive n) b m is = cc
data_opened_keeps l h q sign.Restart b m is = cc
data_opened_keeps l h q (sign.Keyword n) b m is = cc
data_opened_keeps l h q (sign.PrimitiveKeyword n y) b m is = cc
data_opened_keeps l h q sign.RestartKeyword b m is = cc
data_opened_keeps l h q (sign.CapitalKeyword n y) b m is = cc
data_opened_keeps l h q (sign.Argument n t r) b m is = cc
data_opened_keeps l h q (sign.Delegate n r) b m is = cc
data_opened_keeps l h q (sign.Operator n r) b m is = cc
data_opened_keeps l h q sign.OpenParen b m is = cc
data_opened_keeps l h q sign.CloseParen b m is = kept _ m _ is (datum_base h _)
data_opened_keeps l h q sign.OpenBracket b m is = cc
data_opened_keeps l h q sign.CloseBracket b m is = cc
data_opened_keeps l h q sign.Bar b m is = kept _ m _ is refl
data_opened_keeps l h q sign.Period b m is = cc
data_opened_keeps l h q sign.Caret b m is = cc
data_opened_keeps l h q sign.End b m is = cc
data_opened_keeps l h q (sign.Bad z) b m is = cc

shut_keeps : (l : Limits) (h : Contents) (q d : Spot) (sl : g.Slots) (d2 : Spot) (x : Symbol) (b : Spot) (m : Moves.Move) → v.shut_move l h q d sl d2 x b ≡ Some m → base m.to ≡ base (Moves.shut h q d sl d2)
shut_keeps l h q d sl d2 (sign.Integer z) b m is = barred_keeps l h q d sl d2 (sign.Integer z) b m is
shut_keeps l h q d sl d2 (sign.Text i j) b m is = barred_keeps l h q d sl d2 (sign.Text i j) b m is
shut_keeps l h q d sl d2 (sign.Name n t r) b m is = barred_keeps l h q d sl d2 (sign.Name n t r) b m is
shut_keeps l h q d sl d2 (sign.Primitive n) b m is = barred_keeps l h q d sl d2 (sign.Primitive n) b m is
shut_keeps l h q d sl d2 sign.Restart b m is = barred_keeps l h q d sl d2 sign.Restart b m is
shut_keeps l h q d sl d2 (sign.Keyword n) b m is = barred_keeps l h q d sl d2 (sign.Keyword n) b m is
shut_keeps l h q d sl d2 (sign.PrimitiveKeyword n y) b m is = barred_keeps l h q d sl d2 (sign.PrimitiveKeyword n y) b m is
shut_keeps l h q d sl d2 sign.RestartKeyword b m is = barred_keeps l h q d sl d2 sign.RestartKeyword b m is
shut_keeps l h q d sl d2 (sign.CapitalKeyword n y) b m is = barred_keeps l h q d sl d2 (sign.CapitalKeyword n y) b m is
shut_keeps l h q d sl d2 (sign.Argument n t r) b m is = barred_keeps l h q d sl d2 (sign.Argument n t r) b m is
shut_keeps l h q d sl d2 (sign.Delegate n r) b m is = barred_keeps l h q d sl d2 (sign.Delegate n r) b m is
shut_keeps l h q d sl d2 (sign.Operator n r) b m is = barred_keeps l h q d sl d2 (sign.Operator n r) b m is
shut_keeps l h q d sl d2 sign.OpenParen b m is = barred_keeps l h q d sl d2 sign.OpenParen b m is
shut_keeps l h q d sl d2 sign.CloseParen b m is = object_keeps l h q d sl d2 b m is
shut_keeps l h q d sl d2 sign.OpenBracket b m is = barred_keeps l h q d sl d2 sign.OpenBracket b m is
shut_keeps l h q d sl d2 sign.CloseBracket b m is = barred_keeps l h q d sl d2 sign.CloseBracket b m is
shut_keeps l h q d sl d2 sign.Bar b m is = barred_keeps l h q d sl d2 sign.Bar b m is
shut_keeps l h q d sl d2 sign.Period b m is = barred_keeps l h q d sl d2 sign.Period b m is
shut_keeps l h q d sl d2 sign.Caret b m is = barred_keeps l h q d sl d2 sign.Caret b m is
shut_keeps l h q d sl d2 sign.End b m is = barred_keeps l h q d sl d2 sign.End b m is
shut_keeps l h q d sl d2 (sign.Bad z) b m is = barred_keeps l h q d sl d2 (sign.Bad z) b m is

data_shut_keeps : (l : Limits) (h : DataHole) (q d : Spot) (sl : g.Slots) (d2 : Spot) (x : Symbol) (b : Spot) (m : Moves.Move) → v.data_shut_move l h q d sl d2 x b ≡ Some m → base m.to ≡ base (Moves.data_shut h q d sl d2)
data_shut_keeps l h q d sl d2 (sign.Integer z) b m is = cc
data_shut_keeps l h q d sl d2 (sign.Text i j) b m is = cc
data_shut_keeps l h q d sl d2 (sign.Name n t r) b m is = cc
data_shut_keeps l h q d sl d2 (sign.Primitive n) b m is = cc
data_shut_keeps l h q d sl d2 sign.Restart b m is = cc
data_shut_keeps l h q d sl d2 (sign.Keyword n) b m is = cc
data_shut_keeps l h q d sl d2 (sign.PrimitiveKeyword n y) b m is = cc
data_shut_keeps l h q d sl d2 sign.RestartKeyword b m is = cc
data_shut_keeps l h q d sl d2 (sign.CapitalKeyword n y) b m is = cc
data_shut_keeps l h q d sl d2 (sign.Argument n t r) b m is = cc
data_shut_keeps l h q d sl d2 (sign.Delegate n r) b m is = cc
data_shut_keeps l h q d sl d2 (sign.Operator n r) b m is = cc
data_shut_keeps l h q d sl d2 sign.OpenParen b m is = cc
data_shut_keeps l h q d sl d2 sign.CloseParen b m is = kept _ m _ is (datum_base h _)
data_shut_keeps l h q d sl d2 sign.OpenBracket b m is = cc
data_shut_keeps l h q d sl d2 sign.CloseBracket b m is = cc
data_shut_keeps l h q d sl d2 sign.Bar b m is = cc
data_shut_keeps l h q d sl d2 sign.Period b m is = cc
data_shut_keeps l h q d sl d2 sign.Caret b m is = cc
data_shut_keeps l h q d sl d2 sign.End b m is = cc
data_shut_keeps l h q d sl d2 (sign.Bad z) b m is = cc

path_keeps : (h : Lists) (f : g.Member) (n t : ℕ) (r : Reserved) (b : Spot) (m : Moves.Move) → v.path_move h f (Moves.any n t r b) ≡ Some m → base m.to ≡ lists_base h
path_keeps h (g.constant i e (g.object o)) n t r b m is = cc
path_keeps h (g.constant i e (g.simple (g.integer z c))) n t r b m is = cc
path_keeps h (g.constant i e (g.simple (g.string c))) n t r b m is = cc
path_keeps h (g.constant i e (g.simple (g.path q))) n t r b m is = kept _ m _ is refl
path_keeps h (g.assignable i a (g.object o)) n t r b m is = cc
path_keeps h (g.assignable i a (g.simple (g.integer z c))) n t r b m is = cc
path_keeps h (g.assignable i a (g.simple (g.string c))) n t r b m is = cc
path_keeps h (g.assignable i a (g.simple (g.path q))) n t r b m is = kept _ m _ is refl
path_keeps h (g.parent i y e (g.object o)) n t r b m is = cc
path_keeps h (g.parent i y e (g.simple (g.integer z c))) n t r b m is = cc
path_keeps h (g.parent i y e (g.simple (g.string c))) n t r b m is = cc
path_keeps h (g.parent i y e (g.simple (g.path q))) n t r b m is = kept _ m _ is refl
path_keeps h (g.bare i) n t r b m is = cc
path_keeps h (g.coded y) n t r b m is = cc

member_done_keeps : (l : Limits) (h : Lists) (f : g.Member) (x : Symbol) (b : Spot) (m : Moves.Move) → v.member_done_move l h f x b ≡ Some m → base m.to ≡ base (Moves.member_done h f)
member_done_keeps l h f (sign.Integer z) b m is = cc
member_done_keeps l h f (sign.Text i j) b m is = cc
member_done_keeps l h f (sign.Name n t r) b m is = path_keeps h f n t r b m is
member_done_keeps l h f (sign.Primitive n) b m is = cc
member_done_keeps l h f sign.Restart b m is = cc
member_done_keeps l h f (sign.Keyword n) b m is = cc
member_done_keeps l h f (sign.PrimitiveKeyword n y) b m is = cc
member_done_keeps l h f sign.RestartKeyword b m is = cc
member_done_keeps l h f (sign.CapitalKeyword n y) b m is = cc
member_done_keeps l h f (sign.Argument n t r) b m is = cc
member_done_keeps l h f (sign.Delegate n r) b m is = cc
member_done_keeps l h f (sign.Operator n r) b m is = cc
member_done_keeps l h f sign.OpenParen b m is = cc
member_done_keeps l h f sign.CloseParen b m is = cc
member_done_keeps l h f sign.OpenBracket b m is = cc
member_done_keeps l h f sign.CloseBracket b m is = cc
member_done_keeps l h f sign.Bar b m is = done_keeps l h (g.member f) Moves.stay v.bar b m is
member_done_keeps l h f sign.Period b m is = done_keeps l h (g.member f) Moves.stay v.period b m is
member_done_keeps l h f sign.Caret b m is = cc
member_done_keeps l h f sign.End b m is = done_keeps l h (g.member f) Moves.stay v.end b m is
member_done_keeps l h f (sign.Bad z) b m is = cc

argument_done_keeps : (l : Limits) (h : Lists) (w' : g.Label) (x : Symbol) (b : Spot) (m : Moves.Move) → v.argument_done_move l h w' x b ≡ Some m → base m.to ≡ base (Moves.argument_done h w')
argument_done_keeps l h w' (sign.Integer z) b m is = cc
argument_done_keeps l h w' (sign.Text i j) b m is = cc
argument_done_keeps l h w' (sign.Name n t r) b m is = cc
argument_done_keeps l h w' (sign.Primitive n) b m is = cc
argument_done_keeps l h w' sign.Restart b m is = cc
argument_done_keeps l h w' (sign.Keyword n) b m is = cc
argument_done_keeps l h w' (sign.PrimitiveKeyword n y) b m is = cc
argument_done_keeps l h w' sign.RestartKeyword b m is = cc
argument_done_keeps l h w' (sign.CapitalKeyword n y) b m is = cc
argument_done_keeps l h w' (sign.Argument n t r) b m is = cc
argument_done_keeps l h w' (sign.Delegate n r) b m is = cc
argument_done_keeps l h w' (sign.Operator n r) b m is = cc
argument_done_keeps l h w' sign.OpenParen b m is = cc
argument_done_keeps l h w' sign.CloseParen b m is = cc
argument_done_keeps l h w' sign.OpenBracket b m is = cc
argument_done_keeps l h w' sign.CloseBracket b m is = cc
argument_done_keeps l h w' sign.Bar b m is = done_keeps l h (g.argument w') Moves.stay v.bar b m is
argument_done_keeps l h w' sign.Period b m is = done_keeps l h (g.argument w') Moves.stay v.period b m is
argument_done_keeps l h w' sign.Caret b m is = cc
argument_done_keeps l h w' sign.End b m is = done_keeps l h (g.argument w') Moves.stay v.end b m is
argument_done_keeps l h w' (sign.Bad z) b m is = cc

method_keeps : (l : Limits) (h : Contents) (f : g.Method) (x : v.After) (b : Spot) (m : Moves.Move) → v.method_done l h f x b ≡ Some m → base m.to ≡ contents_base h
method_keeps l (undecided h n e) f x b m is = done_keeps l h _ Moves.stay x b m is
method_keeps l (coded (listed h) y e) f x b m is = done_keeps l h _ Moves.stay x b m is
method_keeps l (coded lone y e) f v.period b m is = kept _ m _ is refl
method_keeps l (coded lone y e) f v.bar b m is = cc
method_keeps l (coded lone y e) f v.end b m is = kept _ m _ is refl

behind_keeps : (l : Limits) (h : Contents) (f : g.Method) (x : Symbol) (b : Spot) (m : Moves.Move) → v.behind_move l h f x b ≡ Some m → base m.to ≡ base (Moves.behind h f)
behind_keeps l h f (sign.Integer z) b m is = cc
behind_keeps l h f (sign.Text i j) b m is = cc
behind_keeps l h f (sign.Name n t r) b m is = cc
behind_keeps l h f (sign.Primitive n) b m is = cc
behind_keeps l h f sign.Restart b m is = cc
behind_keeps l h f (sign.Keyword n) b m is = cc
behind_keeps l h f (sign.PrimitiveKeyword n y) b m is = cc
behind_keeps l h f sign.RestartKeyword b m is = cc
behind_keeps l h f (sign.CapitalKeyword n y) b m is = cc
behind_keeps l h f (sign.Argument n t r) b m is = cc
behind_keeps l h f (sign.Delegate n r) b m is = cc
behind_keeps l h f (sign.Operator n r) b m is = cc
behind_keeps l h f sign.OpenParen b m is = cc
behind_keeps l h f sign.CloseParen b m is = cc
behind_keeps l h f sign.OpenBracket b m is = cc
behind_keeps l h f sign.CloseBracket b m is = cc
behind_keeps l h f sign.Bar b m is = method_keeps l h f v.bar b m is
behind_keeps l h f sign.Period b m is = method_keeps l h f v.period b m is
behind_keeps l h f sign.Caret b m is = cc
behind_keeps l h f sign.End b m is = method_keeps l h f v.end b m is
behind_keeps l h f (sign.Bad z) b m is = cc

lone_keeps : (l : Limits) (y' : g.Head) (e : g.Word) (f' : g.Method) (d : Spot) (x : Symbol) (b : Spot) (m : Moves.Move) → v.lone_stopped_move y' e f' d x b ≡ Some m → base m.to ≡ base (Moves.lone_stopped y' e f' d)
lone_keeps l y' e f' d (sign.Integer z) b m is = cc
lone_keeps l y' e f' d (sign.Text i j) b m is = cc
lone_keeps l y' e f' d (sign.Name n t r) b m is = cc
lone_keeps l y' e f' d (sign.Primitive n) b m is = cc
lone_keeps l y' e f' d sign.Restart b m is = cc
lone_keeps l y' e f' d (sign.Keyword n) b m is = cc
lone_keeps l y' e f' d (sign.PrimitiveKeyword n y) b m is = cc
lone_keeps l y' e f' d sign.RestartKeyword b m is = cc
lone_keeps l y' e f' d (sign.CapitalKeyword n y) b m is = cc
lone_keeps l y' e f' d (sign.Argument n t r) b m is = cc
lone_keeps l y' e f' d (sign.Delegate n r) b m is = cc
lone_keeps l y' e f' d (sign.Operator n r) b m is = cc
lone_keeps l y' e f' d sign.OpenParen b m is = cc
lone_keeps l y' e f' d sign.CloseParen b m is = cc
lone_keeps l y' e f' d sign.OpenBracket b m is = cc
lone_keeps l y' e f' d sign.CloseBracket b m is = cc
lone_keeps l y' e f' d sign.Bar b m is = cc
lone_keeps l y' e f' d sign.Period b m is = cc
lone_keeps l y' e f' d sign.Caret b m is = cc
lone_keeps l y' e f' d sign.End b m is = kept _ m _ is refl
lone_keeps l y' e f' d (sign.Bad z) b m is = cc

local_end_keeps : (h : OperandHole) (q d : Spot) (ws : g.LocalsBefore) (y : g.Local) (pre : Context → Context) (x : w.After) (b : Spot) (m : Moves.Move) → w.done_move h q d ws y pre x b ≡ Some m → base m.to ≡ operand_base h
local_end_keeps h q d ws y pre w.period b m is = kept _ m _ is refl
local_end_keeps h q d ws y pre w.bar b m is = kept _ m _ is refl

role_keeps : (l : Limits) (h : OperandHole) (q d : Spot) (ws : g.LocalsBefore) (n : g.Label) (e : g.Word) (r : Role) (m : Moves.Move) → w.role_move l h q d ws n e r ≡ Some m → base m.to ≡ operand_base h
role_keeps l h q d ws n e Equals m is = kept _ m _ is refl
role_keeps l h q d ws n e Arrow m is = kept _ m _ is refl
role_keeps l h q d ws n e Star m is = cc
role_keeps l h q d ws n e Other m is = cc

local_keeps : (l : Limits) (h : OperandHole) (q d : Spot) (ws : g.LocalsBefore) (x : Symbol) (b : Spot) (m : Moves.Move) → w.local_move l h q d ws x b ≡ Some m → base m.to ≡ base (Moves.at_local h q d ws)
local_keeps l h q d ws (sign.Integer z) b m is = cc
local_keeps l h q d ws (sign.Text i j) b m is = cc
local_keeps l h q d ws (sign.Name n t r) b m is = free_keeps r (Moves.simply (v.name_event l (Moves.block_scope l ws) (Moves.label n t b)) (Moves.local_named h q d ws (Moves.label n t b))) m _ is (λ e. kept _ m _ e refl)
local_keeps l h q d ws (sign.Primitive n) b m is = cc
local_keeps l h q d ws sign.Restart b m is = cc
local_keeps l h q d ws (sign.Keyword n) b m is = cc
local_keeps l h q d ws (sign.PrimitiveKeyword n y) b m is = cc
local_keeps l h q d ws sign.RestartKeyword b m is = cc
local_keeps l h q d ws (sign.CapitalKeyword n y) b m is = cc
local_keeps l h q d ws (sign.Argument n t r) b m is = free_keeps r (Moves.simply (v.argument_event l (Moves.block_scope l ws) (Moves.label n t b)) (Moves.local_done h q d ws (g.local_argument (Moves.label n t b)))) m _ is (λ e. kept _ m _ e refl)
local_keeps l h q d ws (sign.Delegate n r) b m is = cc
local_keeps l h q d ws (sign.Operator n r) b m is = cc
local_keeps l h q d ws sign.OpenParen b m is = cc
local_keeps l h q d ws sign.CloseParen b m is = cc
local_keeps l h q d ws sign.OpenBracket b m is = cc
local_keeps l h q d ws sign.CloseBracket b m is = cc
local_keeps l h q d ws sign.Bar b m is = kept _ m _ is refl
local_keeps l h q d ws sign.Period b m is = cc
local_keeps l h q d ws sign.Caret b m is = cc
local_keeps l h q d ws sign.End b m is = cc
local_keeps l h q d ws (sign.Bad z) b m is = cc

local_named_keeps : (l : Limits) (h : OperandHole) (q d : Spot) (ws : g.LocalsBefore) (w' : g.Label) (x : Symbol) (b : Spot) (m : Moves.Move) → w.local_named_move l h q d ws w' x b ≡ Some m → base m.to ≡ base (Moves.local_named h q d ws w')
local_named_keeps l h q d ws w' (sign.Integer z) b m is = cc
local_named_keeps l h q d ws w' (sign.Text i j) b m is = cc
local_named_keeps l h q d ws w' (sign.Name n t r) b m is = cc
local_named_keeps l h q d ws w' (sign.Primitive n) b m is = cc
local_named_keeps l h q d ws w' sign.Restart b m is = cc
local_named_keeps l h q d ws w' (sign.Keyword n) b m is = cc
local_named_keeps l h q d ws w' (sign.PrimitiveKeyword n y) b m is = cc
local_named_keeps l h q d ws w' sign.RestartKeyword b m is = cc
local_named_keeps l h q d ws w' (sign.CapitalKeyword n y) b m is = cc
local_named_keeps l h q d ws w' (sign.Argument n t r) b m is = cc
local_named_keeps l h q d ws w' (sign.Delegate n r) b m is = cc
local_named_keeps l h q d ws w' (sign.Operator n r) b m is = role_keeps l h q d ws w' (Moves.word n b) r m is
local_named_keeps l h q d ws w' sign.OpenParen b m is = cc
local_named_keeps l h q d ws w' sign.CloseParen b m is = cc
local_named_keeps l h q d ws w' sign.OpenBracket b m is = cc
local_named_keeps l h q d ws w' sign.CloseBracket b m is = cc
local_named_keeps l h q d ws w' sign.Bar b m is = local_end_keeps h q d ws (g.local_bare w') (w.bare_pre l ws w') w.bar b m is
local_named_keeps l h q d ws w' sign.Period b m is = local_end_keeps h q d ws (g.local_bare w') (w.bare_pre l ws w') w.period b m is
local_named_keeps l h q d ws w' sign.Caret b m is = cc
local_named_keeps l h q d ws w' sign.End b m is = cc
local_named_keeps l h q d ws w' (sign.Bad z) b m is = cc

local_equals_keeps : (l : Limits) (h : OperandHole) (q d : Spot) (ws : g.LocalsBefore) (w' : g.Label) (e : g.Word) (x : Symbol) (b : Spot) (m : Moves.Move) → w.contents_move h q d ws (g.local_constant w' e) x b ≡ Some m → base m.to ≡ base (Moves.local_equals h q d ws w' e)
local_equals_keeps l h q d ws w' e (sign.Integer z) b m is = kept _ m _ is refl
local_equals_keeps l h q d ws w' e (sign.Text i j) b m is = kept _ m _ is refl
local_equals_keeps l h q d ws w' e (sign.Name n t r) b m is = kept _ m _ is refl
local_equals_keeps l h q d ws w' e (sign.Primitive n) b m is = cc
local_equals_keeps l h q d ws w' e sign.Restart b m is = cc
local_equals_keeps l h q d ws w' e (sign.Keyword n) b m is = cc
local_equals_keeps l h q d ws w' e (sign.PrimitiveKeyword n y) b m is = cc
local_equals_keeps l h q d ws w' e sign.RestartKeyword b m is = cc
local_equals_keeps l h q d ws w' e (sign.CapitalKeyword n y) b m is = cc
local_equals_keeps l h q d ws w' e (sign.Argument n t r) b m is = cc
local_equals_keeps l h q d ws w' e (sign.Delegate n r) b m is = cc
local_equals_keeps l h q d ws w' e (sign.Operator n r) b m is = cc
local_equals_keeps l h q d ws w' e sign.OpenParen b m is = cc
local_equals_keeps l h q d ws w' e sign.CloseParen b m is = cc
local_equals_keeps l h q d ws w' e sign.OpenBracket b m is = cc
local_equals_keeps l h q d ws w' e sign.CloseBracket b m is = cc
local_equals_keeps l h q d ws w' e sign.Bar b m is = cc
local_equals_keeps l h q d ws w' e sign.Period b m is = cc
local_equals_keeps l h q d ws w' e sign.Caret b m is = cc
local_equals_keeps l h q d ws w' e sign.End b m is = cc
local_equals_keeps l h q d ws w' e (sign.Bad z) b m is = cc

local_arrow_keeps : (l : Limits) (h : OperandHole) (q d : Spot) (ws : g.LocalsBefore) (w' : g.Label) (e : g.Word) (x : Symbol) (b : Spot) (m : Moves.Move) → w.contents_move h q d ws (g.local_assignable w' e) x b ≡ Some m → base m.to ≡ base (Moves.local_arrow h q d ws w' e)
local_arrow_keeps l h q d ws w' e (sign.Integer z) b m is = kept _ m _ is refl
local_arrow_keeps l h q d ws w' e (sign.Text i j) b m is = kept _ m _ is refl
local_arrow_keeps l h q d ws w' e (sign.Name n t r) b m is = kept _ m _ is refl
local_arrow_keeps l h q d ws w' e (sign.Primitive n) b m is = cc
local_arrow_keeps l h q d ws w' e sign.Restart b m is = cc
local_arrow_keeps l h q d ws w' e (sign.Keyword n) b m is = cc
local_arrow_keeps l h q d ws w' e (sign.PrimitiveKeyword n y) b m is = cc
local_arrow_keeps l h q d ws w' e sign.RestartKeyword b m is = cc
local_arrow_keeps l h q d ws w' e (sign.CapitalKeyword n y) b m is = cc
local_arrow_keeps l h q d ws w' e (sign.Argument n t r) b m is = cc
local_arrow_keeps l h q d ws w' e (sign.Delegate n r) b m is = cc
local_arrow_keeps l h q d ws w' e (sign.Operator n r) b m is = cc
local_arrow_keeps l h q d ws w' e sign.OpenParen b m is = cc
local_arrow_keeps l h q d ws w' e sign.CloseParen b m is = cc
local_arrow_keeps l h q d ws w' e sign.OpenBracket b m is = cc
local_arrow_keeps l h q d ws w' e sign.CloseBracket b m is = cc
local_arrow_keeps l h q d ws w' e sign.Bar b m is = cc
local_arrow_keeps l h q d ws w' e sign.Period b m is = cc
local_arrow_keeps l h q d ws w' e sign.Caret b m is = cc
local_arrow_keeps l h q d ws w' e sign.End b m is = cc
local_arrow_keeps l h q d ws w' e (sign.Bad z) b m is = cc

local_path_keeps : (h : OperandHole) (q d : Spot) (ws : g.LocalsBefore) (f : g.Local) (n t : ℕ) (r : Reserved) (b : Spot) (m : Moves.Move) → w.path_move h q d ws f (Moves.any n t r b) ≡ Some m → base m.to ≡ operand_base h
local_path_keeps h q d ws (g.local_argument i) n t r b m is = cc
local_path_keeps h q d ws (g.local_bare i) n t r b m is = cc
local_path_keeps h q d ws (g.local_assignable i e (g.integer z c)) n t r b m is = cc
local_path_keeps h q d ws (g.local_assignable i e (g.string c)) n t r b m is = cc
local_path_keeps h q d ws (g.local_assignable i e (g.path c)) n t r b m is = kept _ m _ is refl
local_path_keeps h q d ws (g.local_constant i e (g.integer z c)) n t r b m is = cc
local_path_keeps h q d ws (g.local_constant i e (g.string c)) n t r b m is = cc
local_path_keeps h q d ws (g.local_constant i e (g.path c)) n t r b m is = kept _ m _ is refl

local_done_keeps : (l : Limits) (h : OperandHole) (q d : Spot) (ws : g.LocalsBefore) (f : g.Local) (x : Symbol) (b : Spot) (m : Moves.Move) → w.local_done_move h q d ws f x b ≡ Some m → base m.to ≡ base (Moves.local_done h q d ws f)
local_done_keeps l h q d ws f (sign.Integer z) b m is = cc
local_done_keeps l h q d ws f (sign.Text i j) b m is = cc
local_done_keeps l h q d ws f (sign.Name n t r) b m is = local_path_keeps h q d ws f n t r b m is
local_done_keeps l h q d ws f (sign.Primitive n) b m is = cc
local_done_keeps l h q d ws f sign.Restart b m is = cc
local_done_keeps l h q d ws f (sign.Keyword n) b m is = cc
local_done_keeps l h q d ws f (sign.PrimitiveKeyword n y) b m is = cc
local_done_keeps l h q d ws f sign.RestartKeyword b m is = cc
local_done_keeps l h q d ws f (sign.CapitalKeyword n y) b m is = cc
local_done_keeps l h q d ws f (sign.Argument n t r) b m is = cc
local_done_keeps l h q d ws f (sign.Delegate n r) b m is = cc
local_done_keeps l h q d ws f (sign.Operator n r) b m is = cc
local_done_keeps l h q d ws f sign.OpenParen b m is = cc
local_done_keeps l h q d ws f sign.CloseParen b m is = cc
local_done_keeps l h q d ws f sign.OpenBracket b m is = cc
local_done_keeps l h q d ws f sign.CloseBracket b m is = cc
local_done_keeps l h q d ws f sign.Bar b m is = local_end_keeps h q d ws f Moves.stay w.bar b m is
local_done_keeps l h q d ws f sign.Period b m is = local_end_keeps h q d ws f Moves.stay w.period b m is
local_done_keeps l h q d ws f sign.Caret b m is = cc
local_done_keeps l h q d ws f sign.End b m is = cc
local_done_keeps l h q d ws f (sign.Bad z) b m is = cc

-- A move stays in its kind of text.
pub keeps : (l : Limits) (q' : Moves.Place) (x : Symbol) (b : Spot) (m : Moves.Move) → move l q' x b ≡ Some m → base m.to ≡ base q'
keeps l (Moves.wanting h) x b m is = begin_keeps l h x b m is
keeps l (Moves.having h u) x b m is = having_keeps l h u x b m is
keeps l (Moves.delegated h d) x b m is = delegated_keeps l h d x b m is
keeps l (Moves.ended h ss q e d) x b m is = ended_keeps l h ss q e d x b m is
keeps l (Moves.behind h f) x b m is = behind_keeps l h f x b m is
keeps l (Moves.at_slot h) x b m is = slot_keeps l h x b m is
keeps l (Moves.named h w') x b m is = named_keeps l h w' x b m is
keeps l (Moves.starred h w' y) x b m is = starred_keeps l h w' y x b m is
keeps l (Moves.operator_named h o) x b m is = operator_named_keeps l h o x b m is
keeps l (Moves.operator_argued h o a) x b m is = operator_argued_keeps l h o a x b m is
keeps l (Moves.keyword_named h n) x b m is = keyword_named_keeps l h n x b m is
keeps l (Moves.keyword_argued h n) x b m is = keyword_argued_keeps l h n x b m is
keeps l (Moves.keyword_wanting h n q) x b m is = keyword_wanting_keeps l h n q x b m is
keeps l (Moves.holding h) x b m is = holding_keeps l h x b m is
keeps l (Moves.data_wanted h) x b m is = data_wanted_keeps l h x b m is
keeps l (Moves.opened h q) x b m is = opened_keeps l h q x b m is
keeps l (Moves.data_opened h q) x b m is = data_opened_keeps l h q x b m is
keeps l (Moves.shut h q d sl d2) x b m is = shut_keeps l h q d sl d2 x b m is
keeps l (Moves.data_shut h q d sl d2) x b m is = data_shut_keeps l h q d sl d2 x b m is
keeps l (Moves.member_done h f) x b m is = member_done_keeps l h f x b m is
keeps l (Moves.argument_done h w') x b m is = argument_done_keeps l h w' x b m is
keeps l (Moves.lone_stopped y e f d) x b m is = lone_keeps l y e f d x b m is
keeps l (Moves.at_local h q d ws) x b m is = local_keeps l h q d ws x b m is
keeps l (Moves.local_named h q d ws w') x b m is = local_named_keeps l h q d ws w' x b m is
keeps l (Moves.local_equals h q d ws w' e) x b m is = local_equals_keeps l h q d ws w' e x b m is
keeps l (Moves.local_arrow h q d ws w' e) x b m is = local_arrow_keeps l h q d ws w' e x b m is
keeps l (Moves.local_done h q d ws f) x b m is = local_done_keeps l h q d ws f x b m is
keeps l (Moves.finished t) x b m is = cc

-- What closes a hole is of its kind.
mutual
  pub member_kind : (h : Lists) (m : g.Member) → is_edit (p.member_closing h m) ≡ lists_base h
  member_kind (in_world ms) m = refl
  member_kind (in_bars (undecided h n e) q b ss) m = member_kind h _
  member_kind (in_bars (coded h x e) q b ss) m = start_kind h _
  member_kind (in_object (assigned h n a) q b ss) m = member_kind h _
  member_kind (in_object (parental h n y e) q b ss) m = member_kind h _

  pub start_kind : (h : Start) (m : g.MethodSlot) → is_edit (p.start_closing h m) ≡ start_base h
  start_kind (listed h) m = member_kind h _
  start_kind lone m = refl

pub method_kind : (h : Contents) (f : g.Method) → is_edit (p.method_closing h f) ≡ contents_base h
method_kind (undecided h n e) f = member_kind h _
method_kind (coded h x e) f = start_kind h _

mutual
  pub code_kind : (h : CodeHole) (c : g.Code) → is_edit (p.code_closing h c) ≡ code_base h
  code_kind (in_method h q) c = method_kind h _
  code_kind (in_slotted h q b ss b2) c = method_kind h _
  code_kind (in_block h q bs) c = operand_kind h _

  pub hole_kind : (h : Hole) (e : g.Expression) → is_edit (p.closing h e) ≡ hole_base h
  hole_kind (statement h ss) e = code_kind h _
  hole_kind (returning h ss q) e = code_kind h _
  hole_kind (in_group h q) e = operand_kind h _
  hole_kind (argument h m) e = hole_kind h _

  pub operand_kind : (h : OperandHole) (u : g.Unary) → is_edit (p.operand_closing h u) ≡ operand_base h
  operand_kind (alone h) u = hole_kind h _
  operand_kind (right h n r us) u = hole_kind h _
