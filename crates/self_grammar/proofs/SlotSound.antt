-- Moves in lists of slots go on by their signs.
use Rattle.std.specs.Prelude.{◌≡◌, ℕ, Option, None, Some, List, [], ◌∷◌, refl}
use Rattle.std.proofs.Common.{ap, sym, ◌∙◌}
use Rattle.self_grammar.specs.declared.signs.Spot.{Spot}
use Rattle.self_grammar.specs.declared.signs.Reserved.{Reserved}
use Rattle.self_grammar.specs.declared.signs.Reserved.TheVariants.{Free, Itself, Resend}
use Rattle.self_grammar.specs.declared.signs.Role.{Role}
use Rattle.self_grammar.specs.declared.signs.Role.TheVariants.{Equals, Arrow, Star, Other}
use Rattle.self_grammar.specs.declared.signs.Symbol.{Symbol}
use Rattle.self_grammar.specs.declared.signs.Symbol.TheVariants as sign
use Rattle.self_grammar.specs.declared.pieces.Item.{Item}
use Rattle.self_grammar.specs.declared.pieces.Item.TheVariants as items
use Rattle.self_grammar.specs.Parts.{parts_in}
use Rattle.self_grammar.specs.Grammar as g
use Rattle.self_grammar.specs.Counts.{Limits, Mark, Context, Event, Writer, write, quiet, saying, placing}
use Rattle.self_grammar.specs.Scopes.{scope, holder, either, activation, again, too_many_arguments}
use Rattle.self_grammar.specs.Spelling as s
use Rattle.self_grammar.proofs.Settled.{keyword_scope, head_inner, slot_scope, slots_scope, keyword_settles, keyword_head_settles, head_settles, before_settles, slots_settle, members_settles}
use Rattle.self_grammar.proofs.Places.{Lists, in_world, in_bars, in_object, Start, listed, lone, Contents, undecided, coded, DataHole, assigned, parental, in_method, in_slotted, statement, alone, scope_of, start_scope, named_of}
use Rattle.self_grammar.proofs.Places as p
use Rattle.self_grammar.proofs.Settled
use Rattle.self_grammar.proofs.Moves
use Rattle.self_grammar.proofs.SlotMoves as v
use Rattle.self_grammar.proofs.Sound.{GoesOn, along, begin_goes_on}

pub free_goes_on : (l : Limits) (said : Writer → List Mark) (x : Reserved → Symbol) (b : Spot) (r : Reserved) (o : Option Moves.Move) (m : Moves.Move) → v.if_free r o ≡ Some m →
    (o ≡ Some m → GoesOn l said (x Free) b m) → GoesOn l said (x r) b m
free_goes_on l said x b Free o m is h = h is
free_goes_on l said x b Itself o m is h = cc
free_goes_on l said x b Resend o m is h = cc

equals_goes_on : (l : Limits) (said : Writer → List Mark) (n : ℕ) (b : Spot) (r : Role) (o : Option Moves.Move) (m : Moves.Move) → v.at_equals r o ≡ Some m →
    (o ≡ Some m → GoesOn l said (sign.Operator n Equals) b m) → GoesOn l said (sign.Operator n r) b m
equals_goes_on l said n b Equals o m is h = h is
equals_goes_on l said n b Arrow o m is h = cc
equals_goes_on l said n b Star o m is h = cc
equals_goes_on l said n b Other o m is h = cc

-- the slot before what ends it, as the list has it
world_step : (l : Limits) (ms : g.MembersBefore) (x : g.Member) (w : Writer) →
    p.lists l (in_world ms) (s.member l x (λ t. placing (s.member_items x) w) (scope_of l (in_world ms)))
    ≡ s.members_before l ms (s.member l x (λ t. placing (s.member_items x) w)) (scope holder) (s.at_first 1)
world_step l ms x w = ap (λ (y : Writer). y (s.at_first 1)) (sym (members_settles l ms (s.member l x (λ t. placing (s.member_items x) w)) (scope holder)))

bars_step : (l : Limits) (h : Contents) (q d : Spot) (ss : g.SlotsBefore) (x : g.Slot) (w : Writer) →
    p.lists l (in_bars h q d ss) (s.slot l x (λ t. placing (s.slot_items x) w) (scope_of l (in_bars h q d ss))) ≡ Moves.bars_said l h q d (g.slots_last ss x) (λ t. w)
bars_step l h q d ss x w =
    ap (λ y. p.contents l h (write l sign.OpenParen q (record (s.opening_item q) { next = s.wants_bar (named_of l h) }) (write l sign.Bar d quiet y)))
    (sym (before_settles l ss (s.slot l x (λ t. placing (s.slot_items x) w)) (named_of l h).inner))

object_step : (l : Limits) (h : DataHole) (q d : Spot) (ss : g.SlotsBefore) (x : g.Slot) (w : Writer) →
    p.lists l (in_object h q d ss) (s.slot l x (λ t. placing (s.slot_items x) w) (scope_of l (in_object h q d ss))) ≡ Moves.data_bars_said l h q d (g.slots_last ss x) (λ t. w)
object_step l h q d ss x w =
    ap (λ y. p.data_hole l h (write l sign.OpenParen q (s.opening_item q) (write l sign.Bar d quiet y))) (sym (before_settles l ss (s.slot l x (λ t. placing (s.slot_items x) w)) (scope holder)))

-- what stands behind the slots may speak of their scope
bars_settle : (l : Limits) (h : Contents) (q d : Spot) (sl : g.Slots) (k : s.Listing) →
    Moves.bars_said l h q d sl k ≡ Moves.bars_said l h q d sl (λ t. k (slots_scope l sl (named_of l h).inner))
bars_settle l h q d sl k =
    ap (λ y. p.contents l h (write l sign.OpenParen q (record (s.opening_item q) { next = s.wants_bar (named_of l h) }) (write l sign.Bar d quiet y))) (slots_settle l sl k (named_of l h).inner)

data_bars_settle : (l : Limits) (h : DataHole) (q d : Spot) (sl : g.Slots) (k : s.Listing) →
    Moves.data_bars_said l h q d sl k ≡ Moves.data_bars_said l h q d sl (λ t. k (slots_scope l sl (scope holder)))
data_bars_settle l h q d sl k = ap (λ y. p.data_hole l h (write l sign.OpenParen q (s.opening_item q) (write l sign.Bar d quiet y))) (slots_settle l sl k (scope holder))

done_goes_on : (l : Limits) (said : Writer → List Mark) (h : Lists) (y : g.Slot) (pre : Context → Context) →
    ((k : Writer) → said (λ c. k (pre c)) ≡ p.lists l h (s.slot l y (λ t. k) (scope_of l h))) →
    (x : v.After) (b : Spot) (m : Moves.Move) → v.done_move l h y pre x b ≡ Some m → GoesOn l said (v.after_symbol x) b m
done_goes_on l said (in_world ms) (g.member y) pre says v.period b m is =
    along l _ _ _ _ m is (record { law = λ k. says (placing (s.member_items y) (write l sign.Period b quiet k)) ∙ world_step l ms y (write l sign.Period b quiet k) })
done_goes_on l said (in_world ms) (g.member y) pre says v.bar b m is = cc
done_goes_on l said (in_world ms) (g.member y) pre says v.end b m is =
    along l _ _ _ _ m is (record { law = λ k. says (placing (s.member_items y) (write l sign.End b quiet k)) ∙ world_step l ms y (write l sign.End b quiet k) })
done_goes_on l said (in_world ms) (g.argument w) pre says v.period b m is = cc
done_goes_on l said (in_world ms) (g.argument w) pre says v.bar b m is = cc
done_goes_on l said (in_world ms) (g.argument w) pre says v.end b m is = cc
done_goes_on l said (in_bars h q d ss) y pre says v.period b m is =
    along l _ _ _ _ m is (record { law = λ k. says (placing (s.slot_items y) (write l sign.Period b quiet k)) ∙ bars_step l h q d ss y (write l sign.Period b quiet k) })
done_goes_on l said (in_bars h q d ss) y pre says v.bar b m is =
    along l _ _ _ _ m is (record {
      law = λ k. says (placing (s.slot_items y) (write l sign.Bar b (record quiet { broken = s.at_bar (named_of l h) (slot_scope l y (scope_of l (in_bars h q d ss))) }) k))
          ∙ bars_step l h q d ss y (write l sign.Bar b (record quiet { broken = s.at_bar (named_of l h) (slot_scope l y (scope_of l (in_bars h q d ss))) }) k)
          ∙ sym (bars_settle l h q d (g.slots_last ss y) (λ t. write l sign.Bar b (record quiet { broken = s.at_bar (named_of l h) t }) k));
    })
done_goes_on l said (in_bars h q d ss) y pre says v.end b m is = cc
done_goes_on l said (in_object h q d ss) y pre says v.period b m is =
    along l _ _ _ _ m is (record { law = λ k. says (placing (s.slot_items y) (write l sign.Period b quiet k)) ∙ object_step l h q d ss y (write l sign.Period b quiet k) })
done_goes_on l said (in_object h q d ss) y pre says v.bar b m is =
    along l _ _ _ _ m is (record { law = λ k. says (placing (s.slot_items y) (write l sign.Bar b quiet k)) ∙ object_step l h q d ss y (write l sign.Bar b quiet k) })
done_goes_on l said (in_object h q d ss) y pre says v.end b m is = cc

list_end_goes_on : (l : Limits) (h : Start) (x : v.After) (b : Spot) (m : Moves.Move) → v.list_end l h x b ≡ Some m →
    GoesOn l (Moves.before l (Moves.at_slot h)) (v.after_symbol x) b m
list_end_goes_on l (listed (in_world ms)) v.period b m is = cc
list_end_goes_on l (listed (in_world ms)) v.bar b m is = cc
list_end_goes_on l (listed (in_world ms)) v.end b m is = along l _ _ _ _ m is (record { law = λ k. refl })
list_end_goes_on l (listed (in_bars h q d ss)) v.period b m is = cc
list_end_goes_on l (listed (in_bars h q d ss)) v.bar b m is =
    along l _ _ _ _ m is (record { law = λ k. sym (bars_settle l h q d (g.slots_ended ss) (λ t. write l sign.Bar b (record quiet { broken = s.at_bar (named_of l h) t }) k)) })
list_end_goes_on l (listed (in_bars h q d ss)) v.end b m is = cc
list_end_goes_on l (listed (in_object h q d ss)) v.period b m is = cc
list_end_goes_on l (listed (in_object h q d ss)) v.bar b m is = along l _ _ _ _ m is (record { law = λ k. refl })
list_end_goes_on l (listed (in_object h q d ss)) v.end b m is = cc
list_end_goes_on l lone x b m is = cc

argument_goes_on : (l : Limits) (h : Start) (w : g.Label) (m : Moves.Move) → v.argument_move l h w ≡ Some m →
    GoesOn l (Moves.before l (Moves.at_slot h)) (sign.Argument w.name w.setter Free) w.spot m
argument_goes_on l (listed (in_world ms)) w m is = cc
argument_goes_on l (listed (in_bars h q d ss)) w m is = along l _ _ _ _ m is (record { law = λ k. refl })
argument_goes_on l (listed (in_object h q d ss)) w m is = along l _ _ _ _ m is (record { law = λ k. refl })
argument_goes_on l lone w m is = cc

-- where a slot is wanted
pub slot_goes_on : (l : Limits) (h : Start) (x : Symbol) (b : Spot) (m : Moves.Move) → v.slot_move l h x b ≡ Some m → GoesOn l (Moves.before l (Moves.at_slot h)) x b m
slot_goes_on l h (sign.Integer z) b m is = cc
slot_goes_on l h (sign.Text i j) b m is = cc
slot_goes_on l h (sign.Name n t r) b m is = free_goes_on l _ (λ a. sign.Name n t a) b r (Moves.simply (v.name_event l (start_scope l h) (Moves.label n t b)) (Moves.named h (Moves.label n t b))) m is (λ e. along l _ _ _ _ m e (record { law = λ k. refl }))
slot_goes_on l h (sign.Primitive n) b m is = cc
slot_goes_on l h sign.Restart b m is = cc
slot_goes_on l h (sign.Keyword n) b m is = along l _ _ _ _ m is (record { law = λ k. refl })
slot_goes_on l h (sign.PrimitiveKeyword n y) b m is = cc
slot_goes_on l h sign.RestartKeyword b m is = cc
slot_goes_on l h (sign.CapitalKeyword n y) b m is = cc
slot_goes_on l h (sign.Argument n t r) b m is = free_goes_on l _ (λ a. sign.Argument n t a) b r (v.argument_move l h (Moves.label n t b)) m is (argument_goes_on l h (Moves.label n t b) m)
slot_goes_on l h (sign.Delegate n r) b m is = cc
slot_goes_on l h (sign.Operator n r) b m is = along l _ _ _ _ m is (record { law = λ k. refl })
slot_goes_on l h sign.OpenParen b m is = cc
slot_goes_on l h sign.CloseParen b m is = cc
slot_goes_on l h sign.OpenBracket b m is = cc
slot_goes_on l h sign.CloseBracket b m is = cc
slot_goes_on l h sign.Bar b m is = list_end_goes_on l h v.bar b m is
slot_goes_on l h sign.Period b m is = cc
slot_goes_on l h sign.Caret b m is = cc
slot_goes_on l h sign.End b m is = list_end_goes_on l h v.end b m is
slot_goes_on l h (sign.Bad z) b m is = cc

named_role_goes_on : (l : Limits) (h : Start) (w : g.Label) (e : g.Word) (r : Role) (m : Moves.Move) → v.named_role l h w e r ≡ Some m →
    GoesOn l (Moves.before l (Moves.named h w)) (sign.Operator e.name r) e.spot m
named_role_goes_on l (listed h) w e Equals m is = along l _ _ _ _ m is (record { law = λ k. refl })
named_role_goes_on l (listed h) w e Arrow m is = along l _ _ _ _ m is (record { law = λ k. refl })
named_role_goes_on l (listed h) w e Star m is = along l _ _ _ _ m is (record { law = λ k. refl })
named_role_goes_on l (listed h) w e Other m is = cc
named_role_goes_on l lone w e Equals m is = along l _ _ _ _ m is (record { law = λ k. refl })
named_role_goes_on l lone w e Arrow m is = cc
named_role_goes_on l lone w e Star m is = cc
named_role_goes_on l lone w e Other m is = cc

bare_goes_on : (l : Limits) (h : Start) (w : g.Label) (x : v.After) (b : Spot) (m : Moves.Move) → v.bare_move l h w x b ≡ Some m →
    GoesOn l (Moves.before l (Moves.named h w)) (v.after_symbol x) b m
bare_goes_on l (listed h) w x b m is =
    done_goes_on l _ h (g.member (g.bare w)) (Moves.tell (again (Settled.name_scope l w (scope_of l h)) (w.setter ∷ []) w.spot)) (λ k. refl) x b m is
bare_goes_on l lone w x b m is = cc

-- behind a name
pub named_goes_on : (l : Limits) (h : Start) (w : g.Label) (x : Symbol) (b : Spot) (m : Moves.Move) → v.named_move l h w x b ≡ Some m → GoesOn l (Moves.before l (Moves.named h w)) x b m
named_goes_on l h w (sign.Integer z) b m is = cc
named_goes_on l h w (sign.Text i j) b m is = cc
named_goes_on l h w (sign.Name n t r) b m is = cc
named_goes_on l h w (sign.Primitive n) b m is = cc
named_goes_on l h w sign.Restart b m is = cc
named_goes_on l h w (sign.Keyword n) b m is = cc
named_goes_on l h w (sign.PrimitiveKeyword n y) b m is = cc
named_goes_on l h w sign.RestartKeyword b m is = cc
named_goes_on l h w (sign.CapitalKeyword n y) b m is = cc
named_goes_on l h w (sign.Argument n t r) b m is = cc
named_goes_on l h w (sign.Delegate n r) b m is = cc
named_goes_on l h w (sign.Operator n r) b m is = named_role_goes_on l h w (Moves.word n b) r m is
named_goes_on l h w sign.OpenParen b m is = cc
named_goes_on l h w sign.CloseParen b m is = cc
named_goes_on l h w sign.OpenBracket b m is = cc
named_goes_on l h w sign.CloseBracket b m is = cc
named_goes_on l h w sign.Bar b m is = bare_goes_on l h w v.bar b m is
named_goes_on l h w sign.Period b m is = bare_goes_on l h w v.period b m is
named_goes_on l h w sign.Caret b m is = cc
named_goes_on l h w sign.End b m is = bare_goes_on l h w v.end b m is
named_goes_on l h w (sign.Bad z) b m is = cc

pub starred_goes_on : (l : Limits) (h : Lists) (w : g.Label) (y' : g.Word) (x : Symbol) (b : Spot) (m : Moves.Move) → v.starred_move h w y' x b ≡ Some m → GoesOn l (Moves.before l (Moves.starred h w y')) x b m
starred_goes_on l h w y' (sign.Integer z) b m is = cc
starred_goes_on l h w y' (sign.Text i j) b m is = cc
starred_goes_on l h w y' (sign.Name n t r) b m is = cc
starred_goes_on l h w y' (sign.Primitive n) b m is = cc
starred_goes_on l h w y' sign.Restart b m is = cc
starred_goes_on l h w y' (sign.Keyword n) b m is = cc
starred_goes_on l h w y' (sign.PrimitiveKeyword n y) b m is = cc
starred_goes_on l h w y' sign.RestartKeyword b m is = cc
starred_goes_on l h w y' (sign.CapitalKeyword n y) b m is = cc
starred_goes_on l h w y' (sign.Argument n t r) b m is = cc
starred_goes_on l h w y' (sign.Delegate n r) b m is = cc
starred_goes_on l h w y' (sign.Operator n r) b m is = equals_goes_on l _ n b r (Moves.simply quiet (Moves.data_wanted (parental h w y' (Moves.word n b)))) m is (λ e. along l _ _ _ _ m e (record { law = λ k. refl }))
starred_goes_on l h w y' sign.OpenParen b m is = cc
starred_goes_on l h w y' sign.CloseParen b m is = cc
starred_goes_on l h w y' sign.OpenBracket b m is = cc
starred_goes_on l h w y' sign.CloseBracket b m is = cc
starred_goes_on l h w y' sign.Bar b m is = cc
starred_goes_on l h w y' sign.Period b m is = cc
starred_goes_on l h w y' sign.Caret b m is = cc
starred_goes_on l h w y' sign.End b m is = cc
starred_goes_on l h w y' (sign.Bad z) b m is = cc

pub operator_named_goes_on : (l : Limits) (h : Start) (o : g.AnyOperator) (x : Symbol) (b : Spot) (m : Moves.Move) → v.operator_named_move l h o x b ≡ Some m → GoesOn l (Moves.before l (Moves.operator_named h o)) x b m
operator_named_goes_on l h o (sign.Integer z) b m is = cc
operator_named_goes_on l h o (sign.Text i j) b m is = cc
operator_named_goes_on l h o (sign.Name n t r) b m is = free_goes_on l _ (λ a. sign.Name n t a) b r (Moves.simply (v.head_argument_event l (scope activation) (Moves.label n t b)) (Moves.operator_argued h o (Moves.label n t b))) m is (λ e. along l _ _ _ _ m e (record { law = λ k. refl }))
operator_named_goes_on l h o (sign.Primitive n) b m is = cc
operator_named_goes_on l h o sign.Restart b m is = cc
operator_named_goes_on l h o (sign.Keyword n) b m is = cc
operator_named_goes_on l h o (sign.PrimitiveKeyword n y) b m is = cc
operator_named_goes_on l h o sign.RestartKeyword b m is = cc
operator_named_goes_on l h o (sign.CapitalKeyword n y) b m is = cc
operator_named_goes_on l h o (sign.Argument n t r) b m is = cc
operator_named_goes_on l h o (sign.Delegate n r) b m is = cc
operator_named_goes_on l h o (sign.Operator n r) b m is = equals_goes_on l _ n b r (Moves.simply quiet (Moves.holding (coded h (g.operator o) (Moves.word n b)))) m is (λ e. along l _ _ _ _ m e (record { law = λ k. refl }))
operator_named_goes_on l h o sign.OpenParen b m is = cc
operator_named_goes_on l h o sign.CloseParen b m is = cc
operator_named_goes_on l h o sign.OpenBracket b m is = cc
operator_named_goes_on l h o sign.CloseBracket b m is = cc
operator_named_goes_on l h o sign.Bar b m is = cc
operator_named_goes_on l h o sign.Period b m is = cc
operator_named_goes_on l h o sign.Caret b m is = cc
operator_named_goes_on l h o sign.End b m is = cc
operator_named_goes_on l h o (sign.Bad z) b m is = cc

pub operator_argued_goes_on : (l : Limits) (h : Start) (o : g.AnyOperator) (a : g.Label) (x : Symbol) (b : Spot) (m : Moves.Move) → v.operator_argued_move h o a x b ≡ Some m → GoesOn l (Moves.before l (Moves.operator_argued h o a)) x b m
operator_argued_goes_on l h o a (sign.Integer z) b m is = cc
operator_argued_goes_on l h o a (sign.Text i j) b m is = cc
operator_argued_goes_on l h o a (sign.Name n t r) b m is = cc
operator_argued_goes_on l h o a (sign.Primitive n) b m is = cc
operator_argued_goes_on l h o a sign.Restart b m is = cc
operator_argued_goes_on l h o a (sign.Keyword n) b m is = cc
operator_argued_goes_on l h o a (sign.PrimitiveKeyword n y) b m is = cc
operator_argued_goes_on l h o a sign.RestartKeyword b m is = cc
operator_argued_goes_on l h o a (sign.CapitalKeyword n y) b m is = cc
operator_argued_goes_on l h o a (sign.Argument n t r) b m is = cc
operator_argued_goes_on l h o a (sign.Delegate n r) b m is = cc
operator_argued_goes_on l h o a (sign.Operator n r) b m is = equals_goes_on l _ n b r (Moves.simply quiet (Moves.holding (coded h (g.operator_with o a) (Moves.word n b)))) m is (λ e. along l _ _ _ _ m e (record { law = λ k. refl }))
operator_argued_goes_on l h o a sign.OpenParen b m is = cc
operator_argued_goes_on l h o a sign.CloseParen b m is = cc
operator_argued_goes_on l h o a sign.OpenBracket b m is = cc
operator_argued_goes_on l h o a sign.CloseBracket b m is = cc
operator_argued_goes_on l h o a sign.Bar b m is = cc
operator_argued_goes_on l h o a sign.Period b m is = cc
operator_argued_goes_on l h o a sign.Caret b m is = cc
operator_argued_goes_on l h o a sign.End b m is = cc
operator_argued_goes_on l h o a (sign.Bad z) b m is = cc

first_argument_goes_on : (l : Limits) (h : Start) (n : g.KeywordName) (a : g.Label) (m : Moves.Move) → v.first_argument l h n a ≡ Some m →
    GoesOn l (Moves.before l (Moves.keyword_named h n)) (sign.Name a.name a.setter Free) a.spot m
first_argument_goes_on l h (g.keyword_first w) a m is = along l _ _ _ _ m is (record { law = λ k. refl })
first_argument_goes_on l h (g.keyword_next n q) a m is = cc

pub keyword_named_goes_on : (l : Limits) (h : Start) (kn : g.KeywordName) (x : Symbol) (b : Spot) (m : Moves.Move) → v.keyword_named_move l h kn x b ≡ Some m → GoesOn l (Moves.before l (Moves.keyword_named h kn)) x b m
keyword_named_goes_on l h kn (sign.Integer z) b m is = cc
keyword_named_goes_on l h kn (sign.Text i j) b m is = cc
keyword_named_goes_on l h kn (sign.Name n t r) b m is = free_goes_on l _ (λ a. sign.Name n t a) b r (v.first_argument l h kn (Moves.label n t b)) m is (first_argument_goes_on l h kn (Moves.label n t b) m)
keyword_named_goes_on l h kn (sign.Primitive n) b m is = cc
keyword_named_goes_on l h kn sign.Restart b m is = cc
keyword_named_goes_on l h kn (sign.Keyword n) b m is = cc
keyword_named_goes_on l h kn (sign.PrimitiveKeyword n y) b m is = cc
keyword_named_goes_on l h kn sign.RestartKeyword b m is = cc
keyword_named_goes_on l h kn (sign.CapitalKeyword n y) b m is = along l _ _ _ _ m is (record { law = λ k. refl })
keyword_named_goes_on l h kn (sign.Argument n t r) b m is = cc
keyword_named_goes_on l h kn (sign.Delegate n r) b m is = cc
keyword_named_goes_on l h kn (sign.Operator n r) b m is = equals_goes_on l _ n b r (Moves.simply (v.keyword_broken l h kn) (Moves.holding (coded h (g.keyword kn) (Moves.word n b)))) m is (λ e. along l _ _ _ _ m e (record { law = λ k. ap (λ (w : Writer). p.start l h w) (sym (keyword_settles l kn (λ t. s.mark l Equals (Moves.word n b) (record quiet { broken = again t (parts_in (s.words kn)) (s.first_word kn) }) k) (start_scope l h))) }))
keyword_named_goes_on l h kn sign.OpenParen b m is = cc
keyword_named_goes_on l h kn sign.CloseParen b m is = cc
keyword_named_goes_on l h kn sign.OpenBracket b m is = cc
keyword_named_goes_on l h kn sign.CloseBracket b m is = cc
keyword_named_goes_on l h kn sign.Bar b m is = cc
keyword_named_goes_on l h kn sign.Period b m is = cc
keyword_named_goes_on l h kn sign.Caret b m is = cc
keyword_named_goes_on l h kn sign.End b m is = cc
keyword_named_goes_on l h kn (sign.Bad z) b m is = cc

pub keyword_argued_goes_on : (l : Limits) (h : Start) (kh : g.KeywordHead) (x : Symbol) (b : Spot) (m : Moves.Move) → v.keyword_argued_move l h kh x b ≡ Some m → GoesOn l (Moves.before l (Moves.keyword_argued h kh)) x b m
keyword_argued_goes_on l h kh (sign.Integer z) b m is = cc
keyword_argued_goes_on l h kh (sign.Text i j) b m is = cc
keyword_argued_goes_on l h kh (sign.Name n t r) b m is = cc
keyword_argued_goes_on l h kh (sign.Primitive n) b m is = cc
keyword_argued_goes_on l h kh sign.Restart b m is = cc
keyword_argued_goes_on l h kh (sign.Keyword n) b m is = cc
keyword_argued_goes_on l h kh (sign.PrimitiveKeyword n y) b m is = cc
keyword_argued_goes_on l h kh sign.RestartKeyword b m is = cc
keyword_argued_goes_on l h kh (sign.CapitalKeyword n y) b m is = along l _ _ _ _ m is (record { law = λ k. refl })
keyword_argued_goes_on l h kh (sign.Argument n t r) b m is = cc
keyword_argued_goes_on l h kh (sign.Delegate n r) b m is = cc
keyword_argued_goes_on l h kh (sign.Operator n r) b m is = equals_goes_on l _ n b r (Moves.simply (v.keyword_broken l h (s.head_name kh)) (Moves.holding (coded h (g.keyword_with kh) (Moves.word n b)))) m is (λ e. along l _ _ _ _ m e (record { law = λ k. ap (λ (w : Writer). p.start l h w) (sym (keyword_head_settles l kh (λ t i. s.mark l Equals (Moves.word n b) (record quiet { broken = again t (parts_in (s.words (s.head_name kh))) (s.first_word (s.head_name kh)) }) k) (start_scope l h))) }))
keyword_argued_goes_on l h kh sign.OpenParen b m is = cc
keyword_argued_goes_on l h kh sign.CloseParen b m is = cc
keyword_argued_goes_on l h kh sign.OpenBracket b m is = cc
keyword_argued_goes_on l h kh sign.CloseBracket b m is = cc
keyword_argued_goes_on l h kh sign.Bar b m is = cc
keyword_argued_goes_on l h kh sign.Period b m is = cc
keyword_argued_goes_on l h kh sign.Caret b m is = cc
keyword_argued_goes_on l h kh sign.End b m is = cc
keyword_argued_goes_on l h kh (sign.Bad z) b m is = cc

pub keyword_wanting_goes_on : (l : Limits) (h : Start) (kh : g.KeywordHead) (q : g.Part) (x : Symbol) (b : Spot) (m : Moves.Move) → v.keyword_wanting_move l h kh q x b ≡ Some m → GoesOn l (Moves.before l (Moves.keyword_wanting h kh q)) x b m
keyword_wanting_goes_on l h kh q (sign.Integer z) b m is = cc
keyword_wanting_goes_on l h kh q (sign.Text i j) b m is = cc
keyword_wanting_goes_on l h kh q (sign.Name n t r) b m is = free_goes_on l _ (λ a. sign.Name n t a) b r (Moves.simply (v.head_argument_event l (head_inner kh) (Moves.label n t b)) (Moves.keyword_argued h (g.head_next kh q (Moves.label n t b)))) m is (λ e. along l _ _ _ _ m e (record { law = λ k. ap (λ (w : Writer). p.start l h w) (sym (keyword_head_settles l kh (λ t' i. s.part l q (record quiet { broken = too_many_arguments l (s.count (s.head_name kh)) }) (s.head_argument l (Moves.label n t b) (λ j. k) i)) (start_scope l h))) }))
keyword_wanting_goes_on l h kh q (sign.Primitive n) b m is = cc
keyword_wanting_goes_on l h kh q sign.Restart b m is = cc
keyword_wanting_goes_on l h kh q (sign.Keyword n) b m is = cc
keyword_wanting_goes_on l h kh q (sign.PrimitiveKeyword n y) b m is = cc
keyword_wanting_goes_on l h kh q sign.RestartKeyword b m is = cc
keyword_wanting_goes_on l h kh q (sign.CapitalKeyword n y) b m is = cc
keyword_wanting_goes_on l h kh q (sign.Argument n t r) b m is = cc
keyword_wanting_goes_on l h kh q (sign.Delegate n r) b m is = cc
keyword_wanting_goes_on l h kh q (sign.Operator n r) b m is = cc
keyword_wanting_goes_on l h kh q sign.OpenParen b m is = cc
keyword_wanting_goes_on l h kh q sign.CloseParen b m is = cc
keyword_wanting_goes_on l h kh q sign.OpenBracket b m is = cc
keyword_wanting_goes_on l h kh q sign.CloseBracket b m is = cc
keyword_wanting_goes_on l h kh q sign.Bar b m is = cc
keyword_wanting_goes_on l h kh q sign.Period b m is = cc
keyword_wanting_goes_on l h kh q sign.Caret b m is = cc
keyword_wanting_goes_on l h kh q sign.End b m is = cc
keyword_wanting_goes_on l h kh q (sign.Bad z) b m is = cc

simple_goes_on : (l : Limits) (h : Contents) (d : g.Simple) (i : Item) (x : Symbol) (b : Spot) (m : Moves.Move) → v.simple_move h d i ≡ Some m →
    ((k : Writer) → s.simple l d k ≡ write l x b (saying i) k) → GoesOn l (Moves.before l (Moves.holding h)) x b m
simple_goes_on l (undecided h w e) d i x b m is same =
    along l _ _ _ _ m is (record { law = λ k. ap (λ (y : Writer). p.lists l h (s.slot_name l w (λ t. s.mark l Equals e quiet y) (scope_of l h))) (sym (same k)) })
simple_goes_on l (coded h y e) d i x b m is same = cc

pub holding_goes_on : (l : Limits) (h : Contents) (x : Symbol) (b : Spot) (m : Moves.Move) → v.holding_move l h x b ≡ Some m → GoesOn l (Moves.before l (Moves.holding h)) x b m
holding_goes_on l h (sign.Integer z) b m is = simple_goes_on l h (g.integer z b) (items.Integer z) (sign.Integer z) b m is (λ k. refl)
holding_goes_on l h (sign.Text i j) b m is = simple_goes_on l h (g.string (record { start = i; end = j; spot = b })) (items.Text i j) (sign.Text i j) b m is (λ k. refl)
holding_goes_on l h (sign.Name n t r) b m is = simple_goes_on l h (g.path (g.named (Moves.any n t r b))) (items.Root n b) (sign.Name n t r) b m is (λ k. refl)
holding_goes_on l h (sign.Primitive n) b m is = cc
holding_goes_on l h sign.Restart b m is = cc
holding_goes_on l h (sign.Keyword n) b m is = cc
holding_goes_on l h (sign.PrimitiveKeyword n y) b m is = cc
holding_goes_on l h sign.RestartKeyword b m is = cc
holding_goes_on l h (sign.CapitalKeyword n y) b m is = cc
holding_goes_on l h (sign.Argument n t r) b m is = cc
holding_goes_on l h (sign.Delegate n r) b m is = cc
holding_goes_on l h (sign.Operator n r) b m is = cc
holding_goes_on l h sign.OpenParen b m is = along l _ _ _ _ m is (record { law = λ k. refl })
holding_goes_on l h sign.CloseParen b m is = cc
holding_goes_on l h sign.OpenBracket b m is = cc
holding_goes_on l h sign.CloseBracket b m is = cc
holding_goes_on l h sign.Bar b m is = cc
holding_goes_on l h sign.Period b m is = cc
holding_goes_on l h sign.Caret b m is = cc
holding_goes_on l h sign.End b m is = cc
holding_goes_on l h (sign.Bad z) b m is = cc

datum_goes_on : (l : Limits) (said : Writer → List Mark) (h : DataHole) (d : g.Datum) (x : Symbol) (b : Spot) (e : Event) (m : Moves.Move) → Moves.simply e (v.datum_done h d) ≡ Some m →
    ((k : Writer) → said (write l x b e k) ≡ p.data_hole l h (s.datum l holder d k)) → GoesOn l said x b m
datum_goes_on l said (assigned h w a) d x b e m is same = along l _ _ _ _ m is (record { law = same })
datum_goes_on l said (parental h w y a) d x b e m is same = along l _ _ _ _ m is (record { law = same })

pub data_wanted_goes_on : (l : Limits) (h : DataHole) (x : Symbol) (b : Spot) (m : Moves.Move) → v.data_wanted_move h x b ≡ Some m → GoesOn l (Moves.before l (Moves.data_wanted h)) x b m
data_wanted_goes_on l h (sign.Integer z) b m is = datum_goes_on l _ h (g.simple (g.integer z b)) (sign.Integer z) b (saying (items.Integer z)) m is (λ k. refl)
data_wanted_goes_on l h (sign.Text i j) b m is = datum_goes_on l _ h (g.simple (g.string (record { start = i; end = j; spot = b }))) (sign.Text i j) b (saying (items.Text i j)) m is (λ k. refl)
data_wanted_goes_on l h (sign.Name n t r) b m is = datum_goes_on l _ h (g.simple (g.path (g.named (Moves.any n t r b)))) (sign.Name n t r) b (saying (items.Root n b)) m is (λ k. refl)
data_wanted_goes_on l h (sign.Primitive n) b m is = cc
data_wanted_goes_on l h sign.Restart b m is = cc
data_wanted_goes_on l h (sign.Keyword n) b m is = cc
data_wanted_goes_on l h (sign.PrimitiveKeyword n y) b m is = cc
data_wanted_goes_on l h sign.RestartKeyword b m is = cc
data_wanted_goes_on l h (sign.CapitalKeyword n y) b m is = cc
data_wanted_goes_on l h (sign.Argument n t r) b m is = cc
data_wanted_goes_on l h (sign.Delegate n r) b m is = cc
data_wanted_goes_on l h (sign.Operator n r) b m is = cc
data_wanted_goes_on l h sign.OpenParen b m is = along l _ _ _ _ m is (record { law = λ k. refl })
data_wanted_goes_on l h sign.CloseParen b m is = cc
data_wanted_goes_on l h sign.OpenBracket b m is = cc
data_wanted_goes_on l h sign.CloseBracket b m is = cc
data_wanted_goes_on l h sign.Bar b m is = cc
data_wanted_goes_on l h sign.Period b m is = cc
data_wanted_goes_on l h sign.Caret b m is = cc
data_wanted_goes_on l h sign.End b m is = cc
data_wanted_goes_on l h (sign.Bad z) b m is = cc

behind_goes_on : (l : Limits) (said code : Writer → List Mark) (f : Context → Context) (x : Symbol) (b : Spot) → ((k : Writer) → said (λ c. k (f c)) ≡ code k) →
    (o : Option Moves.Move) (m : Moves.Move) → v.behind_pre f o ≡ Some m → ((y : Moves.Move) → o ≡ Some y → GoesOn l code x b y) → GoesOn l said x b m
behind_goes_on l said code f x b same None m is h = cc
behind_goes_on l said code f x b same (Some y) m is h =
    along l _ _ _ _ m is (record { law = λ k. same (λ c. write l x b y.event (λ d. k (y.post d)) (y.pre c)) ∙ (h y refl).law k })

code_goes_on : (l : Limits) (h : Contents) (q : Spot) (x : Symbol) (b : Spot) (m : Moves.Move) → v.code_begins h q x b ≡ Some m → GoesOn l (Moves.before l (Moves.opened h q)) x b m
code_goes_on l h q x b m is =
    behind_goes_on l _ (Moves.before l (Moves.wanting (alone (statement (in_method h q) g.none)))) Moves.enter x b (λ k. refl)
    (Moves.begin_move (alone (statement (in_method h q) g.none)) x b) m is (λ y e. begin_goes_on l (alone (statement (in_method h q) g.none)) x b y e)

empty_object_goes_on : (l : Limits) (h : Contents) (q b : Spot) (m : Moves.Move) → v.empty_object_move h q b ≡ Some m → GoesOn l (Moves.before l (Moves.opened h q)) sign.CloseParen b m
empty_object_goes_on l (undecided h w e) q b m is = along l _ _ _ _ m is (record { law = λ k. refl })
empty_object_goes_on l (coded h x e) q b m is = cc

pub opened_goes_on : (l : Limits) (h : Contents) (q : Spot) (x : Symbol) (b : Spot) (m : Moves.Move) → v.opened_move h q x b ≡ Some m → GoesOn l (Moves.before l (Moves.opened h q)) x b m
opened_goes_on l h q (sign.Integer z) b m is = code_goes_on l h q (sign.Integer z) b m is
opened_goes_on l h q (sign.Text i j) b m is = code_goes_on l h q (sign.Text i j) b m is
opened_goes_on l h q (sign.Name n t r) b m is = code_goes_on l h q (sign.Name n t r) b m is
opened_goes_on l h q (sign.Primitive n) b m is = code_goes_on l h q (sign.Primitive n) b m is
opened_goes_on l h q sign.Restart b m is = code_goes_on l h q sign.Restart b m is
opened_goes_on l h q (sign.Keyword n) b m is = code_goes_on l h q (sign.Keyword n) b m is
opened_goes_on l h q (sign.PrimitiveKeyword n y) b m is = code_goes_on l h q (sign.PrimitiveKeyword n y) b m is
opened_goes_on l h q sign.RestartKeyword b m is = code_goes_on l h q sign.RestartKeyword b m is
opened_goes_on l h q (sign.CapitalKeyword n y) b m is = code_goes_on l h q (sign.CapitalKeyword n y) b m is
opened_goes_on l h q (sign.Argument n t r) b m is = code_goes_on l h q (sign.Argument n t r) b m is
opened_goes_on l h q (sign.Delegate n r) b m is = code_goes_on l h q (sign.Delegate n r) b m is
opened_goes_on l h q (sign.Operator n r) b m is = code_goes_on l h q (sign.Operator n r) b m is
opened_goes_on l h q sign.OpenParen b m is = code_goes_on l h q sign.OpenParen b m is
opened_goes_on l h q sign.CloseParen b m is = empty_object_goes_on l h q b m is
opened_goes_on l h q sign.OpenBracket b m is = code_goes_on l h q sign.OpenBracket b m is
opened_goes_on l h q sign.CloseBracket b m is = code_goes_on l h q sign.CloseBracket b m is
opened_goes_on l h q sign.Bar b m is = along l _ _ _ _ m is (record { law = λ k. refl })
opened_goes_on l h q sign.Period b m is = code_goes_on l h q sign.Period b m is
opened_goes_on l h q sign.Caret b m is = code_goes_on l h q sign.Caret b m is
opened_goes_on l h q sign.End b m is = code_goes_on l h q sign.End b m is
opened_goes_on l h q (sign.Bad z) b m is = code_goes_on l h q (sign.Bad z) b m is

pub data_opened_goes_on : (l : Limits) (h : DataHole) (q : Spot) (x : Symbol) (b : Spot) (m : Moves.Move) → v.data_opened_move h q x b ≡ Some m → GoesOn l (Moves.before l (Moves.data_opened h q)) x b m
data_opened_goes_on l h q (sign.Integer z) b m is = cc
data_opened_goes_on l h q (sign.Text i j) b m is = cc
data_opened_goes_on l h q (sign.Name n t r) b m is = cc
data_opened_goes_on l h q (sign.Primitive n) b m is = cc
data_opened_goes_on l h q sign.Restart b m is = cc
data_opened_goes_on l h q (sign.Keyword n) b m is = cc
data_opened_goes_on l h q (sign.PrimitiveKeyword n y) b m is = cc
data_opened_goes_on l h q sign.RestartKeyword b m is = cc
data_opened_goes_on l h q (sign.CapitalKeyword n y) b m is = cc
data_opened_goes_on l h q (sign.Argument n t r) b m is = cc
data_opened_goes_on l h q (sign.Delegate n r) b m is = cc
data_opened_goes_on l h q (sign.Operator n r) b m is = cc
data_opened_goes_on l h q sign.OpenParen b m is = cc
data_opened_goes_on l h q sign.CloseParen b m is = datum_goes_on l _ h (g.object (g.empty_object q b)) sign.CloseParen b (v.empty_object_end q) m is (λ k. refl)
data_opened_goes_on l h q sign.OpenBracket b m is = cc
data_opened_goes_on l h q sign.CloseBracket b m is = cc
data_opened_goes_on l h q sign.Bar b m is = along l _ _ _ _ m is (record { law = λ k. refl })
data_opened_goes_on l h q sign.Period b m is = cc
data_opened_goes_on l h q sign.Caret b m is = cc
data_opened_goes_on l h q sign.End b m is = cc
data_opened_goes_on l h q (sign.Bad z) b m is = cc

object_goes_on : (l : Limits) (h : Contents) (q d : Spot) (sl : g.Slots) (d2 b : Spot) (m : Moves.Move) → v.object_move l h q d sl d2 b ≡ Some m →
    GoesOn l (Moves.before l (Moves.shut h q d sl d2)) sign.CloseParen b m
object_goes_on l (undecided h w e) q d sl d2 b m is =
    along l _ _ _ _ m is (record {
      law = λ k. ap (λ y. p.lists l h (s.slot_name l w (λ t. s.mark l Equals e quiet (write l sign.OpenParen q (s.opening_item q) (write l sign.Bar d quiet y))) (scope_of l h)))
          (sym (slots_settle l sl (λ t. write l sign.Bar d2 quiet (write l sign.CloseParen b (v.object_end q t) k)) (scope either)));
    })
object_goes_on l (coded h x e) q d sl d2 b m is = cc

barred_code_goes_on : (l : Limits) (h : Contents) (q d : Spot) (sl : g.Slots) (d2 : Spot) (x : Symbol) (b : Spot) (m : Moves.Move) →
    v.behind_pre (v.barred_pre l h sl) (Moves.begin_move (alone (statement (in_slotted h q d sl d2) g.none)) x b) ≡ Some m → GoesOn l (Moves.before l (Moves.shut h q d sl d2)) x b m
barred_code_goes_on l h q d sl d2 x b m is =
    behind_goes_on l _ (Moves.before l (Moves.wanting (alone (statement (in_slotted h q d sl d2) g.none)))) (v.barred_pre l h sl) x b
    (λ k. bars_settle l h q d sl (λ t. write l sign.Bar d2 (record quiet { broken = s.at_bar (named_of l h) t }) (λ c. k (v.barred_pre l h sl c)))
    ∙ sym (bars_settle l h q d sl (λ t. write l sign.Bar d2 (record quiet { broken = s.at_bar (named_of l h) t }) (λ c. k (Moves.tell (s.at_code (named_of l h) t) (Moves.enter c))))))
    (Moves.begin_move (alone (statement (in_slotted h q d sl d2) g.none)) x b) m is (λ y e. begin_goes_on l (alone (statement (in_slotted h q d sl d2) g.none)) x b y e)

pub shut_goes_on : (l : Limits) (h : Contents) (q d : Spot) (sl : g.Slots) (d2 : Spot) (x : Symbol) (b : Spot) (m : Moves.Move) → v.shut_move l h q d sl d2 x b ≡ Some m → GoesOn l (Moves.before l (Moves.shut h q d sl d2)) x b m
shut_goes_on l h q d sl d2 (sign.Integer z) b m is = barred_code_goes_on l h q d sl d2 (sign.Integer z) b m is
shut_goes_on l h q d sl d2 (sign.Text i j) b m is = barred_code_goes_on l h q d sl d2 (sign.Text i j) b m is
shut_goes_on l h q d sl d2 (sign.Name n t r) b m is = barred_code_goes_on l h q d sl d2 (sign.Name n t r) b m is
shut_goes_on l h q d sl d2 (sign.Primitive n) b m is = barred_code_goes_on l h q d sl d2 (sign.Primitive n) b m is
shut_goes_on l h q d sl d2 sign.Restart b m is = barred_code_goes_on l h q d sl d2 sign.Restart b m is
shut_goes_on l h q d sl d2 (sign.Keyword n) b m is = barred_code_goes_on l h q d sl d2 (sign.Keyword n) b m is
shut_goes_on l h q d sl d2 (sign.PrimitiveKeyword n y) b m is = barred_code_goes_on l h q d sl d2 (sign.PrimitiveKeyword n y) b m is
shut_goes_on l h q d sl d2 sign.RestartKeyword b m is = barred_code_goes_on l h q d sl d2 sign.RestartKeyword b m is
shut_goes_on l h q d sl d2 (sign.CapitalKeyword n y) b m is = barred_code_goes_on l h q d sl d2 (sign.CapitalKeyword n y) b m is
shut_goes_on l h q d sl d2 (sign.Argument n t r) b m is = barred_code_goes_on l h q d sl d2 (sign.Argument n t r) b m is
shut_goes_on l h q d sl d2 (sign.Delegate n r) b m is = barred_code_goes_on l h q d sl d2 (sign.Delegate n r) b m is
shut_goes_on l h q d sl d2 (sign.Operator n r) b m is = barred_code_goes_on l h q d sl d2 (sign.Operator n r) b m is
shut_goes_on l h q d sl d2 sign.OpenParen b m is = barred_code_goes_on l h q d sl d2 sign.OpenParen b m is
shut_goes_on l h q d sl d2 sign.CloseParen b m is = object_goes_on l h q d sl d2 b m is
shut_goes_on l h q d sl d2 sign.OpenBracket b m is = barred_code_goes_on l h q d sl d2 sign.OpenBracket b m is
shut_goes_on l h q d sl d2 sign.CloseBracket b m is = barred_code_goes_on l h q d sl d2 sign.CloseBracket b m is
shut_goes_on l h q d sl d2 sign.Bar b m is = barred_code_goes_on l h q d sl d2 sign.Bar b m is
shut_goes_on l h q d sl d2 sign.Period b m is = barred_code_goes_on l h q d sl d2 sign.Period b m is
shut_goes_on l h q d sl d2 sign.Caret b m is = barred_code_goes_on l h q d sl d2 sign.Caret b m is
shut_goes_on l h q d sl d2 sign.End b m is = barred_code_goes_on l h q d sl d2 sign.End b m is
shut_goes_on l h q d sl d2 (sign.Bad z) b m is = barred_code_goes_on l h q d sl d2 (sign.Bad z) b m is

pub data_shut_goes_on : (l : Limits) (h : DataHole) (q d : Spot) (sl : g.Slots) (d2 : Spot) (x : Symbol) (b : Spot) (m : Moves.Move) → v.data_shut_move l h q d sl d2 x b ≡ Some m → GoesOn l (Moves.before l (Moves.data_shut h q d sl d2)) x b m
data_shut_goes_on l h q d sl d2 (sign.Integer z) b m is = cc
data_shut_goes_on l h q d sl d2 (sign.Text i j) b m is = cc
data_shut_goes_on l h q d sl d2 (sign.Name n t r) b m is = cc
data_shut_goes_on l h q d sl d2 (sign.Primitive n) b m is = cc
data_shut_goes_on l h q d sl d2 sign.Restart b m is = cc
data_shut_goes_on l h q d sl d2 (sign.Keyword n) b m is = cc
data_shut_goes_on l h q d sl d2 (sign.PrimitiveKeyword n y) b m is = cc
data_shut_goes_on l h q d sl d2 sign.RestartKeyword b m is = cc
data_shut_goes_on l h q d sl d2 (sign.CapitalKeyword n y) b m is = cc
data_shut_goes_on l h q d sl d2 (sign.Argument n t r) b m is = cc
data_shut_goes_on l h q d sl d2 (sign.Delegate n r) b m is = cc
data_shut_goes_on l h q d sl d2 (sign.Operator n r) b m is = cc
data_shut_goes_on l h q d sl d2 sign.OpenParen b m is = cc
data_shut_goes_on l h q d sl d2 sign.CloseParen b m is = datum_goes_on l _ h (g.object (g.slotted_object q d sl d2 b)) sign.CloseParen b (v.object_end q (slots_scope l sl (scope holder))) m is (λ k. sym (data_bars_settle l h q d sl (λ t. write l sign.Bar d2 quiet (write l sign.CloseParen b (v.object_end q t) k))))
data_shut_goes_on l h q d sl d2 sign.OpenBracket b m is = cc
data_shut_goes_on l h q d sl d2 sign.CloseBracket b m is = cc
data_shut_goes_on l h q d sl d2 sign.Bar b m is = cc
data_shut_goes_on l h q d sl d2 sign.Period b m is = cc
data_shut_goes_on l h q d sl d2 sign.Caret b m is = cc
data_shut_goes_on l h q d sl d2 sign.End b m is = cc
data_shut_goes_on l h q d sl d2 (sign.Bad z) b m is = cc

path_goes_on : (l : Limits) (h : Lists) (f : g.Member) (n t : ℕ) (r : Reserved) (b : Spot) (m : Moves.Move) → v.path_move h f (Moves.any n t r b) ≡ Some m →
    GoesOn l (Moves.before l (Moves.member_done h f)) (sign.Name n t r) b m
path_goes_on l h (g.constant w e (g.object o)) n t r b m is = cc
path_goes_on l h (g.constant w e (g.simple (g.integer z c))) n t r b m is = cc
path_goes_on l h (g.constant w e (g.simple (g.string c))) n t r b m is = cc
path_goes_on l h (g.constant w e (g.simple (g.path q))) n t r b m is = along l _ _ _ _ m is (record { law = λ k. refl })
path_goes_on l h (g.assignable w a (g.object o)) n t r b m is = cc
path_goes_on l h (g.assignable w a (g.simple (g.integer z c))) n t r b m is = cc
path_goes_on l h (g.assignable w a (g.simple (g.string c))) n t r b m is = cc
path_goes_on l h (g.assignable w a (g.simple (g.path q))) n t r b m is = along l _ _ _ _ m is (record { law = λ k. refl })
path_goes_on l h (g.parent w y e (g.object o)) n t r b m is = cc
path_goes_on l h (g.parent w y e (g.simple (g.integer z c))) n t r b m is = cc
path_goes_on l h (g.parent w y e (g.simple (g.string c))) n t r b m is = cc
path_goes_on l h (g.parent w y e (g.simple (g.path q))) n t r b m is = along l _ _ _ _ m is (record { law = λ k. refl })
path_goes_on l h (g.bare w) n t r b m is = cc
path_goes_on l h (g.coded y) n t r b m is = cc

pub member_done_goes_on : (l : Limits) (h : Lists) (f : g.Member) (x : Symbol) (b : Spot) (m : Moves.Move) → v.member_done_move l h f x b ≡ Some m → GoesOn l (Moves.before l (Moves.member_done h f)) x b m
member_done_goes_on l h f (sign.Integer z) b m is = cc
member_done_goes_on l h f (sign.Text i j) b m is = cc
member_done_goes_on l h f (sign.Name n t r) b m is = path_goes_on l h f n t r b m is
member_done_goes_on l h f (sign.Primitive n) b m is = cc
member_done_goes_on l h f sign.Restart b m is = cc
member_done_goes_on l h f (sign.Keyword n) b m is = cc
member_done_goes_on l h f (sign.PrimitiveKeyword n y) b m is = cc
member_done_goes_on l h f sign.RestartKeyword b m is = cc
member_done_goes_on l h f (sign.CapitalKeyword n y) b m is = cc
member_done_goes_on l h f (sign.Argument n t r) b m is = cc
member_done_goes_on l h f (sign.Delegate n r) b m is = cc
member_done_goes_on l h f (sign.Operator n r) b m is = cc
member_done_goes_on l h f sign.OpenParen b m is = cc
member_done_goes_on l h f sign.CloseParen b m is = cc
member_done_goes_on l h f sign.OpenBracket b m is = cc
member_done_goes_on l h f sign.CloseBracket b m is = cc
member_done_goes_on l h f sign.Bar b m is = done_goes_on l _ h (g.member f) Moves.stay (λ k. refl) v.bar b m is
member_done_goes_on l h f sign.Period b m is = done_goes_on l _ h (g.member f) Moves.stay (λ k. refl) v.period b m is
member_done_goes_on l h f sign.Caret b m is = cc
member_done_goes_on l h f sign.End b m is = done_goes_on l _ h (g.member f) Moves.stay (λ k. refl) v.end b m is
member_done_goes_on l h f (sign.Bad z) b m is = cc

argument_after_goes_on : (l : Limits) (h : Lists) (w : g.Label) (x : v.After) (b : Spot) (m : Moves.Move) → v.done_move l h (g.argument w) Moves.stay x b ≡ Some m →
    GoesOn l (Moves.before l (Moves.argument_done h w)) (v.after_symbol x) b m
argument_after_goes_on l (in_world ms) w v.period b m is = cc
argument_after_goes_on l (in_world ms) w v.bar b m is = cc
argument_after_goes_on l (in_world ms) w v.end b m is = cc
argument_after_goes_on l (in_bars h q d ss) w x b m is = done_goes_on l _ (in_bars h q d ss) (g.argument w) Moves.stay (λ k. refl) x b m is
argument_after_goes_on l (in_object h q d ss) w x b m is = done_goes_on l _ (in_object h q d ss) (g.argument w) Moves.stay (λ k. refl) x b m is

pub argument_done_goes_on : (l : Limits) (h : Lists) (w : g.Label) (x : Symbol) (b : Spot) (m : Moves.Move) → v.argument_done_move l h w x b ≡ Some m → GoesOn l (Moves.before l (Moves.argument_done h w)) x b m
argument_done_goes_on l h w (sign.Integer z) b m is = cc
argument_done_goes_on l h w (sign.Text i j) b m is = cc
argument_done_goes_on l h w (sign.Name n t r) b m is = cc
argument_done_goes_on l h w (sign.Primitive n) b m is = cc
argument_done_goes_on l h w sign.Restart b m is = cc
argument_done_goes_on l h w (sign.Keyword n) b m is = cc
argument_done_goes_on l h w (sign.PrimitiveKeyword n y) b m is = cc
argument_done_goes_on l h w sign.RestartKeyword b m is = cc
argument_done_goes_on l h w (sign.CapitalKeyword n y) b m is = cc
argument_done_goes_on l h w (sign.Argument n t r) b m is = cc
argument_done_goes_on l h w (sign.Delegate n r) b m is = cc
argument_done_goes_on l h w (sign.Operator n r) b m is = cc
argument_done_goes_on l h w sign.OpenParen b m is = cc
argument_done_goes_on l h w sign.CloseParen b m is = cc
argument_done_goes_on l h w sign.OpenBracket b m is = cc
argument_done_goes_on l h w sign.CloseBracket b m is = cc
argument_done_goes_on l h w sign.Bar b m is = argument_after_goes_on l h w v.bar b m is
argument_done_goes_on l h w sign.Period b m is = argument_after_goes_on l h w v.period b m is
argument_done_goes_on l h w sign.Caret b m is = cc
argument_done_goes_on l h w sign.End b m is = argument_after_goes_on l h w v.end b m is
argument_done_goes_on l h w (sign.Bad z) b m is = cc

-- the name of a method settles what its contents are told
coded_says : (l : Limits) (h : Start) (y : g.Head) (e : g.Word) (f : g.Method) (k : Writer) →
    p.contents l (coded h y e) (s.method l (named_of l (coded h y e)) f k) ≡ p.start l h (s.method_slot l (g.method y e f) (λ t. k) (start_scope l h))
coded_says l h y e f k =
    ap (λ (w : Writer). p.start l h w)
    (head_settles l y (λ n. s.mark l Equals e (record quiet { broken = n.broken }) (s.method l (named_of l (coded h y e)) f k)) (start_scope l h)
    ∙ sym (head_settles l y (λ n. s.mark l Equals e (record quiet { broken = n.broken }) (s.method l n f k)) (start_scope l h)))

method_goes_on : (l : Limits) (h : Contents) (f : g.Method) (x : v.After) (b : Spot) (m : Moves.Move) → v.method_done l h f x b ≡ Some m →
    GoesOn l (Moves.before l (Moves.behind h f)) (v.after_symbol x) b m
method_goes_on l (undecided h w e) f x b m is = done_goes_on l _ h (g.member (g.coded (g.method (g.unary_head w) e f))) Moves.stay (λ k. refl) x b m is
method_goes_on l (coded (listed h) y e) f x b m is = done_goes_on l _ h (g.member (g.coded (g.method y e f))) Moves.stay (λ k. coded_says l (listed h) y e f k) x b m is
method_goes_on l (coded lone y e) f v.period b m is = along l _ _ _ _ m is (record { law = λ k. refl })
method_goes_on l (coded lone y e) f v.bar b m is = cc
method_goes_on l (coded lone y e) f v.end b m is = along l _ _ _ _ m is (record { law = λ k. coded_says l lone y e f (placing (s.method_items (g.method y e f)) (write l sign.End b quiet k)) })

pub method_behind_goes_on : (l : Limits) (h : Contents) (f : g.Method) (x : Symbol) (b : Spot) (m : Moves.Move) → v.behind_move l h f x b ≡ Some m → GoesOn l (Moves.before l (Moves.behind h f)) x b m
method_behind_goes_on l h f (sign.Integer z) b m is = cc
method_behind_goes_on l h f (sign.Text i j) b m is = cc
method_behind_goes_on l h f (sign.Name n t r) b m is = cc
method_behind_goes_on l h f (sign.Primitive n) b m is = cc
method_behind_goes_on l h f sign.Restart b m is = cc
method_behind_goes_on l h f (sign.Keyword n) b m is = cc
method_behind_goes_on l h f (sign.PrimitiveKeyword n y) b m is = cc
method_behind_goes_on l h f sign.RestartKeyword b m is = cc
method_behind_goes_on l h f (sign.CapitalKeyword n y) b m is = cc
method_behind_goes_on l h f (sign.Argument n t r) b m is = cc
method_behind_goes_on l h f (sign.Delegate n r) b m is = cc
method_behind_goes_on l h f (sign.Operator n r) b m is = cc
method_behind_goes_on l h f sign.OpenParen b m is = cc
method_behind_goes_on l h f sign.CloseParen b m is = cc
method_behind_goes_on l h f sign.OpenBracket b m is = cc
method_behind_goes_on l h f sign.CloseBracket b m is = cc
method_behind_goes_on l h f sign.Bar b m is = method_goes_on l h f v.bar b m is
method_behind_goes_on l h f sign.Period b m is = method_goes_on l h f v.period b m is
method_behind_goes_on l h f sign.Caret b m is = cc
method_behind_goes_on l h f sign.End b m is = method_goes_on l h f v.end b m is
method_behind_goes_on l h f (sign.Bad z) b m is = cc

pub lone_stopped_goes_on : (l : Limits) (y' : g.Head) (e : g.Word) (f' : g.Method) (d : Spot) (x : Symbol) (b : Spot) (m : Moves.Move) → v.lone_stopped_move y' e f' d x b ≡ Some m → GoesOn l (Moves.before l (Moves.lone_stopped y' e f' d)) x b m
lone_stopped_goes_on l y' e f' d (sign.Integer z) b m is = cc
lone_stopped_goes_on l y' e f' d (sign.Text i j) b m is = cc
lone_stopped_goes_on l y' e f' d (sign.Name n t r) b m is = cc
lone_stopped_goes_on l y' e f' d (sign.Primitive n) b m is = cc
lone_stopped_goes_on l y' e f' d sign.Restart b m is = cc
lone_stopped_goes_on l y' e f' d (sign.Keyword n) b m is = cc
lone_stopped_goes_on l y' e f' d (sign.PrimitiveKeyword n y) b m is = cc
lone_stopped_goes_on l y' e f' d sign.RestartKeyword b m is = cc
lone_stopped_goes_on l y' e f' d (sign.CapitalKeyword n y) b m is = cc
lone_stopped_goes_on l y' e f' d (sign.Argument n t r) b m is = cc
lone_stopped_goes_on l y' e f' d (sign.Delegate n r) b m is = cc
lone_stopped_goes_on l y' e f' d (sign.Operator n r) b m is = cc
lone_stopped_goes_on l y' e f' d sign.OpenParen b m is = cc
lone_stopped_goes_on l y' e f' d sign.CloseParen b m is = cc
lone_stopped_goes_on l y' e f' d sign.OpenBracket b m is = cc
lone_stopped_goes_on l y' e f' d sign.CloseBracket b m is = cc
lone_stopped_goes_on l y' e f' d sign.Bar b m is = cc
lone_stopped_goes_on l y' e f' d sign.Period b m is = cc
lone_stopped_goes_on l y' e f' d sign.Caret b m is = cc
lone_stopped_goes_on l y' e f' d sign.End b m is = along l _ _ _ _ m is (record { law = λ k. coded_says l lone y' e f' (placing (s.method_items (g.method y' e f')) (write l sign.Period d quiet (write l sign.End b quiet k))) })
lone_stopped_goes_on l y' e f' d (sign.Bad z) b m is = cc
