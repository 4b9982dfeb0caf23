-- A move goes on by its sign: what was written before the place, the sign and the rest are what is written before the next.
use Rattle.std.specs.Prelude.{◌≡◌, ℕ, ◌==◌, Bool, true, false, ◌&&◌, cond, Option, None, Some, List, refl}
use Rattle.std.proofs.Common.{ap, sym, subst, ◌∙◌, arith}
use Rattle.std.proofs.lemmas.Grind.{common_steps}
use Rattle.self_grammar.specs.Scopes.{too_many_arguments}
use Rattle.self_grammar.specs.declared.signs.Spot.{Spot}
use Rattle.self_grammar.specs.declared.signs.Reserved.{Reserved}
use Rattle.self_grammar.specs.declared.signs.Reserved.TheVariants.{Free, Itself, Resend}
use Rattle.self_grammar.specs.declared.signs.Role.{Role}
use Rattle.self_grammar.specs.declared.signs.Role.TheVariants.{Equals, Arrow, Star, Other}
use Rattle.self_grammar.specs.declared.signs.Symbol.{Symbol}
use Rattle.self_grammar.specs.declared.signs.Symbol.TheVariants as sign
use Rattle.self_grammar.specs.declared.pieces.TextNode.TheVariants as nodes
use Rattle.self_grammar.specs.Grammar as g
use Rattle.self_grammar.specs.Counts.{Limits, Mark, Context, Event, Writer, write}
use Rattle.self_grammar.specs.Counts
use Rattle.self_grammar.specs.Spelling as s
use Rattle.self_grammar.proofs.Places.{Contents, CodeHole, in_method, in_slotted, in_block, Hole, statement, returning, in_group, argument, OperandHole, alone, right}
use Rattle.self_grammar.proofs.Places as p
use Rattle.self_grammar.proofs.Moves

-- The move goes on by this sign.
pub record GoesOn (l : Limits) (said : Writer → List Mark) (x : Symbol) (b : Spot) (m : Moves.Move) : Type 0 where
  pub law : (k : Writer) → said (λ c. write l x b m.event (λ d. k (m.post d)) (m.pre c)) ≡ Moves.before l m.to k

-- what ends a body makes the place behind it
body_goes_on : (l : Limits) (h : CodeHole) (c : g.Code) (b : Spot) (x : Moves.Stop) (q : Moves.Place) → Moves.body_end h c b x ≡ Some q → (k : Writer) →
    p.code_said l h (s.code l c (write l (Moves.stop_symbol x) b (s.ending (g.full c) b) k)) ≡ Moves.before l q k
body_goes_on l (in_method h p) c b Moves.period q e k = cc
body_goes_on l (in_method h p) c b Moves.paren q e k = let same : Moves.behind h (g.bare_method p c b) ≡ q = cc in ap (λ y. Moves.before l y k) same
body_goes_on l (in_method h p) c b Moves.bracket q e k = cc
body_goes_on l (in_slotted h p b1 sl b2) c b Moves.period q e k = cc
body_goes_on l (in_slotted h p b1 sl b2) c b Moves.paren q e k = let same : Moves.behind h (g.slotted_method p b1 sl b2 c b) ≡ q = cc in ap (λ y. Moves.before l y k) same
body_goes_on l (in_slotted h p b1 sl b2) c b Moves.bracket q e k = cc
body_goes_on l (in_block h p bs) c b Moves.period q e k = cc
body_goes_on l (in_block h p bs) c b Moves.paren q e k = cc
body_goes_on l (in_block h p bs) c b Moves.bracket q e k = let same : Moves.having h (g.block p bs (g.full c) b) ≡ q = cc in ap (λ y. Moves.before l y k) same

pub along : (l : Limits) (said : Writer → List Mark) (x : Symbol) (b : Spot) (r m : Moves.Move) → Some r ≡ Some m → GoesOn l said x b r → GoesOn l said x b m
along l said x b r m e h = let same : r ≡ m = cc in subst (λ y. GoesOn l said x b y) same h

moving_goes_on : (l : Limits) (said : Writer → List Mark) (x : Symbol) (b : Spot) (pre : Context → Context) (e : Event) (o : Option Moves.Place) (m : Moves.Move) →
    Moves.moving pre e o ≡ Some m → ((q : Moves.Place) → o ≡ Some q → (k : Writer) → said (λ c. write l x b e k (pre c)) ≡ Moves.before l q k) → GoesOn l said x b m
moving_goes_on l said x b pre e None m is h = cc
moving_goes_on l said x b pre e (Some q) m is h = along l said x b (record { pre = pre; event = e; post = Moves.stay; to = q }) m is (record { law = h q refl })

end_goes_on : (l : Limits) (said : Writer → List Mark) (e : Moves.End) (pre : Context → Context) → ((k : Writer) → said (λ c. k (pre c)) ≡ Moves.end_said l e k) →
    (x : Moves.Stop) (b : Spot) (m : Moves.Move) → Moves.end_move e pre x b ≡ Some m → GoesOn l said (Moves.stop_symbol x) b m
end_goes_on l said (Moves.at_statement h ss e) pre says Moves.period b m is =
    along l said sign.Period b _ m is (record { law = λ k. says (write l sign.Period b Counts.quiet (λ d. k (Moves.owe (Counts.node b nodes.Drop) d))) })
end_goes_on l said (Moves.at_statement h ss e) pre says Moves.paren b m is =
    moving_goes_on l said sign.CloseParen b pre (s.ending (g.full (g.code ss None e None)) b) (Moves.body_end h (g.code ss None e None) b Moves.paren) m is
    (λ q same k. says (write l sign.CloseParen b (s.ending (g.full (g.code ss None e None)) b) k) ∙ body_goes_on l h (g.code ss None e None) b Moves.paren q same k)
end_goes_on l said (Moves.at_statement h ss e) pre says Moves.bracket b m is =
    moving_goes_on l said sign.CloseBracket b pre (s.ending (g.full (g.code ss None e None)) b) (Moves.body_end h (g.code ss None e None) b Moves.bracket) m is
    (λ q same k. says (write l sign.CloseBracket b (s.ending (g.full (g.code ss None e None)) b) k) ∙ body_goes_on l h (g.code ss None e None) b Moves.bracket q same k)
end_goes_on l said (Moves.at_return h ss r e) pre says Moves.period b m is = along l said sign.Period b _ m is (record { law = λ k. says (write l sign.Period b Counts.quiet k) })
end_goes_on l said (Moves.at_return h ss r e) pre says Moves.paren b m is =
    moving_goes_on l said sign.CloseParen b pre (s.ending (g.full (g.code ss (Some r) e None)) b) (Moves.body_end h (g.code ss (Some r) e None) b Moves.paren) m is
    (λ q same k. says (write l sign.CloseParen b (s.ending (g.full (g.code ss (Some r) e None)) b) k) ∙ body_goes_on l h (g.code ss (Some r) e None) b Moves.paren q same k)
end_goes_on l said (Moves.at_return h ss r e) pre says Moves.bracket b m is =
    moving_goes_on l said sign.CloseBracket b pre (s.ending (g.full (g.code ss (Some r) e None)) b) (Moves.body_end h (g.code ss (Some r) e None) b Moves.bracket) m is
    (λ q same k. says (write l sign.CloseBracket b (s.ending (g.full (g.code ss (Some r) e None)) b) k) ∙ body_goes_on l h (g.code ss (Some r) e None) b Moves.bracket q same k)
end_goes_on l said (Moves.at_group h q e) pre says Moves.period b m is = cc
end_goes_on l said (Moves.at_group h q e) pre says Moves.paren b m is = along l said sign.CloseParen b _ m is (record { law = λ k. says (write l sign.CloseParen b Counts.closing k) })
end_goes_on l said (Moves.at_group h q e) pre says Moves.bracket b m is = cc

stop_goes_on : (l : Limits) (h : OperandHole) (u : g.Unary) (x : Moves.Stop) (b : Spot) (m : Moves.Move) → Moves.stop_move h u x b ≡ Some m →
    GoesOn l (Moves.before l (Moves.having h u)) (Moves.stop_symbol x) b m
stop_goes_on l h u x b m is =
    end_goes_on l (Moves.before l (Moves.having h u)) (Moves.unwinds (Moves.hole_of h) (g.plain (Moves.closed h u))) (λ c. Moves.unwound (Moves.hole_of h) (Moves.operated h c))
    (Moves.ends_said l h u) x b m is

-- where a unary is wanted
name_goes_on : (l : Limits) (h : OperandHole) (w : g.Label) (r : Reserved) (m : Moves.Move) → Moves.name_move h w r ≡ Some m →
    GoesOn l (Moves.before l (Moves.wanting h)) (sign.Name w.name w.setter r) w.spot m
name_goes_on l h w Free m is = along l _ _ _ _ m is (record { law = λ k. refl })
name_goes_on l h w Itself m is = along l _ _ _ _ m is (record { law = λ k. refl })
name_goes_on l h w Resend m is = along l _ _ _ _ m is (record { law = λ k. refl })

delegate_goes_on : (l : Limits) (h : OperandHole) (w : g.Word) (r : Reserved) (m : Moves.Move) → Moves.delegate_move h w r ≡ Some m →
    GoesOn l (Moves.before l (Moves.wanting h)) (sign.Delegate w.name r) w.spot m
delegate_goes_on l h w Free m is = along l _ _ _ _ m is (record { law = λ k. refl })
delegate_goes_on l h w Itself m is = cc
delegate_goes_on l h w Resend m is = along l _ _ _ _ m is (record { law = λ k. refl })

opening_goes_on : (l : Limits) (h : OperandHole) (w : g.Opening) (m : Moves.Move) → Moves.opening_move h w ≡ Some m →
    GoesOn l (Moves.before l (Moves.wanting h)) (s.opening_symbol w) (s.opening_spot w) m
opening_goes_on l (alone h) w m is = along l _ _ _ _ m is (record { law = λ k. refl })
opening_goes_on l (right h o r us) w m is = cc

caret_goes_on : (l : Limits) (h : OperandHole) (b : Spot) (m : Moves.Move) → Moves.caret_move h b ≡ Some m → GoesOn l (Moves.before l (Moves.wanting h)) sign.Caret b m
caret_goes_on l (alone (statement h ss)) b m is = along l _ _ _ _ m is (record { law = λ k. refl })
caret_goes_on l (alone (returning h ss q)) b m is = cc
caret_goes_on l (alone (in_group h q)) b m is = cc
caret_goes_on l (alone (argument h y)) b m is = cc
caret_goes_on l (right h o r us) b m is = cc

empty_goes_on : (l : Limits) (h : CodeHole) (x : Moves.Stop) (b : Spot) (m : Moves.Move) → Moves.empty_end h x b ≡ Some m →
    GoesOn l (Moves.before l (Moves.wanting (alone (statement h g.none)))) (Moves.stop_symbol x) b m
empty_goes_on l (in_method h q) x b m is = cc
empty_goes_on l (in_slotted h q b1 sl b2) x b m is = cc
empty_goes_on l (in_block h q bs) Moves.period b m is = cc
empty_goes_on l (in_block h q bs) Moves.paren b m is = cc
empty_goes_on l (in_block h q bs) Moves.bracket b m is = along l _ _ _ _ m is (record { law = λ k. refl })

stopped_goes_on : (l : Limits) (h : OperandHole) (x : Moves.Stop) (b : Spot) (m : Moves.Move) → Moves.stopped_move h x b ≡ Some m →
    GoesOn l (Moves.before l (Moves.wanting h)) (Moves.stop_symbol x) b m
stopped_goes_on l (alone (statement h g.none)) x b m is = empty_goes_on l h x b m is
stopped_goes_on l (alone (statement h (g.more ss e q))) x b m is =
    moving_goes_on l _ (Moves.stop_symbol x) b Moves.forget (s.ending (g.full (g.code ss None e (Some q))) b) (Moves.body_end h (g.code ss None e (Some q)) b x) m is
    (λ y same k. body_goes_on l h (g.code ss None e (Some q)) b x y same k)
stopped_goes_on l (alone (returning h ss q)) x b m is = cc
stopped_goes_on l (alone (in_group h q)) x b m is = cc
stopped_goes_on l (alone (argument h y)) x b m is = cc
stopped_goes_on l (right h o r us) x b m is = cc

block_bar_goes_on : (l : Limits) (h : CodeHole) (b : Spot) (m : Moves.Move) → Moves.block_bar h b ≡ Some m →
    GoesOn l (Moves.before l (Moves.wanting (alone (statement h g.none)))) sign.Bar b m
block_bar_goes_on l (in_block h q g.absent) b m is = along l _ _ _ _ m is (record { law = λ k. refl })
block_bar_goes_on l (in_block h q (g.present x ws y)) b m is = cc
block_bar_goes_on l (in_method h q) b m is = cc
block_bar_goes_on l (in_slotted h q b1 sl b2) b m is = cc

bar_goes_on : (l : Limits) (h : OperandHole) (b : Spot) (m : Moves.Move) → Moves.bar_move h b ≡ Some m → GoesOn l (Moves.before l (Moves.wanting h)) sign.Bar b m
bar_goes_on l (alone (statement h g.none)) b m is = block_bar_goes_on l h b m is
bar_goes_on l (alone (statement h (g.more ss e q))) b m is = cc
bar_goes_on l (alone (returning h ss q)) b m is = cc
bar_goes_on l (alone (in_group h q)) b m is = cc
bar_goes_on l (alone (argument h y)) b m is = cc
bar_goes_on l (right h o r us) b m is = cc

pub begin_goes_on : (l : Limits) (h : OperandHole) (x : Symbol) (b : Spot) (m : Moves.Move) → Moves.begin_move h x b ≡ Some m → GoesOn l (Moves.before l (Moves.wanting h)) x b m
begin_goes_on l h (sign.Integer z) b m is = along l _ _ _ _ m is (record { law = λ k. refl })
begin_goes_on l h (sign.Text i j) b m is = along l _ _ _ _ m is (record { law = λ k. refl })
begin_goes_on l h (sign.Name n t r) b m is = name_goes_on l h (Moves.label n t b) r m is
begin_goes_on l h (sign.Primitive n) b m is = along l _ _ _ _ m is (record { law = λ k. refl })
begin_goes_on l h sign.Restart b m is = along l _ _ _ _ m is (record { law = λ k. refl })
begin_goes_on l h (sign.Keyword n) b m is = opening_goes_on l h (g.ordinary (Moves.word n b)) m is
begin_goes_on l h (sign.PrimitiveKeyword n y) b m is = opening_goes_on l h (g.primitive_keyword (Moves.word n b) y) m is
begin_goes_on l h sign.RestartKeyword b m is = cc
begin_goes_on l h (sign.CapitalKeyword n y) b m is = cc
begin_goes_on l h (sign.Argument n t r) b m is = cc
begin_goes_on l h (sign.Delegate n r) b m is = delegate_goes_on l h (Moves.word n b) r m is
begin_goes_on l h (sign.Operator n r) b m is = cc
begin_goes_on l h sign.OpenParen b m is = along l _ _ _ _ m is (record { law = λ k. refl })
begin_goes_on l h sign.CloseParen b m is = stopped_goes_on l h Moves.paren b m is
begin_goes_on l h sign.OpenBracket b m is = along l _ _ _ _ m is (record { law = λ k. refl })
begin_goes_on l h sign.CloseBracket b m is = stopped_goes_on l h Moves.bracket b m is
begin_goes_on l h sign.Bar b m is = bar_goes_on l h b m is
begin_goes_on l h sign.Period b m is = cc
begin_goes_on l h sign.Caret b m is = caret_goes_on l h b m is
begin_goes_on l h sign.End b m is = cc
begin_goes_on l h (sign.Bad f) b m is = cc

-- where there is a unary
is_equal : (b c : ℕ) → (b == c) ≡ true → b ≡ c
is_equal b c h = grind (arith, common_steps)

both_first : (a b : Bool) → (a && b) ≡ true → a ≡ true
both_first true b h = refl
both_first false b h = cc

both_second : (a b : Bool) → (a && b) ≡ true → b ≡ true
both_second true b h = h
both_second false b h = cc

role_equal : (q r : Role) → Moves.same_role q r ≡ true → q ≡ r
role_equal Equals Equals h = refl
role_equal Equals Arrow h = cc
role_equal Equals Star h = cc
role_equal Equals Other h = cc
role_equal Arrow Equals h = cc
role_equal Arrow Arrow h = refl
role_equal Arrow Star h = cc
role_equal Arrow Other h = cc
role_equal Star Equals h = cc
role_equal Star Arrow h = cc
role_equal Star Star h = refl
role_equal Star Other h = cc
role_equal Other Equals h = cc
role_equal Other Arrow h = cc
role_equal Other Star h = cc
role_equal Other Other h = refl

chosen : (l : Limits) (said : Writer → List Mark) (x : Symbol) (b : Spot) (t : Bool) (r m : Moves.Move) → cond t (Some r) None ≡ Some m → (t ≡ true → GoesOn l said x b r) → GoesOn l said x b m
chosen l said x b true r m is h = along l said x b r m is (h refl)
chosen l said x b false r m is h = cc

operator_goes_on : (l : Limits) (h : OperandHole) (u : g.Unary) (o : ℕ) (r : Role) (b : Spot) (m : Moves.Move) → Moves.operator_move h u o r b ≡ Some m →
    GoesOn l (Moves.before l (Moves.having h u)) (sign.Operator o r) b m
operator_goes_on l (alone h) u o r b m is = along l _ _ _ _ m is (record { law = λ k. refl })
operator_goes_on l (right h y q us) u o r b m is =
    chosen l _ (sign.Operator o r) b ((y == o) && Moves.same_role q r) _ m is
    (λ t.
    let name = is_equal y o (both_first (y == o) (Moves.same_role q r) t) in
    let role = role_equal q r (both_second (y == o) (Moves.same_role q r) t) in
    record {
      law = λ k. ap (λ z. p.said l h (s.operands l y q us (s.unary l u (λ c. write l z b Counts.quiet k (Moves.owe (s.operator_node y us) c)))))
          (ap (λ z. sign.Operator z r) (sym name) ∙ ap (λ z. sign.Operator y z) (sym role));
    })

keyword_goes_on : (l : Limits) (h : OperandHole) (u : g.Unary) (w : g.Opening) (m : Moves.Move) → Moves.keyword_move h u w ≡ Some m →
    GoesOn l (Moves.before l (Moves.having h u)) (s.opening_symbol w) (s.opening_spot w) m
keyword_goes_on l h u w m is =
    along l _ _ _ _ m is (record { law = λ k. Moves.operated_said l h u (write l (s.opening_symbol w) (s.opening_spot w) Counts.opening k) })

part_goes_on : (l : Limits) (said : Writer → List Mark) (pre : Context → Context) (h : Hole) (x : g.Binary) (q : g.Part) → ((k : Writer) → said (λ c. k (pre c)) ≡ p.said l h (s.binary l x k)) →
    (m : Moves.Move) → Moves.part_move l pre h x q ≡ Some m → GoesOn l said (sign.CapitalKeyword q.word.name q.handles) q.word.spot m
part_goes_on l said pre (statement h ss) x q says m is = cc
part_goes_on l said pre (returning h ss r) x q says m is = cc
part_goes_on l said pre (in_group h r) x q says m is = cc
part_goes_on l said pre (argument h y) x q says m is =
    along l _ _ _ _ m is (record { law = λ k. says (s.part l q (record Counts.quiet { broken = too_many_arguments l (s.parts y) }) k) })

pub having_goes_on : (l : Limits) (h : OperandHole) (u : g.Unary) (x : Symbol) (b : Spot) (m : Moves.Move) → Moves.having_move l h u x b ≡ Some m →
    GoesOn l (Moves.before l (Moves.having h u)) x b m
having_goes_on l h u (sign.Integer z) b m is = cc
having_goes_on l h u (sign.Text i j) b m is = cc
having_goes_on l h u (sign.Name n t r) b m is = along l _ _ _ _ m is (record { law = λ k. refl })
having_goes_on l h u (sign.Primitive n) b m is = along l _ _ _ _ m is (record { law = λ k. refl })
having_goes_on l h u sign.Restart b m is = cc
having_goes_on l h u (sign.Keyword n) b m is = keyword_goes_on l h u (g.ordinary (Moves.word n b)) m is
having_goes_on l h u (sign.PrimitiveKeyword n y) b m is = keyword_goes_on l h u (g.primitive_keyword (Moves.word n b) y) m is
having_goes_on l h u sign.RestartKeyword b m is = cc
having_goes_on l h u (sign.CapitalKeyword n y) b m is =
    part_goes_on l _ (Moves.operated h) (Moves.hole_of h) (Moves.closed h u) (record { word = Moves.word n b; handles = y }) (Moves.operated_said l h u) m is
having_goes_on l h u (sign.Argument n t r) b m is = cc
having_goes_on l h u (sign.Delegate n r) b m is = cc
having_goes_on l h u (sign.Operator o r) b m is = operator_goes_on l h u o r b m is
having_goes_on l h u sign.OpenParen b m is = cc
having_goes_on l h u sign.CloseParen b m is = stop_goes_on l h u Moves.paren b m is
having_goes_on l h u sign.OpenBracket b m is = cc
having_goes_on l h u sign.CloseBracket b m is = stop_goes_on l h u Moves.bracket b m is
having_goes_on l h u sign.Bar b m is = cc
having_goes_on l h u sign.Period b m is = stop_goes_on l h u Moves.period b m is
having_goes_on l h u sign.Caret b m is = cc
having_goes_on l h u sign.End b m is = cc
having_goes_on l h u (sign.Bad f) b m is = cc

-- behind a delegate
delegate_operator_goes_on : (l : Limits) (h : OperandHole) (d : g.Delegate) (o : ℕ) (r : Role) (b : Spot) (m : Moves.Move) → Moves.delegate_operator h d o r b ≡ Some m →
    GoesOn l (Moves.before l (Moves.delegated h d)) (sign.Operator o r) b m
delegate_operator_goes_on l (alone h) d o r b m is = along l _ _ _ _ m is (record { law = λ k. refl })
delegate_operator_goes_on l (right h y q us) d o r b m is = cc

delegate_keyword_goes_on : (l : Limits) (h : OperandHole) (d : g.Delegate) (w : g.Word) (m : Moves.Move) → Moves.delegate_keyword h d w ≡ Some m →
    GoesOn l (Moves.before l (Moves.delegated h d)) (sign.Keyword w.name) w.spot m
delegate_keyword_goes_on l (alone h) d w m is = along l _ _ _ _ m is (record { law = λ k. refl })
delegate_keyword_goes_on l (right h y q us) d w m is = cc

pub delegated_goes_on : (l : Limits) (h : OperandHole) (d : g.Delegate) (x : Symbol) (b : Spot) (m : Moves.Move) → Moves.delegated_move h d x b ≡ Some m →
    GoesOn l (Moves.before l (Moves.delegated h d)) x b m
delegated_goes_on l h d (sign.Integer z) b m is = cc
delegated_goes_on l h d (sign.Text i j) b m is = cc
delegated_goes_on l h d (sign.Name n t r) b m is = along l _ _ _ _ m is (record { law = λ k. refl })
delegated_goes_on l h d (sign.Primitive n) b m is = cc
delegated_goes_on l h d sign.Restart b m is = cc
delegated_goes_on l h d (sign.Keyword n) b m is = delegate_keyword_goes_on l h d (Moves.word n b) m is
delegated_goes_on l h d (sign.PrimitiveKeyword n y) b m is = cc
delegated_goes_on l h d sign.RestartKeyword b m is = cc
delegated_goes_on l h d (sign.CapitalKeyword n y) b m is = cc
delegated_goes_on l h d (sign.Argument n t r) b m is = cc
delegated_goes_on l h d (sign.Delegate n r) b m is = cc
delegated_goes_on l h d (sign.Operator o r) b m is = delegate_operator_goes_on l h d o r b m is
delegated_goes_on l h d sign.OpenParen b m is = cc
delegated_goes_on l h d sign.CloseParen b m is = cc
delegated_goes_on l h d sign.OpenBracket b m is = cc
delegated_goes_on l h d sign.CloseBracket b m is = cc
delegated_goes_on l h d sign.Bar b m is = cc
delegated_goes_on l h d sign.Period b m is = cc
delegated_goes_on l h d sign.Caret b m is = cc
delegated_goes_on l h d sign.End b m is = cc
delegated_goes_on l h d (sign.Bad f) b m is = cc

-- behind the period of a return
pub ended_goes_on : (l : Limits) (h : CodeHole) (ss : g.Statements) (q : Spot) (e : g.Expression) (d : Spot) (x : Moves.Stop) (b : Spot) (m : Moves.Move) →
    Moves.ended_move h ss q e d x b ≡ Some m → GoesOn l (Moves.before l (Moves.ended h ss q e d)) (Moves.stop_symbol x) b m
ended_goes_on l h ss q e d x b m is =
    moving_goes_on l _ (Moves.stop_symbol x) b Moves.stay (s.ending (g.full (g.code ss (Some q) e (Some d))) b) (Moves.body_end h (g.code ss (Some q) e (Some d)) b x) m is
    (λ y same k. body_goes_on l h (g.code ss (Some q) e (Some d)) b x y same k)
