-- Whatever code the grammar spells is followed, sign by sign, with the marks that it has.
use Rattle.std.specs.Prelude.{◌≡◌, ℕ, ◌==◌, true, false, None, Some, List, [], ◌∷◌, refl}
use Rattle.std.proofs.Common.{ap, sym, subst, arith}
use Rattle.std.proofs.lemmas.Grind.{common_steps}
use Rattle.self_grammar.specs.declared.signs.Spot.{Spot}
use Rattle.self_grammar.specs.declared.signs.Role.{Role}
use Rattle.self_grammar.specs.declared.signs.Role.TheVariants.{Equals, Arrow, Star, Other}
use Rattle.self_grammar.specs.declared.signs.Symbol.{Symbol}
use Rattle.self_grammar.specs.declared.signs.Symbol.TheVariants as sign
use Rattle.self_grammar.specs.declared.pieces.Words.TheVariants.{One}
use Rattle.self_grammar.specs.declared.pieces.TextNode.TheVariants as nodes
use Rattle.self_grammar.specs.declared.pieces.Item.TheVariants as items
use Rattle.self_grammar.specs.Grammar as g
use Rattle.self_grammar.specs.Counts.{Limits, Mark, Context, Event, Writer, write, mark_at, moved, quiet, opening, closing, saying, placing, node, owing, entering}
use Rattle.self_grammar.specs.Scopes.{scope, activation, too_many_arguments}
use Rattle.self_grammar.specs.Counts
use Rattle.self_grammar.specs.Spelling as s
use Rattle.self_grammar.proofs.Places.{Text, CodeHole, in_method, in_slotted, in_block, Hole, statement, returning, in_group, argument, OperandHole, alone, right}
use Rattle.self_grammar.proofs.Moves
use Rattle.self_grammar.proofs.LocalMoves as w
use Rattle.self_grammar.proofs.Settled.{local_settles}
use Rattle.self_grammar.proofs.Reading.{move}

-- From a place, where so much is counted, these marks are followed up to the end of a text: each is the mark of the move by its sign.
abbrev pub Follows : Limits → Text → Moves.Place → Context → List Mark → Type 0
Follows l t q c [] = q ≡ Moves.finished t
Follows l t q c (m ∷ ms) =
    (v : Moves.Move) × (move l q m.sign.symbol m.sign.spot ≡ Some v) × (mark_at l (v.pre c) m.sign.symbol m.sign.spot v.event ≡ m) × Follows l t v.to (v.post (moved (v.pre c) v.event)) ms

abbrev pub Reads : Limits → Text → Moves.Place → Writer → Type 0
Reads l t q k = (c : Context) → Follows l t q c (k c)

-- one sign
pub reads : (l : Limits) (t : Text) (q : Moves.Place) (x : Symbol) (b : Spot) (v : Moves.Move) (k : Writer) → move l q x b ≡ Some v → ((d : Context) → Follows l t v.to (v.post d) (k d)) →
    Reads l t q (λ c. write l x b v.event k (v.pre c))
reads l t q x b v k is h c = (v, is, refl, h (moved (v.pre c) v.event))

-- Behind any unary that ends an expression so, this is followed.
abbrev pub Ends : Limits → Text → Moves.End → Writer → Type 0
Ends l t e k = (h : OperandHole) (u : g.Unary) → Moves.unwinds (Moves.hole_of h) (g.plain (Moves.closed h u)) ≡ e →
    Reads l t (Moves.having h u) (λ c. k (Moves.unwound (Moves.hole_of h) (Moves.operated h c)))

stop_is : (l : Limits) (h : OperandHole) (u : g.Unary) (e : Moves.End) (x : Moves.Stop) (b : Spot) → Moves.unwinds (Moves.hole_of h) (g.plain (Moves.closed h u)) ≡ e →
    move l (Moves.having h u) (Moves.stop_symbol x) b ≡ Moves.end_move e (λ c. Moves.unwound (Moves.hole_of h) (Moves.operated h c)) x b
stop_is l h u e Moves.period b same = ap (λ y. Moves.end_move y (λ c. Moves.unwound (Moves.hole_of h) (Moves.operated h c)) Moves.period b) same
stop_is l h u e Moves.paren b same = ap (λ y. Moves.end_move y (λ c. Moves.unwound (Moves.hole_of h) (Moves.operated h c)) Moves.paren b) same
stop_is l h u e Moves.bracket b same = ap (λ y. Moves.end_move y (λ c. Moves.unwound (Moves.hole_of h) (Moves.operated h c)) Moves.bracket b) same

-- what closes a body, and the place behind it
abbrev pub closer : CodeHole → Moves.Stop
closer (in_method h q) = Moves.paren
closer (in_slotted h q b1 sl b2) = Moves.paren
closer (in_block h q bs) = Moves.bracket

abbrev pub after_code : CodeHole → g.Code → Spot → Moves.Place
after_code (in_method h q) c b = Moves.behind h (g.bare_method q c b)
after_code (in_slotted h q b1 sl b2) c b = Moves.behind h (g.slotted_method q b1 sl b2 c b)
after_code (in_block h q bs) c b = Moves.having h (g.block q bs (g.full c) b)

equal_self : (n : ℕ) → (n == n) ≡ true
equal_self n = grind (arith, common_steps)

role_self : (r : Role) → Moves.same_role r r ≡ true
role_self Equals = refl
role_self Arrow = refl
role_self Star = refl
role_self Other = refl

operator_again : (h : Hole) (n : ℕ) (r : Role) (us : g.Operands) (u : g.Unary) (b : Spot) →
    Moves.operator_move (right h n r us) u n r b ≡ Some (record { pre = Moves.owe (s.operator_node n us); event = quiet; post = Moves.stay; to = Moves.wanting (right h n r (g.next us u b)) })
operator_again h n r us u b = rw (equal_self n, role_self r) refl

-- the last operand of a binary
abbrev pub last_hole : g.Binary → Hole → OperandHole
last_hole (g.single u) h = alone h
last_hole (g.several n r us u) h = right h n r us

abbrev pub last_unary : g.Binary → g.Unary
last_unary (g.single u) = u
last_unary (g.several n r us u) = u

delegate_reads : (l : Limits) (t : Text) (d : g.Delegate) (h : OperandHole) (k : Writer) → Reads l t (Moves.delegated h d) k → Reads l t (Moves.wanting h) (s.delegate l d k)
delegate_reads l t (g.to_all w) h k f = reads l t (Moves.wanting h) _ _ _ k refl f
delegate_reads l t (g.to_parent w) h k f = reads l t (Moves.wanting h) _ _ _ k refl f

period_ends : (l : Limits) (t : Text) (h : CodeHole) (ss : g.Statements) (e : g.Expression) (b : Spot) (k : Writer) → Reads l t (Moves.wanting (alone (statement h (g.more ss e b)))) k →
    Ends l t (Moves.at_statement h ss e) (write l sign.Period b quiet (owing (node b nodes.Drop) k))
period_ends l t h ss e b k f i u same c = (
  _,
  stop_is l i u (Moves.at_statement h ss e) Moves.period b same,
  refl,
  f _,
)

-- the signs that close
close_ends : (l : Limits) (t : Text) (h : CodeHole) (ss : g.Statements) (e : g.Expression) (b : Spot) (k : Writer) → Reads l t (after_code h (g.code ss None e None) b) k →
    Ends l t (Moves.at_statement h ss e) (write l (Moves.stop_symbol (closer h)) b (s.ending (g.full (g.code ss None e None)) b) k)
close_ends l t (in_method h q) ss e b k f i u same c = (_, stop_is l i u (Moves.at_statement (in_method h q) ss e) Moves.paren b same, refl, f _)
close_ends l t (in_slotted h q b1 sl b2) ss e b k f i u same c = (_, stop_is l i u (Moves.at_statement (in_slotted h q b1 sl b2) ss e) Moves.paren b same, refl, f _)
close_ends l t (in_block h q bs) ss e b k f i u same c = (_, stop_is l i u (Moves.at_statement (in_block h q bs) ss e) Moves.bracket b same, refl, f _)

stopped_ends : (l : Limits) (t : Text) (h : CodeHole) (ss : g.Statements) (e : g.Expression) (d b : Spot) (k : Writer) → Reads l t (after_code h (g.code ss None e (Some d)) b) k →
    Ends l t (Moves.at_statement h ss e) (write l sign.Period d quiet (write l (Moves.stop_symbol (closer h)) b (s.ending (g.full (g.code ss None e (Some d))) b) k))
stopped_ends l t (in_method h q) ss e d b k f i u same c = (_, stop_is l i u (Moves.at_statement (in_method h q) ss e) Moves.period d same, refl, (_, refl, refl, f _))
stopped_ends l t (in_slotted h q b1 sl b2) ss e d b k f i u same c = (_, stop_is l i u (Moves.at_statement (in_slotted h q b1 sl b2) ss e) Moves.period d same, refl, (_, refl, refl, f _))
stopped_ends l t (in_block h q bs) ss e d b k f i u same c = (_, stop_is l i u (Moves.at_statement (in_block h q bs) ss e) Moves.period d same, refl, (_, refl, refl, f _))

return_ends : (l : Limits) (t : Text) (h : CodeHole) (ss : g.Statements) (r : Spot) (e : g.Expression) (b : Spot) (k : Writer) → Reads l t (after_code h (g.code ss (Some r) e None) b) k →
    Ends l t (Moves.at_return h ss r e) (write l (Moves.stop_symbol (closer h)) b (s.ending (g.full (g.code ss (Some r) e None)) b) k)
return_ends l t (in_method h q) ss r e b k f i u same c = (_, stop_is l i u (Moves.at_return (in_method h q) ss r e) Moves.paren b same, refl, f _)
return_ends l t (in_slotted h q b1 sl b2) ss r e b k f i u same c = (_, stop_is l i u (Moves.at_return (in_slotted h q b1 sl b2) ss r e) Moves.paren b same, refl, f _)
return_ends l t (in_block h q bs) ss r e b k f i u same c = (_, stop_is l i u (Moves.at_return (in_block h q bs) ss r e) Moves.bracket b same, refl, f _)

returned_ends : (l : Limits) (t : Text) (h : CodeHole) (ss : g.Statements) (r : Spot) (e : g.Expression) (d b : Spot) (k : Writer) → Reads l t (after_code h (g.code ss (Some r) e (Some d)) b) k →
    Ends l t (Moves.at_return h ss r e) (write l sign.Period d quiet (write l (Moves.stop_symbol (closer h)) b (s.ending (g.full (g.code ss (Some r) e (Some d))) b) k))
returned_ends l t (in_method h q) ss r e d b k f i u same c = (_, stop_is l i u (Moves.at_return (in_method h q) ss r e) Moves.period d same, refl, (_, refl, refl, f _))
returned_ends l t (in_slotted h q b1 sl b2) ss r e d b k f i u same c = (_, stop_is l i u (Moves.at_return (in_slotted h q b1 sl b2) ss r e) Moves.period d same, refl, (_, refl, refl, f _))
returned_ends l t (in_block h q bs) ss r e d b k f i u same c = (_, stop_is l i u (Moves.at_return (in_block h q bs) ss r e) Moves.period d same, refl, (_, refl, refl, f _))

group_ends : (l : Limits) (t : Text) (h : OperandHole) (q : Spot) (e : g.Expression) (b : Spot) (k : Writer) → Reads l t (Moves.having h (g.group q e b)) k →
    Ends l t (Moves.at_group h q e) (write l sign.CloseParen b closing k)
group_ends l t h q e b k f i u same c = (_, stop_is l i u (Moves.at_group h q e) Moves.paren b same, refl, f _)

-- the slots of a block
path_reads : (l : Limits) (t : Text) (h : OperandHole) (q d : Spot) (ws : g.LocalsBefore) (y : g.Path) (w : g.Label) (e : g.Word) (k : Writer) →
    Reads l t (Moves.local_done h q d ws (g.local_constant w e (g.path y))) k → Reads l t (Moves.local_equals h q d ws w e) (s.path l y k)
path_reads l t h q d ws (g.named n) w e k f = λ c. (_, refl, refl, f _)
path_reads l t h q d ws (g.under y n) w e k f = path_reads l t h q d ws y w e (write l (s.any_name n) n.label.spot (saying (items.Further n.label.name n.label.spot)) k) (λ c. (_, refl, refl, f _))

arrow_path_reads : (l : Limits) (t : Text) (h : OperandHole) (q d : Spot) (ws : g.LocalsBefore) (y : g.Path) (w : g.Label) (e : g.Word) (k : Writer) →
    Reads l t (Moves.local_done h q d ws (g.local_assignable w e (g.path y))) k → Reads l t (Moves.local_arrow h q d ws w e) (s.path l y k)
arrow_path_reads l t h q d ws (g.named n) w e k f = λ c. (_, refl, refl, f _)
arrow_path_reads l t h q d ws (g.under y n) w e k f = arrow_path_reads l t h q d ws y w e (write l (s.any_name n) n.label.spot (saying (items.Further n.label.name n.label.spot)) k) (λ c. (_, refl, refl, f _))

abbrev pub done_to : OperandHole → Spot → Spot → g.LocalsBefore → g.Local → w.After → Spot → Moves.Place
done_to h q d ws x w.period b = Moves.at_local h q d (g.more_locals ws x b)
done_to h q d ws x w.bar b = Moves.wanting (alone (statement (in_block h q (g.present d (g.locals_last ws x) b)) g.none))

local_then : (l : Limits) (t : Text) (h : OperandHole) (q d : Spot) (ws : g.LocalsBefore) (y : g.Local) (x : w.After) (b : Spot) (k : Writer) → Reads l t (done_to h q d ws y x b) k →
    Reads l t (Moves.at_local h q d ws) (s.local l y (λ u. placing (s.local_items y) (write l (w.after_symbol x) b quiet k)) (Moves.block_scope l ws))
local_then l t h q d ws (g.local_argument n) w.period b k f = λ c. (_, refl, refl, (_, refl, refl, f _))
local_then l t h q d ws (g.local_bare n) w.period b k f = λ c. (_, refl, refl, (_, refl, refl, f _))
local_then l t h q d ws (g.local_constant n e (g.integer z i)) w.period b k f = λ c. (_, refl, refl, (_, refl, refl, (_, refl, refl, (_, refl, refl, f _))))
local_then l t h q d ws (g.local_constant n e (g.string z)) w.period b k f = λ c. (_, refl, refl, (_, refl, refl, (_, refl, refl, (_, refl, refl, f _))))
local_then l t h q d ws (g.local_constant n e (g.path y)) w.period b k f = λ c. (_, refl, refl, (_, refl, refl, path_reads l t h q d ws y n e (placing (s.local_items (g.local_constant n e (g.path y))) (write l sign.Period b quiet k)) (λ i. (_, refl, refl, f _)) _))
local_then l t h q d ws (g.local_assignable n e (g.integer z i)) w.period b k f = λ c. (_, refl, refl, (_, refl, refl, (_, refl, refl, (_, refl, refl, f _))))
local_then l t h q d ws (g.local_assignable n e (g.string z)) w.period b k f = λ c. (_, refl, refl, (_, refl, refl, (_, refl, refl, (_, refl, refl, f _))))
local_then l t h q d ws (g.local_assignable n e (g.path y)) w.period b k f = λ c. (_, refl, refl, (_, refl, refl, arrow_path_reads l t h q d ws y n e (placing (s.local_items (g.local_assignable n e (g.path y))) (write l sign.Period b quiet k)) (λ i. (_, refl, refl, f _)) _))
local_then l t h q d ws (g.local_argument n) w.bar b k f = λ c. (_, refl, refl, (_, refl, refl, f _))
local_then l t h q d ws (g.local_bare n) w.bar b k f = λ c. (_, refl, refl, (_, refl, refl, f _))
local_then l t h q d ws (g.local_constant n e (g.integer z i)) w.bar b k f = λ c. (_, refl, refl, (_, refl, refl, (_, refl, refl, (_, refl, refl, f _))))
local_then l t h q d ws (g.local_constant n e (g.string z)) w.bar b k f = λ c. (_, refl, refl, (_, refl, refl, (_, refl, refl, (_, refl, refl, f _))))
local_then l t h q d ws (g.local_constant n e (g.path y)) w.bar b k f = λ c. (_, refl, refl, (_, refl, refl, path_reads l t h q d ws y n e (placing (s.local_items (g.local_constant n e (g.path y))) (write l sign.Bar b quiet k)) (λ i. (_, refl, refl, f _)) _))
local_then l t h q d ws (g.local_assignable n e (g.integer z i)) w.bar b k f = λ c. (_, refl, refl, (_, refl, refl, (_, refl, refl, (_, refl, refl, f _))))
local_then l t h q d ws (g.local_assignable n e (g.string z)) w.bar b k f = λ c. (_, refl, refl, (_, refl, refl, (_, refl, refl, (_, refl, refl, f _))))
local_then l t h q d ws (g.local_assignable n e (g.path y)) w.bar b k f = λ c. (_, refl, refl, (_, refl, refl, arrow_path_reads l t h q d ws y n e (placing (s.local_items (g.local_assignable n e (g.path y))) (write l sign.Bar b quiet k)) (λ i. (_, refl, refl, f _)) _))

locals_reads : (l : Limits) (t : Text) (h : OperandHole) (q d : Spot) (ws : g.LocalsBefore) (k : s.Listing) → Reads l t (Moves.at_local h q d ws) (k (Moves.block_scope l ws)) →
    Reads l t (Moves.at_local h q d g.no_locals) (s.locals_before l ws k (scope activation))
locals_reads l t h q d g.no_locals k f = f
locals_reads l t h q d (g.more_locals ws y p) k f =
    locals_reads l t h q d ws (s.local l y (λ u. placing (s.local_items y) (write l sign.Period p quiet (k u))))
    (subst (λ z. Reads l t (Moves.at_local h q d ws) z) (sym (local_settles l y (λ u. placing (s.local_items y) (write l sign.Period p quiet (k u))) (Moves.block_scope l ws)))
    (local_then l t h q d ws y w.period p (k (Moves.block_scope l (g.more_locals ws y p))) f))

bars_reads : (l : Limits) (t : Text) (h : OperandHole) (q : Spot) (bs : g.Bars) (k : Writer) → Reads l t (Moves.wanting (alone (statement (in_block h q bs) g.none))) k →
    Reads l t (Moves.wanting (alone (statement (in_block h q g.absent) g.none))) (s.bars l bs k)
bars_reads l t h q g.absent k f = f
bars_reads l t h q (g.present d (g.locals_ended ws) b) k f =
    λ c. (_, refl, refl, locals_reads l t h q d ws (λ u. write l sign.Bar b quiet k) (λ i. (_, refl, refl, f _)) _)
bars_reads l t h q (g.present d (g.locals_last ws y) b) k f =
    λ c. (_, refl, refl, locals_reads l t h q d ws (s.local l y (λ u. placing (s.local_items y) (write l sign.Bar b quiet k))) (local_then l t h q d ws y w.bar b k f) _)

-- behind the last operand of a binary
keyword_behind : (b : g.Binary) (n : g.Opening) (l : Limits) (t : Text) (h : Hole) (k : Writer) → Reads l t (Moves.wanting (alone (argument h (g.opened (g.given b) n)))) k →
    Reads l t (Moves.having (last_hole b h) (last_unary b)) (λ c. write l (s.opening_symbol n) (s.opening_spot n) opening k (Moves.operated (last_hole b h) c))
keyword_behind (g.single u) (g.ordinary n) l t h k f = λ c. (_, refl, refl, f _)
keyword_behind (g.single u) (g.primitive_keyword n y) l t h k f = λ c. (_, refl, refl, f _)
keyword_behind (g.several m r us u) (g.ordinary n) l t h k f = λ c. (_, refl, refl, f _)
keyword_behind (g.several m r us u) (g.primitive_keyword n y) l t h k f = λ c. (_, refl, refl, f _)

part_behind : (b : g.Binary) (m : g.Message) (q : g.Part) (l : Limits) (t : Text) (h : Hole) (k : Writer) → Reads l t (Moves.wanting (alone (argument h (g.further m b q)))) k →
    Reads l t (Moves.having (last_hole b (argument h m)) (last_unary b)) (λ c. s.part l q (record quiet { broken = too_many_arguments l (s.parts m) }) k (Moves.operated (last_hole b (argument h m)) c))
part_behind (g.single u) m q l t h k f = λ c. (_, refl, refl, f _)
part_behind (g.several n r us u) m q l t h k f = λ c. (_, refl, refl, f _)

last_ends : (b : g.Binary) (l : Limits) (t : Text) (h : Hole) (k : Writer) → Ends l t (Moves.unwinds h (g.plain b)) k →
    Reads l t (Moves.having (last_hole b h) (last_unary b)) (λ c. k (Moves.unwound h (Moves.operated (last_hole b h) c)))
last_ends (g.single u) l t h k f = f (alone h) u refl
last_ends (g.several n r us u) l t h k f = f (right h n r us) u refl

mutual
  pub unary_reads : (u : g.Unary) (l : Limits) (t : Text) (h : OperandHole) (k : Writer) → Reads l t (Moves.having h u) k → Reads l t (Moves.wanting h) (s.unary l u k)
  unary_reads (g.int z p) l t h k f = λ c. (_, refl, refl, f _)
  unary_reads (g.str z) l t h k f = λ c. (_, refl, refl, f _)
  unary_reads (g.itself n) l t h k f = λ c. (_, refl, refl, f _)
  unary_reads (g.block p bs b q) l t h k f = λ c. (_, refl, refl, bars_reads l t h p bs (s.body l b (write l sign.CloseBracket q (s.ending b q) k)) (body_reads b l t h p bs q k f) _)
  unary_reads (g.group p e q) l t h k f = λ c. (_, refl, refl, expression_reads e l t (in_group h p) (write l sign.CloseParen q closing k) (group_ends l t h p e q k f) _)
  unary_reads (g.name n) l t h k f = λ c. (_, refl, refl, f _)
  unary_reads (g.resend_name n) l t h k f = λ c. (_, refl, refl, f _)
  unary_reads (g.primitive n) l t h k f = λ c. (_, refl, refl, f _)
  unary_reads (g.restart p) l t h k f = λ c. (_, refl, refl, f _)
  unary_reads (g.resent d n) l t h k f =
      delegate_reads l t d h (write l (s.any_name n) n.label.spot (Counts.makes (s.delegate_spot d) (nodes.Message (s.delegate_target d) (One n.label.name) 0)) k) (λ c. (_, refl, refl, f _))
  unary_reads (g.sent u n) l t h k f = unary_reads u l t h (write l (s.any_name n) n.label.spot (Counts.makes n.label.spot (s.unary_message n.label.name)) k) (λ c. (_, refl, refl, f _))
  unary_reads (g.sent_primitive u n) l t h k f = unary_reads u l t h (write l (sign.Primitive n.name) n.spot (Counts.makes n.spot (nodes.Primitive (One n.name) 0 false false)) k) (λ c. (_, refl, refl, f _))

  pub body_reads : (b : g.Body) (l : Limits) (t : Text) (h : OperandHole) (p : Spot) (bs : g.Bars) (q : Spot) (k : Writer) → Reads l t (Moves.having h (g.block p bs b q)) k →
      Reads l t (Moves.wanting (alone (statement (in_block h p bs) g.none))) (s.body l b (write l sign.CloseBracket q (s.ending b q) k))
  body_reads g.empty l t h p bs q k f = λ c. (_, refl, refl, f _)
  body_reads (g.full y) l t h p bs q k f = code_reads y l t (in_block h p bs) q k f

  pub operands_reads : (us : g.Operands) (n : ℕ) (r : Role) (l : Limits) (t : Text) (h : Hole) (k : Writer) → Reads l t (Moves.wanting (right h n r us)) k →
      Reads l t (Moves.wanting (alone h)) (s.operands l n r us k)
  operands_reads (g.first u p) n r l t h k f = unary_reads u l t (alone h) (write l (sign.Operator n r) p quiet k) (λ c. (_, refl, refl, f _))
  operands_reads (g.delegated d p) n r l t h k f = delegate_reads l t d (alone h) (write l (sign.Operator n r) p quiet k) (λ c. (_, refl, refl, f _))
  operands_reads (g.next us u p) n r l t h k f =
      operands_reads us n r l t h (s.unary l u (owing (s.operator_node n us) (write l (sign.Operator n r) p quiet k)))
      (unary_reads u l t (right h n r us) (owing (s.operator_node n us) (write l (sign.Operator n r) p quiet k)) (λ c. (_, operator_again h n r us u p, refl, f _)))

  pub binary_reads : (b : g.Binary) (l : Limits) (t : Text) (h : Hole) (k : Writer) → Reads l t (Moves.having (last_hole b h) (last_unary b)) (λ c. k (Moves.operated (last_hole b h) c)) →
      Reads l t (Moves.wanting (alone h)) (s.binary l b k)
  binary_reads (g.single u) l t h k f = unary_reads u l t (alone h) k f
  binary_reads (g.several n r us u) l t h k f = operands_reads us n r l t h (s.unary l u (owing (s.operator_node n us) k)) (unary_reads u l t (right h n r us) (owing (s.operator_node n us) k) f)

  pub receiver_reads : (r : g.Receiver) (w' : g.Opening) (l : Limits) (t : Text) (h : Hole) (k : Writer) → Reads l t (Moves.wanting (alone (argument h (g.opened r w')))) k →
      Reads l t (Moves.wanting (alone h)) (s.receiver l r (write l (s.opening_symbol w') (s.opening_spot w') opening k))
  receiver_reads g.implied (g.ordinary n) l t h k f = λ c. (_, refl, refl, f _)
  receiver_reads g.implied (g.primitive_keyword n y) l t h k f = λ c. (_, refl, refl, f _)
  receiver_reads (g.given b) w' l t h k f = binary_reads b l t h (write l (s.opening_symbol w') (s.opening_spot w') opening k) (keyword_behind b w' l t h k f)

  pub message_reads : (m : g.Message) (l : Limits) (t : Text) (h : Hole) (k : Writer) → Reads l t (Moves.wanting (alone (argument h m))) k → Reads l t (Moves.wanting (alone h)) (s.message l m k)
  message_reads (g.opened r n) l t h k f = receiver_reads r n l t h k f
  message_reads (g.redirected d n) l t h k f = delegate_reads l t d (alone h) (write l (sign.Keyword n.name) n.spot opening k) (λ c. (_, refl, refl, f _))
  message_reads (g.further m b q) l t h k f =
      message_reads m l t h (s.binary l b (s.part l q (record quiet { broken = too_many_arguments l (s.parts m) }) k))
      (binary_reads b l t (argument h m) (s.part l q (record quiet { broken = too_many_arguments l (s.parts m) }) k) (part_behind b m q l t h k f))

  pub expression_reads : (e : g.Expression) (l : Limits) (t : Text) (h : Hole) (k : Writer) → Ends l t (Moves.unwinds h e) k →
      Reads l t (Moves.wanting (alone h)) (s.expression l e (λ c. k (Moves.unwound h c)))
  expression_reads (g.plain b) l t h k f = binary_reads b l t h (λ c. k (Moves.unwound h c)) (last_ends b l t h k f)
  expression_reads (g.keyed m e) l t h k f =
      message_reads m l t h (s.expression l e (λ c. k (Moves.unwound (argument h m) c))) (expression_reads e l t (argument h m) k f)

  pub statements_reads : (ss : g.Statements) (l : Limits) (t : Text) (h : CodeHole) (k : Writer) → Reads l t (Moves.wanting (alone (statement h ss))) k →
      Reads l t (Moves.wanting (alone (statement h g.none))) (s.statements l ss k)
  statements_reads g.none l t h k f = f
  statements_reads (g.more ss e p) l t h k f =
      statements_reads ss l t h (s.expression l e (write l sign.Period p quiet (owing (node p nodes.Drop) k)))
      (expression_reads e l t (statement h ss) (write l sign.Period p quiet (owing (node p nodes.Drop) k)) (period_ends l t h ss e p k f))

  pub code_reads : (y : g.Code) (l : Limits) (t : Text) (h : CodeHole) (b : Spot) (k : Writer) → Reads l t (after_code h y b) k →
      Reads l t (Moves.wanting (alone (statement h g.none))) (s.code l y (write l (Moves.stop_symbol (closer h)) b (s.ending (g.full y) b) k))
  code_reads (g.code ss None e None) l t h b k f =
      statements_reads ss l t h (s.expression l e (write l (Moves.stop_symbol (closer h)) b (s.ending (g.full (g.code ss None e None)) b) k))
      (expression_reads e l t (statement h ss) (write l (Moves.stop_symbol (closer h)) b (s.ending (g.full (g.code ss None e None)) b) k) (close_ends l t h ss e b k f))
  code_reads (g.code ss None e (Some d)) l t h b k f =
      statements_reads ss l t h (s.expression l e (write l sign.Period d quiet (write l (Moves.stop_symbol (closer h)) b (s.ending (g.full (g.code ss None e (Some d))) b) k)))
      (expression_reads e l t (statement h ss) (write l sign.Period d quiet (write l (Moves.stop_symbol (closer h)) b (s.ending (g.full (g.code ss None e (Some d))) b) k)) (stopped_ends l t h ss e d b k f))
  code_reads (g.code ss (Some r) e None) l t h b k f =
      statements_reads ss l t h (write l sign.Caret r quiet (s.expression l e (owing (node r nodes.Return) (write l (Moves.stop_symbol (closer h)) b (s.ending (g.full (g.code ss (Some r) e None)) b) k))))
      (λ c. (_, refl, refl, expression_reads e l t (returning h ss r) (write l (Moves.stop_symbol (closer h)) b (s.ending (g.full (g.code ss (Some r) e None)) b) k) (return_ends l t h ss r e b k f) _))
  code_reads (g.code ss (Some r) e (Some d)) l t h b k f =
      statements_reads ss l t h (write l sign.Caret r quiet (s.expression l e (owing (node r nodes.Return) (write l sign.Period d quiet (write l (Moves.stop_symbol (closer h)) b (s.ending (g.full (g.code ss (Some r) e (Some d))) b) k)))))
      (λ c. (_, refl, refl, expression_reads e l t (returning h ss r) (write l sign.Period d quiet (write l (Moves.stop_symbol (closer h)) b (s.ending (g.full (g.code ss (Some r) e (Some d))) b) k)) (returned_ends l t h ss r e d b k f) _))
