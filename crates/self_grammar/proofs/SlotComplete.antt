-- Whatever the grammar spells is followed, sign by sign, with the marks that it has: lists of slots and whole texts.
use Rattle.std.specs.Prelude.{◌≡◌, Option, None, Some, List, [], ◌∷◌, refl}
use Rattle.std.proofs.Common.{ap, sym, subst}
use Rattle.self_grammar.specs.declared.signs.Spot.{Spot}
use Rattle.self_grammar.specs.declared.signs.Role.TheVariants.{Equals}
use Rattle.self_grammar.specs.declared.signs.Symbol.{Symbol}
use Rattle.self_grammar.specs.declared.signs.Symbol.TheVariants as sign
use Rattle.self_grammar.specs.declared.pieces.Item.TheVariants as items
use Rattle.self_grammar.specs.Grammar as g
use Rattle.self_grammar.specs.Counts.{Limits, Mark, Context, Event, Writer, write, mark_at, moved, quiet, saying, placing}
use Rattle.self_grammar.specs.Scopes.{Scope, scope, holder, either, too_many_arguments}
use Rattle.self_grammar.specs.Counts
use Rattle.self_grammar.specs.Scopes
use Rattle.self_grammar.specs.Spelling as s
use Rattle.self_grammar.proofs.Settled.{head_named, head_inner, keyword_scope, slot_scope, slots_scope, slot_settles, member_settles}
use Rattle.self_grammar.proofs.Places.{Text, Lists, in_world, in_bars, in_object, Start, listed, lone, Contents, undecided, coded, DataHole, assigned, parental, in_method, in_slotted, statement, alone, scope_of, start_scope, named_of}
use Rattle.self_grammar.proofs.Places as p
use Rattle.self_grammar.proofs.Moves
use Rattle.self_grammar.proofs.SlotMoves as v
use Rattle.self_grammar.proofs.Complete.{Follows, Reads, code_reads}

-- The slot may end with this sign, which does this and leads there.
abbrev pub Done : Limits → Lists → g.Slot → v.After → Spot → Event → Moves.Place → Type 0
Done l h x y b e to = (pre : Context → Context) → v.done_move l h x pre y b ≡ Some (record { pre = λ c. Moves.place (s.slot_items x) (pre c); event = e; post = Moves.stay; to = to })

member_then : (l : Limits) (t : Text) (h : Lists) (f : g.Member) (y : v.After) (b : Spot) (e : Event) (to : Moves.Place) (k : Writer) → Done l h (g.member f) y b e to → Reads l t to k →
    Reads l t (Moves.member_done h f) (placing (s.member_items f) (write l (v.after_symbol y) b e k))
member_then l t h f v.period b e to k d r = λ c. (_, d Moves.stay, refl, r _)
member_then l t h f v.bar b e to k d r = λ c. (_, d Moves.stay, refl, r _)
member_then l t h f v.end b e to k d r = λ c. (_, d Moves.stay, refl, r _)

bare_then : (l : Limits) (t : Text) (h : Lists) (w : g.Label) (y : v.After) (b : Spot) (e : Event) (to : Moves.Place) (k : Writer) → Done l h (g.member (g.bare w)) y b e to → Reads l t to k →
    Reads l t (Moves.at_slot (listed h)) (s.member l (g.bare w) (λ u. placing (s.member_items (g.bare w)) (write l (v.after_symbol y) b e k)) (scope_of l h))
bare_then l t h w v.period b e to k d r = λ c. (_, refl, refl, (_, d _, refl, r _))
bare_then l t h w v.bar b e to k d r = λ c. (_, refl, refl, (_, d _, refl, r _))
bare_then l t h w v.end b e to k d r = λ c. (_, refl, refl, (_, d _, refl, r _))

no_some : (o : Option Moves.Move) (m : Moves.Move) → o ≡ None → o ≡ Some m → ⊥
no_some o m e h = cc

bars_argument_period : (l : Limits) (t : Text) (h : Contents) (q i : Spot) (ss : g.SlotsBefore) (w : g.Label) (b : Spot) (e : Event) (to : Moves.Place) (k : Writer) → Done l (in_bars h q i ss) (g.argument w) v.period b e to → Reads l t to k →
    Reads l t (Moves.at_slot (listed (in_bars h q i ss))) (s.argument l w (λ u. placing [] (write l sign.Period b e k)) (scope_of l (in_bars h q i ss)))
bars_argument_period l t h q i ss w b e to k d r = λ c. (_, refl, refl, (_, d Moves.stay, refl, r _))

object_argument_period : (l : Limits) (t : Text) (h : DataHole) (q i : Spot) (ss : g.SlotsBefore) (w : g.Label) (b : Spot) (e : Event) (to : Moves.Place) (k : Writer) → Done l (in_object h q i ss) (g.argument w) v.period b e to → Reads l t to k →
    Reads l t (Moves.at_slot (listed (in_object h q i ss))) (s.argument l w (λ u. placing [] (write l sign.Period b e k)) (scope_of l (in_object h q i ss)))
object_argument_period l t h q i ss w b e to k d r = λ c. (_, refl, refl, (_, d Moves.stay, refl, r _))

bars_argument_bar : (l : Limits) (t : Text) (h : Contents) (q i : Spot) (ss : g.SlotsBefore) (w : g.Label) (b : Spot) (e : Event) (to : Moves.Place) (k : Writer) → Done l (in_bars h q i ss) (g.argument w) v.bar b e to → Reads l t to k →
    Reads l t (Moves.at_slot (listed (in_bars h q i ss))) (s.argument l w (λ u. placing [] (write l sign.Bar b e k)) (scope_of l (in_bars h q i ss)))
bars_argument_bar l t h q i ss w b e to k d r = λ c. (_, refl, refl, (_, d Moves.stay, refl, r _))

object_argument_bar : (l : Limits) (t : Text) (h : DataHole) (q i : Spot) (ss : g.SlotsBefore) (w : g.Label) (b : Spot) (e : Event) (to : Moves.Place) (k : Writer) → Done l (in_object h q i ss) (g.argument w) v.bar b e to → Reads l t to k →
    Reads l t (Moves.at_slot (listed (in_object h q i ss))) (s.argument l w (λ u. placing [] (write l sign.Bar b e k)) (scope_of l (in_object h q i ss)))
object_argument_bar l t h q i ss w b e to k d r = λ c. (_, refl, refl, (_, d Moves.stay, refl, r _))

bars_argument_end : (l : Limits) (t : Text) (h : Contents) (q i : Spot) (ss : g.SlotsBefore) (w : g.Label) (b : Spot) (e : Event) (to : Moves.Place) (k : Writer) → Done l (in_bars h q i ss) (g.argument w) v.end b e to → Reads l t to k →
    Reads l t (Moves.at_slot (listed (in_bars h q i ss))) (s.argument l w (λ u. placing [] (write l sign.End b e k)) (scope_of l (in_bars h q i ss)))
bars_argument_end l t h q i ss w b e to k d r = λ c. (_, refl, refl, (_, d Moves.stay, refl, r _))

object_argument_end : (l : Limits) (t : Text) (h : DataHole) (q i : Spot) (ss : g.SlotsBefore) (w : g.Label) (b : Spot) (e : Event) (to : Moves.Place) (k : Writer) → Done l (in_object h q i ss) (g.argument w) v.end b e to → Reads l t to k →
    Reads l t (Moves.at_slot (listed (in_object h q i ss))) (s.argument l w (λ u. placing [] (write l sign.End b e k)) (scope_of l (in_object h q i ss)))
object_argument_end l t h q i ss w b e to k d r = λ c. (_, refl, refl, (_, d Moves.stay, refl, r _))

argument_then : (l : Limits) (t : Text) (h : Lists) (w : g.Label) (y : v.After) (b : Spot) (e : Event) (to : Moves.Place) (k : Writer) → Done l h (g.argument w) y b e to → Reads l t to k →
    Reads l t (Moves.at_slot (listed h)) (s.argument l w (λ u. placing [] (write l (v.after_symbol y) b e k)) (scope_of l h))
argument_then l t (in_world ms) w y b e to k d r = absurd (no_some (v.done_move l (in_world ms) (g.argument w) Moves.stay y b) _ refl (d Moves.stay))
argument_then l t (in_bars h q i ss) w v.period b e to k d r = bars_argument_period l t h q i ss w b e to k d r
argument_then l t (in_object h q i ss) w v.period b e to k d r = object_argument_period l t h q i ss w b e to k d r
argument_then l t (in_bars h q i ss) w v.bar b e to k d r = bars_argument_bar l t h q i ss w b e to k d r
argument_then l t (in_object h q i ss) w v.bar b e to k d r = object_argument_bar l t h q i ss w b e to k d r
argument_then l t (in_bars h q i ss) w v.end b e to k d r = bars_argument_end l t h q i ss w b e to k d r
argument_then l t (in_object h q i ss) w v.end b e to k d r = object_argument_end l t h q i ss w b e to k d r

-- what a method slot's contents stand in
abbrev pub contents_for : Start → g.Head → g.Word → Contents
contents_for (listed h) (g.unary_head w) e = undecided h w e
contents_for (listed h) (g.operator_with n a) e = coded (listed h) (g.operator_with n a) e
contents_for (listed h) (g.operator n) e = coded (listed h) (g.operator n) e
contents_for (listed h) (g.keyword_with n) e = coded (listed h) (g.keyword_with n) e
contents_for (listed h) (g.keyword n) e = coded (listed h) (g.keyword n) e
contents_for lone x e = coded lone x e

named_for : (l : Limits) (h : Start) (x : g.Head) (e : g.Word) → named_of l (contents_for h x e) ≡ head_named l x (start_scope l h)
named_for l (listed h) (g.unary_head w) e = refl
named_for l (listed h) (g.operator_with n a) e = refl
named_for l (listed h) (g.operator n) e = refl
named_for l (listed h) (g.keyword_with n) e = refl
named_for l (listed h) (g.keyword n) e = refl
named_for l lone x e = refl

behind_then : (l : Limits) (t : Text) (h : Lists) (x : g.Head) (i : g.Word) (f : g.Method) (y : v.After) (b : Spot) (e : Event) (to : Moves.Place) (k : Writer) →
    Done l h (g.member (g.coded (g.method x i f))) y b e to → Reads l t to k → Reads l t (Moves.behind (contents_for (listed h) x i) f) (placing (s.method_items (g.method x i f)) (write l (v.after_symbol y) b e k))
behind_then l t h (g.unary_head n) i f v.period b e to k d r = λ c. (_, d Moves.stay, refl, r _)
behind_then l t h (g.operator_with n a) i f v.period b e to k d r = λ c. (_, d Moves.stay, refl, r _)
behind_then l t h (g.operator n) i f v.period b e to k d r = λ c. (_, d Moves.stay, refl, r _)
behind_then l t h (g.keyword_with n) i f v.period b e to k d r = λ c. (_, d Moves.stay, refl, r _)
behind_then l t h (g.keyword n) i f v.period b e to k d r = λ c. (_, d Moves.stay, refl, r _)
behind_then l t h (g.unary_head n) i f v.bar b e to k d r = λ c. (_, d Moves.stay, refl, r _)
behind_then l t h (g.operator_with n a) i f v.bar b e to k d r = λ c. (_, d Moves.stay, refl, r _)
behind_then l t h (g.operator n) i f v.bar b e to k d r = λ c. (_, d Moves.stay, refl, r _)
behind_then l t h (g.keyword_with n) i f v.bar b e to k d r = λ c. (_, d Moves.stay, refl, r _)
behind_then l t h (g.keyword n) i f v.bar b e to k d r = λ c. (_, d Moves.stay, refl, r _)
behind_then l t h (g.unary_head n) i f v.end b e to k d r = λ c. (_, d Moves.stay, refl, r _)
behind_then l t h (g.operator_with n a) i f v.end b e to k d r = λ c. (_, d Moves.stay, refl, r _)
behind_then l t h (g.operator n) i f v.end b e to k d r = λ c. (_, d Moves.stay, refl, r _)
behind_then l t h (g.keyword_with n) i f v.end b e to k d r = λ c. (_, d Moves.stay, refl, r _)
behind_then l t h (g.keyword n) i f v.end b e to k d r = λ c. (_, d Moves.stay, refl, r _)

keyword_head_reads : (l : Limits) (t : Text) (h : Start) (n : g.KeywordHead) (k : Scope → s.Listing) → Reads l t (Moves.keyword_argued h n) (k (keyword_scope l (s.head_name n) (start_scope l h)) (head_inner n)) →
    Reads l t (Moves.at_slot h) (s.keyword_head l n k (start_scope l h))
keyword_head_reads l t h (g.head_first w a) k f = λ c. (_, refl, refl, (_, refl, refl, f _))
keyword_head_reads l t h (g.head_next n q a) k f =
    keyword_head_reads l t h n (λ u i. s.part l q (record quiet { broken = too_many_arguments l (s.count (s.head_name n)) }) (s.head_argument l a (k u) i))
    (λ c. (_, refl, refl, (_, refl, refl, f _)))

keyword_name_reads : (l : Limits) (t : Text) (h : Start) (n : g.KeywordName) (k : s.Listing) → Reads l t (Moves.keyword_named h n) (k (keyword_scope l n (start_scope l h))) →
    Reads l t (Moves.at_slot h) (s.keyword_name l n k (start_scope l h))
keyword_name_reads l t h (g.keyword_first w) k f = λ c. (_, refl, refl, f _)
keyword_name_reads l t h (g.keyword_next n q) k f =
    keyword_name_reads l t h n (λ u. s.part l q (record quiet { broken = too_many_arguments l (s.count n) }) (k u)) (λ c. (_, refl, refl, f _))

head_reads : (l : Limits) (t : Text) (h : Start) (x : g.Head) (e : g.Word) (k : s.Named → Writer) → Reads l t (Moves.holding (contents_for h x e)) (k (head_named l x (start_scope l h))) →
    Reads l t (Moves.at_slot h) (s.head l x (λ n. s.mark l Equals e (record quiet { broken = n.broken }) (k n)) (start_scope l h))
head_reads l t (listed h) (g.unary_head w) e k f = λ c. (_, refl, refl, (_, refl, refl, f _))
head_reads l t lone (g.unary_head w) e k f = λ c. (_, refl, refl, (_, refl, refl, f _))
head_reads l t (listed h) (g.operator_with n a) e k f = λ c. (_, refl, refl, (_, refl, refl, (_, refl, refl, f _)))
head_reads l t (listed h) (g.operator n) e k f = λ c. (_, refl, refl, (_, refl, refl, f _))
head_reads l t (listed h) (g.keyword_with n) e k f = keyword_head_reads l t (listed h) n (λ u i. s.mark l Equals e (record quiet { broken = (s.keyword_named (s.head_name n) u i).broken }) (k (s.keyword_named (s.head_name n) u i))) (λ c. (_, refl, refl, f _))
head_reads l t (listed h) (g.keyword n) e k f = keyword_name_reads l t (listed h) n (λ u. s.mark l Equals e (record quiet { broken = (s.keyword_named n u (scope Scopes.activation)).broken }) (k (s.keyword_named n u (scope Scopes.activation)))) (λ c. (_, refl, refl, f _))
head_reads l t lone (g.operator_with n a) e k f = λ c. (_, refl, refl, (_, refl, refl, (_, refl, refl, f _)))
head_reads l t lone (g.operator n) e k f = λ c. (_, refl, refl, (_, refl, refl, f _))
head_reads l t lone (g.keyword_with n) e k f = keyword_head_reads l t lone n (λ u i. s.mark l Equals e (record quiet { broken = (s.keyword_named (s.head_name n) u i).broken }) (k (s.keyword_named (s.head_name n) u i))) (λ c. (_, refl, refl, f _))
head_reads l t lone (g.keyword n) e k f = keyword_name_reads l t lone n (λ u. s.mark l Equals e (record quiet { broken = (s.keyword_named n u (scope Scopes.activation)).broken }) (k (s.keyword_named n u (scope Scopes.activation)))) (λ c. (_, refl, refl, f _))

-- simple contents
path_then : (l : Limits) (t : Text) (h : Lists) (w : g.Label) (e : g.Word) (y : g.Path) (k : Writer) → Reads l t (Moves.member_done h (g.constant w e (g.simple (g.path y)))) k →
    Reads l t (Moves.holding (undecided h w e)) (s.path l y k)
path_then l t h w e (g.named n) k f = λ c. (_, refl, refl, f _)
path_then l t h w e (g.under y n) k f = path_then l t h w e y (write l (s.any_name n) n.label.spot (saying (items.Further n.label.name n.label.spot)) k) (λ c. (_, refl, refl, f _))

simple_then : (l : Limits) (t : Text) (h : Lists) (w : g.Label) (e : g.Word) (d : g.Simple) (k : Writer) → Reads l t (Moves.member_done h (g.constant w e (g.simple d))) k →
    Reads l t (Moves.holding (undecided h w e)) (s.simple l d k)
simple_then l t h w e (g.integer z i) k f = λ c. (_, refl, refl, f _)
simple_then l t h w e (g.string z) k f = λ c. (_, refl, refl, f _)
simple_then l t h w e (g.path y) k f = path_then l t h w e y k f

data_path_then : (l : Limits) (t : Text) (h : DataHole) (y : g.Path) (k : Writer) → Reads l t (v.datum_done h (g.simple (g.path y))) k → Reads l t (Moves.data_wanted h) (s.path l y k)
data_path_then l t (assigned h w a) (g.named n) k f = λ c. (_, refl, refl, f _)
data_path_then l t (parental h w x e) (g.named n) k f = λ c. (_, refl, refl, f _)
data_path_then l t (assigned h w a) (g.under y n) k f = data_path_then l t (assigned h w a) y (write l (s.any_name n) n.label.spot (saying (items.Further n.label.name n.label.spot)) k) (λ c. (_, refl, refl, f _))
data_path_then l t (parental h w x e) (g.under y n) k f = data_path_then l t (parental h w x e) y (write l (s.any_name n) n.label.spot (saying (items.Further n.label.name n.label.spot)) k) (λ c. (_, refl, refl, f _))

data_simple_then : (l : Limits) (t : Text) (h : DataHole) (d : g.Simple) (k : Writer) → Reads l t (v.datum_done h (g.simple d)) k → Reads l t (Moves.data_wanted h) (s.simple l d k)
data_simple_then l t h (g.integer z i) k f = λ c. (_, refl, refl, f _)
data_simple_then l t h (g.string z) k f = λ c. (_, refl, refl, f _)
data_simple_then l t h (g.path y) k f = data_path_then l t h y k f

-- code behind a parenthesis, and behind the bars of a method
opened_is : (h : Contents) (q : Spot) (x : Symbol) (b : Spot) (m : Moves.Move) → Moves.begin_move (alone (statement (in_method h q) g.none)) x b ≡ Some m →
    v.opened_move h q x b ≡ Some (record m { pre = λ c. m.pre (Moves.enter c) })
opened_is h q (sign.Integer z) b m e = ap (λ u. v.behind_pre Moves.enter u) e
opened_is h q (sign.Text i j) b m e = ap (λ u. v.behind_pre Moves.enter u) e
opened_is h q (sign.Name n t r) b m e = ap (λ u. v.behind_pre Moves.enter u) e
opened_is h q (sign.Primitive n) b m e = ap (λ u. v.behind_pre Moves.enter u) e
opened_is h q sign.Restart b m e = ap (λ u. v.behind_pre Moves.enter u) e
opened_is h q (sign.Keyword n) b m e = ap (λ u. v.behind_pre Moves.enter u) e
opened_is h q (sign.PrimitiveKeyword n y) b m e = ap (λ u. v.behind_pre Moves.enter u) e
opened_is h q sign.RestartKeyword b m e = ap (λ u. v.behind_pre Moves.enter u) e
opened_is h q (sign.CapitalKeyword n y) b m e = ap (λ u. v.behind_pre Moves.enter u) e
opened_is h q (sign.Argument n t r) b m e = ap (λ u. v.behind_pre Moves.enter u) e
opened_is h q (sign.Delegate n r) b m e = ap (λ u. v.behind_pre Moves.enter u) e
opened_is h q (sign.Operator n r) b m e = ap (λ u. v.behind_pre Moves.enter u) e
opened_is h q sign.OpenParen b m e = ap (λ u. v.behind_pre Moves.enter u) e
opened_is h q sign.CloseParen b m e = cc
opened_is h q sign.OpenBracket b m e = ap (λ u. v.behind_pre Moves.enter u) e
opened_is h q sign.CloseBracket b m e = ap (λ u. v.behind_pre Moves.enter u) e
opened_is h q sign.Bar b m e = cc
opened_is h q sign.Period b m e = ap (λ u. v.behind_pre Moves.enter u) e
opened_is h q sign.Caret b m e = ap (λ u. v.behind_pre Moves.enter u) e
opened_is h q sign.End b m e = ap (λ u. v.behind_pre Moves.enter u) e
opened_is h q (sign.Bad z) b m e = ap (λ u. v.behind_pre Moves.enter u) e

shut_is : (l : Limits) (h : Contents) (q d : Spot) (sl : g.Slots) (d2 : Spot) (x : Symbol) (b : Spot) (m : Moves.Move) → Moves.begin_move (alone (statement (in_slotted h q d sl d2) g.none)) x b ≡ Some m →
    v.shut_move l h q d sl d2 x b ≡ Some (record m { pre = λ c. m.pre (v.barred_pre l h sl c) })
shut_is l h q d sl d2 (sign.Integer z) b m e = ap (λ u. v.behind_pre (v.barred_pre l h sl) u) e
shut_is l h q d sl d2 (sign.Text i j) b m e = ap (λ u. v.behind_pre (v.barred_pre l h sl) u) e
shut_is l h q d sl d2 (sign.Name n t r) b m e = ap (λ u. v.behind_pre (v.barred_pre l h sl) u) e
shut_is l h q d sl d2 (sign.Primitive n) b m e = ap (λ u. v.behind_pre (v.barred_pre l h sl) u) e
shut_is l h q d sl d2 sign.Restart b m e = ap (λ u. v.behind_pre (v.barred_pre l h sl) u) e
shut_is l h q d sl d2 (sign.Keyword n) b m e = ap (λ u. v.behind_pre (v.barred_pre l h sl) u) e
shut_is l h q d sl d2 (sign.PrimitiveKeyword n y) b m e = ap (λ u. v.behind_pre (v.barred_pre l h sl) u) e
shut_is l h q d sl d2 sign.RestartKeyword b m e = ap (λ u. v.behind_pre (v.barred_pre l h sl) u) e
shut_is l h q d sl d2 (sign.CapitalKeyword n y) b m e = ap (λ u. v.behind_pre (v.barred_pre l h sl) u) e
shut_is l h q d sl d2 (sign.Argument n t r) b m e = ap (λ u. v.behind_pre (v.barred_pre l h sl) u) e
shut_is l h q d sl d2 (sign.Delegate n r) b m e = ap (λ u. v.behind_pre (v.barred_pre l h sl) u) e
shut_is l h q d sl d2 (sign.Operator n r) b m e = ap (λ u. v.behind_pre (v.barred_pre l h sl) u) e
shut_is l h q d sl d2 sign.OpenParen b m e = ap (λ u. v.behind_pre (v.barred_pre l h sl) u) e
shut_is l h q d sl d2 sign.CloseParen b m e = cc
shut_is l h q d sl d2 sign.OpenBracket b m e = ap (λ u. v.behind_pre (v.barred_pre l h sl) u) e
shut_is l h q d sl d2 sign.CloseBracket b m e = ap (λ u. v.behind_pre (v.barred_pre l h sl) u) e
shut_is l h q d sl d2 sign.Bar b m e = ap (λ u. v.behind_pre (v.barred_pre l h sl) u) e
shut_is l h q d sl d2 sign.Period b m e = ap (λ u. v.behind_pre (v.barred_pre l h sl) u) e
shut_is l h q d sl d2 sign.Caret b m e = ap (λ u. v.behind_pre (v.barred_pre l h sl) u) e
shut_is l h q d sl d2 sign.End b m e = ap (λ u. v.behind_pre (v.barred_pre l h sl) u) e
shut_is l h q d sl d2 (sign.Bad z) b m e = ap (λ u. v.behind_pre (v.barred_pre l h sl) u) e

opened_follows : (l : Limits) (t : Text) (h : Contents) (q : Spot) (c : Context) (ms : List Mark) → Follows l t (Moves.wanting (alone (statement (in_method h q) g.none))) (Moves.enter c) ms →
    Follows l t (Moves.opened h q) c ms
opened_follows l t h q c [] f = cc
opened_follows l t h q c (m ∷ ms) f = (record f.0 { pre = λ d. f.0.pre (Moves.enter d) }, opened_is h q m.sign.symbol m.sign.spot f.0 f.1, f.2, f.3)

shut_follows : (l : Limits) (t : Text) (h : Contents) (q d : Spot) (sl : g.Slots) (d2 : Spot) (c : Context) (ms : List Mark) →
    Follows l t (Moves.wanting (alone (statement (in_slotted h q d sl d2) g.none))) (v.barred_pre l h sl c) ms → Follows l t (Moves.shut h q d sl d2) c ms
shut_follows l t h q d sl d2 c [] f = cc
shut_follows l t h q d sl d2 c (m ∷ ms) f = (record f.0 { pre = λ i. f.0.pre (v.barred_pre l h sl i) }, shut_is l h q d sl d2 m.sign.symbol m.sign.spot f.0 f.1, f.2, f.3)

mutual
  pub slot_reads : (x : g.Slot) (l : Limits) (t : Text) (h : Lists) (y : v.After) (b : Spot) (e : Event) (to : Moves.Place) (k : Writer) → Done l h x y b e to → Reads l t to k →
      Reads l t (Moves.at_slot (listed h)) (s.slot l x (λ u. placing (s.slot_items x) (write l (v.after_symbol y) b e k)) (scope_of l h))
  slot_reads (g.member m) l t h y b e to k d r = member_reads m l t h y b e to k d r
  slot_reads (g.argument w) l t h y b e to k d r = argument_then l t h w y b e to k d r

  pub member_reads : (m : g.Member) (l : Limits) (t : Text) (h : Lists) (y : v.After) (b : Spot) (e : Event) (to : Moves.Place) (k : Writer) → Done l h (g.member m) y b e to → Reads l t to k →
      Reads l t (Moves.at_slot (listed h)) (s.member l m (λ u. placing (s.member_items m) (write l (v.after_symbol y) b e k)) (scope_of l h))
  member_reads (g.constant w i (g.simple z)) l t h y b e to k d r =
      λ c. (_, refl, refl, (_, refl, refl, simple_then l t h w i z (placing (s.member_items (g.constant w i (g.simple z))) (write l (v.after_symbol y) b e k)) (member_then l t h (g.constant w i (g.simple z)) y b e to k d r) _))
  member_reads (g.constant w i (g.object x)) l t h y b e to k d r =
      λ c. (_, refl, refl, (_, refl, refl, object_reads x l t h w i (placing (s.member_items (g.constant w i (g.object x))) (write l (v.after_symbol y) b e k)) (member_then l t h (g.constant w i (g.object x)) y b e to k d r) _))
  member_reads (g.assignable w i (g.simple z)) l t h y b e to k d r =
      λ c. (_, refl, refl, (_, refl, refl, data_simple_then l t (assigned h w i) z (placing (s.member_items (g.assignable w i (g.simple z))) (write l (v.after_symbol y) b e k)) (member_then l t h (g.assignable w i (g.simple z)) y b e to k d r) _))
  member_reads (g.assignable w i (g.object x)) l t h y b e to k d r =
      λ c. (_, refl, refl, (_, refl, refl, data_object_reads x l t (assigned h w i) (placing (s.member_items (g.assignable w i (g.object x))) (write l (v.after_symbol y) b e k)) (member_then l t h (g.assignable w i (g.object x)) y b e to k d r) _))
  member_reads (g.bare w) l t h y b e to k d r = bare_then l t h w y b e to k d r
  member_reads (g.parent w j i (g.simple z)) l t h y b e to k d r =
      λ c. (_, refl, refl, (_, refl, refl, (_, refl, refl, data_simple_then l t (parental h w j i) z (placing (s.member_items (g.parent w j i (g.simple z))) (write l (v.after_symbol y) b e k)) (member_then l t h (g.parent w j i (g.simple z)) y b e to k d r) _)))
  member_reads (g.parent w j i (g.object x)) l t h y b e to k d r =
      λ c. (_, refl, refl, (_, refl, refl, (_, refl, refl, data_object_reads x l t (parental h w j i) (placing (s.member_items (g.parent w j i (g.object x))) (write l (v.after_symbol y) b e k)) (member_then l t h (g.parent w j i (g.object x)) y b e to k d r) _)))
  member_reads (g.coded (g.method x i f)) l t h y b e to k d r =
      head_reads l t (listed h) x i (λ n. s.method l n f (placing (s.method_items (g.method x i f)) (write l (v.after_symbol y) b e k)))
      (subst (λ n. Reads l t (Moves.holding (contents_for (listed h) x i)) (s.method l n f (placing (s.method_items (g.method x i f)) (write l (v.after_symbol y) b e k)))) (named_for l (listed h) x i)
      (method_reads f l t (contents_for (listed h) x i) (placing (s.method_items (g.method x i f)) (write l (v.after_symbol y) b e k)) (behind_then l t h x i f y b e to k d r)))

  pub object_reads : (x : g.Object) (l : Limits) (t : Text) (h : Lists) (w : g.Label) (i : g.Word) (k : Writer) → Reads l t (Moves.member_done h (g.constant w i (g.object x))) k →
      Reads l t (Moves.holding (undecided h w i)) (s.object l either x k)
  object_reads (g.empty_object q b) l t h w i k f = λ c. (_, refl, refl, (_, refl, refl, f _))
  object_reads (g.slotted_object q d sl b2 b) l t h w i k f =
      λ c. (_, refl, refl, (_, refl, refl, bars_reads sl l t (undecided h w i) q d b2 (λ u. write l sign.CloseParen b (v.object_end q u) k) (λ j. (_, refl, refl, f _)) _))

  pub data_object_reads : (x : g.Object) (l : Limits) (t : Text) (h : DataHole) (k : Writer) → Reads l t (v.datum_done h (g.object x)) k →
      Reads l t (Moves.data_wanted h) (s.object l holder x k)
  data_object_reads (g.empty_object q b) l t h k f = λ c. (_, refl, refl, (_, refl, refl, f _))
  data_object_reads (g.slotted_object q d sl b2 b) l t h k f =
      λ c. (_, refl, refl, (_, refl, refl, object_bars_reads sl l t h q d b2 (λ u. write l sign.CloseParen b (v.object_end q u) k) (λ j. (_, refl, refl, f _)) _))

  pub method_reads : (f : g.Method) (l : Limits) (t : Text) (h : Contents) (k : Writer) → Reads l t (Moves.behind h f) k → Reads l t (Moves.holding h) (s.method l (named_of l h) f k)
  method_reads (g.bare_method q y b) l t h k f =
      λ c. (_, refl, refl, opened_follows l t h q _ _ (code_reads y l t (in_method h q) b k f _))
  method_reads (g.slotted_method q d sl b2 y b) l t h k f =
      λ c. (
        _,
        refl,
        refl,
        (
          _,
          refl,
          refl,
          bars_reads sl l t h q d b2 (λ u. Counts.entering (Counts.telling (s.at_code (named_of l h) u) (s.code l y (write l sign.CloseParen b (s.ending (g.full y) b) k))))
              (λ j. shut_follows l t h q d sl b2 _ _ (code_reads y l t (in_slotted h q d sl b2) b k f _)) _,
        ),
      )

  pub bars_reads : (sl : g.Slots) (l : Limits) (t : Text) (h : Contents) (q d b : Spot) (k : s.Listing) → Reads l t (Moves.shut h q d sl b) (k (slots_scope l sl (named_of l h).inner)) →
      Reads l t (Moves.at_slot (listed (in_bars h q d g.no_slots))) (s.slots l sl (λ u. write l sign.Bar b (record quiet { broken = s.at_bar (named_of l h) u }) (k u)) (named_of l h).inner)
  bars_reads (g.slots_ended ss) l t h q d b k f =
      before_reads ss l t h q d (λ u. write l sign.Bar b (record quiet { broken = s.at_bar (named_of l h) u }) (k u)) (λ c. (_, refl, refl, f _))
  bars_reads (g.slots_last ss x) l t h q d b k f =
      before_reads ss l t h q d (s.slot l x (λ u. placing (s.slot_items x) (write l sign.Bar b (record quiet { broken = s.at_bar (named_of l h) u }) (k u))))
      (subst (λ z. Reads l t (Moves.at_slot (listed (in_bars h q d ss))) z) (sym (slot_settles l x (λ u. placing (s.slot_items x) (write l sign.Bar b (record quiet { broken = s.at_bar (named_of l h) u }) (k u))) (scope_of l (in_bars h q d ss))))
      (slot_reads x l t (in_bars h q d ss) v.bar b (record quiet { broken = s.at_bar (named_of l h) (slot_scope l x (scope_of l (in_bars h q d ss))) }) (Moves.shut h q d (g.slots_last ss x) b)
      (k (slot_scope l x (scope_of l (in_bars h q d ss)))) (λ pre. refl) f))

  pub before_reads : (ss : g.SlotsBefore) (l : Limits) (t : Text) (h : Contents) (q d : Spot) (k : s.Listing) → Reads l t (Moves.at_slot (listed (in_bars h q d ss))) (k (scope_of l (in_bars h q d ss))) →
      Reads l t (Moves.at_slot (listed (in_bars h q d g.no_slots))) (s.slots_before l ss k (named_of l h).inner)
  before_reads g.no_slots l t h q d k f = f
  before_reads (g.more_slots ss x p) l t h q d k f =
      before_reads ss l t h q d (s.slot l x (λ u. placing (s.slot_items x) (write l sign.Period p quiet (k u))))
      (subst (λ z. Reads l t (Moves.at_slot (listed (in_bars h q d ss))) z) (sym (slot_settles l x (λ u. placing (s.slot_items x) (write l sign.Period p quiet (k u))) (scope_of l (in_bars h q d ss))))
      (slot_reads x l t (in_bars h q d ss) v.period p quiet (Moves.at_slot (listed (in_bars h q d (g.more_slots ss x p)))) (k (slot_scope l x (scope_of l (in_bars h q d ss)))) (λ pre. refl) f))

  pub object_bars_reads : (sl : g.Slots) (l : Limits) (t : Text) (h : DataHole) (q d b : Spot) (k : s.Listing) → Reads l t (Moves.data_shut h q d sl b) (k (slots_scope l sl (scope holder))) →
      Reads l t (Moves.at_slot (listed (in_object h q d g.no_slots))) (s.slots l sl (λ u. write l sign.Bar b quiet (k u)) (scope holder))
  object_bars_reads (g.slots_ended ss) l t h q d b k f = object_before_reads ss l t h q d (λ u. write l sign.Bar b quiet (k u)) (λ c. (_, refl, refl, f _))
  object_bars_reads (g.slots_last ss x) l t h q d b k f =
      object_before_reads ss l t h q d (s.slot l x (λ u. placing (s.slot_items x) (write l sign.Bar b quiet (k u))))
      (subst (λ z. Reads l t (Moves.at_slot (listed (in_object h q d ss))) z) (sym (slot_settles l x (λ u. placing (s.slot_items x) (write l sign.Bar b quiet (k u))) (scope_of l (in_object h q d ss))))
      (slot_reads x l t (in_object h q d ss) v.bar b quiet (Moves.data_shut h q d (g.slots_last ss x) b) (k (slot_scope l x (scope_of l (in_object h q d ss)))) (λ pre. refl) f))

  pub object_before_reads : (ss : g.SlotsBefore) (l : Limits) (t : Text) (h : DataHole) (q d : Spot) (k : s.Listing) → Reads l t (Moves.at_slot (listed (in_object h q d ss))) (k (scope_of l (in_object h q d ss))) →
      Reads l t (Moves.at_slot (listed (in_object h q d g.no_slots))) (s.slots_before l ss k (scope holder))
  object_before_reads g.no_slots l t h q d k f = f
  object_before_reads (g.more_slots ss x p) l t h q d k f =
      object_before_reads ss l t h q d (s.slot l x (λ u. placing (s.slot_items x) (write l sign.Period p quiet (k u))))
      (subst (λ z. Reads l t (Moves.at_slot (listed (in_object h q d ss))) z) (sym (slot_settles l x (λ u. placing (s.slot_items x) (write l sign.Period p quiet (k u))) (scope_of l (in_object h q d ss))))
      (slot_reads x l t (in_object h q d ss) v.period p quiet (Moves.at_slot (listed (in_object h q d (g.more_slots ss x p)))) (k (slot_scope l x (scope_of l (in_object h q d ss)))) (λ pre. refl) f))

members_reads : (ms : g.MembersBefore) (l : Limits) (t : Text) (k : s.Listing) → Reads l t (Moves.at_slot (listed (in_world ms))) (k (scope_of l (in_world ms))) →
    Reads l t (Moves.at_slot (listed (in_world g.no_members))) (s.members_before l ms k (scope holder))
members_reads g.no_members l t k f = f
members_reads (g.more_members ms m p) l t k f =
    members_reads ms l t (s.member l m (λ u. placing (s.member_items m) (write l sign.Period p quiet (k u))))
    (subst (λ z. Reads l t (Moves.at_slot (listed (in_world ms))) z) (sym (member_settles l m (λ u. placing (s.member_items m) (write l sign.Period p quiet (k u))) (scope_of l (in_world ms))))
    (member_reads m l t (in_world ms) v.period p quiet (Moves.at_slot (listed (in_world (g.more_members ms m p)))) (k (scope_of l (in_world (g.more_members ms m p)))) (λ pre. refl) f))

-- Each world is followed from the start to its end,
pub world_reads : (l : Limits) (x : g.World) → Follows l (p.world x) (Moves.at_slot (listed (in_world g.no_members))) (s.at_first 1) (s.world l x)
world_reads l (g.world_ended ms q) = members_reads ms l (p.world (g.world_ended ms q)) (λ u. s.finish l q) (λ c. (_, refl, refl, refl)) (s.at_first 1)
world_reads l (g.world_last ms m q) =
    members_reads ms l (p.world (g.world_last ms m q)) (s.member l m (λ u. placing (s.member_items m) (s.finish l q)))
    (member_reads m l (p.world (g.world_last ms m q)) (in_world ms) v.end q quiet (Moves.finished (p.world (g.world_last ms m q))) (λ c. []) (λ pre. refl) (λ c. refl))
    (s.at_first 1)

-- and each edit.
pub edit_reads : (l : Limits) (x : g.Edit) → Follows l (p.edit x) (Moves.at_slot lone) (s.at_first 0) (s.edit l x)
edit_reads l (g.edit (g.method x i f) None q) =
    head_reads l (p.edit (g.edit (g.method x i f) None q)) lone x i (λ n. s.method l n f (placing (s.method_items (g.method x i f)) (s.finish l q)))
    (method_reads f l (p.edit (g.edit (g.method x i f) None q)) (coded lone x i) (placing (s.method_items (g.method x i f)) (s.finish l q)) (λ c. (_, refl, refl, refl))) (s.at_first 0)
edit_reads l (g.edit (g.method x i f) (Some d) q) =
    head_reads l (p.edit (g.edit (g.method x i f) (Some d) q)) lone x i (λ n. s.method l n f (placing (s.method_items (g.method x i f)) (write l sign.Period d quiet (s.finish l q))))
    (method_reads f l (p.edit (g.edit (g.method x i f) (Some d) q)) (coded lone x i) (placing (s.method_items (g.method x i f)) (write l sign.Period d quiet (s.finish l q))) (λ c. (_, refl, refl, (_, refl, refl, refl)))) (s.at_first 0)
