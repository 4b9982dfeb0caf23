-- The items that a text with nothing wrong says are right.
use Rattle.std.specs.Prelude.{◌≡◌, ℕ, ◌+◌, ◌-◌, ◌≤◌, ◌==◌, nat_le, nat_eq, Bool, true, false, not, ◌&&◌, ◌||◌, if◌then◌else◌, Option, None, Some, List, [], ◌∷◌, ◌++◌, length, map, refl}
use Rattle.std.specs.List.{list_any}
use Rattle.std.specs.Cmp.Lexicographic.{pointwise}
use Rattle.std.proofs.Common.{ap, sym, subst, ◌∙◌, arith, append_assoc}
use Rattle.std.proofs.lemmas.Grind.{common_steps}
use Rattle.std.proofs.lemmas.Cmp.{nat_list_eq_equiv}
use Rattle.std.proofs.lemmas.List.Folds.{list_any-append}
use Rattle.self_grammar.specs.declared.signs.Spot.{Spot}
use Rattle.self_grammar.specs.declared.signs.Reserved.TheVariants.{Free, Itself, Resend}
use Rattle.self_grammar.specs.declared.signs.Role.{Role}
use Rattle.self_grammar.specs.declared.signs.Role.TheVariants.{Equals, Arrow, Star}
use Rattle.self_grammar.specs.declared.signs.Symbol.{Symbol}
use Rattle.self_grammar.specs.declared.signs.Symbol.TheVariants as symbol
use Rattle.self_grammar.specs.declared.signs.Sign.{Sign}
use Rattle.self_grammar.specs.declared.pieces.Words.{Words}
use Rattle.self_grammar.specs.declared.pieces.Words.TheVariants as words
use Rattle.self_grammar.specs.declared.pieces.Words.TheVariants.{One}
use Rattle.self_grammar.specs.declared.pieces.Target.{Target}
use Rattle.self_grammar.specs.declared.pieces.Target.TheVariants.{Implied}
use Rattle.self_grammar.specs.declared.pieces.Made.{Made}
use Rattle.self_grammar.specs.declared.pieces.TextNode.{TextNode}
use Rattle.self_grammar.specs.declared.pieces.TextNode.TheVariants as nodes
use Rattle.self_grammar.specs.declared.pieces.SlotForm.{SlotForm}
use Rattle.self_grammar.specs.declared.pieces.SlotForm.TheVariants as form
use Rattle.self_grammar.specs.declared.pieces.Item.{Item}
use Rattle.self_grammar.specs.declared.pieces.Item.TheVariants as items
use Rattle.self_grammar.specs.Parts.{parts_in, count_of}
use Rattle.self_grammar.specs.Grammar as g
use Rattle.self_grammar.specs.declared.signs.ReadKind.TheVariants as kind
use Rattle.self_grammar.specs.Counts.{Limits, here, node, when, quiet, opening, closing, makes, saying, Breach, Held, Context, Event, Mark, Writer, write, owing, telling, placing, entering, finishing, placed, breaches, mark_at, nesting_after, counted, resumed, moved}
use Rattle.self_grammar.specs.Scopes.{Owner, either, Scope, scope, activation, holder, named, has, again, with_name, with_argument, with_local, not_plain, too_many_locals, late_locals}
use Rattle.self_grammar.specs.Spelling as s
use Rattle.self_grammar.specs.Spelling.{items_of}
use Rattle.self_grammar.specs.Refusal.{signs, AreSound, Expected, IsBarred, IsText}
use Rattle.self_grammar.proofs.Places.{block_opening}
use Rattle.self_grammar.proofs.SlotMoves as v'
use Rattle.self_grammar.proofs.Balance.{front_empty, back_empty, none_first, unplaced}
use Rattle.source_model.specs.Formed.{arity}
use Rattle.world_build.specs.Names.{joined}
use Rattle.world_build.proofs.Orders.{IsPlain, IsKeyword, IsOperator, OfSymbol, IsNamed, TargetFits, NodeFits, NodeStands, Frame, frame, added, slotted, IsSome, IsInner, IsOne, SlotFits, Keeps, keeps_any, closed_as_body}
use Rattle.world_build.proofs.Wording.{Keywords, keyword_one, keyword_further, keywords_named, keywords_arity, keywords_call, plain_named, plain_arity, plain_calls, operator_named, operator_arity, operator_calls}

-- What holds of the names of the signs of marks that are sound.
abbrev pub AreFine : List (List ℕ) → List Mark → Type 0
AreFine names [] = Unit {0}
AreFine names (m ∷ ms) = (m.fault ≡ None) × Expected m.next ms × OfSymbol names m.sign.symbol × AreFine names ms

abbrev pub OfSigns : List (List ℕ) → List Sign → Type 0
OfSigns names [] = Unit {0}
OfSigns names (x ∷ xs) = OfSymbol names x.symbol × OfSigns names xs

are_fine : (names : List (List ℕ)) (ms : List Mark) → AreSound ms → OfSigns names (signs ms) → AreFine names ms
are_fine names [] h o = tt
are_fine names (m ∷ ms) h o = (h.0, h.1, o.0, are_fine names ms h.2 o.1)

-- Slots that end before a sign lead from one stack to the next.
abbrev Leads : List (List ℕ) → List Frame → Option ℕ → List Item → List Frame → Option ℕ → Type 0
Leads names ds y [] es z = (ds ≡ es) × (y ≡ z)
Leads names ds y (items.Slot w f p ∷ is) es z = SlotFits names ds y w f × Leads names (slotted w ds) None is es z
Leads names ds y (i ∷ is) es z = ⊥

leads_append : (names : List (List ℕ)) (ds es : List Frame) (y z : Option ℕ) (is : List Item) (w : Words) (f : SlotForm) (p : Spot) → Leads names ds y is es z → SlotFits names es z w f →
    Leads names ds y (is ++ items.Slot w f p ∷ []) (slotted w es) None
leads_append names ds es y z [] w f p h k =
    (subst (λ x. SlotFits names x y w f) (sym h.0) (subst (λ x. SlotFits names es x w f) (sym h.1) k), (ap (λ x. slotted w x) h.0, refl))
leads_append names ds es y z (items.Slot x t q ∷ is) w f p h k = (h.0, leads_append names (slotted x ds) es None z is w f p h.1 k)
leads_append names ds es y z (items.Node m ∷ is) w f p h k = absurd h
leads_append names ds es y z (items.Opened q ∷ is) w f p h k = absurd h
leads_append names ds es y z (items.ClosedObject ∷ is) w f p h k = absurd h
leads_append names ds es y z (items.ClosedBody ∷ is) w f p h k = absurd h
leads_append names ds es y z (items.Integer j ∷ is) w f p h k = absurd h
leads_append names ds es y z (items.Text i j ∷ is) w f p h k = absurd h
leads_append names ds es y z (items.Root x q ∷ is) w f p h k = absurd h
leads_append names ds es y z (items.Further x q ∷ is) w f p h k = absurd h
leads_append names ds es y z (items.Argument x ∷ is) w f p h k = absurd h
leads_append names ds es y z (items.Named x ∷ is) w f p h k = absurd h

leads_keep : (names : List (List ℕ)) (n : ℕ) (ds es : List Frame) (y z : Option ℕ) (is rest : List Item) → Leads names ds y is es z → Keeps names n es z rest → Keeps names n ds y (is ++ rest)
leads_keep names n ds es y z [] rest h k = subst (λ x. Keeps names n x y rest) (sym h.0) (subst (λ x. Keeps names n es x rest) (sym h.1) k)
leads_keep names n ds es y z (items.Slot w f p ∷ is) rest h k = (h.0, leads_keep names n (slotted w ds) es None z is rest h.1 k)
leads_keep names n ds es y z (items.Node m ∷ is) rest h k = absurd h
leads_keep names n ds es y z (items.Opened p ∷ is) rest h k = absurd h
leads_keep names n ds es y z (items.ClosedObject ∷ is) rest h k = absurd h
leads_keep names n ds es y z (items.ClosedBody ∷ is) rest h k = absurd h
leads_keep names n ds es y z (items.Integer j ∷ is) rest h k = absurd h
leads_keep names n ds es y z (items.Text i j ∷ is) rest h k = absurd h
leads_keep names n ds es y z (items.Root x p ∷ is) rest h k = absurd h
leads_keep names n ds es y z (items.Further x p ∷ is) rest h k = absurd h
leads_keep names n ds es y z (items.Argument x ∷ is) rest h k = absurd h
leads_keep names n ds es y z (items.Named x ∷ is) rest h k = absurd h

-- Nodes that are no block literals.
abbrev AllFit : List (List ℕ) → List Made → Type 0
AllFit names [] = Unit {0}
AllFit names (m ∷ ms) = NodeFits names m.node × AllFit names ms

fit_append : (names : List (List ℕ)) (ms : List Made) (m : Made) → AllFit names ms → NodeFits names m.node → AllFit names (ms ++ m ∷ [])
fit_append names [] m h k = (k, tt)
fit_append names (x ∷ ms) m h k = (h.0, fit_append names ms m h.1 k)

node_stands : (names : List (List ℕ)) (n : TextNode) (rest : List Item) → NodeFits names n → NodeStands names n rest
node_stands names (nodes.Integer z) rest h = tt
node_stands names (nodes.Text i j) rest h = tt
node_stands names nodes.Block rest h = absurd h
node_stands names nodes.Itself rest h = tt
node_stands names nodes.Nil rest h = tt
node_stands names (nodes.Message to w args) rest h = h
node_stands names (nodes.Primitive w args implied handler) rest h = tt
node_stands names nodes.Drop rest h = tt
node_stands names nodes.Restart rest h = tt
node_stands names nodes.Return rest h = tt
node_stands names nodes.End rest h = tt

nodes_keep : (names : List (List ℕ)) (n : ℕ) (es : List Frame) (ms : List Made) (rest : List Item) → AllFit names ms → Keeps names n es None rest → Keeps names n es None (map items.Node ms ++ rest)
nodes_keep names n es [] rest h k = k
nodes_keep names n es (m ∷ ms) rest h k = (node_stands names m.node _ h.0, nodes_keep names n es ms rest h.1 k)

both_keep : (names : List (List ℕ)) (n : ℕ) (es : List Frame) (ms ns : List Made) (rest : List Item) → AllFit names ms → Keeps names n es None (map items.Node ns ++ rest) →
    Keeps names n es None (map items.Node (ms ++ ns) ++ rest)
both_keep names n es [] ns rest h k = k
both_keep names n es (m ∷ ms) ns rest h k = (node_stands names m.node _ h.0, both_keep names n es ms ns rest h.1 k)

-- Messages.

keyword_fits : (names : List (List ℕ)) (to : Target) (w : Words) (base : Option (Option ℕ)) (handled : Bool) → TargetFits names to → (base ≡ None → Keywords names w) →
    NodeFits names (s.keyword_node to w (count_of w) base handled)
keyword_fits names to w None handled h k = (h, keywords_call names w (k refl))
keyword_fits names to (words.One n) (Some None) handled h k = tt
keyword_fits names to (words.One n) (Some (Some b)) handled h k = tt
keyword_fits names to (words.Two a b) (Some base) true h k = tt
keyword_fits names to (words.Two a b) (Some base) false h k = tt
keyword_fits names to (words.Three a b c) (Some base) true h k = tt
keyword_fits names to (words.Three a b c) (Some base) false h k = tt
keyword_fits names to (words.Four a b c d) (Some base) true h k = tt
keyword_fits names to (words.Four a b c d) (Some base) false h k = tt
keyword_fits names to (words.Five a b c d e) (Some base) true h k = tt
keyword_fits names to (words.Five a b c d e) (Some base) false h k = tt

record Spoken (names : List (List ℕ)) (x : g.Message) : Type 0 where
  to : TargetFits names (s.message_target x)
  parts : s.message_base x ≡ None → Keywords names (s.message_words x)

message_fits : (names : List (List ℕ)) (x : g.Message) → Spoken names x → NodeFits names (s.message_node x).node
message_fits names x h = keyword_fits names (s.message_target x) (s.message_words x) (s.message_base x) (s.ends_handled x) h.to h.parts

receiver_fits : (names : List (List ℕ)) (r : g.Receiver) → TargetFits names (s.receiver_target r)
receiver_fits names g.implied = tt
receiver_fits names (g.given b) = tt

opened_spoken : (names : List (List ℕ)) (r : g.Receiver) (o : g.Opening) → OfSymbol names (s.opening_symbol o) → Spoken names (g.opened r o)
opened_spoken names r (g.ordinary w) h = record { to = receiver_fits names r; parts = λ e. keyword_one names w.name h }
opened_spoken names r (g.primitive_keyword w b) h = record { to = receiver_fits names r; parts = λ e. cc }

delegate_fits : (names : List (List ℕ)) (d : g.Delegate) → OfSymbol names (s.delegate_symbol d) → TargetFits names (s.delegate_target d)
delegate_fits names (g.to_all w) h = tt
delegate_fits names (g.to_parent w) h = h

-- What opens and what is open inside it.
record Deep (m : ℕ) (es : List Frame) : Type 0 where
  most : length es ≤ m + 1
  some : IsSome es

inner_of : (e : Frame) (es : List Frame) → IsSome es → IsInner (e ∷ es)
inner_of e [] h = absurd h
inner_of e (d ∷ es) h = tt

-- Before a sign so much is open, behind the slots that end there.
record Stands (names : List (List ℕ)) (m n : ℕ) (es : List Frame) (z : Option ℕ) (c : Context) (ds : List Frame) (y : Option ℕ) : Type 0 where
  nesting : c.nesting ≡ m
  deep : Deep m es
  leads : Leads names ds y c.ready es z
  due : AllFit names c.due

-- What these marks say is right.
record Owed (names : List (List ℕ)) (n : ℕ) (ds : List Frame) (y : Option ℕ) (ms : List Mark) : Type 0 where
  keeps : Keeps names n ds y (items_of ms)

-- What nothing broken says.

parts_empty : (a b w q r t : List Breach) → a ++ b ++ w ++ q ++ r ++ t ≡ [] → (a ≡ []) × (b ≡ []) × (w ≡ [])
parts_empty a b w q r t e =
    let f : a ++ b ++ w ≡ [] = front_empty (a ++ b ++ w) q (front_empty (a ++ b ++ w ++ q) r (front_empty (a ++ b ++ w ++ q ++ r) t e)) in
    let h : a ++ b ≡ [] = front_empty (a ++ b) w f in
    (front_empty a b h, back_empty a b h, back_empty (a ++ b) w f)

untold : (b : Bool) (x : Breach) → when b x ≡ [] → b ≡ false
untold true x e = cc
untold false x e = refl

nor : (b : Bool) → not b ≡ false → b ≡ true
nor true e = refl
nor false e = cc

at_most : (a b : ℕ) → nat_le a b ≡ true → a ≤ b
at_most a b e = grind (arith, common_steps)

open_few : (b : Bool) (n most : ℕ) → (b && not (nat_le n most)) ≡ false → b ≡ true → n ≤ most
open_few true n most h e = at_most n most (nor (nat_le n most) h)
open_few false n most h e = cc

out_ready : (b : Bool) (hs : List Held) (c : Context) → (if b then resumed hs c else c).ready ≡ c.ready
out_ready true [] c = refl
out_ready true (h ∷ hs) c = refl
out_ready false hs c = refl

out_due : (b : Bool) (hs : List Held) (c : Context) → (if b then resumed hs c else c).due ≡ c.due
out_due true [] c = refl
out_due true (h ∷ hs) c = refl
out_due false hs c = refl

out_nesting : (b : Bool) (hs : List Held) (c : Context) → (if b then resumed hs c else c).nesting ≡ c.nesting
out_nesting true [] c = refl
out_nesting true (h ∷ hs) c = refl
out_nesting false hs c = refl

-- What is known of the scope of a list of slots: its arguments, and the names that were given.
record Has (a : ℕ) (ns : List ℕ) (u : Scope) : Type 0 where
  arguments : u.arguments ≡ a
  knows : (n : ℕ) → list_any (nat_eq n) ns ≡ true → has u (n ∷ []) ≡ true

-- behind the name of a slot
record Owns (a : ℕ) (ns : List ℕ) (n : ℕ) (u : Scope) : Type 0 where
  known : Has a ns u
  new : list_any (nat_eq n) ns ≡ false
  own : has u (n ∷ []) ≡ true

or_true : (a b : Bool) → a ≡ true → (a || b) ≡ true
or_true true b e = refl
or_true false b e = cc

or_last : (a b : Bool) → b ≡ true → (a || b) ≡ true
or_last true b e = refl
or_last false b e = e

or_none : (b : Bool) → (b || false) ≡ b
or_none true = refl
or_none false = refl

more_has : (ns : List (List ℕ)) (x y : List ℕ) → list_any (pointwise nat_eq x) ns ≡ true → list_any (pointwise nat_eq x) (with_name ns y) ≡ true
more_has ns x y h = by (list_any (pointwise nat_eq y) ns)
  where
    by : (b : Bool) → list_any (pointwise nat_eq x) (if b then ns else ns ++ y ∷ []) ≡ true
    by true = h
    by false = list_any-append (pointwise nat_eq x) ns (y ∷ []) ∙ or_true _ _ h

own_has : (ns : List (List ℕ)) (x : List ℕ) → list_any (pointwise nat_eq x) (with_name ns x) ≡ true
own_has ns x = by (list_any (pointwise nat_eq x) ns) refl
  where
    by : (b : Bool) → list_any (pointwise nat_eq x) ns ≡ b → list_any (pointwise nat_eq x) (if b then ns else ns ++ x ∷ []) ≡ true
    by true e = e
    by false e = list_any-append (pointwise nat_eq x) ns (x ∷ []) ∙ or_last _ _ (or_none _ ∙ nat_list_eq_equiv.refl x)

has_first : (o : Owner) → Has 0 [] (scope o)
has_first o = record { arguments = refl; knows = λ n e. cc }

has_named : (a : ℕ) (ns : List ℕ) (u : Scope) (x : List ℕ) → Has a ns u → Has a ns (named x u)
has_named a ns u x h = record { arguments = h.arguments; knows = λ n e. more_has u.names (n ∷ []) x (h.knows n e) }

owns_named : (a : ℕ) (ns : List ℕ) (n : ℕ) (u : Scope) (x : List ℕ) → Owns a ns n u → Owns a ns n (named x u)
owns_named a ns n u x h = record { known = has_named a ns u x h.known; new = h.new; own = more_has u.names (n ∷ []) x h.own }

has_local : (l : Limits) (a : ℕ) (ns : List ℕ) (u : Scope) (p : Spot) → Has a ns u → Has a ns (with_local l p u)
has_local l a ns u p h = record { arguments = h.arguments; knows = h.knows }

has_argument : (a : ℕ) (ns : List ℕ) (u : Scope) (x : List ℕ) → Has a ns u → Has (a + 1) ns (with_argument x u)
has_argument a ns u x h = record { arguments = ap (λ k. k + 1) h.arguments; knows = λ n e. more_has u.names (n ∷ []) x (h.knows n e) }

has_plain : (a : ℕ) (ns : List ℕ) (u : Scope) → Has a ns u → Has a ns (not_plain u)
has_plain a ns u h = record { arguments = h.arguments; knows = h.knows }

owns_plain : (a : ℕ) (ns : List ℕ) (n : ℕ) (u : Scope) → Owns a ns n u → Owns a ns n (not_plain u)
owns_plain a ns n u h = record { known = has_plain a ns u h.known; new = h.new; own = h.own }

owns_holding : (a : ℕ) (ns : List ℕ) (n : ℕ) (u : Scope) (d : g.Datum) → Owns a ns n u → Owns a ns n (s.holding d u)
owns_holding a ns n u (g.simple d) h = h
owns_holding a ns n u (g.object x) h = owns_plain a ns n u h

eq_text : (n m : ℕ) → nat_eq n m ≡ true → n ≡ m
eq_text n m e = grind (arith, common_steps)

or_either : (a b : Bool) (x : Bool) → (a || b) ≡ true → (a ≡ true → x ≡ true) → (b ≡ true → x ≡ true) → x ≡ true
or_either true b x e f k = f refl
or_either false b x e f k = k e

has_more : (a : ℕ) (ns : List ℕ) (n : ℕ) (u : Scope) → Has a ns u → has u (n ∷ []) ≡ true → Has a (n ∷ ns) u
has_more a ns n u h own = record {
  arguments = h.arguments;
  knows = λ m e. or_either (nat_eq m n) (list_any (nat_eq m) ns) (has u (m ∷ [])) e (λ f. subst (λ x. has u (x ∷ []) ≡ true) (sym (eq_text m n f)) own) (h.knows m);
}

not_known : (a : ℕ) (ns : List ℕ) (u : Scope) (n : ℕ) → Has a ns u → has u (n ∷ []) ≡ false → list_any (nat_eq n) ns ≡ false
not_known a ns u n h e = by (list_any (nat_eq n) ns) refl
  where
    by : (b : Bool) → list_any (nat_eq n) ns ≡ b → b ≡ false
    by true f = let no : has u (n ∷ []) ≡ true = h.knows n f in cc
    by false f = refl

-- behind the name of any slot
has_added : (a : ℕ) (ns : List ℕ) (w : Words) (u : Scope) → Has a ns u → Has a (added w ns) (named (parts_in w) u)
has_added a ns (words.One n) u h = has_more a ns n (named (n ∷ []) u) (has_named a ns u (n ∷ []) h) (own_has u.names (n ∷ []))
has_added a ns (words.Two p q) u h = has_named a ns u (p ∷ q ∷ []) h
has_added a ns (words.Three p q r) u h = has_named a ns u (p ∷ q ∷ r ∷ []) h
has_added a ns (words.Four p q r t) u h = has_named a ns u (p ∷ q ∷ r ∷ t ∷ []) h
has_added a ns (words.Five p q r t v) u h = has_named a ns u (p ∷ q ∷ r ∷ t ∷ v ∷ []) h

-- What begins with a sign that is no bar: no rule was broken before it.
record Begun (c : Context) (ms : List Mark) : Type 0 where
  late : c.late ≡ []
  bare : IsBarred ms → ⊥

delegate_bare : (d : g.Delegate) → s.delegate_symbol d ≡ symbol.Bar → ⊥
delegate_bare (g.to_all w) e = cc
delegate_bare (g.to_parent w) e = cc

opening_bare : (o : g.Opening) → s.opening_symbol o ≡ symbol.Bar → ⊥
opening_bare (g.ordinary w) e = cc
opening_bare (g.primitive_keyword w b) e = cc

module _ (l : Limits) (names : List (List ℕ)) where
  abbrev Opens : Writer → Type 0
  Opens k = (c : Context) → AreFine names (k c) → Begun c (k c)

  written : (x : Symbol) (p : Spot) (e : Event) (c : Context) (rest : List Mark) → (x ≡ symbol.Bar → ⊥) → AreFine names (mark_at l c x p e ∷ rest) → Begun c (mark_at l c x p e ∷ rest)
  written x p e c rest not_bar h =
      let all : breaches l c e ≡ [] = unplaced p (breaches l c e) (none_first (map (placed p) (breaches l c e)) h.0) in
      record { late = (parts_empty c.late e.broken _ _ _ _ all).0; bare = not_bar }

  mutual
    unary_opens : (u : g.Unary) (k : Writer) → Opens (s.unary l u k)
    unary_opens (g.int z p) k c h = written (symbol.Integer z) p (makes p (nodes.Integer z)) c _ (λ e. cc) h
    unary_opens (g.str x) k c h = written (symbol.Text x.start x.end) x.spot (makes x.spot (nodes.Text x.start x.end)) c _ (λ e. cc) h
    unary_opens (g.itself w) k c h = written (symbol.Name w.name w.setter Itself) w.spot (makes w.spot nodes.Itself) c _ (λ e. cc) h
    unary_opens (g.block p bs b q) k c h = written symbol.OpenBracket p (block_opening p) c _ (λ e. cc) h
    unary_opens (g.group p e q) k c h = written symbol.OpenParen p opening c _ (λ e. cc) h
    unary_opens (g.name w) k c h = written (s.free_name w) w.spot (makes w.spot (nodes.Message Implied (One w.name) 0)) c _ (λ e. cc) h
    unary_opens (g.resend_name w) k c h = written (symbol.Name w.name w.setter Resend) w.spot (makes w.spot (nodes.Message Implied (One w.name) 0)) c _ (λ e. cc) h
    unary_opens (g.primitive w) k c h = written (symbol.Primitive w.name) w.spot (makes w.spot (nodes.Primitive (One w.name) 0 true false)) c _ (λ e. cc) h
    unary_opens (g.restart p) k c h = written symbol.Restart p (makes p nodes.Restart) c _ (λ e. cc) h
    unary_opens (g.resent d w) k c h = written (s.delegate_symbol d) (s.delegate_spot d) quiet c _ (delegate_bare d) h
    unary_opens (g.sent u w) k c h = unary_opens u _ c h
    unary_opens (g.sent_primitive u w) k c h = unary_opens u _ c h

    operands_opens : (us : g.Operands) (o : ℕ) (r : Role) (k : Writer) → Opens (s.operands l o r us k)
    operands_opens (g.first u p) o r k c h = unary_opens u _ c h
    operands_opens (g.delegated d p) o r k c h = written (s.delegate_symbol d) (s.delegate_spot d) quiet c _ (delegate_bare d) h
    operands_opens (g.next us u p) o r k c h = operands_opens us o r _ c h

    binary_opens : (b : g.Binary) (k : Writer) → Opens (s.binary l b k)
    binary_opens (g.single u) k c h = unary_opens u k c h
    binary_opens (g.several o r us u) k c h = operands_opens us o r _ c h

    receiver_opens : (r : g.Receiver) (o : g.Opening) (k : Writer) → Opens (s.receiver l r (write l (s.opening_symbol o) (s.opening_spot o) opening k))
    receiver_opens g.implied o k c h = written (s.opening_symbol o) (s.opening_spot o) opening c _ (opening_bare o) h
    receiver_opens (g.given b) o k c h = binary_opens b _ c h

    message_opens : (x : g.Message) (k : Writer) → Opens (s.message l x k)
    message_opens (g.opened r o) k c h = receiver_opens r o k c h
    message_opens (g.redirected d w) k c h = written (s.delegate_symbol d) (s.delegate_spot d) quiet c _ (delegate_bare d) h
    message_opens (g.further x b q) k c h = message_opens x _ c h

    expression_opens : (e : g.Expression) (k : Writer) → Opens (s.expression l e k)
    expression_opens (g.plain b) k c h = binary_opens b k c h
    expression_opens (g.keyed x e) k c h = message_opens x _ c h

  statements_opens : (ss : g.Statements) (k : Writer) → Opens k → Opens (s.statements l ss k)
  statements_opens g.none k o = o
  statements_opens (g.more ss e p) k o = statements_opens ss _ (λ c h. expression_opens e _ c h)

  code_opens : (x : g.Code) (k : Writer) → Opens (s.code l x k)
  code_opens (g.code ss None e p) k = statements_opens ss _ (λ c h. expression_opens e _ c h)
  code_opens (g.code ss (Some r) e p) k = statements_opens ss _ (λ c h. written symbol.Caret r quiet c _ (λ e. cc) h)

module _ (l : Limits) (ln : l.nesting ≤ 64) (names : List (List ℕ)) where
  abbrev Owes : ℕ → ℕ → List Frame → Option ℕ → Writer → Type 0
  Owes m n es z k = (c : Context) (ds : List Frame) (y : Option ℕ) → Stands names m n es z c ds y → AreFine names (k c) → Owed names n ds y (k c)

  deeply : (m n : ℕ) (es : List Frame) (z : Option ℕ) (k : Writer) → (Deep m es → Owes m n es z k) → Owes m n es z k
  deeply m n es z k owes c ds y h sound = owes h.deep c ds y h sound

  -- What comes behind a sign.
  record After (e : Event) (k : Writer) : Type 0 where
    context : Context
    expected : Expected e.next (k context)
    fine : AreFine names (k context)

  record Goes (m n : ℕ) (es : List Frame) (e : Event) (m' n' : ℕ) (fs : List Frame) (z' : Option ℕ) (k : Writer) : Type 0 where
    deep : Deep m' fs
    says : (rest : List Item) → Keeps names n' fs z' rest → Keeps names n es None (map items.Node e.made ++ (e.says ++ rest))
    owes : Owes m' n' fs z' k

  sign : (m n : ℕ) (es : List Frame) (z : Option ℕ) (m' n' : ℕ) (fs : List Frame) (z' : Option ℕ) (x : Symbol) (p : Spot) (e : Event) (k : Writer) → nesting_after m e.opens e.closes ≡ m' →
      (e.broken ≡ [] → (e.opens ≡ true → m + 1 ≤ 64) → OfSymbol names x → After e k → Deep m es → Goes m n es e m' n' fs z' k) → Owes m n es z (write l x p e k)
  sign m n es z m' n' fs z' x p e k nest go c ds y h sound =
      let all : breaches l c e ≡ [] = unplaced p (breaches l c e) (none_first (map (placed p) (breaches l c e)) sound.0) in
      let parts = parts_empty c.late e.broken _ _ _ _ all in
      let within : e.opens ≡ true → m + 1 ≤ 64 = (λ o. (let low : c.nesting + 1 ≤ l.nesting = open_few e.opens (c.nesting + 1) l.nesting (untold _ _ parts.2) o in let same : c.nesting ≡ m = h.nesting in omega arith)) in
      let to = go parts.1 within sound.2 (record { context = moved c e; expected = sound.1; fine = sound.3 }) h.deep in
      let now : Context = counted c e in
      let calm : (moved c e).ready ≡ [] = out_ready e.leaves c.around now in
      let settled : (moved c e).due ≡ [] = out_due e.leaves c.around now in
      let level : (moved c e).nesting ≡ m' = out_nesting e.leaves c.around now ∙ ap (λ y. nesting_after y e.opens e.closes) h.nesting ∙ nest in
      let rest : List Item = items_of (k (moved c e)) in
      let more = to.owes (moved c e) fs z' (record { nesting = level; deep = to.deep; leads = subst (λ y. Leads names fs z' y fs z') (sym calm) (refl, refl); due = subst (AllFit names) (sym settled) tt }) sound.3 in
      let made : List Made = c.due ++ e.made in
      record {
        keeps =
            subst (λ is. Keeps names n ds y is) (sym (append_assoc (c.ready ++ map items.Node made) e.says rest ∙ append_assoc c.ready (map items.Node made) (e.says ++ rest)))
            (leads_keep names n ds es y z c.ready (map items.Node made ++ (e.says ++ rest)) h.leads
            (keeps_any names n es z (map items.Node made ++ (e.says ++ rest)) (both_keep names n es c.due e.made (e.says ++ rest) h.due (to.says rest more.keeps))));
      }

  -- a sign that opens, closes and says nothing, but makes nodes,
  marked : {m n : ℕ} {es : List Frame} {z : Option ℕ} (x : Symbol) (p : Spot) (e : Event) (k : Writer) → e.opens ≡ false → e.closes ≡ false → e.says ≡ [] → (OfSymbol names x → AllFit names e.made) →
      (e.broken ≡ [] → OfSymbol names x → Owes m n es None k) → Owes m n es z (write l x p e k)
  marked {m} {n} {es} {z} x p e k a b t f owes =
      sign m n es z m n es None x p e k (rw (a, b) refl) (λ un o of after d. record { deep = d; says = λ rest h. nodes_keep names n es e.made (e.says ++ rest) (f of) (rw t h); owes = owes un of })

  light : {m n : ℕ} {es : List Frame} {z : Option ℕ} (x : Symbol) (p : Spot) (e : Event) (k : Writer) → e.opens ≡ false → e.closes ≡ false → e.says ≡ [] → (OfSymbol names x → AllFit names e.made) →
      Owes m n es None k → Owes m n es z (write l x p e k)
  light x p e k a b t f owes = marked x p e k a b t f (λ un of. owes)

  -- and one that says what changes nothing.
  said : {m n : ℕ} {es : List Frame} {z : Option ℕ} (x : Symbol) (p : Spot) (i : Item) (k : Writer) → ((rest : List Item) → Keeps names n es None rest → Keeps names n es None (i ∷ rest)) → Owes m n es None k →
      Owes m n es z (write l x p (saying i) k)
  said {m} {n} {es} {z} x p i k on owes = sign m n es z m n es None x p (saying i) k refl (λ un o of after d. record { deep = d; says = λ rest h. on rest h; owes = owes })

  -- What is said between signs.
  slotted_deep : (m : ℕ) (w : Words) (es : List Frame) → Deep m es → Deep m (slotted w es)
  slotted_deep m w [] d = d
  slotted_deep m w (e ∷ es) d = let le : length (e ∷ es) ≤ m + 1 = d.most in record { most = omega arith; some = tt }

  append_none : (is : List Item) → is ++ [] ≡ is
  append_none [] = refl
  append_none (i ∷ is) = ap (λ x. i ∷ x) (append_none is)

  placing_none : {m n : ℕ} {es : List Frame} {z : Option ℕ} (k : Writer) → Owes m n es z k → Owes m n es z (placing [] k)
  placing_none {m} {n} {es} {z} k owes c ds y h sound =
      owes (record c { ready = c.ready ++ [] }) ds y
      (record { nesting = h.nesting; deep = h.deep; leads = subst (λ is. Leads names ds y is es z) (sym (append_none c.ready)) h.leads; due = h.due }) sound

  placing_slot : {m n : ℕ} {z : Option ℕ} (v a : ℕ) (b : Bool) (ns : List ℕ) (es : List Frame) (w : Words) (f : SlotForm) (p : Spot) (k : Writer) → SlotFits names (frame v a b ns ∷ es) z w f →
      Owes m n (frame v a b (added w ns) ∷ es) None k → Owes m n (frame v a b ns ∷ es) z (placing (items.Slot w f p ∷ []) k)
  placing_slot {m} {n} {z} v a b ns es w f p k fits owes c ds y h sound =
      owes (record c { ready = c.ready ++ items.Slot w f p ∷ [] }) ds y
      (record {
        nesting = h.nesting;
        deep = slotted_deep m w (frame v a b ns ∷ es) h.deep;
        leads = leads_append names ds (frame v a b ns ∷ es) y z c.ready w f p h.leads fits;
        due = h.due;
      }) sound

  owing_owes : {m n : ℕ} {es : List Frame} {z : Option ℕ} (o : Made) (k : Writer) → NodeFits names o.node → Owes m n es z k → Owes m n es z (owing o k)
  owing_owes o k fits owes c ds y h sound =
      owes (record c { due = c.due ++ o ∷ [] }) ds y (record { nesting = h.nesting; deep = h.deep; leads = h.leads; due = fit_append names c.due o h.due fits }) sound

  finishing_owes : {m n : ℕ} {es : List Frame} {z : Option ℕ} (k : Writer) → Deep m es → Owes m n es z k → Owes (m + 1) n es z (finishing k)
  finishing_owes {m} {n} {es} k d owes c ds y h sound =
      let up : c.nesting ≡ m + 1 = h.nesting in
      owes (record c { nesting = c.nesting - 1 }) ds y (record { nesting = omega arith; deep = d; leads = h.leads; due = h.due }) sound

  telling_more : {m n : ℕ} {es : List Frame} {z : Option ℕ} (bs : List Breach) (k : Writer) → Owes m n es z k → Owes m n es z (telling bs k)
  telling_more bs k owes c ds y h sound =
      owes (record c { late = c.late ++ bs }) ds y (record { nesting = h.nesting; deep = h.deep; leads = h.leads; due = h.due }) sound

  -- Rules that were told were kept.
  telling_owes : {m n : ℕ} {es : List Frame} {z : Option ℕ} (bs : List Breach) (k : Writer) → Opens l names k → (bs ≡ [] → Owes m n es z k) → Owes m n es z (telling bs k)
  telling_owes bs k opens owes c ds y h sound =
      owes (back_empty c.late bs (opens (record c { late = c.late ++ bs }) sound).late) (record c { late = c.late ++ bs }) ds y
      (record { nesting = h.nesting; deep = h.deep; leads = h.leads; due = h.due }) sound

  entering_owes : {m n : ℕ} {es : List Frame} {z : Option ℕ} (k : Writer) → Owes m n es z k → Owes m n es z (entering k)
  entering_owes k owes c ds y h sound =
      owes (record c { pending = 0; nodes = 0; around = record { pending = c.pending; nodes = c.nodes } ∷ c.around }) ds y (record { nesting = h.nesting; deep = h.deep; leads = h.leads; due = h.due }) sound

  -- What opens, and what closes.
  opens : {m n : ℕ} {es : List Frame} {z : Option ℕ} (b : Bool) (x : Symbol) (p : Spot) (e : Event) (q : Spot) (k : Writer) → e.opens ≡ true → e.made ≡ [] → e.says ≡ items.Opened q ∷ [] →
      (After e k → Deep m es → Owes (m + 1) 0 (frame n n b [] ∷ es) None k) → Owes m n es z (write l x p e k)
  opens {m} {n} {es} {z} b x p e q k a f t owes =
      sign m n es z (m + 1) 0 (frame n n b [] ∷ es) None x p e k (rw a refl)
      (λ un o of after d.
      let top : m + 1 ≤ 64 = o a in
      let low : length es ≤ m + 1 = d.most in
      record { deep = record { most = omega arith; some = tt }; says = λ rest h. rw (f, t) ((omega arith, d.some), (b, h)); owes = owes after d })

  opens_block : {m : ℕ} {es : List Frame} {z : Option ℕ} (p : Spot) (k : Writer) → (Deep m es → Owes (m + 1) 0 (frame 0 0 true [] ∷ es) None k) → Owes m 0 es z (write l symbol.OpenBracket p (block_opening p) k)
  opens_block {m} {es} {z} p k owes =
      sign m 0 es z (m + 1) 0 (frame 0 0 true [] ∷ es) None symbol.OpenBracket p (block_opening p) k refl
      (λ un o of after d.
      let top : m + 1 ≤ 64 = o refl in
      let low : length es ≤ m + 1 = d.most in
      record {
        deep = record { most = omega arith; some = tt };
        says = λ rest h. (closed_as_body names 0 (frame 0 0 true []) es None rest refl h, ((omega arith, d.some), (true, h)));
        owes = owes d;
      })

  closes_body : {m : ℕ} {es : List Frame} {z : Option ℕ} (v a : ℕ) (b : Bool) (ns : List ℕ) (z' : Option ℕ) (x : Symbol) (p : Spot) (e : Event) (k : Writer) → e.opens ≡ false → e.closes ≡ true → AllFit names e.made →
      e.says ≡ items.ClosedBody ∷ [] → Deep m es → ((rest : List Item) → Keeps names 0 es z' rest → Keeps names 0 es (Some a) rest) → Owes m 0 es z' k → Owes (m + 1) 0 (frame v a b ns ∷ es) z (write l x p e k)
  closes_body {m} {es} {z} v a b ns z' x p e k o c f t d let_be owes =
      let down : m + 1 - 1 ≡ m = omega arith in
      sign (m + 1) 0 (frame v a b ns ∷ es) z m 0 es z' x p e k (rw (o, c) down)
      (λ un w of after deep. record {
        deep = d;
        says = λ rest h. nodes_keep names 0 (frame v a b ns ∷ es) e.made (e.says ++ rest) f (rw t (inner_of (frame v a b ns) es d.some, let_be rest h));
        owes = owes;
      })

  closes_object : {m : ℕ} {es : List Frame} {z : Option ℕ} (a : ℕ) (ns : List ℕ) (x : Symbol) (p : Spot) (e : Event) (k : Writer) → e.opens ≡ false → e.closes ≡ true → e.made ≡ [] → e.says ≡ items.ClosedObject ∷ [] →
      Deep m es → Owes m 0 es None k → Owes (m + 1) 0 (frame 0 a false ns ∷ es) z (write l x p e k)
  closes_object {m} {es} {z} a ns x p e k o c f t d owes =
      let down : m + 1 - 1 ≡ m = omega arith in
      sign (m + 1) 0 (frame 0 a false ns ∷ es) z m 0 es None x p e k (rw (o, c) down)
      (λ un w of after deep. record { deep = d; says = λ rest h. rw (f, t) ((inner_of (frame 0 a false ns) es d.some, (refl, refl)), h); owes = owes })

  ending_owes : {m : ℕ} {es : List Frame} {z : Option ℕ} (v a : ℕ) (c : Bool) (ns : List ℕ) (z' : Option ℕ) (b : g.Body) (x : Symbol) (q : Spot) (k : Writer) → Deep m es →
      ((rest : List Item) → Keeps names 0 es z' rest → Keeps names 0 es (Some a) rest) → Owes m 0 es z' k → Owes (m + 1) 0 (frame v a c ns ∷ es) z (write l x q (s.ending b q) k)
  ending_owes v a c ns z' g.empty x q k d let_be owes = closes_body v a c ns z' x q (s.ending g.empty q) k refl refl (tt, (tt, tt)) refl d let_be owes
  ending_owes v a c ns z' (g.full (g.code ss None e r)) x q k d let_be owes = closes_body v a c ns z' x q (s.ending (g.full (g.code ss None e r)) q) k refl refl (tt, tt) refl d let_be owes
  ending_owes v a c ns z' (g.full (g.code ss (Some r) e u)) x q k d let_be owes = closes_body v a c ns z' x q (s.ending (g.full (g.code ss (Some r) e u)) q) k refl refl tt refl d let_be owes

  -- Parts of slots and of code.
  slot_name_owes : {m n : ℕ} {es : List Frame} {z : Option ℕ} (a : ℕ) (ns : List ℕ) (x : g.Label) (k : s.Listing) →
      (IsPlain names x.name x.setter → (u : Scope) → Owns a ns x.name u → Owes m n es None (k u)) → (u : Scope) → Has a ns u → Owes m n es z (s.slot_name l x k u)
  slot_name_owes a ns x k owes u h =
      marked (s.free_name x) x.spot (v'.name_event l u x) _ refl refl refl (λ of. tt)
      (λ un of. owes of _
      (record {
        known = has_named a ns (with_local l x.spot u) (x.name ∷ []) (has_local l a ns u x.spot h);
        new = not_known a ns u x.name h (untold _ _ (back_empty (too_many_locals l u) (again u (x.name ∷ []) x.spot) un));
        own = own_has u.names (x.name ∷ []);
      }))

  argument_owes : {m : ℕ} {es : List Frame} {z : Option ℕ} (v a : ℕ) (b : Bool) (ns : List ℕ) (x : g.Label) (k : s.Listing) → ((u : Scope) → Has (a + 1) ns u → Owes m 0 (frame v (a + 1) b ns ∷ es) None (k u)) →
      (u : Scope) → Has a ns u → Owes m 0 (frame v a b ns ∷ es) z (s.argument l x k u)
  argument_owes {m} {es} {z} v a b ns x k owes u h =
      sign m 0 (frame v a b ns ∷ es) z m 0 (frame v (a + 1) b ns ∷ es) None (symbol.Argument x.name x.setter Free) x.spot (v'.argument_event l u x) _ refl
      (λ un w of after d. record { deep = record { most = d.most; some = tt }; says = λ rest t. t; owes = owes _ (has_argument a ns u (x.name ∷ []) h) })

  head_argument_owes : {m : ℕ} {es : List Frame} {z : Option ℕ} (v : ℕ) (x : g.Label) (k : s.Listing) → ((u : Scope) → Has (v + 1) [] u → Owes m (v + 1) es None (k u)) → (u : Scope) → Has v [] u →
      Owes m v es z (s.head_argument l x k u)
  head_argument_owes {m} {es} {z} v x k owes u h =
      sign m v es z m (v + 1) es None (s.free_name x) x.spot (v'.head_argument_event l u x) _ refl
      (λ un w of after d. record { deep = d; says = λ rest t. t; owes = owes _ (has_argument v [] u (x.name ∷ []) h) })

  arrow_owes : {m n : ℕ} {es : List Frame} {z : Option ℕ} (a : ℕ) (ns : List ℕ) (x : g.Label) (w : g.Word) (k : s.Listing) → ((u : Scope) → Owns a ns x.name u → Owes m n es None (k u)) →
      (u : Scope) → Owns a ns x.name u → Owes m n es z (s.arrow l x w k u)
  arrow_owes a ns x w k owes u h =
      light (symbol.Operator w.name Arrow) w.spot (record quiet { broken = again u (x.setter ∷ []) x.spot }) _ refl refl refl (λ of. tt) (owes _ (owns_named a ns x.name u (x.setter ∷ []) h))

  no_arrow_owes : {m n : ℕ} {es : List Frame} {z : Option ℕ} (a : ℕ) (ns : List ℕ) (x : g.Label) (k : s.Listing) → ((u : Scope) → Owns a ns x.name u → Owes m n es z (k u)) →
      (u : Scope) → Owns a ns x.name u → Owes m n es z (s.no_arrow x k u)
  no_arrow_owes a ns x k owes u h = telling_more (again u (x.setter ∷ []) x.spot) _ (owes _ (owns_named a ns x.name u (x.setter ∷ []) h))

  stopped_owes : {m n : ℕ} {es : List Frame} (o : Option Spot) (k : Writer) → Owes m n es None k → Owes m n es None (s.stopped l o k)
  stopped_owes None k owes = owes
  stopped_owes (Some p) k owes = light symbol.Period p quiet k refl refl refl (λ of. tt) owes

  delegate_owes : {m n : ℕ} {es : List Frame} {z : Option ℕ} (x : g.Delegate) (k : Writer) → (TargetFits names (s.delegate_target x) → Owes m n es None k) → Owes m n es z (s.delegate l x k)
  delegate_owes x k owes = marked (s.delegate_symbol x) (s.delegate_spot x) quiet k refl refl refl (λ of. tt) (λ un of. owes (delegate_fits names x of))

  path_owes : {m n : ℕ} {es : List Frame} {z : Option ℕ} (q : g.Path) (k : Writer) → Owes m n es None k → Owes m n es z (s.path l q k)
  path_owes (g.named x) k owes = said (s.any_name x) x.label.spot (items.Root x.label.name x.label.spot) k (λ rest h. h) owes
  path_owes (g.under q x) k owes = path_owes q _ (said (s.any_name x) x.label.spot (items.Further x.label.name x.label.spot) k (λ rest h. h) owes)

  simple_owes : {m n : ℕ} {es : List Frame} {z : Option ℕ} (x : g.Simple) (k : Writer) → Owes m n es None k → Owes m n es z (s.simple l x k)
  simple_owes (g.integer i p) k owes = said (symbol.Integer i) p (items.Integer i) k (λ rest h. h) owes
  simple_owes (g.string x) k owes = said (symbol.Text x.start x.end) x.spot (items.Text x.start x.end) k (λ rest h. h) owes
  simple_owes (g.path q) k owes = path_owes q k owes

  -- what follows a list of slots, by what it has
  abbrev Lists : Bool → ℕ → ℕ → List Frame → s.Listing → Type 0
  Lists b v m es k = (a : ℕ) (ns : List ℕ) (u : Scope) → Has a ns u → Owes m 0 (frame v a b ns ∷ es) None (k u)

  local_owes : {m : ℕ} {es : List Frame} (b : Bool) (v : ℕ) (x : g.Local) (k : s.Listing) → Lists b v m es k → Lists b v m es (s.local l x (λ t. placing (s.local_items x) (k t)))
  local_owes b v (g.local_argument x) k owes a ns u h = argument_owes v a b ns x _ (λ y t. placing_none (k y) (owes (a + 1) ns y t)) u h
  local_owes {m} {es} b v (g.local_bare x) k owes a ns u h =
      slot_name_owes a ns x _ (λ plain. no_arrow_owes a ns x _ (λ y t. placing_slot v a b ns es (One x.name) (form.Bare x.setter) x.spot (k y) (plain_named names x.name x.setter plain, (plain, t.new)) (owes a (x.name ∷ ns) y (has_more a ns x.name y t.known t.own)))) u h
  local_owes {m} {es} b v (g.local_assignable x w d) k owes a ns u h =
      slot_name_owes a ns x _
      (λ plain. arrow_owes a ns x w _ (λ y t. simple_owes d _ (placing_slot v a b ns es (One x.name) (form.Assignable x.setter) x.spot (k y) (plain_named names x.name x.setter plain, (plain, t.new)) (owes a (x.name ∷ ns) y (has_more a ns x.name y t.known t.own))))) u h
  local_owes {m} {es} b v (g.local_constant x e d) k owes a ns u h =
      slot_name_owes a ns x _
      (λ plain y t. light (symbol.Operator e.name Equals) e.spot quiet _ refl refl refl (λ of. tt) (simple_owes d _ (placing_slot v a b ns es (One x.name) form.Constant x.spot (k y) (plain_named names x.name x.setter plain) (owes a (x.name ∷ ns) y (has_more a ns x.name y t.known t.own))))) u h

  period_owes : {m n : ℕ} {es : List Frame} (p : Spot) (k : Writer) → Owes m n es None k → Owes m n es None (write l symbol.Period p quiet k)
  period_owes p k owes = light symbol.Period p quiet k refl refl refl (λ of. tt) owes

  locals_before_owes : {m : ℕ} {es : List Frame} (b : Bool) (v : ℕ) (ws : g.LocalsBefore) (k : s.Listing) → Lists b v m es k → Lists b v m es (s.locals_before l ws k)
  locals_before_owes b v g.no_locals k owes = owes
  locals_before_owes b v (g.more_locals ws x p) k owes =
      locals_before_owes b v ws _ (local_owes b v x (λ z. write l symbol.Period p quiet (k z)) (λ a ns z t. period_owes p _ (owes a ns z t)))

  locals_owes : {m : ℕ} {es : List Frame} (b : Bool) (v : ℕ) (ws : g.Locals) (k : s.Listing) → Lists b v m es k → Lists b v m es (s.locals l ws k)
  locals_owes b v (g.locals_ended ws) k owes = locals_before_owes b v ws k owes
  locals_owes b v (g.locals_last ws x) k owes = locals_before_owes b v ws _ (local_owes b v x k owes)

  bars_owes : {m : ℕ} {es : List Frame} (bs : g.Bars) (k : Writer) → ((a : ℕ) (ns : List ℕ) → Owes m 0 (frame 0 a true ns ∷ es) None k) → Owes m 0 (frame 0 0 true [] ∷ es) None (s.bars l bs k)
  bars_owes g.absent k owes = owes 0 []
  bars_owes (g.present p ws q) k owes =
      light symbol.Bar p quiet _ refl refl refl (λ of. tt)
      (locals_owes true 0 ws _ (λ a ns u h. light symbol.Bar q quiet _ refl refl refl (λ of. tt) (owes a ns)) 0 [] (scope activation) (has_first activation))

  let_be_none : (es : List Frame) (a : ℕ) (rest : List Item) → Keeps names 0 es None rest → Keeps names 0 es (Some a) rest
  let_be_none es a rest h = keeps_any names 0 es (Some a) rest h

  -- Code.
  mutual
    unary_owes : {m : ℕ} {es : List Frame} {z : Option ℕ} (u : g.Unary) (k : Writer) → Owes m 0 es None k → Owes m 0 es z (s.unary l u k)
    unary_owes (g.int i p) k owes = light (symbol.Integer i) p (makes p (nodes.Integer i)) k refl refl refl (λ of. (tt, tt)) owes
    unary_owes (g.str x) k owes = light (symbol.Text x.start x.end) x.spot (makes x.spot (nodes.Text x.start x.end)) k refl refl refl (λ of. (tt, tt)) owes
    unary_owes (g.itself w) k owes = light (symbol.Name w.name w.setter Itself) w.spot (makes w.spot nodes.Itself) k refl refl refl (λ of. (tt, tt)) owes
    unary_owes (g.block p bs b q) k owes =
        opens_block p _ (λ d. entering_owes _ (bars_owes bs _ (λ a ns. body_owes b _ (ending_owes 0 a true ns None b symbol.CloseBracket q k d (let_be_none _ a) owes))))
    unary_owes {m} {es} {z} (g.group p e q) k owes =
        deeply m 0 es z _
        (λ d. sign m 0 es z (m + 1) 0 es None symbol.OpenParen p opening _ refl
        (λ un o of after deep. record {
          deep = (let low : length es ≤ m + 1 = d.most in record { most = omega arith; some = d.some });
          says = λ rest h. h;
          owes = expression_owes e _ (let down : m + 1 - 1 ≡ m = omega arith in sign (m + 1) 0 es None m 0 es None symbol.CloseParen q closing k down (λ un o of after deep. record { deep = d; says = λ rest h. h; owes = owes }));
        }))
    unary_owes (g.name w) k owes = light (s.free_name w) w.spot (makes w.spot (nodes.Message Implied (One w.name) 0)) k refl refl refl (λ of. ((tt, plain_calls names w.name w.setter of), tt)) owes
    unary_owes (g.resend_name w) k owes = light (symbol.Name w.name w.setter Resend) w.spot (makes w.spot (nodes.Message Implied (One w.name) 0)) k refl refl refl (λ of. ((tt, plain_calls names w.name w.setter of), tt)) owes
    unary_owes (g.primitive w) k owes = light (symbol.Primitive w.name) w.spot (makes w.spot (nodes.Primitive (One w.name) 0 true false)) k refl refl refl (λ of. (tt, tt)) owes
    unary_owes (g.restart p) k owes = light symbol.Restart p (makes p nodes.Restart) k refl refl refl (λ of. (tt, tt)) owes
    unary_owes (g.resent d w) k owes =
        delegate_owes d _
        (λ to. light (s.any_name w) w.label.spot (makes (s.delegate_spot d) (nodes.Message (s.delegate_target d) (One w.label.name) 0)) k refl refl refl (λ of. ((to, plain_calls names w.label.name w.label.setter of), tt)) owes)
    unary_owes (g.sent u w) k owes =
        unary_owes u _ (light (s.any_name w) w.label.spot (makes w.label.spot (s.unary_message w.label.name)) k refl refl refl (λ of. ((tt, plain_calls names w.label.name w.label.setter of), tt)) owes)
    unary_owes (g.sent_primitive u w) k owes = unary_owes u _ (light (symbol.Primitive w.name) w.spot (makes w.spot (nodes.Primitive (One w.name) 0 false false)) k refl refl refl (λ of. (tt, tt)) owes)

    body_owes : {m : ℕ} {es : List Frame} (b : g.Body) (k : Writer) → Owes m 0 es None k → Owes m 0 es None (s.body l b k)
    body_owes g.empty k owes = owes
    body_owes (g.full c) k owes = code_owes c k owes

    operands_owes : {m : ℕ} {es : List Frame} {z : Option ℕ} (us : g.Operands) (o : ℕ) (r : Role) (k : Writer) → (NodeFits names (s.operator_node o us).node → Owes m 0 es None k) → Owes m 0 es z (s.operands l o r us k)
    operands_owes (g.first u p) o r k owes = unary_owes u _ (marked (symbol.Operator o r) p quiet k refl refl refl (λ of. tt) (λ un of. owes (tt, operator_calls names o of)))
    operands_owes (g.delegated d p) o r k owes = delegate_owes d _ (λ to. marked (symbol.Operator o r) p quiet k refl refl refl (λ of. tt) (λ un of. owes (to, operator_calls names o of)))
    operands_owes (g.next us u p) o r k owes =
        operands_owes us o r _
        (λ fits. unary_owes u _ (owing_owes (s.operator_node o us) _ fits (marked (symbol.Operator o r) p quiet k refl refl refl (λ of. tt) (λ un of. owes (tt, operator_calls names o of)))))

    binary_owes : {m : ℕ} {es : List Frame} {z : Option ℕ} (b : g.Binary) (k : Writer) → Owes m 0 es None k → Owes m 0 es z (s.binary l b k)
    binary_owes (g.single u) k owes = unary_owes u k owes
    binary_owes (g.several o r us u) k owes = operands_owes us o r _ (λ fits. unary_owes u _ (owing_owes (s.operator_node o us) k fits owes))

    receiver_owes : {m : ℕ} {es : List Frame} (r : g.Receiver) (k : Writer) → Owes m 0 es None k → Owes m 0 es None (s.receiver l r k)
    receiver_owes g.implied k owes = owes
    receiver_owes (g.given b) k owes = binary_owes b k owes

    -- the first word of a message opens it
    message_owes : {m : ℕ} {es : List Frame} (x : g.Message) (k : Writer) → Deep m es → (Spoken names x → Owes (m + 1) 0 es None k) → Owes m 0 es None (s.message l x k)
    message_owes {m} {es} (g.opened r o) k d owes =
        let low : length es ≤ m + 1 = d.most in
        receiver_owes r _
        (sign m 0 es None (m + 1) 0 es None (s.opening_symbol o) (s.opening_spot o) opening k refl
        (λ un w of after deep. record { deep = record { most = omega arith; some = d.some }; says = λ rest h. h; owes = owes (opened_spoken names r o of) }))
    message_owes {m} {es} (g.redirected t w) k d owes =
        let low : length es ≤ m + 1 = d.most in
        delegate_owes t _
        (λ to. sign m 0 es None (m + 1) 0 es None (symbol.Keyword w.name) w.spot opening k refl
        (λ un o of after deep. record { deep = record { most = omega arith; some = d.some }; says = λ rest h. h; owes = owes (record { to = to; parts = λ e. keyword_one names w.name of }) }))
    message_owes (g.further x b q) k d owes =
        message_owes x _ d
        (λ spoken. binary_owes b _
        (marked (symbol.CapitalKeyword q.word.name q.handles) q.word.spot (v'.part_event l (s.parts x)) k refl refl refl (λ of. tt)
        (λ un of. owes (record { to = spoken.to; parts = λ e. keyword_further names (s.message_words x) q.word.name (spoken.parts e) of }))))

    expression_owes : {m : ℕ} {es : List Frame} (e : g.Expression) (k : Writer) → Owes m 0 es None k → Owes m 0 es None (s.expression l e k)
    expression_owes (g.plain b) k owes = binary_owes b k owes
    expression_owes {m} {es} (g.keyed x e) k owes =
        deeply m 0 es None _ (λ d. message_owes x _ d (λ spoken. expression_owes e _ (owing_owes (s.message_node x) _ (message_fits names x spoken) (finishing_owes k d owes))))

    statements_owes : {m : ℕ} {es : List Frame} (ss : g.Statements) (k : Writer) → Owes m 0 es None k → Owes m 0 es None (s.statements l ss k)
    statements_owes g.none k owes = owes
    statements_owes (g.more ss e p) k owes = statements_owes ss _ (expression_owes e _ (period_owes p _ (owing_owes (node p nodes.Drop) k tt owes)))

    code_owes : {m : ℕ} {es : List Frame} (x : g.Code) (k : Writer) → Owes m 0 es None k → Owes m 0 es None (s.code l x k)
    code_owes (g.code ss None e q) k owes = statements_owes ss _ (expression_owes e _ (stopped_owes q k owes))
    code_owes (g.code ss (Some r) e q) k owes =
        statements_owes ss _ (light symbol.Caret r quiet _ refl refl refl (λ of. tt) (expression_owes e _ (owing_owes (node r nodes.Return) _ tt (stopped_owes q k owes))))

  -- The names of slots, and the arguments among them.
  first_keyword_owes : {m n : ℕ} {es : List Frame} {z : Option ℕ} (a : ℕ) (ns : List ℕ) (x : g.Word) (k : s.Listing) → (IsKeyword names x.name → (u : Scope) → Has a ns u → Owes m n es None (k u)) → (u : Scope) → Has a ns u →
      Owes m n es z (s.first_keyword l x k u)
  first_keyword_owes a ns x k owes u h = marked (symbol.Keyword x.name) x.spot (v'.keyword_event l u x) _ refl refl refl (λ of. tt) (λ un of. owes of _ (has_local l a ns u x.spot h))

  keyword_name_owes : {m n : ℕ} {es : List Frame} {z : Option ℕ} (a : ℕ) (ns : List ℕ) (x : g.KeywordName) (k : s.Listing) → (Keywords names (s.words x) → (u : Scope) → Has a ns u → Owes m n es None (k u)) →
      (u : Scope) → Has a ns u → Owes m n es z (s.keyword_name l x k u)
  keyword_name_owes a ns (g.keyword_first x) k owes u h = first_keyword_owes a ns x k (λ of. owes (keyword_one names x.name of)) u h
  keyword_name_owes a ns (g.keyword_next n q) k owes u h =
      keyword_name_owes a ns n _
      (λ said y t. marked (symbol.CapitalKeyword q.word.name q.handles) q.word.spot (v'.part_event l (s.count n)) (k y) refl refl refl (λ of. tt) (λ un of. owes (keyword_further names (s.words n) q.word.name said of) y t)) u h

  keyword_head_owes : {m : ℕ} {es : List Frame} {z : Option ℕ} (a : ℕ) (ns : List ℕ) (x : g.KeywordHead) (k : Scope → s.Listing) →
      (Keywords names (s.words (s.head_name x)) → (u i : Scope) (v : ℕ) → Has a ns u → Has v [] i → Owes m v es None (k u i)) → (u : Scope) → Has a ns u → Owes m 0 es z (s.keyword_head l x k u)
  keyword_head_owes a ns (g.head_first x w) k owes u h =
      first_keyword_owes a ns x _ (λ of y t. head_argument_owes 0 w _ (λ i r. owes (keyword_one names x.name of) y i 1 t r) (scope activation) (has_first activation)) u h
  keyword_head_owes a ns (g.head_next n q w) k owes u h =
      keyword_head_owes a ns n _
      (λ said y i v t r. marked (symbol.CapitalKeyword q.word.name q.handles) q.word.spot (v'.part_event l (s.count (s.head_name n))) _ refl refl refl (λ of. tt)
      (λ un of. head_argument_owes v w (k y) (λ j e. owes (keyword_further names (s.words (s.head_name n)) q.word.name said of) y j (v + 1) t e) i r)) u h

  operator_name_owes : {m n : ℕ} {es : List Frame} {z : Option ℕ} (a : ℕ) (ns : List ℕ) (x : g.AnyOperator) (k : s.Listing) → (IsOperator names x.word.name → (u : Scope) → Has a (x.word.name ∷ ns) u → Owes m n es None (k u)) →
      (u : Scope) → Has a ns u → Owes m n es z (s.operator_name l x k u)
  operator_name_owes a ns x k owes u h =
      marked (symbol.Operator x.word.name x.role) x.word.spot (v'.operator_event l u x) _ refl refl refl (λ of. tt) (λ un of. owes of _ (has_added a ns (One x.word.name) (with_local l x.word.spot u) (has_local l a ns u x.word.spot h)))

  -- the name of a method's slot
  record Headed (w : Words) (wanted : ℕ) : Type 0 where
    named : IsNamed names w
    arity : arity (joined names (parts_in w)) ≡ wanted

  head_owes : {m : ℕ} {es : List Frame} {z : Option ℕ} (a : ℕ) (ns : List ℕ) (x : g.Head) (k : s.Named → Writer) →
      ((n : s.Named) (v : ℕ) → Headed (s.head_words x) n.wanted → Has a (added (s.head_words x) ns) n.around → Has v [] n.inner → Owes m v es None (k n)) → (u : Scope) → Has a ns u → Owes m 0 es z (s.head l x k u)
  head_owes a ns (g.unary_head x) k owes u h =
      slot_name_owes a ns x _
      (λ plain y t. owes (record { around = y; inner = scope either; wanted = 0; spot = x.spot; broken = [] }) 0 (record { named = plain_named names x.name x.setter plain; arity = plain_arity names x.name x.setter plain })
      (has_more a ns x.name y t.known t.own) (has_first either)) u h
  head_owes a ns (g.operator_with x w) k owes u h =
      operator_name_owes a ns x _
      (λ of y t. head_argument_owes 0 w _
      (λ i r. owes (record { around = y; inner = i; wanted = 1; spot = x.word.spot; broken = [] }) 1 (record { named = operator_named names x.word.name of; arity = operator_arity names x.word.name of }) t r)
      (scope activation) (has_first activation)) u h
  head_owes a ns (g.operator x) k owes u h =
      operator_name_owes a ns x _
      (λ of y t. owes (record { around = y; inner = scope activation; wanted = 1; spot = x.word.spot; broken = [] }) 0 (record { named = operator_named names x.word.name of; arity = operator_arity names x.word.name of }) t
      (has_first activation)) u h
  head_owes a ns (g.keyword_with n) k owes u h =
      keyword_head_owes a ns n _
      (λ said y i v t r. owes (s.keyword_named (s.head_name n) y i) v
      (record { named = keywords_named names (s.words (s.head_name n)) said; arity = keywords_arity names (s.words (s.head_name n)) said }) (has_added a ns (s.words (s.head_name n)) y t) r) u h
  head_owes a ns (g.keyword n) k owes u h =
      keyword_name_owes a ns n _
      (λ said y t. owes (s.keyword_named n y (scope activation)) 0
      (record { named = keywords_named names (s.words n) said; arity = keywords_arity names (s.words n) said }) (has_added a ns (s.words n) y t) (has_first activation)) u h

  -- A method has as many arguments as its slot's name wants.

  same_count : (a b : ℕ) → (a == b) ≡ true → a ≡ b
  same_count a b e = grind (arith, common_steps)

  unwanted : (b : Bool) (p : Spot) → (if b then None else Some p) ≡ None → b ≡ true
  unwanted true p e = refl
  unwanted false p e = cc

  next_none : (o : Option Spot) (ms : List Mark) → Expected o ms → (IsBarred ms → ⊥) → o ≡ None
  next_none None ms e bare = refl
  next_none (Some p) ms e bare = absurd (bare e)

  bare_count : (n : s.Named) (k : Writer) (e : Event) → e.next ≡ s.wants_bar n → ((c : Context) → AreFine names (k c) → IsBarred (k c) → ⊥) → After e k → n.inner.arguments ≡ n.wanted
  bare_count n k e next none after =
      same_count n.inner.arguments n.wanted (unwanted _ n.spot (sym next ∙ next_none e.next (k after.context) after.expected (none after.context after.fine)))

  fits_when : (n : s.Named) (u : Scope) → s.misfits n u ≡ [] → u.arguments ≡ n.wanted
  fits_when n u e = same_count u.arguments n.wanted (nor (u.arguments == n.wanted) (untold _ _ e))

  counted_by : (n : s.Named) (u : Scope) → s.at_bar n u ≡ [] → s.at_code n u ≡ [] → u.arguments ≡ n.wanted
  counted_by n u e f = by (n.wanted == 0) e (front_empty _ _ (front_of f))
    where
      front_of : s.at_code n u ≡ [] → (if n.wanted == 0 then s.misfits n u else []) ++ when (not u.plain) (here kind.BadSyntax) ≡ []
      front_of f = front_empty _ (late_locals u) f

      by : (b : Bool) → (if b then [] else s.misfits n u) ≡ [] → (if b then s.misfits n u else []) ≡ [] → u.arguments ≡ n.wanted
      by true e f = fits_when n u f
      by false e f = fits_when n u e

  let_be_method : (es : List Frame) (a w : ℕ) → a ≡ w → (rest : List Item) → Keeps names 0 es (Some w) rest → Keeps names 0 es (Some a) rest
  let_be_method es a w e rest h = subst (λ x. Keeps names 0 es (Some x) rest) (sym e) h

  -- Slots and what fills them.
  mutual
    datum_owes : {m : ℕ} {es : List Frame} {z : Option ℕ} (d : g.Datum) (o : Owner) (k : Writer) → Owes m 0 es None k → Owes m 0 es z (s.datum l o d k)
    datum_owes (g.simple d) o k owes = simple_owes d k owes
    datum_owes (g.object x) o k owes = object_owes x o k owes

    object_owes : {m : ℕ} {es : List Frame} {z : Option ℕ} (x : g.Object) (o : Owner) (k : Writer) → Owes m 0 es None k → Owes m 0 es z (s.object l o x k)
    object_owes (g.empty_object p q) o k owes =
        opens false symbol.OpenParen p (record (s.opening_item p) { next = None }) p _ refl refl refl (λ after d. closes_object 0 [] symbol.CloseParen q (v'.empty_object_end p) k refl refl refl refl d owes)
    object_owes (g.slotted_object p b ss b2 q) o k owes =
        opens false symbol.OpenParen p (record (s.opening_item p) { next = None }) p _ refl refl refl
        (λ after d. light symbol.Bar b quiet _ refl refl refl (λ of. tt)
        (slots_owes false 0 ss _ (λ a ns u h. light symbol.Bar b2 quiet _ refl refl refl (λ of. tt) (closes_object a ns symbol.CloseParen q (v'.object_end p u) k refl refl refl refl d owes)) 0 [] (scope o) (has_first o)))

    method_owes : {m : ℕ} {es : List Frame} {z : Option ℕ} (v : ℕ) (x : g.Method) (n : s.Named) (k : Writer) → Has v [] n.inner → Owes m 0 es (Some n.wanted) k → Owes m v es z (s.method l n x k)
    method_owes v (g.bare_method p b q) n k has owes =
        opens false symbol.OpenParen p (record (s.opening_item p) { next = s.wants_bar n }) p _ refl refl refl
        (λ after d. entering_owes _ (code_owes b _ (ending_owes v v false [] (Some n.wanted) (g.full b) symbol.CloseParen q k d
        (let_be_method _ v n.wanted (sym has.arguments ∙ bare_count n _ (record (s.opening_item p) { next = s.wants_bar n }) refl (λ c h. (code_opens l names b _ (record c { pending = 0; nodes = 0; around = record { pending = c.pending; nodes = c.nodes } ∷ c.around }) h).bare) after)) owes)))
    method_owes {m} {es} v (g.slotted_method p b ss b2 x q) n k has owes =
        opens false symbol.OpenParen p (record (s.opening_item p) { next = s.wants_bar n }) p _ refl refl refl
        (λ after d. light symbol.Bar b quiet _ refl refl refl (λ of. tt)
        (slots_owes false v ss _
        (λ a ns u h. marked symbol.Bar b2 (record quiet { broken = s.at_bar n u }) _ refl refl refl (λ of. tt)
        (λ un of. entering_owes _
        (telling_owes (s.at_code n u) _ (code_opens l names x _)
        (λ told. code_owes x _ (ending_owes v a false ns (Some n.wanted) (g.full x) symbol.CloseParen q k d (let_be_method _ a n.wanted (sym h.arguments ∙ counted_by n u un told)) owes)))))
        v [] n.inner has))

    method_slot_owes : {m : ℕ} {es : List Frame} (b : Bool) (v : ℕ) (x : g.MethodSlot) (k : s.Listing) → Lists b v m es k → Lists b v m es (s.method_slot l x (λ t. placing (s.method_items x) (k t)))
    method_slot_owes {m} {es} b v (g.method h e x) k owes a ns u has =
        head_owes a ns h _
        (λ n w headed t r. light (symbol.Operator e.name Equals) e.spot (record quiet { broken = n.broken }) _ refl refl refl (λ of. tt)
        (method_owes w x n _ r
        (placing_slot v a b ns es (s.head_words h) form.Method (s.head_spot h) (k (not_plain n.around)) (headed.named, ap Some (sym headed.arity))
        (owes a (added (s.head_words h) ns) (not_plain n.around) (has_plain a (added (s.head_words h) ns) n.around t))))) u has

    member_owes : {m : ℕ} {es : List Frame} (b : Bool) (v : ℕ) (x : g.Member) (k : s.Listing) → Lists b v m es k → Lists b v m es (s.member l x (λ t. placing (s.member_items x) (k t)))
    member_owes {m} {es} b v (g.constant x e d) k owes a ns u h =
        slot_name_owes a ns x _
        (λ plain y t. light (symbol.Operator e.name Equals) e.spot quiet _ refl refl refl (λ of. tt)
        (datum_owes d either _ (placing_slot v a b ns es (One x.name) form.Constant x.spot (k (s.holding d y)) (plain_named names x.name x.setter plain)
        (let j = owns_holding a ns x.name y d t in owes a (x.name ∷ ns) (s.holding d y) (has_more a ns x.name (s.holding d y) j.known j.own))))) u h
    member_owes {m} {es} b v (g.assignable x w d) k owes a ns u h =
        slot_name_owes a ns x _
        (λ plain. arrow_owes a ns x w _
        (λ y t. datum_owes d holder _ (placing_slot v a b ns es (One x.name) (form.Assignable x.setter) x.spot (k (s.holding d y)) (plain_named names x.name x.setter plain, (plain, t.new))
        (let j = owns_holding a ns x.name y d t in owes a (x.name ∷ ns) (s.holding d y) (has_more a ns x.name (s.holding d y) j.known j.own))))) u h
    member_owes {m} {es} b v (g.bare x) k owes a ns u h =
        slot_name_owes a ns x _ (λ plain. no_arrow_owes a ns x _ (λ y t. placing_slot v a b ns es (One x.name) (form.Bare x.setter) x.spot (k y) (plain_named names x.name x.setter plain, (plain, t.new)) (owes a (x.name ∷ ns) y (has_more a ns x.name y t.known t.own)))) u h
    member_owes {m} {es} b v (g.parent x w e d) k owes a ns u h =
        slot_name_owes a ns x _
        (λ plain y t. light (symbol.Operator w.name Star) w.spot quiet _ refl refl refl (λ of. tt)
        (light (symbol.Operator e.name Equals) e.spot quiet _ refl refl refl (λ of. tt)
        (datum_owes d holder _ (placing_slot v a b ns es (One x.name) form.Parent x.spot (k (not_plain y)) (plain_named names x.name x.setter plain)
        (let j = owns_plain a ns x.name y t in owes a (x.name ∷ ns) (not_plain y) (has_more a ns x.name (not_plain y) j.known j.own)))))) u h
    member_owes b v (g.coded x) k owes a ns u h = method_slot_owes b v x k owes a ns u h

    slot_owes : {m : ℕ} {es : List Frame} (b : Bool) (v : ℕ) (x : g.Slot) (k : s.Listing) → Lists b v m es k → Lists b v m es (s.slot l x (λ t. placing (s.slot_items x) (k t)))
    slot_owes b v (g.member x) k owes a ns u h = member_owes b v x k owes a ns u h
    slot_owes b v (g.argument x) k owes a ns u h = argument_owes v a b ns x _ (λ y t. placing_none (k y) (owes (a + 1) ns y t)) u h

    slots_before_owes : {m : ℕ} {es : List Frame} (b : Bool) (v : ℕ) (ss : g.SlotsBefore) (k : s.Listing) → Lists b v m es k → Lists b v m es (s.slots_before l ss k)
    slots_before_owes b v g.no_slots k owes = owes
    slots_before_owes b v (g.more_slots ss x p) k owes =
        slots_before_owes b v ss _ (slot_owes b v x (λ z. write l symbol.Period p quiet (k z)) (λ a ns z t. period_owes p _ (owes a ns z t)))

    slots_owes : {m : ℕ} {es : List Frame} (b : Bool) (v : ℕ) (ss : g.Slots) (k : s.Listing) → Lists b v m es k → Lists b v m es (s.slots l ss k)
    slots_owes b v (g.slots_ended ss) k owes = slots_before_owes b v ss k owes
    slots_owes b v (g.slots_last ss x) k owes = slots_before_owes b v ss _ (slot_owes b v x k owes)

  members_before_owes : {m : ℕ} {es : List Frame} (b : Bool) (v : ℕ) (ms : g.MembersBefore) (k : s.Listing) → Lists b v m es k → Lists b v m es (s.members_before l ms k)
  members_before_owes b v g.no_members k owes = owes
  members_before_owes b v (g.more_members ms x p) k owes =
      members_before_owes b v ms _ (member_owes b v x (λ z. write l symbol.Period p quiet (k z)) (λ a ns z t. period_owes p _ (owes a ns z t)))

  -- The end of a world.
  finish_owes : (p : Spot) → Lists false 0 0 [] (λ u. s.finish l p)
  finish_owes p a ns u h =
      sign 0 0 (frame 0 a false ns ∷ []) None 0 0 (frame 0 a false ns ∷ []) None symbol.End p quiet (λ c. []) refl
      (λ un o of after d. record { deep = d; says = λ rest k. k; owes = λ c ds y st sound. record { keeps = none_said (frame 0 a false ns) c ds y st } })
    where
      none_said : (e : Frame) (c : Context) (ds : List Frame) (y : Option ℕ) → Stands names 0 0 (e ∷ []) None c ds y → Keeps names 0 ds y []
      none_said e c ds y st = only_one (e ∷ []) c.ready ds y tt st.leads
        where
          one_slotted : (w : Words) (ds : List Frame) → IsOne (slotted w ds) → IsOne ds
          one_slotted w [] h = h
          one_slotted w (x ∷ []) h = tt
          one_slotted w (x ∷ y ∷ ds) h = h

          only_one : (es : List Frame) (is : List Item) (ds : List Frame) (y : Option ℕ) → IsOne es → Leads names ds y is es None → IsOne ds
          only_one es [] ds y one h = subst IsOne (sym h.0) one
          only_one es (items.Slot w f p ∷ is) ds y one h = one_slotted w ds (only_one es is (slotted w ds) None one h.1)
          only_one es (items.Node m ∷ is) ds y one h = absurd h
          only_one es (items.Opened p ∷ is) ds y one h = absurd h
          only_one es (items.ClosedObject ∷ is) ds y one h = absurd h
          only_one es (items.ClosedBody ∷ is) ds y one h = absurd h
          only_one es (items.Integer j ∷ is) ds y one h = absurd h
          only_one es (items.Text i j ∷ is) ds y one h = absurd h
          only_one es (items.Root x p ∷ is) ds y one h = absurd h
          only_one es (items.Further x p ∷ is) ds y one h = absurd h
          only_one es (items.Argument x ∷ is) ds y one h = absurd h
          only_one es (items.Named x ∷ is) ds y one h = absurd h

  at_first_stands : Stands names 0 0 (frame 0 0 false [] ∷ []) None (s.at_first 1) (frame 0 0 false [] ∷ []) None
  at_first_stands = record { nesting = refl; deep = record { most = omega arith; some = tt }; leads = (refl, refl); due = tt }

  world_owes : (x : g.World) → AreFine names (s.world l x) → Keeps names 0 (frame 0 0 false [] ∷ []) None (items_of (s.world l x))
  world_owes (g.world_ended ms p) sound = (members_before_owes false 0 ms _ (finish_owes p) 0 [] (scope holder) (has_first holder) (s.at_first 1) (frame 0 0 false [] ∷ []) None at_first_stands sound).keeps
  world_owes (g.world_last ms x p) sound =
      (members_before_owes false 0 ms _ (member_owes false 0 x (λ u. s.finish l p) (finish_owes p)) 0 [] (scope holder) (has_first holder) (s.at_first 1) (frame 0 0 false [] ∷ []) None at_first_stands sound).keeps

  edit_owes : (x : g.Edit) → AreFine names (s.edit l x) → Keeps names 0 (frame 0 0 false [] ∷ []) None (items_of (s.edit l x))
  edit_owes (g.edit m q p) sound =
      (method_slot_owes false 0 m (λ u. s.stopped l q (s.finish l p)) (λ a ns u h. stopped_owes q _ (finish_owes p a ns u h)) 0 [] (scope holder) (has_first holder) (s.at_first 0) (frame 0 0 false [] ∷ []) None
      (record { nesting = refl; deep = record { most = omega arith; some = tt }; leads = (refl, refl); due = tt }) sound).keeps

-- The items of a text with nothing wrong are right.
pub world_orders : (l : Limits) (names : List (List ℕ)) (given : List Sign) (x : g.World) → l.nesting ≤ 64 → IsText (s.world l) given x → OfSigns names given →
    Keeps names 0 (frame 0 0 false [] ∷ []) None (items_of (s.world l x))
world_orders l names given x ln h of = world_owes l ln names x (are_fine names (s.world l x) h.1 (subst (λ xs. OfSigns names xs) (sym h.0) of))

pub edit_orders : (l : Limits) (names : List (List ℕ)) (given : List Sign) (x : g.Edit) → l.nesting ≤ 64 → IsText (s.edit l) given x → OfSigns names given → Keeps names 0 (frame 0 0 false [] ∷ []) None (items_of (s.edit l x))
edit_orders l names given x ln h of = edit_owes l ln names x (are_fine names (s.edit l x) h.1 (subst (λ xs. OfSigns names xs) (sym h.0) of))
