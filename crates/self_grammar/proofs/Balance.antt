-- The bodies of a text with nothing wrong are balanced.
use Rattle.std.specs.Prelude.{◌≡◌, ℕ, ◌+◌, ◌-◌, ◌≤◌, nat_le, ℤ, Bool, true, false, not, ◌&&◌, if◌then◌else◌, Option, None, Some, List, [], ◌∷◌, ◌++◌, length, map, refl}
use Rattle.std.proofs.Common.{ap, sym, subst, ◌∙◌, arith, append_assoc}
use Rattle.std.proofs.lemmas.Grind.{common_steps}
use Rattle.std.proofs.lemmas.List.{append-nil}
use Rattle.self_grammar.specs.declared.signs.Spot.{Spot}
use Rattle.self_grammar.specs.declared.signs.Role.TheVariants.{Equals, Star}
use Rattle.self_grammar.specs.declared.signs.Symbol.{Symbol}
use Rattle.self_grammar.specs.declared.signs.Symbol.TheVariants as sign
use Rattle.self_grammar.specs.declared.signs.Sign.{Sign}
use Rattle.self_grammar.specs.declared.signs.ReadRefusal.{ReadRefusal}
use Rattle.self_grammar.specs.declared.signs.Role.{Role}
use Rattle.self_grammar.specs.declared.pieces.Words.{Words}
use Rattle.self_grammar.specs.declared.pieces.Words.TheVariants as words
use Rattle.self_grammar.specs.declared.pieces.Words.TheVariants.{One}
use Rattle.self_grammar.specs.declared.pieces.Target.{Target}
use Rattle.self_grammar.specs.declared.pieces.Target.TheVariants as targets
use Rattle.self_grammar.specs.declared.pieces.Target.TheVariants.{Implied}
use Rattle.self_grammar.specs.Parts.{count_of, followed_by}
use Rattle.self_grammar.specs.declared.pieces.Made.{Made}
use Rattle.self_grammar.specs.declared.pieces.TextNode.{TextNode}
use Rattle.self_grammar.specs.declared.pieces.TextNode.TheVariants as nodes
use Rattle.self_grammar.specs.declared.pieces.Item.{Item}
use Rattle.self_grammar.specs.declared.pieces.Item.TheVariants as items
use Rattle.self_grammar.specs.Grammar as g
use Rattle.self_grammar.specs.Counts.{Limits, node, stated, one_if, quiet, opening, closing, makes, saying, takes, gives, Breach, Held, Context, Event, Mark, Writer, write, owing, telling, placing, entering, finishing, sooner, first_of, placed, too_pending, too_many_nodes, too_large, pending_after, breaches, items_at, mark_at, counted, resumed, moved}
use Rattle.self_grammar.specs.Scopes.{Owner, either, Scope, scope, activation, holder, again, with_local, not_plain}
use Rattle.self_grammar.specs.Spelling as s
use Rattle.self_grammar.specs.Spelling.{items_of}
use Rattle.self_grammar.specs.Refusal.{AreSound, signs, IsText}
use Rattle.self_grammar.proofs.Places.{block_opening}
use Rattle.self_grammar.proofs.SlotMoves as v'
use Rattle.self_grammar.specs.Balance.{Entry, fresh, ends, admits, behind, only_if, bound, walked, OfSymbol, OfSigns, OfNode, OfItems}

-- Lists and tests.

pub front_empty : {X : Type 0} (xs ys : List X) → xs ++ ys ≡ [] → xs ≡ []
front_empty [] ys e = refl
front_empty (x ∷ xs) ys e = cc

pub back_empty : {X : Type 0} (xs ys : List X) → xs ++ ys ≡ [] → ys ≡ []
back_empty [] ys e = e
back_empty (x ∷ xs) ys e = cc

pub none_first : (rs : List ReadRefusal) → first_of rs ≡ None → rs ≡ []
none_first [] e = refl
none_first (r ∷ rs) e = absurd (some r (first_of rs) e)
  where
    chosen : (r q : ReadRefusal) (b : Bool) → (if b then Some r else Some q) ≡ None → ⊥
    chosen r q true e = cc
    chosen r q false e = cc

    some : (r : ReadRefusal) (o : Option ReadRefusal) → sooner r o ≡ None → ⊥
    some r None e = cc
    some r (Some q) e = chosen r q _ e

pub unplaced : (p : Spot) (bs : List Breach) → map (placed p) bs ≡ [] → bs ≡ []
unplaced p [] e = refl
unplaced p (b ∷ bs) e = cc

-- what passed a test, and what was said then
pub passes : {X : Type 0} (b : Bool) (r : List X) (x : X) → (if b then r else x ∷ []) ≡ [] → (b ≡ true) × (r ≡ [])
passes true r x e = (refl, e)
passes false r x e = cc

pub both : (a b : Bool) → (a && b) ≡ true → (a ≡ true) × (b ≡ true)
both true true e = (refl, refl)
both true false e = cc
both false b e = cc

-- The nodes of a body, one after the other: whether the body is ended behind them,
abbrev ended_after : Bool → List Made → Bool
ended_after d [] = d
ended_after d (m ∷ ms) = ended_after (ends m.node) ms

-- and whether none stands behind an end, and each finds the values that it takes.
abbrev Enough : Bool → ℕ → List Made → Type 0
Enough d p [] = Unit {0}
Enough d p (m ∷ ms) = (d ≡ false) × (takes m.node ≤ p) × Enough (ends m.node) (p - takes m.node + gives m.node) ms

enough_append : (d : Bool) (p : ℕ) (ms ns : List Made) → Enough d p ms → Enough (ended_after d ms) (pending_after p ms) ns → Enough d p (ms ++ ns)
enough_append d p [] ns h k = k
enough_append d p (m ∷ ms) ns h k = (h.0, h.1, enough_append (ends m.node) (p - takes m.node + gives m.node) ms ns h.2 k)

ended_append : (d : Bool) (ms ns : List Made) → ended_after d (ms ++ ns) ≡ ended_after (ended_after d ms) ns
ended_append d [] ns = refl
ended_append d (m ∷ ms) ns = ended_append (ends m.node) ms ns

pending_append : (p : ℕ) (ms ns : List Made) → pending_after p (ms ++ ns) ≡ pending_after (pending_after p ms) ns
pending_append p [] ns = refl
pending_append p (m ∷ ms) ns = pending_append (p - takes m.node + gives m.node) ms ns

-- More pending values are enough as well.
enough_more : (d : Bool) (p q : ℕ) (ms : List Made) → p ≤ q → Enough d p ms → Enough d q ms
enough_more d p q [] le h = tt
enough_more d p q (m ∷ ms) le h =
    let first : takes m.node ≤ p = h.1 in
    (h.0, omega arith, enough_more (ends m.node) (p - takes m.node + gives m.node) (q - takes m.node + gives m.node) ms (omega arith) h.2)

pending_more : (p q : ℕ) (ms : List Made) → p ≤ q → pending_after p ms ≤ pending_after q ms
pending_more p q [] le = le
pending_more p q (m ∷ ms) le = pending_more (p - takes m.node + gives m.node) (q - takes m.node + gives m.node) ms (omega arith)

abbrev entry : ℕ → ℕ → Bool → Entry
entry p n d = record { pending = p; nodes = n; ended = d }

admitted : (l : Limits) (p n : ℕ) (d : Bool) (t : TextNode) (e : Entry) (es : List Entry) → d ≡ false → takes t ≤ p → nat_le (p - takes t + gives t) l.pending ≡ true → nat_le (n + 1) l.body ≡ true →
    only_if (admits l (entry p n d) t) (e ∷ es) ≡ Some (e ∷ es)
admitted l p n d t e es a b c f = let first : nat_le (takes t) p ≡ true = grind (arith, common_steps) in rw (a, first, c, f) refl

-- The items of nodes.
walked_nodes : (l : Limits) (p n : ℕ) (size : ℕ) (d : Bool) (es : List Entry) (ms : List Made) (rest : List Item) →
    Enough d p ms → too_pending l.pending p ms ≡ [] → too_many_nodes l n size ms ≡ [] →
    walked l (entry p n d ∷ es) (map items.Node ms ++ rest) ≡ walked l (entry (pending_after p ms) (n + length ms) (ended_after d ms) ∷ es) rest
walked_nodes l p n size d es [] rest h a b = let e : n + 0 ≡ n = omega arith in rw e refl
walked_nodes l p n size d es (m ∷ ms) rest h a b =
    let a' = passes (nat_le (p - takes m.node + gives m.node) l.pending) (too_pending l.pending (p - takes m.node + gives m.node) ms) _ a in
    let b' = passes (nat_le (n + 1) l.body && nat_le (size + 1) l.size) (too_many_nodes l (n + 1) (size + 1) ms) _ b in
    let b'' = both (nat_le (n + 1) l.body) (nat_le (size + 1) l.size) b'.0 in
    let e : n + 1 + length ms ≡ n + length (m ∷ ms) = omega arith in
    ap (λ o. bound o (λ ds. walked l ds (map items.Node ms ++ rest))) (admitted l p n d m.node (behind (entry p n d) m.node) es h.0 h.1 a'.0 b''.0)
    ∙ walked_nodes l (p - takes m.node + gives m.node) (n + 1) (size + 1) (ends m.node) es ms rest h.2 a'.1 b'.1
    ∙ ap (λ k. walked l (entry (pending_after p (m ∷ ms)) k (ended_after d (m ∷ ms)) ∷ es) rest) e

-- items that change nothing
abbrev Still : List Item → Type 0
Still is = (l : Limits) (es : List Entry) (rest : List Item) → walked l es (is ++ rest) ≡ walked l es rest

-- The integers of nodes.
abbrev OfMade : (ℤ → Type 0) → List Made → Type 0
OfMade P [] = Unit {0}
OfMade P (m ∷ ms) = OfNode P m.node × OfMade P ms

made_append : (P : ℤ → Type 0) (ms ns : List Made) → OfMade P ms → OfMade P ns → OfMade P (ms ++ ns)
made_append P [] ns h k = k
made_append P (m ∷ ms) ns h k = (h.0, made_append P ms ns h.1 k)

items_append : (P : ℤ → Type 0) (is js : List Item) → OfItems P is → OfItems P js → OfItems P (is ++ js)
items_append P [] js h k = k
items_append P (i ∷ is) js h k = (h.0, items_append P is js h.1 k)

-- Where a text stands: its counts beside the stack.

-- A body is open innermost, with these bodies around it and this under it on the stack. Behind the nodes that are due at least
-- so many values are pending, and it is ended or isn't.
pub record Agrees (P : ℤ → Type 0) (n : ℕ) (d : Bool) (hs : List Held) (es : List Entry) (c : Context) (s : List Entry) : Type 0 where
  pub early : Bool
  pub stack : s ≡ entry c.pending c.nodes early ∷ es
  pub enough : Enough early c.pending c.due
  pub ended : ended_after early c.due ≡ d
  pub least : n ≤ pending_after c.pending c.due
  pub around : c.around ≡ hs
  pub still : Still c.ready
  pub due_of : OfMade P c.due
  pub ready_of : OfItems P c.ready

-- No node is due, and the counts and the stack are these.
pub record Clear (P : ℤ → Type 0) (p n : ℕ) (hs : List Held) (t : List Entry) (c : Context) (s : List Entry) : Type 0 where
  pub stack : s ≡ t
  pub pending : c.pending ≡ p
  pub nodes : c.nodes ≡ n
  pub due : c.due ≡ []
  pub around : c.around ≡ hs
  pub still : Still c.ready
  pub ready_of : OfItems P c.ready

-- what is so of the rest of a text, before which this is the stack
pub record Walks (l : Limits) (P : ℤ → Type 0) (final s : List Entry) (ms : List Mark) : Type 0 where
  pub whole : walked l s (items_of ms) ≡ Some final
  pub ints : OfSigns P (signs ms) → OfItems P (items_of ms)

within : (l : Limits) (c : Context) (x : Symbol) (p : Spot) (e : Event) → (mark_at l c x p e).fault ≡ None →
    (too_pending l.pending c.pending (c.due ++ e.made) ≡ []) × (too_many_nodes l c.nodes c.size (c.due ++ e.made) ≡ [])
within l c x p e h =
    let all : breaches l c e ≡ [] = unplaced p (breaches l c e) (none_first (map (placed p) (breaches l c e)) h) in
    let rest = front_empty _ (too_large l (c.size + length (c.due ++ e.made)) e.counted) all in
    (back_empty _ _ (front_empty _ _ rest), back_empty _ _ rest)

moved_on : (c : Context) (e : Event) → e.leaves ≡ false → moved c e ≡ counted c e
moved_on c e h = rw h refl

moved_out : (c : Context) (e : Event) (hs : List Held) → e.leaves ≡ true → c.around ≡ hs → moved c e ≡ resumed hs (counted c e)
moved_out c e hs h a = rw (h, a) refl

-- the items of a sign in a body
said_nodes : (l : Limits) (P : ℤ → Type 0) (n : ℕ) (d : Bool) (hs : List Held) (es : List Entry) (c : Context) (s : List Entry) (x : Symbol) (p : Spot) (e : Event) (rest : List Item) →
    Agrees P n d hs es c s → Enough d n e.made → (mark_at l c x p e).fault ≡ None →
    walked l s (items_at c e ++ rest)
    ≡ walked l (entry (counted c e).pending (counted c e).nodes (ended_after d e.made) ∷ es) (e.says ++ rest)
said_nodes l P n d hs es c s x p e rest a h f =
    let w = within l c x p e f in
    let made : List Made = c.due ++ e.made in
    let more : Enough (ended_after a.early c.due) (pending_after c.pending c.due) e.made = subst (λ b. Enough b (pending_after c.pending c.due) e.made) (sym a.ended) (enough_more d n (pending_after c.pending c.due) e.made a.least h) in
    let all : Enough a.early c.pending made = enough_append a.early c.pending c.due e.made a.enough more in
    let last : ended_after a.early made ≡ ended_after d e.made = ended_append a.early c.due e.made ∙ ap (λ b. ended_after b e.made) a.ended in
    ap (λ is. walked l s is) (append_assoc (c.ready ++ map items.Node made) e.says rest ∙ append_assoc c.ready (map items.Node made) (e.says ++ rest))
    ∙ a.still l s (map items.Node made ++ (e.says ++ rest))
    ∙ ap (λ t. walked l t (map items.Node made ++ (e.says ++ rest))) a.stack
    ∙ walked_nodes l c.pending c.nodes c.size a.early es made (e.says ++ rest) all w.0 w.1
    ∙ ap (λ b. walked l (entry (pending_after c.pending made) (c.nodes + length made) b ∷ es) (e.says ++ rest)) last

nodes_of : (P : ℤ → Type 0) (ms : List Made) → OfMade P ms → OfItems P (map items.Node ms)
nodes_of P [] h = tt
nodes_of P (m ∷ ms) h = (h.0, nodes_of P ms h.1)

said_of : (P : ℤ → Type 0) (c : Context) (e : Event) → OfItems P c.ready → OfMade P c.due → OfMade P e.made → OfItems P e.says →
    OfItems P (items_at c e)
said_of P c e a b h k =
    items_append P (c.ready ++ map items.Node (c.due ++ e.made)) e.says
    (items_append P c.ready (map items.Node (c.due ++ e.made)) a (nodes_of P (c.due ++ e.made) (made_append P c.due e.made b h))) k

-- What the parts of code pend.

-- a node that takes at most so many values and pends one
record Fits (P : ℤ → Type 0) (t : TextNode) (v : ℕ) : Type 0 where
  taken : takes t ≤ v
  given : gives t ≡ 1
  on : ends t ≡ false
  of : OfNode P t

unstated : (d : g.Delegate) → stated (s.delegate_target d) ≡ 0
unstated (g.to_all w) = refl
unstated (g.to_parent w) = refl

-- the values of the first operands
abbrev held : g.Operands → ℕ
held (g.first u p) = 1
held (g.delegated d p) = 0
held (g.next us u p) = 1

operator_fits : (P : ℤ → Type 0) (o : ℕ) (us : g.Operands) → Fits P (s.operator_node o us).node (held us + 1)
operator_fits P o (g.first u p) = record { taken = omega arith; given = refl; on = refl; of = tt }
operator_fits P o (g.delegated d p) = let none : stated (s.delegate_target d) ≡ 0 = unstated d in record { taken = omega arith; given = refl; on = refl; of = tt }
operator_fits P o (g.next us u p) = record { taken = omega arith; given = refl; on = refl; of = tt }

-- the values of a receiver and of all arguments but the last
abbrev values : g.Message → ℕ
values (g.opened r o) = stated (s.receiver_target r)
values (g.redirected d w) = 0
values (g.further m b q) = values m + 1

one_part_more : (w : Words) (p : ℕ) → count_of (followed_by w p) ≤ count_of w + 1
one_part_more (words.One a) p = omega arith
one_part_more (words.Two a b) p = omega arith
one_part_more (words.Three a b c) p = omega arith
one_part_more (words.Four a b c d) p = omega arith
one_part_more (words.Five a b c d e) p = omega arith

parts_valued : (m : g.Message) → s.parts m + stated (s.message_target m) ≤ values m + 1
parts_valued (g.opened r o) = omega arith
parts_valued (g.redirected d w) = let none : stated (s.delegate_target d) ≡ 0 = unstated d in omega arith
parts_valued (g.further m b q) =
    let before : count_of (s.message_words m) + stated (s.message_target m) ≤ values m + 1 = parts_valued m in
    let more : count_of (followed_by (s.message_words m) q.word.name) ≤ count_of (s.message_words m) + 1 = one_part_more (s.message_words m) q.word.name in
    omega arith

stated_once : (to : Target) → one_if (not (s.is_implied to)) ≡ stated to
stated_once targets.Given = refl
stated_once targets.Implied = refl
stated_once targets.Parents = refl
stated_once (targets.Parent p) = refl

primitive_fits : (P : ℤ → Type 0) (to : Target) (w : Words) (base : Option ℕ) (handled : Bool) → Fits P (s.primitive_node to w (count_of w) base handled) (count_of w + stated to)
primitive_fits P to (words.One a) None handled = let e = stated_once to in record { taken = omega arith; given = refl; on = refl; of = tt }
primitive_fits P to (words.One a) (Some b) handled = let e = stated_once to in record { taken = omega arith; given = refl; on = refl; of = tt }
primitive_fits P to (words.Two a b) base true = let e = stated_once to in record { taken = omega arith; given = refl; on = refl; of = tt }
primitive_fits P to (words.Two a b) base false = let e = stated_once to in record { taken = omega arith; given = refl; on = refl; of = tt }
primitive_fits P to (words.Three a b c) base true = let e = stated_once to in record { taken = omega arith; given = refl; on = refl; of = tt }
primitive_fits P to (words.Three a b c) base false = let e = stated_once to in record { taken = omega arith; given = refl; on = refl; of = tt }
primitive_fits P to (words.Four a b c d) base true = let e = stated_once to in record { taken = omega arith; given = refl; on = refl; of = tt }
primitive_fits P to (words.Four a b c d) base false = let e = stated_once to in record { taken = omega arith; given = refl; on = refl; of = tt }
primitive_fits P to (words.Five a b c d f) base true = let e = stated_once to in record { taken = omega arith; given = refl; on = refl; of = tt }
primitive_fits P to (words.Five a b c d f) base false = let e = stated_once to in record { taken = omega arith; given = refl; on = refl; of = tt }

keyword_fits : (P : ℤ → Type 0) (to : Target) (w : Words) (base : Option (Option ℕ)) (handled : Bool) → Fits P (s.keyword_node to w (count_of w) base handled) (count_of w + stated to)
keyword_fits P to w None handled = record { taken = omega arith; given = refl; on = refl; of = tt }
keyword_fits P to w (Some base) handled = primitive_fits P to w base handled

message_fits : (P : ℤ → Type 0) (m : g.Message) → Fits P (s.message_node m).node (values m + 1)
message_fits P m =
    let f = keyword_fits P (s.message_target m) (s.message_words m) (s.message_base m) (s.ends_handled m) in
    let le : takes (s.keyword_node (s.message_target m) (s.message_words m) (s.parts m) (s.message_base m) (s.ends_handled m)) ≤ s.parts m + stated (s.message_target m) = f.taken in
    let all : s.parts m + stated (s.message_target m) ≤ values m + 1 = parts_valued m in
    record { taken = omega arith; given = f.given; on = f.on; of = f.of }

-- what a body pends where it closes, and whether it is ended then
abbrev left : g.Body → ℕ
left g.empty = 0
left (g.full (g.code ss None e q)) = 1
left (g.full (g.code ss (Some r) e q)) = 0

abbrev done : g.Body → Bool
done g.empty = false
done (g.full (g.code ss None e q)) = false
done (g.full (g.code ss (Some r) e q)) = true

-- The items of slots change nothing.
local_still : (x : g.Local) → Still (s.local_items x)
local_still (g.local_argument w) l es rest = refl
local_still (g.local_bare w) l es rest = refl
local_still (g.local_assignable w a d) l es rest = refl
local_still (g.local_constant w e d) l es rest = refl

local_of : (P : ℤ → Type 0) (x : g.Local) → OfItems P (s.local_items x)
local_of P (g.local_argument w) = tt
local_of P (g.local_bare w) = (tt, tt)
local_of P (g.local_assignable w a d) = (tt, tt)
local_of P (g.local_constant w e d) = (tt, tt)

method_still : (m : g.MethodSlot) → Still (s.method_items m)
method_still (g.method h e m) l es rest = refl

method_of : (P : ℤ → Type 0) (m : g.MethodSlot) → OfItems P (s.method_items m)
method_of P (g.method h e m) = (tt, tt)

member_still : (m : g.Member) → Still (s.member_items m)
member_still (g.constant w e d) l es rest = refl
member_still (g.assignable w a d) l es rest = refl
member_still (g.bare w) l es rest = refl
member_still (g.parent w x e d) l es rest = refl
member_still (g.coded m) l es rest = method_still m l es rest

member_of : (P : ℤ → Type 0) (m : g.Member) → OfItems P (s.member_items m)
member_of P (g.constant w e d) = (tt, tt)
member_of P (g.assignable w a d) = (tt, tt)
member_of P (g.bare w) = (tt, tt)
member_of P (g.parent w x e d) = (tt, tt)
member_of P (g.coded m) = method_of P m

slot_still : (x : g.Slot) → Still (s.slot_items x)
slot_still (g.member m) l es rest = member_still m l es rest
slot_still (g.argument w) l es rest = refl

slot_of : (P : ℤ → Type 0) (x : g.Slot) → OfItems P (s.slot_items x)
slot_of P (g.member m) = member_of P m
slot_of P (g.argument w) = tt

module _ (l : Limits) (P : ℤ → Type 0) (final : List Entry) where
  -- From each such place what follows is walked to the end.
  abbrev Good : (Context → List Entry → Type 0) → Writer → Type 0
  Good Q k = (c : Context) (s : List Entry) → Q c s → AreSound (k c) → Walks l P final s (k c)

  mark_good : (c : Context) (s t : List Entry) (x : Symbol) (p : Spot) (e : Event) (k : Writer) →
      ((rest : List Item) → walked l s (items_at c e ++ rest) ≡ walked l t rest) →
      (OfSymbol P x → OfItems P (items_at c e)) → Walks l P final t (k (moved c e)) → Walks l P final s (write l x p e k c)
  mark_good c s t x p e k steps of after = record {
    whole = steps (items_of (k (moved c e))) ∙ after.whole;
    ints = λ h. items_append P (items_at c e) (items_of (k (moved c e))) (of h.0) (after.ints h.1);
  }

  -- A sign in a body, and what its nodes do;
  write_code : (n n' : ℕ) (d d' : Bool) (hs : List Held) (es : List Entry) (x : Symbol) (p : Spot) (e : Event) (k : Writer) →
      e.leaves ≡ false → e.says ≡ [] → Enough d n e.made → n' ≤ pending_after n e.made → ended_after d e.made ≡ d' →
      (OfSymbol P x → OfMade P e.made) → Good (Agrees P n' d' hs es) k → Good (Agrees P n d hs es) (write l x p e k)
  write_code n n' d d' hs es x p e k stays says h more last of good c s a sound =
      let t : List Entry = entry (counted c e).pending (counted c e).nodes (ended_after d e.made) ∷ es in
      let high : pending_after n e.made ≤ pending_after (pending_after c.pending c.due) e.made = pending_more n (pending_after c.pending c.due) e.made a.least in
      let same : pending_after c.pending (c.due ++ e.made) ≡ pending_after (pending_after c.pending c.due) e.made = pending_append c.pending c.due e.made in
      let now : Agrees P n' d' hs es (counted c e) t = record {
        early = ended_after d e.made;
        stack = refl;
        enough = tt;
        ended = last;
        least = omega arith;
        around = a.around;
        still = λ l es rest. refl;
        due_of = tt;
        ready_of = tt;
      } in
      mark_good c s t x p e k
      (λ rest. said_nodes l P n d hs es c s x p e rest a h sound.0 ∙ ap (λ is. walked l t (is ++ rest)) says)
      (λ o. said_of P c e a.ready_of a.due_of (of o) (subst (λ is. OfItems P is) (sym says) tt))
      (good (moved c e) t (subst (λ y. Agrees P n' d' hs es y t) (sym (moved_on c e stays)) now) sound.2)

  -- one with which something opens;
  write_opening : (n n' : ℕ) (hs : List Held) (es : List Entry) (x : Symbol) (p q : Spot) (e : Event) (k : Writer) →
      e.leaves ≡ false → e.says ≡ items.Opened q ∷ [] → Enough false n e.made → n' ≤ pending_after n e.made → ended_after false e.made ≡ false →
      (OfSymbol P x → OfMade P e.made) → ((v w : ℕ) → n' ≤ v → Good (Clear P v w hs (fresh ∷ entry v w false ∷ es)) k) → Good (Agrees P n false hs es) (write l x p e k)
  write_opening n n' hs es x p q e k stays says h more last of good c s a sound =
      let v : ℕ = (counted c e).pending in
      let w : ℕ = (counted c e).nodes in
      let t : List Entry = fresh ∷ entry v w false ∷ es in
      let high : pending_after n e.made ≤ pending_after (pending_after c.pending c.due) e.made = pending_more n (pending_after c.pending c.due) e.made a.least in
      let same : pending_after c.pending (c.due ++ e.made) ≡ pending_after (pending_after c.pending c.due) e.made = pending_append c.pending c.due e.made in
      let now : Clear P v w hs t (counted c e) t = record { stack = refl; pending = refl; nodes = refl; due = refl; around = a.around; still = λ l es rest. refl; ready_of = tt } in
      mark_good c s t x p e k
      (λ rest. said_nodes l P n false hs es c s x p e rest a h sound.0 ∙ ap (λ is. walked l (entry v w (ended_after false e.made) ∷ es) (is ++ rest)) says ∙ ap (λ b. walked l (fresh ∷ entry v w b ∷ es) rest) last)
      (λ o. said_of P c e a.ready_of a.due_of (of o) (subst (λ is. OfItems P is) (sym says) (tt, tt)))
      (good v w (omega arith) (moved c e) t (subst (λ y. Clear P v w hs t y t) (sym (moved_on c e stays)) now) sound.2)

  -- one with which the body closes;
  write_closing : (n : ℕ) (d : Bool) (i : Held) (hs : List Held) (es : List Entry) (x : Symbol) (p : Spot) (e : Event) (k : Writer) →
      e.leaves ≡ true → e.says ≡ items.ClosedBody ∷ [] → Enough d n e.made → ended_after d e.made ≡ true →
      (OfSymbol P x → OfMade P e.made) → Good (Clear P i.pending i.nodes hs es) k → Good (Agrees P n d (i ∷ hs) es) (write l x p e k)
  write_closing n d i hs es x p e k leaves says h last of good c s a sound =
      let v : ℕ = (counted c e).pending in
      let w : ℕ = (counted c e).nodes in
      let now : Clear P i.pending i.nodes hs es (resumed (i ∷ hs) (counted c e)) es = record { stack = refl; pending = refl; nodes = refl; due = refl; around = refl; still = λ l es rest. refl; ready_of = tt } in
      mark_good c s es x p e k
      (λ rest. said_nodes l P n d (i ∷ hs) es c s x p e rest a h sound.0 ∙ ap (λ is. walked l (entry v w (ended_after d e.made) ∷ es) (is ++ rest)) says
      ∙ ap (λ b. walked l (entry v w b ∷ es) (items.ClosedBody ∷ rest)) last)
      (λ o. said_of P c e a.ready_of a.due_of (of o) (subst (λ is. OfItems P is) (sym says) (tt, tt)))
      (good (moved c e) es (subst (λ y. Clear P i.pending i.nodes hs es y es) (sym (moved_out c e (i ∷ hs) leaves a.around)) now) sound.2)

  -- and one outside of code.
  write_clear : (v w : ℕ) (hs : List Held) (t t' : List Entry) (x : Symbol) (p : Spot) (e : Event) (k : Writer) →
      e.leaves ≡ false → e.made ≡ [] → ((rest : List Item) → walked l t (e.says ++ rest) ≡ walked l t' rest) → OfItems P e.says →
      Good (Clear P v w hs t') k → Good (Clear P v w hs t) (write l x p e k)
  write_clear v w hs t t' x p e k stays made says of good c s a sound =
      let none : c.due ++ e.made ≡ [] = rw (a.due, made) refl in
      let now : Clear P v w hs t' (counted c e) t' = record {
        stack = refl;
        pending = ap (λ ms. pending_after c.pending ms) none ∙ a.pending;
        nodes = ap (λ ms. c.nodes + length ms) none ∙ (let z : c.nodes + 0 ≡ c.nodes = omega arith in z) ∙ a.nodes;
        due = refl;
        around = a.around;
        still = λ l es rest. refl;
        ready_of = tt;
      } in
      mark_good c s t' x p e k
      (λ rest. ap (λ ms. walked l s (c.ready ++ map items.Node ms ++ e.says ++ rest)) none
      ∙ ap (λ is. walked l s is) (ap (λ is. is ++ e.says ++ rest) (append-nil c.ready) ∙ append_assoc c.ready e.says rest) ∙ a.still l s (e.says ++ rest) ∙ ap (λ u. walked l u (e.says ++ rest)) a.stack ∙ says rest)
      (λ o. said_of P c e a.ready_of (subst (λ ms. OfMade P ms) (sym a.due) tt) (subst (λ ms. OfMade P ms) (sym made) tt) of)
      (good (moved c e) t' (subst (λ y. Clear P v w hs t' y t') (sym (moved_on c e stays)) now) sound.2)

  -- What is said between signs.
  owing_good : (n n' : ℕ) (hs : List Held) (es : List Entry) (m : Made) (k : Writer) → takes m.node ≤ n → n' ≤ n - takes m.node + gives m.node → OfNode P m.node →
      Good (Agrees P n' (ends m.node) hs es) k → Good (Agrees P n false hs es) (owing m k)
  owing_good n n' hs es m k le more of good c s a sound =
      let first : n ≤ pending_after c.pending c.due = a.least in
      let next : Enough (ended_after a.early c.due) (pending_after c.pending c.due) (m ∷ []) = (a.ended, (omega arith), tt) in
      let same : pending_after c.pending (c.due ++ m ∷ []) ≡ pending_after c.pending c.due - takes m.node + gives m.node = pending_append c.pending c.due (m ∷ []) in
      good (record c { due = c.due ++ m ∷ [] }) s
      (record {
        early = a.early;
        stack = a.stack;
        enough = enough_append a.early c.pending c.due (m ∷ []) a.enough next;
        ended = ended_append a.early c.due (m ∷ []);
        least = omega arith;
        around = a.around;
        still = a.still;
        due_of = made_append P c.due (m ∷ []) a.due_of (of, tt);
        ready_of = a.ready_of;
      }) sound

  finishing_good : (n : ℕ) (d : Bool) (hs : List Held) (es : List Entry) (k : Writer) → Good (Agrees P n d hs es) k → Good (Agrees P n d hs es) (finishing k)
  finishing_good n d hs es k good c s a sound =
      good (record c { nesting = c.nesting - 1 }) s
      (record { early = a.early; stack = a.stack; enough = a.enough; ended = a.ended; least = a.least; around = a.around; still = a.still; due_of = a.due_of; ready_of = a.ready_of }) sound

  telling_good : (v w : ℕ) (hs : List Held) (t : List Entry) (bs : List Breach) (k : Writer) → Good (Clear P v w hs t) k → Good (Clear P v w hs t) (telling bs k)
  telling_good v w hs t bs k good c s a sound =
      good (record c { late = c.late ++ bs }) s
      (record { stack = a.stack; pending = a.pending; nodes = a.nodes; due = a.due; around = a.around; still = a.still; ready_of = a.ready_of }) sound

  placing_good : (v w : ℕ) (hs : List Held) (t : List Entry) (is : List Item) (k : Writer) → Still is → OfItems P is → Good (Clear P v w hs t) k → Good (Clear P v w hs t) (placing is k)
  placing_good v w hs t is k calm of good c s a sound =
      good (record c { ready = c.ready ++ is }) s
      (record {
        stack = a.stack;
        pending = a.pending;
        nodes = a.nodes;
        due = a.due;
        around = a.around;
        still = λ l es rest. ap (λ js. walked l es js) (append_assoc c.ready is rest) ∙ a.still l es (is ++ rest) ∙ calm l es rest;
        ready_of = items_append P c.ready is a.ready_of of;
      }) sound

  entering_good : (v w : ℕ) (hs : List Held) (t : List Entry) (k : Writer) → Good (Clear P 0 0 (record { pending = v; nodes = w } ∷ hs) t) k → Good (Clear P v w hs t) (entering k)
  entering_good v w hs t k good c s a sound =
      let same : ◌≡◌ {A = List Held} (record { pending = c.pending; nodes = c.nodes } ∷ c.around) (record { pending = v; nodes = w } ∷ hs) = rw (a.pending, a.nodes, a.around) refl in
      good (record c { pending = 0; nodes = 0; around = record { pending = c.pending; nodes = c.nodes } ∷ c.around }) s
      (record { stack = a.stack; pending = refl; nodes = refl; due = a.due; around = same; still = a.still; ready_of = a.ready_of }) sound

  -- Code begins.
  begins : (n v w : ℕ) (hs : List Held) (es : List Entry) (k : Writer) → n ≤ v → Good (Agrees P n false hs es) k → Good (Clear P v w hs (entry v w false ∷ es)) k
  begins n v w hs es k le good c s a sound =
      good c s
      (record {
        early = false;
        stack = a.stack ∙ ap (λ p. entry p w false ∷ es) (sym a.pending) ∙ ap (λ m. entry c.pending m false ∷ es) (sym a.nodes);
        enough = subst (λ ms. Enough false c.pending ms) (sym a.due) tt;
        ended = ap (λ ms. ended_after false ms) a.due;
        least = subst (λ ms. n ≤ pending_after c.pending ms) (sym a.due) (rw a.pending le);
        around = a.around;
        still = a.still;
        due_of = subst (λ ms. OfMade P ms) (sym a.due) tt;
        ready_of = a.ready_of;
      }) sound

  -- The forms in which code is said.
  weaker : (n n' : ℕ) (d : Bool) (hs : List Held) (es : List Entry) (k : Writer) → n' ≤ n → Good (Agrees P n' d hs es) k → Good (Agrees P n d hs es) k
  weaker n n' d hs es k le good c s a sound =
      let first : n ≤ pending_after c.pending c.due = a.least in
      good c s
      (record { early = a.early; stack = a.stack; enough = a.enough; ended = a.ended; least = omega arith; around = a.around; still = a.still; due_of = a.due_of; ready_of = a.ready_of }) sound

  -- a sign that makes no node,
  same_code : (n : ℕ) (d : Bool) (hs : List Held) (es : List Entry) (x : Symbol) (p : Spot) (e : Event) (k : Writer) → e.leaves ≡ false → e.says ≡ [] → e.made ≡ [] →
      Good (Agrees P n d hs es) k → Good (Agrees P n d hs es) (write l x p e k)
  same_code n d hs es x p e k stays says made good =
      let le : n ≤ n = omega arith in
      write_code n n d d hs es x p e k stays says (rw made tt) (rw made le) (ap (λ ms. ended_after d ms) made) (λ o. rw made tt) good

  -- one that makes one,
  make_code : (n n' : ℕ) (hs : List Held) (es : List Entry) (x : Symbol) (p q : Spot) (t : TextNode) (k : Writer) → takes t ≤ n → n' ≤ n - takes t + gives t → ends t ≡ false →
      (OfSymbol P x → OfNode P t) → Good (Agrees P n' false hs es) k → Good (Agrees P n false hs es) (write l x p (makes q t) k)
  make_code n n' hs es x p q t k le more on of good = write_code n n' false false hs es x p (makes q t) k refl refl (refl, le, tt) more on (λ o. (of o, tt)) good

  -- and a node that the next sign makes.
  owes : (n n' : ℕ) (hs : List Held) (es : List Entry) (m : Made) (v : ℕ) (k : Writer) → Fits P m.node v → v ≤ n → n' ≤ n - v + 1 →
      Good (Agrees P n' false hs es) k → Good (Agrees P n false hs es) (owing m k)
  owes n n' hs es m v k f le more good =
      let taken : takes m.node ≤ v = f.taken in
      let given : gives m.node ≡ 1 = f.given in
      owing_good n n' hs es m k (omega arith) (omega arith) f.of (subst (λ d. Good (Agrees P n' d hs es) k) (sym f.on) good)

  stopped_good : (o : Option Spot) (n : ℕ) (d : Bool) (hs : List Held) (es : List Entry) (k : Writer) → Good (Agrees P n d hs es) k → Good (Agrees P n d hs es) (s.stopped l o k)
  stopped_good None n d hs es k good = good
  stopped_good (Some p) n d hs es k good = same_code n d hs es sign.Period p quiet k refl refl refl good

  delegate_good : (x : g.Delegate) (n : ℕ) (hs : List Held) (es : List Entry) (k : Writer) → Good (Agrees P n false hs es) k → Good (Agrees P n false hs es) (s.delegate l x k)
  delegate_good x n hs es k good = same_code n false hs es (s.delegate_symbol x) (s.delegate_spot x) quiet k refl refl refl good

  ending_good : (b : g.Body) (x : Symbol) (q : Spot) (i : Held) (hs : List Held) (es : List Entry) (k : Writer) → Good (Clear P i.pending i.nodes hs es) k →
      Good (Agrees P (left b) (done b) (i ∷ hs) es) (write l x q (s.ending b q) k)
  ending_good g.empty x q i hs es k good =
      write_closing 0 false i hs es x q (s.ending g.empty q) k refl refl (refl, (omega arith), (refl, (omega arith), tt)) refl (λ o. (tt, (tt, tt))) good
  ending_good (g.full (g.code ss None e r)) x q i hs es k good =
      write_closing 1 false i hs es x q (s.ending (g.full (g.code ss None e r)) q) k refl refl (refl, (omega arith), tt) refl (λ o. (tt, tt)) good
  ending_good (g.full (g.code ss (Some r) e u)) x q i hs es k good =
      write_closing 0 true i hs es x q (s.ending (g.full (g.code ss (Some r) e u)) q) k refl refl tt refl (λ o. tt) good

  -- Outside of code.
  slot_name_good : (v w : ℕ) (hs : List Held) (t : List Entry) (x : g.Label) (k : s.Listing) → ((u : Scope) → Good (Clear P v w hs t) (k u)) → (u : Scope) → Good (Clear P v w hs t) (s.slot_name l x k u)
  slot_name_good v w hs t x k good u = write_clear v w hs t t _ _ (v'.name_event l u x) _ refl refl (λ rest. refl) tt (good _)

  argument_good : (v w : ℕ) (hs : List Held) (t : List Entry) (x : g.Label) (k : s.Listing) → ((u : Scope) → Good (Clear P v w hs t) (k u)) → (u : Scope) → Good (Clear P v w hs t) (s.argument l x k u)
  argument_good v w hs t x k good u = write_clear v w hs t t _ _ (v'.argument_event l u x) _ refl refl (λ rest. refl) (tt, tt) (good _)

  head_argument_good : (v w : ℕ) (hs : List Held) (t : List Entry) (x : g.Label) (k : s.Listing) → ((u : Scope) → Good (Clear P v w hs t) (k u)) → (u : Scope) →
      Good (Clear P v w hs t) (s.head_argument l x k u)
  head_argument_good v w hs t x k good u = write_clear v w hs t t _ _ (v'.head_argument_event l u x) _ refl refl (λ rest. refl) (tt, tt) (good _)

  plain_good : (v w : ℕ) (hs : List Held) (t : List Entry) (x : Symbol) (p : Spot) (e : Event) (k : Writer) → e.leaves ≡ false → e.made ≡ [] → e.says ≡ [] → Good (Clear P v w hs t) k →
      Good (Clear P v w hs t) (write l x p e k)
  plain_good v w hs t x p e k stays made says good = write_clear v w hs t t x p e k stays made (λ rest. ap (λ is. walked l t (is ++ rest)) says) (rw says tt) good

  no_arrow_good : (v w : ℕ) (hs : List Held) (t : List Entry) (x : g.Label) (k : s.Listing) → ((u : Scope) → Good (Clear P v w hs t) (k u)) → (u : Scope) → Good (Clear P v w hs t) (s.no_arrow x k u)
  no_arrow_good v w hs t x k good u = telling_good v w hs t _ _ (good _)

  arrow_good : (v w : ℕ) (hs : List Held) (t : List Entry) (x : g.Label) (a : g.Word) (k : s.Listing) → ((u : Scope) → Good (Clear P v w hs t) (k u)) → (u : Scope) → Good (Clear P v w hs t) (s.arrow l x a k u)
  arrow_good v w hs t x a k good u = plain_good v w hs t _ _ (record quiet { broken = again u (x.setter ∷ []) x.spot }) _ refl refl refl (good _)

  path_good : (q : g.Path) (v w : ℕ) (hs : List Held) (t : List Entry) (k : Writer) → Good (Clear P v w hs t) k → Good (Clear P v w hs t) (s.path l q k)
  path_good (g.named x) v w hs t k good = write_clear v w hs t t _ _ (saying (items.Root x.label.name x.label.spot)) k refl refl (λ rest. refl) (tt, tt) good
  path_good (g.under q x) v w hs t k good = path_good q v w hs t _ (write_clear v w hs t t _ _ (saying (items.Further x.label.name x.label.spot)) k refl refl (λ rest. refl) (tt, tt) good)

  simple_good : (x : g.Simple) (v w : ℕ) (hs : List Held) (t : List Entry) (k : Writer) → Good (Clear P v w hs t) k → Good (Clear P v w hs t) (s.simple l x k)
  simple_good (g.integer z p) v w hs t k good = write_clear v w hs t t _ _ (saying (items.Integer z)) k refl refl (λ rest. refl) (tt, tt) good
  simple_good (g.string x) v w hs t k good = write_clear v w hs t t _ _ (saying (items.Text x.start x.end)) k refl refl (λ rest. refl) (tt, tt) good
  simple_good (g.path q) v w hs t k good = path_good q v w hs t k good

  local_good : (x : g.Local) (v w : ℕ) (hs : List Held) (t : List Entry) (k : s.Listing) → ((u : Scope) → Good (Clear P v w hs t) (k u)) → (u : Scope) → Good (Clear P v w hs t) (s.local l x k u)
  local_good (g.local_argument x) v w hs t k good u = argument_good v w hs t x k good u
  local_good (g.local_bare x) v w hs t k good u = slot_name_good v w hs t x _ (no_arrow_good v w hs t x k good) u
  local_good (g.local_assignable x a d) v w hs t k good u = slot_name_good v w hs t x _ (arrow_good v w hs t x a _ (λ y. simple_good d v w hs t (k y) (good y))) u
  local_good (g.local_constant x e d) v w hs t k good u = slot_name_good v w hs t x _ (λ y. plain_good v w hs t (sign.Operator e.name Equals) e.spot quiet _ refl refl refl (simple_good d v w hs t (k y) (good y))) u

  locals_before_good : (ws : g.LocalsBefore) (v w : ℕ) (hs : List Held) (t : List Entry) (k : s.Listing) → ((u : Scope) → Good (Clear P v w hs t) (k u)) → (u : Scope) →
      Good (Clear P v w hs t) (s.locals_before l ws k u)
  locals_before_good g.no_locals v w hs t k good u = good u
  locals_before_good (g.more_locals ws x p) v w hs t k good u =
      locals_before_good ws v w hs t _
      (λ y. local_good x v w hs t _ (λ z. placing_good v w hs t (s.local_items x) _ (local_still x) (local_of P x) (plain_good v w hs t sign.Period p quiet _ refl refl refl (good z))) y) u

  locals_good : (ws : g.Locals) (v w : ℕ) (hs : List Held) (t : List Entry) (k : s.Listing) → ((u : Scope) → Good (Clear P v w hs t) (k u)) → (u : Scope) → Good (Clear P v w hs t) (s.locals l ws k u)
  locals_good (g.locals_ended ws) v w hs t k good u = locals_before_good ws v w hs t k good u
  locals_good (g.locals_last ws x) v w hs t k good u =
      locals_before_good ws v w hs t _ (λ y. local_good x v w hs t _ (λ z. placing_good v w hs t (s.local_items x) _ (local_still x) (local_of P x) (good z)) y) u

  bars_good : (bs : g.Bars) (v w : ℕ) (hs : List Held) (t : List Entry) (k : Writer) → Good (Clear P v w hs t) k → Good (Clear P v w hs t) (s.bars l bs k)
  bars_good g.absent v w hs t k good = good
  bars_good (g.present p ws q) v w hs t k good =
      plain_good v w hs t sign.Bar p quiet _ refl refl refl (locals_good ws v w hs t _ (λ u. plain_good v w hs t sign.Bar q quiet _ refl refl refl good) (scope activation))

  -- Code.
  mutual
    unary_good : (u : g.Unary) (n : ℕ) (hs : List Held) (es : List Entry) (k : Writer) → Good (Agrees P (n + 1) false hs es) k → Good (Agrees P n false hs es) (s.unary l u k)
    unary_good (g.int z p) n hs es k good = make_code n (n + 1) hs es (sign.Integer z) p p (nodes.Integer z) k (omega arith) (omega arith) refl (λ o. o) good
    unary_good (g.str x) n hs es k good = make_code n (n + 1) hs es _ _ _ (nodes.Text x.start x.end) k (omega arith) (omega arith) refl (λ o. tt) good
    unary_good (g.itself w) n hs es k good = make_code n (n + 1) hs es _ _ _ nodes.Itself k (omega arith) (omega arith) refl (λ o. tt) good
    unary_good (g.block p bs b q) n hs es k good =
        write_opening n (n + 1) hs es sign.OpenBracket p p (block_opening p) _ refl refl (refl, (omega arith), tt) (omega arith) refl (λ o. (tt, tt))
        (λ v w le. entering_good v w hs _ _
        (bars_good bs 0 0 (record { pending = v; nodes = w } ∷ hs) (fresh ∷ entry v w false ∷ es) _
        (begins 0 0 0 (record { pending = v; nodes = w } ∷ hs) (entry v w false ∷ es) _ (omega arith)
        (body_good b (record { pending = v; nodes = w } ∷ hs) (entry v w false ∷ es) _
        (ending_good b sign.CloseBracket q (record { pending = v; nodes = w }) hs (entry v w false ∷ es) k
        (begins (n + 1) v w hs es k le good))))))
    unary_good (g.group p e q) n hs es k good =
        same_code n false hs es sign.OpenParen p opening _ refl refl refl (expression_good e n hs es _ (same_code (n + 1) false hs es sign.CloseParen q closing k refl refl refl good))
    unary_good (g.name w) n hs es k good = make_code n (n + 1) hs es _ _ _ (nodes.Message Implied (One w.name) 0) k (omega arith) (omega arith) refl (λ o. tt) good
    unary_good (g.resend_name w) n hs es k good = make_code n (n + 1) hs es _ _ _ (nodes.Message Implied (One w.name) 0) k (omega arith) (omega arith) refl (λ o. tt) good
    unary_good (g.primitive w) n hs es k good = make_code n (n + 1) hs es _ _ _ (nodes.Primitive (One w.name) 0 true false) k (omega arith) (omega arith) refl (λ o. tt) good
    unary_good (g.restart p) n hs es k good = make_code n (n + 1) hs es _ _ _ nodes.Restart k (omega arith) (omega arith) refl (λ o. tt) good
    unary_good (g.resent d w) n hs es k good =
        let none : stated (s.delegate_target d) ≡ 0 = unstated d in
        delegate_good d n hs es _ (make_code n (n + 1) hs es (s.any_name w) w.label.spot (s.delegate_spot d) (nodes.Message (s.delegate_target d) (One w.label.name) 0) k (omega arith) (omega arith) refl (λ o. tt) good)
    unary_good (g.sent u w) n hs es k good =
        unary_good u n hs es _ (make_code (n + 1) (n + 1) hs es (s.any_name w) w.label.spot w.label.spot (s.unary_message w.label.name) k (omega arith) (omega arith) refl (λ o. tt) good)
    unary_good (g.sent_primitive u w) n hs es k good =
        unary_good u n hs es _ (make_code (n + 1) (n + 1) hs es (sign.Primitive w.name) w.spot w.spot (nodes.Primitive (One w.name) 0 false false) k (omega arith) (omega arith) refl (λ o. tt) good)

    body_good : (b : g.Body) (hs : List Held) (es : List Entry) (k : Writer) → Good (Agrees P (left b) (done b) hs es) k → Good (Agrees P 0 false hs es) (s.body l b k)
    body_good g.empty hs es k good = good
    body_good (g.full c) hs es k good = code_good c hs es k good

    operands_good : (us : g.Operands) (o : ℕ) (r : Role) (n : ℕ) (hs : List Held) (es : List Entry) (k : Writer) → Good (Agrees P (n + held us) false hs es) k →
        Good (Agrees P n false hs es) (s.operands l o r us k)
    operands_good (g.first u p) o r n hs es k good = unary_good u n hs es _ (same_code (n + 1) false hs es (sign.Operator o r) p quiet k refl refl refl good)
    operands_good (g.delegated d p) o r n hs es k good =
        delegate_good d n hs es _ (same_code n false hs es (sign.Operator o r) p quiet k refl refl refl (weaker n (n + 0) false hs es k (omega arith) good))
    operands_good (g.next us u p) o r n hs es k good =
        operands_good us o r n hs es _
        (unary_good u (n + held us) hs es _
        (owes (n + held us + 1) (n + 1) hs es (s.operator_node o us) (held us + 1) _ (operator_fits P o us) (omega arith) (omega arith)
        (same_code (n + 1) false hs es (sign.Operator o r) p quiet k refl refl refl good)))

    binary_good : (b : g.Binary) (n : ℕ) (hs : List Held) (es : List Entry) (k : Writer) → Good (Agrees P (n + 1) false hs es) k → Good (Agrees P n false hs es) (s.binary l b k)
    binary_good (g.single u) n hs es k good = unary_good u n hs es k good
    binary_good (g.several o r us u) n hs es k good =
        operands_good us o r n hs es _
        (unary_good u (n + held us) hs es _
        (owes (n + held us + 1) (n + 1) hs es (s.operator_node o us) (held us + 1) k (operator_fits P o us) (omega arith) (omega arith) good))

    receiver_good : (r : g.Receiver) (n : ℕ) (hs : List Held) (es : List Entry) (k : Writer) → Good (Agrees P (n + stated (s.receiver_target r)) false hs es) k →
        Good (Agrees P n false hs es) (s.receiver l r k)
    receiver_good g.implied n hs es k good = weaker n (n + 0) false hs es k (omega arith) good
    receiver_good (g.given b) n hs es k good = binary_good b n hs es k good

    message_good : (m : g.Message) (n : ℕ) (hs : List Held) (es : List Entry) (k : Writer) → Good (Agrees P (n + values m) false hs es) k → Good (Agrees P n false hs es) (s.message l m k)
    message_good (g.opened r o) n hs es k good = receiver_good r n hs es _ (same_code (n + stated (s.receiver_target r)) false hs es (s.opening_symbol o) (s.opening_spot o) opening k refl refl refl good)
    message_good (g.redirected d w) n hs es k good = delegate_good d n hs es _ (same_code n false hs es (sign.Keyword w.name) w.spot opening k refl refl refl (weaker n (n + 0) false hs es k (omega arith) good))
    message_good (g.further m b q) n hs es k good =
        message_good m n hs es _
        (binary_good b (n + values m) hs es _
        (same_code (n + values m + 1) false hs es (sign.CapitalKeyword q.word.name q.handles) q.word.spot (v'.part_event l (s.parts m)) k refl refl refl (weaker (n + values m + 1) (n + (values m + 1)) false hs es k (omega arith) good)))

    expression_good : (e : g.Expression) (n : ℕ) (hs : List Held) (es : List Entry) (k : Writer) → Good (Agrees P (n + 1) false hs es) k → Good (Agrees P n false hs es) (s.expression l e k)
    expression_good (g.plain b) n hs es k good = binary_good b n hs es k good
    expression_good (g.keyed m e) n hs es k good =
        message_good m n hs es _
        (expression_good e (n + values m) hs es _
        (owes (n + values m + 1) (n + 1) hs es (s.message_node m) (values m + 1) _ (message_fits P m) (omega arith) (omega arith)
        (finishing_good (n + 1) false hs es k good)))

    statements_good : (ss : g.Statements) (hs : List Held) (es : List Entry) (k : Writer) → Good (Agrees P 0 false hs es) k → Good (Agrees P 0 false hs es) (s.statements l ss k)
    statements_good g.none hs es k good = good
    statements_good (g.more ss e p) hs es k good =
        statements_good ss hs es _
        (expression_good e 0 hs es _
        (same_code 1 false hs es sign.Period p quiet _ refl refl refl (owing_good 1 0 hs es (node p nodes.Drop) k (omega arith) (omega arith) tt good)))

    code_good : (c : g.Code) (hs : List Held) (es : List Entry) (k : Writer) → Good (Agrees P (left (g.full c)) (done (g.full c)) hs es) k → Good (Agrees P 0 false hs es) (s.code l c k)
    code_good (g.code ss None e q) hs es k good = statements_good ss hs es _ (expression_good e 0 hs es _ (stopped_good q 1 false hs es k good))
    code_good (g.code ss (Some r) e q) hs es k good =
        statements_good ss hs es _
        (same_code 0 false hs es sign.Caret r quiet _ refl refl refl
        (expression_good e 0 hs es _ (owing_good 1 0 hs es (node r nodes.Return) _ (omega arith) (omega arith) tt (stopped_good q 0 true hs es k good))))

  -- The names of slots.
  keyword_name_good : (n : g.KeywordName) (v w : ℕ) (hs : List Held) (t : List Entry) (k : s.Listing) → ((u : Scope) → Good (Clear P v w hs t) (k u)) → (u : Scope) →
      Good (Clear P v w hs t) (s.keyword_name l n k u)
  keyword_name_good (g.keyword_first x) v w hs t k good u = plain_good v w hs t (sign.Keyword x.name) x.spot (v'.keyword_event l u x) _ refl refl refl (good _)
  keyword_name_good (g.keyword_next n q) v w hs t k good u =
      keyword_name_good n v w hs t _ (λ y. plain_good v w hs t (sign.CapitalKeyword q.word.name q.handles) q.word.spot (v'.part_event l (s.count n)) (k y) refl refl refl (good y)) u

  keyword_head_good : (n : g.KeywordHead) (v w : ℕ) (hs : List Held) (t : List Entry) (k : Scope → s.Listing) → ((u i : Scope) → Good (Clear P v w hs t) (k u i)) → (u : Scope) →
      Good (Clear P v w hs t) (s.keyword_head l n k u)
  keyword_head_good (g.head_first x a) v w hs t k good u =
      plain_good v w hs t (sign.Keyword x.name) x.spot (v'.keyword_event l u x) _ refl refl refl (head_argument_good v w hs t a _ (good (with_local l x.spot u)) (scope activation))
  keyword_head_good (g.head_next n q a) v w hs t k good u =
      keyword_head_good n v w hs t _
      (λ y i. plain_good v w hs t (sign.CapitalKeyword q.word.name q.handles) q.word.spot (v'.part_event l (s.count (s.head_name n))) _ refl refl refl (head_argument_good v w hs t a (k y) (good y) i)) u

  operator_name_good : (o : g.AnyOperator) (v w : ℕ) (hs : List Held) (t : List Entry) (k : s.Listing) → ((u : Scope) → Good (Clear P v w hs t) (k u)) → (u : Scope) →
      Good (Clear P v w hs t) (s.operator_name l o k u)
  operator_name_good o v w hs t k good u = plain_good v w hs t (sign.Operator o.word.name o.role) o.word.spot (v'.operator_event l u o) _ refl refl refl (good _)

  head_good : (h : g.Head) (v w : ℕ) (hs : List Held) (t : List Entry) (k : s.Named → Writer) → ((n : s.Named) → Good (Clear P v w hs t) (k n)) → (u : Scope) → Good (Clear P v w hs t) (s.head l h k u)
  head_good (g.unary_head x) v w hs t k good u = slot_name_good v w hs t x _ (λ y. good (record { around = y; inner = scope either; wanted = 0; spot = x.spot; broken = [] })) u
  head_good (g.operator_with o a) v w hs t k good u = operator_name_good o v w hs t _ (λ y. head_argument_good v w hs t a _ (λ i. good (record { around = y; inner = i; wanted = 1; spot = o.word.spot; broken = [] })) (scope activation)) u
  head_good (g.operator o) v w hs t k good u = operator_name_good o v w hs t _ (λ y. good (record { around = y; inner = scope activation; wanted = 1; spot = o.word.spot; broken = [] })) u
  head_good (g.keyword_with n) v w hs t k good u = keyword_head_good n v w hs t _ (λ y i. good (s.keyword_named (s.head_name n) y i)) u
  head_good (g.keyword n) v w hs t k good u = keyword_name_good n v w hs t _ (λ y. good (s.keyword_named n y (scope activation))) u

  -- The code of a method, up to the parenthesis that closes it.
  method_code : (c : g.Code) (q : Spot) (v w : ℕ) (hs : List Held) (t : List Entry) (k : Writer) → Good (Clear P v w hs t) k →
      Good (Clear P 0 0 (record { pending = v; nodes = w } ∷ hs) (fresh ∷ t)) (s.code l c (write l sign.CloseParen q (s.ending (g.full c) q) k))
  method_code c q v w hs t k good =
      begins 0 0 0 (record { pending = v; nodes = w } ∷ hs) t _ (omega arith)
      (code_good c (record { pending = v; nodes = w } ∷ hs) t _ (ending_good (g.full c) sign.CloseParen q (record { pending = v; nodes = w }) hs t k good))

  opened_good : (p : Spot) (o : Option Spot) (v w : ℕ) (hs : List Held) (t : List Entry) (k : Writer) → Good (Clear P v w hs (fresh ∷ t)) k →
      Good (Clear P v w hs t) (write l sign.OpenParen p (record (s.opening_item p) { next = o }) k)
  opened_good p o v w hs t k good = write_clear v w hs t (fresh ∷ t) sign.OpenParen p (record (s.opening_item p) { next = o }) k refl refl (λ rest. refl) (tt, tt) good

  -- Slots and what fills them.
  mutual
    datum_good : (d : g.Datum) (o : Owner) (v w : ℕ) (hs : List Held) (t : List Entry) (k : Writer) → Good (Clear P v w hs t) k → Good (Clear P v w hs t) (s.datum l o d k)
    datum_good (g.simple d) o v w hs t k good = simple_good d v w hs t k good
    datum_good (g.object x) o v w hs t k good = object_good x o v w hs t k good

    object_good : (x : g.Object) (o : Owner) (v w : ℕ) (hs : List Held) (t : List Entry) (k : Writer) → Good (Clear P v w hs t) k → Good (Clear P v w hs t) (s.object l o x k)
    object_good (g.empty_object p q) o v w hs t k good =
        opened_good p None v w hs t _ (write_clear v w hs (fresh ∷ t) t sign.CloseParen q (v'.empty_object_end p) k refl refl (λ rest. refl) (tt, tt) good)
    object_good (g.slotted_object p b ss b2 q) o v w hs t k good =
        opened_good p None v w hs t _
        (plain_good v w hs (fresh ∷ t) sign.Bar b quiet _ refl refl refl
        (slots_good ss v w hs (fresh ∷ t) _
        (λ u. plain_good v w hs (fresh ∷ t) sign.Bar b2 quiet _ refl refl refl
        (write_clear v w hs (fresh ∷ t) t sign.CloseParen q (v'.object_end p u) k refl refl (λ rest. refl) (tt, tt) good))
        (scope o)))

    method_good : (m : g.Method) (n : s.Named) (v w : ℕ) (hs : List Held) (t : List Entry) (k : Writer) → Good (Clear P v w hs t) k → Good (Clear P v w hs t) (s.method l n m k)
    method_good (g.bare_method p b q) n v w hs t k good = opened_good p (s.wants_bar n) v w hs t _ (entering_good v w hs (fresh ∷ t) _ (method_code b q v w hs t k good))
    method_good (g.slotted_method p b ss b2 x q) n v w hs t k good =
        opened_good p (s.wants_bar n) v w hs t _
        (plain_good v w hs (fresh ∷ t) sign.Bar b quiet _ refl refl refl
        (slots_good ss v w hs (fresh ∷ t) _
        (λ u. plain_good v w hs (fresh ∷ t) sign.Bar b2 (record quiet { broken = s.at_bar n u }) _ refl refl refl
        (entering_good v w hs (fresh ∷ t) _ (telling_good 0 0 (record { pending = v; nodes = w } ∷ hs) (fresh ∷ t) (s.at_code n u) _ (method_code x q v w hs t k good))))
        n.inner))

    method_slot_good : (m : g.MethodSlot) (v w : ℕ) (hs : List Held) (t : List Entry) (k : s.Listing) → ((u : Scope) → Good (Clear P v w hs t) (k u)) → (u : Scope) →
        Good (Clear P v w hs t) (s.method_slot l m k u)
    method_slot_good (g.method h e m) v w hs t k good u =
        head_good h v w hs t _
        (λ n. plain_good v w hs t (sign.Operator e.name Equals) e.spot (record quiet { broken = n.broken }) _ refl refl refl (method_good m n v w hs t (k (not_plain n.around)) (good (not_plain n.around)))) u

    member_good : (m : g.Member) (v w : ℕ) (hs : List Held) (t : List Entry) (k : s.Listing) → ((u : Scope) → Good (Clear P v w hs t) (k u)) → (u : Scope) → Good (Clear P v w hs t) (s.member l m k u)
    member_good (g.constant x e d) v w hs t k good u =
        slot_name_good v w hs t x _ (λ y. plain_good v w hs t (sign.Operator e.name Equals) e.spot quiet _ refl refl refl (datum_good d either v w hs t (k (s.holding d y)) (good (s.holding d y)))) u
    member_good (g.assignable x a d) v w hs t k good u =
        slot_name_good v w hs t x _ (arrow_good v w hs t x a _ (λ y. datum_good d holder v w hs t (k (s.holding d y)) (good (s.holding d y)))) u
    member_good (g.bare x) v w hs t k good u = slot_name_good v w hs t x _ (no_arrow_good v w hs t x k good) u
    member_good (g.parent x a e d) v w hs t k good u =
        slot_name_good v w hs t x _
        (λ y. plain_good v w hs t (sign.Operator a.name Star) a.spot quiet _ refl refl refl
        (plain_good v w hs t (sign.Operator e.name Equals) e.spot quiet _ refl refl refl (datum_good d holder v w hs t (k (not_plain y)) (good (not_plain y))))) u
    member_good (g.coded m) v w hs t k good u = method_slot_good m v w hs t k good u

    slot_good : (x : g.Slot) (v w : ℕ) (hs : List Held) (t : List Entry) (k : s.Listing) → ((u : Scope) → Good (Clear P v w hs t) (k u)) → (u : Scope) → Good (Clear P v w hs t) (s.slot l x k u)
    slot_good (g.member m) v w hs t k good u = member_good m v w hs t k good u
    slot_good (g.argument x) v w hs t k good u = argument_good v w hs t x k good u

    slots_before_good : (ss : g.SlotsBefore) (v w : ℕ) (hs : List Held) (t : List Entry) (k : s.Listing) → ((u : Scope) → Good (Clear P v w hs t) (k u)) → (u : Scope) →
        Good (Clear P v w hs t) (s.slots_before l ss k u)
    slots_before_good g.no_slots v w hs t k good u = good u
    slots_before_good (g.more_slots ss x p) v w hs t k good u =
        slots_before_good ss v w hs t _
        (λ y. slot_good x v w hs t _ (λ z. placing_good v w hs t (s.slot_items x) _ (slot_still x) (slot_of P x) (plain_good v w hs t sign.Period p quiet _ refl refl refl (good z))) y) u

    slots_good : (ss : g.Slots) (v w : ℕ) (hs : List Held) (t : List Entry) (k : s.Listing) → ((u : Scope) → Good (Clear P v w hs t) (k u)) → (u : Scope) → Good (Clear P v w hs t) (s.slots l ss k u)
    slots_good (g.slots_ended ss) v w hs t k good u = slots_before_good ss v w hs t k good u
    slots_good (g.slots_last ss x) v w hs t k good u =
        slots_before_good ss v w hs t _ (λ y. slot_good x v w hs t _ (λ z. placing_good v w hs t (s.slot_items x) _ (slot_still x) (slot_of P x) (good z)) y) u

  members_before_good : (ms : g.MembersBefore) (v w : ℕ) (hs : List Held) (t : List Entry) (k : s.Listing) → ((u : Scope) → Good (Clear P v w hs t) (k u)) → (u : Scope) →
      Good (Clear P v w hs t) (s.members_before l ms k u)
  members_before_good g.no_members v w hs t k good u = good u
  members_before_good (g.more_members ms m p) v w hs t k good u =
      members_before_good ms v w hs t _
      (λ y. member_good m v w hs t _ (λ z. placing_good v w hs t (s.member_items m) _ (member_still m) (member_of P m) (plain_good v w hs t sign.Period p quiet _ refl refl refl (good z))) y) u

  finish_good : (p : Spot) (v w : ℕ) (hs : List Held) → Good (Clear P v w hs final) (s.finish l p)
  finish_good p v w hs = plain_good v w hs final sign.End p quiet (λ c. []) refl refl refl (λ c s a sound. record { whole = ap Some a.stack; ints = λ h. tt })

first_clear : (P : ℤ → Type 0) (size : ℕ) → Clear P 0 0 [] [] (s.at_first size) []
first_clear P size = record { stack = refl; pending = refl; nodes = refl; due = refl; around = refl; still = λ l es rest. refl; ready_of = tt }

world_walks : (l : Limits) (P : ℤ → Type 0) (x : g.World) → AreSound (s.world l x) → Walks l P [] [] (s.world l x)
world_walks l P (g.world_ended ms p) sound =
    members_before_good l P [] ms 0 0 [] [] (λ u. s.finish l p) (λ u. finish_good l P [] p 0 0 []) (scope holder) (s.at_first 1) [] (first_clear P 1) sound
world_walks l P (g.world_last ms m p) sound =
    members_before_good l P [] ms 0 0 [] [] (s.member l m (λ u. placing (s.member_items m) (s.finish l p)))
    (member_good l P [] m 0 0 [] [] (λ u. placing (s.member_items m) (s.finish l p))
    (λ u. placing_good l P [] 0 0 [] [] (s.member_items m) (s.finish l p) (member_still m) (member_of P m) (finish_good l P [] p 0 0 [])))
    (scope holder) (s.at_first 1) [] (first_clear P 1) sound

edit_end : (l : Limits) (P : ℤ → Type 0) (q : Option Spot) (p : Spot) → Good l P [] (Clear P 0 0 [] []) (s.stopped l q (s.finish l p))
edit_end l P None p = finish_good l P [] p 0 0 []
edit_end l P (Some b) p = plain_good l P [] 0 0 [] [] sign.Period b quiet (s.finish l p) refl refl refl (finish_good l P [] p 0 0 [])

edit_walks : (l : Limits) (P : ℤ → Type 0) (x : g.Edit) → AreSound (s.edit l x) → Walks l P [] [] (s.edit l x)
edit_walks l P (g.edit m q p) sound =
    method_slot_good l P [] m 0 0 [] [] (λ u. placing (s.method_items m) (s.stopped l q (s.finish l p)))
    (λ u. placing_good l P [] 0 0 [] [] (s.method_items m) (s.stopped l q (s.finish l p)) (method_still m) (method_of P m) (edit_end l P q p))
    (scope holder) (s.at_first 0) [] (first_clear P 0) sound

-- The bodies of a world with nothing wrong are balanced,
pub world_balanced : (l : Limits) (given : List Sign) (t : g.World) → IsText (s.world l) given t → walked l [] (items_of (s.world l t)) ≡ Some []
world_balanced l given t h = (world_walks l (λ z. Unit {0}) t h.1).whole

-- and its nodes have integers of its signs alone.
pub world_integers : (l : Limits) (P : ℤ → Type 0) (given : List Sign) (t : g.World) → IsText (s.world l) given t → OfSigns P given → OfItems P (items_of (s.world l t))
world_integers l P given t h of = (world_walks l P t h.1).ints (subst (λ ss. OfSigns P ss) (sym h.0) of)

-- The same of an edit.
pub edit_balanced : (l : Limits) (given : List Sign) (t : g.Edit) → IsText (s.edit l) given t → walked l [] (items_of (s.edit l t)) ≡ Some []
edit_balanced l given t h = (edit_walks l (λ z. Unit {0}) t h.1).whole

pub edit_integers : (l : Limits) (P : ℤ → Type 0) (given : List Sign) (t : g.Edit) → IsText (s.edit l) given t → OfSigns P given → OfItems P (items_of (s.edit l t))
edit_integers l P given t h of = (edit_walks l P t h.1).ints (subst (λ ss. OfSigns P ss) (sym h.0) of)
