-- A text with nothing wrong opens no more than its limits allow, and its bodies have few arguments and locals.
use Rattle.std.specs.Prelude.{◌≡◌, ℕ, ◌+◌, ◌-◌, ◌≤◌, nat_le, Bool, true, false, not, ◌&&◌, if◌then◌else◌, Option, None, Some, List, [], ◌∷◌, ◌++◌, length, map, refl}
use Rattle.std.proofs.Common.{ap, sym, subst, ◌∙◌, arith, append_assoc}
use Rattle.std.proofs.lemmas.Grind.{common_steps}
use Rattle.self_grammar.specs.declared.signs.Spot.{Spot}
use Rattle.self_grammar.specs.declared.signs.Reserved.TheVariants.{Free, Itself, Resend}
use Rattle.self_grammar.specs.declared.signs.Role.{Role}
use Rattle.self_grammar.specs.declared.signs.Role.TheVariants.{Equals, Arrow, Star}
use Rattle.self_grammar.specs.declared.signs.Symbol.{Symbol}
use Rattle.self_grammar.specs.declared.signs.Symbol.TheVariants as symbol
use Rattle.self_grammar.specs.declared.signs.Sign.{Sign}
use Rattle.self_grammar.specs.declared.pieces.Words.{Words}
use Rattle.self_grammar.specs.declared.pieces.Words.TheVariants as words
use Rattle.self_grammar.specs.declared.pieces.Words.TheVariants.{One}
use Rattle.self_grammar.specs.declared.pieces.Target.{Target}
use Rattle.self_grammar.specs.declared.pieces.Target.TheVariants.{Implied}
use Rattle.self_grammar.specs.declared.pieces.Made.{Made}
use Rattle.self_grammar.specs.declared.pieces.TextNode.TheVariants as nodes
use Rattle.self_grammar.specs.declared.pieces.SlotForm.{SlotForm}
use Rattle.self_grammar.specs.declared.pieces.SlotForm.TheVariants as form
use Rattle.self_grammar.specs.declared.pieces.Item.{Item}
use Rattle.self_grammar.specs.declared.pieces.Item.TheVariants as items
use Rattle.self_grammar.specs.Parts.{count_of}
use Rattle.self_grammar.specs.Grammar as g
use Rattle.self_grammar.specs.Counts.{Limits, node, when, quiet, opening, closing, makes, saying, Breach, Held, Context, Event, Mark, Writer, write, owing, telling, placing, entering, finishing, placed, breaches, nesting_after, counted, resumed, moved}
use Rattle.self_grammar.specs.Scopes.{Owner, either, Scope, scope, activation, holder, named, again, is_activation, with_argument, with_local, first_beyond, not_plain, too_many_arguments, too_many_locals, beyond_breach, late_locals}
use Rattle.self_grammar.specs.Spelling as s
use Rattle.self_grammar.specs.Spelling.{items_of}
use Rattle.self_grammar.specs.Refusal.{AreSound, IsText}
use Rattle.self_grammar.proofs.Places.{block_opening}
use Rattle.self_grammar.proofs.SlotMoves as v'
use Rattle.self_grammar.proofs.Balance.{front_empty, back_empty, none_first, unplaced}
use Rattle.world_build.proofs.Keeps.{Entry, entry, slotted, IsFew, IsSome, IsInner, Keeps}

-- Slots that end before a sign lead from one stack to the next.
abbrev Leads : List Entry → List Item → List Entry → Type 0
Leads ds [] es = ds ≡ es
Leads ds (items.Slot w f p ∷ is) es = Leads (slotted ds) is es
Leads ds (items.Node m ∷ is) es = ⊥
Leads ds (items.Opened p ∷ is) es = ⊥
Leads ds (items.ClosedObject ∷ is) es = ⊥
Leads ds (items.ClosedBody ∷ is) es = ⊥
Leads ds (items.Integer z ∷ is) es = ⊥
Leads ds (items.Text i j ∷ is) es = ⊥
Leads ds (items.Root k p ∷ is) es = ⊥
Leads ds (items.Further k p ∷ is) es = ⊥
Leads ds (items.Argument k ∷ is) es = ⊥
Leads ds (items.Named k ∷ is) es = ⊥

leads_append : (ds es fs : List Entry) (is js : List Item) → Leads ds is es → Leads es js fs → Leads ds (is ++ js) fs
leads_append ds es fs [] js h k = subst (λ x. Leads x js fs) (sym h) k
leads_append ds es fs (items.Slot w f p ∷ is) js h k = leads_append (slotted ds) es fs is js h k
leads_append ds es fs (items.Node m ∷ is) js h k = absurd h
leads_append ds es fs (items.Opened p ∷ is) js h k = absurd h
leads_append ds es fs (items.ClosedObject ∷ is) js h k = absurd h
leads_append ds es fs (items.ClosedBody ∷ is) js h k = absurd h
leads_append ds es fs (items.Integer z ∷ is) js h k = absurd h
leads_append ds es fs (items.Text i j ∷ is) js h k = absurd h
leads_append ds es fs (items.Root x p ∷ is) js h k = absurd h
leads_append ds es fs (items.Further x p ∷ is) js h k = absurd h
leads_append ds es fs (items.Argument x ∷ is) js h k = absurd h
leads_append ds es fs (items.Named x ∷ is) js h k = absurd h

leads_keep : (n : ℕ) (ds es : List Entry) (is rest : List Item) → Leads ds is es → Keeps n es rest → Keeps n ds (is ++ rest)
leads_keep n ds es [] rest h k = subst (λ x. Keeps n x rest) (sym h) k
leads_keep n ds es (items.Slot w f p ∷ is) rest h k = (tt, leads_keep n (slotted ds) es is rest h k)
leads_keep n ds es (items.Node m ∷ is) rest h k = absurd h
leads_keep n ds es (items.Opened p ∷ is) rest h k = absurd h
leads_keep n ds es (items.ClosedObject ∷ is) rest h k = absurd h
leads_keep n ds es (items.ClosedBody ∷ is) rest h k = absurd h
leads_keep n ds es (items.Integer z ∷ is) rest h k = absurd h
leads_keep n ds es (items.Text i j ∷ is) rest h k = absurd h
leads_keep n ds es (items.Root x p ∷ is) rest h k = absurd h
leads_keep n ds es (items.Further x p ∷ is) rest h k = absurd h
leads_keep n ds es (items.Argument x ∷ is) rest h k = absurd h
leads_keep n ds es (items.Named x ∷ is) rest h k = absurd h

-- Messages of few arguments.
abbrev FewMade : List Made → Type 0
FewMade [] = Unit {0}
FewMade (m ∷ ms) = IsFew m.node × FewMade ms

made_append : (ms ns : List Made) → FewMade ms → FewMade ns → FewMade (ms ++ ns)
made_append [] ns h k = k
made_append (m ∷ ms) ns h k = (h.0, made_append ms ns h.1 k)

nodes_keep : (n : ℕ) (es : List Entry) (ms : List Made) (rest : List Item) → FewMade ms → Keeps n es rest → Keeps n es (map items.Node ms ++ rest)
nodes_keep n es [] rest h k = k
nodes_keep n es (m ∷ ms) rest h k = (h.0, nodes_keep n es ms rest h.1 k)

count_few : (w : Words) → count_of w ≤ 5
count_few (words.One a) = omega arith
count_few (words.Two a b) = omega arith
count_few (words.Three a b c) = omega arith
count_few (words.Four a b c d) = omega arith
count_few (words.Five a b c d e) = omega arith

primitive_few : (to : Target) (w : Words) (base : Option ℕ) (handled : Bool) → IsFew (s.primitive_node to w (count_of w) base handled)
primitive_few to (words.One n) None handled = omega arith
primitive_few to (words.One n) (Some b) handled = omega arith
primitive_few to (words.Two a b) base true = omega arith
primitive_few to (words.Two a b) base false = omega arith
primitive_few to (words.Three a b c) base true = omega arith
primitive_few to (words.Three a b c) base false = omega arith
primitive_few to (words.Four a b c d) base true = omega arith
primitive_few to (words.Four a b c d) base false = omega arith
primitive_few to (words.Five a b c d e) base true = omega arith
primitive_few to (words.Five a b c d e) base false = omega arith

keyword_few : (to : Target) (w : Words) (base : Option (Option ℕ)) (handled : Bool) → IsFew (s.keyword_node to w (count_of w) base handled)
keyword_few to w None handled = count_few w
keyword_few to w (Some b) handled = primitive_few to w b handled

message_few : (x : g.Message) → IsFew (s.message_node x).node
message_few x = keyword_few (s.message_target x) (s.message_words x) (s.message_base x) (s.ends_handled x)

operator_few : (o : ℕ) (us : g.Operands) → IsFew (s.operator_node o us).node
operator_few o (g.first u p) = omega arith
operator_few o (g.delegated d p) = omega arith
operator_few o (g.next us u p) = omega arith

-- What nothing broken says.

parts_empty : (a b w q r t : List Breach) → a ++ b ++ w ++ q ++ r ++ t ≡ [] → (a ≡ []) × (b ≡ []) × (w ≡ [])
parts_empty a b w q r t e =
    let f : a ++ b ++ w ≡ [] = front_empty (a ++ b ++ w) q (front_empty (a ++ b ++ w ++ q) r (front_empty (a ++ b ++ w ++ q ++ r) t e)) in
    let h : a ++ b ≡ [] = front_empty (a ++ b) w f in
    (front_empty a b h, back_empty a b h, back_empty (a ++ b) w f)

untold : (b : Bool) (x : Breach) → when b x ≡ [] → b ≡ false
untold true x e = cc
untold false x e = refl

nor : (b : Bool) → not b ≡ false → b ≡ true
nor true e = refl
nor false e = cc

at_most : (a b : ℕ) → nat_le a b ≡ true → a ≤ b
at_most a b e = grind (arith, common_steps)

open_few : (b : Bool) (n most : ℕ) → (b && not (nat_le n most)) ≡ false → b ≡ true → n ≤ most
open_few true n most h e = at_most n most (nor (nat_le n most) h)
open_few false n most h e = cc

out_ready : (b : Bool) (hs : List Held) (c : Context) → (if b then resumed hs c else c).ready ≡ c.ready
out_ready true [] c = refl
out_ready true (h ∷ hs) c = refl
out_ready false hs c = refl

out_due : (b : Bool) (hs : List Held) (c : Context) → (if b then resumed hs c else c).due ≡ c.due
out_due true [] c = refl
out_due true (h ∷ hs) c = refl
out_due false hs c = refl

out_late : (b : Bool) (hs : List Held) (c : Context) → (if b then resumed hs c else c).late ≡ c.late
out_late true [] c = refl
out_late true (h ∷ hs) c = refl
out_late false hs c = refl

out_nesting : (b : Bool) (hs : List Held) (c : Context) → (if b then resumed hs c else c).nesting ≡ c.nesting
out_nesting true [] c = refl
out_nesting true (h ∷ hs) c = refl
out_nesting false hs c = refl

-- The lobby and what is open inside it are no more than the open parentheses, brackets and messages.
record Deep (m : ℕ) (es : List Entry) : Type 0 where
  most : length es ≤ m + 1
  some : IsSome es

inner_of : (e : Entry) (es : List Entry) → IsSome es → IsInner (e ∷ es)
inner_of e [] h = absurd h
inner_of e (d ∷ es) h = tt

-- Before a sign so much is open, behind the slots that end there.
record Stands (m n : ℕ) (es : List Entry) (c : Context) (ds : List Entry) : Type 0 where
  nesting : c.nesting ≡ m
  deep : Deep m es
  leads : Leads ds c.ready es
  due : FewMade c.due

-- What these marks say, where G holds: their items are right, and no rule was broken before them.
record Owed (G : Type 0) (n : ℕ) (ds : List Entry) (c : Context) (ms : List Mark) : Type 0 where
  late : c.late ≡ []
  keeps : G → Keeps n ds (items_of ms)

-- What is known of the scope of a list of slots.
record Has (o : Owner) (a b : ℕ) (u : Scope) : Type 0 where
  owner : u.owner ≡ o
  arguments : u.arguments ≡ a
  locals : u.locals ≡ b
  few : a ≤ 5
  surely : is_activation o ≡ true → b ≤ 64
  told : u.beyond ≡ None → b ≤ 64

has_first : (o : Owner) → Has o 0 0 (scope o)
has_first o = record { owner = refl; arguments = refl; locals = refl; few = omega arith; surely = λ e. omega arith; told = λ e. omega arith }

has_named : (o : Owner) (a b : ℕ) (u : Scope) (n : List ℕ) → Has o a b u → Has o a b (named n u)
has_named o a b u n h = record { owner = h.owner; arguments = h.arguments; locals = h.locals; few = h.few; surely = h.surely; told = h.told }

has_plain : (o : Owner) (a b : ℕ) (u : Scope) → Has o a b u → Has o a b (not_plain u)
has_plain o a b u h = record { owner = h.owner; arguments = h.arguments; locals = h.locals; few = h.few; surely = h.surely; told = h.told }

has_holding : (o : Owner) (a b : ℕ) (u : Scope) (d : g.Datum) → Has o a b u → Has o a b (s.holding d u)
has_holding o a b u (g.simple d) h = h
has_holding o a b u (g.object x) h = has_plain o a b u h

unbeyond : (o : Option Spot) (p : Spot) (b : Bool) → first_beyond o p b ≡ None → b ≡ false
unbeyond (Some q) p b e = cc
unbeyond None p true e = cc
unbeyond None p false e = refl

bounded : (o : Option Spot) → beyond_breach o ≡ [] → o ≡ None
bounded None e = refl
bounded (Some p) e = cc

late_few : (o : Owner) (a b : ℕ) (u : Scope) → Has o a b u → late_locals u ≡ [] → b ≤ 64
late_few o a b u h e = by (is_activation u.owner) refl e
  where
    by : (t : Bool) → is_activation u.owner ≡ t → (if t then [] else beyond_breach u.beyond) ≡ [] → b ≤ 64
    by true is f = h.surely (ap is_activation (sym h.owner) ∙ is)
    by false is f = h.told (bounded u.beyond f)

module _ (l : Limits) (la : l.arguments ≤ 5) (ll : l.locals ≤ 64) (ln : l.nesting ≤ 64) where
  few_arguments : (n : ℕ) → too_many_arguments l n ≡ [] → n + 1 ≤ 5
  few_arguments n e =
      let low : n + 1 ≤ l.arguments = at_most (n + 1) l.arguments (nor (nat_le (n + 1) l.arguments) (untold _ _ e)) in
      omega arith

  has_argument : (o : Owner) (a b : ℕ) (u : Scope) (n : List ℕ) → Has o a b u → too_many_arguments l u.arguments ≡ [] → Has o (a + 1) b (with_argument n u)
  has_argument o a b u n h e =
      let few : u.arguments + 1 ≤ 5 = few_arguments u.arguments e in
      let same : u.arguments ≡ a = h.arguments in
      record { owner = h.owner; arguments = ap (λ k. k + 1) h.arguments; locals = h.locals; few = omega arith; surely = h.surely; told = h.told }

  has_local : (o : Owner) (a b : ℕ) (u : Scope) (p : Spot) → Has o a b u → too_many_locals l u ≡ [] → Has o a (b + 1) (with_local l p u)
  has_local o a b u p h e =
      let same : u.locals ≡ b = h.locals in
      record {
        owner = h.owner;
        arguments = h.arguments;
        locals = ap (λ k. k + 1) h.locals;
        few = h.few;
        surely = λ is. (let low : u.locals + 1 ≤ l.locals = open_few (is_activation u.owner) (u.locals + 1) l.locals (untold _ _ e) (ap is_activation h.owner ∙ is) in omega arith);
        told = λ is. (let low : u.locals + 1 ≤ l.locals = at_most (u.locals + 1) l.locals (nor (nat_le (u.locals + 1) l.locals) (unbeyond u.beyond p _ is)) in omega arith);
      }

  abbrev Owes : Type 0 → ℕ → ℕ → List Entry → Writer → Type 0
  Owes G m n es k = (c : Context) (ds : List Entry) → Stands m n es c ds → AreSound (k c) → Owed G n ds c (k c)

  deeply : (G : Type 0) (m n : ℕ) (es : List Entry) (k : Writer) → (Deep m es → Owes G m n es k) → Owes G m n es k
  deeply G m n es k owes c ds h sound = owes h.deep c ds h sound

  weaker : (G H : Type 0) (m n : ℕ) (es : List Entry) (k : Writer) → Owes G m n es k → Owes (G × H) m n es k
  weaker G H m n es k owes c ds h sound = let r = owes c ds h sound in record { late = r.late; keeps = λ x. r.keeps x.0 }

  -- The same behind a sign.
  abbrev Begins : Type 0 → ℕ → ℕ → List Entry → Writer → Type 0
  Begins G m n es k = (c : Context) → c.late ≡ [] → Stands m n es c es → AreSound (k c) → Owed G n es c (k c)

  begins : (G : Type 0) (m n : ℕ) (es : List Entry) (k : Writer) → Owes G m n es k → Begins G m n es k
  begins G m n es k owes c e h sound = owes c es h sound

  record Goes (G : Type 0) (n : ℕ) (es : List Entry) (e : Event) (m' n' : ℕ) (fs : List Entry) (k : Writer) : Type 0 where
    deep : Deep m' fs
    says : (rest : List Item) → G → Keeps n' fs rest → Keeps n es (e.says ++ rest)
    owes : Begins G m' n' fs k

  sign : (G : Type 0) (m n : ℕ) (es : List Entry) (m' n' : ℕ) (fs : List Entry) (x : Symbol) (p : Spot) (e : Event) (k : Writer) → nesting_after m e.opens e.closes ≡ m' → FewMade e.made →
      (e.broken ≡ [] → (e.opens ≡ true → m + 1 ≤ 64) → Deep m es → Goes G n es e m' n' fs k) → Owes G m n es (write l x p e k)
  sign G m n es m' n' fs x p e k nest few go c ds h sound =
      let all : breaches l c e ≡ [] = unplaced p (breaches l c e) (none_first (map (placed p) (breaches l c e)) sound.0) in
      let parts = parts_empty c.late e.broken _ _ _ _ all in
      let within : e.opens ≡ true → m + 1 ≤ 64 = (λ o. (let low : c.nesting + 1 ≤ l.nesting = open_few e.opens (c.nesting + 1) l.nesting (untold _ _ parts.2) o in let same : c.nesting ≡ m = h.nesting in omega arith)) in
      let to = go parts.1 within h.deep in
      let now : Context = counted c e in
      let calm : (moved c e).ready ≡ [] = out_ready e.leaves c.around now in
      let settled : (moved c e).due ≡ [] = out_due e.leaves c.around now in
      let level : (moved c e).nesting ≡ m' = out_nesting e.leaves c.around now ∙ ap (λ y. nesting_after y e.opens e.closes) h.nesting ∙ nest in
      let r = to.owes (moved c e) (out_late e.leaves c.around now) (record { nesting = level; deep = to.deep; leads = subst (λ y. Leads fs y fs) (sym calm) refl; due = subst FewMade (sym settled) tt }) sound.2 in
      let rest : List Item = items_of (k (moved c e)) in
      let made : List Made = c.due ++ e.made in
      record {
        late = parts.0;
        keeps = λ y.
            subst (λ is. Keeps n ds is) (sym (append_assoc (c.ready ++ map items.Node made) e.says rest ∙ append_assoc c.ready (map items.Node made) (e.says ++ rest)))
            (leads_keep n ds es c.ready (map items.Node made ++ (e.says ++ rest)) h.leads (nodes_keep n es made (e.says ++ rest) (made_append c.due e.made h.due few) (to.says rest y (r.keeps y))));
      }

  -- a sign that opens, closes and says nothing, but makes nodes,
  marked : {G : Type 0} {m n : ℕ} {es : List Entry} (x : Symbol) (p : Spot) (e : Event) (k : Writer) → e.opens ≡ false → e.closes ≡ false → e.says ≡ [] → FewMade e.made → (e.broken ≡ [] → Owes G m n es k) →
      Owes G m n es (write l x p e k)
  marked {G} {m} {n} {es} x p e k a b t f owes =
      sign G m n es m n es x p e k (rw (a, b) refl) f (λ un o d. record { deep = d; says = λ rest y h. rw t h; owes = begins G m n es k (owes un) })

  light : {G : Type 0} {m n : ℕ} {es : List Entry} (x : Symbol) (p : Spot) (e : Event) (k : Writer) → e.opens ≡ false → e.closes ≡ false → e.says ≡ [] → FewMade e.made → Owes G m n es k →
      Owes G m n es (write l x p e k)
  light x p e k a b t f owes = marked x p e k a b t f (λ un. owes)

  -- and one that says what changes nothing.
  said : {G : Type 0} {m n : ℕ} {es : List Entry} (x : Symbol) (p : Spot) (i : Item) (k : Writer) → ((rest : List Item) → Keeps n es rest → Keeps n es (i ∷ rest)) → Owes G m n es k → Owes G m n es (write l x p (saying i) k)
  said {G} {m} {n} {es} x p i k on owes = sign G m n es m n es x p (saying i) k refl tt (λ un o d. record { deep = d; says = λ rest y h. on rest h; owes = begins G m n es k owes })

  -- What is said between signs.
  slotted_deep : (m : ℕ) (es : List Entry) → Deep m es → Deep m (slotted es)
  slotted_deep m [] d = d
  slotted_deep m (e ∷ es) d = let le : length (e ∷ es) ≤ m + 1 = d.most in record { most = omega arith; some = tt }

  placing_none : {G : Type 0} {m n : ℕ} {es : List Entry} (k : Writer) → Owes G m n es k → Owes G m n es (placing [] k)
  placing_none {G} {m} {n} {es} k owes c ds h sound =
      let r = owes (record c { ready = c.ready ++ [] }) ds (record { nesting = h.nesting; deep = h.deep; leads = leads_append ds es es c.ready [] h.leads refl; due = h.due }) sound in
      record { late = r.late; keeps = r.keeps }

  placing_slot : {G : Type 0} {m n : ℕ} (v a b : ℕ) (es : List Entry) (w : Words) (f : SlotForm) (p : Spot) (k : Writer) → Owes G m n (entry v a (b + 1) ∷ es) k → Owes G m n (entry v a b ∷ es) (placing (items.Slot w f p ∷ []) k)
  placing_slot {G} {m} {n} v a b es w f p k owes c ds h sound =
      let r = owes (record c { ready = c.ready ++ items.Slot w f p ∷ [] }) ds
      (record {
        nesting = h.nesting;
        deep = slotted_deep m (entry v a b ∷ es) h.deep;
        leads = leads_append ds (entry v a b ∷ es) (entry v a (b + 1) ∷ es) c.ready (items.Slot w f p ∷ []) h.leads refl;
        due = h.due;
      }) sound in
      record { late = r.late; keeps = r.keeps }

  owing_owes : {G : Type 0} {m n : ℕ} {es : List Entry} (o : Made) (k : Writer) → IsFew o.node → Owes G m n es k → Owes G m n es (owing o k)
  owing_owes o k few owes c ds h sound =
      let r = owes (record c { due = c.due ++ o ∷ [] }) ds (record { nesting = h.nesting; deep = h.deep; leads = h.leads; due = made_append c.due (o ∷ []) h.due (few, tt) }) sound in
      record { late = r.late; keeps = r.keeps }

  finishing_owes : {G : Type 0} {m n : ℕ} {es : List Entry} (k : Writer) → Deep m es → Owes G m n es k → Owes G (m + 1) n es (finishing k)
  finishing_owes {G} {m} {n} {es} k d owes c ds h sound =
      let up : c.nesting ≡ m + 1 = h.nesting in
      let r = owes (record c { nesting = c.nesting - 1 }) ds (record { nesting = omega arith; deep = d; leads = h.leads; due = h.due }) sound in
      record { late = r.late; keeps = r.keeps }

  -- Rules that were told were kept.
  telling_owes : {G : Type 0} {m n : ℕ} {es : List Entry} (H : Type 0) (bs : List Breach) (k : Writer) → (bs ≡ [] → H) → Owes (G × H) m n es k → Owes G m n es (telling bs k)
  telling_owes H bs k so owes c ds h sound =
      let r = owes (record c { late = c.late ++ bs }) ds (record { nesting = h.nesting; deep = h.deep; leads = h.leads; due = h.due }) sound in
      record { late = front_empty c.late bs r.late; keeps = λ y. r.keeps (y, so (back_empty c.late bs r.late)) }

  telling_more : {G : Type 0} {m n : ℕ} {es : List Entry} (bs : List Breach) (k : Writer) → Owes G m n es k → Owes G m n es (telling bs k)
  telling_more bs k owes c ds h sound =
      let r = owes (record c { late = c.late ++ bs }) ds (record { nesting = h.nesting; deep = h.deep; leads = h.leads; due = h.due }) sound in
      record { late = front_empty c.late bs r.late; keeps = r.keeps }

  entering_owes : {G : Type 0} {m n : ℕ} {es : List Entry} (k : Writer) → Owes G m n es k → Owes G m n es (entering k)
  entering_owes k owes c ds h sound =
      let r = owes (record c { pending = 0; nodes = 0; around = record { pending = c.pending; nodes = c.nodes } ∷ c.around }) ds (record { nesting = h.nesting; deep = h.deep; leads = h.leads; due = h.due }) sound in
      record { late = r.late; keeps = r.keeps }

  -- What opens, and what closes.
  opens : {G : Type 0} {m n : ℕ} {es : List Entry} (x : Symbol) (p : Spot) (e : Event) (q : Spot) (k : Writer) → e.opens ≡ true → FewMade e.made → e.says ≡ items.Opened q ∷ [] →
      (Deep m es → Owes G (m + 1) 0 (entry n n 0 ∷ es) k) → Owes G m n es (write l x p e k)
  opens {G} {m} {n} {es} x p e q k a f t owes =
      sign G m n es (m + 1) 0 (entry n n 0 ∷ es) x p e k (rw a refl) f
      (λ un o d.
      let top : m + 1 ≤ 64 = o a in
      let low : length es ≤ m + 1 = d.most in
      record { deep = record { most = omega arith; some = tt }; says = λ rest y h. rw t ((omega arith, d.some), h); owes = begins G (m + 1) 0 (entry n n 0 ∷ es) k (owes d) })

  closes_body : {G : Type 0} {m : ℕ} {es : List Entry} (v a b : ℕ) (x : Symbol) (p : Spot) (e : Event) (k : Writer) → e.opens ≡ false → e.closes ≡ true → FewMade e.made → e.says ≡ items.ClosedBody ∷ [] →
      Deep m es → (G → (a ≤ 5) × (b ≤ 64)) → Owes G m 0 es k → Owes G (m + 1) 0 (entry v a b ∷ es) (write l x p e k)
  closes_body {G} {m} {es} v a b x p e k o c f t d few owes =
      let down : m + 1 - 1 ≡ m = omega arith in
      sign G (m + 1) 0 (entry v a b ∷ es) m 0 es x p e k (rw (o, c) down) f
      (λ un w deep. record { deep = d; says = λ rest y h. rw t ((inner_of (entry v a b) es d.some, few y), h); owes = begins G m 0 es k owes })

  closes_object : {G : Type 0} {m : ℕ} {es : List Entry} (a b : ℕ) (x : Symbol) (p : Spot) (e : Event) (k : Writer) → e.opens ≡ false → e.closes ≡ true → FewMade e.made → e.says ≡ items.ClosedObject ∷ [] →
      Deep m es → Owes G m 0 es k → Owes G (m + 1) 0 (entry 0 a b ∷ es) (write l x p e k)
  closes_object {G} {m} {es} a b x p e k o c f t d owes =
      let down : m + 1 - 1 ≡ m = omega arith in
      sign G (m + 1) 0 (entry 0 a b ∷ es) m 0 es x p e k (rw (o, c) down) f
      (λ un w deep. record { deep = d; says = λ rest y h. rw t ((inner_of (entry 0 a b) es d.some, refl), h); owes = begins G m 0 es k owes })

  ending_owes : {G : Type 0} {m : ℕ} {es : List Entry} (v a c : ℕ) (b : g.Body) (x : Symbol) (q : Spot) (k : Writer) → Deep m es → (G → (a ≤ 5) × (c ≤ 64)) → Owes G m 0 es k →
      Owes G (m + 1) 0 (entry v a c ∷ es) (write l x q (s.ending b q) k)
  ending_owes v a c g.empty x q k d few owes = closes_body v a c x q (s.ending g.empty q) k refl refl (tt, (tt, tt)) refl d few owes
  ending_owes v a c (g.full (g.code ss None e r)) x q k d few owes = closes_body v a c x q (s.ending (g.full (g.code ss None e r)) q) k refl refl (tt, tt) refl d few owes
  ending_owes v a c (g.full (g.code ss (Some r) e u)) x q k d few owes = closes_body v a c x q (s.ending (g.full (g.code ss (Some r) e u)) q) k refl refl tt refl d few owes

  -- Parts of slots and of code.
  slot_name_owes : {G : Type 0} {m n : ℕ} {es : List Entry} (o : Owner) (a b : ℕ) (x : g.Label) (k : s.Listing) → ((u : Scope) → Has o a (b + 1) u → Owes G m n es (k u)) → (u : Scope) → Has o a b u →
      Owes G m n es (s.slot_name l x k u)
  slot_name_owes o a b x k owes u h =
      marked (s.free_name x) x.spot (v'.name_event l u x) _ refl refl refl tt
      (λ un. owes _ (has_named o a (b + 1) (with_local l x.spot u) (x.name ∷ []) (has_local o a b u x.spot h (front_empty (too_many_locals l u) (again u (x.name ∷ []) x.spot) un))))

  argument_owes : {G : Type 0} {m : ℕ} {es : List Entry} (o : Owner) (v a b : ℕ) (x : g.Label) (k : s.Listing) → ((u : Scope) → Has o (a + 1) b u → Owes G m 0 (entry v (a + 1) b ∷ es) (k u)) →
      (u : Scope) → Has o a b u → Owes G m 0 (entry v a b ∷ es) (s.argument l x k u)
  argument_owes {G} {m} {es} o v a b x k owes u h =
      sign G m 0 (entry v a b ∷ es) m 0 (entry v (a + 1) b ∷ es) (symbol.Argument x.name x.setter Free) x.spot (v'.argument_event l u x) _ refl tt
      (λ un w d. record {
        deep = record { most = d.most; some = tt };
        says = λ rest y t. (tt, t);
        owes = begins G m 0 (entry v (a + 1) b ∷ es) _ (owes _ (has_argument o a b u (x.name ∷ []) h (front_empty (too_many_arguments l u.arguments) (again u (x.name ∷ []) x.spot) un)));
      })

  head_argument_owes : {G : Type 0} {m : ℕ} {es : List Entry} (o : Owner) (v : ℕ) (x : g.Label) (k : s.Listing) → ((u : Scope) → Has o (v + 1) 0 u → Owes G m (v + 1) es (k u)) → (u : Scope) → Has o v 0 u →
      Owes G m v es (s.head_argument l x k u)
  head_argument_owes {G} {m} {es} o v x k owes u h =
      sign G m v es m (v + 1) es (s.free_name x) x.spot (v'.head_argument_event l u x) _ refl tt
      (λ un w d. record {
        deep = d;
        says = λ rest y t. (tt, t);
        owes = begins G m (v + 1) es _ (owes _ (has_argument o v 0 u (x.name ∷ []) h (front_empty (too_many_arguments l u.arguments) (again u (x.name ∷ []) x.spot) un)));
      })

  arrow_owes : {G : Type 0} {m n : ℕ} {es : List Entry} (o : Owner) (a b : ℕ) (x : g.Label) (w : g.Word) (k : s.Listing) → ((u : Scope) → Has o a b u → Owes G m n es (k u)) → (u : Scope) → Has o a b u →
      Owes G m n es (s.arrow l x w k u)
  arrow_owes o a b x w k owes u h =
      light (symbol.Operator w.name Arrow) w.spot (record quiet { broken = again u (x.setter ∷ []) x.spot }) _ refl refl refl tt (owes _ (has_named o a b u (x.setter ∷ []) h))

  no_arrow_owes : {G : Type 0} {m n : ℕ} {es : List Entry} (o : Owner) (a b : ℕ) (x : g.Label) (k : s.Listing) → ((u : Scope) → Has o a b u → Owes G m n es (k u)) → (u : Scope) → Has o a b u →
      Owes G m n es (s.no_arrow x k u)
  no_arrow_owes o a b x k owes u h = telling_more (again u (x.setter ∷ []) x.spot) _ (owes _ (has_named o a b u (x.setter ∷ []) h))

  stopped_owes : {G : Type 0} {m n : ℕ} {es : List Entry} (o : Option Spot) (k : Writer) → Owes G m n es k → Owes G m n es (s.stopped l o k)
  stopped_owes None k owes = owes
  stopped_owes (Some p) k owes = light symbol.Period p quiet k refl refl refl tt owes

  delegate_owes : {G : Type 0} {m n : ℕ} {es : List Entry} (x : g.Delegate) (k : Writer) → Owes G m n es k → Owes G m n es (s.delegate l x k)
  delegate_owes x k owes = light (s.delegate_symbol x) (s.delegate_spot x) quiet k refl refl refl tt owes

  path_owes : {G : Type 0} {m n : ℕ} {es : List Entry} (q : g.Path) (k : Writer) → Owes G m n es k → Owes G m n es (s.path l q k)
  path_owes (g.named x) k owes = said (s.any_name x) x.label.spot (items.Root x.label.name x.label.spot) k (λ rest h. (tt, h)) owes
  path_owes (g.under q x) k owes = path_owes q _ (said (s.any_name x) x.label.spot (items.Further x.label.name x.label.spot) k (λ rest h. (tt, h)) owes)

  simple_owes : {G : Type 0} {m n : ℕ} {es : List Entry} (x : g.Simple) (k : Writer) → Owes G m n es k → Owes G m n es (s.simple l x k)
  simple_owes (g.integer z p) k owes = said (symbol.Integer z) p (items.Integer z) k (λ rest h. (tt, h)) owes
  simple_owes (g.string x) k owes = said (symbol.Text x.start x.end) x.spot (items.Text x.start x.end) k (λ rest h. (tt, h)) owes
  simple_owes (g.path q) k owes = path_owes q k owes

  -- what follows a list of slots, by what it has
  abbrev Lists : Type 0 → Owner → ℕ → ℕ → List Entry → s.Listing → Type 0
  Lists G o v m es k = (a b : ℕ) (u : Scope) → Has o a b u → Owes G m 0 (entry v a b ∷ es) (k u)

  local_owes : {G : Type 0} {m : ℕ} {es : List Entry} (o : Owner) (v : ℕ) (x : g.Local) (k : s.Listing) → Lists G o v m es k → Lists G o v m es (s.local l x (λ t. placing (s.local_items x) (k t)))
  local_owes o v (g.local_argument x) k owes a b u h = argument_owes o v a b x _ (λ y t. placing_none (k y) (owes (a + 1) b y t)) u h
  local_owes {G} {m} {es} o v (g.local_bare x) k owes a b u h =
      slot_name_owes o a b x _ (no_arrow_owes o a (b + 1) x _ (λ z t. placing_slot v a b es (One x.name) (form.Bare x.setter) x.spot (k z) (owes a (b + 1) z t))) u h
  local_owes {G} {m} {es} o v (g.local_assignable x w d) k owes a b u h =
      slot_name_owes o a b x _
      (arrow_owes o a (b + 1) x w _ (λ z t. simple_owes d _ (placing_slot v a b es (One x.name) (form.Assignable x.setter) x.spot (k z) (owes a (b + 1) z t)))) u h
  local_owes {G} {m} {es} o v (g.local_constant x e d) k owes a b u h =
      slot_name_owes o a b x _
      (λ z t. light (symbol.Operator e.name Equals) e.spot quiet _ refl refl refl tt (simple_owes d _ (placing_slot v a b es (One x.name) form.Constant x.spot (k z) (owes a (b + 1) z t)))) u h

  locals_before_owes : {G : Type 0} {m : ℕ} {es : List Entry} (o : Owner) (v : ℕ) (ws : g.LocalsBefore) (k : s.Listing) → Lists G o v m es k → Lists G o v m es (s.locals_before l ws k)
  locals_before_owes o v g.no_locals k owes = owes
  locals_before_owes o v (g.more_locals ws x p) k owes =
      locals_before_owes o v ws _ (local_owes o v x (λ z. write l symbol.Period p quiet (k z)) (λ a b z t. light symbol.Period p quiet _ refl refl refl tt (owes a b z t)))

  locals_owes : {G : Type 0} {m : ℕ} {es : List Entry} (o : Owner) (v : ℕ) (ws : g.Locals) (k : s.Listing) → Lists G o v m es k → Lists G o v m es (s.locals l ws k)
  locals_owes o v (g.locals_ended ws) k owes = locals_before_owes o v ws k owes
  locals_owes o v (g.locals_last ws x) k owes = locals_before_owes o v ws _ (local_owes o v x k owes)

  bars_owes : {G : Type 0} {m : ℕ} {es : List Entry} (bs : g.Bars) (k : Writer) → ((a b : ℕ) → a ≤ 5 → b ≤ 64 → Owes G m 0 (entry 0 a b ∷ es) k) → Owes G m 0 (entry 0 0 0 ∷ es) (s.bars l bs k)
  bars_owes g.absent k owes = owes 0 0 (omega arith) (omega arith)
  bars_owes (g.present p ws q) k owes =
      light symbol.Bar p quiet _ refl refl refl tt
      (locals_owes activation 0 ws _ (λ a b u h. light symbol.Bar q quiet _ refl refl refl tt (owes a b h.few (h.surely refl))) 0 0 (scope activation) (has_first activation))

  -- Code.
  mutual
    unary_owes : {G : Type 0} {m : ℕ} {es : List Entry} (u : g.Unary) (k : Writer) → Owes G m 0 es k → Owes G m 0 es (s.unary l u k)
    unary_owes (g.int z p) k owes = light (symbol.Integer z) p (makes p (nodes.Integer z)) k refl refl refl (tt, tt) owes
    unary_owes (g.str x) k owes = light (symbol.Text x.start x.end) x.spot (makes x.spot (nodes.Text x.start x.end)) k refl refl refl (tt, tt) owes
    unary_owes (g.itself w) k owes = light (symbol.Name w.name w.setter Itself) w.spot (makes w.spot nodes.Itself) k refl refl refl (tt, tt) owes
    unary_owes (g.block p bs b q) k owes =
        opens symbol.OpenBracket p (block_opening p) p _ refl (tt, tt) refl
        (λ d. entering_owes _ (bars_owes bs _ (λ x y few less. body_owes b _ (ending_owes 0 x y b symbol.CloseBracket q k d (λ t. (few, less)) owes))))
    unary_owes {G} {m} {es} (g.group p e q) k owes =
        deeply G m 0 es _
        (λ d. sign G m 0 es (m + 1) 0 es symbol.OpenParen p opening _ refl tt
        (λ un o deep. record {
          deep = (let low : length es ≤ m + 1 = d.most in record { most = omega arith; some = d.some });
          says = λ rest y h. h;
          owes = begins G (m + 1) 0 es _ (expression_owes e _ (let down : m + 1 - 1 ≡ m = omega arith in sign G (m + 1) 0 es m 0 es symbol.CloseParen q closing k down tt (λ un o deep. record { deep = d; says = λ rest y h. h; owes = begins G m 0 es k owes })));
        }))
    unary_owes (g.name w) k owes = light (s.free_name w) w.spot (makes w.spot (nodes.Message Implied (One w.name) 0)) k refl refl refl (omega arith, tt) owes
    unary_owes (g.resend_name w) k owes = light (symbol.Name w.name w.setter Resend) w.spot (makes w.spot (nodes.Message Implied (One w.name) 0)) k refl refl refl (omega arith, tt) owes
    unary_owes (g.primitive w) k owes = light (symbol.Primitive w.name) w.spot (makes w.spot (nodes.Primitive (One w.name) 0 true false)) k refl refl refl (omega arith, tt) owes
    unary_owes (g.restart p) k owes = light symbol.Restart p (makes p nodes.Restart) k refl refl refl (tt, tt) owes
    unary_owes (g.resent d w) k owes =
        delegate_owes d _ (light (s.any_name w) w.label.spot (makes (s.delegate_spot d) (nodes.Message (s.delegate_target d) (One w.label.name) 0)) k refl refl refl (omega arith, tt) owes)
    unary_owes (g.sent u w) k owes = unary_owes u _ (light (s.any_name w) w.label.spot (makes w.label.spot (s.unary_message w.label.name)) k refl refl refl (omega arith, tt) owes)
    unary_owes (g.sent_primitive u w) k owes = unary_owes u _ (light (symbol.Primitive w.name) w.spot (makes w.spot (nodes.Primitive (One w.name) 0 false false)) k refl refl refl (omega arith, tt) owes)

    body_owes : {G : Type 0} {m : ℕ} {es : List Entry} (b : g.Body) (k : Writer) → Owes G m 0 es k → Owes G m 0 es (s.body l b k)
    body_owes g.empty k owes = owes
    body_owes (g.full c) k owes = code_owes c k owes

    operands_owes : {G : Type 0} {m : ℕ} {es : List Entry} (us : g.Operands) (o : ℕ) (r : Role) (k : Writer) → Owes G m 0 es k → Owes G m 0 es (s.operands l o r us k)
    operands_owes (g.first u p) o r k owes = unary_owes u _ (light (symbol.Operator o r) p quiet k refl refl refl tt owes)
    operands_owes (g.delegated d p) o r k owes = delegate_owes d _ (light (symbol.Operator o r) p quiet k refl refl refl tt owes)
    operands_owes (g.next us u p) o r k owes =
        operands_owes us o r _ (unary_owes u _ (owing_owes (s.operator_node o us) _ (operator_few o us) (light (symbol.Operator o r) p quiet k refl refl refl tt owes)))

    binary_owes : {G : Type 0} {m : ℕ} {es : List Entry} (b : g.Binary) (k : Writer) → Owes G m 0 es k → Owes G m 0 es (s.binary l b k)
    binary_owes (g.single u) k owes = unary_owes u k owes
    binary_owes (g.several o r us u) k owes = operands_owes us o r _ (unary_owes u _ (owing_owes (s.operator_node o us) k (operator_few o us) owes))

    receiver_owes : {G : Type 0} {m : ℕ} {es : List Entry} (r : g.Receiver) (k : Writer) → Owes G m 0 es k → Owes G m 0 es (s.receiver l r k)
    receiver_owes g.implied k owes = owes
    receiver_owes (g.given b) k owes = binary_owes b k owes

    -- the first word of a message opens it
    message_owes : {G : Type 0} {m : ℕ} {es : List Entry} (x : g.Message) (k : Writer) → Deep m es → Owes G (m + 1) 0 es k → Owes G m 0 es (s.message l x k)
    message_owes {G} {m} {es} (g.opened r o) k d owes =
        let low : length es ≤ m + 1 = d.most in
        receiver_owes r _
        (sign G m 0 es (m + 1) 0 es (s.opening_symbol o) (s.opening_spot o) opening k refl tt (λ un w deep. record { deep = record { most = omega arith; some = d.some }; says = λ rest y h. h; owes = begins G (m + 1) 0 es k owes }))
    message_owes {G} {m} {es} (g.redirected t w) k d owes =
        let low : length es ≤ m + 1 = d.most in
        delegate_owes t _
        (sign G m 0 es (m + 1) 0 es (symbol.Keyword w.name) w.spot opening k refl tt (λ un w deep. record { deep = record { most = omega arith; some = d.some }; says = λ rest y h. h; owes = begins G (m + 1) 0 es k owes }))
    message_owes (g.further x b q) k d owes =
        message_owes x _ d (binary_owes b _ (light (symbol.CapitalKeyword q.word.name q.handles) q.word.spot (v'.part_event l (s.parts x)) k refl refl refl tt owes))

    expression_owes : {G : Type 0} {m : ℕ} {es : List Entry} (e : g.Expression) (k : Writer) → Owes G m 0 es k → Owes G m 0 es (s.expression l e k)
    expression_owes (g.plain b) k owes = binary_owes b k owes
    expression_owes {G} {m} {es} (g.keyed x e) k owes =
        deeply G m 0 es _ (λ d. message_owes x _ d (expression_owes e _ (owing_owes (s.message_node x) _ (message_few x) (finishing_owes k d owes))))

    statements_owes : {G : Type 0} {m : ℕ} {es : List Entry} (ss : g.Statements) (k : Writer) → Owes G m 0 es k → Owes G m 0 es (s.statements l ss k)
    statements_owes g.none k owes = owes
    statements_owes (g.more ss e p) k owes = statements_owes ss _ (expression_owes e _ (light symbol.Period p quiet _ refl refl refl tt (owing_owes (node p nodes.Drop) k tt owes)))

    code_owes : {G : Type 0} {m : ℕ} {es : List Entry} (x : g.Code) (k : Writer) → Owes G m 0 es k → Owes G m 0 es (s.code l x k)
    code_owes (g.code ss None e q) k owes = statements_owes ss _ (expression_owes e _ (stopped_owes q k owes))
    code_owes (g.code ss (Some r) e q) k owes =
        statements_owes ss _ (light symbol.Caret r quiet _ refl refl refl tt (expression_owes e _ (owing_owes (node r nodes.Return) _ tt (stopped_owes q k owes))))

  -- The names of slots, and the arguments among them.
  keyword_event_owes : {G : Type 0} {m n : ℕ} {es : List Entry} (o : Owner) (a b : ℕ) (x : g.Word) (k : s.Listing) → ((u : Scope) → Has o a (b + 1) u → Owes G m n es (k u)) → (u : Scope) → Has o a b u →
      Owes G m n es (s.first_keyword l x k u)
  keyword_event_owes o a b x k owes u h = marked (symbol.Keyword x.name) x.spot (v'.keyword_event l u x) _ refl refl refl tt (λ un. owes _ (has_local o a b u x.spot h un))

  keyword_name_owes : {G : Type 0} {m n : ℕ} {es : List Entry} (o : Owner) (a b : ℕ) (x : g.KeywordName) (k : s.Listing) → ((u : Scope) → Has o a (b + 1) u → Owes G m n es (k u)) → (u : Scope) → Has o a b u →
      Owes G m n es (s.keyword_name l x k u)
  keyword_name_owes o a b (g.keyword_first x) k owes u h = keyword_event_owes o a b x k owes u h
  keyword_name_owes o a b (g.keyword_next n q) k owes u h =
      keyword_name_owes o a b n _ (λ y t. light (symbol.CapitalKeyword q.word.name q.handles) q.word.spot (v'.part_event l (s.count n)) (k y) refl refl refl tt (owes y t)) u h

  keyword_head_owes : {G : Type 0} {m : ℕ} {es : List Entry} (o : Owner) (a b : ℕ) (x : g.KeywordHead) (k : Scope → s.Listing) →
      ((u i : Scope) (v : ℕ) → Has o a (b + 1) u → Has activation v 0 i → Owes G m v es (k u i)) → (u : Scope) → Has o a b u → Owes G m 0 es (s.keyword_head l x k u)
  keyword_head_owes o a b (g.head_first x w) k owes u h =
      keyword_event_owes o a b x _ (λ y t. head_argument_owes activation 0 w _ (λ i r. owes y i 1 t r) (scope activation) (has_first activation)) u h
  keyword_head_owes o a b (g.head_next n q w) k owes u h =
      keyword_head_owes o a b n _
      (λ y i v t r. light (symbol.CapitalKeyword q.word.name q.handles) q.word.spot (v'.part_event l (s.count (s.head_name n))) _ refl refl refl tt (head_argument_owes activation v w (k y) (λ j z. owes y j (v + 1) t z) i r)) u h

  operator_name_owes : {G : Type 0} {m n : ℕ} {es : List Entry} (o : Owner) (a b : ℕ) (x : g.AnyOperator) (k : s.Listing) → ((u : Scope) → Has o a (b + 1) u → Owes G m n es (k u)) → (u : Scope) → Has o a b u →
      Owes G m n es (s.operator_name l x k u)
  operator_name_owes o a b x k owes u h =
      marked (symbol.Operator x.word.name x.role) x.word.spot (v'.operator_event l u x) _ refl refl refl tt
      (λ un. owes _ (has_named o a (b + 1) (with_local l x.word.spot u) (x.word.name ∷ []) (has_local o a b u x.word.spot h (front_empty (too_many_locals l u) (again u (x.word.name ∷ []) x.word.spot) un))))

  head_owes : {G : Type 0} {m : ℕ} {es : List Entry} (o : Owner) (a b : ℕ) (x : g.Head) (k : s.Named → Writer) →
      ((n : s.Named) (i : Owner) (v : ℕ) → Has o a (b + 1) n.around → Has i v 0 n.inner → Owes G m v es (k n)) → (u : Scope) → Has o a b u → Owes G m 0 es (s.head l x k u)
  head_owes o a b (g.unary_head x) k owes u h =
      slot_name_owes o a b x _ (λ y t. owes (record { around = y; inner = scope either; wanted = 0; spot = x.spot; broken = [] }) either 0 t (has_first either)) u h
  head_owes o a b (g.operator_with x w) k owes u h =
      operator_name_owes o a b x _
      (λ y t. head_argument_owes activation 0 w _ (λ i r. owes (record { around = y; inner = i; wanted = 1; spot = x.word.spot; broken = [] }) activation 1 t r) (scope activation) (has_first activation)) u h
  head_owes o a b (g.operator x) k owes u h =
      operator_name_owes o a b x _ (λ y t. owes (record { around = y; inner = scope activation; wanted = 1; spot = x.word.spot; broken = [] }) activation 0 t (has_first activation)) u h
  head_owes o a b (g.keyword_with n) k owes u h =
      keyword_head_owes o a b n _ (λ y i v t r. owes (s.keyword_named (s.head_name n) y i) activation v (has_named o a (b + 1) y _ t) r) u h
  head_owes o a b (g.keyword n) k owes u h =
      keyword_name_owes o a b n _ (λ y t. owes (s.keyword_named n y (scope activation)) activation 0 (has_named o a (b + 1) y _ t) (has_first activation)) u h

  -- Slots and what fills them.
  mutual
    datum_owes : {G : Type 0} {m : ℕ} {es : List Entry} (d : g.Datum) (o : Owner) (k : Writer) → Owes G m 0 es k → Owes G m 0 es (s.datum l o d k)
    datum_owes (g.simple d) o k owes = simple_owes d k owes
    datum_owes (g.object x) o k owes = object_owes x o k owes

    object_owes : {G : Type 0} {m : ℕ} {es : List Entry} (x : g.Object) (o : Owner) (k : Writer) → Owes G m 0 es k → Owes G m 0 es (s.object l o x k)
    object_owes (g.empty_object p q) o k owes =
        opens symbol.OpenParen p (record (s.opening_item p) { next = None }) p _ refl tt refl (λ d. closes_object 0 0 symbol.CloseParen q (v'.empty_object_end p) k refl refl tt refl d owes)
    object_owes (g.slotted_object p b ss b2 q) o k owes =
        opens symbol.OpenParen p (record (s.opening_item p) { next = None }) p _ refl tt refl
        (λ d. light symbol.Bar b quiet _ refl refl refl tt
        (slots_owes o 0 ss _ (λ x y u h. light symbol.Bar b2 quiet _ refl refl refl tt (closes_object x y symbol.CloseParen q (v'.object_end p u) k refl refl tt refl d owes)) 0 0 (scope o) (has_first o)))

    method_owes : {G : Type 0} {m : ℕ} {es : List Entry} (i : Owner) (v : ℕ) (x : g.Method) (n : s.Named) (k : Writer) → Has i v 0 n.inner → Owes G m 0 es k → Owes G m v es (s.method l n x k)
    method_owes i v (g.bare_method p b q) n k has owes =
        opens symbol.OpenParen p (record (s.opening_item p) { next = s.wants_bar n }) p _ refl tt refl
        (λ d. entering_owes _ (code_owes b _ (ending_owes v v 0 (g.full b) symbol.CloseParen q k d (λ t. (has.few, omega arith)) owes)))
    method_owes {G} {m} {es} i v (g.slotted_method p b ss b2 x q) n k has owes =
        opens symbol.OpenParen p (record (s.opening_item p) { next = s.wants_bar n }) p _ refl tt refl
        (λ d. light symbol.Bar b quiet _ refl refl refl tt
        (slots_owes i v ss _
        (λ y z u h. light symbol.Bar b2 (record quiet { broken = s.at_bar n u }) _ refl refl refl tt
        (entering_owes _
        (telling_owes (z ≤ 64) (s.at_code n u) _ (λ e. late_few i y z u h (back_empty _ (late_locals u) e))
        (code_owes x _ (ending_owes v y z (g.full x) symbol.CloseParen q k d (λ t. (h.few, t.1)) (weaker G (z ≤ 64) m 0 es k owes))))))
        v 0 n.inner has))

    method_slot_owes : {G : Type 0} {m : ℕ} {es : List Entry} (o : Owner) (v : ℕ) (x : g.MethodSlot) (k : s.Listing) → Lists G o v m es k → Lists G o v m es (s.method_slot l x (λ t. placing (s.method_items x) (k t)))
    method_slot_owes {G} {m} {es} o v (g.method h e x) k owes a b u has =
        head_owes o a b h _
        (λ n i w t r. light (symbol.Operator e.name Equals) e.spot (record quiet { broken = n.broken }) _ refl refl refl tt
        (method_owes i w x n _ r (placing_slot v a b es (s.head_words h) form.Method (s.head_spot h) (k (not_plain n.around)) (owes a (b + 1) (not_plain n.around) (has_plain o a (b + 1) n.around t))))) u has

    member_owes : {G : Type 0} {m : ℕ} {es : List Entry} (o : Owner) (v : ℕ) (x : g.Member) (k : s.Listing) → Lists G o v m es k → Lists G o v m es (s.member l x (λ t. placing (s.member_items x) (k t)))
    member_owes {G} {m} {es} o v (g.constant x e d) k owes a b u h =
        slot_name_owes o a b x _
        (λ z t. light (symbol.Operator e.name Equals) e.spot quiet _ refl refl refl tt
        (datum_owes d either _ (placing_slot v a b es (One x.name) form.Constant x.spot (k (s.holding d z)) (owes a (b + 1) (s.holding d z) (has_holding o a (b + 1) z d t))))) u h
    member_owes {G} {m} {es} o v (g.assignable x w d) k owes a b u h =
        slot_name_owes o a b x _
        (arrow_owes o a (b + 1) x w _
        (λ z t. datum_owes d holder _ (placing_slot v a b es (One x.name) (form.Assignable x.setter) x.spot (k (s.holding d z)) (owes a (b + 1) (s.holding d z) (has_holding o a (b + 1) z d t))))) u h
    member_owes {G} {m} {es} o v (g.bare x) k owes a b u h =
        slot_name_owes o a b x _ (no_arrow_owes o a (b + 1) x _ (λ z t. placing_slot v a b es (One x.name) (form.Bare x.setter) x.spot (k z) (owes a (b + 1) z t))) u h
    member_owes {G} {m} {es} o v (g.parent x w e d) k owes a b u h =
        slot_name_owes o a b x _
        (λ z t. light (symbol.Operator w.name Star) w.spot quiet _ refl refl refl tt
        (light (symbol.Operator e.name Equals) e.spot quiet _ refl refl refl tt
        (datum_owes d holder _ (placing_slot v a b es (One x.name) form.Parent x.spot (k (not_plain z)) (owes a (b + 1) (not_plain z) (has_plain o a (b + 1) z t)))))) u h
    member_owes o v (g.coded x) k owes a b u h = method_slot_owes o v x k owes a b u h

    slot_owes : {G : Type 0} {m : ℕ} {es : List Entry} (o : Owner) (v : ℕ) (x : g.Slot) (k : s.Listing) → Lists G o v m es k → Lists G o v m es (s.slot l x (λ t. placing (s.slot_items x) (k t)))
    slot_owes o v (g.member x) k owes a b u h = member_owes o v x k owes a b u h
    slot_owes o v (g.argument x) k owes a b u h = argument_owes o v a b x _ (λ y t. placing_none (k y) (owes (a + 1) b y t)) u h

    slots_before_owes : {G : Type 0} {m : ℕ} {es : List Entry} (o : Owner) (v : ℕ) (ss : g.SlotsBefore) (k : s.Listing) → Lists G o v m es k → Lists G o v m es (s.slots_before l ss k)
    slots_before_owes o v g.no_slots k owes = owes
    slots_before_owes o v (g.more_slots ss x p) k owes =
        slots_before_owes o v ss _ (slot_owes o v x (λ z. write l symbol.Period p quiet (k z)) (λ a b z t. light symbol.Period p quiet _ refl refl refl tt (owes a b z t)))

    slots_owes : {G : Type 0} {m : ℕ} {es : List Entry} (o : Owner) (v : ℕ) (ss : g.Slots) (k : s.Listing) → Lists G o v m es k → Lists G o v m es (s.slots l ss k)
    slots_owes o v (g.slots_ended ss) k owes = slots_before_owes o v ss k owes
    slots_owes o v (g.slots_last ss x) k owes = slots_before_owes o v ss _ (slot_owes o v x k owes)

  members_before_owes : {G : Type 0} {m : ℕ} {es : List Entry} (o : Owner) (v : ℕ) (ms : g.MembersBefore) (k : s.Listing) → Lists G o v m es k → Lists G o v m es (s.members_before l ms k)
  members_before_owes o v g.no_members k owes = owes
  members_before_owes o v (g.more_members ms x p) k owes =
      members_before_owes o v ms _ (member_owes o v x (λ z. write l symbol.Period p quiet (k z)) (λ a b z t. light symbol.Period p quiet _ refl refl refl tt (owes a b z t)))

  -- The end of a world.
  finish_owes : (p : Spot) → Lists (Unit {0}) holder 0 0 [] (λ u. s.finish l p)
  finish_owes p a b u h =
      sign (Unit {0}) 0 0 (entry 0 a b ∷ []) 0 0 (entry 0 a b ∷ []) symbol.End p quiet (λ c. []) refl tt (λ un o d. record { deep = d; says = λ rest y k. k; owes = λ c e st sound. record { late = e; keeps = λ y. tt } })

  world_owes : (x : g.World) → AreSound (s.world l x) → Keeps 0 (entry 0 0 0 ∷ []) (items_of (s.world l x))
  world_owes (g.world_ended ms p) sound =
      (members_before_owes holder 0 ms _ (finish_owes p) 0 0 (scope holder) (has_first holder) (s.at_first 1) (entry 0 0 0 ∷ [])
      (record { nesting = refl; deep = record { most = omega arith; some = tt }; leads = refl; due = tt }) sound).keeps tt
  world_owes (g.world_last ms x p) sound =
      (members_before_owes holder 0 ms _ (member_owes holder 0 x (λ u. s.finish l p) (finish_owes p)) 0 0 (scope holder) (has_first holder) (s.at_first 1) (entry 0 0 0 ∷ [])
      (record { nesting = refl; deep = record { most = omega arith; some = tt }; leads = refl; due = tt }) sound).keeps tt

-- The items of a text with nothing wrong are right.
pub world_keeps : (l : Limits) (given : List Sign) (x : g.World) → l.arguments ≤ 5 → l.locals ≤ 64 → l.nesting ≤ 64 → IsText (s.world l) given x → Keeps 0 (entry 0 0 0 ∷ []) (items_of (s.world l x))
world_keeps l given x la ll ln h = world_owes l la ll ln x h.1
