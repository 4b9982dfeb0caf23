-- The items of a text weigh no more than its signs, whatever the names weigh: an argument weighs what its name does, and a slot what the parts of its
-- name do; each of these names is spelled by a sign of its own.
use Rattle.std.specs.Prelude.{◌≡◌, ℕ, ◌+◌, ◌-◌, ◌≤◌, Bool, true, false, if◌then◌else◌, Option, None, Some, List, [], ◌∷◌, ◌++◌, map, refl}
use Rattle.std.proofs.Common.{ap, arith}
use Rattle.self_grammar.specs.declared.signs.Spot.{Spot}
use Rattle.self_grammar.specs.declared.signs.Reserved.TheVariants.{Free, Itself, Resend}
use Rattle.self_grammar.specs.declared.signs.Role.{Role}
use Rattle.self_grammar.specs.declared.signs.Role.TheVariants.{Equals, Arrow, Star}
use Rattle.self_grammar.specs.declared.signs.Symbol.{Symbol}
use Rattle.self_grammar.specs.declared.signs.Symbol.TheVariants as symbol
use Rattle.self_grammar.specs.declared.signs.Sign.{Sign}
use Rattle.self_grammar.specs.declared.pieces.Words.{Words}
use Rattle.self_grammar.specs.declared.pieces.Words.TheVariants as words
use Rattle.self_grammar.specs.declared.pieces.Words.TheVariants.{One}
use Rattle.self_grammar.specs.declared.pieces.Target.TheVariants.{Implied}
use Rattle.self_grammar.specs.declared.pieces.Made.{Made}
use Rattle.self_grammar.specs.declared.pieces.TextNode.TheVariants as nodes
use Rattle.self_grammar.specs.declared.pieces.Item.{Item}
use Rattle.self_grammar.specs.declared.pieces.Item.TheVariants as items
use Rattle.self_grammar.specs.Parts.{parts_in, followed_by}
use Rattle.self_grammar.specs.Grammar as g
use Rattle.self_grammar.specs.Counts.{Limits, node, quiet, opening, closing, makes, saying, Breach, Held, Context, Event, Mark, Writer, write, owing, telling, placing, entering, finishing, items_at, counted, resumed, moved}
use Rattle.self_grammar.specs.Scopes.{Owner, either, Scope, scope, activation, holder, again, with_local, not_plain}
use Rattle.self_grammar.specs.Spelling as s
use Rattle.self_grammar.specs.Spelling.{items_of}
use Rattle.self_grammar.specs.Refusal.{signs, IsText}
use Rattle.self_grammar.proofs.Places.{block_opening}
use Rattle.self_grammar.proofs.SlotMoves as v'
use Rattle.world_build.proofs.BodyWeights.{sum_of, worths}

-- A sign weighs what the name does that it spells.
abbrev pub sign_worth : (ℕ → ℕ) → Symbol → ℕ
sign_worth w (symbol.Name n t r) = w n
sign_worth w (symbol.Keyword n) = w n
sign_worth w (symbol.CapitalKeyword n h) = w n
sign_worth w (symbol.Argument n t r) = w n
sign_worth w (symbol.Operator n r) = w n
sign_worth w _ = 0

abbrev pub sign_worths : (ℕ → ℕ) → List Sign → ℕ
sign_worths w [] = 0
sign_worths w (x ∷ xs) = sign_worth w x.symbol + sign_worths w xs

-- The end of a body leaves no slot.
out_ready : (b : Bool) (hs : List Held) (c : Context) → (if b then resumed hs c else c).ready ≡ c.ready
out_ready true [] c = refl
out_ready true (h ∷ hs) c = refl
out_ready false hs c = refl

-- What these marks say weighs no more than so much, and the slots not yet said, and their signs.
record Pays (w : ℕ → ℕ) (paid : ℕ) (ready : List Item) (ms : List Mark) : Type 0 where
  below : worths w (items_of ms) ≤ paid + worths w ready + sign_worths w (signs ms)

module _ (w : ℕ → ℕ) (l : Limits) where
  worths_both : (is js : List Item) → worths w (is ++ js) ≡ worths w is + worths w js
  worths_both [] js = omega arith
  worths_both (i ∷ is) js = omega (arith, worths_both is js)

  made_light : (ms : List Made) → worths w (map items.Node ms) ≡ 0
  made_light [] = refl
  made_light (m ∷ ms) = omega (arith, made_light ms)

  -- the items of a sign
  worths_at : (c : Context) (e : Event) (rest : List Item) → worths w (items_at c e ++ rest) ≡ worths w c.ready + worths w e.says + worths w rest
  worths_at c e rest =
      let a : worths w (items_at c e ++ rest) ≡ worths w (items_at c e) + worths w rest = worths_both (items_at c e) rest in
      let b : worths w (items_at c e) ≡ worths w (c.ready ++ map items.Node (c.due ++ e.made)) + worths w e.says = worths_both (c.ready ++ map items.Node (c.due ++ e.made)) e.says in
      let d : worths w (c.ready ++ map items.Node (c.due ++ e.made)) ≡ worths w c.ready + worths w (map items.Node (c.due ++ e.made)) = worths_both c.ready (map items.Node (c.due ++ e.made)) in
      omega (arith, made_light (c.due ++ e.made))

  -- a name with one part more; a sixth is left out
  one_more : (x : Words) (n : ℕ) → sum_of w (parts_in (followed_by x n)) ≤ sum_of w (parts_in x) + w n
  one_more (words.One a) n = omega arith
  one_more (words.Two a b) n = omega arith
  one_more (words.Three a b c) n = omega arith
  one_more (words.Four a b c d) n = omega arith
  one_more (words.Five a b c d e) n = omega arith

  -- What follows weighs no more than its signs and so much, which signs before it paid.
  abbrev Owes : ℕ → Writer → Type 0
  Owes n k = (c : Context) → Pays w n c.ready (k c)

  -- A sign: what it says, and what is owed behind it, is paid before it or by it.
  sign : (x : Symbol) (p : Spot) (e : Event) (a b : ℕ) (k : Writer) → worths w e.says + b ≤ a + sign_worth w x → Owes b k → Owes a (write l x p e k)
  sign x p e a b k fits owes c =
      let calm : (moved c e).ready ≡ [] = out_ready e.leaves c.around (counted c e) in
      let rest = (owes (moved c e)).below in
      let none_ready : worths w (moved c e).ready ≡ 0 = ap (worths w) calm in
      let all = worths_at c e (items_of (k (moved c e))) in
      record { below = omega arith }

  -- one that says nothing with a weight
  light : {n : ℕ} (x : Symbol) (p : Spot) (e : Event) (k : Writer) → worths w e.says ≡ 0 → Owes n k → Owes n (write l x p e k)
  light {n} x p e k free owes = sign x p e n n k (omega arith) owes

  -- What is said between signs.
  placing_owes : (n : ℕ) (is : List Item) (k : Writer) → Owes n k → Owes (n + worths w is) (placing is k)
  placing_owes n is k owes c =
      let all : worths w (c.ready ++ is) ≡ worths w c.ready + worths w is = worths_both c.ready is in
      let rest = (owes (record c { ready = c.ready ++ is })).below in
      record { below = omega arith }

  owing_owes : (n : ℕ) (o : Made) (k : Writer) → Owes n k → Owes n (owing o k)
  owing_owes n o k owes c = record { below = (owes (record c { due = c.due ++ o ∷ [] })).below }

  finishing_owes : {n : ℕ} (k : Writer) → Owes n k → Owes n (finishing k)
  finishing_owes k owes c = record { below = (owes (record c { nesting = c.nesting - 1 })).below }

  telling_owes : {n : ℕ} (bs : List Breach) (k : Writer) → Owes n k → Owes n (telling bs k)
  telling_owes bs k owes c = record { below = (owes (record c { late = c.late ++ bs })).below }

  entering_owes : {n : ℕ} (k : Writer) → Owes n k → Owes n (entering k)
  entering_owes k owes c = record { below = (owes (record c { pending = 0; nodes = 0; around = record { pending = c.pending; nodes = c.nodes } ∷ c.around })).below }

  -- Parts of slots and of code.
  slot_name_owes : (a b : ℕ) (x : g.Label) (k : s.Listing) → b ≤ a + w x.name → ((u : Scope) → Owes b (k u)) → (u : Scope) → Owes a (s.slot_name l x k u)
  slot_name_owes a b x k fits owes u = sign (s.free_name x) x.spot (v'.name_event l u x) a b _ (omega (arith, fits)) (owes _)

  argument_owes : (a b : ℕ) (x : g.Label) (k : s.Listing) → b ≤ a → ((u : Scope) → Owes b (k u)) → (u : Scope) → Owes a (s.argument l x k u)
  argument_owes a b x k fits owes u = sign (symbol.Argument x.name x.setter Free) x.spot (v'.argument_event l u x) a b _ (omega (arith, fits)) (owes _)

  head_argument_owes : {n : ℕ} (x : g.Label) (k : s.Listing) → ((u : Scope) → Owes n (k u)) → (u : Scope) → Owes n (s.head_argument l x k u)
  head_argument_owes {n} x k owes u = sign (s.free_name x) x.spot (v'.head_argument_event l u x) n n _ (omega arith) (owes _)

  arrow_owes : {n : ℕ} (x : g.Label) (a : g.Word) (k : s.Listing) → ((u : Scope) → Owes n (k u)) → (u : Scope) → Owes n (s.arrow l x a k u)
  arrow_owes x a k owes u = light (symbol.Operator a.name Arrow) a.spot (record quiet { broken = again u (x.setter ∷ []) x.spot }) _ refl (owes _)

  no_arrow_owes : {n : ℕ} (x : g.Label) (k : s.Listing) → ((u : Scope) → Owes n (k u)) → (u : Scope) → Owes n (s.no_arrow x k u)
  no_arrow_owes x k owes u = telling_owes (again u (x.setter ∷ []) x.spot) _ (owes _)

  stopped_owes : {n : ℕ} (o : Option Spot) (k : Writer) → Owes n k → Owes n (s.stopped l o k)
  stopped_owes None k owes = owes
  stopped_owes (Some p) k owes = light symbol.Period p quiet k refl owes

  delegate_owes : {n : ℕ} (x : g.Delegate) (k : Writer) → Owes n k → Owes n (s.delegate l x k)
  delegate_owes x k owes = light (s.delegate_symbol x) (s.delegate_spot x) quiet k refl owes

  ending_owes : {n : ℕ} (b : g.Body) (x : Symbol) (q : Spot) (k : Writer) → Owes n k → Owes n (write l x q (s.ending b q) k)
  ending_owes g.empty x q k owes = light x q (s.ending g.empty q) k refl owes
  ending_owes (g.full (g.code ss None e r)) x q k owes = light x q (s.ending (g.full (g.code ss None e r)) q) k refl owes
  ending_owes (g.full (g.code ss (Some r) e u)) x q k owes = light x q (s.ending (g.full (g.code ss (Some r) e u)) q) k refl owes

  path_owes : {n : ℕ} (q : g.Path) (k : Writer) → Owes n k → Owes n (s.path l q k)
  path_owes (g.named x) k owes = light (s.any_name x) x.label.spot (saying (items.Root x.label.name x.label.spot)) k refl owes
  path_owes (g.under q x) k owes = path_owes q _ (light (s.any_name x) x.label.spot (saying (items.Further x.label.name x.label.spot)) k refl owes)

  simple_owes : {n : ℕ} (x : g.Simple) (k : Writer) → Owes n k → Owes n (s.simple l x k)
  simple_owes (g.integer z p) k owes = light (symbol.Integer z) p (saying (items.Integer z)) k refl owes
  simple_owes (g.string x) k owes = light (symbol.Text x.start x.end) x.spot (saying (items.Text x.start x.end)) k refl owes
  simple_owes (g.path q) k owes = path_owes q k owes

  local_owes : (n : ℕ) (x : g.Local) (k : s.Listing) → ((u : Scope) → Owes (n + worths w (s.local_items x)) (k u)) → (u : Scope) → Owes n (s.local l x k u)
  local_owes n (g.local_argument x) k owes u = argument_owes n (n + 0) x k (omega arith) owes u
  local_owes n (g.local_bare x) k owes u = slot_name_owes n (n + worths w (s.local_items (g.local_bare x))) x _ (omega arith) (no_arrow_owes x k owes) u
  local_owes n (g.local_assignable x a d) k owes u =
      slot_name_owes n (n + worths w (s.local_items (g.local_assignable x a d))) x _ (omega arith) (arrow_owes x a _ (λ y. simple_owes d (k y) (owes y))) u
  local_owes n (g.local_constant x e d) k owes u =
      slot_name_owes n (n + worths w (s.local_items (g.local_constant x e d))) x _ (omega arith) (λ y. light (symbol.Operator e.name Equals) e.spot quiet _ refl (simple_owes d (k y) (owes y))) u

  locals_before_owes : (n : ℕ) (ws : g.LocalsBefore) (k : s.Listing) → ((u : Scope) → Owes n (k u)) → (u : Scope) → Owes n (s.locals_before l ws k u)
  locals_before_owes n g.no_locals k owes u = owes u
  locals_before_owes n (g.more_locals ws x p) k owes u =
      locals_before_owes n ws _ (λ y. local_owes n x _ (λ z. placing_owes n (s.local_items x) _ (light symbol.Period p quiet _ refl (owes z))) y) u

  locals_owes : (n : ℕ) (ws : g.Locals) (k : s.Listing) → ((u : Scope) → Owes n (k u)) → (u : Scope) → Owes n (s.locals l ws k u)
  locals_owes n (g.locals_ended ws) k owes u = locals_before_owes n ws k owes u
  locals_owes n (g.locals_last ws x) k owes u = locals_before_owes n ws _ (λ y. local_owes n x _ (λ z. placing_owes n (s.local_items x) _ (owes z)) y) u

  bars_owes : (n : ℕ) (bs : g.Bars) (k : Writer) → Owes n k → Owes n (s.bars l bs k)
  bars_owes n g.absent k owes = owes
  bars_owes n (g.present p ws q) k owes = light symbol.Bar p quiet _ refl (locals_owes n ws _ (λ u. light symbol.Bar q quiet _ refl owes) (scope activation))

  -- Code.
  mutual
    unary_owes : (n : ℕ) (u : g.Unary) (k : Writer) → Owes n k → Owes n (s.unary l u k)
    unary_owes n (g.int z p) k owes = light (symbol.Integer z) p (makes p (nodes.Integer z)) k refl owes
    unary_owes n (g.str x) k owes = light (symbol.Text x.start x.end) x.spot (makes x.spot (nodes.Text x.start x.end)) k refl owes
    unary_owes n (g.itself w) k owes = light (symbol.Name w.name w.setter Itself) w.spot (makes w.spot nodes.Itself) k refl owes
    unary_owes n (g.block p bs b q) k owes =
        light symbol.OpenBracket p (block_opening p) _ refl (entering_owes _ (bars_owes n bs _ (body_owes n b _ (ending_owes b symbol.CloseBracket q k owes))))
    unary_owes n (g.group p e q) k owes = light symbol.OpenParen p opening _ refl (expression_owes n e _ (light symbol.CloseParen q closing k refl owes))
    unary_owes n (g.name w) k owes = light (s.free_name w) w.spot (makes w.spot (nodes.Message Implied (One w.name) 0)) k refl owes
    unary_owes n (g.resend_name w) k owes = light (symbol.Name w.name w.setter Resend) w.spot (makes w.spot (nodes.Message Implied (One w.name) 0)) k refl owes
    unary_owes n (g.primitive w) k owes = light (symbol.Primitive w.name) w.spot (makes w.spot (nodes.Primitive (One w.name) 0 true false)) k refl owes
    unary_owes n (g.restart p) k owes = light symbol.Restart p (makes p nodes.Restart) k refl owes
    unary_owes n (g.resent d w) k owes =
        delegate_owes d _ (light (s.any_name w) w.label.spot (makes (s.delegate_spot d) (nodes.Message (s.delegate_target d) (One w.label.name) 0)) k refl owes)
    unary_owes n (g.sent u w) k owes = unary_owes n u _ (light (s.any_name w) w.label.spot (makes w.label.spot (s.unary_message w.label.name)) k refl owes)
    unary_owes n (g.sent_primitive u w) k owes = unary_owes n u _ (light (symbol.Primitive w.name) w.spot (makes w.spot (nodes.Primitive (One w.name) 0 false false)) k refl owes)

    body_owes : (n : ℕ) (b : g.Body) (k : Writer) → Owes n k → Owes n (s.body l b k)
    body_owes n g.empty k owes = owes
    body_owes n (g.full c) k owes = code_owes n c k owes

    operands_owes : (n : ℕ) (us : g.Operands) (o : ℕ) (r : Role) (k : Writer) → Owes n k → Owes n (s.operands l o r us k)
    operands_owes n (g.first u p) o r k owes = unary_owes n u _ (light (symbol.Operator o r) p quiet k refl owes)
    operands_owes n (g.delegated d p) o r k owes = delegate_owes d _ (light (symbol.Operator o r) p quiet k refl owes)
    operands_owes n (g.next us u p) o r k owes =
        operands_owes n us o r _ (unary_owes n u _ (owing_owes n (s.operator_node o us) _ (light (symbol.Operator o r) p quiet k refl owes)))

    binary_owes : (n : ℕ) (b : g.Binary) (k : Writer) → Owes n k → Owes n (s.binary l b k)
    binary_owes n (g.single u) k owes = unary_owes n u k owes
    binary_owes n (g.several o r us u) k owes = operands_owes n us o r _ (unary_owes n u _ (owing_owes n (s.operator_node o us) k owes))

    receiver_owes : (n : ℕ) (r : g.Receiver) (k : Writer) → Owes n k → Owes n (s.receiver l r k)
    receiver_owes n g.implied k owes = owes
    receiver_owes n (g.given b) k owes = binary_owes n b k owes

    message_owes : (n : ℕ) (x : g.Message) (k : Writer) → Owes n k → Owes n (s.message l x k)
    message_owes n (g.opened r o) k owes = receiver_owes n r _ (light (s.opening_symbol o) (s.opening_spot o) opening k refl owes)
    message_owes n (g.redirected d w) k owes = delegate_owes d _ (light (symbol.Keyword w.name) w.spot opening k refl owes)
    message_owes n (g.further x b q) k owes =
        message_owes n x _ (binary_owes n b _ (light (symbol.CapitalKeyword q.word.name q.handles) q.word.spot (v'.part_event l (s.parts x)) k refl owes))

    expression_owes : (n : ℕ) (e : g.Expression) (k : Writer) → Owes n k → Owes n (s.expression l e k)
    expression_owes n (g.plain b) k owes = binary_owes n b k owes
    expression_owes n (g.keyed x e) k owes = message_owes n x _ (expression_owes n e _ (owing_owes n (s.message_node x) _ (finishing_owes k owes)))

    statements_owes : (n : ℕ) (ss : g.Statements) (k : Writer) → Owes n k → Owes n (s.statements l ss k)
    statements_owes n g.none k owes = owes
    statements_owes n (g.more ss e p) k owes = statements_owes n ss _ (expression_owes n e _ (light symbol.Period p quiet _ refl (owing_owes n (node p nodes.Drop) k owes)))

    code_owes : (n : ℕ) (x : g.Code) (k : Writer) → Owes n k → Owes n (s.code l x k)
    code_owes n (g.code ss None e q) k owes = statements_owes n ss _ (expression_owes n e _ (stopped_owes q k owes))
    code_owes n (g.code ss (Some r) e q) k owes =
        statements_owes n ss _ (light symbol.Caret r quiet _ refl (expression_owes n e _ (owing_owes n (node r nodes.Return) _ (stopped_owes q k owes))))

  -- The names of slots.
  keyword_name_owes : (a b : ℕ) (n : g.KeywordName) (k : s.Listing) → b ≤ a + sum_of w (parts_in (s.words n)) → ((u : Scope) → Owes b (k u)) → (u : Scope) → Owes a (s.keyword_name l n k u)
  keyword_name_owes a b (g.keyword_first x) k fits owes u = sign (symbol.Keyword x.name) x.spot (v'.keyword_event l u x) a b _ (omega (arith, fits)) (owes _)
  keyword_name_owes a b (g.keyword_next n q) k fits owes u =
      keyword_name_owes a (a + sum_of w (parts_in (s.words n))) n _ (omega arith)
      (λ y. sign (symbol.CapitalKeyword q.word.name q.handles) q.word.spot (v'.part_event l (s.count n)) (a + sum_of w (parts_in (s.words n))) b (k y) (omega (arith, fits, one_more (s.words n) q.word.name)) (owes y)) u

  keyword_head_owes : (a b : ℕ) (n : g.KeywordHead) (k : Scope → s.Listing) → b ≤ a + sum_of w (parts_in (s.words (s.head_name n))) → ((u i : Scope) → Owes b (k u i)) → (u : Scope) → Owes a (s.keyword_head l n k u)
  keyword_head_owes a b (g.head_first x y) k fits owes u =
      sign (symbol.Keyword x.name) x.spot (v'.keyword_event l u x) a b _ (omega (arith, fits)) (head_argument_owes y _ (owes (with_local l x.spot u)) (scope activation))
  keyword_head_owes a b (g.head_next n q x) k fits owes u =
      keyword_head_owes a (a + sum_of w (parts_in (s.words (s.head_name n)))) n _ (omega arith)
      (λ y i. sign (symbol.CapitalKeyword q.word.name q.handles) q.word.spot (v'.part_event l (s.count (s.head_name n))) (a + sum_of w (parts_in (s.words (s.head_name n)))) b _
      (omega (arith, fits, one_more (s.words (s.head_name n)) q.word.name)) (head_argument_owes x (k y) (owes y) i)) u

  operator_name_owes : (a b : ℕ) (o : g.AnyOperator) (k : s.Listing) → b ≤ a + w o.word.name → ((u : Scope) → Owes b (k u)) → (u : Scope) → Owes a (s.operator_name l o k u)
  operator_name_owes a b o k fits owes u = sign (symbol.Operator o.word.name o.role) o.word.spot (v'.operator_event l u o) a b _ (omega (arith, fits)) (owes _)

  head_owes : (a b : ℕ) (h : g.Head) (k : s.Named → Writer) → b ≤ a + sum_of w (parts_in (s.head_words h)) → ((n : s.Named) → Owes b (k n)) → (u : Scope) → Owes a (s.head l h k u)
  head_owes a b (g.unary_head x) k fits owes u = slot_name_owes a b x _ (omega (arith, fits)) (λ y. owes (record { around = y; inner = scope either; wanted = 0; spot = x.spot; broken = [] })) u
  head_owes a b (g.operator_with o x) k fits owes u =
      operator_name_owes a b o _ (omega (arith, fits)) (λ y. head_argument_owes x _ (λ i. owes (record { around = y; inner = i; wanted = 1; spot = o.word.spot; broken = [] })) (scope activation)) u
  head_owes a b (g.operator o) k fits owes u =
      operator_name_owes a b o _ (omega (arith, fits)) (λ y. owes (record { around = y; inner = scope activation; wanted = 1; spot = o.word.spot; broken = [] })) u
  head_owes a b (g.keyword_with n) k fits owes u = keyword_head_owes a b n _ fits (λ y i. owes (s.keyword_named (s.head_name n) y i)) u
  head_owes a b (g.keyword n) k fits owes u = keyword_name_owes a b n _ fits (λ y. owes (s.keyword_named n y (scope activation))) u

  -- Slots and what fills them.
  mutual
    datum_owes : (n : ℕ) (d : g.Datum) (o : Owner) (k : Writer) → Owes n k → Owes n (s.datum l o d k)
    datum_owes n (g.simple d) o k owes = simple_owes d k owes
    datum_owes n (g.object x) o k owes = object_owes n x o k owes

    object_owes : (n : ℕ) (x : g.Object) (o : Owner) (k : Writer) → Owes n k → Owes n (s.object l o x k)
    object_owes n (g.empty_object p q) o k owes =
        light symbol.OpenParen p (record (s.opening_item p) { next = None }) _ refl (light symbol.CloseParen q (v'.empty_object_end p) k refl owes)
    object_owes n (g.slotted_object p b ss b2 q) o k owes =
        light symbol.OpenParen p (record (s.opening_item p) { next = None }) _ refl
        (light symbol.Bar b quiet _ refl
        (slots_owes n ss _ (λ u. light symbol.Bar b2 quiet _ refl (light symbol.CloseParen q (v'.object_end p u) k refl owes)) (scope o)))

    method_owes : (n : ℕ) (x : g.Method) (h : s.Named) (k : Writer) → Owes n k → Owes n (s.method l h x k)
    method_owes n (g.bare_method p b q) h k owes =
        light symbol.OpenParen p (record (s.opening_item p) { next = s.wants_bar h }) _ refl (entering_owes _ (code_owes n b _ (ending_owes (g.full b) symbol.CloseParen q k owes)))
    method_owes n (g.slotted_method p b ss b2 x q) h k owes =
        light symbol.OpenParen p (record (s.opening_item p) { next = s.wants_bar h }) _ refl
        (light symbol.Bar b quiet _ refl
        (slots_owes n ss _
        (λ u. light symbol.Bar b2 (record quiet { broken = s.at_bar h u }) _ refl
        (entering_owes _ (telling_owes (s.at_code h u) _ (code_owes n x _ (ending_owes (g.full x) symbol.CloseParen q k owes)))))
        h.inner))

    method_slot_owes : (n : ℕ) (x : g.MethodSlot) (k : s.Listing) → ((u : Scope) → Owes (n + worths w (s.method_items x)) (k u)) → (u : Scope) → Owes n (s.method_slot l x k u)
    method_slot_owes n (g.method h e x) k owes u =
        head_owes n (n + worths w (s.method_items (g.method h e x))) h _ (omega arith)
        (λ y. light (symbol.Operator e.name Equals) e.spot (record quiet { broken = y.broken }) _ refl
        (method_owes (n + worths w (s.method_items (g.method h e x))) x y (k (not_plain y.around)) (owes (not_plain y.around)))) u

    member_owes : (n : ℕ) (x : g.Member) (k : s.Listing) → ((u : Scope) → Owes (n + worths w (s.member_items x)) (k u)) → (u : Scope) → Owes n (s.member l x k u)
    member_owes n (g.constant x e d) k owes u =
        let m = n + worths w (s.member_items (g.constant x e d)) in
        slot_name_owes n m x _ (omega arith) (λ y. light (symbol.Operator e.name Equals) e.spot quiet _ refl (datum_owes m d either (k (s.holding d y)) (owes (s.holding d y)))) u
    member_owes n (g.assignable x a d) k owes u =
        let m = n + worths w (s.member_items (g.assignable x a d)) in
        slot_name_owes n m x _ (omega arith) (arrow_owes x a _ (λ y. datum_owes m d holder (k (s.holding d y)) (owes (s.holding d y)))) u
    member_owes n (g.bare x) k owes u = slot_name_owes n (n + worths w (s.member_items (g.bare x))) x _ (omega arith) (no_arrow_owes x k owes) u
    member_owes n (g.parent x a e d) k owes u =
        let m = n + worths w (s.member_items (g.parent x a e d)) in
        slot_name_owes n m x _ (omega arith)
        (λ y. light (symbol.Operator a.name Star) a.spot quiet _ refl (light (symbol.Operator e.name Equals) e.spot quiet _ refl (datum_owes m d holder (k (not_plain y)) (owes (not_plain y))))) u
    member_owes n (g.coded x) k owes u = method_slot_owes n x k owes u

    slot_owes : (n : ℕ) (x : g.Slot) (k : s.Listing) → ((u : Scope) → Owes (n + worths w (s.slot_items x)) (k u)) → (u : Scope) → Owes n (s.slot l x k u)
    slot_owes n (g.member x) k owes u = member_owes n x k owes u
    slot_owes n (g.argument x) k owes u = argument_owes n (n + 0) x k (omega arith) owes u

    slots_before_owes : (n : ℕ) (ss : g.SlotsBefore) (k : s.Listing) → ((u : Scope) → Owes n (k u)) → (u : Scope) → Owes n (s.slots_before l ss k u)
    slots_before_owes n g.no_slots k owes u = owes u
    slots_before_owes n (g.more_slots ss x p) k owes u =
        slots_before_owes n ss _ (λ y. slot_owes n x _ (λ z. placing_owes n (s.slot_items x) _ (light symbol.Period p quiet _ refl (owes z))) y) u

    slots_owes : (n : ℕ) (ss : g.Slots) (k : s.Listing) → ((u : Scope) → Owes n (k u)) → (u : Scope) → Owes n (s.slots l ss k u)
    slots_owes n (g.slots_ended ss) k owes u = slots_before_owes n ss k owes u
    slots_owes n (g.slots_last ss x) k owes u = slots_before_owes n ss _ (λ y. slot_owes n x _ (λ z. placing_owes n (s.slot_items x) _ (owes z)) y) u

  members_before_owes : (n : ℕ) (ms : g.MembersBefore) (k : s.Listing) → ((u : Scope) → Owes n (k u)) → (u : Scope) → Owes n (s.members_before l ms k u)
  members_before_owes n g.no_members k owes u = owes u
  members_before_owes n (g.more_members ms x p) k owes u =
      members_before_owes n ms _ (λ y. member_owes n x _ (λ z. placing_owes n (s.member_items x) _ (light symbol.Period p quiet _ refl (owes z))) y) u

  finish_owes : (p : Spot) → Owes 0 (s.finish l p)
  finish_owes p = light symbol.End p quiet (λ c. []) refl (λ c. record { below = omega arith })

  world_owes : (x : g.World) → Pays w 0 [] (s.world l x)
  world_owes (g.world_ended ms p) = members_before_owes 0 ms (λ u. s.finish l p) (λ u. finish_owes p) (scope holder) (s.at_first 1)
  world_owes (g.world_last ms x p) =
      members_before_owes 0 ms (s.member l x (λ u. placing (s.member_items x) (s.finish l p)))
      (member_owes 0 x (λ u. placing (s.member_items x) (s.finish l p)) (λ u. placing_owes 0 (s.member_items x) (s.finish l p) (finish_owes p)))
      (scope holder) (s.at_first 1)

-- The items of a text weigh no more than its signs.
pub worth_of_text : (w : ℕ → ℕ) (l : Limits) (given : List Sign) (x : g.World) → IsText (s.world l) given x → worths w (items_of (s.world l x)) ≤ sign_worths w given
worth_of_text w l given x h =
    let pays = (world_owes w l x).below in
    let same : sign_worths w (signs (s.world l x)) ≡ sign_worths w given = ap (sign_worths w) h.0 in
    omega arith
