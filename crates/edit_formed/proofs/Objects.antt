-- An edit's text says no object.
use Rattle.std.specs.Prelude.{◌≡◌, ℕ, ◌-◌, ◌==◌, Bool, true, false, not, if◌then◌else◌, Option, None, Some, List, [], ◌∷◌, ◌++◌, map, refl}
use Rattle.std.proofs.Common.{sym, subst}
use Rattle.self_grammar.specs.declared.signs.Spot.{Spot}
use Rattle.self_grammar.specs.declared.signs.Reserved.TheVariants.{Free, Itself, Resend}
use Rattle.self_grammar.specs.declared.signs.Role.{Role}
use Rattle.self_grammar.specs.declared.signs.Role.TheVariants.{Equals, Arrow, Star}
use Rattle.self_grammar.specs.declared.signs.Symbol.{Symbol}
use Rattle.self_grammar.specs.declared.signs.Symbol.TheVariants as symbol
use Rattle.self_grammar.specs.declared.signs.Sign.{Sign}
use Rattle.self_grammar.specs.declared.signs.ReadKind.TheVariants as kind
use Rattle.self_grammar.specs.declared.pieces.Words.TheVariants.{One}
use Rattle.self_grammar.specs.declared.pieces.Target.TheVariants.{Implied}
use Rattle.self_grammar.specs.declared.pieces.Made.{Made}
use Rattle.self_grammar.specs.declared.pieces.TextNode.TheVariants as nodes
use Rattle.self_grammar.specs.declared.pieces.Item.{Item}
use Rattle.self_grammar.specs.declared.pieces.Item.TheVariants as items
use Rattle.self_grammar.specs.Grammar as g
use Rattle.self_grammar.specs.Counts.{Limits, here, node, when, quiet, opening, closing, makes, saying, Breach, Held, Context, Event, Mark, Writer, write, owing, telling, placing, entering, finishing, placed, breaches, mark_at, counted, resumed, moved}
use Rattle.self_grammar.specs.Scopes.{Owner, either, Scope, scope, activation, holder, named, again, with_argument, with_local, not_plain, late_locals}
use Rattle.self_grammar.specs.Spelling as s
use Rattle.self_grammar.specs.Spelling.{items_of}
use Rattle.self_grammar.specs.Refusal.{AreSound, IsText}
use Rattle.self_grammar.proofs.Places.{block_opening}
use Rattle.self_grammar.proofs.SlotMoves as v'
use Rattle.self_grammar.proofs.Balance.{front_empty, back_empty, none_first, unplaced}
use Rattle.source_model.specs.Canon.{Each}
use Rattle.edit_formed.specs.Formed.{IsCode}

abbrev pub AreBodied : List Item → Type 0
AreBodied is = Each IsCode is

bodied_append : (xs ys : List Item) → AreBodied xs → AreBodied ys → AreBodied (xs ++ ys)
bodied_append [] ys h k = k
bodied_append (x ∷ xs) ys h k = (h.0, bodied_append xs ys h.1 k)

nodes_bodied : (ms : List Made) → AreBodied (map items.Node ms)
nodes_bodied [] = tt
nodes_bodied (m ∷ ms) = (tt, nodes_bodied ms)

-- What these marks tell, where nothing is wrong with them.
record Known (Q : Type 0) (ms : List Mark) : Type 0 where
  fact : Q
  bodied : AreBodied (items_of ms)

abbrev Goes : Type 0 → Writer → Type 0
Goes Q k = (c : Context) → AreBodied c.ready → AreSound (k c) → Known Q (k c)

-- what can't be tells all
weak : (Q : Type 0) (k : Writer) → Goes ⊥ k → Goes Q k
weak Q k h c r sound = absurd ((h c r sound).fact)

turned : (P Q : Type 0) (k : Writer) → (P → Q) → Goes P k → Goes Q k
turned P Q k f h c r sound = let y = h c r sound in record { fact = f y.fact; bodied = y.bodied }

out_ready : (b : Bool) (hs : List Held) (c : Context) → (if b then resumed hs c else c).ready ≡ c.ready
out_ready true [] c = refl
out_ready true (h ∷ hs) c = refl
out_ready false hs c = refl

moved_ready : (c : Context) (e : Event) → AreBodied (moved c e).ready
moved_ready c e = let calm : (moved c e).ready ≡ [] = out_ready e.leaves c.around (counted c e) in subst AreBodied (sym calm) tt

untold : (b : Bool) (x : Breach) → when b x ≡ [] → b ≡ false
untold true x e = cc
untold false x e = refl

nor : (b : Bool) → not b ≡ false → b ≡ true
nor true e = refl
nor false e = cc

late_empty : (a b w q r t : List Breach) → a ++ b ++ w ++ q ++ r ++ t ≡ [] → a ≡ []
late_empty a b w q r t e = front_empty a b (front_empty (a ++ b) w (front_empty (a ++ b ++ w) q (front_empty (a ++ b ++ w ++ q) r (front_empty (a ++ b ++ w ++ q ++ r) t e))))

-- a slot that a method may have
plain_at : (a c : List Breach) (b : Bool) → a ++ when (not b) (here kind.BadSyntax) ++ c ≡ [] → b ≡ true
plain_at a c b e = nor b (untold (not b) (here kind.BadSyntax) (back_empty a (when (not b) (here kind.BadSyntax)) (front_empty (a ++ when (not b) (here kind.BadSyntax)) c e)))

ending_bodied : (b : g.Body) (q : Spot) → AreBodied (s.ending b q).says
ending_bodied g.empty q = (tt, tt)
ending_bodied (g.full (g.code ss None e r)) q = (tt, tt)
ending_bodied (g.full (g.code ss (Some r) e u)) q = (tt, tt)

local_bodied : (x : g.Local) → AreBodied (s.local_items x)
local_bodied (g.local_argument w) = tt
local_bodied (g.local_bare w) = (tt, tt)
local_bodied (g.local_assignable w a d) = (tt, tt)
local_bodied (g.local_constant w e d) = (tt, tt)

method_bodied : (x : g.MethodSlot) → AreBodied (s.method_items x)
method_bodied (g.method h e m) = (tt, tt)

module _ (l : Limits) where
  -- What begins with a sign: no rule was broken before it.
  abbrev Opens : Writer → Type 0
  Opens k = (c : Context) → AreSound (k c) → c.late ≡ []

  written : (x : Symbol) (p : Spot) (e : Event) (c : Context) (rest : List Mark) → AreSound (mark_at l c x p e ∷ rest) → c.late ≡ []
  written x p e c rest h =
      let all : breaches l c e ≡ [] = unplaced p (breaches l c e) (none_first (map (placed p) (breaches l c e)) h.0) in
      late_empty c.late e.broken _ _ _ _ all

  mutual
    unary_opens : (u : g.Unary) (k : Writer) → Opens (s.unary l u k)
    unary_opens (g.int z p) k c h = written (symbol.Integer z) p (makes p (nodes.Integer z)) c _ h
    unary_opens (g.str x) k c h = written (symbol.Text x.start x.end) x.spot (makes x.spot (nodes.Text x.start x.end)) c _ h
    unary_opens (g.itself w) k c h = written (symbol.Name w.name w.setter Itself) w.spot (makes w.spot nodes.Itself) c _ h
    unary_opens (g.block p bs b q) k c h = written symbol.OpenBracket p (block_opening p) c _ h
    unary_opens (g.group p e q) k c h = written symbol.OpenParen p opening c _ h
    unary_opens (g.name w) k c h = written (s.free_name w) w.spot (makes w.spot (nodes.Message Implied (One w.name) 0)) c _ h
    unary_opens (g.resend_name w) k c h = written (symbol.Name w.name w.setter Resend) w.spot (makes w.spot (nodes.Message Implied (One w.name) 0)) c _ h
    unary_opens (g.primitive w) k c h = written (symbol.Primitive w.name) w.spot (makes w.spot (nodes.Primitive (One w.name) 0 true false)) c _ h
    unary_opens (g.restart p) k c h = written symbol.Restart p (makes p nodes.Restart) c _ h
    unary_opens (g.resent d w) k c h =
        written (s.delegate_symbol d) (s.delegate_spot d) quiet c (write l (s.any_name w) w.label.spot (makes (s.delegate_spot d) (nodes.Message (s.delegate_target d) (One w.label.name) 0)) k (moved c quiet)) h
    unary_opens (g.sent u w) k c h = unary_opens u _ c h
    unary_opens (g.sent_primitive u w) k c h = unary_opens u _ c h

    operands_opens : (us : g.Operands) (o : ℕ) (r : Role) (k : Writer) → Opens (s.operands l o r us k)
    operands_opens (g.first u p) o r k c h = unary_opens u _ c h
    operands_opens (g.delegated d p) o r k c h = written (s.delegate_symbol d) (s.delegate_spot d) quiet c (write l (symbol.Operator o r) p quiet k (moved c quiet)) h
    operands_opens (g.next us u p) o r k c h = operands_opens us o r _ c h

    binary_opens : (b : g.Binary) (k : Writer) → Opens (s.binary l b k)
    binary_opens (g.single u) k c h = unary_opens u k c h
    binary_opens (g.several o r us u) k c h = operands_opens us o r _ c h

    receiver_opens : (r : g.Receiver) (o : g.Opening) (k : Writer) → Opens (s.receiver l r (write l (s.opening_symbol o) (s.opening_spot o) opening k))
    receiver_opens g.implied o k c h = written (s.opening_symbol o) (s.opening_spot o) opening c _ h
    receiver_opens (g.given b) o k c h = binary_opens b _ c h

    message_opens : (x : g.Message) (k : Writer) → Opens (s.message l x k)
    message_opens (g.opened r o) k c h = receiver_opens r o k c h
    message_opens (g.redirected d w) k c h = written (s.delegate_symbol d) (s.delegate_spot d) quiet c (write l (symbol.Keyword w.name) w.spot opening k (moved c quiet)) h
    message_opens (g.further x b q) k c h = message_opens x _ c h

    expression_opens : (e : g.Expression) (k : Writer) → Opens (s.expression l e k)
    expression_opens (g.plain b) k c h = binary_opens b k c h
    expression_opens (g.keyed x e) k c h = message_opens x _ c h

  statements_opens : (ss : g.Statements) (k : Writer) → Opens k → Opens (s.statements l ss k)
  statements_opens g.none k o = o
  statements_opens (g.more ss e p) k o = statements_opens ss _ (λ c h. expression_opens e _ c h)

  code_opens : (x : g.Code) (k : Writer) → Opens (s.code l x k)
  code_opens (g.code ss None e p) k = statements_opens ss _ (λ c h. expression_opens e _ c h)
  code_opens (g.code ss (Some r) e p) k = statements_opens ss _ (λ c h. written symbol.Caret r quiet c _ h)

  -- Signs, and what is said between them.
  sign : {Q : Type 0} (x : Symbol) (p : Spot) (e : Event) (k : Writer) → AreBodied e.says → Goes Q k → Goes Q (write l x p e k)
  sign x p e k b goes c r sound =
      let more = goes (moved c e) (moved_ready c e) sound.2 in
      record {
        fact = more.fact;
        bodied =
            bodied_append (c.ready ++ map items.Node (c.due ++ e.made) ++ e.says) (items_of (k (moved c e)))
            (bodied_append (c.ready ++ map items.Node (c.due ++ e.made)) e.says (bodied_append c.ready (map items.Node (c.due ++ e.made)) r (nodes_bodied (c.due ++ e.made))) b) more.bodied;
      }

  -- where it can't be, any sign
  none : (x : Symbol) (p : Spot) (e : Event) (k : Writer) → Goes ⊥ k → Goes ⊥ (write l x p e k)
  none x p e k goes c r sound = absurd ((goes (moved c e) (moved_ready c e) sound.2).fact)

  told : {Q : Type 0} (bs : List Breach) (k : Writer) → Goes Q k → Goes Q (telling bs k)
  told bs k goes c r sound = goes (record c { late = c.late ++ bs }) r sound

  put : {Q : Type 0} (is : List Item) (k : Writer) → AreBodied is → Goes Q k → Goes Q (placing is k)
  put is k b goes c r sound = goes (record c { ready = c.ready ++ is }) (bodied_append c.ready is r b) sound

  owed : {Q : Type 0} (m : Made) (k : Writer) → Goes Q k → Goes Q (owing m k)
  owed m k goes c r sound = goes (record c { due = c.due ++ m ∷ [] }) r sound

  entered : {Q : Type 0} (k : Writer) → Goes Q k → Goes Q (entering k)
  entered k goes c r sound = goes (record c { pending = 0; nodes = 0; around = record { pending = c.pending; nodes = c.nodes } ∷ c.around }) r sound

  finished : {Q : Type 0} (k : Writer) → Goes Q k → Goes Q (finishing k)
  finished k goes c r sound = goes (record c { nesting = c.nesting - 1 }) r sound

  stopped_goes : {Q : Type 0} (o : Option Spot) (k : Writer) → Goes Q k → Goes Q (s.stopped l o k)
  stopped_goes None k goes = goes
  stopped_goes (Some p) k goes = sign symbol.Period p quiet k tt goes

  delegate_goes : {Q : Type 0} (x : g.Delegate) (k : Writer) → Goes Q k → Goes Q (s.delegate l x k)
  delegate_goes x k goes = sign (s.delegate_symbol x) (s.delegate_spot x) quiet k tt goes

  path_goes : {Q : Type 0} (q : g.Path) (k : Writer) → Goes Q k → Goes Q (s.path l q k)
  path_goes (g.named x) k goes = sign (s.any_name x) x.label.spot (saying (items.Root x.label.name x.label.spot)) k (tt, tt) goes
  path_goes (g.under q x) k goes = path_goes q _ (sign (s.any_name x) x.label.spot (saying (items.Further x.label.name x.label.spot)) k (tt, tt) goes)

  simple_goes : {Q : Type 0} (x : g.Simple) (k : Writer) → Goes Q k → Goes Q (s.simple l x k)
  simple_goes (g.integer i p) k goes = sign (symbol.Integer i) p (saying (items.Integer i)) k (tt, tt) goes
  simple_goes (g.string x) k goes = sign (symbol.Text x.start x.end) x.spot (saying (items.Text x.start x.end)) k (tt, tt) goes
  simple_goes (g.path q) k goes = path_goes q k goes

  -- Slots, by what is known of the scope behind them.
  slot_name_goes : {Q : Type 0} (x : g.Label) (k : s.Listing) (u : Scope) → Goes Q (k (named (x.name ∷ []) (with_local l x.spot u))) → Goes Q (s.slot_name l x k u)
  slot_name_goes x k u goes = sign (s.free_name x) x.spot (v'.name_event l u x) _ tt goes

  argument_goes : {Q : Type 0} (x : g.Label) (k : s.Listing) (u : Scope) → Goes Q (k (with_argument (x.name ∷ []) u)) → Goes Q (s.argument l x k u)
  argument_goes x k u goes = sign (symbol.Argument x.name x.setter Free) x.spot (v'.argument_event l u x) _ (tt, tt) goes

  head_argument_goes : {Q : Type 0} (x : g.Label) (k : s.Listing) (u : Scope) → Goes Q (k (with_argument (x.name ∷ []) u)) → Goes Q (s.head_argument l x k u)
  head_argument_goes x k u goes = sign (s.free_name x) x.spot (v'.head_argument_event l u x) _ (tt, tt) goes

  arrow_goes : {Q : Type 0} (x : g.Label) (w : g.Word) (k : s.Listing) (u : Scope) → Goes Q (k (named (x.setter ∷ []) u)) → Goes Q (s.arrow l x w k u)
  arrow_goes x w k u goes = sign (symbol.Operator w.name Arrow) w.spot (record quiet { broken = again u (x.setter ∷ []) x.spot }) _ tt goes

  no_arrow_goes : {Q : Type 0} (x : g.Label) (k : s.Listing) (u : Scope) → Goes Q (k (named (x.setter ∷ []) u)) → Goes Q (s.no_arrow x k u)
  no_arrow_goes x k u goes = told (again u (x.setter ∷ []) x.spot) _ goes

  local_goes : {Q : Type 0} (x : g.Local) (k : s.Listing) → ((u : Scope) → Goes Q (k u)) → (u : Scope) → Goes Q (s.local l x (λ t. placing (s.local_items x) (k t)) u)
  local_goes (g.local_argument x) k goes u = let v : Scope = with_argument (x.name ∷ []) u in argument_goes x (λ z. placing [] (k z)) u (put [] (k v) tt (goes v))
  local_goes (g.local_bare x) k goes u =
      let is : List Item = s.local_items (g.local_bare x) in
      let t : Scope = named (x.name ∷ []) (with_local l x.spot u) in
      let v : Scope = named (x.setter ∷ []) t in
      slot_name_goes x (s.no_arrow x (λ z. placing is (k z))) u (no_arrow_goes x (λ z. placing is (k z)) t (put is (k v) (tt, tt) (goes v)))
  local_goes (g.local_assignable x w d) k goes u =
      let is : List Item = s.local_items (g.local_assignable x w d) in
      let t : Scope = named (x.name ∷ []) (with_local l x.spot u) in
      let v : Scope = named (x.setter ∷ []) t in
      slot_name_goes x (s.arrow l x w (λ z. s.simple l d (placing is (k z)))) u
      (arrow_goes x w (λ z. s.simple l d (placing is (k z))) t (simple_goes d (placing is (k v)) (put is (k v) (tt, tt) (goes v))))
  local_goes (g.local_constant x e d) k goes u =
      let is : List Item = s.local_items (g.local_constant x e d) in
      let t : Scope = named (x.name ∷ []) (with_local l x.spot u) in
      slot_name_goes x (λ z. s.mark l Equals e quiet (s.simple l d (placing is (k z)))) u
      (sign (symbol.Operator e.name Equals) e.spot quiet (s.simple l d (placing is (k t))) tt (simple_goes d (placing is (k t)) (put is (k t) (tt, tt) (goes t))))

  locals_before_goes : {Q : Type 0} (ws : g.LocalsBefore) (k : s.Listing) → ((u : Scope) → Goes Q (k u)) → (u : Scope) → Goes Q (s.locals_before l ws k u)
  locals_before_goes g.no_locals k goes u = goes u
  locals_before_goes (g.more_locals ws x p) k goes u =
      locals_before_goes ws _ (local_goes x (λ z. write l symbol.Period p quiet (k z)) (λ z. sign symbol.Period p quiet _ tt (goes z))) u

  locals_goes : {Q : Type 0} (ws : g.Locals) (k : s.Listing) → ((u : Scope) → Goes Q (k u)) → (u : Scope) → Goes Q (s.locals l ws k u)
  locals_goes (g.locals_ended ws) k goes u = locals_before_goes ws k goes u
  locals_goes (g.locals_last ws x) k goes u = locals_before_goes ws _ (local_goes x k goes) u

  bars_goes : {Q : Type 0} (bs : g.Bars) (k : Writer) → Goes Q k → Goes Q (s.bars l bs k)
  bars_goes g.absent k goes = goes
  bars_goes (g.present p ws q) k goes = sign symbol.Bar p quiet _ tt (locals_goes ws (λ u. write l symbol.Bar q quiet k) (λ u. sign symbol.Bar q quiet k tt goes) (scope activation))

  -- Code.
  mutual
    unary_goes : {Q : Type 0} (u : g.Unary) (k : Writer) → Goes Q k → Goes Q (s.unary l u k)
    unary_goes (g.int i p) k goes = sign (symbol.Integer i) p (makes p (nodes.Integer i)) k tt goes
    unary_goes (g.str x) k goes = sign (symbol.Text x.start x.end) x.spot (makes x.spot (nodes.Text x.start x.end)) k tt goes
    unary_goes (g.itself w) k goes = sign (symbol.Name w.name w.setter Itself) w.spot (makes w.spot nodes.Itself) k tt goes
    unary_goes (g.block p bs b q) k goes = sign symbol.OpenBracket p (block_opening p) _ (tt, tt) (entered _ (bars_goes bs _ (body_goes b _ (sign symbol.CloseBracket q (s.ending b q) k (ending_bodied b q) goes))))
    unary_goes (g.group p e q) k goes = sign symbol.OpenParen p opening _ tt (expression_goes e _ (sign symbol.CloseParen q closing k tt goes))
    unary_goes (g.name w) k goes = sign (s.free_name w) w.spot (makes w.spot (nodes.Message Implied (One w.name) 0)) k tt goes
    unary_goes (g.resend_name w) k goes = sign (symbol.Name w.name w.setter Resend) w.spot (makes w.spot (nodes.Message Implied (One w.name) 0)) k tt goes
    unary_goes (g.primitive w) k goes = sign (symbol.Primitive w.name) w.spot (makes w.spot (nodes.Primitive (One w.name) 0 true false)) k tt goes
    unary_goes (g.restart p) k goes = sign symbol.Restart p (makes p nodes.Restart) k tt goes
    unary_goes (g.resent d w) k goes = delegate_goes d _ (sign (s.any_name w) w.label.spot (makes (s.delegate_spot d) (nodes.Message (s.delegate_target d) (One w.label.name) 0)) k tt goes)
    unary_goes (g.sent u w) k goes = unary_goes u _ (sign (s.any_name w) w.label.spot (makes w.label.spot (s.unary_message w.label.name)) k tt goes)
    unary_goes (g.sent_primitive u w) k goes = unary_goes u _ (sign (symbol.Primitive w.name) w.spot (makes w.spot (nodes.Primitive (One w.name) 0 false false)) k tt goes)

    body_goes : {Q : Type 0} (b : g.Body) (k : Writer) → Goes Q k → Goes Q (s.body l b k)
    body_goes g.empty k goes = goes
    body_goes (g.full c) k goes = code_goes c k goes

    operands_goes : {Q : Type 0} (us : g.Operands) (o : ℕ) (r : Role) (k : Writer) → Goes Q k → Goes Q (s.operands l o r us k)
    operands_goes (g.first u p) o r k goes = unary_goes u _ (sign (symbol.Operator o r) p quiet k tt goes)
    operands_goes (g.delegated d p) o r k goes = delegate_goes d _ (sign (symbol.Operator o r) p quiet k tt goes)
    operands_goes (g.next us u p) o r k goes = operands_goes us o r _ (unary_goes u _ (owed (s.operator_node o us) _ (sign (symbol.Operator o r) p quiet k tt goes)))

    binary_goes : {Q : Type 0} (b : g.Binary) (k : Writer) → Goes Q k → Goes Q (s.binary l b k)
    binary_goes (g.single u) k goes = unary_goes u k goes
    binary_goes (g.several o r us u) k goes = operands_goes us o r _ (unary_goes u _ (owed (s.operator_node o us) k goes))

    receiver_goes : {Q : Type 0} (r : g.Receiver) (k : Writer) → Goes Q k → Goes Q (s.receiver l r k)
    receiver_goes g.implied k goes = goes
    receiver_goes (g.given b) k goes = binary_goes b k goes

    message_goes : {Q : Type 0} (x : g.Message) (k : Writer) → Goes Q k → Goes Q (s.message l x k)
    message_goes (g.opened r o) k goes = receiver_goes r _ (sign (s.opening_symbol o) (s.opening_spot o) opening k tt goes)
    message_goes (g.redirected t w) k goes = delegate_goes t _ (sign (symbol.Keyword w.name) w.spot opening k tt goes)
    message_goes (g.further x b q) k goes = message_goes x _ (binary_goes b _ (sign (symbol.CapitalKeyword q.word.name q.handles) q.word.spot (v'.part_event l (s.parts x)) k tt goes))

    expression_goes : {Q : Type 0} (e : g.Expression) (k : Writer) → Goes Q k → Goes Q (s.expression l e k)
    expression_goes (g.plain b) k goes = binary_goes b k goes
    expression_goes (g.keyed x e) k goes = message_goes x _ (expression_goes e _ (owed (s.message_node x) _ (finished k goes)))

    statements_goes : {Q : Type 0} (ss : g.Statements) (k : Writer) → Goes Q k → Goes Q (s.statements l ss k)
    statements_goes g.none k goes = goes
    statements_goes (g.more ss e p) k goes = statements_goes ss _ (expression_goes e _ (sign symbol.Period p quiet _ tt (owed (node p nodes.Drop) k goes)))

    code_goes : {Q : Type 0} (x : g.Code) (k : Writer) → Goes Q k → Goes Q (s.code l x k)
    code_goes (g.code ss None e q) k goes = statements_goes ss _ (expression_goes e _ (stopped_goes q k goes))
    code_goes (g.code ss (Some r) e q) k goes = statements_goes ss _ (sign symbol.Caret r quiet _ tt (expression_goes e _ (owed (node r nodes.Return) _ (stopped_goes q k goes))))

  -- The names of method slots.
  keyword_name_goes : {Q : Type 0} (x : g.KeywordName) (k : s.Listing) → ((u : Scope) → Goes Q (k u)) → (u : Scope) → Goes Q (s.keyword_name l x k u)
  keyword_name_goes (g.keyword_first x) k goes u = sign (symbol.Keyword x.name) x.spot (v'.keyword_event l u x) _ tt (goes _)
  keyword_name_goes (g.keyword_next n q) k goes u =
      keyword_name_goes n _ (λ t. sign (symbol.CapitalKeyword q.word.name q.handles) q.word.spot (v'.part_event l (s.count n)) _ tt (goes t)) u

  keyword_head_goes : {Q : Type 0} (x : g.KeywordHead) (k : Scope → s.Listing) → ((u i : Scope) → Goes Q (k u i)) → (u : Scope) → Goes Q (s.keyword_head l x k u)
  keyword_head_goes (g.head_first x w) k goes u = sign (symbol.Keyword x.name) x.spot (v'.keyword_event l u x) _ tt (head_argument_goes w (k (with_local l x.spot u)) (scope activation) (goes (with_local l x.spot u) (with_argument (w.name ∷ []) (scope activation))))
  keyword_head_goes (g.head_next n q w) k goes u =
      keyword_head_goes n _ (λ t i. sign (symbol.CapitalKeyword q.word.name q.handles) q.word.spot (v'.part_event l (s.count (s.head_name n))) (s.head_argument l w (k t) i) tt (head_argument_goes w (k t) i (goes t (with_argument (w.name ∷ []) i)))) u

  operator_name_goes : {Q : Type 0} (x : g.AnyOperator) (k : s.Listing) → ((u : Scope) → Goes Q (k u)) → (u : Scope) → Goes Q (s.operator_name l x k u)
  operator_name_goes x k goes u = sign (symbol.Operator x.word.name x.role) x.word.spot (v'.operator_event l u x) _ tt (goes _)

  head_goes : {Q : Type 0} (x : g.Head) (k : s.Named → Writer) → ((n : s.Named) → Goes Q (k n)) → (u : Scope) → Goes Q (s.head l x k u)
  head_goes (g.unary_head x) k goes u =
      slot_name_goes x (λ t. k (record { around = t; inner = scope either; wanted = 0; spot = x.spot; broken = [] })) u
      (goes (record { around = named (x.name ∷ []) (with_local l x.spot u); inner = scope either; wanted = 0; spot = x.spot; broken = [] }))
  head_goes (g.operator_with x w) k goes u =
      operator_name_goes x (λ t. s.head_argument l w (λ i. k (record { around = t; inner = i; wanted = 1; spot = x.word.spot; broken = [] })) (scope activation))
      (λ t. head_argument_goes w (λ i. k (record { around = t; inner = i; wanted = 1; spot = x.word.spot; broken = [] })) (scope activation)
      (goes (record { around = t; inner = with_argument (w.name ∷ []) (scope activation); wanted = 1; spot = x.word.spot; broken = [] }))) u
  head_goes (g.operator x) k goes u =
      operator_name_goes x (λ t. k (record { around = t; inner = scope activation; wanted = 1; spot = x.word.spot; broken = [] }))
      (λ t. goes (record { around = t; inner = scope activation; wanted = 1; spot = x.word.spot; broken = [] })) u
  head_goes (g.keyword_with n) k goes u = keyword_head_goes n (λ t i. k (s.keyword_named (s.head_name n) t i)) (λ t i. goes (s.keyword_named (s.head_name n) t i)) u
  head_goes (g.keyword n) k goes u = keyword_name_goes n (λ t. k (s.keyword_named n t (scope activation))) (λ t. goes (s.keyword_named n t (scope activation))) u

  -- What follows a list of slots knows that a method may have them all.
  abbrev Plain : Type 0 → Scope → Type 0
  Plain Q u = Q × (u.plain ≡ true)

  abbrev Lists : Type 0 → s.Listing → Type 0
  Lists Q k = (u : Scope) → Goes (Plain Q u) (k u)

  -- behind what no method may have
  never : {Q : Type 0} (u : Scope) (k : Writer) → Goes (Plain Q (not_plain u)) k → Goes ⊥ k
  never u k goes c r sound = cc ((goes c r sound).fact.1)

  -- at the first sign of the code
  coded : {Q : Type 0} (u : Scope) (x : g.Code) (n : s.Named) (k : Writer) → Goes Q (s.code l x k) → Goes (Plain Q u) (telling (s.at_code n u) (s.code l x k))
  coded u x n k goes c r sound =
      let d : Context = record c { late = c.late ++ s.at_code n u } in
      let y = goes d r sound in
      record { fact = (y.fact, plain_at (if n.wanted == 0 then s.misfits n u else []) (late_locals u) u.plain (back_empty c.late (s.at_code n u) (code_opens x k d sound))); bodied = y.bodied }

  mutual
    object_goes : {Q : Type 0} (x : g.Object) (o : Owner) (k : Writer) → Goes ⊥ k → Goes Q (s.object l o x k)
    object_goes {Q} (g.empty_object p q) o k goes =
        weak Q (s.object l o (g.empty_object p q) k) (none symbol.OpenParen p (s.opening_item p) _ (none symbol.CloseParen q (v'.empty_object_end p) k goes))
    object_goes {Q} (g.slotted_object p b ss b2 q) o k goes =
        weak Q (s.object l o (g.slotted_object p b ss b2 q) k)
        (none symbol.OpenParen p (s.opening_item p) _
        (none symbol.Bar b quiet _
        (turned (Plain ⊥ (scope o)) ⊥ _ (λ x. x.0)
        (slots_goes ss _ (λ u. weak (Plain ⊥ u) _ (none symbol.Bar b2 quiet _ (none symbol.CloseParen q (v'.object_end p u) k goes))) (scope o)))))

    datum_none : {Q : Type 0} (d : g.Datum) (o : Owner) (k : Writer) → Goes ⊥ k → Goes Q (s.datum l o d k)
    datum_none {Q} (g.simple d) o k goes = weak Q (s.simple l d k) (simple_goes d k goes)
    datum_none (g.object x) o k goes = object_goes x o k goes

    datum_goes : {Q : Type 0} (d : g.Datum) (o : Owner) (u : Scope) (k : Writer) → Goes (Plain Q (s.holding d u)) k → Goes (Plain Q u) (s.datum l o d k)
    datum_goes (g.simple d) o u k goes = simple_goes d k goes
    datum_goes (g.object x) o u k goes = object_goes x o k (never u k goes)

    method_goes : {Q : Type 0} (x : g.Method) (n : s.Named) (k : Writer) → Goes Q k → Goes Q (s.method l n x k)
    method_goes (g.bare_method p b q) n k goes =
        sign symbol.OpenParen p (record (s.opening_item p) { next = s.wants_bar n }) _ (tt, tt) (entered _ (code_goes b _ (sign symbol.CloseParen q (s.ending (g.full b) q) k (ending_bodied (g.full b) q) goes)))
    method_goes {Q} (g.slotted_method p b ss b2 x q) n k goes =
        sign symbol.OpenParen p (record (s.opening_item p) { next = s.wants_bar n }) _ (tt, tt)
        (sign symbol.Bar b quiet _ tt
        (turned (Plain Q n.inner) Q _ (λ y. y.0)
        (slots_goes ss _
        (λ u. sign symbol.Bar b2 (record quiet { broken = s.at_bar n u }) _ tt
        (entered _ (coded u x n _ (code_goes x _ (sign symbol.CloseParen q (s.ending (g.full x) q) k (ending_bodied (g.full x) q) goes))))) n.inner)))

    method_slot_goes : {Q : Type 0} (x : g.MethodSlot) (k : s.Listing) → ((u : Scope) → Goes Q (k (not_plain u))) → (u : Scope) → Goes Q (s.method_slot l x k u)
    method_slot_goes (g.method h e x) k goes u = head_goes h _ (λ n. sign (symbol.Operator e.name Equals) e.spot (record quiet { broken = n.broken }) _ tt (method_goes x n _ (goes n.around))) u

    member_goes : {Q : Type 0} (x : g.Member) (k : s.Listing) → Lists Q k → Lists Q (s.member l x (λ t. placing (s.member_items x) (k t)))
    member_goes (g.constant x e d) k goes u =
        let is : List Item = s.member_items (g.constant x e d) in
        let t : Scope = named (x.name ∷ []) (with_local l x.spot u) in
        slot_name_goes x (λ z. s.mark l Equals e quiet (s.datum l either d (placing is (k (s.holding d z))))) u
        (sign (symbol.Operator e.name Equals) e.spot quiet (s.datum l either d (placing is (k (s.holding d t)))) tt
        (datum_goes d either t (placing is (k (s.holding d t))) (put is (k (s.holding d t)) (tt, tt) (goes (s.holding d t)))))
    member_goes (g.assignable x w d) k goes u =
        let is : List Item = s.member_items (g.assignable x w d) in
        let t : Scope = named (x.name ∷ []) (with_local l x.spot u) in
        let v : Scope = named (x.setter ∷ []) t in
        slot_name_goes x (s.arrow l x w (λ z. s.datum l holder d (placing is (k (s.holding d z))))) u
        (arrow_goes x w (λ z. s.datum l holder d (placing is (k (s.holding d z)))) t
        (datum_goes d holder v (placing is (k (s.holding d v))) (put is (k (s.holding d v)) (tt, tt) (goes (s.holding d v)))))
    member_goes (g.bare x) k goes u =
        let is : List Item = s.member_items (g.bare x) in
        let t : Scope = named (x.name ∷ []) (with_local l x.spot u) in
        let v : Scope = named (x.setter ∷ []) t in
        slot_name_goes x (s.no_arrow x (λ z. placing is (k z))) u (no_arrow_goes x (λ z. placing is (k z)) t (put is (k v) (tt, tt) (goes v)))
    member_goes {Q} (g.parent x w e d) k goes u =
        let is : List Item = s.member_items (g.parent x w e d) in
        let t : Scope = named (x.name ∷ []) (with_local l x.spot u) in
        weak (Plain Q u) (s.member l (g.parent x w e d) (λ z. placing is (k z)) u)
        (slot_name_goes x (λ z. s.mark l Star w quiet (s.mark l Equals e quiet (s.datum l holder d (placing is (k (not_plain z)))))) u
        (sign (symbol.Operator w.name Star) w.spot quiet (s.mark l Equals e quiet (s.datum l holder d (placing is (k (not_plain t))))) tt
        (sign (symbol.Operator e.name Equals) e.spot quiet (s.datum l holder d (placing is (k (not_plain t)))) tt
        (datum_none d holder (placing is (k (not_plain t))) (put is (k (not_plain t)) (tt, tt) (never t (k (not_plain t)) (goes (not_plain t))))))))
    member_goes {Q} (g.coded x) k goes u =
        weak (Plain Q u) (s.member l (g.coded x) (λ z. placing (s.method_items x) (k z)) u)
        (method_slot_goes x (λ z. placing (s.method_items x) (k z)) (λ t. put (s.method_items x) (k (not_plain t)) (method_bodied x) (never t (k (not_plain t)) (goes (not_plain t)))) u)

    slot_goes : {Q : Type 0} (x : g.Slot) (k : s.Listing) → Lists Q k → Lists Q (s.slot l x (λ t. placing (s.slot_items x) (k t)))
    slot_goes (g.member x) k goes u = member_goes x k goes u
    slot_goes (g.argument x) k goes u = let v : Scope = with_argument (x.name ∷ []) u in argument_goes x (λ z. placing [] (k z)) u (put [] (k v) tt (goes v))

    slots_before_goes : {Q : Type 0} (ss : g.SlotsBefore) (k : s.Listing) → Lists Q k → Lists Q (s.slots_before l ss k)
    slots_before_goes g.no_slots k goes u = goes u
    slots_before_goes (g.more_slots ss x p) k goes u = slots_before_goes ss _ (slot_goes x (λ z. write l symbol.Period p quiet (k z)) (λ z. sign symbol.Period p quiet _ tt (goes z))) u

    slots_goes : {Q : Type 0} (ss : g.Slots) (k : s.Listing) → Lists Q k → Lists Q (s.slots l ss k)
    slots_goes (g.slots_ended ss) k goes u = slots_before_goes ss k goes u
    slots_goes (g.slots_last ss x) k goes u = slots_before_goes ss _ (slot_goes x k goes) u

  finish_goes : (p : Spot) → Goes (Unit {0}) (s.finish l p)
  finish_goes p = sign symbol.End p quiet (λ c. []) tt (λ c r sound. record { fact = tt; bodied = tt })

  edit_bodied : (x : g.Edit) → AreSound (s.edit l x) → AreBodied (items_of (s.edit l x))
  edit_bodied (g.edit m q p) sound =
      (method_slot_goes m (λ u. placing (s.method_items m) (s.stopped l q (s.finish l p))) (λ u. put (s.method_items m) _ (method_bodied m) (stopped_goes q _ (finish_goes p))) (scope holder) (s.at_first 0) tt sound).bodied

-- No item of an edit's text closes an object.
pub edit_has_bodies : (l : Limits) (given : List Sign) (x : g.Edit) → IsText (s.edit l) given x → AreBodied (items_of (s.edit l x))
edit_has_bodies l given x h = edit_bodied l x h.1
