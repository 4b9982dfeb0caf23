-- Each place can be closed: what was written before it, what stands in it, and the rest are the marks of a text.
use Rattle.std.specs.Prelude.{◌≡◌, ◌==◌, not, true, Option, None, Some, [], List, ◌∷◌, refl}
use Rattle.std.proofs.Common.{ap, sym, ◌∙◌}
use Rattle.self_grammar.specs.declared.signs.Spot.{Spot}
use Rattle.self_grammar.specs.declared.signs.Symbol.TheVariants as sign
use Rattle.self_grammar.specs.declared.pieces.TextNode.TheVariants as nodes
use Rattle.self_grammar.specs.declared.pieces.SlotForm.TheVariants as form
use Rattle.self_grammar.specs.declared.pieces.Item.{Item}
use Rattle.self_grammar.specs.declared.pieces.Item.TheVariants as items
use Rattle.self_grammar.specs.declared.signs.ReadKind.TheVariants as kind
use Rattle.self_grammar.specs.declared.signs.Role.TheVariants.{Equals}
use Rattle.self_grammar.specs.Grammar as g
use Rattle.self_grammar.specs.Counts.{Limits, Event, Writer, write, quiet, closing, entering, telling, placing, owing, finishing, node, when, here}
use Rattle.self_grammar.specs.Scopes.{Scope, scope, holder, not_plain}
use Rattle.self_grammar.specs.Spelling as s
use Rattle.self_grammar.proofs.Settled.{name_scope, set_scope, before_settles, members_settles, head_settles}
use Rattle.self_grammar.proofs.Places.{Lists, in_world, in_bars, in_object, Start, listed, lone, Contents, undecided, coded, DataHole, assigned, parental, CodeHole, in_method, in_slotted, in_block, Hole, statement, returning, in_group, argument, OperandHole, alone, right, scope_of, start_scope, named_of, marks, o, zero_code}
use Rattle.self_grammar.proofs.Places as p

-- the item of a method slot
abbrev pub head_items : g.Head → List Item
head_items x = items.Slot (s.head_words x) form.Method (s.head_spot x) ∷ []

-- what follows, in the shortest way
abbrev mutual
  pub list_rest : Limits → Lists → Scope → Writer
  list_rest l (in_world ms) t = s.finish l o
  list_rest l (in_bars h q b ss) t =
      write l sign.Bar o (record quiet { broken = s.at_bar (named_of l h) t })
      (entering (telling (s.at_code (named_of l h) t) (s.code l zero_code (write l sign.CloseParen o (s.ending (g.full zero_code) o) (contents_rest l h)))))
  list_rest l (in_object h q b ss) t =
      write l sign.Bar o quiet
      (write l sign.CloseParen o (record closing { says = items.ClosedObject ∷ []; counted = q ∷ []; broken = when (not (t.arguments == 0)) (here kind.BadSyntax) }) (object_rest l h))

  pub start_rest : Limits → Start → Scope → Writer
  start_rest l (listed h) t = list_rest l h t
  start_rest l lone t = s.finish l o

  pub contents_rest : Limits → Contents → Writer
  contents_rest l (undecided h w e) = placing (head_items (g.unary_head w)) (list_rest l h (not_plain (name_scope l w (scope_of l h))))
  contents_rest l (coded h x e) = placing (head_items x) (start_rest l h (not_plain (named_of l (coded h x e)).around))

  pub object_rest : Limits → DataHole → Writer
  object_rest l (assigned h w a) = placing (s.slot_item w (form.Assignable w.setter) ∷ []) (list_rest l h (not_plain (set_scope l w (scope_of l h))))
  object_rest l (parental h w x e) = placing (s.slot_item w form.Parent ∷ []) (list_rest l h (not_plain (name_scope l w (scope_of l h))))

coded_step : (l : Limits) (h : Start) (x : g.Head) (e : g.Word) (m : g.Method) →
    p.contents l (coded h x e) (s.method l (named_of l (coded h x e)) m (contents_rest l (coded h x e)))
    ≡ p.start l h (s.method_slot l (g.method x e m) (λ t. placing (head_items x) (start_rest l h t)) (start_scope l h))
coded_step l h x e m =
    ap (λ (w : Writer). p.start l h w)
    (head_settles l x (λ n. s.mark l Equals e (record quiet { broken = n.broken }) (s.method l (named_of l (coded h x e)) m (contents_rest l (coded h x e)))) (start_scope l h)
    ∙ sym (head_settles l x (λ n. s.mark l Equals e (record quiet { broken = n.broken }) (s.method l n m (placing (head_items x) (start_rest l h (not_plain n.around))))) (start_scope l h)))

bars_step : (l : Limits) (h : Contents) (q b : Spot) (ss : g.SlotsBefore) (m : g.Member) →
    p.lists l (in_bars h q b ss) (s.member l m (λ t. placing (s.member_items m) (list_rest l (in_bars h q b ss) t)) (scope_of l (in_bars h q b ss)))
    ≡ p.contents l h (s.method l (named_of l h) (g.slotted_method q b (g.slots_last ss (g.member m)) o zero_code o) (contents_rest l h))
bars_step l h q b ss m =
    ap (λ w. p.contents l h (write l sign.OpenParen q (record (s.opening_item q) { next = s.wants_bar (named_of l h) }) (write l sign.Bar b quiet w)))
    (sym (before_settles l ss (s.member l m (λ t. placing (s.member_items m) (list_rest l (in_bars h q b ss) t))) (named_of l h).inner))

mutual
  pub member_law : (l : Limits) (h : Lists) (m : g.Member) → p.lists l h (s.member l m (λ t. placing (s.member_items m) (list_rest l h t)) (scope_of l h)) ≡ marks l (p.member_closing h m)
  member_law l (in_world ms) m = ap (λ (w : Writer). w (s.at_first 1)) (sym (members_settles l ms (s.member l m (λ t. placing (s.member_items m) (s.finish l o))) (scope holder)))
  member_law l (in_bars (undecided h w e) q b ss) m =
      bars_step l (undecided h w e) q b ss m
      ∙ member_law l h (g.coded (g.method (g.unary_head w) e (g.slotted_method q b (g.slots_last ss (g.member m)) o zero_code o)))
  member_law l (in_bars (coded h x e) q b ss) m =
      bars_step l (coded h x e) q b ss m
      ∙ coded_step l h x e (g.slotted_method q b (g.slots_last ss (g.member m)) o zero_code o)
      ∙ start_law l h (g.method x e (g.slotted_method q b (g.slots_last ss (g.member m)) o zero_code o))
  member_law l (in_object h q b ss) m =
      ap (λ w. p.data_hole l h (write l sign.OpenParen q (s.opening_item q) (write l sign.Bar b quiet w))) (sym (before_settles l ss (s.member l m (λ t. placing (s.member_items m) (list_rest l (in_object h q b ss) t))) (scope holder)))
      ∙ object_law l h (g.slotted_object q b (g.slots_last ss (g.member m)) o o)

  pub start_law : (l : Limits) (h : Start) (m : g.MethodSlot) → p.start l h (s.method_slot l m (λ t. placing (s.method_items m) (start_rest l h t)) (start_scope l h)) ≡ marks l (p.start_closing h m)
  start_law l (listed h) m = member_law l h (g.coded m)
  start_law l lone m = refl

  pub object_law : (l : Limits) (h : DataHole) (x : g.Object) → p.data_hole l h (s.object l holder x (object_rest l h)) ≡ marks l (p.datum_closing h (g.object x))
  object_law l (assigned h w a) x = member_law l h (g.assignable w a (g.object x))
  object_law l (parental h w y e) x = member_law l h (g.parent w y e (g.object x))

pub method_law : (l : Limits) (h : Contents) (m : g.Method) → p.contents l h (s.method l (named_of l h) m (contents_rest l h)) ≡ marks l (p.method_closing h m)
method_law l (undecided h w e) m = member_law l h (g.coded (g.method (g.unary_head w) e m))
method_law l (coded h x e) m = coded_step l h x e m ∙ start_law l h (g.method x e m)

-- Code, and what is open in it.
abbrev pub end_event : Option Spot → Event
end_event None = record closing { made = node o nodes.End ∷ []; says = items.ClosedBody ∷ []; leaves = true }
end_event (Some r) = record closing { says = items.ClosedBody ∷ []; leaves = true }

abbrev mutual
  pub code_rest : Limits → CodeHole → Option Spot → Writer
  code_rest l (in_method h q) r = write l sign.CloseParen o (end_event r) (contents_rest l h)
  code_rest l (in_slotted h q b ss b2) r = write l sign.CloseParen o (end_event r) (contents_rest l h)
  code_rest l (in_block h q bs) r = write l sign.CloseBracket o (end_event r) (operand_rest l h)

  pub rest : Limits → Hole → Writer
  rest l (statement h ss) = code_rest l h None
  rest l (returning h ss q) = owing (node q nodes.Return) (code_rest l h (Some q))
  rest l (in_group h q) = write l sign.CloseParen o closing (operand_rest l h)
  rest l (argument h m) = owing (s.message_node m) (finishing (rest l h))

  pub operand_rest : Limits → OperandHole → Writer
  operand_rest l (alone h) = rest l h
  operand_rest l (right h n r us) = owing (s.operator_node n us) (rest l h)

mutual
  pub code_law : (l : Limits) (h : CodeHole) (ss : g.Statements) (r : Option Spot) (e : g.Expression) →
      p.code_said l h (s.code l (g.code ss r e None) (code_rest l h r)) ≡ marks l (p.code_closing h (g.code ss r e None))
  code_law l (in_method h q) ss None e = method_law l h (g.bare_method q (g.code ss None e None) o)
  code_law l (in_method h q) ss (Some r) e = method_law l h (g.bare_method q (g.code ss (Some r) e None) o)
  code_law l (in_slotted h q b sl b2) ss None e = method_law l h (g.slotted_method q b sl b2 (g.code ss None e None) o)
  code_law l (in_slotted h q b sl b2) ss (Some r) e = method_law l h (g.slotted_method q b sl b2 (g.code ss (Some r) e None) o)
  code_law l (in_block h q bs) ss None e = operand_law l h (g.block q bs (g.full (g.code ss None e None)) o)
  code_law l (in_block h q bs) ss (Some r) e = operand_law l h (g.block q bs (g.full (g.code ss (Some r) e None)) o)

  pub expression_law : (l : Limits) (h : Hole) (e : g.Expression) → p.said l h (s.expression l e (rest l h)) ≡ marks l (p.closing h e)
  expression_law l (statement h ss) e = code_law l h ss None e
  expression_law l (returning h ss q) e = code_law l h ss (Some q) e
  expression_law l (in_group h q) e = operand_law l h (g.group q e o)
  expression_law l (argument h m) e = expression_law l h (g.keyed m e)

  pub operand_law : (l : Limits) (h : OperandHole) (u : g.Unary) → p.operand_said l h (s.unary l u (operand_rest l h)) ≡ marks l (p.operand_closing h u)
  operand_law l (alone h) u = expression_law l h (g.plain (g.single u))
  operand_law l (right h n r us) u = expression_law l h (g.plain (g.several n r us u))
