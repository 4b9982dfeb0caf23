-- The grammar's one-hole contexts: what has been read of a text, up to a place where a part of some kind is wanted.
-- Each is spelled before what stands in it (`said`), and each can be closed to a text, whatever stands in it.
use Rattle.std.specs.Prelude.{ℕ, true, None, Some, pos, List, [], ◌∷◌}
use Rattle.self_grammar.specs.declared.signs.Spot.{Spot}
use Rattle.self_grammar.specs.declared.signs.Role.{Role}
use Rattle.self_grammar.specs.declared.signs.Role.TheVariants.{Equals, Star}
use Rattle.self_grammar.specs.declared.signs.Symbol.TheVariants as sign
use Rattle.self_grammar.specs.declared.pieces.TextNode.TheVariants as nodes
use Rattle.self_grammar.specs.declared.pieces.Item.TheVariants as items
use Rattle.self_grammar.specs.Grammar as g
use Rattle.self_grammar.specs.Counts.{Limits, Mark, Event, Writer, write, quiet, opening, makes, entering, telling}
use Rattle.self_grammar.specs.Scopes.{Scope, scope, holder}
use Rattle.self_grammar.specs.Spelling as s
use Rattle.self_grammar.proofs.Settled.{name_scope, set_scope, head_named, before_scope, members_scope}

-- a text of one kind or the other
pub data Text : Type 0 where
  world : g.World → Text
  edit : g.Edit → Text

abbrev pub marks : Limits → Text → List Mark
marks l (world t) = s.world l t
marks l (edit t) = s.edit l t

mutual
  -- a slot is wanted in a list
  pub data Lists : Type 0 where
    in_world : g.MembersBefore → Lists
    in_bars : Contents → Spot → Spot → g.SlotsBefore → Lists
    in_object : DataHole → Spot → Spot → g.SlotsBefore → Lists

  -- a method slot is wanted: one of a list, or that of an edit
  pub data Start : Type 0 where
    listed : Lists → Start
    lone : Start

  -- what stands behind '=' is wanted: what may yet be an object or a method, or surely a method
  pub data Contents : Type 0 where
    undecided : Lists → g.Label → g.Word → Contents
    coded : Start → g.Head → g.Word → Contents

  -- what surely is no method is wanted
  pub data DataHole : Type 0 where
    assigned : Lists → g.Label → g.Word → DataHole
    parental : Lists → g.Label → g.Word → g.Word → DataHole

mutual
  -- code is wanted
  pub data CodeHole : Type 0 where
    in_method : Contents → Spot → CodeHole
    in_slotted : Contents → Spot → Spot → g.Slots → Spot → CodeHole
    in_block : OperandHole → Spot → g.Bars → CodeHole

  -- an expression is wanted
  pub data Hole : Type 0 where
    statement : CodeHole → g.Statements → Hole
    returning : CodeHole → g.Statements → Spot → Hole
    in_group : OperandHole → Spot → Hole
    argument : Hole → g.Message → Hole

  -- a unary is wanted
  pub data OperandHole : Type 0 where
    alone : Hole → OperandHole
    right : Hole → ℕ → Role → g.Operands → OperandHole

-- What is known before what stands in a hole: the scope of its list, or what the name of its slot tells.
abbrev mutual
  pub scope_of : Limits → Lists → Scope
  scope_of l (in_world ms) = members_scope l ms (scope holder)
  scope_of l (in_bars h p b ss) = before_scope l ss (named_of l h).inner
  scope_of l (in_object h p b ss) = before_scope l ss (scope holder)

  pub start_scope : Limits → Start → Scope
  start_scope l (listed h) = scope_of l h
  start_scope l lone = scope holder

  pub named_of : Limits → Contents → s.Named
  named_of l (undecided h w e) = head_named l (g.unary_head w) (scope_of l h)
  named_of l (coded h x e) = head_named l x (start_scope l h)

abbrev pub data_scope : Limits → DataHole → Scope
data_scope l (assigned h w a) = set_scope l w (scope_of l h)
data_scope l (parental h w x e) = name_scope l w (scope_of l h)

-- the bracket of a block
abbrev pub block_opening : Spot → Event
block_opening p = record (makes p nodes.Block) { says = items.Opened p ∷ []; opens = true }

-- What was written before a hole, and then the rest.
abbrev mutual
  pub lists : Limits → Lists → Writer → List Mark
  lists l (in_world ms) k = s.members_before l ms (λ t. k) (scope holder) (s.at_first 1)
  lists l (in_bars h p b ss) k =
      contents l h (write l sign.OpenParen p (record (s.opening_item p) { next = s.wants_bar (named_of l h) }) (write l sign.Bar b quiet (s.slots_before l ss (λ t. k) (named_of l h).inner)))
  lists l (in_object h p b ss) k = data_hole l h (write l sign.OpenParen p (s.opening_item p) (write l sign.Bar b quiet (s.slots_before l ss (λ t. k) (scope holder))))

  pub start : Limits → Start → Writer → List Mark
  start l (listed h) k = lists l h k
  start l lone k = k (s.at_first 0)

  pub contents : Limits → Contents → Writer → List Mark
  contents l (undecided h w e) k = lists l h (s.slot_name l w (λ t. s.mark l Equals e quiet k) (scope_of l h))
  contents l (coded h x e) k = start l h (s.head l x (λ n. s.mark l Equals e (record quiet { broken = n.broken }) k) (start_scope l h))

  pub data_hole : Limits → DataHole → Writer → List Mark
  data_hole l (assigned h w a) k = lists l h (s.slot_name l w (s.arrow l w a (λ t. k)) (scope_of l h))
  data_hole l (parental h w x e) k = lists l h (s.slot_name l w (λ t. s.mark l Star x quiet (s.mark l Equals e quiet k)) (scope_of l h))

abbrev mutual
  pub code_said : Limits → CodeHole → Writer → List Mark
  code_said l (in_method h p) k = contents l h (write l sign.OpenParen p (record (s.opening_item p) { next = s.wants_bar (named_of l h) }) (entering k))
  code_said l (in_slotted h p b ss b2) k =
      contents l h (write l sign.OpenParen p (record (s.opening_item p) { next = s.wants_bar (named_of l h) })
      (write l sign.Bar b quiet (s.slots l ss (λ t. write l sign.Bar b2 (record quiet { broken = s.at_bar (named_of l h) t }) (entering (telling (s.at_code (named_of l h) t) k))) (named_of l h).inner)))
  code_said l (in_block h p bs) k = operand_said l h (write l sign.OpenBracket p (block_opening p) (entering (s.bars l bs k)))

  pub said : Limits → Hole → Writer → List Mark
  said l (statement h ss) k = code_said l h (s.statements l ss k)
  said l (returning h ss p) k = code_said l h (s.statements l ss (write l sign.Caret p quiet k))
  said l (in_group h p) k = operand_said l h (write l sign.OpenParen p opening k)
  said l (argument h m) k = said l h (s.message l m k)

  pub operand_said : Limits → OperandHole → Writer → List Mark
  operand_said l (alone h) k = said l h k
  operand_said l (right h o r us) k = said l h (s.operands l o r us k)

-- The shortest way to close what is open; the places are of no matter.
abbrev pub o : Spot
o = record { line = 0; column = 0 }

abbrev pub zero_code : g.Code
zero_code = g.code g.none None (g.plain (g.single (g.int (pos 0) o))) None

abbrev mutual
  pub member_closing : Lists → g.Member → Text
  member_closing (in_world ms) m = world (g.world_last ms m o)
  member_closing (in_bars h p b ss) m = bars_closing h p b (g.slots_last ss (g.member m))
  member_closing (in_object h p b ss) m = datum_closing h (g.object (g.slotted_object p b (g.slots_last ss (g.member m)) o o))

  pub bars_closing : Contents → Spot → Spot → g.Slots → Text
  bars_closing (undecided h w e) p b ss = member_closing h (g.coded (g.method (g.unary_head w) e (g.slotted_method p b ss o zero_code o)))
  bars_closing (coded h x e) p b ss = start_closing h (g.method x e (g.slotted_method p b ss o zero_code o))

  pub start_closing : Start → g.MethodSlot → Text
  start_closing (listed h) m = member_closing h (g.coded m)
  start_closing lone m = edit (g.edit m None o)

  pub datum_closing : DataHole → g.Datum → Text
  datum_closing (assigned h w a) d = member_closing h (g.assignable w a d)
  datum_closing (parental h w x e) d = member_closing h (g.parent w x e d)

abbrev pub method_closing : Contents → g.Method → Text
method_closing (undecided h w e) m = member_closing h (g.coded (g.method (g.unary_head w) e m))
method_closing (coded h x e) m = start_closing h (g.method x e m)

abbrev mutual
  pub code_closing : CodeHole → g.Code → Text
  code_closing (in_method h p) c = method_closing h (g.bare_method p c o)
  code_closing (in_slotted h p b ss b2) c = method_closing h (g.slotted_method p b ss b2 c o)
  code_closing (in_block h p bs) c = operand_closing h (g.block p bs (g.full c) o)

  pub closing : Hole → g.Expression → Text
  closing (statement h ss) e = code_closing h (g.code ss None e None)
  closing (returning h ss p) e = code_closing h (g.code ss (Some p) e None)
  closing (in_group h p) e = operand_closing h (g.group p e o)
  closing (argument h m) e = closing h (g.keyed m e)

  pub operand_closing : OperandHole → g.Unary → Text
  operand_closing (alone h) u = closing h (g.plain (g.single u))
  operand_closing (right h p r us) u = closing h (g.plain (g.several p r us u))
