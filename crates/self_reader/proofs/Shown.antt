-- The code's state at a place of the grammar: where the next sign stands, and the frames around it, innermost first.
use Rattle.std.specs.Prelude.{◌≡◌, ℕ, Bool, true, false, Option, None, Some, List, [], ◌∷◌}
use Rattle.self_grammar.specs.Grammar as g
use Rattle.self_grammar.specs.Counts.{Limits, Context}
use Rattle.self_grammar.specs.Scopes.{Scope, scope, activation, holder}
use Rattle.self_grammar.specs.Spelling as s
use Rattle.self_grammar.specs.declared.pieces.Item.{Item}
use Rattle.self_grammar.specs.declared.pieces.Item.TheVariants as items
use Rattle.self_grammar.specs.declared.pieces.SlotForm.TheVariants as form
use Rattle.self_grammar.proofs.Settled.{name_scope, set_scope, keyword_scope, head_inner, head_named, operator_scope, member_scope, slot_scope, slots_scope, local_scope, argument_scope}
use Rattle.self_grammar.proofs.Places as p
use Rattle.self_grammar.proofs.Moves as m
use Rattle.reader_states.specs.declared.frames.Label.{Label}
use Rattle.reader_states.specs.declared.frames.Heading.{Heading}
use Rattle.reader_states.specs.declared.frames.Message.{Message}
use Rattle.reader_states.specs.declared.frames.Frame.{Frame}
use Rattle.reader_states.specs.declared.frames.Frame.TheVariants as f
use Rattle.reader_states.specs.declared.frames.At.{At}
use Rattle.reader_states.specs.declared.frames.At.TheVariants as at
use Rattle.reader_states.specs.declared.frames.AtArgument.TheVariants as argued
use Rattle.reader_states.specs.declared.frames.AtCode.TheVariants as in_code
use Rattle.reader_states.specs.declared.frames.AtContents.TheVariants as in_contents
use Rattle.reader_states.specs.declared.frames.AtData.TheVariants as in_data
use Rattle.reader_states.specs.declared.frames.AtEnd.TheVariants as end
use Rattle.reader_states.specs.declared.frames.AtLocal.TheVariants as local
use Rattle.reader_states.specs.declared.frames.AtName.TheVariants as name
use Rattle.reader_states.specs.declared.frames.Body.TheVariants as body
use Rattle.reader_states.specs.declared.frames.Contents.TheVariants as held
use Rattle.reader_states.specs.declared.frames.Expression.TheVariants as expression
use Rattle.reader_states.specs.declared.frames.Holder.TheVariants as list_of
use Rattle.reader_states.specs.declared.frames.Slots.TheVariants as slots
use Rattle.reader_states.specs.Turns.{Turn, after}

abbrev pub label_in : g.Label → Label
label_in w = record { name = w.name; setter = w.setter; spot = w.spot }

abbrev pub wanted : g.Head → ℕ
wanted (g.unary_head w) = 0
wanted (g.operator_with o a) = 1
wanted (g.operator o) = 1
wanted (g.keyword_with n) = s.count (s.head_name n)
wanted (g.keyword n) = s.count n

abbrev pub heading_in : g.Head → Heading
heading_in h = record { words = s.head_words h; wanted = wanted h; spot = s.head_spot h }

abbrev pub keyword_heading : g.KeywordName → Heading
keyword_heading n = record { words = s.words n; wanted = s.count n; spot = s.first_word n }

abbrev pub message_in : g.Message → Message
message_in m = record {
  to = s.message_target m;
  words = s.message_words m;
  base = s.message_base m;
  handled = s.ends_handled m;
  spot = s.message_spot m;
}

-- a list, by what is known of it where the next sign stands
abbrev mutual
  pub lists : Limits → p.Lists → Scope → List Frame
  lists l (p.in_world ms) t = f.Slots (slots.List list_of.World t) ∷ []
  lists l (p.in_bars h q b ss) t = f.Slots (slots.List (list_of.Bars q) t) ∷ contents l h
  lists l (p.in_object h q b ss) t = f.Slots (slots.List (list_of.Object q) t) ∷ data_frames l h

  pub start : Limits → p.Start → Scope → List Frame
  start l (p.listed h) t = lists l h t
  start l p.lone t = f.Slots slots.Edit ∷ []

  pub contents : Limits → p.Contents → List Frame
  contents l (p.undecided h w e) = f.Slot (held.Undecided (label_in w)) ∷ lists l h (name_scope l w (p.scope_of l h))
  contents l (p.coded h x e) = f.Slot (held.Coded (heading_in x)) ∷ start l h (head_named l x (p.start_scope l h)).around

  pub data_frames : Limits → p.DataHole → List Frame
  data_frames l (p.assigned h w a) = f.Slot (held.Assigned (label_in w)) ∷ lists l h (set_scope l w (p.scope_of l h))
  data_frames l (p.parental h w x e) = f.Slot (held.Parental (label_in w)) ∷ lists l h (name_scope l w (p.scope_of l h))

abbrev pub is_later : g.Statements → Bool
is_later g.none = false
is_later (g.more ss e q) = true

abbrev pub is_barred : g.Bars → Bool
is_barred g.absent = false
is_barred (g.present q ws r) = true

abbrev mutual
  pub code : Limits → p.CodeHole → List Frame
  code l (p.in_method h q) = f.Body body.Method ∷ contents l h
  code l (p.in_slotted h q b ss b2) = f.Body body.Method ∷ contents l h
  code l (p.in_block h q bs) = f.Body (body.Block (is_barred bs)) ∷ operand l h

  pub hole : Limits → p.Hole → List Frame
  hole l (p.statement h ss) = f.Expression (expression.Statement (is_later ss)) ∷ code l h
  hole l (p.returning h ss q) = f.Expression (expression.Returning q) ∷ code l h
  hole l (p.in_group h q) = f.Expression expression.Group ∷ operand l h
  hole l (p.argument h m) = f.Argument (message_in m) ∷ hole l h

  pub operand : Limits → p.OperandHole → List Frame
  operand l (p.alone h) = hole l h
  operand l (p.right h o r us) = f.Right (record { operator = o; role = r; made = s.operator_node o us }) ∷ hole l h

-- what a slot ends with, and whether a path may go on
abbrev pub ends_with_path : g.Simple → Bool
ends_with_path (g.integer z q) = false
ends_with_path (g.string t) = false
ends_with_path (g.path q) = true

abbrev pub datum_goes_on : g.Datum → Bool
datum_goes_on (g.simple d) = ends_with_path d
datum_goes_on (g.object x) = false

abbrev pub member_goes_on : g.Member → Bool
member_goes_on (g.constant w e d) = datum_goes_on d
member_goes_on (g.assignable w a d) = datum_goes_on d
member_goes_on (g.bare w) = false
member_goes_on (g.parent w x e d) = datum_goes_on d
member_goes_on (g.coded m) = false

abbrev pub member_item : g.Member → Item
member_item (g.constant w e d) = s.slot_item w form.Constant
member_item (g.assignable w a d) = s.slot_item w (form.Assignable w.setter)
member_item (g.bare w) = s.slot_item w (form.Bare w.setter)
member_item (g.parent w x e d) = s.slot_item w form.Parent
member_item (g.coded (g.method h e m)) = items.Slot (s.head_words h) form.Method (s.head_spot h)

abbrev pub local_item : g.Local → Option Item
local_item (g.local_argument w) = None
local_item (g.local_bare w) = Some (s.slot_item w (form.Bare w.setter))
local_item (g.local_assignable w a d) = Some (s.slot_item w (form.Assignable w.setter))
local_item (g.local_constant w e d) = Some (s.slot_item w form.Constant)

abbrev pub local_goes_on : g.Local → Bool
local_goes_on (g.local_argument w) = false
local_goes_on (g.local_bare w) = false
local_goes_on (g.local_assignable w a d) = ends_with_path d
local_goes_on (g.local_constant w e d) = ends_with_path d

-- the scope of a list with one member more
abbrev pub listed_scope : Limits → p.Lists → g.Slot → Scope
listed_scope l h x = slot_scope l x (p.scope_of l h)

pub record Stand : Type 0 where
  pub at : At
  pub frames : List Frame

abbrev pub stand : At → List Frame → Stand
stand a fs = record { at = a; frames = fs }

-- the frames of the slots of a block
abbrev pub block : Limits → p.OperandHole → Scope → List Frame
block l h t = f.Locals t ∷ f.Body (body.Block false) ∷ operand l h

abbrev pub shown : Limits → m.Place → Stand
shown l (m.wanting h) = stand (at.Code in_code.Wanting) (operand l h)
shown l (m.having h u) = stand (at.Code in_code.Having) (operand l h)
shown l (m.delegated h d) = stand (at.Code (in_code.Delegated (s.delegate_target d) (s.delegate_spot d))) (operand l h)
shown l (m.ended h ss q e d) = stand (at.Code in_code.Ended) (code l h)
shown l (m.behind h x) = stand (at.Behind end.Method) (contents l h)
shown l (m.at_slot h) = stand (at.Name name.Slot) (start l h (p.start_scope l h))
shown l (m.named h w) = stand (at.Name (name.Named (label_in w))) (start l h (name_scope l w (p.start_scope l h)))
shown l (m.starred h w x) = stand (at.Name (name.Starred (label_in w))) (lists l h (name_scope l w (p.scope_of l h)))
shown l (m.operator_named h o) = stand (at.Name (name.Operator o.word.name o.word.spot)) (start l h (operator_scope l o (p.start_scope l h)))
shown l (m.operator_argued h o a) =
    stand (at.Argued (argued.Operator o.word.name o.word.spot) (argument_scope a (scope activation))) (start l h (operator_scope l o (p.start_scope l h)))
shown l (m.keyword_named h n) = stand (at.Name (name.Keyword (keyword_heading n))) (start l h (keyword_scope l n (p.start_scope l h)))
shown l (m.keyword_argued h n) =
    stand (at.Argued (argued.Keyword (keyword_heading (s.head_name n))) (head_inner n)) (start l h (keyword_scope l (s.head_name n) (p.start_scope l h)))
shown l (m.keyword_wanting h n q) =
    stand (at.Argued (argued.Wanting (keyword_heading (g.keyword_next (s.head_name n) q))) (head_inner n)) (start l h (keyword_scope l (s.head_name n) (p.start_scope l h)))
shown l (m.holding h) = stand (at.Contents in_contents.Wanted (p.named_of l h).inner) (contents l h)
shown l (m.data_wanted h) = stand (at.Data in_data.Wanted) (data_frames l h)
shown l (m.opened h q) = stand (at.Contents (in_contents.Opened q) (p.named_of l h).inner) (contents l h)
shown l (m.data_opened h q) = stand (at.Data (in_data.Opened q)) (data_frames l h)
shown l (m.shut h q b ss b2) = stand (at.Contents (in_contents.Shut q) (slots_scope l ss (p.named_of l h).inner)) (contents l h)
shown l (m.data_shut h q b ss b2) = stand (at.Contents (in_contents.DataShut q) (slots_scope l ss (scope holder))) (data_frames l h)
shown l (m.member_done h x) = stand (at.Behind (end.Member (member_item x) (member_goes_on x))) (lists l h (member_scope l x (p.scope_of l h)))
shown l (m.argument_done h w) = stand (at.Behind end.Argument) (lists l h (argument_scope w (p.scope_of l h)))
shown l (m.lone_stopped y e x d) = stand (at.Behind end.Edit) (f.Slots slots.Edit ∷ [])
shown l (m.at_local h q b ws) = stand (at.Local local.Slot) (block l h (m.block_scope l ws))
shown l (m.local_named h q b ws w) = stand (at.Local (local.Named (label_in w))) (block l h (name_scope l w (m.block_scope l ws)))
shown l (m.local_equals h q b ws w e) = stand (at.Local (local.Equals (label_in w))) (block l h (name_scope l w (m.block_scope l ws)))
shown l (m.local_arrow h q b ws w a) = stand (at.Local (local.Arrow (label_in w))) (block l h (set_scope l w (m.block_scope l ws)))
shown l (m.local_done h q b ws x) = stand (at.Local (local.Done (local_item x) (local_goes_on x))) (block l h (local_scope l x (m.block_scope l ws)))
shown l (m.finished t) = stand at.Finished []

-- The code's turn is the grammar's move.
abbrev pub Follows : Limits → Context → Option Turn → Option m.Move → Type 0
Follows l c None None = Unit {0}
Follows l c None (Some v) = ⊥
Follows l c (Some t) None = ⊥
Follows l c (Some t) (Some v) =
    (t.counts ≡ v.pre c) × (t.event ≡ v.event) × ((d : Context) → after t.post d ≡ v.post d) × (stand t.at t.frames ≡ shown l v.to)
